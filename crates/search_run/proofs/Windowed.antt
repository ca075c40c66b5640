-- How a search of windows ends: what refuses its files (`long_refused`), and what was written of its text (`chosen_done`,
-- `chosen_stopped`).
use Rattle.std.proofs.Common.{◌≡◌, ℕ, ◌*◌, ◌<◌, List, Option, None, inl, ⊎_elim, length, take, arith, ap, ◌∙◌}
use Rattle.std.specs.Prelude.{ℤ, Result, Ok, Err, IfErr, OnOk}
use Rattle.std.specs.Io.KnownBytes.{append_known}
use Rattle.command_words.specs.Options.{windows_needed}
use Rattle.command_words.specs.declared.options.Options.{Options}
use Rattle.series_core.specs.Collection.{Collection}
use Rattle.series_core.specs.Flat.{joined}
use Rattle.series_file.specs.Format.{HasText}
use Rattle.series_file.specs.declared.error.Form.TheVariants.{Raw}
use Rattle.series_file.specs.declared.error.Loaded.{Loaded}
use Rattle.series_file.proofs.ReadBack.{length-joined}
use Rattle.search_run.specs.Batches.{AppendsTold, IsTold}
use Rattle.search_run.specs.Loads.{form_of}
use Rattle.search_run.specs.Plans.{Divide, Plan, Refuses}
use Rattle.search_run.specs.Stops.{Stops}
use Rattle.search_run.specs.Texts.{IsTextOf, query_text}
use Rattle.search_run.specs.Traffic.{Reading, Writing}
use Rattle.search_run.specs.Windows.{AppendsChoices, HasFew, IsChoice, long_plan, nothing_behind}
use Rattle.window_rows.proofs.Enough.{nearest_enough}
use Rattle.search_run.proofs.Both.{loads_refused}
use Rattle.search_run.proofs.Pieces.{text_map}
use Rattle.search_run.proofs.Stops.{by_stop}
use Rattle.search_run.specs.declared.answers.Telling.TheVariants.{Apart}
use Rattle.search_run.specs.declared.status.Status.{Status}

-- values alone, one a series, are no more than a collection may have series
pub few_alone : (x : Loaded) → HasText (Raw 1) x.rows x.labels → HasFew x
few_alone x fits =
    let size : length (joined x.rows.series) ≡ length x.rows.series * x.rows.points =
    length-joined x.rows.points x.rows.series fits.sound.each in
    let each_one : length x.rows.series * x.rows.points ≡ length x.rows.series * 1 =
    ap (λ n. length x.rows.series * n) fits.fits.0 in
    omega (arith, size, each_one, fits.sound.count_limit)

-- what refuses the two files and the segments refuses whatever comes behind them
pub long_refused : (reading : Reading) (series queries : List ℕ) (o : Options) (then_ : Loaded → Loaded → Plan)
    (status : Status) → Refuses reading (long_plan series queries o nothing_behind) status
    → Refuses reading (long_plan series queries o then_) status
long_refused reading series queries o then_ status =
    loads_refused reading series queries (Raw 1) (form_of o.raw)
    (λ x y. Divide o.segments y.rows.points (nothing_behind x y))
    (λ x y. Divide o.segments y.rows.points (then_ x y)) status
    (λ x y. ⊎_elim (λ z. inl z) (λ z. absurd z.1))

-- pieces of one kind that were not all written are of another
stops_map : (P Q : ℕ → List ℤ → List ℕ → Type 0)
    → ((i : ℕ) (q : List ℤ) (piece : List ℕ) → P i q piece → Q i q piece)
    → (qs : List (List ℤ)) (writing : Writing) (stop : Status) → Stops P qs writing stop → Stops Q qs writing stop
stops_map P Q each qs writing =
    by_stop P qs writing (Stops Q qs writing)
    (λ x. (x.0, x.1, text_map P Q each 0 (take x.0 qs) x.1 x.2, x.3, x.4, x.5))
    (λ x. (x.0, x.1, text_map P Q each 0 (take x.0 qs) x.1 x.2, x.3))

-- pieces of one kind that were all written are of another
done_map : (P Q : ℕ → List ℤ → List ℕ → Type 0)
    → ((i : ℕ) (q : List ℤ) (piece : List ℕ) → P i q piece → Q i q piece)
    → (qs : List (List ℤ)) (before now : Option (List ℕ)) (ended : Result (Unit {0}) Status)
    → OnOk ended ((text : List ℕ) × IsTextOf P qs text × (now ≡ append_known before text))
    → OnOk ended ((text : List ℕ) × IsTextOf Q qs text × (now ≡ append_known before text))
done_map P Q each qs before now (Ok u) x = (x.0, text_map P Q each 0 qs x.0 x.1, x.2)
done_map P Q each qs before now (Err e) x = tt

-- and pieces of one kind that were not
stopped_map : (P Q : ℕ → List ℤ → List ℕ → Type 0)
    → ((i : ℕ) (q : List ℤ) (piece : List ℕ) → P i q piece → Q i q piece)
    → (qs : List (List ℤ)) (writing : Writing) (ended : Result (Unit {0}) Status)
    → IfErr ended (Stops P qs writing) → IfErr ended (Stops Q qs writing)
stopped_map P Q each qs writing (Ok u) x = tt
stopped_map P Q each qs writing (Err stop) x = stops_map P Q each qs writing stop x

-- what is written of as many of the nearest as are needed has those that are chosen from all
told_chosen : (o : Options) → 0 < o.apart → (c : Collection) (i : ℕ) (query : List ℤ) (piece : List ℕ)
    → IsTold (Apart o.apart o.k) c (windows_needed o) i query piece → IsChoice o c i query piece
told_chosen o some c i query piece is =
    is ∙ ap (query_text None i) (nearest_enough o.apart o.k (windows_needed o) c query some (omega arith))

-- so a text of such pieces is one of chosen windows
pub chosen_done : (o : Options) → 0 < o.apart → (c : Collection) (qs : List (List ℤ)) (before now : Option (List ℕ))
    (ended : Result (Unit {0}) Status) → OnOk ended (AppendsTold (Apart o.apart o.k) c (windows_needed o) qs before now)
    → OnOk ended (AppendsChoices o c qs before now)
chosen_done o some c =
    done_map (IsTold (Apart o.apart o.k) c (windows_needed o)) (IsChoice o c) (told_chosen o some c)

-- and where they were not all written, a beginning of one
pub chosen_stopped : (o : Options) → 0 < o.apart → (c : Collection) (qs : List (List ℤ)) (writing : Writing)
    (ended : Result (Unit {0}) Status) → IfErr ended (Stops (IsTold (Apart o.apart o.k) c (windows_needed o)) qs writing)
    → IfErr ended (Stops (IsChoice o c) qs writing)
chosen_stopped o some c =
    stopped_map (IsTold (Apart o.apart o.k) c (windows_needed o)) (IsChoice o c) (told_chosen o some c)
