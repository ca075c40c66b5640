-- A search whose pieces are made call by call ends as one whose pieces have what is found (`search_concludes`).
use Rattle.std.proofs.Common.{◌≡◌, ℕ, ◌++◌, List, inr, sym, ap, subst, ◌∙◌, refl, take}
use Rattle.std.specs.Prelude.{ℤ, Result, Ok, IfOk}
use Rattle.std.specs.Borrow.{Bor}
use Rattle.std.specs.Global.{Vec}
use Rattle.outside.specs.declared.faults.NoMemory.{NoMemory as NoMemoryLeft}
use Rattle.command_words.specs.declared.options.Options.{Options}
use Rattle.std.specs.List.{All}
use Rattle.segment_sums.specs.Division.{IsDivision}
use Rattle.series_core.specs.Collection.{IsCollection, IsSeries}
use Rattle.series_file.specs.Format.{HasText}
use Rattle.series_file.specs.declared.error.Form.{Form}
use Rattle.series_file.specs.declared.error.Loaded.{Loaded}
use Rattle.subtree_build.specs.Index.{IsIndex}
use Rattle.search_run.specs.Commands.{pieces_plan, pieces_rest}
use Rattle.std.specs.Io.KnownBytes.{append_known}
use Rattle.search_run.specs.Ends.{Concludes, WroteNothing}
use Rattle.search_run.specs.Finding.{EndsMaking, IsBuiltOf, IsSearchBase, IsMadeOver, IsTreeFor, begun_plan, made_plan}
use Rattle.search_run.specs.Layouts.{settings_of}
use Rattle.search_run.specs.Loads.{form_of}
use Rattle.search_run.specs.Pairs.{Fit, files_plan}
use Rattle.search_run.specs.Plans.{Refuses, Writes}
use Rattle.search_run.specs.Stops.{Stops}
use Rattle.search_run.specs.Texts.{Call, IsMade, IsTextOf}
use Rattle.search_run.specs.Traffic.{Reading, Writing}
use Rattle.search_run.proofs.Both.{files_refused}
use Rattle.search_run.proofs.Concluding.{concludes_map, refusal_concludes}
use Rattle.search_run.proofs.Pieces.{text_finish, text_map}
use Rattle.search_run.proofs.Stops.{by_stop}
use Rattle.search_run.specs.declared.commands.search.SearchBase.{SearchBase}
use Rattle.search_run.specs.declared.status.Status.{Status}
use Rattle.search_run.specs.declared.status.Status.TheVariants.{Done}

-- a tree that was built of the series is one that a search under these options goes over
pub is_search_base : (o : Options) (base : SearchBase) → IsTreeFor base.series.rows base.tree → IsBuiltOf base.series.rows base.tree
    → base.tree.settings ≡ settings_of base.series.rows.points o → IsIndex base.tree.index
    → IsDivision base.tree.settings.layout.cuts → IsSearchBase o base
is_search_base o base fits built settings index cuts =
    record { searched = fits; built = built; settings = settings; index = index; cuts = cuts }

-- a search whose files were refused ends so
pub search_refused : (Gives : Call SearchBase) (reading : Reading) (writing : Writing) (series queries : List ℕ)
    (o : Options) (status : Status) → Refuses reading (files_plan series queries o) status → WroteNothing writing
    → EndsMaking Gives reading writing series queries o status
search_refused Gives reading writing series queries o status refused nothing = record {
  ends = refusal_concludes (Writes reading.held (made_plan Gives series queries o))
      (Writes reading.held (begun_plan Gives series queries o)) reading (files_plan series queries o) writing status
      refused nothing;
}

-- a search of these files, whose pieces were not written to the end, ends so
pub search_stopped : (Gives : Call SearchBase) (reading : Reading) (writing : Writing) (series queries : List ℕ)
    (o : Options) (base : SearchBase) → IsSearchBase o base → (y : Loaded) → Fit reading.held series queries o base.series y
    → (stop : Status) → Stops (IsMade Gives base) y.rows.series writing stop
    → EndsMaking Gives reading writing series queries o stop
search_stopped Gives reading writing series queries o base over y fit =
    by_stop (IsMade Gives base) y.rows.series writing (EndsMaking Gives reading writing series queries o)
    (λ x. record { ends = (x.1, begins x.0 x.1 x.2, x.3, x.4, x.5) })
    (λ x. record { ends = inr (x.1, begins x.0 x.1 x.2, x.3) })
  where
    begins : (n : ℕ) (text : List ℕ) → IsTextOf (IsMade Gives base) (take n y.rows.series) text
        → Writes reading.held (begun_plan Gives series queries o) text
    begins n text is =
        (base.series, fit.hold.first, (y, fit.hold.second, (fit.lengths, (fit.segments, (n, (base, over, refl, is))))))

-- a search of these files, whose pieces were all written, is done
pub search_done : (Gives : Call SearchBase) (reading : Reading) (writing : Writing) (series queries : List ℕ)
    (o : Options) (base : SearchBase) → IsSearchBase o base → (y : Loaded) → Fit reading.held series queries o base.series y
    → (text : List ℕ) → IsTextOf (IsMade Gives base) y.rows.series text
    → writing.now ≡ append_known writing.before text
    → EndsMaking Gives reading writing series queries o Done
search_done Gives reading writing series queries o base over y fit text is wrote = record {
  ends = (
    text,
    (base.series, fit.hold.first, (y, fit.hold.second, (fit.lengths, (fit.segments, (base, over, refl, is))))),
    wrote,
  );
}

-- what a piece of query i is, over these series
abbrev pub PieceOver : Type 1
PieceOver = Loaded → ℕ → List ℤ → List ℕ → Type 0

-- what each call gives is such a piece
abbrev pub GivesPieces : Call SearchBase → PieceOver → Type 0
GivesPieces Gives IsPiece = (at : Bor SearchBase) (i : ℕ) (q : Bor (List ℤ)) (made : Result (Vec ℕ) NoMemoryLeft)
    → Gives at i q made → IfOk made (λ text. IsPiece at.now.series i q.now text.items)

-- there is such a piece for each query, over whatever is searched
abbrev pub HasPieces : Options → PieceOver → Type 0
HasPieces o IsPiece = (base : SearchBase) → IsSearchBase o base → IsCollection base.series.rows
    → (i : ℕ) (q : List ℤ) → IsSeries base.series.rows.points q → (piece : List ℕ) × IsPiece base.series i q piece

-- a piece that such a call made is one
piece_has : (Gives : Call SearchBase) (IsPiece : PieceOver) → GivesPieces Gives IsPiece
    → (base : SearchBase) (x : Loaded) → base.series ≡ x → (i : ℕ) (query : List ℤ) (piece : List ℕ)
    → IsMade Gives base i query piece → IsPiece x i query piece
piece_has Gives IsPiece each base x over i query piece made =
    subst (λ (p : List ℕ). IsPiece x i query p) made.6
    (subst (λ (q : List ℤ). IsPiece x i q made.2.items) made.5
    (subst (λ (l : Loaded). IsPiece l i made.1.now made.2.items) over
    (subst (λ (g : SearchBase). IsPiece g.series i made.1.now made.2.items) made.4
    (each made.0 i made.1 (Ok made.2) made.3))))

-- and so has a text that such calls made
text_has : (Gives : Call SearchBase) (IsPiece : PieceOver) → GivesPieces Gives IsPiece → (o : Options)
    → (x : Loaded) (queries : List (List ℤ)) (text : List ℕ) → IsMadeOver Gives o x queries text
    → IsTextOf (IsPiece x) queries text
text_has Gives IsPiece each o x queries text made =
    text_map (IsMade Gives made.0) (IsPiece x) (piece_has Gives IsPiece each made.0 x made.2) 0 queries text made.3

-- the series of a file, as those of another length that is the same
all_asked : (form : Form) (y : Loaded) (points : ℕ) → HasText form y.rows y.labels → points ≡ y.rows.points
    → All (IsSeries points) y.rows.series
all_asked form y points formed same = subst (λ n. All (IsSeries n) y.rows.series) (sym same) formed.sound.each

-- so a search that such calls made ends as one with such pieces
pub search_concludes : (Gives : Call SearchBase) (IsPiece : PieceOver)
    (reading : Reading) (writing : Writing) (status : Status) (series queries : List ℕ) (o : Options)
    → EndsMaking Gives reading writing series queries o status → GivesPieces Gives IsPiece → HasPieces o IsPiece
    → Concludes (Writes reading.held (pieces_plan series queries o IsPiece))
    (Refuses reading (pieces_plan series queries o IsPiece)) writing status
search_concludes Gives IsPiece reading writing status series queries o made each has =
    concludes_map (Writes reading.held (made_plan Gives series queries o))
    (Writes reading.held (begun_plan Gives series queries o))
    (Writes reading.held (pieces_plan series queries o IsPiece))
    (Refuses reading (files_plan series queries o)) (Refuses reading (pieces_plan series queries o IsPiece)) writing status
    whole begun (files_refused reading series queries o (pieces_rest IsPiece)) made.ends
  where
    whole : (text : List ℕ) → Writes reading.held (made_plan Gives series queries o) text
        → Writes reading.held (pieces_plan series queries o IsPiece) text
    whole text w =
        let y = w.2.0 in
        let last = w.2.2 in
        (w.0, w.1, (y, w.2.1, (last.0, (last.1.0, text_has Gives IsPiece each o w.0 y.rows.series text last.1.1))))

    begun : (text : List ℕ) → Writes reading.held (begun_plan Gives series queries o) text
        → (rest : List ℕ) × Writes reading.held (pieces_plan series queries o IsPiece) (text ++ rest)
    begun text w =
        let x = w.0 in
        let y = w.2.0 in
        let last = w.2.2 in
        let so_far = last.1.1 in
        let front = take so_far.0 y.rows.series in
        let made_over = so_far.1 in
        let base = made_over.0 in
        let sound : IsCollection base.series.rows =
        subst (λ (l : Loaded). IsCollection l.rows) (sym made_over.2) w.1.formed.sound in
        let one_length : base.series.rows.points ≡ y.rows.points =
        ap (λ (l : Loaded). l.rows.points) made_over.2 ∙ last.0 in
        let more = text_finish (IsPiece x) (IsSeries base.series.rows.points)
        (λ i q asked. subst (λ (l : Loaded). (piece : List ℕ) × IsPiece l i q piece) made_over.2
        (has base made_over.1 sound i q asked)) 0 y.rows.series so_far.0 text
        (all_asked (form_of o.raw) y base.series.rows.points w.2.1.formed one_length)
        (text_has Gives IsPiece each o x front text made_over) in
        (more.0, (x, w.1, (y, w.2.1, (last.0, (last.1.0, more.1)))))
