-- Where nothing keeps a run from its work, it ends with all of its text written, or for want of memory, or for a fault that
-- was counted.
use Rattle.std.proofs.Common.{◌≡◌, ℕ, zero, suc, ◌+◌, ◌<◌, ◌⊎◌, List, [], ◌∷◌, ◌++◌, length, map, get_or, Option, None, Some, inl, inr, ⊎_elim, ap, sym, ◌∙◌, subst, refl, append_assoc, append-nil, arith}
use Rattle.std.specs.Prelude.{IsSomeAnd}
use Rattle.std.specs.List.{AllZip}
use Rattle.std.proofs.lemmas.List.{length-map}
use Rattle.outside.specs.Files.{Held}
use Rattle.series_core.specs.Collection.{Collection}
use Rattle.live_collection.specs.declared.object.TheConstants.{MAX_BATCHES}
use Rattle.series_core.specs.declared.rows.TheConstants.{MAX_COUNT}
use Rattle.live_script.specs.Grammar.{IsScript}
use Rattle.live_script.specs.declared.script.Asking.{Asking}
use Rattle.live_script.specs.declared.script.Group.{Group}
use Rattle.live_run.specs.Ends.{CanRun, Ends, GroupsEnd, IsAnswered, Names, ScriptEnds, Taken}
use Rattle.live_run.specs.Groups.{AllPass, HasRoom, HoldAskings, HoldsAsking, HoldsGroup, IsFull, RefusesGroup, StopsAt, want_of}
use Rattle.live_run.specs.Loads.{IsScriptFault, IsShortScript, RefusesScript}
use Rattle.run_traffic.specs.Named.{HoldsBytes, IsHeldAs}
use Rattle.live_run.specs.Texts.{all_series}
use Rattle.run_traffic.specs.Traffic.{Reading, Writing}
use Rattle.live_run.specs.declared.group.Contents.{Contents}
use Rattle.live_run.specs.declared.group.QueryFile.{QueryFile}
use Rattle.live_run.specs.declared.status.LiveStatus.{LiveStatus}
use Rattle.live_run.specs.declared.status.LiveStatus.TheVariants.{Done, Usage, Missing, ReadFault, Format, Mismatch, WriteFault, Memory, Script, Full}
use Rattle.live_run.proofs.Held.{IsExcused, IsTold, both_bytes, file_excused, not_absent, one_file}
use Rattle.live_run.proofs.Stopping.{same_batches}

-- an asking among others has its file
one_asking : (held : Option Held) (n : ℕ) (done : List Asking) (a : Asking) (rest : List Asking) (fs : List QueryFile)
    → AllZip (HoldsAsking held n) (done ++ a ∷ rest) fs → (f : QueryFile) × HoldsAsking held n a f
one_asking held n [] a rest [] all = absurd all
one_asking held n [] a rest (f ∷ fs) all = (f, all.0)
one_asking held n (d ∷ done) a rest [] all = absurd all
one_asking held n (d ∷ done) a rest (f ∷ fs) all = one_asking held n done a rest fs all.1

-- a group whose files hold this is refused by a failed read or want of memory alone
group_excused : (reading : Reading) (want : Option ℕ) (g : Group) (c : Contents) (status : LiveStatus) → IsTold reading.held
    → HoldsGroup reading.held want g c → RefusesGroup reading want g status → IsExcused reading status
group_excused reading want g c status told holds (inl x) =
    file_excused reading want g.batch c.batch status told holds.batch holds.points x
group_excused reading want g c status told holds (inr (rows, have, fits, x)) =
    let same = one_file reading.held g.batch.name c.batch rows told holds.batch have in
    let askings = subst (λ list. HoldAskings reading.held rows.points list c.askings.items) x.all
    (subst (λ (r : Collection). HoldAskings reading.held r.points g.askings c.askings.items) same holds.askings) in
    let found = one_asking reading.held rows.points x.done x.asking x.rest c.askings.items askings in
    file_excused reading (Some rows.points) x.asking.queries found.0.queries status told found.1.file found.1.points x.refused

abbrev pub batches_in : List Contents → List Collection
batches_in cs = map (λ (c : Contents). c.batch) cs

same_want : (cs ds : List Contents) → batches_in cs ≡ batches_in ds → want_of cs ≡ want_of ds
same_want [] [] e = refl
same_want [] (d ∷ ds) e = let l = ap length e in absurd (omega arith)
same_want (c ∷ cs) [] e = let l = ap length e in absurd (omega arith)
same_want (c ∷ cs) (d ∷ ds) e = ap (λ (r : Collection). Some r.points) (ap (λ l. get_or l 0 c.batch) e)

same_length : (cs ds : List Contents) → batches_in cs ≡ batches_in ds → length cs ≡ length ds
same_length cs ds e =
    sym (length-map cs (λ (c : Contents). c.batch)) ∙ ap length e ∙ length-map ds (λ (c : Contents). c.batch)

batch_behind : (cs ds : List Contents) (c d : Contents) → batches_in cs ≡ batches_in ds → c.batch ≡ d.batch
    → batches_in (cs ++ c ∷ []) ≡ batches_in (ds ++ d ∷ [])
batch_behind [] [] c d e f = ap (λ (r : Collection). r ∷ []) f
batch_behind [] (x ∷ ds) c d e f = let l = ap length e in absurd (omega arith)
batch_behind (x ∷ cs) [] c d e f = let l = ap length e in absurd (omega arith)
batch_behind (x ∷ cs) (y ∷ ds) c d e f =
    ap (λ (r : Collection). r ∷ batches_in (cs ++ c ∷ [])) (ap (λ l. get_or l 0 x.batch) e)
    ∙ ap (λ l. y.batch ∷ l) (batch_behind cs ds c d (ap tail e) f)
  where
    tail : List Collection → List Collection
    tail [] = []
    tail (r ∷ rs) = rs

-- where all groups pass, those behind the first ones pass behind the same batches
rest_pass : (held : Option Held) (ahead others : List Contents) (done rest : List Group) (taken contents : List Contents)
    → IsTold held → batches_in ahead ≡ batches_in others → AllPass held others done taken
    → AllPass held ahead (done ++ rest) contents
    → (front : List Contents) × (last : List Contents) × (batches_in front ≡ batches_in (others ++ taken)) × AllPass held front rest last
rest_pass held ahead others [] rest [] contents told same passed all =
    (ahead, contents, same ∙ ap batches_in (sym (append-nil others)), all)
rest_pass held ahead others [] rest (t ∷ taken) contents told same passed all = absurd passed
rest_pass held ahead others (g ∷ done) rest [] contents told same passed all = absurd passed
rest_pass held ahead others (g ∷ done) rest (t ∷ taken) [] told same passed all = absurd all
rest_pass held ahead others (g ∷ done) rest (t ∷ taken) (c ∷ contents) told same passed all =
    let e = one_file held g.batch.name c.batch t.batch told all.0.holds.batch passed.0.holds.batch in
    let r = rest_pass held (ahead ++ c ∷ []) (others ++ t ∷ []) done rest taken contents told
    (batch_behind ahead others c t same e) passed.1 all.1 in
    (r.0, r.1, r.2 ∙ ap batches_in (append_assoc others (t ∷ []) taken), r.3)

-- where there is room, none is missing
has_room : (ahead : List Contents) (c d : Contents) (status : LiveStatus) → HasRoom ahead c → d.batch ≡ c.batch
    → IsFull ahead d status → ⊥
has_room ahead c d (Full b t) room e x =
    let l : length d.batch.series ≡ length c.batch.series = ap (λ (r : Collection). length r.series) e in
    let n = room.batches in
    let s = room.series in
    let p = x.0 in
    let q = x.1 in
    ⊎_elim (λ (m : b ≡ MAX_BATCHES). omega arith) (λ (m : MAX_COUNT < t + length d.batch.series). omega arith) x.2
has_room ahead c d Done room e x = x
has_room ahead c d Usage room e x = x
has_room ahead c d (Missing l) room e x = x
has_room ahead c d (ReadFault l) room e x = x
has_room ahead c d (Format l f) room e x = x
has_room ahead c d (Mismatch l a b) room e x = x
has_room ahead c d WriteFault room e x = x
has_room ahead c d Memory room e x = x
has_room ahead c d (Script at) room e x = x

room_same : (cs ds : List Contents) (c : Contents) → batches_in cs ≡ batches_in ds → HasRoom cs c → HasRoom ds c
room_same cs ds c e room =
    let l = same_length cs ds e in
    let s : length (all_series cs) ≡ length (all_series ds) = ap length (same_batches cs ds e) in
    let n = room.batches in
    let m = room.series in record {
      batches = omega arith;
      series = omega arith;
    }

-- a group that passes is not stopped, but for a failed read or want of memory
stop_excused : (reading : Reading) (ahead front : List Contents) (rest : List Group) (last : List Contents) (status : LiveStatus)
    → IsTold reading.held → batches_in front ≡ batches_in ahead → AllPass reading.held front rest last
    → StopsAt reading ahead rest status → IsExcused reading status
stop_excused reading ahead front [] last Memory told same all x = tt
stop_excused reading ahead front [] last Done told same all x = absurd x
stop_excused reading ahead front [] last Usage told same all x = absurd x
stop_excused reading ahead front [] last (Missing l) told same all x = absurd x
stop_excused reading ahead front [] last (ReadFault l) told same all x = absurd x
stop_excused reading ahead front [] last (Format l e) told same all x = absurd x
stop_excused reading ahead front [] last (Mismatch l a b) told same all x = absurd x
stop_excused reading ahead front [] last WriteFault told same all x = absurd x
stop_excused reading ahead front [] last (Script at) told same all x = absurd x
stop_excused reading ahead front [] last (Full b t) told same all x = absurd x
stop_excused reading ahead front (g ∷ rest) [] status told same all x = absurd all
stop_excused reading ahead front (g ∷ rest) (c ∷ last) status told same all x = by_status status x
  where
    holds : HoldsGroup reading.held (want_of ahead) g c
    holds = subst (λ want. HoldsGroup reading.held want g c) (same_want front ahead same) all.0.holds

    excused : (status : LiveStatus) → RefusesGroup reading (want_of ahead) g status
        ⊎ ((d : Contents) × HoldsGroup reading.held (want_of ahead) g d × IsFull ahead d status) → IsExcused reading status
    excused status (inl y) = group_excused reading (want_of ahead) g c status told holds y
    excused status (inr (d, others, full)) =
        absurd (has_room ahead c d status (room_same front ahead c same all.0.room)
        (one_file reading.held g.batch.name d.batch c.batch told others.batch holds.batch) full)

    by_status : (status : LiveStatus) → StopsAt reading ahead (g ∷ rest) status → IsExcused reading status
    by_status Memory y = tt
    by_status Done y = excused Done y
    by_status Usage y = excused Usage y
    by_status (Missing l) y = excused (Missing l) y
    by_status (ReadFault l) y = excused (ReadFault l) y
    by_status (Format l e) y = excused (Format l e) y
    by_status (Mismatch l a b) y = excused (Mismatch l a b) y
    by_status WriteFault y = excused WriteFault y
    by_status (Script at) y = excused (Script at) y
    by_status (Full b t) y = excused (Full b t) y

-- a status that is excused is an answer
answers : (reading : Reading) (writing : Writing) (status : LiveStatus) → IsExcused reading status
    → IsAnswered reading.faults reading.later writing.faults writing.later status
answers reading writing (ReadFault line) x = x
answers reading writing Memory x = tt
answers reading writing Done x = tt
answers reading writing Usage x = absurd x
answers reading writing (Missing l) x = absurd x
answers reading writing (Format l e) x = absurd x
answers reading writing (Mismatch l a b) x = absurd x
answers reading writing WriteFault x = absurd x
answers reading writing (Script at) x = absurd x
answers reading writing (Full b t) x = absurd x

-- a run that stops at a group is excused, where all groups pass
stopped : (reading : Reading) (groups : List Group) (contents : List Contents) (status : LiveStatus) → IsTold reading.held
    → AllPass reading.held [] groups contents → (taken : Taken reading.held groups)
    → StopsAt reading taken.contents taken.rest status → IsExcused reading status
stopped reading groups contents status told all taken stops =
    let r = rest_pass reading.held [] [] taken.done taken.rest taken.contents contents told refl taken.passed
    (subst (λ gs. AllPass reading.held [] gs contents) taken.all all) in
    stop_excused reading taken.contents r.0 taken.rest r.1 status told r.2 r.3 stops

-- the groups of a script that can run are answered
groups_answered : (reading : Reading) (writing : Writing) (groups : List Group) (contents : List Contents) (status : LiveStatus)
    → IsTold reading.held → AllPass reading.held [] groups contents → GroupsEnd reading writing groups status
    → IsAnswered reading.faults reading.later writing.faults writing.later status
groups_answered reading writing groups contents Done told all x = tt
groups_answered reading writing groups contents Memory told all x = tt
groups_answered reading writing groups contents WriteFault told all x = x.4
groups_answered reading writing groups contents (ReadFault l) told all x = stopped reading groups contents (ReadFault l) told all x.0 x.1
groups_answered reading writing groups contents Usage told all x = stopped reading groups contents Usage told all x.0 x.1
groups_answered reading writing groups contents (Missing l) told all x = stopped reading groups contents (Missing l) told all x.0 x.1
groups_answered reading writing groups contents (Format l e) told all x = stopped reading groups contents (Format l e) told all x.0 x.1
groups_answered reading writing groups contents (Mismatch l a b) told all x =
    stopped reading groups contents (Mismatch l a b) told all x.0 x.1
groups_answered reading writing groups contents (Script at) told all x = stopped reading groups contents (Script at) told all x.0 x.1
groups_answered reading writing groups contents (Full b t) told all x = stopped reading groups contents (Full b t) told all x.0 x.1

-- a script that is held is refused by a failed read or want of memory alone
script_excused : (reading : Reading) (name : List ℕ) (groups : List Group) (status : LiveStatus) → IsTold reading.held
    → HoldsBytes reading.held name (IsShortScript groups) → RefusesScript reading name status → IsExcused reading status
script_excused reading name groups (Missing l) told holds x =
    absurd (not_absent reading.held name (IsShortScript groups) told holds x.1.1)
script_excused reading name groups (ReadFault l) told holds x = x.1.0
script_excused reading name groups Memory told holds x = tt
script_excused reading name groups (Script at) told holds x =
    let both = both_bytes reading.held name (IsShortScript groups) (IsScriptFault at) told holds x in
    absurd (by_line at both.0 both.1 both.2)
  where
    by_line : (at : ℕ) (bytes : List ℕ) → IsShortScript groups bytes → IsScriptFault at bytes → ⊥
    by_line zero bytes is fault = let s = is.short in omega arith
    by_line (suc n) bytes is fault = fault.1.more groups is.spelled
script_excused reading name groups Done told holds x = absurd x
script_excused reading name groups Usage told holds x = absurd x
script_excused reading name groups (Format l e) told holds x = absurd x
script_excused reading name groups (Mismatch l a b) told holds x = absurd x
script_excused reading name groups WriteFault told holds x = absurd x
script_excused reading name groups (Full b t) told holds x = absurd x

-- what is held is known, and its bytes are so
known : (held : Option Held) (name : List ℕ) (P : List ℕ → Type 0) → IsSomeAnd held (λ h. IsHeldAs h name P)
    → IsTold held × HoldsBytes held name P
known None name P is = absurd is
known (Some h) name P is = (tt, is)

-- a script that can run is answered
script_answered : (reading : Reading) (writing : Writing) (name : List ℕ) (groups : List Group) (contents : List Contents)
    (status : LiveStatus) → IsSomeAnd reading.held (λ h. IsHeldAs h name (IsShortScript groups))
    → AllPass reading.held [] groups contents → ScriptEnds reading writing name status
    → IsAnswered reading.faults reading.later writing.faults writing.later status
script_answered reading writing name groups contents status is all (inl x) =
    let k = known reading.held name (IsShortScript groups) is in
    answers reading writing status (script_excused reading name groups status k.0 k.1 x.0)
script_answered reading writing name groups contents status is all (inr (others, (bytes, short, holds), ends)) =
    let k = known reading.held name (IsShortScript groups) is in
    let both = both_bytes reading.held name (IsShortScript groups) (λ b. b ≡ bytes) k.0 k.1 holds in
    let same = short.only groups (subst (λ b. IsScript b groups) both.2 both.1.spelled) in
    groups_answered reading writing groups contents status k.0 all (subst (λ gs. GroupsEnd reading writing gs status) same ends)

one_name : (words : List (List ℕ)) (name other : List ℕ) → Names words name → Names words other → other ≡ name
one_name words name other first second = ap (λ l. get_or l 0 []) (sym second.one ∙ first.one)

-- the words name this script, and a run of it ends so
named_ends : (words : List (List ℕ)) (reading : Reading) (writing : Writing) (status : LiveStatus) (name : List ℕ)
    → Names words name → Ends words reading writing status → (status ≡ Usage → ⊥) → ScriptEnds reading writing name status
named_ends words reading writing Usage name names ends other = absurd (other refl)
named_ends words reading writing Done name names ends other = subst (λ n. ScriptEnds reading writing n Done) (one_name words name ends.0 names ends.1) ends.2
named_ends words reading writing (Missing l) name names ends other = subst (λ n. ScriptEnds reading writing n (Missing l)) (one_name words name ends.0 names ends.1) ends.2
named_ends words reading writing (ReadFault l) name names ends other = subst (λ n. ScriptEnds reading writing n (ReadFault l)) (one_name words name ends.0 names ends.1) ends.2
named_ends words reading writing (Format l e) name names ends other = subst (λ n. ScriptEnds reading writing n (Format l e)) (one_name words name ends.0 names ends.1) ends.2
named_ends words reading writing (Mismatch l a b) name names ends other = subst (λ n. ScriptEnds reading writing n (Mismatch l a b)) (one_name words name ends.0 names ends.1) ends.2
named_ends words reading writing WriteFault name names ends other = subst (λ n. ScriptEnds reading writing n WriteFault) (one_name words name ends.0 names ends.1) ends.2
named_ends words reading writing Memory name names ends other = subst (λ n. ScriptEnds reading writing n Memory) (one_name words name ends.0 names ends.1) ends.2
named_ends words reading writing (Script at) name names ends other = subst (λ n. ScriptEnds reading writing n (Script at)) (one_name words name ends.0 names ends.1) ends.2
named_ends words reading writing (Full b t) name names ends other = subst (λ n. ScriptEnds reading writing n (Full b t)) (one_name words name ends.0 names ends.1) ends.2

-- a run that can go to its end is answered
pub run_answered : (words : List (List ℕ)) (reading : Reading) (writing : Writing) (status : LiveStatus)
    → Ends words reading writing status → CanRun words reading.held
    → IsAnswered reading.faults reading.later writing.faults writing.later status
run_answered words reading writing status ends (name, names, groups, contents, is, all) = by_status status ends
  where
    named : (status : LiveStatus) → Ends words reading writing status → (status ≡ Usage → ⊥)
        → IsAnswered reading.faults reading.later writing.faults writing.later status
    named status ends other =
        script_answered reading writing name groups contents status is all (named_ends words reading writing status name names ends other)

    code : LiveStatus → ℕ
    code Usage = 1
    code _ = 0

    differs : (status : LiveStatus) → code status ≡ 0 → status ≡ Usage → ⊥
    differs status zero_is e = let f = ap code e in omega (arith, zero_is, f)

    by_status : (status : LiveStatus) → Ends words reading writing status
        → IsAnswered reading.faults reading.later writing.faults writing.later status
    by_status Usage ends = absurd (ends.0 name names)
    by_status Done ends = tt
    by_status Memory ends = tt
    by_status (Missing l) ends = named (Missing l) ends (differs (Missing l) refl)
    by_status (ReadFault l) ends = named (ReadFault l) ends (differs (ReadFault l) refl)
    by_status (Format l e) ends = named (Format l e) ends (differs (Format l e) refl)
    by_status (Mismatch l a b) ends = named (Mismatch l a b) ends (differs (Mismatch l a b) refl)
    by_status WriteFault ends = named WriteFault ends (differs WriteFault refl)
    by_status (Script at) ends = named (Script at) ends (differs (Script at) refl)
    by_status (Full b t) ends = named (Full b t) ends (differs (Full b t) refl)
