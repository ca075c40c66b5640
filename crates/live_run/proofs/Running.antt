-- How the end of a script's groups is the end of a run with these words.
use Rattle.std.proofs.Common.{ℕ, ◌≤◌, List, [], ◌∷◌, ◌++◌, length, Option, None, Some, inl, inr, ap, length-append, arith}
use Rattle.live_script.specs.Grammar.{lines_text, script_lines}
use Rattle.live_script.specs.declared.script.Group.{Group}
use Rattle.live_script.specs.declared.script.NamedFile.{NamedFile}
use Rattle.live_run.specs.Ends.{Ends, GroupsEnd, Names}
use Rattle.run_traffic.specs.Traffic.{Reading, Writing}
use Rattle.live_run.specs.Groups.{RefusesGroup, StopsAt, want_of}
use Rattle.live_run.specs.Loads.{HoldsScript, IsShortScript, RefusesFitting, most_bytes}
use Rattle.live_run.specs.declared.group.Contents.{Contents}
use Rattle.live_run.specs.declared.status.LiveStatus.{LiveStatus}
use Rattle.live_run.specs.declared.status.LiveStatus.TheVariants.{Done, Usage, Missing, ReadFault, Format, Mismatch, WriteFault, Memory, Script, Full}

-- each line has at least its line feed
lines_few : (lines : List (List ℕ)) → length lines ≤ length (lines_text lines)
lines_few [] = omega arith
lines_few (line ∷ lines) =
    let rest = lines_few lines in
    let l = length-append (line ++ 10 ∷ []) (lines_text lines) in
    let m = length-append line (10 ∷ []) in
    omega arith

-- a script that is not too long has no more lines than bytes
pub script_few : (groups : List Group) (bytes : List ℕ) → IsShortScript groups bytes → length (script_lines groups) ≤ most_bytes
script_few groups bytes is =
    let l = lines_few (script_lines groups) in
    let e = ap length is.spelled.text in
    let s = is.short in
    omega arith

-- words are no cause of a file
file_not_usage : (reading : Reading) (want : Option ℕ) (file : NamedFile) → RefusesFitting reading want file Usage → ⊥
file_not_usage reading want file (inl x) = x
file_not_usage reading None file (inr x) = x.2
file_not_usage reading (Some w) file (inr x) = x.2

group_not_usage : (reading : Reading) (want : Option ℕ) (g : Group) → RefusesGroup reading want g Usage → ⊥
group_not_usage reading want g (inl x) = file_not_usage reading want g.batch x
group_not_usage reading want g (inr (rows, holds, fits, x)) = file_not_usage reading (Some rows.points) x.asking.queries x.refused

stop_not_usage : (reading : Reading) (ahead : List Contents) (rest : List Group) → StopsAt reading ahead rest Usage → ⊥
stop_not_usage reading ahead [] x = x
stop_not_usage reading ahead (g ∷ gs) (inl x) = group_not_usage reading (want_of ahead) g x
stop_not_usage reading ahead (g ∷ gs) (inr x) = x.2

-- the end of a script's groups is the end of a run with its name
pub groups_end : (words : List (List ℕ)) (reading : Reading) (writing : Writing) (name : List ℕ) (groups : List Group)
    (status : LiveStatus) → Names words name → HoldsScript reading.held name groups → GroupsEnd reading writing groups status
    → Ends words reading writing status
groups_end words reading writing name groups Usage names holds x =
    absurd (stop_not_usage reading x.0.contents x.0.rest x.1)
groups_end words reading writing name groups Done names holds x = (name, names, inr (groups, holds, x))
groups_end words reading writing name groups (Missing l) names holds x = (name, names, inr (groups, holds, x))
groups_end words reading writing name groups (ReadFault l) names holds x = (name, names, inr (groups, holds, x))
groups_end words reading writing name groups (Format l e) names holds x = (name, names, inr (groups, holds, x))
groups_end words reading writing name groups (Mismatch l a b) names holds x = (name, names, inr (groups, holds, x))
groups_end words reading writing name groups WriteFault names holds x = (name, names, inr (groups, holds, x))
groups_end words reading writing name groups Memory names holds x = (name, names, inr (groups, holds, x))
groups_end words reading writing name groups (Script at) names holds x = (name, names, inr (groups, holds, x))
groups_end words reading writing name groups (Full b t) names holds x = (name, names, inr (groups, holds, x))
