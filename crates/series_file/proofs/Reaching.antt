-- How far each stage of reading goes: what it leaves lies behind the reach of its form.
use Rattle.std.proofs.Common.{◌≡◌, ℕ, ◌+◌, ◌<◌, ◌≤◌, List, [], ◌∷◌, ◌++◌, length, take, false, Option, None, Some, ap, sym, ◌∙◌, arith, length-append, length-take}
use Rattle.std.proofs.lemmas.List.{take_all}
use Rattle.std.specs.Prelude.{is_some, if◌then◌else◌, Result, Ok, Err, MatchResult, IfErr}
use Rattle.std.specs.Io.KnownBytes.{prepend_known, IsAtEnd}
use Rattle.outside.specs.Taken.{taken_then}
use Rattle.series_file.specs.Faults.{first_of, header_tests, size_of}
use Rattle.series_file.specs.Header.{header_of, IsHeader}
use Rattle.series_file.specs.Body.{label_bytes, value_bytes, LabelsCame}
use Rattle.series_file.specs.Items.{Comes}
use Rattle.series_file.specs.Stages.{HeaderCame, Ends}
use Rattle.series_file.specs.Reading.{reach, Leaves}
use Rattle.series_file.specs.declared.header.Header.{Header}
use Rattle.series_file.specs.declared.error.Form.TheVariants.{Headed}
use Rattle.series_file.specs.declared.error.FileError.{FileError}
use Rattle.series_file.proofs.HeaderTests.{header_tests-append, size_of-append, file_bytes-header}
use Rattle.series_file.proofs.Leaving.{LeavesBehind, Leaves-behind, Leaves-then, behind-end, behind-taken}

-- the reach of a file with a header by whether the header is refused, and by the size that it states
abbrev reach_by : Option FileError → ℕ → ℕ
reach_by refused size = if is_some refused then 16 else size + 1

-- a header is always within the reach
reach-header : (bytes : List ℕ) → 16 ≤ reach Headed bytes
reach-header bytes = least (first_of (header_tests bytes))
  where
    least : (refused : Option FileError) → 16 ≤ reach_by refused (size_of bytes)
    least None = omega arith
    least (Some e) = omega arith

-- the header in front decides the reach
reach-append : (head rest : List ℕ) → length head ≡ 16 → reach Headed (head ++ rest) ≡ reach Headed head
reach-append head rest size =
    ap (λ ts. reach_by (first_of ts) (size_of (head ++ rest))) (header_tests-append head rest size)
    ∙ ap (reach_by (first_of (header_tests head))) (size_of-append head rest size)

-- behind a header that passes its tests: labels, values and one byte
reach-passed : (head rest : List ℕ) → length head ≡ 16 → first_of (header_tests head) ≡ None
    → reach Headed (head ++ rest)
    ≡ 16 + (label_bytes (header_of head) + (value_bytes (header_of head) + 1))
reach-passed head rest size passed =
    reach-append head rest size ∙ ap (λ r. reach_by r (size_of head)) passed
    ∙ omega (arith, file_bytes-header head)

-- the file ended within its header
pub short_left : (bytes : List ℕ) (count : ℕ) (before now : Option (List ℕ))
    → before ≡ prepend_known (take count bytes) now → IsAtEnd now → count < 16
    → LeavesBehind (reach Headed) before now
short_left bytes count before now taken ended short =
    behind-end (reach Headed) (take count bytes) before now taken ended
    (omega (arith, length-take count bytes, reach-header (take count bytes)))

-- a header was refused
pub parsed_left : (r : Result Header FileError) (bytes : List ℕ) (count : ℕ) (before now : Option (List ℕ))
    → MatchResult r (λ header. (first_of (header_tests bytes) ≡ None) ×
    (header ≡ header_of bytes) × IsHeader header)
    (λ e. first_of (header_tests bytes) ≡ Some e)
    → before ≡ prepend_known (take count bytes) now → length bytes ≡ 16 → 16 ≤ count
    → IfErr r (Leaves (reach Headed) before now)
parsed_left (Ok h) bytes count before now m taken size all = tt
parsed_left (Err e) bytes count before now m taken size all =
    Leaves-behind (reach Headed) before now e
    (behind-taken (reach Headed) bytes before now
    (taken ∙ ap (λ bs. prepend_known bs now) (take_all count bytes (omega arith)))
    (λ rest. reach-append bytes rest size ∙ ap (λ r. reach_by r (size_of bytes)) m ∙ sym size))

-- an error of the labels
pub labels_left : (before between now : Option (List ℕ)) (h : Header) (e : FileError)
    → HeaderCame before between h
    → Leaves (λ _. label_bytes h + (value_bytes h + 1)) between now e → Leaves (reach Headed) before now e
labels_left before between now h e came left =
    Leaves-then (reach Headed) (λ _. label_bytes h + (value_bytes h + 1)) came.0 before between now e came.1.taken
    (λ rest. reach-passed came.0 rest came.1.size came.1.tests
    ∙ ap (λ (g : Header). 16 + (label_bytes g + (value_bytes g + 1))) (sym came.1.spelled)
    ∙ ap (λ m. m + (label_bytes h + (value_bytes h + 1))) (sym came.1.size))
    left

-- an error of the values
pub values_left : (before between rest now : Option (List ℕ)) (h : Header) (labels : Option (List ℕ))
    (e : FileError) → HeaderCame before between h → LabelsCame h between rest labels
    → Leaves (λ _. value_bytes h + 1) rest now e → Leaves (reach Headed) before now e
values_left before between rest now h labels e came labelled left =
    labels_left before between now h e came
    (Leaves-then (λ _. label_bytes h + (value_bytes h + 1)) (λ _. value_bytes h + 1) labelled.0 between rest now e
    labelled.1.taken (λ more. ap (λ m. m + (value_bytes h + 1)) (sym labelled.1.size)) left)

-- all that was wanted came, and one byte more
pub trailing_left : {X : Type 0} (at : List ℕ → X) (n want count : ℕ) (before between now : Option (List ℕ))
    (items : List X) → Comes at n want before between items count → want ≤ count → Ends false between now
    → LeavesBehind (λ _. want + 1) before now
trailing_left at n want count before between now items came all more =
    behind-taken (λ _. want + 1) (came.0 ++ more.0 ∷ []) before now
    (taken_then came.0 (more.0 ∷ []) before between now came.1.taken more.1)
    (λ rest. omega (arith, length-append came.0 (more.0 ∷ []), came.1.amount, came.1.limit))
