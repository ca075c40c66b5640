-- What the stages of reading a file say together, where its bytes are known.
use Rattle.std.proofs.Common.{◌≡◌, ℕ, ◌+◌, ◌<◌, ◌≤◌, List, [], ◌∷◌, ◌++◌, length, take, Option, None, Some, IfSome, refl, sym, ap, ◌∙◌, subst, arith, append_assoc, append-nil, length-append}
use Rattle.std.specs.List.{All}
use Rattle.std.specs.Io.KnownBytes.{prepend_known, IsAtEnd}
use Rattle.outside.specs.Taken.{taken_then}
use Rattle.series_file.specs.Faults.{first_of, header_tests, fault}
use Rattle.series_file.specs.Header.{header_of, IsHeader}
use Rattle.series_file.specs.Stages.{HeaderCame, Explains}
use Rattle.series_file.specs.Body.{label_bytes, value_bytes, file_bytes, size_fault, ExplainsSize, LabelsCame, ValuesCame, labels_in, rows_in}
use Rattle.series_file.specs.declared.header.Header.{Header}
use Rattle.series_file.specs.declared.error.Form.{Form}
use Rattle.series_file.specs.declared.error.Form.TheVariants.{Headed}
use Rattle.series_file.specs.declared.error.FileError.{FileError}
use Rattle.series_file.specs.declared.error.FileError.TheVariants.{ReadFault, NoMemory, Truncated, Trailing}
use Rattle.std.specs.Prelude.{nat_lt, Result, Ok, Err, MatchResult, IfOk, IfErr}
use Rattle.std.proofs.lemmas.List.{take_all}
use Rattle.series_file.specs.Format.{IsFile, HasText}
use Rattle.series_core.specs.Collection.{Collection}
use Rattle.series_file.specs.declared.error.Loaded.{Loaded}
use Rattle.series_file.proofs.Numbers.{are_bytes}
use Rattle.series_file.proofs.Spelled.{is_headed}
use Rattle.series_file.proofs.HeaderTests.{fault_header, fault_size}

-- where bytes were taken and it is known what is left now, what was left before is these and that
pub told : (P : List ℕ → Type 0) (bytes : List ℕ) (before now : Option (List ℕ))
    → before ≡ prepend_known bytes now
    → IfSome now (λ rest. P (bytes ++ rest)) → IfSome before P
told P bytes before now taken holds =
    subst (λ (b : Option (List ℕ)). IfSome b P) (sym taken) (at now holds)
  where
    at : (n : Option (List ℕ)) → IfSome n (λ rest. P (bytes ++ rest))
        → IfSome (prepend_known bytes n) P
    at None h = tt
    at (Some rest) h = h

-- where nothing is left, the bytes that were taken are all
pub told_end : (P : List ℕ → Type 0) (bytes : List ℕ) (before now : Option (List ℕ))
    → before ≡ prepend_known bytes now
    → IsAtEnd now → P bytes → IfSome before P
told_end P bytes before now taken ended holds = told P bytes before now taken (at now ended)
  where
    at : (n : Option (List ℕ)) → IsAtEnd n → IfSome n (λ rest. P (bytes ++ rest))
    at None h = tt
    at (Some rest) h = subst (λ (bs : List ℕ). P bs) (sym (append-nil bytes)
        ∙ ap (λ rs. bytes ++ rs) (sym h)) holds

-- whatever follows
pub told_any : (P : List ℕ → Type 0) (bytes : List ℕ) (before now : Option (List ℕ))
    → before ≡ prepend_known bytes now
    → ((rest : List ℕ) → P (bytes ++ rest)) → IfSome before P
told_any P bytes before now taken holds = told P bytes before now taken (at now)
  where
    at : (n : Option (List ℕ)) → IfSome n (λ rest. P (bytes ++ rest))
    at None = tt
    at (Some rest) = holds rest

-- an explanation by the size of what follows is one of the file
size_explains : (h : Header) (k : ℕ) (rest before : Option (List ℕ)) (e : FileError)
    → (IfSome rest (λ bs. size_fault h k bs ≡ Some e)
    → IfSome before (λ bs. fault Headed bs ≡ Some e))
    → ExplainsSize h k rest e → Explains Headed before e
size_explains h k rest before ReadFault f x = tt
size_explains h k rest before NoMemory f x = tt
size_explains h k rest before e f x = f x

-- what the labels' part explains, the file explains
pub labels_explain : (before between : Option (List ℕ)) (h : Header) (e : FileError)
    → HeaderCame before between h → ExplainsSize h 16 between e → Explains Headed before e
labels_explain before between h e came = size_explains h 16 between before e (λ x.
    told (λ bs. fault Headed bs ≡ Some e) came.0 before between came.1.taken (each between x))
  where
    each : (n : Option (List ℕ)) → IfSome n (λ bs. size_fault h 16 bs ≡ Some e)
        → IfSome n (λ rest. fault Headed (came.0 ++ rest) ≡ Some e)
    each None x = tt
    each (Some rest) x =
        fault_size came.0 rest came.1.size came.1.tests
        ∙ ap (λ (g : Header). size_fault g 16 rest) (sym came.1.spelled) ∙ x

-- the tests of the size by the number of bytes
abbrev sizes_by : Header → ℕ → Option FileError
sizes_by h size =
    first_of ((nat_lt size (file_bytes h), Truncated size (file_bytes h)) ∷
    (nat_lt (file_bytes h) size, Trailing (file_bytes h)) ∷ [])

-- what the values' part explains, the file explains
pub values_explain : (before between rest : Option (List ℕ)) (h : Header)
    (labels : Option (List ℕ)) (e : FileError)
    → HeaderCame before between h → LabelsCame h between rest labels
    → ExplainsSize h (16 + label_bytes h) rest e
    → Explains Headed before e
values_explain before between rest h labels e came labelled =
    size_explains h (16 + label_bytes h) rest before e (λ x.
    told (λ bs. fault Headed bs ≡ Some e) (came.0 ++ labelled.0) before rest
    (taken_then came.0 labelled.0 before between rest came.1.taken labelled.1.taken) (each rest x))
  where
    moved : (rest : List ℕ) → size_fault h 16 (labelled.0 ++ rest) ≡ size_fault h
        (16 + label_bytes h) rest
    moved rest =
        let same : 16 + length (labelled.0 ++ rest) ≡ 16 + label_bytes h + length rest =
        omega (arith, length-append labelled.0 rest, labelled.1.size) in
        ap (sizes_by h) same

    each : (n : Option (List ℕ)) → IfSome n (λ bs. size_fault h (16 + label_bytes h) bs ≡ Some e)
        → IfSome n (λ rest. fault Headed ((came.0 ++ labelled.0) ++ rest) ≡ Some e)
    each None x = tt
    each (Some rest) x =
        ap (fault Headed) (append_assoc came.0 labelled.0 rest)
        ∙ fault_size came.0 (labelled.0 ++ rest) came.1.size came.1.tests
        ∙ ap (λ (g : Header). size_fault g 16 (labelled.0 ++ rest)) (sym came.1.spelled)
        ∙ moved rest ∙ x

-- where header, labels and values came, the bytes are a file with a header
headed_file : (before between rest now : Option (List ℕ)) (h : Header)
    (labels : Option (List ℕ)) (loaded : Loaded)
    → (came : HeaderCame before between h) → (labelled : LabelsCame h between rest labels)
    → (valued : ValuesCame h rest now labels loaded)
    → IsFile Headed (came.0 ++ (labelled.0 ++ valued.0)) loaded.rows loaded.labels
headed_file before between rest now h labels loaded came labelled valued =
    is_headed came.0 labelled.0 valued.0 loaded.rows loaded.labels
    (are_bytes came.0 came.1.each) came.1.size came.1.tests
    (subst (λ (g : Header). IsHeader g) same came.1.sound)
    (are_bytes labelled.0 labelled.1.each)
    (labelled.1.size ∙ ap label_bytes same)
    (valued.1.labels_kept ∙ labelled.1.spelled
    ∙ ap (λ (g : Header). labels_in g labelled.0) same)
    (are_bytes valued.0 valued.1.each)
    (valued.1.size ∙ ap value_bytes same)
    valued.1.sound
    (valued.1.points ∙ ap (λ (g : Header). g.length) same)
    (valued.1.series ∙ ap (λ (g : Header). rows_in g valued.0) same)
  where
    same : h ≡ header_of came.0
    same = came.1.spelled

-- where they are known, they are all that was left
pub headed_found : (before between rest now : Option (List ℕ)) (h : Header)
    (labels : Option (List ℕ)) (loaded : Loaded)
    → HeaderCame before between h → LabelsCame h between rest labels
    → ValuesCame h rest now labels loaded
    → IsAtEnd now × IfSome before (λ bytes. IsFile Headed bytes loaded.rows loaded.labels)
headed_found before between rest now h labels loaded came labelled valued = (
  valued.1.end,
  told_end (λ bytes. IsFile Headed bytes loaded.rows loaded.labels)
      (came.0 ++ (labelled.0 ++ valued.0)) before now
      (taken_then came.0 (labelled.0 ++ valued.0) before between now came.1.taken
      (taken_then labelled.0 valued.0 between rest now labelled.1.taken valued.1.taken))
      valued.1.end
      (headed_file before between rest now h labels loaded came labelled valued),
)

-- what a file stands for has a text
pub has_text : (form : Form) (bytes : List ℕ) (rows : Collection) (labels : Option (List ℕ))
    → IsFile form bytes rows labels → HasText form rows labels
has_text form bytes rows labels file =
    record { sound = file.sound; total = file.total; fits = file.fits; spelled = refl }

-- so has what came from a file with a header, known or not
pub headed_fits : (before between rest now : Option (List ℕ)) (h : Header)
    (labels : Option (List ℕ)) (loaded : Loaded)
    → HeaderCame before between h → LabelsCame h between rest labels
    → ValuesCame h rest now labels loaded → HasText Headed loaded.rows loaded.labels
headed_fits before between rest now h labels loaded came labelled valued =
    has_text Headed (came.0 ++ (labelled.0 ++ valued.0)) loaded.rows loaded.labels
    (headed_file before between rest now h labels loaded came labelled valued)

-- what explains an error by the file's bytes explains it
pub explains : (form : Form) (before : Option (List ℕ)) (e : FileError)
    → IfSome before (λ bs. fault form bs ≡ Some e)
    → Explains form before e
explains form before ReadFault x = tt
explains form before NoMemory x = tt
explains form before e x = x

-- a header that was taken and passes its tests came
pub header_came : (bytes : List ℕ) (count : ℕ) (before now : Option (List ℕ)) (header : Header)
    → before ≡ prepend_known (take count bytes) now → length bytes ≡ 16 → 16 ≤ count
    → All (λ b. b < 256) bytes
    → (first_of (header_tests bytes) ≡ None) × (header ≡ header_of bytes) × IsHeader header
    → HeaderCame before now header
header_came bytes count before now header taken size all each passed = (
  bytes,
  record {
    taken = taken ∙ ap (λ bs. prepend_known bs now) (take_all count bytes (omega arith));
    each = each;
    size = size;
    tests = passed.0;
    spelled = passed.1;
    sound = passed.2;
  },
)

-- a header that was taken and fails a test explains the error
pub header_explains : (bytes : List ℕ) (count : ℕ) (before now : Option (List ℕ)) (e : FileError)
    → before ≡ prepend_known (take count bytes) now → length bytes ≡ 16 → 16 ≤ count
    → first_of (header_tests bytes) ≡ Some e → Explains Headed before e
header_explains bytes count before now e taken size all failed =
    explains Headed before e (told_any (λ bs. fault Headed bs ≡ Some e) bytes before now
    (taken ∙ ap (λ bs. prepend_known bs now) (take_all count bytes (omega arith)))
    (λ rest. fault_header bytes rest e size failed))

-- the same where only the one case says something
pub only_ok : {T E : Type 0} {A C : T → Type 0} (r : Result T E) → IfOk r A → ((x : T) → A x → C x)
    → IfOk r C
only_ok (Ok x) m f = f x m
only_ok (Err e) m f = tt

pub only_err : {T E : Type 0} {B D : E → Type 0} (r : Result T E) → IfErr r B
    → ((e : E) → B e → D e) → IfErr r D
only_err (Ok x) m f = tt
only_err (Err e) m f = f e m

-- a header parsed from bytes: the one that they spell, or the error of their first test that fails
abbrev Parsed : List ℕ → Result Header FileError → Type 0
Parsed bytes r = MatchResult r
    (λ header. (first_of (header_tests bytes) ≡ None) × (header ≡ header_of bytes) × IsHeader header)
    (λ e. first_of (header_tests bytes) ≡ Some e)

-- what a header is parsed to: one that came, or the explanation of an error
pub parsed_came : (r : Result Header FileError) (bytes : List ℕ) (count : ℕ)
    (before now : Option (List ℕ))
    → Parsed bytes r
    → before ≡ prepend_known (take count bytes) now → length bytes ≡ 16 → 16 ≤ count
    → All (λ b. b < 256) bytes
    → IfOk r (HeaderCame before now)
parsed_came (Ok h) bytes count before now m taken size all each =
    header_came bytes count before now h taken size all each m
parsed_came (Err e) bytes count before now m taken size all each = tt

pub parsed_explains : (r : Result Header FileError) (bytes : List ℕ) (count : ℕ)
    (before now : Option (List ℕ))
    → Parsed bytes r
    → before ≡ prepend_known (take count bytes) now → length bytes ≡ 16 → 16 ≤ count
    → IfErr r (Explains Headed before)
parsed_explains (Ok h) bytes count before now m taken size all = tt
parsed_explains (Err e) bytes count before now m taken size all =
    header_explains bytes count before now e taken size all m
