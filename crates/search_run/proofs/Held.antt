-- A named file that is held: it is not absent, its bytes pass the tests, and they stand for one thing (`one_loaded`).
use Rattle.std.proofs.Common.{◌≡◌, ℕ, List, Option, None, Some, IfSome, ap, sym, ◌∙◌, subst}
use Rattle.std.specs.Prelude.{IsSome, IsSomeAnd}
use Rattle.std.proofs.lemmas.Bool.{false≢true}
use Rattle.std.proofs.lemmas.Option.{none-some, same_Some}
use Rattle.outside.specs.Files.{Held}
use Rattle.series_core.specs.Collection.{Collection}
use Rattle.series_file.specs.Faults.{fault}
use Rattle.series_file.specs.declared.error.Form.{Form}
use Rattle.series_file.specs.declared.error.FileError.{FileError}
use Rattle.series_file.specs.declared.error.Loaded.{Loaded}
use Rattle.series_file.proofs.Passing.{no_fault}
use Rattle.series_file.proofs.Unique.{one_collection}
use Rattle.search_run.specs.Loads.{HoldsBytes, IsHeldAs, Spells}

-- a name that is held is not absent
pub held_not_absent : (held : Option Held) (name : List ℕ) → IsSomeAnd held (λ h. IsSome (h name))
    → IfSome held (λ h. h name ≡ None) → ⊥
held_not_absent None name is absent = absurd is
held_not_absent (Some h) name is absent = by_bytes (h name) is absent
  where
    by_bytes : (bytes : Option (List ℕ)) → IsSome bytes → bytes ≡ None → ⊥
    by_bytes bytes is none = false≢true (subst IsSome none is)

-- nor is one whose bytes are known
pub known_not_absent : (held : Option Held) (name : List ℕ) (P : List ℕ → Type 0)
    → IsSomeAnd held (λ h. IsHeldAs h name P) → IfSome held (λ h. h name ≡ None) → ⊥
known_not_absent None name P is absent = absurd is
known_not_absent (Some h) name P is absent = none-some is.0 (sym absent ∙ is.1)

-- what is so of the bytes of a name is so of those that are known
pub known_bytes : (held : Option Held) (name : List ℕ) (P Q : List ℕ → Type 0)
    → IsSomeAnd held (λ h. IsHeldAs h name P) → HoldsBytes held name Q → (bytes : List ℕ) × P bytes × Q bytes
known_bytes None name P Q is holds = absurd is
known_bytes (Some h) name P Q is holds =
    (is.0, is.2, subst Q (same_Some holds.0 is.0 (sym holds.1 ∙ is.1)) holds.2)

-- what is so of the bytes of a name that is held is so of the same bytes
pub one_bytes : (held : Option Held) (name : List ℕ) (P Q : List ℕ → Type 0) → IsSomeAnd held (λ h. IsSome (h name))
    → HoldsBytes held name P → HoldsBytes held name Q → (bytes : List ℕ) × P bytes × Q bytes
one_bytes None name P Q is first second = absurd is
one_bytes (Some h) name P Q is first second =
    (first.0, first.2, subst Q (same_Some second.0 first.0 (sym second.1 ∙ first.1)) second.2)

-- a file that is held and fits passes all tests
pub known_no_fault : (held : Option Held) (name : List ℕ) (form : Form) (file : Loaded) (e : FileError)
    → IsSomeAnd held (λ h. IsHeldAs h name (Spells form file))
    → HoldsBytes held name (λ bytes. fault form bytes ≡ Some e) → ⊥
known_no_fault held name form file e is fails =
    let both = known_bytes held name (Spells form file) (λ bytes. fault form bytes ≡ Some e) is fails in
    none-some e (sym (no_fault form both.0 file.rows file.labels both.1) ∙ both.2)

-- bytes stand for one thing
same_loaded : (form : Form) (bytes : List ℕ) (file other : Loaded) → Spells form file bytes → Spells form other bytes
    → file ≡ other
same_loaded form bytes file other first second =
    let same = one_collection form bytes file.rows other.rows file.labels other.labels first second in
    ap (λ (rows : Collection). record { rows = rows; labels = file.labels }) same.0
    ∙ ap (λ (labels : Option (List ℕ)). record { rows = other.rows; labels = labels }) same.1

-- a file that is held stands for one thing
pub one_loaded : (held : Option Held) (name : List ℕ) (form : Form) (file other : Loaded)
    → IsSomeAnd held (λ h. IsHeldAs h name (Spells form file)) → HoldsBytes held name (Spells form other)
    → file ≡ other
one_loaded held name form file other is holds =
    let both = known_bytes held name (Spells form file) (Spells form other) is holds in
    same_loaded form both.0 file other both.1 both.2

-- what the bytes of a name that was lent are, those of the name are, in files that are still the same
pub lent_holds : (now held : Option Held) (lent name : List ℕ) (P : List ℕ → Type 0) → now ≡ held → lent ≡ name
    → HoldsBytes now lent P → HoldsBytes held name P
lent_holds now held lent name P kept same holds =
    subst (λ n. HoldsBytes held n P) same (subst (λ h. HoldsBytes h lent P) kept holds)
