-- A file that was opened is held with the bytes that were left of it, and what refuses a name in a part of a run does so in the whole.
use Rattle.std.proofs.Common.{◌≡◌, ℕ, List, Option, None, Some, IfSome, subst, sym, arith, ◌∙◌}
use Rattle.std.specs.Prelude.{IsSome}
use Rattle.std.proofs.lemmas.Bool.{false≢true}
use Rattle.std.proofs.lemmas.Option.{none-some, same_Some}
use Rattle.outside.specs.Count.{Rose-wider}
use Rattle.outside.specs.Files.{Held, Opens}
use Rattle.run_traffic.specs.Named.{FailedReading, HoldsBytes, IsAbsent}
use Rattle.run_traffic.specs.Traffic.{EndsReading, Reading}

-- what is so of the bytes that are left of a file that was just opened is so of those that are held
pub opened_holds : (held : Option Held) (name : List ℕ) (at left : Option (List ℕ)) (IsSo : List ℕ → Type 0)
    → Opens held name at left → IfSome left IsSo → HoldsBytes held name IsSo
opened_holds None name at left IsSo opened x = tt
opened_holds (Some h) name at None IsSo opened x = absurd (is_told (h name) opened.1 opened.2)
  where
    is_told : (b : Option (List ℕ)) → IsSome b → None ≡ b → ⊥
    is_told None i f = absurd (false≢true i)
    is_told (Some b) i f = none-some b f
opened_holds (Some h) name at (Some bytes) IsSo opened x = (bytes, sym opened.2, x)

-- a blamed file that was open is the one that was asked for
pub blamed_open : (held : Option Held) (name : List ℕ) (at left blamed : Option (List ℕ)) → Opens held name at left
    → IfSome blamed (λ b. at ≡ Some b) → IfSome blamed (λ b. b ≡ name)
blamed_open held name at left None opened x = tt
blamed_open None name None left (Some b) opened x = absurd (none-some b x)
blamed_open None name (Some a) left (Some b) opened x = sym (same_Some a b x) ∙ opened
blamed_open (Some h) name at left (Some b) opened x = same_Some b name (sym x ∙ opened.0)

-- the first of two facts of what is left
pub first_part : (left : Option (List ℕ)) (P Q : List ℕ → Type 0)
    → IfSome left (λ rest. P rest × Q rest) → IfSome left P
first_part None P Q both = tt
first_part (Some rest) P Q both = both.0

-- what follows from a fact of the bytes that are held is so of them too
pub held_as : (held : Option Held) (name : List ℕ) (P Q : List ℕ → Type 0) → ((b : List ℕ) → P b → Q b)
    → HoldsBytes held name P → HoldsBytes held name Q
held_as None name P Q f x = tt
held_as (Some h) name P Q f x = (x.0, x.1, f x.0 x.2)

-- a name that is absent in the last part of a run is so in the whole of it
pub absent_wider : (whole part : Reading) (name : List ℕ) → EndsReading whole part → IsAbsent part name → IsAbsent whole name
absent_wider whole part name ends x = (
  Rose-wider ends.misses x.0 (omega (arith, ends.more)),
  subst (λ held. IfSome held (λ h. h name ≡ None)) ends.held x.1,
)

-- a failure to read in the last part of a run is one in the whole of it
pub failed_wider : (whole part : Reading) (name : List ℕ) → EndsReading whole part → FailedReading part name
    → FailedReading whole name
failed_wider whole part name ends x = (
  Rose-wider ends.faults x.0 (omega (arith, ends.later)),
  subst (λ blamed. IfSome blamed (λ b. b ≡ name)) ends.blamed x.1,
)
