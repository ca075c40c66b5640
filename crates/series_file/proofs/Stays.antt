-- Files whose reads so far succeeded: they stay as they were but for what is left (`stays`, `stays_then`).
use Rattle.std.proofs.Common.{◌≡◌, ℕ, ◌≤◌, List, Option, refl, ◌∙◌, arith}
use Rattle.outside.specs.Files.{Held}

-- the same file stays open and the same is blamed, what is held stays, no count falls, and reliable files have no fault
pub record Stays {F : Type 0} (held : F → Option Held) (at blamed : F → Option (List ℕ)) (faults misses : F → ℕ)
    (reliable : F → Type 0) (old new : F) : Type 0 where
  pub stays_open : (at new ≡ at old) × (blamed new ≡ blamed old)
  pub kept : held new ≡ held old
  pub counts : (faults old ≤ faults new) × (misses old ≤ misses new)
  pub sure : reliable old → (faults new ≡ faults old) × reliable new

module _ {F : Type 0} {held : F → Option Held} {at blamed : F → Option (List ℕ)} {faults misses : F → ℕ}
    {reliable : F → Type 0} where
  -- without a read they stay
  pub stays : (files : F) → Stays held at blamed faults misses reliable files files
  stays files = record {
    stays_open = (refl, refl);
    kept = refl;
    counts = (omega arith, omega arith);
    sure = λ h. (refl, h);
  }

  -- they stay over two reads in a row
  pub stays_then : (old between new : F) → Stays held at blamed faults misses reliable old between
      → Stays held at blamed faults misses reliable between new
      → Stays held at blamed faults misses reliable old new
  stays_then old between new first second = record {
    stays_open = (second.stays_open.0 ∙ first.stays_open.0, second.stays_open.1 ∙ first.stays_open.1);
    kept = second.kept ∙ first.kept;
    counts = (omega (arith, first.counts.0, second.counts.0), omega (arith, first.counts.1, second.counts.1));
    sure = λ h. let b = first.sure h in let r = second.sure b.1 in (r.0 ∙ b.0, r.1);
  }
