-- Writing in pieces: the first bytes were appended, and nothing else was done.
use Rattle.std.proofs.Common.{◌≡◌, ℕ, ◌+◌, ◌-◌, ◌<◌, ◌≤◌, List, ◌++◌, length, take, drop, Option, Some, None, ap, sym, ◌∙◌, refl, arith, append_assoc, length-drop}
use Rattle.std.proofs.Math.Seq.{take-add, take-length}
use Rattle.std.specs.Io.KnownBytes.{append_known}

-- the first `done` bytes were written, at no fault where all bytes are sure
pub record Progress {S : Type 0} (written : S → Option (List ℕ)) (faults sure : S → ℕ)
    (first now : S) (bytes : List ℕ) (done : ℕ) : Type 0 where
  pub within : done ≤ length bytes
  pub appended : written now ≡ append_known (written first) (take done bytes)
  pub counts : faults first ≤ faults now
  pub faultless : length bytes ≤ sure first → faults now ≡ faults first
  pub spent : sure first ≤ sure now + done

-- appending twice appends both
pub append_known-append : (known : Option (List ℕ)) (xs ys : List ℕ)
    → append_known (append_known known xs) ys ≡ append_known known (xs ++ ys)
append_known-append None xs ys = refl
append_known-append (Some bytes) xs ys = ap (λ zs. Some zs) (append_assoc bytes xs ys)

-- what is left from a place to the end
pub take-rest : (done : ℕ) (bytes : List ℕ)
    → take (length bytes - done) (drop done bytes) ≡ drop done bytes
take-rest done bytes = rw (← length-drop done bytes) (take-length (drop done bytes))

-- Progress goes on by a write of the first `count` of the bytes that are left.
pub Progress-write : {S : Type 0} {written : S → Option (List ℕ)} {faults sure : S → ℕ}
    {first now next : S} {bytes : List ℕ} {done : ℕ} (count : ℕ) (rest : List ℕ)
    → rest ≡ drop done bytes → Progress written faults sure first now bytes done
    → done < length bytes → count ≤ length rest
    → written next ≡ append_known (written now) (take count rest)
    → faults now ≤ faults next → (0 < sure now → faults next ≡ faults now)
    → sure now ≤ sure next + count
    → Progress written faults sure first next bytes (done + count)
Progress-write {written} {first} {now} {bytes} {done} count rest is_rest so_far more within
    appended counts faultless spent = record {
      within = omega (arith, length-drop done bytes, ap length is_rest);
      appended =
          appended
          ∙ ap (λ known. append_known known (take count rest)) so_far.appended
          ∙ append_known-append (written first) (take done bytes) (take count rest)
          ∙ ap (append_known (written first))
          (ap (λ part. take done bytes ++ take count part) is_rest ∙ sym (take-add done count bytes));
      counts = omega (arith, so_far.counts);
      faultless = λ enough. faultless (omega (arith, so_far.spent)) ∙ so_far.faultless enough;
      spent = omega (arith, so_far.spent);
    }
