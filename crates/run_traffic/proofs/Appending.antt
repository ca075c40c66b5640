-- What is known of a sink's bytes where a text is appended: nothing, or two texts one behind the other.
use Rattle.std.proofs.Common.{◌≡◌, ℕ, List, [], ◌++◌, Option, Some, None, ap, sym, refl, append_assoc, append-nil}
use Rattle.std.specs.Io.KnownBytes.{append_known}

-- nothing appended changes nothing
pub append_known-nil : (known : Option (List ℕ)) → known ≡ append_known known []
append_known-nil None = refl
append_known-nil (Some bytes) = ap (λ zs. Some zs) (sym (append-nil bytes))

-- appending twice appends both
pub append_known-append : (known : Option (List ℕ)) (xs ys : List ℕ)
    → append_known (append_known known xs) ys ≡ append_known known (xs ++ ys)
append_known-append None xs ys = refl
append_known-append (Some bytes) xs ys = ap (λ zs. Some zs) (append_assoc bytes xs ys)
