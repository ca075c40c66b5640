-- Each line of a script is one line.
use Rattle.std.proofs.Common.{◌≡◌, ℕ, ◌^◌, ◌<◌, List, ◌∷◌, true, arith}
use Rattle.std.specs.Prelude.{decimal}
use Rattle.live_script.specs.Lines.{lacks, IsName, IsAsked, append_line, ask_line}
use Rattle.live_script.proofs.Cuts.{lacks_both}
use Rattle.live_script.proofs.Numbers.{decimal_lacks}

-- an appending line is one line
pub append_one_line : (name : List ℕ) → IsName name → lacks 10 (append_line name) ≡ true
append_one_line name right = right.one_line

-- an asking line is one line
pub ask_one_line : (name : List ℕ) (k : ℕ) → IsAsked name k → lacks 10 (ask_line name k) ≡ true
ask_one_line name k right =
    let small : k < 2 ^ 64 = omega (arith, right.most) in
    lacks_both 10 name (32 ∷ decimal k) right.named.one_line (decimal_lacks k small)
