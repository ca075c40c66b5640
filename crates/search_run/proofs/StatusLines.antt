-- Numbers and counted texts behind a line, put together one after another.
use Rattle.std.proofs.Common.{◌≡◌, ℕ, List, ◌++◌, append_assoc}

-- two counted texts behind a line
pub two_counted : (line a b c d : List ℕ) → (line ++ (a ++ b)) ++ (c ++ d) ≡ line ++ (((a ++ b) ++ c) ++ d)
two_counted line a b c d = simp append_assoc

-- a number and a counted text behind a line
pub number_counted : (line a b c : List ℕ) → (line ++ a) ++ (b ++ c) ≡ line ++ ((a ++ b) ++ c)
number_counted line a b c = simp append_assoc

-- the same, with more text behind them
pub number_counted_text : (line a b c d : List ℕ) → ((line ++ a) ++ (b ++ c)) ++ d ≡ line ++ (((a ++ b) ++ c) ++ d)
number_counted_text line a b c d = simp append_assoc
