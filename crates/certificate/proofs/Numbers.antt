-- Numbers at the front of a text: what is read is how a number is spelled, and what is spelled so is read.
use Rattle.std.proofs.Common.{◌≡◌, ℕ, ◌<◌, ◌≤◌, ◌⊎◌, List, take, drop, Bool, true, false, Some, None, ⊎_elim}
use Rattle.std.specs.Prelude.{nat_le, ◌&&◌}
use Rattle.std.specs.List.{prefix_len}
use Rattle.std.specs.Char.{is_ascii_digit}
use Rattle.std.specs.Str.Parse.{digits_value}
use Rattle.std.proofs.lemmas.Bool.{and_from, and_left, and_right, cond-true, cond-false, lt-leb, le-leb}
use Rattle.certificate.specs.Fields.{number_at, is_spelled}

-- how many digits stand at the front, and what they write
abbrev pub size_of : List ℕ → ℕ
size_of text = prefix_len is_ascii_digit text

abbrev pub front_of : List ℕ → List ℕ
front_of text = take (size_of text) text

-- no number is read where the digits are not spelled well, or write one that is too great
pub number_none : (most : ℕ) (text : List ℕ)
    → ((is_spelled (front_of text) ≡ false) ⊎ (most < digits_value 10 (front_of text))) → number_at most text ≡ None
unfolding number_at
number_none most text bad =
    cond-false (is_spelled (front_of text) && nat_le (digits_value 10 (front_of text)) most) _ None
    (⊎_elim
    (λ (e : is_spelled (front_of text) ≡ false). and_left (is_spelled (front_of text)) _ e)
    (λ (over : most < digits_value 10 (front_of text)).
    and_right (is_spelled (front_of text)) _ (lt-leb (digits_value 10 (front_of text)) most over))
    bad)

-- else it is read
pub number_some : (most : ℕ) (text : List ℕ) → is_spelled (front_of text) ≡ true
    → digits_value 10 (front_of text) ≤ most
    → number_at most text ≡ Some (digits_value 10 (front_of text), drop (size_of text) text)
unfolding number_at
number_some most text spelled small =
    cond-true (is_spelled (front_of text) && nat_le (digits_value 10 (front_of text)) most) _ None
    (both spelled (le-leb (digits_value 10 (front_of text)) most small))
  where
    both : {a b : Bool} → a ≡ true → b ≡ true → (a && b) ≡ true
    both {a} {b} ea eb = and_from a b ea eb
