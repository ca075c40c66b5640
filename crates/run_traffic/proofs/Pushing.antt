-- A line that is pushed number by number: what stands, with the numbers that are still to come, is the whole line.
use Rattle.std.proofs.Common.{◌≡◌, ℕ, ◌+◌, ◌<◌, ◌≤◌, List, [], ◌∷◌, ◌++◌, decimal, drop, get_or, length, ap, sym, ◌∙◌, append_assoc}
use Rattle.std.proofs.lemmas.List.{drop_all, drop_more}
use Rattle.run_traffic.specs.Lines.{line_behind}

-- a line behind two texts is the line behind the second, behind the first
pub behind-append : (first second ns : List ℕ) → line_behind (first ++ second) ns ≡ first ++ line_behind second ns
behind-append first second [] = append_assoc first second (10 ∷ [])
behind-append first second (n ∷ ns) =
    ap (λ text. line_behind text ns) (append_assoc first second (32 ∷ decimal n))
    ∙ behind-append first (second ++ 32 ∷ decimal n) ns

-- one more number
pub number_more : (text spaced next whole ns : List ℕ) (i n d : ℕ) → i < length ns → n ≡ get_or ns i d
    → spaced ≡ text ++ 32 ∷ [] → next ≡ spaced ++ decimal n → line_behind text (drop i ns) ≡ whole
    → line_behind next (drop (i + 1) ns) ≡ whole
number_more text spaced next whole ns i n d low same parted grown before =
    ap (λ x. line_behind x (drop (i + 1) ns))
    (grown ∙ ap (λ x. x ++ decimal n) parted ∙ append_assoc text (32 ∷ []) (decimal n) ∙ ap (λ m. text ++ 32 ∷ decimal m) same)
    ∙ ap (line_behind text) (sym (drop_more ns i d low))
    ∙ before

-- the line feed behind the last number
pub line_done : (text next whole ns : List ℕ) (i : ℕ) → length ns ≤ i → next ≡ text ++ 10 ∷ []
    → line_behind text (drop i ns) ≡ whole → next ≡ whole
line_done text next whole ns i all grown before = grown ∙ ap (line_behind text) (sym (drop_all i ns all)) ∙ before
