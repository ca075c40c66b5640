-- A text is cut at its first byte of a kind in one way.
use Rattle.std.proofs.Common.{◌≡◌, ℕ, zero, suc, ◌+◌, ◌<◌, ◌≤◌, List, [], ◌∷◌, ◌++◌, length, take, drop, get_or, true, false, refl, sym, ap, ◌∙◌, ⊎_elim, arith}
use Rattle.std.specs.Prelude.{◌==◌, not}
use Rattle.std.proofs.lemmas.Bool.{cases_Bool, and_parts, and_from, not_from_false, not-true, eq-eqb, eqb-true, both_ways}
use Rattle.std.proofs.lemmas.List.{take_all, drop_more, take-append-drop}
use Rattle.std.proofs.lemmas.List.Folds.{list_all-append}
use Rattle.live_script.specs.Lines.{lacks, IsCut}

-- the first bytes of a text lack what stands at none of their places
pub lacks_before : (byte : ℕ) (text : List ℕ) (i : ℕ) → i ≤ length text
    → ((k : ℕ) → k < i → (get_or text k 0 == byte) ≡ true → ⊥) → lacks byte (take i text) ≡ true
lacks_before byte text zero below none = refl
lacks_before byte [] (suc i) below none = absurd (omega arith)
lacks_before byte (c ∷ text) (suc i) below none =
    and_from (not (c == byte)) (lacks byte (take i text))
    (⊎_elim
    (λ (is : (c == byte) ≡ true). absurd (none zero (omega arith) is))
    (λ (other : (c == byte) ≡ false). not_from_false (c == byte) other)
    (cases_Bool (c == byte)))
    (lacks_before byte text i (omega arith) (λ k h e. none (suc k) (omega arith) e))

-- a text that has the byte at none of its places lacks it
pub lacks_all : (byte : ℕ) (text : List ℕ)
    → ((k : ℕ) → k < length text → (get_or text k 0 == byte) ≡ true → ⊥) → lacks byte text ≡ true
lacks_all byte text none =
    ap (lacks byte) (sym (take_all (length text) text (omega arith)))
    ∙ lacks_before byte text (length text) (omega arith) none

-- the first place of a byte is where the text is cut
pub cut_here : (byte : ℕ) (text : List ℕ) (i : ℕ) → i < length text
    → ((k : ℕ) → k < i → (get_or text k 0 == byte) ≡ true → ⊥) → (get_or text i 0 == byte) ≡ true
    → IsCut byte text (take i text) (drop (i + 1) text)
cut_here byte text i below none here = record {
  first = lacks_before byte text i (omega arith) none;
  joined =
      sym (take-append-drop i text)
      ∙ ap (λ (t : List ℕ). take i text ++ t) (drop_more text i 0 below)
      ∙ ap (λ c. take i text ++ (c ∷ drop (i + 1) text)) (eqb-true (get_or text i 0) byte here);
}

-- a text that has the byte does not lack it
pub lacks_not : (byte : ℕ) (front behind : List ℕ) → lacks byte (front ++ (byte ∷ behind)) ≡ true → ⊥
lacks_not byte [] behind lacking =
    both_ways (byte == byte)
    (not-true (byte == byte) (and_parts (not (byte == byte)) (lacks byte behind) lacking).0)
    (eq-eqb byte byte refl)
lacks_not byte (c ∷ front) behind lacking =
    lacks_not byte front behind (and_parts (not (c == byte)) (lacks byte (front ++ (byte ∷ behind))) lacking).1

-- what two texts lack, both together lack
pub lacks_both : (byte : ℕ) (front behind : List ℕ) → lacks byte front ≡ true → lacks byte behind ≡ true
    → lacks byte (front ++ behind) ≡ true
lacks_both byte front behind first second =
    list_all-append (λ c. not (c == byte)) front behind ∙ and_from (lacks byte front) (lacks byte behind) first second

-- of two texts joined by the byte, which their fronts lack, fronts and ends are equal where they are
pub same_cut : (byte : ℕ) (front other behind more : List ℕ) → lacks byte front ≡ true → lacks byte other ≡ true
    → front ++ (byte ∷ behind) ≡ other ++ (byte ∷ more) → (front ≡ other) × (behind ≡ more)
same_cut byte [] [] behind more first second e = (refl, cc)
same_cut byte [] (d ∷ other) behind more first second e =
    let same : byte ≡ d = cc in
    absurd (both_ways (d == byte)
    (not-true (d == byte) (and_parts (not (d == byte)) (lacks byte other) second).0)
    (eq-eqb d byte (sym same)))
same_cut byte (c ∷ front) [] behind more first second e =
    let same : c ≡ byte = cc in
    absurd (both_ways (c == byte)
    (not-true (c == byte) (and_parts (not (c == byte)) (lacks byte front) first).0)
    (eq-eqb c byte same))
same_cut byte (c ∷ front) (d ∷ other) behind more first second e =
    let head : c ≡ d = cc in
    let tail : front ++ (byte ∷ behind) ≡ other ++ (byte ∷ more) = cc in
    let rest = same_cut byte front other behind more
    (and_parts (not (c == byte)) (lacks byte front) first).1
    (and_parts (not (d == byte)) (lacks byte other) second).1 tail in
    (cc (head, rest.0), rest.1)
