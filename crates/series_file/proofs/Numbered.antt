-- The numbers of the series are labels of the collection (`spells_numbered`), and they are written one after another.
use Rattle.std.proofs.Common.{◌≡◌, ℕ, ◌+◌, ◌<◌, ◌≤◌, List, [], ◌∷◌, ◌++◌, length, Some, refl, sym, ap, ◌∙◌, zero, suc, append_assoc, append-nil, subst, arith}
use Rattle.std.specs.Prelude.{◌^◌}
use Rattle.std.specs.List.{All, range_with_len}
use Rattle.std.proofs.lemmas.List.Concat.{flat_map-append}
use Rattle.std.proofs.lemmas.List.Elements.{All-from_get_or}
use Rattle.std.proofs.lemmas.List.FromFn.{get_or-range_with_len, length-range_with_len}
use Rattle.byteorder.specs.Endian.{little_bytes}
use Rattle.series_core.specs.Collection.{Collection, IsCollection}
use Rattle.series_file.specs.Format.{labels_text, numbers_of, text, SpellsFile}
use Rattle.series_file.specs.declared.error.Form.TheVariants.{Headed}

-- one number more is counted
counted_next : (a n last : ℕ) → a + n ≡ last → range_with_len a (suc n) ≡ range_with_len a n ++ last ∷ []
counted_next a zero last e =
    let same : a ≡ last = omega (arith, e) in
    ap (λ k. k ∷ []) same
counted_next a (suc n) last e = ap (λ ks. a ∷ ks) (counted_next (a + 1) n last (omega (arith, e)))

-- one number more is written behind those before it
pub numbers_next : (i : ℕ) (old one two number : List ℕ) → one ≡ old ++ labels_text (range_with_len 0 i)
    → number ≡ little_bytes 8 i → two ≡ one ++ number → two ≡ old ++ labels_text (range_with_len 0 (i + 1))
numbers_next i old one two number e f g =
    let next : suc i ≡ i + 1 = omega arith in
    g
    ∙ ap (λ xs. xs ++ number) e
    ∙ append_assoc old (labels_text (range_with_len 0 i)) number
    ∙ ap (λ xs. old ++ xs)
    (ap (λ xs. labels_text (range_with_len 0 i) ++ xs) (f ∙ sym (append-nil (little_bytes 8 i)))
    ∙ sym (flat_map-append (little_bytes 8) (range_with_len 0 i) (i ∷ []))
    ∙ ap labels_text (sym (counted_next 0 i i (omega arith)) ∙ ap (range_with_len 0) next))

-- numbers of no more than 2^64 series fit labels
numbers_fit : (count : ℕ) → count ≤ 2 ^ 64 → All (λ l. l < 2 ^ 64) (range_with_len 0 count)
numbers_fit count few = All-from_get_or (λ l. l < 2 ^ 64) (range_with_len 0 count) 0 (λ i within.
    let below : i < count = omega (arith, within, length-range_with_len 0 count) in
    subst (λ l. l < 2 ^ 64) (sym (get_or-range_with_len 0 count i 0 below)) (omega (arith, below, few)))

-- the numbers of the series are labels of the collection
pub spells_numbered : (rows : Collection) → IsCollection rows
    → SpellsFile rows (Some (numbers_of rows)) (text Headed rows (Some (numbers_of rows)))
spells_numbered rows sound total = record {
  sound = sound;
  total = total;
  fits = (
    length-range_with_len 0 (length rows.series),
    numbers_fit (length rows.series) (omega (arith, sound.count_limit)),
  );
  spelled = refl;
}
