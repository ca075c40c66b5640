-- One pair more.
use Rattle.std.proofs.Common.{◌≡◌, ℕ, ◌+◌, List, ◌<◌, ◌++◌, ◌∷◌, length, get_or, map, take, refl, sym, ap, ◌∙◌, arith}
use Rattle.std.proofs.lemmas.List.{get_or-map, length-map}
use Rattle.series_core.specs.Pairs.{smallest}
use Rattle.series_core.specs.declared.pair.Pair.{Pair}
use Rattle.series_core.proofs.Smallest.{smallest_next}
use Rattle.live_collection.specs.Numbers.{counted_from}
use Rattle.live_collection.proofs.Counting.{best_itself}
use Rattle.live_collection.proofs.searching.add_counted.Goals as goal

-- one pair more, counted from its number on
one_more : (k at first : ℕ) (found qs held : List Pair) (d : Pair) → at < length found → at < length (map (counted_from first) found)
    → held ≡ smallest k (take at (map (counted_from first) found) ++ qs) → (new : List Pair) → {m : ℕ} → m ≡ k
    → new ≡ smallest m (counted_from first (get_or found at d) ∷ held)
    → new ≡ smallest k (take (at + 1) (map (counted_from first) found) ++ qs)
one_more k at first found qs held d low low' h new {m} e n =
    n ∙ ap (λ z. smallest z (counted_from first (get_or found at d) ∷ held)) e
    ∙ ap (λ (p : Pair). smallest k (p ∷ held)) (sym (get_or-map (counted_from first) found at d (counted_from first d) low))
    ∙ smallest_next k at (map (counted_from first) found) qs held (counted_from first d) low' h

pub loop-pair-init : goal.loop-pair-init
loop-pair-init c = record {
  k = refl;
  pairs = best_itself c.args.best.now c.pairs-held.ensures.sound;
}

pub loop-pair-preserved : goal.loop-pair-preserved
loop-pair-preserved c =
    let first = c.args.first in
    let found = c.args.found.now in
    let at = c.loop-pair.pair-index in
    let best = c.args.best.now in
    let low : at < length (map (counted_from first) found) = omega (arith, length-map found (counted_from first), c.loop-pair-test.true) in record {
      k = c.add.ensures.k ∙ c.loop-pair.invariant.k;
      pairs = one_more best.k at first found best.pairs c.loop-pair.best.pairs _ c.loop-pair-test.true low c.loop-pair.invariant.pairs _
          c.loop-pair.invariant.k c.add.ensures.pairs;
    }
