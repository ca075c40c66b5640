-- Each count grows by the next bit of one more member.
use Rattle.std.proofs.Common.{◌≡◌, ℕ, ◌+◌, ◌-◌, ◌^◌, ◌<◌, ◌≤◌, arith, ap, sym, subst, ◌∙◌, List, length, get_or, replicate}
use Rattle.std.specs.Simd.Lanes.{zip2, Each1}
use Rattle.std.proofs.lemmas.List.{get_or_append_left, length-append, length-replicate}
use Rattle.std.proofs.lemmas.Nat.Bits.{bit_at-lt}
use Rattle.std.proofs.lemmas.Simd.{length-zip2, get_or-zip2, Each1-weaker}
use Rattle.isax_word.specs.Word.{part_at, next_bit_at}
use Rattle.subtree_build.specs.NextBits.{has_bit}
use Rattle.subtree_build.specs.Splitting.{goes_high}
use Rattle.subtree_build.proofs.BitLanes.{bits_few, has_next_bit, count_grows, sums_stay_few}
use Rattle.subtree_build.proofs.split.high_counts_of_few.Goals as goal

pub bits_added-counts-requires-clause-room : goal.bits_added-counts-requires-clause-room
bits_added-counts-requires-clause-room c =
    Each1-weaker (λ n. n ≤ c.loop-member.member-index) (λ n. n + 1 < 2 ^ 8)
    (λ n low. omega (arith, low, c.requires.few, c.loop-member-test.true))
    c.loop-member.counts c.loop-member.invariant.few

pub loop-member-preserved : goal.loop-member-preserved
loop-member-preserved c =
    let word = c.args.word.now in
    let members = c.args.members.now in
    let m = c.member-item.result in
    let i = c.loop-member.member-index in
    let counts = c.loop-member.counts in
    let symbols = c.symbols.result.now in
    let places = c.next_places-places.result in
    let bits = zip2 has_bit symbols places in
    let long : length m.full ≡ length word = ap (λ x. length x.full) c.member-item.is ∙ c.requires.segments i m c.loop-member-test.true in
    let padding : List ℕ = replicate (16 - length m.full) 0 in
    let symbols_long : length symbols ≡ 16
    = ap (λ l. length l) c.symbols.ensures ∙ length-append m.full padding
    ∙ omega (arith, length-replicate {A = ℕ} (16 - length m.full) 0, long, c.next_places-places.ensures.few) in
    let places_long = c.next_places-places.ensures.lanes in
    let bits_long : length bits ≡ 16 = length-zip2 has_bit symbols places (symbols_long ∙ sym places_long) ∙ symbols_long in
    record {
      lanes = c.type_inv.counts.0;
      counted = λ j low.
          let inside : j < 16 = omega (arith, low, c.next_places-places.ensures.few) in
          let symbol : get_or symbols j 0 ≡ get_or m.full j 0
          = ap (λ l. get_or l j 0) c.symbols.ensures
          ∙ get_or_append_left m.full padding 0 j (omega (arith, low, long)) in
          let bit : has_bit (get_or symbols j 0) (get_or places j 0) ≡ next_bit_at word m.full j
          = ap (λ s. has_bit s (get_or places j 0)) symbol
          ∙ ap (λ p. has_bit (get_or m.full j 0) p) (c.next_places-places.ensures.places j low)
          ∙ has_next_bit (part_at word j).bits (get_or m.full j 0) in
          let step = count_grows (goes_high word j) members i m (next_bit_at word m.full j)
          (bit_at-lt (get_or m.full j 0) (8 - ((part_at word j).bits + 1)))
          c.loop-member-test.true (ap (goes_high word j) (sym c.member-item.is)) in
          let grown = ap (λ l. get_or l j 0) c.bits_added-counts.ensures
          ∙ get_or-zip2 (λ n b. n + b) counts bits j 0 0 0 (omega (arith, inside, c.loop-member.invariant.lanes)) (omega (arith, inside, bits_long))
          ∙ ap (λ b. get_or counts j 0 + b)
          (get_or-zip2 has_bit symbols places j 0 0 0 (omega (arith, inside, symbols_long)) (omega (arith, inside, places_long))) in
          let before = c.loop-member.invariant.counted j low in
          omega (arith, grown, bit, step, before);
      few = subst (Each1 (λ n. n ≤ i + 1)) (sym c.bits_added-counts.ensures)
          (sums_stay_few i counts bits c.loop-member.invariant.few (bits_few symbols places));
    }
