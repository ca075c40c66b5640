-- The counts grow by those of the next members.
use Rattle.std.proofs.Common.{◌≡◌, ℕ, ◌+◌, ◌-◌, ◌<◌, ◌≤◌, arith, ap, sym, subst, ◌∙◌, length, get_or, take, drop}
use Rattle.std.specs.Prelude.{count_by}
use Rattle.std.specs.Simd.Lanes.{zip2, Each1}
use Rattle.std.proofs.lemmas.List.Elements.{All-drop}
use Rattle.std.proofs.lemmas.Simd.{get_or-zip2, length-zip2}
use Rattle.isax_word.specs.declared.member.Member.{Member}
use Rattle.subtree_build.specs.Splitting.{goes_high}
use Rattle.subtree_build.proofs.BitLanes.{count_of_parts, parts_are, parts_stay_few}
use Rattle.subtree_build.proofs.split.high_counts.Goals as goal

pub loop-rest-preserved : goal.loop-rest-preserved
loop-rest-preserved c =
    let word = c.args.word.now in
    let members = c.args.members.now in
    let rest = c.loop-rest.rest.now in
    let counts = c.loop-rest.counts in
    let was = c.loop-rest.invariant in
    let few = c.high_counts_of_few.result in
    let told = c.high_counts_of_few.ensures in
    let n = c.min.result in
    let k = length c.split_at.result.0.now in
    let within : k ≤ length rest = omega (arith, c.split_at.ensures.front_len, c.min.ensures) in
    let are = parts_are k (length rest) (length members) counts few c.requires.few within was.few told.few in
    record {
      lanes = ap (λ l. length l) are ∙ length-zip2 (λ n b. n + b) counts few (was.lanes ∙ sym told.lanes) ∙ was.lanes;
      segments = subst (λ ms. (i : ℕ) (d : Member) → i < length ms → length (get_or ms i d).full ≡ length word) (sym c.split_at.ensures.back)
          (All-drop (λ (m : Member). length m.full ≡ length word) n rest was.segments);
      counted = λ j low.
          let inside : j < 16 = omega (arith, low, told.segments) in
          let p = goes_high word j in
          let grown = ap (λ l. get_or l j 0) are
          ∙ get_or-zip2 (λ n b. n + b) counts few j 0 0 0 (omega (arith, inside, was.lanes)) (omega (arith, inside, told.lanes)) in
          let part : get_or few j 0 ≡ count_by p (take n rest) = told.counts j low ∙ ap (count_by p) c.split_at.ensures.front in
          let left : count_by p c.split_at.result.1.now ≡ count_by p (drop n rest) = ap (count_by p) c.split_at.ensures.back in
          omega (arith, grown, part, left, count_of_parts p n rest, was.counted j low);
      few = subst (λ l. Each1 (λ n. n + length c.split_at.result.1.now ≤ length members) l) (sym are)
          (subst (λ r. Each1 (λ n. n + r ≤ length members) (zip2 (λ n b. n + b) counts few))
          (let left : length rest - k ≡ length c.split_at.result.1.now = omega (arith, c.split_at.ensures.front_len, c.split_at.ensures.back_len) in left)
          (parts_stay_few k (length rest) (length members) counts few within was.few told.few));
    }
