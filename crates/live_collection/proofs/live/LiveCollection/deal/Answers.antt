-- The last pass becomes a reader.
use Rattle.std.proofs.Common.{◌≡◌, ℕ, ◌+◌, ◌<◌, ◌≤◌, ◌++◌, ◌∷◌, [], List, length, get_or, sym, ap, ◌∙◌, subst, length-append, arith}
use Rattle.turn_lock.specs.Passes.{AreNewPasses}
use Rattle.live_collection.specs.declared.batch.Batch.{Batch}
use Rattle.live_collection.specs.declared.live.Reader.{Reader}
use Rattle.live_collection.specs.Histories.{given}
use Rattle.live_collection.specs.Sides.{IsNewReader}
use Rattle.live_collection.specs.Steps.{LivePass}
use Rattle.live_collection.proofs.Dealing.{new_front, new_last, readers_more, new_all}
use Rattle.live_collection.proofs.live.LiveCollection.deal.Goals as goal

one_left : (l n r : ℕ) → l + n ≡ r + 1 → r ≤ n → n ≤ r → l ≡ 1
one_left l n r sum over end = omega arith

pub loop-preserved : goal.loop-preserved
loop-preserved c =
    let k = c.args.self.now in
    let was = c.loop.invariant in
    let left = c.pop.new.self.items in
    let pass : LivePass = c.in-Some.pass in
    let split : c.loop.passes.items ≡ left ++ pass ∷ [] = c.in-Some.ensures.items in
    let news = subst (λ (ps : List LivePass). AreNewPasses k.lock ps) split was.passes in
    let size : length c.loop.passes.items ≡ length left + 1 = ap length split ∙ length-append left (pass ∷ []) in
    let last = new_last k left pass news in
    let reader : Reader = record { pass = pass; parts = [] } in
    let made : c.put_first.new.sides.items ≡ reader ∷ c.loop.sides.items
    = c.put_first.ensures.items ∙ ap (λ (l : List Batch). (record { pass = pass; parts = l }) ∷ c.loop.sides.items) c.new.ensures in
    let below = c.loop-test.true in
    let sum = was.left in
    let new : IsNewReader k (length left) reader = record {
      reader = record {
        pass = last.0;
        some = (let n = last.1 in omega arith);
        limit = (let n = last.1 in omega arith);
        parts = sym (ap given last.3);
      };
      number = last.1;
      saw = last.2;
      made = last.3;
    } in
    record {
      passes = new_front k left pass news;
      left = (let l = was.left in omega arith);
      made = (let m = was.made in let l = ap length made in omega arith);
      room = (let r = was.room in let p = c.put_first.ensures.capacity in omega arith);
      sides = subst (λ (rs : List Reader). (i : ℕ) (d : Reader) → i < length rs → IsNewReader k (length left + i) (get_or rs i d))
          (sym made)
          (readers_more k (length left) reader c.loop.sides.items new
          (subst (λ n. (i : ℕ) (d : Reader) → i < length c.loop.sides.items → IsNewReader k (n + i) (get_or c.loop.sides.items i d))
          size was.sides));
    }

pub returns-clause-all : goal.returns-clause-all
returns-clause-all c =
    let k = c.args.self.now in
    let was = c.loop.invariant in
    let sum = was.left in
    let end = c.loop.auto.counter-end in
    let over = c.loop-test.false in
    let one : length c.loop.passes.items ≡ 1 = one_left _ _ _ sum over end in
    new_all k c.loop.sides.items
    (λ i d h. let e : length c.loop.passes.items + i ≡ i + 1 = omega arith in
    subst (λ n. IsNewReader k n (get_or c.loop.sides.items i d)) e (was.sides i d h))
    (let m = was.made in omega arith)
