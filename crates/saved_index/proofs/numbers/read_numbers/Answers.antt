-- The next number stands behind the others, or is none.
use Rattle.std.proofs.Common.{◌≡◌, ℕ, ◌+◌, ◌++◌, List, [], ◌∷◌, drop, length, map, ap, refl, sym, ◌∙◌, subst, arith, append_assoc, append-nil, length-append}
use Rattle.std.proofs.lemmas.List.{drop-drop, length-drop, map-append}
use Rattle.isax_word.specs.declared.member.Member.{Member}
use Rattle.saved_index.specs.Membership.{number_of}
use Rattle.saved_index.specs.Reading.{numbers_in}
use Rattle.saved_index.proofs.NumbersRead.{AreTold, none_told, one_number_more, no_number, too_short, too_low, too_high, all_numbers}
use Rattle.saved_index.proofs.numbers.read_numbers.Goals as goal
use Rattle.saved_index.proofs.numbers.read_numbers.Goals.{then-number-least-via-then-number-least, then-number-least-via-else-number-least+then-number-count}

pub returns-in_default-clause-refused : goal.returns-in_default-clause-refused
returns-in_default-clause-refused c = λ refused.
    let rest = drop c.loop-i.at c.args.bytes.now in
    no_number _ c.loop-i.invariant.numbers c.args.many c.loop-i._i c.loop-i.least c.args.count rest c.loop-i-test.true
    c.loop-i.invariant.told (too_short c.loop-i.least c.args.count rest c.in_default.ensures.none)

pub returns-then-number-least-clause-refused : goal.returns-then-number-least-clause-refused
returns-then-number-least-clause-refused c = λ refused.
    let rest = drop c.loop-i.at c.args.bytes.now in
    let least = c.loop-i.least in
    let n = c.in-Some.number in
    let is = c.in-Some.ensures.some.1 in
    no_number _ c.loop-i.invariant.numbers c.args.many c.loop-i._i least c.args.count rest c.loop-i-test.true c.loop-i.invariant.told
    (elim c.then-number-least.branch [
      | then-number-least-via-then-number-least w ↦ too_low least c.args.count n rest is (omega arith)
      | then-number-least-via-else-number-least+then-number-count w ↦ too_high least c.args.count n rest is (omega arith)
    ])

pub loop-i-init : goal.loop-i-init
loop-i-init c = record {
  numbers = [];
  told = let all = numbers_in c.args.many 0 c.args.count (drop c.args.from c.args.bytes.now) in
      subst (λ left. AreTold all [] left 0 c.args.count (drop c.args.from c.args.bytes.now)) (omega arith)
      (none_told c.args.many c.args.count (drop c.args.from c.args.bytes.now));
  long = refl;
  put = sym (append-nil (map number_of c.args.members.now.items));
  within = c.requires;
  at = omega arith;
  kept = omega arith;
}

pub loop-i-preserved : goal.loop-i-preserved
loop-i-preserved c =
    let bytes = c.args.bytes.now in
    let at = c.loop-i.at in
    let rest = drop at bytes in
    let was = c.loop-i.invariant in
    let n = c.in-Some.number in
    let told = c.in-Some.ensures.some in
    let next : drop (at + 4) bytes ≡ drop 4 rest
    = ap (λ k. drop k bytes) (omega arith) ∙ sym (drop-drop 4 at bytes) in
    let one : List Member = record { number = n; full = c.args.word } ∷ [] in
    let pushed = c.in_ok-push.ensures.items in
    record {
      numbers = was.numbers ++ n ∷ [];
      told = one_number_more _ was.numbers c.args.many c.loop-i._i c.loop-i.least c.args.count n rest
          (drop (at + 4) bytes) c.loop-i-test.true was.told told.0 told.1 (omega arith) (omega arith) next;
      long = length-append was.numbers (n ∷ []) ∙ ap (λ k. k + 1) was.long;
      put = ap (map number_of) pushed ∙ map-append number_of c.loop-i.members.items one
          ∙ ap (λ (xs : List ℕ). xs ++ n ∷ []) was.put
          ∙ append_assoc (map number_of c.args.members.now.items) was.numbers (n ∷ []);
      within = omega (arith, told.0, length-drop at bytes);
      at = omega (arith, was.at);
      kept = omega (arith, was.kept, ap (λ (ms : List Member). length ms) pushed, length-append c.loop-i.members.items one);
    }

pub returns-clause-read : goal.returns-clause-read
returns-clause-read c =
    let was = c.loop-i.invariant in
    record {
      numbers = was.numbers;
      is = all_numbers _ was.numbers c.args.many c.loop-i._i c.loop-i.least c.args.count (drop c.loop-i.at c.args.bytes.now)
          (omega arith) was.told;
      long = was.long ∙ omega (arith, c.loop-i-test.false, c.loop-i.auto._i-end);
      put = was.put;
    }
