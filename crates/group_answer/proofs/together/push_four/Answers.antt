-- Four answers more are right.
use Rattle.std.proofs.Common.{◌≡◌, ℕ, ◌+◌, ◌++◌, ◌∷◌, [], List, ap, length, subst, sym, ◌∙◌, arith}
use Rattle.std.specs.List.{All}
use Rattle.std.proofs.lemmas.List.{length_push}
use Rattle.std.proofs.lemmas.List.Elements.{All-push}
use Rattle.group_answer.specs.Asking.{IsAnswer}
use Rattle.group_answer.specs.declared.asked.Answered.{Answered}
use Rattle.group_answer.proofs.together.push_four.Goals as goal

-- one answer more is right too
right_more : (P : Answered → Type 0) (before after : List Answered) (one : Answered) → after ≡ before ++ one ∷ [] → All P before → P one
    → All P after
right_more P before after one whole all right = subst (All P) (sym whole) (All-push P before one all right)

-- and they are one more
one_more : (before after : List Answered) (one : Answered) → after ≡ before ++ one ∷ [] → length after ≡ length before + 1
one_more before after one whole =
    let count = ap (λ (fs : List Answered). length fs) whole in
    omega (arith, count, length_push before one)

pub returns : goal.returns
returns g c =
    let P = IsAnswer g.R.Rows.collection c.args.asked.now in
    let first = c.in_ok-push.ensures.items in
    let second = c.in_ok-push-2.ensures.items in
    let third = c.in_ok-push-3.ensures.items in
    let fourth = c.in_ok-push-4.ensures.items in
    record {
      few = omega (arith, one_more _ _ _ first, one_more _ _ _ second, one_more _ _ _ third, one_more _ _ _ fourth);
      right = right_more P _ _ _ fourth
          (right_more P _ _ _ third
          (right_more P _ _ _ second
          (right_more P _ _ _ first c.requires.right c.in_ok-d.ensures) c.in_ok-c.ensures) c.in_ok-b.ensures) c.in_ok-a.ensures;
    }
