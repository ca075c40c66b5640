-- One more group is that of the next boxes; where none is left, all are in groups.
use Rattle.std.proofs.Common.{◌≡◌, ◌-◌, ◌+◌, ◌*◌, ◌++◌, ◌∷◌, [], List, arith, length, length-append, length-drop, drop, take, ap, sym, subst, ◌∙◌}
use Rattle.std.specs.Prelude.{min}
use Rattle.mean_bound.specs.Boxes.{Box, box_of_boxes}
use Rattle.subtree_build.proofs.Grouping.{FirstGroups, all_grouped, back_is, behind_more, front_is, group_more}
use Rattle.subtree_build.proofs.boxes.grouped.Goals as goal

pub loop-rest-init : goal.loop-rest-init
loop-rest-init c =
    let none = c.new-groups.ensures.items in
    let nothing : length c.new-groups.result.items ≡ 0 = ap (λ (bs : List Box). length bs) none in
    record {
      left = ap (λ n. drop n c.args.boxes.now) {x = 0} {y = length c.new-groups.result.items * c.args.size}
          (omega (arith, ap (λ n. n * c.args.size) nothing));
      first = λ g inside. absurd (omega (arith, inside, nothing));
    }

pub loop-rest-smaller : goal.loop-rest-smaller
loop-rest-smaller c = omega (arith, c.requires.some, c.split_at.ensures.back_len, c.loop-rest-test.true)

pub loop-rest-preserved : goal.loop-rest-preserved
loop-rest-preserved c =
    let groups = c.loop-rest.groups.items in
    let rest = c.loop-rest.rest.now in
    let size = c.args.size in
    let pushed : c.push.new.self.items ≡ groups ++ c.around_boxes.result ∷ [] = c.in_ok-push.ensures.items in
    let more : length c.push.new.self.items ≡ length groups + 1
    = ap (λ (bs : List Box). length bs) pushed ∙ length-append groups (c.around_boxes.result ∷ []) in
    let least : c.min.result ≡ min size (length rest) = omega arith in
    let group : c.around_boxes.result ≡ box_of_boxes (take size rest)
    = c.around_boxes.ensures ∙ ap (λ (bs : List Box). box_of_boxes bs) (c.split_at.ensures.front ∙ ap (λ n. take n rest) least ∙ front_is size rest) in
    record {
      left = c.split_at.ensures.back ∙ ap (λ n. drop n rest) least ∙ back_is size rest
          ∙ behind_more size (length groups) c.args.boxes.now rest c.loop-rest.invariant.left
          ∙ ap (λ n. drop (n * size) c.args.boxes.now) (sym more);
      first = subst (λ (bs : List Box). FirstGroups size c.args.boxes.now (length c.push.new.self.items) bs) (sym pushed)
          (subst (λ n. FirstGroups size c.args.boxes.now n (groups ++ c.around_boxes.result ∷ [])) (sym more)
          (group_more size c.args.boxes.now rest groups c.around_boxes.result c.loop-rest.invariant.left group
          c.loop-rest.invariant.first));
    }

pub returns : goal.returns
returns c =
    let groups = c.loop-rest.groups.items in
    let left : length c.loop-rest.rest.now ≡ length c.args.boxes.now - length groups * c.args.size
    = ap (λ (bs : List Box). length bs) c.loop-rest.invariant.left ∙ length-drop (length groups * c.args.size) c.args.boxes.now in
    all_grouped c.args.size (length groups) c.args.boxes.now groups (omega (arith, left, c.loop-rest-test.false))
    c.loop-rest.invariant.first
