-- A member's full word has a symbol for each segment, and a member whose full word is farther than may be is farther.
use Rattle.std.proofs.Common.{◌≤◌, ◌∙◌, ℕ, List, [], ap, length, subst, sym, arith}
use Rattle.isax_word.specs.declared.member.Member.{Member}
use Rattle.lower_bound.proofs.Bounds.{full_bound_below_distance}
use Rattle.lower_bound.specs.Bound.{View, eight_bit_word, word_bound}
use Rattle.subtree_build.proofs.Bounds.{length-full_word}
use Rattle.subtree_build.specs.Members.{series_at}
use Rattle.search_task.proofs.Meeting.{far_is, meet_far}
use Rattle.search_task.specs.Questions.{IsMemberOf, IsQuestion, Question, view_in}
use Rattle.search_task.proofs.task.Task.measure_by_word.Goals as goal

-- the bound of a member's full word is at most the distance of its series
word_is_below : (a : Question) (m : Member) → IsQuestion a → IsMemberOf a m
    → word_bound (view_in a) (eight_bit_word m.full) ≤ far_is a m.number
word_is_below a m is member =
    let series = series_at a.collection m.number in
    let whole = is.collection.each m.number [] member.series in
    subst (λ (full : List ℕ). word_bound (view_in a) (eight_bit_word full) ≤ far_is a m.number) (sym member.word)
    (full_bound_below_distance a.layout series a.query is.cuts (whole.points ∙ is.points) is.query)

pub bound_full-requires : goal.bound_full-requires
bound_full-requires g c =
    let a = c.args.self.now in
    ap (λ (full : List ℕ). length full) c.requires.member.word
    ∙ length-full_word a.layout (series_at a.collection c.args.member.now.number)
    ∙ ap (λ (view : View). view.layout.cuts.segments) (sym c.view.ensures.view)

pub returns-else-bound_full-most-clause-pairs : goal.returns-else-bound_full-most-clause-pairs
returns-else-bound_full-most-clause-pairs g c =
    let a = c.args.self.now in
    let m = c.args.member.now in
    let bound = c.bound_full.ensures.value ∙ ap (λ (view : View). word_bound view (eight_bit_word m.full)) c.view.ensures.view in
    let below = word_is_below a m c.view.ensures.question c.requires.member in
    meet_far a m c.args.list.now c.args.limit c.args.most c.view.ensures.question c.requires.member c.requires.list
    (omega (arith, bound, below, c.if-bound_full-most.false))
