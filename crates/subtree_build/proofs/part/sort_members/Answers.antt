-- A sort by number puts members of different numbers into their one order.
use Rattle.std.proofs.Common.{rules}
use Rattle.std.proofs.lemmas.List.Sorted.{IsNonDecreasingBy-from_sort_by_key}
use Rattle.isax_word.specs.declared.member.Member.{Member}
use Rattle.subtree_build.proofs.ByNumber.{sorted_is_by_number}
use Rattle.subtree_build.proofs.part.sort_members.Goals as goal

pub returns-clause-sorted : goal.returns-clause-sorted
returns-clause-sorted c =
    let sorted = c.sort_unstable_by_key.new.self.items in
    sorted_is_by_number c.args.members.now.items sorted c.requires c.sort_unstable_by_key.ensures.permutation
    (IsNonDecreasingBy-from_sort_by_key (λ (m : Member). m.number) sorted
    c.sort_unstable_by_key.ensures.sorted (λ a r q k. search rules))
