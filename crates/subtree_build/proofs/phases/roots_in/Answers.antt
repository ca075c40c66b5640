-- What was spliced out of buffers that together hold all members holds the members of each root, and root children can be built from it.
use Rattle.std.proofs.Common.{List, sym, subst}
use Rattle.isax_word.specs.declared.member.Member.{Member}
use Rattle.subtree_build.specs.Summaries.{HoldAllMembers}
use Rattle.subtree_build.proofs.Rooting.{can_build, few_roots, holds_roots}
use Rattle.subtree_build.proofs.phases.roots_in.Goals as goal

pub returns-clause-roots : goal.returns-clause-roots
returns-clause-roots g c =
    let rows = g.R.Rows.collection c.args.rows.now in
    let layout = c.args.settings.now.layout in
    let buffers = c.as_mut_slice.result.now in
    let P : List (List (List Member)) → Type 0 = λ bs. HoldAllMembers layout rows bs in
    holds_roots layout rows buffers c.in_ok-found.found c.root_numbers-roots.result
    c.root_numbers-roots.ensures.divides c.requires.sound
    (subst P (sym c.as_mut_slice.ensures.value) c.requires.members)
    c.root_numbers-roots.ensures.value c.in_ok-found.ensures.roots c.in_ok-found.ensures.lists

pub returns-clause-can : goal.returns-clause-can
returns-clause-can g c =
    can_build c.args.settings.now (g.R.Rows.collection c.args.rows.now) c.in_ok-found.found (returns-clause-roots g c)

pub returns-clause-few : goal.returns-clause-few
returns-clause-few g c =
    few_roots c.args.settings.now.layout (g.R.Rows.collection c.args.rows.now) c.in_ok-found.found (returns-clause-roots g c)
