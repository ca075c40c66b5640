-- The codes of the member at a place stand behind those of the members before it.
use Rattle.std.proofs.Common.{◌≡◌, ◌<◌, ◌∙◌, ℕ, List, length, get_or, ap, subst, sym}
use Rattle.std.specs.Prelude.{slice_index}
use Rattle.std.proofs.lemmas.List.{get_or-map}
use Rattle.series_core.specs.Distance.{squared_distance}
use Rattle.isax_word.specs.declared.member.Member.{Member}
use Rattle.subtree_build.specs.Members.{numbers_of, series_at}
use Rattle.search_task.proofs.CodeRows.{codes_at_one, codes_within, member_at}
use Rattle.search_task.proofs.task.Task.codes_at_may_be_within.Goals as goal

-- the number at a place is that of the member there
number_at : (i : ℕ) (members : List Member) (m : Member) → i < length members → m ≡ get_or members i m
    → m.number ≡ slice_index (numbers_of members) i
number_at i members m inside item =
    ap (λ (x : Member). x.number) item ∙ sym (get_or-map (λ (x : Member). x.number) members i m 0 inside)

pub codes_at_place-own-requires : goal.codes_at_place-own-requires
codes_at_place-own-requires g c =
    codes_within c.args.self.now c.args.members.now c.args.codes.now c.code_blocks-blocks.result c.args.place
    c.code_blocks-blocks.ensures.question c.requires.coded c.code_blocks-blocks.ensures.count c.requires.place

pub codes_may_be_within-requires-clause-member : goal.codes_may_be_within-requires-clause-member
codes_may_be_within-requires-clause-member g c =
    member_at c.args.self.now c.args.members.now c.args.codes.now c.code_blocks-blocks.result c.args.place
    c.code_blocks-blocks.ensures.question c.requires.coded c.code_blocks-blocks.ensures.count c.requires.place
    c.index-members-place.result c.index-members-place.is

pub codes_may_be_within-requires-clause-codes : goal.codes_may_be_within-requires-clause-codes
codes_may_be_within-requires-clause-codes g c =
    codes_at_one c.args.self.now c.args.members.now c.args.codes.now c.code_blocks-blocks.result c.args.place
    c.code_blocks-blocks.ensures.question c.requires.coded c.code_blocks-blocks.ensures.count c.requires.place
    c.codes_at_place-own.result.now c.index-members-place.result c.index-members-place.is c.codes_at_place-own.ensures

pub returns : goal.returns
returns g c above =
    let a = c.args.self.now in
    subst (λ (s : ℕ). c.args.limit.now < squared_distance (series_at a.collection s) a.query)
    (number_at c.args.place c.args.members.now c.index-members-place.result c.requires.place c.index-members-place.is)
    (c.codes_may_be_within.ensures above)
