-- Each half has its own places, and fewer members.
use Rattle.std.proofs.Common.{◌≡◌, ◌∙◌, ℕ, ◌+◌, ◌*◌, ◌/◌, ◌<◌, ◌≤◌, List, [], arith, sym, ap, length, subst, All}
use Rattle.std.proofs.lemmas.List.Elements.{All-drop, All-take}
use Rattle.std.proofs.lemmas.Option.{get_or_from_slice_get}
use Rattle.series_core.specs.Collection.{Collection}
use Rattle.isax_word.specs.declared.layout.Layout.{Layout}
use Rattle.isax_word.specs.declared.member.Member.{Member}
use Rattle.row_codes.specs.Rows.{Block, block_count}
use Rattle.subtree_build.specs.Means.{HavePlaces}
use Rattle.subtree_build.proofs.SideBySide.{one_row}
use Rattle.subtree_build.proofs.means.+fill_in_turn.Goals as goal

pub fill_from-requires-clause-values : goal.fill_from-requires-clause-values
fill_from-requires-clause-values g t c =
    let all = g.R.Rows.collection c.args.source.now.rows.now in
    one_row all c.args.members.now c.member-item.result c.row.result.now
    (omega (arith, c.in-len1.len_at_least, c.in-len1.len_below)) c.member-item.is
    (sym (get_or_from_slice_get all.series _ c.row.result.now [] c.row.ensures))

-- some of the members, with as many places, have places of their own
some_of : (all : Collection) (layout : Layout) (coded : ℕ) (members own : List Member) (means own_means : List (List ℕ))
    (codes own_codes : List Block) → HavePlaces all layout coded members means codes → ((P : Member → Type 0) → All P members → All P own)
    → length own ≤ length members → length own_means ≡ length own → length own_codes ≡ length own * block_count coded
    → HavePlaces all layout coded own own_means own_codes
some_of all layout coded members own means own_means codes own_codes have of_some few means_places codes_places = record {
  row_length = have.row_length;
  coded_length = have.coded_length;
  short = have.short;
  series = of_some (λ m. m.number < length all.series) have.series;
  few = omega (arith, few, have.few);
  means_places = means_places;
  codes_places = codes_places;
}

pub fill_in_turn-requires : goal.fill_in_turn-requires
fill_in_turn-requires g t c κs within =
    let split = c.split_at.ensures in (
      omega (arith, c.decreases, split.front_len, c.in_default.len_at_least),
      (
        within,
        some_of _ _ _ _ _ _ _ _ _ c.requires (λ P are. subst (All P) (sym split.front) (All-take P _ c.args.members.now are))
            (omega (arith, split.front_len)) (omega (arith, split.front_len, c.split_at_mut-low_means.ensures.front_len))
            (c.split_at_mut-low_codes.ensures.front_len
            ∙ ap (λ k. length c.args.members.now / 2 * k) c.block_count.ensures.value
            ∙ ap (λ k. k * block_count c.args.source.now.coded) (sym split.front_len)),
      ),
    )

-- what the first members leave of the places
rest_of : (mid back blocks members places used : ℕ) {left : ℕ} → members ≡ mid + back → places ≡ members * blocks → used ≡ mid * blocks
    → left + used ≡ places → left ≡ back * blocks
rest_of mid back blocks members places used whole all front behind =
    omega (arith, all, front, behind, ap (λ n. n * blocks) whole)

pub fill_in_turn-requires-in_default : goal.fill_in_turn-requires-in_default
fill_in_turn-requires-in_default g t c κs within =
    let split = c.split_at.ensures in
    let mid = length c.args.members.now / 2 in (
      omega (arith, c.decreases, split.back_len, c.in_default.len_at_least),
      (
        within,
        some_of _ _ _ _ _ _ _ _ _ c.requires (λ P are. subst (All P) (sym split.back) (All-drop P _ c.args.members.now are))
            (omega (arith, split.back_len)) (omega (arith, split.back_len, c.split_at_mut-low_means.ensures.back_len, c.requires.means_places))
            (rest_of mid (length c.split_at.result.1.now) (block_count c.args.source.now.coded) _ _ _ (omega (arith, split.back_len))
            c.requires.codes_places (ap (λ k. mid * k) c.block_count.ensures.value) c.split_at_mut-low_codes.ensures.back_len),
      ),
    )
