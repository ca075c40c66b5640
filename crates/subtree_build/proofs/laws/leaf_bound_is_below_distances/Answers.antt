-- The law is the lemma on an index that fits.
use Rattle.std.proofs.Common.{All, List, subst}
use Rattle.isax_word.specs.declared.word.Part.{Part}
use Rattle.isax_word.specs.Word.{IsPart}
use Rattle.subtree_build.proofs.Bounds.{members_no_nearer}
use Rattle.subtree_build.proofs.laws.leaf_bound_is_below_distances.Goals as goal

pub returns : goal.returns
returns g c =
    let P : List Part → Type 0 = λ word. All IsPart word in
    members_no_nearer (g.R.Rows.collection c.args.rows.now) c.args.layout.now c.args.index.now c.args.l
    c.args.query.now c.requires.fits c.count-count.ensures.sound c.segments-segments.ensures.divides
    c.requires.series_length c.requires.query_length c.requires.leaf
    (subst P c.leaf_word.ensures c.segments-parts.ensures.is_word.parts)
