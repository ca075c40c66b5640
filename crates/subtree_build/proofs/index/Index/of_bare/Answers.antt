-- The tables are beside the same leaves.
use Rattle.std.proofs.Common.{refl, ap, ◌∙◌}
use Rattle.std.specs.Prelude.{Some}
use Rattle.subtree_build.specs.Places.{codes_seen}
use Rattle.subtree_build.proofs.MemberCodes.{code_table_is, codes_are_own, mean_table_is}
use Rattle.subtree_build.proofs.Meaning.{means_are_own}
use Rattle.subtree_build.proofs.index.Index.of_bare.Goals as goal

pub invariant_of-result : goal.invariant_of-result
invariant_of-result g c =
    let rows = g.R.Rows.collection c.args.rows.now in
    let t = c.args.bare in
    let sound = c.count-count.ensures.sound in (
      c.requires.bare,
      record {
        means_are = mean_table_is rows sound c.args.layout.now t.members.items t.leaves.items c.args.tables c.requires.tables;
        codes_are = code_table_is rows sound c.args.layout.now t.members.items t.leaves.items c.args.tables c.requires.series
            c.requires.tables;
      },
    )

pub returns : goal.returns
returns g c =
    let rows = g.R.Rows.collection c.args.rows.now in
    let layout = c.args.layout.now in
    let t = c.args.bare in
    let own = c.requires.tables in
    record {
      segments = refl;
      roots = refl;
      nodes = refl;
      leaves = refl;
      own_means = ap Some (means_are_own rows layout t.members.items c.args.tables.means.means.items t.leaves.items own.means);
      own_codes = ap Some
          (ap (λ n. codes_seen n c.args.tables.codes.codes.items t.leaves.items) own.blocks
          ∙ codes_are_own rows c.count-count.ensures.sound t.members.items c.args.tables.codes.codes.items t.leaves.items
          c.requires.series own.codes);
    }
