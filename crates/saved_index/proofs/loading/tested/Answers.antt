-- What was put together is tested against the rows: its members are series, and as long as its words. Where all are contained, and as many
-- as series, none is unfit.
use Rattle.std.proofs.Common.{ℕ, ◌<◌, ◌∙◌, List, length, sym, ap, subst, inr, All}
use Rattle.isax_word.specs.declared.member.Member.{Member}
use Rattle.subtree_build.specs.declared.leaf.TreeLeaf.{TreeLeaf}
use Rattle.saved_index.specs.Membership.{first_unfit_of}
use Rattle.saved_index.proofs.Loaded.{series, unfit, words_long}
use Rattle.saved_index.proofs.Once.{none_unfit}
use Rattle.saved_index.proofs.loading.tested.Goals as goal

pub first_unfit-requires-clause-below : goal.first_unfit-requires-clause-below
first_unfit-requires-clause-below g c =
    let t = c.requires.together in
    let ix = c.args.loaded.index in
    let Below : ℕ → Type 0 = λ n. All (λ (x : TreeLeaf). All (λ m. m.number < n) x.members) ix.leaves in
    subst Below (sym c.count-2.ensures.count)
    (series (g.R.Rows.collection c.args.rows.now) c.args.bytes.now t.spelled c.type_inv.bytes t.saved
    c.args.loaded.settings t.layout t.leaf_size ix t.is_index t.parts)

pub first_unfit-requires-clause-segments : goal.first_unfit-requires-clause-segments
first_unfit-requires-clause-segments g c =
    let t = c.requires.together in
    words_long (g.R.Rows.collection c.args.rows.now) c.args.bytes.now t.spelled c.type_inv.bytes t.saved
    c.args.loaded.settings t.layout t.leaf_size c.args.loaded.index t.is_index t.parts

pub returns-then-members-count-clause-tested : goal.returns-then-members-count-clause-tested
returns-then-members-count-clause-tested g c = record {
  together = c.requires.together;
  none_unfit = none_unfit (g.R.Rows.collection c.args.rows.now) c.args.bytes.now c.type_inv.bytes c.args.loaded c.requires.together
      (c.requires.contained c.if-contained.true)
      (ap (λ (ms : List Member). length ms) (sym c.members.ensures) ∙ c.if-members-count.true ∙ c.count.ensures.count);
}

pub returns-in-Some-clause-refused : goal.returns-in-Some-clause-refused
returns-in-Some-clause-refused g c =
    let t = c.requires.together in
    inr (unfit (g.R.Rows.collection c.args.rows.now) c.args.bytes.now t.spelled c.type_inv.bytes t.saved
    c.args.loaded.settings t.layout t.leaf_size c.args.loaded.index t.is_index t.parts
    c.in-Some.number c.count-2.result c.requires.short c.count-2.ensures.count
    (sym c.in-Some.is ∙ c.in_ok-number.ensures))

pub returns-clause-tested : goal.returns-clause-tested
returns-clause-tested g c = record {
  together = c.requires.together;
  none_unfit = (sym c.in_default.is ∙ c.in_ok-number.ensures)
      ∙ ap (first_unfit_of c.args.loaded.index.leaves) c.count-2.ensures.count;
}
