-- One member more has its word.
use Rattle.std.proofs.Common.{◌∙◌, ◌<◌, List, length, get_or, sym, ap, subst}
use Rattle.std.proofs.lemmas.List.{get_or_default}
use Rattle.isax_word.specs.declared.member.Member.{Member}
use Rattle.isax_word.specs.FullWord.{full_word}
use Rattle.subtree_build.specs.Members.{series_at, with_own_word}
use Rattle.subtree_build.proofs.SideBySide.{element}
use Rattle.saved_index.proofs.InTurn.{own_step, own_there, own_word}
use Rattle.saved_index.proofs.words.give_words_in_turn.Goals as goal

pub at-full-requires-clause-series : goal.at-full-requires-clause-series
at-full-requires-clause-series g c =
    let all = g.R.Rows.collection c.args.rows.now in
    let old = c.args.members.now in
    let i = c.loop-i.i in
    let some = element old i c.loop-i-test.true in
    let number = ap (λ (x : Member). x.number)
    (ap (λ (ms : List Member). get_or ms i c.index-members-i.result) c.loop-i.invariant
    ∙ own_there (with_own_word all c.args.layout.now) old i c.index-members-i.result c.loop-i-test.true
    ∙ sym (some.1 ∙ get_or_default old i some.0 c.index-members-i.result c.loop-i-test.true)) in
    subst (λ n. n < length all.series) (sym number)
    (subst (λ (m : Member). m.number < length all.series) (sym some.1) (c.requires.series i some.0 c.loop-i-test.true))

pub loop-i-preserved : goal.loop-i-preserved
loop-i-preserved g c =
    let all = g.R.Rows.collection c.args.rows.now in
    let layout = c.args.layout.now in
    let old = c.args.members.now in
    let i = c.loop-i.i in
    let some = element old i c.loop-i-test.true in
    let m = some.0 in
    let number = ap (λ (x : Member). x.number)
    (ap (λ (ms : List Member). get_or ms i c.index-members-i.result) c.loop-i.invariant
    ∙ own_there (with_own_word all layout) old i c.index-members-i.result c.loop-i-test.true
    ∙ sym (some.1 ∙ get_or_default old i m c.index-members-i.result c.loop-i-test.true)) in
    own_step (with_own_word all layout) old c.loop-i.members i m _ c.loop-i-test.true some.1
    (own_word all layout m _ _ number
    (c.at-full.ensures ∙ ap (λ n. full_word layout (series_at all n)) number))
    c.loop-i.invariant
