-- Stretches of entries have all of them, and stretches of all leaves or rows too.
use Rattle.std.proofs.Common.{length, subst, sym}
use Rattle.std.proofs.lemmas.Result.{IfOk-weaker}
use Rattle.nearest_answer.specs.declared.team.Drawn.{Drawn}
use Rattle.nearest_answer.specs.Listed.{AreStretches}
use Rattle.nearest_answer.specs.Team.{AreCut, MayBeDrawn}
use Rattle.nearest_answer.proofs.team.count_of.Goals as goal

pub returns-in-Listed : goal.returns-in-Listed
returns-in-Listed g c =
    let s = c.args.search.now in
    let is = c.in-Listed.is in
    let may = subst (MayBeDrawn s) is c.requires.listed in
    IfOk-weaker c.stretches_of.result (AreStretches (length c.in-Listed.entries.now)) (AreCut s c.args.what)
    (λ count cut. subst (λ (w : Drawn). AreCut s w count) (sym is)
    (record { entries = may.0; once = may.1; cut = cut })) c.stretches_of.ensures

pub returns-in-Whole : goal.returns-in-Whole
returns-in-Whole g c =
    subst (λ (w : Drawn). AreCut c.args.search.now w c.stretch_count.result) (sym c.in-Whole.is) c.stretch_count.ensures
