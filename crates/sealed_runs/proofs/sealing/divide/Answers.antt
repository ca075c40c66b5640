use Rattle.std.proofs.Common.{◌^◌, ◌<◌, All, subst, arith}
use Rattle.std.proofs.lemmas.Grind.{common_steps}
use Rattle.std.proofs.lemmas.List.{take_all}
use Rattle.std.proofs.lemmas.List.Elements.{All-more}
use Rattle.series_core.specs.declared.queue_words.Entry.{Entry}
use Rattle.sealed_runs.specs.Entries.{no_entry}
use Rattle.sealed_runs.proofs.sealing.divide.Goals as goal

pub loop-entry-preserved : goal.loop-entry-preserved
loop-entry-preserved c = record {
  count = grind (arith, common_steps);
  rows = λ m low. grind (arith, common_steps, c.loop-entry.invariant.rows m low);
  leaves = All-more (λ (e : Entry). e.leaf < 2 ^ 32) c.args.entries.now c.loop-entry.entry-index
      no_entry
      (omega (arith, c.loop-entry-test.true)) c.loop-entry.invariant.leaves c.queue_of.ensures.leaf;
}

pub returns-clause-leaves : goal.returns-clause-leaves
returns-clause-leaves c =
    let all = take_all c.loop-entry.entry-index c.args.entries.now c.loop-entry-test.false in
    subst (All (λ (e : Entry). e.leaf < 2 ^ 32)) all c.loop-entry.invariant.leaves
