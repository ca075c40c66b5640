use Rattle.std.proofs.Common.{rules, refl, sym, ap, ◌∙◌, subst}
use mathlib.Core.List.{IsPrefix}
use Rattle.subtree_build.specs.declared.settings.Settings.{Settings}
use Rattle.live_collection.specs.Histories.{appended}
use Rattle.live_run.specs.Dialogues.{batches_seen}
use Rattle.live_run.proofs.Beginning.{one_popped}
use Rattle.live_run.proofs.dialogue.Dialogue.begin.Goals as goal

pub returns : goal.returns
returns c =
    let k = c.in_ok-live.live in
    let made = c.in_ok-live.ensures in
    let one = one_popped k c.in_ok-live.room.items c.pop.new.self.items c.in-Some.reader c.in-Some.ensures.items made.count.1 made.readers in
    let none = ap appended made.writer.2 in
    record {
      dialogue = record {
        writer = made.writer.0;
        reader = one.1.reader;
        readers = made.count.0;
        number = one.1.number;
        empty = one.0;
        room = search (rules, made.count, c.in-Some.ensures.capacity);
        points = sym (ap (λ (s : Settings). s.layout.cuts.row_length) made.settings ∙ c.settings_of.ensures.points);
        seen = subst (λ bs. IsPrefix bs (batches_seen c.in-Some.reader)) (sym none) (batches_seen c.in-Some.reader, refl);
      };
      points = refl;
      batches = none;
      asked = refl;
    }
