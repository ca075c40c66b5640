use Rattle.std.proofs.Common.{◌+◌, ◌%◌, subst}
use Rattle.search_machine.specs.declared.calls.Call.TheVariants.{Pop}
use Rattle.search_machine.specs.declared.calls.Reply.TheVariants.{PopTold}
use Rattle.query_core.specs.Working.{Working}
use Rattle.series_core.specs.declared.queue_words.PopReply.TheVariants.{Leaf}
use Rattle.query_core.proofs.TurnLaws.{turned_here}
use Rattle.query_core.proofs.worker.Worker.pop.Goals as goal

pub returns-in-Leaf : goal.returns-in-Leaf
returns-in-Leaf g c =
    record {
      turns = turned_here g.S.Shared.did c.args.hand.now c.pop.new.self c.args.self.now c.take.new.self _ _ c.requires.phase
          (λ workers m shows.
          subst (λ (w : Working). g.S.Shared.did c.args.hand.now (Pop ((w.number + c.args.place) % w.queues) c.args.limit)
          (PopTold (Leaf c.in-Leaf.entry)) c.pop.new.self) c.self.view_is c.in-Leaf.ensures.did)
          (λ workers. tt)
          tt
          (λ workers m shows. c.take.ensures.taken workers m shows);
      place = c.take.ensures.place;
      shares = c.take.ensures.shares;
      hand = (c.pop.ensures.floor, c.pop.ensures.roots);
    }
