use Rattle.std.proofs.Common.{rules, ◌+◌, ◌≤◌, All, length, subst, sym}
use Rattle.live_collection.proofs.Growing.{grown_within}
use Rattle.live_collection.proofs.object.LiveObject.append.Goals as goal

pub invariant_of-self : goal.invariant_of-self
invariant_of-self c =
    let inv = c.self.invariant in record {
      batches = search rules;
      series = search rules;
      lists = subst (All (λ l. length l ≤ c.self.inside.batches + 1)) (sym c.link_each.ensures)
          (grown_within _ _ _ inv.lists);
    }
