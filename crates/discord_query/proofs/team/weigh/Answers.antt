-- The series is given up, has no other, or is kept among the k farthest.
use Rattle.std.proofs.Common.{◌≤◌, inl, ap, ◌∙◌, sym, arith}
use Rattle.std.specs.Option.{option_to_list}
use Rattle.best_word.specs.Passes.{Pass as Word}
use Rattle.discord_query.specs.Discords.{least_farness}
use Rattle.discord_query.proofs.Weighing.{floor_below, given_up, alone, weighed_part, weighed_only, weighed_keeps}
use Rattle.discord_query.proofs.team.weigh.Goals as goal

pub returns-then-is_given_up-clause-weighed : goal.returns-then-is_given_up-clause-weighed
returns-then-is_given_up-clause-weighed g c =
    let all = g.R.Rows.collection c.args.search.now.rows.now in
    let low : least_farness all c.args.search.now.k ≤ c.read-limit.result
    = omega (arith, c.read-limit.ensures.range.0, c.requires.told.floor_is) in record {
      part = c.requires.part;
      only = λ p has. inl has;
      keeps = given_up all c.args.search.now.k c.args.number c.read-limit.result c.args.list.now.pairs
          c.requires.ready.some low (c.is_given_up.ensures c.if-is_given_up.true);
    }

pub returns-in_default-clause-weighed : goal.returns-in_default-clause-weighed
returns-in_default-clause-weighed g c = record {
  part = c.requires.part;
  only = λ p has. inl has;
  keeps = alone (g.R.Rows.collection c.args.search.now.rows.now) c.args.search.now.k c.args.number
      c.args.list.now.pairs (sym (ap option_to_list c.in_default.is) ∙ c.in_ok-other.ensures);
}

pub offer_last-requires-clause-last : goal.offer_last-requires-clause-last
offer_last-requires-clause-last g c =
    let all = g.R.Rows.collection c.args.search.now.rows.now in
    let low = floor_below all c.args.search.now.k c.add.new.self
    (weighed_part (g.R.Rows.collection c.args.search.now.rows.now) c.args.search.now.k c.args.number
    c.in-Some.other c.args.list.now
    (sym (ap option_to_list c.in-Some.is) ∙ c.in_ok-other.ensures) c.requires.number c.requires.part
    c.requires.new c.add.new.self c.add.ensures.k c.add.ensures.pairs) in
    let kept = ap (λ (w : Word). w.floor) c.read-limit.ensures.trace in
    omega (arith, low, kept, c.requires.told.floor_is)

pub returns-clause-weighed : goal.returns-clause-weighed
returns-clause-weighed g c =
    let all = g.R.Rows.collection c.args.search.now.rows.now in
    let k = c.args.search.now.k in
    let is = sym (ap option_to_list c.in-Some.is) ∙ c.in_ok-other.ensures in record {
      part = weighed_part all k c.args.number c.in-Some.other c.args.list.now is c.requires.number
          c.requires.part c.requires.new c.add.new.self c.add.ensures.k c.add.ensures.pairs;
      only = weighed_only all k c.args.number c.in-Some.other c.args.list.now is c.requires.number
          c.requires.part c.requires.new c.add.new.self.pairs c.add.ensures.pairs;
      keeps = weighed_keeps all k c.args.number c.in-Some.other c.args.list.now is c.requires.number
          c.requires.part c.requires.new c.add.new.self.pairs c.add.ensures.pairs;
    }
