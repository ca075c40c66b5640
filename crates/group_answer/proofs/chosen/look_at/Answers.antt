-- A query that is swept is one that may be: its task asks what it asks, and its limit is not below its last distance.
use Rattle.std.proofs.Common.{◌≡◌, ◌≤◌, ◌++◌, ◌∷◌, [], List, ap, length, subst, sym, arith}
use Rattle.std.specs.Prelude.{IfSome, IsSome}
use Rattle.std.specs.List.{All}
use Rattle.std.proofs.lemmas.List.{length_push}
use Rattle.std.proofs.lemmas.List.Elements.{All-push}
use Rattle.search_task.specs.Questions.{Searched, last_of}
use Rattle.group_answer.specs.Sweeping.{IsChosen}
use Rattle.group_answer.specs.declared.chosen.Chosen.{Chosen}
use Rattle.group_answer.proofs.chosen.look_at.Goals as goal

pub returns : goal.returns
returns g c =
    let a = c.args.asked.now in
    let items = c.args.chosen.now.items in
    let limit = c.in-Some.limit in
    let more : Chosen g.row.R.Denot = record { number = c.args.number; task = c.task-task.result; limit = limit } in
    let whole : c.push.new.self.items ≡ items ++ more ∷ [] = c.in_ok-push.ensures.items in
    let count : length c.push.new.self.items ≡ length (items ++ more ∷ []) = ap (λ (cs : List (Chosen g.row.R.Denot)). length cs) whole in
    let within : last_of c.new.result.question ≤ limit
    = subst (λ r. IfSome r (λ v. last_of c.new.result.question ≤ v)) c.in-Some.is c.in_ok-limit.ensures.limit in
    let coded : IsSome c.new.result.index.codes
    = subst (λ r. IfSome r (λ _. IsSome c.new.result.index.codes)) c.in-Some.is c.in_ok-limit.ensures.coded in
    let chosen : IsChosen g.R.Rows.collection a more = record {
      question = c.task-task.ensures;
      searched = c.new.ensures.searched;
      enough = subst (λ (s : Searched). last_of s.question ≤ limit) c.new.ensures.search within;
      coded = subst (λ (s : Searched). IsSome s.index.codes) c.new.ensures.search coded;
    } in
    record {
      few = omega (arith, count, length_push items more);
      chosen = subst (All (IsChosen g.R.Rows.collection a)) (sym whole) (All-push (IsChosen g.R.Rows.collection a) items more c.requires.chosen chosen);
    }
