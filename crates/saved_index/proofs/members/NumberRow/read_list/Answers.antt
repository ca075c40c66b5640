-- The numbers that were read are one list more.
use Rattle.std.proofs.Common.{◌∙◌, ℕ, ◌++◌, List, [], ◌∷◌, map, ap, arith}
use Rattle.isax_word.specs.declared.member.Member.{Member}
use Rattle.list_totals.specs.Totals.{total}
use Rattle.list_totals.proofs.Totals.{total_push}
use Rattle.saved_index.specs.Membership.{cut_numbers, number_of}
use Rattle.saved_index.proofs.NumberRows.{length-put, list_put}
use Rattle.saved_index.proofs.members.NumberRow.read_list.Goals as goal

pub returns-clause-read : goal.returns-clause-read
returns-clause-read c =
    let row = c.self.inside in
    let read = c.in-Ok.ensures.read in
    let put = read.put ∙ ap (λ (ms : List Member). map number_of ms ++ read.numbers) c.truncate.ensures.items in
    record {
      numbers = read.numbers;
      is = read.is;
      put = ap (λ (ks : List ℕ). cut_numbers ks (map number_of c.read_numbers.new.members.items)) c.in_ok-push.ensures.items
          ∙ list_put row.counts.items row.members.items c.read_numbers.new.members.items row.whole c.args.many read.numbers
          c.self.invariant.all c.self.invariant.inside read.long put
          ∙ ap (λ (ls : List (List ℕ)). ls ++ read.numbers ∷ []) c.self.view_is;
    }

pub invariant_of-self-2 : goal.invariant_of-self-2
invariant_of-self-2 c =
    let row = c.self.inside in
    let read = c.in-Ok.ensures.read in
    let put = read.put ∙ ap (λ (ms : List Member). map number_of ms ++ read.numbers) c.truncate.ensures.items in
    let more = length-put row.members.items c.read_numbers.new.members.items row.whole c.args.many read.numbers c.self.invariant.inside
    read.long put in
    record {
      all = ap (total (λ n. n)) c.in_ok-push.ensures.items
          ∙ total_push (λ n. n) row.counts.items c.args.many
          ∙ omega (arith, c.self.invariant.all);
      inside = omega (arith, more);
      few = omega (arith, c.if-many-self.false);
    }
