-- Each pass that is popped is taken in, and the rule speaks of the last record.
use Rattle.std.proofs.Common.{◌≡◌, List, [], ◌∷◌, length, Some, refl, sym, ap, ◌∙◌, subst, arith}
use Rattle.std.proofs.lemmas.List.Elements.{All-pop}
use lib.ListN.{get_elem?}
use Rattle.table_passes.proofs.Gathering.{Gathered, first, more, all_back}
use Rattle.table_passes.proofs.closing.close.Goals as goal

-- a list of length 0 is empty
nothing : {X : Type 0} (xs : List X) → length xs ≡ 0 → xs ≡ []
nothing [] e = refl
nothing (x ∷ xs) e = absurd (omega arith)

pub loop-pass-init : goal.loop-pass-init
loop-pass-init g c =
    let all = c.args.passes.items in
    let rest = c.pop.new.self.items in
    let seen = g.P.TablePass.seen in
    let t = c.args.table.shared.table_id in
    let own = All-pop (λ p. g.P.TablePass.table p ≡ t) all rest (Some c.in-Some.last)
    c.in-Some.ensures.items c.requires.table in
    let seat = c.into_seat-seat.ensures in
    let same = seat.table ∙ own.1 in
    record {
      same = same;
      slots = seat.slots;
      table = own.0;
      gathered = first (seen t) g.P.TablePass.own g.J.Join.both all rest _ _ c.in-Some.ensures.items
          (subst (λ k. seen k c.into_seat-seat.result.me.0 ≡ c.in-Some.last) same seat.seen) seat.own;
    }

pub join_seat-requires : goal.join_seat-requires
join_seat-requires g c =
    let inv = c.loop-pass.invariant in
    let own = All-pop (λ p. g.P.TablePass.table p ≡ c.args.table.shared.table_id) c.loop-pass.passes.items
    c.pop-in-loop-pass.new.self.items (Some c.in-Some-pop.pass) c.in-Some-pop.ensures.items inv.table in
    let seat = c.into_seat.ensures in
    (inv.same, seat.table ∙ own.1, seat.slots, omega (arith, c.requires.counts.0), c.requires.joins _ _ _ _ seat.own)

pub loop-pass-preserved : goal.loop-pass-preserved
loop-pass-preserved g c =
    let inv = c.loop-pass.invariant in
    let all = c.args.passes.items in
    let rest = c.pop-in-loop-pass.new.self.items in
    let seen = g.P.TablePass.seen in
    let t = c.args.table.shared.table_id in
    let items = c.in-Some-pop.ensures.items in
    let own = All-pop (λ p. g.P.TablePass.table p ≡ t) c.loop-pass.passes.items rest (Some c.in-Some-pop.pass)
    items inv.table in
    let seat = c.into_seat.ensures in
    let joined = c.join_seat.ensures in
    let v = c.loop-pass.seat.me.0 in
    let w = c.into_seat.result.me.0 in
    let after = more (seen t) g.P.TablePass.own g.J.Join.both all c.loop-pass.passes.items rest
    c.in-Some-pop.pass v w items
    (subst (λ k. seen k w ≡ c.in-Some-pop.pass) (seat.table ∙ own.1) seat.seen) seat.own inv.gathered in
    record {
      same = joined.0 ∙ inv.same;
      slots = ap (λ m. m.1) joined.2 ∙ inv.slots;
      table = own.0;
      gathered = subst (Gathered (seen t) g.P.TablePass.own g.J.Join.both all rest)
          (sym (ap (λ m. m.0) joined.2)) after;
    }

pub returns : goal.returns
returns g c =
    let inv = c.loop-pass.invariant in
    let all = c.args.passes.items in
    let seen = g.P.TablePass.seen c.args.table.shared.table_id in
    let empty = nothing c.loop-pass.passes.items
    (omega (arith, c.loop-pass.passes.ok.0, c.in_default-pop.ensures.cases.0)) in
    let last = c.close_with-closed.ensures.values.2 in
    let seat = c.loop-pass.seat in
    all_back seen g.P.TablePass.own g.J.Join.both (g.R.TableRule.holds c.args.table.shared.key) all
    seat.me.0 _ seat.id last.0
    (subst (λ ps. Gathered seen g.P.TablePass.own g.J.Join.both all ps seat.me.0) empty inv.gathered)
    last.1.0 (ap (λ ws. get_elem? ws 0) last.2 ∙ c.word-word.ensures) last.1.1
