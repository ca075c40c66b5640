-- Each place is one from place 0 on.
use Rattle.std.proofs.Common.{◌≡◌, ℕ, ◌+◌, slice_index_or, refl, subst, sym, ◌∙◌, arith}
use Rattle.std.specs.Fork.{AcceptsAt, ChangesAt}
use Rattle.worker_team.proofs.EachPlace.{all_from, both_at}
use Rattle.worker_team.proofs.row.for_each_mut.Goals as goal

pub each_from-requires-clause-accepts : goal.each_from-requires-clause-accepts
each_from-requires-clause-accepts g c κs within =
    let xs = c.args.row.now in
    all_from (AcceptsAt g.F.Fn c.args.f.now) 0 xs (λ i x low at.
    let place : i ≡ 0 + i = omega arith in
    subst (λ (k : ℕ). AcceptsAt g.F.Fn c.args.f.now k x) place (λ p is.
    c.requires.accepts i p low (is ∙ sym (subst (λ (y : g.row.T.Denot). slice_index_or xs i y ≡ x) (sym is) at))))

pub returns : goal.returns
returns g c i d low =
    let place : 0 + i ≡ i = omega arith in (
      refl,
      subst (λ (k : ℕ). ChangesAt g.F.Fn c.args.f.now k (slice_index_or c.args.row.now i d) (slice_index_or c.each_from.new.row i d))
          place (both_at (ChangesAt g.F.Fn c.args.f.now) 0 c.args.row.now c.each_from.new.row c.each_from.ensures i d low),
    )
