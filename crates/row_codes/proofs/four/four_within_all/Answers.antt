-- Each query stands behind one block more; in the end, or where each is too far, that decides.
use Rattle.std.proofs.Common.{◌≤◌, ◌∷◌, [], arith, length}
use Rattle.row_codes.proofs.Standings.{stands_far, stands_first, stands_last, stands_next}
use Rattle.row_codes.proofs.four.four_within_all.Goals as goal

pub loop-k-init : goal.loop-k-init
loop-k-init c = record {
  a = stands_first c.requires.a;
  b = stands_first c.requires.b;
  c = stands_first c.requires.c;
  d = stands_first c.requires.d;
}

pub loop-k-preserved : goal.loop-k-preserved
loop-k-preserved c = record {
  a = stands_next c.args.limits.now 0 c.index-limits-0.result (omega arith) c.loop-k-test.true c.index-codes-k.is c.loop-k.invariant.a
      c.behind-to_a.ensures.squared c.behind-to_a.ensures.small c.behind-to_a.ensures.within;
  b = stands_next c.args.limits.now 1 c.index-limits-1.result (omega arith) c.loop-k-test.true c.index-codes-k.is c.loop-k.invariant.b
      c.behind-to_b.ensures.squared c.behind-to_b.ensures.small c.behind-to_b.ensures.within;
  c = stands_next c.args.limits.now 2 c.index-limits-2.result (omega arith) c.loop-k-test.true c.index-codes-k.is c.loop-k.invariant.c
      c.behind-to_c.ensures.squared c.behind-to_c.ensures.small c.behind-to_c.ensures.within;
  d = stands_next c.args.limits.now 3 c.index-limits-3.result (omega arith) c.loop-k-test.true c.index-codes-k.is c.loop-k.invariant.d
      c.behind-to_d.ensures.squared c.behind-to_d.ensures.small c.behind-to_d.ensures.within;
}

pub returns-after-loop-k : goal.returns-after-loop-k
returns-after-loop-k c =
    let all : length c.args.codes.now ≤ c.loop-k.k = omega (arith, c.loop-k-test.false) in
    let stands = c.loop-k.invariant in
    λ i. stands_last all stands.a i ∷ stands_last all stands.b i ∷ stands_last all stands.c i ∷ stands_last all stands.d i ∷ []

pub returns-then-not-to_d : goal.returns-then-not-to_d
returns-then-not-to_d c =
    let a = stands_far c.if-not-to_a.true
    (stands_next c.args.limits.now 0 c.index-limits-0.result (omega arith) c.loop-k-test.true c.index-codes-k.is c.loop-k.invariant.a
    c.behind-to_a.ensures.squared c.behind-to_a.ensures.small c.behind-to_a.ensures.within) in
    let b = stands_far c.if-not-to_b.true
    (stands_next c.args.limits.now 1 c.index-limits-1.result (omega arith) c.loop-k-test.true c.index-codes-k.is c.loop-k.invariant.b
    c.behind-to_b.ensures.squared c.behind-to_b.ensures.small c.behind-to_b.ensures.within) in
    let c_is = stands_far c.if-not-to_c.true
    (stands_next c.args.limits.now 2 c.index-limits-2.result (omega arith) c.loop-k-test.true c.index-codes-k.is c.loop-k.invariant.c
    c.behind-to_c.ensures.squared c.behind-to_c.ensures.small c.behind-to_c.ensures.within) in
    let d = stands_far c.if-not-to_d.true
    (stands_next c.args.limits.now 3 c.index-limits-3.result (omega arith) c.loop-k-test.true c.index-codes-k.is c.loop-k.invariant.d
    c.behind-to_d.ensures.squared c.behind-to_d.ensures.small c.behind-to_d.ensures.within) in
    λ i. a i ∷ b i ∷ c_is i ∷ d i ∷ []
