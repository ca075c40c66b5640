use Rattle.std.proofs.Common.{◌+◌, ◌<◌, ◌*◌, min, ◌++◌, ◌^◌, ◌∙◌, sym, ap, length, arith}
use Rattle.std.proofs.lemmas.List.{length_push}
use Rattle.claim_word.specs.Passes.{Pass}
use Rattle.summary_phase.specs.Chunks.{chunk_count, members_drawn}
use Rattle.summary_phase.specs.Members.{members_of}
use Rattle.summary_phase.specs.Roots.{by_root}
use Rattle.summary_phase.specs.declared.chunk.TheConstants.{CHUNK}
use Rattle.summary_phase.proofs.Pieces.{chunk_found, drawn_more}
use Rattle.summary_phase.proofs.Roots.{by_root-none, length-by_root}
use Rattle.summary_phase.proofs.summary.summarise.Goals as goal

pub loop-chunk-init : goal.loop-chunk-init
loop-chunk-init g c =
    let fresh = c.requires.fresh in
    let draws = ap (λ (p : Pass). p.draws) fresh in
    let none = ap (λ (p : Pass). length p.draws) fresh in
    let met = ap (λ (p : Pass). p.met) fresh in
    let layout = c.args.layout.now in
    let roots = 2 ^ layout.cuts.segments in
    let members = members_of layout (g.R.Rows.collection c.args.rows.now) in
    record {
      own = ap (λ (p : Pass). p.claims) fresh;
      goes_on = ap (λ (p : Pass). p.ended) fresh;
      turns = sym none;
      few = omega (arith, none);
      met = omega (arith, met);
      members =
          c.requires.empty ∙ sym (by_root-none roots)
          ∙ ap (λ ds. by_root roots (members_drawn members ds)) (sym draws);
    }

pub put_members-requires-clause-roots : goal.put_members-requires-clause-roots
put_members-requires-clause-roots g c =
    ap (λ lists. length lists) c.loop-chunk.invariant.members ∙ length-by_root _ _

pub loop-chunk-preserved : goal.loop-chunk-preserved
loop-chunk-preserved g c =
    let was = c.loop-chunk.invariant in
    let drawn = c.in-Some.ensures.drawn in
    let draws = ap (λ (p : Pass). p.draws) drawn in
    let long = ap (λ (p : Pass). length p.draws) drawn
    ∙ length_push c.loop-chunk.pass.draws c.in-Some.chunk in
    let met = ap (λ (p : Pass). p.met) drawn in
    let number = c.in-Some.ensures.number in
    let layout = c.args.layout.now in
    let roots = 2 ^ layout.cuts.segments in
    let all = g.R.Rows.collection c.args.rows.now in
    let members = members_of layout all in
    let had = members_drawn members c.loop-chunk.pass.draws in
    let low : c.in-Some.chunk < chunk_count (length all.series) =
    omega (arith, c.requires.chunks) in
    let to = c.numbers.ensures.end
    ∙ ap (λ n. min n (c.in-Some.chunk * CHUNK + CHUNK)) c.count-count.ensures.count in
    record {
      own = ap (λ (p : Pass). p.claims) drawn ∙ was.own;
      goes_on = ap (λ (p : Pass). p.ended) drawn ∙ was.goes_on;
      turns = omega (arith, long, was.turns);
      few = omega (arith, long, met, was.few);
      met = omega (arith, met);
      members =
          c.in_ok-put_members.ensures had was.members
          ∙ ap (λ ms. by_root roots (had ++ ms))
          (chunk_found layout all c.in-Some.chunk c.numbers.result.start c.numbers.result.end low
          c.numbers.ensures.start to)
          ∙ ap (by_root roots) (sym (drawn_more members c.loop-chunk.pass.draws c.in-Some.chunk))
          ∙ ap (λ ds. by_root roots (members_drawn members ds)) (sym draws);
    }
