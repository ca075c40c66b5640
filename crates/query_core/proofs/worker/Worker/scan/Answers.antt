-- What was scanned is found, and the limits of the portions are limits still.
use Rattle.std.proofs.Common.{◌≡◌, ◌<◌, ℕ, false, refl, sym, ap, ◌∙◌, subst, arith}
use Rattle.std.specs.Int.{div_ceil}
use Rattle.std.specs.Option.{is_some}
use Rattle.query_core.specs.Portions.{portion_rank}
use Rattle.search_task.specs.Questions.{search_over, view_in}
use Rattle.query_core.specs.Working.{OnwardInRange, Working, is_marked, phase_of}
use Rattle.query_core.proofs.Keeping.{keeps_sharing, leaf_of_same, portion_of_same, scan_keeps, scan_offers, working_fits}
use Rattle.query_core.proofs.LimitsKept.{keeps_scanned, scanned_some}
use Rattle.query_core.proofs.Portions.{rank_some}
use Rattle.query_core.proofs.Showing.{scan_shown_as}
use Rattle.query_core.proofs.worker.Worker.scan.Goals as goal

pub note_scan-requires-clause-rank : goal.note_scan-requires-clause-rank
note_scan-requires-clause-rank g c =
    let inside = c.self.inside in
    let kept = c.self.invariant.0 in
    let search = search_over inside.search.question inside.search.index 1 inside.queues in
    let wanted : c.div_ceil-rank.result ≡ portion_rank search
    = c.div_ceil-rank.ensures ∙ ap (λ (n : ℕ). div_ceil n inside.queues) c.k.ensures.k in
    subst (λ (n : ℕ). 0 < n) (sym wanted)
    (rank_some search (working_fits kept))

pub note_scan-requires-clause-limits : goal.note_scan-requires-clause-limits
note_scan-requires-clause-limits g c =
    let inside = c.self.inside in
    let real = leaf_of_same _ c.args.self.now c.args.leaf c.self.view_is c.requires.leaf in
    let new = subst (λ w. is_marked w.marks c.args.leaf ≡ false) (sym c.self.view_is) c.requires.new in
    let of = portion_of_same _ c.args.self.now c.args.leaf c.portion_of-portion.result c.self.view_is c.portion_of-portion.ensures in
    let wanted = c.div_ceil-rank.ensures ∙ ap (λ (n : ℕ). div_ceil n inside.queues) c.k.ensures.k in (
      search_over inside.search.question inside.search.index 1 inside.queues,
      scan_offers inside.start inside.walk inside.list inside.stage _ c.args.leaf c.args.limit c.scan_boxed.new.list.pairs
          c.self.invariant.0 real new (c.scan_boxed.ensures.pairs inside.search.index 1 inside.queues) c.portion_of-portion.result
          c.div_ceil-rank.result inside.limits c.self.invariant.1 of wanted,
    )

pub invariant_of-self : goal.invariant_of-self
invariant_of-self g c =
    let inside = c.self.inside in
    let back = sym c.self.view_is in
    let search = search_over inside.search.question inside.search.index 1 inside.queues in
    let of = portion_of_same _ c.args.self.now c.args.leaf c.portion_of-portion.result c.self.view_is c.portion_of-portion.ensures in
    let wanted = c.div_ceil-rank.ensures ∙ ap (λ (n : ℕ). div_ceil n inside.queues) c.k.ensures.k in
    let kept = c.self.invariant.0 in
    let pairs = c.scan_boxed.ensures.pairs inside.search.index 1 inside.queues in
    let leaf = leaf_of_same _ c.args.self.now c.args.leaf c.self.view_is c.requires.leaf in
    let new = subst (λ w. is_marked w.marks c.args.leaf ≡ false) back c.requires.new in
    let fits = working_fits kept in
    let told = c.note_scan.ensures.scanned search
    (scan_offers inside.start inside.walk inside.list inside.stage _ c.args.leaf c.args.limit c.scan_boxed.new.list.pairs kept leaf new
    pairs c.portion_of-portion.result c.div_ceil-rank.result inside.limits c.self.invariant.1 of wanted) in (
      keeps_sharing inside.start inside.walk c.scan_boxed.new.list c.after_scan-self-inside.result _ (is_some c.note_scan.new.limits)
          (scan_keeps inside.start inside.walk inside.list c.scan_boxed.new.list inside.stage c.after_scan-self-inside.result _
          c.args.leaf c.args.limit kept refl leaf new c.scan_boxed.ensures.k pairs
          (c.after_scan-self-inside.ensures.range (view_in inside.search.question) inside.search.index inside.queues
          (subst (λ w. OnwardInRange w.queues c.args.next) back c.requires.next))),
      keeps_scanned search fits c.args.leaf c.portion_of-portion.result inside.marks.items of _ inside.limits c.note_scan.new.limits
          c.self.invariant.1 told,
      c.self.invariant.2,
    )

pub returns-clause-scanned : goal.returns-clause-scanned
returns-clause-scanned g c workers m shows =
    let inside = c.self.inside in
    let kept = c.self.invariant.0 in
    let pairs = c.scan_boxed.ensures.pairs inside.search.index workers inside.queues in
    let leaf = leaf_of_same _ c.args.self.now c.args.leaf c.self.view_is c.requires.leaf in
    let shown = scan_shown_as _ c.args.self.now workers m c.args.leaf c.args.limit c.args.next c.scan_boxed.new.list.pairs
    (phase_of c.after_scan-self-inside.result) c.scan_boxed.new.list.k c.distance_of_worst.result c.self.view_is shows
    (subst (λ n. c.args.leaf < n) (sym kept.marks) leaf) (omega (arith, c.ranges.limit))
    pairs c.scan_boxed.ensures.k c.distance_of_worst.ensures
    c.after_scan-self-inside.ensures.phase in
    record { phase = shown.phase; rest = shown.rest; list = shown.list; marks = shown.marks }

pub returns-clause-shares : goal.returns-clause-shares
returns-clause-shares g c =
    let inside = c.self.inside in
    let kept = c.self.invariant.0 in
    let search = search_over inside.search.question inside.search.index 1 inside.queues in
    let fits = working_fits kept in
    let of = portion_of_same _ c.args.self.now c.args.leaf c.portion_of-portion.result c.self.view_is c.portion_of-portion.ensures in
    let wanted = c.div_ceil-rank.ensures ∙ ap (λ (n : ℕ). div_ceil n inside.queues) c.k.ensures.k in
    let leaf = leaf_of_same _ c.args.self.now c.args.leaf c.self.view_is c.requires.leaf in
    let new = subst (λ w. is_marked w.marks c.args.leaf ≡ false) (sym c.self.view_is) c.requires.new in
    scanned_some search fits c.portion_of-portion.result _ inside.limits c.note_scan.new.limits
    (c.note_scan.ensures.scanned search
    (scan_offers inside.start inside.walk inside.list inside.stage _ c.args.leaf c.args.limit c.scan_boxed.new.list.pairs kept leaf new
    (c.scan_boxed.ensures.pairs inside.search.index 1 inside.queues) c.portion_of-portion.result c.div_ceil-rank.result inside.limits
    c.self.invariant.1 of wanted))
    ∙ ap (λ (w : Working). w.shares) c.self.view_is
