-- One entry more was scanned or passed over.
use Rattle.std.proofs.Common.{◌≡◌, ◌+◌, ◌++◌, ◌∷◌, [], List, ℕ, take, get_or, ap, sym, subst, ◌∙◌, arith}
use Rattle.std.proofs.lemmas.List.{append_assoc, take_all}
use Rattle.list_totals.specs.Totals.{times}
use Rattle.list_totals.proofs.Totals.{times_append}
use Rattle.series_core.specs.declared.queue_words.Entry.{Entry}
use Rattle.search_machine.specs.Sound.{ListSound}
use Rattle.nearest_answer.specs.NearLeaves.{leaves_in}
use Rattle.search_task.specs.Questions.{ground_of}
use Rattle.nearest_answer.proofs.LeavesNear.{leaf_once_more, leaves_next}
use Rattle.nearest_answer.proofs.near_leaves.scan_entries.Goals as goal

pub loop-entry-preserved : goal.loop-entry-preserved
loop-entry-preserved g c =
    let ground = ground_of c.args.search.now in
    let es = c.args.entries.now in
    let i = c.loop-entry.entry-index in
    let none : Entry = record { bound = 0; leaf = 0 } in
    let leaf = (get_or es i none).leaf in
    let inside = c.loop-entry-test.true in
    record {
      list = (c.scan_entry.ensures.k, c.scan_entry.ensures.size c.loop-entry.invariant.list.1);
      met = λ met once sound.
          let so_far = met ++ leaves_in (take i es) in
          let unmet : times leaf so_far ≡ 0
          = let parts = times_append leaf met (leaves_in (take i es)) in
          let all = times_append leaf met (leaves_in es) in
          let more = leaf_once_more es i none inside in
          let most = once leaf in
          omega arith in
          let same : so_far ++ leaf ∷ [] ≡ met ++ leaves_in (take (i + 1) es)
          = append_assoc met (leaves_in (take i es)) (leaf ∷ [])
          ∙ ap (λ (ls : List ℕ). met ++ ls) (sym (leaves_next es i none inside)) in
          subst (λ (ls : List ℕ). ListSound ground ls c.scan_entry.new.list.pairs) same
          (c.scan_entry.ensures.met so_far unmet (c.loop-entry.invariant.met met once sound));
    }

pub returns-clause-met : goal.returns-clause-met
returns-clause-met g c met once sound =
    let ground = ground_of c.args.search.now in
    let es = c.args.entries.now in
    subst (λ (ds : List Entry). ListSound ground (met ++ leaves_in ds) c.loop-entry.list.pairs)
    (take_all c.loop-entry.entry-index es (omega arith)) (c.loop-entry.invariant.met met once sound)
