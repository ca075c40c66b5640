-- A turn in the fill part leaves no worker done: at its end the worker aims at the first queue of its round.
use Rattle.std.proofs.Common.{◌≡◌, ◌≢◌, ℕ, List, [], ◌∷◌, None, Some, Option, Bool, true, false, refl, sym, ap, ◌∙◌}
use Rattle.std.specs.Prelude.{nat_le, ◌&&◌}
use Rattle.std.proofs.lemmas.Bool.{cond_both, true≢false}
use Rattle.series_core.specs.declared.queue_words.PutReply.TheVariants.{Placed, Shut, Filled}
use Rattle.search_machine.specs.declared.calls.Reply.{Reply}
use Rattle.search_machine.specs.declared.calls.Reply.TheVariants.{Claimed, Seen, Offered, PutTold}
use Rattle.search_machine.specs.declared.phase.Phase.{Phase}
use Rattle.search_machine.specs.declared.phase.Phase.TheVariants.{Claim, Look, Give, Late, Aim, Pop, Offer, Done}
use Rattle.search_machine.specs.declared.phase.Onward.TheVariants.{Look as ToLook, Aim as ToAim}
use Rattle.search_machine.specs.Ground.{Ground, scan}
use Rattle.search_machine.specs.Workers.{Worker, after_claim, after_late, after_reply, fills, improves, in_phase, is_new, leaves_below, scanned_by, skip, stopped}

-- whether a phase is that of a worker that is done
abbrev pub is_end : Phase → Bool
is_end Done = true
is_end _ = false

pub not_end : (p : Phase) → is_end p ≡ false → p ≢ Done
not_end p e is = true≢false (sym (ap is_end is) ∙ e)

claim_runs : (g : Ground) (w : Worker) (o : Option (List ℕ)) → is_end (after_claim g w o).phase ≡ false
claim_runs g w None = refl
claim_runs g w (Some ls) = refl

stopped_runs : (w : Worker) (ls : List ℕ) → is_end (stopped w ls).phase ≡ false
stopped_runs w [] = refl
stopped_runs w (l ∷ ls) = refl

late_runs : (g : Ground) (w : Worker) (l v : ℕ) → is_end (after_late g w l v).phase ≡ false
late_runs g w l v = cond_both (is_new l w && nat_le (g.bound l) v) (scanned_by g w l v ToLook) (in_phase Look w)
    (λ (x : Worker). is_end x.phase ≡ false)
    (λ _. cond_both (improves g (scan g v (g.members l) w.list) v) (Offer ToLook) Look
    (λ (p : Phase). is_end p ≡ false) (λ _. refl) (λ _. refl))
    (λ _. refl)

-- whatever the reply, a worker that fills is not done after it
pub fills_runs : (g : Ground) (w : Worker) (phase : Phase) (reply : Reply) → w.phase ≡ phase → fills phase ≡ true
    → is_end (after_reply g w phase reply).phase ≡ false
fills_runs g w Claim (Claimed o) e f = claim_runs g w (leaves_below g o)
fills_runs g w Look (Seen v) e f = stopped_runs w (skip g v w.rest)
fills_runs g w (Give l) (PutTold Placed) e f = refl
fills_runs g w (Give l) (PutTold (Shut v)) e f = refl
fills_runs g w (Give l) (PutTold (Filled c)) e f = refl
fills_runs g w (Late l) (Seen v) e f = late_runs g w l v
fills_runs g w (Offer ToLook) (Offered v) e f = refl
fills_runs g w (Offer (ToAim j)) reply e f = absurd (true≢false (sym f))
fills_runs g w (Aim j) reply e f = absurd (true≢false (sym f))
fills_runs g w (Pop j v) reply e f = absurd (true≢false (sym f))
fills_runs g w Done reply e f = absurd (true≢false (sym f))
fills_runs g w Claim _ e f = ap is_end e
fills_runs g w Look _ e f = ap is_end e
fills_runs g w (Give l) _ e f = ap is_end e
fills_runs g w (Late l) _ e f = ap is_end e
fills_runs g w (Offer ToLook) _ e f = ap is_end e
