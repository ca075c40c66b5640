-- From its first aim on a worker neither claims nor puts (`drains_on`).
use Rattle.std.proofs.Common.{ap, false, refl, suc, sym, ℕ, ◌&&◌, ◌∙◌, ◌≡◌}
use Rattle.std.proofs.lemmas.Bool.{cond_both, false≢true}
use Rattle.std.specs.Prelude.{nat_lt}
use Rattle.series_core.specs.declared.queue_words.PopReply.{PopReply}
use Rattle.series_core.specs.declared.queue_words.PopReply.TheVariants.{Closed, Leaf}
use Rattle.search_machine.specs.declared.calls.Reply.{Reply}
use Rattle.search_machine.specs.declared.calls.Reply.TheVariants.{Offered, PopTold, Seen}
use Rattle.search_machine.specs.declared.phase.Phase.{Phase}
use Rattle.search_machine.specs.declared.phase.Phase.TheVariants.{Aim, Claim, Done, Give, Late, Look, Offer, Pop}
use Rattle.search_machine.specs.declared.phase.Onward.TheVariants.{Look as ToLook, Aim as ToAim}
use Rattle.search_machine.specs.Ground.{Ground, scan}
use Rattle.search_machine.specs.OwnRecord.{OwnRecord}
use Rattle.search_machine.specs.Replies.{own_after}
use Rattle.search_machine.specs.Workers.{Worker, after_pop, after_reply, fills, improves, in_phase, is_new, scanned_by}

-- after a pop it has still ended its fill part
pop_drains : (g : Ground) (w : Worker) (j v : ℕ) (reply : PopReply)
    → fills (after_pop g w j v reply).phase ≡ false
pop_drains g w j v (Leaf e) =
    cond_both (is_new e.leaf w && nat_lt e.leaf g.leaves) (scanned_by g w e.leaf v (ToAim j))
    (in_phase (Aim j) w) (λ x. fills x.phase ≡ false)
    (λ _. cond_both (improves g (scan g v (g.members e.leaf) w.list) v) (Offer (ToAim j)) (Aim j)
    (λ p. fills p ≡ false) (λ _. refl) (λ _. refl))
    (λ _. refl)
pop_drains g w j v (Closed kept) =
    cond_both (nat_lt (suc j) g.queues) (in_phase (Aim (suc j)) w) (in_phase Done w)
    (λ x. fills x.phase ≡ false) (λ _. refl) (λ _. refl)

-- whatever the reply, it fills no more, and its claims and its puts stay as they are
pub drains_on : (g : Ground) (i : ℕ) (w : Worker) (r : OwnRecord) (phase : Phase) (reply : Reply)
    → w.phase ≡ phase → fills phase ≡ false → (fills (after_reply g w phase reply).phase ≡ false)
    × ((own_after g i w r phase reply).claims ≡ r.claims)
    × ((own_after g i w r phase reply).puts ≡ r.puts)
drains_on g i w r Claim reply e f = absurd (false≢true (sym f))
drains_on g i w r Look reply e f = absurd (false≢true (sym f))
drains_on g i w r (Give l) reply e f = absurd (false≢true (sym f))
drains_on g i w r (Late l) reply e f = absurd (false≢true (sym f))
drains_on g i w r (Offer ToLook) reply e f = absurd (false≢true (sym f))
drains_on g i w r (Aim j) (Seen v) e f = (refl, refl, refl)
drains_on g i w r (Aim j) _ e f = (ap fills e ∙ f, refl, refl)
drains_on g i w r (Pop j v) (PopTold reply) e f = (pop_drains g w j v reply, refl, refl)
drains_on g i w r (Pop j v) _ e f = (ap fills e ∙ f, refl, refl)
drains_on g i w r (Offer (ToAim j)) (Offered v) e f = (refl, refl, refl)
drains_on g i w r (Offer (ToAim j)) _ e f = (ap fills e ∙ f, refl, refl)
drains_on g i w r Done _ e f = (ap fills e ∙ f, refl, refl)
