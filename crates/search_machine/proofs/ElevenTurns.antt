-- The search of two series in eleven turns closes (`eleven_closes`).
use Rattle.std.proofs.Common.{List, [], arith, inl, refl, subst, suc, sym, zero, ℕ, ⊎_elim, ◌<◌, ◌∷◌, ◌≡◌}
use Rattle.std.proofs.lemmas.Bool.Decides.{nat_tests}
use Rattle.std.proofs.lemmas.Option.{none-some, same_Some}
use Rattle.std.specs.Prelude.{Some, slice_get}
use Rattle.series_core.specs.declared.queue_words.Entry.{Entry}
use Rattle.series_core.specs.declared.queue_words.PutReply.TheVariants.{Placed}
use Rattle.series_core.specs.declared.queue_words.PopReply.TheVariants.{Closed}
use Rattle.search_machine.specs.declared.phase.Phase.TheVariants.{Done}
use Rattle.search_machine.specs.declared.calls.Reply.{Reply}
use Rattle.search_machine.specs.Basics.{Between}
use Rattle.search_machine.specs.Closes.{CameByPut, Closes, QueueCloses, claimed_by}
use Rattle.search_machine.specs.Examples.{eleven_member, eleven_opening, eleven_queue, eleven_replies, entry, two_series}
use Rattle.search_machine.specs.Ground.{Fits, Ground}
use Rattle.list_totals.specs.Standing.{In}
use Rattle.search_machine.specs.OwnRecord.{RecordedWorker}
use Rattle.search_machine.specs.Replies.{ReplyFits, after, after_all}
use Rattle.search_machine.specs.Stands.{StandsFor}
use Rattle.search_machine.proofs.EveryReply.{own_leader, reply_stands}
use Rattle.search_machine.proofs.SmallSearches.{two_fits}

-- replies that a hand may give
abbrev AllFit : Ground → List Reply → Type 0
AllFit g [] = Unit {0}
AllFit g (r ∷ rs) = ReplyFits g r × AllFit g rs

-- after them a worker stands for its record
all_stand : (g : Ground) → Fits g → (i : ℕ) (rs : List Reply) (x : RecordedWorker) → AllFit g rs
    → StandsFor g i x → StandsFor g i (after_all g i x rs)
all_stand g fits i [] x fit s = s
all_stand g fits i (r ∷ rs) x fit s =
    all_stand g fits i rs (after g i x r) fit.1 (reply_stands g fits i x r fit.0 s)

-- what holds of the one item of a list holds of each
only : {X : Type 0} (P : ℕ → X → Type 0) (a : X) → P 0 a → (i : ℕ) (x : X)
    → slice_get (a ∷ []) i ≡ Some x → P i x
only P a p zero x e = subst (P 0) (same_Some a x e) p
only P a p (suc i) x e = absurd (none-some x e)

-- the search
abbrev g : Ground
g = two_series 1

-- the one member stands for its record
stands : StandsFor g 0 eleven_member
stands =
    all_stand g (two_fits 0) 0 eleven_replies eleven_opening
    (omega arith, (tt, (tt, (tt, (omega arith, (tt, (tt, (tt, (tt, (tt, (tt, tt)))))))))))
    (own_leader g (two_fits 0))

-- each read gave 1
ones : (v : ℕ) → In v eleven_member.own.reads → v ≡ 1
ones v h = ⊎_elim (λ e. e) (λ a. ⊎_elim (λ e. e) (λ b. ⊎_elim (λ e. e) (λ c. ⊎_elim (λ e. e)
    (λ d. ⊎_elim (λ e. e) (λ n. absurd n) d) c) b) a) h

-- each root child was claimed
claimed : (c : ℕ) → c < 2 → 0 < claimed_by c eleven_member
claimed zero low = omega arith
claimed (suc zero) low = omega arith
claimed (suc (suc c)) low = absurd (omega arith)

-- the queue closes
queue_closes : QueueCloses g (eleven_member ∷ []) 0 eleven_queue
queue_closes = record {
  ordered = tt;
  placed = refl;
  capacity = refl;
  came = λ e h. ⊎_elim (λ n. absurd n) (came e) h;
  put = λ l. omega arith;
  popped = λ l. omega arith;
  shut = λ i x at closed. (1, refl);
  kept = λ v e. record {
    place = 0;
    member = eleven_member;
    at = refl;
    made = record { queue = 0; limit = 1; reply = Closed 1 };
    has = inl refl;
    such = same_Some 1 v e;
  };
  above = λ v e d h. absurd h;
}
  where
    came : (e : Entry) → In e (entry 1 0 ∷ []) → CameByPut (eleven_member ∷ []) 0 e
    came e h = record {
      place = 0;
      member = eleven_member;
      at = refl;
      made = record { queue = 0; entry = entry 1 0; reply = Placed };
      has = inl refl;
      such = (refl, sym (⊎_elim (λ s. s) (λ n. absurd n) h));
    }

-- and so does the search
pub eleven_closes : Closes g (eleven_member ∷ []) (eleven_queue ∷ [])
eleven_closes = record {
  members = refl;
  stands = only (StandsFor g) eleven_member stands;
  done = only (λ i x. x.worker.phase ≡ Done) eleven_member refl;
  claims = λ c. grind (arith, nat_tests);
  all_claimed = λ i x c at none low. let a = claimed c low in omega arith;
  reads = λ i x v at. only (λ i x. In v x.own.reads → Between g v) eleven_member
      (λ h. subst (Between g) (sym (ones v h)) (omega arith, omega arith)) i x at;
  queue_count = refl;
  queues = only (QueueCloses g (eleven_member ∷ [])) eleven_queue queue_closes;
}
