-- Each turn in the fill part leaves less to do.
use Rattle.std.proofs.Common.{◌≡◌, ℕ, zero, suc, ◌+◌, ◌*◌, ◌<◌, ◌≤◌, ◌-◌, List, [], ◌∷◌, None, Some, Option, true, length, drop, take, min, sym, refl, ap, ◌∙◌, ⊎_elim, arith}
use Rattle.std.specs.Prelude.{slice_get, ◌&&◌, nat_le}
use Rattle.std.proofs.lemmas.Bool.{cond_both, true≢false}
use Rattle.std.proofs.Math.Nat.{mul-le-mul_right}
use Rattle.std.proofs.lemmas.List.{drop-drop, take-append-drop}
use Rattle.list_totals.specs.Totals.{total}
use Rattle.list_totals.proofs.Totals.{total_append}
use Rattle.series_core.specs.declared.queue_words.PutReply.TheVariants.{Placed, Filled}
use Rattle.search_machine.specs.declared.calls.Reply.{Reply}
use Rattle.search_machine.specs.declared.calls.Reply.TheVariants.{Claimed, Seen, Offered, PutTold}
use Rattle.search_machine.specs.declared.phase.Phase.{Phase}
use Rattle.search_machine.specs.declared.phase.Phase.TheVariants.{Claim, Look, Give, Late, Aim, Pop, Offer, Done}
use Rattle.search_machine.specs.declared.phase.Onward.TheVariants.{Look as ToLook, Aim as ToAim}
use Rattle.search_machine.specs.Ground.{Ground, scan}
use Rattle.search_machine.specs.Workers.{Worker, after_reply, fills, after_claim, after_late, improves, in_phase, is_new, leaves_below, scanned_by, skip, stopped}
use Rattle.search_machine.specs.Calls.{call_in}
use Rattle.query_core.specs.Turning.{Lowers, Turns, search_of}
use Rattle.query_core.specs.Working.{IsOf, Working}
use Rattle.search_machine.proofs.Effort.{length_skip, length_without}
use Rattle.search_machine.proofs.Places.{get_some, total_drop}
use Rattle.live_query.specs.RootClaims.{DidClaim, Drawn, GivesFirst, GivesNext, Roots}
use Rattle.live_query.specs.FillHands.{FillKept, FillDid}
use Rattle.live_query.specs.Efforts.{phase_left, own_left, root_left, roots_left, fill_left, undrawn}
use Rattle.live_query.specs.Knowing.{FillServes, FillKnows}
use Rattle.live_query.proofs.FillKnowing.{same_search}
use Rattle.live_query.proofs.WordTies.{went_by}

-- less is left of a list the more of it is dropped
drop_less : (f : List ℕ → ℕ) (xs : List (List ℕ)) (m n : ℕ) → m ≤ n → total f (drop n xs) ≤ total f (drop m xs)
drop_less f [] zero zero le = omega arith
drop_less f [] zero (suc n) le = omega arith
drop_less f [] (suc m) zero le = omega arith
drop_less f [] (suc m) (suc n) le = omega arith
drop_less f (x ∷ xs) zero zero le = omega arith
drop_less f (x ∷ xs) zero (suc n) le = let a = drop_less f xs 0 n (omega arith) in let b = whole f xs in omega arith
  where
    whole : (f : List ℕ → ℕ) (xs : List (List ℕ)) → total f (drop 0 xs) ≡ total f xs
    whole f [] = refl
    whole f (x ∷ xs) = refl
drop_less f (x ∷ xs) (suc m) zero le = absurd (omega arith)
drop_less f (x ∷ xs) (suc m) (suc n) le = drop_less f xs m n (omega arith)

abbrev of : Worker → ℕ
of w = own_left w.phase w.rest

stopped_left : (w : Worker) (ls : List ℕ) → of (stopped w ls) ≤ 1 + 5 * length ls
stopped_left w [] = omega arith
stopped_left w (l ∷ ls) = omega arith

-- a stretch and all behind it
cut : (f : List ℕ → ℕ) (xs : List (List ℕ)) (i j : ℕ) → i ≤ j
    → total f (take (j - i) (drop i xs)) + total f (drop j xs) ≡ total f (drop i xs)
cut f xs i j le =
    let e = total_append f (take (j - i) (drop i xs)) (drop (j - i) (drop i xs)) in
    let a = ap (total f) (take-append-drop (j - i) (drop i xs)) in
    let b : drop (j - i) (drop i xs) ≡ drop j xs = drop-drop (j - i) i xs ∙ ap (λ n. drop n xs) (let s : i + (j - i) ≡ j = omega arith in s) in
    let c = ap (total f) b in
    omega arith

-- a claim that gave a root child leaves less for the others
module _ (roots : List (List ℕ)) (r : Roots) (some : 0 < r.size) (count : r.count ≡ length roots) (d k : Drawn) (n : ℕ) (ls : List ℕ)
    (at : slice_get roots n ≡ Some ls) where
  next_left : GivesNext d n k → root_left ls + undrawn roots r.size k ≡ undrawn roots r.size d
  next_left g =
      let a = ap (undrawn roots r.size) g.after in
      let b = ap (λ m. total root_left (take (d.end - m) (drop m roots))) g.next in
      let first = cut root_left roots n d.end (let low = g.kept in omega arith) in
      let rest = cut root_left roots (n + 1) d.end (let low = g.kept in omega arith) in
      let here = total_drop root_left roots n ls at in
      let s = ap (λ m. total root_left (drop m roots)) (let s : suc n ≡ n + 1 = omega arith in s) in
      omega arith

  first_left : n < r.count → GivesFirst r d n k → root_left ls + undrawn roots r.size k ≤ undrawn roots r.size d
  first_left low g =
      let end = min r.count (n + r.size) in
      let a = ap (undrawn roots r.size) g.after in
      let here = total_drop root_left roots n ls at in
      let s = ap (λ m. total root_left (drop m roots)) (let s : suc n ≡ n + 1 = omega arith in s) in
      let rest = cut root_left roots (n + 1) end (omega arith) in
      let met = drop_less root_left roots (d.pass.met * r.size) n
      (let m = mul-le-mul_right r.size g.met in let f = g.first in omega arith) in
      let behind = drop_less root_left roots end ((g.group + 1) * r.size) (let f = g.first in omega arith) in
      omega arith

claim_left : (g : Ground) (w : Worker) (n before after : ℕ) (o : Option (List ℕ)) → slice_get g.roots n ≡ o → n < length g.roots
    → ((ls : List ℕ) → slice_get g.roots n ≡ Some ls → root_left ls + after ≤ before)
    → of (after_claim g w o) + after < 1 + before
claim_left g w n before after None e low less =
    let x = get_some g.roots n low in absurd (Rattle.std.proofs.lemmas.Option.none-some x.0 (sym e ∙ x.1))
claim_left g w n before after (Some ls) e low less =
    let a = less ls e in
    let c = length_without g.start ls in
    omega arith

-- a claim leaves less
roots_less : (g : Ground) (w : Worker) (r : Roots) (d k : Drawn) (o : Option ℕ) → 0 < r.size → r.count ≡ length g.roots → DidClaim r d o k
    → of (after_claim g w (leaves_below g o)) + undrawn g.roots r.size k < 1 + 5 * length w.rest + undrawn g.roots r.size d
roots_less g w r d k (Some n) some count did =
    let c = claim_left g w n (undrawn g.roots r.size d) (undrawn g.roots r.size k) (slice_get g.roots n) refl (omega (arith, did.0))
    (λ ls at. ⊎_elim
    (λ (h : GivesNext d n k). let e = next_left g.roots r some count d k n ls at h in omega arith)
    (λ (h : GivesFirst r d n k). first_left g.roots r some count d k n ls at did.0 h)
    did.1) in
    omega arith
roots_less g w r d k None some count did =
    let a = ap (undrawn g.roots r.size) did.after in
    let met = drop_less root_left g.roots (d.pass.met * r.size) (did.pass.met * r.size) (mul-le-mul_right r.size did.met.0) in
    omega arith

late_left : (g : Ground) (w : Worker) (l v : ℕ) → of (after_late g w l v) < 4 + 5 * length w.rest
late_left g w l v = cond_both (is_new l w && nat_le (g.bound l) v) (scanned_by g w l v ToLook) (in_phase Look w)
    (λ (x : Worker). of x < 4 + 5 * length w.rest)
    (λ _. cond_both (improves g (scan g v (g.members l) w.list) v) (Offer ToLook) Look
    (λ (p : Phase). phase_left p + 5 * length w.rest < 4 + 5 * length w.rest) (λ _. omega arith) (λ _. omega arith))
    (λ _. omega arith)

-- a reply after which the worker has less before it leaves less, where the hand drew nothing
by_reply : (g : Ground) (w : Worker) (h k : FillKept) (phase : Phase) (reply by : Reply) → w.phase ≡ phase → by ≡ reply
    → roots_left g k ≡ roots_left g h → of (after_reply g w phase reply) < phase_left phase + 5 * length w.rest
    → of (after_reply g w phase by) + roots_left g k < of w + roots_left g h
by_reply g w h k phase reply by e lower same less =
    let p = ap phase_left e in
    let b = ap (λ (by : Reply). of (after_reply g w phase by)) lower in
    omega arith

-- a reply in the fill part leaves less, whatever lower limit the worker goes by
reply_left : (g : Ground) (i : ℕ) (w : Worker) (h k : FillKept) (phase : Phase) (reply by : Reply)
    → fills phase ≡ true → w.phase ≡ phase → 0 < h.roots.size → h.roots.count ≡ length g.roots → Lowers reply by
    → FillDid h (call_in g i w phase) reply k
    → of (after_reply g w phase by) + roots_left g k < of w + roots_left g h
reply_left g i w h k Claim (Claimed o) by f e some count lower d =
    let p = ap phase_left e in
    let less = roots_less g w h.roots h.drawn d.0 o some count d.1 in
    let s = ap (roots_left g) d.2 in
    let b = ap (λ (by : Reply). of (after_reply g w Claim by)) lower in
    omega arith
reply_left g i w h k Look (Seen v) by f e some count lower d =
    let p = ap phase_left e in
    let went = went_by v by lower in
    let a = stopped_left w (skip g went.0 w.rest) in
    let c = length_skip g went.0 w.rest in
    let s = ap (roots_left g) d.1 in
    let b = ap (λ (by : Reply). of (after_reply g w Look by)) went.1 in
    omega arith
reply_left g i w h k (Give l) (PutTold Placed) by f e some count lower d =
    by_reply g w h k (Give l) (PutTold Placed) by e lower (ap (roots_left g) d.2) (omega arith)
reply_left g i w h k (Give l) (PutTold (Filled c)) by f e some count lower d =
    by_reply g w h k (Give l) (PutTold (Filled c)) by e lower (ap (roots_left g) d.2) (omega arith)
reply_left g i w h k (Late l) (Seen v) by f e some count lower d =
    let p = ap phase_left e in
    let went = went_by v by lower in
    let a = late_left g w l went.0 in
    let s = ap (roots_left g) d.1 in
    let b = ap (λ (by : Reply). of (after_reply g w (Late l) by)) went.1 in
    omega arith
reply_left g i w h k (Offer ToLook) (Offered v) by f e some count lower d =
    by_reply g w h k (Offer ToLook) (Offered v) by e lower (ap (roots_left g) d.1) (omega arith)
reply_left g i w h k (Offer (ToAim j)) reply by f e some count lower d = absurd (true≢false (sym f))
reply_left g i w h k (Aim j) reply by f e some count lower d = absurd (true≢false (sym f))
reply_left g i w h k (Pop j v) reply by f e some count lower d = absurd (true≢false (sym f))
reply_left g i w h k Done reply by f e some count lower d = absurd (true≢false (sym f))
reply_left g i w h k _ _ by f e some count lower d = absurd d

module _ (w v : Working) (h k : FillKept) (serves : FillServes w h) (knows : FillKnows w h)
    (is : IsOf w.question w.index w.queues w.number v) (fill : fills w.phase ≡ true) (t : Turns FillDid h k w v) where
  -- a turn in the fill part leaves less
  pub fill_less : fill_left v k < fill_left w h
  fill_less =
      let g : Ground = search_of w 1 in
      let x = knows.member in
      let shows = knows.shows in
      let next = t.2.next 1 x shows in
      let less = reply_left g w.number x.worker h k x.worker.phase t.0 t.1 (ap fills shows.phase ∙ fill) refl
      serves.size (serves.roots ∙ sym serves.one_each ∙ sym (Rattle.std.proofs.lemmas.List.length-map w.index.nodes Rattle.subtree_build.specs.Outline.leaf_numbers))
      t.2.lowers (t.2.called 1 x shows) in
      let a = ap phase_left next.phase in
      let b = ap (λ (ls : List ℕ). length ls) next.rest in
      let c = ap phase_left shows.phase in
      let d = ap (λ (ls : List ℕ). length ls) shows.rest in
      let e = ap (λ (g : Ground). roots_left g k) (same_search w v is) in
      omega arith
