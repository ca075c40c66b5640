-- A pop keeps what a visit is, and its reply says what the visit handed out or which limit closed it.
use Rattle.std.proofs.Common.{◌≡◌, ℕ, ◌+◌, ◌<◌, ◌≤◌, [], ◌∷◌, ◌++◌, length, map, All, Option, Some, None, IfSome, true, false, inl, refl, sym, ap, ◌∙◌, subst, inl, inr, arith}
use Rattle.std.specs.Prelude.{nat_le}
use Rattle.std.proofs.lemmas.Bool.{cond_both}
use Rattle.std.proofs.lemmas.Bool.Decides.{nat_tests}
use Rattle.std.proofs.lemmas.List.{map-append}
use Rattle.std.proofs.lemmas.List.Elements.{All-push}
use Rattle.series_core.specs.declared.queue_words.PopReply.{PopReply}
use Rattle.series_core.specs.declared.queue_words.PopReply.TheVariants.{Leaf, Closed}
use Rattle.list_totals.specs.Standing.{In}
use Rattle.list_totals.proofs.Standing.{in_behind}
use Rattle.sealed_runs.specs.Entries.{Run, entry_at}
use Rattle.sealed_runs.specs.Visits.{Visit, handed, IsVisit}
use Rattle.sealed_runs.specs.Popped.{IfLeaf, IfClosed, Gives, Shuts, drew, ended, popped, Pops}
use Rattle.sealed_runs.proofs.Handing.{handed_drew, handed_refused}

-- what a pop says: the visit stays one of the run, and the reply is one of these
pub record Says (run : Run) (limit : ℕ) (v : Visit) (reply : PopReply) (w : Visit) : Type 0 where
  pub own : IsVisit run w
  pub leaf : IfLeaf reply (Gives run limit v w)
  pub closed : IfClosed reply (Shuts run limit v w)

-- a value is not both there and absent
some_none : {X : Type 0} (x : X) (o : Option X) → o ≡ Some x → o ≡ None → ⊥
some_none x o there none = grind arith

-- two values of one option are the same
some_same : (x y : ℕ) → Some x ≡ Some y → x ≡ y
some_same x y e = grind arith

module _ (run : Run) (limit : ℕ) (v : Visit) (own : IsVisit run v) (going : v.closed ≡ None) where
  -- the visit has refused no place yet
  none_refused : v.refused ≡ None
  none_refused = (own.going going).1

  module _ (n : ℕ) (low : n < length run.entries) (met : v.claim.met ≤ n)
      (above : All (λ x. x < n) v.claim.draws) where
    -- each place drawn is below the place after n
    below_next : All (λ x. x < n + 1) (v.claim.draws ++ n ∷ [])
    below_next = All-push (λ x. x < n + 1) v.claim.draws n
        (λ k d in_list. let here = above k d in_list in omega arith) (omega arith)

    -- the entry at the place is handed out
    gives : (entry_at run.entries n).bound ≤ limit
        → Says run limit v (Leaf (entry_at run.entries n)) (drew v n)
    gives near =
        let more = ap (map (entry_at run.entries)) (handed_drew v n none_refused)
        ∙ map-append (entry_at run.entries) (handed v) (n ∷ []) in
        let still : IsVisit run (drew v n) = record {
          claims = own.claims;
          most = omega arith;
          below = below_next;
          ended = λ e. absurd (not_both e (own.going going).0);
          going = own.going;
          shut = λ l e. absurd (some_none l v.closed e going);
          refused = λ x e. absurd (some_none x v.refused e none_refused);
          above = λ x l e. absurd (some_none x v.refused e none_refused);
        } in
        record {
          own = still;
          leaf = record {
            near = near;
            going = going;
            next = more;
            drawn = omega arith;
            most =
                omega arith;
          };
          closed = tt;
        }
      where
        not_both : v.claim.ended ≡ true → v.claim.ended ≡ false → ⊥
        not_both is not = grind arith

    -- the place is refused
    refuses : limit < (entry_at run.entries n).bound
        → Says run limit v (Closed limit)
        (record (drew v n) { refused = Some n; closed = Some limit })
    refuses far =
        let w : Visit = record (drew v n) { refused = Some n; closed = Some limit } in
        let same = ap (map (entry_at run.entries))
        (handed_refused v n (Some limit) none_refused above) in
        let still : IsVisit run w = record {
          claims = own.claims;
          most = omega arith;
          below = below_next;
          ended = λ e. absurd (not_both e (own.going going).0);
          going = λ e. absurd (some_none limit w.closed refl e);
          shut = λ l e. inr (λ none. some_none n w.refused refl none);
          refused = λ x e. subst (λ y. In y (v.claim.draws ++ n ∷ [])) (some_same n x e)
              (in_behind n v.claim.draws (n ∷ []) (inl refl));
          above = λ x l e f.
              let place = some_same n x e in
              let told = some_same limit l f in
              let bound = ap (λ y. (entry_at run.entries y).bound) place in
              omega arith;
        } in
        record { own = still; leaf = tt; closed = record { same = refl; shut = refl; none = same } }
      where
        not_both : v.claim.ended ≡ true → v.claim.ended ≡ false → ⊥
        not_both is not = grind arith

  -- the run has ended
  ends : Says run limit v (Closed limit)
      (record (ended v (length run.entries)) { closed = Some limit })
  ends =
      let most = own.most in
      let w : Visit = record (ended v (length run.entries)) { closed = Some limit } in
      let still : IsVisit run w = record {
        claims = own.claims;
        most = omega arith;
        below = λ k d in_list. let here = own.below k d in_list in omega arith;
        ended = λ e. refl;
        going = λ e. absurd (some_none limit w.closed refl e);
        shut = λ l e. inl refl;
        refused = own.refused;
        above = λ x l e f. absurd (some_none x v.refused e none_refused);
      } in
      record { own = still; leaf = tt; closed = record { same = refl; shut = refl; none = refl } }

  -- what one draw decides says so
  decides : (drawn : Option ℕ)
      → IfSome drawn (λ n. (n < length run.entries) × (v.claim.met ≤ n)
      × All (λ x. x < n) v.claim.draws)
      → Says run limit v (popped run.entries limit v drawn).0 (popped run.entries limit v drawn).1
  decides None place = ends
  decides (Some n) place = cond_both (nat_le (entry_at run.entries n).bound limit)
      (Leaf (entry_at run.entries n), drew v n)
      (Closed limit, record (drew v n) { refused = Some n; closed = Some limit })
      (λ (p : PopReply × Visit). Says run limit v p.0 p.1)
      (λ near. gives n place.0 place.1 place.2 (at_most (entry_at run.entries n).bound limit near))
      (λ far. refuses n place.0 place.1 place.2 (above_it (entry_at run.entries n).bound limit far))
    where
      at_most : (a b : ℕ) → nat_le a b ≡ true → a ≤ b
      at_most a b e = grind (arith, nat_tests)

      above_it : (a b : ℕ) → nat_le a b ≡ false → b < a
      above_it a b e = grind (arith, nat_tests)

  -- a pop says what it did
  pub pops_say : (reply : PopReply) (w : Visit) → Pops run limit reply v w
      → Says run limit v reply w
  pops_say reply w p = subst (λ (q : PopReply × Visit). Says run limit v q.0 q.1) (sym p.is)
      (decides p.drawn p.place)
