-- What a reader took and what still waits for it are the batches that stand, in their order.
use Rattle.std.proofs.Common.{ℕ, zero, suc, ◌≡◌, ◌≢◌, ◌==◌, ◌⊎◌, List, [], ◌∷◌, ◌++◌, Bool, true, false, cond, set, replicate, ◌<◌, Option, Some, None, refl, sym, ap, ◌∙◌, subst, append_assoc, eq-eqb, ne_eqb, length, ◌+◌, inl, inr, ⊎_elim, arith}
use Rattle.std.proofs.lemmas.List.{append-nil}
use Rattle.std.specs.Prelude.{slice_get, option_map}
use Rattle.std.proofs.lemmas.Option.{slice_get-map}
use Rattle.std.proofs.lemmas.Bool.Decides.{eqb_tells}
use mathlib.Core.List.{IsPrefix}
use Rattle.turn_lock.specs.declared.object.Entry.{Entry}
use Rattle.std.proofs.lemmas.List.Concat.{flat_map-append}
use Rattle.turn_lock.specs.History.{IsLegal, calls_by, entry, state_after}
use Rattle.live_collection.specs.declared.batch.Batch.{Batch}
use Rattle.live_collection.specs.PlainAppend.{PlainAppend}
use Rattle.live_collection.specs.Histories.{Log, appended, appended_by, given, given_by}
use Rattle.live_collection.specs.PlainLive.{PlainLive, empty_live, next, grown, accepts, may_stand, taken}
use Rattle.live_collection.specs.declared.calls.Call.{Call}
use Rattle.live_collection.specs.declared.calls.Call.TheVariants.{Append, Ask}
use Rattle.live_collection.specs.declared.calls.Reply.{Reply}
use Rattle.live_collection.specs.declared.calls.Reply.TheVariants.{Stands, Refused, Parts}

-- what the caller n took, by a reply to the caller m
abbrev pub took_out : ℕ → ℕ → Reply → List Batch
took_out n m (Parts l) = cond (m == n) l []
took_out n m (Stands k) = []
took_out n m (Refused b k) = []

-- what waits at place i, of which l waited
pub record Goes (i : ℕ) (l : List Batch) (n : ℕ) (c : Call) (r : PlainLive × Reply) : Type 0 where
  pub waits : List Batch
  pub there : slice_get r.0.lists i ≡ Some waits
  pub same : l ++ appended_by c r.1 ≡ took_out (suc i) n r.1 ++ waits

abbrev nothing : List Batch
nothing = []

cond_same : (b : Bool) → cond b nothing nothing ≡ nothing
cond_same true = refl
cond_same false = refl

get_set_same : {X : Type 0} → (xs : List X) (i : ℕ) (y : X) → slice_get (set xs i y) i ≡ option_map (λ _. y) (slice_get xs i)
get_set_same [] i y = refl
get_set_same (x ∷ xs) zero y = refl
get_set_same (x ∷ xs) (suc i) y = get_set_same xs i y

get_set_other : {X : Type 0} → (xs : List X) (j i : ℕ) (y : X) → j ≢ i → slice_get (set xs j y) i ≡ slice_get xs i
get_set_other [] j i y n = refl
get_set_other (x ∷ xs) zero zero y n = absurd (n refl)
get_set_other (x ∷ xs) zero (suc i) y n = refl
get_set_other (x ∷ xs) (suc j) zero y n = refl
get_set_other (x ∷ xs) (suc j) (suc i) y n = get_set_other xs j i y (λ e. n (ap suc e))

appended_once : (o : PlainLive) (n : ℕ) (a : PlainAppend) (i : ℕ) (l : List Batch) (b : Bool) (m : ℕ) → slice_get o.lists i ≡ Some l
    → Goes i l n (Append a) (cond b (grown o a.batch, Stands m) (o, Refused o.batches o.series))
appended_once o n a i l true m h = record {
  waits = l ++ a.batch ∷ [];
  there = slice_get-map (λ w. w ++ a.batch ∷ []) o.lists i ∙ ap (option_map (λ w. w ++ a.batch ∷ [])) h;
  same = refl;
}
appended_once o n a i l false m h = record { waits = l; there = h; same = append-nil l }

split : (a b : ℕ) → (a ≡ b) ⊎ (a ≢ b)
split a b = ⊎_elim (λ p. inl p.1) (λ p. inr p.1) (eqb_tells a b)

suc_inj : (a b : ℕ) → suc a ≡ suc b → a ≡ b
suc_inj a b t = omega arith

option_or : List Batch → Option (List Batch) → List Batch
option_or d None = d
option_or d (Some z) = z

some_inj : (x y : List Batch) → Some x ≡ Some y → x ≡ y
unfolding option_or
some_inj x y t = ap (option_or x) t

asked : (o : PlainLive) (j i : ℕ) (l : List Batch) (m : Option (List Batch)) → slice_get o.lists i ≡ Some l → slice_get o.lists j ≡ m
    → Goes i l (suc j) Ask (taken o j m)
asked o j i l None h e = record {
  waits = l;
  there = h;
  same = append-nil l ∙ sym (ap (λ z. z ++ l) (cond_same (suc j == suc i)));
}
asked o j i l (Some k) h e = ⊎_elim
    (λ t. let k_is_l : Some k ≡ Some l = sym e ∙ (ap (slice_get o.lists) (suc_inj j i t) ∙ h) in record {
      waits = [];
      there = ap (λ z. slice_get (set o.lists j []) z) (sym (suc_inj j i t)) ∙ (get_set_same o.lists j [] ∙ ap (option_map (λ _. [])) e);
      same = ap (λ z. z ++ []) (some_inj l k (sym k_is_l) ∙ sym (ap (λ (b : Bool). cond b k []) (eq-eqb (suc j) (suc i) t)));
    })
    (λ (f : suc j ≢ suc i). record {
      waits = l;
      there = get_set_other o.lists j i [] (λ z. f (ap suc z)) ∙ h;
      same = append-nil l ∙ sym (ap (λ (b : Bool). cond b k [] ++ l) (ne_eqb (suc j) (suc i) f));
    })
    (split (suc j) (suc i))

-- one call: what waited and what it put in is what it took out and what waits
pub goes : (o : PlainLive) (n : ℕ) (c : Call) (i : ℕ) (l : List Batch) → slice_get o.lists i ≡ Some l → Goes i l n c (next o n c)
goes o n (Append a) i l h = appended_once o n a i l (accepts o n a) (o.series + length a.batch.series.series) h
goes o zero Ask i l h = record {
  waits = l;
  there = h;
  same = append-nil l ∙ sym (ap (λ z. z ++ l) (cond_same (zero == suc i)));
}
goes o (suc j) Ask i l h = asked o j i l (slice_get o.lists j) h refl

-- all that the caller n took, in order
abbrev pub all_took : ℕ → Log → List Batch
all_took n [] = []
all_took n (e ∷ es) = took_out n e.caller e.reply ++ all_took n es

-- what the history of a reader at place i leaves waiting there
pub record Leaves (o : PlainLive) (i : ℕ) (l : List Batch) (log : Log) : Type 0 where
  pub waits : List Batch
  pub there : slice_get (state_after next o log).lists i ≡ Some waits
  pub same : l ++ appended log ≡ all_took (suc i) log ++ waits

-- in a legal history: what waited and all that was put in is all that the reader took and what waits
pub taken_law : (log : Log) (o : PlainLive) (i : ℕ) (l : List Batch)
    → slice_get o.lists i ≡ Some l → IsLegal next o log → Leaves o i l log
taken_law [] o i l h legal = record { waits = l; there = h; same = append-nil l }
taken_law (e ∷ es) o i l h (r, rest) =
    let n = next o e.caller e.call in
    let g = goes o e.caller e.call i l h in
    let t = taken_law es n.0 i g.waits g.there rest in
    let one : l ++ appended_by e.call e.reply ≡ took_out (suc i) e.caller e.reply ++ g.waits
    = subst (λ z. l ++ appended_by e.call z ≡ took_out (suc i) e.caller z ++ g.waits) (sym r) g.same in record {
      waits = t.waits;
      there = t.there;
      same = sym (append_assoc l (appended_by e.call e.reply) (appended es))
          ∙ (ap (λ z. z ++ appended es) one
          ∙ (append_assoc (took_out (suc i) e.caller e.reply) g.waits (appended es)
          ∙ (ap (λ z. took_out (suc i) e.caller e.reply ++ z) t.same
          ∙ sym (append_assoc (took_out (suc i) e.caller e.reply) (all_took (suc i) es) t.waits))));
    }

-- what a caller took is what its own calls gave
pub took_own : (n : ℕ) (log : Log) → all_took n log ≡ given (calls_by n log)
took_own n [] = refl
took_own n (e ∷ es) =
    ⊎_elim
    (λ (t : e.caller ≡ n).
    let is : (e.caller == n) ≡ true = eq-eqb e.caller n t in
    ap (λ (l : List Batch). l ++ all_took n es) (took_same n e.caller e.reply is)
    ∙ ap (λ (l : List Batch). given_by e.reply ++ l) (took_own n es)
    ∙ sym (ap (λ (b : Bool). given (cond b (e ∷ calls_by n es) (calls_by n es))) is))
    (λ (f : e.caller ≢ n).
    let isnt : (e.caller == n) ≡ false = ne_eqb e.caller n f in
    ap (λ (l : List Batch). l ++ all_took n es) (took_none n e.caller e.reply isnt)
    ∙ took_own n es
    ∙ sym (ap (λ (b : Bool). given (cond b (e ∷ calls_by n es) (calls_by n es))) isnt))
    (split e.caller n)
  where
    took_same : (n m : ℕ) (r : Reply) → (m == n) ≡ true → took_out n m r ≡ given_by r
    took_same n m (Parts l) same = ap (λ (b : Bool). cond b l []) same
    took_same n m (Stands k) same = refl
    took_same n m (Refused b k) same = refl

    took_none : (n m : ℕ) (r : Reply) → (m == n) ≡ false → took_out n m r ≡ []
    took_none n m (Parts l) other = ap (λ (b : Bool). cond b l []) other
    took_none n m (Stands k) other = refl
    took_none n m (Refused b k) other = refl

-- the list of each reader is there at first
waits_first : (readers i : ℕ) → i < readers → slice_get (replicate readers nothing) i ≡ Some []
waits_first zero i h = absurd (omega arith)
waits_first (suc readers) zero h = refl
waits_first (suc readers) (suc i) h = waits_first readers i (omega arith)

-- a legal history with a last call is legal before it, and the reply is the object's
pub legal_last : (o : PlainLive) (log : Log) (e : Entry Call Reply) → IsLegal next o (log ++ e ∷ [])
    → IsLegal next o log × (e.reply ≡ (next (state_after next o log) e.caller e.call).1)
legal_last o [] e legal = (tt, legal.0)
legal_last o (x ∷ log) e legal =
    let rest = legal_last (next o x.caller x.call).0 log e legal.1 in ((legal.0, rest.0), rest.1)

-- a reader's last ask gives it what waited, and nothing waits then
pub all_given : (n readers i : ℕ) (log : Log) (l : List Batch) → i < readers
    → IsLegal next (empty_live n readers) (log ++ entry (suc i) Ask (Parts l) ∷ [])
    → appended (log ++ entry (suc i) Ask (Parts l) ∷ [])
    ≡ given (calls_by (suc i) (log ++ entry (suc i) Ask (Parts l) ∷ []))
all_given n readers i log l h legal =
    let o = empty_live n readers in
    let e : Entry Call Reply = entry (suc i) Ask (Parts l) in
    let parts = legal_last o log e legal in
    let t = taken_law log o i [] (waits_first readers i h) parts.0 in
    let reply : Parts l ≡ Parts t.waits = parts.1 ∙ ap (λ m. (taken (state_after next o log) i m).1) t.there in
    let same : l ≡ t.waits = parts_inj l t.waits reply in
    flat_map-append (λ (x : Entry Call Reply). appended_by x.call x.reply) log (e ∷ [])
    ∙ append-nil (appended log)
    ∙ t.same
    ∙ ap (λ (w : List Batch). all_took (suc i) log ++ w) (sym same)
    ∙ ap (λ (w : List Batch). all_took (suc i) log ++ w) (sym (append-nil l))
    ∙ ap (λ (w : List Batch). all_took (suc i) log ++ (w ++ [])) (sym (ap (λ (b : Bool). cond b l []) (eq-eqb (suc i) (suc i) refl)))
    ∙ sym (took_append log)
    ∙ took_own (suc i) (log ++ e ∷ [])
  where
    took_append : (es : Log) → all_took (suc i) (es ++ entry (suc i) Ask (Parts l) ∷ [])
        ≡ all_took (suc i) es ++ (took_out (suc i) (suc i) (Parts l) ++ [])
    took_append [] = refl
    took_append (x ∷ es) =
        ap (λ (w : List Batch). took_out (suc i) x.caller x.reply ++ w) (took_append es)
        ∙ sym (append_assoc (took_out (suc i) x.caller x.reply) (all_took (suc i) es)
        (took_out (suc i) (suc i) (Parts l) ++ []))

    parts_inj : (x y : List Batch) → Parts x ≡ Parts y → x ≡ y
    parts_inj x y t = ap given_by t

-- the accepted appends are those among the writer's calls
pub writer_appends : (o : PlainLive) (log : Log) → IsLegal next o log → appended log ≡ appended (calls_by 0 log)
writer_appends o [] legal = refl
writer_appends o (e ∷ es) (r, rest) =
    let own = writer_appends (next o e.caller e.call).0 es rest in
    ⊎_elim
    (λ (t : e.caller ≡ 0).
    let is : (e.caller == 0) ≡ true = eq-eqb e.caller 0 t in
    ap (λ (l : List Batch). appended_by e.call e.reply ++ l) own
    ∙ sym (ap (λ (b : Bool). appended (cond b (e ∷ calls_by 0 es) (calls_by 0 es))) is))
    (λ (f : e.caller ≢ 0).
    let isnt : (e.caller == 0) ≡ false = ne_eqb e.caller 0 f in
    ap (λ (l : List Batch). l ++ appended es) (ap (appended_by e.call) r ∙ none_by o e.caller e.call isnt)
    ∙ own
    ∙ sym (ap (λ (b : Bool). appended (cond b (e ∷ calls_by 0 es) (calls_by 0 es))) isnt))
    (split e.caller 0)
  where
    outcome : PlainLive → PlainAppend → Bool → PlainLive × Reply
    outcome s a c =
        cond c (grown s a.batch, Stands (s.series + length a.batch.series.series)) (s, Refused s.batches s.series)

    none_by : (s : PlainLive) (n : ℕ) (c : Call) → (n == 0) ≡ false → appended_by c (next s n c).1 ≡ []
    none_by s n (Append a) other =
        ap (λ (b : Bool). appended_by (Append a) (outcome s a (cond b (may_stand s a) false)).1) other
    none_by s n Ask other = refl

-- a history that begins another has the first of its accepted appends
pub appended_prefix : (xs ys : Log) → IsPrefix xs ys → IsPrefix (appended xs) (appended ys)
appended_prefix xs ys (more, whole) =
    (appended more, sym (flat_map-append (λ (x : Entry Call Reply). appended_by x.call x.reply) xs more) ∙ ap appended whole)
