-- What the last call of a legal history tells: an ask gives a reader all that it had not seen (`ask_has_all`), and an append is
-- answered by what then stands (`append_ends`).
use Rattle.std.proofs.Common.{◌≡◌, ℕ, zero, suc, ◌+◌, ◌<◌, ◌≤◌, ◌==◌, ◌⊎◌, Bool, true, false, cond, List, [], ◌∷◌, ◌++◌, length, refl, sym, ap, ◌∙◌, subst, inl, inr, nat_lt, nat_le, eq-eqb, append-nil, arith}
use Rattle.std.specs.Prelude.{slice_get, Option, Some, None}
use Rattle.std.proofs.lemmas.List.Concat.{flat_map-append}
use Rattle.std.proofs.lemmas.Bool.Decides.{nat_tests}
use Rattle.turn_lock.specs.declared.object.Entry.{Entry}
use Rattle.turn_lock.specs.History.{IsLegal, EndsWith, calls_by, entry, state_after}
use Rattle.turn_lock.proofs.Histories.{state_after-snoc, IsLegal-snoc}
use Rattle.series_core.specs.declared.rows.TheConstants.{MAX_COUNT}
use Rattle.live_collection.specs.declared.object.TheConstants.{MAX_BATCHES}
use Rattle.live_collection.specs.declared.batch.Batch.{Batch}
use Rattle.live_collection.specs.declared.calls.Call.{Call}
use Rattle.live_collection.specs.declared.calls.Call.TheVariants.{Append, Ask}
use Rattle.live_collection.specs.declared.calls.Reply.{Reply}
use Rattle.live_collection.specs.declared.calls.Reply.TheVariants.{Stands, Refused, Parts}
use Rattle.live_collection.specs.PlainAppend.{PlainAppend}
use Rattle.live_collection.specs.PlainLive.{PlainLive, empty_live, next, accepts, append, ask, taken, grown}
use Rattle.live_collection.specs.Histories.{Log, appended, appended_by, standing, series_of, given, given_by}
use Rattle.live_collection.proofs.Holding.{Holds, held}
use Rattle.live_collection.proofs.Takings.{all_given, legal_last}

-- an ask is answered by parts
ask_parts : (o : PlainLive) (n : ℕ) → (ask o n).1 ≡ Parts (given_by (ask o n).1)
ask_parts o zero = refl
ask_parts o (suc at) = found (slice_get o.lists at)
  where
    found : (m : Option (List Batch)) → (taken o at m).1 ≡ Parts (given_by (taken o at m).1)
    found None = refl
    found (Some l) = refl

-- the reply to a last ask is the parts that it gives
pub ask_gives : (n readers number : ℕ) (old seen : Log) (r : Reply) → IsLegal next (empty_live n readers) seen
    → EndsWith old (entry number Ask r) seen → r ≡ Parts (given_by r)
ask_gives n readers number old seen r legal (between, whole) =
    let o = empty_live n readers in
    let log = old ++ between in
    let last = legal_last o log (entry number Ask r) (subst (λ (z : Log). IsLegal next o z) whole legal) in
    subst (λ (z : Reply). z ≡ Parts (given_by z)) (sym last.1) (ask_parts (state_after next o log) number)

-- a reader whose last call was an ask has been given all batches that were accepted in what it has seen
pub ask_has_all : (n readers number : ℕ) (old seen made : Log) (l : List Batch) → 0 < number → number ≤ readers
    → IsLegal next (empty_live n readers) seen → EndsWith old (entry number Ask (Parts l)) seen
    → calls_by number seen ≡ made → appended seen ≡ given made
ask_has_all n readers zero old seen made l some limit legal ends own = absurd (omega arith)
ask_has_all n readers (suc i) old seen made l some limit legal (between, whole) own =
    let log = old ++ between in
    let all = all_given n readers i log l (omega arith)
    (subst (λ (z : Log). IsLegal next (empty_live n readers) z) whole legal) in
    ap appended whole ∙ all ∙ ap (λ (z : Log). given (calls_by (suc i) z)) (sym whole) ∙ ap given own

-- what a last append is answered
pub record Stood (seen : Log) (m : ℕ) : Type 0 where
  pub count : m ≡ length (standing seen)
  pub batches : length (appended seen) ≤ MAX_BATCHES
  pub series : m ≤ MAX_COUNT

pub record Full (n readers : ℕ) (a : PlainAppend) (seen : Log) (b t : ℕ) : Type 0 where
  pub batches : b ≡ length (appended seen)
  pub series : t ≡ length (standing seen)
  pub full : (b ≡ MAX_BATCHES) ⊎ (MAX_COUNT < t + length a.batch.series.series)

abbrev pub AppendEnds : ℕ → ℕ → PlainAppend → Log → Reply → Type 0
AppendEnds n readers a seen (Stands m) = Stood seen m
AppendEnds n readers a seen (Refused b t) = Full n readers a seen b t
AppendEnds n readers a seen (Parts l) = ⊥

-- where an append of the writer with its parts and its length is not accepted, a limit is reached
not_accepted : (o : PlainLive) (a : PlainAppend) → a.parts ≡ length o.lists → a.batch.series.points ≡ o.points
    → o.batches ≤ MAX_BATCHES → accepts o 0 a ≡ false
    → (o.batches ≡ MAX_BATCHES) ⊎ (MAX_COUNT < o.series + length a.batch.series.series)
not_accepted o a parts points few refused =
    split (nat_lt o.batches MAX_BATCHES) (nat_le (o.series + length a.batch.series.series) MAX_COUNT) refl refl
  where
    here : accepts o 0 a ≡ cond (nat_lt o.batches MAX_BATCHES) (nat_le (o.series + length a.batch.series.series) MAX_COUNT) false
    here =
        ap (λ (b : Bool). cond b (cond (a.batch.series.points == o.points) (cond (nat_lt o.batches MAX_BATCHES)
        (nat_le (o.series + length a.batch.series.series) MAX_COUNT) false) false) false) (eq-eqb a.parts (length o.lists) parts)
        ∙ ap (λ (b : Bool). cond b (cond (nat_lt o.batches MAX_BATCHES)
        (nat_le (o.series + length a.batch.series.series) MAX_COUNT) false) false) (eq-eqb a.batch.series.points o.points points)

    split : (b c : Bool) → nat_lt o.batches MAX_BATCHES ≡ b → nat_le (o.series + length a.batch.series.series) MAX_COUNT ≡ c
        → (o.batches ≡ MAX_BATCHES) ⊎ (MAX_COUNT < o.series + length a.batch.series.series)
    split false c e f = inl (grind (arith, nat_tests))
    split true false e f = inr (grind (arith, nat_tests))
    split true true e f =
        let stood : accepts o 0 a ≡ true
        = here ∙ ap (λ (b : Bool). cond b (nat_le (o.series + length a.batch.series.series) MAX_COUNT) false) e ∙ f in
        absurd (let t : true ≡ false = sym stood ∙ refused in cc)

-- one entry more with this reply
appended_last : (log : Log) (n : ℕ) (c : Call) (r : Reply) → appended (log ++ entry n c r ∷ []) ≡ appended log ++ appended_by c r
appended_last log n c r =
    flat_map-append (λ (x : Entry Call Reply). appended_by x.call x.reply) log (entry n c r ∷ [])
    ∙ ap (λ (w : List Batch). appended log ++ w) (append-nil (appended_by c r))

-- by the outcome of the test
ends_by : (n readers : ℕ) (log : Log) (a : PlainAppend) (o : PlainLive) (b : Bool) → a.parts ≡ readers → a.batch.series.points ≡ n
    → Holds n readers (appended log) o → accepts o 0 a ≡ b
    → ((r : Reply) → r ≡ (append o 0 a).1 → Holds n readers (appended (log ++ entry 0 (Append a) r ∷ [])) (append o 0 a).0)
    → (r : Reply) → r ≡ (append o 0 a).1 → AppendEnds n readers a (log ++ entry 0 (Append a) r ∷ []) r
ends_by n readers log a o true parts points h e more r is =
    let outcome = grown o a.batch in
    let m : ℕ = o.series + length a.batch.series.series in
    let whole : append o 0 a ≡ (outcome, Stands m) = ap (λ (b : Bool). cond b (outcome, Stands m) (o, Refused o.batches o.series)) e in
    let stands : r ≡ Stands m = is ∙ ap (λ (z : PlainLive × Reply). z.1) whole in
    let now : Holds n readers (appended (log ++ entry 0 (Append a) (Stands m) ∷ [])) outcome
    = subst (λ (z : Reply). Holds n readers (appended (log ++ entry 0 (Append a) z ∷ [])) outcome) stands
    (subst (λ (z : PlainLive × Reply). Holds n readers (appended (log ++ entry 0 (Append a) r ∷ [])) z.0) whole (more r is)) in
    subst (λ (z : Reply). AppendEnds n readers a (log ++ entry 0 (Append a) z ∷ []) z) (sym stands)
    (record {
      count = now.series;
      batches = subst (λ (k : ℕ). k ≤ MAX_BATCHES) now.batches now.few;
      series = now.limit;
    })
ends_by n readers log a o false parts points h e more r is =
    let whole : append o 0 a ≡ (o, Refused o.batches o.series)
    = ap (λ (b : Bool). cond b (grown o a.batch, Stands (o.series + length a.batch.series.series)) (o, Refused o.batches o.series)) e in
    let refused : r ≡ Refused o.batches o.series = is ∙ ap (λ (z : PlainLive × Reply). z.1) whole in
    let same : appended (log ++ entry 0 (Append a) (Refused o.batches o.series) ∷ []) ≡ appended log
    = appended_last log 0 (Append a) (Refused o.batches o.series) ∙ append-nil (appended log) in
    subst (λ (z : Reply). AppendEnds n readers a (log ++ entry 0 (Append a) z ∷ []) z) (sym refused)
    (record {
      batches = h.batches ∙ ap length (sym same);
      series = h.series ∙ ap (λ (bs : List Batch). length (series_of bs)) (sym same);
      full = not_accepted o a (parts ∙ sym h.lists) (points ∙ sym h.points) h.few e;
    })

-- what the writer's append of a batch with its length and its parts is answered
pub append_ends : (n readers : ℕ) (old seen : Log) (a : PlainAppend) (r : Reply) → a.parts ≡ readers → a.batch.series.points ≡ n
    → IsLegal next (empty_live n readers) seen → EndsWith old (entry 0 (Append a) r) seen
    → AppendEnds n readers a seen r
append_ends n readers old seen a r parts points legal (between, whole) =
    let first = empty_live n readers in
    let log = old ++ between in
    let o = state_after next first log in
    let e : Entry Call Reply = entry 0 (Append a) r in
    let last = legal_last first log e (subst (λ (z : Log). IsLegal next first z) whole legal) in
    let more : (z : Reply) → z ≡ (append o 0 a).1 → Holds n readers (appended (log ++ entry 0 (Append a) z ∷ [])) (append o 0 a).0
    = λ z is. subst (λ (y : PlainLive). Holds n readers (appended (log ++ entry 0 (Append a) z ∷ [])) y)
    (state_after-snoc next first log (entry 0 (Append a) z))
    (held n readers (log ++ entry 0 (Append a) z ∷ [])
    (IsLegal-snoc next first log (entry 0 (Append a) z) last.0 is)) in
    subst (λ (z : Log). AppendEnds n readers a z r) (sym whole)
    (ends_by n readers log a o (accepts o 0 a) parts points (held n readers log last.0) refl more r last.1)

-- a refused append leaves the object as it was
pub refused_same : (o : PlainLive) (log : Log) (e : Entry Call Reply) (a : PlainAppend) (b t : ℕ)
    → IsLegal next o (log ++ e ∷ []) → e.call ≡ Append a → e.reply ≡ Refused b t
    → state_after next o (log ++ e ∷ []) ≡ state_after next o log
refused_same o log e a b t legal call reply =
    let last = legal_last o log e legal in
    let s = state_after next o log in
    let moved : (next s e.caller e.call) ≡ append s e.caller a = ap (next s e.caller) call in
    state_after-snoc next o log e ∙ ap (λ (z : PlainLive × Reply). z.0) moved
    ∙ kept s e.caller a (accepts s e.caller a)
    (sym (ap (λ (z : PlainLive × Reply). z.1) moved) ∙ sym last.1 ∙ reply)
  where
    outcome : PlainLive → PlainAppend → Bool → PlainLive × Reply
    outcome s a c =
        cond c (grown s a.batch, Stands (s.series + length a.batch.series.series)) (s, Refused s.batches s.series)

    kept : (s : PlainLive) (n : ℕ) (a : PlainAppend) (c : Bool) → (outcome s a c).1 ≡ Refused b t → (outcome s a c).0 ≡ s
    kept s n a true e = absurd (let z : Stands (s.series + length a.batch.series.series) ≡ Refused b t = e in cc)
    kept s n a false e = refl

-- one reply more gives its batches behind
pub given-push : (log : Log) (n : ℕ) (c : Call) (r : Reply) → given (log ++ entry n c r ∷ []) ≡ given log ++ given_by r
given-push log n c r =
    flat_map-append (λ (x : Entry Call Reply). given_by x.reply) log (entry n c r ∷ [])
    ∙ ap (λ (w : List Batch). given log ++ w) (append-nil (given_by r))

-- what a reader kept and what its last ask gave it are all batches that were accepted in what it has seen
pub learnt : (n readers number : ℕ) (old seen made made' : Log) (parts l : List Batch) → parts ≡ given made → 0 < number
    → number ≤ readers → IsLegal next (empty_live n readers) seen → EndsWith old (entry number Ask (Parts l)) seen
    → made' ≡ made ++ entry number Ask (Parts l) ∷ [] → calls_by number seen ≡ made' → parts ++ l ≡ appended seen
learnt n readers number old seen made made' parts l kept some limit legal ends more own =
    ap (λ (w : List Batch). w ++ l) kept ∙ sym (given-push made number Ask (Parts l)) ∙ ap given (sym more)
    ∙ sym (ask_has_all n readers number old seen made' l some limit legal ends own)
