-- The text of queries that one reader asks, query after query, file after file.
use Rattle.std.proofs.Common.{◌≡◌, ℕ, suc, ◌+◌, ◌<◌, ◌≤◌, List, [], ◌∷◌, ◌++◌, Some, length, take, drop, get_or, refl, sym, ap, ◌∙◌, subst, append_assoc, append-nil, length-append, arith}
use Rattle.std.specs.Prelude.{ℤ, slice_get}
use Rattle.std.specs.List.{flat_map}
use Rattle.std.proofs.lemmas.List.{drop_more, get_or-map, length-map, length-take-le, take-append-drop, take_more}
use Rattle.std.proofs.lemmas.List.Concat.{flat_map-append}
use Rattle.std.proofs.lemmas.Option.{get_or_from_slice_get}
use mathlib.Core.List.{IsPrefix}
use Rattle.turn_lock.specs.declared.object.Entry.{Entry}
use Rattle.turn_lock.specs.History.{EndsWith}
use Rattle.live_collection.specs.declared.batch.Batch.{Batch}
use Rattle.live_collection.specs.declared.calls.Call.{Call}
use Rattle.live_collection.specs.declared.calls.Reply.{Reply}
use Rattle.live_collection.specs.Histories.{Log, appended}
use Rattle.live_collection.proofs.Takings.{appended_prefix}
use Rattle.live_run.specs.Replies.{IsAskedText, batches_text}
use Rattle.live_run.specs.Texts.{Query, file_queries}
use Rattle.live_run.specs.declared.group.QueryFile.{QueryFile}
use Rattle.live_run.proofs.Askings.{file_size}

-- the appends that were seen before a call begin those that were seen with it
pub ends_prefix : (old new : Log) (e : Entry Call Reply) → EndsWith old e new → IsPrefix (appended old) (appended new)
ends_prefix old new e (between, whole) =
    appended_prefix old new (between ++ e ∷ [], sym (whole ∙ append_assoc old between (e ∷ [])))

-- the text of two lists of queries
pub asked_append : (n i : ℕ) (seen : List Batch) (qs rs : List Query) (text more : List ℕ) (later last : List Batch)
    → IsAskedText n i seen qs text later → IsAskedText n (i + length qs) later rs more last
    → IsAskedText n i seen (qs ++ rs) (text ++ more) last
asked_append n i seen [] rs text more later last first second =
    let same : i + 0 ≡ i = omega arith in
    subst (λ t. IsAskedText n i seen rs t last) (sym (ap (λ t. t ++ more) first.0))
    (subst (λ s. IsAskedText n i s rs more last) (sym first.1)
    (subst (λ j. IsAskedText n j later rs more last) same second))
asked_append n i seen (q ∷ qs) rs text more later last (next, rest, pre, is, whole) second =
    let same : i + suc (length qs) ≡ (i + 1) + length qs = omega arith in (
      next,
      rest ++ more,
      pre,
      asked_append n (i + 1) next qs rs rest more later last is
          (subst (λ j. IsAskedText n j later rs more last) same second),
      ap (λ t. t ++ more) whole ∙ append_assoc (batches_text n i next q) rest more,
    )

-- the text of one query
pub asked_one : (n i : ℕ) (seen next : List Batch) (q : Query) → IsPrefix seen next
    → IsAskedText n i seen (q ∷ []) (batches_text n i next q) next
asked_one n i seen next q pre = (next, [], pre, (refl, refl), sym (append-nil (batches_text n i next q)))

-- one query more of a file
pub query_more : (n first i : ℕ) (seen later next : List Batch) (f : QueryFile) (v : List ℤ) (text : List ℕ)
    → i < length f.queries.series → slice_get f.queries.series i ≡ Some v
    → IsAskedText n first seen (take i (file_queries f)) text later → IsPrefix later next
    → IsAskedText n first seen (take (i + 1) (file_queries f))
    (text ++ batches_text n (first + i) next (record { values = v; k = f.k })) next
query_more n first i seen later next f v text low at is pre =
    let query : List ℤ → Query = λ x. record { values = x; k = f.k } in
    let size = length-map f.queries.series query in
    let here : i < length (file_queries f) = omega arith in
    let q : get_or (file_queries f) i (query v) ≡ query v
    = get_or-map query f.queries.series i v (query v) low ∙ ap query (get_or_from_slice_get f.queries.series i v v at) in
    let more : take (i + 1) (file_queries f) ≡ take i (file_queries f) ++ query v ∷ []
    = take_more (file_queries f) i (query v) here ∙ ap (λ x. take i (file_queries f) ++ x ∷ []) q in
    let l : length (take i (file_queries f)) ≡ i = length-take-le i (file_queries f) (omega arith) in
    subst (λ qs. IsAskedText n first seen qs (text ++ batches_text n (first + i) next (query v)) next) (sym more)
    (asked_append n first seen (take i (file_queries f)) (query v ∷ []) text (batches_text n (first + i) next (query v)) later next is
    (subst (λ m. IsAskedText n (first + m) later (query v ∷ []) (batches_text n (first + i) next (query v)) next) (sym l)
    (asked_one n (first + i) later next (query v) pre)))

-- the queries of one file more
pub queries_more : (fs : List QueryFile) (i : ℕ) (d : QueryFile) → i < length fs
    → flat_map file_queries (take (i + 1) fs) ≡ flat_map file_queries (take i fs) ++ file_queries (get_or fs i d)
queries_more fs i d low =
    ap (flat_map file_queries) (take_more fs i d low)
    ∙ flat_map-append file_queries (take i fs) (get_or fs i d ∷ [])
    ∙ ap (λ l. flat_map file_queries (take i fs) ++ l) (append-nil (file_queries (get_or fs i d)))

-- one file more
pub file_more : (n first next : ℕ) (seen later last : List Batch) (fs : List QueryFile) (i : ℕ) (d : QueryFile)
    (text more : List ℕ) → i < length fs → next ≡ first + length (flat_map file_queries (take i fs))
    → IsAskedText n first seen (flat_map file_queries (take i fs)) text later
    → IsAskedText n next later (file_queries (get_or fs i d)) more last
    → IsAskedText n first seen (flat_map file_queries (take (i + 1) fs)) (text ++ more) last
file_more n first next seen later last fs i d text more low at is then_ =
    subst (λ qs. IsAskedText n first seen qs (text ++ more) last) (sym (queries_more fs i d low))
    (asked_append n first seen (flat_map file_queries (take i fs)) (file_queries (get_or fs i d)) text more later last is
    (subst (λ m. IsAskedText n m later (file_queries (get_or fs i d)) more last) at then_))

-- the queries of the first files are no more than those of all
pub queries_within : (fs : List QueryFile) (i : ℕ) (d : QueryFile) → i < length fs
    → length (flat_map file_queries (take i fs)) + length (file_queries (get_or fs i d)) ≤ length (flat_map file_queries fs)
queries_within fs i d low =
    let e : length (flat_map file_queries fs) ≡ length (flat_map file_queries (take i fs)) + length (flat_map file_queries (drop i fs))
    = ap (λ l. length (flat_map file_queries l)) (sym (take-append-drop i fs))
    ∙ ap length (flat_map-append file_queries (take i fs) (drop i fs))
    ∙ length-append (flat_map file_queries (take i fs)) (flat_map file_queries (drop i fs)) in
    let f : length (flat_map file_queries (drop i fs))
    ≡ length (file_queries (get_or fs i d)) + length (flat_map file_queries (drop (i + 1) fs))
    = ap (λ l. length (flat_map file_queries l)) (drop_more fs i d low)
    ∙ length-append (file_queries (get_or fs i d)) (flat_map file_queries (drop (i + 1) fs)) in
    omega arith

-- so the number of the query behind those of a file is below whatever the queries of all are
pub file_fits : (fs : List QueryFile) (i : ℕ) (f : QueryFile) (first next limit : ℕ) → f ≡ get_or fs i f → i < length fs
    → first + length (flat_map file_queries fs) < limit → next ≡ first + length (flat_map file_queries (take i fs))
    → next + length f.queries.series < limit
file_fits fs i f first next limit same low few at =
    let w = queries_within fs i f low in
    let s = file_size f in
    let l : length (file_queries f) ≡ length (file_queries (get_or fs i f))
    = ap (λ (x : QueryFile). length (file_queries x)) same in
    omega arith
