-- The text of one group more.
use Rattle.std.proofs.Common.{◌≡◌, ℕ, ◌+◌, ◌≤◌, ◌⊎◌, ⊎_elim, List, [], ◌∷◌, ◌++◌, length, take, refl, sym, ap, ◌∙◌, subst, append_assoc, append-nil, length-append, arith}
use Rattle.std.specs.Prelude.{ℤ}
use Rattle.std.proofs.lemmas.List.{take-append-le}
use Rattle.std.proofs.lemmas.List.Concat.{flat_map-append}
use Rattle.series_core.specs.Answer.{answer}
use Rattle.live_run.specs.Texts.{IsGroupsText, IsQueriesText, IsScriptText, Query, Scene, all_queries, all_series, queries_of, query_text, scene}
use Rattle.live_run.specs.declared.group.Contents.{Contents}

-- the series and the queries of one group more
pub series_more : (cs : List Contents) (c : Contents) → all_series (cs ++ c ∷ []) ≡ all_series cs ++ c.batch.series
series_more cs c =
    flat_map-append (λ (x : Contents). x.batch.series) cs (c ∷ []) ∙ ap (λ l. all_series cs ++ l) (append-nil c.batch.series)

pub queries_more : (cs : List Contents) (c : Contents) → all_queries (cs ++ c ∷ []) ≡ all_queries cs ++ queries_of c
queries_more cs c =
    flat_map-append queries_of cs (c ∷ []) ∙ ap (λ l. all_queries cs ++ l) (append-nil (queries_of c))

-- the scene with more series behind all
abbrev pub longer : Scene → List (List ℤ) → Scene
longer s more = record {
  points = s.points;
  series = s.series ++ more;
  before = s.before;
  after = s.after;
}

within : (s : Scene) (m : ℕ) → s.before ≤ s.after → (m ≡ s.before) ⊎ (m ≡ s.after) → m ≤ s.after
within s m le is = ⊎_elim (λ (e : m ≡ s.before). omega (arith, e, le)) (λ (e : m ≡ s.after). omega (arith, e)) is

-- further series behind those of the scene change no text
queries_over : (s : Scene) (more : List (List ℤ)) (i least : ℕ) (qs : List Query) (text : List ℕ) (last : ℕ)
    → s.before ≤ s.after → s.after ≤ length s.series
    → IsQueriesText s i least qs text last → IsQueriesText (longer s more) i least qs text last
queries_over s more i least [] text last le fits is = is
queries_over s more i least (q ∷ qs) text last le fits (m, rest, told, grows, is, whole) =
    let low = within s m le told in
    let same : take m s.series ≡ take m (s.series ++ more) = sym (take-append-le m s.series more (omega (arith, low, fits))) in (
      m,
      rest,
      told,
      grows,
      queries_over s more (i + 1) m qs rest last le fits is,
      whole ∙ ap (λ l. query_text i m (answer (record { points = s.points; series = l }) q.values q.k) ++ rest) same,
    )

-- counts are at most those behind the append
queries_last : (s : Scene) (i least : ℕ) (qs : List Query) (text : List ℕ) (last : ℕ) → s.before ≤ s.after
    → least ≤ s.after → IsQueriesText s i least qs text last → last ≤ s.after
queries_last s i least [] text last le low is = let e = is.1 in omega (arith, e, low)
queries_last s i least (q ∷ qs) text last le low (m, rest, told, grows, is, whole) =
    queries_last s (i + 1) m qs rest last le (within s m le told) is

-- counts that are not below a number are not below a smaller one
queries_lower : (s : Scene) (i low least : ℕ) (qs : List Query) (text : List ℕ) (last : ℕ) → low ≤ least
    → IsQueriesText s i least qs text last → (told : ℕ) × IsQueriesText s i low qs text told
queries_lower s i low least [] text last le is = (low, (is.0, refl))
queries_lower s i low least (q ∷ qs) text last le (m, rest, told, grows, is, whole) =
    (last, (m, rest, told, omega (arith, le, grows), is, whole))

scene_fits : (series : List (List ℤ)) (ahead : List Contents) (c : Contents) → (scene series ahead c).before ≤ (scene series ahead c).after
scene_fits series ahead c = omega arith

behind : (ahead : List Contents) (c : Contents)
    → length (all_series (ahead ++ c ∷ [])) ≡ length (all_series ahead) + length c.batch.series
behind ahead c = ap length (series_more ahead c) ∙ length-append (all_series ahead) c.batch.series

groups_over : (series more : List (List ℤ)) (ahead : List Contents) (least : ℕ) (cs : List Contents) (text : List ℕ) (last : ℕ)
    → length (all_series ahead) + length (all_series cs) ≤ length series
    → IsGroupsText series ahead least cs text last → IsGroupsText (series ++ more) ahead least cs text last
groups_over series more ahead least [] text last fits is = is
groups_over series more ahead least (c ∷ cs) text last fits (piece, told, rest, first, is, whole) =
    let l = length-append c.batch.series (all_series cs) in
    let b = behind ahead c in (
      piece,
      told,
      rest,
      queries_over (scene series ahead c) more (length (all_queries ahead)) least (queries_of c) piece told
          (scene_fits series ahead c) (omega (arith, l, fits)) first,
      groups_over series more (ahead ++ c ∷ []) told cs rest last (omega (arith, l, b, fits)) is,
      whole,
    )

groups_last : (series : List (List ℤ)) (ahead : List Contents) (least : ℕ) (cs : List Contents) (text : List ℕ) (last : ℕ)
    → least ≤ length (all_series ahead) → IsGroupsText series ahead least cs text last
    → last ≤ length (all_series ahead) + length (all_series cs)
groups_last series ahead least [] text last low is = let e = is.1 in omega (arith, e, low)
groups_last series ahead least (c ∷ cs) text last low (piece, told, rest, first, is, whole) =
    let l = length-append c.batch.series (all_series cs) in
    let b = behind ahead c in
    let t = queries_last (scene series ahead c) (length (all_queries ahead)) least (queries_of c) piece told
    (scene_fits series ahead c) (omega (arith, low)) first in
    let r = groups_last series (ahead ++ c ∷ []) told cs rest last (omega (arith, b, t)) is in
    omega (arith, l, b, r)

-- one group behind others
groups_snoc : (series : List (List ℤ)) (ahead : List Contents) (least : ℕ) (cs : List Contents) (text : List ℕ) (last : ℕ)
    (c : Contents) (piece : List ℕ) (told : ℕ) → IsGroupsText series ahead least cs text last
    → IsQueriesText (scene series (ahead ++ cs) c) (length (all_queries (ahead ++ cs))) last (queries_of c) piece told
    → IsGroupsText series ahead least (cs ++ c ∷ []) (text ++ piece) told
groups_snoc series ahead least [] text last c piece told is next =
    let here = subst (λ l. IsQueriesText (scene series l c) (length (all_queries l)) last (queries_of c) piece told) (append-nil ahead) next in (
      piece,
      told,
      [],
      subst (λ n. IsQueriesText (scene series ahead c) (length (all_queries ahead)) n (queries_of c) piece told) is.1 here,
      (refl, refl),
      ap (λ t. t ++ piece) is.0 ∙ sym (append-nil piece),
    )
groups_snoc series ahead least (d ∷ cs) text last c piece told (p, t, rest, first, is, whole) next = (
  p,
  t,
  rest ++ piece,
  first,
  groups_snoc series (ahead ++ d ∷ []) t cs rest last c piece told is
      (subst (λ l. IsQueriesText (scene series l c) (length (all_queries l)) last (queries_of c) piece told)
      (sym (append_assoc ahead (d ∷ []) cs)) next),
  ap (λ x. x ++ piece) whole ∙ append_assoc p rest piece,
)

-- the text of one group more
pub script_more : (cs : List Contents) (c : Contents) (text piece : List ℕ) (told : ℕ) → IsScriptText cs text
    → IsQueriesText (scene (all_series cs ++ c.batch.series) cs c) (length (all_queries cs)) (length (all_series cs))
    (queries_of c) piece told
    → IsScriptText (cs ++ c ∷ []) (text ++ piece)
script_more cs c text piece told (last, is) next =
    let series = all_series cs ++ c.batch.series in
    let low = groups_last (all_series cs) [] 0 cs text last (omega arith) is in
    let lower = queries_lower (scene series cs c) (length (all_queries cs)) last (length (all_series cs)) (queries_of c) piece told
    (omega (arith, low)) next in
    let all = groups_snoc series [] 0 cs text last c piece lower.0
    (groups_over (all_series cs) c.batch.series [] 0 cs text last (omega arith) is) lower.1 in
    (lower.0, subst (λ s. IsGroupsText s [] 0 (cs ++ c ∷ []) (text ++ piece) lower.0) (sym (series_more cs c)) all)
