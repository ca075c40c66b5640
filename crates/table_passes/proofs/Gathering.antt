-- A record that takes in the passes from the last on down is joined from records of their own (`first`, `more`, `all_back`).
use Rattle.std.proofs.Common.{◌≡◌, ℕ, List, [], ◌∷◌, ◌++◌, map, All, refl, sym, ap, ◌∙◌, append_assoc}
use Rattle.std.proofs.lemmas.List.Elements.{All-nil, All-cons}
use mathlib.Core.Option.{some}
use lib.ListN.{get_elem?}
use Rattle.atomic_table.specs.Table.{State}
use Rattle.table_passes.specs.AllBack.{AllBack, joined}

module _ {V P : Type 0} (seen : V → P) (own : V → Type 0) (both : V → V → V) where
  -- v is joined from records of all passes but the rest
  pub record Gathered (all rest : List P) (v : V) : Type 0 where
    pub before : List V
    pub last : V
    pub each_own : All own (before ++ last ∷ [])
    pub shown : rest ++ map seen (before ++ last ∷ []) ≡ all
    pub is : joined both before last ≡ v

  -- the last pass is taken in first
  pub first : (all rest : List P) (p : P) (v : V) → all ≡ rest ++ p ∷ [] → seen v ≡ p → own v
      → Gathered all rest v
  first all rest p v whole is mine = record {
    before = [];
    last = v;
    each_own = All-cons own v [] mine (All-nil own);
    shown = ap (λ q. rest ++ q ∷ []) is ∙ sym whole;
    is = refl;
  }

  -- one pass more is taken in
  pub more : (all had rest : List P) (p : P) (v w : V) → had ≡ rest ++ p ∷ [] → seen w ≡ p → own w
      → Gathered all had v → Gathered all rest (both v w)
  more all had rest p v w whole is mine g =
      let behind = g.before ++ g.last ∷ [] in
      record {
        before = w ∷ g.before;
        last = g.last;
        each_own = All-cons own w behind mine g.each_own;
        shown = ap (λ q. rest ++ q ∷ map seen behind) is
            ∙ sym (append_assoc rest (p ∷ []) (map seen behind))
            ∙ ap (λ ps. ps ++ map seen behind) (sym whole) ∙ g.shown;
        is = ap (λ u. both u w) g.is;
      }

  -- all are taken in when none is left
  pub all_back : (holds : State ℕ V → Type 0) (all : List P) (v : V) (word place : ℕ) (s : State ℕ V)
      → Gathered all [] v → holds s → get_elem? s.words 0 ≡ some word → get_elem? s.views place ≡ some v
      → AllBack holds seen own both all word
  all_back holds all v word place s g kept is there = record {
    before = g.before;
    last = g.last;
    each_own = g.each_own;
    shown = g.shown;
    state = s;
    kept = kept;
    word_is = is;
    place = place;
    there = there ∙ ap (λ u. some u) (sym g.is);
  }
