-- The k smallest pairs of a pool of different pairs of the plain list: each pair of the answer that
-- is in the pool is among them.
use Rattle.std.proofs.Common.{List, [], ap, inl, inr, refl, ⊎_elim, ◌++◌, ◌∙◌, ◌∷◌, ◌≡◌, ◌⊎◌}
use Rattle.std.proofs.lemmas.Bool.{cond-false}
use Rattle.series_core.proofs.Order.{not_after}
use Rattle.series_core.proofs.Parts.{ascending_insert, ascending_take, has_take, kept, not_above, same_take}
use Rattle.series_core.proofs.Plain.{ascending_has, has_ascending}
use Rattle.list_totals.specs.Standing.{In}
use Rattle.list_totals.proofs.Standing.{in_append, in_behind, in_front}
use Rattle.series_core.specs.Order.{Above, Among, Ascending}
use Rattle.series_core.specs.Pairs.{ascending, insert, is_before, smallest}
use Rattle.series_core.specs.declared.pair.Pair.{Pair}
use Rattle.search_machine.specs.Ground.{Ground, answer, plain}
use Rattle.search_machine.proofs.PlainList.{Known, ascending_plain}

-- what stands in one of two lists stands in both together
pub has_either : (p : Pair) (ps qs : List Pair) → In p ps ⊎ In p qs → In p (ps ++ qs)
has_either p ps qs h = ⊎_elim (in_front p ps qs) (in_behind p ps qs) h

-- a pair that is below all of a list goes to its front
insert_above : (p : Pair) (ps : List Pair) → Above p ps → insert p ps ≡ p ∷ ps
insert_above p [] above = refl
insert_above p (q ∷ qs) above =
    cond-false (is_before q p) (q ∷ insert p qs) (p ∷ q ∷ qs) (not_after p q above.0)

-- a list that ascends is its own ascending order
pub ascending_still : (ps : List Pair) → Ascending ps → ascending ps ≡ ps
ascending_still [] up = refl
ascending_still (p ∷ ps) up = ap (insert p) (ascending_still ps up.1) ∙ insert_above p ps up.0

-- no pair stands in both lists
abbrev pub Apart : List Pair → List Pair → Type 0
Apart ps qs = (p : Pair) → In p ps → In p qs → ⊥

-- two lists that ascend and have no pair in common ascend when they are put into order together
pub ascending_joined : (ps qs : List Pair) → Ascending ps → Ascending (ascending qs) → Apart ps qs
    → Ascending (ascending (ps ++ qs))
ascending_joined [] qs up rest apart = rest
ascending_joined (p ∷ ps) qs up rest apart =
    ascending_insert p (ascending (ps ++ qs)) new
    (ascending_joined ps qs up.1 rest (λ r h i. apart r (inr h) i))
  where
    new : In p (ascending (ps ++ qs)) → ⊥
    new h = ⊎_elim
        (λ (t : In p ps). not_above p ps up.0 t)
        (λ (t : In p qs). apart p (inl refl) t)
        (in_append p ps qs (has_ascending p (ps ++ qs) h))

-- a pool: different pairs of the plain list, in any order
pub record Pool (g : Ground) (ps : List Pair) : Type 0 where
  pub different : Ascending (ascending ps)
  pub known : Among ps (plain g)

-- what the k smallest pairs of a pool are
pub record Best (g : Ground) (pool qs : List Pair) : Type 0 where
  pub known : Known g qs
  pub from : (p : Pair) → In p qs → In p pool
  pub full : (p : Pair) → In p (answer g) → In p pool → In p qs

-- the k smallest pairs of a pool have each pair of the answer that is in it
pub best_of : (g : Ground) (pool : List Pair) → Pool g pool → Best g pool (smallest g.k pool)
best_of g pool ok = record {
  known = record {
    ascending = ascending_take g.k (ascending pool) ok.different;
    known = λ p h. ok.known p (from p h);
  };
  from = from;
  full = λ p a h.
      kept g.k (ascending pool) (plain g) ok.different (ascending_plain g) among p a
      (ascending_has p pool h);
}
  where
    from : (p : Pair) → In p (smallest g.k pool) → In p pool
    from p h = has_ascending p pool (has_take g.k p (ascending pool) h)

    among : Among (ascending pool) (plain g)
    among p h = ok.known p (has_ascending p pool h)

-- a pool that has the whole answer has it as its k smallest pairs
pub best_all : (g : Ground) (pool : List Pair) → Pool g pool → Among (answer g) pool
    → smallest g.k pool ≡ answer g
best_all g pool ok all =
    same_take g.k (ascending pool) (plain g) ok.different (ascending_plain g)
    (λ p h. ok.known p (has_ascending p pool h))
    (λ p a. ascending_has p pool (all p a))
