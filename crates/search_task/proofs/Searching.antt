-- What is known of a search is known of its question and its index: a leaf is there (`leaf_is_there`); what holds of both as they are lent
-- holds of the search (`lent_same`), and the one can be searched for the other (`lent_searched`); a search has one ground (`ground_same`).
use Rattle.std.proofs.Common.{◌≡◌, ◌<◌, ℕ, ap, length, subst, sym}
use Rattle.subtree_build.specs.Index.{IndexParts}
use Rattle.search_task.specs.Questions.{CanBeSearched, Question, Searched, search_over}

-- a leaf of a search is a leaf of the same search
pub leaf_is_there : (s t : Searched) (l : ℕ) → s ≡ t → l < length t.index.leaves → l < length s.index.leaves
leaf_is_there s t l same real = subst (λ (u : Searched). l < length u.index.leaves) (sym same) real

-- the index that a search lends can be searched for the question that it lends
pub lent_searched : (s : Searched) (a : Question) (ix : IndexParts) → a ≡ s.question → ix ≡ s.index
    → CanBeSearched s.question s.index → CanBeSearched a ix
lent_searched s a ix asked lent searched =
    subst (λ (b : Question). CanBeSearched b ix) (sym asked)
    (subst (λ (x : IndexParts). CanBeSearched s.question x) (sym lent) searched)

-- what holds of the question and the index as they are lent holds of the search
pub lent_same : (s : Searched) (a : Question) (ix : IndexParts) (P : Question → IndexParts → Type 0) → a ≡ s.question
    → ix ≡ s.index → P a ix → P s.question s.index
lent_same s a ix P asked lent holds =
    subst (λ (x : IndexParts). P s.question x) lent (subst (λ (b : Question). P b ix) asked holds)

-- one search has one ground
pub ground_same : (s t : Searched) (workers queues : ℕ) → s ≡ t
    → search_over s.question s.index workers queues ≡ search_over t.question t.index workers queues
ground_same s t workers queues same = ap (λ (u : Searched). search_over u.question u.index workers queues) same
