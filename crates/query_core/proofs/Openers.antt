-- How a code's worker opens: what it keeps (`opener_keeps`), and the machine's worker that it shows (`opener_shows`).
use Rattle.std.proofs.Common.{◌≡◌, ℕ, zero, suc, ◌<◌, List, [], Bool, true, not, length, refl, sym, ap, ◌∙◌, subst, arith}
use Rattle.std.specs.Prelude.{Option, None, Some, IfSome, nat_eq}
use Rattle.std.specs.Option.{option_map}
use Rattle.std.proofs.lemmas.Bool.Decides.{nat_tests}
use Rattle.std.proofs.lemmas.Option.{none-some, same_Some}
use Rattle.list_totals.specs.Totals.{times}
use Rattle.subtree_build.specs.Index.{IndexParts, IsIndex}
use Rattle.subtree_build.specs.Start.{start_leaf_of}
use Rattle.search_machine.specs.declared.outcome.Start.{Start}
use Rattle.search_machine.specs.declared.phase.Phase.TheVariants.{Claim}
use Rattle.search_machine.specs.Ground.{Ground, Fits, start_limit}
use Rattle.search_machine.specs.Workers.{start_list}
use Rattle.search_machine.specs.Outcome.{is_start}
use Rattle.search_machine.specs.Basics.{start_of}
use Rattle.search_task.specs.Questions.{Question, search_over, view_in}
use Rattle.query_core.specs.Working.{AreOpeningMarks, IsFound, Shows, Working, is_marked, opened_list, opens_as}
use Rattle.search_machine.proofs.Opening.{start_only}
use Rattle.search_machine.proofs.PlainList.{plain_has}
use Rattle.search_machine.proofs.Scans.{list_opening}
use Rattle.search_task.proofs.StartLeaf.{start_is_leaf}

-- the leaf of a start is the start leaf
pub leaf_of_start : (g : Ground) → option_map (λ (s : Start). s.leaf) (start_of g) ≡ g.start
leaf_of_start g = at g.start
  where
    at : (o : Option ℕ)
        → option_map (λ (s : Start). s.leaf) (option_map (λ (l : ℕ). record { leaf = l; limit = start_limit g }) o)
        ≡ o
    at None = refl
    at (Some l) = refl

-- the start leaf has the mark of worker 0
start_marked : (start : Option ℕ) (l : ℕ) → start ≡ Some l → is_start start l ≡ true
start_marked None l e = absurd (none-some l e)
start_marked (Some m) l e = let same = same_Some m l e in grind (arith, nat_tests)

-- the list with which a worker opens is found
pub opener_found : (g : Ground) → Fits g → (i : ℕ) (marks : List Bool)
    → AreOpeningMarks i g.start g.leaves marks → IsFound g marks (opened_list g i)
opener_found g fits (suc i) marks opens = record {
  ascending = tt;
  known = λ p h. absurd h;
  from = λ p l h member. absurd h;
}
opener_found g fits zero marks opens =
    let list = list_opening g fits ⊥ in
    record {
      ascending = list.ascending;
      known = λ p h. plain_has g p (list.known p h);
      from = λ p l h member.
          let f = list.from p h in
          let start : g.start ≡ Some f.0 = start_only g.start f.0 f.1 in
          subst (λ (n : ℕ). is_marked marks n ≡ true) (fits.one_home f.0 l p.number f.2 member)
          (opens.each f.0 (fits.start_real f.0 start) ∙ start_marked g.start f.0 start);
    }

-- a leaf is new to worker 0 as it opens where it is not the start leaf
new_to_leader : (start : Option ℕ) (l : ℕ)
    → nat_eq (times l (start_list start)) 0 ≡ not (is_start start l)
new_to_leader None l = refl
new_to_leader (Some m) l = grind (arith, nat_tests)

-- a worker that opens shows the machine's worker that opens
pub opener_shows : (g : Ground) (i : ℕ) (w : Working) → w.phase ≡ Claim → w.rest ≡ []
    → w.list ≡ opened_list g i → AreOpeningMarks i g.start g.leaves w.marks
    → Shows w (opens_as g i)
opener_shows g zero w phase rest list opens = record {
  phase = sym phase;
  rest = sym rest;
  list = sym list;
  marks = λ l inside.
      new_to_leader g.start l
      ∙ ap not (sym (opens.each l (subst (λ (n : ℕ). l < n) opens.count inside)));
}
opener_shows g (suc i) w phase rest list opens = record {
  phase = sym phase;
  rest = sym rest;
  list = sym list;
  marks = λ l inside. ap not (sym (opens.each l (subst (λ (n : ℕ). l < n) opens.count inside)));
}

-- what holds of each leaf that an option names holds of the option
pub if_some : (o : Option ℕ) (n : ℕ) → ((l : ℕ) → o ≡ Some l → l < n) → IfSome o (λ l. l < n)
if_some None n h = tt
if_some (Some l) n h = h l refl

module _ (a : Question) (ix : IndexParts) (queues : ℕ) (s : Option Start) (start : Option ℕ)
    (opens : s ≡ start_of (search_over a ix 1 queues)) (is : start ≡ option_map (λ (t : Start). t.leaf) s) where
  -- the worker's start leaf is that of the search
  pub opener_start : start ≡ start_leaf_of (view_in a) ix
  opener_start =
      is ∙ ap (option_map (λ (t : Start). t.leaf)) opens ∙ leaf_of_start (search_over a ix 1 queues)

  -- it is a leaf
  pub opener_leaf : IsIndex ix → (n : ℕ) → n ≡ length ix.leaves → IfSome start (λ l. l < n)
  opener_leaf index n all =
      if_some start n
      (λ l e. let real = start_is_leaf (view_in a) ix l index (sym opener_start ∙ e) in omega (arith, real, all))

  -- the marks are those of the search's start leaf
  pub opener_marks : (i n : ℕ) (marks : List Bool) → n ≡ length ix.leaves → AreOpeningMarks i start n marks
      → AreOpeningMarks i (start_leaf_of (view_in a) ix) (length ix.leaves) marks
  opener_marks i n marks all are =
      subst (λ (m : ℕ). AreOpeningMarks i (start_leaf_of (view_in a) ix) m marks) all
      (subst (λ (o : Option ℕ). AreOpeningMarks i o n marks) opener_start are)
