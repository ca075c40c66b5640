-- A list into which series are scanned one after another.
use Rattle.std.specs.Prelude.{◌≡◌, ◌-◌, ℕ, List, min}
use Rattle.std.specs.List.{All}
use Rattle.isax_word.specs.declared.member.Member.{Member}
use Rattle.row_codes.specs.Rows.{Block}
use Rattle.series_core.specs.Best.{Best, IsBest}
use Rattle.series_core.specs.Order.{distance_at}
use Rattle.series_core.specs.declared.pair.Pair.{Pair}
use Rattle.subtree_build.specs.Index.{IndexParts}
use Rattle.subtree_build.specs.Means.{all_codes}
use Rattle.search_machine.specs.Ground.{scan, scan_one}
use Rattle.search_task.specs.Questions.{IsMemberOf, Question, search_over}

-- a list of the k best, and the most that a distance may be to be added: the lesser of the limit and of the distance
-- of the k-th pair
pub record MayAdd (a : Question) (limit : ℕ) (best : Best) (most : ℕ) : Type 0 where
  pub wanted : best.k ≡ a.k
  pub is_best : IsBest best
  pub most_is : most ≡ min limit (distance_at (best.k - 1) best.pairs)

-- the pairs before and after the scan of one series, whatever is searched for the question
abbrev pub IsScannedOne : Question → ℕ → ℕ → List Pair → List Pair → Type 0
IsScannedOne a limit s before after =
    (ix : IndexParts) (workers queues : ℕ) → after ≡ scan_one (search_over a ix workers queues) limit s before

-- the pairs before and after the scan of these series, whatever is searched for the question
abbrev pub AreScanned : Question → ℕ → List ℕ → List Pair → List Pair → Type 0
AreScanned a limit numbers before after =
    (ix : IndexParts) (workers queues : ℕ) → after ≡ scan (search_over a ix workers queues) limit numbers before

-- members of the question's collection, and the codes of their rows one behind another
pub record AreCoded (a : Question) (ms : List Member) (bs : List Block) : Type 0 where
  pub members : All (IsMemberOf a) ms
  pub codes : bs ≡ all_codes a.collection ms
