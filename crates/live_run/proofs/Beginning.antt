-- The one reader of a new collection.
use Rattle.std.proofs.Common.{◌≡◌, List, [], ◌∷◌, ◌++◌, length, refl, ap, subst, length-append, arith}
use Rattle.std.specs.Prelude.{slice_index_or}
use Rattle.live_collection.specs.Sides.{AreNewReaders, IsNewReader}
use Rattle.live_collection.specs.declared.live.LiveCollection.{LiveCollection}
use Rattle.live_collection.specs.declared.live.Reader.{Reader}

-- the last of one reader is the first, and no other is left
pub one_popped : (k : LiveCollection) (rs left : List Reader) (r : Reader) → rs ≡ left ++ r ∷ [] → length rs ≡ 1
    → AreNewReaders k rs → (left ≡ []) × IsNewReader k 1 r
one_popped k rs [] r e l news = (refl, subst (λ xs. IsNewReader k 1 (slice_index_or xs 0 r)) e (news 0 r (omega arith)))
one_popped k rs (x ∷ left) r e l news =
    let m = ap length e in let n = length-append left (r ∷ []) in absurd (omega arith)
