-- Blocks of the grammar may be checked.
use Rattle.std.proofs.Common.{◌≡◌, ℕ, List, [], ◌∷◌, length, Bool, cond, ap, ◌∙◌}
use Rattle.std.specs.List.{All, AllByRecursion}
use Rattle.std.proofs.lemmas.List.Elements.{All-from_recursion}
use Rattle.certificate.specs.declared.block.Block.{Block}
use Rattle.certificate.specs.declared.block.LeafLine.{LeafLine}
use Rattle.certificate.specs.Grammar.{IsLeafLine, IsBlock, AreBlocks}
use Rattle.certificate.specs.Verdict.{IsFor}

-- the words of leaf lines have s segments
words_fit : (s : ℕ) (fs : List LeafLine) → AllByRecursion (IsLeafLine s) fs
    → AllByRecursion (λ leaf. length leaf.word ≡ s) fs
words_fit s [] fits = tt
words_fit s (f ∷ fs) fits = (fits.0.size, words_fit s fs fits.1)

-- a block may be checked
block_fits : (s : ℕ) (l : Bool) (b : Block) → IsBlock s l b → IsFor s l b
block_fits s l b is = record {
  leaves = is.few_leaves;
  words = All-from_recursion (λ (leaf : LeafLine). length leaf.word ≡ s) b.leaves (words_fit s b.leaves is.leaves);
  labels = λ yes_labels. is.labels_size ∙ ap (λ t. cond t (length b.answers) 0) yes_labels;
}

-- blocks may be checked
all_fit : (s : ℕ) (l : Bool) (bs : List Block) → AreBlocks s l bs → AllByRecursion (IsFor s l) bs
all_fit s l [] are = tt
all_fit s l (b ∷ bs) are = (block_fits s l b are.0, all_fit s l bs are.1)

pub blocks_fit : (s : ℕ) (l : Bool) (bs : List Block) → AreBlocks s l bs → All (IsFor s l) bs
blocks_fit s l bs are = All-from_recursion (IsFor s l) bs (all_fit s l bs are)
