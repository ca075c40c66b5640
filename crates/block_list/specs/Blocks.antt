-- A row of blocks as the list of its items.
use Rattle.std.specs.Prelude.{◌≡◌, List, [], ◌∷◌, ◌++◌, take, drop, Bool, true, false, ℕ, ◌≤◌, length, Option, Some, None}
use Rattle.block_list.specs.declared.block.Block.{Block}

-- the items that a block holds
abbrev pub block_items : {T : Type 0} → Block T → List T
block_items b = take b.used b.items

-- the items of all blocks, one after another
abbrev pub flat : {T : Type 0} → List (Block T) → List T
flat [] = []
flat (b ∷ bs) = block_items b ++ flat bs

-- there is a block
abbrev pub has_some : {T : Type 0} → List (Block T) → Bool
has_some [] = false
has_some (b ∷ bs) = true

-- each block says whether another follows
abbrev pub Tells : {T : Type 0} → List (Block T) → Type 0
Tells [] = Unit {0}
Tells (b ∷ bs) = (b.more ≡ has_some bs) × Tells bs

-- what is left of a block's items from a place on; with no block, nothing
abbrev pub left_in : {T : Type 0} → Option (List T) → ℕ → ℕ → List T
left_in None at used = []
left_in (Some items) at used = drop at (take used items)

-- the place is among the items of the block, or behind them; with no block there is none
abbrev pub IsWithin : {T : Type 0} → Option (List T) → ℕ → ℕ → Type 0
IsWithin None at used = at ≡ used
IsWithin (Some items) at used = (at ≤ used) × (used ≤ length items) × (length items ≡ 16)
