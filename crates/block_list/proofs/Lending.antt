-- A `&` to nodes is made of a borrow of them, and what it holds may be copied and used for a shorter time.
use mathlib.Core.List.{List, [], ◌∷◌}
use seplogic.Ra.Ura.{Ura}
use mir.Syntax.{Ty}
use base.Fml.{Lft, Fml, ftrue, ffalse, Incl}
use base.Fraction.{full_share}
use types.Logic.{Logic}
use denote.RattleType.{RattleType, RowLaws}
use denote.Param.Laws.{Laws}
use denote.Param.Shared.{copy_shared}
use denote.RawPtr.{Ptr, RawPtr, lies_at, ◌+ₚ◌, ptr_row_laws}
use denote.Sharing.{ShrLaws, beside}
use denote.SharingLaws.{beside_shr_laws, nothing_shr_laws}
use denote.Shares.{Shares-less}
use denote.Struct.Field.{RawPtr-field}
use denote.Struct.Laws.{RawPtr-copy}
use denote.Struct.Lending.{lent_at, lent_at_shr_laws, Lends-lies, Lends-first, Lends, Lends-both, Lends-nothing}
use contract.BorrowLft.{⊑_static}
use Rattle.block_list.specs.Links.{Link, links_of}
use Rattle.block_list.specs.Ownership.{elem_offset, frees, node_owns, chain_owns, chain_lent}

module _ (R : RattleType) (L : RowLaws R) where
  -- what a `&` to nodes holds has the laws of sharing
  pub chain_lent_laws : (ls : List Link) (xs : List R.Denot) → ShrLaws (chain_lent R ls xs)
  chain_lent_laws [] xs = nothing_shr_laws
  chain_lent_laws (l ∷ ls) [] = nothing_shr_laws
  chain_lent_laws (l ∷ ls) (x ∷ xs) =
      let elem = lent_at_shr_laws R L (l.0 +ₚ elem_offset R) x in
      let next = lent_at_shr_laws RawPtr ptr_row_laws (l.0 +ₚ 0) l.1 in
      beside_shr_laws _ _ (beside_shr_laws _ _ elem next) (chain_lent_laws ls xs)

module _ {M : Type 1} {𝓤 : Ura M} (𝓛 : Logic 𝓤) (κ : Lft) (R Z : RattleType)
    (holds : Z.Denot → Ty → Ptr → Fml) (L : Laws R) (inc : Incl κ R.lives) where
  -- the pointer of a node is lent
  Lends-pointer : (p x : Ptr) → Lends 𝓛 (lies_at RawPtr full_share p x) (lent_at RawPtr p x) κ
  Lends-pointer p x =
      Lends-lies 𝓛 RawPtr κ p x
      (Shares-less 𝓛 RawPtr [] κ (⊑_static κ) ((copy_shared RawPtr-field RawPtr-copy).shares M 𝓤 𝓛) x)

  -- the element of a node is lent
  Lends-elem : (p : Ptr) (x : R.Denot) → Lends 𝓛 (lies_at R full_share p x) (lent_at R p x) κ
  Lends-elem p x = Lends-lies 𝓛 R κ p x (Shares-less 𝓛 R R.lives κ inc (L.shares 𝓛) x)

  -- nodes are lent, and what frees them is kept back
  pub Lends-chain : (ns : List (Link × Z.Denot)) (xs : List R.Denot)
      → Lends 𝓛 (chain_owns R Z holds ns xs) (chain_lent R (links_of ns) xs) κ
  Lends-chain [] [] = Lends-nothing 𝓛 ftrue κ
  Lends-chain [] (x ∷ xs) = Lends-nothing 𝓛 ffalse κ
  Lends-chain (n ∷ ns) [] = Lends-nothing 𝓛 ffalse κ
  Lends-chain (n ∷ ns) (x ∷ xs) =
      let elem = lent_at R (n.0.0 +ₚ elem_offset R) x in
      let next = lent_at RawPtr (n.0.0 +ₚ 0) n.0.1 in
      Lends-both 𝓛 (node_owns R Z holds n x) (chain_owns R Z holds ns xs) (beside elem next) (chain_lent R (links_of ns) xs) κ
      (Lends-both 𝓛 _ _ elem next κ
      (Lends-elem (n.0.0 +ₚ elem_offset R) x)
      (Lends-first 𝓛 _ (frees R Z holds n.0.0 n.1) next κ (Lends-pointer (n.0.0 +ₚ 0) n.0.1)))
      (Lends-chain ns xs)
