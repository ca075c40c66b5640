-- What a row of nodes owns and lends, at elements of the row R and an allocator of the row Z.
use Rattle.std.specs.Prelude.{ℕ, ◌+◌, List, [], ◌∷◌}
use base.Fraction.{full_share}
use base.Fml.{Lft, Fml, ftrue, ffalse, fsep, fwand}
use mir.Syntax.{Ty, ty_ptr, ty_struct, tcons, tnil}
use mir.Raw.{raw}
use prog.Memory.{size, align, up}
use denote.RattleType.{RattleType}
use denote.Memory.{lone}
use denote.Sharing.{nothing, beside}
use denote.RawPtr.{Ptr, RawPtr, lies_at, room_for, ◌+ₚ◌}
use denote.Struct.Lending.{lent_at}
use Rattle.block_list.specs.Links.{Link}

-- where the element lies in a node, behind the pointer
abbrev pub elem_offset : RattleType → ℕ
elem_offset R = up (align (lone R.mir)) 8

module _ (R Z : RattleType) where
  -- the type of `Node`, as the machine sees it
  abbrev pub node_type : Ty
  node_type = ty_struct [] (tcons ty_ptr (tcons (raw (lone R.mir)) (tcons (raw (lone Z.mir)) tnil)))

  -- where the handle lies in a node
  abbrev pub handle_offset : ℕ
  handle_offset = up (align (lone Z.mir)) (elem_offset R + size (lone R.mir))

  -- the way back from three empty fields to the whole block
  abbrev pub fields_rejoin : Ptr → Fml
  fields_rejoin p =
      fwand
      (fsep (room_for ty_ptr (p +ₚ 0))
      (fsep (room_for (raw (lone R.mir)) (p +ₚ elem_offset R)) (room_for (raw (lone Z.mir)) (p +ₚ handle_offset))))
      (room_for node_type p)

  module _ (holds : Z.Denot → Ty → Ptr → Fml) where
    -- what gives the block back: the handle in its field, its right to the block, and the way back
    abbrev pub frees : Ptr → Z.Denot → Fml
    frees p h = fsep (lies_at Z full_share (p +ₚ handle_offset) h) (fsep (holds h node_type p) (fields_rejoin p))

    -- a node: its element, its pointer, and what frees it
    abbrev pub node_owns : Link × Z.Denot → R.Denot → Fml
    node_owns n x = fsep (lies_at R full_share (n.0.0 +ₚ elem_offset R) x) (fsep
        (lies_at RawPtr full_share (n.0.0 +ₚ 0) n.0.1) (frees n.0.0 n.1))

    -- nodes with their elements, one each
    abbrev pub chain_owns : List (Link × Z.Denot) → List R.Denot → Fml
    chain_owns [] [] = ftrue
    chain_owns [] (x ∷ xs) = ffalse
    chain_owns (n ∷ ns) [] = ffalse
    chain_owns (n ∷ ns) (x ∷ xs) = fsep (node_owns n x) (chain_owns ns xs)

-- what a `&` holds of nodes and their elements
abbrev pub chain_lent : (R : RattleType) → List Link → List R.Denot → Lft → Fml
chain_lent R [] xs = nothing
chain_lent R (l ∷ ls) [] = nothing
chain_lent R (l ∷ ls) (x ∷ xs) = beside (beside (lent_at R (l.0 +ₚ elem_offset R) x) (lent_at RawPtr (l.0 +ₚ 0) l.1)) (chain_lent R ls xs)
