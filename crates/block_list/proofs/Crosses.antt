-- Nodes may cross threads as their elements and their allocator may.
use Rattle.core.specs.Prelude.{List, [], ◌∷◌}
use mir.Syntax.{Ty}
use base.Fraction.{full_share}
use base.Fml.{ftrue}
use base.Shift.{Keyless}
use denote.Exit.{Exit, unchanged, leaves, hidden, under}
use denote.RattleType.{RattleType}
use denote.RawPtr.{Ptr, block_ptr, null_ptr, block_of, count_of, lies_at, room_for, in_block}
use denote.Builtin.{RawPtr}
use denote.Struct.Struct.{exits_of}
use denote.Struct.Owning.{shape, fields, to}
use denote.Struct.Lending.{lent_at}
use denote.Param.Send.{IsSend, IsSync, Quiet, Common, AllSend, part_keyless, owning_send, struct_send, struct_sync, sendable}
use Rattle.core.specs.declared.alloc.Allocator.{Ghosts}
use Rattle.std_alloc.proofs.SendSync.{FreesAnywhere}
use Rattle.block_list.specs.Links.{Link, links_of}
use Rattle.block_list.specs.Ownership.{chain_owns, chain_lent}
use Rattle.block_list.specs.contracts.nodes.Nodes as Nodes

-- a pointer that a struct keeps tells no thread from another
pointer_send : IsSend RawPtr
pointer_send = search sendable

-- nor does one that is shared
pointer_sync : IsSync RawPtr
pointer_sync = search sendable

-- what changes no field on the way out stays so under a view
quiet_under : {D X : Type 0} (f : D → X) (e : Exit X) → Quiet e → Quiet (hidden (under f e))
quiet_under f unchanged q = λ x w. tt
quiet_under f (leaves L l S s r₀) q = λ d. q (f d)

-- a value that may be sent may lie anywhere
keyless_at : (R : RattleType) → IsSend R → (p : Ptr) (x : R.Denot) → Keyless (lies_at R full_share p x)
keyless_at R sent (block_ptr b o) x = part_keyless R sent full_share x b o
keyless_at R sent null_ptr x = tt

-- and so may an empty room
keyless_room : (τ : Ty) (p : Ptr) → Keyless (room_for τ p)
keyless_room τ (block_ptr b o) = tt
keyless_room τ null_ptr = tt

-- and a place
keyless_place : (p : Ptr) → Keyless (in_block p ftrue)
keyless_place (block_ptr b o) = tt
keyless_place null_ptr = tt

-- what is lent of a value that may be shared
lent_anywhere : (R : RattleType) → IsSync R → (p : Ptr) (x : R.Denot) → Common (lent_at R p x)
lent_anywhere R synced p x κ = (keyless_place p, synced.shared x (block_of p) (count_of p) κ)

-- what is lent of nodes
pub chain_lent-Common : (R : RattleType) → IsSync R → (ls : List Link) (xs : List R.Denot)
    → Common (chain_lent R ls xs)
chain_lent-Common R synced [] xs κ = tt
chain_lent-Common R synced (l ∷ ls) [] κ = tt
chain_lent-Common R synced (l ∷ ls) (x ∷ xs) κ =
    ((lent_anywhere R synced _ x κ, lent_anywhere RawPtr pointer_sync _ l.1 κ), chain_lent-Common R synced ls xs κ)

module _ (R Z : RattleType) (g : Ghosts Z.Denot) where
  -- a `&` to nodes may be shared where the elements may
  pub Nodes-sync : IsSync R → IsSync (Nodes.the_row R Z g)
  Nodes-sync synced = let O = Nodes.the_type R Z g in record {
    shared = λ d b o κ. (
      (struct_sync (shape O) (pointer_sync, (pointer_sync, tt))).shared (to O d) b o κ,
      chain_lent-Common R synced (links_of d.blocks) d.items κ,
    );
  }

  module _ (sent : IsSend R) (handle : IsSend Z) (f : FreesAnywhere Z.Denot g) where
    -- what nodes own may be sent
    chain_owns-Keyless : (ns : List (Link × Z.Denot)) (xs : List R.Denot)
        → Keyless (chain_owns R Z g.dealloc_token ns xs)
    chain_owns-Keyless [] [] = tt
    chain_owns-Keyless [] (x ∷ xs) = tt
    chain_owns-Keyless (n ∷ ns) [] = tt
    chain_owns-Keyless (n ∷ ns) (x ∷ xs) = (
      (
        keyless_at R sent _ x,
        (
          keyless_at RawPtr pointer_send _ n.0.1,
          (
            keyless_at Z handle _ n.1,
            (
              f.frees n.1 _ n.0.0,
              (
                (
                  keyless_room _ _,
                  (keyless_room _ _, keyless_room _ _),
                ),
                keyless_room _ n.0.0,
              ),
            ),
          ),
        ),
      ),
      chain_owns-Keyless ns xs,
    )

    -- nodes may be sent where the elements and the allocator may
    pub Nodes-send : IsSend (Nodes.the_row R Z g)
    Nodes-send =
        let O = Nodes.the_type R Z g in
        let all : AllSend (fields O) = (pointer_send, (pointer_send, tt)) in
        owning_send O all (λ d. chain_owns-Keyless d.blocks d.items)
        (λ k. quiet_under (to O) (exits_of k (fields O)) ((struct_send (shape O) all).leaving k))
