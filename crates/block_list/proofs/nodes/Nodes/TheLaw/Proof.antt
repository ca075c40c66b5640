-- A `&` to the nodes is made where one to an element is.
use mathlib.Core.List.{[], ◌++◌}
use base.Fml.{Incl-trans}
use contract.BorrowLft.{meet_⊑_left}
use denote.RattleType.{RattleType}
use denote.Param.Laws.{Laws}
use denote.Param.Shared.{copy_shared}
use denote.Struct.Field.{RawPtr-field}
use denote.Struct.Laws.{RawPtr-copy}
use denote.Struct.Lending.{of_Lends}
use Rattle.core.specs.declared.alloc.Allocator.{Ghosts}
use Rattle.block_list.specs.Links.{links_of}
use Rattle.block_list.specs.contracts.nodes.Nodes as C
use Rattle.block_list.proofs.nodes.Nodes.TheLaw.Statement.{statement}
use Rattle.block_list.proofs.Lending.{chain_lent_laws, Lends-chain}

pub shares : (R Z : RattleType) (g : Ghosts Z.Denot) (L : Laws R) (K : Laws Z) → statement R Z g L K
shares R Z g L K =
    let pointer = copy_shared RawPtr-field RawPtr-copy in
    of_Lends (C.struct R Z g) (C.the_codes R.Denot Z.Denot R.coded Z.coded) (C.the_heap R Z g) (C.the_lent R Z g)
    (λ d p. chain_lent_laws R L.shr_laws (links_of d.blocks) d.items)
    (pointer, (pointer, tt))
    (λ M 𝓤 𝓛 d p.
    Lends-chain 𝓛 (C.the_row R Z g).lives R Z g.dealloc_token L
    (Incl-trans (meet_⊑_left (R.lives ++ (Z.lives ++ [])) _) (meet_⊑_left R.lives (Z.lives ++ [])))
    d.blocks d.items)
