use denote.RattleType.{RattleType}
use denote.Param.Send.{IsSync}
use Rattle.core.specs.declared.alloc.Allocator.{Ghosts}
use Rattle.block_list.proofs.Crosses.{Nodes-sync}
use Rattle.block_list.specs.contracts.nodes.Nodes.{the_row}

pub sync : (T A : RattleType) (g : Ghosts A.Denot) → IsSync T → IsSync (the_row T A g)
sync = Nodes-sync
