-- What the writer's side of a group takes to its thread moves there (`side_sends`): references to what threads share, the writer and
-- its batch.
use Rattle.std.proofs.Common.{ℕ, List, [], ◌∷◌}
use Rattle.series_core.proofs.flat.Flat.TheSendSync as flat
use Rattle.series_core.specs.contracts.flat.Flat as Flat
use Rattle.std.specs.contracts.alloc.Global as Global
use Rattle.std.proofs.alloc.Global.TheSendSync as global
use Rattle.std.proofs.Crossing.{crosses}
use Rattle.live_collection.specs.contracts.live.LiveCollection as LiveCollection
use Rattle.live_collection.specs.contracts.live.Writer as Writer
use Rattle.live_collection.proofs.Sends.{collection_shares, writer_sends}
use denote.RattleType.{RattleType}
use denote.Hole.{as_row}
use denote.Ref.{NamedLft, ShrRef}
use denote.Param.{param}
use denote.Param.Send.{IsSend, IsSync, param_sync, sendable, shr_send}
use denote.Param.SendFields.{as_row_send, declared_send}
use denote.Struct.Field.{row_field, u64-field}
use denote.Struct.Tuple.{TupleAt, type_at}

-- a batch of series moves to another thread
flat_sends : IsSend Flat.the_row
flat_sends = search (flat.the_send, crosses, sendable) depth 60 fits 20000

-- so does a reference to what threads may share
reference_sends : (R : RattleType) → IsSync R → (a : NamedLft) → IsSend (ShrRef a.mir a.lft R)
reference_sends R s a = shr_send a.mir a.lft R s

-- a part of a tuple, as its field
part : (R : RattleType) → IsSend R → IsSend (as_row (row_field R))
part R s = as_row_send (row_field R) s

-- what the writer's side takes, in the order of its names
abbrev pub taken : RattleType → RattleType → (a b c d e : NamedLft) → List RattleType
taken H G a b c d e =
    ShrRef a.mir a.lft (param 0 H)
    ∷ ShrRef b.mir b.lft Global.the_row
    ∷ ShrRef c.mir c.lft LiveCollection.the_row
    ∷ Writer.the_row
    ∷ Flat.the_row
    ∷ ShrRef d.mir d.lft (param 1 G)
    ∷ ShrRef e.mir e.lft (u64-field).row
    ∷ []

pub side_sends : (names : List ℕ) (H G : RattleType) → IsSync H → IsSync G → (a b c d e : NamedLft)
    → IsSend (TupleAt names (taken H G a b c d e))
side_sends names H G h s a b c d e =
    let number : IsSync (u64-field).row = search sendable depth 20 in
    declared_send (type_at names (taken H G a b c d e)) (
      part (ShrRef a.mir a.lft (param 0 H)) (reference_sends (param 0 H) (param_sync 0 H h) a),
      (
        part (ShrRef b.mir b.lft Global.the_row) (reference_sends Global.the_row global.the_sync b),
        (
          part (ShrRef c.mir c.lft LiveCollection.the_row) (reference_sends LiveCollection.the_row collection_shares c),
          (
            part Writer.the_row writer_sends,
            (
              part Flat.the_row flat_sends,
              (
                part (ShrRef d.mir d.lft (param 1 G)) (reference_sends (param 1 G) (param_sync 1 G s) d),
                (part (ShrRef e.mir e.lft (u64-field).row) (reference_sends (u64-field).row number e), tt),
              ),
            ),
          ),
        ),
      ),
    )
