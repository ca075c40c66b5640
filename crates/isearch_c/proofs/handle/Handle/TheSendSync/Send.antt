-- A handle may move to another thread, with what it owns.
use Rattle.std.specs.Prelude.{Option, None, Some}
use mir.Raw.{raw}
use base.Shift.{Keyless}
use denote.Memory.{lone}
use denote.RawPtr.{Ptr}
use denote.Struct.Struct.{exits_of}
use denote.Struct.Owning.{shape, fields, to}
use denote.Builtin.{RawPtr}
use denote.Param.Send.{IsSend, AllSend, owning_send, sendable, struct_send}
use Rattle.std_alloc.proofs.SendSync.{lies, quiet}
use Rattle.std_heap.specs.declared.Global.{Global}
use Rattle.std_heap.proofs.Global.TheSendSync as global
use Rattle.std_heap.proofs.GlobalAllocator.TheSendSync as frees
use Rattle.isearch_c.specs.declared.held.Held.{Held}
use Rattle.isearch_c.specs.contracts.held.Held as held
use Rattle.isearch_c.specs.contracts.handle.Handle as handle
use Rattle.isearch_c.specs.Handles.{held_at}
use Rattle.isearch_c.proofs.Sends.{held_sends}

-- a pointer tells no thread from another
pointer_sends : IsSend RawPtr
pointer_sends = search sendable

-- nor does what it owns no thread from another
held_keyless : (a : Global) (p : Ptr) (m : Option Held) → Keyless (held_at a p m)
held_keyless a p None = tt
held_keyless a p (Some x) = (lies held.the_row held_sends p x, frees.the_frees.frees a (raw (lone (held.the_row).mir)) p)

pub send : IsSend handle.the_row
send =
    let O = handle.the_type in
    let all : AllSend (fields O) = (pointer_sends, (global.the_field_send, tt)) in
    owning_send O all (λ d. held_keyless d.alloc d.at d.held)
    (λ k. quiet (to O) (exits_of k (fields O)) ((struct_send (shape O) all).leaving k))
