-- What a handle owns.
use Rattle.std.specs.Prelude.{Option, None, Some, ◌≡◌, true}
use Rattle.std.specs.Option.{is_some}
use base.Fml.{Fml, ftrue}
use denote.RawPtr.{Ptr}
use Rattle.std_alloc.specs.Box.Ownership.{box_owns}
use Rattle.std_heap.specs.declared.Global.{Global}
use Rattle.std_heap.specs.contracts.GlobalAllocator.TheImpl.{ghosts}
use Rattle.isearch_c.specs.declared.held.Held.{Held}
use Rattle.isearch_c.specs.contracts.held.Held.{the_row}

-- nothing, or the value at the pointer and the right to free it
abbrev pub held_at : Global → Ptr → Option Held → Fml
held_at heap p None = ftrue
held_at heap p (Some x) = box_owns (ghosts.dealloc_token heap) the_row p x

-- there is a value
abbrev pub IsFull : Option Held → Type 0
IsFull m = is_some m ≡ true
