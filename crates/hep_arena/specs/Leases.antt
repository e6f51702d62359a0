-- Leases: the rest of a vector while a region has its items.
use Rattle.std.specs.Prelude.{◌*◌, ◌-◌, ◌^◌, List, [], ◌∷◌}
use Rattle.std.specs.Global.{Vec}
use Rattle.std.specs.Mem.{type_size}
use Rattle.std.specs.contracts.alloc.Global as heap
use Rattle.std.specs.contracts.impls.GlobalAllocator.TheImpl.{ghosts}
use Rattle.std.specs.contracts.vec.Vec as vector
use Rattle.core.specs.Allocator.{array_of}
use Rattle.hep_machine.specs.declared.slot.Slot.{Slot}
use Rattle.hep_arena.specs.contracts.cell.Cell.{the_row as cell_row}
use base.Fml.{Fml, fsep, flt, feq, fex}
use denote.Memory.{lone}
use denote.RawPtr.{room_for, ◌+ₚ◌}
use denote.Struct.Owning.{Owning, shape}
use denote.Struct.Struct.{Struct}
use mir.Val.{Val, vstruct, of_list}
use prog.Memory.{size}

abbrev pub SlotVec : Type 0
SlotVec = Vec Slot

abbrev pub vec_type : Owning
vec_type = vector.the_type cell_row heap.the_row ghosts

-- A lease owns the vector's fields, the unused memory after its items, and the right to free its memory.
abbrev pub lease_owns : SlotVec → List Val → Fml
lease_owns v vs =
    fex (List Val) (λ us. fsep (feq (List Val) vs (vstruct (of_list us) ∷ [])) (fsep ((Struct (shape vec_type)).own_val (v.ptr, (v.len, (v.cap, (v.alloc, tt)))) us)
    (fsep (flt (v.cap * type_size cell_row) (2 ^ 63)) (fsep (room_for (array_of cell_row (v.cap - v.len)) (v.ptr +ₚ v.len * size (lone cell_row.mir))) (ghosts.dealloc_token v.alloc (array_of cell_row v.cap) v.ptr)))))
