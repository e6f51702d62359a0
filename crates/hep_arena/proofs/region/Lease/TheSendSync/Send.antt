-- A lease is sent as the vector's fields and the right to free its memory are.
use Rattle.std.proofs.Common.{◌-◌, ◌*◌}
use Rattle.std.proofs.Crossing as heap
use Rattle.std.specs.Mem.{type_size}
use Rattle.core.specs.Allocator.{array_of}
use Rattle.hep_arena.specs.contracts.cell.Cell.{the_row as S}
use Rattle.hep_arena.specs.Leases.{vec_type}
use Rattle.hep_arena.specs.contracts.region.Lease.{the_row}
use base.Shift.{Keyless}
use denote.Builtin.{RawPtr, usize}
use denote.Param.Send.{IsSend, AllSend, struct_send, sendable}
use denote.RawPtr.{Ptr, block_ptr, null_ptr, room_for, ◌+ₚ◌}
use denote.Struct.Owning.{shape, fields}
use mir.Syntax.{Ty}

pointer_send : IsSend RawPtr
pointer_send = search sendable

number_send : IsSend usize
number_send = search sendable

all : AllSend (fields vec_type)
all = (pointer_send, (number_send, (number_send, (heap.send, tt))))

room : (τ : Ty) (p : Ptr) → Keyless (room_for τ p)
room τ (block_ptr b o) = tt
room τ null_ptr = tt

pub send : IsSend the_row
send = record {
  owned = λ v vs. (
    (λ typed. tt),
    (λ us. (tt, ((struct_send (shape vec_type) all).owned (v.ptr, (v.len, (v.cap, (v.alloc, tt)))) us, (tt, (room (array_of S (v.cap - v.len)) (v.ptr +ₚ v.len * type_size S), heap.frees.frees v.alloc (array_of S v.cap) v.ptr))))),
  );
  leaving = λ k v w. tt;
}
