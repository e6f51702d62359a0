-- A region is sent with its slots.
use Rattle.std_alloc.proofs.SendSync.{quiet, lies}
use Rattle.hep_arena.specs.contracts.cell.Cell.{the_row as cell_row}
use Rattle.hep_arena.proofs.cell.Cell.TheSendSync.{the_send as cell_send}
use Rattle.hep_arena.specs.contracts.region.Region as region
use denote.Array.{Array}
use denote.Builtin.{RawPtr, usize}
use denote.Param.Send.{IsSend, sendable, array_send, owning_send, struct_send}
use denote.Struct.Owning.{shape, fields, to}
use denote.Struct.Struct.{exits_of}

pointer_send : IsSend RawPtr
pointer_send = search sendable

number_send : IsSend usize
number_send = search sendable

pub send : IsSend region.the_row
send = owning_send region.the_type (pointer_send, (number_send, tt)) (λ d. (tt, lies (Array cell_row d.cells) (array_send cell_row d.cells cell_send) d.memory d.slots))
    (λ k. quiet (to region.the_type) (exits_of k (fields region.the_type)) ((struct_send (shape region.the_type) (pointer_send, (number_send, tt))).leaving k))
