use denote.Builtin.{u8, u32}
use denote.Struct.Field.{u32-field}
use denote.Param.Send.{IsSend, IsSync, sendable, view_send, view_sync}
use denote.Param.SendFields.{as_row_send, as_row_sync, declared_send, declared_sync}
use Rattle.hep_base.specs.contracts.sequence.Sequence as sequence
use Rattle.hep_image.specs.contracts.data.DataRow as row
use Rattle.hep_image.specs.contracts.image.Image.TheInside as inside
use Rattle.hep_image.specs.contracts.names.ProgramNames as names
use Rattle.hep_image.specs.contracts.owners.BlockStart as start
use Rattle.hep_image.specs.contracts.unit.UnitCode as unit
use Rattle.hep_source.specs.contracts.program.Program as program
use Rattle.hep_workers.proofs.thread_safety.images_cross.Goals as goal

pub returns-clause-send : goal.returns-clause-send
returns-clause-send c =
    let source : IsSend program.the_row = c.programs_cross.ensures.send in
    let units : IsSend (sequence.the_row unit.the_row) = record { owned = c.cross.ensures.send.owned; leaving = λ k d w. tt } in
    let rows : IsSend (sequence.the_row row.the_row) = record { owned = c.cross-2.ensures.send.owned; leaving = λ k d w. tt } in
    let texts : IsSend (sequence.the_row (sequence.the_row u8)) = record { owned = c.cross-3.ensures.send.owned; leaving = λ k d w. tt } in
    let numbers : IsSend (sequence.the_row u32) = record { owned = c.cross-4.ensures.send.owned; leaving = λ k d w. tt } in
    let blocks : IsSend (sequence.the_row start.the_row) = record { owned = c.cross-5.ensures.send.owned; leaving = λ k d w. tt } in
    let number : IsSend u32 = search sendable depth 20 in
    let spelled : IsSend names.the_row = declared_send names.the_type (as_row_send (sequence.the_field (sequence.the_row u8)) texts, (as_row_send (sequence.the_field u32) numbers, (as_row_send u32-field number, tt))) in
    view_send inside.the_row _ _ _ _ (declared_send inside.the_type
    (as_row_send program.the_field source, (as_row_send (sequence.the_field unit.the_row) units, (as_row_send u32-field number, (as_row_send u32-field number, (as_row_send (sequence.the_field row.the_row) rows, (spelled, (as_row_send (sequence.the_field start.the_row) blocks, tt))))))))

pub returns-clause-sync : goal.returns-clause-sync
returns-clause-sync c =
    let source : IsSync program.the_row = c.programs_cross.ensures.sync in
    let units : IsSync (sequence.the_row unit.the_row) = record { shared = c.cross.ensures.sync.shared } in
    let rows : IsSync (sequence.the_row row.the_row) = record { shared = c.cross-2.ensures.sync.shared } in
    let texts : IsSync (sequence.the_row (sequence.the_row u8)) = record { shared = c.cross-3.ensures.sync.shared } in
    let numbers : IsSync (sequence.the_row u32) = record { shared = c.cross-4.ensures.sync.shared } in
    let blocks : IsSync (sequence.the_row start.the_row) = record { shared = c.cross-5.ensures.sync.shared } in
    let number : IsSync u32 = search sendable depth 20 in
    let spelled : IsSync names.the_row = declared_sync names.the_type (as_row_sync (sequence.the_field (sequence.the_row u8)) texts, (as_row_sync (sequence.the_field u32) numbers, (as_row_sync u32-field number, tt))) in
    view_sync inside.the_row _ _ _ _ (declared_sync inside.the_type
    (as_row_sync program.the_field source, (as_row_sync (sequence.the_field unit.the_row) units, (as_row_sync u32-field number, (as_row_sync u32-field number, (as_row_sync (sequence.the_field row.the_row) rows, (spelled, (as_row_sync (sequence.the_field start.the_row) blocks, tt))))))))
