use Rattle.std.proofs.Crossing.{crosses}
use denote.Builtin.{u32, u64}
use denote.Struct.Field.{u32-field, u64-field}
use denote.Param.Send.{IsSend, sendable, view_send}
use denote.Param.SendFields.{as_row_send, declared_send, variants_send}
use Rattle.hep_blocked.specs.contracts.roster.Roster as roster
use Rattle.hep_history.specs.contracts.history.History as history
use Rattle.hep_core.specs.contracts.run_core.Core.TheInside as inside
use Rattle.hep_core.specs.contracts.stop.ChoiceStop as stop
use Rattle.hep_fast.specs.contracts.decoded_code.DecodedCode as table
use Rattle.hep_state.specs.contracts.core_state.CoreState as machine
use Rattle.hep_private.specs.contracts.ticket.TicketId as ticket
use Rattle.hep_commit.specs.contracts.own_cells.OwnCells as own
use Rattle.hep_commit.specs.contracts.undo_log.UndoLog as saved
use Rattle.hep_image.specs.contracts.image.Image as image
use Rattle.hep_workers.proofs.thread_safety.cores_cross.Goals as goal

ticket-send : IsSend ticket.the_row
ticket-send = search (crosses, sendable, declared_send, as_row_send) depth 20

stop-send : IsSend stop.the_row
stop-send = search (crosses, sendable, variants_send, as_row_send) depth 20

number-send : IsSend u32
number-send = search sendable depth 20

count-send : IsSend u64
count-send = search sendable depth 20

pub returns : goal.returns
returns c =
    let table-send : IsSend table.the_row = record { owned = c.pass.ensures.send.owned; leaving = search (crosses, sendable) depth 30 fits 5000 } in
    let own-send : IsSend own.the_row = record { owned = c.pass-2.ensures.send.owned; leaving = search (crosses, sendable) depth 30 fits 5000 } in
    let history-send : IsSend history.the_row = record { owned = c.pass-3.ensures.send.owned; leaving = λ k d w. tt } in
    let machine-send : IsSend machine.the_row = record { owned = c.pass-4.ensures.send.owned; leaving = search (crosses, sendable) depth 30 fits 5000 } in
    let roster-send : IsSend roster.the_row = record { owned = c.pass-5.ensures.send.owned; leaving = λ k d w. tt } in
    let saved-send : IsSend saved.the_row = record { owned = c.pass-6.ensures.send.owned; leaving = search (crosses, sendable) depth 30 fits 5000 } in
    record {
      send = view_send inside.the_row _ _ _ _ (declared_send inside.the_type (
        search (crosses, sendable, declared_send, as_row_send) depth 20,
        (
          as_row_send image.the_field c.images_cross.ensures.send,
          (
            search (crosses, sendable, as_row_send, table-send) depth 20,
            (
              search (crosses, sendable, as_row_send, own-send) depth 20,
              (
                as_row_send u32-field number-send,
                (
                  as_row_send u64-field count-send,
                  (
                    as_row_send history.the_field history-send,
                    (
                      search (crosses, sendable, variants_send, as_row_send, stop-send) depth 20,
                      (
                        machine-send,
                        (
                          as_row_send roster.the_field roster-send,
                          (
                            search (crosses, sendable, as_row_send, ticket-send) depth 20,
                            (as_row_send u64-field count-send, (saved-send, tt)),
                          ),
                        ),
                      ),
                    ),
                  ),
                ),
              ),
            ),
          ),
        ),
      ));
    }
