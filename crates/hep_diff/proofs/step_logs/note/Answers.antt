use Rattle.std.proofs.Common.{◌∙◌, Some, sym, ap}
use Rattle.std.proofs.lemmas.Option.{slice_get-get_or}
use Rattle.hep_diff.specs.StepLogs.{items_of}
use Rattle.hep_diff.proofs.LogRows.{noted}
use Rattle.hep_diff.proofs.step_logs.note.Goals as goal

pub returns : goal.returns
returns c =
    let rows = c.make_room.new.logs.items in
    let row = c.index_mut.result.now in
    let there = c.in_ok-make_room.ensures.there in
    noted rows c.args.logs.now.items c.args.p row c.push.new.self c.args.deed there c.in_ok-make_room.ensures.same
    (ap items_of (slice_get-get_or rows c.args.p row there ∙ ap (λ r. Some r) (sym c.index_mut.ensures.value))) c.in_ok-push.ensures.items
