use Rattle.std.proofs.Common.{◌<◌, length, arith}
use Rattle.hep_storage.proofs.SharedRuns.{beyond, parted, within}
use Rattle.hep_storage.proofs.shared_prefix.compare.Goals as goal

pub returns-then-at-runs : goal.returns-then-at-runs
returns-then-at-runs c =
    let m = c.meet-at.ensures in
    beyond c.meet-at.result.first c.meet-at.result.second c.args.runs.now c.args.list.now m.first_place m.second_place m.same (omega arith)

pub returns-then-at-list : goal.returns-then-at-list
returns-then-at-list c =
    let m = c.meet-at.ensures in
    within c.meet-at.result.first c.meet-at.result.second c.args.runs.now c.args.list.now m.first_place m.second_place m.same (omega arith)

pub returns-else-at-list : goal.returns-else-at-list
returns-else-at-list c =
    let m = c.meet-at.ensures in
    let a = m.first_place.0 in
    let b = m.second_place.0 in
    let lt : c.meet-at.result.first.run < length c.args.runs.now = omega arith in
    let mt : c.meet-at.result.second.run < length c.args.list.now = omega arith in
    parted c.meet-at.result.first c.meet-at.result.second c.args.runs.now c.args.list.now m.first_place m.second_place m.same (m.parted lt mt)
