use Rattle.std.proofs.Common.{◌<◌, ◌∙◌, ap, refl, length, arith}
use Rattle.hep_storage.specs.Runs.{positions_in}
use Rattle.hep_storage.specs.declared.runs.PositionRun.{PositionRun}
use Rattle.hep_storage.proofs.SharedRuns.{cut-within}
use Rattle.hep_storage.proofs.shared_prefix.cut.Goals as goal

pub returns : goal.returns
returns c =
    let rs = c.args.runs.now.items in
    let p = c.args.place in
    let le = c.requires.0 in
    let lt : p.run < length rs = omega (arith, c.args.runs.now.ok.0, c.len.ensures) in
    let d : PositionRun = c.index.result.now in
    ap positions_in c.truncate.ensures.items
    ∙ cut-within p rs (record { position = d.position; count = p.before }) d lt (ap (λ (r : PositionRun). r.position) c.index.ensures) refl
