use Rattle.std.proofs.Common.{◌<◌, ◌≡◌, ◌∙◌, true, nat_lt, length, get_or, None, false, arith}
use Rattle.std.proofs.lemmas.Bool.Decides.{nat_tests}
use Rattle.hep_storage.proofs.SharedRuns.{more-here}
use Rattle.hep_storage.specs.declared.runs.PositionRun.{PositionRun}
use Rattle.hep_storage.proofs.shared_prefix.has_more.Goals as goal

pub returns-then-place-runs-2 : goal.returns-then-place-runs-2
returns-then-place-runs-2 c =
    let rs = c.args.runs.now in
    let p = c.args.place in
    let le = c.requires.0 in
    let lt : p.run < length rs = omega (arith, le) in
    let d : PositionRun = record { position = record { asynchronous = false; value_type = None }; count = 0 } in
    let h : p.before < (get_or rs p.run d).count = omega (arith, c.if-place-runs-2.true) in
    let e : nat_lt p.before (get_or rs p.run d).count ≡ true = grind (arith, nat_tests) in
    e ∙ more-here p rs d lt h
