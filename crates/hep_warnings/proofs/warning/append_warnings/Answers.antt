use Rattle.hep_warnings.specs.Lines.{warning_line}
use Rattle.hep_warnings.proofs.Appending.{appended}
use Rattle.hep_warnings.proofs.warning.append_warnings.Goals as goal

pub loop-warning-preserved : goal.loop-warning-preserved
loop-warning-preserved c =
    appended warning_line c.args.warnings.now c.loop-warning.warning-index _ c.loop-warning.text.items _ _ c.loop-warning-test.true
    c.in_ok-append_warning.ensures c.loop-warning.invariant
