use Rattle.hep_check.proofs.Sound.{told-within}
use Rattle.hep_check.proofs.diagnostics_laws.told_are_violations.Goals as goal

pub returns : goal.returns
returns c program v h = told-within program v h
