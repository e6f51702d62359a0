use Rattle.std.proofs.Common.{sym, ◌∙◌}
use Rattle.hep_outcome.proofs.Wanted.{on-err-anyway}
use Rattle.hep_run.proofs.Wanted.{large-refused}
use Rattle.hep_run.proofs.transcript.refused_transcript.Goals as goal

pub returns-then-is_too_large-clause-made : goal.returns-then-is_too_large-clause-made
returns-then-is_too_large-clause-made c =
    c.large_transcript.ensures ∙ large-refused c.args.number c.args.line c.args.name.now c.args.notes.now (sym c.is_too_large.ensures ∙ c.if-is_too_large.true)

pub returns-clause-unmade : goal.returns-clause-unmade
returns-clause-unmade c = on-err-anyway c.told_transcript.result (sym c.is_too_large.ensures ∙ c.if-is_too_large.false)
