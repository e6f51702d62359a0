use Rattle.std.proofs.Common.{length, nat_eq, sym, ap, ◌∙◌}
use Rattle.hep_outcome.proofs.Wanted.{full-bare, on-err-anyway, some-there}
use Rattle.hep_outcome.proofs.transcript.full_transcript.Goals as goal

pub returns-then-is_empty-clause-made : goal.returns-then-is_empty-clause-made
returns-then-is_empty-clause-made c =
    c.bare_full_transcript.ensures ∙ full-bare c.args.notes.now (ap (λ cs. nat_eq (length cs) 0) (sym c.as_slice.ensures) ∙ (sym c.is_empty.ensures ∙ c.if-is_empty.true))

pub returns-clause-unmade : goal.returns-clause-unmade
returns-clause-unmade c =
    on-err-anyway c.noted_full_transcript.result (some-there c.args.notes.now (ap (λ cs. nat_eq (length cs) 0) (sym c.as_slice.ensures) ∙ (sym c.is_empty.ensures ∙ c.if-is_empty.false)))
