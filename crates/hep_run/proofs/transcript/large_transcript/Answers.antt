use Rattle.std.proofs.Common.{sym, ap, ◌∙◌}
use Rattle.hep_history.specs.Entries.{EntriesLeft}
use Rattle.hep_outcome.specs.Lines.{lines_text}
use Rattle.hep_run.proofs.Wanted.{large-text}
use Rattle.hep_run.proofs.transcript.large_transcript.Goals as goal

pub returns : goal.returns
returns c = λ i. record {
  output = c.silent.ensures.output i;
  messages = (ap lines_text c.silent.ensures.messages ∙ sym large-text) i;
  status = c.silent.ensures.status i;
  history = (ap (λ (h : EntriesLeft). h.items) c.silent.ensures.history ∙ c.new-history.ensures.items) i;
}
