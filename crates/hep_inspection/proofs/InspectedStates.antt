-- What everything holds after entries is what it holds after these one step at a time.
use Rattle.std.proofs.Common.{◌≡◌, ℕ, List, length, ap, ◌∙◌}
use Rattle.hep_core.specs.CoreValues.{CoreValue}
use Rattle.hep_page.proofs.PagesOfCores.{singles-told}
use Rattle.hep_replay.specs.Replays.{replayed}
use Rattle.hep_machine.specs.declared.event.Entry.{Entry}
use Rattle.hep_machine.specs.Words.{Units}
use Rattle.hep_state_text.specs.States.{state_text}
use Rattle.hep_state_text.specs.LineDisplay.{line_shown}
use Rattle.hep_text.specs.Line as rows_of
use Rattle.hep_inspection.specs.Inspections.{told}
use Rattle.hep_inspection.specs.declared.inspection.Inspection.TheVariants.{State}

-- what everything holds after the history of a core that has made entries again
pub state-told : (core : CoreValue) (source : List ℕ) (program : Units) (cells : ℕ) (entries : List Entry) → core ≡ replayed program cells entries
    → state_text (line_shown (rows_of.lines source)) core.program (length entries) core.history ≡ told State source program entries
state-told core source program cells entries made =
    ap (λ (x : CoreValue). state_text (line_shown (rows_of.lines source)) x.program (length entries) x.history) made ∙ singles-told (line_shown (rows_of.lines source)) program (length entries) entries
