use Rattle.std.proofs.Common.{◌∙◌, ap}
use Rattle.hep_core.specs.CoreValues.{CoreValue}
use Rattle.hep_replay.specs.HistoryPrefix.{first_of}
use Rattle.hep_cover.specs.CausesReasons.{why_text}
use Rattle.hep_page.proofs.PagesOfCores.{replayed-again}
use Rattle.hep_inspection.proofs.inspection.why_told.Goals as goal

pub why_text-requires : goal.why_text-requires
why_text-requires c =
    let core = c.in_ok-core.ensures in
    replayed-again c.in_ok-core.core.core c.args.image c.args.arena (first_of c.args.entries.now) core.made core.fits c.requires.some c.requires.few

pub returns-in-Ok-clause-told : goal.returns-in-Ok-clause-told
returns-in-Ok-clause-told c = c.in-Ok.ensures ∙ ap (λ (x : CoreValue). why_text x.program (first_of c.args.entries.now)) c.in_ok-core.ensures.made
