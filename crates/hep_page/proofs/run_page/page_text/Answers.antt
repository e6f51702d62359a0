use Rattle.std.proofs.Common.{◌∙◌, ap, length, subst, sym}
use Rattle.hep_core.specs.CoreValues.{CoreValue}
use Rattle.hep_replay.specs.HistoryPrefix.{first_of}
use Rattle.hep_replay.specs.Replays.{ArePossible}
use Rattle.hep_page.specs.Pages.{page_text}
use Rattle.hep_page.proofs.PagesOfCores.{replayed-again}
use Rattle.hep_page.proofs.run_page.page_text.Goals as goal

pub page_again-requires-clause-replayed : goal.page_again-requires-clause-replayed
page_again-requires-clause-replayed c =
    let core = c.in_ok-core.ensures in
    let entries = first_of c.args.shown.now.entries in
    replayed-again c.in_ok-core.core.core c.args.image c.args.cells entries core.made core.fits c.requires.some c.requires.few

pub page_again-requires-clause-possible : goal.page_again-requires-clause-possible
page_again-requires-clause-possible c =
    let entries = first_of c.args.shown.now.entries in
    subst (λ (x : CoreValue). ArePossible x.program x.cells entries (length entries)) (sym c.in_ok-core.ensures.made) c.in_ok-core.ensures.possible

pub returns-in-Ok-clause-told : goal.returns-in-Ok-clause-told
returns-in-Ok-clause-told c =
    let shown = c.args.shown.now in
    c.in-Ok.ensures
    ∙ ap (λ (x : CoreValue). page_text c.args.source.now x.program shown.first (first_of shown.entries)) c.in_ok-core.ensures.made
