use Rattle.std.proofs.Common.{ap, refl}
use Rattle.hep_core.specs.CoreValues.{CoreValue}
use Rattle.hep_page.proofs.PagesOfCores.{replayed-again}
use Rattle.hep_inspection.proofs.replay_result.make_entries.Goals as goal

pub returns-in-Ok-clause-made : goal.returns-in-Ok-clause-made
returns-in-Ok-clause-made c =
    let r = c.in-Ok.ensures in (
      refl,
      (r.fits, r.possible),
      replayed-again c.in-Ok.core.core c.args.image c.args.arena c.args.entries.items r.made r.fits c.requires.some c.requires.few,
      ap (λ (x : CoreValue). x.program) r.made,
      ap (λ (x : CoreValue). x.cells) r.made,
    )
