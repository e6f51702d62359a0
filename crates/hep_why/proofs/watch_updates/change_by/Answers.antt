use Rattle.std.proofs.Common.{ap}
use Rattle.std.specs.Option.{option_map}
use Rattle.hep_views.specs.declared.whereabouts.Whereabouts.{Whereabouts}
use Rattle.hep_why.specs.declared.reason.Change.{Change}
use Rattle.hep_why.proofs.watch_updates.change_by.Goals as goal

pub returns : goal.returns
returns c cells choices after lives =
    ap (option_map (λ (w : Whereabouts). let change : Change = record { entry = c.args.entry; place = w } in change)) (c.whereabouts.ensures cells choices after lives)
