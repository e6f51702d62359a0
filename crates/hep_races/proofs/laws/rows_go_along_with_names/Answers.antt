use Rattle.hep_races.specs.Renamings.{renaming_by}
use Rattle.hep_races.proofs.Renamed.{rows-renamed}
use Rattle.hep_races.proofs.laws.rows_go_along_with_names.Goals as goal

pub returns : goal.returns
returns c needed unit site same same_there alike alike_there ds es kept events =
    rows-renamed (renaming_by needed unit site) same same_there alike alike_there kept 0 ds es events
