use Rattle.std.proofs.Common.{ap, arith, length, subst, sym}
use Rattle.std.proofs.lemmas.List.{take_all}
use Rattle.hep_why.proofs.ReplayedRanges.{can-be-made}
use Rattle.hep_machine.specs.Words.{Units}
use Rattle.hep_races.specs.Races.{CanBeListed}
use Rattle.hep_replay.specs.HistoryPrefix.{first_of}
use Rattle.hep_replay.specs.declared.history_prefix.HistoryPrefix.{HistoryPrefix}
use Rattle.hep_inspection.proofs.races.core_races.Goals as goal

pub history_races-requires-clause-size : goal.history_races-requires-clause-size
history_races-requires-clause-size c = (
  omega (arith, c.requires.some, c.cells-cells.ensures),
  omega
      (arith, c.requires.few, c.cells-cells.ensures),
)

pub history_races-requires-clause-possible : goal.history_races-requires-clause-possible
history_races-requires-clause-possible c =
    let core = c.args.core.now.core in
    let all : HistoryPrefix = record { history = c.args.entries; count = c.len-count.result } in
    subst (λ (us : Units). CanBeListed us c.cells-cells.result all) (sym c.image-image.ensures) (
    subst (λ n. CanBeListed core.program n all) (sym c.cells-cells.ensures) (
    can-be-made core (record { history = c.args.entries; start = 0; end = length (first_of all) }) c.requires c.headline.ensures.legal
    (omega arith) (ap length (take_all c.len-count.result c.args.entries.now.items (omega (arith, c.len-count.ensures))))))
