use Rattle.std.proofs.Common.{map, sym, ◌∙◌}
use Rattle.hep_races.specs.Observed.{row_in}
use Rattle.hep_races.specs.Vectors.{clock_in}
use Rattle.hep_races.proofs.Racing.{rows-with_race, rows-without_race}
use Rattle.hep_races.proofs.races.note_race.Goals as goal

pub returns-in_ok-add : goal.returns-in_ok-add
returns-in_ok-add c = λ before so_far.
    rows-with_race (clock_in c.args.clock.now) c.args.y.now c.args.list.now c.args.index _ (map row_in c.args.rows.now)
    (map row_in c.add.new.self) before c.requires (sym c.is_latest_race.ensures ∙ c.if-is_latest_race.true) c.in_ok-add.ensures so_far

pub returns-else-is_latest_race : goal.returns-else-is_latest_race
returns-else-is_latest_race c = λ before so_far.
    rows-without_race (clock_in c.args.clock.now) c.args.y.now c.args.list.now c.args.index _ (map row_in c.args.rows.now)
    before c.requires (sym c.is_latest_race.ensures ∙ c.if-is_latest_race.false) so_far
