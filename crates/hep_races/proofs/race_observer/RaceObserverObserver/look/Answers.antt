use Rattle.hep_event.proofs.FoundVariables.{levels-of}
use Rattle.hep_races.proofs.ObservedTurns.{ahead-lives}
use Rattle.hep_races.proofs.race_observer.RaceObserverObserver.look.Goals as goal

pub coming_of-requires-clause-levels : goal.coming_of-requires-clause-levels
coming_of-requires-clause-levels c =
    let at = c.requires in
    levels-of (ahead-lives c.args.image.now at.replay at.made c.args.entry c.args.p at.left c.args.machine.now at.under_way).1

pub coming_of-requires-clause-after : goal.coming_of-requires-clause-after
coming_of-requires-clause-after c = let at = c.requires in (at.replay.cells, at.made, at.under_way.after)

pub look_ahead-requires-clause-names : goal.look_ahead-requires-clause-names
look_ahead-requires-clause-names c = c.requires.known.names

pub look_ahead-requires-clause-bounds : goal.look_ahead-requires-clause-bounds
look_ahead-requires-clause-bounds c = c.requires.known.bounds

pub look_ahead-requires-clause-ahead : goal.look_ahead-requires-clause-ahead
look_ahead-requires-clause-ahead c =
    let at = c.requires in
    let top = ahead-lives c.args.image.now at.replay at.made c.args.entry c.args.p at.left c.args.machine.now at.under_way in (
      at.replay.cells,
      at.made,
      top.0,
      record { lives = top.1; coming = c.in_ok-coming.ensures; variables = at.known.variables },
    )

pub returns : goal.returns
returns c at top lives =
    let there = ahead-lives c.args.image.now at.replay at.made c.args.entry c.args.p at.left c.args.machine.now at.under_way in
    c.in_ok-observed.ensures at.replay.cells at.made top (
    record {
      lives = record { after = there.1.after; running = there.1.running; lives = lives };
      coming = c.in_ok-coming.ensures;
      variables = at.known.variables;
    })
