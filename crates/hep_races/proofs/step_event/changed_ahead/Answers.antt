use Rattle.std.proofs.Common.{◌∙◌, ◌++◌, List, ap, map, sym}
use Rattle.std.specs.Option.{option_to_list}
use Rattle.hep_machine.specs.Words.{Next, Top, run}
use Rattle.hep_accesses.specs.Exchanges.{next_on_top}
use Rattle.hep_races.proofs.SeenAhead.{changes-seen, purged-none, purged-targets}
use Rattle.hep_races.proofs.step_event.changed_ahead.Goals.{in-Purge+in_ok-append_purged, in_default}
use Rattle.hep_races.proofs.step_event.changed_ahead.Goals as goal
use Rattle.hep_races.specs.StepEvents.{change_by}
use Rattle.hep_code.specs.declared.instruction.Operation.{Operation}
use Rattle.hep_races.specs.FullUnits.{full_places}
use Rattle.hep_races.specs.StepChanges.{changes_of_next, units_of_target}
use Rattle.hep_trace.specs.References.{top_after}
use Rattle.hep_views.specs.ListedProcesses.{place_of}
use Rattle.hep_views.specs.declared.place.Place.{Place}
use Rattle.std.specs.List.{flat_map}

pub append_purged-requires : goal.append_purged-requires
append_purged-requires c =
    let cells = c.requires.0 in
    let choices = c.requires.1 in
    let top = c.requires.2 in
    let ahead = c.requires.3 in
    let program = c.args.ahead.now.image.now in
    let coming = c.args.ahead.now.coming.now in
    let t : Top = top_after program choices c.args.ahead.now.process top in
    let come = c.operations_come_next.ensures program cells choices c.args.ahead.now.machine.now c.args.ahead.now.process top coming
    c.is_runnable.ensures.accepted c.is_runnable.ensures.main ahead.lives ahead.coming in
    let purge = purged-targets cells choices c.args.ahead.now top coming.operands.items come.0 coming.operation coming.behind.now
    c.args.named c.in-Purge.count c.in-Purge.next c.in-Purge.is (next_on_top program t) come.1 in
    (cells, choices, top, purge.0, ahead, purge.1, purge.2)

pub returns : goal.returns
returns c cells choices top ahead named state =
    let program = c.args.ahead.now.image.now in
    let coming = c.args.ahead.now.coming.now in
    let full = c.args.full in
    let t : Top = top_after program choices c.args.ahead.now.process top in
    let come = c.operations_come_next.ensures program cells choices c.args.ahead.now.machine.now c.args.ahead.now.process top coming
    c.is_runnable.ensures.accepted c.is_runnable.ensures.main ahead.lives ahead.coming in
    let n = next_on_top program t in
    let place = place_of program (run program choices) in
    let begun = c.in_ok-places.ensures ∙ ap option_to_list c.change_by.ensures in
    elim c.match-ahead.branch [
      | in-Purge+in_ok-append_purged w ↦
          let purge = purged-targets cells choices c.args.ahead.now top coming.operands.items come.0 coming.operation coming.behind.now
          c.args.named w.in-Purge.count w.in-Purge.next w.in-Purge.is n come.1 in
          let units = flat_map (units_of_target program t) purge.0 in
          let none = begun ∙ ap (λ (o : Operation). option_to_list (change_by o c.args.named full)) w.in-Purge.is in
          ap (λ ps. ps.items) w.places-is
          ∙ w.in_ok-append_purged.ensures cells choices top purge.0 ahead purge.1 purge.2
          ∙ ap (λ (ps : List Place). ps ++ full_places program (run program choices) units) none
          ∙ ap (λ (x : Next). map place (changes_of_next program t x)) (sym purge.1)
      | in_default w ↦
          let other = purged-none cells choices c.args.ahead.now top coming.operands.items come.0 coming.operation coming.behind.now
          c.args.named w.in_default.not-Purge n come.1 in
          ap (λ ps. ps.items) w.places-is ∙ begun
          ∙ changes-seen cells choices c.args.ahead.now top coming.operands.items come.0 coming.operation coming.behind.now c.args.named
          full
          state n other come.1 named
    ]
