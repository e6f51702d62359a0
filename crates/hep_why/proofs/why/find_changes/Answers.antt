use Rattle.std.proofs.Common.{◌≡◌, ◌∙◌, ℕ, [], List, arith, refl, sym, subst, ap, slice_get}
use Rattle.std.proofs.lemmas.Bool.Decides.{nat_tests}
use Rattle.std.proofs.lemmas.List.{nil_from_length}
use Rattle.std.proofs.lemmas.Option.{none-some}
use Rattle.hep_fold.specs.DecodedImage.{DecodedImage}
use Rattle.hep_fold.specs.declared.history_range.HistoryRange.{HistoryRange}
use Rattle.hep_fold.specs.DecodedImages.{AreTables}
use Rattle.hep_fold.specs.Folds.{IsAtStart, KnowsBefore, entries_until}
use Rattle.hep_fold.proofs.Beginnings.{at-start}
use Rattle.hep_replay.specs.HistoryPrefix.{first_of}
use Rattle.hep_fold.specs.Observers.{Replay}
use Rattle.hep_machine.specs.Words.{Units}
use Rattle.hep_why.specs.declared.watch.Watch.{Watch}
use Rattle.hep_why.specs.declared.watch_list.WatchList.{WatchList}
use Rattle.hep_why.specs.Watches.{AreAlongReplay, KnownChanges}
use Rattle.hep_why.proofs.ReplayedRanges.{first-entries, first-start}
use Rattle.hep_why.proofs.FoundChanges.{along-first, can-look-first, found, found-same, unknown}
use Rattle.hep_why.proofs.why.find_changes.Goals.{After-look_at_all, In_ok-again}
use Rattle.hep_why.proofs.why.find_changes.Goals as goal

pub returns-then-is_empty-clause-found : goal.returns-then-is_empty-clause-found
returns-then-is_empty-clause-found c i w e =
    let nobody : c.args.watches.items ≡ [] =
    nil_from_length c.args.watches.items (grind (arith, nat_tests, sym c.is_empty.ensures ∙ c.if-is_empty.true)) in
    absurd (none-some w (sym (ap (λ (ws : List Watch). slice_get ws i) nobody) ∙ e))

pub returns-then-is_empty-clause-same : goal.returns-then-is_empty-clause-same
returns-then-is_empty-clause-same c = λ i. refl

pub open-requires-clause-some : goal.open-requires-clause-some
open-requires-clause-some c = omega (arith, c.requires.replayed.some, c.cells-cells.ensures)

pub open-requires-clause-few : goal.open-requires-clause-few
open-requires-clause-few c = omega (arith, c.requires.replayed.few, c.cells-cells.ensures)

-- ---- the machine that was opened

abbrev range_of : In_ok-again → HistoryRange
range_of c = record { history = c.args.entries.now.history; start = 0; end = c.len-end.result }

abbrev tabled_of : In_ok-again → DecodedImage
tabled_of c = record { image = c.image-image.result; tables = c.deref.result }

all-first : (c : In_ok-again) → entries_until (range_of c) ≡ first_of c.args.entries.now
all-first c =
    first-entries c.args.core.now.core c.args.entries.now c.requires.replayed
    c.headline.ensures.legal (tabled_of c) c.cells-cells.result c.len-end.result
    c.image-image.ensures c.cells-cells.ensures c.len-end.ensures.count

start : (c : In_ok-again) → IsAtStart (tabled_of c) c.cells-cells.result (range_of c) c.in_ok-again.again
start c =
    let opened = c.in_ok-again.ensures in
    first-start c.args.core.now.core c.args.entries.now c.requires.replayed
    c.headline.ensures.legal (tabled_of c) c.cells-cells.result c.len-end.result
    c.image-image.ensures c.cells-cells.ensures c.len-end.ensures.count c.in_ok-again.again
    (subst (AreTables c.image-image.result.now) (sym c.deref.ensures.value) c.in_ok-tables.ensures) opened.opened opened.begun opened.room

pub look_at_all-requires : goal.look_at_all-requires
look_at_all-requires c =
    let at = (goal.at.look_at_all-requires c).In_ok-again in
    can-look-first c.args.core.now.core (first_of c.args.entries.now) c.requires.replayed
    c.image-image.result.now c.cells-cells.result (range_of at)
    c.image-image.ensures c.cells-cells.ensures (all-first at)
    c.in_ok-again.again.machine (at-start (tabled_of at) c.cells-cells.result (range_of at) c.in_ok-again.again (start at))
    c.args.watches.items c.requires.watches

abbrev Knows : Units → Replay → List ℕ → WatchList → KnownChanges → Type 0
Knows program replay made list changes = AreAlongReplay program replay made list.watches.items changes

-- what is known before the first turn
known : (c : After-look_at_all)
    → KnowsBefore Knows (tabled_of (goal.at.After-look_at_all c).In_ok-again) (range_of (goal.at.After-look_at_all c).In_ok-again)
    c.in_ok-again.again (record { watches = c.look_at_all.new.watches }) c.cells-cells.result (unknown c.args.watches.items)
known c =
    let at = (goal.at.After-look_at_all c).In_ok-again in
    record {
      start = start at;
      known =
          along-first c.args.core.now.core (first_of c.args.entries.now) c.requires.replayed
          c.image-image.result.now c.cells-cells.result (range_of at)
          c.image-image.ensures c.cells-cells.ensures (all-first at)
          c.in_ok-again.again.machine (at-start (tabled_of at) c.cells-cells.result (range_of at) c.in_ok-again.again (start at))
          c.args.watches.items c.requires.watches c.look_at_all.new.watches.items c.look_at_all.ensures;
    }

pub fold_range-requires : goal.fold_range-requires
fold_range-requires c = (c.cells-cells.result, unknown c.args.watches.items, known (goal.at.fold_range-requires c).After-look_at_all)

pub returns-clause-found : goal.returns-clause-found
returns-clause-found c =
    let before = (goal.at.returns-clause-found c).After-look_at_all in
    let at = (goal.at.After-look_at_all before).In_ok-again in
    found c.args.core.now.core (first_of c.args.entries.now) c.requires.replayed c.image-image.result.now c.cells-cells.result (range_of at)
    c.image-image.ensures c.cells-cells.ensures (all-first at) refl c.args.watches.items c.fold_range.new.observer.watches.items (
    c.in_ok-fold_range.ensures.seen c.cells-cells.result (unknown c.args.watches.items) (known before))

pub returns-clause-same : goal.returns-clause-same
returns-clause-same c =
    let before = (goal.at.returns-clause-same c).After-look_at_all in
    let at = (goal.at.After-look_at_all before).In_ok-again in
    found-same c.args.core.now.core (first_of c.args.entries.now) c.requires.replayed
    c.image-image.result.now c.cells-cells.result (range_of at)
    c.image-image.ensures c.cells-cells.ensures (all-first at) refl c.args.watches.items c.fold_range.new.observer.watches.items (
    c.in_ok-fold_range.ensures.seen c.cells-cells.result (unknown c.args.watches.items) (known before))
