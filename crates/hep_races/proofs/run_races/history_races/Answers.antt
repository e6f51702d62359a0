use Rattle.std.proofs.Common.{◌≡◌, ◌+◌, ◌++◌, ◌∙◌, ℕ, List, ap, length, map, nat_eq, not, refl, subst, sym, take}
use Rattle.std.proofs.lemmas.List.{length-map}
use Rattle.std.specs.Option.{option_map}
use Rattle.hep_accesses.specs.RunEvents.{events_of, races_of}
use Rattle.hep_fold.specs.Folds.{CanBeMade, entries_until, replay_of}
use Rattle.hep_fold.specs.declared.history_range.HistoryRange.{HistoryRange}
use Rattle.hep_machine.specs.Words.{run, same_location, schedule_of}
use Rattle.hep_races.proofs.NotedSteps.{noted-rows}
use Rattle.hep_races.proofs.ObservedTurns.{take-own}
use Rattle.hep_races.proofs.WholeRuns.{none_seen, rows-seen, schedule-none, seen-renamed, steps_seen}
use Rattle.hep_races.specs.ObservedRuns.{AreNoted, AreObserved}
use Rattle.hep_accesses.specs.Accesses.{same_site}
use Rattle.hep_accesses.specs.Detector.{rows_by_clocks}
use Rattle.hep_machine.specs.declared.event.Entry.{Entry}
use Rattle.hep_races.proofs.RunRaces.{as-many-rows, text-of-rows, words_in}
use Rattle.hep_races.proofs.run_races.history_races.Goals as goal
use Rattle.hep_races.specs.Observed.{row_in}
use Rattle.hep_races.specs.RaceLines.{rows_text}
use Rattle.hep_races.specs.RunNames.{AreUnique, run_names}
use Rattle.hep_races.specs.SeenRaces.{source_seen}
use Rattle.hep_races.specs.declared.step_access.AccessSite.{AccessSite}
use Rattle.hep_replay.specs.HistoryPrefix.{first_of}

pub fold_history-requires-clause-possible : goal.fold_history-requires-clause-possible
fold_history-requires-clause-possible c =
    subst (λ n. CanBeMade c.args.image.now c.args.cells (record { history = c.args.entries.history; start = 0; end = n }))
    (sym c.len-end.ensures.count) c.requires.possible

pub fold_history-requires-clause-known : goal.fold_history-requires-clause-known
fold_history-requires-clause-known c =
    let range : HistoryRange = record { history = c.args.entries.history; start = 0; end = c.len-end.result } in
    let replay = replay_of c.args.cells range in (
      none_seen,
      subst (λ ps. AreObserved c.args.image.now replay ps c.in_ok-observer.observer none_seen) (
          sym (schedule-none c.args.entries.history.now.items)) (c.in_ok-observer.ensures replay),
    )

pub returns-clause-text : goal.returns-clause-text
returns-clause-text c =
    let program = c.args.image.now in
    let entries = first_of c.args.entries in
    let range : HistoryRange = record { history = c.args.entries.history; start = 0; end = c.len-end.result } in
    let possible = subst (λ n. CanBeMade program c.args.cells (record { history = c.args.entries.history; start = 0; end = n }))
    (sym c.len-end.ensures.count) c.requires.possible in
    let all : entries_until range ≡ entries = ap (λ n. take n c.args.entries.history.now.items) c.len-end.ensures.count
    ∙ take-own c.args.entries.count c.args.entries.history.now.items in
    let replay = replay_of c.args.cells range in
    let known = subst (λ ps. AreObserved program replay ps c.in_ok-observer.observer none_seen) (
    sym (schedule-none c.args.entries.history.now.items)) (c.in_ok-observer.ensures replay) in
    let seen = c.in_ok-fold_history.ensures.seen none_seen known in
    let steps = steps_seen program range in
    let renamed = seen-renamed program c.args.cells range (schedule_of (entries_until range)) c.fold_history.new.observer steps entries all
    seen in
    let whole = rows-seen program range refl (c.numbers_rise.ensures.processes program) possible.steps
    ∙ ap (λ (es : List Entry). rows_by_clocks same_location same_site (events_of program (schedule_of es))) all in
    let sites = c.as_slice-sites.result.now in
    let shown = source_seen (option_map (λ l. l.now) c.args.lines) in
    let own = noted-rows (run_names program (run program (schedule_of entries)) sites) steps.alone steps.events seen.noted (
    subst (λ (xs : List AccessSite). AreNoted (run_names program (run program (schedule_of entries)) xs) steps.alone steps.events seen.noted)
    (sym c.as_slice-sites.ensures.all) renamed) in
    c.in_ok-append_rows.ensures
    ∙ ap (λ (xs : List ℕ). xs ++ rows_text (words_in program sites entries shown) (map row_in c.rows-rows.result.now))
    c.new-text.ensures.items
    ∙ ap (rows_text (words_in program sites entries shown)) (c.rows-rows.ensures (steps.alone + length steps.events) seen.noted seen.detected ∙ own.rows)
    ∙ text-of-rows program entries sites shown c.is_runnable.ensures.accepted c.is_runnable.ensures.main
    (subst AreUnique (sym c.as_slice-sites.ensures.all) c.as_slice-sites.ensures.unique) steps.alone steps.events own.all own.zipped whole

pub returns-clause-found : goal.returns-clause-found
returns-clause-found c =
    let program = c.args.image.now in
    let entries = first_of c.args.entries in
    let range : HistoryRange = record { history = c.args.entries.history; start = 0; end = c.len-end.result } in
    let possible = subst (λ n. CanBeMade program c.args.cells (record { history = c.args.entries.history; start = 0; end = n }))
    (sym c.len-end.ensures.count) c.requires.possible in
    let all : entries_until range ≡ entries = ap (λ n. take n c.args.entries.history.now.items) c.len-end.ensures.count
    ∙ take-own c.args.entries.count c.args.entries.history.now.items in
    let replay = replay_of c.args.cells range in
    let known = subst (λ ps. AreObserved program replay ps c.in_ok-observer.observer none_seen) (
    sym (schedule-none c.args.entries.history.now.items)) (c.in_ok-observer.ensures replay) in
    let seen = c.in_ok-fold_history.ensures.seen none_seen known in
    let steps = steps_seen program range in
    let renamed = seen-renamed program c.args.cells range (schedule_of (entries_until range)) c.fold_history.new.observer steps entries all
    seen in
    let whole = rows-seen program range refl (c.numbers_rise.ensures.processes program) possible.steps
    ∙ ap (λ (es : List Entry). rows_by_clocks same_location same_site (events_of program (schedule_of es))) all in
    let sites = c.as_slice-sites.result.now in
    let shown = source_seen (option_map (λ l. l.now) c.args.lines) in
    let own = noted-rows (run_names program (run program (schedule_of entries)) sites) steps.alone steps.events seen.noted (
    subst (λ (xs : List AccessSite). AreNoted (run_names program (run program (schedule_of entries)) xs) steps.alone steps.events seen.noted)
    (sym c.as_slice-sites.ensures.all) renamed) in
    let rows = c.rows-rows.result.now in
    let many : length rows ≡ length (races_of program (schedule_of entries)) =
    sym (length-map rows row_in) ∙ ap (λ rs. length rs) (c.rows-rows.ensures (steps.alone + length steps.events) seen.noted seen.detected ∙ own.rows)
    ∙ as-many-rows program entries sites shown c.is_runnable.ensures.accepted c.is_runnable.ensures.main
    (subst AreUnique (sym c.as_slice-sites.ensures.all) c.as_slice-sites.ensures.unique) steps.alone steps.events own.all own.zipped whole in
    ap (λ b. not b) c.is_empty-found.ensures ∙ ap (λ n. not (nat_eq n 0)) many
