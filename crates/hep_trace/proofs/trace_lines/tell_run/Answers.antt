use Rattle.std.proofs.Common.{◌≡◌, ◌∙◌, ◌+◌, ◌++◌, ◌≤◌, ℕ, Bool, true, false, [], ◌∷◌, inl, inr, Ok, ap, append-nil, arith, refl, replicate, subst, sym}
use Rattle.hep_core.specs.CoreValues.{CoreValue}
use Rattle.hep_history.specs.Runs.{entry_of}
use Rattle.hep_why.specs.Progress.{AreMade, EntryMade, RunMade, again, begun}
use Rattle.hep_why.specs.Replays.{HaveGaps}
use Rattle.hep_replay.proofs.ReplayTurns.{joined, once, run_cut, run_whole}
use Rattle.hep_machine.specs.declared.event.Entry.{Entry}
use Rattle.hep_machine.specs.Words.{Units}
use Rattle.hep_event.specs.Traces.{trace_from}
use Rattle.hep_trace.specs.TraceProgress.{IsReplaying, progress_of, shown_text}
use Rattle.hep_trace.specs.LineFilters.{shown_on}
use Rattle.hep_trace.proofs.EqualEntries.{cut-behind, lines-more, program-made, replaying-made, trace-alone, trace-hidden}
use Rattle.hep_trace.proofs.EntriesLeft.{lines-none}
use Rattle.hep_trace.proofs.trace_lines.tell_run.Goals.{After-make_run, After-make_silent-silent}
use Rattle.hep_trace.specs.LineMakers.{CanTell}
use Rattle.hep_trace.proofs.trace_lines.tell_run.Goals as goal

pub loop-made-init : goal.loop-made-init
loop-made-init c =
    let core = c.args.core.now.core in
    record {
      few = omega arith;
      so_far = begun core;
      replaying = c.requires.replaying;
      told = sym (append-nil c.args.text.now.items) ∙ ap (λ t. c.args.text.now.items ++ t) (sym (lines-none core.program (shown_on c.args.teller.now.page.now) (c.args.before + 1) (progress_of core) [] refl));
    }

pub make_silent-silent-requires-clause-teller : goal.make_silent-silent-requires-clause-teller
make_silent-silent-requires-clause-teller c =
    subst (λ (u : Units). CanTell u c.args.teller.now) (sym (program-made (entry_of c.args.run) c.args.core.now.core c.loop-made.made c.loop-made.core.core c.loop-made.invariant.so_far)) c.requires.teller

pub make_silent-silent-requires-clause-standing : goal.make_silent-silent-requires-clause-standing
make_silent-silent-requires-clause-standing c = c.loop-made.invariant.replaying.standing

-- ---- those that have no line by where they begin

module _ (c : After-make_silent-silent) where
  abbrev n : ℕ
  n = c.loop-made.made + c.make_silent-silent.result

  abbrev mid : CoreValue
  mid = c.make_silent-silent.new.core.core

  so-far : AreMade (entry_of c.args.run) c.args.core.now.core n mid
  so-far = joined (entry_of c.args.run) c.args.core.now.core c.loop-made.made c.make_silent-silent.result c.loop-made.core.core mid c.loop-made.invariant.so_far c.make_silent-silent.ensures.made

  replays : IsReplaying mid
  replays = replaying-made (entry_of c.args.run) c.loop-made.core.core c.make_silent-silent.result mid c.make_silent-silent.ensures.made c.loop-made.invariant.replaying

  silent-lines : c.loop-made.text.items ≡ c.args.text.now.items ++ trace_from c.args.core.now.core.program (shown_on c.args.teller.now.page.now) (c.args.before + 1) (progress_of c.args.core.now.core) (replicate n (entry_of c.args.run))
  silent-lines =
      lines-more (shown_on c.args.teller.now.page.now) (c.args.before + 1) (entry_of c.args.run) c.args.core.now.core c.loop-made.made c.loop-made.core.core c.make_silent-silent.result c.args.text.now.items c.loop-made.text.items c.loop-made.text.items
      c.loop-made.invariant.so_far c.loop-made.invariant.told (
      sym (append-nil c.loop-made.text.items) ∙ ap (λ t. c.loop-made.text.items ++ t) (sym (c.make_silent-silent.ensures.silent (c.args.before + 1 + c.loop-made.made))))

-- where none was made the core is as it was
unmade : (e : Entry) (old : CoreValue) (k : ℕ) (new : CoreValue) → AreMade e old k new → k ≡ 0 → old ≡ new
unmade e _ _ _ (begun core) none = refl
unmade e _ _ _ (again old k core new before is) none = absurd (omega (arith, none))

pub loop-made-preserved-else-silent-eq0 : goal.loop-made-preserved-else-silent-eq0
loop-made-preserved-else-silent-eq0 c =
    let at = (goal.at.loop-made-preserved-else-silent-eq0 c).After-make_silent-silent in
    record { few = omega (arith, c.make_silent-silent.ensures.few, c.loop-made-test.true); so_far = so-far at; replaying = replays at; told = silent-lines at }

pub tell_entry-requires-clause-teller : goal.tell_entry-requires-clause-teller
tell_entry-requires-clause-teller c =
    let at = (goal.at.tell_entry-requires-clause-teller c).After-make_silent-silent in
    subst (λ (u : Units). CanTell u c.args.teller.now) (sym (program-made (entry_of c.args.run) c.args.core.now.core (n at) (mid at) (so-far at))) c.requires.teller

pub tell_entry-requires-clause-replaying : goal.tell_entry-requires-clause-replaying
tell_entry-requires-clause-replaying c = replays (goal.at.tell_entry-requires-clause-replaying c).After-make_silent-silent

pub make_run-requires-clause-standing : goal.make_run-requires-clause-standing
make_run-requires-clause-standing c = c.loop-made.invariant.replaying.standing

pub make_run-requires-clause-within : goal.make_run-requires-clause-within
make_run-requires-clause-within c = c.loop-made.invariant.replaying.within

-- one was made, with its lines
pub loop-made-preserved-then-silent-eq0 : goal.loop-made-preserved-then-silent-eq0
loop-made-preserved-then-silent-eq0 c =
    let at = (goal.at.loop-made-preserved-then-silent-eq0 c).After-make_silent-silent in
    let e = entry_of c.args.run in
    let old = c.args.core.now.core in
    let core = mid at in
    let new = c.tell_entry.new.core.core in
    let made = n at in
    let shown = shown_on c.args.teller.now.page.now in
    let number = c.args.before + 1 + c.loop-made.made in
    let one = subst (λ (x : Entry). EntryMade core x (Ok true) new) c.entry.ensures (
    subst (λ (b : Bool). EntryMade core c.entry.result (Ok b) new) c.if-not-branch.false c.in_ok-tell_entry.ensures.made) in
    let more = once e core new one in
    let there : number ≡ (c.args.before + 1) + made = omega (arith, c.if-silent-eq0.true) in
    record {
      few = omega (arith, c.loop-made-test.true, c.if-silent-eq0.true);
      so_far = joined e old made 1 core new (so-far at) more;
      replaying = replaying-made e core 1 new more (replays at);
      told = lines-more shown (c.args.before + 1) e old made core 1 c.args.text.now.items c.loop-made.text.items c.tell_entry.new.text.items (so-far at) (silent-lines at) (
          c.in_ok-tell_entry.ensures.told c.if-not-branch.false
          ∙ ap (λ (x : Entry). c.loop-made.text.items ++ shown_text core.program shown number (progress_of core) x) c.entry.ensures
          ∙ ap (λ t. c.loop-made.text.items ++ t) (sym (trace-alone core.program shown number (progress_of core) e))
          ∙ ap (λ k. c.loop-made.text.items ++ trace_from core.program shown k (progress_of core) (e ∷ [])) there);
    }

-- and where it isn't possible
pub returns-then-not-branch-clause-made : goal.returns-then-not-branch-clause-made
returns-then-not-branch-clause-made c =
    let at = (goal.at.returns-then-not-branch-clause-made c).After-make_silent-silent in
    let e = entry_of c.args.run in
    let core = mid at in
    let new = c.tell_entry.new.core.core in
    let same = unmade e c.loop-made.core.core c.make_silent-silent.result core c.make_silent-silent.ensures.made (omega (arith, c.if-silent-eq0.true)) in
    inr (record {
      core = core;
      fewer = omega (arith, c.loop-made-test.true, c.if-silent-eq0.true);
      before = so-far at;
      gaps = subst (λ (v : CoreValue). HaveGaps v.program v.cells v.history) same c.headline.ensures.legal.room;
      refused = subst (λ (x : Entry). EntryMade core x (Ok false) new) c.entry.ensures (
          subst (λ (b : Bool). EntryMade core c.entry.result (Ok b) new) c.if-not-branch.true c.in_ok-tell_entry.ensures.made);
    })

pub returns-then-not-branch-clause-told : goal.returns-then-not-branch-clause-told
returns-then-not-branch-clause-told c all = absurd (omega (arith, all, c.loop-made-test.true, c.if-silent-eq0.true))

-- those that aren't shown were made
hidden-lines : (c : After-make_run) (more : ℕ) → more ≤ c.hidden-hidden.result → (new : CoreValue) → AreMade (entry_of c.args.run) c.loop-made.core.core more new
    → c.loop-made.text.items ≡ c.args.text.now.items ++ trace_from c.args.core.now.core.program (shown_on c.args.teller.now.page.now) (c.args.before + 1) (progress_of c.args.core.now.core) (replicate (c.loop-made.made + more) (entry_of c.args.run))
hidden-lines c more few new made =
    let e = entry_of c.args.run in
    let core = c.loop-made.core.core in
    let shown = shown_on c.args.teller.now.page.now in
    let inv = c.loop-made.invariant in
    lines-more shown (c.args.before + 1) e c.args.core.now.core c.loop-made.made core more c.args.text.now.items c.loop-made.text.items c.loop-made.text.items inv.so_far inv.told (
    sym (append-nil c.loop-made.text.items)
    ∙ ap (λ t. c.loop-made.text.items ++ t) (sym (trace-hidden core.program shown more (c.args.before + 1 + c.loop-made.made) (progress_of core) e (λ k less. c.hidden-hidden.ensures.hidden k (omega (arith, few, less))))))

came : (c : After-make_run) (more : ℕ) → RunMade c.loop-made.core.core c.entry-else-hidden-eq0.result c.hidden-hidden.result (Ok more) c.make_run.new.core.core
    → RunMade c.loop-made.core.core (entry_of c.args.run) c.hidden-hidden.result (Ok more) c.make_run.new.core.core
came c more made = subst (λ (x : Entry). RunMade c.loop-made.core.core x c.hidden-hidden.result (Ok more) c.make_run.new.core.core) c.entry-else-hidden-eq0.ensures made

pub returns-then-more-hidden-clause-made : goal.returns-then-more-hidden-clause-made
returns-then-more-hidden-clause-made c =
    let e = entry_of c.args.run in
    let old = c.args.core.now.core in
    let core = c.loop-made.core.core in
    let new = c.make_run.new.core.core in
    let more = c.in-Ok.more in
    let cut = run_cut core e c.hidden-hidden.result more new (came (goal.at.returns-then-more-hidden-clause-made c).After-make_run more c.in-Ok.ensures.made) c.if-more-hidden.true in
    inr (cut-behind e old c.loop-made.made core c.hidden-hidden.result more c.args.run.count new c.loop-made.invariant.so_far cut (
    omega (arith, c.if-more-hidden.true, c.hidden-hidden.ensures.few, c.loop-made-test.true)))

pub returns-then-more-hidden-clause-told : goal.returns-then-more-hidden-clause-told
returns-then-more-hidden-clause-told c all = absurd (omega (arith, all, c.if-more-hidden.true, c.hidden-hidden.ensures.few, c.loop-made-test.true))

pub loop-made-preserved : goal.loop-made-preserved
loop-made-preserved c =
    let e = entry_of c.args.run in
    let old = c.args.core.now.core in
    let core = c.loop-made.core.core in
    let new = c.make_run.new.core.core in
    let more = c.in-Ok.more in
    let before = (goal.at.loop-made-preserved c).After-make_run in
    let whole = run_whole core e c.hidden-hidden.result more new (came before more c.in-Ok.ensures.made) c.if-more-hidden.false in
    record {
      few = omega (arith, whole.0, c.hidden-hidden.ensures.few, c.loop-made-test.true);
      so_far = joined e old c.loop-made.made more core new c.loop-made.invariant.so_far whole.1;
      replaying = replaying-made e core more new whole.1 c.loop-made.invariant.replaying;
      told = hidden-lines before more (omega (arith, whole.0)) new whole.1;
    }

pub returns-clause-made : goal.returns-clause-made
returns-clause-made c = inl (omega (arith, c.loop-made.invariant.few, c.loop-made-test.false), c.loop-made.invariant.so_far)

pub returns-clause-told : goal.returns-clause-told
returns-clause-told c all =
    c.loop-made.invariant.told
    ∙ ap (λ n. c.args.text.now.items ++ trace_from c.args.core.now.core.program (shown_on c.args.teller.now.page.now) (c.args.before + 1) (progress_of c.args.core.now.core) (replicate n (entry_of c.args.run))) all
