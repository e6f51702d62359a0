-- A core after private steps of a process that was out, as one entry of its history.
use Rattle.std.proofs.Common.{◌≡◌, ◌≢◌, ℕ, suc, ◌+◌, ◌<◌, ◌≤◌, false, List, [], ◌∷◌, ◌++◌, length, length-append, IsSome, Option, Some, None, Global, inl, inr, if◌then◌else◌, refl, sym, ap, ◌∙◌, subst, arith, replicate}
use Rattle.std.specs.declared.vec.Vec.{Vec}
use Rattle.hep_machine.specs.declared.event.Entry.{Entry}
use Rattle.hep_machine.proofs.Others.{activations_after, processes_after}
use Rattle.hep_machine.specs.Histories.{most_steps}
use Rattle.hep_machine.specs.Words.{AreSteps, IsLegal, State, Units, is_held, layout_of, living, progress_after, progress_after_step, run, run_from, schedule_of, state_after, state_after_turn, step, view_of}
use Rattle.hep_blocked.specs.RosterUpdates.{AreListed}
use Rattle.hep_blocked.specs.Rosters.{KeepsRoll, RosterValue, want_of}
use Rattle.hep_blocked.proofs.KeptNeeds.{listed-alike}
use Rattle.hep_history.specs.Entries.{EntriesLeft}
use Rattle.hep_commit.specs.Going.{HasGone}
use Rattle.hep_commit.proofs.Runs.{steps-are}
use Rattle.hep_commit.specs.TicketId.{TicketId}
use Rattle.hep_state.specs.declared.core_state.CoreState.{CoreState}
use Rattle.hep_state.specs.Words.{IsMachineAfter, snapshot_of}
use Rattle.hep_state.proofs.ProcessNumbers.{length-stacks}
use Rattle.hep_commit.specs.declared.undo_log.UndoLog.{UndoLog}
use Rattle.hep_views.specs.MachineViews.{machine_view}
use Rattle.hep_core.specs.Commits.{core_after_return, state_along}
use Rattle.hep_core.specs.SilentChoices.{entries_along}
use Rattle.hep_core.specs.Invariant.{AreFew, AreLiving, CoreInvariant, core_value}
use Rattle.hep_core.specs.Tickets.{is_out, without_process}
use Rattle.hep_core.specs.CoreValues.{IsStop, core_after_choice, stop_after}
use Rattle.hep_core.specs.Waking.{HasRoomLeft}
use Rattle.hep_core.specs.declared.run_core.Core.TheInside.{Inside}
use Rattle.hep_core.specs.declared.stop.ChoiceStop.{ChoiceStop}
use Rattle.hep_core.specs.declared.stop.ChoiceStop.TheVariants.{Halted}
use Rattle.hep_core.proofs.SilentChoices.{Far, HasCome, come-so}
use Rattle.hep_core.proofs.Histories.{legal-several, progress-further, progress-joined, schedule-further, schedule-joined, state-further, state-is, state-joined, state-several, steps-further, turned}
use Rattle.hep_core.proofs.GoodTickets.{AreSeen, activations-are, after-next, halted-is, laid-out, listed-next, living-next, processes-are, view-is}
use Rattle.hep_core.proofs.ProcessesOut.{home-again, out-still}
use Rattle.hep_state.proofs.Runs.{few-more}
use Rattle.hep_commit.proofs.Lists.{GoAlong}

module _ (law : GoAlong) (i : Inside) (k : CoreInvariant i) (p : ℕ) where
  abbrev program : Units
  program = i.image

  abbrev h : List Entry
  h = i.history.items

  -- those that stay out
  abbrev pub left : List TicketId
  left = without_process p i.out.items

  pub left-live : AreLiving program h left
  left-live q away = k.living q (out-still p q i.out.items away).0

  abbrev home : is_out p left ≡ false
  home = home-again p i.out.items

  start : Far law program i.cells i.limit p (want_of i.roster.waiting) i.roster.ready left home h
  start = record { layout = k.after.after.layout; laid = k.after.after.laid; listed = k.listed; few = k.few; legal = λ within. k.legal; living = left-live }

  module _ (n : ℕ) (after : List ℕ) (gone : HasGone program i.cells p (schedule_of h) (suc n) after) (lt : length h < i.limit) (few : suc n ≤ most_steps) (made : CoreState) (there : IsMachineAfter program i.cells after made)
      (acts : made.activations ≡ i.machine.activations) (procs : made.made ≡ i.machine.made) (es : List Entry) (is : es ≡ h ++ record { process = p; steps = suc n } ∷ []) where
    come : HasCome law program i.cells i.limit p (want_of i.roster.waiting) i.roster.ready left home h start (suc n) after
    come = come-so law program i.cells i.limit p (want_of i.roster.waiting) i.roster.ready left home h start (suc n) after gone

    pub turns : schedule_of es ≡ after
    turns = ap schedule_of is ∙ schedule-joined h p (suc n) ∙ come.turns

    progress : progress_after program es ≡ progress_after program (entries_along h p (suc n))
    progress = ap (progress_after program) is ∙ progress-joined program h p n

    state : state_after program es ≡ state_after program (entries_along h p (suc n))
    state = ap (state_after program) is ∙ state-joined program h p (suc n)

    pub kept-after : IsMachineAfter program i.cells (schedule_of es) made
    kept-after = subst (λ ps. IsMachineAfter program i.cells ps made) (sym turns) there

    -- each of them is a step
    pub steps : AreSteps program (state_after program h) (replicate (suc n) p)
    steps = subst (λ (s : State). AreSteps program s (replicate (suc n) p)) (sym (state-is program h)) (steps-are program i.cells p (schedule_of h) (suc n) after gone)

    pub state-now : state_after program es ≡ run_from program (state_after program h) (replicate (suc n) p)
    state-now = ap (state_after program) is ∙ state-several program h p (suc n)

    pub listed-now : AreListed program i.cells (schedule_of es) (progress_after program es) (want_of i.roster.waiting) i.roster.ready
    listed-now =
        subst (λ x. AreListed program i.cells (schedule_of es) x (want_of i.roster.waiting) i.roster.ready) (sym progress) (
        subst (λ ps. AreListed program i.cells ps (progress_after program (entries_along h p (suc n))) (want_of i.roster.waiting) i.roster.ready) (sym (ap schedule_of is ∙ schedule-joined h p (suc n))) come.far.listed)

    pub living-now : AreLiving program es left
    living-now q away = subst (λ (s : State). living s q ≢ None) (sym state) (come.far.living q away)

    pub legal-now : IsLegal program i.cells i.limit es
    legal-now =
        subst (IsLegal program i.cells i.limit) (sym is) (
        legal-several program i.cells i.limit h p n k.legal lt (subst (λ fs. IsSome (layout_of program i.cells is_held (schedule_of fs))) is (laid-out program i.cells es (snapshot_of made) kept-after.after)) few steps)

    pub few-now : AreFew program es
    few-now =
        let longer : length es ≡ length h + 1 = ap length is ∙ length-append h (let e : Entry = record { process = p; steps = suc n } in e ∷ []) in
        record {
          activations = omega (arith, acts, longer, k.few.activations, activations-are program i.cells es (snapshot_of made) kept-after.after, activations-are program i.cells h (snapshot_of i.machine) k.after.after);
          processes = omega (
            arith,
            procs,
            longer,
            k.few.processes,
            processes-are program i.cells es (snapshot_of made) kept-after.after,
            processes-are program i.cells h (snapshot_of i.machine) k.after.after,
            length-stacks made.processes.items 1 made.made,
            length-stacks i.machine.processes.items 1 i.machine.made,
          );
        }

    module _ (machine : CoreState) (after-it : IsMachineAfter program i.cells (schedule_of es) machine) (none : i.stop ≡ None) (unhalted : machine.halted ≡ false) where
      unstopped : (state_after program es).halted ≡ false
      unstopped = sym (halted-is program i.cells es (snapshot_of machine) after-it.after) ∙ unhalted

      -- the core keeps its invariant, and its process isn't out any more
      pub private-kept : (history : EntriesLeft) → history.items ≡ es → (roster : RosterValue) → KeepsRoll i.roster roster → HasRoomLeft machine roster → (out : Vec TicketId Global) → out.items ≡ left → (saved : UndoLog)
          → CoreInvariant (record i { history = history; machine = machine; roster = roster; out = out; saved = saved })
      private-kept history same roster noted room out outs saved =
          record {
            after = subst (λ fs. IsMachineAfter program i.cells (schedule_of fs) machine) (sym same) after-it;
            listed = subst (λ fs. AreListed program i.cells (schedule_of fs) (progress_after program fs) (want_of roster.waiting) roster.ready) (sym same) (
                listed-alike program i.cells (schedule_of es) (progress_after program es) (want_of i.roster.waiting) (want_of roster.waiting) i.roster.ready roster.ready listed-now noted.waiting noted.ready);
            room = room;
            legal = subst (IsLegal program i.cells i.limit) (sym same) legal-now;
            few = subst (AreFew program) (sym same) few-now;
            named = subst (λ stop. IsStop program i.cells i.limit history.items stop) (sym none) (subst (λ fs. (state_after program fs).halted ≡ false) (sym same) unstopped);
            living = subst (AreLiving program history.items) (sym outs) (subst (λ fs. AreLiving program fs left) (sym same) living-now);
            tabled = k.tabled;
            owned = k.owned;
          }

      -- what is seen of it
      pub private-value : AreSeen program i.cells → (history : EntriesLeft) → history.items ≡ es → (out : Vec TicketId Global) → out.items ≡ left
          → record (core_value i) { history = history.items; view = machine_view program (snapshot_of machine); out = out.items }
          ≡ core_after_choice (core_after_return (core_value i) p) p (suc n) (state_along (core_after_return (core_value i) p) p (suc n))
      private-value seen history same out outs =
          let stop : i.stop ≡ stop_after (state_after program es) = none ∙ sym (ap (λ b. if b then Some Halted else None) unstopped) in
          let view = view-is program i.cells es (snapshot_of machine) after-it.after seen in
          let all = same ∙ is in
          λ j. record (core_value i) { history = all j; stop = (stop ∙ ap stop_after state-now) j; view = (view ∙ ap (view_of program is_held) state-now) j; out = outs j }

    -- ---- one step more, which isn't private

    module _ (more : step program p (run program (schedule_of es)) ≢ None) (machine : CoreState) (reached : IsMachineAfter program i.cells (schedule_of es ++ p ∷ []) machine) (entries : List Entry) (all : entries ≡ h ++ record { process = p; steps = suc (suc n) } ∷ []) where
      abbrev virtual : List Entry
      virtual = es ++ record { process = p; steps = 1 } ∷ []

      turns-further : schedule_of virtual ≡ schedule_of entries
      turns-further = ap (λ fs. schedule_of (fs ++ record { process = p; steps = 1 } ∷ [])) is ∙ schedule-further program h p (suc n) ∙ sym (ap schedule_of all)

      progress-same : progress_after program virtual ≡ progress_after program entries
      progress-same = ap (λ fs. progress_after program (fs ++ record { process = p; steps = 1 } ∷ [])) is ∙ progress-further program h p n ∙ sym (ap (progress_after program) all)

      state-same : state_after program virtual ≡ state_after program entries
      state-same = ap (λ fs. state_after program (fs ++ record { process = p; steps = 1 } ∷ [])) is ∙ state-further program h p (suc n) ∙ sym (ap (state_after program) all)

      pub further-after : IsMachineAfter program i.cells (schedule_of entries) machine
      further-after = subst (λ ps. IsMachineAfter program i.cells ps machine) turns-further (after-next program i.cells es p virtual refl more machine reached)

      pub further-steps : AreSteps program (state_after program h) (replicate (suc (suc n)) p)
      further-steps =
          steps-further program (state_after program h) p (suc n) steps (
          subst (λ (s : State). step program p s ≢ None) (sym (state-is program es) ∙ state-now) more)

      pub further-state : state_after program entries ≡ run_from program (state_after program h) (replicate (suc (suc n)) p)
      further-state = ap (state_after program) all ∙ state-several program h p (suc (suc n))

      further-few : AreFew program entries
      further-few =
          let longer : length entries ≡ length h + 1 = ap length all ∙ length-append h (let e : Entry = record { process = p; steps = suc (suc n) } in e ∷ []) in
          let s = state_after program es in
          let t = state_after_turn program p s in
          let there : state_after program entries ≡ t = sym state-same ∙ turned program es p in
          let same-acts : length s.activations ≡ length (state_after program h).activations =
          sym (activations-are program i.cells es (snapshot_of made) kept-after.after) ∙ acts ∙ activations-are program i.cells h (snapshot_of i.machine) k.after.after in
          let acts-more : length t.activations ≤ length s.activations + 1 = few-more s.activations t.activations (activations_after program p s) in
          let procs-more : length t.processes ≤ length s.processes + 1 = elim (processes_after program p s) [ inl e ↦ omega (arith, e) | inr e ↦ omega (arith, e) ] in
          record {
            activations = omega (arith, k.few.activations, same-acts, acts-more, longer, ap (λ (z : State). length z.activations) there);
            processes = omega (
              arith,
              k.few.processes,
              procs,
              procs-more,
              longer,
              ap (λ (z : State). length z.processes) there,
              processes-are program i.cells es (snapshot_of made) kept-after.after,
              processes-are program i.cells h (snapshot_of i.machine) k.after.after,
              length-stacks made.processes.items 1 made.made,
              length-stacks i.machine.processes.items 1 i.machine.made,
            );
          }

      further-legal : suc (suc n) ≤ most_steps → IsLegal program i.cells i.limit entries
      further-legal fits =
          subst (IsLegal program i.cells i.limit) (sym all) (
          legal-several program i.cells i.limit h p (suc n) k.legal lt (subst (λ fs. IsSome (layout_of program i.cells is_held (schedule_of fs))) all (laid-out program i.cells entries (snapshot_of machine) further-after.after)) fits further-steps)

      further-living : AreLiving program entries left
      further-living q away = subst (λ (s : State). living s q ≢ None) state-same (living-next program i.cells es p virtual refl more left home living-now q away)

      -- the core keeps its invariant, and its process isn't out any more
      pub further-kept : suc (suc n) ≤ most_steps → (roster : RosterValue)
          → AreListed program i.cells (schedule_of es ++ p ∷ []) (progress_after_step program (progress_after program es) p (run program (schedule_of es ++ p ∷ []))) (want_of roster.waiting) roster.ready
          → HasRoomLeft machine roster → (history : EntriesLeft) → history.items ≡ entries → (out : Vec TicketId Global) → out.items ≡ left → (saved : UndoLog)
          → (stop : Option ChoiceStop) → IsStop program i.cells i.limit entries stop
          → CoreInvariant (record i { history = history; stop = stop; machine = machine; roster = roster; out = out; saved = saved })
      further-kept fits roster lists room history same out outs saved stop named =
          let listed = listed-next program i.cells es p virtual refl more (want_of roster.waiting) roster.ready listed-now.state lists in
          record {
            after = subst (λ fs. IsMachineAfter program i.cells (schedule_of fs) machine) (sym same) further-after;
            listed =
                subst (λ fs. AreListed program i.cells (schedule_of fs) (progress_after program fs) (want_of roster.waiting) roster.ready) (sym same) (
                subst (λ ps. AreListed program i.cells ps (progress_after program entries) (want_of roster.waiting) roster.ready) turns-further (
                subst (λ x. AreListed program i.cells (schedule_of virtual) x (want_of roster.waiting) roster.ready) progress-same listed));
            room = room;
            legal = subst (IsLegal program i.cells i.limit) (sym same) (further-legal fits);
            few = subst (AreFew program) (sym same) further-few;
            named = subst (λ fs. IsStop program i.cells i.limit fs stop) (sym same) named;
            living = subst (AreLiving program history.items) (sym outs) (subst (λ fs. AreLiving program fs left) (sym same) further-living);
            tabled = k.tabled;
            owned = k.owned;
          }

      -- what is seen of it
      pub further-value : AreSeen program i.cells → (history : EntriesLeft) → history.items ≡ entries → (out : Vec TicketId Global) → out.items ≡ left → (stop : Option ChoiceStop) → stop ≡ stop_after (state_after program entries)
          → record (core_value i) { history = history.items; stop = stop; view = machine_view program (snapshot_of machine); out = out.items }
          ≡ core_after_choice (core_after_return (core_value i) p) p (suc (suc n)) (state_along (core_after_return (core_value i) p) p (suc (suc n)))
      further-value seen history same out outs stop stops =
          let view = view-is program i.cells entries (snapshot_of machine) further-after.after seen in
          let items = same ∙ all in
          λ j. record (core_value i) { history = items j; stop = (stops ∙ ap stop_after further-state) j; view = (view ∙ ap (view_of program is_held) further-state) j; out = outs j }
