use Rattle.std.proofs.Common.{◌≡◌, ◌≢◌, ℕ, true, false, List, [], ◌∷◌, None, length, refl, sym, ap, ◌∙◌, subst, true≢false, rules, arith, ◌==◌, not}
use Rattle.std.proofs.lemmas.Bool.{and_parts}
use Rattle.std.proofs.lemmas.Bool.Decides.{nat_tests}
use Rattle.hep_machine.specs.Words.{Units, is_number_among, schedule_of, state_after, Progress, living_from, progress_after, ready_in, State}
use Rattle.hep_machine.specs.declared.event.Entry.{Entry}
use Rattle.hep_blocked.specs.RosterUpdates.{AreListed}
use Rattle.hep_blocked.specs.Rosters.{want_of}
use Rattle.hep_blocked.proofs.Members.{among-living, among-ready, none-among}
use Rattle.hep_core.specs.CoreValues.{verdict_by}
use Rattle.hep_core.specs.declared.stop.Verdict.TheVariants.{Done, Running, Waiting}
use Rattle.hep_core.proofs.Histories.{state-is}
use Rattle.hep_core.proofs.run_core.Core.verdict.Goals as goal
use Rattle.hep_machine.proofs.Held.{among-head}

-- ---- lists that have a member and those that have none

no-members : (ns : List ℕ) → ((length ns == 0) ≡ true) → ns ≡ []
no-members [] e = refl
no-members (n ∷ ns) e = absurd (grind (arith, nat_tests, e))

some-member : (ns : List ℕ) → ((length ns == 0) ≡ false) → (q : ℕ) × (is_number_among q ns ≡ true)
some-member [] e = absurd cc
some-member (n ∷ ns) e = (n, among-head n ns)

not-empty : (ns : List ℕ) (q : ℕ) → is_number_among q ns ≡ true → ns ≢ []
not-empty ns q e is = true≢false (sym e ∙ ap (is_number_among q) is)

-- ---- verdicts

running : (alive ready : List ℕ) → alive ≢ [] → ready ≢ [] → Running ≡ verdict_by None alive ready
running [] ready some more = absurd (some refl)
running (p ∷ ps) [] some more = absurd (more refl)
running (p ∷ ps) (q ∷ qs) some more = refl

waiting-still : (alive ready : List ℕ) → alive ≢ [] → ready ≡ [] → Waiting ≡ verdict_by None alive ready
waiting-still [] ready some none = absurd (some refl)
waiting-still (p ∷ ps) [] some none = refl
waiting-still (p ∷ ps) (q ∷ qs) some none = absurd cc

module _ (program : Units) (cells : ℕ) (history : List Entry) (waits : _) (ready : List ℕ) (listed : AreListed program cells (schedule_of history) (progress_after program history) waits ready) where
  abbrev x : Progress
  x = progress_after program history

  -- the state is that after the history
  lived : living_from 1 x.state.processes ≡ living_from 1 (state_after program history).processes
  lived = ap (λ (s : State). living_from 1 s.processes) (listed.state ∙ sym (state-is program history))

  none-ready : ready ≡ [] → ready_in x ≡ []
  none-ready e = none-among (ready_in x) (λ q. sym (listed.are_ready q) ∙ ap (is_number_among q) e)

  pub runs-on : (length ready == 0) ≡ false → Running ≡ verdict_by None (living_from 1 (state_after program history).processes) (ready_in x)
  runs-on e =
      let some = some-member ready e in
      let among : is_number_among some.0 (ready_in x) ≡ true = sym (listed.are_ready some.0) ∙ some.1 in
      let lives = (and_parts (not (is_number_among some.0 x.listed)) _ (sym (among-ready x some.0) ∙ among)).1 in
      let there : is_number_among some.0 (living_from 1 x.state.processes) ≡ true = among-living x.state some.0 ∙ lives in
      running (living_from 1 (state_after program history).processes) (ready_in x) (subst (λ ns. ns ≢ []) lived (not-empty (living_from 1 x.state.processes) some.0 there)) (not-empty (ready_in x) some.0 among)

  pub is-done : ready ≡ [] → living_from 1 x.state.processes ≡ [] → Done ≡ verdict_by None (living_from 1 (state_after program history).processes) (ready_in x)
  is-done e none = ap (λ ns. verdict_by None ns (ready_in x)) (sym none ∙ lived)

  pub is-waiting : ready ≡ [] → living_from 1 x.state.processes ≢ [] → Waiting ≡ verdict_by None (living_from 1 (state_after program history).processes) (ready_in x)
  is-waiting e some = waiting-still (living_from 1 (state_after program history).processes) (ready_in x) (subst (λ ns. ns ≢ []) lived some) (none-ready e)

pub returns-in-None : goal.returns-in-None
returns-in-None c =
    let i = c.self.inside in
    let none : i.stop ≡ None = search rules in
    rw (← c.self.view_is) (runs-on i.image i.cells i.history.items (want_of i.roster.waiting) i.roster.ready c.self.invariant.listed (sym c.if-not-none_ready.ensures) ∙ ap (λ stop. verdict_by stop (living_from 1 (state_after i.image i.history.items).processes) (ready_in (progress_after i.image i.history.items))) (sym none))

pub returns-in-None-2 : goal.returns-in-None-2
returns-in-None-2 c =
    let i = c.self.inside in
    let none : i.stop ≡ None = search rules in
    let empty : i.roster.ready ≡ [] = no-members i.roster.ready (sym c.if-not-none_ready.ensures) in
    let k = c.self.invariant.listed in
    let ended = c.lists_are_those_of_definitions.ensures.done i.image i.cells (schedule_of i.history.items) (progress_after i.image i.history.items) (want_of i.roster.waiting) i.roster.ready k (none-ready i.image i.cells i.history.items (want_of i.roster.waiting) i.roster.ready k empty) (λ q. c.if-none_waits.ensures.nobody refl q) in
    rw (← c.self.view_is) (is-done i.image i.cells i.history.items (want_of i.roster.waiting) i.roster.ready k empty ended ∙ ap (λ stop. verdict_by stop (living_from 1 (state_after i.image i.history.items).processes) (ready_in (progress_after i.image i.history.items))) (sym none))

pub returns-in-None-3 : goal.returns-in-None-3
returns-in-None-3 c =
    let i = c.self.inside in
    let none : i.stop ≡ None = search rules in
    let empty : i.roster.ready ≡ [] = no-members i.roster.ready (sym c.if-not-none_ready.ensures) in
    let k = c.self.invariant.listed in
    let some = c.if-none_waits.ensures.somebody refl in
    let lives = c.lists_are_those_of_definitions.ensures.waiting i.image i.cells some.0 (schedule_of i.history.items) (progress_after i.image i.history.items) (want_of i.roster.waiting) i.roster.ready k some.1 in
    rw (← c.self.view_is) (is-waiting i.image i.cells i.history.items (want_of i.roster.waiting) i.roster.ready k empty lives ∙ ap (λ stop. verdict_by stop (living_from 1 (state_after i.image i.history.items).processes) (ready_in (progress_after i.image i.history.items))) (sym none))
