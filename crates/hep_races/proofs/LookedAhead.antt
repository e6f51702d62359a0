-- What is observed of a step before it.
use Rattle.std.proofs.Common.{◌≡◌, ℕ, ◌<◌, Bool, true, false, List, [], ◌++◌, append-nil, length, map, Option, Some, None, IsSome, refl}
use Rattle.std.proofs.Common.{sym, ap, ◌∙◌, subst}
use Rattle.std.proofs.lemmas.Option.{same_Some}
use Rattle.std.specs.List.{flat_map}
use Rattle.std.specs.Option.{option_to_list}
use Rattle.hep_code.specs.declared.instruction.Operation.{Operation}
use Rattle.hep_code.specs.Words.{IsNext}
use Rattle.hep_core.proofs.GoodTickets.{as-many}
use Rattle.hep_accesses.specs.Accesses.{Access}
use Rattle.hep_accesses.specs.Exchanges.{next_on_top}
use Rattle.hep_races.specs.StepChanges.{accesses_of_fault, accesses_unless_fault, changes_on_top, units_of_target}
use Rattle.hep_event.specs.Sites.{LivesAfter}
use Rattle.hep_machine.specs.Words.{Level, Next, Process, Reference, Top, Units, does, line_at, purging, run, unit_of, unit_on_top}
use Rattle.hep_state.specs.declared.core_state.CoreState.{CoreState}
use Rattle.hep_step.specs.Simulation.{unit_addressed}
use Rattle.hep_trace.specs.References.{IsAhead, top_after}
use Rattle.hep_trace.specs.declared.reference.LiveProcess.{LiveProcess}
use Rattle.hep_views.proofs.WaitingPlaces.{living-top}
use Rattle.hep_views.specs.ListedProcesses.{place_of}
use Rattle.hep_views.specs.ProcessPositions.{whereabouts_at, whereabouts_by, whereabouts_with}
use Rattle.hep_views.specs.declared.whereabouts.Whereabouts.{Whereabouts}
use Rattle.hep_races.specs.StepEvents.{AreBoundsRead, AreThere, AreUnitsThere, IsLookedAt, IsNamedAhead, access_by, access_seen}
use Rattle.hep_races.specs.StepEvents.{fault_access, need_by}
use Rattle.hep_races.specs.declared.step_access.NamedUnit.{NamedUnit}
use Rattle.hep_races.specs.declared.step_access.SitedAccess.{SitedAccess}
use Rattle.hep_races.specs.declared.step_event.ObservedStep.{ObservedStep}
use Rattle.hep_races.proofs.NamedThere.{all-there, changes-there, need-there}
use Rattle.hep_races.proofs.BegunSteps.{access-begun, begins, begins-none, fault-begun, fault-same, reads-all, reads-none}
use Rattle.hep_races.proofs.SeenAhead.{accesses-seen, fault-seen, needs-seen}

-- the top activation of a process that lives is of a unit of the program
pub inside-top : {program : Units} {cells : ℕ} {choices : List ℕ} {m : CoreState} {p : ℕ} {top : Level × Process}
    → LivesAfter program cells choices m p top → unit_of (run program choices) top.0.activation < length program
inside-top {program} {cells} {choices} {m} {p} {top} lives =
    let it = living-top program cells choices m lives.after p (subst IsSome (sym lives.lives) refl) in
    subst (λ (z : Level × Process). unit_of (run program choices) z.0.activation < length program) (
    same_Some it.top top (sym it.lives ∙ lives.lives)) (subst (λ u. u < length program) (sym it.is_top.unit) it.is_top.inside)

module _ (cells : ℕ) (choices : List ℕ) (ahead : LiveProcess) (top : Level × Process) (h : IsAhead cells choices ahead top) where
  abbrev program : Units
  program = ahead.image.now

  abbrev t : Top
  t = top_after program choices ahead.process top

  abbrev o : Operation
  o = ahead.coming.now.operation

  abbrev next : Next
  next = next_on_top program t

  abbrev seen : Access → SitedAccess
  seen = access_seen program t.state

  -- an observation is by the operation that comes next, and by what that names
  pub record IsBy (n : Option NamedUnit) (w : Whereabouts) (b : ObservedStep) : Type 0 where
    pub process : b.process ≡ ahead.process
    pub made : b.made ≡ ahead.machine.now.made
    pub faults : b.faults ≡ length ahead.machine.now.faults.items
    pub needs : b.needs ≡ need_by o n
    pub changes : b.changes.items ≡ map (place_of program t.state) (changes_on_top program t)
    pub access : b.access ≡ access_by o n w.unit w.line
    pub fault : b.fault_access ≡ fault_access o b.access

  -- what is accessed, and what where the step is a fault, with what is read of bounds
  module _ (index : ℕ) (is : IsNext (unit_addressed program (unit_of t.state top.0.activation)) top.0.statement top.0.work
      ahead.coming.now.operands.items index next o ahead.coming.now.behind.now) (n : Option NamedUnit)
      (named : IsNamedAhead cells choices ahead t n) (w : Whereabouts) (from : w.unit ≡ unit_of t.state top.0.activation)
      (at_line : w.line ≡ line_at (unit_on_top program t) top.0.statement) (b : ObservedStep) (by : IsBy n w b)
      (read : AreBoundsRead program t b.bounds.items) where
    abbrev all : List Access
    all = accesses_unless_fault program t next

    plain-seen : begins next ≡ false → option_to_list b.access ≡ map seen all
    plain-seen e =
        ap option_to_list by.access
        ∙ accesses-seen cells choices ahead top ahead.coming.now.operands.items index o ahead.coming.now.behind.now n w.unit w.line from
        at_line
        next (begins-none next e) is named

    none-read : begins next ≡ false → b.bounds.items ≡ []
    none-read e = read.seen ∙ ap (map seen) (reads-none program t next e)

    begun-access : begins next ≡ true → access_by o n w.unit w.line ≡ None
    begun-access = access-begun (unit_addressed program (unit_of t.state top.0.activation)) top.0.statement top.0.work
        ahead.coming.now.operands.items index o ahead.coming.now.behind.now next is n w.unit w.line

    begun-fault : begins next ≡ true → fault_access o b.access ≡ b.access
    begun-fault = fault-begun (unit_addressed program (unit_of t.state top.0.activation)) top.0.statement top.0.work
        ahead.coming.now.operands.items index o ahead.coming.now.behind.now next is b.access

    pub all-seen : (c : Bool) → begins next ≡ c → option_to_list b.access ++ b.bounds.items ≡ map seen all
    all-seen false e = ap (λ rs. option_to_list b.access ++ rs) (none-read e) ∙ append-nil (option_to_list b.access) ∙ plain-seen e
    all-seen true e =
        ap (λ a. option_to_list a ++ b.bounds.items) (by.access ∙ begun-access e)
        ∙ read.seen ∙ ap (map seen) (sym (reads-all program t next e))

    pub fault-all-seen : (c : Bool) → begins next ≡ c
        → option_to_list b.fault_access ++ b.bounds.items ≡ map seen (accesses_of_fault next all)
    fault-all-seen false e =
        ap (λ rs. option_to_list b.fault_access ++ rs) (none-read e) ∙ append-nil (option_to_list b.fault_access)
        ∙ ap option_to_list by.fault
        ∙ sym (fault-seen cells choices ahead top ahead.coming.now.operands.items index o ahead.coming.now.behind.now n all b.access
        (sym (plain-seen e)) next is)
    fault-all-seen true e =
        ap (λ a. option_to_list a ++ b.bounds.items) (by.fault ∙ begun-fault e ∙ by.access ∙ begun-access e)
        ∙ read.seen ∙ ap (map seen) (sym (reads-all program t next e)) ∙ ap (map seen) (sym (fault-same next all e))

    pub all-there-seen : (c : Bool) → begins next ≡ c → AreThere program t.state all
    all-there-seen false e = all-there cells choices ahead top n (inside-top h.lives) next (begins-none next e) named
    all-there-seen true e = subst (AreThere program t.state) (sym (reads-all program t next e)) read.there

  pub looked : (index : ℕ) → IsNext (unit_addressed program (unit_of t.state top.0.activation)) top.0.statement top.0.work
      ahead.coming.now.operands.items index
      (next_on_top program t) o ahead.coming.now.behind.now
      → (n : Option NamedUnit) → IsNamedAhead cells choices ahead t n
      → (w : Whereabouts) → whereabouts_by program ahead.process t.state ≡ Some w → (b : ObservedStep) → IsBy n w b
      → AreBoundsRead program t b.bounds.items
      → ((targets : List Reference) → next ≡ does (purging targets)
      → AreUnitsThere program t.state (flat_map (units_of_target program t) targets))
      → IsLookedAt program t b
  looked index is n named w there b by read purged =
      let at : whereabouts_at program t.state ahead.process top.0 ≡ w =
      same_Some (whereabouts_at program t.state ahead.process top.0) w
      (sym (ap (whereabouts_with program t.state ahead.process) h.lives.lives) ∙ there) in
      let from = sym (ap (λ (v : Whereabouts). v.unit) at) in
      let at_line = sym (ap (λ (v : Whereabouts). v.line) at) in
      record {
        process = by.process;
        made = by.made ∙ as-many program cells choices ahead.machine.now h.lives.after.after;
        faults = by.faults ∙ ap length h.lives.after.after.shows.faults;
        needs =
            by.needs
            ∙ needs-seen cells choices ahead top ahead.coming.now.operands.items index o ahead.coming.now.behind.now n next is named;
        needs_there = λ at e. need-there cells choices ahead top n (inside-top h.lives) next named at e;
        changes = by.changes;
        changes_there = changes-there cells choices ahead top n (inside-top h.lives) next named purged;
        accesses = all-seen index is n named w from at_line b by read (begins next) refl;
        accesses_there = all-there-seen index is n named w from at_line b by read (begins next) refl;
        fault_accesses = fault-all-seen index is n named w from at_line b by read (begins next) refl;
      }
