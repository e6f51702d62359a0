-- A core goes on: after each step that only moves a process its history is legal, and its lists are those of the definitions.
use Rattle.std.proofs.Common.{◌≡◌, ◌≢◌, ℕ, zero, suc, ◌+◌, ◌<◌, ◌≤◌, Bool, true, false, if◌then◌else◌, List, [], ◌∷◌, ◌++◌, length, length-append, Ok, inl, inr, Option, Some, None, is_some, refl, sym, ap, ◌∙◌, subst, arith, replicate, append_assoc}
use Rattle.std.proofs.lemmas.Bool.{cases_lt}
use Rattle.std.proofs.lemmas.List.{append-nil, replicate-append-replicate}
use Rattle.std.proofs.lemmas.Option.{none-some}
use Rattle.hep_source.proofs.Tests.{some-there, some-if_not}
use Rattle.hep_machine.specs.declared.event.Entry.{Entry}
use Rattle.hep_machine.specs.Words.{Units, IsLegal, Layout, is_held, last_process, layout_of, living, next_of_ready, progress_after, ready_in, run, schedule_of, State, state_after, state_made, step, step_result_of, view_of}
use Rattle.hep_cells.specs.declared.want.Want.{Want}
use Rattle.hep_blocked.specs.RosterUpdates.{AreListed}
use Rattle.hep_blocked.specs.Rosters.{want_of}
use Rattle.hep_blocked.proofs.Members.{ready-rise, rising-same}
use Rattle.hep_history.specs.Entries.{EntriesLeft}
use Rattle.hep_state.specs.declared.core_state.CoreState.{CoreState}
use Rattle.hep_state.specs.Words.{IsMachineAfter, snapshot_of}
use Rattle.hep_commit.specs.Going.{HasGone, IsPlainTurn, none, more}
use Rattle.hep_core.specs.SilentChoices.{AreChoices, AreMoves, AreRounds, CanMove, IsPlainChoice, again, begun, entries_along, goes_round, started}
use Rattle.hep_core.specs.Invariant.{AreFew, AreLiving, CoreInvariant, core_value}
use Rattle.hep_core.specs.Tickets.{is_out}
use Rattle.hep_core.specs.CoreValues.{CoreValue, HasNoStop, IsChoice, IsStop, free_of, next_ready_of, ready_of, stop_after}
use Rattle.hep_core.specs.declared.stop.ChoiceStop.TheVariants.{Halted}
use Rattle.hep_core.specs.declared.run_core.Core.TheInside.{Inside}
use Rattle.hep_commit.specs.TicketId.{TicketId}
use Rattle.hep_core.proofs.Histories.{legal-stepped, state-is}
use Rattle.hep_core.proofs.ProcessesOut.{all_free}
use Rattle.hep_core.proofs.GoodTickets.{AreSeen, halted-is, listed-next, living-next, next, few-next, schedule-next, state-next, steps-on, view-is}
use Rattle.hep_commit.proofs.Lists.{GoAlong, noted-same}

-- what makes a step isn't halted
goes : (program : Units) (p : ℕ) (s : State) → step program p s ≢ None → s.halted ≡ false
goes program p s made = by-halted s.halted (state_made (step_result_of program p s)) made where
  by-halted : (b : Bool) (o : Option State) → (if b then None else o) ≢ None → b ≡ false
  by-halted true o h = absurd (h refl)
  by-halted false o h = refl

-- ---- histories with an entry for each turn

pub entries-more : (h : List Entry) (p n : ℕ) → length (entries_along h p n) ≡ length h + n
entries-more h p zero = omega arith
entries-more h p (suc n) = omega (arith, length-append (entries_along h p n) (let e : Entry = record { process = p; steps = 1 } in e ∷ []), entries-more h p n)

pub entries-many : (h : List Entry) (p n : ℕ) → h ++ replicate n (record { process = p; steps = 1 }) ≡ entries_along h p n
entries-many h p zero = append-nil h
entries-many h p (suc n) =
    let e : Entry = record { process = p; steps = 1 } in
    let next : suc n ≡ n + 1 = omega arith in
    ap (λ k. h ++ replicate k e) next
    ∙ ap (λ es. h ++ es) (sym (replicate-append-replicate n 1 e))
    ∙ sym (append_assoc h (replicate n e) (e ∷ []))
    ∙ ap (λ es. es ++ e ∷ []) (entries-many h p n)

module _ (law : GoAlong) (program : Units) (cells limit p : ℕ) (waiting : ℕ → Option Want) (ready : List ℕ) (out : List TicketId) (home : is_out p out ≡ false) where
  abbrev one : Entry
  one = record { process = p; steps = 1 }

  -- what holds of a history, with the same lists of who waits, who is ready and who is out
  pub record Far (es : List Entry) : Type 0 where
    pub layout : Layout
    pub laid : layout_of program cells is_held (schedule_of es) ≡ Some layout
    pub listed : AreListed program cells (schedule_of es) (progress_after program es) waiting ready
    pub few : AreFew program es
    pub legal : length es ≤ limit → IsLegal program cells limit es
    pub living : AreLiving program es out

  further : (es : List Entry) → Far es → IsPlainTurn program cells (schedule_of es) p → Far (es ++ one ∷ [])
  further es far is =
      let es' = es ++ one ∷ [] in
      let made = is.stepped in
      let laid : layout_of program cells is_held (schedule_of es') ≡ Some is.layout = ap (layout_of program cells is_held) (schedule-next program cells es p es' refl made) ∙ is.laid in
      let lists = law program cells (schedule_of es) (progress_after program es) waiting waiting ready ready p None far.layout far.listed made far.laid (is.unchanged.told far.layout far.laid)
      (record {
        waits = λ q. refl;
        are_ready = λ q. noted-same p (length (run program (schedule_of es)).processes) (length (run program (schedule_of es ++ p ∷ [])).processes) q ready (is_some (living (run program (schedule_of es ++ p ∷ [])) p)) (some-if_not (living (run program (schedule_of es ++ p ∷ [])) p) is.lives) is.made;
      }) in
      record {
        layout = is.layout;
        laid = laid;
        listed = listed-next program cells es p es' refl made waiting ready far.listed.state lists;
        few = few-next program cells es p es' refl made far.few;
        legal = λ le. legal-stepped program cells limit es p (next program cells es p es' refl made) (far.legal (omega (arith, le, length-append es (one ∷ [])))) (omega (arith, le, length-append es (one ∷ [])))
            (some-there (layout_of program cells is_held (schedule_of es')) is.layout laid) (steps-on program cells es p es' refl made);
        living = living-next program cells es p es' refl made out home far.living;
      }

  module _ (h : List Entry) (start : Far h) where
    abbrev entries : ℕ → List Entry
    entries n = entries_along h p n

    -- so many turns later
    pub record HasCome (n : ℕ) (after : List ℕ) : Type 0 where
      pub turns : schedule_of (entries n) ≡ after
      pub far : Far (entries n)

    turn-so : (n : ℕ) (after : List ℕ) → HasCome n after → IsPlainTurn program cells after p → IsPlainTurn program cells (schedule_of (entries n)) p
    turn-so n after come is = subst (λ ps. IsPlainTurn program cells ps p) (sym come.turns) is

    pub come-so : (n : ℕ) (after : List ℕ) → HasGone program cells p (schedule_of h) n after → HasCome n after
    come-so _ _ (none _) = record { turns = refl; far = start }
    come-so _ _ (more _ n after gone is) =
        let come = come-so n after gone in
        let turn = turn-so n after come is in
        record {
          turns = schedule-next program cells (entries n) p (entries (suc n)) refl turn.stepped ∙ ap (λ ps. ps ++ p ∷ []) come.turns;
          far = further (entries n) come.far turn;
        }

-- ---- cores

-- a core at no stop with so many entries of p more
abbrev pub core_gone : CoreValue → ℕ → ℕ → CoreValue
core_gone old p n =
    record old {
      history = entries_along old.history p n;
      view = view_of old.program is_held (state_after old.program (entries_along old.history p n));
    }

-- its inside with these entries and this machine
abbrev pub core_along : Inside → EntriesLeft → CoreState → Inside
core_along i history machine = record i { history = history; machine = machine }

module _ (law : GoAlong) (i : Inside) (p : ℕ) (k : CoreInvariant i) (running : i.stop ≡ None) (home : is_out p i.out.items ≡ false) where
  abbrev h : List Entry
  h = i.history.items

  start : Far law i.image i.cells i.limit p (want_of i.roster.waiting) i.roster.ready i.out.items home h
  start = record { layout = k.after.after.layout; laid = k.after.after.laid; listed = k.listed; few = k.few; legal = λ within. k.legal; living = k.living }

  come : (n : ℕ) (after : List ℕ) → HasGone i.image i.cells p (schedule_of h) n after → HasCome law i.image i.cells i.limit p (want_of i.roster.waiting) i.roster.ready i.out.items home h start n after
  come n after gone = come-so law i.image i.cells i.limit p (want_of i.roster.waiting) i.roster.ready i.out.items home h start n after gone

  -- it keeps what a core keeps
  pub core-goes-on : (n : ℕ) (after : List ℕ) (machine : CoreState) (history : EntriesLeft) → HasGone i.image i.cells p (schedule_of h) n after → IsMachineAfter i.image i.cells after machine
      → machine.halted ≡ false → machine.made ≡ i.machine.made → length h + n ≤ i.limit → history.items ≡ entries_along h p n → CoreInvariant (core_along i history machine)
  core-goes-on n after machine history gone kept unhalted count room is =
      let c = come n after gone in
      let far = subst (Far law i.image i.cells i.limit p (want_of i.roster.waiting) i.roster.ready i.out.items home) (sym is) c.far in
      let there : IsMachineAfter i.image i.cells (schedule_of history.items) machine = subst (λ ps. IsMachineAfter i.image i.cells ps machine) (sym (ap schedule_of is ∙ c.turns)) kept in
      record {
        after = there;
        listed = far.listed;
        room = record { room = omega (arith, k.room.room, count); last = omega (arith, k.room.last, count) };
        legal = far.legal (omega (arith, room, ap length is, entries-more h p n));
        few = far.few;
        named = subst (λ stop. IsStop i.image i.cells i.limit history.items stop) (sym running) (sym (halted-is i.image i.cells history.items (snapshot_of machine) there.after) ∙ unhalted);
        living = far.living;
        tabled = k.tabled;
        owned = k.owned;
      }

  -- each of its entries is of a choice
  plain : (n : ℕ) (after : List ℕ) → HasGone i.image i.cells p (schedule_of h) n after → IsPlainTurn i.image i.cells after p → length h + suc n ≤ i.limit
      → IsPlainChoice (core_gone (core_value i) p n) p (core_gone (core_value i) p (suc n))
  plain n after gone is room =
      let program = i.image in
      let es = entries_along h p n in
      let es' = entries_along h p (suc n) in
      let c = come n after gone in
      let c' = come (suc n) (after ++ p ∷ []) (more (schedule_of h) n after gone is) in
      let turn = subst (λ ps. IsPlainTurn program i.cells ps p) (sym c.turns) is in
      let s = next program i.cells es p es' refl turn.stepped in
      let steps = steps-on program i.cells es p es' refl turn.stepped in
      let same : state_after program es' ≡ s = state-next program i.cells es p es' refl turn.stepped in
      let unhalted : s.halted ≡ false = ap (λ (t : State). t.halted) (sym same ∙ (state-is program es' ∙ ap (run program) c'.turns)) ∙ is.going in
      let going : (state_after program es).halted ≡ false = goes program p (state_after program es) (λ none. none-some s (sym none ∙ steps)) in
      let stop : i.stop ≡ stop_after s = running ∙ sym (ap (λ b. if b then Some Halted else None) unhalted) in
      record {
        chosen = (
          (running, going),
          home,
          omega (arith, room, entries-more h p n),
          (s, steps, λ j. record (core_gone (core_value i) p (suc n)) { stop = stop j; view = view_of program is_held (same j) }),
        );
        unchanged = turn.unchanged;
        going = running;
        ready = rising-same 1 (length (progress_after program es').state.processes) (length (progress_after program es).state.processes) (ready_in (progress_after program es')) (ready_in (progress_after program es))
            (ready-rise (progress_after program es')) (ready-rise (progress_after program es)) (λ q. sym (c'.far.listed.are_ready q) ∙ c.far.listed.are_ready q);
      }

  are-choices : (n : ℕ) (after : List ℕ) → HasGone i.image i.cells p (schedule_of h) n after → length h + n ≤ i.limit → AreChoices p (core_gone (core_value i) p 0) n (core_gone (core_value i) p n)
  are-choices _ _ (none _) room = begun (core_gone (core_value i) p 0)
  are-choices _ _ (more _ n after gone is) room =
      again (core_gone (core_value i) p 0) n (core_gone (core_value i) p n) (core_gone (core_value i) p (suc n)) (are-choices n after gone (omega (arith, room))) (plain n after gone is room)

  -- from the core that it was to the one with this inside
  pub chosen-so : AreSeen i.image i.cells → (n : ℕ) (after : List ℕ) (machine : CoreState) (history : EntriesLeft) → HasGone i.image i.cells p (schedule_of h) n after → CoreInvariant (core_along i history machine)
      → length h + n ≤ i.limit → history.items ≡ entries_along h p n → AreChoices p (core_value i) n (core_value (core_along i history machine))
  chosen-so seen n after machine history gone kept room is =
      let first = view-is i.image i.cells h (snapshot_of i.machine) k.after.after seen in
      let last = view-is i.image i.cells history.items (snapshot_of machine) kept.after.after seen ∙ ap (λ es. view_of i.image is_held (state_after i.image es)) is in
      let begins : core_gone (core_value i) p 0 ≡ core_value i = λ j. record (core_value i) { view = sym first j } in
      let ends : core_gone (core_value i) p n ≡ core_value (core_along i history machine) = λ j. record (core_value i) { history = sym is j; view = sym last j } in
      subst (λ v. AreChoices p v n (core_value (core_along i history machine))) begins (subst (AreChoices p (core_gone (core_value i) p 0) n) ends (are-choices n after gone room))

-- ---- what choices come to

-- none leave the core as it was
pub unmoved : (p : ℕ) (old : CoreValue) (n : ℕ) (new : CoreValue) → n ≡ 0 → AreChoices p old n new → old ≡ new
unmoved p _ _ _ z (begun core) = refl
unmoved p _ _ _ z (again old n core new before is) = absurd (omega (arith, z))

-- one is that choice
pub chosen-once : (p : ℕ) (old : CoreValue) (n : ℕ) (new : CoreValue) → n ≡ 1 → AreChoices p old n new → IsChoice old p (Ok (record { steps = 1; blocked = false })) new
chosen-once p _ _ _ z (begun core) = absurd (omega (arith, z))
chosen-once p _ _ _ z (again old n core new before is) =
    let first : n ≡ 0 = omega (arith, z) in
    subst (λ c. IsChoice c p (Ok (record { steps = 1; blocked = false })) new) (sym (unmoved p old n core first before)) is.chosen

-- where some were made the core was at no stop, and its history not full
pub choices-began : (p : ℕ) (old : CoreValue) (n : ℕ) (new : CoreValue) → 1 ≤ n → AreChoices p old n new → HasNoStop old × (length old.history < old.limit)
choices-began p _ _ _ some (begun core) = absurd (omega (arith, some))
choices-began p _ _ _ some (again old n core new before is) = elim (cases_lt 0 n) [
  | inl above ↦ choices-began p old n core above before
  | inr first ↦ subst (λ c. HasNoStop c × (length c.history < c.limit)) (sym (unmoved p old n core (omega (arith, first)) before)) (is.chosen.0, is.chosen.2)
]

-- ---- choices of one process, or in rounds

-- the one that is chosen next
abbrev pub IsNext : Bool → ℕ → ℕ → CoreValue → Type 0
IsNext true p q core = next_ready_of core ≡ Some q
IsNext false p q core = q ≡ p

pub moves-begun : (rounds : Bool) (p : ℕ) (core : CoreValue) → AreMoves rounds p core 0 core
moves-begun true p core = started core
moves-begun false p core = begun core

pub next-begun : (rounds : Bool) (p : ℕ) (core : CoreValue) → CanMove rounds p core → IsNext rounds p p core
next-begun true p core can = can.1
next-begun false p core can = refl

-- it isn't out
pub home-so : (rounds : Bool) (p q : ℕ) (old core : CoreValue) → CanMove rounds p old → IsNext rounds p q core → is_out q old.out ≡ false
home-so true p q old core can is = ap (is_out q) can.0
home-so false p q old core can is = ap (λ n. is_out n old.out) is ∙ can

pub next-alone : (rounds : Bool) (p q : ℕ) (core : CoreValue) → rounds ≡ false → IsNext rounds p q core → q ≡ p
next-alone true p q core e is = absurd cc
next-alone false p q core e is = is

pub nobody-out : (rounds : Bool) (p : ℕ) (core : CoreValue) → rounds ≡ true → CanMove rounds p core → core.out ≡ []
nobody-out true p core e can = can.0
nobody-out false p core e can = absurd cc

pub next-round : (rounds : Bool) (p q : ℕ) (core : CoreValue) → rounds ≡ true → next_ready_of core ≡ Some q → IsNext rounds p q core
next-round true p q core e is = is
next-round false p q core e is = absurd cc

choices-on : (p : ℕ) (old core new : CoreValue) (n m : ℕ) → AreChoices p old n core → AreChoices p core m new → AreChoices p old (n + m) new
choices-on p old core _ n _ before (begun _) = let e : n ≡ n + 0 = omega arith in subst (λ k. AreChoices p old k core) e before
choices-on p old core new n _ before (again _ m mid _ others is) =
    let e : suc (n + m) ≡ n + suc m = omega arith in
    subst (λ k. AreChoices p old k new) e (again old (n + m) mid new (choices-on p old core mid n m before others) is)

rounds-on : (p : ℕ) (old core new : CoreValue) (n m : ℕ) → AreRounds old n core → next_ready_of core ≡ Some p → m ≤ 1 → AreChoices p core m new → AreRounds old (n + m) new
rounds-on p old core _ n _ before is few (begun _) = let e : n ≡ n + 0 = omega arith in subst (λ k. AreRounds old k core) e before
rounds-on p old core new n _ before is few (again _ m mid _ others chosen) =
    let first : m ≡ 0 = omega (arith, few) in
    let e : suc n ≡ n + suc m = omega (arith, first) in
    let plain = subst (λ v. IsPlainChoice v p new) (sym (unmoved p core m mid first others)) chosen in
    subst (λ k. AreRounds old k new) e (goes_round old n core new p before is plain)

-- so many more of it, in rounds one
pub moves-on : (rounds : Bool) (p q : ℕ) (old core new : CoreValue) (n m : ℕ) → AreMoves rounds p old n core → IsNext rounds p q core → (rounds ≡ true → m ≤ 1) → AreChoices q core m new → AreMoves rounds p old (n + m) new
moves-on true p q old core new n m before is few others = rounds-on q old core new n m before is (few refl) others
moves-on false p q old core new n m before is few others = choices-on p old core new n m before (subst (λ k. AreChoices k core m new) is others)

-- the last process of a history is that of its last entry
pub last-more : (h : List Entry) (e : Entry) → last_process (h ++ e ∷ []) ≡ e.process
last-more [] e = refl
last-more (x ∷ []) e = refl
last-more (x ∷ y ∷ es) e = last-more (y ∷ es) e

pub last-along : (h : List Entry) (p n : ℕ) → 1 ≤ n → last_process (entries_along h p n) ≡ p
last-along h p zero some = absurd (omega (arith, some))
last-along h p (suc n) some = last-more (entries_along h p n) (record { process = p; steps = 1 })

-- in rounds the one that comes next after the last one
pub next-so : (i : Inside) (p q : ℕ) → i.out.items ≡ [] → last_process i.history.items ≡ p → i.roster.ready ≡ ready_of (core_value i) → next_of_ready p i.roster.ready ≡ Some q → next_ready_of (core_value i) ≡ Some q
next-so i p q nobody last same is =
    let core = core_value i in
    ap (λ n. next_of_ready n (free_of core)) last ∙ ap (next_of_ready p) (all_free (ready_of core) core.out nobody ∙ sym same) ∙ is

-- none in rounds leave the core as it was
pub rounds-none : (old : CoreValue) (n : ℕ) (new : CoreValue) → n ≡ 0 → AreRounds old n new → old ≡ new
rounds-none _ _ _ z (started core) = refl
rounds-none _ _ _ z (goes_round old n core new p before ready is) = absurd (omega (arith, z))

-- a core that is at no stop after them was at none before
pub rounds-going : (old : CoreValue) (n : ℕ) (new : CoreValue) → AreRounds old n new → new.stop ≡ None → old.stop ≡ None
rounds-going _ _ _ (started core) stops = stops
rounds-going _ _ _ (goes_round old n core new p before ready is) stops = rounds-going old n core before is.chosen.0.0
