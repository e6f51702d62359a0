-- What comes next of a process is left by the turns of others, and so each segment that is out stays good.
use Rattle.std.proofs.Common.{◌≡◌, ◌≢◌, ℕ, zero, suc, ◌+◌, Bool, true, false, true≢false, ◌||◌, ◌&&◌, nat_eq, OnOk, List, [], ◌∷◌, ◌++◌, length, Some, None, Result, Ok, Err, inl, inr, refl, sym, ap, ◌∙◌, subst, replicate, eq-eqb, ne_eqb}
use Rattle.std.specs.Result.{IsErr}
use Rattle.std.proofs.lemmas.Option.{none-some, same_Some}
use Rattle.hep_machine.specs.declared.event.Entry.{Entry}
use Rattle.hep_machine.specs.Words.{State, Units, is_number_among, living, numbered, run, schedule_of, state_after, unit_at}
use Rattle.hep_code.specs.Words.{left_to_do}
use Rattle.hep_image.specs.Private.{private_cells}
use Rattle.hep_private.specs.OwnState.{OwnState, Values, begun, values_at}
use Rattle.hep_private.specs.declared.record.Record.{Record}
use Rattle.hep_private.specs.FirstReads.{HaveRead}
use Rattle.hep_private.specs.StepRecords.{recorded}
use Rattle.hep_commit.specs.OtherTurns.{IsBeside, values_beside}
use Rattle.hep_commit.specs.PrivateTurns.{own_of}
use Rattle.hep_proc.specs.Stacks.{Stack, stack_with}
use Rattle.hep_proc.specs.declared.process.Local.{Local}
use Rattle.hep_commit.specs.TicketId.{TicketId}
use Rattle.hep_commit.specs.Segments.{IsComputed, IsKept, IsMadeFrom, IsMadeOf, SegmentValue, Start, TicketValue}
use Rattle.hep_commit.specs.SegmentStarts.{ticket_of}
use Rattle.hep_commit.specs.OwnCells.{own_cells_of}
use Rattle.hep_step.specs.Simulation.{unit_code}
use Rattle.hep_cells.specs.declared.want.Want.{Want}
use Rattle.hep_state.specs.declared.core_state.CoreState.{CoreState}
use Rattle.hep_state.specs.declared.turn.TurnOutcome.{TurnOutcome}
use Rattle.hep_state.specs.declared.turn.TurnOutcome.TheVariants.{Stepped, Purged, Waits}
use Rattle.hep_state.specs.Words.{HasLevels, IsAfter, IsMachineAfter, IsTurning, LeavesOthers, LeavesRest, Snapshot, TurnOf, frame_under, snapshot_of, turn_settled, turn_with}
use Rattle.hep_state.proofs.ProcessNumbers.{numbered-mapped}
use Rattle.hep_state.proofs.TopActivations.{settled, turning}
use Rattle.hep_state.proofs.UnchangedStates.{carry}
use Rattle.hep_core.specs.Commits.{AreGoodStill, ComesNext, IsCommitted, IsFresh, IsGivenTo, IsGood, IsTakenBy, LeavesNext, core_after_return, core_after_ticket, next_id}
use Rattle.hep_core.specs.ProcessPlaces.{IsHere, IsWhere, PlacedCore, ProcessPlace, place_on, places_of, with_core}
use Rattle.hep_core.specs.Tickets.{has_ticket, is_out, without_process}
use Rattle.hep_core.specs.CoreValues.{CoreValue, HasNoStop, IsTurn, state_of}
use Rattle.hep_core.specs.declared.core_fault.CommitFault.{CommitFault}
use Rattle.hep_core.specs.declared.core_fault.CommitFault.TheVariants as committing
use Rattle.hep_core.specs.declared.stop.ChoiceStop.TheVariants.{ArenaFull, StepLimit}
use Rattle.hep_core.specs.declared.stop.Turn.{Turn}
use Rattle.hep_core.specs.Invariant.{CoreInvariant, core_value, placed_value}
use Rattle.hep_core.specs.declared.run_core.Core.TheInside.{Inside}
use Rattle.hep_core.proofs.Committing.{DependOnReads}
use Rattle.hep_core.proofs.Histories.{state-is}
use Rattle.hep_core.proofs.GoodTickets.{halted-is}
use Rattle.hep_core.proofs.ProcessesOut.{out-by, out-still}
use Rattle.hep_core.proofs.SettledMachines.{place-at, place_in}

-- ---- which stack is at a place

-- the process has levels, and it is theirs
record IsPlacedAt (program : Units) (m : Snapshot) (q : ℕ) (place : ProcessPlace) : Type 0 where
  levels : HasLevels m q
  is : place_in program levels ≡ place

placed-at : (program : Units) (m : Snapshot) (q : ℕ) (place : ProcessPlace) → numbered (places_of program m) q ≡ Some (Some place) → IsPlacedAt program m q place
placed-at program m q place e = by_stack found.0 found.1 found.2 where
  found : (k : Stack) × (numbered m.processes q ≡ Some k) × (place_on program m.arena.contents m.nodes k.operands k.levels ≡ Some place)
  found = numbered-mapped (λ (k : Stack). place_on program m.arena.contents m.nodes k.operands k.levels) m.processes q (Some place) e

  by_levels : (ls : List Local) (k : Stack) → k.levels ≡ ls → numbered m.processes q ≡ Some k → place_on program m.arena.contents m.nodes k.operands ls ≡ Some place → IsPlacedAt program m q place
  by_levels [] k are kept f = absurd (none-some place f)
  by_levels (l ∷ ls) k are kept f =
      record {
        levels = record { level = l; below = ls; operands = k.operands; pending = k.pending; kept = kept ∙ (λ i. Some (record { levels = are i; operands = k.operands; pending = k.pending })) };
        is = same_Some _ place f;
      }

  by_stack : (k : Stack) → numbered m.processes q ≡ Some k → place_on program m.arena.contents m.nodes k.operands k.levels ≡ Some place → IsPlacedAt program m q place
  by_stack k kept f = by_levels k.levels k refl kept f

-- ---- after turns of others

-- what the law of others says
abbrev pub AreReadStill : Type 0
AreReadStill =
    (t : TurnOf) (others : List ℕ) (m : Snapshot) (n : ℕ) (records : List Record) (end : OwnState) → IsTurning t → IsBeside t others m
    → recorded (private_cells (unit_at t.program t.level.unit)) (unit_code t.program t.level.unit) n (own_of t) ≡ Some (records, end) → HaveRead (values_beside t m) records

-- these are no turns of another process than p
abbrev pub AreTurnsBy : ℕ → List ℕ → Type 0
AreTurnsBy p ps = (q : ℕ) → q ≢ p → is_number_among q ps ≡ false

pub several-turns : (p n : ℕ) → AreTurnsBy p (replicate n p)
several-turns p zero q other = refl
several-turns p (suc n) q other = ap (λ b. b || is_number_among q (replicate n p)) (ne_eqb q p other) ∙ several-turns p n q other

module _ (law : AreReadStill) (depend : DependOnReads) (program : Units) (cells : ℕ) (choices turns : List ℕ) (old new : Snapshot) (before : IsAfter program cells choices old) (after : IsAfter program cells (choices ++ turns) new) (going : old.halted ≡ false)
    (p : ℕ) (by : AreTurnsBy p turns) (stay : LeavesOthers p old new) where
  module _ (later : new.halted ≡ false) (s : SegmentValue) (other : s.id.process ≢ p) (place : ProcessPlace) (at : numbered (places_of program old) s.id.process ≡ Some (Some place)) (start : Start) (here : IsHere program place start) (kept : IsKept start s)
      (values : Values) (made : IsMadeOf program values s) where
    abbrev q : ℕ
    q = s.id.process

    there : IsPlacedAt program old q place
    there = placed-at program old q place at

    abbrev levels : HasLevels old q
    levels = there.levels

    -- in the machine that is there then
    abbrev levels-then : HasLevels new q
    levels-then =
        record {
          level = levels.level;
          below = levels.below;
          operands = levels.operands;
          pending = levels.pending;
          kept = stay q (stack_with levels.level levels.below levels.operands levels.pending) other levels.kept;
        }

    abbrev start-then : Start
    start-then = record start { values = values_at new.arena.contents (frame_under new.nodes levels.level.key).first }

    unit-there : levels.level.unit ≡ start.unit
    unit-there = ap (λ (x : ProcessPlace). x.unit) there.is ∙ sym here.unit

    left-here : left_to_do start.operands start.index (unit_code program levels.level.unit) ≡ left_to_do levels.operands levels.level.index (unit_code program levels.level.unit)
    left-here = ap (λ u. left_to_do start.operands start.index (unit_code program u)) unit-there ∙ (here.left ∙ ap (λ (x : ProcessPlace). x.left) (sym there.is))

    -- at a turn of it, before and then, once constants that stand ahead are operands
    abbrev first : TurnOf
    first = turn_settled (turn_with program cells choices levels (turning q before levels going).0) start.operands start.index

    turning-first : IsTurning first
    turning-first = settled (turning q before levels going).1 start.operands start.index (λ k work stands. record { fits = stands.fits; rest = stands.rest; same = stands.same ∙ sym left-here })

    abbrev second : TurnOf
    second = turn_settled (turn_with program cells (choices ++ turns) levels-then (turning q after levels-then later).0) start.operands start.index

    turning-second : IsTurning second
    turning-second = settled (turning q after levels-then later).1 start.operands start.index (λ k work stands. record { fits = stands.fits; rest = stands.rest; same = stands.same ∙ sym left-here })

    beside : IsBeside first turns second.machine
    beside = record { other = by q other; after = turning-second.after; going = later; kept = turning-second.kept }

    values-there : start.values ≡ values_at old.arena.contents (frame_under old.nodes levels.level.key).first
    values-there = here.values ∙ ap (λ (x : ProcessPlace). values_at x.contents x.first) (sym there.is)

    read : HaveRead start-then.values s.records
    read =
        let from = (depend.made program values start s made kept).1 in
        let unit : s.unit ≡ levels.level.unit = kept.0.unit ∙ sym unit-there in
        let is =
        carry (λ i. recorded (private_cells (unit_at program (unit i))) (unit_code program (unit i)) (length s.records) (begun (kept.0.index i) (kept.0.operands i) (values-there i)) ≡ Some (s.records, from.end)) from.made in
        law first turns second.machine (length s.records) s.records from.end turning-first beside is

    pub comes-still : (living (run program (choices ++ turns)) q ≢ None)
        × ((start : Start) × ((place : ProcessPlace) × (numbered (places_of program new) q ≡ Some (Some place)) × IsHere program place start) × (IsKept start s × ((values : Values) × IsMadeOf program values s)))
    comes-still = (
      (λ none. none-some second.top (sym none ∙ turning-second.lives)),
      (
        start-then,
        (
          place_in program levels-then,
          place-at program levels-then,
          record { unit = sym unit-there; left = here.left ∙ ap (λ (x : ProcessPlace). x.left) (sym there.is); values = refl; past = here.past; inside = here.inside },
        ),
        ((record { unit = kept.0.unit; index = kept.0.index; operands = kept.0.operands }, read), (values, made)),
      ),
    )

  -- so the core leaves what comes next
  pub leaves-next : (was is : CoreValue) → state_after program is.history ≡ run program (choices ++ turns)
      → LeavesNext p (record { core = record was { program = program }; places = places_of program old }) (record { core = record is { program = program }; places = places_of program new })
  leaves-next was is state s other still (lives, (start, at, (kept, (values, made)))) =
      let halted = after.shows.halted ∙ (ap (λ (t : State). t.halted) (sym state) ∙ still.1) in
      let next = comes-still halted s other at.0 at.1 start at.2 kept values made in
      (subst (λ (t : State). living t s.id.process ≢ None) (sym state) next.0, next.1)

-- after so many turns of p, where a core has its entries of them
pub entry-next : AreReadStill → DependOnReads → (i : Inside) → CoreInvariant i → HasNoStop (core_value i) → (p n : ℕ) (es : List Entry) → schedule_of es ≡ schedule_of i.history.items ++ replicate n p → (m : CoreState) → IsMachineAfter i.image i.cells (schedule_of es) m
    → LeavesOthers p (snapshot_of i.machine) (snapshot_of m) → (core : CoreValue) → state_after i.image core.history ≡ state_after i.image es
    → LeavesNext p (placed_value i) (record { core = record core { program = i.image }; places = places_of i.image (snapshot_of m) })
entry-next law depend i k going p n es turns m after stay core same =
    let h = schedule_of i.history.items in
    leaves-next law depend i.image i.cells h (replicate n p) (snapshot_of i.machine) (snapshot_of m) k.after.after (subst (λ ps. IsAfter i.image i.cells ps (snapshot_of m)) turns after.after)
    (halted-is i.image i.cells i.history.items (snapshot_of i.machine) k.after.after ∙ going.1) p (several-turns p n) stay (core_value i) core (same ∙ (state-is i.image es ∙ ap (run i.image) turns))

-- a turn that made a step leaves where the others stand
pub rest-others : (program : Units) (p : ℕ) (turned : TurnOutcome) (old new : Snapshot) → ((want : Want) → turned ≡ Waits want → ⊥) → LeavesRest turned program p old new → LeavesOthers p old new
rest-others program p (Stepped changed) old new other h = h
rest-others program p Purged old new other h = h
rest-others program p (Waits want) old new other h = absurd (other want refl)

-- ---- where nothing but the stop and who is out has changed

comes-same : (old new : PlacedCore) (s : SegmentValue) → new.places ≡ old.places → new.core.program ≡ old.core.program → state_of new.core ≡ state_of old.core → ComesNext old s → ComesNext new s
comes-same old new s places program state (lives, (start, at, (kept, (values, made)))) = (
  subst (λ (t : State). living t s.id.process ≢ None) (sym state) lives,
  (
    start,
    (at.0, ap (λ ps. numbered ps s.id.process) places ∙ at.1, subst (λ us. IsHere us at.0 start) (sym program) at.2),
    (kept, (values, subst (λ us. IsMadeOf us values s) (sym program) made)),
  ),
)

pub next-same : (p : ℕ) (old new : PlacedCore) → new.places ≡ old.places → new.core.program ≡ old.core.program → state_of new.core ≡ state_of old.core → LeavesNext p old new
next-same p old new places program state s other still comes = comes-same old new s places program state comes

pub next-itself : (p : ℕ) (old new : PlacedCore) → new ≡ old → LeavesNext p old new
next-itself p old new same = next-same p old new (ap (λ (v : PlacedCore). v.places) same) (ap (λ (v : PlacedCore). v.core.program) same) (ap (λ (v : PlacedCore). state_of v.core) same)

-- with another core at its beginning and at its end
pub next-between : (p : ℕ) (old mid later new : PlacedCore) → mid.places ≡ old.places → mid.core.program ≡ old.core.program → state_of mid.core ≡ state_of old.core → LeavesNext p mid later
    → new.places ≡ later.places → new.core.program ≡ later.core.program → state_of new.core ≡ state_of later.core → new.core.stop ≡ later.core.stop → LeavesNext p old new
next-between p old mid later new places program state leaves places_then program_then state_then stop s other still comes =
    let going : HasNoStop later.core = (sym stop ∙ still.0, ap (λ (t : State). t.halted) (sym state_then) ∙ still.1) in
    comes-same later new s places_then program_then state_then (leaves s other going (comes-same old mid s places program state comes))

-- ---- segments that are good

pub good-comes : (old : PlacedCore) (s : SegmentValue) → IsGood old s → ComesNext old s
good-comes old s (start, (out, at, next)) = (out.1, (start, at, next))

pub good-of : (new : PlacedCore) (s : SegmentValue) → HasNoStop new.core → has_ticket s.id new.core.out ≡ true → ComesNext new s → IsGood new s
good-of new s going out (lives, (start, at, next)) = (start, ((going, lives, out), at, next))

pub still-good : (p : ℕ) (old new : PlacedCore) → LeavesNext p old new → ((s : SegmentValue) → has_ticket s.id new.core.out ≡ true → IsGood old s → s.id.process ≢ p) → AreGoodStill old new
still-good p old new leaves other s going out good = good-of new s going out (leaves s (other s out good) going (good-comes old s good))

-- one that is out is another than one that isn't
pub another : (p : ℕ) (old : PlacedCore) (s : SegmentValue) → is_out p old.core.out ≡ false → IsGood old s → s.id.process ≢ p
another p old s home good same = true≢false (sym (out-by s.id old.core.out good.1.0.2) ∙ (ap (λ n. is_out n old.core.out) same ∙ home))

pub good-itself : (old new : PlacedCore) → new ≡ old → AreGoodStill old new
good-itself old new same s going out good = subst (λ (v : PlacedCore). IsGood v s) (sym same) good

-- where there is a stop
pub stopped-good : (old new : PlacedCore) → new.core.stop ≢ None → AreGoodStill old new
stopped-good old new stop s going out good = absurd (stop going.0)

-- where nobody is out
pub nobody-good : (old new : PlacedCore) → old.core.out ≡ [] → AreGoodStill old new
nobody-good old new none s going out good = absurd (true≢false (sym good.1.0.2 ∙ ap (has_ticket s.id) none))

-- a choice of one that isn't out
pub chosen-good : (p : ℕ) (old new : PlacedCore) → is_out p old.core.out ≡ false → LeavesNext p old new → AreGoodStill old new
chosen-good p old new home leaves = still-good p old new leaves (λ s out good. another p old s home good)

-- where it was first found that it can't be moved at once
pub chosen-through : (p : ℕ) (old mid new : PlacedCore) → is_out p old.core.out ≡ false → mid.core ≡ old.core → LeavesNext p old mid → LeavesNext p mid new → AreGoodStill old new
chosen-through p old mid new home same first rest s going out good =
    let other = another p old s home good in
    good-of new s going out (rest s other going (first s other (subst HasNoStop (sym same) good.1.0.0) (good-comes old s good)))

-- ---- commits

-- a refusal is no answer
pub ok-not : {A E : Type 0} (P : Type 0) (r : Result A E) → IsErr r → OnOk r P
ok-not P (Err e) h = tt
ok-not P (Ok x) h = absurd cc

-- the others that are out were out, and are others
pub ticket-still : (p : ℕ) (id : TicketId) (out : List TicketId) → has_ticket id (without_process p out) ≡ true → id.process ≢ p
ticket-still p id out is same = (out-still p id.process out (out-by id (without_process p out) is)).1 (sym same)

taken-out : (rs : List Record) (old : CoreValue) (start : Start) (s : SegmentValue) (turn : Turn) (new : CoreValue) → IsTakenBy rs old start s turn new → new.out ≡ old.out
taken-out [] old start s turn new is = turn-out old s.id.process turn.steps turn.blocked new is.3 where
  turn-out : (old : CoreValue) (p n : ℕ) (blocked : Bool) (new : CoreValue) → IsTurn old p n blocked new → new.out ≡ old.out
  turn-out old p (suc zero) false new (s, made, is) = ap (λ (c : CoreValue). c.out) is
  turn-out old p zero true new (waits, is) = ap (λ (c : CoreValue). c.out) is
  turn-out old p zero false new turn = absurd turn
  turn-out old p (suc zero) true new turn = absurd turn
  turn-out old p (suc (suc n)) blocked new turn = absurd turn
taken-out (r ∷ rs) old start s turn new (room, free, inl behind) = ap (λ (c : CoreValue). c.out) behind.2.1
taken-out (r ∷ rs) old start s turn new (room, free, inr left) = ap (λ (c : CoreValue). c.out) left.1.1

-- where a turn was made what comes next of others does so still, and each refusal leaves it
pub committed-good : (old : PlacedCore) (s : SegmentValue) (r : Result Turn CommitFault) (new : PlacedCore) → IsCommitted old s r new → OnOk r (LeavesNext s.id.process old new) → AreGoodStill old new
committed-good old s (Ok turn) new (start, good, taken) leaves =
    let out = taken-out s.records (core_after_return old.core s.id.process) start s turn new.core taken in
    still-good s.id.process old new leaves (λ z there was. ticket-still s.id.process z.id old.core.out (ap (has_ticket z.id) (sym out) ∙ there))
committed-good old s (Err (committing.Stopped stop)) new (inl before) leaves = good-itself old new before.1
committed-good old s (Err (committing.Stopped stop)) new (inr (inl full)) leaves = stopped-good old new (λ none. none-some StepLimit (sym none ∙ ap (λ (v : PlacedCore). v.core.stop) full.3))
committed-good old s (Err (committing.Stopped stop)) new (inr (inr gap)) leaves = stopped-good old new (λ none. none-some ArenaFull (sym none ∙ ap (λ (v : PlacedCore). v.core.stop) gap.5))
committed-good old s (Err committing.Stale) new refused leaves = good-itself old new refused.2
committed-good old s (Err committing.NoMemory) new refused leaves = good-itself old new refused.3

-- ---- check-outs

pub last-ticket : (id : TicketId) (out : List TicketId) → has_ticket id (out ++ id ∷ []) ≡ true
last-ticket id [] = ap (λ b. b || false) (ap (λ b. b && nat_eq id.number id.number) (eq-eqb id.process id.process refl) ∙ eq-eqb id.number id.number refl)
last-ticket id (t ∷ ts) = ap (λ b. (nat_eq t.process id.process && nat_eq t.number id.number) || b) (last-ticket id ts) ∙ or-true (nat_eq t.process id.process && nat_eq t.number id.number) where
  or-true : (b : Bool) → (b || true) ≡ true
  or-true true = refl
  or-true false = refl

-- what the law of tickets says
abbrev pub HaveWhatIsRead : Type 0
HaveWhatIsRead = (program : Units) (start : Start) (id : TicketId) (s : SegmentValue) → IsComputed program (ticket_of id start (own_cells_of program start.unit)) s → IsMadeFrom program start s

-- what is computed of a ticket that was given is good
pub given-fresh : HaveWhatIsRead → DependOnReads → (old : PlacedCore) (p : ℕ) (ticket : TicketValue) (new : PlacedCore) → HasNoStop old.core → living (state_of old.core) p ≢ None → IsGivenTo old p ticket new → IsFresh ticket new
given-fresh law depend old p ticket new going lives (start, at, is, same) s computed =
    let id = next_id old.core p in
    let here = subst (λ (v : PlacedCore). IsComputed v.core.program ticket s) same computed in
    let of = subst (λ t. IsComputed old.core.program t s) is here in
    let made = law old.core.program start id s of in
    let own : s.id ≡ id = of.id in
    subst (λ (v : PlacedCore). IsGood v s) (sym same) (
      start,
      (
        (
          going,
          subst (λ (n : TicketId). living (state_of old.core) n.process ≢ None) (sym own) lives,
          subst (λ (n : TicketId). has_ticket n (old.core.out ++ id ∷ []) ≡ true) (sym own) (last-ticket id old.core.out),
        ),
        subst (λ (n : TicketId). IsWhere (with_core old (core_after_ticket old.core p)) n.process start) (sym own) at,
        (depend.kept old.core.program start s made, (start.values, made.1)),
      ),
    )
