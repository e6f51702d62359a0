-- A commit of a segment on its way: from the core as it was to the machine in which constants ahead are operands, and nothing else has changed.
use Rattle.std.proofs.Common.{◌≡◌, ◌≢◌, ◌<◌, ◌≤◌, ℕ, Bool, true, length, Result, Err, Option, None, Global, refl, sym, ap, ◌∙◌, subst}
use Rattle.std.specs.declared.vec.Vec.{Vec}
use Rattle.std.specs.Result.{IsErrAnd}
use Rattle.std.proofs.lemmas.Result.{err_from_is_err_and}
use Rattle.hep_machine.specs.Words.{Units, living, schedule_of}
use Rattle.hep_code.specs.Words.{deepest}
use Rattle.hep_history.specs.Entries.{EntriesLeft}
use Rattle.hep_commit.specs.TicketId.{TicketId}
use Rattle.hep_commit.specs.Segments.{IsMadeFrom, SegmentValue}
use Rattle.hep_step.specs.Simulation.{unit_code}
use Rattle.hep_state.specs.declared.core_state.CoreState.{CoreState}
use Rattle.hep_state.specs.Words.{HasLevels, HasSettledTop, IsItsTurn, IsMachineAfter, KeepsState, snapshot_of}
use Rattle.hep_commit.specs.SegmentStarts.{start_in}
use Rattle.hep_commit.specs.OwnCells.{AreOwnCells, own_cells_of}
use Rattle.hep_commit.specs.declared.own_cells.OwnCellTable.{OwnCellTable}
use Rattle.hep_commit.specs.UndoLogs.{UndoLogValue, saved_of}
use Rattle.hep_commit.specs.Offers.{IsKnownOffer, offered}
use Rattle.hep_commit.specs.declared.offer.Offer.{Offer}
use Rattle.hep_commit.specs.Application.{CanRestore, IsMadeIn, IsSavedOf}
use Rattle.hep_commit.proofs.StandingProcesses.{its-levels}
use Rattle.hep_views.specs.MachineViews.{machine_view}
use Rattle.hep_core.specs.Commits.{IsCommitted, IsOutBy}
use Rattle.hep_core.specs.Invariant.{AreLiving, CoreInvariant, core_value, placed_value}
use Rattle.hep_core.specs.ProcessPlaces.{PlacedCore, places_of, with_core}
use Rattle.hep_core.specs.CoreValues.{HasNoStop, state_of}
use Rattle.hep_core.specs.declared.core_fault.CommitFault.{CommitFault}
use Rattle.hep_core.specs.declared.core_fault.CommitFault.TheVariants as committing
use Rattle.hep_core.specs.declared.run_core.Core.TheInside.{Inside}
use Rattle.hep_core.specs.declared.stop.ChoiceStop.{ChoiceStop}
use Rattle.hep_core.specs.declared.stop.Turn.{Turn}
use Rattle.hep_core.proofs.AfterPrivate.{left-value}
use Rattle.hep_core.proofs.Committing.{DependOnReads, IsSettledIn, levels-of, made-in, settled-in, turn-of}
use Rattle.hep_core.proofs.GoodTickets.{AreSeen}
use Rattle.hep_state.proofs.ReturnTurns.{IsRunningAlways}

-- ---- by the core as its callers see it

module _ (i : Inside) (k : CoreInvariant i) (old : PlacedCore) (view : placed_value i ≡ old) (going : HasNoStop old.core) where
  pub going-in : HasNoStop (core_value i)
  going-in = subst (λ (v : PlacedCore). HasNoStop v.core) (sym view) going

  module _ (q : ℕ) (lives : living (state_of old.core) q ≢ None) where
    pub levels-in : HasLevels (snapshot_of i.machine) q
    levels-in = levels-of i.image i.cells i.history.items i.machine q k.after (subst (λ (v : PlacedCore). living (state_of v.core) q ≢ None) (sym view) lives)

    -- by another name of the process
    pub turn-in : (p : ℕ) → p ≡ q → IsItsTurn i.image p i.machine
    turn-in p own = turn-of i k p going-in (its-levels (sym own) levels-in)

    pub settled-by : (p : ℕ) → p ≡ q → (m : CoreState) → KeepsState i.image i.machine m → HasSettledTop i.image p (snapshot_of i.machine) (snapshot_of m) → m.made ≡ i.machine.made → IsSettledIn i q m
    settled-by p own m after top made =
        settled-in i k going-in q levels-in m (after i.cells (schedule_of i.history.items) k.after) (subst (λ n. HasSettledTop i.image n (snapshot_of i.machine) (snapshot_of m)) own top) made

-- what is offered is the same by the image
module _ (i : Inside) (old : PlacedCore) (view : placed_value i ≡ old) (offer : Offer) where
  pub offered-in : offered i.image offer ≡ offered old.core.program offer
  offered-in = ap (λ (v : PlacedCore). offered v.core.program offer) view

  pub known-in : IsKnownOffer old.core.program offer → IsKnownOffer i.image offer
  known-in is = subst (λ (v : PlacedCore). IsKnownOffer v.core.program offer) (sym view) is

  pub made-offered : (b : Bool) (m : CoreState) → IsMadeIn b i.image m (offered i.image offer) → IsMadeIn b i.image m (offered old.core.program offer)
  made-offered b m is = subst (λ (s : SegmentValue). IsMadeIn b i.image m s) offered-in is

  pub out-offered : IsOutBy old.core (offered old.core.program offer) → IsOutBy (core_value i) (offered i.image offer)
  out-offered out = subst (λ (v : PlacedCore). IsOutBy v.core (offered v.core.program offer)) (sym view) out

  pub lives-offered : living (state_of old.core) (offered old.core.program offer).id.process ≢ None → living (state_of old.core) (offered i.image offer).id.process ≢ None
  lives-offered lives = subst (λ (s : SegmentValue). living (state_of old.core) s.id.process ≢ None) (sym offered-in) lives

  pub some-offered : 0 < length (offered old.core.program offer).records → 0 < length (offered i.image offer).records
  some-offered some = subst (λ (s : SegmentValue). 0 < length s.records) (sym offered-in) some

-- ---- a segment whose steps come next

pub record IsUnderway (i : Inside) (s : SegmentValue) (m : CoreState) : Type 0 where
  pub is : IsSettledIn i s.id.process m
  pub made : IsMadeFrom i.image (start_in is.turn.living) s

pub underway : (i : Inside) (s : SegmentValue) (first m : CoreState) → IsSettledIn i s.id.process first → IsRunningAlways i.image → DependOnReads → IsMadeIn true i.image first s → m ≡ first → IsUnderway i s m
underway i s first m settled tops law made same =
    let is = subst (IsSettledIn i s.id.process) (sym same) settled in
    record { is = is; made = (made-in i s.id.process m is tops law s refl true (subst (λ z. IsMadeIn true i.image z s) (sym same) made)).0 refl }

-- ---- nothing came of it

-- the core is as it was, but for a stop
pub left-placed : (i : Inside) → CoreInvariant i → (history : EntriesLeft) → history.items ≡ i.history.items → (m : CoreState) → IsMachineAfter i.image i.cells (schedule_of i.history.items) m → places_of i.image (snapshot_of m) ≡ places_of i.image (snapshot_of i.machine)
    → AreSeen i.image i.cells → (stop : Option ChoiceStop)
    → record { core = record (core_value i) { history = history.items; stop = stop; view = machine_view i.image (snapshot_of m) }; places = places_of i.image (snapshot_of m) } ≡ with_core (placed_value i) (record (core_value i) { stop = stop })
left-placed i k history same m after places seen stop = λ j. record { core = left-value i k history same m after seen stop j; places = places j }

-- memory was refused
pub refused-so : (old : PlacedCore) (s : SegmentValue) (new : PlacedCore) (r : Result Turn CommitFault) → IsErrAnd r (λ e. e ≡ committing.NoMemory) → IsCommitted old s (Err committing.NoMemory) new → IsCommitted old s r new
refused-so old s new r h given = let told = err_from_is_err_and r h in subst (λ x. IsCommitted old s x new) (sym (told.1 ∙ ap Err told.2)) given

-- what was kept of the process
pub saved-for : (program : Units) (p q : ℕ) (old new : CoreState) (saved : UndoLogValue) → p ≡ q → new ≡ old → IsSavedOf program p old saved → (levels : HasLevels (snapshot_of new) q) → saved ≡ saved_of levels (own_cells_of program levels.level.unit)
saved-for program p q old new saved own same kept = subst (λ z. IsSavedOf program q z saved) (sym same) (subst (λ n. IsSavedOf program n old saved) own kept)

-- ---- tickets

-- other tickets are out, of processes that live
pub out-kept : (i : Inside) → CoreInvariant i → (out : Vec TicketId Global) (given : ℕ) → AreLiving i.image i.history.items out.items → CoreInvariant (record i { out = out; given = given })
out-kept i k out given living =
    record {
      after = k.after;
      listed = k.listed;
      room = k.room;
      legal = k.legal;
      few = k.few;
      named = k.named;
      living = living;
      tabled = k.tabled;
      owned = k.owned;
    }

-- ---- what a process had for itself can be put back

pub can-restore : (owned : OwnCellTable) (p q : ℕ) (saved : UndoLogValue) (m : CoreState) → q ≡ p → AreOwnCells owned.image.now owned.tables.now → (turn : IsItsTurn owned.image.now q m) → length saved.operands ≤ deepest (unit_code owned.image.now turn.living.level.unit)
    → CanRestore owned p saved m
can-restore owned p q saved m same tables turn fits = subst (λ n. CanRestore owned n saved m) same (record { tables = tables; turn = turn; room = fits })
