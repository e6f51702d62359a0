-- A choice of a core from which the tickets were put aside, as what came of a commit once all but one are put back.
use Rattle.std.proofs.Common.{◌≡◌, ℕ, zero, suc, Bool, true, false, List, [], Ok, Err, inl, inr, sym, ap, ◌∙◌, subst}
use Rattle.std.proofs.lemmas.Option.{none-some}
use Rattle.hep_private.specs.declared.record.Record.{Record}
use Rattle.hep_commit.specs.Segments.{SegmentValue, Start}
use Rattle.hep_core.proofs.ProcessesOut.{home-again}
use Rattle.hep_core.specs.Commits.{IsCommitted, IsGood, IsGoodAt, IsTakenBy, IsWhetherNext, core_after_return}
use Rattle.hep_core.specs.ProcessPlaces.{PlacedCore, with_core}
use Rattle.hep_core.specs.Tickets.{without_process}
use Rattle.hep_core.specs.CoreValues.{CoreValue, IsChoice, IsTurn}
use Rattle.hep_core.specs.declared.core_fault.ChooseFault.TheVariants as choosing
use Rattle.hep_core.specs.declared.core_fault.CommitFault.TheVariants as committing
use Rattle.hep_core.specs.declared.stop.ChoiceStop.{ChoiceStop}
use Rattle.hep_core.specs.declared.stop.Turn.{Turn}
use Rattle.hep_commit.specs.TicketId.{TicketId}

-- the core with these tickets out
abbrev pub with_out : CoreValue → List TicketId → CoreValue
with_out core out = record core { out = out }

module _ (old new : CoreValue) (p : ℕ) where
  turned-back : (out : List TicketId) (n : ℕ) (blocked : Bool) → IsTurn (with_out old []) p n blocked new → IsTurn (with_out old out) p n blocked (with_out new out)
  turned-back out (suc zero) false (s, made, is) = (s, made, ap (λ c. with_out c out) is)
  turned-back out zero true (waits, is) = (waits, ap (λ c. with_out c out) is)
  turned-back out zero false turn = absurd turn
  turned-back out (suc zero) true turn = absurd turn
  turned-back out (suc (suc n)) blocked turn = absurd turn

  pub made-back : (turn : Turn) → IsChoice (with_out old []) p (Ok turn) new → IsChoice (core_after_return old p) p (Ok turn) (with_out new (without_process p old.out))
  made-back turn choice = (choice.0, home-again p old.out, choice.2, turned-back (without_process p old.out) turn.steps turn.blocked choice.3)

-- ---- commits of segments without steps

module _ (old : PlacedCore) (s : SegmentValue) (start : Start) (good : IsGoodAt old s start) (none : s.records ≡ []) (mid : PlacedCore) where
  -- the core to which the tickets came back
  abbrev back : List TicketId → PlacedCore
  back out = with_core mid (with_out mid.core out)

  pub alone-made : (turn : Turn) → IsChoice (with_out old.core []) s.id.process (Ok turn) mid.core → IsCommitted old s (Ok turn) (back (without_process s.id.process old.core.out))
  alone-made turn choice = (
    start,
    good,
    subst (λ (rs : List Record). IsTakenBy rs (core_after_return old.core s.id.process) start s turn (with_out mid.core (without_process s.id.process old.core.out))) (sym none) (
        made-back old.core mid.core s.id.process turn choice),
  )

  module _ (places : mid.places ≡ old.places) where
    pub alone-stopped : (stop : ChoiceStop) → IsChoice (with_out old.core []) s.id.process (Err (choosing.Stopped stop)) mid.core → IsCommitted old s (Err (committing.Stopped stop)) (back old.core.out)
    alone-stopped stop (inl before) = absurd (none-some stop (sym good.0.0.0 ∙ before.0))
    alone-stopped stop (inr (inl full)) = inr (inl ((start, good), full.1, full.2, λ j. record { core = with_out (full.3 j) old.core.out; places = places j }))
    alone-stopped stop (inr (inr gap)) = inr (inr ((start, good), gap.1, none, gap.2, gap.3, λ j. record { core = with_out (gap.4 j) old.core.out; places = places j }))

    pub alone-refused : IsChoice (with_out old.core []) s.id.process (Err choosing.NoMemory) mid.core → IsCommitted old s (Err committing.NoMemory) (back old.core.out)
    alone-refused refused = ((start, good), refused.1, (λ without. refused.2), λ j. record { core = with_out (refused.3 j) old.core.out; places = places j })

-- it isn't the one whose steps come next
pub not-good : (old : PlacedCore) (s : SegmentValue) → IsWhetherNext false old s → IsGood old s → ⊥
not-good old s other good = other good.0 good.1.1 good.1.2
