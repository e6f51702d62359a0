-- What is left of a source where only the status is answered: its outcomes have no history.
use Rattle.std.proofs.Common.{◌≡◌, ℕ, Bool, List, [], Option, Some, None, refl, sym, ap, inl, inr}
use Rattle.hep_machine.specs.Words.{Units}
use Rattle.hep_outcome.specs.Outcome.{Outcome}
use Rattle.hep_run.specs.Delivery.{IsOutcomeOf, Leaves, LeavesOfSource, LeavesOneOf, status_alone}
use Rattle.hep_run.specs.Memory.{RefusesLargeSource}
use Rattle.hep_run.specs.Outcome.{IsCommandOutcome}
use Rattle.hep_run.specs.declared.options.Run.{Run}

-- the outcomes of a command whose programs leave no history have none
pub command-none : (IsRefused : Units → ℕ → ℕ → List ℕ → Type 0) (Holds : Units → Type 0) (gives : Bool → List ℕ → Units → Outcome → Type 0)
    → ((long : Bool) (source : List ℕ) (program : Units) (o : Outcome) → gives long source program o → o.history ≡ [])
    → (long : Bool) (source : List ℕ) (o : Outcome) → IsCommandOutcome IsRefused Holds gives long source o → o.history ≡ []
command-none IsRefused Holds gives none long source o (inl (number, line, name, notes, why, are, is)) = ap (λ (x : Outcome). x.history) is
command-none IsRefused Holds gives none long source o (inr (program, holds, is)) = none long source program o is

-- nor have they for the bytes of a reader, whether these are known or not
none-of : (Is : List ℕ → Outcome → Type 0) → ((source : List ℕ) (o : Outcome) → Is source o → o.history ≡ []) → (known : Option (List ℕ)) (o : Outcome)
    → IsOutcomeOf Is known o → o.history ≡ []
none-of Is none None o (source, is) = none source o is
none-of Is none (Some source) o is = none source o is

module _ (run : Run) (output output' messages messages' : Option (List ℕ)) where
  -- the status says all of a run without a history
  pub alone : (o : Outcome) → o.history ≡ [] → Leaves o run output output' messages messages'
      → Leaves o (status_alone run.status) output output' messages messages'
  alone o none (inl all) =
      inl (record { status = all.status; history = sym none; output_taken = all.output_taken; messages_taken = all.messages_taken })
  alone o none (inr broken) = inr (record { status = broken.status; history = sym none; taken = broken.taken })

  -- so where one of several outcomes is delivered
  pub left_alone : (Is : Outcome → Type 0) → ((o : Outcome) → Is o → o.history ≡ []) → LeavesOneOf Is run output output' messages messages'
      → LeavesOneOf Is (status_alone run.status) output output' messages messages'
  left_alone Is none (inl wants) = inl (wants.0, (refl, wants.1.1))
  left_alone Is none (inr (o, is, leaves)) = inr (o, is, alone o (none o is) leaves)

  module _ (known left : Option (List ℕ)) where
    -- so of what is left of a reader's bytes
    pub source_alone : (Is : List ℕ → Outcome → Type 0) → ((source : List ℕ) (o : Outcome) → Is source o → o.history ≡ [])
        → LeavesOfSource Is known left run output output' messages messages'
        → LeavesOfSource Is known left (status_alone run.status) output output' messages messages'
    source_alone Is none (inl (kept, history, cannot)) = inl (kept, refl, cannot)
    source_alone Is none (inr (read, leaves)) = inr (read, left_alone (IsOutcomeOf Is known) (none-of Is none known) leaves)

    -- and where these are too large a source
    pub large_alone : (long : Bool) → RefusesLargeSource long known left run output output' messages messages'
        → RefusesLargeSource long known left (status_alone run.status) output output' messages messages'
    large_alone long refuses = λ short large. elim (refuses short large) [
      | inl cannot ↦ inl cannot
      | inr leaves ↦ inr (alone _ refl leaves)
    ]
