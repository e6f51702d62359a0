-- Slots that are put back.
use Rattle.std.proofs.Common.{◌≡◌, ℕ, List, [], ◌∷◌, length, refl, arith}
use Rattle.hep_machine.specs.declared.slot.Slot.{Slot}
use Rattle.hep_commit.specs.UndoLogs.{with_slots}

-- where there are none
pub with-none : (first : ℕ) (cells : List ℕ) (slots contents : List Slot) → length slots ≡ 0 → with_slots first cells slots contents ≡ contents
with-none first [] slots contents none = refl
with-none first (c ∷ cs) [] contents none = refl
with-none first (c ∷ cs) (s ∷ ss) contents none = absurd (omega (arith, none))
