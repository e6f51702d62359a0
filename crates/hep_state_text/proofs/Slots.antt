-- Cells in a row, one after the other.
use Rattle.std.proofs.Common.{◌≡◌, ℕ, zero, suc, ◌+◌, ◌<◌, [], ◌∷◌, ◌++◌, length, sym, ap, ◌∙◌, subst, arith, slice_get, Some}
use Rattle.std.proofs.lemmas.Option.{same_Some}
use Rattle.hep_machine.specs.Words.{Units, Layout, Location, State, Store, common, further, local}
use Rattle.hep_machine.specs.declared.slot.Slot.{Slot}
use Rattle.hep_arena.specs.Holes.{IsOut}
use Rattle.hep_arena.specs.Space.{Space}
use Rattle.hep_layout.proofs.Addresses.{address-out}
use Rattle.hep_state_text.specs.States.{slots_at}
use Rattle.hep_state_text.specs.StoredVariables.{AreKeptFrom}
use Rattle.hep_image.proofs.Variables.{further-none}

further-next : (at : Location) (k : ℕ) → further (further at 1) k ≡ further at (suc k)
further-next (local a x i) k = ap (local a x) (omega arith)
further-next (common b i) k = ap (common b) (omega arith)

-- one cell more
pub slots-more : (store : Store) (at : Location) (n : ℕ) → slots_at store at (suc n) ≡ slots_at store at n ++ store (further at n) ∷ []
slots-more store at zero = ap (λ l. store l ∷ []) (sym (further-none at))
slots-more store at (suc n) = ap (λ cs. store at ∷ cs) (slots-more store (further at 1) n ∙ ap (λ l. slots_at store (further at 1) n ++ store l ∷ []) (further-next at n))

module _ (program : Units) (s : State) (layout : Layout) (start : Location) (count first : ℕ) (arena : Space) (kept : AreKeptFrom program s layout start count first arena) (k : ℕ) (less : k < count) where
  pub reached : (first + k < length arena.contents) × IsOut (first + k) arena.holes
  reached =
      let out = address-out program s (length arena.contents) layout (further start k) (first + k) kept.is_of.memory.laid (kept.runs k less) in
      (out.0, subst (IsOut (first + k)) (sym kept.is_of.memory.holes_are) out.1)

  -- what is read there
  pub read-is : (slot : Slot) → slice_get arena.contents (first + k) ≡ Some slot → slot ≡ s.store (further start k)
  read-is slot e = same_Some slot (s.store (further start k)) (sym e ∙ kept.is_of.memory.holds (further start k) (first + k) (kept.runs k less))
