-- Worked PURGEs: a frame of nine cells behind two of COMMON, with a dummy array that has two storage units left.
use Rattle.std.specs.Prelude.{◌≡◌, ℕ, pos, true, false, List, [], ◌∷◌, Some, refl}
use Rattle.hep_machine.specs.Words.{Value, Int, unset_cell}
use Rattle.hep_machine.specs.declared.event.Kind.TheVariants as kind
use Rattle.hep_machine.specs.declared.slot.Slot.{Slot}
use Rattle.hep_code.specs.declared.instruction.Argument.TheVariants.{Referred}
use Rattle.hep_code.specs.declared.instruction.Instruction.{Instruction}
use Rattle.hep_code.specs.declared.instruction.Instruction.TheVariants.{Pass}
use Rattle.hep_code.specs.declared.variable.Variable.TheVariants as variable
use Rattle.hep_code.specs.Words.{passed_from}
use Rattle.hep_image.specs.declared.array.Array.{Array}
use Rattle.hep_image.specs.declared.array.Extents.TheVariants.{Adjustable, Constant}
use Rattle.hep_image.specs.declared.array.Start.TheVariants.{Dummy, Local}
use Rattle.hep_step.specs.Effects.{Effect, fails, moves}
use Rattle.hep_step.specs.PurgeEffects.{effect_of_purge}

abbrev full : ℕ → Slot
full n = record { value = Some (Int (pos n)); full = true }

abbrev empty : ℕ → Slot
empty n = record { value = Some (Int (pos n)); full = false }

-- two cells of COMMON, and from cell 2 on: a local scalar, the two cells of the dummy array, whose bounds are 1:*, in the two after
-- these, and a local array of three elements, one of which was never stored into
abbrev contents : List Slot
contents = full 40 ∷ full 41 ∷ (full 7 ∷ (empty 0 ∷ empty 2 ∷ (empty 1 ∷ unset_cell ∷ (full 51 ∷ unset_cell ∷ full 53 ∷ []))))

abbrev arrays : List Array
arrays =
    record { start = Dummy 1; extents = Adjustable 3 1 }
    ∷ record { start = Local 5; extents = Constant (record { lower = pos 1; upper = Some (pos 3) } ∷ []) } ∷ []

abbrev values : List ℕ → List Value
values [] = []
values (n ∷ ns) = Int (pos n) ∷ values ns

-- the second entry is another's where one target is purged
abbrev effect : ℕ → List Instruction → List ℕ → Effect
effect count entries operands = effect_of_purge arrays 2 10 30 (passed_from count entries (values operands)) contents

-- ---- one target

scalar : effect 1 (Pass (Referred (variable.Local true 0) 0) ∷ Pass (Referred (variable.Common true 1) 0) ∷ []) []
    ≡ moves (full 40 ∷ full 41 ∷ (empty 7 ∷ (empty 0 ∷ empty 2 ∷ (empty 1 ∷ unset_cell ∷ (full 51 ∷ unset_cell ∷ full 53 ∷ []))))) [] 30
scalar = refl

-- only the element, and not those behind it
element : effect 1 (Pass (Referred (variable.Array true 1) 1) ∷ []) (1 ∷ [])
    ≡ moves (full 40 ∷ full 41 ∷ (full 7 ∷ (empty 0 ∷ empty 2 ∷ (empty 1 ∷ unset_cell ∷ (empty 51 ∷ unset_cell ∷ full 53 ∷ []))))) [] 30
element = refl

whole : effect 1 (Pass (Referred (variable.Array true 1) 0) ∷ []) []
    ≡ moves (full 40 ∷ full 41 ∷ (full 7 ∷ (empty 0 ∷ empty 2 ∷ (empty 1 ∷ unset_cell ∷ (empty 51 ∷ unset_cell ∷ empty 53 ∷ []))))) [] 30
whole = refl

-- an array with `*` with all that its actual argument has
assumed_size : effect 1 (Pass (Referred (variable.Array true 0) 0) ∷ []) []
    ≡ moves (empty 40 ∷ empty 41 ∷ (full 7 ∷ (empty 0 ∷ empty 2 ∷ (empty 1 ∷ unset_cell ∷ (full 51 ∷ unset_cell ∷ full 53 ∷ []))))) [] 30
assumed_size = refl

-- ---- several targets

-- one of them twice
several : effect 3 (Pass (Referred (variable.Array true 1) 1) ∷ Pass (Referred (variable.Array true 0) 0) ∷ Pass (Referred (variable.Common true 1) 0) ∷ []) (3 ∷ [])
    ≡ moves (empty 40 ∷ empty 41 ∷ (full 7 ∷ (empty 0 ∷ empty 2 ∷ (empty 1 ∷ unset_cell ∷ (full 51 ∷ unset_cell ∷ empty 53 ∷ []))))) [] 30
several = refl

-- what isn't there is a fault, and then nothing is purged
outside : effect 2 (Pass (Referred (variable.Local true 0) 0) ∷ Pass (Referred (variable.Array true 1) 1) ∷ []) (4 ∷ []) ≡ fails 10 kind.Range
outside = refl

-- so is an element past what the actual argument has
past_what_is_left : effect 1 (Pass (Referred (variable.Array true 0) 1) ∷ []) (3 ∷ []) ≡ fails 10 kind.Range
past_what_is_left = refl

subscripts_of_a_scalar : effect 1 (Pass (Referred (variable.Local true 0) 1) ∷ []) (1 ∷ []) ≡ fails 10 kind.Range
subscripts_of_a_scalar = refl
