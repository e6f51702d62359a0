-- The code of a unit, where its variables and DOs were found.
use Rattle.std.proofs.Common.{◌≡◌, ◌∙◌, ℕ, ◌<◌, List, [], get_or, length, refl, sym, ap, subst, arith, ◌≤◌, Result, Ok, Err, IfOk}
use Rattle.std.proofs.lemmas.Option.{slice_get_read}
use Rattle.indexmap.specs.IndexMap.{get}
use Rattle.std.specs.Option.{unwrap_or}
use Rattle.hep_machine.specs.Words.{Name, Statement, name_eq, Units, main_unit, unit_at, common_cells, frame_cells, function_unit, unit_called}
use Rattle.hep_code.specs.Words.{most_instructions, addressed_unit, code_of}
use Rattle.hep_image.specs.declared.array.Array.{Array}
use Rattle.hep_image.specs.Image.{most_cells}
use Rattle.hep_image.specs.Places.{addresses_of, loop_cells, variable_of}
use Rattle.hep_places.specs.MainFrame.{IsMainFrame}
use Rattle.hep_places.specs.declared.unit.UnitPlaces.{UnitPlaces}
use Rattle.hep_places.specs.UnitPlaces.{ArePlaces}
use Rattle.hep_code.specs.declared.placement.Placement.{Placement}
use Rattle.hep_code.specs.Placements.{cells_in, variable_in}
use Rattle.hep_accepted_laws.specs.PlacedCode.{code_in}
use Rattle.hep_lower.specs.declared.fault.EmitFault.{EmitFault}
use Rattle.hep_lower.specs.declared.fault.EmitFault.TheVariants as emit_fault
use Rattle.hep_lower.specs.UnitLimits.{IsOverLimit}
use Rattle.hep_lower.specs.Refusals.{RefusesCode, fault_by}
use Rattle.hep_lower.specs.Tables.{addressed_by}
use Rattle.hep_lower.proofs.Counts.{as-many}

module _ (program : Units) (u : ℕ) (unit : List Statement) (places : Placement) (same : unit ≡ unit_at program u)
    (variables : (x : Name) → variable_in places x ≡ variable_of program (unit_at program u) x) (loops : (d : ℕ) → cells_in places d ≡ loop_cells (unit_at program u) d) where
  pub addressed-is : addressed_by unit places program ≡ addressed_unit program (addresses_of program) u
  addressed-is = λ i. record { unit = same i; variables = λ x. variables x i; cells = λ d. loops d i; subroutines = unit_called program; functions = function_unit program }

  pub code-there : code_of (addressed_by unit places program) ≡ code_in program u
  code-there = ap code_of addressed-is

  -- too much code is too much of the definitions' code
  pub refused-code : (fault : EmitFault) → u < length program → IsOverLimit (length (code_of (addressed_by unit places program))) fault → RefusesCode program (fault_by fault)
  refused-code emit_fault.NoMemory there over = tt
  refused-code emit_fault.TooLong there over =
      (refl, refl, refl, omega (arith, as-many program u (length program) there, subst (λ code. most_instructions < length code) code-there (over refl)))

-- the unit of an index, as a loop finds it
pub unit-item : (program items : Units) (u : ℕ) (unit : List Statement) → items ≡ program → u < length items → unit ≡ get_or items u unit → unit ≡ unit_at program u
unit-item program items u unit same there is = sym (ap (λ (us : Units). unit_at us u) (sym same) ∙ ap (λ o. unwrap_or o []) (slice_get_read items (length items) u unit refl there is))

pub both-then : {A E : Type 0} (r : Result A E) (P Q R : A → Type 0) → IfOk r P → IfOk r Q → ((x : A) → P x → Q x → R x) → IfOk r R
both-then (Ok x) P Q R h g f = f x h g
both-then (Err e) P Q R h g f = tt

-- the main program's places are those by which DATA finds its cells
pub main-frame : (program : Units) (unit : List Statement) (places : UnitPlaces) (arrays : List Array) (main cells : ℕ) → main_unit program ≡ main → unit ≡ unit_at program main → ArePlaces program (unit_at program main) places → arrays ≡ places.arrays.items
    → cells ≡ common_cells program → common_cells program ≤ most_cells → frame_cells (unit_at program main) ≤ most_cells → IsMainFrame program unit (get name_eq places.places.variables) arrays cells
main-frame program unit places arrays main cells first same known listed shared few_shared few_own =
    subst (λ u. IsMainFrame program u (get name_eq places.places.variables) arrays cells) (sym same) (record {
      main = ap (unit_at program) (sym first);
      placed = known.variables;
      listed = listed ∙ known.arrays;
      shared = shared;
      few_shared = few_shared;
      few_own = few_own;
    })
