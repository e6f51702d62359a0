-- What a step changes, and what it accesses, by what is known before it and whether it was a fault: docs/MACHINE.md, "The order of steps".
use Rattle.std.specs.Prelude.{Bool, true, false, ◌&&◌, not, nat_lt, if◌then◌else◌, List, [], ◌∷◌, length, map, Result, Ok, Err}
use Rattle.std.specs.List.{filter, flat_map}
use Rattle.hep_source.specs.declared.function.StateFunction.{StateFunction}
use Rattle.hep_source.specs.declared.function.StateFunction.TheVariants.{SetEmpty}
use Rattle.hep_machine.specs.declared.event.Kind.{Kind}
use Rattle.hep_machine.specs.Evaluation.{reading}
use Rattle.hep_machine.specs.Words.{Location, Next, Reference, State, Top, Units, is_array, is_nonempty, next_of, storage_of, unit_on_top}
use Rattle.hep_machine.specs.Words.{variable_of}
use Rattle.hep_machine.specs.Words.{assigning, does, ending_loop, entering_loop, evaluating, purging, testing, wants}
use Rattle.hep_accesses.specs.Accesses.{Access, access_at, accesses_of_next, location_of, locations_from, scope_on_top}

-- a fault was added
abbrev pub has_failed : State → State → Bool
has_failed s t = nat_lt (length s.faults) (length t.faults)

abbrev pub located : Result Location Kind → List Location
located (Err k) = []
located (Ok at) = at ∷ []

abbrev pub as_read : Access → Access
as_read a = record a { stores = false }

-- of an activation on top of a process, before its step
module _ (program : Units) (t : Top) where
  -- ---- changes: what is made full or empty, unless the step is a fault

  abbrev pub is_full_before : Location → Bool
  is_full_before at = (t.state.store at).full

  -- a whole array, or one storage unit
  abbrev pub units_of_target : Reference → List Location
  units_of_target r =
      if is_array (scope_on_top program t).unit r.0 && not (is_nonempty r.1)
      then locations_from (storage_of (scope_on_top program t) r.0).rest (storage_of (scope_on_top program t) r.0).start
      else located (location_of program t r)

  -- a read empties it, and an assignment fills it
  abbrev pub change_of_reference : Reference → List Location
  change_of_reference r = if r.0.asynchronous then located (location_of program t r) else []

  -- SETE empties it where it is full; FULL, EMPTY, VALUE and WAITF leave it as it is
  abbrev pub change_of_test : StateFunction → Reference → List Location
  change_of_test SetEmpty r = filter is_full_before (located (location_of program t r))
  change_of_test _ r = []

  abbrev pub changes_of_next : Next → List Location
  changes_of_next (wants (evaluating (reading r))) = change_of_reference r
  changes_of_next (wants (evaluating (testing f r))) = change_of_test f r
  changes_of_next (does (assigning r v)) = change_of_reference r
  changes_of_next (does (purging targets)) = filter is_full_before (flat_map units_of_target targets)
  changes_of_next _ = []

  abbrev pub changes_on_top : List Location
  changes_on_top = changes_of_next (next_of (unit_on_top program t) t.level.work)

  -- ---- accesses, where a DO and the end of an iteration are no fault

  abbrev pub accesses_unless_fault : Next → List Access
  accesses_unless_fault (does (entering_loop x m n k)) = access_at program t x true (location_of program t (x, []))
  accesses_unless_fault (does (ending_loop d)) =
      access_at program t (variable_of (unit_on_top program t) d) true (location_of program t (variable_of (unit_on_top program t) d, []))
  accesses_unless_fault n = accesses_of_next program t n

-- a DO that is a fault accesses nothing, and the end of an iteration that is one reads its variable alone
abbrev pub accesses_of_fault : Next → List Access → List Access
accesses_of_fault (does (entering_loop x m n k)) xs = []
accesses_of_fault (does (ending_loop d)) xs = map as_read xs
accesses_of_fault n xs = xs

abbrev pub accesses_after : Next → Bool → List Access → List Access
accesses_after n failed xs = if failed then accesses_of_fault n xs else xs
