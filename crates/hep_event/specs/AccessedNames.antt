-- The variables that a step accesses, by their names: docs/RUNS.md, "What each step did".
use Rattle.std.specs.Prelude.{ℕ, Bool, false, ◌||◌, List, [], ◌∷◌, Option, Some, None, Result, Ok}
use Rattle.std.specs.List.{list_any}
use Rattle.std.specs.Option.{option_map_or}
use Rattle.std.specs.Str.{bytes_eq}
use Rattle.hep_machine.specs.declared.event.Kind.{Kind}
use Rattle.hep_machine.specs.Evaluation.{reading}
use Rattle.hep_machine.specs.Words.{Action, Location, Next, Redex, Reference, Top, Units, local, spelling, assigning, ending_loop, entering_loop, purging, testing, does, evaluating, location_of_name, next_of, unit_on_top, variable_of, wants}
use Rattle.hep_event.specs.StepTexts.{own_scope}

abbrev pub references_of_redex : Redex → List Reference
references_of_redex (reading r) = r ∷ []
references_of_redex (testing f r) = r ∷ []
references_of_redex _ = []

-- the declared name of the variable with this storage unit: none in COMMON, or where there is no storage unit
abbrev pub name_at : Result Location Kind → Option (List ℕ)
name_at (Ok (local a x i)) = Some (spelling x)
name_at _ = None

-- this name, if there is one, is the one that is sought
abbrev pub is_name : List ℕ → Option (List ℕ) → Bool
is_name sought name = option_map_or (bytes_eq sought) name false

-- of an activation on top of a process, before its step
module _ (program : Units) (t : Top) where
  abbrev pub references_of_action : Action → List Reference
  references_of_action (assigning r v) = r ∷ []
  references_of_action (entering_loop x m n k) = (x, []) ∷ []
  references_of_action (ending_loop d) = (variable_of (unit_on_top program t) d, []) ∷ []
  references_of_action (purging targets) = targets
  references_of_action _ = []

  -- the references of what comes next of its statement
  abbrev pub references_of : Next → List Reference
  references_of (wants (evaluating r)) = references_of_redex r
  references_of (does a) = references_of_action a
  references_of _ = []

  -- a reference has a name in the unit, or is declared by it
  abbrev pub has_name : List ℕ → Reference → Bool
  has_name name r = bytes_eq name (spelling r.0) || is_name name (name_at (location_of_name (own_scope program t) r.0 r.1))

  abbrev pub touches : List ℕ → Bool
  touches name = list_any (has_name name) (references_of (next_of (unit_on_top program t) t.level.work))
