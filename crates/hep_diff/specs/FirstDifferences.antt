-- The first step, entry or line at which two runs differ: docs/RUNS.md, "What differs".
use Rattle.std.specs.Prelude.{ℕ, suc, Bool, true, false, ◌&&◌, nat_eq, if◌then◌else◌, List, [], ◌∷◌, Option, Some, None}
use Rattle.hep_machine.specs.declared.event.Entry.{Entry}
use Rattle.hep_state_text.specs.Values.{same_value}
use Rattle.hep_diff.specs.declared.process_step.ProcessStep.{ProcessStep}
use Rattle.hep_diff.specs.declared.process_step.CellReading.{CellReading}

-- ---- steps

-- the same was read, at whatever place: the numbers of activations depend on other processes
abbrev pub same_found : Option CellReading → Option CellReading → Bool
same_found None None = true
same_found (Some a) (Some b) = same_value a.value b.value
same_found _ _ = false

abbrev pub same_deed : ProcessStep → ProcessStep → Bool
same_deed a b = nat_eq a.unit b.unit && (nat_eq a.line b.line && same_found a.found b.found)

-- the index of the first one that differs, or that one of these doesn't have, counted from k
abbrev pub first_from : ℕ → List ProcessStep → List ProcessStep → Option ℕ
first_from k [] [] = None
first_from k (x ∷ xs) (y ∷ ys) = if same_deed x y then first_from (suc k) xs ys else Some k
first_from k _ _ = Some k

-- ---- entries

abbrev pub same_entry : Entry → Entry → Bool
same_entry a b = nat_eq a.process b.process && nat_eq a.steps b.steps

-- the number of entries before the first one that differs, or that one of them doesn't have
abbrev pub same_front : List Entry → List Entry → ℕ
same_front (x ∷ xs) (y ∷ ys) = if same_entry x y then suc (same_front xs ys) else 0
same_front _ _ = 0
