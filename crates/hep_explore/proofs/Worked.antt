-- Worked endings: all those of small programs, by closed sets.
use Rattle.std.proofs.Common.{◌≡◌, ◌↔◌, ℕ, pos, true, false, List, [], ◌∷◌, map, Some, None, refl, subst, arith}
use Rattle.std.specs.List.{Contains}
use Rattle.hep_source.specs.declared.statement.Form.TheVariants as form
use Rattle.hep_source.specs.declared.statement.PrintItem.TheVariants.{Expression}
use Rattle.hep_machine.specs.Words.{Form, Occurrence, Statement, State, Units, constant, local, occurrence, opening, run, run_from}
use Rattle.hep_machine.specs.Words.{step_result_of}
use Rattle.hep_machine.specs.declared.record.Item.TheVariants.{Int}
use Rattle.hep_source.specs.declared.value.Value.TheVariants as value
use Rattle.hep_explore.specs.Endings.{Ending, IsEnding, MayRunForEver}
use Rattle.hep_explore.proofs.Cycles.{for_ever}
use Rattle.hep_explore.proofs.Tables.{Table, closed_by, endings_by, endings_in, reachable_by, states_by, steps_of_state}

-- ---- small programs

statement : ℕ → Form → Statement
statement line form = record { line = line; label = None; conditions = []; form = form }

print : ℕ → Form
print n = form.Print (Expression (constant (value.Int (pos n))) ∷ [])

-- ---- CREATE S, PRINT *,1 and END; and SUBROUTINE S, PRINT *,2 and END

subroutine : Occurrence
subroutine = record { name = record { asynchronous = false; letters = 83 ∷ 32 ∷ 32 ∷ 32 ∷ 32 ∷ 32 ∷ [] }; position = 0 }

prints : Units
prints =
    (statement 1 (form.Create subroutine []) ∷ statement 2 (print 1) ∷ statement 3 form.End ∷ [])
    ∷ (statement 4 (form.Subroutine subroutine []) ∷ statement 5 (print 2) ∷ statement 6 form.End ∷ [])
    ∷ []

-- choices that lead to each state
prints_choices : List (List ℕ)
prints_choices =
    []
    ∷ (1 ∷ [])
    ∷ (1 ∷ 1 ∷ [])
    ∷ (1 ∷ 2 ∷ [])
    ∷ (1 ∷ 1 ∷ 1 ∷ [])
    ∷ (1 ∷ 1 ∷ 2 ∷ [])
    ∷ (1 ∷ 2 ∷ 1 ∷ [])
    ∷ (1 ∷ 2 ∷ 2 ∷ [])
    ∷ (1 ∷ 1 ∷ 1 ∷ 2 ∷ [])
    ∷ (1 ∷ 1 ∷ 2 ∷ 2 ∷ [])
    ∷ (1 ∷ 2 ∷ 1 ∷ 1 ∷ [])
    ∷ (1 ∷ 2 ∷ 2 ∷ 1 ∷ [])
    ∷ (1 ∷ 1 ∷ 1 ∷ 2 ∷ 2 ∷ [])
    ∷ (1 ∷ 2 ∷ 2 ∷ 1 ∷ 1 ∷ [])
    ∷ []

-- the states to which their steps lead
prints_table : Table
prints_table =
    (Some 1 ∷ [])
    ∷ (Some 2 ∷ Some 3 ∷ [])
    ∷ (Some 4 ∷ Some 5 ∷ [])
    ∷ (Some 6 ∷ Some 7 ∷ [])
    ∷ (None ∷ Some 8 ∷ [])
    ∷ (Some 8 ∷ Some 9 ∷ [])
    ∷ (Some 10 ∷ Some 11 ∷ [])
    ∷ (Some 11 ∷ None ∷ [])
    ∷ (None ∷ Some 12 ∷ [])
    ∷ (Some 12 ∷ None ∷ [])
    ∷ (None ∷ Some 13 ∷ [])
    ∷ (Some 13 ∷ None ∷ [])
    ∷ (None ∷ None ∷ [])
    ∷ (None ∷ None ∷ [])
    ∷ []

prints_steps : map (steps_of_state prints) (map (run prints) prints_choices)
    ≡ map (states_by (map (run prints) prints_choices)) prints_table
unfolding prints prints_choices prints_table subroutine statement print run run_from opening step_result_of steps_of_state states_by
prints_steps = refl

-- what is left of a run that prints these
printed : List ℕ → Ending
printed ns = record { records = map (λ n. Int (pos n) ∷ []) ns; faults = []; halted = false; blocked = [] }

prints_endings : endings_in prints (map (run prints) prints_choices) ≡ printed (1 ∷ 2 ∷ []) ∷ printed (2 ∷ 1 ∷ []) ∷ []
unfolding prints prints_choices subroutine statement print printed run run_from opening step_result_of endings_in
prints_endings = refl

-- it prints 1 and then 2, or 2 and then 1, and not otherwise
prints_ends : (e : Ending) → IsEnding prints e ↔ Contains (printed (1 ∷ 2 ∷ []) ∷ printed (2 ∷ 1 ∷ []) ∷ []) e
unfolding prints_choices run run_from
prints_ends e =
    let states : List State = map (run prints) prints_choices in
    subst (λ es. IsEnding prints e ↔ Contains es e) prints_endings (
    endings_by prints states (closed_by prints states prints_table prints_steps refl) (reachable_by prints prints_choices) e)

-- ---- PRINT *,$I and END

cell : Occurrence
cell = record { name = record { asynchronous = true; letters = 73 ∷ 32 ∷ 32 ∷ 32 ∷ 32 ∷ 32 ∷ [] }; position = 0 }

waits : Units
waits = (statement 1 (form.Print (Expression (occurrence cell) ∷ [])) ∷ statement 2 form.End ∷ []) ∷ []

waits_steps : map (steps_of_state waits) (opening waits ∷ []) ≡ map (states_by (opening waits ∷ [])) ((None ∷ []) ∷ [])
unfolding waits cell statement opening step_result_of steps_of_state states_by
waits_steps = refl

-- process 1 waits in line 1 until $I of activation 1 is full
for_full : Ending
for_full =
    record {
      records = [];
      faults = [];
      halted = false;
      blocked =
          record {
            view = record { process = 1; unit = 0; line = 1; wanted = Some (record { full = true; at = local 1 cell.name 1 }) };
            owner = Some 0;
          }
          ∷ [];
    }

waits_endings : endings_in waits (opening waits ∷ []) ≡ for_full ∷ []
unfolding waits for_full cell statement opening step_result_of endings_in
waits_endings = refl

-- nobody fills it, so it ends so, and not otherwise
waits_ends : (e : Ending) → IsEnding waits e ↔ Contains (for_full ∷ []) e
unfolding run run_from
waits_ends e =
    subst (λ es. IsEnding waits e ↔ Contains es e) waits_endings (
    let states : List State = opening waits ∷ [] in
    endings_by waits states (closed_by waits states ((None ∷ []) ∷ []) waits_steps refl) (reachable_by waits ([] ∷ [])) e)

-- ---- 10 GO TO 10

loop : Units
loop = (record { line = 1; label = Some 10; conditions = []; form = form.GoTo 10 } ∷ statement 2 form.End ∷ []) ∷ []

loop_step : map (steps_of_state loop) (opening loop ∷ []) ≡ map (states_by (opening loop ∷ [])) ((Some 0 ∷ []) ∷ [])
unfolding loop statement opening step_result_of steps_of_state states_by
loop_step = refl

-- it has no ending
loop_ends_never : (e : Ending) → IsEnding loop e → ⊥
unfolding loop statement run run_from opening step_result_of endings_in
loop_ends_never e ending =
    let states : List State = opening loop ∷ [] in
    let closed = closed_by loop states ((Some 0 ∷ []) ∷ []) loop_step refl in
    let among = (endings_by loop states closed (reachable_by loop ([] ∷ [])) e).0 ending in
    let less = among.1 in
    absurd (omega arith)

-- it runs for ever
loop_runs_for_ever : MayRunForEver loop
unfolding loop statement run run_from opening step_result_of
loop_runs_for_ever = for_ever loop (opening loop) 1 [] ([], refl) (record { made = ((λ none. absurd cc), tt); back = refl })
