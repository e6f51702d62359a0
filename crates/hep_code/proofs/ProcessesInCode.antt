-- Processes in the code, as activations are added, begin and end: X3.9-1978, 15.6.2 and 15.8.
use Rattle.std.proofs.Common.{◌≡◌, ℕ, zero, suc, ◌+◌, ◌≤◌, List, [], ◌∷◌, ◌++◌, length, length-append, refl, ap, sym, ◌∙◌, subst, arith, Option, Some, None}
use Rattle.std.specs.Option.{unwrap_or}
use Rattle.hep_machine.specs.Words.{Name, Value, Units, function_name, stack_after_value, unit_at, executable_from, Binding, level_after_statement, no_activation, Redex, plug_work, numbered, unit_of, Activation, Level, Process, State, Top, entry_level, next_activation, with_activation, stack_after_return}
use Rattle.hep_code.specs.declared.instruction.Operation.{Operation}
use Rattle.hep_code.specs.Words.{Awaits, IsRedex, Moves, Addresses, addressed_unit, CodeLevel, IsOf, IsBelow, IsTop, AreBelow, AreLevels, NoLoops, entered, calling, Counts, HoldsLoops, Stands}
use Rattle.hep_code.proofs.CodePositions.{StandsAt, after_statement_stands, after_statement_keeps, entry_stands}
use Rattle.hep_machine.proofs.Others.{front_kept}
use Rattle.hep_source.proofs.Tests.{at-last}

-- ---- activations that are added leave the others as they are

still_numbered : (xs ys : List Activation) (a : ℕ) → 1 ≤ a → a ≤ length xs → numbered (xs ++ ys) a ≡ numbered xs a
still_numbered xs ys zero ge le = absurd (omega arith)
still_numbered xs ys (suc i) ge le = front_kept xs ys i (omega arith)

module _ (program : Units) (addresses : Addresses) (s t : State) (ys : List Activation) (more : t.activations ≡ s.activations ++ ys) where
  still_of : (f : CodeLevel) (level : Level) → IsOf program addresses s f level → IsOf program addresses t f level
  still_of f level h =
      let n = length-append s.activations ys in
      record {
        activation = h.activation;
        made = (h.made.0, subst (λ xs. f.activation ≤ length xs) (sym more) (omega (arith, n, h.made.1)));
        unit = ap (λ xs. (unwrap_or (numbered xs f.activation) no_activation).unit) more
            ∙ ap (λ (o : Option Activation). (unwrap_or o no_activation).unit) (still_numbered s.activations ys f.activation h.made.0 h.made.1) ∙ h.unit;
      }

  pub still_below : (above : ℕ) (fs : List CodeLevel) (levels : Process) → AreBelow program addresses s above fs levels → AreBelow program addresses t above fs levels
  still_below above [] [] h = tt
  still_below above (f ∷ fs) (level ∷ levels) h =
      (record { is_of = still_of f level h.0.is_of; awaits = h.0.awaits; loops = h.0.loops }, still_below f.unit fs levels h.1)
  still_below above [] (level ∷ levels) h = absurd h
  still_below above (f ∷ fs) [] h = absurd h

  pub still_levels : (fs : List CodeLevel) (levels : Process) → AreLevels program addresses s fs levels → AreLevels program addresses t fs levels
  still_levels [] [] h = tt
  still_levels (f ∷ fs) (level ∷ levels) h = (record { is_of = still_of f level h.0.is_of; at = h.0.at }, still_below f.unit fs levels h.1)
  still_levels [] (level ∷ levels) h = absurd h
  still_levels (f ∷ fs) [] h = absurd h

-- ---- the top moves, or gets a value

pub moved_levels : (program : Units) (addresses : Addresses) (s : State) (f : CodeLevel) (fs : List CodeLevel) (level after : Level) (levels : Process) (counts : Counts) (index : ℕ) → AreLevels program addresses s (f ∷ fs) (level ∷ levels) → Moves (addressed_unit program addresses f.unit) level after counts index → AreLevels program addresses s (record f { index = index; operands = []; counts = counts } ∷ fs) (after ∷ levels)
moved_levels program addresses s f fs level after levels counts index h moves =
    let of = h.0.is_of in
    (record { is_of = record { activation = moves.activation ∙ of.activation; made = of.made; unit = of.unit }; at = moves.at }, h.1)

pub filled_levels : (program : Units) (addresses : Addresses) (s : State) (f : CodeLevel) (fs : List CodeLevel) (level : Level) (levels : Process) (o : Operation) (r : Redex) (v : Value) → AreLevels program addresses s (f ∷ fs) (level ∷ levels) → (is : IsRedex (addressed_unit program addresses f.unit) level.statement level.work f.operands f.index r o) → AreLevels program addresses s (record f { index = f.index + 1; operands = is.before ++ v ∷ [] } ∷ fs) (record level { work = plug_work (unit_at program f.unit) level.work v } ∷ levels)
filled_levels program addresses s f fs level levels o r v h is =
    let of = h.0.is_of in
    (record { is_of = record { activation = of.activation; made = of.made; unit = of.unit }; at = record { stands = is.filled v; loops = h.0.at.loops } }, h.1)

-- ---- RETURN and END: the caller goes on, or has the value of a function

module _ (program : Units) (addresses : Addresses) (s : State) where
  top_again : (u : ℕ) (f : CodeLevel) (level : Level) → function_name (unit_at program u) ≡ None → IsBelow program addresses s u f level → IsTop program addresses s f (level_after_statement (unit_at program f.unit) level)
  top_again u f level none h =
      let addressed = addressed_unit program addresses f.unit in
      let after = level_after_statement addressed.unit level in
      let awaits : Awaits None addressed level f.operands f.index = subst (λ o. Awaits o addressed level f.operands f.index) none h.awaits in
      let stands : StandsAt addressed after f.index = subst (StandsAt addressed after) (sym awaits.0) (after_statement_stands addressed level) in
      record {
        is_of = record { activation = (after_statement_keeps addressed level).1 ∙ h.is_of.activation; made = h.is_of.made; unit = h.is_of.unit };
        at = record {
          stands = subst (λ vs. Stands addressed after.statement after.work vs f.index) (sym awaits.1) stands;
          loops = subst (HoldsLoops addressed.unit f.counts) (sym (after_statement_keeps addressed level).0) h.loops;
        };
      }

  pub returned : (u : ℕ) (fs : List CodeLevel) (levels : Process) → function_name (unit_at program u) ≡ None → AreBelow program addresses s u fs levels → AreLevels program addresses s fs (stack_after_return program s levels)
  returned u [] [] none h = tt
  returned u (f ∷ fs) (level ∷ levels) none h =
      let v : unit_of s level.activation ≡ f.unit = ap (unit_of s) h.0.is_of.activation ∙ h.0.is_of.unit in
      subst (λ n. AreLevels program addresses s (f ∷ fs) (level_after_statement (unit_at program n) level ∷ levels)) (sym v) (top_again u f level none h.0, h.1)
  returned u [] (level ∷ levels) none h = absurd h
  returned u (f ∷ fs) [] none h = absurd h

  pub answered : (u : ℕ) (x : Name) (v : Value) (f : CodeLevel) (fs : List CodeLevel) (level : Level) (levels : Process) → function_name (unit_at program u) ≡ Some x → AreBelow program addresses s u (f ∷ fs) (level ∷ levels)
      → AreLevels program addresses s (record f { operands = f.operands ++ v ∷ [] } ∷ fs) (stack_after_value program s v (level ∷ levels))
  answered u x v f fs level levels some h =
      let addressed = addressed_unit program addresses f.unit in
      let awaits : Awaits (Some x) addressed level f.operands f.index = subst (λ o. Awaits o addressed level f.operands f.index) some h.0.awaits in
      let same : unit_of s level.activation ≡ f.unit = ap (unit_of s) h.0.is_of.activation ∙ h.0.is_of.unit in
      subst (λ n. AreLevels program addresses s (record f { operands = f.operands ++ v ∷ [] } ∷ fs) (record level { work = plug_work (unit_at program n) level.work v } ∷ levels)) (sym same) (
        record { is_of = record { activation = h.0.is_of.activation; made = h.0.is_of.made; unit = h.0.is_of.unit }; at = record { stands = awaits v; loops = h.0.loops } },
        h.1,
      )

-- ---- CALL and CREATE

-- the new activation at its first statement
begun : (program : Units) (addresses : Addresses) (top : Top) (u : ℕ) (b : Binding) (counts : Counts) → NoLoops (unit_at program u) counts → IsTop program addresses (with_activation top u b) (entered program addresses (next_activation top.state) u counts) (entry_level (unit_at program u) (next_activation top.state))
begun program addresses top u b counts none =
    let s = top.state in
    let made : Activation = record { unit = u; parent = Some top.level.activation; dummies = b.dummies } in
    let n = length-append s.activations (made ∷ []) in
    let number : next_activation s ≡ suc (length s.activations) = omega arith in
    let addressed = addressed_unit program addresses u in
    record {
      is_of = record {
        activation = refl;
        made = (omega arith, omega (arith, n));
        unit = ap (λ a. (unwrap_or (numbered (s.activations ++ made ∷ []) a) no_activation).unit) number
            ∙ ap (λ (o : Option Activation). (unwrap_or o no_activation).unit) (at-last s.activations made);
      };
      at = record { stands = entry_stands addressed (entry_level addressed.unit (next_activation s)) (executable_from addressed.unit 0); loops = none };
    }

-- the caller awaits the end of the new activation, at this index and with these operands
pub called : (program : Units) (addresses : Addresses) (top : Top) (u : ℕ) (b : Binding) (counts : Counts) (f : CodeLevel) (fs : List CodeLevel) (operands : List Value) (index : ℕ) → NoLoops (unit_at program u) counts
    → Awaits (function_name (unit_at program u)) (addressed_unit program addresses f.unit) top.level operands index → AreLevels program addresses top.state (f ∷ fs) (top.level ∷ top.below)
    → AreLevels program addresses (with_activation top u b) (entered program addresses (next_activation top.state) u counts ∷ (record f { index = index; operands = operands } ∷ fs)) (entry_level (unit_at program u) (next_activation top.state) ∷ (top.level ∷ top.below))
called program addresses top u b counts f fs operands index none awaits h =
    let made : Activation = record { unit = u; parent = Some top.level.activation; dummies = b.dummies } in
    let s = top.state in
    let t = with_activation top u b in
    let of = still_of program addresses s t (made ∷ []) refl f top.level h.0.is_of in (
      begun program addresses top u b counts none,
      (
        record { is_of = record { activation = of.activation; made = of.made; unit = of.unit }; awaits = awaits; loops = h.0.at.loops },
        still_below program addresses s t (made ∷ []) refl f.unit fs top.below h.1,
      ),
    )

pub created : (program : Units) (addresses : Addresses) (top : Top) (u : ℕ) (b : Binding) (counts : Counts) → NoLoops (unit_at program u) counts → AreLevels program addresses (with_activation top u b) (entered program addresses (next_activation top.state) u counts ∷ []) (entry_level (unit_at program u) (next_activation top.state) ∷ [])
created program addresses top u b counts none = (begun program addresses top u b counts none, tt)

-- ---- RESUME: the caller goes on, and the activation is a process of its own

pub resumed : (program : Units) (addresses : Addresses) (s : State) (f : CodeLevel) (fs : List CodeLevel) (level after : Level) (levels : Process) (counts : Counts) (index : ℕ) → function_name (unit_at program f.unit) ≡ None → AreLevels program addresses s (f ∷ fs) (level ∷ levels)
    → Moves (addressed_unit program addresses f.unit) level after counts index
    → AreLevels program addresses s fs (stack_after_return program s levels) × AreLevels program addresses s (record f { index = index; operands = []; counts = counts } ∷ []) (after ∷ [])
resumed program addresses s f fs level after levels counts index none h moves = (
  returned program addresses s f.unit fs levels none h.1,
  ((moved_levels program addresses s f fs level after levels counts index h moves).0, tt),
)
