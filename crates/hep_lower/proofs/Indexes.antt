-- Indexes that were found are those of the definitions.
use Rattle.std.proofs.Common.{◌≡◌, ℕ, zero, suc, ◌+◌, ◌-◌, ◌≤◌, List, [], ◌∷◌, length, refl, ap, ◌∙◌, arith, length-append, slice_get, le-leb}
use Rattle.std.proofs.lemmas.List.{length-map}
use Rattle.hep_lower.proofs.Flows.{called_at_most, referred_at_most}
use Rattle.std.specs.Option.{option_map, unwrap_or}
use Rattle.hep_machine.specs.Words.{Name, Form, Statement, no_statement, Tree, Units, line_at, constant_value, terminal_of, listed_meaning, unit_called, function_name, function_unit}
use Rattle.hep_source.specs.declared.statement.Form.TheVariants as form
use Rattle.hep_code.specs.declared.instruction.Instruction.TheVariants.{Step, To}
use Rattle.hep_code.specs.declared.instruction.Operation.TheVariants.{Condition}
use Rattle.hep_code.specs.Words.{tree_code, operands_code, operation_code, form_code, conditions_code, loop_end_code, statement_code, statements_code, instructions_before, Table, Target, at, end_of, onward, outward, inward, aside, labelled, AddressedUnit, names_of, table_by, unplaced, index_of, code_of}
use Rattle.hep_lower.specs.declared.name_lookup.NameLookup.{NameLookup}
use Rattle.hep_lower.specs.declared.tables.Starts.{Starts}
use Rattle.hep_lower.specs.declared.tables.Tables.{Tables}
use Rattle.hep_code.specs.Placements.{variable_in, cells_in}
use Rattle.hep_lower.specs.Starts.{starts_from, end_from}
use Rattle.hep_lower.specs.Names.{names_in, greatest, number_called, number_referred}
use Rattle.hep_lower.specs.Tables.{start_in, index_in, table_in, addressed_in}

-- ---- where statements begin

pub start-before : (table : Table) (n k j : ℕ) (ss : List Statement) → unwrap_or (slice_get (starts_from table n k ss) j) (end_from table n k ss) ≡ n + instructions_before table k ss j
start-before table n k j [] = omega arith
start-before table n k zero (s ∷ ss) = omega arith
start-before table n k (suc j) (s ∷ ss) = omega (arith, start-before table (n + length (statement_code table k s)) (suc k) j ss)

module _ (addressed : AddressedUnit) (starts : Starts)
    (begins : starts.statements.items ≡ starts_from (unplaced addressed) 0 0 addressed.unit)
    (ends : starts.end ≡ end_from (unplaced addressed) 0 0 addressed.unit) where
  pub start-is : (k : ℕ) → start_in starts k ≡ instructions_before (unplaced addressed) 0 addressed.unit k
  start-is k = rw (begins, ends) (omega (arith, start-before (unplaced addressed) 0 0 k addressed.unit))

  pub index-is : (target : Target) → index_in starts target ≡ index_of addressed target
  unfolding index_in
  index-is (at k) = start-is k
  index-is (end_of d) = ap (λ n. n - 1) (start-is (suc d))

pub nowhere-is : (starts : Starts) → starts.statements.items ≡ [] → starts.end ≡ 0 → (target : Target) → index_in starts target ≡ 0
unfolding index_in
nowhere-is starts begins ends (at k) = rw (begins, ends) refl
nowhere-is starts begins ends (end_of d) = rw (begins, ends) refl

-- ---- tables

number-is : (program : Units) → length program ≤ greatest → (x : Name) → number_called program x ≡ unit_called program x
unfolding number_called
number-is program few x = rw (le-leb (unit_called program x) greatest (omega (arith, called_at_most program x, few))) refl

reference-is : (program : Units) → length program ≤ greatest → (x : Name) → number_referred program x ≡ function_unit program x
unfolding number_referred
reference-is program few x = rw (le-leb (function_unit program x) greatest (omega (arith, referred_at_most program x, few))) refl

names-are : (n : NameLookup) → length n.program.now ≤ greatest → names_in n ≡ names_of (addressed_in n)
unfolding names_in
names-are n few = λ i.
    record {
      constants = constant_value n.symbols.now;
      meanings = listed_meaning n.symbols.now;
      variables = variable_in n.places.now;
      functions = λ x. reference-is n.program.now few x i;
    }

pub table-is : (t : Tables) (index : Target → ℕ) → t.control.now ≡ t.names.symbols.now → length t.names.program.now ≤ greatest
    → ((target : Target) → index_in t.starts target ≡ index target) → table_in t ≡ table_by (addressed_in t.names) index
table-is t index same few indexes = λ i.
    record {
      names = names-are t.names few i;
      subroutines = λ x. number-is t.names.program.now few x i;
      result = option_map (variable_in t.names.places.now) (function_name (same i));
      labels = λ l. indexes (labelled (same i) l) i;
      flows = λ k.
          record {
            next = indexes (onward (same i) k) i;
            inside = indexes (inward (same i) k) i;
            behind = indexes (outward (same i) k) i;
            otherwise = indexes (aside (same i) k) i;
            cells = cells_in t.names.places.now k;
            end_line = line_at (same i) (terminal_of (same i) k);
          };
    }

-- ---- the length of code doesn't depend on indexes

module _ (addressed : AddressedUnit) (f g : Target → ℕ) where
  abbrev a : Table
  a = table_by addressed f

  abbrev b : Table
  b = table_by addressed g

  operation-long : (line k : ℕ) (x : Form) → length (operation_code a line k x) ≡ length (operation_code b line k x)
  operation-long line k (form.ComputedGoTo labels t) = omega (arith, length-map labels (λ l. To ((table_by addressed f).labels l)), length-map labels (λ l. To ((table_by addressed g).labels l)))
  operation-long line k _ = refl

  form-long : (line k : ℕ) (x : Form) → length (form_code a line k x) ≡ length (form_code b line k x)
  form-long line k x = omega (arith, length-append (operands_code a line x) (operation_code a line k x), length-append (operands_code b line x) (operation_code b line k x), operation-long line k x)

  conditions-long : (line k : ℕ) (ts : List Tree) (x : Form) → length (conditions_code a line k ts x) ≡ length (conditions_code b line k ts x)
  conditions-long line k [] x = form-long line k x
  conditions-long line k (t ∷ ts) x =
      omega (arith, length-append (tree_code (names_of addressed) line t) (Step line (Condition ((table_by addressed f).flows k).next) ∷ conditions_code a line k ts x), length-append (tree_code (names_of addressed) line t) (Step line (Condition ((table_by addressed g).flows k).next) ∷ conditions_code b line k ts x), conditions-long line k ts x)

  end-long : (k : ℕ) (x : Form) → length (loop_end_code a k x) ≡ length (loop_end_code b k x)
  end-long k (form.Do c) = refl
  end-long k _ = refl

  statement-long : (k : ℕ) (s : Statement) → length (statement_code a k s) ≡ length (statement_code b k s)
  statement-long k s =
      omega (arith, length-append (conditions_code a s.line k s.conditions s.form) (loop_end_code a k s.form), length-append (conditions_code b s.line k s.conditions s.form) (loop_end_code b k s.form), conditions-long s.line k s.conditions s.form, end-long k s.form)

  pub statements-long : (k : ℕ) (ss : List Statement) → length (statements_code a k ss) ≡ length (statements_code b k ss)
  statements-long k [] = statement-long k no_statement
  statements-long k (s ∷ ss) =
      omega (arith, length-append (statement_code a k s) (statements_code a (suc k) ss), length-append (statement_code b k s) (statements_code b (suc k) ss), statement-long k s, statements-long (suc k) ss)

-- ---- the code of a unit, by its tables

-- the tables are those of one unit, a number of 32 bits counts the units of the program, and no index is known yet
pub record AreBlank (t : Tables) : Type 0 where
  pub unit : t.control.now ≡ t.names.symbols.now
  pub few_units : length t.names.program.now ≤ greatest
  pub statements : t.starts.statements.items ≡ []
  pub end : t.starts.end ≡ 0

module _ (t : Tables) (h : AreBlank t) where
  abbrev whole : AddressedUnit
  whole = addressed_in t.names

  blank-is : table_in t ≡ unplaced whole
  blank-is = table-is t (λ target. 0) h.unit h.few_units (nowhere-is t.starts h.statements h.end)

  pub blank-long : length (statements_code (table_in t) 0 t.control.now) ≡ length (code_of whole)
  unfolding code_of
  blank-long =
      ap (λ u. length (statements_code u 0 t.control.now)) blank-is
      ∙ ap (λ ss. length (statements_code (unplaced whole) 0 ss)) h.unit
      ∙ statements-long whole (λ target. 0) (index_of whole) 0 whole.unit

-- the same tables with what the code by them tells of where statements begin
module _ (t : Tables) (h : AreBlank t) (found : Starts)
    (statements : found.statements.items ≡ starts_from (table_in t) 0 0 t.control.now) (end : found.end ≡ end_from (table_in t) 0 0 t.control.now) where
  begins : found.statements.items ≡ starts_from (unplaced (addressed_in t.names)) 0 0 t.names.symbols.now
  begins = statements ∙ (λ i. starts_from (blank-is t h i) 0 0 (h.unit i))

  ends : found.end ≡ end_from (unplaced (addressed_in t.names)) 0 0 t.names.symbols.now
  ends = end ∙ (λ i. end_from (blank-is t h i) 0 0 (h.unit i))

  pub found-start : (k : ℕ) → start_in found k ≡ instructions_before (unplaced (addressed_in t.names)) 0 t.names.symbols.now k
  found-start = start-is (addressed_in t.names) found begins ends

  abbrev pub by-found : Tables
  by-found = record { names = t.names; control = t.control; starts = found }

  pub found-code : statements_code (table_in by-found) 0 t.control.now ≡ code_of (addressed_in t.names)
  unfolding code_of
  found-code =
      let whole = addressed_in t.names in
      let placed = table-is by-found (index_of whole) h.unit h.few_units (index-is whole found begins ends) in
      λ i. statements_code (placed i) 0 (h.unit i)
