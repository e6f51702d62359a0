-- Conditions of DO ranges and IF blocks: 307 and 308 (X3.9-1978, 11.5 to 11.10).
use Rattle.std.specs.Prelude.{ℕ, suc, Bool, true, false, not, ◌&&◌, ◌||◌, nat_lt, nat_le, if◌then◌else◌, List, [], ◌∷◌, ◌++◌, map, Option, Some, None}
use Rattle.std.specs.List.{flat_map, list_any}
use Rattle.hep_machine.specs.Words.{Tree, Name, Form, Statement, Role, opens, alternative, otherwise, closes, other, role_of, index_labelled, is_nonempty, same_name, line_at, statement_at}
use Rattle.hep_source.specs.declared.statement.Form.TheVariants as form
use Rattle.hep_conditions.specs.Statements.{FunctionTypes, is_function_in, is_plain_integer_scalar, targets_of_jump}
use Rattle.hep_conditions.specs.Violations.{Violations, at_line, when}

-- ---- statements with their indices in the unit: 3.5

pub record IndexedStatement : Type 0 where
  pub index : ℕ
  pub statement : Statement

abbrev pub indexed_from : ℕ → List Statement → List IndexedStatement
indexed_from k [] = []
indexed_from k (s ∷ ss) = record { index = k; statement = s } ∷ indexed_from (suc k) ss

abbrev pub indexed_statements : List Statement → List IndexedStatement
indexed_statements unit = indexed_from 0 unit

-- whether a statement is no logical IF
abbrev pub is_unconditional : Statement → Bool
is_unconditional s = not (is_nonempty s.conditions)

-- ---- DO ranges: 11.10.1

-- a DO: its index, that of its terminal statement, and its variable
pub record DoRange : Type 0 where
  pub start : ℕ
  pub terminal : ℕ
  pub variable : Name

abbrev pub range_to : ℕ → Name → Option ℕ → List DoRange
range_to k x None = []
range_to k x (Some t) = if nat_lt k t then record { start = k; terminal = t; variable = x } ∷ [] else []

abbrev pub range_by : List Statement → ℕ → Form → List DoRange
range_by unit k (form.Do c) = range_to k c.variable.name (index_labelled unit c.terminal)
range_by unit k _ = []

-- the ranges of the DOs of a unit whose terminal statements follow them; a DO within a logical IF has no range
abbrev pub ranges_of : List Statement → List DoRange
ranges_of unit =
    flat_map (λ (p : IndexedStatement). if is_unconditional p.statement then range_by unit p.index p.statement.form else []) (indexed_statements unit)

-- ---- IF blocks: 11.6 to 11.9

-- a block IF: its index, those of its ELSE IF and ELSE statements, the last first, and that of its END IF, if there is one
pub record BlockIf : Type 0 where
  pub start : ℕ
  pub divisions : List ℕ
  pub has_else : Bool
  pub end : Option ℕ

-- the block IFs of the statements read so far: those that are open, the innermost first, those that are closed, and the ELSE IF, ELSE and
-- END IF statements of no block IF
pub record BlockIfs : Type 0 where
  pub unclosed : List BlockIf
  pub closed : List BlockIf
  pub stray : List ℕ

abbrev pub with_block_if : BlockIfs → ℕ → BlockIfs
with_block_if bs k = record bs { unclosed = record { start = k; divisions = []; has_else = false; end = None } ∷ bs.unclosed }

abbrev pub with_stray : BlockIfs → ℕ → BlockIfs
with_stray bs k = record bs { stray = k ∷ bs.stray }

abbrev pub with_division : BlockIfs → ℕ → Bool → List BlockIf → BlockIfs
with_division bs k is_else [] = with_stray bs k
with_division bs k is_else (b ∷ more) =
    if b.has_else then with_stray bs k else record bs { unclosed = record b { divisions = k ∷ b.divisions; has_else = is_else } ∷ more }

abbrev pub with_end_if : BlockIfs → ℕ → List BlockIf → BlockIfs
with_end_if bs k [] = with_stray bs k
with_end_if bs k (b ∷ more) = record bs { unclosed = more; closed = record b { end = Some k } ∷ bs.closed }

abbrev pub with_role : BlockIfs → ℕ → Role → BlockIfs
with_role bs k opens = with_block_if bs k
with_role bs k alternative = with_division bs k false bs.unclosed
with_role bs k otherwise = with_division bs k true bs.unclosed
with_role bs k closes = with_end_if bs k bs.unclosed
with_role bs k other = bs

abbrev pub with_all : BlockIfs → List IndexedStatement → BlockIfs
with_all bs [] = bs
with_all bs (p ∷ ps) = with_all (with_role bs p.index (role_of p.statement)) ps

-- the block IFs of a unit, which are matched without regard to DOs
abbrev pub block_ifs_of : List Statement → BlockIfs
block_ifs_of unit = with_all (record { unclosed = []; closed = []; stray = [] }) (indexed_statements unit)

-- ---- 307: statements by themselves (11.5 and 11.10)

-- whether a form may not be a terminal statement: unconditional GO TO, arithmetic IF, block IF, ELSE IF, ELSE, END IF, RETURN, STOP, END or
-- DO (11.10)
abbrev pub is_no_terminal : Form → Bool
is_no_terminal (form.GoTo s) = true
is_no_terminal (form.ArithmeticIf t labels) = true
is_no_terminal (form.IfThen t) = true
is_no_terminal (form.ElseIf t) = true
is_no_terminal form.Else = true
is_no_terminal form.EndIf = true
is_no_terminal (form.Do c) = true
is_no_terminal form.Return = true
is_no_terminal form.Stop = true
is_no_terminal form.End = true
is_no_terminal _ = false

abbrev pub is_wrong_terminal : Statement → Bool
is_wrong_terminal s = is_unconditional s && is_no_terminal s.form

-- whether a form may not be within a logical IF: DO, block IF, ELSE IF, ELSE, END IF or END (11.5)
abbrev pub is_not_held : Form → Bool
is_not_held (form.Do c) = true
is_not_held (form.IfThen t) = true
is_not_held (form.ElseIf t) = true
is_not_held form.Else = true
is_not_held form.EndIf = true
is_not_held form.End = true
is_not_held _ = false

abbrev pub holds_wrongly : List Tree → Form → Bool
holds_wrongly [] f = false
holds_wrongly (t ∷ []) f = is_not_held f
holds_wrongly (t ∷ u ∷ ts) f = true

abbrev pub terminal_violations : List Statement → ℕ → ℕ → Option ℕ → Violations
terminal_violations unit line k None = []
terminal_violations unit line k (Some t) =
    when (nat_lt t k) (at_line 307 line) ++ when (is_wrong_terminal (statement_at unit t)) (at_line 307 (line_at unit t))

-- whether a name may be a DO variable: an integer scalar without `$`, and no function (11.10)
abbrev pub is_loop_variable : FunctionTypes → List Statement → Name → Bool
is_loop_variable functions unit x = is_plain_integer_scalar unit x && not (is_function_in functions unit x)

-- for each statement whether its DO variable, where it has one, may be one
abbrev pub has_loop_variable : FunctionTypes → List Statement → Form → Bool
has_loop_variable functions unit (form.Do c) = is_loop_variable functions unit c.variable.name
has_loop_variable functions unit _ = true

abbrev pub loop_variables : FunctionTypes → List Statement → List Bool
loop_variables functions unit = map (λ (s : Statement). has_loop_variable functions unit s.form) unit

abbrev pub loop_violations : FunctionTypes → List Statement → ℕ → ℕ → Form → Violations
loop_violations functions unit line k (form.Do c) =
    when (not (is_loop_variable functions unit c.variable.name)) (at_line 307 line) ++ terminal_violations unit line k (index_labelled unit c.terminal)
loop_violations functions unit line k _ = []

-- the violations of a statement by itself; a DO within a logical IF has no range, and so no terminal statement
abbrev pub statement_violations : FunctionTypes → List Statement → IndexedStatement → Violations
statement_violations functions unit p =
    when (holds_wrongly p.statement.conditions p.statement.form) (at_line 307 p.statement.line)
    ++ (if is_unconditional p.statement then loop_violations functions unit p.statement.line p.index p.statement.form else [])

-- ---- 307: block IFs by themselves (11.6 to 11.9)

abbrev pub block_violations : List Statement → Violations
block_violations unit =
    map (λ k. at_line 307 (line_at unit k)) (block_ifs_of unit).stray
    ++ map (λ (b : BlockIf). at_line 307 (line_at unit b.start)) (block_ifs_of unit).unclosed

-- ---- 307: what isn't nested (11.10.1)

-- whether the second DO begins within the range of the first and ends after it
abbrev pub ranges_cross : DoRange → DoRange → Bool
ranges_cross a b = nat_lt a.start b.start && (nat_le b.start a.terminal && nat_lt a.terminal b.terminal)

-- whether the second DO is in the range of the first and has the same variable
abbrev pub shares_variable : DoRange → DoRange → Bool
shares_variable a b = nat_lt a.start b.start && (nat_le b.start a.terminal && same_name a.variable b.variable)

abbrev pub range_pair : List Statement → DoRange → DoRange → Violations
range_pair unit a b = when (ranges_cross a b || shares_variable a b) (at_line 307 (line_at unit b.start))

abbrev pub is_between : ℕ → ℕ → ℕ → Bool
is_between low high k = nat_lt low k && nat_le k high

abbrev pub ends_after : ℕ → Option ℕ → Bool
ends_after t None = false
ends_after t (Some e) = nat_lt t e

abbrev pub end_between : ℕ → ℕ → Option ℕ → Bool
end_between low high None = false
end_between low high (Some e) = is_between low high e

-- whether a block IF begins within the range of a DO and ends after it
abbrev pub leaves_range : DoRange → BlockIf → Bool
leaves_range r b = is_between r.start r.terminal b.start && ends_after r.terminal b.end

-- whether a DO begins in a block of a block IF and its range doesn't end in that block
abbrev pub leaves_block : DoRange → BlockIf → Bool
leaves_block r b =
    nat_lt b.start r.start && (list_any (is_between r.start r.terminal) b.divisions || end_between r.start r.terminal b.end)

abbrev pub crossing : List Statement → DoRange → BlockIf → Violations
crossing unit r b = when (leaves_range r b) (at_line 307 (line_at unit b.start)) ++ when (leaves_block r b) (at_line 307 (line_at unit r.start))

abbrev pub nesting_violations : List Statement → Violations
nesting_violations unit =
    flat_map (λ (a : DoRange). flat_map (range_pair unit a) (ranges_of unit) ++ flat_map (crossing unit a) (block_ifs_of unit).closed) (ranges_of unit)

abbrev pub structure_violations : FunctionTypes → List Statement → Violations
structure_violations functions unit = flat_map (statement_violations functions unit) (indexed_statements unit) ++ (block_violations unit ++ nesting_violations unit)

-- ---- 308: jumps into DO ranges and IF blocks (11.6.3, 11.7.2, 11.8.2 and 11.10.8)

-- a region: the indices after one statement and before another
pub record Region : Type 0 where
  pub after : ℕ
  pub before : ℕ

abbrev pub range_region : DoRange → Region
range_region r = record { after = r.start; before = suc r.terminal }

-- the blocks of a block IF, from its end to its start
abbrev pub regions_before : ℕ → ℕ → List ℕ → List Region
regions_before start end [] = record { after = start; before = end } ∷ []
regions_before start end (k ∷ ks) = record { after = k; before = end } ∷ regions_before start k ks

-- the blocks up to the last ELSE IF or ELSE, for a block IF without an END IF
abbrev pub regions_to_last : ℕ → List ℕ → List Region
regions_to_last start [] = []
regions_to_last start (k ∷ ks) = regions_before start k ks

abbrev pub block_regions : BlockIf → List Region
block_regions b = by_end b.end where
  by_end : Option ℕ → List Region
  by_end None = regions_to_last b.start b.divisions
  by_end (Some e) = regions_before b.start e b.divisions

abbrev pub regions_of : List Statement → List Region
regions_of unit =
    map range_region (ranges_of unit) ++ (flat_map block_regions (block_ifs_of unit).closed ++ flat_map block_regions (block_ifs_of unit).unclosed)

abbrev pub is_in : Region → ℕ → Bool
is_in r k = nat_lt r.after k && nat_lt k r.before

abbrev pub enters : ℕ → ℕ → Region → Bool
enters k j r = is_in r j && not (is_in r k)

abbrev pub is_division : Role → Bool
is_division alternative = true
is_division otherwise = true
is_division _ = false

abbrev pub is_wrong_jump : List Statement → ℕ → ℕ → Bool
is_wrong_jump unit k j = list_any (enters k j) (regions_of unit) || is_division (role_of (statement_at unit j))

abbrev pub jump_to : List Statement → IndexedStatement → Option ℕ → Violations
jump_to unit p None = []
jump_to unit p (Some j) = when (is_wrong_jump unit p.index j) (at_line 308 p.statement.line)

abbrev pub jump_violations : List Statement → Violations
jump_violations unit =
    flat_map (λ (p : IndexedStatement). flat_map (λ l. jump_to unit p (index_labelled unit l)) (targets_of_jump p.statement.form)) (indexed_statements unit)
