-- What is reported of statements and block IFs by themselves: 307.
use Rattle.std.proofs.Common.{◌≡◌, ℕ, zero, suc, ◌+◌, Bool, true, false, not, ◌||◌, nat_lt, if◌then◌else◌, List, [], ◌∷◌, ◌++◌, map, reverse, slice_get, Option, Some, None, option_to_list, refl, ◌∙◌, sym, ap, arith}
use Rattle.std.specs.List.{flat_map, list_any}
use Rattle.std.proofs.lemmas.List.Folds.{list_any-append}
use Rattle.hep_source.proofs.Tests.{or-assoc}
use Rattle.std.proofs.lemmas.Option.{none-some, same_Some}
use Rattle.hep_machine.specs.Words.{Form, Statement, line_at, statement_at, index_labelled}
use Rattle.hep_source.specs.declared.statement.Form.TheVariants as form
use Rattle.hep_conditions.specs.Words.{IndexedStatement, BlockIf, indexed_from, indexed_statements, is_unconditional, is_wrong_terminal, holds_wrongly, terminal_violations, loop_violations, statement_violations, block_ifs_of, block_violations, nesting_violations, structure_violations, FunctionTypes, is_loop_variable, when, at_line, line_when, loop_variables, has_loop_variable}
use Rattle.hep_control.specs.declared.blocks.BlockIf as code
use Rattle.hep_control.specs.Ranges.{block_if}
use Rattle.hep_control.specs.Structure.{variable_at, statement_line, wrong_terminal_line, terminal_lines, loop_lines, statement_lines, lines_alone, start_line}
use Rattle.hep_control.proofs.Sets.{Told, any-map, any-reverse, grown, line_passes, told-append, told-each, told-when}

-- what the list says of a statement
flag-told : (f : Statement → Bool) (unit : List Statement) (k : ℕ) (s : Statement) → slice_get unit k ≡ Some s → variable_at (map f unit) k ≡ f s
flag-told f [] k s g = absurd (none-some s g)
flag-told f (x ∷ xs) zero s g = ap f (same_Some x s g)
flag-told f (x ∷ xs) (suc k) s g = flag-told f xs k s g

module _ (functions : FunctionTypes) (unit : List Statement) where
  -- the line that a statement tells by itself
  abbrev line_by : IndexedStatement → Option ℕ
  line_by p = statement_line unit (has_loop_variable functions unit p.statement.form) p

-- ---- all lines

module _ (functions : FunctionTypes) (unit : List Statement) where
  -- the lines that a statement tells by itself
  abbrev lines_by : IndexedStatement → List ℕ
  lines_by p = statement_lines unit (has_loop_variable functions unit p.statement.form) p

  lines-listed : (variables : ℕ → Bool) (k : ℕ) (ss : List Statement)
      → ((i : ℕ) (s : Statement) → slice_get ss i ≡ Some s → variables (k + i) ≡ has_loop_variable functions unit s.form)
      → flat_map (λ (p : IndexedStatement). statement_lines unit (variables p.index) p) (indexed_from k ss) ≡ flat_map lines_by (indexed_from k ss)
  lines-listed variables k [] h = refl
  lines-listed variables k (s ∷ ss) h =
      let p : IndexedStatement = record { index = k; statement = s } in
      let at_first : k + 0 ≡ k = omega arith in
      let here : variables k ≡ has_loop_variable functions unit s.form = ap variables (sym at_first) ∙ h 0 s refl in
      let more = lines-listed variables (suc k) ss (λ i w g. ap variables (later i) ∙ h (suc i) w g) in
      (λ j. statement_lines unit (here j) p ++ more j) where
        later : (i : ℕ) → suc k + i ≡ k + suc i
        later i = omega arith

  alone-listed : lines_alone unit (loop_variables functions unit) (indexed_statements unit) ≡ flat_map lines_by (indexed_statements unit)
  alone-listed = lines-listed (variable_at (loop_variables functions unit)) 0 unit told where
    told : (i : ℕ) (s : Statement) → slice_get unit i ≡ Some s → variable_at (loop_variables functions unit) (0 + i) ≡ has_loop_variable functions unit s.form
    told i s g =
        let same : 0 + i ≡ i = omega arith in
        ap (variable_at (loop_variables functions unit)) same ∙ flag-told (λ (w : Statement). has_loop_variable functions unit w.form) unit i s g

  module _ (test : ℕ → Bool) where
    terminal-told : (line k : ℕ) (o : Option ℕ) → Told test (terminal_lines unit line k o) (terminal_violations unit line k o)
    terminal-told line k None = refl
    terminal-told line k (Some t) =
        told-append test (option_to_list (line_when (nat_lt t k) line)) (option_to_list (wrong_terminal_line unit t))
        (when (nat_lt t k) (at_line 307 line)) (when (is_wrong_terminal (statement_at unit t)) (at_line 307 (line_at unit t)))
        (told-when test 307 line (nat_lt t k)) (told-when test 307 (line_at unit t) (is_wrong_terminal (statement_at unit t)))

    loop-told : (line k : ℕ) (f : Form) → Told test (loop_lines unit (has_loop_variable functions unit f) line k f) (loop_violations functions unit line k f)
    loop-told line k (form.Do c) =
        told-append test (option_to_list (line_when (not (is_loop_variable functions unit c.variable.name)) line)) (terminal_lines unit line k (index_labelled unit c.terminal))
        (when (not (is_loop_variable functions unit c.variable.name)) (at_line 307 line)) (terminal_violations unit line k (index_labelled unit c.terminal))
        (told-when test 307 line (not (is_loop_variable functions unit c.variable.name))) (terminal-told line k (index_labelled unit c.terminal))
    loop-told line k _ = refl

    held-told : (b : Bool) (line k : ℕ) (f : Form)
        → Told test (if b then loop_lines unit (has_loop_variable functions unit f) line k f else []) (if b then loop_violations functions unit line k f else [])
    held-told true line k f = loop-told line k f
    held-told false line k f = refl

    statement-told : (p : IndexedStatement) → Told test (lines_by p) (statement_violations functions unit p)
    statement-told p =
        told-append test (option_to_list (line_when (holds_wrongly p.statement.conditions p.statement.form) p.statement.line))
        (if is_unconditional p.statement then loop_lines unit (has_loop_variable functions unit p.statement.form) p.statement.line p.index p.statement.form else [])
        (when (holds_wrongly p.statement.conditions p.statement.form) (at_line 307 p.statement.line))
        (if is_unconditional p.statement then loop_violations functions unit p.statement.line p.index p.statement.form else [])
        (told-when test 307 p.statement.line (holds_wrongly p.statement.conditions p.statement.form))
        (held-told (is_unconditional p.statement) p.statement.line p.index p.statement.form)

    statements-told : Told test (lines_alone unit (loop_variables functions unit) (indexed_statements unit)) (flat_map (statement_violations functions unit) (indexed_statements unit))
    statements-told = ap (list_any test) alone-listed ∙ told-each test lines_by (statement_violations functions unit) statement-told (indexed_statements unit)

    -- the three parts of 307
    pub structure-told : (alone unmatched crossing : List ℕ) → alone ≡ lines_alone unit (loop_variables functions unit) (indexed_statements unit)
        → list_any test unmatched ≡ (list_any test alone || list_any (line_passes test) (block_violations unit))
        → list_any test crossing ≡ (list_any test unmatched || list_any (line_passes test) (nesting_violations unit))
        → Told test crossing (structure_violations functions unit)
    structure-told alone unmatched crossing a u c =
        let statements = flat_map (statement_violations functions unit) (indexed_statements unit) in
        let here : list_any test alone ≡ list_any (line_passes test) statements = ap (list_any test) a ∙ statements-told in
        c
        ∙ (ap (λ b. b || list_any (line_passes test) (nesting_violations unit)) (u ∙ ap (λ b. b || list_any (line_passes test) (block_violations unit)) here)
        ∙ (or-assoc (list_any (line_passes test) statements) (list_any (line_passes test) (block_violations unit)) (list_any (line_passes test) (nesting_violations unit))
        ∙ (ap (λ b. list_any (line_passes test) statements || b) (sym (list_any-append (line_passes test) (block_violations unit) (nesting_violations unit)))
        ∙ sym (list_any-append (line_passes test) statements (block_violations unit ++ nesting_violations unit)))))

module _ (unit : List Statement) (test : ℕ → Bool) where
  stray-told : (stray : List ℕ) → reverse stray ≡ (block_ifs_of unit).stray → Told test (map (line_at unit) stray) (map (λ k. at_line 307 (line_at unit k)) (block_ifs_of unit).stray)
  stray-told stray s =
      let passes : ℕ → Bool = λ k. test (line_at unit k) in
      any-map test (line_at unit) stray
      ∙ (sym (any-reverse passes stray) ∙ (ap (list_any passes) s ∙ sym (any-map (line_passes test) (λ k. at_line 307 (line_at unit k)) (block_ifs_of unit).stray)))

  unclosed-told : (unclosed : List code.BlockIf) → reverse (map block_if unclosed) ≡ (block_ifs_of unit).unclosed
      → Told test (map (start_line unit) unclosed) (map (λ (b : BlockIf). at_line 307 (line_at unit b.start)) (block_ifs_of unit).unclosed)
  unclosed-told unclosed u =
      let passes : BlockIf → Bool = λ b. test (line_at unit b.start) in
      any-map test (start_line unit) unclosed
      ∙ (sym (any-map passes block_if unclosed)
      ∙ (sym (any-reverse passes (map block_if unclosed))
      ∙ (ap (list_any passes) u ∙ sym (any-map (line_passes test) (λ (b : BlockIf). at_line 307 (line_at unit b.start)) (block_ifs_of unit).unclosed))))

  pub unmatched-told : (stray : List ℕ) (unclosed : List code.BlockIf) (old one two : List ℕ) → reverse stray ≡ (block_ifs_of unit).stray → reverse (map block_if unclosed) ≡ (block_ifs_of unit).unclosed
      → one ≡ old ++ map (line_at unit) stray → two ≡ one ++ map (start_line unit) unclosed
      → list_any test two ≡ (list_any test old || list_any (line_passes test) (block_violations unit))
  unmatched-told stray unclosed old one two s u a b =
      let strays = map (λ k. at_line 307 (line_at unit k)) (block_ifs_of unit).stray in
      let opens = map (λ (c : BlockIf). at_line 307 (line_at unit c.start)) (block_ifs_of unit).unclosed in
      grown test one two (map (start_line unit) unclosed) opens b (unclosed-told unclosed u)
      ∙ (ap (λ t. t || list_any (line_passes test) opens) (grown test old one (map (line_at unit) stray) strays a (stray-told stray s))
      ∙ (or-assoc (list_any test old) (list_any (line_passes test) strays) (list_any (line_passes test) opens)
      ∙ ap (λ t. list_any test old || t) (sym (list_any-append (line_passes test) strays opens))))
