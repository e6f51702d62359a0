-- Labels, jumps, DOs and block IFs of accepted programs.
use Rattle.std.proofs.Common.{◌≡◌, ◌⊎◌, ℕ, zero, suc, ◌+◌, ◌<◌, ◌≤◌, Bool, true, false, List, [], ◌∷◌, ◌++◌, map, Option, Some, None, refl, sym, ap, ◌∙◌, subst, true≢false, arith, ◌&&◌, not, slice_get, nat_eq, nat_le, nat_lt, if◌then◌else◌, is_none, option_to_list}
use Rattle.std.specs.List.{flat_map, list_any}
use Rattle.std.specs.Option.{unwrap_or}
use Rattle.std.proofs.lemmas.Bool.{and_parts, or_parts, eqb-true, not-false}
use Rattle.std.proofs.lemmas.Bool.Decides.{nat_tests}
use Rattle.std.proofs.lemmas.Option.{none-some, same_Some}
use Rattle.hep_machine.specs.Words.{Tree, DoControl, Form, Statement, no_statement, same_name, Units, is_executable, line_at, statement_at, has_label, index_labelled, is_labelled, role_of, is_nonempty}
use Rattle.hep_source.specs.declared.statement.Form.TheVariants as form
use Rattle.hep_conditions.specs.Words.{IsAccepted, function_types, is_function_in, is_loop_variable, labels_of, unlabelled, BlockIf, DoRange, IndexedStatement, Region, block_ifs_of, block_violations, crossing, end_between, ends_after, enters, holds_wrongly, indexed_from, indexed_statements, is_between, is_division, is_in, is_no_terminal, is_not_held}
use Rattle.hep_conditions.specs.Words.{is_wrong_terminal, jump_to, leaves_block, leaves_range, loop_violations, nesting_violations, range_pair, ranges_cross, ranges_of, regions_of, shares_variable, statement_violations, terminal_violations, targets_of_jump, terminal_labels, is_plain_integer_scalar, at_line}
use Rattle.hep_conditions.specs.Words.{repeated_by, when}
use Rattle.hep_accepted_laws.specs.Flow.{AreNested, EndsWithin, HasTerminal, HoldsWhole, IsOutside, Leads}
use Rattle.hep_accepted_laws.proofs.Members.{Has, new_uses, one_source}
use Rattle.hep_accepted_laws.proofs.Parts.{and_past, any-each, found_at, none-append, none-each, none-map, none-when, some_value, unviolated}
use Rattle.hep_source.proofs.Tests.{number-self, at-front}
use Rattle.hep_conditions.proofs.Agreeing.{none-when as none-unless}

-- ---- statements by their indexes

indexed_get : (n k m : ℕ) (ss : List Statement) (s : Statement) → m ≡ n + k → slice_get ss k ≡ Some s → slice_get (indexed_from n ss) k ≡ Some (record { index = m; statement = s })
indexed_get n k m [] s e g = absurd (none-some s g)
indexed_get n zero m (t ∷ ts) s e g =
    let same : n ≡ m = omega arith in
    λ i. Some (record { index = same i; statement = same_Some t s g i })
indexed_get n (suc k) m (t ∷ ts) s e g = indexed_get (suc n) k m ts s (omega arith) g

indexed : (unit : List Statement) (k : ℕ) (s : Statement) → slice_get unit k ≡ Some s → slice_get (indexed_statements unit) k ≡ Some (record { index = k; statement = s })
indexed unit k s g = indexed_get 0 k k unit s (omega arith) g

there : (unit : List Statement) (k : ℕ) (s : Statement) → slice_get unit k ≡ Some s → statement_at unit k ≡ s
there unit k s g = ap (λ (o : Option Statement). unwrap_or o no_statement) g

label_is : (l : ℕ) (o : Option ℕ) → has_label l o ≡ true → o ≡ Some l
label_is l None e = absurd (true≢false (sym e))
label_is l (Some k) e = ap (λ n. Some n) (eqb-true k l e)

-- ---- labels

-- a label that a statement goes to is that of an executable statement
labelled : (program : Units) (u k i l : ℕ) (unit : List Statement) (s : Statement) → IsAccepted program → slice_get program u ≡ Some unit → slice_get unit k ≡ Some s → slice_get (targets_of_jump s.form ++ terminal_labels s.form) i ≡ Some l
    → (j : ℕ) × (t : Statement) × (index_labelled unit l ≡ Some j) × (slice_get unit j ≡ Some t) × (is_executable t.form ≡ true) × (t.label ≡ Some l)
labelled program u k i l unit s accepted iu ik il =
    let all = (none-append (unlabelled unit) (repeated_by 306 nat_eq (labels_of unit)) (unviolated program unit u accepted iu).labels).0 in
    let here = none-each (λ (w : Statement). flat_map (λ m. when (is_none (index_labelled unit m)) (at_line 306 w.line)) (targets_of_jump w.form ++ terminal_labels w.form)) unit k s all ik in
    let one = none-each (λ m. when (is_none (index_labelled unit m)) (at_line 306 s.line)) (targets_of_jump s.form ++ terminal_labels s.form) i l here il in
    let found = some_value (index_labelled unit l) (none-when _ (at_line 306 s.line) one) in
    let at = found_at (is_labelled l) unit found.0 found.1 in
    let both = and_parts (is_executable (at.0).form) (has_label l (at.0).label) at.2 in
    (found.0, at.0, found.1, at.1, both.0, label_is l (at.0).label both.1)

abbrev label_uses : Statement → List (ℕ × ℕ)
label_uses s = map (λ l. (l, s.line)) (option_to_list s.label)

label_use : (s : Statement) (l : ℕ) → s.label ≡ Some l → Has (label_uses s) (l, s.line)
label_use s l e = (0, ap (λ (o : Option ℕ). slice_get (map (λ l. (l, s.line)) (option_to_list o)) 0) e)

pub labels_are_unique : (program : Units) (u j k l : ℕ) (unit : List Statement) (s t : Statement) → IsAccepted program → slice_get program u ≡ Some unit → slice_get unit j ≡ Some s → slice_get unit k ≡ Some t → s.label ≡ Some l → t.label ≡ Some l → j ≡ k
labels_are_unique program u j k l unit s t accepted iu ij ik ls lt =
    let none = (none-append (unlabelled unit) (repeated_by 306 nat_eq (labels_of unit)) (unviolated program unit u accepted iu).labels).1 in
    one_source nat_eq (λ (u : ℕ × ℕ). u.0) label_uses unit j k s t (l, s.line) (l, t.line) (new_uses 306 nat_eq [] (labels_of unit) none) (number-self l) (number-self l) ij ik (label_use s l ls) (label_use t l lt)

-- ---- jumps

not_entered : (k j : ℕ) (r : Region) → enters k j r ≡ false → is_in r j ≡ true → is_in r k ≡ true
not_entered k j r e there = not-false (is_in r k) (and_past (is_in r j) (not (is_in r k)) there e)

pub jumps_lead : (program : Units) (u k i l : ℕ) (unit : List Statement) (s : Statement) → IsAccepted program → slice_get program u ≡ Some unit → slice_get unit k ≡ Some s → slice_get (targets_of_jump s.form) i ≡ Some l → Leads unit k l
jumps_lead program u k i l unit s accepted iu ik il =
    let to = labelled program u k i l unit s accepted iu ik (at-front (targets_of_jump s.form) (terminal_labels s.form) i l il) in
    let p : IndexedStatement = record { index = k; statement = s } in
    let here = none-each (λ (q : IndexedStatement). flat_map (λ m. jump_to unit q (index_labelled unit m)) (targets_of_jump q.statement.form)) (indexed_statements unit) k p (unviolated program unit u accepted iu).jumps (indexed unit k s ik) in
    let one = none-each (λ m. jump_to unit p (index_labelled unit m)) (targets_of_jump s.form) i l here il in
    let right : jump_to unit p (Some to.0) ≡ [] = subst (λ o. jump_to unit p o ≡ []) to.2 one in
    let tests = or_parts (list_any (enters k to.0) (regions_of unit)) (is_division (role_of (statement_at unit to.0))) (none-when _ (at_line 308 s.line) right) in
    let division = subst (λ (t : Statement). is_division (role_of t) ≡ false) (there unit to.0 to.1 to.3) tests.1 in
    (to.0, to.1, to.2, to.3, to.4, to.5, division, λ n r g. not_entered k to.0 r (any-each (enters k to.0) (regions_of unit) n r tests.0 g))

-- ---- statements by themselves

by_itself : (program : Units) (u k : ℕ) (unit : List Statement) (s : Statement) → IsAccepted program → slice_get program u ≡ Some unit → slice_get unit k ≡ Some s → statement_violations (function_types program) unit (record { index = k; statement = s }) ≡ []
by_itself program u k unit s accepted iu ik =
    let all = (none-append (flat_map (statement_violations (function_types program) unit) (indexed_statements unit)) (block_violations unit ++ nesting_violations unit) (unviolated program unit u accepted iu).structure).0 in
    none-each (statement_violations (function_types program) unit) (indexed_statements unit) k (record { index = k; statement = s }) all (indexed unit k s ik)

held_rightly : (program : Units) (u k : ℕ) (unit : List Statement) (s : Statement) → IsAccepted program → slice_get program u ≡ Some unit → slice_get unit k ≡ Some s → holds_wrongly s.conditions s.form ≡ false
held_rightly program u k unit s accepted iu ik =
    none-when _ (at_line 307 s.line) (none-append (when (holds_wrongly s.conditions s.form) (at_line 307 s.line)) _ (by_itself program u k unit s accepted iu ik)).0

one_condition : (t : Tree) (ts : List Tree) (f : Form) → holds_wrongly (t ∷ ts) f ≡ false → (ts ≡ []) × (is_not_held f ≡ false)
one_condition t [] f e = (refl, e)
one_condition t (v ∷ vs) f e = absurd (true≢false e)

holds_one : (program : Units) (u k : ℕ) (unit : List Statement) (s : Statement) (t : Tree) (ts : List Tree) → IsAccepted program → slice_get program u ≡ Some unit → slice_get unit k ≡ Some s → s.conditions ≡ t ∷ ts → (ts ≡ []) × (is_not_held s.form ≡ false)
holds_one program u k unit s t ts accepted iu ik e =
    one_condition t ts s.form (subst (λ cs. holds_wrongly cs s.form ≡ false) e (held_rightly program u k unit s accepted iu ik))

pub one_is_held : (program : Units) (u k : ℕ) (unit : List Statement) (s : Statement) (t : Tree) (ts : List Tree) → IsAccepted program → slice_get program u ≡ Some unit → slice_get unit k ≡ Some s → s.conditions ≡ t ∷ ts → ts ≡ []
one_is_held program u k unit s t ts accepted iu ik e = (holds_one program u k unit s t ts accepted iu ik e).0

pub held_is_allowed : (program : Units) (u k : ℕ) (unit : List Statement) (s : Statement) (t : Tree) (ts : List Tree) → IsAccepted program → slice_get program u ≡ Some unit → slice_get unit k ≡ Some s → s.conditions ≡ t ∷ ts → is_not_held s.form ≡ false
held_is_allowed program u k unit s t ts accepted iu ik e = (holds_one program u k unit s t ts accepted iu ik e).1

-- ---- DOs

loop_alone : (program : Units) (u k : ℕ) (unit : List Statement) (s : Statement) (c : DoControl) → IsAccepted program → slice_get program u ≡ Some unit → slice_get unit k ≡ Some s → s.conditions ≡ [] → s.form ≡ form.Do c
    → (is_plain_integer_scalar unit c.variable.name ≡ true) × (terminal_violations unit s.line k (index_labelled unit c.terminal) ≡ [])
loop_alone program u k unit s c accepted iu ik none is =
    let here = (none-append (when (holds_wrongly s.conditions s.form) (at_line 307 s.line)) _ (by_itself program u k unit s accepted iu ik)).1 in
    let alone : loop_violations (function_types program) unit s.line k s.form ≡ [] = subst (λ (cs : List Tree). (if not (is_nonempty cs) then loop_violations (function_types program) unit s.line k s.form else []) ≡ []) none here in
    let loop : loop_violations (function_types program) unit s.line k (form.Do c) ≡ [] = subst (λ f. loop_violations (function_types program) unit s.line k f ≡ []) is alone in
    let parts = none-append (when (not (is_loop_variable (function_types program) unit c.variable.name)) (at_line 307 s.line)) (terminal_violations unit s.line k (index_labelled unit c.terminal)) loop in
    let may_be = and_parts (is_plain_integer_scalar unit c.variable.name) (not (is_function_in (function_types program) unit c.variable.name)) (none-unless _ (at_line 307 s.line) parts.0) in
    (may_be.0, parts.1)

pub loop_variable : (program : Units) (u k : ℕ) (unit : List Statement) (s : Statement) (c : DoControl) → IsAccepted program → slice_get program u ≡ Some unit → slice_get unit k ≡ Some s → s.conditions ≡ [] → s.form ≡ form.Do c → is_plain_integer_scalar unit c.variable.name ≡ true
loop_variable program u k unit s c accepted iu ik none is = (loop_alone program u k unit s c accepted iu ik none is).0

is_no_end : (s : Statement) (c : DoControl) → s.conditions ≡ [] → s.form ≡ form.Do c → is_wrong_terminal s ≡ true
is_no_end s c none is =
    ap (λ (cs : List Tree). not (is_nonempty cs) && is_no_terminal s.form) none ∙ ap is_no_terminal is

not_less : (t k : ℕ) → nat_lt t k ≡ false → (t ≡ k → ⊥) → k < t
not_less t k e f = grind (arith, nat_tests)

pub loop_terminal : (program : Units) (u k : ℕ) (unit : List Statement) (s : Statement) (c : DoControl) → IsAccepted program → slice_get program u ≡ Some unit → slice_get unit k ≡ Some s → s.conditions ≡ [] → s.form ≡ form.Do c → HasTerminal unit k c
loop_terminal program u k unit s c accepted iu ik none is =
    let goes : slice_get (targets_of_jump s.form ++ terminal_labels s.form) 0 ≡ Some c.terminal = ap (λ f. slice_get (targets_of_jump f ++ terminal_labels f) 0) is in
    let to = labelled program u k 0 c.terminal unit s accepted iu ik goes in
    let right : terminal_violations unit s.line k (Some to.0) ≡ [] = subst (λ o. terminal_violations unit s.line k o ≡ []) to.2 (loop_alone program u k unit s c accepted iu ik none is).1 in
    let parts = none-append (when (nat_lt to.0 k) (at_line 307 s.line)) (when (is_wrong_terminal (statement_at unit to.0)) (at_line 307 (line_at unit to.0))) right in
    let end : is_wrong_terminal to.1 ≡ false = subst (λ (t : Statement). is_wrong_terminal t ≡ false) (there unit to.0 to.1 to.3) (none-when _ (at_line 307 (line_at unit to.0)) parts.1) in
    let itself : to.0 ≡ k → ⊥ = λ same. true≢false (sym (is_no_end s c none is) ∙ ap is_wrong_terminal (same_Some s to.1 (sym ik ∙ (ap (slice_get unit) (sym same) ∙ to.3))) ∙ end) in
    (to.0, to.1, to.2, to.3, to.4, not_less to.0 k (none-when _ (at_line 307 s.line) parts.0) itself, end)

-- ---- block IFs

blocks : (program : Units) (u : ℕ) (unit : List Statement) → IsAccepted program → slice_get program u ≡ Some unit → (block_violations unit ≡ []) × (nesting_violations unit ≡ [])
blocks program u unit accepted iu =
    none-append (block_violations unit) (nesting_violations unit) (none-append (flat_map (statement_violations (function_types program) unit) (indexed_statements unit)) (block_violations unit ++ nesting_violations unit) (unviolated program unit u accepted iu).structure).1

pub none_stray : (program : Units) (u : ℕ) (unit : List Statement) → IsAccepted program → slice_get program u ≡ Some unit → (block_ifs_of unit).stray ≡ []
none_stray program u unit accepted iu =
    none-map (λ k. at_line 307 (line_at unit k)) (block_ifs_of unit).stray (none-append (map (λ k. at_line 307 (line_at unit k)) (block_ifs_of unit).stray) _ (blocks program u unit accepted iu).0).0

pub none_unclosed : (program : Units) (u : ℕ) (unit : List Statement) → IsAccepted program → slice_get program u ≡ Some unit → (block_ifs_of unit).unclosed ≡ []
none_unclosed program u unit accepted iu =
    none-map (λ (b : BlockIf). at_line 307 (line_at unit b.start)) (block_ifs_of unit).unclosed (none-append (map (λ k. at_line 307 (line_at unit k)) (block_ifs_of unit).stray) _ (blocks program u unit accepted iu).0).1

-- ---- nesting

of_range : (program : Units) (u i : ℕ) (unit : List Statement) (a : DoRange) → IsAccepted program → slice_get program u ≡ Some unit → slice_get (ranges_of unit) i ≡ Some a
    → (flat_map (range_pair unit a) (ranges_of unit) ≡ []) × (flat_map (crossing unit a) (block_ifs_of unit).closed ≡ [])
of_range program u i unit a accepted iu ia =
    none-append (flat_map (range_pair unit a) (ranges_of unit)) (flat_map (crossing unit a) (block_ifs_of unit).closed) (
    none-each (λ (r : DoRange). flat_map (range_pair unit r) (ranges_of unit) ++ flat_map (crossing unit r) (block_ifs_of unit).closed) (ranges_of unit) i a (blocks program u unit accepted iu).1 ia)

pub ranges_are_nested : (program : Units) (u i j : ℕ) (unit : List Statement) (a b : DoRange) → IsAccepted program → slice_get program u ≡ Some unit → slice_get (ranges_of unit) i ≡ Some a → slice_get (ranges_of unit) j ≡ Some b → AreNested a b
ranges_are_nested program u i j unit a b accepted iu ia ib later within =
    let pair = none-each (range_pair unit a) (ranges_of unit) j b (of_range program u i unit a accepted iu ia).0 ib in
    let tests = or_parts (ranges_cross a b) (shares_variable a b) (none-when _ (at_line 307 (line_at unit b.start)) pair) in
    (ends a.start b.start a.terminal b.terminal tests.0 later within, differ a.start b.start a.terminal (same_name a.variable b.variable) tests.1 later within) where
      ends : (p q t m : ℕ) → (nat_lt p q && (nat_le q t && nat_lt t m)) ≡ false → p < q → q ≤ t → m ≤ t
      ends p q t m e f g = grind (arith, nat_tests)

      differ : (p q t : ℕ) (same : Bool) → (nat_lt p q && (nat_le q t && same)) ≡ false → p < q → q ≤ t → same ≡ false
      differ p q t same e f g = grind (arith, nat_tests)

uncrossed : (program : Units) (u i j : ℕ) (unit : List Statement) (r : DoRange) (b : BlockIf) → IsAccepted program → slice_get program u ≡ Some unit → slice_get (ranges_of unit) i ≡ Some r → slice_get (block_ifs_of unit).closed j ≡ Some b
    → (leaves_range r b ≡ false) × (leaves_block r b ≡ false)
uncrossed program u i j unit r b accepted iu ir ib =
    let here = none-each (crossing unit r) (block_ifs_of unit).closed j b (of_range program u i unit r accepted iu ir).1 ib in
    let parts = none-append (when (leaves_range r b) (at_line 307 (line_at unit b.start))) (when (leaves_block r b) (at_line 307 (line_at unit r.start))) here in
    (none-when _ (at_line 307 (line_at unit b.start)) parts.0, none-when _ (at_line 307 (line_at unit r.start)) parts.1)

pub blocks_end_within : (program : Units) (u i j : ℕ) (unit : List Statement) (r : DoRange) (b : BlockIf) → IsAccepted program → slice_get program u ≡ Some unit → slice_get (ranges_of unit) i ≡ Some r → slice_get (block_ifs_of unit).closed j ≡ Some b → EndsWithin r b
blocks_end_within program u i j unit r b accepted iu ir ib e is later within =
    by_end r.start b.start r.terminal e (subst (λ o. (is_between r.start r.terminal b.start && ends_after r.terminal o) ≡ false) is (uncrossed program u i j unit r b accepted iu ir ib).0) later within where
      by_end : (p q t m : ℕ) → ((nat_lt p q && nat_le q t) && nat_lt t m) ≡ false → p < q → q ≤ t → m ≤ t
      by_end p q t m f g h = grind (arith, nat_tests)

outside : (r : DoRange) (k : ℕ) → is_between r.start r.terminal k ≡ false → IsOutside r k
outside r k e = by_numbers r.start r.terminal k e where
  by_numbers : (p t n : ℕ) → (nat_lt p n && nat_le n t) ≡ false → (n ≤ p) ⊎ (t < n)
  by_numbers p t n f = grind (arith, nat_tests)

pub blocks_hold_whole : (program : Units) (u i j : ℕ) (unit : List Statement) (r : DoRange) (b : BlockIf) → IsAccepted program → slice_get program u ≡ Some unit → slice_get (ranges_of unit) i ≡ Some r → slice_get (block_ifs_of unit).closed j ≡ Some b → HoldsWhole r b
blocks_hold_whole program u i j unit r b accepted iu ir ib before =
    let tests = or_parts (list_any (is_between r.start r.terminal) b.divisions) (end_between r.start r.terminal b.end) (
    and_past (nat_lt b.start r.start) _ (less b.start r.start before) (uncrossed program u i j unit r b accepted iu ir ib).1) in
    (λ n m g. outside r m (any-each (is_between r.start r.terminal) b.divisions n m tests.0 g), λ e is. outside r e (subst (λ o. end_between r.start r.terminal o ≡ false) is tests.1)) where
      less : (p q : ℕ) → p < q → nat_lt p q ≡ true
      less p q l = grind (arith, nat_tests)
