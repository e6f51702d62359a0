-- The violations of 305 to 309 and 311 have their numbers, no names, and lines of statements.
use Rattle.std.proofs.Common.{◌≡◌, ℕ, suc, ◌+◌, ◌<◌, Bool, true, false, not, ◌||◌, nat_eq, nat_lt, max, if◌then◌else◌, List, [], ◌∷◌, ◌++◌, length, map, Option, Some, None, refl, sym, ap, subst, ◌∙◌, ⊎_elim, is_none, option_to_list, arith}
use Rattle.std.specs.List.{Contains, flat_map, list_any}
use Rattle.std.proofs.lemmas.Bool.{cases_lt, eqb-true}
use Rattle.std.proofs.lemmas.List.Elements.{Contains-append_cases, Contains-get_or}
use Rattle.std.proofs.lemmas.Option.{none-some, same_Some, unwrap_or-slice_get}
use Rattle.hep_source.specs.declared.statement.Form.TheVariants as form
use Rattle.hep_machine.specs.Words.{BlockName, Constants, Form, Name, Role, Statement, Stretch, Units, alternative, blocks_of, closes, constants_in, function_named, given_by, groups_in, index_labelled, is_external, is_labelled, line_at, opens, other, otherwise, role_of, same_name, statement_at, no_statement}
use Rattle.hep_conditions.specs.Common as common
use Rattle.hep_conditions.specs.declared.violation.Violation.{Violation}
use Rattle.hep_conditions.specs.Nesting.{BlockIfs, indexed_from, range_by, range_to, with_all, with_division, with_end_if, with_role}
use Rattle.hep_conditions.specs.Words.{BlockIf, DoRange, FunctionTypes, IndexedStatement, Use, Violations, ambiguous_in, ambiguous_units, at_line, block_ifs_of, block_violations, both_ways, common_violations, crossing, data_violations, elements_in, function_types, given_twice_from, holds_wrongly, indexed_statements, is_given_twice, is_loop_variable, is_misplaced, is_unconditional, is_wrong_group, is_wrong_jump, is_wrong_terminal, jump_to, jump_violations, label_violations, labels_of, leaves_block, leaves_range, loop_violations, misnamed, name_violations, nesting_violations, range_pair, ranges_cross, ranges_of, repeated, repeated_after, repeated_by, result_names, shares_variable, statement_violations, structure_violations, targets_of_jump, terminal_labels, terminal_violations, unlabelled, uses_by, when, wrong_groups_from}
use Rattle.hep_conditions.specs.Names as names
use Rattle.hep_check.specs.AllViolations.{has_line}
use Rattle.hep_check.proofs.Members.{Within, any-within, contains-here, contains-more, contains-one, flat-within, none-contained}
use Rattle.hep_source.proofs.Tests.{index-below}

-- a statement of the unit, or of a unit of the program, is at this line
abbrev pub IsLineIn : List Statement → ℕ → Type 0
IsLineIn unit line = (s : Statement) × Contains unit s × (s.line ≡ line)

abbrev pub IsLineOf : Units → ℕ → Type 0
IsLineOf program line = (unit : List Statement) × Contains program unit × IsLineIn unit line

-- each of these is by a statement, with this number, at such a line
abbrev pub Plain : (ℕ → Type 0) → ℕ → Violations → Type 0
Plain Stands n vs = (v : Violation) → Contains vs v → (v ≡ at_line n v.line) × Stands v.line

plain-widened : (S T : ℕ → Type 0) (n : ℕ) (vs : Violations) → ((line : ℕ) → S line → T line) → Plain S n vs → Plain T n vs
plain-widened S T n vs wide h v c = let p = h v c in (p.0, wide v.line p.1)

module _ (S : ℕ → Type 0) (n : ℕ) where
  plain-none : Plain S n []
  plain-none v h = none-contained v h

  plain-one : (line : ℕ) → S line → Plain S n (at_line n line ∷ [])
  plain-one line stands v h =
      let e = contains-one (at_line n line) v h in
      let at : v.line ≡ line = ap (λ (w : Violation). w.line) e in
      (e ∙ ap (at_line n) (sym at), subst S (sym at) stands)

  plain-when : (line : ℕ) (b : Bool) → S line → Plain S n (when b (at_line n line))
  plain-when line true stands = plain-one line stands
  plain-when line false stands = plain-none

  plain-append : (vs ws : Violations) → Plain S n vs → Plain S n ws → Plain S n (vs ++ ws)
  plain-append vs ws h k v c = ⊎_elim (h v) (k v) (Contains-append_cases vs ws v c)

  plain-flat : {A : Type 0} (f : A → Violations) (xs : List A) → ((x : A) → Contains xs x → Plain S n (f x)) → Plain S n (flat_map f xs)
  plain-flat f xs h v c = flat-within f xs v (λ x m here. h x m v here) c

  plain-map : {A : Type 0} (line : A → ℕ) (xs : List A) → ((x : A) → Contains xs x → S (line x))
      → Plain S n (map (λ x. at_line n (line x)) xs)
  plain-map line [] h = plain-none
  plain-map line (x ∷ xs) h =
      plain-append (at_line n (line x) ∷ []) (map (λ y. at_line n (line y)) xs) (plain-one (line x) (h x (contains-here x xs)))
      (plain-map line xs (λ y m. h y (contains-more y x xs m)))

  plain-repeated : {A : Type 0} (agrees : A → A → Bool) (before : List A) (us : List (A × ℕ)) → ((u : A × ℕ) → Contains us u → S u.1)
      → Plain S n (repeated_after n agrees before us)
  plain-repeated agrees before [] h = plain-none
  plain-repeated agrees before (u ∷ us) h =
      plain-append (when (list_any (agrees u.0) before) (at_line n u.1)) (repeated_after n agrees (u.0 ∷ before) us)
      (plain-when u.1 (list_any (agrees u.0) before) (h u (contains-here u us)))
      (plain-repeated agrees (u.0 ∷ before) us (λ w m. h w (contains-more w u us m)))

-- at a line that has one of these
pub plain-there : (S : ℕ → Type 0) (n : ℕ) (vs : Violations) (line : ℕ) → Plain S n vs → has_line vs line ≡ true
    → Contains vs (at_line n line)
plain-there S n vs line p h =
    any-within (λ (v : Violation). nat_eq v.line line) vs h
    (λ v c e. subst (Contains vs) ((p v c).0 ∙ ap (at_line n) (eqb-true v.line line e)) c)

-- ---- lines of statements

here-in : (unit : List Statement) (s : Statement) → Contains unit s → IsLineIn unit s.line
here-in unit s m = (s, m, refl)

-- what is found in each statement, with its line
with-line : {A : Type 0} (line : ℕ) (xs : List A) (u : A × ℕ) → Contains (map (λ x. (x, line)) xs) u → u.1 ≡ line
with-line line [] u h = none-contained u h
with-line line (x ∷ xs) u h =
    ⊎_elim (λ one. ap (λ z. z.1) (contains-one (x, line) u one)) (λ more. with-line line xs u more)
    (Contains-append_cases ((x, line) ∷ []) (map (λ y. (y, line)) xs) u h)

line-found : {A : Type 0} (f : Statement → List A) (unit : List Statement) (u : A × ℕ)
    → Contains (flat_map (λ (s : Statement). map (λ x. (x, s.line)) (f s)) unit) u → IsLineIn unit u.1
line-found f unit u h =
    flat-within (λ (s : Statement). map (λ x. (x, s.line)) (f s)) unit u (λ s m c. (s, m, sym (with-line s.line (f s) u c))) h

-- the statement at an index
line-there : (unit : List Statement) (k : ℕ) → k < length unit → IsLineIn unit (line_at unit k)
line-there unit k below = (
  statement_at unit k,
  subst (Contains unit) (sym (unwrap_or-slice_get unit k no_statement))
      (Contains-get_or unit k no_statement below),
  refl,
)

indexed-there : (k : ℕ) (ss : List Statement) (p : IndexedStatement) → Contains (indexed_from k ss) p
    → Contains ss p.statement × (p.index < k + length ss)
indexed-there k [] p h = none-contained p h
indexed-there k (s ∷ ss) p h =
    let first : IndexedStatement = record { index = k; statement = s } in
    ⊎_elim
    (λ one. let e = contains-one first p one in (
      subst (Contains (s ∷ ss)) (sym (ap (λ (q : IndexedStatement). q.statement) e)) (contains-here s ss),
      omega (arith, ap (λ (q : IndexedStatement). q.index) e),
    ))
    (λ more. let t = indexed-there (suc k) ss p more in (contains-more p.statement s ss t.0, omega (arith, t.1)))
    (Contains-append_cases (first ∷ []) (indexed_from (suc k) ss) p h)

-- ---- 305

-- what two units have in a block, by the lines at which they name it last
differing_lines : (b : BlockName) (unit later : List Statement) → Option ℕ → Option ℕ → Violations
differing_lines b unit later (Some k) (Some line) = when (not (common.same_contents b (common.positions_of_block unit b) (common.positions_of_block later b))) (at_line 305 line)
differing_lines b unit later (Some k) None = []
differing_lines b unit later None l = []

differs-by-lines : (b : BlockName) (unit later : List Statement)
    → common.block_differs b unit later ≡ differing_lines b unit later (common.last_line b unit) (common.last_line b later)
unfolding differing_lines
differs-by-lines b unit later = by (common.last_line b unit) (common.last_line b later) refl refl
  where
    by : (k l : Option ℕ) → common.last_line b unit ≡ k → common.last_line b later ≡ l → common.block_differs b unit later ≡ differing_lines b unit later (common.last_line b unit) (common.last_line b later)
    by None l e f = rw e refl
    by (Some k) None e f = rw (e, f) refl
    by (Some k) (Some line) e f = rw (e, f) refl

-- a unit names a block last at one of its statements
last-there : (b : BlockName) (ss : List Statement) (line : ℕ) → common.last_line b ss ≡ Some line → IsLineIn ss line
last-there b [] line h = absurd (none-some line h)
last-there b (s ∷ ss) line h = by (common.last_line b ss) refl (λ l e. last-there b ss l e)
  where
    this : (t : Bool) → (if t then Some s.line else None) ≡ Some line → IsLineIn (s ∷ ss) line
    this true e = (s, contains-here s ss, same_Some s.line line e)
    this false e = absurd (none-some line e)

    by : (o : Option ℕ) → common.last_line b ss ≡ o → ((l : ℕ) → common.last_line b ss ≡ Some l → IsLineIn ss l) → IsLineIn (s ∷ ss) line
    by None e k =
        let here : common.last_line b (s ∷ ss) ≡ (if common.names_block b s then Some s.line else None) = rw e refl in
        this (common.names_block b s) (sym here ∙ h)
    by (Some l) e k =
        let here : common.last_line b (s ∷ ss) ≡ Some l = rw e refl in
        let found = k l e in
        (found.0, contains-more found.0 s ss found.1, found.2 ∙ same_Some l line (sym here ∙ h))

module _ (program : Units) where
  plain-lines : (b : BlockName) (unit later : List Statement) → Contains program later → (k l : Option ℕ) → common.last_line b later ≡ l
      → Plain (IsLineOf program) 305 (differing_lines b unit later k l)
  unfolding differing_lines
  plain-lines b unit later there (Some k) (Some line) e =
      plain-when (IsLineOf program) 305 line
      (not (common.same_contents b (common.positions_of_block unit b) (common.positions_of_block later b)))
      (later, there, last-there b later line e)
  plain-lines b unit later there (Some k) None e = plain-none (IsLineOf program) 305
  plain-lines b unit later there None l e = plain-none (IsLineOf program) 305

  plain-differs : (b : BlockName) (unit later : List Statement) → Contains program later
      → Plain (IsLineOf program) 305 (common.block_differs b unit later)
  plain-differs b unit later there =
      subst (Plain (IsLineOf program) 305) (sym (differs-by-lines b unit later))
      (plain-lines b unit later there (common.last_line b unit) (common.last_line b later) refl)

  plain-differing : (bs : List BlockName) (us : Units) → Within us program → Plain (IsLineOf program) 305 (common.differing bs us)
  plain-differing bs [] h = plain-none (IsLineOf program) 305
  plain-differing bs (u ∷ us) h =
      plain-append (IsLineOf program) 305 (flat_map (common.blocks_differ bs u) us) (common.differing bs us)
      (plain-flat (IsLineOf program) 305 (common.blocks_differ bs u) us
      (λ w m. plain-flat (IsLineOf program) 305 (λ b. common.block_differs b u w) bs
      (λ b c. plain-differs b u w (h w (contains-more w u us m)))))
      (plain-differing bs us (λ w m. h w (contains-more w u us m)))

  pub plain-common : Plain (IsLineOf program) 305 (common_violations program)
  plain-common = plain-differing (blocks_of program) program (λ w m. m)

-- ---- 306

pub plain-labels : (unit : List Statement) → Plain (IsLineIn unit) 306 (label_violations unit)
plain-labels unit =
    plain-append (IsLineIn unit) 306 (unlabelled unit) (repeated_by 306 nat_eq (labels_of unit))
    (plain-flat (IsLineIn unit) 306
    (λ (s : Statement). flat_map (λ l. when (is_none (index_labelled unit l)) (at_line 306 s.line))
    (targets_of_jump s.form ++ terminal_labels s.form)) unit
    (λ (s : Statement) m. plain-flat (IsLineIn unit) 306 (λ l. when (is_none (index_labelled unit l)) (at_line 306 s.line))
    (targets_of_jump s.form ++ terminal_labels s.form)
    (λ l c. plain-when (IsLineIn unit) 306 s.line (is_none (index_labelled unit l)) (here-in unit s m))))
    (plain-repeated (IsLineIn unit) 306 nat_eq [] (labels_of unit) (λ u m. line-found (λ (s : Statement). option_to_list s.label) unit u m))

-- ---- 307

-- what is read of block IFs has indexes of statements
record AreBelow (n : ℕ) (bs : BlockIfs) : Type 0 where
  unclosed : (b : BlockIf) → Contains bs.unclosed b → b.start < n
  closed : (b : BlockIf) → Contains bs.closed b → b.start < n
  stray : (k : ℕ) → Contains bs.stray k → k < n

with-one : {A : Type 0} (P : A → Type 0) (x : A) (xs : List A) → P x → ((y : A) → Contains xs y → P y) → (y : A) → Contains (x ∷ xs) y → P y
with-one P x xs p h y c = ⊎_elim (λ one. subst P (sym (contains-one x y one)) p) (λ more. h y more) (Contains-append_cases (x ∷ []) xs y c)

module _ (n : ℕ) where
  stray-below : (bs : BlockIfs) (k : ℕ) → k < n → AreBelow n bs → AreBelow n (record bs { stray = k ∷ bs.stray })
  stray-below bs k below h = record { unclosed = h.unclosed; closed = h.closed; stray = with-one (λ j. j < n) k bs.stray below h.stray }

  division-below : (bs : BlockIfs) (k : ℕ) (is_else : Bool) (begun : List BlockIf) → k < n
      → ((b : BlockIf) → Contains begun b → b.start < n) → AreBelow n bs
      → AreBelow n (with_division bs k is_else begun)
  division-below bs k is_else [] below o h = stray-below bs k below h
  division-below bs k is_else (b ∷ more) below o h = by b.has_else
    where
      by : (t : Bool) → AreBelow n (
          if t then record bs { stray = k ∷ bs.stray }
          else record bs { unclosed = record b { divisions = k ∷ b.divisions; has_else = is_else } ∷ more })
      by true = stray-below bs k below h
      by false = record {
        unclosed = with-one (λ (c : BlockIf). c.start < n) (record b { divisions = k ∷ b.divisions; has_else = is_else }) more
            (o b (contains-here b more))
            (λ c m. o c (contains-more c b more m));
        closed = h.closed;
        stray = h.stray;
      }

  end-below : (bs : BlockIfs) (k : ℕ) (begun : List BlockIf) → k < n → ((b : BlockIf) → Contains begun b → b.start < n) → AreBelow n bs
      → AreBelow n (with_end_if bs k begun)
  end-below bs k [] below o h = stray-below bs k below h
  end-below bs k (b ∷ more) below o h = record {
    unclosed = λ c m. o c (contains-more c b more m);
    closed = with-one (λ (c : BlockIf). c.start < n) (record b { end = Some k }) bs.closed (o b (contains-here b more)) h.closed;
    stray = h.stray;
  }

  role-below : (bs : BlockIfs) (k : ℕ) (r : Role) → k < n → AreBelow n bs → AreBelow n (with_role bs k r)
  role-below bs k opens below h = record {
    unclosed = with-one (λ (c : BlockIf). c.start < n)
        (record { start = k; divisions = []; has_else = false; end = None }) bs.unclosed below h.unclosed;
    closed = h.closed;
    stray = h.stray;
  }
  role-below bs k alternative below h = division-below bs k false bs.unclosed below h.unclosed h
  role-below bs k otherwise below h = division-below bs k true bs.unclosed below h.unclosed h
  role-below bs k closes below h = end-below bs k bs.unclosed below h.unclosed h
  role-below bs k other below h = h

  all-below : (bs : BlockIfs) (ps : List IndexedStatement) → ((p : IndexedStatement) → Contains ps p → p.index < n) → AreBelow n bs
      → AreBelow n (with_all bs ps)
  all-below bs [] i h = h
  all-below bs (p ∷ ps) i h =
      all-below (with_role bs p.index (role_of p.statement)) ps (λ q m. i q (contains-more q p ps m))
      (role-below bs p.index (role_of p.statement) (i p (contains-here p ps)) h)

module _ (unit : List Statement) where
  statement-in : (p : IndexedStatement) → Contains (indexed_statements unit) p → IsLineIn unit p.statement.line
  statement-in p m = here-in unit p.statement (indexed-there 0 unit p m).0

  indexed-below : (p : IndexedStatement) → Contains (indexed_statements unit) p → p.index < length unit
  indexed-below p m = omega (arith, (indexed-there 0 unit p m).1)

  blocks-below : AreBelow (length unit) (block_ifs_of unit)
  blocks-below =
      all-below (length unit) (record { unclosed = []; closed = []; stray = [] }) (indexed_statements unit) indexed-below
      (record { unclosed = λ b m. none-contained b m; closed = λ b m. none-contained b m; stray = λ k m. none-contained k m })

  range-to-below : (k : ℕ) (x : Name) (o : Option ℕ) → k < length unit → (r : DoRange) → Contains (range_to k x o) r → r.start < length unit
  range-to-below k x None below r m = none-contained r m
  range-to-below k x (Some t) below r m = by (nat_lt k t) m
    where
      by : (b : Bool) → Contains (if b then record { start = k; terminal = t; variable = x } ∷ [] else []) r → r.start < length unit
      by true c = omega (arith, below, ap (λ (q : DoRange). q.start) (contains-one (record { start = k; terminal = t; variable = x }) r c))
      by false c = none-contained r c

  range-below : (k : ℕ) (f : Form) → k < length unit → (r : DoRange) → Contains (range_by unit k f) r → r.start < length unit
  range-below k (form.Do c) below r m = range-to-below k c.variable.name (index_labelled unit c.terminal) below r m
  range-below k _ below r m = none-contained r m

  ranges-below : (r : DoRange) → Contains (ranges_of unit) r → r.start < length unit
  ranges-below r h =
      flat-within (λ (p : IndexedStatement). if is_unconditional p.statement then range_by unit p.index p.statement.form else [])
      (indexed_statements unit) r
      (λ p m c. by p m (is_unconditional p.statement) c) h
    where
      by : (p : IndexedStatement) → Contains (indexed_statements unit) p → (b : Bool)
          → Contains (if b then range_by unit p.index p.statement.form else []) r → r.start < length unit
      by p m true c = range-below p.index p.statement.form (indexed-below p m) r c
      by p m false c = none-contained r c

module _ (functions : FunctionTypes) (unit : List Statement) where
  abbrev S : ℕ → Type 0
  S = IsLineIn unit

  plain-terminal : (line k : ℕ) (o : Option ℕ) → S line → ((t : ℕ) → o ≡ Some t → t < length unit)
      → Plain S 307 (terminal_violations unit line k o)
  plain-terminal line k None stands below = plain-none S 307
  plain-terminal line k (Some t) stands below =
      plain-append S 307 (when (nat_lt t k) (at_line 307 line))
      (when (is_wrong_terminal (statement_at unit t)) (at_line 307 (line_at unit t)))
      (plain-when S 307 line (nat_lt t k) stands)
      (plain-when S 307 (line_at unit t) (is_wrong_terminal (statement_at unit t)) (line-there unit t (below t refl)))

  plain-loop : (line k : ℕ) (f : Form) → S line → Plain S 307 (loop_violations functions unit line k f)
  plain-loop line k (form.Do c) stands =
      plain-append S 307 (when (not (is_loop_variable functions unit c.variable.name)) (at_line 307 line))
      (terminal_violations unit line k (index_labelled unit c.terminal))
      (plain-when S 307 line (not (is_loop_variable functions unit c.variable.name)) stands)
      (plain-terminal line k (index_labelled unit c.terminal) stands (λ t e. index-below (is_labelled c.terminal) unit t e))
  plain-loop line k _ stands = plain-none S 307

  plain-held : (b : Bool) (line k : ℕ) (f : Form) → S line → Plain S 307 (if b then loop_violations functions unit line k f else [])
  plain-held true line k f stands = plain-loop line k f stands
  plain-held false line k f stands = plain-none S 307

  plain-statement : (p : IndexedStatement) → S p.statement.line → Plain S 307 (statement_violations functions unit p)
  plain-statement p stands =
      plain-append S 307 (when (holds_wrongly p.statement.conditions p.statement.form) (at_line 307 p.statement.line))
      (if is_unconditional p.statement then loop_violations functions unit p.statement.line p.index p.statement.form else [])
      (plain-when S 307 p.statement.line (holds_wrongly p.statement.conditions p.statement.form) stands)
      (plain-held (is_unconditional p.statement) p.statement.line p.index p.statement.form stands)

  plain-blocks : Plain S 307 (block_violations unit)
  plain-blocks =
      plain-append S 307 (map (λ k. at_line 307 (line_at unit k)) (block_ifs_of unit).stray)
      (map (λ (b : BlockIf). at_line 307 (line_at unit b.start)) (block_ifs_of unit).unclosed)
      (plain-map S 307 (λ k. line_at unit k) (block_ifs_of unit).stray (λ k m. line-there unit k ((blocks-below unit).stray k m)))
      (plain-map S 307 (λ (b : BlockIf). line_at unit b.start) (block_ifs_of unit).unclosed
      (λ b m. line-there unit b.start ((blocks-below unit).unclosed b m)))

  plain-crossing : (a : DoRange) (b : BlockIf) → a.start < length unit → b.start < length unit → Plain S 307 (crossing unit a b)
  plain-crossing a b first second =
      plain-append S 307 (when (leaves_range a b) (at_line 307 (line_at unit b.start)))
      (when (leaves_block a b) (at_line 307 (line_at unit a.start)))
      (plain-when S 307 (line_at unit b.start) (leaves_range a b) (line-there unit b.start second))
      (plain-when S 307 (line_at unit a.start) (leaves_block a b) (line-there unit a.start first))

  plain-nesting : Plain S 307 (nesting_violations unit)
  plain-nesting =
      plain-flat S 307 (λ (a : DoRange). flat_map (range_pair unit a) (ranges_of unit) ++ flat_map (crossing unit a)
      (block_ifs_of unit).closed) (ranges_of unit)
      (λ a m. plain-append S 307 (flat_map (range_pair unit a) (ranges_of unit)) (flat_map (crossing unit a) (block_ifs_of unit).closed)
      (plain-flat S 307 (range_pair unit a) (ranges_of unit)
      (λ b c. plain-when S 307 (line_at unit b.start) (ranges_cross a b || shares_variable a b)
      (line-there unit b.start (ranges-below unit b c))))
      (plain-flat S 307 (crossing unit a) (block_ifs_of unit).closed
      (λ b c. plain-crossing a b (ranges-below unit a m) ((blocks-below unit).closed b c))))

  pub plain-structure : Plain S 307 (structure_violations functions unit)
  plain-structure =
      plain-append S 307 (flat_map (statement_violations functions unit) (indexed_statements unit))
      (block_violations unit ++ nesting_violations unit)
      (plain-flat S 307 (statement_violations functions unit) (indexed_statements unit) (λ p m. plain-statement p (statement-in unit p m)))
      (plain-append S 307 (block_violations unit) (nesting_violations unit) plain-blocks plain-nesting)

-- ---- 308

plain-jump : (unit : List Statement) (p : IndexedStatement) (o : Option ℕ) → IsLineIn unit p.statement.line
    → Plain (IsLineIn unit) 308 (jump_to unit p o)
plain-jump unit p None stands = plain-none (IsLineIn unit) 308
plain-jump unit p (Some j) stands = plain-when (IsLineIn unit) 308 p.statement.line (is_wrong_jump unit p.index j) stands

pub plain-jumps : (unit : List Statement) → Plain (IsLineIn unit) 308 (jump_violations unit)
plain-jumps unit =
    plain-flat (IsLineIn unit) 308
    (λ (p : IndexedStatement). flat_map (λ l. jump_to unit p (index_labelled unit l)) (targets_of_jump p.statement.form))
    (indexed_statements unit)
    (λ (p : IndexedStatement) m. plain-flat (IsLineIn unit) 308 (λ l. jump_to unit p (index_labelled unit l))
    (targets_of_jump p.statement.form)
    (λ l c. plain-jump unit p (index_labelled unit l) (statement-in unit p m)))

-- ---- 309

-- of two lines one is the later one
later-line : (S : ℕ → Type 0) (k l : ℕ) → S k → S l → S (max k l)
later-line S k l p q =
    ⊎_elim (λ less. let e : max k l ≡ l = omega (arith, less) in subst S (sym e) q)
    (λ more. let e : max k l ≡ k = omega (arith, more) in subst S (sym e) p) (cases_lt k l)

-- each of these uses is at such a line
abbrev AreAt : (ℕ → Type 0) → List Use → Type 0
AreAt S us = (u : Use) → Contains us u → S u.1

plain-both : (S : ℕ → Type 0) (us ws : List Use) → AreAt S us → AreAt S ws → Plain S 309 (both_ways us ws)
plain-both S us ws h k =
    plain-flat S 309 (λ (u : Use). flat_map (λ (w : Use). when (same_name u.0 w.0) (at_line 309 (max u.1 w.1))) ws) us
    (λ (u : Use) m. plain-flat S 309 (λ (w : Use). when (same_name u.0 w.0) (at_line 309 (max u.1 w.1))) ws
    (λ (w : Use) c. plain-when S 309 (max u.1 w.1) (same_name u.0 w.0) (later-line S u.1 w.1 (h u m) (k w c))))

plain-uses : (S : ℕ → Type 0) (us : List Use) → AreAt S us → Plain S 309 (repeated us)
plain-uses S us h = plain-repeated S 309 same_name [] us h

uses-in : (f : Statement → List Name) (unit : List Statement) → AreAt (IsLineIn unit) (uses_by f unit)
uses-in f unit u h = line-found f unit u h

-- those of all units
uses-of : (f : Statement → List Name) (program : Units) → AreAt (IsLineOf program) (flat_map (uses_by f) program)
uses-of f program u h = flat-within (uses_by f) program u (λ unit m c. (unit, m, uses-in f unit u c)) h

module _ (functions : FunctionTypes) (unit : List Statement) where
  plain-misnamed : Plain (IsLineIn unit) 309 (misnamed unit)
  plain-misnamed =
      plain-flat (IsLineIn unit) 309
      (λ (s : Statement). flat_map (λ (x : Name). when (not (is_external (function_named x))) (at_line 309 s.line))
      (result_names s)) unit
      (λ (s : Statement) m. plain-flat (IsLineIn unit) 309
      (λ (x : Name). when (not (is_external (function_named x))) (at_line 309 s.line)) (result_names s)
      (λ x c. plain-when (IsLineIn unit) 309 s.line (not (is_external (function_named x))) (here-in unit s m)))

  plain-used : (one more : Statement → List Name) → Plain (IsLineIn unit) 309 (names.used_both_ways unit one more)
  plain-used one more = plain-both (IsLineIn unit) (uses_by one unit) (uses_by more unit) (uses-in one unit) (uses-in more unit)

  plain-ways : (one : Statement → List Name) (others : List (Statement → List Name))
      → Plain (IsLineIn unit) 309 (flat_map (names.used_both_ways unit one) others)
  plain-ways one others = plain-flat (IsLineIn unit) 309 (names.used_both_ways unit one) others (λ more m. plain-used one more)

  plain-unit : Plain (IsLineIn unit) 309 (ambiguous_in functions unit)
  plain-unit =
      plain-append (IsLineIn unit) 309 (names.letters_repeated unit) _
      (plain-repeated (IsLineIn unit) 309 names.overlap [] (names.letter_ranges_of unit)
      (λ u m. line-found (λ (s : Statement). names.letter_ranges_in s.form) unit u m))
      (plain-append (IsLineIn unit) 309 (names.given_twice unit) _
      (plain-flat (IsLineIn unit) 309 (λ (xs : Statement → List Name). repeated (uses_by xs unit))
      (names.dummy_names ∷ names.typed_names ∷ names.bounded_names ∷ names.common_names ∷ names.constant_names ∷ [])
      (λ xs m. plain-uses (IsLineIn unit) (uses_by xs unit) (uses-in xs unit)))
      (plain-append (IsLineIn unit) 309 (names.used_both_ways unit names.dummy_names names.common_names) _
      (plain-used names.dummy_names names.common_names)
      (plain-append (IsLineIn unit) 309 (names.misused_constants unit) _
      (plain-ways names.constant_names
      (names.dummy_names ∷ names.bounded_names ∷ names.common_names ∷ names.data_names ∷ names.assigned_names ∷ names.called_names ∷ []))
      (plain-append (IsLineIn unit) 309 (names.misused_results unit) _
      (plain-ways names.result_names (names.dummy_names ∷ names.bounded_names ∷ names.common_names ∷ names.constant_names ∷ []))
      (plain-append (IsLineIn unit) 309 (misnamed unit) _ plain-misnamed
      (plain-append (IsLineIn unit) 309 (names.used_both_ways unit names.called_names (names.variable_names functions unit)) _
      (plain-used names.called_names (names.variable_names functions unit))
      (plain-used (names.function_names functions unit) (names.function_names_alone functions unit))))))))

pub plain-names : (program : Units) → Plain (IsLineOf program) 309 (name_violations program)
plain-names program =
    let functions = function_types program in
    let headers = λ (s : Statement). names.header_name s.form in
    let units = flat_map names.unit_uses program in
    let blocks = flat_map (uses_by names.block_names) program in
    plain-append (IsLineOf program) 309 (ambiguous_units program) (flat_map (ambiguous_in functions) program)
    (plain-append (IsLineOf program) 309 (repeated units) (both_ways units blocks)
    (plain-uses (IsLineOf program) units (uses-of headers program))
    (plain-both (IsLineOf program) units blocks (uses-of headers program) (uses-of names.block_names program)))
    (plain-flat (IsLineOf program) 309 (ambiguous_in functions) program
    (λ unit m. plain-widened (IsLineIn unit) (IsLineOf program) 309 (ambiguous_in functions unit) (λ line stands. (unit, m, stands))
    (plain-unit functions unit)))

-- ---- 311

module _ (unit : List Statement) where
  plain-groups : (known : Constants) (ss : List Statement) → Within ss unit → Plain (IsLineIn unit) 311 (wrong_groups_from unit known ss)
  plain-groups known [] h = plain-none (IsLineIn unit) 311
  plain-groups known (s ∷ ss) h =
      plain-append (IsLineIn unit) 311
      (when (is_misplaced unit s || list_any (is_wrong_group unit known) (groups_in s.form)) (at_line 311 s.line))
      (wrong_groups_from unit (given_by unit known (constants_in s.form)) ss)
      (plain-when (IsLineIn unit) 311 s.line (is_misplaced unit s || list_any (is_wrong_group unit known) (groups_in s.form))
      (here-in unit s (h s (contains-here s ss))))
      (plain-groups (given_by unit known (constants_in s.form)) ss (λ t m. h t (contains-more t s ss m)))

  plain-twice : (known : Constants) (given : List Stretch) (ss : List Statement) → Within ss unit
      → Plain (IsLineIn unit) 311 (given_twice_from unit known given ss)
  plain-twice known given [] h = plain-none (IsLineIn unit) 311
  plain-twice known given (s ∷ ss) h =
      plain-append (IsLineIn unit) 311 (when (is_given_twice given (elements_in unit known s)) (at_line 311 s.line))
      (given_twice_from unit (given_by unit known (constants_in s.form)) (elements_in unit known s ++ given) ss)
      (plain-when (IsLineIn unit) 311 s.line (is_given_twice given (elements_in unit known s)) (here-in unit s (h s (contains-here s ss))))
      (plain-twice (given_by unit known (constants_in s.form)) (elements_in unit known s ++ given) ss (λ t m. h t (contains-more t s ss m)))

  pub plain-data : Plain (IsLineIn unit) 311 (data_violations unit)
  plain-data =
      plain-append (IsLineIn unit) 311 (wrong_groups_from unit [] unit) (given_twice_from unit [] [] unit)
      (plain-groups [] unit (λ t m. m)) (plain-twice [] [] unit (λ t m. m))
