-- In a run each level has what is left of its statement, and each activation a unit of which something holds that holds of the main
-- program and of what is called.
use Rattle.std.proofs.Common.{◌≡◌, ℕ, zero, suc, ◌+◌, ◌-◌, ◌≤◌, Bool, true, false, List, [], ◌∷◌, ◌++◌, drop, length, Option, Some, None, Result, Ok, Err, refl, sym, ap, ◌∙◌, subst, arith, ℤ, ◌+ℤ◌, ◌-ℤ◌, pos, int_lt, if◌then◌else◌, nat_eq, slice_get, slice_set, ◌||◌, length-append}
use Rattle.std.specs.Option.{unwrap_or}
use Rattle.std.proofs.lemmas.Bool.Decides.{nat_tests}
use Rattle.std.proofs.lemmas.Option.{none-some, same_Some}
use Rattle.hep_machine.specs.Words.{Tree, Form, Statement, Value, Units, executable_from, main_unit, statement_at, unit_at, integer_of, integer_or_overflow, logical_of, Binding, alternative_of, following, index_of_label, label_by_sign, label_chosen, level_after_loop, level_after_statement, level_after_condition}
use Rattle.hep_machine.specs.Words.{level_at_choice, level_at_end_of, level_at_statement, level_in_block, level_in_range, after_condition, loops_around, loops_ending_at, terminal_of, variable_of, no_activation, Action, assigning, jumping, choosing, branching, testing_condition, entering_block, entering_loop}
use Rattle.hep_machine.specs.Words.{ending_loop, calling, creating, purging, printing, continuing, leaving, resuming, stopping, Next, wants, does, next_of, plug, plug_work, Scope, location_of_name, opening, is_number_among, living, loop_at, numbered, unit_of, with_loop, with_numbered, run, run_from, Activation, Level, Location}
use Rattle.hep_machine.specs.Words.{evaluating, function_name, function_unit, Name, referring, result_after_leaving, result_after_result, result_after_value, stack_after_value}
use Rattle.hep_machine.specs.Words.{Loop, Process, State, state_resumed, Store, Work, doing, ending, Answer, fails, answer_at, answer_of, binding_of, entry_level, iterations, level_after_count, next_activation, result_after_action, result_after_answer, result_after_assignment, result_after_call, result_after_create, result_after_do}
use Rattle.hep_machine.specs.Words.{result_after_increment, result_after_loop_end, result_after_loop_variable, result_after_next, result_after_purge, result_after_write, scope_of, stack_after_return, step, store_after_purge, Top, unit_called, unit_on_top, written}
use Rattle.hep_machine.specs.declared.event.Kind.{Kind}
use Rattle.hep_machine.specs.Step.{gives, waits}
use Rattle.hep_machine.proofs.Changes.{Makes, by_step, next_on, top_in}
use Rattle.hep_machine.proofs.Others.{front_numbered}
use Rattle.hep_layout.proofs.References.{each-state}
use Rattle.hep_layout.proofs.Stacks.{top-numbered}
use Rattle.hep_accepted_laws.specs.PartlyEvaluated.{AreEach, IsFilled}
use Rattle.hep_accepted_laws.specs.WorkOrigins.{AreLeft, ComesFrom}
use Rattle.hep_accepted_laws.proofs.PartlyEvaluated.{each-self, form-plug, form-self}
use Rattle.hep_accepted_laws.proofs.FilledTrees.{filled-plug, filled-self}

-- ---- lists

abbrev pub Every : {A : Type 0} → (A → Type 0) → List A → Type 0
Every P [] = Unit {0}
Every P (x ∷ xs) = P x × Every P xs

every-append : {A : Type 0} (P : A → Type 0) (xs ys : List A) → Every P xs → Every P ys → Every P (xs ++ ys)
every-append P [] ys h k = k
every-append P (x ∷ xs) ys h k = (h.0, every-append P xs ys h.1 k)

every-set : {A : Type 0} (P : A → Type 0) (xs : List A) (i : ℕ) (x : A) → Every P xs → P x → Every P (slice_set xs i x)
every-set P [] i x h k = tt
every-set P (y ∷ ys) zero x h k = (k, h.1)
every-set P (y ∷ ys) (suc i) x h k = (h.0, every-set P ys i x h.1 k)

pub every-get : {A : Type 0} (P : A → Type 0) (xs : List A) (i : ℕ) (x : A) → Every P xs → slice_get xs i ≡ Some x → P x
every-get P [] i x h e = absurd (none-some x e)
every-get P (y ∷ ys) zero x h e = subst P (same_Some y x e) h.0
every-get P (y ∷ ys) (suc i) x h e = every-get P ys i x h.1 e

pub every-numbered : {A : Type 0} (P : A → Type 0) (xs : List A) (i : ℕ) (x : A) → Every P xs → numbered xs i ≡ Some x → P x
every-numbered P xs zero x h e = absurd (none-some x e)
every-numbered P xs (suc i) x h e = every-get P xs i x h e

-- ---- what is left of one statement

left-self : (unit : List Statement) (conditions : List Tree) → AreLeft unit conditions conditions
left-self unit conditions = (0, each-self (IsFilled unit) (filled-self unit) conditions)

comes-statement : (unit : List Statement) (k : ℕ) → ComesFrom unit k (doing (statement_at unit k).conditions (statement_at unit k).form)
comes-statement unit k = (left-self unit (statement_at unit k).conditions, form-self unit (statement_at unit k).form)

comes-plug : (unit : List Statement) (k : ℕ) (work : Work) (v : Value) → ComesFrom unit k work → ComesFrom unit k (plug_work unit work v)
comes-plug unit k (doing [] f) v h = (h.0, form-plug unit v (statement_at unit k).form f h.1)
comes-plug unit k (doing (t ∷ ts) f) v h = ((h.0.0, by_first (drop h.0.0 (statement_at unit k).conditions) h.0.1), h.1) where
  by_first : (cs : List Tree) → AreEach (IsFilled unit) cs (t ∷ ts) → AreEach (IsFilled unit) cs (plug unit t v ∷ ts)
  by_first [] k = absurd k
  by_first (c ∷ cs) k = (filled-plug unit v c t k.0, k.1)
comes-plug unit k (ending d) v h = h

-- past the first of those that are left
one-past : {A : Type 0} (n : ℕ) (xs : List A) (x : A) (ys : List A) → drop n xs ≡ x ∷ ys → drop (suc n) xs ≡ ys
one-past zero [] x ys e = absurd cc
one-past (suc n) [] x ys e = absurd cc
one-past zero (z ∷ zs) x ys e = cc
one-past (suc n) (z ∷ zs) x ys e = one-past n zs x ys e

comes-tested : (unit : List Statement) (k : ℕ) (t : Tree) (ts : List Tree) (f : Form) → ComesFrom unit k (doing (t ∷ ts) f) → ComesFrom unit k (doing ts f)
comes-tested unit k t ts f h = ((suc h.0.0, by_first (drop h.0.0 (statement_at unit k).conditions) refl h.0.1), h.1) where
  by_first : (cs : List Tree) → drop h.0.0 (statement_at unit k).conditions ≡ cs → AreEach (IsFilled unit) cs (t ∷ ts) → AreEach (IsFilled unit) (drop (suc h.0.0) (statement_at unit k).conditions) ts
  by_first [] e g = absurd g
  by_first (c ∷ cs) e g = subst (λ ds. AreEach (IsFilled unit) ds ts) (sym (one-past h.0.0 (statement_at unit k).conditions c cs e)) g.1

among-around : (d e : ℕ) (es : List ℕ) → is_number_among d (loops_around e es) ≡ true → is_number_among d es ≡ true
among-around d e [] h = h
among-around d e (x ∷ xs) h = by_test (nat_eq x e) (nat_eq d x) (among-around d e xs) h where
  by_test : (b c : Bool) → (is_number_among d (loops_around e xs) ≡ true → is_number_among d xs ≡ true) → is_number_among d (if b then xs else loops_around e xs) ≡ true → (c || is_number_among d xs) ≡ true
  by_test b true rest_is h = refl
  by_test true false rest_is h = h
  by_test false false rest_is h = rest_is h

-- ---- a level

module _ (program : Units) where
  abbrev pub unit_in : List Activation → ℕ → List Statement
  unit_in xs a = unit_at program (unwrap_or (numbered xs a) no_activation).unit

  -- of an activation that was made
  abbrev pub IsLevelIn : List Activation → Level → Type 0
  IsLevelIn xs level = (level.activation ≤ length xs) × ComesFrom (unit_in xs level.activation) level.statement level.work

  abbrev AreStacksIn : List Activation → List Process → Type 0
  AreStacksIn xs qs = Every (Every (IsLevelIn xs)) qs

  module _ (xs : List Activation) (level : Level) (made : level.activation ≤ length xs) where
    at-statement : (k : ℕ) → IsLevelIn xs (level_at_statement (unit_in xs level.activation) level k)
    at-statement k = (made, comes-statement (unit_in xs level.activation) k)

    at-end : (k : ℕ) (ds : List ℕ) → ((d : ℕ) → is_number_among d ds ≡ true → is_number_among d (loops_ending_at (unit_in xs level.activation) k) ≡ true) → IsLevelIn xs (level_at_end_of (unit_in xs level.activation) level k ds)
    at-end k [] h = at-statement (following (unit_in xs level.activation) k)
    at-end k (d ∷ ds) h = (made, h d (ap (λ b. b || is_number_among d ds) (self d))) where
      self : (n : ℕ) → nat_eq n n ≡ true
      self n = grind (arith, nat_tests)

    after-statement : IsLevelIn xs (level_after_statement (unit_in xs level.activation) level)
    after-statement = at-end level.statement (loops_ending_at (unit_in xs level.activation) level.statement) (λ d h. h)

    after-loop : (d : ℕ) → IsLevelIn xs (level_after_loop (unit_in xs level.activation) level d)
    after-loop d =
        let k : ℕ = terminal_of (unit_in xs level.activation) d in
        at-end k (loops_around d (loops_ending_at (unit_in xs level.activation) k)) (λ e. among-around e d (loops_ending_at (unit_in xs level.activation) k))

    at-choice : (l : Option ℕ) → IsLevelIn xs (level_at_choice (unit_in xs level.activation) level l)
    at-choice None = after-statement
    at-choice (Some l) = at-statement (index_of_label (unit_in xs level.activation) l)

    in-block : (b : Bool) → IsLevelIn xs (level_in_block (unit_in xs level.activation) level b)
    in-block true = at-statement (following (unit_in xs level.activation) level.statement)
    in-block false = at-statement (alternative_of (unit_in xs level.activation) level.statement)

    after-count : (d : ℕ) (count : ℤ) → IsLevelIn xs (level_after_count (unit_in xs level.activation) level d count)
    after-count d count =
        elim (int_lt (pos 0) count) as (λ (b : Bool). IsLevelIn xs (if b then level_in_range (unit_in xs level.activation) level d else level_after_loop (unit_in xs level.activation) level d))
        [ true ↦ at-statement (following (unit_in xs level.activation) d) | false ↦ after-loop d ]

  after-condition : (xs : List Activation) (level : Level) (b : Bool) → IsLevelIn xs level → IsLevelIn xs (level_after_condition (unit_in xs level.activation) level b)
  after-condition xs level false h = after-statement xs level h.0
  after-condition xs level true h = (h.0, by_work level.work h.1) where
    by_work : (work : Work) → ComesFrom (unit_in xs level.activation) level.statement work → ComesFrom (unit_in xs level.activation) level.statement (after_condition work)
    by_work (doing [] f) k = k
    by_work (doing (t ∷ ts) f) k = comes-tested (unit_in xs level.activation) level.statement t ts f k
    by_work (ending d) k = k

  -- ---- more activations

  kept-unit : (xs : List Activation) (x : Activation) (a : ℕ) → a ≤ length xs → unit_in (xs ++ x ∷ []) a ≡ unit_in xs a
  kept-unit xs x a le = ap (λ (o : Option Activation). unit_at program (unwrap_or o no_activation).unit) (front_numbered xs (x ∷ []) a le)

  longer : (xs : List Activation) (x : Activation) → length (xs ++ x ∷ []) ≡ length xs + 1
  longer xs x = length-append xs (x ∷ [])

  kept-level : (xs : List Activation) (x : Activation) (level : Level) → IsLevelIn xs level → IsLevelIn (xs ++ x ∷ []) level
  kept-level xs x level h = (
    omega (arith, h.0, longer xs x),
    subst (λ unit. ComesFrom unit level.statement level.work) (sym (kept-unit xs x level.activation h.0)) h.1,
  )

  kept-stack : (xs : List Activation) (x : Activation) (q : Process) → Every (IsLevelIn xs) q → Every (IsLevelIn (xs ++ x ∷ [])) q
  kept-stack xs x [] h = tt
  kept-stack xs x (level ∷ levels) h = (kept-level xs x level h.0, kept-stack xs x levels h.1)

  kept-stacks : (xs : List Activation) (x : Activation) (qs : List Process) → AreStacksIn xs qs → AreStacksIn (xs ++ x ∷ []) qs
  kept-stacks xs x [] h = tt
  kept-stacks xs x (q ∷ qs) h = (kept-stack xs x q h.0, kept-stacks xs x qs h.1)

  last-numbered : (xs : List Activation) (x : Activation) → slice_get (xs ++ x ∷ []) (length xs) ≡ Some x
  last-numbered [] x = refl
  last-numbered (y ∷ ys) x = last-numbered ys x

  last-unit : (xs : List Activation) (x : Activation) → unit_in (xs ++ x ∷ []) (length xs + 1) ≡ unit_at program x.unit
  last-unit xs x =
      let number : length xs + 1 ≡ suc (length xs) = omega arith in
      ap (unit_in (xs ++ x ∷ [])) number ∙ ap (λ (o : Option Activation). unit_at program (unwrap_or o no_activation).unit) (last-numbered xs x)

  entry-level : (xs : List Activation) (x : Activation) → IsLevelIn (xs ++ x ∷ []) (entry_level (unit_at program x.unit) (length xs + 1))
  entry-level xs x = (
    omega (arith, longer xs x),
    subst (λ unit. ComesFrom unit (executable_from (unit_at program x.unit) 0) (doing (statement_at (unit_at program x.unit) (executable_from (unit_at program x.unit) 0)).conditions (statement_at (unit_at program x.unit) (executable_from (unit_at program x.unit) 0)).form)) (sym (last-unit xs x)) (
        comes-statement (unit_at program x.unit) (executable_from (unit_at program x.unit) 0)),
  )

-- ---- a step

-- what is called next, or referred to, has a unit of which P holds
abbrev pub CallsIn : Units → (ℕ → Type 0) → Next → Type 0
CallsIn program P (does (calling x actuals)) = P (unit_called program x)
CallsIn program P (does (creating x actuals)) = P (unit_called program x)
CallsIn program P (wants (referring x actuals)) = P (function_unit program x)
CallsIn program P _ = Unit {0}

module _ (program : Units) (P : ℕ → Type 0) where
  abbrev pub AreUnitsIn : List Activation → Type 0
  AreUnitsIn xs = Every (λ (x : Activation). P x.unit) xs

  abbrev pub IsStateIn : State → Type 0
  IsStateIn s = AreUnitsIn s.activations × AreStacksIn program s.activations s.processes

  module _ (t : Top) (here : IsStateIn t.state) (top : IsLevelIn program t.state.activations t.level) (below : Every (IsLevelIn program t.state.activations) t.below) where
    abbrev xs : List Activation
    xs = t.state.activations

    abbrev unit : List Statement
    unit = unit_on_top program t

    abbrev scope : Scope
    scope = scope_of program t.state t.level.activation

    -- another stack in the place of the process's
    set : (q : Process) → Every (IsLevelIn program xs) q → AreUnitsIn xs × AreStacksIn program xs (with_numbered t.state.processes t.process q)
    set q h = (here.0, every-set (Every (IsLevelIn program xs)) t.state.processes (t.process - 1) q here.1 h)

    another : (level : Level) → IsLevelIn program xs level → AreUnitsIn xs × AreStacksIn program xs (with_numbered t.state.processes t.process (level ∷ t.below))
    another level h = set (level ∷ t.below) (h, below)

    ended : AreUnitsIn xs × AreStacksIn program xs (with_numbered t.state.processes t.process [])
    ended = set [] tt

    onward : AreUnitsIn xs × AreStacksIn program xs (with_numbered t.state.processes t.process (level_after_statement unit t.level ∷ t.below))
    onward = another (level_after_statement unit t.level) (after-statement program xs t.level top.0)

    in-answer : (a : Answer) → Makes IsStateIn (result_after_answer program t a)
    in-answer (gives v store) = another (record t.level { work = plug_work unit t.level.work v }) (top.0, comes-plug unit t.level.statement t.level.work v top.1)
    in-answer (waits w) = tt
    in-answer (fails k) = ended

    in-write : (a : Answer) → Makes IsStateIn (result_after_write program t (level_after_statement unit t.level) a)
    in-write (gives v store) = onward
    in-write (waits w) = tt
    in-write (fails k) = ended

    in-assignment : (asynchronous : Bool) (at : Result Location Kind) (v : Value) → Makes IsStateIn (result_after_assignment program t asynchronous at v)
    in-assignment asynchronous (Err k) v = ended
    in-assignment asynchronous (Ok at) v = in-write (answer_at t.state.store at (written asynchronous v (t.state.store at)))

    in-purge : (r : Result Store Kind) → Makes IsStateIn (result_after_purge program t r)
    in-purge (Err k) = ended
    in-purge (Ok store) = onward

    counted : (d : ℕ) (count increment : ℤ) → IsLevelIn program xs (level_after_count unit (record t.level { loops = with_loop t.level.loops (record { statement = d; count = count; increment = increment }) }) d count)
    counted d count increment = after-count program xs (record t.level { loops = with_loop t.level.loops (record { statement = d; count = count; increment = increment }) }) top.0 d count

    in-do : (at : Result Location Kind) (m increment : ℤ) (count : Result ℤ Kind) → Makes IsStateIn (result_after_do program t at m increment count)
    in-do at m increment (Err k) = ended
    in-do (Err k) m increment (Ok count) = ended
    in-do (Ok at) m increment (Ok count) = another _ (counted t.level.statement count increment)

    in-increment : (l : Loop) (at : Location) (z : Result ℤ Kind) → Makes IsStateIn (result_after_increment program t l at z)
    in-increment l at (Err k) = ended
    in-increment l at (Ok z) = another _ (counted l.statement (l.count -ℤ pos 1) l.increment)

    in-variable : (l : Loop) (at : Location) (v : Option Value) → Makes IsStateIn (result_after_loop_variable program t l at v)
    in-variable l at None = ended
    in-variable l at (Some v) = in-increment l at (integer_or_overflow (integer_of v +ℤ l.increment))

    in-loop_end : (l : Loop) (at : Result Location Kind) → Makes IsStateIn (result_after_loop_end program t l at)
    in-loop_end l (Err k) = ended
    in-loop_end l (Ok at) = in-variable l at (t.state.store at).value

    -- a new activation
    module _ (u : ℕ) (b : Binding) (there : P u) where
      abbrev new : Activation
      new = record { unit = u; parent = Some t.level.activation; dummies = b.dummies }

      more : AreUnitsIn (xs ++ new ∷ [])
      more = every-append (λ (x : Activation). P x.unit) xs (new ∷ []) here.0 (there, tt)

      entry : IsLevelIn program (xs ++ new ∷ []) (entry_level (unit_at program u) (next_activation t.state))
      entry = entry-level program xs new

      stacks : (q : Process) → Every (IsLevelIn program (xs ++ new ∷ [])) q → AreStacksIn program (xs ++ new ∷ []) (with_numbered t.state.processes t.process q)
      stacks q h = every-set (Every (IsLevelIn program (xs ++ new ∷ []))) t.state.processes (t.process - 1) q (kept-stacks program xs new t.state.processes here.1) h

    in-call : (u : ℕ) (b : Result Binding Kind) → P u → Makes IsStateIn (result_after_call program t u b)
    in-call u (Err k) h = ended
    in-call u (Ok b) h = (more u b h, stacks u b h (entry_level (unit_at program u) (next_activation t.state) ∷ (t.level ∷ t.below)) (entry u b h, kept-stack program xs (new u b h) (t.level ∷ t.below) (top, below)))

    in-create : (u : ℕ) (b : Result Binding Kind) → P u → Makes IsStateIn (result_after_create program t u b)
    in-create u (Err k) h = ended
    in-create u (Ok b) h = (
      more u b h,
      every-append (Every (IsLevelIn program (xs ++ new u b h ∷ []))) (with_numbered t.state.processes t.process (level_after_statement unit t.level ∷ t.below)) ((entry_level (unit_at program u) (next_activation t.state) ∷ []) ∷ []) (
          stacks u b h (level_after_statement unit t.level ∷ t.below) (kept-stack program xs (new u b h) (level_after_statement unit t.level ∷ t.below) (after-statement program xs t.level top.0, below))) (
            (entry u b h, tt),
            tt,
          ),
    )

    returned : (q : Process) → Every (IsLevelIn program xs) q → Every (IsLevelIn program xs) (stack_after_return program t.state q)
    returned [] h = tt
    returned (level ∷ levels) h = (after-statement program xs level h.0.0, h.1)

    answered : (v : Value) (q : Process) → Every (IsLevelIn program xs) q → Every (IsLevelIn program xs) (stack_after_value program t.state v q)
    answered v [] h = tt
    answered v (level ∷ levels) h = ((h.0.0, comes-plug (unit_in program xs level.activation) level.statement level.work v h.0.1), h.1)

    in-value : (v : Option Value) → Makes IsStateIn (result_after_value program t v)
    in-value None = ended
    in-value (Some v) = set (stack_after_value program t.state v t.below) (answered v t.below below)

    in-result : (at : Result Location Kind) → Makes IsStateIn (result_after_result program t at)
    in-result (Err k) = ended
    in-result (Ok at) = in-value (t.state.store at).value

    in-leaving : (x : Option Name) → Makes IsStateIn (result_after_leaving program t x)
    in-leaving None = set (stack_after_return program t.state t.below) (returned t.below below)
    in-leaving (Some x) = in-result (location_of_name scope x [])

    resumed : (q : Process) → Every (IsLevelIn program xs) q → IsStateIn (state_resumed program t q)
    resumed [] h = onward
    resumed (caller ∷ callers) h =
        let caller-on = set (stack_after_return program t.state (caller ∷ callers)) (returned (caller ∷ callers) h) in
        let alone : Every (IsLevelIn program xs) (level_after_statement unit t.level ∷ []) = (after-statement program xs t.level top.0, tt) in
        (caller-on.0, every-append (Every (IsLevelIn program xs)) (with_numbered t.state.processes t.process (stack_after_return program t.state (caller ∷ callers))) ((level_after_statement unit t.level ∷ []) ∷ []) caller-on.1 (alone, tt))

    in-action : (a : Action) → CallsIn program P (does a) → Makes IsStateIn (result_after_action program t a)
    in-action (assigning r v) h = in-assignment r.0.asynchronous (location_of_name scope r.0 r.1) v
    in-action (jumping l) h = another _ (at-statement program xs t.level top.0 (index_of_label unit l))
    in-action (choosing labels v) h = another _ (at-choice program xs t.level top.0 (label_chosen labels (integer_of v)))
    in-action (branching labels v) h = another _ (at-statement program xs t.level top.0 (index_of_label unit (label_by_sign labels (integer_of v))))
    in-action (testing_condition v) h = another _ (after-condition program xs t.level (logical_of v) top)
    in-action (entering_block v) h = another _ (in-block program xs t.level top.0 (logical_of v))
    in-action (entering_loop x m k l) h = in-do (location_of_name scope x []) (integer_of m) (integer_of l) (iterations (integer_of m) (integer_of k) (integer_of l))
    in-action (ending_loop d) h = in-loop_end (loop_at t.level.loops d) (location_of_name scope (variable_of unit d) [])
    in-action (calling x actuals) h = in-call (unit_called program x) (binding_of program t (unit_called program x) actuals) h
    in-action (creating x actuals) h = in-create (unit_called program x) (binding_of program t (unit_called program x) actuals) h
    in-action (purging targets) h = in-purge (store_after_purge scope targets t.state.store)
    in-action (printing items) h = onward
    in-action continuing h = onward
    in-action leaving h = in-leaving (function_name unit)
    in-action resuming h = resumed t.below below
    in-action stopping h = here

    in-next : (n : Next) → CallsIn program P n → Makes IsStateIn (result_after_next program t n)
    in-next (wants (evaluating r)) h = in-answer (answer_of scope t.state.store r)
    in-next (wants (referring x actuals)) h = in-call (function_unit program x) (binding_of program t (function_unit program x) actuals) h
    in-next (does a) h = in-action a h

  -- ---- runs

  in-opening : P (main_unit program) → IsStateIn (run program [])
  unfolding run run_from opening
  in-opening h = ((h, tt), (((omega arith, comes-statement (unit_at program (main_unit program)) (executable_from (unit_at program (main_unit program)) 0)), tt), tt))

  module _ (calls : (s : State) (level : Level) → IsStateIn s → IsLevelIn program s.activations level → CallsIn program P (next_of (unit_at program (unit_of s level.activation)) level.work)) where
    in-turn : (p : ℕ) (s t : State) → step program p s ≡ Some t → IsStateIn s → IsStateIn t
    in-turn p s t e h = found.2 where
      on : (top : Level × Process) → living s p ≡ Some top → Every (IsLevelIn program s.activations) (top.0 ∷ top.1)
      on top lives = every-numbered (Every (IsLevelIn program s.activations)) s.processes p (top.0 ∷ top.1) h.1 (top-numbered s p top lives)

      found : (top : Level × Process) × (living s p ≡ Some top) × IsStateIn t
      found =
          by_step (λ (top : Top) (after : State). IsStateIn after) program p s t (λ top lives. (
          let stack = on top lives in
          in-next (top_in s p top) h stack.0 stack.1 (next_on program s top) (calls s top.0 h stack.0))) e

    pub in-run : P (main_unit program) → (ps : List ℕ) → IsStateIn (run program ps)
    in-run h ps = each-state program IsStateIn (λ qs p t e last k. in-turn p (run program qs) t e k) (in-opening h) ps

-- ---- each level of a run

any-calls : (program : Units) (n : Next) → CallsIn program (λ u. Unit {0}) n
any-calls program (wants (evaluating r)) = tt
any-calls program (wants (referring x actuals)) = tt
any-calls program (does (calling x actuals)) = tt
any-calls program (does (creating x actuals)) = tt
any-calls program (does _) = tt

pub works-come : (program : Units) (ps : List ℕ) (p i : ℕ) (q : Process) (level : Level) → numbered (run program ps).processes p ≡ Some q → slice_get q i ≡ Some level → ComesFrom (unit_at program (unit_of (run program ps) level.activation)) level.statement level.work
works-come program ps p i q level e f =
    let state = in-run program (λ u. Unit {0}) (λ s level h k. any-calls program (next_of (unit_at program (unit_of s level.activation)) level.work)) tt ps in
    let stack = every-numbered (Every (IsLevelIn program (run program ps).activations)) (run program ps).processes p q state.1 e in
    (every-get (IsLevelIn program (run program ps).activations) q i level stack f).1

pub top-comes : (program : Units) (ps : List ℕ) (p : ℕ) (top : Level × Process) → living (run program ps) p ≡ Some top → ComesFrom (unit_at program (unit_of (run program ps) top.0.activation)) top.0.statement top.0.work
top-comes program ps p top lives = works-come program ps p 0 (top.0 ∷ top.1) top.0 (top-numbered (run program ps) p top lives) refl
