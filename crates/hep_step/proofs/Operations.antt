-- Whatever operation is next does what the source machine does, and tells of the cell that it changes. First those that leave the arena as
-- it is: GO TO, computed GO TO, IF and what only goes on, PRINT, RETURN and END, STOP, CALL, CREATE and references, and RESUME.
-- X3.9-1978, 11.1 to 11.12, 12.8, 15.6 and 15.8.
use Rattle.std.proofs.Common.{◌≡◌, ◌≢◌, ℕ, suc, ◌+◌, ◌-◌, Bool, true, false, List, [], ◌∷◌, refl, ap, sym, ◌∙◌, ◌++◌, map, length, subst}
use Rattle.std.proofs.Common.{Option, Some, None, Result, Ok, Err, arith, drop, length-append, take, inl, inr, ◌<◌, not, slice_set}
use Rattle.std.proofs.Common.{if◌then◌else◌}
use Rattle.std.proofs.Math.Seq.{drop-append_seam}
use Rattle.hep_machine.specs.Words.{integer_of, logical_of, label_by_sign, label_chosen, level_after_condition, level_after_statement}
use Rattle.hep_machine.specs.Words.{level_at_choice, level_at_label, level_in_block, Action, jumping, choosing, branching}
use Rattle.hep_machine.specs.Words.{testing_condition, entering_block, continuing, Next, does, printing, leaving, referring, resuming}
use Rattle.hep_machine.specs.Words.{wants, state_resumed, stopping, Actual, evaluated, referred, calling, creating, Top, Units, Value}
use Rattle.hep_machine.specs.Words.{unit_on_top, Level, result_after_action, state_with_level, stepped, binding_of, result_after_call}
use Rattle.hep_machine.specs.Words.{result_after_create, result_after_fault, Name, Location, evaluating, function_name, location_of_name}
use Rattle.hep_machine.specs.Words.{plug_work, result_after_leaving, result_after_next, result_after_result, result_after_value, makes}
use Rattle.hep_machine.specs.Words.{undefined, unset_cell, line_at}
use Rattle.hep_code.specs.declared.instruction.Instruction.{Instruction}
use Rattle.hep_code.specs.declared.instruction.Instruction.TheVariants.{Pass, Step, Show}
use Rattle.hep_code.specs.declared.variable.Variable.{Variable}
use Rattle.hep_code.specs.declared.instruction.Operation.{Operation}
use Rattle.hep_code.specs.declared.instruction.Operation.TheVariants.{Jump, Choose, BySign, Condition, Branch, Print, Resume, Return}
use Rattle.hep_code.specs.declared.instruction.Operation.TheVariants.{Answer, Stop, Evaluate, Store, Purge, EnterLoop, EndLoop}
use Rattle.hep_code.specs.Words.{IsSame, Leads, Moves, Stands, ending_of, led_to, table_of, AddressedUnit, argument_of_actual}
use Rattle.hep_code.specs.Words.{operands_of_actual, operands_of_entries, operands_of_item, printed_item, items_from, Reply, result}
use Rattle.hep_code.specs.Words.{accessed, arity, first_operand, reply_of, reply_to_store, IsPastPushes}
use Rattle.hep_code.proofs.ControlFlow.{operation_leads, step_is_ahead}
use Rattle.hep_code.proofs.CodePositions.{Keeps, after_statement_keeps, at_choice_keeps, in_block_keeps}
use Rattle.hep_step.specs.Effects.{effect_of_answer, fails, moves, prints, returns, stops, value_found, value_or_undefined, AreChanged}
use Rattle.hep_step.specs.Effects.{changed_by, changed_by_reply, may_change, waits, answers, left_out, effect_of, effect_of_reply}
use Rattle.hep_step.specs.Effects.{subscripts_in, last_operands as operands_of_evaluation, effect_ahead, effect_at}
use Rattle.hep_image.specs.Places.{variable_of}
use Rattle.hep_step.specs.Resume.{IsResumeAhead}
use Rattle.hep_step.specs.Simulation.{IsRunning, RunningTop, Simulates, addressed_on_top, code_ahead, counts_in, effect_running}
use Rattle.hep_step.specs.Simulation.{state_with_record, step_result_running, unit_running, is_left_out, IsNotLeftOut, IsSimulated}
use Rattle.hep_step.specs.Simulation.{arrays_running, code_running}
use Rattle.hep_step.proofs.RunningActivations.{Comes, action_made, cells_found, coming, fault_is, found_running, is_at, is_end, level_moves}
use Rattle.hep_step.proofs.RunningActivations.{next_is, no_end, reaches, scope_running, step_is}
use Rattle.std.specs.List.{flat_map}
use Rattle.std.specs.Option.{option_map, unwrap_or}
use Rattle.hep_layout.specs.Words.{address}
use Rattle.hep_machine.specs.declared.event.Kind.TheVariants.{Undefined}
use Rattle.hep_machine.specs.declared.slot.Slot.{Slot}
use Rattle.hep_code.specs.declared.variable.Variable.TheVariants.{Absent}
use Rattle.hep_code.proofs.Entries.{items_shown}
use Rattle.hep_machine.specs.declared.event.Kind.{Kind}
use Rattle.hep_step.specs.declared.call_kind.CallKind.{CallKind}
use Rattle.hep_step.specs.declared.call_kind.CallKind.TheVariants.{Calls, Creates, Refers}
use Rattle.hep_step.specs.NextCalls.{IsBehindEntries, IsCallAhead, comes_by, last_operands, making, unit_by}
use Rattle.std.proofs.lemmas.Bool.{cases_eq, ne_eqb, eq-eqb}
use Rattle.std.proofs.lemmas.Option.{none-some}
use mathlib.Core.Bool.{beq}
use Rattle.hep_machine.specs.Access.{gives, waits as access_waits}
use Rattle.hep_arena.proofs.Lists.{get-set_same, get-set_other}
use Rattle.hep_cells.specs.Changes.{changed_cell, full_after}
use Rattle.hep_cells.specs.declared.want.Want.{Want}
use Rattle.hep_image.specs.declared.array.Array.{Array}
use Rattle.hep_image.specs.Addressing.{address_of, cells_in}
use Rattle.hep_step.specs.declared.effect.Effect.{Effect}
use Rattle.hep_step.specs.Effects as effects
use Rattle.hep_step.specs.PerformedSteps.{Snapshot, changed_in, performed}
use Rattle.hep_step.proofs.ReplySteps.{evaluated as evaluation_made, value_stored}
use Rattle.hep_step.proofs.LoopSteps.{loop_is_ended, loop_is_entered}

abbrev pub is_jump : Operation → Bool
is_jump (Jump next) = true
is_jump (Choose count next) = true
is_jump (BySign negative equal positive) = true
is_jump (Condition otherwise) = true
is_jump (Branch inside otherwise) = true
is_jump _ = false

-- a logical IF keeps the DOs and the activation, whatever its condition
condition_keeps : (addressed : AddressedUnit) (level : Level) (b : Bool) → Keeps addressed level (level_after_condition addressed.unit level b)
condition_keeps addressed level true = (refl, refl)
condition_keeps addressed level false = after_statement_keeps addressed level

module _ (r : RunningTop) (line : ℕ) (behind : List Instruction) (running : IsRunning r) where
  abbrev addressed : AddressedUnit
  addressed = addressed_on_top r.program r.top

  module _ (o : Operation) (ahead : code_ahead r ≡ Step line o ∷ behind) where
    leads : (a : Action) → coming r ≡ does a → Leads addressed r.top.level (counts_in (unit_running r) r.arena.contents r.frame.first) a (led_to o behind r.operands r.index)
    leads a is =
        operation_leads addressed r.top.level r.operands (counts_in (unit_running r) r.arena.contents r.frame.first) r.index (is_at r running) line o behind ahead a is

    -- ---- jumps

    -- nor is the end of an activation
    no_jump_ends : (q : Option Variable) → is_jump (ending_of q) ≡ false
    no_jump_ends None = refl
    no_jump_ends (Some x) = refl

    -- the operation of another one is no jump
    no_jump : {A : Type 0} (other : Operation) → o ≡ other → is_jump other ≡ false → is_jump o ≡ true → A
    no_jump other e none is = absurd (let both : false ≡ true = sym none ∙ (sym (ap is_jump e) ∙ is) in cc)

    abbrev Jumps : Type 0
    Jumps = Simulates r (moves r.arena.contents [] (led_to o behind r.operands r.index))

    goes : (a : Action) → coming r ≡ does a → (after : Level) → result_after_action r.program r.top a ≡ stepped (state_with_level r.top after) → Keeps addressed r.top.level after
        → Moves addressed r.top.level after (counts_in (unit_running r) r.arena.contents r.frame.first) (led_to o behind r.operands r.index) → Jumps
    goes a is after steps keeps m =
        level_moves r running after keeps (led_to o behind r.operands r.index) (action_made r running a is ∙ steps) m.at.stands

    by_next : (n : Next) → coming r ≡ n → Comes r n o behind → is_jump o ≡ true → Jumps
    by_next (does (jumping l)) is h j = goes (jumping l) is (level_at_label (unit_running r) r.top.level l) refl (refl, refl) (leads (jumping l) is)
    by_next (does (choosing labels v)) is h j =
        let chosen = label_chosen labels (integer_of v) in
        goes (choosing labels v) is (level_at_choice (unit_running r) r.top.level chosen) refl (at_choice_keeps addressed r.top.level chosen) (leads (choosing labels v) is)
    by_next (does (branching labels v)) is h j = goes (branching labels v) is (level_at_label (unit_running r) r.top.level (label_by_sign labels (integer_of v))) refl (refl, refl) (leads (branching labels v) is)
    by_next (does (testing_condition v)) is h j =
        goes (testing_condition v) is (level_after_condition (unit_running r) r.top.level (logical_of v)) refl (condition_keeps addressed r.top.level (logical_of v)) (leads (testing_condition v) is)
    by_next (does (entering_block v)) is h j =
        goes (entering_block v) is (level_in_block (unit_running r) r.top.level (logical_of v)) refl (in_block_keeps addressed r.top.level (logical_of v)) (leads (entering_block v) is)
    by_next (does continuing) is h j = goes continuing is (level_after_statement (unit_running r) r.top.level) refl (after_statement_keeps addressed r.top.level) (leads continuing is)
    by_next (wants (evaluating q)) is h j = no_jump _ h.operation refl j
    by_next (does leaving) is h j = no_jump _ h.operation (no_jump_ends (table_of addressed).result) j
    by_next _ is h j = no_jump _ h.operation refl j

    pub jump_is_made : is_jump o ≡ true → Simulates r (moves r.arena.contents [] (led_to o behind r.operands r.index))
    jump_is_made = by_next (coming r) refl (next_is r running line o behind ahead)

  -- ---- PRINT

  pub record_is_printed : (count next : ℕ) → code_ahead r ≡ Step line (Print count next) ∷ behind → Simulates r (prints (items_from count behind r.operands) next)
  record_is_printed count next ahead = print_by (coming r) refl (next_is r running line (Print count next) behind ahead) where
    print_by : (n : Next) → coming r ≡ n → Comes r n (Print count next) behind → Simulates r (prints (items_from count behind r.operands) next)
    print_by (does (printing items)) is h =
        let counted : count ≡ length items = cc h.operation in
        let entries : behind ≡ map (λ i. Show (printed_item i)) items ++ h.more = h.entries in
        let values : r.operands ≡ flat_map operands_of_item items = h.operands_are in
        let printed : items_from count behind r.operands ≡ items = (λ i. items_from (counted i) (entries i) (values i)) ∙ items_shown items h.more in
        let after = level_after_statement (unit_running r) r.top.level in
        let keeps = after_statement_keeps addressed r.top.level in
        subst (λ shown. Simulates r (prints shown next)) (sym printed) (
          after,
          action_made r running (printing items) is,
          reaches r running after keeps (state_with_record r.top after items) (λ b. refl) refl next refl (leads (Print count next) ahead (printing items) is).at.stands,
        )
    print_by (wants (evaluating q)) is h = absurd (cc h.operation)
    print_by (does leaving) is h = no_end (Print count next) (table_of addressed).result h.operation refl
    print_by _ is h = absurd (cc h.operation)

  -- ---- RETURN and END, and STOP

  pub activation_ends : code_ahead r ≡ Step line Return ∷ behind → Simulates r returns
  activation_ends ahead = return_by (coming r) refl (next_is r running line Return behind ahead) where
    by_result : (q : Option Name) → function_name (unit_running r) ≡ q → Return ≡ ending_of (option_map addressed.variables q) → step_result_running r ≡ result_after_leaving r.program r.top q → Simulates r returns
    by_result None e same made = (e, made)
    by_result (Some x) e same made = absurd (cc same)

    return_by : (n : Next) → coming r ≡ n → Comes r n Return behind → Simulates r returns
    return_by (does leaving) is h = by_result (function_name (unit_running r)) refl h.operation (action_made r running leaving is)
    return_by (wants (evaluating q)) is h = absurd (cc h.operation)
    return_by _ is h = absurd (cc h.operation)

  -- that of a function, whose value is the one that its result has
  module _ (x : Variable) (ahead : code_ahead r ≡ Step line (Answer x) ∷ behind) where
    module _ (y : Name) (is_function : function_name (unit_running r) ≡ Some y) where
      by_value : (v : Option Value) → step_result_running r ≡ result_after_value r.program r.top v → Simulates r (effect_of_answer line (value_or_undefined v))
      by_value None made = fault_is r running line (Answer x) behind ahead Undefined made
      by_value (Some v) made = (y, is_function, made)

      by_place : (a : Result ℕ Kind) (q : Result Location Kind) → IsSame (address r.program r.top.state r.layout) a q → step_result_running r ≡ result_after_result r.program r.top q → Simulates r (effect_of_answer line (value_found r.arena.contents a))
      by_place (Err j) (Err k) same made = fault_is r running line (Answer x) behind ahead j (made ∙ ap (result_after_fault r.program r.top) (sym same))
      by_place (Ok p) (Ok at) same made =
          subst (λ (slot : Slot). Simulates r (effect_of_answer line (value_or_undefined slot.value))) (sym (cells_found r running p at same)) (by_value (r.top.state.store at).value made)
      by_place _ _ same made = absurd same

      value_ends : x ≡ addressed.variables y → step_result_running r ≡ result_after_leaving r.program r.top (Some y) → Simulates r (effect_running r line (Answer x) behind)
      value_ends x_is made =
          let placed : addressed.variables y ≢ Absent = λ absent. running.placed r.index line (Answer x) behind ahead (ap Some (x_is ∙ absent)) in
          subst (λ z. Simulates r (effect_of_answer line (value_found r.arena.contents (found_running r z [])))) (sym x_is) (by_place (found_running r (addressed.variables y) []) (location_of_name (scope_running r) y []) (running.addressed y [] placed).1 made)

    by_function : (q : Option Name) → function_name (unit_running r) ≡ q → Answer x ≡ ending_of (option_map addressed.variables q) → step_result_running r ≡ result_after_leaving r.program r.top q → Simulates r (effect_running r line (Answer x) behind)
    by_function None e same made = absurd (cc same)
    by_function (Some y) e same made = value_ends y e (cc same) made

    end_by : (n : Next) → coming r ≡ n → Comes r n (Answer x) behind → Simulates r (effect_running r line (Answer x) behind)
    end_by (does leaving) is h = by_function (function_name (unit_running r)) refl h.operation (action_made r running leaving is)
    end_by (wants (evaluating q)) is h = absurd (cc h.operation)
    end_by _ is h = absurd (cc h.operation)

    pub function_ends : Simulates r (effect_running r line (Answer x) behind)
    function_ends = end_by (coming r) refl (next_is r running line (Answer x) behind ahead)

  pub run_stops : code_ahead r ≡ Step line Stop ∷ behind → Simulates r stops
  run_stops ahead = stop_by (coming r) refl (next_is r running line Stop behind ahead) where
    stop_by : (n : Next) → coming r ≡ n → Comes r n Stop behind → Simulates r stops
    stop_by (does stopping) is h = action_made r running stopping is
    stop_by (wants (evaluating q)) is h = absurd (cc h.operation)
    stop_by (does leaving) is h = no_end Stop (table_of addressed).result h.operation refl
    stop_by _ is h = absurd (cc h.operation)

  -- ---- CALL, CREATE and references: what they make an activation of, and the fault where an actual argument has none to stand for

  -- none of them ends an activation
  no_end_makes : (w : CallKind) (u count next : ℕ) → is_end (making w u count next) ≡ false
  no_end_makes Calls u count next = refl
  no_end_makes Creates u count next = refl
  no_end_makes Refers u count next = refl

  module _ (way : CallKind) (u count next : ℕ) (ahead : code_ahead r ≡ Step line (making way u count next) ∷ behind) where
    call_by : (w : CallKind) (n : Next) → IsBehindEntries w r.index count next → coming r ≡ n → Comes r n (making w u count next) behind → IsCallAhead w r.program r.top r.operands u count next behind
    call_by Calls (does (calling name actuals)) onward is h =
        record { name = name; actuals = actuals; does_so = is; unit = cc h.operation; counted = cc h.operation; onward = (cc h.operation, refl); before = []; operands_are = h.operands_are; more = h.more; entries = h.entries }
    call_by Creates (does (creating name actuals)) onward is h =
        record { name = name; actuals = actuals; does_so = is; unit = cc h.operation; counted = cc h.operation; onward = (cc h.operation, refl); before = []; operands_are = h.operands_are; more = h.more; entries = h.entries }
    call_by Refers (wants (referring name actuals)) onward is h =
        let counted : count ≡ length actuals = cc h.operation in
        let at : r.index + suc (length actuals) ≡ next = omega (arith, onward, counted) in
        record { name = name; actuals = actuals; does_so = is; unit = cc h.operation; counted = counted; onward = λ v. subst (Stands addressed r.top.level.statement (plug_work (unit_running r) r.top.level.work v) (h.before ++ v ∷ [])) at (h.filled v); before = h.before; operands_are = h.operands_are; more = h.more; entries = h.entries }
    call_by w (does leaving) onward is h = no_end (making w u count next) (table_of addressed).result h.operation (no_end_makes w u count next)
    call_by Calls (wants (evaluating q)) onward is h = absurd (cc h.operation)
    call_by Creates (wants (evaluating q)) onward is h = absurd (cc h.operation)
    call_by Refers (wants (evaluating q)) onward is h = absurd (cc h.operation)
    call_by Calls _ onward is h = absurd (cc h.operation)
    call_by Creates _ onward is h = absurd (cc h.operation)
    call_by Refers _ onward is h = absurd (cc h.operation)

    pub call_ahead : IsBehindEntries way r.index count next → IsCallAhead way r.program r.top r.operands u count next behind
    call_ahead onward = call_by way (coming r) onward refl (next_is r running line (making way u count next) behind ahead)

    unmade : (w : CallKind) (name : Name) (actuals : List Actual) (k : Kind) → coming r ≡ comes_by w name actuals → u ≡ unit_by w r.program name → binding_of r.program r.top u actuals ≡ Err k → step_result_running r ≡ result_after_fault r.program r.top k
    unmade Calls name actuals k is same none = action_made r running (calling name actuals) is ∙ (ap (λ v. result_after_call r.program r.top v (binding_of r.program r.top v actuals)) (sym same) ∙ ap (result_after_call r.program r.top u) none)
    unmade Creates name actuals k is same none = action_made r running (creating name actuals) is ∙ (ap (λ v. result_after_create r.program r.top v (binding_of r.program r.top v actuals)) (sym same) ∙ ap (result_after_create r.program r.top u) none)
    unmade Refers name actuals k is same none = step_is r running ∙ (ap (result_after_next r.program r.top) is ∙ (ap (λ v. result_after_call r.program r.top v (binding_of r.program r.top v actuals)) (sym same) ∙ ap (result_after_call r.program r.top u) none))

    pub call_fails : (calls : IsCallAhead way r.program r.top r.operands u count next behind) (k : Kind) → binding_of r.program r.top u calls.actuals ≡ Err k → Simulates r (fails line k)
    call_fails calls k none = fault_is r running line (making way u count next) behind ahead k (unmade way calls.name calls.actuals k calls.does_so calls.unit none)

  -- ---- RESUME

  module _ (next : ℕ) (ahead : code_ahead r ≡ Step line (Resume next) ∷ behind) where
    resume_by : (n : Next) → coming r ≡ n → Comes r n (Resume next) behind → IsResumeAhead r next
    resume_by (does resuming) is h =
        record { does_so = is; made = action_made r running resuming is; alone = h.operands_are; onward = leads (Resume next) ahead resuming is }
    resume_by (wants (evaluating q)) is h = absurd (cc h.operation)
    resume_by (does leaving) is h = no_end (Resume next) (table_of addressed).result h.operation refl
    resume_by _ is h = absurd (cc h.operation)

    pub resume_ahead : IsResumeAhead r next
    resume_ahead = resume_by (coming r) refl (next_is r running line (Resume next) behind ahead)

    -- the lowest activation only goes on
    pub lowest_goes_on : r.top.below ≡ [] → Simulates r (moves r.arena.contents [] next)
    lowest_goes_on lowest =
        let after = level_after_statement (unit_running r) r.top.level in
        level_moves r running after (after_statement_keeps addressed r.top.level) next (resume_ahead.made ∙ ap (λ below. stepped (state_resumed r.program r.top below)) lowest) resume_ahead.onward.at.stands

-- ---- what they pass

-- entries pass as many operands as the actual arguments that they are of
actuals_counted : (variables : Name → Variable) (actuals : List Actual) (more : List Instruction)
    → operands_of_entries (take (length actuals) (map (λ a. Pass (argument_of_actual variables a)) actuals ++ more)) ≡ length (flat_map operands_of_actual actuals)
actuals_counted variables [] more = refl
actuals_counted variables (evaluated v ∷ actuals) more = let rest = actuals_counted variables actuals more in omega (arith, rest)
actuals_counted variables (referred x ∷ actuals) more =
    let rest = actuals_counted variables actuals more in
    omega (arith, rest, length-append x.1 (flat_map operands_of_actual actuals))

-- what stands behind others
drop-front : {A : Type 0} (xs ys : List A) (n : ℕ) → n ≡ length ys → drop (length (xs ++ ys) - n) (xs ++ ys) ≡ ys
drop-front xs ys n same =
    let many : length (xs ++ ys) - n ≡ length xs = omega (arith, same, length-append xs ys) in
    ap (λ m. drop m (xs ++ ys)) many ∙ drop-append_seam xs ys

-- a CALL, a CREATE or a reference passes the last operands
pub passed_last : {way : CallKind} {program : Units} {t : Top} {operands : List Value} {u count next : ℕ} {behind : List Instruction} (calls : IsCallAhead way program t operands u count next behind)
    → last_operands count behind operands ≡ flat_map operands_of_actual calls.actuals
passed_last {way} {program} {t} {operands} {u} {count} {next} {behind} calls =
    let own = flat_map operands_of_actual calls.actuals in
    let many : operands_of_entries (take count behind) ≡ length own =
    (λ i. operands_of_entries (take (calls.counted i) (calls.entries i))) ∙ actuals_counted (variable_of program (unit_on_top program t)) calls.actuals calls.more in
    ap (λ vs. drop (length vs - operands_of_entries (take count behind)) vs) calls.operands_are ∙ drop-front calls.before own (operands_of_entries (take count behind)) many

-- ---- changes: once an operation was performed that isn't left out, each cell is as full as it was, but for the one that it tells of

-- the cell itself is as full as it was, or as it changed
full-there : (c : ℕ) (x y : Bool) → y ≡ full_after (if beq x y then None else Some (record { cell = c; full = y })) c x
full-there c true true = refl
full-there c false false = refl
full-there c true false = rw (eq-eqb c c refl) refl
full-there c false true = rw (eq-eqb c c refl) refl

-- each other cell is as full as it was
full-elsewhere : (at c : ℕ) (x y z : Bool) → at ≢ c → z ≡ full_after (if beq x y then None else Some (record { cell = at; full = y })) c z
full-elsewhere at c true true z other = refl
full-elsewhere at c false false z other = refl
full-elsewhere at c true false z other = rw (ne_eqb at c other) refl
full-elsewhere at c false true z other = rw (ne_eqb at c other) refl

-- a cell that changed was not so before
differs-there : (x y : Bool) (at : ℕ) (w : Want) (P : ℕ → Bool) → P at ≡ x → (if beq x y then None else Some (record { cell = at; full = y })) ≡ Some w → P w.cell ≡ not w.full
differs-there true true at w P is e = absurd (none-some w e)
differs-there false false at w P is e = absurd (none-some w e)
differs-there true false at w P is e = let same : record { cell = at; full = false } ≡ w = cc in ap (λ (v : Want). P v.cell) (sym same) ∙ (is ∙ ap (λ (v : Want). not v.full) same)
differs-there false true at w P is e = let same : record { cell = at; full = true } ≡ w = cc in ap (λ (v : Want). P v.cell) (sym same) ∙ (is ∙ ap (λ (v : Want). not v.full) same)

-- ---- a reply

-- no cell is changed where none is written
unchanged : (contents : List Slot) → AreChanged None contents contents
unchanged contents = record { told = λ c less. refl; differs = λ w e. absurd (none-some w e) }

-- a slot was written
module _ (contents : List Slot) (at : ℕ) (slot : Slot) where
  abbrev IsTold : ℕ → Type 0
  IsTold c = (cells_in (slice_set contents at slot) c).full ≡ full_after (changed_cell at (cells_in contents at) slot) c (cells_in contents c).full

  told-there : at < length contents → IsTold at
  told-there less = ap (λ o. (unwrap_or o unset_cell).full) (get-set_same contents at slot less) ∙ full-there at (cells_in contents at).full slot.full

  told-elsewhere : (c : ℕ) → at ≢ c → IsTold c
  told-elsewhere c other =
      ap (λ o. (unwrap_or o unset_cell).full) (get-set_other contents at c slot (λ e. other (sym e)))
      ∙ full-elsewhere at c (cells_in contents at).full slot.full (cells_in contents c).full other

  written : AreChanged (changed_cell at (cells_in contents at) slot) contents (slice_set contents at slot)
  written =
      record {
        told = λ c less. elim (cases_eq at c) [
          | inl same ↦ subst (λ k. k < length contents → IsTold k) same told-there less
          | inr other ↦ told-elsewhere c other
        ];
        differs = λ w. differs-there (cells_in contents at).full slot.full at w (λ c. (cells_in contents c).full) refl;
      }

-- the reply of an operation that goes on with its value, and what is performed then
module _ (line n : ℕ) (f : Value → List Value) (before : Snapshot) where
  abbrev done_by : Reply → Effect × Snapshot
  done_by r = performed (effect_of_reply line before.contents (λ after v. moves after (f v) n) r) (changed_by_reply before.contents r) before

  reply-told : (r : Reply) → AreChanged (changed_in (done_by r).0) before.contents (done_by r).1.contents
  reply-told (result (Ok v)) = unchanged before.contents
  reply-told (result (Err k)) = unchanged before.contents
  reply-told (accessed at (gives v)) = unchanged before.contents
  reply-told (accessed at (makes v slot)) = written before.contents at slot
  reply-told (accessed at (access_waits full)) = unchanged before.contents
  reply-told (accessed at undefined) = unchanged before.contents

-- ---- an operation

module _ (code : List Instruction) (arrays : List Array) (first line : ℕ) (entries : List Instruction) (before : Snapshot) where
  -- once it was performed
  abbrev pub done_of : Operation → Effect × Snapshot
  done_of o = performed (effect_of code arrays first line o entries before.contents before.operands before.index) (changed_by arrays first o before.contents before.operands) before

  pub changes-told : (o : Operation) → may_change o ≡ true → is_left_out o ≡ false → AreChanged (changed_in (done_of o).0) before.contents (done_of o).1.contents
  changes-told (Evaluate e) may done = reply-told line (before.index + 1) (λ v. take (length before.operands - arity e) before.operands ++ v ∷ []) before (reply_of (cells_in before.contents) (address_of (cells_in before.contents) first arrays) e (operands_of_evaluation e before.operands))
  changes-told (Store x n next) may done = reply-told line next (λ v. []) before (reply_to_store (cells_in before.contents) (address_of (cells_in before.contents) first arrays) x (first_operand before.operands) (subscripts_in before.operands))
  changes-told (Purge count next) may done = absurd (cc done)
  changes-told _ may done = absurd (cc may)

-- no effect changes a cell where none is told
pub none-told : (e : effects.Effect) (before : Snapshot) → changed_in (performed e None before).0 ≡ None
none-told (moves contents operands index) before = refl
none-told (prints items index) before = refl
none-told (fails line kind) before = refl
none-told (waits at full) before = refl
none-told returns before = refl
none-told (answers v) before = refl
none-told stops before = refl
none-told left_out before = refl

-- an operation that may not change a cell tells of none
pub none-changed : (arrays : List Array) (first : ℕ) (contents : List Slot) (operands : List Value) (o : Operation) → may_change o ≡ false → changed_by arrays first o contents operands ≡ None
none-changed arrays first contents operands (Evaluate e) none = absurd (cc none)
none-changed arrays first contents operands (Store x n next) none = absurd (cc none)
none-changed arrays first contents operands _ none = refl

-- ---- whichever operation is next does what the source machine does

-- each kind of operation that isn't left out
pub simulated : (o : Operation) → is_left_out o ≡ false → IsSimulated o
simulated (Evaluate e) done r line behind running ahead = evaluation_made r running line e behind ahead
simulated (Store x n next) done r line behind running ahead = value_stored r running line x n next behind ahead
simulated (Jump next) done r line behind running ahead = jump_is_made r line behind running (Jump next) ahead refl
simulated (Choose count next) done r line behind running ahead = jump_is_made r line behind running (Choose count next) ahead refl
simulated (BySign negative equal positive) done r line behind running ahead = jump_is_made r line behind running (BySign negative equal positive) ahead refl
simulated (Condition otherwise) done r line behind running ahead = jump_is_made r line behind running (Condition otherwise) ahead refl
simulated (Branch inside otherwise) done r line behind running ahead = jump_is_made r line behind running (Branch inside otherwise) ahead refl
simulated (EnterLoop x cells inside outside) done r line behind running ahead = loop_is_entered r running line behind x cells inside outside ahead
simulated (EndLoop x cells inside outside) done r line behind running ahead = loop_is_ended r running line behind x cells inside outside ahead
simulated (Print count next) done r line behind running ahead = record_is_printed r line behind running count next ahead
simulated Return done r line behind running ahead = activation_ends r line behind running ahead
simulated (Answer x) done r line behind running ahead = function_ends r line behind running x ahead
simulated Stop done r line behind running ahead = run_stops r line behind running ahead
simulated _ done r line behind running ahead = absurd (let e : true ≡ false = done in cc)

-- the one ahead, whichever it is
pub operation_simulated : (r : RunningTop) → IsRunning r → IsNotLeftOut (code_running r) r.index → IsPastPushes (code_running r) r.index
    → Simulates r (effect_at (code_running r) (arrays_running r) r.frame.first r.arena.contents r.operands r.index)
operation_simulated r running done past =
    let line = line_at (unit_running r) r.top.level.statement in
    let s = step_is_ahead (addressed_on_top r.program r.top) r.top.level.statement r.top.level.work r.operands r.index running.stands past in
    subst (Simulates r) (sym (ap (λ c. effect_ahead (code_running r) (arrays_running r) r.frame.first c r.arena.contents r.operands r.index) s.2)) (
    simulated s.0 (done line s.0 s.1 s.2) r line s.1 running s.2)
