-- Where the frames are after pure steps, and what else they leave as it was: all orders of them and of other steps lead to the same layout.
use Rattle.std.proofs.Common.{◌≡◌, ℕ, zero, suc, ◌-◌, Bool, true, false, List, [], ◌∷◌, ◌++◌, length, length-set, Option, Some, None, refl}
use Rattle.std.proofs.Common.{sym, ap, ap₂, ◌∙◌, subst, arith, slice_get, slice_set}
use Rattle.std.specs.List.{filter, flat_map}
use Rattle.std.specs.Option.{option_map, option_map_or}
use Rattle.std.proofs.lemmas.Option.{none-some, same_Some}
use Rattle.hep_machine.specs.Words.{Action, Frame, Layout, Level, Next, Process, State, Statement, Units, Value, activations_on, branching}
use Rattle.hep_machine.specs.Words.{choosing, continuing, does, entering_block, evaluating, integer_of, is_held, is_number_among, jumping}
use Rattle.hep_machine.specs.Words.{layout_after_turn, living, logical_of, numbered, opening, opening_layout, placing_from}
use Rattle.hep_machine.specs.Words.{remaining_layout, run, run_from, state_after_turn, step, testing_condition, unit_at, unit_of, wants}
use Rattle.hep_machine.specs.Words.{with_ancestries, with_ancestry, with_new, with_numbered, referring}
use Rattle.hep_machine.specs.Layout.{new_parent, with_number}
use Rattle.hep_machine.specs.Evaluation.{next_of, plug_work}
use Rattle.hep_machine.specs.Control.{label_chosen, level_after_condition, level_after_statement, level_at_choice, level_in_block}
use Rattle.hep_machine.specs.Control.{loops_ending_at}
use Rattle.hep_machine.proofs.Changes.{stays-level_at_end_of}
use Rattle.hep_machine.proofs.Others.{others_stay}
use Rattle.hep_layout.proofs.HeldFrames.{layout-stays, placed-run}
use Rattle.hep_state.proofs.Runs.{frames-all}
use Rattle.hep_explore.specs.Endings.{IsReachable}
use Rattle.hep_explore.specs.Independence.{AreIndependentSteps, IsBeside}
use Rattle.hep_explore.specs.Pure.{is_pure, level_of_action, level_of_next, pure_value, stack_after_pure}
use Rattle.hep_explore.proofs.Independence.{GoAlong, after_all}
use Rattle.hep_explore.proofs.Pure.{IsPure, beside, made_is, number_within, pure_is, pure_step, top_there}
use Rattle.hep_explore.proofs.Stacks.{moved}
use Rattle.hep_explore.proofs.Turns.{turn_is}

-- ---- a pure step leaves the activations of its process

module _ (unit : List Statement) (level : Level) where
  after_statement : (level_after_statement unit level).activation ≡ level.activation
  after_statement = stays-level_at_end_of unit level level.statement (loops_ending_at unit level.statement)

  action_stays : (a : Action) (after : Level) → level_of_action unit level a ≡ Some after → after.activation ≡ level.activation
  action_stays (jumping l) after e = sym (ap (λ (x : Level). x.activation) (same_Some _ after e))
  action_stays (choosing labels v) after e =
      sym (ap (λ (x : Level). x.activation) (same_Some _ after e))
      ∙ (elim (label_chosen labels (integer_of v)) as (λ (o : Option ℕ). (level_at_choice unit level o).activation ≡ level.activation) [
        | None ↦ after_statement
        | Some l ↦ refl
      ])
  action_stays (branching labels v) after e = sym (ap (λ (x : Level). x.activation) (same_Some _ after e))
  action_stays (testing_condition v) after e =
      sym (ap (λ (x : Level). x.activation) (same_Some _ after e))
      ∙ (elim (logical_of v) as (λ (b : Bool). (level_after_condition unit level b).activation ≡ level.activation) [
        | true ↦ refl
        | false ↦ after_statement
      ])
  action_stays (entering_block v) after e =
      sym (ap (λ (x : Level). x.activation) (same_Some _ after e))
      ∙ (elim (logical_of v) as (λ (b : Bool). (level_in_block unit level b).activation ≡ level.activation) [
        | true ↦ refl
        | false ↦ refl
      ])
  action_stays continuing after e = sym (ap (λ (x : Level). x.activation) (same_Some _ after e)) ∙ after_statement
  action_stays a after e = absurd (none-some after e)

  value_stays : (o : Option Value) (after : Level) → option_map (λ v. record level { work = plug_work unit level.work v }) o ≡ Some after
      → after.activation ≡ level.activation
  value_stays None after e = absurd (none-some after e)
  value_stays (Some v) after e = sym (ap (λ (x : Level). x.activation) (same_Some _ after e))

  next_stays : (n : Next) (after : Level) → level_of_next unit level n ≡ Some after → after.activation ≡ level.activation
  next_stays (wants (evaluating r)) after e = value_stays (pure_value r) after e
  next_stays (wants (referring x actuals)) after e = absurd (none-some after e)
  next_stays (does a) after e = action_stays a after e

  stack_stays : (below stack : Process) (o : Option Level) → level_of_next unit level (next_of unit level.work) ≡ o
      → option_map (λ after. after ∷ below) o ≡ Some stack → activations_on stack ≡ activations_on (level ∷ below)
  stack_stays below stack None is e = absurd (none-some stack e)
  stack_stays below stack (Some after) is e =
      ap activations_on (sym (same_Some (after ∷ below) stack e))
      ∙ ap (λ a. a ∷ activations_on below) (next_stays (next_of unit level.work) after is)

-- the stack of a process whose next step is pure
pub record HasPureTop (program : Units) (q : ℕ) (s : State) (pure : IsPure program q s) : Type 0 where
  pub stack : Process
  pub there : numbered s.processes q ≡ Some stack
  pub same : activations_on pure.stack ≡ activations_on stack

-- it is there
pure_top : (program : Units) (q : ℕ) (s : State) (pure : IsPure program q s) → HasPureTop program q s pure
pure_top program q s pure = by_top (living s q) refl pure.after where
  by_top : (top : Option (Level × Process)) → living s q ≡ top → stack_after_pure program s top ≡ Some pure.stack
      → HasPureTop program q s pure
  by_top None lives e = absurd (none-some pure.stack e)
  by_top (Some top) lives e =
      record {
        stack = top.0 ∷ top.1;
        there = top_there program (numbered s.processes q) top lives;
        same = stack_stays (unit_at program (unit_of s top.0.activation)) top.0 top.1 pure.stack _ refl e;
      }

-- ---- another stack with the same activations

-- the same is made of all where the same is made of another element
same_all : {A B : Type 0} (f : A → List B) (xs : List A) (i : ℕ) (x y : A) → slice_get xs i ≡ Some x → f y ≡ f x
    → flat_map f (slice_set xs i y) ≡ flat_map f xs
same_all f [] i x y there same = absurd (none-some x there)
same_all f (z ∷ zs) zero x y there same = ap (λ us. us ++ flat_map f zs) (same ∙ ap f (sym (same_Some z x there)))
same_all f (z ∷ zs) (suc i) x y there same = ap (λ us. f z ++ us) (same_all f zs i x y there same)

module _ (q : ℕ) (stack : Process) (s : State) where
  same_ancestry : (n a : ℕ) (held : List ℕ) → with_ancestry (moved q stack s) n a held ≡ with_ancestry s n a held
  same_ancestry zero a held = refl
  same_ancestry (suc n) a held =
      elim (new_parent s a held)
      as (λ (o : Option ℕ). option_map_or (λ b. with_ancestry (moved q stack s) n b (a ∷ held)) o (with_number a held)
      ≡ option_map_or (λ b. with_ancestry s n b (a ∷ held)) o (with_number a held)) [
        | None ↦ refl
        | Some b ↦ same_ancestry n b (a ∷ held)
      ]

  same_ancestries : (held ns : List ℕ) → with_ancestries (moved q stack s) held ns ≡ with_ancestries s held ns
  same_ancestries held [] = refl
  same_ancestries held (a ∷ ns) =
      same_ancestries (with_ancestry (moved q stack s) a a held) ns ∙ ap (λ hs. with_ancestries s hs ns) (same_ancestry a a held)

  same_processes : (k : Process) → numbered s.processes q ≡ Some k → activations_on stack ≡ activations_on k
      → flat_map activations_on (with_numbered s.processes q stack) ≡ flat_map activations_on s.processes
  same_processes k there same = by_number q there where
    by_number : (n : ℕ) → numbered s.processes n ≡ Some k
        → flat_map activations_on (with_numbered s.processes n stack) ≡ flat_map activations_on s.processes
    by_number zero there = absurd (none-some k there)
    by_number (suc i) there =
        let here : suc i - 1 ≡ i = omega arith in
        rw here (same_all activations_on s.processes i k stack there same)

  -- the same activations are held
  same_held : (k : Process) → numbered s.processes q ≡ Some k → activations_on stack ≡ activations_on k
      → is_held (moved q stack s) ≡ is_held s
  same_held k there same =
      let holds : List ℕ → ℕ → Bool = λ hs a. is_number_among a hs in
      ap holds (
      same_ancestries [] (flat_map activations_on (with_numbered s.processes q stack))
      ∙ ap (with_ancestries s []) (same_processes k there same))

-- ---- layouts

-- what is left of frames is left of that again
kept_once : (keep : ℕ → Bool) (fs : Layout) → filter (λ (f : Frame). keep f.activation) (filter (λ (f : Frame). keep f.activation) fs)
    ≡ filter (λ (f : Frame). keep f.activation) fs
kept_once keep [] = refl
kept_once keep (f ∷ fs) = by_test (kept_once keep fs) (keep f.activation) refl where
  by_test : filter (λ (g : Frame). keep g.activation) (filter (λ (g : Frame). keep g.activation) fs)
      ≡ filter (λ (g : Frame). keep g.activation) fs → (b : Bool) → keep f.activation ≡ b
      → filter (λ (g : Frame). keep g.activation) (filter (λ (g : Frame). keep g.activation) (f ∷ fs))
      ≡ filter (λ (g : Frame). keep g.activation) (f ∷ fs)
  by_test rest true e = rw e (rw e (ap (λ gs. f ∷ gs) rest))
  by_test rest false e = rw e rest

-- the layout of a state, none where a frame had no gap, and whether a STOP was made
abbrev pub Placed : Type 0
Placed = Option Layout × Bool

abbrev pub placed_of : Units → ℕ → State → Placed
placed_of program cells s = (opening_layout program cells, s.halted)

-- all of its frames are those of held activations
pub record IsPlacedIn (s : State) (x : Placed) : Type 0 where
  pub all : (layout : Layout) → x.0 ≡ Some layout → remaining_layout is_held s layout ≡ layout
  pub halted : x.1 ≡ s.halted

module _ (program : Units) (cells : ℕ) where
  -- what a turn makes of it
  abbrev pub placed_after : State → ℕ → Placed → Placed
  placed_after s p x = (
    (layout_after_turn program cells is_held s (state_after_turn program p s) x.0).layout,
    (state_after_turn program p s).halted,
  )

  left_all : (s t : State) (o : Option Layout) (layout : Layout) → (layout_after_turn program cells is_held s t o).layout ≡ Some layout
      → remaining_layout is_held t layout ≡ layout
  left_all s t None layout e = absurd (none-some layout e)
  left_all s t (Some before) layout e = by_new (with_new program cells (length s.activations) t before) e where
    by_new : (o : Option Layout) → option_map (remaining_layout is_held t) o ≡ Some layout → remaining_layout is_held t layout ≡ layout
    by_new None e = absurd (none-some layout e)
    by_new (Some new) e =
        let same = same_Some (remaining_layout is_held t new) layout e in
        subst (λ l. remaining_layout is_held t l ≡ l) same (kept_once (is_held t) new)

  -- a pure step leaves it
  placed_keeps : (q : ℕ) (s u : State) (x : Placed) → IsReachable program s → is_pure program q s ≡ true → step program q s ≡ Some u
      → IsPlacedIn s x → placed_after s q x ≡ x
  placed_keeps q s u x way is f placed =
      let pure = pure_is program q s is in
      let turned : state_after_turn program q s ≡ moved q pure.stack s =
      turn_is program q s (moved q pure.stack s) (pure_step program q s pure)
      in
      ap₂ (λ (o : Option Layout) (b : Bool). (o, b)) (
      ap (λ t. (layout_after_turn program cells is_held s t x.0).layout) turned
      ∙ by_layout pure (pure_top program q s pure) x.0 placed.all) (
      ap (λ (t : State). t.halted) turned ∙ sym placed.halted)
    where
      by_layout : (pure : IsPure program q s) → HasPureTop program q s pure → (o : Option Layout)
          → ((layout : Layout) → o ≡ Some layout → remaining_layout is_held s layout ≡ layout)
          → (layout_after_turn program cells is_held s (moved q pure.stack s) o).layout ≡ o
      by_layout pure top None all = refl
      by_layout pure top (Some layout) all =
          let held = same_held q pure.stack s top.stack top.there top.same in
          layout-stays program cells s (moved q pure.stack s) layout refl
          ∙ ap (λ (has : ℕ → Bool). Some (filter (λ (f : Frame). has f.activation) layout)) held
          ∙ ap (λ l. Some l) (all layout refl)

  placed_stays : (p : ℕ) (s t : State) (x : Placed) → step program p s ≡ Some t → IsPlacedIn s x → IsPlacedIn t (placed_after s p x)
  placed_stays p s t x e placed =
      let turned = turn_is program p s t e in
      record {
        all = λ layout is.
            subst (λ u. remaining_layout is_held u layout ≡ layout) turned (left_all s (state_after_turn program p s) x.0 layout is);
        halted = ap (λ (u : State). u.halted) turned;
      }

  -- a step of another process makes the same of it before and after a pure step
  placed_beside : (p q : ℕ) (s t u : State) (x : Placed) → IsBeside program (is_pure program) p q s t → step program q s ≡ Some u
      → IsPlacedIn s x → placed_after u p x ≡ placed_after s p x
  placed_beside p q s t u x by f placed =
      let pure = pure_is program q s by.is_independent in
      let top = pure_top program q s pure in
      let still = others_stay program p q s t by.stepped by.other (number_within program s.processes q top.stack top.there).1 in
      let held : is_held (moved q pure.stack t) ≡ is_held t = same_held q pure.stack t top.stack (still ∙ top.there) top.same in
      let turned : state_after_turn program p s ≡ t = turn_is program p s t by.stepped in
      let after : state_after_turn program p (moved q pure.stack s) ≡ moved q pure.stack t =
      turn_is program p (moved q pure.stack s) (moved q pure.stack t) (
      beside program p q s t by.reachable by.other by.stepped pure)
      in
      subst (λ w. placed_after w p x ≡ placed_after s p x) (made_is program q s u pure f) (
      ap₂ (λ (o : Option Layout) (b : Bool). (o, b)) (
      ap (λ w. (layout_after_turn program cells is_held (moved q pure.stack s) w x.0).layout) after
      ∙ by_layout pure held x.0
      ∙ ap (λ w. (layout_after_turn program cells is_held s w x.0).layout) (sym turned)) (
      ap (λ (w : State). w.halted) after ∙ ap (λ (w : State). w.halted) (sym turned)))
    where
      by_layout : (pure : IsPure program q s) → is_held (moved q pure.stack t) ≡ is_held t → (o : Option Layout)
          → (layout_after_turn program cells is_held (moved q pure.stack s) (moved q pure.stack t) o).layout
          ≡ (layout_after_turn program cells is_held s t o).layout
      by_layout pure held None = refl
      by_layout pure held (Some layout) =
          ap (λ (has : ℕ → Bool). option_map (λ (l : Layout). filter (λ (f : Frame). has f.activation) l) (
          with_new program cells (length s.activations) t layout)) held

  pub placed_along : GoAlong program (is_pure program) Placed IsPlacedIn placed_after
  placed_along = record { keeps = placed_keeps; stays = placed_stays; beside = placed_beside }

  -- ---- that of the opening

  pub opening_placed : IsPlacedIn (opening program) (placed_of program cells (opening program))
  unfolding run run_from placing_from
  opening_placed =
      record {
        all = λ layout is. (
            let placed = placed-run program cells [] layout is in
            frames-all (is_held (opening program)) layout placed.held);
        halted = refl;
      }

  -- ---- after turns

  state_of_turn : (s t : State) (o : Option Layout) → (layout_after_turn program cells is_held s t o).state ≡ t
  state_of_turn s t None = refl
  state_of_turn s t (Some layout) = refl

  pub layout_after_all : (ps : List ℕ) (s : State) (x : Placed) → (after_all program placed_after s ps x).0
      ≡ (placing_from program cells is_held (record { state = s; layout = x.0 }) ps).layout
  unfolding placing_from
  layout_after_all [] s x = refl
  layout_after_all (p ∷ ps) s x =
      let t : State = state_after_turn program p s in
      let o : Option Layout = (layout_after_turn program cells is_held s t x.0).layout in
      layout_after_all ps t (placed_after s p x)
      ∙ ap (λ w. (placing_from program cells is_held (record { state = w; layout = o }) ps).layout) (sym (state_of_turn s t x.0))

  pub halted_after_all : (ps : List ℕ) (s : State) (x : Placed) → x.1 ≡ s.halted
      → (after_all program placed_after s ps x).1 ≡ (run_from program s ps).halted
  unfolding run_from
  halted_after_all [] s x is = is
  halted_after_all (p ∷ ps) s x is = halted_after_all ps (state_after_turn program p s) (placed_after s p x) refl

-- ---- how much is made

-- pure steps make no activation and no process
pub pure_counts : (program : Units) (qs : List ℕ) (s : State) → AreIndependentSteps program (is_pure program) s qs
    → ((run_from program s qs).activations ≡ s.activations) × (length (run_from program s qs).processes ≡ length s.processes)
unfolding run_from
pure_counts program [] s are = (refl, refl)
pure_counts program (q ∷ qs) s are =
    let pure = pure_is program q s are.0 in
    let turned : state_after_turn program q s ≡ moved q pure.stack s =
    turn_is program q s (moved q pure.stack s) (pure_step program q s pure)
    in
    let there : state_after_turn program q s ≡ are.1 = turn_is program q s are.1 are.2 in
    let rest = pure_counts program qs (state_after_turn program q s) (
    subst (λ t. AreIndependentSteps program (is_pure program) t qs) (sym there) are.3)
    in
    let set : length (with_numbered s.processes q pure.stack) ≡ length s.processes = simp length-set in (
      rest.0 ∙ ap (λ (t : State). t.activations) turned,
      rest.1 ∙ ap (λ (t : State). length t.processes) turned ∙ set,
    )
