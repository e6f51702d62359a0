-- In a run just the held activations have frames, each with the cells of its unit.
use Rattle.hep_machine.proofs.Others.{each_turn}
use Rattle.hep_layout.proofs.StackChanges.{stacked-times}
use Rattle.std.proofs.Common.{◌≡◌, ◌⊎◌, inl, inr, ℕ, zero, suc, ◌+◌, ◌<◌, ◌≤◌, Bool, true, false, List, [], ◌∷◌, ◌++◌, length, Option, Some, None, refl, sym, ap, ◌∙◌, subst, arith, append_assoc, append-nil, if◌then◌else◌, is_some, nat_eq, nat_lt, length-append}
use Rattle.std.specs.List.{filter}
use Rattle.std.specs.Option.{option_map, option_map_or, unwrap_or}
use Rattle.std.proofs.lemmas.Bool.{eq-eqb, cases_order, cond_both}
use Rattle.std.proofs.lemmas.Bool.Decides.{nat_tests}
use Rattle.std.proofs.lemmas.Option.{same_Some, none-some}
use Rattle.hep_machine.specs.Words.{Units, main_unit, unit_at, IsOnStack, HasHeldChild, StandApart, Frame, Layout, common_cells, frame_of, frames_up_to, is_held, layout_after_step, layout_of, lowest_gap, opening_layout, placing_from, remaining_layout, used_cells, with_frame, layout_with_activation, Placing, layout_after_turn, placing_turn, opening, numbered, parent_of, state_after_turn, run_from, run, Activation, State, Top, entry_level, next_activation, step}
use Rattle.hep_machine.proofs.Ages.{IsAged, aged, older_parent, on_stack_made}
use Rattle.hep_machine.proofs.Changes.{Change, HasStepped, stack, step_changes, top_in}
use Rattle.hep_machine.proofs.Held.{held_is}
use Rattle.hep_arena.specs.Gaps.{frame_among, framed_cells}
use Rattle.hep_layout.specs.Words.{AreSingle, IsLaid, frame_from, is_stacked}
use Rattle.hep_layout.proofs.Frames.{among-with_frame, apart-with_frame}
use Rattle.hep_layout.proofs.Memory.{activation-kept, activation-last, laid-entered, laid-same, same-activation, unmade}
use Rattle.hep_layout.proofs.Stacks.{top-numbered, times-change, news, no-fewer}
use Rattle.hep_layout.proofs.FrameTree.{on-stacked, stacked-on, stacked-top}
use Rattle.hep_machine.proofs.Replays.{run_after}
use Rattle.hep_machine.proofs.Frames.{apart_further, mapped_from}

-- ---- one more turn

pub run-last : (program : Units) (ps : List ℕ) (p : ℕ) → run program (ps ++ p ∷ []) ≡ state_after_turn program p (run program ps)
unfolding run run_from
run-last program ps p = run_after program (opening program) ps (p ∷ [])

pub turned : (program : Units) (ps : List ℕ) (p : ℕ) (t : State) → step program p (run program ps) ≡ Some t → run program (ps ++ p ∷ []) ≡ t
turned program ps p t e = run-last program ps p ∙ ap (λ o. unwrap_or o (run program ps)) e

placing-last : (program : Units) (cells : ℕ) (x : Placing) (ps : List ℕ) (p : ℕ) → placing_from program cells is_held x (ps ++ p ∷ []) ≡ placing_turn program cells is_held (placing_from program cells is_held x ps) p
unfolding placing_from
placing-last program cells x [] p = refl
placing-last program cells x (q ∷ ps) p = placing-last program cells (placing_turn program cells is_held x q) ps p

-- with or without a layout, the state goes on
state-of_turn : (program : Units) (cells : ℕ) (s t : State) (o : Option Layout) → (layout_after_turn program cells is_held s t o).state ≡ t
state-of_turn program cells s t None = refl
state-of_turn program cells s t (Some layout) = refl

placing-state : (program : Units) (cells : ℕ) (x : Placing) (ps : List ℕ) → (placing_from program cells is_held x ps).state ≡ run_from program x.state ps
unfolding placing_from run_from
placing-state program cells x [] = refl
placing-state program cells x (p ∷ ps) =
    placing-state program cells (placing_turn program cells is_held x p) ps ∙ ap (λ s. run_from program s ps) (state-of_turn program cells x.state (state_after_turn program p x.state) x.layout)

abbrev placing : Units → ℕ → List ℕ → Placing
placing program cells ps = placing_from program cells is_held (record { state = opening program; layout = opening_layout program cells }) ps

layout-turned : (program : Units) (cells : ℕ) (ps : List ℕ) (p : ℕ) → layout_of program cells is_held (ps ++ p ∷ []) ≡ (layout_after_turn program cells is_held (run program ps) (state_after_turn program p (run program ps)) (layout_of program cells is_held ps)).layout
unfolding run
layout-turned program cells ps p =
    let first : Placing = record { state = opening program; layout = opening_layout program cells } in
    ap (λ (x : Placing). x.layout) (placing-last program cells first ps p)
    ∙ ap (λ s. (layout_after_turn program cells is_held s (state_after_turn program p s) (placing program cells ps).layout).layout) (placing-state program cells first ps)

pub layout-last : (program : Units) (cells : ℕ) (ps : List ℕ) (p : ℕ) (layout : Layout) → layout_of program cells is_held ps ≡ Some layout
    → layout_of program cells is_held (ps ++ p ∷ []) ≡ layout_after_step program cells is_held (run program ps) (state_after_turn program p (run program ps)) layout
layout-last program cells ps p layout e =
    layout-turned program cells ps p ∙ ap (λ o. (layout_after_turn program cells is_held (run program ps) (state_after_turn program p (run program ps)) o).layout) e

-- where there is a layout after a turn, there was one before
layout-before : (program : Units) (cells : ℕ) (ps : List ℕ) (p : ℕ) (after : Layout) → layout_of program cells is_held (ps ++ p ∷ []) ≡ Some after → (layout : Layout) × (layout_of program cells is_held ps ≡ Some layout)
layout-before program cells ps p after e = by_layout (layout_of program cells is_held ps) (sym (layout-turned program cells ps p) ∙ e) where
  by_layout : (o : Option Layout) → (layout_after_turn program cells is_held (run program ps) (state_after_turn program p (run program ps)) o).layout ≡ Some after → (layout : Layout) × (o ≡ Some layout)
  by_layout None e = absurd (none-some after e)
  by_layout (Some layout) e = (layout, refl)

-- what a step makes of a layout: without a new activation some frames are left, and with one its frame is in the lowest gap
pub layout-stays : (program : Units) (cells : ℕ) (s t : State) (layout : Layout) → t.activations ≡ s.activations → layout_after_step program cells is_held s t layout ≡ Some (remaining_layout is_held t layout)
layout-stays program cells s t layout e =
    let none : nat_lt (length s.activations) (length t.activations) ≡ false = grind (arith, nat_tests, ap length e) in
    rw none refl

pub layout-more : (program : Units) (cells : ℕ) (s t : State) (x : Activation) (layout : Layout) → t.activations ≡ s.activations ++ x ∷ [] → layout_after_step program cells is_held s t layout
    ≡ option_map (remaining_layout is_held t) (option_map (λ first. with_frame layout (frame_from program t (length t.activations) first)) (lowest_gap cells (frame_of program t (length t.activations)) (common_cells program) layout))
layout-more program cells s t x layout e =
    let long : length t.activations ≡ length s.activations + 1 = simp length-append at (ap length e) in
    let some : nat_lt (length s.activations) (length t.activations) ≡ true = grind (arith, nat_tests) in
    rw some refl

-- what holds at the opening and goes on from turn to turn
pub each-run : (P : List ℕ → Type 0) → P [] → ((ps : List ℕ) (p : ℕ) → P ps → P (ps ++ p ∷ [])) → (ps : List ℕ) → P ps
each-run P first next ps = more [] ps first where
  more : (ps qs : List ℕ) → P ps → P (ps ++ qs)
  more ps [] h = subst P (sym (append-nil ps)) h
  more ps (q ∷ qs) h = subst P (append_assoc ps (q ∷ []) qs) (more (ps ++ q ∷ []) qs (next ps q h))

-- ---- what is held after a step

-- what is on a stack after a step was on one before, or is new
stacked-before : (t : Top) (s : State) (a : ℕ) → numbered t.state.processes t.process ≡ Some (stack t) → Change t s → is_stacked s a ≡ true → (a ≡ next_activation t.state) ⊎ (is_stacked t.state a ≡ true)
stacked-before t s a there c h = elim (times-change t s a there c) [
  | inl few ↦ inr (grind (arith, nat_tests, few, stacked-times s a, stacked-times t.state a))
  | inr new ↦ inl new.0
]

module _ (program : Units) (ps : List ℕ) (p : ℕ) (t : State) (stepped : HasStepped (run program ps) p t) (next : t ≡ run program (ps ++ p ∷ [])) where
  there : numbered (run program ps).processes p ≡ Some (stepped.top.0 ∷ stepped.top.1)
  there = top-numbered (run program ps) p stepped.top stepped.lives

  aged-after : IsAged t
  aged-after = subst IsAged (sym next) (aged program (ps ++ p ∷ []))

  held-after : (a : ℕ) → is_held t a ≡ true → IsOnStack t a ⊎ HasHeldChild t a
  held-after a h = subst (λ z. is_held z a ≡ true → IsOnStack z a ⊎ HasHeldChild z a) (sym next) (held_is program (ps ++ p ∷ []) a).0 h

  top-held : is_held (run program ps) stepped.top.0.activation ≡ true
  top-held = (held_is program ps stepped.top.0.activation).1 (inl (stacked-top (run program ps) p stepped.top there))

  -- an activation that was made and is on a stack after the step was held before, and so is the parent of one that was held before
  on-before : (a : ℕ) → a ≤ length (run program ps).activations → IsOnStack t a → is_held (run program ps) a ≡ true
  on-before a le on = elim (stacked-before (top_in (run program ps) p stepped.top) t a there stepped.change (on-stacked t a on)) [
    | inl new ↦ absurd (omega (arith, new))
    | inr old ↦ (held_is program ps a).1 (inl (stacked-on (run program ps) a old))
  ]

  child-before : (a c : ℕ) → (c ≤ length (run program ps).activations → is_held (run program ps) c ≡ true) → parent_of t c ≡ Some a → is_held (run program ps) a ≡ true
  child-before a c held e =
      let later = older_parent t c a aged-after e in
      elim (news (top_in (run program ps) p stepped.top) t stepped.change) [
        | inl l ↦ (held_is program ps a).1 (inr (c, held (omega (arith, ap length l)), rw (same-activation (run program ps) t c l, parent_of) at e))
        | inr (x, new) ↦ elim (cases_order c (suc (length (run program ps).activations))) [
          | inl last ↦ subst (λ b. is_held (run program ps) b ≡ true) (same_Some stepped.top.0.activation a (sym new.1 ∙ (rw (last, activation-last (run program ps) t x new.0, parent_of) at e))) top-held
          | inr apart ↦
              let within : c ≤ length (run program ps).activations = omega (arith, apart, simp length-append at (ap length new.0)) in
              (held_is program ps a).1 (inr (c, held within, rw (activation-kept (run program ps) t x c new.0 within, parent_of) at e))
        ]
      ]

  -- what was made and is held after the step was held before
  held-before : (m a : ℕ) → length t.activations < m + a → a ≤ length (run program ps).activations → is_held t a ≡ true → is_held (run program ps) a ≡ true
  held-before zero a few le h = absurd (omega (arith, no-fewer (top_in (run program ps) p stepped.top) t stepped.change))
  held-before (suc m) a few le h = elim (held-after a h) [
    | inl on ↦ on-before a le on
    | inr child ↦
        let later = older_parent t child.0 a aged-after child.2 in
        child-before a child.0 (λ within. held-before m child.0 (omega arith) within child.1) child.2
  ]

-- what is held was made
pub held-made : (program : Units) (ps : List ℕ) (a : ℕ) → is_held (run program ps) a ≡ true → (1 ≤ a) × (a ≤ length (run program ps).activations)
held-made program ps a h = elim ((held_is program ps a).0 h) [
  | inl on ↦ on_stack_made (run program ps) a (aged program ps) on
  | inr child ↦ let later = older_parent (run program ps) child.0 a (aged program ps) child.2 in (later.0, omega (arith, later.1, later.2))
]

-- ---- frames that are kept

pub among-filter : (keep : ℕ → Bool) (a : ℕ) (fs : Layout) → frame_among a (filter (λ (f : Frame). keep f.activation) fs) ≡ (if keep a then frame_among a fs else None)
among-filter keep a [] = grind arith
among-filter keep a (g ∷ gs) = grind (arith, nat_tests, among-filter keep a gs)

single-filter : (keep : ℕ → Bool) (fs : Layout) → AreSingle fs → AreSingle (filter (λ (f : Frame). keep f.activation) fs)
single-filter keep [] h = tt
single-filter keep (g ∷ gs) h =
    let left = filter (λ (f : Frame). keep f.activation) gs in
    let rest = single-filter keep gs h.1 in
    cond_both (keep g.activation) (g ∷ left) left AreSingle (λ e. (grind (arith, h.0, among-filter keep g.activation gs), rest)) (λ e. rest)

apart-filter : (cells from : ℕ) (keep : ℕ → Bool) (fs : Layout) → StandApart cells from fs → StandApart cells from (filter (λ (f : Frame). keep f.activation) fs)
apart-filter cells from keep [] h = h
apart-filter cells from keep (g ∷ gs) h =
    let left = filter (λ (f : Frame). keep f.activation) gs in
    let rest = apart-filter cells (g.first + g.cells) keep gs h.2 in
    cond_both (keep g.activation) (g ∷ left) left (StandApart cells from) (λ e. (h.0, h.1, rest)) (λ e. apart_further cells from (g.first + g.cells) left (omega (arith, h.0)) rest)

kept-among : (keep : ℕ → Bool) (a : ℕ) (fs : Layout) (f : Frame) → frame_among a (filter (λ (g : Frame). keep g.activation) fs) ≡ Some f → frame_among a fs ≡ Some f
kept-among keep a fs f e = grind (arith, among-filter keep a fs)

pub laid-filter : (program : Units) (s : State) (cells : ℕ) (keep : ℕ → Bool) (layout : Layout) → IsLaid program s cells layout → IsLaid program s cells (filter (λ (f : Frame). keep f.activation) layout)
laid-filter program s cells keep layout laid =
    record {
      apart = apart-filter cells (common_cells program) keep layout laid.apart;
      single = single-filter keep layout laid.single;
      made = λ a f e. laid.made a f (kept-among keep a layout f e);
      sized = λ a f e. laid.sized a f (kept-among keep a layout f e);
    }

-- ---- a layout of a run

-- frames lie as those of a state do, and just the held activations have them
pub record IsPlaced (program : Units) (s : State) (cells : ℕ) (layout : Layout) : Type 0 where
  pub laid : IsLaid program s cells layout
  pub held : (a : ℕ) → is_some (frame_among a layout) ≡ is_held s a

-- frames of all that is held, the others given back
placed-after : (program : Units) (s : State) (cells : ℕ) (layout : Layout) → IsLaid program s cells layout → ((a : ℕ) → is_held s a ≡ true → is_some (frame_among a layout) ≡ true) → IsPlaced program s cells (remaining_layout is_held s layout)
placed-after program s cells layout laid all =
    record { laid = laid-filter program s cells (is_held s) layout laid; held = λ a. grind (arith, all a, among-filter (is_held s) a layout) }

-- ---- a turn

module _ (program : Units) (ps : List ℕ) (p : ℕ) (t : State) (next : t ≡ run program (ps ++ p ∷ [])) (before : (a : ℕ) → a ≤ length (run program ps).activations → is_held t a ≡ true → is_held (run program ps) a ≡ true) (cells : ℕ) (layout : Layout)
    (placed : IsPlaced program (run program ps) cells layout) where
  made-after : (a : ℕ) → is_held t a ≡ true → a ≤ length t.activations
  made-after a h = subst (λ z. is_held z a ≡ true → a ≤ length z.activations) (sym next) (λ k. (held-made program (ps ++ p ∷ []) a k).1) h

  placed-same : (after : Layout) → t.activations ≡ (run program ps).activations → layout_after_step program cells is_held (run program ps) t layout ≡ Some after → IsPlaced program t cells after
  placed-same after e is =
      subst (IsPlaced program t cells) (same_Some (remaining_layout is_held t layout) after (sym (layout-stays program cells (run program ps) t layout e) ∙ is)) (
      placed-after program t cells layout (laid-same program (run program ps) t cells layout e placed.laid) (λ a h. placed.held a ∙ before a (omega (arith, made-after a h, ap length e)) h))

  placed-more : (x : Activation) (after : Layout) → t.activations ≡ (run program ps).activations ++ x ∷ [] → layout_after_step program cells is_held (run program ps) t layout ≡ Some after → IsPlaced program t cells after
  placed-more x after e is =
      let long : length t.activations ≡ length (run program ps).activations + 1 = simp length-append at (ap length e) in
      let new = frame_from program t (length t.activations) in
      let kept = mapped_from (remaining_layout is_held t) (layout_with_activation program cells layout (length t.activations) (frame_of program t (length t.activations))) after (sym (layout-more program cells (run program ps) t x layout e) ∙ is) in
      let gap = mapped_from (λ first. with_frame layout (new first)) (lowest_gap cells (frame_of program t (length t.activations)) (common_cells program) layout) kept.0 kept.1 in
      let among = λ (a : ℕ). among-with_frame a layout (new gap.0) (unmade program (run program ps) t x layout gap.0 e placed.laid) in
      subst (IsPlaced program t cells) (ap (remaining_layout is_held t) gap.2 ∙ kept.2) (
      placed-after program t cells (with_frame layout (new gap.0)) (laid-entered program (run program ps) t x layout gap.0 e cells placed.laid gap.1) (λ a h.
      grind (arith, nat_tests, long, among a, placed.held a, before a, made-after a h, h)))

placed-turn : (program : Units) (ps : List ℕ) (p cells : ℕ) (layout after : Layout) → IsPlaced program (run program ps) cells layout
    → layout_after_step program cells is_held (run program ps) (state_after_turn program p (run program ps)) layout ≡ Some after → IsPlaced program (state_after_turn program p (run program ps)) cells after
placed-turn program ps p cells layout after placed = by_step (step program p (run program ps)) refl (run-last program ps p) where
  by_step : (o : Option State) → step program p (run program ps) ≡ o → run program (ps ++ p ∷ []) ≡ unwrap_or o (run program ps) → layout_after_step program cells is_held (run program ps) (unwrap_or o (run program ps)) layout ≡ Some after
      → IsPlaced program (unwrap_or o (run program ps)) cells after
  by_step None e last is = placed-same program ps p (run program ps) (sym last) (λ a le h. h) cells layout placed after refl is
  by_step (Some t) e last is =
      let stepped = step_changes program p (run program ps) t e in
      let before = λ (a : ℕ). held-before program ps p t stepped (sym last) (suc (length t.activations)) a (omega arith) in
      elim (news (top_in (run program ps) p stepped.top) t stepped.change) [
        | inl l ↦ placed-same program ps p t (sym last) before cells layout placed after l is
        | inr new ↦ placed-more program ps p t (sym last) before cells layout placed new.0 after new.1.0 is
      ]

-- ---- whole runs

-- the first frame
opening-stacked : (program : Units) → IsOnStack (run program []) 1
unfolding run run_from opening
opening-stacked program = (1, entry_level (unit_at program (main_unit program)) 1 ∷ [], refl, refl)

pub opening-single : (program : Units) → length (run program []).activations ≡ 1
unfolding run run_from opening
opening-single program = refl

pub opening-is : (program : Units) → run program [] ≡ opening program
unfolding run run_from
opening-is program = refl

opening-layout_is : (program : Units) (cells : ℕ)
    → opening_layout program cells ≡ option_map (λ first. frame_from program (run program []) 1 first ∷ []) (lowest_gap cells (frame_of program (run program []) 1) (common_cells program) [])
unfolding run run_from opening
opening-layout_is program cells = refl

pub placed-opening : (program : Units) (cells : ℕ) (layout : Layout) → opening_layout program cells ≡ Some layout → IsPlaced program (run program []) cells layout
placed-opening program cells layout e = subst (IsPlaced program (run program []) cells) found.2 (record {
  laid = record {
    apart = apart-with_frame cells (common_cells program) [] (new found.0) (omega arith) (gap_inside found.1) found.1;
    single = (refl, tt);
    made = λ a f k. let only = alone found.0 a f k in (omega (arith, only.0), omega (arith, only.0, opening-single program));
    sized = λ a f k. let only = alone found.0 a f k in ap (λ (z : Frame). z.cells) (sym only.1) ∙ ap (frame_of program (run program [])) only.0;
  };
  held = λ a. grind (arith, nat_tests, (held_is program [] 1).1 (inl (opening-stacked program)), held-made program [] a, opening-single program);
}) where
  new : ℕ → Frame
  new first = frame_from program (run program []) 1 first

  found : (first : ℕ) × (lowest_gap cells (frame_of program (run program []) 1) (common_cells program) [] ≡ Some first) × (new first ∷ [] ≡ layout)
  found = mapped_from (λ first. new first ∷ []) (lowest_gap cells (frame_of program (run program []) 1) (common_cells program) []) layout (sym (opening-layout_is program cells) ∙ e)

  gap_inside : {first : ℕ} → lowest_gap cells (frame_of program (run program []) 1) (common_cells program) [] ≡ Some first → common_cells program ≤ cells
  gap_inside g = grind (arith, nat_tests, g)

  alone : (first a : ℕ) (f : Frame) → frame_among a (new first ∷ []) ≡ Some f → (1 ≡ a) × (new first ≡ f)
  alone first a f h = (grind (arith, nat_tests), grind (arith, nat_tests))

pub placed-run : (program : Units) (cells : ℕ) (processes : List ℕ) (layout : Layout) → layout_of program cells is_held processes ≡ Some layout → IsPlaced program (run program processes) cells layout
unfolding placing_from
placed-run program cells = each-run (λ ps. (layout : Layout) → layout_of program cells is_held ps ≡ Some layout → IsPlaced program (run program ps) cells layout) first (λ ps p placed after e.
    let before = layout-before program cells ps p after e in
    rw run-last (placed-turn program ps p cells before.0 after (placed before.0 before.1) (sym (layout-last program cells ps p before.0 before.1) ∙ e))) where
      first : (layout : Layout) → layout_of program cells is_held [] ≡ Some layout → IsPlaced program (run program []) cells layout
      first = placed-opening program cells

-- ---- cells in use

-- the cells of an activation's frame in a layout
abbrev cells_among : Layout → ℕ → ℕ
cells_among fs a = option_map_or (λ (f : Frame). f.cells) (frame_among a fs) 0

abbrev sum_up_to : (ℕ → ℕ) → ℕ → ℕ
sum_up_to f zero = 0
sum_up_to f (suc n) = sum_up_to f n + f (suc n)

sum-same : (f g : ℕ → ℕ) (n : ℕ) → ((a : ℕ) → 1 ≤ a → a ≤ n → f a ≡ g a) → sum_up_to f n ≡ sum_up_to g n
sum-same f g zero h = refl
sum-same f g (suc n) h = omega (arith, sum-same f g n (λ a one le. h a one (omega (arith, le))), h (suc n) (omega arith) (omega arith))

-- one number more has a summand
sum-one : (f g : ℕ → ℕ) (c n : ℕ) → 1 ≤ c → c ≤ n → g c ≡ 0 → ((a : ℕ) → nat_eq c a ≡ false → f a ≡ g a) → sum_up_to f n ≡ f c + sum_up_to g n
sum-one f g c zero one le none others = absurd (omega arith)
sum-one f g c (suc n) one le none others =
    grind (arith, nat_tests, λ (below : c ≤ n). sum-one f g c n one below none others, others (suc n), λ (last : c ≡ suc n). sum-same f g n (λ a some at_most. others a (grind (arith, nat_tests))))

framed-sum : (n : ℕ) (fs : Layout) → AreSingle fs → ((a : ℕ) (f : Frame) → frame_among a fs ≡ Some f → (1 ≤ a) × (a ≤ n)) → sum_up_to (cells_among fs) n ≡ framed_cells fs
framed-sum zero [] h made = refl
framed-sum (suc n) [] h made = omega (arith, framed-sum n [] h (λ a f e. absurd (none-some f e)))
framed-sum n (g ∷ gs) h made =
    let itself = eq-eqb g.activation g.activation refl in
    let own = made g.activation g (rw itself refl) in
    let first : cells_among (g ∷ gs) g.activation ≡ g.cells = rw itself refl in
    let gone : cells_among gs g.activation ≡ 0 = rw h.0 refl in
    let split = sum-one (cells_among (g ∷ gs)) (cells_among gs) g.activation n own.0 own.1 gone (λ a other. rw other refl) in
    omega (arith, split, first, framed-sum n gs h.1 (λ a f e. made a f (grind (arith, nat_tests, h.0, e))))

used-sum : (program : Units) (s : State) (layout : Layout) (cells : ℕ) → IsPlaced program s cells layout → (n : ℕ) → frames_up_to program is_held s n ≡ sum_up_to (cells_among layout) n
used-sum program s layout cells placed zero = refl
used-sum program s layout cells placed (suc n) = omega (arith, used-sum program s layout cells placed n, last (frame_among (suc n) layout) refl (placed.held (suc n))) where
  last : (o : Option Frame) → frame_among (suc n) layout ≡ o → is_some o ≡ is_held s (suc n) → (if is_held s (suc n) then frame_of program s (suc n) else 0) ≡ option_map_or (λ (f : Frame). f.cells) o 0
  last None e h = rw (sym h) refl
  last (Some f) e h = rw (sym h) (sym (placed.laid.sized (suc n) f e))

-- COMMON and the frames of the layout
pub used-cells : (program : Units) (s : State) (layout : Layout) (cells : ℕ) → IsPlaced program s cells layout → used_cells program is_held s ≡ common_cells program + framed_cells layout
used-cells program s layout cells placed =
    ap (λ n. common_cells program + n) (used-sum program s layout cells placed (length s.activations) ∙ framed-sum (length s.activations) layout placed.laid.single placed.laid.made)

-- ---- what is held no more

pub held-earlier : (program : Units) (ps : List ℕ) (p a : ℕ) → a ≤ length (run program ps).activations → is_held (run program (ps ++ p ∷ [])) a ≡ true → is_held (run program ps) a ≡ true
held-earlier program ps p a le h =
    each_turn (λ z. is_held z a ≡ true → is_held (run program ps) a ≡ true) program p (run program ps) (λ k. k) (λ t e.
    held-before program ps p t (step_changes program p (run program ps) t e) (sym (turned program ps p t e)) (suc (length t.activations)) a (omega arith) le) (rw run-last at h)
