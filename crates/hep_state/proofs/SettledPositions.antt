-- Where the levels of a process stand in the code, whatever the cells of their DOs hold.
use Rattle.std.proofs.Common.{◌≡◌, ℕ, ◌+◌, ◌<◌, ◌≤◌, ◌-◌, true, List, [], ◌∷◌, ◌++◌, drop, length, length-drop, length-take, take, take_all, Some, None, refl, sym, ap, ◌∙◌, subst, arith, inl, inr, length-append, nat_eq}
use Rattle.std.specs.Option.{unwrap_or}
use Rattle.hep_machine.specs.Words.{Name, Value, Units, function_name, unit_at, level_after_statement, Frame, Layout, activations_on, unit_of, is_number_among, numbered, plug_work, Activation, Process, State, stack_after_return, stack_after_value, run}
use Rattle.hep_machine.specs.declared.slot.Slot.{Slot}
use Rattle.hep_machine.specs.State.{Level as SourceLevel}
use Rattle.hep_arena.specs.Gaps.{frame_among}
use Rattle.hep_code.specs.Words.{AreBelow, AreLevels, Awaits, IsOf, HoldsLoops, Stands}
use Rattle.hep_code.proofs.CodePositions.{StandsAt, after_statement_keeps, after_statement_stands}
use Rattle.hep_layout.specs.Words.{Describes, level_of, descriptor_slots, AreFramed, is_stacked, FrameNode, Nodes, times}
use Rattle.hep_layout.proofs.Memory.{activation-kept}
use Rattle.hep_image.proofs.CountedLoops.{counted}
use Rattle.hep_image.specs.Places.{addresses_of}
use Rattle.hep_step.specs.Simulation.{counts_in, unit_addressed}
use Rattle.hep_proc.specs.declared.process.Local.{Local}
use Rattle.hep_proc.specs.Stacks.{operands_answered, pending_answered, Stack}
use Rattle.hep_state.specs.Words.{AreThere, IsStack, IsThere, code_level, code_levels, kept_below, kept_by, levels_below, node_under}
use Rattle.std.proofs.lemmas.Bool.{cases_Bool, eq-eqb}
use Rattle.std.proofs.lemmas.List.{drop_all}
use Rattle.std.proofs.Math.Seq.{drop-append_seam, take-append_seam}
use Rattle.hep_layout.proofs.Stacks.{once, all_levels}
use Rattle.hep_layout.proofs.FrameTree.{on-stacked}
use Rattle.hep_binding.proofs.FoundShapes.{IsAmong, among-numbered, found, times-all}

-- ---- on stacks, where each is found by its activation

-- each level is that of its activation, which is on a stack
abbrev pub AreOn : State → Process → Type 0
AreOn s [] = Unit {0}
AreOn s (level ∷ levels) = (level_of s level.activation ≡ Some level) × (is_stacked s level.activation ≡ true) × AreOn s levels

among-number : (level : SourceLevel) (q : Process) → IsAmong level q → is_number_among level.activation (activations_on q) ≡ true
among-number level [] h = absurd h
among-number level (l ∷ ls) (inl here) = rw (eq-eqb level.activation l.activation (sym (ap (λ (z : SourceLevel). z.activation) here)))
among-number level (l ∷ ls) (inr more) =
    elim (cases_Bool (nat_eq level.activation l.activation)) [ inl own ↦ rw own | inr other ↦ rw other (among-number level ls more) ]

module _ (program : Units) (choices : List ℕ) (p : ℕ) (q : Process) (there : numbered (run program choices).processes p ≡ Some q) where
  each-on : (ls : Process) → ((level : SourceLevel) → IsAmong level ls → IsAmong level q) → AreOn (run program choices) ls
  each-on [] within = tt
  each-on (level ∷ levels) within =
      let s = run program choices in
      let a = level.activation in
      let here = within level (inl refl) in
      let few : times a (activations_on (all_levels s.processes)) ≤ 1 = omega (arith, times-all a s.processes, (once program choices a).0) in (
        found a (all_levels s.processes) level few (among-numbered level s.processes p q there here) refl,
        on-stacked s a (p, q, there, among-number level q here),
        each-on levels (λ l h. within l (inr h)),
      )

  pub are-on : AreOn (run program choices) q
  are-on = each-on q (λ level h. h)

-- ---- levels

-- the activation of a level is that of its node, was made, and runs the level's unit
pub record IsHere (program : Units) (s : State) (nodes : Nodes) (l : Local) (a : ℕ) : Type 0 where
  pub inside : l.unit < length program
  pub node : FrameNode
  pub there : nodes l.key ≡ Some node
  pub activation : a ≡ node.activation
  pub made : (1 ≤ a) × (a ≤ length s.activations)
  pub unit : unit_of s a ≡ l.unit

-- below one of a unit, whose end it awaits
pub record StandsBelow (program : Units) (s : State) (nodes : Nodes) (above : ℕ) (vs : List Value) (l : Local) (level : SourceLevel) : Type 0 where
  pub here : IsHere program s nodes l level.activation
  pub awaits : Awaits (function_name (unit_at program above)) (unit_addressed program l.unit) level vs l.index

pub record StandsOnTop (program : Units) (s : State) (nodes : Nodes) (vs : List Value) (l : Local) (level : SourceLevel) : Type 0 where
  pub here : IsHere program s nodes l level.activation
  pub stands : Stands (unit_addressed program l.unit) level.statement level.work vs l.index

module _ (program : Units) (s : State) (nodes : Nodes) where
  -- each with the last of the operands that are pending, and those below it with the others
  abbrev pub AreStandingBelow : ℕ → List Value → List Local → Process → Type 0
  AreStandingBelow above pending [] [] = Unit {0}
  AreStandingBelow above pending (l ∷ ls) (level ∷ levels) =
      StandsBelow program s nodes above (drop (length pending - l.kept) pending) l level × AreStandingBelow l.unit (take (length pending - l.kept) pending) ls levels
  AreStandingBelow above pending _ _ = ⊥

  abbrev pub AreStanding : List Value → List Value → List Local → Process → Type 0
  AreStanding vs pending [] [] = length pending ≡ 0
  AreStanding vs pending (l ∷ ls) (level ∷ levels) = StandsOnTop program s nodes vs l level × AreStandingBelow l.unit pending ls levels × (length pending ≡ kept_by ls)
  AreStanding vs pending _ _ = ⊥

  -- ---- of levels in the code

  module _ (contents : List Slot) where
    node-is : (l : Local) (n : FrameNode) → nodes l.key ≡ Some n → node_under nodes l.key ≡ n
    node-is l n e = ap (λ o. unwrap_or o (node_under (λ k. None) 0)) e

    is-here : (vs : List Value) (l : Local) (level : SourceLevel) → IsThere program nodes l → IsOf program (addresses_of program) s (code_level program contents nodes vs l) level → IsHere program s nodes l level.activation
    is-here vs l level there h =
        record {
          inside = there.0;
          node = node_under nodes l.key;
          there = there.1;
          activation = h.activation;
          made = subst (λ a. (1 ≤ a) × (a ≤ length s.activations)) (sym h.activation) h.made;
          unit = ap (unit_of s) h.activation ∙ h.unit;
        }

    standing-below : (above : ℕ) (pending : List Value) (ls : List Local) (levels : Process) → AreThere program nodes ls → AreBelow program (addresses_of program) s above (levels_below program contents nodes pending ls) levels → AreStandingBelow above pending ls levels
    standing-below above pending [] [] there h = tt
    standing-below above pending (l ∷ ls) (level ∷ levels) there h = (
      record { here = is-here (drop (length pending - l.kept) pending) l level there.0 h.0.is_of; awaits = h.0.awaits },
      standing-below l.unit (take (length pending - l.kept) pending) ls levels there.1 h.1,
    )
    standing-below above pending _ _ there h = absurd h

    pub standing : (vs pending : List Value) (ls : List Local) (levels : Process) → AreThere program nodes ls → AreLevels program (addresses_of program) s (code_levels program contents nodes vs pending ls) levels → length pending ≡ kept_below ls
        → AreStanding vs pending ls levels
    standing vs pending [] [] there h counted = counted
    standing vs pending (l ∷ ls) (level ∷ levels) there h counted = (record { here = is-here vs l level there.0 h.0.is_of; stands = h.0.at.stands }, standing-below l.unit pending ls levels there.1 h.1, counted)
    standing vs pending _ _ there h counted = absurd h

    -- ---- and back, where the cells of DOs hold what is wanted

    module _ (layout : Layout) (described : Describes program s layout (descriptor_slots program s layout) contents) (framed : AreFramed layout nodes) where
      there-again : (l : Local) (a : ℕ) → IsHere program s nodes l a → IsThere program nodes l
      there-again l a h = (h.inside, h.there ∙ ap (λ (n : FrameNode). Some n) (sym (node-is l h.node h.there)))

      of-again : (vs : List Value) (l : Local) (level : SourceLevel) → IsHere program s nodes l level.activation → IsOf program (addresses_of program) s (code_level program contents nodes vs l) level
      of-again vs l level h =
          let same : level.activation ≡ (node_under nodes l.key).activation = h.activation ∙ ap (λ (n : FrameNode). n.activation) (sym (node-is l h.node h.there)) in
          record {
            activation = same;
            made = subst (λ a. (1 ≤ a) × (a ≤ length s.activations)) same h.made;
            unit = ap (unit_of s) (sym same) ∙ h.unit;
          }

      loops-again : (l : Local) (level : SourceLevel) → IsHere program s nodes l level.activation → level_of s level.activation ≡ Some level
          → HoldsLoops (unit_at program l.unit) (counts_in (unit_at program l.unit) contents (node_under nodes l.key).first) level.loops
      loops-again l level h on =
          let n = h.node in
          let frame : Frame = record { activation = n.activation; first = n.first; cells = n.cells } in
          let found : frame_among level.activation layout ≡ Some frame = ap (λ a. frame_among a layout) h.activation ∙ framed l.key n h.there in
          subst (λ u. HoldsLoops (unit_at program u) (counts_in (unit_at program u) contents (node_under nodes l.key).first) level.loops) h.unit (
          subst (λ (m : FrameNode). HoldsLoops (unit_at program (unit_of s level.activation)) (counts_in (unit_at program (unit_of s level.activation)) contents m.first) level.loops) (sym (node-is l n h.there)) (
          counted program s layout contents level.activation frame level described found on))

      below-again : (above : ℕ) (pending : List Value) (ls : List Local) (levels : Process) → AreStandingBelow above pending ls levels → AreOn s levels → AreThere program nodes ls × AreBelow program (addresses_of program) s above (levels_below program contents nodes pending ls) levels
      below-again above pending [] [] h on = (tt, tt)
      below-again above pending (l ∷ ls) (level ∷ levels) h on =
          let own = drop (length pending - l.kept) pending in
          let rest = below-again l.unit (take (length pending - l.kept) pending) ls levels h.1 on.2 in (
            (there-again l level.activation h.0.here, rest.0),
            (record { is_of = of-again own l level h.0.here; awaits = h.0.awaits; loops = loops-again l level h.0.here on.0 }, rest.1),
          )
      below-again above pending _ _ h on = absurd h

      levels-again : (vs pending : List Value) (ls : List Local) (levels : Process) → AreStanding vs pending ls levels → AreOn s levels
          → AreThere program nodes ls × AreLevels program (addresses_of program) s (code_levels program contents nodes vs pending ls) levels × (length pending ≡ kept_below ls)
      levels-again vs pending [] [] h on = (tt, tt, h)
      levels-again vs pending (l ∷ ls) (level ∷ levels) h on =
          let rest = below-again l.unit pending ls levels h.1 on.2 in (
            (there-again l level.activation h.0.here, rest.0),
            (record { is_of = of-again vs l level h.0.here; at = record { stands = h.0.stands; loops = loops-again l level h.0.here on.0 } }, rest.1),
            h.2,
          )
      levels-again vs pending _ _ h on = absurd h

      pub stack-again : (k : Stack) (q : Process) → AreStanding k.operands k.pending k.levels q → AreOn s q → IsStack program s contents nodes k q
      stack-again k q h on = let all = levels-again k.operands k.pending k.levels q h on in record { there = all.0; levels = all.1; counted = all.2 }

  pub stack-standing : (contents : List Slot) (k : Stack) (q : Process) → IsStack program s contents nodes k q → AreStanding k.operands k.pending k.levels q
  stack-standing contents k q h = standing contents k.operands k.pending k.levels q h.there h.levels h.counted

-- ---- another state that has the activations, where the nodes are under their keys still

-- what was made is so still, with its unit
abbrev pub AreMade : State → State → Type 0
AreMade s t = (a : ℕ) → a ≤ length s.activations → (a ≤ length t.activations) × (unit_of t a ≡ unit_of s a)

pub made-same : (s t : State) → t.activations ≡ s.activations → AreMade s t
made-same s t same a le =
    (subst (λ (xs : List Activation). a ≤ length xs) (sym same) le, ap (λ (xs : List Activation). unit_of (record s { activations = xs }) a) same)

pub made-more : (s t : State) (x : Activation) → t.activations ≡ s.activations ++ x ∷ [] → AreMade s t
made-more s t x more a le =
    let long : length t.activations ≡ length s.activations + 1 = ap (λ (xs : List Activation). length xs) more ∙ length-append s.activations (x ∷ []) in
    (omega (arith, long, le), ap (λ (z : Activation). z.unit) (activation-kept s t x a more le))

module _ (program : Units) (s t : State) (old new : Nodes) (made : AreMade s t)
    (stay : (key : ℕ) (n : FrameNode) → old key ≡ Some n → is_stacked t n.activation ≡ true → (m : FrameNode) × (new key ≡ Some m) × (m.activation ≡ n.activation)) where
  pub here-still : (l : Local) (a : ℕ) → IsHere program s old l a → is_stacked t a ≡ true → IsHere program t new l a
  here-still l a h on =
      let kept = stay l.key h.node h.there (sym (ap (is_stacked t) h.activation) ∙ on) in
      let still = made a h.made.1 in
      record {
        inside = h.inside;
        node = kept.0;
        there = kept.1;
        activation = h.activation ∙ sym kept.2;
        made = (h.made.0, still.0);
        unit = still.1 ∙ h.unit;
      }

  pub below-still : (above : ℕ) (pending : List Value) (ls : List Local) (levels : Process) → AreStandingBelow program s old above pending ls levels → AreOn t levels → AreStandingBelow program t new above pending ls levels
  below-still above pending [] [] h on = tt
  below-still above pending (l ∷ ls) (level ∷ levels) h on = (
    record { here = here-still l level.activation h.0.here on.1; awaits = h.0.awaits },
    below-still l.unit (take (length pending - l.kept) pending) ls levels h.1 on.2,
  )
  below-still above pending _ _ h on = absurd h

  pub standing-still : (vs pending : List Value) (ls : List Local) (levels : Process) → AreStanding program s old vs pending ls levels → AreOn t levels → AreStanding program t new vs pending ls levels
  standing-still vs pending [] [] h on = h
  standing-still vs pending (l ∷ ls) (level ∷ levels) h on = (record { here = here-still l level.activation h.0.here on.1; stands = h.0.stands }, below-still l.unit pending ls levels h.1 on.2, h.2)
  standing-still vs pending _ _ h on = absurd h

-- ---- the top

-- one that keeps no operands leaves those that are pending to the levels below it
pub keeps-none : (pending : List Value) (kept : ℕ) → kept ≡ 0 → (drop (length pending - kept) pending ≡ []) × (take (length pending - kept) pending ≡ pending)
keeps-none pending kept none = (
  drop_all (length pending - kept) pending (omega (arith, none)),
  take_all (length pending - kept) pending (omega (arith, none)),
)

-- and one that keeps the last ones leaves the others
pub keeps-last : (pending vs : List Value) (kept : ℕ) → kept ≡ length vs → (drop (length (pending ++ vs) - kept) (pending ++ vs) ≡ vs) × (take (length (pending ++ vs) - kept) (pending ++ vs) ≡ pending)
keeps-last pending vs kept same =
    let many : length (pending ++ vs) - kept ≡ length pending = omega (arith, same, length-append pending vs) in
    (ap (λ n. drop n (pending ++ vs)) many ∙ drop-append_seam pending vs, ap (λ n. take n (pending ++ vs)) many ∙ take-append_seam pending vs)

module _ (program : Units) (s : State) (nodes : Nodes) where
  -- where it is elsewhere in its unit, and its activation is told otherwise
  pub here-at : (l later : Local) (a b : ℕ) → later.key ≡ l.key → later.unit ≡ l.unit → b ≡ a → IsHere program s nodes l a → IsHere program s nodes later b
  here-at l later a b key unit same h =
      record {
        inside = subst (λ u. u < length program) (sym unit) h.inside;
        node = h.node;
        there = ap nodes key ∙ h.there;
        activation = same ∙ h.activation;
        made = subst (λ c. (1 ≤ c) × (c ≤ length s.activations)) (sym same) h.made;
        unit = ap (unit_of s) same ∙ (h.unit ∙ sym unit);
      }

  -- another level of its activation, where that stands
  pub top-stands : (vs new pending : List Value) (l : Local) (ls : List Local) (level after : SourceLevel) (levels : Process) (index : ℕ) → AreStanding program s nodes vs pending (l ∷ ls) (level ∷ levels)
      → after.activation ≡ level.activation → Stands (unit_addressed program l.unit) after.statement after.work new index → AreStanding program s nodes new pending (record l { index = index } ∷ ls) (after ∷ levels)
  top-stands vs new pending l ls level after levels index h same stands = (record { here = here-at l (record l { index = index }) level.activation after.activation refl refl same h.0.here; stands = stands }, h.1, h.2)

  -- once it has ended, which has no result, its caller goes on, which keeps no operands
  pub caller-stands : (above : ℕ) (pending : List Value) (ls : List Local) (levels : Process) → function_name (unit_at program above) ≡ None → AreStandingBelow program s nodes above pending ls levels → length pending ≡ kept_by ls
      → AreStanding program s nodes [] pending ls (stack_after_return program s levels)
  caller-stands above pending [] [] none_of h counted = counted
  caller-stands above pending (l ∷ ls) (level ∷ levels) none_of h counted =
      let awaits = subst (λ x. Awaits x (unit_addressed program l.unit) level (drop (length pending - l.kept) pending) l.index) none_of h.0.awaits in
      let none : l.kept ≡ 0 = omega (arith, counted, length-drop (length pending - l.kept) pending, ap length awaits.1) in
      let addressed = unit_addressed program l.unit in
      let here = h.0.here in
      let same = (after_statement_keeps addressed level).1 in
      subst (λ u. AreStanding program s nodes [] pending (l ∷ ls) (level_after_statement (unit_at program u) level ∷ levels)) (sym here.unit) (
        record {
          here = subst (IsHere program s nodes l) (sym same) here;
          stands = subst (StandsAt addressed (level_after_statement addressed.unit level)) (sym awaits.0) (after_statement_stands addressed level);
        },
        subst (λ rest. AreStandingBelow program s nodes l.unit rest ls levels) (keeps-none pending l.kept none).1 h.1,
        omega (arith, counted, none),
      )
  caller-stands above pending _ _ none_of h counted = absurd h

  -- and once it has ended with a value, that of a function, the one below it goes on, which has its operands back, and the value behind them
  pub answer-stands : (above : ℕ) (x : Name) (v : Value) (pending : List Value) (ls : List Local) (levels : Process) → function_name (unit_at program above) ≡ Some x → AreStandingBelow program s nodes above pending ls levels → length pending ≡ kept_by ls
      → AreStanding program s nodes (operands_answered pending ls v) (pending_answered pending ls) ls (stack_after_value program s v levels)
  answer-stands above x v pending [] [] result h counted = counted
  answer-stands above x v pending (l ∷ ls) (level ∷ levels) result h counted =
      let addressed = unit_addressed program l.unit in
      let vs = drop (length pending - l.kept) pending in
      let awaits = subst (λ y. Awaits y addressed level vs l.index) result h.0.awaits in
      let here = h.0.here in
      subst (λ u. AreStanding program s nodes (vs ++ v ∷ []) (take (length pending - l.kept) pending) (l ∷ ls) (record level { work = plug_work (unit_at program u) level.work v } ∷ levels)) (sym here.unit) (
        record { here = here; stands = awaits v },
        h.1,
        omega (arith, counted, length-take (length pending - l.kept) pending),
      )
  answer-stands above x v pending _ _ result h counted = absurd h
