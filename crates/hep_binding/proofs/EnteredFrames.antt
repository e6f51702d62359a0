-- Once the cells of a new frame are written, the frames of the state with its activation are kept.
use Rattle.std.proofs.Common.{◌≡◌, inl, inr, ℕ, ◌-◌, ◌≤◌, true, false, List, [], ◌∷◌, Some, refl, sym, ap, ◌∙◌, subst, arith, ◌⊎◌, ◌<◌, Bool, length, Option, None, nat_eq, if◌then◌else◌, eq-eqb, eqb-true, lt-ltb}
use Rattle.std.proofs.lemmas.Grind.{flat_map-append}
use Rattle.hep_machine.specs.Words.{Units, unit_at, activations_on, Frame, Layout, living, with_numbered, unit_of, Level, Process, State, Activation, Statement, unset_cell, frame_cells}
use Rattle.hep_layout.specs.Words.{level_of, Describes, loop_among, slot_of_loop, slot_on_level, descriptor_slots, times, IsLaid, cell_in, frame_address, frame_from, FramePart, argument, iteration, bounds, frame_row, place_of_part, same_part, AreNeededBut, also, is_stacked, IsFrameTree, Nodes}
use Rattle.hep_layout.proofs.Stacks.{once, top-numbered, all_levels}
use Rattle.hep_binding.proofs.FoundShapes.{IsAmong, among-numbered, among-parts, among-set, find-among, found, times-all}
use Rattle.std.proofs.lemmas.Option.{none-some}
use Rattle.hep_machine.specs.declared.slot.Slot.{Slot}
use Rattle.hep_arena.specs.Gaps.{frame_among}
use Rattle.hep_arena.specs.Space.{Space}
use Rattle.hep_layout.proofs.Addresses.{IsFramed, framed}
use Rattle.hep_layout.proofs.FrameRows.{equal_parts, frame_row-cells}
use Rattle.hep_layout.proofs.Memory.{one-of}
use Rattle.hep_layout.proofs.References.{references-made}
use Rattle.hep_layout.proofs.Rows.{owned-by}
use Rattle.hep_layout.proofs.Wants.{wanted-entered}
use Rattle.hep_binding.specs.Calling.{CallOf, IsAllWritten, IsKeptIn, called_activation, frames_before_call, layout_with, level_behind, level_called, state_before_call, state_begun, state_called, state_created, state_made_by}
use Rattle.hep_binding.proofs.Calls.{behind-keeps, entry-number, made-begun, made-stacks}
use Rattle.hep_binding.specs.FrameWriting.{is_before}

-- ---- the levels of the other activations stay

-- a level's DOs were those of its activation's level
abbrev pub WereLoops : State → ℕ → Level → Type 0
WereLoops s a x = (y : Level) × (level_of s a ≡ Some y) × (y.loops ≡ x.loops)

module _ (call : CallOf) (lives : living (state_before_call call) call.process ≡ Some call.top) (a : ℕ) (other : nat_eq a (length (state_begun call).activations) ≡ false) where
  abbrev s : State
  s = state_before_call call

  were : (x y : Level) → IsAmong y (all_levels s.processes) → y.activation ≡ a → y.loops ≡ x.loops → WereLoops s a x
  were x y there same loops =
      let few : times a (activations_on (all_levels s.processes)) ≤ 1 = omega (arith, times-all a s.processes, (once call.program call.choices a).0) in
      (y, found a (all_levels s.processes) y few there same, loops)

  -- those of its process
  own-were : (x y : Level) → IsAmong y (call.top.0 ∷ call.top.1) → y.activation ≡ a → y.loops ≡ x.loops → WereLoops s a x
  own-were x y there = were x y (among-numbered y s.processes call.process (call.top.0 ∷ call.top.1) (top-numbered s call.process call.top lives) there)

  -- the new one isn't that of such an activation
  not-new : (x : Level) → level_called call ≡ x → x.activation ≡ a → ⊥
  not-new x same own =
      let both : true ≡ false = sym (eq-eqb a (length (state_begun call).activations) (sym own ∙ (ap (λ (z : Level). z.activation) (sym same) ∙ entry-number call))) ∙ other in
      cc

  -- the caller or creator may be behind the statement
  behind-were : (x : Level) → IsAmong x (level_behind call ∷ call.top.1) → x.activation ≡ a → WereLoops s a x
  behind-were x (inl same) own =
      let keeps = behind-keeps call in
      own-were x call.top.0 (inl refl) (sym keeps.1 ∙ (ap (λ (z : Level). z.activation) same ∙ own)) (sym keeps.0 ∙ ap (λ (z : Level). z.loops) same)
  behind-were x (inr rest) own = own-were x x (inr rest) own refl

  pub made-loops : (creates : Bool) (x : Level) → level_of (state_made_by creates call) a ≡ Some x → WereLoops (state_before_call call) a x
  made-loops false x e =
      let q : Process = level_called call ∷ (call.top.0 ∷ call.top.1) in
      let now = find-among a (all_levels (state_called call).processes) x e in
      elim (among-set x s.processes (call.process - 1) q now.0) [ inl (inl same) ↦ absurd (not-new x same now.1) | inl (inr rest) ↦ own-were x x rest now.1 refl | inr was ↦ were x x was now.1 refl ]
  made-loops true x e =
      let q : Process = level_behind call ∷ call.top.1 in
      let new : List Process = (level_called call ∷ []) ∷ [] in
      let qs = with_numbered s.processes call.process q in
      let now = find-among a (all_levels (state_created call).processes) x e in
      elim (among-parts x (all_levels qs) (all_levels new) (subst (IsAmong x) (flat_map-append (λ (r : Process). r) qs new) now.0)) [
        | inr (inl same) ↦ absurd (not-new x same now.1)
        | inr (inr none) ↦ absurd none
        | inl front ↦ elim (among-set x s.processes (call.process - 1) q front) [ inl own ↦ behind-were x own now.1 | inr was ↦ were x x was now.1 refl ]
      ]

-- ---- all frames are kept

module _ (creates : Bool) (call : CallOf) (lives : living (state_before_call call) call.process ≡ Some call.top) (layout : Layout) (first cells : ℕ) (laid : IsLaid call.program (state_before_call call) cells layout) where
  abbrev program : Units
  program = call.program

  abbrev old : State
  old = state_before_call call

  abbrev t : State
  t = state_made_by creates call

  abbrev x : Activation
  x = called_activation call

  abbrev n : ℕ
  n = length t.activations

  abbrev after : Layout
  after = layout_with program t layout first

  more : t.activations ≡ (state_begun call).activations
  more = made-begun creates call

  -- what is wanted of the others was wanted
  was-wanted : (a : ℕ) (c : FramePart × ℕ) (v : Slot) → nat_eq a n ≡ false → a ≤ length old.activations → descriptor_slots program t after a c ≡ Some v → descriptor_slots program old layout a c ≡ Some v
  was-wanted a (iteration d, i) v other le w = by_level (level_of t a) refl w where
    by_level : (o : Option Level) → level_of t a ≡ o → slot_on_level o d i ≡ Some v → slot_on_level (level_of old a) d i ≡ Some v
    by_level None e w = absurd (none-some v w)
    by_level (Some y) e w = let was = made-loops call lives a (ap (λ (xs : List Activation). nat_eq a (length xs)) (sym more) ∙ other) creates y e in ap (λ o. slot_on_level o d i) was.1 ∙ (ap (λ ls. slot_of_loop (loop_among d ls) i) was.2 ∙ w)
  was-wanted a (argument y, i) v other le w =
      sym (wanted-entered program old (record t { processes = old.processes }) x layout first cells a (argument y, i) laid more le (λ k. references-made program call.choices a k le) refl) ∙ w
  was-wanted a (bounds y, i) v other le w =
      sym (wanted-entered program old (record t { processes = old.processes }) x layout first cells a (bounds y, i) laid more le (λ k. references-made program call.choices a k le) refl) ∙ w
  was-wanted a (_, i) v other le w = w

  -- each cell of the new frame is among those that were written
  all-before : (c : FramePart × ℕ) (p : ℕ) → frame_address program t after n c ≡ Some p → is_before (frame_cells (unit_at program (unit_of t n))) (place_of_part (unit_at program (unit_of t n)) c.0 c.1) ≡ true
  all-before c p k = by_place (place_of_part unit c.0 c.1) refl k where
    unit : List Statement
    unit = unit_at program (unit_of t n)

    no-cell : (o : Option Frame) → cell_in o None ≡ Some p → ⊥
    no-cell None e = none-some p e
    no-cell (Some frame) e = none-some p e

    by_place : (o : Option ℕ) → place_of_part unit c.0 c.1 ≡ o → cell_in (frame_among n after) o ≡ Some p → is_before (frame_cells unit) o ≡ true
    by_place None e k = absurd (no-cell (frame_among n after) k)
    by_place (Some m) e k = lt-ltb m (frame_cells unit) (subst (λ z. m < z) (frame_row-cells unit) (owned-by (same_part c.0) c.0 c.1 (frame_row unit) m (equal_parts c.0) e).1)

  module _ (out : ℕ → Bool) (arena : Space) (nodes : Nodes) (h : IsAllWritten (frames_before_call call out layout) (state_made_by creates call) first arena nodes) where
    described : Describes program t after (descriptor_slots program t after) arena.contents
    described a c p v is k w = h.described a c p v is k (by_number (nat_eq a n) refl) where
      unit : List Statement
      unit = unit_at program (unit_of t n)

      frame : IsFramed program t (length arena.contents) after a c p
      frame = framed program t (length arena.contents) after a c p h.memory.laid k

      by_number : (b : Bool) → nat_eq a n ≡ b → (if b then (if is_before (frame_cells unit) (place_of_part unit c.0 c.1) then descriptor_slots program t after n c else Some unset_cell) else descriptor_slots program old layout a c) ≡ Some v
      by_number true e =
          let same = eqb-true a n e in
          let before = all-before c p (ap (λ z. frame_address program t after z c) (sym same) ∙ k) in
          ap (λ z. if z then descriptor_slots program t after n c else Some unset_cell) before ∙ (ap (λ z. descriptor_slots program t after z c) (sym same) ∙ w)
      by_number false e = was-wanted a c v e (by_frame (one-of program old t x layout first more a frame.frame laid frame.framed)) w where
        by_frame : ((n ≡ a) × (frame_from program t n first ≡ frame.frame)) ⊎ (frame_among a layout ≡ Some frame.frame) → a ≤ length old.activations
        by_frame (inl same) = let both : true ≡ false = sym (eq-eqb a n (sym same.0)) ∙ e in absurd cc
        by_frame (inr there) = (laid.made a frame.frame there).1

    pub made-keeps : IsKeptIn (frames_before_call call out layout) (state_made_by creates call) first arena nodes
    made-keeps =
        let same : also n (is_stacked old) ≡ is_stacked t = λ i a. sym (made-stacks call lives creates a) i in
        record {
          memory = h.memory;
          tree = subst (λ test. IsFrameTree t test (also n out) nodes) same h.tree;
          rest = subst (λ test. AreNeededBut None t test (also n out)) same h.rest;
          framed = h.framed;
          frames_are = h.frames_are;
          described = described;
        }
