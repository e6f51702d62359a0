-- The main program's activation begins.
use Rattle.std.proofs.Common.{◌≡◌, ◌⊎◌, inl, inr, ℕ, Bool, true, false, List, [], ◌∷◌, ◌++◌, length, Some, None, refl, sym, ap, ◌∙◌, subst, arith, if◌then◌else◌, nat_eq, nat_lt, slice_get, is_some}
use Rattle.std.specs.Option.{option_map}
use Rattle.std.proofs.lemmas.Option.{same_Some, none-some}
use Rattle.hep_machine.specs.Words.{Units, main_unit, unset_cell, Frame, common_cells, frame_of, layout_with_activation, lowest_gap, opening_layout, with_frame, opening, run, Activation, Location, Process, State}
use Rattle.hep_machine.specs.declared.slot.Slot.{Slot}
use Rattle.hep_arena.specs.Gaps.{frame_among}
use Rattle.hep_arena.specs.Holes.{IsOut, first_fit}
use Rattle.hep_arena.specs.Space.{Space}
use Rattle.hep_layout.specs.Words.{IsLaid, IsMemory, address, frame_from, Describes, DescriptorSlots, FramePart, AreFramed, first_nodes, is_stacked, IsAtRest, IsFrameTree, Nodes}
use Rattle.hep_layout.proofs.Addresses.{IsCommon, IsLocal, framed, in-common, located}
use Rattle.hep_layout.proofs.Beginning.{rest-first}
use Rattle.hep_layout.proofs.Descriptors.{described-entered}
use Rattle.hep_layout.proofs.HeldFrames.{opening-is}
use Rattle.hep_layout.proofs.Memory.{memory-entered, memory-fits}
use Rattle.hep_layout.proofs.Resting.{rest-same}
use Rattle.hep_proc.specs.FrameTable.{frames_in, IsOpening, IsTaken, IsUnused, Keeps}
use Rattle.hep_source.proofs.Tests.{numbers-turned}
use Rattle.hep_layout.specs.Words.{FrameNode}

-- ---- the one activation

opening-length : (program : Units) → length (opening program).activations ≡ 1
unfolding opening
opening-length program = refl

one-only : {A : Type 0} (xs : List A) → length xs ≡ 1 → (x : A) × (xs ≡ [] ++ x ∷ [])
one-only [] e = absurd (omega (arith, e))
one-only (x ∷ []) e = (x, refl)
one-only (x ∷ y ∷ ys) e = absurd (omega (arith, e))

-- ---- before it

-- a state with no activation, of which COMMON alone has cells
module _ (program : Units) (s : State) (arena : Space) (nodes : Nodes) (unused : IsUnused (common_cells program) arena nodes) (unset : (at : Location) → s.store at ≡ unset_cell) where
  abbrev pub bare : State
  bare = record s { activations = [] }

  pub unused-memory : IsMemory program bare [] arena.contents arena.holes
  unused-memory = record { laid = laid; holds = holds; holes_are = unused.holes_are } where
    laid : IsLaid program bare (length arena.contents) []
    laid =
        record {
          apart = unused.fits;
          single = tt;
          made = λ a f e. absurd (none-some f e);
          sized = λ a f e. absurd (none-some f e);
        }

    holds : (at : Location) (p : ℕ) → address program bare [] at ≡ Some p → slice_get arena.contents p ≡ Some (s.store at)
    holds at p e = by_kind (located program bare [] at p e) where
      by_kind : IsLocal program bare [] at p ⊎ IsCommon program at p → slice_get arena.contents p ≡ Some (s.store at)
      by_kind (inl l) =
          let frame = framed program bare (length arena.contents) [] l.activation l.cell p laid l.cell_at in
          absurd (none-some frame.frame frame.framed)
      by_kind (inr c) = unused.unset p (in-common program at p c).1 ∙ ap (λ z. Some z) (sym (unset at))

-- ---- the layout

pub opening-gap : (program : Units) (cells : ℕ) → opening_layout program cells ≡ layout_with_activation program cells [] 1 (frame_of program (run program []) 1)
opening-gap program cells =
    ap (λ m. if nat_lt 0 m then layout_with_activation program cells [] m (frame_of program (opening program) m) else Some []) (opening-length program)
    ∙ ap (λ (s : State). layout_with_activation program cells [] 1 (frame_of program s 1)) (sym (opening-is program))

same-frame : (program : Units) (s t : State) (a : ℕ) → t.activations ≡ s.activations → frame_of program t a ≡ frame_of program s a
same-frame program s t a e = ap (λ (xs : List Activation). frame_of program (record s { activations = xs }) a) e

module _ (program : Units) (s : State) (wanted : DescriptorSlots) (before after : Space) (old new : Nodes) (v first cells : ℕ)
    (unused : IsUnused (common_cells program) before old) (starts : IsOpening program s) (size : cells ≡ frame_of program s 1)
    (fit : first_fit cells before.holes ≡ Some first) (took : IsTaken cells first before after) (nodes : new ≡ first_nodes v (main_unit program) first cells)
    (blank : (c : FramePart × ℕ) (w : Slot) → wanted 1 c ≡ Some w → w ≡ unset_cell) where
  one : length s.activations ≡ 1
  one = ap (λ (xs : List Activation). length xs) starts.activations_are ∙ (ap (λ (u : State). length u.activations) (opening-is program) ∙ opening-length program)

  abbrev bare_state : State
  bare_state = record s { activations = [] }

  abbrev frame : Frame
  frame = record { activation = 1; first = first; cells = cells }

  -- the new frame is that of the one activation
  frame-is : frame_from program s (length s.activations) first ≡ frame
  frame-is = ap (λ a. frame_from program s a first) one ∙ ap (λ n. record { activation = 1; first = first; cells = n }) (sym size)

  size-is : cells ≡ frame_of program s (length s.activations)
  size-is = size ∙ ap (frame_of program s) (sym one)

  fit-here : first_fit (frame_of program s (length s.activations)) before.holes ≡ Some first
  fit-here = ap (λ n. first_fit n before.holes) (sym size-is) ∙ fit

  took-here : IsTaken (frame_of program s (length s.activations)) first before after
  took-here = subst (λ n. IsTaken n first before after) size-is took

  bare-memory : IsMemory program bare_state [] before.contents before.holes
  bare-memory = unused-memory program s before old unused starts.unset

  gap : lowest_gap (length before.contents) (frame_of program s (length s.activations)) (common_cells program) [] ≡ Some first
  gap = sym (memory-fits program bare_state [] before.contents before.holes (frame_of program s (length s.activations)) bare-memory (omega arith)) ∙ fit-here

  pub opened-layout : opening_layout program (length before.contents) ≡ Some (frame ∷ [])
  opened-layout =
      opening-gap program (length before.contents)
      ∙ (ap (layout_with_activation program (length before.contents) [] 1) (sym (same-frame program (run program []) s 1 starts.activations_are) ∙ sym size)
      ∙ ap (option_map (λ n. with_frame [] (record { activation = 1; first = n; cells = cells }))) (ap (λ n. lowest_gap (length before.contents) n (common_cells program) []) size-is ∙ gap))

  memory-now : IsMemory program s (frame ∷ []) after.contents after.holes
  memory-now =
      let x = one-only s.activations one in
      subst (λ f. IsMemory program s (f ∷ []) after.contents after.holes) frame-is (subst (IsMemory program s (frame_from program s (length s.activations) first ∷ []) after.contents) (sym took-here.holes_are) (
      memory-entered program bare_state s x.0 [] first x.1 before.contents after.contents before.holes bare-memory refl (λ y i. starts.unset _) fit-here took-here.size took-here.kept took-here.cleared))

  described-now : Describes program s (frame ∷ []) wanted after.contents
  described-now =
      let x = one-only s.activations one in
      subst (λ f. Describes program s (f ∷ []) wanted after.contents) frame-is (
      described-entered program bare_state s x.0 [] first wanted before.contents after.contents bare-memory.laid nothing x.1 gap
      (λ c w e. blank c w (ap (λ a. wanted a c) (sym one) ∙ e))
      (λ p free_of. took-here.kept p (subst (IsOut p) (sym unused.holes_are) free_of)) took-here.cleared)
    where
      nothing : Describes program bare_state [] wanted before.contents
      nothing a c p w is e want =
          let there = framed program bare_state (length before.contents) [] a c p bare-memory.laid e in
          absurd (none-some there.frame there.framed)

  rest-now : IsAtRest s (λ a. nat_eq a 1) (first_nodes v (main_unit program) first cells)
  rest-now =
      rest-same (run program []) s (λ a. nat_eq a 1) (first_nodes v (main_unit program) first cells) (rest-first program v first cells) starts.activations_are
      (λ a. ap (λ (qs : List Process). is_stacked (record s { processes = qs }) a) starts.processes_are)

  framed-now : AreFramed (frame ∷ []) (first_nodes v (main_unit program) first cells)
  framed-now k n e = by_key (nat_eq k v) e where
    by_key : (b : Bool) → (if b then Some (record { activation = 1; unit = main_unit program; first = first; cells = cells; parent = None; children = 0; finished = false }) else None) ≡ Some n
        → frame_among n.activation (frame ∷ []) ≡ Some (record { activation = n.activation; first = n.first; cells = n.cells })
    by_key true d = subst (λ (z : FrameNode). frame_among z.activation (frame ∷ []) ≡ Some (record { activation = z.activation; first = z.first; cells = z.cells })) (same_Some (record { activation = 1; unit = main_unit program; first = first; cells = cells; parent = None; children = 0; finished = false }) n d) refl
    by_key false d = absurd (none-some n d)

  frames-now : (a : ℕ) → is_some (frame_among a (frame ∷ [])) ≡ nat_eq a 1
  frames-now a = by_test (nat_eq 1 a) ∙ numbers-turned 1 a where
    by_test : (b : Bool) → is_some (if b then Some frame else None) ≡ b
    by_test true = refl
    by_test false = refl

  pub opened-keeps : Keeps (record (frames_in program s (λ a. nat_eq a 1) (frame ∷ [])) { wanted = wanted }) after new
  opened-keeps =
      record {
        memory = memory-now;
        tree = subst (IsFrameTree s (is_stacked s) (λ a. nat_eq a 1)) (sym nodes) rest-now.tree;
        rest = rest-now.needed;
        framed = subst (AreFramed (frame ∷ [])) (sym nodes) framed-now;
        frames_are = frames-now;
        described = described-now;
      }
