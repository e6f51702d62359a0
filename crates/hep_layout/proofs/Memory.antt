-- The arena of a state: what a write, a new frame and a frame that leaves make of it.
use Rattle.std.proofs.Common.{◌≡◌, ◌⊎◌, inl, inr, ℕ, suc, ◌+◌, ◌<◌, ◌≤◌, true, false, List, [], ◌∷◌, ◌++◌, length, Option, Some, None, refl, sym, ap, ◌∙◌, subst, arith, nat_eq, slice_get, slice_set, length-append, length-set}
use Rattle.std.specs.Option.{unwrap_or}
use Rattle.std.proofs.lemmas.Bool.{eqb-true, eq-eqb, ne_eqb, cases_Bool, cases_eq, false_from_ne_true, both_ways}
use Rattle.std.proofs.lemmas.Option.{same_Some, slice_get_within}
use Rattle.hep_machine.specs.Words.{Name, Units, unit_at, unset_cell, no_activation, Frame, Layout, lowest_gap, with_frame, frame_of, common_cells, activation_of, numbered, Activation, Location, local, common, State, Store, same_location, with_cell, frame_cells, is_owned}
use Rattle.hep_source.proofs.NameTests.{same_name-self}
use Rattle.hep_machine.specs.declared.slot.Slot.{Slot}
use Rattle.hep_machine.proofs.Locations.{equal_locations, block-self}
use Rattle.hep_machine.proofs.Others.{front_numbered}
use Rattle.hep_arena.specs.Gaps.{frame_among, framed_cells, gaps, without}
use Rattle.hep_arena.specs.Holes.{Hole, IsOut, first_fit, free_cells, given, taken}
use Rattle.hep_arena.proofs.Gaps.{fit-gaps, gaps-cells, given-without, taken-gaps}
use Rattle.hep_arena.proofs.Lists.{get-set_same, get-set_other}
use Rattle.hep_layout.specs.Words.{address, frame_from, Holds, IsLaid, IsMemory}
use Rattle.hep_layout.proofs.Addresses.{IsFramed, IsLocal, IsCommon, address-alike, address-out, framed, located, one-location}
use Rattle.hep_layout.proofs.Frames.{among-out, among-with_frame, among-without, apart-with_frame, apart-without, single-with_frame, single-without}
use Rattle.hep_source.proofs.Tests.{at-last}

-- ---- a location is itself

pub location-self : (at : Location) → same_location at at ≡ true
location-self (local a x i) = rw (eq-eqb a a refl, same_name-self x, eq-eqb i i refl) refl
location-self (common b k) = rw (block-self b, eq-eqb k k refl) refl

-- who owns an element
owner-is : (a : ℕ) (at : Location) (b : ℕ) (x : Name) (i : ℕ) → at ≡ local b x i → is_owned a at ≡ true → a ≡ b
owner-is a at b x i e owned = eqb-true a b (ap (is_owned a) (sym e) ∙ owned)

-- what has an address keeps it, where its activation and that one's frame stay
address-kept : (program : Units) (s t : State) (cells : ℕ) (layout another : Layout) (at : Location) (p : ℕ) → IsLaid program s cells layout
    → ((a : ℕ) (f : Frame) → frame_among a layout ≡ Some f → (activation_of t a ≡ activation_of s a) × (frame_among a another ≡ Some f)) → address program s layout at ≡ Some p → address program t another at ≡ Some p
address-kept program s t cells layout another at p laid still e = elim (located program s layout at p e) [
  | inr f ↦ rw f.at_is f.placed
  | inl f ↦
      let frame = framed program s cells layout f.activation f.cell p laid f.cell_at in
      address-alike program s t layout another at (λ a owned.
      let there : frame_among a layout ≡ Some frame.frame = rw (owner-is a at f.activation f.name (suc f.index) f.at_is owned) frame.framed in
      let now = still a frame.frame there in
      (now.0, now.1 ∙ sym there)) ∙ e
]

-- ---- the same activations

pub same-activation : (s t : State) (a : ℕ) → t.activations ≡ s.activations → activation_of t a ≡ activation_of s a
same-activation s t a e = ap (λ (xs : List Activation). activation_of (record s { activations = xs }) a) e

pub address-same : (program : Units) (s t : State) (layout : Layout) (at : Location) → t.activations ≡ s.activations → address program t layout at ≡ address program s layout at
address-same program s t layout at e = address-alike program s t layout layout at (λ a owned. (same-activation s t a e, refl))

pub laid-same : (program : Units) (s t : State) (cells : ℕ) (layout : Layout) → t.activations ≡ s.activations → IsLaid program s cells layout → IsLaid program t cells layout
laid-same program s t cells layout e laid =
    record {
      apart = laid.apart;
      single = laid.single;
      made = λ a f h. let made = laid.made a f h in (made.0, subst (λ (xs : List Activation). a ≤ length xs) (sym e) made.1);
      sized = λ a f h. laid.sized a f h ∙ ap (λ (z : Activation). frame_cells (unit_at program z.unit)) (sym (same-activation s t a e));
    }

pub memory-same : (program : Units) (s t : State) (layout : Layout) (contents : List Slot) (holes : List Hole) → IsMemory program s layout contents holes → t.activations ≡ s.activations → t.store ≡ s.store → IsMemory program t layout contents holes
memory-same program s t layout contents holes h e f =
    record {
      laid = laid-same program s t (length contents) layout e h.laid;
      holds = λ at p k. h.holds at p (sym (address-same program s t layout at e) ∙ k) ∙ ap (λ (store : Store). Some (store at)) (sym f);
      holes_are = h.holes_are;
    }

-- ---- a write

holds-written : (program : Units) (s t : State) (cells : ℕ) (layout : Layout) (contents : List Slot) (l : Location) (p : ℕ) (c : Slot)
    → IsLaid program s cells layout → Holds program s layout contents → address program s layout l ≡ Some p → t.activations ≡ s.activations → t.store ≡ with_cell s.store l c → Holds program t layout (slice_set contents p c)
holds-written program s t cells layout contents l p c laid h at_l e f at q k = by_place (cases_eq q p) ∙ ap (λ (store : Store). Some (store at)) (sym f) where
  here : address program s layout at ≡ Some q
  here = sym (address-same program s t layout at e) ∙ k

  by_place : (q ≡ p) ⊎ (q ≡ p → ⊥) → slice_get (slice_set contents p c) q ≡ Some (with_cell s.store l c at)
  by_place (inl place) =
      let same : at ≡ l = one-location program s cells layout at l p laid (here ∙ ap (λ m. Some m) place) at_l in
      rw (place, same, location-self l) (get-set_same contents p c (slice_get_within contents p (s.store l) (h l p at_l)))
  by_place (inr other) =
      let apart : same_location at l ≡ false = false_from_ne_true (same_location at l) (λ m. other (same_Some q p (sym here ∙ (ap (address program s layout) (equal_locations at l m) ∙ at_l)))) in
      rw apart (get-set_other contents p q c other ∙ h at q here)

pub memory-written : (program : Units) (s t : State) (layout : Layout) (contents : List Slot) (holes : List Hole) (l : Location) (p : ℕ) (c : Slot)
    → IsMemory program s layout contents holes → address program s layout l ≡ Some p → t.activations ≡ s.activations → t.store ≡ with_cell s.store l c → IsMemory program t layout (slice_set contents p c) holes
memory-written program s t layout contents holes l p c h at_l e f =
    let long : length (slice_set contents p c) ≡ length contents = length-set contents p c in
    record {
      laid = subst (λ n. IsLaid program t n layout) (sym long) (laid-same program s t (length contents) layout e h.laid);
      holds = holds-written program s t (length contents) layout contents l p c h.laid h.holds at_l e f;
      holes_are = h.holes_are ∙ ap (λ n. gaps n (common_cells program) layout) (sym long);
    }

-- ---- a new activation with its frame

pub activation-kept : (s t : State) (x : Activation) (a : ℕ) → t.activations ≡ s.activations ++ x ∷ [] → a ≤ length s.activations → activation_of t a ≡ activation_of s a
activation-kept s t x a e le =
    ap (λ (xs : List Activation). unwrap_or (numbered xs a) no_activation) e ∙ ap (λ (o : Option Activation). unwrap_or o no_activation) (front_numbered s.activations (x ∷ []) a le)

pub activation-last : (s t : State) (x : Activation) → t.activations ≡ s.activations ++ x ∷ [] → activation_of t (suc (length s.activations)) ≡ x
activation-last s t x e =
    ap (λ (xs : List Activation). unwrap_or (numbered xs (suc (length s.activations))) no_activation) e ∙ ap (λ (o : Option Activation). unwrap_or o no_activation) (at-last s.activations x)

module _ (program : Units) (s t : State) (x : Activation) (layout : Layout) (first : ℕ) (more : t.activations ≡ s.activations ++ x ∷ []) where
  abbrev n : ℕ
  n = length t.activations

  long : length t.activations ≡ suc (length s.activations)
  long = omega (arith, simp length-append at (ap (λ (xs : List Activation). length xs) more))

  abbrev new_frame : Frame
  new_frame = frame_from program t n first

  pub unmade : {cells : ℕ} → IsLaid program s cells layout → frame_among n layout ≡ None
  unmade laid = by_frame (frame_among n layout) refl where
    by_frame : (o : Option Frame) → frame_among n layout ≡ o → o ≡ None
    by_frame None e = refl
    by_frame (Some f) e = absurd (omega (arith, long, (laid.made n f e).1))

  -- the frames of the others stay, and so do their addresses
  pub others : {cells : ℕ} (a : ℕ) (f : Frame) → IsLaid program s cells layout → frame_among a layout ≡ Some f → (nat_eq n a ≡ false) × (frame_among a (with_frame layout new_frame) ≡ Some f)
  others a f laid e =
      let made = laid.made a f e in
      let other = ne_eqb n a (λ same. omega (arith, long, same, made.1)) in
      (other, among-with_frame a layout new_frame (unmade laid) ∙ rw other e)

  -- each frame is the new one or one that was there
  pub one-of : {cells : ℕ} (a : ℕ) (f : Frame) → IsLaid program s cells layout → frame_among a (with_frame layout new_frame) ≡ Some f → ((n ≡ a) × (new_frame ≡ f)) ⊎ (frame_among a layout ≡ Some f)
  one-of a f laid e =
      let parts = among-with_frame a layout new_frame (unmade laid) in
      elim (cases_Bool (nat_eq n a)) [ inl u ↦ inl (eqb-true n a u, same_Some new_frame f (rw (parts, u) at e)) | inr u ↦ inr (rw (parts, u) at e) ]

  pub laid-entered : (cells : ℕ) → IsLaid program s cells layout → lowest_gap cells (frame_of program t n) (common_cells program) layout ≡ Some first → IsLaid program t cells (with_frame layout new_frame)
  laid-entered cells laid gap =
      record {
        apart = apart-with_frame cells (common_cells program) layout new_frame (omega arith) laid.apart gap;
        single = single-with_frame layout new_frame laid.single (unmade laid);
        made = λ a f e. elim (one-of a f laid e) [
          | inl new ↦ (omega (arith, new.0, long), omega (arith, new.0))
          | inr old ↦ let made = laid.made a f old in (made.0, omega (arith, made.1, long))
        ];
        sized = λ a f e. elim (one-of a f laid e) [
          | inl new ↦ ap (λ (z : Frame). z.cells) (sym new.1) ∙ ap (frame_of program t) new.0
          | inr old ↦ laid.sized a f old ∙ ap (λ (z : Activation). frame_cells (unit_at program z.unit)) (sym (activation-kept s t x a more (laid.made a f old).1))
        ];
      }

  -- what has an address keeps it
  pub address-entered : (cells : ℕ) (at : Location) (p : ℕ) → IsLaid program s cells layout → address program s layout at ≡ Some p → address program t (with_frame layout new_frame) at ≡ Some p
  address-entered cells at p laid e =
      address-kept program s t cells layout (with_frame layout new_frame) at p laid (λ a f there. (activation-kept s t x a more (laid.made a f there).1, (others a f laid there).1)) e

  -- and what has one has it in the new frame or had it before
  entered-cases : (cells : ℕ) (at : Location) (p : ℕ) → IsLaid program s cells layout → lowest_gap cells (frame_of program t n) (common_cells program) layout ≡ Some first → address program t (with_frame layout new_frame) at ≡ Some p
      → ((first ≤ p) × (p < first + frame_of program t n) × (y : Name) × (i : ℕ) × (at ≡ local n y i)) ⊎ (address program s layout at ≡ Some p)
  entered-cases cells at p laid gap e = by_kind (located program t (with_frame layout new_frame) at p e) where
    now : IsLaid program t cells (with_frame layout new_frame)
    now = laid-entered cells laid gap

    by_kind : IsLocal program t (with_frame layout new_frame) at p ⊎ IsCommon program at p
        → ((first ≤ p) × (p < first + frame_of program t n) × (y : Name) × (i : ℕ) × (at ≡ local n y i)) ⊎ (address program s layout at ≡ Some p)
    by_kind (inr f) = inr (ap (address program s layout) f.at_is ∙ f.placed)
    by_kind (inl f) = by_frame (one-of f.activation frame.frame laid frame.framed) where
      frame : IsFramed program t cells (with_frame layout new_frame) f.activation f.cell p
      frame = framed program t cells (with_frame layout new_frame) f.activation f.cell p now f.cell_at

      by_frame : ((n ≡ f.activation) × (new_frame ≡ frame.frame)) ⊎ (frame_among f.activation layout ≡ Some frame.frame)
          → ((first ≤ p) × (p < first + frame_of program t n) × (y : Name) × (i : ℕ) × (at ≡ local n y i)) ⊎ (address program s layout at ≡ Some p)
      by_frame (inl new) =
          let firsts : first ≡ frame.frame.first = ap (λ (z : Frame). z.first) new.1 in
          let sizes : frame_of program t n ≡ frame.frame.cells = ap (λ (z : Frame). z.cells) new.1 in
          inl (omega (arith, firsts, frame.low), omega (arith, firsts, sizes, frame.high), f.name, suc f.index, f.at_is ∙ ap (λ b. local b f.name (suc f.index)) (sym new.0))
      by_frame (inr old) =
          inr (sym (address-alike program s t layout (with_frame layout new_frame) at (λ a owned.
          let same : f.activation ≡ a = sym (owner-is a at f.activation f.name (suc f.index) f.at_is owned) in
          let there : frame_among a layout ≡ Some frame.frame = ap (λ b. frame_among b layout) (sym same) ∙ old in
          (activation-kept s t x a more (laid.made a frame.frame there).1, (others a frame.frame laid there).1 ∙ sym there))) ∙ e)

  pub memory-entered : (old new : List Slot) (holes : List Hole)
      → IsMemory program s layout old holes → t.store ≡ s.store → ((y : Name) (i : ℕ) → s.store (local n y i) ≡ unset_cell)
      → first_fit (frame_of program t n) holes ≡ Some first → length new ≡ length old → ((p : ℕ) → IsOut p holes → slice_get new p ≡ slice_get old p)
      → ((p : ℕ) → first ≤ p → p < first + frame_of program t n → slice_get new p ≡ Some unset_cell)
      → IsMemory program t (with_frame layout new_frame) new (taken (frame_of program t n) holes)
  memory-entered old new holes h f fresh fits same kept cleared =
      record {
        laid = subst (λ m. IsLaid program t m (with_frame layout new_frame)) (sym same) (laid-entered (length old) h.laid gap);
        holds = λ at p e. by_cases at p (entered-cases (length old) at p h.laid gap e) ∙ ap (λ (store : Store). Some (store at)) (sym f);
        holes_are = ap (taken (frame_of program t n)) h.holes_are ∙ (taken-gaps (length old) n (frame_of program t n) (common_cells program) first layout (omega arith) h.laid.apart gap ∙ ap (λ m. gaps m (common_cells program) (with_frame layout new_frame)) (sym same));
      }
    where
      gap : lowest_gap (length old) (frame_of program t n) (common_cells program) layout ≡ Some first
      gap = sym (fit-gaps (length old) (frame_of program t n) (common_cells program) layout (omega arith)) ∙ (ap (first_fit (frame_of program t n)) (sym h.holes_are) ∙ fits)

      by_cases : (at : Location) (p : ℕ) → ((first ≤ p) × (p < first + frame_of program t n) × (y : Name) × (i : ℕ) × (at ≡ local n y i)) ⊎ (address program s layout at ≡ Some p) → slice_get new p ≡ Some (s.store at)
      by_cases at p (inl c) = cleared p c.0 c.1 ∙ ap (λ z. Some z) (sym (ap s.store c.4 ∙ fresh c.2 c.3))
      by_cases at p (inr e) =
          let out = (address-out program s (length old) layout at p h.laid e).1 in
          kept p (subst (IsOut p) (sym h.holes_are) out) ∙ h.holds at p e

-- ---- a frame leaves

module _ (program : Units) (s : State) (a : ℕ) (layout : Layout) where
  pub stays : {cells : ℕ} (b : ℕ) (f : Frame) → IsLaid program s cells layout → frame_among b (without a layout) ≡ Some f → frame_among b layout ≡ Some f
  stays b f laid e = grind (arith, among-without a b layout laid.single, e)

  pub laid-left : (cells : ℕ) → IsLaid program s cells layout → IsLaid program s cells (without a layout)
  laid-left cells laid =
      record {
        apart = apart-without cells (common_cells program) a layout laid.apart;
        single = single-without a layout laid.single;
        made = λ b f e. laid.made b f (stays b f laid e);
        sized = λ b f e. laid.sized b f (stays b f laid e);
      }

  -- what has an address had it before
  pub address-before : (cells : ℕ) (at : Location) (p : ℕ) → IsLaid program s cells layout → address program s (without a layout) at ≡ Some p → address program s layout at ≡ Some p
  address-before cells at p laid e = address-kept program s s cells (without a layout) layout at p (laid-left cells laid) (λ b f there. (refl, stays b f laid there)) e

  -- and what is of another activation keeps it
  pub address-left : (cells : ℕ) (at : Location) → IsLaid program s cells layout → is_owned a at ≡ false → address program s (without a layout) at ≡ address program s layout at
  address-left cells at laid other =
      address-alike program s s layout (without a layout) at (λ b owned.
      let apart = ne_eqb a b (λ same. both_ways (is_owned a at) other (rw same owned)) in
      (refl, among-without a b layout laid.single ∙ rw apart refl))

  pub memory-left : (f : Frame) (old new : List Slot) (holes : List Hole)
      → IsMemory program s layout old holes → frame_among a layout ≡ Some f → length new ≡ length old → ((p : ℕ) → IsOut p (given (f.first, f.cells) holes) → slice_get new p ≡ slice_get old p)
      → IsMemory program s (without a layout) new (given (f.first, f.cells) holes)
  memory-left f old new holes h there same kept =
      record {
        laid = subst (λ m. IsLaid program s m (without a layout)) (sym same) (laid-left (length old) h.laid);
        holds = λ at p e.
            let out = (address-out program s (length old) (without a layout) at p (laid-left (length old) h.laid) e).1 in
            kept p (subst (IsOut p) (sym now) out) ∙ h.holds at p (address-before (length old) at p h.laid e);
        holes_are = now ∙ ap (λ m. gaps m (common_cells program) (without a layout)) (sym same);
      }
    where
      now : given (f.first, f.cells) holes ≡ gaps (length old) (common_cells program) (without a layout)
      now = ap (given (f.first, f.cells)) h.holes_are ∙ given-without (length old) (common_cells program) a layout f h.laid.apart there

-- ---- cells

pub memory-fits : (program : Units) (s : State) (layout : Layout) (contents : List Slot) (holes : List Hole) (n : ℕ) → IsMemory program s layout contents holes → 1 ≤ n → first_fit n holes ≡ lowest_gap (length contents) n (common_cells program) layout
memory-fits program s layout contents holes n h one = ap (first_fit n) h.holes_are ∙ fit-gaps (length contents) n (common_cells program) layout one

pub memory-cells : (program : Units) (s : State) (layout : Layout) (contents : List Slot) (holes : List Hole) → IsMemory program s layout contents holes → free_cells holes + (common_cells program + framed_cells layout) ≡ length contents
memory-cells program s layout contents holes h =
    ap (λ hs. free_cells hs + (common_cells program + framed_cells layout)) h.holes_are ∙ gaps-cells (length contents) (common_cells program) layout h.laid.apart

-- an activation's frame is out of the holes
pub frame-is-out : (program : Units) (s : State) (layout : Layout) (contents : List Slot) (holes : List Hole) (a p : ℕ) (f : Frame) → IsMemory program s layout contents holes → frame_among a layout ≡ Some f → f.first ≤ p → p < f.first + f.cells → IsOut p holes
frame-is-out program s layout contents holes a p f h there low high = subst (IsOut p) (sym h.holes_are) (among-out (length contents) (common_cells program) a p layout f h.laid.apart there low high)

-- a write leaves what has another location
pub written-elsewhere : (program : Units) (s : State) (layout : Layout) (contents : List Slot) (l m : Location) (p q : ℕ) (c : Slot)
    → IsLaid program s (length contents) layout → address program s layout l ≡ Some p → address program s layout m ≡ Some q → (l ≡ m → ⊥) → slice_get (slice_set contents p c) q ≡ slice_get contents q
written-elsewhere program s layout contents l m p q c laid d e other =
    get-set_other contents p q c (λ same. other (one-location program s (length contents) layout l m q laid (d ∙ ap (λ n. Some n) (sym same)) e))
