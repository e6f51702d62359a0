-- From the cell in which a storage unit is kept the unit is found again.
use Rattle.std.proofs.Common.{◌≡◌, inl, inr, ℕ, zero, suc, ◌+◌, ◌-◌, ◌<◌, ◌≤◌, Bool, true, false, true≢false, List, length, Option, Some, None, refl, sym, ap, ◌∙◌, arith, ◌&&◌, if◌then◌else◌, is_some, nat_eq, nat_le, nat_lt}
use Rattle.std.specs.Option.{option_or}
use Rattle.std.proofs.lemmas.Bool.{cases_Bool, eqb-false, eqb-true}
use Rattle.std.proofs.lemmas.Bool.Decides.{nat_tests}
use Rattle.std.proofs.lemmas.Option.{cond_some, none-some, same_Some}
use Rattle.hep_machine.specs.Words.{Name, Statement, index_among, Units, dummies_of, unit_at, BlockName, Frame, Layout, common_cells, frame_of, dummy_at, activation_of, unit_of, run, Dummy, Location, State, common, local, is_owned}
use Rattle.hep_arena.specs.Gaps.{frame_among}
use Rattle.hep_layout.specs.Words.{IsLaid, address, address_of_kept, cell_in, kept_in, FramePart, argument, frame_row, place_of_part, same_part, FrameNode}
use Rattle.hep_layout.proofs.Addresses.{IsCommon, in-common}
use Rattle.hep_layout.proofs.FrameRows.{equal_parts, frame_row-cells}
use Rattle.hep_layout.proofs.Frames.{among, apart-frames}
use Rattle.hep_layout.proofs.Rows.{owned-by}
use Rattle.hep_state.specs.Words.{Snapshot, IsAfter}
use Rattle.hep_views.specs.Nodes.{node_of}
use Rattle.hep_views.specs.SeenWaits.{unit_among, unit_in_common, unit_in_frame, unit_kept_at, unit_of_block, unit_of_part, unit_under}
use Rattle.hep_views.proofs.Nodes.{framed-at, unheld, unit-at}

-- ---- COMMON

pub common-told : (program : Units) (s : State) (layout : Layout) (b : BlockName) (i c : ℕ) → address program s layout (common b i) ≡ Some c
    → (c < common_cells program) × (unit_in_common program c ≡ Some (common b i))
common-told program s layout b zero c e = absurd (none-some c e)
common-told program s layout b (suc i) c e =
    let l : IsCommon program (common b (suc i)) c = record { block = b; index = i; at_is = refl; placed = e } in
    let owned = in-common program (common b (suc i)) c l in
    (owned.1, ap unit_of_block owned.0)

-- ---- frames

-- the part of a frame in which an element is kept says which element that is
part-told : (a : ℕ) (dummies : List Dummy) (x : Name) (i : ℕ) (k : Option ℕ) (p : FramePart × ℕ) → kept_in a dummies x i k ≡ Some p
    → unit_of_part a (Some p) ≡ Some (local a x (suc i))
part-told a dummies x i None p e = sym (ap (unit_of_part a) e)
part-told a dummies x zero (Some k) p e = ap (λ q. unit_of_part a (Some q)) (sym (cond_some (is_owned a (dummy_at dummies k).start) (argument x, 0) p e).1)
part-told a dummies x (suc i) (Some k) p e = absurd (none-some p e)

-- the frame has the cell, which tells the storage unit
abbrev IsTold : Units → State → Layout → ℕ → Name → ℕ → ℕ → Type 0
IsTold program s layout a x i c =
    (f : Frame) × (frame_among a layout ≡ Some f) × (f.first ≤ c) × (c < f.first + frame_of program s a)
    × (unit_in_frame a (unit_at program (unit_of s a)) (c - f.first) ≡ Some (local a x i))

module _ (program : Units) (s : State) (layout : Layout) (a : ℕ) where
  abbrev unit : List Statement
  unit = unit_at program (unit_of s a)

  place-told : (x : Name) (i c : ℕ) (p : FramePart × ℕ) → unit_of_part a (Some p) ≡ Some (local a x i) → (o : Option Frame)
      → frame_among a layout ≡ o → (q : Option ℕ) → place_of_part unit p.0 p.1 ≡ q → cell_in o q ≡ Some c → IsTold program s layout a x i c
  place-told x i c p told None found q place h = absurd (none-some c h)
  place-told x i c p told (Some f) found None place h = absurd (none-some c h)
  place-told x i c p told (Some f) found (Some n) place h =
      let owned = owned-by (same_part p.0) p.0 p.1 (frame_row unit) n (equal_parts p.0) place in
      let at : f.first + n ≡ c = same_Some (f.first + n) c h in
      let behind : c - f.first ≡ n = omega (arith, at) in
      (f, found, omega (arith, at), omega (arith, at, owned.1, frame_row-cells unit), ap (unit_in_frame a unit) behind ∙ ap (unit_of_part a) owned.0 ∙ told)

  pub frame-told : (i c : ℕ) (x : Name) → address program s layout (local a x i) ≡ Some c → IsTold program s layout a x i c
  frame-told zero c x e = absurd (none-some c e)
  frame-told (suc i) c x e = by_part (kept_in a (activation_of s a).dummies x i (index_among x (dummies_of unit))) refl e where
    by_part : (o : Option (FramePart × ℕ)) → kept_in a (activation_of s a).dummies x i (index_among x (dummies_of unit)) ≡ o
        → address_of_kept program s layout a o ≡ Some c → IsTold program s layout a x (suc i) c
    by_part None kept h = absurd (none-some c h)
    by_part (Some p) kept h =
        let told = part-told a (activation_of s a).dummies x i (index_among x (dummies_of unit)) p kept in
        place-told x (suc i) c p told (frame_among a layout) refl (place_of_part unit p.0 p.1) refl h

-- ---- of a machine

-- the cell is within a frame
abbrev has_cell : ℕ → ℕ → ℕ → Bool
has_cell first cells cell = nat_le first cell && nat_lt cell (first + cells)

within : (first cells cell : ℕ) → first ≤ cell → cell < first + cells → has_cell first cells cell ≡ true
within first cells cell low high = grind (arith, nat_tests)

without : (first cells cell : ℕ) → (first ≤ cell → cell < first + cells → ⊥) → has_cell first cells cell ≡ false
without first cells cell none = grind (arith, nat_tests)

-- of all activations one alone has the cell
among-told : (program : Units) (m : Snapshot) (cell : ℕ) (at : Location) (a : ℕ) → unit_under program cell a (node_of m a) ≡ Some at
    → ((b : ℕ) → (b ≡ a → ⊥) → unit_under program cell b (node_of m b) ≡ None)
    → (from n : ℕ) → from ≤ a → a < from + n → unit_among program m cell from n ≡ Some at
among-told program m cell at a here others from zero low high = absurd (omega (arith, low, high))
among-told program m cell at a here others from (suc n) low high =
    elim (cases_Bool (nat_eq from a)) [
      | inl e ↦ ap (λ o. option_or o (unit_among program m cell (suc from) n)) (ap (λ b. unit_under program cell b (node_of m b)) (eqb-true from a e) ∙ here)
      | inr e ↦
          let other = eqb-false from a e in
          ap (λ o. option_or o (unit_among program m cell (suc from) n)) (others from other)
          ∙ among-told program m cell at a here others (suc from) n (omega (arith, low, other)) (omega (arith, high))
    ]

module _ (program : Units) (cells : ℕ) (choices : List ℕ) (m : Snapshot) (after : IsAfter program cells choices m) where
  abbrev s : State
  s = run program choices

  laid : IsLaid program s (length m.arena.contents) after.layout
  laid = after.shows.keeps.memory.laid

  -- where an activation's frame has the cell, so has its node
  under-told : (a c : ℕ) (at : Location) (f : Frame) → frame_among a after.layout ≡ Some f → f.first ≤ c → c < f.first + f.cells
      → unit_in_frame a (unit_at program (unit_of s a)) (c - f.first) ≡ Some at → unit_under program c a (node_of m a) ≡ Some at
  under-told a c at f found low high told = by_node (node_of m a) refl where
    by_node : (o : Option FrameNode) → node_of m a ≡ o → unit_under program c a o ≡ Some at
    by_node None e = absurd (true≢false (sym (sym (after.shows.keeps.frames_are a) ∙ ap is_some found) ∙ unheld program cells choices m after a e))
    by_node (Some n) e =
        let frame = same_Some (record { activation = a; first = n.first; cells = n.cells }) f (sym (framed-at program cells choices m after a n e) ∙ found) in
        let first : n.first ≡ f.first = ap (λ (z : Frame). z.first) frame in
        let count : n.cells ≡ f.cells = ap (λ (z : Frame). z.cells) frame in
        let inside = within n.first n.cells c (omega (arith, first, low)) (omega (arith, first, count, high)) in
        ap (λ b. if b then unit_in_frame a (unit_at program n.unit) (c - n.first) else None) inside
        ∙ (λ i. unit_in_frame a (unit_at program (unit-at program cells choices m after a n e i)) (c - first i)) ∙ told

  -- and no other activation's has it
  others-told : (a c : ℕ) (f : Frame) → frame_among a after.layout ≡ Some f → f.first ≤ c → c < f.first + f.cells → (b : ℕ) → (b ≡ a → ⊥)
      → unit_under program c b (node_of m b) ≡ None
  others-told a c f found low high b other = by_node (node_of m b) refl where
    by_node : (o : Option FrameNode) → node_of m b ≡ o → unit_under program c b o ≡ None
    by_node None e = refl
    by_node (Some n) e =
        let frame : Frame = record { activation = b; first = n.first; cells = n.cells } in
        let there = framed-at program cells choices m after b n e in
        let apart = apart-frames (length m.arena.contents) (common_cells program) b a after.layout frame f laid.apart there found in
        let outside = without n.first n.cells c (λ above below. elim apart [
          | inl same ↦ other same
          | inr sides ↦ elim sides [ inl le ↦ omega (arith, le, low, below) | inr le ↦ omega (arith, le, high, above) ]
        ]) in
        ap (λ t. if t then unit_in_frame b (unit_at program n.unit) (c - n.first) else None) outside

  pub kept-told : (at : Location) (c : ℕ) → address program s after.layout at ≡ Some c → unit_kept_at program m c ≡ Some at
  kept-told (common b i) c e =
      let told = common-told program s after.layout b i c e in
      let front : nat_lt c (common_cells program) ≡ true = let lt = told.0 in grind (arith, nat_tests) in
      ap (λ t. if t then unit_in_common program c else unit_among program m c 1 m.activations) front ∙ told.1
  kept-told (local a x i) c e =
      let told = frame-told program s after.layout a i c x e in
      let f = told.0 in
      let size : f.cells ≡ frame_of program s a = laid.sized a f told.1 in
      let made = laid.made a f told.1 in
      let place = among (length m.arena.contents) (common_cells program) a after.layout f laid.apart told.1 in
      let high : c < f.first + f.cells = omega (arith, told.3, size) in
      let back : nat_lt c (common_cells program) ≡ false = (let low = told.2 in let behind = place.behind in grind (arith, nat_tests)) in
      ap (λ t. if t then unit_in_common program c else unit_among program m c 1 m.activations) back
      ∙ among-told program m c (local a x i) a (under-told a c (local a x i) f told.1 told.2 high told.4) (others-told a c f told.1 told.2 high)
      1 m.activations made.0 (omega (arith, made.1, after.shows.activations))
