-- Addresses: no two storage units have the same one, and each lies in the arena.
use Rattle.std.proofs.Common.{◌≡◌, ◌⊎◌, inl, inr, ℕ, zero, suc, ◌+◌, ◌<◌, ◌≤◌, true, List, Option, Some, None, refl, sym, ap, ◌∙◌, subst, arith, eq-eqb}
use Rattle.std.proofs.lemmas.Option.{same_Some, none-some, cond_some}
use Rattle.hep_machine.specs.Words.{Name, index_among, Units, unit_at, dummies_of, BlockName, same_block, Frame, Layout, common_cells, dummy_at, activation_of, unit_of, Activation, Dummy, Location, local, common, State, is_owned}
use Rattle.hep_machine.proofs.Locations.{equal_blocks}
use Rattle.hep_arena.specs.Gaps.{frame_among, gaps}
use Rattle.hep_arena.specs.Holes.{IsOut}
use Rattle.hep_arena.proofs.Gaps.{apart-end, front-out}
use Rattle.hep_layout.specs.Words.{cell_in, frame_address, kept_in, address_of_kept, address, IsLaid, FramePart, argument, variable, common_row, frame_row, owner_in, place_of_block, place_of_part, same_part}
use Rattle.hep_layout.proofs.CommonRows.{common_row-cells}
use Rattle.hep_layout.proofs.FrameRows.{equal_parts, frame_row-cells}
use Rattle.hep_layout.proofs.Frames.{among, among-out, apart-frames}
use Rattle.hep_layout.proofs.Rows.{owned-by}

-- ---- cells of frames

cell_in-parts : (frame : Option Frame) (place : Option ℕ) (p : ℕ) → cell_in frame place ≡ Some p → (f : Frame) × (n : ℕ) × (frame ≡ Some f) × (place ≡ Some n) × (p ≡ f.first + n)
cell_in-parts None place p e = absurd (none-some p e)
cell_in-parts (Some f) None p e = absurd (none-some p e)
cell_in-parts (Some f) (Some n) p e = (f, n, refl, refl, sym (same_Some (f.first + n) p e))

-- a cell of an activation's frame lies in that frame, and so in the arena behind COMMON
pub record IsFramed (program : Units) (s : State) (cells : ℕ) (layout : Layout) (a : ℕ) (c : FramePart × ℕ) (p : ℕ) : Type 0 where
  pub frame : Frame
  pub framed : frame_among a layout ≡ Some frame
  pub place : ℕ
  pub at : p ≡ frame.first + place
  pub owner : owner_in (frame_row (unit_at program (unit_of s a))) place ≡ Some c
  pub low : frame.first ≤ p
  pub high : p < frame.first + frame.cells
  pub behind : common_cells program ≤ frame.first
  pub inside : frame.first + frame.cells ≤ cells

pub framed : (program : Units) (s : State) (cells : ℕ) (layout : Layout) (a : ℕ) (c : FramePart × ℕ) (p : ℕ) → IsLaid program s cells layout → frame_address program s layout a c ≡ Some p → IsFramed program s cells layout a c p
framed program s cells layout a c p laid e =
    let parts = cell_in-parts (frame_among a layout) (place_of_part (unit_at program (unit_of s a)) c.0 c.1) p e in
    let frame = among cells (common_cells program) a layout parts.0 laid.apart parts.2 in
    let owned = owned-by (same_part c.0) c.0 c.1 (frame_row (unit_at program (unit_of s a))) parts.1 (equal_parts c.0) parts.3 in
    record {
      frame = parts.0;
      framed = parts.2;
      place = parts.1;
      at = parts.4;
      owner = owned.0;
      low = omega (arith, parts.4);
      high = omega (arith, parts.4, owned.1, frame_row-cells (unit_at program (unit_of s a)), laid.sized a parts.0 parts.2);
      behind = frame.behind;
      inside = frame.inside;
    }

-- two of them at one address are one
pub one-frame_cell : (program : Units) (s : State) (cells : ℕ) (layout : Layout) (a b p : ℕ) (c d : FramePart × ℕ) → IsLaid program s cells layout → frame_address program s layout a c ≡ Some p → frame_address program s layout b d ≡ Some p → (a ≡ b) × (c ≡ d)
one-frame_cell program s cells layout a b p c d laid h k = (owner, within (subst (λ z. frame_address program s layout z d ≡ Some p) (sym owner) k)) where
  owner : a ≡ b
  owner =
      let f = framed program s cells layout a c p laid h in
      let g = framed program s cells layout b d p laid k in
      elim (apart-frames cells (common_cells program) a b layout f.frame g.frame laid.apart f.framed g.framed) [
        | inl same ↦ same
        | inr apart ↦ elim apart [ inl le ↦ absurd (omega (arith, le, f.high, g.low)) | inr le ↦ absurd (omega (arith, le, g.high, f.low)) ]
      ]

  within : frame_address program s layout a d ≡ Some p → c ≡ d
  within k =
      let f = framed program s cells layout a c p laid h in
      let g = framed program s cells layout a d p laid k in
      let frames : f.frame ≡ g.frame = same_Some f.frame g.frame (sym f.framed ∙ g.framed) in
      let firsts : f.frame.first ≡ g.frame.first = ap (λ (z : Frame). z.first) frames in
      let places : f.place ≡ g.place = omega (arith, f.at, g.at, firsts) in
      same_Some c d (sym f.owner ∙ ap (owner_in (frame_row (unit_at program (unit_of s a)))) places ∙ g.owner)

-- ---- storage units of activations

-- a cell is kept for a variable, or as the first one of a dummy argument
kept-as : (a : ℕ) (dummies : List Dummy) (x : Name) (i : ℕ) (o : Option ℕ) (c : FramePart × ℕ) → kept_in a dummies x i o ≡ Some c → ((variable x ≡ c.0) ⊎ (argument x ≡ c.0)) × (i ≡ c.1)
kept-as a dummies x i None c e = let same = same_Some (variable x, i) c e in (inl (ap (λ (q : FramePart × ℕ). q.0) same), ap (λ (q : FramePart × ℕ). q.1) same)
kept-as a dummies x zero (Some k) c e =
    let same = (cond_some (is_owned a (dummy_at dummies k).start) (argument x, 0) c e).1 in
    (inr (ap (λ (q : FramePart × ℕ). q.0) same), ap (λ (q : FramePart × ℕ). q.1) same)
kept-as a dummies x (suc i) (Some k) c e = absurd (none-some c e)

-- a cell of a frame keeps one element of one variable
kept-one : (a : ℕ) (dummies : List Dummy) (names : List Name) (x y : Name) (i j : ℕ) (c : FramePart × ℕ) → kept_in a dummies x i (index_among x names) ≡ Some c → kept_in a dummies y j (index_among y names) ≡ Some c → (x ≡ y) × (i ≡ j)
kept-one a dummies names x y i j c d e =
    let first = kept-as a dummies x i (index_among x names) c d in
    let second = kept-as a dummies y j (index_among y names) c e in
    (elim first.0 [ inl f ↦ elim second.0 [ inl g ↦ cc | inr g ↦ absurd cc ] | inr f ↦ elim second.0 [ inl g ↦ absurd cc | inr g ↦ cc ] ], first.1 ∙ sym second.1)

abbrev kept_of : Units → State → ℕ → Name → ℕ → Option (FramePart × ℕ)
kept_of program s a x i = kept_in a (activation_of s a).dummies x i (index_among x (dummies_of (unit_at program (unit_of s a))))

-- ---- what has an address

-- an element of a variable, in its activation's frame
pub record IsLocal (program : Units) (s : State) (layout : Layout) (at : Location) (p : ℕ) : Type 0 where
  pub activation : ℕ
  pub name : Name
  pub index : ℕ
  pub at_is : at ≡ local activation name (suc index)
  pub cell : FramePart × ℕ
  pub kept : kept_in activation (activation_of s activation).dummies name index (index_among name (dummies_of (unit_at program (unit_of s activation)))) ≡ Some cell
  pub cell_at : frame_address program s layout activation cell ≡ Some p

-- a position in a block
pub record IsCommon (program : Units) (at : Location) (p : ℕ) : Type 0 where
  pub block : BlockName
  pub index : ℕ
  pub at_is : at ≡ common block (suc index)
  pub placed : place_of_block program block index ≡ Some p

pub located : (program : Units) (s : State) (layout : Layout) (at : Location) (p : ℕ) → address program s layout at ≡ Some p → IsLocal program s layout at p ⊎ IsCommon program at p
located program s layout (local a x zero) p e = absurd (none-some p e)
located program s layout (common b zero) p e = absurd (none-some p e)
located program s layout (common b (suc i)) p e = inr (record { block = b; index = i; at_is = refl; placed = e })
located program s layout (local a x (suc i)) p e = by_cell (kept_of program s a x i) refl e where
  by_cell : (o : Option (FramePart × ℕ)) → kept_of program s a x i ≡ o → address_of_kept program s layout a o ≡ Some p → IsLocal program s layout (local a x (suc i)) p ⊎ IsCommon program (local a x (suc i)) p
  by_cell None k e = absurd (none-some p e)
  by_cell (Some c) k e = inl (record { activation = a; name = x; index = i; at_is = refl; cell = c; kept = k; cell_at = e })

-- a position of COMMON lies in front of all frames
pub in-common : (program : Units) (at : Location) (p : ℕ) (l : IsCommon program at p) → (owner_in (common_row program) p ≡ Some (l.block, l.index)) × (p < common_cells program)
in-common program at p l =
    let owned = owned-by (same_block l.block) l.block l.index (common_row program) p (equal_blocks l.block) l.placed in
    (owned.0, subst (λ n. p < n) (common_row-cells program) owned.1)

-- no two storage units have the same address
pub one-location : (program : Units) (s : State) (cells : ℕ) (layout : Layout) (l m : Location) (p : ℕ) → IsLaid program s cells layout → address program s layout l ≡ Some p → address program s layout m ≡ Some p → l ≡ m
one-location program s cells layout l m p laid d e = by_kinds (located program s layout l p d) (located program s layout m p e) where
  by_kinds : IsLocal program s layout l p ⊎ IsCommon program l p → IsLocal program s layout m p ⊎ IsCommon program m p → l ≡ m
  by_kinds (inl f) (inl g) =
      let same = one-frame_cell program s cells layout f.activation g.activation p f.cell g.cell laid f.cell_at g.cell_at in
      let owners = same.0 in
      let kept : kept_of program s f.activation g.name g.index ≡ Some f.cell = subst (λ z. kept_of program s z g.name g.index ≡ Some g.cell) (sym owners) g.kept ∙ ap (λ c. Some c) (sym same.1) in
      let elements = kept-one f.activation (activation_of s f.activation).dummies (dummies_of (unit_at program (unit_of s f.activation))) f.name g.name f.index g.index f.cell f.kept kept in
      f.at_is ∙ (λ k. local (owners k) (elements.0 k) (suc (elements.1 k))) ∙ sym g.at_is
  by_kinds (inl f) (inr g) =
      let frame = framed program s cells layout f.activation f.cell p laid f.cell_at in
      absurd (omega (arith, frame.low, frame.behind, (in-common program m p g).1))
  by_kinds (inr f) (inl g) =
      let frame = framed program s cells layout g.activation g.cell p laid g.cell_at in
      absurd (omega (arith, frame.low, frame.behind, (in-common program l p f).1))
  by_kinds (inr f) (inr g) =
      let same : ◌≡◌ {A = BlockName × ℕ} (f.block, f.index) (g.block, g.index) = same_Some (f.block, f.index) (g.block, g.index) (sym (in-common program l p f).0 ∙ (in-common program m p g).0) in
      f.at_is ∙ (λ k. common (same k).0 (suc (same k).1)) ∙ sym g.at_is

-- each lies in the arena, and in no gap
pub address-out : (program : Units) (s : State) (cells : ℕ) (layout : Layout) (at : Location) (p : ℕ) → IsLaid program s cells layout → address program s layout at ≡ Some p → (p < cells) × IsOut p (gaps cells (common_cells program) layout)
address-out program s cells layout at p laid e = by_kind (located program s layout at p e) where
  by_kind : IsLocal program s layout at p ⊎ IsCommon program at p → (p < cells) × IsOut p (gaps cells (common_cells program) layout)
  by_kind (inl f) =
      let frame = framed program s cells layout f.activation f.cell p laid f.cell_at in
      (omega (arith, frame.high, frame.inside), among-out cells (common_cells program) f.activation p layout frame.frame laid.apart frame.framed frame.low frame.high)
  by_kind (inr f) =
      let within = (in-common program at p f).1 in
      (omega (arith, within, apart-end cells (common_cells program) layout laid.apart), front-out cells (common_cells program) p layout laid.apart within)

-- ---- other states and layouts

-- where an activation and its frame are the same, so are its addresses
pub frame_address-alike : (program : Units) (s t : State) (layout another : Layout) (a : ℕ) (c : FramePart × ℕ) → activation_of t a ≡ activation_of s a → frame_among a another ≡ frame_among a layout → frame_address program t another a c ≡ frame_address program s layout a c
frame_address-alike program s t layout another a c e f = λ k. cell_in (f k) (place_of_part (unit_at program (e k).unit) c.0 c.1)

pub address-alike : (program : Units) (s t : State) (layout another : Layout) (at : Location) → ((a : ℕ) → is_owned a at ≡ true → (activation_of t a ≡ activation_of s a) × (frame_among a another ≡ frame_among a layout)) → address program t another at ≡ address program s layout at
address-alike program s t layout another (local a x zero) same = refl
address-alike program s t layout another (common b zero) same = refl
address-alike program s t layout another (common b (suc i)) same = refl
address-alike program s t layout another (local a x (suc i)) same =
    ap (λ (z : Activation). address_of_kept program t another a (kept_in a z.dummies x i (index_among x (dummies_of (unit_at program z.unit))))) both.0 ∙ by_kept (kept_of program s a x i)
  where
    both : (activation_of t a ≡ activation_of s a) × (frame_among a another ≡ frame_among a layout)
    both = same a (eq-eqb a a refl)

    by_kept : (o : Option (FramePart × ℕ)) → address_of_kept program t another a o ≡ address_of_kept program s layout a o
    by_kept None = refl
    by_kept (Some c) = frame_address-alike program s t layout another a c both.0 both.1
