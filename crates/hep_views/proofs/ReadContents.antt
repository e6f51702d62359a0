-- What is read from the arena is what is stored.
use Rattle.std.proofs.Common.{◌≡◌, ℕ, zero, suc, ◌+◌, ◌<◌, Bool, true, false, List, [], ◌∷◌, ◌++◌, length, Option, Some, None, refl, sym, ap, ◌∙◌, subst, arith, if◌then◌else◌, is_none, is_some, map, pos, slice_get}
use Rattle.std.specs.List.{flat_map}
use Rattle.std.specs.Option.{unwrap_or}
use Rattle.std.proofs.lemmas.Option.{same_Some, none-some}
use Rattle.hep_machine.specs.Words.{Name, Statement, index_among, is_among, same_name, Units, dummies_of, unit_at, unset_cell, cells_of, no_activation, BlockName, blocks_of, same_block, Frame, Layout, block_cells, dummy_at, activation_of, unit_of, Activation, Dummy, Location, State, common, local, further, locals_of, CellView, cell_view, cells_at, cells_from, cells_of_activation, cells_of_block, cells_of_dummy, cells_of_local, is_owned}
use Rattle.hep_source.proofs.NameTests.{same_name-self}
use Rattle.hep_machine.specs.declared.slot.Slot.{Slot}
use Rattle.hep_machine.proofs.Locations.{equal_blocks}
use Rattle.hep_arena.specs.Gaps.{frame_among}
use Rattle.hep_layout.specs.Words.{Holds, address, Describes, number, descriptor_slots, argument, common_row, first_of_block, first_of_part, size_in, variable, RunsFrom}
use Rattle.hep_layout.proofs.Rows.{place-at}
use Rattle.hep_layout.proofs.Runs.{runs-local, runs-value}
use Rattle.hep_layout.proofs.Telling.{tells-rest, tells-value}
use Rattle.hep_image.specs.Addressing.{cells_in}
use Rattle.hep_views.specs.StoredContents.{HasDummies, block_read, cells_read, common_read, frame_read, frame_read_in, frames_read, local_read, value_read}

-- ---- lists

flat-same : {A : Type 0} (f g : A → List CellView) (xs : List A) → ((i : ℕ) (x : A) → slice_get xs i ≡ Some x → f x ≡ g x) → flat_map f xs ≡ flat_map g xs
flat-same f g [] h = refl
flat-same f g (x ∷ xs) h = (λ i. h 0 x refl i ++ flat-same f g xs (λ j y e. h (suc j) y e) i)

flat-both : {A B : Type 0} (f : A → List CellView) (g : B → List CellView) (xs : List A) (ys : List B) → length xs ≡ length ys → ((i : ℕ) (x : A) (y : B) → slice_get xs i ≡ Some x → slice_get ys i ≡ Some y → f x ≡ g y)
    → flat_map f xs ≡ flat_map g ys
flat-both f g [] [] long h = refl
flat-both f g (x ∷ xs) [] long h = absurd (omega (arith, long))
flat-both f g [] (y ∷ ys) long h = absurd (omega (arith, long))
flat-both f g (x ∷ xs) (y ∷ ys) long h = (λ i. h 0 x y refl refl i ++ flat-both f g xs ys (omega (arith, long)) (λ j z w e k. h (suc j) z w e k) i)

-- ---- consecutive cells

module _ (program : Units) (s : State) (layout : Layout) (contents : List Slot) (holds : Holds program s layout contents) where
  cell-read : (at : Location) (p : ℕ) → address program s layout at ≡ Some p → cells_in contents p ≡ s.store at
  cell-read at p here = ap (λ o. unwrap_or o unset_cell) (holds at p here)

  further-none : (at : Location) → further at 0 ≡ at
  further-none (local a x i) = ap (local a x) (omega arith)
  further-none (common b i) = ap (common b) (omega arith)

  further-next : (at : Location) (k : ℕ) → further (further at 1) k ≡ further at (suc k)
  further-next (local a x i) k = ap (local a x) (omega arith)
  further-next (common b i) k = ap (common b) (omega arith)

  pub run-read : (start : Location) (count first : ℕ) → RunsFrom program s layout start count first → cells_read contents start first count ≡ cells_at s.store start count
  run-read start zero first h = refl
  run-read start (suc n) first h =
      let here : address program s layout start ≡ Some first = ap (address program s layout) (sym (further-none start)) ∙ (h 0 (omega arith) ∙ ap (λ k. Some k) (omega arith)) in
      let one = cell-read start first here in
      let rest = run-read (further start 1) n (suc first) (λ k less. ap (address program s layout) (further-next start k) ∙ (h (suc k) (omega (arith, less)) ∙ ap (λ m. Some m) (omega arith))) in
      λ i. (record { at = start; cell = one i }) ∷ rest i

  -- ---- COMMON

  block-self : (b : BlockName) → same_block b b ≡ true
  block-self None = refl
  block-self (Some x) = same_name-self x

  block-among : (bs : List BlockName) (i : ℕ) (b : BlockName) → slice_get bs i ≡ Some b → size_in (same_block b) (map (λ (c : BlockName). (c, block_cells program c)) bs) ≡ block_cells program b
  block-among [] i b e = absurd (none-some b e)
  block-among (c ∷ cs) zero b e =
      let same = same_Some c b e in
      ap (λ t. if t then block_cells program c else size_in (same_block b) (map (λ (d : BlockName). (d, block_cells program d)) cs)) (ap (same_block b) same ∙ block-self b) ∙ ap (block_cells program) same
  block-among (c ∷ cs) (suc i) b e = by_test (block-among cs i b e) (same_block b c) refl where
    by_test : size_in (same_block b) (map (λ (d : BlockName). (d, block_cells program d)) cs) ≡ block_cells program b → (t : Bool) → same_block b c ≡ t → (if t then block_cells program c else size_in (same_block b) (map (λ (d : BlockName). (d, block_cells program d)) cs)) ≡ block_cells program b
    by_test rest true t = ap (block_cells program) (sym (equal_blocks b c t))
    by_test rest false t = rest

  block-runs : (i : ℕ) (b : BlockName) → slice_get (blocks_of program) i ≡ Some b → RunsFrom program s layout (common b 1) (block_cells program b) (first_of_block program b)
  block-runs i b e k less =
      ap (λ n. address program s layout (common b n)) (let next : 1 + k ≡ suc k = omega arith in next)
      ∙ place-at (same_block b) k (common_row program) (subst (λ n. k < n) (sym (block-among (blocks_of program) i b e)) less)

  pub common-is-read : common_read program contents ≡ flat_map (cells_of_block program s.store) (blocks_of program)
  common-is-read = flat-same (block_read program contents) (cells_of_block program s.store) (blocks_of program) (λ i b e. run-read (common b 1) (block_cells program b) (first_of_block program b) (block-runs i b e))

  -- ---- frames

  module _ (describes : Describes program s layout (descriptor_slots program s layout) contents) (a : ℕ) (f : Frame) (framed : frame_among a layout ≡ Some f) where
    abbrev unit : List Statement
    unit = unit_at program (unit_of s a)

    name-among : (xs : List Name) (i : ℕ) (x : Name) → slice_get xs i ≡ Some x → is_among x xs ≡ true
    name-among [] i x e = absurd (none-some x e)
    name-among (y ∷ ys) zero x e = ap (λ t. if t then true else is_among x ys) (ap (same_name x) (same_Some y x e) ∙ same_name-self x)
    name-among (y ∷ ys) (suc i) x e = by_test (name-among ys i x e) (same_name x y) where
      by_test : is_among x ys ≡ true → (t : Bool) → (if t then true else is_among x ys) ≡ true
      by_test rest true = refl
      by_test rest false = rest

    locals-read : flat_map (local_read contents a unit f.first) (locals_of unit) ≡ flat_map (cells_of_local s.store a unit) (locals_of unit)
    locals-read =
        flat-same (local_read contents a unit f.first) (cells_of_local s.store a unit) (locals_of unit) (λ i x e.
        run-read (local a x 1) (cells_of unit x) (f.first + first_of_part unit (variable x)) (runs-local program s layout a x f framed (name-among (locals_of unit) i x e)))

    dummies-read : HasDummies program s a → flat_map (value_read contents a unit f.first) (dummies_of unit) ≡ flat_map (cells_of_dummy s.store a) (activation_of s a).dummies
    dummies-read has = flat-both (value_read contents a unit f.first) (cells_of_dummy s.store a) (dummies_of unit) (activation_of s a).dummies (sym has.count) each where
      each : (k : ℕ) (x : Name) (d : Dummy) → slice_get (dummies_of unit) k ≡ Some x → slice_get (activation_of s a).dummies k ≡ Some d → value_read contents a unit f.first x ≡ cells_of_dummy s.store a d
      each k x d named there = by_owner (is_owned a d.start) refl where
        index : index_among x (dummies_of unit) ≡ Some k
        index = has.once k x named

        dummy-is : dummy_at (activation_of s a).dummies k ≡ d
        dummy-is = ap (λ o. unwrap_or o (dummy_at [] 0)) there

        start : is_owned a d.start ≡ true → d.start ≡ local a x 1
        start own =
            let bound = has.bound x k index in
            let same = same_Some bound.0 d (sym bound.1 ∙ there) in
            ap (λ (z : Dummy). z.start) (sym same) ∙ (bound.2.value (ap (λ (z : Dummy). is_owned a z.start) same ∙ own)).0

        second : (slot : Slot) → slice_get contents (f.first + first_of_part unit (argument x) + 1) ≡ Some slot → cells_in contents (f.first + suc (first_of_part unit (argument x))) ≡ slot
        second slot e = ap (λ p. unwrap_or (slice_get contents p) unset_cell) (omega arith) ∙ ap (λ o. unwrap_or o unset_cell) e

        by_owner : (b : Bool) → is_owned a d.start ≡ b → value_read contents a unit f.first x ≡ (if b then cell_view s.store d.start ∷ [] else [])
        by_owner true own =
            let own-at = ap (λ (z : Dummy). is_owned a z.start) dummy-is ∙ own in
            let none = second unset_cell (tells-value program s layout contents a f describes framed x k index own-at) in
            ap (λ (slot : Slot). if is_none slot.value then cells_read contents (local a x 1) (f.first + first_of_part unit (argument x)) 1 else []) none
            ∙ (run-read (local a x 1) 1 (f.first + first_of_part unit (argument x)) (runs-value program s layout a x k f framed index own-at) ∙ ap (λ at. cell_view s.store at ∷ []) (sym (start own)))
        by_owner false other =
            let other-at = ap (λ (z : Dummy). is_owned a z.start) dummy-is ∙ other in
            let some = second (number (pos (dummy_at (activation_of s a).dummies k).rest)) (tells-rest program s layout contents a f describes framed x k index other-at) in
            ap (λ (slot : Slot). if is_none slot.value then cells_read contents (local a x 1) (f.first + first_of_part unit (argument x)) 1 else []) some

    pub frame-is-read : HasDummies program s a → frame_read contents a unit f.first ≡ cells_of_activation program s.store a (activation_of s a)
    frame-is-read has = λ i. locals-read i ++ dummies-read has i

  -- ---- all of them

  module _ (describes : Describes program s layout (descriptor_slots program s layout) contents) (out : ℕ → Bool) (frames_are : (a : ℕ) → is_some (frame_among a layout) ≡ out a) (has : State → ℕ → Bool) (same : (a : ℕ) → has s a ≡ out a)
      (dummies : (a : ℕ) → out a ≡ true → HasDummies program s a) where
    one-read : (a : ℕ) (x : Activation) → activation_of s a ≡ x → frame_read_in program contents a x (frame_among a layout) ≡ (if has s a then cells_of_activation program s.store a x else [])
    one-read a x is = by_frame (frame_among a layout) refl where
      by_frame : (o : Option Frame) → frame_among a layout ≡ o → frame_read_in program contents a x o ≡ (if has s a then cells_of_activation program s.store a x else [])
      by_frame None e =
          let none : has s a ≡ false = same a ∙ (sym (frames_are a) ∙ ap is_some e) in
          rw none refl
      by_frame (Some f) e =
          let there : out a ≡ true = sym (frames_are a) ∙ ap is_some e in
          let held : has s a ≡ true = same a ∙ there in
          rw held (subst (λ (y : Activation). frame_read contents a (unit_at program y.unit) f.first ≡ cells_of_activation program s.store a y) is (frame-is-read describes a f e (dummies a there)))

    rest-read : (a : ℕ) (xs : List Activation) → ((i : ℕ) (x : Activation) → slice_get xs i ≡ Some x → activation_of s (a + i) ≡ x) → frames_read program contents layout a xs ≡ cells_from program has s a xs
    rest-read a [] h = refl
    rest-read a (x ∷ xs) h =
        let first : activation_of s a ≡ x = ap (activation_of s) (let none : a ≡ a + 0 = omega arith in none) ∙ h 0 x refl in
        let rest = rest-read (suc a) xs (λ i y e. ap (activation_of s) (let next : suc a + i ≡ a + suc i = omega arith in next) ∙ h (suc i) y e) in
        λ i. one-read a x first i ++ rest i

    pub frames-are-read : frames_read program contents layout 1 s.activations ≡ cells_from program has s 1 s.activations
    frames-are-read = rest-read 1 s.activations (λ i x e. ap (activation_of s) (let next : 1 + i ≡ suc i = omega arith in next) ∙ ap (λ o. unwrap_or o no_activation) e)
