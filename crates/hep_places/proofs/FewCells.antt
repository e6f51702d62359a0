-- Arrays have cells of their own, so there are no more of them than cells.
use Rattle.std.proofs.Common.{◌≡◌, ◌⊎◌, inl, inr, ℕ, zero, suc, ◌+◌, ◌*◌, ◌<◌, ◌≤◌, Bool, true, false, List, [], ◌∷◌, ◌++◌, length, Option, Some, None, refl, ap, sym, ◌∙◌, subst, arith, true≢false, IfSome, slice_get, nat_le, ◌&&◌, length-append}
use Rattle.std.specs.Option.{unwrap_or}
use Rattle.std.proofs.Math.Nat.{mul-le-mul}
use Rattle.std.proofs.lemmas.Bool.{and_parts}
use Rattle.std.proofs.lemmas.Option.{same_Some, none-some}
use Rattle.hep_source.proofs.NameTests.{equal_names, same_name-self, same_name-turned}
use Rattle.hep_machine.specs.Words.{Name, Statement, index_among, is_among, same_name, Units, dummies_of, cells_of, cells_of_shape, constant_shape, BlockName, common_block, is_array, names_in_block, same_block, no_name, common_cells, Bounds, are_dimensions, elements, extent, is_between, is_most, is_shape, product, frame_cells, locals_of, names_of}
use Rattle.hep_machine.proofs.Locations.{equal_blocks}
use Rattle.hep_shape.proofs.Extents.{between_extent}
use Rattle.hep_accepted_laws.proofs.Members.{Has, has_behind, has_first_or, has_front, has_more, has_among}
use Rattle.hep_image.specs.declared.array.Start.{Start}
use Rattle.hep_image.specs.Places.{arrays_of, start_by, start_of}
use Rattle.hep_image.proofs.Distinct.{AreDistinct, fewer_distinct, names_distinct}
use Rattle.hep_layout.specs.Words.{FramePart, argument, block_row, common_row, first_in, first_in_common, first_of_block, first_of_part, frame_row, owner_in, same_part, size_in, variable}
use Rattle.hep_layout.proofs.CommonRows.{block_row-below, common_row-cells, name-size}
use Rattle.hep_layout.proofs.FrameRows.{argument-first, equal_parts, frame_row-cells, variable-first}
use Rattle.hep_layout.proofs.Rows.{owned-by, place-at}
use Rattle.hep_layout.proofs.Runs.{common-size}
use Rattle.hep_places.proofs.FrameStarts.{key-among}
use Rattle.hep_places.proofs.InBlocks.{key-in-block}

-- ---- names that are each there once are no more than others of which they are some

without : (x : Name) (ys : List Name) → Has ys x → (zs : List Name) × (length ys ≡ suc (length zs)) × ((y : Name) → same_name y x ≡ false → Has ys y → Has zs y)
without x [] h = absurd (none-some x h.1)
without x (z ∷ zs) (zero, e) = (zs, refl, others) where
  others : (y : Name) → same_name y x ≡ false → Has (z ∷ zs) y → Has zs y
  others y d h = by (has_first_or z zs y h) where
    by : (z ≡ y) ⊎ Has zs y → Has zs y
    by (inl g) = absurd (true≢false (sym (same_name-self y) ∙ (ap (same_name y) (sym g ∙ same_Some z x e) ∙ d)))
    by (inr g) = g
without x (z ∷ zs) (suc i, e) = let r = without x zs (i, e) in (z ∷ r.0, ap suc r.1, others r.0 r.2) where
  others : (rs : List Name) → ((y : Name) → same_name y x ≡ false → Has zs y → Has rs y) → (y : Name) → same_name y x ≡ false → Has (z ∷ zs) y → Has (z ∷ rs) y
  others rs rest y d h = by (has_first_or z zs y h) where
    by : (z ≡ y) ⊎ Has zs y → Has (z ∷ rs) y
    by (inl g) = (zero, ap Some g)
    by (inr g) = has_more z rs y (rest y d g)

no-more : (xs ys : List Name) → AreDistinct same_name xs → ((x : Name) → Has xs x → Has ys x) → length xs ≤ length ys
no-more [] ys d h = omega arith
no-more (x ∷ xs) ys d h =
    let r = without x ys (h x (zero, refl)) in
    let more = no-more xs r.0 d.1 (λ y g. r.2 y (other y g (same_name y x) refl) (h y (has_more x xs y g))) in
    omega (arith, r.1, more)
  where
    other : (y : Name) → Has xs y → (t : Bool) → same_name y x ≡ t → t ≡ false
    other y g true e = absurd (true≢false (sym (has_among xs x (subst (λ z. Has xs z) (equal_names y x e) g)) ∙ d.0))
    other y g false e = refl

-- ---- the owners of cells

owners : (ℕ → Name) → ℕ → List Name
owners f zero = []
owners f (suc n) = f n ∷ owners f n

owners-count : (f : ℕ → Name) (n : ℕ) → length (owners f n) ≡ n
unfolding owners
owners-count f zero = refl
owners-count f (suc n) = ap suc (owners-count f n)

last : (n c : ℕ) → c < suc n → (n ≡ c) ⊎ (c < n)
last zero zero h = inl refl
last zero (suc c) h = absurd (omega (arith, h))
last (suc n) zero h = inr (omega arith)
last (suc n) (suc c) h = more (last n c (omega (arith, h))) where
  more : (n ≡ c) ⊎ (c < n) → (suc n ≡ suc c) ⊎ (suc c < suc n)
  more (inl e) = inl (ap suc e)
  more (inr g) = inr (omega (arith, g))

owner-there : (f : ℕ → Name) (n c : ℕ) → c < n → Has (owners f n) (f c)
unfolding owners
owner-there f zero c h = absurd (omega (arith, h))
owner-there f (suc n) c h = by (owner-there f n c) (last n c h) where
  by : (c < n → Has (owners f n) (f c)) → (n ≡ c) ⊎ (c < n) → Has (f n ∷ owners f n) (f c)
  by rest (inl e) = (zero, ap (λ m. Some (f m)) e)
  by rest (inr g) = has_more (f n) (owners f n) (f c) (rest g)

abbrev name_of_part : FramePart → Name
name_of_part (argument x) = x
name_of_part (variable x) = x
name_of_part _ = no_name

abbrev owner_name : Option (FramePart × ℕ) → Name
owner_name None = no_name
owner_name (Some p) = name_of_part p.0

abbrev block_name : Option (Name × ℕ) → Name
block_name None = no_name
block_name (Some p) = p.0

abbrev common_name : List Statement → Option (BlockName × ℕ) → Name
common_name unit None = no_name
common_name unit (Some p) = block_name (owner_in (block_row unit p.0) p.1)

frame-owner : (unit : List Statement) (part : FramePart) → 0 < size_in (same_part part) (frame_row unit) → (owner_in (frame_row unit) (first_of_part unit part) ≡ Some (part, 0)) × (first_of_part unit part < frame_cells unit)
frame-owner unit part h =
    let first = first_of_part unit part in
    let at : first + 0 ≡ first = omega arith in
    let found = owned-by (same_part part) part 0 (frame_row unit) (first + 0) (equal_parts part) (place-at (same_part part) 0 (frame_row unit) h) in
    (ap (owner_in (frame_row unit)) (sym at) ∙ found.0, omega (arith, found.1, frame_row-cells unit))

common-owner : (program : Units) (u : ℕ) (unit : List Statement) (x : Name) (b : BlockName) → slice_get program u ≡ Some unit → common_block unit x ≡ Some b → 0 < cells_of unit x
    → (x ≡ common_name unit (owner_in (common_row program) (first_in_common program unit b x))) × (first_in_common program unit b x < common_cells program)
common-owner program u unit x b there e some =
    let f = first_in (same_name x) (block_row unit b) in
    let key = sym (key-among (cells_of unit) x (names_in_block unit b)) ∙ key-in-block unit x b e in
    let size : size_in (same_name x) (block_row unit b) ≡ cells_of unit x = name-size unit b x key in
    let zero_more : f + 0 ≡ f = omega arith in
    let inside = owned-by (same_name x) x 0 (block_row unit b) (f + 0) (equal_names x) (place-at (same_name x) 0 (block_row unit b) (omega (arith, size, some))) in
    let below : f < size_in (same_block b) (common_row program) = omega (arith, inside.1, block_row-below program u unit b there, common-size program u unit x b there e) in
    let outside = owned-by (same_block b) b f (common_row program) (first_of_block program b + f) (equal_blocks b) (place-at (same_block b) f (common_row program) below) in (
      sym (ap (common_name unit) outside.0 ∙ ap block_name (ap (owner_in (block_row unit b)) (sym zero_more) ∙ inside.0)),
      omega (arith, outside.1, common_row-cells program),
    )

-- ---- arrays have cells

product-some : (o p : Option ℕ) (n : ℕ) → IfSome o (λ e. 1 ≤ e) → ((m : ℕ) → p ≡ Some m → 1 ≤ m) → product o p ≡ Some n → 1 ≤ n
product-some None p n h g e = absurd (none-some n e)
product-some (Some k) None n h g e = absurd (none-some n e)
product-some (Some k) (Some m) n h g e =
    let same = same_Some (k * m) n e in
    let more : 1 * 1 ≤ k * m = mul-le-mul h (g m refl) in
    omega (arith, same, more)

some-elements : (bs : Bounds) (n : ℕ) → are_dimensions bs ≡ true → elements bs ≡ Some n → 1 ≤ n
some-elements [] n d e = let same = same_Some 1 n e in omega (arith, same)
some-elements (b ∷ bs) n d e =
    let parts = and_parts (is_between b.lower b.upper bs) (are_dimensions bs) d in
    product-some (extent b) (elements bs) n (between_extent b bs parts.0) (λ m g. some-elements bs m parts.1 g) e

pub some-cells : (unit : List Statement) (x : Name) (bs : Bounds) (n : ℕ) → constant_shape unit x ≡ Some bs → is_shape bs ≡ true → elements bs ≡ Some n → 0 < cells_of unit x
some-cells unit x bs n e s f =
    let dimensions = (and_parts (are_dimensions bs) (is_most (elements bs)) (and_parts (nat_le (length bs) 7) (are_dimensions bs && is_most (elements bs)) (and_parts (nat_le 1 (length bs)) (nat_le (length bs) 7 && (are_dimensions bs && is_most (elements bs))) s).1).1).0 in
    let cells : cells_of unit x ≡ n = ap cells_of_shape e ∙ ap (λ o. unwrap_or o 0) f in
    omega (arith, cells, some-elements bs n dimensions f)

-- ---- all arrays of a unit

module _ (program : Units) (u : ℕ) (unit : List Statement) (there : slice_get program u ≡ Some unit)
    (begun : (i : ℕ) (x : Name) → slice_get (arrays_of unit) i ≡ Some x → (at : Start) × (is_array unit x ≡ true) × (start_of program unit x ≡ Some at))
    (sized : (x : Name) → is_array unit x ≡ true → index_among x (dummies_of unit) ≡ None → 0 < cells_of unit x) where
  frame_owners : List Name
  frame_owners = owners (λ c. owner_name (owner_in (frame_row unit) c)) (frame_cells unit)

  common_owners : List Name
  common_owners = owners (λ c. common_name unit (owner_in (common_row program) c)) (common_cells program)

  of-frame : (x : Name) (part : FramePart) → name_of_part part ≡ x → 0 < size_in (same_part part) (frame_row unit) → Has (frame_owners ++ common_owners) x
  unfolding frame_owners common_owners
  of-frame x part e h =
      let found = frame-owner unit part h in
      let owner : owner_name (owner_in (frame_row unit) (first_of_part unit part)) ≡ x = ap owner_name found.0 ∙ e in
      has_front frame_owners common_owners x (subst (λ y. Has frame_owners y) owner (owner-there (λ c. owner_name (owner_in (frame_row unit) c)) (frame_cells unit) (first_of_part unit part) found.1))

  of-common : (x : Name) (b : BlockName) → common_block unit x ≡ Some b → 0 < cells_of unit x → Has (frame_owners ++ common_owners) x
  unfolding frame_owners common_owners
  of-common x b e h =
      let found = common-owner program u unit x b there e h in
      has_behind frame_owners common_owners x (subst (λ y. Has common_owners y) (sym found.0) (owner-there (λ c. common_name unit (owner_in (common_row program) c)) (common_cells program) (first_in_common program unit b x) found.1))

  owned : (x : Name) (at : Start) → is_array unit x ≡ true → start_of program unit x ≡ Some at → Has (frame_owners ++ common_owners) x
  unfolding start_of
  owned x at h e = by_index (index_among x (dummies_of unit)) refl e where
    by_local : (t : Bool) → is_among x (locals_of unit) ≡ t → index_among x (dummies_of unit) ≡ None → start_by program unit x None None t ≡ Some at → Has (frame_owners ++ common_owners) x
    by_local true t i e = of-frame x (variable x) refl (omega (arith, (variable-first unit x t).sized, sized x h i))
    by_local false t i e = absurd (none-some at e)

    by_block : (b : Option BlockName) → common_block unit x ≡ b → index_among x (dummies_of unit) ≡ None → start_by program unit x None b (is_among x (locals_of unit)) ≡ Some at → Has (frame_owners ++ common_owners) x
    by_block (Some b) g i e = of-common x b g (sized x h i)
    by_block None g i e = by_local (is_among x (locals_of unit)) refl i e

    by_index : (k : Option ℕ) → index_among x (dummies_of unit) ≡ k → start_by program unit x k (common_block unit x) (is_among x (locals_of unit)) ≡ Some at → Has (frame_owners ++ common_owners) x
    by_index (Some k) i e = of-frame x (argument x) refl (omega (arith, (argument-first unit x k i).sized))
    by_index None i e = by_block (common_block unit x) refl i e

  pub arrays-few : length (arrays_of unit) ≤ frame_cells unit + common_cells program
  unfolding frame_owners common_owners
  arrays-few =
      let fit = no-more (arrays_of unit) (frame_owners ++ common_owners) (fewer_distinct same_name same_name-turned (is_array unit) (names_of unit) (names_distinct unit)) (λ x h. let at = begun h.0 x h.1 in owned x at.0 at.1 at.2) in
      omega (
        arith,
        fit,
        length-append frame_owners common_owners,
        owners-count (λ c. owner_name (owner_in (frame_row unit) c)) (frame_cells unit),
        owners-count (λ c. common_name unit (owner_in (common_row program) c)) (common_cells program),
      )
