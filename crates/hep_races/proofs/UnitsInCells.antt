-- What is in a cell is a storage unit of the program, whose place tells it.
use Rattle.std.proofs.Common.{◌≡◌, ◌⊎◌, inl, inr, ℕ, zero, suc, ◌-◌, ◌<◌, ◌≤◌, nat_lt, Bool, true, false, ◌||◌, List, [], ◌∷◌, length}
use Rattle.std.proofs.Common.{map, Option, Some, None, refl, sym, ap, ◌∙◌, subst, arith, is_some, if◌then◌else◌}
use Rattle.std.proofs.lemmas.Bool.{or_left, or_right, true≢false}
use Rattle.std.proofs.lemmas.Option.{none-some, same_Some}
use Rattle.hep_arena.specs.Gaps.{frame_among}
use Rattle.hep_image.proofs.Numbers.{dummy-named, local-named}
use Rattle.hep_layout.specs.Words.{FramePart, Row, address, arguments_row, bounds_row, cell_in, frame_row, iterations_row, owner_in}
use Rattle.hep_layout.specs.Words.{place_of_part, same_part, size_in, variable, variables_row}
use Rattle.hep_layout.proofs.Addresses.{IsCommon, IsLocal, in-common, located}
use Rattle.hep_layout.proofs.FrameRows.{none-arguments, none-iterations, variable-first}
use Rattle.hep_layout.proofs.HeldFrames.{held-made, placed-run}
use Rattle.hep_layout.proofs.Rows.{has_key, placed, size-behind}
use Rattle.hep_machine.proofs.Locations.{block-self}
use Rattle.hep_machine.specs.Constants.{cells_of_shape, constant_value, shape_by}
use Rattle.hep_layout.specs.Addresses.{kept_in}
use Rattle.hep_machine.specs.Words.{BlockName, Layout, Location, Name, State, Statement, Units, activation_of, block_cells, blocks_of}
use Rattle.hep_machine.specs.Words.{cells_of, dummies_of, index_among, is_among}
use Rattle.hep_machine.specs.Words.{Frame, is_array, is_block_among, is_held, layout_of, local, locals_of, names_of, run, same_block}
use Rattle.hep_machine.specs.Words.{same_name, unit_at, unit_of}
use Rattle.hep_source.proofs.NameTests.{among-index}
use Rattle.hep_races.specs.StoragePlaces.{IsThere}

-- ---- COMMON

-- the owner of a cell is among the blocks
block-owner : (program : Units) (bs : List BlockName) (n : ℕ) (b : BlockName) (i : ℕ)
    → owner_in (map (λ (c : BlockName). (c, block_cells program c)) bs) n ≡ Some (b, i) → is_block_among b bs ≡ true
block-owner program [] n b i e = absurd (none-some (b, i) e)
block-owner program (c ∷ cs) n b i e = by (nat_lt n (block_cells program c)) e (block-owner program cs (n - block_cells program c) b i)
  where
    by : (t : Bool) → (if t then Some (c, n) else owner_in (map (λ (d : BlockName). (d, block_cells program d)) cs)
        (n - block_cells program c)) ≡ Some (b, i)
        → (owner_in (map (λ (d : BlockName). (d, block_cells program d)) cs) (n - block_cells program c) ≡ Some (b, i)
        → is_block_among b cs ≡ true)
        → (same_block b c || is_block_among b cs) ≡ true
    by true e rest =
        let same : c ≡ b = ap (λ (q : BlockName × ℕ). q.0) (same_Some (c, n) (b, i) e) in
        or_left (same_block b c) (is_block_among b cs) (subst (λ z. same_block b z ≡ true) (sym same) (block-self b))
    by false e rest = or_right (same_block b c) (is_block_among b cs) (rest e)

-- ---- local variables

-- a part that a row doesn't have has no size
size-none : {K : Type 0} (test : K → Bool) (es : Row K) → has_key test es ≡ false → size_in test es ≡ 0
size-none test [] h = refl
size-none test (e ∷ es) h = by (test e.0) h (size-none test es)
  where
    by : (b : Bool) → (if b then true else has_key test es) ≡ false → (has_key test es ≡ false → size_in test es ≡ 0)
        → (if b then e.1 else size_in test es) ≡ 0
    by true h rest = absurd (true≢false h)
    by false h rest = rest h

module _ (unit : List Statement) (x : Name) where
  abbrev test : FramePart → Bool
  test = same_part (variable x)

  variables-have : (ys : List Name) → is_among x ys ≡ false → has_key test (variables_row unit ys) ≡ false
  variables-have [] h = refl
  variables-have (y ∷ ys) h = by (same_name x y) h (variables-have ys)
    where
      by : (b : Bool) → (if b then true else is_among x ys) ≡ false → (is_among x ys ≡ false → has_key test (variables_row unit ys) ≡ false)
          → (if b then true else has_key test (variables_row unit ys)) ≡ false
      by true h rest = absurd (true≢false h)
      by false h rest = rest h

  bounds-have : (ys : List Name) → has_key test (bounds_row unit ys) ≡ false
  bounds-have [] = refl
  bounds-have (y ∷ ys) = bounds-have ys

  none-local : is_among x (locals_of unit) ≡ false → size_in test (frame_row unit) ≡ 0
  none-local none =
      size-behind test (arguments_row (dummies_of unit)) _ (none-arguments (variable x) (dummies_of unit) (λ y. refl))
      ∙ size-behind test (variables_row unit (locals_of unit)) _ (variables-have (locals_of unit) none)
      ∙ size-behind test (iterations_row 0 unit) _ (none-iterations (variable x) 0 unit (λ d. refl))
      ∙ size-none test (bounds_row unit (dummies_of unit)) (bounds-have (dummies_of unit))

  scalar-cells : is_array unit x ≡ false → cells_of unit x ≡ 1
  scalar-cells plain = ap (λ b. cells_of_shape (if b then shape_by unit (constant_value unit) x else Some [])) plain

  -- a variable with a cell is a local one, and the cell is the first one of a scalar
  pub local-cell : (i n : ℕ) → place_of_part unit (variable x) i ≡ Some n → (is_among x (names_of unit) ≡ true)
      × (is_array unit x ≡ false → suc i ≡ 1)
  local-cell i n e = by (is_among x (locals_of unit)) refl
    where
      at : i < size_in test (frame_row unit)
      at = (placed test i (frame_row unit) n e).below

      by : (b : Bool) → is_among x (locals_of unit) ≡ b → (is_among x (names_of unit) ≡ true) × (is_array unit x ≡ false → suc i ≡ 1)
      by true h = (local-named unit x h, λ plain. omega (arith, at, (variable-first unit x h).sized, scalar-cells plain))
      by false h = absurd (omega (arith, at, none-local h))

-- ---- all of it

module _ (program : Units) (cells : ℕ) (choices : List ℕ) (layout : Layout)
    (laid : layout_of program cells is_held choices ≡ Some layout) where
  abbrev s : State
  s = run program choices

  -- an activation with a frame was made
  made : (a : ℕ) (f : Frame) → frame_among a layout ≡ Some f → (1 ≤ a) × (a ≤ length s.activations)
  made a f e = held-made program choices a (sym ((placed-run program cells choices layout laid).held a) ∙ ap is_some e)

  framed-there : (a : ℕ) (x : Name) (i : ℕ) (o : Option ℕ) (c : FramePart × ℕ) (p : ℕ)
      → index_among x (dummies_of (unit_at program (unit_of s a))) ≡ o
      → kept_in a (activation_of s a).dummies x i o ≡ Some c
      → cell_in (frame_among a layout) (place_of_part (unit_at program (unit_of s a)) c.0 c.1) ≡ Some p
      → IsThere program s (local a x (suc i))
  framed-there a x i o c p index kept at = by (frame_among a layout) (place_of_part (unit_at program (unit_of s a)) c.0 c.1) refl refl at
    where
      unit : List Statement
      unit = unit_at program (unit_of s a)

      named : (o : Option ℕ) → index_among x (dummies_of unit) ≡ o → kept_in a (activation_of s a).dummies x i o ≡ Some c → (n : ℕ)
          → place_of_part unit c.0 c.1 ≡ Some n → (is_among x (names_of unit) ≡ true) × (is_array unit x ≡ false → suc i ≡ 1)
      named None index kept n place =
          let same : (variable x, i) ≡ c = same_Some (variable x, i) c kept in
          local-cell unit x i n (ap (λ (q : FramePart × ℕ). place_of_part unit q.0 q.1) same ∙ place)
      named (Some k) index kept n place = (dummy-named unit x (among-index x (dummies_of unit) k index), only-first i kept)
        where
          only-first : (i : ℕ) → kept_in a (activation_of s a).dummies x i (Some k) ≡ Some c → is_array unit x ≡ false → suc i ≡ 1
          only-first zero e plain = refl
          only-first (suc i) e plain = absurd (none-some c e)

      by : (f : Option Frame) (n : Option ℕ) → frame_among a layout ≡ f → place_of_part unit c.0 c.1 ≡ n → cell_in f n ≡ Some p
          → IsThere program s (local a x (suc i))
      by None n g h e = absurd (none-some p e)
      by (Some f) None g h e = absurd (none-some p e)
      by (Some f) (Some n) g h e =
          let both = made a f g in
          let own = named o index kept n h in
          let one : 1 ≤ suc i = omega arith in
          (both.0, both.1, own.0, own.1, one)

  pub there : (at : Location) (c : ℕ) → address program s layout at ≡ Some c → IsThere program s at
  there at c e = by (located program s layout at c e)
    where
      by : IsLocal program s layout at c ⊎ IsCommon program at c → IsThere program s at
      by (inl h) =
          subst (IsThere program s) (sym h.at_is) (
          framed-there h.activation h.name h.index (index_among h.name (dummies_of (unit_at program (unit_of s h.activation)))) h.cell c
          refl h.kept h.cell_at)
      by (inr h) = subst (IsThere program s) (sym h.at_is) (block-owner program (blocks_of program) c h.block h.index
          (in-common program at c h).0)
