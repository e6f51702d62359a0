-- The storage units of local variables of a main program, and the cells in which they are kept at the opening.
use Rattle.std.proofs.Common.{◌≡◌, ℕ, ◌+◌, ◌-◌, ◌<◌, ◌≤◌, Bool, true, false, [], ◌∷◌, Option, Some, None, refl, sym, ap, ◌∙◌, subst, true≢false, arith, ◌&&◌, nat_eq, nat_le, nat_lt, if◌then◌else◌}
use Rattle.std.specs.Option.{option_map}
use Rattle.std.proofs.lemmas.Bool.{and_parts, eqb-true}
use Rattle.std.proofs.lemmas.Bool.Decides.{nat_tests}
use Rattle.std.proofs.lemmas.Option.{none-some, same_Some}
use Rattle.hep_source.proofs.NameTests.{equal_names, same_name-self}
use Rattle.hep_machine.specs.Words.{Name, is_among, same_name, Units, main_unit, unit_at, cells_of, same_block, common_cells, opening_layout, Scope, storage_by_dummy, storage_of, index_within, opening, Location, State, common, local, distance, further, frame_cells, locals_of}
use Rattle.hep_machine.proofs.Locations.{equal_blocks, block-self}
use Rattle.hep_layout.specs.Words.{IsLaid, address, first_of_part, variable, RunsFrom}
use Rattle.hep_layout.proofs.Addresses.{one-location}
use Rattle.hep_layout.proofs.HeldFrames.{opening-is, placed-opening}
use Rattle.hep_layout.proofs.Runs.{local-index, further-further}
use Rattle.hep_layout.proofs.Storages.{storage-local}
use Rattle.hep_image.specs.Data.{first_frames}
use Rattle.hep_places.specs.declared.data_cells.CellRange.{CellRange}
use Rattle.hep_places.specs.CellRows.{is_among_cells}
use Rattle.hep_source.proofs.Tests.{number-self}

-- ---- storage units, so many further

apart : (n j k : ℕ) → j ≤ k → (nat_le (n + j) (n + k) ≡ true) × ((n + k) - (n + j) ≡ k - j)
apart n j k h = (grind (arith, nat_tests), omega (arith, h))

distance-further : (l : Location) (j k : ℕ) → j ≤ k → distance (further l j) (further l k) ≡ Some (k - j)
distance-further (local a x n) j k h =
    let same = apart n j k h in
    (λ i. if number-self a i && (same_name-self x i && same.0 i) then Some ((n + k) - (n + j)) else None) ∙ ap (λ m. Some m) same.1
distance-further (common b n) j k h =
    let same = apart n j k h in
    (λ i. if block-self b i && same.0 i then Some ((n + k) - (n + j)) else None) ∙ ap (λ m. Some m) same.1

reached : (i j k : ℕ) → nat_le i j ≡ true → j - i ≡ k → j ≡ i + k
reached i j k h e = grind (arith, nat_tests)

further-distance : (l m : Location) (k : ℕ) → distance l m ≡ Some k → m ≡ further l k
further-distance (local a x i) (local b y j) k e = by_test (nat_eq a b && (same_name x y && nat_le i j)) refl e where
  by_test : (t : Bool) → (nat_eq a b && (same_name x y && nat_le i j)) ≡ t → (if t then Some (j - i) else None) ≡ Some k → local b y j ≡ local a x (i + k)
  by_test true t e =
      let h = and_parts (nat_eq a b) (same_name x y && nat_le i j) t in
      let n = and_parts (same_name x y) (nat_le i j) h.1 in
      let activations = eqb-true a b h.0 in
      let names = equal_names x y n.0 in
      let elements = reached i j k n.1 (same_Some (j - i) k e) in
      λ d. local (sym activations d) (sym names d) (elements d)
  by_test false t e = absurd (none-some k e)
further-distance (local a x i) (common c j) k e = absurd (none-some k e)
further-distance (common b i) (local c y j) k e = absurd (none-some k e)
further-distance (common b i) (common c j) k e = by_test (same_block b c && nat_le i j) refl e where
  by_test : (t : Bool) → (same_block b c && nat_le i j) ≡ t → (if t then Some (j - i) else None) ≡ Some k → common c j ≡ common b (i + k)
  by_test true t e =
      let h = and_parts (same_block b c) (nat_le i j) t in
      let blocks = equal_blocks b c h.0 in
      let elements = reached i j k h.1 (same_Some (j - i) k e) in
      λ d. common (sym blocks d) (elements d)
  by_test false t e = absurd (none-some k e)

-- ---- the opening

module _ (program : Units) where
  abbrev pub scope : Scope
  scope = record { unit = unit_at program (main_unit program); number = 1; dummies = [] }

  abbrev cells : ℕ
  cells = common_cells program + frame_cells (unit_at program (main_unit program))

  fits-itself : (n : ℕ) → nat_le n n ≡ true
  fits-itself n = grind (arith, nat_tests)

  begun : opening_layout program cells ≡ Some (first_frames program)
  unfolding opening
  begun =
      ap (λ b. option_map (λ (first : ℕ). record { activation = 1; first = first; cells = frame_cells (unit_at program (main_unit program)) } ∷ []) (if b then Some (common_cells program) else None))
      (fits-itself (common_cells program + frame_cells (unit_at program (main_unit program))))

  pub laid : IsLaid program (opening program) cells (first_frames program)
  laid = subst (λ (s : State). IsLaid program s cells (first_frames program)) (opening-is program) (placed-opening program cells (first_frames program) begun).laid

  pub runs : (x : Name) → is_among x (locals_of (unit_at program (main_unit program))) ≡ true
      → RunsFrom program (opening program) (first_frames program) (storage_of scope x).start (storage_of scope x).rest (common_cells program + first_of_part (unit_at program (main_unit program)) (variable x))
  unfolding opening
  runs x h = storage-local program (opening program) (first_frames program) 1 x (record { activation = 1; first = common_cells program; cells = frame_cells (unit_at program (main_unit program)) }) refl h

  pub rest_is : (x : Name) → is_among x (locals_of (unit_at program (main_unit program))) ≡ true → (storage_of scope x).rest ≡ cells_of (unit_at program (main_unit program)) x
  rest_is x h = ap (λ (o : Option ℕ). (storage_by_dummy scope x o).rest) (local-index (unit_at program (main_unit program)) x h)

  -- a cell of the arena in which a storage unit is kept
  abbrev pub KeepsUnit : ℕ → Type 0
  KeepsUnit p = (at : Location) × (address program (opening program) (first_frames program) at ≡ Some p)

  -- each cell of a stretch is one
  pub unit_in : (start : Location) (rest first before count : ℕ) → RunsFrom program (opening program) (first_frames program) start rest first → before + count ≤ rest
      → (p : ℕ) → is_among_cells (record { first = first + before; count = count }) p ≡ true → KeepsUnit p
  unit_in start rest first before count kept room p t =
      (further start (before + (p - (first + before))), kept (before + (p - (first + before))) less ∙ ap (λ n. Some n) sums)
    where
      less : before + (p - (first + before)) < rest
      less = grind (arith, nat_tests)

      sums : first + (before + (p - (first + before))) ≡ p
      sums = grind (arith, nat_tests)

  -- a storage unit is so far in a stretch as its cell is in the cells of the stretch
  module _ (start : Location) (rest first before count : ℕ) (kept : RunsFrom program (opening program) (first_frames program) start rest first) (room : before + count ≤ rest)
      (at : Location) (p : ℕ) (here : address program (opening program) (first_frames program) at ≡ Some p) where
    abbrev run_cells : CellRange
    run_cells = record { first = first + before; count = count }

    inside : is_among_cells run_cells p ≡ true → distance (further start before) at ≡ Some (p - (first + before))
    inside t = ap (distance (further start before)) same ∙ (distance-further start before (before + (p - (first + before))) (omega arith) ∙ ap (λ n. Some n) (back before (p - (first + before)))) where
      back : (a b : ℕ) → (a + b) - a ≡ b
      back a b = omega arith

      less : before + (p - (first + before)) < rest
      less = grind (arith, nat_tests)

      sums : first + (before + (p - (first + before))) ≡ p
      sums = grind (arith, nat_tests)

      same : at ≡ further start (before + (p - (first + before)))
      same = one-location program (opening program) cells (first_frames program) at (further start (before + (p - (first + before)))) p laid here
          (kept (before + (p - (first + before))) less ∙ ap (λ n. Some n) sums)

    outside : (k : ℕ) → distance (further start before) at ≡ Some k → k < count → is_among_cells run_cells p ≡ true
    outside k e h = by_cell (first + (before + k)) p (same_Some (first + (before + k)) p (sym (kept (before + k) less) ∙ (ap (address program (opening program) (first_frames program)) (sym same) ∙ here))) where
      less : before + k < rest
      less = omega (arith, h, room)

      same : at ≡ further start (before + k)
      same = further-distance (further start before) at k e ∙ further-further start before k

      by_cell : (n p : ℕ) → first + (before + k) ≡ p → (nat_le (first + before) p && nat_lt p ((first + before) + count)) ≡ true
      by_cell n p q = grind (arith, nat_tests)

    pub unit_index : (after : Option ℕ) → index_within count (distance (further start before) at) after ≡ (if is_among_cells run_cells p then Some (p - (first + before)) else option_map (λ n. count + n) after)
    unit_index after = by_test (is_among_cells run_cells p) refl where
      offset : is_among_cells run_cells p ≡ true → nat_lt (p - (first + before)) count ≡ true
      offset t = grind (arith, nat_tests)

      near : (k : ℕ) → nat_lt k count ≡ true → k < count
      near k t = grind (arith, nat_tests)

      by_distance : is_among_cells run_cells p ≡ false → (o : Option ℕ) → distance (further start before) at ≡ o → index_within count o after ≡ option_map (λ n. count + n) after
      by_distance t None e = refl
      by_distance t (Some k) e = by_near (nat_lt k count) refl where
        by_near : (b : Bool) → nat_lt k count ≡ b → (if b then Some k else option_map (λ n. count + n) after) ≡ option_map (λ n. count + n) after
        by_near true n = absurd (true≢false (sym (outside k e (near k n)) ∙ t))
        by_near false n = refl

      by_test : (b : Bool) → is_among_cells run_cells p ≡ b → index_within count (distance (further start before) at) after ≡ (if b then Some (p - (first + before)) else option_map (λ n. count + n) after)
      by_test true t = ap (λ o. index_within count o after) (inside t) ∙ ap (λ b. if b then Some (p - (first + before)) else option_map (λ n. count + n) after) (offset t)
      by_test false t = by_distance t (distance (further start before) at) refl
