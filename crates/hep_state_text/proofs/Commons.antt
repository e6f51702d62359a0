-- A variable in COMMON in the loop over those of a block.
use Rattle.std.proofs.Common.{◌≡◌, ℕ, zero, suc, ◌+◌, ◌<◌, ◌≤◌, ◌^◌, List, [], ◌∷◌, drop, length, take, sym, ap, ◌∙◌, subst, arith, slice_get, Some, Option, get_or}
use Rattle.std.proofs.lemmas.List.{drop_more, take_more}
use Rattle.std.proofs.lemmas.Option.{slice_get-get_or}
use Rattle.hep_arena.specs.Space.{Space}
use Rattle.hep_layout.specs.Words.{address, common_row, first_in_common}
use Rattle.hep_arena.proofs.Gaps.{apart-end}
use Rattle.hep_layout.proofs.CommonRows.{common_row-cells, name-first, unit-cells}
use Rattle.hep_layout.proofs.FrameRows.{first-size}
use Rattle.hep_layout.proofs.Runs.{common-size, runs-common}
use Rattle.hep_machine.specs.Words.{BlockName, Layout, Location, Name, State, Statement, Units, cells_before, cells_of, cells_of_all, common_block, common_cells, further, names_in_block, same_block, start_by_block}
use Rattle.hep_machine.specs.declared.slot.Slot.{Slot}
use Rattle.hep_state_text.specs.Contents.{variable_text}
use Rattle.hep_state_text.specs.States as words
use Rattle.hep_state_text.specs.States.{slots_at}
use Rattle.hep_state_text.specs.declared.variable.DisplayedVariable.{DisplayedVariable}
use Rattle.hep_state_text.specs.Blocks.{IsBlockAt}
use Rattle.hep_state_text.specs.StoredVariables.{AreKeptFrom}
use Rattle.hep_state_text.specs.Variables.{IsOwn}
use Rattle.hep_state_text.specs.declared.common_variables.NamedBlock.{NamedBlock}
use Rattle.hep_state_text.proofs.EqualCells.{before-is, block-holds, block-once}
use Rattle.hep_storage.proofs.Entries.{all-append}

module _ (program : Units) (s : State) (layout : Layout) (block : NamedBlock) (arena : Space) (h : IsBlockAt program s layout block arena) (i : ℕ) (d : Name) (less : i < length block.list.now) where
  abbrev unit : List Statement
  unit = block.symbols.now

  abbrev x : Name
  x = get_or block.list.now i d

  abbrev start : Location
  start = start_by_block (words.common_scope program s unit) x (common_block unit x)

  there : slice_get (names_in_block unit h.of) i ≡ Some x
  there = ap (λ xs. slice_get xs i) (sym h.list_is) ∙ slice_get-get_or block.list.now i d less

  held : common_block unit x ≡ Some h.of
  held = block-holds program h.unit unit h.accepted h.unit_is h.of i x there

  pub next-is : drop i block.list.now ≡ x ∷ drop (i + 1) block.list.now
  next-is = drop_more block.list.now i d less

  pub kept : (cells at : ℕ) → cells ≡ cells_of unit x → at ≡ block.first + cells_of_all unit (take i block.list.now) → AreKeptFrom program s layout start cells at arena
  kept cells at counted placed =
      let front : cells_before unit x (names_in_block unit h.of) ≡ cells_of_all unit (take i block.list.now) =
      before-is unit (names_in_block unit h.of) i x (block-once program h.unit unit h.accepted h.unit_is h.of) there ∙ ap (λ xs. cells_of_all unit (take i xs)) (sym h.list_is) in
      let first : first_in_common program unit h.of x ≡ at = omega (arith, name-first program unit h.of x, front, placed, h.first_is) in
      let runs = runs-common program s layout h.unit unit x h.of h.unit_is held in
      record {
        is_of = h.is_of;
        runs = λ n small.
            ap (λ (o : Option BlockName). address program s layout (further (start_by_block (words.common_scope program s unit) x o) n)) held
            ∙ runs n (subst (λ m. n < m) counted small)
            ∙ ap (λ m. Some (m + n)) first;
      }

  pub line-is : (var : DisplayedVariable) (slots : List Slot) (cells : ℕ) → IsOwn unit x var → cells ≡ cells_of unit x → slots ≡ slots_at s.store start cells
      → variable_text var.name var.asynchronous var.bounds.items slots ≡ words.own_text program s (words.common_scope program s unit) x
  line-is var slots cells own counted e =
      λ j. variable_text (own.name j) (own.asynchronous j) (own.shape j) ((e ∙ ap (slots_at s.store start) counted) j)

-- where the next one begins
pub taken-next : (unit : List Statement) (first : ℕ) (list : List Name) (i : ℕ) (d : Name) → i < length list → (at cells : ℕ) → at ≡ first + cells_of_all unit (take i list) → cells ≡ cells_of unit (get_or list i d)
    → at + cells ≡ first + cells_of_all unit (take (i + 1) list)
taken-next unit first list i d less at cells placed counted =
    let more = ap (cells_of_all unit) (take_more list i d less) ∙ all-append unit (take i list) (get_or list i d ∷ []) in
    omega (arith, more, placed, counted)

-- it does so within 32 bits
taken-few : (unit : List Statement) (xs : List Name) (i : ℕ) → cells_of_all unit (take i xs) ≤ cells_of_all unit xs
taken-few unit [] zero = omega arith
taken-few unit [] (suc i) = omega arith
taken-few unit (x ∷ xs) zero = omega arith
taken-few unit (x ∷ xs) (suc i) = let rest = taken-few unit xs i in omega (arith, rest)

pub next-fits : (program : Units) (s : State) (layout : Layout) (block : NamedBlock) (arena : Space) (h : IsBlockAt program s layout block arena) (i : ℕ) (d : Name) → i < length block.list.now
    → (at cells : ℕ) → at ≡ block.first + cells_of_all block.symbols.now (take i block.list.now) → cells ≡ cells_of block.symbols.now (get_or block.list.now i d) → at + cells < 2 ^ 32
next-fits program s layout block arena h i d less at cells placed counted =
    let unit = block.symbols.now in
    let next = taken-next unit block.first block.list.now i d less at cells placed counted in
    let few = taken-few unit block.list.now (i + 1) in
    let all = ap (cells_of_all unit) h.list_is in
    let within = unit-cells program h.unit unit h.of h.unit_is in
    let size = common-size program h.unit unit (get_or block.list.now i d) h.of h.unit_is (held program s layout block arena h i d less) in
    let row = first-size (same_block h.of) (common_row program) in
    let end = apart-end (length arena.contents) (common_cells program) layout h.is_of.memory.laid.apart in
    omega (arith, next, few, all, within, size, row, common_row-cells program, end, h.first_is, h.is_of.few)
