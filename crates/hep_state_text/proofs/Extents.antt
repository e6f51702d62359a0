-- Where the blocks of a program are, in the machine that runs it.
use Rattle.std.proofs.Common.{◌≡◌, ℕ, zero, suc, ◌<◌, true, List, [], ◌∷◌, ◌++◌, length, Some, sym, ap, ◌∙◌, subst, append_assoc, arith, slice_get, get_or}
use Rattle.std.specs.List.{flat_map, list_any}
use Rattle.std.proofs.lemmas.Bool.{or_left, or_right}
use Rattle.std.proofs.lemmas.Option.{get_or_from_slice_get, none-some, same_Some, slice_get-get_or}
use Rattle.hep_conditions.specs.Words.{IsAccepted}
use Rattle.hep_machine.proofs.Locations.{block-self}
use Rattle.hep_machine.specs.Words.{BlockName, Name, State, Statement, Units, block_spelling, is_block_among, names_in_block, run, same_block, unit_name}
use Rattle.hep_proc.specs.declared.frames.Frames.{Frames}
use Rattle.hep_state.specs.declared.core_state.CoreState.{CoreState}
use Rattle.hep_state.specs.Words.{IsMachineAfter}
use Rattle.hep_state_text.specs.Lines as lines
use Rattle.hep_state_text.specs.States as words
use Rattle.hep_state_text.specs.Blocks.{IsBlockAt, IsExtentOf}
use Rattle.hep_state_text.specs.StoredVariables.{IsArenaOf}
use Rattle.hep_state_text.specs.Storage.{IsStorageOf}
use Rattle.hep_state_text.specs.declared.common_variables.NamedBlock.{NamedBlock}
use Rattle.hep_state_text.specs.declared.common_variables.Extent.{Extent}
use Rattle.hep_state_text.specs.declared.storage.StateStorage.{StateStorage}

pub block-named : (bs : List BlockName) (i : ℕ) (b : BlockName) → slice_get bs i ≡ Some b → is_block_among b bs ≡ true
block-named [] i b e = absurd (none-some b e)
block-named (c ∷ bs) zero b e = or_left (same_block b c) (list_any (same_block b) bs) (ap (same_block b) (same_Some c b e) ∙ block-self b)
block-named (c ∷ bs) (suc i) b e = or_right (same_block b c) (list_any (same_block b) bs) (block-named bs i b e)

-- what is there doesn't depend on what would be read behind the end
pub get_or-same : (program : Units) (u : ℕ) (a b : List Statement) → u < length program → get_or program u a ≡ get_or program u b
get_or-same program u a b inside = get_or_from_slice_get program u (get_or program u b) a (slice_get-get_or program u b inside)

module _ (storage : StateStorage) (m : CoreState) (is : IsStorageOf storage m) (cells : ℕ) (choices : List ℕ) (h : IsMachineAfter storage.image.now cells choices m) (accepted : IsAccepted storage.image.now) where
  abbrev program : Units
  program = storage.image.now

  abbrev s : State
  s = run storage.image.now choices

  arena-is : IsArenaOf program s h.after.layout storage.frames.now.arena
  arena-is = subst (λ (f : Frames). IsArenaOf program s h.after.layout f.arena) (sym is.frames) (record {
    memory = h.after.shows.keeps.memory;
    few = omega (arith, h.few, h.after.size);
  })

  pub block-at : (e : Extent) → IsExtentOf program e → (u : ℕ) (block : NamedBlock) → slice_get program u ≡ Some block.symbols.now
      → block.list.now ≡ names_in_block block.symbols.now e.block → block.first ≡ e.first
      → IsBlockAt program s h.after.layout block storage.frames.now.arena
  block-at e extent u block there list first =
      record {
        is_of = arena-is;
        accepted = accepted;
        unit = u;
        unit_is = there;
        of = e.block;
        list_is = list;
        first_is = first ∙ extent.first;
      }

  -- the lines of a block, by a unit that is the one whose names it has
  pub lines-are : (b : BlockName) (unit : List Statement) (names : List Name) (old name title : List ℕ) → unit ≡ words.unit_of_block program b → names ≡ names_in_block unit b
      → name ≡ block_spelling b → title ≡ unit_name unit
      → (old ++ lines.block_text name title) ++ flat_map (words.own_text program s (words.common_scope program s unit)) names ≡ old ++ words.block_text program s b
  lines-are b unit names old name title is_unit is_list is_name is_title =
      append_assoc old (lines.block_text name title) (flat_map (words.own_text program s (words.common_scope program s unit)) names)
      ∙ (λ i. old ++ (lines.block_text (is_name i) (is_title i) ++ flat_map (words.own_text program s (words.common_scope program s unit)) (is_list i)))
      ∙ (λ i. old ++ (lines.block_text (block_spelling b) (unit_name (is_unit i)) ++ flat_map (words.own_text program s (words.common_scope program s (is_unit i))) (names_in_block (is_unit i) b)))
