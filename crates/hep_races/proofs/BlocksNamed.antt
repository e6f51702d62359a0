-- The common block of a name is among the blocks of the program.
use Rattle.std.proofs.Common.{◌≡◌, ℕ, zero, suc, Bool, true, false, List, [], ◌∷◌, Some, sym, ap, ◌∙◌, subst, if◌then◌else◌, slice_get}
use Rattle.std.proofs.lemmas.Option.{none-some, same_Some}
use Rattle.std.specs.List.{flat_map}
use Rattle.hep_machine.proofs.Locations.{block-stays}
use Rattle.hep_machine.specs.Words.{BlockName, CommonBlock, Name, Statement, Units, block_holding, block_of, blocks_of, blocks_of_unit}
use Rattle.hep_machine.specs.Words.{common_block, is_among, is_block_among, names_declared, with_blocks}
use Rattle.hep_storage.proofs.Entries.{this-among, with_blocks-append}
use Rattle.hep_storage.specs.Lengths.{with_block}

-- the block that has a name is among those of its unit
holding-among : (x : Name) (b : BlockName) (bs : List BlockName) (cs : List CommonBlock) → block_holding x cs ≡ Some b
    → is_block_among b (with_blocks bs cs) ≡ true
holding-among x b bs [] e = absurd (none-some b e)
holding-among x b bs (c ∷ cs) e =
    by (is_among x (names_declared c.entries)) e (holding-among x b (with_block bs (block_of c)) cs)
  where
    by : (t : Bool) → (if t then Some (block_of c) else block_holding x cs) ≡ Some b
        → (block_holding x cs ≡ Some b → is_block_among b (with_blocks (with_block bs (block_of c)) cs) ≡ true)
        → is_block_among b (with_blocks (with_block bs (block_of c)) cs) ≡ true
    by true f rest =
        subst (λ d. is_block_among d (with_blocks (with_block bs (block_of c)) cs) ≡ true) (same_Some (block_of c) b f) (
        block-stays (block_of c) (with_block bs (block_of c)) cs (this-among (block_of c) bs))
    by false f rest = rest f

-- so it is among those of a program that has the unit
unit-among : (x : Name) (b : BlockName) (unit : List Statement) (bs : List BlockName) (program : Units) (u : ℕ)
    → slice_get program u ≡ Some unit
    → common_block unit x ≡ Some b → is_block_among b (with_blocks bs (flat_map blocks_of_unit program)) ≡ true
unit-among x b unit bs [] u e h = absurd (none-some unit e)
unit-among x b unit bs (v ∷ vs) zero e h =
    let same : v ≡ unit = same_Some v unit e in
    subst (λ cs. is_block_among b cs ≡ true) (sym (with_blocks-append bs (blocks_of_unit v) (flat_map blocks_of_unit vs))) (
    block-stays b (with_blocks bs (blocks_of_unit v)) (flat_map blocks_of_unit vs) (
    holding-among x b bs (blocks_of_unit v) (ap (λ w. common_block w x) same ∙ h)))
unit-among x b unit bs (v ∷ vs) (suc u) e h =
    subst (λ cs. is_block_among b cs ≡ true) (sym (with_blocks-append bs (blocks_of_unit v) (flat_map blocks_of_unit vs))) (
    unit-among x b unit (with_blocks bs (blocks_of_unit v)) vs u e h)

-- from the first block on
pub block-named : (program : Units) (unit : List Statement) → (u : ℕ) × (slice_get program u ≡ Some unit)
    → (x : Name) (b : BlockName) → common_block unit x ≡ Some b → is_block_among b (blocks_of program) ≡ true
block-named program unit among x b h = unit-among x b unit [] program among.0 among.1 h
