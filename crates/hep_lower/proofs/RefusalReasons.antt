-- What is told of a program that has no image, and what is known of one that has.
use Rattle.std.proofs.Common.{◌⊎◌, ◌≡◌, ◌≢◌, inl, inr, ℕ, ◌<◌, ◌≤◌, ◌^◌, List, [], Some, None, length, refl, sym, ◌∙◌, subst, Result, Ok, Err, IfErr}
use Rattle.std.specs.Option.{option_eq}
use Rattle.std.specs.Result.{IsErr, IsErrAnd}
use Rattle.std.proofs.lemmas.Option.{none-some}
use Rattle.hep_base.specs.declared.refusal.Refusal.{Refusal as LowerFault}
use Rattle.hep_base.specs.declared.refusal.Refusal.TheVariants.{NoMemory, Refused}
use Rattle.indexmap.specs.IndexMap.{get}
use Rattle.hep_machine.specs.Words.{name_eq, Units, main_among, unit_at, BlockName, blocks_of, block_cells, common_cells, frame_cells}
use Rattle.hep_conditions.specs.Words.{IsAccepted}
use Rattle.hep_code.specs.Words.{most_instructions}
use Rattle.hep_image.specs.declared.data.DataRow.{DataRow}
use Rattle.hep_image.specs.declared.names.ProgramNames.{ProgramNames}
use Rattle.hep_image.specs.declared.owners.BlockStart.{BlockStart}
use Rattle.hep_image.specs.declared.unit.UnitCode.{UnitCode}
use Rattle.hep_image.specs.Data.{AreInitial, AreOfUnits}
use Rattle.hep_image.specs.Image.{IsImage, most_cells}
use Rattle.hep_image.specs.Names.{AreNames}
use Rattle.hep_image.specs.Owners.{block_starts}
use Rattle.hep_storage.specs.Lengths.{greatest_length}
use Rattle.hep_storage.specs.Starts.{AreBlocks}
use Rattle.hep_storage.specs.declared.common.CommonBlocks.{CommonBlocks}
use Rattle.hep_lower.specs.declared.units.LoweredUnits.{LoweredUnits}
use Rattle.hep_lower.specs.Refusals.{AreCellsBeyond, IsCodeBeyond, IsFirstDeep, IsLowered, IsWithinLimits, Refuses, RefusesCode}
use Rattle.hep_lower.specs.LoweredUnits.{AreUnits}

pub some-main : (program : Units) (main : ℕ) → main_among program ≡ Some main → main_among program ≢ None
some-main program main e none = none-some main (sym none ∙ e)

-- the common blocks of a program, by what is known of the one that was read
pub blocks-are : (source program : Units) (c : CommonBlocks) → source ≡ program → c.blocks.keys ≡ blocks_of source
    → ((b : BlockName) → greatest_length (get (option_eq name_eq) c.lengths b) ≡ block_cells source b) → common_cells source < 2 ^ 96 → AreBlocks program c
blocks-are source program c same keys lengths bounded =
    subst (λ (p : Units). AreBlocks p c) same (record { blocks_are = keys; lengths_are = lengths; bounded = bounded })

module _ (program : Units) (main : main_among program ≢ None) where
  pub told-beyond : (fault : LowerFault) → fault ≡ Refused 401 0 [] → AreCellsBeyond program ⊎ IsCodeBeyond program → Refuses program fault
  told-beyond fault is beyond = subst (Refuses program) (sym is) (inr (inl (refl, refl, main, beyond)), refl)

  pub told-code : {A : Type 0} (r : Result A LowerFault) (fault : LowerFault) → IsErr r × IsErrAnd r (λ e. e ≡ fault) → RefusesCode program fault → IfErr r (Refuses program)
  told-code (Ok x) fault h code = tt
  told-code (Err e) fault h code = subst (Refuses program) (sym h.1) (by_fault fault code) where
    by_fault : (f : LowerFault) → RefusesCode program f → Refuses program f
    by_fault NoMemory code = main
    by_fault (Refused number line name) code = (inr (inl (code.0, code.1, main, inr code.3)), code.2)

  pub told-deep : (fault : LowerFault) (line : ℕ) → fault ≡ Refused 402 line [] → IsWithinLimits program → IsFirstDeep program (length program) (Some line) → Refuses program fault
  told-deep fault line is within deep = subst (Refuses program) (sym is) (inr (inr (refl, main, within, deep)), refl)

module _ (program : Units) (units : LoweredUnits) (known : AreUnits program (length program) units)
    (common : common_cells program ≤ most_cells) (frames : (u : ℕ) → u < length program → frame_cells (unit_at program u) ≤ most_cells) where
  pub within-limits : units.instructions ≤ most_instructions → IsWithinLimits program
  within-limits few = record { common = common; frames = frames; code = subst (λ n. n ≤ most_instructions) known.counted few }

  pub lowered-is : units.instructions ≤ most_instructions → main_among program ≢ None → units.too_deep ≡ None → IsLowered program
  lowered-is few main shallow =
      record { main = main; within = within-limits few; shallow = subst (IsFirstDeep program (length program)) shallow known.deep }

  pub image-is : IsAccepted program → units.too_deep ≡ None → (codes : List UnitCode) (main cells : ℕ) (rows : List DataRow) (names : ProgramNames) (blocks : List BlockStart)
      → codes ≡ units.codes.items → main_among program ≡ Some main → cells ≡ common_cells program → AreInitial program rows → AreOfUnits program rows → AreNames program names → blocks ≡ block_starts program → IsImage program codes main cells rows names blocks
  image-is accepted shallow codes main cells rows names blocks same main_is size initial of_units named begun =
      subst (λ us. IsImage program us main cells rows names blocks) (sym same) (record {
        accepted = accepted;
        all = known.all shallow;
        units_are = known.each shallow;
        main_is = main_is;
        common_is = size;
        few_cells = subst (λ n. n ≤ most_cells) (sym size) common;
        initial = initial;
        of_units = of_units;
        named = named;
        blocks_are = begun;
      })
