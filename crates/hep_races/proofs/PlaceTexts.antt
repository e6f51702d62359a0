-- The words for a storage unit by the numbers of its place are those by its location.
use Rattle.std.proofs.Common.{◌≡◌, ℕ, zero, suc, ◌<◌, ◌≤◌, Bool, true, false, length, refl, ap, ◌∙◌, arith, if◌then◌else◌}
use Rattle.hep_image.specs.Names.{names_in_order}
use Rattle.hep_image.proofs.Numbers.{number-of-block, number-of-variable}
use Rattle.hep_machine.specs.Words.{BlockName, Name, State, Units, blocks_of, common, is_among, is_array, is_block_among, local, names_of}
use Rattle.hep_machine.specs.Words.{spelling, unit_at, unit_of}
use Rattle.hep_state_text.specs.Lines as lines
use Rattle.hep_state_text.specs.States.{place_text}
use Rattle.hep_state_text.specs.WaitTexts.{element_seen, name_seen, place_seen}
use Rattle.hep_views.specs.ListedProcesses.{place_of}

module _ (program : Units) (s : State) where
  -- a position of a common block
  pub block-words : (b : BlockName) (i : ℕ) → is_block_among b (blocks_of program) ≡ true
      → place_seen (names_in_order program) (place_of program s (common b i)) ≡ place_text program s (common b i)
  block-words b i named = ap (λ name. lines.element_text (lines.block_name (name_seen name)) i) (number-of-block program b named)

  -- a variable of an activation, or an element of it
  pub variable-words : (a i : ℕ) (x : Name) → 1 ≤ a → 1 ≤ i → unit_of s a < length program
      → is_among x (names_of (unit_at program (unit_of s a))) ≡ true
      → place_seen (names_in_order program) (place_of program s (local a x i)) ≡ place_text program s (local a x i)
  variable-words (suc a) (suc i) x made some inside named =
      let is = is_array (unit_at program (unit_of s (suc a))) x in
      ap (λ name. lines.owned_text (element_seen (name_seen name) (if is then suc i else 0)) (suc a))
      (number-of-variable program (unit_of s (suc a)) x inside named)
      ∙ by (is_array (unit_at program (unit_of s (suc a))) x)
    where
      by : (b : Bool) → lines.owned_text (element_seen (spelling x) (if b then suc i else 0)) (suc a)
          ≡ lines.owned_text (if b then lines.element_text (spelling x) (suc i) else spelling x) (suc a)
      by true = refl
      by false = refl
  variable-words zero i x made some inside named = absurd (omega (arith, made))
  variable-words a zero x made some inside named = absurd (omega (arith, some))
