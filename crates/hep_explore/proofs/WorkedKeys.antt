-- The words of a machine's contents, worked: COMMON has one cell, and the main program one variable, which is full.
use Rattle.std.proofs.Common.{◌≡◌, ◌∷◌, [], ℕ, List, false, true, None, Some, pos, negsuc, refl}
use Rattle.hep_source.specs.declared.value.Value.TheVariants as value
use Rattle.hep_machine.specs.declared.record.Item.TheVariants as item
use Rattle.hep_explore.specs.Contents.{Contents}
use Rattle.hep_explore.specs.Keys.{words_of}

-- process 1 has evaluated -2, and the program has printed 'A' and 7
abbrev one_variable : Contents
one_variable =
    record {
      activations = 1;
      halted = false;
      common = record { value = None; full = false } ∷ [];
      frames = record {
        activation = 1;
        unit = 0;
        first = 1;
        parent = 0;
        cells = record { value = Some (value.Int (pos 6)); full = true } ∷ [];
      } ∷ [];
      processes = record {
        levels = record { activation = 1; unit = 0; kept = 0; index = 3 } ∷ [];
        operands = value.Int (negsuc 1) ∷ [];
        pending = [];
      } ∷ [];
      records = (item.Text (65 ∷ []) ∷ item.Int (pos 7) ∷ []) ∷ [];
      faults = [];
    }

abbrev its_common : List ℕ → List ℕ
its_common rest = 1 ∷ 0 ∷ 0 ∷ rest

abbrev its_frames : List ℕ → List ℕ
its_frames rest = 1 ∷ 1 ∷ 0 ∷ 1 ∷ 0 ∷ 1 ∷ 6 ∷ 6 ∷ rest

abbrev its_processes : List ℕ → List ℕ
its_processes rest = 1 ∷ 1 ∷ 1 ∷ 0 ∷ 0 ∷ 3 ∷ 1 ∷ 2 ∷ 2 ∷ 0 ∷ rest

abbrev its_records : List ℕ → List ℕ
its_records rest = 1 ∷ 2 ∷ 5 ∷ 1 ∷ 65 ∷ 1 ∷ 7 ∷ rest

pub words_worked : words_of one_variable ≡ 1 ∷ 0 ∷ its_common (its_frames (its_processes (its_records (0 ∷ []))))
words_worked = refl
