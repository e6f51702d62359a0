-- Names of common blocks, and the tests that tables make of them.
use Rattle.std.proofs.Common.{◌≡◌, Bool, true, false, Some, None, refl, ap, ◌∙◌, cond, if◌then◌else◌}
use Rattle.std.specs.Option.{option_eq}
use Rattle.hep_machine.specs.Words.{name_eq, BlockName, same_block}
use Rattle.hep_source.proofs.NameTests.{name_eq-is}

-- ---- the test that a table of blocks makes is the definitions' test

pub block_eq-is : (k b : BlockName) → option_eq name_eq k b ≡ same_block k b
block_eq-is None None = refl
block_eq-is None (Some y) = refl
block_eq-is (Some x) None = refl
block_eq-is (Some x) (Some y) = name_eq-is x y

pub changed : {A : Type 0} (k b : BlockName) (new old : A) → cond (option_eq name_eq k b) new old ≡ (if same_block k b then new else old)
changed k b new old = ap (λ t. cond t new old) (block_eq-is k b) ∙ by (same_block k b)
  where
    by : (t : Bool) → cond t new old ≡ (if t then new else old)
    by true = refl
    by false = refl
