-- Lengths of common blocks, of which one is lengthened.
use Rattle.std.proofs.Common.{◌≡◌, ℕ, ◌+◌, ◌≤◌, Bool, true, false, Option, Some, None, refl, ap, sym, ◌∙◌, cond, if◌then◌else◌}
use Rattle.std.specs.Option.{option_eq, unwrap_or}
use Rattle.hep_machine.specs.Words.{name_eq, BlockName, same_block}
use Rattle.hep_names.proofs.BlockNames.{changed}
use Rattle.hep_storage.specs.Starts.{narrowed}
use Rattle.hep_places.proofs.Narrowed.{narrowed-small}
use Rattle.hep_places.proofs.InBlocks.{none-before}
use Rattle.hep_machine.proofs.Locations.{equal_blocks}

abbrev Lengths : Type 0
Lengths = BlockName → Option ℕ

-- what a table has of a block after another one, or this one, was given a length
abbrev IsSet : BlockName → BlockName → ℕ → Lengths → Lengths → Type 0
IsSet k b n old new = new b ≡ cond (option_eq name_eq k b) (Some n) (old b)

-- a block that had a length gets a greater one
pub length-set : (old one new : Lengths) (k b : BlockName) (n before v : ℕ) → old k ≡ Some before → v ≡ narrowed (before + n) → IsSet k b n old one → IsSet k b v one new
    → unwrap_or (new b) 0 ≡ (if same_block k b then narrowed (unwrap_or (old b) 0 + n) else unwrap_or (old b) 0)
length-set old one new k b n before v h e first second =
    ap (λ o. unwrap_or o 0) (second ∙ changed k b (Some v) (one b)) ∙ by (same_block k b) refl (first ∙ changed k b (Some n) (old b))
  where
    by : (t : Bool) → same_block k b ≡ t → one b ≡ (if t then Some n else old b)
        → unwrap_or (if t then Some v else one b) 0 ≡ (if t then narrowed (unwrap_or (old b) 0 + n) else unwrap_or (old b) 0)
    by true f g = e ∙ ap (λ o. narrowed (unwrap_or o 0 + n)) (sym h ∙ ap old (equal_blocks k b f))
    by false f g = ap (λ o. unwrap_or o 0) g

-- a block that had none gets its first one
pub length-first : (old new : Lengths) (k b : BlockName) (n : ℕ) → old k ≡ None → n ≤ 4294967295 → IsSet k b n old new
    → unwrap_or (new b) 0 ≡ (if same_block k b then narrowed (unwrap_or (old b) 0 + n) else unwrap_or (old b) 0)
length-first old new k b n h few first =
    ap (λ o. unwrap_or o 0) (first ∙ changed k b (Some n) (old b)) ∙ by (same_block k b) refl
  where
    by : (t : Bool) → same_block k b ≡ t → unwrap_or (if t then Some n else old b) 0 ≡ (if t then narrowed (unwrap_or (old b) 0 + n) else unwrap_or (old b) 0)
    by true f = sym (ap narrowed (none-before n) ∙ narrowed-small n few) ∙ ap (λ o. narrowed (unwrap_or o 0 + n)) (sym h ∙ ap old (equal_blocks k b f))
    by false f = refl
