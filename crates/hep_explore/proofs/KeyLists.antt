-- Lists that are appended to a key one element after the other.
use Rattle.std.proofs.Common.{◌≡◌, ◌∷◌, ◌++◌, [], ℕ, zero, suc, ◌+◌, ◌-◌, ◌<◌, ◌≤◌, List, length, map, drop, take, reverse, Some, refl, sym}
use Rattle.std.proofs.Common.{ap, ◌∙◌, arith, append_assoc, append-nil, slice_get}
use Rattle.std.specs.List.{flat_map}
use Rattle.std.proofs.lemmas.List.{drop_more, get_or-reverse, length-drop, length-reverse, length-take-le}
use Rattle.std.proofs.lemmas.Option.{get_or_from_slice_get}
use Rattle.hep_source.proofs.Tests.{get-drop}
use Rattle.hep_machine.specs.declared.slot.Slot.{Slot}
use Rattle.hep_proc.specs.declared.process.Process.{Process}
use Rattle.hep_proc.specs.Stacks.{Stack}
use Rattle.hep_state.proofs.ProcessNumbers.{length-stacks, stack-got}
use Rattle.hep_state.specs.Words.{stack_numbered, stacks_of}
use Rattle.hep_explore.specs.Contents.{cells_from}
use Rattle.hep_explore.specs.Keys.{counted}

-- an element in front
pub get-take : {A : Type 0} (xs : List A) (n i : ℕ) → i < n → slice_get (take n xs) i ≡ slice_get xs i
get-take xs zero i less = absurd (omega (arith, less))
get-take [] (suc n) i less = refl
get-take (x ∷ xs) (suc n) zero less = refl
get-take (x ∷ xs) (suc n) (suc i) less = get-take xs n i (omega (arith, less))

module _ {A : Type 0} (words : A → List ℕ) where
  -- one element more was appended, the first one of those that were left
  pub appended : (old now new : List ℕ) (all left rest : List A) (x : A) → left ≡ x ∷ rest
      → now ++ flat_map words left ≡ old ++ flat_map words all → new ≡ now ++ words x
      → new ++ flat_map words rest ≡ old ++ flat_map words all
  appended old now new all left rest x next so_far is =
      ap (λ ws. ws ++ flat_map words rest) is ∙ append_assoc now (words x) (flat_map words rest)
      ∙ ap (λ xs. now ++ flat_map words xs) (sym next) ∙ so_far

  -- none is left, and their number was appended first
  pub all-appended : (old now first : List ℕ) (n : ℕ) (all left : List A) → left ≡ [] → n ≡ length all → first ≡ old ++ n ∷ []
      → now ++ flat_map words left ≡ first ++ flat_map words all → now ≡ old ++ counted words all
  all-appended old now first n all left none count begun so_far =
      sym (append-nil now) ∙ ap (λ xs. now ++ flat_map words xs) (sym none) ∙ so_far ∙ ap (λ ws. ws ++ flat_map words all) begun
      ∙ append_assoc old (n ∷ []) (flat_map words all) ∙ ap (λ k. old ++ (k ∷ flat_map words all)) count

-- ---- cells

-- as many cells as are asked for
pub count-cells : (contents : List Slot) (first count : ℕ) → first + count ≤ length contents
    → length (cells_from contents first count) ≡ count
count-cells contents first count within =
    length-take-le count (drop first contents) (omega (arith, length-drop first contents))

-- the next cell
pub cell-next : (contents : List Slot) (first count i : ℕ) (slot : Slot) → first + count ≤ length contents → i < count
    → slice_get contents (first + i) ≡ Some slot
    → drop i (cells_from contents first count) ≡ slot ∷ drop (i + 1) (cells_from contents first count)
cell-next contents first count i slot within less there =
    let cells = cells_from contents first count in
    let at = get-take (drop first contents) count i less ∙ sym (get-drop contents first i) ∙ there in
    drop_more cells i slot (omega (arith, less, count-cells contents first count within))
    ∙ ap (λ s. s ∷ drop (i + 1) cells) (get_or_from_slice_get cells i slot slot at)

-- ---- levels, the last one first

-- the next level
pub level-next : {A B : Type 0} (f : A → B) (levels : List A) (i : ℕ) (l : A) → i < length levels
    → slice_get levels (length levels - 1 - i) ≡ Some l
    → map f (drop i (reverse levels)) ≡ f l ∷ map f (drop (i + 1) (reverse levels))
level-next f levels i l less there =
    ap (map f) (
    drop_more (reverse levels) i l (omega (arith, less, length-reverse levels))
    ∙ ap (λ k. k ∷ drop (i + 1) (reverse levels)) (
    get_or-reverse levels i l less ∙ get_or_from_slice_get levels (length levels - 1 - i) l l there))

-- ---- processes by their numbers

-- the next process
pub stack-next : (qs : List Process) (made i : ℕ) → i < made
    → drop i (stacks_of qs made) ≡ stack_numbered qs (i + 1) ∷ drop (i + 1) (stacks_of qs made)
stack-next qs made i less =
    let stacks = stacks_of qs made in
    let k : Stack = stack_numbered qs (i + 1) in
    let next : 1 + i ≡ i + 1 = omega arith in
    drop_more stacks i k (omega (arith, less, length-stacks qs 1 made))
    ∙ ap (λ j. j ∷ drop (i + 1) stacks) (
    get_or_from_slice_get stacks i k k (stack-got qs 1 made i less ∙ ap (λ p. Some (stack_numbered qs p)) next))
