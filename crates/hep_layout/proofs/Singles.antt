-- Each block of a program is there once.
use Rattle.std.proofs.Common.{◌≡◌, ℕ, ◌+◌, ◌≤◌, Bool, true, false, ◌||◌, List, [], ◌∷◌, ◌++◌, refl, sym, subst, arith, true≢false, if◌then◌else◌}
use Rattle.std.specs.List.{flat_map}
use Rattle.hep_machine.specs.Words.{Units, CommonBlock, BlockName, same_block, block_of, blocks_of_unit, blocks_of, is_block_among, with_blocks}
use Rattle.hep_machine.proofs.Locations.{equal_blocks}

abbrev pub occurrences : BlockName → List BlockName → ℕ
occurrences k [] = 0
occurrences k (b ∷ bs) = (if same_block k b then 1 else 0) + occurrences k bs

abbrev pub AreOnce : List BlockName → Type 0
AreOnce bs = (k : BlockName) → occurrences k bs ≤ 1

-- ---- what is there occurs

absent : (k : BlockName) (bs : List BlockName) → is_block_among k bs ≡ false → occurrences k bs ≡ 0
absent k [] h = refl
absent k (b ∷ bs) h = by (same_block k b) h (absent k bs)
  where
    by : (t : Bool) → (t || is_block_among k bs) ≡ false → (is_block_among k bs ≡ false → occurrences k bs ≡ 0) → (if t then 1 else 0) + occurrences k bs ≡ 0
    by true g rest = absurd (true≢false g)
    by false g rest = omega (arith, rest g)

present : (k : BlockName) (bs : List BlockName) → is_block_among k bs ≡ true → 1 ≤ occurrences k bs
present k [] h = absurd cc
present k (b ∷ bs) h = by (same_block k b) h (present k bs)
  where
    by : (t : Bool) → (t || is_block_among k bs) ≡ true → (is_block_among k bs ≡ true → 1 ≤ occurrences k bs) → 1 ≤ (if t then 1 else 0) + occurrences k bs
    by true g rest = omega arith
    by false g rest = omega (arith, rest g)

-- ---- rows of which each block is there once

pub single-rest : (b : BlockName) (bs : List BlockName) → AreOnce (b ∷ bs) → AreOnce bs
single-rest b bs h k = omega (arith, h k)

-- a block behind the first one is another
pub single-apart : (k b : BlockName) (bs : List BlockName) → AreOnce (b ∷ bs) → is_block_among k bs ≡ true → same_block k b ≡ false
single-apart k b bs h g = by (same_block k b) (h k) (present k bs g)
  where
    by : (t : Bool) → (if t then 1 else 0) + occurrences k bs ≤ 1 → 1 ≤ occurrences k bs → t ≡ false
    by true f e = absurd (omega (arith, f, e))
    by false f e = refl

swapped : (n : ℕ) → n + 0 ≡ 0 + n
swapped n = omega arith

grouped : (a b c d : ℕ) → d ≡ b + c → a + d ≡ (a + b) + c
grouped a b c d e = omega (arith, e)

added : (k b : BlockName) (bs : List BlockName) → occurrences k (bs ++ b ∷ []) ≡ occurrences k bs + (if same_block k b then 1 else 0)
added k b [] = swapped (if same_block k b then 1 else 0)
added k b (c ∷ cs) = grouped (if same_block k c then 1 else 0) (occurrences k cs) (if same_block k b then 1 else 0) (occurrences k (cs ++ b ∷ [])) (added k b cs)

-- with one block more, if it isn't there yet
abbrev with_block : List BlockName → BlockName → List BlockName
with_block bs b = if is_block_among b bs then bs else bs ++ b ∷ []

single-added : (bs : List BlockName) (b : BlockName) → AreOnce bs → AreOnce (with_block bs b)
single-added bs b h = by (is_block_among b bs) refl
  where
    once : (k : BlockName) (t : Bool) → same_block k b ≡ t → occurrences b bs ≡ 0 → occurrences k (bs ++ b ∷ []) ≡ occurrences k bs + (if t then 1 else 0) → occurrences k (bs ++ b ∷ []) ≤ 1
    once k true e none more =
        let here : occurrences k bs ≡ 0 = subst (λ c. occurrences c bs ≡ 0) (sym (equal_blocks k b e)) none in
        omega (arith, here, more)
    once k false e none more = omega (arith, h k, more)

    by : (t : Bool) → is_block_among b bs ≡ t → AreOnce (if t then bs else bs ++ b ∷ [])
    by true e = h
    by false e = λ k. once k (same_block k b) refl (absent b bs e) (added k b bs)

lists-single : (bs : List BlockName) (cs : List CommonBlock) → AreOnce bs → AreOnce (with_blocks bs cs)
lists-single bs [] h = h
lists-single bs (c ∷ cs) h = lists-single (with_block bs (block_of c)) cs (single-added bs (block_of c) h)

pub program-single : (program : Units) → AreOnce (blocks_of program)
program-single program = lists-single [] (flat_map blocks_of_unit program) (λ k. omega arith)
