-- The comparison of a common block with that of earlier units: X3.9-1978, 8.3.
use Rattle.std.specs.Prelude.{◌≡◌, ℕ, Bool, true, false, not, ◌&&◌, ◌||◌, nat_eq, if◌then◌else◌, List, [], ◌∷◌, length, Option, Some, None, is_some, option_to_list}
use Rattle.std.specs.List.{list_any}
use Rattle.hep_machine.specs.Words.{Units, BlockName, is_block_among}
use Rattle.hep_conditions.specs.Words.{line_when}
use Rattle.hep_storage.specs.BlockContents.{KnownPlaces, Block, block_in}
use Rattle.hep_storage.specs.Runs.{positions_in}
use Rattle.hep_storage.specs.SharedPrefix.{departs, in_common}
use Rattle.hep_storage.specs.declared.block_summary.BlockLengths.{BlockLengths}
use Rattle.hep_storage.specs.declared.block_summary.BlockLengths.TheVariants as lengths
use Rattle.hep_storage.specs.declared.block_summary.BlockSummary.{BlockSummary}
use Rattle.hep_storage.specs.declared.runs.Position.{Position}

-- ---- lengths

abbrev pub place_count : KnownPlaces → ℕ
place_count k = length k.positions

abbrev pub with_count : ℕ → BlockLengths → BlockLengths
with_count n lengths.Open = lengths.One n
with_count n (lengths.One m) = if nat_eq m n then lengths.One m else lengths.Several
with_count n lengths.Several = lengths.Several

abbrev pub with_length : KnownPlaces → BlockLengths → BlockLengths
with_length k l = if k.is_whole then with_count (place_count k) l else l

-- whether some list has a different length
abbrev pub is_other_count : ℕ → BlockLengths → Bool
is_other_count n lengths.Open = false
is_other_count n (lengths.One m) = not (nat_eq m n)
is_other_count n lengths.Several = true

abbrev pub is_other_length : KnownPlaces → BlockLengths → Bool
is_other_length k l = k.is_whole && is_other_count (place_count k) l

-- ---- lists

-- the summary of several lists of a block: their common beginning, and their lengths
pub record Summed : Type 0 where
  pub positions : List Position
  pub is_cut : Bool
  pub lengths : BlockLengths

abbrev pub nothing_summed : Summed
nothing_summed = record { positions = []; is_cut = false; lengths = lengths.Open }

abbrev pub summed : BlockSummary → Summed
summed s = record { positions = positions_in s.shared.runs.items; is_cut = s.shared.is_cut; lengths = s.lengths }

abbrev pub with_list : KnownPlaces → Summed → Summed
with_list k s =
    record {
      positions = (in_common s.is_cut s.positions k.positions).positions;
      is_cut = (in_common s.is_cut s.positions k.positions).is_cut;
      lengths = with_length k s.lengths;
    }

-- whether a list of a block differs from one of the summarized lists; the lengths of blank COMMON may differ
abbrev pub differs_from : BlockName → Summed → KnownPlaces → Bool
differs_from b s k = departs s.is_cut s.positions k.positions || (is_some b && is_other_length k s.lengths)

-- ---- units

-- the summary with one more unit, if the unit has the block
abbrev pub with_block : Option Block → Summed → Summed
with_block None s = s
with_block (Some c) s = with_list c.list s

-- the line of a block in one more unit, if the unit has the block and it differs
abbrev pub line_after : BlockName → Summed → Option Block → Option ℕ
line_after b s None = None
line_after b s (Some c) = line_when (differs_from b s c.list) c.line

-- ---- all lines of differing blocks, by a test of lines

-- whether there is a line and it passes the test
abbrev pub passes : (ℕ → Bool) → Option ℕ → Bool
passes test line = list_any test (option_to_list line)

abbrev pub passes_after : (ℕ → Bool) → BlockName → Summed → Units → Bool
passes_after test b s [] = false
passes_after test b s (unit ∷ units) = passes test (line_after b s (block_in unit b)) || passes_after test b (with_block (block_in unit b) s) units

-- whether such a line of these blocks passes
abbrev pub passes_of_blocks : (ℕ → Bool) → List BlockName → (BlockName → Summed) → Units → Bool
passes_of_blocks test bs s units = list_any (λ b. passes_after test b (s b) units) bs

-- whether such a line of these blocks in one unit passes
abbrev pub passes_left : (ℕ → Bool) → List BlockName → (BlockName → Summed) → (BlockName → Option Block) → Bool
passes_left test bs s left = list_any (λ b. passes test (line_after b (s b) (left b))) bs

-- Each block that exists is among these.
abbrev pub AreAmong : List BlockName → (BlockName → Option Block) → Type 0
AreAmong bs left = (b : BlockName) → is_some (left b) ≡ true → is_block_among b bs ≡ true
