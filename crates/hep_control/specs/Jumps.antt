-- Jumps and the regions into which they may not lead, as the code represents them (X3.9-1978, 11.6.3, 11.7.2, 11.8.2 and 11.10.8).
use Rattle.std.specs.Prelude.{ℕ, suc, ◌-◌, List, [], ◌∷◌, Option, Some, None}
use Rattle.std.specs.List.{flat_map}
use Rattle.std.below.core.specs.declared.int.usize.TheConstants.{MAX}
use Rattle.hep_machine.specs.Words.{Statement, statement_at, role_of, index_labelled}
use Rattle.hep_conditions.specs.Nesting as nesting
use Rattle.hep_conditions.specs.Words.{DoRange, IndexedStatement, indexed_statements, is_division, targets_of_jump, line_when}
use Rattle.hep_control.specs.declared.blocks.BlockIf.{BlockIf}
use Rattle.hep_control.specs.declared.region.Region.{Region}
use Rattle.hep_control.specs.declared.region.Jump.{Jump}
use Rattle.hep_control.specs.declared.sweep.Event.{Event}
use Rattle.hep_control.specs.declared.sweep.Event.TheVariants.{Value, Question}

-- ---- regions

abbrev pub region : Region → nesting.Region
region r = record { after = r.after; before = r.before }

-- the blocks of a block IF in order; without an END IF there is no block after the last ELSE IF or ELSE
abbrev pub blocks_from : ℕ → List ℕ → Option ℕ → List nesting.Region
blocks_from start [] None = []
blocks_from start [] (Some end) = record { after = start; before = end } ∷ []
blocks_from start (k ∷ ks) end = record { after = start; before = k } ∷ blocks_from k ks end

abbrev pub blocks_in : BlockIf → List nesting.Region
blocks_in b = blocks_from b.start b.divisions.items b.end

abbrev pub range_region : DoRange → nesting.Region
range_region r = nesting.range_region r

-- ---- jumps

-- a jump from a statement to another one, with the line that is reported
pub record Leap : Type 0 where
  pub from : ℕ
  pub to : ℕ
  pub line : ℕ

abbrev pub leap : Jump → Leap
leap j = record { from = j.from; to = j.to; line = j.line }

abbrev pub leap_to : ℕ → ℕ → Option ℕ → List Leap
leap_to from line None = []
leap_to from line (Some to) = record { from = from; to = to; line = line } ∷ []

abbrev pub leaps_by : List Statement → ℕ → ℕ → List ℕ → List Leap
leaps_by unit from line labels = flat_map (λ l. leap_to from line (index_labelled unit l)) labels

abbrev pub leaps_at : List Statement → IndexedStatement → List Leap
leaps_at unit p = leaps_by unit p.index p.statement.line (targets_of_jump p.statement.form)

abbrev pub leaps_of : List Statement → List Leap
leaps_of unit = flat_map (leaps_at unit) (indexed_statements unit)

-- ---- the regions into which a jump leads, by their beginnings and by their ends

abbrev pub value_by_start : Region → Event
value_by_start r = Value r.after r.before

abbrev pub question_by_start : Jump → Event
question_by_start j = Question j.to (suc j.to) (suc j.from) j.line

abbrev pub value_by_end : Region → Event
value_by_end r = Value (MAX - r.before) r.after

abbrev pub question_by_end : Jump → Event
question_by_end j = Question (MAX - j.to) j.from j.to j.line

-- the line of a jump, where it leads to an ELSE IF or ELSE
abbrev pub line_to_division : List Statement → Jump → Option ℕ
line_to_division unit j = line_when (is_division (role_of (statement_at unit j.to))) j.line
