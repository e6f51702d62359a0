-- The outcomes of many runs by lots, counted: docs/RUNS.md, "Lots".
use Rattle.std.specs.Prelude.{◌≡◌, ℕ, suc, ◌+◌, ◌-◌, ◌%◌, ◌&&◌, Bool, nat_eq, if◌then◌else◌, List, [], ◌∷◌, ◌++◌, codes, length}
use Rattle.std.specs.Fmt.{decimal}
use Rattle.std.specs.List.{flat_map}
use Rattle.std.specs.Str.{bytes_eq}
use Rattle.hep_formats.specs.Strings.{json_strings}
use Rattle.hep_text.specs.Line.{lines}
use Rattle.hep_outcome.specs.declared.options.LotOptions.{LotOptions}
use Rattle.hep_outcome.specs.declared.options.SampleOptions.{SampleOptions}
use Rattle.hep_outcome.specs.Outcome.{Outcome}
use Rattle.hep_outcome.specs.Statuses.{status_code}

-- ---- runs

-- the seed of the run with this number, counted from 0: the next one each time, and 1 after 4294967296
abbrev pub nth_seed : ℕ → ℕ → ℕ
nth_seed seed i = (seed - 1 + i) % 4294967296 + 1

-- the options of the run with this number
abbrev pub IsNth : SampleOptions → ℕ → LotOptions → Type 0
IsNth options i by = (by.arena ≡ options.arena) × (by.steps ≡ options.steps) × (by.seed ≡ nth_seed options.seed i)

-- ---- tallies

-- the number of runs with an exit status and these lines, and the seed of the first one
pub record Tally : Type 0 where
  pub count : ℕ
  pub seed : ℕ
  pub status : ℕ
  pub lines : List ℕ

-- the lines of an outcome, the records first
abbrev pub lines_of : Outcome → List ℕ
lines_of o = o.output ++ o.messages

-- the tally of one run, by this seed
abbrev pub tally_of : ℕ → Outcome → Tally
tally_of seed o = record { count = 1; seed = seed; status = status_code o.status; lines = lines_of o }

abbrev pub is_like : Tally → Tally → Bool
is_like a b = nat_eq a.status b.status && bytes_eq a.lines b.lines

-- with one more run
abbrev pub counted : Tally → List Tally → List Tally
counted one [] = one ∷ []
counted one (t ∷ ts) = if is_like one t then record t { count = t.count + 1 } ∷ ts else t ∷ counted one ts

-- the tallies of runs from this number on
abbrev pub tallied_from : ℕ → ℕ → List Tally → List Outcome → List Tally
tallied_from seed i ts [] = ts
tallied_from seed i ts (o ∷ os) = tallied_from seed (suc i) (counted (tally_of (nth_seed seed i) o) ts) os

abbrev pub tallied : ℕ → List Outcome → List Tally
tallied seed outcomes = tallied_from seed 0 [] outcomes

-- ---- texts

-- the number of the runs, and their status
abbrev pub count_text : ℕ → Tally → List ℕ
count_text runs t = decimal t.count ++ codes " OF " ++ decimal runs ++ codes " STATUS " ++ decimal t.status

-- the end of that line
abbrev pub seed_text : ℕ → List ℕ
seed_text seed = codes " FIRST BY SEED " ++ decimal seed ++ codes "\n"

abbrev pub tally_text : ℕ → Tally → List ℕ
tally_text runs t = count_text runs t ++ (seed_text t.seed ++ t.lines)

-- an outcome that no lot shows may still be possible
abbrev pub sample_text : ℕ → List Tally → List ℕ
sample_text runs ts = flat_map (tally_text runs) ts ++ codes "OTHER OUTCOMES MAY BE POSSIBLE\n"

-- ---- objects of JSON, one a line: docs/RUNS.md, "JSON"

-- the front of an object: the status, the number of the runs and the seed of the first one
abbrev pub tally_members : ℕ → ℕ → ℕ → List ℕ
tally_members status count seed =
    codes "{\"status\":" ++ decimal status ++ codes ",\"count\":" ++ decimal count ++ codes ",\"first_seed\":" ++ decimal seed ++ codes ",\"lines\":"

-- an outcome, with its lines
abbrev pub tally_object : Tally → List ℕ
tally_object t = tally_members t.status t.count t.seed ++ json_strings (lines t.lines) ++ codes "}\n"

-- how many runs and how many outcomes there are; an outcome that no lot shows may still be possible
abbrev pub totals_object : ℕ → ℕ → List ℕ
totals_object runs outcomes =
    codes "{\"runs\":" ++ decimal runs ++ codes ",\"outcomes\":" ++ decimal outcomes ++ codes ",\"others_possible\":true}\n"

abbrev pub sample_objects : ℕ → List Tally → List ℕ
sample_objects runs ts = flat_map tally_object ts ++ totals_object runs (length ts)

-- ---- by what is asked for

abbrev pub sample_by : Bool → ℕ → List Tally → List ℕ
sample_by json runs ts = if json then sample_objects runs ts else sample_text runs ts
