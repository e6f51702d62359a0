-- The lines of races: docs/RUNS.md, "Races of a run".
use Rattle.std.specs.Prelude.{ℕ, Bool, true, false, ◌&&◌, nat_eq, if◌then◌else◌, List, [], ◌∷◌, ◌++◌, codes, Option, Some, None}
use Rattle.std.specs.Fmt.{decimal}
use Rattle.std.specs.List.{flat_map, list_any}
use Rattle.hep_source.specs.declared.name.Name.{Name}
use Rattle.hep_source.specs.declared.statement.Form.{Form}
use Rattle.hep_source.specs.declared.statement.Form.TheVariants as form
use Rattle.hep_source.specs.declared.statement.Statement.{Statement}
use Rattle.hep_source.specs.Names.{same_name}
use Rattle.hep_accesses.specs.Races.{Row, StepAccess}

-- ---- the end of a DO: X3.9-1978, 11.10.6

-- the label of the statement on a line
abbrev pub label_on : ℕ → List Statement → Option ℕ
label_on line [] = None
label_on line (s ∷ unit) = if nat_eq s.line line then s.label else label_on line unit

-- it is a DO of this variable whose terminal statement has this label
abbrev pub is_loop_to : Name → Option ℕ → Form → Bool
is_loop_to x (Some l) (form.Do c) = nat_eq c.terminal l && same_name c.variable.name x
is_loop_to x _ _ = false

-- the statement on a line ends a DO of this variable
abbrev pub ends_loop : List Statement → Name → ℕ → Bool
ends_loop unit x line = list_any (λ (s : Statement). is_loop_to x (label_on line unit) s.form) unit

-- ---- lines

-- a site: the name, the name of its unit, the line, and whether its statement ends a DO of the name
pub record SiteWords : Type 0 where
  pub name : List ℕ
  pub unit : List ℕ
  pub line : ℕ
  pub ends_loop : Bool

-- what the lines of races have of storage units, of sites, of the entry of a step, and of a line of the source
pub record RowWords (L S : Type 0) : Type 0 where
  pub place : L → List ℕ
  pub site : S → SiteWords
  pub entry : ℕ → ℕ
  pub source : ℕ → List ℕ

-- a store by the end of a DO of the variable is told apart
abbrev pub verb_text : Bool → Bool → List ℕ
verb_text false ends = codes "read "
verb_text true true = codes "next "
verb_text true false = codes "store "

abbrev pub deed_text : SiteWords → Bool → ℕ → List ℕ
deed_text site stores process = verb_text stores site.ends_loop ++ site.name ++ codes " by process " ++ decimal process

abbrev pub where_text : SiteWords → ℕ → List ℕ
where_text site entry = codes " at " ++ site.unit ++ codes " LINE " ++ decimal site.line ++ codes " (entry " ++ decimal entry ++ codes ")"

abbrev pub times_text : ℕ → List ℕ
times_text n = codes ", " ++ decimal n ++ (if nat_eq n 1 then codes " time\n" else codes " times\n")

-- with the words for the storage unit and for both accesses
abbrev pub race_text : List ℕ → List ℕ → List ℕ → ℕ → List ℕ
race_text place first second times = codes "RACE on " ++ place ++ codes ": " ++ first ++ codes " and " ++ second ++ times_text times

-- the last line
abbrev pub others_text : List ℕ
others_text = codes "OTHER RUNS MAY HAVE OTHERS\n"

module _ {L S : Type 0} (words : RowWords L S) where
  abbrev pub access_text : StepAccess L S → List ℕ
  access_text y =
      deed_text (words.site y.access.site) y.access.stores y.process ++ where_text (words.site y.access.site) (words.entry y.step)

  -- the line of the source of an access
  abbrev pub source_text : StepAccess L S → List ℕ
  source_text y = words.source (words.site y.access.site).line

  -- the line of a race
  abbrev pub line_text : Row L S → List ℕ
  line_text r = race_text (words.place r.second.access.at) (access_text r.first) (access_text r.second) r.times

  -- with the lines of the source of both accesses
  abbrev pub row_text : Row L S → List ℕ
  row_text r = line_text r ++ source_text r.first ++ source_text r.second

  abbrev pub rows_text : List (Row L S) → List ℕ
  rows_text rows = flat_map row_text rows ++ others_text
