-- The jobs that a command line may ask for: docs/MACHINE.md, "The program".
use Rattle.std.specs.Prelude.{◌≡◌, ◌≢◌, ◌⊎◌, ℕ, ◌+◌, ◌≤◌, List as ListOf, [], Option, Some, None, codes}
use Rattle.std.specs.Borrow.{Bor}
use Rattle.clap.specs.declared.error.kind.ErrorKind.{ErrorKind}
use Rattle.clap.specs.declared.error.kind.ErrorKind.TheVariants.{DisplayHelp, DisplayVersion, OutOfMemory}
use Rattle.hep_command.specs.declared.job.Job.{Job}
use Rattle.hep_command.specs.declared.job.ViewedRun.{ViewedRun}
use Rattle.hep_command.specs.declared.job.Usage.{Usage}
use Rattle.hep_command.specs.declared.job.PageForm.{PageForm}
use Rattle.hep_command.specs.declared.job.PageForm.TheVariants.{Html, Svg}
use Rattle.hep_command.specs.declared.job.TraceForm.{TraceForm}
use Rattle.hep_command.specs.declared.job.TraceForm.TheVariants.{Lanes}
use Rattle.hep_command.specs.declared.job.Job.TheVariants.{Standard, Check, Run, Sample, Explore, Replay, State, Trace, Page, Why, Races, Cover, Diff, List, Explain}

abbrev pub IsArena : ℕ → Type 0
IsArena cells = (1 ≤ cells) × (cells ≤ 16777216)

abbrev pub IsSteps : ℕ → Type 0
IsSteps entries = (1 ≤ entries) × (entries ≤ 4294967296)

abbrev pub AreWorkers : Option ℕ → Type 0
AreWorkers None = Unit {0}
AreWorkers (Some workers) = (1 ≤ workers) × (workers ≤ 16)

abbrev pub IsSeed : ℕ → Type 0
IsSeed seed = (1 ≤ seed) × (seed ≤ 4294967296)

abbrev pub HasSeed : Option ℕ → Type 0
HasSeed None = Unit {0}
HasSeed (Some seed) = IsSeed seed

abbrev pub AreSampled : ℕ → Type 0
AreSampled runs = (1 ≤ runs) × (runs ≤ 1000000)

-- the columns of lanes
abbrev pub IsTraceForm : TraceForm → Type 0
IsTraceForm (Lanes width) = (40 ≤ width) × (width ≤ 400)
IsTraceForm _ = Unit {0}

abbrev pub IsSearched : ℕ → Type 0
IsSearched states = (1 ≤ states) × (states ≤ 16777216)

-- the status of outcomes that is expected
abbrev pub IsExpected : Option ℕ → Type 0
IsExpected None = Unit {0}
IsExpected (Some status) = status ≤ 9

-- the numbers of the run that is looked at are those that its options allow
abbrev pub IsViewInRange : ViewedRun → Type 0
IsViewInRange run = IsArena run.arena × IsSteps run.steps × HasSeed run.seed

-- the numbers of the job are those that its options allow
abbrev pub IsInRange : Job → Type 0
IsInRange Standard = Unit {0}
IsInRange (Check file warn form) = Unit {0}
IsInRange (Run file arena steps workers seed choices follow history) = IsArena arena × IsSteps steps × AreWorkers workers × HasSeed seed
IsInRange (Sample file runs seed arena steps keep progress json) = AreSampled runs × IsSeed seed × IsArena arena × IsSteps steps
IsInRange (Explore file states arena keep progress expect_one expect_status) = IsSearched states × IsArena arena × IsExpected expect_status
IsInRange (Replay file history arena) = IsArena arena
IsInRange (State file run at json) = IsViewInRange run
IsInRange (Trace file run first last process cell form) = IsViewInRange run × IsTraceForm form
IsInRange (Page form file run first last page) = IsViewInRange run
IsInRange (Why file run json) = IsViewInRange run
IsInRange (Races file run) = IsViewInRange run
IsInRange (Cover file run runs lcov) = IsViewInRange run
IsInRange (Diff file run other other_seed) = IsViewInRange run × HasSeed other_seed
IsInRange (List file) = Unit {0}
IsInRange (Explain first second third) = Unit {0}

-- neither a history nor a page or a picture is written to a file that is read
abbrev pub IsNoPath : Option (Bor (ListOf ℕ)) → Bor (ListOf ℕ) → Type 0
IsNoPath None other = Unit {0}
IsNoPath (Some path) other = path.now ≢ other.now

abbrev pub IsWrittenApart : Job → Type 0
IsWrittenApart (Run file arena steps workers seed choices follow (Some history)) = (file.now ≢ history.now) × IsNoPath choices history × IsNoPath follow history
IsWrittenApart (Page form file run first last page) = (file.now ≢ page.now) × IsNoPath run.history page × IsNoPath run.choices page
IsWrittenApart _ = Unit {0}

-- what is said where a page or a picture would be written to a file that is read
abbrev pub page_mistake : PageForm → ListOf ℕ
page_mistake Html = codes "error: the page would be written to a file that is read\n"
page_mistake Svg = codes "error: the picture would be written to a file that is read\n"

-- 1 if it is given, otherwise 0
abbrev pub count_of : {A : Type 0} → Option A → ℕ
count_of None = 0
count_of (Some x) = 1

-- one where either is given, else none
abbrev pub count_of_either : {A B : Type 0} → Option A → Option B → ℕ
count_of_either None None = 0
count_of_either None (Some y) = 1
count_of_either (Some x) _ = 1

-- one at most of a history, choices and lots, which have a seed or a number of runs, says which run is looked at
abbrev pub IsOneRun : ViewedRun → Option ℕ → Type 0
IsOneRun run runs = count_of run.history + count_of run.choices + count_of_either run.seed runs ≤ 1

-- who comes when is said once at most: by choices, by a history that is followed or looked at, by workers or by lots
abbrev pub IsOneOrder : Job → Type 0
IsOneOrder (Run file arena steps workers seed choices follow history) = count_of workers + count_of seed + count_of choices + count_of follow ≤ 1
IsOneOrder (State file run at json) = IsOneRun run None
IsOneOrder (Trace file run first last process cell form) = IsOneRun run None
IsOneOrder (Page form file run first last page) = IsOneRun run None
IsOneOrder (Why file run json) = IsOneRun run None
IsOneOrder (Races file run) = IsOneRun run None
IsOneOrder (Cover file run runs lcov) = IsOneRun run runs
IsOneOrder (Diff file run other other_seed) = IsOneRun run None
IsOneOrder _ = Unit {0}

-- memory was refused, and there is no text
abbrev pub IsWant : Usage → Type 0
IsWant usage = (usage.status ≡ 7) × (usage.text.items ≡ [])

-- a text was asked for, or the words are wrong, or memory was refused
abbrev pub IsUsage : Usage → Type 0
IsUsage usage = (usage.status ≡ 0) ⊎ (usage.status ≡ 2) ⊎ IsWant usage

-- 0 for a text that was asked for, 2 for a mistake in the words
abbrev pub usage_status : ErrorKind → ℕ
usage_status DisplayHelp = 0
usage_status DisplayVersion = 0
usage_status OutOfMemory = 7
usage_status _ = 2
