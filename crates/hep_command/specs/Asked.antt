-- The job of a command and its words: docs/MACHINE.md, "The program".
use Rattle.std.specs.Prelude.{◌&&◌, ◌||◌, ◌+◌, ◌-◌, ℕ, Bool, true, false, List as ListOf, [], ◌∷◌, Option, Some, None, codes, if◌then◌else◌, length}
use Rattle.std.specs.Prelude.{nat_eq, option_and_then, option_map, slice_get, take}
use Rattle.std.specs.Option.{option_map_or, unwrap_or}
use Rattle.std.specs.Str.{bytes_eq}
use Rattle.std.specs.Borrow.{Bor}
use Rattle.clap.specs.Words.{Row, Text, all_of, first_of, found_of, rows_of}
use Rattle.clap.specs.declared.parser.matches.ArgMatches.{ArgMatches}
use Rattle.hep_command.specs.Numbers.{number_within, option_number}
use Rattle.hep_command.specs.declared.job.Job.{Job}
use Rattle.hep_command.specs.declared.job.ViewedRun.{ViewedRun}
use Rattle.hep_command.specs.declared.job.Job.TheVariants.{Standard, Check, Run, Sample, Explore, Replay, State, Trace, Page, Why, Races, Cover, Diff, List, Explain}
use Rattle.hep_command.specs.declared.job.CheckForm.{CheckForm}
use Rattle.hep_command.specs.declared.job.CheckForm.TheVariants.{Lines, Gnu, Json}
use Rattle.hep_command.specs.declared.job.TraceForm.{TraceForm}
use Rattle.hep_command.specs.declared.job.TraceForm.TheVariants.{Lines as TraceLines, Lanes, Json as TraceJson}
use Rattle.hep_command.specs.declared.job.ColorWhen.{ColorWhen}
use Rattle.hep_command.specs.declared.job.ColorWhen.TheVariants.{Auto, Always, Never}
use Rattle.hep_command.specs.declared.job.PageForm.{PageForm}
use Rattle.hep_command.specs.declared.job.PageForm.TheVariants.{Html, Svg}

abbrev pub texts : Option (Bor (ListOf ℕ)) → Option Text
texts = option_map (λ path. path.now)

-- the run that is looked at, with the texts of its paths
pub record Viewed : Type 0 where
  pub history : Option Text
  pub choices : Option Text
  pub seed : Option ℕ
  pub arena : ℕ
  pub steps : ℕ

abbrev pub viewed_by : ViewedRun → Viewed
viewed_by view = record { history = texts view.history; choices = texts view.choices; seed = view.seed; arena = view.arena; steps = view.steps }

-- a job with the texts of its paths
pub data RequestedJob : Type 0 where
  standard : RequestedJob
  check : Text → Bool → CheckForm → RequestedJob
  run : Text → ℕ → ℕ → Option ℕ → Option ℕ → Option Text → Option Text → Option Text → RequestedJob
  sample : Text → ℕ → ℕ → ℕ → ℕ → Option Text → Bool → Bool → RequestedJob
  explore : Text → ℕ → ℕ → Option Text → Bool → Bool → Option ℕ → RequestedJob
  replay : Text → Text → ℕ → RequestedJob
  state : Text → Viewed → Option ℕ → Bool → RequestedJob
  trace : Text → Viewed → Option ℕ → Option ℕ → Option ℕ → Option Text → TraceForm → RequestedJob
  page : PageForm → Text → Viewed → Option ℕ → Option ℕ → Text → RequestedJob
  why : Text → Viewed → Bool → RequestedJob
  races : Text → Viewed → RequestedJob
  cover : Text → Viewed → Option ℕ → Bool → RequestedJob
  diff : Text → Viewed → Option Text → Option ℕ → RequestedJob
  list : Text → RequestedJob
  explain : Text → Option Text → Option Text → RequestedJob

abbrev pub asked_by : Job → RequestedJob
asked_by Standard = standard
asked_by (Check file warn form) = check file.now warn form
asked_by (Run file arena steps workers seed choices follow history) = run file.now arena steps workers seed (texts choices) (texts follow) (texts history)
asked_by (Sample file runs seed arena steps keep progress json) = sample file.now runs seed arena steps (texts keep) progress json
asked_by (Explore file states arena keep progress expect_one expect_status) =
    explore file.now states arena (texts keep) progress expect_one expect_status
asked_by (Replay file history arena) = replay file.now history.now arena
asked_by (State file view at json) = state file.now (viewed_by view) at json
asked_by (Trace file view first last process cell form) = trace file.now (viewed_by view) first last process (texts cell) form
asked_by (Page form file view first last out) = page form file.now (viewed_by view) first last out.now
asked_by (Why file view json) = why file.now (viewed_by view) json
asked_by (Races file view) = races file.now (viewed_by view)
asked_by (Cover file view runs lcov) = cover file.now (viewed_by view) runs lcov
asked_by (Diff file view other other_seed) = diff file.now (viewed_by view) (texts other) other_seed
asked_by (List file) = list file.now
asked_by (Explain first second third) = explain first.now (texts second) (texts third)

-- ---- the words as they are understood

abbrev pub is_word : ListOf Text → ℕ → Text → Bool
is_word words k word = option_map_or (bytes_eq word) (slice_get words k) false

-- the place of the command, `--long` before it or not
abbrev pub command_place : ListOf Text → ℕ
command_place words = if is_word words 1 (codes "--long") then 2 else 1

-- the words ask for help about the word `help` at this index
abbrev pub is_help_of_help : ListOf Text → ℕ → Bool
is_help_of_help words k =
    nat_eq (length words) (k + 2) && (is_word words k (codes "help")
    && (is_word words (k + 1) (codes "--help") || is_word words (k + 1) (codes "-h")))

-- the last word is `version`, at this place
abbrev pub is_version : ListOf Text → ℕ → Bool
is_version words k = nat_eq (length words) (k + 1) && is_word words k (codes "version")

-- all words; of `help --help` the last one is left out, and `version` is `--version`
abbrev pub heard : ListOf Text → ListOf Text
heard words =
    if is_version words (command_place words) then codes "hepf" ∷ codes "--version" ∷ []
    else (if is_help_of_help words (command_place words) then take (length words - 1) words else words)

-- ---- what is found

-- the words found for a command, each under the id of its argument
abbrev pub words_found : ArgMatches → ListOf Row
words_found matches = rows_of (found_of matches)

abbrev pub word_of : ArgMatches → Text → Option Text
word_of matches id = first_of id (words_found matches)

-- a flag is given
abbrev pub is_given : Text → ListOf Row → Bool
is_given id rows = option_map_or (bytes_eq (codes "true")) (first_of id rows) false

abbrev pub arena_in : ListOf Row → Option ℕ
arena_in rows = option_number 16777216 65536 (first_of (codes "arena") rows)

abbrev pub steps_in : ListOf Row → Option ℕ
steps_in rows = option_number 4294967296 10000000 (first_of (codes "steps") rows)

-- the number of an option, up to this one, where it is given
abbrev pub number_by : ℕ → Option Text → Option (Option ℕ)
number_by most None = Some None
number_by most (Some text) = option_map Some (number_within 1 most text)

abbrev pub workers_in : ListOf Row → Option (Option ℕ)
workers_in rows = number_by 16 (first_of (codes "workers") rows)

abbrev pub seed_in : ListOf Row → Option (Option ℕ)
seed_in rows = number_by 4294967296 (first_of (codes "seed") rows)

abbrev pub first_seed_in : ListOf Row → Option ℕ
first_seed_in rows = option_number 4294967296 1 (first_of (codes "seed") rows)

abbrev pub runs_in : ListOf Row → Option ℕ
runs_in rows = option_number 1000000 100 (first_of (codes "runs") rows)

-- whether the format of a command, which has this name, is given; another name has no meaning
abbrev pub format_by : Text → Option Text → Option Bool
format_by name None = Some false
format_by name (Some word) = if bytes_eq word name then Some true else None

abbrev pub format_in : Text → ListOf Row → Option Bool
format_in name rows = format_by name (first_of (codes "format") rows)

-- how `check` writes, by the name of its format; another name has no meaning
abbrev pub check_form_by : Option Text → Option CheckForm
check_form_by None = Some Lines
check_form_by (Some word) = if bytes_eq word (codes "gnu") then Some Gnu else (if bytes_eq word (codes "json") then Some Json else None)

abbrev pub check_form_in : ListOf Row → Option CheckForm
check_form_in rows = check_form_by (first_of (codes "format") rows)

abbrev pub check_in : ListOf Row → Option RequestedJob
check_in rows =
    option_and_then (λ file. option_map (check file (is_given (codes "warn") rows))
    (check_form_in rows)) (first_of (codes "file") rows)

abbrev pub run_in : ListOf Row → Option RequestedJob
run_in rows =
    option_and_then (λ file. option_and_then (λ arena. option_and_then (λ steps. option_and_then (λ workers. option_map
    (λ seed. run file arena steps workers seed (first_of (codes "choices") rows) (first_of (codes "follow") rows) (first_of (codes "history") rows))
    (seed_in rows)) (workers_in rows)) (steps_in rows)) (arena_in rows)) (first_of (codes "file") rows)

abbrev pub sample_in : ListOf Row → Option RequestedJob
sample_in rows =
    option_and_then (λ file. option_and_then (λ runs. option_and_then (λ seed. option_and_then (λ arena. option_and_then
    (λ steps. option_map (sample file runs seed arena steps (first_of (codes "keep") rows) (is_given (codes "progress") rows))
    (format_in (codes "json") rows))
    (steps_in rows)) (arena_in rows)) (first_seed_in rows)) (runs_in rows)) (first_of (codes "file") rows)

abbrev pub states_in : ListOf Row → Option ℕ
states_in rows = option_number 16777216 1000000 (first_of (codes "states") rows)

-- the status that is expected, where its option is given
abbrev pub expected_status_by : Option Text → Option (Option ℕ)
expected_status_by None = Some None
expected_status_by (Some text) = option_map Some (number_within 0 9 text)

abbrev pub expected_status_in : ListOf Row → Option (Option ℕ)
expected_status_in rows = expected_status_by (first_of (codes "expect-status") rows)

abbrev pub explore_in : ListOf Row → Option RequestedJob
explore_in rows =
    option_and_then (λ file. option_and_then (λ states. option_and_then (λ arena. option_map
    (explore file states arena (first_of (codes "keep") rows) (is_given (codes "progress") rows) (is_given (codes "expect-one") rows))
    (expected_status_in rows)) (arena_in rows)) (states_in rows)) (first_of (codes "file") rows)

abbrev pub replay_in : ListOf Row → Option RequestedJob
replay_in rows =
    option_and_then (λ file. option_and_then (λ history. option_map (replay file history)
    (arena_in rows)) (first_of (codes "history") rows)) (first_of (codes "file") rows)

-- the number of entries, if the option is given
abbrev pub entries_by : Option Text → Option (Option ℕ)
entries_by None = Some None
entries_by (Some text) = option_map Some (number_within 0 4294967296 text)

abbrev pub entries_in : ListOf Row → Option (Option ℕ)
entries_in rows = entries_by (first_of (codes "at") rows)

-- the run of the history that is the word with this id, or else the one that is to be made
abbrev pub viewed_in : Text → ListOf Row → Option Viewed
viewed_in id rows =
    option_and_then (λ seed. option_and_then (λ arena. option_map
    (λ steps. record { history = first_of id rows; choices = first_of (codes "choices") rows; seed = seed; arena = arena; steps = steps })
    (steps_in rows)) (arena_in rows)) (seed_in rows)

abbrev pub state_in : ListOf Row → Option RequestedJob
state_in rows =
    option_and_then (λ file. option_and_then (λ view. option_and_then (λ at. option_map (state file view at)
    (format_in (codes "json") rows)) (entries_in rows)) (viewed_in (codes "history") rows)) (first_of (codes "file") rows)

-- the number of an entry or a process, where its option is given
abbrev pub ordinal_in : Text → ListOf Row → Option (Option ℕ)
ordinal_in id rows = number_by 4294967296 (first_of id rows)

-- the columns of lanes, where their option is given
abbrev pub width_by : Option Text → Option (Option ℕ)
width_by None = Some None
width_by (Some text) = option_map Some (number_within 40 400 text)

abbrev pub width_in : ListOf Row → Option (Option ℕ)
width_in rows = width_by (first_of (codes "width") rows)

-- how `trace` writes: as lanes, in so many columns, or in a format; a width without lanes has no meaning, nor have lanes in a format
abbrev pub trace_form_by : Bool → Bool → Option ℕ → Option TraceForm
trace_form_by false false None = Some TraceLines
trace_form_by false true None = Some TraceJson
trace_form_by true false width = Some (Lanes (unwrap_or width 80))
trace_form_by _ _ _ = None

abbrev pub trace_form_in : ListOf Row → Option TraceForm
trace_form_in rows =
    option_and_then (λ width. option_and_then (λ json. trace_form_by (is_given (codes "lanes") rows) json width)
    (format_in (codes "json") rows)) (width_in rows)

abbrev pub trace_in : ListOf Row → Option RequestedJob
trace_in rows =
    option_and_then (λ file. option_and_then (λ view. option_and_then (λ first. option_and_then (λ last. option_and_then
    (λ process. option_map (trace file view first last process (first_of (codes "cell") rows)) (trace_form_in rows))
    (ordinal_in (codes "process") rows)) (ordinal_in (codes "to") rows)) (ordinal_in (codes "from") rows))
    (viewed_in (codes "history") rows)) (first_of (codes "file") rows)

-- of two words the second one names the file that gets the page or the picture; of one word alone it is that one, and there is no history
abbrev pub page_by : (Viewed → Text → RequestedJob) → Viewed → Option Text → Option RequestedJob
page_by whole view (Some out) = Some (whole view out)
page_by whole view None = option_map (whole (record view { history = None })) view.history

abbrev pub page_in : PageForm → ListOf Row → Option RequestedJob
page_in form rows =
    option_and_then (λ file. option_and_then (λ view. option_and_then (λ first. option_and_then
    (λ last. page_by (λ run out. page form file run first last out) view (first_of (codes "page") rows))
    (ordinal_in (codes "to") rows)) (ordinal_in (codes "from") rows)) (viewed_in (codes "history") rows)) (first_of (codes "file") rows)

abbrev pub why_in : ListOf Row → Option RequestedJob
why_in rows =
    option_and_then (λ file. option_and_then (λ view. option_map (why file view)
    (format_in (codes "json") rows)) (viewed_in (codes "history") rows)) (first_of (codes "file") rows)

abbrev pub races_in : ListOf Row → Option RequestedJob
races_in rows = option_and_then (λ file. option_map (races file) (viewed_in (codes "history") rows)) (first_of (codes "file") rows)

-- how many runs by lots there are, where their option is given
abbrev pub covered_in : ListOf Row → Option (Option ℕ)
covered_in rows = number_by 1000000 (first_of (codes "runs") rows)

-- the history of the first run is the first one
abbrev pub cover_in : ListOf Row → Option RequestedJob
cover_in rows =
    option_and_then (λ file. option_and_then (λ view. option_and_then (λ runs. option_map (cover file view runs)
    (format_in (codes "lcov") rows)) (covered_in rows)) (viewed_in (codes "histories") rows)) (first_of (codes "file") rows)

-- the second seed, where two are given; more than two have no meaning
abbrev pub other_seed_by : ListOf Text → Option (Option ℕ)
other_seed_by (first ∷ second ∷ []) = number_by 4294967296 (Some second)
other_seed_by (first ∷ second ∷ third ∷ others) = None
other_seed_by _ = Some None

abbrev pub other_seed_in : ListOf Row → Option (Option ℕ)
other_seed_in rows = other_seed_by (unwrap_or (all_of (codes "seed") rows) [])

abbrev pub diff_in : ListOf Row → Option RequestedJob
diff_in rows =
    option_and_then (λ file. option_and_then (λ view. option_map (diff file view (first_of (codes "other") rows))
    (other_seed_in rows)) (viewed_in (codes "history") rows)) (first_of (codes "file") rows)

abbrev pub list_in : ListOf Row → Option RequestedJob
list_in rows = option_map list (first_of (codes "file") rows)

-- without a word the list of all words is explained
abbrev pub explain_in : ListOf Row → Option RequestedJob
explain_in rows =
    Some (explain (unwrap_or (first_of (codes "first") rows) (codes "WORDS"))
    (first_of (codes "second") rows) (first_of (codes "third") rows))

-- the job of the command with this name
abbrev pub command_in : Text → ListOf Row → Option RequestedJob
command_in command rows =
    if bytes_eq command (codes "check") then check_in rows
    else (if bytes_eq command (codes "run") then run_in rows
    else (if bytes_eq command (codes "sample") then sample_in rows
    else (if bytes_eq command (codes "explore") then explore_in rows
    else (if bytes_eq command (codes "replay") then replay_in rows
    else (if bytes_eq command (codes "state") then state_in rows
    else (if bytes_eq command (codes "trace") then trace_in rows
    else (if bytes_eq command (codes "page") then page_in Html rows
    else (if bytes_eq command (codes "picture") then page_in Svg rows
    else (if bytes_eq command (codes "why") then why_in rows
    else (if bytes_eq command (codes "races") then races_in rows
    else (if bytes_eq command (codes "cover") then cover_in rows
    else (if bytes_eq command (codes "diff") then diff_in rows
    else (if bytes_eq command (codes "list") then list_in rows
    else (if bytes_eq command (codes "explain") then explain_in rows else None))))))))))))))

-- when lines have colors; a word of another name has no meaning
abbrev pub color_by : Option Text → Option ColorWhen
color_by None = Some Auto
color_by (Some word) =
    if bytes_eq word (codes "auto") then Some Auto
    else (if bytes_eq word (codes "always") then Some Always else (if bytes_eq word (codes "never") then Some Never else None))

-- .. where they go to a terminal, if nothing else is said
abbrev pub color_in : Option (Text × ListOf Row) → ColorWhen
color_in None = Auto
color_in (Some found) = unwrap_or (color_by (first_of (codes "color") found.1)) Auto

-- the job of a command, where its colors have a meaning
abbrev pub colored_in : Text → ListOf Row → Option RequestedJob
colored_in command rows = option_and_then (λ color. command_in command rows) (color_by (first_of (codes "color") rows))

-- without a command the source on standard input is run
abbrev pub job_in : Option (Text × ListOf Row) → Option RequestedJob
job_in None = Some standard
job_in (Some found) = colored_in found.0 found.1

-- `--long` is given, before the command or after it
abbrev pub is_long_in : ListOf Row → Option (Text × ListOf Row) → Bool
is_long_in rows None = is_given (codes "long") rows
is_long_in rows (Some found) = is_given (codes "long") rows || is_given (codes "long") found.1

-- the histories of `cover`, in order
abbrev pub histories_in : Option (Text × ListOf Row) → ListOf Text
histories_in None = []
histories_in (Some found) = unwrap_or (all_of (codes "histories") found.1) []
