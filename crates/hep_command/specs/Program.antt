-- The commands and options of the program, as a parse sees them: docs/MACHINE.md, "The program".
use Rattle.std.specs.Prelude.{◌≡◌, ◌⊎◌, [], ◌∷◌, Bool, false, ℕ, List, None, Option, Some, true, codes, map}
use Rattle.clap.specs.Words.{App, Rule, Text, app_of, matches_of, new_app, new_rule, rule_of, subcommand_of}
use Rattle.clap.specs.Words.{IsAmong, fault_of, with_rule, with_subcommand}
use Rattle.clap.specs.declared.builder.action.ArgAction.TheVariants.{Append, SetTrue}
use Rattle.clap.specs.declared.builder.arg.Arg.{Arg}
use Rattle.clap.specs.declared.builder.command.Command.{Command}
use Rattle.clap.specs.declared.error.kind.ErrorKind.{ErrorKind}
use Rattle.clap.specs.declared.builder.value_parser.ValueParser.TheVariants.{Unsigned}
use Rattle.hep_command.specs.Asked.{RequestedJob, asked_by, color_in, heard, is_long_in, job_in, histories_in}
use Rattle.hep_command.specs.declared.job.ColorWhen.{ColorWhen}
use Rattle.hep_command.specs.Jobs.{IsOneOrder, IsWrittenApart, usage_status}
use Rattle.hep_command.specs.declared.job.Job.{Job}
use Rattle.hep_command.specs.declared.job.Request.{Request}

-- a required word
abbrev pub required_word : Text → Rule
required_word id = record (new_rule id) { value_names = 1; required = true }

abbrev pub file_option : Text → Rule
file_option id = record (new_rule id) { long = Some id; value_names = 1 }

abbrev pub number_option : Text → ℕ → Rule
number_option id most = record (file_option id) { parser = Some (Unsigned 1 most) }

abbrev pub source_word : Rule
source_word = required_word (codes "file")

abbrev pub history_word : Rule
history_word = required_word (codes "history")

-- an optional word
abbrev pub optional_word : Text → Rule
optional_word id = record (new_rule id) { value_names = 1 }

abbrev pub name_word : Rule
name_word = optional_word (codes "first")

abbrev pub arena_option : Rule
arena_option = number_option (codes "arena") 16777216

abbrev pub steps_option : Rule
steps_option = number_option (codes "steps") 4294967296

abbrev pub workers_option : Rule
workers_option = number_option (codes "workers") 16

abbrev pub seed_option : Rule
seed_option = number_option (codes "seed") 4294967296

abbrev pub runs_option : Rule
runs_option = number_option (codes "runs") 1000000

-- a prefix of the names of files
abbrev pub keep_option : Rule
keep_option = file_option (codes "keep")

abbrev pub choices_option : Rule
choices_option = file_option (codes "choices")

abbrev pub follow_option : Rule
follow_option = file_option (codes "follow")

abbrev pub history_option : Rule
history_option = file_option (codes "history")

-- an option without a value
abbrev pub flag : Text → Rule
flag id = record (new_rule id) { long = Some id; action = Some SetTrue }

-- it may come before the command too
abbrev pub long_flag : Rule
long_flag = flag (codes "long")

-- when lines have colors
abbrev pub color_option : Rule
color_option = file_option (codes "color")

abbrev pub warn_flag : Rule
warn_flag = flag (codes "warn")

abbrev pub progress_flag : Rule
progress_flag = flag (codes "progress")

-- the name of a format
abbrev pub format_option : Rule
format_option = file_option (codes "format")

-- a command with these arguments too
abbrev pub with_rules : App → List Rule → App
with_rules app [] = app
with_rules app (rule ∷ rules) = with_rules (with_rule app rule) rules

-- the command of this name, with these arguments
abbrev pub command_with : Text → List Rule → App
command_with name rules = with_rules (new_app name) rules

abbrev pub check_command : App
check_command = command_with (codes "check") (source_word ∷ warn_flag ∷ format_option ∷ color_option ∷ long_flag ∷ [])

abbrev pub run_command : App
run_command =
    command_with (codes "run") (source_word ∷ arena_option ∷ steps_option ∷ workers_option ∷ seed_option ∷ choices_option
    ∷ follow_option ∷ history_option ∷ color_option ∷ long_flag ∷ [])

abbrev pub sample_command : App
sample_command =
    command_with (codes "sample") (source_word ∷ runs_option ∷ seed_option ∷ arena_option ∷ steps_option ∷ keep_option ∷ format_option
    ∷ progress_flag ∷ color_option ∷ long_flag ∷ [])

abbrev pub states_option : Rule
states_option = number_option (codes "states") 16777216

-- the outcomes that are expected
abbrev pub expect_one_flag : Rule
expect_one_flag = flag (codes "expect-one")

abbrev pub expect_status_option : Rule
expect_status_option = record (file_option (codes "expect-status")) { parser = Some (Unsigned 0 9) }

abbrev pub explore_command : App
explore_command =
    command_with (codes "explore") (source_word ∷ states_option ∷ arena_option ∷ expect_one_flag ∷ expect_status_option ∷ keep_option
    ∷ progress_flag ∷ color_option ∷ long_flag ∷ [])

abbrev pub replay_command : App
replay_command = command_with (codes "replay") (source_word ∷ history_word ∷ arena_option ∷ color_option ∷ long_flag ∷ [])

-- a number from 0 on
abbrev pub entries_option : Rule
entries_option = record (file_option (codes "at")) { parser = Some (Unsigned 0 4294967296) }

-- a history, where no run is made in its place
abbrev pub viewed_word : Rule
viewed_word = optional_word (codes "history")

abbrev pub state_command : App
state_command =
    command_with (codes "state") (source_word ∷ viewed_word ∷ entries_option ∷ choices_option ∷ seed_option ∷ format_option
    ∷ arena_option ∷ steps_option ∷ color_option ∷ long_flag ∷ [])

-- a number from 1 on
abbrev pub ordinal_option : Text → Rule
ordinal_option id = number_option id 4294967296

abbrev pub first_option : Rule
first_option = ordinal_option (codes "from")

abbrev pub last_option : Rule
last_option = ordinal_option (codes "to")

abbrev pub process_option : Rule
process_option = ordinal_option (codes "process")

-- a word that is a name
abbrev pub cell_option : Rule
cell_option = file_option (codes "cell")

abbrev pub lanes_flag : Rule
lanes_flag = flag (codes "lanes")

abbrev pub width_option : Rule
width_option = record (file_option (codes "width")) { parser = Some (Unsigned 40 400) }

abbrev pub trace_command : App
trace_command =
    command_with (codes "trace") (source_word ∷ viewed_word ∷ first_option ∷ last_option ∷ process_option ∷ cell_option ∷ lanes_flag
    ∷ width_option ∷ format_option ∷ choices_option ∷ seed_option ∷ arena_option ∷ steps_option ∷ color_option ∷ long_flag ∷ [])

-- the file that gets a page, where there is a history
abbrev pub page_word : Rule
page_word = optional_word (codes "page")

-- the file that gets the page, or a history; and the file where there is a history
abbrev pub page_command : App
page_command =
    command_with (codes "page") (source_word ∷ history_word ∷ page_word ∷ first_option ∷ last_option ∷ choices_option ∷ seed_option
    ∷ arena_option ∷ steps_option ∷ long_flag ∷ [])

-- the same files for a picture
abbrev pub picture_command : App
picture_command =
    command_with (codes "picture") (source_word ∷ history_word ∷ page_word ∷ choices_option ∷ seed_option ∷ arena_option ∷ steps_option
    ∷ long_flag ∷ [])

abbrev pub why_command : App
why_command =
    command_with (codes "why") (source_word ∷ viewed_word ∷ choices_option ∷ seed_option ∷ format_option ∷ arena_option ∷ steps_option
    ∷ color_option ∷ long_flag ∷ [])

abbrev pub races_command : App
races_command =
    command_with (codes "races") (source_word ∷ viewed_word ∷ choices_option ∷ seed_option ∷ arena_option ∷ steps_option ∷ color_option
    ∷ long_flag ∷ [])

-- as many words as there are, or none
abbrev pub histories_word : Rule
histories_word = record (optional_word (codes "histories")) { range = Some (record { start_inclusive = 1; end_inclusive = 18446744073709551615 }) }

abbrev pub cover_command : App
cover_command =
    command_with (codes "cover") (source_word ∷ histories_word ∷ choices_option ∷ seed_option ∷ runs_option ∷ format_option
    ∷ arena_option ∷ steps_option ∷ color_option ∷ long_flag ∷ [])

-- a second history
abbrev pub other_word : Rule
other_word = optional_word (codes "other")

-- a seed, or two
abbrev pub seeds_option : Rule
seeds_option = record seed_option { action = Some Append }

abbrev pub diff_command : App
diff_command =
    command_with (codes "diff") (source_word ∷ viewed_word ∷ other_word ∷ choices_option ∷ seeds_option ∷ arena_option ∷ steps_option
    ∷ color_option ∷ long_flag ∷ [])

abbrev pub list_command : App
list_command = command_with (codes "list") (source_word ∷ color_option ∷ long_flag ∷ [])

abbrev pub explain_command : App
explain_command =
    command_with (codes "explain") (name_word ∷ optional_word (codes "second") ∷ optional_word (codes "third") ∷ long_flag ∷ [])

abbrev pub named_program : App
named_program = record (new_app (codes "hepf")) { top = record (new_app (codes "hepf")).top { has_version = true } }

-- the command line before its commands
abbrev pub bare_program : App
bare_program = with_rule named_program long_flag

-- the commands in the order of the help: those that check and run a source, those that look at runs, and those that list and explain
abbrev pub running : List App
running = check_command ∷ run_command ∷ sample_command ∷ explore_command ∷ replay_command ∷ []

abbrev pub looking : List App
looking = state_command ∷ trace_command ∷ page_command ∷ picture_command ∷ why_command ∷ races_command ∷ cover_command ∷ diff_command ∷ []

abbrev pub saying : List App
saying = list_command ∷ explain_command ∷ []

-- a command line with these commands too
abbrev pub with_apps : App → List App → App
with_apps app [] = app
with_apps app (command ∷ commands) = with_apps (with_subcommand app command.top) commands

abbrev pub hepf : App
hepf = with_apps (with_apps (with_apps bare_program running) looking) saying

-- a parse sees the argument, or the command, as this
abbrev pub IsArgument : Rule → Arg → Type 0
IsArgument rule argument = (rule_of argument ≡ rule) × (argument.global ≡ false)

abbrev pub IsCommand : App → Command → Type 0
IsCommand app command = app_of command ≡ app

-- the job of the words
unfoldable pub asked : List Text → Option RequestedJob
asked words = job_in (subcommand_of hepf (heard words))

-- the words ask for notes besides the lines of the standard form
unfoldable pub is_long : List Text → Bool
is_long words = is_long_in (matches_of hepf (heard words)) (subcommand_of hepf (heard words))

-- the files of the histories of `cover`, in order
unfoldable pub histories : List Text → List Text
histories words = histories_in (subcommand_of hepf (heard words))

-- when lines have colors
unfoldable pub color : List Text → ColorWhen
color words = color_in (subcommand_of hepf (heard words))

-- the request of the words
abbrev pub IsAskedBy : List Text → Request → Type 0
IsAskedBy words request =
    (asked words ≡ Some (asked_by request.job)) × (request.long ≡ is_long words) × (request.color ≡ color words)
    × (map (λ h. h.now) request.histories.items ≡ histories words)

-- the words have no meaning; or their job would write the history to a file that is read; or they decide the next
-- process in two ways
abbrev pub IsMistaken : Option RequestedJob → Type 0
IsMistaken asked =
    (asked ≡ None) ⊎ ((job : Job) × (asked ≡ Some (asked_by job)) × ((IsWrittenApart job → ⊥) ⊎ (IsOneOrder job → ⊥)))

-- the status where the words get no job: that of their fault, or 2 where they have none and are mistaken
unfoldable pub IsStatusFor : List Text → ℕ → Type 0
IsStatusFor words status = ((fault_of hepf (heard words) ≡ []) × (status ≡ 2) × IsMistaken (asked words))
    ⊎ ((kind : ErrorKind) × IsAmong kind (fault_of hepf (heard words)) × (status ≡ usage_status kind))
