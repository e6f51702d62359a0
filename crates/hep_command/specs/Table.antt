-- The commands that the rows of a table describe.
use Rattle.std.specs.Prelude.{◌∷◌, [], List, Some}
use Rattle.clap.specs.Words.{App, Rule, new_app, new_rule, with_rule, with_subcommand}
use Rattle.clap.specs.declared.builder.action.ArgAction.TheVariants.{Append, SetTrue}
use Rattle.clap.specs.declared.builder.value_parser.ValueParser.TheVariants.{Unsigned}
use Rattle.hep_command.specs.Program.{file_option, optional_word, required_word}
use Rattle.hep_command.specs.declared.table.WordKind.{WordKind}
use Rattle.hep_command.specs.declared.table.WordKind.TheVariants.{Required, Optional, Repeated, Further, Flag, Text, Number, Numbers}
use Rattle.hep_command.specs.declared.table.WordRow.{WordRow}
use Rattle.hep_command.specs.declared.table.CommandRow.{CommandRow}
use Rattle.clap.specs.Words.{Text as Bytes}

abbrev pub rule_of_kind : WordKind → Bytes → Rule
rule_of_kind Required id = required_word id
rule_of_kind Optional id = optional_word id
rule_of_kind Repeated id = record (optional_word id) { range = Some (record { start_inclusive = 1; end_inclusive = 18446744073709551615 }) }
rule_of_kind Further id = optional_word id
rule_of_kind Flag id = record (new_rule id) { long = Some id; action = Some SetTrue }
rule_of_kind Text id = file_option id
rule_of_kind (Number least most) id = record (file_option id) { parser = Some (Unsigned least most) }
rule_of_kind (Numbers least most) id = record (file_option id) { parser = Some (Unsigned least most); action = Some Append }

abbrev pub rule_of_word : WordRow → Rule
rule_of_word word = rule_of_kind word.kind word.id.now

-- a command with these words too
abbrev pub with_words : App → List WordRow → App
with_words app [] = app
with_words app (word ∷ words) = with_words (with_rule app (rule_of_word word)) words

abbrev pub app_of_command : CommandRow → App
app_of_command command = with_words (new_app command.name.now) command.words.now

-- a command with these subcommands too
abbrev pub with_commands : App → List CommandRow → App
with_commands app [] = app
with_commands app (command ∷ commands) = with_commands (with_subcommand app (app_of_command command).top) commands
