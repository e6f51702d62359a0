-- What adding words does to a command.
use Rattle.std.proofs.Common.{◌≡◌, ◌∷◌, [], List, refl, true}
use Rattle.clap.specs.Words.{App, new_app, with_rule}
use Rattle.hep_command.specs.Table.{app_of_command, rule_of_word, with_words}
use Rattle.hep_command.specs.declared.table.CommandRow.{CommandRow}
use Rattle.hep_command.specs.declared.table.WordRow.{WordRow}

stays_plain : (app : App) (words : List WordRow) → (with_words app words).top.is_plain ≡ app.top.is_plain
stays_plain app [] = refl
stays_plain app (word ∷ words) = stays_plain (with_rule app (rule_of_word word)) words

pub is_plain : (command : CommandRow) → (app_of_command command).top.is_plain ≡ true
is_plain command = stays_plain (new_app command.name.now) command.words.now
