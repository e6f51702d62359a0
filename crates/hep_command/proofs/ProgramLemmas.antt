-- What a parse of the program's words gives.
use Rattle.std.proofs.Common.{◌≡◌, ◌⊎◌, ◌∙◌, [], ℕ, List, Option, true}
use Rattle.std.proofs.Common.{ap, ap₂, sym, subst, refl, inl, inr}
use Rattle.clap.specs.Words.{App, HasKind, HasMatchesOf, IsAmong, Text, app_of}
use Rattle.clap.specs.Words.{fault_of, is_simple, is_simple_and_free, kind_of, matches_of, subcommand_of, subcommand_rows_of}
use Rattle.clap.specs.declared.builder.command.Command.{Command}
use Rattle.clap.specs.declared.parser.matches.ArgMatches.{ArgMatches}
use Rattle.clap.specs.declared.error.Error.{Error}
use Rattle.clap.proofs.OnLiterals.{clap_on_literals}
use Rattle.hep_command.specs.Asked.{RequestedJob, color_in, heard, is_long_in, job_in, words_found, histories_in}
use Rattle.hep_command.specs.Program.{IsCommand, IsMistaken, IsStatusFor, asked, color, hepf, is_long, histories}
use Rattle.hep_command.specs.Jobs.{usage_status}

hepf_is_simple : is_simple hepf ≡ true
unfolding clap_on_literals
hepf_is_simple = refl

pub job_in-asked : (command : Command) (matches : ArgMatches) (words : List Text) → IsCommand hepf command
    → HasMatchesOf (app_of command) (heard words) matches → job_in (subcommand_rows_of matches) ≡ asked words
unfolding asked
job_in-asked command matches words is found =
    ap job_in ((found (ap is_simple is ∙ hepf_is_simple)).1 ∙ ap (λ (app : App). subcommand_of app (heard words)) is)

pub is_long_in-is_long : (command : Command) (matches : ArgMatches) (words : List Text) → IsCommand hepf command
    → HasMatchesOf (app_of command) (heard words) matches
    → is_long_in (words_found matches) (subcommand_rows_of matches) ≡ is_long words
unfolding is_long
is_long_in-is_long command matches words is found =
    let both = found (ap is_simple is ∙ hepf_is_simple) in
    ap₂ is_long_in (both.0 ∙ ap (λ (app : App). matches_of app (heard words)) is)
    (both.1 ∙ ap (λ (app : App). subcommand_of app (heard words)) is)

pub histories_in-histories : (command : Command) (matches : ArgMatches) (words : List Text) → IsCommand hepf command
    → HasMatchesOf (app_of command) (heard words) matches → histories_in (subcommand_rows_of matches) ≡ histories words
unfolding histories
histories_in-histories command matches words is found =
    ap histories_in ((found (ap is_simple is ∙ hepf_is_simple)).1 ∙ ap (λ (app : App). subcommand_of app (heard words)) is)

-- the colors that a parse finds are those that the words ask for
pub color_in-color : (command : Command) (matches : ArgMatches) (words : List Text) → IsCommand hepf command
    → HasMatchesOf (app_of command) (heard words) matches → color_in (subcommand_rows_of matches) ≡ color words
unfolding color
color_in-color command matches words is found =
    ap color_in ((found (ap is_simple is ∙ hepf_is_simple)).1 ∙ ap (λ (app : App). subcommand_of app (heard words)) is)

hepf_is_free : is_simple_and_free hepf ≡ true
unfolding clap_on_literals
hepf_is_free = refl

pub firsts : {A B C D : Type 0} → (A × B) ⊎ (C × D) → A ⊎ C
firsts (inl both) = inl both.0
firsts (inr both) = inr both.0

-- the status for words that `clap` took
pub taken_status : (command : Command) (words : List Text) (found : Option RequestedJob) (status : ℕ) → IsCommand hepf command → found ≡ asked words
    → (is_simple_and_free (app_of command) ≡ true → fault_of (app_of command) (heard words) ≡ [])
    → (status ≡ 7) ⊎ ((status ≡ 2) × IsMistaken found) → (status ≡ 7) ⊎ IsStatusFor words status
unfolding IsStatusFor
taken_status command words found status is found_is none (inl seven) = inl seven
taken_status command words found status is found_is none (inr two) =
    let free = sym (ap (λ (app : App). fault_of app (heard words)) is) ∙ none (ap is_simple_and_free is ∙ hepf_is_free) in
    inr (inl (free, two.0, subst IsMistaken found_is two.1))

-- the status for those that it refused
pub refused_status : (command : Command) (words : List Text) (error : Error) (status : ℕ) → IsCommand hepf command
    → (is_simple_and_free (app_of command) ≡ true → HasKind (fault_of (app_of command) (heard words)) error)
    → (status ≡ 7) ⊎ (status ≡ usage_status (kind_of error)) → (status ≡ 7) ⊎ IsStatusFor words status
unfolding IsStatusFor
refused_status command words error status is kinds (inl seven) = inl seven
refused_status command words error status is kinds (inr by_kind) = elim (kinds (ap is_simple_and_free is ∙ hepf_is_free)) [
  | inl no_memory ↦ inl (by_kind ∙ ap usage_status no_memory)
  | inr among ↦
      let here = subst (λ (app : App). IsAmong (kind_of error) (fault_of app (heard words))) is among in
      inr (inr (kind_of error, here, by_kind))
]
