use Rattle.std.proofs.Common.{◌∙◌, ◌∷◌, [], false, ap, append_assoc, arith}
use Rattle.std.specs.List.{flat_map}
use Rattle.std.proofs.lemmas.List.Elements.{All-append, All-cons, All-nil}
use Rattle.hep_formats.specs.Strings.{IsPrintable, after_quote, json_character, json_string, quote}
use Rattle.hep_formats.proofs.Strings.{characters_passed, characters_printable}
use Rattle.hep_formats.proofs.laws.strings_are_read_to_their_ends.Goals as goal

pub returns-clause-printable : goal.returns-clause-printable
unfolding json_string
returns-clause-printable c text =
    let last = All-cons IsPrintable quote [] (omega arith, omega arith) (All-nil IsPrintable) in
    All-cons IsPrintable quote _ (omega arith, omega arith) (
    All-append IsPrintable (flat_map json_character text) (quote ∷ []) (characters_printable text) last)

pub returns-clause-ended : goal.returns-clause-ended
unfolding json_string
returns-clause-ended c text rest =
    ap (after_quote false) (append_assoc (flat_map json_character text) (quote ∷ []) rest) ∙ characters_passed text rest
