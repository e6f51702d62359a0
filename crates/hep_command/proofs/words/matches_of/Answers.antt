use Rattle.std.proofs.Common.{◌≡◌, ◌∙◌, ◌∷◌, [], ◌-◌, List, IfOk, ap, codes, cond, false, length, map, subst, sym, take, true}
use Rattle.std.proofs.lemmas.List.{length-map, take-map}
use Rattle.clap.specs.Words.{FailsBy, HasMatchesOf, Text, app_of, fault_of, is_simple_and_free}
use Rattle.hep_command.specs.Asked.{command_place, heard, is_help_of_help, is_version}
use Rattle.hep_command.proofs.words.matches_of.Goals as goal

abbrev version_words : List Text
version_words = codes "hepf" ∷ codes "--version" ∷ []

heard_version : (words : List Text) → is_version words (command_place words) ≡ true → heard words ≡ version_words
heard_version words is =
    ap (λ b. cond b version_words (cond (is_help_of_help words (command_place words)) (take (length words - 1) words) words)) is

heard_help : (words : List Text) → is_version words (command_place words) ≡ false → is_help_of_help words (command_place words) ≡ true
    → heard words ≡ take (length words - 1) words
heard_help words isnt is =
    ap (λ b. cond b version_words (cond (is_help_of_help words (command_place words)) (take (length words - 1) words) words)) isnt
    ∙ ap (λ b. cond b (take (length words - 1) words) words) is

pub returns-then-is_version-clause-matches : goal.returns-then-is_version-clause-matches
returns-then-is_version-clause-matches g c =
    let words = map g.S.AsStr.text c.args.words.now in
    let is = ap (is_version words) (sym c.command_place-place.ensures) ∙ sym c.is_version.ensures ∙ c.if-is_version.true in
    subst (λ (ws : List Text). IfOk c.try_get_matches_from.result (HasMatchesOf (app_of c.args.program) ws)) (sym (heard_version words is))
    c.try_get_matches_from.ensures.matches

pub returns-then-is_version-clause-kinds : goal.returns-then-is_version-clause-kinds
returns-then-is_version-clause-kinds g c =
    let words = map g.S.AsStr.text c.args.words.now in
    let is = ap (is_version words) (sym c.command_place-place.ensures) ∙ sym c.is_version.ensures ∙ c.if-is_version.true in
    subst (λ (ws : List Text). is_simple_and_free (app_of c.args.program) ≡ true → FailsBy (fault_of (app_of c.args.program) ws) c.try_get_matches_from.result)
    (sym (heard_version words is)) c.try_get_matches_from.ensures.kinds

pub returns-then-is_help_of_help-clause-matches : goal.returns-then-is_help_of_help-clause-matches
returns-then-is_help_of_help-clause-matches g c =
    let words = map g.S.AsStr.text c.args.words.now in
    let isnt = ap (is_version words) (sym c.command_place-place.ensures) ∙ sym c.is_version.ensures ∙ c.if-is_version.false in
    let is = ap (is_help_of_help words) (sym c.command_place-place.ensures) ∙ sym c.is_help_of_help.ensures ∙ c.if-is_help_of_help.true in
    let all_but_one = c.saturating_sub.ensures ∙ ap (λ n. n - 1) (sym (length-map c.args.words.now g.S.AsStr.text)) in
    let same = ap (λ n. map g.S.AsStr.text (take n c.args.words.now)) all_but_one
    ∙ sym (take-map g.S.AsStr.text (length words - 1) c.args.words.now) ∙ sym (heard_help words isnt is) in
    subst (λ (ws : List Text). IfOk c.try_get_matches_from-then-is_help_of_help.result (HasMatchesOf (app_of c.args.program) ws)) same
    c.try_get_matches_from-then-is_help_of_help.ensures.matches

pub returns-then-is_help_of_help-clause-kinds : goal.returns-then-is_help_of_help-clause-kinds
returns-then-is_help_of_help-clause-kinds g c =
    let words = map g.S.AsStr.text c.args.words.now in
    let isnt = ap (is_version words) (sym c.command_place-place.ensures) ∙ sym c.is_version.ensures ∙ c.if-is_version.false in
    let is = ap (is_help_of_help words) (sym c.command_place-place.ensures) ∙ sym c.is_help_of_help.ensures ∙ c.if-is_help_of_help.true in
    let all_but_one = c.saturating_sub.ensures ∙ ap (λ n. n - 1) (sym (length-map c.args.words.now g.S.AsStr.text)) in
    let same = ap (λ n. map g.S.AsStr.text (take n c.args.words.now)) all_but_one
    ∙ sym (take-map g.S.AsStr.text (length words - 1) c.args.words.now) ∙ sym (heard_help words isnt is) in
    subst (λ (ws : List Text). is_simple_and_free (app_of c.args.program) ≡ true
    → FailsBy (fault_of (app_of c.args.program) ws) c.try_get_matches_from-then-is_help_of_help.result) same
    c.try_get_matches_from-then-is_help_of_help.ensures.kinds
