-- The rule that decides the form of a statement: docs/LANGUAGE.md, 5.
use Rattle.std.specs.Prelude.{ℕ, zero, suc, ◌&&◌, ◌||◌, not, nat_eq, nat_le, Bool, true, false, if◌then◌else◌, codes, List, [], ◌∷◌, Option, Some, None}
use Rattle.hep_expression.specs.Characters.{apostrophe, left_parenthesis, right_parenthesis, comma, equals, is_digit}
use Rattle.hep_expression.specs.Reading.{after_text}
use Rattle.hep_parse.specs.declared.rule.Rule.{Rule}
use Rattle.hep_parse.specs.declared.rule.Rule.TheVariants.{Assignment, BlockIf, SignIf, LogicalIf, Unclosed, Worded}
use Rattle.hep_parse.specs.declared.rule.Scan.{Scan}

-- The text after the closing parenthesis of the outermost open one. The number counts the open parentheses within that one, and the
-- Boolean says whether a character constant is open. Parentheses in character constants don't count.
abbrev pub after_closing : ℕ → Bool → List ℕ → Option (List ℕ)
after_closing depth quoted [] = None
after_closing depth true (c ∷ s) = after_closing depth (not (nat_eq c apostrophe)) s
after_closing zero false (c ∷ s) =
    if nat_eq c right_parenthesis then Some s else after_closing (if nat_eq c left_parenthesis then 1 else 0) (nat_eq c apostrophe) s
after_closing (suc depth) false (c ∷ s) =
    after_closing (if nat_eq c right_parenthesis then depth else if nat_eq c left_parenthesis then suc (suc depth) else suc depth) (nat_eq c apostrophe) s

-- the state of the search for `=` before a text: no parentheses, no open character constant, and neither `=` nor
-- a comma found
abbrev pub beginning : Scan
beginning = record { opened = 0; closed = 0; quoted = false; equals = false; comma = false }

abbrev pub is_outside : Scan → Bool
is_outside x = nat_le x.opened x.closed && not x.quoted

abbrev pub after_character : Scan → ℕ → Scan
after_character x c =
    record {
      opened = if nat_eq c left_parenthesis && not x.quoted then suc x.opened else x.opened;
      closed = if nat_eq c right_parenthesis && not x.quoted then suc x.closed else x.closed;
      quoted = if nat_eq c apostrophe then not x.quoted else x.quoted;
      equals = x.equals || (is_outside x && nat_eq c equals);
      comma = x.comma || (x.equals && is_outside x && nat_eq c comma);
    }

abbrev pub scanned : Scan → List ℕ → Scan
scanned x [] = x
scanned x (c ∷ s) = scanned (after_character x c) s

abbrev pub is_assignment : Scan → Bool
is_assignment x = x.equals && not x.comma

abbrev pub is_nothing : Option (List ℕ) → Bool
is_nothing None = false
is_nothing (Some []) = true
is_nothing (Some (c ∷ s)) = false

-- the rule of a text that begins with `IF(`, by what follows the closing parenthesis
abbrev pub rule_after : Option (List ℕ) → Rule
rule_after None = Unclosed
rule_after (Some []) = LogicalIf
rule_after (Some (c ∷ s)) =
    if nat_eq c equals then Assignment
    else if is_digit c then SignIf
    else if is_nothing (after_text (codes "THEN") (c ∷ s)) then BlockIf else LogicalIf

abbrev pub rule_by_word : Option (List ℕ) → List ℕ → Rule
rule_by_word (Some s) whole = rule_after (after_closing 0 false s)
rule_by_word None whole = if is_assignment (scanned beginning whole) then Assignment else Worded

-- the rule of a text: `IF(` is tested first, then `=`, and then the words
abbrev pub rule_of : List ℕ → Rule
rule_of s = rule_by_word (after_text (codes "IF(") s) s
