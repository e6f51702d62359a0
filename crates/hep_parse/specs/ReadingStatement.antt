-- The readers of words, executable statements and whole statements, as functions on lists (docs/ARCHITECTURE.md, "Forms").
use Rattle.std.specs.Prelude.{ℕ, codes, List, [], ◌∷◌, Option, Some, None, zero, suc, nat_eq, Bool, true, if◌then◌else◌, length}
use Rattle.hep_expression.specs.Reading.{Reader, one_of, ◌>>=◌, if_some, all_read, after, after_text, occurrence_at}
use Rattle.hep_parse.specs.declared.keyword.Keyword.{Keyword}
use Rattle.hep_parse.specs.declared.keyword.Keyword.TheVariants as words
use Rattle.hep_source.specs.Tree.{Tree}
use Rattle.hep_source.specs.declared.statement.SignLabels.{SignLabels}
use Rattle.hep_source.specs.declared.statement.Form.{Form}
use Rattle.hep_source.specs.declared.statement.Form.TheVariants as forms
use Rattle.hep_expression.specs.declared.characters.Context.{Context}
use Rattle.hep_expression.specs.Characters.{apostrophe, right_parenthesis, comma, equals}
use Rattle.hep_expression.specs.ReadingExpression.{expression_at, whole_expression}
use Rattle.hep_parse.specs.ReadingLists.{whole, listed, enclosed, name_and_arguments, after_optional_comma}
use Rattle.hep_expression.specs.ReadingLabel.{few_digits_at, label_at, label_part}
use Rattle.hep_parse.specs.ReadingConstant.{constant_after, item_at}
use Rattle.hep_parse.specs.ReadingTarget.{expression_part, target_at}
use Rattle.std.specs.Cmp.Lexicographic.{pointwise}
use Rattle.hep_source.specs.Units.{is_executable}
use Rattle.hep_expression.specs.declared.characters.Sizes.{Sizes}
use Rattle.hep_parse.specs.Statement.{context}
use Rattle.hep_parse.specs.ReadingRule.{after_if}
use Rattle.hep_parse.specs.Rules.{rule_of}
use Rattle.hep_parse.specs.declared.rule.Rule.{Rule}
use Rattle.hep_parse.specs.declared.rule.Rule.TheVariants.{Assignment, BlockIf, SignIf, LogicalIf, Unclosed, Worded}
use Rattle.hep_source.specs.declared.declaration.ValueType.TheVariants.{Integer, Logical}
use Rattle.hep_parse.specs.Declaration.{program_header, subroutine_header, function_header, implicit, declare, dimension, common, parameter, data_statement}

-- ---- the words with which a form of statement begins

abbrev pub spelling : Keyword → List ℕ
spelling words.Program = codes "PROGRAM"
spelling words.Subroutine = codes "SUBROUTINE"
spelling words.IntegerFunction = codes "INTEGERFUNCTION"
spelling words.LogicalFunction = codes "LOGICALFUNCTION"
spelling words.Function = codes "FUNCTION"
spelling words.Implicit = codes "IMPLICIT"
spelling words.Integer = codes "INTEGER"
spelling words.Logical = codes "LOGICAL"
spelling words.Dimension = codes "DIMENSION"
spelling words.Common = codes "COMMON"
spelling words.Parameter = codes "PARAMETER"
spelling words.Data = codes "DATA"
spelling words.GoTo = codes "GOTO"
spelling words.ElseIf = codes "ELSEIF("
spelling words.Else = codes "ELSE"
spelling words.EndIf = codes "ENDIF"
spelling words.End = codes "END"
spelling words.Do = codes "DO"
spelling words.Call = codes "CALL"
spelling words.Create = codes "CREATE"
spelling words.Purge = codes "PURGE"
spelling words.Print = codes "PRINT*"
spelling words.Continue = codes "CONTINUE"
spelling words.Return = codes "RETURN"
spelling words.Resume = codes "RESUME"
spelling words.Stop = codes "STOP"

-- the words; a word comes before the shorter words with which it begins
abbrev pub keywords : List Keyword
keywords =
    words.Program ∷ words.Subroutine ∷ words.IntegerFunction ∷ words.LogicalFunction ∷ words.Function ∷ words.Implicit
    ∷ words.Integer ∷ words.Logical ∷ words.Dimension ∷ words.Common ∷ words.Parameter ∷ words.Data ∷ words.GoTo
    ∷ words.ElseIf ∷ words.Else ∷ words.EndIf ∷ words.End ∷ words.Do ∷ words.Call ∷ words.Create ∷ words.Purge ∷ words.Print
    ∷ words.Continue ∷ words.Return ∷ words.Resume ∷ words.Stop ∷ []

abbrev pub keyword_among : List Keyword → Reader Keyword
keyword_among among s = one_of spelling among s

abbrev pub keyword_at : Reader Keyword
keyword_at s = keyword_among keywords s

-- ---- PRINT

unfoldable pub print : Context → List ℕ → Option Form
print k s = elim (after comma s) [ None ↦ all_read (forms.Print []) s | Some m ↦ whole forms.Print (listed (item_at k) m) ]

-- ---- assignment

unfoldable pub assignment : Context → List ℕ → Option Form
assignment k s = target_at k s >>= λ x. after equals x.1 >>= λ m. whole_expression k m >>= λ t. Some (forms.Assign x.0 t)

-- ---- GO TO

unfoldable pub computed_go_to : Context → List ℕ → Option Form
computed_go_to k s =
    enclosed (label_part k) s >>= λ x. whole_expression k (after_optional_comma x.1) >>= λ t. Some (forms.ComputedGoTo x.0 t)

unfoldable pub go_to : Context → List ℕ → Option Form
go_to k s = if_some (label_at s) (λ x. all_read (forms.GoTo x.0) x.1) (computed_go_to k s)

-- ---- IF

abbrev pub sign_labels : List ℕ → Option SignLabels
sign_labels s =
    label_at s >>= λ x. after comma x.1 >>= λ p. label_at p >>= λ y. after comma y.1 >>= λ q. label_at q >>= λ z.
    all_read (record { negative = x.0; zero = y.0; positive = z.0 }) z.1

-- a condition and its closing parenthesis
unfoldable pub condition_at : Context → Reader Tree
condition_at k s = expression_at k s >>= λ x. after right_parenthesis x.1 >>= λ r. Some (x.0, r)

-- a condition and its closing parenthesis, after `IF(`
abbrev pub if_condition_at : Context → Reader Tree
if_condition_at k s = after_text (codes "IF(") s >>= condition_at k

unfoldable pub arithmetic_if : Context → List ℕ → Option Form
arithmetic_if k s = if_condition_at k s >>= λ x. sign_labels x.1 >>= λ y. Some (forms.ArithmeticIf x.0 y)

-- the condition, where THEN and nothing else follows it
abbrev pub before_then : Tree × List ℕ → Option Tree
before_then x = after_text (codes "THEN") x.1 >>= λ r. all_read x.0 r

unfoldable pub if_then : Context → List ℕ → Option Form
if_then k s = if_condition_at k s >>= λ x. before_then x >>= λ t. Some (forms.IfThen t)

-- what follows `ELSEIF(`
unfoldable pub else_if : Context → List ℕ → Option Form
else_if k s = condition_at k s >>= λ x. before_then x >>= λ t. Some (forms.ElseIf t)

-- ---- DO

unfoldable pub limits : Context → List ℕ → Option (Tree × Option Tree)
limits k s =
    expression_at k s >>= λ x.
    if_some (after comma x.1) (λ m. whole_expression k m >>= λ u. Some (x.0, Some u)) (all_read (x.0, None) x.1)

unfoldable pub do_loop : Context → List ℕ → Option Form
do_loop k s =
    label_at s >>= λ x. occurrence_at k (after_optional_comma x.1) >>= λ v. after equals v.1 >>= λ q. expression_at k q >>= λ a.
    after comma a.1 >>= λ l. limits k l >>= λ y.
    Some (forms.Do (record { terminal = x.0; variable = v.0; initial = a.0; limit = y.0; increment = y.1 }))

-- ---- CALL, CREATE and PURGE

unfoldable pub call : Context → List ℕ → Option Form
call k s = name_and_arguments k (expression_part k) s >>= λ x. Some (forms.Call x.0 x.1)

unfoldable pub create : Context → List ℕ → Option Form
create k s = name_and_arguments k (expression_part k) s >>= λ x. Some (forms.Create x.0 x.1)

unfoldable pub purge : Context → List ℕ → Option Form
purge k s = whole forms.Purge (listed (target_at k) s)

-- ---- STOP

abbrev pub digits_or_characters : List ℕ → Option Form
digits_or_characters s =
    if_some (few_digits_at s) (λ x. all_read forms.Stop x.1)
    (after apostrophe s >>= λ m. constant_after m >>= λ x. all_read forms.Stop x.1)

unfoldable pub stop : List ℕ → Option Form
stop s = elim s [ [] ↦ Some forms.Stop | c ∷ m ↦ digits_or_characters (c ∷ m) ]

-- ---- forms that begin with their words

-- the form of a header, a specification statement or DATA, from its word and the text after the word
abbrev pub declaration : Context → Keyword → List ℕ → Option Form
declaration k words.Program s = program_header k s
declaration k words.Subroutine s = subroutine_header k s
declaration k words.IntegerFunction s = function_header k (Some Integer) s
declaration k words.LogicalFunction s = function_header k (Some Logical) s
declaration k words.Function s = function_header k None s
declaration k words.Implicit s = implicit k s
declaration k words.Integer s = declare k Integer s
declaration k words.Logical s = declare k Logical s
declaration k words.Dimension s = dimension k s
declaration k words.Common s = common k s
declaration k words.Parameter s = parameter k s
declaration k words.Data s = data_statement k s
declaration k _ s = None

-- the form of a statement, from its word and the text after the word
abbrev pub after_word : Context → Keyword → List ℕ → Option Form
after_word k words.GoTo s = go_to k s
after_word k words.ElseIf s = else_if k s
after_word k words.Else s = all_read forms.Else s
after_word k words.EndIf s = all_read forms.EndIf s
after_word k words.End s = all_read forms.End s
after_word k words.Do s = do_loop k s
after_word k words.Call s = call k s
after_word k words.Create s = create k s
after_word k words.Purge s = purge k s
after_word k words.Print s = print k s
after_word k words.Continue s = all_read forms.Continue s
after_word k words.Return s = all_read forms.Return s
after_word k words.Resume s = all_read forms.Resume s
after_word k words.Stop s = stop s
after_word k w s = declaration k w s

-- the form of a statement that begins with a word
unfoldable pub worded : Context → List ℕ → Option Form
worded k s = keyword_at s >>= λ x. after_word k x.0 x.1

-- the form of a statement that is no logical IF, by its rule
abbrev pub form_by : Context → Rule → List ℕ → Option Form
form_by k Assignment s = assignment k s
form_by k BlockIf s = if_then k s
form_by k SignIf s = arithmetic_if k s
form_by k LogicalIf s = None
form_by k Unclosed s = None
form_by k Worded s = worded k s

-- ---- logical IFs

-- the condition, where the text after it is the text after the closing parenthesis
abbrev pub closed_there : Option (List ℕ) → Tree × List ℕ → Option (Tree × List ℕ)
closed_there None x = None
closed_there (Some r) x = if pointwise nat_eq x.1 r then Some x else None

-- the condition of a logical IF and the text of the statement within it, where the rule is that of a logical IF
abbrev pub held_by : Context → Rule → Reader Tree
held_by k LogicalIf s = if_condition_at k s >>= closed_there (after_if s)
held_by k _ s = None

-- the condition of a logical IF, and the text of the statement within it
unfoldable pub logical_if : Context → Reader Tree
logical_if k s = held_by k (rule_of s) s

-- a condition and those after it; none where no condition was read
abbrev pub after_condition : Option (Tree × List ℕ) → (List ℕ → List Tree × List ℕ) → List ℕ → List Tree × List ℕ
after_condition None next s = ([], s)
after_condition (Some x) next s = (x.0 ∷ (next x.1).0, (next x.1).1)

-- the conditions of logical IFs, each within the one before, and the text of the innermost statement; the number bounds
-- how many are read
unfoldable pub conditions : Context → ℕ → List ℕ → List Tree × List ℕ
conditions k zero s = ([], s)
conditions k (suc n) s = after_condition (logical_if k s) (λ r. conditions k n r) s

-- ---- statements

-- whether a statement of this form may follow these conditions
abbrev pub may_stand : List Tree → Form → Bool
may_stand [] f = true
may_stand (t ∷ more) f = is_executable f

abbrev pub after_conditions : Context → List Tree × List ℕ → Option (List Tree × Form)
after_conditions k x = form_by k (rule_of x.1) x.1 >>= λ f. if may_stand x.0 f then Some (x.0, f) else None

unfoldable pub form : Sizes → List ℕ → Option (List Tree × Form)
form z s = after_conditions (context z s) (conditions (context z s) (length s) s)
