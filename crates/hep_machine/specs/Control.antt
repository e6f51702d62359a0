-- The flow of control: X3.9-1978, section 11.
use Rattle.std.specs.Prelude.{ℕ, zero, suc, ◌+◌, ℤ, pos, negsuc, Bool, true, false, ◌&&◌, nat_eq, if◌then◌else◌, List, [], ◌∷◌, Option, Some, None, take, drop, slice_get}
use Rattle.std.specs.Option.{option_map, unwrap_or}
use Rattle.hep_source.specs.Tree.{Tree}
use Rattle.hep_source.specs.declared.name.Name.{Name}
use Rattle.hep_source.specs.declared.statement.Form.{Form}
use Rattle.hep_source.specs.declared.statement.Form.TheVariants as form
use Rattle.hep_source.specs.declared.statement.SignLabels.{SignLabels}
use Rattle.hep_source.specs.declared.statement.Statement.{Statement}
use Rattle.hep_source.specs.Names.{index_where}
use Rattle.hep_machine.specs.State.{Level, Work, doing, ending}
use Rattle.hep_machine.specs.Defaults.{no_name, no_index}
use Rattle.hep_source.specs.Units.{is_executable, executable_from, statement_at}

-- ---- labels: 3.4

abbrev pub has_label : ℕ → Option ℕ → Bool
has_label l None = false
has_label l (Some k) = nat_eq k l

abbrev pub is_labelled : ℕ → Statement → Bool
is_labelled l s = is_executable s.form && has_label l s.label

-- the index of the first executable statement with a label
abbrev pub index_labelled : List Statement → ℕ → Option ℕ
index_labelled unit l = index_where (is_labelled l) unit

abbrev pub index_of_label : List Statement → ℕ → ℕ
index_of_label unit l = unwrap_or (index_labelled unit l) (no_index unit)

-- ---- block IFs: 11.6 to 11.9

pub data Role : Type 0 where
  opens : Role
  alternative : Role
  otherwise : Role
  closes : Role
  other : Role

abbrev pub role_of_form : Form → Role
role_of_form (form.IfThen t) = opens
role_of_form (form.ElseIf t) = alternative
role_of_form form.Else = otherwise
role_of_form form.EndIf = closes
role_of_form _ = other

abbrev pub role_after : List Tree → Form → Role
role_after [] f = role_of_form f
role_after (t ∷ ts) f = other

-- the role of a statement in the block IFs around it; a logical IF has none
abbrev pub role_of : Statement → Role
role_of s = role_after s.conditions s.form

-- one statement in the search for an END IF: the search ends there, or continues at the depth after the statement
abbrev pub to_end_if : Role → ℕ → (ℕ → ℕ) → ℕ
to_end_if opens depth rest_after = suc (rest_after (suc depth))
to_end_if closes zero rest_after = 0
to_end_if closes (suc depth) rest_after = suc (rest_after depth)
to_end_if _ depth rest_after = suc (rest_after depth)

-- the number of statements before the END IF of the block IF at this depth
abbrev pub before_end_if : List Statement → ℕ → ℕ
before_end_if [] depth = 0
before_end_if (s ∷ ss) depth = to_end_if (role_of s) depth (before_end_if ss)

abbrev pub to_alternative : Role → ℕ → (ℕ → ℕ) → ℕ
to_alternative alternative zero rest_after = 0
to_alternative otherwise zero rest_after = 0
to_alternative r depth rest_after = to_end_if r depth rest_after

-- the number of statements before the ELSE IF, ELSE or END IF that ends the block at this depth
abbrev pub before_alternative : List Statement → ℕ → ℕ
before_alternative [] depth = 0
before_alternative (s ∷ ss) depth = to_alternative (role_of s) depth (before_alternative ss)

abbrev pub end_if_after : List Statement → ℕ → ℕ
end_if_after unit k = suc k + before_end_if (drop (suc k) unit) 0

-- from an ELSE IF or ELSE, which ends the block before it, to the END IF: 11.6.3
abbrev pub past_block : List Statement → ℕ → Role → ℕ
past_block unit k alternative = end_if_after unit k
past_block unit k otherwise = end_if_after unit k
past_block unit k _ = k

-- the index of the statement that is executed after the one at index k
abbrev pub following : List Statement → ℕ → ℕ
following unit k = past_block unit (executable_from unit (suc k)) (role_of (statement_at unit (executable_from unit (suc k))))

abbrev pub past_else : List Statement → ℕ → Role → ℕ
past_else unit k otherwise = executable_from unit (suc k)
past_else unit k _ = k

-- the index where control goes if the condition of the IF THEN or ELSE IF at index k is false: the next ELSE IF, the statement after
-- ELSE, or the END IF
abbrev pub alternative_of : List Statement → ℕ → ℕ
alternative_of unit k = past_else unit next (role_of (statement_at unit next)) where
  next : ℕ
  next = suc k + before_alternative (drop (suc k) unit) 0

-- ---- DO: 11.10

abbrev pub terminal_by_form : List Tree → Form → Option ℕ
terminal_by_form [] (form.Do c) = Some c.terminal
terminal_by_form _ _ = None

abbrev pub is_ended_at : List Statement → ℕ → Option ℕ → Bool
is_ended_at unit k None = false
is_ended_at unit k (Some l) = nat_eq (index_of_label unit l) k

-- the indices of the DO statements among these whose terminal statement is at index k, the last first
abbrev pub loops_among : List Statement → ℕ → ℕ → List Statement → List ℕ → List ℕ
loops_among unit k j [] found = found
loops_among unit k j (s ∷ ss) found =
    loops_among unit k (suc j) ss (if is_ended_at unit k (terminal_by_form s.conditions s.form) then j ∷ found else found)

-- the DO statements whose terminal statement is at index k, the innermost first; condition 308 says that control there is in all
-- their ranges
abbrev pub loops_ending_at : List Statement → ℕ → List ℕ
loops_ending_at unit k = loops_among unit k 0 (take k unit) []

-- those of these DOs that are around the DO at index d
abbrev pub loops_around : ℕ → List ℕ → List ℕ
loops_around d [] = []
loops_around d (e ∷ es) = if nat_eq e d then es else loops_around d es

abbrev pub terminal_of : List Statement → ℕ → ℕ
terminal_of unit d = unwrap_or (option_map (index_of_label unit) (terminal_by_form [] (statement_at unit d).form)) (no_index unit)

abbrev pub variable_by_form : Form → Name
variable_by_form (form.Do c) = c.variable.name
variable_by_form _ = no_name

-- the DO variable of the DO at index d
abbrev pub variable_of : List Statement → ℕ → Name
variable_of unit d = variable_by_form (statement_at unit d).form

-- ---- where control goes in an activation: 3.6

abbrev pub level_at_statement : List Statement → Level → ℕ → Level
level_at_statement unit level k = record level { statement = k; work = doing (statement_at unit k).conditions (statement_at unit k).form }

-- the level at the end of the innermost of these DOs, whose terminal statement is at index k (11.10.6), or else at the next statement
abbrev pub level_at_end_of : List Statement → Level → ℕ → List ℕ → Level
level_at_end_of unit level k [] = level_at_statement unit level (following unit k)
level_at_end_of unit level k (d ∷ ds) = record level { statement = k; work = ending d }

-- the level after its current statement
abbrev pub level_after_statement : List Statement → Level → Level
level_after_statement unit level = level_at_end_of unit level level.statement (loops_ending_at unit level.statement)

-- the level after the DO at index d, whose terminal statement other DOs may share
abbrev pub level_after_loop : List Statement → Level → ℕ → Level
level_after_loop unit level d = level_at_end_of unit level (terminal_of unit d) (loops_around d (loops_ending_at unit (terminal_of unit d)))

-- the level at the first statement of the range of the DO at index d: 11.10.5
abbrev pub level_in_range : List Statement → Level → ℕ → Level
level_in_range unit level d = level_at_statement unit level (following unit d)

abbrev pub level_at_label : List Statement → Level → ℕ → Level
level_at_label unit level l = level_at_statement unit level (index_of_label unit l)

-- computed GO TO: 11.2
abbrev pub label_chosen : List ℕ → ℤ → Option ℕ
label_chosen labels (pos zero) = None
label_chosen labels (pos (suc n)) = slice_get labels n
label_chosen labels (negsuc n) = None

abbrev pub level_at_choice : List Statement → Level → Option ℕ → Level
level_at_choice unit level None = level_after_statement unit level
level_at_choice unit level (Some l) = level_at_label unit level l

-- arithmetic IF: 11.4
abbrev pub label_by_sign : SignLabels → ℤ → ℕ
label_by_sign labels (pos zero) = labels.zero
label_by_sign labels (pos (suc n)) = labels.positive
label_by_sign labels (negsuc n) = labels.negative

-- IF THEN and ELSE IF: 11.6.3 and 11.7.2
abbrev pub level_in_block : List Statement → Level → Bool → Level
level_in_block unit level true = level_at_statement unit level (following unit level.statement)
level_in_block unit level false = level_at_statement unit level (alternative_of unit level.statement)

abbrev pub after_condition : Work → Work
after_condition (doing (t ∷ ts) f) = doing ts f
after_condition w = w

-- logical IF: 11.5
abbrev pub level_after_condition : List Statement → Level → Bool → Level
level_after_condition unit level true = record level { work = after_condition level.work }
level_after_condition unit level false = level_after_statement unit level
