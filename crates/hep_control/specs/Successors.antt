-- The successors of each statement, by one pass over a unit from its end (X3.9-1978, 11.6 to 11.9).
use Rattle.std.specs.Prelude.{ℕ, suc, if◌then◌else◌, List, [], ◌∷◌, slice_get}
use Rattle.std.specs.Option.{unwrap_or}
use Rattle.hep_machine.specs.Words.{Statement, is_executable, Role, opens, alternative, otherwise, closes, other, role_of, end_if_after, alternative_of}
use Rattle.hep_machine.specs.Control as control
use Rattle.hep_control.specs.declared.successors.Successors as code

-- the successors of a statement: the statement that is executed next, the one where control goes if the condition of an IF THEN or ELSE IF
-- is false, and the END IF of the block IF
pub record Successors : Type 0 where
  pub following : ℕ
  pub alternative : ℕ
  pub end_if : ℕ

-- the view of the successors in the code
abbrev pub successors_seen : code.Successors → Successors
successors_seen s = record { following = s.following; alternative = s.alternative; end_if = s.end_if }

abbrev pub successors_at : List Statement → ℕ → Successors
successors_at unit k = record { following = control.following unit k; alternative = alternative_of unit k; end_if = end_if_after unit k }

abbrev pub successors_from : List Statement → ℕ → List Statement → List Successors
successors_from unit k [] = []
successors_from unit k (s ∷ ss) = successors_at unit k ∷ successors_from unit (suc k) ss

-- the state of the pass before a statement: the first executable statement from there on; the statement that is executed next, after the
-- block that ends there, if one does; for the block IFs that begin before, the innermost first, the END IF and where control goes if a
-- condition is false; and the index after the last statement
pub record Continuation : Type 0 where
  pub executable : ℕ
  pub next : ℕ
  pub end_ifs : List ℕ
  pub alternatives : List ℕ
  pub past : ℕ

-- the first of these indices, or the index after the last statement where there is none
abbrev pub innermost : List ℕ → ℕ → ℕ
innermost ks past = unwrap_or (slice_get ks 0) past

abbrev pub without_innermost : List ℕ → List ℕ
without_innermost [] = []
without_innermost (k ∷ ks) = ks

-- the successors of the statement before
abbrev pub successors_before : Continuation → Successors
successors_before a = record { following = a.next; alternative = innermost a.alternatives a.past; end_if = innermost a.end_ifs a.past }

-- the state before a statement that neither begins nor ends a block
abbrev pub with_plain : Continuation → ℕ → Continuation
with_plain a k = record a { executable = k; next = k }

abbrev pub with_block_if : Continuation → ℕ → Continuation
with_block_if a k =
    record a { executable = k; next = k; end_ifs = without_innermost a.end_ifs; alternatives = without_innermost a.alternatives }

-- the state before an ELSE IF or ELSE, by the index where control goes if the condition before it is false
abbrev pub with_division : Continuation → ℕ → ℕ → Continuation
with_division a k target =
    record a { executable = k; next = innermost a.end_ifs a.past; alternatives = target ∷ without_innermost a.alternatives }

abbrev pub with_end_if : Continuation → ℕ → Continuation
with_end_if a k = record a { executable = k; next = k; end_ifs = k ∷ a.end_ifs; alternatives = k ∷ a.alternatives }

abbrev pub with_role : Continuation → ℕ → Role → Continuation
with_role a k opens = with_block_if a k
with_role a k alternative = with_division a k k
with_role a k otherwise = with_division a k a.executable
with_role a k closes = with_end_if a k
with_role a k other = with_plain a k

abbrev pub with_statement : Continuation → ℕ → Statement → Continuation
with_statement a k s = if is_executable s.form then with_role a k (role_of s) else a

-- the state after the last statement
abbrev pub at_end : ℕ → Continuation
at_end n = record { executable = n; next = n; end_ifs = []; alternatives = []; past = n }

-- the state before these statements, the first of which has index k
abbrev pub ahead_of : ℕ → List Statement → ℕ → Continuation
ahead_of past [] k = at_end past
ahead_of past (s ∷ ss) k = with_statement (ahead_of past ss (suc k)) k s
