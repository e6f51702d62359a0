-- What a step of one of several processes is to the others: docs/MACHINE.md, "The order of steps".
use Rattle.std.specs.Prelude.{ℕ, Bool, false, ◌||◌, nat_eq, List, Option, Some, None}

-- an access to a plain storage unit: which one, whether it stores there, and from where in the program it is made
pub record Access (L S : Type 0) : Type 0 where
  pub at : L
  pub stores : Bool
  pub site : S

-- a step: its process, the process that it makes, the full/empty storage unit whose state it needs, those whose state it changes, and its
-- plain accesses
pub record Event (L S : Type 0) : Type 0 where
  pub process : ℕ
  pub makes : Option ℕ
  pub needs : Option L
  pub changes : L → Bool
  pub accesses : List (Access L S)

abbrev pub is_made : Option ℕ → ℕ → Bool
is_made None p = false
is_made (Some q) p = nat_eq q p

-- p is the process of the step, or the one that it makes: so later steps of p come after it
abbrev pub leads_to : {L S : Type 0} → Event L S → ℕ → Bool
leads_to e p = nat_eq e.process p || is_made e.makes p
