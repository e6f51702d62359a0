-- What leaves a function by a `?`.
use Rattle.std.proofs.Common.{◌≡◌, ℕ, ◌<◌, ◌≤◌, List, ◌++◌, length, sym, ap, ◌∙◌, arith, length-append, Result, Ok, Err, IfErr}
use Rattle.std.specs.Result.{IsErr, IsErrAnd}
use Rattle.hep_machine.specs.Words.{Trees}
use Rattle.hep_code.specs.declared.instruction.Instruction.{Instruction}
use Rattle.hep_code.specs.Words.{trees_code, NameTable}
use Rattle.hep_lower.specs.declared.fault.EmitFault.{EmitFault}
use Rattle.hep_lower.specs.ArgumentLimits.{IsTooLong}
use Rattle.hep_lower.specs.Names.{greatest}

-- so many instructions that they can't be counted, whatever the fault is
pub long : {A : Type 0} (r : Result A EmitFault) (n m : ℕ) → greatest < n → n ≤ m → IfErr r (IsTooLong m)
long (Ok x) n m h le = tt
long (Err e) n m h le = λ is. omega (arith, h, le)

-- the fault of a part is one of the whole
pub longer : {A : Type 0} (r : Result A EmitFault) (fault : EmitFault) (n m : ℕ) → IsErr r × IsErrAnd r (λ e. e ≡ fault) → IsTooLong n fault → n ≤ m → IfErr r (IsTooLong m)
longer (Ok x) fault n m h part le = tt
longer (Err e) fault n m h part le = λ is. let p = part (sym h.1 ∙ is) in omega (arith, p, le)

-- an operation behind a list, where the list is refused
module _ (names : NameTable) (line : ℕ) (code last : List Instruction) {A : Type 0} (r : Result A EmitFault) where
  pub of_list : (fault : EmitFault) (xs : Trees) → trees_code names line xs ≡ code → IsErr r × IsErrAnd r (λ e. e ≡ fault) → IsTooLong (length (trees_code names line xs)) fault
      → IfErr r (IsTooLong (length (code ++ last)))
  of_list fault xs same part h = longer r fault (length (trees_code names line xs)) (length (code ++ last)) part h (omega (arith, ap length same, length-append code last))

pub weaker : {A : Type 0} (r : Result A EmitFault) (n m : ℕ) → IfErr r (IsTooLong n) → n ≤ m → IfErr r (IsTooLong m)
weaker (Ok x) n m h le = tt
weaker (Err e) n m h le = λ is. let p = h is in omega (arith, p, le)
