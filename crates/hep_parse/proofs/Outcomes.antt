-- What parse answers, from what is read.
use Rattle.std.proofs.Common.{ℕ, List, Result, Ok, Err, sym, ap, ◌∙◌, IfOk, IfErr}
use Rattle.hep_source.specs.declared.statement.Statement.{Statement}
use Rattle.hep_text.specs.declared.statement.Stmt.{Stmt}
use Rattle.hep_base.specs.declared.refusal.Refusal.{Refusal as ParseFault}
use Rattle.hep_base.specs.declared.refusal.Refusal.TheVariants.{NoMemory, Refused}
use Rattle.hep_parse.specs.Program.{IsProgram, IsFirstFault, IsRead, IsReported, IsTrueFault}
use Rattle.hep_parse.specs.ReadingProgram.{Refusal, Answers, program}
use Rattle.hep_parse.proofs.Programs.{ok_is, refusal_is, not_both, is_program, program_read}
use Rattle.hep_parse.proofs.Faults.{is_first_fault, first_fault_reported}

module _ (given : List Stmt) where
  pub accepted : (r : Result (List (List Statement)) ParseFault) → Answers (λ p. p) r (program given) → IfOk r (λ p. IsProgram given p)
  accepted (Ok p) h = is_program given p h
  accepted (Err e) h = tt

  pub complete : (r : Result (List (List Statement)) ParseFault) → Answers (λ p. p) r (program given) → (p : List (List Statement)) → IsProgram given p → IsRead p r
  complete (Ok q) h p k = ok_is q p (sym h ∙ program_read given p k)
  complete (Err NoMemory) h p k = tt
  complete (Err (Refused number line name)) h p k = not_both p (number, line, name) (sym h ∙ program_read given p k)

  pub refused : (r : Result (List (List Statement)) ParseFault) → Answers (λ p. p) r (program given) → IfErr r (λ e. IsTrueFault given e)
  refused (Ok q) h = tt
  refused (Err NoMemory) h = tt
  refused (Err (Refused number line name)) h = is_first_fault given number line name h

  pub first_reported : (r : Result (List (List Statement)) ParseFault) → Answers (λ p. p) r (program given) → (number line : ℕ) (name : List ℕ) → IsFirstFault given number line name → IsReported number line name r
  first_reported (Ok q) h number line name k = not_both q (number, line, name) (sym (first_fault_reported given number line name k) ∙ h)
  first_reported (Err NoMemory) h number line name k = tt
  first_reported (Err (Refused n l word)) h number line name k =
      let same = refusal_is (n, l, word) (number, line, name) (program given) h (first_fault_reported given number line name k) in
      (ap (λ (y : Refusal). y.0) same, ap (λ (y : Refusal). y.1) same, ap (λ (y : Refusal). y.2) same)
