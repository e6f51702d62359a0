-- The value of a reply is that of the source machine's answer.
use Rattle.std.proofs.Common.{◌≡◌, Ok, Err, refl, ap, ◌∙◌}
use Rattle.hep_code.specs.Words.{Addressing, Answers, Reply, accessed, result}
use Rattle.hep_machine.specs.Access.{Outcome, gives, makes, undefined, waits}
use Rattle.hep_machine.specs.Words.{Answer, Location, Store, answer_at}
use Rattle.hep_event.specs.StepTexts.{value_given}
use Rattle.hep_trace.specs.RedexValues.{value_come, value_replied}

come-of : (store : Store) (at : Location) (o : Outcome) → value_given (answer_at store at o) ≡ value_come o
come-of store at (gives v) = refl
come-of store at (makes v cell) = refl
come-of store at (waits full) = refl
come-of store at undefined = refl

pub given-is : (addressing : Addressing) (store : Store) (reply : Reply) (answer : Answer) → Answers addressing store reply answer → value_given answer ≡ value_replied reply
given-is addressing store (result (Ok v)) answer h = ap value_given h
given-is addressing store (result (Err k)) answer h = ap value_given h
given-is addressing store (accessed at outcome) answer h = ap value_given h.2 ∙ come-of store h.0 outcome
