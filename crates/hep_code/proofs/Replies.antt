-- An operation replies what the machine answers.
use Rattle.std.proofs.Common.{◌≡◌, ℕ, Bool, true, false, List, refl, ap, sym, ◌∙◌, subst, Result, Ok, Err}
use Rattle.hep_machine.specs.Words.{StateFunction, IsFull, Name, Value, Units, Outcome, level_after_statement, Redex, signing, negating, combining, applying, testing, Scope, location_of_name, Location, Store, Answer, fails, answer_at, answer_of_read_at, answer_of_test, answer_of_test_at, answer_of, written, Top, unit_on_top, result_after_write, result_after_assignment}
use Rattle.hep_machine.specs.declared.event.Kind.{Kind}
use Rattle.hep_machine.specs.declared.slot.Slot.{Slot}
use Rattle.hep_machine.specs.Evaluation.{reading}
use Rattle.hep_code.specs.declared.variable.Variable.{Variable}
use Rattle.hep_code.specs.Words.{operands_of_redex, evaluation_of, accessing, read, tested, reply_of, reply_to_store, Addressing, Finds, Answers, IsSame, IsAddressed, IsAddressedIn, answer_to_store}

module _ (addressing : Addressing) (store : Store) (cells : ℕ → Slot) (found : Finds addressing cells store) where
  -- an access to one cell
  accessed_is : (access : Slot → Outcome) (answer : Result Location Kind → Answer) (a : Result ℕ Kind) (l : Result Location Kind) → ((k : Kind) → answer (Err k) ≡ fails k) → ((at : Location) → answer (Ok at) ≡ answer_at store at (access (store at))) → IsSame addressing a l → Answers addressing store (accessing (λ address. access (cells address)) a) (answer l)
  accessed_is access answer (Ok address) (Ok at) he ho h = (at, h, ho at ∙ ap (λ c. answer_at store at (access c)) (sym (found address at h)))
  accessed_is access answer (Err k) (Err l) he ho h = he l ∙ ap fails (sym h)
  accessed_is access answer (Ok address) (Err l) he ho h = absurd h
  accessed_is access answer (Err k) (Ok at) he ho h = absurd h

  read_is : (asynchronous : Bool) (a : Result ℕ Kind) (l : Result Location Kind) → IsSame addressing a l → Answers addressing store (accessing (λ address. read asynchronous (cells address)) a) (answer_of_read_at asynchronous store l)
  read_is false a l h = accessed_is (read false) (answer_of_read_at false store) a l (λ k. refl) (λ at. refl) h
  read_is true a l h = accessed_is (read true) (answer_of_read_at true store) a l (λ k. refl) (λ at. refl) h

  test_is : (f : StateFunction) (at : Location) → answer_of_test f store at ≡ answer_at store at (tested f (store at))
  test_is IsFull at = refl
  test_is _ at = refl

  module _ (scope : Scope) (address : Variable → List Value → Result ℕ Kind) (variables : Name → Variable) where
    pub reply_is : (r : Redex) → IsAddressedIn addressing scope address variables r → Answers addressing store (reply_of cells address (evaluation_of variables r) (operands_of_redex r)) (answer_of scope store r)
    reply_is (reading r) h =
        subst (λ b. Answers addressing store (accessing (λ at. read b (cells at)) (address (variables r.0) r.1)) (answer_of_read_at r.0.asynchronous store (location_of_name scope r.0 r.1))) (sym h.0)
        (read_is r.0.asynchronous (address (variables r.0) r.1) (location_of_name scope r.0 r.1) h.1)
    reply_is (signing s v) h = refl
    reply_is (negating v) h = refl
    reply_is (combining o v w) h = refl
    reply_is (applying f vs) h = refl
    reply_is (testing f r) h =
        accessed_is (tested f) (answer_of_test_at f store) (address (variables r.0) r.1) (location_of_name scope r.0 r.1) (λ k. refl) (test_is f) h.1

    pub stored_is : (x : Name) (v : Value) (vs : List Value) → IsAddressed addressing scope address variables x vs → Answers addressing store (reply_to_store cells address (variables x) v vs) (answer_to_store store x.asynchronous v (location_of_name scope x vs))
    stored_is x v vs h =
        subst (λ b. Answers addressing store (accessing (λ at. written b v (cells at)) (address (variables x) vs)) (answer_to_store store x.asynchronous v (location_of_name scope x vs))) (sym h.0)
        (accessed_is (written x.asynchronous v) (answer_to_store store x.asynchronous v) (address (variables x) vs) (location_of_name scope x vs) (λ k. refl) (λ at. refl) h.1)

-- an assignment is what its answer makes of it
pub assignment_is : (program : Units) (t : Top) (asynchronous : Bool) (l : Result Location Kind) (v : Value) → result_after_assignment program t asynchronous l v ≡ result_after_write program t (level_after_statement (unit_on_top program t) t.level) (answer_to_store t.state.store asynchronous v l)
assignment_is program t asynchronous (Err k) v = refl
assignment_is program t asynchronous (Ok at) v = refl
