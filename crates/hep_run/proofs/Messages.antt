-- What a writer took of pieces that are written one after the other.
use Rattle.std.proofs.Common.{ℕ, ◌+◌, ◌≤◌, List, ◌++◌, length, take, Option, sym, subst, inl, inr, Result, Ok, Err, OnOk, IfErr}
use Rattle.std.proofs.lemmas.List.{take-append-le}
use Rattle.std.proofs.Math.Seq.{take-length, take-append-add}
use Rattle.std.specs.Io.KnownBytes.{Appends}
use Rattle.std.proofs.KnownBytes.{Appends-trans}
use Rattle.hep_base.specs.declared.refusal.Refusal.{Refusal}
use Rattle.hep_base.specs.declared.refusal.Refusal.TheVariants as refusals
use Rattle.hep_run.specs.declared.options.Run.{Run}
use Rattle.hep_outcome.specs.OutcomeHistoryLines.{ReportsLine}
use Rattle.hep_outcome.specs.Outcome.{Outcome}
use Rattle.hep_run.specs.Delivery.{SomeOf, WritesMessages, Leaves}
use Rattle.hep_run.specs.Files.{SaysFault, SaysRefusal, SaysRefusalAt}

pub of_first : (a b : Option (List ℕ)) (xs ys : List ℕ) (n : ℕ) → n ≤ length xs → Appends a b (take n xs) → SomeOf a b (xs ++ ys)
of_first a b xs ys n h p = (n, subst (Appends a b) (sym (take-append-le n xs ys h)) p)

pub of_later : (a b c : Option (List ℕ)) (xs ys : List ℕ) → Appends a b xs → SomeOf b c ys → SomeOf a c (xs ++ ys)
of_later a b c xs ys p q = (length xs + q.0, subst (Appends a c) (sym (take-append-add xs ys q.0)) (Appends-trans a b c xs (take q.0 ys) p q.1))

pub of_all : (a b : Option (List ℕ)) (xs : List ℕ) → Appends a b xs → SomeOf a b xs
of_all a b xs p = (length xs, subst (Appends a b) (sym (take-length xs)) p)

pub of_some : (a b : Option (List ℕ)) (xs : List ℕ) (n : ℕ) → Appends a b (take n xs) → SomeOf a b xs
of_some a b xs n p = (n, p)

-- where all of it was taken or some of it was, some of it was
pub of_either : {E : Type 0} (r : Result (Unit {0}) E) (a b : Option (List ℕ)) (xs : List ℕ) → OnOk r (Appends a b xs) → IfErr r (λ _. SomeOf a b xs) → SomeOf a b xs
of_either (Ok u) a b xs p q = of_all a b xs p
of_either (Err e) a b xs p q = q

-- what holds anyway holds of a failure too
pub if_err_anyway : {A E P : Type 0} (r : Result A E) → P → IfErr r (λ _. P)
if_err_anyway (Ok x) p = tt
if_err_anyway (Err e) p = p

-- after what was taken of an earlier text
pub reported_after : (a b c : Option (List ℕ)) (xs ys : List ℕ) → Appends a b xs → SomeOf b c ys → (k : ℕ) × Appends a c (xs ++ take k ys)
reported_after a b c xs ys p q = (q.0, Appends-trans a b c xs (take q.0 ys) p q.1)

-- where the output took all, what became of the messages
pub left_by : (o : Outcome) (run : Run) (output output' messages messages' : Option (List ℕ)) → Appends output output' o.output → WritesMessages o.messages o.status o.history run messages messages' → Leaves o run output output' messages messages'
left_by o run output output' messages messages' taken (same, inl (status, all)) =
    inl (record { status = status; history = same; output_taken = taken; messages_taken = all })
left_by o run output output' messages messages' taken (same, inr (status, n, fewer, reported)) =
    inr (record { status = status; history = same; taken = inr (n, fewer, taken, reported) })

-- what is said of a text that gives nothing, by what is reported of it
pub said_at : (n : ℕ) (IsAt : ℕ → Type 0) (fault : Refusal) (code : ℕ) (messages messages' : Option (List ℕ)) → ReportsLine n IsAt fault → SaysFault fault code messages messages'
    → SaysRefusalAt n IsAt code messages messages'
said_at n IsAt refusals.NoMemory code messages messages' reports said = inl said
said_at n IsAt (refusals.Refused number line name) code messages messages' reports said =
    inr (line, reports.2, subst (λ k. SaysRefusal k line code messages messages') reports.0 said)
