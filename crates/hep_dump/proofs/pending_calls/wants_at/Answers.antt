use Rattle.std.proofs.Common.{◌≡◌, ◌∙◌, ◌+◌, Bool, true, List, ◌∷◌, drop, Option, Some, IfOk, ap, sym, subst, refl, eq-eqb}
use Rattle.std.specs.Prelude.{find}
use Rattle.hep_machine.specs.Words.{Statement}
use Rattle.hep_dump.specs.PendingCalls.{is_at, wants_of_found}
use Rattle.hep_source.proofs.Tests.{drop_at}
use Rattle.hep_dump.proofs.pending_calls.wants_at.Goals as goal

-- an element that passes, where none before it does, is the one that is found
found_here : {A : Type 0} (p : A → Bool) (x : A) (xs ys zs : List A) → xs ≡ x ∷ ys → p x ≡ true → find p xs ≡ find p zs → Some x ≡ find p zs
found_here p x xs ys zs d passes same =
    let here : find p (x ∷ ys) ≡ Some x = rw passes refl in
    sym here ∙ ap (find p) (sym d) ∙ same

pub returns-then-statement-line : goal.returns-then-statement-line
returns-then-statement-line c =
    let items = c.statements-statement-items.result.now in
    let i = c.loop-statement.statement-index in
    let x = c.statement-item.result in
    let found = found_here (is_at c.args.line) x (drop i items) (drop (i + 1) items) c.args.symbols.now (drop_at items i x c.loop-statement-test.true c.statement-item.is)
    (eq-eqb x.line c.args.line c.if-statement-line.true) c.loop-statement.invariant in
    subst (λ (o : Option Statement). IfOk c.wants_of.result (λ wants. wants.items ≡ wants_of_found c.args.program.now c.args.symbols.now o)) found c.wants_of.ensures
