use Rattle.std.proofs.Common.{◌≡◌, ◌∙◌, ℕ, ◌<◌, Bool, true, suc, List, ◌∷◌, length, drop, drop-cons, Some, ap, sym, refl, eq-eqb, slice_index_or}
use Rattle.std.specs.Prelude.{find, option_and_then, slice_get}
use Rattle.hep_text.specs.declared.statement.Span.{Span}
use Rattle.hep_text.specs.declared.statement.Stmt.{Stmt}
use Rattle.hep_text.specs.Places.{is_at}
use Rattle.hep_text.proofs.place.place_in.Goals as goal

-- an element that passes, where none before it does, is the one that is found
found_here : {A : Type 0} (p : A → Bool) (xs : List A) (i : ℕ) (x : A) → i < length xs → x ≡ slice_index_or xs i x → p x ≡ true
    → find p (drop i xs) ≡ find p xs → Some x ≡ find p xs
found_here p xs i x within at passes same =
    let here : find p (x ∷ drop (suc i) xs) ≡ Some x = rw passes refl in
    sym here ∙ ap (λ y. find p (y ∷ drop (suc i) xs)) at ∙ sym (ap (find p) (drop-cons xs i x within)) ∙ same

span_found : (statements : List Stmt) (i line index : ℕ) (x : Stmt) → i < length statements → x ≡ slice_index_or statements i x → is_at line x ≡ true
    → find (is_at line) (drop i statements) ≡ find (is_at line) statements
    → slice_get x.spans index ≡ option_and_then (λ (s : Stmt). slice_get s.spans index) (find (is_at line) statements)
span_found statements i line index x within at passes same =
    ap (option_and_then (λ (s : Stmt). slice_get s.spans index)) (found_here (is_at line) statements i x within at passes same)

pub returns-then-statement-line : goal.returns-then-statement-line
returns-then-statement-line c =
    let x = c.statement-item.result in
    c.span_of.ensures ∙ ap (λ (spans : List Span). slice_get spans c.args.index) c.as_slice.ensures
    ∙ span_found c.args.statements.now c.loop-statement.statement-index c.args.line c.args.index x c.loop-statement-test.true c.statement-item.is
    (eq-eqb x.line c.args.line c.if-statement-line.true) c.loop-statement.invariant
