-- The loop over the entries of a PURGE.
use Rattle.std.proofs.Common.{◌≡◌, ℕ, zero, suc, ◌+◌, List, [], ◌∷◌, ◌++◌, drop, length, map, take, codes, Some, sym, ap, ◌∙◌, arith, append_assoc, slice_get}
use Rattle.std.specs.List.{flat_map}
use Rattle.std.proofs.lemmas.Option.{none-some, same_Some}
use Rattle.hep_machine.specs.Words.{Reference, Value, spelling}
use Rattle.hep_trace.proofs.PurgedAhead.{left, taken}
use Rattle.hep_event.specs.LineTexts.{reference_text, references_text}

-- a target at an index, before those behind it
pub target-ahead : (targets : List Reference) (i : ℕ) (r : Reference) → slice_get targets i ≡ Some r → drop i targets ≡ r ∷ drop (i + 1) targets
target-ahead [] i r e = absurd (none-some r e)
target-ahead (x ∷ xs) zero r e = ap (λ y. y ∷ xs) (same_Some x r e)
target-ahead (x ∷ xs) (suc i) r e =
    let same : suc (i + 1) ≡ suc i + 1 = omega arith in
    target-ahead xs i r e ∙ ap (λ n. r ∷ drop n (x ∷ xs)) same

abbrev pub subscripts_of : List Reference → List Value
subscripts_of targets = flat_map (λ (r : Reference). r.1) targets

abbrev pub written : Reference → List ℕ
written r = reference_text (spelling r.0) r.1

-- one target more is written
pub target-next : (targets : List Reference) (i : ℕ) (r : Reference) (old new whole : List ℕ) (rest : List Value) → slice_get targets i ≡ Some r → rest ≡ subscripts_of (drop i targets)
    → new ≡ old ++ (codes " " ++ reference_text (spelling r.0) (take (length r.1) rest))
    → old ++ references_text (map written (drop i targets)) ≡ whole → new ++ references_text (map written (drop (i + 1) targets)) ≡ whole
target-next targets i r old new whole rest e is grown so_far =
    let ahead = target-ahead targets i r e in
    let behind = references_text (map written (drop (i + 1) targets)) in
    let own : take (length r.1) rest ≡ r.1 = ap (take (length r.1)) (is ∙ ap subscripts_of ahead) ∙ taken r (drop (i + 1) targets) in
    ap (λ xs. xs ++ behind) (grown ∙ ap (λ vs. old ++ (codes " " ++ reference_text (spelling r.0) vs)) own)
    ∙ append_assoc old (codes " " ++ written r) behind
    ∙ ap (λ xs. old ++ xs) (append_assoc (codes " ") (written r) behind)
    ∙ ap (λ rs. old ++ references_text (map written rs)) (sym ahead)
    ∙ so_far

-- and its subscripts are taken
pub rest-next : (targets : List Reference) (i : ℕ) (r : Reference) (rest new : List Value) → slice_get targets i ≡ Some r → rest ≡ subscripts_of (drop i targets) → new ≡ drop (length r.1) rest
    → new ≡ subscripts_of (drop (i + 1) targets)
rest-next targets i r rest new e is taken_off =
    taken_off ∙ ap (drop (length r.1)) (is ∙ ap subscripts_of (target-ahead targets i r e)) ∙ left r (drop (i + 1) targets)
