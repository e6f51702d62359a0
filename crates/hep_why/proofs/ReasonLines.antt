-- The lines of those that wait, one after the other.
use Rattle.std.proofs.Common.{◌≡◌, ℕ, suc, ◌+◌, ◌<◌, List, ◌∷◌, ◌++◌, Some, length, map, drop, drop-cons, add-one, slice_get, sym, ap, ◌∙◌, append_assoc}
use Rattle.std.specs.List.{flat_map}
use Rattle.std.specs.Option.{option_map}
use Rattle.std.proofs.lemmas.Option.{get_or_from_slice_get, same_Some, slice_get-map}
use Rattle.hep_machine.specs.Words.{Units}
use Rattle.hep_why.specs.Lines.{makers_wait, reason_lines, reason_text}
use Rattle.hep_why.specs.declared.reason.MakersWait.{MakersWait}
use Rattle.hep_why.specs.declared.reason.Reason.{Reason}

-- those of the next one
pub turn : (program : Units) (reasons : List Reason) (makers : List MakersWait) (i : ℕ) (r : Reason) (wait : MakersWait)
    (found next whole : List ℕ)
    → i < length reasons → slice_get reasons i ≡ Some r → makers ≡ map (makers_wait reasons) reasons → slice_get makers i ≡ Some wait
    → found ++ flat_map (reason_text program reasons) (drop i reasons) ≡ whole → next ≡ found ++ reason_lines program r wait
    → next ++ flat_map (reason_text program reasons) (drop (i + 1) reasons) ≡ whole
turn program reasons makers i r wait found next whole less there all at h e =
    let so : wait ≡ makers_wait reasons r =
    same_Some wait (makers_wait reasons r) (
    sym at ∙ ap (λ (ms : List MakersWait). slice_get ms i) all
    ∙ slice_get-map (makers_wait reasons) reasons i ∙ ap (option_map (makers_wait reasons)) there) in
    let rest = flat_map (reason_text program reasons) (drop (i + 1) reasons) in
    let cut : drop i reasons ≡ r ∷ drop (i + 1) reasons =
    drop-cons reasons i r less ∙ ap (λ (x : Reason). x ∷ drop (suc i) reasons) (get_or_from_slice_get reasons i r r there)
    ∙ ap (λ n. r ∷ drop n reasons) (sym (add-one i)) in
    ap (λ (xs : List ℕ). xs ++ rest) (e ∙ ap (λ w. found ++ reason_lines program r w) so)
    ∙ append_assoc found (reason_text program reasons r) rest
    ∙ ap (λ (rs : List Reason). found ++ flat_map (reason_text program reasons) rs) (sym cut)
    ∙ h
