-- Entries that are passed, one after the other, up to one that is looked up.
use Rattle.std.proofs.Common.{◌≡◌, ℕ, ◌+◌, ◌-◌, ◌<◌, ◌≤◌, List, [], ◌∷◌, Option, Some, None, MatchOption, length, drop, sym, ap, ◌∙◌, arith, slice_get}
use Rattle.std.proofs.lemmas.List.{drop-drop, length-drop}
use Rattle.hep_machine.specs.declared.event.Entry.{Entry}
use Rattle.hep_source.proofs.Tests.{get-drop}

-- so many more
pub passed_to : (entries left : List Entry) (passed index : ℕ) → left ≡ drop passed entries → passed ≤ index → drop (index - passed) left ≡ drop index entries
passed_to entries left passed index is le =
    let sum : passed + (index - passed) ≡ index = omega (arith, le) in
    ap (λ es. drop (index - passed) es) is ∙ drop-drop (index - passed) passed entries ∙ ap (λ k. drop k entries) sum

-- the next one
pub next_there : (entries left : List Entry) (index : ℕ) (next : Option Entry) (behind : List Entry) → left ≡ drop index entries → index < length entries
    → MatchOption next ((left ≡ []) × (behind ≡ [])) (λ e. left ≡ e ∷ behind) → (next ≡ slice_get entries index) × (behind ≡ drop (index + 1) entries)
next_there entries left index None behind is lt gives =
    let count = length-drop index entries in
    let nothing : length (drop index entries) ≡ 0 = ap length (sym is ∙ gives.0) in
    absurd (omega (arith, count, nothing, lt))
next_there entries left index (Some e) behind is lt gives =
    let here : e ∷ behind ≡ drop index entries = sym gives ∙ is in
    let same : index + 0 ≡ index = omega arith in (
      ap (λ es. slice_get es 0) here ∙ sym (get-drop entries index 0) ∙ ap (λ k. slice_get entries k) same,
      ap (λ es. drop 1 es) here ∙ drop-drop 1 index entries,
    )
