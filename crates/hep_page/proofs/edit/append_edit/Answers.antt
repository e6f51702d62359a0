use Rattle.std.proofs.Common.{◌≡◌, ◌++◌, ◌∙◌, ℕ, Bool, List, Bor, Option, None, Some, ap, drop, length, map, sym, take, if◌then◌else◌}
use Rattle.std.specs.Prelude.{◌-◌}
use Rattle.hep_page.specs.Edits.{Edit, edit_of, edit_text, lines_in, same_end, same_front}
use Rattle.hep_page.proofs.Edits.{edit-parts, from-index}
use Rattle.hep_page.proofs.edit.append_edit.Goals as goal

pub returns : goal.returns
returns c =
    let now : Bor (List ℕ) → List ℕ = λ line. line.now in
    let stay = c.same_front-stay.result in
    let end = c.same_end-end.result in
    let before = c.in_ok-before.before.items in
    let after = c.in_ok-after.after.items in
    let old : take (length c.deref-3.result.now - stay) (drop stay c.deref-3.result.now) ≡ drop stay before =
    ap (λ (xs : List (Bor (List ℕ))). take (length xs - stay) (drop stay xs)) c.deref-3.ensures.value ∙ from-index before stay in
    let new : take (length c.deref-4.result.now - stay) (drop stay c.deref-4.result.now) ≡ drop stay after =
    ap (λ (xs : List (Bor (List ℕ))). take (length xs - stay) (drop stay xs)) c.deref-4.ensures.value ∙ from-index after stay in
    let front : stay ≡ same_front (map now before) (map now after) =
    c.same_front-stay.ensures.same ∙ (λ i. same_front (map now (c.deref.ensures.value i)) (map now (c.deref-2.ensures.value i))) in
    let back : end ≡ same_end (map now (drop stay before)) (map now (drop stay after)) =
    c.same_end-end.ensures.same ∙ (λ i. same_end (map now (old i)) (map now (new i))) in
    let made : Edit = edit_of (lines_in c.args.old.now) (lines_in c.args.new.now) in
    c.in_ok-append_parts.ensures
    ∙ ap (λ (e : Option Edit). c.args.text.now.items ++ edit_text c.args.name.now e) (
    (λ i. Some (record { stay = stay; go = length (old i) - end; come = map now (take (length (new i) - end) (new i)) }))
    ∙ ap (λ (e : Edit). Some e) (edit-parts now before after stay end front back)
    ∙ (λ i. Some (edit_of (c.in_ok-before.ensures i) (c.in_ok-after.ensures i)))
    ∙ ap (λ (b : Bool). if b then None else Some made) (sym c.if-eq.false ∙ c.eq.ensures))
