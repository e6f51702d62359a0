use Rattle.std.proofs.Common.{◌≡◌, ◌<◌, ◌≤◌, ◌++◌, ◌∙◌, ℕ, suc, List, Option, None, Some, ap, sym, subst, length, slice_get, get_or, append-nil, arith, is_some}
use Rattle.std.proofs.lemmas.List.{drop_all}
use Rattle.std.proofs.lemmas.Option.{slice_get-get_or}
use Rattle.hep_machine.specs.Words.{Activation, run}
use Rattle.hep_state_text.specs.Frames.{held_frame, IsHeldIfAny, IsTextOfHeld}
use Rattle.hep_state_text.specs.States as words
use Rattle.hep_state_text.specs.declared.activation_lines.HeldFrame.{HeldFrame}
use Rattle.hep_state_text.proofs.FrameLines.{each-held, text-next}
use Rattle.hep_state_text.proofs.activation_lines.append_activations.Goals as goal

pub append_held-requires : goal.append_held-requires
append_held-requires c =
    let m = c.args.machine.now in
    let storage = c.args.storage.now in
    let list = c.deref-key-items.result.now in
    let keys = c.in_ok-keys.keys.items in
    let stacked = c.in_ok-stacked.stacked.items in
    let i = c.loop-index.index in
    let key = get_or list i None in
    let own = c.index.result.now in
    let value = c.deref-key-items.ensures.value in
    let are = c.in_ok-keys.ensures in
    let on = c.in_ok-stacked.ensures in
    let at : slice_get keys i ≡ Some key = ap (λ (xs : List (Option ℕ)). slice_get xs i) (sym value) ∙ slice_get-get_or list i None c.loop-index-test.true in
    let less : i < length stacked = omega (arith, c.loop-index-test.true, ap length value, are.count, on.count) in
    let stacked_at : slice_get stacked i ≡ Some own = slice_get-get_or stacked i own less ∙ ap (λ (o : Option ℕ). Some o) (sym c.index.ensures) in
    let accepted = c.is_runnable.ensures.accepted in
    let main = c.is_runnable.ensures.main in
    let held : c.held_frame-held.result ≡ held_frame key (is_some own) = c.held_frame-held.ensures ∙ ap (held_frame key) c.is_some.ensures in
    let choices = c.requires.after.1 in
    subst (IsHeldIfAny storage m) (sym held) (
    each-held storage m c.requires.storage c.requires.after.0 choices c.requires.after.2 accepted main (λ a. c.dummies_are_those_of_units.ensures storage.image.now choices a accepted main)
    keys stacked are on i key own at stacked_at)

pub loop-index-preserved : goal.loop-index-preserved
loop-index-preserved c cells choices h =
    let m = c.args.machine.now in
    let storage = c.args.storage.now in
    let list = c.deref-key-items.result.now in
    let keys = c.in_ok-keys.keys.items in
    let stacked = c.in_ok-stacked.stacked.items in
    let i = c.loop-index.index in
    let key = get_or list i None in
    let own = c.index.result.now in
    let value = c.deref-key-items.ensures.value in
    let are = c.in_ok-keys.ensures in
    let on = c.in_ok-stacked.ensures in
    let at : slice_get keys i ≡ Some key = ap (λ (xs : List (Option ℕ)). slice_get xs i) (sym value) ∙ slice_get-get_or list i None c.loop-index-test.true in
    let less : i < length stacked = omega (arith, c.loop-index-test.true, ap length value, are.count, on.count) in
    let stacked_at : slice_get stacked i ≡ Some own = slice_get-get_or stacked i own less ∙ ap (λ (o : Option ℕ). Some o) (sym c.index.ensures) in
    let accepted = c.is_runnable.ensures.accepted in
    let main = c.is_runnable.ensures.main in
    let held : c.held_frame-held.result ≡ held_frame key (is_some own) = c.held_frame-held.ensures ∙ ap (held_frame key) c.is_some.ensures in
    let s = run storage.image.now choices in
    let few : i < length s.activations = omega (arith, c.loop-index-test.true, ap length value, are.count, h.after.shows.activations) in
    text-next storage m c.requires.storage cells choices h accepted main (λ a. c.dummies_are_those_of_units.ensures storage.image.now choices a accepted main)
    keys stacked are on i key own at stacked_at c.loop-index.text.items c.append_held.new.text.items few
    (subst (λ (o : Option HeldFrame). IsTextOfHeld storage m o c.loop-index.text.items c.append_held.new.text.items) held c.in_ok-append_held.ensures)
    ∙ c.loop-index.invariant cells choices h

pub returns : goal.returns
returns c cells choices h =
    let program = c.args.storage.now.image.now in
    let s = run program choices in
    let i = c.loop-index.index in
    let are = c.in_ok-keys.ensures in
    let few : length s.activations ≤ i = omega (arith, c.loop-index-test.false, ap length c.deref-key-items.ensures.value, are.count, h.after.shows.activations) in
    sym (append-nil c.loop-index.text.items)
    ∙ ap (λ (xs : List Activation). c.loop-index.text.items ++ words.activations_text program s (suc i) xs) (sym (drop_all i s.activations few))
    ∙ c.loop-index.invariant cells choices h
