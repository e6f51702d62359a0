use Rattle.std.proofs.Common.{◌≡◌, ◌++◌, ◌∷◌, ◌∙◌, [], IfNone, IfSome, List, OnOk, Some, ap, false, rules, subst, sym}
use Rattle.std.specs.Option.{option_map}
use Rattle.std.specs.Result.{result_ok}
use Rattle.std.proofs.lemmas.List.Sorted.{answers_always}
use Rattle.std.proofs.lemmas.Option.{same_Some, slice_get-get_or, slice_get-map}
use Rattle.hep_machine.specs.Words.{is_number_among}
use Rattle.hep_blocked.specs.Numbers.{AreRising}
use Rattle.hep_proc.specs.Nodes.{nodes_of}
use Rattle.hep_proc.specs.Stacks.{Stack}
use Rattle.hep_proc.specs.declared.process.Process.{Process}
use Rattle.hep_state.specs.Words.{IsPlaceOf, numbers_of}
use Rattle.hep_state.proofs.ProcessNumbers.{stack-absent, stack-found}
use Rattle.hep_state.proofs.Searching.{searched-found, searched-none}
use Rattle.hep_explore.specs.Contents.{held_stack}
use Rattle.hep_explore.specs.Keys.{stack_words}
use Rattle.hep_explore.proofs.AppendedItems.{if_appended}
use Rattle.hep_explore.proofs.KeyReading.{have-nodes}
use Rattle.hep_explore.proofs.key_processes.append_numbered.Goals as goal

pub append_process-requires : goal.append_process-requires
append_process-requires c =
    let m = c.args.machine.now in
    let qs = m.processes.items in
    let list = c.deref.ensures.value in
    let rising = subst (λ (qs : List Process). AreRising 1 m.made (numbers_of qs)) (sym list) c.requires.1.2.numbers in
    let facts = c.binary_search_by_key-found.ensures in
    let by_number = facts.position (λ q. q.number) (answers_always _ _ _ (λ f a r g called. search rules)) in
    let found = searched-found c.deref.result.now m.made c.args.p rising c.binary_search_by_key-found.result facts.bound by_number in
    let among = subst (λ o. IfSome (result_ok o) (IsPlaceOf c.deref.result.now c.args.p)) c.in-Ok.is found in
    let place = subst (λ (qs : List Process). IsPlaceOf qs c.args.p c.in-Ok.at) list among in
    let q : Process = c.index.result.now in
    let there = slice_get-get_or qs c.in-Ok.at q place.inside ∙ ap (λ z. Some z) (sym c.index.ensures) in
    have-nodes c.requires.0 c.requires.1.0 c.requires.1.1 m c.requires.1.2 c.in-Ok.at q there

pub returns-in-Ok : goal.returns-in-Ok
returns-in-Ok c =
    let m = c.args.machine.now in
    let qs = m.processes.items in
    let list = c.deref.ensures.value in
    let rising = subst (λ (qs : List Process). AreRising 1 m.made (numbers_of qs)) (sym list) c.requires.1.2.numbers in
    let facts = c.binary_search_by_key-found.ensures in
    let by_number = facts.position (λ q. q.number) (answers_always _ _ _ (λ f a r g called. search rules)) in
    let found = searched-found c.deref.result.now m.made c.args.p rising c.binary_search_by_key-found.result facts.bound by_number in
    let among = subst (λ o. IfSome (result_ok o) (IsPlaceOf c.deref.result.now c.args.p)) c.in-Ok.is found in
    let place = subst (λ (qs : List Process). IsPlaceOf qs c.args.p c.in-Ok.at) list among in
    let q : Process = c.index.result.now in
    let there = slice_get-get_or qs c.in-Ok.at q place.inside ∙ ap (λ z. Some z) (sym c.index.ensures) in
    let number =
    same_Some q.number c.args.p (
    sym (ap (option_map (λ (q : Process). q.number)) there) ∙ sym (slice_get-map (λ (q : Process). q.number) qs c.in-Ok.at)
    ∙ place.number)
    in
    let kept = stack-found c.args.p 1 m.made qs c.in-Ok.at q c.requires.1.2.numbers there number in
    subst (λ (k : Stack). OnOk c.append_process.result (c.append_process.new.words.items
    ≡ c.args.words.now.items ++ stack_words (held_stack (nodes_of m.frames.nodes) k))) (sym kept) c.append_process.ensures

pub returns-in-Err : goal.returns-in-Err
returns-in-Err c =
    let m = c.args.machine.now in
    let qs = m.processes.items in
    let list = c.deref.ensures.value in
    let rising = subst (λ (qs : List Process). AreRising 1 m.made (numbers_of qs)) (sym list) c.requires.1.2.numbers in
    let facts = c.binary_search_by_key-found.ensures in
    let by_number = facts.position (λ q. q.number) (answers_always _ _ _ (λ f a r g called. search rules)) in
    let absent = searched-none c.deref.result.now m.made c.args.p rising c.binary_search_by_key-found.result facts.bound by_number in
    let other =
    subst (λ o. IfNone (result_ok o) (is_number_among c.args.p (numbers_of c.deref.result.now) ≡ false)) c.in-Err.is absent
    in
    let none = subst (λ (qs : List Process). is_number_among c.args.p (numbers_of qs) ≡ false) list other in
    let words = c.args.words.now.items in
    let nothing = 0 ∷ 0 ∷ 0 ∷ [] in
    let same =
    ap (λ (k : Stack). words ++ stack_words (held_stack (nodes_of m.frames.nodes) k)) (sym (stack-absent c.args.p qs none))
    in
    if_appended c.extend_from_slice.result c.extend_from_slice.new.self.items words nothing _ c.extend_from_slice.ensures.items same
