use Rattle.std.proofs.Common.{◌≡◌, List, ℕ, ◌∙◌, ◌-◌, ap, drop, length}
use Rattle.std.proofs.lemmas.Result.{IfOk-weaker}
use Rattle.hep_replay.specs.HistoryPrefix.{first_of}
use Rattle.hep_state_text.specs.LineDisplay.{line_shown}
use Rattle.hep_state_text.specs.States.{state_text}
use Rattle.hep_page.specs.ChangeLogs.{turns_text}
use Rattle.hep_page.specs.Pages.{entries_before, page_text}
use Rattle.hep_page.proofs.PagesOfCores.{core-next, page-told, standing-again}
use Rattle.hep_page.proofs.run_page.page_again.Goals as goal

pub turn_texts-requires-clause-next : goal.turn_texts-requires-clause-next
turn_texts-requires-clause-next c =
    let core = c.args.core.now.core in
    let shown = c.args.shown.now in
    core-next core c.in_ok-again.again.core (shown.first - 1) (first_of shown.entries) c.requires.replayed.made c.in_ok-again.ensures c.requires.possible

pub turn_texts-requires-clause-standing : goal.turn_texts-requires-clause-standing
turn_texts-requires-clause-standing c =
    let core = c.args.core.now.core in
    let shown = c.args.shown.now in
    standing-again c.in_ok-again.again.core core.program core.cells (entries_before shown.first (first_of shown.entries)) c.in_ok-again.ensures

pub returns : goal.returns
returns c =
    let core = c.args.core.now.core in
    let shown = c.args.shown.now in
    let entries = first_of shown.entries in
    let again = c.in_ok-again.again.core in
    let left = drop (length again.history) core.history in
    let count = c.len-before.ensures.count ∙ ap length c.entries_before.ensures in
    IfOk-weaker c.page_of.result _ (λ page. page.items ≡ page_text c.args.source.now core.program shown.first entries) (λ page told.
    told ∙ page-told core again entries shown.first c.args.source.now _ _ c.requires.replayed.made c.in_ok-again.ensures c.page_template.ensures
    (c.deref.ensures.value ∙ c.in_ok-source.ensures)
    (c.deref-2.ensures.value ∙ c.in_ok-turns.ensures.opening
    ∙ (λ i. state_text (line_shown (c.in_ok-unshown.ensures i)) core.program (count i) again.history))
    (c.deref-3.ensures.value ∙ c.in_ok-trace.ensures)
    (c.deref-4.ensures.value ∙ c.in_ok-turns.ensures.changes
    ∙ ap (λ (rows : List (List ℕ)). turns_text core.program (line_shown rows) again.history left) c.in_ok-unshown.ensures)) c.page_of.ensures
