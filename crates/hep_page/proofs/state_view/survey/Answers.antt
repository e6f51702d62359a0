use Rattle.std.proofs.Common.{◌≡◌, ◌++◌, ◌∙◌, ℕ, List, ap, sym}
use Rattle.std.specs.List.{flat_map}
use Rattle.hep_core.proofs.Histories.{progress-state}
use Rattle.hep_core.specs.CoreValues.{state_of}
use Rattle.hep_machine.specs.Words.{State, Units, blocks_of, progress_after}
use Rattle.hep_state_text.specs.LineDisplay.{line_shown}
use Rattle.hep_state_text.specs.States as words
use Rattle.hep_page.proofs.StateViews.{after-history}
use Rattle.hep_page.proofs.state_view.survey.Goals as goal

pub returns : goal.returns
returns c =
    let core = c.args.core.now.core in
    let program = core.program in
    let s = state_of core in
    let shown = line_shown c.args.known.now.lines.now in
    let listed = (progress_after program core.history).listed in
    let state = sym (progress-state program core.history) in
    let m = c.machine-machine.result.now in
    let image = c.image.result.now in
    let common = c.append_common.new.text.items in
    let activations = c.append_activations.new.text.items in
    λ i. record {
      processes = (c.in_ok-append_processes.ensures
          ∙ ap (λ (xs : List ℕ). xs ++ words.processes_text program s shown listed 1 s.processes) c.new-processes.ensures.items
          ∙ ap (λ (t : State). words.processes_text program t shown listed 1 t.processes) state) i;
      common = (after-history program image core.history core.cells m (λ (us : Units) (t : State). common ≡ c.new-common.result.items ++ flat_map (words.block_text us t) (blocks_of us))
          c.image.ensures c.machine-machine.ensures.after c.in_ok-append_common.ensures
          ∙ ap (λ (xs : List ℕ). xs ++ flat_map (words.block_text program s) (blocks_of program)) c.new-common.ensures.items
          ∙ ap (λ (t : State). flat_map (words.block_text program t) (blocks_of program)) state) i;
      activations = (after-history program image core.history core.cells m
          (λ (us : Units) (t : State). activations ≡ c.new-activations.result.items ++ words.activations_text us t 1 t.activations)
          c.image.ensures c.machine-machine.ensures.after c.in_ok-append_activations.ensures
          ∙ ap (λ (xs : List ℕ). xs ++ words.activations_text program s 1 s.activations) c.new-activations.ensures.items
          ∙ ap (λ (t : State). words.activations_text program t 1 t.activations) state) i;
    }
