-- What each turn of a history changes in the text of what everything holds: docs/page/README.md.
use Rattle.std.specs.Prelude.{ℕ, List, [], ◌∷◌, ◌++◌, codes, Option}
use Rattle.std.specs.List.{flat_map}
use Rattle.hep_page.specs.Edits.{Edit, edit_between, edit_text, text_after}
use Rattle.hep_machine.specs.declared.event.Entry.{Entry}
use Rattle.hep_machine.specs.Words.{Progress, Units, blocks_of, progress_after, progress_after_entry}
use Rattle.hep_page.specs.declared.state_view.Parts.{Parts}
use Rattle.hep_replay.specs.Replays.{single_entries}
use Rattle.hep_state_text.specs.States.{activations_text, block_text, processes_text}

-- the parts of the text of what everything holds: the lines of processes, of common blocks and of activations
pub record PartTexts : Type 0 where
  pub processes : List ℕ
  pub common : List ℕ
  pub activations : List ℕ

-- one after the other
abbrev pub parts_text : PartTexts → List ℕ
parts_text parts = parts.processes ++ parts.common ++ parts.activations

-- as a vector each
abbrev pub texts_of : Parts → PartTexts
texts_of parts = record { processes = parts.processes.items; common = parts.common.items; activations = parts.activations.items }

-- the edit of each part that differs
pub record Change : Type 0 where
  pub processes : Option Edit
  pub common : Option Edit
  pub activations : Option Edit

abbrev pub change_between : PartTexts → PartTexts → Change
change_between old new = record {
  processes = edit_between old.processes new.processes;
  common = edit_between old.common new.common;
  activations = edit_between old.activations new.activations;
}

abbrev pub parts_after : Change → PartTexts → PartTexts
parts_after change parts = record {
  processes = text_after change.processes parts.processes;
  common = text_after change.common parts.common;
  activations = text_after change.activations parts.activations;
}

-- changes one after the other
abbrev pub parts_after_all : List Change → PartTexts → PartTexts
parts_after_all [] parts = parts
parts_after_all (c ∷ cs) parts = parts_after_all cs (parts_after c parts)

-- a change has a line of its own before its edits
abbrev pub change_text : Change → List ℕ
change_text change =
    codes "=\n" ++ edit_text (codes "P") change.processes ++ edit_text (codes "B") change.common ++ edit_text (codes "A") change.activations

-- of a program, where lines of the source are shown so
module _ (program : Units) (shown : ℕ → List ℕ) where
  abbrev pub parts_of : Progress → PartTexts
  parts_of x = record {
    processes = processes_text program x.state shown x.listed 1 x.state.processes;
    common = flat_map (block_text program x.state) (blocks_of program);
    activations = activations_text program x.state 1 x.state.activations;
  }

  -- what each of these entries changes, from what is known before them
  abbrev pub changes_from : Progress → List Entry → List Change
  changes_from x [] = []
  changes_from x (e ∷ es) =
      change_between (parts_of x) (parts_of (progress_after_entry program x e e.steps))
      ∷ changes_from (progress_after_entry program x e e.steps) es

  -- what each turn of entries changes, after others
  abbrev pub changes_text : List Entry → List Entry → List ℕ
  changes_text before entries = flat_map change_text (changes_from (progress_after program before) (single_entries entries))
