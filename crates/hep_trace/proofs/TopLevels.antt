-- What a machine keeps of the top activation of a process, by the level that is found.
use Rattle.std.proofs.Common.{◌≡◌, ℕ, ◌<◌, List, length, Some, refl, sym, ap, ◌∙◌, subst, IsSome}
use Rattle.std.proofs.lemmas.Option.{same_Some}
use Rattle.hep_layout.specs.Words.{FrameNode}
use Rattle.hep_machine.specs.Words.{Level, Process, Units, living, run, unit_of}
use Rattle.hep_proc.specs.Nodes.{nodes_of}
use Rattle.hep_proc.specs.declared.process.Local.{Local}
use Rattle.hep_state.specs.declared.core_state.CoreState.{CoreState}
use Rattle.hep_state.specs.Words.{HasLevels, IsMachineAfter, snapshot_of}
use Rattle.hep_views.proofs.WaitingPlaces.{IsTop, living-top}

-- a level that is the top one of all that a machine keeps of a process
abbrev pub IsTopLevel : CoreState → ℕ → Local → Type 0
IsTopLevel m p l = (levels : HasLevels (snapshot_of m) p) → l ≡ levels.level

module _ {program : Units} {cells : ℕ} {choices : List ℕ} {m : CoreState} {p : ℕ} {top : Level × Process} (after : IsMachineAfter program cells choices m) (lives : living (run program choices) p ≡ Some top) (l : Local) (is : IsTopLevel m p l) where
  kept : IsTop program (run program choices) m p top
  kept =
      let it = living-top program cells choices m after p (subst IsSome (sym lives) refl) in
      subst (IsTop program (run program choices) m p) (same_Some it.top top (sym it.lives ∙ lives)) it.is_top

  pub inside : l.unit < length program
  inside = subst (λ (k : Local). k.unit < length program) (sym (is kept.levels)) kept.inside

  pub unit : unit_of (run program choices) top.0.activation ≡ l.unit
  unit = kept.unit ∙ sym (ap (λ (k : Local). k.unit) (is kept.levels))

  pub there : (n : FrameNode) × (nodes_of m.frames.nodes l.key ≡ Some n) × (top.0.activation ≡ n.activation)
  there = (kept.there.0, ap (λ (k : Local). nodes_of m.frames.nodes k.key) (is kept.levels) ∙ kept.there.1, kept.there.2)
