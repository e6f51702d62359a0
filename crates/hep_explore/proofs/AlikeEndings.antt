-- States that the same machine keeps end in the same way.
use Rattle.std.proofs.Common.{◌≡◌, inl, inr, ℕ, zero, suc, ◌-◌, ◌+◌, ◌&&◌, List, [], ◌∷◌, ◌++◌, drop, map, Option}
use Rattle.std.proofs.Common.{Some, None, refl, sym, ap, ◌∙◌, if◌then◌else◌, nat_le, nat_lt}
use Rattle.std.specs.Option.{option_and_then, option_map, option_or}
use Rattle.std.proofs.lemmas.Bool.{cases_Bool}
use Rattle.std.proofs.lemmas.List.{map-append}
use Rattle.std.proofs.lemmas.Option.{none-some, same_Some}
use Rattle.hep_machine.specs.Words.{BlockName, Location, Name, ProcessView, State, Units, Value, View, Wanted, common, common_cells}
use Rattle.hep_machine.specs.Words.{is_held, local, run, unit_at, view_of}
use Rattle.hep_machine.specs.Views.{process_views_from}
use Rattle.hep_code.specs.Words.{line_ahead}
use Rattle.hep_layout.specs.Words.{FrameNode, FramePart, argument, bounds, common_row, header, iteration, owner_in, frame_row, variable}
use Rattle.hep_step.specs.Effects.{Effect, answers, fails, left_out, moves, prints, returns, stops, waits}
use Rattle.hep_proc.specs.declared.process.Local.{Local}
use Rattle.hep_proc.specs.Stacks.{Stack}
use Rattle.hep_step.specs.Simulation.{unit_arrays, unit_code}
use Rattle.hep_state.specs.Words.{IsAfter, Snapshot, node_under}
use Rattle.hep_views.specs.MachineViews.{machine_view, process_seen, processes_seen}
use Rattle.hep_views.specs.Nodes.{node_of}
use Rattle.hep_views.specs.SeenWaits.{effect_behind, unit_among, unit_in_common, unit_kept_at, unit_of_block, unit_of_part, unit_under}
use Rattle.hep_views.specs.SeenWaits.{wanted_for, wanted_on}
use Rattle.hep_views.proofs.Nodes.{unit-at}
use Rattle.hep_explore.specs.Endings.{blocked_of, ending_of, owner_of}

-- ---- the variable in a cell is one of an activation that is held

-- a position in COMMON is none
local-differs : {A : Type 0} (o : Option (BlockName × ℕ)) (a : ℕ) (x : Name) (i : ℕ) → unit_of_block o ≡ Some (local a x i) → A
local-differs None a x i e = absurd (none-some (local a x i) e)
local-differs (Some (b, k)) a x i e = let same : common b (suc k) ≡ local a x i = same_Some (common b (suc k)) (local a x i) e in absurd cc

-- it is one of the activation in whose frame the cell is
number-of : (a : ℕ) (o : Option (FramePart × ℕ)) (b : ℕ) (x : Name) (i : ℕ) → unit_of_part a o ≡ Some (local b x i) → a ≡ b
number-of a None b x i e = absurd (none-some (local b x i) e)
number-of a (Some (header, k)) b x i e = absurd (none-some (local b x i) e)
number-of a (Some (bounds y, k)) b x i e = absurd (none-some (local b x i) e)
number-of a (Some (iteration k, j)) b x i e = absurd (none-some (local b x i) e)
number-of a (Some (argument y, zero)) b x i e = let same : local a y 1 ≡ local b x i = same_Some (local a y 1) (local b x i) e in cc
number-of a (Some (argument y, suc k)) b x i e = absurd (none-some (local b x i) e)
number-of a (Some (variable y, k)) b x i e =
    let same : local a y (suc k) ≡ local b x i = same_Some (local a y (suc k)) (local b x i) e in
    cc

module _ (program : Units) (m : Snapshot) where
  abbrev HasNode : ℕ → Type 0
  HasNode a = (n : FrameNode) × (node_of m a ≡ Some n)

  under-number : (cell a : ℕ) (n : FrameNode) (b : ℕ) (x : Name) (i : ℕ) → unit_under program cell a (Some n) ≡ Some (local b x i) → a ≡ b
  under-number cell a n b x i e = elim (cases_Bool (nat_le n.first cell && nat_lt cell (n.first + n.cells))) [
    | inl within ↦
        let o = owner_in (frame_row (unit_at program n.unit)) (cell - n.first) in
        number-of a o b x i (sym (ap (λ t. if t then unit_of_part a o else None) within) ∙ e)
    | inr outside ↦
        let o = owner_in (frame_row (unit_at program n.unit)) (cell - n.first) in
        absurd (none-some (local b x i) (sym (ap (λ t. if t then unit_of_part a o else None) outside) ∙ e))
  ]

  among-node : (cell a n : ℕ) (b : ℕ) (x : Name) (i : ℕ) → unit_among program m cell a n ≡ Some (local b x i) → HasNode b
  among-node cell a zero b x i e = absurd (none-some (local b x i) e)
  among-node cell a (suc n) b x i e = by_node (among-node cell (suc a) n b x i) (node_of m a) refl e where
    by_unit : (z : FrameNode) → node_of m a ≡ Some z → (o : Option Location) → unit_under program cell a (Some z) ≡ o
        → (unit_among program m cell (suc a) n ≡ Some (local b x i) → HasNode b)
        → option_or o (unit_among program m cell (suc a) n) ≡ Some (local b x i) → HasNode b
    by_unit z is None under rest h = rest h
    by_unit z is (Some at) under rest h =
        let number = under-number cell a z b x i (under ∙ h) in
        (z, ap (node_of m) (sym number) ∙ is)

    by_node : (unit_among program m cell (suc a) n ≡ Some (local b x i) → HasNode b) → (o : Option FrameNode) → node_of m a ≡ o
        → option_or (unit_under program cell a o) (unit_among program m cell (suc a) n) ≡ Some (local b x i) → HasNode b
    by_node rest None is h = rest h
    by_node rest (Some z) is h = by_unit z is (unit_under program cell a (Some z)) refl rest h

  kept-node : (cell b : ℕ) (x : Name) (i : ℕ) → unit_kept_at program m cell ≡ Some (local b x i) → HasNode b
  kept-node cell b x i e = elim (cases_Bool (nat_lt cell (common_cells program))) [
    | inl low ↦
        let c = sym (ap (λ t. if t then unit_in_common program cell else unit_among program m cell 1 m.activations) low) ∙ e in
        local-differs (owner_in (common_row program) cell) b x i c
    | inr high ↦
        let c = sym (ap (λ t. if t then unit_in_common program cell else unit_among program m cell 1 m.activations) high) ∙ e in
        among-node cell 1 m.activations b x i c
  ]

  -- where what is waited for is one of an activation, this has a node
  wanted-node : (e : Effect) (w : Wanted) (b : ℕ) (x : Name) (i : ℕ) → wanted_for program m e ≡ Some w → w.at ≡ local b x i → HasNode b
  wanted-node (waits cell full) w b x i e is = by_unit (unit_kept_at program m cell) refl e where
    by_unit : (o : Option Location) → unit_kept_at program m cell ≡ o
        → option_map (λ at. record { at = at; full = full }) o ≡ Some w → HasNode b
    by_unit None there h = absurd (none-some w h)
    by_unit (Some at) there h =
        let same = same_Some (record { at = at; full = full }) w h in
        kept-node cell b x i (there ∙ ap (λ z. Some z) (ap (λ (v : Wanted). v.at) same ∙ is))
  wanted-node (moves contents operands index) w b x i e is = absurd (none-some w e)
  wanted-node (prints items index) w b x i e is = absurd (none-some w e)
  wanted-node (fails line kind) w b x i e is = absurd (none-some w e)
  wanted-node returns w b x i e is = absurd (none-some w e)
  wanted-node (answers v) w b x i e is = absurd (none-some w e)
  wanted-node stops w b x i e is = absurd (none-some w e)
  wanted-node left_out w b x i e is = absurd (none-some w e)

  -- ---- two states

  module _ (cells : ℕ) (before turns : List ℕ) (h : IsAfter program cells before m) (k : IsAfter program cells turns m) where
    abbrev s : State
    s = run program before

    abbrev t : State
    t = run program turns

    owner-same : (at : Location) → ((b : ℕ) (x : Name) (i : ℕ) → at ≡ local b x i → HasNode b) → owner_of s at ≡ owner_of t at
    owner-same (common b i) node = refl
    owner-same (local b x i) node =
        let there = node b x i refl in
        ap (λ u. Some u) (
        sym (unit-at program cells before m h b there.0 there.1) ∙ unit-at program cells turns m k b there.0 there.1)

    blocked-same : (v : ProcessView) (e : Effect) → v.wanted ≡ wanted_for program m e → blocked_of s v ≡ blocked_of t v
    blocked-same v e is = λ i. record { view = v; owner = by_wanted v.wanted refl i } where
      by_wanted : (o : Option Wanted) → v.wanted ≡ o
          → option_and_then (λ (w : Wanted). owner_of s w.at) o ≡ option_and_then (λ (w : Wanted). owner_of t w.at) o
      by_wanted None there = refl
      by_wanted (Some w) there = owner-same w.at (λ b x i same. wanted-node e w b x i (sym is ∙ there) same)

    process-same : (p : ℕ) (ls : List Local) (operands : List Value)
        → map (blocked_of s) (process_seen program m p ls operands) ≡ map (blocked_of t) (process_seen program m p ls operands)
    process-same p [] operands = refl
    process-same p (l ∷ ls) operands =
        let code = unit_code program l.unit in
        let first = (node_under m.nodes l.key).first in
        let e : Effect =
        effect_behind code (unit_arrays program l.unit) first m.arena.contents (drop l.index code) operands l.index
        in
        let v : ProcessView =
        record { process = p; unit = l.unit; line = line_ahead (drop l.index code); wanted = wanted_on program m l operands }
        in
        λ i. blocked-same v e refl i ∷ []

    all-same : (p : ℕ) (ks : List Stack)
        → map (blocked_of s) (processes_seen program m p ks) ≡ map (blocked_of t) (processes_seen program m p ks)
    all-same p [] = refl
    all-same p (q ∷ ks) =
        map-append (blocked_of s) (process_seen program m p q.levels q.operands) (processes_seen program m (suc p) ks)
        ∙ (λ i. process-same p q.levels q.operands i ++ all-same (suc p) ks i)
        ∙ sym (map-append (blocked_of t) (process_seen program m p q.levels q.operands) (processes_seen program m (suc p) ks))

    module _ (seen : machine_view program m ≡ view_of program is_held s) (too : machine_view program m ≡ view_of program is_held t) where
      views : (z : State) → machine_view program m ≡ view_of program is_held z
          → process_views_from program z 1 z.processes ≡ processes_seen program m 1 m.processes
      views z e = sym (ap (λ (v : View). v.processes) e)

      blocked : map (blocked_of s) (process_views_from program s 1 s.processes)
          ≡ map (blocked_of t) (process_views_from program t 1 t.processes)
      blocked = ap (map (blocked_of s)) (views s seen) ∙ all-same 1 m.processes ∙ ap (map (blocked_of t)) (sym (views t too))

      pub ends-alike : ending_of program s ≡ ending_of program t
      ends-alike =
          let same = sym seen ∙ too in
          λ i. record {
            records = (same i).records;
            faults = (same i).faults;
            halted = (same i).halted;
            blocked = if (same i).halted then [] else blocked i;
          }
