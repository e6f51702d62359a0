-- The cell of a storage unit that is sought tells its place.
use Rattle.std.proofs.Common.{◌≡◌, inl, inr, ◌⊎◌, ℕ, zero, suc, ◌+◌, ◌-◌, ◌<◌, ◌≤◌, true, List, length, Option, Some, None, refl, sym, ap, ◌∙◌, subst, arith, IsSome, is_some}
use Rattle.std.proofs.lemmas.Option.{none-some, same_Some, slice_get_within}
use Rattle.slab.specs.Slab.{get}
use Rattle.hep_machine.specs.Words.{Name, Statement, Units, dummies_of, main_among, unit_at, BlockName, Layout, common_cells, frame_of, is_held, parent_of, unit_of, run, Location, State, common, local}
use Rattle.hep_machine.proofs.Ages.{run_older}
use Rattle.hep_conditions.specs.Words.{IsAccepted}
use Rattle.hep_accepted_laws.proofs.NameMeanings.{dummies_once}
use Rattle.hep_layout.specs.Words.{IsLaid, address, IsOwnedAbove, FramePart, argument, common_row, frame_row, owner_in, variable, FrameNode, is_stacked}
use Rattle.hep_layout.proofs.Frames.{among}
use Rattle.hep_image.specs.Image.{most_cells}
use Rattle.hep_image.specs.Owners.{IsBlockTold, IsTold}
use Rattle.hep_image.proofs.BlockOwners.{tells_block}
use Rattle.hep_image.proofs.FrameOwners.{tells_argument, tells_variable}
use Rattle.hep_proc.specs.Nodes.{nodes_of}
use Rattle.hep_proc.proofs.Slabs.{some-value}
use Rattle.hep_accepted_laws.proofs.Closed.{units-there}
use Rattle.hep_state.specs.declared.core_state.CoreState.{CoreState}
use Rattle.hep_views.specs.SeenWaits.{unit_in_frame, unit_of_block, unit_of_part}
use Rattle.hep_views.proofs.Cells.{common-told, frame-told}
use Rattle.hep_views.specs.declared.place.Place.{Place}
use Rattle.hep_views.specs.ListedProcesses.{block_place, place_of, variable_place}
use Rattle.hep_views.specs.CellOwners.{IsSought, holder_above}
use Rattle.hep_views.proofs.Holders.{IsHolder, framed-so, holder-found}
use Rattle.hep_code.specs.Sources.{IsNamedOnce}

-- ---- COMMON

block-unit : (o : Option (BlockName × ℕ)) (b : BlockName) (i : ℕ) → unit_of_block o ≡ Some (common b i) → (j : ℕ) × (i ≡ suc j) × (o ≡ Some (b, j))
block-unit None b i e = absurd (none-some (common b i) e)
block-unit (Some (d, j)) b i e =
    let same : common d (suc j) ≡ common b i = same_Some (common d (suc j)) (common b i) e in
    let block : d ≡ b = cc in
    let index : suc j ≡ i = cc in
    (j, sym index, λ k. Some (block k, j))

-- ---- frames

-- a part of a frame that is a storage unit of its activation
part-unit : (a : ℕ) (o : Option (FramePart × ℕ)) (x : Name) (i : ℕ) → unit_of_part a o ≡ Some (local a x i)
    → (j : ℕ) × (i ≡ suc j) × ((o ≡ Some (variable x, j)) ⊎ (o ≡ Some (argument x, j)))
part-unit a (Some (variable y, j)) x i e =
    let same : local a y (suc j) ≡ local a x i = same_Some (local a y (suc j)) (local a x i) e in
    let name : y ≡ x = cc in
    let index : suc j ≡ i = cc in
    (j, sym index, inl (λ k. Some (variable (name k), j)))
part-unit a (Some (argument y, zero)) x i e =
    let same : local a y 1 ≡ local a x i = same_Some (local a y 1) (local a x i) e in
    let name : y ≡ x = cc in
    let index : 1 ≡ i = cc in
    (0, sym index, inr (λ k. Some (argument (name k), 0)))
part-unit a _ x i e = absurd (none-some (local a x i) e)

-- the variable that is found by a cell of a frame
pub variable-told : (a : ℕ) (unit : List Statement) (n : ℕ) (x : Name) (i : ℕ) → IsNamedOnce (dummies_of unit)
    → unit_in_frame a unit n ≡ Some (local a x i) → (j : ℕ) × (i ≡ suc j) × IsTold unit n x j
variable-told a unit n x i once e =
    let p = part-unit a (owner_in (frame_row unit) n) x i e in
    elim p.2 [
      | inl own ↦ (p.0, p.1, tells_variable unit x p.0 n own)
      | inr own ↦ (p.0, p.1, tells_argument unit x p.0 n once own)
    ]

-- ---- what is sought

module _ (program : Units) (cells : ℕ) (choices : List ℕ) (m : CoreState) (key cell : ℕ) (at : Location) (h : IsSought program cells choices m key cell at) where
  abbrev s : State
  s = run program choices

  abbrev layout : Layout
  layout = h.after.layout

  laid : IsLaid program s (length m.frames.arena.contents) layout
  laid = h.after.shows.keeps.memory.laid

  -- of COMMON
  pub record IsInCommon : Type 0 where
    pub block : BlockName
    pub index : ℕ
    pub is : at ≡ common block (suc index)
    pub told : IsBlockTold program cell block index

  pub in-common : cell < common_cells program → IsInCommon
  in-common front = by_place at refl h.kept where
    by_place : (o : Location) → at ≡ o → address program s layout o ≡ Some cell → IsInCommon
    by_place (common b i) is kept =
        let unit = block-unit (owner_in (common_row program) cell) b i (common-told program s layout b i cell kept).1 in
        record {
          block = b;
          index = unit.0;
          is = is ∙ ap (λ n. common b n) unit.1;
          told = tells_block program b unit.0 cell unit.2;
        }
    by_place (local a x i) is kept =
        absurd (
        let told = frame-told program s layout a i cell x kept in
        let place = among (length m.frames.arena.contents) (common_cells program) a layout told.0 laid.apart told.1 in
        omega (arith, front, told.2, place.behind))

  -- its place
  pub common-place : (f : IsInCommon) (result : Place) → result ≡ block_place program f.block (f.index + 1) → result ≡ place_of program s at
  common-place f result is =
      let next : f.index + 1 ≡ suc f.index = omega arith in
      is ∙ (ap (block_place program f.block) next ∙ sym (ap (place_of program s) f.is))

  -- of an activation
  pub record IsInFrame : Type 0 where
    pub owner : ℕ
    pub name : Name
    pub index : ℕ
    pub is : at ≡ local owner name index
    pub holder : IsHolder (nodes_of m.frames.nodes) cell m.activations key owner
    pub unit : holder.node.unit ≡ unit_of s owner
    pub made : (1 ≤ owner) × (owner ≤ length s.activations)
    pub behind : holder.node.first ≤ cell
    pub few : cell < most_cells
    pub told : unit_in_frame owner (unit_at program (unit_of s owner)) (cell - holder.node.first) ≡ Some (local owner name index)

  pub in-frame : common_cells program ≤ cell → IsInFrame
  in-frame back = by_place at refl h.kept h.owned where
    by_place : (o : Location) → at ≡ o → address program s layout o ≡ Some cell → IsOwnedAbove s h.node.activation o → IsInFrame
    by_place (common b i) is kept owned = absurd (omega (arith, back, (common-told program s layout b i cell kept).0))
    by_place (local a x i) is kept owned =
        let keeps = h.after.shows.keeps in
        let nodes = nodes_of m.frames.nodes in
        let told = frame-told program s layout a i cell x kept in
        let f = told.0 in
        let size : f.cells ≡ frame_of program s a = laid.sized a f told.1 in
        let place = among (length m.frames.arena.contents) (common_cells program) a layout f laid.apart told.1 in
        let high : cell < f.first + f.cells = omega (arith, told.3, size) in
        let top = keeps.tree.made h.node.activation (keeps.tree.shown key h.node h.there).out_is in
        let few : h.node.activation ≤ m.activations = omega (arith, top.1, h.after.shows.activations) in
        let older = λ (c b : ℕ) (e : parent_of s c ≡ Some b). (run_older program choices c b e).1 in
        let holder = holder-found s (is_stacked s) (is_held s) nodes keeps.tree older (length m.frames.arena.contents) (common_cells program) layout
        laid.apart keeps.framed cell a f told.1 told.2 high m.activations key h.node h.there few owned in
        let first = (framed-so layout nodes keeps.framed a holder.at f holder.node told.1 holder.there holder.activation).0 in
        record {
          owner = a;
          name = x;
          index = i;
          is = is;
          holder = holder;
          unit = (keeps.tree.shown holder.at holder.node holder.there).unit_is ∙ ap (unit_of s) holder.activation;
          made = laid.made a f told.1;
          behind = omega (arith, first, told.2);
          few = omega (arith, high, place.inside, h.after.size, h.few);
          told = ap (λ n. unit_in_frame a (unit_at program (unit_of s a)) (cell - n)) first ∙ told.4;
        }

  -- the node that the walk comes to
  at-holder : (f : IsInFrame) (k : ℕ) → holder_above (nodes_of m.frames.nodes) cell m.activations key ≡ Some k
      → nodes_of m.frames.nodes k ≡ Some f.holder.node
  at-holder f k e = ap (nodes_of m.frames.nodes) (same_Some k f.holder.at (sym e ∙ f.holder.found)) ∙ f.holder.there

  pub held-there : common_cells program ≤ cell → (k : ℕ) → holder_above (nodes_of m.frames.nodes) cell m.activations key ≡ Some k
      → IsSome (get m.frames.nodes k)
  held-there back k e =
      let f = in-frame back in
      some-value m.frames.nodes k f.holder.node (at-holder f k e)

  -- what is read of the frame under a key: its unit and its first cell; and the variable that the unit has there
  pub record IsRead (k unit first : ℕ) : Type 0 where
    pub inside : unit < length program
    pub behind : first ≤ cell
    pub few : cell - first < most_cells
    pub name : Name
    pub index : ℕ
    pub told : IsTold (unit_at program unit) (cell - first) name index
    pub place : (owner : ℕ) (result : Place) → ((n : FrameNode) → nodes_of m.frames.nodes k ≡ Some n → owner ≡ n.activation)
        → result ≡ variable_place program unit name (index + 1) owner → result ≡ place_of program s at

  pub read-there : common_cells program ≤ cell → (k unit first : ℕ) → IsAccepted program → is_some (main_among program) ≡ true
      → holder_above (nodes_of m.frames.nodes) cell m.activations key ≡ Some k
      → ((n : FrameNode) → nodes_of m.frames.nodes k ≡ Some n → unit ≡ n.unit) → ((n : FrameNode) → nodes_of m.frames.nodes k ≡ Some n → first ≡ n.first)
      → IsRead k unit first
  read-there back k unit first accepted main e units firsts =
      let f = in-frame back in
      let there = at-holder f k e in
      let u = unit_of s f.owner in
      let same : unit ≡ u = units f.holder.node there ∙ f.unit in
      let start : first ≡ f.holder.node.first = firsts f.holder.node there in
      let inside = units-there program choices f.owner accepted main f.made.0 f.made.1 in
      let once = λ (i j : ℕ) (x : Name). dummies_once program u i j (unit_at program u) x accepted inside in
      let v = variable-told f.owner (unit_at program u) (cell - f.holder.node.first) f.name f.index once f.told in
      record {
        inside = omega (arith, slice_get_within program u (unit_at program u) inside, same);
        behind = omega (arith, f.behind, start);
        few = omega (arith, f.few);
        name = f.name;
        index = v.0;
        told = subst (λ (k : ℕ × ℕ). IsTold (unit_at program k.0) (cell - k.1) f.name v.0) (λ i. (sym same i, sym start i)) v.2;
        place = λ owner result owners told.
            let own = owners f.holder.node there ∙ f.holder.activation in
            let next : v.0 + 1 ≡ f.index = omega (arith, v.1) in
            told ∙ ((λ i. variable_place program (same i) f.name (next i) (own i)) ∙ sym (ap (place_of program s) f.is));
      }
