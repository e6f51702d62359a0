use Rattle.std.proofs.Common.{◌≡◌, ◌<◌, length, sym, ap, ◌∙◌, subst}
use Rattle.slab.specs.Slab.{ContainsKey}
use Rattle.hep_image.specs.Image.{IsUnitCode}
use Rattle.hep_proc.specs.Nodes.{nodes_of}
use Rattle.hep_proc.proofs.Slabs.{some-value}
use Rattle.hep_proc.specs.declared.process.Local.{Local}
use Rattle.hep_proc.proofs.Levels.{some-levels}
use Rattle.hep_state.specs.TopPlace.{node_under}
use Rattle.hep_state.proofs.top_place.place.Goals.{After-top-key}
use Rattle.hep_state.proofs.top_place.place.Goals as goal

pub top-key-requires : goal.top-key-requires
top-key-requires c = let r = c.requires in some-levels c.args.process.now r.0 r.1 r.2 r.3 r.4

key-there : (c : After-top-key) → ContainsKey c.args.frames.now.nodes c.top-key.result.key
key-there c =
    let r = c.requires in
    let slab = c.args.frames.now.nodes in
    subst (λ (l : Local). ContainsKey slab l.key) (sym (c.top-key.ensures r.0 r.1 r.2 r.3 r.4)) (some-value slab r.0.key (node_under (nodes_of slab) r.0.key) r.5.1)

pub first-requires : goal.first-requires
first-requires c = key-there (goal.at.first-requires c).After-top-key

pub cells-requires : goal.cells-requires
cells-requires c = key-there (goal.at.cells-requires c).After-top-key

pub unit-requires : goal.unit-requires
unit-requires c =
    let r = c.requires in
    subst (λ (l : Local). l.unit < length c.args.image.now) (sym (c.top-key.ensures r.0 r.1 r.2 r.3 r.4)) r.5.0

pub returns : goal.returns
returns c l ls operands pending is =
    let same = c.top-key.ensures l ls operands pending is in
    let r = c.requires in
    let nodes = nodes_of c.args.frames.now.nodes in
    let there = ap (λ (k : Local). nodes k.key) (c.top-key.ensures r.0 r.1 r.2 r.3 r.4) ∙ r.5.1 in
    let node : node_under nodes r.0.key ≡ node_under nodes l.key = ap (λ (k : Local). node_under nodes k.key) (sym (c.top-key.ensures r.0 r.1 r.2 r.3 r.4) ∙ same) in
    record {
      code = subst (λ (k : Local). IsUnitCode c.args.image.now k.unit c.unit.result.now) same c.unit.ensures;
      framed = λ i. record { first = (c.first.ensures (node_under nodes r.0.key) there ∙ ap (λ n. n.first) node) i; cells = (c.cells.ensures (node_under nodes r.0.key) there ∙ ap (λ n. n.cells) node) i };
      at = ap (λ (k : Local). k.index) same;
    }
