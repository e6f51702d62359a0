use Rattle.std.proofs.Common.{◌≡◌, ◌<◌, ◌∙◌, ap, map, length, arith}
use Rattle.std.proofs.lemmas.List.{get_or_read}
use Rattle.hep_machine.specs.Variables as variables
use Rattle.hep_conditions.proofs.FrameCells.{frames-length, frame-at}
use Rattle.hep_conditions.proofs.checked.Checked.frame_cells.Goals as goal

pub index-requires : goal.index-requires
index-requires c =
    let program = c.args.self.now in
    let frames = c.self.inside.frames.items in
    let all : frames ≡ map variables.frame_cells program = c.self.invariant.1 ∙ ap (map variables.frame_cells) c.self.view_is in
    let long : length frames ≡ length program = frames-length frames program all in
    omega (arith, c.requires, long, c.self.inside.frames.ok.0)

pub returns : goal.returns
returns c =
    let program = c.args.self.now in
    let frames = c.self.inside.frames.items in
    let all : frames ≡ map variables.frame_cells program = c.self.invariant.1 ∙ ap (map variables.frame_cells) c.self.view_is in
    let long : length frames ≡ length program = frames-length frames program all in
    let within : c.args.unit < length frames = omega (arith, c.requires, long) in
    get_or_read frames _ _ within c.index.ensures 0 ∙ frame-at frames program c.args.unit all c.requires
