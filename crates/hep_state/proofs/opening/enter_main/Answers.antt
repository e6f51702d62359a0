use Rattle.std.proofs.Common.{◌≡◌, [], length, Some, refl, sym, ap, ◌∙◌, subst, is_some}
use Rattle.std.specs.Option.{unwrap_or}
use Rattle.hep_machine.specs.Words.{no_unit, dummies_of, main_unit, unit_at, common_cells, frame_of, frame_cells}
use Rattle.hep_arena.specs.Holes.{first_fit}
use Rattle.hep_layout.specs.Words.{descriptor_slots, Nodes}
use Rattle.hep_image.specs.Data.{first_frames}
use Rattle.hep_proc.specs.Nodes.{nodes_of}
use Rattle.hep_state.specs.Words.{unset_opening}
use Rattle.hep_state.proofs.OpenedStates.{first-fit, node-there}
use Rattle.hep_state.proofs.opening.enter_main.Goals as goal
use Rattle.hep_layout.proofs.Beginning.{main_node}

pub returns : goal.returns
returns c =
    let program = c.args.image.now in
    let s = unset_opening program in
    let old = c.args.frames.now in
    let new = c.open.new.self in
    let cells = c.main_program.result.now.cells in
    let common = common_cells program in
    let starts = c.openings_are_shown.ensures.opening program in
    let found : main_unit program ≡ c.main.result = ap (λ o. unwrap_or o no_unit) c.main.ensures.main in
    let own : cells ≡ frame_cells (unit_at program (main_unit program)) = c.main_program.ensures.cells in
    let size : cells ≡ frame_of program s 1 = own ∙ sym (c.openings_fit_by_numbers.ensures.frame program) in
    let plain : dummies_of (unit_at program (main_unit program)) ≡ [] = c.programs_are_closed.ensures.main program (ap is_some c.main.ensures.main) in
    let opened = c.open.ensures.opened program s (descriptor_slots program s (first_frames program)) c.requires.unused starts (sym found) size (
    λ part v. c.openings_want_unset_cells.ensures program s (first_frames program) part v starts plain) in
    let fit : first_fit cells old.arena.holes ≡ Some common =
    subst (λ n. first_fit n old.arena.holes ≡ Some common) (sym own) (first-fit program old.arena (nodes_of old.nodes) c.requires.unused (c.openings_fit_by_numbers.ensures.layout program) c.requires.fits) in
    let there : nodes_of new.nodes c.open.result ≡ Some (main_node c.main.result common cells) =
    ap (λ (nodes : Nodes). nodes c.open.result) (c.open.ensures.nodes common fit c.requires.unused.none) ∙ node-there c.open.result c.main.result common cells in
    c.openings_are_shown.ensures.entered program (length old.arena.contents) c.open.result opened.0 new.arena (nodes_of new.nodes) (main_node c.main.result common cells) opened.1 (c.open.ensures.taken common fit).size opened.2 there refl
