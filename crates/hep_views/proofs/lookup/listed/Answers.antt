use Rattle.std.proofs.Common.{◌<◌, drop, length, sym, ap, ◌∙◌, subst}
use Rattle.hep_code.specs.Words.{line_ahead}
use Rattle.hep_proc.specs.declared.process.Local.{Local}
use Rattle.hep_views.specs.CellOwners.{IsSought}
use Rattle.hep_views.proofs.WaitingPlaces.{blocked-waits, listed-is}
use Rattle.hep_views.proofs.lookup.listed.Goals as goal

pub top_level-level-requires : goal.top_level-level-requires
top_level-level-requires c = record {
  numbers = c.requires.2.numbers;
  living = (blocked-waits c.args.image.now c.requires.0 c.requires.1 c.args.machine.now c.requires.2 c.args.p c.args.want c.requires.3).is_top.levels;
}

pub unit-unit-requires : goal.unit-unit-requires
unit-unit-requires c =
    let w = blocked-waits c.args.image.now c.requires.0 c.requires.1 c.args.machine.now c.requires.2 c.args.p c.args.want c.requires.3 in
    let top = c.top_level-level.ensures w.is_top.levels in
    subst (λ (l : Local). l.unit < length c.args.image.now) (sym top) w.is_top.inside

pub place_at-place-requires : goal.place_at-place-requires
place_at-place-requires c =
    let w = blocked-waits c.args.image.now c.requires.0 c.requires.1 c.args.machine.now c.requires.2 c.args.p c.args.want c.requires.3 in
    let top = c.top_level-level.ensures w.is_top.levels in
    (c.requires.0, c.requires.1, w.wanted.at, subst (λ (l : Local). IsSought c.args.image.now c.requires.0 c.requires.1 c.args.machine.now l.key c.args.want.cell w.wanted.at) (sym top) w.sought)

pub returns : goal.returns
returns c cells choices h blocked =
    let program = c.args.image.now in
    let m = c.args.machine.now in
    let w = blocked-waits program cells choices m h c.args.p c.args.want blocked in
    let top = c.top_level-level.ensures w.is_top.levels in
    let sought = subst (λ (l : Local). IsSought program cells choices m l.key c.args.want.cell w.wanted.at) (sym top) w.sought in
    let code = c.as_slice.ensures ∙ c.unit-unit.ensures.code in
    let line = c.line_from-line.ensures ∙ ap (λ is. line_ahead (drop c.top_level-level.result.index is)) code in
    listed-is program cells choices m h c.args.p c.args.want w c.top_level-level.result c.line_from-line.result c.place_at-place.result top line (
    c.place_at-place.ensures cells choices w.wanted.at sought)
