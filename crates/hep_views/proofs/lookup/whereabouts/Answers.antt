use Rattle.std.proofs.Common.{◌<◌, drop, length, sym, ap, ◌∙◌, subst}
use Rattle.hep_code.specs.Words.{line_ahead}
use Rattle.hep_proc.specs.declared.process.Local.{Local}
use Rattle.hep_views.proofs.WaitingPlaces.{living-top, whereabouts-is}
use Rattle.hep_views.proofs.lookup.whereabouts.Goals as goal

pub top_level-level-requires : goal.top_level-level-requires
top_level-level-requires c = record {
  numbers = c.requires.2.numbers;
  living = (living-top c.args.image.now c.requires.0 c.requires.1 c.args.machine.now c.requires.2 c.args.p c.requires.3).is_top.levels;
}

pub unit-unit-requires : goal.unit-unit-requires
unit-unit-requires c =
    let w = living-top c.args.image.now c.requires.0 c.requires.1 c.args.machine.now c.requires.2 c.args.p c.requires.3 in
    subst (λ (l : Local). l.unit < length c.args.image.now) (sym (c.top_level-level.ensures w.is_top.levels)) w.is_top.inside

pub returns : goal.returns
returns c cells choices h lives =
    let program = c.args.image.now in
    let w = living-top program cells choices c.args.machine.now h c.args.p lives in
    let code = c.as_slice.ensures ∙ c.unit-unit.ensures.code in
    let line = c.line_from-line.ensures ∙ ap (λ is. line_ahead (drop c.top_level-level.result.index is)) code in
    whereabouts-is program cells choices c.args.machine.now h c.args.p w c.top_level-level.result c.line_from-line.result (c.top_level-level.ensures w.is_top.levels) line
