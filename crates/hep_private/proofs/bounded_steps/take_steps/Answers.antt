use Rattle.std.proofs.Common.{◌∙◌, ap, length, arith}
use Rattle.hep_private.specs.BaseValues.{values_of}
use Rattle.hep_private.proofs.SegmentSteps.{along-first, ended, goes-on, nothing-taken, one-more}
use Rattle.hep_private.proofs.bounded_steps.take_steps.Goals as goal

pub returns-in_default : goal.returns-in_default
returns-in_default c = nothing-taken c.args.image.now c.args.unit (values_of c.args.base) c.args.most c.args.progress.now c.requires.none c.in_default.ensures.none

pub loop-source-init : goal.loop-source-init
loop-source-init c = record { few = omega (arith, ap length c.requires.none); along = along-first c.args.image.now c.args.unit (values_of c.args.base) c.args.progress.now c.requires.none }

pub returns-then-not-advance : goal.returns-then-not-advance
returns-then-not-advance c =
    let unit = c.in-Some.ensures.there in
    ended c.args.image.now c.args.unit c.as_slice-2.result.now c.as_slice.result.now (c.as_slice-2.ensures ∙ unit.private_are) (c.as_slice.ensures ∙ unit.code) (values_of c.args.base) c.args.progress.now
    c.loop-source.progress c.advance.new.progress c.advance.result c.advance.ensures c.loop-source.invariant.along c.args.most c.if-not-advance.true c.loop-source.invariant.few

pub loop-source-preserved : goal.loop-source-preserved
loop-source-preserved c =
    let unit = c.in-Some.ensures.there in
    let more =
    one-more c.args.image.now c.args.unit c.as_slice-2.result.now c.as_slice.result.now (c.as_slice-2.ensures ∙ unit.private_are) (c.as_slice.ensures ∙ unit.code) (values_of c.args.base) c.args.progress.now
    c.loop-source.progress c.advance.new.progress c.advance.result c.advance.ensures c.loop-source.invariant.along c.if-not-advance.false in
    record {
      few = omega (arith, more, c.len.ensures, c.loop-source-test.true);
      along =
          goes-on c.args.image.now c.args.unit c.as_slice-2.result.now c.as_slice.result.now (c.as_slice-2.ensures ∙ unit.private_are) (c.as_slice.ensures ∙ unit.code) (values_of c.args.base) c.args.progress.now
          c.loop-source.progress c.advance.new.progress c.advance.result c.advance.ensures c.loop-source.invariant.along c.if-not-advance.false;
    }
