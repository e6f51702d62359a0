use Rattle.std.proofs.Common.{◌≡◌, ◌<◌, ◌+◌, ◌-◌, ◌∙◌, None, ap, length, refl, sym, arith}
use Rattle.hep_private.specs.BaseValues.{value_copied}
use Rattle.hep_private.proofs.Copies.{as-many-cells, one-put}
use Rattle.hep_private.proofs.frame_copies.put_copies.Goals as goal
use Rattle.std.proofs.Math.Seq.{drop-length}

pub loop-left-init : goal.loop-left-init
loop-left-init c =
    record {
      few = omega arith;
      values = λ d. ap (λ values. values d) c.requires.blank ∙ ap (λ copies. value_copied copies d) (sym (drop-length c.args.copies.now));
      count = refl;
    }

pub loop-left-preserved : goal.loop-left-preserved
loop-left-preserved c =
    let n = c.loop-left.left - 1 in
    let copies = c.args.copies.now in
    let on : c.loop-left.left ≡ n + 1 = omega (arith, c.loop-left-test.true) in
    let less : n < length copies = omega (arith, c.loop-left-test.true, c.loop-left.invariant.few) in
    record {
      few = omega (arith, c.loop-left.invariant.few);
      values =
          one-put c.loop-left.cells c.put.new.cells copies (record { cell = 0; value = None }) n c.loop-left.left on less c.put.result c.if-not-put.false c.put.ensures.cells c.put.ensures.inside
          c.loop-left.invariant.values;
      count =
          as-many-cells c.loop-left.cells c.put.new.cells copies (record { cell = 0; value = None }) n c.loop-left.left on less c.put.result c.if-not-put.false c.put.ensures.cells
          ∙ c.loop-left.invariant.count;
    }
