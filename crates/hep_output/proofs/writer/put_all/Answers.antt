use Rattle.std.proofs.Common.{take, sym, subst}
use Rattle.std.proofs.Math.Seq.{take-add}
use Rattle.std.specs.Io.KnownBytes.{Appends}
use Rattle.std.proofs.KnownBytes.{Appends-trans}
use Rattle.hep_output.proofs.writer.put_all.Goals as goal

pub loop-written-preserved : goal.loop-written-preserved
loop-written-preserved g c =
    let bytes = c.args.bytes.now in
    let written = c.loop-written.written in
    let count = c.in_ok-written.field-0 in
    record {
      within = c.in_ok-written.ensures.within;
      taken = subst (Appends _ _) (sym (take-add written count bytes)) (Appends-trans _ _ _ _ _ c.loop-written.invariant.taken c.in_ok-written.ensures.taken);
    }
