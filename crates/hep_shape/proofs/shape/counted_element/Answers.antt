use Rattle.std.proofs.Common.{◌≡◌, ◌<◌, ◌*◌, ◌^◌, ◌-ℤ◌, length, min, refl, sym, ◌∙◌, arith, rules}
use mir.Val.{SFits}
use mir.Syntax.{w64}
use Rattle.std.specs.Option.{unwrap_or}
use Rattle.std.proofs.lemmas.Int.{to_z-of_z}
use Rattle.std.proofs.lemmas.List.{length_push}
use Rattle.std.proofs.lemmas.Option.{cond_some}
use Rattle.std.proofs.lemmas.Slice.Zip.{zip_turn}
use Rattle.hep_machine.specs.Words.{extent, natural, is_within}
use Rattle.hep_shape.proofs.Columns.{next_number}
use Rattle.hep_shape.proofs.Extents.{wide_extent}
use Rattle.hep_shape.proofs.shape.counted_element.Goals as goal

pub overflow_mul-size : goal.overflow_mul-size
overflow_mul-size c =
    let fits : c.loop-bound.size * unwrap_or c.extent.result 1 < 2 ^ 128 =
    wide_extent c.loop-bound.size c.extent.result c.loop-bound.invariant.small c.extent.ensures.bounded in
    rw c.unwrap_or.ensures (omega arith)

pub loop-bound-preserved : goal.loop-bound-preserved
loop-bound-preserved c =
    let b = c.in-Some.bound.now in
    let s = c.in-Some.subscript.now in
    let fits : SFits w64 s = search rules in
    let within = cond_some (is_within b s) (natural (s -ℤ b.lower)) c.in_ok-offset.field-0 (simp to_z-of_z at (sym c.in_ok-offset.ensures)) in
    let offset : c.from.result ≡ natural (s -ℤ b.lower) = c.from.ensures ∙ sym within.1 in
    let size : c.min-size.result ≡ min (2 ^ 20) (c.loop-bound.size * unwrap_or (extent b) 1) =
    c.min-size.ensures ∙ rw (c.from-most.ensures, c.unwrap_or.ensures, c.extent.ensures.size) refl in
    let turn = zip_turn c.args.bounds.now c.args.subscripts.now c.loop-bound.yielded c.into_iter-bound-iterator.result c.loop-bound.bound-iterator c.next.new.self _ (cc) (cc) c.loop-bound.yielded_by (c.in-Some.bound, c.in-Some.subscript) c.in-Some.is c.next.ensures.steps in
    let more = length_push c.loop-bound.yielded (c.in-Some.bound, c.in-Some.subscript) in
    let step = next_number c.args.bounds.now c.args.subscripts.now (length c.loop-bound.yielded) b s c.loop-bound.number c.loop-bound.size c.loop-bound.invariant.some turn.0 turn.1 (turn.2 b) (turn.3 s) within.0 in
    record {
      some = omega arith;
      few = omega arith;
      small = omega arith;
      so_far = rw (more, offset, size) (step ∙ c.loop-bound.invariant.so_far);
    }
