use Rattle.std.proofs.Common.{ap, sym, arith, length}
use Rattle.std.proofs.lemmas.Bool.Decides.{nat_tests}
use Rattle.hep_replay.proofs.Readings.{count_fits, count_on, count_on_fits, read_on, read_short, read_whole}
use Rattle.hep_replay.proofs.lines.read_lines.Goals as goal

pub overflow_add-count : goal.overflow_add-count
overflow_add-count g c = omega (arith, count_fits _ _ c.requires.apart c.loop-rest.invariant.read, c.loop-rest.invariant.counted)

pub overflow_add-more : goal.overflow_add-more
overflow_add-more g c =
    omega (arith, count_on_fits _ _ c.requires.apart c.past_again-more.result.1.now c.loop-rest.invariant.read c.in-Some.item c.past_again-more.result.0 c.in-Some.ensures.allowed c.in-Some.ensures.found c.past_again-more.ensures)

pub overflow_add-count-in-loop-rest : goal.overflow_add-count-in-loop-rest
overflow_add-count-in-loop-rest g c =
    omega (arith, count_on_fits _ _ c.requires.apart c.past_again-more.result.1.now c.loop-rest.invariant.read c.in-Some.item c.past_again-more.result.0 c.in-Some.ensures.allowed c.in-Some.ensures.found c.past_again-more.ensures)

pub overflow_add-count-in-loop-rest-2 : goal.overflow_add-count-in-loop-rest-2
overflow_add-count-in-loop-rest-2 g c =
    omega (arith, count_on_fits _ _ c.requires.apart c.past_again-more.result.1.now c.loop-rest.invariant.read c.in-Some.item c.past_again-more.result.0 c.in-Some.ensures.allowed c.in-Some.ensures.found c.past_again-more.ensures, c.loop-rest.invariant.counted)

pub loop-rest-preserved : goal.loop-rest-preserved
loop-rest-preserved g c =
    let read = read_on _ _ c.requires.apart c.loop-rest.invariant.read c.in-Some.item c.past_again-more.result.0 c.in-Some.ensures.allowed c.in-Some.ensures.found c.past_again-more.ensures in
    record {
      read = rw c.in_ok-append.ensures read;
      counted = rw (c.in_ok-append.ensures, c.loop-rest.invariant.counted) (sym (count_on g.T.FromLine.line g.T.FromLine.allows c.requires.apart (g.R.Row.items c.loop-rest.row) c.in-Some.item c.past_again-more.result.0));
    }

pub returns-in_default-clause-accepted : goal.returns-in_default-clause-accepted
returns-in_default-clause-accepted g c xs h =
    absurd (read_short _ _ c.requires.apart c.loop-rest.invariant.read (λ e. grind (arith, nat_tests, ap length e)) c.in_default.ensures.none xs h)

pub returns-clause-accepted : goal.returns-clause-accepted
returns-clause-accepted g c xs h = read_whole _ _ c.requires.apart c.loop-rest.invariant.read (grind (arith, nat_tests)) xs h
