use Rattle.std.proofs.Common.{◌≡◌, None, Some, ◌-◌, ◌+◌, ◌≤◌, length, sym, ◌∙◌, arith, refl}
use Rattle.hep_arena.specs.Holes.{first_fit, taken}
use Rattle.hep_arena.specs.Lengths.{hole_from, lower_holes}
use Rattle.hep_arena.proofs.RowLengths.{fit-read}
use Rattle.hep_arena.proofs.Limits.{apart-up_to, changed-holes, changed-limited, fit-front, fit-last, fit-none, taken-front, taken-last}
use Rattle.hep_arena.proofs.Taking.{taken-apart}
use Rattle.hep_arena.proofs.holes.Holes.take.Goals.{In-Some, In_default}
use Rattle.hep_arena.proofs.holes.Holes.take.Goals as goal

-- the first below the limit that is long enough, or that there is none
some : (c : In-Some) → first_fit c.args.n (lower_holes c.args.self.now) ≡ Some c.in-Some.at
some c = sym (fit-read 0 c.args.n c.args.self.now.lengths c.requires.some) ∙ sym c.in-Some.ensures.first

none : (c : In_default) → first_fit c.args.n (lower_holes c.args.self.now) ≡ None
none c = sym (fit-read 0 c.args.n c.args.self.now.lengths c.requires.some) ∙ sym c.in_default.ensures.first

pub shorten-requires-clause-fit : goal.shorten-requires-clause-fit
shorten-requires-clause-fit c = some (goal.at.shorten-requires-clause-fit c).In-Some

pub returns-in-Some-clause-place : goal.returns-in-Some-clause-place
returns-in-Some-clause-place c =
    let h = c.args.self.now in
    sym (fit-front c.args.n c.in-Some.at (lower_holes h) (hole_from h.limit (length h.lengths)) (some (goal.at.returns-in-Some-clause-place c).In-Some))

pub returns-in-Some-clause-holes : goal.returns-in-Some-clause-holes
returns-in-Some-clause-holes c =
    let h = c.args.self.now in let e = c.shorten.ensures in
    changed-holes h c.shorten.new.self c.requires.limited (taken c.args.n (lower_holes h)) e.holes e.limit e.cells
    ∙ sym (taken-front c.args.n c.in-Some.at (lower_holes h) (hole_from h.limit (length h.lengths)) (some (goal.at.returns-in-Some-clause-holes c).In-Some))

pub returns-in-Some-clause-limited : goal.returns-in-Some-clause-limited
returns-in-Some-clause-limited c =
    let h = c.args.self.now in let e = c.shorten.ensures in
    changed-limited h c.shorten.new.self c.requires.limited (taken c.args.n (lower_holes h)) e.holes e.limit e.cells (taken-apart c.args.n 0 (h.limit - 1) (lower_holes h) c.requires.limited.lower)

pub returns-then-len-self-clause-place : goal.returns-then-len-self-clause-place
returns-then-len-self-clause-place c =
    let h = c.args.self.now in
    sym (fit-none c.args.n h.limit (length h.lengths) (lower_holes h) (omega (arith, c.if-len-self.true, c.len.ensures.places)) (none (goal.at.returns-then-len-self-clause-place c).In_default))

pub returns : goal.returns
returns c =
    let h = c.args.self.now in
    let less : c.args.n ≤ length h.lengths - h.limit = omega (arith, c.if-len-self.false, c.len.ensures.places) in
    let missing = none (goal.at.returns c).In_default in
    record {
      place = sym (fit-last c.args.n h.limit (length h.lengths) (lower_holes h) c.requires.some less missing);
      holes = taken-last c.args.n h.limit (length h.lengths) (lower_holes h) c.requires.some less missing;
      limited = record { inside = omega (arith, less); lower = apart-up_to 0 (h.limit - 1) (h.limit + c.args.n - 1) (lower_holes h) (omega arith) c.requires.limited.lower };
      cells = refl;
    }
