use Rattle.std.proofs.Common.{◌≡◌, ◌-◌, length, sym, arith}
use Rattle.hep_arena.specs.Lengths.{lower_holes}
use Rattle.hep_arena.proofs.RowLengths.{IsLast, last-found, last-missing, length-fits, length-read, length_at}
use Rattle.hep_arena.proofs.Limits.{apart-up_to}
use Rattle.hep_arena.proofs.holes.Holes.start_at.Goals.{After-get, In-Some}
use Rattle.hep_arena.proofs.holes.Holes.start_at.Goals as goal

-- the last hole that begins before the index, and its length
last : (c : In-Some) → IsLast 0 c.args.at (lower_holes c.args.self.now) c.in-Some.last
last c = last-found (c.args.self.now.limit - 1) c.args.at c.in-Some.last c.args.self.now.lengths c.requires.limited.lower (sym c.in-Some.ensures.last)

long : (c : After-get) → length_at c.in-Some.last (lower_holes c.args.self.now) ≡ c.get.result
long c = length-read 0 c.in-Some.last c.in-Some.last c.get.result c.args.self.now.lengths (omega arith) c.get.ensures.number

pub get-requires : goal.get-requires
get-requires c = record { inside = omega (arith, (last (goal.at.get-requires c).In-Some).below, c.requires.inside) }

pub overflow_add-last : goal.overflow_add-last
overflow_add-last c =
    let h = c.args.self.now in
    let l = last (goal.at.overflow_add-last c).In-Some in
    let apart = apart-up_to 0 (h.limit - 1) (length h.lengths) (lower_holes h) (omega (arith, c.requires.limited.inside)) c.requires.limited.lower in
    let fits = length-fits c.in-Some.last 0 (length h.lengths) (lower_holes h) apart (omega (arith, l.below, c.requires.inside)) in
    omega (arith, fits, long (goal.at.overflow_add-last c).After-get, c.requires.few)

pub returns-then-last-get : goal.returns-then-last-get
returns-then-last-get c = let at = goal.at.returns-then-last-get c in sym ((last at.In-Some).ends (omega (arith, c.if-last-get.true, long at.After-get)))

pub returns-else-last-get : goal.returns-else-last-get
returns-else-last-get c = let at = goal.at.returns-else-last-get c in sym ((last at.In-Some).apart (λ e. c.if-last-get.false (omega (arith, e, long at.After-get))))

pub returns-in_default : goal.returns-in_default
returns-in_default c = let h = c.args.self.now in sym (last-missing (h.limit - 1) c.args.at h.lengths c.requires.limited.lower (sym c.in_default.ensures.last))
