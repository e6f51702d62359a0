use Rattle.std.proofs.Common.{◌∙◌, ◌<◌, sym, ap, set, length, true, slice_get, arith}
use Rattle.hep_why.proofs.CycleWalks.{first-within, still-noted}
use Rattle.hep_why.proofs.wait_cycles.note.Goals as goal
use Rattle.hep_arena.proofs.Lists.{get-set_same}

pub returns-then-least-len-clause-kept : goal.returns-then-least-len-clause-kept
returns-then-least-len-clause-kept c = λ i so first h.
    let less : c.least_from-least.result < length c.args.noted.now.items = omega (arith, c.if-least-len.true, c.len.ensures) in
    still-noted c.args.noted.now.items c.least_from-least.result first less (so first h)

pub returns-then-least-len-clause-noted : goal.returns-then-least-len-clause-noted
returns-then-least-len-clause-noted c = λ first h.
    let least = c.least_from-least.result in
    let noted = c.args.noted.now.items in
    let less : least < length noted = omega (arith, c.if-least-len.true, c.len.ensures) in
    ap (slice_get (set noted least true)) (sym (c.least_from-least.ensures first h)) ∙ get-set_same noted least true less

pub returns-else-least-len-clause-noted : goal.returns-else-least-len-clause-noted
returns-else-least-len-clause-noted c = λ first h.
    absurd (omega (arith, c.if-least-len.false, c.len.ensures, c.least_from-least.ensures first h, first-within c.args.nexts.now first c.args.at h, c.requires))
