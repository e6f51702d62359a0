use Rattle.std.proofs.Common.{◌≡◌, suc, ◌++◌, ◌+◌, ◌-◌, List, ℕ, length, sym, ap, ◌∙◌, append_assoc, append-nil, arith}
use Rattle.hep_machine.specs.Words.{Units}
use Rattle.hep_core.specs.CoreValues.{state_of}
use Rattle.hep_dump.specs.Waiting as words
use Rattle.hep_dump.proofs.Counting.{first-of, no-lines}
use Rattle.hep_dump.proofs.waiting.append_all_waiting.Goals as goal
use Rattle.hep_source.proofs.Tests.{none-if_not}

pub loop-listed-smaller : goal.loop-listed-smaller
loop-listed-smaller c =
    let core = c.args.core.now.core in
    let told = words.told_text c.args.long core.program in
    let n = length (state_of core).processes in
    let last = c.loop-listed.last in
    let first = first-of told core.program core.history (suc last) (n - last) c.in-Some.listed (sym c.in-Some.ensures) in
    omega (arith, first.least, first.most)

pub loop-listed-preserved : goal.loop-listed-preserved
loop-listed-preserved c =
    let core = c.args.core.now.core in
    let told = words.told_text c.args.long core.program in
    let n = length (state_of core).processes in
    let last = c.loop-listed.last in
    let listed = c.in-Some.listed in
    let old = c.loop-listed.text.items in
    let line : List ℕ = told listed in
    let rest = words.waiting_text told core.program core.history (suc listed.process) (n - listed.process) in
    let first = first-of told core.program core.history (suc last) (n - last) listed (sym c.in-Some.ensures) in
    let left : suc last + (n - last) - suc listed.process ≡ n - listed.process = omega (arith, first.least, first.most) in
    let appended = c.in_ok-append_told.ensures ∙ ap (λ (program : Units). old ++ words.told_text c.args.long program listed) c.image.ensures in
    ap (λ (xs : List ℕ). xs ++ rest) appended
    ∙ append_assoc old line rest
    ∙ ap (λ (ys : List ℕ). old ++ ys) (sym (first.lines ∙ ap (λ m. line ++ words.waiting_text told core.program core.history (suc listed.process) m) left))
    ∙ c.loop-listed.invariant

pub returns : goal.returns
returns c =
    let core = c.args.core.now.core in
    let told = words.told_text c.args.long core.program in
    let n = length (state_of core).processes in
    let last = c.loop-listed.last in
    let none = no-lines told core.program core.history (suc last) (n - last) (sym c.waiting_after.ensures ∙ none-if_not c.waiting_after.result c.in_default.not-Some) in
    sym (append-nil c.loop-listed.text.items)
    ∙ ap (λ (ys : List ℕ). c.loop-listed.text.items ++ ys) (sym none)
    ∙ c.loop-listed.invariant
