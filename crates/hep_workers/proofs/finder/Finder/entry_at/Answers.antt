use Rattle.std.proofs.Common.{◌≡◌, ◌≤◌, drop, slice_get, ℕ, ◌+◌, List, refl, sym, ap, subst, ◌∙◌, arith}
use Rattle.hep_machine.specs.declared.event.Entry.{Entry}
use Rattle.hep_workers.specs.declared.finder.Finder.TheInside.{Inside}
use Rattle.hep_workers.proofs.SpanLooking.{next_there, passed_to}
use Rattle.hep_workers.proofs.finder.Finder.entry_at.Goals.{After-next, then-index-self, else-index-self}
use Rattle.hep_workers.proofs.finder.Finder.entry_at.Goals as goal

-- those behind the passed ones are left, which are no more than the index
abbrev Stands : List Entry → ℕ → Inside → Type 0
Stands entries index f = (f.history.now.items ≡ entries) × (f.left ≡ drop f.passed entries) × (f.passed ≤ index)

kept : (c : After-next) → Stands c.self.inside.history.now.items c.args.index c.if-index-self.self-inside
kept c =
    let items : List Entry = c.self.inside.history.now.items in
    elim c.if-index-self.branch [
      | then-index-self w ↦ subst (Stands items c.args.index) (sym w.self-inside-is) (refl, w.iter-self-inside.ensures, omega arith)
      | else-index-self w ↦ subst (Stands items c.args.index) (sym w.self-inside-is) (refl, c.self.invariant, omega (arith, w.if-index-self))
    ]

found : (c : After-next) → (c.next.result ≡ slice_get c.self.inside.history.now.items c.args.index) × (c.next.new.self ≡ drop (c.args.index + 1) c.self.inside.history.now.items)
found c =
    let items : List Entry = c.self.inside.history.now.items in
    let inside = c.if-index-self.self-inside in
    let k = kept c in
    let place : c.pass.new.self ≡ drop c.args.index items = c.pass.ensures ∙ passed_to items inside.left inside.passed c.args.index k.1 k.2 in
    next_there items c.pass.new.self c.args.index c.next.result c.next.new.self place (omega (arith, c.if-index-len.false, c.len.ensures.count)) c.next.ensures.steps

pub invariant_of-self : goal.invariant_of-self
invariant_of-self c = (found c).1 ∙ ap (λ (es : List Entry). drop (c.args.index + 1) es) (sym (kept c).0)

pub returns-clause-entry : goal.returns-clause-entry
returns-clause-entry c = (found c).0 ∙ ap (λ (es : List Entry). slice_get es c.args.index) c.self.view_is
