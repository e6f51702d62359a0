use Rattle.std.proofs.Common.{◌≡◌, ◌∙◌, ◌+◌, ◌<◌, ◌&&◌, ℕ, Bool, true, false, ap, arith, nat_le, refl, sym}
use Rattle.std.proofs.lemmas.Bool.{lt-leb}
use Rattle.hep_event.specs.Traces.{LineSelection, is_of, is_shown}
use Rattle.hep_trace.specs.LineFilters.{shown_on}
use Rattle.hep_trace.proofs.line_filter.LineFilter.hidden.Goals as goal

middle-false : (a b c : Bool) → b ≡ false → (a && b && c) ≡ false
middle-false true b c is = ap (λ x. x && c) is
middle-false false b c is = refl

last-false : (a b c : Bool) → c ≡ false → (a && b && c) ≡ false
last-false true true c is = is
last-false true false c is = refl
last-false false b c is = refl

-- why an entry isn't shown
module _ (shown : LineSelection) (entry process : ℕ) where
  of-another : is_of shown.process process ≡ false → is_shown shown entry process ≡ false
  of-another other = last-false (nat_le shown.first entry) (nat_le entry shown.last) (is_of shown.process process) other

  behind-last : shown.last < entry → is_shown shown entry process ≡ false
  behind-last past = middle-false (nat_le shown.first entry) (nat_le entry shown.last) (is_of shown.process process) (lt-leb entry shown.last past)

  before-first : entry < shown.first → is_shown shown entry process ≡ false
  before-first early = ap (λ b. b && nat_le entry shown.last && is_of shown.process process) (lt-leb shown.first entry early)

pub returns-then-not-is_of-clause-hidden : goal.returns-then-not-is_of-clause-hidden
returns-then-not-is_of-clause-hidden c k less =
    of-another (shown_on c.args.self.now) (c.args.entry + k) c.args.process (sym c.is_of.ensures ∙ c.if-not-is_of.true)

pub returns-then-self-entry-clause-hidden : goal.returns-then-self-entry-clause-hidden
returns-then-self-entry-clause-hidden c k less = behind-last (shown_on c.args.self.now) (c.args.entry + k) c.args.process (omega (arith, c.if-self-entry.true))

pub returns-clause-hidden : goal.returns-clause-hidden
returns-clause-hidden c k less = before-first (shown_on c.args.self.now) (c.args.entry + k) c.args.process (omega (arith, less, c.min.ensures))
