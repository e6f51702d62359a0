use Rattle.std.proofs.Common.{◌≡◌, ◌∙◌, ◌++◌, List, ℕ, ap, append-nil, codes, refl, subst, sym}
use Rattle.hep_core.specs.CoreValues.{state_of}
use Rattle.hep_core.proofs.Histories.{progress-state}
use Rattle.hep_machine.specs.Words.{Top, line_at, living, progress_after, step_result_of, unit_at, unit_name, unit_on_top}
use Rattle.hep_trace.specs.FreedFrames.{IsFreeing, top_in}
use Rattle.hep_trace.specs.MadeTurns.{IsTurnMade}
use Rattle.hep_event.specs.StepTexts.{deed_text}
use Rattle.hep_event.specs.LineTexts as lines
use Rattle.hep_event.specs.Traces.{freed, woken}
use Rattle.hep_trace.specs.Observations.{IsTurnSeen}
use Rattle.hep_trace.proofs.Lines.{appended, line-is, seen-on, unseen}
use Rattle.hep_trace.proofs.MadeTurns.{program-same}
use Rattle.hep_trace.proofs.turn_line.append_line.Goals as goal

pub returns-in_default : goal.returns-in_default
returns-in_default c old p cell h made =
    sym (append-nil c.args.text.now.items)
    ∙ ap (λ (xs : List ℕ). c.args.text.now.items ++ xs) (
    sym (unseen old p cell c.args.sight.now c.args.entry (progress_after c.args.core.now.core.program c.args.core.now.core.history) h c.in_default.is))

pub append_deed-requires : goal.append_deed-requires
append_deed-requires c =
    let old = c.requires.0 in
    let h = c.requires.3 in
    let s = seen-on old c.requires.1 c.requires.2 c.args.sight.now c.in-Some.before h c.in-Some.is in (
      old,
      top_in old c.requires.1 s.0,
      sym h.0,
      record { state = refl; lives = s.1.lives; before = s.1.before; made = c.requires.4 },
    )

pub append_freed_of-requires : goal.append_freed_of-requires
append_freed_of-requires c =
    let old = c.requires.0 in
    let p = c.requires.1 in
    let h = c.requires.3 in
    let s = seen-on old p c.requires.2 c.args.sight.now c.in-Some.before h c.in-Some.is in (
      old,
      s.0,
      (
        ap (λ q. living (state_of old) q) h.0 ∙ s.1.lives,
        c.deref-2.ensures.value ∙ s.1.before.ancestry,
        subst (λ q. IsTurnMade old q c.args.core.now.core) (sym h.0) c.requires.4,
      ),
    )

pub returns : goal.returns
returns c old p cell h made =
    let core = c.args.core.now.core in
    let b = c.in-Some.before in
    let q = c.args.sight.now.process in
    let s = seen-on old p cell c.args.sight.now b h c.in-Some.is in
    let top = s.0 in
    let t : Top = top_in old p top in
    let x = progress_after old.program old.history in
    let y = progress_after core.program core.history in
    let same : core.program ≡ old.program = program-same old p core made in
    let image = c.image.ensures ∙ same in
    let turn : IsTurnSeen old t b core = record { state = refl; lives = s.1.lives; before = s.1.before; made = made } in
    let freeing : IsFreeing old q top c.deref-2.result.now core = (
      ap (λ r. living (state_of old) r) h.0 ∙ s.1.lives,
      c.deref-2.ensures.value ∙ s.1.before.ancestry,
      subst (λ r. IsTurnMade old r core) (sym h.0) made,
    ) in
    let unit = c.unit_name-unit.ensures ∙ (λ i. unit_name (unit_at (image i) (s.1.before.unit i))) in
    let head = c.in_ok-append_head.ensures
    ∙ (λ i. c.args.text.now.items ++ lines.head_text c.args.entry (h.0 i) (unit i) (s.1.before.line i)) in
    let deed = c.in_ok-append_deed.ensures old t (sym h.0) turn in
    let awake = c.in_ok-append_woken_of.ensures old (c.deref.ensures.value ∙ s.1.before.waiting)
    ∙ (λ i. c.append_deed.new.text.items ++ lines.woken_text (woken (h.0 i) x y)) in
    let back = c.in_ok-append_freed_of.ensures old top freeing in
    let first : List ℕ = lines.head_text c.args.entry p (unit_name (unit_on_top old.program t)) (line_at (unit_on_top old.program t) top.0.statement) in
    let second : List ℕ = deed_text old.program t (step_result_of old.program p (state_of old)) in
    let third : List ℕ = lines.woken_text (woken p x y) in
    let fourth : List ℕ = lines.all_freed_text (freed (state_of old) (state_of core)) in
    let end : List ℕ = codes "\n" in
    let line : c.extend_from_slice.new.self.items ≡ c.args.text.now.items ++ ((((first ++ second) ++ third) ++ fourth) ++ end)
    = appended c.args.text.now.items first second third fourth end c.append_head.new.text.items c.append_deed.new.text.items c.append_woken_of.new.text.items
    c.append_freed_of.new.text.items c.extend_from_slice.new.self.items head deed awake back c.in_ok-extend_from_slice.ensures.items in
    line
    ∙ ap (λ (xs : List ℕ). c.args.text.now.items ++ xs) (
    sym (line-is old.program cell c.args.entry p x y (state_of old) (state_of core) top (progress-state old.program old.history) (progress-state core.program core.history) s.1.lives s.1.accessed))
