use Rattle.std.proofs.Common.{◌≡◌, true≢false, ℕ, Option, Some, None, IfNone, IfSome, IsSome, ◌∙◌, refl, sym, subst, false}
use Rattle.hep_blocked.specs.Numbers.{AreRising}
use Rattle.hep_machine.specs.Words.{is_number_among}
use Rattle.hep_state.specs.Words.{IsPlaceOf, numbers_of}
use Rattle.hep_state.proofs.Processes.{levels-kept}
use Rattle.hep_state.proofs.core_state.CoreState.place.Goals as goal

pub find-requires : goal.find-requires
find-requires c = record { rising = (c.args.self.now.made, subst (λ qs. AreRising 1 c.args.self.now.made (numbers_of qs)) (sym c.deref.ensures.value) c.requires.numbers) }

-- what is there is found
there : {P : Type 0} (o : Option ℕ) → IfNone o P → (P → ⊥) → IsSome o
there (Some i) none other = refl
there None none other = absurd (other none)

pub unwrap-requires : goal.unwrap-requires
unwrap-requires c =
    let m = c.args.self.now in
    there c.find.result c.find.ensures.none (λ none. true≢false (sym (levels-kept m c.args.p c.requires.living) ∙ (subst (λ qs. is_number_among c.args.p (numbers_of qs) ≡ false) c.deref.ensures.value none)))

pub returns : goal.returns
returns c =
    let m = c.args.self.now in
    subst (λ qs. IsPlaceOf qs c.args.p c.unwrap.result) c.deref.ensures.value (subst (λ o. IfSome o (IsPlaceOf c.deref.result.now c.args.p)) c.unwrap.ensures c.find.ensures.found)
