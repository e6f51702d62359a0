use Rattle.std.proofs.Common.{◌≡◌, ◌∙◌, ◌≤◌, ◌<◌, [], ◌∷◌, ℕ, List, Option, Some, None, ap, arith, codes, length, map, option_map, refl, slice_index_or, sym}
use Rattle.std.specs.Borrow.{Bor}
use Rattle.std.specs.Option.{unwrap_or}
use Rattle.clap.specs.Words.{Text, found_of}
use Rattle.clap.proofs.WalkLemmas.{raw_values-rows}
use Rattle.hep_command.specs.Asked.{number_by, other_seed_by}
use Rattle.hep_command.proofs.words.other_seed_of.Goals as goal

abbrev texts_of : List (Bor (List ℕ)) → List Text
texts_of ws = map (λ w. w.now) ws

no_other : (ws : List (Bor (List ℕ))) → length ws < 2 → other_seed_by (texts_of ws) ≡ Some None
no_other [] few = refl
no_other (v ∷ []) few = refl
no_other (v ∷ w ∷ ws) few = absurd (omega (arith, few))

second_of_two : (ws : List (Bor (List ℕ))) (none : Bor (List ℕ)) → 2 ≤ length ws → length ws < 3
    → other_seed_by (texts_of ws) ≡ number_by 4294967296 (Some (slice_index_or ws 1 none).now)
second_of_two [] none some few = absurd (omega (arith, some))
second_of_two (v ∷ []) none some few = absurd (omega (arith, some))
second_of_two (v ∷ w ∷ []) none some few = refl
second_of_two (v ∷ w ∷ x ∷ ws) none some few = absurd (omega (arith, few))

too_many : (ws : List (Bor (List ℕ))) → 3 ≤ length ws → other_seed_by (texts_of ws) ≡ None
too_many [] some = absurd (omega (arith, some))
too_many (v ∷ []) some = absurd (omega (arith, some))
too_many (v ∷ w ∷ []) some = absurd (omega (arith, some))
too_many (v ∷ w ∷ x ∷ ws) some = refl

abbrev by : Option (List Text) → Option (Option ℕ)
by found = other_seed_by (unwrap_or found [])

pub returns-in_default-clause-number : goal.returns-in_default-clause-number
returns-in_default-clause-number c = ap by (c.in_default.ensures ∙ raw_values-rows (found_of c.args.found.now) (codes "seed"))

pub returns-in-empty-clause-number : goal.returns-in-empty-clause-number
returns-in-empty-clause-number c =
    let found = c.in-Some.ensures ∙ raw_values-rows (found_of c.args.found.now) (codes "seed") in
    sym (no_other c.in-Some.seeds.now c.in-empty.len_below) ∙ ap by found

pub returns-in_err-number_within-in-len2-clause-number : goal.returns-in_err-number_within-in-len2-clause-number
returns-in_err-number_within-in-len2-clause-number c =
    let found = c.in-Some.ensures ∙ raw_values-rows (found_of c.args.found.now) (codes "seed") in
    c.from_residual.ensures
    ∙ ap (option_map Some) (sym c.in_err-number_within-in-len2.was ∙ c.number_within.ensures)
    ∙ sym (second_of_two c.in-Some.seeds.now _ c.in-len2.len_at_least c.in-len2.len_below) ∙ ap by found

pub returns-in_ok-number_within-in-len2-clause-number : goal.returns-in_ok-number_within-in-len2-clause-number
returns-in_ok-number_within-in-len2-clause-number c =
    let found = c.in-Some.ensures ∙ raw_values-rows (found_of c.args.found.now) (codes "seed") in
    ap (option_map Some) (sym c.in_ok-number_within-in-len2.was ∙ c.number_within.ensures)
    ∙ sym (second_of_two c.in-Some.seeds.now _ c.in-len2.len_at_least c.in-len2.len_below) ∙ ap by found

pub returns-in-len3-up-clause-number : goal.returns-in-len3-up-clause-number
returns-in-len3-up-clause-number c =
    let found = c.in-Some.ensures ∙ raw_values-rows (found_of c.args.found.now) (codes "seed") in
    sym (too_many c.in-Some.seeds.now c.in-len3-up.len_at_least) ∙ ap by found
