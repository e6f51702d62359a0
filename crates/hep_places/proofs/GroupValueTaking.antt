-- Where the values of a group end.
use Rattle.std.proofs.Common.{◌≡◌, ℕ, ◌-◌, ◌≤◌, Bool, true, false, List, [], ◌∷◌, Some, None, refl, sym, ap, ◌∙◌, arith, nat_lt, if◌then◌else◌}
use Rattle.std.proofs.lemmas.Bool.Decides.{nat_tests}
use Rattle.std.proofs.lemmas.Option.{none-some}
use Rattle.hep_machine.specs.Words.{Value, Repeated, item_at}

-- past the end of a list there is nothing
pub item_at-end : (vs : List (Repeated Value)) (i j : ℕ) → item_at vs i ≡ None → i ≤ j → item_at vs j ≡ None
item_at-end [] i j e h = refl
item_at-end (r ∷ rs) i j e h = by_test (nat_lt i r.count) refl e (item_at-end rs (i - r.count) (j - r.count)) where
  not_below : (c : ℕ) → nat_lt i c ≡ false → nat_lt j c ≡ false
  not_below c f = grind (arith, nat_tests)

  by_test : (b : Bool) → nat_lt i r.count ≡ b → (if b then Some r.item else item_at rs (i - r.count)) ≡ None
      → (item_at rs (i - r.count) ≡ None → i - r.count ≤ j - r.count → item_at rs (j - r.count) ≡ None) → item_at (r ∷ rs) j ≡ None
  by_test true f d more = absurd (none-some r.item (sym d))
  by_test false f d more = ap (λ b. if b then Some r.item else item_at rs (j - r.count)) (not_below r.count f) ∙ more d (omega arith)
