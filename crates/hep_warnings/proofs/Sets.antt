-- A set that gets the elements of a list one by one.
use Rattle.std.proofs.Common.{◌≡◌, Bool, true, false, ◌||◌, cond, refl, sym, ap, ◌∙◌}
use Rattle.hep_machine.specs.Words.{Name, name_eq}
use Rattle.hep_source.proofs.NameTests.{name_eq-is, same_name-turned}

moved : (a b c : Bool) → (b || (a || c)) ≡ ((a || b) || c)
moved true true c = refl
moved true false c = refl
moved false b c = refl

-- an element is the next one, among those behind it, or there already
pub turn : (here rest old new all : Bool) → new ≡ (here || old) → ((here || rest) || old) ≡ all → (rest || new) ≡ all
turn here rest old new all e h = ap (λ b. rest || b) e ∙ (moved here rest old ∙ h)

-- a name that a set gets
pub added : (name x : Name) (old : Bool) → cond (name_eq name x) true old ≡ (name_eq x name || old)
added name x old = ap (λ b. cond b true old) (name_eq-is name x ∙ (same_name-turned name x ∙ sym (name_eq-is x name))) ∙ by (name_eq x name)
  where
    by : (b : Bool) → cond b true old ≡ (b || old)
    by true = refl
    by false = refl
