-- A table that gets the names of a unit, each with where it stands.
use Rattle.std.proofs.Common.{◌≡◌, ℕ, Bool, true, false, cond, if◌then◌else◌, Option, Some, refl, ap, sym, ◌∙◌}
use Rattle.hep_machine.specs.Words.{Name, name_eq, same_name}
use Rattle.hep_source.proofs.NameTests.{equal_names, name_eq-is, same_name-turned}
use Rattle.hep_warnings.specs.declared.occurrences.FirstOccurrence.{FirstOccurrence}
use Rattle.hep_warnings.specs.SingleOccurrences.{also_at}

-- what the table has of each name once it has got one more
pub added : (line : ℕ) (name x : Name) (old : Name → Option FirstOccurrence)
    → cond (name_eq name x) (Some (also_at line (old name))) (old x) ≡ (if name_eq x name then Some (also_at line (old x)) else old x)
added line name x old = by (same_name x name) refl (name_eq-is name x ∙ same_name-turned name x) (name_eq-is x name)
  where
    by : (b : Bool) → same_name x name ≡ b → name_eq name x ≡ same_name x name → name_eq x name ≡ same_name x name
        → cond (name_eq name x) (Some (also_at line (old name))) (old x) ≡ (if name_eq x name then Some (also_at line (old x)) else old x)
    by true e t u =
        ap (λ c. cond c (Some (also_at line (old name))) (old x)) (t ∙ e)
        ∙ (ap (λ n. Some (also_at line (old n))) (sym (equal_names x name e))
        ∙ sym (ap (λ c. if c then Some (also_at line (old x)) else old x) (u ∙ e)))
    by false e t u =
        ap (λ c. cond c (Some (also_at line (old name))) (old x)) (t ∙ e)
        ∙ sym (ap (λ c. if c then Some (also_at line (old x)) else old x) (u ∙ e))
