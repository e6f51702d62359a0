-- The content of a refusal: docs/LANGUAGE.md, "Refusals".
use Rattle.std.specs.Prelude.{◌≡◌, ℕ, List}
use Rattle.hep_base.specs.declared.refusal.Refusal.{Refusal}
use Rattle.hep_base.specs.declared.refusal.Refusal.TheVariants.{NoMemory, Refused}

-- The refusal has this number, line and name, or it says that memory was refused. The name is empty where the rule is about none.
abbrev pub Reports : Refusal → ℕ × ℕ × List ℕ → Type 0
Reports NoMemory said = Unit {0}
Reports (Refused number line name) said = said ≡ (number, line, name)
