-- What is so is so of what it is equal to.
use Rattle.std.proofs.Common.{◌≡◌, subst}

pub carry : {S T : Type 0} → S ≡ T → S → T
carry same h = subst (λ (U : Type 0). U) same h
