use Rattle.std.proofs.Common.{◌≡◌, ℕ, ◌<◌, length, get_or, sym, ap, ◌∙◌, arith, List}
use Rattle.std.specs.Fmt.{decimal}
use Rattle.std.proofs.lemmas.Bool.Decides.{nat_tests}
use Rattle.std.proofs.lemmas.Fmt.{decimal_nonempty}
use Rattle.hep_output.proofs.Digits.{zero_alone, found_is, none_is}
use Rattle.hep_output.proofs.number.number_of.Goals as goal
use Rattle.hep_output.proofs.number.number_of.Goals.{else-digits-eq48-via-then-digits-eq48+else-digits-gt1, else-digits-eq48-via-else-digits-eq48}

pub returns-then-is_empty-clause-none : goal.returns-then-is_empty-clause-none
returns-then-is_empty-clause-none c n h e =
    let some : 0 < length (decimal n) = decimal_nonempty n (omega arith) in
    let same : length c.args.digits.now ≡ length (decimal n) = ap length e in
    grind (arith, nat_tests, some, same)

pub returns-then-digits-gt1-clause-none : goal.returns-then-digits-gt1-clause-none
returns-then-digits-gt1-clause-none c n h e =
    let first : get_or (decimal n) 0 0 ≡ 48 = sym (ap (λ (l : List ℕ). get_or l 0 0) e) ∙ c.if-digits-eq48.true in
    let alone : length (decimal n) ≡ 1 = zero_alone n (omega arith) first in
    let same : length c.args.digits.now ≡ length (decimal n) = ap length e in
    omega arith

pub returns-clause-found : goal.returns-clause-found
returns-clause-found c =
    let some : 0 < length c.args.digits.now = grind (arith, nat_tests) in
    let first : get_or c.args.digits.now 0 0 ≡ 48 → length c.args.digits.now ≡ 1 = λ e. elim c.else-digits-eq48.branch [
      | else-digits-eq48-via-then-digits-eq48+else-digits-gt1 w ↦ omega arith
      | else-digits-eq48-via-else-digits-eq48 w ↦ absurd (w.if-digits-eq48.false e)
    ] in
    found_is c.value_of.result c.args.digits.now c.args.most c.requires.digits some first c.requires.most c.value_of.ensures.within c.value_of.ensures.found

pub returns-clause-none : goal.returns-clause-none
returns-clause-none c = none_is c.value_of.result c.args.digits.now c.args.most c.requires.most c.value_of.ensures.none
