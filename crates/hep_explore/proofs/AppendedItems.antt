-- What a list has after items were appended, unless memory was refused.
use Rattle.std.proofs.Common.{◌≡◌, ◌++◌, ◌∙◌, Err, List, Ok, OnOk, Result, if◌then◌else◌, ℕ}
use Rattle.std.specs.Result.{is_ok}

-- it has those of before, and then the new ones
pub if_appended : {A E : Type 0} (r : Result A E) (new old more all : List ℕ) → new ≡ (if is_ok r then old ++ more else old)
    → old ++ more ≡ all → OnOk r (new ≡ all)
if_appended (Ok x) new old more all is same = is ∙ same
if_appended (Err e) new old more all is same = tt
