-- Results of calls that are handed on.
use Rattle.std.proofs.Common.{Result, Ok, Err, IfOk}

pub ok-also : {A E : Type 0} {P Q : A → Type 0} (r : Result A E) → ((x : A) → P x → Q x) → IfOk r P → IfOk r Q
ok-also (Ok x) f h = f x h
ok-also (Err e) f h = h
