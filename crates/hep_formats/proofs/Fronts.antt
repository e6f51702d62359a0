-- The front of a list.
use Rattle.std.proofs.Common.{◌≡◌, ◌∙◌, ℕ, ◌++◌, List, ap, length, sym, take}
use Rattle.std.proofs.lemmas.List.{take_at}

-- items that others come after are the front of all
pub is_front : {X : Type 0} (xs rest all : List X) (n : ℕ) → length xs ≡ n → xs ++ rest ≡ all → xs ≡ take n all
is_front xs rest all n e is = sym (take_at xs rest n e) ∙ ap (take n) is
