-- The wait queues: under each want, the processes that wait for it.
use Rattle.std.specs.Prelude.{ℕ, ◌&&◌, Bool, if◌then◌else◌, nat_eq, List, [], ◌∷◌, ◌++◌, Option, Some, None}
use Rattle.std.specs.Global.{Vec}
use mathlib.Core.Bool.{beq}
use Rattle.indexmap.specs.IndexMap.{IndexMap, get}
use Rattle.hep_machine.specs.Words.{without}
use Rattle.hep_cells.specs.declared.want.Want.{Want}

-- the test of `==`, by which the queues are looked up
abbrev pub want_eq : Want → Want → Bool
want_eq v w = nat_eq v.cell w.cell && beq v.full w.full

-- the processes in a list; none where there is no list
abbrev pub items_of : Option (Vec ℕ) → List ℕ
items_of None = []
items_of (Some list) = list.items

-- the processes in the list under a want
abbrev pub list_of : {S : Type 0} → IndexMap Want (Vec ℕ) S → Want → List ℕ
list_of lists want = items_of (get want_eq lists want)

-- the queues, with one more process at the end of that of a want
abbrev pub with_process : Want → ℕ → (Want → List ℕ) → Want → List ℕ
with_process want p lists w = if want_eq want w then lists w ++ p ∷ [] else lists w

-- the queues, without that of a want
abbrev pub without_list : Want → (Want → List ℕ) → Want → List ℕ
without_list want lists w = if want_eq want w then [] else lists w

-- the queues, with one process less in that of a want
abbrev pub without_process : Want → ℕ → (Want → List ℕ) → Want → List ℕ
without_process want p lists w = if want_eq want w then without p (lists w) else lists w
