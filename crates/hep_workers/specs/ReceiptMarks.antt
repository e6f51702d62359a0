-- Marking the entries of a history that receipts name.
use Rattle.std.specs.Prelude.{Bool, true, false, ◌&&◌, not, nat_eq, if◌then◌else◌, List, [], ◌∷◌, Option, Some, None, option_and_then, slice_get, slice_set}
use Rattle.hep_machine.specs.declared.event.Entry.{Entry}
use Rattle.hep_workers.specs.declared.receipt.Receipt.{Receipt}

-- there is an entry, and it is the receipt's
abbrev pub is_named_by : Receipt → Option Entry → Bool
is_named_by r None = false
is_named_by r (Some e) = nat_eq e.process r.process && nat_eq e.steps r.steps

-- there is a mark, and it isn't set
abbrev pub is_unset : Option Bool → Bool
is_unset None = false
is_unset (Some b) = not b

-- the mark of a receipt's entry is set, if there is one, and it wasn't
abbrev pub mark_at : Option Entry → List Bool → Receipt → Option (List Bool)
mark_at entry marks r =
    if is_named_by r entry && is_unset (slice_get marks r.index) then Some (slice_set marks r.index true) else None

abbrev pub mark : List Entry → List Bool → Receipt → Option (List Bool)
mark history marks r = mark_at (slice_get history r.index) marks r

-- the marks after all receipts; none where one of them couldn't be marked
abbrev pub marked : List Entry → List Bool → List Receipt → Option (List Bool)
marked history marks [] = Some marks
marked history marks (r ∷ rs) = option_and_then (λ after. marked history after rs) (mark history marks r)
