-- What steps read in copies of all own cells stands in the cells themselves.
use Rattle.std.proofs.Common.{◌≡◌, ℕ, Bool, true, false, ◌||◌, nat_eq, if◌then◌else◌, List, [], ◌∷◌, length, refl, sym, ap, ◌∙◌, subst}
use Rattle.hep_machine.specs.Words.{Units, is_number_among, unit_at}
use Rattle.hep_image.specs.Private.{private_cells}
use Rattle.hep_step.specs.Simulation.{unit_code}
use Rattle.hep_private.specs.OwnState.{Values}
use Rattle.hep_private.specs.declared.ticket.TicketId.{TicketId}
use Rattle.hep_private.specs.Segments.{IsComputed, IsMadeFrom, SegmentValue, Start, value_copied}
use Rattle.hep_commit.specs.SegmentStarts.{copies_of, ticket_of}
use Rattle.hep_commit.specs.OwnCells.{own_cells_of}
use Rattle.hep_commit.proofs.OwnReads.{HaveLaws, read-by}
use Rattle.std.proofs.lemmas.Bool.{eqb-true}
use Rattle.hep_source.proofs.Tests.{numbers-turned}

-- each of these cells has a copy
copied-among : (values : Values) (cells : List ℕ) (c : ℕ) → is_number_among c cells ≡ true → value_copied (copies_of values cells) c ≡ values c
copied-among values [] c e = absurd cc
copied-among values (d ∷ ds) c e = by_test (nat_eq d c) refl (copied-among values ds c) where
  by_test : (b : Bool) → nat_eq d c ≡ b → (is_number_among c ds ≡ true → value_copied (copies_of values ds) c ≡ values c) → (if b then values d else value_copied (copies_of values ds) c) ≡ values c
  by_test true same rest = ap values (eqb-true d c same)
  by_test false other rest = rest (sym (ap (λ b. b || is_number_among c ds) (numbers-turned c d ∙ other)) ∙ e)

pub computed-made : HaveLaws → (program : Units) (start : Start) (id : TicketId) (s : SegmentValue) → IsComputed program (ticket_of id start (own_cells_of program start.unit)) s → IsMadeFrom program start s
computed-made laws program start id s h =
    let copies = value_copied (copies_of start.values (own_cells_of program start.unit)) in
    let private = private_cells (unit_at program s.unit) in
    let code = unit_code program s.unit in
    let alike : (c : ℕ) → is_number_among c (own_cells_of program s.unit) ≡ true → start.values c ≡ copies c =
    λ c among. sym (copied-among start.values (own_cells_of program start.unit) c (subst (λ u. is_number_among c (own_cells_of program u) ≡ true) h.unit among)) in
    let read = read-by program s.unit (length s.records) laws s.index s.operands copies start.values s.records h.made.end alike h.made.made in
    let again = laws.same private code (length s.records) s.index s.operands copies start.values s.records h.made.end h.made.made read in (
      record { unit = h.unit; index = h.index; operands = h.operands },
      record { end = again.0; made = again.1; index = again.2 ∙ h.made.index; operands = again.3 ∙ h.made.operands },
    )
