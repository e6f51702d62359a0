-- The tickets that are out: docs/MACHINE.md, "Workers".
use Rattle.std.specs.Prelude.{ℕ, Bool, ◌&&◌, nat_eq, not, List}
use Rattle.std.specs.List.{filter, list_any}
use Rattle.hep_private.specs.declared.ticket.TicketId.{TicketId}

abbrev pub is_out : ℕ → List TicketId → Bool
is_out p out = list_any (λ t. nat_eq t.process p) out

abbrev pub has_ticket : TicketId → List TicketId → Bool
has_ticket id out = list_any (λ t. nat_eq t.process id.process && nat_eq t.number id.number) out

abbrev pub without_process : ℕ → List TicketId → List TicketId
without_process p out = filter (λ t. not (nat_eq t.process p)) out
