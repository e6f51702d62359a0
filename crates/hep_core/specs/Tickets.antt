-- The tickets that are out: the words of `hep_private`.
pub use Rattle.hep_private.specs.Tickets.{is_out, has_ticket, without_process}
