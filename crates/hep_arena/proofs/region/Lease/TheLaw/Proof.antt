-- A `&` to a lease holds nothing. Assumes `Logic`.
use base.Fraction.{full_share}
use denote.Memory.{part_at}
use denote.SharingLaws.{nothing_shr_laws}
use denote.Struct.Lending.{Lends-nothing}
use Rattle.hep_arena.specs.contracts.region.Lease as lease
use Rattle.hep_arena.proofs.region.Lease.TheLaw.Statement.{statement}

pub shares : statement
shares = record {
  shr_laws = λ d b o. nothing_shr_laws;
  shares = λ M 𝓤 𝓛 d κ ts b o. Lends-nothing 𝓛 (part_at lease.the_written full_share d b o) lease.the_written.lives κ ts;
}
