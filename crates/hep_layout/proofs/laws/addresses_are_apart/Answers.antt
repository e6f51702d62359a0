use Rattle.std.proofs.Common.{length, sym, subst}
use Rattle.hep_arena.specs.Holes.{IsOut}
use Rattle.hep_layout.proofs.Addresses.{address-out, one-location}
use Rattle.hep_layout.proofs.laws.addresses_are_apart.Goals as goal

pub returns : goal.returns
returns c = record {
  one = one-location;
  inside = λ program s cells layout at p laid e. (address-out program s cells layout at p laid e).0;
  out = λ program s layout contents holes at p h e. subst (IsOut p) (sym h.holes_are) (address-out program s (length contents) layout at p h.laid e).1;
}
