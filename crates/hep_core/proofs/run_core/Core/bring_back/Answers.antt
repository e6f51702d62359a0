use Rattle.std.proofs.Common.{◌≡◌, true, subst}
use Rattle.hep_core.proofs.ProcessesOut.{out-still}
use Rattle.hep_core.specs.Tickets.{is_out}
use Rattle.hep_core.proofs.run_core.Core.bring_back.Goals as goal

pub invariant_of-self : goal.invariant_of-self
invariant_of-self c =
    let i = c.self.inside in
    let k = c.self.invariant in
    record {
      after = k.after;
      listed = k.listed;
      room = k.room;
      legal = k.legal;
      few = k.few;
      named = k.named;
      living = λ q away. k.living q (out-still c.args.p q i.out.items (subst (λ ts. is_out q ts ≡ true) c.come_back.ensures away)).0;
      tabled = k.tabled;
      owned = k.owned;
    }
