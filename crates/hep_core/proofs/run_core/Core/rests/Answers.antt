use Rattle.std.proofs.Common.{◌≡◌, ◌∙◌, None, true, rules, sym, subst}
use Rattle.hep_machine.specs.Words.{schedule_of}
use Rattle.hep_commit.specs.DecodedImages.{AreTables}
use Rattle.hep_state.specs.Words.{snapshot_of}
use Rattle.hep_core.specs.CoreValues.{IsStop}
use Rattle.hep_core.proofs.GoodTickets.{halted-is}
use Rattle.hep_core.proofs.run_core.Core.rests.Goals as goal

pub lives-requires : goal.lives-requires
lives-requires c = c.self.invariant.after.numbers

pub rests-requires : goal.rests-requires
rests-requires c =
    let i = c.self.inside in
    let k = c.self.invariant in
    let stop : i.stop ≡ None = search rules in
    let going = subst (IsStop i.image i.cells i.limit i.history.items) stop k.named in
    let lives : c.lives.result ≡ true = search rules in
    record {
      turn = record {
        after = (i.cells, schedule_of i.history.items, k.after);
        running = halted-is i.image i.cells i.history.items (snapshot_of i.machine) k.after.after ∙ going;
        living = c.lives.ensures.levels lives;
      };
      tables = subst (AreTables i.image) (sym c.deref.ensures.value) k.tabled;
    }
