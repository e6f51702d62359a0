use Rattle.std.proofs.Common.{ℕ, ◌<◌, List, ap, length, take, subst, inl, inr}
use Rattle.std.specs.Io.KnownBytes.{Appends}
use Rattle.hep_history.specs.Entries.{EntriesLeft}
use Rattle.hep_run.specs.Delivery.{WritesMessages}
use Rattle.hep_outcome.specs.Transcripts.{outcome_of}
use Rattle.hep_run.proofs.Messages.{left_by}
use Rattle.hep_run.proofs.delivery.deliver.Goals as goal

pub returns-in-Err : goal.returns-in-Err
returns-in-Err g c =
    let n = c.in-Err.fault.written in
    let prefix = subst (λ (l : List ℕ). Appends (g.W.Write.contents c.args.output.now) (g.W.Write.contents c.put_all.new.writer) (take n l)) c.deref.ensures.value c.in-Err.ensures.prefix in
    inr (record {
      status = c.new.ensures.status;
      history = ap (λ (k : EntriesLeft). k.items) c.new.ensures.history;
      taken = inl (n, subst (λ (l : List ℕ). n < length l) c.deref.ensures.value c.in-Err.ensures.fewer, prefix, c.say_broken.ensures);
    })

pub returns : goal.returns
returns g c =
    let r = c.args.transcript in
    let taken = subst (Appends (g.W.Write.contents c.args.output.now) (g.W.Write.contents c.put_all.new.writer)) c.deref.ensures.value c.in_default.ensures.all in
    let said = subst (λ (l : List ℕ). WritesMessages l r.status r.history.items c.write_messages.result (g.E.Write.contents c.args.messages.now) (g.E.Write.contents c.write_messages.new.messages)) c.as_slice.ensures c.write_messages.ensures in
    left_by (outcome_of r) c.write_messages.result _ _ _ _ taken said
