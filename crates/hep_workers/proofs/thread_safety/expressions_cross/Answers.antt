use Rattle.hep_workers.proofs.thread_safety.expressions_cross.Goals as goal

pub returns : goal.returns
returns c = record {
  send = record { owned = c.cross.ensures.send.owned; leaving = λ k d w. tt };
  sync = record { shared = c.cross.ensures.sync.shared };
}
