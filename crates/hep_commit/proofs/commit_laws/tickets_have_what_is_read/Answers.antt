use Rattle.hep_commit.proofs.Copies.{computed-made}
use Rattle.hep_commit.proofs.commit_laws.tickets_have_what_is_read.Goals as goal

pub returns : goal.returns
returns c = computed-made (record { read = c.private_steps_depend_on_reads.ensures.read; same = c.private_steps_depend_on_reads.ensures.same })
