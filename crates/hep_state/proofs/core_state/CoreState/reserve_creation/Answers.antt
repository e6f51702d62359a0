use Rattle.std.proofs.Common.{◌≡◌, ◌∙◌}
use Rattle.hep_proc.specs.declared.frames.Frames.{Frames}
use Rattle.hep_proc.specs.Nodes.{nodes_of}
use Rattle.hep_state.specs.declared.core_state.CoreState.{CoreState}
use Rattle.hep_state.specs.Words.{ShowsSame, snapshot_of}
use Rattle.hep_state.proofs.core_state.CoreState.reserve_creation.Goals as goal

-- where a node got room too
with-node : (old mid : CoreState) (frames : Frames) → ShowsSame old mid → frames.arena ≡ mid.frames.arena → nodes_of frames.nodes ≡ nodes_of mid.frames.nodes → ShowsSame old (record mid { frames = frames })
with-node old mid frames same arena nodes =
    record {
      shown = (λ i. record (snapshot_of mid) { arena = arena i; nodes = nodes i }) ∙ same.shown;
      made = same.made;
      passing = same.passing;
      rooms = λ program cells h. let k = same.rooms program cells h in record { few = k.few; to_pass = k.to_pass; room = k.room; numbers = k.numbers };
    }

pub returns-in_err-reserve-clause-same : goal.returns-in_err-reserve-clause-same
returns-in_err-reserve-clause-same c = with-node c.args.self.now c.reserve_process.new.self c.reserve.new.self c.reserve_process.ensures.same c.reserve.ensures.arena c.reserve.ensures.nodes

pub returns-clause-same : goal.returns-clause-same
returns-clause-same c = with-node c.args.self.now c.reserve_process.new.self c.reserve.new.self c.reserve_process.ensures.same c.reserve.ensures.arena c.reserve.ensures.nodes
