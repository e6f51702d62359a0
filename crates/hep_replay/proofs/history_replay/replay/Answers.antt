use Rattle.std.proofs.Common.{◌≡◌, ◌∙◌, ℕ, IfErr, IfOk, List, OnOk, ap, length, subst, take}
use Rattle.std.proofs.Math.Seq.{take-length}
use Rattle.hep_machine.specs.declared.event.Entry.{Entry}
use Rattle.hep_machine.specs.Words.{schedule_of}
use Rattle.hep_replay.specs.Replays.{ArePossible, IsUnmade, replayed}
use Rattle.hep_replay.proofs.history_replay.replay.Goals as goal

-- the first ones, as many as there are, are all
all : (es : List Entry) (n : ℕ) → n ≡ length es → take n es ≡ es
all es n count = ap (λ m. take m es) count ∙ take-length es

pub returns-clause-made : goal.returns-clause-made
returns-clause-made c =
    subst (λ (es : List Entry). IfOk c.replay_first.result (λ made. made.core ≡ replayed c.args.image c.args.cells es)) (all c.args.entries.now.items c.len.result c.len.ensures.count) c.replay_first.ensures.made

pub returns-clause-expanded : goal.returns-clause-expanded
returns-clause-expanded c =
    subst (λ (es : List Entry). IfOk c.replay_first.result (λ made. schedule_of made.core.history ≡ schedule_of es)) (all c.args.entries.now.items c.len.result c.len.ensures.count) c.replay_first.ensures.expanded

pub returns-clause-possible : goal.returns-clause-possible
returns-clause-possible c =
    subst (λ (es : List Entry). OnOk c.replay_first.result (ArePossible c.args.image c.args.cells es (length es))) (all c.args.entries.now.items c.len.result c.len.ensures.count) c.replay_first.ensures.possible

pub returns-clause-unmade : goal.returns-clause-unmade
returns-clause-unmade c =
    subst (λ (es : List Entry). IfErr c.replay_first.result (IsUnmade c.args.image c.args.cells es)) (all c.args.entries.now.items c.len.result c.len.ensures.count) c.replay_first.ensures.unmade
