use Rattle.std.proofs.Common.{◌≡◌, ◌∙◌, Bool, List, [], Option, ap, arith, inl, inr, sym, ℕ}
use Rattle.hep_outcome.specs.declared.options.SampleOptions.{SampleOptions}
use Rattle.hep_outcome.specs.Outcome.{Outcome}
use Rattle.hep_outcome.specs.Statuses.{status_code}
use Rattle.hep_run.specs.declared.options.Run.{Run}
use Rattle.hep_run.specs.Delivery.{Leaves}
use Rattle.hep_run.specs.Sources.{IsRefusedProgram, IsRunnable}
use Rattle.hep_run.specs.Samples.{IsSampleOutcome, IsSampled}
use Rattle.hep_outcome.specs.Transcripts.{outcome_of}
use Rattle.hep_run.proofs.NoHistory.{left_alone}
use Rattle.hep_run.proofs.LargeSources.{large-delivered, large-status, wanted-small}
use Rattle.hep_run.proofs.sample.sample_bytes.Goals as goal

-- a sample has no history of its own
no_history : (long : Bool) (options : SampleOptions) (seeds source : List ℕ) (o : Outcome) → IsSampleOutcome long options seeds source o → o.history ≡ []
no_history long options seeds source o (inl (number, line, name, notes, refused, are, is)) = ap (λ (x : Outcome). x.history) is
no_history long options seeds source o (inr (program, holds, sampled)) = ap (λ (x : Outcome). x.history) sampled.3

pub returns-in-Ok-clause-left : goal.returns-in-Ok-clause-left
returns-in-Ok-clause-left g c =
    let long = c.args.asked.now.long in
    let options = c.args.asked.now.options.now in
    let seeds = c.in-Ok.seeds.items in
    let source = c.args.source.now in
    left_alone c.deliver.result _ _ _ _ (IsSampleOutcome long options seeds source) (no_history long options seeds source)
    (inr (outcome_of c.in-Ok.transcript, c.in-Ok.ensures.made, c.deliver.ensures))

pub returns-in-Ok-clause-large : goal.returns-in-Ok-clause-large
returns-in-Ok-clause-large g c =
    let long = c.args.asked.now.long in
    let source = c.args.source.now in
    large-status long source c.deliver.result _ _ _ _ (
    large-delivered long IsRefusedProgram IsRunnable (λ program. IsSampled long c.args.asked.now.options.now source c.in-Ok.seeds.items) source c.in-Ok.transcript c.deliver.result _ _ _ _ c.in-Ok.ensures.made c.deliver.ensures)

pub returns-in-Err-clause-large : goal.returns-in-Err-clause-large
returns-in-Err-clause-large g c = λ short large. absurd (wanted-small c.args.asked.now.long c.args.source.now short large c.in-Err.ensures.unmade)

-- it isn't NO MEMORY
never_wants : (long : Bool) (options : SampleOptions) (seeds source : List ℕ) (o : Outcome) → IsSampleOutcome long options seeds source o → status_code o.status ≡ 7 → ⊥
never_wants long options seeds source o (inl (number, line, name, notes, refused, are, is)) seven =
    let code = ap (λ (x : Outcome). status_code x.status) is in
    omega (arith, code, seven)
never_wants long options seeds source o (inr (program, holds, sampled)) seven =
    let code = ap (λ (x : Outcome). status_code x.status) sampled.3 in
    omega (arith, code, seven)

left_without : (o : Outcome) (run : Run) (output output' messages messages' : Option (List ℕ)) → (status_code o.status ≡ 7 → ⊥) → Leaves o run output output' messages messages' → run.status ≡ 7 → ⊥
left_without o run output output' messages messages' never (inl delivered) seven = never (sym delivered.status ∙ seven)
left_without o run output output' messages messages' never (inr broken) seven =
    let code = broken.status in
    omega (arith, code, seven)

pub returns-in-Ok-clause-none : goal.returns-in-Ok-clause-none
returns-in-Ok-clause-none g c = λ seven. absurd (
    left_without (outcome_of c.in-Ok.transcript) c.deliver.result _ _ _ _
    (never_wants c.args.asked.now.long c.args.asked.now.options.now c.in-Ok.seeds.items c.args.source.now (outcome_of c.in-Ok.transcript) c.in-Ok.ensures.made)
    c.deliver.ensures seven)
