use Rattle.std.proofs.Common.{drop, length, sym, ap, ◌∙◌, arith, ◌≡◌, ℕ, List, subst}
use Rattle.hep_code.specs.Words.{values_ahead, IsPastPushes, Stands, AddressedUnit, code_of, left_to_do}
use Rattle.hep_step.specs.Simulation.{unit_code, unit_addressed}
use Rattle.hep_proc.specs.declared.process.Local.{Local}
use Rattle.hep_proc.proofs.Levels.{operands-are, some-levels}
use Rattle.hep_state.proofs.top_code.settle_top.Goals as goal
use Rattle.hep_machine.specs.Words.{Value, Units, Work}
use Rattle.hep_code.specs.declared.instruction.Instruction.{Instruction}
use Rattle.hep_state.specs.Words.{IsSettled, LeavesSame}

-- what its code says is what the unit's code says
settled-here : (program : Units) (top l : Local) (was operands new : List Value) (index : ℕ) (code : List Instruction) → code ≡ unit_code program top.unit → top ≡ l → was ≡ operands
    → IsPastPushes code index
    → ((addressed : AddressedUnit) (k : ℕ) (work : Work) → code ≡ code_of addressed → Stands addressed k work was top.index → Stands addressed k work new index)
    → IsSettled program l.unit operands l.index new index
settled-here program top l was operands new index code is same ops past stands =
    subst (λ (m : Local). IsSettled program m.unit operands m.index new index) same (
    subst (λ vs. IsSettled program top.unit vs top.index new index) ops (record {
      past = subst (λ c. IsPastPushes c index) is past;
      stands = λ k work s. stands (unit_addressed program top.unit) k work is s;
    }))

-- and what is to be done is the same
left-here : (program : Units) (top l : Local) (was operands new : List Value) (index : ℕ) (code : List Instruction) → code ≡ unit_code program top.unit → top ≡ l → was ≡ operands
    → left_to_do new index code ≡ left_to_do was top.index code → LeavesSame program l.unit operands l.index new index
left-here program top l was operands new index code is same ops left =
    subst (λ (m : Local). LeavesSame program m.unit operands m.index new index) same (
    subst (λ vs. LeavesSame program top.unit vs top.index new index) ops (
    subst (λ c. left_to_do new index c ≡ left_to_do was top.index c) is left))

pub top-index-requires : goal.top-index-requires
top-index-requires c = let r = c.requires in some-levels c.args.process.now r.0 r.1 r.2 r.3 r.4

pub settle-requires : goal.settle-requires
settle-requires c =
    let r = c.requires in
    let q = c.args.process.now in
    let same = c.top-index.ensures r.0 r.1 r.2 r.3 r.4 in
    let ahead = ap (λ (l : Local). values_ahead (drop l.index c.args.code.now)) same in
    let count = q.operands.ok.0 ∙ ap length (operands-are q r.0 r.1 r.2 r.3 r.4) in
    omega (arith, ahead, count, r.5)

pub stand_at-requires : goal.stand_at-requires
stand_at-requires c = let r = c.requires in some-levels c.args.process.now r.0 r.1 r.2 r.3 r.4

pub returns-clause-settled : goal.returns-clause-settled
returns-clause-settled c program l ls operands pending code is =
    let q = c.args.process.now in
    let same = c.top-index.ensures l ls operands pending is in
    let settled = c.settle.new.operands.items in
    let index = c.settle.new.index in (
      index,
      settled,
      c.stand_at.ensures.stack l ls settled pending (λ i. record { levels = (is i).levels; operands = settled; pending = (is i).pending }),
      settled-here program c.top-index.result l q.operands.items operands settled index c.args.code.now (code ∙ ap (λ (m : Local). unit_code program m.unit) (sym same)) same (operands-are q l ls operands pending is) c.settle.ensures.settled c.settle.ensures.stands,
      left-here program c.top-index.result l q.operands.items operands settled index c.args.code.now (code ∙ ap (λ (m : Local). unit_code program m.unit) (sym same)) same (operands-are q l ls operands pending is) c.settle.ensures.same,
    )
