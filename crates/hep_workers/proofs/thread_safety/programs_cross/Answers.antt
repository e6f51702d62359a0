use Rattle.std.proofs.Crossing.{crosses}
use mathlib.Core.List.{List, [], ◌∷◌}
use denote.Enum.Declared.{Record, declared, row}
use denote.Hole.{as_row}
use denote.Struct.Field.{Field}
use denote.Param.Send.{IsSend, IsSync, sendable, view_send, view_sync}
use denote.Param.SendFields.{FieldsHave, VariantsHave, as_row_send, as_row_sync, declared_send, declared_sync, variants_send, variants_sync}
use denote.RattleType.{RattleType}
use Rattle.hep_base.specs.contracts.sequence.Sequence as sequence
use denote.Builtin.{u8, u32}
use Rattle.std.specs.contracts.option.Option as option
use Rattle.hep_source.specs.contracts.program.Program as program
use Rattle.hep_source.specs.contracts.program.Program.TheInside as programs
use Rattle.hep_source.specs.contracts.program.Unit as unit
use Rattle.hep_source.specs.contracts.program.Unit.TheInside as units
use Rattle.hep_source.specs.contracts.value.Value as value
use Rattle.hep_source.specs.contracts.declaration.Repeat as repeat
use Rattle.hep_source.specs.contracts.declaration.DataConstant as datum
use Rattle.hep_source.specs.contracts.declaration.DataValue as given
use Rattle.hep_source.specs.contracts.declaration.LetterRange as range
use Rattle.hep_source.specs.contracts.declaration.ValueType as type
use Rattle.hep_source.specs.contracts.declaration.Dimension as dimension
use Rattle.hep_source.specs.contracts.declaration.UpperBound as bound
use Rattle.hep_source.specs.contracts.expression.Expr as expression
use Rattle.hep_source.specs.contracts.name.Occurrence as occurrence
use Rattle.hep_source.specs.contracts.name.Name as name
use Rattle.hep_source.specs.contracts.declaration.Target as target
use Rattle.hep_source.specs.contracts.declaration.DataGroup as group
use Rattle.hep_source.specs.contracts.declaration.CommonBlock as block
use Rattle.hep_source.specs.contracts.declaration.NamedConstant as constant
use Rattle.hep_source.specs.contracts.declaration.Declarator as declarator
use Rattle.hep_source.specs.contracts.declaration.ImplicitGroup as letters
use Rattle.hep_source.specs.contracts.statement.PrintItem as item
use Rattle.hep_source.specs.contracts.statement.DoControl as control
use Rattle.hep_source.specs.contracts.statement.SignLabels as signs
use Rattle.hep_source.specs.contracts.statement.Form as form
use Rattle.hep_source.specs.contracts.statement.Statement as statement
use Rattle.hep_workers.proofs.thread_safety.programs_cross.Goals as goal

-- each field has it
data Fields (Has : RattleType → Type 0) : List Field → Type 2 where
  nil : Fields Has []
  cons : {F : Field} {Fs : List Field} → Has (as_row F) → Fields Has Fs → Fields Has (F ∷ Fs)

-- each field of each variant has it
data Variants (Has : RattleType → Type 0) : List (List Field) → Type 2 where
  none : Variants Has []
  more : {Fs : List Field} {Fss : List (List Field)} → Fields Has Fs → Variants Has Fss → Variants Has (Fs ∷ Fss)

-- so it is as the kit has it
fields-have : {Has : RattleType → Type 0} {Fs : List Field} → Fields Has Fs → FieldsHave Has Fs
fields-have nil = tt
fields-have (cons h rest) = (h, fields-have rest)

-- and of variants
variants-have : {Has : RattleType → Type 0} {Fss : List (List Field)} → Variants Has Fss → VariantsHave Has Fss
variants-have none = tt
variants-have (more h rest) = (fields-have h, variants-have rest)

-- an enum may be sent where its fields may
variants-send : (N : Record) → Variants IsSend N.parts → IsSend (row (declared N))
variants-send N h = variants_send N (variants-have h)

-- and shared
variants-sync : (N : Record) → Variants IsSync N.parts → IsSync (row (declared N))
variants-sync N h = variants_sync N (variants-have h)

-- an enum by the fields of its variants, however many it has
ruleset by_fields = (variants-send, variants-sync, none, more, nil, cons, as_row_send, as_row_sync)

-- may be sent and shared
abbrev Crosses : RattleType → Type 0
Crosses T = IsSend T × IsSync T

name-crosses : Crosses name.the_row
name-crosses = (
  search (crosses, sendable, declared_send, as_row_send) depth 30 fits 5000,
  search (crosses, sendable, declared_sync, as_row_sync) depth 30 fits 5000,
)

occurrence-crosses : Crosses occurrence.the_row
occurrence-crosses = (
  search (crosses, sendable, declared_send, as_row_send, name-crosses.0) depth 30 fits 5000,
  search (crosses, sendable, declared_sync, as_row_sync, name-crosses.1) depth 30 fits 5000,
)

value-crosses : Crosses value.the_row
value-crosses = (
  search (crosses, sendable, variants_send, as_row_send) depth 20,
  search (crosses, sendable, variants_sync, as_row_sync) depth 20,
)

u8-crosses : Crosses u8
u8-crosses = (
  search sendable depth 20,
  search sendable depth 20,
)

u32-crosses : Crosses u32
u32-crosses = (
  search sendable depth 20,
  search sendable depth 20,
)

repeat-crosses : Crosses repeat.the_row
repeat-crosses = (
  search (crosses, sendable, variants_send, as_row_send, occurrence-crosses.0) depth 20,
  search (crosses, sendable, variants_sync, as_row_sync, occurrence-crosses.1) depth 20,
)

datum-crosses : Crosses datum.the_row
datum-crosses = (
  search (crosses, sendable, variants_send, occurrence-crosses.0, value-crosses.0) depth 20,
  search (crosses, sendable, variants_sync, occurrence-crosses.1, value-crosses.1) depth 20,
)

given-crosses : Crosses given.the_row
given-crosses = (
  search (crosses, sendable, declared_send, variants_send, as_row_send, repeat-crosses.0, datum-crosses.0) depth 20,
  search (crosses, sendable, declared_sync, variants_sync, as_row_sync, repeat-crosses.1, datum-crosses.1) depth 20,
)

range-crosses : Crosses range.the_row
range-crosses = (
  search (crosses, sendable, declared_send, as_row_send) depth 20,
  search (crosses, sendable, declared_sync, as_row_sync) depth 20,
)

type-crosses : Crosses type.the_row
type-crosses = (
  search (crosses, sendable, variants_send) depth 20,
  search (crosses, sendable, variants_sync) depth 20,
)

sequence-send : (T : RattleType) → IsSend T → IsSend (sequence.the_row T)
sequence-send T s = search (crosses, sendable, declared_send) depth 20

sequence-sync : (T : RattleType) → IsSync T → IsSync (sequence.the_row T)
sequence-sync T s = search (crosses, sendable, declared_sync) depth 20

signs-crosses : Crosses signs.the_row
signs-crosses = (
  search (sendable, declared_send, as_row_send) depth 20,
  search (sendable, declared_sync, as_row_sync) depth 20,
)

text-crosses : Crosses (sequence.the_row u8)
text-crosses = (sequence-send u8 u8-crosses.0, sequence-sync u8 u8-crosses.1)

module _ (expression-crosses : Crosses expression.the_row) where
  target-crosses : Crosses target.the_row
  target-crosses = (
    search (tt, declared_send, as_row_send, occurrence-crosses.0, sequence-send, expression-crosses.0) depth 20,
    search (tt, declared_sync, as_row_sync, occurrence-crosses.1, sequence-sync, expression-crosses.1) depth 20,
  )

  control-crosses : Crosses control.the_row
  control-crosses = (
    search (crosses, sendable, declared_send, variants_send, as_row_send, occurrence-crosses.0, expression-crosses.0) depth 20,
    search (crosses, sendable, declared_sync, variants_sync, as_row_sync, occurrence-crosses.1, expression-crosses.1) depth 20,
  )

  item-crosses : Crosses item.the_row
  item-crosses = (
    search (sendable, variants_send, text-crosses.0, expression-crosses.0) depth 20,
    search (sendable, variants_sync, text-crosses.1, expression-crosses.1) depth 20,
  )

  group-crosses : Crosses group.the_row
  group-crosses = (
    search (tt, declared_send, as_row_send, sequence-send, target-crosses.0, given-crosses.0) depth 20,
    search (tt, declared_sync, as_row_sync, sequence-sync, target-crosses.1, given-crosses.1) depth 20,
  )

  bound-crosses : Crosses bound.the_row
  bound-crosses = (
    search (tt, variants_send, expression-crosses.0) depth 20,
    search (tt, variants_sync, expression-crosses.1) depth 20,
  )

  dimension-crosses : Crosses dimension.the_row
  dimension-crosses = (
    search (crosses, sendable, declared_send, variants_send, as_row_send, bound-crosses.0, expression-crosses.0) depth 20,
    search (crosses, sendable, declared_sync, variants_sync, as_row_sync, bound-crosses.1, expression-crosses.1) depth 20,
  )

  declarator-crosses : Crosses declarator.the_row
  declarator-crosses = (
    search (tt, declared_send, as_row_send, sequence-send, occurrence-crosses.0, dimension-crosses.0) depth 20,
    search (tt, declared_sync, as_row_sync, sequence-sync, occurrence-crosses.1, dimension-crosses.1) depth 20,
  )

  block-crosses : Crosses block.the_row
  block-crosses = (
    search (crosses, sendable, declared_send, variants_send, as_row_send, sequence-send, occurrence-crosses.0, declarator-crosses.0) depth 20,
    search (crosses, sendable, declared_sync, variants_sync, as_row_sync, sequence-sync, occurrence-crosses.1, declarator-crosses.1) depth 20,
  )

  letters-crosses : Crosses letters.the_row
  letters-crosses = (
    search (tt, declared_send, as_row_send, sequence-send, type-crosses.0, range-crosses.0) depth 20,
    search (tt, declared_sync, as_row_sync, sequence-sync, type-crosses.1, range-crosses.1) depth 20,
  )

  constant-crosses : Crosses constant.the_row
  constant-crosses = (
    search (tt, declared_send, occurrence-crosses.0, expression-crosses.0) depth 20,
    search (tt, declared_sync, occurrence-crosses.1, expression-crosses.1) depth 20,
  )

  optional-crosses : Crosses (option.the_row type.the_row)
  optional-crosses = (
    search (crosses, sendable, variants_send, type-crosses.0) depth 20,
    search (crosses, sendable, variants_sync, type-crosses.1) depth 20,
  )

  -- whatever variants it has: each of its types is here
  -- whatever variants it has, where the types of their fields are here
  form-crosses : Crosses form.the_row
  form-crosses = (
    search (
      by_fields,
      sequence-send,
      expression-crosses.0,
      occurrence-crosses.0,
      type-crosses.0,
      optional-crosses.0,
      target-crosses.0,
      control-crosses.0,
      signs-crosses.0,
      letters-crosses.0,
      declarator-crosses.0,
      block-crosses.0,
      constant-crosses.0,
      group-crosses.0,
      item-crosses.0,
      u32-crosses.0,
    ) depth 100 fits 10000,
    search (
      by_fields,
      sequence-sync,
      expression-crosses.1,
      occurrence-crosses.1,
      type-crosses.1,
      optional-crosses.1,
      target-crosses.1,
      control-crosses.1,
      signs-crosses.1,
      letters-crosses.1,
      declarator-crosses.1,
      block-crosses.1,
      constant-crosses.1,
      group-crosses.1,
      item-crosses.1,
      u32-crosses.1,
    ) depth 100 fits 10000,
  )

  statement-crosses : Crosses statement.the_row
  statement-crosses = (
    search (crosses, sendable, declared_send, variants_send, as_row_send, sequence-send, expression-crosses.0, form-crosses.0) depth 30,
    search (crosses, sendable, declared_sync, variants_sync, as_row_sync, sequence-sync, expression-crosses.1, form-crosses.1) depth 30,
  )

  unit-crosses : Crosses unit.the_row
  unit-crosses = (
    view_send (units.the_row) _ _ _ _ (declared_send units.the_type (search (crosses, statement-crosses.0) depth 10, tt)),
    view_sync (units.the_row) _ _ _ _ (declared_sync units.the_type (search (crosses, statement-crosses.1) depth 10, tt)),
  )

  program-crosses : Crosses program.the_row
  program-crosses = (
    view_send (programs.the_row) _ _ _ _ (declared_send programs.the_type (search (crosses, unit-crosses.0) depth 10, tt)),
    view_sync (programs.the_row) _ _ _ _ (declared_sync programs.the_type (search (crosses, unit-crosses.1) depth 10, tt)),
  )

pub returns : goal.returns
returns c =
    let program = program-crosses (c.expressions_cross.ensures.send, c.expressions_cross.ensures.sync) in
    record { send = program.0; sync = program.1 }
