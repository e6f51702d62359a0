use Rattle.std.proofs.Common.{◌≡◌, ◌∙◌, [], Some, ap, sym, slice_get}
use Rattle.std.specs.Option.{option_map}
use Rattle.hep_machine.specs.Words.{unit_at, function_called, function_name, is_named}
use Rattle.hep_names.proofs.Passes.{found-within, item-read}
use Rattle.hep_names.proofs.program.ProgramSymbols.function.Goals as goal

pub returns-in-Some : goal.returns-in-Some
returns-in-Some c =
    let program = c.args.self.now in
    let k = c.in-Some.number in
    let e : function_called program c.args.name.now ≡ Some k = sym c.function_called.ensures ∙ c.in-Some.is in
    let f = found-within (λ unit. is_named (function_name unit) c.args.name.now) program k [] e in
    let v : c.deref.result.now ≡ program = c.deref.ensures.value ∙ c.self.view_is in
    item-read _ c.deref.result.now k c.get.result (unit_at program k) c.get.ensures.lookup.3 c.get.ensures.lookup.1 (ap (λ us. slice_get us k) v ∙ f)
    ∙ ap (option_map (unit_at program)) (sym e)
