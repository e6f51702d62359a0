use Rattle.std.proofs.Common.{◌≡◌, ◌∙◌, ◌-◌, ℕ, List, Option, Some, None, MatchOption, length, rules, sym, slice_get}
use Rattle.hep_machine.specs.declared.event.Entry.{Entry}
use Rattle.hep_machine.specs.Words.{last_process}
use Rattle.hep_core.proofs.Histories.{last-none, last-some}
use Rattle.hep_core.proofs.run_core.Core.last_process.Goals as goal

-- the process of the last entry, where one is read, and else 0
last-read : (es : List Entry) (o : Option Entry) (p : ℕ) (P : Entry → Type 0) → ((e : Entry) → P e → p ≡ e.process) → o ≡ slice_get es (length es - 1) → MatchOption o (p ≡ 0) P → p ≡ last_process es
last-read es None p P by read is = is ∙ sym (last-none es (sym read))
last-read es (Some e) p P by read is = by e is ∙ sym (last-some es e (sym read))

pub returns : goal.returns
returns c = rw (← c.self.view_is) (last-read c.self.inside.history.items c.last.result c.map_or.result _ (λ e given. search rules) c.last.ensures c.map_or.ensures)
