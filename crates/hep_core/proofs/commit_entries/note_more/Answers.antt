use Rattle.std.proofs.Common.{◌≡◌, ◌+◌, ◌<◌, ◌≤◌, ◌^◌, ℕ, List, [], ◌∷◌, ◌++◌, MatchOption, Option, Some, None, ap, arith, length, length-append}
use Rattle.hep_machine.specs.declared.event.Entry.{Entry}
use Rattle.hep_core.specs.Commits.{HasMore}
use Rattle.hep_core.proofs.commit_entries.note_more.Goals as goal

-- the last entry was taken off
more-by : (old mid new : List Entry) (p n : ℕ) (r : Option Entry) → MatchOption r ((old ≡ []) × (mid ≡ [])) (λ e. old ≡ mid ++ e ∷ []) → 0 < length old → new ≡ mid ++ record { process = p; steps = n } ∷ [] → HasMore p n old new
more-by old mid new p n None none some is = absurd (omega (arith, some, ap length none.0))
more-by old mid new p n (Some e) was some is = (mid, e, was, is)

fewer-by : (old mid : List Entry) (r : Option Entry) → MatchOption r ((old ≡ []) × (mid ≡ [])) (λ e. old ≡ mid ++ e ∷ []) → 0 < length old → length mid + 1 ≤ length old
fewer-by old mid None none some = omega (arith, some, ap length none.0)
fewer-by old mid (Some e) was some = omega (arith, ap length was, length-append mid (e ∷ []))

pub returns : goal.returns
returns c = more-by c.args.history.now.items c.pop.new.self.items c.push.new.self.items c.args.p c.args.steps c.pop.result c.pop.ensures.items c.requires.some c.push.ensures.items

pub push-requires-clause-few : goal.push-requires-clause-few
push-requires-clause-few c = omega (arith, fewer-by c.args.history.now.items c.pop.new.self.items c.pop.result c.pop.ensures.items c.requires.some, c.requires.few)
