use Rattle.std.proofs.Common.{◌≡◌, ◌-◌, Some, ap, arith, slice_get, sym, ◌∙◌}
use Rattle.hep_history.specs.Entries.{EntriesLeft}
use Rattle.hep_history.specs.Runs.{end_of_shorts, entries_of, runs_in, runs_of_shorts}
use Rattle.hep_history.proofs.InRuns.{in_last, in_longs, in_shorts, last_here, last_past}
use Rattle.hep_history.proofs.history.History.get.Goals as goal

pub returns-then-index-end : goal.returns-then-index-end
returns-then-index-end c =
    let h = c.self.inside in
    let ends : c.end_of-end.result ≡ end_of_shorts 0 h.shorts.items = c.end_of-end.ensures ∙ ap (λ ss. end_of_shorts 0 ss) c.deref.ensures.value in
    c.short_at.ensures
    ∙ ap (λ ss. slice_get (entries_of (runs_of_shorts 0 ss)) c.args.index) c.deref-then-index-end.ensures.value
    ∙ sym (in_shorts h.shorts.items h.longs.items h.last c.args.index c.self.invariant.rising (omega (arith, ends, c.if-index-end.true)))
    ∙ ap (λ (k : EntriesLeft). slice_get k.items c.args.index) c.self.view_is

pub returns-then-index-self : goal.returns-then-index-self
returns-then-index-self c =
    let h = c.self.inside in
    let ends : c.end_of-end.result ≡ end_of_shorts 0 h.shorts.items = c.end_of-end.ensures ∙ ap (λ ss. end_of_shorts 0 ss) c.deref.ensures.value in
    c.long_at.ensures
    ∙ ap (λ ls. slice_get (entries_of ls) (c.args.index - c.end_of-end.result)) c.deref-then-index-self.ensures.value
    ∙ sym (in_longs h.shorts.items h.longs.items h.last c.args.index (c.args.index - c.end_of-end.result) c.self.invariant.rising (omega (arith, ends, c.if-index-end.false)) (omega (arith, c.if-index-self.true, c.self.invariant.closed)))
    ∙ ap (λ (k : EntriesLeft). slice_get k.items c.args.index) c.self.view_is

pub returns-then-index-self-2 : goal.returns-then-index-self-2
returns-then-index-self-2 c =
    let h = c.self.inside in
    ap (λ e. Some e) c.entry.ensures
    ∙ sym (in_last (runs_in h.shorts.items h.longs.items) h.last c.args.index (c.args.index - h.closed) (omega (arith, c.self.invariant.closed, c.if-index-self.false)) ∙ last_here h.last (c.args.index - h.closed) c.if-index-self-2.true)
    ∙ ap (λ (k : EntriesLeft). slice_get k.items c.args.index) c.self.view_is

pub returns : goal.returns
returns c =
    let h = c.self.inside in
    sym (in_last (runs_in h.shorts.items h.longs.items) h.last c.args.index (c.args.index - h.closed) (omega (arith, c.self.invariant.closed, c.if-index-self.false)) ∙ last_past h.last (c.args.index - h.closed) c.if-index-self-2.false)
    ∙ ap (λ (k : EntriesLeft). slice_get k.items c.args.index) c.self.view_is
