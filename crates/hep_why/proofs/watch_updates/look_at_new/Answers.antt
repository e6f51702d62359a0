use Rattle.std.proofs.Common.{inl, inr, refl}
use Rattle.hep_why.proofs.watch_updates.look_at_new.Goals as goal

pub returns-then-made_now-made : goal.returns-then-made_now-made
returns-then-made_now-made c = inr (c.if-made_now-made.true, refl)

pub returns : goal.returns
returns c = inl c.look_at_all.ensures
