use Rattle.std.proofs.Common.{◌≡◌, ◌<◌, ◌≤◌, ◌-◌, length, take, get_or, sym, ap, ◌∙◌, subst, arith, refl}
use Rattle.std.proofs.lemmas.List.{get_or-take}
use Rattle.hep_private.specs.Segments.{IsMadeBy}
use Rattle.hep_workers.specs.WorkBuffers.{IsBatchOf}
use Rattle.hep_workers.proofs.Splitting.{replaced-kept, replaced-long, replaced-more, taken-kept}
use Rattle.hep_workers.proofs.threads.WorkBuffers.make.Goals as goal

pub returns-then-is_enough : goal.returns-then-is_enough
returns-then-is_enough g c =
    record {
      room = omega (arith, c.loop-made.batches.ok.0, c.loop-made.invariant.0);
      recorded = λ none. absurd {A = IsMadeBy g.K.RunBrand.opening.program c.args.self.now.segment} (omega (arith, none, c.loop-made.auto.made));
      process = c.args.stand.now.ticket.id.process;
      of_process = c.loop-made.invariant.1;
    }

pub returns-then-not-has_room : goal.returns-then-not-has_room
returns-then-not-has_room g c =
    let v = c.has_room.new.batches in
    let of_process = IsBatchOf g.K.RunBrand.opening.program c.args.stand.now.ticket.id.process in
    record {
      room = omega (arith, v.ok.0, c.has_room.ensures.long, c.loop-made.invariant.0);
      recorded = λ none. absurd {A = IsMadeBy g.K.RunBrand.opening.program c.args.self.now.segment} (omega (arith, none, c.loop-made.auto.made));
      process = c.args.stand.now.ticket.id.process;
      of_process = taken-kept of_process c.loop-made.batches.items v.items c.loop-made.made c.has_room.ensures.kept c.loop-made.invariant.1;
    }

pub returns-then-not-follows : goal.returns-then-not-follows
returns-then-not-follows g c =
    let v = c.has_room.new.batches in
    let made = c.loop-made.made in
    let split = c.split_at_mut-before in
    let room : made < v.len = c.has_room.ensures.room c.if-not-has_room.false in
    let within : made < length v.items = omega (arith, v.ok.0, room) in
    let is = sym c.deref_mut.ensures.value ∙ split.ensures.value in
    let next = c.follows.new.batch in
    let of_process = IsBatchOf g.K.RunBrand.opening.program c.args.stand.now.ticket.id.process in
    let kept = taken-kept of_process c.loop-made.batches.items v.items made c.has_room.ensures.kept c.loop-made.invariant.1 in
    let long = replaced-long v.items split.result.0.now split.result.1.now next v.len made v.ok.0 split.ensures.front_len is in
    record {
      room = omega (arith, within, long);
      recorded = λ none. absurd {A = IsMadeBy g.K.RunBrand.opening.program c.args.self.now.segment} (omega (arith, none, c.loop-made.auto.made));
      process = c.args.stand.now.ticket.id.process;
      of_process = replaced-kept v.items _ _ next v.len made v.ok.0 split.ensures.front_len is of_process within kept;
    }

pub loop-made-preserved : goal.loop-made-preserved
loop-made-preserved g c =
    let v = c.has_room.new.batches in
    let made = c.loop-made.made in
    let split = c.split_at_mut-before in
    let of_process = IsBatchOf g.K.RunBrand.opening.program c.args.stand.now.ticket.id.process in
    let room : made < v.len = c.has_room.ensures.room c.if-not-has_room.false in
    let within : made < length v.items = omega (arith, v.ok.0, room) in
    let is = sym c.deref_mut.ensures.value ∙ split.ensures.value in
    let kept = taken-kept of_process c.loop-made.batches.items v.items made c.has_room.ensures.kept c.loop-made.invariant.1 in
    let last = get_or split.result.0.now (made - 1) c.index-before-made.result in
    let there : last ≡ get_or v.items (made - 1) c.index-before-made.result =
    ap (λ front. get_or front (made - 1) c.index-before-made.result) (split.ensures.front ∙ ap (take made) c.deref_mut.ensures.value)
    ∙ get_or-take made v.items (made - 1) _ (omega (arith, c.loop-made.auto.made)) in
    let before : of_process last =
    subst of_process (sym there) (kept (made - 1) _ (omega arith) (omega (arith, c.loop-made.auto.made))) in
    let next : IsBatchOf g.K.RunBrand.opening.program last.id.process c.follows.new.batch = c.if-not-follows.ensures refl in
    let here : of_process c.follows.new.batch = (next.0, next.1 ∙ before.1) in (
      omega (arith, room),
      replaced-more v.items _ _ _ v.len made v.ok.0 split.ensures.front_len is of_process within kept here,
    )

pub returns : goal.returns
returns g c =
    let all : 32 ≤ c.loop-made.made = omega (arith, c.loop-made-test.false) in
    record {
      room = omega (arith, all, c.loop-made.batches.ok.0, c.loop-made.invariant.0);
      recorded = λ none. absurd {A = IsMadeBy g.K.RunBrand.opening.program c.args.self.now.segment} (omega (arith, none));
      process = c.args.stand.now.ticket.id.process;
      of_process = λ k d low high. c.loop-made.invariant.1 k d low (omega (arith, all, high));
    }
