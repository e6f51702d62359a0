use Rattle.std.proofs.Common.{◌∙◌, ◌++◌, refl, sym, subst, take, append-nil, arith, take_all}
use Rattle.indexmap.specs.IndexSet.{contains}
use Rattle.hep_machine.specs.Words.{name_eq, names_declared}
use Rattle.hep_storage.specs.BlockContents.{AreNoted, Holds, names_into}
use Rattle.hep_storage.proofs.BlockTables.{names-next, noted-here, into-none, into-next}
use Rattle.hep_storage.proofs.Listings.{noted-next}
use Rattle.hep_storage.proofs.block_contents.BlockContents.add_names.Goals as goal

pub loop-entry-init : goal.loop-entry-init
loop-entry-init c =
    record {
      known = λ xs n h. rw append-nil h;
      noted = λ b xs n. subst (λ ys. AreNoted c.args.symbols.now b ys (contains name_eq c.args.noted.now)) (sym (into-none c.args.block b xs)) n;
      line = refl;
    }

pub loop-entry-preserved : goal.loop-entry-preserved
loop-entry-preserved c =
    let i = c.loop-entry.entry-index in
    let ds = c.args.entries.now in
    let unit = c.args.symbols.now in
    let k = c.args.block in
    let e = c.entry-item.result in
    let read = names_declared (take i ds) in
    let old = contains name_eq c.loop-entry.noted in
    let new = contains name_eq c.add_name.new.noted in
    record {
      known = λ xs n h.
          subst (λ ys. Holds unit k ys c.add_name.new.self) (names-next ds i _ e xs c.loop-entry-test.true c.entry-item.is)
          (c.in_ok-add_name.ensures.known (xs ++ read) (noted-here unit k xs read old (c.loop-entry.invariant.noted k xs n)) (c.loop-entry.invariant.known xs n h));
      noted = λ b xs n.
          subst (λ ys. AreNoted unit b ys new) (into-next k b ds i _ e xs c.loop-entry-test.true c.entry-item.is)
          (noted-next unit k b (xs ++ names_into k b read) e.occurrence.name old new (c.loop-entry.invariant.noted b xs n) c.in_ok-add_name.ensures.noted);
      line = c.in_ok-add_name.ensures.line ∙ c.loop-entry.invariant.line;
    }

pub returns-clause-known : goal.returns-clause-known
returns-clause-known c = λ xs n h. rw (take_all c.loop-entry.entry-index c.args.entries.now (omega (arith, c.loop-entry-test.false))) at (c.loop-entry.invariant.known xs n h)

pub returns-clause-noted : goal.returns-clause-noted
returns-clause-noted c = λ b xs n. rw (take_all c.loop-entry.entry-index c.args.entries.now (omega (arith, c.loop-entry-test.false))) at (c.loop-entry.invariant.noted b xs n)
