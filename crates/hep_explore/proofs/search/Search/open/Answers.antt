use Rattle.std.proofs.Common.{◌∷◌, ◌++◌, ◌∙◌, List, None, [], ap, false, refl}
use Rattle.hep_state.specs.declared.core_state.CoreState.{CoreState}
use Rattle.hep_explore.specs.Searching.{Known}
use Rattle.hep_explore.specs.declared.search.Origin.{Origin}
use Rattle.hep_explore.proofs.SearchedStates.{first_inserted, is_opened, none_expanded}
use Rattle.hep_explore.proofs.search.Search.open.Goals as goal

pub key_of-requires : goal.key_of-requires
key_of-requires c = (c.args.cells, [], c.in_ok-machine.ensures.opened)

pub returns : goal.returns
returns c =
    let program = c.args.image.now in
    let m : CoreState = c.in_ok-machine.machine in
    let o : Origin = record { from = 0; process = 0; pure = 0 } in
    let key = c.in_ok-key_of.field-0.bytes.items in
    let is = c.in_ok-insert.ensures in
    let first =
    first_inserted c.new-2.result c.insert.new.self key c.in_ok-insert.field-0.0 c.in_ok-insert.field-0.1 c.new-2.ensures is.there is.seen
    is.added
    in
    let s : Known = record {
      cells = c.args.cells;
      states = c.insert.new.self;
      origins = c.push.new.self.items;
      queue = c.push_back.new.self.items;
      expanded = 0;
      ended = c.new-5.result.items;
      full = None;
      most = c.args.most;
      cut = false;
    } in
    let origins = c.in_ok-push.ensures.items ∙ ap (λ (os : List Origin). os ++ o ∷ []) c.new-3.ensures.items in
    let queue = c.in_ok-push_back.ensures.items ∙ ap (λ (ms : List CoreState). ms ++ m ∷ []) c.new-4.ensures.items in
    record {
      search = is_opened program s m o key c.in_ok-key_of.ensures c.in_ok-machine.ensures.opened first origins queue refl
          c.new-5.ensures.items refl refl;
      expanded = none_expanded program s c.new-5.ensures.items;
      begun = refl;
      same = (refl, refl);
    }
