use Rattle.std.proofs.Common.{◌+◌, ◌-◌, ◌<◌, ◌≤◌, drop, length, ap, subst, ◌∙◌, arith, length-drop, take_all}
use Rattle.hep_code.specs.Words.{deepest, most_operands}
use Rattle.hep_state.proofs.top_code.behind.Goals.{After-as_slice}
use Rattle.hep_state.proofs.top_code.behind.Goals as goal

pub place-index-requires : goal.place-index-requires
place-index-requires c = let r = c.requires in (r.0, r.1, r.2, r.3, r.4, r.5)

-- the operation stands in the code
inside : (c : After-as_slice) → c.place-index.result.2 < length c.as_slice.result.now
inside c =
    let r = c.requires in
    let at = c.place-index.ensures r.0 r.1 r.2 r.3 r.4 in
    omega (arith, r.6, at.at, ap length (c.as_slice.ensures ∙ at.code.code))

pub overflow_add-entries : goal.overflow_add-entries
overflow_add-entries c = let less = inside c in omega arith

pub offset_bounds-as_slice-index : goal.offset_bounds-as_slice-index
offset_bounds-as_slice-index c = let less = inside c in omega arith

pub slice_bounds-entries-count : goal.slice_bounds-entries-count
slice_bounds-entries-count c = omega (arith, inside c)

pub slice_bounds-entries-start : goal.slice_bounds-entries-start
slice_bounds-entries-start c = let less = inside c in omega arith

pub returns : goal.returns
returns c l ls operands pending is =
    let at = c.place-index.ensures l ls operands pending is in
    let code = c.as_slice.result.now in
    let index = c.place-index.result.2 in
    let rest = take_all (length code - (index + 1)) (drop (index + 1) code) (omega (arith, length-drop (index + 1) code)) in
    record {
      behind = rest ∙ (λ i. drop (at.at i + 1) ((c.as_slice.ensures ∙ at.code.code) i));
      arrays_are = c.as_slice-2.ensures ∙ at.code.arrays;
      framed = at.framed;
      few = subst (λ xs. deepest xs ≤ most_operands) at.code.code (omega (arith, at.code.operands, at.code.few_operands));
    }
