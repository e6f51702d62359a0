-- Pairs of units that have a block otherwise, against what the units before have in common.
use Rattle.std.proofs.Common.{◌≡◌, ℕ, ◌+◌, Bool, false, not, ◌&&◌, ◌||◌, nat_eq, Option, Some, None, is_some, List, [], ◌∷◌, map, length, refl, ap, sym, ◌∙◌, arith}
use Rattle.std.proofs.lemmas.Bool.Decides.{nat_tests}
use Rattle.hep_machine.specs.Words.{Statement, Units, Repeated, BlockName}
use Rattle.hep_conditions.specs.Common as conditions
use Rattle.hep_conditions.specs.Words.{count_of_items, holds_at_each_place, least_line, line_when, least_line_of, Known as Items}
use Rattle.hep_conditions.proofs.Lines.{least_line-or}
use Rattle.hep_storage.specs.Agreement.{Summed, nothing_summed, with_list, with_block, with_length, is_other_length, place_count, differs_from, line_after}
use Rattle.hep_storage.specs.BlockContents.{KnownPlaces, Block, run_of, known_places, block_in}
use Rattle.hep_storage.specs.Runs.{alike, positions_in}
use Rattle.hep_storage.specs.SharedPrefix.{departs}
use Rattle.hep_storage.specs.RunItems.{repeat_before, spread, agree_as_far}
use Rattle.hep_storage.specs.declared.block_summary.BlockLengths.{BlockLengths}
use Rattle.hep_storage.specs.declared.runs.Position.{Position}
use Rattle.hep_storage.proofs.CommonPrefixes.{length-repeat, map-repeat}
use Rattle.hep_storage.proofs.Places.{at_each_place}
use Rattle.hep_storage.proofs.SharedRuns.{one-more}

-- ---- two lists of a block

abbrev pub differs : BlockName → KnownPlaces → KnownPlaces → Bool
differs b k l =
    not (agree_as_far alike k.positions l.positions)
    || (is_some b && (k.is_whole && (l.is_whole && not (nat_eq (place_count k) (place_count l)))))

abbrev position_of : conditions.Position → Position
position_of p = record { asynchronous = p.0; value_type = p.1 }

positions-spread : (rs : List (Repeated conditions.Position)) → positions_in (map run_of rs) ≡ map position_of (spread rs)
positions-spread [] = refl
positions-spread (r ∷ rs) = ap (repeat_before r.count (position_of r.item)) (positions-spread rs) ∙ sym (map-repeat position_of r.count r.item (spread rs))

agree-map : (ps qs : List conditions.Position) → agree_as_far alike (map position_of ps) (map position_of qs) ≡ agree_as_far conditions.same_position ps qs
agree-map [] qs = refl
agree-map (p ∷ ps) [] = refl
agree-map (p ∷ ps) (q ∷ qs) = ap (λ b. conditions.same_position p q && b) (agree-map ps qs)

-- places that both lists have
agree-places : (ps qs : List (Repeated conditions.Position)) → holds_at_each_place conditions.same_position ps qs ≡ agree_as_far alike (positions_in (map run_of ps)) (positions_in (map run_of qs))
agree-places ps qs = rw (positions-spread ps, positions-spread qs) (at_each_place conditions.same_position ps qs ∙ sym (agree-map (spread ps) (spread qs)))

count-places : (rs : List (Repeated conditions.Position)) → count_of_items rs ≡ length (positions_in (map run_of rs))
count-places [] = refl
count-places (r ∷ rs) = ap (λ n. r.count + n) (count-places rs) ∙ sym (length-repeat r.count (position_of r.item) (positions_in (map run_of rs)))

-- two lists are not the same where they differ
pub contents-differ : (b : BlockName) (ps qs : Items conditions.Position) → not (conditions.same_contents b ps qs) ≡ differs b (known_places ps) (known_places qs)
contents-differ None ps qs = rw (agree-places ps.items qs.items) (grind arith)
contents-differ (Some x) ps qs = rw (agree-places ps.items qs.items, count-places ps.items, count-places qs.items) (grind arith)

-- ---- a list against several

-- one list of another length, or one of those before
length-more : (k l : KnownPlaces) (s : BlockLengths)
    → ((k.is_whole && (l.is_whole && not (nat_eq (place_count k) (place_count l)))) || is_other_length l s) ≡ is_other_length l (with_length k s)
length-more k l s = grind (arith, nat_tests)

pub differs-more : (b : BlockName) (k l : KnownPlaces) (s : Summed) → (differs b k l || differs_from b s l) ≡ differs_from b (with_list k s) l
differs-more b k l s =
    rw (sym (one-more s.is_cut s.positions k.positions l.positions), sym (length-more k l s.lengths))
    (grind arith)

-- ---- units

abbrev pub pair_of_blocks : BlockName → Option Block → Option Block → Option ℕ
pair_of_blocks b None d = None
pair_of_blocks b (Some c) None = None
pair_of_blocks b (Some c) (Some d) = line_when (differs b c.list d.list) d.line

abbrev pub pair : BlockName → List Statement → List Statement → Option ℕ
pair b unit later = pair_of_blocks b (block_in unit b) (block_in later b)

-- what these units have in a block, the last one first
abbrev pub summed_over : BlockName → Units → Summed
summed_over b [] = nothing_summed
summed_over b (unit ∷ units) = with_block (block_in unit b) (summed_over b units)

pub nothing-differs : (b : BlockName) (k : KnownPlaces) → differs_from b nothing_summed k ≡ false
nothing-differs b k = by k.positions
  where
    by : (qs : List Position) → (departs false [] qs || (is_some b && (k.is_whole && false))) ≡ false
    by [] = grind arith
    by (q ∷ qs) = grind arith

pub no-pair : (b : BlockName) (c : Option Block) → pair_of_blocks b c None ≡ None
no-pair b None = refl
no-pair b (Some c) = refl

-- a unit with each of those before
against : (b : BlockName) (later : List Statement) (before : Units) → least_line_of (λ unit. pair b unit later) before ≡ line_after b (summed_over b before) (block_in later b)
against b later before = by (block_in later b) before
  where
    more : (d : Block) (c : Option Block) (s : Summed) → least_line (pair_of_blocks b c (Some d)) (line_after b s (Some d)) ≡ line_after b (with_block c s) (Some d)
    more d None s = refl
    more d (Some c) s = least_line-or d.line (differs b c.list d.list) (differs_from b s d.list) ∙ ap (λ t. line_when t d.line) (differs-more b c.list d.list s)

    by : (d : Option Block) (us : Units) → least_line_of (λ unit. pair_of_blocks b (block_in unit b) d) us ≡ line_after b (summed_over b us) d
    by None [] = refl
    by None (u ∷ us) = rw (no-pair b (block_in u b)) (by None us)
    by (Some d) [] = sym (ap (λ t. line_when t d.line) (nothing-differs b d.list))
    by (Some d) (u ∷ us) = ap (least_line (pair_of_blocks b (block_in u b) (Some d))) (by (Some d) us) ∙ more d (block_in u b) (summed_over b us)
