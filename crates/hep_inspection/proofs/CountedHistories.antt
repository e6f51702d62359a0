-- Histories counted one after the other.
use Rattle.std.proofs.Common.{◌≡◌, ℕ, ◌+◌, ◌<◌, ◌≤◌, List, [], ◌∷◌, ◌++◌, Bool, Option, Some, None, inl, inr, length, drop, get_or, refl, sym, subst, ap, ◌∙◌}
use Rattle.std.proofs.lemmas.List.{drop_all, drop_more}
use Rattle.hep_cover.specs.StatementStarts.{operations_by_line}
use Rattle.hep_cover.specs.Coverage.{counted_in, counted_in_all, unbegun}
use Rattle.hep_cover.specs.Lcov.{counts_text}
use Rattle.hep_machine.specs.declared.event.Entry.{Entry}
use Rattle.hep_machine.specs.Words.{Units}
use Rattle.hep_text.specs.Line.{lines}
use Rattle.hep_outcome.specs.declared.transcript.Transcript.{Transcript}
use Rattle.hep_run.specs.Checks.{outcome_of_text}
use Rattle.hep_outcome.specs.Outcome.{Outcome}
use Rattle.hep_outcome.specs.Transcripts.{outcome_of}
use Rattle.hep_inspection.specs.CountedHistories.{IsCountedOrRefused}
use Rattle.hep_inspection.specs.Covers.{CoversFrom}
use Rattle.hep_inspection.specs.declared.cover_options.CoverOptions.{CoverOptions}
use Rattle.hep_inspection.specs.declared.cover.LineCounts.{LineCounts}
use Rattle.hep_inspection.specs.declared.origin.Origin.{Origin}

module _ (long : Bool) (options : CoverOptions) (source : List ℕ) (program : Units) where
  abbrev operations : List ℕ
  operations = operations_by_line program (length (lines source))

  -- the histories of the origins in front were counted
  pub record IsAlong (origins left : List Origin) (c : LineCounts) : Type 0 where
    pub before : List (List Entry)
    pub operations_are : c.operations.items ≡ operations
    pub counts_are : c.counts.items ≡ counted_in_all program operations before (unbegun program (length (lines source)))
    pub covers : (o : Outcome) → CoversFrom long options source program o before left → CoversFrom long options source program o [] origins

  pub along-begins : (origins : List Origin) (c : LineCounts) → c.operations.items ≡ operations → c.counts.items ≡ unbegun program (length (lines source)) → IsAlong origins origins c
  along-begins origins c operations_are counts_are = record { before = []; operations_are = operations_are; counts_are = counts_are; covers = λ o h. h }

  one-more : (ops : List ℕ) (before : List (List Entry)) (entries : List Entry) (counts : List (Option ℕ))
      → counted_in_all program ops (before ++ entries ∷ []) counts ≡ counted_in program ops entries (counted_in_all program ops before counts)
  one-more ops [] entries counts = refl
  one-more ops (b ∷ bs) entries counts = one-more ops bs entries (counted_in program ops b counts)

  along-next : (origins left : List Origin) (origin : Origin) (old new : LineCounts) → IsAlong origins (origin ∷ left) old → IsCountedOrRefused long options.arena program origin old new None → IsAlong origins left new
  along-next origins left origin old new a (entries, is, same, counted) =
      record {
        before = a.before ++ entries ∷ [];
        operations_are = same ∙ a.operations_are;
        counts_are =
            counted ∙ (λ i. counted_in program (a.operations_are i) entries (a.counts_are i))
            ∙ sym (one-more operations a.before entries (unbegun program (length (lines source))));
        covers = λ o h. a.covers o (inr (entries, is, h));
      }

  -- ---- one origin after the other

  pub along-ends : (origins : List Origin) (c : LineCounts) (o : Outcome) → IsAlong origins [] c → o ≡ outcome_of_text (counts_text options.tracefile c.counts.items (lines source)) → CoversFrom long options source program o [] origins
  along-ends origins c o a is = a.covers o (is ∙ ap (λ counts. outcome_of_text (counts_text options.tracefile counts (lines source))) a.counts_are)

  module _ (origins : List Origin) (i : ℕ) (origin : Origin) (old new : LineCounts) (less : i < length origins) (read : origin ≡ get_or origins i origin) (a : IsAlong origins (drop i origins) old) where
    here : IsAlong origins (origin ∷ drop (i + 1) origins) old
    here = subst (λ (os : List Origin). IsAlong origins os old) (drop_more origins i origin less ∙ ap (λ (x : Origin). x ∷ drop (i + 1) origins) (sym read)) a

    pub step-refused : (t : Transcript) → IsCountedOrRefused long options.arena program origin old new (Some t) → CoversFrom long options source program (outcome_of t) [] origins
    step-refused t refused = here.covers (outcome_of t) (inl refused)

    pub step-counted : IsCountedOrRefused long options.arena program origin old new None → IsAlong origins (drop (i + 1) origins) new
    step-counted counted = along-next origins (drop (i + 1) origins) origin old new here counted

  pub all-counted : (origins : List Origin) (i : ℕ) (c : LineCounts) → length origins ≤ i → IsAlong origins (drop i origins) c → IsAlong origins [] c
  all-counted origins i c past a = subst (λ (os : List Origin). IsAlong origins os c) (drop_all i origins past) a
