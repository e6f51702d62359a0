-- The table of common blocks after one entry was written.
use Rattle.std.proofs.Common.{◌≡◌, Bool, true, false, Option, Some, None, List, [], ◌∷◌, ◌++◌, refl, ap, sym, subst, ◌∙◌, cond, arith, if◌then◌else◌}
use Rattle.std.specs.Option.{option_eq, option_map}
use Rattle.std.proofs.lemmas.List.Folds.{list_any-append}
use Rattle.hep_machine.specs.Words.{name_eq, Name, Statement, BlockName, same_block}
use Rattle.hep_names.proofs.BlockNames.{changed}
use Rattle.hep_storage.specs.Agreement.{AreAmong, with_block, summed}
use Rattle.hep_storage.specs.BlockContents.{block, HasContents, Has}
use Rattle.hep_storage.specs.declared.block_contents.BlockContents.{BlockContents}
use Rattle.hep_storage.specs.BlockTable.{contents_in, block_at, summed_in, AreRead}
use Rattle.hep_storage.specs.declared.block_table.BlockEntry.{BlockEntry}
use Rattle.hep_machine.proofs.Locations.{equal_blocks, block-self}

-- what is seen of an entry, where one was put
pub seen-put : {X : Type 0} (see : Option BlockEntry → X) (k b : BlockName) (e : BlockEntry) (new old : Option BlockEntry) → new ≡ cond (option_eq name_eq k b) (Some e) old → see new ≡ (if same_block k b then see (Some e) else see old)
seen-put see k b e new old h = rw (h, changed k b (Some e) old) (grind arith)

same-or : {X : Type 0} (see : BlockName → X) (k b : BlockName) → (if same_block k b then see k else see b) ≡ see b
same-or see k b = grind (arith, equal_blocks k b)

-- ---- a block that is settled

module _ (k : BlockName) (old new : BlockName → Option BlockEntry) where
  module _ (e f : BlockEntry) (is : old k ≡ Some e) (put : (b : BlockName) → new b ≡ cond (option_eq name_eq k b) (Some f) (old b)) where
    pub settled-added : summed f.summary ≡ with_block (block_at (Some e)) (summed e.summary) → (b : BlockName)
        → summed_in (new b) ≡ (if same_block k b then with_block (block_at (old k)) (summed_in (old k)) else summed_in (old b))
    settled-added h b = rw (seen-put summed_in k b f (new b) (old b) (put b), h, is) refl

    pub settled-left : f.is_named ≡ false → (b : BlockName) → block_at (new b) ≡ (if same_block k b then None else block_at (old b))
    settled-left h b = rw (seen-put block_at k b f (new b) (old b) (put b), h) refl

  -- a block that isn't there
  module _ (none : old k ≡ None) (same : (b : BlockName) → new b ≡ old b) where
    pub missing-added : (b : BlockName) → summed_in (new b) ≡ (if same_block k b then with_block (block_at (old k)) (summed_in (old k)) else summed_in (old b))
    missing-added b = grind (arith, same b, equal_blocks)

    pub missing-left : (b : BlockName) → block_at (new b) ≡ (if same_block k b then None else block_at (old b))
    missing-left b = rw (same b) (sym (same-or (λ c. block_at (old c)) k b) ∙ ap (λ o. if same_block k b then o else block_at (old b)) (ap block_at none))

-- ---- a list of COMMON, of which the block is in the table now

module _ (k : BlockName) (old new : BlockName → Option BlockEntry) (f : BlockEntry) (put : (b : BlockName) → new b ≡ cond (option_eq name_eq k b) (Some f) (old b)) where
  pub put-contents : f.is_named ≡ true → (b : BlockName) → contents_in (new b) ≡ (if same_block k b then Some f.contents else contents_in (old b))
  put-contents named b = rw (seen-put contents_in k b f (new b) (old b) (put b), named) refl

  put-summaries : summed f.summary ≡ summed_in (old k) → (b : BlockName) → summed_in (new b) ≡ summed_in (old b)
  put-summaries h b =
      seen-put summed_in k b f (new b) (old b) (put b)
      ∙ (ap (λ s. if same_block k b then s else summed_in (old b)) h ∙ same-or (λ c. summed_in (old c)) k b)

  put-named : (bs : List BlockName) → AreAmong bs (λ b. block_at (old b)) → AreAmong (bs ++ k ∷ []) (λ b. block_at (new b))
  put-named bs h b s =
      grind (arith, list_any-append (same_block b) bs (k ∷ []), equal_blocks k b, block-self b, seen-put block_at k b f (new b) (old b) (put b), h b)

  pub put-read : (bs : List BlockName) → summed f.summary ≡ summed_in (old k) → AreRead old new bs (bs ++ k ∷ [])
  put-read bs h = record { summaries = put-summaries h; named = put-named bs }

-- ---- one list after the other

pub read-start : {old : BlockName → Option BlockEntry} {bs : List BlockName} → AreRead old old bs bs
read-start = record { summaries = λ b. refl; named = λ h. h }

pub read-next : {old mid new : BlockName → Option BlockEntry} {bs cs ds : List BlockName} → AreRead old mid bs cs → AreRead mid new cs ds → AreRead old new bs ds
read-next h g = record { summaries = λ b. g.summaries b ∙ h.summaries b; named = λ a. g.named (h.named a) }

-- ---- before a unit is read

none-contents : (o : Option BlockContents) → option_map block o ≡ None → o ≡ None
none-contents None h = refl
none-contents (Some c) h = cc

pub none-has : (unit : List Statement) (noted : Name → Bool) (b : BlockName) (o : Option BlockEntry) → block_at o ≡ None → ((x : Name) → noted x ≡ false) → Has unit noted b [] None (contents_in o)
none-has unit noted b o h n = (subst (HasContents unit b [] None) (sym (none-contents (contents_in o) h)) (refl, refl), λ x f. n x)

pub none-named : (table : BlockName → Option BlockEntry) (bs : List BlockName) → ((b : BlockName) → block_at (table b) ≡ None) → AreAmong bs (λ b. block_at (table b))
none-named table bs h b s = grind (arith, h b)
