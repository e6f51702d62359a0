-- What FULL, EMPTY, VALUE, SETE or WAITF is asked of.
use Rattle.std.proofs.Common.{◌≡◌, ℕ, ◌≤◌, refl, arith}
use Rattle.hep_machine.specs.Words.{Trees, constant, occurrence, with_list, parenthesized, signed, negated, binary, no_trees, trees, nodes_of_all, Name, Meaning, element, pure, state, external}
use Rattle.hep_code.specs.Words.{count, asked, asked_listed, asked_code, asked_listed_code, trees_code, NameTable}
use Rattle.hep_lower.specs.StateFunctionSubscripts.{subscripts_asked, subscripts_asked_listed}

module _ (names : NameTable) (line : ℕ) where
  record IsRight (ts : Trees) : Type 0 where
    pub code : trees_code names line (subscripts_asked names ts) ≡ asked_code names line ts
    pub counted : (asked names ts).1 ≡ count (subscripts_asked names ts)
    pub fewer : nodes_of_all (subscripts_asked names ts) ≤ nodes_of_all ts

  listed : (m : Meaning) (x : Name) (ts : Trees)
      → (trees_code names line (subscripts_asked_listed m ts) ≡ asked_listed_code m (trees_code names line ts))
      × (((asked_listed m x (count ts)).1 ≡ count (subscripts_asked_listed m ts)) × (nodes_of_all (subscripts_asked_listed m ts) ≤ nodes_of_all ts))
  listed element x ts = (refl, (refl, omega arith))
  listed (pure f) x ts = (refl, (refl, omega arith))
  listed (state f) x ts = (refl, (refl, omega arith))
  listed external x ts = (refl, (refl, omega arith))

  right : (ts : Trees) → IsRight ts
  right no_trees = record { code = refl; counted = refl; fewer = omega arith }
  right (trees (constant v) us) = record { code = refl; counted = refl; fewer = omega arith }
  right (trees (occurrence p) no_trees) = record { code = refl; counted = refl; fewer = omega arith }
  right (trees (occurrence p) (trees b us)) = record { code = refl; counted = refl; fewer = omega arith }
  right (trees (with_list p ts) no_trees) =
      let l = listed (names.meanings p.name) p.name ts in record { code = l.0; counted = l.1.0; fewer = omega (arith, l.1.1) }
  right (trees (with_list p ts) (trees b us)) = record { code = refl; counted = refl; fewer = omega arith }
  right (trees (parenthesized t) us) = record { code = refl; counted = refl; fewer = omega arith }
  right (trees (signed s t) us) = record { code = refl; counted = refl; fewer = omega arith }
  right (trees (negated t) us) = record { code = refl; counted = refl; fewer = omega arith }
  right (trees (binary o x y) us) = record { code = refl; counted = refl; fewer = omega arith }

  pub asked_is : (ts : Trees) → trees_code names line (subscripts_asked names ts) ≡ asked_code names line ts
  asked_is ts = (right ts).code

module _ (names : NameTable) where
  pub asked_count : (ts : Trees) → (asked names ts).1 ≡ count (subscripts_asked names ts)
  asked_count ts = (right names 0 ts).counted

  pub asked_nodes : (ts : Trees) → nodes_of_all (subscripts_asked names ts) ≤ nodes_of_all ts
  asked_nodes ts = (right names 0 ts).fewer
