-- Worked rows: what the grammar gives for some headers, specification statements and DATA, each
-- from the text after its word.
use Rattle.std.proofs.Common.{◌≤◌, sym, subst, ◌∙◌, arith, ◌≡◌, ℕ, true, false, pos, negsuc, codes, map, List, [], ◌∷◌, length, Option, Some, None, refl}
use Prim.Native.String.{String}
use Rattle.hep_source.specs.Tree.{Tree, signed, binary}
use Rattle.hep_source.specs.declared.name.Occurrence.{Occurrence}
use Rattle.hep_source.specs.declared.value.Value.TheVariants.{Int, Truth}
use Rattle.hep_source.specs.declared.operator.Sign.TheVariants.{Minus}
use Rattle.hep_source.specs.declared.operator.Operator.TheVariants.{Arithmetic}
use Rattle.hep_source.specs.declared.operator.ArithmeticOperator.TheVariants.{Multiply}
use Rattle.hep_source.specs.declared.declaration.ValueType.TheVariants.{Integer, Logical}
use Rattle.hep_source.specs.declared.declaration.LetterRange.{LetterRange}
use Rattle.hep_source.specs.declared.declaration.UpperBound.TheVariants.{Expression, Open}
use Rattle.hep_source.specs.declared.declaration.Declarator.{Declarator}
use Rattle.hep_source.specs.declared.declaration.Repeat.TheVariants.{Count, Named as RepeatName}
use Rattle.hep_source.specs.declared.declaration.DataConstant.TheVariants.{Value as ConstantValue, Named as ConstantName}
use Rattle.hep_source.specs.declared.declaration.DataGroup.{DataGroup}
use Rattle.hep_source.specs.declared.declaration.DataValue.{DataValue}
use Rattle.hep_source.specs.declared.declaration.CommonBlock.{CommonBlock}
use Rattle.hep_source.specs.declared.declaration.Target.{Target}
use Rattle.hep_source.specs.declared.declaration.Dimension.{Dimension}
use Rattle.hep_source.specs.declared.statement.Form.{Form}
use Rattle.hep_source.specs.declared.statement.Form.TheVariants as form
use Rattle.hep_expression.specs.declared.characters.Context.{Context}
use Rattle.hep_expression.specs.ReadingExpression as expressions
use Rattle.hep_expression.proofs.Worked.{Works, works, fitting, any, int, at, name}
use Rattle.hep_parse.specs.Lists.{AreListed, AreEnclosed}
use Rattle.hep_parse.specs.ReadingLists.{parts_after, listed, closed, enclosed, optional}
use Rattle.hep_parse.specs.Declaration.{ReadsImplicit, ReadsDeclarator, ReadsArrayDeclarator, AreBlocks, ReadsNamedConstant, AreGroups, implicit_group_at, implicit, dimension_at, declarator_at, declare, dimension, parts_to_end, block_at, common, named_constant_at, parameter, data_value_at, group_at, data_statement}
use Rattle.hep_parse.specs.ReadingTarget.{target_at}
use Rattle.hep_parse.proofs.Headers.{implicit_is, implicit_read, parameter_is, parameter_read}
use Rattle.hep_parse.proofs.Declarators.{declare_is, declare_read, dimension_statement_is, dimension_statement_read}
use Rattle.hep_parse.proofs.Commons.{common_is, common_read}
use Rattle.hep_parse.proofs.DataStatements.{data_statement_is, data_statement_read}
use Rattle.std.proofs.lemmas.Option.{none-some}

-- each text is the parts beside it, and the other texts are none, whatever the size of their constants
abbrev Parts : {X : Type 0} (Are : Context → List X → List ℕ → Type 0) (rows : List (String × List X)) (others : List String) → Type 0
Parts {X} Are rows others = Works (λ (r : String × List X). Are (fitting r.0) r.1 (codes r.0)) (λ s. (xs : List X) → Are (any s) xs (codes s) → ⊥) rows others

-- by computation, for statements with the form `F` of their parts
parts : {X : Type 0} (F : List X → Form) → ((xs ys : List X) → F xs ≡ F ys → xs ≡ ys) → (read : Context → List ℕ → Option Form) (Are : Context → List X → List ℕ → Type 0)
    → ((k : Context) (m : List ℕ) (f : Form) → length m ≤ k.length → read k m ≡ Some f → (xs : List X) × (F xs ≡ f) × Are k xs m)
    → ((k : Context) (xs : List X) (m : List ℕ) → Are k xs m → read k m ≡ Some (F xs))
    → (rows : List (String × List X)) (others : List String) → map (λ r. read (fitting r.0) (codes r.0)) rows ≡ map (λ r. Some (F r.1)) rows
    → map (λ s. read (any s) (codes s)) others ≡ map (λ s. None) others → Parts Are rows others
parts {X} F same read Are is found =
    works _ _ (λ r. read (fitting r.0) (codes r.0)) (λ r. Some (F r.1)) (λ s. read (any s) (codes s))
    (λ r g. let w = is (fitting r.0) (codes r.0) (F r.1) (omega arith) g in subst (λ (xs : List X). Are (fitting r.0) xs (codes r.0)) (same w.0 r.1 w.1) w.2)
    (λ s g xs h. none-some (F xs) (sym g ∙ found (any s) xs (codes s) h))

-- ---- the parts

abbrev range : ℕ → ℕ → LetterRange
range a b = record { first = a; last = b }

abbrev array : Occurrence → List Dimension → Declarator
array p ds = record { occurrence = p; dimensions = ds }

abbrev up_to : ℕ → Dimension
up_to n = record { lower = None; upper = Expression (int n) }

abbrev block : Option Occurrence → Declarator → CommonBlock
block p x = record { block = p; entries = x ∷ [] }

abbrev group : List Target → List DataValue → DataGroup
group xs vs = record { targets = xs; values = vs }

abbrev target : Occurrence → List Tree → Target
target p ts = record { occurrence = p; subscripts = ts }

abbrev one_value : String → ℕ → ℕ → DataGroup
one_value w n i = group (target (at false w n) [] ∷ []) (record { repeat = None; constant = ConstantValue (Int (pos i)) } ∷ [])

abbrev two_groups : List DataGroup
two_groups =
    group (target (at false "A" 0) [] ∷ target (at false "B" 2) (int 1 ∷ []) ∷ [])
    (record { repeat = Some (Count (pos 2)); constant = ConstantValue (Int (negsuc 0)) } ∷ record { repeat = None; constant = ConstantValue (Truth true) } ∷ [])
    ∷ group (target (at true "C" 20) [] ∷ [])
    (record { repeat = Some (RepeatName (at false "N" 23)); constant = ConstantName (at false "M" 25) } ∷ record { repeat = None; constant = ConstantValue (Int (pos 3)) } ∷ [])
    ∷ []

record Declarations : Type 0 where
  -- IMPLICIT (X3.9-1978, 8.5): letters in order, some of them, after a type
  implicits : Parts (λ k xs s. AreListed ReadsImplicit xs s []) (
      ("INTEGER(A-C,Z),LOGICAL(L)", record { value_type = Integer; letters = range 65 67 ∷ range 90 90 ∷ [] } ∷ record { value_type = Logical; letters = range 76 76 ∷ [] } ∷ [])
      ∷ ("INTEGER(A-A)", record { value_type = Integer; letters = range 65 65 ∷ [] } ∷ [])
      ∷ []) ("INTEGER(C-A)" ∷ "INTEGER()" ∷ "REAL(A)" ∷ "INTEGER(A)," ∷ [])
  -- declarators (5.1, 8.1 and 8.4): a star last, one to seven dimensions, a lower bound that is no star
  declarators : Parts (λ k xs s. AreListed (ReadsDeclarator k) xs s []) (
      ("A(0:*)", array (at false "A" 0) (record { lower = Some (int 0); upper = Open } ∷ []) ∷ [])
      ∷ ("A(2,-1:3,*),$B", array (at false "A" 0) (up_to 2 ∷ record { lower = Some (signed Minus (int 1)); upper = Expression (int 3) } ∷ record { lower = None; upper = Open } ∷ []) ∷ array (at true "B" 12) [] ∷ [])
      ∷ []) ("A(*,2)" ∷ "A(0:*,2)" ∷ "A(1,1,1,1,1,1,1,1)" ∷ "A()" ∷ "A(1:2:3)" ∷ "A(*:2)" ∷ "A," ∷ "" ∷ [])
  -- DIMENSION of a name alone
  dimensions : Parts (λ k xs s. AreListed (ReadsArrayDeclarator k) xs s []) [] ("A(1),B" ∷ [])
  -- COMMON (8.3): with and without commas, and blank with its strokes
  commons : Parts (λ k xs s. AreBlocks k xs s) (
      ("//A", block None (array (at false "A" 2) []) ∷ [])
      ∷ ("A,$B,/X/C(3)//D", record { block = None; entries = array (at false "A" 0) [] ∷ array (at true "B" 2) [] ∷ [] } ∷ block (Some (at false "X" 6)) (array (at false "C" 8) (up_to 3 ∷ [])) ∷ block None (array (at false "D" 14) []) ∷ [])
      ∷ []) ("/X/" ∷ "A," ∷ "A,,/X/B" ∷ "/$X/A" ∷ "/X,A" ∷ "" ∷ [])
  -- PARAMETER (8.6)
  parameters : Parts (λ k xs s. AreEnclosed (ReadsNamedConstant k) xs s []) (
      ("(N=10,M=N*2)", record { occurrence = at false "N" 1; value = int 10 } ∷ record { occurrence = at false "M" 6; value = binary (Arithmetic Multiply) (name "N" 8) (int 2) } ∷ [])
      ∷ []) ("N=10" ∷ "($N=1)" ∷ "()" ∷ "(N=1)2" ∷ [])
  -- DATA (section 9): one repeat count above 0 and without a sign, and no sign before a name or a logical
  datas : Parts (λ k xs s. AreGroups k xs s) (
      ("A/1/B/2/", one_value "A" 0 1 ∷ one_value "B" 4 2 ∷ [])
      ∷ ("A,B(1)/2*-1,.TRUE./,$C/N*M,3/", two_groups)
      ∷ []) ("A/0*1/" ∷ "A/-2*1/" ∷ "A/2*2*1/" ∷ "A/-N/" ∷ "A/+.TRUE./" ∷ "A/$N/" ∷ "A//" ∷ "A/1" ∷ "A/1/," ∷ "A/1+1/" ∷ [])

declarations : Declarations
unfolding parts_after listed closed enclosed implicit_group_at implicit expressions.chain expressions.in_parentheses expressions.arguments expressions.listed expressions.named expressions.primary expressions.power_of expressions.term expressions.first_term expressions.sum expressions.relation expressions.negation expressions.conjunction expressions.disjunction expressions.expression expressions.power expressions.expression_at optional dimension_at declarator_at declare dimension parts_to_end block_at common named_constant_at parameter target_at data_value_at group_at data_statement
declarations = record {
  implicits = parts form.Implicit (λ xs ys e. cc) implicit _ implicit_is implicit_read _ _ refl refl;
  declarators = parts (form.Declare Integer) (λ xs ys e. cc) (λ k. declare k Integer) _ (λ k. declare_is k Integer) (λ k. declare_read k Integer) _ _ refl refl;
  dimensions = parts form.Dimension (λ xs ys e. cc) dimension _ dimension_statement_is dimension_statement_read _ _ refl refl;
  commons = parts form.Common (λ xs ys e. cc) common _ common_is common_read _ _ refl refl;
  parameters = parts form.Parameter (λ xs ys e. cc) parameter _ parameter_is parameter_read _ _ refl refl;
  datas = parts form.Data (λ xs ys e. cc) data_statement _ data_statement_is data_statement_read _ _ refl refl;
}
