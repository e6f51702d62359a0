-- What is read as a header, a specification statement or DATA is so by the grammar, and the other way
-- round.
use Rattle.std.proofs.Common.{◌≡◌, ℕ, ◌≤◌, false, List, [], ◌++◌, length, Option, Some, None, refl, ap, subst, ◌∙◌}
use Rattle.hep_source.specs.Units.{is_executable}
use Rattle.hep_source.specs.declared.declaration.ValueType.{ValueType}
use Rattle.hep_source.specs.declared.declaration.ValueType.TheVariants.{Integer, Logical}
use Rattle.hep_source.specs.declared.statement.Form.{Form}
use Rattle.hep_source.specs.declared.statement.Form.TheVariants as forms
use Rattle.hep_expression.specs.declared.characters.Context.{Context}
use Rattle.hep_expression.specs.Reading.{◌>>=◌}
use Rattle.hep_parse.specs.declared.keyword.Keyword.{Keyword}
use Rattle.hep_parse.specs.declared.keyword.Keyword.TheVariants as words
use Rattle.hep_parse.specs.Declaration.{type_spelling, function_spelling, ReadsDeclarator, function_header}
use Rattle.hep_parse.specs.Lists.{AreListed}
use Rattle.hep_parse.specs.Statement.{IsWorded}
use Rattle.hep_parse.specs.ReadingStatement.{spelling, keyword_at, declaration, after_word, worded}
use Rattle.hep_parse.proofs.Headers.{program_header_is, program_header_read, subroutine_header_is, subroutine_header_read, function_header_is, function_header_read, implicit_is, implicit_read, parameter_is, parameter_read}
use Rattle.hep_parse.proofs.Declarators.{declare_is, declare_read, no_function_after, dimension_statement_is, dimension_statement_read}
use Rattle.hep_parse.proofs.Commons.{common_is, common_read}
use Rattle.hep_parse.proofs.DataStatements.{data_statement_is, data_statement_read}
use Rattle.std.proofs.lemmas.Option.{none-some}

module _ (k : Context) where
  declared_is : (t : ValueType) (s m : List ℕ) (f : Form) → length m ≤ k.length → s ≡ type_spelling t ++ m → (x : List _) × (forms.Declare t x ≡ f) × AreListed (ReadsDeclarator k) x m [] → IsWorded k f s
  declared_is t s m f fit is h = subst (λ (g : Form). IsWorded k g s) h.1 (m, is, h.2)

  function_is : (t : Option ValueType) (s m : List ℕ) (f : Form) → length m ≤ k.length → s ≡ function_spelling t ++ m → function_header k t m ≡ Some f → IsWorded k f s
  function_is t s m f fit is e =
      let h = function_header_is k t m f fit e in subst (λ (g : Form). IsWorded k g s) h.3 (m, h.2, is, h.4, h.5)

  pub declaration_is : (w : Keyword) (s m : List ℕ) (f : Form) → length m ≤ k.length → s ≡ spelling w ++ m → declaration k w m ≡ Some f → IsWorded k f s
  declaration_is words.Program s m f fit is e =
      let h = program_header_is k m f fit e in subst (λ (g : Form). IsWorded k g s) h.1 (m, is, h.2)
  declaration_is words.Subroutine s m f fit is e =
      let h = subroutine_header_is k m f fit e in subst (λ (g : Form). IsWorded k g s) h.3 (m, h.2, is, h.4, h.5)
  declaration_is words.IntegerFunction s m f fit is e = function_is (Some Integer) s m f fit is e
  declaration_is words.LogicalFunction s m f fit is e = function_is (Some Logical) s m f fit is e
  declaration_is words.Function s m f fit is e = function_is None s m f fit is e
  declaration_is words.Implicit s m f fit is e =
      let h = implicit_is k m f fit e in subst (λ (g : Form). IsWorded k g s) h.1 (m, is, h.2)
  declaration_is words.Integer s m f fit is e = declared_is Integer s m f fit is (declare_is k Integer m f fit e)
  declaration_is words.Logical s m f fit is e = declared_is Logical s m f fit is (declare_is k Logical m f fit e)
  declaration_is words.Dimension s m f fit is e =
      let h = dimension_statement_is k m f fit e in subst (λ (g : Form). IsWorded k g s) h.1 (m, is, h.2)
  declaration_is words.Common s m f fit is e =
      let h = common_is k m f fit e in subst (λ (g : Form). IsWorded k g s) h.1 (m, is, h.2)
  declaration_is words.Parameter s m f fit is e =
      let h = parameter_is k m f fit e in subst (λ (g : Form). IsWorded k g s) h.1 (m, is, h.2)
  declaration_is words.Data s m f fit is e =
      let h = data_statement_is k m f fit e in subst (λ (g : Form). IsWorded k g s) h.1 (m, is, h.2)
  declaration_is _ s m f fit is e = absurd (none-some f e)

  -- a text that begins with this word is read as what follows it says
  rest_after : (w : Keyword) (s m : List ℕ) (f : Form) → s ≡ spelling w ++ m → keyword_at (spelling w ++ m) ≡ Some (w, m) → after_word k w m ≡ Some f → worded k s ≡ Some f
  unfolding worded
  rest_after w s m f is found e = ap (worded k) is ∙ ap (λ (o : Option (Keyword × List ℕ)). o >>= λ x. after_word k x.0 x.1) found ∙ e

  pub declarations_read : (f : Form) (s : List ℕ) → is_executable f ≡ false → IsWorded k f s → worded k s ≡ Some f
  declarations_read (forms.Program p) s declares h = rest_after words.Program s h.0 (forms.Program p) h.1 refl (program_header_read k p h.0 h.2)
  declarations_read (forms.Subroutine p ds) s declares h = rest_after words.Subroutine s h.0 (forms.Subroutine p ds) h.2 refl (subroutine_header_read k p ds h.0 h.1 h.3 h.4)
  declarations_read (forms.Function None p ds) s declares h = rest_after words.Function s h.0 (forms.Function None p ds) h.2 refl (function_header_read k None p ds h.0 h.1 h.3 h.4)
  declarations_read (forms.Function (Some Integer) p ds) s declares h = rest_after words.IntegerFunction s h.0 (forms.Function (Some Integer) p ds) h.2 refl (function_header_read k (Some Integer) p ds h.0 h.1 h.3 h.4)
  declarations_read (forms.Function (Some Logical) p ds) s declares h = rest_after words.LogicalFunction s h.0 (forms.Function (Some Logical) p ds) h.2 refl (function_header_read k (Some Logical) p ds h.0 h.1 h.3 h.4)
  declarations_read (forms.Implicit xs) s declares h = rest_after words.Implicit s h.0 (forms.Implicit xs) h.1 refl (implicit_read k xs h.0 h.2)
  declarations_read (forms.Declare Integer xs) s declares h = rest_after words.Integer s h.0 (forms.Declare Integer xs) h.1 (rw (no_function_after k xs h.0 h.2) refl) (declare_read k Integer xs h.0 h.2)
  declarations_read (forms.Declare Logical xs) s declares h = rest_after words.Logical s h.0 (forms.Declare Logical xs) h.1 (rw (no_function_after k xs h.0 h.2) refl) (declare_read k Logical xs h.0 h.2)
  declarations_read (forms.Dimension xs) s declares h = rest_after words.Dimension s h.0 (forms.Dimension xs) h.1 refl (dimension_statement_read k xs h.0 h.2)
  declarations_read (forms.Common xs) s declares h = rest_after words.Common s h.0 (forms.Common xs) h.1 refl (common_read k xs h.0 h.2)
  declarations_read (forms.Parameter xs) s declares h = rest_after words.Parameter s h.0 (forms.Parameter xs) h.1 refl (parameter_read k xs h.0 h.2)
  declarations_read (forms.Data xs) s declares h = rest_after words.Data s h.0 (forms.Data xs) h.1 refl (data_statement_read k xs h.0 h.2)
  declarations_read _ s declares h = absurd cc
