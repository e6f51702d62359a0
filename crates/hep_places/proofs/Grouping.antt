-- Groups of DATA, of which the last one holds.
use Rattle.std.proofs.Common.{◌≡◌, ℕ, List, [], ◌∷◌, ◌++◌, Option, sym, ap, ◌∙◌}
use Rattle.std.specs.Option.{option_or}
use Rattle.hep_machine.specs.Words.{DataGroup, Name, Statement, Value}
use Rattle.hep_code.specs.declared.variable.Variable.{Variable}
use Rattle.hep_image.specs.declared.array.Array.{Array}
use Rattle.hep_places.specs.InitialValues.{value_by_group, value_by_groups}
use Rattle.hep_names.proofs.Notes.{or-none, or-assoc}

module _ (unit : List Statement) (table : Name → Option Variable) (arrays : List Array) (common : ℕ) (p : ℕ) where
  by_group : DataGroup → Option Value
  by_group g = value_by_group unit table arrays common g p

  by_groups : List DataGroup → Option Value
  by_groups gs = value_by_groups unit table arrays common gs p

  pub groups-append : (gs : List DataGroup) (g : DataGroup) → value_by_groups unit table arrays common (gs ++ g ∷ []) p ≡ option_or (value_by_group unit table arrays common g p) (value_by_groups unit table arrays common gs p)
  unfolding by_group by_groups
  groups-append [] g = sym (or-none (by_group g))
  groups-append (h ∷ hs) g = ap (λ o. option_or o (by_group h)) (groups-append hs g) ∙ or-assoc (by_group g) (by_groups hs) (by_group h)

  -- a turn: the last group's rows come behind those of the groups after it
  pub group_turn : (old new all : Option Value) (gs : List DataGroup) (g : DataGroup) → option_or old (value_by_groups unit table arrays common (gs ++ g ∷ []) p) ≡ all → new ≡ option_or old (value_by_group unit table arrays common g p)
      → option_or new (value_by_groups unit table arrays common gs p) ≡ all
  unfolding by_group by_groups
  group_turn old new all gs g e f = ap (λ o. option_or o (by_groups gs)) f ∙ (or-assoc old (by_group g) (by_groups gs) ∙ (ap (option_or old) (sym (groups-append gs g)) ∙ e))
