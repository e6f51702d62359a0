-- The frames of what a machine holds.
use Rattle.std.proofs.Common.{◌≡◌, ℕ, suc, ◌+◌, ◌<◌, ◌≤◌, Bool, true, List, [], ◌++◌, drop, length, Option, Some, None, refl, sym, ap, ◌∙◌, subst, arith, if◌then◌else◌, is_some, slice_get, append_assoc, append-nil, get_or, Bor, false}
use Rattle.std.specs.List.{flat_map}
use Rattle.std.specs.Option.{unwrap_or}
use Rattle.std.proofs.lemmas.List.{drop_more}
use Rattle.std.proofs.lemmas.Option.{slice_get_within, slice_get-get_or}
use Rattle.hep_accepted_laws.proofs.Closed.{units-there}
use Rattle.hep_conditions.specs.Words.{IsAccepted}
use Rattle.hep_image.specs.Image.{IsUnitCode}
use Rattle.hep_layout.specs.Words.{FrameNode, is_stacked}
use Rattle.hep_machine.specs.Words.{Layout, State, Statement, Units, dummies_of, is_held, locals_of, main_among, no_activation, run, scope_of, unit_at, unit_name, unit_of}
use Rattle.hep_proc.specs.Nodes.{nodes_of}
use Rattle.hep_proc.specs.declared.frames.Frames.{Frames}
use Rattle.hep_state.specs.declared.core_state.CoreState.{CoreState}
use Rattle.hep_state.specs.Words.{IsMachineAfter, snapshot_of}
use Rattle.hep_state_text.specs.Lines as lines
use Rattle.hep_state_text.specs.States as words
use Rattle.hep_views.specs.StoredContents.{HasDummies}
use Rattle.hep_views.proofs.Nodes.{unheld}
use Rattle.hep_state_text.specs.Activations.{IsFrameAt}
use Rattle.hep_state_text.specs.Frames.{held_frame, IsFrameUnder, IsHeldIfAny, IsHeldUnder, IsTextOfHeld}
use Rattle.hep_state_text.specs.declared.activation_lines.HeldFrame.{HeldFrame}
use Rattle.hep_state_text.specs.Associations.{IsStackedAt}
use Rattle.hep_state_text.specs.NodeKeys.{AreHeldKeys, AreStackedKeys}
use Rattle.hep_state_text.proofs.StackedKeys.{stacked-is}
use Rattle.hep_state_text.specs.StoredVariables.{IsFrameOf}
use Rattle.hep_state_text.specs.Storage.{IsStorageOf}
use Rattle.hep_state_text.specs.declared.activations.NamedUnit.{NamedUnit}
use Rattle.hep_state_text.specs.declared.storage.StateStorage.{StateStorage}

-- the names of a unit by its number
pub symbols-are : (program units : Units) (number u : ℕ) (symbols : List Statement) → symbols ≡ get_or units number symbols → units ≡ program → number ≡ u → u < length program → symbols ≡ unit_at program u
symbols-are program units number u symbols is all same inside =
    let here = slice_get-get_or program u symbols inside in
    is ∙ (λ i. get_or (all i) (same i) symbols) ∙ sym (ap (λ (o : Option (List Statement)). unwrap_or o []) here)

module _ (storage : StateStorage) (s : State) (layout : Layout) (a key : ℕ) (h : IsFrameUnder storage s layout a key) where
  -- the frame, by what is read of it
  pub frame-at : (unit : NamedUnit) (number first : ℕ) (units : Units) → number ≡ h.node.unit → first ≡ h.node.first → units ≡ storage.symbols.now → unit.symbols.now ≡ get_or units number unit.symbols.now
      → IsUnitCode storage.image.now number unit.code.now → IsFrameAt storage.image.now s layout a unit first storage.frames.now.arena
  frame-at unit number first units number_is first_is units_are read code =
      let same : number ≡ unit_of s a = number_is ∙ h.unit in
      record {
        is_of = subst (λ n. IsFrameOf storage.image.now s layout a n storage.frames.now.arena) (sym first_is) h.frame;
        symbols = symbols-are storage.image.now units number (unit_of s a) unit.symbols.now read (units_are ∙ h.symbols) same h.inside;
        code = subst (λ n. IsUnitCode storage.image.now n unit.code.now) same code;
      }

  -- its lines
  pub frame-lines : (symbols : List Statement) (number activation : ℕ) (units : Units) (old name : List ℕ) → number ≡ h.node.unit → units ≡ storage.symbols.now → symbols ≡ get_or units number symbols
      → activation ≡ h.node.activation → name ≡ unit_name (unit_at storage.image.now number)
      → ((old ++ lines.activation_text activation name) ++ flat_map (words.own_text storage.image.now s (scope_of storage.image.now s a)) (locals_of symbols))
      ++ flat_map (words.value_text storage.image.now s (scope_of storage.image.now s a)) (dummies_of symbols) ≡ old ++ words.frame_text storage.image.now s a
  frame-lines symbols number activation units old name number_is units_are read activation_is name_is =
      let program = storage.image.now in
      let own = unit_at program (unit_of s a) in
      let same : number ≡ unit_of s a = number_is ∙ h.unit in
      let unit = symbols-are program units number (unit_of s a) symbols read (units_are ∙ h.symbols) same h.inside in
      let number_a = activation_is ∙ h.activation in
      let title = name_is ∙ ap (λ n. unit_name (unit_at program n)) same in
      let first : List ℕ = lines.activation_text a (unit_name own) in
      let locals : List ℕ = flat_map (words.own_text program s (scope_of program s a)) (locals_of own) in
      let values : List ℕ = flat_map (words.value_text program s (scope_of program s a)) (dummies_of own) in
      (λ i. ((old ++ lines.activation_text (number_a i) (title i)) ++ flat_map (words.own_text program s (scope_of program s a)) (locals_of (unit i))) ++ flat_map (words.value_text program s (scope_of program s a)) (dummies_of (unit i)))
      ∙ ap (λ (xs : List ℕ). xs ++ values) (append_assoc old first locals)
      ∙ append_assoc old (first ++ locals) values

-- ---- what dummy arguments are associated with

module _ (storage : StateStorage) (machine : Bor CoreState) (held : HeldFrame) (cells : ℕ) (choices : List ℕ) (a : ℕ) (h : IsHeldUnder storage machine.now held cells choices a) where
  abbrev state : State
  state = run storage.image.now choices

  abbrev layout : Layout
  layout = h.after.after.layout

  pub stacked-at : held.is_stacked ≡ true → (unit : NamedUnit) (first : ℕ) → first ≡ h.under.node.first → IsFrameAt storage.image.now state layout a unit first storage.frames.now.arena
      → IsStackedAt (record { machine = machine; image = storage.image; key = held.key }) unit cells choices a
  stacked-at on unit first first_is at =
      record {
        under = record {
          after = h.after;
          stacked = sym h.stacked ∙ on;
          node = h.under.node;
          there = subst (λ (f : Frames). nodes_of f.nodes held.key ≡ Some h.under.node) h.same h.under.there;
          activation = h.under.activation;
          is_of = subst (λ (f : Frames). IsFrameOf storage.image.now state layout a h.under.node.first f.arena) h.same h.under.frame;
        };
        at = subst (λ (f : Frames). IsFrameAt storage.image.now state layout a unit h.under.node.first f.arena) h.same (
            subst (λ n. IsFrameAt storage.image.now state layout a unit n storage.frames.now.arena) first_is at);
      }

  -- one that isn't on a stack has no associations
  pub lines-ended : held.is_stacked ≡ false → (old : List ℕ) → old ++ words.frame_text storage.image.now state a ≡ old ++ words.activation_text storage.image.now state a
  lines-ended off old =
      let frame = words.frame_text storage.image.now state a in
      let all = flat_map (words.association_text storage.image.now state (scope_of storage.image.now state a)) (dummies_of (unit_at storage.image.now (unit_of state a))) in
      ap (λ (xs : List ℕ). old ++ xs) (sym (append-nil frame) ∙ sym (ap (λ (b : Bool). frame ++ (if b then all else [])) (sym h.stacked ∙ off)))

  pub lines-stacked : held.is_stacked ≡ true → (symbols : List Statement) → symbols ≡ unit_at storage.image.now (unit_of state a) → (old : List ℕ)
      → (old ++ words.frame_text storage.image.now state a) ++ flat_map (words.association_text storage.image.now state (scope_of storage.image.now state a)) (dummies_of symbols)
      ≡ old ++ words.activation_text storage.image.now state a
  lines-stacked on symbols symbols_are old =
      let frame = words.frame_text storage.image.now state a in
      let all = flat_map (words.association_text storage.image.now state (scope_of storage.image.now state a)) (dummies_of (unit_at storage.image.now (unit_of state a))) in
      (λ i. (old ++ frame) ++ flat_map (words.association_text storage.image.now state (scope_of storage.image.now state a)) (dummies_of (symbols_are i)))
      ∙ append_assoc old frame all
      ∙ ap (λ (xs : List ℕ). old ++ xs) (sym (ap (λ (b : Bool). frame ++ (if b then all else [])) (sym h.stacked ∙ on)))

module _ (storage : StateStorage) (m : CoreState) (is : IsStorageOf storage m) (cells : ℕ) (choices : List ℕ) (h : IsMachineAfter storage.image.now cells choices m)
    (accepted : IsAccepted storage.image.now) (main : is_some (main_among storage.image.now) ≡ true)
    (dummies : (a : ℕ) → 1 ≤ a → a ≤ length (run storage.image.now choices).activations → HasDummies storage.image.now (run storage.image.now choices) a) where
  abbrev program : Units
  program = storage.image.now

  abbrev s : State
  s = run storage.image.now choices

  -- the node under a key is of an activation that is held
  pub under : (key : ℕ) (n : FrameNode) → nodes_of m.frames.nodes key ≡ Some n → IsFrameUnder storage s h.after.layout n.activation key
  under key n there =
      let keeps = h.after.shows.keeps in
      let shown = keeps.tree.shown key n there in
      let made = keeps.tree.made n.activation shown.out_is in
      record {
        symbols = is.symbols;
        node = n;
        there = ap (λ (f : Frames). nodes_of f.nodes key) is.frames ∙ there;
        activation = refl;
        unit = shown.unit_is;
        inside = slice_get_within program (unit_of s n.activation) (unit_at program (unit_of s n.activation)) (units-there program choices n.activation accepted main made.0 made.1);
        frame = subst (λ (f : Frames). IsFrameOf program s h.after.layout n.activation n.first f.arena) (sym is.frames) (record {
          is_of = record { memory = keeps.memory; few = omega (arith, h.few, h.after.size) };
          frame = record { activation = n.activation; first = n.first; cells = n.cells };
          framed = keeps.framed key n there;
          first_is = refl;
          described = keeps.described;
          dummies = dummies n.activation made.0 made.1;
        });
      }

  -- ---- the lines of an activation and of those behind it

  abbrev line : ℕ → List ℕ
  line a = if is_held s a then words.activation_text program s a else []

  pub line-next : (i : ℕ) → i < length s.activations
      → words.activations_text program s (suc i) (drop i s.activations) ≡ line (suc i) ++ words.activations_text program s (suc (suc i)) (drop (i + 1) s.activations)
  line-next i less = ap (words.activations_text program s (suc i)) (drop_more s.activations i no_activation less)

  pub line-held : (i key : ℕ) (n : FrameNode) → nodes_of m.frames.nodes key ≡ Some n → n.activation ≡ suc i → line (suc i) ≡ words.activation_text program s (suc i)
  line-held i key n there a =
      let held : is_held s (suc i) ≡ true = ap (is_held s) (sym a) ∙ (h.after.shows.keeps.tree.shown key n there).out_is in
      ap (λ (b : Bool). if b then words.activation_text program s (suc i) else []) held

  pub line-none : (keys : List (Option ℕ)) (i : ℕ) → AreHeldKeys (snapshot_of m) keys → slice_get keys i ≡ Some None → line (suc i) ≡ []
  line-none keys i are none =
      ap (λ (b : Bool). if b then words.activation_text program s (suc i) else []) (unheld program cells choices (snapshot_of m) h.after (suc i) (are.others i none))

  -- ---- the loop over the keys

  module _ (keys stacked : List (Option ℕ)) (are : AreHeldKeys (snapshot_of m) keys) (on : AreStackedKeys m stacked) (i : ℕ) (o p : Option ℕ) (e : slice_get keys i ≡ Some o) (f : slice_get stacked i ≡ Some p) where
    held-under : (key : ℕ) (n : FrameNode) → nodes_of m.frames.nodes key ≡ Some n → n.activation ≡ suc i
        → IsHeldUnder storage m (record { key = key; is_stacked = is_some p }) cells choices n.activation
    held-under key n there number = record {
      after = h;
      same = is.frames;
      stacked = stacked-is program cells choices m h stacked on i p f ∙ ap (is_stacked s) (sym number);
      under = under key n there;
    }

    pub each-held : IsHeldIfAny storage m (held_frame o (is_some p))
    each-held = by o e where
      by : (q : Option ℕ) → slice_get keys i ≡ Some q → IsHeldIfAny storage m (held_frame q (is_some p))
      by None g = tt
      by (Some key) g = let n = are.noted i key g in (cells, choices, n.0.activation, held-under key n.0 n.1 n.2)

    line-added : (old new : List ℕ) → IsTextOfHeld storage m (held_frame o (is_some p)) old new → new ≡ old ++ line (suc i)
    line-added old new = by o e where
      by : (q : Option ℕ) → slice_get keys i ≡ Some q → IsTextOfHeld storage m (held_frame q (is_some p)) old new → new ≡ old ++ line (suc i)
      by None g added = added ∙ sym (append-nil old) ∙ ap (λ (xs : List ℕ). old ++ xs) (sym (line-none keys i are g))
      by (Some key) g added =
          let n = are.noted i key g in
          added cells choices n.0.activation (held-under key n.0 n.1 n.2)
          ∙ ap (λ a. old ++ words.activation_text program s a) n.2
          ∙ ap (λ (xs : List ℕ). old ++ xs) (sym (line-held i key n.0 n.1 n.2))

    pub text-next : (old new : List ℕ) → i < length s.activations → IsTextOfHeld storage m (held_frame o (is_some p)) old new
        → new ++ words.activations_text program s (suc (i + 1)) (drop (i + 1) s.activations) ≡ old ++ words.activations_text program s (suc i) (drop i s.activations)
    text-next old new less added =
        let next : suc (i + 1) ≡ suc (suc i) = omega arith in
        ap (λ n. new ++ words.activations_text program s n (drop (i + 1) s.activations)) next
        ∙ ap (λ (xs : List ℕ). xs ++ words.activations_text program s (suc (suc i)) (drop (i + 1) s.activations)) (line-added old new added)
        ∙ append_assoc old (line (suc i)) (words.activations_text program s (suc (suc i)) (drop (i + 1) s.activations))
        ∙ ap (λ (xs : List ℕ). old ++ xs) (sym (line-next i less))
