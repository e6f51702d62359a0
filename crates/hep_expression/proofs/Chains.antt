-- One iteration of the loops that read operators with their operands, and arguments.
use Rattle.std.proofs.Common.{◌≡◌, ℕ, suc, ◌+◌, ◌-◌, ◌<◌, ◌≤◌, List, [], ◌∷◌, ◌++◌, Option, Some, None, refl, sym, ap, ◌∙◌, arith}
use Rattle.hep_source.specs.Tree.{Tree, Trees, binary, no_trees, trees, trees_of}
use Rattle.hep_source.specs.declared.operator.Operator.{Operator}
use Rattle.hep_expression.specs.declared.read_failure.ReadFailure.{ReadFailure}
use Rattle.hep_expression.specs.declared.read_failure.ReadFailure.TheVariants as unread
use Rattle.hep_expression.specs.Reading.{Reader, ◌>>=◌, after, Fails}
use Rattle.hep_expression.specs.ReadingExpression.{operator_at, chain, arguments}

-- n iterations are allowed, i of them are done, and the rest of the chain gives the whole.
module _ (among : List Operator) (next : Reader Tree) (n i : ℕ) (t : Tree) (s : List ℕ) (whole : Option (Tree × List ℕ)) where
  pub chain_goes_on : (o : Operator) (y : Tree) (m r : List ℕ) → i < n → operator_at among s ≡ Some (o, m) → next m ≡ Some (y, r) → chain among next (n - i) t s ≡ whole → chain among next (n - (i + 1)) (binary o t y) r ≡ whole
  unfolding chain
  chain_goes_on o y m r lt is_operator is_operand so_far =
      let left : n - i ≡ suc (n - (i + 1)) = omega arith in
      let turn : chain among next (n - i) t s ≡ chain among next (n - (i + 1)) (binary o t y) r = rw (left, is_operator, is_operand) refl in
      sym turn ∙ so_far

  pub chain_ends : i < n → operator_at among s ≡ None → chain among next (n - i) t s ≡ whole → whole ≡ Some (t, s)
  unfolding chain
  chain_ends lt is_none so_far =
      let left : n - i ≡ suc (n - (i + 1)) = omega arith in
      let turn : chain among next (n - i) t s ≡ Some (t, s) = rw (left, is_none) refl in
      sym so_far ∙ turn

  pub chain_is_over : n ≤ i → chain among next (n - i) t s ≡ whole → whole ≡ Some (t, s)
  unfolding chain
  chain_is_over le so_far =
      let left : n - i ≡ 0 = omega arith in
      let turn : chain among next (n - i) t s ≡ Some (t, s) = rw left refl in
      sym so_far ∙ turn

  pub chain_fails : (why : ReadFailure) (o : Operator) (m : List ℕ) → i < n → operator_at among s ≡ Some (o, m) → Fails why (next m) → chain among next (n - i) t s ≡ whole → Fails why whole
  unfolding chain
  chain_fails unread.NoMemory o m lt is_operator fails so_far = tt
  chain_fails unread.NoReading o m lt is_operator fails so_far =
      let left : n - i ≡ suc (n - (i + 1)) = omega arith in
      let turn : chain among next (n - i) t s ≡ None = rw (left, is_operator, fails) refl in
      sym so_far ∙ turn

-- what is read after arguments that were read before
abbrev pub after_read : List Tree → Option (Trees × List ℕ) → Option (Trees × List ℕ)
after_read [] read = read
after_read (t ∷ ts) read = after_read ts read >>= λ x. Some (trees t x.0, x.1)

nothing_after : (ts : List Tree) → after_read ts None ≡ None
nothing_after [] = refl
nothing_after (t ∷ ts) = ap (λ (read : Option (Trees × List ℕ)). read >>= λ x. Some (trees t x.0, x.1)) (nothing_after ts)

last_after : (ts : List Tree) (u : Tree) (r : List ℕ) → after_read ts (Some (trees u no_trees, r)) ≡ Some (trees_of (ts ++ u ∷ []), r)
last_after [] u r = refl
last_after (t ∷ ts) u r = ap (λ (read : Option (Trees × List ℕ)). read >>= λ x. Some (trees t x.0, x.1)) (last_after ts u r)

more_after : (ts : List Tree) (u : Tree) (read : Option (Trees × List ℕ)) → after_read ts (read >>= λ x. Some (trees u x.0, x.1)) ≡ after_read (ts ++ u ∷ []) read
more_after [] u read = refl
more_after (t ∷ ts) u read = ap (λ (read : Option (Trees × List ℕ)). read >>= λ x. Some (trees t x.0, x.1)) (more_after ts u read)

-- The same for arguments: those in ts are read, and s follows them.
module _ (inner : Reader Tree) (n i : ℕ) (ts : List Tree) (s : List ℕ) (whole : Option (Trees × List ℕ)) where
  pub arguments_go_on : (u : Tree) (r m : List ℕ) → i < n → inner s ≡ Some (u, r) → after 41 r ≡ None → after 44 r ≡ Some m → after_read ts (arguments inner (n - i) s) ≡ whole → after_read (ts ++ u ∷ []) (arguments inner (n - (i + 1)) m) ≡ whole
  unfolding arguments
  arguments_go_on u r m lt is_argument no_end comma so_far =
      let left : n - i ≡ suc (n - (i + 1)) = omega arith in
      let turn : after_read ts (arguments inner (n - i) s) ≡ after_read (ts ++ u ∷ []) (arguments inner (n - (i + 1)) m) = rw (left, is_argument, no_end, comma) (more_after ts u (arguments inner (n - (i + 1)) m)) in
      sym turn ∙ so_far

  pub arguments_end : (u : Tree) (r m : List ℕ) → i < n → inner s ≡ Some (u, r) → after 41 r ≡ Some m → after_read ts (arguments inner (n - i) s) ≡ whole → whole ≡ Some (trees_of (ts ++ u ∷ []), m)
  unfolding arguments
  arguments_end u r m lt is_argument end so_far =
      let left : n - i ≡ suc (n - (i + 1)) = omega arith in
      let turn : after_read ts (arguments inner (n - i) s) ≡ Some (trees_of (ts ++ u ∷ []), m) = rw (left, is_argument, end) (last_after ts u m) in
      sym so_far ∙ turn

  pub arguments_stop : (u : Tree) (r : List ℕ) → i < n → inner s ≡ Some (u, r) → after 41 r ≡ None → after 44 r ≡ None → after_read ts (arguments inner (n - i) s) ≡ whole → whole ≡ None
  unfolding arguments
  arguments_stop u r lt is_argument no_end no_comma so_far =
      let left : n - i ≡ suc (n - (i + 1)) = omega arith in
      let turn : after_read ts (arguments inner (n - i) s) ≡ None = rw (left, is_argument, no_end, no_comma) (nothing_after ts) in
      sym so_far ∙ turn

  pub arguments_are_over : n ≤ i → after_read ts (arguments inner (n - i) s) ≡ whole → whole ≡ None
  unfolding arguments
  arguments_are_over le so_far =
      let left : n - i ≡ 0 = omega arith in
      let turn : after_read ts (arguments inner (n - i) s) ≡ None = rw left (nothing_after ts) in
      sym so_far ∙ turn

  pub arguments_fail : (why : ReadFailure) → i < n → Fails why (inner s) → after_read ts (arguments inner (n - i) s) ≡ whole → Fails why whole
  unfolding arguments
  arguments_fail unread.NoMemory lt fails so_far = tt
  arguments_fail unread.NoReading lt fails so_far =
      let left : n - i ≡ suc (n - (i + 1)) = omega arith in
      let turn : after_read ts (arguments inner (n - i) s) ≡ None = rw (left, fails) (nothing_after ts) in
      sym so_far ∙ turn
