-- The loops that look for what is read: what is left to look at has what is looked for.
use Rattle.std.proofs.Common.{ℕ, ◌≡◌, ◌<◌, ◌≤◌, ◌⊎◌, inl, inr, min, ◌+◌, ◌-◌, Bool, true, false, List, [], ◌∷◌, length, drop, Option}
use Rattle.std.proofs.Common.{Some, None, slice_get, refl}
use Rattle.std.proofs.Common.{ap, ◌∙◌, arith}
use Rattle.std.specs.Prelude.{nat_lt, if◌then◌else◌, cond}
use Rattle.std.specs.List.{find}
use Rattle.std.proofs.lemmas.Bool.{cases_lt}
use Rattle.std.proofs.lemmas.Bool.Decides.{nat_tests}
use Rattle.un_base.specs.declared.ids.TempId.{TempId}
use Rattle.un_ir.specs.declared.extended.ExtOp.{ExtOp}
use Rattle.un_ir.specs.declared.extended.ExtBlock.{ExtBlock}
use Rattle.un_model.specs.declared.model.BlockVars.{BlockVars}
use Rattle.un_model.specs.declared.model.OpVars.{OpVars}
use Rattle.un_model.specs.Cost.{value_of}
use Rattle.un_model.specs.Pairs.{places_from}
use Rattle.un_model.proofs.Steps.{drop_at, drop_past}
use Rattle.un_press.specs.Searches.{block_cycle, cycle_in, read_by, read_in, read_in_blocks, or_later}

one_within : (a b k : ℕ) → min a b ≤ k → (a ≤ k) ⊎ (b ≤ k)
one_within a b k le = elim (cases_lt a b) [ inl lt ↦ inl (omega (arith, lt, le)) | inr ge ↦ inr (omega (arith, ge, le)) ]

-- ---- operands

module _ {A : Type 0} (p : TempId → Bool) (f : ℕ → A → TempId) (j : ℕ) (xs : List A) where
  found_by : (x : A) → slice_get xs j ≡ Some x
      → find p (places_from f j (drop j xs)) ≡ cond (p (f j x)) (Some (f j x)) (find p (places_from f (j + 1) (drop (j + 1) xs)))
  found_by x at = ap (λ ys. find p (places_from f j ys)) (drop_at xs j x at)

  pub found_here : (x : A) → slice_get xs j ≡ Some x → p (f j x) ≡ true → find p (places_from f j (drop j xs)) ≡ Some (f j x)
  found_here x at t = found_by x at
      ∙ ap (λ (b : Bool). cond b (Some (f j x)) (find p (places_from f (j + 1) (drop (j + 1) xs)))) t

  pub found_later : (x : A) → slice_get xs j ≡ Some x → p (f j x) ≡ false
      → find p (places_from f j (drop j xs)) ≡ find p (places_from f (j + 1) (drop (j + 1) xs))
  found_later x at t = found_by x at
      ∙ ap (λ (b : Bool). cond b (Some (f j x)) (find p (places_from f (j + 1) (drop (j + 1) xs)))) t

  pub found_nowhere : length xs ≤ j → find p (places_from f j (drop j xs)) ≡ None
  found_nowhere le = ap (λ ys. find p (places_from f j ys)) (drop_past j xs le)

-- ---- operations

or_some : (a b : Option TempId) (y : TempId) → a ≡ Some y → or_later a b ≡ Some y
or_some a b y h = ap (λ c. or_later c b) h

or_none : (a b : Option TempId) → a ≡ None → or_later a b ≡ b
or_none a b h = ap (λ c. or_later c b) h

module _ (test : TempId → Bool) (values : List ℕ) (t end k : ℕ) (ops : List ExtOp) (vars : List OpVars) where
  read_at : (op : ExtOp) (v : OpVars) → slice_get ops k ≡ Some op → slice_get vars k ≡ Some v
      → read_in test values t end (drop k ops) (drop k vars) ≡ or_later (read_by test values t end op v)
      (read_in test values t end (drop (k + 1) ops) (drop (k + 1) vars))
  read_at op v p q = ap (λ xs. read_in test values t end xs (drop k vars)) (drop_at ops k op p)
      ∙ ap (λ vs. read_in test values t end (op ∷ drop (k + 1) ops) vs) (drop_at vars k v q)

  pub read_here : (op : ExtOp) (v : OpVars) (y : TempId) → slice_get ops k ≡ Some op → slice_get vars k ≡ Some v
      → read_by test values t end op v ≡ Some y → read_in test values t end (drop k ops) (drop k vars) ≡ Some y
  read_here op v y p q r = read_at op v p q
      ∙ or_some (read_by test values t end op v) (read_in test values t end (drop (k + 1) ops) (drop (k + 1) vars)) y r

  pub read_later : (op : ExtOp) (v : OpVars) → slice_get ops k ≡ Some op → slice_get vars k ≡ Some v
      → read_by test values t end op v ≡ None
      → read_in test values t end (drop k ops) (drop k vars) ≡ read_in test values t end (drop (k + 1) ops) (drop (k + 1) vars)
  read_later op v p q r = read_at op v p q
      ∙ or_none (read_by test values t end op v) (read_in test values t end (drop (k + 1) ops) (drop (k + 1) vars)) r

  no_ops : (xs : List ExtOp) → read_in test values t end xs [] ≡ None
  no_ops [] = refl
  no_ops (op ∷ xs) = refl

  no_more_ops : length ops ≤ k → read_in test values t end (drop k ops) (drop k vars) ≡ None
  no_more_ops le = ap (λ xs. read_in test values t end xs (drop k vars)) (drop_past k ops le)

  no_more_vars : length vars ≤ k → read_in test values t end (drop k ops) (drop k vars) ≡ None
  no_more_vars le = ap (λ vs. read_in test values t end (drop k ops) vs) (drop_past k vars le) ∙ no_ops (drop k ops)

  pub read_nowhere : min (length ops) (length vars) ≤ k → read_in test values t end (drop k ops) (drop k vars) ≡ None
  read_nowhere le = elim (one_within (length ops) (length vars) k le) [ inl a ↦ no_more_ops a | inr b ↦ no_more_vars b ]

-- ---- blocks

module _ (test : TempId → Bool) (values : List ℕ) (t k : ℕ) (blocks : List ExtBlock) (vars : List BlockVars) where
  abbrev read_one : ExtBlock → BlockVars → Option TempId
  read_one block v = read_in test values t (value_of values v.end) block.ops v.ops

  blocks_at : (block : ExtBlock) (v : BlockVars) → slice_get blocks k ≡ Some block → slice_get vars k ≡ Some v
      → read_in_blocks test values t (drop k blocks) (drop k vars) ≡ or_later (read_one block v)
      (read_in_blocks test values t (drop (k + 1) blocks) (drop (k + 1) vars))
  blocks_at block v p q = ap (λ xs. read_in_blocks test values t xs (drop k vars)) (drop_at blocks k block p)
      ∙ ap (λ vs. read_in_blocks test values t (block ∷ drop (k + 1) blocks) vs) (drop_at vars k v q)

  pub block_here : (block : ExtBlock) (v : BlockVars) (y : TempId) → slice_get blocks k ≡ Some block → slice_get vars k ≡ Some v
      → read_in test values t (value_of values v.end) block.ops v.ops ≡ Some y
      → read_in_blocks test values t (drop k blocks) (drop k vars) ≡ Some y
  block_here block v y p q r = blocks_at block v p q
      ∙ or_some (read_one block v) (read_in_blocks test values t (drop (k + 1) blocks) (drop (k + 1) vars)) y r

  pub block_later : (block : ExtBlock) (v : BlockVars) → slice_get blocks k ≡ Some block → slice_get vars k ≡ Some v
      → read_in test values t (value_of values v.end) block.ops v.ops ≡ None
      → read_in_blocks test values t (drop k blocks) (drop k vars) ≡ read_in_blocks test values t (drop (k + 1) blocks) (drop (k + 1) vars)
  block_later block v p q r = blocks_at block v p q
      ∙ or_none (read_one block v) (read_in_blocks test values t (drop (k + 1) blocks) (drop (k + 1) vars)) r

  no_blocks : (xs : List ExtBlock) → read_in_blocks test values t xs [] ≡ None
  no_blocks [] = refl
  no_blocks (block ∷ xs) = refl

  no_more_blocks : length blocks ≤ k → read_in_blocks test values t (drop k blocks) (drop k vars) ≡ None
  no_more_blocks le = ap (λ xs. read_in_blocks test values t xs (drop k vars)) (drop_past k blocks le)

  no_more_ends : length vars ≤ k → read_in_blocks test values t (drop k blocks) (drop k vars) ≡ None
  no_more_ends le = ap (λ vs. read_in_blocks test values t (drop k blocks) vs) (drop_past k vars le) ∙ no_blocks (drop k blocks)

  pub blocks_nowhere : min (length blocks) (length vars) ≤ k → read_in_blocks test values t (drop k blocks) (drop k vars) ≡ None
  blocks_nowhere le = elim (one_within (length blocks) (length vars) k le) [ inl a ↦ no_more_blocks a | inr b ↦ no_more_ends b ]

-- ---- the cycle of an operation

module _ (values : List ℕ) (k left : ℕ) (blocks : List ExtBlock) (vars : List BlockVars) where
  cycle_by_block : (block : ExtBlock) (v : BlockVars) → slice_get blocks k ≡ Some block → slice_get vars k ≡ Some v
      → cycle_in values left (drop k blocks) (drop k vars) ≡ (if nat_lt left (length block.ops) then block_cycle values block v left
      else cycle_in values (left - length block.ops) (drop (k + 1) blocks) (drop (k + 1) vars))
  cycle_by_block block v p q = ap (λ xs. cycle_in values left xs (drop k vars)) (drop_at blocks k block p)
      ∙ ap (λ vs. cycle_in values left (block ∷ drop (k + 1) blocks) vs) (drop_at vars k v q)

  pub cycle_here : (block : ExtBlock) (v : BlockVars) → slice_get blocks k ≡ Some block → slice_get vars k ≡ Some v
      → left < length block.ops → cycle_in values left (drop k blocks) (drop k vars) ≡ block_cycle values block v left
  cycle_here block v p q lt =
      let r : nat_lt left (length block.ops) ≡ true = grind (arith, nat_tests, lt) in
      cycle_by_block block v p q ∙ ap (λ (b : Bool). if b then block_cycle values block v left
      else cycle_in values (left - length block.ops) (drop (k + 1) blocks) (drop (k + 1) vars)) r

  pub cycle_later : (block : ExtBlock) (v : BlockVars) → slice_get blocks k ≡ Some block → slice_get vars k ≡ Some v
      → length block.ops ≤ left
      → cycle_in values left (drop k blocks) (drop k vars) ≡ cycle_in values (left - length block.ops) (drop (k + 1) blocks)
      (drop (k + 1) vars)
  cycle_later block v p q le =
      let r : nat_lt left (length block.ops) ≡ false = grind (arith, nat_tests, le) in
      cycle_by_block block v p q ∙ ap (λ (b : Bool). if b then block_cycle values block v left
      else cycle_in values (left - length block.ops) (drop (k + 1) blocks) (drop (k + 1) vars)) r

  no_cycles : (xs : List ExtBlock) → cycle_in values left xs [] ≡ 0
  no_cycles [] = refl
  no_cycles (block ∷ xs) = refl

  no_blocks_more : length blocks ≤ k → cycle_in values left (drop k blocks) (drop k vars) ≡ 0
  no_blocks_more le = ap (λ xs. cycle_in values left xs (drop k vars)) (drop_past k blocks le)

  no_vars_more : length vars ≤ k → cycle_in values left (drop k blocks) (drop k vars) ≡ 0
  no_vars_more le = ap (λ vs. cycle_in values left (drop k blocks) vs) (drop_past k vars le) ∙ no_cycles (drop k blocks)

  pub cycle_nowhere : min (length blocks) (length vars) ≤ k → cycle_in values left (drop k blocks) (drop k vars) ≡ 0
  cycle_nowhere le = elim (one_within (length blocks) (length vars) k le) [ inl a ↦ no_blocks_more a | inr b ↦ no_vars_more b ]
