-- The entries after a branch.
use Rattle.std.proofs.Common.{◌≡◌, ◌≢◌, ℕ, ◌+◌, ◌<◌, ◌≤◌, true, false, cond, nat_eq, nat_lt, List, [], ◌∷◌, ◌++◌, length, refl, sym}
use Rattle.std.proofs.Common.{subst, ◌∙◌, inl, inr, length-append, arith}
use Rattle.std.proofs.lemmas.Bool.{cases_lt, cases_eq}
use Rattle.std.proofs.lemmas.Bool.Decides.{nat_tests}
use Rattle.std.proofs.lemmas.List.{get_or_append_left, get_or-set_same, get_or-set_other, get_or_push, get_or_past, length-set}
use Rattle.un_domains.specs.Sets.{Sets}
use Rattle.un_base.specs.declared.ids.VarId.{VarId}
use Rattle.un_tree.specs.declared.node.Node.{Node}
use Rattle.un_branching.specs.declared.growth.Entry.{Entry}
use Rattle.un_branching.specs.Growths.{entry_at, next_of, leaf_at, branch_at, branched, blank}

-- the places of a list that got two more
pub cases : (P : ℕ → Type 0) (n k : ℕ) → ((j : ℕ) → j < n → j ≢ k → P j) → P k → P n → P (n + 1) → (j : ℕ) → j < n + 2 → P j
cases P n k old at new new1 j below = elim (cases_eq j k) [
  | inl e ↦ subst P (sym e) at
  | inr apart ↦ elim (cases_lt j n) [
    | inl lt ↦ old j lt apart
    | inr ge ↦ elim (cases_eq j n) [
      | inl e ↦ subst P (sym e) new
      | inr more ↦ subst P (let e : n + 1 ≡ j = omega (arith, ge, more, below) in e) new1
    ]
  ]
]

module _ (es : List Entry) (k : ℕ) (v : VarId) (x : ℕ) (l r : Node) (there : k < length es) where
  abbrev R : Entry
  R = leaf_at r (next_of es k)

  abbrev L : Entry
  L = leaf_at l (length es)

  abbrev pub New : List Entry
  New = branched es k v x l r

  long1 : length (es ++ R ∷ []) ≡ length es + 1
  long1 = omega (arith, length-append es (R ∷ []))

  long2 : length ((es ++ R ∷ []) ++ L ∷ []) ≡ length es + 2
  long2 = omega (arith, long1, length-append (es ++ R ∷ []) (L ∷ []))

  pub new_long : length New ≡ length es + 2
  new_long = length-set ((es ++ R ∷ []) ++ L ∷ []) k (branch_at es v x) ∙ long2

  pub new_old : (j : ℕ) → j < length es → j ≢ k → entry_at New j ≡ entry_at es j
  new_old j below apart =
      get_or-set_other ((es ++ R ∷ []) ++ L ∷ []) k j (branch_at es v x) blank apart
      ∙ (get_or_append_left (es ++ R ∷ []) (L ∷ []) blank j (omega (arith, below, long1))
      ∙ get_or_append_left es (R ∷ []) blank j below)

  pub new_branch : entry_at New k ≡ branch_at es v x
  new_branch = get_or-set_same ((es ++ R ∷ []) ++ L ∷ []) k (branch_at es v x) blank (omega (arith, there, long2))

  pub new_right : entry_at New (length es) ≡ R
  new_right =
      get_or-set_other ((es ++ R ∷ []) ++ L ∷ []) k (length es) (branch_at es v x) blank (λ e. omega (arith, e, there))
      ∙ (get_or_append_left (es ++ R ∷ []) (L ∷ []) blank (length es) (omega (arith, long1)) ∙ get_or_push es R blank (length es) refl)

  pub new_left : entry_at New (length es + 1) ≡ L
  new_left = get_or-set_other ((es ++ R ∷ []) ++ L ∷ []) k (length es + 1) (branch_at es v x) blank (λ e. omega (arith, e, there))
      ∙ get_or_push (es ++ R ∷ []) L blank (length es + 1) long1

  pub new_past : (j : ℕ) → length es + 2 ≤ j → entry_at New j ≡ blank
  new_past j far = get_or_past New j blank (omega (arith, far, new_long))

module _ (box : ℕ → Sets) (n : ℕ) (left right : Sets) where
  -- the boxes after a branch
  pub boxes : ℕ → Sets
  boxes j = cond (nat_lt j n) (box j) (cond (nat_eq j n) right left)

  pub boxes_old : (j : ℕ) → j < n → boxes j ≡ box j
  unfolding boxes
  boxes_old j h = let e : nat_lt j n ≡ true = grind (arith, nat_tests) in rw e refl

  pub boxes_right : boxes n ≡ right
  unfolding boxes
  boxes_right = let e : nat_lt n n ≡ false = grind (arith, nat_tests) in let f : nat_eq n n ≡ true = grind (arith, nat_tests) in
      rw (e, f) refl

  pub boxes_left : boxes (n + 1) ≡ left
  unfolding boxes
  boxes_left = let e : nat_lt (n + 1) n ≡ false = grind (arith, nat_tests) in let f : nat_eq (n + 1) n
      ≡ false = grind (arith, nat_tests) in rw (e, f) refl
