-- A leaf in the order of a tree becomes a branch and two leaves.
use Rattle.std.proofs.Common.{◌≡◌, ◌≢◌, ℕ, suc, ◌+◌, ◌<◌, Bool, true, false, cond, nat_eq, List, [], ◌∷◌, length, map, refl, sym, ap}
use Rattle.std.proofs.Common.{subst, ◌∙◌, inl, inr, arith}
use Rattle.std.specs.Bool.{⊤}
use Rattle.std.specs.Prelude.{Contains}
use Rattle.std.proofs.lemmas.Bool.{cases_eq}
use Rattle.std.specs.List.{AllByRecursion}
use Rattle.std.proofs.lemmas.Bool.Decides.{nat_tests}
use Rattle.un_domains.specs.Sets.{Sets}
use Rattle.un_base.specs.declared.ids.VarId.{VarId}
use Rattle.un_tree.specs.declared.node.Node.{Node}
use Rattle.un_tree.specs.declared.node.Node.TheVariants.{Branch, Closed, Open, Split, Part}
use Rattle.un_domains.specs.declared.side.Side.TheVariants.{AtMost, Above}
use Rattle.un_tree.specs.Boxes.{half}
use Rattle.un_tree.specs.Waits.{Waiting, Whole, Visit, IsPlain, after, IsWhole, visits}
use Rattle.un_branching.specs.Growths.{Listed, boxes_after, one, count, follow}

abbrev pub IsLeaf : Node → Type 0
IsLeaf (Branch v x) = ⊥
IsLeaf Closed = ⊤
IsLeaf Open = ⊤
IsLeaf Split = ⊥
IsLeaf (Part number) = ⊥

pub after_leaf : (m : Node) (b : Sets) (ws : List Sets) → IsLeaf m → boxes_after m b ws ≡ ws
after_leaf (Branch v x) b ws h = absurd h
after_leaf Closed b ws h = refl
after_leaf Open b ws h = refl
after_leaf Split b ws h = absurd h
after_leaf (Part number) b ws h = absurd h

-- what waits after a node of a tree without parts are the whole trees of these boxes
whole_after : (blocks : ℕ) (m : Node) (b : Sets) (ws : List Sets) → IsPlain m
    → after blocks m (Whole b) (map Whole ws) ≡ map Whole (boxes_after m b ws)
whole_after blocks (Branch v x) b ws plain = refl
whole_after blocks Closed b ws plain = refl
whole_after blocks Open b ws plain = refl
whole_after blocks Split b ws plain = absurd plain
whole_after blocks (Part number) b ws plain = absurd plain

pub one_same : (i : ℕ) → one i i ≡ 1
one_same i = grind (arith, nat_tests)

pub one_other : (i j : ℕ) → i ≢ j → one i j ≡ 0
one_other i j h = grind (arith, nat_tests)

later : (k x : ℕ) (xs : List ℕ) → count k (x ∷ xs) ≡ 1 → nat_eq k x ≡ false → count k xs ≡ 1
later k x xs h e = let no : one k x ≡ 0 = ap (λ (c : Bool). cond c 1 0) e in omega (arith, h, no)

-- the places a and b after the place k
pub put : ℕ → ℕ → ℕ → List ℕ → List ℕ
put k a b [] = []
put k a b (x ∷ xs) = cond (nat_eq k x) (x ∷ a ∷ b ∷ xs) (x ∷ put k a b xs)

pub length-put : (k a b : ℕ) (xs : List ℕ) → count k xs ≡ 1 → length (put k a b xs) ≡ length xs + 2
unfolding put
length-put k a b [] h = absurd (omega (arith, h))
length-put k a b (x ∷ xs) h = by (nat_eq k x) refl (λ g. length-put k a b xs g)
  where
    by : (c : Bool) → nat_eq k x ≡ c → (count k xs ≡ 1 → length (put k a b xs) ≡ length xs + 2)
        → length (cond c (x ∷ a ∷ b ∷ xs) (x ∷ put k a b xs)) ≡ length (x ∷ xs) + 2
    by true e next = omega arith
    by false e next = let rest : count k xs ≡ 1 = later k x xs h e in omega (arith, next rest)

pub count-put : (j k a b : ℕ) (xs : List ℕ) → count k xs ≡ 1 → count j (put k a b xs) ≡ count j xs + (one j a + one j b)
unfolding put
count-put j k a b [] h = absurd (omega (arith, h))
count-put j k a b (x ∷ xs) h = by (nat_eq k x) refl (λ g. count-put j k a b xs g)
  where
    by : (c : Bool) → nat_eq k x ≡ c → (count k xs ≡ 1 → count j (put k a b xs) ≡ count j xs + (one j a + one j b))
        → count j (cond c (x ∷ a ∷ b ∷ xs) (x ∷ put k a b xs)) ≡ count j (x ∷ xs) + (one j a + one j b)
    by true e next = omega arith
    by false e next = let rest : count k xs ≡ 1 = later k x xs h e in omega (arith, next rest)

module _ (node : ℕ → Node) (next : ℕ → ℕ) (box : ℕ → Sets) (n : ℕ) where
  pub listed_fresh : (j i : ℕ) (xs : List ℕ) (ws : List Sets) → n < suc j → Listed node next box n i xs ws → count j xs ≡ 0
  listed_fresh j i [] ws far h = refl
  listed_fresh j i (x ∷ xs) [] far h = absurd h
  listed_fresh j i (x ∷ xs) (b ∷ ws) far h =
      let no : one j x ≡ 0 = one_other j x (λ e. omega (arith, far, h.1, e)) in
      omega (arith, no, listed_fresh j (next x) xs (boxes_after (node x) b ws) far h.3)

  pub listed_follow : (i : ℕ) (xs : List ℕ) (ws : List Sets) → Listed node next box n i xs ws → follow next (length xs) i ≡ xs
  listed_follow i [] ws h = refl
  listed_follow i (x ∷ xs) [] h = absurd h
  listed_follow i (x ∷ xs) (b ∷ ws) h = ap (λ (j : ℕ). j ∷ follow next (length xs) (next j)) h.0
      ∙ ap (λ (ys : List ℕ). x ∷ ys) (listed_follow (next x) xs (boxes_after (node x) b ws) h.3)

  module _ (blocks : ℕ) (plain : (i : ℕ) → i < n → IsPlain (node i)) where
    pub listed_whole : (i : ℕ) (xs : List ℕ) (ws : List Sets) → Listed node next box n i xs ws → IsWhole blocks (map node xs) (map Whole ws)
    listed_whole i [] ws h = ap (map Whole) h
    listed_whole i (x ∷ xs) [] h = absurd h
    listed_whole i (x ∷ xs) (b ∷ ws) h = subst (IsWhole blocks (map node xs)) (sym (whole_after blocks (node x) b ws (plain x h.1)))
        (listed_whole (next x) xs (boxes_after (node x) b ws) h.3)

    pub listed_all : (P : Visit → Type 0) → ((i : ℕ) → i < n → (place : ℕ) (rest : List Node)
        → P (record { node = node i; waiting = Whole (box i); place = place; rest = rest }))
        → (place i : ℕ) (xs : List ℕ) (ws : List Sets) → Listed node next box n i xs ws
        → AllByRecursion P (visits blocks place (map node xs) (map Whole ws))
    listed_all P all place i [] ws h = tt
    listed_all P all place i (x ∷ xs) [] h = absurd h
    listed_all P all place i (x ∷ xs) (b ∷ ws) h = (
      subst (λ (c : Sets). P (record { node = node x; waiting = Whole c; place = place; rest = map node xs })) h.2
          (all x h.1 place (map node xs)),
      subst (λ (vs : List Waiting). AllByRecursion P (visits blocks (place + 1) (map node xs) vs))
          (sym (whole_after blocks (node x) b ws (plain x h.1)))
          (listed_all P all (place + 1) (next x) xs (boxes_after (node x) b ws) h.3),
    )

    -- a place of the list is visited
    pub listed_some : (k place i : ℕ) (xs : List ℕ) (ws : List Sets) → Listed node next box n i xs ws → 0 < count k xs
        → (p : Visit) × Contains (visits blocks place (map node xs) (map Whole ws)) p × (p.node ≡ node k) × (p.waiting ≡ Whole (box k))
    listed_some k place i [] ws h some = absurd (omega (arith, some))
    listed_some k place i (x ∷ xs) [] h some = absurd h
    listed_some k place i (x ∷ xs) (b ∷ ws) h some = elim (cases_eq k x) [
      | inl e ↦ (
        record { node = node x; waiting = Whole b; place = place; rest = map node xs },
        (0, omega arith, refl),
        ap node (sym e),
        ap Whole (sym h.2 ∙ ap box (sym e)),
      )
      | inr apart ↦ (
          let no = one_other k x apart in
          let next_one = listed_some k (place + 1) (next x) xs (boxes_after (node x) b ws) h.3 (omega (arith, some, no)) in
          let at = subst (λ (vs : List Waiting). Contains (visits blocks (place + 1) (map node xs) vs) next_one.0)
          (sym (whole_after blocks (node x) b ws (plain x h.1))) next_one.1 in
          (next_one.0, (suc at.0, omega (arith, at.1), at.2), next_one.2, next_one.3)
          )
    ]

  pub listed_nodes : (P : Node → Type 0) → ((i : ℕ) → i < n → P (node i)) → (i : ℕ) (xs : List ℕ) (ws : List Sets)
      → Listed node next box n i xs ws → AllByRecursion P (map node xs)
  listed_nodes P all i [] ws h = tt
  listed_nodes P all i (x ∷ xs) [] h = absurd h
  listed_nodes P all i (x ∷ xs) (b ∷ ws) h = (all x h.1, listed_nodes P all (next x) xs (boxes_after (node x) b ws) h.3)

  module _ (node' : ℕ → Node) (next' : ℕ → ℕ) (box' : ℕ → Sets) (k : ℕ) (same : (j : ℕ) → j < n → j ≢ k → (node' j ≡ node j)
      × (next' j ≡ next j)) (same_box : (j : ℕ) → j < n → box' j ≡ box j) where
    listed_same : (i : ℕ) (xs : List ℕ) (ws : List Sets) → count k xs ≡ 0 → Listed node next box n i xs ws
        → Listed node' next' box' (n + 2) i xs ws
    listed_same i [] ws none h = h
    listed_same i (x ∷ xs) [] none h = h
    listed_same i (x ∷ xs) (b ∷ ws) none h =
        let apart : x ≢ k = λ e. (let here : one k x ≡ 1 = subst (λ (y : ℕ). one k y ≡ 1) (sym e) (one_same k) in
        omega (arith, here, none)) in
        let at = same x h.1 apart in
        let rest : count k xs ≡ 0 = omega (arith, none) in (
          h.0,
          omega (arith, h.1),
          same_box x h.1 ∙ h.2,
          subst (λ (j : ℕ). Listed node' next' box' (n + 2) j xs (boxes_after (node' x) b ws)) (sym at.1)
              (subst (λ (m : Node). Listed node' next' box' (n + 2) (next x) xs (boxes_after m b ws)) (sym at.0)
              (listed_same (next x) xs (boxes_after (node x) b ws) rest h.3)),
        )

    module _ (v : VarId) (x0 : ℕ) (was : node k ≡ Open) (is : node' k ≡ Branch v x0) (goes : next' k
        ≡ n + 1) (then_right : next' (n + 1) ≡ n) (back : next' n ≡ next k)
        (left : box' (n + 1) ≡ half (box k) v x0 AtMost) (right : box' n
        ≡ half (box k) v x0 Above) (leaf : IsLeaf (node' n)) (leaf1 : IsLeaf (node' (n + 1))) where
      listed_here : (x : ℕ) (xs : List ℕ) (b : Sets) (ws : List Sets) → k ≡ x → x < n → box x ≡ b → count k xs ≡ 0
          → Listed node next box n (next x) xs (boxes_after (node x) b ws)
          → Listed node' next' box' (n + 2) x (x ∷ (n + 1) ∷ n ∷ xs) (b ∷ ws)
      listed_here x xs b ws e below at none h =
          let D = λ (i : ℕ) (ys : List ℕ) (bs : List Sets). Listed node' next' box' (n + 2) i ys bs in
          let bk : box k ≡ b = ap box e ∙ at in
          let rest : D (next x) xs ws = listed_same (next x) xs ws none (subst
          (λ (m : Node). Listed node next box n (next x) xs (boxes_after m b ws)) (sym (ap node e) ∙ was) h) in
          let third : D n (n ∷ xs) (half b v x0 Above ∷ ws) = (
            refl,
            omega arith,
            right ∙ ap (λ (c : Sets). half c v x0 Above) bk,
            subst (λ (bs : List Sets). D (next' n) xs bs) (sym (after_leaf (node' n) (half b v x0 Above) ws leaf))
                (subst (λ (j : ℕ). D j xs ws) (sym (back ∙ ap next e)) rest),
          ) in
          let second : D (n + 1) ((n + 1) ∷ n ∷ xs) (half b v x0 AtMost ∷ half b v x0 Above ∷ ws) = (
            refl,
            omega arith,
            left ∙ ap (λ (c : Sets). half c v x0 AtMost) bk,
            subst (λ (bs : List Sets). D (next' (n + 1)) (n ∷ xs) bs) (sym
                (after_leaf (node' (n + 1)) (half b v x0 AtMost) (half b v x0 Above ∷ ws) leaf1))
                (subst (λ (j : ℕ). D j (n ∷ xs) (half b v x0 Above ∷ ws)) (sym then_right) third),
          ) in (
            refl,
            omega (arith, below),
            same_box x below ∙ at,
            subst (λ (m : Node). D (next' x) ((n + 1) ∷ n ∷ xs) (boxes_after m b ws)) (sym (sym (ap node' e)
                ∙ is)) (subst (λ (j : ℕ). D j ((n + 1) ∷ n ∷ xs) (half b v x0 AtMost ∷ half b v x0 Above ∷ ws))
                (sym (sym (ap next' e) ∙ goes)) second),
          )

      pub listed_put : (i : ℕ) (xs : List ℕ) (ws : List Sets) → count k xs ≡ 1 → Listed node next box n i xs ws
          → Listed node' next' box' (n + 2) i (put k (n + 1) n xs) ws
      unfolding put
      listed_put i [] ws once h = absurd (omega (arith, once))
      listed_put i (x ∷ xs) [] once h = absurd h
      listed_put i (x ∷ xs) (b ∷ ws) once h = by (nat_eq k x) refl (λ g. listed_put (next x) xs (boxes_after (node x) b ws) g h.3)
        where
          by : (c : Bool) → nat_eq k x ≡ c → (count k xs ≡ 1
              → Listed node' next' box' (n + 2) (next x) (put k (n + 1) n xs) (boxes_after (node x) b ws))
              → Listed node' next' box' (n + 2) i (cond c (x ∷ (n + 1) ∷ n ∷ xs) (x ∷ put k (n + 1) n xs)) (b ∷ ws)
          by true e rec =
              let eq : k ≡ x = grind (arith, nat_tests) in
              let none : count k xs ≡ 0 = (let here : count k (x ∷ xs) ≡ 1 = once in let h1 : one k x
              ≡ 1 = subst (λ (y : ℕ). one k y ≡ 1) eq (one_same k) in omega (arith, here, h1)) in
              subst (λ (j : ℕ). Listed node' next' box' (n + 2) j (x ∷ (n + 1) ∷ n ∷ xs) (b ∷ ws)) (sym h.0)
              (listed_here x xs b ws eq h.1 h.2 none h.3)
          by false e rec =
              let apart : x ≢ k = λ eq. (let e' : nat_eq k x ≡ false = e in let e2 : nat_eq k x
              ≡ true = subst (λ (y : ℕ). nat_eq k y ≡ true) (sym eq) (grind (arith, nat_tests)) in cc (e', e2)) in
              let at = same x h.1 apart in
              let rest : count k xs ≡ 1 = later k x xs once e in (
                h.0,
                omega (arith, h.1),
                same_box x h.1 ∙ h.2,
                subst (λ (j : ℕ). Listed node' next' box' (n + 2) j (put k (n + 1) n xs) (boxes_after (node' x) b ws)) (sym at.1)
                    (subst (λ (m : Node). Listed node' next' box' (n + 2) (next x) (put k (n + 1) n xs) (boxes_after m b ws))
                    (sym at.0) (rec rest)),
              )
