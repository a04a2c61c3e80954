-- What is marked is joined to the end of the entry.
use Rattle.std.proofs.Common.{ℕ, zero, suc, ◌≡◌, ◌+◌, ◌*◌, Bool, true, false, List, [], ◌∷◌, length, map, ◌⊎◌, inl, inr, refl, sym}
use Rattle.std.proofs.Common.{ap, ◌∙◌, subst, arith, replicate, Contains}
use Rattle.std.proofs.lemmas.Bool.{cases_lt}
use Rattle.std.proofs.lemmas.Bool.Decides.{nat_tests}
use Rattle.std.proofs.lemmas.List.{get_or-set_other}
use Rattle.std.specs.Prelude.{Some, fold, nat_lt, slice_get, slice_set, ◌||◌, if◌then◌else◌}
use Rattle.un_ir.specs.Live.{targets_of}
use Rattle.un_ir.specs.declared.extended.ExtBlock.{ExtBlock}
use Rattle.un_model.specs.Congruences.{term_of}
use Rattle.un_model.specs.Pairs.{joined, places_from}
use Rattle.un_lists.proofs.Lists.{Each, each_join}
use Rattle.un_saved.specs.Joined.{edge_to, edges_of, through_of, links_of, links_between, is_marked, is_at, marked, marked_by, marked_after}
use Rattle.un_saved.specs.Joined.{entry_alone, joined_in, AreJoined}
use Rattle.un_saved.specs.Saved.{keeps_places}
use Rattle.un_saved.specs.Standing.{IsJoined, Leads, Keeps, entry, on, back, through, within}
use Rattle.un_saved.specs.declared.boundary.Boundary.{Boundary}
use Rattle.un_saved.specs.declared.boundary.Boundary.TheVariants.{StartOf, EndOf}
use Rattle.un_saved.specs.declared.boundary.Link.{Link}
use Rattle.un_saved.specs.declared.boundary.Marks.{Marks}

-- ---- marks

set_marked : (marks : List Bool) (k i : ℕ) → is_marked (slice_set marks k true) i ≡ true → (i ≡ k) ⊎ (is_marked marks i ≡ true)
set_marked marks k i h = elim (cases_lt i k) [
  | inl lt ↦ other (λ same. omega (arith, lt, same))
  | inr le ↦ elim (cases_lt k i) [
    | inl lt ↦ other (λ same. omega (arith, lt, same))
    | inr ge ↦ inl (omega (arith, le, ge))
  ]
]
  where
    other : (i ≡ k → ⊥) → (i ≡ k) ⊎ (is_marked marks i ≡ true)
    other ne = inr (sym (get_or-set_other marks k i true false ne) ∙ h)

marked_at : (m : Marks) (c d : Boundary) → is_at (marked m c) d ≡ true → (d ≡ c) ⊎ (is_at m d ≡ true)
marked_at m (StartOf k) (StartOf i) h = elim (set_marked m.starts k i h) [ inl e ↦ inl (ap StartOf e) | inr t ↦ inr t ]
marked_at m (StartOf k) (EndOf i) h = inr h
marked_at m (EndOf k) (StartOf i) h = inr h
marked_at m (EndOf k) (EndOf i) h = elim (set_marked m.ends k i h) [ inl e ↦ inl (ap EndOf e) | inr t ↦ inr t ]

none_marked : (n k : ℕ) → is_marked (replicate n false) k ≡ false
none_marked zero zero = refl
none_marked zero (suc k) = refl
none_marked (suc n) zero = refl
none_marked (suc n) (suc k) = none_marked n k

module _ (blocks : List ExtBlock) where
  -- one boundary of a link is joined where the other is
  record IsGood (e : Link) : Type 0 where
    ahead : IsJoined blocks e.from → IsJoined blocks e.to
    behind : IsJoined blocks e.to → IsJoined blocks e.from

  by_link : (m : Marks) (e : Link) → IsGood e → AreJoined blocks m → AreJoined blocks (marked_by m e)
  by_link m e good known c h = by (is_at m e.from) (is_at m e.to) refl refl h
    where
      both : IsJoined blocks e.from → IsJoined blocks e.to → is_at (marked (marked m e.from) e.to) c ≡ true → IsJoined blocks c
      both from to t = elim (marked_at (marked m e.from) e.to c t) [
        | inl same ↦ subst (IsJoined blocks) (sym same) to
        | inr rest ↦ elim (marked_at m e.from c rest) [
          | inl same ↦ subst (IsJoined blocks) (sym same) from
          | inr old ↦ known c old
        ]
      ]

      by : (a b : Bool) → is_at m e.from ≡ a → is_at m e.to ≡ b → is_at (if a || b then marked (marked m e.from) e.to else m) c ≡ true
          → IsJoined blocks c
      by true b p q t = let from = known e.from p in both from (good.ahead from) t
      by false true p q t = let to = known e.to q in both (good.behind to) to t
      by false false p q t = known c t

  by_links : (links : List Link) (m : Marks) → Each IsGood links → AreJoined blocks m → AreJoined blocks (fold marked_by m links)
  by_links [] m each known = known
  by_links (e ∷ es) m each known = by_links es (marked_by m e) each.1 (by_link m e each.0 known)

  by_rounds : (n : ℕ) (links : List Link) (m : Marks) → Each IsGood links → AreJoined blocks m → AreJoined blocks (marked_after n links m)
  by_rounds zero links m each known = known
  by_rounds (suc n) links m each known = by_rounds n links (fold marked_by m links) each (by_links links m each known)

  entry_known : (count : ℕ) → AreJoined blocks (entry_alone count)
  entry_known count (StartOf k) h = let z : false ≡ true = sym (none_marked count k) ∙ h in absurd (cc z)
  entry_known count (EndOf k) h = elim (set_marked (replicate count false) 0 k h) [
    | inl same ↦ subst (λ (n : ℕ). IsJoined blocks (EndOf n)) (sym same) entry
    | inr t ↦ (let z : false ≡ true = sym (none_marked count k) ∙ t in absurd (cc z))
  ]

  -- ---- links

  module _ (k : ℕ) (b : ExtBlock) (at : slice_get blocks k ≡ Some b) where
    edge_good : (l : ℕ) → Contains (targets_of k (term_of b.ops)) l → Each IsGood (edge_to (length blocks) k l)
    edge_good l target = by (nat_lt l (length blocks)) refl
      where
        by : (t : Bool) → nat_lt l (length blocks) ≡ t → Each IsGood (if t then record { from = EndOf k; to = StartOf l } ∷ [] else [])
        by true t =
            let leads : Leads blocks k l = record { block = b; from = at; to = target; there = grind (arith, nat_tests, t) } in
            (record { ahead = on k l leads; behind = back k l leads }, tt)
        by false t = tt

    edges_good : (ls : List ℕ) → ((l : ℕ) → Contains ls l → Contains (targets_of k (term_of b.ops)) l)
        → Each IsGood (joined (map (edge_to (length blocks) k) ls))
    edges_good [] all = tt
    edges_good (l ∷ ls) all = each_join IsGood (edge_to (length blocks) k l) (joined (map (edge_to (length blocks) k) ls))
        (edge_good l (all l (0, omega arith, refl)))
        (edges_good ls (λ n c. all n (let lt = c.1 in (suc c.0, omega (arith, lt), c.2))))

    through_good : Each IsGood (through_of k b)
    through_good = by (keeps_places b) refl
      where
        by : (t : Bool) → keeps_places b ≡ t → Each IsGood (if t then record { from = StartOf k; to = EndOf k } ∷ [] else [])
        by true t = let keeps : Keeps blocks k = record { block = b; at = at; keeps = t } in
            (record { ahead = through k keeps; behind = within k keeps }, tt)
        by false t = tt

    links_good : Each IsGood (links_of (length blocks) k b)
    links_good = each_join IsGood (edges_of (length blocks) k b) (through_of k b) (edges_good (targets_of k (term_of b.ops)) (λ l c. c))
        through_good

  each_place : (f : ℕ → ExtBlock → List Link) (i : ℕ) (bs : List ExtBlock)
      → ((k : ℕ) (b : ExtBlock) → slice_get bs k ≡ Some b → Each IsGood (f (i + k) b)) → Each IsGood (joined (places_from f i bs))
  each_place f i [] h = tt
  each_place f i (b ∷ bs) h =
      let here : i + 0 ≡ i = omega arith in
      each_join IsGood (f i b) (joined (places_from f (i + 1) bs)) (subst (λ (n : ℕ). Each IsGood (f n b)) here (h zero b refl))
      (each_place f (i + 1) bs (λ k c at.
      let next : i + suc k ≡ i + 1 + k = omega arith in subst (λ (n : ℕ). Each IsGood (f n c)) next (h (suc k) c at)))

  -- All that is marked in the end is.
  pub joined_known : AreJoined blocks (joined_in blocks)
  joined_known = by_rounds (2 * length blocks) (links_between blocks) (entry_alone (length blocks))
      (each_place (links_of (length blocks)) 0 blocks (λ k b at.
      let same : k ≡ 0 + k = omega arith in subst (λ (n : ℕ). Each IsGood (links_of (length blocks) n b)) same (links_good k b at)))
      (entry_known (length blocks))
