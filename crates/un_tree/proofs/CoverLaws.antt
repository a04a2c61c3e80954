-- Solutions are in open leaves: those of a Split are in none of its parts, and that is never so.
use Rattle.std.proofs.Common.{ℕ, zero, suc, ◌≡◌, ◌+◌, ◌<◌, nat_le, nat_lt, List, [], ◌∷◌, ◌++◌, get_or, length, map, refl, sym, ap, ◌∙◌}
use Rattle.std.proofs.Common.{subst, ◌⊎◌, inl, inr, arith}
use Rattle.std.specs.Prelude.{Option, Some, None, slice_get, MatchOption, ⊤}
use Rattle.std.specs.Option.{option_map}
use Rattle.std.specs.List.{AllByRecursion}
use Rattle.std.proofs.lemmas.Bool.{cases_lt}
use Rattle.std.proofs.lemmas.Bool.Decides.{nat_tests}
use Rattle.un_base.specs.declared.ids.VarId.{VarId}
use Rattle.un_domains.specs.Sets.{Sets, IsIn}
use Rattle.un_domains.specs.SetLaws.{IsIn-kept}
use Rattle.un_domains.specs.declared.side.Side.TheVariants.{AtMost, Above}
use Rattle.un_tree.specs.Boxes.{half, Splits}
use Rattle.un_tree.specs.Covered.{InPart, Stands, AreParts, InOpen, InSome}
use Rattle.un_tree.specs.Parts.{Slot, PartHere, TreeHere, numbers, parts_wanted, part_numbers, ComeTo, IsRight}
use Rattle.un_tree.specs.Waits.{Waiting, Whole, Begins, Inside, begins, IsWhole, visits, Own, IsStrict}
use Rattle.un_tree.specs.declared.node.Node.{Node}
use Rattle.un_tree.specs.declared.node.Node.TheVariants.{Branch, Closed, Open, Split, Part}

split_at : (x : List ℕ) (v : VarId) (y : ℕ) (b : Sets) → Splits b v y → IsIn x b → IsIn x (half b v y AtMost) ⊎ IsIn x (half b v y Above)
split_at x v y b s h = elim (cases_lt y (get_or x v.0 0)) [
  | inl above ↦ inr (IsIn-kept (λ z. nat_lt y z) x b v.0 s.0 h (grind (arith, nat_tests)))
  | inr below ↦ inl (IsIn-kept (λ z. nat_le z y) x b v.0 s.0 h (grind (arith, nat_tests)))
]

abbrev pub slot_of : Waiting → Slot
slot_of (Whole b) = TreeHere
slot_of (Begins k b) = PartHere
slot_of (Inside k l b) = TreeHere

-- the box and the block of the part at place j of those that are to begin
abbrev pub begun_at : List Waiting → ℕ → Option (ℕ × Sets)
begun_at [] j = None
begun_at (Whole b ∷ ws) j = None
begun_at (Begins k b ∷ ws) zero = Some (k, b)
begun_at (Begins k b ∷ ws) (suc j) = begun_at ws j
begun_at (Inside k l b ∷ ws) j = begun_at ws j

one_pair : (p q : ℕ × Sets) → Some p ≡ Some q → p ≡ q
one_pair p q e = cc e

module _ (n : ℕ) (own : Own) (good : List ℕ → Type 0) (part : InPart) (single : Sets → Type 0) (limit : Option ℕ) (x : List ℕ) where
  -- x is in the box of a part that waits, and a member of the part
  abbrev pub InTree : List Waiting → Type 0
  InTree [] = ⊥
  InTree (Whole b ∷ ws) = InTree ws
  InTree (Begins k b ∷ ws) = InTree ws
  InTree (Inside k l b ∷ ws) = (IsIn x b × part k l x) ⊎ InTree ws

  begins_tree : (k m : ℕ) (b : Sets) (ws : List Waiting) → InTree ws → InTree (begins k m b ++ ws)
  begins_tree k zero b ws h = h
  begins_tree k (suc m) b ws h = begins_tree (k + 1) m b ws h

  begins_some : (k m : ℕ) (b : Sets) (ws : List Waiting) → InSome x ws → InSome x (begins k m b ++ ws)
  begins_some k zero b ws h = h
  begins_some k (suc m) b ws h = begins_some (k + 1) m b ws h

  -- a member of a part is in none of its leaves
  in_tree : (i : ℕ) (ns : List Node) (ws : List Waiting) → IsWhole n ns ws → AllByRecursion (IsStrict own) (visits n i ns ws)
      → AllByRecursion (IsRight single n limit) (visits n i ns ws) → AllByRecursion (Stands good part) (visits n i ns ws) → InTree ws → ⊥
  in_tree i [] ws whole strict right stands h = subst InTree whole h
  in_tree i (m ∷ ns) [] whole strict right stands h = h
  in_tree i (Branch v y ∷ ns) (Whole b ∷ ws) whole strict right stands h = in_tree (i + 1) ns _ whole strict.1 right.1 stands.1 h
  in_tree i (Closed ∷ ns) (Whole b ∷ ws) whole strict right stands h = in_tree (i + 1) ns ws whole strict.1 right.1 stands.1 h
  in_tree i (Open ∷ ns) (Whole b ∷ ws) whole strict right stands h = in_tree (i + 1) ns ws whole strict.1 right.1 stands.1 h
  in_tree i (Split ∷ ns) (Whole b ∷ ws) whole strict right stands h =
      in_tree (i + 1) ns _ whole strict.1 right.1 stands.1 (begins_tree 0 n b ws h)
  in_tree i (Part p ∷ ns) (Whole b ∷ ws) whole strict right stands h = right.0
  in_tree i (Part p ∷ ns) (Begins k b ∷ ws) whole strict right stands h = in_tree (i + 1) ns _ whole strict.1 right.1 stands.1 (inr h)
  in_tree i (Branch v y ∷ ns) (Begins k b ∷ ws) whole strict right stands h = right.0
  in_tree i (Closed ∷ ns) (Begins k b ∷ ws) whole strict right stands h = right.0
  in_tree i (Open ∷ ns) (Begins k b ∷ ws) whole strict right stands h = right.0
  in_tree i (Split ∷ ns) (Begins k b ∷ ws) whole strict right stands h = right.0
  in_tree i (Branch v y ∷ ns) (Inside k l b ∷ ws) whole strict right stands (inl h) =
      let s = strict.0 in
      in_tree (i + 1) ns _ whole strict.1 right.1 stands.1 (elim (split_at x v y b s.0 h.0) [ inl l ↦ inl (l, h.1) | inr r ↦ inr (inl (r, h.1)) ])
  in_tree i (Branch v y ∷ ns) (Inside k l b ∷ ws) whole strict right stands (inr h) =
      in_tree (i + 1) ns _ whole strict.1 right.1 stands.1 (inr (inr h))
  in_tree i (Closed ∷ ns) (Inside k l b ∷ ws) whole strict right stands (inl h) = stands.0 x h.0 h.1
  in_tree i (Closed ∷ ns) (Inside k l b ∷ ws) whole strict right stands (inr h) = in_tree (i + 1) ns ws whole strict.1 right.1 stands.1 h
  in_tree i (Open ∷ ns) (Inside k l b ∷ ws) whole strict right stands h = right.0
  in_tree i (Split ∷ ns) (Inside k l b ∷ ws) whole strict right stands h = right.0
  in_tree i (Part p ∷ ns) (Inside k l b ∷ ws) whole strict right stands h = right.0

  more_numbers : (p : Option ℕ) (r : Option (List (Option ℕ))) (ps : List (Option ℕ)) → option_map (λ (qs : List (Option ℕ)). p ∷ qs) r ≡ Some ps
      → (qs : List (Option ℕ)) × (r ≡ Some qs) × (ps ≡ p ∷ qs)
  more_numbers p None ps e = absurd (cc e)
  more_numbers p (Some qs) ps e = let same : p ∷ qs ≡ ps = cc e in (qs, refl, sym same)

  -- nor is one of a part that is to begin, under the number that comes
  begun : (i : ℕ) (ns : List Node) (front back : List Waiting) (ps : List (Option ℕ)) (j k : ℕ) (l : Option ℕ) (b : Sets)
      → numbers ns (map slot_of front) ≡ Some ps → begun_at front j ≡ Some (k, b) → slice_get ps j ≡ Some l → IsIn x b → part k l x
      → IsWhole n ns (front ++ back) → AllByRecursion (IsStrict own) (visits n i ns (front ++ back))
      → AllByRecursion (IsRight single n limit) (visits n i ns (front ++ back)) → AllByRecursion (Stands good part) (visits n i ns (front ++ back)) → ⊥
  begun i ns [] back ps j k l b e f g there is whole strict right stands = absurd (cc f)
  begun i ns (Whole c ∷ front) back ps j k l b e f g there is whole strict right stands = absurd (cc f)
  begun i [] (Begins k2 c ∷ front) back ps j k l b e f g there is whole strict right stands = absurd (cc e)
  begun i [] (Inside k2 l2 c ∷ front) back ps j k l b e f g there is whole strict right stands = absurd (cc e)
  begun i (Part p ∷ ns) (Begins k2 c ∷ front) back ps zero k l b e f g there is whole strict right stands =
      let m = more_numbers p (numbers ns (TreeHere ∷ map slot_of front)) ps e in
      let number : p ≡ l = cc (sym (ap (λ (qs : List (Option ℕ)). slice_get qs 0) m.2) ∙ g) in
      let pair = one_pair (k2, c) (k, b) f in
      let block : k2 ≡ k = ap (λ (q : ℕ × Sets). q.0) pair in
      let box : c ≡ b = ap (λ (q : ℕ × Sets). q.1) pair in
      in_tree (i + 1) ns (Inside k2 p c ∷ front ++ back) whole strict.1 right.1 stands.1
      (inl (subst (IsIn x) (sym box) there, subst (λ (q : ℕ). part q p x) (sym block) (subst (λ (q : Option ℕ). part k q x) (sym number) is)))
  begun i (Part p ∷ ns) (Begins k2 c ∷ front) back ps (suc j) k l b e f g there is whole strict right stands =
      let m = more_numbers p (numbers ns (TreeHere ∷ map slot_of front)) ps e in
      begun (i + 1) ns (Inside k2 p c ∷ front) back m.0 j k l b m.1 f (sym (ap (λ (qs : List (Option ℕ)). slice_get qs (suc j)) m.2) ∙ g) there is
      whole strict.1 right.1 stands.1
  begun i (Branch v y ∷ ns) (Begins k2 c ∷ front) back ps j k l b e f g there is whole strict right stands = right.0
  begun i (Closed ∷ ns) (Begins k2 c ∷ front) back ps j k l b e f g there is whole strict right stands = right.0
  begun i (Open ∷ ns) (Begins k2 c ∷ front) back ps j k l b e f g there is whole strict right stands = right.0
  begun i (Split ∷ ns) (Begins k2 c ∷ front) back ps j k l b e f g there is whole strict right stands = right.0
  begun i (Branch v y ∷ ns) (Inside k2 l2 c ∷ front) back ps j k l b e f g there is whole strict right stands =
      begun (i + 1) ns (Inside k2 l2 (half c v y AtMost) ∷ Inside k2 l2 (half c v y Above) ∷ front) back ps j k l b e f g there is
      whole strict.1 right.1 stands.1
  begun i (Closed ∷ ns) (Inside k2 l2 c ∷ front) back ps j k l b e f g there is whole strict right stands =
      begun (i + 1) ns front back ps j k l b e f g there is whole strict.1 right.1 stands.1
  begun i (Open ∷ ns) (Inside k2 l2 c ∷ front) back ps j k l b e f g there is whole strict right stands = right.0
  begun i (Split ∷ ns) (Inside k2 l2 c ∷ front) back ps j k l b e f g there is whole strict right stands = right.0
  begun i (Part p ∷ ns) (Inside k2 l2 c ∷ front) back ps j k l b e f g there is whole strict right stands = right.0

  -- how many parts are to begin
  abbrev pub to_begin : List Waiting → ℕ
  to_begin [] = 0
  to_begin (Whole b ∷ ws) = to_begin ws
  to_begin (Begins k b ∷ ws) = suc (to_begin ws)
  to_begin (Inside k l b ∷ ws) = to_begin ws

  abbrev pub Parts : List Waiting → Type 0
  Parts [] = Unit {0}
  Parts (Whole b ∷ ws) = ⊥
  Parts (Begins k b ∷ ws) = Parts ws
  Parts (Inside k l b ∷ ws) = Parts ws

  -- in one whole tree the parts are there to their end
  readable : (i : ℕ) (ns : List Node) (front back : List Waiting) → Parts front → IsWhole n ns (front ++ back)
      → AllByRecursion (IsRight single n limit) (visits n i ns (front ++ back))
      → (ps : List (Option ℕ)) × (numbers ns (map slot_of front) ≡ Some ps) × (length ps ≡ to_begin front)
  readable i ns [] back are whole right = ([], refl, refl)
  readable i ns (Whole c ∷ front) back are whole right = absurd are
  readable i [] (Begins k c ∷ front) back are whole right = absurd (cc whole)
  readable i [] (Inside k l c ∷ front) back are whole right = absurd (cc whole)
  readable i (Part p ∷ ns) (Begins k c ∷ front) back are whole right =
      let r = readable (i + 1) ns (Inside k p c ∷ front) back are whole right.1 in
      (p ∷ r.0, ap (option_map (λ (qs : List (Option ℕ)). p ∷ qs)) r.1, ap suc r.2)
  readable i (Branch v y ∷ ns) (Begins k c ∷ front) back are whole right = absurd right.0
  readable i (Closed ∷ ns) (Begins k c ∷ front) back are whole right = absurd right.0
  readable i (Open ∷ ns) (Begins k c ∷ front) back are whole right = absurd right.0
  readable i (Split ∷ ns) (Begins k c ∷ front) back are whole right = absurd right.0
  readable i (Branch v y ∷ ns) (Inside k l c ∷ front) back are whole right =
      readable (i + 1) ns (Inside k l (half c v y AtMost) ∷ Inside k l (half c v y Above) ∷ front) back are whole right.1
  readable i (Closed ∷ ns) (Inside k l c ∷ front) back are whole right = readable (i + 1) ns front back are whole right.1
  readable i (Open ∷ ns) (Inside k l c ∷ front) back are whole right = absurd right.0
  readable i (Split ∷ ns) (Inside k l c ∷ front) back are whole right = absurd right.0
  readable i (Part p ∷ ns) (Inside k l c ∷ front) back are whole right = absurd right.0

  begins_parts : (k m : ℕ) (b : Sets) → Parts (begins k m b)
  begins_parts k zero b = tt
  begins_parts k (suc m) b = begins_parts (k + 1) m b

  begins_count : (k m : ℕ) (b : Sets) → to_begin (begins k m b) ≡ m
  begins_count k zero b = refl
  begins_count k (suc m) b = ap suc (begins_count (k + 1) m b)

  begins_slots : (k m : ℕ) (b : Sets) → map slot_of (begins k m b) ≡ parts_wanted m
  begins_slots k zero b = refl
  begins_slots k (suc m) b = ap (λ (ss : List Slot). PartHere ∷ ss) (begins_slots (k + 1) m b)

  begins_at : (k m j : ℕ) (b : Sets) → j < m → begun_at (begins k m b) j ≡ Some (k + j, b)
  begins_at k zero j b lt = absurd (omega (arith, lt))
  begins_at k (suc m) zero b lt = ap (λ (q : ℕ). Some (q, b)) (omega arith)
  begins_at k (suc m) (suc j) b lt = begins_at (k + 1) m j b (omega (arith, lt)) ∙ ap (λ (q : ℕ). Some (q, b)) (omega arith)

  get_below : (ps : List (Option ℕ)) (j : ℕ) (l : Option ℕ) → slice_get ps j ≡ Some l → j < length ps
  get_below [] j l e = absurd (cc e)
  get_below (p ∷ ps) zero l e = omega arith
  get_below (p ∷ ps) (suc j) l e = let h = get_below ps j l e in omega (arith, h)

  module _ (parts : AreParts n good part limit x) (is : good x) where
    split_none : (i : ℕ) (ns : List Node) (b : Sets) (ws : List Waiting) → IsIn x b → IsWhole n ns (begins 0 n b ++ ws)
        → MatchOption (part_numbers n ns) ⊤ (ComeTo limit) → AllByRecursion (IsStrict own) (visits n i ns (begins 0 n b ++ ws))
        → AllByRecursion (IsRight single n limit) (visits n i ns (begins 0 n b ++ ws))
        → AllByRecursion (Stands good part) (visits n i ns (begins 0 n b ++ ws)) → ⊥
    split_none i ns b ws there whole come strict right stands =
        let r = readable i ns (begins 0 n b) ws (begins_parts 0 n b) whole right in
        let read : part_numbers n ns ≡ Some r.0 = sym (ap (numbers ns) (begins_slots 0 n b)) ∙ r.1 in
        let long : length r.0 ≡ n = r.2 ∙ begins_count 0 n b in
        let c = parts r.0 long (subst (λ (q : Option (List (Option ℕ))). MatchOption q ⊤ (ComeTo limit)) read come) is in
        let lt = get_below r.0 c.0 c.1 c.2 in
        begun i ns (begins 0 n b) ws r.0 c.0 c.0 c.1 b r.1 (begins_at 0 n c.0 b (omega (arith, lt, long)) ∙ ap (λ (q : ℕ). Some (q, b)) (omega arith)) c.2 there c.3 whole strict right stands

    pub covered : (i : ℕ) (ns : List Node) (ws : List Waiting) → IsWhole n ns ws → AllByRecursion (IsStrict own) (visits n i ns ws)
        → AllByRecursion (IsRight single n limit) (visits n i ns ws) → AllByRecursion (Stands good part) (visits n i ns ws) → InSome x ws
        → InOpen x (visits n i ns ws)
    covered i [] ws whole strict right stands h = absurd (subst (InSome x) whole h)
    covered i (m ∷ ns) [] whole strict right stands h = absurd h
    covered i (Branch v y ∷ ns) (Whole b ∷ ws) whole strict right stands (inl h) =
        inr (covered (i + 1) ns _ whole strict.1 right.1 stands.1 (elim (split_at x v y b strict.0 h) [ inl l ↦ inl l | inr r ↦ inr (inl r) ]))
    covered i (Branch v y ∷ ns) (Whole b ∷ ws) whole strict right stands (inr h) =
        inr (covered (i + 1) ns _ whole strict.1 right.1 stands.1 (inr (inr h)))
    covered i (Closed ∷ ns) (Whole b ∷ ws) whole strict right stands (inl h) = absurd (stands.0 x h is)
    covered i (Closed ∷ ns) (Whole b ∷ ws) whole strict right stands (inr h) = inr (covered (i + 1) ns ws whole strict.1 right.1 stands.1 h)
    covered i (Open ∷ ns) (Whole b ∷ ws) whole strict right stands (inl h) = inl h
    covered i (Open ∷ ns) (Whole b ∷ ws) whole strict right stands (inr h) = inr (covered (i + 1) ns ws whole strict.1 right.1 stands.1 h)
    covered i (Split ∷ ns) (Whole b ∷ ws) whole strict right stands (inl h) =
        absurd (split_none (i + 1) ns b ws h whole right.0.1 strict.1 right.1 stands.1)
    covered i (Split ∷ ns) (Whole b ∷ ws) whole strict right stands (inr h) =
        inr (covered (i + 1) ns _ whole strict.1 right.1 stands.1 (begins_some 0 n b ws h))
    covered i (Part p ∷ ns) (Whole b ∷ ws) whole strict right stands h = absurd right.0
    covered i (Part p ∷ ns) (Begins k b ∷ ws) whole strict right stands h = inr (covered (i + 1) ns _ whole strict.1 right.1 stands.1 h)
    covered i (Branch v y ∷ ns) (Begins k b ∷ ws) whole strict right stands h = absurd right.0
    covered i (Closed ∷ ns) (Begins k b ∷ ws) whole strict right stands h = absurd right.0
    covered i (Open ∷ ns) (Begins k b ∷ ws) whole strict right stands h = absurd right.0
    covered i (Split ∷ ns) (Begins k b ∷ ws) whole strict right stands h = absurd right.0
    covered i (Branch v y ∷ ns) (Inside k l b ∷ ws) whole strict right stands h = inr (covered (i + 1) ns _ whole strict.1 right.1 stands.1 h)
    covered i (Closed ∷ ns) (Inside k l b ∷ ws) whole strict right stands h = inr (covered (i + 1) ns ws whole strict.1 right.1 stands.1 h)
    covered i (Open ∷ ns) (Inside k l b ∷ ws) whole strict right stands h = absurd right.0
    covered i (Split ∷ ns) (Inside k l b ∷ ws) whole strict right stands h = absurd right.0
    covered i (Part p ∷ ns) (Inside k l b ∷ ws) whole strict right stands h = absurd right.0
