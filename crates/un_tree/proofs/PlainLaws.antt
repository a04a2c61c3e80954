-- Trees without parts: their nodes are outer ones, and what is said of outer nodes is said of all.
use Rattle.std.proofs.Common.{ℕ, ◌≡◌, ◌≢◌, ◌+◌, List, [], ◌∷◌, length, All, refl, arith}
use Rattle.std.specs.Prelude.{⊤, Option}
use Rattle.std.specs.List.{AllByRecursion}
use Rattle.std.proofs.lemmas.List.Elements.{recursion_from_All, All-from_recursion}
use Rattle.un_domains.specs.Sets.{Sets}
use Rattle.un_domains.specs.declared.side.Side.TheVariants.{AtMost, Above}
use Rattle.un_tree.specs.Boxes.{half}
use Rattle.un_tree.specs.Covered.{InPart, OuterStands, OuterStandsIn, Stands, StandsIn}
use Rattle.un_tree.specs.Parts.{IsRight}
use Rattle.un_tree.specs.Waits.{Waiting, Whole, Begins, Inside, Visit, IsWhole, IsTreeOf, IsPlain, Own, HasSides, HasSidesIn, IsStrict, IsStrictIn, outer_count}
use Rattle.un_tree.specs.Waits.{visits, visits_of}
use Rattle.un_tree.specs.declared.node.Node.{Node}
use Rattle.un_tree.specs.declared.node.Node.TheVariants.{Branch, Closed, Open, Split, Part}

abbrev pub AllWhole : List Waiting → Type 0
AllWhole [] = ⊤
AllWhole (Whole b ∷ ws) = AllWhole ws
AllWhole (Begins k b ∷ ws) = ⊥
AllWhole (Inside k number b ∷ ws) = ⊥

module _ (n : ℕ) where
  -- each node has a box of its own, outside of parts
  pub plain_visits : (P : Visit → Type 0) → ((m : Node) (b : Sets) (i : ℕ) (rest : List Node) → IsPlain m
      → P (record { node = m; waiting = Whole b; place = i; rest = rest }))
      → (i : ℕ) (ns : List Node) (ws : List Waiting) → AllByRecursion IsPlain ns → AllWhole ws → AllByRecursion P (visits n i ns ws)
  plain_visits P each i [] ws plain whole = tt
  plain_visits P each i (m ∷ ns) [] plain whole = tt
  plain_visits P each i (m ∷ ns) (Begins k b ∷ ws) plain whole = absurd whole
  plain_visits P each i (m ∷ ns) (Inside k number b ∷ ws) plain whole = absurd whole
  plain_visits P each i (Branch v x ∷ ns) (Whole b ∷ ws) plain whole =
      (each (Branch v x) b i ns tt, plain_visits P each (i + 1) ns _ plain.1 whole)
  plain_visits P each i (Closed ∷ ns) (Whole b ∷ ws) plain whole = (each Closed b i ns tt, plain_visits P each (i + 1) ns ws plain.1 whole)
  plain_visits P each i (Open ∷ ns) (Whole b ∷ ws) plain whole = (each Open b i ns tt, plain_visits P each (i + 1) ns ws plain.1 whole)
  plain_visits P each i (Split ∷ ns) (Whole b ∷ ws) plain whole = absurd plain.0
  plain_visits P each i (Part number ∷ ns) (Whole b ∷ ws) plain whole = absurd plain.0

  outer_long : (i : ℕ) (ns : List Node) (ws : List Waiting) → AllByRecursion IsPlain ns → AllWhole ws → IsWhole n ns ws
      → outer_count (visits n i ns ws) ≡ length ns
  outer_long i [] ws plain whole tree = refl
  outer_long i (m ∷ ns) [] plain whole tree = absurd tree
  outer_long i (m ∷ ns) (Begins k b ∷ ws) plain whole tree = absurd whole
  outer_long i (m ∷ ns) (Inside k number b ∷ ws) plain whole tree = absurd whole
  outer_long i (Branch v x ∷ ns) (Whole b ∷ ws) plain whole tree =
      let h = outer_long (i + 1) ns (Whole (half b v x AtMost) ∷ Whole (half b v x Above) ∷ ws) plain.1 whole tree in omega (arith, h)
  outer_long i (Closed ∷ ns) (Whole b ∷ ws) plain whole tree = let h = outer_long (i + 1) ns ws plain.1 whole tree in omega (arith, h)
  outer_long i (Open ∷ ns) (Whole b ∷ ws) plain whole tree = let h = outer_long (i + 1) ns ws plain.1 whole tree in omega (arith, h)
  outer_long i (Split ∷ ns) (Whole b ∷ ws) plain whole tree = absurd plain.0
  outer_long i (Part number ∷ ns) (Whole b ∷ ws) plain whole tree = absurd plain.0

  module _ (root : Sets) (t : List Node) (plain : All IsPlain t) where
    pub plain_all : (P : Visit → Type 0) → ((m : Node) (b : Sets) (i : ℕ) (rest : List Node) → IsPlain m
        → P (record { node = m; waiting = Whole b; place = i; rest = rest })) → All P (visits_of n root t)
    plain_all P each = All-from_recursion P (visits_of n root t)
        (plain_visits P each 0 t (Whole root ∷ []) (recursion_from_All IsPlain t plain) tt)

    -- all nodes are outer ones
    pub plain_outer : IsTreeOf n root t → outer_count (visits_of n root t) ≡ length t
    plain_outer tree = outer_long 0 t (Whole root ∷ []) (recursion_from_All IsPlain t plain) tt tree

    -- each may stand where it does, and there is no Split
    pub plain_right : (single : Sets → Type 0) (limit : Option ℕ) → All (IsRight single n limit) (visits_of n root t)
    plain_right single limit = plain_all (IsRight single n limit) right
      where
        right : (m : Node) (b : Sets) (i : ℕ) (rest : List Node) → IsPlain m
            → IsRight single n limit (record { node = m; waiting = Whole b; place = i; rest = rest })
        right (Branch v x) b i rest h = tt
        right Closed b i rest h = tt
        right Open b i rest h = tt
        right Split b i rest h = absurd h
        right (Part number) b i rest h = absurd h

    each_from : (P Q : Visit → Type 0) → ((m : Node) (b : Sets) (i : ℕ) (rest : List Node)
        → P (record { node = m; waiting = Whole b; place = i; rest = rest }) → Q (record { node = m; waiting = Whole b; place = i; rest = rest }))
        → All P (visits_of n root t) → All Q (visits_of n root t)
    each_from P Q each h = let both = plain_all (λ p. P p → Q p) (λ m b i rest plain. each m b i rest) in λ i p lt. both i p lt (h i p lt)

    -- what has both sides is strict, whichever variables are of which block
    pub plain_strict : (own : Own) → All HasSides (visits_of n root t) → All (IsStrict own) (visits_of n root t)
    plain_strict own h = each_from HasSides (IsStrict own) strict h
      where
        strict : (m : Node) (b : Sets) (i : ℕ) (rest : List Node) → HasSidesIn m (Whole b) → IsStrictIn own m (Whole b)
        strict (Branch v x) b i rest h = h
        strict Closed b i rest h = tt
        strict Open b i rest h = tt
        strict Split b i rest h = tt
        strict (Part number) b i rest h = tt

    -- what stands outside of parts stands, whatever the members of parts are
    pub plain_stands : (good : List ℕ → Type 0) (part : InPart) → All (OuterStands good) (visits_of n root t)
        → All (Stands good part) (visits_of n root t)
    plain_stands good part h = each_from (OuterStands good) (Stands good part) stands h
      where
        stands : (m : Node) (b : Sets) (i : ℕ) (rest : List Node) → OuterStandsIn good m (Whole b) → StandsIn good part m (Whole b)
        stands (Branch v x) b i rest h = tt
        stands Closed b i rest h = h
        stands Open b i rest h = tt
        stands Split b i rest h = tt
        stands (Part number) b i rest h = tt

-- a tree without a Split has no parts, where its nodes may stand where they do
module _ (n : ℕ) (single : Sets → Type 0) (limit : Option ℕ) where
  no_parts : (i : ℕ) (ns : List Node) (ws : List Waiting) → AllWhole ws → IsWhole n ns ws
      → AllByRecursion (IsRight single n limit) (visits n i ns ws) → AllByRecursion (λ m. m ≢ Split) ns → AllByRecursion IsPlain ns
  no_parts i [] ws whole tree right none = tt
  no_parts i (m ∷ ns) [] whole tree right none = absurd tree
  no_parts i (m ∷ ns) (Begins k b ∷ ws) whole tree right none = absurd whole
  no_parts i (m ∷ ns) (Inside k number b ∷ ws) whole tree right none = absurd whole
  no_parts i (Branch v x ∷ ns) (Whole b ∷ ws) whole tree right none = (tt, no_parts (i + 1) ns _ whole tree right.1 none.1)
  no_parts i (Closed ∷ ns) (Whole b ∷ ws) whole tree right none = (tt, no_parts (i + 1) ns ws whole tree right.1 none.1)
  no_parts i (Open ∷ ns) (Whole b ∷ ws) whole tree right none = (tt, no_parts (i + 1) ns ws whole tree right.1 none.1)
  no_parts i (Split ∷ ns) (Whole b ∷ ws) whole tree right none = absurd (none.0 refl)
  no_parts i (Part number ∷ ns) (Whole b ∷ ws) whole tree right none = absurd right.0

  pub plain_without : (root : Sets) (t : List Node) → IsTreeOf n root t → All (IsRight single n limit) (visits_of n root t)
      → All (λ m. m ≢ Split) t → All IsPlain t
  plain_without root t tree right none = All-from_recursion IsPlain t (no_parts 0 t (Whole root ∷ []) tt tree
      (recursion_from_All (IsRight single n limit) (visits_of n root t) right) (recursion_from_All (λ m. m ≢ Split) t none))

-- a strict tree's branches have both sides
pub strict_sides : (own : Own) (p : Visit) → IsStrict own p → HasSides p
strict_sides own p h = by p.node p.waiting h
  where
    by : (m : Node) (w : Waiting) → IsStrictIn own m w → HasSidesIn m w
    by (Branch v x) (Whole b) h = h
    by (Branch v x) (Begins k b) h = tt
    by (Branch v x) (Inside k number b) h = h.0
    by Closed w h = tt
    by Open w h = tt
    by Split w h = tt
    by (Part number) w h = tt
