-- What is known where a walk stands in a model's tree.
use Rattle.std.proofs.Common.{ℕ, ◌≡◌, ◌<◌, ◌≤◌, true, List, [], ◌∷◌, length, take, get_or, filter, nat_lt, Some, All}
use Rattle.std.proofs.Common.{refl, sym, ap, subst, ◌∙◌, arith}
use Rattle.std.specs.Prelude.{slice_get}
use Rattle.std.specs.List.{AllByRecursion}
use Rattle.std.proofs.lemmas.Bool.Decides.{nat_tests}
use Rattle.std.proofs.lemmas.List.{get_or-take, length-map, length-set, length-take-le}
use Rattle.std.proofs.lemmas.Option.{slice_get_read}
use Rattle.std.proofs.lemmas.List.Elements.{All-from_recursion}
use Rattle.un_domains.specs.Domains.{values_of}
use Rattle.un_domains.specs.Sets.{Sets, set_at, has, NoneEmpty}
use Rattle.un_domains.specs.Sides.{side_test}
use Rattle.un_domains.specs.declared.side.Side.{Side}
use Rattle.un_domains.specs.declared.side.Side.TheVariants.{Above}
use Rattle.un_model.specs.Boxes.{root_of}
use Rattle.un_model.specs.declared.model.Model.{Model}
use Rattle.un_tree.specs.Boxes.{decided, reached}
use Rattle.un_tree.specs.declared.node.Decision.{Decision}
use Rattle.un_walk.specs.Stands.{AllSplit, IsStandAt}
use Rattle.un_walk.specs.declared.stand.Stand.{Stand}
use Rattle.un_walk.proofs.StandLemmas.{cuts_box}
use Rattle.un_symm.specs.Interchangeable.{AreInterchangeable}
use Rattle.un_mirrors.specs.Exchanged.{AreRegisters, Passes, PassesExchanged, left_of}
use Rattle.un_mirrors.specs.Mirrors.{IsMirror}
use Rattle.un_mirrors.specs.declared.registers.Registers.{Registers}
use Rattle.un_mirrors.proofs.Kept.{reached_long}
use Rattle.un_mirrors.proofs.MirrorLemmas.{mirror_from, mirror_to, path_passes}

-- the variable of each decision is there
split_there : (b : Sets) (n : ℕ) (ds : List Decision) → length b ≡ n → AllSplit b ds → AllByRecursion (λ (d : Decision). d.var.0 < n) ds
split_there b n [] long all = tt
split_there b n (d ∷ ds) long all = (
  subst (λ (k : ℕ). d.var.0 < k) long all.0.0,
  split_there (decided d b) n ds (length-set b d.var.0 (filter (side_test d.side d.val) (set_at b d.var.0)) ∙ long) all.1,
)

module _ (m : Model) (s : Stand) (h : IsStandAt (root_of m) s) where
  pub sets_long : length s.cuts.sets ≡ length m.domains
  sets_long = ap length h.sets ∙ (reached_long (root_of m) s.path.items ∙ length-map m.domains values_of)

  pub sets_full : NoneEmpty s.cuts.sets
  sets_full = (cuts_box (root_of m) s h).1

  all_there : All (λ (d : Decision). d.var.0 < length s.cuts.sets) s.path.items
  all_there = All-from_recursion (λ (d : Decision). d.var.0 < length s.cuts.sets) s.path.items
      (split_there (root_of m) (length s.cuts.sets) s.path.items (length-map m.domains values_of ∙ sym sets_long) h.split)

  all_pass : All (Passes s.cuts.sets) s.path.items
  all_pass = subst (λ (b : Sets). All (Passes b) s.path.items) (sym h.sets)
      (All-from_recursion (Passes (reached (root_of m) s.path.items)) s.path.items (path_passes (root_of m) s.path.items))

  -- a decision on the way
  module _ (k : ℕ) (d : Decision) (lt : k < length s.path.items) (is : d ≡ get_or s.path.items k d) where
    pub there_at : d.var.0 < length s.cuts.sets
    there_at = subst (λ (e : Decision). e.var.0 < length s.cuts.sets) (sym is) (all_there k d lt)

    pub pass_at : Passes s.cuts.sets d
    pass_at = subst (Passes s.cuts.sets) (sym is) (all_pass k d lt)

    pub some_at : 0 < length (set_at s.cuts.sets d.var.0)
    some_at = sets_full d.var.0 there_at

    pub marked_at : (r : Registers) → AreRegisters m r → d.var.0 < length r.marks.items
    marked_at r are = let lt = there_at in let e = are.long in omega (arith, lt, e, sets_long)

    pub above_at : d.side ≡ Above → (x : ℕ) → has (set_at s.cuts.sets d.var.0) x ≡ true → d.val < x
    above_at right x there = by x (ap (λ (side : Side). side_test side d.val x) (sym right) ∙ pass_at x there)
      where
        by : (x : ℕ) → nat_lt d.val x ≡ true → d.val < x
        by x e = grind (arith, nat_tests)

  -- the three needs, as the box is in the store
  module _ (a b depth : ℕ) (at : Decision) (here : slice_get s.path.items depth ≡ Some at) where
    pub mirror_by : at.side ≡ Above → All (PassesExchanged m.temps a b s.cuts.sets) (take depth s.path.items)
        → PassesExchanged m.temps a b s.cuts.sets (left_of at) → AreInterchangeable m a b → IsMirror m a b depth s.path.items
    mirror_by right each last alike = mirror_from m a b depth s.path.items at here right
        (subst (λ (box : Sets). All (PassesExchanged m.temps a b box) (take depth s.path.items)) h.sets each)
        (subst (λ (box : Sets). PassesExchanged m.temps a b box (left_of at)) h.sets last) alike

    pub mirror_needs : IsMirror m a b depth s.path.items
        → All (PassesExchanged m.temps a b s.cuts.sets) (take depth s.path.items) × PassesExchanged m.temps a b s.cuts.sets (left_of at)
    mirror_needs is = let both = mirror_to m a b depth s.path.items at here is in (
      subst (λ (box : Sets). All (PassesExchanged m.temps a b box) (take depth s.path.items)) (sym h.sets) both.0,
      subst (λ (box : Sets). PassesExchanged m.temps a b box (left_of at)) (sym h.sets) both.1,
    )

-- what all of the first decisions have
pub taken : (P : Decision → Type 0) (n k : ℕ) (ds : List Decision) (d : Decision) → k < n → n ≤ length ds → All P (take n ds)
    → d ≡ get_or ds k d → P d
taken P n k ds d lt le all is = subst P (get_or-take n ds k d lt ∙ sym is) (all k d (omega (arith, lt, length-take-le n ds le)))

-- a decision of a path, as the code reads it
pub read_at : (ds path : List Decision) (k : ℕ) (d : Decision) → ds ≡ path → k < length ds → d ≡ get_or ds k d
    → (k < length path) × (d ≡ get_or path k d) × (slice_get path k ≡ Some d)
read_at ds path k d same lt is =
    let below : k < length path = subst (λ (es : List Decision). k < length es) same lt in
    let at : d ≡ get_or path k d = is ∙ ap (λ (es : List Decision). get_or es k d) same in
    (below, at, slice_get_read path (length path) k d refl below at)
