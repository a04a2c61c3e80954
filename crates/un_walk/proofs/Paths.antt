-- Paths of decisions, what waits behind them, and the boxes at their ends.
use Rattle.std.proofs.Common.{ℕ, ◌≡◌, ◌≢◌, ◌<◌, Bool, List, [], ◌∷◌, ◌++◌, length, filter, None, Some}
use Rattle.std.proofs.Common.{refl, sym, ap, subst, ◌∙◌, append_assoc, arith, inl, inr}
use Rattle.std.proofs.lemmas.List.{append-nil, get_or-set_same, get_or-set_other, length-set}
use Rattle.std.specs.declared.option.Option.{Option}
use Rattle.std.specs.Option.{option_to_list}
use Rattle.un_base.specs.declared.ids.VarId.{VarId}
use Rattle.un_domains.specs.Sets.{Sets, set_at, has, kept, NoneEmpty}
use Rattle.un_domains.specs.SetLaws.{same_or_not}
use Rattle.un_domains.specs.Order.{Below}
use Rattle.un_domains.specs.OrderLaws.{Below-refl, Below-trans, filter_own}
use Rattle.un_domains.specs.Sides.{side_test}
use Rattle.un_domains.specs.declared.side.Side.{Side}
use Rattle.un_domains.specs.declared.side.Side.TheVariants.{AtMost, Above}
use Rattle.un_tree.specs.Boxes.{IsBox, half, Splits, decided, reached}
use Rattle.un_tree.specs.declared.node.Decision.{Decision}
use Rattle.un_tree.proofs.BoxLaws.{half_full}
use Rattle.un_walk.specs.Stands.{AllSplit}
use Rattle.un_walk.specs.Turns.{other_path, paths_behind}

-- ---- lists that end with one more

-- lists that end alike with one more are alike
pub last_once : {A : Type 0} (xs ys : List A) (x y : A) → xs ++ x ∷ [] ≡ ys ++ y ∷ [] → (xs ≡ ys) × (x ≡ y)
last_once [] [] x y e = (refl, cc e)
last_once [] (z ∷ []) x y e = absurd (cc e)
last_once [] (z ∷ w ∷ ws) x y e = absurd (cc e)
last_once (z ∷ []) [] x y e = absurd (cc e)
last_once (z ∷ w ∷ ws) [] x y e = absurd (cc e)
last_once {A} (z ∷ zs) (w ∷ ws) x y e =
    let head : z ≡ w = cc e in
    let tail : zs ++ x ∷ [] ≡ ws ++ y ∷ [] = cc e in
    let next = last_once zs ws x y tail in
    (ap (λ (u : A). u ∷ zs) head ∙ ap (λ (us : List A). w ∷ us) next.0, next.1)

some_snoc : (ds : List Decision) (d : Decision) → ds ++ d ∷ [] ≡ [] → ⊥
some_snoc [] d e = cc e
some_snoc (x ∷ xs) d e = cc e

pub snoc_some : (xs ys : List Decision) (d : Decision) → xs ≡ ys ++ d ∷ [] → xs ≢ []
snoc_some xs ys d e none = some_snoc ys d (sym e ∙ none)

pub not_nil : (xs : List Decision) → xs ≢ [] → 0 < length xs
not_nil [] some = absurd (some refl)
not_nil (x ∷ xs) some = omega arith

pub zero_nil : (xs : List Decision) → length xs ≡ 0 → xs ≡ []
zero_nil [] e = refl
zero_nil (x ∷ xs) e = absurd (omega (arith, e))

pub with_option : (xs ys : List Decision) (o : Option Decision) (d : Decision) → o ≡ Some d → xs ≡ ys ++ option_to_list o → xs ≡ ys ++ d ∷ []
with_option xs ys o d is e = e ∙ ap (λ (k : Option Decision). ys ++ option_to_list k) is

pub with_none : (xs ys : List Decision) (o : Option Decision) → o ≡ None → xs ≡ ys ++ option_to_list o → ys ≡ xs
with_none xs ys o is e = sym (e ∙ (ap (λ (k : Option Decision). ys ++ option_to_list k) is ∙ append-nil ys))

-- ---- boxes

pub reached-push : (b : Sets) (ds : List Decision) (d : Decision) → reached b (ds ++ d ∷ []) ≡ decided d (reached b ds)
reached-push b [] d = refl
reached-push b (e ∷ ds) d = reached-push (decided e b) ds d

-- each variable of a box is one of the boxes below it
pub reached_long : (b : Sets) (ds : List Decision) → length (reached b ds) ≡ length b
reached_long b [] = refl
reached_long b (d ∷ ds) = reached_long (decided d b) ds ∙ length-set b d.var.0 _

kept_below : (p : ℕ → Bool) (b : Sets) (v : ℕ) → v < length b → Below (kept p b v) b
kept_below p b v there = record {
  long = length-set b v _;
  each = λ w. elim (same_or_not w v) [
    | inl e ↦ subst (λ (u : ℕ). set_at (kept p b v) u ≡ filter (has (set_at (kept p b v) u)) (set_at b u)) (sym e)
        (subst (λ (ys : List ℕ). ys ≡ filter (has ys) (set_at b v)) (sym (get_or-set_same b v (filter p (set_at b v)) [] there))
        (filter_own p (set_at b v)))
    | inr ne ↦ subst (λ (ys : List ℕ). ys ≡ filter (has ys) (set_at b w)) (sym (get_or-set_other b v w (filter p (set_at b v)) [] ne))
        ((Below-refl b).each w)
  ];
}

-- a side of what is split is a smaller box with no empty set
pub half_box : (b : Sets) (v : VarId) (x : ℕ) (side : Side) → NoneEmpty b → Splits b v x
    → Below (half b v x side) b × NoneEmpty (half b v x side)
half_box b v x side full s = (kept_below (side_test side x) b v.0 s.0, half_full b v x side full s)

pub split_snoc : (b : Sets) (ds : List Decision) (d : Decision) → AllSplit b ds → Splits (reached b ds) d.var d.val → AllSplit b (ds ++ d ∷ [])
split_snoc b [] d all one = (one, tt)
split_snoc b (e ∷ ds) d all one = (all.0, split_snoc (decided e b) ds d all.1 one)

pub split_init : (b : Sets) (ds : List Decision) (d : Decision) → AllSplit b (ds ++ d ∷ []) → AllSplit b ds × Splits (reached b ds) d.var d.val
split_init b [] d all = (tt, all.0)
split_init b (e ∷ ds) d all = let rest = split_init (decided e b) ds d all.1 in ((all.0, rest.0), rest.1)

pub side_box : (root b : Sets) (d : Decision) (side : Side) → IsBox root b → Splits b d.var d.val → IsBox root (half b d.var d.val side)
side_box root b d side i s =
    let h = half_box b d.var d.val side i.1 s in (Below-trans (half b d.var d.val side) b root h.0 i.0, h.1)

box_from : (root b : Sets) (ds : List Decision) → IsBox root b → AllSplit b ds → IsBox root (reached b ds)
box_from root b [] i all = i
box_from root b (d ∷ ds) i all = box_from root (decided d b) ds (side_box root b d d.side i all.0) all.1

pub box_by : (root : Sets) (ds : List Decision) → NoneEmpty root → AllSplit root ds → IsBox root (reached root ds)
box_by root ds full all = box_from root root ds (Below-refl root, full) all

-- ---- paths that wait

-- the other side of the last decision waits before all others
pub behind_snoc : (above ds : List Decision) (d : Decision)
    → paths_behind above (ds ++ d ∷ []) ≡ other_path (above ++ ds) d d.side ++ paths_behind above ds
behind_snoc above [] d = ap (λ (p : List Decision). other_path p d d.side) (sym (append-nil above))
    ∙ sym (append-nil (other_path (above ++ []) d d.side))
behind_snoc above (e ∷ ds) d =
    ap (λ (ps : List (List Decision)). ps ++ other_path above e e.side) (behind_snoc (above ++ e ∷ []) ds d)
    ∙ (append_assoc (other_path ((above ++ e ∷ []) ++ ds) d d.side) (paths_behind (above ++ e ∷ []) ds) (other_path above e e.side)
    ∙ ap (λ (p : List Decision). other_path p d d.side ++ (paths_behind (above ++ e ∷ []) ds ++ other_path above e e.side))
    (append_assoc above (e ∷ []) ds))

module _ (old new : List Decision) (d : Decision) (path : old ≡ new ++ d ∷ []) where
  -- behind a side above, what waits is what waits above it
  pub behind_above : d.side ≡ Above → paths_behind [] old ≡ paths_behind [] new
  behind_above is = ap (paths_behind []) path
      ∙ (behind_snoc [] new d ∙ ap (λ (s : Side). other_path new d s ++ paths_behind [] new) is)

  -- behind the side below, the side above waits first
  pub behind_below : d.side ≡ AtMost → (next : List Decision) → next ≡ new ++ record { var = d.var; val = d.val; side = Above } ∷ []
      → paths_behind [] old ≡ next ∷ paths_behind [] next
  behind_below is next on =
      let o : Decision = record { var = d.var; val = d.val; side = Above } in
      let rest : paths_behind [] next ≡ paths_behind [] new = ap (paths_behind []) on ∙ behind_snoc [] new o in
      ap (paths_behind []) path
      ∙ (behind_snoc [] new d
      ∙ (ap (λ (s : Side). other_path new d s ++ paths_behind [] new) is
      ∙ (ap (λ (p : List Decision). p ∷ paths_behind [] new) (sym on)
      ∙ ap (λ (ps : List (List Decision)). next ∷ ps) (sym rest))))
