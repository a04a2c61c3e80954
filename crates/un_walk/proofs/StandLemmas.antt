-- Steps of a stand, down and up.
use Rattle.std.proofs.Common.{suc, ◌≡◌, ◌≢◌, ◌<◌, List, [], ◌∷◌, ◌++◌, length, refl, sym, ap, subst, ◌∙◌, arith}
use Rattle.un_domains.specs.Cuts.{Contents}
use Rattle.un_domains.specs.Sets.{Sets}
use Rattle.un_tree.specs.Boxes.{IsBox, Splits, decided, reached}
use Rattle.un_tree.specs.declared.node.Decision.{Decision}
use Rattle.un_walk.proofs.Paths.{box_by, last_once, not_nil, reached-push, split_init, split_snoc}
use Rattle.un_walk.specs.Stands.{AllSplit, IsStandAt, ways}
use Rattle.un_walk.specs.declared.stand.Stand.{Stand}

ways-push : (b : Sets) (ds : List Decision) (d : Decision) → ways b (ds ++ d ∷ []) ≡ ways b ds ++ reached b ds ∷ []
ways-push b [] d = refl
ways-push b (c ∷ ds) d = ap (λ (bs : List Sets). b ∷ bs) (ways-push (decided c b) ds d)

ways_long : (b : Sets) (ds : List Decision) → length (ways b ds) ≡ length ds
ways_long b [] = refl
ways_long b (d ∷ ds) = ap suc (ways_long (decided d b) ds)

module _ (root : Sets) (s : Stand) (h : IsStandAt root s) where
  pub box_here : IsBox root (reached root s.path.items)
  box_here = box_by root s.path.items h.full h.split

  -- the box, as the store has it
  pub cuts_box : IsBox root s.cuts.sets
  cuts_box = subst (IsBox root) (sym h.sets) box_here

  -- there is a mark for each decision
  pub marks_long : length s.cuts.marked ≡ length s.path.items
  marks_long = ap length h.marked ∙ ways_long root s.path.items

  pub some_marks : s.path.items ≢ [] → 0 < length s.cuts.marked
  some_marks some = omega (arith, marks_long, not_nil s.path.items some)

  -- one decision more
  pub stand_down : (q : Stand) (d : Decision) → Splits s.cuts.sets d.var d.val → q.path.items ≡ s.path.items ++ d ∷ []
      → q.cuts.sets ≡ decided d s.cuts.sets → q.cuts.marked ≡ s.cuts.marked ++ s.cuts.sets ∷ [] → IsStandAt root q
  stand_down q d splits path sets marked = record {
    full = h.full;
    split = subst (AllSplit root) (sym path)
        (split_snoc root s.path.items d h.split (subst (λ (b : Sets). Splits b d.var d.val) h.sets splits));
    sets = sets ∙ (ap (decided d) h.sets ∙ (sym (reached-push root s.path.items d) ∙ ap (reached root) (sym path)));
    marked = marked ∙ (ap (λ (bs : List Sets). bs ++ s.cuts.sets ∷ []) h.marked
        ∙ (ap (λ (b : Sets). ways root s.path.items ++ b ∷ []) h.sets
        ∙ (sym (ways-push root s.path.items d) ∙ ap (ways root) (sym path))));
  }

  -- one less
  pub stand_up : (q : Stand) (d : Decision) → s.path.items ≡ q.path.items ++ d ∷ [] → s.cuts.marked ≡ q.cuts.marked ++ q.cuts.sets ∷ []
      → IsStandAt root q
  stand_up q d path marked =
      let same = last_once q.cuts.marked (ways root q.path.items) q.cuts.sets (reached root q.path.items)
      (sym marked ∙ (h.marked ∙ (ap (ways root) path ∙ ways-push root q.path.items d))) in
      record {
        full = h.full;
        split = (split_init root q.path.items d (subst (AllSplit root) path h.split)).0;
        sets = same.1;
        marked = same.0;
      }

  -- the last decision splits the box above it
  pub path_splits : (ds : List Decision) (d : Decision) → s.path.items ≡ ds ++ d ∷ [] → Splits (reached root ds) d.var d.val
  path_splits ds d path = (split_init root ds d (subst (AllSplit root) path h.split)).1

  pub last_splits : (q : Stand) (d : Decision) → s.path.items ≡ q.path.items ++ d ∷ [] → IsStandAt root q → Splits q.cuts.sets d.var d.val
  last_splits q d path at = subst (λ (b : Sets). Splits b d.var d.val) (sym at.sets) (path_splits q.path.items d path)

  -- the same place
  pub stand_same : (q : Stand) → q.path.items ≡ s.path.items → q.cuts ≡ s.cuts → IsStandAt root q
  stand_same q path cuts = record {
    full = h.full;
    split = subst (AllSplit root) (sym path) h.split;
    sets = ap (λ (k : Contents). k.sets) cuts ∙ (h.sets ∙ ap (reached root) (sym path));
    marked = ap (λ (k : Contents). k.marked) cuts ∙ (h.marked ∙ ap (ways root) (sym path));
  }
