-- Engines with a mark for each decision.
use Rattle.std.proofs.Common.{◌≡◌, suc, List, [], ◌∷◌, ◌++◌, length, Some, refl, ap}
use Rattle.std.specs.declared.option.Option.{Option}
use Rattle.un_domains.specs.Sets.{Sets}
use Rattle.un_tree.specs.Boxes.{IsBox, decided, reached}
use Rattle.un_tree.specs.declared.node.Decision.{Decision}
use Rattle.un_stand.specs.Rooms.{Leveled}

pub reached-append : (b : Sets) (ds es : List Decision) → reached b (ds ++ es) ≡ reached (reached b ds) es
reached-append b [] es = refl
reached-append b (d ∷ ds) es = reached-append (decided d b) ds es

module _ (root : Sets) (fix : Sets → Option Sets) where
  pub leveled_long : (b : Sets) (ds : List Decision) (ms : List Sets) (s : Sets) → Leveled root fix b ds ms s → length ms ≡ length ds
  leveled_long b [] [] s h = refl
  leveled_long b [] (m ∷ ms) s h = absurd h
  leveled_long b (d ∷ ds) [] s h = absurd h
  leveled_long b (d ∷ ds) (m ∷ ms) s h = ap suc (leveled_long (decided d b) ds ms s h.2)

  pub leveled_end : (b : Sets) (ds : List Decision) (ms : List Sets) (s : Sets) → Leveled root fix b ds ms s
      → IsBox root (reached b ds) × (fix (reached b ds) ≡ Some s)
  leveled_end b [] [] s h = (h.0, h.1)
  leveled_end b [] (m ∷ ms) s h = absurd h
  leveled_end b (d ∷ ds) [] s h = absurd h
  leveled_end b (d ∷ ds) (m ∷ ms) s h = leveled_end (decided d b) ds ms s h.2

  pub leveled_push : (b : Sets) (ds : List Decision) (ms : List Sets) (s t : Sets) (d : Decision) → Leveled root fix b ds ms s
      → IsBox root (decided d (reached b ds)) → fix (decided d (reached b ds)) ≡ Some t → Leveled root fix b (ds ++ d ∷ []) (ms ++ s ∷ []) t
  leveled_push b [] [] s t d h i e = (h.0, h.1, (i, e))
  leveled_push b [] (m ∷ ms) s t d h i e = absurd h
  leveled_push b (c ∷ ds) [] s t d h i e = absurd h
  leveled_push b (c ∷ ds) (m ∷ ms) s t d h i e = (h.0, h.1, leveled_push (decided c b) ds ms s t d h.2 i e)

  pub leveled_pop : (b : Sets) (ds : List Decision) (ms : List Sets) (s t : Sets) (d : Decision)
      → Leveled root fix b (ds ++ d ∷ []) (ms ++ t ∷ []) s → Leveled root fix b ds ms t
  leveled_pop b [] [] s t d h = (h.0, h.1)
  leveled_pop b [] (m ∷ []) s t d h = absurd h.2
  leveled_pop b [] (m ∷ n ∷ ms) s t d h = absurd h.2
  leveled_pop b (c ∷ []) [] s t d h = absurd h.2
  leveled_pop b (c ∷ e ∷ ds) [] s t d h = absurd h.2
  leveled_pop b (c ∷ ds) (m ∷ ms) s t d h = (h.0, h.1, leveled_pop (decided c b) ds ms s t d h.2)
