-- What is found of a node.
use Rattle.std.proofs.Common.{ℕ, ◌≡◌, Bool, true, false, None, refl, subst}
use Rattle.std.specs.Prelude.{◌↔◌, IsTrue}
use Rattle.std.specs.declared.option.Option.{Option}
use Rattle.un_base.specs.declared.ids.VarId.{VarId}
use Rattle.un_domains.specs.Sets.{Sets}
use Rattle.un_model.specs.Boxes.{root_of}
use Rattle.un_model.specs.declared.model.Model.{Model}
use Rattle.un_post.specs.Posts.{fix_at}
use Rattle.un_tree.specs.Boxes.{Splits, reached}
use Rattle.un_stand.proofs.ModelRooms.{at_lost, at_rests}
use Rattle.un_stand.specs.Rooms.{IsAt, IsLost, Rests, path_of}
use Rattle.un_stand.specs.declared.room.Room.{Room}

-- a test that is true where something is, and false where it is not
pub tells : (P : Type 0) (b : Bool) → (b ≡ true → P) → (b ≡ false → P → ⊥) → IsTrue b ↔ P
tells P true is not = (λ e. is refl, λ p. refl)
tells P false is not = (λ e. cc e, λ p. absurd (not refl p))

module _ (m : Model) (limit : Option ℕ) (r : Room) (h : IsAt m limit r) where
  -- the store has the box of the path
  pub strict_tells : (v : VarId) (x : ℕ) (b : Bool) → (b ≡ true → Splits r.stand.cuts.sets v x)
      → (b ≡ false → Splits r.stand.cuts.sets v x → ⊥) → IsTrue b ↔ Splits (reached (root_of m) (path_of r)) v x
  strict_tells v x b both one =
      subst (λ (box : Sets). IsTrue b ↔ Splits box v x) h.room.stand.sets (tells (Splits r.stand.cuts.sets v x) b both one)

  pub closed_tells : (b : Bool) → (b ≡ true → IsLost r) → (b ≡ false → Rests r)
      → IsTrue b ↔ (fix_at m limit (reached (root_of m) (path_of r)) ≡ None)
  closed_tells b lost rests = tells (fix_at m limit (reached (root_of m) (path_of r)) ≡ None) b (λ e. at_lost m limit r h (lost e))
      (λ e none. at_rests m limit r h (rests e) none)
