-- What Spaces looks at.
use Rattle.std.proofs.Common.{ℕ, ◌≡◌, ◌∙◌, true, not, ◌||◌, List, get_or, nat_eq, sym}
use Rattle.std.proofs.Common.{ap}
use Rattle.std.specs.declared.option.Option.{Option}
use Rattle.std.specs.List.{AllByRecursion}
use Rattle.std.proofs.lemmas.List.Elements.{recursion_from_All}
use Rattle.std.specs.List.{list_any}
use Rattle.un_domains.specs.Sets.{Sets, set_at, has, IsIn}
use Rattle.un_domains.specs.OrderLaws.{has_below}
use Rattle.un_prop.specs.Rounds.{HasVars}
use Rattle.un_prop.specs.Acts.{act_number, is_active}
use Rattle.un_prop.specs.Lawful.{LawfulTest}
use Rattle.un_prop.specs.Looks.{act_set}
use Rattle.un_prop.specs.LookLaws.{or_not, set_alike, act_alike, act_below, number_in}
use Rattle.un_prop.specs.AmongLaws.{has_among}
use Rattle.un_prop.specs.ChoiceLaws.{passes_more, always}
use Rattle.un_prop.specs.SomewhereLaws.{any_more, any_has}
use Rattle.un_prop.specs.PlaceLaws.{entries_lawful}
use Rattle.un_prop.specs.declared.act.Act.{Act}
use Rattle.un_alt.specs.FilterLaws.{some_at}
use Rattle.un_base.specs.declared.ids.VarId.{VarId}
use Rattle.un_prop.specs.Parts.{SameAt}
use Rattle.un_prop.specs.Among.{among}
use Rattle.un_prop.specs.AmongLaws.{same_number}
use Rattle.un_prop.specs.Choices.{passes_at}
use Rattle.un_alt.specs.Registers.{place_of, chosen_value, some_passes}
use Rattle.un_alt.specs.RegisterLaws.{chosen_alike}
use Rattle.un_alt.specs.Spaces.{spaces_holds, may_lie, spaces_can, SpacesVars}

pub spaces_looks : (vs : List VarId) (on : Act) (choice : Option VarId) (regs : List VarId) (sets : List (List ℕ)) → SpacesVars vs on
    choice regs
    → (x y : List ℕ) → SameAt vs x y → spaces_holds on choice regs sets x ≡ spaces_holds on choice regs sets y
spaces_looks vs on choice regs sets h x y same =
    ap (λ (n : ℕ). not (not (nat_eq n 0)) || some_passes (λ r. passes_at (λ set. has set r) sets n) (chosen_value choice regs x))
    (same_number vs x y same on h.of_on)
    ∙ ap (λ (o : Option ℕ). not (is_active on y) || some_passes (λ r. passes_at (λ set. has set r) sets (act_number on y)) o)
    (chosen_alike vs x y same choice regs h.of_choice h.of_regs)

module _ (vs : List VarId) (on : Act) (choice : Option VarId) (regs : List VarId) (sets : List (List ℕ))
    (h : SpacesVars vs on choice regs) where
  all_vars : AllByRecursion (λ u. among vs u ≡ true) regs
  all_vars = recursion_from_All _ _ h.of_regs

  lies_lawful : (v : VarId) → among vs v ≡ true → LawfulTest vs (λ s y. may_lie on sets s v)
  lies_lawful v there = record {
    monotone = λ t s y k full le e. any_more (passes_at (list_any (has (set_at t v.0))) sets)
        (passes_at (list_any (has (set_at s v.0))) sets) (act_set on t) (act_set on s)
        (λ n a b. (
          act_below vs t s n le on a,
          passes_more (λ (set : List ℕ). Unit {0}) (list_any (has (set_at t v.0))) (list_any (has (set_at s v.0))) sets n (always sets)
              (λ set u is. any_more (has (set_at t v.0)) (has (set_at s v.0)) set set (λ r c d. (c, has_below t s v.0 r le d)) is) b,
        )) e;
    local = λ s t y agree. ap (λ (xs : List ℕ). list_any (passes_at (list_any (has xs)) sets) (act_set on s))
        (set_alike vs s t agree v there)
        ∙ ap (list_any (passes_at (list_any (has (set_at t v.0))) sets)) (act_alike vs s t agree on h.of_on);
  }

  pub spaces_lawful : LawfulTest vs (spaces_can on regs sets)
  spaces_lawful = entries_lawful vs (λ u. among vs u ≡ true) (may_lie on sets) regs lies_lawful all_vars

  lies_in : (m : Sets) (x : List ℕ) → HasVars vs m → IsIn x m → (v : VarId) → among vs v ≡ true → passes_at
      (λ set. has set (get_or x v.0 0)) sets (act_number on x) ≡ true → may_lie on sets m v ≡ true
  lies_in m x k there v at e = any_has (passes_at (list_any (has (set_at m v.0))) sets) (act_set on m) (act_number on x)
      (number_in vs m x there k on h.of_on)
      (passes_more (λ (set : List ℕ). Unit {0}) (λ set. has set (get_or x v.0 0)) (list_any (has (set_at m v.0))) sets
      (act_number on x) (always sets)
      (λ set u is. any_has (has (set_at m v.0)) set (get_or x v.0 0) is (there.each v.0 (has_among vs v m at k))) e)

  pub spaces_fits : (x : List ℕ) → spaces_holds on choice regs sets x ≡ true → (m : Sets) → HasVars vs m → IsIn x m → is_active on x ≡
      true → spaces_can on regs sets m (place_of choice x) ≡ true
  spaces_fits x holds m k there is = passes_more (λ u. among vs u ≡ true)
      (λ (v : VarId). passes_at (λ set. has set (get_or x v.0 0)) sets (act_number on x)) (may_lie on sets m) regs (place_of choice x)
      all_vars
      (lies_in m x k there)
      (sym (some_at (λ r. passes_at (λ set. has set r) sets (act_number on x)) regs (place_of choice x) x)
      ∙ or_not (is_active on x) (some_passes (λ r. passes_at (λ set. has set r) sets (act_number on x)) (chosen_value choice regs x))
      holds is)
