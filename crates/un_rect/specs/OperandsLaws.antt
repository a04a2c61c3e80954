-- What two operands look at, and what they let a store keep.
use Rattle.std.proofs.Common.{ℕ, zero, suc, ◌≡◌, ◌∙◌, Bool, true, false, not, ◌&&◌, ◌||◌, List, [], ◌∷◌, get_or, nat_eq, Some, refl, sym}
use Rattle.std.proofs.Common.{subst, arith, ap}
use Rattle.std.specs.List.{AllByRecursion, Contains, list_any, slice_get}
use Rattle.std.proofs.lemmas.List.Elements.{recursion_from_All}
use Rattle.std.proofs.lemmas.Bool.Decides.{nat_tests}
use Rattle.un_base.specs.declared.ids.VarId.{VarId}
use Rattle.un_domains.specs.Sets.{Sets, set_at, has, cut_by, IsIn, Kept}
use Rattle.un_domains.specs.CutLaws.{cut_by_kept}
use Rattle.un_domains.specs.OrderLaws.{has_below}
use Rattle.un_prop.specs.Rounds.{HasVars}
use Rattle.un_prop.specs.Parts.{Part, SameAt, ChecksForward}
use Rattle.un_prop.specs.PartLaws.{one_part, lawful_checked, keeps_checked, forward_checked}
use Rattle.un_prop.specs.LastLaws.{Ascend}
use Rattle.un_prop.specs.Among.{among, AllAmong}
use Rattle.un_prop.specs.AmongLaws.{in_list, has_among, same_var}
use Rattle.un_prop.specs.Acts.{act_vars}
use Rattle.un_prop.specs.Choices.{passes_at}
use Rattle.un_prop.specs.ChoiceLaws.{passes_more, passes_agree, passes_get, passes_find, map_all, always}
use Rattle.un_prop.specs.SomewhereLaws.{any_more, any_agree, any_has}
use Rattle.un_prop.specs.Lawful.{Lawful, LawfulTest}
use Rattle.un_prop.specs.LookLaws.{both, firsts, not_or, set_alike}
use Rattle.un_prop.specs.Steps.{lawful_cut_by, lawful_then}
use Rattle.un_prop.specs.ChainLaws.{then_kept, known_in}
use Rattle.un_prop.specs.Places.{places_in, choice_steps}
use Rattle.un_prop.specs.PlaceLaws.{entries_lawful, choice_lawful, choice_keeps}
use Rattle.un_prop.specs.declared.act.Act.TheVariants.{Always}
use Rattle.un_rect.specs.Entries.{entry_cut, each_entry}
use Rattle.un_rect.specs.EntryLaws.{entry_lawful, entries_lawful_each, entries_keep, fixed_lawful, fixed_keeps}
use Rattle.un_rect.specs.Operands.{Side, side_passes, operands_holds, SideVars, may_have, may_avoid, may_be, side_can, other_test}
use Rattle.un_rect.specs.Operands.{other_cut, chosen_cut, fixed_cut, side_steps, operands_steps, operands_cut}

-- What is looked at

module _ (vs : List VarId) (x y : List ℕ) (same : SameAt vs x y) where
  pub side_alike : (p q : ℕ → Bool) (a : Side) → SideVars vs a → ((n : ℕ) → p n ≡ q n) → side_passes p a x ≡ side_passes q a y
  side_alike p q a h e = ap (λ (i : ℕ). passes_at (λ (v : VarId). has a.allowed (get_or x v.0 0) && p (get_or x v.0 0)) a.regs i)
      (same_var vs x y same a.choice h.of_choice)
      ∙ passes_agree (λ (v : VarId). has a.allowed (get_or x v.0 0) && p (get_or x v.0 0))
      (λ (v : VarId). has a.allowed (get_or y v.0 0) && q (get_or y v.0 0)) a.regs (get_or y a.choice.0 0)
      (map_all (λ u. among vs u ≡ true) (λ v. (has a.allowed (get_or x v.0 0) && p (get_or x v.0 0)) ≡
      (has a.allowed (get_or y v.0 0) && q (get_or y v.0 0)))
      (λ v there. ap (λ (n : ℕ). has a.allowed n && p n) (same_var vs x y same v there)
      ∙ ap (λ (b : Bool). has a.allowed (get_or y v.0 0) && b) (e (get_or y v.0 0)))
      a.regs (recursion_from_All _ _ h.of_regs))

  pub operands_looks : (a b : Side) → SideVars vs a → SideVars vs b → operands_holds a b x ≡ operands_holds a b y
  operands_looks a b h k = side_alike (λ q. side_passes (λ r. not (nat_eq r q)) b x) (λ q. side_passes (λ r. not (nat_eq r q)) b y) a h
      (λ q. side_alike (λ r. not (nat_eq r q)) (λ r. not (nat_eq r q)) b k (λ r. refl))

-- What holds

-- the registers that two operands choose
pub record Chosen (a b : Side) (x : List ℕ) : Type 0 where
  pub v : VarId
  pub w : VarId
  pub v_at : slice_get a.regs (get_or x a.choice.0 0) ≡ Some v
  pub w_at : slice_get b.regs (get_or x b.choice.0 0) ≡ Some w
  pub v_allowed : has a.allowed (get_or x v.0 0) ≡ true
  pub w_allowed : has b.allowed (get_or x w.0 0) ≡ true
  pub differ : not (nat_eq (get_or x w.0 0) (get_or x v.0 0)) ≡ true

pub chosen_by : (a b : Side) (x : List ℕ) → operands_holds a b x ≡ true → Chosen a b x
chosen_by a b x holds =
    let f = passes_find (λ (v : VarId). has a.allowed (get_or x v.0 0) && side_passes (λ r. not (nat_eq r (get_or x v.0 0))) b x) a.regs
    (get_or x a.choice.0 0) holds in
    let h = firsts (has a.allowed (get_or x f.0.0 0)) (side_passes (λ r. not (nat_eq r (get_or x f.0.0 0))) b x) f.2 in
    let g = passes_find (λ (w : VarId). has b.allowed (get_or x w.0 0) && not (nat_eq (get_or x w.0 0) (get_or x f.0.0 0))) b.regs
    (get_or x b.choice.0 0) h.1 in
    let k = firsts (has b.allowed (get_or x g.0.0 0)) (not (nat_eq (get_or x g.0.0 0) (get_or x f.0.0 0))) g.2 in
    record { v = f.0; w = g.0; v_at = f.1; w_at = g.1; v_allowed = h.0; w_allowed = k.0; differ = k.1 }

pub turned : (a b : Side) (x : List ℕ) → Chosen a b x → Chosen b a x
turned a b x h = record {
  v = h.w;
  w = h.v;
  v_at = h.w_at;
  w_at = h.v_at;
  v_allowed = h.w_allowed;
  w_allowed = h.v_allowed;
  differ = let d = h.differ in grind (arith, nat_tests, d);
}

-- One operand beside another

module _ (vs : List VarId) where
  have_lawful : (a : Side) → SideVars vs a → (r : ℕ) → LawfulTest vs (λ s y. may_have a s r)
  have_lawful a h r = record {
    monotone = λ t s y k full le e. any_more (passes_at (λ (v : VarId). has (set_at t v.0) r) a.regs)
        (passes_at (λ (v : VarId). has (set_at s v.0) r) a.regs)
        (set_at t a.choice.0) (set_at s a.choice.0)
        (λ i there is. (
          has_below t s a.choice.0 i le there,
          passes_more (λ (v : VarId). Unit {0}) (λ v. has (set_at t v.0) r) (λ v. has (set_at s v.0) r) a.regs i (always a.regs)
              (λ v u is. has_below t s v.0 r le is) is,
        )) e;
    local = λ s t y agree. ap (λ (xs : List ℕ). list_any (passes_at (λ (v : VarId). has (set_at s v.0) r) a.regs) xs)
        (set_alike vs s t agree a.choice h.of_choice)
        ∙ any_agree (passes_at (λ (v : VarId). has (set_at s v.0) r) a.regs) (passes_at (λ (v : VarId). has (set_at t v.0) r) a.regs)
        (set_at t a.choice.0)
        (λ i. passes_agree (λ (v : VarId). has (set_at s v.0) r) (λ (v : VarId). has (set_at t v.0) r) a.regs i
        (map_all (λ u. among vs u ≡ true) (λ v. has (set_at s v.0) r ≡ has (set_at t v.0) r)
        (λ v there. ap (λ (xs : List ℕ). has xs r) (set_alike vs s t agree v there))
        a.regs (recursion_from_All _ _ h.of_regs)));
  }

  avoid_lawful : (a : Side) → SideVars vs a → (r : ℕ) → LawfulTest vs (λ s y. may_avoid a s r)
  avoid_lawful a h r = record {
    monotone = λ t s y k full le e. any_more (λ q. not (nat_eq q r) && may_have a t q) (λ q. not (nat_eq q r) && may_have a s q)
        a.allowed a.allowed
        (λ q there is. (
          there,
          (let two = firsts (not (nat_eq q r)) (may_have a t q) is in
              both (not (nat_eq q r)) (may_have a s q) two.0 ((have_lawful a h q).monotone t s y k full le two.1)),
        )) e;
    local = λ s t y agree. any_agree (λ q. not (nat_eq q r) && may_have a s q) (λ q. not (nat_eq q r) && may_have a t q) a.allowed
        (λ q. ap (λ (b : Bool). not (nat_eq q r) && b) ((have_lawful a h q).local s t y agree));
  }

  module _ (a b : Side) (h : SideVars vs a) (k : SideVars vs b) where
    be_lawful : (v : VarId) → among vs v ≡ true → LawfulTest vs (λ s y. may_be a b s v)
    be_lawful v at = record {
      monotone = λ t s y kn full le e. any_more (λ r. has (set_at t v.0) r && may_avoid b t r)
          (λ r. has (set_at s v.0) r && may_avoid b s r) a.allowed a.allowed
          (λ r there is. (
            there,
            (let two = firsts (has (set_at t v.0) r) (may_avoid b t r) is in
                both (has (set_at s v.0) r) (may_avoid b s r) (has_below t s v.0 r le two.0)
                ((avoid_lawful b k r).monotone t s y kn full le two.1)),
          )) e;
      local = λ s t y agree. any_agree (λ r. has (set_at s v.0) r && may_avoid b s r) (λ r. has (set_at t v.0) r && may_avoid b t r)
          a.allowed
          (λ r. ap (λ (xs : List ℕ). has xs r && may_avoid b s r) (set_alike vs s t agree v at)
          ∙ ap (λ (c : Bool). has (set_at t v.0) r && c) ((avoid_lawful b k r).local s t y agree));
    }

    all_regs : AllByRecursion (λ u. among vs u ≡ true) a.regs
    all_regs = recursion_from_All _ _ h.of_regs

    can_lawful : LawfulTest vs (side_can a b)
    can_lawful = entries_lawful vs (λ u. among vs u ≡ true) (may_be a b) a.regs be_lawful all_regs

    other_lawful : (v : VarId) → among vs v ≡ true → (r : ℕ) → Lawful vs (other_cut b v r)
    other_lawful v at r = lawful_cut_by vs v (other_test b r) (in_list vs v at) (record {
      monotone = λ t s y kn full le e. by (nat_eq y r) (may_avoid b t r) (may_avoid b s r) e
          ((avoid_lawful b k r).monotone t s y kn full le);
      local = λ s t y agree. ap (λ (c : Bool). not (nat_eq y r) || c) ((avoid_lawful b k r).local s t y agree);
    })
      where
        by : (c d e : Bool) → (not c || d) ≡ true → (d ≡ true → e ≡ true) → (not c || e) ≡ true
        by false d e h f = refl
        by true d e h f = f h

    chosen_lawful : (v : VarId) → among vs v ≡ true → Lawful vs (chosen_cut a b v)
    chosen_lawful v at = lawful_then vs (λ s. cut_by (has a.allowed) v.0 s) (each_entry (other_cut b v) b.allowed)
        (lawful_cut_by vs v (λ s. has a.allowed) (in_list vs v at)
        (record { monotone = λ t s y kn full le e. e; local = λ s t y agree. refl }))
        (entries_lawful_each vs (λ (r : ℕ). Unit {0}) (other_cut b v) (λ r u. other_lawful v at r) b.allowed (always b.allowed))

    pub fixed_cut_lawful : Lawful vs (fixed_cut a b)
    fixed_cut_lawful = fixed_lawful vs (entry_cut (chosen_cut a b) a.regs) a.choice h.of_choice
        (λ i. entry_lawful vs (λ u. among vs u ≡ true) (chosen_cut a b) chosen_lawful a.regs all_regs i)

    none_among : AllAmong vs (act_vars Always)
    none_among i d lt = absurd (omega (arith, lt))

    pub side_lawful : Lawful vs (side_steps a b)
    side_lawful = lawful_then vs (choice_steps Always a.choice (side_can a b) (places_in a.regs)) (fixed_cut a b)
        (choice_lawful vs Always a.choice (side_can a b) none_among h.of_choice can_lawful (places_in a.regs)) fixed_cut_lawful

    -- what holds stays
    module _ (x : List ℕ) (c : Chosen a b x) where
      q : ℕ
      q = get_or x c.v.0 0

      entry_among : (us : List VarId) (i : ℕ) (u : VarId) → AllByRecursion (λ u. among vs u ≡ true) us → slice_get us i ≡ Some u
          → among vs u ≡ true
      entry_among [] i u all e = absurd (cc e)
      entry_among (z ∷ us) zero u all e = let same : z ≡ u = cc e in subst (λ (w : VarId). among vs w ≡ true) same all.0
      entry_among (z ∷ us) (suc i) u all e = entry_among us i u all.1 e

      avoids : (m : Sets) → HasVars vs m → IsIn x m → may_avoid b m (get_or x c.v.0 0) ≡ true
      avoids m km there =
          let r = get_or x c.w.0 0 in
          let w_in = entry_among b.regs (get_or x b.choice.0 0) c.w (recursion_from_All _ _ k.of_regs) c.w_at in
          any_has (λ z. not (nat_eq z (get_or x c.v.0 0)) && may_have b m z) b.allowed r c.w_allowed
          (both (not (nat_eq r (get_or x c.v.0 0))) (may_have b m r) c.differ
          (any_has (passes_at (λ (v : VarId). has (set_at m v.0) r) b.regs) (set_at m b.choice.0) (get_or x b.choice.0 0)
          (there.each b.choice.0 (has_among vs b.choice m k.of_choice km))
          (passes_get (λ (v : VarId). has (set_at m v.0) r) b.regs (get_or x b.choice.0 0) c.w c.w_at
          ∙ there.each c.w.0 (has_among vs c.w m w_in km))))

      v_in : among vs c.v ≡ true
      v_in = entry_among a.regs (get_or x a.choice.0 0) c.v all_regs c.v_at

      can_keeps : (m : Sets) → HasVars vs m → IsIn x m → side_can a b m (get_or x a.choice.0 0) ≡ true
      can_keeps m km there = passes_get (may_be a b m) a.regs (get_or x a.choice.0 0) c.v c.v_at
          ∙ any_has (λ r. has (set_at m c.v.0) r && may_avoid b m r) a.allowed (get_or x c.v.0 0) c.v_allowed
          (both (has (set_at m c.v.0) (get_or x c.v.0 0)) (may_avoid b m (get_or x c.v.0 0))
          (there.each c.v.0 (has_among vs c.v m v_in km)) (avoids m km there))

      other_keeps : (r : ℕ) (m : Sets) → HasVars vs m → IsIn x m → Kept x (other_cut b c.v r m)
      other_keeps r m km there = cut_by_kept (other_test b r m) c.v.0 m x (has_among vs c.v m v_in km) there
          (not_or (nat_eq (get_or x c.v.0 0) r) (may_avoid b m r) (λ e. (let same : get_or x c.v.0 0 ≡ r = grind (arith, nat_tests, e) in
          subst (λ (n : ℕ). may_avoid b m n ≡ true) same (avoids m km there))))

      chosen_keeps : (m : Sets) → HasVars vs m → IsIn x m → Kept x (chosen_cut a b c.v m)
      chosen_keeps m km there = then_kept (each_entry (other_cut b c.v) b.allowed) x (cut_by (has a.allowed) c.v.0 m)
          (cut_by_kept (has a.allowed) c.v.0 m x (has_among vs c.v m v_in km) there c.v_allowed)
          (λ u in_u. entries_keep vs (λ (r : ℕ). Unit {0}) (other_cut b c.v) x (λ r one s ks in_s. other_keeps r s ks in_s) b.allowed
          (always b.allowed) u (known_in vs m u x there in_u km) in_u)

      entry_is : (us : List VarId) (i : ℕ) (u : VarId) (m : Sets) → slice_get us i ≡ Some u
          → entry_cut (chosen_cut a b) us i m ≡ chosen_cut a b u m
      entry_is [] i u m e = absurd (cc e)
      entry_is (z ∷ us) zero u m e = let same : z ≡ u = cc e in ap (λ (w : VarId). chosen_cut a b w m) same
      entry_is (z ∷ us) (suc i) u m e = entry_is us i u m e

      pub side_keeps : (s : Sets) → HasVars vs s → IsIn x s → Kept x (side_steps a b s)
      side_keeps s ks there = then_kept (fixed_cut a b) x (choice_steps Always a.choice (side_can a b) (places_in a.regs) s)
          (choice_keeps vs Always a.choice (side_can a b) none_among h.of_choice can_lawful (places_in a.regs) s x ks there
          (λ m km in_m is. can_keeps m km in_m))
          (λ m in_m. (let km = known_in vs s m x there in_m ks in
          fixed_keeps vs (entry_cut (chosen_cut a b) a.regs) a.choice h.of_choice m x km in_m
          (subst (Kept x) (sym (entry_is a.regs (get_or x a.choice.0 0) c.v m c.v_at)) (chosen_keeps m km in_m))))

-- Both operands

module _ (vs : List VarId) (a b : Side) (h : SideVars vs a) (k : SideVars vs b) where
  pub operands_lawful : Lawful vs (operands_steps a b)
  operands_lawful = lawful_then vs (side_steps a b) (side_steps b a) (side_lawful vs a b h k) (side_lawful vs b a k h)

  pub operands_keeps : (s : Sets) (x : List ℕ) → HasVars vs s → IsIn x s → operands_holds a b x ≡ true → Kept x (operands_steps a b s)
  operands_keeps s x ks there holds =
      let c = chosen_by a b x holds in
      then_kept (side_steps b a) x (side_steps a b s) (side_keeps vs a b h k x c s ks there)
      (λ m in_m. side_keeps vs b a k h x (turned a b x c) m (known_in vs s m x there in_m ks) in_m)

  module _ (ascend : Ascend vs) where
    looks : (x y : List ℕ) → SameAt vs x y → operands_holds a b x ≡ operands_holds a b y
    looks x y same = operands_looks vs x y same a b h k

    pub operands_cut_lawful : Lawful vs (operands_cut vs a b)
    operands_cut_lawful = lawful_checked vs (operands_holds a b) looks ascend (operands_steps a b) operands_lawful

    pub operands_cut_keeps : (s : Sets) (x : List ℕ) → HasVars vs s → IsIn x s → operands_holds a b x ≡ true
        → Kept x (operands_cut vs a b s)
    operands_cut_keeps s x ks there holds = keeps_checked vs (operands_holds a b) looks ascend (operands_steps a b) operands_lawful s x ks
        (operands_keeps s x ks there holds) there.long holds

    pub operands_cut_forward : (part : Part) → Contains (one_part vs (operands_holds a b)) part
        → ChecksForward part vs (operands_cut vs a b)
    operands_cut_forward = forward_checked vs (operands_holds a b) looks ascend (operands_steps a b) operands_lawful
