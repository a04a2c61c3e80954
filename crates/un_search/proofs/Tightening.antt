-- The propagators of a lower limit, one after the other in their places: what rounds leave with both of them.
use Rattle.std.proofs.Common.{ℕ, ◌≡◌, ◌+◌, List, length, set, Option, None, Some, All, refl, sym, ap, subst, ◌∙◌}
use Rattle.std.specs.Prelude.{IfSome}
use Rattle.std.proofs.lemmas.List.Elements.{All-set}
use Rattle.un_base.specs.declared.ids.VarId.{VarId}
use Rattle.un_domains.specs.Sets.{Sets, NoneEmpty}
use Rattle.un_prop.specs.Pruning.{IsFix}
use Rattle.un_prop.specs.Rounds.{HasVars, fix_of}
use Rattle.un_prop.specs.declared.run.Fix.{Fix}
use Rattle.un_prop.specs.declared.run.Fix.TheVariants.{Stable, Failed as Fails}
use Rattle.un_kinds.specs.AnyProps.{cut_of, scope_of, span_of, any_lawful}
use Rattle.un_kinds.specs.declared.any.AnyProp.{AnyProp}
use Rattle.un_engine.proofs.EngineLaws.{failed_is, fails_set, stable_is, vars_kept}
use Rattle.un_post.specs.Lowered.{AreTighter, IsTighter, with_counted, with_lower}
use Rattle.un_post.specs.Posts.{ReadsFrom}
use Rattle.un_post.specs.declared.lower.Lowered.{Lowered}

-- what rounds leave as it is
rests : (c : Option Sets) (s : Sets) → c ≡ Some s → NoneEmpty s → IsFix c s Stable
rests c s e live = subst (λ (o : Option Sets). IsFix o s Stable) (sym e) (refl, refl, live)

-- from what rounds leave of a box with some propagators to what they leave of it with others
abbrev pub Leads : List AnyProp → List AnyProp → Sets → Sets → Fix → Type 0
Leads ps qs old new answer = (box : Sets) → NoneEmpty box → length box ≡ length old → fix_of cut_of ps box ≡ Some old
    → IsFix (fix_of cut_of qs box) new answer

-- so it is where nothing is put in a place
pub none_leads : (ps : List AnyProp) (at : ℕ) (c : Option AnyProp) (s : Sets) → c ≡ None → NoneEmpty s
    → Leads ps (with_counted ps at c) s s Stable
none_leads ps at c s is live box full long e =
    subst (λ (o : Option AnyProp). IsFix (fix_of cut_of (with_counted ps at o) box) s Stable) (sym is)
    (rests (fix_of cut_of ps box) s e live)

module _ (ps : List AnyProp) (at : ℕ) (l : Lowered) (h : AreTighter ps at l) (old mid : Sets) (answer : Fix)
    (reads : All (ReadsFrom old) ps) (first : Leads ps (set ps at l.cost) old mid answer) where
  reads_set : (box : Sets) → All (ReadsFrom box) ps → All (ReadsFrom box) (set ps at l.cost)
  reads_set box known = All-set (ReadsFrom box) ps at l.cost
      (subst (λ (vs : List VarId). HasVars vs box) (sym h.cost.scope) (known at l.cost h.cost.there)) known

  -- where rounds fail with the first, they fail with both
  pub lost_first : answer ≡ Fails → Leads ps (with_lower ps at l) old mid Fails
  lost_first is box full long e = by l.counted h.counted
    where
      fix : IsFix (fix_of cut_of (set ps at l.cost) box) mid Fails
      fix = subst (IsFix (fix_of cut_of (set ps at l.cost) box) mid) is (first box full long e)

      known : All (ReadsFrom box) ps
      known = vars_kept scope_of cut_of any_lawful span_of ps old box long reads

      by : (c : Option AnyProp) → IfSome c (IsTighter (set ps at l.cost) (at + 1))
          → IsFix (fix_of cut_of (with_counted (set ps at l.cost) (at + 1) c) box) mid Fails
      by None t = fix
      by (Some q) t =
          let none = failed_is (fix_of cut_of (set ps at l.cost) box) mid fix in
          let gone = fails_set scope_of cut_of any_lawful span_of (set ps at l.cost) (at + 1) q t.there box (reads_set box known) t.scope full
          t.stricter none in
          subst (λ (c : Option Sets). IsFix c mid Fails) (none ∙ sym gone) fix

  module _ (is : answer ≡ Stable) (qs : List AnyProp) (props : qs ≡ set ps at l.cost) where
    -- else no set is empty
    pub live_first : NoneEmpty old → (NoneEmpty old → fix_of cut_of ps old ≡ Some old) → NoneEmpty mid
    live_first live stays = (stable_is (fix_of cut_of (set ps at l.cost) old) mid
        (subst (IsFix (fix_of cut_of (set ps at l.cost) old) mid) is (first old live refl (stays live)))).1

    pub tighter_then : IfSome l.counted (IsTighter qs (at + 1))
    tighter_then = subst (λ (rs : List AnyProp). IfSome l.counted (IsTighter rs (at + 1))) (sym props) h.counted

    -- and from there on with both
    pub both_lead : (new : Sets) (last : Fix) → length mid ≡ length old → Leads qs (with_counted qs (at + 1) l.counted) mid new last
        → Leads ps (with_lower ps at l) old new last
    both_lead new last same second box full long e =
        let fix = first box full long e in
        let stands = (stable_is (fix_of cut_of (set ps at l.cost) box) mid (subst (IsFix (fix_of cut_of (set ps at l.cost) box) mid) is fix)).0 in
        let start : fix_of cut_of qs box ≡ Some mid = ap (λ (rs : List AnyProp). fix_of cut_of rs box) props ∙ stands in
        subst (λ (rs : List AnyProp). IsFix (fix_of cut_of (with_counted rs (at + 1) l.counted) box) new last) props
        (second box full (long ∙ sym same) start)
