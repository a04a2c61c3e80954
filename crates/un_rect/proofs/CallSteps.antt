-- The variable of a call's part that is left to decide.
use Rattle.std.proofs.Common.{ℕ, zero, suc, ◌≡◌, true, List, ◌∷◌, ◌++◌, length, set, Some, All, sym, ap, ◌∙◌, subst, arith}
use Rattle.std.proofs.lemmas.List.Elements.{All-contains, All-append, recursion_from_All}
use Rattle.un_base.specs.declared.ids.VarId.{VarId}
use Rattle.un_domains.specs.Sets.{Sets, cut_by, NoneEmpty}
use Rattle.un_prop.specs.Rounds.{HasVars}
use Rattle.un_prop.specs.Among.{among, AllAmong}
use Rattle.un_prop.specs.AmongLaws.{in_list}
use Rattle.un_prop.specs.Last.{point}
use Rattle.un_prop.specs.LastLaws.{Ascend}
use Rattle.un_prop.specs.declared.act.Temp.{Temp}
use Rattle.un_rect.specs.Spans.{TempVars}
use Rattle.un_rect.specs.Apart.{temp_vars, users_vars}
use Rattle.un_rect.specs.Clobber.{spares, CallVars, call_vars, check_call}
use Rattle.un_rect.specs.ClobberLaws.{part_looks, part_known}
use Rattle.un_rect.specs.Entries.{entry_cut, each_entry}
use Rattle.un_rect.specs.Opened.{opened_at, opened_after, is_more, Says}
use Rattle.un_rect.specs.OpenedLaws.{after_append, after_more, more_is, says_of, last_more, last_one, last_none}
use Rattle.un_rect.specs.TempLaws.{among_left, among_here, filter_ascends, temp_all, users_all}
use Rattle.un_rect.specs.declared.clobber.ClobberCall.{ClobberCall}
use Rattle.un_rect.specs.declared.opened.Opened.{Opened}
use Rattle.un_rect.specs.declared.opened.Opened.TheVariants.{Nothing, One, More}
use Rattle.un_rect.proofs.Survivors.{each_idle, entry_idle}

module _ (vs : List VarId) (mask : ℕ) (a : Temp) (c : ClobberCall) (ascend : Ascend vs) (ha : TempVars vs a) (hc : CallVars vs c)
    (s : Sets) (k : HasVars vs s) (full : NoneEmpty s) where
  sub : (u : VarId) → among (temp_vars a ++ (c.at ∷ users_vars c.behind)) u ≡ true → among vs u ≡ true
  sub u h = All-contains (λ v. among vs v ≡ true) (temp_vars a ++ (c.at ∷ users_vars c.behind)) u
      (All-append (λ v. among vs v ≡ true) (temp_vars a) (c.at ∷ users_vars c.behind) (temp_all vs a ha) own)
      (in_list (temp_vars a ++ (c.at ∷ users_vars c.behind)) u h)
    where
      own : AllAmong vs (c.at ∷ users_vars c.behind)
      own zero d lt = hc.of_at
      own (suc i) d lt = users_all vs c.behind (recursion_from_All _ _ hc.of_behind) i d (omega (arith, lt))

  rises : Ascend (call_vars vs a c)
  rises = filter_ascends (among (temp_vars a ++ (c.at ∷ users_vars c.behind))) vs ascend

  whole : (first second last : Opened) → first ≡ opened_after s (temp_vars a) Nothing → second ≡ opened_at s first c.at
      → last ≡ opened_after s (users_vars c.behind) second
      → opened_after s (temp_vars a ++ (c.at ∷ users_vars c.behind)) Nothing ≡ last
  whole first second last p q r = after_append s (temp_vars a) (c.at ∷ users_vars c.behind) Nothing
      ∙ (ap (λ (o : Opened). opened_after s (users_vars c.behind) (opened_at s o c.at)) (sym p)
      ∙ (ap (opened_after s (users_vars c.behind)) (sym q) ∙ sym r))

  pub call_nothing : (first second last : Opened) → first ≡ opened_after s (temp_vars a) Nothing → second ≡ opened_at s first c.at
      → last ≡ opened_after s (users_vars c.behind) second
      → last ≡ Nothing → check_call vs mask a c s ≡ cut_by (λ y. spares mask a c (set (point s) a.reg.0 y)) a.reg.0 s
  call_nothing first second last p q r e = last_none (temp_vars a ++ (c.at ∷ users_vars c.behind)) vs sub rises (spares mask a c)
      (part_looks vs mask a ha c hc) s a.reg
      (among_left (temp_vars a) (c.at ∷ users_vars c.behind) a.reg (among_here a.reg _)) (part_known vs mask a ha c hc s k) full
      (whole first second last p q r ∙ e)

  pub call_one : (v : VarId) (first second last : Opened) → first ≡ opened_after s (temp_vars a) Nothing → second ≡ opened_at s first c.at
      → last ≡ opened_after s (users_vars c.behind) second → last ≡ One v
      → (among vs v ≡ true) × (check_call vs mask a c s ≡ cut_by (λ y. spares mask a c (set (point s) v.0 y)) v.0 s)
  call_one v first second last p q r e =
      let is = whole first second last p q r ∙ e in (
        sub v (subst (Says (among (temp_vars a ++ (c.at ∷ users_vars c.behind))) s) is
            (says_of s (temp_vars a ++ (c.at ∷ users_vars c.behind)))).0,
        last_one (temp_vars a ++ (c.at ∷ users_vars c.behind)) vs sub rises (spares mask a c) (part_looks vs mask a ha c hc) s v
            (part_known vs mask a ha c hc s k) full is,
      )

  pub call_more : (first second last : Opened) → first ≡ opened_after s (temp_vars a) Nothing → second ≡ opened_at s first c.at
      → last ≡ opened_after s (users_vars c.behind) second
      → last ≡ More → check_call vs mask a c s ≡ Some s
  call_more first second last p q r e = last_more (temp_vars a ++ (c.at ∷ users_vars c.behind)) vs sub rises (spares mask a c)
      (part_looks vs mask a ha c hc) s (whole first second last p q r ∙ e)

  -- more are open of the temporary alone
  pub temp_more : (first : Opened) → first ≡ opened_after s (temp_vars a) Nothing → is_more first ≡ true → check_call vs mask a c s ≡ Some s
  temp_more first p e = last_more (temp_vars a ++ (c.at ∷ users_vars c.behind)) vs sub rises (spares mask a c)
      (part_looks vs mask a ha c hc) s
      (after_append s (temp_vars a) (c.at ∷ users_vars c.behind) Nothing
      ∙ (ap (opened_after s (c.at ∷ users_vars c.behind)) (sym p ∙ more_is first e) ∙ after_more s (c.at ∷ users_vars c.behind)))

-- so no call of a list has a part to decide
pub temp_idle : (vs : List VarId) (mask : ℕ) (a : Temp) → Ascend vs → TempVars vs a → (s : Sets) → HasVars vs s → NoneEmpty s
    → (first : Opened) → first ≡ opened_after s (temp_vars a) Nothing → is_more first ≡ true → (calls : List ClobberCall)
    → All (CallVars vs) calls → each_entry (check_call vs mask a) calls s ≡ Some s
temp_idle vs mask a ascend ha s k full first p e calls h = each_idle (entry_cut (check_call vs mask a) calls) s (length calls)
    (entry_idle (CallVars vs) (check_call vs mask a) s (λ c hc. temp_more vs mask a c ascend ha hc s k full first p e) calls
    (recursion_from_All (CallVars vs) calls h))
