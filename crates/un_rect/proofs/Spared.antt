-- A temporary that has no register of the mask left is spared by all calls.
use Rattle.std.proofs.Common.{ℕ, ◌≡◌, ◌≢◌, ◌<◌, ◌⊎◌, Bool, true, false, not, ◌&&◌, ◌||◌, List, length, [], get_or, set, All}
use Rattle.std.proofs.Common.{None, Some, option_and_then, refl, sym, ap, ◌∙◌, subst, arith, inl, inr}
use Rattle.std.specs.declared.option.Option.{Option}
use Rattle.std.specs.List.{list_any}
use Rattle.std.proofs.lemmas.List.{get_or-set_same, get_or-set_other, get_or-map, length-map}
use Rattle.std.proofs.lemmas.List.Elements.{recursion_from_All}
use Rattle.un_base.specs.declared.ids.VarId.{VarId}
use Rattle.un_domains.specs.Sets.{Sets, set_at, has, least, NoneEmpty}
use Rattle.un_isa.specs.Tables.{in_mask}
use Rattle.un_prop.specs.Acts.{is_active}
use Rattle.un_prop.specs.AmongLaws.{has_among}
use Rattle.un_prop.specs.ChainLaws.{least_in}
use Rattle.un_prop.specs.Last.{last_of, last_cut_at, point}
use Rattle.un_prop.specs.LastLaws.{cut_all, last_single}
use Rattle.un_prop.specs.Looks.{sure}
use Rattle.un_prop.specs.Rounds.{HasVars}
use Rattle.un_prop.specs.SomewhereLaws.{any_has}
use Rattle.un_prop.specs.declared.act.Temp.{Temp}
use Rattle.un_rect.specs.Clobber.{CallVars, avoids, spares, may_survive, lasts, hit_test, call_vars, call_steps, check_call, clobber_cut}
use Rattle.un_rect.specs.ClobberLaws.{part_known}
use Rattle.un_rect.specs.Entries.{entry_cut, each_entry}
use Rattle.un_rect.specs.Spans.{TempVars}
use Rattle.un_rect.specs.declared.clobber.ClobberCall.{ClobberCall}
use Rattle.un_rect.proofs.Refusals.{no_left, no_right, passes_unmet}
use Rattle.un_rect.proofs.Survivors.{each_idle, entry_idle, survivor_steps}

module _ (vs : List VarId) (mask : ℕ) (a : Temp) (ha : TempVars vs a) (s : Sets) (k : HasVars vs s) (full : NoneEmpty s)
    (clear : list_any (in_mask mask) (set_at s a.reg.0) ≡ false) where
  out : (y : ℕ) → has (set_at s a.reg.0) y ≡ true → in_mask mask y ≡ false
  out y here = by (in_mask mask y) refl
    where
      by : (b : Bool) → in_mask mask y ≡ b → b ≡ false
      by false e = refl
      by true e = sym (any_has (in_mask mask) (set_at s a.reg.0) y here e) ∙ clear

  within : a.reg.0 < length s
  within = has_among vs a.reg s ha.of_reg k

  own : has (set_at s a.reg.0) (least (set_at s a.reg.0)) ≡ true
  own = least_in (set_at s a.reg.0) (full a.reg.0 within)

  alive : may_survive mask a s ≡ true
  alive = any_has (λ r. not (in_mask mask r)) (set_at s a.reg.0) (least (set_at s a.reg.0)) own
      (ap not (out (least (set_at s a.reg.0)) own))

  pub steps_idle : (c : ClobberCall) → CallVars vs c → call_steps mask a c s ≡ Some s
  steps_idle c hc = survivor_steps vs mask a c ha hc s k full alive ∙ cut_all (hit_test mask a c s) a.reg.0 s within full
      (λ y there. passes_unmet (in_mask mask y && (sure a.on s && lasts a c s)) (no_left (in_mask mask y) (sure a.on s && lasts a c s)
      (out y there)))

  -- whatever value of its own a variable is given, the register is outside the mask
  register_out : (v y : ℕ) → has (set_at s v) y ≡ true → in_mask mask (get_or (set (point s) v y) a.reg.0 0) ≡ false
  register_out v y there = by (same a.reg.0 v)
    where
      same : (m n : ℕ) → (m ≡ n) ⊎ (m ≢ n)
      same m n = grind arith

      long : length (point s) ≡ length s
      long = length-map s least

      by : (a.reg.0 ≡ v) ⊎ (a.reg.0 ≢ v) → in_mask mask (get_or (set (point s) v y) a.reg.0 0) ≡ false
      by (inl e) = ap (in_mask mask) (ap (λ (n : ℕ). get_or (set (point s) n y) a.reg.0 0) (sym e)
          ∙ get_or-set_same (point s) a.reg.0 y 0 (omega (arith, within, long)))
          ∙ out y (subst (λ (n : ℕ). has (set_at s n) y ≡ true) (sym e) there)
      by (inr ne) = ap (in_mask mask) (get_or-set_other (point s) v a.reg.0 y 0 ne ∙ get_or-map least s a.reg.0 [] 0 within)
          ∙ out (least (set_at s a.reg.0)) own

  check_idle : (c : ClobberCall) → CallVars vs c → check_call vs mask a c s ≡ Some s
  check_idle c hc = by (last_of (call_vars vs a c) s) refl
    where
      by : (o : Option VarId) → last_of (call_vars vs a c) s ≡ o → last_cut_at (spares mask a c) s o ≡ Some s
      by None e = refl
      by (Some v) e =
          let there = (last_single (call_vars vs a c) s v e).0 in
          let lt = subst (λ (w : VarId). w.0 < length s) there.2 (part_known vs mask a ha c hc s k there.0 v there.1) in
          cut_all (λ y. spares mask a c (set (point s) v.0 y)) v.0 s lt full
          (λ y mine. ap (λ (b : Bool). not b || avoids a c (set (point s) v.0 y))
          (no_right (is_active a.on (set (point s) v.0 y)) _ (register_out v.0 y mine)))

  pub clobber_idle : (calls : List ClobberCall) → All (CallVars vs) calls → clobber_cut vs mask a calls s ≡ Some s
  clobber_idle calls h =
      let each = recursion_from_All (CallVars vs) calls h in
      let steps = each_idle (entry_cut (call_steps mask a) calls) s (length calls)
      (entry_idle (CallVars vs) (call_steps mask a) s steps_idle calls each) in
      let checks = each_idle (entry_cut (check_call vs mask a) calls) s (length calls)
      (entry_idle (CallVars vs) (check_call vs mask a) s check_idle calls each) in
      ap (λ (o : Option Sets). option_and_then (each_entry (check_call vs mask a) calls) o) steps ∙ checks
