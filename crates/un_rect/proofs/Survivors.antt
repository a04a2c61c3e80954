-- Calls of a temporary that has some register left outside the mask.
use Rattle.std.proofs.Common.{ℕ, zero, suc, ◌≡◌, ◌<◌, Bool, true, false, not, ◌&&◌, List, [], ◌∷◌, length, filter}
use Rattle.std.proofs.Common.{nat_eq, nat_le, nat_lt, cond}
use Rattle.std.proofs.Common.{None, Some, option_and_then, refl, sym, ap, ◌∙◌, subst, arith}
use Rattle.std.specs.declared.option.Option.{Option}
use Rattle.std.specs.List.{list_any, AllByRecursion}
use Rattle.std.proofs.lemmas.Bool.Decides.{nat_tests}
use Rattle.std.proofs.lemmas.List.{get_or-set_same, length-set}
use Rattle.std.proofs.lemmas.List.Elements.{recursion_from_All}
use Rattle.un_base.specs.declared.ids.VarId.{VarId}
use Rattle.un_domains.specs.Sets.{Sets, set_at, has, kept, NoneEmpty}
use Rattle.un_domains.specs.SetLaws.{has-filter}
use Rattle.un_domains.specs.CutLaws.{kept_full}
use Rattle.un_isa.specs.Tables.{in_mask}
use Rattle.un_prop.specs.Rounds.{HasVars}
use Rattle.un_prop.specs.AmongLaws.{has_among}
use Rattle.un_prop.specs.LastLaws.{cut_all}
use Rattle.un_prop.specs.Looks.{sure}
use Rattle.un_prop.specs.LookLaws.{both}
use Rattle.un_prop.specs.Places.{each_place}
use Rattle.un_prop.specs.PlaceLaws.{act_same}
use Rattle.un_prop.specs.SomewhereLaws.{any_more}
use Rattle.un_prop.specs.declared.act.Temp.{Temp}
use Rattle.un_prop.specs.declared.act.UserOf.{UserOf}
use Rattle.un_rect.specs.Entries.{entry_cut, each_entry}
use Rattle.un_rect.specs.Spans.{greatest_start, least_end, TempVars, UserVars}
use Rattle.un_rect.specs.Clobber.{CallVars, may_survive, lasts, hit_test, hit_cut, off_test, off_cut, cycle_test, cycle_cut, reader_test}
use Rattle.un_rect.specs.Clobber.{reader_cut, call_steps}
use Rattle.un_rect.specs.declared.clobber.ClobberCall.{ClobberCall}
use Rattle.un_rect.proofs.Refusals.{no_left, no_right, passes_unmet, choice_same}

-- Entries that cut nothing

pub each_idle : (f : ℕ → Sets → Option Sets) (s : Sets) (n : ℕ) → ((k : ℕ) → f k s ≡ Some s) → each_place f n s ≡ Some s
each_idle f s zero h = refl
each_idle f s (suc n) h = rw (each_idle f s n h) (h n)

pub entry_idle : {A : Type 0} (P : A → Type 0) (f : A → Sets → Option Sets) (s : Sets) → ((x : A) → P x → f x s ≡ Some s) → (xs : List A)
    → AllByRecursion P xs → (i : ℕ) → entry_cut f xs i s ≡ Some s
entry_idle P f s h [] all i = refl
entry_idle P f s h (x ∷ xs) all zero = h x all.0
entry_idle P f s h (x ∷ xs) all (suc i) = entry_idle P f s h xs all.1 i

module _ (vs : List VarId) (mask : ℕ) (a : Temp) (c : ClobberCall) (ha : TempVars vs a) (hc : CallVars vs c) where
  -- the rest of a call's steps
  abbrev rest : Option Sets → Option Sets
  rest o = option_and_then (each_entry (reader_cut mask a c) c.behind)
      (option_and_then (cycle_cut mask a c) (option_and_then (off_cut mask a c) o))

  module _ (s : Sets) (k : HasVars vs s) (full : NoneEmpty s) (alive : may_survive mask a s ≡ true) where
    dead : not (may_survive mask a s) ≡ false
    dead = ap not alive

    off_idle : off_cut mask a c s ≡ Some s
    off_idle = act_same vs (off_test mask a c) a.on s ha.of_on k full
        (λ y. passes_unmet _ (no_right (not (nat_eq y 0)) _ (no_left (not (may_survive mask a s)) (lasts a c s) dead)))

    cycle_idle : cycle_cut mask a c s ≡ Some s
    cycle_idle = cut_all (cycle_test mask a s) c.at.0 s (has_among vs c.at s hc.of_at k) full
        (λ y there. passes_unmet _ (no_right (nat_le (greatest_start a s) y && nat_lt y (least_end a s)) _
        (no_right (sure a.on s) (not (may_survive mask a s)) dead)))

    reader_idle : (u : UserOf) → UserVars vs u → reader_cut mask a c u s ≡ Some s
    reader_idle u hu = choice_same vs (reader_test mask a c u) u.choice s hu.of_choice k full
        (λ y. passes_unmet _ (no_right (nat_eq y u.value) _ (no_right c.before _
        (no_right (sure a.on s && sure u.on s) (not (may_survive mask a s)) dead))))

    readers_idle : each_entry (reader_cut mask a c) c.behind s ≡ Some s
    readers_idle = each_idle (entry_cut (reader_cut mask a c) c.behind) s (length c.behind)
        (entry_idle (UserVars vs) (reader_cut mask a c) s reader_idle c.behind (recursion_from_All _ _ hc.of_behind))

    rest_idle : rest (Some s) ≡ Some s
    rest_idle = ap (λ (o : Option Sets). option_and_then (each_entry (reader_cut mask a c) c.behind)
        (option_and_then (cycle_cut mask a c) o)) off_idle
        ∙ (ap (λ (o : Option Sets). option_and_then (each_entry (reader_cut mask a c) c.behind) o) cycle_idle ∙ readers_idle)

  module _ (s : Sets) (k : HasVars vs s) (full : NoneEmpty s) (alive : may_survive mask a s ≡ true) where
    within : a.reg.0 < length s
    within = has_among vs a.reg s ha.of_reg k

    abbrev left : Sets
    left = kept (hit_test mask a c s) s a.reg.0

    -- one outside the mask is not hit
    kept_out : (y : ℕ) → not (in_mask mask y) ≡ true → hit_test mask a c s y ≡ true
    kept_out y out = passes_unmet _ (no_left (in_mask mask y) _ (of_not (in_mask mask y) out))
      where
        of_not : (b : Bool) → not b ≡ true → b ≡ false
        of_not false e = refl
        of_not true e = absurd (cc e)

    -- a register outside the mask is left
    left_alive : may_survive mask a left ≡ true
    left_alive = subst (λ (xs : List ℕ). list_any (λ r. not (in_mask mask r)) xs ≡ true)
        (sym (get_or-set_same s a.reg.0 (filter (hit_test mask a c s) (set_at s a.reg.0)) [] within))
        (any_more (λ r. not (in_mask mask r)) (λ r. not (in_mask mask r)) (set_at s a.reg.0)
        (filter (hit_test mask a c s) (set_at s a.reg.0))
        (λ y h out. (
          has-filter (hit_test mask a c s) y (set_at s a.reg.0)
              ∙ both (hit_test mask a c s y) (has (set_at s a.reg.0) y) (kept_out y out) h,
          out,
        )) alive)

    pub survivor_steps : call_steps mask a c s ≡ hit_cut mask a c s
    survivor_steps = by (nat_eq (length (filter (hit_test mask a c s) (set_at s a.reg.0))) 0) refl
      where
        by : (b : Bool) → nat_eq (length (filter (hit_test mask a c s) (set_at s a.reg.0))) 0 ≡ b
            → rest (cond b None (Some left)) ≡ cond b None (Some left)
        by true e = refl
        by false e =
            let some : 0 < length (filter (hit_test mask a c s) (set_at s a.reg.0)) = grind (arith, nat_tests, e) in
            let long = length-set s a.reg.0 (filter (hit_test mask a c s) (set_at s a.reg.0)) in
            rest_idle left (λ i d lt. (let old = k i d lt in omega (arith, old, long)))
            (kept_full (hit_test mask a c s) s a.reg.0 within full some) left_alive
