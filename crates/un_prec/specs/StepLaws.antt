-- Laws of all that a link lets a store keep.
use Rattle.std.proofs.Common.{ℕ, ◌≡◌, ◌≤◌, ◌+◌, ◌-◌, ◌^◌, true, ◌&&◌, List, [], ◌∷◌, length}
use Rattle.std.proofs.Common.{map, min, nat_le, nat_lt, Some, option_and_then, refl, ap, subst}
use Rattle.std.proofs.Common.{arith, inl, inr}
use Rattle.std.proofs.lemmas.Bool.{cases_lt}
use Rattle.std.proofs.lemmas.List.{get_or-map, length-map}
use Rattle.std.proofs.lemmas.Bool.Decides.{nat_tests}
use Rattle.un_base.specs.declared.ids.VarId.{VarId}
use Rattle.un_domains.specs.Sets.{Sets, set_at, least, greatest, IsIn, NoneEmpty, Kept}
use Rattle.un_domains.specs.OrderLaws.{le_least}
use Rattle.un_prop.specs.Rounds.{HasVars}
use Rattle.un_prop.specs.Lawful.{Lawful}
use Rattle.un_prop.specs.Steps.{lawful_then}
use Rattle.un_prop.specs.ChainLaws.{least_in, then_kept, known_in, stable_then}
use Rattle.un_prop.specs.Failing.{first_cut}
use Rattle.un_prop.specs.FailLaws.{first_lawful, first_keeps, first_passes}
use Rattle.un_prop.specs.LastLaws.{passes_all}
use Rattle.un_prop.specs.Among.{AllAmong}
use Rattle.un_prop.specs.AmongLaws.{has_among}
use Rattle.un_prop.specs.Acts.{at_vars}
use Rattle.un_prop.specs.Looks.{at_set, sure, InWords}
use Rattle.un_prop.specs.declared.act.At.{At}
use Rattle.un_prop.specs.declared.act.At.TheVariants.{Const, Var}
use Rattle.un_prec.specs.declared.link.Link.{Link}
use Rattle.un_prec.specs.Links.{link_holds, LinkVars, both_sure, at_cut, later_test, earlier_test, apart_test, link_steps, LinkStrong}
use Rattle.un_prec.specs.LinkLaws.{at_lawful, at_keeps, later_lawful, later_keeps, earlier_lawful, earlier_keeps, apart_lawful, apart_keeps}
use Rattle.un_prec.specs.LinkLaws.{sure_holds}
use Rattle.un_prop.specs.LookLaws.{or_not, both, not_true, value_in}

-- A link

module _ (vs : List VarId) (l : Link) (h : LinkVars vs l) where
  f1 : Lawful vs (first_cut (apart_test l) vs)
  f1 = first_lawful (apart_test l) vs (apart_lawful vs l h)

  f2 : Lawful vs (at_cut (later_test l) l.to)
  f2 = at_lawful vs (later_test l) l.to h.of_to (later_lawful vs l h)

  f3 : Lawful vs (at_cut (earlier_test l) l.from)
  f3 = at_lawful vs (earlier_test l) l.from h.of_from (earlier_lawful vs l h)

  f12 : Lawful vs (λ s. option_and_then (at_cut (later_test l) l.to) (first_cut (apart_test l) vs s))
  f12 = lawful_then vs (first_cut (apart_test l) vs) (at_cut (later_test l) l.to) f1 f2

  pub link_lawful : Lawful vs (link_steps vs l)
  link_lawful = lawful_then vs (λ s. option_and_then (at_cut (later_test l) l.to) (first_cut (apart_test l) vs s))
      (at_cut (earlier_test l) l.from) f12 f3

  pub link_keeps : (s : Sets) (x : List ℕ) → HasVars vs s → IsIn x s → link_holds l x ≡ true → Kept x (link_steps vs l s)
  link_keeps s x k there holds =
      then_kept (at_cut (earlier_test l) l.from) x (option_and_then (at_cut (later_test l) l.to) (first_cut (apart_test l) vs s))
      (then_kept (at_cut (later_test l) l.to) x (first_cut (apart_test l) vs s)
      (first_keeps (apart_test l) vs s x k there (λ y. apart_keeps vs l h s x y k there holds))
      (λ m in_m. let km = known_in vs s m x there in_m k in at_keeps vs (later_test l) l.to h.of_to m x km in_m
      (later_keeps vs l h m x km in_m holds)))
      (λ m in_m. let km = known_in vs s m x there in_m k in at_keeps vs (earlier_test l) l.from h.of_from m x km in_m
      (earlier_keeps vs l h m x km in_m holds))

  -- **a link that lets all stay is strong**: where a link reads no variable, it holds
  pub link_strong : (s : Sets) → HasVars vs s → NoneEmpty s → InWords s → (length vs ≡ 0 → (x : List ℕ) → link_holds l x ≡ true)
      → link_steps vs l s ≡ Some s → LinkStrong l s
  link_strong s k full words grounded e one two =
      let outer = stable_then vs (λ s. option_and_then (at_cut (later_test l) l.to) (first_cut (apart_test l) vs s))
      (at_cut (earlier_test l) l.from) f12 f3 s k full e in
      let inner = stable_then vs (first_cut (apart_test l) vs) (at_cut (later_test l) l.to) f1 f2 s k full outer.0 in
      let sures : both_sure l s ≡ true = both (sure l.from_on s) (sure l.to_on s) one two in
      at l.to refl h.of_to inner.1 (near sures inner.0) sures
    where
      none_read : vs ≡ [] → (length vs ≡ 0)
      none_read is = ap length is

      -- there is a way
      near : both_sure l s ≡ true → first_cut (apart_test l) vs s ≡ Some s → least (at_set l.from s) + l.gap ≤ greatest (at_set l.to s)
      near sures stays = by vs refl
        where
          far_not : (y : ℕ) → apart_test l s y ≡ true → least (at_set l.from s) + l.gap ≤ greatest (at_set l.to s)
          far_not y pass = elim (cases_lt (greatest (at_set l.to s)) (least (at_set l.from s) + l.gap)) [
            | inr le ↦ le
            | inl lt ↦ absurd (not_true (both_sure l s && nat_lt (greatest (at_set l.to s)) (least (at_set l.from s) + l.gap)) pass
                (both (both_sure l s) (nat_lt (greatest (at_set l.to s)) (least (at_set l.from s) + l.gap)) sures
                (grind (arith, nat_tests, lt))))
          ]

          by : (us : List VarId) → vs ≡ us → least (at_set l.from s) + l.gap ≤ greatest (at_set l.to s)
          by (u ∷ us) is = let r = first_passes (apart_test l) vs s (omega (arith, ap length is)) k full stays in far_not r.0 r.1
          by [] is =
              let x = map least s in
              let there : IsIn x s = record {
                long = length-map s least;
                each =
                    λ v lt. rw (get_or-map least s v [] 0 lt) (least_in (set_at s v) (full v lt));
              } in
              let holds = sure_holds vs l h s x k there (grounded (ap length is) x) sures in
              let low = (value_in vs s x there k l.from h.of_from).0 in
              let high = (value_in vs s x there k l.to h.of_to).1 in
              omega (arith, holds, low, high)

      at : (to : At) → l.to ≡ to → AllAmong vs (at_vars to) → at_cut (later_test l) l.to s ≡ Some s
          → least (at_set l.from s) + l.gap ≤ greatest (at_set l.to s) → both_sure l s ≡ true
          → least (at_set l.from s) + l.gap ≤ least (at_set l.to s)
      at (Const n) is all stays way sures = (let a = ap (λ (t : At). greatest (at_set t s)) is in let b =
          ap (λ (t : At). least (at_set t s)) is in omega (arith, way, a, b))
      at (Var v) is all stays way sures =
          let within = has_among vs v s (all 0 v (omega arith)) k in
          let stays' = subst (λ (t : At). at_cut (later_test l) t s ≡ Some s) is stays in
          let some = full v.0 within in
          let low = le_least (min (least (at_set l.from s) + l.gap) (2 ^ 32)) (set_at s v.0) some (λ y there.
          let pass = or_not (both_sure l s) (nat_le (min (least (at_set l.from s) + l.gap) (2 ^ 32)) y)
          (passes_all (later_test l s) v.0 s within stays' y there) sures in
          grind (arith, nat_tests, pass)) in
          let small = words v.0 (least (set_at s v.0)) (least_in (set_at s v.0) some) in
          let b = ap (λ (t : At). least (at_set t s)) is in
          omega (arith, low, small, b)
