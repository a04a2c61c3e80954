-- The laws of Last are those of its link, and of the way back.
use Rattle.std.proofs.Common.{ℕ, ◌≡◌, ◌≤◌, ◌+◌, ◌∙◌, true, List, length, get_or, nat_eq, Some}
use Rattle.std.proofs.Common.{refl, ap, arith}
use Rattle.std.proofs.lemmas.Bool.Decides.{nat_tests}
use Rattle.un_base.specs.declared.ids.VarId.{VarId}
use Rattle.un_domains.specs.Sets.{Sets, set_at, least, IsIn, NoneEmpty, Kept}
use Rattle.un_prop.specs.Rounds.{HasVars}
use Rattle.un_prop.specs.Parts.{SameAt}
use Rattle.un_prop.specs.Lawful.{Lawful}
use Rattle.un_prop.specs.Steps.{lawful_then}
use Rattle.un_prop.specs.LastLaws.{passes_all}
use Rattle.un_prop.specs.AmongLaws.{has_among, same_var}
use Rattle.un_prop.specs.Looks.{InWords}
use Rattle.un_prop.specs.declared.act.Act.TheVariants.{Always}
use Rattle.un_prop.specs.declared.act.At.TheVariants.{Var}
use Rattle.un_prec.specs.LinkLaws.{at_lawful, at_keeps, close_lawful, close_keeps}
use Rattle.un_prec.specs.Links.{link_holds, link_steps, at_cut, close_test}
use Rattle.un_prec.specs.StepLaws.{link_lawful, link_keeps, link_strong}
use Rattle.un_prop.specs.ChainLaws.{then_kept, known_in, stable_then, least_in}
use Rattle.un_prec.specs.Inside.{end_link}
use Rattle.un_prec.specs.Last.{last_holds, last_steps, LastVars, LastStrong}

module _ (vs : List VarId) (at : VarId) (end : VarId) (h : LastVars vs at end) where
  pub last_looks : (x y : List ℕ) → SameAt vs x y → last_holds at end x ≡ last_holds at end y
  last_looks x y same =
      ap (λ (n : ℕ). nat_eq n (get_or x at.0 0 + 1)) (same_var vs x y same end (h.of_to 0 end (omega arith)))
      ∙ ap (λ (n : ℕ). nat_eq (get_or y end.0 0) (n + 1)) (same_var vs x y same at (h.of_from 0 at (omega arith)))

  close_is_lawful : Lawful vs (at_cut (close_test (end_link at Always end)) (Var at))
  close_is_lawful = at_lawful vs (close_test (end_link at Always end)) (Var at) h.of_from (close_lawful vs (end_link at Always end) h)

  pub last_steps_lawful : Lawful vs (last_steps vs at end)
  last_steps_lawful = lawful_then vs (link_steps vs (end_link at Always end)) (at_cut (close_test (end_link at Always end)) (Var at))
      (link_lawful vs (end_link at Always end) h) close_is_lawful

  in_order : (x : List ℕ) → last_holds at end x ≡ true → link_holds (end_link at Always end) x ≡ true
  in_order x holds = let e : get_or x end.0 0 ≡ get_or x at.0 0 + 1 = grind (arith, nat_tests) in
      let le : get_or x at.0 0 + 1 ≤ get_or x end.0 0 = omega (arith, e) in grind (arith, nat_tests, le)

  pub last_steps_keep : (s : Sets) (x : List ℕ) → HasVars vs s → IsIn x s → last_holds at end x ≡ true → Kept x (last_steps vs at end s)
  last_steps_keep s x k there holds =
      let e : get_or x end.0 0 ≡ get_or x at.0 0 + 1 = grind (arith, nat_tests) in
      then_kept (at_cut (close_test (end_link at Always end)) (Var at)) x (link_steps vs (end_link at Always end) s)
      (link_keeps vs (end_link at Always end) h s x k there (in_order x holds))
      (λ m in_m. let km = known_in vs s m x there in_m k in
      at_keeps vs (close_test (end_link at Always end)) (Var at) h.of_from m x km in_m
      (close_keeps vs (end_link at Always end) h m x km in_m (omega (arith, e))))

  pub last_strong : (s : Sets) → HasVars vs s → NoneEmpty s → InWords s → (length vs ≡ 0 → (x : List ℕ) → last_holds at end x ≡ true)
      → last_steps vs at end s ≡ Some s → LastStrong at end s
  last_strong s k full words grounded e =
      let two = stable_then vs (link_steps vs (end_link at Always end)) (at_cut (close_test (end_link at Always end)) (Var at))
      (link_lawful vs (end_link at Always end) h) close_is_lawful s k full e in
      let a = link_strong vs (end_link at Always end) h s k full words (λ none x. in_order x (grounded none x)) two.0 refl refl in
      let within = has_among vs at s (h.of_from 0 at (omega arith)) k in
      let pass = passes_all (close_test (end_link at Always end) s) at.0 s within two.1 (least (set_at s at.0))
      (least_in (set_at s at.0) (full at.0 within)) in
      let b : least (set_at s end.0) ≤ least (set_at s at.0) + 1 = grind (arith, nat_tests, pass) in
      omega (arith, a, b)
