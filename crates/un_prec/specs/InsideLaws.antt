-- The laws of Inside are those of its two links.
use Rattle.std.proofs.Common.{ℕ, ◌≡◌, ◌∙◌, Bool, true, ◌&&◌, List, length, Some, refl, ap, arith}
use Rattle.un_base.specs.declared.ids.VarId.{VarId}
use Rattle.un_domains.specs.Sets.{Sets, IsIn, NoneEmpty, Kept}
use Rattle.un_prop.specs.Rounds.{HasVars}
use Rattle.un_prop.specs.Parts.{SameAt}
use Rattle.un_prop.specs.Lawful.{Lawful}
use Rattle.un_prop.specs.Steps.{lawful_then}
use Rattle.un_prop.specs.Looks.{InWords}
use Rattle.un_prop.specs.declared.act.Act.{Act}
use Rattle.un_prec.specs.LinkLaws.{link_looks}
use Rattle.un_prop.specs.LookLaws.{firsts}
use Rattle.un_prec.specs.Links.{link_holds, link_steps}
use Rattle.un_prec.specs.StepLaws.{link_lawful, link_keeps, link_strong}
use Rattle.un_prop.specs.ChainLaws.{then_kept, known_in, stable_then}
use Rattle.un_prec.specs.Inside.{start_link, end_link, inside_holds, inside_steps, InsideVars, InsideStrong}

module _ (vs : List VarId) (at : VarId) (on : Act) (end : VarId) (h : InsideVars vs at on end) where
  pub inside_looks : (x y : List ℕ) → SameAt vs x y → inside_holds at on end x ≡ inside_holds at on end y
  inside_looks x y same =
      ap (λ (b : Bool). b && link_holds (end_link at on end) x) (link_looks vs (start_link at on) h.of_start x y same)
      ∙ ap (λ (b : Bool). link_holds (start_link at on) y && b) (link_looks vs (end_link at on end) h.of_end x y same)

  pub inside_lawful : Lawful vs (inside_steps vs at on end)
  inside_lawful = lawful_then vs (link_steps vs (start_link at on)) (link_steps vs (end_link at on end))
      (link_lawful vs (start_link at on) h.of_start) (link_lawful vs (end_link at on end) h.of_end)

  pub inside_keeps : (s : Sets) (x : List ℕ) → HasVars vs s → IsIn x s → inside_holds at on end x ≡ true
      → Kept x (inside_steps vs at on end s)
  inside_keeps s x k there holds =
      let two = firsts (link_holds (start_link at on) x) (link_holds (end_link at on end) x) holds in
      then_kept (link_steps vs (end_link at on end)) x (link_steps vs (start_link at on) s)
      (link_keeps vs (start_link at on) h.of_start s x k there two.0)
      (λ m in_m. link_keeps vs (end_link at on end) h.of_end m x (known_in vs s m x there in_m k) in_m two.1)

  pub inside_strong : (s : Sets) → HasVars vs s → NoneEmpty s → InWords s → (length vs ≡ 0 → (x : List ℕ) → inside_holds at on end x ≡ true)
      → inside_steps vs at on end s ≡ Some s → InsideStrong at on end s
  inside_strong s k full words grounded e surely =
      let two = stable_then vs (link_steps vs (start_link at on)) (link_steps vs (end_link at on end))
      (link_lawful vs (start_link at on) h.of_start) (link_lawful vs (end_link at on end) h.of_end) s k full e in
      let a = link_strong vs (start_link at on) h.of_start s k full words
      (λ none x. (firsts (link_holds (start_link at on) x) (link_holds (end_link at on end) x) (grounded none x)).0) two.0 refl surely
      in
      let b = link_strong vs (end_link at on end) h.of_end s k full words
      (λ none x. (firsts (link_holds (start_link at on) x) (link_holds (end_link at on end) x) (grounded none x)).1) two.1 surely refl
      in
      (omega (arith, a), b)
