-- The laws of Before are those of its link.
use Rattle.std.proofs.Common.{ℕ, ◌≡◌, true, List, length, Some}
use Rattle.un_base.specs.declared.ids.VarId.{VarId}
use Rattle.un_domains.specs.Sets.{Sets, IsIn, NoneEmpty, Kept}
use Rattle.un_prop.specs.Rounds.{HasVars}
use Rattle.un_prop.specs.Parts.{SameAt}
use Rattle.un_prop.specs.Lawful.{Lawful}
use Rattle.un_prop.specs.Looks.{InWords}
use Rattle.un_prop.specs.declared.act.Act.{Act}
use Rattle.un_prop.specs.declared.act.At.{At}
use Rattle.un_prec.specs.LinkLaws.{link_looks}
use Rattle.un_prec.specs.StepLaws.{link_lawful, link_keeps, link_strong}
use Rattle.un_prec.specs.Before.{before_link, before_holds, before_steps, BeforeVars, BeforeStrong}

module _ (vs : List VarId) (a : At) (a_on : Act) (b : At) (b_on : Act) (gap : ℕ) (h : BeforeVars vs a a_on b b_on gap) where
  pub before_looks : (x y : List ℕ) → SameAt vs x y → before_holds a a_on b b_on gap x ≡ before_holds a a_on b b_on gap y
  before_looks = link_looks vs (before_link a a_on b b_on gap) h

  pub before_lawful : Lawful vs (before_steps vs a a_on b b_on gap)
  before_lawful = link_lawful vs (before_link a a_on b b_on gap) h

  pub before_keeps : (s : Sets) (x : List ℕ) → HasVars vs s → IsIn x s → before_holds a a_on b b_on gap x ≡ true
      → Kept x (before_steps vs a a_on b b_on gap s)
  before_keeps = link_keeps vs (before_link a a_on b b_on gap) h

  pub before_strong : (s : Sets) → HasVars vs s → NoneEmpty s → InWords s
      → (length vs ≡ 0 → (x : List ℕ) → before_holds a a_on b b_on gap x ≡ true)
      → before_steps vs a a_on b b_on gap s ≡ Some s → BeforeStrong a a_on b b_on gap s
  before_strong = link_strong vs (before_link a a_on b b_on gap) h
