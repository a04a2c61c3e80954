-- A report that is right is sound.
use Rattle.std.proofs.Common.{ℕ, ◌≡◌, ◌∙◌, List, Ok, Err, MatchResult, OnOk, ap, subst}
use Rattle.std.specs.declared.result.Result.{Result}
use Rattle.un_ir.specs.declared.function.Function.{Function}
use Rattle.un_outside.specs.declared.status.NoCause.{NoCause}
use Rattle.un_model.specs.declared.model.Model.{Model}
use Rattle.un_tree.specs.declared.node.Node.{Node}
use Rattle.un_certificate.specs.Certificates.{IsStanding}
use Rattle.un_report.specs.Views.{IsViewOf}
use Rattle.un_report.specs.declared.report.Answered.{Answered}
use Rattle.un_report.specs.declared.report.Answered.TheVariants.{Code, Infeasible, Spent}
use Rattle.un_report.specs.declared.report.Report.{Report}
use Rattle.un_report.specs.declared.view.ReportView.{ReportView}
use Rattle.un_check.specs.Causes.{Claim, claim_of, claim_with, limit_of, FitsAnswer, HasRightBound, IsRight, IsRightAnswer, IsToldBy}
use Rattle.un_check.specs.Sound.{IsSoundAnswer, IsSoundFor}

-- what an answer tells where it is a cause, and where it is none
pub told_err : (P : Type 0) (Q : NoCause → Type 0) (r : Result (Unit {0}) NoCause) (c : NoCause) → MatchResult r (λ _. P) Q → r ≡ Err c → Q c
told_err P Q r c h is = subst (λ (k : Result (Unit {0}) NoCause). MatchResult k (λ _. P) Q) is h

pub told_ok : (P : Type 0) (Q : NoCause → Type 0) (r : Result (Unit {0}) NoCause) → MatchResult r (λ _. P) Q → r ≡ Ok tt → P
told_ok P Q r h is = subst (λ (k : Result (Unit {0}) NoCause). MatchResult k (λ _. P) Q) is h

module _ (m : Model) (t : List Node) where
  answer_sound : (a : Answered) → IsRightAnswer m a → IsStanding m (limit_of a) t → FitsAnswer a t → HasRightBound m a t → IsSoundAnswer m t a
  answer_sound (Code cost bound code s) right stands fits bounded =
      record { solution = right.solution; costs = right.costs; emitted = right.emitted; standing = stands; bounded = bounded }
  answer_sound Infeasible right stands fits bounded = record { standing = stands; closed = fits }
  answer_sound Spent right stands fits bounded = record { standing = stands; some = fits }

module _ (f : Function) (m : Model) where
  right_sound : (r : Report) → IsRight f.name m (claim_of r) → IsStanding m (limit_of r.answer) r.tree.nodes.items → IsSoundFor m f r
  right_sound r h stands = record {
    named = h.body.head.named;
    used = h.leaves.used;
    answer = answer_sound m r.tree.nodes.items r.answer h.body.head.answer stands h.leaves.fits h.bound;
  }

  pub sound_told : (r : Report) (told : Result (Unit {0}) NoCause) → IsToldBy f.name m (claim_of r) told
      → OnOk told (IsStanding m (limit_of r.answer) r.tree.nodes.items) → OnOk told (IsSoundFor m f r)
  sound_told r (Ok u) h stands = right_sound r h stands
  sound_told r (Err c) h stands = tt

  -- a view claims what its report claims
  same_claim : (r : Report) (v : ReportView) → IsViewOf r v → claim_with v r.tree.nodes.items ≡ claim_of r
  same_claim r v is =
      ap (λ (name : List ℕ). record { name = name; nodes = v.nodes; answer = v.answer; tree = r.tree.nodes.items }) is.name
      ∙ (ap (λ (n : ℕ). record { name = r.name; nodes = n; answer = v.answer; tree = r.tree.nodes.items }) is.nodes
      ∙ ap (λ (a : Answered). record { name = r.name; nodes = r.nodes; answer = a; tree = r.tree.nodes.items }) is.answer)

  pub view_sound : (r : Report) (v : ReportView) (told : Result (Unit {0}) NoCause) → IsViewOf r v
      → IsToldBy f.name m (claim_with v r.tree.nodes.items) told → OnOk told (IsStanding m (limit_of v.answer) r.tree.nodes.items)
      → OnOk told (IsSoundFor m f r)
  view_sound r v told is h stands =
      sound_told r told (subst (λ (c : Claim). IsToldBy f.name m c told) (same_claim r v is) h)
      (subst (λ (a : Answered). OnOk told (IsStanding m (limit_of a) r.tree.nodes.items)) is.answer stands)
