-- The report of a search has no cause.
use Rattle.std.proofs.Common.{◌≡◌, List, Ok, Err, inl, inr, refl, sym, subst}
use Rattle.std.specs.declared.result.Result.{Result}
use Rattle.un_isa.specs.declared.table.Table.{Table}
use Rattle.un_ir.specs.declared.function.Function.{Function}
use Rattle.un_outside.specs.declared.status.NoCause.{NoCause}
use Rattle.un_model.specs.declared.model.Model.{Model}
use Rattle.un_model.specs.declared.model.Options.{Options}
use Rattle.un_problem.specs.Problems.{IsModelOf}
use Rattle.un_tree.specs.declared.node.Node.{Node}
use Rattle.un_certificate.specs.Certificates.{IsCertificate}
use Rattle.un_report.specs.declared.report.Answered.{Answered}
use Rattle.un_report.specs.declared.report.Answered.TheVariants.{Code, Infeasible, Spent}
use Rattle.un_report.specs.declared.report.Report.{Report}
use Rattle.un_check.specs.Causes.{claim_of, limit_of, FitsAnswer, HasRightBound, HasCause, IsCause, IsRightAnswer, IsTold}
use Rattle.un_check.specs.Sound.{IsSoundAnswer, IsSoundFor}
use Rattle.un_check.proofs.CauseLemmas.{Stage, stage, answer_not, tree_not}
use Rattle.un_check.proofs.OneModel.{model_one}
use Rattle.un_check.proofs.VerdictLemmas.{searched_keeps}

module _ (m : Model) (t : List Node) where
  sound_answer : (a : Answered) → IsSoundAnswer m t a → IsRightAnswer m a
  sound_answer (Code cost bound code s) h = record { solution = h.solution; costs = h.costs; emitted = h.emitted }
  sound_answer Infeasible h = tt
  sound_answer Spent h = tt

  sound_fits : (a : Answered) → IsSoundAnswer m t a → FitsAnswer a t
  sound_fits (Code cost bound code s) h = tt
  sound_fits Infeasible h = h.closed
  sound_fits Spent h = h.some

  sound_bound : (a : Answered) → IsSoundAnswer m t a → HasRightBound m a t
  sound_bound (Code cost bound code s) h = h.bounded
  sound_bound Infeasible h = tt
  sound_bound Spent h = tt

module _ (f : Function) (m : Model) (r : Report) (sound : IsSoundFor m f r) (tree : IsCertificate m (limit_of r.answer) r.tree.nodes.items)
  where
    stage_not : (c : NoCause) → Stage f.name m (claim_of r) c → ⊥
    stage_not c (inl x) = x.1 sound.named
    stage_not c (inr (inl x)) = answer_not m r.answer c x.1 (sound_answer m r.tree.nodes.items r.answer sound.answer)
    stage_not c (inr (inr (inl x))) = tree_not m (limit_of r.answer) r.tree.nodes.items c x.1
        (searched_keeps m (limit_of r.answer) r.tree.nodes.items tree) tree.tree.whole
    stage_not c (inr (inr (inr (inl x)))) =
        x.2 (record { used = sound.used; fits = sound_fits m r.tree.nodes.items r.answer sound.answer })
    stage_not c (inr (inr (inr (inr x)))) = x.3 (sound_bound m r.tree.nodes.items r.answer sound.answer)

    pub search_not : (t : Table) (o : Options) → IsModelOf t f o m → (c : NoCause) → HasCause t f o (claim_of r) c → ⊥
    search_not t o is c h =
        stage_not c (stage f.name m (claim_of r) c
        (subst (λ (n : Model). IsCause f.name n (claim_of r) c) (model_one t f o h.model m h.is_model is) h.cause))

    pub search_told : (t : Table) (o : Options) → IsModelOf t f o m → (told : Result (Unit {0}) NoCause) → IsTold t f o (claim_of r) told → told ≡ Ok tt
    search_told t o is (Ok u) h = refl
    search_told t o is (Err c) h = absurd (search_not t o is c (record { model = h.model; is_model = h.is_model; cause = h.by_model }))

-- the model of a function under other options that are the same
pub model_under : (f : Function) (m : Model) (o : Options) → o ≡ m.options → IsModelOf m.ext.table f m.options m → IsModelOf m.ext.table f o m
model_under f m o same is = subst (λ (p : Options). IsModelOf m.ext.table f p m) (sym same) is
