-- A report has one first cause, or none.
use Rattle.std.proofs.Common.{ℕ, ◌≡◌, ◌≢◌, ◌⊎◌, ◌↔◌, Bool, true, false, List, [], ◌∷◌, Ok, Err, All, inl, inr, refl, sym, ap, subst, ◌∙◌, IsTrue}
use Rattle.std.specs.declared.option.Option.{Option}
use Rattle.std.specs.declared.result.Result.{Result}
use Rattle.un_isa.specs.declared.table.Table.{Table}
use Rattle.un_ir.specs.declared.function.Function.{Function}
use Rattle.un_outside.specs.declared.status.NoCause.{NoCause}
use Rattle.un_outside.specs.declared.status.NoCause.TheVariants.{Name, Solution as Numbers, Cost, Listing, Strict, Split as Parted, Alive, Closed as Refuted}
use Rattle.un_outside.specs.declared.status.NoCause.TheVariants.{Mirror, Short as Torn, Spent as Leaves, Bound}
use Rattle.un_packet.specs.declared.code.Code.{Code as CodeValue}
use Rattle.un_model.specs.Solutions.{IsSolution, Tells, broken_clauses, latency_gap}
use Rattle.un_model.specs.Schedules.{schedule_of}
use Rattle.un_model.specs.declared.model.Model.{Model}
use Rattle.un_model.specs.declared.model.Options.{Options}
use Rattle.un_model.specs.declared.model.Solution.{Solution}
use Rattle.un_model.specs.declared.verdict.Verdict.{Verdict}
use Rattle.un_violations.proofs.Verdicts.{unbroken}
use Rattle.un_tree.specs.declared.node.Node.{Node}
use Rattle.un_certificate.specs.Joints.{visits_in, IsTreeIn}
use Rattle.un_report.specs.declared.report.Answered.{Answered}
use Rattle.un_report.specs.declared.report.Answered.TheVariants.{Code, Infeasible, Spent}
use Rattle.un_check.specs.Causes.{Claim, limit_of, IsFirstBroken, IsRightAnswer, IsCodeCause, IsAnswerCause, IsRightTree, IsTreeCause}
use Rattle.un_check.specs.Causes.{HasRightLeaves, HasRightBound, IsRightHead, IsRightBody, IsRight, IsCause, IsToldBy, IsTold}
use Rattle.un_check.specs.Verdicts.{Keeps}
use Rattle.un_check.specs.declared.verdict.TreeVerdict.TheVariants.{NotStrict, NotSplit, NotAlive, NotClosed}
use Rattle.un_check.proofs.OneModel.{model_one}
use Rattle.un_check.proofs.VerdictLemmas.{first_one, first_not}

-- ---- the numbers, the cost and the listing

same_test : (P : Type 0) (a b : Bool) → IsTrue a ↔ P → IsTrue b ↔ P → a ≡ b
same_test P true true f g = refl
same_test P false false f g = refl
same_test P true false f g = let e = g.1 (f.0 refl) in cc e
same_test P false true f g = let e = f.1 (g.0 refl) in cc e

module _ (m : Model) (s : Solution) where
  abbrev Told : Verdict → Type 0
  Told v = Tells (latency_gap m.ext.table) m.domains m s.values (schedule_of m s.values) v

  clauses_one : (v w : Verdict) → Told v → Told w → broken_clauses v ≡ broken_clauses w
  clauses_one v w x y = cc (
    same_test _ v.domains w.domains x.in_domains y.in_domains,
    same_test _ v.zeros w.zeros x.zeros y.zeros,
    same_test _ v.choices w.choices x.choices y.choices,
    same_test _ v.spaces w.spaces x.spaces y.spaces,
    same_test _ v.latencies w.latencies x.latencies y.latencies,
    same_test _ v.memory w.memory x.memory y.memory,
    same_test _ v.registers w.registers x.registers y.registers,
    same_test _ v.packets w.packets x.packets y.packets,
    same_test _ v.homes w.homes x.homes y.homes,
    same_test _ v.frame w.frame x.frame y.frame,
  )

  -- values break one first rule
  broken_one : (k j : ℕ) → IsFirstBroken m s k → IsFirstBroken m s j → k ≡ j
  broken_one k j x y =
      let e : k ∷ x.others ≡ j ∷ y.others =
      x.lists.1.1 ∙ (clauses_one x.lists.0 y.lists.0 x.lists.1.0 y.lists.1.0 ∙ sym y.lists.1.1) in
      cc e

  -- a solution breaks none
  broken_not : (k : ℕ) → IsFirstBroken m s k → IsSolution m s → ⊥
  broken_not k x is =
      let e : k ∷ x.others ≡ [] = x.lists.1.1 ∙
      unbroken (latency_gap m.ext.table) m.domains m s.values (schedule_of m s.values) x.lists.0 x.lists.1.0 is in
      cc e

  code_one : (cost : ℕ) (code : CodeValue) (c d : NoCause) → IsCodeCause m cost code s c → IsCodeCause m cost code s d → c ≡ d
  code_one cost code (Numbers k) (Numbers j) x y = ap Numbers (broken_one k j x y)
  code_one cost code (Numbers k) Cost x y = absurd (broken_not k x y.0)
  code_one cost code (Numbers k) Listing x y = absurd (broken_not k x y.0)
  code_one cost code Cost (Numbers j) x y = absurd (broken_not j y x.0)
  code_one cost code Cost Cost x y = refl
  code_one cost code Cost Listing x y = absurd (x.1 y.1)
  code_one cost code Listing (Numbers j) x y = absurd (broken_not j y x.0)
  code_one cost code Listing Cost x y = absurd (y.1 x.1)
  code_one cost code Listing Listing x y = refl
  code_one cost code (Numbers k) _ x y = absurd y
  code_one cost code Cost _ x y = absurd y
  code_one cost code Listing _ x y = absurd y
  code_one cost code _ d x y = absurd x

module _ (m : Model) where
  answer_one : (a : Answered) (c d : NoCause) → IsAnswerCause m a c → IsAnswerCause m a d → c ≡ d
  answer_one (Code cost bound code s) c d x y = code_one m s cost code c d x y
  answer_one Infeasible c d x y = absurd x
  answer_one Spent c d x y = absurd x

  pub answer_not : (a : Answered) (c : NoCause) → IsAnswerCause m a c → IsRightAnswer m a → ⊥
  answer_not (Code cost bound code s) (Numbers k) x r = broken_not m s k x r.solution
  answer_not (Code cost bound code s) Cost x r = x.1 r.costs
  answer_not (Code cost bound code s) Listing x r = x.2 r.emitted
  answer_not (Code cost bound code s) _ x r = x
  answer_not Infeasible c x r = x
  answer_not Spent c x r = x

  -- ---- the tree

  module _ (limit : Option ℕ) (t : List Node) where
    tree_one : (c d : NoCause) → IsTreeCause m limit t c → IsTreeCause m limit t d → c ≡ d
    tree_one (Strict i) (Strict j) x y = let e = first_one m limit (visits_in m t) (NotStrict i) (NotStrict j) x y in cc e
    tree_one (Strict i) (Parted j) x y = let e = first_one m limit (visits_in m t) (NotStrict i) (NotSplit j) x y in cc e
    tree_one (Strict i) (Alive j) x y = let e = first_one m limit (visits_in m t) (NotStrict i) (NotAlive j) x y in cc e
    tree_one (Strict i) (Refuted j) x y = let e = first_one m limit (visits_in m t) (NotStrict i) (NotClosed j) x y in cc e
    tree_one (Strict i) Torn x y = absurd (first_not m limit (visits_in m t) (NotStrict i) x y.kept)
    tree_one (Parted i) (Strict j) x y = let e = first_one m limit (visits_in m t) (NotSplit i) (NotStrict j) x y in cc e
    tree_one (Parted i) (Parted j) x y = let e = first_one m limit (visits_in m t) (NotSplit i) (NotSplit j) x y in cc e
    tree_one (Parted i) (Alive j) x y = let e = first_one m limit (visits_in m t) (NotSplit i) (NotAlive j) x y in cc e
    tree_one (Parted i) (Refuted j) x y = let e = first_one m limit (visits_in m t) (NotSplit i) (NotClosed j) x y in cc e
    tree_one (Parted i) Torn x y = absurd (first_not m limit (visits_in m t) (NotSplit i) x y.kept)
    tree_one (Alive i) (Strict j) x y = let e = first_one m limit (visits_in m t) (NotAlive i) (NotStrict j) x y in cc e
    tree_one (Alive i) (Parted j) x y = let e = first_one m limit (visits_in m t) (NotAlive i) (NotSplit j) x y in cc e
    tree_one (Alive i) (Alive j) x y = let e = first_one m limit (visits_in m t) (NotAlive i) (NotAlive j) x y in cc e
    tree_one (Alive i) (Refuted j) x y = let e = first_one m limit (visits_in m t) (NotAlive i) (NotClosed j) x y in cc e
    tree_one (Alive i) Torn x y = absurd (first_not m limit (visits_in m t) (NotAlive i) x y.kept)
    tree_one (Refuted i) (Strict j) x y = let e = first_one m limit (visits_in m t) (NotClosed i) (NotStrict j) x y in cc e
    tree_one (Refuted i) (Parted j) x y = let e = first_one m limit (visits_in m t) (NotClosed i) (NotSplit j) x y in cc e
    tree_one (Refuted i) (Alive j) x y = let e = first_one m limit (visits_in m t) (NotClosed i) (NotAlive j) x y in cc e
    tree_one (Refuted i) (Refuted j) x y = let e = first_one m limit (visits_in m t) (NotClosed i) (NotClosed j) x y in cc e
    tree_one (Refuted i) Torn x y = absurd (first_not m limit (visits_in m t) (NotClosed i) x y.kept)
    tree_one Torn (Strict j) x y = absurd (first_not m limit (visits_in m t) (NotStrict j) y x.kept)
    tree_one Torn (Parted j) x y = absurd (first_not m limit (visits_in m t) (NotSplit j) y x.kept)
    tree_one Torn (Alive j) x y = absurd (first_not m limit (visits_in m t) (NotAlive j) y x.kept)
    tree_one Torn (Refuted j) x y = absurd (first_not m limit (visits_in m t) (NotClosed j) y x.kept)
    tree_one Torn Torn x y = refl
    tree_one (Strict i) _ x y = absurd y
    tree_one (Parted i) _ x y = absurd y
    tree_one (Alive i) _ x y = absurd y
    tree_one (Refuted i) _ x y = absurd y
    tree_one Torn _ x y = absurd y
    tree_one _ d x y = absurd x

    -- one whole tree that keeps all points has no cause
    pub tree_not : (c : NoCause) → IsTreeCause m limit t c → All (Keeps m limit) (visits_in m t) → IsTreeIn m t → ⊥
    tree_not (Strict i) x kept whole = first_not m limit (visits_in m t) (NotStrict i) x kept
    tree_not (Parted i) x kept whole = first_not m limit (visits_in m t) (NotSplit i) x kept
    tree_not (Alive i) x kept whole = first_not m limit (visits_in m t) (NotAlive i) x kept
    tree_not (Refuted i) x kept whole = first_not m limit (visits_in m t) (NotClosed i) x kept
    tree_not Torn x kept whole = x.torn whole
    tree_not _ x kept whole = x

    right_not : (c : NoCause) → IsTreeCause m limit t c → IsRightTree m limit t → ⊥
    right_not c x r = tree_not c x r.yes.kept r.yes.whole

-- ---- a report

module _ (name : List ℕ) (m : Model) (r : Claim) where
  -- a cause, by what is right before it
  abbrev pub Stage : NoCause → Type 0
  Stage c = ((c ≡ Name) × (r.name ≢ name)) ⊎ (((r.name ≡ name) × IsAnswerCause m r.answer c) ⊎
      ((IsRightHead name m r × IsTreeCause m (limit_of r.answer) r.tree c) ⊎
      (((c ≡ Leaves) × IsRightBody name m r × (HasRightLeaves m r.nodes r.answer r.tree → ⊥)) ⊎
      ((c ≡ Bound) × IsRightBody name m r × HasRightLeaves m r.nodes r.answer r.tree × (HasRightBound m r.answer r.tree → ⊥)))))

  pub stage : (c : NoCause) → IsCause name m r c → Stage c
  stage Name x = inl (refl, x)
  stage (Numbers k) x = inr (inl x)
  stage Cost x = inr (inl x)
  stage Listing x = inr (inl x)
  stage (Strict i) x = inr (inr (inl x))
  stage (Parted i) x = inr (inr (inl x))
  stage (Alive i) x = inr (inr (inl x))
  stage (Refuted i) x = inr (inr (inl x))
  stage (Mirror i) x = absurd x
  stage Torn x = inr (inr (inl x))
  stage Leaves x = inr (inr (inr (inl (refl, x.0, x.1))))
  stage Bound x = inr (inr (inr (inr (refl, x.0, x.1, x.2))))

  stage_one : (c d : NoCause) → Stage c → Stage d → c ≡ d
  stage_one c d (inl x) (inl y) = x.0 ∙ sym y.0
  stage_one c d (inl x) (inr (inl y)) = absurd (x.1 y.0)
  stage_one c d (inl x) (inr (inr (inl y))) = absurd (x.1 y.0.named)
  stage_one c d (inl x) (inr (inr (inr (inl y)))) = absurd (x.1 y.1.head.named)
  stage_one c d (inl x) (inr (inr (inr (inr y)))) = absurd (x.1 y.1.head.named)
  stage_one c d (inr (inl x)) (inl y) = absurd (y.1 x.0)
  stage_one c d (inr (inl x)) (inr (inl y)) = answer_one m r.answer c d x.1 y.1
  stage_one c d (inr (inl x)) (inr (inr (inl y))) = absurd (answer_not m r.answer c x.1 y.0.answer)
  stage_one c d (inr (inl x)) (inr (inr (inr (inl y)))) = absurd (answer_not m r.answer c x.1 y.1.head.answer)
  stage_one c d (inr (inl x)) (inr (inr (inr (inr y)))) = absurd (answer_not m r.answer c x.1 y.1.head.answer)
  stage_one c d (inr (inr (inl x))) (inl y) = absurd (y.1 x.0.named)
  stage_one c d (inr (inr (inl x))) (inr (inl y)) = absurd (answer_not m r.answer d y.1 x.0.answer)
  stage_one c d (inr (inr (inl x))) (inr (inr (inl y))) = tree_one m (limit_of r.answer) r.tree c d x.1 y.1
  stage_one c d (inr (inr (inl x))) (inr (inr (inr (inl y)))) = absurd (right_not m (limit_of r.answer) r.tree c x.1 y.1.tree)
  stage_one c d (inr (inr (inl x))) (inr (inr (inr (inr y)))) = absurd (right_not m (limit_of r.answer) r.tree c x.1 y.1.tree)
  stage_one c d (inr (inr (inr (inl x)))) (inl y) = absurd (y.1 x.1.head.named)
  stage_one c d (inr (inr (inr (inl x)))) (inr (inl y)) = absurd (answer_not m r.answer d y.1 x.1.head.answer)
  stage_one c d (inr (inr (inr (inl x)))) (inr (inr (inl y))) = absurd (right_not m (limit_of r.answer) r.tree d y.1 x.1.tree)
  stage_one c d (inr (inr (inr (inl x)))) (inr (inr (inr (inl y)))) = x.0 ∙ sym y.0
  stage_one c d (inr (inr (inr (inl x)))) (inr (inr (inr (inr y)))) = absurd (x.2 y.2)
  stage_one c d (inr (inr (inr (inr x)))) (inl y) = absurd (y.1 x.1.head.named)
  stage_one c d (inr (inr (inr (inr x)))) (inr (inl y)) = absurd (answer_not m r.answer d y.1 x.1.head.answer)
  stage_one c d (inr (inr (inr (inr x)))) (inr (inr (inl y))) = absurd (right_not m (limit_of r.answer) r.tree d y.1 x.1.tree)
  stage_one c d (inr (inr (inr (inr x)))) (inr (inr (inr (inl y)))) = absurd (y.2 x.2)
  stage_one c d (inr (inr (inr (inr x)))) (inr (inr (inr (inr y)))) = x.0 ∙ sym y.0

  -- a report that is right has no cause
  none_right : (c : NoCause) → Stage c → IsRight name m r → ⊥
  none_right c (inl x) h = x.1 h.body.head.named
  none_right c (inr (inl x)) h = answer_not m r.answer c x.1 h.body.head.answer
  none_right c (inr (inr (inl x))) h = right_not m (limit_of r.answer) r.tree c x.1 h.body.tree
  none_right c (inr (inr (inr (inl x)))) h = x.2 h.leaves
  none_right c (inr (inr (inr (inr x)))) h = x.3 h.bound

  told_one : (a b : Result (Unit {0}) NoCause) → IsToldBy name m r a → IsToldBy name m r b → a ≡ b
  told_one (Ok u) (Ok v) x y = refl
  told_one (Ok u) (Err d) x y = absurd (none_right d (stage d y) x)
  told_one (Err c) (Ok v) x y = absurd (none_right c (stage c x) y)
  told_one (Err c) (Err d) x y = ap Err (stage_one c d (stage c x) (stage d y))

-- there is one answer to a report
pub answer_told : (t : Table) (f : Function) (o : Options) (r : Claim) (a b : Result (Unit {0}) NoCause) → IsTold t f o r a
    → IsTold t f o r b → a ≡ b
answer_told t f o r a b x y =
    told_one f.name y.model r a b
    (subst (λ (m : Model). IsToldBy f.name m r a) (model_one t f o x.model y.model x.is_model y.is_model) x.by_model) y.by_model
