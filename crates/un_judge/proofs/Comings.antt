-- What the lines of a log come to: one verdict, and how it follows line by line.
use Rattle.std.proofs.Common.{ℕ, ◌≡◌, ◌+◌, inl, inr, List, [], ◌∷◌, sym, ap, ◌∙◌, subst}
use Rattle.std.specs.Prelude.{Option}
use Rattle.un_base.specs.Lines.{pieces_of}
use Rattle.un_domains.specs.Sets.{Sets}
use Rattle.un_model.specs.declared.model.Model.{Model}
use Rattle.un_steps.specs.Allowed.{IsAllowed, after}
use Rattle.un_steps.specs.declared.step.Step.{Step}
use Rattle.un_judge.specs.Judged.{HasEmpty, Ends, Goes, IsBad, Comes}
use Rattle.un_judge.specs.Leaves.{LeftComes}
use Rattle.un_judge.specs.Lines.{BeginsWith, IsStepLine, Says, dot_line}
use Rattle.un_judge.specs.declared.leaf.Left.{Left}
use Rattle.un_judge.specs.declared.leaf.Rules.{Rules}
use Rattle.un_judge.specs.declared.line.Line.{Line}
use Rattle.un_judge.specs.declared.line.Line.TheVariants.{Other}
use Rattle.un_judge.specs.declared.verdict.StepVerdict.{StepVerdict}
use Rattle.un_judge.specs.declared.verdict.StepVerdict.TheVariants.{BadStep, Short}
use Rattle.un_judge.proofs.Spellings.{line_once, dot_no_step}

-- ---- one verdict

module _ (rules : ℕ) (m : Model) (limit : Option ℕ) where
  end_or_step : (box : Sets) (line : List ℕ) (s : Step) → Ends box line → Goes rules m limit box line s → ⊥
  end_or_step box line s e g = dot_no_step rules s (subst (λ (l : List ℕ). IsStepLine rules l s) e.dot g.spelled)

  pub comes_once : (n : ℕ) (boxes : List Sets) (lines : List (List ℕ)) (v w : StepVerdict) → Comes rules m limit n boxes lines v
      → Comes rules m limit n boxes lines w → v ≡ w
  comes_once n [] [] v w a b = a ∙ sym b
  comes_once n [] (line ∷ lines) v w a b = a ∙ sym b
  comes_once n (box ∷ boxes) [] v w a b = a ∙ sym b
  comes_once n (box ∷ boxes) (line ∷ lines) v w (inl a) (inl b) = comes_once (n + 1) boxes lines v w a.1 b.1
  comes_once n (box ∷ boxes) (line ∷ lines) v w (inl a) (inr (inl b)) = absurd (end_or_step box line b.0 a.0 b.1)
  comes_once n (box ∷ boxes) (line ∷ lines) v w (inl a) (inr (inr b)) = let k = b.0 in absurd (k.no_end a.0)
  comes_once n (box ∷ boxes) (line ∷ lines) v w (inr (inl a)) (inl b) = absurd (end_or_step box line a.0 b.0 a.1)
  comes_once n (box ∷ boxes) (line ∷ lines) v w (inr (inl a)) (inr (inl b)) =
      let g = a.1 in
      let h = b.1 in
      let same : b.0 ≡ a.0 = line_once rules line b.0 a.0 h.spelled g.spelled in
      comes_once (n + 1) (after box a.0 ∷ boxes) lines v w a.2
      (subst (λ (s : Step). Comes rules m limit (n + 1) (after box s ∷ boxes) lines w) same b.2)
  comes_once n (box ∷ boxes) (line ∷ lines) v w (inr (inl a)) (inr (inr b)) = let k = b.0 in absurd (k.no_step a.0 a.1)
  comes_once n (box ∷ boxes) (line ∷ lines) v w (inr (inr a)) (inl b) = let k = a.0 in absurd (k.no_end b.0)
  comes_once n (box ∷ boxes) (line ∷ lines) v w (inr (inr a)) (inr (inl b)) = let k = a.0 in absurd (k.no_step b.0 b.1)
  comes_once n (box ∷ boxes) (line ∷ lines) v w (inr (inr a)) (inr (inr b)) = a.1 ∙ sym b.1

  -- ---- bad lines

  pub bad_dot : (box : Sets) (line : List ℕ) → line ≡ dot_line → (HasEmpty box → ⊥) → IsBad rules m limit box line
  bad_dot box line dot full = record {
    no_end = λ e. full e.empty;
    no_step = λ s g. dot_no_step rules s (subst (λ (l : List ℕ). IsStepLine rules l s) dot g.spelled);
  }

  pub bad_step : (box : Sets) (line : List ℕ) (s : Step) → IsStepLine rules line s → (IsAllowed m limit box s → ⊥)
      → IsBad rules m limit box line
  bad_step box line s f never = record {
    no_end = λ e. dot_no_step rules s (subst (λ (l : List ℕ). IsStepLine rules l s) e.dot f);
    no_step = λ t g. never (subst (IsAllowed m limit box) (line_once rules line t s g.spelled f) g.allowed);
  }

  pub bad_other : (box : Sets) (line : List ℕ) → Says rules line Other → IsBad rules m limit box line
  bad_other box line says = record { no_end = λ e. says.0 e.dot; no_step = λ s g. says.1 s g.spelled }

-- ---- line by line

module _ (r : Rules) (left : Left) (line : Line) (rest : List ℕ) (h : BeginsWith r.rules left.text.now line rest) (read : ℕ)
    (next : read ≡ left.read + 1) where
  first_is : (boxes : List Sets) (v : StepVerdict) → Comes r.rules r.m.now r.limit (left.read + 1) boxes (h.bytes ∷ pieces_of rest) v
      → LeftComes r left boxes v
  first_is boxes v c = subst (λ (lines : List (List ℕ)). Comes r.rules r.m.now r.limit (left.read + 1) boxes lines v) (sym h.pieces) c

  later_is : (boxes : List Sets) (v : StepVerdict) → Comes r.rules r.m.now r.limit (read + 1) boxes (pieces_of rest) v
      → Comes r.rules r.m.now r.limit ((left.read + 1) + 1) boxes (pieces_of rest) v
  later_is boxes v c = subst (λ (n : ℕ). Comes r.rules r.m.now r.limit (n + 1) boxes (pieces_of rest) v) next c

  -- a dot goes on to the next leaf
  pub line_ends : (box : Sets) → Ends box h.bytes → (boxes : List Sets) (v : StepVerdict)
      → Comes r.rules r.m.now r.limit (read + 1) boxes (pieces_of rest) v → LeftComes r left (box ∷ boxes) v
  line_ends box e boxes v c = first_is (box ∷ boxes) v (inl (e, later_is boxes v c))

  -- a step goes on with what it leaves
  pub line_goes : (box now : Sets) (s : Step) → Goes r.rules r.m.now r.limit box h.bytes s → now ≡ after box s → (boxes : List Sets)
      (v : StepVerdict) → Comes r.rules r.m.now r.limit (read + 1) (now ∷ boxes) (pieces_of rest) v → LeftComes r left (box ∷ boxes) v
  line_goes box now s g is boxes v c =
      first_is (box ∷ boxes) v (inr (inl (
        s,
        g,
        subst (λ (b : Sets).
            Comes r.rules r.m.now r.limit ((left.read + 1) + 1) (b ∷ boxes) (pieces_of rest) v) is (later_is (now ∷ boxes) v c),
      )))

  -- a bad line is the verdict
  pub line_bad : (box : Sets) → IsBad r.rules r.m.now r.limit box h.bytes → (boxes : List Sets) (v : StepVerdict) → v ≡ BadStep read
      → LeftComes r left (box ∷ boxes) v
  line_bad box bad boxes v e = first_is (box ∷ boxes) v (inr (inr (bad, e ∙ ap BadStep next)))

-- nothing is left, but a leaf
pub line_none : (r : Rules) (left : Left) (box : Sets) (boxes : List Sets) (v : StepVerdict) → left.text.now ≡ [] → v ≡ Short
    → LeftComes r left (box ∷ boxes) v
line_none r left box boxes v none e =
    subst (λ (t : List ℕ). Comes r.rules r.m.now r.limit (left.read + 1) (box ∷ boxes) (pieces_of t) v) (sym none) e
