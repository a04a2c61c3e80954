-- Lines that are written: they are those of allowed steps, and a log goes on behind them.
use Rattle.std.proofs.Common.{ℕ, ◌≡◌, ◌≢◌, ◌+◌, ◌<◌, ◌^◌, List, [], ◌∷◌, ◌++◌, inl, inr, refl, sym, ap, ◌∙◌, subst, decimal}
use Rattle.std.proofs.Common.{append_assoc, append-nil, arith}
use Rattle.std.specs.List.{AllByRecursion}
use Rattle.std.proofs.lemmas.List.Elements.{All-from_recursion}
use Rattle.un_base.specs.Lines.{pieces_of}
use Rattle.un_base.proofs.LineLaws.{pieces_of-line}
use Rattle.un_domains.specs.Sets.{Sets}
use Rattle.un_tree.proofs.NodeLines.{digits_apart}
use Rattle.un_steps.specs.Allowed.{IsAllowed, after}
use Rattle.un_steps.specs.declared.step.Step.{Step}
use Rattle.un_judge.specs.Judged.{Comes, HasEmpty}
use Rattle.un_judge.specs.Lines.{Fits, rule_number, numbered, step_text, step_line, dot_line}
use Rattle.un_judge.specs.declared.leaf.Rules.{Rules}
use Rattle.un_judge.specs.declared.verdict.StepVerdict.TheVariants.{Yes}
use Rattle.un_judge.proofs.Spellings.{rule_small}
use Rattle.un_logs.specs.Goods.{IsGood, Leads, Closes, Writes, Ends}

-- ---- no line feed before the end

free_append : (xs ys : List ℕ) → AllByRecursion (λ y. y ≢ 10) xs → AllByRecursion (λ y. y ≢ 10) ys → AllByRecursion (λ y. y ≢ 10) (xs ++ ys)
free_append [] ys a b = b
free_append (x ∷ xs) ys a b = (a.0, free_append xs ys a.1 b)

free_number : (n : ℕ) → n < 2 ^ 32 → AllByRecursion (λ y. y ≢ 10) (decimal n)
free_number n small = digits_apart 10 n (omega arith) (omega (arith, small))

free_numbered : (n : ℕ) (rest : List ℕ) → n < 2 ^ 32 → AllByRecursion (λ y. y ≢ 10) rest → AllByRecursion (λ y. y ≢ 10) (numbered n rest)
free_numbered n rest small h = free_append (decimal n) (32 ∷ rest) (free_number n small) ((λ e. omega (arith, e)), h)

step_free : (rules : ℕ) (s : Step) → Fits rules s → AllByRecursion (λ y. y ≢ 10) (step_text s)
step_free rules s fits =
    free_numbered (rule_number s.rule) _ (rule_small s.rule) (free_numbered s.place _ fits.place (free_numbered s.var.0 _ fits.var
    (free_numbered s.first _ fits.first (free_number s.last fits.last))))

-- ---- lines

step_pieces : (rules : ℕ) (s : Step) (rest : List ℕ) → Fits rules s → pieces_of (step_line s ++ rest) ≡ step_line s ∷ pieces_of rest
step_pieces rules s rest fits =
    ap pieces_of (append_assoc (step_text s) (10 ∷ []) rest)
    ∙ pieces_of-line (step_text s) rest (All-from_recursion (λ y. y ≢ 10) (step_text s) (step_free rules s fits))

-- a step that is allowed
pub step_leads : (r : Rules) (old : Sets) (s : Step) → Fits r.rules s → IsAllowed r.m.now r.limit old s
    → Leads r old (after old s) (step_line s)
step_leads r old s fits allowed boxes rest good n =
    subst (λ (lines : List (List ℕ)). Comes r.rules r.m.now r.limit n (old ∷ boxes) lines Yes) (sym (step_pieces r.rules s rest fits))
    (inr (inl (s, record { spelled = record { fits = fits; spelled = refl }; allowed = allowed }, good (n + 1))))

-- a dot where some set is empty
pub dot_closes : (r : Rules) (box : Sets) → HasEmpty box → Closes r box dot_line
dot_closes r box empty boxes rest good n = inl (record { dot = refl; empty = empty }, good (n + 1))

-- ---- one after another

pub writes_none : (r : Rules) (box : Sets) (text : List ℕ) → Writes r box box text text
writes_none r box text = record { part = []; grown = sym (append-nil text); leads = λ boxes rest good. good }

pub writes_then : (r : Rules) (a b c : Sets) (x y z : List ℕ) → Writes r a b x y → Writes r b c y z → Writes r a c x z
writes_then r a b c x y z h k = record {
  part = h.part ++ k.part;
  grown = k.grown ∙ (ap (λ (t : List ℕ). t ++ k.part) h.grown ∙ append_assoc x h.part k.part);
  leads = λ boxes rest good.
      subst (IsGood r (a ∷ boxes)) (sym (append_assoc h.part k.part rest)) (h.leads boxes (k.part ++ rest) (k.leads boxes rest good));
}

pub writes_step : (r : Rules) (old new : Sets) (s : Step) (x y : List ℕ) → Fits r.rules s → IsAllowed r.m.now r.limit old s
    → new ≡ after old s → y ≡ x ++ step_line s → Writes r old new x y
writes_step r old new s x y fits allowed is grown =
    subst (λ (b : Sets). Writes r old b x y) (sym is)
    (record { part = step_line s; grown = grown; leads = step_leads r old s fits allowed })

pub writes_dot : (r : Rules) (a b : Sets) (x y z : List ℕ) → Writes r a b x y → HasEmpty b → z ≡ y ++ dot_line → Ends r a x z
writes_dot r a b x y z h empty grown = record {
  part = h.part ++ dot_line;
  grown = grown ∙ (ap (λ (t : List ℕ). t ++ dot_line) h.grown ∙ append_assoc x h.part dot_line);
  closes = λ boxes rest good.
      subst (IsGood r (a ∷ boxes)) (sym (append_assoc h.part dot_line rest))
      (h.leads boxes (dot_line ++ rest) (dot_closes r b empty boxes rest good));
}
