-- Lines of step logs: each step has its own.
use Rattle.std.proofs.Common.{◌≡◌, ◌≢◌, ℕ, ◌<◌, ◌≤◌, ◌^◌, List, [], ◌∷◌, ◌++◌, All, Some, length, get_or, false}
use Rattle.std.proofs.Common.{refl, sym, ap, ◌∙◌, decimal, arith}
use Rattle.std.specs.Prelude.{slice_get}
use Rattle.std.specs.Bool.{◌==◌}
use Rattle.std.specs.List.{AllByRecursion}
use Rattle.std.proofs.lemmas.Fmt.{decimal_injective}
use Rattle.un_base.specs.declared.ids.VarId.{VarId}
use Rattle.un_base.specs.Lines.{pieces_of}
use Rattle.un_base.proofs.LineLaws.{pieces_of-line, pieces_of-last}
use Rattle.un_base.specs.Lines.{IsCut}
use Rattle.un_base.proofs.Cuts.{cut_once, cut_none, cut_parts}
use Rattle.un_tree.proofs.NodeLines.{digits_apart}
use Rattle.un_walk.proofs.Paths.{last_once}
use Rattle.un_steps.specs.declared.step.Rule.{Rule}
use Rattle.un_steps.specs.declared.step.Rule.TheVariants.{TooSoon, Idle, OutsideBlock, FromIdle, TooLateFor, OutsideSpace, NoSpace, Alike}
use Rattle.un_steps.specs.declared.step.Rule.TheVariants.{NotHome, NotCongruent, TooDear, NoFrame, TooFull}
use Rattle.un_steps.specs.declared.step.Step.{Step}
use Rattle.un_judge.specs.Lines.{rule_number, numbered, step_text, dot_line, Fits, IsStepLine, Says, BeginsWith}
use Rattle.un_judge.specs.declared.line.Line.{Line}
use Rattle.un_judge.specs.declared.line.Line.TheVariants.{Other}

-- ---- rules by their numbers

abbrev rules_in_order : List Rule
rules_in_order =
    TooSoon ∷ TooSoon ∷ Idle ∷ OutsideBlock ∷ FromIdle ∷ TooLateFor ∷ OutsideSpace ∷ NoSpace ∷ Alike ∷ NotHome ∷ NotCongruent ∷ TooDear
    ∷ NoFrame ∷ TooFull ∷ []

at_number : (r : Rule) → slice_get rules_in_order (rule_number r) ≡ Some r
at_number TooSoon = refl
at_number Idle = refl
at_number OutsideBlock = refl
at_number FromIdle = refl
at_number TooLateFor = refl
at_number OutsideSpace = refl
at_number NoSpace = refl
at_number Alike = refl
at_number NotHome = refl
at_number NotCongruent = refl
at_number TooDear = refl
at_number NoFrame = refl
at_number TooFull = refl

rule_once : (a b : Rule) → rule_number a ≡ rule_number b → a ≡ b
rule_once a b e = let same : Some a ≡ Some b = sym (at_number a) ∙ (ap (slice_get rules_in_order) e ∙ at_number b) in cc same

-- a rule's number is small
pub rule_small : (r : Rule) → rule_number r < 2 ^ 32
rule_small TooSoon = omega arith
rule_small Idle = omega arith
rule_small OutsideBlock = omega arith
rule_small FromIdle = omega arith
rule_small TooLateFor = omega arith
rule_small OutsideSpace = omega arith
rule_small NoSpace = omega arith
rule_small Alike = omega arith
rule_small NotHome = omega arith
rule_small NotCongruent = omega arith
rule_small TooDear = omega arith
rule_small NoFrame = omega arith
rule_small TooFull = omega arith

-- ---- numbers and blanks

free : (n : ℕ) → n < 2 ^ 32 → AllByRecursion (λ y. y ≢ 32) (decimal n)
free n small = digits_apart 32 n (omega arith) (omega (arith, small))

-- two texts that begin with a number and a blank are of one number
pub numbered_once : (n k : ℕ) (rest more : List ℕ) → n < 2 ^ 32 → k < 2 ^ 32 → numbered n rest ≡ numbered k more → (n ≡ k) × (rest ≡ more)
numbered_once n k rest more sn sk e =
    let parts = cut_once 32 (decimal n) (decimal k) rest more (free n sn) (free k sk) e in
    (decimal_injective n k (omega (arith, sn)) (omega (arith, sk)) parts.0, parts.1)

-- and so are two ways to read one text
pub read_once : (text : List ℕ) (n k : ℕ) (rest more : List ℕ) → n < 2 ^ 32 → k < 2 ^ 32 → text ≡ numbered n rest → text ≡ numbered k more
    → (n ≡ k) × (rest ≡ more)
read_once text n k rest more sn sk e f = numbered_once n k rest more sn sk (sym e ∙ f)

-- without a blank there is none
pub no_blank : (text : List ℕ) → All (λ y. y ≢ 32) text → (n : ℕ) (rest : List ℕ) → n < 2 ^ 32 → text ≢ numbered n rest
no_blank text none n rest small e = cut_none 32 text (decimal n) rest none e

-- nor where what stands before it is no number
pub no_number : (text first rest : List ℕ) → IsCut text 32 first rest → ((n : ℕ) → n < 2 ^ 32 → first ≢ decimal n) → (n : ℕ) (more : List ℕ)
    → n < 2 ^ 32 → text ≢ numbered n more
no_number text first rest cut none n more small e = none n small (cut_parts text 32 first rest (decimal n) more cut (free n small) e).0

pub number_then : (text first rest : List ℕ) (n : ℕ) → IsCut text 32 first rest → first ≡ decimal n → text ≡ numbered n rest
number_then text first rest n cut is = let w = cut.whole in w ∙ ap (λ (f : List ℕ). f ++ 32 ∷ rest) is

-- ---- steps

-- steps with one text are one
pub step_once : (rules : ℕ) (s t : Step) → Fits rules s → Fits rules t → step_text s ≡ step_text t → s ≡ t
step_once rules s t f g e =
    let a = numbered_once (rule_number s.rule) (rule_number t.rule) _ _ (rule_small s.rule) (rule_small t.rule) e in
    let b = numbered_once s.place t.place _ _ f.place g.place a.1 in
    let c = numbered_once s.var.0 t.var.0 _ _ f.var g.var b.1 in
    let d = numbered_once s.first t.first _ _ f.first g.first c.1 in
    let fl = f.last in
    let gl = g.last in
    let l : s.last ≡ t.last = decimal_injective s.last t.last (omega (arith, fl)) (omega (arith, gl)) d.1 in
    let r : s.rule ≡ t.rule = rule_once s.rule t.rule a.0 in
    let v : s.var ≡ t.var = ap (λ (n : ℕ). record { 0 = n }) c.0 in
    ap (λ (x : Rule). record { rule = x; place = s.place; var = s.var; first = s.first; last = s.last }) r
    ∙ (ap (λ (x : ℕ). record { rule = t.rule; place = x; var = s.var; first = s.first; last = s.last }) b.0
    ∙ (ap (λ (x : VarId). record { rule = t.rule; place = t.place; var = x; first = s.first; last = s.last }) v
    ∙ (ap (λ (x : ℕ). record { rule = t.rule; place = t.place; var = t.var; first = x; last = s.last }) d.0
    ∙ ap (λ (x : ℕ). record { rule = t.rule; place = t.place; var = t.var; first = t.first; last = x }) l)))

-- steps of one line are one
pub line_once : (rules : ℕ) (line : List ℕ) (s t : Step) → IsStepLine rules line s → IsStepLine rules line t → s ≡ t
line_once rules line s t f g =
    let a = f.spelled in let b = g.spelled in
    step_once rules s t f.fits g.fits (last_once (step_text s) (step_text t) 10 10 (sym a ∙ b)).0

-- a dot is no step
pub dot_no_step : (rules : ℕ) (s : Step) → IsStepLine rules dot_line s → ⊥
dot_no_step rules s f =
    let e = f.spelled in
    let n = rule_number s.rule in
    let rest = numbered s.place (numbered s.var.0 (numbered s.first (decimal s.last))) in
    let dot : numbered n rest ≡ 46 ∷ [] = (last_once (step_text s) (46 ∷ []) 10 10 (sym e)).0 in
    by (decimal n) rest dot
  where
    by : (ds rest : List ℕ) → ds ++ 32 ∷ rest ≡ 46 ∷ [] → ⊥
    by [] rest e = omega (arith, ap (λ (xs : List ℕ). get_or xs 0 0) e)
    by (d ∷ []) rest e = omega (arith, ap length e)
    by (d ∷ k ∷ ks) rest e = omega (arith, ap length e)

-- ---- texts that are no step's

abbrev pub NoNumber : List ℕ → Type 0
NoNumber text = (n : ℕ) (rest : List ℕ) → n < 2 ^ 32 → text ≢ numbered n rest

abbrev pub NoStep : ℕ → List ℕ → Type 0
NoStep rules text = (s : Step) → Fits rules s → text ≢ step_text s

-- behind the number of a rule
module _ (rules : ℕ) (text : List ℕ) (n : ℕ) (t : List ℕ) (small : n < 2 ^ 32) (is : text ≡ numbered n t) where
  first_of : (s : Step) → text ≡ step_text s
      → (n ≡ rule_number s.rule) × (t ≡ numbered s.place (numbered s.var.0 (numbered s.first (decimal s.last))))
  first_of s e = read_once text n (rule_number s.rule) t _ small (rule_small s.rule) is e

  pub no_rule : ((r : Rule) → rule_number r ≤ rules → n ≢ rule_number r) → NoStep rules text
  no_rule none s fits e = none s.rule fits.rule (first_of s e).0

  pub no_place : NoNumber t → NoStep rules text
  no_place none s fits e = none s.place _ fits.place (first_of s e).1

  -- behind its place
  module _ (p : ℕ) (u : List ℕ) (small_p : p < 2 ^ 32) (is_p : t ≡ numbered p u) where
    place_of : (s : Step) → Fits rules s → text ≡ step_text s → u ≡ numbered s.var.0 (numbered s.first (decimal s.last))
    place_of s fits e = (read_once t p s.place u _ small_p fits.place is_p (first_of s e).1).1

    pub no_var : NoNumber u → NoStep rules text
    no_var none s fits e = none s.var.0 _ fits.var (place_of s fits e)

    -- behind its variable
    module _ (v : ℕ) (w : List ℕ) (small_v : v < 2 ^ 32) (is_v : u ≡ numbered v w) where
      var_of : (s : Step) → Fits rules s → text ≡ step_text s → w ≡ numbered s.first (decimal s.last)
      var_of s fits e = (read_once u v s.var.0 w _ small_v fits.var is_v (place_of s fits e)).1

      pub no_first : NoNumber w → NoStep rules text
      no_first none s fits e = none s.first _ fits.first (var_of s fits e)

      -- behind its first value
      pub no_last : (a : ℕ) (z : List ℕ) → a < 2 ^ 32 → w ≡ numbered a z → ((k : ℕ) → k < 2 ^ 32 → z ≢ decimal k) → NoStep rules text
      no_last a z small_a is_a none s fits e = none s.last fits.last (read_once w a s.first z _ small_a fits.first is_a (var_of s fits e)).1

-- ---- lines

-- a line that is neither, before its line feed
pub neither : (rules : ℕ) (text : List ℕ) → text ≢ 46 ∷ [] → ((s : Step) → Fits rules s → text ≢ step_text s)
    → Says rules (text ++ 10 ∷ []) Other
neither rules text dot step = (
  λ e. dot (last_once text (46 ∷ []) 10 10 e).0,
  λ s f. let e = f.spelled in step s f.fits (last_once text (step_text s) 10 10 e).0,
)

-- a last line without a line feed is neither
pub unfed : (rules : ℕ) (text : List ℕ) → All (λ y. y ≢ 10) text → Says rules text Other
unfed rules text none = (
  λ e. cut_none 10 text (46 ∷ []) [] none e,
  λ s f. let e = f.spelled in cut_none 10 text (step_text s) [] none e,
)

pub some_by : (text : List ℕ) → false ≡ (length text == 0) → text ≢ []
some_by [] e is = cc e
some_by (b ∷ bs) e is = cc is

some_text : (text : List ℕ) → text ≢ [] → 0 < length text
some_text [] some = absurd (some refl)
some_text (b ∷ bs) some = omega arith

pub begins_unfed : (rules : ℕ) (text : List ℕ) → text ≢ [] → All (λ y. y ≢ 10) text → BeginsWith rules text Other []
begins_unfed rules text some none = record {
  bytes = text;
  pieces = pieces_of-last text (some_text text some) none;
  says = unfed rules text none;
  shorter = some_text text some;
}

shorter_rest : (line rest : List ℕ) → length rest < length (line ++ 10 ∷ rest)
shorter_rest [] rest = omega arith
shorter_rest (b ∷ bs) rest = let h = shorter_rest bs rest in omega (arith, h)

pub begins_fed : (rules : ℕ) (text line rest : List ℕ) (says : Line) → IsCut text 10 line rest → Says rules (line ++ 10 ∷ []) says
    → BeginsWith rules text says rest
begins_fed rules text line rest says cut said =
    let w = cut.whole in
    record {
      bytes = line ++ 10 ∷ [];
      pieces = ap pieces_of w ∙ pieces_of-line line rest cut.none;
      says = said;
      shorter =
          let h = shorter_rest line rest in
          let same : length text ≡ length (line ++ 10 ∷ rest) = ap length w in omega (arith, h, same);
    }
