-- What a line gives a function is good exactly where the line keeps its own rules, and so is what lines give.
use Rattle.std.proofs.Common.{◌≡◌, ◌≢◌, ℕ, ◌≤◌, ◌++◌, ◌&&◌, true, false, not, nat_lt, nat_le, List, [], ◌∷◌, Option, Some, None, map}
use Rattle.std.proofs.Common.{length, slice_get, refl, sym, ap, ◌∙◌, arith, subst}
use Rattle.std.specs.List.{AllByRecursion as Each, list_any}
use Rattle.std.specs.Option.{option_map, option_to_list}
use Rattle.std.proofs.lemmas.Bool.{leb-true, or_parts, and_parts, not-false, ltb-false}
use Rattle.std.proofs.lemmas.Bool.Decides.{nat_tests}
use Rattle.std.proofs.lemmas.List.Elements.{All-from_recursion as Each-All, recursion_from_All as Each-from}
use Rattle.un_faults.specs.Vocabulary.{NameId, Kind, General, Pred, Number, TermLine, Branch, Ret, Line, Blank, Func}
use Rattle.un_faults.specs.Vocabulary.{Block, Operation, Terminator, Spelled}
use Rattle.un_ir.specs.WellFormed.{IsOfKind, IsGoodOp, IsGoodBlock, TestsItsKind}
use Rattle.un_ir.specs.declared.function.TheConstants.{FREQUENCY, PARAMS}
use Rattle.un_faults.specs.Before.{same_name}
use Rattle.un_words.specs.LineNames.{names_on, names_on_term}
use Rattle.un_faults.specs.Groups.{Group}
use Rattle.un_faults.specs.LineFaults.{has_repeat, term_clashes, freq_fits, operands_clash}
use Rattle.un_faults.specs.Literals.{literal_fits}
use Rattle.un_faults.specs.LineFaults.{result_clashes}
use Rattle.un_reader.specs.Functions.{name_id, op_of, term_by, block_of}
use Rattle.un_words.proofs.Each.{Each-weaken, Each-map, Each-unmap, Each-both, EachPair, EachPair-map, EachPair-unmap, Each-none, any_none}
use Rattle.un_faults.proofs.FirstNames.{name_itself, name_differs}
use Rattle.un_words.proofs.TokenFacts.{IsNameWord, IfThere}
use Rattle.un_words.proofs.LineShapes.{IsShaped}
use Rattle.un_reader.proofs.OpFacts.{IsKnown, kind_matches, matches_kind, spelled_kind, word_kind, are_words, words_are, op_good, op_told}
use Rattle.un_faults.proofs.Rules.{IsGoodLine}
use Rattle.un_reader.proofs.TextLines.{EachOf, text_lines, from_groups, to_groups}

-- the number of the name leads to it
abbrev pub IsKept : List Spelled → Spelled → Type 0
IsKept names x = slice_get names (name_id names x).0 ≡ Some x

kept_known : (names : List Spelled) (x : Spelled) → IsKept names x → IsKnown names x
kept_known names x k = ap (option_map (λ (n : List ℕ × Kind). n.1)) k

all_known : (names xs : List Spelled) → Each (IsKept names) xs → Each (IsKnown names) xs
all_known names xs k = Each-weaken (IsKept names) (IsKnown names) (kept_known names) xs k

-- what a function keeps of its parameters
pub record AreGoodParams (names params : List Spelled) : Type 0 where
  pub words : Each (IsOfKind names General) (map (name_id names) params)
  pub few : length params ≤ PARAMS
  pub apart : EachPair (λ (a b : NameId). a ≢ b) (map (name_id names) params)

-- what a line gives a function, by the numbers of its names
abbrev pub Fits : List Spelled → List (List ℕ) → Line → Type 0
Fits names labels Blank = Unit {0}
Fits names labels (Func name params) = IsNameWord name × AreGoodParams names params
Fits names labels (Block label freq) = IsNameWord label × (1 ≤ freq.size) × (freq.size ≤ FREQUENCY)
Fits names labels (Operation o) = IsGoodOp names (op_of names o)
Fits names labels (Terminator term) = TestsItsKind names (term_by names labels (Some term))

-- ---- parameters

numbers_differ : (names : List Spelled) (x y : Spelled) → IsKept names x → IsKept names y → same_name x y ≡ false
    → name_id names x ≢ name_id names y
numbers_differ names x y kx ky differs is =
    let same : x ≡ y = let got : Some x ≡ Some y = sym kx ∙ ap (λ (n : NameId). slice_get names n.0) is ∙ ky in cc got in
    let itself : same_name x y ≡ true = subst (λ (z : Spelled). same_name x z ≡ true) same (name_itself x) in
    cc (sym differs ∙ itself)

module _ (names : List Spelled) where
  -- names that are not repeated have numbers of their own
  apart : (params : List Spelled) → Each (IsKept names) params → has_repeat params ≡ false
      → EachPair (λ (a b : Spelled). name_id names a ≢ name_id names b) params
  apart [] k h = tt
  apart (x ∷ params) k h =
      let parts = or_parts (list_any (same_name x) params) (has_repeat params) h in
      let P : Spelled → Type 0 = λ y. IsKept names y × (same_name x y ≡ false) in (
        Each-weaken P (λ (y : Spelled). name_id names x ≢ name_id names y) (λ y p. numbers_differ names x y k.0 p.0 p.1) params
            (Each-both (IsKept names) (λ (y : Spelled). same_name x y ≡ false) params k.1 (Each-none (same_name x) params parts.0)),
        apart params k.1 parts.1,
      )

  -- and the other way
  once : (params : List Spelled) → EachPair (λ (a b : Spelled). name_id names a ≢ name_id names b) params → has_repeat params ≡ false
  once [] h = refl
  once (x ∷ params) h =
      let here : list_any (same_name x) params ≡ false =
      any_none (same_name x) params
      (Each-weaken (λ (y : Spelled). name_id names x ≢ name_id names y) (λ (y : Spelled). same_name x y ≡ false)
      (λ y n. name_differs x y (λ e. n (ap (name_id names) e))) params h.0) in
      rw (here, once params h.1) refl

-- ---- a line

within : (n : ℕ) → n ≤ PARAMS → nat_lt PARAMS n ≡ false
within n h = grind (arith, nat_tests)

often_good : (freq : Number) → freq.negative ≡ false → 1 ≤ freq.size → freq.size ≤ FREQUENCY → not (freq_fits freq) ≡ false
often_good freq sign low high = rw sign (grind (arith, nat_tests))

-- the number of times that a block runs is no negative one
abbrev pub IsPlain : Line → Type 0
IsPlain (Block label freq) = freq.negative ≡ false
IsPlain _ = Unit {0}

module _ (names : List Spelled) (labels : List (List ℕ)) where
  term_fits : (term : TermLine) → Each (IsKnown names) (names_on_term term)
      → term_clashes term ≡ false → TestsItsKind names (term_by names labels (Some term))
  term_fits (Branch pred sense to) k h = k.0 ∙ ap Some (kind_matches Pred pred.1 h)
  term_fits (Ret (Some name)) k h = k.0 ∙ ap Some (word_kind name.1 h)
  term_fits _ k h = tt

  fits_term : (term : TermLine) → Each (IsKnown names) (names_on_term term)
      → TestsItsKind names (term_by names labels (Some term)) → term_clashes term ≡ false
  fits_term (Branch pred sense to) k h = matches_kind Pred pred.1 (spelled_kind names pred Pred k.0 h)
  fits_term (Ret (Some name)) k h = rw (spelled_kind names name General k.0 h) refl
  fits_term (Ret None) k h = refl
  fits_term _ k h = refl

  line_fits : (line : Line) → IsShaped line → IsGoodLine line → Each (IsKept names) (names_on line) → Fits names labels line
  line_fits Blank shaped good k = tt
  line_fits (Func name params) shaped good k = (
    shaped.0,
    record {
      words = are_words names params (all_known names params k) good.agrees;
      few = ltb-false PARAMS (length params) good.few;
      apart = EachPair-map (λ (a b : NameId). a ≢ b) (name_id names) params (apart names params k good.once);
    },
  )
  line_fits (Block label freq) shaped good k =
      let fit = not-false (freq_fits freq) good.often in
      let outer = and_parts (not freq.negative && nat_le 1 freq.size) (nat_le freq.size FREQUENCY) fit in
      let inner = and_parts (not freq.negative) (nat_le 1 freq.size) outer.0 in
      (shaped, leb-true 1 freq.size inner.1, leb-true freq.size FREQUENCY outer.1)
  line_fits (Operation o) shaped good k =
      let clash = or_parts (result_clashes o.op o.dst) (operands_clash o.op o.srcs) good.agrees in
      op_good names o shaped (all_known names (option_to_list o.dst ++ o.srcs) k) clash.0 clash.1
      (ltb-false PARAMS (length o.srcs) good.few) (not-false (literal_fits o.op o.imm) good.fits)
  line_fits (Terminator term) shaped good k = term_fits term (all_known names (names_on_term term) k) good.agrees

  fits_line : (line : Line) → IsPlain line → Fits names labels line → Each (IsKept names) (names_on line) → IsGoodLine line
  fits_line Blank plain fits k = record { agrees = refl; few = refl; fits = refl; often = refl; once = refl }
  fits_line (Func name params) plain (named, good) k = record {
    agrees = words_are names params (all_known names params k) good.words;
    few = within (length params) good.few;
    fits = refl;
    often = refl;
    once = once names params (EachPair-unmap (λ (a b : NameId). a ≢ b) (name_id names) params good.apart);
  }
  fits_line (Block label freq) plain (named, low, high) k =
      record { agrees = refl; few = refl; fits = refl; often = often_good freq plain low high; once = refl }
  fits_line (Operation o) plain good k =
      let f = op_told names o (all_known names (option_to_list o.dst ++ o.srcs) k) good in
      record {
        agrees = rw (f.result, f.operands) refl;
        few = within (length o.srcs) f.few;
        fits = rw f.literal refl;
        often = refl;
        once = refl;
      }
  fits_line (Terminator term) plain fits k = record {
    agrees = fits_term term (all_known names (names_on_term term) k) fits;
    few = refl;
    fits = refl;
    often = refl;
    once = refl;
  }

  -- ---- lines

  -- what is asked of a line for what it gives to be good
  pub record IsAsked (line : Line) : Type 0 where
    pub shaped : IsShaped line
    pub good : IsGoodLine line
    pub kept : Each (IsKept names) (names_on line)

  group_good : (g : Group) → EachOf (Fits names labels) g → IsGoodBlock names (block_of names labels g)
  group_good g f = record {
    label = f.block.0;
    freq = (f.block.1, f.block.2);
    ops = Each-All (IsGoodOp names) (map (op_of names) g.ops) (Each-map (IsGoodOp names) (op_of names) g.ops f.ops);
    tests = by g.term f.term;
  }
    where
      by : (term : Option TermLine) → IfThere (λ (t : TermLine). Fits names labels (Terminator t)) term
          → TestsItsKind names (term_by names labels term)
      by None t = tt
      by (Some term) t = t

  good_group : (g : Group) → IsGoodBlock names (block_of names labels g) → EachOf (Fits names labels) g
  good_group g b = record {
    block = (b.label, b.freq.0, b.freq.1);
    ops = Each-unmap (IsGoodOp names) (op_of names) g.ops (Each-from (IsGoodOp names) (map (op_of names) g.ops) b.ops);
    term = by g.term b.tests;
  }
    where
      by : (term : Option TermLine) → TestsItsKind names (term_by names labels term)
          → IfThere (λ (t : TermLine). Fits names labels (Terminator t)) term
      by None t = tt
      by (Some term) t = t

  -- what the lines of a function give
  pub record AreFit (name : List ℕ) (params : List Spelled) (gs : List Group) : Type 0 where
    pub named : IsNameWord name
    pub params_good : AreGoodParams names params
    pub blocks : Each (λ (g : Group). IsGoodBlock names (block_of names labels g)) gs

  pub lines_fit : (name : List ℕ) (params : List Spelled) (gs : List Group) → Each IsAsked (text_lines name params gs)
      → AreFit name params gs
  lines_fit name params gs e =
      let f = Each-weaken IsAsked (Fits names labels) (λ l a. line_fits l a.shaped a.good a.kept) (text_lines name params gs) e in
      record {
        named = f.0.0;
        params_good = f.0.1;
        blocks = Each-weaken (EachOf (Fits names labels)) (λ (g : Group). IsGoodBlock names (block_of names labels g)) group_good gs
            (from_groups (Fits names labels) gs f.1);
      }

  pub fit_lines : (name : List ℕ) (params : List Spelled) (gs : List Group) → AreFit name params gs
      → Each IsPlain (text_lines name params gs)
      → Each (λ (l : Line). Each (IsKept names) (names_on l)) (text_lines name params gs)
      → Each IsGoodLine (text_lines name params gs)
  fit_lines name params gs f plain kept =
      let fits : Each (Fits names labels) (text_lines name params gs) = (
        (f.named, f.params_good),
        to_groups (Fits names labels) gs
            (Each-weaken (λ (g : Group). IsGoodBlock names (block_of names labels g)) (EachOf (Fits names labels)) good_group gs f.blocks),
      ) in
      each (text_lines name params gs) plain fits kept
    where
      each : (lines : List Line) → Each IsPlain lines → Each (Fits names labels) lines
          → Each (λ (l : Line). Each (IsKept names) (names_on l)) lines → Each IsGoodLine lines
      each [] p f k = tt
      each (line ∷ lines) p f k = (fits_line line p.0 f.0 k.0, each lines p.1 f.1 k.1)
