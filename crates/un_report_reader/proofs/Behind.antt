-- A bad line behind several parts of a report.
use Rattle.std.proofs.Common.{◌≡◌, ℕ, ◌+◌, inr, List, [], ◌∷◌, ◌++◌, codes, decimal, length, refl, sym, ap, ◌∙◌, subst, arith, append_assoc}
use Rattle.un_isa.specs.Versions.{IsVersion}
use Rattle.un_listing.specs.Listing.{code_lines, code_text}
use Rattle.un_model.specs.declared.model.Options.{Options}
use Rattle.un_packet.specs.declared.code.Code.{Code as CodeValue}
use Rattle.un_report.specs.Reports.{numbers_text, listing_text, solution_text, answer_text}
use Rattle.un_report.specs.declared.report.Answered.{Answered}
use Rattle.un_report.specs.declared.report.Answered.TheVariants.{Code, Infeasible, Spent}
use Rattle.un_report_reader.specs.Answers.{AreCosts, costs_lines, IsListed, listing_lines, AreValues, solution_lines, kind_of, IsAnswer}
use Rattle.un_report_reader.specs.Answers.{behind_kind, lines_behind, answer_lines}
use Rattle.un_report_reader.specs.FirstBad.{BehindKind, InVersion, InFunction, InModel, InAnswer, InCost, InBound}
use Rattle.un_report_reader.specs.FirstBad.{InListing, InCode, InSolution, InNumbers, InTree, InNodes, InEnd}
use Rattle.un_report_reader.specs.Heads.{HeadValue, IsHead, head_text}
use Rattle.un_report_reader.specs.Limits.{limits_of, AreFewLines}
use Rattle.un_report_reader.specs.Lines.{version_text, IsName, function_text, AreSettings, settings_text, IsAny, kind_text}
use Rattle.un_report_reader.specs.Lines.{IsLong, IsShort, cost_text, bound_text, listing_head, solution_head}
use Rattle.un_report_reader.specs.Lines.{line_count, tree_head}
use Rattle.un_report_reader.specs.Trees.{IsTree, lines_text}
use Rattle.un_report_reader.specs.declared.kind.Kind.TheVariants as KindOf
use Rattle.un_report_reader.specs.declared.limits.Limits.{Limits}
use Rattle.un_report_reader.specs.declared.tree.Lines.{Lines}
use Rattle.un_report_reader.proofs.Seams.{woven}
use Rattle.un_report_reader.proofs.Through.{behind_line}

-- a text of two parts before more
two_parts : (text first second rest : List ℕ) → text ≡ (first ++ second) ++ rest → text ≡ first ++ (second ++ rest)
two_parts text first second rest e = e ∙ append_assoc first second rest

-- ---- the head

pub behind_head : (h : HeadValue) (text rest : List ℕ) (line : ℕ) → IsHead h → text ≡ head_text h ++ rest
    → InAnswer (limits_of h.0) rest line → InVersion text (3 + line)
behind_head h text rest line good whole bad =
    let l : Limits = limits_of h.0 in
    let settings : Options × ℕ = (h.2, h.3) in
    let in_model : InModel l (settings_text settings ++ rest) (1 + line) =
    behind_line (AreSettings l) settings_text (λ s. InAnswer l) settings (settings_text settings ++ rest) rest line good.2 refl bad in
    let in_function : InFunction l (function_text h.1 ++ (settings_text settings ++ rest)) (1 + (1 + line)) =
    behind_line IsName function_text (λ name. InModel l) h.1 (function_text h.1 ++ (settings_text settings ++ rest))
    (settings_text settings ++ rest) (1 + line) good.1 refl in_model in
    let in_version : InVersion text (1 + (1 + (1 + line))) =
    behind_line IsVersion version_text (λ v. InFunction (limits_of v)) h.0 text (function_text h.1 ++ (settings_text settings ++ rest))
    (1 + (1 + line)) good.0
    (two_parts text (version_text h.0) (function_text h.1 ++ settings_text settings) rest whole
    ∙ ap (λ (t : List ℕ). version_text h.0 ++ t) (append_assoc (function_text h.1) (settings_text settings) rest)) in_function in
    let three : 1 + (1 + (1 + line)) ≡ 3 + line = omega arith in
    subst (λ (n : ℕ). InVersion text n) three in_version

-- ---- the answer

pub behind_costs : (l : Limits) (p : ℕ × ℕ) (text rest : List ℕ) (line : ℕ) → AreCosts p → text ≡ costs_lines p ++ rest → InListing l rest line
    → InCost l text (2 + line)
behind_costs l p text rest line good whole bad =
    let in_bound : InBound l (bound_text p.1 ++ rest) (1 + line) =
    behind_line IsLong bound_text (λ bound. InListing l) p.1 (bound_text p.1 ++ rest) rest line good.1 refl bad in
    let in_cost : InCost l text (1 + (1 + line)) =
    behind_line IsLong cost_text (λ cost. InBound l) p.0 text (bound_text p.1 ++ rest) (1 + line) good.0
    (two_parts text (cost_text p.0) (bound_text p.1) rest whole) in_bound in
    let two : 1 + (1 + line) ≡ 2 + line = omega arith in
    subst (λ (n : ℕ). InCost l text n) two in_cost

-- the line of how many lines there are, before the listing
pub listing_seam : (c : CodeValue) (rest : List ℕ)
    → listing_text c ++ rest ≡ listing_head (length (code_lines c)) ++ (code_text c ++ rest)
listing_seam c rest =
    ap (λ (t : List ℕ). codes "listing " ++ t) (append_assoc (decimal (length (code_lines c)) ++ 10 ∷ []) (code_text c) rest)

pub behind_listing : (l : Limits) (c : CodeValue) (text rest : List ℕ) (line : ℕ) → IsListed l c → text ≡ listing_text c ++ rest → InSolution l rest line
    → InListing l text (listing_lines c + line)
behind_listing l c text rest line good whole bad =
    let count = length (code_lines c) in
    let in_code : InCode l count (code_text c ++ rest) (count + line) =
    inr (record { value = c; rest = rest; behind = line; is_good = (refl, good.1); whole = refl; is_bad = bad; numbered = refl }) in
    let in_listing : InListing l text (1 + (count + line)) =
    behind_line IsShort listing_head (InCode l) count text (code_text c ++ rest) (count + line) good.0 (whole ∙ listing_seam c rest)
    in_code in
    let all : 1 + (count + line) ≡ 1 + count + line = omega arith in
    subst (λ (n : ℕ). InListing l text n) all in_listing

pub solution_seam : (xs rest : List ℕ) → solution_text xs ++ rest ≡ solution_head (length xs) ++ (numbers_text xs ++ rest)
solution_seam xs rest =
    ap (λ (t : List ℕ). codes "solution " ++ t) (append_assoc (decimal (length xs) ++ 10 ∷ []) (numbers_text xs) rest)

pub behind_solution : (l : Limits) (xs text rest : List ℕ) (line : ℕ) → AreValues xs → text ≡ solution_text xs ++ rest → InTree l rest line
    → InSolution l text (solution_lines xs + line)
behind_solution l xs text rest line good whole bad =
    let count = length xs in
    let in_numbers : InNumbers l count (numbers_text xs ++ rest) (line_count count + line) =
    inr (record { value = xs; rest = rest; behind = line; is_good = (refl, good.1); whole = refl; is_bad = bad; numbered = refl }) in
    let in_solution : InSolution l text (1 + (line_count count + line)) =
    behind_line IsShort solution_head (InNumbers l) count text (numbers_text xs ++ rest) (line_count count + line) good.0
    (whole ∙ solution_seam xs rest) in_numbers in
    let all : 1 + (line_count count + line) ≡ 1 + line_count count + line = omega arith in
    subst (λ (n : ℕ). InSolution l text n) all in_solution

-- what stands behind the kind of an answer that is code
pub four_parts : (a b c d rest : List ℕ) → (a ++ (b ++ (c ++ d))) ++ rest ≡ (a ++ b) ++ (c ++ (d ++ rest))
four_parts a b c d rest =
    append_assoc a (b ++ (c ++ d)) rest
    ∙ (ap (λ (t : List ℕ). a ++ t) (append_assoc b (c ++ d) rest ∙ ap (λ (t : List ℕ). b ++ t) (append_assoc c d rest))
    ∙ sym (append_assoc a b (c ++ (d ++ rest))))

pub behind_parts : (l : Limits) (cost bound : ℕ) (code : CodeValue) (values text rest : List ℕ) (line : ℕ) → IsLong cost → IsLong bound → IsListed l code
    → AreValues values
    → text ≡ (cost_text cost ++ (bound_text bound ++ (listing_text code ++ solution_text values))) ++ rest → InTree l rest line
    → InCost l text (2 + (listing_lines code + solution_lines values) + line)
behind_parts l cost bound code values text rest line gc gb gl gv whole bad =
    let in_solution = behind_solution l values (solution_text values ++ rest) rest line gv refl bad in
    let in_listing = behind_listing l code (listing_text code ++ (solution_text values ++ rest)) (solution_text values ++ rest)
    (solution_lines values + line) gl refl in_solution in
    let in_cost = behind_costs l (cost, bound) text (listing_text code ++ (solution_text values ++ rest))
    (listing_lines code + (solution_lines values + line)) (gc, gb)
    (whole ∙ four_parts (cost_text cost) (bound_text bound) (listing_text code) (solution_text values) rest) in_listing in
    let all : 2 + (listing_lines code + (solution_lines values + line)) ≡ 2 + (listing_lines code + solution_lines values) + line =
    omega arith in
    subst (λ (n : ℕ). InCost l text n) all in_cost

-- the text of an answer is that of its kind, and what is behind
pub answer_seam : (a : Answered) (rest : List ℕ) → answer_text a ++ rest ≡ kind_text (kind_of a) ++ (behind_kind a ++ rest)
answer_seam (Code cost bound code solution) rest =
    let values = solution.values in
    let front : List ℕ = ((decimal cost ++ codes "\nbound ") ++ decimal bound) ++ 10 ∷ [] in
    ap (λ (t : List ℕ). codes "answer code\ncost " ++ (t ++ rest))
    (append_assoc front (listing_text code) (solution_text values)
    ∙ woven (decimal cost) (codes "bound ") (decimal bound) (listing_text code ++ solution_text values))
answer_seam Infeasible rest = refl
answer_seam Spent rest = refl

pub behind_answer : (l : Limits) (a : Answered) (text rest : List ℕ) (line : ℕ) → IsAnswer l a → text ≡ answer_text a ++ rest → InTree l rest line
    → InAnswer l text (answer_lines a + line)
behind_answer l (Code cost bound code solution) text rest line good whole bad =
    let a = Code cost bound code solution in
    let later = lines_behind a in
    let in_cost : InCost l (behind_kind a ++ rest) (later + line) =
    behind_parts l cost bound code solution.values (behind_kind a ++ rest) rest line good.0 good.1 good.2 good.3 refl bad in
    let in_answer : InAnswer l text (1 + (later + line)) =
    behind_line IsAny kind_text (BehindKind l) KindOf.Code text (behind_kind a ++ rest) (later + line) tt (whole ∙ answer_seam a rest) in_cost in
    let all : 1 + (later + line) ≡ 1 + later + line = omega arith in
    subst (λ (n : ℕ). InAnswer l text n) all in_answer
behind_answer l Infeasible text rest line good whole bad =
    behind_line IsAny kind_text (BehindKind l) KindOf.Infeasible text rest line tt whole bad
behind_answer l Spent text rest line good whole bad =
    behind_line IsAny kind_text (BehindKind l) KindOf.Spent text rest line tt whole bad

-- ---- the tree

pub behind_tree : (l : Limits) (t : Lines) (text rest : List ℕ) (line : ℕ) → IsTree l t → text ≡ lines_text t ++ rest → InEnd rest line
    → InTree l text (1 + t.count + line)
behind_tree l t text rest line good whole bad =
    let nodes = good.1.nodes in
    let counted = good.1.are.0 in
    let in_nodes : InNodes l t.count (t.text.now ++ rest) (t.count + line) =
    inr (record {
      value = nodes;
      rest = rest;
      behind = line;
      is_good = good.1.are;
      whole = ap (λ (x : List ℕ). x ++ rest) good.1.spelled;
      is_bad = bad;
      numbered = omega (arith, counted);
    }) in
    let in_tree : InTree l text (1 + (t.count + line)) =
    behind_line (AreFewLines l) tree_head (InNodes l) t.count text (t.text.now ++ rest) (t.count + line) good.0
    (two_parts text (tree_head t.count) t.text.now rest whole) in_nodes in
    let all : 1 + (t.count + line) ≡ 1 + t.count + line = omega arith in
    subst (λ (n : ℕ). InTree l text n) all in_tree
