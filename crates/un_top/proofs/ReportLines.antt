-- The first bad line of a report's text is one, and the text of a report has none; that of numbers alone is one.
use Rattle.std.proofs.Common.{◌≡◌, ℕ, ◌+◌, ◌-◌, ◌/◌, ◌<◌, ◌≤◌, ◌^◌, ◌⊎◌, inl, inr, List, [], ◌∷◌, ◌++◌, codes, length, refl, sym, ap, ◌∙◌, subst, arith}
use Rattle.std.proofs.lemmas.Bool.{cases_lt}
use Rattle.std.proofs.lemmas.List.Elements.{recursion_from_All}
use Rattle.un_isa.specs.Versions.{IsVersion}
use Rattle.un_isa.specs.declared.table.TheConstants.{LAST}
use Rattle.un_listing.specs.Listing.{code_text}
use Rattle.un_listing_reader.proofs.CodeBack.{one_bad_within}
use Rattle.un_report.specs.declared.report.TheConstants.{NUMBERS}
use Rattle.un_report.specs.declared.report.Report.{Report}
use Rattle.un_report.specs.Reports.{numbers_from, numbers_text}
use Rattle.un_report_reader.specs.FirstBad.{IsBadBehind, InLine, BehindKind, InFunction, InModel, InAnswer, InCost, InBound}
use Rattle.un_report_reader.specs.FirstBad.{InListing, InCode, InSolution, InNumbers, InTree, InNodes, InEnd, InNothing, IsFirstBad}
use Rattle.un_report_reader.specs.FirstBad.{BeginsNoAllowed, InLastNumbers, IsFirstBadAlone}
use Rattle.un_report_reader.specs.FirstBad.{IsBadCode, IsBadNumber, IsBadNode, first_lines, numbers_lines, lines_in_code}
use Rattle.un_report_reader.specs.Limits.{AreSmall, AreFewLines, IsAllowed, limits_of}
use Rattle.un_report_reader.specs.Lines.{one, version_text, IsName, function_text, AreSettings, settings_text, IsAny, kind_text}
use Rattle.un_report_reader.specs.Lines.{number_text, IsLong, IsShort, cost_text, bound_text, listing_head, HasLines, solution_head, AreNumbers}
use Rattle.un_report_reader.specs.Lines.{tree_head, AreNodes, IsPlain, end_text}
use Rattle.un_report_reader.specs.Readings.{IsReportRead}
use Rattle.un_report_reader.specs.declared.kind.Kind.{Kind}
use Rattle.un_report_reader.specs.declared.kind.Kind.TheVariants as KindOf
use Rattle.un_report_reader.specs.declared.limits.Limits.{Limits}
use Rattle.un_report_reader.proofs.LimitLaws.{limits_small}
use Rattle.un_report_reader.proofs.Listings.{codes_once, no_bad_code}
use Rattle.un_report_reader.proofs.NumberLaws.{numbers_once, number_stands, no_bad_number}
use Rattle.un_report_reader.proofs.Once.{Once, number_line_once, function_once, settings_once, kind_once, tree_once, no_bad_node, end_once}
use Rattle.un_report_reader.proofs.WholeTexts.{text_is_good, report_parts}
use Rattle.std.specs.List.{AllByRecursion}
use Rattle.un_tree.proofs.TreeTexts.{first_once, text_cons}
use Rattle.un_tree.specs.Texts.{Fits, tree_text}
use Rattle.un_tree.specs.declared.node.Node.{Node}

-- ---- a part, and what is behind it

-- lines behind a part are one where those of what is left are
pub one_behind : {V : Type 0} (good : V → Type 0) (text_of : V → List ℕ) (lines_of : V → ℕ) (later : V → List ℕ → ℕ → Type 0)
    → Once good text_of → ((v : V) (rest : List ℕ) (m n : ℕ) → later v rest m → later v rest n → m ≡ n) → (text : List ℕ) (m n : ℕ)
    → IsBadBehind good text_of lines_of later text m → IsBadBehind good text_of lines_of later text n → m ≡ n
one_behind {V} good text_of lines_of later once each text m n b c =
    let same = once c.value b.value c.rest b.rest c.is_good b.is_good (sym c.whole ∙ b.whole) in
    let there : later b.value b.rest c.behind = subst (λ (t : List ℕ). later b.value t c.behind) same.1
    (subst (λ (w : V). later w c.rest c.behind) same.0 c.is_bad) in
    b.numbered ∙ (ap (λ (k : ℕ). lines_of b.value + k) (each b.value b.rest b.behind c.behind b.is_bad there)
    ∙ (ap (λ (w : V). lines_of w + c.behind) (sym same.0) ∙ sym c.numbered))

pub one_line : {V : Type 0} (good : V → Type 0) (text_of : V → List ℕ) (later : V → List ℕ → ℕ → Type 0)
    → Once good text_of → ((v : V) (rest : List ℕ) (m n : ℕ) → later v rest m → later v rest n → m ≡ n) → (text : List ℕ) (m n : ℕ)
    → InLine good text_of later text m → InLine good text_of later text n → m ≡ n
one_line good text_of later once each text m n (inl b) (inl c) = b.1 ∙ sym c.1
one_line good text_of later once each text m n (inl b) (inr c) = absurd (b.0 c.value c.rest c.is_good c.whole)
one_line good text_of later once each text m n (inr b) (inl c) = absurd (c.0 b.value b.rest b.is_good b.whole)
one_line good text_of later once each text m n (inr b) (inr c) = one_behind good text_of one later once each text m n b c

pub long_once : (word : List ℕ) → Once IsLong (number_text word)
long_once word = number_line_once word 0 (2 ^ 64 - 1) (omega arith)

short_once : (word : List ℕ) → Once IsShort (number_text word)
short_once word = number_line_once word 0 (2 ^ 32 - 1) (omega arith)

-- ---- the tree

-- where fewer nodes stand, the next does, which is one that a report with these limits may have
node_stands : (l : Limits) (before ns : List Node) (rest a : List ℕ) → AllByRecursion Fits before → AllByRecursion Fits ns
    → AllByRecursion (IsAllowed l) ns → length before < length ns → tree_text before ++ rest ≡ tree_text ns ++ a → BeginsNoAllowed l rest → ⊥
node_stands l before [] rest a f g h few e none = absurd (omega (arith, few))
node_stands l [] (n ∷ ns) rest a f g h few e none = none n (tree_text ns ++ a) g.0 h.0 (e ∙ text_cons n ns a)
node_stands l (m ∷ ms) (n ∷ ns) rest a f g h few e none =
    let first = first_once m n (tree_text ms ++ rest) (tree_text ns ++ a) f.0 g.0 (sym (text_cons m ms rest) ∙ (e ∙ text_cons n ns a)) in
    node_stands l ms ns rest a f.1 g.1 h.1 (omega (arith, few)) first.1 none

one_bad_node : (l : Limits) (count : ℕ) (text : List ℕ) (m n : ℕ) → IsBadNode l count text m → IsBadNode l count text n → m ≡ n
one_bad_node l count text m n b c = by (cases_lt (length b.before) (length c.before))
  where
    same : length b.before ≡ length c.before → m ≡ n
    same long = b.numbered ∙ (ap (λ (k : ℕ). k + 1) long ∙ sym c.numbered)

    by_other : length c.before ≤ length b.before → (length c.before < length b.before) ⊎ (length b.before ≤ length c.before) → m ≡ n
    by_other h (inl k) = absurd (node_stands l c.before b.before c.rest b.rest (recursion_from_All Fits c.before c.fit)
        (recursion_from_All Fits b.before b.fit) (recursion_from_All (IsAllowed l) b.before b.allowed) k (sym c.whole ∙ b.whole) c.is_bad)
    by_other h (inr k) = same (omega (arith, h, k))

    by : (length b.before < length c.before) ⊎ (length c.before ≤ length b.before) → m ≡ n
    by (inl h) = absurd (node_stands l b.before c.before b.rest c.rest (recursion_from_All Fits b.before b.fit)
        (recursion_from_All Fits c.before c.fit) (recursion_from_All (IsAllowed l) c.before c.allowed) h (sym b.whole ∙ c.whole) b.is_bad)
    by (inr h) = by_other h (cases_lt (length c.before) (length b.before))

pub one_end : (text : List ℕ) (m n : ℕ) → InEnd text m → InEnd text n → m ≡ n
one_end = one_line IsPlain end_text (λ v. InNothing) end_once (λ v rest m n b c. b.1 ∙ sym c.1)

one_nodes : (l : Limits) (count : ℕ) (text : List ℕ) (m n : ℕ) → InNodes l count text m → InNodes l count text n → m ≡ n
one_nodes l count text m n (inl b) (inl c) = one_bad_node l count text m n b c
one_nodes l count text m n (inl b) (inr c) = absurd (no_bad_node l count c.value c.rest text m c.is_good c.whole b)
one_nodes l count text m n (inr b) (inl c) = absurd (no_bad_node l count b.value b.rest text n b.is_good b.whole c)
one_nodes l count text m n (inr b) (inr c) =
    one_behind (AreNodes l count) tree_text length (λ ns. InEnd) (tree_once l count) (λ v. one_end) text m n b c

one_tree : (l : Limits) → AreSmall l → (text : List ℕ) (m n : ℕ) → InTree l text m → InTree l text n → m ≡ n
one_tree l small =
    let most = small.lines in
    one_line (AreFewLines l) tree_head (InNodes l) (number_line_once (codes "tree ") 1 l.lines (omega (arith, most))) (one_nodes l)

-- ---- the solution

one_bad_number : (count : ℕ) (text : List ℕ) (m n : ℕ) → IsBadNumber count text m → IsBadNumber count text n → m ≡ n
one_bad_number count text m n b c = by (cases_lt (length b.before) (length c.before))
  where
    same : length b.before ≡ length c.before → m ≡ n
    same long = b.numbered ∙ (ap (λ (k : ℕ). k / NUMBERS + 1) long ∙ sym c.numbered)

    by_other : length c.before ≤ length b.before → (length c.before < length b.before) ⊎ (length b.before ≤ length c.before) → m ≡ n
    by_other h (inl k) = absurd (number_stands count 0 (length c.before) c.before b.before c.rest b.rest
        (recursion_from_All IsShort c.before c.short) (recursion_from_All IsShort b.before b.short) (omega arith) k (sym c.whole ∙ b.whole) c.is_bad)
    by_other h (inr k) = same (omega (arith, h, k))

    by : (length b.before < length c.before) ⊎ (length c.before ≤ length b.before) → m ≡ n
    by (inl h) = absurd (number_stands count 0 (length b.before) b.before c.before b.rest c.rest
        (recursion_from_All IsShort b.before b.short) (recursion_from_All IsShort c.before c.short) (omega arith) h (sym b.whole ∙ c.whole) b.is_bad)
    by (inr h) = by_other h (cases_lt (length c.before) (length b.before))

numbers_told : (count : ℕ) → Once (AreNumbers count) numbers_text
numbers_told count v w a b gv gw e =
    let one_way = gv.0 in
    let other = gw.0 in
    numbers_once count 0 v w a b (recursion_from_All IsShort v gv.1) (recursion_from_All IsShort w gw.1) (gv.0 ∙ sym gw.0)
    (ap (λ (n : ℕ). numbers_from n 0 v ++ a) (sym one_way) ∙ (e ∙ ap (λ (n : ℕ). numbers_from n 0 w ++ b) other))

one_numbers : (l : Limits) → AreSmall l → (count : ℕ) (text : List ℕ) (m n : ℕ) → InNumbers l count text m → InNumbers l count text n
    → m ≡ n
one_numbers l small count text m n (inl b) (inl c) = one_bad_number count text m n b c
one_numbers l small count text m n (inl b) (inr c) = absurd (no_bad_number count c.value c.rest text m c.is_good c.whole b)
one_numbers l small count text m n (inr b) (inl c) = absurd (no_bad_number count b.value b.rest text n b.is_good b.whole c)
one_numbers l small count text m n (inr b) (inr c) =
    one_behind (AreNumbers count) numbers_text numbers_lines (λ xs. InTree l) (numbers_told count) (λ v. one_tree l small) text m n b c

one_solution : (l : Limits) → AreSmall l → (text : List ℕ) (m n : ℕ) → InSolution l text m → InSolution l text n → m ≡ n
one_solution l small = one_line IsShort solution_head (InNumbers l) (short_once (codes "solution ")) (one_numbers l small)

-- ---- the listing

one_bad_code : (l : Limits) → AreSmall l → (count : ℕ) (text : List ℕ) (m n : ℕ) → IsBadCode l count text m → IsBadCode l count text n
    → m ≡ n
one_bad_code l small count text m n (inl b) (inl c) = one_bad_within l.frame small.frame (first_lines count text) m n b.1 c.1
one_bad_code l small count text m n (inl b) (inr c) = absurd (let long = b.0 in let short = c.0 in omega (arith, long, short))
one_bad_code l small count text m n (inr b) (inl c) = absurd (let long = c.0 in let short = b.0 in omega (arith, long, short))
one_bad_code l small count text m n (inr b) (inr c) = one_bad_within l.frame small.frame (text ++ codes "?") m n b.1 c.1

one_code : (l : Limits) → AreSmall l → (count : ℕ) (text : List ℕ) (m n : ℕ) → InCode l count text m → InCode l count text n → m ≡ n
one_code l small count text m n (inl b) (inl c) = one_bad_code l small count text m n b c
one_code l small count text m n (inl b) (inr c) = absurd (no_bad_code l small count c.value c.rest text m c.is_good c.whole b)
one_code l small count text m n (inr b) (inl c) = absurd (no_bad_code l small count b.value b.rest text n b.is_good b.whole c)
one_code l small count text m n (inr b) (inr c) =
    one_behind (HasLines l count) code_text (lines_in_code count) (λ k. InSolution l)
    (λ v w x y gv gw e. codes_once v w x y (gv.0 ∙ sym gw.0) e) (λ v. one_solution l small) text m n b c

one_listing : (l : Limits) → AreSmall l → (text : List ℕ) (m n : ℕ) → InListing l text m → InListing l text n → m ≡ n
one_listing l small = one_line IsShort listing_head (InCode l) (short_once (codes "listing ")) (one_code l small)

-- ---- the answer and the head

one_bound : (l : Limits) → AreSmall l → (text : List ℕ) (m n : ℕ) → InBound l text m → InBound l text n → m ≡ n
one_bound l small = one_line IsLong bound_text (λ bound. InListing l) (long_once (codes "bound ")) (λ v. one_listing l small)

one_cost : (l : Limits) → AreSmall l → (text : List ℕ) (m n : ℕ) → InCost l text m → InCost l text n → m ≡ n
one_cost l small = one_line IsLong cost_text (λ cost. InBound l) (long_once (codes "cost ")) (λ v. one_bound l small)

one_behind_kind : (l : Limits) → AreSmall l → (kind : Kind) (text : List ℕ) (m n : ℕ) → BehindKind l kind text m → BehindKind l kind text n
    → m ≡ n
one_behind_kind l small KindOf.Code = one_cost l small
one_behind_kind l small KindOf.Infeasible = one_tree l small
one_behind_kind l small KindOf.Spent = one_tree l small

one_answer : (l : Limits) → AreSmall l → (text : List ℕ) (m n : ℕ) → InAnswer l text m → InAnswer l text n → m ≡ n
one_answer l small = one_line IsAny kind_text (BehindKind l) kind_once (one_behind_kind l small)

one_model : (l : Limits) → AreSmall l → (text : List ℕ) (m n : ℕ) → InModel l text m → InModel l text n → m ≡ n
one_model l small = one_line (AreSettings l) settings_text (λ settings. InAnswer l) (settings_once l small) (λ v. one_answer l small)

one_function : (l : Limits) → AreSmall l → (text : List ℕ) (m n : ℕ) → InFunction l text m → InFunction l text n → m ≡ n
one_function l small = one_line IsName function_text (λ name. InModel l) function_once (λ v. one_model l small)

-- ---- texts

pub one_report_line : (text : List ℕ) (m n : ℕ) → IsFirstBad text m → IsFirstBad text n → m ≡ n
one_report_line =
    one_line IsVersion version_text (λ v. InFunction (limits_of v)) (number_line_once (codes "unison ") 1 LAST (omega arith))
    (λ v. one_function (limits_of v) (limits_small v))

pub report_not_bad : (text : List ℕ) (r : Report) (line : ℕ) → IsReportRead text r → IsFirstBad text line → ⊥
report_not_bad text r line h bad =
    text_is_good text r.version r.name r.options r.nodes r.answer (length r.tree.nodes.items) r.tree.nodes.items line
    (report_parts text r h.is_report h.spelled) (refl, h.is_report.fit, h.is_report.allowed) bad

-- ---- the numbers of a solution alone

one_last : (count : ℕ) (text : List ℕ) (m n : ℕ) → InLastNumbers count text m → InLastNumbers count text n → m ≡ n
one_last count text m n (inl b) (inl c) = one_bad_number count text m n b c
one_last count text m n (inl b) (inr c) = absurd (no_bad_number count c.value c.rest text m c.is_good c.whole b)
one_last count text m n (inr b) (inl c) = absurd (no_bad_number count b.value b.rest text n b.is_good b.whole c)
one_last count text m n (inr b) (inr c) =
    one_behind (AreNumbers count) numbers_text numbers_lines (λ xs. InNothing) (numbers_told count) (λ v rest m n b c. b.1 ∙ sym c.1) text m n b c

pub one_numbers_line : (text : List ℕ) (m n : ℕ) → IsFirstBadAlone text m → IsFirstBadAlone text n → m ≡ n
one_numbers_line = one_line IsShort solution_head InLastNumbers (short_once (codes "solution ")) one_last
