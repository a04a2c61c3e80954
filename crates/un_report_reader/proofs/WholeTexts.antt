-- Reports are told by their texts, and no line of one is bad.
use Rattle.std.proofs.Common.{◌≡◌, ℕ, ◌-◌, ◌^◌, inl, inr, List, [], ◌∷◌, ◌++◌, All, codes, decimal, length}
use Rattle.std.proofs.Common.{refl, sym, ap, ◌∙◌, subst, arith, append_assoc}
use Rattle.un_isa.specs.Versions.{IsVersion}
use Rattle.un_isa.specs.declared.table.TheConstants.{LAST}
use Rattle.un_listing.specs.Listing.{code_lines, code_text}
use Rattle.un_model.specs.declared.model.Options.{Options}
use Rattle.un_model.specs.declared.model.Solution.{Solution}
use Rattle.un_packet.specs.declared.code.Code.{Code as CodeValue}
use Rattle.un_report.specs.Reports.{numbers_from, numbers_text, listing_text, solution_text, answer_text, report_text}
use Rattle.un_report.specs.Views.{IsViewOf, view_text}
use Rattle.un_report.specs.declared.report.Answered.{Answered}
use Rattle.un_report.specs.declared.report.Answered.TheVariants.{Code, Infeasible, Spent}
use Rattle.un_report.specs.declared.report.Report.{Report}
use Rattle.un_report.specs.declared.view.ReportView.{ReportView}
use Rattle.un_report_reader.specs.Answers.{IsListed, AreValues, kind_of, IsAnswer, behind_kind}
use Rattle.un_report_reader.specs.FirstBad.{BehindKind, InVersion, InFunction, InModel, InAnswer, InCost, InBound, InListing, InCode}
use Rattle.un_report_reader.specs.FirstBad.{InSolution, InNumbers, InTree, InNodes, InEnd, InNothing, numbers_lines, lines_in_code}
use Rattle.un_report_reader.specs.Limits.{AreSmall, AreFewLines, IsAllowed, limits_of}
use Rattle.un_report_reader.specs.Lines.{version_text, IsName, function_text, AreSettings, settings_text, IsAny, kind_text}
use Rattle.un_report_reader.specs.Lines.{number_text, IsLong, IsShort, cost_text, bound_text, listing_head, HasLines, solution_head, AreNumbers}
use Rattle.un_report_reader.specs.Lines.{tree_head, AreNodes, IsPlain, end_text}
use Rattle.un_report_reader.specs.Readings.{IsReport, IsView, IsErrorOf}
use Rattle.un_report_reader.specs.declared.error.ReportError.{ReportError}
use Rattle.un_report_reader.specs.declared.limits.Limits.{Limits}
use Rattle.un_report_reader.specs.declared.error.ReportError.TheVariants.{NoMemory, BadReport}
use Rattle.un_report_reader.proofs.Behind.{listing_seam, solution_seam, answer_seam, four_parts}
use Rattle.un_report_reader.proofs.LimitLaws.{limits_small}
use Rattle.un_report_reader.proofs.Listings.{codes_once, no_bad_code}
use Rattle.un_report_reader.proofs.Seams.{woven}
use Rattle.un_report_reader.proofs.NumberLaws.{numbers_once, no_bad_number}
use Rattle.un_report_reader.proofs.Once.{Once, good_behind, good_line, number_line_once, function_once, settings_once, kind_once, tree_once}
use Rattle.un_report_reader.proofs.Once.{no_bad_node, end_once}
use Rattle.std.proofs.lemmas.List.Elements.{recursion_from_All}
use Rattle.un_tree.specs.Texts.{tree_text}
use Rattle.un_tree.specs.declared.node.Node.{Node}

-- ---- the parts, each told by its text

long_once : (word : List ℕ) → Once IsLong (number_text word)
long_once word = number_line_once word 0 (2 ^ 64 - 1) (omega arith)

pub short_once : (word : List ℕ) → Once IsShort (number_text word)
short_once word = number_line_once word 0 (2 ^ 32 - 1) (omega arith)

count_once : (l : Limits) → AreSmall l → Once (AreFewLines l) tree_head
count_once l small = let most = small.lines in number_line_once (codes "tree ") 1 l.lines (omega (arith, most))

version_once : Once IsVersion version_text
version_once = number_line_once (codes "unison ") 1 LAST (omega arith)

code_once : (l : Limits) (count : ℕ) → Once (HasLines l count) code_text
code_once l count v w a b gv gw e = codes_once v w a b (gv.0 ∙ sym gw.0) e

pub solution_once : (count : ℕ) → Once (AreNumbers count) numbers_text
solution_once count v w a b gv gw e =
    let one_way = gv.0 in
    let other = gw.0 in
    numbers_once count 0 v w a b (recursion_from_All IsShort v gv.1) (recursion_from_All IsShort w gw.1) (gv.0 ∙ sym gw.0)
    (ap (λ (n : ℕ). numbers_from n 0 v ++ a) (sym one_way) ∙ (e ∙ ap (λ (n : ℕ). numbers_from n 0 w ++ b) other))

-- ---- no line is bad

tree_is_good : (l : Limits) → AreSmall l → (count : ℕ) (nodes : List Node) (text : List ℕ) (line : ℕ) → AreFewLines l count → AreNodes l count nodes
    → text ≡ tree_head count ++ (tree_text nodes ++ codes "end\n") → InTree l text line → ⊥
tree_is_good l small count nodes text line some are is bad =
    good_line (AreFewLines l) tree_head (InNodes l) (count_once l small) count text (tree_text nodes ++ codes "end\n") line some is
    (λ k in_nodes. by k in_nodes) bad
  where
    ended : (k : ℕ) → InEnd (codes "end\n") k → ⊥
    ended k in_end = good_line IsPlain end_text (λ v. InNothing) end_once tt (codes "end\n") [] k tt refl (λ j nothing. nothing.0 refl) in_end

    by : (k : ℕ) → InNodes l count (tree_text nodes ++ codes "end\n") k → ⊥
    by k (inl own) = no_bad_node l count nodes (codes "end\n") (tree_text nodes ++ codes "end\n") k are refl own
    by k (inr behind) =
        good_behind (AreNodes l count) tree_text length (λ ns. InEnd) (tree_once l count) nodes (tree_text nodes ++ codes "end\n")
        (codes "end\n") k are refl ended behind

solution_is_good : (l : Limits) (xs text rest : List ℕ) (line : ℕ) → AreValues xs → text ≡ solution_text xs ++ rest → ((k : ℕ) → InTree l rest k → ⊥)
    → InSolution l text line → ⊥
solution_is_good l xs text rest line are is none bad =
    good_line IsShort solution_head (InNumbers l) (short_once (codes "solution ")) (length xs) text (numbers_text xs ++ rest) line are.0
    (is ∙ solution_seam xs rest) (λ k in_numbers. by k in_numbers) bad
  where
    by : (k : ℕ) → InNumbers l (length xs) (numbers_text xs ++ rest) k → ⊥
    by k (inl own) = no_bad_number (length xs) xs rest (numbers_text xs ++ rest) k (refl, are.1) refl own
    by k (inr behind) =
        good_behind (AreNumbers (length xs)) numbers_text numbers_lines (λ ys. InTree l) (solution_once (length xs)) xs
        (numbers_text xs ++ rest) rest k (refl, are.1) refl none behind

listing_is_good : (l : Limits) → AreSmall l → (c : CodeValue) (text rest : List ℕ) (line : ℕ) → IsListed l c → text ≡ listing_text c ++ rest
    → ((k : ℕ) → InSolution l rest k → ⊥) → InListing l text line → ⊥
listing_is_good l small c text rest line listed is none bad =
    good_line IsShort listing_head (InCode l) (short_once (codes "listing ")) (length (code_lines c)) text (code_text c ++ rest) line listed.0
    (is ∙ listing_seam c rest) (λ k in_code. by k in_code) bad
  where
    by : (k : ℕ) → InCode l (length (code_lines c)) (code_text c ++ rest) k → ⊥
    by k (inl own) = no_bad_code l small (length (code_lines c)) c rest (code_text c ++ rest) k (refl, listed.1) refl own
    by k (inr behind) =
        good_behind (HasLines l (length (code_lines c))) code_text (lines_in_code (length (code_lines c))) (λ d. InSolution l)
        (code_once l (length (code_lines c))) c (code_text c ++ rest) rest k (refl, listed.1) refl none behind

parts_are_good : (l : Limits) → AreSmall l → (cost bound : ℕ) (code : CodeValue) (xs text rest : List ℕ) (line : ℕ) → IsLong cost → IsLong bound → IsListed l code
    → AreValues xs → text ≡ (cost_text cost ++ (bound_text bound ++ (listing_text code ++ solution_text xs))) ++ rest
    → ((k : ℕ) → InTree l rest k → ⊥) → InCost l text line → ⊥
parts_are_good l small cost bound code xs text rest line gc gb gl gv is none bad =
    let behind_code : List ℕ = solution_text xs ++ rest in
    let behind_bound : List ℕ = listing_text code ++ behind_code in
    let in_code = λ (k : ℕ) (b : InSolution l behind_code k). solution_is_good l xs behind_code rest k gv refl none b in
    let in_bound = λ (k : ℕ) (b : InListing l behind_bound k). listing_is_good l small code behind_bound behind_code k gl refl in_code b in
    let in_cost = λ (k : ℕ) (b : InBound l (bound_text bound ++ behind_bound) k).
    good_line IsLong bound_text (λ n. InListing l) (long_once (codes "bound ")) bound (bound_text bound ++ behind_bound) behind_bound k gb refl
    in_bound b in
    good_line IsLong cost_text (λ n. InBound l) (long_once (codes "cost ")) cost text (bound_text bound ++ behind_bound) line gc
    (is ∙ (four_parts (cost_text cost) (bound_text bound) (listing_text code) (solution_text xs) rest
    ∙ append_assoc (cost_text cost) (bound_text bound) behind_bound)) in_cost bad

answer_is_good : (l : Limits) → AreSmall l → (a : Answered) (text rest : List ℕ) (line : ℕ) → IsAnswer l a → text ≡ answer_text a ++ rest → ((k : ℕ) → InTree l rest k → ⊥)
    → InAnswer l text line → ⊥
answer_is_good l small a text rest line good is none bad =
    good_line IsAny kind_text (BehindKind l) kind_once (kind_of a) text (behind_kind a ++ rest) line tt (is ∙ answer_seam a rest)
    (λ k b. by a good k b) bad
  where
    by : (x : Answered) → IsAnswer l x → (k : ℕ) → BehindKind l (kind_of x) (behind_kind x ++ rest) k → ⊥
    by (Code cost bound code solution) g k b =
        parts_are_good l small cost bound code solution.values (behind_kind (Code cost bound code solution) ++ rest) rest k g.0 g.1 g.2 g.3 refl none b
    by Infeasible g k b = none k b
    by Spent g k b = none k b

-- the text of a report in these parts
pub record IsText (text : List ℕ) (version : ℕ) (name : List ℕ) (options : Options) (nodes : ℕ) (answer : Answered) (count : ℕ) (tree : List ℕ) : Type 0 where
  pub versioned : IsVersion version
  pub named : IsName name
  pub settled : AreSettings (limits_of version) (options, nodes)
  pub answered : IsAnswer (limits_of version) answer
  pub counted : AreFewLines (limits_of version) count
  pub whole : text ≡ version_text version ++ (function_text name ++ (settings_text (options, nodes) ++ (answer_text answer
      ++ (tree_head count ++ (tree ++ codes "end\n")))))

pub text_is_good : (text : List ℕ) (version : ℕ) (name : List ℕ) (options : Options) (nodes : ℕ) (answer : Answered) (count : ℕ) (ns : List Node) (line : ℕ)
    → IsText text version name options nodes answer count (tree_text ns) → AreNodes (limits_of version) count ns → InVersion text line → ⊥
text_is_good text version name options nodes answer count ns line h are bad =
    let l : Limits = limits_of version in
    let small = limits_small version in
    let tree : List ℕ = tree_head count ++ (tree_text ns ++ codes "end\n") in
    let answered : List ℕ = answer_text answer ++ tree in
    let settled : List ℕ = settings_text (options, nodes) ++ answered in
    let in_tree = λ (k : ℕ) (b : InTree l tree k). tree_is_good l small count ns tree k h.counted are refl b in
    let in_answer = λ (k : ℕ) (b : InAnswer l answered k). answer_is_good l small answer answered tree k h.answered refl in_tree b in
    let in_model = λ (k : ℕ) (b : InModel l settled k).
    good_line (AreSettings l) settings_text (λ s. InAnswer l) (settings_once l small) (options, nodes) settled answered k h.settled refl in_answer b in
    let in_function = λ (k : ℕ) (b : InFunction l (function_text name ++ settled) k).
    good_line IsName function_text (λ n. InModel l) function_once name (function_text name ++ settled) settled k h.named refl in_model b in
    good_line IsVersion version_text (λ v. InFunction (limits_of v)) version_once version text (function_text name ++ settled) line
    h.versioned h.whole in_function bad

-- ---- told by the text

listing_once : (l : Limits) → Once (IsListed l) listing_text
listing_once l c d a b gc gd e =
    let heads = short_once (codes "listing ") (length (code_lines c)) (length (code_lines d)) (code_text c ++ a) (code_text d ++ b) gc.0 gd.0
    (sym (listing_seam c a) ∙ (e ∙ listing_seam d b)) in
    codes_once c d a b heads.0 heads.1

pub values_once : Once AreValues solution_text
values_once xs ys a b gv gw e =
    let heads = short_once (codes "solution ") (length xs) (length ys) (numbers_text xs ++ a) (numbers_text ys ++ b) gv.0 gw.0
    (sym (solution_seam xs a) ∙ (e ∙ solution_seam ys b)) in
    solution_once (length xs) xs ys a b (refl, gv.1) (sym heads.0, gw.1) heads.1

parts_seam : (cost bound : ℕ) (code : CodeValue) (xs rest : List ℕ)
    → (cost_text cost ++ (bound_text bound ++ (listing_text code ++ solution_text xs))) ++ rest
    ≡ cost_text cost ++ (bound_text bound ++ (listing_text code ++ (solution_text xs ++ rest)))
parts_seam cost bound code xs rest =
    four_parts (cost_text cost) (bound_text bound) (listing_text code) (solution_text xs) rest
    ∙ append_assoc (cost_text cost) (bound_text bound) (listing_text code ++ (solution_text xs ++ rest))

codes_told : (l : Limits) (c d m n : ℕ) (f g : CodeValue) (s t : Solution) (a b : List ℕ) → IsAnswer l (Code c m f s) → IsAnswer l (Code d n g t)
    → behind_kind (Code c m f s) ++ a ≡ behind_kind (Code d n g t) ++ b → (Code c m f s ≡ Code d n g t) × (a ≡ b)
codes_told l c d m n f g s t a b h k e =
    let costs = long_once (codes "cost ") c d _ _ h.0 k.0 (sym (parts_seam c m f s.values a) ∙ (e ∙ parts_seam d n g t.values b)) in
    let bounds = long_once (codes "bound ") m n _ _ h.1 k.1 costs.1 in
    let listings = listing_once l f g _ _ h.2 k.2 bounds.1 in
    let values = values_once s.values t.values a b h.3 k.3 listings.1 in (
      ap (λ (x : ℕ). Code x m f s) costs.0
          ∙ (ap (λ (x : ℕ). Code d x f s) bounds.0
          ∙ (ap (λ (x : CodeValue). Code d n x s) listings.0 ∙ ap (λ (x : List ℕ). Code d n g (record { values = x })) values.0)),
      values.1,
    )

answer_once : (l : Limits) → Once (IsAnswer l) answer_text
answer_once l x y a b gx gy e = by x y gx gy (kind_once (kind_of x) (kind_of y) (behind_kind x ++ a) (behind_kind y ++ b) tt tt
    (sym (answer_seam x a) ∙ (e ∙ answer_seam y b)))
  where
    by : (v w : Answered) → IsAnswer l v → IsAnswer l w → (kind_of v ≡ kind_of w) × (behind_kind v ++ a ≡ behind_kind w ++ b)
        → (v ≡ w) × (a ≡ b)
    by (Code c m f s) (Code d n g t) h k both = codes_told l c d m n f g s t a b h k both.1
    by (Code c m f s) Infeasible h k both = absurd (cc both.0)
    by (Code c m f s) Spent h k both = absurd (cc both.0)
    by Infeasible (Code d n g t) h k both = absurd (cc both.0)
    by Infeasible Infeasible h k both = (refl, both.1)
    by Infeasible Spent h k both = absurd (cc both.0)
    by Spent (Code d n g t) h k both = absurd (cc both.0)
    by Spent Infeasible h k both = absurd (cc both.0)
    by Spent Spent h k both = (refl, both.1)

-- what a text tells
pub record AreTold (version version' : ℕ) (name name' : List ℕ) (options options' : Options) (nodes nodes' : ℕ) (answer answer' : Answered) (count count' : ℕ)
    (ns ns' : List Node) : Type 0 where
  pub same_version : version ≡ version'
  pub same_name : name ≡ name'
  pub same_options : options ≡ options'
  pub same_nodes : nodes ≡ nodes'
  pub same_answer : answer ≡ answer'
  pub same_count : count ≡ count'
  pub same_tree : ns ≡ ns'

pub told : (text : List ℕ) (version version' : ℕ) (name name' : List ℕ) (options options' : Options) (nodes nodes' : ℕ) (answer answer' : Answered) (count count' : ℕ)
    (ns ns' : List Node) → IsText text version name options nodes answer count (tree_text ns)
    → IsText text version' name' options' nodes' answer' count' (tree_text ns') → AreNodes (limits_of version) count ns
    → AreNodes (limits_of version') count' ns'
    → AreTold version version' name name' options options' nodes nodes' answer answer' count count' ns ns'
told text version version' name name' options options' nodes nodes' answer answer' count count' ns ns' h k are are' =
    let versions = version_once version version' _ _ h.versioned k.versioned (sym h.whole ∙ k.whole) in
    let l : Limits = limits_of version' in
    let small = limits_small version' in
    let settled = subst (λ (v : ℕ). AreSettings (limits_of v) (options, nodes)) versions.0 h.settled in
    let answered = subst (λ (v : ℕ). IsAnswer (limits_of v) answer) versions.0 h.answered in
    let counted = subst (λ (v : ℕ). AreFewLines (limits_of v) count) versions.0 h.counted in
    let names = function_once name name' _ _ h.named k.named versions.1 in
    let settings = settings_once l small (options, nodes) (options', nodes') _ _ settled k.settled names.1 in
    let answers = answer_once l answer answer' _ _ answered k.answered settings.1 in
    let counts = count_once l small count count' _ _ counted k.counted answers.1 in
    let long = are.0 in
    let long' = are'.0 in
    let same = counts.0 in
    let allowed = subst (λ (v : ℕ). All (IsAllowed (limits_of v)) ns) versions.0 are.2 in
    let trees = tree_once l count' ns ns' (codes "end\n") (codes "end\n") (omega (arith, long, same), are.1, allowed) are' counts.1 in
    record {
      same_version = versions.0;
      same_name = names.0;
      same_options = ap (λ (s : Options × ℕ). s.0) settings.0;
      same_nodes = ap (λ (s : Options × ℕ). s.1) settings.0;
      same_answer = answers.0;
      same_count = counts.0;
      same_tree = trees.0;
    }

-- ---- the text in these parts, as it is printed

abbrev pub front : ℕ → List ℕ → Options → ℕ → List ℕ
front version name options nodes =
    codes "unison " ++ decimal version ++ codes "\nfunction " ++ name ++ codes "\n" ++ settings_text (options, nodes)

abbrev pub last : ℕ → List ℕ → List ℕ
last count tree = codes "tree " ++ decimal count ++ codes "\n" ++ tree ++ codes "end\n"

abbrev pub flat : ℕ → List ℕ → Options → ℕ → Answered → ℕ → List ℕ → List ℕ
flat version name options nodes answer count tree = front version name options nodes ++ answer_text answer ++ last count tree

tree_seam : (count : ℕ) (tree : List ℕ) → last count tree ≡ tree_head count ++ (tree ++ codes "end\n")
tree_seam count tree = ap (λ (t : List ℕ). codes "tree " ++ t) (append_assoc (decimal count ++ 10 ∷ []) tree (codes "end\n"))

-- the head before more text
pub head_seam : (version : ℕ) (name : List ℕ) (options : Options) (nodes : ℕ) (rest : List ℕ)
    → front version name options nodes ++ rest ≡ version_text version ++ (function_text name ++ (settings_text (options, nodes) ++ rest))
head_seam version name options nodes rest = by (decimal version) (settings_text (options, nodes))
  where
    by : (digits settings : List ℕ)
        → (codes "unison " ++ digits ++ codes "\nfunction " ++ name ++ codes "\n" ++ settings) ++ rest
        ≡ (codes "unison " ++ (digits ++ codes "\n")) ++ (function_text name ++ (settings ++ rest))
    by digits settings =
        ap (λ (t : List ℕ). codes "unison " ++ t)
        (append_assoc (((digits ++ codes "\nfunction ") ++ name) ++ 10 ∷ []) settings rest
        ∙ woven digits (codes "function ") name (settings ++ rest))

pub flat_seam : (version : ℕ) (name : List ℕ) (options : Options) (nodes : ℕ) (answer : Answered) (count : ℕ) (tree : List ℕ)
    → flat version name options nodes answer count tree
    ≡ version_text version ++ (function_text name ++ (settings_text (options, nodes) ++ (answer_text answer
    ++ (tree_head count ++ (tree ++ codes "end\n")))))
flat_seam version name options nodes answer count tree =
    append_assoc (front version name options nodes) (answer_text answer) (last count tree)
    ∙ (head_seam version name options nodes (answer_text answer ++ last count tree)
    ∙ ap (λ (t : List ℕ). version_text version ++ (function_text name ++ (settings_text (options, nodes) ++ (answer_text answer ++ t))))
    (tree_seam count tree))

-- ---- reports and their views

pub report_parts : (text : List ℕ) (r : Report) → IsReport r → text ≡ report_text r
    → IsText text r.version r.name r.options r.nodes r.answer (length r.tree.nodes.items) (tree_text r.tree.nodes.items)
report_parts text r h is = record {
  versioned = h.version;
  named = h.name;
  settled = (h.options, h.nodes);
  answered = h.answer;
  counted = h.count;
  whole = is ∙ flat_seam r.version r.name r.options r.nodes r.answer (length r.tree.nodes.items) (tree_text r.tree.nodes.items);
}

pub view_parts : (text : List ℕ) (v : ReportView) (h : IsView v) → text ≡ view_text v
    → IsText text v.version v.name.now v.options v.nodes v.answer v.count (tree_text h.tree.nodes)
view_parts text v h is = record {
  versioned = h.version;
  named = h.name;
  settled = (h.options, h.nodes);
  answered = h.answer;
  counted = h.count;
  whole = is ∙ (flat_seam v.version v.name.now v.options v.nodes v.answer v.count v.tree.now
      ∙ ap (λ (t : List ℕ). version_text v.version ++ (function_text v.name.now ++ (settings_text (v.options, v.nodes)
      ++ (answer_text v.answer ++ (tree_head v.count ++ (t ++ codes "end\n")))))) h.tree.spelled);
}

-- the view that is read is that of the report
pub view_back : (text : List ℕ) (r : Report) (v : ReportView) → IsReport r → text ≡ report_text r → (h : IsView v) → text ≡ view_text v
    → IsViewOf r v
view_back text r v good is h spelled =
    let t = told text v.version r.version v.name.now r.name v.options r.options v.nodes r.nodes v.answer r.answer v.count (length r.tree.nodes.items)
    h.tree.nodes r.tree.nodes.items (view_parts text v h spelled) (report_parts text r good is) h.tree.are (refl, good.fit, good.allowed) in
    record {
      version = t.same_version;
      name = t.same_name;
      options = t.same_options;
      nodes = t.same_nodes;
      answer = t.same_answer;
      tree = h.tree.spelled ∙ ap tree_text t.same_tree;
      count = t.same_count;
    }

-- and its text is not refused
pub error_back : (text : List ℕ) (r : Report) (e : ReportError) → IsReport r → text ≡ report_text r → IsErrorOf text e → e ≡ NoMemory
error_back text r NoMemory good is bad = refl
error_back text r (BadReport line) good is bad =
    absurd (text_is_good text r.version r.name r.options r.nodes r.answer (length r.tree.nodes.items) r.tree.nodes.items line
    (report_parts text r good is) (refl, good.fit, good.allowed) bad)
