-- Each part of a report is told by its text, and no line of it is bad.
use Rattle.std.proofs.Common.{◌≡◌, ◌≢◌, ℕ, ◌+◌, ◌%◌, ◌<◌, ◌^◌, inl, inr, true, false, List, [], ◌∷◌, ◌++◌, Option, Some, None, IfSome}
use Rattle.std.proofs.Common.{length, codes, decimal, get_or, refl, sym, ap, ◌∙◌, subst, arith}
use Rattle.std.specs.List.{AllByRecursion, list_all}
use Rattle.std.proofs.lemmas.Bool.{and_parts}
use Rattle.std.proofs.lemmas.Fmt.{decimal_by_steps, decimal_injective}
use Rattle.std.proofs.lemmas.List.Elements.{recursion_from_All}
use Rattle.un_base.specs.Names.{is_rest}
use Rattle.un_model.specs.declared.model.Options.{Options}
use Rattle.un_model.specs.Options.{IsCountOfRegisters}
use Rattle.un_report.specs.Reports.{regs_text}
use Rattle.un_report_reader.proofs.Cuts.{behind_once, number_once}
use Rattle.un_report_reader.proofs.Seams.{number_seam, function_seam, settings_seam}
use Rattle.un_report_reader.specs.FirstBad.{BeginsNoAllowed, IsBadBehind, InLine, IsBadNode}
use Rattle.un_report_reader.specs.Limits.{AreSmall, IsAllowed}
use Rattle.un_report_reader.specs.Lines.{one, number_text, IsName, function_text, AreSettings, settings_text, IsAny, kind_text, AreNodes}
use Rattle.un_report_reader.specs.Lines.{IsPlain, end_text}
use Rattle.un_report_reader.specs.Parts.{IsWithin}
use Rattle.un_report_reader.specs.declared.kind.Kind.TheVariants as KindOf
use Rattle.un_report_reader.specs.declared.limits.Limits.{Limits}
use Rattle.un_base.proofs.Cuts.{cut_once}
use Rattle.un_tree.proofs.NodeLines.{digits_apart}
use Rattle.un_tree.proofs.TreeTexts.{first_once, text_cons}
use Rattle.un_tree.specs.Texts.{Fits, tree_text}
use Rattle.un_tree.specs.declared.node.Node.{Node}

-- a good value is told by its text, whatever stands behind
abbrev pub Once : {V : Type 0} → (V → Type 0) → (V → List ℕ) → Type 0
Once {V} good text_of = (v w : V) (a b : List ℕ) → good v → good w → text_of v ++ a ≡ text_of w ++ b → (v ≡ w) × (a ≡ b)

-- a part that stands is not bad, nor a line behind it where none of what follows is
pub good_behind : {V : Type 0} (good : V → Type 0) (text_of : V → List ℕ) (lines_of : V → ℕ) (later : V → List ℕ → ℕ → Type 0)
    → Once good text_of → (v : V) (text rest : List ℕ) (line : ℕ) → good v → text ≡ text_of v ++ rest
    → ((k : ℕ) → later v rest k → ⊥) → IsBadBehind good text_of lines_of later text line → ⊥
good_behind {V} good text_of lines_of later once v text rest line g is none bad =
    let same = once bad.value v bad.rest rest bad.is_good g (sym bad.whole ∙ is) in
    none bad.behind (subst (λ (t : List ℕ). later v t bad.behind) same.1
    (subst (λ (w : V). later w bad.rest bad.behind) same.0 bad.is_bad))

pub good_line : {V : Type 0} (good : V → Type 0) (text_of : V → List ℕ) (later : V → List ℕ → ℕ → Type 0)
    → Once good text_of → (v : V) (text rest : List ℕ) (line : ℕ) → good v → text ≡ text_of v ++ rest
    → ((k : ℕ) → later v rest k → ⊥) → InLine good text_of later text line → ⊥
good_line good text_of later once v text rest line g is none (inl bad) = bad.0 v rest g is
good_line good text_of later once v text rest line g is none (inr bad) =
    good_behind good text_of one later once v text rest line g is none bad

-- ---- lines of a number

pub number_line_once : (word : List ℕ) (least most : ℕ) → most < 2 ^ 64 → Once (IsWithin least most) (number_text word)
number_line_once word least most small v w a b gv gw e =
    number_once word 10 v w a b (omega arith) (omega (arith, gv.1, small)) (omega (arith, gw.1, small))
    (sym (number_seam word v a) ∙ (e ∙ number_seam word w b))

-- ---- the name

no_feed : (b : ℕ) → is_rest b ≡ true → b ≢ 10
no_feed b h e = let k : true ≡ false = sym h ∙ ap is_rest e in cc k

rest_free : (bs : List ℕ) → list_all is_rest bs ≡ true → AllByRecursion (λ y. y ≢ 10) bs
rest_free [] h = tt
rest_free (b ∷ bs) h = let parts = and_parts (is_rest b) (list_all is_rest bs) h in (no_feed b parts.0, rest_free bs parts.1)

pub name_free : (name : List ℕ) → IsName name → AllByRecursion (λ y. y ≢ 10) name
name_free name h = rest_free name (and_parts _ (list_all is_rest name) h).1

pub function_once : Once IsName function_text
function_once v w a b gv gw e =
    cut_once 10 v w a b (name_free v gv) (name_free w gw)
    (behind_once (codes "function ") (v ++ 10 ∷ a) (w ++ 10 ∷ b) (sym (function_seam v a) ∙ (e ∙ function_seam w b)))

-- ---- the settings

all_append : (P : ℕ → Type 0) (xs ys : List ℕ) → AllByRecursion P xs → AllByRecursion P ys → AllByRecursion P (xs ++ ys)
all_append P [] ys a b = b
all_append P (x ∷ xs) ys a b = (a.0, all_append P xs ys a.1 b)

digits_low : (n : ℕ) → n < 2 ^ 64 → AllByRecursion (λ y. y < 58) (decimal n)
digits_low = decimal_by_steps (λ n ds. AllByRecursion (λ y. y < 58) ds) (λ n lt. (omega arith, tt))
    (λ n ds ge h. all_append (λ y. y < 58) ds ((48 + n % 10) ∷ []) h (omega arith, tt))

all_is_none : (n : ℕ) → n < 2 ^ 64 → codes "all" ≢ decimal n
all_is_none n small e =
    let low = subst (AllByRecursion (λ y. y < 58)) (sym e) (digits_low n small) in omega (arith, low.0)

pub regs_free : (r : Option ℕ) → IfSome r IsCountOfRegisters → AllByRecursion (λ y. y ≢ 32) (regs_text r)
regs_free None h = ((λ e. omega (arith, e)), ((λ e. omega (arith, e)), ((λ e. omega (arith, e)), tt)))
regs_free (Some n) h = digits_apart 32 n (omega arith) (omega (arith, h.1))

pub regs_once : (r q : Option ℕ) → IfSome r IsCountOfRegisters → IfSome q IsCountOfRegisters → regs_text r ≡ regs_text q → r ≡ q
regs_once None None f g e = refl
regs_once None (Some n) f g e = absurd (all_is_none n (omega (arith, g.1)) e)
regs_once (Some n) None f g e = absurd (all_is_none n (omega (arith, f.1)) (sym e))
regs_once (Some m) (Some n) f g e = ap (λ (k : ℕ). Some k) (decimal_injective m n (omega (arith, f.1)) (omega (arith, g.1)) e)

abbrev made : Option ℕ → ℕ → ℕ → Options × ℕ
made regs slots nodes = (record { regs = regs; slots = slots }, nodes)

pub settings_once : (l : Limits) → AreSmall l → Once (AreSettings l) settings_text
settings_once l small v w a b gv gw e =
    let most = small.slots in
    let front = behind_once (codes "model regs ") _ _ (sym (settings_seam v a) ∙ (e ∙ settings_seam w b)) in
    let regs = cut_once 32 (regs_text v.0.regs) (regs_text w.0.regs) _ _ (regs_free v.0.regs gv.0.regs) (regs_free w.0.regs gw.0.regs) front in
    let slots = number_once (codes "slots ") 32 v.0.slots w.0.slots _ _ (omega arith) (omega (arith, gv.0.slots, most)) (omega (arith, gw.0.slots, most))
    regs.1 in
    let nodes = number_once (codes "nodes ") 10 v.1 w.1 a b (omega arith) (omega (arith, gv.1.1)) (omega (arith, gw.1.1)) slots.1 in
    let same = regs_once v.0.regs w.0.regs gv.0.regs gw.0.regs regs.0 in (
      ap (λ (r : Option ℕ). made r v.0.slots v.1) same
          ∙ (ap (λ (k : ℕ). made w.0.regs k v.1) slots.0 ∙ ap (λ (n : ℕ). made w.0.regs w.0.slots n) nodes.0),
      nodes.1,
    )

-- ---- the kind of answer

eighth : (a b : List ℕ) → a ≡ b → get_or a 7 0 ≡ get_or b 7 0
eighth a b e = ap (λ (t : List ℕ). get_or t 7 0) e

pub kind_once : Once IsAny kind_text
kind_once KindOf.Code KindOf.Code a b f g e = (refl, behind_once (codes "answer code\n") a b e)
kind_once KindOf.Code KindOf.Infeasible a b f g e = absurd (omega (arith, eighth _ _ e))
kind_once KindOf.Code KindOf.Spent a b f g e = absurd (omega (arith, eighth _ _ e))
kind_once KindOf.Infeasible KindOf.Code a b f g e = absurd (omega (arith, eighth _ _ e))
kind_once KindOf.Infeasible KindOf.Infeasible a b f g e = (refl, behind_once (codes "answer infeasible\n") a b e)
kind_once KindOf.Infeasible KindOf.Spent a b f g e = absurd (omega (arith, eighth _ _ e))
kind_once KindOf.Spent KindOf.Code a b f g e = absurd (omega (arith, eighth _ _ e))
kind_once KindOf.Spent KindOf.Infeasible a b f g e = absurd (omega (arith, eighth _ _ e))
kind_once KindOf.Spent KindOf.Spent a b f g e = (refl, behind_once (codes "answer spent\n") a b e)

-- ---- the tree

pub nodes_once : (ns ms : List Node) (a b : List ℕ) → AllByRecursion Fits ns → AllByRecursion Fits ms → length ns ≡ length ms
    → tree_text ns ++ a ≡ tree_text ms ++ b → (ns ≡ ms) × (a ≡ b)
nodes_once [] [] a b f g long e = (refl, e)
nodes_once [] (m ∷ ms) a b f g long e = absurd (omega (arith, long))
nodes_once (n ∷ ns) [] a b f g long e = absurd (omega (arith, long))
nodes_once (n ∷ ns) (m ∷ ms) a b f g long e =
    let first = first_once n m (tree_text ns ++ a) (tree_text ms ++ b) f.0 g.0 (sym (text_cons n ns a) ∙ (e ∙ text_cons m ms b)) in
    let next = nodes_once ns ms a b f.1 g.1 (omega (arith, long)) first.1 in
    (ap (λ (k : Node). k ∷ ns) first.0 ∙ ap (λ (ks : List Node). m ∷ ks) next.0, next.1)

pub tree_once : (l : Limits) (count : ℕ) → Once (AreNodes l count) tree_text
tree_once l count v w a b gv gw e =
    let one_way = gv.0 in
    let other = gw.0 in
    nodes_once v w a b (recursion_from_All Fits v gv.1) (recursion_from_All Fits w gw.1) (omega (arith, one_way, other)) e

node_stands : (l : Limits) (before ns : List Node) (rest a : List ℕ) → AllByRecursion Fits before → AllByRecursion Fits ns
    → AllByRecursion (IsAllowed l) ns → length before < length ns → tree_text before ++ rest ≡ tree_text ns ++ a → BeginsNoAllowed l rest → ⊥
node_stands l before [] rest a f g h few e none = absurd (omega (arith, few))
node_stands l [] (n ∷ ns) rest a f g h few e none = none n (tree_text ns ++ a) g.0 h.0 (e ∙ text_cons n ns a)
node_stands l (m ∷ ms) (n ∷ ns) rest a f g h few e none =
    let first = first_once m n (tree_text ms ++ rest) (tree_text ns ++ a) f.0 g.0 (sym (text_cons m ms rest) ∙ (e ∙ text_cons n ns a)) in
    node_stands l ms ns rest a f.1 g.1 h.1 (omega (arith, few)) first.1 none

pub no_bad_node : (l : Limits) (count : ℕ) (ns : List Node) (rest text : List ℕ) (line : ℕ) → AreNodes l count ns → text ≡ tree_text ns ++ rest
    → IsBadNode l count text line → ⊥
no_bad_node l count ns rest text line are is bad =
    let long = are.0 in
    let few = bad.few in
    node_stands l bad.before ns bad.rest rest (recursion_from_All Fits bad.before bad.fit) (recursion_from_All Fits ns are.1)
    (recursion_from_All (IsAllowed l) ns are.2)
    (omega (arith, long, few)) (sym bad.whole ∙ is) bad.is_bad

-- ---- the end

pub end_once : Once IsPlain end_text
end_once v w a b gv gw e = (refl, behind_once (codes "end\n") a b e)

-- ---- texts that tell no number of registers

pub no_regs : (word : List ℕ) (m : ℕ) → m < 2 ^ 64 → word ≡ decimal m → ¬ IsCountOfRegisters m → (r : Option ℕ)
    → IfSome r IsCountOfRegisters → word ≢ regs_text r
no_regs word m small is none None h e = all_is_none m small (sym e ∙ is)
no_regs word m small is none (Some n) h e =
    let same : m ≡ n = decimal_injective m n small (omega (arith, h.1)) (sym is ∙ e) in
    none (omega (arith, same, h.0), omega (arith, same, h.1))
