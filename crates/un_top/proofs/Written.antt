-- The report of a search is one that is read: its numbers are within the limits of texts.
use Rattle.std.proofs.Common.{ℕ, zero, suc, ◌≡◌, ◌+◌, ◌*◌, ◌-◌, ◌<◌, ◌≤◌, ◌^◌, Bool, Option, true, false, List, [], ◌∷◌, All, length, refl, sym, ap, ◌∙◌, subst, arith}
use Rattle.std.specs.Prelude.{slice_index, sum_by, if◌then◌else◌}
use Rattle.std.specs.List.{AllByRecursion, flat_map}
use Rattle.std.proofs.Math.Logic.{∥∥₁_elim}
use Rattle.std.proofs.Math.Bridge.{le_prop}
use Rattle.std.proofs.Props.{props}
use Rattle.std.proofs.lemmas.List.{length-append, length-map}
use Rattle.std.proofs.lemmas.List.Elements.{All-from_recursion, All-weaker, recursion_from_All}
use Rattle.std.proofs.lemmas.List.Sums.{sum_by-cons}
use Rattle.un_base.specs.Names.{is_name}
use Rattle.un_commands.specs.Settings.{IsCountOfNodes}
use Rattle.un_domains.specs.Domains.{values_of}
use Rattle.un_domains.specs.Order.{Below}
use Rattle.un_domains.specs.OrderLaws.{fold_max-le, greatest_below}
use Rattle.un_domains.specs.Sets.{Sets, set_at, greatest, IsIn}
use Rattle.un_domains.specs.declared.domain.Domain.TheVariants.{Range}
use Rattle.un_isa.specs.Versions.{IsVersion}
use Rattle.un_isa.specs.declared.table.TheConstants.{LAST}
use Rattle.un_ir.specs.Extended.{size_of}
use Rattle.un_ir.specs.Kinds.{is_optional, has_choices}
use Rattle.un_ir.specs.declared.extended.ExtBlock.{ExtBlock}
use Rattle.un_ir.specs.declared.extended.ExtOp.{ExtOp}
use Rattle.un_ir.specs.declared.extended.Operand.{Operand}
use Rattle.un_ir.specs.declared.function.Function.{Function}
use Rattle.un_listing.specs.Listing.{block_lines, packet_line}
use Rattle.un_listing_reader.proofs.CodeBack.{frame_small}
use Rattle.un_model.specs.Options.{AreOptions}
use Rattle.un_model.specs.declared.model.Options.{Options}
use Rattle.un_model.specs.Variables.{count_if, has_cycle, ops_count, blocks_count, blocks_domains, domains_of, own_horizon}
use Rattle.un_model.specs.declared.model.Model.{Model}
use Rattle.un_model.specs.declared.model.Solution.{Solution}
use Rattle.un_model.specs.Solutions.{IsSolution}
use Rattle.un_model.proofs.Numbering.{length-blocks_domains}
use Rattle.un_packet.specs.declared.code.Code.{Code as CodeValue}
use Rattle.un_packet.specs.declared.code.CodeBlock.{CodeBlock}
use Rattle.un_post.proofs.Exact.{of_domains}
use Rattle.un_post.proofs.ModelDomains.{domains_in_words}
use Rattle.un_problem.specs.Problems.{IsProblemOf}
use Rattle.un_prop.specs.Looks.{InWords}
use Rattle.un_domains.specs.Sides.{side_test}
use Rattle.un_prop.specs.Steps.{kept_below}
use Rattle.un_domains.specs.declared.side.Side.{Side}
use Rattle.un_domains.specs.declared.side.Side.TheVariants.{AtMost, Above}
use Rattle.un_tree.specs.Boxes.{half}
use Rattle.un_tree.specs.Texts.{Fits}
use Rattle.un_tree.specs.Waits.{Waiting, Whole, Begins, Inside, visits, HasSides, IsPlain, IsWhole}
use Rattle.un_tree.specs.declared.node.Node.{Node}
use Rattle.un_tree.specs.declared.node.Node.TheVariants.{Branch, Closed, Open, Split, Part}
use Rattle.un_base.specs.declared.ids.VarId.{VarId}
use Rattle.un_certificate.specs.Certificates.{IsCertificate}
use Rattle.un_certificate.specs.Joints.{blocks_of, visits_in}
use Rattle.un_model.specs.Boxes.{root_of}
use Rattle.un_check.specs.Sound.{IsSoundAnswer, IsSoundFor}
use Rattle.un_check.specs.Causes.{limit_of}
use Rattle.un_report.specs.declared.report.Answered.{Answered}
use Rattle.un_report.specs.declared.report.Answered.TheVariants.{Code, Infeasible, Spent}
use Rattle.un_report.specs.declared.report.Report.{Report}
use Rattle.un_report_reader.specs.Answers.{IsAnswer, IsListed, AreValues}
use Rattle.un_report_reader.specs.Limits.{AreWithin, AreFewLines, IsAllowed, limits_of}
use Rattle.un_report_reader.specs.Lines.{IsShort}
use Rattle.un_report_reader.specs.Readings.{IsReport}
use Rattle.un_top.specs.Searches.{AreLong}

-- ---- how many variables there are

few_operands : (b : Bool) (xs : List Operand) → length (if b then xs else []) ≤ length xs
few_operands true xs = omega arith
few_operands false xs = omega arith

one_or_none : (b : Bool) → count_if b ≤ 1
one_or_none true = omega arith
one_or_none false = omega arith

abbrev op_size : ExtOp → ℕ
op_size op = 1 + length op.operands + length op.results

abbrev block_size : ExtBlock → ℕ
block_size block = sum_by op_size block.ops

few_ops : (ops : List ExtOp) → ops_count ops ≤ 2 * sum_by op_size ops
few_ops [] = omega arith
few_ops (op ∷ ops) =
    let rest = few_ops ops in
    let all = sum_by-cons op_size op ops in
    let active = one_or_none (is_optional op.kind) in
    let cycle = one_or_none (has_cycle op.kind) in
    let choices = few_operands (has_choices op.kind) op.operands in
    omega (arith, rest, all, active, cycle, choices)

few_in_blocks : (blocks : List ExtBlock) → blocks_count blocks ≤ 2 * size_of blocks + length blocks
few_in_blocks [] = omega arith
few_in_blocks (block ∷ blocks) =
    let rest = few_in_blocks blocks in
    let all = sum_by-cons block_size block blocks in
    let ops = few_ops block.ops in
    omega (arith, rest, all, ops)

-- a model has few variables
few_variables : (f : Function) (m : Model) → IsProblemOf f m → length (root_of m) < 2 ^ 32
few_variables f m p =
    let all : length (domains_of own_horizon m.ext m.options) ≡ blocks_count m.ext.blocks + 1 =
    length-append (blocks_domains m.ext m.options own_horizon true m.ext.blocks) (Range 0 1 ∷ [])
    ∙ ap (λ (n : ℕ). n + 1) (length-blocks_domains m.ext m.options true m.ext.blocks) in
    let same : length m.domains ≡ length (domains_of own_horizon m.ext m.options) = ap (λ (x : Model). length x.domains) p.own in
    let boxes : length (root_of m) ≡ length m.domains = length-map m.domains values_of in
    let few = few_in_blocks m.ext.blocks in
    let small = p.extended.good.small in
    let blocks = p.counts.blocks in
    omega (arith, all, same, boxes, few, small, blocks)

-- and their values are small
root_in_words : (f : Function) (m : Model) → IsProblemOf f m → InWords (root_of m)
root_in_words f m p =
    subst (λ (x : Model). InWords (root_of x)) (sym p.own) (domains_in_words m.ext m.options p.extended p.fit p.options)

-- ---- the numbers of a solution

all_short : (xs : List ℕ) → ((k : ℕ) → k < length xs → slice_index xs k < 2 ^ 32) → AllByRecursion IsShort xs
all_short [] each = tt
all_short (x ∷ xs) each =
    ((omega arith, (let here = each zero (omega arith) in omega (arith, here))), all_short xs (λ k lt. each (suc k) (omega (arith, lt))))

values_short : (f : Function) (m : Model) (s : Solution) → IsProblemOf f m → IsSolution m s → AreValues s.values
values_short f m s p is =
    let there : IsIn s.values (root_of m) = (of_domains m.domains (root_of m) s.values refl).1 is.in_domains in
    let long = there.long in
    let words = root_in_words f m p in
    let few = few_variables f m p in (
      (omega arith, omega (arith, few, long)),
      All-from_recursion IsShort s.values (all_short s.values (λ k lt. words k (slice_index s.values k) (there.each k (omega (arith, lt, long))))),
    )

-- ---- the lines of a listing

count_lines : (blocks : List CodeBlock) → length (flat_map block_lines blocks) ≡ length blocks + sum_by (λ (b : CodeBlock). length b.packets) blocks
count_lines [] = refl
count_lines (b ∷ bs) =
    let rest = count_lines bs in
    let all = sum_by-cons (λ (b : CodeBlock). length b.packets) b bs in
    let own = length-map b.packets packet_line in
    let both = length-append (block_lines b) (flat_map block_lines bs) in
    omega (arith, rest, all, own, both)

code_listed : (c : CodeValue) → IsListed (limits_of LAST) c
code_listed c =
    let few_blocks = ∥∥₁_elim c.rules le_prop (λ k. k.few_blocks) in
    let few_packets = ∥∥₁_elim c.rules le_prop (λ k. k.few_packets) in
    let lines = count_lines c.blocks in
    ((omega arith, omega (arith, few_blocks, few_packets, lines)), frame_small c)

-- ---- the numbers of a tree

record IsSmall (b : Sets) : Type 0 where
  pub few : length b < 2 ^ 32
  pub low : (v : ℕ) → greatest (set_at b v) < 2 ^ 32

abbrev AllSmall : List Waiting → Type 0
AllSmall [] = Unit {0}
AllSmall (Whole b ∷ ws) = IsSmall b × AllSmall ws
AllSmall (Begins k b ∷ ws) = ⊥
AllSmall (Inside k number b ∷ ws) = ⊥

half_small : (b : Sets) (v : VarId) (x : ℕ) (side : Side) → v.0 < length b → IsSmall b → IsSmall (half b v x side)
half_small b v x side there h =
    let below : Below (half b v x side) b = kept_below (side_test side x) b v.0 there in
    record {
      few = (let few = h.few in omega (arith, few, below.long));
      low = λ w. (let le = greatest_below (half b v x side) b w below in let low = h.low w in omega (arith, le, low));
    }

-- in a tree without parts
nodes_fit : (blocks : ℕ) (nodes : List Node) (ws : List Waiting) (i : ℕ) → AllByRecursion IsPlain nodes → IsWhole blocks nodes ws
    → AllByRecursion HasSides (visits blocks i nodes ws) → AllSmall ws → AllByRecursion Fits nodes
nodes_fit blocks [] ws i plain whole strict small = tt
nodes_fit blocks (n ∷ nodes) [] i plain whole strict small = absurd whole
nodes_fit blocks (n ∷ nodes) (Begins k b ∷ ws) i plain whole strict small = absurd small
nodes_fit blocks (n ∷ nodes) (Inside k number b ∷ ws) i plain whole strict small = absurd small
nodes_fit blocks (Branch v x ∷ nodes) (Whole b ∷ ws) i plain whole strict small =
    let there = strict.0.0 in
    let above = strict.0.2 in
    let few = small.0.few in
    let low = small.0.low v.0 in (
      (omega (arith, there, few), omega (arith, above, low)),
      nodes_fit blocks nodes (Whole (half b v x AtMost) ∷ Whole (half b v x Above) ∷ ws) (i + 1) plain.1 whole strict.1
          (half_small b v x AtMost there small.0, (half_small b v x Above there small.0, small.1)),
    )
nodes_fit blocks (Closed ∷ nodes) (Whole b ∷ ws) i plain whole strict small =
    (tt, nodes_fit blocks nodes ws (i + 1) plain.1 whole strict.1 small.1)
nodes_fit blocks (Open ∷ nodes) (Whole b ∷ ws) i plain whole strict small =
    (tt, nodes_fit blocks nodes ws (i + 1) plain.1 whole strict.1 small.1)
nodes_fit blocks (Split ∷ nodes) (Whole b ∷ ws) i plain whole strict small = absurd plain.0
nodes_fit blocks (Part number ∷ nodes) (Whole b ∷ ws) i plain whole strict small = absurd plain.0

root_small : (f : Function) (m : Model) → IsProblemOf f m → IsSmall (root_of m)
root_small f m p = record {
  few = few_variables f m p;
  low = λ v. (let words = root_in_words f m p in
      let most = fold_max-le 0 (2 ^ 32 - 1) (set_at (root_of m) v) (omega arith) (λ y has. let lt = words v y has in omega (arith, lt)) in
      omega (arith, most));
}

tree_fits : (f : Function) (m : Model) (limit : Option ℕ) (t : List Node) → IsProblemOf f m → IsCertificate m limit t → All Fits t
tree_fits f m limit t p h =
    All-from_recursion Fits t (nodes_fit (blocks_of m) t (Whole (root_of m) ∷ []) 0 (recursion_from_All IsPlain t h.tree.plain) h.tree.whole
    (recursion_from_All HasSides (visits_in m t) h.tree.strict) (root_small f m p, tt))

-- ---- the report

some_nodes : (t : List Node) (m : Model) (limit : Option ℕ) → IsCertificate m limit t → 1 ≤ length t
some_nodes [] m limit h = absurd (none h.tree.whole)
  where
    none : Whole (root_of m) ∷ [] ≡ [] → ⊥
    none e = cc e
some_nodes (n ∷ nodes) m limit h = omega arith

answer_fits : (f : Function) (m : Model) (t : List Node) (a : Answered) → IsProblemOf f m → IsSoundAnswer m t a → AreLong a
    → IsAnswer (limits_of LAST) a
answer_fits f m t (Code cost bound code s) p sound long = (long.0, long.1, code_listed code, values_short f m s p sound.solution)
answer_fits f m t Infeasible p sound long = tt
answer_fits f m t Spent p sound long = tt

within_last : (o : Options) → AreOptions o → AreWithin (limits_of LAST) o
within_last o h = record { regs = h.regs; slots = h.slots }

few_last : (n : ℕ) → IsCountOfNodes n → AreFewLines (limits_of LAST) n
few_last n h = (h.0, (let most = h.1 in omega (arith, most)))

pub is_report : (f : Function) (m : Model) (nodes : ℕ) (r : Report) → IsProblemOf f m → r.version ≡ LAST → r.options ≡ m.options → r.nodes ≡ nodes
    → IsSoundFor m f r → IsCertificate m (limit_of r.answer) r.tree.nodes.items → length r.tree.nodes.items ≤ nodes → AreLong r.answer
    → IsCountOfNodes nodes → IsReport r
is_report f m nodes r p versioned chosen budget sound searched few long count =
    let t = r.tree.nodes.items in
    record {
      version = subst IsVersion (sym versioned) (omega arith, omega arith);
      name = subst (λ (name : List ℕ). is_name name ≡ true) (sym sound.named) (∥∥₁_elim f.well_formed (hlevel props) (λ w. w.named));
      options = rw (versioned, chosen) (within_last m.options p.options);
      nodes = rw budget count;
      answer = rw versioned (answer_fits f m t r.answer p sound.answer long);
      count = rw versioned (few_last (length t) (some_nodes t m (limit_of r.answer) searched, (let most = count.1 in omega (arith, few, most))));
      fit = tree_fits f m (limit_of r.answer) t p searched;
      allowed = All-weaker IsPlain (IsAllowed (limits_of r.version)) (λ n plain none. plain) t searched.tree.plain;
    }
