-- Every solution in a box gives a member of the relaxation in that box, which costs the same.
use Rattle.std.proofs.Common.{◌≡◌, ℕ, zero, suc, ◌+◌, ◌-◌, ◌*◌, ◌≤◌, ◌<◌, true, List, [], ◌∷◌, Option, Some, None, length, get_or, All}
use Rattle.std.proofs.Common.{refl, sym, ap, ◌∙◌, subst, arith, Contains}
use Rattle.std.specs.Prelude.{slice_get, slice_index, IfSome}
use Rattle.std.specs.List.{AllZip}
use Rattle.std.proofs.lemmas.List.Elements.{Contains-get_or}
use Rattle.un_base.specs.declared.ids.VarId.{VarId}
use Rattle.un_isa.specs.Fit.{IsFit}
use Rattle.un_ir.specs.declared.extended.ExtKind.{ExtKind}
use Rattle.un_ir.specs.declared.extended.ExtKind.TheVariants.{In, Out, Body, End, Copy, Enter, Leave}
use Rattle.un_ir.specs.declared.extended.ExtOp.{ExtOp}
use Rattle.un_ir.specs.declared.extended.ExtBlock.{ExtBlock}
use Rattle.un_ir.specs.Extended.{IsExtended}
use Rattle.un_domains.specs.declared.domain.Domain.{Domain}
use Rattle.un_domains.specs.Sets.{Sets, IsIn}
use Rattle.un_model.specs.declared.model.Arc.{Arc}
use Rattle.un_model.specs.declared.model.BlockVars.{BlockVars}
use Rattle.un_model.specs.declared.model.Model.{Model}
use Rattle.un_model.specs.declared.model.OpVars.{OpVars}
use Rattle.un_model.specs.declared.model.Solution.{Solution}
use Rattle.un_model.specs.declared.schedule.Issue.{Issue}
use Rattle.un_ir.specs.Kinds.{is_mandatory}
use Rattle.un_model.specs.Arcs.{blocks_arcs}
use Rattle.un_model.specs.Cost.{value_of, blocks_cost, cost_of}
use Rattle.un_model.specs.Instructions.{instruction_of}
use Rattle.un_model.specs.Options.{AreOptions}
use Rattle.un_model.specs.Pairs.{pairs_from, over_blocks}
use Rattle.un_model.specs.Schedules.{value_by, cycle_by, cycle_of, issue_of, block_issues, issues_of}
use Rattle.un_model.specs.Solutions.{IsPlacedAs, IsPlaced, InDomain, IsSolution}
use Rattle.un_model.specs.Variables.{IsModel, blocks_temps}
use Rattle.un_model.proofs.ArcsKept.{KeepsArc, arcs_kept}
use Rattle.un_lists.proofs.Lists.{get_below, index_get, length_get}
use Rattle.un_bound.specs.declared.relax.RelaxAnswer.{RelaxAnswer}
use Rattle.un_bound.specs.declared.relax.RelaxAnswer.TheVariants.{Empty, Least}
use Rattle.un_bound.specs.Arcs.{LeadOn, AllLeadOn}
use Rattle.un_bound.specs.Timings.{IsTimed, AtEach, IsKept}
use Rattle.un_bound.specs.Relaxations.{Times, IsValue, IsRelaxed, AreRelaxed, times_cost, IsMember, IsMemberUnder, IsRelaxation}
use Rattle.un_bound.specs.Choices.{IsKnown, AreKnown, AllKnown}
use Rattle.un_bound.proofs.Knowns.{known_model}
use Rattle.un_bound.proofs.Orderly.{get_left, get_right, all_leads}

-- ---- the times that values give

abbrev cycles_of : List ℕ → ℕ → List ExtOp → List OpVars → List ℕ
cycles_of x end ops vars = pairs_from (λ (k : ℕ) (op : ExtOp) (v : OpVars). cycle_of x end op v) 0 ops vars

abbrev times_at : List ℕ → ExtBlock → BlockVars → Times
times_at x block vars = record {
  end = value_of x vars.end;
  cycles = cycles_of x (value_of x vars.end) block.ops vars.ops;
}

abbrev pub times_of : List ℕ → List ExtBlock → List BlockVars → List Times
times_of x [] vars = []
times_of x (block ∷ blocks) [] = []
times_of x (block ∷ blocks) (vars ∷ more) = times_at x block vars ∷ times_of x blocks more

same_cost : (x : List ℕ) (blocks : List ExtBlock) (vars : List BlockVars)
    → times_cost blocks (times_of x blocks vars) ≡ blocks_cost x blocks vars
same_cost x [] vars = refl
same_cost x (block ∷ blocks) [] = refl
same_cost x (block ∷ blocks) (vars ∷ more) = ap (λ (n : ℕ). block.freq * (value_of x vars.end - 1) + n) (same_cost x blocks more)

-- ---- two lists read together

pair_at : {C : Type 0} (f : ℕ → ExtOp → OpVars → C) (n : ℕ) (ops : List ExtOp) (vars : List OpVars) (k : ℕ) (op : ExtOp) (v : OpVars)
    → slice_get ops k ≡ Some op → slice_get vars k ≡ Some v → slice_get (pairs_from f n ops vars) k ≡ Some (f (n + k) op v)
pair_at f n [] vars k op v p q = absurd (cc p)
pair_at f n (o ∷ ops) [] k op v p q = absurd (cc q)
pair_at f n (o ∷ ops) (w ∷ vars) zero op v p q =
    let a : o ≡ op = cc p in
    let b : w ≡ v = cc q in
    let e : n ≡ n + 0 = omega arith in
    ap (λ (u : ℕ). Some (f u o w)) e ∙ ap (λ (u : ExtOp). Some (f (n + 0) u w)) a ∙ ap (λ (u : OpVars). Some (f (n + 0) op u)) b
pair_at f n (o ∷ ops) (w ∷ vars) (suc k) op v p q =
    let e : n + 1 + k ≡ n + suc k = omega arith in
    pair_at f (n + 1) ops vars k op v p q ∙ ap (λ (u : ℕ). Some (f u op v)) e

length-pairs : {C : Type 0} (f : ℕ → ExtOp → OpVars → C) (n : ℕ) (ops : List ExtOp) (vars : List OpVars) → length vars ≡ length ops
    → length (pairs_from f n ops vars) ≡ length ops
length-pairs f n [] vars e = refl
length-pairs f n (o ∷ ops) [] e = absurd (omega (arith, e))
length-pairs f n (o ∷ ops) (w ∷ vars) e = ap suc (length-pairs f (n + 1) ops vars (omega (arith, e)))

zip-length : (values : List ℕ) (domains : List Domain) → AllZip InDomain values domains → length values ≡ length domains
zip-length [] [] h = refl
zip-length [] (d ∷ domains) h = absurd h
zip-length (v ∷ values) [] h = absurd h
zip-length (v ∷ values) (d ∷ domains) h = ap suc (zip-length values domains h.1)

-- ---- a block

timed_as : (x : List ℕ) (end : ℕ) (kind : ExtKind) (v : OpVars)
    → IfSome (instruction_of kind (value_by x v.instr)) (IsPlacedAs (cycle_by x end kind v) end) → IsTimed end (cycle_by x end kind v) kind
timed_as x end In v h = refl
timed_as x end Out v h = refl
timed_as x end (Body o) v h = h
timed_as x end (End term) v h = h
timed_as x end (Copy node) v h = tt
timed_as x end Enter v h = tt
timed_as x end Leave v h = tt

-- values in a box, with their issues, which are all placed
module _ (s : Sets) (x : List ℕ) (inside : IsIn x s) (is : List Issue) (placed : All IsPlaced is) where
  own_value : (end : ℕ) (kind : ExtKind) (v : OpVars) (var : Option VarId) → v.cycle ≡ var → IsKnown (length s) kind var
      → is_mandatory kind ≡ true → IfSome var (λ (u : VarId). IsValue s u (cycle_by x end kind v))
  own_value end kind v None e known m = tt
  own_value end In v (Some u) e known m = absurd known
  own_value end Out v (Some u) e known m = absurd known
  own_value end (Body o) v (Some u) e known m = subst (λ (w : Option VarId). IsValue s u (value_by x w)) (sym e) (inside.each u.0 known)
  own_value end (End term) v (Some u) e known m = subst (λ (w : Option VarId). IsValue s u (value_by x w)) (sym e) (inside.each u.0 known)
  own_value end (Copy node) v (Some u) e known m = absurd (cc m)
  own_value end Enter v (Some u) e known m = absurd (cc m)
  own_value end Leave v (Some u) e known m = absurd (cc m)

  -- these stand among all issues from place n on
  abbrev Stand : ℕ → List Issue → Type 0
  Stand n here = (k : ℕ) (i : Issue) → slice_get here k ≡ Some i → slice_get is (n + k) ≡ Some i

  placed_at : (k : ℕ) (i : Issue) → slice_get is k ≡ Some i → IsPlaced i
  placed_at k i at = subst IsPlaced (index_get is k i i at) (placed k i (length_get is k i at))

  module _ (b n : ℕ) (block : ExtBlock) (vars : BlockVars) (stand : Stand n (block_issues x b n block vars))
      (known : AreKnown (length s) vars.end block.ops vars.ops) where
    abbrev end : ℕ
    end = value_of x vars.end

    abbrev cycles : List ℕ
    cycles = cycles_of x end block.ops vars.ops

    cycle_is : (k : ℕ) (op : ExtOp) (v : OpVars) → slice_get block.ops k ≡ Some op → slice_get vars.ops k ≡ Some v
        → slice_index cycles k ≡ cycle_of x end op v
    cycle_is k op v p q = index_get cycles k 0 (cycle_of x end op v)
        (pair_at (λ (j : ℕ) (o : ExtOp) (w : OpVars). cycle_of x end o w) 0 block.ops vars.ops k op v p q)

    issue_is : (k : ℕ) (op : ExtOp) (v : OpVars) → slice_get block.ops k ≡ Some op → slice_get vars.ops k ≡ Some v
        → slice_get is (n + k) ≡ Some (issue_of x b end (n + k) op v)
    issue_is k op v p q = stand k (issue_of x b end (n + k) op v) (pair_at (issue_of x b end) n block.ops vars.ops k op v p q)

    vars_at : (k : ℕ) (op : ExtOp) → slice_get block.ops k ≡ Some op → (v : OpVars) × (slice_get vars.ops k ≡ Some v)
    vars_at k op p = get_below vars.ops k (omega (arith, length_get block.ops k op p, known.long))

    -- the cycle of an issue of the block
    cycle_at : (j : ℕ) (i : Issue) → n ≤ j → j < n + length block.ops → slice_get is j ≡ Some i → slice_index cycles (j - n) ≡ i.cycle
    cycle_at j i above below at =
        let op = get_below block.ops (j - n) (omega (arith, above, below)) in
        let v = vars_at (j - n) op.0 op.1 in
        let same : n + (j - n) ≡ j = omega (arith, above) in
        let e : Some (issue_of x b end (n + (j - n)) op.0 v.0) ≡ Some i = sym (issue_is (j - n) op.0 v.0 op.1 v.1)
        ∙ ap (λ (u : ℕ). slice_get is u) same ∙ at in
        let here : issue_of x b end (n + (j - n)) op.0 v.0 ≡ i = cc e in
        cycle_is (j - n) op.0 v.0 op.1 v.1 ∙ ap (λ (u : Issue). u.cycle) here

    each : AtEach (λ (cycle : ℕ) (op : ExtOp). IsTimed end cycle op.kind) cycles block.ops
    each k op p =
        let v = vars_at k op p in
        subst (λ (c : ℕ). IsTimed end c op.kind) (sym (cycle_is k op v.0 p v.1))
        (timed_as x end op.kind v.0 (placed_at (n + k) (issue_of x b end (n + k) op v.0) (issue_is k op v.0 p v.1)))

    relaxed : (arcs : List Arc) → LeadOn n block.ops arcs → ((a : Arc) → Contains arcs a → KeepsArc is a)
        → IsRelaxed s n vars.end block.ops vars.ops arcs (times_at x block vars)
    relaxed arcs lead keeps = record {
      timing = record {
        long = length-pairs (λ (j : ℕ) (o : ExtOp) (w : OpVars). cycle_of x end o w) 0 block.ops vars.ops known.long;
        each = each;
        kept = kept;
      };
      stop = inside.each vars.end.0 known.stop;
      cycles = λ k op v p q m. subst (λ (c : ℕ). IfSome v.cycle (λ (u : VarId). IsValue s u c)) (sym (cycle_is k op v p q))
          (own_value end op.kind v v.cycle refl (known.each k op v p q) m);
    }
      where
        kept : All (IsKept n cycles) arcs
        kept j d lt =
            let a = get_or arcs j d in
            let on = lead.each j d lt in
            let k = keeps a (Contains-get_or arcs j d lt) in
            let from = cycle_at a.from.0 k.earlier on.here (omega (arith, on.forward, on.within)) k.from_at in
            let to = cycle_at a.to.0 k.later (omega (arith, on.here, on.forward)) on.within k.to_at in
            omega (arith, from, to, k.kept)

  -- ---- all blocks

  all_relaxed : (b n : ℕ) (blocks : List ExtBlock) (vars : List BlockVars) (arcs : List (List Arc)) → length arcs ≡ length blocks
      → Stand n (over_blocks (block_issues x) b n blocks vars) → AllKnown (length s) blocks vars → AllLeadOn n blocks arcs
      → ((j : ℕ) (here : List Arc) (a : Arc) → slice_get arcs j ≡ Some here → Contains here a → KeepsArc is a)
      → AreRelaxed s n blocks vars arcs (times_of x blocks vars)
  all_relaxed b n [] vars arcs long stand known lead keeps = refl
  all_relaxed b n (block ∷ blocks) [] arcs long stand known lead keeps = refl
  all_relaxed b n (block ∷ blocks) (v ∷ vars) [] long stand known lead keeps = absurd (omega (arith, long))
  all_relaxed b n (block ∷ blocks) (v ∷ vars) (here ∷ arcs) long stand known lead keeps = (
    relaxed b n block v (λ k i at. stand k i (get_left own rest k i at)) known.0 here lead.0 (λ a c. keeps 0 here a refl c),
    all_relaxed (b + 1) (n + length block.ops) blocks vars arcs (omega (arith, long)) behind known.1 lead.1
        (λ j xs a p c. keeps (suc j) xs a p c),
  )
    where
      own : List Issue
      own = block_issues x b n block v

      rest : List Issue
      rest = over_blocks (block_issues x) (b + 1) (n + length block.ops) blocks vars

      size : length own ≡ length block.ops
      size = length-pairs (issue_of x b (value_of x v.end)) n block.ops v.ops known.0.long

      behind : Stand (n + length block.ops) rest
      behind k i at = subst (λ (u : ℕ). slice_get is u ≡ Some i) (omega arith)
          (stand (length block.ops + k) i (get_right own rest (length block.ops + k) k (omega (arith, size)) ∙ at))

-- ---- the model

length-arcs : (m : Model) (n : ℕ) (blocks : List ExtBlock)
    → length (blocks_arcs m.ext.table (blocks_temps 0 0 m.ext.blocks) n blocks) ≡ length blocks
length-arcs m n [] = refl
length-arcs m n (block ∷ blocks) = ap suc (length-arcs m (n + length block.ops) blocks)

-- a box that a solution is in has as many variables as the model
pub known_box : (m : Model) (solution : Solution) (s : Sets) → IsModel m → IsSolution m solution → IsIn solution.values s
    → AllKnown (length s) m.ext.blocks m.blocks
known_box m solution s own is inside =
    known_model m (length s) own (omega (arith, zip-length solution.values m.domains is.in_domains, inside.long))

-- the times of a solution in a box are a member
pub solution_times : (m : Model) (solution : Solution) (s : Sets) → IsModel m → IsExtended m.ext → IsFit m.ext.table
    → AreOptions m.options → IsSolution m solution → IsIn solution.values s → IsMember m s (times_of solution.values m.ext.blocks m.blocks)
solution_times m solution s own extended fit options is inside =
    all_relaxed s solution.values inside (issues_of m solution.values) is.latencies.0 0 0 m.ext.blocks m.blocks m.arcs long
    (λ k i at. subst (λ (u : ℕ). slice_get (issues_of m solution.values) u ≡ Some i) (omega arith) at)
    (known_box m solution s own is inside) (all_leads m own extended fit)
    (arcs_kept m solution own extended fit options is)
  where
    long : length m.arcs ≡ length m.ext.blocks
    long = ap (λ (y : Model). length y.arcs) own ∙ length-arcs m 0 m.ext.blocks

-- a solution in a box gives a member that costs the same
pub solution_member : (m : Model) (solution : Solution) (s : Sets) → IsModel m → IsExtended m.ext → IsFit m.ext.table
    → AreOptions m.options → IsSolution m solution → IsIn solution.values s
    → (times : List Times) × IsMember m s times × (times_cost m.ext.blocks times ≡ cost_of m solution)
solution_member m solution s own extended fit options is inside = (
  times_of solution.values m.ext.blocks m.blocks,
  solution_times m solution s own extended fit options is inside,
  same_cost solution.values m.ext.blocks m.blocks,
)

-- under a limit, where it costs less
pub member_under : (m : Model) (solution : Solution) (s : Sets) (limit : Option ℕ) → IsModel m → IsExtended m.ext → IsFit m.ext.table
    → AreOptions m.options → IsSolution m solution → IsIn solution.values s → IfSome limit (λ (c : ℕ). cost_of m solution < c)
    → (times : List Times) × IsMemberUnder limit m s times
member_under m solution s limit own extended fit options is inside below =
    let h = solution_member m solution s own extended fit options is inside in
    (h.0, (h.1, subst (λ (n : ℕ). IfSome limit (λ (c : ℕ). n < c)) (sym h.2) below))

-- what an answer of the relaxation says of a solution that costs n: there is none, or it costs no less
abbrev pub Allows : ℕ → RelaxAnswer → Type 0
Allows n Empty = ⊥
Allows n (Least cost) = cost ≤ n

pub relaxation_allows : (m : Model) (solution : Solution) (s : Sets) (answer : RelaxAnswer) → IsModel m → IsExtended m.ext
    → IsFit m.ext.table → AreOptions m.options → IsSolution m solution → IsIn solution.values s → IsRelaxation m s answer
    → Allows (cost_of m solution) answer
relaxation_allows m solution s Empty own extended fit options is inside none =
    let h = solution_member m solution s own extended fit options is inside in none h.0 h.1
relaxation_allows m solution s (Least cost) own extended fit options is inside least =
    let h = solution_member m solution s own extended fit options is inside in
    omega (arith, least.least h.0 h.1, h.2)
