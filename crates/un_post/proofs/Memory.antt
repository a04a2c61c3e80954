-- Loads, Stores and Calls keep their order where the constraints of the arcs are met, and each solution meets these.
use Rattle.std.proofs.Common.{ℕ, zero, suc, ◌≡◌, ◌↔◌, ◌+◌, ◌<◌, ◌≤◌, Bool, true, false, List, [], ◌∷◌, length, map, max, inl, inr}
use Rattle.std.proofs.Common.{refl, sym, ap, ◌∙◌, subst, arith, Contains}
use Rattle.std.specs.Prelude.{Option, Some, None, IfSome, slice_get, nat_le, ◌==◌, ◌&&◌, if◌then◌else◌}
use Rattle.std.specs.Option.{option_map}
use Rattle.un_isa.specs.declared.op.Op.{Op}
use Rattle.un_isa.specs.declared.op.Op.TheVariants.{Load, Store, Call, Mov, Spill, Reload, P2R, R2P, Enter as EnterOp, Leave as LeaveOp}
use Rattle.un_isa.specs.declared.table.Table.{Table}
use Rattle.un_ir.specs.declared.extended.ExtKind.{ExtKind}
use Rattle.un_ir.specs.declared.extended.ExtKind.TheVariants.{In, Out, Body, End, Copy, Enter, Leave}
use Rattle.un_ir.specs.declared.extended.ExtBlock.{ExtBlock}
use Rattle.un_ir.specs.declared.extended.Ext.{Ext}
use Rattle.un_model.specs.declared.model.Arc.{Arc}
use Rattle.un_model.specs.declared.model.Model.{Model}
use Rattle.un_model.specs.declared.model.Options.{Options}
use Rattle.un_model.specs.declared.model.TempVars.{TempVars}
use Rattle.un_model.specs.declared.schedule.Issue.{Issue}
use Rattle.un_model.specs.ArcLaws.{gap_told, arc_known}
use Rattle.un_ir.specs.Kinds.{is_mandatory}
use Rattle.un_model.specs.Arcs.{own_instr, reads_from, data_gap, memory_gap, larger, largest_gap, arc, block_arcs}
use Rattle.un_model.specs.Arcs.{blocks_arcs}
use Rattle.un_model.specs.Arcs.NeedsGap.{ByMemory}
use Rattle.un_model.specs.Instructions.{instruction_of}
use Rattle.un_model.specs.Schedules.{issues_of, schedule_of, value_by}
use Rattle.un_model.specs.Solutions.{IsSolution, KeepsMemory, Precedes, memory_distance}
use Rattle.un_model.specs.Variables.{model_of, var_at, ops_count, block_count, blocks_temps}
use Rattle.un_model.proofs.ArcsKept.{KeepsArc, arcs_kept}
use Rattle.un_lists.proofs.Lists.{Each, Pairwise, Member, each_of, each_member, each_map, each_of_map, pairwise_map, member_at}
use Rattle.un_lists.proofs.Lists.{slice_get-map}
use Rattle.un_lists.proofs.Lists.{place_of as position_of}
use Rattle.un_model.proofs.Operations.{placed_is}
use Rattle.un_model.proofs.Placed.{Placed, Region, region_placed, vars_of, issue_at, issues_are}
use Rattle.un_model.proofs.PlacedSchedules.{all}
use Rattle.un_prop.specs.Acts.{at_value}
use Rattle.un_sites.specs.Befores.{place_or, place_with, arc_before, befores_in, befores_of}
use Rattle.un_kinds.specs.Constraints.{meets, AllMet}
use Rattle.un_sites.specs.Places.{Place, time_of, places_of}
use Rattle.un_post.proofs.Blocks.{blocks, in_all, rising}
use Rattle.un_post.proofs.Facts.{Given, times}
use Rattle.un_post.proofs.Meeting.{Met, met_all, all_met, each_joined, joined_each}
use Rattle.un_post.proofs.NoSharing.{all_pairwise, pairwise_parts}
use Rattle.un_post.proofs.Placing.{place_of, place_here, places_are}
use Rattle.un_model.proofs.Regions.{regions, placed_regions, of_region}
use Rattle.un_post.proofs.Tests.{iff_then, le_iff, same_test}

-- ---- lists

pub contains_member : {X : Type 0} (xs : List X) (x : X) → Contains xs x → Member x xs
contains_member [] x c = let lt = c.1 in absurd (omega arith)
contains_member (y ∷ ys) x (zero, lt, e) = inl e
contains_member (y ∷ ys) x (suc k, lt, e) = inr (contains_member ys x (k, omega arith, e))

pub member_contains : {X : Type 0} (xs : List X) (x : X) → Member x xs → Contains xs x
member_contains [] x m = elim m [ ]
member_contains (y ∷ ys) x (inl e) = (0, omega arith, e)
member_contains (y ∷ ys) x (inr m) = let r = member_contains ys x m in let lt = r.1 in (suc r.0, omega arith, r.2)

pairwise_at : {X : Type 0} (R : X → X → Type 0) (xs : List X)
    → ((i j : ℕ) (x y : X) → i < j → slice_get xs i ≡ Some x → slice_get xs j ≡ Some y → R x y) → Pairwise R xs
pairwise_at R [] h = tt
pairwise_at R (x ∷ xs) h = (
  each_of (R x) xs (λ y m. let k = position_of xs y m in h 0 (suc k.0) x y (omega arith) refl k.2),
  pairwise_at R xs (λ i j y z lt at bt. h (suc i) (suc j) y z (omega arith) at bt),
)

mapped_get : {X Y : Type 0} (f : X → Y) (xs : List X) (k : ℕ) (y : Y) → slice_get (map f xs) k ≡ Some y
    → (x : X) × (slice_get xs k ≡ Some x) × (f x ≡ y)
mapped_get f [] k y e = absurd (cc e)
mapped_get f (x ∷ xs) zero y e = (x, refl, cc e)
mapped_get f (x ∷ xs) (suc k) y e = mapped_get f xs k y e

-- ---- what issues a Load, a Store or a Call is mandatory

abbrev is_memory : Option Op → Bool
is_memory (Some Load) = true
is_memory (Some Store) = true
is_memory (Some Call) = true
is_memory _ = false

first_memory : (i j : Option Op) (n : ℕ) → memory_distance i j ≡ Some n → is_memory i ≡ true
first_memory None j n h = absurd (cc h)
first_memory (Some Load) j n h = refl
first_memory (Some Store) j n h = refl
first_memory (Some Call) j n h = refl
first_memory (Some op) j n h = absurd (cc h)

later_memory : (i j : Option Op) (n : ℕ) → is_memory i ≡ true → memory_distance i j ≡ Some n → is_memory j ≡ true
later_memory i j n m h = by (is_memory j) refl
  where
    none : (i j : Option Op) → is_memory i ≡ true → is_memory j ≡ false → memory_distance i j ≡ None
    none None j a b = refl
    none (Some Load) None a b = refl
    none (Some Load) (Some Load) a b = refl
    none (Some Load) (Some Store) a b = absurd (cc b)
    none (Some Load) (Some Call) a b = absurd (cc b)
    none (Some Load) (Some op) a b = refl
    none (Some Store) None a b = refl
    none (Some Store) (Some Load) a b = absurd (cc b)
    none (Some Store) (Some Store) a b = absurd (cc b)
    none (Some Store) (Some Call) a b = absurd (cc b)
    none (Some Store) (Some op) a b = refl
    none (Some Call) None a b = refl
    none (Some Call) (Some Load) a b = absurd (cc b)
    none (Some Call) (Some Store) a b = absurd (cc b)
    none (Some Call) (Some Call) a b = absurd (cc b)
    none (Some Call) (Some op) a b = refl
    none (Some op) j a b = absurd (cc a)

    by : (b : Bool) → is_memory j ≡ b → is_memory j ≡ true
    by true e = e
    by false e = let z : None ≡ Some n = sym (none i j m e) ∙ h in absurd (cc z)

no_copy : (a b c d e : Bool) → is_memory (if a then Some Mov else (if b then Some Spill else
    (if c then Some Reload else (if d then Some P2R else (if e then Some R2P else None))))) ≡ true → ⊥
no_copy true b c d e h = cc h
no_copy false true c d e h = cc h
no_copy false false true d e h = cc h
no_copy false false false true e h = cc h
no_copy false false false false true h = cc h
no_copy false false false false false h = cc h

no_frame : (op : Op) (b : Bool) → is_memory (Some op) ≡ false → is_memory (if b then None else Some op) ≡ true → ⊥
no_frame op true f h = cc h
no_frame op false f h = let z : false ≡ true = sym f ∙ h in cc z

-- and its instruction is its own
own : (k : ExtKind) (n : ℕ) → is_memory (instruction_of k n) ≡ true
    → (is_mandatory k ≡ true) × (instruction_of k n ≡ instruction_of k 0)
own In n h = absurd (cc h)
own Out n h = absurd (cc h)
own (Body so) n h = (refl, refl)
own (End term) n h = (refl, refl)
own (Copy node) n h = absurd (no_copy (n == 1) (n == 2) (n == 3) (n == 4) (n == 5) h)
own Enter n h = absurd (no_frame EnterOp (n == 0) refl h)
own Leave n h = absurd (no_frame LeaveOp (n == 0) refl h)

-- ---- the largest gap is at least each

some_larger : (a : Option ℕ) (n : ℕ) → (g : ℕ) × (larger a (Some n) ≡ Some g)
some_larger None n = (n, refl)
some_larger (Some a) n = (max a n, refl)

-- ---- arcs by blocks

pub arcs_by_regions : (t : Table) (temps : List TempVars) (b n first : ℕ) (bs : List ExtBlock)
    → blocks_arcs t temps n bs ≡ map (λ (r : Region). let owner = r.owner in block_arcs t temps r.number owner.ops) (regions b n first bs)
arcs_by_regions t temps b n first [] = refl
arcs_by_regions t temps b n first (block ∷ bs) = ap (λ xs. block_arcs t temps n block.ops ∷ xs)
    (arcs_by_regions t temps (b + 1) (n + length block.ops) (first + block_count block) bs)

module _ (e : Ext) (o : Options) (x : List ℕ) (given : Given e o x) where
  abbrev pub places : List Place
  places = places_of (model_of e o)

  abbrev pub temps : List TempVars
  temps = blocks_temps 0 0 e.blocks

  abbrev pub region_arcs : Region → List Arc
  region_arcs r = let owner = r.owner in block_arcs e.table temps r.number owner.ops

  -- the constraint of an arc between two operations
  pub one : (a : Arc) (p q : Placed) → slice_get places a.from.0 ≡ Some (place_of p) → slice_get places a.to.0 ≡ Some (place_of q)
      → ((issue_at x p).cycle + a.gap ≤ (issue_at x q).cycle) ↔ (meets (arc_before places a) x ≡ true)
  one a p q from to =
      let f : at_value (time_of (place_with places a.from.0)) x ≡ (issue_at x p).cycle =
      ap (λ w. at_value (time_of (place_or w)) x) from ∙ times e o x given p in
      let t : at_value (time_of (place_with places a.to.0)) x ≡ (issue_at x q).cycle =
      ap (λ w. at_value (time_of (place_or w)) x) to ∙ times e o x given q in
      let is : nat_le ((issue_at x p).cycle + a.gap) (issue_at x q).cycle ≡ meets (arc_before places a) x =
      ap (λ n. nat_le (n + a.gap) (issue_at x q).cycle) (sym f)
      ∙ ap (λ n. nat_le (at_value (time_of (place_with places a.from.0)) x + a.gap) n) (sym t) in
      iff_then (le_iff ((issue_at x p).cycle + a.gap) (issue_at x q).cycle) (same_test _ _ is)

  -- ---- a solution meets them

  -- the operation of an issue
  issued : (n : ℕ) (i : Issue) → slice_get (issues_of (model_of e o) x) n ≡ Some i
      → (q : Placed) × (slice_get places n ≡ Some (place_of q)) × (issue_at x q ≡ i)
  issued n i at =
      let r = mapped_get (issue_at x) (all e o x) n i (ap (λ is. slice_get is n) (sym (issues_are x 0 0 0 e.blocks)) ∙ at) in (
        r.0,
        ap (λ ps. slice_get ps n) (places_are 0 0 0 e.blocks) ∙ slice_get-map place_of (all e o x) n ∙ ap (option_map place_of) r.1,
        r.2,
      )

  pub kept_met : (a : Arc) → KeepsArc (issues_of (model_of e o) x) a → meets (arc_before places a) x ≡ true
  kept_met a k =
      let p = issued a.from.0 k.earlier k.from_at in
      let q = issued a.to.0 k.later k.to_at in
      let cp : (issue_at x p.0).cycle ≡ k.earlier.cycle = ap (λ (i : Issue). i.cycle) p.2 in
      let cq : (issue_at x q.0).cycle ≡ k.later.cycle = ap (λ (i : Issue). i.cycle) q.2 in
      let le = k.kept in
      (one a p.0 q.0 p.1 q.1).0 (omega (arith, cp, cq, le))

  pub befores : IsSolution (model_of e o) (record { values = x }) → AllMet (befores_of (model_of e o)) x
  befores solution =
      let m : Model = model_of e o in
      all_met x _ (joined_each _ (befores_in places) m.arcs (each_of _ m.arcs (λ arcs ma.
      let k = position_of m.arcs arcs ma in
      each_map _ (arc_before places) arcs (each_of _ arcs (λ a mb.
      kept_met a (arcs_kept m (record { values = x }) refl given.extended given.fit given.options solution k.0 arcs a k.2
      (member_contains arcs a mb)))))))

  -- ---- where they are met, memory is kept

  -- two operations of a block
  abbrev pub Kept : Placed → Placed → Type 0
  Kept p q = Precedes memory_distance (issue_at x p) (issue_at x q)

  at_distance : (p q : Placed) → ((n : ℕ) → memory_distance (issue_at x p).instr (issue_at x q).instr ≡ Some n
      → (issue_at x p).cycle + n ≤ (issue_at x q).cycle) → Kept p q
  unfolding Precedes
  at_distance p q h = λ same. by (memory_distance (issue_at x p).instr (issue_at x q).instr) refl
    where
      by : (d : Option ℕ) → memory_distance (issue_at x p).instr (issue_at x q).instr ≡ d
          → IfSome (memory_distance (issue_at x p).instr (issue_at x q).instr) (λ (n : ℕ). (issue_at x p).cycle + n ≤ (issue_at x q).cycle)
      by None e = subst (λ (d : Option ℕ). IfSome d (λ (n : ℕ). (issue_at x p).cycle + n ≤ (issue_at x q).cycle)) (sym e) tt
      by (Some n) e = subst (λ (d : Option ℕ). IfSome d (λ (n : ℕ). (issue_at x p).cycle + n ≤ (issue_at x q).cycle)) (sym e) (h n e)

  elsewhere : (r s : Region) → r.block < s.block → (p q : Placed) → Member p (region_placed r) → Member q (region_placed s) → Kept p q
  unfolding Precedes
  elsewhere r s lt p q mp mq = λ same.
      let a = of_region r p mp in let b = of_region s q mq in
      let c : p.block ≡ q.block = same in absurd (omega arith)

  pub in_block : (r : Region) → Member r (blocks e o x) → Met x (befores_in places (region_arcs r)) → Pairwise Kept (region_placed r)
  in_block r mr met = pairwise_at Kept (region_placed r) (λ i j p q lt at bt. at_distance p q (λ n d. far i j p q lt at bt n d))
    where
      far : (i j : ℕ) (p q : Placed) → i < j → slice_get (region_placed r) i ≡ Some p → slice_get (region_placed r) j ≡ Some q → (n : ℕ)
          → memory_distance (issue_at x p).instr (issue_at x q).instr ≡ Some n → (issue_at x p).cycle + n ≤ (issue_at x q).cycle
      far i j p q lt at bt n d =
          let owner = r.owner in
          let close = var_at (r.first + ops_count owner.ops) in
          let mp = in_all e o x r p mr (member_at (region_placed r) i p at) in
          let mq = in_all e o x r q mr (member_at (region_placed r) j q bt) in
          let ip = placed_is r.block owner close r.number r.first i owner.ops p at in
          let iq = placed_is r.block owner close r.number r.first j owner.ops q bt in
          let first = first_memory (issue_at x p).instr (issue_at x q).instr n d in
          let op = own p.op.kind (value_by x (vars_of p).instr) first in
          let oq = own q.op.kind (value_by x (vars_of q).instr)
          (later_memory (issue_at x p).instr (issue_at x q).instr n first d) in
          let gap : memory_gap p.op q.op ≡ Some n =
          ap (λ (i : Option Op). memory_distance i (own_instr q.op)) (sym op.1)
          ∙ ap (λ (j : Option Op). memory_distance (issue_at x p).instr j) (sym oq.1) ∙ d in
          let reads = reads_from temps p.number q.op in
          let some = some_larger (data_gap e.table reads p.op q.op) n in
          let largest : largest_gap e.table reads p.op q.op ≡ Some some.0 =
          ap (λ (b : Bool). if b && is_mandatory q.op.kind then larger (data_gap e.table reads p.op q.op) (memory_gap p.op q.op) else None)
          op.0
          ∙ ap (λ (b : Bool). if b then larger (data_gap e.table reads p.op q.op) (memory_gap p.op q.op) else None) oq.0
          ∙ ap (larger (data_gap e.table reads p.op q.op)) gap ∙ some.1 in
          let told = gap_told e.table reads p.op q.op some.0 largest in
          let most = told.1.most n (ByMemory gap) in
          let a : Arc = arc p.number q.number some.0 in
          let known = arc_known e.table temps r.number owner.ops a (record {
            earlier = i;
            later = j;
            from = p.op;
            to = q.op;
            order = lt;
            from_at = ip.0;
            to_at = iq.0;
            numbers = (ip.1, iq.1);
            mandatory = told.0;
            gap = told.1;
          }) in
          let holds = each_member _ (region_arcs r) a (each_of_map _ (arc_before places) (region_arcs r) met)
          (contains_member (region_arcs r) a known) in
          let le = (one a p q (place_here e o x p mp) (place_here e o x q mq)).1 holds in
          omega (arith, le, most)

  pub memory : AllMet (befores_of (model_of e o)) x → KeepsMemory (schedule_of (model_of e o) x)
  memory h =
      let bs = blocks e o x in
      let m : Model = model_of e o in
      let met = each_joined _ (befores_in places) m.arcs (met_all x _ h) in
      let each = each_of_map (λ arcs. Met x (befores_in places arcs)) region_arcs bs
      (subst (Each (λ arcs. Met x (befores_in places arcs))) (arcs_by_regions e.table temps 0 0 0 e.blocks) met) in
      let parts = (pairwise_parts Kept (λ (r s : Region). r.block < s.block) region_placed bs (rising 0 0 0 e.blocks) elsewhere).1
      (each_of _ bs (λ r mr. in_block r mr (each_member _ bs r each mr))) in
      let pairs : Pairwise Kept (all e o x) = subst (Pairwise Kept) (sym (placed_regions 0 0 0 e.blocks)) parts in
      let R = Precedes memory_distance in
      all_pairwise R (issues_of m x) (subst (Pairwise R) (sym (issues_are x 0 0 0 e.blocks))
      (pairwise_map R (issue_at x) (all e o x) pairs))
