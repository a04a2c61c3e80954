-- What tests a predicate of its own packet stands beside the compare that writes it.
use Rattle.std.proofs.Common.{ℕ, ◌≡◌, Bool, true, false, List, map, sym, ap, ◌∙◌, subst, ⊎_elim, All}
use Rattle.std.specs.Prelude.{Option, Some, None, slice_index, ◌==◌}
use Rattle.std.specs.Bool.{OnTrue}
use Rattle.std.specs.List.{list_any}
use Rattle.std.specs.Option.{option_map, option_map_or}
use Rattle.std.proofs.lemmas.Bool.{and_from, eq-eqb}
use Rattle.un_isa.specs.declared.op.Op.TheVariants.{Call}
use Rattle.un_isa.specs.declared.reg.Reg.{Reg}
use Rattle.un_isa.specs.declared.table.Table.{Table}
use Rattle.un_isa.specs.Does.{is_new, is_compare}
use Rattle.un_isa.proofs.DoesLaws.{alu_new, stack_new, compare_stack}
use Rattle.un_packet.specs.CodeRules.{HasItsCompare, gives_predicate}
use Rattle.un_emit.proofs.Deeds.{lands, target_of}
use Rattle.un_emit.proofs.Packet.{target}
use Rattle.un_emit.proofs.Places.{any_true}
use Rattle.un_emit.proofs.RulesLists.{all_each}
use Rattle.un_emit.proofs.Timed.{Job, Temps, TestsNew, Deed, computes, moves, spills, reloads, from_pred, to_pred, loads, stores, calls}
use Rattle.un_emit.proofs.Timed.{shifts, leaves, tests, rests, Together, instrs, gives_of}
use Rattle.un_lists.proofs.Lists.{Member, each_member, each_of, each_map, member_map}

-- an instruction that writes the register with number n
names : (dst : Option Reg) (n : ℕ) → option_map (λ (r : Reg). r.0) dst ≡ Some n → option_map_or (λ (r : Reg). r.0 == n) dst false ≡ true
names None n q = absurd (cc q)
names (Some r) n q = let z : r.0 ≡ n = cc q in eq-eqb r.0 n z

module _ (t : Table) (T : Temps) (slots c : ℕ) (js : List Job) (w : Together t T slots c js) where
  abbrev Beside : Job → Type 0
  Beside j = HasItsCompare (instrs js) j.instr

  deed : (j : Job) → Member j js → Deed t T slots j
  deed j m = each_member (Deed t T slots) js j w.deeds m

  -- who gives the predicate is a compare of the packet
  compared : (j : Job) (x : ℕ) → Member j js → TestsNew T j x → list_any (gives_predicate (T.place x)) (instrs js) ≡ true
  compared j x m n =
      let now : T.from x ≡ c = n.from ∙ each_member (λ (j : Job). j.cycle ≡ c) js j w.cycle m in
      let r = w.giver x n.active now in
      let i = r.0 in
      let d = deed i r.1 in
      let g = gives_of t T slots i x d r.2 in
      let compare : is_compare i.instr.op ≡ true = sym g.compared ∙ n.compared in
      let dst : option_map (λ (r : Reg). r.0) i.instr.dst ≡ Some (T.place x) = ⊎_elim
      (λ (q : target i.instr ≡ Some (T.place x)). sym (target_of i.instr.op i.instr (compare_stack i.instr.op compare)) ∙ q)
      (λ (q : (i.instr.op ≡ Call) × (T.place x ≡ t.result)). let z : true ≡ false = sym compare ∙ ap is_compare q.0 in absurd (cc z))
      (lands t T slots i x d r.2 n.reg) in
      any_true (gives_predicate (T.place x)) (instrs js) i.instr (member_map (λ (j : Job). j.instr) js i r.1)
      (and_from (option_map_or (λ (r : Reg). r.0 == T.place x) i.instr.dst false) (is_compare i.instr.op)
      (names i.instr.dst (T.place x) dst) compare)

  old : (j : Job) → is_new j.instr.op ≡ false → Beside j
  old j f = subst (λ (b : Bool). OnTrue b (list_any (gives_predicate (slice_index (map (λ (r : Reg). r.0) j.instr.srcs) 0)) (instrs js)
      ≡ true)) (sym f) tt

  beside : (j : Job) → Member j js → Deed t T slots j → Beside j
  beside j m (computes x a n r g p) = old j (alu_new j.instr.op a)
  beside j m (moves x y o z p q) = old j (ap is_new o)
  beside j m (spills x y o z s d p q) = old j (ap is_new o)
  beside j m (reloads x y o z s d p q) = old j (ap is_new o)
  beside j m (from_pred x y o z k p q r) = old j (ap is_new o)
  beside j m (to_pred x y o z k p q r) = old j (ap is_new o)
  beside j m (loads x o r g p) = old j (ap is_new o)
  beside j m (stores o r g d) = old j (ap is_new o)
  beside j m (calls o r d g) = old j (ap is_new o)
  beside j m (shifts o s g) = old j (stack_new j.instr.op o)
  beside j m (leaves o f r d g) = old j f
  beside j m (tests x n d g) =
      let at : slice_index (map (λ (r : Reg). r.0) j.instr.srcs) 0 ≡ T.place x = ap (λ ns. slice_index ns 0) n.srcs in
      let here = ap (λ k. list_any (gives_predicate k) (instrs js)) at ∙ compared j x m n in
      subst (λ (b : Bool). OnTrue b (list_any (gives_predicate (slice_index (map (λ (r : Reg). r.0) j.instr.srcs) 0)) (instrs js)
      ≡ true)) (sym n.new) here
  beside j m (rests o s d g) = old j (ap is_new o)

  pub fresh : All (HasItsCompare (instrs js)) (instrs js)
  fresh = all_each (HasItsCompare (instrs js)) (instrs js) (each_map (HasItsCompare (instrs js)) (λ (j : Job). j.instr) js
      (each_of Beside js (λ j m. beside j m (deed j m))))
