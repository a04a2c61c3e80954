-- No two instructions of a packet write one register, where a call writes all that calls may write.
use Rattle.std.proofs.Common.{ℕ, ◌≡◌, ◌≢◌, ◌<◌, Bool, true, false, not, ◌&&◌, List, [], ◌∷◌, map, ◌⊎◌, inl, inr, ⊎_elim, refl, sym, ap}
use Rattle.std.proofs.Common.{◌∙◌, subst, arith, AllPairs}
use Rattle.std.specs.Prelude.{Option, Some, None, nat_eq, nat_lt}
use Rattle.std.specs.List.{flat_map}
use Rattle.std.specs.Option.{option_map, option_to_list}
use Rattle.std.proofs.lemmas.Bool.{and_parts, and_from, eq-eqb, ltb-true, not-true}
use Rattle.un_isa.specs.Fit.{IsFit, may_be_saved}
use Rattle.un_isa.specs.Starts.{is_clobbered}
use Rattle.un_isa.specs.Tables.{in_mask}
use Rattle.un_isa.specs.declared.instr.Instr.{Instr}
use Rattle.un_isa.specs.declared.op.Op.{Op}
use Rattle.un_isa.specs.declared.op.Op.TheVariants.{Call, Enter, Leave}
use Rattle.un_isa.specs.declared.reg.Reg.{Reg}
use Rattle.un_isa.specs.declared.reg.TheConstants.{STACK, REGISTERS}
use Rattle.un_isa.specs.declared.table.Table.{Table}
use Rattle.un_isa.specs.Does.{moves_stack, is_control}
use Rattle.un_packet.specs.CodeRules.{number, written, written_by}
use Rattle.un_emit.proofs.Deeds.{writes, apart_targets}
use Rattle.un_lists.proofs.Lists.{Each, Pairwise, Member, each_member, each_of, pairwise_map, pairwise_more, pairwise_of_map}
use Rattle.un_emit.proofs.Packet.{target, target_by}
use Rattle.un_emit.proofs.RulesLists.{rising_apart, each_pass, all_pairwise, pairwise_flat, pairwise_both}
use Rattle.un_emit.proofs.Timed.{Job, Temps, Stands, Gives, Deed, AreTemps, NotBoth, GiveApart, Clobbers, Together, instrs}

-- ---- what a call writes

abbrev call_list : List ℕ
call_list = written_by Call None

abbrev is_free : ℕ → Bool
is_free r = not (may_be_saved r) && not (nat_eq r STACK)

abbrev is_taken : ℕ → Bool
is_taken r = nat_lt r REGISTERS && (is_clobbered r && is_free r)

all_taken : Each (λ r. is_taken r ≡ true) call_list
all_taken = each_pass is_taken call_list refl

-- a register that every call clobbers
record Taken (t : Table) (r : ℕ) : Type 0 where
  pub below : r < REGISTERS
  pub clobbered : in_mask t.clobbered r ≡ true
  pub not_stack : r ≢ STACK

taken : (t : Table) → IsFit t → (r : ℕ) → Member r call_list → Taken t r
taken t fit r m =
    let a = and_parts (nat_lt r REGISTERS) (is_clobbered r && is_free r) (each_member (λ r. is_taken r ≡ true) call_list r all_taken m) in
    let b = and_parts (is_clobbered r) (is_free r) a.1 in
    let c = and_parts (not (may_be_saved r)) (not (nat_eq r STACK)) b.1 in
    let lt = ltb-true r REGISTERS a.0 in
    let kept : (b : Bool) → in_mask t.saved r ≡ b → not (in_mask t.saved r) ≡ true = elim [
      | true ↦ λ q. let z : true ≡ false = sym (fit.saved r lt q) ∙ not-true (may_be_saved r) c.0 in absurd (cc z)
      | false ↦ λ q. ap not q
    ] in
    record {
      below = lt;
      clobbered = fit.clobbered r lt ∙ and_from (is_clobbered r) (not (in_mask t.saved r)) b.0 (kept (in_mask t.saved r) refl);
      not_stack = λ q. let z : true ≡ false = sym (eq-eqb r STACK q) ∙ not-true (nat_eq r STACK) c.1 in absurd (cc z);
    }

-- ---- what an instruction writes

dst_member : (dst : Option Reg) (r : ℕ) → Member r (map number (option_to_list dst)) → option_map (λ (x : Reg). x.0) dst ≡ Some r
dst_member None r m = elim m [ ]
dst_member (Some x) r (inl e) = ap Some e
dst_member (Some x) r (inr m) = elim m [ ]

one_member : (x r : ℕ) → Member r (x ∷ []) → Some x ≡ Some r
one_member x r (inl e) = ap Some e
one_member x r (inr m) = elim m [ ]

written_target : (op : Op) (dst : Option Reg) (r : ℕ) → (op ≡ Call → ⊥) → Member r (written_by op dst) → target_by op dst ≡ Some r
written_target Call dst r n m = absurd (n refl)
written_target Enter dst r n m = one_member STACK r m
written_target Leave dst r n m = one_member STACK r m
written_target _ dst r n m = dst_member dst r m

dst_apart : (dst : Option Reg) → Pairwise (λ (a b : ℕ). a ≢ b) (map number (option_to_list dst))
dst_apart None = tt
dst_apart (Some x) = (tt, tt)

own_apart : (op : Op) (dst : Option Reg) → Pairwise (λ (a b : ℕ). a ≢ b) (written_by op dst)
own_apart Call dst = rising_apart call_list refl
own_apart Enter dst = (tt, tt)
own_apart Leave dst = (tt, tt)
own_apart _ dst = dst_apart dst

call_or : (op : Op) → (op ≡ Call) ⊎ (op ≡ Call → ⊥)
call_or Call = inl refl
call_or _ = inr (λ q. absurd (cc q))

-- ---- a packet

module _ (t : Table) (T : Temps) (slots c : ℕ) (fit : IsFit t) (temps : AreTemps T slots) (js : List Job)
    (w : Together t T slots c js) where
  deed : (x : Job) → Member x js → Deed t T slots x
  deed x m = each_member (Deed t T slots) js x w.deeds m

  now : (x : Job) → Member x js → x.cycle ≡ c
  now x m = each_member (λ (x : Job). x.cycle ≡ c) js x w.cycle m

  abbrev GivesNone : Job → Job → Type 0
  GivesNone i j = (x : ℕ) → i.gives ≡ Some x → j.gives ≡ Some x → ⊥

  -- a call's registers are not those of a job that stands beside it
  beside_call : (i j : Job) (a b : ℕ) → Member i js → Member j js → i.instr.op ≡ Call → (j.instr.op ≡ Call → ⊥) → GivesNone i j
      → Member a (written i.instr) → Member b (written j.instr) → a ≡ b → ⊥
  beside_call i j a b mi mj call other apart ma mb same =
      let k = taken t fit a (subst (λ (op : Op). Member a (written_by op i.instr.dst)) call ma) in
      let ci = now i mi in
      let cj = now j mj in
      let clob = each_member (Clobbers t T) js i w.clobbers mi in
      ⊎_elim
      (λ (q : (b ≡ STACK) × (moves_stack j.instr.op ≡ true)). k.not_stack (same ∙ q.0))
      (λ (q : (x : ℕ) × (Gives t T j x) × (T.place x ≡ b)).
      let x = q.0 in
      let g = q.1 in
      let place : T.place x ≡ a = q.2 ∙ sym same in
      let lt = k.below in
      let span = temps.spans x g.active in
      let from = g.from in
      let stands : Stands T x i.cycle =
      record { active = g.active; begun = omega (arith, from, ci, cj); held = omega (arith, from, span, ci, cj) } in
      apart x (clob call x stands (omega (arith, place, lt)) (ap (in_mask t.clobbered) place ∙ k.clobbered)) g.gives)
      (writes t T slots j b (deed j mj) (written_target j.instr.op j.instr.dst b other mb))

  abbrev TargetsApart : Instr → Instr → Type 0
  TargetsApart x y = (r : ℕ) → target x ≡ Some r → target y ≢ Some r

  abbrev Related : Job → Job → Type 0
  Related i j = TargetsApart i.instr j.instr × (GiveApart i j × NotBoth is_control i j)

  abbrev Apart : Instr → Instr → Type 0
  Apart x y = (a b : ℕ) → Member a (written x) → Member b (written y) → a ≢ b

  two : (i j : Job) → Member i js → Member j js → Related i j → Apart i.instr j.instr
  two i j mi mj rel a b ma mb same = by_calls (call_or i.instr.op) (call_or j.instr.op)
    where
      by_calls : (i.instr.op ≡ Call) ⊎ (i.instr.op ≡ Call → ⊥) → (j.instr.op ≡ Call) ⊎ (j.instr.op ≡ Call → ⊥) → ⊥
      by_calls (inl p) (inl q) = (rel.1).1 (now i mi ∙ sym (now j mj)) (ap is_control p) (ap is_control q)
      by_calls (inl p) (inr q) = beside_call i j a b mi mj p q (λ x gi gj. (rel.1).0 x gi gj) ma mb same
      by_calls (inr p) (inl q) = beside_call j i b a mj mi q p (λ x gj gi. (rel.1).0 x gi gj) mb ma (sym same)
      by_calls (inr p) (inr q) =
          let tj = written_target j.instr.op j.instr.dst b q mb in
          rel.0 a (written_target i.instr.op i.instr.dst a p ma) (tj ∙ ap Some (sym same))

  all_apart : Pairwise (λ (i j : Job). Apart i.instr j.instr) js
  all_apart =
      let targets = pairwise_of_map TargetsApart (λ (j : Job). j.instr) js (apart_targets t T slots c js temps w) in
      let others = pairwise_both GiveApart (NotBoth is_control) js w.give_apart w.one_control in
      let related = pairwise_both (λ (i j : Job). TargetsApart i.instr j.instr) (λ (i j : Job). GiveApart i j × NotBoth is_control i j) js
      targets others in
      pairwise_more Related (λ (i j : Job). Apart i.instr j.instr) js two related

  abbrev Differ : ℕ → ℕ → Type 0
  Differ a b = a ≢ b

  pub one_writer : AllPairs (λ (a b : ℕ). a ≢ b) (flat_map written (instrs js))
  one_writer = all_pairwise Differ (flat_map written (instrs js)) (pairwise_flat Differ written (instrs js)
      (each_of (λ (i : Instr). Pairwise Differ (written i)) (instrs js) (λ i m. own_apart i.op i.dst))
      (pairwise_map Apart (λ (j : Job). j.instr) js all_apart))
