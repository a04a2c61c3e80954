-- What each job of a solution's block is: its operands and its result lie where its instruction wants them.
use Rattle.std.proofs.Common.{ℕ, ℤ, zero, suc, pos, ◌≡◌, ◌≢◌, ◌<◌, ◌≤◌, ◌+◌, ◌-◌, ◌*◌, Bool, true, false, ◌&&◌, List, [], ◌∷◌, length, map}
use Rattle.std.proofs.Common.{take, inl, inr, ⊎_elim, refl, sym, ap, ◌∙◌, subst, arith}
use Rattle.std.specs.Prelude.{Option, Some, None, slice_get, slice_index, unwrap_or, nat_eq, nat_lt, ◌==◌, if◌then◌else◌}
use Rattle.std.specs.Option.{option_map, option_to_list}
use Rattle.std.specs.List.{AllZip}
use Rattle.std.proofs.lemmas.Bool.{cases_lt, eq-eqb, eqb-true}
use Rattle.std.proofs.lemmas.Bool.Decides.{nat_tests}
use Rattle.un_base.specs.declared.ids.BlockId.{BlockId}
use Rattle.un_base.specs.declared.ids.NameId.{NameId}
use Rattle.un_base.specs.declared.ids.TempId.{TempId}
use Rattle.un_isa.specs.Facts.{is_source, result_space as space_of_result}
use Rattle.un_isa.specs.Operands.{is_alu}
use Rattle.un_isa.specs.Registers.{space_of}
use Rattle.un_isa.specs.Tables.{latency_of}
use Rattle.un_isa.specs.declared.op.Op.{Op}
use Rattle.un_isa.specs.declared.op.Op.TheVariants.{Mov, Load, Store, Call, Jump as JumpOp, Jumpr, Spill, Reload, P2R, R2P}
use Rattle.un_isa.specs.declared.reg.TheConstants.{GENERALS, FIRST_SLOT}
use Rattle.un_isa.specs.declared.reg.Reg.{Reg}
use Rattle.un_isa.specs.declared.reg.Space.{Space}
use Rattle.un_isa.specs.declared.reg.Space.TheVariants.{R, P, M}
use Rattle.un_isa.specs.declared.instr.Instr.{Instr}
use Rattle.un_isa.specs.Does.{moves_stack, is_copy, is_branch, is_new, is_compare, is_transfer}
use Rattle.un_isa.proofs.DoesLaws.{so_holds, source_branch, copy_branch}
use Rattle.un_ir.specs.declared.function.Kind.{Kind}
use Rattle.un_ir.specs.declared.function.Kind.TheVariants.{General, Pred}
use Rattle.un_ir.specs.declared.function.SrcOp.{SrcOp}
use Rattle.un_ir.specs.declared.function.Term.{Term}
use Rattle.un_ir.specs.declared.function.Term.TheVariants.{Fall, Jump, Branch, Ret}
use Rattle.un_ir.specs.declared.extended.NodeCopy.{NodeCopy}
use Rattle.un_ir.specs.declared.extended.ExtKind.{ExtKind}
use Rattle.un_ir.specs.declared.extended.ExtKind.TheVariants.{Body, End, Copy}
use Rattle.un_ir.specs.declared.extended.Operand.{Operand}
use Rattle.un_ir.specs.declared.extended.Ext.{Ext}
use Rattle.un_ir.specs.Linear.{first_of}
use Rattle.un_ir.specs.WellFormed.{operand_kinds, kind_given, result_kind}
use Rattle.un_ir.specs.Extended.{temp, Want, anywhere, word_in, wants_of, wants_of_op, wants_of_end, carried, IsGoodExtOp, IsGoodOperand}
use Rattle.un_ir.specs.Extended.{IsGoodKind, IsSourceOp, HasItsResult, result_count, defined_kinds, kind_of_temp, first_read}
use Rattle.un_model.specs.declared.model.Options.{Options}
use Rattle.un_model.specs.declared.schedule.LiveRange.{LiveRange}
use Rattle.un_model.specs.Emission.{temp_register, operand_registers, result_register, source_instr, term_instr, copy_instr, stack_instr}
use Rattle.un_model.specs.Emission.{slot_offset, new_op, is_from, reads_beside, is_beside}
use Rattle.un_model.specs.Instructions.{latency_by, operand_space_in, result_space_in, space_read, space_given, transfer_of, copy_of}
use Rattle.un_model.specs.Pairs.{places_from}
use Rattle.un_model.specs.Schedules.{choice_of, value_by, cycle_by, schedule_of}
use Rattle.un_model.specs.Solutions.{InSpace, InDomain}
use Rattle.un_model.proofs.Transfers.{transfer_leaves, copy_copies}
use Rattle.un_model.proofs.Gaps.{is_fresh_in, is_branch_in, is_compare_in, no_branch, fresh_facts, fresh_here, fresh_quick}
use Rattle.un_domains.specs.declared.domain.Domain.TheVariants.{Set}
use Rattle.un_model.specs.Variables.{model_of, result_domain, carried as value_carried, register_domain, source_domain, register_place}
use Rattle.un_simulation.specs.Simulation.{as_held}
use Rattle.un_lists.proofs.Lists.{Each, Member, slice_get-map, member_map}
use Rattle.un_emit.proofs.FramePlace.{held_pred}
use Rattle.un_emit.proofs.Timed.{Temps, IsReadAt, IsPlain, numbers, ReadsAll, Gives, GivesReg, GivesResult, Copies}
use Rattle.un_emit.proofs.Timed.{IsInSlot, Deed, computes, moves, spills, reloads, from_pred, to_pred, loads, stores, calls, shifts, leaves, tests}
use Rattle.un_model.proofs.Placed.{Placed, vars_of, issue_at, end_of, spot, spots_of}
use Rattle.un_model.proofs.PlacedSchedules.{all, spots, range_at, spot_range, range_get, range_here, given_space, member_joined}
use Rattle.un_model.proofs.Operations.{contains_member}
use Rattle.un_model.proofs.TempKinds.{kind_at, kind_or, carried_at, own_kind, same_kind, carried_is}
use Rattle.un_model.proofs.OpDomains.{register_sits, in_entry}
use Rattle.un_model.proofs.Readings.{Solved, numbered, fit_kinds, placed_good, placed_domains, Reading, reading, register_is}
use Rattle.un_model.proofs.Readings.{waited_latency}
use Rattle.un_emit.proofs.Jobs.{given_temp, job_with}
use Rattle.un_emit.proofs.Own.{own_emitted, own_old, transfer_alike, new_emitted, not_beside}

-- ---- spaces

pub in_general : (r : ℕ) → space_of r ≡ R → r < GENERALS
in_general r h = ⊎_elim (λ (lt : r < GENERALS). lt) (λ (le : GENERALS ≤ r). absurd (out r le h)) (cases_lt r GENERALS)
  where
    out : (r : ℕ) → GENERALS ≤ r → space_of r ≡ R → ⊥
    out r le h =
        let a : nat_lt r GENERALS ≡ false = grind (arith, nat_tests) in
        let k : (if nat_lt r FIRST_SLOT then P else M) ≡ R =
        sym (ap (λ (b : Bool). if b then R else if nat_lt r FIRST_SLOT then P else M) a) ∙ h in
        other (nat_lt r FIRST_SLOT) k
      where
        other : (b : Bool) → (if b then P else M) ≡ R → ⊥
        other true e = absurd (cc e)
        other false e = absurd (cc e)

pub in_predicates : (r : ℕ) → space_of r ≡ P → (GENERALS ≤ r) × (r < FIRST_SLOT)
in_predicates r h = ⊎_elim
    (λ (lt : r < GENERALS). let a : nat_lt r GENERALS ≡ true = grind (arith, nat_tests) in let k : R ≡ P =
    sym (ap (λ (b : Bool). if b then R else if nat_lt r FIRST_SLOT then P else M) a) ∙ h in absurd (cc k))
    (λ (le : GENERALS ≤ r). ⊎_elim (λ (lt : r < FIRST_SLOT). (le, lt)) (λ (ge : FIRST_SLOT ≤ r).
    let a : nat_lt r GENERALS ≡ false = grind (arith, nat_tests) in
    let b : nat_lt r FIRST_SLOT ≡ false = grind (arith, nat_tests) in
    let k : M ≡ P =
    sym (ap (λ (b : Bool). if b then R else if nat_lt r FIRST_SLOT then P else M) a
    ∙ ap (λ (b : Bool). if b then P else M) b) ∙ h in
    absurd (cc k)) (cases_lt r FIRST_SLOT))
    (cases_lt r GENERALS)

pub in_frame : (r : ℕ) → space_of r ≡ M → FIRST_SLOT ≤ r
in_frame r h = ⊎_elim
    (λ (lt : r < FIRST_SLOT). absurd (out (nat_lt r GENERALS) (let b : nat_lt r FIRST_SLOT ≡ true = grind (arith, nat_tests) in
    sym (ap (λ (b : Bool). if nat_lt r GENERALS then R else if b then P else M) b) ∙ h)))
    (λ (ge : FIRST_SLOT ≤ r). ge) (cases_lt r FIRST_SLOT)
  where
    out : (b : Bool) → (if b then R else P) ≡ M → ⊥
    out true e = absurd (cc e)
    out false e = absurd (cc e)

abbrev pub space_for : Kind → Space
space_for General = R
space_for Pred = P

-- a value in the space of its kind stands as itself
pub plain_in : (T : Temps) (x : ℕ) (k : Kind) → T.kind x ≡ k → space_of (T.place x) ≡ space_for k → (T.place x < FIRST_SLOT) × IsPlain T x
plain_in T x General e s = let lt = in_general (T.place x) s in (omega arith, λ v. ap (λ (k : Kind). as_held k (T.place x) v) e)
plain_in T x Pred e s = let r = in_predicates (T.place x) s in (
  r.1,
  λ v. ap (λ (k : Kind). as_held k (T.place x) v) e
      ∙ held_pred (T.place x) v r.0 r.1,
)

via_kinds : (ks : List Kind) (j : ℕ) (k : Kind) → slice_get ks j ≡ Some k → slice_get (map space_for ks) j ≡ Some (space_for k)
via_kinds ks j k e = slice_get-map space_for ks j ∙ ap (option_map space_for) e

-- an operation of the source asks of each operand the space of its kind
source_space : (op : Op) (j : ℕ) (k : Kind) → slice_get (operand_kinds op) j ≡ Some k → operand_space_in op j ≡ Some (space_for k)
source_space Call j k e = absurd (cc e)
source_space Reload j k e = absurd (cc e)
source_space op j k e = via_kinds (operand_kinds op) j k e

-- no result, or one in a register
abbrev is_in_register : Option Space → Bool
is_in_register (Some R) = true
is_in_register (Some P) = true
is_in_register _ = false

in_register : (result : Option Space) → is_in_register result ≡ true → result ≡ Some (space_for (kind_given result))
in_register (Some R) h = refl
in_register (Some P) h = refl
in_register (Some M) h = absurd (cc h)
in_register None h = absurd (cc h)

pub result_in : (op : Op) → is_alu op ≡ true → is_source op ≡ true → result_space_in op ≡ Some (space_for (result_kind op))
result_in Spill a s = absurd (cc a)
result_in op a s = in_register (space_of_result op) (so_holds (is_alu op) (is_in_register (space_of_result op)) refl a)

-- an operation of the source computes, loads, stores or calls
pub data TextClass (op : Op) : Type 0 where
  alu : is_alu op ≡ true → is_source op ≡ true → TextClass op
  load : op ≡ Load → TextClass op
  store : op ≡ Store → TextClass op
  call : op ≡ Call → TextClass op

pub text_class : (op : Op) → is_source op ≡ true → TextClass op
text_class Load s = load refl
text_class Store s = store refl
text_class Call s = call refl
text_class op s = alu (so_holds (is_source op) (is_alu op) refl s) s

pub one_zip : {A B : Type 0} (Q : A → B → Type 0) (xs : List A) (w : B) → AllZip Q xs (w ∷ []) → (x : A) × (xs ≡ x ∷ [])
one_zip Q [] w z = absurd z
one_zip Q (x ∷ []) w z = (x, refl)
one_zip Q (x ∷ y ∷ ys) w z = absurd z.1

module _ (e : Ext) (o : Options) (values : List ℕ) (h : Solved e o values) where
  -- the temporaries of block b
  abbrev pub temps_of : ℕ → Temps
  temps_of b = record {
    active = λ k. (range_at e o values k).active && nat_eq (range_at e o values k).block.0 b;
    place = λ k. (range_at e o values k).reg;
    from = λ k. (range_at e o values k).from;
    until = λ k. (range_at e o values k).last + 1;
    lat = λ k. latency_by e.table (range_at e o values k).instr;
    compared = λ k. is_compare_in (range_at e o values k).instr;
    kind = λ k. kind_at e o values (numbered e o values h) (fit_kinds e o values h) k;
  }

  pub active_in : (k b : ℕ) → (range_at e o values k).active ≡ true → (range_at e o values k).block.0 ≡ b
      → (let T = temps_of b in T.active k ≡ true)
  active_in k b a w = let z = eq-eqb (range_at e o values k).block.0 b w in rw (a, z) refl

  -- what an operand reads, as a timed block has it
  pub record OperandFacts (p : Placed) (j : ℕ) (x : Operand) : Type 0 where
    pub register : (temp_register (model_of e o) values (choice_of values (vars_of p) j x)).0 ≡
        (let T = temps_of p.block in T.place (choice_of values (vars_of p) j x).0)
    pub read : IsReadAt (temps_of p.block) (choice_of values (vars_of p) j x).0 (issue_at values p).cycle

  module _ (p : Placed) (m : Member p (all e o values)) where
    abbrev T : Temps
    T = temps_of p.block

    -- the register of what it reads
    pub operand_register : (j : ℕ) (x : Operand) (want : Want) → Reading e o values h p j x want
        → (temp_register (model_of e o) values (choice_of values (vars_of p) j x)).0
        ≡ (let T = temps_of p.block in T.place (choice_of values (vars_of p) j x).0)
    operand_register j x want r =
        ap (λ (y : TempId). (temp_register (model_of e o) values y).0) (sym r.is) ∙ register_is e o values h r.spot r.member
        ∙ ap (λ n. (range_at e o values n).reg) (ap (λ (y : TempId). y.0) r.is)

    -- what it reads was given its definer's latency before
    abbrev pub IsReady : (j : ℕ) (x : Operand) (want : Want) → Reading e o values h p j x want → Type 0
    IsReady j x want r =
        (range_at e o values r.spot.temp.0).from + latency_by e.table (range_at e o values r.spot.temp.0).instr ≤ (issue_at values p).cycle

    -- so it was for all but branches
    pub ready_for : (op : Op) → (issue_at values p).instr ≡ Some op → is_branch op ≡ false → (j : ℕ) (x : Operand) (want : Want)
        → (r : Reading e o values h p j x want) → IsReady j x want r
    ready_for op ins f j x want r = waited_latency e o values h p j x want r
        (no_branch e.table (range_at e o values r.spot.temp.0).instr (issue_at values p).instr (ap is_branch_in ins ∙ f))

    pub operand_facts : (j : ℕ) (x : Operand) (want : Want) (r : Reading e o values h p j x want) → IsReady j x want r → OperandFacts p j x
    operand_facts j x want r ready =
        let k = ap (λ (y : TempId). y.0) r.is in
        record {
          register = operand_register j x want r;
          read = subst (λ n. IsReadAt (temps_of p.block) n (issue_at values p).cycle) k
              (let l = r.last in record {
                active = active_in r.spot.temp.0 p.block r.active r.there;
                ready = ready;
                held = l;
              });
        }

    -- the place, the kind and the space of what an operand reads
    pub read_space : (j : ℕ) (x : Operand) (want : Want) (op : Op) (s : Space) → Reading e o values h p j x want
        → (issue_at values p).instr ≡ Some op → operand_space_in op j ≡ Some s
        → space_of (let T = temps_of p.block in T.place (choice_of values (vars_of p) j x).0) ≡ s
    read_space j x want op s r i q =
        let k = ap (λ (y : TempId). y.0) r.is in
        let f = subst (λ (z : Option Space). InSpace (range_at e o values r.spot.temp.0).reg z)
        (ap (λ (z : Option Op). space_read z j) i ∙ q) r.space in
        subst (λ n. space_of (range_at e o values n).reg ≡ s) k f

    pub read_kind : (j : ℕ) (x : Operand) (want : Want) → Reading e o values h p j x want
        → (let T = temps_of p.block in T.kind (choice_of values (vars_of p) j x).0) ≡ want.kind
    read_kind j x want r = ap (λ (y : TempId). kind_at e o values (numbered e o values h) (fit_kinds e o values h) y.0) (sym r.is) ∙ r.kind

    abbrev reg_of : ℕ → Operand → Reg
    reg_of j x = temp_register (model_of e o) values (choice_of values (vars_of p) j x)

    abbrev temp_of : ℕ → Operand → ℕ
    temp_of j x = (choice_of values (vars_of p) j x).0

    same_numbers : (xs : List Operand) (k : ℕ) → ((j : ℕ) (x : Operand) → slice_get xs j ≡ Some x → OperandFacts p (k + j) x)
        → numbers (places_from reg_of k xs) ≡ map (let T = temps_of p.block in T.place) (places_from temp_of k xs)
    same_numbers [] k f = refl
    same_numbers (x ∷ xs) k f =
        let g = f 0 x refl in
        let here : OperandFacts p k x = subst (λ n. OperandFacts p n x) (omega arith) g in
        ap (λ r. r ∷ numbers (places_from reg_of (k + 1) xs)) here.register
        ∙ ap (λ rs. (range_at e o values (temp_of k x)).reg ∷ rs)
        (same_numbers xs (k + 1) (λ j y q. subst (λ n. OperandFacts p n y) (omega arith) (f (suc j) y q)))

    each_temp : (Q : ℕ → Type 0) (xs : List Operand) (k : ℕ) → ((j : ℕ) (x : Operand) → slice_get xs j ≡ Some x → Q (temp_of (k + j) x))
        → Each Q (places_from temp_of k xs)
    each_temp Q [] k f = tt
    each_temp Q (x ∷ xs) k f = (
      subst (λ n. Q (temp_of n x)) (omega arith) (f 0 x refl),
      each_temp Q xs (k + 1) (λ j y q. subst (λ n. Q (temp_of n y)) (omega arith) (f (suc j) y q)),
    )

    -- all operands, where each is of a kind and in its space
    abbrev pub Fitting : Type 0
    Fitting = (j : ℕ) (x : Operand) → slice_get p.op.operands j ≡ Some x → (want : Want) × (r : Reading e o values h p j x want)
        × (IsReady j x want r) × ((let T = temps_of p.block in T.place (temp_of j x) < FIRST_SLOT) × IsPlain (temps_of p.block) (temp_of j x))

    pub reads_all : (i : Instr) → i.srcs ≡ operand_registers (model_of e o) values p.op (vars_of p) → Fitting
        → ReadsAll (temps_of p.block) (job_with values p i)
    reads_all i s f =
        let at : (n j : ℕ) (x : Operand) → n ≡ j → OperandFacts p j x
        → OperandFacts p n x = λ n j x q g. subst (λ m. OperandFacts p m x) (sym q) g in
        record {
          srcs = ap numbers s ∙ same_numbers p.op.operands 0 (λ j x q. let r = f j x q in
              at (0 + j) j x (omega arith) (operand_facts j x r.0 r.1 r.2));
          read = each_temp (λ n. IsReadAt (temps_of p.block) n (issue_at values p).cycle) p.op.operands 0
              (λ j x q. let r = f j x q in let g = at (0 + j) j x (omega arith) (operand_facts j x r.0 r.1 r.2) in g.read);
          regs = each_temp (λ n. let T = temps_of p.block in T.place n < FIRST_SLOT) p.op.operands 0
              (λ j x q. let r = f j x q in
              subst (λ n. let T = temps_of p.block in T.place (temp_of n x) < FIRST_SLOT) (omega arith) (r.3.0));
          plain = each_temp (λ n. IsPlain (temps_of p.block) n) p.op.operands 0
              (λ j x q. let r = f j x q in subst (λ n. IsPlain (temps_of p.block) (temp_of n x)) (omega arith) (r.3.1));
        }

    -- each operand in the space of the kind that is wanted
    fit_by : (op : Op) → (issue_at values p).active ≡ true → (issue_at values p).instr ≡ Some op
        → ((j : ℕ) (want : Want) → slice_get (wants_of e.table e.names e.blocks p.owner p.op.kind p.op) j ≡ Some want
        → operand_space_in op j ≡ Some (space_for want.kind))
        → ((j : ℕ) (x : Operand) (want : Want) → slice_get p.op.operands j ≡ Some x
        → slice_get (wants_of e.table e.names e.blocks p.owner p.op.kind p.op) j ≡ Some want
        → (r : Reading e o values h p j x want) → IsReady j x want r) → Fitting
    fit_by op act i f ready j x q =
        let r = reading e o values h p j x m act q in
        let want = r.0 in
        let k = read_kind j x want r.2 in
        let s = read_space j x want op (space_for want.kind) r.2 i (f j want r.1) in
        (want, r.2, ready j x want q r.1 r.2, plain_in (temps_of p.block) (temp_of j x) want.kind k s)

    -- ---- results

    pub result_spot : (y : TempId) → p.op.results ≡ y ∷ [] → Member (spot p 0 y) (spots e o values)
    result_spot y q =
        member_joined (map spots_of (all e o values)) (spots_of p) (spot p 0 y) (member_map spots_of (all e o values) p m)
        (subst (λ ys. Member (spot p 0 y) (places_from (spot p) 0 ys)) (sym q) (inl refl))

    result_range : (y : TempId) → p.op.results ≡ y ∷ [] → range_at e o values y.0 ≡ spot_range e o values (spot p 0 y)
    result_range y q = range_here e o values (numbered e o values h) (spot p 0 y) (result_spot y q)

    gives : (y : TempId) (i : Instr) (op : Op) → p.op.results ≡ y ∷ [] → (issue_at values p).active ≡ true
        → (issue_at values p).instr ≡ Some op → i.op ≡ op → Gives e.table (temps_of p.block) (job_with values p i) y.0
    gives y i op q act ins same =
        let r = result_range y q in
        record {
          gives = ap (λ ys. option_map (λ (x : TempId). x.0) (slice_get ys 0)) q;
          active = active_in y.0 p.block (ap (λ (v : LiveRange). v.active) r ∙ act) (ap (λ (v : LiveRange). v.block.0) r);
          from = ap (λ (v : LiveRange). v.from) r;
          lat = ap (λ (v : LiveRange). latency_by e.table v.instr) r ∙ ap (latency_by e.table) ins ∙ ap (latency_of e.table) (sym same);
          compared = ap (λ (v : LiveRange). is_compare_in v.instr) r ∙ ap is_compare_in ins ∙ ap is_compare (sym same);
        }

    result_place : (y : TempId) → p.op.results ≡ y ∷ [] → option_map (λ (r : Reg). r.0) (result_register (model_of e o) values p.op) ≡ Some
        (let T = temps_of p.block in T.place y.0)
    result_place y q = ap (λ ys. option_map (λ (r : Reg). r.0) (option_map (temp_register (model_of e o) values) (slice_get ys 0))) q
        ∙ ap Some (register_is e o values h (spot p 0 y) (result_spot y q))

    pub result_space : (y : TempId) (op : Op) (s : Space) → p.op.results ≡ y ∷ [] → (issue_at values p).instr ≡ Some op
        → result_space_in op ≡ Some s → space_of (let T = temps_of p.block in T.place y.0) ≡ s
    result_space y op s q ins f =
        let r = result_range y q in
        let g = given_space e o values (numbered e o values h) (spot p 0 y) (result_spot y q) h.schedule in
        let k = subst (λ (z : Option Space). InSpace (spot_range e o values (spot p 0 y)).reg z) (ap space_given ins ∙ f) g in
        ap (λ (v : LiveRange). space_of v.reg) r ∙ k

    no_result : length p.op.results ≡ 0 → given_temp p ≡ None
    no_result l = go p.op.results refl l
      where
        go : (ys : List TempId) → ys ≡ p.op.results → length p.op.results ≡ 0 → given_temp p ≡ None
        go [] q l = ap (λ ys. option_map (λ (x : TempId). x.0) (slice_get ys 0)) (sym q)
        go (y ∷ ys) q l = let k = ap length q in absurd (omega arith)

    pub one_result : length p.op.results ≡ 1 → (y : TempId) × (p.op.results ≡ y ∷ [])
    one_result l = go p.op.results refl l
      where
        go : (ys : List TempId) → ys ≡ p.op.results → length p.op.results ≡ 1 → (y : TempId) × (p.op.results ≡ y ∷ [])
        go [] q l = let k = ap length q in absurd (omega arith)
        go (y ∷ []) q l = (y, sym q)
        go (y ∷ z ∷ ys) q l = let k = ap length q in absurd (omega arith)

    abbrev keeps : IsGoodExtOp e.table e.names e.blocks p.owner (let g = placed_good e o values h p m in g.before) p.op
    keeps = let g = placed_good e o values h p m in g.keeps

    abbrev srcs : List Reg
    srcs = operand_registers (model_of e o) values p.op (vars_of p)

    abbrev dst : Option Reg
    dst = result_register (model_of e o) values p.op

    -- ---- operations of the source

    abbrev plain_instr : SrcOp → Op → Instr
    plain_instr so op = record { op = op; dst = dst; srcs = srcs; imm = so.imm; label = so.callee }

    source_plain : (so : SrcOp) (op : Op) → (op ≡ Call → ⊥) → source_instr so op srcs dst ≡ plain_instr so op
    source_plain so Call n = absurd (n refl)
    source_plain so _ n = refl

    get_mapped : {A B : Type 0} (f : A → B) (xs : List A) (j : ℕ) (y : B) → slice_get (map f xs) j ≡ Some y → (x : A)
        × (slice_get xs j ≡ Some x) × (f x ≡ y)
    get_mapped f [] j y q = absurd (cc q)
    get_mapped f (x ∷ xs) zero y q = (x, refl, cc q)
    get_mapped f (x ∷ xs) (suc j) y q = get_mapped f xs j y q

    wants_plain : (so : SrcOp) (op : Op) → (op ≡ Call → ⊥) → wants_of_op e.table so op ≡ map anywhere (operand_kinds op)
    wants_plain so Call n = absurd (n refl)
    wants_plain so _ n = refl

    source_fits : (so : SrcOp) → p.op.kind ≡ Body so → (issue_at values p).active ≡ true → (issue_at values p).instr ≡ Some so.op
        → is_source so.op ≡ true → (so.op ≡ Call → ⊥) → Fitting
    source_fits so k act ins source n = fit_by so.op act ins (λ j want q.
        let w : slice_get (map anywhere (operand_kinds so.op)) j ≡ Some want =
        ap (λ ws. slice_get ws j) (sym (ap (λ (x : ExtKind). wants_of e.table e.names e.blocks p.owner x p.op) k
        ∙ wants_plain so so.op n)) ∙ q in
        let r = get_mapped anywhere (operand_kinds so.op) j want w in
        source_space so.op j r.0 r.1 ∙ ap (λ (x : Want). Some (space_for x.kind)) r.2)
        (λ j x want q w. ready_for so.op ins (source_branch so.op source) j x want)

    call_fits : (so : SrcOp) → p.op.kind ≡ Body so → (issue_at values p).active ≡ true → (issue_at values p).instr ≡ Some so.op
        → so.op ≡ Call → Fitting
    call_fits so k act ins c = fit_by so.op act ins (λ j want q.
        let w : slice_get (map word_in (take (length so.srcs) (e.table).args)) j ≡ Some want =
        ap (λ ws. slice_get ws j) (sym (ap (λ (x : ExtKind). wants_of e.table e.names e.blocks p.owner x p.op) k
        ∙ ap (wants_of_op e.table so) c)) ∙ q in
        let r = get_mapped word_in (take (length so.srcs) (e.table).args) j want w in
        ap (λ (op : Op). operand_space_in op j) c ∙ ap (λ (x : Want). Some (space_for x.kind)) r.2)
        (λ j x want q w. ready_for so.op ins (ap is_branch c) j x want)

    source_kind : (so : SrcOp) (y : TempId) → p.op.kind ≡ Body so → p.op.results ≡ y ∷ []
        → (let T = temps_of p.block in T.kind y.0) ≡ result_kind so.op
    source_kind so y k q =
        own_kind e o values (numbered e o values h) (fit_kinds e o values h) (spot p 0 y) (result_spot y q)
        (ap (λ (x : ExtKind). carried_at x (spot p 0 y)) k)
        ∙ ap (λ (x : ExtKind). kind_or (defined_kinds e.names p.owner x p.op) 0) k
        ∙ ap (λ ys. kind_or (map (λ (y : TempId). result_kind so.op) ys) 0) q

    pub has_result : (op : Op) (d : Option NameId) → HasItsResult op d → (op ≡ Store → ⊥) → (op ≡ Call → ⊥) → length (option_to_list d) ≡ 1
    has_result Store d r s c = absurd (s refl)
    has_result Call d r s c = absurd (c refl)
    has_result _ None r s c = absurd r
    has_result _ (Some n) r s c = refl

    gives_reg : (y : TempId) (so : SrcOp) (s : Space) → p.op.results ≡ y ∷ [] → (issue_at values p).active ≡ true
        → (issue_at values p).instr ≡ Some so.op → (let T = temps_of p.block in T.place y.0 < FIRST_SLOT)
        → GivesReg e.table (temps_of p.block) (job_with values p (plain_instr so so.op)) y.0
    gives_reg y so s q act ins lt = record { given = gives y (plain_instr so so.op) so.op q act ins refl; dst = result_place y q; reg = lt }

    -- what gives a register a value of its kind
    result_plain : (so : SrcOp) (y : TempId) → p.op.kind ≡ Body so → p.op.results ≡ y ∷ [] → (issue_at values p).instr ≡ Some so.op
        → result_space_in so.op ≡ Some (space_for (result_kind so.op)) → (let T = temps_of p.block in T.place y.0 < FIRST_SLOT)
        × IsPlain (temps_of p.block) y.0
    result_plain so y k q ins f = plain_in (temps_of p.block) y.0 (result_kind so.op) (source_kind so y k q)
        (result_space y so.op (space_for (result_kind so.op)) q ins f)

    -- a call's result is where results are
    call_place : (so : SrcOp) (y : TempId) → p.op.kind ≡ Body so → so.op ≡ Call → p.op.results ≡ y ∷ []
        → (range_at e o values y.0).reg ≡ (e.table).result
    call_place so y k c q =
        let ie = in_entry e o values p in
        let d = register_sits e o values ie p 0 y (placed_domains e o values h p m) (ap (λ ys. slice_get ys 0) q) in
        let f : result_domain e o ie p.owner p.op 0 y ≡ Set ((e.table).result ∷ []) =
        ap (λ (x : ExtKind). register_domain e o ie p.owner x 0 y (value_carried p.op y)) k
        ∙ ap (λ (op : Op). source_domain e o ie p.owner op y) c in
        let c = subst (InDomain (slice_index values (p.first + register_place p.op + 0))) f d in
        ap (λ (v : LiveRange). v.reg) (result_range y q) ∙ only (contains_member ((e.table).result ∷ [])
        (slice_index values (p.first + register_place p.op + 0)) c)
      where
        only : {a b : ℕ} → Member a (b ∷ []) → a ≡ b
        only (inl e) = sym e
        only (inr n) = elim n [ ]

    -- what an instruction of the source is
    pub deed_source : (slots : ℕ) (so : SrcOp) → p.op.kind ≡ Body so → (issue_at values p).active ≡ true
        → (issue_at values p).instr ≡ Some so.op → Deed e.table (temps_of p.block) slots
        (job_with values p (source_instr so so.op srcs dst))
    deed_source slots so k act ins = by_class (text_class so.op good_op.op)
      where
        good_op : IsSourceOp so
        good_op = let g = keeps in subst (λ (x : ExtKind). IsGoodKind x p.op) k g.kind

        counted : length p.op.results ≡ length (option_to_list so.dst)
        counted = let g = keeps in g.results ∙ ap (result_count e.table p.owner) k

        has : (so.op ≡ Store → ⊥) → (so.op ≡ Call → ⊥) → (y : TempId) × (p.op.results ≡ y ∷ [])
        has s c = one_result (counted ∙ has_result so.op so.dst good_op.result s c)

        as_plain : (so.op ≡ Call → ⊥) → Deed e.table (temps_of p.block) slots (job_with values p (plain_instr so so.op))
            → Deed e.table (temps_of p.block) slots (job_with values p (source_instr so so.op srcs dst))
        as_plain n d = subst (λ (i : Instr). Deed e.table (temps_of p.block) slots (job_with values p i)) (sym (source_plain so so.op n)) d

        not_op : (op : Op) → so.op ≡ op → (b : Bool) → is_alu op ≡ b → b ≡ false → is_alu so.op ≡ true → ⊥
        not_op op q b f g a = let z : true ≡ false = sym a ∙ ap is_alu q ∙ f ∙ g in absurd (cc z)

        computing : is_alu so.op ≡ true → is_source so.op ≡ true → (c : Bool) → is_copy so.op ≡ c
            → Deed e.table (temps_of p.block) slots (job_with values p (source_instr so so.op srcs dst))
        computing a s c f =
            let no_call : so.op ≡ Call → ⊥ = λ q. not_op Call q false refl refl a in
            let r = has (λ q. not_op Store q false refl refl a) no_call in
            let y = r.0 in
            let pl = result_plain so y k r.1 ins (result_in so.op a s) in
            let every = reads_all (plain_instr so so.op) refl (source_fits so k act ins s no_call) in
            let g = gives_reg y so (space_for (result_kind so.op)) r.1 act ins pl.0 in
            as_plain no_call (go c f a s no_call y r.1 pl.0 pl.1 every g)
          where
            copy_mov : (op : Op) → is_copy op ≡ true → is_source op ≡ true → op ≡ Mov
            copy_mov Mov x y = refl
            copy_mov Spill x y = absurd (cc y)
            copy_mov Reload x y = absurd (cc y)
            copy_mov P2R x y = absurd (cc y)
            copy_mov R2P x y = absurd (cc y)
            copy_mov _ x y = absurd (cc x)

            -- a Mov of the source has one operand
            moving : so.op ≡ Mov → (y : TempId) → p.op.results ≡ y ∷ []
                → GivesReg e.table (temps_of p.block) (job_with values p (plain_instr so so.op)) y.0
                → Deed e.table (temps_of p.block) slots (job_with values p (plain_instr so so.op))
            moving q y ry g =
                let no_call : so.op ≡ Call → ⊥ = λ c. let z : Mov ≡ Call = sym q ∙ c in absurd (cc z) in
                let ks = keeps in
                let wanted : wants_of e.table e.names e.blocks p.owner p.op.kind p.op ≡ anywhere General ∷ [] =
                ap (λ (x : ExtKind). wants_of e.table e.names e.blocks p.owner x p.op) k ∙ ap (wants_of_op e.table so) q in
                let one = one_zip (IsGoodOperand e.names e.blocks (let g = placed_good e o values h p m in g.before)) p.op.operands
                (anywhere General) (subst (AllZip (IsGoodOperand e.names e.blocks (let g = placed_good e o values h p m in g.before))
                p.op.operands) wanted ks.operands) in
                let x = one.0 in
                let rd = reading e o values h p 0 x m act (ap (λ xs. slice_get xs 0) one.1) in
                let want_is : rd.0 ≡ anywhere General = let z : Some rd.0 ≡ Some (anywhere General) = sym rd.1
                ∙ ap (λ ws. slice_get ws 0) wanted in cc z in
                let of = operand_facts 0 x rd.0 rd.2 (ready_for so.op ins (ap is_branch q) 0 x rd.0 rd.2) in
                let sp = read_space 0 x rd.0 Mov R rd.2 (ins ∙ ap Some q) refl in
                let place_y = result_space y Mov R ry (ins ∙ ap Some q) refl in
                moves (temp_of 0 x) y.0 q (record {
                  copies = record {
                    reads = ap (λ xs. places_from temp_of 0 xs) one.1;
                    read = of.read;
                    given = g.given;
                    kind = source_kind so y k ry ∙ ap result_kind q ∙ sym (read_kind 0 x rd.0 rd.2 ∙ ap (λ (w : Want). w.kind) want_is);
                  };
                  srcs = ap (λ xs. numbers (places_from reg_of 0 xs)) one.1 ∙ ap (λ r. r ∷ []) of.register;
                  dst = g.dst;
                }) (in_general _ sp) (in_general _ place_y)

            go : (c : Bool) → is_copy so.op ≡ c → is_alu so.op ≡ true → is_source so.op ≡ true → (so.op ≡ Call → ⊥) → (y : TempId)
                → p.op.results ≡ y ∷ [] → (let T = temps_of p.block in T.place y.0 < FIRST_SLOT) → IsPlain (temps_of p.block) y.0
                → ReadsAll (temps_of p.block) (job_with values p (plain_instr so so.op))
                → GivesReg e.table (temps_of p.block) (job_with values p (plain_instr so so.op)) y.0
                → Deed e.table (temps_of p.block) slots (job_with values p (plain_instr so so.op))
            go true f a s n y ry lt pl every g = moving (copy_mov so.op f s) y ry g
            go false f a s n y ry lt pl every g = computes y.0 a f every g pl

        by_class : TextClass so.op → Deed e.table (temps_of p.block) slots (job_with values p (source_instr so so.op srcs dst))
        by_class (alu a s) = computing a s (is_copy so.op) refl
        by_class (load q) =
            let no_call : so.op ≡ Call → ⊥ = λ c. let z : Load ≡ Call = sym q ∙ c in absurd (cc z) in
            let r = has (λ c. let z : Load ≡ Store = sym q ∙ c in absurd (cc z)) no_call in
            let f : result_space_in so.op ≡ Some (space_for (result_kind so.op)) = ap result_space_in q
            ∙ sym (ap (λ (op : Op). Some (space_for (result_kind op))) q) in
            let pl = result_plain so r.0 k r.1 ins f in
            as_plain no_call (loads (r.0).0 q (reads_all (plain_instr so so.op) refl (source_fits so k act ins good_op.op no_call))
            (gives_reg r.0 so R r.1 act ins pl.0) pl.1)
        by_class (store q) =
            let no_call : so.op ≡ Call → ⊥ = λ c. let z : Store ≡ Call = sym q ∙ c in absurd (cc z) in
            let none : so.dst ≡ None = let g = good_op in subst (λ (op : Op). HasItsResult op so.dst) q g.result in
            let empty : p.op.results ≡ [] = nothing p.op.results (counted ∙ ap (λ (d : Option NameId). length (option_to_list d)) none) in
            as_plain no_call (stores q (reads_all (plain_instr so so.op) refl (source_fits so k act ins good_op.op no_call))
            (ap (λ ys. option_map (λ (x : TempId). x.0) (slice_get ys 0)) empty)
            (ap (λ ys. option_map (temp_register (model_of e o) values) (slice_get ys 0)) empty))
          where
            nothing : (ys : List TempId) → length ys ≡ 0 → ys ≡ []
            nothing [] l = refl
            nothing (y ∷ ys) l = absurd (omega arith)
        by_class (call q) =
            let j : Instr = record { op = Call; dst = None; srcs = srcs; imm = so.imm; label = so.callee } in
            let same : source_instr so so.op srcs dst ≡ j = ap (λ (op : Op). source_instr so op srcs dst) q in
            subst (λ (i : Instr). Deed e.table (temps_of p.block) slots (job_with values p i)) (sym same)
            (calls refl (reads_all j refl (call_fits so k act ins q)) refl (result p.op.results refl))
          where
            result : (ys : List TempId) → p.op.results ≡ ys → GivesResult e.table (temps_of p.block)
                (job_with values p (record { op = Call; dst = None; srcs = srcs; imm = so.imm; label = so.callee }))
            result [] r = inl (ap (λ ys. option_map (λ (x : TempId). x.0) (slice_get ys 0)) r)
            result (y ∷ []) r =
                let place : (range_at e o values y.0).reg ≡ (e.table).result = call_place so y k q r in
                let kind = source_kind so y k r ∙ ap result_kind q in
                inr (
                  y.0,
                  gives y (record { op = Call; dst = None; srcs = srcs; imm = so.imm; label = so.callee }) so.op r act ins (sym q),
                  place,
                  λ v. ap (λ (k : Kind). as_held k (let T = temps_of p.block in T.place y.0) v) kind,
                )
            result (y ∷ z ∷ ys) r = absurd (too_many so.dst (counted ∙ refl) (ap length r))
              where
                too_many : (d : Option NameId) → length p.op.results ≡ length (option_to_list d)
                    → length p.op.results ≡ suc (suc (length ys)) → ⊥
                too_many None a b = omega arith
                too_many (Some n) a b = omega arith

    -- ---- terminators

    same_space : (own op : Op) (j : ℕ) → Some own ≡ Some op → operand_space_in op j ≡ operand_space_in own j
    same_space own op j q = let k : own ≡ op = cc q in ap (λ (o : Op). operand_space_in o j) (sym k)

    -- a terminator asks of its operand the space of its kind
    end_space : (term : Term) (op : Op) (j : ℕ) (want : Want) → transfer_of term ≡ Some op → slice_get (wants_of_end term) j ≡ Some want
        → operand_space_in op j ≡ Some (space_for want.kind)
    end_space Fall op j want q w = absurd (cc w)
    end_space (Jump to) op j want q w = absurd (cc w)
    end_space (Branch pred true to) op zero want q w = let z : anywhere Pred ≡ want = cc w in
        same_space _ op 0 q ∙ ap (λ (x : Want). Some (space_for x.kind)) z
    end_space (Branch pred true to) op (suc j) want q w = absurd (cc w)
    end_space (Branch pred false to) op zero want q w = let z : anywhere Pred ≡ want = cc w in
        same_space _ op 0 q ∙ ap (λ (x : Want). Some (space_for x.kind)) z
    end_space (Branch pred false to) op (suc j) want q w = absurd (cc w)
    end_space (Ret value) op zero want q w = let z : anywhere General ≡ want = cc w in
        same_space _ op 0 q ∙ ap (λ (x : Want). Some (space_for x.kind)) z
    end_space (Ret value) op (suc j) want q w = absurd (cc w)

    -- whether it is beside what it reads
    abbrev pub beside : Bool
    beside = is_beside (schedule_of (model_of e o) values).ranges values p.op (vars_of p)

    module _ (slots : ℕ) (term : Term) (op : Op) (k : p.op.kind ≡ End term) (act : (issue_at values p).active ≡ true)
        (ins : (issue_at values p).instr ≡ Some op) (q : transfer_of term ≡ Some op) where
      abbrev emitted : Op
      emitted = if beside then new_op op else op

      abbrev i : Instr
      i = term_instr e.blocks term emitted srcs

      end_cycle : (issue_at values p).cycle ≡ value_by values (vars_of p).cycle
      end_cycle = ap (λ (z : ExtKind). cycle_by values (end_of values p) z (vars_of p)) k

      -- it is where that is given in its own cycle
      beside_is : (x : Operand) (want : Want) → slice_get p.op.operands 0 ≡ Some x → (r : Reading e o values h p 0 x want)
          → beside ≡ ((range_at e o values r.spot.temp.0).from == (issue_at values p).cycle)
      beside_is x want at r =
          let ranges = (schedule_of (model_of e o) values).ranges in
          let c = value_by values (vars_of p).cycle in
          ap (reads_beside ranges values (vars_of p)) at
          ∙ ap (λ (y : TempId). is_from c (slice_get ranges y.0)) (sym r.is)
          ∙ ap (is_from c) (range_get e o values (numbered e o values h) r.spot r.member)
          ∙ ap (λ (v : LiveRange). v.from == c) (sym (range_here e o values (numbered e o values h) r.spot r.member))
          ∙ ap (λ n. (range_at e o values r.spot.temp.0).from == n) (sym end_cycle)

      -- a terminator has one operand at most
      first_only : (j : ℕ) (want : Want) → slice_get (wants_of e.table e.names e.blocks p.owner p.op.kind p.op) j ≡ Some want → j ≡ 0
      first_only j want w = by term j want (ap (λ (x : ExtKind). slice_get (wants_of e.table e.names e.blocks p.owner x p.op) j) (sym k) ∙ w)
        where
          by : (term : Term) (j : ℕ) (want : Want) → slice_get (wants_of_end term) j ≡ Some want → j ≡ 0
          by term zero want w = refl
          by Fall (suc j) want w = absurd (cc w)
          by (Jump to) (suc j) want w = absurd (cc w)
          by (Branch pred sense to) (suc j) want w = absurd (cc w)
          by (Ret None) (suc j) want w = absurd (cc w)
          by (Ret (Some name)) (suc j) want w = absurd (cc w)

      -- a predicate that is not beside its branch was given before
      ready_old : is_new emitted ≡ false → (j : ℕ) (x : Operand) (want : Want) → slice_get p.op.operands j ≡ Some x
          → slice_get (wants_of e.table e.names e.blocks p.owner p.op.kind p.op) j ≡ Some want
          → (r : Reading e o values h p j x want) → IsReady j x want r
      ready_old old zero x want at w r = by (is_fresh_in e.table (range_at e o values r.spot.temp.0).instr (issue_at values p).instr) refl
        where
          by : (b : Bool) → is_fresh_in e.table (range_at e o values r.spot.temp.0).instr (issue_at values p).instr ≡ b
              → IsReady 0 x want r
          by false f = waited_latency e o values h p 0 x want r f
          by true f =
              let facts = fresh_facts e.table (range_at e o values r.spot.temp.0).instr (issue_at values p).instr f in
              let branch : is_branch op ≡ true = sym (ap is_branch_in ins) ∙ facts.branch in
              let alone : beside ≡ false = not_beside beside op branch old in
              let apart : (range_at e o values r.spot.temp.0).from ≢ (issue_at values p).cycle =
              λ same. let z : true ≡ false =
              sym (eq-eqb (range_at e o values r.spot.temp.0).from (issue_at values p).cycle same) ∙ sym (beside_is x want at r) ∙ alone in
              absurd (cc z) in
              let quick = fresh_quick e.table h.fit (range_at e o values r.spot.temp.0).instr (issue_at values p).instr f in
              let ready = r.ready in
              let gap = facts.gap in
              omega (arith, quick, ready, gap, apart)
      ready_old old (suc j) x want at w r = let z = first_only (suc j) want w in absurd (omega (arith, z))

      nothing : given_temp p ≡ None
      nothing = let ks = keeps in no_result (ks.results ∙ ap (result_count e.table p.owner) k)

      leaving : is_transfer emitted ≡ true
      leaving = sym (transfer_alike (End term) emitted) ∙ ap is_transfer (own_emitted beside (End term) 0 op q) ∙ transfer_leaves term op q

      spaces : (j : ℕ) (want : Want) → slice_get (wants_of e.table e.names e.blocks p.owner p.op.kind p.op) j ≡ Some want
          → operand_space_in op j ≡ Some (space_for want.kind)
      spaces j want w = end_space term op j want q
          (ap (λ ws. slice_get ws j) (sym (ap (λ (x : ExtKind). wants_of e.table e.names e.blocks p.owner x p.op) k)) ∙ w)

      deed_old : is_new emitted ≡ false → Deed e.table (temps_of p.block) slots (job_with values p i)
      deed_old old = leaves leaving old (reads_all i refl (fit_by op act ins spaces (ready_old old))) refl nothing

      -- a branch reads one predicate
      one_operand : is_new emitted ≡ true → (x : Operand) × (p.op.operands ≡ x ∷ [])
      one_operand new = by term k q
        where
          Goal : Type 0
          Goal = (x : Operand) × (p.op.operands ≡ x ∷ [])

          never : (own : Op) → Some own ≡ Some op → ((b : Bool) → is_new (if b then new_op own else own) ≡ false) → Goal
          never own s f =
              let same : own ≡ op = cc s in
              let z : true ≡ false = sym new ∙ ap (λ (x : Op). is_new (if beside then new_op x else x)) (sym same) ∙ f beside in
              absurd (cc z)

          one : (pred : NameId) (sense : Bool) (to : BlockId) → p.op.kind ≡ End (Branch pred sense to) → Goal
          one pred sense to kb =
              let ks = keeps in
              let wanted : wants_of e.table e.names e.blocks p.owner p.op.kind p.op ≡ anywhere Pred ∷ [] =
              ap (λ (x : ExtKind). wants_of e.table e.names e.blocks p.owner x p.op) kb in
              one_zip (IsGoodOperand e.names e.blocks (let g = placed_good e o values h p m in g.before)) p.op.operands (anywhere Pred)
              (subst (AllZip (IsGoodOperand e.names e.blocks (let g = placed_good e o values h p m in g.before)) p.op.operands) wanted
              ks.operands)

          by : (term : Term) → p.op.kind ≡ End term → transfer_of term ≡ Some op → Goal
          by Fall kb s = absurd (cc s)
          by (Jump to) kb s = never JumpOp s (λ b. elim b as (λ b. is_new (if b then new_op JumpOp else JumpOp) ≡ false)
              [ true ↦ refl | false ↦ refl ])
          by (Branch pred sense to) kb s = one pred sense to kb
          by (Ret value) kb s = never Jumpr s (λ b. elim b as (λ b. is_new (if b then new_op Jumpr else Jumpr) ≡ false)
              [ true ↦ refl | false ↦ refl ])

      deed_new : is_new emitted ≡ true → Deed e.table (temps_of p.block) slots (job_with values p i)
      deed_new new =
          let one = one_operand new in
          let x = one.0 in
          let at : slice_get p.op.operands 0 ≡ Some x = ap (λ (xs : List Operand). slice_get xs 0) one.1 in
          let rd = reading e o values h p 0 x m act at in
          let r = rd.2 in
          let n = ap (λ (y : TempId). y.0) r.is in
          let here : beside ≡ true = new_emitted beside op (own_old term op q) new in
          let from : (range_at e o values r.spot.temp.0).from ≡ (issue_at values p).cycle =
          eqb-true (range_at e o values r.spot.temp.0).from (issue_at values p).cycle (sym (beside_is x rd.0 at r) ∙ here) in
          let fresh : is_fresh_in e.table (range_at e o values r.spot.temp.0).instr (issue_at values p).instr ≡ true =
          fresh_here e.table h.fit (range_at e o values r.spot.temp.0).instr (issue_at values p).instr (let ready = r.ready in
          omega (arith, ready, from)) in
          let facts = fresh_facts e.table (range_at e o values r.spot.temp.0).instr (issue_at values p).instr fresh in
          let sp = read_space 0 x rd.0 op (space_for (let w = rd.0 in w.kind)) r ins (spaces 0 rd.0 rd.1) in
          let pl = plain_in (temps_of p.block) (temp_of 0 x) (let w = rd.0 in w.kind) (read_kind 0 x rd.0 r) sp in
          tests (temp_of 0 x) (record {
            reads = ap (λ xs. places_from temp_of 0 xs) one.1;
            active = subst (λ n. let T = temps_of p.block in T.active n ≡ true) n (active_in r.spot.temp.0 p.block r.active r.there);
            from = subst (λ n. (range_at e o values n).from ≡ (issue_at values p).cycle) n from;
            srcs = ap (λ xs. numbers (places_from reg_of 0 xs)) one.1 ∙ ap (λ r. r ∷ []) (operand_register 0 x rd.0 r);
            reg = pl.0;
            plain = pl.1;
            compared = subst (λ n. is_compare_in (range_at e o values n).instr ≡ true) n facts.compare;
            new = new;
          }) refl nothing

      pub deed_end : Deed e.table (temps_of p.block) slots (job_with values p (term_instr e.blocks term
          (if beside then new_op op else op) srcs))
      deed_end = elim (is_new emitted) as (λ b. is_new emitted ≡ b → Deed e.table (temps_of p.block) slots (job_with values p i)) [
        | true ↦ λ new. deed_new new
        | false ↦ λ old. deed_old old
      ] refl

    -- ---- Enter and Leave

    pub deed_shift : (slots : ℕ) (op : Op) (bytes : ℤ) → moves_stack op ≡ true → length p.op.results ≡ 0
        → Deed e.table (temps_of p.block) slots (job_with values p (stack_instr op bytes))
    deed_shift slots op bytes q l = shifts q refl (no_result l)

    -- ---- copies

    -- the instruction of a copy with this number
    data CopyOp (n : ℕ) (op : Op) : Type 0 where
      mov : op ≡ Mov → CopyOp n op
      spill : op ≡ Spill → CopyOp n op
      reload : op ≡ Reload → CopyOp n op
      p2r : n ≡ 4 → op ≡ P2R → CopyOp n op
      r2p : n ≡ 5 → op ≡ R2P → CopyOp n op

    not_same : (n m : ℕ) → n ≢ m → nat_eq n m ≡ false
    not_same n m d = grind (arith, d)

    no_copy : (n : ℕ) → 6 ≤ n → copy_of n ≡ None
    no_copy n le =
        let e1 = not_same n 1 (omega arith) in
        let e2 = not_same n 2 (omega arith) in
        let e3 = not_same n 3 (omega arith) in
        let e4 = not_same n 4 (omega arith) in
        let e5 = not_same n 5 (omega arith) in
        rw (e1, e2, e3, e4, e5) refl

    copy_op : (n : ℕ) (op : Op) → copy_of n ≡ Some op → CopyOp n op
    copy_op zero op q = absurd (cc q)
    copy_op (suc zero) op q = mov (cc q)
    copy_op (suc (suc zero)) op q = spill (cc q)
    copy_op (suc (suc (suc zero))) op q = reload (cc q)
    copy_op (suc (suc (suc (suc zero)))) op q = p2r refl (cc q)
    copy_op (suc (suc (suc (suc (suc zero))))) op q = r2p refl (cc q)
    copy_op (suc (suc (suc (suc (suc (suc n)))))) op q = let k : None ≡ Some op =
        sym (no_copy (suc (suc (suc (suc (suc (suc n)))))) (omega arith)) ∙ q in absurd (cc k)

    -- a copy's operand and result
    pub record CopyParts : Type 0 where
      pub operand : Operand
      pub operands : p.op.operands ≡ operand ∷ []
      pub result : TempId
      pub results : p.op.results ≡ result ∷ []
      pub want : Want
      pub reading : Reading e o values h p 0 operand want

    pub copy_parts : (node : NodeCopy) → p.op.kind ≡ Copy node → (issue_at values p).active ≡ true → CopyParts
    copy_parts node k act =
        let ks = keeps in
        let w = anywhere (unwrap_or (kind_of_temp e.names e.blocks (first_read p.op.operands)) General) in
        let wanted : wants_of e.table e.names e.blocks p.owner p.op.kind p.op ≡ w ∷ [] =
        ap (λ (x : ExtKind). wants_of e.table e.names e.blocks p.owner x p.op) k in
        let one = one_zip (IsGoodOperand e.names e.blocks (let g = placed_good e o values h p m in g.before)) p.op.operands w
        (subst (AllZip (IsGoodOperand e.names e.blocks (let g = placed_good e o values h p m in g.before)) p.op.operands) wanted
        ks.operands) in
        let r = reading e o values h p 0 one.0 m act (ap (λ xs. slice_get xs 0) one.1) in
        let y = one_result (ks.results ∙ ap (result_count e.table p.owner) k) in
        record { operand = one.0; operands = one.1; result = y.0; results = y.1; want = r.0; reading = r.2 }

    -- what a copy carries is what it reads
    copy_kind : (node : NodeCopy) → p.op.kind ≡ Copy node → (c : CopyParts)
        → (let T = temps_of p.block in T.kind c.result.0) ≡ (let T = temps_of p.block in T.kind (temp_of 0 c.operand))
    copy_kind node k c =
        let r = c.reading in
        let x = c.operand in
        let carries : carried e.blocks c.result ≡ temp (first_of x.alts) =
        carried_is e o values (numbered e o values h) (fit_kinds e o values h) (spot p 0 c.result) (result_spot c.result c.results)
        ∙ ap (λ (z : ExtKind). carried_at z (spot p 0 c.result)) k ∙ ap first_read c.operands in
        same_kind e o values (numbered e o values h) (fit_kinds e o values h) c.result r.spot.temp (carries ∙ sym r.value)
        ∙ ap (λ (y : TempId). kind_at e o values (numbered e o values h) (fit_kinds e o values h) y.0) r.is

    pub deed_copy : (slots : ℕ) (node : NodeCopy) (op : Op) → p.op.kind ≡ Copy node → (issue_at values p).active ≡ true
        → (issue_at values p).instr ≡ Some op → copy_of (value_by values (vars_of p).instr) ≡ Some op
        → (4 ≤ value_by values (vars_of p).instr → (y : TempId) → p.op.results ≡ y ∷ [] → (let T = temps_of p.block in T.kind y.0) ≡ Pred)
        → ((x : ℕ) → (let T = temps_of p.block in T.active x ≡ true) → (let T = temps_of p.block in T.place x < FIRST_SLOT + slots))
        → Deed e.table (temps_of p.block) slots (job_with values p (copy_instr op srcs dst))
    deed_copy slots node op k act ins q truth inside = by_op (copy_op (value_by values (vars_of p).instr) op q)
      where
        c : CopyParts
        c = copy_parts node k act

        x : ℕ
        x = let d = c in temp_of 0 d.operand

        y : ℕ
        y = let d = c in d.result.0

        facts : OperandFacts p 0 (let d = c in d.operand)
        facts = let d = c in operand_facts 0 d.operand d.want d.reading
            (ready_for op ins (copy_branch op (copy_copies (value_by values (vars_of p).instr) op q)) 0 d.operand d.want d.reading)

        copies : (i : Instr) → i.op ≡ op → Copies e.table (temps_of p.block) (job_with values p i) x y
        copies i s = let d = c in let f = facts in record {
          reads = ap (λ xs. places_from temp_of 0 xs) d.operands;
          read = f.read;
          given =
              gives d.result i op d.results act ins s;
          kind = copy_kind node k d;
        }

        one_src : numbers srcs ≡ (let T = temps_of p.block in T.place x) ∷ []
        one_src = let d = c in let f = facts in ap (λ xs. numbers (places_from reg_of 0 xs)) d.operands ∙ ap (λ r. r ∷ []) f.register

        one_dst : option_map (λ (r : Reg). r.0) dst ≡ Some (let T = temps_of p.block in T.place y)
        one_dst = let d = c in result_place d.result d.results

        space_x : (s : Space) → operand_space_in op 0 ≡ Some s → space_of (let T = temps_of p.block in T.place x) ≡ s
        space_x s f = let d = c in read_space 0 d.operand d.want op s d.reading ins f

        space_y : (s : Space) → result_space_in op ≡ Some s → space_of (let T = temps_of p.block in T.place y) ≡ s
        space_y s f = let d = c in result_space d.result op s d.results ins f

        dst_reg : (r : Reg) × (dst ≡ Some r)
        dst_reg = let d = c in (
          temp_register (model_of e o) values d.result,
          ap (λ ys. option_map (temp_register (model_of e o) values) (slice_get ys 0)) d.results,
        )

        active_y : (let T = temps_of p.block in T.active y ≡ true)
        active_y = let g = copies (copy_instr op srcs dst) (copy_op_is op) in let z = g.given in z.active
          where
            copy_op_is : (op : Op) → (copy_instr op srcs dst).op ≡ op
            copy_op_is Spill = refl
            copy_op_is Reload = refl
            copy_op_is _ = refl

        active_x : (let T = temps_of p.block in T.active x ≡ true)
        active_x = let f = facts in let r = f.read in r.active

        slot_y : FIRST_SLOT ≤ (let T = temps_of p.block in T.place y) → IsInSlot (temps_of p.block) slots
            (job_with values p (copy_instr Spill srcs dst)) y
        slot_y le =
            let lt = inside y active_y in
            let r = dst_reg in
            let n : Some (r.0).0 ≡ Some (let T = temps_of p.block in T.place y) = ap (option_map (λ (r : Reg). r.0)) (sym r.1) ∙ one_dst in
            let n' : (r.0).0 ≡ (let T = temps_of p.block in T.place y) = cc n in
            record { slot = le; within = omega arith; imm = ap slot_offset r.1 ∙ ap (λ z. pos (4 * (z - FIRST_SLOT))) n' }

        slot_x : FIRST_SLOT ≤ (let T = temps_of p.block in T.place x) → IsInSlot (temps_of p.block) slots
            (job_with values p (copy_instr Reload srcs dst)) x
        slot_x le =
            let lt = inside x active_x in
            let d = c in
            let f = facts in
            record {
              slot = le;
              within = omega arith;
              imm = ap (λ xs. slot_offset (slice_get (places_from reg_of 0 xs) 0)) d.operands
                  ∙ ap (λ z. pos (4 * (z - FIRST_SLOT))) f.register;
            }

        as_op : (q : Op) → op ≡ q → Deed e.table (temps_of p.block) slots (job_with values p (copy_instr q srcs dst))
            → Deed e.table (temps_of p.block) slots (job_with values p (copy_instr op srcs dst))
        as_op q s d = subst (λ (z : Op). Deed e.table (temps_of p.block) slots (job_with values p (copy_instr z srcs dst))) (sym s) d

        by_op : CopyOp (value_by values (vars_of p).instr) op → Deed e.table (temps_of p.block) slots
            (job_with values p (copy_instr op srcs dst))
        by_op (mov s) = as_op Mov s (moves x y refl (record {
          copies = copies (copy_instr Mov srcs dst) (sym s);
          srcs = one_src;
          dst =
              one_dst;
        })
            (in_general _ (space_x R (ap (λ (z : Op). operand_space_in z 0) s))) (in_general _ (space_y R (ap result_space_in s))))
        by_op (spill s) = as_op Spill s (spills x y refl (copies (copy_instr Spill srcs dst) (sym s)) one_src refl
            (in_general _ (space_x R (ap (λ (z : Op). operand_space_in z 0) s))) (slot_y (in_frame _ (space_y M (ap result_space_in s)))))
        by_op (reload s) = as_op Reload s (reloads x y refl (copies (copy_instr Reload srcs dst) (sym s)) refl one_dst
            (slot_x (in_frame _ (space_x M (ap (λ (z : Op). operand_space_in z 0) s)))) (in_general _ (space_y R (ap result_space_in s))))
        by_op (p2r n s) =
            let d = c in
            let pl = in_predicates _ (space_x P (ap (λ (z : Op). operand_space_in z 0) s)) in
            let t = truth (omega arith) d.result d.results in
            as_op P2R s (from_pred x y refl (record { copies = copies (copy_instr P2R srcs dst) (sym s); srcs = one_src; dst = one_dst })
            (sym (copy_kind node k d) ∙ t) pl.0 pl.1 (in_general _ (space_y R (ap result_space_in s))))
        by_op (r2p n s) =
            let d = c in
            let pl = in_predicates _ (space_y P (ap result_space_in s)) in
            let t = truth (omega arith) d.result d.results in
            as_op R2P s (to_pred x y refl (record { copies = copies (copy_instr R2P srcs dst) (sym s); srcs = one_src; dst = one_dst })
            (sym (copy_kind node k d) ∙ t) (in_general _ (space_x R (ap (λ (z : Op). operand_space_in z 0) s))) pl.0 pl.1)
