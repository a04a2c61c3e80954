-- Each instruction of the emitted code has the operands, the result, the literal and the label that its operation asks for.
use Rattle.std.proofs.Common.{ℕ, zero, suc, pos, neg_ℤ, ◌≡◌, ◌≢◌, ◌<◌, ◌≤◌, ◌+◌, Bool, true, false, List, [], ◌∷◌, length, map, take}
use Rattle.std.proofs.Common.{refl, sym, ap, ◌∙◌, subst, arith}
use Rattle.std.specs.Prelude.{Option, Some, None, slice_get, ◌==◌, if◌then◌else◌, IfSome}
use Rattle.std.specs.List.{range_with_len}
use Rattle.std.specs.Option.{option_map, option_to_list}
use Rattle.std.proofs.lemmas.Bool.{eqb-true}
use Rattle.std.proofs.lemmas.List.{length-map}
use Rattle.un_base.specs.declared.ids.NameId.{NameId}
use Rattle.un_base.specs.declared.ids.TempId.{TempId}
use Rattle.un_isa.specs.Facts.{operand_spaces, result_space}
use Rattle.un_isa.specs.Operands.{HasLiteral, is_alu}
use Rattle.un_isa.specs.Registers.{space_of}
use Rattle.un_isa.specs.declared.instr.Instr.{Instr}
use Rattle.un_isa.specs.declared.op.Op.{Op}
use Rattle.un_isa.specs.declared.op.Op.TheVariants.{Mov, Store, Call, Spill, Reload, P2R, R2P, Enter as EnterOp, Leave as LeaveOp}
use Rattle.un_isa.specs.declared.reg.Reg.{Reg}
use Rattle.un_isa.specs.declared.reg.Space.{Space}
use Rattle.un_isa.specs.declared.reg.Space.TheVariants.{R, P}
use Rattle.un_isa.specs.declared.reg.TheConstants.{STACK}
use Rattle.un_ir.specs.declared.function.SrcOp.{SrcOp}
use Rattle.un_ir.specs.declared.function.Term.{Term}
use Rattle.un_ir.specs.declared.extended.NodeCopy.{NodeCopy}
use Rattle.un_ir.specs.declared.extended.ExtKind.{ExtKind}
use Rattle.un_ir.specs.declared.extended.ExtKind.TheVariants.{In, Out, Body, End, Copy, Enter, Leave}
use Rattle.un_ir.specs.declared.extended.Operand.{Operand}
use Rattle.un_ir.specs.declared.extended.Ext.{Ext}
use Rattle.un_ir.specs.Extended.{Want, word_in, wants_of, wants_of_op, result_count, IsGoodOperand, IsGoodKind, IsSourceOp, HasItsResult}
use Rattle.un_ir.specs.Extended.{IsGoodExtBlock}
use Rattle.un_ir.specs.WellFormed.{NamesItsCallee, result_kind}
use Rattle.un_model.specs.declared.model.Options.{Options}
use Rattle.un_model.specs.declared.schedule.LiveRange.{LiveRange}
use Rattle.un_model.specs.Cost.{value_of}
use Rattle.un_model.specs.Emission.{temp_register, operand_registers, result_register, source_instr, term_instr, copy_instr, stack_instr}
use Rattle.un_model.specs.Emission.{instr_by, instr_if, frame_of, frame_bytes, largest_slot, new_op, is_beside, emitted_by}
use Rattle.un_model.specs.Instructions.{instruction_of, transfer_of, frame_instr, result_space_in}
use Rattle.un_model.specs.Pairs.{places_from}
use Rattle.un_ir.specs.Kinds.{is_frame_op}
use Rattle.un_model.specs.Schedules.{choice_of, instr_of, value_by, schedule_of}
use Rattle.un_model.specs.Solutions.{HasFrame, HasHome}
use Rattle.un_model.specs.Variables.{model_of}
use Rattle.un_packet.specs.CodeRules.{IsGoodInstr, number}
use Rattle.un_packet.proofs.Rules.{at_all}
use Rattle.un_emit.proofs.BlockEdges.{ends_by}
use Rattle.un_emit.proofs.BlockJobs.{IsJob, some_active}
use Rattle.un_emit.proofs.Own.{own_op, own_emitted}
use Rattle.un_emit.proofs.JobDeeds.{TextClass, text_class, alu, load as loading, store as storing, call as calling, space_for, result_in}
use Rattle.un_emit.proofs.JobDeeds.{operand_register, read_space, result_spot, result_space as given_in, one_result, has_result, CopyParts}
use Rattle.un_emit.proofs.JobDeeds.{copy_parts}
use Rattle.un_lists.proofs.Lists.{Each, Member, each_member, each_more, member_at, member_map, slice_get-map}
use Rattle.un_model.proofs.Placed.{Placed, vars_of, issue_at, spot, spots_of}
use Rattle.un_emit.proofs.Places.{not_stack}
use Rattle.un_model.proofs.Readings.{Solved, good, numbered, placed_good, reading, register_is}
use Rattle.un_emit.proofs.RulesFrame.{IsLow, low}
use Rattle.un_emit.proofs.RulesLists.{zip_length}
use Rattle.un_emit.proofs.RulesOps.{spaces_of, space_at, told_apart, space_listed, reads_plain, writes_plain, base_of, offset_fits}
use Rattle.un_emit.proofs.RulesOps.{minus_is, source_count, source_gives, source_number, source_label, IsCopyOp, mov, spill, reload, p2r}
use Rattle.un_emit.proofs.RulesOps.{r2p, copy_is, AreNamed, LeadsIn, end_facts, only_end}
use Rattle.un_model.proofs.PlacedSchedules.{all, the_ranges, range_at, range_here, each_issue, member_joined, member_places}
use Rattle.un_emit.proofs.Timed.{Job}

-- ---- arguments

take_range : (n m k j a : ℕ) → slice_get (take n (range_with_len k m)) j ≡ Some a → a ≡ k + j
take_range zero m k j a q = absurd (cc q)
take_range (suc n) zero k j a q = absurd (cc q)
take_range (suc n) (suc m) k zero a q = let z : k ≡ a = cc q in omega arith
take_range (suc n) (suc m) k (suc j) a q = let z = take_range n m (k + 1) j a q in omega arith

take_few : (n m k : ℕ) → length (take n (range_with_len k m)) ≤ m
take_few zero m k = omega arith
take_few (suc n) zero k = omega arith
take_few (suc n) (suc m) k = let z = take_few n m (k + 1) in omega arith

-- the first n arguments
abbrev args_to : ℕ → List ℕ
args_to n = take n (range_with_len 0 6)

-- what lies at the home of argument j lies in register j
arg_home : (n j : ℕ) (a : Option ℕ) (w : Want) (v : LiveRange) → slice_get (args_to n) j ≡ a → option_map word_in a ≡ Some w
    → HasHome w.home v → v.reg ≡ j
arg_home n j None w v s t home = absurd (cc t)
arg_home n j (Some a) w v s t home =
    let same : word_in a ≡ w = cc t in
    let reg = subst (λ (w : Want). HasHome w.home v) (sym same) home in
    let z = take_range n 6 0 j a s in omega (arith, reg, z)

length-places : {A B : Type 0} (f : ℕ → A → B) (i : ℕ) (xs : List A) → length (places_from f i xs) ≡ length xs
length-places f i [] = refl
length-places f i (x ∷ xs) = ap suc (length-places f (i + 1) xs)

-- a register that an instruction may name
abbrev IsMeant : Reg → Type 0
IsMeant r = (r.0 ≢ STACK) × IsLow r.0

meant_low : (r : Option Reg) → IfSome r IsMeant → IfSome r (λ (r : Reg). IsLow r.0)
meant_low None f = tt
meant_low (Some r) f = f.1

module _ (e : Ext) (o : Options) (values : List ℕ) (h : Solved e o values) where
  abbrev frame : ℕ
  frame = frame_of (model_of e o) values

  pub named_blocks : AreNamed e.blocks
  named_blocks k block q =
      let g = good e o values h in
      let b = at_all (IsGoodExtBlock e.table e.names e.blocks) e.blocks k block g.each q in b.label

  module _ (p : Placed) (m : Member p (all e o values)) where
    abbrev srcs : List Reg
    srcs = operand_registers (model_of e o) values p.op (vars_of p)

    abbrev dst : Option Reg
    dst = result_register (model_of e o) values p.op

    abbrev temp_at : ℕ → Operand → TempId
    temp_at j x = choice_of values (vars_of p) j x

    abbrev reg_at : ℕ → Operand → Reg
    reg_at j x = temp_register (model_of e o) values (choice_of values (vars_of p) j x)

    abbrev Acts : Type 0
    Acts = (issue_at values p).active ≡ true

    abbrev Issues : Op → Type 0
    Issues op = (issue_at values p).instr ≡ Some op

    abbrev wants : ExtKind → List Want
    wants kind = wants_of e.table e.names e.blocks p.owner kind p.op

    abbrev Good : Instr → Type 0
    Good i = IsGoodInstr (frame_of (model_of e o) values) i

    -- ---- operands

    -- the operand at place j, in its space
    read_at : (op : Op) → Acts → Issues op → (j : ℕ) (x : Operand) (s : Space) → slice_get p.op.operands j ≡ Some x
        → slice_get (operand_spaces op) j ≡ Some s → space_of (reg_at j x).0 ≡ s
    read_at op act ins j x s q r =
        let rd = reading e o values h p j x m act q in
        ap space_of (operand_register e o values h p m j x rd.0 rd.2) ∙ read_space e o values h p m j x rd.0 op s rd.2 ins (space_listed op j s r)

    spaces_by : (xs : List Operand) (spaces : List Space) (k : ℕ) → length xs ≡ length spaces
        → ((j : ℕ) (x : Operand) (s : Space) → slice_get xs j ≡ Some x → slice_get spaces j ≡ Some s → space_of (reg_at (k + j) x).0 ≡ s)
        → spaces_of (places_from reg_at k xs) ≡ spaces
    spaces_by [] [] k l f = refl
    spaces_by [] (s ∷ ss) k l f = absurd (omega (arith, l))
    spaces_by (x ∷ xs) [] k l f = absurd (omega (arith, l))
    spaces_by (x ∷ xs) (s ∷ ss) k l f =
        let here : space_of (reg_at k x).0 ≡ s = subst (λ n. space_of (reg_at n x).0 ≡ s) (omega arith) (f 0 x s refl refl) in
        ap (λ z. z ∷ spaces_of (places_from reg_at (k + 1) xs)) here
        ∙ ap (λ zs. s ∷ zs) (spaces_by xs ss (k + 1) (omega (arith, l)) (λ j y t q r.
        subst (λ n. space_of (reg_at n y).0 ≡ t) (omega arith) (f (suc j) y t q r)))

    reads_spaces : (op : Op) → Acts → Issues op → length p.op.operands ≡ length (operand_spaces op) → spaces_of srcs ≡ operand_spaces op
    reads_spaces op act ins l = spaces_by p.op.operands (operand_spaces op) 0 l (λ j x s q r.
        subst (λ n. space_of (reg_at n x).0 ≡ s) (omega arith) (read_at op act ins j x s q r))

    -- as many operands as are wanted
    count_by : (kind : ExtKind) → p.op.kind ≡ kind → length p.op.operands ≡ length (wants kind)
    count_by kind q =
        let g = placed_good e o values h p m in
        let ks = g.keeps in
        zip_length (IsGoodOperand e.names e.blocks g.before) p.op.operands (wants p.op.kind) ks.operands
        ∙ ap (λ (k : ExtKind). length (wants k)) q

    meant_at : Acts → (j : ℕ) (x : Operand) → slice_get p.op.operands j ≡ Some x → IsMeant (reg_at j x)
    meant_at act j x q =
        let rd = reading e o values h p j x m act q in
        let r = rd.2 in
        let n = (temp_at j x).0 in
        let a : (range_at e o values n).active ≡ true =
        subst (λ (t : TempId). (range_at e o values t.0).active ≡ true) r.is r.active in
        let s = not_stack e o values h n a in
        let g = operand_register e o values h p m j x rd.0 r in
        (λ z. s (sym g ∙ z), subst IsLow (sym g) (low e o values h n a))

    each_reg : (Q : Reg → Type 0) (xs : List Operand) (k : ℕ) → ((j : ℕ) (x : Operand) → slice_get xs j ≡ Some x → Q (reg_at (k + j) x))
        → Each Q (places_from reg_at k xs)
    each_reg Q [] k f = tt
    each_reg Q (x ∷ xs) k f = (
      subst (λ n. Q (reg_at n x)) (omega arith) (f 0 x refl),
      each_reg Q xs (k + 1) (λ j y q. subst (λ n. Q (reg_at n y)) (omega arith) (f (suc j) y q)),
    )

    srcs_meant : Acts → Each IsMeant srcs
    srcs_meant act = each_reg IsMeant p.op.operands 0 (λ j x q. subst (λ n. IsMeant (reg_at n x)) (omega arith) (meant_at act j x q))

    srcs_safe : Acts → Each (λ (r : Reg). r.0 ≢ STACK) srcs
    srcs_safe act = each_more IsMeant (λ (r : Reg). r.0 ≢ STACK) srcs (λ r f. f.0) (srcs_meant act)

    src_meant : Acts → IfSome (slice_get srcs 0) IsMeant
    src_meant act = go srcs (srcs_meant act)
      where
        go : (rs : List Reg) → Each IsMeant rs → IfSome (slice_get rs 0) IsMeant
        go [] f = tt
        go (r ∷ rs) f = f.0

    -- ---- the result

    dst_meant : Acts → IfSome dst IsMeant
    dst_meant act = go (slice_get p.op.results 0) refl
      where
        go : (y : Option TempId) → slice_get p.op.results 0 ≡ y → IfSome (option_map (temp_register (model_of e o) values) y) IsMeant
        go None q = tt
        go (Some y) q =
            let s = spot p 0 y in
            let own = member_places (spot p) p.op.results 0 0 0 y (omega arith) q in
            let ms = member_joined (map spots_of (all e o values)) (spots_of p) s (member_map spots_of (all e o values) p m) own in
            let range = range_here e o values (numbered e o values h) s ms in
            let a : (range_at e o values y.0).active ≡ true = ap (λ (v : LiveRange). v.active) range ∙ act in
            let reg = register_is e o values h s ms in
            let n = not_stack e o values h y.0 a in
            (λ z. n (sym reg ∙ z), subst IsLow (sym reg) (low e o values h y.0 a))

    dst_safe : Acts → dst ≢ Some (record { 0 = STACK })
    dst_safe act = λ q. let z = subst (λ (d : Option Reg). IfSome d IsMeant) q (dst_meant act) in z.0 refl

    -- the result y, in its space
    dst_space : (y : TempId) (op : Op) (s : Space) → p.op.results ≡ y ∷ [] → Issues op → result_space_in op ≡ Some s → space_at dst ≡ Some s
    dst_space y op s q ins f =
        let reg = register_is e o values h (spot p 0 y) (result_spot e o values h p m y q) in
        ap (λ ys. space_at (option_map (temp_register (model_of e o) values) (slice_get ys 0))) q
        ∙ ap Some (ap space_of reg ∙ given_in e o values h p m y op s q ins f)

    dst_none : p.op.results ≡ [] → space_at dst ≡ None
    dst_none q = ap (λ ys. space_at (option_map (temp_register (model_of e o) values) (slice_get ys 0))) q

    -- ---- a call's arguments

    numbers_by : (xs : List Operand) (k : ℕ) → ((j : ℕ) (x : Operand) → slice_get xs j ≡ Some x → (reg_at (k + j) x).0 ≡ k + j)
        → map number (places_from reg_at k xs) ≡ range_with_len k (length xs)
    numbers_by [] k f = refl
    numbers_by (x ∷ xs) k f =
        let here : (reg_at k x).0 ≡ k = subst (λ n. (reg_at n x).0 ≡ n) (omega arith) (f 0 x refl) in
        ap (λ n. n ∷ map number (places_from reg_at (k + 1) xs)) here
        ∙ ap (λ ns. k ∷ ns) (numbers_by xs (k + 1) (λ j y q. subst (λ n. (reg_at n y).0 ≡ n) (omega arith) (f (suc j) y q)))

    args_are : (e.table).args ≡ range_with_len 0 6
    args_are = let f = h.fit in f.args

    wants_are : (so : SrcOp) → so.op ≡ Call → wants_of_op e.table so so.op ≡ map word_in (args_to (length so.srcs))
    wants_are so c = ap (wants_of_op e.table so) c ∙ ap (λ rs. map word_in (take (length so.srcs) rs)) args_are

    arg_at : (so : SrcOp) → p.op.kind ≡ Body so → so.op ≡ Call → Acts → (j : ℕ) (x : Operand) → slice_get p.op.operands j ≡ Some x
        → (reg_at j x).0 ≡ j
    arg_at so k c act j x q =
        let rd = reading e o values h p j x m act q in
        let r = rd.2 in
        let n = length so.srcs in
        let v = range_at e o values (temp_at j x).0 in
        let listed = ap wants k ∙ wants_are so c in
        let got : option_map word_in (slice_get (args_to n) j) ≡ Some rd.0 =
        sym (slice_get-map word_in (args_to n) j) ∙ ap (λ ws. slice_get ws j) (sym listed) ∙ rd.1 in
        let home = subst (λ (t : TempId). HasHome (let w = rd.0 in w.home) (range_at e o values t.0)) r.is r.home in
        operand_register e o values h p m j x rd.0 r ∙ arg_home n j (slice_get (args_to n) j) rd.0 v refl got home

    -- ---- an operation of the source

    source_plain : (so : SrcOp) (op : Op) → (op ≡ Call → ⊥)
        → source_instr so op srcs dst ≡ record { op = op; dst = dst; srcs = srcs; imm = so.imm; label = so.callee }
    source_plain so Call n = absurd (n refl)
    source_plain so _ n = refl

    good_body : (so : SrcOp) → p.op.kind ≡ Body so → Acts → Issues so.op → Good (source_instr so so.op srcs dst)
    good_body so k act ins = by_class (text_class so.op ok.op)
      where
        ok : IsSourceOp so
        ok = let g = placed_good e o values h p m in let ks = g.keeps in subst (λ (x : ExtKind). IsGoodKind x p.op) k ks.kind

        counted : length p.op.results ≡ length (option_to_list so.dst)
        counted = let g = placed_good e o values h p m in let ks = g.keeps in ks.results ∙ ap (result_count e.table p.owner) k

        plain : (so.op ≡ Call → ⊥) → space_at dst ≡ result_space so.op → Good (source_instr so so.op srcs dst)
        plain n w = let g = ok in subst Good (sym (source_plain so so.op n)) (record {
          reads = reads_plain so.op srcs n (reads_spaces so.op act ins (count_by (Body so) k ∙ source_count e.table so so.op n));
          writes = writes_plain so.op dst n w;
          stack = dst_safe act;
          base = base_of so.op srcs (srcs_safe act);
          literal = source_number frame so.op so.imm g.op g.literal;
          label = source_label so.op so.callee g.op g.callee;
        })

        giving : (s : Space) → (so.op ≡ Store → ⊥) → (so.op ≡ Call → ⊥) → result_space_in so.op ≡ Some s
            → Good (source_instr so so.op srcs dst)
        giving s st n f =
            let g = ok in
            let r = one_result e o values h p m (counted ∙ has_result e o values h p m so.op so.dst g.result st n) in
            plain n (dst_space r.0 so.op s r.1 ins f ∙ sym f ∙ source_gives so.op g.op)

        calls : so.op ≡ Call → Good (source_instr so Call srcs dst)
        calls q =
            let g = ok in
            let n = length so.srcs in
            let long = length-places reg_at 0 p.op.operands in
            let few = take_few n 6 0 in
            let count = count_by (Body so) k ∙ ap length (wants_are so q) ∙ length-map (args_to n) word_in in
            let numbers = numbers_by p.op.operands 0 (λ j x r. subst (λ n. (reg_at n x).0 ≡ n) (omega arith) (arg_at so k q act j x r)) in
            record {
              reads = (numbers ∙ ap (range_with_len 0) (sym long), omega (arith, long, few, count));
              writes = refl;
              stack = λ z. absurd (cc z);
              base = tt;
              literal = subst (λ (op : Op). HasLiteral op so.imm) q g.literal;
              label = source_label Call so.callee refl (subst (λ (op : Op). NamesItsCallee op so.callee) q g.callee);
            }

        stores : so.op ≡ Store → Good (source_instr so so.op srcs dst)
        stores q =
            let g = ok in
            let none : so.dst ≡ None = subst (λ (op : Op). HasItsResult op so.dst) q g.result in
            let empty = nothing p.op.results (counted ∙ ap (λ (d : Option NameId). length (option_to_list d)) none) in
            plain (λ c. absurd (cc (q, c))) (dst_none empty ∙ sym (ap result_space q))
          where
            nothing : (ys : List TempId) → length ys ≡ 0 → ys ≡ []
            nothing [] l = refl
            nothing (y ∷ ys) l = absurd (omega arith)

        by_class : TextClass so.op → Good (source_instr so so.op srcs dst)
        by_class (alu a s) =
            let apart : (op : Op) → is_alu op ≡ false → so.op ≡ op → ⊥ = λ op f. told_apart is_alu so.op op a f in
            giving (space_for (result_kind so.op)) (apart Store refl) (apart Call refl) (result_in so.op a s)
        by_class (loading q) = giving R (λ c. absurd (cc (q, c))) (λ c. absurd (cc (q, c))) (ap result_space_in q)
        by_class (storing q) = stores q
        by_class (calling q) = subst (λ (op : Op). Good (source_instr so op srcs dst)) (sym q) (calls q)

    -- ---- a terminator

    pub end_leads : (term : Term) → p.op.kind ≡ End term → LeadsIn e.blocks p.block term
    end_leads term k =
        let g = placed_good e o values h p m in
        let b = g.block in
        let ps = b.parts in
        let i = g.inside in
        let ends = ends_by p.owner.ops ps.0 ps.1 in
        let t = only_end p.owner.ops p.op term ends (member_at p.owner.ops i.0 p.op i.1) k in
        let gb = good e o values h in
        subst (LeadsIn e.blocks p.block) t (gb.leads p.block p.owner g.here)

    good_end : (term : Term) (op : Op) → p.op.kind ≡ End term → Acts → Issues op → transfer_of term ≡ Some op
        → (b : Bool) → Good (term_instr e.blocks term (if b then new_op op else op) srcs)
    good_end term op k act ins q b =
        let emitted : Op = if b then new_op op else op in
        let own = own_emitted b (End term) 0 op q in
        let f = end_facts frame e.blocks p.block term emitted (q ∙ ap Some (sym own)) in
        let spaces : operand_spaces op ≡ operand_spaces emitted = ap operand_spaces (sym own) ∙ spaces_alike emitted in
        record {
          reads = reads_plain emitted srcs f.plain
              (reads_spaces op act ins (count_by (End term) k ∙ f.count ∙ ap length (sym spaces)) ∙ spaces);
          writes = writes_plain emitted None f.plain (sym f.result);
          stack = λ z. absurd (cc z);
          base = base_of emitted srcs (srcs_safe act);
          literal = f.literal;
          label = f.label named_blocks (end_leads term k);
        }
      where
        spaces_alike : (op : Op) → operand_spaces (own_op op) ≡ operand_spaces op
        spaces_alike Mov = refl
        spaces_alike op = refl

    -- ---- a copy

    good_copy : (node : NodeCopy) (op : Op) → p.op.kind ≡ Copy node → Acts → Issues op → IsCopyOp op → Good (copy_instr op srcs dst)
    good_copy node op k act ins c = by_op c
      where
        parts : CopyParts e o values h p m
        parts = copy_parts e o values h p m node k act

        reads : (x : Op) → op ≡ x → length (operand_spaces x) ≡ 1 → spaces_of srcs ≡ operand_spaces x
        reads x s one = reads_spaces x act (ins ∙ ap Some s) (count_by (Copy node) k ∙ sym one)

        gives : (x : Op) (s : Space) → op ≡ x → result_space_in x ≡ Some s → space_at dst ≡ Some s
        gives x s same f = let c = parts in dst_space c.result x s c.results (ins ∙ ap Some same) f

        of : (x : Op) → op ≡ x → Good (copy_instr x srcs dst) → Good (copy_instr op srcs dst)
        of x s g = subst (λ (y : Op). Good (copy_instr y srcs dst)) (sym s) g

        by_op : IsCopyOp op → Good (copy_instr op srcs dst)
        by_op (mov s) = of Mov s (record {
          reads = reads Mov s refl;
          writes = gives Mov R s refl;
          stack = dst_safe act;
          base = tt;
          literal = refl;
          label = refl;
        })
        by_op (spill s) = of Spill s (record {
          reads = reads Spill s refl;
          writes = refl;
          stack = λ z. absurd (cc z);
          base = tt;
          literal = offset_fits frame dst (meant_low dst (dst_meant act));
          label = refl;
        })
        by_op (reload s) = of Reload s (record {
          reads = refl;
          writes = gives Reload R s refl;
          stack = dst_safe act;
          base = tt;
          literal = offset_fits frame (slice_get srcs 0) (meant_low (slice_get srcs 0) (src_meant act));
          label = refl;
        })
        by_op (p2r s) = of P2R s (record {
          reads = reads P2R s refl;
          writes = gives P2R R s refl;
          stack = dst_safe act;
          base = tt;
          literal = refl;
          label = refl;
        })
        by_op (r2p s) = of R2P s (record {
          reads = reads R2P s refl;
          writes = gives R2P P s refl;
          stack = dst_safe act;
          base = tt;
          literal = refl;
          label = refl;
        })

    -- ---- Enter and Leave

    abbrev flag : ℕ
    flag = value_of values (let m = model_of e o in m.flag)

    -- where one is active there is a frame
    positive : (issue_at values p).frame ≡ true → Acts → 0 < frame
    positive f act = go (flag == 0) refl
      where
        go : (b : Bool) → (flag == 0) ≡ b → 0 < frame
        go true q =
            let s = h.schedule in
            let fr = s.frame in
            let none = each_issue e o values (HasFrame false) (fr.without (eqb-true flag 0 q)) in
            let off = each_member (λ (q : Placed). HasFrame false (issue_at values q)) (all e o values) p none m in
            let z : true ≡ false = sym act ∙ off f in absurd (cc z)
        go false q =
            let n = largest_slot (the_ranges e o values) in
            let z : frame ≡ frame_bytes n = ap (λ (b : Bool). if b then 0 else frame_bytes n) q in omega (arith, z)

    frame_is : (x op : Op) (n : ℕ) → frame_instr x n ≡ Some op → x ≡ op
    frame_is x op n f = go (n == 0) f
      where
        go : (b : Bool) → (if b then None else Some x) ≡ Some op → x ≡ op
        go true f = absurd (cc f)
        go false f = cc f

    good_enter : (op : Op) → EnterOp ≡ op → 0 < frame → Good (stack_instr op (neg_ℤ (pos frame)))
    good_enter op s lt = subst (λ (x : Op). Good (stack_instr x (neg_ℤ (pos frame)))) s (record {
      reads = refl;
      writes = refl;
      stack = λ z. absurd (cc z);
      base = tt;
      literal = (lt, minus_is frame);
      label = refl;
    })

    good_leave : (op : Op) → LeaveOp ≡ op → 0 < frame → Good (stack_instr op (pos frame))
    good_leave op s lt = subst (λ (x : Op). Good (stack_instr x (pos frame))) s (record {
      reads = refl;
      writes = refl;
      stack = λ z. absurd (cc z);
      base = tt;
      literal = (lt, refl);
      label = refl;
    })

    -- ---- each

    good_with : (x : Option Op) → instr_of values p.op (vars_of p) ≡ x
        → Each Good (option_to_list (instr_if (model_of e o) values p.op (vars_of p) x))
    good_with None q = tt
    good_with (Some op) q = by_kind p.op.kind refl
      where
        act : Acts
        act = some_active e o values h p op q

        number : ℕ
        number = value_by values (vars_of p).instr

        with_kind : (k : ExtKind) → p.op.kind ≡ k → instruction_of k number ≡ Some op
        with_kind k s = ap (λ (x : ExtKind). instruction_of x number) (sym s) ∙ q

        b : Bool
        b = is_beside (schedule_of (model_of e o) values).ranges values p.op (vars_of p)

        by_kind : (k : ExtKind) → p.op.kind ≡ k → Each Good (option_to_list (instr_by e.blocks frame k (emitted_by b k op) srcs dst))
        by_kind In s = tt
        by_kind Out s = tt
        by_kind (Body so) s =
            let f = with_kind (Body so) s in
            let same : so.op ≡ op = cc f in
            (subst (λ (x : Op). Good (source_instr so x srcs dst)) same (good_body so s act (q ∙ ap Some (sym same))), tt)
        by_kind (End term) s = (good_end term op s act q (with_kind (End term) s) b, tt)
        by_kind (Copy node) s = (good_copy node op s act q (copy_is number op (with_kind (Copy node) s)), tt)
        by_kind Enter s = (good_enter op (frame_is EnterOp op number (with_kind Enter s)) (positive (ap is_frame_op s) act), tt)
        by_kind Leave s = (good_leave op (frame_is LeaveOp op number (with_kind Leave s)) (positive (ap is_frame_op s) act), tt)

    pub good_instr : (j : Job) → IsJob e o values h p j → Good j.instr
    good_instr j g =
        let d = good_with (instr_of values p.op (vars_of p)) refl in
        let d' = subst (λ (x : Option Instr). Each Good (option_to_list x)) g.emitted d in
        subst Good (sym (ap (λ (x : Job). x.instr) g.is)) d'.0
