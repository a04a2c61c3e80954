-- No temporary has the stack pointer for its register, the slots lie in the frame, and only truth values are copied to and from
-- predicate registers.
use Rattle.std.proofs.Common.{ℕ, zero, suc, ◌≡◌, ◌≢◌, ◌<◌, ◌≤◌, ◌+◌, ◌-◌, ◌*◌, ◌/◌, max, Bool, true, false, ◌&&◌, ◌||◌, List, [], ◌∷◌, ◌++◌}
use Rattle.std.proofs.Common.{length, map, take, replicate, inl, inr, ⊎_elim, refl, sym, ap, ◌∙◌, subst, arith}
use Rattle.std.specs.Prelude.{Option, Some, None, slice_get, slice_index, unwrap_or, is_none, nat_lt, nat_le, ◌==◌, if◌then◌else◌, IfSome}
use Rattle.std.specs.Prelude.{fold}
use Rattle.std.specs.List.{AllZip, list_any, range_with_len}
use Rattle.std.specs.Option.{option_map, option_to_list}
use Rattle.std.proofs.lemmas.Bool.{cases_eq, cases_lt}
use Rattle.std.proofs.lemmas.Bool.Decides.{nat_tests}
use Rattle.un_base.specs.declared.ids.TempId.{TempId}
use Rattle.un_base.specs.declared.ids.NameId.{NameId}
use Rattle.un_isa.specs.declared.reg.TheConstants.{FIRST_SLOT}
use Rattle.un_isa.specs.Fit.{IsFit, may_be_saved}
use Rattle.un_isa.specs.Registers.{callee_saved, saved_registers}
use Rattle.un_isa.specs.Tables.{in_mask}
use Rattle.un_isa.specs.declared.op.Op.{Op}
use Rattle.un_isa.specs.declared.op.Op.TheVariants.{CmpEq, CmpGt, CmpGtu, CmpEqi, CmpGti, Call, Mov, Spill, Reload, P2R, R2P}
use Rattle.un_isa.specs.declared.reg.Reg.{Reg}
use Rattle.un_isa.specs.declared.table.Table.{Table}
use Rattle.un_ir.specs.declared.function.Kind.{Kind}
use Rattle.un_ir.specs.declared.function.Kind.TheVariants.{General, Pred}
use Rattle.un_ir.specs.declared.function.SrcOp.{SrcOp}
use Rattle.un_ir.specs.declared.function.Term.{Term}
use Rattle.un_ir.specs.declared.function.Term.TheVariants.{Fall, Jump, Branch, Ret}
use Rattle.un_ir.specs.declared.extended.NodeCopy.{NodeCopy}
use Rattle.un_ir.specs.declared.extended.ExtKind.{ExtKind}
use Rattle.un_ir.specs.declared.extended.ExtKind.TheVariants.{In, Out, Body, End, Copy, Enter, Leave}
use Rattle.un_ir.specs.declared.extended.Operand.{Operand}
use Rattle.un_ir.specs.declared.extended.ExtOp.{ExtOp}
use Rattle.un_ir.specs.declared.extended.ExtBlock.{ExtBlock}
use Rattle.un_ir.specs.declared.extended.Ext.{Ext}
use Rattle.un_ir.specs.WellFormed.{operand_kinds, result_kind}
use Rattle.un_ir.specs.Linear.{ending_of, first_of}
use Rattle.un_ir.specs.Extended.{name_kind, Want, anywhere, word_in, wants_of, wants_of_op, wants_of_end, wants_of_out, IsGoodOperand}
use Rattle.un_ir.specs.Extended.{IsGoodKind, IsSourceOp, HasItsResult, result_count, defined_kinds, all_kinds, kind_of_temp, first_read}
use Rattle.un_model.specs.declared.model.Options.{Options}
use Rattle.un_model.specs.Options.{AreOptions, IsCountOfRegisters}
use Rattle.un_model.specs.Pairs.{any_from, places_from}
use Rattle.un_model.specs.Registers.{is_assignable, predicate_registers, slots_of, reg_at, start_home, call_home, result_home, is_register}
use Rattle.un_model.specs.Registers.{reads_value, is_operand_home, is_result_home, is_home, general_registers, value_registers, with_zero}
use Rattle.un_model.specs.Registers.{is_truth, is_truth_of, gives_truth_at, is_pred_name, is_pred}
use Rattle.un_isa.specs.Registers.{space_of}
use Rattle.un_isa.specs.declared.reg.Space.{Space}
use Rattle.un_isa.specs.declared.reg.Space.TheVariants.{R, P, M}
use Rattle.un_ir.specs.Extended.{results_of}
use Rattle.un_domains.specs.declared.domain.Domain.TheVariants.{Set}
use Rattle.un_model.specs.declared.schedule.LiveRange.{LiveRange}
use Rattle.un_model.specs.declared.schedule.Issue.{Issue}
use Rattle.un_model.specs.declared.schedule.Schedule.{Schedule}
use Rattle.un_model.specs.Emission.{larger_slot, largest_slot, frame_of, frame_bytes}
use Rattle.un_model.specs.Instructions.{gives_truth, space_given, result_space_in, instruction_of, copy_of}
use Rattle.un_model.specs.Schedules.{schedule_of, issues_of, value_by, instr_of}
use Rattle.un_model.specs.Solutions.{InDomain, InSpace, uses_frame, is_frame_access, starts_in_slot}
use Rattle.un_ir.specs.Kinds.{is_optional}
use Rattle.un_model.specs.Variables.{var_at, var_if, carried_by, first_alternative, ops_count, copy_domain, carries_truth}
use Rattle.un_model.specs.Variables.{instr_domain, model_of, register_domain, source_domain, register_place, carried}
use Rattle.un_emit.proofs.FramePlace.{le_true, lt_false}
use Rattle.un_model.proofs.OpDomains.{register_sits, instr_sits, in_entry}
use Rattle.un_model.proofs.Operations.{contains_member, placed_get}
use Rattle.un_model.proofs.TempKinds.{spot_kind, kind_or, kind_listed, carried_is, carried_at}
use Rattle.un_emit.proofs.BlockJobs.{region_of, in_region, Placing}
use Rattle.un_model.proofs.Placed.{Placed, Spot, spot, spots_of, region_placed, vars_of, issue_at, issues_are}
use Rattle.un_emit.proofs.JobDeeds.{TextClass, text_class, alu, load as loading, store as storing, call as calling, space_for, result_in}
use Rattle.un_emit.proofs.JobDeeds.{temps_of, one_zip}
use Rattle.un_model.proofs.PlacedSchedules.{all, spots, the_ranges, range_at, spot_range, given_space, member_joined, member_places}
use Rattle.un_model.proofs.Readings.{Solved, numbered, fit_kinds, placed_good, placed_domains}
use Rattle.un_emit.proofs.BlockTimed.{its_spot, definer_of, range_in}
use Rattle.un_lists.proofs.Lists.{length_get, member_map, place_of, member_at, each_more, Each, Member, each_member, each_of, each_join}
use Rattle.un_lists.proofs.Lists.{any_of, member_of_filter}

-- ---- registers that are never the stack pointer

abbrev pub Safe : ℕ → Type 0
Safe r = r ≢ 29

abbrev pub SafeHome : Option Reg → Type 0
SafeHome home = IfSome home (λ (r : Reg). Safe r.0)

saved_safe : (t : Table) → IsFit t → Each Safe (callee_saved t)
unfolding callee_saved
saved_safe t fit = each_of Safe (callee_saved t) (λ r m q.
    let s = member_of_filter (in_mask t.saved) (range_with_len 0 32) r m in
    let f = fit.saved r (omega arith) s.1 in
    let g : may_be_saved 29 ≡ true = ap may_be_saved (sym q) ∙ f in absurd (cc g))

pub registers_safe : (t : Table) → IsFit t → Each Safe (saved_registers t)
registers_safe t fit = each_join Safe (callee_saved t) (31 ∷ []) (saved_safe t fit) ((λ q. absurd (omega arith)), tt)

arg_safe : (t : Table) → IsFit t → Each Safe t.args
arg_safe t fit = subst (Each Safe) (sym fit.args) (
  λ q. absurd (omega arith),
  (
    λ q. absurd (omega arith),
    (
      λ q. absurd (omega arith),
      (
        λ q. absurd (omega arith),
        (λ q. absurd (omega arith), (λ q. absurd (omega arith), tt)),
      ),
    ),
  ),
)

index_safe : (xs : List ℕ) (k : ℕ) → Each Safe xs → Safe (slice_index xs k)
index_safe [] k h = λ q. absurd (omega arith)
index_safe (x ∷ xs) zero h = h.0
index_safe (x ∷ xs) (suc k) h = index_safe xs k h.1

get_safe : (xs : List ℕ) (k : ℕ) → Each Safe xs → SafeHome (option_map reg_at (slice_get xs k))
get_safe [] k h = tt
get_safe (x ∷ xs) zero h = h.0
get_safe (x ∷ xs) (suc k) h = get_safe xs k h.1

result_safe : (t : Table) → IsFit t → Safe t.result
result_safe t fit = λ q. let z = fit.result in absurd (omega arith)

start_safe : (t : Table) (ie : Bool) (live : List NameId) (j : ℕ) (x : Option NameId) → IsFit t → SafeHome (start_home t ie live j x)
start_safe t ie live j None fit = get_safe (saved_registers t) (j - length live) (registers_safe t fit)
start_safe t true live j (Some name) fit = index_safe t.args name.0 (arg_safe t fit)
start_safe t false live j (Some name) fit = tt

call_safe : (t : Table) (op : Op) → IsFit t → SafeHome (call_home t op)
call_safe t Call fit = result_safe t fit
call_safe t _ fit = tt

pub home_safe : (t : Table) (ie : Bool) (live : List NameId) (k : ExtKind) (j : ℕ) → IsFit t → SafeHome (result_home t ie live k j)
home_safe t ie live In j fit = start_safe t ie live j (slice_get live j) fit
home_safe t ie live (Body so) j fit = call_safe t so.op fit
home_safe t ie live Out j fit = tt
home_safe t ie live (End term) j fit = tt
home_safe t ie live (Copy node) j fit = tt
home_safe t ie live Enter j fit = tt
home_safe t ie live Leave j fit = tt

-- ---- homes that operands want

abbrev SafeWant : Want → Type 0
SafeWant w = SafeHome w.home

words_safe : (rs : List ℕ) → Each Safe rs → Each SafeWant (map word_in rs)
words_safe [] h = tt
words_safe (r ∷ rs) h = (h.0, words_safe rs h.1)

kinds_safe : (ks : List Kind) → Each SafeWant (map anywhere ks)
kinds_safe [] = tt
kinds_safe (k ∷ ks) = (tt, kinds_safe ks)

names_safe : {A : Type 0} (f : A → Kind) (xs : List A) → Each SafeWant (map (λ (x : A). anywhere (f x)) xs)
names_safe f [] = tt
names_safe f (x ∷ xs) = (tt, names_safe f xs)

take_safe : (n : ℕ) (xs : List ℕ) → Each Safe xs → Each Safe (take n xs)
take_safe zero xs h = tt
take_safe (suc n) [] h = tt
take_safe (suc n) (x ∷ xs) h = (h.0, take_safe n xs h.1)

op_safe : (t : Table) (so : SrcOp) (op : Op) → IsFit t → Each SafeWant (wants_of_op t so op)
op_safe t so Call fit = words_safe (take (length so.srcs) t.args) (take_safe (length so.srcs) t.args (arg_safe t fit))
op_safe t so op fit = kinds_safe (operand_kinds op)

out_safe : (t : Table) (names : List Kind) (live : List NameId) (term : Term) → IsFit t → Each SafeWant (wants_of_out t names live term)
out_safe t names live (Ret None) fit = words_safe (callee_saved t) (saved_safe t fit)
out_safe t names live (Ret (Some name)) fit = (result_safe t fit, words_safe (callee_saved t) (saved_safe t fit))
out_safe t names live Fall fit = each_join SafeWant _ _ (names_safe (name_kind names) live)
    (names_safe (λ (r : ℕ). General) (saved_registers t))
out_safe t names live (Jump to) fit = each_join SafeWant _ _ (names_safe (name_kind names) live)
    (names_safe (λ (r : ℕ). General) (saved_registers t))
out_safe t names live (Branch pred sense to) fit = each_join SafeWant _ _ (names_safe (name_kind names) live)
    (names_safe (λ (r : ℕ). General) (saved_registers t))

end_safe : (term : Term) → Each SafeWant (wants_of_end term)
end_safe Fall = tt
end_safe (Jump to) = tt
end_safe (Branch pred sense to) = (tt, tt)
end_safe (Ret value) = (tt, tt)

wants_safe : (t : Table) (names : List Kind) (blocks : List ExtBlock) (block : ExtBlock) (k : ExtKind) (op : ExtOp) → IsFit t
    → Each SafeWant (wants_of t names blocks block k op)
wants_safe t names blocks block Out op fit = let ending = ending_of block.ops in out_safe t names block.live_out ending.term fit
wants_safe t names blocks block (Body so) op fit = op_safe t so so.op fit
wants_safe t names blocks block (End term) op fit = end_safe term
wants_safe t names blocks block (Copy node) op fit = (tt, tt)
wants_safe t names blocks block In op fit = tt
wants_safe t names blocks block Enter op fit = tt
wants_safe t names blocks block Leave op fit = tt

zip_homes : (names : List Kind) (blocks : List ExtBlock) (before : List TempId) (xs : List Operand) (ws : List Want)
    → AllZip (IsGoodOperand names blocks before) xs ws → Each SafeWant ws → Each (λ (x : Operand). SafeHome x.home) xs
zip_homes names blocks before [] [] h s = tt
zip_homes names blocks before [] (w ∷ ws) h s = absurd h
zip_homes names blocks before (x ∷ xs) [] h s = absurd h
zip_homes names blocks before (x ∷ xs) (w ∷ ws) h s = let k = h.0 in
    (subst SafeHome (sym k.home) s.0, zip_homes names blocks before xs ws h.1 s.1)

-- ---- the homes of a value

is_reg_safe : (home : Option Reg) → SafeHome home → is_register home 29 ≡ true → ⊥
is_reg_safe None s q = absurd (cc q)
is_reg_safe (Some r) s q = s (⊎_elim (λ (e : r.0 ≡ 29). e) (λ (n : r.0 ≢ 29). absurd (grind (arith, q))) (cases_eq r.0 29))

and_right : (a b : Bool) → (a && b) ≡ true → b ≡ true
and_right true b q = q
and_right false b q = absurd (cc q)

and_left : (a b : Bool) → (a && b) ≡ true → a ≡ true
and_left true b q = refl
and_left false b q = absurd (cc q)

any_place : {A : Type 0} (p : ℕ → A → Bool) (i : ℕ) (xs : List A) → any_from p i xs ≡ true → (j : ℕ) × (x : A) × (p j x ≡ true)
    × (Member x xs)
any_place p i [] q = absurd (cc q)
any_place p i (x ∷ xs) q =
    let go : (b : Bool) → p i x ≡ b → (b || any_from p (i + 1) xs) ≡ true → (j : ℕ) × (y : _) × (p j y ≡ true)
    × (Member y (x ∷ xs)) = elim [
      | true ↦ λ e f. (i, x, e, inl refl)
      | false ↦ λ e f. let r = any_place p (i + 1) xs f in (r.0, r.1, r.2, inr r.3)
    ] in
    go (p i x) refl q

-- the homes of a block's operands and results are safe
pub record SafeBlock (t : Table) (ie : Bool) (block : ExtBlock) : Type 0 where
  pub operands : Each (λ (op : ExtOp). Each (λ (x : Operand). SafeHome x.home) op.operands) block.ops
  pub fit : IsFit t

home_is_safe : (t : Table) (ie : Bool) (block : ExtBlock) (x : TempId) → SafeBlock t ie block → is_home t ie block x 29 ≡ true → ⊥
home_is_safe t ie block x s q =
    let r = any_of (λ (op : ExtOp). is_operand_home op x 29 || is_result_home t ie block.live_in op x 29) block.ops q in
    either (is_operand_home r.0 x 29) refl r.2
  where
    either : (b : Bool) → (let r = any_of (λ (op : ExtOp). is_operand_home op x 29 || is_result_home t ie block.live_in op x 29) block.ops
        q in is_operand_home r.0 x 29) ≡ b → (let r = any_of (λ (op : ExtOp). is_operand_home op x 29 ||
        is_result_home t ie block.live_in op x 29) block.ops q in (is_operand_home r.0 x 29 || is_result_home t ie block.live_in r.0 x 29))
        ≡ true → ⊥
    either true f g =
        let r = any_of (λ (op : ExtOp). is_operand_home op x 29 || is_result_home t ie block.live_in op x 29) block.ops q in
        let op = r.0 in
        let y = any_of (λ (operand : Operand). reads_value operand x && is_register operand.home 29) op.operands f in
        let homes = each_member (λ (op : ExtOp). Each (λ (x : Operand). SafeHome x.home) op.operands) block.ops op s.operands r.1 in
        is_reg_safe (y.0).home (each_member (λ (x : Operand). SafeHome x.home) op.operands y.0 homes y.1)
        (and_right (reads_value y.0 x) (is_register (y.0).home 29) y.2)
    either false f g =
        let r = any_of (λ (op : ExtOp). is_operand_home op x 29 || is_result_home t ie block.live_in op x 29) block.ops q in
        let op = r.0 in
        let k : is_result_home t ie block.live_in op x 29 ≡ true = sym (ap (λ (b : Bool). b || is_result_home t ie block.live_in op x 29) f)
        ∙ g in
        let y = any_place (λ (j : ℕ) (y : TempId). y.0 == x.0 && is_register (result_home t ie block.live_in op.kind j) 29) 0 op.results k
        in
        is_reg_safe (result_home t ie block.live_in op.kind y.0) (home_safe t ie block.live_in op.kind y.0 s.fit)
        (and_right ((y.1).0 == x.0) (is_register (result_home t ie block.live_in op.kind y.0) 29) y.2)

not_assignable : (regs : Option ℕ) → IfSome regs IsCountOfRegisters → is_assignable regs 29 ≡ true → ⊥
not_assignable None h q = absurd (cc q)
not_assignable (Some n) h q = let le = h.1 in let f : nat_lt 29 n ≡ false = grind (arith, nat_tests) in let z : true ≡ false = sym q
    ∙ f in absurd (cc z)

pub general_safe : (e : Ext) (o : Options) (ie : Bool) (block : ExtBlock) (x : TempId) → AreOptions o → SafeBlock e.table ie block
    → Each (λ r. Safe r × (r < 32)) (general_registers e o.regs ie block x)
unfolding general_registers
general_safe e o ie block x opt s = each_of (λ r. Safe r × (r < 32)) (general_registers e o.regs ie block x) (λ r m.
    let f = member_of_filter (λ (r : ℕ). is_assignable o.regs r || is_home e.table ie block x r) (range_with_len 0 32) r m in (
      λ q. either (is_assignable o.regs 29) (is_home e.table ie block x 29) (let h = opt.regs in λ z. not_assignable o.regs h z)
          (λ z. home_is_safe e.table ie block x s z) (ap (λ n. is_assignable o.regs n || is_home e.table ie block x n) (sym q) ∙ f.1),
      below 0 32 r f.0,
    ))
  where
    either : (a b : Bool) → (a ≡ true → ⊥) → (b ≡ true → ⊥) → (a || b) ≡ true → ⊥
    either true b f g q = f refl
    either false b f g q = g q

    below : (a n r : ℕ) → Member r (range_with_len a n) → r < a + n
    below a zero r m = elim m [ ]
    below a (suc n) r (inl e) = omega arith
    below a (suc n) r (inr m) = let z = below (a + 1) n r m in omega arith

-- ---- registers of temporaries

range_above : (low a n r : ℕ) → low ≤ a → Member r (range_with_len a n) → low ≤ r
range_above low a zero r le m = elim m [ ]
range_above low a (suc n) r le (inl e) = omega arith
range_above low a (suc n) r le (inr m) = range_above low (a + 1) n r (omega arith) m

slots_safe : (n : ℕ) → Each Safe (slots_of n)
slots_safe n = each_of Safe (slots_of n) (λ r m q. let le = range_above FIRST_SLOT FIRST_SLOT n r (omega arith) m in absurd (omega arith))

preds_safe : Each Safe predicate_registers
preds_safe = (λ q. absurd (omega arith), (λ q. absurd (omega arith), (λ q. absurd (omega arith), (λ q. absurd (omega arith), tt))))

pub any_true : {X : Type 0} (t : X → Bool) (xs : List X) (x : X) → Member x xs → t x ≡ true → list_any t xs ≡ true
any_true t [] x m q = elim m [ ]
any_true t (y ∷ ys) x (inl e) q = let k : t y ≡ true = ap t e ∙ q in ap (λ (b : Bool). b || list_any t ys) k
any_true t (y ∷ ys) x (inr m) q = let k = any_true t ys x m q in or_right (t y) (list_any t ys) k
  where
    or_right : (a b : Bool) → b ≡ true → (a || b) ≡ true
    or_right true b e = refl
    or_right false b e = e

module _ (e : Ext) (o : Options) (values : List ℕ) (h : Solved e o values) where
  safe_block : (ie : Bool) (p : Placed) → Member p (all e o values) → SafeBlock e.table ie p.owner
  safe_block ie p m = record {
    operands = each_of (λ (op : ExtOp). Each (λ (x : Operand). SafeHome x.home) op.operands) p.owner.ops (λ op mo.
        let g = placed_good e o values h p m in
        let b = g.block in
        let r = place_of p.owner.ops op mo in
        let k = b.ops r.0 op r.2 in
        zip_homes e.names e.blocks (results_of (take r.0 p.owner.ops)) op.operands (wants_of e.table e.names e.blocks p.owner op.kind op)
        k.operands (wants_safe e.table e.names e.blocks p.owner op.kind op h.fit));
    fit = h.fit;
  }

  value_safe : (ie : Bool) (p : Placed) (x : TempId) → Member p (all e o values) → Each Safe (value_registers e o.regs o.slots ie p.owner x)
  value_safe ie p x m =
      let g = each_more (λ r. Safe r × (r < 32)) Safe (general_registers e o.regs ie p.owner x) (λ r z. z.0)
      (general_safe e o ie p.owner x h.options (safe_block ie p m)) in
      each_join Safe (general_registers e o.regs ie p.owner x ++ (if is_truth e.names p.owner x then predicate_registers else []))
      (slots_of o.slots)
      (each_join Safe (general_registers e o.regs ie p.owner x) (if is_truth e.names p.owner x then predicate_registers else []) g
      (preds (is_truth e.names p.owner x))) (slots_safe o.slots)
    where
      preds : (b : Bool) → Each Safe (if b then predicate_registers else [])
      preds true = preds_safe
      preds false = tt

  zero_safe : (rs : List ℕ) → Each Safe rs → Each Safe (with_zero rs)
  zero_safe [] s = (λ q. absurd (omega arith), tt)
  zero_safe (r ∷ rs) s = go (r == 0)
    where
      go : (b : Bool) → Each Safe (if b then r ∷ rs else 0 ∷ r ∷ rs)
      go true = s
      go false = (λ q. absurd (omega arith), s)

  in_set : (vs : List ℕ) (v : ℕ) → Each Safe vs → InDomain v (Set vs) → Safe v
  in_set vs v s d = each_member Safe vs v s (contains_member vs v d)

  source_safe : (ie : Bool) (p : Placed) (op : Op) (x : TempId) (v : ℕ) → Member p (all e o values)
      → InDomain v (source_domain e o ie p.owner op x) → Safe v
  source_safe ie p Call x v m d = in_set ((e.table).result ∷ []) v (result_safe e.table h.fit, tt) d
  source_safe ie p op x v m d = in_set (if gives_truth op then predicate_registers else general_registers e o.regs ie p.owner x) v
      (go (gives_truth op)) d
    where
      go : (b : Bool) → Each Safe (if b then predicate_registers else general_registers e o.regs ie p.owner x)
      go true = preds_safe
      go false = each_more (λ r. Safe r × (r < 32)) Safe (general_registers e o.regs ie p.owner x) (λ r z. z.0)
          (general_safe e o ie p.owner x h.options (safe_block ie p m))

  homes_safe : (r : Option Reg) → SafeHome r → Each Safe (map (λ (r : Reg). r.0) (option_to_list r))
  homes_safe None s = tt
  homes_safe (Some r) s = (s, tt)

  domain_safe : (ie : Bool) (p : Placed) (k : ExtKind) (j : ℕ) (x y : TempId) (v : ℕ) → Member p (all e o values)
      → InDomain v (register_domain e o ie p.owner k j x y) → Safe v
  domain_safe true p In j x y v m d = in_set (map (λ (r : Reg). r.0) (option_to_list (result_home e.table true p.owner.live_in In j))) v
      (homes_safe (result_home e.table true p.owner.live_in In j) (home_safe e.table true p.owner.live_in In j h.fit)) d
  domain_safe false p In j x y v m d = in_set (value_registers e o.regs o.slots false p.owner x) v (value_safe false p x m) d
  domain_safe ie p (Body so) j x y v m d = source_safe ie p so.op x v m d
  domain_safe ie p (Copy node) j x y v m d = in_set (with_zero (value_registers e o.regs o.slots ie p.owner y)) v
      (zero_safe (value_registers e o.regs o.slots ie p.owner y) (value_safe ie p y m)) d
  domain_safe ie p Out j x y v m d = let n = contains_member [] v d in elim n [ ]
  domain_safe ie p (End term) j x y v m d = let n = contains_member [] v d in elim n [ ]
  domain_safe ie p Enter j x y v m d = let n = contains_member [] v d in elim n [ ]
  domain_safe ie p Leave j x y v m d = let n = contains_member [] v d in elim n [ ]

  pub not_stack : (x : ℕ) → (range_at e o values x).active ≡ true → (range_at e o values x).reg ≢ 29
  not_stack x a =
      let s = its_spot e o values h x a in
      let u = s.0 in
      let d = definer_of e o values h u s.1 in
      let p = u.definer in
      let ie = in_entry e o values p in
      let q = register_sits e o values ie p u.place u.temp (placed_domains e o values h p d.0) d.1 in
      let f = domain_safe ie p p.op.kind u.place u.temp (carried p.op u.temp) (slice_index values (p.first + register_place p.op + u.place))
      d.0 q in
      λ z. f (ap (λ (v : LiveRange). v.reg) s.3 ∙ z)

  -- ---- the frame

  abbrev pub the_schedule : Schedule
  the_schedule = schedule_of (model_of e o) values

  larger : (h : ℕ) (r : LiveRange) → h ≤ larger_slot h r
  larger h r = go (r.active && nat_le FIRST_SLOT r.reg)
    where
      go : (b : Bool) → h ≤ (if b then max h (r.reg - FIRST_SLOT) else h)
      go true = omega arith
      go false = omega arith

  fold_slot : (rs : List LiveRange) (a : ℕ) → a ≤ fold larger_slot a rs
  fold_slot [] a = omega arith
  fold_slot (r ∷ rs) a = let z = larger a r in let y = fold_slot rs (larger_slot a r) in omega arith

  holds_slot : (rs : List LiveRange) (a : ℕ) (r : LiveRange) → Member r rs → r.active ≡ true → FIRST_SLOT ≤ r.reg
      → r.reg - FIRST_SLOT ≤ fold larger_slot a rs
  holds_slot [] a r m act le = elim m [ ]
  holds_slot (q ∷ qs) a r (inl s) act le =
      let t : (q.active && nat_le FIRST_SLOT q.reg) ≡ true = let z : nat_le FIRST_SLOT q.reg ≡ true =
      ap (λ (v : LiveRange). nat_le FIRST_SLOT v.reg) s
      ∙ le_true FIRST_SLOT r.reg le in let y : q.active ≡ true = ap (λ (v : LiveRange). v.active) s ∙ act in rw (y, z) refl in
      let v : larger_slot a q ≡ max a (q.reg - FIRST_SLOT) = ap (λ (b : Bool). if b then max a (q.reg - FIRST_SLOT) else a) t in
      let w = fold_slot qs (larger_slot a q) in
      let e' : q.reg ≡ r.reg = ap (λ (v : LiveRange). v.reg) s in omega arith
  holds_slot (q ∷ qs) a r (inr m) act le = holds_slot qs (larger_slot a q) r m act le

  -- what stands in a slot makes the function use its frame
  slot_used : (x : ℕ) → (range_at e o values x).active ≡ true → FIRST_SLOT ≤ (range_at e o values x).reg → uses_frame the_schedule ≡ true
  slot_used x a le =
      let s = its_spot e o values h x a in
      let u = s.0 in
      let d = definer_of e o values h u s.1 in
      let p = u.definer in
      by_kind u s.1 s.3 p.op.kind refl
    where
      member : Member (range_at e o values x) (the_ranges e o values)
      member = member_at (the_ranges e o values) x (range_at e o values x) (range_in e o values h x a)

      either_right : uses_frame the_schedule ≡ true → uses_frame the_schedule ≡ true
      either_right q = q

      by_start : (range_at e o values x).instr ≡ None → uses_frame the_schedule ≡ true
      by_start q =
          let z : nat_le FIRST_SLOT (range_at e o values x).reg ≡ true = le_true FIRST_SLOT (range_at e o values x).reg le in
          let t : starts_in_slot (range_at e o values x) ≡ true = rw (a, ap is_none q, z) refl in
          let y = any_true starts_in_slot (the_ranges e o values) (range_at e o values x) member t in
          or_true (list_any (λ (i : Issue). is_frame_access i.instr) (issues_of (model_of e o) values))
          (list_any starts_in_slot (the_ranges e o values)) y
        where
          or_true : (a b : Bool) → b ≡ true → (a || b) ≡ true
          or_true true b q = refl
          or_true false b q = q

      in_memory : space_of (range_at e o values x).reg ≡ M
      in_memory =
          let f = lt_false (range_at e o values x).reg 32 (omega arith) in
          let g = lt_false (range_at e o values x).reg FIRST_SLOT le in rw (f, g) refl

      by_kind : (u : Spot) → Member u (spots e o values) → spot_range e o values u ≡ range_at e o values x → (k : ExtKind)
          → (let p = u.definer in p.op.kind ≡ k) → uses_frame the_schedule ≡ true
      by_kind u m s k q = by_instr (range_at e o values x).instr refl
        where
          given : InSpace (range_at e o values x).reg (space_given (range_at e o values x).instr)
          given = subst (λ (v : LiveRange). InSpace v.reg (space_given v.instr)) s
              (given_space e o values (numbered e o values h) u m h.schedule)

          p : Placed
          p = u.definer

          mp : Member (let q = u in q.definer) (all e o values)
          mp = (definer_of e o values h u m).0

          instr_is : (op : Op) → (range_at e o values x).instr ≡ Some op
              → instr_of values (let q = u.definer in q.op) (let q = u.definer in vars_of q) ≡ Some op
          instr_is op z = ap (λ (v : LiveRange). v.instr) s ∙ z

          has_result : 0 < length (let q = u.definer in q.op.results)
          has_result = let lt = length_get (let q = u.definer in q.op.results) u.place u.temp (definer_of e o values h u m).1 in omega arith

          counted : length (let q = u.definer in q.op.results) ≡ result_count e.table (let q = u.definer in q.owner) k
          counted = let g = placed_good e o values h (let q = u in q.definer) mp in let f = g.keeps in f.results
              ∙ ap (result_count e.table (let q = u.definer in q.owner)) q

          other_space : (sp : Space) → (sp ≡ M → ⊥) → (op : Op) → (range_at e o values x).instr ≡ Some op → result_space_in op ≡ Some sp
              → uses_frame the_schedule ≡ true
          other_space sp n op z f =
              let g = subst (λ (y : Option Op). InSpace (range_at e o values x).reg (space_given y)) z given in
              let g' = subst (λ (y : Option Space). InSpace (range_at e o values x).reg y) f g in
              absurd (n (sym g' ∙ in_memory))

          spilled : (op : Op) → (range_at e o values x).instr ≡ Some op → op ≡ Spill → uses_frame the_schedule ≡ true
          spilled op z f =
              let acc : is_frame_access (issue_at values (let q = u in q.definer)).instr ≡ true = ap is_frame_access (instr_is op z)
              ∙ ap (λ (y : Op). is_frame_access (Some y)) f in
              let mem : Member (issue_at values (let q = u in q.definer)) (issues_of (model_of e o) values) =
              subst (Member (issue_at values (let q = u in q.definer))) (sym (issues_are values 0 0 0 e.blocks))
              (member_map (issue_at values) (all e o values) (let q = u in q.definer) mp) in
              let y = any_true (λ (i : Issue). is_frame_access i.instr) (issues_of (model_of e o) values)
              (issue_at values (let q = u in q.definer)) mem acc in
              ap (λ (b : Bool). b || list_any starts_in_slot (the_ranges e o values)) y

          with_kind : (op : Op) → (range_at e o values x).instr ≡ Some op
              → instruction_of k (value_by values (let q = u.definer in vars_of q).instr) ≡ Some op
          with_kind op z = ap (λ (y : ExtKind). instruction_of y (value_by values (let q = u.definer in vars_of q).instr)) (sym q)
              ∙ instr_is op z

          by_instr : (i : Option Op) → (range_at e o values x).instr ≡ i → uses_frame the_schedule ≡ true
          by_instr None z = by_start z
          by_instr (Some op) z = of_kind k refl (with_kind op z) counted
            where
              empty : length (let q = u.definer in q.op.results) ≡ 0 → uses_frame the_schedule ≡ true
              empty l = let z = has_result in absurd (omega arith)

              copied : (n : ℕ) → copy_of n ≡ Some op → uses_frame the_schedule ≡ true
              copied n f = by_test (n == 1) (n == 2) (n == 3) (n == 4) (n == 5) f
                where
                  by_test : (a b c d g : Bool) → (if a then Some Mov else
                      (if b then Some Spill else (if c then Some Reload else (if d then Some P2R else (if g then Some R2P else None))))) ≡
                      Some op → uses_frame the_schedule ≡ true
                  by_test true b c d g f = let y : Mov ≡ op = cc f in other_space R (λ n. absurd (cc n)) op z (ap result_space_in (sym y))
                  by_test false true c d g f = let y : Spill ≡ op = cc f in spilled op z (sym y)
                  by_test false false true d g f = let y : Reload ≡ op = cc f in
                      other_space R (λ n. absurd (cc n)) op z (ap result_space_in (sym y))
                  by_test false false false true g f = let y : P2R ≡ op = cc f in
                      other_space R (λ n. absurd (cc n)) op z (ap result_space_in (sym y))
                  by_test false false false false true f = let y : R2P ≡ op = cc f in
                      other_space P (λ n. absurd (cc n)) op z (ap result_space_in (sym y))
                  by_test false false false false false f = absurd (cc f)

              of_source : (so : SrcOp) → so.op ≡ op → IsSourceOp so
                  → length (let q = u.definer in q.op.results) ≡ length (option_to_list so.dst) → uses_frame the_schedule ≡ true
              of_source so f g l = by_class (text_class so.op g.op)
                where
                  kind_space : (k : Kind) → (space_for k ≡ M → ⊥)
                  kind_space General n = absurd (cc n)
                  kind_space Pred n = absurd (cc n)

                  by_class : TextClass so.op → uses_frame the_schedule ≡ true
                  by_class (alu a t) = other_space (space_for (result_kind so.op)) (kind_space (result_kind so.op)) op z
                      (ap result_space_in (sym f) ∙ result_in so.op a t)
                  by_class (loading y) = other_space R (λ n. absurd (cc n)) op z (ap result_space_in (sym f ∙ y))
                  by_class (calling y) = other_space R (λ n. absurd (cc n)) op z (ap result_space_in (sym f ∙ y))
                  by_class (storing y) =
                      let none : so.dst ≡ None = subst (λ (op : Op). HasItsResult op so.dst) y g.result in
                      empty (l ∙ ap (λ (d : Option NameId). length (option_to_list d)) none)

              of_kind : (y : ExtKind) → k ≡ y → instruction_of k (value_by values (let q = u.definer in vars_of q).instr) ≡ Some op
                  → length (let q = u.definer in q.op.results) ≡ result_count e.table (let q = u.definer in q.owner) k
                  → uses_frame the_schedule ≡ true
              of_kind In t f l = let z : None ≡ Some op = sym (ap
                  (λ (y : ExtKind). instruction_of y (value_by values (let q = u.definer in vars_of q).instr)) t) ∙ f in absurd (cc z)
              of_kind (Body so) t f l =
                  let w : Some so.op ≡ Some op = sym (ap (λ (y : ExtKind). instruction_of y
                  (value_by values (let q = u.definer in vars_of q).instr)) t) ∙ f in
                  let g = placed_good e o values h (let q = u in q.definer) mp in
                  let ks = g.keeps in
                  of_source so (cc w) (subst (λ (y : ExtKind). IsGoodKind y (let q = u.definer in q.op)) (q ∙ t) ks.kind)
                  (l ∙ ap (result_count e.table (let q = u.definer in q.owner)) t)
              of_kind (Copy node) t f l = copied (value_by values (let q = u.definer in vars_of q).instr)
                  (sym (ap (λ (y : ExtKind). instruction_of y (value_by values (let q = u.definer in vars_of q).instr)) t) ∙ f)
              of_kind Out t f l = empty (l ∙ ap (result_count e.table (let q = u.definer in q.owner)) t)
              of_kind (End term) t f l = empty (l ∙ ap (result_count e.table (let q = u.definer in q.owner)) t)
              of_kind Enter t f l = empty (l ∙ ap (result_count e.table (let q = u.definer in q.owner)) t)
              of_kind Leave t f l = empty (l ∙ ap (result_count e.table (let q = u.definer in q.owner)) t)

  -- the words of the frame
  abbrev pub words : ℕ
  words = frame_of (model_of e o) values / 4

  half : (h n : ℕ) → n ≤ h → n < 8 * ((h + 2) / 2) / 4
  half h n le = omega arith

  pub within : (x : ℕ) → (range_at e o values x).active ≡ true → (range_at e o values x).reg < FIRST_SLOT + words
  within x a = ⊎_elim (λ (lt : (range_at e o values x).reg < FIRST_SLOT). omega arith) (λ (le : FIRST_SLOT ≤ (range_at e o values x).reg).
      let s = h.schedule in
      let fr = s.frame in
      let used = fr.used in
      let flag = used (slot_used x a le) in
      let m = holds_slot (the_ranges e o values) 0 (range_at e o values x)
      (member_at (the_ranges e o values) x (range_at e o values x) (range_in e o values h x a)) a le in
      let f : frame_of (model_of e o) values ≡ frame_bytes (largest_slot (the_ranges e o values)) =
      ap (λ n. if n == 0 then 0 else frame_bytes (largest_slot (the_ranges e o values))) flag in
      let g = half (largest_slot (the_ranges e o values)) ((range_at e o values x).reg - FIRST_SLOT) m in
      let w : words ≡ frame_bytes (largest_slot (the_ranges e o values)) / 4 = ap (λ n. n / 4) f in
      let lt : (range_at e o values x).reg - FIRST_SLOT < words = subst (λ n. (range_at e o values x).reg - FIRST_SLOT < n) (sym w) g in
      omega arith) (cases_lt (range_at e o values x).reg FIRST_SLOT)

  -- ---- truth values

  cond_domain : (truth : Bool) (v : ℕ) → 4 ≤ v → InDomain v (copy_domain truth) → truth ≡ true
  cond_domain true v le d = refl
  cond_domain false v le d = let hi = d.1 in absurd (omega arith)

  -- a value that the model takes for a truth value is a predicate
  truth_kind : (p : Placed) (x : TempId) → Member p (all e o values) → is_truth e.names p.owner x ≡ true
      → slice_get (all_kinds e.names e.blocks) x.0 ≡ Some Pred
  truth_kind p x m q =
      let g = placed_good e o values h p m in
      let r = any_of (λ (op : ExtOp). is_truth_of e.names p.owner.live_in op x) p.owner.ops q in
      let op = r.0 in
      let y = any_get (λ (j : ℕ) (y : TempId). y.0 == x.0 && gives_truth_at e.names p.owner.live_in op.kind j) 0 op.results r.2 in
      let reg = region_of 0 0 0 p.block e.blocks p.owner g.here in
      let rg = reg.region in
      let at = place_of p.owner.ops op r.1 in
      let own : (rg.owner).ops ≡ p.owner.ops = ap (λ (b : ExtBlock). b.ops) reg.owner in
      let close = var_at (rg.first + ops_count (rg.owner).ops) in
      let z = placed_get rg.block rg.owner close rg.number rg.first at.0 (rg.owner).ops op (ap (λ xs. slice_get xs at.0) own ∙ at.2) in
      let p' = z.0 in
      let mem = in_region (all e o values) (0 + p.block) p.owner reg p' (member_at (region_placed rg) at.0 p' z.1) in
      let got : slice_get p'.op.results y.0 ≡ Some y.1 = ap (λ (w : ExtOp). slice_get w.results y.0) z.2 ∙ y.3 in
      let sp = spot p' y.0 y.1 in
      let msp = member_joined (map spots_of (all e o values)) (spots_of p') sp (member_map spots_of (all e o values) p' mem)
      (member_places (spot p') p'.op.results 0 y.0 y.0 y.1 (omega arith) got) in
      let same : (y.1).0 ≡ x.0 = is_same (y.1).0 x.0 (and_left ((y.1).0 == x.0) (gives_truth_at e.names p.owner.live_in op.kind (0 + y.0))
      y.2) in
      let gt = and_right ((y.1).0 == x.0) (gives_truth_at e.names p.owner.live_in op.kind (0 + y.0)) y.2 in
      let gt' : gives_truth_at e.names p.owner.live_in op.kind y.0 ≡ true =
      ap (gives_truth_at e.names p.owner.live_in op.kind) (omega arith) ∙ gt in
      let lt = length_get op.results y.0 y.1 y.3 in
      let k : spot_kind e.names sp ≡ Pred =
      ap (λ (w : ExtOp). kind_or (defined_kinds e.names p'.owner w.kind w) y.0) z.2
      ∙ ap (λ (b : ExtBlock). kind_or (defined_kinds e.names b op.kind op) y.0) (z.5 ∙ reg.owner)
      ∙ truth_at op.kind op y.0 p.owner lt gt' (let b = g.block in let w = b.ops at.0 op at.2 in w.kind) in
      ap (slice_get (all_kinds e.names e.blocks)) (sym same) ∙ kind_listed e o values (numbered e o values h) (fit_kinds e o values h) sp
      msp ∙ ap Some k
    where
      is_same : (a b : ℕ) → (a == b) ≡ true → a ≡ b
      is_same a b q = ⊎_elim (λ (e : a ≡ b). e) (λ (n : a ≢ b). absurd (grind (arith, q))) (cases_eq a b)

      any_get : {A : Type 0} (t : ℕ → A → Bool) (i : ℕ) (xs : List A) → any_from t i xs ≡ true → (j : ℕ) × (x : A) × (t (i + j) x ≡ true)
          × (slice_get xs j ≡ Some x)
      any_get t i [] q = absurd (cc q)
      any_get t i (x ∷ xs) q = here (t i x) refl q (λ f. any_get t (i + 1) xs f)
        where
          here : (b : Bool) → t i x ≡ b → (b || any_from t (i + 1) xs) ≡ true
              → (any_from t (i + 1) xs ≡ true → (j : ℕ) × (y : _) × (t (i + 1 + j) y ≡ true) × (slice_get xs j ≡ Some y)) → (j : ℕ)
              × (y : _) × (t (i + j) y ≡ true) × (slice_get (x ∷ xs) j ≡ Some y)
          here true e f more = (0, x, ap (λ n. t n x) (omega arith) ∙ e, refl)
          here false e f more = let r = more f in (suc r.0, r.1, ap (λ n. t n r.1) (omega arith) ∙ r.2, r.3)

      pred_name : (x : Option NameId) → is_pred_name e.names x ≡ true → (name : NameId) × (x ≡ Some name)
          × (slice_get e.names name.0 ≡ Some Pred)
      pred_name None q = absurd (cc q)
      pred_name (Some name) q = (name, refl, by_kind (slice_get e.names name.0) q)
        where
          by_kind : (k : Option Kind) → is_pred k ≡ true → k ≡ Some Pred
          by_kind None q = absurd (cc q)
          by_kind (Some General) q = absurd (cc q)
          by_kind (Some Pred) q = refl

      map_get : {A B : Type 0} (f : A → B) (xs : List A) (n : ℕ) (x : A) → slice_get xs n ≡ Some x → (ys : List B)
          → slice_get (map f xs ++ ys) n ≡ Some (f x)
      map_get f [] n x q ys = absurd (cc q)
      map_get f (z ∷ zs) zero x q ys = let s : z ≡ x = cc q in ap (λ w. Some (f w)) s
      map_get f (z ∷ zs) (suc n) x q ys = map_get f zs n x q ys

      truth_result : (op : Op) → gives_truth op ≡ true → TextClass op → result_kind op ≡ Pred
      truth_result CmpEq q c = refl
      truth_result CmpGt q c = refl
      truth_result CmpGtu q c = refl
      truth_result CmpEqi q c = refl
      truth_result CmpGti q c = refl
      truth_result R2P q (alu a s) = absurd (cc s)
      truth_result R2P q (loading s) = absurd (cc s)
      truth_result R2P q (storing s) = absurd (cc s)
      truth_result R2P q (calling s) = absurd (cc s)
      truth_result _ q c = absurd (cc q)

      truth_at : (k : ExtKind) (op : ExtOp) (j : ℕ) (b : ExtBlock) → j < length op.results → gives_truth_at e.names b.live_in k j ≡ true
          → IsGoodKind k op → kind_or (defined_kinds e.names b k op) j ≡ Pred
      truth_at In op j b lt q gk =
          let n = pred_name (slice_get b.live_in j) q in
          ap (λ (z : Option Kind). unwrap_or z General) (map_get (name_kind e.names) b.live_in j n.0 n.1
          (replicate (length op.results - length b.live_in) General)) ∙ ap (λ (z : Option Kind). unwrap_or z General) n.2
      truth_at (Body so) op j b lt q gk = const op.results j lt ∙ truth_result so.op q (text_class so.op gk.op)
        where
          const : (xs : List TempId) (n : ℕ) → n < length xs → kind_or (map (λ (y : TempId). result_kind so.op) xs) n ≡ result_kind so.op
          const [] n lt = absurd (omega arith)
          const (x ∷ xs) zero lt = refl
          const (x ∷ xs) (suc n) lt = const xs n (omega arith)
      truth_at Out op j b lt q gk = absurd (cc q)
      truth_at (End term) op j b lt q gk = absurd (cc q)
      truth_at (Copy node) op j b lt q gk = absurd (cc q)
      truth_at Enter op j b lt q gk = absurd (cc q)
      truth_at Leave op j b lt q gk = absurd (cc q)

  pub truth_copy : (p : Placed) (node : NodeCopy) → Member p (all e o values) → p.op.kind ≡ Copy node
      → 4 ≤ value_by values (vars_of p).instr → (y : TempId) → p.op.results ≡ y ∷ []
      → (let T = temps_of e o values h p.block in T.kind y.0) ≡ Pred
  truth_copy p node m q le y r =
      let ie = in_entry e o values p in
      let truth = carries_truth e p.owner p.op p.op.results in
      let dom = instr_sits e o values ie p (copy_domain truth) (placed_domains e o values h p m) (ap (instr_domain truth) q) in
      let val : value_by values (vars_of p).instr ≡ slice_index values p.first =
      ap (λ (k : ExtKind). value_by values (var_if (is_optional k) p.first)) q in
      let t = cond_domain truth (slice_index values p.first) (omega (arith, le, val)) dom in
      let t' : is_truth e.names p.owner (carried p.op y) ≡ true = sym (ap (carries_truth e p.owner p.op) r) ∙ t in
      let sh = shape in
      let x = sh.0 in
      let first : (carried p.op y).0 ≡ first_of x.alts = ap (λ (k : ExtKind). let c = carried_by k p.op.operands y in c.0) q
      ∙ ap (λ xs. let c = first_alternative xs y in c.0) sh.1 ∙ head x.alts sh.2 in
      let kinds = ap (slice_get (all_kinds e.names e.blocks)) (sym first) ∙ truth_kind p (carried p.op y) m t' in
      let u = spot p 0 y in
      let mu = member_joined (map spots_of (all e o values)) (spots_of p) u (member_map spots_of (all e o values) p m)
      (subst (λ ys. Member u (places_from (spot p) 0 ys)) (sym r) (inl refl)) in
      let c = carried_is e o values (numbered e o values h) (fit_kinds e o values h) u mu ∙ ap (λ (k : ExtKind). carried_at k u) q
      ∙ ap first_read sh.1 in
      ap (λ (z : TempId). unwrap_or (slice_get (all_kinds e.names e.blocks) z.0) General) c
      ∙ ap (λ (z : Option Kind). unwrap_or z General) kinds
    where
      head : (alts : List TempId) → 0 < length alts → (unwrap_or (slice_get alts 0) y).0 ≡ first_of alts
      head [] lt = absurd (omega arith)
      head (z ∷ zs) lt = refl

      shape : (x : Operand) × (p.op.operands ≡ x ∷ []) × (0 < length x.alts)
      shape =
          let g = placed_good e o values h p m in
          let keeps = g.keeps in
          let w = anywhere (unwrap_or (kind_of_temp e.names e.blocks (first_read p.op.operands)) General) in
          let wanted : wants_of e.table e.names e.blocks p.owner p.op.kind p.op ≡ w ∷ [] =
          ap (λ (x : ExtKind). wants_of e.table e.names e.blocks p.owner x p.op) q in
          let zip = subst (AllZip (IsGoodOperand e.names e.blocks g.before) p.op.operands) wanted keeps.operands in
          let one = one_zip (IsGoodOperand e.names e.blocks g.before) p.op.operands w zip in
          let first = subst (λ xs. AllZip (IsGoodOperand e.names e.blocks g.before) xs (w ∷ [])) one.1 zip in
          let k = first.0 in
          (one.0, one.1, k.chooses)

  pub placing : Placing e o values h words
  placing = record { truths = truth_copy; within = within; not_stack = not_stack }
