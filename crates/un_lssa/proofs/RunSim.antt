-- The run of the linear function is the run of the source.
use Rattle.std.proofs.Common.{◌≡◌, ◌≢◌, ℕ, zero, suc, ◌+◌, ◌-◌, ◌==◌, ◌<◌, ◌≤◌, ◌++◌, Bool, true, false, nat_eq, List, [], ◌∷◌, Option}
use Rattle.std.proofs.Common.{Some, None, map, length, drop, replicate, get_or, slice_get, slice_index, All, Contains, if◌then◌else◌, refl}
use Rattle.std.proofs.Common.{sym, ap, ◌∙◌, arith, subst, append-nil}
use Rattle.std.specs.List.{list_any, range_with_len, position_or_len}
use Rattle.std.proofs.lemmas.List.{map-append, length-map, length-append, length-replicate, drop_at, get_or-map, get_or_append_left}
use Rattle.std.proofs.lemmas.List.{get_or-append_right, length_push, get_or_push}
use Rattle.std.proofs.lemmas.List.Elements.{Contains-get_or}
use Rattle.std.proofs.lemmas.Option.{slice_get_past, slice_get-get_or}
use Rattle.un_base.specs.declared.ids.NameId.{NameId}
use Rattle.un_base.specs.declared.ids.TempId.{TempId}
use Rattle.un_isa.specs.Registers.{callee_saved, saved_registers}
use Rattle.un_isa.specs.declared.reg.TheConstants.{LINK}
use Rattle.un_isa.specs.declared.op.Op.TheVariants.{Store}
use Rattle.un_isa.specs.declared.start.Start.{Start}
use Rattle.un_isa.specs.declared.table.Table.{Table}
use Rattle.un_ir.specs.declared.function.SrcOp.{SrcOp}
use Rattle.un_ir.specs.declared.function.Term.{Term}
use Rattle.un_ir.specs.declared.function.Term.TheVariants.{Fall, Jump, Branch, Ret}
use Rattle.un_ir.specs.declared.function.Block.{Block}
use Rattle.un_ir.specs.declared.extended.Operand.{Operand}
use Rattle.un_ir.specs.declared.extended.ExtOp.{ExtOp}
use Rattle.un_ir.specs.declared.extended.ExtBlock.{ExtBlock}
use Rattle.un_ir.specs.Extended.{temp}
use Rattle.un_ir.specs.Live.{IsLive, used, kept, read_by, read_by_term, assigned_by, targets_of, next_by}
use Rattle.un_ir.specs.Source.{SourceState, SourceRun, BlockEnd, leave as leave_source, leave_unless as leave_source_unless}
use Rattle.un_ir.specs.Source.{through as through_source, enter as enter_source}
use Rattle.un_ir.specs.Linear.{World, Values, value_of, defined_all, LinearRun, LinearEnd, in_temps, out_operands, ending_of, Ending}
use Rattle.un_ir.specs.Linear.{ops_run, leave, leave_block, leave_unless, hand_over, taken_by, taken_over, through, enter, first_saved}
use Rattle.un_ir.specs.Linear.{Returned as ReturnedTo, Running as RunningWith, LinearStop}
use Rattle.un_ir.specs.LinearOf.{AreLive, live_at, is_among, live_after, first_temps, body_ops, current_after, past_all, past_block}
use Rattle.un_ir.specs.LinearOf.{end_ops, out_op, out_operands_of, kept_operands, name_operand, reads, linear_block, linear_blocks}
use Rattle.un_ir.specs.Runs.{world_of, values_at, as_linear}
use Rattle.un_ir.proofs.NameBounds.{NamesAreSmall}
use Rattle.un_lssa.proofs.StepSim.{names_values}
use Rattle.un_lssa.proofs.BodySim.{Agrees, BodySim, stops, ends, body_sim}
use Rattle.un_lssa.proofs.EnterSim.{range_value, first_temp, first_length, body_in, body_out, body_ending, end_operands, rest_in, rest_out}
use Rattle.un_lssa.proofs.EnterSim.{rest_ending, rest_run, saved_values, kept_values, among_contains, contains_among, any_found, any_true}
use Rattle.un_lssa.proofs.EnterSim.{filter_has, filter_all, value_by_place, map_same}

abbrev value_at : List ℕ → NameId → ℕ
value_at values name = get_or values name.0 0

pub map_same_values : (f g : ℕ → ℕ) (names : List NameId)
    → ((k : ℕ) (d : NameId) → k < length names → (let name = get_or names k d in f name.0 ≡ g name.0))
    → map (λ (name : NameId). f name.0) names ≡ map (λ (name : NameId). g name.0) names
map_same_values f g names h = map_same (λ (name : NameId). f name.0) (λ (name : NameId). g name.0) names h

-- the linear block at a place
pub record HasBlock (t : Table) (names : ℕ) (lists : List (List NameId)) (bs : List ExtBlock) (k b : ℕ) (block : Block) : Type 0 where
  pub first : ℕ
  pub got : slice_get bs k ≡ Some (linear_block t names lists b first block)

pub block_at : (t : Table) (names : ℕ) (lists : List (List NameId)) (b n : ℕ) (blocks : List Block) (k : ℕ) (block : Block)
    → slice_get blocks k ≡ Some block
    → HasBlock t names lists (linear_blocks t names lists b n blocks) k (b + k) block
block_at t names lists b n [] k block e = absurd (cc e)
block_at t names lists b n (own ∷ blocks) zero block e =
    let same : own ≡ block = cc e in
    let z : b ≡ b + 0 = omega arith in
    record {
      first = n;
      got = ap (λ (x : Block). Some (linear_block t names lists b n x)) same
          ∙ ap (λ (c : ℕ). Some (linear_block t names lists c n block)) z;
    }
block_at t names lists b n (own ∷ blocks) (suc k) block e =
    let r = block_at t names lists (b + 1) (past_block t lists b n own) blocks k block e in
    let z : (b + 1) + k ≡ b + suc k = omega arith in
    record { first = r.first; got = r.got ∙ ap (λ (c : ℕ). Some (linear_block t names lists c r.first block)) z }

module _ (blocks : List Block) (names : ℕ) (small : NamesAreSmall names blocks)
    (stores : (b k : ℕ) (block : Block) (o : SrcOp) → slice_get blocks b ≡ Some block → slice_get block.ops k ≡ Some o → o.op ≡ Store
    → o.dst ≡ None)
    (live_small : (name : NameId) (b : ℕ) → IsLive blocks name b 0 → name.0 < names)
    (inside : (b : ℕ) (block : Block) (c : ℕ) → slice_get blocks b ≡ Some block → Contains (targets_of b block.term) c → c < length blocks)
    (t : Table) (start : Start) (lists : List (List NameId)) (live : AreLive blocks lists) where
  abbrev lin : List ExtBlock
  lin = linear_blocks t names lists 0 0 blocks

  saved_len : length (first_saved t start) ≡ length (saved_registers t)
  saved_len = length-map (saved_registers t) (slice_index start.regs)

  -- ---- a block

  module _ (b m : ℕ) (block : Block) (here : slice_get blocks b ≡ Some block) where
    abbrev names_in : List NameId
    names_in = live_at lists b

    abbrev names_out : List NameId
    names_out = live_after lists names b block.term

    abbrev saved : ℕ
    saved = m + length names_in

    abbrev first : ℕ
    first = saved + length (saved_registers t)

    abbrev current : List ℕ
    current = first_temps (replicate names 0) m names_in

    abbrev count : ℕ
    count = length names_in + length (saved_registers t)

    abbrev v0 : List ℕ → Values
    v0 taken = defined_all (λ (x : ℕ). 0) (map temp (range_with_len m count)) taken

    abbrev after : List ℕ
    after = current_after current first block.ops

    abbrev last : ℕ
    last = past_all first block.ops

    abbrev link : ℕ
    link = saved + length (callee_saved t)

    abbrev rest : List ExtOp
    rest = end_ops after link block.term ++ out_op t after saved names_out block.term ∷ []

    abbrev lblock : ExtBlock
    lblock = linear_block t names lists b m block

    taken_len : (values : List ℕ) → length (values_at t start lists b values) ≡ count
    taken_len values =
        let a = length-append (map (value_at values) names_in) (first_saved t start) in
        let c = length-map names_in (value_at values) in
        let s = saved_len in omega (arith, a, c, s)

    in_value : (values : List ℕ) (name : NameId) → IsLive blocks name b 0
        → (i : ℕ) × (i < length names_in) × (get_or names_in i name ≡ name)
    in_value values name l = (live.exact b name).1 l

    start_agrees : (values : List ℕ) → length values ≡ names
        → Agrees blocks names small stores t start lists b block here 0 current first (v0 (values_at t start lists b values)) values
    start_agrees values wide = record {
      long = first_length (replicate names 0) m names_in ∙ length-replicate names 0;
      wide = wide;
      same = λ name l. (let i = in_value values name l in
          ap (v0 (values_at t start lists b values)) (its_temp name l)
          ∙ range_value (λ (x : ℕ). 0) m count (values_at t start lists b values) i.0 (taken_len values) (its_place name l)
          ∙ get_or_append_left (map (value_at values) names_in) (first_saved t start) 0 i.0 (its_mapped name l)
          ∙ get_or-map (value_at values) names_in i.0 name 0 i.1
          ∙ ap (value_at values) i.2);
      below = λ name l. (let e = its_temp name l in let p = its_place name l in omega (arith, e, p));
    }
      where
        its_temp : (name : NameId) (l : IsLive blocks name b 0) → get_or current name.0 0 ≡ m + (in_value values name l).0
        its_temp name l =
            let i = in_value values name l in
            let wide_enough : All (λ (n : NameId). n.0 < length {A = ℕ} (replicate names 0)) names_in =
            λ k d below. (let r = live_small (get_or names_in k d) b
            ((live.exact b (get_or names_in k d)).0 (Contains-get_or names_in k d below)) in let e = length-replicate {A = ℕ} names 0 in
            omega (arith, r, e)) in
            ap (λ (n : NameId). get_or current n.0 0) (sym i.2)
            ∙ first_temp (replicate names 0) m names_in i.0 name (live.rising b) wide_enough i.1

        its_place : (name : NameId) (l : IsLive blocks name b 0) → (in_value values name l).0 < count
        its_place name l = let i = in_value values name l in let h = i.1 in omega (arith, h)

        its_mapped : (name : NameId) (l : IsLive blocks name b 0) → (in_value values name l).0 < length (map (value_at values) names_in)
        its_mapped name l = let i = in_value values name l in let h = i.1 in let e = length-map names_in (value_at values) in
            omega (arith, h, e)

    saved0 : (values : List ℕ) (j : ℕ) → j < length (saved_registers t)
        → v0 (values_at t start lists b values) (saved + j) ≡ get_or (first_saved t start) j 0
    saved0 values j h =
        let z : saved + j ≡ m + (length names_in + j) = omega arith in
        let c : length names_in + j < count = omega arith in
        let l = length-map names_in (value_at values) in
        let q : length names_in ≤ length names_in + j = omega arith in
        let d : (length names_in + j) - length names_in ≡ j = omega arith in
        ap (v0 (values_at t start lists b values)) z
        ∙ range_value (λ (x : ℕ). 0) m count (values_at t start lists b values) (length names_in + j) (taken_len values) c
        ∙ get_or-append_right (map (value_at values) names_in) (first_saved t start) (length names_in) (length names_in + j) 0 l q
        ∙ ap (λ (k : ℕ). get_or (first_saved t start) k 0) d

    -- ---- the values at the block's end

    no_op : slice_get block.ops (length block.ops) ≡ None
    no_op = slice_get_past block.ops (length block.ops) (omega arith)

    -- a name that is live where a next block starts is live at the end of this one
    end_live : (c : ℕ) (name : NameId) → Contains (targets_of b block.term) c → IsLive blocks name c 0
        → IsLive blocks name b (length block.ops)
    end_live c name target l =
        kept b (length block.ops) block c 0 here (omega arith)
        (subst (λ (x : Option SrcOp). assigned_by x ≢ Some name) (sym no_op) (λ e. cc e))
        (subst (λ (x : Option SrcOp). Contains {X = ℕ × ℕ} (next_by b (length block.ops) x block.term) (c, 0)) (sym no_op)
        (pair (targets_of b block.term) target))
        l
      where
        pair : (xs : List ℕ) → Contains xs c → Contains {X = ℕ × ℕ} (map (λ (x : ℕ). (x, 0)) xs) (c, 0)
        pair xs (k, below, is) =
            let e = length-map {B = ℕ × ℕ} xs (λ (x : ℕ). (x, 0)) in
            (k, omega (arith, e, below), get_or-map (λ (x : ℕ). (x, 0)) xs k c (c, 0) below ∙ ap (λ (x : ℕ). (x, 0)) is)

    -- a name that the terminator reads is live there
    term_live : (name : NameId) → Contains (read_by_term block.term) name → IsLive blocks name b (length block.ops)
    term_live name has = used b (length block.ops) block here (omega arith)
        (subst (λ (x : Option SrcOp). Contains (read_by x block.term) name) (sym no_op) has)

    abbrev passes : ℕ → Bool
    passes n = list_any (λ (c : ℕ). is_among (live_at lists c) n) (targets_of b block.term)

    out_live : (k : ℕ) (d : NameId) → k < length names_out → IsLive blocks (get_or names_out k d) b (length block.ops)
    out_live k d h =
        let name = get_or names_out k d in
        let found = any_found (λ (c : ℕ). is_among (live_at lists c) name.0) (targets_of b block.term) (filter_all passes 0 names k d h) in
        end_live found.0 name found.1 ((live.exact found.0 name).0 (among_contains (live_at lists found.0) name.0 found.2))

    -- a name that is live where a next block starts is handed over
    out_has : (c : ℕ) (name : NameId) → Contains (targets_of b block.term) c → Contains (live_at lists c) name → Contains names_out name
    out_has c name target has =
        let l = (live.exact c name).0 has in
        let h = live_small name c l in
        filter_has passes 0 names name.0 (omega arith) (omega (arith, h))
        (any_true (λ (c : ℕ). is_among (live_at lists c) name.0) (targets_of b block.term) c target
        (contains_among (live_at lists c) name has))

    module _ (s : SourceState) (w : Values) (a : Agrees blocks names small stores t start lists b block here (length block.ops) after last w
        s.values)
        (kept_saved : (j : ℕ) → j < length (saved_registers t) → w (saved + j) ≡ get_or (first_saved t start) j 0) where
      abbrev handed : List ℕ
      handed = map (value_of w) (out_operands_of t after saved names_out block.term)

      next_values : map (value_of w) (map (name_operand after None) names_out ++
          map (λ (n : ℕ). reads n None) (range_with_len saved (length (saved_registers t))))
          ≡ map (value_at s.values) names_out ++ first_saved t start
      next_values =
          let c = saved_len in
          let names_part = names_values w after s.values names_out (λ k d h. a.same (get_or names_out k d) (out_live k d h)) in
          let saved_part : map (value_of w) (map (λ (n : ℕ). reads n None) (range_with_len saved (length (saved_registers t)))) ≡
          first_saved t start =
          ap (λ (k : ℕ). map (value_of w) (map (λ (n : ℕ). reads n None) (range_with_len saved k))) (sym c)
          ∙ saved_values w saved (first_saved t start) (λ j h. kept_saved j (omega (arith, h, c))) in
          map-append (value_of w) (map (name_operand after None) names_out)
          (map (λ (n : ℕ). reads n None) (range_with_len saved (length (saved_registers t))))
          ∙ ap (λ (xs : List ℕ). xs ++ map (value_of w) (map (λ (n : ℕ). reads n None) (range_with_len saved (length (saved_registers t)))))
          names_part
          ∙ ap (λ (xs : List ℕ). map (value_at s.values) names_out ++ xs) saved_part

      -- what a next block takes over
      next_taken : (c k : ℕ) (next : Block) → Contains (targets_of b block.term) c → (given : List ℕ)
          → given ≡ map (value_at s.values) names_out ++ first_saved t start
          → taken_by lblock given (linear_block t names lists c k next) ≡ values_at t start lists c s.values
      next_taken c k next target given is =
          let by_name = map_same (λ (name : NameId). get_or given (position_or_len (λ (n : NameId). n.0 == name.0) names_out) 0)
          (value_at s.values) (live_at lists c)
          (λ j d h. (let name = get_or (live_at lists c) j d in
          ap (λ (xs : List ℕ). get_or xs (position_or_len (λ (n : NameId). n.0 == name.0) names_out) 0) is
          ∙ value_by_place (value_at s.values) names_out (first_saved t start) name
          (out_has c name target (Contains-get_or (live_at lists c) j d h)))) in
          let by_order : drop (length names_out) given ≡ first_saved t start =
          ap (drop (length names_out)) is
          ∙ drop_at (map (value_at s.values) names_out) (first_saved t start) (length names_out) (length-map names_out (value_at s.values))
          in
          ap (λ (xs : List ℕ). xs ++ drop (length names_out) given) by_name
          ∙ ap (λ (xs : List ℕ). map (value_at s.values) (live_at lists c) ++ xs) by_order

      abbrev returned : Option ℕ → ℕ → List ℕ → LinearRun
      returned v target xs = record { stop = ReturnedTo v target xs; world = world_of s }

      link_value : w link ≡ slice_index start.regs LINK
      link_value =
          let h : length (callee_saved t) < length (saved_registers t) = let e = length_push (callee_saved t) LINK in omega (arith, e) in
          kept_saved (length (callee_saved t)) h ∙ get_or-map (slice_index start.regs) (saved_registers t) (length (callee_saved t)) 0 0 h
          ∙ ap (slice_index start.regs) (get_or_push (callee_saved t) LINK 0 (length (callee_saved t)) refl)

      kept_part : map (value_of w) (kept_operands saved (callee_saved t)) ≡ map (slice_index start.regs) (callee_saved t)
      kept_part = kept_values w (slice_index start.regs) saved (callee_saved t) (λ j h.
          (let e = length_push (callee_saved t) LINK in
          let below : j < length (saved_registers t) = omega (arith, e, h) in
          kept_saved j below ∙ get_or-map (slice_index start.regs) (saved_registers t) j 0 0 below
          ∙ ap (slice_index start.regs) (get_or_append_left (callee_saved t) (LINK ∷ []) 0 j h)))

      module _ (go : ℕ → List ℕ → World → LinearRun) (go_source : ℕ → SourceState → SourceRun)
          (goes : (c : ℕ) → c < length blocks → go c (values_at t start lists c s.values) (world_of s) ≡ as_linear t start lists
          (go_source c s)) where
        next : (c : ℕ) → Contains (targets_of b block.term) c → (given : List ℕ)
            → given ≡ map (value_at s.values) names_out ++ first_saved t start
            → hand_over lin lblock given (world_of s) go c ≡ as_linear t start lists (go_source c s)
        next c target given is =
            let h = inside b block c here target in
            let block_c = get_or blocks c block in
            let there = block_at t names lists 0 0 blocks c block_c (slice_get-get_or blocks c block h) in
            let z : 0 + c ≡ c = omega arith in
            let got : slice_get lin c ≡ Some (linear_block t names lists c there.first block_c) = there.got
            ∙ ap (λ (k : ℕ). Some (linear_block t names lists k there.first block_c)) z in
            ap (λ (x : Option ExtBlock). go c (taken_over lblock given x) (world_of s)) got
            ∙ ap (λ (xs : List ℕ). go c xs (world_of s)) (next_taken c there.first block_c target given is)
            ∙ goes c h

        -- what the end of a block reads that does not return
        abbrev given : List ℕ
        given = map (value_of w) (map (name_operand after None) names_out ++
            map (λ (n : ℕ). reads n None) (range_with_len saved (length (saved_registers t))))

        pick : (v : Bool) (c d : ℕ) → Contains (targets_of b block.term) c → Contains (targets_of b block.term) d
            → (if v then hand_over lin lblock given (world_of s) go c else hand_over lin lblock given (world_of s) go d)
            ≡ as_linear t start lists (if v then go_source c s else go_source d s)
        pick true c d one two = next c one given next_values
        pick false c d one two = next d two given next_values

        branch : (x y : ℕ) → x ≡ y → (c d : ℕ) → Contains (targets_of b block.term) c → Contains (targets_of b block.term) d
            → (if nat_eq x 0 then hand_over lin lblock given (world_of s) go c else hand_over lin lblock given (world_of s) go d)
            ≡ as_linear t start lists (if nat_eq y 0 then go_source c s else go_source d s)
        branch x y is c d one two =
            ap (λ (n : ℕ). if nat_eq n 0 then hand_over lin lblock given (world_of s) go c else hand_over lin lblock given (world_of s) go
            d) is ∙ pick (nat_eq y 0) c d one two

        read_value : (name : NameId) (term : Term) → block.term ≡ term → Contains (read_by_term term) name
            → w (get_or after name.0 0) ≡ get_or s.values name.0 0
        read_value name term e has = a.same name (term_live name (subst (λ (x : Term). Contains (read_by_term x) name) (sym e) has))

        target : (term : Term) (c : ℕ) → block.term ≡ term → Contains (targets_of b term) c → Contains (targets_of b block.term) c
        target term c e has = subst (λ (x : Term). Contains (targets_of b x) c) (sym e) has

        leave_by : (term : Term) → block.term ≡ term
            → leave b term (map (value_of w) (end_operands after link term))
            (map (value_of w) (out_operands_of t after saved names_out term)) (world_of s)
            (hand_over lin lblock (map (value_of w) (out_operands_of t after saved names_out term)) (world_of s) go)
            ≡ as_linear t start lists (leave_source b term s go_source)
        leave_by Fall e = next (b + 1) (target Fall (b + 1) e (0, omega arith, refl)) given next_values
        leave_by (Jump to) e = next to.0 (target (Jump to) to.0 e (0, omega arith, refl)) given next_values
        leave_by (Branch pred true to) e =
            branch (w (get_or after pred.0 0)) (get_or s.values pred.0 0) (read_value pred (Branch pred true to) e (0, omega arith, refl))
            (b + 1) to.0
            (target (Branch pred true to) (b + 1) e (0, omega arith, refl)) (target (Branch pred true to) to.0 e (1, omega arith, refl))
        leave_by (Branch pred false to) e =
            branch (w (get_or after pred.0 0)) (get_or s.values pred.0 0) (read_value pred (Branch pred false to) e (0, omega arith, refl))
            to.0 (b + 1)
            (target (Branch pred false to) to.0 e (1, omega arith, refl)) (target (Branch pred false to) (b + 1) e (0, omega arith, refl))
        leave_by (Ret None) e =
            ap (λ (x : ℕ). returned None x (map (value_of w) (kept_operands saved (callee_saved t)))) link_value
            ∙ ap (λ (xs : List ℕ). returned None (slice_index start.regs LINK) xs) kept_part
        leave_by (Ret (Some name)) e =
            ap (λ (x : ℕ). returned (Some x) (w link) (map (value_of w) (kept_operands saved (callee_saved t))))
            (read_value name (Ret (Some name)) e (0, omega arith, refl))
            ∙ ap (λ (x : ℕ). returned (Some (get_or s.values name.0 0)) x (map (value_of w) (kept_operands saved (callee_saved t))))
            link_value
            ∙ ap (λ (xs : List ℕ). returned (Some (get_or s.values name.0 0)) (slice_index start.regs LINK) xs) kept_part

        -- the block's end, by its operations
        block_end : leave_block lin b lblock (record { values = w; world = world_of s }) go ≡ as_linear t start lists
            (leave_source b block.term s go_source)
        block_end =
            let outs : out_operands lblock.ops ≡ out_operands_of t after saved names_out block.term =
            body_out t current first block.ops rest ∙ rest_out t after link saved names_out block.term in
            let ends_so : ending_of lblock.ops ≡ record { term = block.term; operands = end_operands after link block.term } =
            body_ending t current first block.ops rest ∙ rest_ending t after link saved names_out block.term in
            ap (λ (xs : List Operand). left_by xs (ending_of lblock.ops)) outs
            ∙ ap (left_by (out_operands_of t after saved names_out block.term)) ends_so
            ∙ leave_by block.term refl
          where
            left_by : List Operand → Ending → LinearRun
            left_by xs x = leave b x.term (map (value_of w) x.operands) (map (value_of w) xs) (world_of s)
                (hand_over lin lblock (map (value_of w) xs) (world_of s) go)

    -- ---- the whole block

    module _ (go : ℕ → List ℕ → World → LinearRun) (go_source : ℕ → SourceState → SourceRun)
        (goes : (c : ℕ) (s : SourceState) → c < length blocks → length s.values ≡ names
        → go c (values_at t start lists c s.values) (world_of s) ≡ as_linear t start lists (go_source c s)) where
      finish : (values : List ℕ) (q : BlockEnd) (r : LinearEnd)
          → BodySim blocks names small stores t start lists b block here first (v0 (values_at t start lists b values)) after last rest q r
          → leave_unless r.stop lin b lblock r.state go ≡ as_linear t start lists
          (leave_source_unless q.stop q.state b block.term go_source)
      finish values q r (stops e l s w same) = ap (λ (x : LinearStop). (let z : LinearRun = record { stop = x; world = world_of s } in z))
          (sym (same s.values))
      finish values q r (ends s w a old) =
          let run = rest_run t after link saved names_out block.term (record { values = w; world = world_of s }) in
          ap (λ (x : LinearEnd). leave_unless x.stop lin b lblock x.state go) run
          ∙ block_end s w a (λ j h. old (saved + j) (omega arith) ∙ saved0 values j h) go go_source (λ c h. goes c s h a.wide)

      its_temps : in_temps lblock.ops ≡ map temp (range_with_len m count)
      its_temps =
          ap (λ (xs : List TempId). map temp (range_with_len m count) ++ xs)
          (body_in t current first block.ops rest ∙ rest_in t after link saved names_out block.term)
          ∙ append-nil (map temp (range_with_len m count))

      block_sim : (s : SourceState) → length s.values ≡ names
          → through lin (Some lblock) b (values_at t start lists b s.values) (world_of s) go ≡ as_linear t start lists
          (through_source (Some block) b s go_source)
      block_sim s wide =
          let taken = values_at t start lists b s.values in
          ap (run_from taken) its_temps
          ∙ finish s.values _ _ (body_sim blocks names small stores t start lists b block here block.ops 0 current first (v0 taken) s rest
          refl (omega arith) (start_agrees s.values wide))
        where
          run_from : List ℕ → List TempId → LinearRun
          run_from taken temps =
              let e = ops_run (body_ops t current first block.ops ++ rest)
              (record { values = defined_all (λ (x : ℕ). 0) temps taken; world = world_of s }) in
              leave_unless e.stop lin b lblock e.state go

  -- ---- the whole run

  pub enter_sim : (n b : ℕ) (s : SourceState) (taken : List ℕ) → b < length blocks → length s.values ≡ names
      → taken ≡ values_at t start lists b s.values
      → enter lin n b taken (world_of s) ≡ as_linear t start lists (enter_source blocks n b s)
  enter_sim zero b s taken h wide is = ap (λ (xs : List ℕ). (let z : LinearRun = record { stop = RunningWith b xs; world = world_of s } in
      z)) is
  enter_sim (suc n) b s taken h wide is =
      let block = get_or blocks b no_block in
      let here = slice_get-get_or blocks b no_block h in
      let there = block_at t names lists 0 0 blocks b block here in
      let z : 0 + b ≡ b = omega arith in
      let got : slice_get lin b ≡ Some (linear_block t names lists b there.first block) = there.got
      ∙ ap (λ (k : ℕ). Some (linear_block t names lists k there.first block)) z in
      ap (λ (x : Option ExtBlock). through lin x b taken (world_of s) (enter lin n)) got
      ∙ ap (λ (xs : List ℕ). through lin (Some (linear_block t names lists b there.first block)) b xs (world_of s) (enter lin n)) is
      ∙ block_sim b there.first block here (enter lin n) (enter_source blocks n)
      (λ c u below same. enter_sim n c u (values_at t start lists c u.values) below same refl) s wide
      ∙ ap (λ (x : Option Block). as_linear t start lists (through_source x b s (enter_source blocks n))) (sym here)
    where
      no_block : Block
      no_block = record { label = []; freq = 0; ops = []; term = Fall }
