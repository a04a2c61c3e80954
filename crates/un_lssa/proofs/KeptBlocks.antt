-- What the blocks of a linear function keep: each name that is live has a temporary of its kind, which is defined before.
use Rattle.std.proofs.Common.{◌≡◌, ◌≢◌, ℕ, zero, suc, ◌+◌, ◌-◌, ◌<◌, ◌≤◌, ◌++◌, Bool, true, false, nat_eq, List, [], ◌∷◌, Option, Some}
use Rattle.std.proofs.Common.{None, map, length, take, drop, replicate, get_or, slice_get, All, Contains, refl, sym, ap, ◌∙◌}
use Rattle.std.proofs.Common.{arith, subst, append_assoc, append-nil, add-one, length-set}
use Rattle.std.specs.List.{range_with_len, list_any, AllZip}
use Rattle.std.specs.Option.{option_map, option_to_list}
use Rattle.std.proofs.lemmas.Bool.{eqb-true}
use Rattle.std.proofs.lemmas.Grind.{flat_map-append}
use Rattle.std.proofs.lemmas.List.{length-append, length-map, length-replicate, get_or-map, get_or-set_same, get_or-set_other}
use Rattle.std.proofs.lemmas.List.Elements.{All-nil, All-cons, All-head, All-tail, Contains-get_or}
use Rattle.std.proofs.lemmas.List.FromFn.{length-map-range_with_len}
use Rattle.std.proofs.lemmas.Option.{slice_get_within, slice_get-map, slice_get-get_or, slice_get_past}
use Rattle.un_base.specs.declared.ids.NameId.{NameId}
use Rattle.un_base.specs.declared.ids.TempId.{TempId}
use Rattle.un_isa.specs.Registers.{callee_saved, saved_registers}
use Rattle.un_isa.specs.declared.op.Op.{Op}
use Rattle.un_isa.specs.declared.op.Op.TheVariants.{Call}
use Rattle.un_isa.specs.declared.reg.Reg.{Reg}
use Rattle.un_isa.specs.declared.table.Table.{Table}
use Rattle.un_ir.specs.declared.function.Kind.{Kind}
use Rattle.un_ir.specs.declared.function.Kind.TheVariants.{General, Pred}
use Rattle.un_ir.specs.declared.function.SrcOp.{SrcOp}
use Rattle.un_ir.specs.declared.function.Term.{Term}
use Rattle.un_ir.specs.declared.function.Term.TheVariants.{Fall, Jump, Branch, Ret}
use Rattle.un_ir.specs.declared.function.Block.{Block}
use Rattle.un_ir.specs.declared.function.Function.{Function}
use Rattle.un_ir.specs.declared.function.TheConstants.{PARAMS}
use Rattle.un_ir.specs.declared.extended.ExtKind.TheVariants.{End}
use Rattle.un_ir.specs.declared.extended.ExtOp.{ExtOp}
use Rattle.un_ir.specs.declared.extended.ExtBlock.{ExtBlock}
use Rattle.un_ir.specs.Extended.{temp, at_register, carried, name_kind, in_kinds, all_kinds, results_of, defined_kinds}
use Rattle.un_ir.specs.Extended.{anywhere, word_in, wants_of_op, wants_of_out, IsGoodOperand, IsGoodExtOp}
use Rattle.un_ir.specs.Extended.{IsGoodExtBlock, Parts, IsMadeOf, AllAre, is_end, is_copy}
use Rattle.un_ir.specs.Linear.{ending_of, Ending}
use Rattle.un_ir.specs.Live.{IsLive, used, kept, read_by, read_by_term, assigned_by, next_by, targets_of}
use Rattle.un_ir.specs.LinearOf.{AreLive, live_at, is_among, live_after, name_of, kind_of_pair, reads, name_operand, argument_operands}
use Rattle.un_ir.specs.LinearOf.{source_operands, kept_operands, out_operands_of, first_temps, assigned, past, body_op, body_ops}
use Rattle.un_ir.specs.LinearOf.{current_after, in_op, end_ops, out_op, past_all, past_block, linear_block, linear_blocks}
use Rattle.un_ir.specs.Names.{kind_of}
use Rattle.un_ir.specs.WellFormed.{IsOfKind, IsGoodOp, AssignsItsKind, TestsItsKind, operand_kinds, result_kind}
use Rattle.un_ir.proofs.GoodOps.{zip_append, got_left, got_right, temps, Numbers, numbers_append, numbers_has}
use Rattle.un_ir.proofs.GoodOps.{numbers_length, AreGoodOps, good_append, all_good}
use Rattle.un_ir.proofs.NameBounds.{at_all, live_name_small}
use Rattle.un_ir.proofs.SourceFacts.{good_block, source_op, Reads, reads_kinds, assigns_kind, kind_is}
use Rattle.un_lssa.specs.Making.{past_blocks}
use Rattle.un_lssa.proofs.Operands.{past_all_grows, saved_count}
use Rattle.un_lssa.proofs.EnterSim.{first_temp, first_length, body_ending, rest_ending, any_found, among_contains, filter_all}
use Rattle.un_lssa.proofs.LinearNumbers.{kinds_of, numbers_body, numbers_dst, rest_kinds, carried_itself}
use Rattle.un_lssa.proofs.LinearNumbers.{blocks_plain, numbers_blocks, in_count, ops_kinds, inner_body}

-- what stands at a place
record Standing {X : Type 0} (xs : List X) (k : ℕ) (x : X) (rest : List X) : Type 0 where
  got : slice_get xs k ≡ Some x
  later : drop (suc k) xs ≡ rest

standing : {X : Type 0} (xs : List X) (k : ℕ) (x : X) (rest : List X) → drop k xs ≡ x ∷ rest → Standing xs k x rest
standing [] zero x rest e = absurd (cc e)
standing [] (suc k) x rest e = absurd (cc e)
standing (y ∷ ys) zero x rest e = let a : y ≡ x = cc e in let b : ys ≡ rest = cc e in record { got = ap Some a; later = b }
standing (y ∷ ys) (suc k) x rest e = let s = standing ys k x rest e in record { got = s.got; later = s.later }

at_end : {X : Type 0} (xs : List X) (k : ℕ) → drop k xs ≡ [] → k ≤ length xs → k ≡ length xs
at_end [] zero e h = refl
at_end [] (suc k) e h = absurd (omega arith)
at_end (y ∷ ys) zero e h = absurd (cc e)
at_end (y ∷ ys) (suc k) e h = ap suc (at_end ys k e (omega arith))

got_replicate : {X : Type 0} (n : ℕ) (x : X) (i : ℕ) → i < n → slice_get (replicate n x) i ≡ Some x
got_replicate zero x i h = absurd (omega arith)
got_replicate (suc n) x zero h = refl
got_replicate (suc n) x (suc i) h = got_replicate n x i (omega arith)

module _ (f : Function) (lists : List (List NameId)) (t : Table) (live : AreLive f.blocks lists) (args : PARAMS ≤ length t.args) where
  abbrev count : ℕ
  count = length f.names

  abbrev pub kinds : List Kind
  kinds = map kind_of_pair f.names

  abbrev pub whole : List ExtBlock
  whole = linear_blocks t count lists 0 0 f.blocks

  -- the kinds of all temporaries
  abbrev pub every : List Kind
  every = all_kinds kinds whole

  carried_same : (x : ℕ) → carried whole (temp x) ≡ temp x
  carried_same x = carried_itself whole (past_blocks t lists 0 0 f.blocks) (blocks_plain t count lists 0 0 f.blocks)
      (numbers_blocks t count lists 0 0 f.blocks) x

  small : (name : NameId) (kind : Kind) → IsOfKind f.names kind name → name.0 < count
  small name kind h = by (slice_get f.names name.0) refl h
    where
      by : (o : Option (List ℕ × Kind)) → slice_get f.names name.0 ≡ o → option_map (λ (n : List ℕ × Kind). n.1) o ≡ Some kind
          → name.0 < count
      by None e h = absurd (cc h)
      by (Some n) e h = slice_get_within f.names name.0 n e

  module _ (b m : ℕ) (block : Block) (here : slice_get f.blocks b ≡ Some block) where
    -- each name that is live at place k has a temporary of this block of its kind, below n
    record Agrees (k : ℕ) (current : List ℕ) (n : ℕ) : Type 0 where
      long : length current ≡ count
      low : (name : NameId) → IsLive f.blocks name b k → m ≤ get_or current name.0 0
      below : (name : NameId) → IsLive f.blocks name b k → get_or current name.0 0 < n
      kind : (name : NameId) → IsLive f.blocks name b k → slice_get every (get_or current name.0 0) ≡ Some (name_kind kinds name)

    live_before : (k : ℕ) (o : SrcOp) (name : NameId) → slice_get block.ops k ≡ Some o → IsLive f.blocks name b (k + 1) → o.dst ≢ Some name
        → IsLive f.blocks name b k
    live_before k o name got l other =
        let h : k ≤ length block.ops = let r = slice_get_within block.ops k o got in omega (arith, r) in
        kept b k block b (k + 1) here h
        (subst (λ (x : Option SrcOp). assigned_by x ≢ Some name) (sym got) other)
        (subst (λ (x : Option SrcOp). Contains {X = ℕ × ℕ} (next_by b k x block.term) (b, k + 1)) (sym got) (0, omega arith, refl))
        l

    read_live : (k : ℕ) (o : SrcOp) (name : NameId) → slice_get block.ops k ≡ Some o → Contains o.srcs name → IsLive f.blocks name b k
    read_live k o name got has =
        let h : k ≤ length block.ops = let r = slice_get_within block.ops k o got in omega (arith, r) in
        used b k block here h (subst (λ (x : Option SrcOp). Contains (read_by x block.term) name) (sym got) has)

    op_good : (k : ℕ) (o : SrcOp) → slice_get block.ops k ≡ Some o → IsGoodOp f.names o
    op_good k o got = let g = good_block f b block here in at_all (IsGoodOp f.names) block.ops k o g.ops got

    agrees_by : (dst : Option NameId) (k : ℕ) (o : SrcOp) (current : List ℕ) (n : ℕ) → o.dst ≡ dst → slice_get block.ops k ≡ Some o → m ≤ n
        → ((d : NameId) → dst ≡ Some d → (d.0 < count) × (slice_get every n ≡ Some (name_kind kinds d)))
        → Agrees k current n → Agrees (k + 1) (assigned current dst n) (past dst n)
    agrees_by None k o current n e got h fresh a = record {
      long = a.long;
      low = λ name l. a.low name (live_before k o name got l (λ is. cc (sym e ∙ is)));
      below = λ name l. a.below name (live_before k o name got l (λ is. cc (sym e ∙ is)));
      kind = λ name l. a.kind name (live_before k o name got l (λ is. cc (sym e ∙ is)));
    }
    agrees_by (Some d) k o current n e got h fresh a = record {
      long = length-set current d.0 n ∙ a.long;
      low = λ name l. low name l (nat_eq d.0 name.0) refl;
      below = λ name l. below name l (nat_eq d.0 name.0) refl;
      kind = λ name l. kind name l (nat_eq d.0 name.0) refl;
    }
      where
        other : (name : NameId) → nat_eq d.0 name.0 ≡ false → name.0 ≢ d.0
        other name off is = let on : nat_eq d.0 name.0 ≡ true = rw is (grind arith) in cc (sym off ∙ on)

        before : (name : NameId) → IsLive f.blocks name b (k + 1) → nat_eq d.0 name.0 ≡ false → IsLive f.blocks name b k
        before name l off = live_before k o name got l (λ is. (let s : Some d ≡ Some name = sym e
            ∙ is in let q : d ≡ name = cc s in other name off (ap (λ (m : NameId). m.0) (sym q))))

        old : (name : NameId) → nat_eq d.0 name.0 ≡ false → get_or (assigned current (Some d) n) name.0 0 ≡ get_or current name.0 0
        old name off = get_or-set_other current d.0 name.0 n 0 (other name off)

        new : (name : NameId) → nat_eq d.0 name.0 ≡ true → get_or (assigned current (Some d) n) name.0 0 ≡ n
        new name on =
            let i = (fresh d refl).0 in
            let long : d.0 < length current = rw a.long i in rw (← eqb-true d.0 name.0 on) (get_or-set_same current d.0 n 0 long)

        low : (name : NameId) → IsLive f.blocks name b (k + 1) → (w : Bool) → nat_eq d.0 name.0 ≡ w
            → m ≤ get_or (assigned current (Some d) n) name.0 0
        low name l true on = let q = new name on in omega (arith, q, h)
        low name l false off = let q = old name off in let r = a.low name (before name l off) in omega (arith, q, r)

        below : (name : NameId) → IsLive f.blocks name b (k + 1) → (w : Bool) → nat_eq d.0 name.0 ≡ w
            → get_or (assigned current (Some d) n) name.0 0 < n + 1
        below name l true on = let q = new name on in omega (arith, q)
        below name l false off = let q = old name off in let r = a.below name (before name l off) in omega (arith, q, r)

        kind : (name : NameId) → IsLive f.blocks name b (k + 1) → (w : Bool) → nat_eq d.0 name.0 ≡ w
            → slice_get every (get_or (assigned current (Some d) n) name.0 0) ≡ Some (name_kind kinds name)
        kind name l true on =
            let q : d ≡ name = ap name_of (eqb-true d.0 name.0 on) in
            ap (slice_get every) (new name on) ∙ (fresh d refl).1 ∙ ap (λ (x : NameId). Some (name_kind kinds x)) q
        kind name l false off = ap (slice_get every) (old name off) ∙ a.kind name (before name l off)

    -- ---- what an operation reads

    good_read : (before : List TempId) (n x : ℕ) (home : Option Reg) (kind : Kind) → Numbers m before n → m ≤ x → x < n
        → slice_get every x ≡ Some kind → IsGoodOperand kinds whole before (reads x home) (record { kind = kind; home = home })
    good_read before n x home kind numbers low high is = record {
      chooses = omega arith;
      rising = λ i j d lt below. absurd (omega arith);
      known = All-cons (Contains before) (temp x) [] (numbers_has m n before x numbers low high) (All-nil (Contains before));
      one_value = All-cons (λ (y : TempId). carried whole y ≡ temp x) (temp x) [] (carried_same x)
          (All-nil (λ (y : TempId). carried whole y ≡ temp x));
      kind = ap (λ (v : TempId). slice_get every v.0) (carried_same x) ∙ is;
      home = refl;
    }

    name_read : (k : ℕ) (current : List ℕ) (n : ℕ) (before : List TempId) (name : NameId) (home : Option Reg) (kind : Kind)
        → Agrees k current n → Numbers m before n → IsLive f.blocks name b k → name_kind kinds name ≡ kind
        → IsGoodOperand kinds whole before (name_operand current home name) (record { kind = kind; home = home })
    name_read k current n before name home kind a numbers l is =
        good_read before n (get_or current name.0 0) home kind numbers (a.low name l) (a.below name l) (a.kind name l ∙ ap Some is)

    module _ (k : ℕ) (current : List ℕ) (n : ℕ) (before : List TempId) (a : Agrees k current n) (numbers : Numbers m before n) where
      names_read : (names : List NameId) (ks : List Kind) → ((name : NameId) → Contains names name → IsLive f.blocks name b k)
          → map (kind_of f.names) names ≡ map Some ks
          → AllZip (IsGoodOperand kinds whole before) (map (name_operand current None) names) (map anywhere ks)
      names_read [] [] l e = tt
      names_read [] (kind ∷ ks) l e = absurd (cc e)
      names_read (name ∷ names) [] l e = absurd (cc e)
      names_read (name ∷ names) (kind ∷ ks) l e =
          let first : kind_of f.names name ≡ Some kind = cc e in
          let rest : map (kind_of f.names) names ≡ map Some ks = cc e in (
            name_read k current n before name None kind a numbers (l name (0, omega arith, refl)) (kind_is f.names kind name first),
            names_read names ks (λ other has. l other (suc has.0, (let h = has.1 in omega arith), has.2)) rest,
          )

      arguments_read : (registers : List ℕ) (names : List NameId) → ((name : NameId) → Contains names name → IsLive f.blocks name b k)
          → All (IsOfKind f.names General) names → length names ≤ length registers
          → AllZip (IsGoodOperand kinds whole before) (argument_operands current registers names)
          (map word_in (take (length names) registers))
      arguments_read registers [] l g h = tt
      arguments_read [] (name ∷ names) l g h = absurd (omega arith)
      arguments_read (r ∷ rs) (name ∷ names) l g h = (
        name_read k current n before name (at_register r) General a numbers (l name (0, omega arith, refl))
            (kind_is f.names General name (All-head (IsOfKind f.names General) name names g)),
        arguments_read rs names (λ other has. l other (suc has.0, (let h = has.1 in omega arith), has.2))
            (All-tail (IsOfKind f.names General) name names g) (omega arith),
      )

      sources_read : (o : SrcOp) → slice_get block.ops k ≡ Some o
          → AllZip (IsGoodOperand kinds whole before) (source_operands t current o.op o.srcs) (wants_of_op t o o.op)
      sources_read o got = let g = op_good k o got in by o.op (reads_kinds f.names o.op o.srcs g.op g.reads)
        where
          l : (name : NameId) → Contains o.srcs name → IsLive f.blocks name b k
          l name has = read_live k o name got has

          by : (op : Op) → Reads f.names op o.srcs → AllZip (IsGoodOperand kinds whole before) (source_operands t current op o.srcs)
              (wants_of_op t o op)
          by Call r = let few = r.1 in arguments_read t.args o.srcs l r.0 (omega (arith, few, args))
          by op r = names_read o.srcs (operand_kinds op) l r

    -- ---- the operations of the source

    abbrev own : ExtBlock
    own = linear_block t count lists b m block

    record BodyGood (before : List TempId) (current : List ℕ) (n : ℕ) (os : List SrcOp) : Type 0 where
      ops : AreGoodOps t kinds whole own before (body_ops t current n os)
      agrees : Agrees (length block.ops) (current_after current n os) (past_all n os)

    one_good : (k : ℕ) (o : SrcOp) (current : List ℕ) (n : ℕ) (before : List TempId) → slice_get block.ops k ≡ Some o
        → Agrees k current n → Numbers m before n → IsGoodExtOp t kinds whole own before (body_op t current n o)
    one_good k o current n before got a numbers = record {
      kind = source_op f.names o (op_good k o got);
      operands = sources_read k current n before a numbers o got;
      results = length-map (option_to_list o.dst) (λ (name : NameId). temp n);
    }

    fresh : (o : SrcOp) (k n : ℕ) (front rest : List Kind) → slice_get block.ops k ≡ Some o → length front ≡ n
        → every ≡ front ++ (map (λ (y : TempId). result_kind o.op) (map (λ (name : NameId). temp n) (option_to_list o.dst)) ++ rest)
        → (d : NameId) → o.dst ≡ Some d → (d.0 < count) × (slice_get every n ≡ Some (name_kind kinds d))
    fresh o k n front rest got long is d e =
        let g = op_good k o got in
        let its : IsOfKind f.names (result_kind o.op) d = assigns_kind f.names o.op d g.op
        (subst (λ (x : Option NameId). AssignsItsKind f.names o.op x) e g.assigns) in
        let made : every ≡ front ++ (result_kind o.op ∷ rest) = is
        ∙ ap (λ (x : Option NameId). front ++ (map (λ (y : TempId). result_kind o.op)
        (map (λ (name : NameId). temp n) (option_to_list x)) ++ rest)) e in
        let z : n ≡ length front + 0 = omega (arith, long) in (
          small d (result_kind o.op) its,
          ap (slice_get every) z ∙ ap (λ (xs : List Kind). slice_get xs (length front + 0)) made
              ∙ got_right front (result_kind o.op ∷ rest) 0
              ∙ ap Some (sym (kind_is f.names (result_kind o.op) d its)),
        )

    body_good : (os : List SrcOp) (k : ℕ) (current : List ℕ) (n : ℕ) (before : List TempId) (front more : List Kind)
        → drop k block.ops ≡ os → k ≤ length block.ops → m ≤ n → Agrees k current n → Numbers m before n → length front ≡ n
        → every ≡ front ++ (kinds_of kinds own (body_ops t current n os) ++ more) → BodyGood before current n os
    body_good [] k current n before front more e h low a numbers long is =
        record { ops = tt; agrees = subst (λ (j : ℕ). Agrees j current n) (at_end block.ops k e h) a }
    body_good (o ∷ os) k current n before front more e h low a numbers long is =
        let st = standing block.ops k o os e in
        let inside : k + 1 ≤ length block.ops = let r = slice_get_within block.ops k o st.got in omega (arith, r) in
        let later : drop (k + 1) block.ops ≡ os = rw add-one st.later in
        let new = map (λ (name : NameId). temp n) (option_to_list o.dst) in
        let here_kinds = map (λ (y : TempId). result_kind o.op) new in
        let others = kinds_of kinds own (body_ops t (assigned current o.dst n) (past o.dst n) os) in
        let apart : every ≡ front ++ (here_kinds ++ (others ++ more)) = is
        ∙ ap (λ (xs : List Kind). front ++ xs) (append_assoc here_kinds others more) in
        let joined : every ≡ (front ++ here_kinds) ++ (others ++ more) = apart ∙ sym (append_assoc front here_kinds (others ++ more)) in
        let grows = numbers_dst o.dst n in
        let longer : length (front ++ here_kinds) ≡ past o.dst n =
        length-append front here_kinds ∙ ap (λ (j : ℕ). length front + j) (length-map new (λ (y : TempId). result_kind o.op))
        ∙ ap (λ (j : ℕ). j + length new) long ∙ numbers_length n (past o.dst n) new grows in
        let up : m ≤ past o.dst n = let r = numbers_length n (past o.dst n) new grows in omega (arith, r, low) in
        let r = body_good os (k + 1) (assigned current o.dst n) (past o.dst n) (before ++ new) (front ++ here_kinds) more later inside up
        (agrees_by o.dst k o current n refl st.got low (fresh o k n front (others ++ more) st.got long apart) a)
        (numbers_append m n (past o.dst n) before new numbers grows) longer joined in
        record { ops = (one_good k o current n before st.got a numbers, r.ops); agrees = r.agrees }

    -- ---- a block's start

    abbrev names_in : List NameId
    names_in = live_at lists b

    abbrev names_out : List NameId
    names_out = live_after lists count b block.term

    abbrev saved : ℕ
    saved = m + length names_in

    abbrev first : ℕ
    first = saved + length (saved_registers t)

    abbrev current : List ℕ
    current = first_temps (replicate count 0) m names_in

    abbrev width : ℕ
    width = length names_in + length (saved_registers t)

    abbrev own_kinds : List Kind
    own_kinds = in_kinds kinds names_in (length (temps m width))

    abbrev after : List ℕ
    after = current_after current first block.ops

    abbrev last : ℕ
    last = past_all first block.ops

    abbrev link : ℕ
    link = saved + length (callee_saved t)

    abbrev rest : List ExtOp
    rest = end_ops after link block.term ++ out_op t after saved names_out block.term ∷ []

    width_is : length (temps m width) ≡ width
    width_is = length-map-range_with_len temp m width

    live_below : (name : NameId) (k : ℕ) → IsLive f.blocks name b k → name.0 < count
    live_below name k l = live_name_small f name b k l

    names_in_below : All (λ (name : NameId). name.0 < count) names_in
    names_in_below k d h = live_below (get_or names_in k d) 0 ((live.exact b (get_or names_in k d)).0 (Contains-get_or names_in k d h))

    module _ (front more : List Kind) (long : length front ≡ m) (is : every ≡ front ++ (kinds_of kinds own own.ops ++ more)) where
      parts_are : every ≡ front ++ (own_kinds ++ (kinds_of kinds own (body_ops t current first block.ops) ++ more))
      parts_are =
          let e : kinds_of kinds own own.ops ≡ own_kinds ++ kinds_of kinds own (body_ops t current first block.ops) =
          ap (λ (xs : List Kind). own_kinds ++ xs)
          (flat_map-append (λ (op : ExtOp). defined_kinds kinds own op.kind op) (body_ops t current first block.ops) rest
          ∙ ap (λ (xs : List Kind). kinds_of kinds own (body_ops t current first block.ops) ++ xs)
          (rest_kinds kinds own t after link saved names_out block.term block.term)
          ∙ append-nil (kinds_of kinds own (body_ops t current first block.ops))) in
          is ∙ ap (λ (xs : List Kind). front ++ (xs ++ more)) e ∙
          ap (λ (xs : List Kind). front ++ xs) (append_assoc own_kinds (kinds_of kinds own (body_ops t current first block.ops)) more)

      own_at : (i : ℕ) (kind : Kind) → slice_get own_kinds i ≡ Some kind → slice_get every (m + i) ≡ Some kind
      own_at i kind h =
          ap (λ (j : ℕ). slice_get every (j + i)) (sym long) ∙ ap (λ (xs : List Kind). slice_get xs (length front + i)) parts_are
          ∙ got_right front (own_kinds ++ (kinds_of kinds own (body_ops t current first block.ops) ++ more)) i
          ∙ got_left own_kinds (kinds_of kinds own (body_ops t current first block.ops) ++ more) i kind h

      name_kind_at : (i : ℕ) (name : NameId) → i < length names_in → get_or names_in i name ≡ name
          → slice_get every (m + i) ≡ Some (name_kind kinds name)
      name_kind_at i name h same =
          let got : slice_get names_in i ≡ Some name = slice_get-get_or names_in i name h ∙ ap Some same in
          own_at i (name_kind kinds name)
          (got_left (map (name_kind kinds) names_in) (replicate (length (temps m width) - length names_in) General) i (name_kind kinds name)
          (slice_get-map (name_kind kinds) names_in i ∙ ap (option_map (name_kind kinds)) got))

      saved_kind_at : (j : ℕ) → j < length (saved_registers t) → slice_get every (saved + j) ≡ Some General
      saved_kind_at j h =
          let z : saved + j ≡ m + (length names_in + j) = omega arith in
          let w = width_is in
          let l = length-map names_in (name_kind kinds) in
          let inside : j < length (temps m width) - length names_in = omega (arith, w, h) in
          ap (slice_get every) z
          ∙ own_at (length names_in + j) General
          (ap (λ (i : ℕ). slice_get own_kinds (i + j)) (sym l)
          ∙ got_right (map (name_kind kinds) names_in) (replicate (length (temps m width) - length names_in) General) j
          ∙ got_replicate (length (temps m width) - length names_in) General j inside)

      start_agrees : Agrees 0 current first
      start_agrees = record {
        long = first_length (replicate count 0) m names_in ∙ length-replicate count 0;
        low = λ name l. (let e = its_temp name l in omega (arith, e));
        below = λ name l. (let e = its_temp name l in let p = ((live.exact b name).1 l).1 in omega (arith, e, p));
        kind = λ name l. (let i = (live.exact b name).1 l in ap (slice_get every) (its_temp name l) ∙ name_kind_at i.0 name i.1 i.2);
      }
        where
          its_temp : (name : NameId) (l : IsLive f.blocks name b 0) → get_or current name.0 0 ≡ m + ((live.exact b name).1 l).0
          its_temp name l =
              let i = (live.exact b name).1 l in
              let wide : All (λ (n : NameId). n.0 < length {A = ℕ} (replicate count 0)) names_in =
              λ k d below. (let r = names_in_below k d below in let e = length-replicate {A = ℕ} count 0 in omega (arith, r, e)) in
              ap (λ (n : NameId). get_or current n.0 0) (sym i.2)
              ∙ first_temp (replicate count 0) m names_in i.0 name (live.rising b) wide i.1

      -- ---- a block's end

      no_op : slice_get block.ops (length block.ops) ≡ None
      no_op = slice_get_past block.ops (length block.ops) (omega arith)

      end_live : (c : ℕ) (name : NameId) → Contains (targets_of b block.term) c → IsLive f.blocks name c 0
          → IsLive f.blocks name b (length block.ops)
      end_live c name target l =
          kept b (length block.ops) block c 0 here (omega arith)
          (subst (λ (x : Option SrcOp). assigned_by x ≢ Some name) (sym no_op) (λ e. cc e))
          (subst (λ (x : Option SrcOp). Contains {X = ℕ × ℕ} (next_by b (length block.ops) x block.term) (c, 0)) (sym no_op)
          (pair (targets_of b block.term) target))
          l
        where
          pair : (xs : List ℕ) → Contains xs c → Contains {X = ℕ × ℕ} (map (λ (x : ℕ). (x, 0)) xs) (c, 0)
          pair xs (k, below, is) =
              let e = length-map {B = ℕ × ℕ} xs (λ (x : ℕ). (x, 0)) in
              (k, omega (arith, e, below), get_or-map (λ (x : ℕ). (x, 0)) xs k c (c, 0) below ∙ ap (λ (x : ℕ). (x, 0)) is)

      term_live : (name : NameId) → Contains (read_by_term block.term) name → IsLive f.blocks name b (length block.ops)
      term_live name has = used b (length block.ops) block here (omega arith)
          (subst (λ (x : Option SrcOp). Contains (read_by x block.term) name) (sym no_op) has)

      out_live : (k : ℕ) (d : NameId) → k < length names_out → IsLive f.blocks (get_or names_out k d) b (length block.ops)
      out_live k d h =
          let name = get_or names_out k d in
          let found = any_found (λ (c : ℕ). is_among (live_at lists c) name.0) (targets_of b block.term)
          (filter_all (λ (n : ℕ). list_any (λ (c : ℕ). is_among (live_at lists c) n) (targets_of b block.term)) 0 count k d h) in
          end_live found.0 name found.1 ((live.exact found.0 name).0 (among_contains (live_at lists found.0) name.0 found.2))

      module _ (before : List TempId) (numbers : Numbers m before last) (a : Agrees (length block.ops) after last) where
        reach : first ≤ last
        reach = past_all_grows first block.ops

        saved_read : (j : ℕ) (home : Option Reg) → j < length (saved_registers t)
            → IsGoodOperand kinds whole before (reads (saved + j) home) (record { kind = General; home = home })
        saved_read j home h = let r = reach in good_read before last (saved + j) home General numbers (omega arith) (omega (arith, r, h))
            (saved_kind_at j h)

        kept_read : (j : ℕ) (rs : List ℕ) → j + length rs ≤ length (saved_registers t)
            → AllZip (IsGoodOperand kinds whole before) (kept_operands (saved + j) rs) (map word_in rs)
        kept_read j [] h = tt
        kept_read j (r ∷ rs) h =
            let z : (saved + j) + 1 ≡ saved + (j + 1) = omega arith in (
              saved_read j (at_register r) (omega (arith, h)),
              subst (λ (k : ℕ). AllZip (IsGoodOperand kinds whole before) (kept_operands k rs) (map word_in rs)) (sym z)
                  (kept_read (j + 1) rs (omega (arith, h))),
            )

        all_kept_read : AllZip (IsGoodOperand kinds whole before) (kept_operands saved (callee_saved t)) (map word_in (callee_saved t))
        all_kept_read =
            let s = saved_count t in
            let z : saved + 0 ≡ saved = omega arith in
            subst (λ (k : ℕ). AllZip (IsGoodOperand kinds whole before) (kept_operands k (callee_saved t)) (map word_in (callee_saved t))) z
            (kept_read 0 (callee_saved t) (omega (arith, s)))

        handed_read : (j : ℕ) (rs : List ℕ) → j + length rs ≤ length (saved_registers t)
            → AllZip (IsGoodOperand kinds whole before) (map (λ (n : ℕ). reads n None) (range_with_len (saved + j) (length rs)))
            (map (λ (r : ℕ). anywhere General) rs)
        handed_read j [] h = tt
        handed_read j (r ∷ rs) h =
            let z : (saved + j) + 1 ≡ saved + (j + 1) = omega arith in (
              saved_read j None (omega (arith, h)),
              subst (λ (k : ℕ). AllZip (IsGoodOperand kinds whole before) (map (λ (n : ℕ). reads n None) (range_with_len k (length rs)))
                  (map (λ (r : ℕ). anywhere General) rs)) (sym z) (handed_read (j + 1) rs (omega (arith, h))),
            )

        out_names_read : (names : List NameId) → ((k : ℕ) (d : NameId) → k < length names
            → IsLive f.blocks (get_or names k d) b (length block.ops))
            → AllZip (IsGoodOperand kinds whole before) (map (name_operand after None) names)
            (map (λ (name : NameId). anywhere (name_kind kinds name)) names)
        out_names_read [] l = tt
        out_names_read (name ∷ names) l = (
          name_read (length block.ops) after last before name None (name_kind kinds name) a numbers (l 0 name (omega arith)) refl,
          out_names_read names (λ k d h. l (suc k) d (omega arith)),
        )

        next_read : AllZip (IsGoodOperand kinds whole before)
            (map (name_operand after None) names_out ++ map (λ (n : ℕ). reads n None) (range_with_len saved (length (saved_registers t))))
            (map (λ (name : NameId). anywhere (name_kind kinds name)) names_out ++ map (λ (r : ℕ). anywhere General) (saved_registers t))
        next_read =
            let z : saved + 0 ≡ saved = omega arith in
            zip_append (IsGoodOperand kinds whole before) (map (name_operand after None) names_out)
            (map (λ (n : ℕ). reads n None) (range_with_len saved (length (saved_registers t))))
            (map (λ (name : NameId). anywhere (name_kind kinds name)) names_out) (map (λ (r : ℕ). anywhere General) (saved_registers t))
            (out_names_read names_out out_live)
            (subst (λ (k : ℕ). AllZip (IsGoodOperand kinds whole before)
            (map (λ (n : ℕ). reads n None) (range_with_len k (length (saved_registers t))))
            (map (λ (r : ℕ). anywhere General) (saved_registers t))) z
            (handed_read 0 (saved_registers t) (omega arith)))

        out_read : (term : Term) → block.term ≡ term → TestsItsKind f.names term
            → AllZip (IsGoodOperand kinds whole before) (out_operands_of t after saved names_out term) (wants_of_out t kinds names_out term)
        out_read Fall e h = next_read
        out_read (Jump to) e h = next_read
        out_read (Branch pred sense to) e h = next_read
        out_read (Ret None) e h = all_kept_read
        out_read (Ret (Some name)) e h =
            let l = term_live name (subst (λ (x : Term). Contains (read_by_term x) name) (sym e) (0, omega arith, refl)) in (
              name_read (length block.ops) after last before name (at_register t.result) General a numbers l
                  (kind_is f.names General name h),
              all_kept_read,
            )

        ending_is : (let ending = ending_of own.ops in ending.term) ≡ block.term
        ending_is = ap (λ (e : Ending). e.term) (body_ending t current first block.ops rest
            ∙ rest_ending t after link saved names_out block.term)

        tests : TestsItsKind f.names block.term
        tests = let g = good_block f b block here in g.tests

        out_good : (xs : List TempId) → xs ≡ before → AreGoodOps t kinds whole own xs (out_op t after saved names_out block.term ∷ [])
        out_good xs e = (
          record {
            kind = tt;
            operands = subst (λ (ys : List TempId). AllZip (IsGoodOperand kinds whole ys)
                (out_operands_of t after saved names_out block.term)
                (wants_of_out t kinds names_out (let ending = ending_of own.ops in ending.term))) (sym e)
                (subst (λ (x : Term). AllZip (IsGoodOperand kinds whole before) (out_operands_of t after saved names_out block.term)
                (wants_of_out t kinds names_out x)) (sym ending_is)
                (out_read block.term refl tests));
            results = refl;
          },
          tt,
        )

        link_read : IsGoodOperand kinds whole before (reads link None) (record { kind = General; home = None })
        link_read = let s = saved_count t in saved_read (length (callee_saved t)) None (omega (arith, s))

        end_good : (term : Term) → block.term ≡ term → TestsItsKind f.names term
            → AreGoodOps t kinds whole own before (end_ops after link term)
        end_good Fall e h = tt
        end_good (Jump to) e h = (record { kind = tt; operands = tt; results = refl }, tt)
        end_good (Branch pred sense to) e h =
            let l = term_live pred (subst (λ (x : Term). Contains (read_by_term x) pred) (sym e) (0, omega arith, refl)) in (
              record {
                kind = tt;
                operands = (name_read (length block.ops) after last before pred None Pred a numbers l (kind_is f.names Pred pred h), tt);
                results = refl;
              },
              tt,
            )
        end_good (Ret value) e h = (record { kind = tt; operands = (link_read, tt); results = refl }, tt)

        no_results : (term : Term) → before ++ results_of (end_ops after link term) ≡ before
        no_results Fall = append-nil before
        no_results (Jump to) = append-nil before
        no_results (Branch pred sense to) = append-nil before
        no_results (Ret value) = append-nil before

        rest_good : AreGoodOps t kinds whole own before rest
        rest_good = good_append t kinds whole own before (end_ops after link block.term) (out_op t after saved names_out block.term ∷ [])
            (end_good block.term refl tests) (out_good (before ++ results_of (end_ops after link block.term)) (no_results block.term))

      -- ---- the block

      start_numbers : Numbers m (temps m width) first
      start_numbers = record { count = width; are = refl; reach = omega arith }

      body_kept : BodyGood (temps m width) current first block.ops
      body_kept =
          let w = width_is in
          let c = in_count kinds own names_in (length (temps m width)) (omega (arith, w)) in
          let l : length (front ++ own_kinds) ≡ first = let q = length-append front own_kinds in omega (arith, q, c, w, long) in
          body_good block.ops 0 current first (temps m width) (front ++ own_kinds) more refl (omega arith) (omega arith) start_agrees
          start_numbers l
          (parts_are ∙ sym (append_assoc front own_kinds (kinds_of kinds own (body_ops t current first block.ops) ++ more)))

      ops_good : AreGoodOps t kinds whole own [] own.ops
      ops_good =
          let body = body_ops t current first block.ops in
          let k = body_kept in
          let after = numbers_body t current first block.ops in
          let all = numbers_append m first last (temps m width) (results_of body) start_numbers after in (
            record { kind = tt; operands = tt; results = width_is },
            good_append t kinds whole own (temps m width) body rest k.ops (rest_good (temps m width ++ results_of body) all k.agrees),
          )

      ending_parts : (term : Term) → (e : Option ExtOp) × (end_ops after link term ≡ option_to_list e) × AllAre is_end (option_to_list e)
      ending_parts Fall = (None, refl, All-nil (λ (op : ExtOp). is_end op.kind ≡ true))
      ending_parts (Jump to) = (
        Some (record { kind = End (Jump to); operands = []; results = [] }),
        refl,
        All-cons (λ (op : ExtOp). is_end op.kind ≡ true) _ [] refl (All-nil (λ (op : ExtOp). is_end op.kind ≡ true)),
      )
      ending_parts (Branch pred sense to) = (
        Some (record { kind = End (Branch pred sense to); operands = name_operand after None pred ∷ []; results = [] }),
        refl,
        All-cons (λ (op : ExtOp). is_end op.kind ≡ true) _ [] refl (All-nil (λ (op : ExtOp). is_end op.kind ≡ true)),
      )
      ending_parts (Ret value) = (
        Some (record { kind = End (Ret value); operands = reads link None ∷ []; results = [] }),
        refl,
        All-cons (λ (op : ExtOp). is_end op.kind ≡ true) _ [] refl (All-nil (λ (op : ExtOp). is_end op.kind ≡ true)),
      )

      parts : (p : Parts) × IsMadeOf own.ops p
      parts =
          let e = ending_parts block.term in (
            record {
              start = in_op m width;
              inner = body_ops t current first block.ops;
              ending = e.0;
              late = [];
              out =
                  out_op t after saved names_out block.term;
            },
            record {
              whole = ap (λ (xs : List ExtOp). in_op m width ∷ (body_ops t current first block.ops ++
                  (xs ++ out_op t after saved names_out block.term ∷ []))) e.1;
              start = refl;
              inner = inner_body t current first block.ops;
              ending = e.2;
              late = All-nil (λ (op : ExtOp). is_copy op.kind ≡ true);
              out = refl;
            },
          )

      pub block_kept : IsGoodExtBlock t kinds whole own
      block_kept =
          let g = good_block f b block here in
          let w = length-map f.names kind_of_pair in
          record {
            label = g.label;
            freq = g.freq;
            live_in = λ k d h. (let r = names_in_below k d h in omega (arith, r, w));
            live_out = λ k d h. (let r = live_below (get_or names_out k d) (length block.ops) (out_live k d h) in omega (arith, r, w));
            rising = live.rising b;
            parts = parts;
            ops = all_good t kinds whole own own.ops ops_good;
            horizon = refl;
          }

  blocks_kept : (b m : ℕ) (blocks : List Block) (front : List Kind)
      → ((k : ℕ) (block : Block) → slice_get blocks k ≡ Some block → slice_get f.blocks (b + k) ≡ Some block)
      → length front ≡ m → every ≡ front ++ all_kinds kinds (linear_blocks t count lists b m blocks)
      → All (IsGoodExtBlock t kinds whole) (linear_blocks t count lists b m blocks)
  blocks_kept b m [] front at long is = All-nil (IsGoodExtBlock t kinds whole)
  blocks_kept b m (block ∷ blocks) front at long is =
      let own = linear_block t count lists b m block in
      let z : b + 0 ≡ b = omega arith in
      let here : slice_get f.blocks b ≡ Some block = ap (slice_get f.blocks) (sym z) ∙ at 0 block refl in
      let next = past_block t lists b m block in
      let others = linear_blocks t count lists (b + 1) next blocks in
      let mine = kinds_of kinds own own.ops in
      let joined : every ≡ (front ++ mine) ++ all_kinds kinds others = is ∙ sym (append_assoc front mine (all_kinds kinds others)) in
      let longer : length (front ++ mine) ≡ next = length-append front mine ∙ ap (λ (k : ℕ). k + length mine) long
      ∙ ops_kinds kinds own t count m (live_at lists b) (live_after lists count b block.term) block refl in
      All-cons (IsGoodExtBlock t kinds whole) own others (block_kept b m block here front (all_kinds kinds others) long is)
      (blocks_kept (b + 1) next blocks (front ++ mine) (λ k other h.
      (let q : (b + 1) + k ≡ b + suc k = omega arith in ap (slice_get f.blocks) q ∙ at (suc k) other h)) longer joined)

  -- every block is good
  pub all_kept : All (IsGoodExtBlock t kinds whole) whole
  all_kept = blocks_kept 0 0 f.blocks [] (λ k block h. (let z : 0 + k ≡ k = omega arith in ap (slice_get f.blocks) z ∙ h)) refl refl
