-- All operations of a block lie in their domains.
use Rattle.std.proofs.Common.{◌≡◌, ⊎_elim, ℕ, zero, suc, ◌+◌, ◌<◌, ◌≤◌, Bool, true, false, List, [], ◌∷◌, ◌++◌, length, take, replicate}
use Rattle.std.proofs.Common.{length-set, Option, Some, None, Contains, refl, sym, ap, subst, ◌∙◌, append_assoc, arith}
use Rattle.std.specs.Prelude.{slice_get}
use Rattle.std.specs.List.{AllZip}
use Rattle.std.proofs.lemmas.List.{length-map}
use Rattle.std.proofs.lemmas.List.Elements.{Contains-append_right}
use Rattle.un_base.specs.declared.ids.NameId.{NameId}
use Rattle.un_base.specs.declared.ids.TempId.{TempId}
use Rattle.un_isa.specs.Fit.{IsFit}
use Rattle.un_isa.specs.declared.op.Op.{Op}
use Rattle.un_isa.specs.declared.op.Op.TheVariants.{Imm, Call}
use Rattle.un_isa.specs.declared.reg.TheConstants.{LINK}
use Rattle.un_isa.specs.declared.table.Table.{Table}
use Rattle.un_ir.specs.declared.function.SrcOp.{SrcOp}
use Rattle.un_ir.specs.declared.function.Term.{Term}
use Rattle.un_ir.specs.declared.function.Term.TheVariants.{Fall, Jump, Branch, Ret}
use Rattle.un_ir.specs.declared.extended.ExtKind.TheVariants.{Out, Body, End, Leave}
use Rattle.un_ir.specs.declared.extended.Operand.{Operand}
use Rattle.un_ir.specs.declared.extended.ExtOp.{ExtOp}
use Rattle.un_ir.specs.declared.extended.ExtBlock.{ExtBlock}
use Rattle.un_ir.specs.declared.extended.Ext.{Ext}
use Rattle.un_ir.specs.declared.extended.Growth.{Growth}
use Rattle.un_ir.specs.declared.extended.Value.{Value}
use Rattle.un_ir.specs.Extended.{temp, results_of, word_in, anywhere, wants_of_op, wants_of, wants_of_out, IsGoodOperand, IsGoodExtOp}
use Rattle.un_ir.specs.Extended.{IsExtended}
use Rattle.un_ir.specs.Linear.{first_of}
use Rattle.un_ir.specs.LinearOf.{reads as reads_of, name_operand, body_op, body_ops, assigned, past, end_ops}
use Rattle.un_ir.specs.ExtendOf.{frame_op, copy_count, new_temps, with_op, with_operand_by, with_operand, with_operands, new_operands}
use Rattle.un_ir.specs.ExtendOf.{with_results, with_values, with_enter, with_extended}
use Rattle.un_ir.specs.WellFormed.{operand_kinds, result_kind}
use Rattle.un_model.specs.declared.model.Options.{Options}
use Rattle.un_model.specs.Registers.{is_home}
use Rattle.un_baseline.specs.declared.plan.Purpose.{Purpose}
use Rattle.un_baseline.specs.declared.plan.Purpose.TheVariants.{Link}
use Rattle.un_baseline.specs.declared.plan.Setting.{Setting}
use Rattle.un_baseline.specs.declared.plan.Progress.{Progress}
use Rattle.un_baseline.specs.RoomyOptions.{AreRoomy}
use Rattle.un_baseline.specs.SpillEverywhere.{purpose_of_end, purpose_of_out, purpose_at, progress_of, setting_of}
use Rattle.un_baseline.proofs.Grown.{operands_ops, enter_ops, enter_none, enter_same, extended_ops, all_ops}
use Rattle.un_baseline.proofs.CopiesIn.{OperandOk}
use Rattle.un_baseline.proofs.OpsIn.{end_in, leave_in}
use Rattle.un_baseline.proofs.OutsIn.{ReadsFrom, news_have, term_same, out_in}
use Rattle.un_baseline.proofs.SpillSteps.{EachOp}
use Rattle.un_baseline.proofs.ValuesOk.{ValuesOk, set_cases, values_same, values_operand, values_operands}
use Rattle.un_baseline.proofs.WalkIn.{AreReady, operands_good}
use Rattle.un_baseline.proofs.BlockIn.{good_block, live, place_of, Walk, Inside, SourceOk, ready_operands, body_values, body_among}
use Rattle.un_baseline.proofs.BlockIn.{body_good}
use Rattle.un_baseline.proofs.StartIn.{Begins, begins_values}

-- ---- the link register's value stays

begins_by : (i n x : ℕ) (v : Option Value) (g : Growth) → slice_get g.values x ≡ v → Begins i n g → Begins i n (with_operand_by x v g)
begins_by i n x None g at h = h
begins_by i n x (Some v) g at h =
    let new : Value = record v { all = v.all ++ new_temps g (copy_count v.sort) } in
    let size = length-set g.values x new in
    record {
      within = let lt = h.within in omega arith;
      first = λ w is.
          ⊎_elim (λ (a : (i ≡ x) × (new ≡ w)).
          let f = h.first v (ap (slice_get g.values) a.0 ∙ at) in (f.0, ap (λ (u : Value). u.own) (sym a.1) ∙ f.1))
          (λ (a : slice_get g.values i ≡ Some w). h.first w a)
          (set_cases g.values x new i w is);
    }

begins_operands : (i n : ℕ) (xs : List Operand) (g : Growth) → Begins i n g → Begins i n (with_operands xs g)
begins_operands i n [] g h = h
begins_operands i n (x ∷ xs) g h = begins_operands i n xs (with_operand x g) (begins_by i n (first_of x.alts) (slice_get g.values (first_of
    x.alts)) g refl h)

begins_same : (i n : ℕ) (g g' : Growth) → g'.values ≡ g.values → Begins i n g → Begins i n g'
begins_same i n g g' same h = record {
  within = subst (λ (vs : List Value). i < length vs) (sym same) h.within;
  first = λ v at. h.first v (ap (λ (vs : List Value). slice_get vs i) (sym same) ∙ at);
}

-- ---- few operands

pub zip_length : {A B : Type 0} (Q : A → B → Type 0) (xs : List A) (ys : List B) → AllZip Q xs ys → length xs ≡ length ys
zip_length Q [] [] h = refl
zip_length Q [] (y ∷ ys) h = absurd h
zip_length Q (x ∷ xs) [] h = absurd h
zip_length Q (x ∷ xs) (y ∷ ys) h = ap suc (zip_length Q xs ys h.1)

pub news_length : (xs : List Operand) (g : Growth) → length (new_operands xs g) ≡ length xs
news_length [] g = refl
news_length (x ∷ xs) g = ap suc (news_length xs (with_operand x g))

take_few : (n : ℕ) (xs : List ℕ) → length (take n xs) ≤ length xs
take_few zero xs = omega arith
take_few (suc n) [] = omega arith
take_few (suc n) (x ∷ xs) = let r = take_few n xs in omega arith

few_kinds : (op : Op) → length (operand_kinds op) ≤ 6
few_kinds Imm = omega arith
few_kinds _ = omega arith

few_wants : (t : Table) → IsFit t → (src : SrcOp) (op : Op) → length (wants_of_op t src op) ≤ 6
few_wants t fit src Call =
    let a = length-map (take (length src.srcs) t.args) word_in in
    let b = take_few (length src.srcs) t.args in
    let c : length t.args ≡ 6 = ap (λ (xs : List ℕ). length xs) fit.args in
    omega arith
few_wants t fit src op = let a = few_kinds op in let b = length-map (operand_kinds op) anywhere in omega arith

-- a terminator behind what leads to it
pub end_whole : (entry : Bool) (term : Term) (lead us tail : List ExtOp) (made : ExtOp)
    → (lead ++ (us ++ (made ∷ ([] ++ enter_ops entry (End term))))) ++ tail ≡ lead ++ (us ++ (made ∷ tail))
end_whole entry term lead us tail made =
    ap (λ (zs : List ExtOp). (lead ++ (us ++ (made ∷ zs))) ++ tail) (enter_none entry (End term) (λ h. cc h))
    ∙ append_assoc lead (us ++ (made ∷ [])) tail ∙ ap (λ (zs : List ExtOp). lead ++ zs) (append_assoc us (made ∷ []) tail)

module _ (e : Ext) (o : Options) (roomy : AreRoomy e o) (fit : IsFit e.table) (extended : IsExtended e) (b : ℕ) (entry : Bool) (block :
    ExtBlock)
    (at_b : slice_get e.blocks b ≡ Some block) (saved : Bool) (from link home : ℕ)
    (link_from : from ≤ link) (is_link : is_home e.table entry block (temp home) LINK ≡ true) where
  abbrev s : Setting
  s = setting_of e entry block

  abbrev Steps : Progress → List ExtOp → Type 0
  Steps p ops = Walk e o roomy fit extended b entry block at_b p ops

  abbrev Within : List ExtOp → Type 0
  Within ops = Inside e o roomy fit extended b entry block at_b ops

  abbrev grown : ExtOp → Growth → Growth
  grown op g = with_extended e.names block.live_in entry saved op g

  abbrev all : List ExtOp → Growth → List ExtOp
  all ops g = all_ops e.names block.live_in entry saved ops g

  -- what is known behind some operations
  pub record Known (g : Growth) : Type 0 where
    pub values : ValuesOk e block s.placed from g
    pub begins : Begins link home g

  good_op : (op : ExtOp) → (k : Contains block.ops op) → IsGoodExtOp e.table e.names e.blocks block (results_of (take k.0 block.ops)) op
  good_op op k = (good_block e o roomy fit extended b entry block at_b).ops k.0 op (place_of e o roomy fit extended b entry block at_b op k)

  -- ---- the block's end

  ready_free : (purpose : Purpose) → ((k : ℕ) (y : TempId) → OperandOk e o roomy entry block purpose k y)
      → (k : ℕ) (xs : List Operand) (g : Growth)
      → ValuesOk e block s.placed from g → ReadsFrom e o entry block from xs
      → AreReady e o roomy entry block (live e o roomy fit extended b entry block at_b) purpose k xs g
  ready_free purpose free k [] g ok reads = tt
  ready_free purpose free k (x ∷ xs) g ok reads = (
    (λ v is. record { ok = ok.at (first_of x.alts) v reads.0 is; operand = free k _ }),
    ready_free purpose free (k + 1) xs (with_operand x g) (values_operand e block s.placed from x g ok) reads.1,
  )

  out_free : (term : Term) (k : ℕ) (y : TempId) → OperandOk e o roomy entry block (purpose_of_out term) k y
  out_free Fall k y = tt
  out_free (Jump to) k y = tt
  out_free (Branch pred sense to) k y = tt
  out_free (Ret None) k y = tt
  out_free (Ret (Some name)) k y = tt

  pub out_good : (xs : List Operand) (g : Growth) (p : Progress) → Known g → ReadsFrom e o entry block from xs → p.operands ≡ 0
      → (let op : ExtOp = record { kind = Out; operands = xs; results = [] } in Within (all (op ∷ []) g) → Steps p (all (op ∷ []) g))
  out_good xs g p known reads none inside =
      let op : ExtOp = record { kind = Out; operands = xs; results = [] } in
      let ys = new_operands xs g in
      let made : ExtOp = record { kind = Out; operands = ys; results = [] } in
      let us = operands_ops xs g in
      let whole : all (op ∷ []) g ≡ us ++ (made ∷ []) =
      append_assoc us (made ∷ ([] ++ enter_ops entry Out)) [] ∙ ap (λ (zs : List ExtOp). us ++ (made ∷ (zs ++ []))) (enter_none entry Out
      (λ h. cc h)) in
      let among = inside made (subst (λ (zs : List ExtOp). Contains zs made) (sym whole) (Contains-append_right us (made ∷ []) made (
        0,
        omega arith,
        refl,
      ))) in
      let zip = subst (λ (t : Term). AllZip (IsGoodOperand e.names e.blocks (results_of (take among.0 block.ops))) ys (wants_of_out
      e.table e.names
      block.live_out t)) (term_same block.ops) (good_op made among).operands in
      subst (Steps p) (sym whole)
      (operands_good e o roomy entry block (live e o roomy fit extended b entry block at_b) xs g 0 p (made ∷ [])
      (ready_free (purpose_of_out s.term) (out_free s.term) 0 xs g known.values reads) (omega arith)
      (λ q. (
        out_in e o entry block ys (results_of (take among.0 block.ops)) (news_have e o entry block from xs g known.values reads) zip q
            (purpose_at s.term (made ∷ [])),
        tt,
      )))

  -- ---- terminators

  end_steps : (term : Term) (xs : List Operand) (g : Growth) (p : Progress) (tail : List ExtOp)
      → AreReady e o roomy entry block (live e o roomy fit extended b entry block at_b) (purpose_of_end term) 0 xs g → p.operands ≡ 0
      → ((q : Progress) → q.operands ≡ 0 → Steps q tail)
      → Steps p (operands_ops xs g ++ (record { kind = End term; operands = new_operands xs g; results = [] } ∷ tail))
  end_steps term xs g p tail ready none rest =
      let made : ExtOp = record { kind = End term; operands = new_operands xs g; results = [] } in
      operands_good e o roomy entry block (live e o roomy fit extended b entry block at_b) xs g 0 p (made ∷ tail) ready (omega arith)
      (λ q. (
        end_in e o roomy fit entry block q (purpose_at s.term (made ∷ tail)) term (new_operands xs g),
        rest (progress_of e block s q (purpose_at s.term (made ∷ tail)) made (End term)) refl,
      ))

  enter_values : (first : Bool) (term : Term) (h : Growth) → (with_enter first (End term) h).values ≡ h.values
  enter_values true term h = refl
  enter_values false term h = refl

  known_end : (term : Term) (xs : List Operand) (g before : Growth) → before.values ≡ g.values → Known g
      → (let here = with_results (End term) (new_operands xs before) 0 (with_operands xs before) in Known (with_enter entry (End term)
      here))
  known_end term xs g before same known =
      let read = with_operands xs before in
      let here = with_results (End term) (new_operands xs before) 0 read in
      let last : (with_enter entry (End term) here).values ≡ read.values = enter_values entry term here in
      record {
        values = values_same e block s.placed from read (with_enter entry (End term) here) last (values_operands e block s.placed from xs
            before
            (values_same e block s.placed from g before same known.values));
        begins = begins_same link home read (with_enter entry (End term) here) last (begins_operands link home xs before
            (begins_same link home g before same known.begins));
      }

  later : (xs ys : List ExtOp) → Within (xs ++ ys) → Within ys
  later xs ys inside x c = inside x (Contains-append_right xs ys x c)

  ready_link : (value : Option NameId) (g : Growth) → Known g
      → AreReady e o roomy entry block (live e o roomy fit extended b entry block at_b) Link 0 (reads_of link None ∷ []) g
  ready_link value g known = (
    (λ v is.
        let ok = known.values.at link v link_from is in
        let f = known.begins.first v is in
        let lists : temp home ∷ f.0 ≡ temp ok.first ∷ ok.more = sym f.1 ∙ ok.own in
        let same : temp home ≡ temp ok.first = cc lists in
        record { ok = ok; operand = subst (λ (y : TempId). is_home e.table entry block y LINK ≡ true) same is_link }),
    tt,
  )

  abbrev pub EachReads : List ExtOp → Type 0
  EachReads ops = EachOp (λ (op : ExtOp). ReadsFrom e o entry block from op.operands) ops

  pub ends_good : (term : Term) (current : List ℕ) (g : Growth) (p : Progress) (rest : List ExtOp) → Known g
      → EachReads (end_ops current link term)
      → p.operands ≡ 0 → Within (all (end_ops current link term ++ rest) g)
      → ((h : Growth) (q : Progress) → Known h → q.operands ≡ 0 → Within (all rest h) → Steps q (all rest h))
      → Steps p (all (end_ops current link term ++ rest) g)
  ends_good Fall current g p rest known reads none inside go = go g p known none inside
  ends_good (Jump to) current g p rest known reads none inside go =
      let op : ExtOp = record { kind = End (Jump to); operands = []; results = [] } in
      let next = grown op g in
      let made : ExtOp = record { kind = End (Jump to); operands = []; results = [] } in
      subst (Steps p) (sym (end_whole entry (Jump to) [] [] (all rest next) made))
      (end_steps (Jump to) [] g p (all rest next) tt none (λ q z. go next q (known_end (Jump to) [] g g refl known) z
      (later (extended_ops e.names block.live_in entry saved op g) (all rest next) inside)))
  ends_good (Branch pred sense to) current g p rest known reads none inside go =
      let xs = name_operand current None pred ∷ [] in
      let op : ExtOp = record { kind = End (Branch pred sense to); operands = xs; results = [] } in
      let next = grown op g in
      let made : ExtOp = record { kind = End (Branch pred sense to); operands = new_operands xs g; results = [] } in
      subst (Steps p) (sym (end_whole entry (Branch pred sense to) [] (operands_ops xs g) (all rest next) made))
      (end_steps (Branch pred sense to) xs g p (all rest next) (ready_operands e o roomy fit extended b entry block at_b from 0 xs g
      known.values
      reads.0 (omega arith)) none (λ q z. go next q (known_end (Branch pred sense to) xs g g refl known) z
      (later (extended_ops e.names block.live_in entry saved op g) (all rest next) inside)))
  ends_good (Ret value) current g p rest known reads none inside go =
      let xs : List Operand = reads_of link None ∷ [] in
      let op : ExtOp = record { kind = End (Ret value); operands = xs; results = [] } in
      let before = with_op g (frame_op Leave) in
      let next = grown op g in
      let made : ExtOp = record { kind = End (Ret value); operands = new_operands xs before; results = [] } in
      let us = operands_ops xs before in
      let tail = all rest next in
      let known' : Known before = record {
        values = values_same e block s.placed from g before refl known.values;
        begins = begins_same
            link home g before refl known.begins;
      } in
      let purpose = purpose_at s.term (frame_op Leave ∷ (us ++ (made ∷ tail))) in
      subst (Steps p) (sym (end_whole entry (Ret value) (frame_op Leave ∷ []) us tail made)) (
        leave_in e o roomy fit entry block p purpose,
        end_steps (Ret value) xs before (progress_of e block s p purpose (frame_op Leave) Leave) tail (ready_link value before known') refl
            (λ q z. go next q (known_end (Ret value) xs g before refl known) z
            (later (extended_ops e.names block.live_in entry saved op g) tail inside)),
      )

  -- ---- operations of the source

  abbrev pub AreSources : List SrcOp → Type 0
  AreSources [] = Unit {0}
  AreSources (src ∷ srcs) = SourceOk e o roomy fit extended b entry block at_b src × AreSources srcs

  pub bodies_good : (t : Table) (srcs : List SrcOp) (current : List ℕ) (first : ℕ) (g : Growth) (p : Progress) (rest : List ExtOp)
      → AreSources srcs
      → EachReads (body_ops t current first srcs) → Known g → p.operands ≡ 0 → Within (all (body_ops t current first srcs ++ rest) g)
      → ((h : Growth) (q : Progress) → Known h → q.operands ≡ 0 → Within (all rest h) → Steps q (all rest h))
      → Steps p (all (body_ops t current first srcs ++ rest) g)
  bodies_good t [] current first g p rest ok reads known none inside go = go g p known none inside
  bodies_good t (src ∷ srcs) current first g p rest ok reads known none inside go =
      let op = body_op t current first src in
      let xs = op.operands in
      let rs = op.results in
      let next = grown op g in
      let tail = all (body_ops t (assigned current src.dst first) (past src.dst first) srcs ++ rest) next in
      let among = body_among e o roomy fit extended b entry block at_b src xs rs from g saved known.values reads.0 tail inside in
      let body : ExtOp = record { kind = Body src; operands = new_operands xs g; results = new_temps (with_operands xs g) (length rs) } in
      let zip = (good_op body among).operands in
      let size = zip_length (IsGoodOperand e.names e.blocks (results_of (take among.0 block.ops))) (new_operands xs g) (wants_of e.table
      e.names
      e.blocks block (Body src) body) zip in
      let few = few_wants e.table fit src src.op in
      let same = news_length xs g in
      let read = with_operands xs g in
      let here = with_results (Body src) (new_operands xs g) (length rs) read in
      let sorts = replicate (length rs) (record { kind = result_kind src.op; copied = true }) in
      let known' : Known next = record {
        values = body_values e o roomy fit extended b entry block at_b src xs rs from g saved known.values reads.0 among;
        begins = subst (Begins link home) (sym (enter_same entry src (with_values read.next sorts here))) (begins_values link home
            read.next sorts here
            (begins_same link home read here refl (begins_operands link home xs g known.begins)));
      } in
      body_good e o roomy fit extended b entry block at_b src xs rs from g saved known.values reads.0 tail p ok.0 (omega arith) none inside
      (λ q z. bodies_good t srcs (assigned current src.dst first) (past src.dst first) next q rest ok.1 reads.1 known' z
      (later (extended_ops e.names block.live_in entry saved op g) tail inside) go)
