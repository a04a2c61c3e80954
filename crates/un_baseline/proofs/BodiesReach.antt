-- How many cycles the operations of the source take: their operands are reloaded, they issue, and their results are spilled.
use Rattle.std.proofs.Common.{◌≡◌, ℕ, zero, suc, ◌+◌, Bool, true, List, [], ◌∷◌, ◌++◌, length, map, take, replicate, Option, Some, None}
use Rattle.std.proofs.Common.{Contains, refl, sym, ap, subst, ◌∙◌, append-nil, arith}
use Rattle.std.specs.Prelude.{slice_get, slice_index, sum_by}
use Rattle.std.specs.Option.{option_to_list}
use Rattle.std.proofs.lemmas.List.{length-map}
use Rattle.std.proofs.lemmas.List.Sums.{sum_by-cons}
use Rattle.std.proofs.lemmas.List.Elements.{Contains-append_right}
use Rattle.un_base.specs.declared.ids.NameId.{NameId}
use Rattle.un_base.specs.declared.ids.TempId.{TempId}
use Rattle.un_isa.specs.Fit.{IsFit}
use Rattle.un_isa.specs.declared.op.Op.{Op}
use Rattle.un_isa.specs.declared.op.Op.TheVariants.{Imm, Call}
use Rattle.un_isa.specs.declared.table.Table.{Table}
use Rattle.un_ir.specs.declared.function.Kind.{Kind}
use Rattle.un_ir.specs.declared.function.Kind.TheVariants.{General}
use Rattle.un_ir.specs.declared.function.SrcOp.{SrcOp}
use Rattle.un_ir.specs.declared.extended.NodeCopy.TheVariants.{D, D2}
use Rattle.un_ir.specs.declared.extended.ExtKind.TheVariants.{Body}
use Rattle.un_ir.specs.declared.extended.Operand.{Operand}
use Rattle.un_ir.specs.declared.extended.ExtOp.{ExtOp}
use Rattle.un_ir.specs.declared.extended.ExtBlock.{ExtBlock}
use Rattle.un_ir.specs.declared.extended.Ext.{Ext}
use Rattle.un_ir.specs.declared.extended.Growth.{Growth}
use Rattle.un_ir.specs.declared.extended.Sort.{Sort}
use Rattle.un_ir.specs.Extended.{temp, at_register, name_kind, results_of, word_in, anywhere, wants_of_op, IsGoodOperand, IsExtended}
use Rattle.un_ir.specs.ExtendOf.{new_temps, with_operands, new_operands, with_results, with_values, with_extended}
use Rattle.un_ir.specs.Linear.{first_of}
use Rattle.un_ir.specs.LinearOf.{name_operand, argument_operands, source_operands, body_op, body_ops, assigned, past, past_all}
use Rattle.un_ir.specs.LinearOf.{current_after}
use Rattle.un_ir.specs.WellFormed.{operand_kinds, result_kind}
use Rattle.un_model.specs.declared.model.Options.{Options}
use Rattle.un_baseline.specs.declared.plan.Definer.TheVariants.{Assigns}
use Rattle.un_baseline.specs.declared.plan.Setting.{Setting}
use Rattle.un_baseline.specs.declared.plan.Progress.{Progress}
use Rattle.un_baseline.specs.RoomyOptions.{AreRoomy}
use Rattle.un_baseline.specs.SpilledCost.{assigned_packets, read_kinds, source_packets}
use Rattle.un_baseline.specs.SpillEverywhere.{assigning, purpose_at, progress_of, setting_of}
use Rattle.un_baseline.proofs.Grown.{copy_ops, values_ops, extended_ops, all_ops, enter_same}
use Rattle.un_baseline.proofs.SpillSteps.{EachOp}
use Rattle.un_baseline.proofs.OutsIn.{ReadsFrom}
use Rattle.un_baseline.proofs.ValuesOk.{ValuesOk}
use Rattle.un_baseline.proofs.BlockIn.{good_block, place_of, Inside, SourceOk, body_values, body_among, body_whole}
use Rattle.un_baseline.proofs.CloseIn.{zip_length, news_length}
use Rattle.un_baseline.proofs.FunctionIn.{op_count, dst_count}
use Rattle.un_baseline.proofs.Reaching.{Reach, AreCopied, operands_reach, result_reach}
use Rattle.un_baseline.proofs.CopiedNames.{CopiedAt, copied_operands, copied_row, copied_past, NamesCopied, names_assigned, kinds_wanted}
use Rattle.un_baseline.proofs.CopiedNames.{operands_copied}

-- ---- operands by their names

arguments_named : (current registers : List ℕ) (srcs : List NameId) (j : ℕ) (x : Operand)
    → slice_get (argument_operands current registers srcs) j ≡ Some x → (name : NameId) × (first_of x.alts ≡ slice_index current name.0)
arguments_named current registers [] j x at = absurd (cc at)
arguments_named current [] (name ∷ srcs) zero x at = (
  name,
  (let e : name_operand current None name ≡ x = cc at in
      ap (λ (y : Operand). first_of y.alts) (sym e)),
)
arguments_named current [] (name ∷ srcs) (suc j) x at = arguments_named current [] srcs j x at
arguments_named current (r ∷ rs) (name ∷ srcs) zero x at = (
  name,
  (let e : name_operand current (at_register r) name ≡ x = cc at in
      ap (λ (y : Operand). first_of y.alts) (sym e)),
)
arguments_named current (r ∷ rs) (name ∷ srcs) (suc j) x at = arguments_named current rs srcs j x at

names_named : (current : List ℕ) (srcs : List NameId) (j : ℕ) (x : Operand) → slice_get (map (name_operand current None) srcs) j ≡ Some x
    → (name : NameId) × (first_of x.alts ≡ slice_index current name.0)
names_named current [] j x at = absurd (cc at)
names_named current (name ∷ srcs) zero x at = (
  name,
  (let e : name_operand current None name ≡ x = cc at in
      ap (λ (y : Operand). first_of y.alts) (sym e)),
)
names_named current (name ∷ srcs) (suc j) x at = names_named current srcs j x at

sources_named : (t : Table) (current : List ℕ) (op : Op) (srcs : List NameId) (j : ℕ) (x : Operand)
    → slice_get (source_operands t current op srcs) j ≡ Some x → (name : NameId) × (first_of x.alts ≡ slice_index current name.0)
sources_named t current Call srcs j x at = arguments_named current t.args srcs j x at
sources_named t current _ srcs j x at = names_named current srcs j x at

arguments_length : (current registers : List ℕ) (srcs : List NameId) → length (argument_operands current registers srcs) ≡ length srcs
arguments_length current registers [] = refl
arguments_length current [] (name ∷ srcs) = ap suc (arguments_length current [] srcs)
arguments_length current (r ∷ rs) (name ∷ srcs) = ap suc (arguments_length current rs srcs)

words_wanted : (zs : List ℕ) → kinds_wanted (map word_in zs) ≡ replicate (length zs) General
words_wanted [] = refl
words_wanted (z ∷ zs) = ap (λ (ks : List Kind). General ∷ ks) (words_wanted zs)

any_wanted : (ks : List Kind) → kinds_wanted (map anywhere ks) ≡ ks
any_wanted [] = refl
any_wanted (k ∷ ks) = ap (λ (xs : List Kind). k ∷ xs) (any_wanted ks)

-- the kinds that are wanted are those that are read
kinds_read : (t : Table) (current : List ℕ) (src : SrcOp) (op : Op)
    → length (source_operands t current op src.srcs) ≡ length (wants_of_op t src op)
    → kinds_wanted (wants_of_op t src op) ≡ read_kinds src op
kinds_read t current src Call size =
    let zs = take (length src.srcs) t.args in
    let long : length zs ≡ length src.srcs = (let a = length-map zs word_in in let b = arguments_length current t.args src.srcs in omega
    arith) in
    words_wanted zs ∙ ap (λ (n : ℕ). replicate n General) long
kinds_read t current src Imm size = any_wanted (operand_kinds Imm)
kinds_read t current src op size = any_wanted (operand_kinds op)

module _ (e : Ext) (o : Options) (roomy : AreRoomy e o) (fit : IsFit e.table) (extended : IsExtended e) (b : ℕ) (entry : Bool)
    (block : ExtBlock)
    (at_b : slice_get e.blocks b ≡ Some block) (saved : Bool) (from : ℕ) where
  abbrev s : Setting
  s = setting_of e entry block

  abbrev Within : List ExtOp → Type 0
  Within ops = Inside e o roomy fit extended b entry block at_b ops

  abbrev all : List ExtOp → Growth → List ExtOp
  all ops g = all_ops e.names block.live_in entry saved ops g

  -- what is known behind some operations
  pub record Counted (current : List ℕ) (first : ℕ) (g : Growth) : Type 0 where
    pub values : ValuesOk e block s.placed from g
    pub names : NamesCopied from current g
    pub size : length g.values ≡ first

  result_by : (dst : Option NameId) (kind : Kind) (first n : ℕ) (here : Growth) (p : Progress) (tail : List ExtOp) (fin : ℕ)
      → p.definer ≡ assigning dst → ((name : NameId) → assigning dst ≡ Assigns name → name_kind e.names name ≡ kind)
      → ((q : Progress) → q.cycle ≡ p.cycle + assigned_packets e.table kind dst → Reach e block s q tail fin)
      → Reach e block s p (values_ops n (replicate (length (map (λ (name : NameId). temp first) (option_to_list dst))) (record {
        kind = kind;
        copied = true;
      })) here ++ tail) fin
  result_by None kind first n here p tail fin is named rest = rest p (omega arith)
  result_by (Some name) kind first n here p tail fin is named rest =
      subst (λ (ops : List ExtOp). Reach e block s p (ops ++ tail) fin) (sym (append-nil (copy_ops D D2 kind true (temp n ∷ []) here.next)))
      (result_reach e block s kind name n here.next p tail fin is (named name refl) rest)

  module _ (src : SrcOp) (current : List ℕ) (first : ℕ) (g : Growth) (counted : Counted current first g) where
    abbrev op : ExtOp
    op = body_op e.table current first src

    abbrev xs : List Operand
    xs = source_operands e.table current src.op src.srcs

    abbrev rs : List TempId
    rs = map (λ (name : NameId). temp first) (option_to_list src.dst)

    abbrev read : Growth
    read = with_operands xs g

    abbrev here : Growth
    here = with_results (Body src) (new_operands xs g) (length rs) read

    abbrev sort : Sort
    sort = record { kind = result_kind src.op; copied = true }

    abbrev body : ExtOp
    body = record { kind = Body src; operands = new_operands xs g; results = new_temps read (length rs) }

    abbrev next : Growth
    next = with_extended e.names block.live_in entry saved op g

    next_copied : (i : ℕ) → CopiedAt from g i → CopiedAt from next i
    next_copied i h = subst (λ (x : Growth). CopiedAt from x i)
        (sym (enter_same entry src (with_values read.next (replicate (length rs) sort) here)))
        (copied_row from i read.next (length rs) sort here refl (copied_operands from i xs g h))

    next_counted : ReadsFrom e o entry block from xs → Contains block.ops body
        → Counted (assigned current src.dst first) (past src.dst first) next
    next_counted reads among = record {
      values = body_values e o roomy fit extended b entry block at_b src xs rs from g saved counted.values reads among;
      names = names_assigned from current src.dst first next (record { at = λ k. next_copied (slice_index current k) (counted.names.at k) })
          (next_copied first (copied_past from first g (let size = counted.size in omega arith)));
      size = let a = op_count e.names block.live_in entry saved op g in
          let c = dst_count e.names block.live_in entry saved src.dst first first sort in let size = counted.size in omega arith;
    }

    pub body_reach : (p : Progress) (tail : List ExtOp) (fin : ℕ) → SourceOk e o roomy fit extended b entry block at_b src
        → ReadsFrom e o entry block from xs → Within (extended_ops e.names block.live_in entry saved op g ++ tail)
        → ((q : Progress) → q.cycle ≡ p.cycle + source_packets e.table src → Reach e block s q tail fin)
        → Reach e block s p (extended_ops e.names block.live_in entry saved op g ++ tail) fin
    body_reach p tail fin source reads inside rest =
        let among = body_among e o roomy fit extended b entry block at_b src xs rs from g saved counted.values reads tail inside in
        let good = (good_block e o roomy fit extended b entry block at_b).ops among.0 body
        (place_of e o roomy fit extended b entry block at_b body
        among) in
        let zip = good.operands in
        let size = zip_length (IsGoodOperand e.names e.blocks (results_of (take among.0 block.ops))) (new_operands xs g)
        (wants_of_op e.table src
        src.op) zip in
        let kinds = kinds_read e.table current src src.op (sym (news_length xs g) ∙ size) in
        let copied = subst (λ (ks : List Kind). AreCopied e block s xs ks g) kinds
        (operands_copied e o entry block (results_of (take among.0
        block.ops)) from xs (wants_of_op e.table src src.op) g counted.values reads (λ j x at.
        let named = sources_named e.table current src.op src.srcs j x at in
        subst (CopiedAt from g) (sym named.1) (counted.names.at (let name = named.0 in name.0))) zip) in
        let ds = values_ops read.next (replicate (length rs) sort) here in
        subst (λ (ops : List ExtOp). Reach e block s p ops fin)
        (sym (body_whole e o roomy fit extended b entry block at_b src xs rs from g saved
        counted.values reads tail))
        (operands_reach e block s xs (read_kinds src src.op) g p (body ∷ (ds ++ tail)) fin copied refl (λ q at.
        let after = progress_of e block s q (purpose_at s.term (body ∷ (ds ++ tail))) body (Body src) in
        result_by src.dst (result_kind src.op) first read.next here after tail fin refl source.kind (λ r there. rest r (omega arith))))

  -- ---- one after another

  abbrev pub AreSources : List SrcOp → Type 0
  AreSources [] = Unit {0}
  AreSources (src ∷ srcs) = SourceOk e o roomy fit extended b entry block at_b src × AreSources srcs

  pub bodies_reach : (srcs : List SrcOp) (current : List ℕ) (first : ℕ) (g : Growth) (p : Progress) (rest : List ExtOp) (fin : ℕ)
      → Counted current first g → AreSources srcs
      → EachOp (λ (op : ExtOp). ReadsFrom e o entry block from op.operands) (body_ops e.table current first srcs)
      → Within (all (body_ops e.table current first srcs ++ rest) g)
      → ((h : Growth) (q : Progress) → Counted (current_after current first srcs) (past_all first srcs) h → Within (all rest h)
      → q.cycle ≡ p.cycle + sum_by (source_packets e.table) srcs → Reach e block s q (all rest h) fin)
      → Reach e block s p (all (body_ops e.table current first srcs ++ rest) g) fin
  bodies_reach [] current first g p rest fin counted sources reads inside go = go g p counted inside (omega arith)
  bodies_reach (src ∷ srcs) current first g p rest fin counted sources reads inside go =
      let op = body_op e.table current first src in
      let here = extended_ops e.names block.live_in entry saved op g in
      let grown = with_extended e.names block.live_in entry saved op g in
      let tail = all (body_ops e.table (assigned current src.dst first) (past src.dst first) srcs ++ rest) grown in
      let among = body_among e o roomy fit extended b entry block at_b src op.operands op.results from g saved counted.values reads.0 tail
      inside in
      let split = sum_by-cons (source_packets e.table) src srcs in
      body_reach src current first g counted p tail fin sources.0 reads.0 inside (λ q at.
      bodies_reach srcs (assigned current src.dst first) (past src.dst first) grown q rest fin
      (next_counted src current first g counted reads.0 among)
      sources.1 reads.1 (λ x c. inside x (Contains-append_right here tail x c)) (λ h r known within there.
      go h r known within (omega arith)))
