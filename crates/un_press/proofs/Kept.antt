-- The registers that calls keep, of those that temporaries may have, are those that functions keep: r29 and r30, which calls keep too,
-- are no temporary's.
use Rattle.std.proofs.Common.{ℕ, zero, suc, ◌≡◌, ◌<◌, ◌≤◌, ◌+◌, ◌-◌, ◌⊎◌, Bool, true, false, ◌&&◌, ◌||◌, List, [], ◌∷◌, ◌++◌, length, map}
use Rattle.std.proofs.Common.{take, inl, inr, refl, sym, ap, ◌∙◌, subst, arith}
use Rattle.std.specs.Prelude.{Option, Some, None, slice_get, slice_index, not, nat_eq, nat_lt, nat_le, ◌==◌, if◌then◌else◌, IfSome}
use Rattle.std.specs.List.{AllZip, range_with_len}
use Rattle.std.specs.Option.{option_map, option_to_list}
use Rattle.std.proofs.lemmas.Bool.{eqb-true}
use Rattle.std.proofs.lemmas.Bool.Decides.{nat_tests}
use Rattle.un_base.specs.declared.ids.TempId.{TempId}
use Rattle.un_base.specs.declared.ids.NameId.{NameId}
use Rattle.un_isa.specs.Fit.{IsFit}
use Rattle.un_isa.specs.Hexagon.{is_saved}
use Rattle.un_isa.specs.Starts.{is_clobbered}
use Rattle.un_isa.specs.Registers.{callee_saved, saved_registers}
use Rattle.un_isa.specs.Tables.{in_mask}
use Rattle.un_isa.specs.declared.op.Op.{Op}
use Rattle.un_isa.specs.declared.op.Op.TheVariants.{Call}
use Rattle.un_isa.specs.declared.reg.Reg.{Reg}
use Rattle.un_isa.specs.declared.reg.TheConstants.{FIRST_SLOT, REGISTERS}
use Rattle.un_isa.specs.declared.table.Table.{Table}
use Rattle.un_ir.specs.declared.function.Kind.{Kind}
use Rattle.un_ir.specs.declared.function.Kind.TheVariants.{General}
use Rattle.un_ir.specs.declared.function.SrcOp.{SrcOp}
use Rattle.un_ir.specs.declared.function.Term.{Term}
use Rattle.un_ir.specs.declared.function.Term.TheVariants.{Fall, Jump, Branch, Ret}
use Rattle.un_ir.specs.declared.extended.ExtKind.{ExtKind}
use Rattle.un_ir.specs.declared.extended.ExtKind.TheVariants.{In, Out, Body, End, Copy, Enter, Leave}
use Rattle.un_ir.specs.declared.extended.Operand.{Operand}
use Rattle.un_ir.specs.declared.extended.ExtOp.{ExtOp}
use Rattle.un_ir.specs.declared.extended.ExtBlock.{ExtBlock}
use Rattle.un_ir.specs.declared.extended.Ext.{Ext}
use Rattle.un_ir.specs.WellFormed.{operand_kinds}
use Rattle.un_ir.specs.Linear.{ending_of, is_in}
use Rattle.un_ir.specs.Extended.{name_kind, Want, anywhere, word_in, wants_of, wants_of_op, wants_of_end, wants_of_out, IsGoodOperand}
use Rattle.un_ir.specs.Extended.{results_of}
use Rattle.un_domains.specs.declared.domain.Domain.TheVariants.{Set}
use Rattle.un_model.specs.declared.model.Options.{Options}
use Rattle.un_model.specs.Options.{IsCountOfRegisters}
use Rattle.un_model.specs.Pairs.{any_from}
use Rattle.un_model.specs.Registers.{is_assignable, predicate_registers, slots_of, reg_at, start_home, call_home, result_home, is_register}
use Rattle.un_model.specs.Registers.{reads_value, is_operand_home, is_result_home, is_home, general_registers, value_registers, with_zero}
use Rattle.un_model.specs.Registers.{is_truth}
use Rattle.un_model.specs.Instructions.{gives_truth}
use Rattle.un_model.specs.Solutions.{InDomain}
use Rattle.un_model.specs.Variables.{register_domain, source_domain, carried}
use Rattle.un_lists.proofs.Lists.{Each, Member, member_append_left, member_append_right, each_more, member_at, each_member, each_of}
use Rattle.un_lists.proofs.Lists.{each_join, any_of, member_of_filter, member_filter, place_of}
use Rattle.un_model.proofs.OpDomains.{register_sits, in_entry}
use Rattle.un_model.proofs.Operations.{contains_member}
use Rattle.un_model.proofs.Placed.{Placed, Spot}
use Rattle.un_model.proofs.PlacedSchedules.{all, spots, definer_in}
use Rattle.un_model.proofs.Readings.{Solved, numbered, placed_good, placed_domains}
use Rattle.un_press.proofs.Crossings.{reg_of, Covers, CoversAll}
use Rattle.un_press.proofs.Spilling.{result_at}

-- ---- registers that are neither r29 nor r30

-- a register that may be a home
abbrev pub Home : ℕ → Type 0
Home r = (r < 29) ⊎ (r ≡ 31)

abbrev pub HasHome : Option Reg → Type 0
HasHome home = IfSome home (λ (r : Reg). Home r.0)

-- a register or one of so many slots
abbrev pub Safe : ℕ → ℕ → Type 0
Safe slots r = (r < 29) ⊎ ((31 ≤ r) × (r < FIRST_SLOT + slots))

home_safe : (slots r : ℕ) → Home r → Safe slots r
home_safe slots r (inl lt) = inl lt
home_safe slots r (inr is) = inr (omega (arith, is), omega (arith, is))

home_low : (r : ℕ) → Home r → r < REGISTERS
home_low r (inl lt) = omega (arith, lt)
home_low r (inr is) = omega (arith, is)

below : (a n r : ℕ) → Member r (range_with_len a n) → r < a + n
below a zero r m = elim m [ ]
below a (suc n) r (inl e) = omega (arith, e)
below a (suc n) r (inr m) = let z = below (a + 1) n r m in omega (arith, z)

from : (low a n r : ℕ) → low ≤ a → Member r (range_with_len a n) → low ≤ r
from low a zero r le m = elim m [ ]
from low a (suc n) r le (inl e) = omega (arith, le, e)
from low a (suc n) r le (inr m) = from low (a + 1) n r (omega (arith, le)) m

there : (a n r : ℕ) → a ≤ r → r < a + n → Member r (range_with_len a n)
there a zero r lo hi = absurd (omega (arith, lo, hi))
there a (suc n) r lo hi = by (nat_eq a r) refl (λ more. there (a + 1) n r more (omega (arith, hi)))
  where
    by : (b : Bool) → nat_eq a r ≡ b → (a + 1 ≤ r → Member r (range_with_len (a + 1) n)) → Member r (range_with_len a (suc n))
    by true e rest = inl (grind (arith, nat_tests, e))
    by false e rest = inr (rest (grind (arith, nat_tests, e, lo)))

and_left : (a b : Bool) → (a && b) ≡ true → a ≡ true
and_left true b h = refl
and_left false b h = absurd (cc h)

and_right : (a b : Bool) → (a && b) ≡ true → b ≡ true
and_right true b h = h
and_right false b h = absurd (cc h)

or_cases : (a b : Bool) → (a || b) ≡ true → (a ≡ true) ⊎ (b ≡ true)
or_cases true b h = inl refl
or_cases false b h = inr h

module _ (t : Table) (fit : IsFit t) where
  saved_low : (r : ℕ) → r < 32 → in_mask t.saved r ≡ true → r < 29
  saved_low r lt m =
      let f = and_right (nat_le 6 r) (nat_lt r 29) (fit.saved r (omega (arith, lt)) m) in
      grind (arith, nat_tests, f)

  saved_homes : Each Home (callee_saved t)
  unfolding callee_saved
  saved_homes = each_of Home (callee_saved t) (λ r m.
      let s = member_of_filter (in_mask t.saved) (range_with_len 0 32) r m in
      let lt = below 0 32 r s.0 in
      inl (saved_low r (omega (arith, lt)) s.1))

  register_homes : Each Home (saved_registers t)
  register_homes = each_join Home (callee_saved t) (31 ∷ []) saved_homes (inr refl, tt)

  arg_homes : Each Home t.args
  arg_homes = subst (λ xs. Each Home xs) (sym fit.args)
      (inl (omega arith), (inl (omega arith), (inl (omega arith), (inl (omega arith), (inl (omega arith), (inl (omega arith), tt))))))

  result_is_home : Home t.result
  result_is_home = let z = fit.result in inl (omega (arith, z))

  index_home : (xs : List ℕ) (k : ℕ) → Each Home xs → Home (slice_index xs k)
  index_home [] k h = inl (omega arith)
  index_home (x ∷ xs) zero h = h.0
  index_home (x ∷ xs) (suc k) h = index_home xs k h.1

  get_home : (xs : List ℕ) (k : ℕ) → Each Home xs → HasHome (option_map reg_at (slice_get xs k))
  get_home [] k h = tt
  get_home (x ∷ xs) zero h = h.0
  get_home (x ∷ xs) (suc k) h = get_home xs k h.1

  start_is_home : (ie : Bool) (live : List NameId) (j : ℕ) (x : Option NameId) → HasHome (start_home t ie live j x)
  start_is_home ie live j None = get_home (saved_registers t) (j - length live) register_homes
  start_is_home true live j (Some name) = index_home t.args name.0 arg_homes
  start_is_home false live j (Some name) = tt

  call_is_home : (op : Op) → HasHome (call_home t op)
  call_is_home Call = result_is_home
  call_is_home _ = tt

  result_has_home : (ie : Bool) (live : List NameId) (k : ExtKind) (j : ℕ) → HasHome (result_home t ie live k j)
  result_has_home ie live In j = start_is_home ie live j (slice_get live j)
  result_has_home ie live (Body so) j = call_is_home so.op
  result_has_home ie live Out j = tt
  result_has_home ie live (End term) j = tt
  result_has_home ie live (Copy node) j = tt
  result_has_home ie live Enter j = tt
  result_has_home ie live Leave j = tt

  -- ---- homes that operands want

  abbrev WantsHome : Want → Type 0
  WantsHome w = HasHome w.home

  words_home : (rs : List ℕ) → Each Home rs → Each WantsHome (map word_in rs)
  words_home [] h = tt
  words_home (r ∷ rs) h = (h.0, words_home rs h.1)

  names_home : {A : Type 0} (f : A → Kind) (xs : List A) → Each WantsHome (map (λ (x : A). anywhere (f x)) xs)
  names_home f [] = tt
  names_home f (x ∷ xs) = (tt, names_home f xs)

  kinds_home : (ks : List Kind) → Each WantsHome (map anywhere ks)
  kinds_home [] = tt
  kinds_home (k ∷ ks) = (tt, kinds_home ks)

  take_home : (n : ℕ) (xs : List ℕ) → Each Home xs → Each Home (take n xs)
  take_home zero xs h = tt
  take_home (suc n) [] h = tt
  take_home (suc n) (x ∷ xs) h = (h.0, take_home n xs h.1)

  op_home : (so : SrcOp) (op : Op) → Each WantsHome (wants_of_op t so op)
  op_home so Call = words_home (take (length so.srcs) t.args) (take_home (length so.srcs) t.args arg_homes)
  op_home so op = kinds_home (operand_kinds op)

  handed_home : (names : List Kind) (live : List NameId) → Each WantsHome (map (λ (name : NameId). anywhere (name_kind names name)) live ++
      map (λ (r : ℕ). anywhere General) (saved_registers t))
  handed_home names live = each_join WantsHome (map (λ (name : NameId). anywhere (name_kind names name)) live)
      (map (λ (r : ℕ). anywhere General) (saved_registers t)) (names_home (name_kind names) live)
      (names_home (λ (r : ℕ). General) (saved_registers t))

  out_home : (names : List Kind) (live : List NameId) (term : Term) → Each WantsHome (wants_of_out t names live term)
  out_home names live (Ret None) = words_home (callee_saved t) saved_homes
  out_home names live (Ret (Some name)) = (result_is_home, words_home (callee_saved t) saved_homes)
  out_home names live Fall = handed_home names live
  out_home names live (Jump to) = handed_home names live
  out_home names live (Branch pred sense to) = handed_home names live

  end_home : (term : Term) → Each WantsHome (wants_of_end term)
  end_home Fall = tt
  end_home (Jump to) = tt
  end_home (Branch pred sense to) = (tt, tt)
  end_home (Ret value) = (tt, tt)

  wants_home : (names : List Kind) (blocks : List ExtBlock) (block : ExtBlock) (k : ExtKind) (op : ExtOp)
      → Each WantsHome (wants_of t names blocks block k op)
  wants_home names blocks block Out op = let ending = ending_of block.ops in out_home names block.live_out ending.term
  wants_home names blocks block (Body so) op = op_home so so.op
  wants_home names blocks block (End term) op = end_home term
  wants_home names blocks block (Copy node) op = (tt, tt)
  wants_home names blocks block In op = tt
  wants_home names blocks block Enter op = tt
  wants_home names blocks block Leave op = tt

  zip_homes : (names : List Kind) (blocks : List ExtBlock) (before : List TempId) (xs : List Operand) (ws : List Want)
      → AllZip (IsGoodOperand names blocks before) xs ws → Each WantsHome ws → Each (λ (x : Operand). HasHome x.home) xs
  zip_homes names blocks before [] [] h s = tt
  zip_homes names blocks before [] (w ∷ ws) h s = absurd h
  zip_homes names blocks before (x ∷ xs) [] h s = absurd h
  zip_homes names blocks before (x ∷ xs) (w ∷ ws) h s = let k = h.0 in
      (subst HasHome (sym k.home) s.0, zip_homes names blocks before xs ws h.1 s.1)

  -- ---- the homes of a value

  is_reg_home : (home : Option Reg) (r : ℕ) → HasHome home → is_register home r ≡ true → Home r
  is_reg_home None r s q = absurd (cc q)
  is_reg_home (Some x) r s q = let same : x.0 ≡ r = eqb-true x.0 r q in subst Home same s

  any_place : {A : Type 0} (p : ℕ → A → Bool) (i : ℕ) (xs : List A) → any_from p i xs ≡ true → (j : ℕ) × (x : A) × (p j x ≡ true)
  any_place p i [] q = absurd (cc q)
  any_place p i (x ∷ xs) q = by (p i x) refl q (any_place p (i + 1) xs)
    where
      by : (b : Bool) → p i x ≡ b → (b || any_from p (i + 1) xs) ≡ true
          → (any_from p (i + 1) xs ≡ true → (j : ℕ) × (y : _) × (p j y ≡ true)) → (j : ℕ) × (y : _) × (p j y ≡ true)
      by true e f rest = (i, x, e)
      by false e f rest = rest f

  -- the homes of a block's operands are homes
  abbrev HomesIn : ExtBlock → Type 0
  HomesIn block = Each (λ (op : ExtOp). Each (λ (x : Operand). HasHome x.home) op.operands) block.ops

  value_home : (ie : Bool) (block : ExtBlock) (x : TempId) (r : ℕ) → HomesIn block → is_home t ie block x r ≡ true → Home r
  value_home ie block x r s q =
      let some = any_of (λ (op : ExtOp). is_operand_home op x r || is_result_home t ie block.live_in op x r) block.ops q in
      let op = some.0 in
      elim (or_cases (is_operand_home op x r) (is_result_home t ie block.live_in op x r) some.2) [
        | inl f ↦ (
            let y = any_of (λ (operand : Operand). reads_value operand x && is_register operand.home r) op.operands f in
            let homes = each_member (λ (op : ExtOp). Each (λ (x : Operand). HasHome x.home) op.operands) block.ops op s some.1 in
            is_reg_home (y.0).home r (each_member (λ (x : Operand). HasHome x.home) op.operands y.0 homes y.1)
            (and_right (reads_value y.0 x) (is_register (y.0).home r) y.2))
        | inr f ↦ (
            let y = any_place (λ (j : ℕ) (y : TempId). y.0 == x.0 && is_register
            (result_home t ie block.live_in op.kind j) r) 0 op.results f
            in
            is_reg_home (result_home t ie block.live_in op.kind y.0) r (result_has_home ie block.live_in op.kind y.0)
            (and_right ((y.1).0 == x.0) (is_register (result_home t ie block.live_in op.kind y.0) r) y.2))
      ]

  -- a safe register that a call keeps is one that functions keep
  pub kept_saved : (slots r : ℕ) → Safe slots r → r < REGISTERS → in_mask t.clobbered r ≡ false → Member r (callee_saved t)
  unfolding callee_saved
  kept_saved slots r safe lt spared = by (in_mask t.saved r) refl (is_clobbered r) refl
    where
      by : (b : Bool) → in_mask t.saved r ≡ b → (d : Bool) → is_clobbered r ≡ d → Member r (callee_saved t)
      by true s d c =
          let may = and_right (nat_le 6 r) (nat_lt r 29) (fit.saved r lt s) in
          let low : r < 29 = grind (arith, nat_tests, may) in
          member_filter (in_mask t.saved) (range_with_len 0 32) r (there 0 32 r (omega arith) (omega (arith, low))) s
      by false s true c =
          let no : false ≡ true = sym spared ∙ fit.clobbered r lt ∙ ap (λ (d : Bool). d && not (in_mask t.saved r)) c
          ∙ ap (λ (b : Bool). true && not b) s in
          absurd (cc no)
      by false s false c =
          let lo : nat_lt r 16 ≡ false = (parts (nat_lt r 16) (nat_eq r 28) (nat_eq r 31) (nat_le 32 r) c).0 in
          let m : nat_eq r 28 ≡ false = (parts (nat_lt r 16) (nat_eq r 28) (nat_eq r 31) (nat_le 32 r) c).1 in
          let l : nat_eq r 31 ≡ false = (parts (nat_lt r 16) (nat_eq r 28) (nat_eq r 31) (nat_le 32 r) c).2 in
          let hi : nat_le 32 r ≡ false = (parts (nat_lt r 16) (nat_eq r 28) (nat_eq r 31) (nat_le 32 r) c).3 in
          let a : nat_le 16 r ≡ true = grind (arith, nat_tests, lo) in
          let b : nat_le r 27 ≡ true = elim safe [
            | inl low ↦ grind (arith, nat_tests, low, m)
            | inr high ↦ (let least = high.0 in grind (arith, nat_tests, least, l, hi))
          ] in
          let saved : is_saved r ≡ true = rw (a, b) refl in
          let no : true ≡ false = sym (fit.kept r lt saved) ∙ s in
          absurd (cc no)
        where
          parts : (a b c d : Bool) → (a || b || c || d) ≡ false → (a ≡ false) × (b ≡ false) × (c ≡ false) × (d ≡ false)
          parts false false false false h = (refl, refl, refl, refl)
          parts true b c d h = absurd (cc h)
          parts false true c d h = absurd (cc h)
          parts false false true d h = absurd (cc h)
          parts false false false true h = absurd (cc h)

-- ---- domains

assignable_home : (regs : Option ℕ) → IfSome regs IsCountOfRegisters → (r : ℕ) → is_assignable regs r ≡ true → Home r
assignable_home None h r q = elim (or_cases (nat_lt r 29) (r == 31) q) [
  | inl lt ↦ inl (grind (arith, nat_tests, lt))
  | inr same ↦ inr (eqb-true r 31 same)
]
assignable_home (Some n) h r q = inl (let le = h.1 in let lt : r < n = grind (arith, nat_tests, q) in omega (arith, le, lt))

module _ (e : Ext) (o : Options) (values : List ℕ) (h : Solved e o values) where
  block_homes : (p : Placed) → Member p (all e o values) → HomesIn e.table h.fit p.owner
  block_homes p m = each_of (λ (op : ExtOp). Each (λ (x : Operand). HasHome x.home) op.operands) p.owner.ops (λ op mo.
      let g = placed_good e o values h p m in
      let b = g.block in
      let r = place_of p.owner.ops op mo in
      let k = b.ops r.0 op r.2 in
      zip_homes e.table h.fit e.names e.blocks (results_of (take r.0 p.owner.ops)) op.operands
      (wants_of e.table e.names e.blocks p.owner op.kind op) k.operands (wants_home e.table h.fit e.names e.blocks p.owner op.kind op))

  -- the home of an operand is no slot
  pub operand_home : (p : Placed) (j : ℕ) (x : Operand) → Member p (all e o values) → slice_get p.op.operands j ≡ Some x
      → IfSome x.home (λ (r : Reg). r.0 < REGISTERS)
  operand_home p j x m at =
      let g = placed_good e o values h p m in
      let keeps = g.keeps in
      let homes = zip_homes e.table h.fit e.names e.blocks g.before p.op.operands
      (wants_of e.table e.names e.blocks p.owner p.op.kind p.op) keeps.operands
      (wants_home e.table h.fit e.names e.blocks p.owner p.op.kind p.op)
      in
      low x.home (each_member (λ (y : Operand). HasHome y.home) p.op.operands x homes (member_at p.op.operands j x at))
    where
      low : (home : Option Reg) → HasHome home → IfSome home (λ (r : Reg). r.0 < REGISTERS)
      low None a = tt
      low (Some r) a = home_low r.0 a

  general_homes : (ie : Bool) (p : Placed) (x : TempId) → Member p (all e o values) → Each Home (general_registers e o.regs ie p.owner x)
  unfolding general_registers
  general_homes ie p x m = each_of Home (general_registers e o.regs ie p.owner x) (λ r mr.
      let f = member_of_filter (λ (r : ℕ). is_assignable o.regs r || is_home e.table ie p.owner x r) (range_with_len 0 32) r mr in
      let opt = h.options in
      elim (or_cases (is_assignable o.regs r) (is_home e.table ie p.owner x r) f.1) [
        | inl a ↦ assignable_home o.regs opt.regs r a
        | inr b ↦ value_home e.table h.fit ie p.owner x r (block_homes p m) b
      ])

  abbrev IsSafe : ℕ → Type 0
  IsSafe r = Safe o.slots r

  from_homes : (rs : List ℕ) → Each Home rs → Each IsSafe rs
  from_homes rs a = each_more Home IsSafe rs (λ r b. home_safe o.slots r b) a

  slots_safe : Each IsSafe (slots_of o.slots)
  slots_safe = each_of IsSafe (slots_of o.slots) (λ r m.
      let lo = from FIRST_SLOT FIRST_SLOT o.slots r (omega arith) m in
      let hi = below FIRST_SLOT o.slots r m in
      inr (omega (arith, lo), omega (arith, hi)))

  preds_safe : Each IsSafe predicate_registers
  preds_safe = (
    inr (omega arith, omega arith),
    (inr (omega arith, omega arith), (inr (omega arith, omega arith), (inr (omega arith, omega arith), tt))),
  )

  value_safe : (ie : Bool) (p : Placed) (x : TempId) → Member p (all e o values) → Each IsSafe
      (value_registers e o.regs o.slots ie p.owner x)
  value_safe ie p x m =
      each_join IsSafe (general_registers e o.regs ie p.owner x ++ (if is_truth e.names p.owner x then predicate_registers else []))
      (slots_of o.slots)
      (each_join IsSafe (general_registers e o.regs ie p.owner x) (if is_truth e.names p.owner x then predicate_registers else [])
      (from_homes (general_registers e o.regs ie p.owner x) (general_homes ie p x m)) (preds (is_truth e.names p.owner x))) slots_safe
    where
      preds : (b : Bool) → Each IsSafe (if b then predicate_registers else [])
      preds true = preds_safe
      preds false = tt

  zero_safe : (rs : List ℕ) → Each IsSafe rs → Each IsSafe (with_zero rs)
  zero_safe [] s = (inl (omega arith), tt)
  zero_safe (r ∷ rs) s = go (r == 0)
    where
      go : (b : Bool) → Each IsSafe (if b then r ∷ rs else 0 ∷ r ∷ rs)
      go true = s
      go false = (inl (omega arith), s)

  in_set : (vs : List ℕ) (v : ℕ) → Each IsSafe vs → InDomain v (Set vs) → IsSafe v
  in_set vs v s d = each_member IsSafe vs v s (contains_member vs v d)

  source_safe : (ie : Bool) (p : Placed) (op : Op) (x : TempId) (v : ℕ) → Member p (all e o values)
      → InDomain v (source_domain e o ie p.owner op x) → IsSafe v
  source_safe ie p Call x v m d = in_set ((e.table).result ∷ []) v
      (home_safe o.slots (e.table).result (result_is_home e.table h.fit), tt) d
  source_safe ie p op x v m d = in_set (if gives_truth op then predicate_registers else general_registers e o.regs ie p.owner x) v
      (go (gives_truth op)) d
    where
      go : (b : Bool) → Each IsSafe (if b then predicate_registers else general_registers e o.regs ie p.owner x)
      go true = preds_safe
      go false = from_homes (general_registers e o.regs ie p.owner x) (general_homes ie p x m)

  one_home : (r : Option Reg) → HasHome r → Each Home (map (λ (r : Reg). r.0) (option_to_list r))
  one_home None s = tt
  one_home (Some r) s = (s, tt)

  abbrev entry_home : Placed → ℕ → Option Reg
  entry_home p j = result_home e.table true p.owner.live_in In j

  entry_homes : (p : Placed) (j : ℕ) → Each Home (map (λ (r : Reg). r.0) (option_to_list (entry_home p j)))
  entry_homes p j = one_home (entry_home p j) (result_has_home e.table h.fit true p.owner.live_in In j)

  domain_safe : (ie : Bool) (p : Placed) (k : ExtKind) (j : ℕ) (x y : TempId) (v : ℕ) → Member p (all e o values)
      → InDomain v (register_domain e o ie p.owner k j x y) → IsSafe v
  domain_safe true p In j x y v m d = in_set (map (λ (r : Reg). r.0) (option_to_list (entry_home p j))) v
      (from_homes (map (λ (r : Reg). r.0) (option_to_list (entry_home p j))) (entry_homes p j)) d
  domain_safe false p In j x y v m d = in_set (value_registers e o.regs o.slots false p.owner x) v (value_safe false p x m) d
  domain_safe ie p (Body so) j x y v m d = source_safe ie p so.op x v m d
  domain_safe ie p (Copy node) j x y v m d = in_set (with_zero (value_registers e o.regs o.slots ie p.owner y)) v
      (zero_safe (value_registers e o.regs o.slots ie p.owner y) (value_safe ie p y m)) d
  domain_safe ie p Out j x y v m d = let n = contains_member [] v d in elim n [ ]
  domain_safe ie p (End term) j x y v m d = let n = contains_member [] v d in elim n [ ]
  domain_safe ie p Enter j x y v m d = let n = contains_member [] v d in elim n [ ]
  domain_safe ie p Leave j x y v m d = let n = contains_member [] v d in elim n [ ]

  abbrev sits_in : Spot → Type 0
  sits_in s = let p = s.definer in
      InDomain (reg_of e o values h s) (register_domain e o (in_entry e o values p) p.owner p.op.kind s.place s.temp (carried p.op s.temp))

  sits : (s : Spot) → Member s (spots e o values) → sits_in s
  sits s m =
      let p = s.definer in
      let mp = definer_in e o values (numbered e o values h) s m in
      register_sits e o values (in_entry e o values p) p s.place s.temp (placed_domains e o values h p mp) (result_at e o values h s m)

  -- the register of a result is neither r29 nor r30, nor past the slots
  pub register_safe : (s : Spot) → Member s (spots e o values) → Safe o.slots (reg_of e o values h s)
  register_safe s m =
      let p = s.definer in
      domain_safe (in_entry e o values p) p p.op.kind s.place s.temp (carried p.op s.temp) (reg_of e o values h s)
      (definer_in e o values (numbered e o values h) s m) (sits s m)

  -- the registers that functions keep are all that calls keep of those that temporaries may have
  pub saved_cover : (c : Placed) → Covers e o values h c (callee_saved e.table)
  saved_cover c s m block act low spared = kept_saved e.table h.fit o.slots (reg_of e o values h s) (register_safe s m) low spared

  -- with the slots they are all in which what crosses a call may be
  pub saved_and_slots : (c : Placed) → CoversAll e o values h c (callee_saved e.table ++ slots_of o.slots)
  saved_and_slots c s m block act spared = by (nat_lt (reg_of e o values h s) FIRST_SLOT) refl
    where
      by : (b : Bool) → nat_lt (reg_of e o values h s) FIRST_SLOT ≡ b
          → Member (reg_of e o values h s) (callee_saved e.table ++ slots_of o.slots)
      by true f =
          let low : reg_of e o values h s < REGISTERS = grind (arith, nat_tests, f) in
          member_append_left (callee_saved e.table) (slots_of o.slots) (reg_of e o values h s) (saved_cover c s m block act low spared)
      by false f =
          let high : FIRST_SLOT ≤ reg_of e o values h s = grind (arith, nat_tests, f) in
          member_append_right (callee_saved e.table) (slots_of o.slots) (reg_of e o values h s)
          (there FIRST_SLOT o.slots (reg_of e o values h s) high (elim (register_safe s m) [
            | inl lt ↦ absurd (omega (arith, lt, high))
            | inr two ↦ two.1
          ]))

  -- ---- the start of the entry

  -- no value at the start of the entry has a slot
  pub entry_starts : (s : Spot) → Member s (spots e o values) → (let p = s.definer in p.block ≡ 0)
      → (let p = s.definer in is_in p.op.kind ≡ true)
      → reg_of e o values h s < REGISTERS
  entry_starts s m entry start = let p = s.definer in by p.op.kind (in_entry e o values p) refl refl start (sits s m)
    where
      by : (kind : ExtKind) (ie : Bool) → (let p = s.definer in p.op.kind ≡ kind) → (let p = s.definer in in_entry e o values p ≡ ie)
          → is_in kind ≡ true → sits_in s → reg_of e o values h s < REGISTERS
      by In true k f t d =
          let p = s.definer in
          let homes = map (λ (r : Reg). r.0) (option_to_list (entry_home p s.place)) in
          let here = subst (λ (b : Bool). InDomain (reg_of e o values h s) (register_domain e o b p.owner In s.place s.temp
          (carried p.op s.temp))) f
          (subst (λ (z : ExtKind). InDomain (reg_of e o values h s) (register_domain e o (in_entry e o values p) p.owner z s.place s.temp
          (carried p.op s.temp))) k d) in
          home_low (reg_of e o values h s)
          (each_member Home homes (reg_of e o values h s) (entry_homes p s.place) (contains_member homes (reg_of e o values h s) here))
      by In false k f t d = let p = s.definer in let no : true ≡ false = sym (is_zero p.block entry) ∙ f in absurd (cc no)
        where
          is_zero : (n : ℕ) → n ≡ 0 → nat_eq n 0 ≡ true
          is_zero n e = grind (arith, nat_tests, e)
      by Out ie k f t d = absurd (cc t)
      by (Body so) ie k f t d = absurd (cc t)
      by (End term) ie k f t d = absurd (cc t)
      by (Copy node) ie k f t d = absurd (cc t)
      by Enter ie k f t d = absurd (cc t)
      by Leave ie k f t d = absurd (cc t)
