-- Two operands that read different values have different registers: both temporaries are there in the cycle before the operation's.
use Rattle.std.proofs.Common.{ℕ, zero, suc, ◌≡◌, ◌+◌, ◌-◌, ◌<◌, ◌≤◌, Bool, true, false, List, [], ◌∷◌, length, ◌⊎◌, inl, inr, refl, sym, ap, ◌∙◌}
use Rattle.std.proofs.Common.{subst, arith}
use Rattle.std.specs.Prelude.{Option, Some, None, slice_get, slice_index, slice_index_or, unwrap_or, if◌then◌else◌}
use Rattle.std.specs.List.{AllZip, range_with_len}
use Rattle.std.specs.Option.{option_map}
use Rattle.un_base.specs.declared.ids.TempId.{TempId}
use Rattle.un_base.specs.declared.ids.VarId.{VarId}
use Rattle.un_isa.specs.declared.op.Op.{Op}
use Rattle.un_ir.specs.declared.function.Term.{Term}
use Rattle.un_ir.specs.declared.function.Term.TheVariants.{Fall, Jump, Branch, Ret}
use Rattle.un_ir.specs.declared.extended.Ext.{Ext}
use Rattle.un_ir.specs.declared.extended.ExtKind.{ExtKind}
use Rattle.un_ir.specs.declared.extended.ExtKind.TheVariants.{In, Out, Body, End, Copy, Enter, Leave}
use Rattle.un_ir.specs.declared.extended.Operand.{Operand}
use Rattle.un_ir.specs.Extended.{temp, carried, IsGoodKind, IsSourceOp, IsGoodOperand, Want, wants_of}
use Rattle.un_ir.specs.Kinds.{is_mandatory, is_optional, has_choices}
use Rattle.un_ir.specs.Linear.{first_of}
use Rattle.un_domains.specs.Sets.{Sets, set_at, has, IsIn}
use Rattle.un_model.specs.declared.model.Options.{Options}
use Rattle.un_model.specs.declared.schedule.LiveRange.{LiveRange}
use Rattle.un_model.specs.Arcs.{own_instr, value_read}
use Rattle.un_model.specs.Instructions.{instruction_of, space_read}
use Rattle.un_model.specs.Schedules.{choice_of, value_by, chosen as chosen_temp}
use Rattle.un_model.specs.Solutions.{InSpace, ShareNoCycle, latency_gap}
use Rattle.un_model.specs.Variables.{model_of, var_at, var_if, choice_place, chosen_operands}
use Rattle.un_model.proofs.Gaps.{gap_source, latency_some}
use Rattle.un_lists.proofs.Lists.{Member, slice_get-map, length_get, index_get, get_below}
use Rattle.un_model.proofs.OpDomains.{in_entry, choice_sits}
use Rattle.un_model.proofs.Placed.{Placed, vars_of, issue_at, Spot}
use Rattle.un_model.proofs.PlacedSchedules.{all, spots, spot_range, range_here, range_get, the_ranges, one_spot, get_range}
use Rattle.un_model.proofs.Readings.{Solved, Reading, reading, numbered, placed_good, placed_domains, zip_get}
use Rattle.un_steps.specs.Rules.{IsAlike, IsAlikeAt}
use Rattle.un_steps.specs.Words.{Alternative, alternative, IsNeverZero, choices_left, choices_by, regs}
use Rattle.un_steps.proofs.Boxes.{some_of}
use Rattle.un_steps.proofs.Choosing.{chosen, register_in, register_left}
use Rattle.un_steps.proofs.Grounds.{own, sure_active}
use Rattle.un_steps.proofs.Placing.{operation_of}

-- ---- by kinds

mandatory_fixed : (k : ExtKind) → is_mandatory k ≡ true → is_optional k ≡ false
mandatory_fixed In h = refl
mandatory_fixed Out h = refl
mandatory_fixed (Body so) h = refl
mandatory_fixed (End term) h = refl
mandatory_fixed (Copy node) h = absurd (cc h)
mandatory_fixed Enter h = absurd (cc h)
mandatory_fixed Leave h = absurd (cc h)

mandatory_chooses : (k : ExtKind) → is_mandatory k ≡ true → has_choices k ≡ true
mandatory_chooses In h = refl
mandatory_chooses Out h = refl
mandatory_chooses (Body so) h = refl
mandatory_chooses (End term) h = refl
mandatory_chooses (Copy node) h = absurd (cc h)
mandatory_chooses Enter h = absurd (cc h)
mandatory_chooses Leave h = absurd (cc h)

own_instruction : (k : ExtKind) (n : ℕ) → is_mandatory k ≡ true → instruction_of k n ≡ instruction_of k 0
own_instruction In n h = refl
own_instruction Out n h = refl
own_instruction (Body so) n h = refl
own_instruction (End term) n h = refl
own_instruction (Copy node) n h = absurd (cc h)
own_instruction Enter n h = absurd (cc h)
own_instruction Leave n h = absurd (cc h)

value_is : (x : Operand) → temp (first_of x.alts) ≡ value_read x
value_is x = by x.alts refl
  where
    by : (alts : List TempId) → x.alts ≡ alts → temp (first_of x.alts) ≡ value_read x
    by [] f = rw f refl
    by (y ∷ ys) f = rw f refl

two_ways : (a b : ℕ) → (a ≡ b) ⊎ ((a < b) ⊎ (b < a))
two_ways zero zero = inl refl
two_ways zero (suc b) = inr (inl (omega arith))
two_ways (suc a) zero = inr (inr (omega arith))
two_ways (suc a) (suc b) = elim (two_ways a b) [
  | inl same ↦ inl (ap suc same)
  | inr two ↦ elim two [ inl lt ↦ inr (inl (omega (arith, lt))) | inr lt ↦ inr (inr (omega (arith, lt))) ]
]

registers_differ : (a b : LiveRange) (c : ℕ) → ShareNoCycle a b → a.active ≡ true → b.active ≡ true
    → (let i = a.block in let j = b.block in i.0 ≡ j.0)
    → a.from ≤ c → c ≤ a.last → b.from ≤ c → c ≤ b.last → a.reg ≡ b.reg → ⊥
unfolding ShareNoCycle
registers_differ a b c share p q block lo hi low high same = share p q block same c (lo, hi) (low, high)

module _ (e : Ext) (o : Options) (x : List ℕ) (h : Solved e o x) (s : Sets) (inside : IsIn x s) where
  -- ---- what an operand holds in the cycle before

  record Held (q : Placed) (j : ℕ) (operand : Operand) : Type 0 where
    pub spot : Spot
    pub member : Member spot (spots e o x)
    pub temp : spot.temp ≡ choice_of x (vars_of q) j operand
    pub block : spot.definer.block ≡ q.block
    pub value : carried e.blocks spot.temp ≡ value_read operand
    pub active : (spot_range e o x spot).active ≡ true
    pub space : InSpace (register_in x spot) (space_read (issue_at x q).instr j)
    pub from : (spot_range e o x spot).from + 1 ≤ (issue_at x q).cycle
    pub last : (issue_at x q).cycle ≤ (spot_range e o x spot).last + 1

  -- an operation that waits for what it reads, whatever gives that
  abbrev WaitsForAll : Placed → Type 0
  WaitsForAll q = (d : Option Op) → 1 ≤ latency_gap e.table d (issue_at x q).instr

  held : (q : Placed) (j : ℕ) (operand : Operand) → Member q (all e o x) → (issue_at x q).active ≡ true → WaitsForAll q
      → slice_get q.op.operands j ≡ Some operand → Held q j operand
  held q j operand m act waits at = given (reading e o x h q j operand m act at).0 (reading e o x h q j operand m act at).2
    where
      given : (want : Want) → Reading e o x h q j operand want → Held q j operand
      given want r =
          let u = r.spot in
          let range = range_here e o x (numbered e o x h) u r.member in
          let ready = subst (λ (v : LiveRange). v.from + latency_gap e.table v.instr (issue_at x q).instr ≤ (issue_at x q).cycle) range r.ready in
          let fast = waits (spot_range e o x u).instr in
          record {
            spot = u;
            member = r.member;
            temp = r.is;
            block = r.block;
            value = r.value ∙ value_is operand;
            active = subst (λ (v : LiveRange). v.active ≡ true) range r.active;
            space = subst (λ (v : LiveRange). InSpace v.reg (space_read (issue_at x q).instr j)) range r.space;
            from = omega (arith, ready, fast);
            last = subst (λ (v : LiveRange). (issue_at x q).cycle ≤ v.last + 1) range r.last;
          }

  -- two operands with different values have different registers
  differ : (q : Placed) (i j : ℕ) (a b : Operand) (f : Held q i a) (g : Held q j b) → (value_read b ≡ value_read a → ⊥)
      → register_in x f.spot ≡ register_in x g.spot → ⊥
  differ q i j a b f g other same =
      let sch = h.schedule in
      let regs = sch.registers in
      let u = f.spot in
      let w = g.spot in
      let num = numbered e o x h in
      let ranges = the_ranges e o x in
      let r = spot_range e o x u in
      let t = spot_range e o x w in
      let c = (issue_at x q).cycle - 1 in
      let f1 = f.from in let f2 = f.last in let g1 = g.from in let g2 = g.last in
      let block : u.definer.block ≡ w.definer.block = f.block ∙ sym g.block in
      let at_u = range_get e o x num u f.member in
      let at_w = range_get e o x num w g.member in
      let is_u = index_get ranges u.temp.0 r r at_u in
      let is_w = index_get ranges w.temp.0 r t at_w in
      let long_u = length_get ranges u.temp.0 r at_u in
      let long_w = length_get ranges w.temp.0 t at_w in
      elim (two_ways u.temp.0 w.temp.0) [
        | inl one ↦ distinct (ap (λ (s : Spot). carried e.blocks s.temp) (one_spot e o x num u w f.member g.member one))
        | inr two ↦ elim two [
          | inl lt ↦ registers_differ r t c (subst (λ (y : LiveRange). ShareNoCycle r y) is_w (subst (λ (y : LiveRange). ShareNoCycle y
              (slice_index_or ranges w.temp.0 r)) is_u (regs.0 u.temp.0 w.temp.0 r lt long_w))) f.active g.active block (omega (arith, f1))
              (omega (arith, f2)) (omega (arith, g1)) (omega (arith, g2)) same
          | inr lt ↦ registers_differ t r c (subst (λ (y : LiveRange). ShareNoCycle t y) is_u (subst (λ (y : LiveRange). ShareNoCycle y
              (slice_index_or ranges u.temp.0 r)) is_w (regs.0 w.temp.0 u.temp.0 r lt long_u))) g.active f.active (sym block) (omega (arith, g1))
              (omega (arith, g2)) (omega (arith, f1)) (omega (arith, f2)) (sym same)
        ]
      ]
    where
      distinct : carried e.blocks f.spot.temp ≡ carried e.blocks g.spot.temp → ⊥
      distinct is = other (sym g.value ∙ sym is ∙ f.value)

  -- ---- which operations have two operands

  -- an operand that an operation of this kind has is one that is wanted
  wanted : (q : Placed) (k : ExtKind) (j : ℕ) (operand : Operand) → Member q (all e o x) → q.op.kind ≡ k → slice_get q.op.operands j ≡ Some operand
      → (want : Want) × (slice_get (wants_of e.table e.names e.blocks q.owner k q.op) j ≡ Some want)
  wanted q k j operand m f at =
      let g = placed_good e o x h q m in
      let keeps = g.keeps in
      let z = zip_get (IsGoodOperand e.names e.blocks g.before) q.op.operands (wants_of e.table e.names e.blocks q.owner k q.op) j operand
      (subst (λ (c : ExtKind). AllZip (IsGoodOperand e.names e.blocks g.before) q.op.operands
      (wants_of e.table e.names e.blocks q.owner c q.op)) f keeps.operands) at in
      (z.0, z.1)

  -- there is an alternative of each operand
  chooses : (q : Placed) (j : ℕ) (operand : Operand) → Member q (all e o x) → slice_get q.op.operands j ≡ Some operand → 0 < length operand.alts
  chooses q j operand m at =
      let g = placed_good e o x h q m in
      let keeps = g.keeps in
      let z = zip_get (IsGoodOperand e.names e.blocks g.before) q.op.operands (wants_of e.table e.names e.blocks q.owner q.op.kind q.op) j operand
      keeps.operands at in
      let fits = z.2 in
      fits.chooses

  -- a terminator has one operand at most
  one_operand : (q : Placed) (term : Term) (i j : ℕ) (a b : Operand) → Member q (all e o x) → q.op.kind ≡ End term
      → slice_get q.op.operands i ≡ Some a → slice_get q.op.operands j ≡ Some b → i ≡ j
  one_operand q term i j a b m f at bt = by term i j (wanted q (End term) i a m f at) (wanted q (End term) j b m f bt)
    where
      Wants : Term → ℕ → Type 0
      Wants t n = (want : Want) × (slice_get (wants_of e.table e.names e.blocks q.owner (End t) q.op) n ≡ Some want)

      by : (t : Term) (i j : ℕ) → Wants t i → Wants t j → i ≡ j
      by Fall i j u w = absurd (cc u.1)
      by (Jump to) i j u w = absurd (cc u.1)
      by (Branch pred sense to) zero zero u w = refl
      by (Branch pred sense to) zero (suc j) u w = absurd (cc w.1)
      by (Branch pred sense to) (suc i) j u w = absurd (cc u.1)
      by (Ret value) zero zero u w = refl
      by (Ret value) zero (suc j) u w = absurd (cc w.1)
      by (Ret value) (suc i) j u w = absurd (cc u.1)

  -- an operation with two operands waits for both
  waits : (q : Placed) (i j : ℕ) (a b : Operand) → Member q (all e o x) → is_mandatory q.op.kind ≡ true → slice_get q.op.operands i ≡ Some a
      → slice_get q.op.operands j ≡ Some b → (i ≡ j → ⊥) → WaitsForAll q
  waits q i j a b m mandatory at bt apart d = by q.op.kind refl mandatory
    where
      gap : Option Op → Type 0
      gap user = 1 ≤ latency_gap e.table d user

      by : (k : ExtKind) → q.op.kind ≡ k → is_mandatory k ≡ true → gap (issue_at x q).instr
      by In f t = let w = wanted q In i a m f at in absurd (cc w.1)
      by Out f t =
          let none : (issue_at x q).instr ≡ None = let v = vars_of q in ap (λ (c : ExtKind). instruction_of c (value_by x v.instr)) f in
          subst gap (sym none) (unread d)
        where
          unread : (d : Option Op) → 1 ≤ latency_gap e.table d None
          unread None = omega arith
          unread (Some op) = latency_some e.table h.fit (Some op)
      by (Body so) f t =
          let g = placed_good e o x h q m in
          let keeps = g.keeps in
          let source : IsSourceOp so = subst (λ (c : ExtKind). IsGoodKind c q.op) f keeps.kind in
          let v = vars_of q in
          let instr : (issue_at x q).instr ≡ Some so.op = ap (λ (c : ExtKind). instruction_of c (value_by x v.instr)) f in
          let whole = gap_source e.table d so.op source.op in
          let some = latency_some e.table h.fit d in
          subst gap (sym instr) (omega (arith, whole, some))
      by (End term) f t = absurd (apart (one_operand q term i j a b m f at bt))
      by (Copy node) f t = absurd (cc t)
      by Enter f t = absurd (cc t)
      by Leave f t = absurd (cc t)

  -- ---- the choice of an operand

  -- it is left, and is the place of what is chosen
  choice_left : (q : Placed) (k : ℕ) (b : Operand) → Member q (all e o x) → is_mandatory q.op.kind ≡ true → slice_get q.op.operands k ≡ Some b
      → (i : ℕ) × (has (choices_left s (operation_of q) k) i ≡ true) × (slice_get b.alts i ≡ Some (choice_of x (vars_of q) k b))
  choice_left q k b m mandatory at =
      let c = mandatory_chooses q.op.kind mandatory in
      let ops : chosen_operands q.op ≡ q.op.operands = ap (λ (t : Bool). if t then q.op.operands else []) c in
      let n = length_get q.op.operands k b at in
      let l : length (chosen_operands q.op) ≡ length q.op.operands = ap length ops in
      let first = q.first + choice_place q.op in
      let lt : k < length (chosen_operands q.op) = omega (arith, n, l) in
      let var : slice_get (let v = vars_of q in v.choices) k ≡ Some (var_at (first + k)) =
      slice_get-map var_at (range_with_len first (length (chosen_operands q.op))) k
      ∙ ap (option_map var_at) (get_range first (length (chosen_operands q.op)) k lt) in
      let i = slice_index x (first + k) in
      let d = choice_sits e o x (in_entry e o x q) q k b (placed_domains e o x h q m) (ap (λ xs. slice_get xs k) ops ∙ at) in
      let hi = d.1 in
      let pos = chooses q k b m at in
      let got = get_below b.alts i (omega (arith, hi, pos)) in
      let assoc : q.first + (choice_place q.op + k) ≡ first + k = omega arith in
      let left = subst (λ v. has (set_at s v) (slice_index x v) ≡ true) assoc
      (own e o x h s inside q m (choice_place q.op + k) (omega (arith, lt))) in
      let is : choice_of x (vars_of q) k b ≡ got.0 = ap (λ (w : Option VarId). chosen_temp b.alts (value_by x w)) var
      ∙ ap (λ (t : Option TempId). unwrap_or t (temp 0)) got.1 in (
        i,
        subst (λ (w : Option VarId). has (choices_by s w) i ≡ true) (sym var) left,
        got.1 ∙ ap (λ (t : TempId). Some t) (sym is),
      )

  -- ---- the rule

  pub alike : (q : Placed) (v y : ℕ) → Member q (all e o x) → IsAlike (model_of e o) s (operation_of q) v y → slice_index x v ≡ y → ⊥
  alike q v y m (mandatory, goes) is =
      let model = model_of e o in
      let p = operation_of q in
      let a = some_of (alternative p v y) (λ (a : Alternative). (k : ℕ) × IsAlikeAt model s p a k) goes in
      let sure = subst (λ (t : Bool). IsNeverZero s (var_if t q.first)) (sym (mandatory_fixed q.op.kind mandatory)) tt in
      let act = sure_active e o x h s inside q m sure in
      let c = chosen e o x h s inside q v y a.0 m act a.1 is in
      let k = a.2 in
      let b = some_of (slice_get q.op.operands k.0) _ k.1 in
      let one = a.0 in
      let first : Operand = one.operand in
      let other = (b.2).0 in
      let apart : one.at ≡ k.0 → ⊥ = λ same.
      let both : Some b.0 ≡ Some first = sym b.1 ∙ ap (slice_get q.op.operands) (sym same) ∙ c.operand in
      let operands : b.0 ≡ first = cc both in
      other (ap value_read operands) in
      let all_wait = waits q one.at k.0 first b.0 m mandatory c.operand b.1 apart in
      let f = held q one.at first m act all_wait c.operand in
      let g = held q k.0 b.0 m act all_wait b.1 in
      let choice = choice_left q k.0 b.0 m mandatory b.1 in
      let instr : (issue_at x q).instr ≡ own_instr q.op = let w = vars_of q in own_instruction q.op.kind (value_by x w.instr) mandatory in
      let of_first : has (regs model s one.temp) (register_in x f.spot) ≡ true =
      subst (λ (t : TempId). has (regs model s t) (register_in x f.spot) ≡ true) (f.temp ∙ c.read)
      (register_left e o x h s inside f.spot f.member) in
      let of_other : has (regs model s (choice_of x (vars_of q) k.0 b.0)) (register_in x g.spot) ≡ true =
      subst (λ (t : TempId). has (regs model s t) (register_in x g.spot) ≡ true) g.temp (register_left e o x h s inside g.spot g.member) in
      let fits : InSpace (register_in x f.spot) (space_read (own_instr q.op) one.at) =
      subst (λ (z : Option Op). InSpace (register_in x f.spot) (space_read z one.at)) instr f.space in
      let fits_other : InSpace (register_in x g.spot) (space_read (own_instr q.op) k.0) =
      subst (λ (z : Option Op). InSpace (register_in x g.spot) (space_read z k.0)) instr g.space in
      let same = (b.2).1 choice.0 choice.1 (choice_of x (vars_of q) k.0 b.0) choice.2 (register_in x f.spot) of_first fits
      (register_in x g.spot) of_other fits_other in
      differ q one.at k.0 first b.0 f g other same
