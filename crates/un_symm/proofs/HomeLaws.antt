-- Who is a home in a model, by the homes of the values that operations read and give.
use Rattle.std.proofs.Common.{ℕ, zero, suc, ◌≡◌, ◌+◌, ◌<◌, ◌↔◌, Bool, true, false, eqb, List, [], ◌∷◌, length, inl, inr, ⊎_elim}
use Rattle.std.proofs.Common.{refl, sym, ap, ◌∙◌, subst, arith}
use Rattle.std.specs.Prelude.{Some, ◌||◌, ◌&&◌, ◌==◌, slice_get}
use Rattle.std.specs.List.{range_with_len}
use Rattle.std.proofs.lemmas.Bool.{eq-eqb}
use Rattle.un_base.specs.declared.ids.NameId.{NameId}
use Rattle.un_base.specs.declared.ids.TempId.{TempId}
use Rattle.un_isa.specs.declared.table.Table.{Table}
use Rattle.un_ir.specs.Extended.{IsExtended, IsGoodOperand, IsGoodExtBlock, wants_of}
use Rattle.un_ir.specs.declared.extended.Operand.{Operand}
use Rattle.un_ir.specs.declared.extended.ExtOp.{ExtOp}
use Rattle.un_ir.specs.declared.extended.ExtBlock.{ExtBlock}
use Rattle.un_model.specs.declared.model.Model.{Model}
use Rattle.un_model.specs.Pairs.{any_from}
use Rattle.un_model.specs.Registers.{is_register, reads_value, result_home, is_operand_home, is_result_home, is_home}
use Rattle.un_lists.proofs.Lists.{Member, each_member, each_all, any_of, place_of, member_at, get_below, length_get}
use Rattle.un_model.proofs.PlacedSchedules.{get_range}
use Rattle.un_model.proofs.Readings.{zip_get}
use Rattle.un_symm.specs.Interchangeable.{reads_home, gives_home, is_home_at, is_home_in_block, is_home_in}
use Rattle.un_symm.proofs.Tests.{or_left, or_right, or_cases, any_at}

-- r is a home of a value of a block
pub record IsHomeOfValue (m : Model) (r : ℕ) : Type 0 where
  pub block : ℕ
  pub owner : ExtBlock
  pub at : slice_get m.ext.blocks block ≡ Some owner
  pub value : TempId
  pub is : is_home m.ext.table (block == 0) owner value r ≡ true

-- ---- tests

and_second : (k l : Bool) → (k && l) ≡ true → l ≡ true
and_second true l e = e
and_second false l e = absurd (cc e)

both : (k l : Bool) → k ≡ true → l ≡ true → (k && l) ≡ true
both k l e f = ap (λ k. k && l) e ∙ f

any_from_at : {X : Type 0} (p : ℕ → X → Bool) (i n k : ℕ) (xs : List X) (x : X) → n ≡ i + k → slice_get xs k ≡ Some x → p n x ≡ true
    → any_from p i xs ≡ true
any_from_at p i n k [] x q at e = absurd (cc at)
any_from_at p i n zero (y ∷ ys) x q at e =
    let same : y ≡ x = cc at in let here : i ≡ n = omega (arith, q) in
    or_left (p i y) (any_from p (i + 1) ys) (ap (p i) same ∙ ap (λ j. p j x) here ∙ e)
any_from_at p i n (suc k) (y ∷ ys) x q at e =
    or_right (p i y) (any_from p (i + 1) ys) (any_from_at p (i + 1) n k ys x (omega (arith, q)) at e)

any_from_of : {X : Type 0} (p : ℕ → X → Bool) (i : ℕ) (xs : List X) → any_from p i xs ≡ true
    → (n : ℕ) × (k : ℕ) × (x : X) × (n ≡ i + k) × (slice_get xs k ≡ Some x) × (p n x ≡ true)
any_from_of p i [] e = absurd (cc e)
any_from_of p i (y ∷ ys) e = ⊎_elim
    (λ (h : p i y ≡ true). (i, 0, y, omega arith, refl, h))
    (λ (h : any_from p (i + 1) ys ≡ true). let r = any_from_of p (i + 1) ys h in let q = r.3 in
    (r.0, suc r.1, r.2, omega (arith, q), r.4, r.5))
    (or_cases (p i y) (any_from p (i + 1) ys) e)

in_range : (a n k : ℕ) → Member k (range_with_len a n) → k < a + n
in_range a zero k m = elim m [ ]
in_range a (suc n) k (inl e) = omega (arith, e)
in_range a (suc n) k (inr m) = let r = in_range (a + 1) n k m in omega (arith, r)

-- ---- one operation

module _ (t : Table) (is_entry : Bool) (live_in : List NameId) (op : ExtOp) (r : ℕ) where
  operand_home : (x : TempId) → is_operand_home op x r ≡ true → reads_home op r ≡ true
  operand_home x e =
      let s = any_of (λ (o : Operand). reads_value o x && is_register o.home r) op.operands e in
      any_at (λ (o : Operand). is_register o.home r) op.operands s.0 s.1 (and_second (reads_value s.0 x) (is_register s.0.home r) s.2)

  home_operand : ((o : Operand) → Member o op.operands → 0 < length o.alts) → reads_home op r ≡ true
      → (x : TempId) × (is_operand_home op x r ≡ true)
  home_operand some e =
      let s = any_of (λ (o : Operand). is_register o.home r) op.operands e in
      let y = get_below s.0.alts 0 (some s.0 s.1) in (
        y.0,
        any_at (λ (o : Operand). reads_value o y.0 && is_register o.home r) op.operands s.0 s.1
            (both (reads_value s.0 y.0) (is_register s.0.home r)
            (any_at (λ (z : TempId). z.0 == y.0.0) s.0.alts y.0 (member_at s.0.alts 0 y.0 y.1) (eq-eqb y.0.0 y.0.0 refl)) s.2),
      )

  result_gives : (x : TempId) → is_result_home t is_entry live_in op x r ≡ true → gives_home t is_entry live_in op r ≡ true
  result_gives x e =
      let s = any_from_of (λ (j : ℕ) (y : TempId). y.0 == x.0 && is_register (result_home t is_entry live_in op.kind j) r) 0 op.results e in
      let n = length_get op.results s.1 s.2 s.4 in
      let at = get_range 0 (length op.results) s.1 n in
      let q = s.3 in let here : 0 + s.1 ≡ s.0 = omega (arith, q) in
      any_at (λ (j : ℕ). is_register (result_home t is_entry live_in op.kind j) r) (range_with_len 0 (length op.results)) s.0
      (subst (λ j. Member j (range_with_len 0 (length op.results))) here
      (member_at (range_with_len 0 (length op.results)) s.1 (0 + s.1) at))
      (and_second (eqb s.2.0 x.0) (is_register (result_home t is_entry live_in op.kind s.0) r) s.5)

  gives_result : gives_home t is_entry live_in op r ≡ true → (x : TempId) × (is_result_home t is_entry live_in op x r ≡ true)
  gives_result e =
      let s = any_of (λ (j : ℕ). is_register (result_home t is_entry live_in op.kind j) r) (range_with_len 0 (length op.results)) e in
      let lt = in_range 0 (length op.results) s.0 s.1 in
      let y = get_below op.results s.0 (omega (arith, lt)) in (
        y.0,
        any_from_at (λ (j : ℕ) (z : TempId). z.0 == y.0.0 && is_register (result_home t is_entry live_in op.kind j) r) 0 s.0 s.0 op.results
            y.0 (omega arith) y.1
            (both (eqb y.0.0 y.0.0) (is_register (result_home t is_entry live_in op.kind s.0) r) (eq-eqb y.0.0 y.0.0 refl) s.2),
      )

-- ---- a model

value_home : (m : Model) (r : ℕ) → IsHomeOfValue m r → is_home_in m r ≡ true
value_home m r h =
    let t = m.ext.table in
    let ie = h.block == 0 in
    let s = any_of (λ (op : ExtOp). is_operand_home op h.value r || is_result_home t ie h.owner.live_in op h.value r) h.owner.ops h.is in
    any_from_at (is_home_in_block t r) 0 h.block h.block m.ext.blocks h.owner (omega arith) h.at
    (any_at (is_home_at t ie h.owner.live_in r) h.owner.ops s.0 s.1
    (⊎_elim
    (λ (k : is_operand_home s.0 h.value r ≡ true). or_left (reads_home s.0 r) (gives_home t ie h.owner.live_in s.0 r)
    (operand_home t ie h.owner.live_in s.0 r h.value k))
    (λ (k : is_result_home t ie h.owner.live_in s.0 h.value r ≡ true). or_right (reads_home s.0 r)
    (gives_home t ie h.owner.live_in s.0 r) (result_gives t ie h.owner.live_in s.0 r h.value k))
    (or_cases (is_operand_home s.0 h.value r) (is_result_home t ie h.owner.live_in s.0 h.value r) s.2)))

home_value : (m : Model) → IsExtended m.ext → (r : ℕ) → is_home_in m r ≡ true → IsHomeOfValue m r
home_value m extended r e =
    let t = m.ext.table in
    let s = any_from_of (is_home_in_block t r) 0 m.ext.blocks e in
    let block = s.2 in
    let q = s.3 in let same : s.1 ≡ s.0 = omega (arith, q) in
    let at : slice_get m.ext.blocks s.0 ≡ Some block = ap (slice_get m.ext.blocks) (sym same) ∙ s.4 in
    let ie = s.0 == 0 in
    let o = any_of (is_home_at t ie block.live_in r) block.ops s.5 in
    let x = ⊎_elim
    (λ (k : reads_home o.0 r ≡ true).
    let y = home_operand t ie block.live_in o.0 r (some block (member_at m.ext.blocks s.1 block s.4) o.0 o.1) k in
    found t ie block.live_in o.0 y.0 (or_left (is_operand_home o.0 y.0 r) (is_result_home t ie block.live_in o.0 y.0 r) y.1))
    (λ (k : gives_home t ie block.live_in o.0 r ≡ true). let y = gives_result t ie block.live_in o.0 r k in
    found t ie block.live_in o.0 y.0 (or_right (is_operand_home o.0 y.0 r) (is_result_home t ie block.live_in o.0 y.0 r) y.1))
    (or_cases (reads_home o.0 r) (gives_home t ie block.live_in o.0 r) o.2) in
    record {
      block = s.0;
      owner = block;
      at = at;
      value = x.0;
      is = any_at (λ (op : ExtOp). is_operand_home op x.0 r || is_result_home t ie block.live_in op x.0 r) block.ops o.0 o.1 x.1;
    }
  where
    found : (t : Table) (ie : Bool) (live_in : List NameId) (op : ExtOp) (x : TempId)
        → (is_operand_home op x r || is_result_home t ie live_in op x r) ≡ true
        → (x : TempId) × ((is_operand_home op x r || is_result_home t ie live_in op x r) ≡ true)
    found t ie live_in op x e = (x, e)

    some : (block : ExtBlock) → Member block m.ext.blocks → (op : ExtOp) → Member op block.ops → (x : Operand) → Member x op.operands
        → 0 < length x.alts
    some block mb op mo x mx =
        let good = extended.good in
        let here = each_member (IsGoodExtBlock m.ext.table m.ext.names m.ext.blocks) m.ext.blocks block
        (each_all (IsGoodExtBlock m.ext.table m.ext.names m.ext.blocks) m.ext.blocks good.each) mb in
        let k = place_of block.ops op mo in
        let keeps = here.ops k.0 op k.2 in
        let j = place_of op.operands x mx in
        let z = zip_get (IsGoodOperand m.ext.names m.ext.blocks _) op.operands
        (wants_of m.ext.table m.ext.names m.ext.blocks block op.kind op) j.0 x keeps.operands j.2 in
        let ok = z.2 in ok.chooses

-- a register is a home in a model where a value of a block has it as its home
pub homes_are : (m : Model) → IsExtended m.ext → (r : ℕ) → (is_home_in m r ≡ true) ↔ IsHomeOfValue m r
homes_are m extended r = (home_value m extended r, value_home m r)
