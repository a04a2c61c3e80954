-- The operations of a generated function keep the rules of operations, and their names are among the nine.
use Rattle.std.proofs.Common.{◌≡◌, ℕ, zero, suc, pos, ◌*◌, ◌<◌, ◌-ℤ◌, List, [], ◌∷◌, Some, None, All, drop, refl, arith}
use Rattle.std.specs.Int.{int_rem_euclid}
use Rattle.std.specs.Option.{option_to_list}
use Rattle.std.proofs.lemmas.Int.{ints}
use Rattle.std.proofs.lemmas.List.Elements.{All-nil, All-cons}
use Rattle.un_base.specs.declared.ids.NameId.{NameId}
use Rattle.un_isa.specs.Operands.{InRange}
use Rattle.un_isa.specs.declared.op.Op.TheVariants.{CmpEq}
use Rattle.un_isa.specs.declared.facts.Range.TheVariants.{Signed16, Offset}
use Rattle.un_ir.specs.declared.function.SrcOp.{SrcOp}
use Rattle.un_ir.specs.WellFormed.{IsGoodOp}
use Rattle.un_gen.specs.Draws.{after, drawn}
use Rattle.un_gen.specs.Generated.{all_names, word, truth, op_by, op_of, op_after, ops_after, imm_of, entry_ops}
use Rattle.un_gen.proofs.DrawLaws.{drawn_below}
use Rattle.un_gen.proofs.GenNames.{word_kind}

-- one of the nine names
abbrev pub IsOne : NameId → Type 0
IsOne name = name.0 < 9

-- an operation that a function with these names may have
pub record IsFine (o : SrcOp) : Type 0 where
  pub good : IsGoodOp all_names o
  pub assigned : All IsOne (option_to_list o.dst)
  pub read : All IsOne o.srcs

one_known : (a : ℕ) → a < 9 → All IsOne (word a ∷ [])
one_known a ha = All-cons IsOne (word a) [] ha (All-nil IsOne)

two_known : (a b : ℕ) → a < 9 → b < 9 → All IsOne (word a ∷ word b ∷ [])
two_known a b ha hb = All-cons IsOne (word a) (word b ∷ []) ha (one_known b hb)

small_added : (c : ℕ) → c < 8 → InRange Signed16 (pos c -ℤ pos 4)
small_added c h = (omega (arith, ints), omega (arith, ints))

small_offset : (c : ℕ) → c < 8 → InRange Offset (pos (4 * c))
small_offset c h = (omega (arith, ints), omega (arith, ints), whole c h)
  where
    whole : (k : ℕ) → k < 8 → int_rem_euclid (pos (4 * k)) (pos 4) ≡ pos 0
    whole zero l = refl
    whole (suc zero) l = refl
    whole (suc (suc zero)) l = refl
    whole (suc (suc (suc zero))) l = refl
    whole (suc (suc (suc (suc zero)))) l = refl
    whole (suc (suc (suc (suc (suc zero))))) l = refl
    whole (suc (suc (suc (suc (suc (suc zero)))))) l = refl
    whole (suc (suc (suc (suc (suc (suc (suc zero))))))) l = refl
    whole (suc (suc (suc (suc (suc (suc (suc (suc n)))))))) l = absurd (omega arith)

-- an operation by its draws
fine_op : (k d a c : ℕ) → k < 8 → d < 8 → a < 8 → c < 8 → IsFine (op_of (op_by k) d a c)
fine_op zero d a c hk hd ha hc =
    let ka = word_kind a ha in let kc = word_kind c hc in record {
      good = record { op = refl; reads = cc; assigns = word_kind d hd; literal = refl; callee = refl };
      assigned = one_known d (omega arith);
      read = two_known a c (omega arith) (omega arith);
    }
fine_op (suc zero) d a c hk hd ha hc =
    let ka = word_kind a ha in let kc = word_kind c hc in record {
      good = record { op = refl; reads = cc; assigns = word_kind d hd; literal = refl; callee = refl };
      assigned = one_known d (omega arith);
      read = two_known a c (omega arith) (omega arith);
    }
fine_op (suc (suc zero)) d a c hk hd ha hc =
    let ka = word_kind a ha in let kc = word_kind c hc in record {
      good = record { op = refl; reads = cc; assigns = word_kind d hd; literal = refl; callee = refl };
      assigned = one_known d (omega arith);
      read = two_known a c (omega arith) (omega arith);
    }
fine_op (suc (suc (suc zero))) d a c hk hd ha hc =
    let ka = word_kind a ha in let kc = word_kind c hc in record {
      good = record { op = refl; reads = cc; assigns = word_kind d hd; literal = refl; callee = refl };
      assigned = one_known d (omega arith);
      read = two_known a c (omega arith) (omega arith);
    }
fine_op (suc (suc (suc (suc zero)))) d a c hk hd ha hc =
    let ka = word_kind a ha in let kc = word_kind c hc in record {
      good = record { op = refl; reads = cc; assigns = word_kind d hd; literal = refl; callee = refl };
      assigned = one_known d (omega arith);
      read = two_known a c (omega arith) (omega arith);
    }
fine_op (suc (suc (suc (suc (suc zero))))) d a c hk hd ha hc =
    let ka = word_kind a ha in record {
      good = record { op = refl; reads = cc; assigns = word_kind d hd; literal = small_added c hc; callee = refl };
      assigned = one_known d (omega arith);
      read = one_known a (omega arith);
    }
fine_op (suc (suc (suc (suc (suc (suc zero)))))) d a c hk hd ha hc =
    let ka = word_kind a ha in record {
      good = record { op = refl; reads = cc; assigns = word_kind d hd; literal = small_offset c hc; callee = refl };
      assigned = one_known d (omega arith);
      read = one_known a (omega arith);
    }
fine_op (suc (suc (suc (suc (suc (suc (suc zero))))))) d a c hk hd ha hc =
    let ka = word_kind a ha in let kc = word_kind c hc in record {
      good = record { op = refl; reads = cc; assigns = refl; literal = refl; callee = refl };
      assigned = one_known 8 (omega arith);
      read = two_known a c (omega arith) (omega arith);
    }
fine_op (suc (suc (suc (suc (suc (suc (suc (suc k)))))))) d a c hk hd ha hc = absurd (omega arith)

pub fine_ops : (count s : ℕ) → All IsFine (ops_after count s)
fine_ops zero s = All-nil IsFine
fine_ops (suc count) s =
    All-cons IsFine (op_after s) (ops_after count (after 4 s))
    (fine_op (drawn 0 8 s) (drawn 1 8 s) (drawn 2 8 s) (drawn 3 8 s) (drawn_below 0 8 s (omega arith)) (drawn_below 1 8 s (omega arith))
    (drawn_below 2 8 s (omega arith)) (drawn_below 3 8 s (omega arith))) (fine_ops count (after 4 s))

-- `%vN = imm #N`
fine_imm : (n : ℕ) → n < 8 → IsFine (imm_of n)
fine_imm n h = record {
  good = record { op = refl; reads = refl; assigns = word_kind n h; literal = (omega (arith, ints), omega (arith, ints)); callee = refl };
  assigned = one_known n (omega arith);
  read = All-nil IsOne;
}

fine_test : IsFine (record { op = CmpEq; dst = Some truth; srcs = word 0 ∷ word 1 ∷ []; imm = pos 0; callee = None })
fine_test = record {
  good = record { op = refl; reads = refl; assigns = refl; literal = refl; callee = refl };
  assigned = one_known 8 (omega arith);
  read = two_known 0 1 (omega arith) (omega arith);
}

-- all but the first of the first block's operations
abbrev tail_of : ℕ → List SrcOp
tail_of n = drop n entry_ops

pub fine_entry : All IsFine entry_ops
fine_entry =
    All-cons IsFine (imm_of 4) (tail_of 1) (fine_imm 4 (omega arith))
    (All-cons IsFine (imm_of 5) (tail_of 2) (fine_imm 5 (omega arith))
    (All-cons IsFine (imm_of 6) (tail_of 3) (fine_imm 6 (omega arith))
    (All-cons IsFine (imm_of 7) (tail_of 4) (fine_imm 7 (omega arith)) (All-cons IsFine _ [] fine_test (All-nil IsFine)))))
