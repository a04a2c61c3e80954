-- The saved values of a block as loops find them.
use Rattle.std.proofs.Common.{ℕ, ◌≡◌, ◌+◌, ◌<◌, ◌≤◌, Bool, true, false, List, ◌∷◌, drop, length, sym, ap, ◌∙◌}
use Rattle.std.specs.Prelude.{Some, slice_get, ◌&&◌, ◌==◌, if◌then◌else◌}
use Rattle.un_base.specs.declared.ids.TempId.{TempId}
use Rattle.un_ir.specs.Linear.{first_of, is_out}
use Rattle.un_ir.specs.declared.extended.ExtOp.{ExtOp}
use Rattle.un_ir.specs.declared.extended.Operand.{Operand}
use Rattle.un_lists.proofs.Lists.{get_below}
use Rattle.un_model.proofs.Steps.{drop_at, drop_past}
use Rattle.un_saved.specs.Saved.{end_operands, reads_alone, read_alone, reads_own}

-- ---- what a block's end reads

end_first : (ops : List ExtOp) (k : ℕ) (op : ExtOp) (t : Bool) → slice_get ops k ≡ Some op → t ≡ is_out op.kind
    → end_operands (drop k ops) ≡ (if t then op.operands else end_operands (drop (k + 1) ops))
end_first ops k op t at h =
    ap end_operands (drop_at ops k op at)
    ∙ ap (λ (b : Bool). if b then op.operands else end_operands (drop (k + 1) ops)) (sym h)

pub end_found : (ops : List ExtOp) (k : ℕ) (op : ExtOp) (t : Bool) → slice_get ops k ≡ Some op → t ≡ is_out op.kind → t ≡ true
    → end_operands (drop k ops) ≡ end_operands ops → op.operands ≡ end_operands ops
end_found ops k op t at h e so =
    ap (λ (b : Bool). if b then op.operands else end_operands (drop (k + 1) ops)) (sym e) ∙ sym (end_first ops k op t at h) ∙ so

pub end_on : (ops : List ExtOp) (k : ℕ) (op : ExtOp) (t : Bool) → slice_get ops k ≡ Some op → t ≡ is_out op.kind → t ≡ false
    → end_operands (drop k ops) ≡ end_operands ops → end_operands (drop (k + 1) ops) ≡ end_operands ops
end_on ops k op t at h e so =
    ap (λ (b : Bool). if b then op.operands else end_operands (drop (k + 1) ops)) (sym e) ∙ sym (end_first ops k op t at h) ∙ so

-- ---- what is read alone

alone_first : (ts : List TempId) (xs : List Operand) (i : ℕ) (t : TempId) (x : Operand) → slice_get ts i ≡ Some t → slice_get xs i ≡ Some x
    → read_alone (drop i ts) (drop i xs) ≡ (reads_alone t x && read_alone (drop (i + 1) ts) (drop (i + 1) xs))
alone_first ts xs i t x at here =
    ap (λ us. read_alone us (drop i xs)) (drop_at ts i t at)
    ∙ ap (λ ys. read_alone (t ∷ drop (i + 1) ts) ys) (drop_at xs i x here)

pub not_alone : (ts : List TempId) (xs : List Operand) (i : ℕ) (t : TempId) (x : Operand) (whole : Bool) → slice_get ts i ≡ Some t
    → slice_get xs i ≡ Some x → reads_alone t x ≡ false → read_alone (drop i ts) (drop i xs) ≡ whole → false ≡ whole
not_alone ts xs i t x whole at here other h =
    ap (λ (b : Bool). b && read_alone (drop (i + 1) ts) (drop (i + 1) xs)) (sym other) ∙ sym (alone_first ts xs i t x at here) ∙ h

-- where an operand is missing
pub none_alone : (ts : List TempId) (xs : List Operand) (i : ℕ) (whole : Bool) → i < length ts → length xs ≤ i
    → read_alone (drop i ts) (drop i xs) ≡ whole → false ≡ whole
none_alone ts xs i whole lt le h =
    let t = get_below ts i lt in
    sym (ap (λ us. read_alone us (drop i xs)) (drop_at ts i t.0 t.1)
    ∙ ap (λ ys. read_alone (t.0 ∷ drop (i + 1) ts) ys) (drop_past i xs le)) ∙ h

-- ---- what is read, by itself or by a copy

own_first : (ts : List TempId) (xs : List Operand) (i : ℕ) (t : TempId) (x : Operand) → slice_get ts i ≡ Some t → slice_get xs i ≡ Some x
    → reads_own (drop i ts) (drop i xs) ≡ ((first_of x.alts == t.0) && reads_own (drop (i + 1) ts) (drop (i + 1) xs))
own_first ts xs i t x at here =
    ap (λ us. reads_own us (drop i xs)) (drop_at ts i t at)
    ∙ ap (λ ys. reads_own (t ∷ drop (i + 1) ts) ys) (drop_at xs i x here)

pub not_own : (ts : List TempId) (xs : List Operand) (i : ℕ) (t : TempId) (x : Operand) (whole : Bool) → slice_get ts i ≡ Some t
    → slice_get xs i ≡ Some x → (first_of x.alts == t.0) ≡ false → reads_own (drop i ts) (drop i xs) ≡ whole → false ≡ whole
not_own ts xs i t x whole at here other h =
    ap (λ (b : Bool). b && reads_own (drop (i + 1) ts) (drop (i + 1) xs)) (sym other) ∙ sym (own_first ts xs i t x at here) ∙ h

-- where an operand is missing
pub none_own : (ts : List TempId) (xs : List Operand) (i : ℕ) (whole : Bool) → i < length ts → length xs ≤ i
    → reads_own (drop i ts) (drop i xs) ≡ whole → false ≡ whole
none_own ts xs i whole lt le h =
    let t = get_below ts i lt in
    sym (ap (λ us. reads_own us (drop i xs)) (drop_at ts i t.0 t.1)
    ∙ ap (λ ys. reads_own (t.0 ∷ drop (i + 1) ts) ys) (drop_past i xs le)) ∙ h
