-- The mandatory operations of the extended function are the operations of the linear one.
use Rattle.std.proofs.Common.{◌≡◌, ◌++◌, ◌||◌, Bool, true, false, cond, if◌then◌else◌, ℕ, List, [], ◌∷◌, map, length, All}
use Rattle.std.proofs.Common.{refl, sym, ap, ◌∙◌, append_assoc, append-nil}
use Rattle.std.proofs.lemmas.List.{map-append}
use Rattle.std.proofs.lemmas.List.Elements.{All-head, All-tail, filter-append}
use Rattle.un_base.specs.declared.ids.NameId.{NameId}
use Rattle.un_ir.specs.declared.function.Kind.{Kind}
use Rattle.un_ir.specs.declared.extended.ExtKind.{ExtKind}
use Rattle.un_ir.specs.declared.extended.ExtKind.TheVariants.{In, Out, Body, End, Copy, Enter, Leave}
use Rattle.un_ir.specs.declared.extended.ExtOp.{ExtOp}
use Rattle.un_ir.specs.declared.extended.ExtBlock.{ExtBlock}
use Rattle.un_ir.specs.declared.extended.Growth.{Growth}
use Rattle.un_ir.specs.declared.extended.Lssa.{Lssa}
use Rattle.un_ir.specs.declared.extended.Value.{Value}
use Rattle.un_ir.specs.Extended.{AllAre, is_copy, is_linear_kind, is_return, returns, IsPlainOp, IsLinear}
use Rattle.un_ir.specs.ExtendOf.{frame_op, with_op, with_leave, with_enter, with_results, with_values, with_operands, new_operands}
use Rattle.un_ir.specs.ExtendOf.{new_temps, sorts_of, with_extended, with_all_extended, grown_block, extended_blocks, extend_of}
use Rattle.un_ir.specs.Kinds.{is_mandatory}
use Rattle.un_extend.specs.Choices.{kinds_in, mandatory_in, KeepsOperations}
use Rattle.un_extend.proofs.ExtendShape.{Adds, operands_add, values_add}

-- the kinds of the mandatory operations
abbrev kept : List ExtOp → List ExtKind
kept ops = kinds_in (mandatory_in ops)

kept_append : (xs ys : List ExtOp) → kept (xs ++ ys) ≡ kept xs ++ kept ys
kept_append xs ys = ap kinds_in (filter-append (λ (op : ExtOp). is_mandatory op.kind) xs ys)
    ∙ map-append (λ (op : ExtOp). op.kind) (mandatory_in xs) (mandatory_in ys)

kept_push : (xs : List ExtOp) (op : ExtOp) (v : Bool) → is_mandatory op.kind ≡ v
    → kept (xs ++ op ∷ []) ≡ kept xs ++ (if v then op.kind ∷ [] else [])
kept_push xs op v h = kept_append xs (op ∷ []) ∙ ap (λ (w : Bool). kept xs ++ kinds_in (cond w (op ∷ []) [])) h ∙ by v
  where
    by : (w : Bool) → kept xs ++ kinds_in (cond w (op ∷ []) []) ≡ kept xs ++ (if w then op.kind ∷ [] else [])
    by true = refl
    by false = refl

copy_optional : (kind : ExtKind) → is_copy kind ≡ true → is_mandatory kind ≡ false
copy_optional (Copy node) h = refl
copy_optional In h = absurd (cc h)
copy_optional Out h = absurd (cc h)
copy_optional (Body o) h = absurd (cc h)
copy_optional (End term) h = absurd (cc h)
copy_optional Enter h = refl
copy_optional Leave h = refl

copies_kept : (xs : List ExtOp) → AllAre is_copy xs → kept xs ≡ []
copies_kept [] h = refl
copies_kept (x ∷ xs) h =
    ap (λ (v : Bool). kinds_in (cond v (x ∷ mandatory_in xs) (mandatory_in xs)))
    (copy_optional x.kind (All-head (λ (op : ExtOp). is_copy op.kind ≡ true) x xs h))
    ∙ copies_kept xs (All-tail (λ (op : ExtOp). is_copy op.kind ≡ true) x xs h)

adds_kept : (xs ys : List ExtOp) → Adds is_copy 0 0 xs ys → kept ys ≡ kept xs
adds_kept xs ys a = ap kept a.is ∙ kept_append xs a.more ∙ ap (λ (ks : List ExtKind). kept xs ++ ks) (copies_kept a.more a.all)
    ∙ append-nil (kept xs)

leave_kept : (kind : ExtKind) (g : Growth) → kept (let h = with_leave kind g in h.ops) ≡ kept g.ops
leave_kept (End term) g = by (is_return term)
  where
    by : (v : Bool) → kept (let h = if v then with_op g (frame_op Leave) else g in h.ops) ≡ kept g.ops
    by true = kept_push g.ops (frame_op Leave) false refl ∙ append-nil (kept g.ops)
    by false = refl
leave_kept _ g = refl

enter_kept : (v : Bool) (kind : ExtKind) (g : Growth) → kept (let h = with_enter v kind g in h.ops) ≡ kept g.ops
enter_kept true In g = kept_push g.ops (frame_op Enter) false refl ∙ append-nil (kept g.ops)
enter_kept true _ g = refl
enter_kept false _ g = refl

linear_mandatory : (kind : ExtKind) → is_linear_kind kind ≡ true → is_mandatory kind ≡ true
linear_mandatory In h = refl
linear_mandatory Out h = refl
linear_mandatory (Body o) h = refl
linear_mandatory (End term) h = refl
linear_mandatory (Copy node) h = absurd (cc h)
linear_mandatory Enter h = absurd (cc h)
linear_mandatory Leave h = absurd (cc h)

module _ (names : List Kind) (live_in : List NameId) (is_entry saved : Bool) where
  op_kept : (op : ExtOp) (g : Growth) → is_linear_kind op.kind ≡ true
      → kept (let h = with_extended names live_in is_entry saved op g in h.ops) ≡ kept g.ops ++ op.kind ∷ []
  op_kept op g plain =
      let before = with_leave op.kind g in
      let read = with_operands op.operands before in
      let count = length op.results in
      let made : ExtOp = record { kind = op.kind; operands = new_operands op.operands before; results = new_temps read count } in
      let here = with_results op.kind (new_operands op.operands before) count read in
      let sorts = sorts_of names live_in saved op.kind count in
      let valued = with_values read.next sorts here in
      enter_kept is_entry op.kind valued ∙ adds_kept here.ops valued.ops (values_add read.next sorts here)
      ∙ kept_push read.ops made true (linear_mandatory op.kind plain)
      ∙ ap (λ (ks : List ExtKind). ks ++ op.kind ∷ [])
      (adds_kept before.ops read.ops (operands_add op.operands before) ∙ leave_kept op.kind g)

  all_kept : (ops : List ExtOp) (g : Growth) → All IsPlainOp ops
      → kept (let h = with_all_extended names live_in is_entry saved ops g in h.ops) ≡ kept g.ops ++ kinds_in ops
  all_kept [] g plain = sym (append-nil (kept g.ops))
  all_kept (op ∷ ops) g plain =
      let p = All-head IsPlainOp op ops plain in
      all_kept ops (with_extended names live_in is_entry saved op g) (All-tail IsPlainOp op ops plain)
      ∙ ap (λ (ks : List ExtKind). ks ++ kinds_in ops) (op_kept op g p.kind) ∙ append_assoc (kept g.ops) (op.kind ∷ []) (kinds_in ops)

blocks_kept : (names : List Kind) (is_entry : Bool) (values : List Value) (next : ℕ) (blocks : List ExtBlock)
    → All (λ (block : ExtBlock). All IsPlainOp block.ops) blocks
    → map (λ (block : ExtBlock). kept block.ops) (extended_blocks names is_entry values next blocks)
    ≡ map (λ (block : ExtBlock). kinds_in block.ops) blocks
blocks_kept names is_entry values next [] plain = refl
blocks_kept names is_entry values next (block ∷ blocks) plain =
    let g = grown_block names is_entry values next block in
    let one = all_kept names block.live_in is_entry (is_entry || returns block) block.ops
    (record { ops = []; values = values; next = next })
    (All-head (λ (b : ExtBlock). All IsPlainOp b.ops) block blocks plain) in
    ap (λ (ks : List ExtKind). ks ∷ map (λ (b : ExtBlock). kept b.ops) (extended_blocks names false g.values g.next blocks)) one
    ∙ ap (λ (kss : List (List ExtKind)). kinds_in block.ops ∷ kss)
    (blocks_kept names false g.values g.next blocks (All-tail (λ (b : ExtBlock). All IsPlainOp b.ops) block blocks plain))

pub operations_kept : (l : Lssa) → IsLinear l → KeepsOperations l (extend_of l)
operations_kept l lin = blocks_kept l.names true [] 0 l.blocks lin.plain
