-- The value that a temporary carries, and its kind, read off its definer.
use Rattle.std.proofs.Common.{ℕ, zero, suc, ◌≡◌, ◌+◌, List, [], ◌∷◌, ◌++◌, length, map, refl, sym, ap, ◌∙◌, arith, append_assoc}
use Rattle.std.specs.Prelude.{Option, Some, slice_get, unwrap_or}
use Rattle.std.specs.List.{flat_map, range_with_len}
use Rattle.std.specs.Option.{option_map}
use Rattle.std.proofs.lemmas.List.{length-append}
use Rattle.un_base.specs.declared.ids.VarId.{VarId}
use Rattle.un_base.specs.declared.ids.TempId.{TempId}
use Rattle.un_ir.specs.declared.function.Kind.{Kind}
use Rattle.un_ir.specs.declared.function.Kind.TheVariants.{General}
use Rattle.un_ir.specs.declared.extended.ExtKind.{ExtKind}
use Rattle.un_ir.specs.declared.extended.ExtKind.TheVariants.{Copy}
use Rattle.un_ir.specs.declared.extended.ExtOp.{ExtOp}
use Rattle.un_ir.specs.declared.extended.ExtBlock.{ExtBlock}
use Rattle.un_ir.specs.declared.extended.Ext.{Ext}
use Rattle.un_ir.specs.Extended.{all_results, temp, carried, carried_by, all_carried, first_read, defined_kinds, all_kinds, kind_of_temp}
use Rattle.un_model.specs.declared.model.Options.{Options}
use Rattle.un_model.specs.Pairs.{places_from}
use Rattle.un_model.specs.Variables.{var_at, var_count, ops_count, block_count}
use Rattle.un_lists.proofs.Lists.{Each, Member, each_append, map-append, slice_get-map}
use Rattle.un_model.proofs.Placed.{Placed, placed, block_placed, blocks_placed, Spot, spot, spots_of, all_spots, joined_map-append}
use Rattle.un_model.proofs.PlacedSchedules.{spots, spot_here}

-- ---- the values that are carried

abbrev pub carried_at : ExtKind → Spot → TempId
carried_at (Copy node) s = first_read s.definer.op.operands
carried_at _ s = s.temp

abbrev pub spot_carried : Spot → TempId
spot_carried s = carried_at s.definer.op.kind s

carried_op : (kind : ExtKind) (p : Placed) (i : ℕ) (xs : List TempId)
    → map (carried_at kind) (places_from (spot p) i xs) ≡ carried_by kind (record { kind = kind; operands = p.op.operands; results = xs })
carried_op kind p i [] = none kind
  where
    none : (k : ExtKind) → [] ≡ carried_by k (record { kind = k; operands = p.op.operands; results = [] })
    none (Copy node) = refl
    none _ = refl
carried_op kind p i (x ∷ xs) = more kind (carried_op kind p (i + 1) xs)
  where
    more : (k : ExtKind) → map (carried_at k) (places_from (spot p) (i + 1) xs) ≡ carried_by k
        (record { kind = k; operands = p.op.operands; results = xs })
        → carried_at k (spot p i x) ∷ map (carried_at k) (places_from (spot p) (i + 1) xs) ≡ carried_by k
        (record { kind = k; operands = p.op.operands; results = x ∷ xs })
    more (Copy node) h = ap (λ ys. first_read p.op.operands ∷ ys) h
    more _ h = ap (λ ys. x ∷ ys) h

placed_carried : (b : ℕ) (owner : ExtBlock) (close : VarId) (n first : ℕ) (ops : List ExtOp)
    → map spot_carried (all_spots (placed b owner close n first ops)) ≡ flat_map (λ (op : ExtOp). carried_by op.kind op) ops
placed_carried b owner close n first [] = refl
placed_carried b owner close n first (op ∷ ops) =
    let p : Placed = record { block = b; owner = owner; close = close; number = n; first = first; op = op } in
    let rest = placed b owner close (n + 1) (first + var_count op) ops in
    map-append spot_carried (spots_of p) (all_spots rest)
    ∙ ap (λ xs. xs ++ map spot_carried (all_spots rest)) (own op.kind 0 op.results ∙ carried_op op.kind p 0 op.results)
    ∙ ap (λ xs. carried_by op.kind op ++ xs) (placed_carried b owner close (n + 1) (first + var_count op) ops)
  where
    own : (kind : ExtKind) (i : ℕ) (xs : List TempId) → let p : Placed =
        record { block = b; owner = owner; close = close; number = n; first = first; op = op } in
        map spot_carried (places_from (spot p) i xs) ≡ map (carried_at op.kind) (places_from (spot p) i xs)
    own kind i [] = refl
    own kind i (x ∷ xs) = let p : Placed = record { block = b; owner = owner; close = close; number = n; first = first; op = op } in
        ap (λ ys. carried_at op.kind (spot p i x) ∷ ys) (own kind (i + 1) xs)

pub carried_are : (b n first : ℕ) (blocks : List ExtBlock) → map spot_carried (all_spots (blocks_placed b n first blocks)) ≡ all_carried
    blocks
carried_are b n first [] = refl
carried_are b n first (block ∷ blocks) =
    let here = block_placed b n first block in
    let rest = blocks_placed (b + 1) (n + length block.ops) (first + block_count block) blocks in
    ap (map spot_carried) (joined_map-append spots_of here rest)
    ∙ map-append spot_carried (all_spots here) (all_spots rest)
    ∙ ap (λ xs. xs ++ map spot_carried (all_spots rest)) (placed_carried b block (var_at (first + ops_count block.ops)) n first block.ops)
    ∙ ap (λ xs. flat_map (λ (op : ExtOp). carried_by op.kind op) block.ops ++ xs)
    (carried_are (b + 1) (n + length block.ops) (first + block_count block) blocks)

-- ---- kinds

-- the item at a place, or General
abbrev pub kind_or : List Kind → ℕ → Kind
kind_or ks k = unwrap_or (slice_get ks k) General

abbrev pub kinds_at : List Kind → Placed → List Kind
kinds_at names p = defined_kinds names p.owner p.op.kind p.op

abbrev pub spot_kind : List Kind → Spot → Kind
spot_kind names s = kind_or (kinds_at names s.definer) s.place

read_off : (names : List Kind) (p : Placed) (ks : List Kind) (before : List Kind) (xs : List TempId) (i : ℕ)
    → kinds_at names p ≡ before ++ ks → length before ≡ i → length ks ≡ length xs → map (spot_kind names) (places_from (spot p) i xs) ≡ ks
read_off names p [] before [] i e l n = refl
read_off names p [] before (x ∷ xs) i e l n = absurd (omega arith)
read_off names p (k ∷ ks) before [] i e l n = absurd (omega arith)
read_off names p (k ∷ ks) before (x ∷ xs) i e l n =
    ap (λ (y : Kind). y ∷ map (spot_kind names) (places_from (spot p) (i + 1) xs))
    (ap (λ (zs : List Kind). kind_or zs i) e ∙ middle before i l)
    ∙ ap (λ ys. k ∷ ys) (read_off names p ks (before ++ k ∷ []) xs (i + 1) (e ∙ sym (append_assoc before (k ∷ []) ks))
    (length-append before (k ∷ []) ∙ ap (λ m. m + 1) l) (omega arith))
  where
    middle : (bs : List Kind) (i : ℕ) → length bs ≡ i → kind_or (bs ++ k ∷ ks) i ≡ k
    middle [] zero e = refl
    middle [] (suc i) e = absurd (omega arith)
    middle (b ∷ bs) zero e = absurd (omega arith)
    middle (b ∷ bs) (suc i) e = middle bs i (omega arith)

-- an operation's results have as many kinds as there are
abbrev pub FitKinds : List Kind → Placed → Type 0
FitKinds names p = length (kinds_at names p) ≡ length p.op.results

placed_kinds : (names : List Kind) (b : ℕ) (owner : ExtBlock) (close : VarId) (n first : ℕ) (ops : List ExtOp)
    → Each (FitKinds names) (placed b owner close n first ops)
    → map (spot_kind names) (all_spots (placed b owner close n first ops)) ≡ flat_map (λ (op : ExtOp). defined_kinds names owner op.kind op)
    ops
placed_kinds names b owner close n first [] h = refl
placed_kinds names b owner close n first (op ∷ ops) h =
    let p : Placed = record { block = b; owner = owner; close = close; number = n; first = first; op = op } in
    let rest = placed b owner close (n + 1) (first + var_count op) ops in
    map-append (spot_kind names) (spots_of p) (all_spots rest)
    ∙ ap (λ xs. xs ++ map (spot_kind names) (all_spots rest)) (read_off names p (kinds_at names p) [] op.results 0 refl refl h.0)
    ∙ ap (λ xs. defined_kinds names owner op.kind op ++ xs) (placed_kinds names b owner close (n + 1) (first + var_count op) ops h.1)

pub kinds_are : (names : List Kind) (b n first : ℕ) (blocks : List ExtBlock) → Each (FitKinds names) (blocks_placed b n first blocks)
    → map (spot_kind names) (all_spots (blocks_placed b n first blocks)) ≡ all_kinds names blocks
kinds_are names b n first [] h = refl
kinds_are names b n first (block ∷ blocks) h =
    let here = block_placed b n first block in
    let rest = blocks_placed (b + 1) (n + length block.ops) (first + block_count block) blocks in
    let parts = each_append (FitKinds names) here rest h in
    ap (map (spot_kind names)) (joined_map-append spots_of here rest)
    ∙ map-append (spot_kind names) (all_spots here) (all_spots rest)
    ∙ ap (λ xs. xs ++ map (spot_kind names) (all_spots rest)) (placed_kinds names b block (var_at (first + ops_count block.ops)) n first
    block.ops parts.0)
    ∙ ap (λ xs. flat_map (λ (op : ExtOp). defined_kinds names block op.kind op) block.ops ++ xs)
    (kinds_are names (b + 1) (n + length block.ops) (first + block_count block) blocks parts.1)

-- ---- by temporaries

module _ (e : Ext) (o : Options) (values : List ℕ) (numbered : all_results e.blocks ≡ map temp
    (range_with_len 0 (length (all_results e.blocks)))) (fit : Each (FitKinds e.names) (blocks_placed 0 0 0 e.blocks)) where
  -- what a result carries
  pub carried_is : (s : Spot) → Member s (spots e o values) → carried e.blocks s.temp ≡ spot_carried s
  carried_is s m = ap (λ (x : Option TempId). unwrap_or x s.temp) (
      ap (λ xs. slice_get xs s.temp.0) (sym (carried_are 0 0 0 e.blocks)) ∙ slice_get-map spot_carried (spots e o values) s.temp.0
      ∙ ap (option_map spot_carried) (spot_here e o values numbered s m))

  -- the kind of a result that no copy gives
  pub kind_listed : (s : Spot) → Member s (spots e o values) → slice_get (all_kinds e.names e.blocks) s.temp.0 ≡ Some (spot_kind e.names s)
  kind_listed s m =
      ap (λ xs. slice_get xs s.temp.0) (sym (kinds_are e.names 0 0 0 e.blocks fit))
      ∙ slice_get-map (spot_kind e.names) (spots e o values) s.temp.0
      ∙ ap (option_map (spot_kind e.names)) (spot_here e o values numbered s m)

  -- the kind of the temporary with a number
  abbrev pub kind_at : ℕ → Kind
  kind_at k = unwrap_or (kind_of_temp e.names e.blocks (temp k)) General

  -- the kind of what is not a copy's
  pub own_kind : (s : Spot) → Member s (spots e o values) → spot_carried s ≡ s.temp → kind_at s.temp.0 ≡ spot_kind e.names s
  own_kind s m c =
      ap (λ (x : TempId). unwrap_or (slice_get (all_kinds e.names e.blocks) x.0) General) (carried_is s m ∙ c)
      ∙ ap (λ (x : Option Kind). unwrap_or x General) (kind_listed s m)

  -- two temporaries that carry one value have one kind
  pub same_kind : (x y : TempId) → carried e.blocks x ≡ carried e.blocks y → kind_at x.0 ≡ kind_at y.0
  same_kind x y c = ap (λ (v : TempId). unwrap_or (slice_get (all_kinds e.names e.blocks) v.0) General) c
