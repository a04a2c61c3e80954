-- The values of an operation's variables are in their domains.
use Rattle.std.proofs.Common.{ℕ, zero, suc, ◌≡◌, ◌≤◌, ◌+◌, Bool, true, false, List, [], ◌∷◌, ◌++◌, length, map, refl, ap, ◌∙◌, subst, arith}
use Rattle.std.specs.Prelude.{Option, Some, slice_get, slice_index, nat_eq}
use Rattle.std.specs.List.{AllZip}
use Rattle.std.specs.Option.{option_to_list}
use Rattle.std.proofs.lemmas.List.{length-append}
use Rattle.un_base.specs.declared.ids.VarId.{VarId}
use Rattle.un_base.specs.declared.ids.TempId.{TempId}
use Rattle.un_ir.specs.declared.extended.ExtKind.{ExtKind}
use Rattle.un_ir.specs.declared.extended.ExtKind.TheVariants.{In, Out, Body, End, Copy, Enter, Leave}
use Rattle.un_ir.specs.declared.extended.Operand.{Operand}
use Rattle.un_ir.specs.declared.extended.ExtOp.{ExtOp}
use Rattle.un_ir.specs.declared.extended.ExtBlock.{ExtBlock}
use Rattle.un_ir.specs.declared.extended.Ext.{Ext}
use Rattle.un_domains.specs.declared.domain.Domain.{Domain}
use Rattle.un_domains.specs.declared.domain.Domain.TheVariants.{Range}
use Rattle.un_model.specs.declared.model.Options.{Options}
use Rattle.un_model.specs.Cost.{value_of}
use Rattle.un_model.specs.Pairs.{places_from}
use Rattle.un_model.specs.Solutions.{InDomain, KeepsDomains}
use Rattle.un_ir.specs.Kinds.{is_optional}
use Rattle.un_model.specs.Variables.{var_count, var_at, ops_count, block_count, count_if, has_cycle, chosen_operands}
use Rattle.un_model.specs.Variables.{register_place, choice_place, instr_domain, cycle_domain, choice_domain, carries_truth, result_domain}
use Rattle.un_model.specs.Variables.{op_domains, ops_domains, block_domains, blocks_domains, own_horizon, domains_of, blocks_count}
use Rattle.un_lists.proofs.Lists.{Each, each_join}
use Rattle.un_model.proofs.Placed.{Placed, placed, block_placed, blocks_placed, end_of}

-- the values from place k on are in these domains
abbrev pub Sits : List ℕ → List Domain → ℕ → Type 0
Sits values ds k = (i : ℕ) (d : Domain) → slice_get ds i ≡ Some d → InDomain (slice_index values (k + i)) d

zip_sits : (values : List ℕ) (ds : List Domain) (i : ℕ) (d : Domain) → AllZip InDomain values ds → slice_get ds i ≡ Some d
    → InDomain (slice_index values i) d
zip_sits [] [] i d h e = absurd (cc e)
zip_sits [] (c ∷ cs) i d h e = absurd h
zip_sits (v ∷ vs) [] i d h e = absurd h
zip_sits (v ∷ vs) (c ∷ cs) zero d h e = let k : c ≡ d = cc e in subst (InDomain v) k h.0
zip_sits (v ∷ vs) (c ∷ cs) (suc i) d h e = zip_sits vs cs i d h.1 e

pub keeps_sits : (values : List ℕ) (ds : List Domain) → KeepsDomains ds values → Sits values ds 0
keeps_sits values ds h i d e = subst (λ k. InDomain (slice_index values k) d) (omega arith) (zip_sits values ds i d h e)

pub get_left : {X : Type 0} (xs ys : List X) (i : ℕ) (x : X) → slice_get xs i ≡ Some x → slice_get (xs ++ ys) i ≡ Some x
get_left [] ys i x e = absurd (cc e)
get_left (z ∷ zs) ys zero x e = e
get_left (z ∷ zs) ys (suc i) x e = get_left zs ys i x e

pub get_right : {X : Type 0} (xs ys : List X) (i k : ℕ) → k ≡ length xs + i → slice_get (xs ++ ys) k ≡ slice_get ys i
get_right [] ys i k e = ap (slice_get ys) (omega arith)
get_right (z ∷ zs) ys i zero e = absurd (omega arith)
get_right (z ∷ zs) ys i (suc k) e = get_right zs ys i k (omega arith)

pub sits_left : (values : List ℕ) (xs ys : List Domain) (k : ℕ) → Sits values (xs ++ ys) k → Sits values xs k
sits_left values xs ys k h i d e = h i d (get_left xs ys i d e)

pub sits_right : (values : List ℕ) (xs ys : List Domain) (k m : ℕ) → m ≡ k + length xs → Sits values (xs ++ ys) k → Sits values ys m
sits_right values xs ys k m e h i d g = subst (λ n. InDomain (slice_index values n) d) (omega arith)
    (h (length xs + i) d (get_right xs ys i (length xs + i) refl ∙ g))

length-places : {A B : Type 0} (f : ℕ → A → B) (i : ℕ) (xs : List A) → length (places_from f i xs) ≡ length xs
length-places f i [] = refl
length-places f i (x ∷ xs) = ap suc (length-places f (i + 1) xs)

length-map_list : {A B : Type 0} (f : A → B) (xs : List A) → length (map f xs) ≡ length xs
length-map_list f [] = refl
length-map_list f (x ∷ xs) = ap suc (length-map_list f xs)

length-instr : (truth : Bool) (k : ExtKind) → length (option_to_list (instr_domain truth k)) ≡ count_if (is_optional k)
length-instr truth In = refl
length-instr truth Out = refl
length-instr truth (Body o) = refl
length-instr truth (End term) = refl
length-instr truth (Copy node) = refl
length-instr truth Enter = refl
length-instr truth Leave = refl

length-cycle : (horizon : ℕ) (k : ExtKind) → length (option_to_list (cycle_domain horizon k)) ≡ count_if (has_cycle k)
length-cycle horizon In = refl
length-cycle horizon Out = refl
length-cycle horizon (Body o) = refl
length-cycle horizon (End term) = refl
length-cycle horizon (Copy node) = refl
length-cycle horizon Enter = refl
length-cycle horizon Leave = refl

module _ (e : Ext) (o : Options) (values : List ℕ) where
  abbrev instrs_d : Bool → ExtBlock → ExtOp → List Domain
  instrs_d ie block op = option_to_list (instr_domain (carries_truth e block op op.results) op.kind)

  abbrev regs_d : Bool → ExtBlock → ExtOp → List Domain
  regs_d ie block op = places_from (result_domain e o ie block op) 0 op.results

  length-op_domains : (ie : Bool) (block : ExtBlock) (h : ℕ) (op : ExtOp) → length (op_domains e o ie block h op) ≡ var_count op
  length-op_domains ie block h op =
      let a = instrs_d ie block op in
      let b = option_to_list (cycle_domain h op.kind) in
      let c = map choice_domain (chosen_operands op) in
      let d = regs_d ie block op in
      let la = length-instr (carries_truth e block op op.results) op.kind in
      let lb = length-cycle h op.kind in
      let lc = length-map_list choice_domain (chosen_operands op) in
      let ld = length-places (result_domain e o ie block op) 0 op.results in
      let e1 = length-append (a ++ b ++ c) d in
      let e2 = length-append (a ++ b) c in
      let e3 = length-append a b in
      omega arith

  -- what the domains say of an operation's variables
  pub record InDomains (ie : Bool) (p : Placed) : Type 0 where
    pub all : Sits values (op_domains e o ie p.owner (own_horizon p.owner) p.op) p.first
    pub close : 1 ≤ end_of values p

  -- the domain of its instruction
  pub instr_sits : (ie : Bool) (p : Placed) (d : Domain) → InDomains ie p
      → instr_domain (carries_truth e p.owner p.op p.op.results) p.op.kind ≡ Some d → InDomain (slice_index values p.first) d
  instr_sits ie p d h q =
      let first : slice_get (option_to_list (instr_domain (carries_truth e p.owner p.op p.op.results) p.op.kind)) 0 ≡ Some d =
      ap (λ (x : Option Domain). slice_get (option_to_list x) 0) q in
      subst (λ k. InDomain (slice_index values k) d) (omega arith)
      (let a = instrs_d ie p.owner p.op in
      let b = option_to_list (cycle_domain (own_horizon p.owner) p.op.kind) in
      let c = map choice_domain (chosen_operands p.op) in
      sits_left values a b p.first (sits_left values (a ++ b) c p.first
      (sits_left values (a ++ b ++ c) (regs_d ie p.owner p.op) p.first h.all)) 0 d first)

  pub get_places : {A B : Type 0} (f : ℕ → A → B) (xs : List A) (i k n : ℕ) (x : A) → n ≡ i + k → slice_get xs k ≡ Some x
      → slice_get (places_from f i xs) k ≡ Some (f n x)
  get_places f [] i k n x m q = absurd (cc q)
  get_places f (y ∷ ys) i zero n x m q = let same : y ≡ x = cc q in let place : i ≡ n = omega arith in ap (λ z. Some (f i z)) same
      ∙ ap (λ j. Some (f j x)) place
  get_places f (y ∷ ys) i (suc k) n x m q = get_places f ys (i + 1) k n x (omega arith) q

  -- the domain of the register of its result at place k
  pub register_sits : (ie : Bool) (p : Placed) (k : ℕ) (x : TempId) → InDomains ie p → slice_get p.op.results k ≡ Some x
      → InDomain (slice_index values (p.first + register_place p.op + k)) (result_domain e o ie p.owner p.op k x)
  register_sits ie p k x h q =
      let a = instrs_d ie p.owner p.op in
      let b = option_to_list (cycle_domain (own_horizon p.owner) p.op.kind) in
      let c = map choice_domain (chosen_operands p.op) in
      let d = regs_d ie p.owner p.op in
      let la = length-instr (carries_truth e p.owner p.op p.op.results) p.op.kind in
      let lb = length-cycle (own_horizon p.owner) p.op.kind in
      let lc = length-map_list choice_domain (chosen_operands p.op) in
      let e2 = length-append (a ++ b) c in
      let e3 = length-append a b in
      let s3 = sits_right values (a ++ b ++ c) d p.first (p.first + register_place p.op) (omega arith) h.all in
      s3 k (result_domain e o ie p.owner p.op k x) (get_places (result_domain e o ie p.owner p.op) p.op.results 0 k k x (omega arith) q)

  get_map : {A B : Type 0} (f : A → B) (xs : List A) (k : ℕ) (x : A) → slice_get xs k ≡ Some x → slice_get (map f xs) k ≡ Some (f x)
  get_map f [] k x q = absurd (cc q)
  get_map f (y ∷ ys) zero x q = let same : y ≡ x = cc q in ap (λ z. Some (f z)) same
  get_map f (y ∷ ys) (suc k) x q = get_map f ys k x q

  -- the domain of its choice at place j
  pub choice_sits : (ie : Bool) (p : Placed) (j : ℕ) (x : Operand) → InDomains ie p → slice_get (chosen_operands p.op) j ≡ Some x
      → InDomain (slice_index values (p.first + choice_place p.op + j)) (choice_domain x)
  choice_sits ie p j x h q =
      let a = instrs_d ie p.owner p.op in
      let b = option_to_list (cycle_domain (own_horizon p.owner) p.op.kind) in
      let c = map choice_domain (chosen_operands p.op) in
      let la = length-instr (carries_truth e p.owner p.op p.op.results) p.op.kind in
      let lb = length-cycle (own_horizon p.owner) p.op.kind in
      let e3 = length-append a b in
      sits_right values (a ++ b) c p.first (p.first + choice_place p.op) (omega arith)
      (sits_left values (a ++ b ++ c) (regs_d ie p.owner p.op) p.first h.all) j (choice_domain x)
      (get_map choice_domain (chosen_operands p.op) j x q)

  placed_sit : (ie : Bool) (b : ℕ) (owner : ExtBlock) (close : VarId) (n first : ℕ) (ops : List ExtOp)
      → Sits values (ops_domains e o ie owner (own_horizon owner) ops) first → 1 ≤ value_of values close
      → Each (InDomains ie) (placed b owner close n first ops)
  placed_sit ie b owner close n first [] h le = tt
  placed_sit ie b owner close n first (op ∷ ops) h le =
      let here = op_domains e o ie owner (own_horizon owner) op in
      let rest = ops_domains e o ie owner (own_horizon owner) ops in
      let l = length-op_domains ie owner (own_horizon owner) op in (
        record { all = sits_left values here rest first h; close = le },
        placed_sit ie b owner close (n + 1) (first + var_count op) ops
            (sits_right values here rest first (first + var_count op) (omega arith) h) le,
      )

  pub length-ops_domains : (ie : Bool) (block : ExtBlock) (h : ℕ) (ops : List ExtOp)
      → length (ops_domains e o ie block h ops) ≡ ops_count ops
  length-ops_domains ie block h [] = refl
  length-ops_domains ie block h (op ∷ ops) = length-append (op_domains e o ie block h op) (ops_domains e o ie block h ops)
      ∙ ap (λ n. n + length (ops_domains e o ie block h ops)) (length-op_domains ie block h op)
      ∙ ap (λ n. var_count op + n) (length-ops_domains ie block h ops)

  block_sit : (ie : Bool) (b n first : ℕ) (block : ExtBlock) → Sits values (block_domains e o ie (own_horizon block) block) first
      → Each (InDomains ie) (block_placed b n first block)
  block_sit ie b n first block h =
      let ds = ops_domains e o ie block (own_horizon block) block.ops in
      let l = length-ops_domains ie block (own_horizon block) block.ops in
      let last = sits_right values ds (Range 1 (own_horizon block) ∷ []) first (first + ops_count block.ops) (omega arith) h in
      let range = last 0 (Range 1 (own_horizon block)) refl in
      let e0 : first + ops_count block.ops + 0 ≡ first + ops_count block.ops = omega arith in
      let le : 1 ≤ slice_index values (first + ops_count block.ops) = subst (λ k. 1 ≤ slice_index values k) e0 range.0 in
      placed_sit ie b block (var_at (first + ops_count block.ops)) n first block.ops
      (sits_left values ds (Range 1 (own_horizon block) ∷ []) first h) le

  pub length-block : (ie : Bool) (block : ExtBlock) → length (block_domains e o ie (own_horizon block) block) ≡ block_count block
  length-block ie block = length-append (ops_domains e o ie block (own_horizon block) block.ops) (Range 1 (own_horizon block) ∷ [])
      ∙ ap (λ n. n + 1) (length-ops_domains ie block (own_horizon block) block.ops)

  -- whether an operation is of the entry
  abbrev pub in_entry : Placed → Bool
  in_entry p = nat_eq p.block 0

  entry_of : (ie : Bool) (b : ℕ) (owner : ExtBlock) (close : VarId) (n first : ℕ) (ops : List ExtOp) → ie ≡ nat_eq b 0
      → Each (InDomains ie) (placed b owner close n first ops) → Each (λ p. InDomains (in_entry p) p) (placed b owner close n first ops)
  entry_of ie b owner close n first [] q h = tt
  entry_of ie b owner close n first (op ∷ ops) q h =
      let p : Placed = record { block = b; owner = owner; close = close; number = n; first = first; op = op } in
      (subst (λ i. InDomains i p) q h.0, entry_of ie b owner close (n + 1) (first + var_count op) ops q h.1)

  pub all_sit : (ie : Bool) (b n first : ℕ) (blocks : List ExtBlock) → ie ≡ nat_eq b 0
      → Sits values (blocks_domains e o own_horizon ie blocks) first → Each (λ p. InDomains (in_entry p) p) (blocks_placed b n first blocks)
  all_sit ie b n first [] q h = tt
  all_sit ie b n first (block ∷ blocks) q h =
      let here = block_domains e o ie (own_horizon block) block in
      let rest = blocks_domains e o own_horizon false blocks in
      let l = length-block ie block in
      let close = var_at (first + ops_count block.ops) in
      let later : false ≡ nat_eq (b + 1) 0 = grind arith in
      each_join (λ p. InDomains (in_entry p) p) (block_placed b n first block)
      (blocks_placed (b + 1) (n + length block.ops) (first + block_count block) blocks)
      (entry_of ie b block close n first block.ops q (block_sit ie b n first block (sits_left values here rest first h)))
      (all_sit false (b + 1) (n + length block.ops) (first + block_count block) blocks later
      (sits_right values here rest first (first + block_count block) (omega arith) h))

  length-blocks : (ie : Bool) (blocks : List ExtBlock) → length (blocks_domains e o own_horizon ie blocks) ≡ blocks_count blocks
  length-blocks ie [] = refl
  length-blocks ie (block ∷ blocks) =
      length-append (block_domains e o ie (own_horizon block) block) (blocks_domains e o own_horizon false blocks)
      ∙ ap (λ n. n + length (blocks_domains e o own_horizon false blocks)) (length-block ie block)
      ∙ ap (λ n. block_count block + n) (length-blocks false blocks)

  -- the frame flag is 0 or 1
  pub flag_sits : KeepsDomains (domains_of own_horizon e o) values → slice_index values (blocks_count e.blocks) ≤ 1
  flag_sits h =
      let ds = blocks_domains e o own_horizon true e.blocks in
      let l = length-blocks true e.blocks in
      let last = sits_right values ds (Range 0 1 ∷ []) 0 (blocks_count e.blocks) (omega arith)
      (keeps_sits values (domains_of own_horizon e o) h) in
      let z = last 0 (Range 0 1) refl in
      let e0 : blocks_count e.blocks + 0 ≡ blocks_count e.blocks = omega arith in
      subst (λ k. slice_index values k ≤ 1) e0 z.1
