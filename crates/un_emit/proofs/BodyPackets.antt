-- What the loops over the operations of a block, and over the blocks, have made so far.
use Rattle.std.proofs.Common.{ℕ, ◌≡◌, ◌≤◌, ◌+◌, ◌-◌, sym, ap, ◌∙◌, arith}
use Rattle.std.proofs.Common.{List, [], ◌∷◌, ◌++◌, length, map, take, drop, min, get_or, replicate, length-append}
use Rattle.std.specs.Prelude.{◌==◌, if◌then◌else◌, Option, Some, slice_get}
use Rattle.std.specs.List.{range_with_len, zip}
use Rattle.std.specs.Option.{option_to_list}
use Rattle.std.proofs.Math.Seq.{take-append_seam, drop-append_seam}
use Rattle.std.proofs.lemmas.List.{take_all}
use Rattle.std.proofs.lemmas.Simd.{map-map}
use Rattle.std.proofs.lemmas.Slice.Zip.{length-zip}
use Rattle.un_isa.specs.declared.instr.Instr.{Instr}
use Rattle.un_ir.specs.declared.extended.ExtOp.{ExtOp}
use Rattle.un_ir.specs.declared.extended.ExtBlock.{ExtBlock}
use Rattle.un_model.specs.declared.model.BlockVars.{BlockVars}
use Rattle.un_model.specs.declared.model.Model.{Model}
use Rattle.un_model.specs.declared.model.OpVars.{OpVars}
use Rattle.un_model.specs.declared.schedule.Issue.{Issue}
use Rattle.un_model.specs.Cost.{value_of}
use Rattle.un_model.specs.Emission.{instr_if, issued_in, instrs_in, or_nop, block_packets}
use Rattle.un_model.specs.Pairs.{joined, over_blocks}
use Rattle.un_model.specs.Schedules.{issue_of, block_issues}
use Rattle.un_model.proofs.Steps.{drop_at}
use Rattle.un_packet.specs.declared.code.CodeBlock.{CodeBlock}
use Rattle.un_emit.specs.Emitted.{packet_with, code_block, code_blocks}
use Rattle.un_emit.proofs.BodyLists.{map_alike, map_empty, map_more, joined_more, zip_get, pairs_get, length-pairs}
use Rattle.un_lists.proofs.Lists.{index_get}

module _ (m : Model) (values : List ℕ) (block : ExtBlock) (vars : BlockVars) where
  abbrev end : ℕ
  end = value_of values vars.end

  abbrev issued : ℕ → ExtOp × OpVars → List Instr
  issued c o = issued_in m values end c o.0 o.1

  -- the instructions of the first k operations in cycle c
  abbrev pub so_far : ℕ → ℕ → List Instr
  so_far k c = joined (map (issued c) (take k (zip block.ops vars.ops)))

  -- the cycles of the block
  abbrev pub all : List ℕ
  all = range_with_len 1 (end - 1)

  -- the issues of the block
  abbrev pub own : ℕ → ℕ → List Issue
  own b n = block_issues values b n block vars

  pub length-own : (b n : ℕ) → length (own b n) ≡ min (length block.ops) (length vars.ops)
  length-own b n = length-pairs (issue_of values b end) n block.ops vars.ops

  pub none_yet : (n : ℕ) (cycles : List (List Instr)) → n ≡ end - 1 → cycles ≡ replicate n [] → cycles ≡ map (so_far 0) all
  none_yet n cycles e h = h ∙ map_empty 1 n ∙ ap (λ k. map (so_far 0) (range_with_len 1 k)) e

  -- what is issued in each cycle, with the instruction i of an operation that issues so
  abbrev pub with_issue : Issue → Option Instr → (ℕ → List Instr) → ℕ → List Instr
  with_issue j i f c = f c ++ (if j.cycle == c then option_to_list i else [])

  module _ (b n k : ℕ) (issues : List Issue) (d : Issue) (op : ExtOp) (v : OpVars) (i : Option Instr) (are : issues ≡ own b n)
      (p : slice_get block.ops k ≡ Some op) (q : slice_get vars.ops k ≡ Some v)
      (e : i ≡ (let j = get_or issues k d in instr_if m values op v j.instr)) where
    here : get_or issues k d ≡ issue_of values b end (n + k) op v
    here =
        let there = pairs_get (issue_of values b end) n k block.ops vars.ops op v p q in
        ap (λ is. get_or is k d) are ∙ index_get (own b n) k d (issue_of values b end (n + k) op v) there

    issued_here : (c : ℕ) → with_issue (get_or issues k d) i (so_far k) c ≡ so_far (k + 1) c
    issued_here c =
        ap (λ (x : Option Instr). with_issue (get_or issues k d) x (so_far k) c) e
        ∙ ap (λ (j : Issue). with_issue j (instr_if m values op v j.instr) (so_far k) c) here
        ∙ sym (joined_more (issued c) (zip block.ops vars.ops) k (op, v) (zip_get block.ops vars.ops k op v p q))

    pub one_more : (cycles next : List (List Instr))
        → ((f : ℕ → List Instr) (l : ℕ) → cycles ≡ map f (range_with_len 1 l)
        → next ≡ map (with_issue (get_or issues k d) i f) (range_with_len 1 l))
        → cycles ≡ map (so_far k) all → next ≡ map (so_far (k + 1)) all
    one_more cycles next push h =
        push (so_far k) (end - 1) h ∙ map_alike (with_issue (get_or issues k d) i (so_far k)) (so_far (k + 1)) all issued_here

  pub all_issued : (k : ℕ) → min (length block.ops) (length vars.ops) ≤ k
      → map (so_far k) all ≡ map (instrs_in m values block vars) all
  all_issued k le = map_alike (so_far k) (instrs_in m values block vars) all (λ c.
      let whole = take_all k (zip block.ops vars.ops) (let n = length-zip block.ops vars.ops in omega arith) in
      ap (λ os. joined (map (issued c) os)) whole)

  pub packets_are : map (λ (is : List Instr). packet_with (or_nop is)) (map (instrs_in m values block vars) all)
      ≡ map packet_with (block_packets m values block vars)
  packets_are =
      map-map (λ (is : List Instr). packet_with (or_nop is)) (instrs_in m values block vars) all
      ∙ sym (map-map packet_with (λ (c : ℕ). or_nop (instrs_in m values block vars c)) all)

  -- the issues of the block stand before those of the later ones
  module _ (blocks : List ExtBlock) (more : List BlockVars) (k n : ℕ) (rest : List Issue) (p : slice_get blocks k ≡ Some block)
      (q : slice_get more k ≡ Some vars) (are : rest ≡ over_blocks (block_issues values) k n (drop k blocks) (drop k more))
      (l : ℕ) (e : l ≡ min (length block.ops) (length vars.ops)) where
    abbrev pub later : List Issue
    later = over_blocks (block_issues values) (k + 1) (n + length block.ops) (drop (k + 1) blocks) (drop (k + 1) more)

    parted : rest ≡ own k n ++ later
    parted = are ∙ ap (λ bs. over_blocks (block_issues values) k n bs (drop k more)) (drop_at blocks k block p)
        ∙ ap (λ vs. over_blocks (block_issues values) k n (block ∷ drop (k + 1) blocks) vs) (drop_at more k vars q)

    as_long : l ≡ length (own k n)
    as_long = e ∙ sym (length-own k n)

    pub long : l ≤ length rest
    long = let a = ap length parted ∙ length-append (own k n) later in omega (arith, as_long)

    pub own_first : take l rest ≡ own k n
    own_first = ap (take l) parted ∙ ap (λ i. take i (own k n ++ later)) as_long ∙ take-append_seam (own k n) later

    pub later_last : drop l rest ≡ later
    later_last = ap (drop l) parted ∙ ap (λ i. drop i (own k n ++ later)) as_long ∙ drop-append_seam (own k n) later

module _ (m : Model) (values : List ℕ) where
  abbrev code_of : ExtBlock × BlockVars → CodeBlock
  code_of b = code_block m values b.0 b.1

  abbrev pairs : List (ExtBlock × BlockVars)
  pairs = zip m.ext.blocks m.blocks

  pub block_more : (k : ℕ) (block : ExtBlock) (vars : BlockVars) (made next : List CodeBlock) (code : CodeBlock)
      → slice_get m.ext.blocks k ≡ Some block → slice_get m.blocks k ≡ Some vars → made ≡ map code_of (take k pairs)
      → code ≡ code_block m values block vars → next ≡ made ++ code ∷ [] → next ≡ map code_of (take (k + 1) pairs)
  block_more k block vars made next code p q h e g =
      g ∙ ap (λ cs. cs ++ code ∷ []) h ∙ ap (λ c. map code_of (take k pairs) ++ c ∷ []) e
      ∙ sym (map_more code_of pairs k (block, vars) (zip_get m.ext.blocks m.blocks k block vars p q))

  pub blocks_whole : (k : ℕ) (made : List CodeBlock) → made ≡ map code_of (take k pairs)
      → min (length m.ext.blocks) (length m.blocks) ≤ k → made ≡ code_blocks m values
  blocks_whole k made h le = h ∙ ap (map code_of) (take_all k pairs (let n = length-zip m.ext.blocks m.blocks in omega arith))
