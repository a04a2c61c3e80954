-- The extended function that is made of a function is one of that source, and what a block of it has of the source.
use Rattle.std.proofs.Common.{ℕ, ◌≡◌, ◌+◌, Bool, true, false, List, [], ◌∷◌, ◌++◌, length, map, refl, sym, ap, ◌∙◌, subst, arith}
use Rattle.std.proofs.Common.{append_assoc}
use Rattle.std.specs.Prelude.{Option, Some, slice_get, unwrap_or}
use Rattle.std.specs.Option.{option_map}
use Rattle.std.proofs.lemmas.List.{length-append}
use Rattle.std.proofs.lemmas.Option.{slice_get-map}
use Rattle.un_base.specs.declared.ids.NameId.{NameId}
use Rattle.un_isa.specs.declared.start.Start.{Start}
use Rattle.un_isa.specs.declared.table.Table.{Table}
use Rattle.un_ir.specs.declared.function.Kind.{Kind}
use Rattle.un_ir.specs.declared.function.Block.{Block}
use Rattle.un_ir.specs.declared.function.Function.{Function}
use Rattle.un_ir.specs.declared.extended.Ext.{Ext}
use Rattle.un_ir.specs.declared.extended.ExtBlock.{ExtBlock}
use Rattle.un_ir.specs.declared.extended.ExtOp.{ExtOp}
use Rattle.un_ir.specs.declared.extended.Lssa.{Lssa}
use Rattle.un_ir.specs.declared.extended.Value.{Value}
use Rattle.un_ir.specs.ExtendOf.{grown_block, with_ops, extended_blocks, extend_of}
use Rattle.un_ir.specs.Linear.{linear_run}
use Rattle.un_ir.specs.LinearOf.{live_at, past_block, linear_blocks, lin_of, AreLive}
use Rattle.un_ir.specs.Runs.{RunsAsSource}
use Rattle.un_emit.specs.OfSource.{IsOfSource}

-- ---- what the blocks of an extended function keep of a source's

-- a list that begins with another one has the next element behind it
next_at : {X : Type 0} (front rest : List X) (x : X) → slice_get (front ++ x ∷ rest) (length front) ≡ Some x
next_at [] rest x = refl
next_at (y ∷ front) rest x = next_at front rest x

abbrev label_of : ExtBlock → List ℕ
label_of block = block.label

abbrev names_of : ExtBlock → List NameId
names_of block = block.live_in

-- extending a block changes its operations alone
extended_keep : {X : Type 0} (g : ExtBlock → X) → ((block : ExtBlock) (ops : List ExtOp) → g (with_ops block ops) ≡ g block)
    → (names : List Kind) (is_entry : Bool) (values : List Value) (next : ℕ) (blocks : List ExtBlock)
    → map g (extended_blocks names is_entry values next blocks) ≡ map g blocks
extended_keep g keeps names is_entry values next [] = refl
extended_keep g keeps names is_entry values next (block ∷ blocks) =
    let grown = grown_block names is_entry values next block in
    ap (λ x. x ∷ map g (extended_blocks names false grown.values grown.next blocks)) (keeps block grown.ops)
    ∙ ap (λ xs. g block ∷ xs) (extended_keep g keeps names false grown.values grown.next blocks)

module _ (t : Table) (names : ℕ) where
  linear_labels : (lists : List (List NameId)) (b n : ℕ) (blocks : List Block)
      → map label_of (linear_blocks t names lists b n blocks) ≡ map (λ (x : Block). x.label) blocks
  linear_labels lists b n [] = refl
  linear_labels lists b n (block ∷ blocks) =
      ap (λ xs. block.label ∷ xs) (linear_labels lists (b + 1) (past_block t lists b n block) blocks)

  linear_frequencies : (lists : List (List NameId)) (b n : ℕ) (blocks : List Block)
      → map (λ (x : ExtBlock). x.freq) (linear_blocks t names lists b n blocks) ≡ map (λ (x : Block). x.freq) blocks
  linear_frequencies lists b n [] = refl
  linear_frequencies lists b n (block ∷ blocks) =
      ap (λ xs. block.freq ∷ xs) (linear_frequencies lists (b + 1) (past_block t lists b n block) blocks)

  -- the blocks behind as many as there are lists in front begin with the names of the lists behind them
  linear_names : (front rest lists : List (List NameId)) (n : ℕ) (blocks : List Block) → lists ≡ front ++ rest
      → length rest ≡ length blocks → map names_of (linear_blocks t names lists (length front) n blocks) ≡ rest
  linear_names front [] lists n [] is long = refl
  linear_names front (x ∷ rest) lists n [] is long = absurd (omega arith)
  linear_names front [] lists n (block ∷ blocks) is long = absurd (omega arith)
  linear_names front (x ∷ rest) lists n (block ∷ blocks) is long =
      let here : live_at lists (length front) ≡ x =
      ap (λ (ls : List (List NameId)). live_at ls (length front)) is
      ∙ ap (λ (z : Option (List NameId)). unwrap_or z []) (next_at front rest x) in
      let past = past_block t lists (length front) n block in
      let more : length front + 1 ≡ length (front ++ x ∷ []) = sym (length-append front (x ∷ [])) in
      ap (λ y. y ∷ map names_of (linear_blocks t names lists (length front + 1) past blocks)) here
      ∙ ap (λ (b : ℕ). x ∷ map names_of (linear_blocks t names lists b past blocks)) more
      ∙ ap (λ ys. x ∷ ys)
      (linear_names (front ++ x ∷ []) rest lists past blocks (is ∙ sym (append_assoc front (x ∷ []) rest)) (omega (arith, long)))

-- the extended function of the linear function of a function is one of that source, where the runs are the same
pub of_source : (f : Function) (lists : List (List NameId)) (t : Table) (l : Lssa) (e : Ext) → AreLive f.blocks lists
    → l ≡ lin_of f lists t → RunsAsSource f lists t l
    → e ≡ extend_of l → ((start : Start) (n : ℕ) → linear_run e.table e.blocks start n ≡ linear_run l.table l.blocks start n)
    → IsOfSource f lists e
of_source f lists t l e live linear source extended runs =
    let is : e ≡ extend_of (lin_of f lists t) = extended ∙ ap extend_of linear in
    let made = lin_of f lists t in
    let names = length f.names in
    subst (λ (x : Ext). IsOfSource f lists x) (sym is) (record {
      runs = λ start n long. ap (λ (x : Ext). linear_run x.table x.blocks start n) (sym is) ∙ runs start n ∙ source start n long;
      labels = extended_keep label_of (λ block ops. refl) made.names true [] 0 made.blocks ∙ linear_labels t names lists 0 0 f.blocks;
      frequencies = extended_keep (λ (x : ExtBlock). x.freq) (λ block ops. refl) made.names true [] 0 made.blocks
          ∙ linear_frequencies t names lists 0 0 f.blocks;
      kinds = refl;
      live = live;
      live_in = extended_keep names_of (λ block ops. refl) made.names true [] 0 made.blocks
          ∙ linear_names t names [] lists lists 0 f.blocks refl live.whole;
    })

-- ---- the block at a place

module _ (f : Function) (lists : List (List NameId)) (e : Ext) (of : IsOfSource f lists e) where
  -- the names that are live at its start
  pub lists_are : (b : ℕ) (block : ExtBlock) → slice_get e.blocks b ≡ Some block → live_at lists b ≡ block.live_in
  lists_are b block at =
      ap (λ (ls : List (List NameId)). live_at ls b) (sym of.live_in)
      ∙ ap (λ (z : Option (List NameId)). unwrap_or z []) (slice_get-map names_of e.blocks b ∙ ap (option_map names_of) at)

  -- its label
  pub labels_at : (b : ℕ) → option_map (λ (x : Block). x.label) (slice_get f.blocks b) ≡ option_map label_of (slice_get e.blocks b)
  labels_at b =
      sym (slice_get-map (λ (x : Block). x.label) f.blocks b) ∙ ap (λ ls. slice_get ls b) (sym of.labels)
      ∙ slice_get-map label_of e.blocks b
