-- Blocks that run alike make functions that run alike, and a block extended runs as the block does.
use Rattle.std.proofs.Common.{◌≡◌, ℕ, zero, suc, ◌+◌, ◌≤◌, ◌==◌, ◌||◌, ◌++◌, Bool, true, false, nat_eq, List, [], ◌∷◌, Option, Some, None}
use Rattle.std.proofs.Common.{map, length, drop, slice_get, slice_index, if◌then◌else◌, refl, sym, ap, ◌∙◌, arith, subst, append-nil}
use Rattle.std.specs.List.{range_with_len, AllZip, position_or_len}
use Rattle.std.proofs.lemmas.List.{length-append}
use Rattle.std.proofs.lemmas.List.FromFn.{length-range_with_len}
use Rattle.un_base.specs.declared.ids.NameId.{NameId}
use Rattle.un_base.specs.declared.ids.TempId.{TempId}
use Rattle.un_isa.specs.declared.start.Start.{Start}
use Rattle.un_isa.specs.declared.table.Table.{Table}
use Rattle.un_ir.specs.declared.function.Kind.{Kind}
use Rattle.un_ir.specs.declared.function.Term.{Term}
use Rattle.un_ir.specs.declared.function.Term.TheVariants.{Fall, Jump, Branch, Ret}
use Rattle.un_ir.specs.declared.extended.ExtKind.TheVariants.{In}
use Rattle.un_ir.specs.declared.extended.ExtOp.{ExtOp}
use Rattle.un_ir.specs.declared.extended.ExtBlock.{ExtBlock}
use Rattle.un_ir.specs.declared.extended.Value.{Value}
use Rattle.un_ir.specs.declared.extended.Growth.{Growth}
use Rattle.un_ir.specs.Extended.{temp, results_of, returns}
use Rattle.un_ir.specs.ExtendOf.{with_extended, with_all_extended, grown_block, with_ops, extended_blocks}
use Rattle.un_ir.specs.Linear.{Values, World, LinearEnd, LinearRun, defined_all, value_of, in_temps, out_operands, ending_of, ops_run}
use Rattle.un_ir.specs.Linear.{leave, leave_unless, entered, hand_over, taken_over, through, enter, first_taken, first_values, first_world}
use Rattle.un_ir.specs.Linear.{linear_run}
use Rattle.un_extend.proofs.RunTails.{temps, holding, Agree, Ends, stops, goes, agree_all}
use Rattle.un_extend.proofs.RunGrowth.{Knows, FitsOps, ops_step, start_step}

-- ---- blocks that run alike

-- an extended block and the linear one
pub record AlikeBlocks (a b : ExtBlock) : Type 0 where
  pub live_in : a.live_in ≡ b.live_in
  pub live_out : a.live_out ≡ b.live_out
  pub base : ℕ
  pub firsts : List ℕ
  pub run : (taken : List ℕ) (w : World)
      → Ends base firsts (out_operands b.ops) (out_operands a.ops) (ending_of b.ops) (ending_of a.ops)
      (ops_run a.ops (entered a taken w)) (ops_run b.ops (entered b taken w))

abbrev pub AlikeOptions : Option ExtBlock → Option ExtBlock → Type 0
AlikeOptions None None = Unit {0}
AlikeOptions (Some a) (Some b) = AlikeBlocks a b
AlikeOptions None (Some b) = ⊥
AlikeOptions (Some a) None = ⊥

alike_at : (made bs : List ExtBlock) (k : ℕ) → AllZip AlikeBlocks made bs → AlikeOptions (slice_get made k) (slice_get bs k)
alike_at [] [] k h = tt
alike_at [] (b ∷ bs) k h = absurd h
alike_at (a ∷ made) [] k h = absurd h
alike_at (a ∷ made) (b ∷ bs) zero h = h.0
alike_at (a ∷ made) (b ∷ bs) (suc k) h = alike_at made bs k h.1

leave_alike : (b : ℕ) (term : Term) (read handed : List ℕ) (w : World) (f g : ℕ → LinearRun) → ((c : ℕ) → f c ≡ g c)
    → leave b term read handed w f ≡ leave b term read handed w g
leave_alike b Fall read handed w f g h = h (b + 1)
leave_alike b (Jump to) read handed w f g h = h to.0
leave_alike b (Branch pred true to) read handed w f g h = by (nat_eq (slice_index read 0) 0)
  where
    by : (v : Bool) → (if v then f (b + 1) else f to.0) ≡ (if v then g (b + 1) else g to.0)
    by true = h (b + 1)
    by false = h to.0
leave_alike b (Branch pred false to) read handed w f g h = by (nat_eq (slice_index read 0) 0)
  where
    by : (v : Bool) → (if v then f to.0 else f (b + 1)) ≡ (if v then g to.0 else g (b + 1))
    by true = h to.0
    by false = h (b + 1)
leave_alike b (Ret None) read handed w f g h = refl
leave_alike b (Ret (Some name)) read handed w f g h = refl

abbrev taken_of : List NameId → List ℕ → List NameId → List ℕ
taken_of names handed taken =
    map (λ (name : NameId). slice_index handed (position_or_len (λ (n : NameId). n.0 == name.0) names)) taken ++ drop (length names) handed

taken_alike : (a b : ExtBlock) (handed : List ℕ) (x y : Option ExtBlock) → a.live_out ≡ b.live_out → AlikeOptions x y
    → taken_over a handed x ≡ taken_over b handed y
taken_alike a b handed None None e h = refl
taken_alike a b handed None (Some y) e h = absurd h
taken_alike a b handed (Some x) None e h = absurd h
taken_alike a b handed (Some x) (Some y) e h =
    ap (λ (names : List NameId). taken_of names handed x.live_in) e ∙ ap (taken_of b.live_out handed) h.live_in

module _ (made bs : List ExtBlock) (alike : AllZip AlikeBlocks made bs) where
  module _ (f g : ℕ → List ℕ → World → LinearRun) (same : (c : ℕ) (taken : List ℕ) (w : World) → f c taken w ≡ g c taken w) where
    hand_alike : (a b : ExtBlock) (handed : List ℕ) (w : World) (c : ℕ) → a.live_out ≡ b.live_out
        → hand_over made a handed w f c ≡ hand_over bs b handed w g c
    hand_alike a b handed w c e =
        ap (λ (taken : List ℕ). f c taken w) (taken_alike a b handed (slice_get made c) (slice_get bs c) e (alike_at made bs c alike))
        ∙ same c (taken_over b handed (slice_get bs c)) w

    left : (k : ℕ) (a b : ExtBlock) (base : ℕ) (firsts : List ℕ) (e l : LinearEnd) → a.live_out ≡ b.live_out
        → Ends base firsts (out_operands b.ops) (out_operands a.ops) (ending_of b.ops) (ending_of a.ops) e l
        → leave_unless e.stop made k a e.state f ≡ leave_unless l.stop bs k b l.state g
    left k a b base firsts e l same_out (stops stop w v u) = refl
    left k a b base firsts e l same_out (goes w v u stay q) =
        let p = ending_of b.ops in
        let last = ending_of a.ops in
        let read = map (value_of u) p.operands in
        let handed = map (value_of u) (out_operands b.ops) in
        let given = map (value_of v) (out_operands a.ops) in
        let go = hand_over made a given w f in
        ap (λ (term : Term). leave k term (map (value_of v) last.operands) given w go) q.term
        ∙ ap (λ (xs : List ℕ). leave k p.term xs given w go) q.read
        ∙ ap (λ (xs : List ℕ). leave k p.term read xs w (hand_over made a xs w f)) q.handed
        ∙ leave_alike k p.term read handed w (hand_over made a handed w f) (hand_over bs b handed w g)
        (λ c. hand_alike a b handed w c same_out)

    through_alike : (k : ℕ) (taken : List ℕ) (w : World) (x y : Option ExtBlock) → AlikeOptions x y
        → through made x k taken w f ≡ through bs y k taken w g
    through_alike k taken w None None h = refl
    through_alike k taken w None (Some y) h = absurd h
    through_alike k taken w (Some x) None h = absurd h
    through_alike k taken w (Some x) (Some y) h = left k x y h.base h.firsts _ _ h.live_out (h.run taken w)

  enter_alike : (n k : ℕ) (taken : List ℕ) (w : World) → enter made n k taken w ≡ enter bs n k taken w
  enter_alike zero k taken w = refl
  enter_alike (suc n) k taken w =
      through_alike (enter made n) (enter bs n) (λ c values v. enter_alike n c values v) k taken w
      (slice_get made k) (slice_get bs k) (alike_at made bs k alike)

  first_alike : (t : Table) (s : Start) (x y : Option ExtBlock) → AlikeOptions x y → first_taken t x s ≡ first_taken t y s
  first_alike t s None None h = refl
  first_alike t s None (Some y) h = absurd h
  first_alike t s (Some x) None h = absurd h
  first_alike t s (Some x) (Some y) h = ap (λ (names : List NameId). first_values t names s) h.live_in

  pub run_alike : (t : Table) (s : Start) (n : ℕ) → linear_run t made s n ≡ linear_run t bs s n
  run_alike t s n =
      enter_alike n 0 (first_taken t (slice_get made 0) s) (first_world s)
      ∙ ap (λ (taken : List ℕ). enter bs n 0 taken (first_world s))
      (first_alike t s (slice_get made 0) (slice_get bs 0) (alike_at made bs 0 alike))

-- ---- a block extended

-- the first operation has the values at the block's start, the others fit; the block's temporaries are numbered from m on
pub record FitsBlock (m : ℕ) (block : ExtBlock) : Type 0 where
  pub results : List TempId
  pub rest : List ExtOp
  pub whole : block.ops ≡ record { kind = In; operands = []; results = results } ∷ rest
  pub named : length block.live_in ≤ length results
  pub numbered : results ≡ map temp (range_with_len m (length results))
  pub later : FitsOps m (m + length results) rest

abbrev pub FitsBlocks : ℕ → List ExtBlock → Type 0
FitsBlocks m [] = Unit {0}
FitsBlocks m (block ∷ blocks) = FitsBlock m block × FitsBlocks (m + length (results_of block.ops)) blocks

-- operations of a block and what they are made
abbrev start_values : List ExtOp → List ℕ → Values
start_values ops taken = defined_all (λ x. 0) (in_temps ops) taken

record OpsAlike (base m : ℕ) (ops : List ExtOp) (g : Growth) : Type 0 where
  firsts : List ℕ
  run : (taken : List ℕ) (w : World)
      → Ends base firsts (out_operands ops) (out_operands g.ops) (ending_of ops) (ending_of g.ops)
      (ops_run g.ops (holding (start_values g.ops taken) w)) (ops_run ops (holding (start_values ops taken) w))
  last : List ℕ
  long : length last ≡ m + length (results_of ops)
  knows : Knows g.values last

abbrev in_op : List TempId → ExtOp
in_op results = record { kind = In; operands = []; results = results }

-- a block that has no operations yet
abbrev fresh : List Value → ℕ → Growth
fresh values next = record { ops = []; values = values; next = next }

module _ (names : List Kind) (live_in : List NameId) (is_entry saved : Bool) where
  ops_alike : (m : ℕ) (firsts : List ℕ) (values : List Value) (next : ℕ) (results : List TempId) (rest : List ExtOp) → m ≡ length firsts
      → length live_in ≤ length results → results ≡ map temp (range_with_len m (length results)) → FitsOps m (m + length results) rest
      → Knows values firsts
      → OpsAlike m m (in_op results ∷ rest)
      (with_all_extended names live_in is_entry saved (in_op results ∷ rest) (fresh values next))
  ops_alike m firsts values next results rest e named numbered later k =
      let count = length results in
      let s = start_step m names live_in is_entry saved firsts values next results named k in
      let g1 = with_extended names live_in is_entry saved (in_op results) (fresh values next) in
      let known = firsts ++ range_with_len next count in
      let many = length-append firsts (range_with_len next count) in
      let counted = length-range_with_len next count in
      let longer : m + count ≡ length known = omega (arith, many, counted, e) in
      let r = ops_step m names live_in is_entry saved rest g1 (m + count) known longer later s.knows in
      let t = s.tail rest r.added r.tail in
      let made : List ExtOp = record { kind = In; operands = []; results = temps next count } ∷ (s.added ++ r.added) in
      let h = with_all_extended names live_in is_entry saved rest g1 in
      let is : h.ops ≡ made = r.made ∙ ap (λ (xs : List ExtOp). xs ++ r.added) s.ops in
      let in_made : temps next count ++ in_temps (s.added ++ r.added) ≡ temps next count =
      ap (λ (xs : List TempId). temps next count ++ xs) t.in_made ∙ append-nil (temps next count) in
      let in_ops : results ++ in_temps rest ≡ temps m count =
      ap (λ (xs : List TempId). results ++ xs) t.in_ops ∙ append-nil results ∙ numbered in
      let later_ops = s.added ++ r.added in
      let zeros : Values = λ x. 0 in
      let none : Agree m firsts next zeros zeros = record {
        same = λ x low below. refl;
        below = λ x low below. absurd (omega (arith, low, below, e));
      } in
      record {
        firsts = known;
        run = λ taken w. subst (λ (ops : List ExtOp). Ends m known (out_operands rest) (out_operands ops) (ending_of rest) (ending_of ops)
            (ops_run ops (holding (start_values ops taken) w))
            (ops_run rest (holding (defined_all zeros (results ++ in_temps rest) taken) w))) (sym is)
            (subst (λ (xs : List TempId). Ends m known (out_operands rest) (out_operands later_ops) (ending_of rest) (ending_of later_ops)
            (ops_run later_ops (holding (start_values made taken) w))
            (ops_run rest (holding (defined_all zeros xs taken) w))) (sym in_ops)
            (subst (λ (xs : List TempId). Ends m known (out_operands rest) (out_operands later_ops) (ending_of rest) (ending_of later_ops)
            (ops_run later_ops (holding (defined_all zeros xs taken) w))
            (ops_run rest (holding (defined_all zeros (temps m count) taken) w))) (sym in_made)
            (t.run (defined_all zeros (temps next count) taken) (defined_all zeros (temps m count) taken) w
            (agree_all m count taken firsts next m zeros zeros none e (λ j low below. refl)))));
        last = r.last;
        long = let a = r.long in let b = length-append results (results_of rest) in omega (arith, a, b, longer);
        knows = r.knows;
      }

-- a block extended runs as the block does; the values behind it are known
pub record BlockStep (m : ℕ) (block : ExtBlock) (g : Growth) : Type 0 where
  pub alike : AlikeBlocks (with_ops block g.ops) block
  pub last : List ℕ
  pub long : length last ≡ m + length (results_of block.ops)
  pub knows : Knows g.values last

block_step : (names : List Kind) (is_entry : Bool) (values : List Value) (next m : ℕ) (firsts : List ℕ) (block : ExtBlock)
    → m ≡ length firsts
    → FitsBlock m block → Knows values firsts → BlockStep m block (grown_block names is_entry values next block)
block_step names is_entry values next m firsts block e fits k =
    let g0 : Growth = record { ops = []; values = values; next = next } in
    let saved = is_entry || returns block in
    let a = subst (λ (ops : List ExtOp). OpsAlike m m ops (with_all_extended names block.live_in is_entry saved ops g0)) (sym fits.whole)
    (ops_alike names block.live_in is_entry saved m firsts values next fits.results fits.rest e fits.named fits.numbered fits.later k) in
    record {
      alike = record { live_in = refl; live_out = refl; base = m; firsts = a.firsts; run = a.run };
      last = a.last;
      long = a.long;
      knows = a.knows;
    }

pub blocks_alike : (names : List Kind) (is_entry : Bool) (values : List Value) (next m : ℕ) (firsts : List ℕ) (blocks : List ExtBlock)
    → m ≡ length firsts
    → FitsBlocks m blocks → Knows values firsts → AllZip AlikeBlocks (extended_blocks names is_entry values next blocks) blocks
blocks_alike names is_entry values next m firsts [] e fits k = tt
blocks_alike names is_entry values next m firsts (block ∷ blocks) e fits k =
    let s = block_step names is_entry values next m firsts block e fits.0 k in
    let g = grown_block names is_entry values next block in
    (s.alike, blocks_alike names false g.values g.next (m + length (results_of block.ops)) s.last blocks (sym s.long) fits.1 s.knows)
