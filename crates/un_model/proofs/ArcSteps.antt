-- The loops that list arcs: what is listed so far, and what is listed of the rest, are the whole.
use Rattle.std.proofs.Common.{◌≡◌, ℕ, ◌+◌, ◌≤◌, Bool, true, false, List, [], ◌∷◌, ◌++◌, length, map, drop, take, Option, Some, None}
use Rattle.std.proofs.Common.{slice_get, refl, ap, ◌∙◌, sym, append_assoc}
use Rattle.std.specs.Prelude.{◌&&◌}
use Rattle.std.specs.Option.{option_to_list}
use Rattle.un_isa.specs.declared.table.Table.{Table}
use Rattle.un_ir.specs.declared.extended.ExtOp.{ExtOp}
use Rattle.un_ir.specs.declared.extended.ExtBlock.{ExtBlock}
use Rattle.un_model.specs.declared.model.Arc.{Arc}
use Rattle.un_model.specs.declared.model.TempVars.{TempVars}
use Rattle.un_ir.specs.Kinds.{is_mandatory}
use Rattle.un_model.specs.Arcs.{reads_from, largest_gap, arc, arcs_between, arcs_into, arcs_at, block_arcs, blocks_arcs}
use Rattle.un_model.specs.Pairs.{places_from, joined}
use Rattle.un_model.proofs.Steps.{drop_at, drop_past, append-nil}

joined_places_more : {A B : Type 0} (f : ℕ → A → List B) (n i : ℕ) (xs : List A) (x : A) (made whole next : List B)
    → made ++ joined (places_from f n (drop i xs)) ≡ whole → slice_get xs i ≡ Some x → next ≡ made ++ f n x
    → next ++ joined (places_from f (n + 1) (drop (i + 1) xs)) ≡ whole
joined_places_more {B = B} f n i xs x made whole next h p e =
    let s = ap (λ ys. joined {A = B} (places_from f n ys)) (drop_at xs i x p) in
    rw (e, append_assoc, ← s) h

pub joined_places_all : {A B : Type 0} (f : ℕ → A → List B) (n i : ℕ) (xs : List A) (made whole : List B)
    → made ++ joined (places_from f n (drop i xs)) ≡ whole → length xs ≤ i → made ≡ whole
joined_places_all {B = B} f n i xs made whole h le = sym (append-nil made) ∙ ap (λ zs. made ++ zs)
    (sym (ap (λ ys. joined {A = B} (places_from f n ys)) (drop_past i xs le))) ∙ h

-- one more operation before operation m
pub marked_more : (t : Table) (temps : List TempVars) (first m : ℕ) (to : ExtOp) (before : List ExtOp) (n n2 k : ℕ) (from : ExtOp)
    (reads : Bool) (gap : Option ℕ) (made whole next : List Arc)
    → made ++ joined (places_from (arcs_between t temps m to) n (drop k before)) ≡ whole → n ≡ first + k → slice_get before k ≡ Some from
    → reads ≡ reads_from temps (first + k) to → gap ≡ largest_gap t reads from to
    → next ≡ made ++ map (arc n m) (option_to_list gap) → n2 ≡ n + 1
    → next ++ joined (places_from (arcs_between t temps m to) n2 (drop (k + 1) before)) ≡ whole
marked_more t temps first m to before n n2 k from reads gap made whole next h hn p hr hg e h2 =
    let same : reads ≡ reads_from temps n to = hr ∙ ap (λ q. reads_from temps q to) (sym hn) in
    let largest : gap ≡ largest_gap t (reads_from temps n to) from to = hg ∙ ap (λ b. largest_gap t b from to) same in
    let step : next ≡ made ++ arcs_between t temps m to n from = e ∙ ap (λ g. made ++ map (arc n m) (option_to_list g)) largest in
    rw h2 (joined_places_more (arcs_between t temps m to) n k before from made whole next h p step)

-- one more operation of a block
pub block_more : (t : Table) (temps : List TempVars) (first m i : ℕ) (ops before : List ExtOp) (to : ExtOp) (made whole next : List Arc)
    → made ++ joined (places_from (arcs_at t temps first ops) i (drop i ops)) ≡ whole → m ≡ first + i → slice_get ops i ≡ Some to
    → before ≡ take i ops → next ≡ made ++ arcs_into t temps first before m to
    → next ++ joined (places_from (arcs_at t temps first ops) (i + 1) (drop (i + 1) ops)) ≡ whole
block_more t temps first m i ops before to made whole next h hm p hb e =
    joined_places_more (arcs_at t temps first ops) i i ops to made whole next h p (rw (e, hb, hm) refl)

-- one more block
pub blocks_arcs_more : (t : Table) (temps : List TempVars) (n n2 k : ℕ) (blocks : List ExtBlock) (block : ExtBlock)
    (made whole next : List (List Arc)) (more : List Arc) → made ++ blocks_arcs t temps n (drop k blocks) ≡ whole
    → slice_get blocks k ≡ Some block → more ≡ block_arcs t temps n block.ops → next ≡ made ++ more ∷ []
    → n2 ≡ n + length block.ops → next ++ blocks_arcs t temps n2 (drop (k + 1) blocks) ≡ whole
blocks_arcs_more t temps n n2 k blocks block made whole next more h p f g l =
    let s = ap (blocks_arcs t temps n) (drop_at blocks k block p) in
    rw (g, l) (append_assoc made (more ∷ []) (blocks_arcs t temps (n + length block.ops) (drop (k + 1) blocks)) ∙ ap
    (λ w. made ++ w ∷ blocks_arcs t temps (n + length block.ops) (drop (k + 1) blocks)) f ∙ ap (λ vs. made ++ vs) (sym s) ∙ h)

-- ---- no arcs to an optional operation

and_false : (a b : Bool) → b ≡ false → (a && b) ≡ false
and_false true b h = h
and_false false b h = refl

pub no_arcs : (t : Table) (temps : List TempVars) (n : ℕ) (before : List ExtOp) (m : ℕ) (to : ExtOp) → is_mandatory to.kind ≡ false
    → arcs_into t temps n before m to ≡ []
no_arcs t temps n [] m to h = refl
no_arcs t temps n (from ∷ before) m to h =
    let e : largest_gap t (reads_from temps n to) from to ≡ None = rw (and_false (is_mandatory from.kind) (is_mandatory to.kind) h) refl in
    rw e (no_arcs t temps (n + 1) before m to h)
