-- The saved values of a block, and the edges between blocks, as loops find them.
use Rattle.std.proofs.Common.{ℕ, suc, ◌≡◌, ◌+◌, ◌-◌, ◌<◌, ◌≤◌, Bool, true, List, [], ◌∷◌, ◌++◌, drop, length, refl, sym, ap, ◌∙◌}
use Rattle.std.proofs.Common.{append_assoc, map, arith}
use Rattle.std.proofs.lemmas.List.{set_past}
use Rattle.std.specs.Prelude.{Some, fold, slice_get, slice_set, ◌&&◌, ◌==◌, if◌then◌else◌}
use Rattle.un_base.specs.declared.ids.TempId.{TempId}
use Rattle.un_ir.specs.Linear.{is_out}
use Rattle.un_ir.specs.declared.extended.ExtBlock.{ExtBlock}
use Rattle.un_ir.specs.declared.extended.ExtOp.{ExtOp}
use Rattle.un_ir.specs.declared.extended.Operand.{Operand}
use Rattle.un_model.specs.Pairs.{joined, places_from}
use Rattle.un_model.specs.declared.model.BlockVars.{BlockVars}
use Rattle.un_model.specs.declared.model.Model.{Model}
use Rattle.un_model.proofs.Steps.{drop_at}
use Rattle.un_saved.specs.Saved.{end_operands as these_operands, read_alone as read_these, keeps_places as keeps_these}
use Rattle.un_kinds.specs.Constraints.{Constraint}
use Rattle.un_sites.specs.Befores.{known_befores, length_in}
use Rattle.un_sites.specs.Lengths.{length_by}
use Rattle.un_sites.specs.Places.{Place, block_places, definers_of}
use Rattle.un_sites.specs.Pressures.{block_room, registers_among}
use Rattle.un_sites.specs.Rooms.{arcs_or}
use Rattle.un_sites.specs.Saved.{saved_in, end_operands, reads_alone, read_alone, keeps_places}
use Rattle.un_sites.specs.Saved.{edges_between, marked_over, marked_after, crowded_of, owed_by}
use Rattle.un_sites.specs.Sites.{place_of}
use Rattle.un_sites.specs.declared.edges.Accesses.{Accesses}
use Rattle.un_sites.specs.declared.edges.Edge.{Edge}
use Rattle.un_sites.specs.declared.sites.Spot.{Spot}

-- ---- the saved values of a block, in the words of un_saved

ends_same : (ops : List ExtOp) → these_operands ops ≡ end_operands ops
ends_same [] = refl
ends_same (op ∷ ops) = ap (λ (xs : List Operand). if is_out op.kind then op.operands else xs) (ends_same ops)

alone_same : (ts : List TempId) (xs : List Operand) → read_these ts xs ≡ read_alone ts xs
alone_same [] xs = refl
alone_same (t ∷ ts) [] = refl
alone_same (t ∷ ts) (x ∷ xs) = ap (λ (b : Bool). reads_alone t x && b) (alone_same ts xs)

pub keeps_same : (b : ExtBlock) → keeps_these b ≡ keeps_places b
keeps_same b =
    alone_same (saved_in b) (drop (length b.live_out) (these_operands b.ops))
    ∙ ap (λ (xs : List Operand). read_alone (saved_in b) (drop (length b.live_out) xs)) (ends_same b.ops)

-- ---- what is added for each place of a list, as far as a loop has come

pub place_added : {A B : Type 0} (g : ℕ → A → List B) (i : ℕ) (xs : List A) (x : A) (made whole next : List B)
    → made ++ joined (places_from g i (drop i xs)) ≡ whole → slice_get xs i ≡ Some x → next ≡ made ++ g i x
    → next ++ joined (places_from g (i + 1) (drop (i + 1) xs)) ≡ whole
place_added {B = B} g i xs x made whole next h q e =
    let rest = joined {A = B} (places_from g (i + 1) (drop (i + 1) xs)) in
    let s = ap (λ zs. joined {A = B} (places_from g i zs)) (drop_at xs i x q) in
    ap (λ zs. zs ++ rest) e ∙ append_assoc made (g i x) rest ∙ ap (λ zs. made ++ zs) (sym s) ∙ h

-- ---- what is posted of a block

-- the operations of a block, where they are all that a list has
pub block_listed : (old new listed : List Spot) (ps : List Place) → old ≡ [] → map place_of new ≡ map place_of old ++ ps → listed ≡ new
    → map place_of listed ≡ ps
block_listed old new listed ps none made is = ap (map place_of) is ∙ made ∙ ap (λ (ss : List Spot). map place_of ss ++ ps) none

-- a block's length with its registers and with what it owes
pub length_made : (m : Model) (b n : ℕ) (block : ExtBlock) (vars : BlockVars) (made : Constraint) (owed : Accesses) (marks : List Bool)
    (edges : List Edge) (registers : ℕ) (ps rs qs : List Place) → marks ≡ crowded_of m → edges ≡ edges_between m.ext.blocks
    → ps ≡ block_places b n block vars → rs ≡ block_places b n block vars → qs ≡ block_places b n block vars
    → owed ≡ owed_by marks edges b block ps → registers ≡ length (registers_among (block_room m.domains (definers_of m) rs))
    → made ≡ length_by m.ext.table registers (b == 0) owed (arcs_or (slice_get m.arcs b)) (known_befores m b qs) vars.end block.horizon qs
    → made ∷ [] ≡ length_in m b n block vars
length_made m b n block vars made owed marks edges registers ps rs qs marked between these room those owes counted is =
    let arcs = arcs_or (slice_get m.arcs b) in
    let count = length (registers_among (block_room m.domains (definers_of m) (block_places b n block vars))) in
    ap (λ (c : Constraint). c ∷ []) (
    is
    ∙ ap (λ (k : ℕ). length_by m.ext.table k (b == 0) owed arcs (known_befores m b qs) vars.end block.horizon qs)
    (counted ∙ ap (λ (zs : List Place). length (registers_among (block_room m.domains (definers_of m) zs))) room)
    ∙ ap (λ (w : Accesses). length_by m.ext.table count (b == 0) w arcs (known_befores m b qs) vars.end block.horizon qs)
    (owes ∙ ap (λ (ms : List Bool). owed_by ms edges b block ps) marked
    ∙ ap (λ (es : List Edge). owed_by (crowded_of m) es b block ps) between
    ∙ ap (λ (zs : List Place). owed_by (crowded_of m) (edges_between m.ext.blocks) b block zs) these)
    ∙ ap (λ (zs : List Place). length_by m.ext.table count (b == 0)
    (owed_by (crowded_of m) (edges_between m.ext.blocks) b block (block_places b n block vars)) arcs (known_befores m b zs) vars.end
    block.horizon zs) those)

-- ---- marks

-- where there is no such place nothing is marked
pub past_marked : (marks : List Bool) (k : ℕ) → length marks ≤ k → marks ≡ slice_set marks k true
past_marked marks k le = sym (set_past marks k true le)

-- one round of several, and none
pub round_on : (n i : ℕ) (keeping : List Bool) (edges : List Edge) (marks next whole : List Bool) → i < n
    → marked_after (n - i) keeping edges marks ≡ whole → next ≡ fold (marked_over keeping) marks edges
    → marked_after (n - (i + 1)) keeping edges next ≡ whole
round_on n i keeping edges marks next whole lt h made =
    let less : n - i ≡ suc (n - (i + 1)) = omega (arith, lt) in
    ap (λ (ms : List Bool). marked_after (n - (i + 1)) keeping edges ms) made
    ∙ sym (ap (λ (k : ℕ). marked_after k keeping edges marks) less) ∙ h

pub rounds_done : (n i : ℕ) (keeping : List Bool) (edges : List Edge) (marks whole : List Bool) → n ≤ i
    → marked_after (n - i) keeping edges marks ≡ whole → marks ≡ whole
rounds_done n i keeping edges marks whole le h =
    let none : n - i ≡ 0 = omega (arith, le) in sym (ap (λ (k : ℕ). marked_after k keeping edges marks) none) ∙ h
