-- The saved values of a block, which it takes and hands over, and the edges between blocks, by their places in lists.
use Rattle.std.proofs.Common.{ℕ, zero, suc, ◌≡◌, ◌+◌, Bool, true, false, List, [], ◌∷◌, ◌++◌, length, map, drop, inl, inr, refl, ap}
use Rattle.std.proofs.Common.{◌∙◌, subst, arith}
use Rattle.std.specs.Prelude.{Some, slice_get, ◌&&◌, ◌==◌, if◌then◌else◌}
use Rattle.std.proofs.lemmas.Bool.{eqb-true}
use Rattle.un_base.specs.declared.ids.TempId.{TempId}
use Rattle.un_ir.specs.Extended.{temp}
use Rattle.un_ir.specs.Linear.{first_of, is_out}
use Rattle.un_ir.specs.Live.{targets_of}
use Rattle.un_ir.specs.declared.extended.ExtBlock.{ExtBlock}
use Rattle.un_ir.specs.declared.extended.ExtKind.TheVariants.{Out}
use Rattle.un_ir.specs.declared.extended.ExtOp.{ExtOp}
use Rattle.un_ir.specs.declared.extended.Operand.{Operand}
use Rattle.un_model.specs.Congruences.{term_of}
use Rattle.un_model.specs.Pairs.{joined, places_from}
use Rattle.un_lists.proofs.Lists.{Each, Pairwise, Member, member_map_of}
use Rattle.un_model.proofs.Placed.{Placed, Spot, spot}
use Rattle.un_model.proofs.PlacedSchedules.{split_member}
use Rattle.un_press.proofs.Counting.{Differ}
use Rattle.un_sites.specs.Saved.{edge, edges_from, end_operands, reads_alone, read_alone, is_marked}
use Rattle.un_sites.specs.declared.edges.Edge.{Edge}
use Rattle.un_post.proofs.Tests.{and_iff}

-- ---- behind the first ones

pub drop_get : {A : Type 0} (n j : ℕ) (xs : List A) → slice_get (drop n xs) j ≡ slice_get xs (n + j)
drop_get zero j xs = let z : j ≡ 0 + j = omega arith in ap (slice_get xs) z
drop_get (suc n) j [] = refl
drop_get (suc n) j (x ∷ xs) = let z : suc (n + j) ≡ suc n + j = omega arith in drop_get n j xs ∙ ap (slice_get (x ∷ xs)) z

pub differ_drop : {A : Type 0} (n : ℕ) (xs : List A) → Differ xs → Differ (drop n xs)
differ_drop zero xs d = d
differ_drop (suc n) [] d = tt
differ_drop (suc n) (x ∷ xs) d = differ_drop n xs d.1

spots_apart : (q : Placed) (i : ℕ) (y : TempId) (ts : List TempId) → Each (λ (s : Spot). y ≡ s.temp → ⊥) (places_from (spot q) i ts)
    → Each (λ (t : TempId). y ≡ t → ⊥) ts
spots_apart q i y [] h = tt
spots_apart q i y (t ∷ ts) h = (h.0, spots_apart q (i + 1) y ts h.1)

-- different results of an operation are different temporaries
pub temps_differ : (q : Placed) (i : ℕ) (ts : List TempId)
    → Pairwise (λ (s u : Spot). s.temp ≡ u.temp → ⊥) (places_from (spot q) i ts) → Differ ts
temps_differ q i [] h = tt
temps_differ q i (t ∷ ts) h = (spots_apart q (i + 1) t ts h.0, temps_differ q (i + 1) ts h.1)

-- ---- what a block's end reads

pub end_is : (front : List ExtOp) (out : ExtOp) → Each (λ (op : ExtOp). is_out op.kind ≡ false) front → out.kind ≡ Out
    → end_operands (front ++ out ∷ []) ≡ out.operands
end_is [] out h k = ap (λ (b : Bool). if b then out.operands else []) (ap is_out k)
end_is (op ∷ ops) out h k =
    ap (λ (b : Bool). if b then op.operands else end_operands (ops ++ out ∷ [])) h.0 ∙ end_is ops out h.1 k

only : (t : TempId) (alts : List TempId) → (length alts == 1 && first_of alts == t.0) ≡ true → alts ≡ t ∷ []
only t [] h = absurd (cc h)
only t (y ∷ []) h = let same = eqb-true y.0 t.0 h in ap (λ (n : ℕ). temp n ∷ []) same
only t (y ∷ z ∷ zs) h =
    let two = (and_iff (length (y ∷ z ∷ zs) == 1) (y.0 == t.0)).1 h in
    let one = eqb-true (length (y ∷ z ∷ zs)) 1 two.0 in
    absurd (omega (arith, one))

-- what is read alone is read at its place, by an operand that has no other alternative
pub alone_at : (ts : List TempId) (xs : List Operand) (j : ℕ) (t : TempId) → read_alone ts xs ≡ true → slice_get ts j ≡ Some t
    → (x : Operand) × (slice_get xs j ≡ Some x) × (x.alts ≡ t ∷ [])
alone_at [] xs j t h at = absurd (cc at)
alone_at (u ∷ us) [] j t h at = absurd (cc h)
alone_at (u ∷ us) (x ∷ xs) zero t h at =
    let two = (and_iff (reads_alone u x) (read_alone us xs)).1 h in
    let same : u ≡ t = cc at in
    (x, refl, subst (λ (v : TempId). x.alts ≡ v ∷ []) same (only u x.alts two.0))
alone_at (u ∷ us) (x ∷ xs) (suc j) t h at = alone_at us xs j t ((and_iff (reads_alone u x) (read_alone us xs)).1 h).1 at

-- ---- edges

-- an edge leaves one of these blocks, which are counted from n
pub record Leaving (n : ℕ) (blocks : List ExtBlock) (d : Edge) : Type 0 where
  pub place : ℕ
  pub block : ExtBlock
  pub at : slice_get blocks place ≡ Some block
  pub from : d.from ≡ n + place
  pub to : Member d.to (targets_of d.from (term_of block.ops))

pub leaving : (n : ℕ) (blocks : List ExtBlock) (d : Edge) → Member d (joined (places_from edges_from n blocks)) → Leaving n blocks d
leaving n [] d m = elim m [ ]
leaving n (b ∷ bs) d m = elim (split_member (edges_from n b) (joined (places_from edges_from (n + 1) bs)) d m) [
  | inl here ↦ (
      let f = member_map_of (edge n) (targets_of n (term_of b.ops)) d here in
      let is : n ≡ d.from = ap (λ (c : Edge). c.from) f.2 in
      record {
        place = 0;
        block = b;
        at = refl;
        from = omega (arith, is);
        to = subst (λ (c : Edge). Member c.to (targets_of c.from (term_of b.ops))) f.2 f.1;
      })
  | inr later ↦ (
      let r = leaving (n + 1) bs d later in
      let is = r.from in
      record { place = suc r.place; block = r.block; at = r.at; from = omega (arith, is); to = r.to })
]

-- ---- marks

-- where marks tell what passes a test, what is marked passes it
pub marked_passes : (test : ExtBlock → Bool) (blocks : List ExtBlock) (l : ℕ) → is_marked (map test blocks) l ≡ true
    → (b : ExtBlock) × (slice_get blocks l ≡ Some b) × (test b ≡ true)
marked_passes test [] l h = absurd (cc h)
marked_passes test (b ∷ bs) zero h = (b, refl, h)
marked_passes test (b ∷ bs) (suc l) h = marked_passes test bs l h
