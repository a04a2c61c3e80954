-- A function has one model for a table and under options.
use Rattle.std.proofs.Common.{ℕ, zero, suc, ◌≡◌, ◌<◌, ◌⊎◌, List, [], ◌∷◌, length, get_or, AllPairs, Contains, inl, inr, refl, sym, ap, subst, ◌∙◌, arith}
use Rattle.un_base.specs.declared.ids.NameId.{NameId}
use Rattle.un_isa.specs.declared.table.Table.{Table}
use Rattle.un_ir.specs.declared.function.Block.{Block}
use Rattle.un_ir.specs.declared.function.Function.{Function}
use Rattle.un_ir.specs.declared.extended.Ext.{Ext}
use Rattle.un_ir.specs.ExtendOf.{extend_of}
use Rattle.un_ir.specs.LinearOf.{AreLive, lin_of, live_at, name_of}
use Rattle.un_model.specs.Variables.{model_of}
use Rattle.un_model.specs.declared.model.Model.{Model}
use Rattle.un_model.specs.declared.model.Options.{Options}
use Rattle.un_problem.specs.Problems.{IsExtOf, IsModelOf}

abbrev Rises : List NameId → Type 0
Rises ns = AllPairs (λ (m n : NameId). m.0 < n.0) ns

abbrev Within : List NameId → List NameId → Type 0
Within vs bs = (n : NameId) → Contains vs n → Contains bs n

same_name : (a b : NameId) → a.0 ≡ b.0 → a ≡ b
same_name a b e = ap name_of e

-- an element is the first or a later one
at_place : (b : NameId) (bs : List NameId) (n : NameId) (i : ℕ) → i < length (b ∷ bs) → get_or (b ∷ bs) i n ≡ n → (n ≡ b) ⊎ Contains bs n
at_place b bs n zero lt e = inl (sym e)
at_place b bs n (suc i) lt e = inr (i, omega (arith, lt), e)

first_or : (b : NameId) (bs : List NameId) (n : NameId) → Contains (b ∷ bs) n → (n ≡ b) ⊎ Contains bs n
first_or b bs n h = at_place b bs n h.0 h.1 h.2

later : (b : NameId) (bs : List NameId) (n : NameId) → Contains bs n → Contains (b ∷ bs) n
later b bs n h = (suc h.0, (let lt = h.1 in omega (arith, lt)), h.2)

here : (b : NameId) (bs : List NameId) → Contains (b ∷ bs) b
here b bs = (0, omega arith, refl)

-- later ones are greater
above : (b : NameId) (bs : List NameId) (n : NameId) → Rises (b ∷ bs) → Contains bs n → b.0 < n.0
above b bs n rise h =
    let lt : b.0 < (let m = get_or bs h.0 n in m.0) = rise 0 (suc h.0) n (omega arith) (let below = h.1 in omega (arith, below)) in
    subst (λ (m : NameId). b.0 < m.0) h.2 lt

tail_rises : (b : NameId) (bs : List NameId) → Rises (b ∷ bs) → Rises bs
tail_rises b bs rise i j d lt below = rise (suc i) (suc j) d (omega (arith, lt)) (omega (arith, below))

-- what is within another list but is not its first
rest_within : (a : NameId) (vs : List NameId) (b : NameId) (bs : List NameId) → a ≡ b → Rises (a ∷ vs) → Within (a ∷ vs) (b ∷ bs) → Within vs bs
rest_within a vs b bs e rise within n h = elim (first_or b bs n (within n (later a vs n h))) [
  | inl is ↦ absurd (let lt = above a vs n rise h in let same : n.0 ≡ a.0 = ap (λ (m : NameId). m.0) (is ∙ sym e) in omega (arith, lt, same))
  | inr more ↦ more
]

empty_has_none : (n : NameId) → Contains [] n → ⊥
empty_has_none n h = let lt = h.1 in omega (arith, lt)

-- rising lists with the same elements are one
rising_one : (vs bs : List NameId) → Rises vs → Rises bs → Within vs bs → Within bs vs → vs ≡ bs
rising_one [] [] p q f g = refl
rising_one [] (b ∷ bs) p q f g = absurd (empty_has_none b (g b (here b bs)))
rising_one (a ∷ vs) [] p q f g = absurd (empty_has_none a (f a (here a vs)))
rising_one (a ∷ vs) (b ∷ bs) p q f g =
    let same : a ≡ b = elim (first_or b bs a (f a (here a vs))) [
      | inl e ↦ e
      | inr in_bs ↦ elim (first_or a vs b (g b (here b bs))) [
        | inl e ↦ sym e
        | inr in_as ↦ absurd (let x = above b bs a q in_bs in let y = above a vs b p in_as in omega (arith, x, y))
      ]
    ] in
    ap (λ (n : NameId). n ∷ vs) same ∙ ap (λ (ns : List NameId). b ∷ ns)
    (rising_one vs bs (tail_rises a vs p) (tail_rises b bs q) (rest_within a vs b bs same p f) (rest_within b bs a vs (sym same) q g))

lists_one : (xs ys : List (List NameId)) → length xs ≡ length ys → ((b : ℕ) → live_at xs b ≡ live_at ys b) → xs ≡ ys
lists_one [] [] long each = refl
lists_one [] (y ∷ ys) long each = absurd (omega (arith, long))
lists_one (x ∷ xs) [] long each = absurd (omega (arith, long))
lists_one (x ∷ xs) (y ∷ ys) long each =
    ap (λ (z : List NameId). z ∷ xs) (each 0) ∙ ap (λ (zs : List (List NameId)). y ∷ zs)
    (lists_one xs ys (omega (arith, long)) (λ b. each (suc b)))

live_one : (blocks : List Block) (xs ys : List (List NameId)) → AreLive blocks xs → AreLive blocks ys → xs ≡ ys
live_one blocks xs ys a b =
    lists_one xs ys (a.whole ∙ sym b.whole)
    (λ k. rising_one (live_at xs k) (live_at ys k) (a.rising k) (b.rising k)
    (λ n h. (b.exact k n).1 ((a.exact k n).0 h)) (λ n h. (a.exact k n).1 ((b.exact k n).0 h)))

ext_one : (t : Table) (f : Function) (d e : Ext) → IsExtOf t f d → IsExtOf t f e → d ≡ e
ext_one t f d e x y =
    x.is_extended ∙ (ap (λ (live : List (List NameId)). extend_of (lin_of f live t)) (live_one f.blocks x.live y.live x.are_live y.are_live)
    ∙ sym y.is_extended)

pub model_one : (t : Table) (f : Function) (o : Options) (m n : Model) → IsModelOf t f o m → IsModelOf t f o n → m ≡ n
model_one t f o m n x y =
    x.is_model ∙ (ap (λ (e : Ext). model_of e o) (ext_one t f m.ext n.ext x.ext y.ext) ∙ sym y.is_model)
