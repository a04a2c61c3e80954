-- The names of a generated function stand in its text in the order of their numbers, and none but its parameters is live at its start.
use Rattle.std.proofs.Common.{◌≡◌, ◌≢◌, ℕ, zero, suc, ◌+◌, ◌<◌, ◌≤◌, ◌++◌, Bool, true, false, nat_eq, List, [], ◌∷◌, Option, Some, None}
use Rattle.std.proofs.Common.{slice_get, All, Contains, if◌then◌else◌, refl, sym, ap, ◌∙◌, subst, arith}
use Rattle.std.specs.List.{flat_map, fold, list_any}
use Rattle.std.proofs.lemmas.List.Elements.{All-nil, All-cons, All-head, All-tail, All-append, All-contains}
use Rattle.un_base.specs.declared.ids.NameId.{NameId}
use Rattle.un_ir.specs.declared.function.SrcOp.{SrcOp}
use Rattle.un_ir.specs.declared.function.Block.{Block}
use Rattle.un_ir.specs.Live.{IsLive, used, kept, read_by_term, read_by, read_at, assigned_by, assigned_at, next_by}
use Rattle.un_ir.specs.Names.{AreNumbered, see, names_on_op, names_in_block, first_appearances}
use Rattle.un_gen.specs.Generated.{all_params, word, entry_ops}
use Rattle.un_gen.proofs.GenOps.{IsOne, IsFine}

-- ---- the order of the names

-- all numbers, in order
abbrev nine : List ℕ
nine = 0 ∷ 1 ∷ 2 ∷ 3 ∷ 4 ∷ 5 ∷ 6 ∷ 7 ∷ 8 ∷ []

seen_one : (n : ℕ) → n < 9 → list_any (nat_eq n) nine ≡ true
seen_one zero h = refl
seen_one (suc zero) h = refl
seen_one (suc (suc zero)) h = refl
seen_one (suc (suc (suc zero))) h = refl
seen_one (suc (suc (suc (suc zero)))) h = refl
seen_one (suc (suc (suc (suc (suc zero))))) h = refl
seen_one (suc (suc (suc (suc (suc (suc zero)))))) h = refl
seen_one (suc (suc (suc (suc (suc (suc (suc zero))))))) h = refl
seen_one (suc (suc (suc (suc (suc (suc (suc (suc zero)))))))) h = refl
seen_one (suc (suc (suc (suc (suc (suc (suc (suc (suc n))))))))) h = absurd (omega arith)

see_none : (name : NameId) → IsOne name → see nine name ≡ nine
see_none name h = by (list_any (nat_eq name.0) nine) (seen_one name.0 h)
  where
    by : (v : Bool) → v ≡ true → (if v then nine else nine ++ name.0 ∷ []) ≡ nine
    by true e = refl
    by false e = absurd (cc e)

all_seen : (names : List NameId) → All IsOne names → fold see nine names ≡ nine
all_seen [] h = refl
all_seen (name ∷ names) h =
    ap (λ (seen : List ℕ). fold see seen names) (see_none name (All-head IsOne name names h)) ∙ all_seen names (All-tail IsOne name names h)

known_blocks : (blocks : List Block) → All (λ (block : Block). All IsOne (names_in_block block)) blocks
    → All IsOne (flat_map names_in_block blocks)
known_blocks [] h = All-nil IsOne
known_blocks (block ∷ blocks) h =
    All-append IsOne (names_in_block block) (flat_map names_in_block blocks)
    (All-head (λ (x : Block). All IsOne (names_in_block x)) block blocks h)
    (known_blocks blocks (All-tail (λ (x : Block). All IsOne (names_in_block x)) block blocks h))

-- the first block has all names but the parameters in order, and what it has before them are the parameters
pub numbered : (entry : Block) (blocks : List Block) → entry.ops ≡ entry_ops → All IsOne (read_by_term entry.term)
    → All (λ (block : Block). All IsOne (names_in_block block)) blocks → AreNumbered 9 all_params (entry ∷ blocks)
numbered entry blocks is ends rest =
    let more = flat_map names_in_block blocks in
    let all : All IsOne (read_by_term entry.term ++ more) = All-append IsOne (read_by_term entry.term) more ends (known_blocks blocks rest) in
    ap (λ (ops : List SrcOp). first_appearances (all_params ++ ((flat_map names_on_op ops ++ read_by_term entry.term) ++ more))) is
    ∙ all_seen (read_by_term entry.term ++ more) all

-- ---- live names

-- the operation at place k of the first block reads parameters alone, and assigns the name behind them with this number
record AssignsNext (k : ℕ) (o : SrcOp) : Type 0 where
  pub got : slice_get entry_ops k ≡ Some o
  pub dst : o.dst ≡ Some (word (k + 4))
  pub reads : All (λ (name : NameId). name.0 < 4) o.srcs

entry_op : (k : ℕ) → k < 5 → (o : SrcOp) × AssignsNext k o
entry_op zero h = (_, record { got = refl; dst = refl; reads = All-nil (λ (name : NameId). name.0 < 4) })
entry_op (suc zero) h = (_, record { got = refl; dst = refl; reads = All-nil (λ (name : NameId). name.0 < 4) })
entry_op (suc (suc zero)) h = (_, record { got = refl; dst = refl; reads = All-nil (λ (name : NameId). name.0 < 4) })
entry_op (suc (suc (suc zero))) h = (_, record { got = refl; dst = refl; reads = All-nil (λ (name : NameId). name.0 < 4) })
entry_op (suc (suc (suc (suc zero)))) h = (
  _,
  record {
    got = refl;
    dst = refl;
    reads = All-cons (λ (name : NameId). name.0 < 4) (word 0) (word 1 ∷ []) (omega arith)
        (All-cons (λ (name : NameId). name.0 < 4) (word 1) [] (omega arith) (All-nil (λ (name : NameId). name.0 < 4)));
  },
)
entry_op (suc (suc (suc (suc (suc k))))) h = absurd (omega arith)

only_next : (b k c l : ℕ) → Contains {X = ℕ × ℕ} ((b, k + 1) ∷ []) (c, l) → (c ≡ b) × (l ≡ k + 1)
only_next b k c l (zero, below, is) = (sym (ap (λ (p : ℕ × ℕ). p.0) is), sym (ap (λ (p : ℕ × ℕ). p.1) is))
only_next b k c l (suc i, below, is) = absurd (omega arith)

-- the operations of a block are good ones, and its end names what is among the nine
abbrev pub AreKnown : Block → Type 0
AreKnown block = All IsFine block.ops × All IsOne (read_by_term block.term)

all_at : {X : Type 0} (P : X → Type 0) (xs : List X) (k : ℕ) (x : X) → All P xs → slice_get xs k ≡ Some x → P x
all_at P [] k x h got = absurd (cc got)
all_at P (y ∷ ys) zero x h got = let same : y ≡ x = cc got in subst P same (All-head P y ys h)
all_at P (y ∷ ys) (suc k) x h got = all_at P ys k x (All-tail P y ys h) got

module _ (entry : Block) (rest : List Block) (is : entry.ops ≡ entry_ops) where
  abbrev blocks : List Block
  blocks = entry ∷ rest

  -- the operation at place k of block 0
  first_op : (b k : ℕ) (block : Block) (o : SrcOp) → slice_get blocks b ≡ Some block → b ≡ 0 → slice_get entry_ops k ≡ Some o
      → slice_get block.ops k ≡ Some o
  first_op b k block o got e at =
      let first : slice_get blocks b ≡ Some entry = ap (slice_get blocks) e in
      let same : block ≡ entry = cc (sym got ∙ first) in
      ap (λ (x : Block). slice_get x.ops k) same ∙ (ap (λ (xs : List SrcOp). slice_get xs k) is ∙ at)

  -- a name that is no parameter is assigned at its place in the first block, and read before that nowhere
  dead : (n b k : ℕ) → IsLive blocks (word n) b k → b ≡ 0 → k + 4 ≤ n → n ≤ 8 → ⊥
  dead n b k (used b2 k2 block got h has) e low high =
      let o = entry_op k2 (omega arith) in
      let ops = first_op b2 k2 block o.0 got e o.1.got in
      let read : Contains o.0.srcs (word n) = subst (λ (x : Option SrcOp). Contains (read_by x block.term) (word n)) ops has in
      let below : n < 4 = All-contains (λ (name : NameId). name.0 < 4) o.0.srcs (word n) o.1.reads read in
      omega arith
  dead n b k (kept b2 k2 block c l got h other to live) e low high =
      let o = entry_op k2 (omega arith) in
      let ops = first_op b2 k2 block o.0 got e o.1.got in
      let assigned : assigned_at block k2 ≡ Some (word (k2 + 4)) = ap assigned_by ops ∙ o.1.dst in
      let there : Contains {X = ℕ × ℕ} ((b2, k2 + 1) ∷ []) (c, l) = subst (λ (x : Option SrcOp). Contains {X = ℕ × ℕ} (next_by b2 k2 x block.term) (c, l)) ops to in
      let next = only_next b2 k2 c l there in
      let differs : k2 + 4 ≢ n = λ at. other (assigned ∙ ap (λ (m : ℕ). Some (word m)) at) in
      dead n c l live (next.0 ∙ e) (omega (arith, next.1, differs)) high

  -- every name that is live somewhere is among the nine
  module _ (fine : All (λ (block : Block). AreKnown block) blocks) where
    read_one : (block : Block) (k : ℕ) (name : NameId) → AreKnown block → Contains (read_at block k) name → IsOne name
    read_one block k name h has = by (slice_get block.ops k) refl has
      where
        by : (o : Option SrcOp) → slice_get block.ops k ≡ o → Contains (read_by o block.term) name → IsOne name
        by None got c = All-contains IsOne (read_by_term block.term) name h.1 c
        by (Some o) got c =
            let own = all_at IsFine block.ops k o h.0 got in All-contains IsOne o.srcs name own.read c

    live_one : (name : NameId) (b k : ℕ) → IsLive blocks name b k → IsOne name
    live_one name b k (used b2 k2 block got h has) = read_one block k2 name (all_at AreKnown blocks b2 block fine got) has
    live_one name b k (kept b2 k2 block c l got h other to live) = live_one name c l live

    -- only parameters are live at the start
    pub live : (name : NameId) → IsLive blocks name 0 0 → Contains all_params name
    live name is = by name.0 is (live_one name 0 0 is)
      where
        by : (n : ℕ) → IsLive blocks (word n) 0 0 → n < 9 → Contains all_params (word n)
        by zero is h = (0, omega arith, refl)
        by (suc zero) is h = (1, omega arith, refl)
        by (suc (suc zero)) is h = (2, omega arith, refl)
        by (suc (suc (suc zero))) is h = (3, omega arith, refl)
        by (suc (suc (suc (suc n)))) is h = absurd (dead (suc (suc (suc (suc n)))) 0 0 is refl (omega arith) (omega arith))
