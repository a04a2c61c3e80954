-- The blocks of a generated function keep the rules of blocks, each at its place.
use Rattle.std.proofs.Common.{◌≡◌, ◌≢◌, ℕ, zero, suc, ◌+◌, ◌-◌, ◌*◌, ◌<◌, ◌≤◌, Bool, true, false, nat_eq, nat_lt, List, [], ◌∷◌, Some}
use Rattle.std.proofs.Common.{length, slice_get, All, if◌then◌else◌, refl, sym, ap, ◌∙◌, subst, arith}
use Rattle.std.specs.List.{AllPairs, flat_map}
use Rattle.std.specs.Option.{option_to_list}
use Rattle.std.proofs.lemmas.List.{length-append}
use Rattle.std.proofs.lemmas.List.Elements.{All-nil, All-cons, All-head, All-tail, All-append, All-weaker}
use Rattle.std.proofs.lemmas.List.Kept.{AllPairs-cons}
use Rattle.un_ir.specs.declared.function.SrcOp.{SrcOp}
use Rattle.un_ir.specs.declared.function.Term.{Term}
use Rattle.un_ir.specs.declared.function.Term.TheVariants.{Fall, Branch, Ret}
use Rattle.un_ir.specs.declared.function.Block.{Block}
use Rattle.un_ir.specs.declared.function.TheConstants.{BLOCKS, FREQUENCY}
use Rattle.un_ir.specs.Live.{read_by_term, targets_of}
use Rattle.un_ir.specs.Names.{names_on_op, names_in_block}
use Rattle.un_ir.specs.WellFormed.{IsGoodOp, IsGoodBlock, TestsItsKind, ReturnAlike, gives_value}
use Rattle.un_gen.specs.Draws.{after, drawn}
use Rattle.un_gen.specs.Generated.{all_names, word, truth, label_of, end_of, end_by, Body, first_body, drawn_body, block_of, behind}
use Rattle.un_gen.specs.Generated.{blocks_after, all_blocks}
use Rattle.un_gen.proofs.DrawLaws.{drawn_below}
use Rattle.un_gen.proofs.GenNames.{label_named, labels_apart}
use Rattle.un_gen.proofs.GenOps.{IsOne, IsFine, fine_ops, fine_entry}

-- ---- ends

-- a block of the function, but not its first
abbrev pub IsTarget : ℕ → ℕ → Type 0
IsTarget size c = (0 < c) × (c < size)

-- the end of block b of so many
record IsGoodEnd (size b : ℕ) (term : Term) : Type 0 where
  pub tests : TestsItsKind all_names term
  pub known : All IsOne (read_by_term term)
  pub leads : All (IsTarget size) (targets_of b term)
  pub returns : (x : Bool) → gives_value term ≡ Some x → x ≡ true

good_return : (size b : ℕ) → IsGoodEnd size b (Ret (Some (word 0)))
good_return size b = record {
  tests = refl;
  known = All-cons IsOne (word 0) [] (omega arith) (All-nil IsOne);
  leads = All-nil (IsTarget size);
  returns = λ x e. cc e;
}

good_end : (size b t to : ℕ) → b + 1 < size → 0 < to → to < size → IsGoodEnd size b (end_of t to)
good_end size b t to next low high = by (nat_lt t 2)
  where
    by : (v : Bool) → IsGoodEnd size b (if v then Branch truth (nat_eq t 0) (record { 0 = to }) else Fall)
    by true = record {
      tests = refl;
      known = All-cons IsOne truth [] (omega arith) (All-nil IsOne);
      leads = All-cons (IsTarget size) (b + 1) (to ∷ []) (omega arith, next)
          (All-cons (IsTarget size) to [] (low, high) (All-nil (IsTarget size)));
      returns = λ x e. absurd (cc e);
    }
    by false = record {
      tests = tt;
      known = All-nil IsOne;
      leads = All-cons (IsTarget size) (b + 1) [] (omega arith, next) (All-nil (IsTarget size));
      returns = λ x e. absurd (cc e);
    }

ends : (size b more s : ℕ) → b + suc more ≡ size → IsGoodEnd size b (end_by size more s)
ends size b zero s h = good_return size b
ends size b (suc more) s h =
    let low = drawn_below 1 (size - 1) s (omega arith) in
    good_end size b (drawn 0 4 s) (drawn 1 (size - 1) s + 1) (omega arith) (omega arith) (omega arith)

-- ---- blocks

known_ops : (ops : List SrcOp) → All IsFine ops → All IsOne (flat_map names_on_op ops)
known_ops [] h = All-nil IsOne
known_ops (o ∷ ops) h =
    let here = All-head IsFine o ops h in
    All-append IsOne (names_on_op o) (flat_map names_on_op ops)
    (All-append IsOne (option_to_list o.dst) o.srcs here.assigned here.read) (known_ops ops (All-tail IsFine o ops h))

-- block b of so many
pub record IsSound (size b : ℕ) (block : Block) : Type 0 where
  pub label : block.label ≡ label_of b
  pub good : IsGoodBlock all_names block
  pub fine : All IsFine block.ops
  pub ends : All IsOne (read_by_term block.term)
  pub leads : All (IsTarget size) (targets_of b block.term)
  pub returns : (x : Bool) → gives_value block.term ≡ Some x → x ≡ true
  pub few : length block.ops ≤ 5

-- its names are among the nine
pub known_block : (size b : ℕ) (block : Block) → IsSound size b block → All IsOne (names_in_block block)
known_block size b block h =
    All-append IsOne (flat_map names_on_op block.ops) (read_by_term block.term) (known_ops block.ops h.fine) h.ends

sound_block : (size b more : ℕ) (body : Body) → b + suc more ≡ size → size ≤ BLOCKS → (1 ≤ body.freq) × (body.freq ≤ FREQUENCY)
    → All IsFine body.ops → length body.ops ≤ 5 → IsSound size b (block_of size b more body)
sound_block size b more body place few freq fine short =
    let end = ends size b more body.state place in
    record {
      label = refl;
      good = record {
        label = label_named b (omega arith);
        freq = freq;
        ops = All-weaker IsFine (IsGoodOp all_names) (λ o f. f.good) body.ops fine;
        tests = end.tests;
      };
      fine = fine;
      ends = end.known;
      leads = end.leads;
      returns = end.returns;
      few = short;
    }

sound_drawn : (size b more s : ℕ) → b + suc more ≡ size → size ≤ BLOCKS → IsSound size b (block_of size b more (drawn_body s))
sound_drawn size b more s place few =
    let low = drawn_below 0 1000 s (omega arith) in
    sound_block size b more (drawn_body s) place few (omega arith, omega arith) (fine_ops 4 (after 1 s)) (omega arith)

-- each of these blocks from block b on
abbrev pub AreSound : ℕ → ℕ → List Block → Type 0
AreSound size b [] = Unit {0}
AreSound size b (block ∷ blocks) = IsSound size b block × AreSound size (b + 1) blocks

sound_after : (size b more s : ℕ) → b + more ≡ size → size ≤ BLOCKS → AreSound size b (blocks_after size b more s)
sound_after size b zero s place few = tt
sound_after size b (suc more) s place few = (
  sound_drawn size b more s place few,
  sound_after size (b + 1) more (behind more (drawn_body s)) (omega arith) few,
)

count_after : (size b more s : ℕ) → length (blocks_after size b more s) ≡ more
count_after size b zero s = refl
count_after size b (suc more) s = ap suc (count_after size (b + 1) more (behind more (drawn_body s)))

pub all_sound : (seed size : ℕ) → 0 < size → size ≤ BLOCKS → AreSound size 0 (all_blocks seed size)
all_sound seed size some few = (
  sound_block size 0 (size - 1) (first_body seed) (omega arith) few (omega arith, omega arith) fine_entry (omega arith),
  sound_after size 1 (size - 1) (behind (size - 1) (first_body seed)) (omega arith) few,
)

pub block_count : (seed size : ℕ) → 0 < size → length (all_blocks seed size) ≡ size
block_count seed size some =
    let rest = count_after size 1 (size - 1) (behind (size - 1) (first_body seed)) in omega (arith, rest)

-- ---- what holds of all of them

pub sound_each : (size b : ℕ) (P : Block → Type 0) → ((c : ℕ) (block : Block) → IsSound size c block → P block) → (blocks : List Block)
    → AreSound size b blocks → All P blocks
sound_each size b P f [] h = All-nil P
sound_each size b P f (block ∷ blocks) h = All-cons P block blocks (f b block h.0) (sound_each size (b + 1) P f blocks h.1)

pub sound_at : (size b : ℕ) (blocks : List Block) → AreSound size b blocks → (k : ℕ) (block : Block) → slice_get blocks k ≡ Some block
    → IsSound size (b + k) block
sound_at size b [] h k block got = absurd (cc got)
sound_at size b (x ∷ blocks) h zero block got =
    let same : x ≡ block = cc got in
    let place : b ≡ b + 0 = omega arith in
    subst (λ (c : ℕ). IsSound size c block) place (subst (IsSound size b) same h.0)
sound_at size b (x ∷ blocks) h (suc k) block got =
    let place : (b + 1) + k ≡ b + suc k = omega arith in
    subst (λ (c : ℕ). IsSound size c block) place (sound_at size (b + 1) blocks h.1 k block got)

later_labels : (size a b : ℕ) (blocks : List Block) → a < b → b + length blocks ≤ BLOCKS → AreSound size b blocks
    → All (λ (y : Block). label_of a ≢ y.label) blocks
later_labels size a b [] low few h = All-nil (λ (y : Block). label_of a ≢ y.label)
later_labels size a b (x ∷ blocks) low few h =
    All-cons (λ (y : Block). label_of a ≢ y.label) x blocks (λ e. labels_apart a b low (omega arith) (e ∙ h.0.label))
    (later_labels size a (b + 1) blocks (omega arith) (omega arith) h.1)

pub sound_labels : (size b : ℕ) (blocks : List Block) → b + length blocks ≤ BLOCKS → AreSound size b blocks
    → AllPairs (λ (x y : Block). x.label ≢ y.label) blocks
sound_labels size b [] few h = λ i j d low high. absurd (omega arith)
sound_labels size b (x ∷ blocks) few h =
    AllPairs-cons (λ (y z : Block). y.label ≢ z.label) x blocks
    (All-weaker (λ (y : Block). label_of b ≢ y.label) (λ (y : Block). x.label ≢ y.label) (λ y apart e. apart (sym h.0.label ∙ e)) blocks
    (later_labels size b (b + 1) blocks (omega arith) (omega arith) h.1))
    (sound_labels size (b + 1) blocks (omega arith) h.1)

pub sound_returns : (size b : ℕ) (blocks : List Block) → AreSound size b blocks → AllPairs ReturnAlike blocks
sound_returns size b [] h = λ i j d low high. absurd (omega arith)
sound_returns size b (x ∷ blocks) h =
    AllPairs-cons ReturnAlike x blocks
    (sound_each size (b + 1) (ReturnAlike x) (λ c y sound v w e f. h.0.returns v e ∙ sym (sound.returns w f)) blocks h.1)
    (sound_returns size (b + 1) blocks h.1)

pub few_ops : (size b : ℕ) (blocks : List Block) → AreSound size b blocks
    → length (flat_map (λ (block : Block). block.ops) blocks) ≤ 5 * length blocks
few_ops size b [] h = omega arith
few_ops size b (x ∷ blocks) h =
    let later = few_ops size (b + 1) blocks h.1 in
    let both = length-append x.ops (flat_map (λ (block : Block). block.ops) blocks) in
    let few = h.0.few in
    omega (arith, later, both, few)
