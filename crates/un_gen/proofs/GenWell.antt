-- A generated function has no fault.
use Rattle.std.proofs.Common.{◌≡◌, ◌≢◌, ℕ, ◌+◌, ◌-◌, ◌<◌, ◌≤◌, List, [], ◌∷◌, Some, codes, length, slice_get, All, nat_eq, false, refl, sym, ap, subst}
use Rattle.std.proofs.Common.{arith}
use Rattle.std.specs.List.{AllPairs}
use Rattle.std.proofs.lemmas.Bool.{eqb-false}
use Rattle.std.proofs.lemmas.List.Elements.{All-nil, All-cons}
use Rattle.std.proofs.lemmas.List.Kept.{AllPairs-cons}
use Rattle.un_base.specs.declared.ids.NameId.{NameId}
use Rattle.un_ir.specs.declared.function.Kind.TheVariants.{General}
use Rattle.un_ir.specs.declared.function.Block.{Block}
use Rattle.un_ir.specs.declared.function.TheConstants.{BLOCKS}
use Rattle.un_ir.specs.Live.{targets_of}
use Rattle.un_ir.specs.Names.{names_in_block}
use Rattle.un_ir.specs.WellFormed.{Names, IsOfKind, IsGoodBlock, IsWellFormed, LeadsInside}
use Rattle.un_gen.specs.Generated.{all_names, all_params, word, first_body, block_of, behind, blocks_after, all_blocks}
use Rattle.un_gen.proofs.GenNames.{names_named, names_apart}
use Rattle.un_gen.proofs.GenOps.{IsOne}
use Rattle.un_gen.proofs.GenBlocks.{IsTarget, AreSound, all_sound, block_count, sound_each, sound_at, sound_labels, sound_returns}
use Rattle.un_gen.proofs.GenBlocks.{few_ops, known_block}
use Rattle.un_gen.proofs.GenLive.{AreKnown, numbered, live}

params_are_words : All (IsOfKind all_names General) all_params
params_are_words =
    All-cons (IsOfKind all_names General) (word 0) (word 1 ∷ word 2 ∷ word 3 ∷ []) refl
    (All-cons (IsOfKind all_names General) (word 1) (word 2 ∷ word 3 ∷ []) refl
    (All-cons (IsOfKind all_names General) (word 2) (word 3 ∷ []) refl
    (All-cons (IsOfKind all_names General) (word 3) [] refl (All-nil (IsOfKind all_names General)))))

abbrev Differs : NameId → NameId → Type 0
Differs a b = a ≢ b

differ : (a b : ℕ) → nat_eq a b ≡ false → word a ≢ word b
differ a b h e = eqb-false a b h (ap (λ (name : NameId). name.0) e)

params_apart : AllPairs (λ (a b : NameId). a ≢ b) all_params
params_apart =
    AllPairs-cons Differs (word 0) (word 1 ∷ word 2 ∷ word 3 ∷ [])
    (All-cons (Differs (word 0)) (word 1) (word 2 ∷ word 3 ∷ []) (differ 0 1 refl)
    (All-cons (Differs (word 0)) (word 2) (word 3 ∷ []) (differ 0 2 refl) (All-cons (Differs (word 0)) (word 3) [] (differ 0 3 refl) (All-nil _))))
    (AllPairs-cons Differs (word 1) (word 2 ∷ word 3 ∷ [])
    (All-cons (Differs (word 1)) (word 2) (word 3 ∷ []) (differ 1 2 refl) (All-cons (Differs (word 1)) (word 3) [] (differ 1 3 refl) (All-nil _)))
    (AllPairs-cons Differs (word 2) (word 3 ∷ []) (All-cons (Differs (word 2)) (word 3) [] (differ 2 3 refl) (All-nil _))
    (AllPairs-cons Differs (word 3) [] (All-nil _) (λ i j d low high. absurd (omega arith)))))

module _ (seed size : ℕ) (some : 0 < size) (few : size ≤ BLOCKS) where
  abbrev blocks : List Block
  blocks = all_blocks seed size

  abbrev entry : Block
  entry = block_of size 0 (size - 1) (first_body seed)

  abbrev later : List Block
  later = blocks_after size 1 (size - 1) (behind (size - 1) (first_body seed))

  sound : AreSound size 0 blocks
  sound = all_sound seed size some few

  count : length blocks ≡ size
  count = block_count seed size some

  known_later : All (λ (block : Block). All IsOne (names_in_block block)) later
  known_later = sound_each size 1 (λ (block : Block). All IsOne (names_in_block block)) (λ c block h. known_block size c block h) later sound.1

  all_known : All AreKnown blocks
  all_known = sound_each size 0 AreKnown (λ c block h. (h.fine, h.ends)) blocks sound

  all_lead : (b : ℕ) (block : Block) → slice_get blocks b ≡ Some block → LeadsInside blocks b block.term
  all_lead b block got =
      let at = sound_at size 0 blocks sound b block got in
      let place : 0 + b ≡ b = omega arith in
      let inside : All (IsTarget size) (targets_of b block.term) =
      subst (λ (c : ℕ). All (IsTarget size) (targets_of c block.term)) place at.leads in
      subst (λ (n : ℕ). All (IsTarget n) (targets_of b block.term)) (sym count) inside

  pub well_formed : IsWellFormed (codes "gen") all_params all_names blocks
  well_formed = record {
    named = refl;
    params_are_words = params_are_words;
    few_params = omega arith;
    distinct_params = params_apart;
    all_named = names_named;
    few_names = omega arith;
    distinct_names = names_apart;
    numbered = numbered entry later refl sound.0.ends known_later;
    entry = let is = count in omega arith;
    few_blocks = let is = count in omega arith;
    distinct_labels = sound_labels size 0 blocks (let is = count in omega arith) sound;
    good_blocks = sound_each size 0 (IsGoodBlock all_names) (λ c block h. h.good) blocks sound;
    few_ops = let is = count in let ops = few_ops size 0 blocks sound in omega arith;
    leads = all_lead;
    alike = sound_returns size 0 blocks sound;
    live = live entry later refl all_known;
  }

  -- and so has one that is made of equal parts
  pub made : (name : List ℕ) (params : List NameId) (names : Names) (bs : List Block) → name ≡ codes "gen" → params ≡ all_params
      → names ≡ all_names → bs ≡ blocks → IsWellFormed name params names bs
  made name params names bs a b c d =
      subst (λ (n : List ℕ). IsWellFormed n params names bs) (sym a)
      (subst (λ (ps : List NameId). IsWellFormed (codes "gen") ps names bs) (sym b)
      (subst (λ (ns : Names). IsWellFormed (codes "gen") all_params ns bs) (sym c)
      (subst (IsWellFormed (codes "gen") all_params all_names) (sym d) well_formed)))
