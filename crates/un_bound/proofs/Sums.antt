-- The sum over the blocks of a bound on each.
use Rattle.std.proofs.Common.{◌≡◌, ℕ, ◌+◌, ◌*◌, ◌≤◌, ◌<◌, ◌⊎◌, inl, inr, List, [], ◌∷◌, length, drop, get_or, min, Some, None, refl, subst}
use Rattle.std.proofs.Common.{arith}
use Rattle.std.specs.Prelude.{slice_get, All}
use Rattle.std.proofs.lemmas.Nat.{mul-le}
use Rattle.std.proofs.lemmas.Option.{slice_get_cases, get_or_from_slice_get}
use Rattle.un_ir.specs.declared.extended.ExtBlock.{ExtBlock}
use Rattle.un_ir.specs.declared.function.TheConstants.{FREQUENCY}
use Rattle.un_model.specs.declared.model.Arc.{Arc}
use Rattle.un_model.proofs.Steps.{drop_at, drop_past, within_min}
use Rattle.un_bound.specs.declared.lengths.TheConstants.{ROOM}
use Rattle.un_bound.specs.Arcs.{LeadOn, AllLeadOn}
use Rattle.un_bound.specs.Plain.{IsPacketBound, IsPlainSum}

pub lead_here : (n k : ℕ) (blocks : List ExtBlock) (arcs : List (List Arc)) (block : ExtBlock) (here : List Arc)
    → slice_get blocks k ≡ Some block → slice_get arcs k ≡ Some here → AllLeadOn n (drop k blocks) (drop k arcs)
    → LeadOn n block.ops here × AllLeadOn (n + length block.ops) (drop (k + 1) blocks) (drop (k + 1) arcs)
lead_here n k blocks arcs block here p q h = rw (drop_at blocks k block p, drop_at arcs k here q) at h

pub sum_more : (n k : ℕ) (blocks : List ExtBlock) (arcs : List (List Arc)) (block : ExtBlock) (here : List Arc)
    (Whole : ℕ → Type 0) (sum packets : ℕ) → slice_get blocks k ≡ Some block → slice_get arcs k ≡ Some here
    → IsPacketBound n block here packets → ((rest : ℕ) → IsPlainSum n (drop k blocks) (drop k arcs) rest → Whole (sum + rest))
    → (rest : ℕ) → IsPlainSum (n + length block.ops) (drop (k + 1) blocks) (drop (k + 1) arcs) rest
    → Whole ((sum + block.freq * packets) + rest)
sum_more n k blocks arcs block here Whole sum packets p q b h rest more =
    let now : IsPlainSum n (drop k blocks) (drop k arcs) (block.freq * packets + rest) =
    rw (drop_at blocks k block p, drop_at arcs k here q) (packets, rest, b, more, refl) in
    let e : sum + (block.freq * packets + rest) ≡ (sum + block.freq * packets) + rest = omega arith in
    subst Whole e (h (block.freq * packets + rest) now)

nothing_left : (n : ℕ) (blocks : List ExtBlock) → IsPlainSum n blocks [] 0
nothing_left n [] = refl
nothing_left n (block ∷ blocks) = refl

pub sum_all : (n k : ℕ) (blocks : List ExtBlock) (arcs : List (List Arc)) (Whole : ℕ → Type 0) (sum : ℕ)
    → ((rest : ℕ) → IsPlainSum n (drop k blocks) (drop k arcs) rest → Whole (sum + rest)) → min (length blocks) (length arcs) ≤ k
    → Whole sum
sum_all n k blocks arcs Whole sum h le = subst Whole e (h 0 (by (within_min k blocks arcs le)))
  where
    e : sum + 0 ≡ sum
    e = omega arith

    by : (length blocks ≤ k) ⊎ (length arcs ≤ k) → IsPlainSum n (drop k blocks) (drop k arcs) 0
    by (inl a) = rw (drop_past k blocks a) refl
    by (inr a) = rw (drop_past k arcs a) (nothing_left n (drop k blocks))

pub block_at : (P : ExtBlock → Type 0) (blocks : List ExtBlock) (k : ℕ) (block : ExtBlock) → slice_get blocks k ≡ Some block
    → All P blocks → P block
block_at P blocks k block is all = subst P (get_or_from_slice_get blocks k block block is)
    (all k block (inside (slice_get_cases blocks k).1))
  where
    inside : ((x : ExtBlock) × (k < length blocks) × (slice_get blocks k ≡ Some x) × (get_or blocks k x ≡ x))
        ⊎ ((length blocks ≤ k) × (slice_get blocks k ≡ None)) → k < length blocks
    inside (inl there) = there.1
    inside (inr past) = absurd (cc (past.1, is))

pub few_cycles : (freq packets : ℕ) → freq ≤ FREQUENCY → packets ≤ 256 * ROOM → freq * packets ≤ FREQUENCY * (256 * ROOM)
few_cycles freq packets f p = mul-le freq packets FREQUENCY (256 * ROOM) f p
