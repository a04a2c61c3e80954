-- The packets of code, counted by the source's blocks and labels, are as many as they are counted block by block.
use Rattle.std.proofs.Common.{ℕ, ◌≡◌, ◌≢◌, ◌+◌, ◌*◌, Bool, true, false, List, [], ◌∷◌, length, map, inl, inr, refl, sym, ap, ◌∙◌}
use Rattle.std.specs.Prelude.{Some, nat_eq, if◌then◌else◌, sum_by}
use Rattle.std.specs.List.{find}
use Rattle.std.specs.Cmp.Lexicographic.{pointwise, bytes_decides}
use Rattle.std.proofs.lemmas.List.Sums.{sum_by-cons}
use Rattle.un_ir.specs.declared.extended.ExtBlock.{ExtBlock}
use Rattle.un_ir.specs.declared.function.Block.{Block}
use Rattle.un_packet.specs.declared.code.CodeBlock.{CodeBlock}
use Rattle.un_simulation.specs.Count.{packets_in, packets_under}
use Rattle.un_emit.specs.Emitted.{packet_cost}
use Rattle.un_lists.proofs.Lists.{Each, Pairwise, Member, each_member}

abbrev pub Apart : CodeBlock → CodeBlock → Type 0
Apart a b = a.label ≢ b.label

-- the first block under a label, by whether the first of all has it
abbrev found_by : Bool → CodeBlock → List CodeBlock → List ℕ → ℕ
found_by b d cs label = packets_in (if b then Some d else find (λ (x : CodeBlock). pointwise nat_eq x.label label) cs)

-- under the label of a block stand its packets, where no two blocks have one label
pub under_own : (cs : List CodeBlock) (c : CodeBlock) → Pairwise Apart cs → Member c cs
    → packets_under cs c.label ≡ length c.packets
under_own [] c apart m = elim m [ ]
under_own (d ∷ cs) c apart (inl same) =
    let found : pointwise nat_eq d.label c.label ≡ true = (bytes_decides d.label c.label).1 (ap (λ (x : CodeBlock). x.label) same) in
    ap (λ (b : Bool). found_by b d cs c.label) found ∙ ap (λ (x : CodeBlock). length x.packets) same
under_own (d ∷ cs) c apart (inr m) =
    by (pointwise nat_eq d.label c.label) refl (λ same. each_member (Apart d) cs c apart.0 m ((bytes_decides d.label c.label).0 same))
    (under_own cs c apart.1 m)
  where
    by : (b : Bool) → pointwise nat_eq d.label c.label ≡ b → (pointwise nat_eq d.label c.label ≡ true → ⊥)
        → packets_under cs c.label ≡ length c.packets → packets_under (d ∷ cs) c.label ≡ length c.packets
    by true q other rest = absurd (other q)
    by false q other rest = ap (λ (b : Bool). found_by b d cs c.label) q ∙ rest

-- lists that are the same have one head and one tail
same_head : {X : Type 0} (x y : X) (xs ys : List X) → x ∷ xs ≡ y ∷ ys → x ≡ y
same_head x y xs ys q = cc q

same_tail : {X : Type 0} (x y : X) (xs ys : List X) → x ∷ xs ≡ y ∷ ys → xs ≡ ys
same_tail x y xs ys q = cc q

-- the packets under a block's label, as often as the block runs
abbrev weighted : List CodeBlock → Block → ℕ
weighted all b = b.freq * packets_under all b.label

-- blocks of a source, of its extended function and of code in one order, with the same frequencies and labels
pub counted : (all : List CodeBlock) → Pairwise Apart all
    → (ss : List Block) (bs : List ExtBlock) (cs : List CodeBlock) → Each (λ c. Member c all) cs
    → map (λ (b : ExtBlock). b.freq) bs ≡ map (λ (b : Block). b.freq) ss
    → map (λ (b : ExtBlock). b.label) bs ≡ map (λ (b : Block). b.label) ss
    → map (λ (c : CodeBlock). c.label) cs ≡ map (λ (b : ExtBlock). b.label) bs
    → sum_by (weighted all) ss ≡ packet_cost bs cs
counted all apart [] [] cs inside freqs labels own = refl
counted all apart [] (b ∷ bs) cs inside freqs labels own = absurd (cc freqs)
counted all apart (s ∷ ss) [] cs inside freqs labels own = absurd (cc freqs)
counted all apart (s ∷ ss) (b ∷ bs) [] inside freqs labels own = absurd (cc own)
counted all apart (s ∷ ss) (b ∷ bs) (c ∷ cs) inside freqs labels own =
    let freq = same_head b.freq s.freq _ _ freqs in
    let label : s.label ≡ c.label = sym (same_head b.label s.label _ _ labels) ∙ sym (same_head c.label b.label _ _ own) in
    let rest = counted all apart ss bs cs inside.1
    (same_tail b.freq s.freq _ _ freqs) (same_tail b.label s.label _ _ labels) (same_tail c.label b.label _ _ own) in
    sum_by-cons (weighted all) s ss
    ∙ ap (λ n. n * packets_under all s.label + sum_by (weighted all) ss) (sym freq)
    ∙ ap (λ n. b.freq * n + sum_by (weighted all) ss) (ap (packets_under all) label ∙ under_own all c apart inside.0)
    ∙ ap (λ n. b.freq * length c.packets + n) rest
