-- One line more before.
use Rattle.std.proofs.Common.{◌≡◌, ◌≢◌, ◌↔◌, ◌⊎◌, inl, inr, ⊎_elim, ℕ, ◌+◌, ◌-◌, ◌^◌, min, Bool, true, false, IsTrue, List, [], ◌∷◌, ◌++◌}
use Rattle.std.proofs.Common.{Contains, length, Option, Some, None, if◌then◌else◌, refl, sym, ap, ◌∙◌, subst, arith, length-append}
use Rattle.std.proofs.Common.{append-nil, add-zero}
use Rattle.std.proofs.lemmas.List.Elements.{Contains-append_left, Contains-push, Contains-push_cases}
use Rattle.un_packet.specs.declared.code.Packet.{Packet}
use Rattle.un_listing_reader.specs.declared.line.Line.{Line}
use Rattle.un_listing_reader.specs.declared.line.Line.TheVariants.{Block as BlockLine, Packet as PacketLine, Broken}
use Rattle.un_listing_reader.specs.Reading.{labels_in, packets_in}
use Rattle.un_listing_reader.specs.LabelSets.{has_label, add_label, IsBefore}
use Rattle.un_listing_reader.proofs.Judged.{has_decides}

pub labels_append : (ls ms : List (Option Line)) → labels_in (ls ++ ms) ≡ labels_in ls ++ labels_in ms
labels_append [] ms = refl
labels_append (None ∷ ls) ms = labels_append ls ms
labels_append (Some (BlockLine l) ∷ ls) ms = ap (λ (xs : List (List ℕ)). l ∷ xs) (labels_append ls ms)
labels_append (Some (PacketLine p) ∷ ls) ms = labels_append ls ms
labels_append (Some Broken ∷ ls) ms = labels_append ls ms

pub packets_append : (ls ms : List (Option Line)) → packets_in (ls ++ ms) ≡ packets_in ls + packets_in ms
packets_append [] ms = omega arith
packets_append (None ∷ ls) ms = packets_append ls ms
packets_append (Some (BlockLine l) ∷ ls) ms = packets_append ls ms
packets_append (Some Broken ∷ ls) ms = packets_append ls ms
packets_append (Some (PacketLine p) ∷ ls) ms = let e = packets_append ls ms in omega arith

pub some_more : {X : Type 0} (xs : List X) (x : X) → xs ++ x ∷ [] ≢ []
some_more [] x e = absurd (cc e)
some_more (y ∷ ys) x e = absurd (cc e)

always : (b : Bool) {P : Type 0} → b ≡ true → P → IsTrue b ↔ P
always b e p = (λ t. p, λ q. e)

pub add_contains : (labels : List (List ℕ)) (label l : List ℕ) → Contains (add_label labels label) l ↔ (Contains labels l ⊎ (label ≡ l))
add_contains labels label l = by (has_label labels label) refl
  where
    by : (v : Bool) → has_label labels label ≡ v
        → Contains (if v then labels else labels ++ label ∷ []) l ↔ (Contains labels l ⊎ (label ≡ l))
    by true e = (
      λ c. inl c,
      λ s. ⊎_elim (λ c. c) (λ f. subst (λ (x : List ℕ). Contains labels x) f ((has_decides labels label).0 e)) s,
    )
    by false e = (
      λ c. Contains-push_cases labels label l c,
      λ s. ⊎_elim (λ c. Contains-append_left labels (label ∷ []) l c)
          (λ f. subst (λ (x : List ℕ). Contains (labels ++ label ∷ []) x) f (Contains-push labels label)) s,
    )

module _ (lines : List (Option Line)) (labels : List (List ℕ)) (blocks packets : ℕ) (some : Bool)
    (known : IsBefore (record { labels = labels; blocks = blocks; packets = packets; some = some }) lines) where
  pub broken_noted : IsBefore (record { labels = labels; blocks = blocks; packets = packets; some = true }) (lines ++ Some Broken ∷ [])
  broken_noted = record {
    labels = rw (labels_append lines (Some Broken ∷ []), append-nil (labels_in lines)) known.labels;
    blocks = rw (labels_append lines (Some Broken ∷ []), append-nil (labels_in lines)) known.blocks;
    packets = known.packets ∙ ap (λ n. min n (2 ^ 32 - 1)) (sym (packets_append lines (Some Broken ∷ []) ∙ add-zero (packets_in lines)));
    some = always true refl (some_more lines (Some Broken));
  }

  pub packet_noted : (p : Packet)
      → IsBefore (record { labels = labels; blocks = blocks; packets = min (packets + 1) (2 ^ 32 - 1); some = true })
      (lines ++ Some (PacketLine p) ∷ [])
  packet_noted p = record {
    labels = rw (labels_append lines (Some (PacketLine p) ∷ []), append-nil (labels_in lines)) known.labels;
    blocks = rw (labels_append lines (Some (PacketLine p) ∷ []), append-nil (labels_in lines)) known.blocks;
    packets = (let e = packets_append lines (Some (PacketLine p) ∷ []) in let f = known.packets in omega arith);
    some = always true refl (some_more lines (Some (PacketLine p)));
  }

  pub block_noted : (label : List ℕ)
      → IsBefore (record { labels = add_label labels label; blocks = min (blocks + 1) (2 ^ 32 - 1); packets = packets; some = true })
      (lines ++ Some (BlockLine label) ∷ [])
  block_noted label = record {
    labels = rw (labels_append lines (Some (BlockLine label) ∷ [])) (λ l. (
      λ c. ⊎_elim (λ d. Contains-append_left (labels_in lines) (label ∷ []) l ((known.labels l).0 d))
          (λ f. subst (λ (x : List ℕ). Contains (labels_in lines ++ label ∷ []) x) f (Contains-push (labels_in lines) label))
          ((add_contains labels label l).0 c),
      λ c. (add_contains labels label l).1 (⊎_elim (λ d. inl ((known.labels l).1 d)) (λ f. inr f)
          (Contains-push_cases (labels_in lines) label l c)),
    ));
    blocks = (let e = ap length (labels_append lines (Some (BlockLine label) ∷ [])) in let f = known.blocks in
        let g = length-append (labels_in lines) (label ∷ []) in omega arith);
    packets = known.packets ∙ ap (λ n. min n (2 ^ 32 - 1))
        (sym (packets_append lines (Some (BlockLine label) ∷ []) ∙ add-zero (packets_in lines)));
    some = always true refl (some_more lines (Some (BlockLine label)));
  }
