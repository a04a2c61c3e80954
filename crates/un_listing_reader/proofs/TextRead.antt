-- The text whose pieces are read as the lines of blocks.
use Rattle.std.proofs.Common.{◌≡◌, ℕ, true, List, [], ◌∷◌, ◌++◌, Option, map, All, codes, refl, sym, ap, ◌∙◌, append_assoc}
use Rattle.std.specs.List.{AllZip, AllByRecursion as Each, concat, flat_map}
use Rattle.std.proofs.lemmas.List.Elements.{All-cons, All-nil}
use Rattle.un_base.specs.Lines.{joined_lines}
use Rattle.un_base.specs.Names.{is_name}
use Rattle.un_packet.specs.declared.code.Packet.{Packet}
use Rattle.un_packet.specs.declared.code.CodeBlock.{CodeBlock}
use Rattle.un_packet.specs.CodeRules.{IsGoodPacket}
use Rattle.un_listing_reader.specs.declared.line.Line.{Line}
use Rattle.un_listing.specs.Listing.{packet_line, block_lines}
use Rattle.un_listing_reader.specs.Reading.{lines_in, packet_lines, IsReadAs}

-- the pieces behind those of packets
record PacketsRead (frame : ℕ) (texts : List (List ℕ)) (ps : List Packet) (rest : List (Option Line)) : Type 0 where
  more : List (List ℕ)
  later : AllZip (IsReadAs frame) more rest
  good : All (IsGoodPacket frame) ps
  text : concat texts ≡ joined_lines (map packet_line ps) ++ concat more

packets_read : (frame : ℕ) (texts : List (List ℕ)) (ps : List Packet) (rest : List (Option Line))
    → AllZip (IsReadAs frame) texts (packet_lines ps ++ rest)
    → PacketsRead frame texts ps rest
packets_read frame texts [] rest h = record {
  more = texts;
  later = h;
  good = All-nil (IsGoodPacket frame);
  text = refl;
}
packets_read frame [] (p ∷ ps) rest h = absurd h
packets_read frame (t ∷ ts) (p ∷ ps) rest (here, later) =
    let r = packets_read frame ts ps rest later in
    record {
      more = r.more;
      later = r.later;
      good = All-cons (IsGoodPacket frame) p ps here.good r.good;
      text = ap (λ (x : List ℕ). x ++ concat ts) here.spelled ∙ ap (λ (x : List ℕ). (packet_line p ++ codes "\n") ++ x) r.text
          ∙ sym (append_assoc (packet_line p ++ codes "\n") (joined_lines (map packet_line ps)) (concat r.more));
    }

pub record BlocksRead (frame : ℕ) (texts : List (List ℕ)) (bs : List CodeBlock) : Type 0 where
  pub good : Each (λ (b : CodeBlock). All (IsGoodPacket frame) b.packets) bs
  pub named : All (λ (b : CodeBlock). is_name b.label ≡ true) bs
  pub text : concat texts ≡ joined_lines (flat_map block_lines bs)

pub joined_append : (xs ys : List (List ℕ)) → joined_lines (xs ++ ys) ≡ joined_lines xs ++ joined_lines ys
joined_append [] ys = refl
joined_append (x ∷ xs) ys = ap (λ (t : List ℕ). (x ++ 10 ∷ []) ++ t) (joined_append xs ys)
    ∙ sym (append_assoc (x ++ 10 ∷ []) (joined_lines xs) (joined_lines ys))

pub blocks_read : (frame : ℕ) (texts : List (List ℕ)) (bs : List CodeBlock) → AllZip (IsReadAs frame) texts (lines_in bs)
    → BlocksRead frame texts bs
blocks_read frame [] [] h = record { good = tt; named = All-nil (λ (b : CodeBlock). is_name b.label ≡ true); text = refl }
blocks_read frame (t ∷ ts) [] h = absurd h
blocks_read frame [] (b ∷ bs) h = absurd h
blocks_read frame (t ∷ ts) (b ∷ bs) (here, later) =
    let r = packets_read frame ts b.packets (lines_in bs) later in
    let m = blocks_read frame r.more bs r.later in
    record {
      good = (r.good, m.good);
      named = All-cons (λ (b : CodeBlock). is_name b.label ≡ true) b bs here.good m.named;
      text = ap (λ (x : List ℕ). x ++ concat ts) here.spelled
          ∙ ap (λ (x : List ℕ). (codes "block " ++ (b.label ++ codes "\n")) ++ x)
          (r.text ∙ ap (λ (x : List ℕ). joined_lines (map packet_line b.packets) ++ x) m.text)
          ∙ ap (λ (x : List ℕ). (codes "block " ++ (b.label ++ codes "\n")) ++ x)
          (sym (joined_append (map packet_line b.packets) (flat_map block_lines bs)))
          ∙ ap (λ (x : List ℕ). x ++ joined_lines (map packet_line b.packets ++ flat_map block_lines bs))
          (sym (append_assoc (codes "block ") b.label (codes "\n")));
    }
