-- The listing in a report: its lines, and what is left behind them.
use Rattle.std.proofs.Common.{◌≡◌, ◌≢◌, ℕ, suc, ◌+◌, ◌<◌, ◌≤◌, ◌==◌, inl, inr, Bool, true, false, if◌then◌else◌, List, [], ◌∷◌, ◌++◌, map}
use Rattle.std.proofs.Common.{length, take, refl, sym, ap, ◌∙◌, arith, append_assoc, length-append}
use Rattle.std.specs.List.{AllZip, concat, flat_map, onto_first}
use Rattle.std.proofs.lemmas.List.Folds.{concat-append}
use Rattle.std.proofs.Math.Logic.{∥∥₁_elim}
use Rattle.std.proofs.Math.Nat.{ℕ_set}
use Rattle.std.proofs.Math.Seq.{take-append_seam}
use Rattle.un_base.proofs.LineLaws.{concat-pieces_of}
use Rattle.un_base.specs.Lines.{is_line_feed, pieces_of, joined_lines}
use Rattle.un_listing.specs.Listing.{packet_line, block_lines, code_lines, code_text}
use Rattle.un_listing_reader.proofs.CodeBack.{one_code, refused_within}
use Rattle.un_listing_reader.proofs.LineTexts.{IsSpelled, blocks_spelled, first_piece}
use Rattle.un_listing_reader.specs.Reading.{lines_in, packet_lines}
use Rattle.un_listing_reader.specs.declared.read.ListingError.TheVariants.{BadListing}
use Rattle.un_packet.specs.CodeRules.{KeepsRules, labels_of}
use Rattle.un_packet.specs.declared.code.Code.{Code}
use Rattle.un_packet.specs.declared.code.CodeBlock.{CodeBlock}
use Rattle.un_packet.specs.declared.code.Packet.{Packet}
use Rattle.un_report_reader.specs.Answers.{IsBehindLines}
use Rattle.un_report_reader.specs.FirstBad.{IsBadCode, first_lines}
use Rattle.un_report_reader.specs.Limits.{AreSmall}
use Rattle.un_report_reader.specs.Lines.{HasLines}
use Rattle.un_report_reader.specs.declared.limits.Limits.{Limits}

-- ---- the pieces of lines and more text

onto_append : (b : ℕ) (xs ys : List (List ℕ)) → xs ≢ [] → onto_first b (xs ++ ys) ≡ onto_first b xs ++ ys
onto_append b [] ys some = absurd (some refl)
onto_append b (x ∷ xs) ys some = refl

some_piece : (line rest : List ℕ) → pieces_of (line ++ 10 ∷ rest) ≢ []
some_piece [] rest e = cc e
some_piece (b ∷ bs) rest e = by (is_line_feed b) e
  where
    by : (v : Bool) → (if v then (b ∷ []) ∷ pieces_of (bs ++ 10 ∷ rest) else onto_first b (pieces_of (bs ++ 10 ∷ rest))) ≢ []
    by true f = cc f
    by false f = onto (pieces_of (bs ++ 10 ∷ rest)) f
      where
        onto : (xs : List (List ℕ)) → onto_first b xs ≢ []
        onto [] g = cc g
        onto (x ∷ xs) g = cc g

line_pieces : (line rest : List ℕ) → pieces_of (line ++ 10 ∷ rest) ≡ pieces_of (line ++ 10 ∷ []) ++ pieces_of rest
line_pieces [] rest = refl
line_pieces (b ∷ bs) rest = by (line_pieces bs rest) (is_line_feed b)
  where
    by : pieces_of (bs ++ 10 ∷ rest) ≡ pieces_of (bs ++ 10 ∷ []) ++ pieces_of rest
        → (v : Bool) → (if v then (b ∷ []) ∷ pieces_of (bs ++ 10 ∷ rest) else onto_first b (pieces_of (bs ++ 10 ∷ rest)))
        ≡ (if v then (b ∷ []) ∷ pieces_of (bs ++ 10 ∷ []) else onto_first b (pieces_of (bs ++ 10 ∷ []))) ++ pieces_of rest
    by later true = ap (λ (ts : List (List ℕ)). (b ∷ []) ∷ ts) later
    by later false = ap (onto_first b) later ∙ onto_append b (pieces_of (bs ++ 10 ∷ [])) (pieces_of rest) (some_piece bs [])

pub pieces_append : (ls : List (List ℕ)) (rest : List ℕ)
    → pieces_of (joined_lines ls ++ rest) ≡ pieces_of (joined_lines ls) ++ pieces_of rest
pieces_append [] rest = refl
pieces_append (l ∷ ls) rest =
    let more : List ℕ = joined_lines ls in
    ap pieces_of (append_assoc (l ++ 10 ∷ []) more rest ∙ append_assoc l (10 ∷ []) (more ++ rest))
    ∙ (line_pieces l (more ++ rest)
    ∙ (ap (λ (ts : List (List ℕ)). pieces_of (l ++ 10 ∷ []) ++ ts) (pieces_append ls rest)
    ∙ (sym (append_assoc (pieces_of (l ++ 10 ∷ [])) (pieces_of more) (pieces_of rest))
    ∙ ap (λ (ts : List (List ℕ)). ts ++ pieces_of rest) (sym (line_pieces l more) ∙ ap pieces_of (sym (append_assoc l (10 ∷ []) more))))))

-- ---- the lines of code

-- the pieces of a listing before more text are its own, and those of the text
pub code_pieces : (c : Code) (rest : List ℕ) → pieces_of (code_text c ++ rest) ≡ pieces_of (code_text c) ++ pieces_of rest
code_pieces c rest = pieces_append (code_lines c) rest

zipped : {X Y : Type 0} (R : X → Y → Type 0) (xs : List X) (ys : List Y) → AllZip R xs ys → length xs ≡ length ys
zipped R [] [] h = refl
zipped R [] (y ∷ ys) h = absurd h
zipped R (x ∷ xs) [] h = absurd h
zipped R (x ∷ xs) (y ∷ ys) h = ap suc (zipped R xs ys h.1)

packets_counted : (ps : List Packet) → length (packet_lines ps) ≡ length (map packet_line ps)
packets_counted [] = refl
packets_counted (p ∷ ps) = ap suc (packets_counted ps)

blocks_counted : (bs : List CodeBlock) → length (lines_in bs) ≡ length (flat_map block_lines bs)
blocks_counted [] = refl
blocks_counted (b ∷ bs) =
    let one_way = length-append (packet_lines b.packets) (lines_in bs) in
    let other = length-append (map packet_line b.packets) (flat_map block_lines bs) in
    let packets = packets_counted b.packets in
    let blocks = blocks_counted bs in
    omega (arith, one_way, other, packets, blocks)

-- they are its lines
pub code_counted : (c : Code) → length (pieces_of (code_text c)) ≡ length (code_lines c)
code_counted c = ∥∥₁_elim c.rules (ℕ_set _ _) (λ rules. by rules)
  where
    by : KeepsRules c.frame c.blocks → length (pieces_of (code_text c)) ≡ length (code_lines c)
    by rules =
        let pieces = ap length (first_piece c.frame rules.small (flat_map block_lines c.blocks)) in
        let lines = zipped (IsSpelled c.frame) (pieces_of (joined_lines (flat_map block_lines c.blocks))) (lines_in c.blocks)
        (blocks_spelled c.frame rules.small (labels_of c.blocks) c.blocks rules.good_blocks rules.named) in
        let blocks = blocks_counted c.blocks in
        omega (arith, pieces, lines, blocks)

-- ---- the lines that are read

-- the text of the lines, and what is left
pub behind_text : (text : List ℕ) (count : ℕ) (rest : List ℕ) (h : IsBehindLines text count rest) → text ≡ concat h.lines ++ rest
behind_text text count rest h =
    sym (concat-pieces_of text) ∙ (ap concat h.cut ∙ (concat-append h.lines (pieces_of rest)
    ∙ ap (λ (t : List ℕ). concat h.lines ++ t) (concat-pieces_of rest)))

pub behind_first : (text : List ℕ) (count : ℕ) (rest : List ℕ) (h : IsBehindLines text count rest) → first_lines count text ≡ concat h.lines
behind_first text count rest h =
    ap concat (ap (take count) h.cut ∙ (ap (λ (n : ℕ). take n (h.lines ++ pieces_of rest)) (sym h.counted)
    ∙ take-append_seam h.lines (pieces_of rest)))

pub behind_enough : (text : List ℕ) (count : ℕ) (rest : List ℕ) (h : IsBehindLines text count rest) → count ≤ length (pieces_of text)
behind_enough text count rest h =
    let all = ap length h.cut ∙ length-append h.lines (pieces_of rest) in
    let counted = h.counted in
    omega (arith, all, counted)

-- where they are a listing, it has so many lines
pub listing_counted : (text : List ℕ) (count : ℕ) (rest : List ℕ) (c : Code) (h : IsBehindLines text count rest)
    → concat h.lines ≡ code_text c → length (code_lines c) ≡ count
listing_counted text count rest c h is =
    let whole : text ≡ code_text c ++ rest = behind_text text count rest h ∙ ap (λ (t : List ℕ). t ++ rest) is in
    let pieces = ap (λ (t : List ℕ). length (pieces_of t)) whole ∙ (ap length (code_pieces c rest)
    ∙ length-append (pieces_of (code_text c)) (pieces_of rest)) in
    let lines = code_counted c in
    let all = ap length h.cut ∙ length-append h.lines (pieces_of rest) in
    let counted = h.counted in
    omega (arith, pieces, lines, all, counted)

-- ---- listings are told by their text

pub none_behind : (text : List ℕ) → IsBehindLines text 0 text
none_behind text = record { lines = []; cut = refl; counted = refl }

pub one_behind : (text : List ℕ) (count : ℕ) (rest : List ℕ) (next : ℕ) (line left : List ℕ) → IsBehindLines text count rest
    → next ≡ count + 1 → pieces_of rest ≡ line ∷ pieces_of left → IsBehindLines text next left
one_behind text count rest next line left h one cut =
    let more = length-append h.lines (line ∷ []) in
    let counted = h.counted in
    record {
      lines = h.lines ++ line ∷ [];
      cut = h.cut ∙ (ap (λ (ts : List (List ℕ)). h.lines ++ ts) cut ∙ sym (append_assoc h.lines (line ∷ []) (pieces_of left)));
      counted = omega (arith, more, counted, one);
    }

split : {X : Type 0} (xs ys a b : List X) → length xs ≡ length ys → xs ++ a ≡ ys ++ b → (xs ≡ ys) × (a ≡ b)
split [] [] a b long e = (refl, e)
split [] (y ∷ ys) a b long e = absurd (omega (arith, long))
split (x ∷ xs) [] a b long e = absurd (omega (arith, long))
split {X} (x ∷ xs) (y ∷ ys) a b long e =
    let head : x ≡ y = cc e in
    let tail : xs ++ a ≡ ys ++ b = cc e in
    let next = split xs ys a b (omega (arith, long)) tail in
    (ap (λ (z : X). z ∷ xs) head ∙ ap (λ (zs : List X). y ∷ zs) next.0, next.1)

pub codes_once : (c d : Code) (a b : List ℕ) → length (code_lines c) ≡ length (code_lines d) → code_text c ++ a ≡ code_text d ++ b
    → (c ≡ d) × (a ≡ b)
codes_once c d a b long e =
    let pieces = sym (code_pieces c a) ∙ (ap pieces_of e ∙ code_pieces d b) in
    let lines = (split (pieces_of (code_text c)) (pieces_of (code_text d)) (pieces_of a) (pieces_of b)
    (code_counted c ∙ (long ∙ sym (code_counted d))) pieces).0 in
    let texts : code_text c ≡ code_text d =
    sym (concat-pieces_of (code_text c)) ∙ (ap concat lines ∙ concat-pieces_of (code_text d)) in
    let parts = split (code_text c) (code_text d) a b (ap length texts) e in
    (one_code (code_text c) c d refl texts, parts.1)

-- and no line of one is bad
pub no_bad_code : (l : Limits) → AreSmall l → (count : ℕ) (c : Code) (rest text : List ℕ) (line : ℕ) → HasLines l count c
    → text ≡ code_text c ++ rest → IsBadCode l count text line → ⊥
no_bad_code l small count c rest text line has is (inr bad) =
    let long = has.0 in
    let pieces = ap (λ (t : List ℕ). length (pieces_of t)) is ∙ (ap length (code_pieces c rest)
    ∙ length-append (pieces_of (code_text c)) (pieces_of rest)) in
    let lines = code_counted c in
    let few = bad.0 in
    omega (arith, pieces, lines, long, few)
no_bad_code l small count c rest text line (long, few) is (inl bad) =
    let own : List (List ℕ) = pieces_of (code_text c) in
    let pieces : pieces_of text ≡ own ++ pieces_of rest = ap pieces_of is ∙ code_pieces c rest in
    let lines : first_lines count text ≡ code_text c =
    ap concat (ap (take count) pieces ∙ (ap (λ (n : ℕ). take n (own ++ pieces_of rest)) (sym long ∙ sym (code_counted c))
    ∙ take-append_seam own (pieces_of rest))) ∙ concat-pieces_of (code_text c) in
    cc (refused_within l.frame small.frame (first_lines count text) (BadListing line) c bad.1 (lines, few))

-- ---- texts that are empty, and that are not

pub some_text : (text : List ℕ) → false ≡ (length text == 0) → text ≢ []
some_text [] e is = cc e
some_text (x ∷ xs) e is = cc is

-- where nothing is left behind fewer lines, there are no more
pub few_behind : (text : List ℕ) (k count : ℕ) (rest : List ℕ) (h : IsBehindLines text k rest) → rest ≡ [] → k < count
    → length (pieces_of text) < count
few_behind text k count rest h none few =
    let all = ap length h.cut ∙ length-append h.lines (pieces_of rest) in
    let left : length (pieces_of rest) ≡ 0 = ap (λ (t : List ℕ). length (pieces_of t)) none in
    let counted = h.counted in
    omega (arith, all, left, counted, few)
