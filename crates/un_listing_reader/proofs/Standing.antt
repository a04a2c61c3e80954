-- Lines that stand, one after another.
use Rattle.std.proofs.Common.{◌≡◌, ◌↔◌, ◌<◌, ◌≤◌, ℕ, suc, zero, ◌+◌, Bool, IsTrue, List, [], ◌∷◌, ◌++◌, Option, Some, None, take, drop}
use Rattle.std.proofs.Common.{length, get_or, ◌-◌, slice_get, refl, sym, ap, ◌∙◌, subst, arith, append-nil, add-one, append_assoc, Contains}
use Rattle.std.proofs.Common.{◌⊎◌, inl, inr, ⊎_elim, length-append}
use Rattle.std.proofs.Math.Seq.{take-append_seam}
use Rattle.std.proofs.lemmas.List.Elements.{Contains-append_left, Contains-push, Contains-push_cases}
use Rattle.std.proofs.lemmas.List.{take_more, take_all, length-drop}
use Rattle.std.proofs.lemmas.Option.{slice_get_within, slice_get-get_or, get_or_from_slice_get}
use Rattle.un_packet.specs.declared.code.Packet.{Packet}
use Rattle.un_packet.specs.declared.code.CodeBlock.{CodeBlock}
use Rattle.un_listing_reader.specs.declared.line.Line.{Line}
use Rattle.un_listing_reader.specs.declared.line.Line.TheVariants.{Block as BlockLine, Packet as PacketLine, Broken}
use Rattle.un_listing_reader.specs.declared.labels.Before.{Before}
use Rattle.un_listing_reader.specs.Reading.{labels_in, StandsAt, Stands, AllStand, lines_in, packet_lines, IsUnder}
use Rattle.un_listing_reader.specs.LabelSets.{IsBefore, SameLabels, add_label}
use Rattle.un_listing_reader.proofs.Noting.{add_contains, labels_append}

-- what is known of lines before the place k, which all stand
pub record StandSoFar (before : Before) (lines : List (Option Line)) (k : ℕ) : Type 0 where
  pub known : IsBefore before (take k lines)
  pub stand : (j : ℕ) → j < k → StandsAt lines j

module _ (labels : List (List ℕ)) (lines : List (Option Line)) (same : SameLabels labels (labels_in lines)) where
  pub none_added : SameLabels labels (labels_in (lines ++ None ∷ []))
  none_added = rw (labels_append lines (None ∷ []), append-nil (labels_in lines)) same

  pub broken_added : SameLabels labels (labels_in (lines ++ Some Broken ∷ []))
  broken_added = rw (labels_append lines (Some Broken ∷ []), append-nil (labels_in lines)) same

  pub packet_added : (p : Packet) → SameLabels labels (labels_in (lines ++ Some (PacketLine p) ∷ []))
  packet_added p = rw (labels_append lines (Some (PacketLine p) ∷ []), append-nil (labels_in lines)) same

  pub label_added : (label : List ℕ) → SameLabels (add_label labels label) (labels_in (lines ++ Some (BlockLine label) ∷ []))
  label_added label = rw (labels_append lines (Some (BlockLine label) ∷ [])) (λ l. (
    λ c. ⊎_elim (λ d. Contains-append_left (labels_in lines) (label ∷ []) l ((same l).0 d))
        (λ f. subst (λ (x : List ℕ). Contains (labels_in lines ++ label ∷ []) x) f (Contains-push (labels_in lines) label))
        ((add_contains labels label l).0 c),
    λ c. (add_contains labels label l).1 (⊎_elim (λ d. inl ((same l).1 d)) (λ f. inr f)
        (Contains-push_cases (labels_in lines) label l c)),
  ))

  pub label_added_to : (label : List ℕ) (new : List (List ℕ)) (line : Option Line) → new ≡ add_label labels label
      → line ≡ Some (BlockLine label)
      → SameLabels new (labels_in (lines ++ line ∷ []))
  label_added_to label new line e f = rw (e, f) (label_added label)

-- ---- one line after another

get_seam : (ls : List (Option Line)) (x : Option Line) (rest : List (Option Line)) → slice_get (ls ++ x ∷ rest) (length ls) ≡ Some x
get_seam [] x rest = refl
get_seam (l ∷ ls) x rest = get_seam ls x rest

drop_seam : (ls : List (Option Line)) (x : Option Line) (rest : List (Option Line)) → drop (length ls + 1) (ls ++ x ∷ rest) ≡ rest
drop_seam ls x rest = rw add-one (by ls)
  where
    by : (ms : List (Option Line)) → drop (suc (length ms)) (ms ++ x ∷ rest) ≡ rest
    by [] = refl
    by (m ∷ ms) = by ms

pub here_stands : (ls : List (Option Line)) (x : Option Line) (rest : List (Option Line))
    → StandsAt (ls ++ x ∷ rest) (length ls) ↔ Stands (labels_in (ls ++ x ∷ rest)) ls x rest
here_stands ls x rest = rw (get_seam ls x rest, take-append_seam ls (x ∷ rest), drop_seam ls x rest) (λ h. h, λ h. h)

at_least : (n k : ℕ) → n ≤ k → (k ≡ n) ⊎ (n < k)
at_least zero zero low = inl refl
at_least zero (suc k) low = inr (omega arith)
at_least (suc n) zero low = absurd (omega arith)
at_least (suc n) (suc k) low = ⊎_elim (λ e. inl (ap suc e)) (λ more. inr (omega arith)) (at_least n k (omega arith))

-- lines that stand behind these
abbrev pub StandFrom : List (List ℕ) → List (Option Line) → List (Option Line) → Type 0
StandFrom all before [] = Unit {0}
StandFrom all before (x ∷ xs) = Stands all before x xs × StandFrom all (before ++ x ∷ []) xs

pub from_places : (before rest : List (Option Line)) → ((k : ℕ) → k < length (before ++ rest) → StandsAt (before ++ rest) k)
    → StandFrom (labels_in (before ++ rest)) before rest
from_places before [] h = tt
from_places before (x ∷ xs) h = (
  (here_stands before x xs).0 (h (length before) (let e = length-append before (x ∷ xs) in omega arith)),
  (let e : (before ++ x ∷ []) ++ xs ≡ before ++ x ∷ xs = append_assoc before (x ∷ []) xs in
      subst (λ (ls : List (Option Line)). StandFrom (labels_in ls) (before ++ x ∷ []) xs) e
      (from_places (before ++ x ∷ []) xs (rw e h))),
)

pub to_places : (before rest : List (Option Line)) → StandFrom (labels_in (before ++ rest)) before rest
    → (k : ℕ) → length before ≤ k → k < length (before ++ rest) → StandsAt (before ++ rest) k
to_places before [] s k low high = absurd (let e = ap length (append-nil before) in omega arith)
to_places before (x ∷ xs) (here, later) k low high =
    by (at_least (length before) k low) (λ more.
    subst (λ (ls : List (Option Line)). StandsAt ls k) (append_assoc before (x ∷ []) xs)
    (to_places (before ++ x ∷ []) xs (rw (append_assoc before (x ∷ []) xs) later) k
    (let f = length-append before (x ∷ []) in omega arith)
    (rw (append_assoc before (x ∷ []) xs) high)))
  where
    by : (k ≡ length before) ⊎ (length before < k) → (length before < k → StandsAt (before ++ x ∷ xs) k) → StandsAt (before ++ x ∷ xs) k
    by (inl f) more = rw f ((here_stands before x xs).1 here)
    by (inr above) more = more above

-- ---- one place after another

pub decided : (lines : List (Option Line)) (k : ℕ) (line : Option Line) (after : List (Option Line)) → slice_get lines k ≡ Some line
    → after ≡ drop (k + 1) lines → (b : Bool) → IsTrue b ↔ Stands (labels_in lines) (take k lines) line after
    → IsTrue b ↔ StandsAt lines k
decided lines k line after e f b h = rw e (rw f at h)

pub got : (lines : List (Option Line)) (k : ℕ) (line : Option Line) → k < length lines → line ≡ get_or lines k line
    → slice_get lines k ≡ Some line
got lines k line below e = slice_get-get_or lines k line below ∙ ap (λ (x : Option Line). Some x) (sym e)

pub judged : (lines : List (Option Line)) (k : ℕ) (line : Option Line) (b : Bool) → k < length lines → line ≡ get_or lines k line
    → IsTrue b ↔ Stands (labels_in lines) (take k lines) line (take (length lines - (k + 1)) (drop (k + 1) lines))
    → IsTrue b ↔ StandsAt lines k
judged lines k line b below e h =
    decided lines k line (take (length lines - (k + 1)) (drop (k + 1) lines)) (got lines k line below e)
    (take_all (length lines - (k + 1)) (drop (k + 1) lines) (omega (arith, length-drop (k + 1) lines))) b h

pub take_here : (lines : List (Option Line)) (k : ℕ) (line : Option Line) → slice_get lines k ≡ Some line
    → take (k + 1) lines ≡ take k lines ++ line ∷ []
take_here lines k line e =
    take_more lines k line (slice_get_within lines k line e)
    ∙ ap (λ (x : Option Line). take k lines ++ x ∷ []) (get_or_from_slice_get lines k line line e)

pub stand_more : (before : Before) (lines : List (Option Line)) (k : ℕ) (line : Option Line) → slice_get lines k ≡ Some line
    → ((j : ℕ) → j < k → StandsAt lines j)
    → StandsAt lines k → IsBefore before (take k lines ++ line ∷ []) → StandSoFar before lines (k + 1)
stand_more before lines k line e sofar here known = record {
  known = rw (take_here lines k line e) known;
  stand = λ j below. by j (at_least j k (omega arith));
}
  where
    by : (j : ℕ) → (k ≡ j) ⊎ (j < k) → StandsAt lines j
    by j (inl same) = subst (λ (i : ℕ). StandsAt lines i) same here
    by j (inr below) = sofar j below

pub stand_more_to : (before now : Before) (lines : List (Option Line)) (k : ℕ) (item : Option Line) (line : Line) → now ≡ before
    → slice_get lines k ≡ Some item → item ≡ Some line
    → ((j : ℕ) → j < k → StandsAt lines j) → StandsAt lines k → IsBefore before (take k lines ++ Some line ∷ [])
    → StandSoFar now lines (k + 1)
stand_more_to before now lines k item line same e f sofar here known = rw same
    (stand_more before lines k (Some line) (e ∙ ap (λ (x : Option Line). Some x) f) sofar here known)

pub none_stands : (lines : List (Option Line)) (k : ℕ) (item : Option Line) → slice_get lines k ≡ Some item → item ≡ None
    → StandsAt lines k → ⊥
none_stands lines k item e f = rw (e, f) (λ h. h)

-- ---- blocks out of lines

block_lines-append : (bs cs : List CodeBlock) → lines_in (bs ++ cs) ≡ lines_in bs ++ lines_in cs
block_lines-append [] cs = refl
block_lines-append (b ∷ bs) cs =
    ap (λ (ls : List (Option Line)). Some (BlockLine b.label) ∷ packet_lines b.packets ++ ls) (block_lines-append bs cs)
    ∙ ap (λ (ls : List (Option Line)). Some (BlockLine b.label) ∷ ls)
    (sym (append_assoc (packet_lines b.packets) (lines_in bs) (lines_in cs)))

pub block_pushed : (bs : List CodeBlock) (label : List ℕ) → lines_in
    (bs ++ record { label = label; packets = [] } ∷ []) ≡ lines_in bs ++ Some (BlockLine label) ∷ []
block_pushed bs label = block_lines-append bs (record { label = label; packets = [] } ∷ [])

packets_append_lines : (ps : List Packet) (p : Packet) (rest : List (Option Line))
    → packet_lines (ps ++ p ∷ []) ++ rest ≡ packet_lines ps ++ Some (PacketLine p) ∷ rest
packets_append_lines [] p rest = refl
packets_append_lines (q ∷ ps) p rest = ap (λ (ls : List (Option Line)). Some (PacketLine q) ∷ ls) (packets_append_lines ps p rest)

pub packet_pushed : (bs : List CodeBlock) (label : List ℕ) (ps : List Packet) (p : Packet)
    → lines_in (bs ++ record { label = label; packets = ps ++ p ∷ [] } ∷ []) ≡ lines_in
    (bs ++ record { label = label; packets = ps } ∷ []) ++ Some (PacketLine p) ∷ []
packet_pushed bs label ps p =
    block_lines-append bs (record { label = label; packets = ps ++ p ∷ [] } ∷ [])
    ∙ ap (λ (ls : List (Option Line)). lines_in bs ++ Some (BlockLine label) ∷ ls)
    (packets_append_lines ps p [] ∙ ap (λ (ls : List (Option Line)). ls ++ Some (PacketLine p) ∷ []) (sym (append-nil (packet_lines ps))))
    ∙ sym (append_assoc (lines_in bs) (Some (BlockLine label) ∷ packet_lines ps ++ []) (Some (PacketLine p) ∷ []))
    ∙ ap (λ (ls : List (Option Line)). ls ++ Some (PacketLine p) ∷ [])
    (sym (block_lines-append bs (record { label = label; packets = ps } ∷ [])))

pub block_pushed_to : (old new : List CodeBlock) (label : List ℕ) (packets : List Packet) (line : Line) → line ≡ BlockLine label
    → packets ≡ []
    → new ≡ old ++ record { label = label; packets = packets } ∷ [] → lines_in new ≡ lines_in old ++ Some line ∷ []
block_pushed_to old new label packets line e f g = rw (g, f, e) (block_pushed old label)

pub packet_pushed_to : (old front new : List CodeBlock) (block : CodeBlock) (label : List ℕ) (ps more : List Packet) (p : Packet)
    (line : Line)
    → old ≡ front ++ block ∷ [] → block ≡ record { label = label; packets = ps } → more ≡ ps ++ p ∷ []
    → new ≡ front ++ record { label = label; packets = more } ∷ [] → line ≡ PacketLine p → lines_in new ≡ lines_in old ++ Some line ∷ []
packet_pushed_to old front new block label ps more p line e b f g h = rw (e, b, g, f, h) (packet_pushed front label ps p)

pub is_under : (blocks : List CodeBlock) (line : Line) (rest lines : List (Option Line)) → AllStand lines
    → lines_in blocks ++ Some line ∷ rest ≡ lines → IsUnder blocks line
is_under blocks (BlockLine label) rest lines all e = tt
is_under blocks Broken rest lines all e =
    (here_stands (lines_in blocks) (Some Broken) rest).0
    (rw e (all.each (length (lines_in blocks)) (let f = ap length e in let g = length-append (lines_in blocks)
    (Some Broken ∷ rest) in omega arith)))
is_under blocks (PacketLine p) rest lines all e = λ none.
    let stands = (here_stands (lines_in blocks) (Some (PacketLine p)) rest).0
    (rw e (all.each (length (lines_in blocks)) (let f = ap length e in let g = length-append (lines_in blocks)
    (Some (PacketLine p) ∷ rest) in omega arith))) in
    stands.under (ap lines_in none)

pub is_there : (before rest lines : List (Option Line)) → AllStand lines → before ++ None ∷ rest ≡ lines → ⊥
is_there before rest lines all e =
    (here_stands before None rest).0
    (rw e (all.each (length before) (let f = ap length e in let g = length-append before (None ∷ rest) in omega arith)))

pub line_goes : (bs cs : List CodeBlock) (line : Line) (item : Option Line) (left rest lines : List (Option Line)) → AllStand lines
    → lines_in bs ++ left ≡ lines
    → left ≡ item ∷ rest → item ≡ Some line → (IsUnder bs line → lines_in cs ≡ lines_in bs ++ Some line ∷ [])
    → lines_in cs ++ rest ≡ lines
line_goes bs cs line item left rest lines all e f g more =
    let whole : lines_in bs ++ Some line ∷ rest ≡ lines = ap (λ (x : Option Line). lines_in bs ++ x ∷ rest) (sym g)
    ∙ ap (λ (ls : List (Option Line)). lines_in bs ++ ls) (sym f) ∙ e in
    ap (λ (ls : List (Option Line)). ls ++ rest) (more (is_under bs line rest lines all whole))
    ∙ append_assoc (lines_in bs) (Some line ∷ []) rest ∙ whole

pub none_goes : (bs : List CodeBlock) (item : Option Line) (left rest lines : List (Option Line)) → AllStand lines
    → lines_in bs ++ left ≡ lines
    → left ≡ item ∷ rest → item ≡ None → lines_in bs ++ rest ≡ lines
none_goes bs item left rest lines all e f g =
    absurd (is_there (lines_in bs) rest lines all
    (ap (λ (x : Option Line). lines_in bs ++ x ∷ rest) (sym g) ∙ ap (λ (ls : List (Option Line)). lines_in bs ++ ls) (sym f) ∙ e))
