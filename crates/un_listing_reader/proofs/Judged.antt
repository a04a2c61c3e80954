-- What the tests of a line's place say.
use Rattle.std.proofs.Common.{◌≡◌, ◌↔◌, ℕ, suc, zero, ◌<◌, ◌||◌, ◌==◌, Bool, true, false, IsTrue, List, [], ◌∷◌, Contains, length, get_or}
use Rattle.std.proofs.Common.{Option, Some, IsSomeAnd, not, true≢false, ◌+◌, refl, sym, ap, ◌∙◌, arith}
use Rattle.std.specs.Str.{bytes_eq}
use Rattle.std.proofs.lemmas.Slice.Eq.{bytes_eq-Decides}
use Rattle.std.proofs.lemmas.Bool.{eqb-true}
use Rattle.std.specs.Bool.{OnTrue}
use Rattle.un_packet.specs.declared.code.TheConstants.{BLOCKS}
use Rattle.un_listing_reader.specs.declared.line.Line.{Line}
use Rattle.un_listing_reader.specs.declared.labels.Before.{Before}
use Rattle.un_packet.specs.declared.code.Packet.{Packet}
use Rattle.un_listing_reader.specs.declared.line.Line.TheVariants.{Block as BlockLine, Packet as PacketLine, Broken}
use Rattle.un_listing_reader.specs.Reading.{labels_in, BlockStands, PacketStands, Stands}
use Rattle.un_listing_reader.specs.LabelSets.{has_label, SameLabels, IsBefore}

has_true : (labels : List (List ℕ)) (label : List ℕ) → has_label labels label ≡ true → Contains labels label
has_true [] label h = absurd (cc h)
has_true (l ∷ ls) label h = by (bytes_eq label l) refl h (has_true ls label)
  where
    by : (v : Bool) → bytes_eq label l ≡ v → (v || has_label ls label) ≡ true → (has_label ls label ≡ true → Contains ls label)
        → Contains (l ∷ ls) label
    by true e k more = (0, omega arith, sym ((bytes_eq-Decides label l).0 e))
    by false e k more = let c = more k in (suc c.0, omega (arith, c.1), c.2)

has_back : (labels : List (List ℕ)) (label : List ℕ) (k : ℕ) → k < length labels → get_or labels k label ≡ label
    → has_label labels label ≡ true
has_back [] label k below e = absurd (omega arith)
has_back (l ∷ ls) label zero below e = rw ((bytes_eq-Decides label l).1 (sym e)) refl
has_back (l ∷ ls) label (suc k) below e = by (bytes_eq label l) (has_back ls label k (omega arith) e)
  where
    by : (v : Bool) → has_label ls label ≡ true → (v || has_label ls label) ≡ true
    by true h = refl
    by false h = h

pub has_decides : (labels : List (List ℕ)) (label : List ℕ) → IsTrue (has_label labels label) ↔ Contains labels label
has_decides labels label = (has_true labels label, λ c. has_back labels label c.0 c.1 c.2)

pub leads_some : (labels all : List (List ℕ)) → SameLabels labels all → (jump : Bool) → jump ≡ true → (o : Option (List ℕ)) (label : List ℕ)
    → o ≡ Some label
    → (b : Bool) → b ≡ has_label labels label → IsTrue b ↔ OnTrue jump (IsSomeAnd o (Contains all))
leads_some labels all same jump j o label e b h =
    rw (j, e, h) (λ t. (same label).0 ((has_decides labels label).0 t), λ c. (has_decides labels label).1 ((same label).1 c))

pub block_decides : (before : Before) (last : Bool) (lines after : List (Option Line)) (label : List ℕ) → IsBefore before lines
    → IsTrue last ↔ (after ≡ []) → last ≡ false
    → before.blocks + 1 < BLOCKS → (b : Bool) → b ≡ has_label before.labels label → IsTrue (not b) ↔ BlockStands lines after label
block_decides before last lines after label known ends here few b h = (forward, backward)
  where
    told : Contains (labels_in lines) label → b ≡ true
    told c = h ∙ (has_decides before.labels label).1 ((known.labels label).1 c)

    forward : IsTrue (not b) → BlockStands lines after label
    forward t = record {
      new = λ c. (let e = told c in let f : not b ≡ false = ap not e in true≢false (sym t ∙ f));
      few = (let e = known.blocks in omega arith);
      more = λ e. true≢false (sym (ends.1 e) ∙ here);
    }

    backward : BlockStands lines after label → IsTrue (not b)
    backward s = by b refl
      where
        by : (v : Bool) → b ≡ v → IsTrue (not v)
        by false e = refl
        by true e = absurd (s.new ((known.labels label).0 ((has_decides before.labels label).0 (sym h ∙ e))))

pub empty_decides : {X : Type 0} (xs : List X) (b : Bool) → b ≡ (length xs == 0) → IsTrue b ↔ (xs ≡ [])
empty_decides [] b h = (λ t. refl, λ e. h)
empty_decides (x ∷ xs) b h = (λ t. absurd (omega (arith, eqb-true (length (x ∷ xs)) 0 (sym h ∙ t))), λ e. absurd (cc e))

-- the line of a label, where it is told by one fact which line it is
pub stands_block : (all : List (List ℕ)) (lines after : List (Option Line)) (line : Line) (label : List ℕ) → line ≡ BlockLine label
    → (b : Bool)
    → IsTrue b ↔ BlockStands lines after label → IsTrue b ↔ Stands all lines (Some line) after
stands_block all lines after line label e b h = rw e h

pub stands_packet : (all : List (List ℕ)) (lines after : List (Option Line)) (line : Line) (p : Packet) → line ≡ PacketLine p → (b : Bool)
    → IsTrue b ↔ PacketStands all lines after p → IsTrue b ↔ Stands all lines (Some line) after
stands_packet all lines after line p e b h = rw e h

pub stands_broken : (all : List (List ℕ)) (lines after : List (Option Line)) (line : Line) → line ≡ Broken → (b : Bool) → b ≡ false
    → IsTrue b ↔ Stands all lines (Some line) after
stands_broken all lines after line e b h = rw (e, h) (λ t. absurd (cc t), λ x. absurd x)
