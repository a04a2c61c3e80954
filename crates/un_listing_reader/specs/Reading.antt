-- Reading a listing: what its lines spell, which of them stand at their places, and the first that does not.
use Rattle.std.specs.Prelude.{ℕ, suc, ◌≡◌, ◌≢◌, ◌+◌, ◌<◌, ◌≤◌, ◌%◌, ◌⊎◌, Bool, true, false, List, [], ◌∷◌, ◌++◌, Option, Some, None, Result}
use Rattle.std.specs.Prelude.{Ok, Err, All, Contains, IsSomeAnd, map, length, take, drop, slice_get, codes}
use Rattle.std.specs.Bool.{OnTrue}
use Rattle.std.specs.List.{AllZip}
use Rattle.std.specs.Fmt.{decimal}
use Rattle.un_base.specs.Lines.{pieces_of}
use Rattle.un_base.specs.Names.{is_name}
use Rattle.un_isa.specs.declared.reg.TheConstants.{FRAME}
use Rattle.un_packet.specs.declared.code.TheConstants.{PACKETS, BLOCKS}
use Rattle.un_packet.specs.declared.code.Packet.{Packet}
use Rattle.un_packet.specs.declared.code.CodeBlock.{CodeBlock}
use Rattle.un_packet.specs.declared.code.Code.{Code}
use Rattle.un_packet.specs.CodeRules.{IsGoodPacket, LeadsToOneOf, transfers, leaves}
use Rattle.un_listing_reader.specs.declared.line.Line.{Line}
use Rattle.un_listing_reader.specs.declared.line.Line.TheVariants.{Block as BlockLine, Packet as PacketLine, Broken}
use Rattle.un_listing_reader.specs.declared.read.ListingError.{ListingError}
use Rattle.un_listing_reader.specs.declared.read.ListingError.TheVariants.{NoMemory, BadListing}
use Rattle.un_listing.specs.Listing.{packet_line, code_text}
use Rattle.un_listing_reader.specs.PacketForms.{IsPacketForm}

abbrev pub LineValue : Type 0
LineValue = Line

-- ---- what a line spells

abbrev pub line_text : Line → List ℕ
line_text (BlockLine label) = codes "block " ++ (label ++ codes "\n")
line_text (PacketLine p) = packet_line p ++ codes "\n"
line_text Broken = []

-- a name, or a packet of code with a frame of so many bytes
abbrev pub IsGoodLine : ℕ → Line → Type 0
IsGoodLine frame (BlockLine label) = is_name label ≡ true
IsGoodLine frame (PacketLine p) = IsGoodPacket frame p
IsGoodLine frame Broken = ⊥

-- a line with its line feed
pub record Spells (frame : ℕ) (text : List ℕ) (line : Line) : Type 0 where
  pub good : IsGoodLine frame line
  pub spelled : text ≡ line_text line

-- a text spells nothing
abbrev pub SpellsNone : ℕ → List ℕ → Type 0
SpellsNone frame text = (line : Line) → ¬ Spells frame text line

-- a text is read as what it spells; where it spells nothing, as a broken line where it is a packet's by its form, and else as None
abbrev pub IsReadAs : ℕ → List ℕ → Option Line → Type 0
IsReadAs frame text None = SpellsNone frame text × ¬ IsPacketForm text
IsReadAs frame text (Some (BlockLine label)) = Spells frame text (BlockLine label)
IsReadAs frame text (Some (PacketLine p)) = Spells frame text (PacketLine p)
IsReadAs frame text (Some Broken) = SpellsNone frame text × IsPacketForm text

-- the first line: the size of the frame in bytes
abbrev pub frame_text : ℕ → List ℕ
frame_text frame = codes "frame " ++ (decimal frame ++ codes "\n")

-- it is at most so many
pub record IsFrameLine (most : ℕ) (text : List ℕ) (frame : ℕ) : Type 0 where
  pub whole : frame % 8 ≡ 0
  pub small : frame ≤ most
  pub spelled : text ≡ frame_text frame

-- ---- which lines stand at their places

-- the labels of lines
abbrev pub labels_in : List (Option Line) → List (List ℕ)
labels_in [] = []
labels_in (None ∷ ls) = labels_in ls
labels_in (Some (BlockLine label) ∷ ls) = label ∷ labels_in ls
labels_in (Some (PacketLine p) ∷ ls) = labels_in ls
labels_in (Some Broken ∷ ls) = labels_in ls

-- how many lines are packets of code
abbrev pub packets_in : List (Option Line) → ℕ
packets_in [] = 0
packets_in (None ∷ ls) = packets_in ls
packets_in (Some (BlockLine label) ∷ ls) = packets_in ls
packets_in (Some (PacketLine p) ∷ ls) = suc (packets_in ls)
packets_in (Some Broken ∷ ls) = packets_in ls

-- a packet of the same block comes next, also one that breaks a rule
abbrev pub goes_on : List (Option Line) → Bool
goes_on (Some (PacketLine p) ∷ ls) = true
goes_on (Some Broken ∷ ls) = true
goes_on _ = false

-- a label's line among others: no earlier line has the label, there are not too many, and it is not the last line
pub record BlockStands (before after : List (Option Line)) (label : List ℕ) : Type 0 where
  pub new : ¬ Contains (labels_in before) label
  pub few : length (labels_in before) + 1 < BLOCKS
  pub more : after ≢ []

-- a packet's line among others: a label stands before it, there are not too many, its jumps lead to labels, no packet of its
-- block follows where it leaves the block, and the last line leaves its block always
pub record PacketStands (labels : List (List ℕ)) (before after : List (Option Line)) (p : Packet) : Type 0 where
  pub under : before ≢ []
  pub few : packets_in before + 1 < PACKETS
  pub targets : All (LeadsToOneOf labels) p.instrs
  pub last : OnTrue (transfers p) (goes_on after ≡ false)
  pub ending : after ≡ [] → leaves p ≡ true

abbrev pub Stands : List (List ℕ) → List (Option Line) → Option Line → List (Option Line) → Type 0
Stands labels before None after = ⊥
Stands labels before (Some (BlockLine label)) after = BlockStands before after label
Stands labels before (Some (PacketLine p)) after = PacketStands labels before after p
Stands labels before (Some Broken) after = ⊥

-- the line at place k from 0 behind the first line
abbrev pub StandsAt : List (Option Line) → ℕ → Type 0
StandsAt lines k = IsSomeAnd (slice_get lines k) (λ line. Stands (labels_in lines) (take k lines) line (drop (k + 1) lines))

-- there is a line, and each stands
pub record AllStand (lines : List (Option Line)) : Type 0 where
  pub some : lines ≢ []
  pub each : (k : ℕ) → k < length lines → StandsAt lines k

-- the lines of blocks
abbrev pub packet_lines : List Packet → List (Option Line)
packet_lines packets = map (λ (p : Packet). Some (PacketLine p)) packets

abbrev pub lines_in : List CodeBlock → List (Option Line)
lines_in [] = []
lines_in (block ∷ blocks) = Some (BlockLine block.label) ∷ packet_lines block.packets ++ lines_in blocks

-- a packet's line stands under a label
abbrev pub IsUnder : List CodeBlock → Line → Type 0
IsUnder blocks (BlockLine label) = Unit {0}
IsUnder blocks (PacketLine p) = blocks ≢ []
IsUnder blocks Broken = ⊥

-- ---- the first bad line

-- all before it stand, and it does not; where there is no line, it is the one that is missing
pub record IsFirstBadOf (lines : List (Option Line)) (k : ℕ) : Type 0 where
  pub before : (j : ℕ) → j < k → StandsAt lines j
  pub here : ¬ StandsAt lines k
  pub inside : lines ≢ [] → k < length lines

-- the same of the lines behind a first line, where each is read as what it spells
pub record IsBadBehind (most : ℕ) (first : List ℕ) (rest : List (List ℕ)) (number : ℕ) : Type 0 where
  pub frame : ℕ
  pub lines : List (Option Line)
  pub place : ℕ
  pub framed : IsFrameLine most first frame
  pub read : AllZip (IsReadAs frame) rest lines
  pub bad : IsFirstBadOf lines place
  pub numbered : number ≡ place + 2

-- a first line that is no frame's is bad, and one that is missing
abbrev pub IsFirstBadIn : ℕ → List (List ℕ) → ℕ → Type 0
IsFirstBadIn most [] number = number ≡ 1
IsFirstBadIn most (first ∷ rest) number =
    (((frame : ℕ) → ¬ IsFrameLine most first frame) × (number ≡ 1)) ⊎ IsBadBehind most first rest number

-- the first line outside the grammar of listings whose frame has at most so many bytes, counted from 1. A line stands with its line
-- feed.
abbrev pub IsFirstBadWithin : ℕ → List ℕ → ℕ → Type 0
IsFirstBadWithin most text number = IsFirstBadIn most (pieces_of text) number

abbrev pub IsFirstBad : List ℕ → ℕ → Type 0
IsFirstBad = IsFirstBadWithin FRAME

-- an error is an answer to a text: there was no memory, or the line is the first bad one
abbrev pub IsErrorWithin : ℕ → List ℕ → ListingError → Type 0
IsErrorWithin most text NoMemory = Unit {0}
IsErrorWithin most text (BadListing line) = IsFirstBadWithin most text line

abbrev pub IsErrorOf : List ℕ → ListingError → Type 0
IsErrorOf = IsErrorWithin FRAME

-- ---- the listing of code

-- the text is the listing of code, which keeps the rules of its type
abbrev pub IsListingOf : List ℕ → Code → Type 0
IsListingOf text c = text ≡ code_text c

-- the same of code whose frame has at most so many bytes
abbrev pub IsListingWithin : ℕ → List ℕ → Code → Type 0
IsListingWithin most text c = IsListingOf text c × (c.frame ≤ most)

-- an answer to the listing of code is that code, or there was no memory
abbrev pub IsReadBack : Code → Result Code ListingError → Type 0
IsReadBack c (Ok read) = read ≡ c
IsReadBack c (Err e) = e ≡ NoMemory
