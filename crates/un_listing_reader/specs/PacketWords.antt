-- The instructions of a packet's line, part by part between its semicolons.
use Rattle.std.specs.Prelude.{ℕ, ◌≡◌, Bool, ◌==◌, List, [], ◌∷◌, ◌++◌, Option, Some, codes}
use Rattle.std.specs.List.{slice_split}
use Rattle.std.specs.Option.{option_and_then, option_map}
use Rattle.un_isa.specs.declared.instr.Instr.{Instr}
use Rattle.un_packet.specs.declared.code.Packet.{Packet}
use Rattle.un_packet.specs.CodeRules.{IsGoodPacket}
use Rattle.un_listing.specs.ListingWords.{words_of}
use Rattle.un_listing.specs.Recognized.{instr_of}
use Rattle.un_listing.specs.Listing.{packet_line}

abbrev pub is_semicolon : ℕ → Bool
is_semicolon b = b == 59

abbrev pub parts_of : List ℕ → List (List ℕ)
parts_of text = slice_split is_semicolon text

abbrev pub put_before : Instr → Option (List Instr) → Option (List Instr)
put_before i rest = option_map (λ is. i ∷ is) rest

-- the instructions, where each part spells one
abbrev pub instrs_in : List (List ℕ) → Option (List Instr)
instrs_in [] = Some []
instrs_in (part ∷ parts) = option_and_then (λ i. put_before i (instrs_in parts)) (instr_of (words_of part))

-- a line with its line feed is that of a packet of code with a frame of so many bytes
pub record IsPacketLine (frame : ℕ) (line : List ℕ) (p : Packet) : Type 0 where
  pub rules : IsGoodPacket frame p
  pub text : line ≡ packet_line p ++ codes "\n"
