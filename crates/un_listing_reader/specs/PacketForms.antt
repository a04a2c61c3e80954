-- Lines that are a packet's by their form, whatever rules of code they break.
use Rattle.std.specs.Prelude.{ℕ, ℤ, ◌≡◌, List, ◌++◌, Some, All, codes}
use Rattle.un_isa.specs.declared.op.Op.{Op}
use Rattle.un_isa.specs.declared.op.Op.TheVariants.{Call, Enter, Leave}
use Rattle.un_isa.specs.declared.reg.Reg.{Reg}
use Rattle.un_isa.specs.declared.reg.Space.TheVariants.{R}
use Rattle.un_isa.specs.declared.instr.Instr.{Instr}
use Rattle.un_isa.specs.Operands.{HasLiteral, IsSigned16}
use Rattle.un_isa.specs.Registers.{space_of}
use Rattle.un_packet.specs.declared.code.Packet.{Packet}
use Rattle.un_packet.specs.CodeRules.{ReadsItsSpaces, WritesItsSpace, HasItsLabel}
use Rattle.un_listing.specs.Listing.{packet_line}
use Rattle.un_listing_reader.specs.PacketWords.{parts_of, instrs_in}

-- registers of the right kinds: a call's operands are general ones, whatever their numbers
abbrev pub ReadsItsKinds : Op → List Reg → Type 0
ReadsItsKinds Call srcs = All (λ (r : Reg). space_of r.0 ≡ R) srcs
ReadsItsKinds op srcs = ReadsItsSpaces op srcs

-- a literal in its range: the stack pointer is moved by any number that an `add` takes
abbrev pub HasItsRange : Op → ℤ → Type 0
HasItsRange Enter n = IsSigned16 n
HasItsRange Leave n = IsSigned16 n
HasItsRange op n = HasLiteral op n

pub record IsFormed (i : Instr) : Type 0 where
  pub reads : ReadsItsKinds i.op i.srcs
  pub writes : WritesItsSpace i.op i.dst
  pub literal : HasItsRange i.op i.imm
  pub label : HasItsLabel i.op i.label

-- a line with its line feed is that of the instructions which its parts spell, and each has the form of one
pub record IsPacketForm (line : List ℕ) : Type 0 where
  pub packet : Packet
  pub parts : instrs_in (parts_of line) ≡ Some packet.instrs
  pub formed : All IsFormed packet.instrs
  pub text : line ≡ packet_line packet ++ codes "\n"
