use Rattle.std.proofs.Common.{ℕ, ◌≡◌, List, map, length, set, slice_index, Option, refl}
use Rattle.std.specs.Prelude.{unwrap_or}
use Rattle.un_isa.specs.Words.{address_of}
use Rattle.un_isa.specs.declared.op.Op.{Op}
use Rattle.un_isa.specs.declared.op.Op.TheVariants.{Spill}
use Rattle.un_isa.specs.declared.reg.Reg.{Reg}
use Rattle.un_isa.specs.declared.instr.Instr.{Instr}
use Rattle.un_packet.specs.Step.{PacketState, word_place, frame_by}
use Rattle.un_packet.proofs.writes.spill.Goals as goal

spilled : (s : PacketState) (i : Instr) (op : Op) (frame new regs : List ℕ) (start n k word a : ℕ) (place : Option ℕ) → op ≡ Spill
    → new ≡ set frame k word → k ≡ unwrap_or place 0
    → place ≡ word_place start n a → n ≡ length frame → a ≡ address_of (slice_index regs 29) i.imm
    → word ≡ slice_index (map (λ (r : Reg). slice_index regs r.0) i.srcs) 0
    → s.regs ≡ regs → s.frame_start ≡ start → length s.frame ≡ length frame → new ≡ frame_by op s i frame
spilled s i op frame new regs start n k word a place e1 e2 e3 e4 e5 e6 e7 e8 e9 e10 = rw (e1, e2, e3, e4, e5, e6, e7, e8, e9, e10) refl

pub returns-in-Spill-clause-word : goal.returns-in-Spill-clause-word
returns-in-Spill-clause-word c s er es el =
    spilled s c.args.i.now c.args.i.now.op c.args.frame.now c.put_word.new.frame c.args.regs.now c.args.start c.len.result
    c.unwrap_or-place.result c.operand_of.result c.frame_address-a.result c.word_place.result
    c.in-Spill.is c.put_word.ensures c.unwrap_or-place.ensures c.word_place.ensures c.len.ensures c.frame_address-a.ensures
    c.operand_of.ensures er es el
