-- Equal packets and blocks are identical where equal instructions are.
use Rattle.std.specs.Prelude.{ℕ, pos, ◌≡◌, ◌&&◌, Bool, true, false, List, [], Some, None}
use Rattle.std.specs.Cmp.Lexicographic.{pointwise}
use Rattle.std.proofs.Common.{ap, refl}
use Rattle.un_lists.specs.Exactness.{list_exact, list_reflexive}
use Rattle.un_isa.specs.declared.instr.Instr.{Instr}
use Rattle.un_isa.specs.declared.op.Op.TheVariants.{Nop}
use Rattle.un_isa.specs.Exactness.{padded_same, instr_exact, instr_reflexive}
use Rattle.un_packet.specs.declared.code.Packet.{Packet}
use Rattle.un_packet.specs.declared.code.CodeBlock.{CodeBlock}

pub packet_exact : (eq : Instr → Instr → Bool) → ((a b : Instr) → eq a b ≡ true → a ≡ b) → (a b : Packet)
    → pointwise eq a.instrs b.instrs ≡ true → a ≡ b
packet_exact eq exact a b h =
    ap (λ (is : List Instr). let p : Packet = record { instrs = is } in p) (list_exact eq exact a.instrs b.instrs h)

pub packet_reflexive : (eq : Instr → Instr → Bool) → ((a : Instr) → eq a a ≡ true) → (a : Packet) → pointwise eq a.instrs a.instrs ≡ true
packet_reflexive eq reflexive a = list_reflexive eq reflexive a.instrs

both : (b c : Bool) → (b && c) ≡ true → (b ≡ true) × (c ≡ true)
both true c h = (refl, h)
both false c h = absurd (cc h)

-- a label alone, as an instruction has it
abbrev labelled : List ℕ → Instr
labelled label = record { op = Nop; dst = None; srcs = []; imm = pos 0; label = Some label }

label_exact : (a b : List ℕ) → padded_same a b ≡ true → a ≡ b
label_exact a b h =
    let same : labelled a ≡ labelled b = instr_exact (labelled a) (labelled b) h in
    let e = ap (λ (i : Instr). i.label) same in cc e

label_reflexive : (a : List ℕ) → padded_same a a ≡ true
label_reflexive a = instr_reflexive (labelled a)

made_same : (k l : List ℕ) (ps qs : List Packet) → k ≡ l → ps ≡ qs
    → (let a : CodeBlock = record { label = k; packets = ps } in let b : CodeBlock = record { label = l; packets = qs } in a ≡ b)
made_same k l ps qs e f = rw (e, f) refl

pub block_exact : (eq : Packet → Packet → Bool) → ((a b : Packet) → eq a b ≡ true → a ≡ b) → (a b : CodeBlock)
    → (padded_same a.label b.label && pointwise eq a.packets b.packets) ≡ true → a ≡ b
block_exact eq exact a b h =
    let parts = both (padded_same a.label b.label) (pointwise eq a.packets b.packets) h in
    made_same a.label b.label a.packets b.packets (label_exact a.label b.label parts.0) (list_exact eq exact a.packets b.packets parts.1)

pub block_reflexive : (eq : Packet → Packet → Bool) → ((a : Packet) → eq a a ≡ true) → (a : CodeBlock)
    → (padded_same a.label a.label && pointwise eq a.packets a.packets) ≡ true
block_reflexive eq reflexive a = rw (label_reflexive a.label) (list_reflexive eq reflexive a.packets)
