-- How each operation is printed, and what stands between instructions.
use Rattle.std.specs.Prelude.{pos, negsuc, ◌≡◌, List, [], ◌∷◌, None, codes, map}
use Rattle.std.proofs.Common.{refl, lit<}
use Rattle.std.proofs.lemmas.Fmt.{decimal_digit}
use Rattle.un_isa.specs.declared.op.Op.TheVariants.{Imm, Mov, Add, Sub, And, Or, Xor, Addi, Andi, Ori, Mux, CmpEq, CmpGt, CmpGtu, CmpEqi}
use Rattle.un_isa.specs.declared.op.Op.TheVariants.{CmpGti, Mpyi, Asl, Asr, Lsr, Load, Store, Call, Jump, JumpIf, JumpIfNot, Jumpr, Spill}
use Rattle.un_isa.specs.declared.op.Op.TheVariants.{Reload, P2R, R2P, Enter, Leave, Nop, JumpIfNew, JumpIfNotNew}
use Rattle.un_isa.specs.declared.instr.Instr.{Instr}
use Rattle.un_packet.proofs.Assembly.{r, named, i, packet, block}
use Rattle.un_listing.specs.Listing.{instr_text, block_lines}

abbrev instrs : List Instr
instrs =
    i Imm (r 7) ([]) (negsuc 4) None
    ∷ i Mov (r 1) (8 ∷ []) (pos 0) None
    ∷ i Add (r 2) (0 ∷ 1 ∷ []) (pos 0) None
    ∷ i Sub (r 2) (1 ∷ 0 ∷ []) (pos 0) None
    ∷ i And (r 2) (0 ∷ 1 ∷ []) (pos 0) None
    ∷ i Or (r 2) (0 ∷ 1 ∷ []) (pos 0) None
    ∷ i Xor (r 2) (0 ∷ 1 ∷ []) (pos 0) None
    ∷ i Mpyi (r 2) (0 ∷ 3 ∷ []) (pos 0) None
    ∷ i Mux (r 3) (33 ∷ 0 ∷ 4 ∷ []) (pos 0) None
    ∷ i CmpEq (r 32) (0 ∷ 1 ∷ []) (pos 0) None
    ∷ i CmpGt (r 35) (0 ∷ 1 ∷ []) (pos 0) None
    ∷ i CmpGtu (r 34) (0 ∷ 1 ∷ []) (pos 0) None
    ∷ i Addi (r 4) (5 ∷ []) (negsuc 7) None
    ∷ i Andi (r 4) (5 ∷ []) (pos 5) None
    ∷ i Ori (r 4) (5 ∷ []) (negsuc 4) None
    ∷ i CmpEqi (r 32) (5 ∷ []) (pos 0) None
    ∷ i CmpGti (r 33) (5 ∷ []) (pos 2) None
    ∷ i Asl (r 4) (5 ∷ []) (pos 3) None
    ∷ i Asr (r 4) (5 ∷ []) (pos 2) None
    ∷ i Lsr (r 4) (5 ∷ []) (pos 1) None
    ∷ i Load (r 6) (0 ∷ []) (negsuc 3) None
    ∷ i Store None (0 ∷ 6 ∷ []) (pos 4) None
    ∷ i Call None (0 ∷ 1 ∷ []) (pos 0) (named (codes "h"))
    ∷ i Call None ([]) (pos 0) (named (codes "h.2"))
    ∷ i JumpIf None (32 ∷ []) (pos 0) (named (codes "loop"))
    ∷ i JumpIfNot None (33 ∷ []) (pos 0) (named (codes "loop"))
    ∷ i JumpIfNew None (32 ∷ []) (pos 0) (named (codes "loop"))
    ∷ i JumpIfNotNew None (35 ∷ []) (pos 0) (named (codes "loop"))
    ∷ i Spill None (6 ∷ []) (pos 8) None
    ∷ i Reload (r 6) ([]) (pos 8) None
    ∷ i P2R (r 0) (33 ∷ []) (pos 0) None
    ∷ i R2P (r 33) (0 ∷ []) (pos 0) None
    ∷ i Enter None ([]) (negsuc 7) None
    ∷ i Leave None ([]) (pos 8) None
    ∷ i Nop None ([]) (pos 0) None
    ∷ i Jump None ([]) (pos 0) (named (codes "all"))
    ∷ i Jumpr None (3 ∷ []) (pos 0) None
    ∷ []

texts : map instr_text instrs ≡
    codes "r7 = #-5"
    ∷ codes "r1 = r8"
    ∷ codes "r2 = add(r0,r1)"
    ∷ codes "r2 = sub(r1,r0)"
    ∷ codes "r2 = and(r0,r1)"
    ∷ codes "r2 = or(r0,r1)"
    ∷ codes "r2 = xor(r0,r1)"
    ∷ codes "r2 = mpyi(r0,r3)"
    ∷ codes "r3 = mux(p1,r0,r4)"
    ∷ codes "p0 = cmp.eq(r0,r1)"
    ∷ codes "p3 = cmp.gt(r0,r1)"
    ∷ codes "p2 = cmp.gtu(r0,r1)"
    ∷ codes "r4 = add(r5,#-8)"
    ∷ codes "r4 = and(r5,#5)"
    ∷ codes "r4 = or(r5,#-5)"
    ∷ codes "p0 = cmp.eq(r5,#0)"
    ∷ codes "p1 = cmp.gt(r5,#2)"
    ∷ codes "r4 = asl(r5,#3)"
    ∷ codes "r4 = asr(r5,#2)"
    ∷ codes "r4 = lsr(r5,#1)"
    ∷ codes "r6 = memw(r0+#-4)"
    ∷ codes "memw(r0+#4) = r6"
    ∷ codes "call h(r0,r1)"
    ∷ codes "call h.2()"
    ∷ codes "if (p0) jump loop"
    ∷ codes "if (!p1) jump loop"
    ∷ codes "if (p0.new) jump loop"
    ∷ codes "if (!p3.new) jump loop"
    ∷ codes "memw(r29+#8) = r6"
    ∷ codes "r6 = memw(r29+#8)"
    ∷ codes "r0 = p1"
    ∷ codes "p1 = r0"
    ∷ codes "r29 = add(r29,#-8)"
    ∷ codes "r29 = add(r29,#8)"
    ∷ codes "nop"
    ∷ codes "jump all"
    ∷ codes "jumpr r3"
    ∷ []
texts = simp (
  decimal_digit 0 (lit< tt),
  decimal_digit 1 (lit< tt),
  decimal_digit 2 (lit< tt),
  decimal_digit 3 (lit< tt),
  decimal_digit 4 (lit< tt),
  decimal_digit 5 (lit< tt),
  decimal_digit 6 (lit< tt),
  decimal_digit 7 (lit< tt),
  decimal_digit 8 (lit< tt),
) refl

lines : block_lines (block (codes "loop") (packet (i Nop None [] (pos 0) None ∷ [])
    ∷ packet (i Nop None [] (pos 0) None ∷ i Jump None [] (pos 0) (named (codes "f")) ∷ []) ∷ []))
    ≡ codes "block loop" ∷ codes "{ nop }" ∷ codes "{ nop; jump f }" ∷ []
lines = refl
