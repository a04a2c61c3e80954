-- The code of a model's solution.
use Rattle.std.specs.Prelude.{ℕ, ◌≡◌, ◌+◌, ◌*◌, List, [], ◌∷◌, length, map, Option, Some, None}
use Rattle.std.specs.List.{zip}
use Rattle.un_isa.specs.declared.instr.Instr.{Instr}
use Rattle.un_isa.specs.declared.reg.Reg.{Reg}
use Rattle.un_ir.specs.declared.extended.ExtBlock.{ExtBlock}
use Rattle.un_model.specs.declared.model.BlockVars.{BlockVars}
use Rattle.un_model.specs.declared.model.Model.{Model}
use Rattle.un_model.specs.Emission.{block_packets, frame_of, start_place}
use Rattle.un_packet.specs.declared.code.Code.{Code}
use Rattle.un_packet.specs.declared.code.CodeBlock.{CodeBlock}
use Rattle.un_packet.specs.declared.code.Packet.{Packet}

abbrev pub packet_with : List Instr → Packet
packet_with is = record { instrs = is }

-- a block's packets, under its label
abbrev pub code_block : Model → List ℕ → ExtBlock → BlockVars → CodeBlock
code_block m values block vars = record { label = block.label; packets = map packet_with (block_packets m values block vars) }

abbrev pub code_blocks : Model → List ℕ → List CodeBlock
code_blocks m values = map (λ (b : ExtBlock × BlockVars). code_block m values b.0 b.1) (zip m.ext.blocks m.blocks)

-- the code that the values of a model's variables come to
pub record IsEmitted (m : Model) (values : List ℕ) (code : Code) : Type 0 where
  pub frame : code.frame ≡ frame_of m values
  pub blocks : code.blocks ≡ code_blocks m values

-- the number of a place, 0 where there is none
abbrev pub place_number : Option Reg → ℕ
place_number None = 0
place_number (Some r) = r.0

-- the place of each name at the start of each block
abbrev pub start_places : Model → List ℕ → ℕ → ℕ → ℕ
start_places m values b name = place_number (start_place m values b name)

-- the packets of each block, as often as the block runs
abbrev pub packet_cost : List ExtBlock → List CodeBlock → ℕ
packet_cost [] cs = 0
packet_cost (b ∷ bs) [] = 0
packet_cost (b ∷ bs) (c ∷ cs) = b.freq * length c.packets + packet_cost bs cs
