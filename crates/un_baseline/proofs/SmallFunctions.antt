-- The values of the smallest function, and of one that keeps a truth value across a call.
use Rattle.std.proofs.Common.{◌≡◌, ℕ, pos, true, List, [], ◌∷◌, ◌++◌, length, Option, Some, None, refl}
use Rattle.un_base.specs.declared.ids.NameId.{NameId}
use Rattle.un_isa.specs.Hexagon.{HEXAGON}
use Rattle.un_isa.specs.Registers.{callee_saved}
use Rattle.un_isa.specs.declared.op.Op.{Op}
use Rattle.un_isa.specs.declared.reg.TheConstants.{FIRST_SLOT, SLOTS}
use Rattle.un_isa.specs.declared.op.Op.TheVariants.{Add, CmpEq, Call, Mux}
use Rattle.un_ir.specs.LinearOf.{linear_blocks}
use Rattle.un_ir.specs.ExtendOf.{extend_of}
use Rattle.un_ir.specs.declared.function.Kind.{Kind}
use Rattle.un_ir.specs.declared.function.Kind.TheVariants.{General, Pred}
use Rattle.un_ir.specs.declared.function.SrcOp.{SrcOp}
use Rattle.un_ir.specs.declared.function.Term.{Term}
use Rattle.un_ir.specs.declared.function.Term.TheVariants.{Ret}
use Rattle.un_ir.specs.declared.function.Block.{Block}
use Rattle.un_ir.specs.declared.extended.Ext.{Ext}
use Rattle.un_model.specs.Cost.{cost_of}
use Rattle.un_model.specs.Variables.{model_of}
use Rattle.un_baseline.specs.SpilledCost.{spilled_cost}
use Rattle.un_baseline.specs.SpillEverywhere.{spilled_values}

abbrev block_e : ℕ → List SrcOp → Term → Block
block_e freq ops term = record { label = 101 ∷ []; freq = freq; ops = ops; term = term }

-- the extended function of a block at whose start these names are live
abbrev extended : List Kind → List NameId → Block → Ext
extended names live block = extend_of (record {
  table = HEXAGON;
  names = names;
  blocks = linear_blocks HEXAGON (length names)
      (live ∷ []) 0 0 (block ∷ []);
})

-- a block that is the whole function costs so many cycles
abbrev Costs : List Kind → List NameId → Block → ℕ → Type 0
Costs names live block n =
    let e = extended names live block in
    (cost_of (model_of e (record { regs = None; slots = SLOTS })) (record { values = spilled_values e }) ≡ n) × (spilled_cost HEXAGON
    (live ∷ []) true 0 (block ∷ []) ≡ n)

-- it only returns
abbrev returns_alone : Ext
returns_alone = extended [] [] (block_e 1 [] (Ret None))

abbrev six : ℕ → List ℕ
six n = n ∷ n ∷ n ∷ n ∷ n ∷ n ∷ []

abbrev thirty_six : ℕ → List ℕ
thirty_six n = six n ++ six n ++ six n ++ six n ++ six n ++ six n

smallest : spilled_values returns_alone
    ≡ (16 ∷ 17 ∷ 18 ∷ 19 ∷ 20 ∷ 21 ∷ 22 ∷ 23 ∷ 24 ∷ 25 ∷ 26 ∷ 27 ∷ 31 ∷ [])
    ++ thirty_six 0
    ++ (2 ∷ 2 ∷ FIRST_SLOT ∷ 1 ∷ 1 ∷ 1 ∷ 5 ∷ 3 ∷ 3 ∷ 1 ∷ 31 ∷ 6 ∷ 2 ∷ [])
    ++ thirty_six 0
    ++ six 0
    ++ six 0
    ++ six 0
    ++ six 0
    ++ 7 ∷ 1 ∷ []
unfolding callee_saved
smallest = refl

smallest_cost : Costs [] [] (block_e 1 [] (Ret None)) 6
unfolding callee_saved
smallest_cost = (refl, refl)

abbrev name : ℕ → NameId
name n = record { 0 = n }

abbrev source : Op → Option NameId → List NameId → SrcOp
source op dst srcs = record { op = op; dst = dst; srcs = srcs; imm = pos 0; callee = None }

-- a sum, in a block that runs ten times
sum_cost : Costs (General ∷ General ∷ General ∷ []) (name 0 ∷ name 1 ∷ []) (block_e 10 (source Add (Some (name 2))
    (name 0 ∷ name 1 ∷ []) ∷ []) (Ret (Some (name 2)))) 160
unfolding callee_saved
sum_cost = (refl, refl)

-- a truth value is kept across a call
kept_cost : Costs (General ∷ General ∷ Pred ∷ General ∷ []) (name 0 ∷ name 1 ∷ [])
    (block_e 1 (source CmpEq (Some (name 2)) (name 0 ∷ name 1 ∷ []) ∷ source Call None (name 0 ∷ []) ∷ source Mux (Some (name 3))
    (name 2 ∷ name 0 ∷ name 1 ∷ []) ∷ []) (Ret (Some (name 3)))) 29
unfolding callee_saved
kept_cost = (refl, refl)
