-- Gaps as a model by another hand has them: of fourteen definers and eight users, by four tables.
use Rattle.std.specs.Prelude.{ℕ, ◌≡◌, true, List, [], ◌∷◌, ◌++◌, map, replicate}
use Rattle.std.proofs.Common.{refl}
use Rattle.un_isa.specs.declared.op.Op.{Op}
use Rattle.un_isa.specs.declared.op.Op.TheVariants.{Imm, Mov, Add, Mux, CmpEq, CmpGt, CmpGtu, CmpEqi, CmpGti, Mpyi, Load, Store, Call, JumpIf}
use Rattle.un_isa.specs.declared.op.Op.TheVariants.{Jumpr, Reload, P2R, R2P, JumpIfNew, JumpIfNotNew}
use Rattle.un_isa.specs.declared.table.Table.{Table}
use Rattle.un_isa.specs.Facts.{all_ops, latency_by}
use Rattle.un_isa.specs.Hexagon.{HEXAGON}
use Rattle.un_isa.specs.Tables.{gap_by}

abbrev definers : List Op
definers = CmpEq ∷ CmpGt ∷ CmpGtu ∷ CmpEqi ∷ CmpGti ∷ R2P ∷ P2R ∷ Mov ∷ Load ∷ Reload ∷ Mpyi ∷ Add ∷ Call ∷ Imm ∷ []

abbrev users : List Op
users = JumpIf ∷ JumpIfNew ∷ JumpIfNotNew ∷ Jumpr ∷ Mux ∷ Add ∷ Store ∷ Call ∷ []

abbrev gaps : Table → List (List ℕ)
gaps t = map (λ (d : Op). map (gap_by t d) users) definers

-- each user waits so long
abbrev wait : ℕ → List ℕ
wait n = replicate 8 n

-- a branch may test it at once
abbrev tested : List ℕ
tested = 0 ∷ replicate 7 1

by_hexagon : gaps HEXAGON ≡ replicate 8 (wait 1) ++ replicate 3 (wait 2) ++ replicate 3 (wait 1)
by_hexagon = refl

by_fresh : gaps (record HEXAGON { fresh = true }) ≡ replicate 5 tested ++ replicate 3 (wait 1) ++ replicate 3 (wait 2) ++ replicate 3 (wait 1)
by_fresh = refl

-- moves, additions and calls are slow, and loads are not
abbrev slow_moves : Op → ℕ
slow_moves Load = 1
slow_moves Mov = 2
slow_moves Add = 2
slow_moves Call = 2
slow_moves P2R = 2
slow_moves R2P = 2
slow_moves op = latency_by op

by_slow_moves : gaps (record HEXAGON { lat = map slow_moves all_ops; fresh = true }) ≡
    replicate 5 tested ++ replicate 3 (wait 2) ++ wait 1 ∷ replicate 4 (wait 2) ++ wait 1 ∷ []
by_slow_moves = refl

-- some compares are slow, and nothing is tested fresh
abbrev slow_compares : Op → ℕ
slow_compares CmpEq = 2
slow_compares CmpGt = 2
slow_compares CmpGti = 2
slow_compares op = latency_by op

by_slow_compares : gaps (record HEXAGON { lat = map slow_compares all_ops }) ≡
    wait 2 ∷ wait 2 ∷ wait 1 ∷ wait 1 ∷ wait 2 ∷ replicate 3 (wait 1) ++ replicate 3 (wait 2) ++ replicate 3 (wait 1)
by_slow_compares = refl
