-- What an exchange is of a few values, and who is a home of one operation: values worked out by hand.
use Rattle.std.proofs.Common.{◌≡◌, ℕ, true, false, List, [], ◌∷◌, Some, None, map, filter, refl}
use Rattle.std.specs.List.{range_with_len}
use Rattle.un_base.specs.declared.ids.NameId.{NameId}
use Rattle.un_base.specs.declared.ids.TempId.{TempId}
use Rattle.un_isa.specs.Hexagon.{HEXAGON}
use Rattle.un_isa.specs.Registers.{callee_saved}
use Rattle.un_ir.specs.declared.extended.ExtKind.TheVariants.{In, Out}
use Rattle.un_ir.specs.declared.extended.ExtOp.{ExtOp}
use Rattle.un_model.specs.declared.model.TempVars.{TempVars}
use Rattle.un_symm.specs.Exchanges.{exchanged, exchanged_values}
use Rattle.un_symm.specs.Interchangeable.{is_home_at}

-- ---- exchanges

registers : map (exchanged 6 9) (0 ∷ 6 ∷ 7 ∷ 9 ∷ []) ≡ 0 ∷ 9 ∷ 7 ∷ 6 ∷ []
registers = refl

itself : map (exchanged 6 6) (0 ∷ 6 ∷ 7 ∷ []) ≡ 0 ∷ 6 ∷ 7 ∷ []
itself = refl

abbrev in_variable : ℕ → TempVars
in_variable k = record { op = record { 0 = 0 }; value = record { 0 = 0 }; reg = record { 0 = k } }

-- variables 1, 2 and 4 are registers; the cycle 9 and the choice 6 stay
values : exchanged_values (in_variable 1 ∷ in_variable 2 ∷ in_variable 4 ∷ []) 6 9 (9 ∷ 9 ∷ 7 ∷ 6 ∷ 6 ∷ []) ≡ 9 ∷ 6 ∷ 7 ∷ 6 ∷ 9 ∷ []
values = refl

-- ---- homes

abbrev temps : List ℕ → List TempId
temps ks = map (λ (k : ℕ). let x : TempId = record { 0 = k } in x) ks

abbrev names : List NameId
names = record { 0 = 0 } ∷ record { 0 = 1 } ∷ []

-- a start with two parameters and the saved values
abbrev start : ExtOp
start = record { kind = In; operands = []; results = temps (range_with_len 0 15) }

-- an end that reads r3, and a value at no home
abbrev end : ExtOp
end = record {
  kind = Out;
  operands = record { alts = temps (0 ∷ []); home = Some (record { 0 = 3 }) } ∷ record { alts = temps (1 ∷ []); home = None } ∷ [];
  results = [];
}

entry_homes : filter (λ r. is_home_at HEXAGON true names r start) (range_with_len 0 40)
    ≡ 0 ∷ 1 ∷ 16 ∷ 17 ∷ 18 ∷ 19 ∷ 20 ∷ 21 ∷ 22 ∷ 23 ∷ 24 ∷ 25 ∷ 26 ∷ 27 ∷ 31 ∷ []
unfolding callee_saved
entry_homes = refl

-- parameters are at home in the entry alone
later_homes : filter (λ r. is_home_at HEXAGON false names r start) (range_with_len 0 40)
    ≡ 16 ∷ 17 ∷ 18 ∷ 19 ∷ 20 ∷ 21 ∷ 22 ∷ 23 ∷ 24 ∷ 25 ∷ 26 ∷ 27 ∷ 31 ∷ []
unfolding callee_saved
later_homes = refl

operand_homes : filter (λ r. is_home_at HEXAGON false names r end) (range_with_len 0 40) ≡ 3 ∷ []
operand_homes = refl
