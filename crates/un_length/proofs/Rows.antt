-- Blocks worked out by hand: the greatest end at which the operations have no room, and the one at which they have.
use Rattle.std.proofs.Common.{ℕ, ◌≡◌, ◌++◌, Bool, true, false, List, [], ◌∷◌, refl}
use Rattle.un_base.specs.declared.ids.VarId.{VarId}
use Rattle.un_isa.specs.declared.table.Needs.{Needs}
use Rattle.un_length.specs.declared.block.Task.{Task}
use Rattle.un_length.specs.declared.block.Precedence.{Precedence}
use Rattle.un_length.specs.Blocks.{block_holds}
use Rattle.un_domains.specs.Sets.{Sets}
use Rattle.un_length.specs.Windows.{earliest, latest}
use Rattle.un_length.specs.Rooms.{have_room}
use Rattle.un_length.specs.Lengths.{length_test}

abbrev var : ℕ → VarId
var v = record { 0 = v }

-- what a constant, a product and a store need
abbrev constant_needs : Needs
constant_needs = record { mem = 0; store = 0; xc = 0; control = 0 }

abbrev product_needs : Needs
product_needs = record { mem = 0; store = 0; xc = 1; control = 0 }

abbrev store_needs : Needs
store_needs = record { mem = 1; store = 1; xc = 0; control = 0 }

-- an operation by its variable, which issues before the end
abbrev op : ℕ → Needs → Task
op v needs = record { at = var v; head = 1; tail = 1; needs = needs }

abbrev after : ℕ → ℕ → ℕ → Precedence
after from to gap = record { from = from; to = to; gap = gap }

-- all cycles are from 1 to 5
abbrev cycles : List ℕ
cycles = 1 ∷ 5 ∷ []

-- the end is from 1 to so much
abbrev upto : ℕ → List ℕ
upto end = 1 ∷ end ∷ []

-- Three operations, each two cycles after the one before: in cycles 1, 3 and 5, so the end is 6

abbrev three : List VarId
three = var 0 ∷ var 1 ∷ var 2 ∷ var 3 ∷ []

abbrev chain : List Task
chain = op 0 constant_needs ∷ op 1 constant_needs ∷ op 2 constant_needs ∷ []

abbrev links : List Precedence
links = after 0 1 2 ∷ after 1 2 2 ∷ []

abbrev chain_before : ℕ → Bool
chain_before end = length_test three chain links (var 3) 10 (cycles ∷ cycles ∷ cycles ∷ upto end ∷ [])

chain_too_long : chain_before 5 ≡ false
chain_too_long = refl

chain_fits : chain_before 6 ≡ true
chain_fits = refl

chain_holds : block_holds chain links (var 3) (1 ∷ 3 ∷ 5 ∷ 6 ∷ []) ≡ true
chain_holds = refl

-- Five constants in packets of four: in cycles 1 and 2, so the end is 3

abbrev five : List VarId
five = var 0 ∷ var 1 ∷ var 2 ∷ var 3 ∷ var 4 ∷ var 5 ∷ []

abbrev crowd : List Task
crowd = op 0 constant_needs ∷ op 1 constant_needs ∷ op 2 constant_needs ∷ op 3 constant_needs ∷ op 4 constant_needs ∷ []

abbrev crowd_before : ℕ → Bool
crowd_before end = length_test five crowd [] (var 5) 9 (cycles ∷ cycles ∷ cycles ∷ cycles ∷ cycles ∷ upto end ∷ [])

crowd_too_many : crowd_before 2 ≡ false
crowd_too_many = refl

crowd_fits : crowd_before 3 ≡ true
crowd_fits = refl

crowd_holds : block_holds crowd [] (var 5) (1 ∷ 2 ∷ 1 ∷ 1 ∷ 1 ∷ 3 ∷ []) ≡ true
crowd_holds = refl

-- Two stores, one a packet: the end is 3

abbrev two : List VarId
two = var 0 ∷ var 1 ∷ var 2 ∷ []

abbrev stores : List Task
stores = op 0 store_needs ∷ op 1 store_needs ∷ []

abbrev stores_before : ℕ → Bool
stores_before end = length_test two stores [] (var 2) 6 (cycles ∷ cycles ∷ upto end ∷ [])

stores_too_many : stores_before 2 ≡ false
stores_too_many = refl

stores_fit : stores_before 3 ≡ true
stores_fit = refl

stores_hold : block_holds stores [] (var 2) (2 ∷ 1 ∷ 3 ∷ []) ≡ true
stores_hold = refl

-- A product, and a sum of it two cycles later: in cycles 1 and 3, so the end is 4

abbrev sum : List Task
sum = op 0 product_needs ∷ op 1 constant_needs ∷ []

abbrev sum_before : ℕ → Bool
sum_before end = length_test two sum (after 0 1 2 ∷ []) (var 2) 7 (cycles ∷ cycles ∷ upto end ∷ [])

sum_too_long : sum_before 3 ≡ false
sum_too_long = refl

sum_fits : sum_before 4 ≡ true
sum_fits = refl

sum_holds : block_holds sum (after 0 1 2 ∷ []) (var 2) (1 ∷ 3 ∷ 4 ∷ []) ≡ true
sum_holds = refl

-- Thirteen values across a call that keeps twelve registers: one is spilled behind an Enter, so the call is in cycle 2, and is reloaded in
-- cycle 3, so the end is 5

abbrev call_needs : Needs
call_needs = record { mem = 0; store = 0; xc = 1; control = 1 }

abbrev call_op : ℕ → Task
call_op v = record { at = var v; head = 2; tail = 3; needs = call_needs }

abbrev one_call : List Task
one_call = call_op 0 ∷ record { at = var 1; head = 0; tail = 0; needs = constant_needs } ∷ []

abbrev call_before : ℕ → Bool
call_before end = length_test (var 0 ∷ var 1 ∷ []) one_call [] (var 1) 9 (cycles ∷ upto end ∷ [])

call_too_long : call_before 4 ≡ false
call_too_long = refl

call_fits : call_before 5 ≡ true
call_fits = refl

call_holds : block_holds one_call [] (var 1) (2 ∷ 5 ∷ []) ≡ true
call_holds = refl

call_too_early : block_holds one_call [] (var 1) (1 ∷ 5 ∷ []) ≡ false
call_too_early = refl

-- the same across two calls: in cycles 2 and 3, so the end is 6

abbrev two_calls : List Task
two_calls = call_op 0 ∷ call_op 1 ∷ []

abbrev calls_before : ℕ → Bool
calls_before end = length_test two two_calls (after 0 1 1 ∷ []) (var 2) 9 (cycles ∷ cycles ∷ upto end ∷ [])

calls_too_long : calls_before 5 ≡ false
calls_too_long = refl

calls_fit : calls_before 6 ≡ true
calls_fit = refl

calls_hold : block_holds two_calls (after 0 1 1 ∷ []) (var 2) (2 ∷ 3 ∷ 6 ∷ []) ≡ true
calls_hold = refl

-- An end that is not near is not looked at: two stores again, and the horizon at the end and the number of operations

stores_far : length_test two stores [] (var 2) 4 (cycles ∷ cycles ∷ upto 2 ∷ []) ≡ true
stores_far = refl

-- Four loads, and four constants that may not issue in cycle 1: two packets have places for eight, but cycle 1 holds two loads at most,
-- so the end is 4

abbrev nine : List VarId
nine = var 0 ∷ var 1 ∷ var 2 ∷ var 3 ∷ var 4 ∷ var 5 ∷ var 6 ∷ var 7 ∷ var 8 ∷ []

abbrev load_needs : Needs
load_needs = record { mem = 1; store = 0; xc = 0; control = 0 }

abbrev late_op : ℕ → Task
late_op v = record { at = var v; head = 2; tail = 1; needs = constant_needs }

abbrev four_loads : List Task
four_loads = op 0 load_needs ∷ op 1 load_needs ∷ op 2 load_needs ∷ op 3 load_needs ∷ []

abbrev mixed : List Task
mixed = four_loads ++ late_op 4 ∷ late_op 5 ∷ late_op 6 ∷ late_op 7 ∷ []

abbrev all_before : ℕ → Sets
all_before end = cycles ∷ cycles ∷ cycles ∷ cycles ∷ cycles ∷ cycles ∷ cycles ∷ cycles ∷ upto end ∷ []

mixed_too_many : length_test nine mixed [] (var 8) 20 (all_before 3) ≡ false
mixed_too_many = refl

-- the counts of each resource alone have room there
mixed_room_by_each : have_room mixed 20 (earliest mixed [] (all_before 3)) (latest mixed [] (var 8) (all_before 3)) ≡ true
mixed_room_by_each = refl

mixed_fits : length_test nine mixed [] (var 8) 20 (all_before 4) ≡ true
mixed_fits = refl

mixed_holds : block_holds mixed [] (var 8) (1 ∷ 1 ∷ 2 ∷ 2 ∷ 2 ∷ 2 ∷ 3 ∷ 3 ∷ 4 ∷ []) ≡ true
mixed_holds = refl

-- where two of the constants may issue in cycle 1 all have room in two packets, and the end is 3

abbrev spread : List Task
spread = four_loads ++ op 4 constant_needs ∷ op 5 constant_needs ∷ late_op 6 ∷ late_op 7 ∷ []

spread_fits : length_test nine spread [] (var 8) 20 (all_before 3) ≡ true
spread_fits = refl

spread_holds : block_holds spread [] (var 8) (1 ∷ 1 ∷ 2 ∷ 2 ∷ 1 ∷ 1 ∷ 2 ∷ 2 ∷ 3 ∷ []) ≡ true
spread_holds = refl
