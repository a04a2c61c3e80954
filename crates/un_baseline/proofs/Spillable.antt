-- Under roomy options each name of a function can be spilled, and default options are roomy for every function.
use Rattle.std.proofs.Common.{◌≡◌, ◌+◌, ℕ, Some, None, length, sym, subst, arith}
use Rattle.un_isa.specs.declared.table.Table.{Table}
use Rattle.un_ir.specs.declared.function.Function.{Function}
use Rattle.un_model.specs.declared.model.Model.{Model}
use Rattle.un_model.specs.declared.model.Options.{Options}
use Rattle.un_problem.specs.Problems.{IsModelOf, IsProblemOf, default_options}
use Rattle.un_problem.proofs.ProblemLaws.{few_names, same_names, options_are}
use Rattle.un_baseline.specs.RoomyOptions.{AreRoomyFor, IsOfFunction, IsSpillable}

-- the extended function of a function's model is that of the function
pub own_source : (f : Function) (m : Model) → IsProblemOf f m → IsOfFunction m.ext
own_source f m is =
    let e = is.gives.ext in record { function = f; lists = e.live; live = e.are_live; extended = e.is_extended }

-- every name of its model can be spilled under roomy options
pub spillable : (f : Function) (m : Model) → IsProblemOf f m → AreRoomyFor f m.options → IsSpillable m
spillable f m is roomy = record {
  model = is.own;
  table = is.fit;
  function = own_source f m is;
  roomy = record {
    options = is.options;
    regs = roomy.regs;
    slots = let same = same_names m.ext.table f m.ext is.gives.ext in omega (arith, same, roomy.slots);
  };
}

-- a model has the options under which it was built
pub roomy_model : (t : Table) (f : Function) (o : Options) (m : Model) → IsModelOf t f o m → AreRoomyFor f o → AreRoomyFor f m.options
roomy_model t f o m is roomy = subst (AreRoomyFor f) (sym (options_are t f o m is)) roomy

-- a function has fewer names than a frame has slots
own_roomy : (f : Function) → AreRoomyFor f default_options
own_roomy f = record { regs = tt; slots = let few = few_names f in omega (arith, few) }

pub default_roomy : (f : Function) (o : Options) → o ≡ default_options → AreRoomyFor f o
default_roomy f o is = subst (AreRoomyFor f) (sym is) (own_roomy f)

-- six registers will do, five will not; nor will as many slots as names
six_registers : (f : Function) (n : ℕ) → length f.names ≡ n → AreRoomyFor f (record { regs = Some 6; slots = n + 1 })
six_registers f n same = record { regs = omega arith; slots = omega (arith, same) }

five_registers : (f : Function) (n : ℕ) → AreRoomyFor f (record { regs = Some 5; slots = n }) → ⊥
five_registers f n roomy = let few = roomy.regs in omega (arith, few)

slots_as_names : (f : Function) → AreRoomyFor f (record { regs = None; slots = length f.names }) → ⊥
slots_as_names f roomy = let few = roomy.slots in omega (arith, few)
