-- Schedules past the domains of a small model: one that is loose and no solution, and what keeps others from being loose.
use Rattle.std.proofs.Common.{ℕ, zero, suc, ◌≡◌, List, [], ◌∷◌, Some, None, refl, ap, ◌∙◌, arith}
use Rattle.std.specs.Prelude.{slice_get, true, false}
use Rattle.std.proofs.lemmas.List.Elements.{All-nil}
use Rattle.un_domains.specs.declared.domain.Domain.TheVariants.{Range}
use Rattle.un_ir.specs.declared.extended.ExtBlock.{ExtBlock}
use Rattle.un_ir.specs.declared.extended.ExtKind.TheVariants.{End}
use Rattle.un_ir.specs.declared.extended.ExtOp.{ExtOp}
use Rattle.un_ir.specs.declared.function.Term.TheVariants.{Jump}
use Rattle.un_isa.specs.Hexagon.{HEXAGON}
use Rattle.un_model.specs.Congruences.{HandsOver, HandsOn, KeepsCongruences, live_in_temps}
use Rattle.un_model.specs.Solutions.{IsSolution, KeepsFrame, HasRoom}
use Rattle.un_model.specs.declared.model.Model.{Model}
use Rattle.un_model.specs.declared.model.Solution.{Solution}
use Rattle.un_model.specs.declared.schedule.Issue.{Issue}
use Rattle.un_model.specs.declared.schedule.Schedule.{Schedule}
use Rattle.un_violations.specs.Loose.{IsLoose, loose_domains}

-- a block with these operations, and its variables
abbrev block : List ExtOp → ExtBlock
block ops = record { freq = 1; label = 98 ∷ []; live_in = []; live_out = []; ops = ops; horizon = 4 }

abbrev with_values : List ℕ → Solution
with_values values = record { values = values }

-- ---- a block that issues nothing: its end, which its domain lets be 1 to 3, and the frame's flag

abbrev empty : Model
empty = record {
  ext = record { table = HEXAGON; names = []; blocks = block [] ∷ [] };
  options = record { regs = None; slots = 0 };
  domains = Range 1 3 ∷ Range 0 1 ∷ [];
  temps = [];
  blocks = (record { ops = []; end = record { 0 = 0 } }) ∷ [];
  flag = record { 0 = 1 };
  arcs = [] ∷ [];
}

abbrev nothing : Schedule
nothing = record { issues = []; reads = []; ranges = [] }

no_ops : (l : ℕ) (b : ExtBlock) → slice_get (block [] ∷ []) l ≡ Some b → [] ≡ b.ops
no_ops zero b e = (let same : block [] ≡ b = cc e in ap (λ (c : ExtBlock). c.ops) same)
no_ops (suc l) b e = absurd (cc e)

hands_over : (k : ℕ) (a b : ExtBlock) → [] ≡ b.ops → HandsOver nothing k a b
unfolding HandsOver
hands_over k a b none = λ j x e.
    (let at : slice_get (live_in_temps []) j ≡ Some x = ap (λ ops. slice_get (live_in_temps ops) j) none ∙ e in absurd (cc at))

congruent : KeepsCongruences (block [] ∷ []) nothing
unfolding HandsOn
congruent k a here = λ l b there at. hands_over k a b (no_ops l b at)

has_room : (b c : ℕ) → HasRoom HEXAGON [] b c
unfolding HasRoom
has_room b c = λ resource. omega arith

frameless : KeepsFrame 0 nothing
frameless = record {
  used = λ e. absurd (cc e);
  needed = λ e. absurd (omega (arith, e));
  without = λ _. All-nil _;
  with_frame = λ e. absurd (omega (arith, e));
  ordered = λ e. absurd (omega (arith, e));
}

-- the end is loosened, and the flag is not
domains_pin : loose_domains empty ≡ Range 1 4294967295 ∷ Range 0 1 ∷ []
domains_pin = refl

-- an end of 300 is loose
late_end : IsLoose empty (with_values (300 ∷ 0 ∷ []))
late_end = record {
  in_domains = ((omega arith, omega arith), ((omega arith, omega arith), tt));
  zeros = (All-nil _, All-nil _);
  choices = All-nil _;
  spaces = (All-nil _, All-nil _);
  latencies = (All-nil _, All-nil _);
  memory = λ i j d less lt. absurd (omega (arith, lt));
  registers = ((λ i j d less lt. absurd (omega (arith, lt))), All-nil _);
  packets = has_room;
  homes = All-nil _;
  congruences = congruent;
  frame = frameless;
}

-- but no solution
late_is_none : IsSolution empty (with_values (300 ∷ 0 ∷ [])) → ⊥
late_is_none is = (let most = is.in_domains.0.1 in omega (arith, most))

-- an end below the least is not loose, nor is a flag above the greatest, nor a value too few or too many
no_end : IsLoose empty (with_values (0 ∷ 0 ∷ [])) → ⊥
no_end is = (let least = is.in_domains.0.0 in omega (arith, least))

no_flag : IsLoose empty (with_values (300 ∷ 2 ∷ [])) → ⊥
no_flag is = (let most = is.in_domains.1.0.1 in omega (arith, most))

too_few : IsLoose empty (with_values (300 ∷ [])) → ⊥
too_few is = is.in_domains.1

too_many : IsLoose empty (with_values (300 ∷ 0 ∷ 0 ∷ [])) → ⊥
too_many is = is.in_domains.1.1

-- ---- a block that jumps: the jump's cycle, the end, and the flag

abbrev jump : ExtOp
jump = record { kind = End (Jump (record { 0 = 0 })); operands = []; results = [] }

abbrev jumping : Model
jumping = record {
  ext = record { table = HEXAGON; names = []; blocks = block (jump ∷ []) ∷ [] };
  options = record { regs = None; slots = 0 };
  domains = Range 1 3 ∷ Range 1 4 ∷ Range 0 1 ∷ [];
  temps = [];
  blocks = (record { ops = (record { instr = None; cycle = Some (record { 0 = 0 }); choices = [] }) ∷ []; end = record { 0 = 1 } }) ∷ [];
  flag = record { 0 = 2 };
  arcs = [] ∷ [];
}

-- the cycle is loosened too
jump_domains_pin : loose_domains jumping ≡ Range 1 4294967295 ∷ Range 1 4294967295 ∷ Range 0 1 ∷ []
jump_domains_pin = refl

abbrev idle : Issue
idle = record {
  block = record { 0 = 0 };
  op = record { 0 = 0 };
  instr = None;
  active = false;
  frame = false;
  zero = true;
  cycle = 0;
  end = 0;
}

-- a transfer in another cycle than the block's last is not loose, however long the block is
early_jump : IsLoose jumping (with_values (500 ∷ 502 ∷ 0 ∷ [])) → ⊥
early_jump is = (let placed = is.latencies.0 0 idle (omega arith) in let last = placed.1 in omega (arith, last))
