-- Solutions with and without a merge, of a model of one block that issues nothing: the block's end, and the frame's flag.
use Rattle.std.proofs.Common.{ℕ, zero, suc, ◌≡◌, ◌≤◌, [], ◌∷◌, Some, None, ap, ◌∙◌, arith}
use Rattle.std.specs.Prelude.{slice_get}
use Rattle.std.proofs.lemmas.List.Elements.{All-nil}
use Rattle.un_domains.specs.declared.domain.Domain.TheVariants.{Range}
use Rattle.un_ir.specs.declared.extended.ExtBlock.{ExtBlock}
use Rattle.un_isa.specs.Hexagon.{HEXAGON}
use Rattle.un_model.specs.Congruences.{HandsOver, HandsOn, KeepsCongruences, live_in_temps}
use Rattle.un_model.specs.Solutions.{IsSolution, KeepsFrame, HasRoom}
use Rattle.un_model.specs.declared.model.BlockVars.{BlockVars}
use Rattle.un_model.specs.declared.model.Model.{Model}
use Rattle.un_model.specs.declared.schedule.Schedule.{Schedule}
use Rattle.un_merges.specs.Merges.{merged, HasNoMergeIn}
use Rattle.un_merges.proofs.Pins.{with_values}

abbrev empty : ExtBlock
empty = record { freq = 1; label = 98 ∷ []; live_in = []; live_out = []; ops = []; horizon = 3 }

abbrev vars : BlockVars
vars = record { ops = []; end = record { 0 = 0 } }

-- the model whose block ends from this cycle to that one
abbrev model : ℕ → ℕ → Model
model lo hi = record {
  ext = record { table = HEXAGON; names = []; blocks = empty ∷ [] };
  options = record { regs = None; slots = 0 };
  domains = Range lo hi ∷ Range 0 1 ∷ [];
  temps = [];
  blocks = vars ∷ [];
  flag = record { 0 = 1 };
  arcs = [] ∷ [];
}

abbrev nothing : Schedule
nothing = record { issues = []; reads = []; ranges = [] }

-- ---- an end in its domain is a solution

no_ops : (l : ℕ) (b : ExtBlock) → slice_get (empty ∷ []) l ≡ Some b → [] ≡ b.ops
no_ops zero b e = (let same : empty ≡ b = cc e in ap (λ (c : ExtBlock). c.ops) same)
no_ops (suc l) b e = absurd (cc e)

hands_over : (k : ℕ) (a b : ExtBlock) → [] ≡ b.ops → HandsOver nothing k a b
unfolding HandsOver
hands_over k a b none = λ j x e.
    (let at : slice_get (live_in_temps []) j ≡ Some x = ap (λ ops. slice_get (live_in_temps ops) j) none ∙ e in absurd (cc at))

congruent : KeepsCongruences (empty ∷ []) nothing
unfolding HandsOn
congruent k a here = λ l b there at. hands_over k a b (no_ops l b at)

has_room : (b c : ℕ) → HasRoom HEXAGON [] b c
unfolding HasRoom
has_room b c = λ resource. omega arith

frameless : KeepsFrame 0 nothing
frameless = record {
  used = λ e. absurd (cc e);
  needed = λ e. absurd (omega (arith, e));
  without = λ _. All-nil _;
  with_frame = λ e. absurd (omega (arith, e));
  ordered = λ e. absurd (omega (arith, e));
}

solved : (lo hi end : ℕ) → lo ≤ end → end ≤ hi → IsSolution (model lo hi) (with_values (end ∷ 0 ∷ []))
solved lo hi end least most = record {
  in_domains = ((least, most), ((omega arith, omega arith), tt));
  zeros = (All-nil _, All-nil _);
  choices = All-nil _;
  spaces = (All-nil _, All-nil _);
  latencies = (All-nil _, All-nil _);
  memory = λ i j d less lt. absurd (omega (arith, lt));
  registers = ((λ i j d less lt. absurd (omega (arith, lt))), All-nil _);
  packets = has_room;
  homes = All-nil _;
  congruences = congruent;
  frame = frameless;
}

-- ---- merges

-- the packets of cycles 1 and 2 become one
merges_at_one : HasNoMergeIn (model 1 3) (with_values (2 ∷ 0 ∷ [])) vars → ⊥
unfolding HasNoMergeIn merged
merges_at_one none = none 1 (omega arith) (omega arith) (solved 1 3 1 (omega arith) (omega arith))

-- a block that ends in cycle 1 has no two packets
none_in_one : HasNoMergeIn (model 1 3) (with_values (1 ∷ 0 ∷ [])) vars
unfolding HasNoMergeIn
none_in_one t some less = absurd (omega (arith, some, less))

-- nor is there a merge where the block may not end earlier
none_where_fixed : HasNoMergeIn (model 2 3) (with_values (2 ∷ 0 ∷ [])) vars
unfolding HasNoMergeIn merged
none_where_fixed zero some less is = omega (arith, some)
none_where_fixed (suc zero) some less is = (let low = is.in_domains.0.0 in omega (arith, low))
none_where_fixed (suc (suc t)) some less is = omega (arith, less)
