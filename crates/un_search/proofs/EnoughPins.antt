-- The nodes of a search can be enough: of the model of a block that only returns, without copies.
use Rattle.std.proofs.Common.{ℕ, zero, suc, ◌≡◌, ◌≢◌, ◌<◌, ◌^◌, ◌==◌, true, List, [], ◌∷◌, Option, None, Some, All, map, take, refl}
use Rattle.std.proofs.Common.{sym, subst, arith}
use Rattle.std.specs.Prelude.{slice_get, count_by, AllPairs}
use Rattle.std.specs.List.{AllZip, Contains, range_with_len}
use Rattle.std.proofs.lemmas.List.Elements.{All-from_recursion}
use Rattle.un_base.specs.declared.ids.NameId.{NameId}
use Rattle.un_base.specs.declared.ids.TempId.{TempId}
use Rattle.un_isa.proofs.HexagonTable.{hexagon_fit}
use Rattle.un_isa.specs.Fit.{IsFit}
use Rattle.un_isa.specs.Hexagon.{HEXAGON}
use Rattle.un_isa.specs.Registers.{callee_saved}
use Rattle.un_isa.specs.declared.reg.Reg.{Reg}
use Rattle.un_ir.specs.Extended.{temp, at_register, word_in, anywhere, carried, kind_of_temp, name_kind, results_of, size_of, Want}
use Rattle.un_ir.specs.Extended.{IsExtended, IsGoodExtBlock, IsGoodExtOp, IsGoodOperand, LeadsOn, HandsNamesOver}
use Rattle.un_ir.specs.Extended.{is_copy, is_inner, is_end, is_enter, is_leave, one_if, returns}
use Rattle.un_ir.specs.Linear.{ending_of}
use Rattle.un_ir.specs.Live.{targets_of}
use Rattle.un_ir.specs.declared.function.TheConstants.{PARAMS}
use Rattle.un_ir.specs.declared.extended.Ext.{Ext}
use Rattle.un_ir.specs.declared.extended.ExtBlock.{ExtBlock}
use Rattle.un_ir.specs.declared.extended.ExtKind.{ExtKind}
use Rattle.un_ir.specs.declared.extended.ExtKind.TheVariants.{In, Out, End, Enter, Leave}
use Rattle.un_ir.specs.declared.extended.ExtOp.{ExtOp}
use Rattle.un_ir.specs.declared.extended.Operand.{Operand}
use Rattle.un_ir.specs.declared.function.Kind.TheVariants.{General}
use Rattle.un_ir.specs.declared.function.Term.TheVariants.{Ret}
use Rattle.un_model.specs.Variables.{IsModel, model_of}
use Rattle.un_model.specs.declared.model.Model.{Model}
use Rattle.un_model.specs.declared.model.Options.{Options}
use Rattle.un_model.specs.Options.{AreOptions}
use Rattle.un_tree.specs.Boxes.{volume}
use Rattle.un_model.specs.Boxes.{root_of}
use Rattle.un_search.specs.Answers.{AreEnough}

-- ---- the block

abbrev reads : ℕ → Option Reg → Operand
reads t home = record { alts = temp t ∷ []; home = home }

abbrev op : ExtKind → List Operand → List TempId → ExtOp
op kind operands results = record { kind = kind; operands = operands; results = results }

-- the callee-saved registers' values
abbrev kept : List Operand
kept = reads 0 (at_register 16) ∷ reads 1 (at_register 17) ∷ reads 2 (at_register 18) ∷ reads 3 (at_register 19) ∷ reads 4 (at_register 20)
    ∷ reads 5 (at_register 21) ∷ reads 6 (at_register 22) ∷ reads 7 (at_register 23) ∷ reads 8 (at_register 24) ∷ reads 9 (at_register 25)
    ∷ reads 10 (at_register 26) ∷ reads 11 (at_register 27) ∷ []

abbrev start : ExtOp
start = op In [] (map temp (range_with_len 0 13))

abbrev ending : ExtOp
ending = op (End (Ret None)) (reads 12 None ∷ []) []

abbrev block : ExtBlock
block = record {
  freq = 1;
  label = 101 ∷ [];
  live_in = [];
  live_out = [];
  ops = start ∷ op Enter [] [] ∷ op Leave [] [] ∷ ending ∷ op Out kept [] ∷ [];
  horizon = 12;
}

abbrev small : Ext
small = record { table = HEXAGON; names = []; blocks = block ∷ [] }

-- ---- what an extended function keeps

one_of : {X : Type 0} (P : X → Type 0) (x : X) → P x → All P (x ∷ [])
one_of P x h = All-from_recursion P (x ∷ []) (h, tt)

none_of : {X : Type 0} (P : X → Type 0) → All P []
none_of P k d lt = absurd (omega (arith, lt))

none_of_pairs : {X : Type 0} (R : X → X → Type 0) → AllPairs R []
none_of_pairs R i j d less lt = absurd (omega (arith, lt))

pair_of_one : {X : Type 0} (R : X → X → Type 0) (x : X) → AllPairs R (x ∷ [])
pair_of_one R x i j d less lt = absurd (omega (arith, less, lt))

-- ---- operands

abbrev blocks : List ExtBlock
blocks = block ∷ []

abbrev defined : List TempId
defined = map temp (range_with_len 0 13)

good : (t : ℕ) (home : Option Reg) (want : Want) → Contains defined (temp t) → carried blocks (temp t) ≡ temp t
    → kind_of_temp [] blocks (temp t) ≡ Some want.kind → home ≡ want.home → IsGoodOperand [] blocks defined (reads t home) want
good t home want there carries kind at = record {
  chooses = omega arith;
  rising = pair_of_one (λ (y z : TempId). y.0 < z.0) (temp t);
  known = one_of (Contains defined) (temp t) there;
  one_value = one_of (λ (y : TempId). carried blocks y ≡ temp t) (temp t) carries;
  kind = kind;
  home = at;
}

kept_good : AllZip (IsGoodOperand [] blocks defined) kept (map word_in (callee_saved HEXAGON))
unfolding callee_saved
kept_good = (
  good 0 (at_register 16) (word_in 16) (0, omega arith, refl) refl refl refl,
  (
    good 1 (at_register 17) (word_in 17) (1, omega arith, refl) refl refl refl,
    (
      good 2 (at_register 18) (word_in 18) (2, omega arith, refl) refl refl refl,
      (
        good 3 (at_register 19) (word_in 19) (3, omega arith, refl) refl refl refl,
        (
          good 4 (at_register 20) (word_in 20) (4, omega arith, refl) refl refl refl,
          (
            good 5 (at_register 21) (word_in 21) (5, omega arith, refl) refl refl refl,
            (
              good 6 (at_register 22) (word_in 22) (6, omega arith, refl) refl refl refl,
              (
                good 7 (at_register 23) (word_in 23) (7, omega arith, refl) refl refl refl,
                (
                  good 8 (at_register 24) (word_in 24) (8, omega arith, refl) refl refl refl,
                  (
                    good 9 (at_register 25) (word_in 25) (9, omega arith, refl) refl refl refl,
                    (
                      good 10 (at_register 26) (word_in 26) (10, omega arith, refl) refl refl refl,
                      (good 11 (at_register 27) (word_in 27) (11, omega arith, refl) refl refl refl, tt),
                    ),
                  ),
                ),
              ),
            ),
          ),
        ),
      ),
    ),
  ),
)

-- ---- operations

abbrev IsGoodAt : ℕ → ExtOp → Type 0
IsGoodAt k o = IsGoodExtOp HEXAGON [] blocks block (results_of (take k block.ops)) o

start_good : IsGoodAt 0 start
unfolding callee_saved
start_good = record { kind = tt; operands = tt; results = refl }

enter_good : IsGoodAt 1 (op Enter [] [])
enter_good = record { kind = tt; operands = tt; results = refl }

leave_good : IsGoodAt 2 (op Leave [] [])
leave_good = record { kind = tt; operands = tt; results = refl }

ending_good : IsGoodAt 3 ending
ending_good = record { kind = tt; operands = (good 12 None (anywhere General) (12, omega arith, refl) refl refl refl, tt); results = refl }

out_good : IsGoodAt 4 (op Out kept [])
out_good = record { kind = tt; operands = kept_good; results = refl }

ops_good : (k : ℕ) (o : ExtOp) → slice_get block.ops k ≡ Some o → IsGoodAt k o
ops_good zero o is = let e : start ≡ o = cc is in subst (IsGoodAt 0) e start_good
ops_good (suc zero) o is = let e : op Enter [] [] ≡ o = cc is in subst (IsGoodAt 1) e enter_good
ops_good (suc (suc zero)) o is = let e : op Leave [] [] ≡ o = cc is in subst (IsGoodAt 2) e leave_good
ops_good (suc (suc (suc zero))) o is = let e : ending ≡ o = cc is in subst (IsGoodAt 3) e ending_good
ops_good (suc (suc (suc (suc zero)))) o is = let e : op Out kept [] ≡ o = cc is in subst (IsGoodAt 4) e out_good
ops_good (suc (suc (suc (suc (suc k))))) o is = absurd (cc is)

-- ---- the block and the function

block_good : IsGoodExtBlock HEXAGON [] blocks block
block_good = record {
  label = refl;
  freq = (omega arith, omega arith);
  live_in = none_of (λ (name : NameId). name.0 < 0);
  live_out = none_of (λ (name : NameId). name.0 < 0);
  rising = none_of_pairs (λ (m n : NameId). m.0 < n.0);
  parts = (
    record { start = start; inner = op Enter [] [] ∷ op Leave [] [] ∷ []; ending = Some ending; late = []; out = op Out kept [] },
    record {
      whole = refl;
      start = refl;
      inner = All-from_recursion (λ (o : ExtOp). is_inner o.kind ≡ true) (op Enter [] [] ∷ op Leave [] [] ∷ []) (refl, (refl, tt));
      ending = one_of (λ (o : ExtOp). is_end o.kind ≡ true) ending refl;
      late = none_of (λ (o : ExtOp). is_copy o.kind ≡ true);
      out = refl;
    },
  );
  ops = ops_good;
  horizon = refl;
}

leads_on : (b : ℕ) (c : ExtBlock) → slice_get blocks b ≡ Some c → LeadsOn blocks b c
leads_on zero c is = let e : block ≡ c = cc is in subst (LeadsOn blocks 0) e (none_of (λ (c : ℕ). (0 < c) × (c < 1)))
leads_on (suc b) c is = absurd (cc is)

hands_over : HandsNamesOver blocks
hands_over zero l a b is at leads =
    let e : block ≡ a = cc is in
    let none : Contains [] l = subst (λ (c : ExtBlock). Contains (let ending = ending_of c.ops in targets_of 0 ending.term) l) (sym e) leads in
    absurd (omega (arith, none.1))
hands_over (suc k) l a b is at leads = absurd (cc is)

enters_once : (b : ℕ) (c : ExtBlock) → slice_get blocks b ≡ Some c → count_by (λ (o : ExtOp). is_enter o.kind) c.ops ≡ one_if (b == 0)
enters_once zero c is =
    let e : block ≡ c = cc is in subst (λ (d : ExtBlock). count_by (λ (o : ExtOp). is_enter o.kind) d.ops ≡ 1) e refl
enters_once (suc b) c is = absurd (cc is)

size : size_of blocks ≡ 31
size = refl

small_good : IsExtended small
small_good = record {
  good = record {
    entry = omega arith;
    few = omega arith;
    each = one_of (IsGoodExtBlock HEXAGON [] blocks) block block_good;
    numbered = refl;
    leads = leads_on;
    hands_over = hands_over;
    distinct_labels = pair_of_one (λ (a b : ExtBlock). a.label ≢ b.label) block;
    params = λ entry is. (let e : block ≡ entry = cc is in subst (λ (c : ExtBlock).
        All (λ (name : NameId). (name.0 < PARAMS) × (name_kind [] name ≡ General)) c.live_in) e (none_of (λ (name : NameId). (name.0 < PARAMS) × (name_kind [] name ≡ General))));
    small = omega (arith, size);
  };
  frames = record {
    enters = enters_once;
    leaves = one_of (λ (c : ExtBlock). count_by (λ (o : ExtOp). is_leave o.kind) c.ops ≡ one_if (returns c)) block refl;
  };
}

-- ---- its model

abbrev options : Options
options = record { regs = None; slots = 0 }

assignments : volume (root_of (model_of small options)) ≡ 152064
unfolding callee_saved
assignments = refl

-- what a search asks of a model, and nodes that are enough for it
pub record CanBeEnough (m : Model) (n : ℕ) : Type 0 where
  pub model : IsModel m
  pub extended : IsExtended m.ext
  pub fit : IsFit m.ext.table
  pub options : AreOptions m.options
  pub number : n < 2 ^ 32
  pub enough : AreEnough m n

pub can_be_enough : (m : Model) × (n : ℕ) × CanBeEnough m n
can_be_enough = (
  model_of small options,
  304129,
  record {
    model = refl;
    extended = small_good;
    fit = hexagon_fit;
    options = record { regs = tt; slots = omega arith };
    number = omega arith;
    enough = omega (arith, assignments);
  },
)
