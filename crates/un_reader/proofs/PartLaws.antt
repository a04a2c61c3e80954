-- What the parts of a function have, once its lines and the whole of them have no fault.
use Rattle.std.proofs.Common.{◌≡◌, ℕ, ◌+◌, List, [], None, unwrap_or, sym, ap, ◌∙◌, subst}
use Rattle.std.specs.List.{position_or_len}
use Rattle.un_faults.specs.Vocabulary.{NameId, SourceBlock, Line, Spelled}
use Rattle.un_ir.specs.declared.function.Function.{Function}
use Rattle.un_ir.specs.WellFormed.{IsWellFormed}
use Rattle.un_ir.proofs.SameFunction.{same_function}
use Rattle.un_faults.specs.declared.fault.Fault.TheVariants.{LiveAtEntry}
use Rattle.un_faults.specs.Before.{name_of, names_of}
use Rattle.un_reader.specs.Lines.{HasNoLineFault, shapes_in}
use Rattle.un_words.specs.Pieces.{lines_in}
use Rattle.un_faults.specs.TextFaults.{is_block, shape_fault}
use Rattle.un_reader.specs.Functions.{IsFunctionOf, ArePartsOf, param_ids, source_blocks}
use Rattle.un_reader.specs.Entry.{IsLiveAtEntry, HasNoneLive}
use Rattle.un_reader.specs.Read.{AreLinesOf, IsRead, IsTextFault, at_entry}
use Rattle.un_reader.proofs.WellFormed.{well_formed}

-- the parts that a text gives
pub record Parts (text : List ℕ) (name : List ℕ) (params : List NameId) (names : List Spelled) (blocks : List SourceBlock) : Type 0 where
  pub lines : HasNoLineFault (lines_in text)
  pub whole : shape_fault (shapes_in text) ≡ None
  pub are : ArePartsOf (shapes_in text) name params names blocks

-- the same, by other words for the lines
pub parts_of : (text : List ℕ) (lines : List Line) (name : List ℕ) (params : List NameId) (names : List Spelled) (blocks : List SourceBlock)
    → AreLinesOf text lines → shape_fault lines ≡ None → ArePartsOf lines name params names blocks → Parts text name params names blocks
parts_of text lines name params names blocks of none are = record {
  lines = of.good;
  whole = subst (λ (ls : List Line). shape_fault ls ≡ None) of.are none;
  are = subst (λ (ls : List Line). ArePartsOf ls name params names blocks) of.are are;
}

module _ (lines : List Line) (its_name : List ℕ) (params : List NameId) (names : List Spelled) (blocks : List SourceBlock)
    (name : NameId) (are : ArePartsOf lines its_name params names blocks) where
  -- a name that is live among the parts is live among those of the lines
  live_in_lines : IsLiveAtEntry params names blocks name → IsLiveAtEntry (param_ids lines) (names_of lines) (source_blocks lines) name
  live_in_lines live =
      subst (λ (x : List NameId). IsLiveAtEntry x (names_of lines) (source_blocks lines) name) are.params
      (subst (λ (x : List Spelled). IsLiveAtEntry params x (source_blocks lines) name) are.names
      (subst (λ (x : List SourceBlock). IsLiveAtEntry params names x name) are.blocks live))

  -- and the other way
  pub live_in_parts : IsLiveAtEntry (param_ids lines) (names_of lines) (source_blocks lines) name → IsLiveAtEntry params names blocks name
  live_in_parts live =
      subst (λ (x : List NameId). IsLiveAtEntry x names blocks name) (sym are.params)
      (subst (λ (x : List Spelled). IsLiveAtEntry (param_ids lines) x blocks name) (sym are.names)
      (subst (λ (x : List SourceBlock). IsLiveAtEntry (param_ids lines) (names_of lines) x name) (sym are.blocks) live))

pub entry_fault : (text : List ℕ) (lines : List Line) (its_name : List ℕ) (params : List NameId) (names : List Spelled)
    (blocks : List SourceBlock) (place : ℕ)
    → AreLinesOf text lines → Parts text its_name params names blocks → place ≡ position_or_len is_block lines
    → (name : NameId) → IsLiveAtEntry params names blocks name → IsTextFault text (place + 1) LiveAtEntry
entry_fault text lines its_name params names blocks place of parts at name live =
    let p : place ≡ position_or_len is_block (shapes_in text) = at ∙ ap (position_or_len is_block) of.are in
    subst (λ (k : ℕ). IsTextFault text (k + 1) LiveAtEntry) (sym p)
    (at_entry name of.within parts.lines parts.whole (live_in_lines (shapes_in text) its_name params names blocks name parts.are live))

-- parts without a live name are those of a function without a fault
pub parts_well_formed : (text : List ℕ) (its_name : List ℕ) (params : List NameId) (names : List Spelled) (blocks : List SourceBlock)
    → Parts text its_name params names blocks → HasNoneLive params names blocks → IsWellFormed its_name params names blocks
parts_well_formed text its_name params names blocks parts none = moved
    (well_formed (lines_in text) parts.lines parts.whole
    (λ name number is_local live. none name
    (live_in_parts lines its_name params names blocks name parts.are (record { number = number; is_local = is_local; live = live }))))
  where
    lines : List Line
    lines = shapes_in text

    moved : IsWellFormed (unwrap_or (name_of lines) []) (param_ids lines) (names_of lines) (source_blocks lines)
        → IsWellFormed its_name params names blocks
    moved w =
        subst (λ (x : List ℕ). IsWellFormed x params names blocks) (sym parts.are.name)
        (subst (λ (x : List NameId). IsWellFormed (unwrap_or (name_of lines) []) x names blocks) (sym parts.are.params)
        (subst (λ (x : List Spelled). IsWellFormed (unwrap_or (name_of lines) []) (param_ids lines) x blocks) (sym parts.are.names)
        (subst (λ (x : List SourceBlock). IsWellFormed (unwrap_or (name_of lines) []) (param_ids lines) (names_of lines) x)
        (sym parts.are.blocks) w)))

-- a function with the parts is what the text is read as
pub is_read : (text : List ℕ) (its_name : List ℕ) (params : List NameId) (names : List Spelled) (blocks : List SourceBlock)
    (lines : List Line) (f : Function)
    → AreLinesOf text lines → Parts text its_name params names blocks → HasNoneLive params names blocks
    → f.name ≡ its_name → f.params ≡ params → f.names ≡ names → f.blocks ≡ blocks → IsRead text f
is_read text its_name params names blocks lines f of parts none a b c d = record {
  within = of.within;
  lines = parts.lines;
  whole = parts.whole;
  is = record {
    name = a ∙ parts.are.name;
    params = b ∙ parts.are.params;
    names = c ∙ parts.are.names;
    blocks = d ∙ parts.are.blocks;
  };
  entry =
      subst (λ (x : List NameId). HasNoneLive x f.names f.blocks) (sym b)
      (subst (λ (x : List Spelled). HasNoneLive params x f.blocks) (sym c)
      (subst (λ (x : List SourceBlock). HasNoneLive params names x) (sym d) none));
}

-- lines are one function
pub one_function : (lines : List Line) (f g : Function) → IsFunctionOf lines f → IsFunctionOf lines g → f ≡ g
one_function lines f g a b =
    same_function f g (a.name ∙ sym b.name) (a.params ∙ sym b.params) (a.names ∙ sym b.names) (a.blocks ∙ sym b.blocks)
