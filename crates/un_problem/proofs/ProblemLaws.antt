-- What the extended function of every function keeps of it.
use Rattle.std.proofs.Common.{◌≡◌, ℕ, zero, suc, false, true, ◌+◌, ◌<◌, ◌≤◌, Bool, List, [], ◌∷◌, map, length, get_or, All, refl, sym, ap}
use Rattle.std.proofs.Common.{◌∙◌, arith, subst}
use Rattle.std.proofs.Math.Bridge.{le_prop}
use Rattle.std.proofs.Math.Logic.{∥∥₁_elim}
use Rattle.std.proofs.lemmas.List.{get_or-map, length-map}
use Rattle.un_base.specs.declared.ids.NameId.{NameId}
use Rattle.un_isa.specs.Fit.{IsFit}
use Rattle.un_isa.specs.declared.table.Table.{Table}
use Rattle.un_ir.specs.declared.extended.TheConstants.{BLOCK_SIZE, BLOCK_OPS}
use Rattle.un_ir.specs.declared.function.Block.{Block}
use Rattle.un_ir.specs.declared.function.TheConstants.{BLOCKS, NAMES, FREQUENCY}
use Rattle.un_ir.specs.declared.function.Function.{Function}
use Rattle.un_ir.specs.declared.function.Kind.{Kind}
use Rattle.un_ir.specs.declared.extended.Ext.{Ext}
use Rattle.un_ir.specs.declared.extended.ExtBlock.{ExtBlock}
use Rattle.un_ir.specs.declared.extended.Growth.{Growth}
use Rattle.un_ir.specs.declared.extended.Value.{Value}
use Rattle.un_ir.specs.ExtendOf.{extended_blocks, extend_of, grown_block}
use Rattle.un_ir.specs.Extended.{IsLinear, IsExtended}
use Rattle.un_ir.specs.LinearOf.{AreLive, linear_blocks, past_block, kind_of_pair, lin_of}
use Rattle.un_ir.specs.WellFormed.{IsGoodBlock, IsWellFormed}
use Rattle.un_lssa.proofs.KeptFunctions.{made_kept, small_blocks}
use Rattle.un_extend.proofs.ExtendLinear.{made_kept as made_extended}
use Rattle.un_extend.proofs.ExtendSize.{extended_counts}
use Rattle.un_model.specs.Extended.{HasSmallCounts}
use Rattle.un_model.specs.Options.{AreOptions}
use Rattle.un_model.specs.Variables.{IsModel, model_of}
use Rattle.un_model.specs.declared.model.Options.{Options}
use Rattle.un_model.specs.declared.model.Model.{Model}
use Rattle.un_problem.specs.Problems.{IsExtOf, IsModelOf, IsProblemOf, default_options}

abbrev frequencies : List Block → List ℕ
frequencies blocks = map (λ (b : Block). b.freq) blocks

abbrev ext_frequencies : List ExtBlock → List ℕ
ext_frequencies blocks = map (λ (b : ExtBlock). b.freq) blocks

linear_frequencies : (t : Table) (names : ℕ) (lists : List (List NameId)) (b n : ℕ) (blocks : List Block)
    → ext_frequencies (linear_blocks t names lists b n blocks) ≡ frequencies blocks
linear_frequencies t names lists b n [] = refl
linear_frequencies t names lists b n (block ∷ blocks) =
    ap (λ (fs : List ℕ). block.freq ∷ fs) (linear_frequencies t names lists (b + 1) (past_block t lists b n block) blocks)

extended_frequencies : (names : List Kind) (is_entry : Bool) (values : List Value) (next : ℕ) (blocks : List ExtBlock)
    → ext_frequencies (extended_blocks names is_entry values next blocks) ≡ ext_frequencies blocks
extended_frequencies names is_entry values next [] = refl
extended_frequencies names is_entry values next (block ∷ blocks) =
    let g : Growth = grown_block names is_entry values next block in
    ap (λ (fs : List ℕ). block.freq ∷ fs) (extended_frequencies names false g.values g.next blocks)

-- the blocks run as often as those of the function
same_frequencies : (t : Table) (f : Function) (lists : List (List NameId))
    → (let e = extend_of (lin_of f lists t) in ext_frequencies e.blocks) ≡ frequencies f.blocks
same_frequencies t f lists =
    let l = lin_of f lists t in
    extended_frequencies l.names true [] 0 l.blocks ∙ linear_frequencies t (length f.names) lists 0 0 f.blocks

abbrev Kept : Function → Type 0
Kept f = IsWellFormed f.name f.params f.names f.blocks

pub few_blocks : (f : Function) → length f.blocks ≤ BLOCKS
few_blocks f = ∥∥₁_elim f.well_formed le_prop (λ (w : Kept f). w.few_blocks)

pub rarely_run : (f : Function) (k : ℕ) (d : Block) → k < length f.blocks → (let block = get_or f.blocks k d in block.freq) ≤ FREQUENCY
rarely_run f k d h = ∥∥₁_elim f.well_formed le_prop (λ (w : Kept f). let good : IsGoodBlock f.names (get_or f.blocks k d) =
    w.good_blocks k d h in good.freq.1)

all_rare : (blocks : List Block) → ((k : ℕ) (d : Block) → k < length blocks → (let block = get_or blocks k d in block.freq) ≤ FREQUENCY)
    → (k : ℕ) → k < length blocks → get_or (frequencies blocks) k 0 ≤ FREQUENCY
all_rare [] rare k below = absurd (omega arith)
all_rare (block ∷ blocks) rare zero below = rare zero block below
all_rare (block ∷ blocks) rare (suc k) below = all_rare blocks (λ j d h. rare (suc j) d (omega arith)) k (omega arith)

pub small_counts : (t : Table) (f : Function) (e : Ext) → IsExtOf t f e → HasSmallCounts e
small_counts t f e is = record {
  blocks = rw same_length (few_blocks f);
  frequencies = λ k d below. by k d below;
}
  where
    same : ext_frequencies e.blocks ≡ frequencies f.blocks
    same = ap (λ (x : Ext). ext_frequencies x.blocks) is.is_extended ∙ same_frequencies t f is.live

    same_length : length e.blocks ≡ length f.blocks
    same_length = sym (length-map e.blocks (λ (b : ExtBlock). b.freq)) ∙ (ap length same ∙ length-map f.blocks (λ (b : Block). b.freq))

    by : (k : ℕ) (d : ExtBlock) → k < length e.blocks → (let block = get_or e.blocks k d in block.freq) ≤ FREQUENCY
    by k d below =
        let here : get_or (ext_frequencies e.blocks) k 0 ≡ (let block = get_or e.blocks k d in block.freq) =
        get_or-map (λ (b : ExtBlock). b.freq) e.blocks k d 0 below in
        let moved : get_or (ext_frequencies e.blocks) k 0 ≡ get_or (frequencies f.blocks) k 0 = ap (λ (fs : List ℕ). get_or fs k 0) same in
        let bound = all_rare f.blocks (rarely_run f) k (rw (sym same_length) below) in
        rw (sym here ∙ moved) bound

-- an extended function has the names of its function
pub few_names : (f : Function) → length f.names ≤ NAMES
few_names f = ∥∥₁_elim f.well_formed le_prop (λ (w : Kept f). w.few_names)

pub same_names : (t : Table) (f : Function) (e : Ext) → IsExtOf t f e → length e.names ≡ length f.names
same_names t f e is = ap (λ (x : Ext). length x.names) is.is_extended ∙ length-map f.names kind_of_pair

pub default_are : AreOptions default_options
default_are = record { regs = tt; slots = omega arith }

-- what the extended function's own table says of it
pub table_is : (t : Table) (f : Function) (e : Ext) → IsExtOf t f e → e.table ≡ t
table_is t f e is = ap (λ (x : Ext). x.table) is.is_extended

-- the extended function of a function, by its own table
pub of_function : (t : Table) (f : Function) (e : Ext) → IsExtOf t f e
    → (live : List (List NameId)) × AreLive f.blocks live × (e ≡ extend_of (lin_of f live e.table))
of_function t f e is =
    (is.live, is.are_live, subst (λ (u : Table). e ≡ extend_of (lin_of f is.live u)) (sym (table_is t f e is)) is.is_extended)

pub options_are : (t : Table) (f : Function) (o : Options) (m : Model) → IsModelOf t f o m → m.options ≡ o
options_are t f o m is = ap (λ (x : Model). x.options) is.is_model

-- a model of the extended function of a function is one by its own parts
pub own_model : (t : Table) (f : Function) (o : Options) (m : Model) → IsModelOf t f o m → IsModel m
own_model t f o m is =
    let same : o ≡ m.options = sym (options_are t f o m is) in subst (λ (p : Options). m ≡ model_of m.ext p) same is.is_model

-- for a table that the compiler works for, the linear and the extended function keep what such functions keep
pub linear_kept : (t : Table) (f : Function) (lists : List (List NameId)) → AreLive f.blocks lists → IsFit t
    → IsLinear (lin_of f lists t)
linear_kept t f lists live fit =
    made_kept f lists t live fit (map kind_of_pair f.names) (linear_blocks t (length f.names) lists 0 0 f.blocks) refl refl

pub extended_kept : (t : Table) (f : Function) (lists : List (List NameId)) → AreLive f.blocks lists → IsFit t
    → IsExtended (extend_of (lin_of f lists t))
extended_kept t f lists live fit =
    let l = lin_of f lists t in
    made_extended l (linear_kept t f lists live fit) l.names (extended_blocks l.names true [] 0 l.blocks) refl refl

pub is_extended : (t : Table) (f : Function) (e : Ext) → IsFit t → IsExtOf t f e → IsExtended e
is_extended t f e fit is = subst IsExtended (sym is.is_extended) (extended_kept t f is.live is.are_live fit)

-- and no block has many operations
few_ops : (t : Table) (f : Function) (lists : List (List NameId)) → AreLive f.blocks lists → IsFit t
    → (let e = extend_of (lin_of f lists t) in All (λ (block : ExtBlock). length block.ops ≤ BLOCK_OPS) e.blocks)
few_ops t f lists live fit =
    let l = lin_of f lists t in
    let kept = linear_kept t f lists live fit in
    extended_counts t l.names l.blocks BLOCK_SIZE true [] 0 l.blocks kept.good.each (small_blocks f lists t live fit)

few_ext_ops : (t : Table) (f : Function) (e : Ext) → IsFit t → IsExtOf t f e
    → All (λ (block : ExtBlock). length block.ops ≤ BLOCK_OPS) e.blocks
few_ext_ops t f e fit is =
    subst (λ (x : Ext). All (λ (block : ExtBlock). length block.ops ≤ BLOCK_OPS) x.blocks) (sym is.is_extended)
    (few_ops t f is.live is.are_live fit)

-- ---- the model of a function, for a table that the compiler works for and under options that a model may have

-- what is built of the extended function
pub built : (t : Table) (f : Function) (o : Options) (e : Ext) (m : Model) → IsExtOf t f e → m ≡ model_of e o → IsModelOf t f o m
built t f o e m is same =
    let own : m.ext ≡ e = ap (λ (x : Model). x.ext) same in
    record {
      ext = subst (IsExtOf t f) (sym own) is;
      is_model = same ∙ ap (λ (x : Ext). model_of x o) (sym own);
    }

-- what follows for it
pub problem : (t : Table) (f : Function) (o : Options) (m : Model) → IsFit t → AreOptions o → IsModelOf t f o m → IsProblemOf f m
problem t f o m fit options is =
    let table : m.ext.table ≡ t = table_is t f m.ext is.ext in
    let chosen : m.options ≡ o = options_are t f o m is in
    record {
      fit = subst IsFit (sym table) fit;
      options = subst AreOptions (sym chosen) options;
      gives = subst (λ (u : Table). IsModelOf u f m.options m) (sym table) (subst (λ (p : Options). IsModelOf t f p m) (sym chosen) is);
      own = own_model t f o m is;
      extended = is_extended t f m.ext fit is.ext;
      counts = small_counts t f m.ext is.ext;
      short = few_ext_ops t f m.ext fit is.ext;
    }
