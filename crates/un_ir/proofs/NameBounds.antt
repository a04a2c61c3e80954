-- The names that a function reads and assigns are names of the function; so is each name that is live somewhere.
use Rattle.std.proofs.Common.{◌≡◌, ℕ, zero, suc, ◌<◌, List, [], ◌∷◌, Option, Some, None, map, length, slice_get}
use Rattle.std.proofs.Common.{All, Contains, refl, arith, subst}
use Rattle.std.specs.Option.{option_map}
use Rattle.std.proofs.Math.Bridge.{le_prop}
use Rattle.std.proofs.Math.Logic.{∥∥₁_elim}
use Rattle.std.proofs.lemmas.List.Elements.{All-contains}
use Rattle.std.proofs.lemmas.Option.{slice_get_within, get_or_from_slice_get}
use Rattle.un_base.specs.declared.ids.NameId.{NameId}
use Rattle.un_isa.specs.Facts.{Operands, Fixed, Arguments, facts_of, result_space}
use Rattle.un_isa.specs.declared.reg.Space.{Space}
use Rattle.un_ir.specs.declared.function.Kind.{Kind}
use Rattle.un_ir.specs.declared.function.Kind.TheVariants.{General, Pred}
use Rattle.un_ir.specs.declared.function.SrcOp.{SrcOp}
use Rattle.un_ir.specs.declared.function.Term.{Term}
use Rattle.un_ir.specs.declared.function.Term.TheVariants.{Fall, Jump, Branch, Ret}
use Rattle.un_ir.specs.declared.function.Block.{Block}
use Rattle.un_ir.specs.declared.function.Function.{Function}
use Rattle.un_ir.specs.Names.{kind_of}
use Rattle.un_ir.specs.Live.{IsLive, used, kept, read_by_term, read_by, read_at}
use Rattle.un_ir.specs.WellFormed.{Names, IsOfKind, IsGoodOp, IsGoodBlock, IsWellFormed, AreRead, IsAssigned, AssignsItsKind, TestsItsKind}
use Rattle.un_ir.specs.WellFormed.{kind_in}

-- what all of a list keep, the item at a place keeps
pub at_all : {X : Type 0} (P : X → Type 0) (xs : List X) (k : ℕ) (x : X) → All P xs → slice_get xs k ≡ Some x → P x
at_all P xs k x all got = subst P (get_or_from_slice_get xs k x x got) (all k x (slice_get_within xs k x got))

-- a name with a kind is a name of the function
kind_small : (names : Names) (kind : Kind) (name : NameId) → IsOfKind names kind name → name.0 < length names
kind_small names kind name h = by (slice_get names name.0) refl h
  where
    by : (o : Option (List ℕ × Kind)) → slice_get names name.0 ≡ o → option_map (λ (n : List ℕ × Kind). n.1) o ≡ Some kind
        → name.0 < length names
    by None e h = absurd (cc h)
    by (Some n) e h = slice_get_within names name.0 n e

some_kind : (names : Names) (srcs : List NameId) (kinds : List Kind) (name : NameId) → map (kind_of names) srcs ≡ map Some kinds
    → Contains srcs name → name.0 < length names
some_kind names [] kinds name e (k, below, is) = absurd (omega arith)
some_kind names (s ∷ srcs) [] name e has = absurd (cc e)
some_kind names (s ∷ srcs) (kind ∷ kinds) name e (zero, below, is) =
    let here : kind_of names s ≡ Some kind = cc e in subst (λ (n : NameId). n.0 < length names) is (kind_small names kind s here)
some_kind names (s ∷ srcs) (kind ∷ kinds) name e (suc k, below, is) =
    let rest : map (kind_of names) srcs ≡ map Some kinds = cc e in some_kind names srcs kinds name rest (k, omega arith, is)

-- the names that an operation reads, by its kinds
srcs_small : (names : Names) (operands : Operands) (srcs : List NameId) (name : NameId)
    → AreRead names operands srcs → Contains srcs name → name.0 < length names
srcs_small names Arguments srcs name h has = kind_small names General name (All-contains (IsOfKind names General) srcs name h.0 has)
srcs_small names (Fixed spaces) srcs name h has = some_kind names srcs (map kind_in spaces) name h has

dst_small : (names : Names) (operands : Operands) (space : Option Space) (name : NameId)
    → IsAssigned names operands space (Some name) → name.0 < length names
dst_small names operands None name h = absurd (cc h)
dst_small names (Fixed spaces) (Some space) name h = kind_small names (kind_in space) name h
dst_small names Arguments (Some space) name h = kind_small names (kind_in space) name h

term_small : (names : Names) (term : Term) (name : NameId) → TestsItsKind names term → Contains (read_by_term term) name
    → name.0 < length names
term_small names Fall name h (k, below, is) = absurd (omega arith)
term_small names (Jump to) name h (k, below, is) = absurd (omega arith)
term_small names (Branch pred sense to) name h (zero, below, is) =
    subst (λ (n : NameId). n.0 < length names) is (kind_small names Pred pred h)
term_small names (Branch pred sense to) name h (suc k, below, is) = absurd (omega arith)
term_small names (Ret None) name h (k, below, is) = absurd (omega arith)
term_small names (Ret (Some value)) name h (zero, below, is) = subst (λ (n : NameId). n.0 < length names) is
    (kind_small names General value h)
term_small names (Ret (Some value)) name h (suc k, below, is) = absurd (omega arith)

-- the names of a function, of which there are so many, are below that number
pub record NamesAreSmall (count : ℕ) (blocks : List Block) : Type 0 where
  pub reads : (b k : ℕ) (block : Block) (name : NameId) → slice_get blocks b ≡ Some block → Contains (read_at block k) name → name.0 < count
  pub assigns : (b k : ℕ) (block : Block) (o : SrcOp) (name : NameId) → slice_get blocks b ≡ Some block → slice_get block.ops k ≡ Some o
      → o.dst ≡ Some name → name.0 < count

pub names_small : (names : Names) (blocks : List Block) → All (IsGoodBlock names) blocks → NamesAreSmall (length names) blocks
names_small names blocks good = record { reads = reads; assigns = assigns }
  where
    op_at : (b k : ℕ) (block : Block) (o : SrcOp) → slice_get blocks b ≡ Some block → slice_get block.ops k ≡ Some o → IsGoodOp names o
    op_at b k block o at here = let g = at_all (IsGoodBlock names) blocks b block good at in
        at_all (IsGoodOp names) block.ops k o g.ops here

    reads : (b k : ℕ) (block : Block) (name : NameId) → slice_get blocks b ≡ Some block → Contains (read_at block k) name
        → name.0 < length names
    reads b k block name at has = by (slice_get block.ops k) refl has
      where
        by : (o : Option SrcOp) → slice_get block.ops k ≡ o → Contains (read_by o block.term) name → name.0 < length names
        by None e has = let g = at_all (IsGoodBlock names) blocks b block good at in term_small names block.term name g.tests has
        by (Some o) e has = let g = op_at b k block o at e in let f = facts_of o.op in srcs_small names f.operands o.srcs name g.reads has

    assigns : (b k : ℕ) (block : Block) (o : SrcOp) (name : NameId) → slice_get blocks b ≡ Some block → slice_get block.ops k ≡ Some o
        → o.dst ≡ Some name → name.0 < length names
    assigns b k block o name at here is =
        let g = op_at b k block o at here in
        let f = facts_of o.op in
        dst_small names f.operands (result_space o.op) name (subst (λ (d : Option NameId). AssignsItsKind names o.op d) is g.assigns)

-- so is each name that is live
pub live_small : (count : ℕ) (blocks : List Block) → NamesAreSmall count blocks → (name : NameId) (b k : ℕ) → IsLive blocks name b k
    → name.0 < count
live_small count blocks small name b k (used b2 k2 block at h has) = small.reads b2 k2 block name at has
live_small count blocks small name b k (kept b2 k2 block c l at h other next live) = live_small count blocks small name c l live

-- each name that is live in a function is one of its names
pub live_name_small : (f : Function) (name : NameId) (b k : ℕ) → IsLive f.blocks name b k → name.0 < length f.names
live_name_small f name b k live =
    ∥∥₁_elim f.well_formed le_prop
    (λ (w : IsWellFormed f.name f.params f.names f.blocks). live_small (length f.names) f.blocks
    (names_small f.names f.blocks w.good_blocks) name b k live)
