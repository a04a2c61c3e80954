-- What the shape of a line says: its names and labels are spelled as such, and an operation has the words that it needs.
use Rattle.std.proofs.Common.{ℕ, ◌&&◌, ◌==◌, Bool, true, false, List, length, drop, Option, Some, None, unwrap_or, codes, slice_get}
use Rattle.std.proofs.Common.{if◌then◌else◌}
use Rattle.std.specs.List.{AllByRecursion as Each, list_all}
use Rattle.std.specs.Option.{option_map, option_map_or, option_and_then}
use Rattle.un_words.specs.declared.token.Number.{Number}
use Rattle.un_words.specs.declared.token.Token.{Token}
use Rattle.un_words.specs.declared.slot.Slot.TheVariants.{Equals as EqualsSlot, Named as NamedSlot}
use Rattle.un_words.specs.declared.slot.Head.{Head}
use Rattle.un_words.specs.declared.slot.Head.TheVariants.{Func as FuncHead, Block as BlockHead, Jump as JumpHead, If as IfHead}
use Rattle.un_words.specs.declared.slot.Head.TheVariants.{Ret as RetHead, Assigned, Bare}
use Rattle.un_words.specs.declared.line.TermLine.TheVariants.{Jump, Branch, Ret}
use Rattle.un_words.specs.declared.line.Line.{Line}
use Rattle.un_words.specs.declared.line.Line.TheVariants.{Blank, Func, Block, Operation, Terminator}
use Rattle.un_words.specs.Tokens.{Spelled, tokens_of}
use Rattle.un_words.specs.Shapes.{is_slot, is_word_at, word_at, plain_at, name_at, condition_at, names_at, operation_shape, func_shape}
use Rattle.un_words.specs.Shapes.{block_shape, jump_shape, branch_shape, return_shape, assigned_shape, head_of, shape_by, shape_of, line_of}
use Rattle.un_words.specs.LineNames.{names_on_term}
use Rattle.un_words.proofs.TokenFacts.{IfThere, IfThere-then, IfThere-if, IsSpelled, IsNameWord, IsGoodToken, IsSpelledCondition}
use Rattle.un_words.proofs.TokenFacts.{tokens_good, good_drop, word_there, name_there, condition_there, names_there}
use Rattle.un_words.proofs.OpShapes.{IsShapedOp, IsShapedLine, operation_shaped}

abbrev pub IsShaped : Line → Type 0
IsShaped Blank = Unit {0}
IsShaped (Func name params) = IsNameWord name × Each IsSpelled params
IsShaped (Block label freq) = IsNameWord label
IsShaped (Operation o) = IsShapedOp o
IsShaped (Terminator term) = Each IsSpelled (names_on_term term)

operation_good : (dst : Option Spelled) → IfThere IsSpelled dst → (ts : List Token) → Each IsGoodToken ts
    → IfThere IsShaped (operation_shape dst ts)
operation_good dst d ts g = by (operation_shape dst ts) (operation_shaped dst d ts g)
  where
    by : (o : Option Line) → IfThere IsShapedLine o → IfThere IsShaped o
    by None h = tt
    by (Some (Operation o)) h = h
    by (Some _) h = absurd h

func_good : (ts : List Token) → Each IsGoodToken ts → IfThere IsShaped (func_shape ts)
func_good ts g =
    IfThere-if IsShaped (list_all (is_slot NamedSlot) (drop 2 ts)) (option_map (λ (name : List ℕ). Func name (names_at ts)) (word_at 1 ts))
    (IfThere-then IsNameWord IsShaped (λ (name : List ℕ). Some (Func name (names_at ts))) (word_at 1 ts) (word_there 1 ts g)
    (λ name n. (n, names_there ts g)))

block_good : (ts : List Token) → Each IsGoodToken ts → IfThere IsShaped (block_shape ts)
block_good ts g =
    IfThere-if IsShaped ((length ts == 4) && is_word_at 2 (codes "freq") ts)
    (option_and_then (λ (label : List ℕ). option_map (λ (freq : Number). Block label freq) (plain_at 3 ts)) (word_at 1 ts))
    (IfThere-then IsNameWord IsShaped (λ (label : List ℕ). option_map (λ (freq : Number). Block label freq) (plain_at 3 ts)) (word_at 1 ts)
    (word_there 1 ts g) (λ label n. by label n (plain_at 3 ts)))
  where
    by : (label : List ℕ) → IsNameWord label → (o : Option Number) → IfThere IsShaped (option_map (λ (freq : Number). Block label freq) o)
    by label n None = tt
    by label n (Some freq) = n

jump_good : (ts : List Token) → IfThere IsShaped (jump_shape ts)
jump_good ts = IfThere-if IsShaped (length ts == 2) (option_map (λ (to : List ℕ). Terminator (Jump to)) (word_at 1 ts)) (by (word_at 1 ts))
  where
    by : (o : Option (List ℕ)) → IfThere IsShaped (option_map (λ (to : List ℕ). Terminator (Jump to)) o)
    by None = tt
    by (Some to) = tt

branch_good : (ts : List Token) → Each IsGoodToken ts → IfThere IsShaped (branch_shape ts)
branch_good ts g =
    IfThere-if IsShaped ((length ts == 4) && is_word_at 2 (codes "jump") ts)
    (option_and_then (λ (to : List ℕ). option_map (λ (c : Spelled × Bool). Terminator (Branch c.0 c.1 to)) (condition_at 1 ts))
    (word_at 3 ts))
    (IfThere-then IsNameWord IsShaped (λ (to : List ℕ). option_map (λ (c : Spelled × Bool). Terminator (Branch c.0 c.1 to))
    (condition_at 1 ts)) (word_at 3 ts) (word_there 3 ts g) (λ to n. by to (condition_at 1 ts) (condition_there 1 ts g)))
  where
    by : (to : List ℕ) (o : Option (Spelled × Bool)) → IfThere IsSpelledCondition o
        → IfThere IsShaped (option_map (λ (c : Spelled × Bool). Terminator (Branch c.0 c.1 to)) o)
    by to None h = tt
    by to (Some c) h = (h, tt)

return_good : (ts : List Token) → Each IsGoodToken ts → IfThere IsShaped (return_shape ts)
return_good ts g = by (length ts == 1) (length ts == 2) (name_at 1 ts) (name_there 1 ts g)
  where
    by : (v w : Bool) (o : Option Spelled) → IfThere IsSpelled o
        → IfThere IsShaped (if v then Some (Terminator (Ret None)) else
        (if w then option_map (λ (name : Spelled). Terminator (Ret (Some name))) o else None))
    by true w o h = tt
    by false false o h = tt
    by false true None h = tt
    by false true (Some name) h = (h, tt)

assigned_good : (ts : List Token) → Each IsGoodToken ts → IfThere IsShaped (assigned_shape ts)
assigned_good ts g =
    IfThere-if IsShaped (option_map_or (is_slot EqualsSlot) (slice_get ts 1) false) (operation_shape (name_at 0 ts) (drop 2 ts))
    (operation_good (name_at 0 ts) (name_there 0 ts g) (drop 2 ts) (good_drop 2 ts g))

shape_good : (head : Head) (ts : List Token) → Each IsGoodToken ts → IfThere IsShaped (shape_by head ts)
shape_good FuncHead ts g = func_good ts g
shape_good BlockHead ts g = block_good ts g
shape_good JumpHead ts g = jump_good ts
shape_good IfHead ts g = branch_good ts g
shape_good RetHead ts g = return_good ts g
shape_good Assigned ts g = assigned_good ts g
shape_good Bare ts g = operation_good None tt ts g
shape_good _ ts g = tt

-- the line that bytes are
pub line_shaped : (bytes : List ℕ) → IsShaped (line_of bytes)
line_shaped bytes = by (shape_of (tokens_of bytes)) (shape_good (head_of (tokens_of bytes)) (tokens_of bytes) (tokens_good bytes))
  where
    by : (o : Option Line) → IfThere IsShaped o → IsShaped (unwrap_or o Blank)
    by None h = tt
    by (Some line) h = h
