-- Lists of an operation's variables, and what is posted of them.
use Rattle.std.proofs.Common.{ℕ, ◌≡◌, ◌+◌, true, false, List, [], ◌∷◌, ◌++◌, map, Option, None, Some, refl, ap, ◌∙◌, arith}
use Rattle.std.specs.List.{range_with_len}
use Rattle.std.proofs.lemmas.List.FromFn.{map-range_with_len_more}
use Rattle.std.specs.Option.{option_to_list}
use Rattle.un_base.specs.declared.ids.VarId.{VarId}
use Rattle.un_ir.specs.declared.function.Term.TheVariants.{Fall, Jump, Branch, Ret}
use Rattle.un_ir.specs.declared.extended.ExtKind.{ExtKind}
use Rattle.un_ir.specs.declared.extended.ExtKind.TheVariants.{In, Out, Body, End, Copy, Enter, Leave}
use Rattle.un_prop.specs.declared.act.Act.TheVariants.{Always}
use Rattle.un_prop.specs.declared.act.At.TheVariants.{Const, Var}
use Rattle.un_alt.specs.Registers.{choice_vars}
use Rattle.un_kinds.specs.Constraints.{Constraint, Before, Zeros}
use Rattle.un_sites.specs.Postings.{zeros_by}
use Rattle.un_kinds.specs.Scopes.{vars_in, own_var}
use Rattle.un_ir.specs.Kinds.{is_fall}
use Rattle.un_kinds.proofs.Appends.{three_added}

pub own_vars : (vs : List VarId) → vars_in own_var vs ≡ vs
own_vars [] = refl
own_vars (v ∷ vs) = ap (λ us. v ∷ us) (own_vars vs)

pub option_vars : (o : Option VarId) → choice_vars o ≡ option_to_list o
option_vars None = refl
option_vars (Some v) = refl

-- ---- zeros

pub zeros_fall : (kind : ExtKind) (instr : Option VarId) (at : VarId) (others : List VarId) → is_fall kind ≡ true
    → zeros_by kind instr (Some at) others ≡ Before (Var at) Always (Const 0) Always 0 ∷ []
zeros_fall In instr at others h = absurd (cc h)
zeros_fall Out instr at others h = absurd (cc h)
zeros_fall (Body o) instr at others h = absurd (cc h)
zeros_fall (End Fall) instr at others h = refl
zeros_fall (End (Jump to)) instr at others h = absurd (cc h)
zeros_fall (End (Branch pred sense to)) instr at others h = absurd (cc h)
zeros_fall (End (Ret value)) instr at others h = absurd (cc h)
zeros_fall (Copy node) instr at others h = absurd (cc h)
zeros_fall Enter instr at others h = absurd (cc h)
zeros_fall Leave instr at others h = absurd (cc h)

-- what is posted of an operation with a variable for its instruction, and without one
abbrev pub idle : Option VarId → Option VarId → List VarId → List Constraint
idle None cycle others = []
idle (Some instr) cycle others = Zeros instr (option_to_list cycle ++ others) ∷ []

pub zeros_none : (kind : ExtKind) (instr : Option VarId) (others : List VarId) → zeros_by kind instr None others ≡ idle instr None others
zeros_none In None others = refl
zeros_none In (Some v) others = refl
zeros_none Out None others = refl
zeros_none Out (Some v) others = refl
zeros_none (Body o) None others = refl
zeros_none (Body o) (Some v) others = refl
zeros_none (End Fall) None others = refl
zeros_none (End Fall) (Some v) others = refl
zeros_none (End (Jump to)) None others = refl
zeros_none (End (Jump to)) (Some v) others = refl
zeros_none (End (Branch pred sense to)) None others = refl
zeros_none (End (Branch pred sense to)) (Some v) others = refl
zeros_none (End (Ret value)) None others = refl
zeros_none (End (Ret value)) (Some v) others = refl
zeros_none (Copy node) None others = refl
zeros_none (Copy node) (Some v) others = refl
zeros_none Enter None others = refl
zeros_none Enter (Some v) others = refl
zeros_none Leave None others = refl
zeros_none Leave (Some v) others = refl

pub zeros_other : (kind : ExtKind) (instr cycle : Option VarId) (others : List VarId) → is_fall kind ≡ false
    → zeros_by kind instr cycle others ≡ idle instr cycle others
zeros_other kind instr None others h = zeros_none kind instr others
zeros_other In None (Some at) others h = refl
zeros_other In (Some v) (Some at) others h = refl
zeros_other Out None (Some at) others h = refl
zeros_other Out (Some v) (Some at) others h = refl
zeros_other (Body o) None (Some at) others h = refl
zeros_other (Body o) (Some v) (Some at) others h = refl
zeros_other (End Fall) instr (Some at) others h = absurd (cc h)
zeros_other (End (Jump to)) None (Some at) others h = refl
zeros_other (End (Jump to)) (Some v) (Some at) others h = refl
zeros_other (End (Branch pred sense to)) None (Some at) others h = refl
zeros_other (End (Branch pred sense to)) (Some v) (Some at) others h = refl
zeros_other (End (Ret value)) None (Some at) others h = refl
zeros_other (End (Ret value)) (Some v) (Some at) others h = refl
zeros_other (Copy node) None (Some at) others h = refl
zeros_other (Copy node) (Some v) (Some at) others h = refl
zeros_other Enter None (Some at) others h = refl
zeros_other Enter (Some v) (Some at) others h = refl
zeros_other Leave None (Some at) others h = refl
zeros_other Leave (Some v) (Some at) others h = refl

-- the variables of an optional operation but that of its instruction
pub idle_vars : (cycle : Option VarId) (choices regs made none a b new : List VarId) → none ≡ [] → a ≡ none ++ choice_vars cycle
    → b ≡ a ++ vars_in own_var choices → new ≡ b ++ vars_in own_var made → made ≡ regs → new ≡ option_to_list cycle ++ (choices ++ regs)
idle_vars cycle choices regs made none a b new e h k l m =
    three_added [] a b new (choice_vars cycle) (vars_in own_var choices) (vars_in own_var made)
    (h ∙ ap (λ xs. xs ++ choice_vars cycle) e) k l
    ∙ ap (λ xs. xs ++ (vars_in own_var choices ++ vars_in own_var made)) (option_vars cycle)
    ∙ ap (λ ys. option_to_list cycle ++ (ys ++ vars_in own_var made)) (own_vars choices)
    ∙ ap (λ zs. option_to_list cycle ++ (choices ++ zs)) (own_vars made ∙ m)

-- ---- numbers

pub range_added : {A : Type 0} (f : ℕ → A) (made next : List A) (y : A) (n : ℕ) → made ≡ map f (range_with_len 0 n) → y ≡ f n
    → next ≡ made ++ y ∷ [] → next ≡ map f (range_with_len 0 (n + 1))
range_added f made next y n h e g = rw (g, h, e, map-range_with_len_more f 0 n n (omega arith)) refl
