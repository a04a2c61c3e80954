-- What holds of the variables of a window holds of the same variables after some steps.
use Rattle.std.proofs.Common.{ℕ, suc, ◌≡◌, ◌≢◌, ◌+◌, List, length, None, Some, sym, subst, arith}
use Rattle.un_base.specs.declared.ids.VarId.{VarId}
use Rattle.std.specs.declared.option.Option.{Option}
use Rattle.un_domains.specs.Sets.{Sets, NoneEmpty}
use Rattle.un_domains.specs.Cuts.{Contents}
use Rattle.un_prop.specs.Going.{Stepped}
use Rattle.un_prop.specs.GoingLaws.{stepped_chain}
use Rattle.un_prop.specs.Places.{each_place}
use Rattle.un_prop.specs.Pruning.{IsPrune}
use Rattle.un_prop.specs.declared.propagator.Pruned.{Pruned}
use Rattle.un_prop.specs.declared.propagator.Pruned.TheVariants.{Failed}
use Rattle.un_prop.specs.Rounds.{HasVars}
use Rattle.un_slots.specs.declared.item.Item.{Item}
use Rattle.un_slots.specs.Slots.{SlotVars}

pub same_vars : (vs us : List VarId) (items : List Item) → us ≡ vs → SlotVars vs items → SlotVars us items
same_vars vs us items e h = subst (λ (ws : List VarId). SlotVars ws items) (sym e) h

pub same_known : (vs us : List VarId) (old new : Sets) → us ≡ vs → length new ≡ length old → HasVars vs old → HasVars us new
same_known vs us old new e long h = subst (λ (ws : List VarId). HasVars ws new) (sym e)
    (λ i d lt. (let known = h i d lt in omega (arith, known, long)))

-- a pruning that does not fail leaves some value of each variable
pub live_after : (vs : List VarId) (o : Option Sets) (old new : Contents) (answer : Pruned) → IsPrune vs o old new answer → answer ≢ Failed
    → NoneEmpty new.sets
live_after vs None old new answer h other = absurd (other h.ends.0)
live_after vs (Some m) old new answer h other = subst NoneEmpty (sym h.ends.sets) h.ends.live

pub next_place : (vs : List VarId) (f : ℕ → Sets → Option Sets) (n : ℕ) (old mid new : Contents) (a b c : Pruned)
    → Stepped vs (each_place f n) old mid a b → Stepped vs (f n) mid new b c → Stepped vs (each_place f (n + 1)) old new a c
next_place vs f n old mid new a b c p q =
    let next : suc n ≡ n + 1 = omega arith in
    subst (λ (k : ℕ). Stepped vs (each_place f k) old new a c) next (stepped_chain vs (each_place f n) (f n) old mid new a b c p q)
