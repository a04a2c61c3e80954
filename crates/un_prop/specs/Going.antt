-- Steps of a pruning, one after another.
use Rattle.std.specs.Prelude.{◌≡◌, ◌≢◌, List, length, option_and_then}
use Rattle.std.specs.declared.option.Option.{Option}
use Rattle.un_base.specs.declared.ids.VarId.{VarId}
use Rattle.un_domains.specs.Sets.{Sets, NoneEmpty}
use Rattle.un_domains.specs.Cuts.{Contents}
use Rattle.un_domains.specs.declared.cut.Cut.{Cut}
use Rattle.un_domains.specs.declared.cut.Cut.TheVariants.{Same as CutSame, Changed, Emptied}
use Rattle.un_prop.specs.Pruning.{IsPrune}
use Rattle.un_prop.specs.declared.propagator.Pruned.{Pruned}
use Rattle.un_prop.specs.declared.propagator.Pruned.TheVariants.{Same, Tighter, Failed}

-- a cut's answer as a pruning's
abbrev pub answer_of : Cut → Pruned
answer_of CutSame = Same
answer_of Changed = Tighter
answer_of Emptied = Failed

-- whatever the steps before did from the start, with this step they did that and then this cut
abbrev pub Goes : List VarId → (Sets → Option Sets) → Contents → Contents → Pruned → Pruned → Type 0
Goes vs f old new before after =
    (c : Option Sets) (start : Contents) → IsPrune vs c start old before → IsPrune vs (option_and_then f c) start new after

-- a step: besides, no variable goes, and where a step before left some value of each variable, so does this one unless it fails
pub record Stepped (vs : List VarId) (f : Sets → Option Sets) (old new : Contents) (before after : Pruned) : Type 0 where
  pub goes : Goes vs f old new before after
  pub long : length new.sets ≡ length old.sets
  pub live : (before ≢ Failed → NoneEmpty old.sets) → after ≢ Failed → NoneEmpty new.sets
