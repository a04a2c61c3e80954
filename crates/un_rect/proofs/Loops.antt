-- One entry more of a loop over a list of cuts.
use Rattle.std.proofs.Common.{ℕ, suc, ◌≡◌, ◌<◌, ◌+◌, List, length, get_or, option_and_then, ap, subst, arith}
use Rattle.std.specs.declared.option.Option.{Option}
use Rattle.un_base.specs.declared.ids.VarId.{VarId}
use Rattle.un_domains.specs.Sets.{Sets}
use Rattle.un_domains.specs.Cuts.{Contents}
use Rattle.un_prop.specs.declared.propagator.Pruned.{Pruned}
use Rattle.un_prop.specs.Going.{Stepped}
use Rattle.un_prop.specs.GoingLaws.{stepped_by, stepped_chain}
use Rattle.un_prop.specs.Places.{each_place}
use Rattle.un_rect.specs.Entries.{entry_cut}
use Rattle.un_rect.specs.EntryLaws.{entry_within}

each_next : (f : ℕ → Sets → Option Sets) (n : ℕ) (s : Sets) → each_place f (n + 1) s ≡ option_and_then (f n) (each_place f n s)
each_next f n s = let e : n + 1 ≡ suc n = omega arith in ap (λ (k : ℕ). each_place f k s) e

pub stepped_entry : {A : Type 0} (vs us : List VarId) (f : A → Sets → Option Sets) (xs : List A) (k : ℕ) (d : A) (old mid new : Contents)
    (before so_far after : Pruned)
    → us ≡ vs → k < length xs → Stepped vs (each_place (entry_cut f xs) k) old mid before so_far
    → Stepped us (f (get_or xs k d)) mid new so_far after
    → Stepped vs (each_place (entry_cut f xs) (k + 1)) old new before after
stepped_entry vs us f xs k d old mid new before so_far after e lt first step =
    stepped_by vs (each_place (entry_cut f xs) (k + 1)) (λ s. option_and_then (entry_cut f xs k) (each_place (entry_cut f xs) k s)) old
    new before after
    (λ live. each_next (entry_cut f xs) k old.sets)
    (stepped_chain vs (each_place (entry_cut f xs) k) (entry_cut f xs k) old mid new before so_far after first
    (stepped_by vs (entry_cut f xs k) (f (get_or xs k d)) mid new so_far after (λ live. entry_within f xs k d mid.sets lt)
    (subst (λ (ws : List VarId). Stepped ws (f (get_or xs k d)) mid new so_far after) e step)))
