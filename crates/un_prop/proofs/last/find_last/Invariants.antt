-- the open one so far
use Rattle.std.proofs.Common.{◌≡◌, [], ◌∷◌, filter, take, MatchOption}
use Rattle.un_prop.specs.Last.{is_open}
use Rattle.un_prop.proofs.last.find_last.Given as goal

abbrev pub invariant-loop-v : goal.invariant-loop-v
invariant-loop-v l = MatchOption l.found (filter (is_open l.w.store.now.sets) (take l.v-index l.vars) ≡ [])
    (λ v. filter (is_open l.w.store.now.sets) (take l.v-index l.vars) ≡ v ∷ [])
