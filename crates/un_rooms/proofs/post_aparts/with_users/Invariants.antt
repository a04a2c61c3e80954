use Rattle.std.proofs.Common.{◌≡◌, ◌++◌, List, drop, map, length}
use Rattle.std.specs.Prelude.{slice_get}
use Rattle.un_base.specs.declared.ids.TempId.{TempId}
use Rattle.un_prop.specs.declared.act.UserOf.{UserOf}
use Rattle.un_rooms.specs.Gathered.{gathered, temp_with}
use Rattle.un_sites.specs.Places.{definer_or}
use Rattle.un_sites.specs.Sites.{definers_in}
use Rattle.un_rooms.proofs.post_aparts.with_users.Given as goal

abbrev pub invariant-loop-t : goal.invariant-loop-t
invariant-loop-t l = (f : TempId → List UserOf) → l.lists ≡ gathered l.first (length l.lists) f
    → l.made ++ map (λ (t : TempId). temp_with (definer_or (slice_get (definers_in l.sites) t.0)) (f t)) (drop l.t-index l.temps) ≡ map
    (λ (t : TempId). temp_with (definer_or (slice_get (definers_in l.sites) t.0)) (f t)) l.temps
