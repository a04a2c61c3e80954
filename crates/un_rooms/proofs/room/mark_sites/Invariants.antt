use Rattle.std.proofs.Common.{ℕ, ◌≡◌, ◌<◌, ◌||◌, length, drop}
use Rattle.std.specs.List.{list_any}
use Rattle.un_rooms.specs.Marked.{is_marked}
use Rattle.un_sites.specs.Pressures.{may_have}
use Rattle.un_sites.specs.Sites.{definers_in}
use Rattle.un_rooms.proofs.room.mark_sites.Given as goal

-- those of the definers behind remain
abbrev pub invariant-loop-site : goal.invariant-loop-site
invariant-loop-site l = record {
  len : length l.marks ≡ length l.initial.marks;
  is : (r : ℕ) → r < length l.initial.marks → (is_marked l.marks r || list_any (may_have l.domains r) (definers_in (drop l.site-index l.sites)))
      ≡ (is_marked l.initial.marks r || list_any (may_have l.domains r) (definers_in l.sites));
}
