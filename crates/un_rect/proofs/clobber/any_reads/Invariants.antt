-- those so far do not read it
use Rattle.std.proofs.Common.{◌≡◌, drop}
use Rattle.std.specs.List.{list_any}
use Rattle.un_prop.specs.Acts.{is_user}
use Rattle.un_rect.proofs.clobber.any_reads.Given as goal

abbrev pub invariant-loop-u : goal.invariant-loop-u
invariant-loop-u l = list_any (λ u. is_user u l.fixed) (drop l.u-index l.users) ≡ list_any (λ u. is_user u l.fixed) l.users
