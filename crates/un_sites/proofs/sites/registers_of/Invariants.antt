use Rattle.std.proofs.Common.{◌≡◌, ◌++◌, drop}
use Rattle.un_sites.specs.Postings.{registers_of}
use Rattle.un_sites.specs.Sites.{definers_in}
use Rattle.un_sites.proofs.sites.registers_of.Given as goal

abbrev pub invariant-loop-site : goal.invariant-loop-site
invariant-loop-site l = l.regs ++ registers_of (definers_in (drop l.site-index l.alts)) ≡ registers_of (definers_in l.alts)
