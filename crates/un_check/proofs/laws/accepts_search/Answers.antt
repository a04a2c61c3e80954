-- The table is that of the model.
use Rattle.std.proofs.Common.{subst}
use Rattle.un_isa.specs.declared.table.Table.{Table}
use Rattle.un_check.specs.Causes.{HasCause, IsTold, claim_of}
use Rattle.un_check.proofs.SearchLemmas.{model_under, search_not, search_told}
use Rattle.un_check.proofs.laws.accepts_search.Goals as goal

pub returns-clause-none : goal.returns-clause-none
returns-clause-none c cause has =
    let f = c.args.f.now in
    let m = c.args.m.now in
    let r = c.args.r.now in
    search_not f m r c.requires.sound c.requires.searched m.ext.table r.options
    (model_under f m r.options c.requires.chosen c.requires.problem.gives) cause
    (subst (λ (t : Table). HasCause t f r.options (claim_of r) cause) c.requires.tabled has)

pub returns-clause-accepted : goal.returns-clause-accepted
returns-clause-accepted c told is =
    let f = c.args.f.now in
    let m = c.args.m.now in
    let r = c.args.r.now in
    search_told f m r c.requires.sound c.requires.searched m.ext.table r.options
    (model_under f m r.options c.requires.chosen c.requires.problem.gives) told
    (subst (λ (t : Table). IsTold t f r.options (claim_of r) told) c.requires.tabled is)
