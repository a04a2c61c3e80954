use Rattle.un_model.proofs.Numbering.{model_made, is_model}
use Rattle.un_model.proofs.build.build.Goals as goal

pub returns-clause-gives : goal.returns-clause-gives
returns-clause-gives c =
    let hd = rw c.new-domains.ensures at c.in_ok-blocks.ensures.domains in
    let ht = rw (c.new-temps.ensures, c.new-domains.ensures) at c.in_ok-blocks.ensures.temps in
    let hb = rw c.new-domains.ensures at c.in_ok-blocks.ensures.vars in
    model_made c.args.e.now c.in_ok-ext.ext c.args.o.now c.add_blocks.new.domains c.add.new.domains c.add_blocks.new.temps
    c.in_ok-blocks.blocks c.in_ok-flag.flag c.in_ok-arcs.arcs hd c.in_ok-flag.ensures.domains ht hb c.in_ok-flag.ensures.var
    (rw c.as_slice.ensures at c.in_ok-arcs.ensures) c.in_ok-ext.ensures.cases

pub returns-clause-model : goal.returns-clause-model
returns-clause-model c = is_model _ c.args.e.now c.args.o.now (returns-clause-gives c)
