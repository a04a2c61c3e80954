use Rattle.std.proofs.Common.{◌≡◌, ◌∙◌, List, length, map, ap, sym, rules}
use Rattle.std.specs.Vec.{vec_len}
use Rattle.std.proofs.lemmas.Iterator.Adapters.{YieldsList-from_vec}
use Rattle.std.proofs.lemmas.Iterator.Consumers.{YieldsList-end}
use Rattle.std.proofs.lemmas.List.{map-id}
use Rattle.un_isa.specs.declared.instr.Instr.{Instr}
use Rattle.un_model.specs.Emission.{or_nop}
use Rattle.un_emit.specs.Emitted.{packet_with}
use Rattle.un_emit.proofs.packets.packets.Goals as goal

pub returns : goal.returns
returns c =
    let e = c.into_iter-instrs-iterator.ensures.into_iter_gives in
    let long : vec_len c.args.cycles ≡ length c.args.cycles.items = search rules in
    let all = YieldsList-end (YieldsList-from_vec {s = c.into_iter-instrs-iterator.result} c.args.cycles.items e.0 (e.1 ∙ long))
    c.loop-instrs.yielded c.loop-instrs.instrs-iterator c.loop-instrs.yielded_by c.next.result c.next.new.self c.in-None.is
    c.next.ensures.steps in
    c.loop-instrs.invariant ∙ ap (map (λ (instrs : List Instr). packet_with (or_nop instrs))) (sym (map-id c.loop-instrs.yielded) ∙
    all.0)
