use Rattle.std.proofs.Common.{rules, arith, ◌≡◌, None, codes, inr, refl}
use Rattle.std.proofs.lemmas.Grind.{common_steps}
use Rattle.std.proofs.lemmas.Result.{err_from_is_err_and}
use Rattle.un_commands.proofs.SettingLaws.{no_nodes, no_regs, no_slots}
use Rattle.un_commands.proofs.alloc.read_setting.Goals as goal

pub returns-in_err-nodes-clause-bad : goal.returns-in_err-nodes-clause-bad
returns-in_err-nodes-clause-bad c = let p = err_from_is_err_and c.from_residual.result c.from_residual.ensures.1 in
    let b = c.in_err-nodes.ensures.bad in
    let flag : c.args.flag.now ≡ codes "--nodes" = first_of (search rules, grind (arith, common_steps)) in
    let fresh : c.args.given.now.nodes ≡ None = first_of (search rules, grind (arith, common_steps)) in
    rw (p.1, p.2, b.0) (inr (refl, no_nodes c.args.words.now c.args.place c.args.given.now c.args.flag.now c.requires.flag flag fresh b.1))

pub returns-in_err-regs-clause-bad : goal.returns-in_err-regs-clause-bad
returns-in_err-regs-clause-bad c = let p = err_from_is_err_and c.from_residual-in_err-regs.result c.from_residual-in_err-regs.ensures.1 in
    let b = c.in_err-regs.ensures.bad in
    let flag : c.args.flag.now ≡ codes "--regs" = first_of (search rules, grind (arith, common_steps)) in
    let fresh : c.args.given.now.regs ≡ None = first_of (search rules, grind (arith, common_steps)) in
    rw (p.1, p.2, b.0) (inr (refl, no_regs c.args.words.now c.args.place c.args.given.now c.args.flag.now c.requires.flag flag fresh b.1))

pub returns-in_err-slots-clause-bad : goal.returns-in_err-slots-clause-bad
returns-in_err-slots-clause-bad c = let p = err_from_is_err_and c.from_residual-in_err-slots.result c.from_residual-in_err-slots.ensures.1 in
    let b = c.in_err-slots.ensures.bad in
    let flag : c.args.flag.now ≡ codes "--slots" = first_of (search rules, grind (arith, common_steps)) in
    let fresh : c.args.given.now.slots ≡ None = first_of (search rules, grind (arith, common_steps)) in
    rw (p.1, p.2, b.0) (inr (refl, no_slots c.args.words.now c.args.place c.args.given.now c.args.flag.now c.requires.flag flag fresh b.1))
