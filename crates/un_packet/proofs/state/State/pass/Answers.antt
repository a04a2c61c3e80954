use Rattle.std.proofs.Common.{◌≡◌, Bool, true, false}
use Rattle.std.specs.Prelude.{◌||◌}
use Rattle.std.specs.Bool.{OnTrue}
use Rattle.un_isa.specs.declared.instr.Instr.{Instr}
use Rattle.un_isa.specs.Does.{is_jump, is_call}
use Rattle.un_packet.specs.CodeRules.{IsThere}
use Rattle.un_packet.specs.Runnable.{IsRunnable}
use Rattle.un_packet.proofs.Found.{found}
use Rattle.un_packet.proofs.state.State.pass.Goals as goal

on_first : (b c : Bool) (P : Type 0) → OnTrue (b || c) P → b ≡ true → P
on_first true c P h e = h
on_first false c P h e = absurd (cc e)

pub record-call-requires-clause-few : goal.record-call-requires-clause-few
record-call-requires-clause-few c = (found (λ (i : Instr). is_call i.op) IsRunnable c.args.packet.now c.in-Some.i.now c.requires.runnable
    c.in-Some.ensures).0.few

pub record-call-requires-clause-named : goal.record-call-requires-clause-named
record-call-requires-clause-named c =
    let f = found (λ (i : Instr). is_call i.op) IsRunnable c.args.packet.now c.in-Some.i.now c.requires.runnable c.in-Some.ensures in
    on_first (is_call c.in-Some.i.now.op) (is_jump c.in-Some.i.now.op) (IsThere c.in-Some.i.now.label) f.0.label f.1
