use Rattle.std.proofs.Common.{ℕ, All, length, subst, sym, arith}
use Rattle.un_packet.specs.declared.pass.Passed.{Passed}
use Rattle.un_packet.specs.Passes.{UsesReplies}
use Rattle.un_packet.specs.Runnable.{IsSpare, calls_in}
use Rattle.un_packet.proofs.machine.Machine.run_packet.Goals as goal

pub invariant_of-self : goal.invariant_of-self
invariant_of-self c = (
  c.self.invariant.0,
  subst (λ (n : ℕ). All (IsSpare n) c.take_spare-spare.new.spares.items) (sym c.pass-passed.ensures.words)
      (c.take_spare-spare.ensures.rest (length c.self.inside.state.memory) c.self.invariant.1),
  λ e. absurd (cc e),
)

pub invariant_of-self-in-Went : goal.invariant_of-self-in-Went
invariant_of-self-in-Went c =
    let used = subst (λ (p : Passed). UsesReplies p (calls_in c.args.packet.now) c.self.inside.state.replies c.pass-passed.new.self.replies)
    c.in-Went.is c.pass-passed.ensures.replies in (
      c.self.invariant.0,
      subst (λ (n : ℕ). All (IsSpare n) c.take_spare-spare.new.spares.items) (sym c.pass-passed.ensures.words)
          (c.take_spare-spare.ensures.rest (length c.self.inside.state.memory) c.self.invariant.1),
      λ e. let many = c.self.invariant.2 e in omega (arith, many, used, c.take_spare-spare.ensures.count),
    )

pub invariant_of-self-in-Jumped : goal.invariant_of-self-in-Jumped
invariant_of-self-in-Jumped c =
    let used = subst (λ (p : Passed). UsesReplies p (calls_in c.args.packet.now) c.self.inside.state.replies c.pass-passed.new.self.replies)
    c.in-Jumped.is c.pass-passed.ensures.replies in (
      c.self.invariant.0,
      subst (λ (n : ℕ). All (IsSpare n) c.take_spare-spare.new.spares.items) (sym c.pass-passed.ensures.words)
          (c.take_spare-spare.ensures.rest (length c.self.inside.state.memory) c.self.invariant.1),
      λ e. let many = c.self.invariant.2 e in omega (arith, many, used, c.take_spare-spare.ensures.count),
    )
