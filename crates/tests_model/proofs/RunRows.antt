-- A run of a function that was worked out by hand: calls in order, each with a reply of its own, and a return without a value.
use Rattle.std.specs.Prelude.{ℕ, pos, ◌≡◌, List, [], ◌∷◌, Some, None, codes}
use Rattle.std.proofs.Common.{refl}
use Rattle.un_isa.specs.declared.op.Op.TheVariants.{Call}
use Rattle.un_isa.specs.declared.outcome.CallRecord.{CallRecord}
use Rattle.un_isa.specs.declared.start.Reply.{Reply}
use Rattle.un_ir.specs.declared.function.SrcOp.{SrcOp}
use Rattle.un_ir.specs.declared.function.Term.TheVariants.{Ret}
use Rattle.un_ir.specs.declared.function.Block.{Block}
use Rattle.un_ir.specs.Source.{SourceRun, Returned, enter}

-- a call of h with name a, whose result is name d
abbrev call_h : ℕ → ℕ → SrcOp
call_h d a = record {
  op = Call;
  dst = Some (record { 0 = d });
  srcs = record { 0 = a } ∷ [];
  imm = pos 0;
  callee = Some (codes "h");
}

abbrev blocks : List Block
blocks = record { label = codes "e"; freq = 1; ops = call_h 1 0 ∷ call_h 2 1 ∷ []; term = Ret None } ∷ []

abbrev reply : ℕ → Reply
reply result = record { result = result; changed = []; junk = [] }

abbrev seen : ℕ → CallRecord
seen argument = record { name = codes "h"; args = argument ∷ []; memory = [] }

abbrev run : SourceRun
run = enter blocks 5 0 (record { values = 5 ∷ 0 ∷ 0 ∷ []; memory = []; calls = []; replies = reply 7 ∷ reply 8 ∷ reply 9 ∷ [] })

returns : run.stop ≡ Returned None
returns = refl

calls : run.state.calls ≡ seen 5 ∷ seen 7 ∷ []
calls = refl

values : run.state.values ≡ 5 ∷ 7 ∷ 8 ∷ []
values = refl

left : run.state.replies ≡ reply 9 ∷ []
left = refl
