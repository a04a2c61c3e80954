use Rattle.std.proofs.Common.{◌≡◌, ◌∙◌, refl}
use Rattle.un_ir.specs.Text.{function_text}
use Rattle.un_reread.proofs.OneAnswer.{only_memory, one_function, read_kept}
use Rattle.un_reread.proofs.read_back.read_back.Goals as goal

pub returns-in_err-text-clause-read : goal.returns-in_err-text-clause-read
returns-in_err-text-clause-read c = read_kept (function_text c.args.f.now) c.args.f.now refl

pub returns-in-Err-NoMemory-clause-read : goal.returns-in-Err-NoMemory-clause-read
returns-in-Err-NoMemory-clause-read c = read_kept (function_text c.args.f.now) c.args.f.now refl

pub returns-in-Ok : goal.returns-in-Ok
returns-in-Ok c =
    let f = c.args.f.now in
    let text : c.as_slice.result.now ≡ function_text f = c.as_slice.ensures.value ∙ c.in_ok-text.ensures in
    record {
      read = read_kept (function_text f) f refl;
      same = one_function c.as_slice.result.now f c.in-Ok.function (read_kept c.as_slice.result.now f text) c.in-Ok.ensures.read;
    }

pub unreachable-requires : goal.unreachable-requires
unreachable-requires c =
    let f = c.args.f.now in
    let text : c.as_slice.result.now ≡ function_text f = c.as_slice.ensures.value ∙ c.in_ok-text.ensures in
    let error = c.in-Err-TextFault.field-0 in
    let fault = c.in-Err-TextFault.field-0-is in
    let none = only_memory c.as_slice.result.now f error (read_kept c.as_slice.result.now f text) c.in-Err-TextFault.ensures.fault in
    cc
