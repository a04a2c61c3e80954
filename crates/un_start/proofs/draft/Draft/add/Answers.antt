use Rattle.std.proofs.Common.{refl}
use Rattle.un_start.proofs.DraftLaws.{draft_push}
use Rattle.un_start.proofs.draft.Draft.add.Goals as goal

pub returns : goal.returns
returns c = λ ls is.
    draft_push c.args.self.now _ ls c.args.line is refl c.in_ok-self.ensures.later c.set_register.ensures c.in_ok-add_word.ensures
    c.in_ok-add_to_replies.ensures
