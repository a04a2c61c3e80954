use Rattle.un_start.proofs.ReplyLaws.{own_pushed}
use Rattle.un_start.proofs.draft.add_own.Goals as goal

pub returns-in_ok-push_reply-in-Some : goal.returns-in_ok-push_reply-in-Some
returns-in_ok-push_reply-in-Some c =
    own_pushed c.args.replies.now.items c.pop.new.self.items c.push_reply.new.replies.items c.in-Some.reply
    c.in_ok-with_own-in-Some.field-0 c.args.line c.in-Some.ensures.items c.in_ok-with_own-in-Some.ensures
    c.in_ok-push_reply-in-Some.ensures
