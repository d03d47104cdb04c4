use Rattle.cx_answers.proofs.Tickets.{short_reply}
use Rattle.cx_answers.proofs.messages.reply.Goals as goal

pub put_reply-put-requires : goal.put_reply-put-requires
put_reply-put-requires c = rw c.in_ok-reply.ensures (short_reply c.in_ok-read_reply.field-0 c.in_ok-read_reply.ensures.found.0)
