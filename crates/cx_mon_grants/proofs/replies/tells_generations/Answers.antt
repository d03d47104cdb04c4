-- What is sealed is no longer than an envelope.
use Rattle.cx_sealed.specs.Records.{rotating_reply_layout}
use Rattle.cx_mon_grants.proofs.Envelopes.{length-opens}
use Rattle.cx_mon_grants.proofs.replies.tells_generations.Goals as goal

pub reply_body-requires : goal.reply_body-requires
reply_body-requires c =
    length-opens rotating_reply_layout.form c.args.own.now c.in_ok-seal_rotating_reply.field-0
    (record { service = c.args.kind; generations = c.args.generations }) c.in_ok-seal_rotating_reply.ensures.opens
