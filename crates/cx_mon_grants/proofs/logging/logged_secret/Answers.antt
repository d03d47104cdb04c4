-- What is sealed is no longer than an envelope.
use Rattle.cx_sealed.specs.Records.{connection_secret_layout}
use Rattle.cx_mon_grants.proofs.Envelopes.{length-opens}
use Rattle.cx_mon_grants.proofs.logging.logged_secret.Goals as goal

pub returns-clause-short : goal.returns-clause-short
returns-clause-short c =
    length-opens connection_secret_layout.form c.args.session.now c.in_ok-told.told.envelope (record { secret = c.args.secret.now }) c.in_ok-told.ensures.sealed.opens
