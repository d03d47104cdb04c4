-- What becomes of the session.
use Rattle.std.proofs.Common.{◌∙◌, ap}
use Rattle.cx_rules_session.specs.Sessions.{put_session}
use Rattle.cx_client_connect.specs.session.Table.{KeptSessions}
use Rattle.cx_client_connect.proofs.table.Sessions.change.Goals as goal

pub returns-in-Forgets : goal.returns-in-Forgets
returns-in-Forgets c = rw c.in-Forgets.is c.forget.ensures

pub returns-in-Opens : goal.returns-in-Opens
returns-in-Opens c = rw c.in-Opens.is (c.put.ensures ∙ ap (λ (k : KeptSessions). put_session c.in-Opens.session k.sessions) c.self.view_is)
