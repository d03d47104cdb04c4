use Rattle.std.proofs.Common.{◌∙◌, ap, rules}
use Rattle.std.specs.Prelude.{not}
use Rattle.std.proofs.lemmas.Fn.{filter_same}
use Rattle.cx_base.specs.Names.{same_name}
use Rattle.cx_rules_session.specs.Sessions.{HeldSession, without_session}
use Rattle.cx_client_connect.specs.session.Table.{KeptSessions}
use Rattle.cx_client_connect.proofs.table.Sessions.forget.Goals as goal

pub returns : goal.returns
returns c = filter_same _ (λ (s : HeldSession). not (same_name s.daemon c.args.daemon.now)) _ (λ x b f' k. search rules) _ _ c.retain.ensures.filtered
    ∙ ap (λ (k : KeptSessions). without_session c.args.daemon.now k.sessions) c.self.view_is
