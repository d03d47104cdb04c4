-- The links that are waited for, as the rules have them.
use Rattle.cx_node.specs.cx_rules_session.specs.ClientRule.{Dial, ForCall, ForLogin}
use Rattle.cx_client_events.specs.declared.dials.Purpose.{Purpose}
use Rattle.cx_client_events.specs.declared.dials.Purpose.TheVariants.{Login, Call}

abbrev pub dial_held : Purpose → Dial
dial_held (Login services) = ForLogin services
dial_held (Call called) = ForCall called
