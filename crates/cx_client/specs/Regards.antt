-- How a client regards its links: by their stages and by what waits there, of which it forgets nothing.
use Rattle.std.specs.Prelude.{ℕ, List, Option, if◌then◌else◌}
use Rattle.std.specs.Option.{option_map}
use Rattle.cx_client.specs.cx_rules_session.specs.ClientRule.{ClientStage, WholeClientNode, is_at_rest}
use Rattle.cx_client.specs.cx_rules_session.specs.Sessions.{HeldSession}
use Rattle.cx_outside.specs.declared.regard.Regard.{Regard}
use Rattle.cx_outside.specs.declared.regard.Regard.TheVariants.{Known, Awaited}
use Rattle.cx_node.specs.cx_rules.specs.Links.{link_of}

-- it opened each of them: it awaits an answer there until the link is open, and while a request waits on it, or an operation of the session with
-- its daemon
abbrev pub regard_at : List HeldSession → ClientStage → Regard
regard_at sessions stage = if is_at_rest sessions stage then Known else Awaited

-- the link of this number, where it lives
abbrev pub regard_of : WholeClientNode → ℕ → Option Regard
regard_of c number = option_map (λ link. regard_at c.own.sessions link.stage) (link_of number c.links)
