-- An operation that a client sends goes out at once, where its link to the daemon is open.
use Rattle.std.specs.Prelude.{ℕ, ◌≡◌, List, [], ◌∷◌, Some}
use Rattle.cx_base.specs.Names.{Name}
use Rattle.cx_base.specs.declared.nodes.NodeName.TheVariants as node
use Rattle.cx_base.specs.declared.operations.Operation.{Operation}
use Rattle.cx_laws_sessions.specs.queues.Sending.{all_sent_to, under_cookie}
use Rattle.cx_laws_sessions.specs.cx_rules.specs.Inputs.{Submit}
use Rattle.cx_laws_sessions.specs.cx_rules.specs.Links.{Link}
use Rattle.cx_laws_sessions.specs.cx_rules.specs.Secured.{Secured}
use Rattle.cx_laws_sessions.specs.cx_rules_session.specs.ClientRule.{ClientStage, WholeClientNode, first_call}
use Rattle.cx_laws_sessions.specs.cx_rules_session.specs.Sessions.{Callee}
use Rattle.cx_laws_sessions.specs.cx_run.specs.Happenings.{OfClient, entity_of}
use Rattle.cx_laws_sessions.specs.cx_run.specs.Points.{Point, entries_at, stepped_at}
use Rattle.cx_laws_sessions.specs.waiting.Again.{GoOut, asked_again}
use Rattle.cx_steps.specs.declared.events.Command.TheVariants as command

-- a client is told to send an operation to a daemon, to which this link of it is open, and the journal says that it sent it there, with this number
pub record IsSent (p : Point) (client : Name) (link : Link ClientStage) (s : Secured) (ask : ℕ × Operation) : Type 0 where
  pub of : p.happening.node ≡ node.Entity client
  pub daemon : Name
  pub told : p.happening.input ≡ Submit (command.Send daemon ask.1)
  pub c : WholeClientNode
  pub found : entity_of client p.nodes ≡ Some (OfClient c)
  pub callee : Callee
  pub cookie : ℕ
  pub open_one : first_call daemon c.links ≡ Some (link, (s, (callee, cookie)))
  pub under : ℕ
  pub sent : all_sent_to client daemon (entries_at p) ≡ under_cookie under (ask ∷ [])

-- there it goes out on that link
abbrev pub SendsAtOnce : List Point → Point → Type 0
SendsAtOnce older p = (client : Name) (link : Link ClientStage) (s : Secured) (ask : ℕ × Operation) → IsSent p client link s ask
    → GoOut link.number s.keys (asked_again ask ∷ []) (stepped_at p).out
