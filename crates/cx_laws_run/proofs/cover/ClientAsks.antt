-- A client asks the monitor for tickets alone: so none of its requests is for generations, and it fetches none.
use Rattle.std.proofs.Common.{◌≡◌, false, List}
use Rattle.std.proofs.lemmas.List.Elements.{All-contains, All-from_recursion}
use Rattle.std.specs.Prelude.{Contains}
use Rattle.std.specs.List.{AllByRecursion}
use Rattle.cx_base.specs.Names.{is_daemon_type}
use Rattle.cx_journal.specs.declared.entries.Entry.{Entry}
use Rattle.cx_journal.specs.declared.entries.Entry.TheVariants as journal
use Rattle.cx_journal.specs.declared.entries.Fetched.{Fetched}
use Rattle.cx_laws_run.specs.cx_rules.specs.Connector.{Stage, AwaitsBanner, AwaitsHello, AwaitsChallenge, AwaitsDone, AwaitsSignature, AwaitsIdent, Open}
use Rattle.cx_laws_run.specs.cx_rules.specs.Links.{Link}
use Rattle.cx_laws_run.specs.cx_rules.specs.Requests.{Requests, behind_request}
use Rattle.cx_laws_run.specs.cx_rules.specs.Secured.{Secured}
use Rattle.cx_laws_run.specs.cx_rules.specs.declared.requests.Waiting.{Waiting}
use Rattle.cx_laws_run.specs.cx_rules.specs.declared.requests.Want.{Want}
use Rattle.cx_laws_run.specs.cx_rules.specs.declared.requests.Want.TheVariants.{Rotating, Tickets}
use Rattle.cx_laws_run.specs.cx_rules_session.specs.ClientRule.{ClientStage, ToDaemon, ToMonitor, WholeClientNode}
use Rattle.cx_laws_run.specs.cx_laws_keys.proofs.keys.Lists.{all-append}

-- ---- what waits

abbrev pub WantsTickets : Want → Type 0
WantsTickets Tickets = Unit {0}
WantsTickets (Rotating reading) = ⊥

abbrev pub AskTickets : List Waiting → Type 0
AskTickets waiting = AllByRecursion (λ (w : Waiting). WantsTickets w.want) waiting

abbrev pub StageAsks : Stage → Type 0
StageAsks (AwaitsBanner asked) = Unit {0}
StageAsks (AwaitsHello asked) = Unit {0}
StageAsks (AwaitsChallenge asked) = Unit {0}
StageAsks AwaitsDone = Unit {0}
StageAsks (AwaitsSignature s login) = Unit {0}
StageAsks (AwaitsIdent s session) = Unit {0}
StageAsks (Open s r) = AskTickets r.waiting

-- of a link to the monitor
abbrev pub ClientStageAsks : ClientStage → Type 0
ClientStageAsks (ToMonitor stage) = StageAsks stage
ClientStageAsks (ToDaemon stage) = Unit {0}

-- a client is no daemon, and so it is of all its links
pub record ClientAsks (c : WholeClientNode) : Type 0 where
  pub kind : is_daemon_type c.own.mon_client.name.kind ≡ false
  pub links : AllByRecursion (λ (l : Link ClientStage). ClientStageAsks l.stage) c.links

-- ---- entries

abbrev pub IsNoFetch : Entry → Type 0
IsNoFetch (journal.Fetched x) = ⊥
IsNoFetch (journal.Refused x) = Unit {0}
IsNoFetch (journal.Answered x) = Unit {0}
IsNoFetch (journal.Saved x) = Unit {0}
IsNoFetch (journal.Issued x) = Unit {0}
IsNoFetch (journal.Looked x) = Unit {0}
IsNoFetch (journal.Admitted x) = Unit {0}
IsNoFetch (journal.Resumed x) = Unit {0}
IsNoFetch (journal.Sent x) = Unit {0}
IsNoFetch (journal.Handled x) = Unit {0}
IsNoFetch (journal.Ended x) = Unit {0}
IsNoFetch (journal.Restarted x) = Unit {0}
IsNoFetch (journal.Broken x) = Unit {0}
IsNoFetch (journal.Leaked x) = Unit {0}

-- a request for tickets
pub request-asks : {S : Type 0} (open_with : Secured → Requests → S) (r : Requests) → AskTickets r.waiting → AskTickets (behind_request r Tickets).waiting
request-asks open_with r asks = all-append (λ (w : Waiting). WantsTickets w.want) r.waiting _ asks (tt, tt)

-- what isn't fetched isn't entered as fetched
pub none-fetched : (es : List Entry) → AllByRecursion IsNoFetch es → (f : Fetched) → Contains es (journal.Fetched f) → ⊥
none-fetched es h f has = All-contains IsNoFetch es (journal.Fetched f) (All-from_recursion IsNoFetch es h) has
