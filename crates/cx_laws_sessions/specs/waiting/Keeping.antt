-- What becomes of a client's session with a daemon, and of the operations that wait in it, at each event: an operation waits until the daemon says that it
-- took it, or the session ends.
use Rattle.std.specs.Prelude.{ℕ, ◌≡◌, ◌+◌, ◌≤◌, ◌<◌, List, [], ◌++◌, length, Option, Some, None}
use Rattle.std.specs.List.{AllByRecursion}
use Rattle.cx_base.specs.Names.{Name}
use Rattle.cx_base.specs.declared.operations.Operation.{Operation}
use Rattle.cx_laws_sessions.specs.queues.Sending.{all_sent_to, under_cookie}
use Rattle.cx_laws_sessions.specs.cx_rules_session.specs.Sessions.{HeldSession}
use Rattle.cx_laws_sessions.specs.cx_run.specs.Points.{Point, entries_at, nodes_past}
use Rattle.cx_laws_sessions.specs.waiting.Heard.{Word, Silent, Took, Begins, Ends, heard_at, session_at}
use Rattle.cx_session.specs.Queue.{IsRun}

-- operations, each with its number
abbrev pub Asks : Type 0
Asks = List (ℕ × Operation)

-- Of what waited all up to this number goes, and nothing else: what is left are those above it, all, in their order.
pub record IsLeft (upto : ℕ) (waited left : Asks) : Type 0 where
  pub taken : Asks
  pub split : waited ≡ taken ++ left
  pub covered : AllByRecursion (λ (ask : ℕ × Operation). ask.0 ≤ upto) taken
  pub above : AllByRecursion (λ (ask : ℕ × Operation). upto < ask.0) left

-- by what the daemon said: where it took nothing, all is left
abbrev pub IsLeftBy : Word → Asks → Asks → Type 0
IsLeftBy (Took upto) waited left = IsLeft upto waited left
IsLeftBy _ waited left = left ≡ waited

-- The session goes on: with the same daemon, under the same cookies, and as lossy as it was. What is left waits, and behind it what was sent now, which has
-- the numbers behind the last one that was given.
pub record GoesOn (word : Word) (sent : List (ℕ × (ℕ × Operation))) (was is : HeldSession) : Type 0 where
  pub daemon : is.daemon ≡ was.daemon
  pub client_cookie : is.client_cookie ≡ was.client_cookie
  pub server_cookie : is.server_cookie ≡ was.server_cookie
  pub lossy : is.lossy ≡ was.lossy
  pub left : Asks
  pub stays : IsLeftBy word was.queue.waiting left
  pub now : Asks
  pub told : sent ≡ under_cookie was.client_cookie now
  pub waits : is.queue.waiting ≡ left ++ now
  pub last : is.queue.last ≡ was.queue.last + length now
  pub numbered : IsRun is.queue.last now

-- where none is held nothing is sent
abbrev pub Stays : Word → List (ℕ × (ℕ × Operation)) → Option HeldSession → Option HeldSession → Type 0
Stays word sent (Some was) (Some is) = GoesOn word sent was is
Stays word sent None None = sent ≡ []
Stays word sent (Some was) None = ⊥
Stays word sent None (Some is) = ⊥

-- nothing was sent in a session that begins
abbrev pub IsNew : Option HeldSession → Type 0
IsNew None = ⊥
IsNew (Some session) = (session.queue.last ≡ 0) × (session.queue.waiting ≡ [])

-- What becomes of it, by what comes to it and what is sent in it at that event. One begins where none was held. Nothing is sent where it begins or ends.
abbrev pub Becomes : Word → List (ℕ × (ℕ × Operation)) → Option HeldSession → Option HeldSession → Type 0
Becomes Silent sent was is = Stays Silent sent was is
Becomes (Took upto) sent was is = Stays (Took upto) sent was is
Becomes Begins sent was is = (was ≡ None) × IsNew is × (sent ≡ [])
Becomes Ends sent was is = (is ≡ None) × (sent ≡ [])

-- of each client's session with each daemon, at a point; what it sends is what the journal says
abbrev pub KeepsWaiting : List Point → Point → Type 0
KeepsWaiting older p = (client daemon : Name)
    → Becomes (heard_at p client daemon) (all_sent_to client daemon (entries_at p)) (session_at p.nodes client daemon) (session_at (nodes_past p) client daemon)
