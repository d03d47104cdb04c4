-- What is known of all that was said on links to the monitor: what each end said under the key of a login behind its AUTH_SIGNATURE, as the log has it, and
-- what each link at either end has of it.
use Rattle.std.proofs.Common.{◌≡◌, ℕ, ◌+◌, ◌≤◌, ◌^◌, Bool, List, [], ◌∷◌, ◌++◌, length}
use Rattle.std.specs.Prelude.{Contains}
use Rattle.std.specs.List.{AllByRecursion}
use Rattle.cx_base.specs.Names.{Name}
use Rattle.cx_base.specs.declared.nodes.NodeName.TheVariants as node
use Rattle.cx_frame.specs.declared.frame.Frame.{Frame}
use Rattle.cx_laws_tickets.specs.cx_laws_keys.proofs.keys.Uses.{AtMonitor, Connected, Means, Uses, WholeRun}
use Rattle.cx_laws_keys.proofs.series.Contents.{contents_in}
use Rattle.cx_laws_keys.specs.cx_rules.specs.Acceptor as acceptor
use Rattle.cx_laws_keys.specs.cx_rules.specs.Connector as connector
use Rattle.cx_laws_keys.specs.cx_rules.specs.Monitor.{MonitorStage}
use Rattle.cx_laws_keys.specs.cx_rules.specs.Secured.{Keys, Secured}
use Rattle.cx_laws_keys.specs.cx_rules.specs.declared.requests.Waiting.{Waiting}
use Rattle.cx_laws_keys.specs.cx_rules.specs.declared.requests.Want.{Want}
use Rattle.cx_laws_keys.specs.cx_rules.specs.declared.requests.Want.TheVariants.{Tickets, Rotating}
use Rattle.cx_steps.specs.declared.seals.Logged.{Logged}
use Rattle.cx_wire.specs.declared.bodies.Reply.{Reply}
use Rattle.cx_wire.specs.declared.bodies.Request.{Request}
use Rattle.cx_wire.specs.declared.bodies.Request.TheVariants as asked
use Rattle.cx_laws_tickets.proofs.fetch.AskedWords.{AreNumbered, Asked, Asks, Given, Idents, Acknowledges, Greets, Resets, Lacks, Replies, Confirms, asked_frame, given_frame, last_number}
use Rattle.cx_laws_tickets.proofs.fetch.Later.{HasLater, IsEnd, IsLaterSeries, of_acceptor, of_connector}
use Rattle.cx_laws_tickets.proofs.fetch.Words.{AreFrames, IsIn, parts_of, said_under}

-- ---- what stands in no state

-- what was said by those that log in, and by the monitor, each with the key of its link, the oldest first
pub record Told : Type 0 where
  pub asked : List (List ℕ × Asked)
  pub given : List (List ℕ × Given)

-- what is said of a run's events so far: an entity had one at this reading; its link of this number drew this challenge; and the monitor replied so to it,
-- behind an event of the entity at this reading
pub record Events : Type 1 where
  pub was_asked : Name → ℕ → Type 0
  pub drew : Name → ℕ → ℕ → Type 0
  pub replied : Name → ℕ → Reply → Type 0

-- with more events all that stays so
pub record MoreEvents (E F : Events) : Type 0 where
  pub was_asked : (name : Name) (reading : ℕ) → E.was_asked name reading → F.was_asked name reading
  pub drew : (name : Name) (link challenge : ℕ) → E.drew name link challenge → F.drew name link challenge
  pub replied : (name : Name) (reading : ℕ) (reply : Reply) → E.replied name reading reply → F.replied name reading reply

-- ---- by key

-- the key of a link of the monitor to this entity, which proved itself with this challenge
pub record IsLoginKey (us : Uses) (key : List ℕ) (name : Name) (challenge : ℕ) : Type 0 where
  pub number : ℕ
  pub means : Means us key (Connected node.Monitor number name (AtMonitor challenge))

-- what is true of the words of one key, by the entity and the challenge of its link
abbrev pub Truth : Type 0 → Type 1
Truth W = List ℕ → Name → ℕ → List W → Type 0

-- under this key was said, as the log has it: it is the key of a login, and what was said is true and fits into frames
pub record IsSaid {W : Type 0} (frame_of : W → Frame) (test : List ℕ → Bool) (T : Truth W) (us : Uses) (said : List (List ℕ × W)) (log : List Logged) (key : List ℕ) : Type 0 where
  pub name : Name
  pub challenge : ℕ
  pub is : IsLoginKey us key name challenge
  pub series : IsLaterSeries test log key (parts_of frame_of (said_under key said))
  pub frames : AreFrames frame_of (said_under key said)
  pub holds : T key name challenge (said_under key said)

-- under each key something was said as the log has it, or nothing that can be taken was sealed there by this end behind AUTH_SIGNATURE
pub record AreSaid {W : Type 0} (frame_of : W → Frame) (test : List ℕ → Bool) (T : Truth W) (us : Uses) (said : List (List ℕ × W)) (log : List Logged) : Type 0 where
  pub spoken : (key : List ℕ) (x : W) → IsIn (key, x) said → IsSaid frame_of test T us said log key
  pub silent : (key : List ℕ) (name : Name) (challenge : ℕ) → IsLoginKey us key name challenge → said_under key said ≡ [] → IsLaterSeries test log key []

-- where nothing was said under the key of a login, nothing was sealed there by this end behind AUTH_SIGNATURE
abbrev pub IsSilent : {W : Type 0} → (List ℕ → Bool) → Uses → List (List ℕ × W) → List Logged → Type 0
IsSilent test us said log = (key : List ℕ) (name : Name) (challenge : ℕ) → IsLoginKey us key name challenge → said_under key said ≡ [] → contents_in key test log ≡ []

-- ---- what is said is true

-- each request was made at a reading at which its entity had an event
abbrev pub WereMade : Events → Name → List Asked → Type 0
WereMade E name [] = Unit {0}
WereMade E name (Asks number reading request ∷ xs) = E.was_asked name reading × WereMade E name xs
WereMade E name (Idents mon_client gid cookie ∷ xs) = WereMade E name xs
WereMade E name (Acknowledges ack ∷ xs) = WereMade E name xs

-- what one that logs in said: a link of it drew the challenge, and its requests are numbered from 1 on
pub record IsTrueAsked (E : Events) (key : List ℕ) (name : Name) (challenge : ℕ) (xs : List Asked) : Type 0 where
  pub link : ℕ
  pub drew : E.drew name link challenge
  pub numbered : AreNumbered 0 xs
  pub made : WereMade E name xs

-- a reply under this number answers a request that was said so under the key: the monitor replied so behind the making of it
pub record Answers (E : Events) (name : Name) (requests : List Asked) (number : ℕ) (reply : Reply) : Type 0 where
  pub reading : ℕ
  pub request : Request
  pub asks : IsIn (Asks number reading request) requests
  pub replied : E.replied name reading reply

abbrev pub AreAnswers : Events → Name → List Asked → List Given → Type 0
AreAnswers E name requests [] = Unit {0}
AreAnswers E name requests (Replies number reply ∷ xs) = Answers E name requests number reply × AreAnswers E name requests xs
AreAnswers E name requests (Greets address ∷ xs) = AreAnswers E name requests xs
AreAnswers E name requests (Resets ∷ xs) = AreAnswers E name requests xs
AreAnswers E name requests (Lacks features ∷ xs) = AreAnswers E name requests xs
AreAnswers E name requests (Confirms ack ∷ xs) = AreAnswers E name requests xs

-- what the monitor said, to an entity that didn't leak
abbrev pub IsTrueGiven : WholeRun → Events → List (List ℕ × Asked) → List ℕ → Name → ℕ → List Given → Type 0
IsTrueGiven run E said key name challenge xs = (Contains run.leaked name → ⊥) → AreAnswers E name (said_under key said) xs

-- of the whole run so far
pub record AreTold (run : WholeRun) (E : Events) (us : Uses) (told : Told) (log : List Logged) : Type 0 where
  pub asked : AreSaid asked_frame of_connector (IsTrueAsked E) us told.asked log
  pub given : AreSaid given_frame of_acceptor (IsTrueGiven run E told.asked) us told.given log
  pub unsaid : IsSilent of_connector us told.asked log

-- ---- a link of one that logs in

-- what was taken of the other end is the front of what it said, and the counter says how far it reaches
pub record HasTaken {W : Type 0} (frame_of : W → Frame) (words : List W) (counter : ℕ) : Type 0 where
  pub taken : List W
  pub rest : List W
  pub front : words ≡ taken ++ rest
  pub counter_is : counter ≡ 1 + length (parts_of frame_of taken)

-- behind the monitor's signature the key is the one of this very link, by the challenge that it drew; all that was said under it as by its connector this link
-- said; and of what the monitor said there the front was taken
pub record IsMonClient (E : Events) (us : Uses) (told : Told) (log : List Logged) (name : Name) (link : ℕ) (s : Secured) : Type 0 where
  pub challenge : ℕ
  pub is : IsLoginKey us s.keys.key name challenge
  pub drew : E.drew name link challenge
  pub parts : HasLater of_connector s.keys (parts_of asked_frame (said_under s.keys.key told.asked)) log
  pub out : IsEnd of_connector s.keys.out.fixed
  pub into : IsEnd of_acceptor s.keys.into.fixed
  pub fits : s.keys.out.counter ≤ 2 ^ 64
  pub taken : HasTaken given_frame (said_under s.keys.key told.given) s.keys.into.counter

-- a request for generations that waits was said under the key, at the reading that it has as the one of its asking
abbrev pub IsAwaitedAs : List Asked → ℕ → Want → Type 0
IsAwaitedAs requests tid Tickets = Unit {0}
IsAwaitedAs requests tid (Rotating reading) = IsIn (Asks tid reading asked.Rotating) requests

abbrev pub IsAwaited : List Asked → Waiting → Type 0
IsAwaited requests w = IsAwaitedAs requests w.tid w.want

-- until the monitor's signature is found right, nothing was said under a key of the challenge that the link drew
pub record IsUnsaid (E : Events) (us : Uses) (told : Told) (name : Name) (link challenge : ℕ) : Type 0 where
  pub drew : E.drew name link challenge
  pub silent : (key : List ℕ) → IsLoginKey us key name challenge → said_under key told.asked ≡ []

-- the keys with which both ends go on behind their AUTH_SIGNATUREs
pub record AreFirst (keys : Keys) : Type 0 where
  pub out : IsEnd of_connector keys.out.fixed
  pub into : IsEnd of_acceptor keys.into.fixed
  pub out_counter : keys.out.counter ≡ 1
  pub into_counter : keys.into.counter ≡ 0

abbrev pub MonClientTold : Events → Uses → Told → List Logged → Name → ℕ → connector.Stage → Type 0
MonClientTold E us told log name link (connector.AwaitsBanner asked) = Unit {0}
MonClientTold E us told log name link (connector.AwaitsHello asked) = Unit {0}
MonClientTold E us told log name link (connector.AwaitsChallenge asked) = Unit {0}
MonClientTold E us told log name link connector.AwaitsDone = (challenge : ℕ) × IsUnsaid E us told name link challenge
MonClientTold E us told log name link (connector.AwaitsSignature s login) = ((challenge : ℕ) × IsUnsaid E us told name link challenge) × AreFirst s.keys
MonClientTold E us told log name link (connector.AwaitsIdent s session) =
    IsMonClient E us told log name link s × (last_number 0 (said_under s.keys.key told.asked) ≡ 0)
MonClientTold E us told log name link (connector.Open s requests) =
    IsMonClient E us told log name link s × (last_number 0 (said_under s.keys.key told.asked) ≡ requests.count)
    × AllByRecursion (IsAwaited (said_under s.keys.key told.asked)) requests.waiting

-- ---- a link of the monitor

-- the key is that of this very link, to this entity; all that was said under it as by its acceptor this link said; and of what the entity said there, where it
-- didn't leak, the front was taken
pub record IsBearing (run : WholeRun) (us : Uses) (told : Told) (log : List Logged) (number : ℕ) (s : Secured) (name : Name) : Type 0 where
  pub challenge : ℕ
  pub means : Means us s.keys.key (Connected node.Monitor number name (AtMonitor challenge))
  pub parts : HasLater of_acceptor s.keys (parts_of given_frame (said_under s.keys.key told.given)) log
  pub out : IsEnd of_acceptor s.keys.out.fixed
  pub into : IsEnd of_connector s.keys.into.fixed
  pub fits : s.keys.out.counter ≤ 2 ^ 64
  pub taken : (Contains run.leaked name → ⊥) → HasTaken asked_frame (said_under s.keys.key told.asked) s.keys.into.counter

-- until the entity's signature nothing was taken, and its AUTH_SIGNATURE alone was sent
pub record IsBearingFirst (us : Uses) (told : Told) (log : List Logged) (number : ℕ) (s : Secured) (name : Name) : Type 0 where
  pub challenge : ℕ
  pub means : Means us s.keys.key (Connected node.Monitor number name (AtMonitor challenge))
  pub parts : HasLater of_acceptor s.keys (parts_of given_frame (said_under s.keys.key told.given)) log
  pub out : IsEnd of_acceptor s.keys.out.fixed
  pub into : IsEnd of_connector s.keys.into.fixed
  pub fits : s.keys.out.counter ≤ 2 ^ 64
  pub untaken : s.keys.into.counter ≡ 0

abbrev pub MonitorTold : WholeRun → Uses → Told → List Logged → ℕ → MonitorStage → Type 0
MonitorTold run us told log number (acceptor.AwaitsSignature s bearer) = IsBearingFirst us told log number s bearer.name
MonitorTold run us told log number (acceptor.AwaitsIdent s bearer) = IsBearing run us told log number s bearer.name
MonitorTold run us told log number (acceptor.Open s bearer) = IsBearing run us told log number s bearer.name
MonitorTold run us told log number acceptor.AwaitsBanner = Unit {0}
MonitorTold run us told log number acceptor.AwaitsHello = Unit {0}
MonitorTold run us told log number acceptor.AwaitsRequest = Unit {0}
MonitorTold run us told log number (acceptor.AwaitsProof offered) = Unit {0}
