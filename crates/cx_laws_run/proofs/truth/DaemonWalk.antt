-- The steps of a daemon, but for turns and fetches: each seals nothing, and leaves some of its links as they were, beside new ones of which nothing is known. So
-- what is so of these, of turns and of fetches, is so of each step.
use Rattle.std.proofs.Common.{◌≡◌, ℕ, ◌==◌, Bool, true, false, List, [], ◌∷◌, ◌++◌, length, Option, Some, None, filter, nat_lt, inl, inr, ◌⊎◌, refl, sym, ◌∙◌, subst, arith, append-nil, ◌<◌}
use Rattle.std.proofs.lemmas.Bool.{eq-eqb, ltb-true}
use Rattle.std.proofs.lemmas.List.Elements.{Contains-append_left, Contains-append_right, Contains-push}
use Rattle.std.specs.Prelude.{Contains, nat_le, not, if◌then◌else◌}
use Rattle.std.specs.List.{AllByRecursion}
use Rattle.cx_desk.specs.Handlers.{Handlers}
use Rattle.cx_laws_run.specs.cx_laws_keys.proofs.keys.Lists.{all-append, found_all}
use Rattle.cx_journal.specs.declared.outcomes.Reason.TheVariants as reason
use Rattle.cx_laws_run.specs.cx_rules.specs.Acceptor.{AwaitsBanner, AwaitsHello, AwaitsRequest, AwaitsProof, AwaitsSignature, AwaitsIdent, Open}
use Rattle.cx_laws_run.specs.cx_rules.specs.Connector as connector
use Rattle.cx_laws_run.specs.cx_rules.specs.Greetings.{own_banner}
use Rattle.cx_laws_run.specs.cx_rules.specs.Inputs.{Input, Opened, NoLink, Bytes, Turn, Gone, Look, Tick, Submit, Restart}
use Rattle.cx_laws_run.specs.cx_rules.specs.Links.{Link, link_of}
use Rattle.cx_laws_run.specs.cx_rules.specs.Requests.{is_outdated}
use Rattle.cx_laws_run.specs.cx_rules.specs.Rows.{Arrival, Outcome, arrival, carried_out, fed, forgotten, goes_on, idles, links_behind, new_link, refuses}
use Rattle.cx_laws_run.specs.cx_rules_session.specs.Asks.{Finished, Asking}
use Rattle.cx_laws_run.specs.cx_rules_session.specs.DaemonRule.{AsAcceptor, AsConnector, Daemon, DaemonNode, DaemonStage, daemon_rule, ended_entry, fetches, gone, gone_by_kind, incoming_gone, is_in, looks, loses, lossy_gone, me, on_dropped, opens, opens_own, restarted, shut_where, submits, ticks, turn, undialled, unreached}
use Rattle.cx_laws_run.specs.cx_rules_session.specs.IncomingLinks.{IncomingStage}
use Rattle.cx_laws_run.specs.cx_run.proofs.Always.{Always}
use Rattle.cx_session.specs.declared.call.BookCall.TheVariants.{End}
use Rattle.cx_session.specs.declared.call.BookReply.{BookReply}
use Rattle.cx_session.specs.declared.call.BookReply.TheVariants as reply
use Rattle.cx_steps.specs.Nothing.{nothing}
use Rattle.cx_steps.specs.declared.events.Command.{Command}
use Rattle.cx_steps.specs.declared.events.Command.TheVariants as command
use Rattle.cx_steps.specs.declared.events.Peer.{Peer}
use Rattle.cx_steps.specs.declared.events.Peer.TheVariants as peer
use Rattle.cx_laws_run.specs.cx_laws_links.proofs.links.IncomingNodes.{passing}
use Rattle.cx_laws_run.specs.cx_laws_links.proofs.links.Speaking.{cons-cases}

-- nothing is known of a link in such a stage
abbrev pub IsBlank : DaemonStage → Type 0
IsBlank (AsConnector stage) = Unit {0}
IsBlank (AsAcceptor (AwaitsSignature s owner)) = ⊥
IsBlank (AsAcceptor (AwaitsIdent s owner)) = ⊥
IsBlank (AsAcceptor (Open s served)) = ⊥
IsBlank (AsAcceptor stage) = Unit {0}

-- a link has the number and the stage of one of these, or nothing is known of it
abbrev pub IsFrom : List (Link DaemonStage) → Link DaemonStage → Type 0
IsFrom links l = IsBlank l.stage ⊎ ((was : Link DaemonStage) × Contains links was × (was.number ≡ l.number) × (was.stage ≡ l.stage))

abbrev pub AreFrom : List (Link DaemonStage) → List (Link DaemonStage) → Type 0
AreFrom links ls = AllByRecursion (IsFrom links) ls

-- nothing was taken on it
abbrev pub IsNew : DaemonStage → Type 0
IsNew (AsAcceptor AwaitsBanner) = Unit {0}
IsNew (AsConnector stage) = Unit {0}
IsNew _ = ⊥

-- it is new; or one of these, on which at most something came
abbrev pub IsFed : List (Link DaemonStage) → Link DaemonStage → Type 0
IsFed links l =
    (IsNew l.stage × (l.taken ≡ 0)) ⊎ ((was : Link DaemonStage) × Contains links was × (was.stage ≡ l.stage) × (was.taken ≡ l.taken) × ((more : List ℕ) × (l.received ≡ was.received ++ more)))

abbrev pub AreFed : List (Link DaemonStage) → List (Link DaemonStage) → Type 0
AreFed links ls = AllByRecursion (IsFed links) ls

all-of : {X : Type 0} (P : X → Type 0) (xs : List X) → ((x : X) → Contains xs x → P x) → AllByRecursion P xs
all-of P [] each = tt
all-of P (x ∷ xs) each = (each x (Contains-append_left (x ∷ []) xs x (Contains-push [] x)), all-of P xs (λ y has. each y (Contains-append_right (x ∷ []) xs y has)))

pub one-of : {X : Type 0} (P : X → Type 0) (xs : List X) (x : X) → AllByRecursion P xs → Contains xs x → P x
one-of P [] x h has = absurd (none has)
  where
    none : Contains [] x → ⊥
    none there = absurd (omega (arith, there.1))
one-of P (y ∷ ys) x h has = by_place (cons-cases y ys x has) (λ there. one-of P ys x h.1 there)
  where
    by_place : (y ≡ x) ⊎ Contains ys x → (Contains ys x → P x) → P x
    by_place (inl here) rest = subst P here h.0
    by_place (inr there) rest = rest there

-- links are from themselves
pub from-same : (links : List (Link DaemonStage)) → AreFrom links links
from-same links = all-of (IsFrom links) links (λ l has. inr (l, has, refl, refl))

pub all-some : {X : Type 0} (P : X → Type 0) (test : X → Bool) (xs : List X) → AllByRecursion P xs → AllByRecursion P (filter test xs)
all-some P test [] h = tt
all-some P test (x ∷ xs) h = by_test (test x) (all-some P test xs h.1)
  where
    by_test : (t : Bool) → AllByRecursion P (filter test xs) → AllByRecursion P (if t then x ∷ filter test xs else filter test xs)
    by_test true rest = (h.0, rest)
    by_test false rest = rest

pub fed-same : (links : List (Link DaemonStage)) → AreFed links links
fed-same links = all-of (IsFed links) links (λ l has. inr (l, has, refl, refl, ([], sym (append-nil l.received))))

fed-some : (links : List (Link DaemonStage)) (test : Link DaemonStage → Bool) → AreFed links (filter test links)
fed-some links test = all-some (IsFed links) test links (fed-same links)

pub from-some : (links : List (Link DaemonStage)) (test : Link DaemonStage → Bool) → AreFrom links (filter test links)
from-some links test = all-some (IsFrom links) test links (from-same links)

-- what is so of each of them is so of those that are from them, where it is so of all of which nothing is known
pub from-all : (P : ℕ → DaemonStage → Type 0) → ((number : ℕ) (stage : DaemonStage) → IsBlank stage → P number stage) → (links ls : List (Link DaemonStage)) → AreFrom links ls
    → AllByRecursion (λ (l : Link DaemonStage). P l.number l.stage) links → AllByRecursion (λ (l : Link DaemonStage). P l.number l.stage) ls
from-all P blank links [] from h = tt
from-all P blank links (l ∷ ls) from h = (by_kind from.0, from-all P blank links ls from.1 h)
  where
    by_kind : IsFrom links l → P l.number l.stage
    by_kind (inl is) = blank l.number l.stage is
    by_kind (inr (was, has, number, stage)) =
        subst (λ (m : ℕ). P m l.stage) number (subst (λ (st : DaemonStage). P was.number st) stage (one-of (λ (x : Link DaemonStage). P x.number x.stage) links was h has))

-- ---- the links behind a row

-- what is so of the others and of the link that goes on is so of the links behind a row
pub behind-all : (P : ℕ → DaemonStage → Type 0) (links : List (Link DaemonStage)) (number : ℕ) (bytes : List ℕ) (link : Option (Link DaemonStage))
    → AllByRecursion (λ (l : Link DaemonStage). P l.number l.stage) links → ((l : Link DaemonStage) → link ≡ Some l → P l.number l.stage)
    → AllByRecursion (λ (l : Link DaemonStage). P l.number l.stage) (links_behind links number bytes link)
behind-all P links number bytes None h goes = all-some (λ (l : Link DaemonStage). P l.number l.stage) (λ (l : Link DaemonStage). not (l.number == number)) links h
behind-all P links number bytes (Some link) h goes =
    all-append (λ (l : Link DaemonStage). P l.number l.stage) (filter (λ (l : Link DaemonStage). nat_lt l.number link.number) links) _
    (all-some (λ (l : Link DaemonStage). P l.number l.stage) (λ (l : Link DaemonStage). nat_lt l.number link.number) links h)
    (goes link refl, all-some (λ (l : Link DaemonStage). P l.number l.stage) (λ (l : Link DaemonStage). nat_lt link.number l.number) links h)

-- the links behind a row whose own link is blank, or is shut
pub from-behind : (links : List (Link DaemonStage)) (number : ℕ) (bytes : List ℕ) (link : Option (Link DaemonStage)) → ((l : Link DaemonStage) → link ≡ Some l → IsBlank l.stage)
    → AreFrom links (links_behind links number bytes link)
from-behind links number bytes None blank = from-some links (λ (l : Link DaemonStage). not (l.number == number))
from-behind links number bytes (Some link) blank =
    all-append (IsFrom links) (filter (λ (l : Link DaemonStage). nat_lt l.number link.number) links) _
    (from-some links (λ (l : Link DaemonStage). nat_lt l.number link.number)) (inl (blank link refl), from-some links (λ (l : Link DaemonStage). nat_lt link.number l.number))

not-both : (t : Bool) → t ≡ true → not t ≡ true → ⊥
not-both true is other = cc
not-both false is other = cc

lower-apart : (a b : ℕ) → nat_lt a b ≡ true → a ≡ b → ⊥
lower-apart a b test e = let low : a < b = ltb-true a b test in omega (arith, low, e)

-- what becomes of each link of another number is so of those behind a row of a link of this number, where it is so of that link
pub behind-apart : (P Q : ℕ → DaemonStage → Type 0) (number : ℕ) → ((other : ℕ) (stage : DaemonStage) → (other ≡ number → ⊥) → P other stage → Q other stage) → (links : List (Link DaemonStage)) (bytes : List ℕ)
    (link : Option (Link DaemonStage)) → AllByRecursion (λ (l : Link DaemonStage). P l.number l.stage) links → ((l : Link DaemonStage) → link ≡ Some l → (l.number ≡ number) × Q number l.stage)
    → AllByRecursion (λ (l : Link DaemonStage). Q l.number l.stage) (links_behind links number bytes link)
behind-apart P Q number lift links bytes None h goes =
    passing (λ (l : Link DaemonStage). P l.number l.stage) (λ (l : Link DaemonStage). Q l.number l.stage) (λ (l : Link DaemonStage). not (l.number == number))
    (λ l test was. lift l.number l.stage (λ e. not-both (l.number == number) (eq-eqb l.number number e) test) was) links h
behind-apart P Q number lift links bytes (Some link) h goes =
    let own = goes link refl in
    all-append (λ (l : Link DaemonStage). Q l.number l.stage) (filter (λ (l : Link DaemonStage). nat_lt l.number link.number) links) _
    (passing (λ (l : Link DaemonStage). P l.number l.stage) (λ (l : Link DaemonStage). Q l.number l.stage) (λ (l : Link DaemonStage). nat_lt l.number link.number)
    (λ l test was. lift l.number l.stage (λ e. lower-apart l.number link.number test (e ∙ sym own.0)) was) links h) (
      subst (λ (m : ℕ). Q m link.stage) (sym own.0) own.1,
      passing (λ (l : Link DaemonStage). P l.number l.stage) (λ (l : Link DaemonStage). Q l.number l.stage) (λ (l : Link DaemonStage). nat_lt link.number l.number)
          (λ l test was. lift l.number l.stage (λ e. lower-apart link.number l.number test (own.0 ∙ sym e)) was) links h,
    )

-- ---- a step

-- it seals nothing, and its links are from those before, on which at most something came
pub record IsRest (d : DaemonNode) (o : Outcome DaemonNode) : Type 0 where
  pub seals : o.out.seals ≡ []
  pub links : AreFrom d.links o.state.links
  pub fed : AreFed d.links o.state.links

module _ (d : DaemonNode) (reading : ℕ) (draw : List ℕ) (handlers : Handlers) (P : Outcome DaemonNode → Type 0) (rests : (o : Outcome DaemonNode) → IsRest d o → P o)
    (turns : (number : ℕ) → Always P (turn handlers d reading draw (link_of number d.links))) (asks : P (fetches d reading draw)) where
  idle : P (idles d)
  idle = rests (idles d) (record { seals = refl; links = from-same d.links; fed = fed-same d.links })

  forgets : (number : ℕ) → P (idles (forgotten d number))
  forgets number = rests (idles (forgotten d number)) (record { seals = refl; links = from-some d.links (λ (l : Link DaemonStage). not (l.number == number)); fed = fed-some d.links (λ (l : Link DaemonStage). not (l.number == number)) })

  -- ---- links that open

  puts : (number : ℕ) (bytes : List ℕ) (link : Link DaemonStage) → IsFrom d.links (record link { sent = link.sent ++ bytes }) → AreFrom d.links (links_behind d.links number bytes (Some link))
  puts number bytes link from =
      all-append (IsFrom d.links) (filter (λ (l : Link DaemonStage). nat_lt l.number link.number) d.links) _
      (from-some d.links (λ (l : Link DaemonStage). nat_lt l.number link.number)) (from, from-some d.links (λ (l : Link DaemonStage). nat_lt link.number l.number))

  fed-puts : (number : ℕ) (bytes : List ℕ) (link : Link DaemonStage) → IsFed d.links (record link { sent = link.sent ++ bytes }) → AreFed d.links (links_behind d.links number bytes (Some link))
  fed-puts number bytes link fed =
      all-append (IsFed d.links) (filter (λ (l : Link DaemonStage). nat_lt l.number link.number) d.links) _
      (fed-some d.links (λ (l : Link DaemonStage). nat_lt l.number link.number)) (fed, fed-some d.links (λ (l : Link DaemonStage). nat_lt link.number l.number))

  opens-so : (number : ℕ) (to : Option Peer) → P (opens d reading draw number to)
  opens-so number None = by_test (nat_le 1024 (length d.links))
    where
      a : Arrival Daemon DaemonStage
      a = arrival (me d.own) d.own (new_link number (AsAcceptor AwaitsBanner)) reading draw

      by_test : (full : Bool) → P (carried_out d number false
          (if full then refuses (arrival (me d.own) d.own (new_link number (AsAcceptor AwaitsBanner)) reading draw) reason.LinksFull []
          else goes_on (arrival (me d.own) d.own (new_link number (AsAcceptor AwaitsBanner)) reading draw) (AsAcceptor AwaitsBanner) own_banner []))
      by_test true =
          rests (carried_out d number false (refuses a reason.LinksFull [])) (record { seals = refl; links = from-some d.links (λ (l : Link DaemonStage). not (l.number == number)); fed = fed-some d.links (λ (l : Link DaemonStage). not (l.number == number)) })
      by_test false =
          rests (carried_out d number false (goes_on a (AsAcceptor AwaitsBanner) own_banner []))
          (record { seals = refl; links = puts number own_banner (record a.link { stage = AsAcceptor AwaitsBanner }) (inl tt); fed = fed-puts number own_banner (record a.link { stage = AsAcceptor AwaitsBanner }) (inl (tt, refl)) })
  opens-so number (Some peer.Monitor) = by_test d.own.dials
    where
      stage : DaemonStage
      stage = AsConnector (connector.AwaitsBanner 0)

      a : Arrival Daemon DaemonStage
      a = arrival (me d.own) (undialled d).own (new_link number (AsConnector (connector.AwaitsBanner 0))) reading draw

      by_test : (dials : Bool) → P (if dials then opens_own (undialled d) reading draw number else idles d)
      by_test true =
          rests (opens_own (undialled d) reading draw number) (record { seals = refl; links = puts number own_banner (record a.link { stage = stage }) (inl tt); fed = fed-puts number own_banner (record a.link { stage = stage }) (inl (tt, refl)) })
      by_test false = idle
  opens-so number (Some (peer.Daemon name)) = idle

  unreached-so : (to : Peer) → P (unreached d to)
  unreached-so peer.Monitor = rests (unreached d peer.Monitor) (record { seals = refl; links = from-same d.links; fed = fed-same d.links })
  unreached-so (peer.Daemon name) = rests (unreached d (peer.Daemon name)) (record { seals = refl; links = from-same d.links; fed = fed-same d.links })

  -- ---- bytes

  fed-so : (bytes : List ℕ) (number : ℕ) (found : Option (Link DaemonStage)) → link_of number d.links ≡ found → P (fed d bytes found)
  fed-so bytes number None is = idle
  fed-so bytes number (Some link) is =
      rests (fed d bytes (Some link)) (record {
        seals = refl;
        links = all-append (IsFrom d.links) (filter (λ (l : Link DaemonStage). nat_lt l.number link.number) d.links) _
            (from-some d.links (λ (l : Link DaemonStage). nat_lt l.number link.number)) (
              inr (link, found-among d.links number link is, refl, refl),
              from-some d.links (λ (l : Link DaemonStage). nat_lt link.number l.number),
            );
        fed = all-append (IsFed d.links) (filter (λ (l : Link DaemonStage). nat_lt l.number link.number) d.links) _
            (fed-some d.links (λ (l : Link DaemonStage). nat_lt l.number link.number)) (
              inr (link, found-among d.links number link is, refl, refl, (bytes, refl)),
              fed-some d.links (λ (l : Link DaemonStage). nat_lt link.number l.number),
            );
      })
    where
      found-among : (links : List (Link DaemonStage)) (m : ℕ) (l : Link DaemonStage) → link_of m links ≡ Some l → Contains links l
      found-among links m l there = found_all (λ (x : Link DaemonStage). Contains links x) (λ (x : Link DaemonStage). x.number == m) links l (all-of (λ (x : Link DaemonStage). Contains links x) links (λ x has. has)) there

  -- ---- links that are gone

  ended-so : (number session : ℕ) (r : BookReply) → Always P (lossy_gone d number session r)
  ended-so number session (reply.Ended true) =
      rests (record { state = forgotten d number; out = record nothing { entries = ended_entry d session ∷ [] } })
      (record { seals = refl; links = from-some d.links (λ (l : Link DaemonStage). not (l.number == number)); fed = fed-some d.links (λ (l : Link DaemonStage). not (l.number == number)) })
  ended-so number session (reply.Ended false) = forgets number
  ended-so number session (reply.Admitted m epoch) = idle
  ended-so number session (reply.Resumed m epoch last lossy) = idle
  ended-so number session reply.Fine = idle
  ended-so number session (reply.Refused why) = idle
  ended-so number session reply.OutOfMemory = idle

  incoming-gone : (number : ℕ) (stage : IncomingStage) → Always P (incoming_gone d number stage)
  incoming-gone number AwaitsBanner = forgets number
  incoming-gone number AwaitsHello = forgets number
  incoming-gone number AwaitsRequest = forgets number
  incoming-gone number (AwaitsProof awaited) = forgets number
  incoming-gone number (AwaitsSignature s owner) = forgets number
  incoming-gone number (AwaitsIdent s owner) = forgets number
  incoming-gone number (Open s served) = by_test served.lossy
    where
      by_test : (lossy : Bool) → Always P (if lossy then Asking (End served.number) (lossy_gone d number served.number) else Finished (idles (forgotten d number)))
      by_test true = λ r. ended-so number served.number r
      by_test false = forgets number

  gone-so : (found : Option (Link DaemonStage)) → Always P (gone d found)
  gone-so None = idle
  gone-so (Some link) = by_kind link.stage
    where
      by_kind : (stage : DaemonStage) → Always P (gone_by_kind d link.number stage)
      by_kind (AsAcceptor stage) = incoming-gone link.number stage
      by_kind (AsConnector stage) = rests (loses d link.number stage) (record { seals = refl; links = from-some d.links (λ (l : Link DaemonStage). not (l.number == link.number)); fed = fed-some d.links (λ (l : Link DaemonStage). not (l.number == link.number)) })

  -- ---- commands and ticks

  dropped-so : (session : ℕ) (r : BookReply) → Always P (on_dropped d session r)
  dropped-so session (reply.Ended true) =
      rests (shut_where (λ (l : Link DaemonStage). is_in session l.stage) (record { state = d; out = record nothing { entries = ended_entry d session ∷ [] } }))
      (record { seals = refl; links = from-some d.links (λ (l : Link DaemonStage). not (is_in session l.stage)); fed = fed-some d.links (λ (l : Link DaemonStage). not (is_in session l.stage)) })
  dropped-so session (reply.Ended false) = idle
  dropped-so session (reply.Admitted m epoch) = idle
  dropped-so session (reply.Resumed m epoch last lossy) = idle
  dropped-so session reply.Fine = idle
  dropped-so session (reply.Refused why) = idle
  dropped-so session reply.OutOfMemory = idle

  submits-so : (said : Command) → Always P (submits d reading draw said)
  submits-so command.Fetch = asks
  submits-so (command.Drop session) = λ r. dropped-so session r
  submits-so (command.Login services) = idle
  submits-so (command.Renew services) = idle
  submits-so (command.Connect name lossy) = idle
  submits-so (command.Send name operation) = idle

  ticks-so : P (ticks d reading draw)
  ticks-so = by_test (is_outdated reading d.own.mon_client.view)
    where
      by_test : (outdated : Bool) → P (if outdated then fetches d reading draw else idles d)
      by_test true = asks
      by_test false = idle

  -- ---- any event

  pub walk : (input : Input) → Always P (daemon_rule handlers d input reading draw)
  walk (Opened number to) = opens-so number to
  walk (NoLink to) = unreached-so to
  walk (Bytes number bytes) = fed-so bytes number (link_of number d.links) refl
  walk (Turn number) = turns number
  walk (Gone number) = gone-so (link_of number d.links)
  walk (Submit said) = submits-so said
  walk Tick = ticks-so
  walk (Look view) = rests (looks d view) (record { seals = refl; links = from-same d.links; fed = fed-same d.links })
  walk Restart = rests (restarted d) (record { seals = refl; links = tt; fed = tt })
