-- A step of a daemon at any event, with any book: what is known of all that was said, and of the links of the daemon, stays known behind it, and what its
-- entries tell is so.
use Rattle.std.proofs.Common.{◌≡◌, ℕ, ◌==◌, Bool, true, false, List, [], ◌∷◌, length, Option, Some, None, Result, Ok, Err, filter, nat_lt, inl, inr, refl, sym, subst}
use Rattle.std.specs.Prelude.{nat_le, not, if◌then◌else◌}
use Rattle.std.specs.List.{AllByRecursion}
use Rattle.cx_base.specs.Names.{Name}
use Rattle.cx_base.specs.declared.nodes.NodeName.{NodeName}
use Rattle.cx_base.specs.declared.nodes.NodeName.TheVariants as node
use Rattle.cx_desk.specs.Handlers.{Handlers}
use Rattle.cx_journal.specs.declared.entries.Entry.{Entry}
use Rattle.cx_journal.specs.declared.entries.Entry.TheVariants as journal
use Rattle.cx_journal.specs.declared.outcomes.Reason.{Reason}
use Rattle.cx_journal.specs.declared.outcomes.Reason.TheVariants as reason
use Rattle.cx_laws_run.specs.cx_laws_tickets.proofs.authorize.DaemonRows.{LinksHave}
use Rattle.cx_laws_run.specs.cx_laws_keys.proofs.keys.Journal.{entered}
use Rattle.cx_laws_run.specs.cx_laws_keys.proofs.keys.Known.{Inv, Within}
use Rattle.cx_laws_run.specs.cx_laws_keys.proofs.keys.Lists.{all-append, all-map, found_all}
use Rattle.cx_laws_run.specs.cx_laws_keys.proofs.keys.Premises.{AreGranted, behind}
use Rattle.cx_laws_run.specs.cx_laws_keys.proofs.keys.Uses.{AreGenerated, Grows, Uses, WholeRun}
use Rattle.cx_laws_run.proofs.run.Events.{DaemonOk}
use Rattle.cx_laws_sessions.proofs.session.Daemons.{daemon-comes}
use Rattle.cx_laws_sessions.proofs.session.Moves.{Admitting, Ending, IsQuiet, IsRight, LinksServe, Rested, Resuming, StepComes}
use Rattle.cx_laws_sessions.specs.cx_authorize.specs.Daemon.{Authority}
use Rattle.cx_laws_sessions.specs.cx_rules.specs.Acceptor.{AwaitsBanner, AwaitsHello, AwaitsRequest, AwaitsProof, AwaitsSignature, AwaitsIdent, Open}
use Rattle.cx_laws_sessions.specs.cx_rules.specs.Connector as connector
use Rattle.cx_laws_sessions.specs.cx_rules.specs.Greetings.{own_banner}
use Rattle.cx_laws_sessions.specs.cx_rules.specs.Holdings.{MonClient}
use Rattle.cx_laws_sessions.specs.cx_rules.specs.Inputs.{Input, Opened, NoLink, Bytes, Turn, Gone, Look, Tick, Submit, Restart}
use Rattle.cx_laws_sessions.specs.cx_rules.specs.Links.{Link, link_of}
use Rattle.cx_laws_sessions.specs.cx_rules.specs.Requests.{Requests, asks_rotating, first_open, is_outdated, sealed_request, sends_request}
use Rattle.cx_laws_sessions.specs.cx_rules.specs.Rows.{Arrival, Outcome, Row, arrival, carried_out, fed, forgotten, goes_on, idles, lifted, new_link, refused_entry, refuses}
use Rattle.cx_laws_sessions.specs.cx_rules.specs.Secured.{SealedFrame, Secured}
use Rattle.cx_laws_sessions.specs.cx_rules.specs.declared.requests.Want.TheVariants as want
use Rattle.cx_laws_sessions.specs.cx_rules_session.specs.Asks.{Finished, Asking}
use Rattle.cx_laws_sessions.specs.cx_rules_session.specs.DaemonRule.{AsAcceptor, AsConnector, Daemon, DaemonNode, DaemonStage, DaemonState, asking_open, book_after, book_reply, daemon_rule, daemon_step, ended_entry, fetches, fetches_on, gone, gone_by_kind, incoming_gone, is_fetching, is_in, looks, loses, lossy_gone, me, on_dropped, open_to_ask, opens, opens_own, restarted, shut_where, submits, ticks, undialled, unreached, with_mon_client}
use Rattle.cx_laws_sessions.specs.cx_rules_session.specs.IncomingLinks.{IncomingStage, Served}
use Rattle.cx_laws_sessions.specs.cx_run.proofs.DaemonNamed.{daemon-named}
use Rattle.cx_laws_sessions.specs.cx_run.proofs.Always.{Always, always-book}
use Rattle.cx_session.specs.Book.{Book}
use Rattle.cx_session.specs.declared.call.BookCall.TheVariants.{End}
use Rattle.cx_session.specs.declared.call.BookReply.{BookReply}
use Rattle.cx_session.specs.declared.call.BookReply.TheVariants as reply
use Rattle.cx_steps.specs.Nothing.{nothing}
use Rattle.cx_steps.specs.declared.events.Command.{Command}
use Rattle.cx_steps.specs.declared.events.Command.TheVariants as command
use Rattle.cx_steps.specs.declared.events.Peer.{Peer}
use Rattle.cx_steps.specs.declared.events.Peer.TheVariants as peer
use Rattle.cx_steps.specs.declared.seals.Logged.{Logged}
use Rattle.cx_steps.specs.declared.seals.SealEntry.{SealEntry}
use Rattle.cx_laws_sessions.specs.cx_wire.specs.declared.bodies.Request.TheVariants as asked
use Rattle.cx_laws_links.proofs.links.IncomingNodes.{HostKnown, LinksKnown}
use Rattle.cx_laws_links.proofs.links.IncomingWords.{AreSpelled}
use Rattle.cx_laws_links.proofs.links.Known.{AreTold, Told}
use Rattle.cx_laws_links.proofs.links.Since.{since}
use Rattle.cx_laws_run.proofs.sent.DaemonKnown.{AdmitsFirst, AdmitsNone, GoesOn, GoesOrEnds, IsOne, IsSilent, IsStill, IsUnheard, Keeps, StepKnown, heard-behind, host-lifts, hosts-lift, quiet-known, still-unheard, still-within}
use Rattle.cx_laws_run.proofs.sent.DaemonTurns.{AsksSilently, LinkGoes, rests-known, row-known, turn-stays}
use Rattle.cx_laws_run.proofs.sent.State.{DaemonBehind}

module _ (run : WholeRun) (whole : List Logged) (us vs : Uses) (told : Told) (log : List Logged) (J : List Entry) (n : NodeName) (line : ℕ)
    (i : Inv run whole us log J) (f : Grows us vs) (t : AreTold run us told log J) (d : DaemonNode) (known : LinksKnown run us told J d.own.mon_client.name n d.links) (reading : ℕ) (draw : List ℕ) where
  abbrev Stays : Outcome DaemonNode → Type 0
  Stays o = Keeps run whole us vs told log J n line d.own.mon_client.name o

  -- of the same links nothing is logged or entered but what is no session and no operation
  still-known : (o : Outcome DaemonNode) → o.out.seals ≡ [] → AllByRecursion IsStill o.out.entries → ((K : List Entry) → IsOne vs → Within (since d.own.mon_client.name J) (since d.own.mon_client.name K) → LinksKnown run vs told K d.own.mon_client.name n o.state.links) → Stays o
  still-known o none unheard links = λ g iv have.
      quiet-known run whole us vs told log J n line d.own.mon_client.name i f t o iv.one (subst (λ (es : List SealEntry). IsSilent vs es) (sym none) (λ key name tie is. refl))
      (all-map IsStill IsUnheard still-unheard o.out.entries unheard) (links (entered J o.out.entries) iv.one (still-within d.own.mon_client.name J o.out.entries unheard))

  same-links : (K : List Entry) → IsOne vs → Within (since d.own.mon_client.name J) (since d.own.mon_client.name K) → LinksKnown run vs told K d.own.mon_client.name n d.links
  same-links K one w = hosts-lift run us vs told J K d.own.mon_client.name n i.one one f w d.links known

  some-links : (test : Link DaemonStage → Bool) (K : List Entry) → IsOne vs → Within (since d.own.mon_client.name J) (since d.own.mon_client.name K) → LinksKnown run vs told K d.own.mon_client.name n (filter test d.links)
  some-links test K one w = rests-known run whole us vs told log J n line d.own.mon_client.name i f t d known K one w test

  idle-stays : Stays (idles d)
  idle-stays = still-known (idles d) refl tt same-links

  forgotten-stays : (number : ℕ) → Stays (idles (forgotten d number))
  forgotten-stays number = still-known (idles (forgotten d number)) refl tt (some-links (λ (l : Link DaemonStage). not (l.number == number)))

  -- ---- links that open

  new-stays : (m : DaemonNode) (number : ℕ) (row : Row Daemon DaemonStage) → LinksKnown run us told J d.own.mon_client.name n m.links → row.seals ≡ [] → AllByRecursion IsStill row.entries
      → LinkGoes run whole us vs told log J n line d.own.mon_client.name i f t row.link → Stays (carried_out m number false row)
  new-stays m number row links none unheard goes =
      row-known run whole us vs told log J n line d.own.mon_client.name i f t m links number false row (λ g one. subst (λ (es : List SealEntry). IsSilent vs es) (sym none) (λ key name tie is. refl)) unheard
      (λ g has. goes)

  opens-stays : (number : ℕ) (to : Option Peer) → Stays (opens d reading draw number to)
  opens-stays number None = by_test (nat_le 1024 (length d.links))
    where
      a : Arrival Daemon DaemonStage
      a = arrival (me d.own) d.own (new_link number (AsAcceptor AwaitsBanner)) reading draw

      by_test : (full : Bool) → Stays (carried_out d number false
          (if full then refuses (arrival (me d.own) d.own (new_link number (AsAcceptor AwaitsBanner)) reading draw) reason.LinksFull []
          else goes_on (arrival (me d.own) d.own (new_link number (AsAcceptor AwaitsBanner)) reading draw) (AsAcceptor AwaitsBanner) own_banner []))
      by_test true = new-stays d number (refuses a reason.LinksFull []) known refl (tt, tt) tt
      by_test false = new-stays d number (goes_on a (AsAcceptor AwaitsBanner) own_banner []) known refl tt (λ K. (tt, tt))
  opens-stays number (Some peer.Monitor) = by_test d.own.dials
    where
      by_test : (dials : Bool) → Stays (if dials then opens_own (undialled d) reading draw number else idles d)
      by_test true =
          let stage : DaemonStage = AsConnector (connector.AwaitsBanner 0) in
          new-stays (undialled d) number (goes_on (arrival (me d.own) (undialled d).own (new_link number stage) reading draw) stage own_banner []) known refl tt (λ K. tt)
      by_test false = idle-stays
  opens-stays number (Some (peer.Daemon name)) = idle-stays

  unreached-stays : (to : Peer) → Stays (unreached d to)
  unreached-stays peer.Monitor = still-known (unreached d peer.Monitor) refl (tt, tt) same-links
  unreached-stays (peer.Daemon name) = still-known (unreached d (peer.Daemon name)) refl (tt, tt) same-links

  -- ---- bytes

  fed-stays : (bytes : List ℕ) (number : ℕ) (found : Option (Link DaemonStage)) → link_of number d.links ≡ found → Stays (fed d bytes found)
  fed-stays bytes number None is = idle-stays
  fed-stays bytes number (Some link) is = still-known (fed d bytes (Some link)) refl tt (λ K one w.
      let was : HostKnown run us told J d.own.mon_client.name n link.number link.stage =
      found_all (λ (l : Link DaemonStage). HostKnown run us told J d.own.mon_client.name n l.number l.stage) (λ (l : Link DaemonStage). l.number == number) d.links link known is in
      all-append (λ (l : Link DaemonStage). HostKnown run vs told K d.own.mon_client.name n l.number l.stage) (filter (λ (l : Link DaemonStage). nat_lt l.number link.number) d.links) _
      (some-links (λ (l : Link DaemonStage). nat_lt l.number link.number) K one w)
      (host-lifts run us vs told J K d.own.mon_client.name n i.one one f w link.number link.stage was, some-links (λ (l : Link DaemonStage). nat_lt link.number l.number) K one w))

  -- ---- links that are gone

  ended-stays : (number session : ℕ) (r : BookReply) → Always Stays (lossy_gone d number session r)
  ended-stays number session (reply.Ended true) =
      still-known (record { state = forgotten d number; out = record nothing { entries = ended_entry d session ∷ [] } }) refl (tt, tt) (some-links (λ (l : Link DaemonStage). not (l.number == number)))
  ended-stays number session (reply.Ended false) = forgotten-stays number
  ended-stays number session (reply.Admitted m epoch) = idle-stays
  ended-stays number session (reply.Resumed m epoch last lossy) = idle-stays
  ended-stays number session reply.Fine = idle-stays
  ended-stays number session (reply.Refused why) = idle-stays
  ended-stays number session reply.OutOfMemory = idle-stays

  incoming-gone : (number : ℕ) (stage : IncomingStage) → Always Stays (incoming_gone d number stage)
  incoming-gone number AwaitsBanner = forgotten-stays number
  incoming-gone number AwaitsHello = forgotten-stays number
  incoming-gone number AwaitsRequest = forgotten-stays number
  incoming-gone number (AwaitsProof awaited) = forgotten-stays number
  incoming-gone number (AwaitsSignature s owner) = forgotten-stays number
  incoming-gone number (AwaitsIdent s owner) = forgotten-stays number
  incoming-gone number (Open s served) = by_test served.lossy
    where
      by_test : (lossy : Bool) → Always Stays (if lossy then Asking (End served.number) (lossy_gone d number served.number) else Finished (idles (forgotten d number)))
      by_test true = λ r. ended-stays number served.number r
      by_test false = forgotten-stays number

  loses-stays : (number : ℕ) (stage : connector.Stage) → Stays (loses d number stage)
  loses-stays number stage = still-known (loses d number stage) refl (by_test (connector.is_open stage)) (some-links (λ (l : Link DaemonStage). not (l.number == number)))
    where
      by_test : (is_open : Bool) → AllByRecursion IsStill (if is_open then [] else refused_entry (me d.own) number reason.Lost ∷ [])
      by_test true = tt
      by_test false = (tt, tt)

  gone-stays : (found : Option (Link DaemonStage)) → Always Stays (gone d found)
  gone-stays None = idle-stays
  gone-stays (Some link) = by_kind link.stage
    where
      by_kind : (stage : DaemonStage) → Always Stays (gone_by_kind d link.number stage)
      by_kind (AsAcceptor stage) = incoming-gone link.number stage
      by_kind (AsConnector stage) = loses-stays link.number stage

  -- ---- fetches

  sent-unheard : (a : Arrival MonClient DaemonStage) (s : Secured) (requests : Requests) (r : Result SealedFrame Reason)
      → AllByRecursion IsStill (sends_request open_to_ask a s requests (want.Rotating reading) r).entries
  sent-unheard a s requests (Ok sealed) = tt
  sent-unheard a s requests (Err why) = (tt, tt)

  sent-goes : (a : Arrival MonClient DaemonStage) (s : Secured) (requests : Requests) (r : Result SealedFrame Reason)
      → LinkGoes run whole us vs told log J n line d.own.mon_client.name i f t (sends_request open_to_ask a s requests (want.Rotating reading) r).link
  sent-goes a s requests (Ok sealed) = λ K. tt
  sent-goes a s requests (Err why) = tt

  module _ (asks : AsksSilently run vs n d reading draw) (had : LinksHave run n us d.links) where
    fetches-stays : Stays (fetches d reading draw)
    fetches-stays = by_test (is_fetching d) asks.asks
      where
        by_open : (found : Option (Link DaemonStage × (Secured × Requests)))
            → (IsOne vs → LinksHave run n vs (fetches_on d reading draw found).state.links → IsSilent vs (fetches_on d reading draw found).out.seals) → Stays (fetches_on d reading draw found)
        by_open None silent = still-known (fetches_on d reading draw None) refl tt same-links
        by_open (Some (link, (s, requests))) silent = λ g iv have.
            let a : Arrival MonClient DaemonStage = arrival (me d.own) d.own.mon_client link reading draw in
            row-known run whole us vs told log J n line d.own.mon_client.name i f t d known link.number false (lifted (with_mon_client d.own) (asks_rotating open_to_ask a s requests))
            (λ granted one. silent one have) (sent-unheard a s requests (sealed_request s.keys requests asked.Rotating))
            (λ granted has. sent-goes a s requests (sealed_request s.keys requests asked.Rotating)) g iv have

        by_test : (under_way : Bool)
            → (IsOne vs → LinksHave run n vs (if under_way then idles d else fetches_on d reading draw (first_open asking_open d.links)).state.links
            → IsSilent vs (if under_way then idles d else fetches_on d reading draw (first_open asking_open d.links)).out.seals)
            → Stays (if under_way then idles d else fetches_on d reading draw (first_open asking_open d.links))
        by_test true silent = idle-stays
        by_test false silent = by_open (first_open asking_open d.links) silent

    ticks-stays : Stays (ticks d reading draw)
    ticks-stays = by_test (is_outdated reading d.own.mon_client.view)
      where
        by_test : (outdated : Bool) → Stays (if outdated then fetches d reading draw else idles d)
        by_test true = fetches-stays
        by_test false = idle-stays

    -- ---- commands

    dropped-stays : (session : ℕ) (r : BookReply) → Always Stays (on_dropped d session r)
    dropped-stays session (reply.Ended true) =
        still-known (shut_where (λ (l : Link DaemonStage). is_in session l.stage) (record { state = d; out = record nothing { entries = ended_entry d session ∷ [] } })) refl (tt, tt)
        (some-links (λ (l : Link DaemonStage). not (is_in session l.stage)))
    dropped-stays session (reply.Ended false) = idle-stays
    dropped-stays session (reply.Admitted m epoch) = idle-stays
    dropped-stays session (reply.Resumed m epoch last lossy) = idle-stays
    dropped-stays session reply.Fine = idle-stays
    dropped-stays session (reply.Refused why) = idle-stays
    dropped-stays session reply.OutOfMemory = idle-stays

    submits-stays : (said : Command) → Always Stays (submits d reading draw said)
    submits-stays command.Fetch = fetches-stays
    submits-stays (command.Drop session) = λ r. dropped-stays session r
    submits-stays (command.Login services) = idle-stays
    submits-stays (command.Renew services) = idle-stays
    submits-stays (command.Connect name lossy) = idle-stays
    submits-stays (command.Send name operation) = idle-stays

    -- ---- any event

    module _ (spelled : AreSpelled told) (generated : AreGenerated us d.own.mon_client.name.kind d.own.mon_client.view.generations) (drawn : length draw ≡ 384) (handlers : Handlers) where
      pub rule-stays : (input : Input) → Always Stays (daemon_rule handlers d input reading draw)
      rule-stays (Opened number to) = opens-stays number to
      rule-stays (NoLink to) = unreached-stays to
      rule-stays (Bytes number bytes) = fed-stays bytes number (link_of number d.links) refl
      rule-stays (Turn number) =
          turn-stays run whole us vs told log J n line i f t spelled d known generated reading draw drawn handlers asks had number (link_of number d.links) refl
      rule-stays (Gone number) = gone-stays (link_of number d.links)
      rule-stays (Submit said) = submits-stays said
      rule-stays Tick = ticks-stays
      rule-stays (Look view) = still-known (looks d view) refl tt same-links
      rule-stays Restart = λ g iv have.
          quiet-known run whole us vs told log J n line d.own.mon_client.name i f t (restarted d) iv.one (λ key name tie is. refl) (tt, tt) tt

-- ---- a session is admitted by the first entry of a step alone

quiet-admits : (e : Entry) → IsQuiet e → AdmitsNone e
quiet-admits (journal.Admitted x) h = absurd h
quiet-admits (journal.Resumed x) h = tt
quiet-admits (journal.Saved x) h = tt
quiet-admits (journal.Issued x) h = tt
quiet-admits (journal.Fetched x) h = tt
quiet-admits (journal.Looked x) h = tt
quiet-admits (journal.Sent x) h = tt
quiet-admits (journal.Handled x) h = tt
quiet-admits (journal.Answered x) h = tt
quiet-admits (journal.Refused x) h = tt
quiet-admits (journal.Ended x) h = tt
quiet-admits (journal.Restarted x) h = tt
quiet-admits (journal.Broken x) h = tt
quiet-admits (journal.Leaked x) h = tt

quiet-on : (e : Entry) → IsQuiet e → GoesOn e
quiet-on (journal.Admitted x) h = tt
quiet-on (journal.Resumed x) h = tt
quiet-on (journal.Saved x) h = tt
quiet-on (journal.Issued x) h = tt
quiet-on (journal.Fetched x) h = tt
quiet-on (journal.Looked x) h = tt
quiet-on (journal.Sent x) h = tt
quiet-on (journal.Handled x) h = tt
quiet-on (journal.Answered x) h = tt
quiet-on (journal.Refused x) h = tt
quiet-on (journal.Ended x) h = tt
quiet-on (journal.Restarted x) h = absurd h
quiet-on (journal.Broken x) h = tt
quiet-on (journal.Leaked x) h = tt

module _ (handlers : Handlers) (name : Name) (book : Book Authority) (had has : Served → Type 0) (new : Book Authority) where
  right-admits : (e : Entry) → IsRight handlers name book had e → AdmitsNone e
  right-admits (journal.Admitted x) h = absurd h
  right-admits (journal.Resumed x) h = tt
  right-admits (journal.Saved x) h = tt
  right-admits (journal.Issued x) h = tt
  right-admits (journal.Fetched x) h = tt
  right-admits (journal.Looked x) h = tt
  right-admits (journal.Sent x) h = tt
  right-admits (journal.Handled x) h = tt
  right-admits (journal.Answered x) h = tt
  right-admits (journal.Refused x) h = tt
  right-admits (journal.Ended x) h = tt
  right-admits (journal.Restarted x) h = tt
  right-admits (journal.Broken x) h = tt
  right-admits (journal.Leaked x) h = tt

  right-on : (e : Entry) → IsRight handlers name book had e → GoesOn e
  right-on (journal.Admitted x) h = tt
  right-on (journal.Resumed x) h = tt
  right-on (journal.Saved x) h = tt
  right-on (journal.Issued x) h = tt
  right-on (journal.Fetched x) h = tt
  right-on (journal.Looked x) h = tt
  right-on (journal.Sent x) h = tt
  right-on (journal.Handled x) h = tt
  right-on (journal.Answered x) h = tt
  right-on (journal.Refused x) h = tt
  right-on (journal.Ended x) h = tt
  right-on (journal.Restarted x) h = absurd h
  right-on (journal.Broken x) h = tt
  right-on (journal.Leaked x) h = tt

  none-first : (es : List Entry) → AllByRecursion AdmitsNone es → AdmitsFirst es
  none-first [] h = tt
  none-first (e ∷ es) h = h.1

  comes-first : (es : List Entry) → StepComes handlers name book had has es new → AdmitsFirst es
  comes-first es (inl (Rested r)) = none-first es (all-map (IsRight handlers name book had) AdmitsNone right-admits es r.right)
  comes-first es (inl (Admitting r)) = subst AdmitsFirst (sym r.entries_are) (all-map IsQuiet AdmitsNone quiet-admits r.rest r.quiet)
  comes-first es (inl (Resuming r)) = subst AdmitsFirst (sym r.entries_are) (all-map IsQuiet AdmitsNone quiet-admits r.rest r.quiet)
  comes-first es (inl (Ending r)) = subst AdmitsFirst (sym r.entries_are) tt
  comes-first es (inr r) = subst AdmitsFirst (sym r.entries_are) tt

  on-or-ends : (es : List Entry) → AllByRecursion GoesOn es → GoesOrEnds es
  on-or-ends [] h = tt
  on-or-ends (e ∷ []) h = tt
  on-or-ends (e ∷ x ∷ es) h = (h.0, h.1)

  comes-goes : (es : List Entry) → StepComes handlers name book had has es new → GoesOrEnds es
  comes-goes es (inl (Rested r)) = on-or-ends es (all-map (IsRight handlers name book had) GoesOn right-on es r.right)
  comes-goes es (inl (Admitting r)) = subst GoesOrEnds (sym r.entries_are) (on-or-ends (journal.Admitted r.admitted ∷ r.rest) (tt, all-map IsQuiet GoesOn quiet-on r.rest r.quiet))
  comes-goes es (inl (Resuming r)) = subst GoesOrEnds (sym r.entries_are) (on-or-ends (journal.Resumed r.resumed ∷ r.rest) (tt, all-map IsQuiet GoesOn quiet-on r.rest r.quiet))
  comes-goes es (inl (Ending r)) = subst GoesOrEnds (sym r.entries_are) tt
  comes-goes es (inr r) = subst GoesOrEnds (sym r.entries_are) tt

-- ---- a step

module _ (run : WholeRun) (whole : List Logged) (us vs : Uses) (told : Told) (log : List Logged) (J : List Entry) (line : ℕ) (i : Inv run whole us log J) (f : Grows us vs)
    (t : AreTold run us told log J) (spelled : AreSpelled told) (handlers : Handlers) (d : DaemonState) (input : Input) (reading : ℕ) (draw : List ℕ) (drawn : length draw ≡ 384) where
  abbrev name : Name
  name = d.node.own.mon_client.name

  abbrev n : NodeName
  n = node.Entity d.node.own.mon_client.name

  abbrev o : Outcome DaemonState
  o = daemon_step handlers d input reading draw

  pub daemon-behind : LinksKnown run us told J name n d.node.links → DaemonOk run us J d.node → AsksSilently run vs n d.node reading draw
      → AreGranted run.leaked whole n line log o.out.seals → Inv run whole vs (behind n line o.out.seals log) (entered J o.out.entries) → DaemonOk run vs (entered J o.out.entries) o.state.node
      → DaemonBehind run vs told log line J (entered J o.out.entries) name o
  daemon-behind known before asks g iv later =
      let named : o.state.node.own.mon_client.name ≡ name = daemon-named handlers d input reading draw in
      let have : LinksHave run n vs o.state.node.links = subst (λ (m : Name). LinksHave run (node.Entity m) vs o.state.node.links) named later.links in
      let step : StepKnown run whole us vs told log J n line name (record { state = o.state.node; out = o.out }) =
      always-book (Keeps run whole us vs told log J n line name) book_reply book_after d.book (daemon_rule handlers d.node input reading draw)
      (rule-stays run whole us vs told log J n line i f t d.node known reading draw asks before.links spelled before.known.fetched.generated drawn handlers input) g iv have in
      record {
        joins = step.joins;
        own = step.own;
        known_of = step.known_of;
        links = step.links;
        quiet = step.quiet;
        heard = heard-behind run J o.out.entries
            (comes-first handlers name d.book (λ (x : Served). LinksServe d.node.links x) (λ (x : Served). LinksServe o.state.node.links x) o.state.book o.out.entries
            (daemon-comes handlers d input reading draw))
            (comes-goes handlers name d.book (λ (x : Served). LinksServe d.node.links x) (λ (x : Served). LinksServe o.state.node.links x) o.state.book o.out.entries
            (daemon-comes handlers d input reading draw)) step.says;
      }

  -- the same of a daemon of this name
  abbrev IsBehindAs : Name → Type 0
  IsBehindAs m = LinksKnown run us told J m (node.Entity m) d.node.links → DaemonOk run us J d.node → AsksSilently run vs (node.Entity m) d.node reading draw
      → AreGranted run.leaked whole (node.Entity m) line log o.out.seals → Inv run whole vs (behind (node.Entity m) line o.out.seals log) (entered J o.out.entries)
      → DaemonOk run vs (entered J o.out.entries) o.state.node → DaemonBehind run vs told log line J (entered J o.out.entries) m o

  pub daemon-behind_as : (m : Name) → d.node.own.mon_client.name ≡ m → LinksKnown run us told J m (node.Entity m) d.node.links → DaemonOk run us J d.node
      → AsksSilently run vs (node.Entity m) d.node reading draw → AreGranted run.leaked whole (node.Entity m) line log o.out.seals
      → Inv run whole vs (behind (node.Entity m) line o.out.seals log) (entered J o.out.entries) → DaemonOk run vs (entered J o.out.entries) o.state.node
      → DaemonBehind run vs told log line J (entered J o.out.entries) m o
  daemon-behind_as m named = subst IsBehindAs named daemon-behind
