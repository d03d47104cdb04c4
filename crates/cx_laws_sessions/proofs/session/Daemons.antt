-- What each step of a daemon comes to for its sessions, whatever comes to it.
use Rattle.std.proofs.Common.{◌≡◌, ◌⊎◌, ◌==◌, ℕ, Bool, true, false, List, [], ◌∷◌, ◌++◌, filter, length, Option, Some, None, Result, Ok, Err, inl, inr, refl, sym, subst}
use Rattle.std.specs.Prelude.{is_some, nat_le, nat_lt, not, if◌then◌else◌}
use Rattle.std.specs.List.{AllByRecursion}
use Rattle.std.specs.Option.{option_map}
use Rattle.cx_run.specs.cx_authorize.specs.Daemon.{Authority}
use Rattle.cx_base.specs.Names.{Name}
use Rattle.cx_desk.specs.Handlers.{Handlers}
use Rattle.cx_journal.specs.declared.outcomes.Reason.{Reason}
use Rattle.cx_journal.specs.declared.outcomes.Reason.TheVariants.{LinksFull, Lost}
use Rattle.cx_run.specs.cx_rules.specs.Acceptor.{AwaitsBanner, AwaitsHello, AwaitsRequest, AwaitsProof, AwaitsSignature, AwaitsIdent, Open}
use Rattle.cx_run.specs.cx_rules.specs.Connector as connector
use Rattle.cx_run.specs.cx_rules.specs.Greetings.{own_banner}
use Rattle.cx_run.specs.cx_rules.specs.Holdings.{MonClient}
use Rattle.cx_run.specs.cx_rules.specs.Inputs.{Input, Opened, NoLink, Bytes, Turn, Gone, Look, Tick, Submit, Restart}
use Rattle.cx_run.specs.cx_rules.specs.Links.{Link, link_of, put_link, without_link}
use Rattle.cx_run.specs.cx_rules.specs.Requests.{Requests, first_open, is_outdated, sealed_request, sends_request}
use Rattle.cx_run.specs.cx_rules.specs.Rows.{Arrival, Outcome, Turned, Waits, Refuses, Handles, arrival, carried_out, fed, forgotten, goes_on, idles, links_behind, new_link, refused_entry, refuses, turns}
use Rattle.cx_run.specs.cx_rules.specs.Secured.{SealedFrame, Secured}
use Rattle.cx_run.specs.cx_rules.specs.declared.requests.Want.TheVariants.{Rotating}
use Rattle.cx_run.specs.cx_rules_session.specs.Asks.{Finished, Asking, with_book}
use Rattle.cx_run.specs.cx_rules_session.specs.DaemonRule.{AsAcceptor, AsConnector, Daemon, DaemonNode, DaemonStage, DaemonState, asking_open, book_after, book_reply, daemon_step, fetches, fetches_on, gone, gone_by_kind, incoming_gone, hosts, is_fetching, is_in, is_older, looks, loses, lossy_gone, me, moved_to, on_dropped, open_to_ask, opens, opens_own, shut_where, submits, ticks, turn, turned_at, undialled, unreached, with_mon_client}
use Rattle.cx_run.specs.cx_rules_session.specs.IncomingLinks.{IncomingStage, Served}
use Rattle.cx_run.specs.cx_rules_session.specs.Hosting.{Deciding, Hosted, incoming_turned}
use Rattle.cx_run.specs.cx_rules_session.specs.Kinds.{arrival_in, of_kind, turn_of_kind}
use Rattle.cx_session.specs.Book.{Book, ended, with_number}
use Rattle.cx_session.specs.declared.call.BookCall.TheVariants.{End}
use Rattle.cx_session.specs.declared.call.BookReply.TheVariants as reply
use Rattle.cx_run.specs.cx_steps.specs.Onto.{SomeOf}
use Rattle.cx_run.specs.cx_steps.specs.declared.events.Command.{Command}
use Rattle.cx_run.specs.cx_steps.specs.declared.events.Command.TheVariants as command
use Rattle.cx_run.specs.cx_steps.specs.declared.events.Peer.{Peer}
use Rattle.cx_run.specs.cx_steps.specs.declared.events.Peer.TheVariants as peer
use Rattle.cx_run.specs.cx_wire.specs.declared.bodies.Request.TheVariants as asked
use Rattle.cx_run.proofs.Taking.{EachRow}
use Rattle.cx_laws_sessions.proofs.session.MonClients.{EntersNone, mon_client-enters, fetch-enters}
use Rattle.cx_laws_sessions.proofs.session.Books.{ended-lasts, ended-lives, ended-still}
use Rattle.cx_laws_sessions.proofs.session.IncomingLinks.{HostedComes, TurnComes, incoming-comes, with-map}
use Rattle.cx_laws_sessions.proofs.session.Keeping.{still-book}
use Rattle.cx_laws_sessions.proofs.session.Lists.{all-map, found-some, some-either, some-filtered}
use Rattle.cx_laws_sessions.proofs.session.Moves.{Comes, Ending, HasServed, IsQuiet, IsRight, LinkServes, LinksServe, Rested, StageServed, StepComes, StillBook, quiet-right, row-comes}

-- ---- links

module _ (links : List (Link DaemonStage)) (x : Served) where
  abbrev Keeps : Link DaemonStage → Type 0
  Keeps l = StageServed l.stage x

  without-serves : (number : ℕ) → LinksServe (without_link number links) x → LinksServe links x
  without-serves number h = some-filtered Keeps (λ (l : Link DaemonStage). not (l.number == number)) links h

  put-serves : (link : Link DaemonStage) → LinksServe (put_link link links) x → LinksServe links x ⊎ StageServed link.stage x
  put-serves link h =
      by_place (some-either Keeps (filter (λ (l : Link DaemonStage). nat_lt l.number link.number) links) (link ∷ filter (λ (l : Link DaemonStage). nat_lt link.number l.number) links) h)
    where
      by_place : SomeOf Keeps (filter (λ (l : Link DaemonStage). nat_lt l.number link.number) links)
          ⊎ SomeOf Keeps (link ∷ filter (λ (l : Link DaemonStage). nat_lt link.number l.number) links) → LinksServe links x ⊎ StageServed link.stage x
      by_place (inl low) = inl (some-filtered Keeps (λ (l : Link DaemonStage). nat_lt l.number link.number) links low)
      by_place (inr (inl here)) = inr here
      by_place (inr (inr high)) = inl (some-filtered Keeps (λ (l : Link DaemonStage). nat_lt link.number l.number) links high)

  -- a link that keeps nothing of a session
  put-bare : (link : Link DaemonStage) → (StageServed link.stage x → ⊥) → LinksServe (put_link link links) x → LinksServe links x
  put-bare link bare h = by_place (put-serves link h)
    where
      by_place : LinksServe links x ⊎ StageServed link.stage x → LinksServe links x
      by_place (inl was) = was
      by_place (inr here) = absurd (bare here)

  incoming-behind : (number : ℕ) (bytes : List ℕ) (l : Option (Link IncomingStage)) → LinksServe (links_behind links number bytes (option_map (of_kind AsAcceptor) l)) x
      → LinksServe links x ⊎ LinkServes l x
  incoming-behind number bytes None h = inl (without-serves number h)
  incoming-behind number bytes (Some l) h = put-serves (record (of_kind AsAcceptor l) { sent = l.sent ++ bytes }) h

  own-behind : (number : ℕ) (bytes : List ℕ) (l : Option (Link connector.Stage)) → LinksServe (links_behind links number bytes (option_map (of_kind AsConnector) l)) x → LinksServe links x
  own-behind number bytes None h = without-serves number h
  own-behind number bytes (Some l) h = put-bare (record (of_kind AsConnector l) { sent = l.sent ++ bytes }) (λ here. here) h

-- ---- a step

module _ (handlers : Handlers) (d : DaemonState) where
  abbrev name : Name
  name = d.node.own.mon_client.name

  abbrev had : Served → Type 0
  had x = LinksServe d.node.links x

  abbrev Becomes : Outcome DaemonNode × Book Authority → Type 0
  Becomes p = Comes handlers name d.book had (λ (x : Served). LinksServe p.0.state.links x) p.0.out.entries p.1

  abbrev Decides : Deciding (Outcome DaemonNode) → Type 0
  Decides rule = Becomes (with_book book_reply book_after d.book rule)

  -- nothing of sessions is entered, and links keep what they had of them
  abbrev IsStill : Outcome DaemonNode → Type 0
  IsStill o = AllByRecursion IsQuiet o.out.entries × ((x : Served) → LinksServe o.state.links x → had x)

  still-becomes : (new : Book Authority) → StillBook d.book new → (o : Outcome DaemonNode) → IsStill o → Becomes (o, new)
  still-becomes new same o h =
      Rested (record {
        book_is = same.0;
        keeps = h.1;
        right = all-map IsQuiet (IsRight handlers name d.book had) (quiet-right handlers name d.book had) o.out.entries h.0;
        takes = inl (record { quiet = h.0; lasts = same.1 });
      })

  rests : (o : Outcome DaemonNode) → IsStill o → Becomes (o, d.book)
  rests o h = still-becomes d.book (still-book d.book) o h

  idle : IsStill (idles d.node)
  idle = (tt, λ x h. h)

  nothing-comes : Becomes (idles d.node, d.book)
  nothing-comes = rests (idles d.node) idle

  -- ---- turns

  -- some links are shut
  shut-becomes : (is_shut : Link DaemonStage → Bool) (o : Outcome DaemonNode) (new : Book Authority) → Becomes (o, new) → Becomes (shut_where is_shut o, new)
  shut-becomes is_shut o new h =
      row-comes handlers name d.book new o.out.entries had (λ (x : Served). LinksServe o.state.links x) had (λ (x : Served). LinksServe (shut_where is_shut o).state.links x) (λ x was. was)
      (λ x left. inr (some-filtered (λ (l : Link DaemonStage). StageServed l.stage x) (λ (l : Link DaemonStage). not (is_shut l)) o.state.links left)) h

  moved-becomes : (number : ℕ) (moved : Option ℕ) (o : Outcome DaemonNode) (new : Book Authority) → Becomes (o, new) → Becomes (moved_to number moved o, new)
  moved-becomes number None o new h = h
  moved-becomes number (Some session) o new h = shut-becomes (is_older number session) o new h

  module _ (reading : ℕ) (draw : List ℕ) (number : ℕ) (link : Link DaemonStage) (found : link_of number d.node.links ≡ Some link) where
    abbrev came : Arrival Daemon DaemonStage
    came = arrival (me d.node.own) d.node.own link reading draw

    module _ (stage : IncomingStage) (is : link.stage ≡ AsAcceptor stage) where
      -- what is kept on this link is kept on one
      on-link : (x : Served) → HasServed stage x → had x
      on-link x here =
          found-some (λ (l : Link DaemonStage). StageServed l.stage x) (λ (l : Link DaemonStage). l.number == number) d.node.links link found
          (subst (λ (s : DaemonStage). StageServed s x) (sym is) here)

      hosted-becomes : (p : Hosted × Book Authority) → HostedComes handlers name d.book (HasServed stage) p → Becomes (hosts d.node came p.0, p.1)
      hosted-becomes (hosted, new) h =
          moved-becomes link.number hosted.moved (turns d.node came (turn_of_kind (with_mon_client d.node.own) AsAcceptor hosted.turned)) new (by_turned hosted.turned h)
        where
          by_turned : (turned : Turned MonClient IncomingStage) → TurnComes handlers name d.book (HasServed stage) turned new
              → Becomes (turns d.node came (turn_of_kind (with_mon_client d.node.own) AsAcceptor turned), new)
          by_turned Waits same = still-becomes new same (idles d.node) idle
          by_turned (Refuses why opened) same =
              still-becomes new same (turns d.node came (Refuses why opened)) ((tt, tt), λ x left. without-serves d.node.links x link.number left)
          by_turned (Handles row) comes =
              row-comes handlers name d.book new row.entries (HasServed stage) (LinkServes row.link) had
              (λ (x : Served). LinksServe (links_behind d.node.links link.number row.sends (option_map (of_kind AsAcceptor) row.link)) x) on-link
              (λ x behind. incoming-behind d.node.links x link.number row.sends row.link behind) comes

    own-still : (stage : connector.Stage) → IsStill (turns d.node came (turn_of_kind (with_mon_client d.node.own) AsConnector (connector.turned_at (arrival_in came d.node.own.mon_client stage) stage)))
    own-still stage = by_turned (connector.turned_at (arrival_in came d.node.own.mon_client stage) stage) (mon_client-enters (arrival_in came d.node.own.mon_client stage) stage)
      where
        by_turned : (turned : Turned MonClient connector.Stage) → EachRow EntersNone turned → IsStill (turns d.node came (turn_of_kind (with_mon_client d.node.own) AsConnector turned))
        by_turned Waits h = idle
        by_turned (Refuses why opened) h = ((tt, tt), λ x left. without-serves d.node.links x link.number left)
        by_turned (Handles row) h = (h, λ x behind. own-behind d.node.links x link.number row.sends row.link behind)

    turned-becomes : (stage : DaemonStage) → link.stage ≡ stage → Decides (turned_at handlers d.node came stage)
    turned-becomes (AsAcceptor stage) is =
        let rule : Deciding Hosted = incoming_turned handlers (arrival_in came d.node.own.mon_client stage) stage in
        subst Becomes (sym (with-map (hosts d.node came) d.book rule))
        (hosted-becomes stage is (with_book book_reply book_after d.book rule) (incoming-comes handlers d.book (arrival_in came d.node.own.mon_client stage) stage))
    turned-becomes (AsConnector stage) is = rests (turns d.node came (turn_of_kind (with_mon_client d.node.own) AsConnector (connector.turned_at (arrival_in came d.node.own.mon_client stage) stage))) (own-still stage)

  turn-becomes : (reading : ℕ) (draw : List ℕ) (number : ℕ) (found : Option (Link DaemonStage)) → link_of number d.node.links ≡ found → Decides (turn handlers d.node reading draw found)
  turn-becomes reading draw number None is = nothing-comes
  turn-becomes reading draw number (Some link) is = turned-becomes reading draw number link is link.stage refl

  -- ---- the other events

  opens-still : (reading : ℕ) (draw : List ℕ) (number : ℕ) (to : Option Peer) → IsStill (opens d.node reading draw number to)
  opens-still reading draw number None = by_test (nat_le 1024 (length d.node.links))
    where
      by_test : (full : Bool) → IsStill (carried_out d.node number false
          (if full then refuses (arrival (me d.node.own) d.node.own (new_link number (AsAcceptor AwaitsBanner)) reading draw) LinksFull []
          else goes_on (arrival (me d.node.own) d.node.own (new_link number (AsAcceptor AwaitsBanner)) reading draw) (AsAcceptor AwaitsBanner) own_banner []))
      by_test true = ((tt, tt), λ x left. without-serves d.node.links x number left)
      by_test false = (tt, λ x behind. put-bare d.node.links x (record (new_link number (AsAcceptor AwaitsBanner)) { sent = own_banner }) (λ here. here) behind)
  opens-still reading draw number (Some peer.Monitor) = by_test d.node.own.dials
    where
      by_test : (dials : Bool) → IsStill (if dials then opens_own (undialled d.node) reading draw number else idles d.node)
      by_test true =
          (tt, λ x behind. put-bare d.node.links x (record (new_link number (AsConnector (connector.AwaitsBanner 0))) { sent = own_banner }) (λ here. here) behind)
      by_test false = idle
  opens-still reading draw number (Some (peer.Daemon daemon)) = idle

  unreached-still : (to : Peer) → IsStill (unreached d.node to)
  unreached-still peer.Monitor = ((tt, tt), λ x h. h)
  unreached-still (peer.Daemon daemon) = ((tt, tt), λ x h. h)

  fed-still : (number : ℕ) (bytes : List ℕ) (found : Option (Link DaemonStage)) → link_of number d.node.links ≡ found → IsStill (fed d.node bytes found)
  fed-still number bytes None is = idle
  fed-still number bytes (Some link) is = (tt, kept)
    where
      by_place : (x : Served) → had x ⊎ StageServed link.stage x → had x
      by_place x (inl was) = was
      by_place x (inr here) =
          found-some (λ (l : Link DaemonStage). StageServed l.stage x) (λ (l : Link DaemonStage). l.number == number) d.node.links link is here

      kept : (x : Served) → LinksServe (fed d.node bytes (Some link)).state.links x → had x
      kept x behind = by_place x (put-serves d.node.links x (record link { received = link.received ++ bytes }) behind)

  forgotten-serves : (number : ℕ) (x : Served) → LinksServe (forgotten d.node number).links x → had x
  forgotten-serves number x left = without-serves d.node.links x number left

  -- the book is asked to end a session
  ended-becomes : (number session : ℕ) (lived : Bool) → Becomes (with_book book_reply book_after (ended d.book session) (lossy_gone d.node number session (reply.Ended lived)))
  ended-becomes number session true =
      Ending (record { number = session; entries_are = refl; next = refl; lives = ended-lives d.book session; lasts = ended-lasts d.book session; keeps = forgotten-serves number })
  ended-becomes number session false = still-becomes (ended d.book session) (ended-still d.book session) (idles (forgotten d.node number)) (tt, forgotten-serves number)

  forgets : (number : ℕ) → Becomes (idles (forgotten d.node number), d.book)
  forgets number = rests (idles (forgotten d.node number)) (tt, forgotten-serves number)

  incoming-gone-becomes : (number : ℕ) (stage : IncomingStage) → Decides (incoming_gone d.node number stage)
  incoming-gone-becomes number AwaitsBanner = forgets number
  incoming-gone-becomes number AwaitsHello = forgets number
  incoming-gone-becomes number AwaitsRequest = forgets number
  incoming-gone-becomes number (AwaitsProof awaited) = forgets number
  incoming-gone-becomes number (AwaitsSignature s owner) = forgets number
  incoming-gone-becomes number (AwaitsIdent s owner) = forgets number
  incoming-gone-becomes number (Open s served) = by_test served.lossy
    where
      by_test : (lossy : Bool)
          → Decides (if lossy then Asking (End served.number) (lossy_gone d.node number served.number) else Finished (idles (forgotten d.node number)))
      by_test true = ended-becomes number served.number (is_some (with_number served.number d.book.live))
      by_test false = forgets number

  loses-still : (number : ℕ) (stage : connector.Stage) → IsStill (loses d.node number stage)
  loses-still number stage = (by_test (connector.is_open stage), forgotten-serves number)
    where
      by_test : (open_ : Bool) → AllByRecursion IsQuiet (if open_ then [] else refused_entry (me d.node.own) number Lost ∷ [])
      by_test true = tt
      by_test false = (tt, tt)

  gone-becomes : (found : Option (Link DaemonStage)) → Decides (gone d.node found)
  gone-becomes None = nothing-comes
  gone-becomes (Some link) = by_kind link.stage
    where
      by_kind : (stage : DaemonStage) → Decides (gone_by_kind d.node link.number stage)
      by_kind (AsAcceptor stage) = incoming-gone-becomes link.number stage
      by_kind (AsConnector stage) = rests (loses d.node link.number stage) (loses-still link.number stage)

  fetches-still : (reading : ℕ) (draw : List ℕ) → IsStill (fetches d.node reading draw)
  fetches-still reading draw = by_test (is_fetching d.node)
    where
      by_sealed : (link : Link DaemonStage) (s : Secured) (requests : Requests) (sealed : Result SealedFrame Reason) → (x : Served)
          → LinksServe (links_behind d.node.links link.number
          (sends_request open_to_ask (arrival (me d.node.own) d.node.own.mon_client link reading draw) s requests (Rotating reading) sealed).sends
          (sends_request open_to_ask (arrival (me d.node.own) d.node.own.mon_client link reading draw) s requests (Rotating reading) sealed).link) x → had x
      by_sealed link s requests (Ok sealed) x behind = put-bare d.node.links x _ (λ here. here) behind
      by_sealed link s requests (Err why) x left = without-serves d.node.links x link.number left

      by_open : (found : Option (Link DaemonStage × (Secured × Requests))) → IsStill (fetches_on d.node reading draw found)
      by_open None = (tt, λ x h. h)
      by_open (Some (link, (s, requests))) =
          let a = arrival (me d.node.own) d.node.own.mon_client link reading draw in
          let sealed = sealed_request s.keys requests asked.Rotating in
          (fetch-enters open_to_ask a s requests (Rotating reading) sealed, by_sealed link s requests sealed)

      by_test : (under_way : Bool) → IsStill (if under_way then idles d.node else fetches_on d.node reading draw (first_open asking_open d.node.links))
      by_test true = idle
      by_test false = by_open (first_open asking_open d.node.links)

  ticks-still : (reading : ℕ) (draw : List ℕ) → IsStill (ticks d.node reading draw)
  ticks-still reading draw = by_test (is_outdated reading d.node.own.mon_client.view)
    where
      by_test : (outdated : Bool) → IsStill (if outdated then fetches d.node reading draw else idles d.node)
      by_test true = fetches-still reading draw
      by_test false = idle

  dropped-becomes : (session : ℕ) (lived : Bool) → Becomes (with_book book_reply book_after (ended d.book session) (on_dropped d.node session (reply.Ended lived)))
  dropped-becomes session true =
      Ending (record {
        number = session;
        entries_are = refl;
        next = refl;
        lives = ended-lives d.book session;
        lasts = ended-lasts d.book session;
        keeps = λ x left. some-filtered (λ (l : Link DaemonStage). StageServed l.stage x) (λ (l : Link DaemonStage). not (is_in session l.stage)) d.node.links left;
      })
  dropped-becomes session false = still-becomes (ended d.book session) (ended-still d.book session) (idles d.node) idle

  submits-becomes : (reading : ℕ) (draw : List ℕ) (said : Command) → Decides (submits d.node reading draw said)
  submits-becomes reading draw command.Fetch = rests (fetches d.node reading draw) (fetches-still reading draw)
  submits-becomes reading draw (command.Drop session) = dropped-becomes session (is_some (with_number session d.book.live))
  submits-becomes reading draw (command.Login services) = nothing-comes
  submits-becomes reading draw (command.Renew services) = nothing-comes
  submits-becomes reading draw (command.Connect daemon lossy) = nothing-comes
  submits-becomes reading draw (command.Send daemon operation) = nothing-comes

  pub daemon-comes : (input : Input) (reading : ℕ) (draw : List ℕ) →
      let o = daemon_step handlers d input reading draw in
      StepComes handlers name d.book had (λ (x : Served). LinksServe o.state.node.links x) o.out.entries o.state.book
  daemon-comes (Opened number to) reading draw = inl (rests (opens d.node reading draw number to) (opens-still reading draw number to))
  daemon-comes (NoLink to) reading draw = inl (rests (unreached d.node to) (unreached-still to))
  daemon-comes (Bytes number bytes) reading draw = inl (rests (fed d.node bytes (link_of number d.node.links)) (fed-still number bytes (link_of number d.node.links) refl))
  daemon-comes (Turn number) reading draw = inl (turn-becomes reading draw number (link_of number d.node.links) refl)
  daemon-comes (Gone number) reading draw = inl (gone-becomes (link_of number d.node.links))
  daemon-comes (Submit said) reading draw = inl (submits-becomes reading draw said)
  daemon-comes Tick reading draw = inl (rests (ticks d.node reading draw) (ticks-still reading draw))
  daemon-comes (Look view) reading draw = inl (rests (looks d.node view) (tt, λ x h. h))
  daemon-comes Restart reading draw = inr (record { entries_are = refl; lives = refl; none = λ x here. here })
