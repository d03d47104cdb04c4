-- What a daemon may forget of its links makes no difference to what it does, nor to what it asks a book.
use Rattle.std.proofs.Common.{◌≡◌, ℕ, ◌++◌, Bool, true, false, List, [], ◌∷◌, length, map, Option, Some, None, refl, sym, ap, subst, ◌∙◌, arith}
use Rattle.std.specs.Prelude.{IfSome, filter, nat_le, not, ◌||◌, ◌&&◌, ◌==◌, if◌then◌else◌}
use Rattle.std.specs.List.{AllByRecursion}
use Rattle.std.specs.Option.{option_map}
use Rattle.std.proofs.lemmas.List.{length-map}
use Rattle.cx_authorize.specs.Daemon.{Authority}
use Rattle.cx_desk.specs.Handlers.{Handlers}
use Rattle.cx_authorize.specs.cx_journal.specs.declared.outcomes.Reason.TheVariants.{LinksFull}
use Rattle.cx_session.specs.Book.{Book}
use Rattle.cx_session.specs.declared.call.BookCall.TheVariants.{End}
use Rattle.cx_session.specs.declared.call.BookReply.{BookReply}
use Rattle.cx_session.specs.declared.call.BookReply.TheVariants.{Ended}
use Rattle.cx_rules.specs.cx_steps.specs.Nothing.{nothing}
use Rattle.cx_rules.specs.cx_steps.specs.declared.effects.Effects.{Effects}
use Rattle.cx_rules.specs.cx_steps.specs.declared.events.Command.{Command}
use Rattle.cx_rules.specs.cx_steps.specs.declared.events.Command.TheVariants as command
use Rattle.cx_rules.specs.cx_steps.specs.declared.events.Peer.{Peer}
use Rattle.cx_rules.specs.cx_steps.specs.declared.events.Peer.TheVariants as peer
use Rattle.cx_authorize.specs.cx_wire.specs.declared.bodies.Request.TheVariants as asked
use Rattle.cx_rules.specs.Abridged.{IsWithin, abridged_mon_client_link, abridged_link, unsigned}
use Rattle.cx_rules.specs.Acceptor as acceptor
use Rattle.cx_rules.specs.Connector as connector
use Rattle.cx_rules.specs.Greetings.{own_banner}
use Rattle.cx_rules.specs.Holdings.{MonClient}
use Rattle.cx_rules.specs.Inputs.{Input, Opened, NoLink, Bytes, Turn, Gone, Look, Tick, Submit, Restart}
use Rattle.cx_rules.specs.Links.{Link, link_of}
use Rattle.cx_rules.specs.Requests.{Requests, asks_rotating, first_open, is_outdated, sealed_request}
use Rattle.cx_rules.specs.Rows.{Arrival, Outcome, Row, Turned, arrival, at, carried_out, forgotten, goes_on, idles, lifted, new_link, refuses, turns}
use Rattle.cx_rules.specs.Secured.{Secured}
use Rattle.cx_rules.specs.declared.requests.Want.TheVariants.{Rotating}
use Rattle.cx_rules.proofs.Abridging.{Agree, Forgets, carried-alike, fed-agree, found-within, gone-held, gone-stands, idles-agree, link_of_map, node-twice, without-within}
use Rattle.cx_rules.proofs.AcceptorForgets.{acceptor-forgets}
use Rattle.cx_rules.proofs.AlikeRows.{SameAhead, turns-agree}
use Rattle.cx_rules.proofs.MonClientForgets.{mon_client-forgets, turned-alike}
use Rattle.cx_rules_session.specs.Asks.{Finished, Asking}
use Rattle.cx_rules_session.specs.DaemonRule.{Daemon, DaemonNode, DaemonStage, AsAcceptor, AsConnector, DaemonState, asking_open, book_after, book_behind, daemon_rule, daemon_step, daemon_told, ended_entry, fetches, fetches_on, gone, gone_by_kind, hosts, is_fetching, is_for_fetch, is_idle, is_in, is_older, loses, lossy_gone, me, moved_to, on_dropped, open_to_ask, opening_daemon, opens, opens_incoming, opens_own, book_reply, shut_where, submits, ticks, turn, turned_at, undialled, unreached, with_mon_client}
use Rattle.cx_rules_session.specs.Forgets.{AreSameDaemon, AskAlike, DaemonNodeStandsFor, DaemonStandsFor, abridged_daemon, abridged_daemon_at, abridged_daemon_link, abridged_state}
use Rattle.cx_rules_session.specs.IncomingLinks.{IncomingStage, Served}
use Rattle.cx_rules_session.specs.Hosting.{Hosted, incoming_turned}
use Rattle.cx_rules_session.specs.Kinds.{in_stage, turn_of_kind}
use Rattle.cx_rules_session.proofs.AskingAlike.{answered-alike, asks_map-alike, related-alike, with_book-alike}
use Rattle.cx_rules_session.proofs.IncomingForgets.{AreSameHosted, incoming-turned-alike}
use Rattle.cx_rules_session.proofs.KindsAlike.{comes-of-kind, cut_found, cut_kept, first-open-cut, first-open-within, left-within, lifted-alike, links-left, list_any-map, number-of-kind, numbers-picked, request-alike, sends-of-kind, turn-of-kind-alike, twice-of-kind}

-- ---- a link

number-of : (l : Link DaemonStage) (stage : DaemonStage) → (abridged_daemon_at l stage).number ≡ l.number
number-of l (AsAcceptor stage) = number-of-kind AsAcceptor abridged_link abridged_daemon_link acceptor-forgets (λ k. refl) (in_stage l stage)
number-of l (AsConnector stage) = number-of-kind AsConnector abridged_mon_client_link abridged_daemon_link mon_client-forgets (λ k. refl) (in_stage l stage)

twice-of : (l : Link DaemonStage) (stage : DaemonStage)
    → (let k : Link DaemonStage = record l { stage = stage } in abridged_daemon_link (abridged_daemon_link k)) ≡ abridged_daemon_link (record l { stage = stage })
twice-of l (AsAcceptor stage) = twice-of-kind AsAcceptor abridged_link abridged_daemon_link acceptor-forgets (λ k. refl) (in_stage l stage)
twice-of l (AsConnector stage) = twice-of-kind AsConnector abridged_mon_client_link abridged_daemon_link mon_client-forgets (λ k. refl) (in_stage l stage)

sends-of : (l : Link DaemonStage) (stage : DaemonStage) (bytes : List ℕ)
    → (let k : Link DaemonStage = abridged_daemon_link (record l { stage = stage }) in abridged_daemon_link (record k { sent = k.sent ++ bytes }))
    ≡ abridged_daemon_link (record l { sent = l.sent ++ bytes; stage = stage })
sends-of l (AsAcceptor stage) bytes = sends-of-kind AsAcceptor abridged_link abridged_daemon_link acceptor-forgets (λ k. refl) (in_stage l stage) bytes
sends-of l (AsConnector stage) bytes = sends-of-kind AsConnector abridged_mon_client_link abridged_daemon_link mon_client-forgets (λ k. refl) (in_stage l stage) bytes

comes-of : (l : Link DaemonStage) (stage : DaemonStage) (bytes : List ℕ) → IsWithin l
    → (let k : Link DaemonStage = abridged_daemon_link (record l { stage = stage }) in abridged_daemon_link (record k { received = k.received ++ bytes }))
    ≡ abridged_daemon_link (record l { received = l.received ++ bytes; stage = stage })
comes-of l (AsAcceptor stage) bytes w = comes-of-kind AsAcceptor abridged_link abridged_daemon_link acceptor-forgets (λ k. refl) (in_stage l stage) bytes w
comes-of l (AsConnector stage) bytes w = comes-of-kind AsConnector abridged_mon_client_link abridged_daemon_link mon_client-forgets (λ k. refl) (in_stage l stage) bytes w

pub daemon-forgets-links : Forgets abridged_daemon_link
daemon-forgets-links = record {
  number = λ l. number-of l l.stage;
  twice = λ l. twice-of l l.stage;
  sends = λ l bytes. sends-of l l.stage bytes;
  comes = λ l bytes w. comes-of l l.stage bytes w;
}

same-ahead : (l : Link DaemonStage) (stage : DaemonStage) → (let k : Link DaemonStage = record l { stage = stage } in SameAhead (abridged_daemon_link k) k)
same-ahead l (AsAcceptor acceptor.AwaitsBanner) = record { number = refl; ahead = refl }
same-ahead l (AsAcceptor acceptor.AwaitsHello) = record { number = refl; ahead = refl }
same-ahead l (AsAcceptor acceptor.AwaitsRequest) = record { number = refl; ahead = refl }
same-ahead l (AsAcceptor (acceptor.AwaitsProof awaited)) = record { number = refl; ahead = refl }
same-ahead l (AsAcceptor (acceptor.AwaitsSignature s owner)) = record { number = refl; ahead = refl }
same-ahead l (AsAcceptor (acceptor.AwaitsIdent s owner)) = record { number = refl; ahead = refl }
same-ahead l (AsAcceptor (acceptor.Open s served)) = record { number = refl; ahead = refl }
same-ahead l (AsConnector (connector.AwaitsBanner services)) = record { number = refl; ahead = refl }
same-ahead l (AsConnector (connector.AwaitsHello services)) = record { number = refl; ahead = refl }
same-ahead l (AsConnector (connector.AwaitsChallenge services)) = record { number = refl; ahead = refl }
same-ahead l (AsConnector connector.AwaitsDone) = record { number = refl; ahead = refl }
same-ahead l (AsConnector (connector.AwaitsSignature s login)) = record { number = refl; ahead = refl }
same-ahead l (AsConnector (connector.AwaitsIdent s session)) = record { number = refl; ahead = refl }
same-ahead l (AsConnector (connector.Open s requests)) = record { number = refl; ahead = refl }

-- ---- what stays of a stage

pub in-same : (session : ℕ) (l : Link DaemonStage) (stage : DaemonStage) → is_in session (abridged_daemon_at l stage).stage ≡ is_in session stage
in-same session l (AsAcceptor acceptor.AwaitsBanner) = refl
in-same session l (AsAcceptor acceptor.AwaitsHello) = refl
in-same session l (AsAcceptor acceptor.AwaitsRequest) = refl
in-same session l (AsAcceptor (acceptor.AwaitsProof awaited)) = refl
in-same session l (AsAcceptor (acceptor.AwaitsSignature s owner)) = refl
in-same session l (AsAcceptor (acceptor.AwaitsIdent s owner)) = refl
in-same session l (AsAcceptor (acceptor.Open s served)) = refl
in-same session l (AsConnector stage) = refl

fetch-same : (l : Link DaemonStage) (stage : DaemonStage) → is_for_fetch (abridged_daemon_at l stage).stage ≡ is_for_fetch stage
fetch-same l (AsAcceptor stage) = refl
fetch-same l (AsConnector (connector.AwaitsBanner services)) = refl
fetch-same l (AsConnector (connector.AwaitsHello services)) = refl
fetch-same l (AsConnector (connector.AwaitsChallenge services)) = refl
fetch-same l (AsConnector connector.AwaitsDone) = refl
fetch-same l (AsConnector (connector.AwaitsSignature s login)) = refl
fetch-same l (AsConnector (connector.AwaitsIdent s session)) = refl
fetch-same l (AsConnector (connector.Open s requests)) = refl

kept-same : (l : Link DaemonStage) (stage : DaemonStage)
    → asking_open (abridged_daemon_at l stage).stage ≡ option_map cut_kept (asking_open stage)
kept-same l (AsAcceptor stage) = refl
kept-same l (AsConnector (connector.AwaitsBanner services)) = refl
kept-same l (AsConnector (connector.AwaitsHello services)) = refl
kept-same l (AsConnector (connector.AwaitsChallenge services)) = refl
kept-same l (AsConnector connector.AwaitsDone) = refl
kept-same l (AsConnector (connector.AwaitsSignature s login)) = refl
kept-same l (AsConnector (connector.AwaitsIdent s session)) = refl
kept-same l (AsConnector (connector.Open s requests)) = refl

-- ---- outcomes

-- two outcomes of a daemon of which it keeps the same
abbrev pub DaemonsAgree : Outcome DaemonNode → Outcome DaemonNode → Type 0
DaemonsAgree o p = Agree abridged_daemon_link o p

idles-same : (d : DaemonNode) → AllByRecursion IsWithin d.links → DaemonsAgree (idles (abridged_daemon d)) (idles d)
idles-same d h = idles-agree abridged_daemon_link daemon-forgets-links d h

-- links are shut that are picked by what stays of them
shut-agree : (is_shut : Link DaemonStage → Bool) → ((l : Link DaemonStage) → is_shut (abridged_daemon_link l) ≡ is_shut l) → (o p : Outcome DaemonNode) → DaemonsAgree o p
    → DaemonsAgree (shut_where is_shut o) (shut_where is_shut p)
shut-agree is_shut same o p agree =
    let numbers : List (Link DaemonStage) → List ℕ = λ links. map (λ l. l.number) (filter is_shut links) in
    let left : List (Link DaemonStage) → List (Link DaemonStage) = λ links. filter (λ l. not (is_shut l)) links in
    let picked : (links : List (Link DaemonStage)) → numbers (map abridged_daemon_link links) ≡ numbers links =
    numbers-picked abridged_daemon_link daemon-forgets-links.number is_shut same in
    let links_of : DaemonNode → List (Link DaemonStage) = λ d. d.links in
    let shut : Effects → List ℕ → Effects = λ out ns. record out { shuts = ns ++ out.shuts } in
    let cut : DaemonNode → DaemonNode = λ d. record d { links = left d.links } in
    let with : DaemonNode → List (Link DaemonStage) → DaemonNode = λ d links. record d { links = links } in
    let stays : (d : DaemonNode) → abridged_daemon (cut d) ≡ cut (abridged_daemon d) =
    λ d. ap (with d) (sym (links-left abridged_daemon_link daemon-forgets-links.number is_shut same d.links)) in
    record {
      out = ap (shut o.out) (sym (picked o.state.links) ∙ ap (λ d. numbers (links_of d)) agree.state.held ∙ picked p.state.links)
          ∙ ap (λ out. shut out (numbers p.state.links)) agree.out;
      state = record {
        held = stays o.state ∙ ap cut agree.state.held ∙ sym (stays p.state);
        within = left-within (λ l. not (is_shut l)) p.state.links agree.state.within;
      };
    }

moved-agree : (n m : ℕ) (moved other : Option ℕ) → n ≡ m → moved ≡ other → (o p : Outcome DaemonNode) → DaemonsAgree o p → DaemonsAgree (moved_to n moved o) (moved_to m other p)
moved-agree n m moved other e f o p agree =
    subst (λ k. DaemonsAgree (moved_to n moved o) (moved_to k other p)) e (subst (λ (r : Option ℕ). DaemonsAgree (moved_to n moved o) (moved_to n r p)) f (by_moved moved))
  where
    by_moved : (r : Option ℕ) → DaemonsAgree (moved_to n r o) (moved_to n r p)
    by_moved None = agree
    by_moved (Some session) = shut-agree (is_older n session) (λ l. older-same session l) o p agree
      where
        older-same : (session : ℕ) (l : Link DaemonStage) → is_older n session (abridged_daemon_link l) ≡ is_older n session l
        older-same session l =
            let both : Bool → ℕ → Bool = λ inside k. inside && not (k == n) in
            ap (λ inside. both inside (abridged_daemon_link l).number) (in-same session l l.stage) ∙ ap (both (is_in session l.stage)) (daemon-forgets-links.number l)

-- ---- a turn

hosts-agree : (d : DaemonNode) (a : Arrival Daemon DaemonStage) (l : Link DaemonStage) → l.number ≡ a.link.number → AllByRecursion IsWithin d.links
    → (x y : Hosted) → AreSameHosted x y → DaemonsAgree (hosts (abridged_daemon d) (at a l) x) (hosts d a y)
hosts-agree d a l e h x y same =
    let t : Turned Daemon DaemonStage = turn_of_kind (with_mon_client d.own) AsAcceptor x.turned in
    let u : Turned Daemon DaemonStage = turn_of_kind (with_mon_client d.own) AsAcceptor y.turned in
    moved-agree l.number a.link.number x.moved y.moved e same.1 (turns (abridged_daemon d) (at a l) t) (turns d a u)
    (turns-agree abridged_daemon_link daemon-forgets-links d a l t u e h
    (turn-of-kind-alike (with_mon_client d.own) AsAcceptor abridged_link abridged_daemon_link (λ k. refl) x.turned y.turned same.0))

-- on a link in this stage
abbrev pub TurnsAgree : Handlers → DaemonNode → ℕ → List ℕ → Link DaemonStage → DaemonStage → Type 0
TurnsAgree handlers d reading draw link stage =
    let k : Link DaemonStage = record link { stage = stage } in
    let l : Link DaemonStage = abridged_daemon_link k in
    AskAlike DaemonsAgree (turned_at handlers (abridged_daemon d) (arrival (me d.own) d.own l reading draw) l.stage)
    (turned_at handlers d (arrival (me d.own) d.own k reading draw) stage)

turned-agree : (handlers : Handlers) (d : DaemonNode) (reading : ℕ) (draw : List ℕ) (link : Link DaemonStage) (stage : DaemonStage) → AllByRecursion IsWithin d.links
    → IsWithin link → TurnsAgree handlers d reading draw link stage
turned-agree handlers d reading draw link (AsAcceptor stage) h w =
    let g : Link IncomingStage = in_stage link stage in
    let k : Link DaemonStage = record link { stage = AsAcceptor stage } in
    let l : Link DaemonStage = abridged_daemon_link k in
    let a : Arrival Daemon DaemonStage = arrival (me d.own) d.own k reading draw in
    asks_map-alike AreSameHosted DaemonsAgree (hosts (abridged_daemon d) (at a l)) (hosts d a) (hosts-agree d a l (daemon-forgets-links.number k) h)
    (incoming_turned handlers (arrival (me d.own) d.own.mon_client (abridged_link g) reading draw) (abridged_link g).stage)
    (incoming_turned handlers (arrival (me d.own) d.own.mon_client g reading draw) stage)
    (incoming-turned-alike handlers (arrival (me d.own) d.own.mon_client g reading draw) stage w)
turned-agree handlers d reading draw link (AsConnector stage) h w =
    let g : Link connector.Stage = in_stage link stage in
    let k : Link DaemonStage = record link { stage = AsConnector stage } in
    let l : Link DaemonStage = abridged_daemon_link k in
    let a : Arrival Daemon DaemonStage = arrival (me d.own) d.own k reading draw in
    let b : Arrival MonClient connector.Stage = arrival (me d.own) d.own.mon_client g reading draw in
    let c : Link connector.Stage = abridged_mon_client_link g in
    let t : Turned MonClient connector.Stage = connector.turned_at (at b c) c.stage in
    let u : Turned MonClient connector.Stage = connector.turned_at b stage in
    turns-agree abridged_daemon_link daemon-forgets-links d a l (turn_of_kind (with_mon_client d.own) AsConnector t) (turn_of_kind (with_mon_client d.own) AsConnector u)
    (daemon-forgets-links.number k) h
    (turn-of-kind-alike (with_mon_client d.own) AsConnector abridged_mon_client_link abridged_daemon_link (λ x. refl) t u (turned-alike b stage w))

turn-agrees : (handlers : Handlers) (d : DaemonNode) (reading : ℕ) (draw : List ℕ) (found : Option (Link DaemonStage)) → AllByRecursion IsWithin d.links → IfSome found IsWithin
    → AskAlike DaemonsAgree (turn handlers (abridged_daemon d) reading draw (option_map abridged_daemon_link found)) (turn handlers d reading draw found)
turn-agrees handlers d reading draw None h w = idles-same d h
turn-agrees handlers d reading draw (Some link) h w = turned-agree handlers d reading draw link link.stage h w

-- ---- fetches

fetching-same : (d : DaemonNode) → is_fetching (abridged_daemon d) ≡ is_fetching d
fetching-same d =
    let dials_or : Bool → Bool = λ fetch. d.own.dials || fetch in
    ap dials_or (list_any-map (λ l. is_for_fetch l.stage) abridged_daemon_link (λ l. fetch-same l l.stage) d.links)

fetches-found : (d : DaemonNode) (reading : ℕ) (draw : List ℕ) (found : Option (Link DaemonStage × (Secured × Requests))) → AllByRecursion IsWithin d.links
    → IfSome found (λ (f : Link DaemonStage × (Secured × Requests)). IsWithin f.0)
    → DaemonsAgree (fetches_on (abridged_daemon d) reading draw (option_map (cut_found abridged_daemon_link) found)) (fetches_on d reading draw found)
fetches-found d reading draw None h w = record { out = refl; state = record { held = node-twice abridged_daemon_link daemon-forgets-links (record d { own = record d.own { dials = true } }); within = h } }
fetches-found d reading draw (Some (link, (s, requests))) h w =
    let a : Arrival MonClient DaemonStage = arrival (me d.own) d.own.mon_client link reading draw in
    let l : Link DaemonStage = abridged_daemon_link link in
    let same : SameAhead l link = same-ahead link link.stage in
    let cut_row : Row MonClient DaemonStage = asks_rotating open_to_ask (at a l) (unsigned s) requests in
    let row : Row MonClient DaemonStage = asks_rotating open_to_ask a s requests in
    let alike = request-alike abridged_daemon_link open_to_ask (λ t r k. refl) a l s requests (Rotating reading) (sealed_request s.keys requests asked.Rotating) same w in
    let after : ℕ → Type 0 = λ n.
    DaemonsAgree (carried_out (abridged_daemon d) l.number false (lifted (with_mon_client d.own) cut_row)) (carried_out d n false (lifted (with_mon_client d.own) row))
    in
    subst after same.number
    (carried-alike abridged_daemon_link daemon-forgets-links d l.number false (lifted (with_mon_client d.own) cut_row) (lifted (with_mon_client d.own) row) h
    (lifted-alike abridged_daemon_link (with_mon_client d.own) cut_row row alike))

fetches-on-agree : (d : DaemonNode) (reading : ℕ) (draw : List ℕ) → AllByRecursion IsWithin d.links
    → DaemonsAgree (fetches_on (abridged_daemon d) reading draw (first_open asking_open (map abridged_daemon_link d.links))) (fetches_on d reading draw (first_open asking_open d.links))
fetches-on-agree d reading draw h =
    subst (λ (found : Option (Link DaemonStage × (Secured × Requests))).
    DaemonsAgree (fetches_on (abridged_daemon d) reading draw found) (fetches_on d reading draw (first_open asking_open d.links)))
    (sym (first-open-cut asking_open abridged_daemon_link (λ l. kept-same l l.stage) d.links))
    (fetches-found d reading draw (first_open asking_open d.links) h (first-open-within asking_open d.links h))

fetches-agree : (d : DaemonNode) (reading : ℕ) (draw : List ℕ) → AllByRecursion IsWithin d.links → DaemonsAgree (fetches (abridged_daemon d) reading draw) (fetches d reading draw)
fetches-agree d reading draw h =
    let links : List (Link DaemonStage) = map abridged_daemon_link d.links in
    let fetches_where : Bool → Outcome DaemonNode = λ under_way.
    if under_way then idles (abridged_daemon d) else fetches_on (abridged_daemon d) reading draw (first_open asking_open links)
    in
    subst (λ (o : Outcome DaemonNode). DaemonsAgree o (fetches d reading draw)) (ap fetches_where (sym (fetching-same d))) (by_test (is_fetching d))
  where
    by_test : (under_way : Bool) → DaemonsAgree
        (if under_way then idles (abridged_daemon d) else fetches_on (abridged_daemon d) reading draw (first_open asking_open (map abridged_daemon_link d.links)))
        (if under_way then idles d else fetches_on d reading draw (first_open asking_open d.links))
    by_test true = idles-same d h
    by_test false = fetches-on-agree d reading draw h

ticks-agree : (d : DaemonNode) (reading : ℕ) (draw : List ℕ) → AllByRecursion IsWithin d.links → DaemonsAgree (ticks (abridged_daemon d) reading draw) (ticks d reading draw)
ticks-agree d reading draw h = by_test (is_outdated reading d.own.mon_client.view)
  where
    by_test : (old : Bool) → DaemonsAgree (if old then fetches (abridged_daemon d) reading draw else idles (abridged_daemon d)) (if old then fetches d reading draw else idles d)
    by_test true = fetches-agree d reading draw h
    by_test false = idles-same d h

-- ---- links that open, and that are gone

incoming-agrees : (d : DaemonNode) (a : Arrival Daemon DaemonStage) (stage : DaemonStage) (full : Bool) → AllByRecursion IsWithin d.links → IsWithin a.link
    → let row : Row Daemon DaemonStage = (if full then refuses a LinksFull [] else goes_on a stage own_banner []) in
    DaemonsAgree (carried_out (abridged_daemon d) a.link.number false row) (carried_out d a.link.number false row)
incoming-agrees d a stage true h w =
    let row : Row Daemon DaemonStage = refuses a LinksFull [] in carried-alike abridged_daemon_link daemon-forgets-links d a.link.number false row row h (record { kept = refl; within = tt })
incoming-agrees d a stage false h w =
    let row : Row Daemon DaemonStage = goes_on a stage own_banner [] in carried-alike abridged_daemon_link daemon-forgets-links d a.link.number false row row h (record { kept = refl; within = w })

opens-incoming-agree : (d : DaemonNode) (reading : ℕ) (draw : List ℕ) (n : ℕ) → AllByRecursion IsWithin d.links
    → DaemonsAgree (opens_incoming (abridged_daemon d) reading draw n) (opens_incoming d reading draw n)
opens-incoming-agree d reading draw n h =
    let stage : DaemonStage = AsAcceptor acceptor.AwaitsBanner in
    let a : Arrival Daemon DaemonStage = arrival (me d.own) d.own (new_link n stage) reading draw in
    let opened : ℕ → Outcome DaemonNode = λ live.
    carried_out (abridged_daemon d) n false (if nat_le 1024 live then refuses a LinksFull [] else goes_on a stage own_banner [])
    in
    subst (λ (o : Outcome DaemonNode). DaemonsAgree o (opens_incoming d reading draw n)) (ap opened (sym (length-map d.links abridged_daemon_link)))
    (incoming-agrees d a stage (nat_le 1024 (length d.links)) h (omega arith))

opens-own-agree : (d : DaemonNode) (reading : ℕ) (draw : List ℕ) (n : ℕ) → AllByRecursion IsWithin d.links
    → DaemonsAgree (opens_own (abridged_daemon d) reading draw n) (opens_own d reading draw n)
opens-own-agree d reading draw n h =
    let stage : DaemonStage = AsConnector (connector.AwaitsBanner 0) in
    let row : Row Daemon DaemonStage = goes_on (arrival (me d.own) d.own (new_link n stage) reading draw) stage own_banner [] in
    carried-alike abridged_daemon_link daemon-forgets-links d n false row row h (record { kept = refl; within = omega arith })

opens-agree : (d : DaemonNode) (reading : ℕ) (draw : List ℕ) (n : ℕ) (p : Option Peer) → AllByRecursion IsWithin d.links
    → DaemonsAgree (opens (abridged_daemon d) reading draw n p) (opens d reading draw n p)
opens-agree d reading draw n None h = opens-incoming-agree d reading draw n h
opens-agree d reading draw n (Some (peer.Daemon daemon)) h = idles-same d h
opens-agree d reading draw n (Some peer.Monitor) h = by_test d.own.dials
  where
    by_test : (dials : Bool) → DaemonsAgree
        (if dials then opens_own (undialled (abridged_daemon d)) reading draw n else idles (abridged_daemon d)) (if dials then opens_own (undialled d) reading draw n else idles d)
    by_test true = opens-own-agree (undialled d) reading draw n h
    by_test false = idles-same d h

unreached-agree : (d : DaemonNode) (p : Peer) → AllByRecursion IsWithin d.links → DaemonsAgree (unreached (abridged_daemon d) p) (unreached d p)
unreached-agree d peer.Monitor h = record { out = refl; state = record { held = node-twice abridged_daemon_link daemon-forgets-links (undialled d); within = h } }
unreached-agree d (peer.Daemon daemon) h = record { out = refl; state = record { held = node-twice abridged_daemon_link daemon-forgets-links d; within = h } }

lost-held : (d : DaemonNode) (n : ℕ) → abridged_daemon (forgotten (abridged_daemon d) n) ≡ abridged_daemon (forgotten d n)
lost-held d n = ap abridged_daemon (gone-held abridged_daemon_link daemon-forgets-links d n) ∙ node-twice abridged_daemon_link daemon-forgets-links (forgotten d n)

forgotten-agree : (d : DaemonNode) (n : ℕ) → AllByRecursion IsWithin d.links → DaemonsAgree (idles (forgotten (abridged_daemon d) n)) (idles (forgotten d n))
forgotten-agree d n h = record { out = refl; state = record { held = lost-held d n; within = without-within n d.links h } }

lossy-agree : (d : DaemonNode) (n session : ℕ) (r : BookReply) → AllByRecursion IsWithin d.links
    → AskAlike DaemonsAgree (lossy_gone (abridged_daemon d) n session r) (lossy_gone d n session r)
lossy-agree d n session (Ended true) h = record { out = refl; state = record { held = lost-held d n; within = without-within n d.links h } }
lossy-agree d n session (Ended false) h = forgotten-agree d n h
lossy-agree d n session _ h = idles-same d h

served-gone-agree : (d : DaemonNode) (n : ℕ) (s : Secured) (served : Served) (lossy : Bool) → AllByRecursion IsWithin d.links
    → AskAlike DaemonsAgree
    (if lossy then Asking (End served.number) (lossy_gone (abridged_daemon d) n served.number) else Finished (idles (forgotten (abridged_daemon d) n)))
    (if lossy then Asking (End served.number) (lossy_gone d n served.number) else Finished (idles (forgotten d n)))
served-gone-agree d n s served true h = (refl, λ r. lossy-agree d n served.number r h)
served-gone-agree d n s served false h = forgotten-agree d n h

loses-agree : (d : DaemonNode) (n : ℕ) (stage : connector.Stage) → AllByRecursion IsWithin d.links → DaemonsAgree (loses (abridged_daemon d) n stage) (loses d n stage)
loses-agree d n stage h = record { out = refl; state = record { held = lost-held d n; within = without-within n d.links h } }

-- of a link in this stage
gone-in : (d : DaemonNode) (n : ℕ) (l : Link DaemonStage) (stage : DaemonStage) → AllByRecursion IsWithin d.links
    → AskAlike DaemonsAgree (gone_by_kind (abridged_daemon d) n (abridged_daemon_at l stage).stage) (gone_by_kind d n stage)
gone-in d n l (AsAcceptor acceptor.AwaitsBanner) h = forgotten-agree d n h
gone-in d n l (AsAcceptor acceptor.AwaitsHello) h = forgotten-agree d n h
gone-in d n l (AsAcceptor acceptor.AwaitsRequest) h = forgotten-agree d n h
gone-in d n l (AsAcceptor (acceptor.AwaitsProof awaited)) h = forgotten-agree d n h
gone-in d n l (AsAcceptor (acceptor.AwaitsSignature s owner)) h = forgotten-agree d n h
gone-in d n l (AsAcceptor (acceptor.AwaitsIdent s owner)) h = forgotten-agree d n h
gone-in d n l (AsAcceptor (acceptor.Open s served)) h = served-gone-agree d n s served served.lossy h
gone-in d n l (AsConnector (connector.AwaitsBanner services)) h = loses-agree d n (connector.AwaitsBanner services) h
gone-in d n l (AsConnector (connector.AwaitsHello services)) h = loses-agree d n (connector.AwaitsHello services) h
gone-in d n l (AsConnector (connector.AwaitsChallenge services)) h = loses-agree d n (connector.AwaitsChallenge services) h
gone-in d n l (AsConnector connector.AwaitsDone) h = loses-agree d n connector.AwaitsDone h
gone-in d n l (AsConnector (connector.AwaitsSignature s login)) h = loses-agree d n (connector.AwaitsSignature s login) h
gone-in d n l (AsConnector (connector.AwaitsIdent s session)) h = loses-agree d n (connector.AwaitsIdent s session) h
gone-in d n l (AsConnector (connector.Open s requests)) h = loses-agree d n (connector.Open s requests) h

gone-agree : (d : DaemonNode) (found : Option (Link DaemonStage)) → AllByRecursion IsWithin d.links
    → AskAlike DaemonsAgree (gone (abridged_daemon d) (option_map abridged_daemon_link found)) (gone d found)
gone-agree d None h = idles-same d h
gone-agree d (Some l) h =
    subst (λ n. AskAlike DaemonsAgree (gone_by_kind (abridged_daemon d) n (abridged_daemon_link l).stage) (gone_by_kind d l.number l.stage)) (sym (daemon-forgets-links.number l))
    (gone-in d l.number l l.stage h)

-- ---- commands

dropped-agree : (d : DaemonNode) (session : ℕ) (r : BookReply) → AllByRecursion IsWithin d.links
    → AskAlike DaemonsAgree (on_dropped (abridged_daemon d) session r) (on_dropped d session r)
dropped-agree d session (Ended true) h =
    shut-agree (λ l. is_in session l.stage) (λ l. in-same session l l.stage) (record { state = abridged_daemon d; out = record nothing { entries = ended_entry d session ∷ [] } })
    (record { state = d; out = record nothing { entries = ended_entry d session ∷ [] } })
    (record { out = refl; state = record { held = node-twice abridged_daemon_link daemon-forgets-links d; within = h } })
dropped-agree d session _ h = idles-same d h

submits-agree : (d : DaemonNode) (reading : ℕ) (draw : List ℕ) (command : Command) → AllByRecursion IsWithin d.links
    → AskAlike DaemonsAgree (submits (abridged_daemon d) reading draw command) (submits d reading draw command)
submits-agree d reading draw command.Fetch h = fetches-agree d reading draw h
submits-agree d reading draw (command.Drop session) h = (refl, λ r. dropped-agree d session r h)
submits-agree d reading draw (command.Login services) h = idles-same d h
submits-agree d reading draw (command.Renew services) h = idles-same d h
submits-agree d reading draw (command.Connect daemon lossy) h = idles-same d h
submits-agree d reading draw (command.Send daemon operation) h = idles-same d h

-- ---- events

daemon-agrees : (handlers : Handlers) (d : DaemonNode) (input : Input) (reading : ℕ) (draw : List ℕ) → AllByRecursion IsWithin d.links
    → AskAlike DaemonsAgree (daemon_rule handlers (abridged_daemon d) input reading draw) (daemon_rule handlers d input reading draw)
daemon-agrees handlers d (Opened n p) reading draw h = opens-agree d reading draw n p h
daemon-agrees handlers d (NoLink p) reading draw h = unreached-agree d p h
daemon-agrees handlers d (Bytes n bytes) reading draw h =
    let fed-at = fed-agree abridged_daemon_link daemon-forgets-links d bytes (link_of n d.links) h (found-within n d.links h) in
    rw (link_of_map abridged_daemon_link daemon-forgets-links.number n d.links) fed-at
daemon-agrees handlers d (Turn n) reading draw h =
    subst (λ (found : Option (Link DaemonStage)). AskAlike DaemonsAgree (turn handlers (abridged_daemon d) reading draw found) (turn handlers d reading draw (link_of n d.links)))
    (sym (link_of_map abridged_daemon_link daemon-forgets-links.number n d.links))
    (turn-agrees handlers d reading draw (link_of n d.links) h (found-within n d.links h))
daemon-agrees handlers d (Gone n) reading draw h =
    subst (λ (found : Option (Link DaemonStage)). AskAlike DaemonsAgree (gone (abridged_daemon d) found) (gone d (link_of n d.links)))
    (sym (link_of_map abridged_daemon_link daemon-forgets-links.number n d.links))
    (gone-agree d (link_of n d.links) h)
daemon-agrees handlers d (Submit command) reading draw h = submits-agree d reading draw command h
daemon-agrees handlers d Tick reading draw h = ticks-agree d reading draw h
daemon-agrees handlers d (Look view) reading draw h =
    idles-same (record d { own = record d.own { mon_client = record d.own.mon_client { view = view } } }) h
daemon-agrees handlers d Restart reading draw h = record { out = refl; state = record { held = refl; within = tt } }

as-same : (o p : Outcome DaemonNode) → DaemonsAgree o p → AreSameDaemon o p
as-same o p agree = (agree.out, agree.state)

-- what a daemon does from what it holds is what it does from all that the rules hold, by the same replies to the same calls
pub daemon-forgets : (handlers : Handlers) (m s : DaemonNode) (input : Input) (reading : ℕ) (draw : List ℕ) → DaemonNodeStandsFor m s
    → AskAlike AreSameDaemon (daemon_rule handlers m input reading draw) (daemon_rule handlers s input reading draw)
daemon-forgets handlers m s input reading draw stands =
    related-alike DaemonsAgree AreSameDaemon as-same (daemon_rule handlers m input reading draw) (daemon_rule handlers s input reading draw)
    (subst (λ (n : DaemonNode). AskAlike DaemonsAgree (daemon_rule handlers n input reading draw) (daemon_rule handlers s input reading draw)) (sym stands.held)
    (daemon-agrees handlers s input reading draw stands.within))

pub daemon-told : (handlers : Handlers) (m s : DaemonNode) (input : Input) (reading : ℕ) (draw : List ℕ) (replies : List BookReply) → DaemonNodeStandsFor m s
    → AskAlike AreSameDaemon (daemon_told handlers m input reading draw replies) (daemon_told handlers s input reading draw replies)
daemon-told handlers m s input reading draw replies stands =
    answered-alike AreSameDaemon (daemon_rule handlers m input reading draw) (daemon_rule handlers s input reading draw) (daemon-forgets handlers m s input reading draw stands) replies

-- with its book
pub daemon-steps : (handlers : Handlers) (m s : DaemonState) (input : Input) (reading : ℕ) (draw : List ℕ) → DaemonStandsFor m s
    → ((daemon_step handlers m input reading draw).out ≡ (daemon_step handlers s input reading draw).out)
    × DaemonStandsFor (abridged_state (daemon_step handlers m input reading draw).state) (daemon_step handlers s input reading draw).state
daemon-steps handlers m s input reading draw stands =
    let same = with_book-alike book_reply book_after AreSameDaemon m.book (daemon_rule handlers m.node input reading draw) (daemon_rule handlers s.node input reading draw)
    (daemon-forgets handlers m.node s.node input reading draw stands.node)
    in
    let both : ((daemon_step handlers m input reading draw).out ≡ (daemon_step handlers (record s { book = m.book }) input reading draw).out)
    × DaemonStandsFor (abridged_state (daemon_step handlers m input reading draw).state) (daemon_step handlers (record s { book = m.book }) input reading draw).state =
    (same.0.0, record { node = same.0.1; book = ap (book_behind input) same.1 })
    in
    subst (λ (book : Book Authority).
    ((daemon_step handlers m input reading draw).out ≡ (daemon_step handlers (record s { book = book }) input reading draw).out)
    × DaemonStandsFor (abridged_state (daemon_step handlers m input reading draw).state) (daemon_step handlers (record s { book = book }) input reading draw).state)
    stands.book both

pub daemon-idle : (m s : DaemonNode) → DaemonNodeStandsFor m s → is_idle m ≡ is_idle s
daemon-idle m s stands = ap is_idle stands.held ∙ ap not (fetching-same s)

pub daemon-lost : (m s : DaemonNode) (n : ℕ) → DaemonNodeStandsFor m s → DaemonNodeStandsFor (forgotten m n) (forgotten s n)
daemon-lost m s n stands = gone-stands abridged_daemon_link daemon-forgets-links m s n stands

pub daemon-undialled : (m s : DaemonNode) → DaemonNodeStandsFor m s → DaemonNodeStandsFor (undialled m) (undialled s)
daemon-undialled m s stands = record { held = ap undialled stands.held; within = stands.within }

pub daemon-opening : (mon_client : MonClient) → DaemonNodeStandsFor (opening_daemon mon_client) (opening_daemon mon_client)
daemon-opening mon_client = record { held = refl; within = tt }

pub daemon-twice : (d : DaemonNode) → abridged_daemon (abridged_daemon d) ≡ abridged_daemon d
daemon-twice d = node-twice abridged_daemon_link daemon-forgets-links d
