-- What the monitor may forget of its links makes no difference to what it does.
use Rattle.std.proofs.Common.{◌≡◌, ℕ, ◌==◌, Bool, true, false, List, [], ◌++◌, length, Option, Some, None, Result, Ok, Err, refl, sym, ap, subst, ◌∙◌, arith}
use Rattle.std.specs.Prelude.{IfSome, nat_le, if◌then◌else◌}
use Rattle.std.specs.List.{AllByRecursion}
use Rattle.std.specs.Option.{option_map}
use Rattle.std.proofs.lemmas.List.{length-map}
use Rattle.cx_base.specs.declared.addresses.Addr.{Addr}
use Rattle.cx_base.specs.declared.kinds.EntityType.TheVariants.{Mon}
use Rattle.cx_login.specs.cx_control.specs.Auth.{auth_request_layout, auth_request_more_layout, auth_signature_layout}
use Rattle.cx_login.specs.cx_control.specs.Hello.{hello_layout}
use Rattle.cx_login.specs.cx_control.specs.Idents.{client_ident_layout}
use Rattle.cx_login.specs.cx_control.specs.Reconnects.{session_reconnect_layout}
use Rattle.cx_login.specs.cx_control.specs.declared.idents.ClientIdent.{ClientIdent}
use Rattle.cx_login.specs.cx_control.specs.declared.reconnects.SessionReconnect.{SessionReconnect}
use Rattle.cx_stream.specs.cx_frame.specs.declared.frame.Frame.{Frame}
use Rattle.cx_login.specs.cx_journal.specs.declared.faults.BytesFault.{BytesFault}
use Rattle.cx_login.specs.cx_journal.specs.declared.faults.BytesFault.TheVariants.{Unexpected}
use Rattle.cx_base.specs.declared.nodes.NodeName.TheVariants as node
use Rattle.cx_login.specs.cx_journal.specs.declared.outcomes.Reason.{Reason}
use Rattle.cx_login.specs.cx_journal.specs.declared.outcomes.Reason.TheVariants as reason
use Rattle.cx_keyserver.specs.Servers.{Server}
use Rattle.cx_rules.specs.Abridged.{IsWithin, MonitorStandsFor, abridged_link, abridged_monitor, unsigned}
use Rattle.cx_rules.specs.Acceptor.{AwaitsBanner, AwaitsHello, AwaitsRequest, AwaitsProof, AwaitsSignature, AwaitsIdent, Open, misses, on_auth_request, on_banner, on_hello, on_signature, server_ident}
use Rattle.cx_rules.specs.Greetings.{own_banner}
use Rattle.cx_rules.specs.Inputs.{Input, Opened, NoLink, Bytes, Turn, Gone, Look, Tick, Submit, Restart}
use Rattle.cx_rules.specs.Links.{Link, link_of}
use Rattle.cx_rules.specs.Monitor.{MonitorArrival, MonitorNode, MonitorRow, MonitorStage}
use Rattle.cx_rules.specs.MonitorRule.{monitor_rule, noted, on_auth_request_more, on_client_ident, on_ident, on_request_payload, on_session_reconnect, opening_monitor, session_reset, turn, turned_at, unsaved}
use Rattle.cx_rules.specs.KeptStates.{saved_behind}
use Rattle.cx_rules.specs.MonitorRequests.{heard, on_demand, on_message, on_open, reply_message, request_occasion, responds, sends_reply, serving}
use Rattle.cx_rules.specs.Payloads.{due, payload}
use Rattle.cx_rules.specs.Replies.{Responded, answers}
use Rattle.cx_rules.specs.Rows.{Outcome, arrival, at, carried_out, forgotten, goes_on, new_link, refuses, refuses_bytes, sends_secure}
use Rattle.cx_rules.specs.Secured.{Keys, SealedFrame, Secured, secure_frame, under}
use Rattle.cx_rules.specs.declared.responses.Bearer.{Bearer}
use Rattle.cx_rules.specs.declared.responses.Demand.{Demand}
use Rattle.cx_rules.specs.declared.responses.ReplyMade.{ReplyMade}
use Rattle.cx_rules.specs.declared.responses.Response.{Response}
use Rattle.cx_rules.specs.declared.responses.Response.TheVariants.{Refuses, Replies}
use Rattle.cx_rules.proofs.Abridging.{Agree, Alike, carried-alike, fed-agree, found-within, gone-held, gone-stands, idles-agree, node-twice, without-within}
use Rattle.cx_rules.proofs.AcceptorForgets.{acceptor-forgets, acceptor_link_of, misses-alike, signature-alike}
use Rattle.cx_rules.proofs.AlikeRows.{RowWithin, SameAhead, SameTurn, banner-turn, goes-alike, plain-turn, refuses-alike, same-turn, secure-alike, secure-turn, turns-agree, upkeep-alike}
use Rattle.cx_rules.proofs.MonitorWalk.{MonitorWays, banner-row, hello-row, more-row, request-row}

-- ---- rows with plain frames: their links are whole

abbrev Within : MonitorArrival → MonitorRow → Type 0
Within a row = IsWithin a.link → RowWithin row

within-ways : MonitorWays Within
within-ways = record {
  refused = λ a why seals fine w. tt;
  denied = λ a code why seals w. tt;
  missed = λ a features sealed w. tt;
  gone_on = λ a stage bytes seals w. w;
  granted = λ a h done handed w. w;
  replied = λ a s bearer seq made sent handed w. w;
  served = λ a server row h w. h w;
  behind = λ a opened row h w. h w;
}

-- ---- CLIENT_IDENT, SESSION_RECONNECT

client_ident-alike : (a : MonitorArrival) (l : Link MonitorStage) (s : Secured) (bearer : Bearer) (ident : Result ClientIdent BytesFault) → SameAhead l a.link → IsWithin a.link
    → Alike abridged_link (on_client_ident (at a l) (unsigned s) bearer ident) (on_client_ident a s bearer ident)
client_ident-alike a l s bearer (Err why) e w = refuses-alike abridged_link a l (reason.Bytes why) [] e.number
client_ident-alike a l s bearer (Ok ident) e w = by_test (ident.required == 0)
  where
    by_test : (plain : Bool) → Alike abridged_link
        (if plain then sends_secure (at a l) (unsigned s) (λ behind. Open behind bearer) [] (server_ident a.own.address 1 0) else misses (at a l) (unsigned s) ident.required)
        (if plain then sends_secure a s (λ behind. Open behind bearer) [] (server_ident a.own.address 1 0) else misses a s ident.required)
    by_test true =
        secure-alike abridged_link a l (unsigned s) s (λ behind. Open behind bearer) [] (secure_frame s.keys (server_ident a.own.address 1 0)) e w (λ x k. refl)
    by_test false = misses-alike a l s ident.required e

reconnect-alike : (a : MonitorArrival) (l : Link MonitorStage) (s : Secured) (bearer : Bearer) (reconnect : Result SessionReconnect BytesFault) → SameAhead l a.link → IsWithin a.link
    → Alike abridged_link (on_session_reconnect (at a l) (unsigned s) bearer reconnect) (on_session_reconnect a s bearer reconnect)
reconnect-alike a l s bearer (Err why) e w = refuses-alike abridged_link a l (reason.Bytes why) [] e.number
reconnect-alike a l s bearer (Ok reconnect) e w =
    secure-alike abridged_link a l (unsigned s) s (λ behind. AwaitsIdent behind bearer) [] (secure_frame s.keys session_reset) e w (λ x k. refl)

ident-alike : (a : MonitorArrival) (l : Link MonitorStage) (s : Secured) (bearer : Bearer) (f : Frame) → SameAhead l a.link → IsWithin a.link
    → Alike abridged_link (on_ident (at a l) (unsigned s) bearer f) (on_ident a s bearer f)
ident-alike a l s bearer f e w = by_tests (f.tag == 8) (f.tag == 11)
  where
    by_tests : (client reconnect : Bool) → Alike abridged_link
        (if client then on_client_ident (at a l) (unsigned s) bearer (payload client_ident_layout.form f)
        else if reconnect then on_session_reconnect (at a l) (unsigned s) bearer (payload session_reconnect_layout.form f) else refuses_bytes (at a l) (Unexpected f.tag) [])
        (if client then on_client_ident a s bearer (payload client_ident_layout.form f)
        else if reconnect then on_session_reconnect a s bearer (payload session_reconnect_layout.form f) else refuses_bytes a (Unexpected f.tag) [])
    by_tests true reconnect = client_ident-alike a l s bearer (payload client_ident_layout.form f) e w
    by_tests false true = reconnect-alike a l s bearer (payload session_reconnect_layout.form f) e w
    by_tests false false = refuses-alike abridged_link a l (reason.Bytes (Unexpected f.tag)) [] e.number

-- ---- requests

reply-alike : (a : MonitorArrival) (l : Link MonitorStage) (s : Secured) (bearer : Bearer) (seq : ℕ) (made : ReplyMade) (sealing : Result SealedFrame BytesFault)
    → SameAhead l a.link → IsWithin a.link
    → Alike abridged_link (sends_reply Open (at a l) (unsigned s) bearer seq made sealing) (sends_reply Open a s bearer seq made sealing)
reply-alike a l s bearer seq made (Err why) e w = refuses-alike abridged_link a l (reason.Bytes why) made.seals e.number
reply-alike a l s bearer seq made (Ok sent) e w =
    let saved : MonitorRow → MonitorRow = λ row. record row {
      own = record a.own { saved = saved_behind a.own.saved made.save };
      sends = sent.bytes;
      save = made.save;
      entries = made.entries;
      seals = made.seals ++ (made.sealed ++ sent.seals);
    } in
    let t : Secured = under s sent.keys in
    let next : Bearer = record bearer { last = seq } in
    let same = goes-alike abridged_link a l (Open (unsigned t) next) (Open t next) (Open (unsigned t) next) [] [] e w (λ k. refl) (λ k. refl) in
    record { kept = ap saved same.kept; within = same.within }

responds-alike : (a : MonitorArrival) (l : Link MonitorStage) (s : Secured) (bearer : Bearer) (demand : Demand) (r : Response) → SameAhead l a.link → IsWithin a.link
    → Alike abridged_link (responds Open (at a l) (unsigned s) bearer demand r) (responds Open a s bearer demand r)
responds-alike a l s bearer demand (Refuses why drawn) e w = refuses-alike abridged_link a l why drawn e.number
responds-alike a l s bearer demand (Replies made) e w =
    reply-alike a l s bearer demand.seq made (secure_frame s.keys (reply_message demand.tid made.body)) e w

demand-alike : (a : MonitorArrival) (l : Link MonitorStage) (s : Secured) (bearer : Bearer) (h : Result Demand Reason) → SameAhead l a.link → IsWithin a.link
    → Alike abridged_link (on_demand Open (at a l) (unsigned s) bearer h) (on_demand Open a s bearer h)
demand-alike a l s bearer (Err why) e w = refuses-alike abridged_link a l why [] e.number
demand-alike a l s bearer (Ok demand) e w =
    let r : Responded = answers (request_occasion a) a.own.server bearer demand.request in
    responds-alike (serving a r.server) l s bearer demand r.response e w

open-alike : (a : MonitorArrival) (l : Link MonitorStage) (s : Secured) (bearer : Bearer) (f : Frame) → SameAhead l a.link → IsWithin a.link
    → Alike abridged_link (on_open Open (at a l) (unsigned s) bearer f) (on_open Open a s bearer f)
open-alike a l s bearer f e w =
    upkeep-alike abridged_link (on_message Open (at a l) (unsigned s) bearer) (on_message Open a s bearer) a l s (λ behind. Open behind bearer) f e w (λ x k. refl)
    (demand-alike a l s bearer (heard bearer f) e w)

-- ---- a turn

-- of a link in this stage
abbrev pub TurnsAlike : MonitorArrival → MonitorStage → Type 0
TurnsAlike a stage =
    let k : Link MonitorStage = record a.link { stage = stage } in
    let l : Link MonitorStage = abridged_link k in
    SameTurn abridged_link (turned_at (at a l) l.stage) (turned_at (at a k) stage)

turned-alike : (a : MonitorArrival) (stage : MonitorStage) → IsWithin a.link → TurnsAlike a stage
turned-alike a AwaitsBanner w =
    let k : Link MonitorStage = record a.link { stage = AwaitsBanner } in
    same-turn abridged_link (turned_at (at a k) AwaitsBanner)
    (banner-turn (at a k) (on_banner Mon) w (λ l. banner-row Within within-ways (at a l)))
turned-alike a AwaitsHello w =
    let k : Link MonitorStage = record a.link { stage = AwaitsHello } in
    same-turn abridged_link (turned_at (at a k) AwaitsHello)
    (plain-turn (at a k) (λ b f. on_hello b (due 1 hello_layout.form f)) w (λ l f. hello-row Within within-ways (at a l) (due 1 hello_layout.form f)))
turned-alike a AwaitsRequest w =
    let k : Link MonitorStage = record a.link { stage = AwaitsRequest } in
    same-turn abridged_link (turned_at (at a k) AwaitsRequest)
    (plain-turn (at a k) (λ b f. on_auth_request on_request_payload b (due 2 auth_request_layout.form f)) w
    (λ l f. request-row Within within-ways (at a l) (due 2 auth_request_layout.form f)))
turned-alike a (AwaitsProof offered) w =
    let k : Link MonitorStage = record a.link { stage = AwaitsProof offered } in
    same-turn abridged_link (turned_at (at a k) (AwaitsProof offered))
    (plain-turn (at a k) (λ b f. on_auth_request_more b offered (due 5 auth_request_more_layout.form f)) w
    (λ l f. more-row Within within-ways (at a l) offered (due 5 auth_request_more_layout.form f)))
turned-alike a (AwaitsSignature s bearer) w =
    let k : Link MonitorStage = record a.link { stage = AwaitsSignature s bearer } in
    let row : MonitorArrival → Keys → Frame → MonitorRow = λ b keys f. on_signature b (under s keys) bearer (due 7 auth_signature_layout.form f) in
    secure-turn abridged_link (at a k) (AwaitsSignature s bearer) s.keys row row w
    (λ l n keys f e v. signature-alike (at a n) l (under s keys) bearer (due 7 auth_signature_layout.form f) e v)
turned-alike a (AwaitsIdent s bearer) w =
    let k : Link MonitorStage = record a.link { stage = AwaitsIdent s bearer } in
    let row : Secured → MonitorArrival → Keys → Frame → MonitorRow = λ t b keys f. on_ident b (under t keys) bearer f in
    secure-turn abridged_link (at a k) (AwaitsIdent (unsigned s) bearer) s.keys (row (unsigned s)) (row s) w
    (λ l n keys f e v. ident-alike (at a n) l (under s keys) bearer f e v)
turned-alike a (Open s bearer) w =
    let k : Link MonitorStage = record a.link { stage = Open s bearer } in
    let row : Secured → MonitorArrival → Keys → Frame → MonitorRow = λ t b keys f. on_open Open b (under t keys) bearer f in
    secure-turn abridged_link (at a k) (Open (unsigned s) bearer) s.keys (row (unsigned s)) (row s) w
    (λ l n keys f e v. open-alike (at a n) l (under s keys) bearer f e v)

-- ---- events

-- two outcomes of the monitor of which it keeps the same
abbrev pub MonitorsAgree : Outcome MonitorNode → Outcome MonitorNode → Type 0
MonitorsAgree o p = Agree abridged_link o p

turn-agrees : (s : MonitorNode) (reading : ℕ) (draw : List ℕ) (found : Option (Link MonitorStage)) → AllByRecursion IsWithin s.links → IfSome found IsWithin
    → MonitorsAgree (turn (abridged_monitor s) reading draw (option_map abridged_link found)) (turn s reading draw found)
turn-agrees s reading draw None h w = idles-agree abridged_link acceptor-forgets s h
turn-agrees s reading draw (Some link) h w =
    let a : MonitorArrival = arrival node.Monitor s.own link reading draw in
    let l : Link MonitorStage = abridged_link link in
    turns-agree abridged_link acceptor-forgets s a l (turned_at (at a l) l.stage) (turned_at a link.stage) (acceptor-forgets.number link) h (turned-alike a link.stage w)

opens-agree : (s : MonitorNode) (a : MonitorArrival) (full : Bool) → AllByRecursion IsWithin s.links → IsWithin a.link
    → let row : MonitorRow = (if full then refuses a reason.LinksFull [] else goes_on a AwaitsBanner own_banner []) in
    MonitorsAgree (carried_out (abridged_monitor s) a.link.number false row) (carried_out s a.link.number false row)
opens-agree s a true h w =
    let row : MonitorRow = refuses a reason.LinksFull [] in carried-alike abridged_link acceptor-forgets s a.link.number false row row h (record { kept = refl; within = tt })
opens-agree s a false h w =
    let row : MonitorRow = goes_on a AwaitsBanner own_banner [] in carried-alike abridged_link acceptor-forgets s a.link.number false row row h (record { kept = refl; within = w })

monitor-agrees : (s : MonitorNode) (input : Input) (reading : ℕ) (draw : List ℕ) → AllByRecursion IsWithin s.links
    → MonitorsAgree (monitor_rule (abridged_monitor s) input reading draw) (monitor_rule s input reading draw)
monitor-agrees s (Opened n p) reading draw h =
    let link : Link MonitorStage = new_link n AwaitsBanner in
    let a : MonitorArrival = arrival node.Monitor (noted s).own link reading draw in
    let opened : ℕ → Outcome MonitorNode = λ live.
    carried_out (noted (abridged_monitor s)) n false (if nat_le 1024 live then refuses a reason.LinksFull [] else goes_on a AwaitsBanner own_banner [])
    in
    subst (λ (o : Outcome MonitorNode). MonitorsAgree o (monitor_rule s (Opened n p) reading draw)) (ap opened (sym (length-map s.links abridged_link)))
    (opens-agree (noted s) a (nat_le 1024 (length s.links)) h (omega arith))
monitor-agrees s (NoLink p) reading draw h = record { out = refl; state = record { held = node-twice abridged_link acceptor-forgets (noted s); within = h } }
monitor-agrees s (Bytes n bytes) reading draw h =
    let fed-at = fed-agree abridged_link acceptor-forgets (noted s) bytes (link_of n s.links) h (found-within n s.links h) in
    rw (acceptor_link_of n s.links) fed-at
monitor-agrees s (Turn n) reading draw h =
    subst (λ (found : Option (Link MonitorStage)). MonitorsAgree (turn (noted (abridged_monitor s)) reading draw found) (turn (noted s) reading draw (link_of n s.links)))
    (sym (acceptor_link_of n s.links))
    (turn-agrees (noted s) reading draw (link_of n s.links) h (found-within n s.links h))
monitor-agrees s (Gone n) reading draw h =
    let t : MonitorNode = noted s in
    record {
      out = refl;
      state = record { held = ap abridged_monitor (gone-held abridged_link acceptor-forgets t n) ∙ node-twice abridged_link acceptor-forgets (forgotten t n); within = without-within n s.links h };
    }
monitor-agrees s (Look view) reading draw h = idles-agree abridged_link acceptor-forgets (noted s) h
monitor-agrees s Tick reading draw h = idles-agree abridged_link acceptor-forgets (noted s) h
monitor-agrees s (Submit command) reading draw h = idles-agree abridged_link acceptor-forgets (noted s) h
monitor-agrees s Restart reading draw h = record { out = refl; state = record { held = refl; within = tt } }

-- what the monitor does from what it holds is what it does from all that the rules hold
pub monitor-forgets : (m s : MonitorNode) (input : Input) (reading : ℕ) (draw : List ℕ) → MonitorStandsFor m s
    → ((monitor_rule m input reading draw).out ≡ (monitor_rule s input reading draw).out)
    × MonitorStandsFor (abridged_monitor (monitor_rule m input reading draw).state) (monitor_rule s input reading draw).state
monitor-forgets m s input reading draw stands =
    let both : MonitorsAgree (monitor_rule m input reading draw) (monitor_rule s input reading draw) =
    subst (λ (n : MonitorNode). MonitorsAgree (monitor_rule n input reading draw) (monitor_rule s input reading draw)) (sym stands.held) (monitor-agrees s input reading draw stands.within)
    in
    (both.out, both.state)

pub monitor-unsaved : (m s : MonitorNode) → MonitorStandsFor m s → MonitorStandsFor (unsaved m) (unsaved s)
monitor-unsaved m s stands = record { held = ap unsaved stands.held; within = stands.within }

pub monitor-lost : (m s : MonitorNode) (n : ℕ) → MonitorStandsFor m s → MonitorStandsFor (forgotten (noted m) n) (forgotten (noted s) n)
monitor-lost m s n stands = gone-stands abridged_link acceptor-forgets (noted m) (noted s) n (record { held = ap noted stands.held; within = stands.within })

pub monitor-opening : (server : Server) (address : Addr) → MonitorStandsFor (opening_monitor server address) (opening_monitor server address)
monitor-opening server address = record { held = refl; within = tt }

pub monitor-twice : (s : MonitorNode) → abridged_monitor (abridged_monitor s) ≡ abridged_monitor s
monitor-twice s = node-twice abridged_link acceptor-forgets s
