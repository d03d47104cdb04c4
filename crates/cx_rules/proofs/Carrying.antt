-- A row by which a link goes on carries it on; and so the monitor does over the banner, HELLO, the peer's signature and CLIENT_IDENT.
use Rattle.std.proofs.Common.{◌≡◌, ℕ, ◌==◌, ◌+◌, ◌≤◌, Bool, true, false, List, [], ◌∷◌, ◌++◌, length, Option, Some, None, Result, Ok, Err, refl, sym, ap, subst, ◌∙◌, arith, length-append}
use Rattle.std.specs.Prelude.{if◌then◌else◌, ◌-◌, ◌^◌, ◌<◌, nat_le}
use Rattle.std.specs.Int.{w16, w64}
use Rattle.std.proofs.lemmas.Bool.{eq-eqb, lt-leb}
use Rattle.std.proofs.lemmas.List.Sums.{sum_by-cons}
use Rattle.cx_base.specs.declared.addresses.Addr.{Addr}
use Rattle.cx_base.specs.declared.kinds.EntityType.TheVariants.{Mon}
use Rattle.cx_base.specs.declared.nodes.NodeName.TheVariants as node
use Rattle.cx_login.specs.cx_control.specs.Auth.{auth_signature_layout}
use Rattle.cx_login.specs.cx_control.specs.Hello.{hello_layout}
use Rattle.cx_login.specs.cx_control.specs.Idents.{client_ident_layout, server_ident_layout}
use Rattle.cx_login.specs.cx_control.specs.Reconnects.{session_reconnect_layout}
use Rattle.cx_login.specs.cx_control.specs.declared.auth.AuthSignature.{AuthSignature}
use Rattle.cx_login.specs.cx_control.specs.declared.hello.Hello.{Hello}
use Rattle.cx_login.specs.cx_control.specs.declared.idents.ClientIdent.{ClientIdent}
use Rattle.cx_login.specs.cx_control.specs.declared.idents.ServerIdent.{ServerIdent}
use Rattle.cx_login.specs.cx_enc.specs.Forms.{Form, little}
use Rattle.cx_login.specs.cx_enc.specs.Values.{addr_form}
use Rattle.cx_login.specs.cx_journal.specs.declared.entries.Entry.{Entry}
use Rattle.cx_login.specs.cx_journal.specs.declared.faults.BytesFault.{BytesFault}
use Rattle.cx_login.specs.cx_journal.specs.declared.faults.BytesFault.TheVariants as fault
use Rattle.cx_login.specs.cx_journal.specs.declared.faults.LoginFault.TheVariants.{SignatureWrong}
use Rattle.cx_login.specs.cx_journal.specs.declared.outcomes.Reason.TheVariants as reason
use Rattle.cx_login.specs.cx_steps.specs.declared.seals.SealEntry.{SealEntry}
use Rattle.cx_stream.specs.cx_frame.specs.Frames.{frame_text, total}
use Rattle.cx_stream.specs.cx_frame.specs.Preambles.{length_of}
use Rattle.cx_stream.specs.cx_frame.specs.declared.frame.Frame.{Frame}
use Rattle.cx_rules.specs.Acceptor.{AwaitsBanner, AwaitsHello, AwaitsRequest, AwaitsSignature, AwaitsIdent, Open, misses, on_banner, on_hello, on_signature, server_ident}
use Rattle.cx_rules.specs.Answering.{HearsBanner, HearsGreeting, HearsIdent, HearsSignature, OpensLink}
use Rattle.cx_rules.specs.Carrying.{CarriesOn}
use Rattle.cx_rules.specs.Fronts.{Front, Next, banner_next, plain_next, secure_next}
use Rattle.cx_rules.specs.Connector.{client_ident}
use Rattle.cx_rules.specs.Greetings.{no_addr, own_banner, own_hello}
use Rattle.cx_rules.specs.Holdings.{MonClient}
use Rattle.cx_rules.specs.Messages.{message}
use Rattle.cx_login.specs.cx_wire.specs.Headers.{header_layout, written_header}
use Rattle.cx_login.specs.cx_wire.specs.declared.headers.Header.{Header}
use Rattle.cx_stream.specs.cx_frame.specs.declared.frame.Segment.{Segment}
use Rattle.cx_rules.specs.Inputs.{Opened, Turn}
use Rattle.cx_rules.specs.Links.{Link, link_of, put_link}
use Rattle.cx_rules.specs.Monitor.{Monitor, MonitorArrival, MonitorNode, MonitorRow, MonitorStage}
use Rattle.cx_rules.specs.MonitorRule.{monitor_rule, noted, on_client_ident, on_ident, on_session_reconnect, turned_at}
use Rattle.cx_rules.specs.Payloads.{control, due, payload}
use Rattle.cx_rules.specs.Rows.{Handles, Node, Outcome, Row, arrival, at, carried_out, goes_on, links_behind, new_link, piece, plain_sent, refuses, refuses_bytes, secure_sent, shuts, turned_by, with_opened}
use Rattle.cx_rules.specs.Secured.{Keys, SealedFrame, Secured, is_signed, secure_frame, sealed_under, signature_found, under}
use Rattle.cx_rules.specs.declared.responses.Bearer.{Bearer}
use Rattle.cx_rules.proofs.Handling.{found-number, plain-number, secure-number, turn-handles}
use Rattle.cx_rules.proofs.Sizes.{few-parts, plain-sent, secure-sent}

-- ---- of every node

-- a row by which the link goes on in a stage, with these bytes sent
pub carried-on : {Own Stage : Type 0} (n : Node Own Stage) (number : ℕ) (behind : Link Stage) (stage : Stage) (bytes : List ℕ) (entries : List Entry) (row : Row Own Stage)
    → behind.number ≡ number → row.link ≡ Some (record behind { stage = stage }) → row.sends ≡ bytes → row.entries ≡ entries
    → CarriesOn n.links behind stage bytes entries (carried_out n number true row)
carried-on n number behind stage bytes entries row same linked sent entered = record {
  sends = ap (piece number) sent ∙ ap (λ (k : ℕ). piece k bytes) (sym same);
  opens = refl;
  shuts = ap (shuts number) linked;
  turned = refl;
  entered = entered;
  links_are = ap (links_behind n.links number row.sends) linked
      ∙ ap (λ (b : List ℕ). put_link (record behind { stage = stage; sent = behind.sent ++ b }) n.links) sent;
}

-- ---- how long SERVER_IDENT is

pub total-control : {X : Type 0} (tag : ℕ) (form : Form X) (x : X) → total (control tag form x) ≡ length (form.text x)
total-control tag form x = sum_by-cons length_of (record { align = 8; bytes = form.text x }) [] ∙ omega arith

-- what stands behind the address
server_text : ℕ → ℕ → List ℕ
server_text flags cookie = little w64 0 ++ (little w64 0 ++ (little w64 0 ++ (little w64 0 ++ (little w64 flags ++ little w64 cookie))))

length-address : (address : Addr) → length (addr_form.text address) ≡ 11 + length address.ip
unfolding addr_form little
length-address address =
    let port : List ℕ = little w16 address.port in
    omega (arith, length-append address.ip port)

pub short-server_ident : (address : Addr) (flags cookie : ℕ) → length address.ip ≡ 4 → total (server_ident address flags cookie) ≤ 1048576
unfolding little server_text
short-server_ident address flags cookie four =
    let ident : ServerIdent = record { addr = address; gid = 0; global_seq = 0; supported = 0; required = 0; flags = flags; cookie = cookie } in
    let size : length (server_ident_layout.form.text ident) ≡ 63 + length address.ip = omega (arith, length-address address, length-append (addr_form.text address) (server_text flags cookie)) in
    omega (arith, total-control 9 server_ident_layout.form ident, size, four)

pub total-message : (header : Header) (body : List ℕ) → total (message header body) ≡ 41 + length body
unfolding little
total-message header body =
    let one : Segment = record { align = 8; bytes = header_layout.form.text (written_header header) } in
    let two : Segment = record { align = 8; bytes = body } in
    let size : length (header_layout.form.text (written_header header)) ≡ 41 = refl in
    omega (arith, sum_by-cons length_of one (two ∷ []), sum_by-cons length_of two [], size)

-- what stands behind both addresses
client_text : ℕ → ℕ → ℕ → ℕ → List ℕ
client_text gid global_seq flags cookie = little w64 gid ++ (little w64 global_seq ++ (little w64 0 ++ (little w64 0 ++ (little w64 flags ++ little w64 cookie))))

pub short-client_ident : (mon_client : MonClient) (gid flags cookie : ℕ) → length mon_client.address.ip ≡ 4 → total (client_ident mon_client gid flags cookie) ≤ 1048576
unfolding little client_text
short-client_ident mon_client gid flags cookie four =
    let ident : ClientIdent =
    record { addr = mon_client.address; target = no_addr; gid = gid; global_seq = mon_client.global_seq; supported = 0; required = 0; flags = flags; cookie = cookie } in
    let behind : List ℕ = client_text gid mon_client.global_seq flags cookie in
    let size : length (client_ident_layout.form.text ident) ≡ 78 + length mon_client.address.ip =
    omega (
      arith,
      length-address mon_client.address,
      length-address no_addr,
      length-append (addr_form.text mon_client.address) (addr_form.text no_addr ++ behind),
      length-append (addr_form.text no_addr) behind,
    ) in
    omega (arith, total-control 8 client_ident_layout.form ident, size, four)

short-hello : total (own_hello Mon) ≡ 16
unfolding little addr_form
short-hello = refl

-- ---- the monitor

module _ (m : MonitorNode) (number reading : ℕ) (draw : List ℕ) where
  -- a row of a turn by which the link goes on
  turn-carries : (link behind : Link MonitorStage) (stage : MonitorStage) (bytes : List ℕ) (row : MonitorRow) → link_of number m.links ≡ Some link → behind.number ≡ link.number
      → turned_at (arrival node.Monitor (noted m).own link reading draw) link.stage ≡ Handles row → row.link ≡ Some (record behind { stage = stage }) → row.sends ≡ bytes
      → row.entries ≡ [] → row.own ≡ (noted m).own
      → CarriesOn m.links behind stage bytes [] (monitor_rule m (Turn number) reading draw) × ((monitor_rule m (Turn number) reading draw).state.own ≡ (noted m).own)
  turn-carries link behind stage bytes row found same handled linked sent entries own =
      let P : Outcome MonitorNode → Type 0 = λ o. CarriesOn m.links behind stage bytes [] o × (o.state.own ≡ (noted m).own) in
      let is : monitor_rule m (Turn number) reading draw ≡ carried_out (noted m) number true row = turn-handles m number reading draw link row found handled in
      subst P (sym is) (carried-on (noted m) number behind stage bytes [] row (same ∙ found-number number m.links link found) linked sent entries, own)

  -- the peer's banner: HELLO is sent
  pub greets : (h : HearsBanner m number) → CarriesOn m.links h.behind AwaitsHello (frame_text (own_hello Mon)) [] (monitor_rule m (Turn number) reading draw)
      × ((monitor_rule m (Turn number) reading draw).state.own ≡ (noted m).own)
  greets h =
      let a : MonitorArrival = arrival node.Monitor (noted m).own h.link reading draw in
      let b : MonitorArrival = at a h.behind in
      turn-carries h.link h.behind AwaitsHello (frame_text (own_hello Mon)) (goes_on b AwaitsHello (frame_text (own_hello Mon)) []) h.found h.same
      (ap (turned_at a) h.stage
      ∙ ap (turned_by (λ (l : Link MonitorStage) _. on_banner Mon (at a l))) h.next
      ∙ ap (λ (r : Result (List ℕ) BytesFault). Handles (plain_sent b AwaitsHello [] r)) (plain-sent (own_hello Mon) (omega (arith, short-hello))))
      refl refl refl refl

  -- HELLO: AUTH_REQUEST is waited for
  pub hears-greeting : (h : HearsGreeting m number) → CarriesOn m.links h.behind AwaitsRequest [] [] (monitor_rule m (Turn number) reading draw)
      × ((monitor_rule m (Turn number) reading draw).state.own ≡ (noted m).own)
  hears-greeting h =
      let a : MonitorArrival = arrival node.Monitor (noted m).own h.link reading draw in
      let b : MonitorArrival = at a h.behind in
      turn-carries h.link h.behind AwaitsRequest [] (goes_on b AwaitsRequest [] []) h.found (plain-number h.link h.behind h.frame h.next)
      (ap (turned_at a) h.stage
      ∙ ap (turned_by (λ ((l, g) : Link MonitorStage × Frame) _. on_hello (at a l) (due 1 hello_layout.form g))) h.next
      ∙ ap (λ (r : Result Hello BytesFault). Handles (on_hello b r)) h.payload)
      refl refl refl refl

  -- a right AUTH_SIGNATURE: CLIENT_IDENT is waited for
  pub takes-signature : (h : HearsSignature m number)
      → CarriesOn m.links h.behind (AwaitsIdent (under h.secured h.keys) h.bearer) [] [] (monitor_rule m (Turn number) reading draw)
      × ((monitor_rule m (Turn number) reading draw).state.own ≡ (noted m).own)
  takes-signature h =
      let a : MonitorArrival = arrival node.Monitor (noted m).own h.link reading draw in
      let b : MonitorArrival = at a h.behind in
      let t : Secured = under h.secured h.keys in
      let last : MonitorRow = goes_on b (AwaitsIdent t h.bearer) [] (signature_found t ∷ []) in
      let by_test : Bool → MonitorRow = λ is. if is then last else refuses b (reason.Login SignatureWrong) [] in
      turn-carries h.link h.behind (AwaitsIdent t h.bearer) [] (with_opened h.opened last) h.found (secure-number h.secured.keys h.keys h.link h.behind h.frame h.opened h.next)
      (ap (turned_at a) h.stage
      ∙ ap (turned_by (λ ((l, g, k) : Link MonitorStage × Frame × Keys) o. with_opened o (on_signature (at a l) (under h.secured k) h.bearer (due 7 auth_signature_layout.form g)))) h.next
      ∙ ap (λ (r : MonitorRow). Handles (with_opened h.opened r)) (ap (on_signature b t h.bearer) h.payload ∙ ap by_test h.right))
      refl refl refl refl

  -- CLIENT_IDENT that requires nothing: SERVER_IDENT is sent, and the link is open
  pub opens-link : (h : HearsIdent m number)
      → CarriesOn m.links h.behind (Open (under h.secured (sealed_under h.keys (server_ident m.own.address 1 0)).keys) h.bearer) (sealed_under h.keys (server_ident m.own.address 1 0)).bytes []
      (monitor_rule m (Turn number) reading draw)
      × ((monitor_rule m (Turn number) reading draw).state.own ≡ (noted m).own)
  opens-link h =
      let a : MonitorArrival = arrival node.Monitor (noted m).own h.link reading draw in
      let b : MonitorArrival = at a h.behind in
      let t : Secured = under h.secured h.keys in
      let f : Frame = server_ident m.own.address 1 0 in
      let sealed : SealedFrame = sealed_under h.keys f in
      let made : secure_frame h.keys f ≡ Ok sealed = secure-sent h.keys f (omega (arith, few-parts f, h.counters)) (short-server_ident m.own.address 1 0 h.address) in
      let by_tag : ℕ → MonitorRow = λ n.
      if n == 8 then on_client_ident b t h.bearer (payload client_ident_layout.form h.frame)
      else if n == 11 then on_session_reconnect b t h.bearer (payload session_reconnect_layout.form h.frame)
      else refuses_bytes b (fault.Unexpected n) [] in
      let by_required : ℕ → MonitorRow = λ n. if n == 0 then secure_sent b t (λ u. Open u h.bearer) [] (secure_frame h.keys f) else misses b t n in
      let last : MonitorRow = goes_on b (Open (under t sealed.keys) h.bearer) sealed.bytes sealed.seals in
      turn-carries h.link h.behind (Open (under h.secured sealed.keys) h.bearer) sealed.bytes (with_opened h.opened last) h.found
      (secure-number h.secured.keys h.keys h.link h.behind h.frame h.opened h.next)
      (ap (turned_at a) h.stage
      ∙ ap (turned_by (λ ((l, g, k) : Link MonitorStage × Frame × Keys) o. with_opened o (on_ident (at a l) (under h.secured k) h.bearer g))) h.next
      ∙ ap (λ (r : MonitorRow). Handles (with_opened h.opened r))
      (ap by_tag h.tag ∙ ap (on_client_ident b t h.bearer) h.payload ∙ ap by_required h.required ∙ ap (λ (r : Result SealedFrame BytesFault). secure_sent b t (λ u. Open u h.bearer) [] r) made))
      refl refl refl refl

  -- a link opens, where fewer than 1,024 live: the banner is sent
  pub opens-first : length m.links < 1024 → OpensLink m number (monitor_rule m (Opened number None) reading draw)
  opens-first room =
      let full : nat_le 1024 (length m.links) ≡ false = lt-leb 1024 (length m.links) room in
      let a : MonitorArrival = arrival node.Monitor (noted m).own (new_link number AwaitsBanner) reading draw in
      let by_test : Bool → MonitorRow = λ is. if is then refuses a reason.LinksFull [] else goes_on a AwaitsBanner own_banner [] in
      subst (λ (o : Outcome MonitorNode). OpensLink m number o) (sym (ap (λ (t : Bool). carried_out (noted m) number false (by_test t)) full))
      (record { sends = refl; opens = refl; shuts = refl; entries = refl; own = refl; links_are = refl })
