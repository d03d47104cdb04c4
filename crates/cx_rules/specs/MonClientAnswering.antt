-- What is due of one that asks the monitor, a client or a daemon, at each stage of its link, and what it does then ("detailed cephx protocol": a client's side of a login, of a
-- renewal, and of a daemon's fetch).
use Rattle.std.specs.Prelude.{ℕ, ◌≡◌, ◌+◌, ◌-◌, ◌^◌, ◌≤◌, Bool, true, false, List, [], ◌∷◌, Some, Ok, take, length}
use Rattle.cx_base.specs.Names.{is_daemon_type}
use Rattle.cx_keyserver.specs.cx_dice.specs.Draws.{challenge_of, cookie_of}
use Rattle.cx_keyserver.specs.cx_sealed.specs.Records.{rotating_reply_layout}
use Rattle.cx_keyserver.specs.cx_sealed.specs.declared.rotating_reply.RotatingReply.{RotatingReply}
use Rattle.cx_login.specs.Client.{Ask, authenticate}
use Rattle.cx_login.specs.Held.{Held}
use Rattle.cx_login.specs.Unlocking.{login_in, told_each, unlocked}
use Rattle.cx_login.specs.declared.client.LoggedIn.{LoggedIn}
use Rattle.cx_login.specs.cx_control.specs.Auth.{auth_done_layout, auth_reply_more_layout, auth_request_more_layout, auth_signature_layout}
use Rattle.cx_login.specs.cx_control.specs.Hello.{hello_layout}
use Rattle.cx_login.specs.cx_control.specs.Idents.{server_ident_layout}
use Rattle.cx_login.specs.cx_control.specs.declared.auth.AuthDone.{AuthDone}
use Rattle.cx_login.specs.cx_control.specs.declared.auth.AuthReplyMore.{AuthReplyMore}
use Rattle.cx_login.specs.cx_control.specs.declared.auth.AuthSignature.{AuthSignature}
use Rattle.cx_login.specs.cx_control.specs.declared.hello.Hello.{Hello}
use Rattle.cx_login.specs.cx_control.specs.declared.idents.ServerIdent.{ServerIdent}
use Rattle.cx_login.specs.cx_journal.specs.declared.premises.KeyKind.TheVariants.{Principal}
use Rattle.cx_login.specs.cx_steps.specs.declared.seals.SealEntry.{SealEntry}
use Rattle.cx_login.specs.cx_wire.specs.Bodies.{reply_layout}
use Rattle.cx_login.specs.cx_wire.specs.Logins.{authenticate_layout, login_done_layout, server_challenge_layout}
use Rattle.cx_login.specs.cx_wire.specs.declared.bodies.Reply.{Reply}
use Rattle.cx_login.specs.cx_wire.specs.declared.bodies.Reply.TheVariants as given
use Rattle.cx_login.specs.cx_wire.specs.declared.logins.LoginDone.{LoginDone}
use Rattle.cx_login.specs.cx_wire.specs.declared.logins.ServerChallenge.{ServerChallenge}
use Rattle.cx_login.specs.cx_wire.specs.declared.tickets.TicketPart.{TicketPart}
use Rattle.cx_stream.specs.cx_digest.specs.Code.{hmac}
use Rattle.cx_stream.specs.cx_frame.specs.Frames.{total}
use Rattle.cx_stream.specs.cx_frame.specs.declared.frame.Frame.{Frame}
use Rattle.cx_rules.specs.Connector.{MonClientArrival, Stage, client_ident, login_request}
use Rattle.cx_rules.specs.Fronts.{Next, banner_next, plain_next, secure_next}
use Rattle.cx_rules.specs.Holdings.{MonClient, unexpired}
use Rattle.cx_rules.specs.Links.{Link}
use Rattle.cx_rules.specs.Messages.{Message, body_as, message_in}
use Rattle.cx_rules.specs.Payloads.{control, due, payload, whole}
use Rattle.cx_rules.specs.Requests.{Requests}
use Rattle.cx_rules.specs.Secured.{Keys, SealedFrame, Secured, connector_keys, is_signed, sealed_under, under}
use Rattle.cx_rules.specs.declared.messages.Body.TheVariants.{Spelled}
use Rattle.cx_rules.specs.declared.requests.Waiting.{Waiting}
use Rattle.cx_rules.specs.declared.requests.Want.{Want}

-- ---- what stands next

-- a plain frame stands next on the link
pub record ReadsPlain (link : Link Stage) : Type 0 where
  pub behind : Link Stage
  pub frame : Frame
  pub next : plain_next link ≡ Next (behind, frame) []

-- a secure frame stands next on it, under the keys of its stage; counters are left for an answer
pub record ReadsSecure (link : Link Stage) (s : Secured) : Type 0 where
  pub behind : Link Stage
  pub frame : Frame
  pub keys : Keys
  pub opened : List SealEntry
  pub next : secure_next s.keys link ≡ Next (behind, frame, keys) opened
  pub counters : keys.out.counter + 3 ≤ 2 ^ 64 - 1

-- ---- a login

-- AUTH_REQUEST_MORE with the Authenticate that answers a challenge
abbrev pub proof_frame : MonClientArrival → ℕ → ServerChallenge → Frame
proof_frame a asked server = control 5 auth_request_more_layout.form (record {
  payload = authenticate_layout.form.text
      (authenticate (record { secret = a.own.secret; old = unexpired a.reading a.own.holdings.auth; other_keys = asked }) server.challenge (challenge_of a.draw));
})

-- HELLO stands next
pub record HearsHelloOf (a : MonClientArrival) : Type 0 where
  pub reads : ReadsPlain a.link
  pub hello : Hello
  pub payload : due 1 hello_layout.form reads.frame ≡ Ok hello
  pub short : total (login_request a.own) ≤ 65536

-- AUTH_REPLY_MORE with a challenge stands next
pub record HearsChallenge (a : MonClientArrival) (asked : ℕ) : Type 0 where
  pub reads : ReadsPlain a.link
  pub tag : reads.frame.tag ≡ 4
  pub more : AuthReplyMore
  pub payload : payload auth_reply_more_layout.form reads.frame ≡ Ok more
  pub server : ServerChallenge
  pub read : whole server_challenge_layout.form more.payload ≡ Ok server
  pub short : total (proof_frame a asked server) ≤ 65536

-- AUTH_DONE in the secure mode stands next, whose tickets open under the entity's secret and the session key of the first one
pub record HearsLogin (a : MonClientArrival) : Type 0 where
  pub reads : ReadsPlain a.link
  pub tag : reads.frame.tag ≡ 6
  pub done : AuthDone
  pub payload : payload auth_done_layout.form reads.frame ≡ Ok done
  pub mode : done.mode ≡ 2
  pub login : LoginDone
  pub read : whole login_done_layout.form done.payload ≡ Ok login
  pub logged_in : LoggedIn
  pub opens : (login_in a.own.secret login).value ≡ Some logged_in
  pub counters : (connector_keys logged_in.secret).out.counter + 3 ≤ 2 ^ 64 - 1

-- AUTH_SIGNATURE over all that was received
abbrev pub own_signature : LoggedIn → List ℕ → SealedFrame
own_signature logged_in received =
    sealed_under (connector_keys logged_in.secret) (control 7 auth_signature_layout.form (record { signature = hmac logged_in.auth.session received }))

-- the monitor's AUTH_SIGNATURE stands next, and covers what was sent
pub record HearsRightSignature (a : MonClientArrival) (s : Secured) : Type 0 where
  pub reads : ReadsSecure a.link s
  pub signature : AuthSignature
  pub payload : due 7 auth_signature_layout.form reads.frame ≡ Ok signature
  pub right : is_signed (under s reads.keys) signature.signature ≡ true
  pub address : length a.own.address.ip ≡ 4

-- SERVER_IDENT stands next
pub record HearsServerIdent (a : MonClientArrival) (s : Secured) : Type 0 where
  pub reads : ReadsSecure a.link s
  pub tag : reads.frame.tag ≡ 9
  pub ident : ServerIdent
  pub payload : payload server_ident_layout.form reads.frame ≡ Ok ident

-- ---- a reply

-- message 18 stands next, with a reply under the number of the request that waits longest
pub record HearsReply (a : MonClientArrival) (s : Secured) (requests : Requests) (want : Want) (reply : Reply) : Type 0 where
  pub reads : ReadsSecure a.link s
  pub tag : reads.frame.tag ≡ 17
  pub message : Message
  pub read : message_in reads.frame ≡ Ok message
  pub type_ : message.header.type_ ≡ 18
  pub spelled : body_as reply_layout.form message.body ≡ Spelled reply
  pub later : List Waiting
  pub waiting : requests.waiting ≡ record { tid = message.header.tid; want = want } ∷ later
