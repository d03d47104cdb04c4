-- What is due of a client on its link to a daemon, at each stage, until it is open and from then on ("detailed cephx protocol": a client's side of an authorizer; "msgr2 protocol": session,
-- messages).
use Rattle.std.specs.Prelude.{ℕ, ◌≡◌, ◌+◌, ◌-◌, ◌^◌, ◌≤◌, true, List, [], Some, Ok, length}
use Rattle.cx_rules_session.specs.cx_authorize.specs.Client.{Answered, Presented, challenge_in, reply_in}
use Rattle.cx_rules_session.specs.cx_authorize.specs.Verdict.{raised}
use Rattle.cx_rules_session.specs.cx_control.specs.Auth.{auth_done_layout, auth_reply_more_layout, auth_signature_layout}
use Rattle.cx_rules_session.specs.cx_control.specs.Hello.{hello_layout}
use Rattle.cx_rules_session.specs.cx_control.specs.Idents.{server_ident_layout}
use Rattle.cx_rules_session.specs.cx_control.specs.Upkeep.{ack_layout}
use Rattle.cx_rules_session.specs.cx_control.specs.declared.auth.AuthDone.{AuthDone}
use Rattle.cx_rules_session.specs.cx_control.specs.declared.auth.AuthReplyMore.{AuthReplyMore}
use Rattle.cx_rules_session.specs.cx_control.specs.declared.auth.AuthSignature.{AuthSignature}
use Rattle.cx_rules_session.specs.cx_control.specs.declared.hello.Hello.{Hello}
use Rattle.cx_rules_session.specs.cx_control.specs.declared.idents.ServerIdent.{ServerIdent}
use Rattle.cx_rules_session.specs.cx_control.specs.declared.upkeep.Ack.{Ack}
use Rattle.cx_rules.specs.cx_digest.specs.Code.{hmac}
use Rattle.cx_rules.specs.cx_dice.specs.Draws.{challenge_of}
use Rattle.cx_rules.specs.cx_frame.specs.Frames.{total}
use Rattle.cx_rules.specs.cx_frame.specs.declared.frame.Frame.{Frame}
use Rattle.cx_rules_session.specs.cx_sealed.specs.declared.authorize_challenge.AuthorizeChallenge.{AuthorizeChallenge}
use Rattle.cx_rules_session.specs.cx_sealed.specs.declared.authorize_reply.AuthorizeReply.{AuthorizeReply}
use Rattle.cx_rules.specs.cx_steps.specs.declared.seals.SealEntry.{SealEntry}
use Rattle.cx_rules_session.specs.cx_wire.specs.Logins.{authorize_challenge_layout, authorize_reply_layout}
use Rattle.cx_rules_session.specs.cx_wire.specs.Operations.{answer_layout}
use Rattle.cx_rules_session.specs.cx_wire.specs.declared.answers.Answer.{Answer}
use Rattle.cx_rules_session.specs.cx_wire.specs.declared.authorizers.AuthorizeChallenge as shown_challenge
use Rattle.cx_rules_session.specs.cx_wire.specs.declared.authorizers.AuthorizeReply as shown_reply
use Rattle.cx_rules.specs.Fronts.{Next, plain_next, secure_next}
use Rattle.cx_rules.specs.Links.{Link}
use Rattle.cx_rules.specs.Messages.{Message, message_in}
use Rattle.cx_rules.specs.Payloads.{control, due, payload, whole}
use Rattle.cx_rules.specs.Secured.{Keys, SealedFrame, Secured, connector_keys, is_signed, sealed_under, under}
use Rattle.cx_rules_session.specs.Presenter.{CallArrival, CallStage, first_frame, presented, second_frame}
use Rattle.cx_rules_session.specs.Sessions.{Called}

-- ---- what stands next

-- a plain frame stands next on the link
pub record ReadsPlain (link : Link CallStage) : Type 0 where
  pub behind : Link CallStage
  pub frame : Frame
  pub next : plain_next link ≡ Next (behind, frame) []

-- a secure frame stands next on it, under the keys of its stage; counters are left for an answer
pub record ReadsSecure (link : Link CallStage) (s : Secured) : Type 0 where
  pub behind : Link CallStage
  pub frame : Frame
  pub keys : Keys
  pub opened : List SealEntry
  pub next : secure_next s.keys link ≡ Next (behind, frame, keys) opened
  pub counters : keys.out.counter + 3 ≤ 2 ^ 64 - 1

-- ---- an authorizer

-- what is shown on a link that calls a daemon
abbrev pub shown_on : CallArrival → Called → Presented
shown_on a called = presented called a.own.mon_client (challenge_of a.draw)

-- HELLO stands next
pub record HearsHello (a : CallArrival) (called : Called) : Type 0 where
  pub reads : ReadsPlain a.link
  pub hello : Hello
  pub payload : due 1 hello_layout.form reads.frame ≡ Ok hello
  pub short : total (first_frame a.own.mon_client (shown_on a called)) ≤ 65536

-- AUTH_REPLY_MORE with a challenge stands next, which opens under the session key of the ticket that was shown
pub record HearsChallenge (a : CallArrival) (p : Presented) : Type 0 where
  pub reads : ReadsPlain a.link
  pub tag : reads.frame.tag ≡ 4
  pub more : AuthReplyMore
  pub payload : payload auth_reply_more_layout.form reads.frame ≡ Ok more
  pub shown : shown_challenge.AuthorizeChallenge
  pub read : whole authorize_challenge_layout.form more.payload ≡ Ok shown
  pub asked : AuthorizeChallenge
  pub opens : (challenge_in p.held.session shown.sealed).value ≡ Some asked
  pub short : total (second_frame p asked.challenge) ≤ 65536

-- AUTH_DONE in the secure mode stands next, whose reply opens under the session key, and is to the nonce that was shown
pub record HearsReply (a : CallArrival) (answered : Answered) : Type 0 where
  pub reads : ReadsPlain a.link
  pub tag : reads.frame.tag ≡ 6
  pub done : AuthDone
  pub payload : payload auth_done_layout.form reads.frame ≡ Ok done
  pub mode : done.mode ≡ 2
  pub shown : shown_reply.AuthorizeReply
  pub read : whole authorize_reply_layout.form done.payload ≡ Ok shown
  pub reply : AuthorizeReply
  pub opens : (reply_in answered.session shown.sealed).value ≡ Some reply
  pub nonce : reply.nonce_plus_one ≡ raised answered.nonce
  pub counters : (connector_keys reply.secret).out.counter + 3 ≤ 2 ^ 64 - 1

-- AUTH_SIGNATURE over all that was received, under the keys of a connection
abbrev pub own_signature : List ℕ → List ℕ → List ℕ → SealedFrame
own_signature secret session received =
    sealed_under (connector_keys secret) (control 7 auth_signature_layout.form (record { signature = hmac session received }))

-- the daemon's AUTH_SIGNATURE stands next, and covers what was sent
pub record HearsSignature (a : CallArrival) (s : Secured) : Type 0 where
  pub reads : ReadsSecure a.link s
  pub signature : AuthSignature
  pub payload : due 7 auth_signature_layout.form reads.frame ≡ Ok signature
  pub right : is_signed (under s reads.keys) signature.signature ≡ true
  pub address : length a.own.mon_client.address.ip ≡ 4

-- SERVER_IDENT stands next
pub record HearsServerIdent (a : CallArrival) (s : Secured) : Type 0 where
  pub reads : ReadsSecure a.link s
  pub tag : reads.frame.tag ≡ 9
  pub ident : ServerIdent
  pub payload : payload server_ident_layout.form reads.frame ≡ Ok ident

-- ---- an open link

-- message 43 stands next: how the operation of this number ended
pub record HearsAnswer (a : CallArrival) (s : Secured) : Type 0 where
  pub reads : ReadsSecure a.link s
  pub tag : reads.frame.tag ≡ 17
  pub message : Message
  pub read : message_in reads.frame ≡ Ok message
  pub type_ : message.header.type_ ≡ 43
  pub answer : Answer
  pub body : whole answer_layout.form message.body ≡ Ok answer

-- ACK stands next
pub record HearsAck (a : CallArrival) (s : Secured) : Type 0 where
  pub reads : ReadsSecure a.link s
  pub tag : reads.frame.tag ≡ 20
  pub ack : Ack
  pub payload : payload ack_layout.form reads.frame ≡ Ok ack
