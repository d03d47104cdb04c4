-- Until a client's link to a daemon has a key its rows enter no answer.
use Rattle.std.proofs.Common.{ℕ, ◌==◌, Bool, true, false, List, [], ◌∷◌, ◌++◌, take, Option, Some, None, Result, Ok, Err}
use Rattle.std.specs.Prelude.{if◌then◌else◌, not}
use Rattle.std.specs.List.{AllByRecursion}
use Rattle.cx_laws_links.specs.cx_authorize.specs.Client.{Answered as Shown, Presented, challenge_in, reply_in}
use Rattle.cx_laws_links.specs.cx_authorize.specs.Verdict.{raised}
use Rattle.cx_control.specs.Auth.{auth_done_layout, auth_reply_more_layout}
use Rattle.cx_control.specs.BadMethod.{bad_method_layout}
use Rattle.cx_control.specs.declared.auth.AuthDone.{AuthDone}
use Rattle.cx_control.specs.declared.auth.AuthReplyMore.{AuthReplyMore}
use Rattle.cx_control.specs.declared.hello.Hello.{Hello}
use Rattle.cx_dice.specs.Draws.{challenge_of}
use Rattle.cx_frame.specs.declared.frame.Frame.{Frame}
use Rattle.cx_journal.specs.declared.entries.Answered.{Answered}
use Rattle.cx_journal.specs.declared.entries.Entry.{Entry}
use Rattle.cx_journal.specs.declared.faults.BytesFault.{BytesFault}
use Rattle.cx_journal.specs.declared.faults.LoginFault.TheVariants.{Mode, NonceWrong}
use Rattle.cx_journal.specs.declared.outcomes.Reason.TheVariants as reason
use Rattle.cx_laws_links.specs.cx_rules.specs.Greetings.{own_hello}
use Rattle.cx_laws_links.specs.cx_rules.specs.Payloads.{due, payload, whole}
use Rattle.cx_laws_links.specs.cx_rules.specs.Rows.{goes_on, plain_sent, refuses, unless_refused}
use Rattle.cx_laws_links.specs.cx_rules.specs.Secured.{SealedFrame, connector_keys, plain_frame, signed_frame}
use Rattle.cx_laws_links.specs.cx_rules_session.specs.Envelopes.{authorize_content, session_sealed}
use Rattle.cx_laws_links.specs.cx_rules_session.specs.Presenter.{CallArrival, CallStage, AwaitsHello, AwaitsChallenge, AwaitsDone, answers_challenge, on_authorize_reply, on_bad_method, on_banner, on_challenge, on_done, on_hello, on_reply_more, on_unlocked, presented, second_frame, first_frame, signs, while_answered, while_challenged}
use Rattle.cx_laws_links.specs.cx_rules_session.specs.Sessions.{Called, Callee}
use Rattle.cx_laws_links.specs.cx_sealed.specs.declared.authorize_challenge.AuthorizeChallenge.{AuthorizeChallenge}
use Rattle.cx_laws_links.specs.cx_sealed.specs.declared.authorize_reply.AuthorizeReply.{AuthorizeReply}
use Rattle.cx_steps.specs.declared.seals.DrawMark.TheVariants as draw
use Rattle.cx_steps.specs.declared.seals.SealEntry.{SealEntry}
use Rattle.cx_steps.specs.declared.seals.SealEntry.TheVariants.{Drawn}
use Rattle.cx_laws_tickets.specs.cx_wire.specs.Logins.{authorize_challenge_layout, authorize_reply_layout}
use Rattle.cx_laws_tickets.specs.cx_wire.specs.declared.authorizers.AuthorizeChallenge as shown_challenge
use Rattle.cx_laws_tickets.specs.cx_wire.specs.declared.authorizers.AuthorizeReply as shown_reply
use Rattle.cx_laws_links.proofs.answers.CallHears.{EndsSo}

-- no answer is entered
abbrev pub NoEnds : List Entry → Type 0
NoEnds es = AllByRecursion (EndsSo (λ (x : Answered). ⊥)) es

sent-silent : (a : CallArrival) (stage : CallStage) (before seals : List SealEntry) (r : Result (List ℕ) BytesFault) → NoEnds (unless_refused a before r (λ bytes. goes_on a stage bytes seals)).entries
sent-silent a stage before seals (Ok bytes) = tt
sent-silent a stage before seals (Err why) = (tt, tt)

pub banner-silent : (a : CallArrival) (called : Called) → NoEnds (on_banner a called).entries
banner-silent a called = by_sent (plain_frame (own_hello a.own.mon_client.name.kind))
  where
    by_sent : (r : Result (List ℕ) BytesFault) → NoEnds (plain_sent a (AwaitsHello called) [] r).entries
    by_sent (Ok bytes) = tt
    by_sent (Err why) = (tt, tt)

pub hello-silent : (a : CallArrival) (called : Called) (read : Result Hello BytesFault) → NoEnds (on_hello a called read).entries
hello-silent a called (Err why) = (tt, tt)
hello-silent a called (Ok hello) =
    let p : Presented = presented called a.own.mon_client (challenge_of a.draw) in
    let drew : List SealEntry = Drawn (draw.Nonce p.nonce) ∷ [] in
    sent-silent a (AwaitsChallenge called.callee p) drew (drew ++ session_sealed p.held.session (authorize_content p.nonce None) ∷ []) (plain_frame (first_frame a.own.mon_client p))

-- ---- the daemon's challenge

bad_method-silent : (a : CallArrival) (read : Result (ℕ × (ℕ × (List ℕ × List ℕ))) BytesFault) → NoEnds (on_bad_method a read).entries
bad_method-silent a (Err why) = (tt, tt)
bad_method-silent a (Ok fields) = (tt, tt)

answers-silent : (a : CallArrival) (callee : Callee) (p : Presented) (opened : List SealEntry) (asked : Option AuthorizeChallenge) → NoEnds (answers_challenge a callee p opened asked).entries
answers-silent a callee p opened None = (tt, tt)
answers-silent a callee p opened (Some asked) =
    sent-silent a (AwaitsDone callee (record { session = p.held.session; nonce = p.nonce })) opened
    (opened ++ session_sealed p.held.session (authorize_content p.nonce (Some asked.challenge)) ∷ []) (plain_frame (second_frame p asked.challenge))

challenge-silent : (a : CallArrival) (callee : Callee) (p : Presented) (read : Result shown_challenge.AuthorizeChallenge BytesFault) → NoEnds (on_challenge a callee p read).entries
challenge-silent a callee p (Err why) = (tt, tt)
challenge-silent a callee p (Ok shown) = answers-silent a callee p (challenge_in p.held.session shown.sealed).seals (challenge_in p.held.session shown.sealed).value

pub challenged-silent : (a : CallArrival) (callee : Callee) (p : Presented) (f : Frame) → NoEnds (while_challenged a callee p f).entries
challenged-silent a callee p f = by_test (f.tag == 3)
  where
    by_more : (read : Result AuthReplyMore BytesFault) → NoEnds (on_reply_more a callee p read).entries
    by_more (Err why) = (tt, tt)
    by_more (Ok more) = challenge-silent a callee p (whole authorize_challenge_layout.form more.payload)

    by_test : (denied : Bool) → NoEnds (if denied then on_bad_method a (payload bad_method_layout.form f) else on_reply_more a callee p (due 4 auth_reply_more_layout.form f)).entries
    by_test true = bad_method-silent a (payload bad_method_layout.form f)
    by_test false = by_more (due 4 auth_reply_more_layout.form f)

-- ---- the daemon's reply

signs-silent : (a : CallArrival) (callee : Callee) (answered : Shown) (opened : List SealEntry) (made : Result SealedFrame BytesFault) → NoEnds (signs a callee answered opened made).entries
signs-silent a callee answered opened (Ok sealed) = tt
signs-silent a callee answered opened (Err why) = (tt, tt)

unlocked-silent : (a : CallArrival) (callee : Callee) (answered : Shown) (opened : List SealEntry) (reply : Option AuthorizeReply) → NoEnds (on_unlocked a callee answered opened reply).entries
unlocked-silent a callee answered opened None = (tt, tt)
unlocked-silent a callee answered opened (Some reply) = by_test (reply.nonce_plus_one == raised answered.nonce)
  where
    by_test : (same : Bool) → NoEnds (if same then signs a callee answered opened (signed_frame (connector_keys reply.secret) answered.session (take a.link.taken a.link.received))
        else refuses a (reason.Login (NonceWrong (raised answered.nonce) reply.nonce_plus_one)) opened).entries
    by_test true = signs-silent a callee answered opened (signed_frame (connector_keys reply.secret) answered.session (take a.link.taken a.link.received))
    by_test false = (tt, tt)

pub answered-silent : (a : CallArrival) (callee : Callee) (answered : Shown) (f : Frame) → NoEnds (while_answered a callee answered f).entries
answered-silent a callee answered f = by_test (f.tag == 3)
  where
    by_reply : (read : Result shown_reply.AuthorizeReply BytesFault) → NoEnds (on_authorize_reply a callee answered read).entries
    by_reply (Err why) = (tt, tt)
    by_reply (Ok shown) = unlocked-silent a callee answered (reply_in answered.session shown.sealed).seals (reply_in answered.session shown.sealed).value

    by_mode : (done : AuthDone) (other : Bool) → NoEnds (if other then refuses a (reason.Login Mode) [] else on_authorize_reply a callee answered (whole authorize_reply_layout.form done.payload)).entries
    by_mode done true = (tt, tt)
    by_mode done false = by_reply (whole authorize_reply_layout.form done.payload)

    by_done : (read : Result AuthDone BytesFault) → NoEnds (on_done a callee answered read).entries
    by_done (Err why) = (tt, tt)
    by_done (Ok done) = by_mode done (not (done.mode == 2))

    by_test : (denied : Bool) → NoEnds (if denied then on_bad_method a (payload bad_method_layout.form f) else on_done a callee answered (due 6 auth_done_layout.form f)).entries
    by_test true = bad_method-silent a (payload bad_method_layout.form f)
    by_test false = by_done (due 6 auth_done_layout.form f)
