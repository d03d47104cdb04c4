-- What a daemon read on an incoming link until its own signature: a banner, HELLO, AUTH_REQUEST and AUTH_REQUEST_MORE, all that it took. So what it signs under the
-- session key of a ticket are bytes in which it heard an authorizer for its own service.
use Rattle.std.proofs.Common.{◌≡◌, ℕ, ◌+◌, Bool, true, false, List, [], ◌∷◌, ◌++◌, take, Option, Some, None, Result, Ok, Err, refl, sym, ◌∙◌, subst}
use Rattle.std.specs.Prelude.{if◌then◌else◌}
use Rattle.std.specs.List.{AllByRecursion}
use Rattle.cx_laws_links.specs.cx_authorize.specs.Daemon.{Awaited}
use Rattle.cx_laws_links.specs.cx_authorize.specs.Judging.{judged_by_payload, judged_second, judged_with, judged_by_key, refused_as, second_terms}
use Rattle.cx_laws_links.specs.cx_authorize.specs.declared.judging.Shown.{Shown}
use Rattle.cx_laws_links.specs.cx_authorize.specs.declared.refusals.AuthRefusal.{AuthRefusal}
use Rattle.cx_laws_links.specs.cx_authorize.specs.declared.refusals.AuthRefusal.TheVariants as refusal
use Rattle.cx_base.proofs.Names.{same_kind_is}
use Rattle.cx_base.specs.Names.{same_kind}
use Rattle.cx_base.specs.declared.kinds.EntityType.{EntityType}
use Rattle.cx_control.specs.Auth.{auth_request_more_layout}
use Rattle.cx_control.specs.declared.auth.AuthRequestMore.{AuthRequestMore}
use Rattle.cx_dice.specs.Draws.{connection_of}
use Rattle.cx_digest.specs.Code.{hmac}
use Rattle.cx_enc.specs.Whole.{start}
use Rattle.cx_control.specs.Calls.{stop_of}
use Rattle.cx_frame.specs.declared.frame.Frame.{Frame}
use Rattle.cx_journal.specs.declared.faults.BytesFault.{BytesFault}
use Rattle.cx_laws_tickets.proofs.authorize.Opened.{IsOpening, second-all}
use Rattle.cx_laws_tickets.proofs.fetch.Banners.{IsRead}
use Rattle.cx_laws_links.specs.cx_laws_keys.proofs.keys.Lists.{all-append}
use Rattle.cx_laws_links.specs.cx_login.specs.Opening.{generation_key}
use Rattle.cx_rotate.specs.declared.views.View.{View}
use Rattle.cx_laws_links.specs.cx_rules.specs.Acceptor.{joined}
use Rattle.cx_laws_links.specs.cx_rules.specs.Payloads.{payload}
use Rattle.cx_laws_links.specs.cx_rules.specs.Secured.{SealedFrame, acceptor_keys, part_seals, plain_frame, secure_frame, signature, signing}
use Rattle.cx_laws_links.specs.cx_rules_session.specs.Envelopes.{authorize_reply_content, session_sealed}
use Rattle.cx_laws_links.specs.cx_rules_session.specs.IncomingLinks.{IncomingArrival, authority_of, authorized_frame, authorizes, done_sent, on_second, turns_away, unless_turned_away}
use Rattle.cx_laws_links.specs.cx_sealed.specs.Unsealing.{spelled_by}
use Rattle.cx_laws_links.specs.cx_sealed.specs.declared.service_ticket.ServiceTicket.{ServiceTicket}
use Rattle.cx_steps.specs.declared.seals.DrawMark.TheVariants as draw
use Rattle.cx_steps.specs.declared.seals.SealEntry.{SealEntry}
use Rattle.cx_steps.specs.declared.seals.SealEntry.TheVariants as entry
use Rattle.cx_laws_tickets.specs.cx_wire.specs.Logins.{authorizer_layout}
use Rattle.cx_laws_tickets.specs.cx_wire.specs.declared.authorizers.Authorizer.{Authorizer}
use Rattle.cx_laws_links.specs.cx_laws_keys.proofs.series.Frames.{frame-sealed}
use Rattle.cx_secure.specs.Plains.{plains}
use Rattle.cx_laws_links.proofs.answers.Given as given_words
use Rattle.cx_laws_links.proofs.answers.Given.{given_frame}
use Rattle.cx_laws_links.proofs.answers.SameService.{HearsService}

-- ---- a second authorizer that passes is for the service

pub record PassesFor (service : EntityType) (bytes : List ℕ) : Type 0 where
  pub authorizer : Authorizer
  pub spells : spelled_by authorizer_layout.form bytes ≡ Some authorizer
  pub service_is : authorizer.service ≡ service

pub second-service : (awaited : Awaited) (view : View) (reading : ℕ) (bytes : List ℕ) (shown : Shown) → (judged_second awaited view reading bytes).value ≡ Ok shown → PassesFor awaited.service bytes
second-service awaited view reading bytes shown = by_spelled (spelled_by authorizer_layout.form bytes) refl
  where
    by_kind : (a : Authorizer) → spelled_by authorizer_layout.form bytes ≡ Some a → (same : Bool) → same_kind awaited.service a.service ≡ same
        → (if same then judged_with a.ticket.blob (judged_by_key (second_terms awaited view reading) a (generation_key view.generations a.ticket.generation))
        else refused_as (refusal.WrongService awaited.service a.service)).value ≡ Ok shown → PassesFor awaited.service bytes
    by_kind a is true e value = record { authorizer = a; spells = is; service_is = sym (same_kind_is awaited.service a.service e) }
    by_kind a is false e value = absurd cc

    by_spelled : (found : Option Authorizer) → spelled_by authorizer_layout.form bytes ≡ found
        → (judged_by_payload (second_terms awaited view reading) found (stop_of (authorizer_layout.form.at (start bytes)))).value ≡ Ok shown → PassesFor awaited.service bytes
    by_spelled None is value = absurd cc
    by_spelled (Some a) is value = by_kind a is (same_kind awaited.service a.service) refl value

-- ---- what is signed

-- what is signed are bytes in which an authorizer for this service was heard
abbrev pub SignsHeard : EntityType → SealEntry → Type 0
SignsHeard service (entry.Signed mark) = HearsService service mark.content
SignsHeard service _ = Unit {0}

abbrev pub Signs : EntityType → List SealEntry → Type 0
Signs service es = AllByRecursion (SignsHeard service) es

pub opening-signs : (service : EntityType) (es : List SealEntry) → AllByRecursion IsOpening es → Signs service es
opening-signs service [] h = tt
opening-signs service (entry.Opened mark ∷ es) h = (tt, opening-signs service es h.1)
opening-signs service (entry.Sealed mark ∷ es) h = absurd h.0
opening-signs service (entry.Signed mark ∷ es) h = absurd h.0
opening-signs service (entry.Checked mark ∷ es) h = absurd h.0
opening-signs service (entry.Drawn mark ∷ es) h = absurd h.0

part-signs : (service : EntityType) (key fixed : List ℕ) (counter : ℕ) (parts : List (List ℕ)) → Signs service (part_seals key fixed counter parts)
part-signs service key fixed counter [] = tt
part-signs service key fixed counter (part ∷ parts) = (tt, part-signs service key fixed (counter + 1) parts)

module _ (b : IncomingArrival) (service : EntityType) where
  authorizes-signs : (opened : List SealEntry) (ticket : ServiceTicket) (nonce : ℕ) → Signs service opened → HearsService service (take b.link.taken b.link.received) → Signs service (authorizes b opened ticket nonce).seals
  authorizes-signs opened ticket nonce quiet heard =
      by_frames (plain_frame (authorized_frame ticket nonce (connection_of b.draw)))
      (secure_frame (acceptor_keys (connection_of b.draw)) (given_frame (given_words.Signs (hmac ticket.session (take b.link.taken b.link.received)))))
      (given_frame (given_words.Signs (hmac ticket.session (take b.link.taken b.link.received)))) refl
    where
      before-signs : Signs service (opened ++ entry.Drawn (draw.Connection (connection_of b.draw) ticket.name) ∷ [])
      before-signs = all-append (SignsHeard service) opened (entry.Drawn (draw.Connection (connection_of b.draw) ticket.name) ∷ []) quiet (tt, tt)

      by_frames : (p : Result (List ℕ) BytesFault) (q : Result SealedFrame BytesFault) (f : Frame) → secure_frame (acceptor_keys (connection_of b.draw)) f ≡ q
          → Signs service (done_sent b (opened ++ entry.Drawn (draw.Connection (connection_of b.draw) ticket.name) ∷ [])
          (session_sealed ticket.session (authorize_reply_content nonce (connection_of b.draw)) ∷ []) (authority_of b ticket)
          (joined ticket.session b.link.sent p (signing ticket.session (take b.link.taken b.link.received) q))).seals
      by_frames (Err why) q f made = before-signs
      by_frames (Ok done) (Err why) f made = before-signs
      by_frames (Ok done) (Ok sealed) f made =
          all-append (SignsHeard service) (opened ++ entry.Drawn (draw.Connection (connection_of b.draw) ticket.name) ∷ [])
          (session_sealed ticket.session (authorize_reply_content nonce (connection_of b.draw)) ∷ (signature ticket.session (take b.link.taken b.link.received) ∷ sealed.seals)) before-signs (
            tt,
            (
              heard,
              subst (λ (x : SealedFrame). Signs service x.seals) (sym (frame-sealed (acceptor_keys (connection_of b.draw)) f sealed made).0)
                  (part-signs service (acceptor_keys (connection_of b.draw)).key (acceptor_keys (connection_of b.draw)).out.fixed (acceptor_keys (connection_of b.draw)).out.counter (plains f)),
            ),
          )

  pub away-signs : (opened : List SealEntry) (why : AuthRefusal) → Signs service opened → Signs service (turns_away b opened why).seals
  away-signs opened (refusal.Malformed place) quiet = quiet
  away-signs opened (refusal.WrongService kept got) quiet = quiet
  away-signs opened (refusal.Ticket why blob) quiet = quiet
  away-signs opened refusal.OutOfMemory quiet = quiet

  -- so a daemon signs in AUTH_DONE's row, where it read these frames
  pub second-signs : (awaited : Awaited) (hello first second : Frame) (more : AuthRequestMore) → awaited.service ≡ service → IsRead b.link.received (hello ∷ first ∷ second ∷ []) b.link.taken
      → payload auth_request_more_layout.form second ≡ Ok more → Signs service (on_second b awaited more.payload).seals
  second-signs awaited hello first second more own read is = by_value (judged_second awaited b.own.view b.reading more.payload).value refl
    where
      quiet : Signs service (judged_second awaited b.own.view b.reading more.payload).seals
      quiet = opening-signs service (judged_second awaited b.own.view b.reading more.payload).seals (second-all awaited b.own.view b.reading more.payload)

      by_value : (r : Result Shown AuthRefusal) → (judged_second awaited b.own.view b.reading more.payload).value ≡ r
          → Signs service (unless_turned_away b (judged_second awaited b.own.view b.reading more.payload).seals r
          (λ shown. authorizes b (judged_second awaited b.own.view b.reading more.payload).seals shown.ticket shown.authorize.nonce)).seals
      by_value (Err why) e = away-signs (judged_second awaited b.own.view b.reading more.payload).seals why quiet
      by_value (Ok shown) e =
          let p : PassesFor awaited.service more.payload = second-service awaited b.own.view b.reading more.payload shown e in
          authorizes-signs (judged_second awaited b.own.view b.reading more.payload).seals shown.ticket shown.authorize.nonce quiet (record {
            received = b.link.received;
            taken = b.link.taken;
            hello = hello;
            first = first;
            second = second;
            read = read;
            bytes_are = refl;
            more = more;
            more_is = is;
            authorizer = p.authorizer;
            spells = p.spells;
            service_is = p.service_is ∙ own;
          })
