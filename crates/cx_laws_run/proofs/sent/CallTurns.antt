-- A turn of a client's link to a daemon, in any stage: what its row comes to, and that only what opened is told where it refuses.
use Rattle.std.proofs.Common.{◌≡◌, ℕ, ◌<◌, ◌^◌, List, [], Option, Some, None, Result, Ok, Err, inl, inr, ◌⊎◌, refl, sym, ◌∙◌, subst}
use Rattle.std.specs.Prelude.{Contains}
use Rattle.cx_laws_sessions.specs.cx_authorize.specs.Client.{Answered, Presented, reply_in}
use Rattle.cx_base.specs.Names.{Name}
use Rattle.cx_base.specs.declared.kinds.EntityType.{EntityType}
use Rattle.cx_base.specs.declared.nodes.NodeName.{NodeName}
use Rattle.cx_control.specs.Hello.{hello_layout}
use Rattle.cx_dice.specs.Draws.{challenge_of, cookie_of}
use Rattle.cx_frame.specs.declared.frame.Frame.{Frame}
use Rattle.cx_journal.specs.declared.entries.Admitted.{Admitted}
use Rattle.cx_journal.specs.declared.entries.Entry.{Entry}
use Rattle.cx_journal.specs.declared.entries.Entry.TheVariants as journal
use Rattle.cx_laws_run.specs.cx_laws_keys.proofs.keys.Known.{HasReply, Inv, Within}
use Rattle.cx_laws_run.specs.cx_laws_keys.proofs.keys.Premises.{AreGranted}
use Rattle.cx_laws_run.specs.cx_laws_keys.proofs.keys.Uses.{Grows, Login, Means, Ticketed, Use, Uses, WholeRun}
use Rattle.cx_laws_sessions.specs.cx_login.specs.Held.{Held}
use Rattle.cx_laws_sessions.specs.cx_rules.specs.Fronts.{opened_parts, sealed_ahead, secure_next, secure_read, taking}
use Rattle.cx_laws_sessions.specs.cx_rules.specs.Links.{Link}
use Rattle.cx_laws_sessions.specs.cx_rules.specs.Holdings.{MonClient}
use Rattle.cx_laws_sessions.specs.cx_rules.specs.Payloads.{due}
use Rattle.cx_laws_sessions.specs.cx_rules.specs.Rows.{Turned, Waits, Refuses, Handles, at, turned_by}
use Rattle.cx_laws_sessions.specs.cx_rules.specs.Secured.{Keys, Secured}
use Rattle.cx_laws_sessions.specs.cx_rules_session.specs.Presenter.{Caller, CallArrival, CallRow, CallStage, AwaitsBanner, AwaitsHello, AwaitsChallenge, AwaitsDone, AwaitsSignature, AwaitsIdent, AwaitsReconnect, Open, on_banner, on_hello, presented, presented_by, turned_at, while_answered, while_challenged}
use Rattle.cx_laws_sessions.specs.cx_rules_session.specs.Sessions.{Called, Callee, ticket_for}
use Rattle.cx_laws_sessions.specs.cx_run.proofs.Taking.{EachRow}
use Rattle.cx_laws_sessions.specs.cx_sealed.specs.declared.authorize_reply.AuthorizeReply.{AuthorizeReply}
use Rattle.cx_laws_links.specs.cx_secure.specs.declared.refusals.SecureRefusal.{SecureRefusal}
use Rattle.cx_steps.specs.declared.seals.Logged.{Logged}
use Rattle.cx_steps.specs.declared.seals.SealEntry.{SealEntry}
use Rattle.cx_laws_sessions.specs.cx_stream.specs.SecureStreams.{secure_frame_at}
use Rattle.cx_laws_sessions.proofs.queues.Sessions.{HeldIs}
use Rattle.cx_laws_links.proofs.links.Authorizing.{ShowsAgain, ShowsFirst, ShutsQuietly, SpeaksFirst, answered-row_at, banner-row, challenged-row, hello-row}
use Rattle.cx_laws_links.proofs.links.CallTurn.{IsHeldOn, quiet-opened}
use Rattle.cx_laws_links.proofs.links.CallTurned.{TurnIs, banner-turned, plain-turned}
use Rattle.cx_laws_links.proofs.links.CallWords.{Identified, KeyedStage, Opened, Reconnecting, SignedOn}
use Rattle.cx_laws_links.proofs.links.IncomingWords.{AreSpelled}
use Rattle.cx_laws_links.proofs.links.Known.{AreTold, CallTold, IsKeyed, IsShown, Told}
use Rattle.cx_laws_links.proofs.answers.CallSilent.{NoEnds, answered-silent, banner-silent, challenged-silent, hello-silent}
use Rattle.cx_laws_links.proofs.answers.CallTurns.{TurnHears, keyed-hears}
use Rattle.cx_laws_run.proofs.sent.CallBehind.{RowBehind, RowKnown, again-behind, first-behind, nothing-behind, shuts-behind, speaks-behind, turn-behind}
use Rattle.cx_laws_run.proofs.sent.CallFits.{CookieFits, RowFits, answered-fits, keyed-fits}
use Rattle.cx_laws_run.proofs.sent.Shown.{IsUnkeyed, SentFits, Unkeyed}
use Rattle.cx_laws_run.proofs.sent.State.{CallFits}

-- a turn of a link that has a key: its row, or what opened where there is none
secure-refuses : (P : CallRow → Type 0) (keys : Keys) (link : Link CallStage) (row : Link CallStage × Frame × Keys → List SealEntry → CallRow) → EachRow P (turned_by row (secure_next keys link))
    → TurnIs P (turned_by row (secure_next keys link))
secure-refuses P keys link row each = by_read (secure_frame_at (sealed_ahead keys link)) each
  where
    by_read : (r : Result (Option (Frame × ℕ)) SecureRefusal) → EachRow P (turned_by row (secure_read keys link (opened_parts (sealed_ahead keys link)) r))
        → TurnIs P (turned_by row (secure_read keys link (opened_parts (sealed_ahead keys link)) r))
    by_read (Ok None) e = tt
    by_read (Ok (Some (f, n))) e = e
    by_read (Err why) e = quiet-opened (sealed_ahead keys link)

module _ (run : WholeRun) (whole : List Logged) (us vs : Uses) (told : Told) (log : List Logged) (J K : List Entry) (n : NodeName) (line : ℕ)
    (one_before : (k : List ℕ) (u v : Use) → Means us k u → Means us k v → u ≡ v) (one : (k : List ℕ) (u v : Use) → Means vs k u → Means vs k v → u ≡ v)
    (f : Grows us vs) (w : Within J K) (i : Inv run whole us log J) (none : (session : Admitted) → Contains K (journal.Admitted session) → Contains J (journal.Admitted session))
    (t : AreTold run us told log J) (spelled : AreSpelled told) (name : Name) (a : CallArrival) (low : challenge_of a.draw < 2 ^ 64) (low_cookie : cookie_of a.draw < 2 ^ 64)
    (held : HeldIs CookieFits a.own.session) where
  -- the session key of a ticket of this entity
  abbrev pub IsOwnSession : List ℕ → Type 0
  IsOwnSession session = Means vs session (Login name) ⊎ ((service : EntityType) × Means vs session (Ticketed name service))

  -- what is known of the link beside what was said: the session keys that it shows, and what opens of a reply; and whose session it is for
  abbrev pub StageKnown : CallStage → Type 0
  StageKnown (AwaitsBanner called) = Unit {0}
  StageKnown (AwaitsHello called) = IsOwnSession (presented called a.own.mon_client (challenge_of a.draw)).held.session
  StageKnown (AwaitsChallenge callee p) = IsOwnSession p.held.session
  StageKnown (AwaitsDone callee answered) =
      (bytes : List ℕ) (x : AuthorizeReply) → (reply_in answered.session bytes).value ≡ Some x → AreGranted run.leaked whole n line log (reply_in answered.session bytes).seals → HasReply us name x
  StageKnown (AwaitsSignature s callee) = Unit {0}
  StageKnown (AwaitsIdent s callee cookie) = Unit {0}
  StageKnown (AwaitsReconnect s callee cookie) = IsHeldOn (SentFits K name) (AwaitsReconnect s callee cookie) (Some cookie) a
  StageKnown (Open s callee cookie) = IsHeldOn (SentFits K name) (Open s callee cookie) (Some cookie) a

  abbrev pub RowIs : CallStage → CallRow → Type 0
  RowIs stage row = AreGranted run.leaked whole n line log row.seals → RowKnown run us vs told log K n line name a.link.number a stage row

  abbrev Silent : CallRow → Type 0
  Silent row = RowBehind run us vs told log K n line name a.link.number [] row

  -- a link that has no key behind its row
  unkeyed-is : (stage : CallStage) (row : CallRow) → ((link : Link CallStage) → row.link ≡ Some link → IsUnkeyed link.stage) → NoEnds row.entries → Silent row
      → RowKnown run us vs told log K n line name a.link.number a stage row
  unkeyed-is stage row keyless ends b = record { shown = Unkeyed keyless ends; behind = b }

  shut-unkeyed : (row : CallRow) → ShutsQuietly row → (link : Link CallStage) → row.link ≡ Some link → IsUnkeyed link.stage
  shut-unkeyed row h link is = none-left link (sym h.link ∙ is)
    where
      none-left : (l : Link CallStage) → (let o : Option (Link CallStage) = None in o ≡ Some l) → IsUnkeyed l.stage
      none-left l e = absurd cc

  shuts-is : (stage : CallStage) (row : CallRow) → NoEnds row.entries → ShutsQuietly row → RowIs stage row
  shuts-is stage row ends h = λ g.
      unkeyed-is stage row (shut-unkeyed row h) ends (shuts-behind run whole us vs told log J K n line one_before one f w i none t spelled name a.link.number [] row h)

  -- a turn behind authentication
  keyed-is : (stage : CallStage) (s : Secured) (before : Option ℕ) → KeyedStage stage s before → (turned : Turned Caller CallStage) → IsKeyed us told log name a.link.number s before
      → EachRow (TurnHears (SentFits K name) a stage s before) turned → EachRow RowFits turned → EachRow (RowIs stage) turned
  keyed-is stage s before keyed Waits k h fits = tt
  keyed-is stage s before keyed (Refuses why opened) k h fits = tt
  keyed-is stage s before keyed (Handles row) k h fits =
      λ g. turn-behind run whole us vs told log J K n line one_before one f w i none t spelled name a.link.number a stage s before refl keyed k row h fits g

  presented-nonce : (called : Called) (mon_client : MonClient) (nonce : ℕ) (found : Option Held) → (presented_by called mon_client found nonce).nonce ≡ nonce
  presented-nonce called mon_client nonce None = refl
  presented-nonce called mon_client nonce (Some found) = refl

  hello-is : (called : Called) → IsOwnSession (presented called a.own.mon_client (challenge_of a.draw)).held.session → (m : ℕ) (row : CallRow) → NoEnds row.entries
      → ShutsQuietly row ⊎ ShowsFirst (at a (taking a.link m)) called.callee (presented called a.own.mon_client (challenge_of a.draw)) row → RowIs (AwaitsHello called) row
  hello-is called known m row ends (inl shuts) = shuts-is (AwaitsHello called) row ends shuts
  hello-is called known m row ends (inr shows) = λ g.
      let nonce = presented-nonce called a.own.mon_client (challenge_of a.draw) (ticket_for called.callee.daemon.kind a.own.mon_client.holdings) in
      unkeyed-is (AwaitsHello called) row (λ link is. subst IsUnkeyed (sym (shows.link link is).0) tt) ends
      (first-behind run whole us vs told log J K n line one_before one f w i none t spelled name a.link.number (at a (taking a.link m)) called.callee
      (presented called a.own.mon_client (challenge_of a.draw)) row refl (subst (λ (k : ℕ). k < 2 ^ 64) (sym nonce) low) known shows g)

  challenged-is : (callee : Callee) (p : Presented) → IsShown told name a.link.number p.nonce → IsOwnSession p.held.session → (m : ℕ) (row : CallRow)
      → NoEnds row.entries → ShutsQuietly row ⊎ ShowsAgain (at a (taking a.link m)) callee p row → RowIs (AwaitsChallenge callee p) row
  challenged-is callee p shown known m row ends (inl shuts) = shuts-is (AwaitsChallenge callee p) row ends shuts
  challenged-is callee p shown known m row ends (inr shows) = λ g.
      unkeyed-is (AwaitsChallenge callee p) row (λ link is. subst IsUnkeyed (sym (shows.link link is).0) tt) ends
      (again-behind run whole us vs told log J K n line one_before one f w i none t spelled name a.link.number (at a (taking a.link m)) callee p row refl shown known shows)

  answered-is : (callee : Callee) (answered : Answered) → IsShown told name a.link.number answered.nonce → StageKnown (AwaitsDone callee answered) → (m : ℕ) (row : CallRow) → RowFits row → NoEnds row.entries
      → ShutsQuietly row ⊎ SpeaksFirst (SentFits K name) (at a (taking a.link m)) callee answered row → RowIs (AwaitsDone callee answered) row
  answered-is callee answered shown known m row fits ends (inl shuts) = shuts-is (AwaitsDone callee answered) row ends shuts
  answered-is callee answered shown known m row fits ends (inr speaks) = λ g.
      speaks-behind run whole us vs told log J K n line one_before one f w i none t spelled name a.link.number (at a (taking a.link m)) callee answered row refl shown known speaks fits ends g
      a (AwaitsDone callee answered)

  pub turn-is : (stage : CallStage) → CallTold us told log name a.link.number stage → CallFits stage → StageKnown stage → TurnIs (RowIs stage) (turned_at a stage)
  turn-is (AwaitsBanner called) h fits known =
      banner-turned (RowIs (AwaitsBanner called)) a.link (λ link _. on_banner (at a link) called)
      (λ m g.
      let shows = banner-row (at a (taking a.link m)) called in
      unkeyed-is (AwaitsBanner called) (on_banner (at a (taking a.link m)) called) (λ link is. subst IsUnkeyed (sym (shows.link link is).0) tt) (banner-silent (at a (taking a.link m)) called)
      (nothing-behind run whole us vs told log J K n line one_before one f w i none t spelled name a.link.number (at a (taking a.link m)) called (on_banner (at a (taking a.link m)) called) refl shows))
  turn-is (AwaitsHello called) h fits known =
      plain-turned (RowIs (AwaitsHello called)) a.link (λ (link, fr) _. on_hello (at a link) called (due 1 hello_layout.form fr))
      (λ fr m. hello-is called known m (on_hello (at a (taking a.link m)) called (due 1 hello_layout.form fr))
      (hello-silent (at a (taking a.link m)) called (due 1 hello_layout.form fr)) (hello-row (at a (taking a.link m)) called (due 1 hello_layout.form fr)))
  turn-is (AwaitsChallenge callee p) h fits known =
      plain-turned (RowIs (AwaitsChallenge callee p)) a.link (λ (link, fr) _. while_challenged (at a link) callee p fr)
      (λ fr m. challenged-is callee p h known m (while_challenged (at a (taking a.link m)) callee p fr)
      (challenged-silent (at a (taking a.link m)) callee p fr) (challenged-row (at a (taking a.link m)) callee p fr))
  turn-is (AwaitsDone callee answered) h fits known =
      plain-turned (RowIs (AwaitsDone callee answered)) a.link (λ (link, fr) _. while_answered (at a link) callee answered fr)
      (λ fr m. answered-is callee answered h known m (while_answered (at a (taking a.link m)) callee answered fr) (answered-fits (at a (taking a.link m)) callee answered fr)
      (answered-silent (at a (taking a.link m)) callee answered fr)
      (answered-row_at (SentFits K name) (at a (taking a.link m)) callee answered fr))
  turn-is (AwaitsSignature s callee) h fits known =
      secure-refuses (RowIs (AwaitsSignature s callee)) s.keys a.link _
      (keyed-is (AwaitsSignature s callee) s None (SignedOn s callee) (turned_at a (AwaitsSignature s callee)) h
      (keyed-hears (SentFits K name) a (AwaitsSignature s callee) s None (SignedOn s callee) tt)
      (keyed-fits a (AwaitsSignature s callee) low_cookie fits held tt))
  turn-is (AwaitsIdent s callee cookie) h fits known =
      secure-refuses (RowIs (AwaitsIdent s callee cookie)) s.keys a.link _
      (keyed-is (AwaitsIdent s callee cookie) s (Some cookie) (Identified s callee cookie) (turned_at a (AwaitsIdent s callee cookie)) h
      (keyed-hears (SentFits K name) a (AwaitsIdent s callee cookie) s (Some cookie) (Identified s callee cookie) tt)
      (keyed-fits a (AwaitsIdent s callee cookie) low_cookie fits held tt))
  turn-is (AwaitsReconnect s callee cookie) h fits known =
      secure-refuses (RowIs (AwaitsReconnect s callee cookie)) s.keys a.link _
      (keyed-is (AwaitsReconnect s callee cookie) s (Some cookie) (Reconnecting s callee cookie) (turned_at a (AwaitsReconnect s callee cookie)) h
      (keyed-hears (SentFits K name) a (AwaitsReconnect s callee cookie) s (Some cookie) (Reconnecting s callee cookie) known)
      (keyed-fits a (AwaitsReconnect s callee cookie) low_cookie fits held tt))
  turn-is (Open s callee cookie) h fits known =
      secure-refuses (RowIs (Open s callee cookie)) s.keys a.link _
      (keyed-is (Open s callee cookie) s (Some cookie) (Opened s callee cookie) (turned_at a (Open s callee cookie)) h
      (keyed-hears (SentFits K name) a (Open s callee cookie) s (Some cookie) (Opened s callee cookie) known)
      (keyed-fits a (Open s callee cookie) low_cookie fits held tt))
