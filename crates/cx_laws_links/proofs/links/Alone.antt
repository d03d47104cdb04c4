-- What each row of a client's link to a daemon keeps: the link's number, the daemon that it calls, and that a link that takes a session up, or has it open,
-- is that of the session that is held.
use Rattle.std.proofs.Common.{◌≡◌, ℕ, ◌==◌, Bool, true, false, List, [], ◌∷◌, Option, Some, None, inl, inr, ◌⊎◌, refl, sym, ap, ◌∙◌, subst}
use Rattle.std.specs.List.{AllByRecursion}
use Rattle.cx_base.specs.declared.operations.Operation.{Operation}
use Rattle.cx_control.specs.Auth.{auth_done_layout, auth_reply_more_layout}
use Rattle.cx_control.specs.Hello.{hello_layout}
use Rattle.cx_dice.specs.Draws.{challenge_of}
use Rattle.cx_frame.specs.declared.frame.Frame.{Frame}
use Rattle.cx_laws_keys.specs.cx_rules.specs.Fronts.{banner_next, plain_next, secure_next, taking}
use Rattle.cx_laws_keys.specs.cx_rules.specs.Links.{Link}
use Rattle.cx_laws_keys.specs.cx_rules.specs.Payloads.{due}
use Rattle.cx_laws_keys.specs.cx_rules.specs.Rows.{Turned, Waits, Refuses, Handles, at}
use Rattle.cx_laws_keys.specs.cx_rules.specs.Secured.{Secured}
use Rattle.cx_laws_tickets.specs.cx_run.specs.cx_rules_session.specs.Presenter.{Caller, CallArrival, CallRow, CallStage, AwaitsBanner, AwaitsHello, AwaitsChallenge, AwaitsDone, AwaitsSignature, AwaitsIdent, AwaitsReconnect, Open, callee_of, on_banner, on_hello, presented, turned_at, while_answered, while_challenged}
use Rattle.cx_laws_tickets.specs.cx_run.specs.cx_rules_session.specs.Sessions.{Called, Callee, HeldSession}
use Rattle.cx_laws_tickets.specs.cx_run.proofs.Taking.{EachRow}
use Rattle.cx_laws_links.proofs.links.Authorizing.{ShowsAgain, ShowsFirst, ShowsNothing, ShutsQuietly, SpeaksFirst, answered-row_at, banner-row, challenged-row, hello-row}
use Rattle.cx_laws_links.proofs.links.CallTurn.{TurnSays, keyed-turn}
use Rattle.cx_laws_links.proofs.links.CallTurned.{TurnIs, banner-turned, plain-turned}
use Rattle.cx_laws_links.proofs.links.CallWords.{HeldAt, Identified, IsHeldHere, Opened, Reconnecting, Says, SignedOn}

-- what is so of the link behind a row, where it goes on
pub record RowKeeps (number : ℕ) (callee : Callee) (row : CallRow) : Type 0 where
  pub link : (link : Link CallStage) → row.link ≡ Some link → (link.number ≡ number) × (callee_of link.stage ≡ callee) × HeldAt row.own.session link.stage

-- nothing is asked of the operations that wait
abbrev pub Anything : ℕ → ℕ × Operation → Type 0
Anything cookie order = Unit {0}

all-anything : (cookie : ℕ) (orders : List (ℕ × Operation)) → AllByRecursion (Anything cookie) orders
all-anything cookie [] = tt
all-anything cookie (order ∷ orders) = (tt, all-anything cookie orders)

pub here-of : (cookie : ℕ) (session : Option HeldSession) → ((s : HeldSession) → session ≡ Some s → s.client_cookie ≡ cookie) → IsHeldHere Anything (Some cookie) session
here-of cookie None same = tt
here-of cookie (Some s) same = (ap (λ (k : ℕ). let o : Option ℕ = Some k in o) (sym (same s refl)), all-anything s.client_cookie s.queue.waiting)

shuts-keeps : (number : ℕ) (callee : Callee) (row : CallRow) → ShutsQuietly row → RowKeeps number callee row
shuts-keeps number callee row h = record { link = λ link is. none-there link (sym h.link ∙ is) }
  where
    none-there : (link : Link CallStage) → (let o : Option (Link CallStage) = None in o ≡ Some link) → (link.number ≡ number) × (callee_of link.stage ≡ callee) × HeldAt row.own.session link.stage
    none-there link e = absurd cc

-- a stage that comes before a key is that of no session
hello-held : (session : Option HeldSession) (called : Called) → HeldAt session (AwaitsHello called)
hello-held None called = tt
hello-held (Some s) called = tt

keeps-at : (number : ℕ) (callee : Callee) (row : CallRow) (stage : CallStage) → callee_of stage ≡ callee → ((session : Option HeldSession) → HeldAt session stage)
    → ((link : Link CallStage) → row.link ≡ Some link → (link.stage ≡ stage) × (link.number ≡ number)) → RowKeeps number callee row
keeps-at number callee row stage calls held link = record {
  link = λ l is. let both = link l is in
      (both.1, ap callee_of both.0 ∙ calls, subst (λ (st : CallStage). HeldAt row.own.session st) (sym both.0) (held row.own.session));
}

says-keeps : (number : ℕ) (s : Secured) (callee : Callee) (before : Option ℕ) (row : CallRow) → TurnSays Anything number s callee before row → RowKeeps number callee row
says-keeps number s callee before row h = record { link = λ link is. ((h.says.link link is).3, h.says.calls link is, h.says.held link is) }

each-says : (number : ℕ) (s : Secured) (callee : Callee) (before : Option ℕ) (turned : Turned Caller CallStage) → EachRow (TurnSays Anything number s callee before) turned
    → EachRow (RowKeeps number callee) turned
each-says number s callee before Waits h = tt
each-says number s callee before (Refuses why opened) h = tt
each-says number s callee before (Handles row) h = says-keeps number s callee before row h

row-of : (P : CallRow → Type 0) (turned : Turned Caller CallStage) → TurnIs P turned → EachRow P turned
row-of P Waits h = tt
row-of P (Refuses why opened) h = tt
row-of P (Handles row) h = h

pub row-keeps : (a : CallArrival) (stage : CallStage) → HeldAt a.own.session stage → EachRow (RowKeeps a.link.number (callee_of stage)) (turned_at a stage)
row-keeps a (AwaitsBanner called) held =
    row-of (RowKeeps a.link.number called.callee) (turned_at a (AwaitsBanner called))
    (banner-turned (RowKeeps a.link.number called.callee) a.link (λ link _. on_banner (at a link) called)
    (λ m. keeps-at a.link.number called.callee (on_banner (at a (taking a.link m)) called) (AwaitsHello called) refl (λ session. hello-held session called)
    (banner-row (at a (taking a.link m)) called).link))
row-keeps a (AwaitsHello called) held =
    row-of (RowKeeps a.link.number called.callee) (turned_at a (AwaitsHello called))
    (plain-turned (RowKeeps a.link.number called.callee) a.link (λ (link, f) _. on_hello (at a link) called (due 1 hello_layout.form f))
    (λ f m. by_row m (on_hello (at a (taking a.link m)) called (due 1 hello_layout.form f)) (hello-row (at a (taking a.link m)) called (due 1 hello_layout.form f))))
  where
    challenge-held : (session : Option HeldSession) → HeldAt session (AwaitsChallenge called.callee (presented called a.own.mon_client (challenge_of a.draw)))
    challenge-held None = tt
    challenge-held (Some s) = tt

    by_row : (m : ℕ) (row : CallRow) → ShutsQuietly row ⊎ ShowsFirst (at a (taking a.link m)) called.callee (presented called a.own.mon_client (challenge_of a.draw)) row → RowKeeps a.link.number called.callee row
    by_row m row (inl shuts) = shuts-keeps a.link.number called.callee row shuts
    by_row m row (inr shows) = keeps-at a.link.number called.callee row (AwaitsChallenge called.callee (presented called a.own.mon_client (challenge_of a.draw))) refl challenge-held shows.link
row-keeps a (AwaitsChallenge callee p) held =
    row-of (RowKeeps a.link.number callee) (turned_at a (AwaitsChallenge callee p))
    (plain-turned (RowKeeps a.link.number callee) a.link (λ (link, f) _. while_challenged (at a link) callee p f)
    (λ f m. by_row m (while_challenged (at a (taking a.link m)) callee p f) (challenged-row (at a (taking a.link m)) callee p f)))
  where
    done-held : (session : Option HeldSession) → HeldAt session (AwaitsDone callee (record { session = p.held.session; nonce = p.nonce }))
    done-held None = tt
    done-held (Some s) = tt

    by_row : (m : ℕ) (row : CallRow) → ShutsQuietly row ⊎ ShowsAgain (at a (taking a.link m)) callee p row → RowKeeps a.link.number callee row
    by_row m row (inl shuts) = shuts-keeps a.link.number callee row shuts
    by_row m row (inr shows) = keeps-at a.link.number callee row (AwaitsDone callee (record { session = p.held.session; nonce = p.nonce })) refl done-held shows.link
row-keeps a (AwaitsDone callee answered) held =
    row-of (RowKeeps a.link.number callee) (turned_at a (AwaitsDone callee answered))
    (plain-turned (RowKeeps a.link.number callee) a.link (λ (link, f) _. while_answered (at a link) callee answered f)
    (λ f m. by_row m (while_answered (at a (taking a.link m)) callee answered f) (answered-row_at Anything (at a (taking a.link m)) callee answered f)))
  where
    by_row : (m : ℕ) (row : CallRow) → ShutsQuietly row ⊎ SpeaksFirst Anything (at a (taking a.link m)) callee answered row → RowKeeps a.link.number callee row
    by_row m row (inl shuts) = shuts-keeps a.link.number callee row shuts
    by_row m row (inr speaks) = record { link = λ link is. ((speaks.says.link link is).3, speaks.says.calls link is, speaks.says.held link is) }
row-keeps a (AwaitsSignature s callee) held =
    each-says a.link.number s callee None (turned_at a (AwaitsSignature s callee)) (keyed-turn Anything a (AwaitsSignature s callee) s None (SignedOn s callee) tt)
row-keeps a (AwaitsIdent s callee cookie) held =
    each-says a.link.number s callee (Some cookie) (turned_at a (AwaitsIdent s callee cookie)) (keyed-turn Anything a (AwaitsIdent s callee cookie) s (Some cookie) (Identified s callee cookie) tt)
row-keeps a (AwaitsReconnect s callee cookie) held =
    each-says a.link.number s callee (Some cookie) (turned_at a (AwaitsReconnect s callee cookie))
    (keyed-turn Anything a (AwaitsReconnect s callee cookie) s (Some cookie) (Reconnecting s callee cookie) (here-of cookie a.own.session (λ session is. by_held a.own.session session is held)))
  where
    by_held : (session : Option HeldSession) (found : HeldSession) → session ≡ Some found → HeldAt session (AwaitsReconnect s callee cookie) → found.client_cookie ≡ cookie
    by_held None found is h = absurd cc
    by_held (Some one) found is h = let same : one ≡ found = cc in ap (λ (x : HeldSession). x.client_cookie) (sym same) ∙ h
row-keeps a (Open s callee cookie) held =
    each-says a.link.number s callee (Some cookie) (turned_at a (Open s callee cookie))
    (keyed-turn Anything a (Open s callee cookie) s (Some cookie) (Opened s callee cookie) (here-of cookie a.own.session (λ session is. by_held a.own.session session is held)))
  where
    by_held : (session : Option HeldSession) (found : HeldSession) → session ≡ Some found → HeldAt session (Open s callee cookie) → found.client_cookie ≡ cookie
    by_held None found is h = absurd cc
    by_held (Some one) found is h = let same : one ≡ found = cc in ap (λ (x : HeldSession). x.client_cookie) (sym same) ∙ h
