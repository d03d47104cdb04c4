-- What each row of a client's link to a daemon makes of the session with that daemon: it stays, with some of what waits acknowledged or taken up again; it
-- is forgotten; or a new one is opened. So what is so of a session through these is so of the one behind a row. And a link on which a session is asked for
-- behind a row has it asked for under a cookie that is drawn there.
use Rattle.std.proofs.Common.{ℕ, ◌++◌, inl, List, [], ◌∷◌, Option, Some, None, refl}
use Rattle.cx_dice.specs.Draws.{cookie_of}
use Rattle.cx_laws_sessions.proofs.queues.Drawing.{DrawsCookie, some-right}
use Rattle.cx_laws_sessions.proofs.queues.Sessions.{HeldIs}
use Rattle.cx_laws_sessions.proofs.session.Lists.{some-left}
use Rattle.cx_laws_sessions.specs.cx_rules.specs.Links.{Link}
use Rattle.cx_laws_sessions.specs.cx_rules.specs.Rows.{with_opened}
use Rattle.cx_laws_sessions.specs.cx_rules_session.specs.Presenter.{CallArrival, CallRow, CallStage, AwaitsIdent, turned_at}
use Rattle.cx_laws_sessions.specs.cx_rules_session.specs.Sessions.{Callee, HeldSession, acknowledged_up_to, new_session}
use Rattle.cx_laws_sessions.specs.cx_run.proofs.CallWalk.{CallGoes, CallHolds, ClosesCall, Counts, Forgets, Opens, Stays, ToChallenge, ToDone, ToHello, ToIdent, ToOpen, ToReconnect, ToSignature, Took, call-rows}
use Rattle.cx_laws_sessions.specs.cx_run.proofs.Taking.{EachRow}
use Rattle.cx_laws_sessions.specs.cx_steps.specs.Onto.{SomeOf}
use Rattle.cx_laws_sessions.specs.cx_steps.specs.declared.seals.DrawMark.TheVariants as draw
use Rattle.cx_laws_sessions.specs.cx_steps.specs.declared.seals.SealEntry.{SealEntry}
use Rattle.cx_laws_sessions.specs.cx_steps.specs.declared.seals.SealEntry.TheVariants.{Drawn}

-- the cookie under which a session is asked for on a link
abbrev pub awaited : CallStage → Option ℕ
awaited (AwaitsIdent s callee cookie) = Some cookie
awaited _ = None

abbrev pub IsDrawnIn : List SealEntry → Option ℕ → Type 0
IsDrawnIn seals None = Unit {0}
IsDrawnIn seals (Some cookie) = SomeOf (DrawsCookie cookie) seals

-- it is drawn in a row, where a session is asked for on the link behind it
abbrev pub AsksDrawn : List SealEntry → Option (Link CallStage) → Type 0
AsksDrawn seals None = Unit {0}
AsksDrawn seals (Some link) = IsDrawnIn seals (awaited link.stage)

later-drawn : (opened seals : List SealEntry) (o : Option ℕ) → IsDrawnIn seals o → IsDrawnIn (opened ++ seals) o
later-drawn opened seals None h = tt
later-drawn opened seals (Some cookie) h = some-right (DrawsCookie cookie) opened seals h

later-asks : (opened seals : List SealEntry) (left : Option (Link CallStage)) → AsksDrawn seals left → AsksDrawn (opened ++ seals) left
later-asks opened seals None h = tt
later-asks opened seals (Some link) h = later-drawn opened seals (awaited link.stage) h

module _ (Q : HeldSession → Type 0) where
  abbrev pub Held : CallRow → Type 0
  Held row = HeldIs Q row.own.session × AsksDrawn row.seals row.link

  opened-held : (opened : List SealEntry) (row : CallRow) → Held row → Held (with_opened opened row)
  opened-held opened row h = (h.0, later-asks opened row.seals row.link h.1)

  -- where a session is opened on a link, this is so of it
  abbrev pub OpensFor : CallStage → Type 0
  OpensFor (AwaitsIdent s callee cookie) = (server : ℕ) → Q (new_session callee cookie server)
  OpensFor _ = Unit {0}

  pub opens-each : ((callee : Callee) (own server : ℕ) → Q (new_session callee own server)) → (stage : CallStage) → OpensFor stage
  opens-each each (AwaitsIdent s callee cookie) = each callee cookie
  opens-each each _ = tt

  -- it stays where it is taken up again, and where some of what waits is acknowledged
  module _ (again : (count : ℕ) (s : HeldSession) → Q s → Q (record s { connect_seq = count })) (acknowledges_some : (seq : ℕ) (s : HeldSession) → Q s → Q (acknowledged_up_to seq s)) where
    abbrev KeepsHeld : CallArrival → CallRow → Type 0
    KeepsHeld a row = HeldIs Q a.own.session → Held row

    drawn-by : (a : CallArrival) (before next : CallStage) (seals : List SealEntry) → CallGoes a before next seals → IsDrawnIn seals (awaited next)
    drawn-by a _ _ _ (ToHello called) = tt
    drawn-by a _ _ _ (ToChallenge called p is) = tt
    drawn-by a _ _ _ (ToDone callee p opened asked) = tt
    drawn-by a _ _ _ (ToSignature callee answered s seals) = tt
    drawn-by a _ _ _ (ToIdent before s first more) =
        some-left (DrawsCookie (cookie_of a.draw)) (first ++ Drawn (draw.Cookie (cookie_of a.draw)) ∷ []) more
        (some-right (DrawsCookie (cookie_of a.draw)) first (Drawn (draw.Cookie (cookie_of a.draw)) ∷ []) (inl refl))
    drawn-by a _ _ _ (ToReconnect before s session seals is) = tt
    drawn-by a _ _ _ (ToOpen before s cookie seals is) = tt

    holds-on : (before : CallStage) (was now : Option HeldSession) → CallHolds before was now → OpensFor before → HeldIs Q was → HeldIs Q now
    holds-on _ _ _ (Forgets before was) opens ok = tt
    holds-on _ _ _ (Counts before session count) opens ok = again count session ok
    holds-on _ _ _ (Stays before session) opens ok = ok
    holds-on _ _ _ (Took before session seq) opens ok = acknowledges_some seq session ok
    holds-on _ _ _ (Opens s callee cookie server was) opens ok = opens server

    closes-held : (before : CallStage) → OpensFor before → ClosesCall before KeepsHeld
    closes-held before opens = record {
      shut = λ a why seals told ok. (ok, tt);
      went = λ a next bytes seals goes ok. (ok, drawn-by a before next seals goes);
      held = λ a session row holds h ok. h (holds-on before a.own.session session holds opens ok);
      counted = λ a global row h ok. h ok;
      wrote = λ a e row enters h ok. h ok;
      opened = λ a parts row h ok. opened-held parts row (h ok);
    }

    pub call-held : (a : CallArrival) (stage : CallStage) → OpensFor stage → HeldIs Q a.own.session → EachRow Held (turned_at a stage)
    call-held a stage opens ok = call-rows KeepsHeld a Held (λ n ahead row h. h ok) stage (closes-held stage opens)
