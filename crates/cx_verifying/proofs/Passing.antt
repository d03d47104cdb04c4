-- What comes of an authorizer, behind what opened of it.
use Rattle.std.proofs.Common.{◌≡◌, ◌∙◌, ℕ, List, [], ◌∷◌, ◌++◌, inl, inr, Result, Ok, Err, refl, sym, ap, append-nil, append_assoc}
use Rattle.cx_authorize.specs.Daemon.{Authority}
use Rattle.cx_authorize.specs.Judging.{IsChecked, Judged}
use Rattle.cx_authorize.specs.declared.judging.Shown.{Shown}
use Rattle.cx_authorize.specs.declared.refusals.AuthRefusal.{AuthRefusal}
use Rattle.cx_authorize.specs.declared.refusals.AuthRefusal.TheVariants as refusal
use Rattle.cx_rules_session.specs.cx_dice.specs.Draws.{challenge_of, connection_of}
use Rattle.cx_journal.specs.declared.faults.BytesFault.{BytesFault}
use Rattle.cx_journal.specs.declared.faults.BytesFault.TheVariants.{Malformed}
use Rattle.cx_journal.specs.declared.outcomes.Reason.TheVariants as reason
use Rattle.cx_node.specs.cx_rules.specs.Abridged.{abridged_link}
use Rattle.cx_node.specs.cx_rules.specs.Acceptor.{AwaitsProof, Finished, denies_for, finished}
use Rattle.cx_node.specs.cx_rules.specs.Rows.{goes_on, refuses_bytes, unless_refused, with_opened}
use Rattle.cx_node.specs.cx_rules.specs.Secured.{plain_frame}
use Rattle.cx_rules_session.specs.Envelopes.{authorize_challenge_content, authorize_reply_content, sends_holding, session_sealed}
use Rattle.cx_rules_session.specs.IncomingLinks.{IncomingArrival, IncomingRow, IncomingStage, authority_of, authorized_frame, authorizes, challenges, done_sent, looked_entry, on_judged, sealed_challenge_frame, ticket_fault, turns_away, unless_turned_away}
use Rattle.cx_rules_session.specs.Kinds.{entered_before}
use Rattle.cx_authorize.specs.cx_sealed.specs.declared.service_ticket.ServiceTicket.{ServiceTicket}
use Rattle.cx_steps.specs.declared.seals.DrawMark.TheVariants as draw
use Rattle.cx_steps.specs.declared.seals.SealEntry.{SealEntry}
use Rattle.cx_steps.specs.declared.seals.SealEntry.TheVariants.{Drawn}
use Rattle.cx_node.specs.steps.Making.{row_due}
use Rattle.cx_node.specs.declared.steps_rows.NoRow.{NoRow}
use Rattle.cx_node.specs.declared.steps_rows.NoRow.TheVariants.{OutOfMemory}
use Rattle.cx_node.specs.declared.steps_rows.NodeRow.{NodeRow}
use Rattle.cx_node.proofs.steps.MadeRows.{makes_as}
use Rattle.cx_verifying.specs.Rows.{MakesRow, unchanged}
use Rattle.cx_verifying.specs.Stages.{IncomingLink}

-- ---- rows behind what opened before them

pub away_behind : (a : IncomingArrival) (opened : List SealEntry) (why : AuthRefusal) → with_opened opened (turns_away a [] why) ≡ turns_away a opened why
away_behind a opened (refusal.Malformed place) = ap (λ (seals : List SealEntry). refuses_bytes a (Malformed place) seals) (append-nil opened)
away_behind a opened (refusal.WrongService kept got) = ap (λ (seals : List SealEntry). denies_for a 13 (reason.WrongService kept got) seals) (append-nil opened)
away_behind a opened (refusal.Ticket why blob) = ap (λ (seals : List SealEntry). denies_for a 13 (reason.Ticket (ticket_fault why) blob) seals) (append-nil opened)
away_behind a opened refusal.OutOfMemory = ap (λ (seals : List SealEntry). refuses_bytes a (Malformed 0) seals) (append-nil opened)

pub holding_behind : (a : IncomingArrival) (stage : IncomingStage) (opened before held : List SealEntry) (made : Result (List ℕ) BytesFault)
    → with_opened opened (unless_refused a before made (λ bytes. goes_on a stage bytes (before ++ held)))
    ≡ unless_refused a (opened ++ before) made (λ bytes. goes_on a stage bytes ((opened ++ before) ++ held))
holding_behind a stage opened before held (Ok bytes) = simp append_assoc
holding_behind a stage opened before held (Err why) = refl

pub done_behind : (a : IncomingArrival) (opened before held : List SealEntry) (authority : Authority) (finishing : Result Finished BytesFault)
    → with_opened opened (done_sent a before held authority finishing) ≡ done_sent a (opened ++ before) held authority finishing
done_behind a opened before held authority (Ok done) = simp append_assoc
done_behind a opened before held authority (Err why) = refl

-- the row by which a challenge is sent to the holder of this session key
abbrev pub challenge_row : IncomingArrival → List ℕ → IncomingRow
challenge_row a session =
    sends_holding a (AwaitsProof (record { service = a.own.name.kind; challenge = challenge_of a.draw })) []
    (session_sealed session (authorize_challenge_content (challenge_of a.draw)) ∷ []) (sealed_challenge_frame session (challenge_of a.draw))

-- and the one by which the reply to a nonce is sent
abbrev pub reply_row : IncomingArrival → Shown → IncomingRow
reply_row a shown =
    done_sent a [] (session_sealed shown.ticket.session (authorize_reply_content shown.authorize.nonce (connection_of a.draw)) ∷ []) (authority_of a shown.ticket)
    (finished a.link shown.ticket.session (connection_of a.draw) (authorized_frame shown.ticket shown.authorize.nonce (connection_of a.draw)))

-- AUTH_REPLY_MORE with a challenge, behind what opened of the authorizer
pub challenges_behind : (a : IncomingArrival) (opened : List SealEntry) (ticket : ServiceTicket) → with_opened opened (challenges a [] ticket) ≡ challenges a opened ticket
challenges_behind a opened ticket =
    let challenge = challenge_of a.draw in
    holding_behind a (AwaitsProof (record { service = a.own.name.kind; challenge = challenge })) opened (Drawn (draw.Challenge challenge) ∷ [])
    (session_sealed ticket.session (authorize_challenge_content challenge) ∷ []) (plain_frame (sealed_challenge_frame ticket.session challenge))

-- AUTH_DONE, likewise
pub authorizes_behind : (a : IncomingArrival) (opened : List SealEntry) (ticket : ServiceTicket) (nonce : ℕ) → with_opened opened (authorizes a [] ticket nonce) ≡ authorizes a opened ticket nonce
authorizes_behind a opened ticket nonce =
    let secret = connection_of a.draw in
    done_behind a opened (Drawn (draw.Connection secret ticket.name) ∷ []) (session_sealed ticket.session (authorize_reply_content nonce secret) ∷ []) (authority_of a ticket)
    (finished a.link ticket.session secret (authorized_frame ticket nonce secret))

-- ---- by what was judged

module _ {A : Type 0} (a : IncomingArrival) (j : Judged AuthRefusal Shown) (Passes : Shown → A → Type 0) (opened : List SealEntry)
    (next : List SealEntry → Shown → IncomingRow) (made : Result (NodeRow IncomingLink (Unit {0})) NoRow) where
  abbrev judged_row : Result Shown AuthRefusal → IncomingRow
  judged_row value = entered_before (looked_entry a) (unless_turned_away a j.seals value (next j.seals))

  pub passed_makes : (passed : A) → IsChecked j Passes [] opened (Ok passed)
      → ((shown : Shown) → Passes shown passed → MakesRow a (entered_before (looked_entry a) (next opened shown)) made)
      → MakesRow a (on_judged a j (next j.seals)) made
  passed_makes passed (shown, value, passes, new) goes =
      let entered : List SealEntry → IncomingRow = λ seals. entered_before (looked_entry a) (next seals shown) in
      makes_as abridged_link unchanged a (entered opened) (judged_row j.value) made
      (ap (λ (row : IncomingRow). row_due abridged_link row) (ap judged_row value ∙ ap entered (sym new))) (goes shown passes)

  pub refused_makes : (why : AuthRefusal) → IsChecked {A = A} j Passes [] opened (Err why)
      → MakesRow a (entered_before (looked_entry a) (turns_away a opened why)) made → (why ≡ refusal.OutOfMemory → made ≡ Err OutOfMemory)
      → MakesRow a (on_judged a j (next j.seals)) made
  refused_makes why (inl wanting) row gives = rw (gives wanting) tt
  refused_makes why (inr (value, new)) row gives =
      let entered : List SealEntry → IncomingRow = λ seals. entered_before (looked_entry a) (turns_away a seals why) in
      makes_as abridged_link unchanged a (entered opened) (judged_row j.value) made
      (ap (λ (r : IncomingRow). row_due abridged_link r) (ap judged_row value ∙ ap entered (sym new))) row
