-- A frame on a link that awaits the peer's signature is handled by a row of the rules, as it was made.
use Rattle.std.proofs.Common.{◌≡◌, ℕ, Bool, true, false, List, [], ◌∷◌, Result, Ok, Err, IfOk, refl, ap, subst}
use Rattle.std.specs.Prelude.{if◌then◌else◌}
use Rattle.cx_control.specs.Auth.{auth_signature_layout}
use Rattle.cx_control.specs.declared.auth.AuthSignature.{AuthSignature}
use Rattle.cx_frame.specs.declared.frame.Frame.{Frame}
use Rattle.cx_journal.specs.declared.faults.BytesFault.{BytesFault}
use Rattle.cx_journal.specs.declared.faults.LoginFault.TheVariants.{SignatureWrong}
use Rattle.cx_journal.specs.declared.outcomes.Reason.TheVariants.{Login}
use Rattle.cx_link.specs.Sending.{secured_of}
use Rattle.cx_link.specs.Turning.{TakesSecure}
use Rattle.cx_link.specs.Wires.{secured_link}
use Rattle.cx_link.specs.declared.links.Signing.{Signing}
use Rattle.cx_node.specs.cx_rules.specs.Abridged.{abridged_link}
use Rattle.cx_node.specs.cx_rules.specs.Acceptor.{Stage, AwaitsIdent, AwaitsSignature, on_signature}
use Rattle.cx_node.specs.cx_rules.specs.Fronts.{keys_behind, secure_next}
use Rattle.cx_node.specs.cx_rules.specs.Links.{Link}
use Rattle.cx_node.specs.cx_rules.specs.Payloads.{due}
use Rattle.cx_node.specs.cx_rules.specs.Rows.{Arrival, Row, at, goes_on, refuses, turned_by, with_opened}
use Rattle.cx_node.specs.cx_rules.specs.Secured.{Keys, Secured, is_signed, signature_found, under}
use Rattle.cx_steps.specs.declared.seals.SealEntry.{SealEntry}
use Rattle.cx_node.specs.steps.Making.{IsHandled, Makes}
use Rattle.cx_node.specs.steps.Steps.{IsTurn}
use Rattle.cx_node.specs.declared.came.Came.{Came}
use Rattle.cx_node.specs.declared.steps_rows.NoRow.{NoRow}
use Rattle.cx_node.specs.declared.steps_rows.NodeRow.{NodeRow}
use Rattle.cx_node.proofs.steps.Handling.{Coming, Same, secure_turn}

-- ---- at either end

module _ {Own Stage Change : Type 0} (abridged : Link Stage → Link Stage) (changed : Own → Change → Own) (a : Arrival Own Stage) (number : ℕ) where
  -- what signs, and what the signature has to cover, stay
  pub signing_turn : {E : Type 0} (old new : Signing) (stage next : Stage) (f : Frame) (opened : List SealEntry) (rule : Arrival Own Stage → Frame → Secured → Row Own Stage)
      (made : Result (NodeRow (Link Stage) Change) NoRow) (r : Result (Came (Link Stage) Change) E)
      → TakesSecure old.link new.link f [] opened × (new ≡ record old { link = new.link })
      → ((n : ℕ) (s : Secured) → Same abridged (record { a = a; number = number; came = old.link.ahead; n = n; stage = stage; next = next }) (λ b. rule b f s))
      → Makes abridged changed (at a (secured_link number new.link.ahead next)) (rule (at a (secured_link number new.link.ahead next)) f (secured_of new)) made
      → IfOk r (IsHandled a.me number opened made)
      → IfOk r (IsTurn abridged changed a.own (secured_link number old.link.ahead stage)
      (turned_by (λ (link, g, keys) opened. with_opened opened (rule (at (at a (secured_link number old.link.ahead stage)) link) g (under (secured_of old) keys)))
      (secure_next old.link.keys (secured_link number old.link.ahead stage))))
  signing_turn old new stage next f opened rule made r t same m h =
      let MadeBy : Secured → Type 0 = λ s. Makes abridged changed (at a (secured_link number new.link.ahead next))
      (rule (at a (secured_link number new.link.ahead next)) f s) made in
      secure_turn abridged changed a number old.link new.link stage next f opened (λ (b : Arrival Own Stage) (g : Frame) (keys : Keys). rule b g (under (secured_of old) keys)) made r t.0
      (λ (n : ℕ). same n (under (secured_of old) (keys_behind old.link.keys f))) (subst MadeBy (ap (λ (s : Signing). secured_of s) t.1) m) h

-- ---- at an acceptor

-- the link as it awaits the signature of a peer
abbrev awaiting : {Pending Proven Peer : Type 0} → ℕ → Signing → Proven → Link (Stage Pending Proven Peer)
awaiting number signing peer = secured_link number signing.link.ahead (AwaitsSignature (secured_of signing) peer)

module _ {Own Pending Proven Peer : Type 0} where
  signed : (h : Coming Own (Stage Pending Proven Peer)) (s : Secured) (peer : Proven) (right : Bool)
      → Same abridged_link h (λ a. if right then goes_on a (AwaitsIdent s peer) [] (signature_found s ∷ []) else refuses a (Login SignatureWrong) [])
  signed h s peer true = refl
  signed h s peer false = refl

  pub signature-same : (h : Coming Own (Stage Pending Proven Peer)) (s : Secured) (peer : Proven) (read : Result AuthSignature BytesFault)
      → Same abridged_link h (λ a. on_signature a s peer read)
  signature-same h s peer (Err why) = refl
  signature-same h s peer (Ok found) = signed h s peer (is_signed s found.signature)

  pub signature_turn : {Change E : Type 0} (changed : Own → Change → Own) (a : Arrival Own (Stage Pending Proven Peer)) (number : ℕ) (old new : Signing) (peer : Proven)
      (f : Frame) (opened : List SealEntry) (made : Result (NodeRow (Link (Stage Pending Proven Peer)) Change) NoRow)
      (r : Result (Came (Link (Stage Pending Proven Peer)) Change) E) → TakesSecure old.link new.link f [] opened × (new ≡ record old { link = new.link })
      → Makes abridged_link changed (at a (awaiting number new peer)) (on_signature (at a (awaiting number new peer)) (secured_of new) peer (due 7 auth_signature_layout.form f)) made
      → IfOk r (IsHandled a.me number opened made)
      → IfOk r (IsTurn abridged_link changed a.own (awaiting number old peer)
      (turned_by (λ (link, g, keys) opened. with_opened opened
      (on_signature (at (at a (awaiting number old peer)) link) (under (secured_of old) keys) peer (due 7 auth_signature_layout.form g)))
      (secure_next old.link.keys (awaiting number old peer))))
  signature_turn changed a number old new peer f opened made r t m h =
      signing_turn abridged_link changed a number old new (AwaitsSignature (secured_of old) peer) (AwaitsSignature (secured_of new) peer) f opened
      (λ (b : Arrival Own (Stage Pending Proven Peer)) (g : Frame) (s : Secured). on_signature b s peer (due 7 auth_signature_layout.form g)) made r t
      (λ (n : ℕ) (s : Secured). signature-same (record {
        a = a;
        number = number;
        came = old.link.ahead;
        n = n;
        stage = AwaitsSignature (secured_of old) peer;
        next = AwaitsSignature (secured_of new) peer;
      }) s peer (due 7 auth_signature_layout.form f)) m h
