-- The row by which one that logs in answers the monitor's challenge: it draws a challenge of its own, and seals nothing; what it sent then tells that challenge.
use Rattle.std.proofs.Common.{◌≡◌, ◌==◌, ℕ, Bool, true, false, List, Result, Ok, Err, inl, inr, refl}
use Rattle.std.specs.Prelude.{if◌then◌else◌, IfSome}
use Rattle.std.specs.List.{AllByRecursion}
use Rattle.cx_base.specs.Names.{Name}
use Rattle.cx_control.specs.Auth.{auth_reply_more_layout}
use Rattle.cx_control.specs.BadMethod.{bad_method_layout}
use Rattle.cx_control.specs.declared.auth.AuthReplyMore.{AuthReplyMore}
use Rattle.cx_dice.specs.Draws.{challenge_of}
use Rattle.cx_frame.specs.Frames.{frame_text}
use Rattle.cx_frame.specs.declared.frame.Frame.{Frame}
use Rattle.cx_journal.specs.declared.faults.BytesFault.{BytesFault}
use Rattle.cx_laws_tickets.specs.cx_laws_keys.proofs.keys.Uses.{Means, Secret, Uses}
use Rattle.cx_laws_tickets.specs.cx_rules_session.specs.cx_rules.specs.Connector.{MonClientArrival, MonClientRow, AwaitsDone, Stage, on_bad_method, on_challenge, on_reply_more, proves, while_challenged}
use Rattle.cx_laws_tickets.specs.cx_rules_session.specs.cx_rules.specs.Judged.{LogsDraw}
use Rattle.cx_laws_tickets.specs.cx_rules_session.specs.cx_rules.specs.Links.{Link}
use Rattle.cx_laws_tickets.specs.cx_rules_session.specs.cx_rules.specs.Payloads.{due, payload, whole}
use Rattle.cx_steps.specs.declared.seals.DrawMark.TheVariants as draw
use Rattle.cx_steps.specs.declared.seals.SealEntry.{SealEntry}
use Rattle.cx_wire.specs.Logins.{server_challenge_layout}
use Rattle.cx_wire.specs.declared.logins.ServerChallenge.{ServerChallenge}
use Rattle.cx_laws_tickets.proofs.fetch.MonClientFacts.{Drew, HasAnswered}
use Rattle.cx_laws_tickets.proofs.fetch.Handed.{IsNoLogin, IsPlain}
use Rattle.cx_laws_tickets.proofs.fetch.RowWords.{AreQuiet}
use Rattle.cx_laws_tickets.proofs.fetch.WrittenFrames.{answer_frame}

-- the link waits for AUTH_DONE, and the challenge of the draw is logged
pub record DrewRow (us : Uses) (a : MonClientArrival) (row : MonClientRow) : Type 0 where
  pub plain : AllByRecursion (IsPlain us) row.seals
  pub quiet : AreQuiet row.seals
  pub link : IfSome row.link (λ (l : Link Stage). (l.stage ≡ AwaitsDone) × (l.number ≡ a.link.number) × LogsDraw (draw.Challenge (challenge_of a.draw)) row.seals)

secret-no-login : (name : Name) → IsNoLogin (Secret name)
secret-no-login name other e = cc

module _ (us : Uses) (name : Name) (a : MonClientArrival) (own : Means us a.own.secret (Secret name)) where
  proves-drew : (server : ℕ) (r : Result (List ℕ) BytesFault) → DrewRow us a (proves a server r)
  proves-drew server (Err why) = record { plain = (tt, tt); quiet = (tt, tt); link = tt }
  proves-drew server (Ok bytes) =
      record { plain = (tt, (inl (Secret name, own, secret-no-login name), tt)); quiet = (tt, (tt, tt)); link = (refl, refl, inl refl) }

  challenge-drew : (asked : ℕ) (read : Result ServerChallenge BytesFault) → DrewRow us a (on_challenge a asked read)
  challenge-drew asked (Err why) = record { plain = tt; quiet = tt; link = tt }
  challenge-drew asked (Ok server) = proves-drew server.challenge _

  more-drew : (asked : ℕ) (read : Result AuthReplyMore BytesFault) → DrewRow us a (on_reply_more a asked read)
  more-drew asked (Err why) = record { plain = tt; quiet = tt; link = tt }
  more-drew asked (Ok more) = challenge-drew asked (whole server_challenge_layout.form more.payload)

  method-drew : (read : Result (ℕ × (ℕ × (List ℕ × List ℕ))) BytesFault) → DrewRow us a (on_bad_method a read)
  method-drew (Err why) = record { plain = tt; quiet = tt; link = tt }
  method-drew (Ok fields) = record { plain = tt; quiet = tt; link = tt }

  pub challenged-drew : (asked : ℕ) (f : Frame) → DrewRow us a (while_challenged a asked f)
  challenged-drew asked f = by_test (f.tag == 3)
    where
      by_test : (denied : Bool) → DrewRow us a (if denied then on_bad_method a (payload bad_method_layout.form f) else on_reply_more a asked (due 4 auth_reply_more_layout.form f))
      by_test true = method-drew (payload bad_method_layout.form f)
      by_test false = more-drew asked (due 4 auth_reply_more_layout.form f)

-- what was sent tells a challenge; where none was drawn before, it is that of the draw
pub record OwnAnswered (D : ℕ → Frame → Type 0) (sent : List ℕ) (challenge : ℕ) : Type 0 where
  pub answered : HasAnswered D sent
  pub is : answered.challenge ≡ challenge

pub drew-answered : (D : ℕ → Frame → Type 0) (block : List ℕ) (seals : List SealEntry) (bytes sent : List ℕ)
    → ((c : ℕ) (f : Frame) → c ≡ challenge_of block → LogsDraw (draw.Challenge c) seals → bytes ≡ frame_text f → D c f) → HasAnswered (Drew (λ (_ : ℕ) (_ : Frame). ⊥) block seals bytes) sent
    → OwnAnswered D sent (challenge_of block)
drew-answered D block seals bytes sent drew h = by_own h.own
  where
    by_own : Drew (λ (_ : ℕ) (_ : Frame). ⊥) block seals bytes h.challenge (answer_frame h.ask h.server h.challenge) → OwnAnswered D sent (challenge_of block)
    by_own (inl none) = absurd none
    by_own (inr (drawn, logs, is)) = record {
      answered = record { kind = h.kind; mon_client = h.mon_client; ask = h.ask; server = h.server; challenge = h.challenge; written = h.written; own = drew h.challenge (answer_frame h.ask h.server h.challenge) drawn logs is };
      is = drawn;
    }
