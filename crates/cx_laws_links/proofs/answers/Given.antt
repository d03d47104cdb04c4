-- What the acceptor of a link to a daemon says on it behind authentication, and the frames that say it: like what connectors spoke, it is a list that stands
-- in no state and only grows.
use Rattle.std.proofs.Common.{◌≡◌, ℕ, ◌≤◌, Bool, false, nat_lt, List, [], ◌∷◌, ◌++◌, Option, Some, refl, sym, ap, ◌∙◌, append_assoc}
use Rattle.std.specs.Prelude.{if◌then◌else◌, map}
use Rattle.std.specs.List.{AllByRecursion, flat_map}
use Rattle.std.specs.Str.{bytes_eq}
use Rattle.cx_base.specs.declared.addresses.Addr.{Addr}
use Rattle.cx_control.specs.Auth.{auth_signature_layout}
use Rattle.cx_control.specs.Idents.{ident_missing_features_layout}
use Rattle.cx_control.specs.Upkeep.{keepalive2_ack_layout}
use Rattle.cx_control.specs.declared.upkeep.Keepalive2Ack.{Keepalive2Ack}
use Rattle.cx_frame.specs.Frames.{total}
use Rattle.cx_frame.specs.declared.frame.Frame.{Frame}
use Rattle.cx_journal.specs.declared.outcomes.Outcome.{Outcome}
use Rattle.cx_laws_links.specs.cx_rules.specs.Acceptor.{server_ident}
use Rattle.cx_laws_links.specs.cx_rules.specs.Messages.{acknowledgement}
use Rattle.cx_laws_links.specs.cx_rules.specs.MonitorRule.{session_reset}
use Rattle.cx_laws_links.specs.cx_rules.specs.Payloads.{control}
use Rattle.cx_laws_links.specs.cx_rules_session.specs.Hosting.{Instruction, answer_message, reconnect_ok, session_retry, session_retry_global}
use Rattle.cx_secure.specs.Plains.{plains}

-- what replies to an ident or a reconnect: SERVER_IDENT of an address, with flags and a cookie; SESSION_RECONNECT_OK; SESSION_RESET; SESSION_RETRY;
-- SESSION_RETRY_GLOBAL
pub data Reply : Type 0 where
  Admits : Addr → ℕ → ℕ → Reply
  Resumes : ℕ → Reply
  Resets : Reply
  Retries : ℕ → Reply
  RetriesGlobal : ℕ → Reply

-- AUTH_SIGNATURE; a reply, with the client's cookie that it replies to; IDENT_MISSING_FEATURES; message 43, with the client's cookie of the session that the
-- link serves; ACK; KEEPALIVE2_ACK
pub data Given : Type 0 where
  Signs : List ℕ → Given
  Replies : ℕ → Reply → Given
  Misses : ℕ → Given
  Answers : ℕ → Instruction → Outcome → Given
  Acks : ℕ → Given
  KeepsUp : Keepalive2Ack → Given

abbrev pub reply_frame : Reply → Frame
reply_frame (Admits address flags cookie) = server_ident address flags cookie
reply_frame (Resumes last) = reconnect_ok last
reply_frame Resets = session_reset
reply_frame (Retries kept) = session_retry kept
reply_frame (RetriesGlobal kept) = session_retry_global kept

abbrev pub given_frame : Given → Frame
given_frame (Signs code) = control 7 auth_signature_layout.form (record { signature = code })
given_frame (Replies cookie reply) = reply_frame reply
given_frame (Misses features) = control 10 ident_missing_features_layout.form (record { features = features })
given_frame (Answers cookie i outcome) = answer_message i outcome
given_frame (Acks seq) = acknowledgement seq
given_frame (KeepsUp ack) = control 19 keepalive2_ack_layout.form ack

-- the parts of their frames, in order
abbrev pub given_parts : List Given → List (List ℕ)
given_parts xs = flat_map (λ x. plains (given_frame x)) xs

pub given-append : (xs ys : List Given) → given_parts (xs ++ ys) ≡ given_parts xs ++ given_parts ys
given-append [] ys = refl
given-append (x ∷ xs) ys = ap (λ (l : List (List ℕ)). plains (given_frame x) ++ l) (given-append xs ys) ∙ sym (append_assoc (plains (given_frame x)) (given_parts xs) (given_parts ys))

-- all that is given fits into frames
abbrev pub FitFrames : List Given → Type 0
FitFrames xs = AllByRecursion (λ (x : Given). total (given_frame x) ≤ 1048576) xs

-- the cookie of the session that was replied to last
abbrev pub served_after : Option ℕ → Given → Option ℕ
served_after before (Replies cookie reply) = Some cookie
served_after before _ = before

abbrev pub served_behind : Option ℕ → List Given → Option ℕ
served_behind before [] = before
served_behind before (x ∷ xs) = served_behind (served_after before x) xs

pub served-append : (before : Option ℕ) (xs ys : List Given) → served_behind before (xs ++ ys) ≡ served_behind (served_behind before xs) ys
served-append before [] ys = refl
served-append before (x ∷ xs) ys = served-append (served_after before x) xs ys

-- ---- replies

-- the cookies that were replied to
abbrev pub replied_by : Given → List ℕ
replied_by (Replies cookie reply) = cookie ∷ []
replied_by _ = []

abbrev pub replied : List Given → List ℕ
replied xs = flat_map replied_by xs

pub replied-append : (xs ys : List Given) → replied (xs ++ ys) ≡ replied xs ++ replied ys
replied-append [] ys = refl
replied-append (x ∷ xs) ys = ap (λ (l : List ℕ). replied_by x ++ l) (replied-append xs ys) ∙ sym (append_assoc (replied_by x) (replied xs) (replied ys))

-- ---- by key

-- what was given under this key, of all that was given in a run, the oldest first
abbrev pub if_given : Bool → Given → List Given → List Given
if_given here x rest = if here then x ∷ rest else rest

abbrev pub given_under : List ℕ → List (List ℕ × Given) → List Given
given_under key [] = []
given_under key (p ∷ all) = if_given (bytes_eq p.0 key) p.1 (given_under key all)

-- these are given under this key
abbrev pub gives_under : List ℕ → List Given → List (List ℕ × Given)
gives_under key xs = map (λ x. (key, x)) xs

-- one end's contents: those that begin with the nonce of an acceptor
abbrev pub is_acceptors : List ℕ → Bool
is_acceptors [] = false
is_acceptors (b ∷ bytes) = nat_lt b 128
