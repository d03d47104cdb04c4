-- What the connector of a link to a daemon says on it behind authentication, and the frames that say it: what each end has said is a list that stands in
-- no state and only grows.
use Rattle.std.proofs.Common.{◌≡◌, ℕ, ◌<◌, Bool, true, false, nat_lt, List, [], ◌∷◌, ◌++◌, Option, Some, None, refl, sym, ap, ◌∙◌, append_assoc}
use Rattle.std.specs.Prelude.{if◌then◌else◌, Contains, map}
use Rattle.std.specs.List.{flat_map}
use Rattle.std.specs.Str.{bytes_eq}
use Rattle.cx_base.specs.declared.operations.Operation.{Operation}
use Rattle.cx_control.specs.Auth.{auth_signature_layout}
use Rattle.cx_control.specs.Upkeep.{keepalive2_ack_layout}
use Rattle.cx_control.specs.declared.upkeep.Keepalive2Ack.{Keepalive2Ack}
use Rattle.cx_frame.specs.declared.frame.Frame.{Frame}
use Rattle.cx_laws_keys.specs.cx_rules.specs.Connector.{client_ident}
use Rattle.cx_laws_keys.specs.cx_rules.specs.Holdings.{MonClient}
use Rattle.cx_laws_keys.specs.cx_rules.specs.Payloads.{control}
use Rattle.cx_laws_tickets.specs.cx_run.specs.cx_rules_session.specs.Sessions.{HeldSession, operation_message, session_reconnect}
use Rattle.cx_secure.specs.Plains.{plains}

-- AUTH_SIGNATURE; CLIENT_IDENT under a global id, with flags and a cookie; SESSION_RECONNECT for a session; an operation with its seq; KEEPALIVE2_ACK
pub data Spoken : Type 0 where
  Signs : List ℕ → Spoken
  Idents : MonClient → ℕ → ℕ → ℕ → Spoken
  Reconnects : MonClient → HeldSession → Spoken
  Orders : ℕ × Operation → Spoken
  KeepsUp : Keepalive2Ack → Spoken

abbrev pub frame_of : Spoken → Frame
frame_of (Signs code) = control 7 auth_signature_layout.form (record { signature = code })
frame_of (Idents mon_client gid flags cookie) = client_ident mon_client gid flags cookie
frame_of (Reconnects mon_client session) = session_reconnect mon_client session
frame_of (Orders order) = operation_message order
frame_of (KeepsUp ack) = control 19 keepalive2_ack_layout.form ack

-- the parts of their frames, in order
abbrev pub parts_of : List Spoken → List (List ℕ)
parts_of xs = flat_map (λ x. plains (frame_of x)) xs

-- the cookie of the session that is spoken of, behind what was said of it last
abbrev pub cookie_after : Option ℕ → Spoken → Option ℕ
cookie_after before (Idents mon_client gid flags cookie) = Some cookie
cookie_after before (Reconnects mon_client session) = Some session.client_cookie
cookie_after before _ = before

abbrev pub cookie_behind : Option ℕ → List Spoken → Option ℕ
cookie_behind before [] = before
cookie_behind before (x ∷ xs) = cookie_behind (cookie_after before x) xs

pub cookie-append : (before : Option ℕ) (xs ys : List Spoken) → cookie_behind before (xs ++ ys) ≡ cookie_behind (cookie_behind before xs) ys
cookie-append before [] ys = refl
cookie-append before (x ∷ xs) ys = cookie-append (cookie_after before x) xs ys

-- the cookies of the sessions that were asked for or taken up
abbrev pub asked_by : Spoken → List ℕ
asked_by (Idents mon_client gid flags cookie) = cookie ∷ []
asked_by (Reconnects mon_client session) = session.client_cookie ∷ []
asked_by _ = []

abbrev pub asked : List Spoken → List ℕ
asked xs = flat_map asked_by xs

pub asked-append : (xs ys : List Spoken) → asked (xs ++ ys) ≡ asked xs ++ asked ys
asked-append [] ys = refl
asked-append (x ∷ xs) ys = ap (λ (l : List ℕ). asked_by x ++ l) (asked-append xs ys) ∙ sym (append_assoc (asked_by x) (asked xs) (asked ys))

pub parts-append : (xs ys : List Spoken) → parts_of (xs ++ ys) ≡ parts_of xs ++ parts_of ys
parts-append [] ys = refl
parts-append (x ∷ xs) ys = ap (λ (l : List (List ℕ)). plains (frame_of x) ++ l) (parts-append xs ys) ∙ sym (append_assoc (plains (frame_of x)) (parts_of xs) (parts_of ys))

-- ---- by key

-- where it was said under this key
abbrev pub if_under : Bool → Spoken → List Spoken → List Spoken
if_under here x rest = if here then x ∷ rest else rest

-- what was said under this key, of all that was said in a run, the oldest first
abbrev pub said_under : List ℕ → List (List ℕ × Spoken) → List Spoken
said_under key [] = []
said_under key (p ∷ all) = if_under (bytes_eq p.0 key) p.1 (said_under key all)

-- these are said under this key
abbrev pub tagged : List ℕ → List Spoken → List (List ℕ × Spoken)
tagged key xs = map (λ x. (key, x)) xs

-- one end's contents: those that begin with the nonce of a connector
abbrev pub is_connectors : List ℕ → Bool
is_connectors [] = false
is_connectors (b ∷ bytes) = nat_lt 127 b
