-- What both ends of a link to the monitor say behind AUTH_SIGNATURE, and the frames that say it: what each end has said is a list that stands in no state
-- and only grows. A request is said with the reading at which it was made, which no frame has.
use Rattle.std.proofs.Common.{◌≡◌, ℕ, ◌+◌, ◌<◌, ◌≤◌, ◌^◌, List, [], ◌∷◌, ◌++◌, inl, inr, refl, sym, ap, ◌∙◌, subst, arith}
use Rattle.cx_base.specs.declared.addresses.Addr.{Addr}
use Rattle.cx_control.specs.Idents.{ident_missing_features_layout}
use Rattle.cx_control.specs.Upkeep.{keepalive2_ack_layout}
use Rattle.cx_control.specs.declared.upkeep.Keepalive2Ack.{Keepalive2Ack}
use Rattle.cx_frame.specs.declared.frame.Frame.{Frame}
use Rattle.cx_laws_keys.specs.cx_rules.specs.Acceptor.{server_ident}
use Rattle.cx_laws_keys.specs.cx_rules.specs.Connector.{client_ident}
use Rattle.cx_laws_keys.specs.cx_rules.specs.Holdings.{MonClient}
use Rattle.cx_laws_keys.specs.cx_rules.specs.MonitorRequests.{reply_message}
use Rattle.cx_laws_keys.specs.cx_rules.specs.MonitorRule.{session_reset}
use Rattle.cx_laws_keys.specs.cx_rules.specs.Payloads.{control}
use Rattle.cx_laws_keys.specs.cx_rules.specs.Requests.{request_message}
use Rattle.cx_wire.specs.Bodies.{reply_layout}
use Rattle.cx_wire.specs.declared.bodies.Reply.{Reply}
use Rattle.cx_wire.specs.declared.bodies.Request.{Request}
use Rattle.cx_laws_tickets.proofs.fetch.NextWord.{IsShaped, OneSegment, TwoSegments}
use Rattle.cx_laws_tickets.proofs.fetch.Words.{IsIn}

-- ---- one that logs in

-- CLIENT_IDENT under a global id, with a cookie; a request of this number, made at this reading; KEEPALIVE2_ACK
pub data Asked : Type 0 where
  Idents : MonClient → ℕ → ℕ → Asked
  Asks : ℕ → ℕ → Request → Asked
  Acknowledges : Keepalive2Ack → Asked

abbrev pub asked_frame : Asked → Frame
asked_frame (Idents mon_client gid cookie) = client_ident mon_client gid 1 cookie
asked_frame (Asks number reading request) = request_message number request
asked_frame (Acknowledges ack) = control 19 keepalive2_ack_layout.form ack

pub asked-shaped : (word : Asked) → IsShaped (asked_frame word)
asked-shaped (Idents mon_client gid cookie) = OneSegment 8 _ (omega arith) (omega arith)
asked-shaped (Asks number reading request) = TwoSegments 17 _ _ (omega arith) (omega arith)
asked-shaped (Acknowledges ack) = OneSegment 19 _ (omega arith) (omega arith)

-- ---- the monitor

-- SERVER_IDENT at an address; SESSION_RESET; IDENT_MISSING_FEATURES; a reply under the number of a request; KEEPALIVE2_ACK
pub data Given : Type 0 where
  Greets : Addr → Given
  Resets : Given
  Lacks : ℕ → Given
  Replies : ℕ → Reply → Given
  Confirms : Keepalive2Ack → Given

abbrev pub given_frame : Given → Frame
given_frame (Greets address) = server_ident address 1 0
given_frame Resets = session_reset
given_frame (Lacks features) = control 10 ident_missing_features_layout.form (record { features = features })
given_frame (Replies tid reply) = reply_message tid (reply_layout.form.text reply)
given_frame (Confirms ack) = control 19 keepalive2_ack_layout.form ack

pub given-shaped : (word : Given) → IsShaped (given_frame word)
given-shaped (Greets address) = OneSegment 9 _ (omega arith) (omega arith)
given-shaped Resets = OneSegment 12 _ (omega arith) (omega arith)
given-shaped (Lacks features) = OneSegment 10 _ (omega arith) (omega arith)
given-shaped (Replies tid reply) = TwoSegments 17 _ _ (omega arith) (omega arith)
given-shaped (Confirms ack) = OneSegment 19 _ (omega arith) (omega arith)

-- ---- the numbers of requests

-- the number of the last request, behind one more word
abbrev pub number_after : ℕ → Asked → ℕ
number_after before (Asks number reading request) = number
number_after before (Idents mon_client gid cookie) = before
number_after before (Acknowledges ack) = before

abbrev pub last_number : ℕ → List Asked → ℕ
last_number before [] = before
last_number before (x ∷ xs) = last_number (number_after before x) xs

-- a request has the next number, which can be written
abbrev pub IsNumbered : ℕ → Asked → Type 0
IsNumbered before (Asks number reading request) = (number ≡ before + 1) × (number < 2 ^ 64)
IsNumbered before (Idents mon_client gid cookie) = Unit {0}
IsNumbered before (Acknowledges ack) = Unit {0}

abbrev pub AreNumbered : ℕ → List Asked → Type 0
AreNumbered before [] = Unit {0}
AreNumbered before (x ∷ xs) = IsNumbered before x × AreNumbered (number_after before x) xs

pub last-append : (before : ℕ) (xs ys : List Asked) → last_number before (xs ++ ys) ≡ last_number (last_number before xs) ys
last-append before [] ys = refl
last-append before (x ∷ xs) ys = last-append (number_after before x) xs ys

pub numbered-append : (before : ℕ) (xs ys : List Asked) → AreNumbered before xs → AreNumbered (last_number before xs) ys → AreNumbered before (xs ++ ys)
numbered-append before [] ys h g = g
numbered-append before (x ∷ xs) ys h g = (h.0, numbered-append (number_after before x) xs ys h.1 g)

-- numbers never fall
after-above : (before : ℕ) (x : Asked) → IsNumbered before x → before ≤ number_after before x
after-above before (Asks number reading request) h = let next : number ≡ before + 1 = h.0 in omega (arith, next)
after-above before (Idents mon_client gid cookie) h = omega arith
after-above before (Acknowledges ack) h = omega arith

-- each request has a higher number than those before it
asks-above : (before number reading : ℕ) (request : Request) (xs : List Asked) → AreNumbered before xs → IsIn (Asks number reading request) xs → before < number
asks-above before number reading request [] h there = absurd there
asks-above before number reading request (x ∷ xs) h (inl here) =
    let own : IsNumbered before (Asks number reading request) = subst (λ (y : Asked). IsNumbered before y) here h.0 in
    let next : number ≡ before + 1 = own.0 in
    omega (arith, next)
asks-above before number reading request (x ∷ xs) h (inr later) =
    let less : number_after before x < number = asks-above (number_after before x) number reading request xs h.1 later in
    let above : before ≤ number_after before x = after-above before x h.0 in
    omega (arith, less, above)

abbrev reading_in : Asked → ℕ
reading_in (Asks number reading request) = reading
reading_in (Idents mon_client gid cookie) = 0
reading_in (Acknowledges ack) = 0

-- so two requests of one number are one: they were made at one reading
pub asks-once : (before number first second : ℕ) (one other : Request) (xs : List Asked) → AreNumbered before xs → IsIn (Asks number first one) xs → IsIn (Asks number second other) xs
    → first ≡ second
asks-once before number first second one other [] h a b = absurd a
asks-once before number first second one other (x ∷ xs) h (inl here) (inl there) = ap reading_in (sym here ∙ there)
asks-once before number first second one other (x ∷ xs) h (inl here) (inr later) =
    let above = asks-above (number_after before x) number second other xs h.1 later in
    let same : number_after before x ≡ number = ap (λ (y : Asked). number_after before y) here in
    absurd (omega (arith, above, same))
asks-once before number first second one other (x ∷ xs) h (inr later) (inl there) =
    let above = asks-above (number_after before x) number first one xs h.1 later in
    let same : number_after before x ≡ number = ap (λ (y : Asked). number_after before y) there in
    absurd (omega (arith, above, same))
asks-once before number first second one other (x ∷ xs) h (inr later) (inr behind) = asks-once (number_after before x) number first second one other xs h.1 later behind
