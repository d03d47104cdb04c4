-- What opens of a login, and of a reply on the open link: nothing else is logged of either.
use Rattle.std.proofs.Common.{◌==◌, ℕ, Bool, true, false, List, [], ◌∷◌, Option, Some, None, Result, Ok, Err}
use Rattle.std.specs.Prelude.{if◌then◌else◌}
use Rattle.std.specs.List.{AllByRecursion}
use Rattle.cx_enc.specs.Forms.{Form}
use Rattle.cx_frame.specs.declared.frame.Frame.{Frame}
use Rattle.cx_journal.specs.declared.faults.BytesFault.{BytesFault}
use Rattle.cx_journal.specs.declared.premises.KeyKind.{KeyKind}
use Rattle.cx_laws_tickets.specs.cx_laws_keys.proofs.keys.Lists.{all-append}
use Rattle.cx_laws_tickets.specs.cx_login.specs.Held.{Held, held_as}
use Rattle.cx_laws_tickets.specs.cx_login.specs.Unlocking.{Unlocked, ◌>>=◌, going_on, login_of_parts, made, told, told_each, unlocked, unlocked_as}
use Rattle.cx_laws_tickets.specs.cx_login.specs.declared.client.LoggedIn.{LoggedIn}
use Rattle.cx_laws_tickets.specs.cx_sealed.specs.Records.{connection_secret_layout, ticket_info_layout, rotating_reply_layout}
use Rattle.cx_laws_tickets.specs.cx_sealed.specs.Unsealing.{unsealed}
use Rattle.cx_laws_tickets.specs.cx_sealed.specs.declared.unsealed.Unsealed.{Unsealed}
use Rattle.cx_steps.specs.declared.seals.SealEntry.{SealEntry}
use Rattle.cx_steps.specs.declared.seals.SealMark.{SealMark}
use Rattle.cx_wire.specs.declared.tickets.TicketPart.{TicketPart}
use Rattle.cx_journal.specs.declared.faults.BytesFault.TheVariants.{Unexpected}
use Rattle.cx_laws_keys.specs.cx_rules.specs.Messages.{Message, body_as, message_in}
use Rattle.cx_laws_keys.specs.cx_rules.specs.Requests.{Requests, body_taken, message_taken, reply_taken, rotating_taken, taken, tickets_taken, waiting_taken}
use Rattle.cx_laws_keys.specs.cx_rules.specs.declared.messages.Body.{Body}
use Rattle.cx_laws_keys.specs.cx_rules.specs.declared.messages.Body.TheVariants.{Spelled, OtherCode, Misspelled}
use Rattle.cx_laws_keys.specs.cx_rules.specs.declared.requests.Taken.{Taken}
use Rattle.cx_laws_keys.specs.cx_rules.specs.declared.requests.Waiting.{Waiting}
use Rattle.cx_laws_keys.specs.cx_rules.specs.declared.requests.Want.{Want}
use Rattle.cx_laws_keys.specs.cx_rules.specs.declared.requests.Want.TheVariants.{Tickets, Rotating}
use Rattle.cx_laws_tickets.specs.cx_sealed.specs.declared.rotating_reply.RotatingReply.{RotatingReply}
use Rattle.cx_wire.specs.Bodies.{reply_layout}
use Rattle.cx_wire.specs.declared.bodies.Reply.{Reply}
use Rattle.cx_journal.specs.declared.outcomes.Reason.TheVariants as reason
use Rattle.cx_journal.specs.declared.premises.KeyKind.TheVariants as kind
use Rattle.cx_steps.specs.declared.seals.SealEntry.TheVariants as entry
use Rattle.cx_laws_keys.specs.cx_rules.specs.declared.requests.Taken.TheVariants as reply
use Rattle.cx_wire.specs.declared.bodies.Reply.TheVariants as given

-- ---- of a login

abbrev pub IsOpened : SealEntry → Type 0
IsOpened (entry.Opened mark) = Unit {0}
IsOpened (entry.Sealed mark) = ⊥
IsOpened (entry.Signed mark) = ⊥
IsOpened (entry.Checked mark) = ⊥
IsOpened (entry.Drawn mark) = ⊥

abbrev pub AreOpened : List SealEntry → Type 0
AreOpened es = AllByRecursion IsOpened es

-- whatever is so of what opens
pub opened-all : (P : SealEntry → Type 0) → ((mark : SealMark) → P (entry.Opened mark)) → (es : List SealEntry) → AreOpened es → AllByRecursion P es
opened-all P each [] h = tt
opened-all P each (entry.Opened mark ∷ es) h = (each mark, opened-all P each es h.1)
opened-all P each (entry.Sealed mark ∷ es) h = absurd h.0
opened-all P each (entry.Signed mark ∷ es) h = absurd h.0
opened-all P each (entry.Checked mark ∷ es) h = absurd h.0
opened-all P each (entry.Drawn mark ∷ es) h = absurd h.0

pub unlocked-opened : {X : Type 0} (form : Form X) (k : KeyKind) (key bytes : List ℕ) → AreOpened (unlocked form k key bytes).seals
unlocked-opened {X} form k key bytes = by_opened (unsealed form key bytes)
  where
    by_opened : (found : Option (Unsealed X)) → AreOpened (unlocked_as k key found).seals
    by_opened None = tt
    by_opened (Some u) = (tt, tt)

opened-then : {A B : Type 0} (first : Unlocked A) (next : A → Unlocked B) → AreOpened first.seals → ((a : A) → AreOpened (next a).seals) → AreOpened (first >>= next).seals
opened-then {A} {B} first next h more = by_value first.value
  where
    by_value : (v : Option A) → AreOpened (going_on first.seals v next).seals
    by_value None = h
    by_value (Some a) = all-append IsOpened first.seals (next a).seals h (more a)

pub told-opened : (k : KeyKind) (key : List ℕ) (part : TicketPart) → AreOpened (told k key part).seals
told-opened k key part = opened-then (unlocked ticket_info_layout.form k key part.info) (λ info. made (held_as part info)) (unlocked-opened ticket_info_layout.form k key part.info) (λ info. tt)

pub each-opened : (key : List ℕ) (parts : List TicketPart) → AreOpened (told_each key parts).seals
each-opened key [] = tt
each-opened key (part ∷ parts) =
    opened-then (told kind.Session key part) (λ held. told_each key parts >>= λ rest. made (held ∷ rest)) (told-opened kind.Session key part)
    (λ held. opened-then (told_each key parts) (λ rest. made (held ∷ rest)) (each-opened key parts) (λ rest. tt))

-- the secret of the connection, behind the tickets
abbrev pub with_secret : Held → List Held → List ℕ → Unlocked LoggedIn
with_secret auth tickets connection =
    unlocked connection_secret_layout.form kind.Session auth.session connection >>= λ opened. made (record { auth = auth; tickets = tickets; secret = opened.secret })

pub secret-opened : (auth : Held) (tickets : List Held) (connection : List ℕ) → AreOpened (with_secret auth tickets connection).seals
secret-opened auth tickets connection =
    opened-then (unlocked connection_secret_layout.form kind.Session auth.session connection) (λ opened. made (record { auth = auth; tickets = tickets; secret = opened.secret }))
    (unlocked-opened connection_secret_layout.form kind.Session auth.session connection) (λ opened. tt)

pub login-opened : (secret : List ℕ) (parts : List TicketPart) (connection : List ℕ) → AreOpened (login_of_parts secret parts connection).seals
login-opened secret [] connection = tt
login-opened secret (first ∷ parts) connection =
    opened-then (told kind.Principal secret first) (λ auth. told_each auth.session parts >>= λ tickets. with_secret auth tickets connection) (told-opened kind.Principal secret first)
    (λ auth. opened-then (told_each auth.session parts) (λ tickets. with_secret auth tickets connection) (each-opened auth.session parts) (λ tickets. secret-opened auth tickets connection))

-- ---- of a reply

-- what opened of it
abbrev pub seals_of : Taken → List SealEntry
seals_of (reply.Refuses why opened) = opened
seals_of (reply.Holds held opened) = opened
seals_of (reply.Views reading generations opened) = opened

module _ (secret : List ℕ) where
  reply-opened : (session : List ℕ) (want : Want) (x : Reply) → AreOpened (seals_of (reply_taken secret session want x))
  reply-opened session Tickets (given.Tickets parts) = by_value (told_each session parts).value
    where
      by_value : (value : Option (List Held)) → AreOpened (seals_of (tickets_taken (told_each session parts).seals value))
      by_value None = each-opened session parts
      by_value (Some held) = each-opened session parts
  reply-opened session (Rotating reading) (given.Rotating blob) = by_value (unlocked rotating_reply_layout.form kind.Principal secret blob).value
    where
      by_value : (value : Option RotatingReply) → AreOpened (seals_of (rotating_taken reading (unlocked rotating_reply_layout.form kind.Principal secret blob).seals value))
      by_value None = unlocked-opened rotating_reply_layout.form kind.Principal secret blob
      by_value (Some told) = unlocked-opened rotating_reply_layout.form kind.Principal secret blob
  reply-opened session Tickets (given.Rotating blob) = tt
  reply-opened session (Rotating reading) (given.Tickets parts) = tt

  waiting-opened : (session : List ℕ) (waiting : List Waiting) (tid : ℕ) (x : Reply) → AreOpened (seals_of (waiting_taken secret session waiting tid x))
  waiting-opened session [] tid x = tt
  waiting-opened session (first ∷ rest) tid x = by_test (tid == first.tid)
    where
      by_test : (t : Bool) → AreOpened (seals_of (if t then reply_taken secret session first.want x else reply.Refuses reason.BadReply []))
      by_test true = reply-opened session first.want x
      by_test false = tt

  body-opened : (r : Requests) (tid : ℕ) (body : Body Reply) → AreOpened (seals_of (body_taken secret r tid body))
  body-opened r tid (Spelled x) = waiting-opened r.session r.waiting tid x
  body-opened r tid OtherCode = tt
  body-opened r tid (Misspelled why) = tt

  pub taken-opened : (r : Requests) (f : Frame) → AreOpened (seals_of (taken secret r f))
  taken-opened r f = by_read (message_in f)
    where
      by_read : (read : Result Message BytesFault) → AreOpened (seals_of (message_taken secret r read))
      by_read (Err why) = tt
      by_read (Ok m) = by_test (m.header.type_ == 18)
        where
          by_test : (t : Bool) → AreOpened (seals_of (if t then body_taken secret r m.header.tid (body_as reply_layout.form m.body) else reply.Refuses (reason.Bytes (Unexpected 17)) []))
          by_test true = body-opened r m.header.tid (body_as reply_layout.form m.body)
          by_test false = tt
