-- What a login opens, as a function: each thing that opens is an entry of the log, in order, up to the first that opens to no spelling of
-- its record ("detailed cephx protocol": the client opens what it is given; the monitor opens an old ticket).
use Rattle.std.specs.Prelude.{ℕ, ◌≡◌, List, [], ◌∷◌, ◌++◌, Option, Some, None, Result, Ok, Err}
use Rattle.std.specs.declared.alloc.AllocError.{AllocError}
use Rattle.cx_enc.specs.Forms.{Form}
use Rattle.cx_enc.specs.declared.tickets.TicketBlob.{TicketBlob}
use Rattle.cx_steps.specs.cx_journal.specs.declared.premises.KeyKind.{KeyKind}
use Rattle.cx_steps.specs.cx_journal.specs.declared.premises.KeyKind.TheVariants as kind
use Rattle.cx_sealed.specs.cx_rotate.specs.declared.generations.Generation.{Generation}
use Rattle.cx_sealed.specs.Records.{connection_secret_layout, service_ticket_layout, ticket_info_layout}
use Rattle.cx_sealed.specs.Unsealing.{unsealed}
use Rattle.cx_sealed.specs.declared.service_ticket.ServiceTicket.{ServiceTicket}
use Rattle.cx_sealed.specs.declared.unsealed.Unsealed.{Unsealed}
use Rattle.cx_steps.specs.declared.seals.SealEntry.{SealEntry}
use Rattle.cx_steps.specs.declared.seals.SealEntry.TheVariants as entry
use Rattle.cx_wire.specs.declared.logins.LoginDone.{LoginDone}
use Rattle.cx_wire.specs.declared.tickets.TicketPart.{TicketPart}
use Rattle.cx_login.specs.Held.{Held, held_as}
use Rattle.cx_login.specs.Opening.{generation_key}
use Rattle.cx_login.specs.declared.client.LoggedIn.{LoggedIn}
use Rattle.cx_login.specs.declared.refusals.LoginRefusal.{LoginRefusal}
use Rattle.cx_login.specs.declared.refusals.LoginRefusal.TheVariants.{Malformed, Unopened, OutOfMemory}

-- what opened, and what it makes, where each part opened to its record
pub record Unlocked (X : Type 0) : Type 0 where
  pub seals : List SealEntry
  pub value : Option X

abbrev pub made : {X : Type 0} → X → Unlocked X
made x = record { seals = []; value = Some x }

abbrev pub nothing : {X : Type 0} → Unlocked X
nothing = record { seals = []; value = None }

-- one part and then the next, up to the first that doesn't open to its record
abbrev pub going_on : {A B : Type 0} → List SealEntry → Option A → (A → Unlocked B) → Unlocked B
going_on seals None next = record { seals = seals; value = None }
going_on seals (Some a) next = let b = next a in record { seals = seals ++ b.seals; value = b.value }

infixl 10 ◌>>=◌
abbrev pub ◌>>=◌ : {A B : Type 0} → Unlocked A → (A → Unlocked B) → Unlocked B
first >>= next = going_on first.seals first.value next

-- one sealed record, under a key of this kind
abbrev pub unlocked_as : {X : Type 0} → KeyKind → List ℕ → Option (Unsealed X) → Unlocked X
unlocked_as kind key None = nothing
unlocked_as kind key (Some u) = record { seals = entry.Opened (record { key = key; kind = kind; content = u.content }) ∷ []; value = u.value }

abbrev pub unlocked : {X : Type 0} → Form X → KeyKind → List ℕ → List ℕ → Unlocked X
unlocked form kind key bytes = unlocked_as kind key (unsealed form key bytes)

-- ---- the client's side

-- the ticket of this entry, told under a key
abbrev pub told : KeyKind → List ℕ → TicketPart → Unlocked Held
told kind key part = unlocked ticket_info_layout.form kind key part.info >>= λ info. made (held_as part info)

-- the tickets of these entries, each told under the session key of the AUTH ticket
abbrev pub told_each : List ℕ → List TicketPart → Unlocked (List Held)
told_each key [] = made []
told_each key (part ∷ parts) = told kind.Session key part >>= λ held. told_each key parts >>= λ rest. made (held ∷ rest)

-- the login of a LoginDone: the ticket for AUTH is told under the client's secret; the other tickets and then the secret of the
-- connection under the session key of that ticket
abbrev pub login_of_parts : List ℕ → List TicketPart → List ℕ → Unlocked LoggedIn
login_of_parts secret [] connection = nothing
login_of_parts secret (first ∷ parts) connection =
    told kind.Principal secret first >>= λ auth.
    told_each auth.session parts >>= λ tickets.
    unlocked connection_secret_layout.form kind.Session auth.session connection >>= λ opened.
    made (record { auth = auth; tickets = tickets; secret = opened.secret })

abbrev pub login_in : List ℕ → LoginDone → Unlocked LoggedIn
login_in secret done = login_of_parts secret done.tickets done.connection_secret

-- ---- the monitor's side

-- an old ticket, under its generation of AUTH, where that is there
abbrev pub old_under : Option (List ℕ) → List ℕ → Unlocked ServiceTicket
old_under None blob = nothing
old_under (Some key) blob = unlocked service_ticket_layout.form kind.Auth key blob

abbrev pub old_ticket : List Generation → TicketBlob → Unlocked ServiceTicket
old_ticket auth old = old_under (generation_key auth old.generation) old.blob

-- ---- what calls answer

-- the value is the one that is made, and what opened is appended to the log
abbrev pub Made : {X : Type 0} → Unlocked X → List SealEntry → List SealEntry → Option X → Type 0
Made u old new value = (value ≡ u.value) × (new ≡ old ++ u.seals)

-- the same, unless memory was wanting
abbrev pub Unlocks : {X : Type 0} → Unlocked X → List SealEntry → List SealEntry → Result (Option X) AllocError → Type 0
Unlocks u old new (Ok value) = Made u old new value
Unlocks u old new (Err e) = Unit {0}

-- the tickets of a list are held exactly where each of them is told
abbrev pub AreHeld : List ℕ → List TicketPart → List SealEntry → List SealEntry → Result (List Held) LoginRefusal → Type 0
AreHeld key parts old new (Ok held) = Made (told_each key parts) old new (Some held)
AreHeld key parts old new (Err Unopened) = Made (told_each key parts) old new None
AreHeld key parts old new (Err (Malformed place)) = ⊥
AreHeld key parts old new (Err OutOfMemory) = Unit {0}
