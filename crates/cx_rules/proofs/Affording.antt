-- Tickets that are due are issued, one for each service for which the entity has capabilities, and none is long.
use Rattle.std.proofs.Common.{◌≡◌, inl, inr, ℕ, ◌≤◌, Bool, true, false, cond, List, [], ◌∷◌, length, drop, Option, Some, None, Ok, Err, refl, sym, ap, subst, ◌∙◌, arith}
use Rattle.std.specs.Prelude.{map, ◌&&◌, ◌||◌, IsTrue, filter, find, nat_le, is_some, if◌then◌else◌}
use Rattle.std.specs.Option.{option_map}
use Rattle.std.specs.List.{AllByRecursion, list_all}
use Rattle.std.proofs.lemmas.Bool.{leb-true}
use Rattle.std.proofs.lemmas.List.{length-take}
use Rattle.cx_base.specs.Names.{Name, is_id, is_id_byte, same_kind}
use Rattle.cx_base.specs.Texts.{is_caps, is_caps_byte}
use Rattle.cx_base.specs.declared.grants.Grant.{Grant}
use Rattle.cx_base.specs.declared.kinds.EntityType.{EntityType}
use Rattle.cx_base.specs.declared.kinds.EntityType.TheVariants.{Mon, Mds, Osd, Client, Mgr, Auth}
use Rattle.cx_keyserver.specs.cx_dice.specs.Draws.{has_keys, session_of}
use Rattle.cx_login.specs.cx_enc.specs.FieldLaws.{both_true}
use Rattle.cx_login.specs.cx_journal.specs.declared.entries.Entry.{Entry}
use Rattle.cx_keyserver.specs.cx_keyring.specs.Entries.{are_grants, is_named}
use Rattle.cx_keyserver.specs.cx_keyring.specs.declared.entries.Entry.{Entry as Principal}
use Rattle.cx_keyserver.proofs.Grants.{is_caps_text}
use Rattle.cx_keyserver.specs.Issuing.{Asked, asking, caps_for, current_at, fields_of, issued, sealed_by, service_ticket_of, telling_key, ticket_info_of}
use Rattle.cx_keyserver.specs.Servers.{Server, generations_of}
use Rattle.cx_keyserver.specs.declared.refusals.IssueRefusal.TheVariants as issue
use Rattle.cx_keyserver.specs.declared.tickets.Ticket.{Ticket}
use Rattle.cx_rotate.specs.Rotation.{is_current}
use Rattle.cx_rotate.specs.declared.generations.Generation.{Generation}
use Rattle.cx_rotate.specs.declared.states.KeptState.{KeptState}
use Rattle.cx_keyserver.specs.cx_sealed.specs.Records.{service_ticket_layout, ticket_info_layout}
use Rattle.cx_login.specs.cx_steps.specs.Onto.{SomeOf}
use Rattle.cx_rules.specs.Answering.{AreCurrent, AreIssuedFor, IsIssuedTo, is_wanted, services_granted}
use Rattle.cx_rules.specs.Replies.{others_for}
use Rattle.cx_rules.specs.Tickets.{is_asked, issued_before, issued_entry, issued_for, services_for}
use Rattle.cx_rules.specs.Verdicts.{login_entries}
use Rattle.cx_rules.proofs.Sizes.{IsShort, length-sealed, length-service_ticket, length-ticket_info}

-- ---- how long

id-short : (name : Name) → IsTrue (is_id name.kind name.id) → length name.id ≤ 64
id-short name good =
    let parts = both_true (same_kind name.kind Mon || nat_le 1 (length name.id)) (nat_le (length name.id) 64 && list_all is_id_byte name.id) good in
    leb-true (length name.id) 64 (both_true (nat_le (length name.id) 64) (list_all is_id_byte name.id) parts.1).0

text-short : (caps : List ℕ) → IsTrue (is_caps caps) → length caps ≤ 4096
text-short caps good = leb-true (length caps) 4096 (both_true (nat_le (length caps) 4096) (list_all is_caps_byte caps) good).0

caps-short : (service : EntityType) (principal : Principal) (caps : List ℕ) → IsTrue (are_grants principal.caps) → caps_for service principal ≡ Some caps → length caps ≤ 4096
caps-short service principal caps good e = by_kind (same_kind service Auth) (find (λ (grant : Grant). same_kind service grant.service) principal.caps) refl e
  where
    by_kind : (own : Bool) (found : Option Grant) → find (λ (grant : Grant). same_kind service grant.service) principal.caps ≡ found
        → (if own then Some [] else option_map (λ (grant : Grant). grant.caps) found) ≡ Some caps → length caps ≤ 4096
    by_kind true found is made = let none : [] ≡ caps = cc in omega (arith, ap length none)
    by_kind false None is made = absurd cc
    by_kind false (Some grant) is made =
        let same : grant.caps ≡ caps = cc in
        omega (arith, ap length same, text-short grant.caps (is_caps_text service principal.caps grant good is))

session-short : (service : EntityType) (draw : List ℕ) → length (session_of service draw) ≤ 16
session-short Auth draw = omega (arith, length-take 16 (drop 80 draw))
session-short Mds draw = omega (arith, length-take 16 (drop 96 draw))
session-short Osd draw = omega (arith, length-take 16 (drop 112 draw))
session-short Mgr draw = omega (arith, length-take 16 (drop 128 draw))
session-short Mon draw = omega arith
session-short Client draw = omega arith

-- the ticket that is issued to an entity
abbrev made_for : Server → Principal → Asked → List ℕ → Generation → Ticket
made_for server principal asked caps generation = sealed_by generation.key (telling_key principal asked) (fields_of server.state asked caps generation)

ticket-short : (server : Server) (principal : Principal) (asked : Asked) (caps : List ℕ) (generation : Generation) → length asked.name.id ≤ 64 → length caps ≤ 4096
    → IsShort (made_for server principal asked caps generation)
ticket-short server principal asked caps generation named granted =
    let ticket : Ticket = fields_of server.state asked caps generation in
    let content : List ℕ = service_ticket_layout.form.text (service_ticket_of ticket) in
    let told : List ℕ = ticket_info_layout.form.text (ticket_info_of ticket) in
    let session = session-short asked.service asked.draw in
    record {
      info = omega (arith, length-sealed (telling_key principal asked) told, length-ticket_info (ticket_info_of ticket), session);
      blob = omega (arith, length-sealed generation.key content, length-service_ticket (service_ticket_of ticket), session, named, granted);
    }

-- ---- issued

current-found : (now : ℕ) (generations : List Generation) → IsTrue (is_current now generations) → (g : Generation) × (current_at now generations ≡ Some g)
current-found now [] h = absurd cc
current-found now (a ∷ []) h = absurd cc
current-found now (a ∷ b ∷ []) h = absurd cc
current-found now (a ∷ b ∷ c ∷ []) h = (b, rw h refl)
current-found now (a ∷ b ∷ c ∷ d ∷ gs) h = absurd cc

issued-one : (server : Server) (principal : Principal) (asked : Asked) (caps : List ℕ) (generation : Generation) → find (is_named asked.name) server.ring ≡ Some principal
    → has_keys asked.service ≡ true → caps_for asked.service principal ≡ Some caps → current_at asked.reading (generations_of server.state asked.service) ≡ Some generation
    → issued server asked ≡ Ok (made_for server principal asked caps generation)
issued-one server principal asked caps generation known has granted current = rw (known, has, granted, current) refl

issued-none : (server : Server) (principal : Principal) (asked : Asked) → find (is_named asked.name) server.ring ≡ Some principal
    → has_keys asked.service ≡ true → caps_for asked.service principal ≡ None → issued server asked ≡ Err issue.NoCaps
issued-none server principal asked known has granted = rw (known, has, granted) refl

-- such a ticket is one of these
abbrev pub TellsOf : Name → ℕ → EntityType → List ℕ → List Ticket → Type 0
TellsOf name gid service caps tickets = SomeOf (λ (t : Ticket). IsIssuedTo name gid service caps (issued_entry t)) tickets

-- this service is one of these
abbrev pub IsListed : EntityType → List EntityType → Type 0
IsListed service services = SomeOf (λ (s : EntityType). s ≡ service) services

-- what is issued for some services, where these are the ones for which the entity has capabilities
pub record Affords (server : Server) (principal : Principal) (name : Name) (gid : ℕ) (ask : EntityType → Asked) (services granted : List EntityType) : Type 0 where
  pub tickets : List Ticket
  pub made : issued_for server ask services ≡ Ok tickets
  pub each : AreIssuedFor server ask granted tickets
  pub short : AllByRecursion IsShort tickets
  pub few : length tickets ≤ length services
  pub tells : (service : EntityType) (caps : List ℕ) → IsListed service services → caps_for service principal ≡ Some caps → TellsOf name gid service caps tickets

module _ (server : Server) (principal : Principal) (name : Name) (gid : ℕ) (session : List ℕ) (reading : ℕ) (draw : List ℕ) where
  abbrev ask : EntityType → Asked
  ask service = asking name service gid session reading draw

  tells-later : (first : EntityType) (services : List EntityType) (tickets : List Ticket) (service : EntityType) (caps : List ℕ) → caps_for first principal ≡ None
      → (IsListed service services → caps_for service principal ≡ Some caps → TellsOf name gid service caps tickets)
      → IsListed service (first ∷ services) → caps_for service principal ≡ Some caps → TellsOf name gid service caps tickets
  tells-later first services tickets service caps none rest (inl same) has =
      let there : caps_for first principal ≡ Some caps = subst (λ (s : EntityType). caps_for s principal ≡ Some caps) (sym same) has in
      absurd cc
  tells-later first services tickets service caps none rest (inr listed) has = rest listed has

  tells-first : (first : EntityType) (services : List EntityType) (ticket : Ticket) (tickets : List Ticket) (given : List ℕ) (service : EntityType) (caps : List ℕ)
      → caps_for first principal ≡ Some given → IsIssuedTo name gid first given (issued_entry ticket)
      → (IsListed service services → caps_for service principal ≡ Some caps → TellsOf name gid service caps tickets)
      → IsListed service (first ∷ services) → caps_for service principal ≡ Some caps → TellsOf name gid service caps (ticket ∷ tickets)
  tells-first first services ticket tickets given service caps some is rest (inl same) has =
      let there : caps_for first principal ≡ Some caps = subst (λ (s : EntityType). caps_for s principal ≡ Some caps) (sym same) has in
      let one : given ≡ caps = cc in
      inl (is.0, is.1, is.2 ∙ same, is.3 ∙ one)
  tells-first first services ticket tickets given service caps some is rest (inr listed) has = inr (rest listed has)

  affords-later : (service : EntityType) (services granted : List EntityType) → caps_for service principal ≡ None → issued server (ask service) ≡ Err issue.NoCaps → Affords server principal name gid ask services granted
      → Affords server principal name gid ask (service ∷ services) granted
  affords-later service services granted lacks none rest = record {
    tickets = rest.tickets;
    made = ap (λ first. issued_before first (issued_for server ask services)) none ∙ rest.made;
    each = rest.each;
    short = rest.short;
    few = omega (arith, rest.few);
    tells = λ other caps. tells-later service services rest.tickets other caps lacks (rest.tells other caps);
  }

  affords-first : (service : EntityType) (services granted : List EntityType) (ticket : Ticket) (given : List ℕ) → caps_for service principal ≡ Some given
      → IsIssuedTo name gid service given (issued_entry ticket) → issued server (ask service) ≡ Ok ticket → IsShort ticket → Affords server principal name gid ask services granted
      → Affords server principal name gid ask (service ∷ services) (service ∷ granted)
  affords-first service services granted ticket given has is one short rest = record {
    tickets = ticket ∷ rest.tickets;
    made = ap (λ first. issued_before first (issued_for server ask services)) one ∙ ap (issued_before (Ok ticket)) rest.made;
    each = (one, rest.each);
    short = (short, rest.short);
    few = omega (arith, rest.few);
    tells = λ other caps. tells-first service services ticket rest.tickets given other caps has is (rest.tells other caps);
  }

  -- the services that are granted, where these are the caps for the first of them
  abbrev granted_by_caps : EntityType → List EntityType → Option (List ℕ) → List EntityType
  granted_by_caps service services caps = cond (is_some caps) (service ∷ services_granted principal services) (services_granted principal services)

  affords-by : (service : EntityType) (services : List EntityType) (caps : Option (List ℕ)) → caps_for service principal ≡ caps → find (is_named name) server.ring ≡ Some principal
      → IsTrue (is_id name.kind name.id) → IsTrue (are_grants principal.caps) → has_keys service ≡ true
      → AreCurrent reading server (services_granted principal (service ∷ services))
      → (AreCurrent reading server (services_granted principal services) → Affords server principal name gid ask services (services_granted principal services))
      → Affords server principal name gid ask (service ∷ services) (services_granted principal (service ∷ services))
  affords-by service services None e known named good has current rest =
      let now : AreCurrent reading server (services_granted principal services) = subst (λ caps. AreCurrent reading server (granted_by_caps service services caps)) e current in
      subst (λ caps. Affords server principal name gid ask (service ∷ services) (granted_by_caps service services caps)) (sym e)
      (affords-later service services (services_granted principal services) e (issued-none server principal (ask service) known has e) (rest now))
  affords-by service services (Some caps) e known named good has current rest =
      let now : AreCurrent reading server (service ∷ services_granted principal services) = subst (λ caps. AreCurrent reading server (granted_by_caps service services caps)) e current in
      let found = current-found reading (generations_of server.state service) now.0 in
      subst (λ caps. Affords server principal name gid ask (service ∷ services) (granted_by_caps service services caps)) (sym e)
      (affords-first service services (services_granted principal services) (made_for server principal (ask service) caps found.0) caps e (refl, refl, refl, refl)
      (issued-one server principal (ask service) caps found.0 known has e found.1)
      (ticket-short server principal (ask service) caps found.0 (id-short name named) (caps-short service principal caps good e))
      (rest now.1))

  pub affords : (services : List EntityType) → find (is_named name) server.ring ≡ Some principal → IsTrue (is_id name.kind name.id) → IsTrue (are_grants principal.caps)
      → AllByRecursion (λ service. has_keys service ≡ true) services → AreCurrent reading server (services_granted principal services)
      → Affords server principal name gid ask services (services_granted principal services)
  affords [] known named good has current = record { tickets = []; made = refl; each = tt; short = tt; few = omega arith; tells = λ service caps listed some. listed }
  affords (service ∷ services) known named good has current =
      affords-by service services (caps_for service principal) refl known named good has.0 current (affords services known named good has.1)

filter-all : (P : EntityType → Type 0) (p : EntityType → Bool) (xs : List EntityType) → AllByRecursion P xs → AllByRecursion P (filter p xs)
filter-all P p [] h = tt
filter-all P p (x ∷ xs) h = by_test (p x) (filter-all P p xs h.1)
  where
    by_test : (t : Bool) → AllByRecursion P (filter p xs) → AllByRecursion P (cond t (x ∷ filter p xs) (filter p xs))
    by_test true rest = (h.0, rest)
    by_test false rest = rest

-- the services of a login and of a request have keys
pub others-have : (keys : ℕ) → AllByRecursion (λ service. has_keys service ≡ true) (others_for keys)
others-have keys = filter-all (λ (s : EntityType). has_keys s ≡ true) (is_asked keys) (Mds ∷ Osd ∷ Mgr ∷ []) (refl, (refl, (refl, tt)))

pub services-have : (keys : ℕ) → AllByRecursion (λ service. has_keys service ≡ true) (services_for keys)
services-have keys = (refl, others-have keys)

-- they are four at most, and three
filter-fewer : (p : EntityType → Bool) (xs : List EntityType) → length (filter p xs) ≤ length xs
filter-fewer p [] = omega arith
filter-fewer p (x ∷ xs) = by_test (p x) (filter-fewer p xs)
  where
    by_test : (t : Bool) → length (filter p xs) ≤ length xs → length (cond t (x ∷ filter p xs) (filter p xs)) ≤ length (x ∷ xs)
    by_test true fewer = omega arith
    by_test false fewer = omega arith

pub others-few : (keys : ℕ) → length (others_for keys) ≤ 3
others-few keys = filter-fewer (is_asked keys) (Mds ∷ Osd ∷ Mgr ∷ [])

pub services-few : (keys : ℕ) → length (services_for keys) ≤ 4
services-few keys = omega (arith, others-few keys)

-- ---- listed

listed-filter : (p : EntityType → Bool) (service : EntityType) (services : List EntityType) → IsListed service services → p service ≡ true → IsListed service (filter p services)
listed-filter p service [] listed good = listed
listed-filter p service (s ∷ services) (inl same) good = let passes : p s ≡ true = ap p same ∙ good in rw passes (inl same)
listed-filter p service (s ∷ services) (inr listed) good = by_test (p s) (listed-filter p service services listed good)
  where
    by_test : (t : Bool) → IsListed service (filter p services) → IsListed service (cond t (s ∷ filter p services) (filter p services))
    by_test true later = inr later
    by_test false later = later

-- a service that is wanted is one of those of a request
pub wanted-listed : (keys : ℕ) (service : EntityType) → IsTrue (is_wanted keys service) → IsListed service (others_for keys)
wanted-listed keys Mds wanted = listed-filter (is_asked keys) Mds (Mds ∷ Osd ∷ Mgr ∷ []) (inl refl) wanted
wanted-listed keys Osd wanted = listed-filter (is_asked keys) Osd (Mds ∷ Osd ∷ Mgr ∷ []) (inr (inl refl)) wanted
wanted-listed keys Mgr wanted = listed-filter (is_asked keys) Mgr (Mds ∷ Osd ∷ Mgr ∷ []) (inr (inr (inl refl))) wanted
wanted-listed keys Mon wanted = absurd cc
wanted-listed keys Client wanted = absurd cc
wanted-listed keys Auth wanted = absurd cc

-- one of a login is AUTH, or such a one
pub login-listed : (keys : ℕ) (service : EntityType) → IsTrue (same_kind service Auth || is_wanted keys service) → IsListed service (services_for keys)
login-listed keys Auth wanted = inl refl
login-listed keys Mds wanted = inr (wanted-listed keys Mds wanted)
login-listed keys Osd wanted = inr (wanted-listed keys Osd wanted)
login-listed keys Mgr wanted = inr (wanted-listed keys Mgr wanted)
login-listed keys Mon wanted = absurd cc
login-listed keys Client wanted = absurd cc

-- ---- entered

tickets-entered : (P : Entry → Type 0) (tickets : List Ticket) → SomeOf (λ (t : Ticket). P (issued_entry t)) tickets → SomeOf P (map issued_entry tickets)
tickets-entered P [] some = some
tickets-entered P (t ∷ tickets) (inl here) = inl here
tickets-entered P (t ∷ tickets) (inr later) = inr (tickets-entered P tickets later)

-- a ticket that is one of these is entered
pub ticket-entered : (name : Name) (gid : ℕ) (service : EntityType) (caps : List ℕ) (save : Option KeptState) (tickets : List Ticket) → TellsOf name gid service caps tickets
    → SomeOf (IsIssuedTo name gid service caps) (login_entries save tickets)
ticket-entered name gid service caps None tickets some = tickets-entered (IsIssuedTo name gid service caps) tickets some
ticket-entered name gid service caps (Some state) tickets some = inr (tickets-entered (IsIssuedTo name gid service caps) tickets some)
