-- The tickets of a login: the first is for AUTH, and no other is; whose they are, and what their keys are.
use Rattle.std.proofs.Common.{◌≡◌, ℕ, ◌+◌, ◌-◌, ◌<◌, ◌≤◌, ◌^◌, Bool, true, false, cond, List, [], ◌∷◌, ◌++◌, length, drop, filter, Option, Some, None, Result, Ok, Err, refl, sym, ap, ◌∙◌, arith, append_assoc, length-take, length-append}
use Rattle.std.specs.Prelude.{◌%◌, find, slice_index}
use Rattle.std.proofs.lemmas.List.{get_or-append_right}
use Rattle.std.specs.List.{AllByRecursion}
use Rattle.cx_base.specs.Names.{Name}
use Rattle.cx_base.specs.declared.kinds.EntityType.{EntityType}
use Rattle.cx_base.specs.declared.kinds.EntityType.TheVariants.{Mon, Mds, Osd, Client, Mgr, Auth}
use Rattle.cx_rules.specs.cx_dice.specs.Draws.{connection_of, counter_0, has_keys, nonce_start, part, session_of}
use Rattle.cx_laws_keys.specs.cx_enc.specs.Forms.{passed}
use Rattle.cx_laws_keys.specs.cx_journal.specs.declared.faults.LoginFault.{LoginFault}
use Rattle.cx_rules.specs.cx_keyring.specs.Entries.{is_named}
use Rattle.cx_rules.specs.cx_keyring.specs.declared.entries.Entry.{Entry as Principal}
use Rattle.cx_rules.specs.cx_keyserver.specs.Issuing.{Asked, ◌>>=◌, asking, caps_for, current_at, fields_of, issued, or_else, sealed_by, telling_key}
use Rattle.cx_rules.specs.cx_keyserver.specs.Servers.{Server, generations_of}
use Rattle.cx_rules.specs.cx_keyserver.specs.declared.refusals.IssueRefusal.{IssueRefusal}
use Rattle.cx_rules.specs.cx_keyserver.specs.declared.refusals.IssueRefusal.TheVariants as issue
use Rattle.cx_rules.specs.cx_keyserver.specs.declared.tickets.Ticket.{Ticket}
use Rattle.cx_rules.specs.cx_rotate.specs.declared.generations.Generation.{Generation}
use Rattle.cx_rules.specs.Secured.{acceptor_keys}
use Rattle.cx_rules.specs.Tickets.{is_asked, issued_before, issued_for, services_for}
use Rattle.cx_laws_keys.proofs.keys.Known.{IsOfAcceptor, IsOfConnector, counter_at}
use Rattle.cx_laws_keys.proofs.login.Rows.{all-filter}
use Rattle.cx_laws_keys.proofs.login.Generations.{length-part}

-- a ticket of this entity under this global id, made at this reading, with the session key that was drawn for its service
pub record TicketOk (name : Name) (gid reading : ℕ) (block : List ℕ) (t : Ticket) : Type 0 where
  pub entity : t.entity ≡ name
  pub gid_is : t.gid ≡ gid
  pub created : t.created ≡ reading
  pub session : t.session ≡ session_of t.service block
  pub keyed : has_keys t.service ≡ true

-- one for AUTH, and the others for other services
abbrev pub IsOther : Name → ℕ → ℕ → List ℕ → Ticket → Type 0
IsOther name gid reading block t = TicketOk name gid reading block t × (t.service ≡ Auth → ⊥)

pub record FirstOk (name : Name) (gid reading : ℕ) (block : List ℕ) (t : Ticket) (ts : List Ticket) : Type 0 where
  pub first : TicketOk name gid reading block t
  pub auth : t.service ≡ Auth
  pub others : AllByRecursion (IsOther name gid reading block) ts

module _ (server : Server) (name : Name) (gid : ℕ) (auth_session : List ℕ) (reading : ℕ) (block : List ℕ) where
  abbrev ask : EntityType → Asked
  ask service = asking name service gid auth_session reading block

  abbrev IsIssued : EntityType → Result Ticket IssueRefusal → Type 0
  IsIssued service (Ok t) = TicketOk name gid reading block t × (t.service ≡ service)
  IsIssued service (Err why) = Unit {0}

  issued-ok : (service : EntityType) → IsIssued service (issued server (ask service))
  issued-ok service = by_found (find (is_named name) server.ring)
    where
      rest : Principal → Result Ticket IssueRefusal
      rest entry =
          or_else issue.NotAService (passed has_keys service) >>= λ s.
          or_else issue.NoCaps (caps_for s entry) >>= λ caps.
          or_else issue.IdsSpent (current_at reading (generations_of server.state s)) >>= λ generation.
          Ok (sealed_by generation.key (telling_key entry (ask service)) (fields_of server.state (ask service) caps generation))

      by_current : (keyed : has_keys service ≡ true) (entry : Principal) (caps : List ℕ) (current : Option Generation) → IsIssued service
          (or_else issue.IdsSpent current >>= λ generation. Ok (sealed_by generation.key (telling_key entry (ask service)) (fields_of server.state (ask service) caps generation)))
      by_current keyed entry caps None = tt
      by_current keyed entry caps (Some g) = (record { entity = refl; gid_is = refl; created = refl; session = refl; keyed = keyed }, refl)

      by_caps : (keyed : has_keys service ≡ true) (entry : Principal) (s : EntityType) (caps : Option (List ℕ)) → IsIssued service
          (or_else issue.NoCaps caps >>= λ caps. or_else issue.IdsSpent (current_at reading (generations_of server.state s)) >>= λ generation.
          Ok (sealed_by generation.key (telling_key entry (ask service)) (fields_of server.state (ask service) caps generation)))
      by_caps keyed entry s None = tt
      by_caps keyed entry s (Some caps) = by_current keyed entry caps (current_at reading (generations_of server.state s))

      by_keys : (entry : Principal) (t : Bool) → has_keys service ≡ t → IsIssued service
          (or_else issue.NotAService (cond t (Some service) None) >>= λ s.
          or_else issue.NoCaps (caps_for s entry) >>= λ caps.
          or_else issue.IdsSpent (current_at reading (generations_of server.state s)) >>= λ generation.
          Ok (sealed_by generation.key (telling_key entry (ask service)) (fields_of server.state (ask service) caps generation)))
      by_keys entry true keyed = by_caps keyed entry service (caps_for service entry)
      by_keys entry false keyed = tt

      by_found : (found : Option Principal) → IsIssued service
          (or_else issue.UnknownEntity found >>= λ entry.
          or_else issue.NotAService (passed has_keys service) >>= λ s.
          or_else issue.NoCaps (caps_for s entry) >>= λ caps.
          or_else issue.IdsSpent (current_at reading (generations_of server.state s)) >>= λ generation.
          Ok (sealed_by generation.key (telling_key entry (ask service)) (fields_of server.state (ask service) caps generation)))
      by_found None = tt
      by_found (Some entry) = by_keys entry (has_keys service) refl

  -- for AUTH the entity needs no capabilities
  abbrev IsAuth : Result Ticket IssueRefusal → Type 0
  IsAuth (Ok t) = Unit {0}
  IsAuth (Err issue.UnknownEntity) = Unit {0}
  IsAuth (Err issue.IdsSpent) = Unit {0}
  IsAuth (Err _) = ⊥

  auth-issued : IsAuth (issued server (ask Auth))
  auth-issued = by_found (find (is_named name) server.ring) (current_at reading (generations_of server.state Auth))
    where
      by_found : (found : Option Principal) (current : Option Generation) → IsAuth
          (or_else issue.UnknownEntity found >>= λ entry. or_else issue.IdsSpent current >>= λ generation.
          Ok (sealed_by generation.key (telling_key entry (ask Auth)) (fields_of server.state (ask Auth) [] generation)))
      by_found None current = tt
      by_found (Some entry) None = tt
      by_found (Some entry) (Some generation) = tt

  abbrev pub AreOthers : Result (List Ticket) LoginFault → Type 0
  AreOthers (Ok ts) = AllByRecursion (IsOther name gid reading block) ts
  AreOthers (Err why) = Unit {0}

  others-before : (service : EntityType) (first : Result Ticket IssueRefusal) (rest : Result (List Ticket) LoginFault) → (service ≡ Auth → ⊥) → IsIssued service first
      → AreOthers rest → AreOthers (issued_before first rest)
  others-before service (Ok t) (Ok ts) other is h = ((is.0, λ auth. other (sym is.1 ∙ auth)), h)
  others-before service (Ok t) (Err why) other is h = tt
  others-before service (Err issue.NoCaps) rest other is h = h
  others-before service (Err issue.IdsSpent) rest other is h = tt
  others-before service (Err issue.UnknownEntity) rest other is h = tt
  others-before service (Err issue.NotAService) rest other is h = h
  others-before service (Err issue.OutOfMemory) rest other is h = h

  pub others-issued : (services : List EntityType) → AllByRecursion (λ (s : EntityType). s ≡ Auth → ⊥) services → AreOthers (issued_for server ask services)
  others-issued [] h = tt
  others-issued (s ∷ services) h = others-before s (issued server (ask s)) (issued_for server ask services) h.0 (issued-ok s) (others-issued services h.1)

  -- what is issued at a login
  abbrev pub AreIssued : Result (List Ticket) LoginFault → Type 0
  AreIssued (Ok (t ∷ ts)) = FirstOk name gid reading block t ts
  AreIssued (Ok []) = ⊥
  AreIssued (Err why) = Unit {0}

  first-before : (first : Result Ticket IssueRefusal) (rest : Result (List Ticket) LoginFault) → IsAuth first → IsIssued Auth first → AreOthers rest → AreIssued (issued_before first rest)
  first-before (Ok t) (Ok ts) a is h = record { first = is.0; auth = is.1; others = h }
  first-before (Ok t) (Err why) a is h = tt
  first-before (Err issue.UnknownEntity) rest a is h = tt
  first-before (Err issue.IdsSpent) rest a is h = tt
  first-before (Err issue.NoCaps) rest a is h = absurd a
  first-before (Err issue.NotAService) rest a is h = absurd a
  first-before (Err issue.OutOfMemory) rest a is h = absurd a

  pub all-issued : (keys : ℕ) → AreIssued (issued_for server ask (services_for keys))
  all-issued keys =
      let others : List EntityType = filter (is_asked keys) (Mds ∷ Osd ∷ Mgr ∷ []) in
      let apart : AllByRecursion (λ (s : EntityType). s ≡ Auth → ⊥) (Mds ∷ Osd ∷ Mgr ∷ []) = ((λ e. cc), ((λ e. cc), ((λ e. cc), tt))) in
      first-before (issued server (ask Auth)) (issued_for server ask others) auth-issued (issued-ok Auth)
      (others-issued others (all-filter (λ (s : EntityType). s ≡ Auth → ⊥) (is_asked keys) (Mds ∷ Osd ∷ Mgr ∷ []) apart))

-- ---- the lengths of what is drawn

pub length-session : (service : EntityType) (block : List ℕ) → length block ≡ 384 → has_keys service ≡ true → length (session_of service block) ≡ 16
length-session Auth block h e = length-part 80 16 block (omega arith)
length-session Mds block h e = length-part 96 16 block (omega arith)
length-session Osd block h e = length-part 112 16 block (omega arith)
length-session Mgr block h e = length-part 128 16 block (omega arith)
length-session Mon block h e = absurd cc
length-session Client block h e = absurd cc

short-part : (place count : ℕ) (block : List ℕ) → length (part place count block) ≤ count
short-part place count block = omega (arith, length-take count (drop place block))

pub short-connection : (block : List ℕ) → length (connection_of block) < 2 ^ 32
short-connection block =
    let a : List ℕ = counter_0 ++ part 56 24 block in
    let b : List ℕ = counter_0 ++ (nonce_start 128 44 block ++ a) in
    let c : List ℕ = nonce_start 0 32 block ++ b in
    omega (
      arith,
      length-append (part 16 16 block) c,
      length-append (part 33 3 block) b,
      length-append (part 45 3 block) a,
      short-part 16 16 block,
      short-part 33 3 block,
      short-part 45 3 block,
      short-part 56 24 block,
    )

-- ---- the nonces of a connection

-- the acceptor's begin with a byte below 128
pub acceptor-sends : (block : List ℕ) → length block ≡ 384 → IsOfAcceptor (acceptor_keys (connection_of block)).out.fixed
acceptor-sends block drawn =
    let b : List ℕ = counter_0 ++ (nonce_start 128 44 block ++ (counter_0 ++ part 56 24 block)) in
    let key : length (part 16 16 block) ≡ 16 = length-part 16 16 block (omega arith) in
    let is : slice_index (connection_of block) 16 ≡ slice_index block 32 % 128 + 0 = get_or-append_right (part 16 16 block) (nonce_start 0 32 block ++ b) 16 16 0 key (omega arith) in
    omega (arith, is)

-- the connector's with one that isn't
pub connector-sends : (block : List ℕ) → length block ≡ 384 → IsOfConnector (acceptor_keys (connection_of block)).into.fixed
connector-sends block drawn =
    let c : List ℕ = nonce_start 128 44 block ++ (counter_0 ++ part 56 24 block) in
    let b : List ℕ = counter_0 ++ c in
    let key : length (part 16 16 block) ≡ 16 = length-part 16 16 block (omega arith) in
    let three : length (part 33 3 block) ≡ 3 = length-part 33 3 block (omega arith) in
    let first : length (nonce_start 0 32 block) ≡ 4 = omega arith in
    let is : slice_index (connection_of block) 28 ≡ slice_index block 44 % 128 + 128 =
    get_or-append_right (part 16 16 block) (nonce_start 0 32 block ++ b) 16 28 0 key (omega arith)
    ∙ get_or-append_right (nonce_start 0 32 block) b 4 12 0 first (omega arith)
    ∙ get_or-append_right counter_0 c 8 8 0 refl (omega arith) in
    omega (arith, is)

-- eight zeros behind a front are the counter 0
zeros-behind : (front rest : List ℕ) (n : ℕ) → length front ≡ n → counter_at (front ++ (counter_0 ++ rest)) n ≡ 0
zeros-behind front rest n len =
    let is : (i j : ℕ) → n ≤ i → i - n ≡ j → slice_index (front ++ (counter_0 ++ rest)) i ≡ slice_index (counter_0 ++ rest) j =
    λ i j le at. get_or-append_right front (counter_0 ++ rest) n i 0 len le ∙ ap (λ (k : ℕ). slice_index (counter_0 ++ rest) k) at in
    let e0 = is n 0 (omega arith) (omega arith) in
    let e1 = is (n + 1) 1 (omega arith) (omega arith) in
    let e2 = is (n + 2) 2 (omega arith) (omega arith) in
    let e3 = is (n + 3) 3 (omega arith) (omega arith) in
    let e4 = is (n + 4) 4 (omega arith) (omega arith) in
    let e5 = is (n + 5) 5 (omega arith) (omega arith) in
    let e6 = is (n + 6) 6 (omega arith) (omega arith) in
    let e7 = is (n + 7) 7 (omega arith) (omega arith) in
    rw (e0, e1, e2, e3, e4, e5, e6, e7) refl

-- both count from 0 on
pub acceptor-counts : (block : List ℕ) → length block ≡ 384 → counter_at (connection_of block) 20 ≡ 0
acceptor-counts block drawn =
    let key : List ℕ = part 16 16 block in
    let start : List ℕ = nonce_start 0 32 block in
    let rest : List ℕ = nonce_start 128 44 block ++ (counter_0 ++ part 56 24 block) in
    let sixteen : length key ≡ 16 = length-part 16 16 block (omega arith) in
    let three : length (part 33 3 block) ≡ 3 = length-part 33 3 block (omega arith) in
    let twenty : length (key ++ start) ≡ 20 = omega (arith, length-append key start) in
    ap (λ (bytes : List ℕ). counter_at bytes 20) (sym (append_assoc key start (counter_0 ++ rest))) ∙ zeros-behind (key ++ start) rest 20 twenty

pub connector-counts : (block : List ℕ) → length block ≡ 384 → counter_at (connection_of block) 32 ≡ 0
connector-counts block drawn =
    let key : List ℕ = part 16 16 block in
    let start : List ℕ = nonce_start 0 32 block in
    let second : List ℕ = nonce_start 128 44 block in
    let rest : List ℕ = part 56 24 block in
    let front : List ℕ = (key ++ (start ++ counter_0)) ++ second in
    let sixteen : length key ≡ 16 = length-part 16 16 block (omega arith) in
    let three : length (part 33 3 block) ≡ 3 = length-part 33 3 block (omega arith) in
    let three_too : length (part 45 3 block) ≡ 3 = length-part 45 3 block (omega arith) in
    let long : length front ≡ 32 =
    omega (arith, length-append (key ++ (start ++ counter_0)) second, length-append key (start ++ counter_0), length-append start counter_0) in
    let whole : connection_of block ≡ front ++ (counter_0 ++ rest) =
    ap (λ (l : List ℕ). key ++ l) (sym (append_assoc start counter_0 (second ++ (counter_0 ++ rest))))
    ∙ sym (append_assoc key (start ++ counter_0) (second ++ (counter_0 ++ rest)))
    ∙ sym (append_assoc (key ++ (start ++ counter_0)) second (counter_0 ++ rest)) in
    ap (λ (bytes : List ℕ). counter_at bytes 32) whole ∙ zeros-behind front rest 32 long
