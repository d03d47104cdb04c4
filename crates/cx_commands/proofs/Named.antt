-- The name in the words of a client is a client's, and that in the words of a daemon a daemon's.
use Rattle.std.proofs.Common.{ℕ, ◌≡◌, Bool, true, false, List, [], ◌∷◌, Option, Some, None, refl, sym, ◌∙◌, ap, subst}
use Rattle.std.specs.Prelude.{codes, if◌then◌else◌, option_and_then, option_map}
use Rattle.std.specs.Str.{bytes_eq}
use Rattle.cx_base.specs.Names.{Name, is_daemon_type, is_id, with_id}
use Rattle.cx_base.specs.declared.addresses.Addr.{Addr}
use Rattle.cx_base.specs.declared.kinds.EntityType.{EntityType}
use Rattle.cx_base.specs.declared.kinds.EntityType.TheVariants as entity_type
use Rattle.cx_command_line.specs.Commands as told
use Rattle.cx_command_line.specs.Commands.{Asked, AskedClient, AskedDaemon, Replay, Keyring, Audit, Drill, Key, Monitor, Daemon, Client, alone, client, daemon, drill, events, spelled, with_peers}
use Rattle.cx_command_line.specs.Words.{Word, address, are_peers, both, client_name, client_type, daemon_name, parted}
use Rattle.cx_keyring.specs.cx_words.specs.Words.{kept, ticket_service_of, type_of}

abbrev IsClients : Name → Type 0
IsClients name = name.kind ≡ entity_type.Client

abbrev IsDaemons : Name → Type 0
IsDaemons name = is_daemon_type name.kind ≡ true

abbrev IsNamed : Asked → Type 0
IsNamed (Daemon c) = IsDaemons c.name
IsNamed (Client c) = IsClients c.name
IsNamed _ = Unit {0}

-- ---- names

-- a name has the type behind which its id stands
id-kind : (id : List ℕ) (kind : EntityType) (name : Name) → with_id id (Some kind) ≡ Some name → name.kind ≡ kind
id-kind id kind name is = by_test (is_id kind id) is
  where
    by_test : (t : Bool) → (if t then Some (record { kind = kind; id = id }) else None) ≡ Some name → name.kind ≡ kind
    by_test true is = let same : record { kind = kind; id = id } ≡ name = cc in ap (λ (n : Name). n.kind) (sym same)
    by_test false is = absurd (let no : None ≡ Some name = is in cc)

none-named : (id : List ℕ) (name : Name) → with_id id None ≡ Some name → ⊥
none-named id name is = let no : None ≡ Some name = is in cc

client-named : (word : Word) (name : Name) → client_name word ≡ Some name → IsClients name
client-named word name is = by_parts (parted 46 word) is
  where
    by_test : (t : Bool) (id : Word) → with_id id (if t then Some entity_type.Client else None) ≡ Some name → IsClients name
    by_test true id is = id-kind id entity_type.Client name is
    by_test false id is = absurd (none-named id name is)

    by_parts : (o : Option (Word × Word)) → option_and_then (λ (p : Word × Word). with_id p.1 (client_type p.0)) o ≡ Some name → IsClients name
    by_parts (Some p) is = by_test (bytes_eq p.0 (codes "client")) p.1 is
    by_parts None is = absurd (let no : None ≡ Some name = is in cc)

daemon-named : (word : Word) (name : Name) → daemon_name word ≡ Some name → IsDaemons name
unfolding ticket_service_of
daemon-named word name is = by_parts (parted 46 word) is
  where
    by_test : (t : Bool) (id : Word) (kind : EntityType) → is_daemon_type kind ≡ t → with_id id (if t then Some kind else None) ≡ Some name → IsDaemons name
    by_test true id kind good is = ap is_daemon_type (id-kind id kind name is) ∙ good
    by_test false id kind good is = absurd (none-named id name is)

    by_type : (o : Option EntityType) (id : Word) → with_id id (kept is_daemon_type o) ≡ Some name → IsDaemons name
    by_type (Some kind) id is = by_test (is_daemon_type kind) id kind refl is
    by_type None id is = absurd (none-named id name is)

    by_parts : (o : Option (Word × Word)) → option_and_then (λ (p : Word × Word). with_id p.1 (ticket_service_of p.0)) o ≡ Some name → IsDaemons name
    by_parts (Some p) is = by_type (type_of p.0) p.1 is
    by_parts None is = absurd (let no : None ≡ Some name = is in cc)

-- ---- the words of each

daemon-words : (values : List Word) (c : AskedDaemon) → daemon values ≡ Some c → IsDaemons c.name
daemon-words [] c is = absurd (let no : None ≡ Some c = is in cc)
daemon-words (name ∷ []) c is = absurd (let no : None ≡ Some c = is in cc)
daemon-words (name ∷ count ∷ []) c is = absurd (let no : None ≡ Some c = is in cc)
daemon-words (name ∷ count ∷ listen ∷ []) c is = absurd (let no : None ≡ Some c = is in cc)
daemon-words (name ∷ count ∷ listen ∷ mon ∷ more ∷ rest) c is = absurd (let no : None ≡ Some c = is in cc)
daemon-words (name ∷ count ∷ listen ∷ mon ∷ []) c is = by_parts (daemon_name name) (events count) (both (address listen) (address mon)) refl is
  where
    by_parts : (n : Option Name) (e : Option ℕ) (q : Option (Addr × Addr)) → daemon_name name ≡ n
        → option_map (λ (p : (Name × ℕ) × (Addr × Addr)). record { name = p.0.0; events = p.0.1; listen = p.1.0; monitor = p.1.1 }) (both (both n e) q) ≡ Some c → IsDaemons c.name
    by_parts (Some n) (Some e) (Some q) named is =
        let same : record { name = n; events = e; listen = q.0; monitor = q.1 } ≡ c = cc in
        subst (λ (c : AskedDaemon). IsDaemons c.name) same (daemon-named name n named)
    by_parts (Some n) (Some e) None named is = absurd (let no : None ≡ Some c = is in cc)
    by_parts (Some n) None q named is = absurd (let no : None ≡ Some c = is in cc)
    by_parts None e q named is = absurd (let no : None ≡ Some c = is in cc)

client-words : (values : List Word) (c : AskedClient) → client values ≡ Some c → IsClients c.name
client-words [] c is = absurd (let no : None ≡ Some c = is in cc)
client-words (name ∷ []) c is = absurd (let no : None ≡ Some c = is in cc)
client-words (name ∷ count ∷ []) c is = absurd (let no : None ≡ Some c = is in cc)
client-words (name ∷ count ∷ mon ∷ peers) c is = by_parts (client_name name) (events count) (address mon) (are_peers peers) refl is
  where
    by_parts : (n : Option Name) (e : Option ℕ) (at : Option Addr) (good : Bool) → client_name name ≡ n → option_and_then (with_peers peers good) (both (both n e) at) ≡ Some c → IsClients c.name
    by_parts (Some n) (Some e) (Some at) true named is =
        let same : record { name = n; events = e; monitor = at; peers = peers } ≡ c = cc in
        subst (λ (c : AskedClient). IsClients c.name) same (client-named name n named)
    by_parts (Some n) (Some e) (Some at) false named is = absurd (let no : None ≡ Some c = is in cc)
    by_parts (Some n) (Some e) None good named is = absurd (let no : None ≡ Some c = is in cc)
    by_parts (Some n) None at good named is = absurd (let no : None ≡ Some c = is in cc)
    by_parts None e at good named is = absurd (let no : None ≡ Some c = is in cc)

-- ---- of all words

alone-named : (asked : Asked) (values : List Word) (a : Asked) → IsNamed asked → alone asked values ≡ Some a → IsNamed a
alone-named asked [] a named is = let same : asked ≡ a = cc in subst IsNamed same named
alone-named asked (word ∷ words) a named is = absurd (let no : None ≡ Some a = is in cc)

mapped-named : {X : Type 0} (make : X → Asked) (o : Option X) (a : Asked) → ((x : X) → o ≡ Some x → IsNamed (make x)) → option_map make o ≡ Some a → IsNamed a
mapped-named make (Some x) a named is = let same : make x ≡ a = cc in subst IsNamed same (named x refl)
mapped-named make None a named is = absurd (let no : None ≡ Some a = is in cc)

spelled-named : (words : List Word) (a : Asked) → spelled words ≡ Some a → IsNamed a
spelled-named [] a is = absurd (let no : None ≡ Some a = is in cc)
spelled-named (command ∷ values) a is =
    by_tests (bytes_eq command (codes "replay")) (bytes_eq command (codes "keyring")) (bytes_eq command (codes "audit")) (bytes_eq command (codes "drill")) (bytes_eq command (codes "key")) (bytes_eq command (codes "mon"))
    (bytes_eq command (codes "daemon")) (bytes_eq command (codes "client")) is
  where
    by_tests : (r k t d y m n l : Bool)
        → (if r then alone Replay values else if k then alone Keyring values else if t then alone Audit values else if d then option_map (λ c. Drill c) (drill values)
        else if y then alone Key values
        else if m then option_map (λ c. Monitor c) (told.monitor values) else if n then option_map (λ c. Daemon c) (daemon values)
        else if l then option_map (λ c. Client c) (client values) else None) ≡ Some a → IsNamed a
    by_tests true k t d y m n l is = alone-named Replay values a tt is
    by_tests false true t d y m n l is = alone-named Keyring values a tt is
    by_tests false false true d y m n l is = alone-named Audit values a tt is
    by_tests false false false true y m n l is = mapped-named (λ c. Drill c) (drill values) a (λ c e. tt) is
    by_tests false false false false true m n l is = alone-named Key values a tt is
    by_tests false false false false false true n l is = mapped-named (λ c. Monitor c) (told.monitor values) a (λ c e. tt) is
    by_tests false false false false false false true l is = mapped-named (λ c. Daemon c) (daemon values) a (daemon-words values) is
    by_tests false false false false false false false true is = mapped-named (λ c. Client c) (client values) a (client-words values) is
    by_tests false false false false false false false false is = absurd (let no : None ≡ Some a = is in cc)

pub spelled-client : (words : List Word) (c : AskedClient) → spelled words ≡ Some (Client c) → c.name.kind ≡ entity_type.Client
spelled-client words c = spelled-named words (Client c)

pub spelled-daemon : (words : List Word) (c : AskedDaemon) → spelled words ≡ Some (Daemon c) → is_daemon_type c.name.kind ≡ true
spelled-daemon words c = spelled-named words (Daemon c)
