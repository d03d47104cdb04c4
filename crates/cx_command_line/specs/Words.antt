-- The words of a command line, by what stands at a place: numbers within bounds, addresses, names of clients and of daemons, and peers.
use Rattle.std.specs.Prelude.{ℕ, ◌+◌, ◌==◌, ◌&&◌, Bool, nat_le, if◌then◌else◌, List, [], ◌∷◌, take, drop, codes, Option, Some, None, is_some, option_and_then, option_map}
use Rattle.std.specs.List.{list_all, position_from}
use Rattle.std.specs.Str.{bytes_eq}
use Rattle.cx_base.specs.Names.{Name, with_id}
use Rattle.cx_base.specs.declared.addresses.Addr.{Addr}
use Rattle.cx_base.specs.declared.kinds.EntityType.{EntityType}
use Rattle.cx_base.specs.declared.kinds.EntityType.TheVariants.{Client}
use Rattle.cx_enc.specs.Names.{name_seen}
use Rattle.cx_enc.specs.declared.names.NameRef.{NameRef}
use Rattle.cx_words.specs.Words.{number_of, ticket_service_of}

abbrev pub Word : Type 0
Word = List ℕ

-- ---- numbers: decimal digits without a leading zero, or 0

-- the number, where it is one of these
abbrev pub within : ℕ → ℕ → ℕ → Option ℕ
within least most n = if nat_le least n && nat_le n most then Some n else None

abbrev pub bounded : ℕ → ℕ → Word → Option ℕ
bounded least most word = option_and_then (within least most) (number_of word)

-- ---- a word that is cut at the first byte of a kind

abbrev pub parts_at : Word → Option ℕ → Option (Word × Word)
parts_at word None = None
parts_at word (Some place) = Some (take place word, drop (place + 1) word)

-- what stands before that byte, and behind it
abbrev pub parted : ℕ → Word → Option (Word × Word)
parted byte word = parts_at word (position_from (λ b. b == byte) 0 word)

-- two that are there
abbrev pub both : {X Y : Type 0} → Option X → Option Y → Option (X × Y)
both (Some x) (Some y) = Some (x, y)
both (Some x) None = None
both None y = None

-- ---- addresses: four numbers from 0 to 255 with points (46) between, a colon (58), and a port from 1 to 65,535

abbrev pub octet : Word → Option ℕ
octet word = bounded 0 255 word

-- a number, a point, and more
abbrev pub behind_octet : {X : Type 0} → (Word → Option X) → Word → Option (ℕ × X)
behind_octet more word = option_and_then (λ p. both (octet p.0) (more p.1)) (parted 46 word)

abbrev pub two_octets : Word → Option (ℕ × ℕ)
two_octets word = behind_octet octet word

abbrev pub three_octets : Word → Option (ℕ × (ℕ × ℕ))
three_octets word = behind_octet two_octets word

abbrev pub four_octets : Word → Option (ℕ × (ℕ × (ℕ × ℕ)))
four_octets word = behind_octet three_octets word

-- a node's address has the nonce 0
abbrev pub addressed : (ℕ × (ℕ × (ℕ × ℕ))) × ℕ → Addr
addressed p = record { nonce = 0; ip = p.0.0 ∷ p.0.1.0 ∷ p.0.1.1.0 ∷ p.0.1.1.1 ∷ []; port = p.1 }

abbrev pub address : Word → Option Addr
address word = option_and_then (λ p. option_map addressed (both (four_octets p.0) (bounded 1 65535 p.1))) (parted 58 word)

-- ---- names: the word of a type, a point and an id

abbrev pub client_type : Word → Option EntityType
client_type word = if bytes_eq word (codes "client") then Some Client else None

abbrev pub client_name : Word → Option Name
client_name word = option_and_then (λ p. with_id p.1 (client_type p.0)) (parted 46 word)

-- of a daemon: mds, osd or mgr
abbrev pub daemon_name : Word → Option Name
daemon_name word = option_and_then (λ p. with_id p.1 (ticket_service_of p.0)) (parted 46 word)

-- ---- peers: the name of a daemon, an at sign (64) and its address

abbrev pub peer : Word → Option (Name × Addr)
peer word = option_and_then (λ p. both (daemon_name p.0) (address p.1)) (parted 64 word)

abbrev pub is_peer : Word → Bool
is_peer word = is_some (peer word)

abbrev pub are_peers : List Word → Bool
are_peers words = list_all is_peer words

-- a peer, without where its id lies
abbrev pub peer_seen : NameRef × Addr → Name × Addr
peer_seen p = (name_seen p.0, p.1)
