-- What one end of a link holds, as the rules of the nodes speak of it.
use Rattle.std.specs.Prelude.{ℕ, ◌≡◌, Bool, List, [], ◌++◌, length, drop, None, if◌then◌else◌}
use Rattle.cx_rules.specs.Links.{Link}
use Rattle.cx_rules.specs.Secured.{Keys, acceptor_keys, connector_keys}
use Rattle.cx_rules.specs.cx_secure.specs.Sealings.{connection_key}
use Rattle.cx_rules.specs.cx_stream.specs.Held.{Held}
use Rattle.cx_rules.specs.cx_stream.specs.Received.{Received}
use Rattle.cx_rules.specs.cx_stream.specs.SecureStreams.{Ahead, ahead}

-- a link that isn't secured: all bytes that came on it, how many of these the banner and the frames took that were handled, and all bytes
-- that were sent on it
pub record Wire : Type 0 where
  pub received : List ℕ
  pub taken : ℕ
  pub sent : List ℕ

-- a link that is secured: its keys, and the bytes that came behind what was handled
pub record SecureWire : Type 0 where
  pub keys : Keys
  pub ahead : List ℕ

-- nothing came, and nothing was sent
abbrev pub new_wire : Wire
new_wire = record { received = []; taken = 0; sent = [] }

-- the bytes behind what was handled
abbrev pub ahead_in : Wire → List ℕ
ahead_in wire = drop wire.taken wire.received

-- what comes under the keys
abbrev pub secure_ahead : SecureWire → Ahead
secure_ahead wire =
    record { key = wire.keys.key; fixed = wire.keys.into.fixed; counter = wire.keys.into.counter; bytes = wire.ahead }

-- the keys of a side of the connection
abbrev pub keys_of_side : Bool → List ℕ → Keys
keys_of_side connector secret = if connector then connector_keys secret else acceptor_keys secret

-- ---- as links of the rules

module _ {Stage : Type 0} where
  abbrev pub wired : ℕ → Wire → Stage → Link Stage
  wired number wire stage =
      record { number = number; received = wire.received; taken = wire.taken; sent = wire.sent; stage = stage }

  -- what was taken and what was sent isn't kept any more
  abbrev pub secured_link : ℕ → List ℕ → Stage → Link Stage
  secured_link number ahead stage = record { number = number; received = ahead; taken = 0; sent = []; stage = stage }

-- ---- as streams hold them

abbrev pub plain_wire : Received → List ℕ → Wire
plain_wire stream sent = record { received = stream.taken ++ stream.rest; taken = length stream.taken; sent = sent }

-- a head that is open is put back as it was sealed
abbrev pub held_keys : Held → Keys
held_keys stream = record {
  key = connection_key stream.sealing;
  out = record { fixed = stream.sealing.out.fixed; counter = stream.sealing.out.counter };
  into = record { fixed = stream.sealing.into.fixed; counter = (ahead stream).counter };
}

abbrev pub secure_wire : Held → SecureWire
secure_wire stream = record { keys = held_keys stream; ahead = (ahead stream).bytes }

-- the stream is sealed under this key and keeps no refusal
pub record IsLive (key : List ℕ) (stream : Held) : Type 0 where
  pub same : connection_key stream.sealing ≡ key
  pub free : stream.sealing.kept ≡ None
