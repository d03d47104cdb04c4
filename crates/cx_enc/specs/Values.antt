-- The primitive fields that hold more than a number or bytes: times, keys, ticket blobs, addresses and names of entities.
use Rattle.std.specs.Prelude.{ℕ, ◌+◌, ◌*◌, ◌/◌, ◌%◌, ◌==◌, ◌&&◌, List, Option, Some, None, Bool, true, false, length, nat_lt, nat_le, if◌then◌else◌}
use Rattle.cx_base.specs.declared.kinds.EntityType.{EntityType}
use Rattle.cx_base.specs.declared.kinds.EntityType.TheVariants.{Mon, Mds, Osd, Client, Mgr, Auth}
use Rattle.cx_base.specs.declared.addresses.Addr.{Addr}
use Rattle.cx_base.specs.Names.{Name, with_id}
use Rattle.cx_enc.specs.Moments.{Moment}
use Rattle.cx_enc.specs.declared.keys.Key.{Key}
use Rattle.cx_enc.specs.declared.tickets.TicketBlob.{TicketBlob}
use Rattle.cx_enc.specs.Forms.{Form, u8_form, u16_form, u32_form, u64_form, bytes_form, blob_form, pair, seen, field, checked, judged}

-- a time: seconds, and nanoseconds below 1,000,000,000
abbrev pub moment_of : ℕ × ℕ → Option Moment
moment_of x = if nat_lt x.1 1000000000 then Some (record { secs = x.0; nanos = x.1 }) else None

abbrev pub moment_parts : Moment → ℕ × ℕ
moment_parts t = (t.secs, t.nanos)

unfoldable pub time_form : Form Moment
time_form = checked moment_of moment_parts (field (pair u32_form u32_form))

-- a key: type 1, the time of its making, length 16 and 16 bytes
abbrev pub key_of : ℕ × (ℕ × (ℕ × (ℕ × List ℕ))) → Option Key
key_of x =
    if (x.0 == 1) && ((x.1.1.1.0 == 16) && nat_lt x.1.1.0 1000000000)
    then Some (record { created = record { secs = x.1.0; nanos = x.1.1.0 }; secret = x.1.1.1.1 })
    else None

abbrev pub key_parts : Key → ℕ × (ℕ × (ℕ × (ℕ × List ℕ)))
key_parts key = (1, (key.created.secs, (key.created.nanos, (16, key.secret))))

unfoldable pub key_form : Form Key
key_form = checked key_of key_parts (field (pair u16_form (pair u32_form (pair u32_form (pair u16_form (bytes_form 16))))))

-- a reading of a clock, in nanoseconds, as the time of its seconds and nanoseconds
abbrev pub reading_of : Moment → ℕ
reading_of t = t.secs * 1000000000 + t.nanos

abbrev pub moment_at : ℕ → Moment
moment_at reading = record { secs = reading / 1000000000; nanos = reading % 1000000000 }

unfoldable pub reading_form : Form ℕ
reading_form = seen reading_of moment_at time_form

-- 16 bytes as a key made at the time 0: session keys and the keys of generations are written so
abbrev pub secret_of : Key → Option (List ℕ)
secret_of key = if (key.created.secs == 0) && (key.created.nanos == 0) then Some key.secret else None

abbrev pub secret_key : List ℕ → Key
secret_key bytes = record { created = record { secs = 0; nanos = 0 }; secret = bytes }

unfoldable pub secret_form : Form (List ℕ)
secret_form = checked secret_of secret_key key_form

-- a blob of so many bytes
unfoldable pub sized_form : ℕ → Form (List ℕ)
sized_form n = judged (λ bytes. length bytes == n) blob_form

-- the blob of a ticket: a byte 1, the id of the generation that sealed it, and the sealed ticket
abbrev pub ticket_of : (ℕ × ℕ) × List ℕ → Option TicketBlob
ticket_of x = if x.0.0 == 1 then Some (record { generation = x.0.1; blob = x.1 }) else None

abbrev pub ticket_parts : TicketBlob → (ℕ × ℕ) × List ℕ
ticket_parts ticket = ((1, ticket.generation), ticket.blob)

unfoldable pub ticket_form : Form TicketBlob
ticket_form = checked ticket_of ticket_parts (field (pair (pair u8_form u64_form) blob_form))

-- a count of values, four bytes, that is within these bounds
abbrev pub count_form : ℕ → ℕ → Form ℕ
count_form least most = judged (λ n. nat_le least n && nat_le n most) u32_form

-- an address: a byte 1, type 2, the nonce, the four bytes of an IPv4 address and the port
abbrev pub addr_of : ℕ × (ℕ × (ℕ × (List ℕ × ℕ))) → Option Addr
addr_of x =
    if (x.0 == 1) && (x.1.0 == 2)
    then Some (record { nonce = x.1.1.0; ip = x.1.1.1.0; port = x.1.1.1.1 })
    else None

abbrev pub addr_parts : Addr → ℕ × (ℕ × (ℕ × (List ℕ × ℕ)))
addr_parts addr = (1, (2, (addr.nonce, (addr.ip, addr.port))))

unfoldable pub addr_form : Form Addr
addr_form = checked addr_of addr_parts (field (pair u8_form (pair u32_form (pair u32_form (pair (bytes_form 4) u16_form)))))

-- the number of an entity type
abbrev pub number_of : EntityType → ℕ
number_of Mon = 1
number_of Mds = 2
number_of Osd = 4
number_of Client = 8
number_of Mgr = 16
number_of Auth = 32

unfoldable pub kind_of : ℕ → Option EntityType
kind_of n =
    if n == 1 then Some Mon
    else if n == 2 then Some Mds
    else if n == 4 then Some Osd
    else if n == 8 then Some Client
    else if n == 16 then Some Mgr
    else if n == 32 then Some Auth
    else None

-- an entity type by its number
unfoldable pub kind_form : Form EntityType
kind_form = checked kind_of number_of u32_form

-- a name: the number of its type, and its id
abbrev pub name_of : ℕ × List ℕ → Option Name
name_of x = with_id x.1 (kind_of x.0)

abbrev pub name_parts : Name → ℕ × List ℕ
name_parts name = (number_of name.kind, name.id)

unfoldable pub name_form : Form Name
name_form = checked name_of name_parts (field (pair u32_form blob_form))

-- a number that is always the same
abbrev pub fixed_of : ℕ → ℕ → Option (Unit {0})
fixed_of n x = if x == n then Some tt else None

abbrev pub fixed : ℕ → Form ℕ → Form (Unit {0})
fixed n f = checked (fixed_of n) (λ _. n) f

-- a flag: a byte 0 or 1
abbrev pub flag_of : ℕ → Option Bool
flag_of n = if n == 0 then Some false else if n == 1 then Some true else None

abbrev pub flag_number : Bool → ℕ
flag_number false = 0
flag_number true = 1

unfoldable pub flag_form : Form Bool
flag_form = checked flag_of flag_number u8_form
