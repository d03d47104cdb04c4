-- The laws, each by its lemma.
use Rattle.cx_enc.specs.FormLaws.{u8-lawful, u16-lawful, u32-lawful, u64-lawful, bytes-lawful, blob-lawful}
use Rattle.cx_enc.specs.FieldLaws.{sized-lawful, time-lawful, reading-lawful, key-lawful, secret-lawful, ticket-lawful, addr-lawful, kind-lawful, name-lawful, flag-lawful, reading_fits, reading_is}
use Rattle.cx_enc.proofs.laws.encoding_laws.Goals as goal

pub returns-clause-u8 : goal.returns-clause-u8
returns-clause-u8 c = u8-lawful

pub returns-clause-u16 : goal.returns-clause-u16
returns-clause-u16 c = u16-lawful

pub returns-clause-u32 : goal.returns-clause-u32
returns-clause-u32 c = u32-lawful

pub returns-clause-u64 : goal.returns-clause-u64
returns-clause-u64 c = u64-lawful

pub returns-clause-bytes : goal.returns-clause-bytes
returns-clause-bytes c = bytes-lawful

pub returns-clause-blob : goal.returns-clause-blob
returns-clause-blob c = blob-lawful

pub returns-clause-sized : goal.returns-clause-sized
returns-clause-sized c = sized-lawful

pub returns-clause-time : goal.returns-clause-time
returns-clause-time c = time-lawful

pub returns-clause-reading : goal.returns-clause-reading
returns-clause-reading c = reading-lawful

pub returns-clause-key : goal.returns-clause-key
returns-clause-key c = key-lawful

pub returns-clause-secret : goal.returns-clause-secret
returns-clause-secret c = secret-lawful

pub returns-clause-ticket : goal.returns-clause-ticket
returns-clause-ticket c = ticket-lawful

pub returns-clause-addr : goal.returns-clause-addr
returns-clause-addr c = addr-lawful

pub returns-clause-kind : goal.returns-clause-kind
returns-clause-kind c = kind-lawful

pub returns-clause-name : goal.returns-clause-name
returns-clause-name c = name-lawful

pub returns-clause-flag : goal.returns-clause-flag
returns-clause-flag c = flag-lawful

pub returns-clause-readings : goal.returns-clause-readings
returns-clause-readings c = λ reading. (reading_is reading, reading_fits reading)
