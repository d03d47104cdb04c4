-- The laws, each by its lemma.
use Rattle.cx_enc.proofs.Needed.{IsField-u8, IsField-u16, IsField-u32, IsField-u64, IsField-bytes, IsField-blob, IsField-sized_blob, IsField-time, IsField-reading, IsField-key, IsField-secret, IsField-ticket, IsField-addr, IsField-kind, IsField-name, IsField-flag}
use Rattle.cx_enc.proofs.laws.fault_laws.Goals as goal

pub returns-clause-u8 : goal.returns-clause-u8
returns-clause-u8 c = IsField-u8

pub returns-clause-u16 : goal.returns-clause-u16
returns-clause-u16 c = IsField-u16

pub returns-clause-u32 : goal.returns-clause-u32
returns-clause-u32 c = IsField-u32

pub returns-clause-u64 : goal.returns-clause-u64
returns-clause-u64 c = IsField-u64

pub returns-clause-bytes : goal.returns-clause-bytes
returns-clause-bytes c = IsField-bytes

pub returns-clause-blob : goal.returns-clause-blob
returns-clause-blob c = IsField-blob

pub returns-clause-sized : goal.returns-clause-sized
returns-clause-sized c = IsField-sized_blob

pub returns-clause-time : goal.returns-clause-time
returns-clause-time c = IsField-time

pub returns-clause-reading : goal.returns-clause-reading
returns-clause-reading c = IsField-reading

pub returns-clause-key : goal.returns-clause-key
returns-clause-key c = IsField-key

pub returns-clause-secret : goal.returns-clause-secret
returns-clause-secret c = IsField-secret

pub returns-clause-ticket : goal.returns-clause-ticket
returns-clause-ticket c = IsField-ticket

pub returns-clause-addr : goal.returns-clause-addr
returns-clause-addr c = IsField-addr

pub returns-clause-kind : goal.returns-clause-kind
returns-clause-kind c = IsField-kind

pub returns-clause-name : goal.returns-clause-name
returns-clause-name c = IsField-name

pub returns-clause-flag : goal.returns-clause-flag
returns-clause-flag c = IsField-flag
