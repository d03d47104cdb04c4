-- What comes of a frame that is sent, apart from want of memory.
use Rattle.std.specs.Prelude.{◌≡◌, ◌++◌, List, ℕ, Result, Ok, Err}
use Rattle.cx_journal.specs.declared.faults.BytesFault.{BytesFault}
use Rattle.cx_link.specs.Sending.{behind_ahead}
use Rattle.cx_link.specs.Wires.{SecureWire, Wire}
use Rattle.cx_link.specs.declared.links.AheadFrame.{AheadFrame}
use Rattle.cx_link.specs.declared.links.SentFrame.{SentFrame}
use Rattle.cx_node.specs.cx_rules.specs.Secured.{SealedFrame}
use Rattle.cx_node.specs.declared.steps_sending.SentPlain.{SentPlain}

-- the bytes of a plain frame were sent on the link, or it can't be written, as it is due
abbrev pub SendsPlain : Wire → Result (List ℕ) BytesFault → Result SentPlain BytesFault → Type 0
SendsPlain old expected (Ok sent) = (expected ≡ Ok sent.bytes) × (sent.link ≡ record old { sent = old.sent ++ sent.bytes })
SendsPlain old expected (Err why) = expected ≡ Err why

-- the same of a secure frame; what came on the link isn't touched
abbrev pub SendsSecure : SecureWire → Result SealedFrame BytesFault → Result SentFrame BytesFault → Type 0
SendsSecure old expected (Ok sent) =
    (expected ≡ Ok (record { bytes = sent.bytes; seals = sent.seals; keys = sent.link.keys })) × (sent.link.ahead ≡ old.ahead)
SendsSecure old expected (Err why) = expected ≡ Err why

-- a frame was sealed ahead on a link, under the counter at which that stands, or it can't be written, as it is due
abbrev pub SealsSecure : SecureWire → Result SealedFrame BytesFault → Result AheadFrame BytesFault → Type 0
SealsSecure link expected (Ok sealed) =
    (expected ≡ Ok (record { bytes = sealed.bytes; seals = sealed.seals; keys = (behind_ahead link sealed.ahead).keys })) × (sealed.ahead.from ≡ link.keys.out.counter)
SealsSecure link expected (Err why) = expected ≡ Err why
