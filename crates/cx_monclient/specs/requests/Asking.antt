-- What comes of a request that is sent, apart from want of memory.
use Rattle.std.specs.Prelude.{◌≡◌, Result, Ok, Err}
use Rattle.cx_journal.specs.declared.outcomes.Reason.{Reason}
use Rattle.cx_node.specs.cx_link.specs.Wires.{SecureWire}
use Rattle.cx_node.specs.cx_link.specs.Sending.{behind_ahead}
use Rattle.cx_node.specs.cx_link.specs.declared.links.AheadFrame.{AheadFrame}
use Rattle.cx_rules.specs.Requests.{Requests, behind_request}
use Rattle.cx_rules.specs.Secured.{SealedFrame}
use Rattle.cx_rules.specs.declared.requests.Want.{Want}
use Rattle.cx_monclient.specs.declared.requests_asking.Asked.{Asked}

-- the request was sealed ahead, under the counter at which the link stands, and is noted, or the link is refused, as is due
abbrev pub AsksFor : SecureWire → Requests → Want → Result SealedFrame Reason → Result Asked Reason → Type 0
AsksFor link requests want due (Ok asked) =
    (due ≡ Ok (record { bytes = asked.bytes; seals = asked.seals; keys = (behind_ahead link asked.ahead.link).keys }))
    × (asked.ahead.link.from ≡ link.keys.out.counter) × (asked.ahead.requests ≡ behind_request requests want)
AsksFor link requests want due (Err why) = due ≡ Err why

-- what was sealed is as it was, and the request is noted
abbrev pub IsNoted : AheadFrame → Requests → Want → Result Asked Reason → Type 0
IsNoted sealed requests want (Ok asked) =
    asked ≡ record { ahead = record { link = sealed.ahead; requests = behind_request requests want }; bytes = sealed.bytes; seals = sealed.seals }
IsNoted sealed requests want (Err why) = ⊥
