-- Frames that were sent, as they were sealed.
use Rattle.cx_node.specs.cx_link.specs.declared.links.SentFrame.{SentFrame}
use Rattle.cx_node.specs.cx_rules.specs.Secured.{SealedFrame}

abbrev pub sealed_of : SentFrame → SealedFrame
sealed_of sent = record { bytes = sent.bytes; seals = sent.seals; keys = sent.link.keys }
