-- The peer's AUTH_SIGNATURE, as it was read.
use Rattle.std.specs.Prelude.{◌≡◌, Option, Some, None, Result, Ok, Err, if◌then◌else◌}
use Rattle.cx_control.specs.declared.auth.AuthSignature.{AuthSignature}
use Rattle.cx_journal.specs.declared.faults.BytesFault.{BytesFault}
use Rattle.cx_journal.specs.declared.faults.LoginFault.TheVariants.{SignatureWrong}
use Rattle.cx_journal.specs.declared.outcomes.Reason.{Reason}
use Rattle.cx_journal.specs.declared.outcomes.Reason.TheVariants.{Bytes, Login}
use Rattle.cx_link.specs.Sending.{secured_of}
use Rattle.cx_link.specs.declared.links.Checked.{Checked}
use Rattle.cx_link.specs.declared.links.Signing.{Signing}
use Rattle.cx_node.specs.cx_rules.specs.Secured.{Secured, is_signed, signature_found}
use Rattle.cx_node.specs.declared.steps_rows.NoRow.{NoRow}
use Rattle.cx_node.specs.declared.steps_rows.NoRow.TheVariants.{Refused, OutOfMemory}

-- why a link is refused for what was read of its peer's signature, if it is
abbrev pub signature_refusal : Secured → Result AuthSignature BytesFault → Option Reason
signature_refusal s (Err why) = Some (Bytes why)
signature_refusal s (Ok found) = if is_signed s found.signature then None else Some (Login SignatureWrong)

-- the link goes on exactly where it isn't
abbrev pub Checks : Signing → Result AuthSignature BytesFault → Result Checked NoRow → Type 0
Checks s read (Ok c) = (signature_refusal (secured_of s) read ≡ None) × (c ≡ record { link = s.link; entry = signature_found (secured_of s) })
Checks s read (Err (Refused why)) = signature_refusal (secured_of s) read ≡ Some why
Checks s read (Err OutOfMemory) = ⊥
