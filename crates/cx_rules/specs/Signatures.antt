-- The peer's AUTH_SIGNATURE, at either end of a link ("msgr2 protocol": authentication).
use Rattle.std.specs.Prelude.{[], Result, if◌then◌else◌}
use Rattle.cx_login.specs.cx_control.specs.declared.auth.AuthSignature.{AuthSignature}
use Rattle.cx_login.specs.cx_journal.specs.declared.faults.BytesFault.{BytesFault}
use Rattle.cx_login.specs.cx_journal.specs.declared.faults.LoginFault.TheVariants.{SignatureWrong}
use Rattle.cx_login.specs.cx_journal.specs.declared.outcomes.Reason.TheVariants.{Login}
use Rattle.cx_rules.specs.Rows.{Arrival, Row, refuses, unless_refused}
use Rattle.cx_rules.specs.Secured.{Secured, is_signed}

-- it has to cover all that was sent before one's own; behind one that does, this row follows
abbrev pub unless_unsigned : {Own Stage : Type 0} → Arrival Own Stage → Secured → Result AuthSignature BytesFault → Row Own Stage → Row Own Stage
unless_unsigned a s read row = unless_refused a [] read (λ found. if is_signed s found.signature then row else refuses a (Login SignatureWrong) [])
