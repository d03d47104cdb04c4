-- Frames that keep an open link alive ("msgr2 protocol", keepalive frames), at either end.
use Rattle.std.specs.Prelude.{[], Result}
use Rattle.cx_login.specs.cx_control.specs.Upkeep.{keepalive2_ack_layout}
use Rattle.cx_login.specs.cx_control.specs.declared.upkeep.Keepalive2.{Keepalive2}
use Rattle.cx_login.specs.cx_control.specs.declared.upkeep.Keepalive2Ack.{Keepalive2Ack}
use Rattle.cx_login.specs.cx_journal.specs.declared.faults.BytesFault.{BytesFault}
use Rattle.cx_rules.specs.Payloads.{control}
use Rattle.cx_rules.specs.Rows.{Arrival, Row, goes_on, sends_secure, unless_refused}
use Rattle.cx_rules.specs.Secured.{Secured}

module _ {Own Stage : Type 0} where
  -- KEEPALIVE2: the same time is sent back
  abbrev pub on_keepalive : Arrival Own Stage → Secured → (Secured → Stage) → Result Keepalive2 BytesFault → Row Own Stage
  on_keepalive a s open_under read = unless_refused a [] read (λ keepalive.
      sends_secure a s open_under [] (control 19 keepalive2_ack_layout.form (record { time = keepalive.time })))

  -- KEEPALIVE2_ACK: nothing
  abbrev pub on_keepalive_ack : Arrival Own Stage → Secured → (Secured → Stage) → Result Keepalive2Ack BytesFault → Row Own Stage
  on_keepalive_ack a s open_under read = unless_refused a [] read (λ ack. goes_on a (open_under s) [] [])
