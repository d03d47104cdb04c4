-- The row of the rules of a keepalive on an open link, which holds the keys alone, is that of what is sent behind it; any other frame is for
-- another row.
use Rattle.std.proofs.Common.{◌≡◌, ◌==◌, Bool, true, false, [], Result, Ok, Err, refl}
use Rattle.std.specs.Prelude.{◌||◌, if◌then◌else◌}
use Rattle.cx_control.specs.Upkeep.{keepalive2_layout, keepalive2_ack_layout}
use Rattle.cx_control.specs.declared.upkeep.Keepalive2.{Keepalive2}
use Rattle.cx_control.specs.declared.upkeep.Keepalive2Ack.{Keepalive2Ack}
use Rattle.cx_frame.specs.declared.frame.Frame.{Frame}
use Rattle.cx_journal.specs.declared.faults.BytesFault.{BytesFault}
use Rattle.cx_journal.specs.declared.faults.BytesFault.TheVariants.{Unexpected}
use Rattle.cx_node.specs.cx_rules.specs.Messages.{on_upkeep_or}
use Rattle.cx_node.specs.cx_rules.specs.Payloads.{payload}
use Rattle.cx_node.specs.cx_rules.specs.Rows.{Arrival, Row, secure_sent}
use Rattle.cx_node.specs.cx_rules.specs.Secured.{Keys, SealedFrame, Secured}
use Rattle.cx_node.specs.cx_rules.specs.Upkeep.{on_keepalive, on_keepalive_ack}
use Rattle.cx_node.specs.steps.Stages.{keys_alone}
use Rattle.cx_node.specs.steps.Upkeep.{acknowledged, answered, is_keepalive, upkept}

module _ {Own Stage : Type 0} (a : Arrival Own Stage) (keys : Keys) (open_under : Secured → Stage) where
  abbrev sent : Result SealedFrame BytesFault → Row Own Stage
  sent r = secure_sent a (keys_alone keys) open_under [] r

  answered-row : (read : Result Keepalive2 BytesFault) → on_keepalive a (keys_alone keys) open_under read ≡ sent (answered keys read)
  answered-row (Err why) = refl
  answered-row (Ok keepalive) = refl

  acknowledged-row : (read : Result Keepalive2Ack BytesFault) → on_keepalive_ack a (keys_alone keys) open_under read ≡ sent (acknowledged keys read)
  acknowledged-row (Err why) = refl
  acknowledged-row (Ok ack) = refl

  kept-row : (other : Frame → Row Own Stage) (f : Frame) (b c : Bool) → (b || c) ≡ true → (
      if b then on_keepalive a (keys_alone keys) open_under (payload keepalive2_layout.form f)
      else if c then on_keepalive_ack a (keys_alone keys) open_under (payload keepalive2_ack_layout.form f)
      else other f)
      ≡ sent (if b then answered keys (payload keepalive2_layout.form f)
      else if c then acknowledged keys (payload keepalive2_ack_layout.form f)
      else Err (Unexpected f.tag))
  kept-row other f true c is = answered-row (payload keepalive2_layout.form f)
  kept-row other f false true is = acknowledged-row (payload keepalive2_ack_layout.form f)
  kept-row other f false false is = absurd (cc)

  -- a keepalive is answered as ever
  pub keepalive-row : (other : Frame → Row Own Stage) (f : Frame) → is_keepalive f ≡ true
      → on_upkeep_or other a (keys_alone keys) open_under f ≡ secure_sent a (keys_alone keys) open_under [] (upkept keys f)
  keepalive-row other f is = kept-row other f (f.tag == 18) (f.tag == 19) is

module _ {Own Stage : Type 0} (a : Arrival Own Stage) (s : Secured) (open_under : Secured → Stage) where
  left-row : (other : Frame → Row Own Stage) (f : Frame) (b c : Bool) → (b || c) ≡ false → (
      if b then on_keepalive a s open_under (payload keepalive2_layout.form f)
      else if c then on_keepalive_ack a s open_under (payload keepalive2_ack_layout.form f)
      else other f) ≡ other f
  left-row other f true c is = absurd (cc)
  left-row other f false true is = absurd (cc)
  left-row other f false false is = refl

  -- any other frame is for that row
  pub other-row : (other : Frame → Row Own Stage) (f : Frame) → is_keepalive f ≡ false → on_upkeep_or other a s open_under f ≡ other f
  other-row other f is = left-row other f (f.tag == 18) (f.tag == 19) is
