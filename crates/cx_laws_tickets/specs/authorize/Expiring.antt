-- At which reading a ticket is said to have expired ("The Ceph authentication protocol": a service takes no ticket behind its time, by its own clock).
use Rattle.std.specs.Prelude.{◌≡◌, ◌≤◌, ℕ, List, Contains}
use Rattle.cx_journal.specs.declared.entries.Entry.TheVariants as entry
use Rattle.cx_journal.specs.declared.entries.Refused.{Refused}
use Rattle.cx_journal.specs.declared.outcomes.Reason.{Reason}
use Rattle.cx_journal.specs.declared.outcomes.Reason.TheVariants as reason
use Rattle.cx_journal.specs.declared.outcomes.TicketFault.TheVariants as fault
use Rattle.cx_run.specs.Points.{EachPoint, Point, entries_at}

-- where a ticket is refused at this reading as expired, it is refused at just that reading, which its expiry doesn't lie behind
abbrev pub ExpiresAt : ℕ → Reason → Type 0
ExpiresAt reading (reason.Ticket (fault.Expired expires now) blob) = (now ≡ reading) × (expires ≤ reading)
ExpiresAt reading _ = Unit {0}

-- so is each refusal of each of these points, at the reading of its event
abbrev pub ExpireAtReadings : List Point → Type 0
ExpireAtReadings past = EachPoint (λ older p. (r : Refused) → Contains (entries_at p) (entry.Refused r) → ExpiresAt p.happening.reading r.reason) past
