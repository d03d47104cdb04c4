-- What one that asks the monitor enters at a turn, whatever comes: no ticket is issued, and no session admitted.
use Rattle.std.proofs.Common.{List, Some, refl}
use Rattle.std.specs.List.{AllByRecursion}
use Rattle.cx_laws_keys.specs.cx_journal.specs.declared.entries.Entry.{Entry}
use Rattle.cx_laws_keys.specs.cx_journal.specs.declared.entries.Entry.TheVariants as journal
use Rattle.cx_laws_keys.specs.cx_journal.specs.declared.outcomes.Reason.{Reason}
use Rattle.cx_laws_keys.specs.cx_journal.specs.declared.outcomes.Reason.TheVariants as reason
use Rattle.cx_rules.specs.Connector.{Stage, MonClientArrival, MonClientRow, turned_at}
use Rattle.cx_rules.specs.Holdings.{MonClient}
use Rattle.cx_laws_keys.proofs.keys.Journal.{IsOfLogin}
use Rattle.cx_laws_keys.proofs.keys.Viewing.{ShowsAlong, viewed-own}
use Rattle.cx_rules.proofs.MonClientWalk.{MonClientWays, IsNoTicket, mon_client-walk}
use Rattle.cx_rules.proofs.RowWalk.{EachRow}

-- it refuses something, which is no ticket; it was told generations; or it begins anew
abbrev pub IsOfMonClient : Entry → Type 0
IsOfMonClient (journal.Refused r) = IsOfLogin r.reason
IsOfMonClient (journal.Fetched f) = Unit {0}
IsOfMonClient (journal.Restarted at) = Unit {0}
IsOfMonClient _ = ⊥

abbrev pub OfMonClient : List Entry → Type 0
OfMonClient es = AllByRecursion IsOfMonClient es

-- ---- rows

-- of a row of one that asks: what it enters, and that this tells its view
pub record RowOfMonClient (mon_client : MonClient) (row : MonClientRow) : Type 0 where
  pub enters : OfMonClient row.entries
  pub shows : ShowsAlong mon_client.name mon_client.view row.entries row.own.view

no_ticket-of_login : (why : Reason) → IsNoTicket why → IsOfLogin why
no_ticket-of_login (reason.Ticket fault blob) h = absurd h
no_ticket-of_login _ h = tt

abbrev OfOwn : MonClientArrival → MonClientRow → Type 0
OfOwn a row = RowOfMonClient a.own row

none-ways : MonClientWays OfOwn
none-ways = record {
  refused = λ a why seals fine. record { enters = (no_ticket-of_login why fine, tt); shows = (tt, refl) };
  gone_on = λ a stage bytes seals logs. record { enters = tt; shows = refl };
  held = λ a holdings row h. record { enters = h.enters; shows = h.shows };
  behind = λ a opened row h. record { enters = h.enters; shows = h.shows };
}

pub none-turned : (a : MonClientArrival) (stage : Stage) → EachRow (RowOfMonClient a.own) (turned_at a stage)
none-turned a stage =
    mon_client-walk OfOwn none-ways (λ b link row h. h)
    (λ b s r f reading generations opened is. record {
      enters = (tt, tt);
      shows = (refl, viewed-own b.own.name b.own.view (record { generations = generations; asked = Some reading }));
    })
    a stage
