-- What each row of a client's link to a daemon keeps: the link, but for what was sent and its stage; all that the client has as one that asks the
-- monitor, but for its count of connections to daemons. It saves nothing, and enters a refusal or an answer.
use Rattle.std.proofs.Common.{◌≡◌, ℕ, List, [], ◌∷◌, None, refl}
use Rattle.std.specs.List.{AllByRecursion}
use Rattle.cx_rules_session.specs.Presenter.{CallArrival, CallRow, CallStage, Caller, counting, turned_at}
use Rattle.cx_rules_session.specs.cx_journal.specs.declared.entries.Entry.{Entry}
use Rattle.cx_rules_session.specs.cx_journal.specs.declared.entries.Entry.TheVariants as entry
use Rattle.cx_rules_session.specs.cx_rules.specs.Fronts.{taking}
use Rattle.cx_rules_session.specs.cx_rules.specs.Holdings.{MonClient}
use Rattle.cx_rules_session.specs.cx_rules.specs.Rows.{Turned, at, Waits, Refuses, Handles}
use Rattle.cx_run.proofs.CallWalk.{CallEnters, ClosesCall, EntersAnswer, EntersReset, call-rows}
use Rattle.cx_run.proofs.Outcomes.{IsNoTicket}
use Rattle.cx_run.proofs.Taking.{EachRow, Keeps, TurnTakes, Takes, taking-takes}

-- a refusal of anything but a ticket, or an answer that the client of this name had
abbrev pub IsCallEntry : MonClient → Entry → Type 0
IsCallEntry mon_client (entry.Refused r) = IsNoTicket r.reason
IsCallEntry mon_client (entry.Answered x) = x.client ≡ mon_client.name
IsCallEntry mon_client _ = ⊥

-- the client as one that asks is as before, but for its count of connections to daemons
abbrev pub IsStill : MonClient → MonClient → Type 0
IsStill before mon_client = (global : ℕ) × (mon_client ≡ record before { global_seq = global })

-- what a row leaves of what the client has, and what it saves and enters
pub record Leaves (mon_client : MonClient) (row : CallRow) : Type 0 where
  pub still : IsStill mon_client row.own.mon_client
  pub saves_none : row.save ≡ None
  pub enters : AllByRecursion (IsCallEntry mon_client) row.entries

-- and of its link
abbrev KeepsCall : CallArrival → CallRow → Type 0
KeepsCall a row = Keeps a.link row × Leaves a.own.mon_client row

own-entry : (a : CallArrival) (global : ℕ) (e : Entry) → IsCallEntry (counting a global).own.mon_client e → IsCallEntry a.own.mon_client e
own-entry a global (entry.Refused r) h = h
own-entry a global (entry.Answered x) h = h
own-entry a global _ h = absurd h

closes-keeps : (before : CallStage) → ClosesCall before KeepsCall
closes-keeps before = record {
  shut = λ a why seals told. (tt, record { still = (a.own.mon_client.global_seq, refl); saves_none = refl; enters = (told, tt) });
  went = λ a next bytes seals goes.
      (record { number = refl; ahead = refl }, record { still = (a.own.mon_client.global_seq, refl); saves_none = refl; enters = tt });
  held = λ a session row holds h. (h.0, record { still = h.1.still; saves_none = h.1.saves_none; enters = h.1.enters });
  counted = λ a global row h. (
    h.0,
    record {
      still = (h.1.still.0, h.1.still.1);
      saves_none = h.1.saves_none;
      enters = all-entries (own-entry a global) row.entries h.1.enters;
    },
  );
  wrote = λ a e row enters h. (h.0, record { still = h.1.still; saves_none = h.1.saves_none; enters = (by_entry before a e enters, h.1.enters) });
  opened = λ a parts row h. (h.0, record { still = h.1.still; saves_none = h.1.saves_none; enters = h.1.enters });
}
  where
    by_entry : (st : CallStage) (a : CallArrival) (e : Entry) → CallEnters a st e → IsCallEntry a.own.mon_client e
    by_entry _ a _ (EntersReset st) = tt
    by_entry _ a _ (EntersAnswer s callee cookie end) = refl

    all-entries : {P Q : Entry → Type 0} → ((e : Entry) → P e → Q e) → (es : List Entry) → AllByRecursion P es → AllByRecursion Q es
    all-entries f [] h = tt
    all-entries f (e ∷ es) h = (f e h.0, all-entries f es h.1)

-- ---- a turn

-- a turn takes some of what is ahead on its link, and leaves what the client has as its rows do
pub record CallTakes (a : CallArrival) (t : Turned Caller CallStage) : Type 0 where
  pub takes : TurnTakes a.link t
  pub leaves : EachRow (Leaves a.own.mon_client) t

pub call-takes : (a : CallArrival) (stage : CallStage) → CallTakes a (turned_at a stage)
call-takes a stage =
    by_turned (turned_at a stage)
    (call-rows KeepsCall a (λ (row : CallRow). Takes a.link row.link × Leaves a.own.mon_client row)
    (λ n ahead row h. (taking-takes a.link n row.link ahead.some ahead.within h.0, leaves-so n row h.1)) stage (closes-keeps stage))
  where
    leaves-so : (n : ℕ) (row : CallRow) → Leaves (at a (taking a.link n)).own.mon_client row → Leaves a.own.mon_client row
    leaves-so n row h = h

    by_turned : (t : Turned Caller CallStage) → EachRow (λ (row : CallRow). Takes a.link row.link × Leaves a.own.mon_client row) t → CallTakes a t
    by_turned Waits h = record { takes = tt; leaves = tt }
    by_turned (Refuses why opened) h = record { takes = tt; leaves = tt }
    by_turned (Handles row) h = record { takes = h.0; leaves = h.1 }
