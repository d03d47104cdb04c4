-- The rows of a client of a daemon keep their link and all that the daemon has of its own, and issue no ticket, whatever its book replies; and a turn
-- of such a link takes some of what is ahead.
use Rattle.std.proofs.Common.{◌≡◌, refl}
use Rattle.std.specs.List.{AllByRecursion}
use Rattle.cx_rules_session.specs.IncomingLinks.{IncomingArrival, IncomingRow, IncomingStage}
use Rattle.cx_rules_session.specs.Hosting.{Hosted, incoming_turned}
use Rattle.cx_rules_session.specs.cx_desk.specs.Handlers.{Handlers}
use Rattle.cx_rules_session.specs.cx_journal.specs.declared.entries.Entry.{Entry}
use Rattle.cx_rules_session.specs.cx_journal.specs.declared.entries.Entry.TheVariants as entry
use Rattle.cx_rules_session.specs.cx_rules.specs.Holdings.{MonClient}
use Rattle.cx_rules_session.specs.cx_rules.specs.Rows.{Turned, Waits, Refuses, Handles}
use Rattle.cx_run.proofs.Always.{Always, always-weaker}
use Rattle.cx_run.proofs.IncomingWalk.{ClosesIncoming, Enters, EntersAdmitted, EntersHandled, EntersLook, EntersResumed, EntersWhy, incoming-rows}
use Rattle.cx_run.proofs.Taking.{Takes, EachRow, Keeps, TurnTakes, taking-takes}

-- ---- rows

-- no ticket is issued
abbrev pub IssuesNone : Entry → Type 0
IssuesNone (entry.Issued ticket) = ⊥
IssuesNone _ = Unit {0}

-- what the daemon has of its own stays, and no ticket is issued
abbrev pub StaysIncoming : IncomingArrival → IncomingRow → Type 0
StaysIncoming a row = (row.own ≡ a.own) × AllByRecursion IssuesNone row.entries

-- and what a row leaves of the link is as it was, but for what was sent and the stage
abbrev KeepsIncoming : IncomingArrival → IncomingRow → Type 0
KeepsIncoming a row = Keeps a.link row × StaysIncoming a row

closes-keeps : ClosesIncoming KeepsIncoming
closes-keeps = record {
  shut = λ a why seals. (tt, (refl, (tt, tt)));
  sent = λ a row bytes h. h;
  went = λ a stage bytes seals. (record { number = refl; ahead = refl }, (refl, tt));
  wrote = λ a e row enters h. (h.0, (h.1.0, (by_entry a e enters, h.1.1)));
  opened = λ a parts row h. h;
}
  where
    by_entry : (a : IncomingArrival) (e : Entry) → Enters a e → IssuesNone e
    by_entry a _ EntersLook = tt
    by_entry a _ (EntersWhy why) = tt
    by_entry a _ (EntersAdmitted owner number epoch cookie) = tt
    by_entry a _ (EntersResumed owner number epoch cookie) = tt
    by_entry a _ (EntersHandled f served i outcome is) = tt

-- ---- a turn

-- a turn takes some of what is ahead, and so does its row
pub record TakesHosted (a : IncomingArrival) (hosted : Hosted) : Type 0 where
  pub takes : TurnTakes a.link hosted.turned
  pub stays : EachRow (StaysIncoming a) hosted.turned

abbrev TakesAndStays : IncomingArrival → IncomingRow → Type 0
TakesAndStays a row = Takes a.link row.link × StaysIncoming a row

pub incoming-takes : (handlers : Handlers) (a : IncomingArrival) (stage : IncomingStage) → Always (TakesHosted a) (incoming_turned handlers a stage)
incoming-takes handlers a stage =
    always-weaker (λ (h : Hosted). EachRow (TakesAndStays a) h.turned) (TakesHosted a) (λ h both. record { takes = takes h.turned both; stays = stays h.turned both })
    (incoming_turned handlers a stage)
    (incoming-rows KeepsIncoming closes-keeps handlers a (TakesAndStays a) (λ n ahead row h. (taking-takes a.link n row.link ahead.some ahead.within h.0, h.1)) stage)
  where
    takes : (turned : Turned MonClient IncomingStage) → EachRow (TakesAndStays a) turned → TurnTakes a.link turned
    takes Waits h = tt
    takes (Refuses why opened) h = tt
    takes (Handles row) h = h.0

    stays : (turned : Turned MonClient IncomingStage) → EachRow (TakesAndStays a) turned → EachRow (StaysIncoming a) turned
    stays Waits h = tt
    stays (Refuses why opened) h = tt
    stays (Handles row) h = h.1
