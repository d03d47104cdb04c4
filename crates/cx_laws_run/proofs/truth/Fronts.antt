-- Each front of a list of events that may happen may happen; so where it is sound and fresh, all laws hold of it.
use Rattle.std.proofs.Common.{◌≡◌, ◌<◌, ℕ, List, [], ◌∷◌, ◌++◌, length, refl, subst, true}
use Rattle.std.specs.List.{AllByRecursion}
use Rattle.cx_desk.specs.Handlers.{Handlers}
use Rattle.cx_laws_run.proofs.cover.Whole.{any-covered, any-moments, any-paced}
use Rattle.cx_laws_run.proofs.run.Happening.{any-law, any-logins, any-origins}
use Rattle.cx_laws_run.proofs.run.Journals.{keeps-tickets}
use Rattle.cx_laws_run.proofs.run.Schedules.{may-happen}
use Rattle.cx_laws_run.proofs.run.Whole.{run_of}
use Rattle.cx_laws_run.proofs.sent.Sending.{trace-fits}
use Rattle.cx_laws_run.proofs.truth.Whole.{any-answered, any-lawful}
use Rattle.cx_laws_run.specs.cx_laws_tickets.specs.cx_run.specs.Visits.{IsNoLook}
use Rattle.cx_laws_run.specs.cx_lines.specs.declared.lines.Numbered.{Numbered}
use Rattle.cx_laws_run.specs.cx_run.specs.Happenings.{Happening}
use Rattle.cx_laws_run.specs.cx_run.specs.Opening.{Setup}
use Rattle.cx_laws_run.specs.cx_run.specs.Points.{journal_since}
use Rattle.cx_laws_run.specs.cx_run.specs.Runs.{setup_of, trace}
use Rattle.cx_laws_run.specs.cx_schedule.specs.Files.{Lines}
use Rattle.cx_laws_run.specs.run.Fronts.{HoldUntilBreach}
use Rattle.cx_laws_run.specs.run.Laws.{AreBytes, MayHappen}
use Rattle.cx_laws_run.specs.sent.Fitting.{AreFit, IsFit}

all-front : (P : Happening → Type 0) (front rest : List Happening) → AllByRecursion P (front ++ rest) → AllByRecursion P front
all-front P [] rest h = tt
all-front P (x ∷ front) rest h = (h.0, all-front P front rest h.1)

front-happens : (setup : Setup) (front rest : List Happening) → MayHappen setup (front ++ rest) → MayHappen setup front
front-happens setup front rest m = record {
  begins = m.begins;
  drawn = all-front (λ (h : Happening). length h.draw ≡ 384) front rest m.drawn;
  bytes = all-front (λ (h : Happening). AreBytes h.draw) front rest m.bytes;
  readings = all-front (λ (h : Happening). h.reading < 4000000000000000000) front rest m.readings;
  looks = all-front (λ (h : Happening). IsNoLook h.input) front rest m.looks;
}

pub holds-fronts : (setup : Setup) (hs : List Happening) → MayHappen setup hs → AreFit hs → HoldUntilBreach setup hs
holds-fronts setup hs m fits front rest is sound fresh =
    let happens : MayHappen setup front = front-happens setup front rest (subst (λ (l : List Happening). MayHappen setup l) is m) in
    let fit : AreFit front = all-front (λ (h : Happening). IsFit h.input) front rest (subst (λ (l : List Happening). AreFit l) is fits) in
    record {
      lawful = any-lawful setup front happens fit sound fresh;
      expiry = (keeps-tickets (run_of setup front true) refl (journal_since setup front) (any-law setup front happens sound fresh)).keeps_expiry;
      answered = any-answered setup front happens fit sound fresh;
      logged_in = any-logins setup front happens sound fresh;
      goes_back = any-origins setup front happens sound fresh;
      covered = any-covered setup front happens sound fresh;
      paced = any-paced setup front happens sound fresh;
      fetched = any-moments setup front happens sound fresh;
    }

pub schedule-fronts : (handlers : Handlers) (bytes : List ℕ) (script : List Numbered) → Lines bytes script → HoldUntilBreach (setup_of handlers script) (trace handlers script)
schedule-fronts handlers bytes script said =
    holds-fronts (setup_of handlers script) (trace handlers script) (may-happen handlers bytes script said) (trace-fits handlers bytes script said)
