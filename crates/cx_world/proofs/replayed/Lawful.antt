-- The laws of a run, and of one that keeps its premises.
use Rattle.std.proofs.Common.{◌≡◌, ℕ, List, Option, None, subst, sym}
use Rattle.cx_base.specs.Names.{Name}
use Rattle.cx_desk.specs.Handlers.{Handlers}
use Rattle.cx_journal.specs.declared.entries.Entry.{Entry}
use Rattle.cx_journal.specs.declared.premises.Broken.{Broken}
use Rattle.cx_journal.specs.Enforced.{IsEnforced}
use Rattle.cx_journal.specs.InSession.{IsInSession}
use Rattle.cx_laws_run.specs.cx_laws_sessions.specs.session.Entering.{EntersOwn}
use Rattle.cx_laws_run.specs.cx_laws_tickets.specs.authorize.Expiring.{ExpireAtReadings}
use Rattle.cx_laws_run.specs.cx_laws_tickets.specs.chain.Granted.{AreOfKeyring}
use Rattle.cx_laws_run.specs.cx_laws_tickets.specs.fetch.Covered.{FetchesPaced, IsCovered, IsSteadyFor}
use Rattle.cx_laws_run.specs.cx_laws_tickets.specs.fetch.Fetches.{AreOfMoments}
use Rattle.cx_laws_run.specs.run.Fronts.{HoldUntilBreach}
use Rattle.cx_laws_run.specs.run.Laws.{KeepsExpiry, KeepsLaws, KeepsTickets, LooksLast}
use Rattle.cx_laws_run.specs.run.Logins.{LogIn, Stands}
use Rattle.cx_laws_run.specs.run.Origins.{GoBack}
use Rattle.cx_laws_run.specs.sent.Answering.{AnswerWhatWasSent}
use Rattle.cx_schedule.specs.cx_lines.specs.declared.lines.Numbered.{Numbered}
use Rattle.cx_world.specs.replayed.Serving.{IsReplayOf, serves}
use Rattle.cx_schedule.specs.Files.{Lines}
use Rattle.cx_laws_run.specs.cx_run.specs.Happenings.{Happening}
use Rattle.cx_laws_run.specs.cx_run.specs.Opening.{Setup}
use Rattle.cx_laws_run.specs.cx_run.specs.Points.{EachPoint, points}
use Rattle.cx_laws_run.specs.cx_run.specs.Runs.{IsFoundOf, run_journal, setup_of, trace}

-- what is so of every run is so of this one; where nothing is found of its premises, the other laws hold too
pub is_replay : (handlers : Handlers) (bytes : List ℕ) (script : List Numbered) (journal : List Entry) (found : Option Broken)
    → ((setup : Setup) (hs : List Happening) → Stands setup hs)
    → ((setup : Setup) (hs : List Happening) → AreOfKeyring setup (points setup hs))
    → ((h : Handlers) (s : List Numbered) → LooksLast (run_journal h s))
    → ((setup : Setup) (hs : List Happening) → ExpireAtReadings (points setup hs))
    → ((setup : Setup) (hs : List Happening) → EachPoint EntersOwn (points setup hs))
    → ((h : Handlers) (s : List Numbered) → IsInSession (run_journal h s) × IsEnforced (serves h) (run_journal h s))
    → ((h : Handlers) (b : List ℕ) (s : List Numbered) → Lines b s → HoldUntilBreach (setup_of h s) (trace h s))
    → ((h : Handlers) (b : List ℕ) (s : List Numbered) → Lines b s → IsFoundOf h s None → KeepsLaws (serves h) (run_journal h s))
    → ((h : Handlers) (b : List ℕ) (s : List Numbered) → Lines b s → IsFoundOf h s None → AnswerWhatWasSent (run_journal h s))
    → ((h : Handlers) (b : List ℕ) (s : List Numbered) → Lines b s → IsFoundOf h s None → KeepsTickets (run_journal h s))
    → ((h : Handlers) (b : List ℕ) (s : List Numbered) → Lines b s → IsFoundOf h s None → LogIn (setup_of h s) (points (setup_of h s) (trace h s)))
    → ((h : Handlers) (b : List ℕ) (s : List Numbered) → Lines b s → IsFoundOf h s None → GoBack (setup_of h s) (points (setup_of h s) (trace h s)))
    → ((h : Handlers) (b : List ℕ) (s : List Numbered) → Lines b s → IsFoundOf h s None → (daemon : Name) → IsSteadyFor daemon (trace h s)
    → IsCovered (setup_of h s) daemon (points (setup_of h s) (trace h s)))
    → ((h : Handlers) (b : List ℕ) (s : List Numbered) → Lines b s → IsFoundOf h s None → FetchesPaced (setup_of h s) (points (setup_of h s) (trace h s)))
    → ((h : Handlers) (b : List ℕ) (s : List Numbered) → Lines b s → IsFoundOf h s None → AreOfMoments (points (setup_of h s) (trace h s)))
    → Lines bytes script → journal ≡ run_journal handlers script → IsFoundOf handlers script found → IsReplayOf handlers script journal found
is_replay handlers bytes script journal found stands grants looks expires enters sessions until keeps answers tickets logs goes covers paces fetches said run kept =
    let Found : Option Broken → Type 0 = λ f. IsFoundOf handlers script f in
    let Looks : List Entry → Type 0 = λ j. LooksLast j in
    let InSession : List Entry → Type 0 = λ j. IsInSession j in
    let Enforced : List Entry → Type 0 = λ j. IsEnforced (serves handlers) j in
    let Lawful : List Entry → Type 0 = λ j. KeepsLaws (serves handlers) j in
    let Answered : List Entry → Type 0 = λ j. AnswerWhatWasSent j in
    let Expiry : List Entry → Type 0 = λ j. KeepsExpiry j in
    record {
      run = run;
      found_so = kept;
      stands = stands (setup_of handlers script) (trace handlers script);
      granted = grants (setup_of handlers script) (trace handlers script);
      looks = subst Looks (sym run) (looks handlers script);
      expired = expires (setup_of handlers script) (trace handlers script);
      entered = enters (setup_of handlers script) (trace handlers script);
      in_session = subst InSession (sym run) (sessions handlers script).0;
      enforced = subst Enforced (sym run) (sessions handlers script).1;
      until = until handlers bytes script said;
      lawful = λ none. subst Lawful (sym run) (keeps handlers bytes script said (subst Found none kept));
      answered = λ none. subst Answered (sym run) (answers handlers bytes script said (subst Found none kept));
      expiry = λ none. subst Expiry (sym run) (tickets handlers bytes script said (subst Found none kept)).keeps_expiry;
      logged_in = λ none. logs handlers bytes script said (subst Found none kept);
      goes_back = λ none. goes handlers bytes script said (subst Found none kept);
      covered = λ none. covers handlers bytes script said (subst Found none kept);
      paced = λ none. paces handlers bytes script said (subst Found none kept);
      fetched = λ none. fetches handlers bytes script said (subst Found none kept);
    }
