-- As a run begins nothing was said on links to the monitor, and nothing handed over; and so, of every list of events that may happen, each fetch is what the monitor
-- replied to that daemon behind its asking.
use Rattle.std.proofs.Common.{◌≡◌, ℕ, Bool, true, false, List, [], ◌∷◌, ◌++◌, map, refl, ◌∙◌, subst, append-nil}
use Rattle.std.specs.Prelude.{if◌then◌else◌}
use Rattle.std.specs.List.{AllByRecursion}
use Rattle.cx_base.specs.Names.{is_daemon_type}
use Rattle.cx_laws_run.proofs.cover.ReadAsTold.{all-read-as_told}
use Rattle.cx_laws_run.proofs.cover.RunEvents.{Stands, replied-onto}
use Rattle.cx_laws_run.proofs.cover.State.{EntitiesHave, EntityHas}
use Rattle.cx_laws_run.proofs.cover.Steps.{MonitorStep}
use Rattle.cx_laws_run.specs.cx_laws_tickets.proofs.fetch.AllTold.{first-told}
use Rattle.cx_laws_run.specs.cx_laws_tickets.proofs.fetch.AskedKnown.{AreSaid, AreTold, Events, IsTrueAsked, IsTrueGiven, Told, Truth}
use Rattle.cx_laws_run.specs.cx_laws_tickets.proofs.fetch.AskedWords.{asked_frame, given_frame}
use Rattle.cx_laws_run.specs.cx_laws_tickets.proofs.fetch.Handed.{IsKnownSo}
use Rattle.cx_laws_run.specs.cx_laws_tickets.proofs.fetch.Later.{of_acceptor, of_connector}
use Rattle.cx_laws_run.specs.cx_laws_tickets.proofs.fetch.PointEvents.{events_of}
use Rattle.cx_laws_run.specs.cx_laws_tickets.proofs.fetch.RepliedMoments.{AreReplied}
use Rattle.cx_laws_run.specs.cx_laws_tickets.proofs.fetch.Retied.{Handed, retied}
use Rattle.cx_frame.specs.declared.frame.Frame.{Frame}
use Rattle.cx_laws_run.specs.cx_laws_keys.proofs.keys.Journal.{entered}
use Rattle.cx_laws_run.specs.cx_laws_keys.proofs.keys.Uses.{Uses, WholeRun}
use Rattle.cx_laws_run.proofs.run.Happening.{visited}
use Rattle.cx_laws_run.proofs.run.Opening.{Begins, begins}
use Rattle.cx_laws_run.proofs.run.Whole.{run_of}
use Rattle.cx_laws_run.specs.run.Laws.{MayHappen}
use Rattle.cx_laws_run.specs.cx_laws_keys.proofs.series.Contents.{contents_in}
use Rattle.cx_laws_run.specs.cx_rules_session.specs.ClientRule.{opening_whole_client}
use Rattle.cx_secure.specs.Parts.{nonce_at}
use Rattle.cx_laws_run.specs.cx_run.specs.Happenings.{Entered, Happening, OfClient, OfDaemon}
use Rattle.cx_laws_run.specs.cx_run.specs.Opening.{Declared, Setup, mon_client_of, daemon_opening, entity_in, leaked_of, leaks_entered, nodes_of, secret_drawn, secrets_drawn}
use Rattle.cx_laws_run.specs.cx_run.specs.Points.{log_since, onto, points}
use Rattle.cx_steps.specs.Onto.{SomeOf}
use Rattle.cx_steps.specs.Premises.{IsFresh, IsSound}
use Rattle.cx_steps.specs.declared.seals.Logged.{Logged}

-- ---- the log before all events

-- the secrets of entities are drawn, and seal nothing
secrets-silent : (test : List ℕ → Bool) (key : List ℕ) (es : List Declared) (log : List Logged) → contents_in key test (onto (map secret_drawn es) log) ≡ contents_in key test log
secrets-silent test key [] log = refl
secrets-silent test key (e ∷ es) log = secrets-silent test key es (secret_drawn e ∷ log) ∙ append-nil (contents_in key test log)

-- nor do they sign
secrets-known : (us : Uses) (logins : List Handed) (es : List Declared) (log : List Logged) → AllByRecursion (λ (at : Logged). IsKnownSo us logins at.entry) log
    → AllByRecursion (λ (at : Logged). IsKnownSo us logins at.entry) (onto (map secret_drawn es) log)
secrets-known us logins [] log h = h
secrets-known us logins (e ∷ es) log h = secrets-known us logins es (secret_drawn e ∷ log) (tt, h)

-- ---- nothing was said

abbrev nothing_told : Told
nothing_told = record { asked = []; given = [] }

nothing-said : {W : Type 0} (frame_of : W → Frame) (test : List ℕ → Bool) (T : Truth W) (us : Uses) (log : List Logged) → ((key : List ℕ) → contents_in key test log ≡ [])
    → AreSaid frame_of test T us [] log
nothing-said frame_of test T us log none = record {
  spoken = λ key x has. absurd has;
  silent = λ key name challenge is said. record {
    beyond = [];
    among = λ other end counter plain some low has.
        absurd (subst (λ (l : List (List ℕ)). SomeOf (λ (content : List ℕ). content ≡ nonce_at other counter ++ plain) l) (none key) has);
  };
}

nothing-known : (run : WholeRun) (E : Events) (us : Uses) (log : List Logged) → ((key : List ℕ) (test : List ℕ → Bool) → contents_in key test log ≡ []) → AreTold run E us nothing_told log
nothing-known run E us log none = record {
  asked = nothing-said asked_frame of_connector (IsTrueAsked E) us log (λ key. none key of_connector);
  given = nothing-said given_frame of_acceptor (IsTrueGiven run E []) us log (λ key. none key of_acceptor);
  unsaid = λ key name challenge is said. none key of_connector;
}

-- no entity has a link yet
first-entities : (E : Events) (us : Uses) (logins : List Handed) (told : Told) (log : List Logged) (es : List Declared) → EntitiesHave E us logins told log (map entity_in es)
first-entities E us logins told log [] = tt
first-entities E us logins told log (e ∷ es) = (by_kind (is_daemon_type e.name.kind) refl, first-entities E us logins told log es)
  where
    by_kind : (t : Bool) → is_daemon_type e.name.kind ≡ t → EntityHas E us logins told log (if t then OfDaemon (daemon_opening (mon_client_of e)) else OfClient (opening_whole_client (mon_client_of e)))
    by_kind true is = tt
    by_kind false is = (tt, record { kind = is; links = tt })

-- ---- a whole run

module _ (setup : Setup) (hs : List Happening) (monitor_step : MonitorStep (run_of setup hs true) (log_since setup hs)) where
  abbrev run : WholeRun
  run = run_of setup hs true

  abbrev whole : List Logged
  whole = log_since setup hs

  abbrev first : List Logged
  first = onto (secrets_drawn setup) []

  first-stands : Begins run whole setup hs → Stands run whole monitor_step [] (nodes_of setup) first
  first-stands b = record {
    us = b.uses;
    logins = [];
    told = nothing_told;
    J = entered [] (map (λ (x : Entered). x.entry) (leaks_entered setup));
    inv = b.inv;
    ok = b.nodes;
    good = λ known t has. absurd (b.none t has);
    has = record {
      known_of = nothing-known run (events_of []) (retied [] b.uses) first (λ key test. secrets-silent test key setup.entities []);
      handed = record { known = secrets-known (retied [] b.uses) [] setup.entities [] tt; handed = tt; once = λ g k has other same. absurd has };
      monitor = tt;
      entities = first-entities (events_of []) (retied [] b.uses) [] nothing_told first setup.entities;
    };
    tells = first-told setup.entities;
    heard = tt;
    logged = λ mark before. absurd before;
    fresh = tt;
    bytes = tt;
  }

  -- so each fetch was replied
  pub any-replied : MayHappen setup hs → IsSound (leaked_of setup) (log_since setup hs) → IsFresh (log_since setup hs) → AreReplied (points setup hs)
  any-replied m sound fresh =
      let b : Begins run whole setup hs = begins run setup hs refl m.begins.clients sound fresh in
      replied-onto run whole monitor_step hs [] (nodes_of setup) first (first-stands b)
      (record { occur = visited setup hs m; bytes = m.bytes; reads = all-read-as_told setup hs m }) b.granted tt
