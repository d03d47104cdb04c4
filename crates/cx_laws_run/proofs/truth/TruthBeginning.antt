-- As a run begins nothing was given; and so, of every list of events that may happen, what clients are told is true.
use Rattle.std.proofs.Common.{◌≡◌, ℕ, Bool, true, false, List, [], ◌∷◌, ◌++◌, map, refl, sym, subst, arith}
use Rattle.std.specs.Prelude.{Contains, if◌then◌else◌}
use Rattle.std.specs.List.{AllByRecursion}
use Rattle.cx_base.specs.Names.{is_daemon_type}
use Rattle.cx_base.specs.declared.kinds.EntityType.TheVariants.{Client}
use Rattle.cx_journal.specs.Behind.{EachBehind}
use Rattle.cx_journal.specs.declared.entries.Answered.{Answered}
use Rattle.cx_journal.specs.declared.entries.Entry.{Entry}
use Rattle.cx_journal.specs.declared.entries.Entry.TheVariants as journal
use Rattle.cx_laws_run.specs.cx_laws_keys.proofs.keys.Journal.{entered}
use Rattle.cx_laws_run.specs.cx_laws_keys.proofs.keys.Lists.{map-append}
use Rattle.cx_laws_run.specs.cx_laws_keys.proofs.keys.Uses.{Uses, WholeRun}
use Rattle.cx_laws_run.specs.cx_laws_links.proofs.links.Known.{Told}
use Rattle.cx_laws_run.specs.cx_laws_links.proofs.links.Spoken.{asked, said_under}
use Rattle.cx_laws_run.specs.cx_laws_sessions.proofs.queues.Runs.{first-queues}
use Rattle.cx_laws_run.proofs.run.Events.{AllOccur, entered-append}
use Rattle.cx_laws_run.proofs.run.Journals.{behind-append}
use Rattle.cx_laws_run.proofs.run.Opening.{Begins, begins}
use Rattle.cx_laws_run.specs.run.Laws.{AreBytes}
use Rattle.cx_laws_run.specs.cx_laws_keys.proofs.series.Contents.{contents_in}
use Rattle.cx_laws_run.specs.cx_rules_session.specs.ClientRule.{opening_whole_client}
use Rattle.cx_laws_run.specs.cx_run.specs.Happenings.{Entered, Happening, OfClient, OfDaemon, journal_from}
use Rattle.cx_laws_run.specs.cx_run.specs.Opening.{Declared, Leak, Setup, mon_client_of, daemon_opening, entity_in, leaked_of, leaks_entered, nodes_of, secret_drawn, secrets_drawn}
use Rattle.cx_laws_run.specs.cx_run.specs.Points.{journal_since, log_since, onto}
use Rattle.cx_steps.specs.Premises.{IsFresh, IsSound}
use Rattle.cx_steps.specs.declared.seals.Logged.{Logged}
use Rattle.cx_laws_run.specs.cx_laws_links.proofs.answers.AllGiven.{AllGiven}
use Rattle.cx_laws_run.specs.cx_laws_links.proofs.answers.Given.{is_acceptors}
use Rattle.cx_laws_run.specs.cx_laws_links.proofs.answers.Growing.{none-given}
use Rattle.cx_laws_run.specs.cx_laws_links.proofs.answers.Signed.{AreSigned}
use Rattle.cx_laws_run.proofs.sent.Beginning.{first-known, first_told, secrets-silent}
use Rattle.cx_laws_run.proofs.sent.Steps.{ClientStep, DaemonStep}
use Rattle.cx_laws_run.specs.sent.Fitting.{AreFit}
use Rattle.cx_laws_run.specs.cx_laws_links.proofs.answers.CallHears.{EndsSo}
use Rattle.cx_laws_run.proofs.truth.DaemonSays.{Never}
use Rattle.cx_laws_run.proofs.truth.Still.{end-of, none-true}
use Rattle.cx_laws_run.proofs.truth.Named.{EntityNamed}
use Rattle.cx_laws_run.proofs.truth.OnceHandled.{HandledOnce}
use Rattle.cx_laws_run.proofs.truth.State.{AllTrue, EntitiesHear, EntityHears, TruthLaw}
use Rattle.cx_laws_run.proofs.truth.TruthEvents.{BothKnown, each-rest, events-true}

nothing-in : {X : Type 0} (x : X) → Contains [] x → ⊥
nothing-in x has = omega (arith, has.1)

-- leaked clients are no answers
leaks-none : (leaks : List Leak) → AllByRecursion (EndsSo Never) (map (λ (x : Entered). x.entry) (map (λ (l : Leak). record { line = l.line; reading = 0; entry = journal.Leaked l.client }) leaks))
leaks-none [] = tt
leaks-none (l ∷ leaks) = (tt, leaks-none leaks)

-- nothing was given yet
first-given : (run : WholeRun) (us : Uses) (told : Told) (log : List Logged) (J : List Entry) → ((key : List ℕ) → contents_in key is_acceptors log ≡ []) → AllGiven run us told [] log J
first-given run us told log J silent = record {
  known = record {
    each = λ key name tie is. none-given run [] log J key name is.service refl (silent key);
    known = λ key x has. absurd (nothing-in (key, x) has);
  };
  step = λ key name tie is free. (asked (said_under key told.said), refl);
  once = λ key other name tie tied place second cookie tid is there free a b. absurd a.stands;
}

first-true : (run : WholeRun) (us : Uses) (told : Told) (log : List Logged) (J : List Entry) → ((key : List ℕ) → contents_in key is_acceptors log ≡ [])
    → ((x : Answered) → Contains J (journal.Answered x) → ⊥) → AllTrue run us told [] [] log J
first-true run us told log J silent none = record {
  all = first-given run us told log J silent;
  read = λ x has free. absurd (none x has);
  bound = λ key place has. absurd (nothing-in (key, place) has);
}

-- no entity has a link yet
first-hears : (run : WholeRun) (us : Uses) (told : Told) (log : List Logged) (es : List Declared) → EntitiesHear run us told [] [] log (map entity_in es)
first-hears run us told log [] = tt
first-hears run us told log (e ∷ es) = (by_kind (is_daemon_type e.name.kind), first-hears run us told log es)
  where
    by_kind : (t : Bool) → EntityHears run us told [] [] log (if t then OfDaemon (daemon_opening (mon_client_of e)) else OfClient (opening_whole_client (mon_client_of e)))
    by_kind true = tt
    by_kind false = tt

first-named : (us : Uses) (es : List Declared) → AllByRecursion (EntityNamed us) (map entity_in es)
first-named us [] = tt
first-named us (e ∷ es) = (by_kind (is_daemon_type e.name.kind) refl, first-named us es)
  where
    by_kind : (t : Bool) → is_daemon_type e.name.kind ≡ t → EntityNamed us (if t then OfDaemon (daemon_opening (mon_client_of e)) else OfClient (opening_whole_client (mon_client_of e)))
    by_kind true is = tt
    by_kind false is = record { client = is; links = tt }

-- the secrets of entities are drawn, and sign nothing
first-signed : (us : Uses) (es : List Declared) (log : List Logged) → AreSigned us log → AreSigned us (onto (map secret_drawn es) log)
first-signed us [] log h = h
first-signed us (e ∷ es) log h = first-signed us es (secret_drawn e ∷ log) (tt, h)

-- ---- a whole run

module _ (run : WholeRun) (setup : Setup) (hs : List Happening) (same : run.leaked ≡ leaked_of setup) (clients : AllByRecursion (λ (l : Leak). l.client.kind ≡ Client) setup.leaks)
    (client_step : ClientStep run (log_since setup hs)) (daemon_step_of : DaemonStep run (log_since setup hs)) where
  abbrev whole : List Logged
  whole = log_since setup hs

  abbrev leaks : List Entry
  leaks = map (λ (x : Entered). x.entry) (leaks_entered setup)

  abbrev J : List Entry
  J = entered [] (map (λ (x : Entered). x.entry) (leaks_entered setup))

  abbrev log : List Logged
  log = onto (secrets_drawn setup) []

  plain : AllByRecursion (EndsSo Never) (map (λ (x : Entered). x.entry) (leaks_entered setup))
  plain = leaks-none setup.leaks

  first-both : (us : Uses) → BothKnown run us first_told [] [] log J (map entity_in setup.entities)
  first-both us =
      let none : (x : Answered) → Contains J (journal.Answered x) → ⊥ =
      λ x has. end-of Never leaks x plain (subst (λ (l : List Entry). Contains l (journal.Answered x)) (entered-append [] leaks) has) in
      record {
        known = first-known run setup hs same clients client_step daemon_step_of us;
        all = first-true run us first_told log J (λ key. secrets-silent is_acceptors key setup.entities []) none;
        hears = first-hears run us first_told log setup.entities;
        named = record { signed = first-signed us setup.entities [] tt; all = first-named us setup.entities };
      }

  -- what clients are told then is true
  pub run-true : AllOccur run (nodes_of setup) hs → AllByRecursion (λ (h : Happening). AreBytes h.draw) hs → AreFit hs → IsSound (leaked_of setup) (log_since setup hs) → IsFresh (log_since setup hs)
      → EachBehind (HandledOnce run) [] (journal_since setup hs) → EachBehind (TruthLaw run) [] (journal_since setup hs)
  run-true occur bytes fits sound fresh once =
      let b : Begins run whole setup hs = begins run setup hs same clients sound fresh in
      let later : List Entry = map (λ (x : Entered). x.entry) (journal_from (nodes_of setup) hs) in
      let whole_is : journal_since setup hs ≡ leaks ++ later = map-append (λ (x : Entered). x.entry) (leaks_entered setup) (journal_from (nodes_of setup) hs) in
      let once_later : EachBehind (HandledOnce run) J later = each-rest (HandledOnce run) [] leaks later (subst (λ (l : List Entry). EachBehind (HandledOnce run) [] l) whole_is once) in
      let law : EachBehind (TruthLaw run) J later =
      events-true run whole client_step daemon_step_of hs (nodes_of setup) b.uses first_told [] [] log J b.inv b.nodes (λ known t has. absurd (b.none t has))
      (first-queues J setup.entities) (first-both b.uses) occur bytes fits b.granted once_later in
      let both : EachBehind (TruthLaw run) [] (leaks ++ later) = behind-append (TruthLaw run) [] leaks later (none-true run [] leaks plain) law in
      subst (λ (l : List Entry). EachBehind (TruthLaw run) [] l) (sym whole_is) both
