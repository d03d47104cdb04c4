-- As a run begins nothing was said; and so, of every list of events that may happen, what daemons handle was sent.
use Rattle.std.proofs.Common.{◌≡◌, ℕ, Bool, true, false, List, [], ◌∷◌, ◌++◌, map, inl, inr, ◌⊎◌, refl, sym, ◌∙◌, subst, arith, append-nil}
use Rattle.std.specs.Prelude.{Contains, if◌then◌else◌}
use Rattle.std.specs.List.{AllByRecursion}
use Rattle.cx_base.specs.Names.{is_daemon_type}
use Rattle.cx_base.specs.declared.kinds.EntityType.TheVariants.{Client}
use Rattle.cx_journal.specs.Behind.{EachBehind}
use Rattle.cx_journal.specs.declared.entries.Admitted.{Admitted}
use Rattle.cx_journal.specs.declared.entries.Entry.{Entry}
use Rattle.cx_journal.specs.declared.entries.Entry.TheVariants as journal
use Rattle.cx_laws_run.specs.cx_laws_keys.proofs.keys.Journal.{entered}
use Rattle.cx_laws_run.specs.cx_laws_keys.proofs.keys.Lists.{map-append}
use Rattle.cx_laws_run.specs.cx_laws_keys.proofs.keys.Uses.{Uses, WholeRun}
use Rattle.cx_laws_links.proofs.links.Known.{AreTold, Told, Unshown}
use Rattle.cx_laws_links.proofs.links.Speaking.{cons-cases}
use Rattle.cx_laws_links.proofs.links.Spoken.{Idents, is_connectors}
use Rattle.cx_laws_sessions.proofs.queues.Entries.{IsPlain}
use Rattle.cx_laws_sessions.proofs.queues.Runs.{first-queues, leaks-plain}
use Rattle.cx_laws_run.proofs.run.Events.{AllOccur, entered-append}
use Rattle.cx_laws_run.proofs.run.Journals.{behind-append}
use Rattle.cx_laws_run.proofs.run.Opening.{Begins, begins}
use Rattle.cx_laws_run.specs.run.Laws.{AreBytes}
use Rattle.cx_laws_links.specs.cx_laws_keys.proofs.series.Contents.{contents_in}
use Rattle.cx_laws_sessions.specs.cx_rules_session.specs.ClientRule.{opening_whole_client}
use Rattle.cx_laws_sessions.specs.cx_run.specs.Happenings.{Entered, Happening, OfClient, OfDaemon, journal_from}
use Rattle.cx_laws_sessions.specs.cx_run.specs.Opening.{Declared, Leak, Setup, mon_client_of, daemon_opening, entity_in, leaked_of, leaks_entered, nodes_of, secret_drawn, secrets_drawn}
use Rattle.cx_laws_sessions.specs.cx_run.specs.Points.{journal_since, log_since, onto}
use Rattle.cx_steps.specs.Premises.{IsFresh, IsSound}
use Rattle.cx_steps.specs.declared.seals.Logged.{Logged}
use Rattle.cx_laws_run.proofs.sent.Events.{RunKnown, events-heard}
use Rattle.cx_laws_run.proofs.sent.State.{EntitiesKnown, EntityKnown, HeardLaw}
use Rattle.cx_laws_run.proofs.sent.Steps.{ClientStep, DaemonStep}
use Rattle.cx_laws_run.specs.sent.Fitting.{AreFit}

-- nothing was said, shown or joined
abbrev pub first_told : Told
first_told = record { said = []; nonces = λ nonce. Unshown; joins = [] }

nothing-in : {X : Type 0} (x : X) → Contains [] x → ⊥
nothing-in x has = omega (arith, has.1)

-- the secrets of entities are drawn, and seal nothing
pub secrets-silent : (test : List ℕ → Bool) (key : List ℕ) (es : List Declared) (log : List Logged) → contents_in key test (onto (map secret_drawn es) log) ≡ contents_in key test log
secrets-silent test key [] log = refl
secrets-silent test key (e ∷ es) log = secrets-silent test key es (secret_drawn e ∷ log) ∙ append-nil (contents_in key test log)

-- leaked clients are no sessions
plain-admits : (es : List Entry) → AllByRecursion IsPlain es → (a : Admitted) → Contains es (journal.Admitted a) → ⊥
plain-admits [] h a has = nothing-in (journal.Admitted a) has
plain-admits (e ∷ es) h a has = by_place (cons-cases e es (journal.Admitted a) has) (λ there. plain-admits es h.1 a there)
  where
    by_place : (e ≡ journal.Admitted a) ⊎ Contains es (journal.Admitted a) → (Contains es (journal.Admitted a) → ⊥) → ⊥
    by_place (inl here) rest = subst IsPlain here h.0
    by_place (inr there) rest = rest there

plain-heard : (run : WholeRun) (J es : List Entry) → AllByRecursion IsPlain es → EachBehind (HeardLaw run) J es
plain-heard run J [] h = tt
plain-heard run J (e ∷ es) h = (by_entry e h.0, plain-heard run (J ++ e ∷ []) es h.1)
  where
    by_entry : (x : Entry) → IsPlain x → HeardLaw run J x
    by_entry (journal.Admitted x) p = absurd p
    by_entry (journal.Handled x) p = absurd p
    by_entry _ p = tt

first-told-of : (run : WholeRun) (us : Uses) (log : List Logged) (J : List Entry) → ((key : List ℕ) → contents_in key is_connectors log ≡ [])
    → ((a : Admitted) → Contains J (journal.Admitted a) → ⊥) → AreTold run us first_told log J
first-told-of run us log J silent none = record {
  spoken = λ key x has. absurd (nothing-in (key, x) has);
  silent = λ key name tie is empty. silent key;
  cookies = λ key cookie a. absurd (nothing-in (key, Idents a.mon_client a.gid a.flags cookie) a.asks);
  once = λ key other cookie a b. absurd (nothing-in (key, Idents a.mon_client a.gid a.flags cookie) a.asks);
  nonces = λ nonce shown. absurd (shown refl);
  joined = λ session has. absurd (none session has);
  asked = λ key cookie has. absurd (nothing-in (key, cookie) has);
}

-- no entity has a link yet
first-entities : (run : WholeRun) (us : Uses) (log : List Logged) (J : List Entry) (es : List Declared) → EntitiesKnown run us first_told log J (map entity_in es)
first-entities run us log J [] = tt
first-entities run us log J (e ∷ es) = (by_kind (is_daemon_type e.name.kind), first-entities run us log J es)
  where
    by_kind : (t : Bool) → EntityKnown run us first_told log J (if t then OfDaemon (daemon_opening (mon_client_of e)) else OfClient (opening_whole_client (mon_client_of e)))
    by_kind true = tt
    by_kind false = record { links = record { links = tt }; single = λ daemon. omega arith; sessions = tt; stages = tt }

-- ---- a whole run

module _ (run : WholeRun) (setup : Setup) (hs : List Happening) (same : run.leaked ≡ leaked_of setup) (clients : AllByRecursion (λ (l : Leak). l.client.kind ≡ Client) setup.leaks)
    (client_step : ClientStep run (log_since setup hs)) (daemon_step_of : DaemonStep run (log_since setup hs)) where
  abbrev whole : List Logged
  whole = log_since setup hs

  abbrev leaks : List Entry
  leaks = map (λ (x : Entered). x.entry) (leaks_entered setup)

  abbrev J : List Entry
  J = entered [] (map (λ (x : Entered). x.entry) (leaks_entered setup))

  abbrev log : List Logged
  log = onto (secrets_drawn setup) []

  plain : AllByRecursion IsPlain (map (λ (x : Entered). x.entry) (leaks_entered setup))
  plain = leaks-plain setup.leaks

  pub first-known : (us : Uses) → RunKnown run us first_told log J (map entity_in setup.entities)
  first-known us =
      let none : (a : Admitted) → Contains J (journal.Admitted a) → ⊥ =
      λ a has. plain-admits leaks plain a (subst (λ (l : List Entry). Contains l (journal.Admitted a)) (entered-append [] leaks) has) in
      record {
        known_of = first-told-of run us log J (λ key. secrets-silent is_connectors key setup.entities []) none;
        spelled = λ key x has. absurd (nothing-in (key, x) has);
        all = first-entities run us log J setup.entities;
      }

  pub run-heard : AllOccur run (nodes_of setup) hs → AllByRecursion (λ (h : Happening). AreBytes h.draw) hs → AreFit hs → IsSound (leaked_of setup) (log_since setup hs) → IsFresh (log_since setup hs)
      → EachBehind (HeardLaw run) [] (journal_since setup hs)
  run-heard occur bytes fits sound fresh =
      let b : Begins run whole setup hs = begins run setup hs same clients sound fresh in
      let later : List Entry = map (λ (x : Entered). x.entry) (journal_from (nodes_of setup) hs) in
      let law : EachBehind (HeardLaw run) J later =
      events-heard run whole client_step daemon_step_of hs (nodes_of setup) b.uses first_told log J b.inv b.nodes (λ known t has. absurd (b.none t has))
      (first-queues J setup.entities) (first-known b.uses) occur bytes fits b.granted in
      let both : EachBehind (HeardLaw run) [] (leaks ++ later) = behind-append (HeardLaw run) [] leaks later (plain-heard run [] leaks plain) law in
      subst (λ (l : List Entry). EachBehind (HeardLaw run) [] l) (sym (map-append (λ (x : Entered). x.entry) (leaks_entered setup) (journal_from (nodes_of setup) hs))) both
