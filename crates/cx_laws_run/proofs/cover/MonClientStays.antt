-- A link to the monitor of one that logs in, on which nothing is said, keeps all that is known of it, whatever is said and handed over elsewhere.
use Rattle.std.proofs.Common.{◌≡◌, ℕ, List}
use Rattle.cx_base.specs.Names.{Name}
use Rattle.cx_base.specs.declared.nodes.NodeName.{NodeName}
use Rattle.cx_frame.specs.declared.frame.Frame.{Frame}
use Rattle.cx_journal.specs.declared.entries.Entry.{Entry}
use Rattle.cx_laws_run.specs.cx_laws_keys.proofs.keys.Known.{Inv}
use Rattle.cx_laws_run.specs.cx_laws_keys.proofs.keys.Premises.{behind}
use Rattle.cx_laws_run.specs.cx_laws_keys.proofs.keys.Uses.{Grows, Login, Means, Use, Uses, WholeRun}
use Rattle.cx_laws_run.specs.cx_rules.specs.Connector as connector
use Rattle.cx_laws_run.specs.cx_rules.specs.Secured.{Secured}
use Rattle.cx_steps.specs.declared.seals.Logged.{Logged}
use Rattle.cx_steps.specs.declared.seals.SealEntry.{SealEntry}
use Rattle.cx_laws_run.specs.cx_laws_tickets.proofs.fetch.AskedKnown.{AreTold, Events, MoreEvents, Told}
use Rattle.cx_laws_run.specs.cx_laws_tickets.proofs.fetch.AskedMoving.{Moved}
use Rattle.cx_laws_run.specs.cx_laws_tickets.proofs.fetch.MonClientFacts.{HasAnswered}
use Rattle.cx_laws_run.specs.cx_laws_tickets.proofs.fetch.HandedLogin.{HasHandedKeys}
use Rattle.cx_laws_run.specs.cx_laws_tickets.proofs.fetch.Retied.{Handed}
use Rattle.cx_laws_run.specs.cx_laws_tickets.proofs.fetch.ToldStays.{IsApart, mon_client_told-stays, unsaid-stays}
use Rattle.cx_laws_run.specs.cx_laws_tickets.proofs.fetch.Words.{IsIn}
use Rattle.cx_laws_run.proofs.cover.State.{MonClientHas, IsOwnAnswer}

-- what was drawn stays so with more events
abbrev pub answered-more : (E F : Events) → MoreEvents E F → (name : Name) (link : ℕ) (bytes : List ℕ) → HasAnswered (λ (c : ℕ) (_ : Frame). E.drew name link c) bytes
    → HasAnswered (λ (c : ℕ) (_ : Frame). F.drew name link c) bytes
answered-more E F more name link bytes h = record {
  kind = h.kind;
  mon_client = h.mon_client;
  ask = h.ask;
  server = h.server;
  challenge = h.challenge;
  written = h.written;
  own = more.drew name link h.challenge h.own;
}

-- the keys of a login stay so with more logins
pub handed_keys-grow : (us vs : Uses) → Grows us vs → (logins later : List Handed) → ((h : Handed) → IsIn h logins → IsIn h later) → (name : Name) (s : Secured)
    → HasHandedKeys us logins name s → HasHandedKeys vs later name s
handed_keys-grow us vs f logins later within name s h = record {
  handed = h.handed;
  has = within h.handed h.has;
  session_is = h.session_is;
  key_is = h.key_is;
  means = f.means s.session (Login name) h.means;
  first = h.first;
}

module _ (run : WholeRun) (whole : List Logged) (us vs : Uses) (log : List Logged) (J : List Entry) (n : NodeName) (line : ℕ) (es : List SealEntry)
    (one : (k : List ℕ) (u v : Use) → Means vs k u → Means vs k v → u ≡ v) (f : Grows us vs) (i : Inv run whole us log J) (E F : Events) (more : MoreEvents E F) (told : Told)
    (t : AreTold run E us told log) (logins later : List Handed) (within : (h : Handed) → IsIn h logins → IsIn h later) (next : Told) (m : Moved told next) where
  -- under a key of a challenge that the link drew no word is said, and nothing is sealed there as its connector seals it
  abbrev pub IsUntouched : Name → ℕ → Type 0
  IsUntouched name link = IsApart run whole us vs log J n line es one f i E F more told t next m name link

  pub own_answer-stays : (name : Name) (link : ℕ) (bytes : List ℕ) → IsUntouched name link → IsOwnAnswer E us told name link bytes → IsOwnAnswer F vs next name link bytes
  own_answer-stays name link bytes apart h = record {
    answered = answered-more E F more name link bytes h.answered;
    small = h.small;
    unsaid = unsaid-stays run whole us vs log J n line es one f i E F more told t next m name link h.answered.challenge apart h.unsaid;
  }

  pub mon_client_has-stays : (name : Name) (link : ℕ) (sent : List ℕ) (stage : connector.Stage) → IsUntouched name link → MonClientHas E us logins told log name link sent stage
      → MonClientHas F vs later next (behind n line es log) name link sent stage
  mon_client_has-stays name link sent (connector.AwaitsBanner asked) apart h = tt
  mon_client_has-stays name link sent (connector.AwaitsHello asked) apart h = tt
  mon_client_has-stays name link sent (connector.AwaitsChallenge asked) apart h = tt
  mon_client_has-stays name link sent connector.AwaitsDone apart h = own_answer-stays name link sent apart h
  mon_client_has-stays name link sent (connector.AwaitsSignature s login) apart h =
      (own_answer-stays name link s.covered apart h.0, handed_keys-grow us vs f logins later within name s h.1)
  mon_client_has-stays name link sent (connector.AwaitsIdent s session) apart h =
      mon_client_told-stays run whole us vs log J n line es one f i E F more told t next m name link (connector.AwaitsIdent s session) apart h
  mon_client_has-stays name link sent (connector.Open s requests) apart h =
      mon_client_told-stays run whole us vs log J n line es one f i E F more told t next m name link (connector.Open s requests) apart h
