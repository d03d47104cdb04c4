-- A step that says nothing on links to the monitor keeps all that is known of them, whatever keys it draws; and whatever is said on one link, any other keeps
-- what it has, in any stage.
use Rattle.std.proofs.Common.{◌≡◌, ℕ, List, [], ◌∷◌, refl, sym, ap, ◌∙◌, subst}
use Rattle.std.specs.List.{AllByRecursion}
use Rattle.cx_base.specs.Names.{Name}
use Rattle.cx_base.specs.declared.nodes.NodeName.{NodeName}
use Rattle.cx_base.specs.declared.nodes.NodeName.TheVariants as node
use Rattle.cx_journal.specs.declared.entries.Entry.{Entry}
use Rattle.cx_laws_tickets.specs.cx_laws_keys.proofs.keys.Known.{Inv}
use Rattle.cx_laws_tickets.specs.cx_laws_keys.proofs.keys.Premises.{behind}
use Rattle.cx_laws_tickets.specs.cx_laws_keys.proofs.keys.Uses.{AtMonitor, Connected, Grows, Means, Use, Uses, WholeRun}
use Rattle.cx_laws_keys.proofs.series.Contents.{contents_by}
use Rattle.cx_laws_keys.specs.cx_rules.specs.Acceptor as acceptor
use Rattle.cx_laws_keys.specs.cx_rules.specs.Connector as connector
use Rattle.cx_laws_keys.specs.cx_rules.specs.Monitor.{MonitorStage}
use Rattle.cx_laws_keys.specs.cx_rules.specs.Secured.{Secured}
use Rattle.cx_steps.specs.declared.seals.Logged.{Logged}
use Rattle.cx_steps.specs.declared.seals.SealEntry.{SealEntry}
use Rattle.cx_laws_tickets.proofs.fetch.AskedKnown.{AreTold, MonClientTold, Events, IsMonClient, IsAwaited, IsLoginKey, IsSaid, IsTrueAsked, IsTrueGiven, IsUnsaid, MonitorTold, MoreEvents, Told}
use Rattle.cx_laws_tickets.proofs.fetch.AskedLifting.{login-grows, login-one, said-stays, silent-stays}
use Rattle.cx_laws_tickets.proofs.fetch.AskedMoving.{AsksMore, GivesMore, IsNotAsked, IsNotGiven, Moved, Quiets, asked-more, mon_client-stays, bearing-stays, first-stays, given-more}
use Rattle.cx_laws_tickets.proofs.fetch.AskedWords.{Asked, asked_frame, given_frame, last_number}
use Rattle.cx_laws_tickets.proofs.fetch.Later.{of_acceptor, of_connector}
use Rattle.cx_laws_tickets.proofs.fetch.MonitorMoves.{IsAnyLogin}
use Rattle.cx_laws_tickets.proofs.fetch.Words.{said-elsewhere, said-has, said_under}

-- nothing is sealed under the key of a login by either end, but with the number 0
abbrev pub SealsNone : Uses → List SealEntry → Type 0
SealsNone vs es = (key : List ℕ) → IsAnyLogin vs key → (contents_by key of_connector es ≡ []) × (contents_by key of_acceptor es ≡ [])

same-asked : (told next : Told) (m : Moved told next) (other : List ℕ) → IsNotAsked m other → said_under other next.asked ≡ said_under other told.asked
same-asked told _ Quiets other none = refl
same-asked told _ (AsksMore key word) other none = said-elsewhere told.asked key other word none
same-asked told _ (GivesMore key word) other none = refl

module _ (run : WholeRun) (whole : List Logged) (us vs : Uses) (log : List Logged) (J : List Entry) (n : NodeName) (line : ℕ) (es : List SealEntry)
    (one : (k : List ℕ) (u v : Use) → Means vs k u → Means vs k v → u ≡ v) (f : Grows us vs) (i : Inv run whole us log J) (E F : Events) (more : MoreEvents E F) (told : Told)
    (t : AreTold run E us told log) where
  abbrev later : List Logged
  later = behind n line es log

  pub told-stays : SealsNone vs es → AreTold run F vs told later
  told-stays none = record {
    asked = said-stays asked_frame of_connector run whole us vs log J n line es one f i (IsTrueAsked E) (IsTrueAsked F) told.asked t.asked (λ key name c is. (none key (name, c, is)).0)
        (asked-more E F more);
    given = said-stays given_frame of_acceptor run whole us vs log J n line es one f i (IsTrueGiven run E told.asked) (IsTrueGiven run F told.asked) told.given t.given
        (λ key name c is. (none key (name, c, is)).1) (given-more run E F more told.asked);
    unsaid = silent-stays asked_frame of_connector run whole us vs log J n line es one f i (IsTrueAsked E) (IsTrueAsked F) told.asked t.asked t.unsaid (λ key name c is. (none key (name, c, is)).0);
  }

  module _ (next : Told) (m : Moved told next) where
    -- ---- a link of one that logs in

    -- under a key of a challenge that this link drew no word is said, and nothing is sealed there as its connector seals it
    abbrev pub IsApart : Name → ℕ → Type 0
    IsApart name link = (challenge : ℕ) → E.drew name link challenge → (key : List ℕ) → IsLoginKey vs key name challenge → IsNotAsked m key × (contents_by key of_connector es ≡ [])

    pub unsaid-stays : (name : Name) (link challenge : ℕ) → IsApart name link → IsUnsaid E us told name link challenge → IsUnsaid F vs next name link challenge
    unsaid-stays name link challenge apart h =
        record { drew = more.drew name link challenge h.drew; silent = λ key is. same-asked told next m key (apart challenge h.drew key is).0 ∙ by_said key is (said_under key told.asked) refl }
      where
        by_said : (key : List ℕ) → IsLoginKey vs key name challenge → (xs : List Asked) → said_under key told.asked ≡ xs → said_under key told.asked ≡ []
        by_said key is [] e = e
        by_said key is (x ∷ xs) e =
            let h2 : IsSaid asked_frame of_connector (IsTrueAsked E) us told.asked log key = t.asked.spoken key x (said-has key told.asked x xs e) in
            let same = login-one vs one key h2.name name h2.challenge challenge (login-grows us vs key h2.name h2.challenge f h2.is) is in
            h.silent key (subst (λ (c : ℕ). IsLoginKey us key name c) same.1 (subst (λ (m : Name). IsLoginKey us key m h2.challenge) same.0 h2.is))

    mon_client-kept : (name : Name) (link : ℕ) (s : Secured) → IsApart name link → IsMonClient E us told log name link s
        → IsMonClient F vs next later name link s × (said_under s.keys.key next.asked ≡ said_under s.keys.key told.asked)
    mon_client-kept name link s apart h =
        let here = apart h.challenge h.drew s.keys.key (login-grows us vs s.keys.key name h.challenge f h.is) in
        (mon_client-stays told next m run E F more us vs f log n line es name link s here.0 here.1 h, same-asked told next m s.keys.key here.0)

    pub mon_client_told-stays : (name : Name) (link : ℕ) (stage : connector.Stage) → IsApart name link → MonClientTold E us told log name link stage → MonClientTold F vs next later name link stage
    mon_client_told-stays name link (connector.AwaitsBanner asked) apart h = tt
    mon_client_told-stays name link (connector.AwaitsHello asked) apart h = tt
    mon_client_told-stays name link (connector.AwaitsChallenge asked) apart h = tt
    mon_client_told-stays name link connector.AwaitsDone apart h = (h.0, unsaid-stays name link h.0 apart h.1)
    mon_client_told-stays name link (connector.AwaitsSignature s login) apart h = ((h.0.0, unsaid-stays name link h.0.0 apart h.0.1), h.1)
    mon_client_told-stays name link (connector.AwaitsIdent s session) apart h =
        let k = mon_client-kept name link s apart h.0 in (k.0, ap (λ (l : List Asked). last_number 0 l) k.1 ∙ h.1)
    mon_client_told-stays name link (connector.Open s requests) apart h =
        let k = mon_client-kept name link s apart h.0 in
        (k.0, ap (λ (l : List Asked). last_number 0 l) k.1 ∙ h.1, subst (λ (l : List Asked). AllByRecursion (IsAwaited l) requests.waiting) (sym k.1) h.2)

    -- ---- a link of the monitor

    -- under a key of this link the monitor says no word, and nothing is sealed there as its acceptor seals it
    abbrev pub IsApartAt : ℕ → Type 0
    IsApartAt number =
        (key : List ℕ) (name : Name) (challenge : ℕ) → Means us key (Connected node.Monitor number name (AtMonitor challenge)) → IsNotGiven m key × (contents_by key of_acceptor es ≡ [])

    pub monitor_told-stays : (number : ℕ) (stage : MonitorStage) → IsApartAt number → MonitorTold run us told log number stage → MonitorTold run vs next later number stage
    monitor_told-stays number (acceptor.AwaitsSignature s bearer) apart h =
        let here = apart s.keys.key bearer.name h.challenge h.means in first-stays told next m run E F more us vs f log n line es number s bearer.name here.0 here.1 h
    monitor_told-stays number (acceptor.AwaitsIdent s bearer) apart h =
        let here = apart s.keys.key bearer.name h.challenge h.means in bearing-stays told next m run E F more us vs f log n line es number s bearer.name here.0 here.1 h
    monitor_told-stays number (acceptor.Open s bearer) apart h =
        let here = apart s.keys.key bearer.name h.challenge h.means in bearing-stays told next m run E F more us vs f log n line es number s bearer.name here.0 here.1 h
    monitor_told-stays number acceptor.AwaitsBanner apart h = tt
    monitor_told-stays number acceptor.AwaitsHello apart h = tt
    monitor_told-stays number acceptor.AwaitsRequest apart h = tt
    monitor_told-stays number (acceptor.AwaitsProof offered) apart h = tt
