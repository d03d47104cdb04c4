-- A link of the monitor on which nothing is said keeps all that is known of it, whatever is said and handed over elsewhere.
use Rattle.std.proofs.Common.{◌≡◌, ◌+◌, ℕ, Bool, List, [], ◌++◌, length, inl, inr, refl, sym, ap, ◌∙◌, subst, append-nil}
use Rattle.cx_base.specs.Names.{Name}
use Rattle.cx_base.specs.declared.nodes.NodeName.{NodeName}
use Rattle.cx_base.specs.declared.nodes.NodeName.TheVariants as node
use Rattle.cx_journal.specs.declared.entries.Entry.{Entry}
use Rattle.cx_laws_run.specs.cx_laws_keys.proofs.keys.Known.{Inv}
use Rattle.cx_laws_run.specs.cx_laws_keys.proofs.keys.Premises.{behind}
use Rattle.cx_laws_run.specs.cx_laws_keys.proofs.keys.Uses.{AtMonitor, Connected, Grows, Means, Use, Uses, WholeRun}
use Rattle.cx_laws_run.specs.cx_laws_keys.proofs.series.Contents.{contents-behind, contents_by, contents_in}
use Rattle.cx_laws_run.specs.cx_rules.specs.Acceptor as acceptor
use Rattle.cx_laws_run.specs.cx_rules.specs.Monitor.{MonitorStage}
use Rattle.cx_laws_run.specs.cx_rules.specs.Secured.{Secured}
use Rattle.cx_secure.specs.Parts.{nonce_at}
use Rattle.cx_steps.specs.Onto.{SomeOf}
use Rattle.cx_steps.specs.declared.seals.Logged.{Logged}
use Rattle.cx_steps.specs.declared.seals.SealEntry.{SealEntry}
use Rattle.cx_laws_run.specs.cx_laws_tickets.proofs.fetch.AskedKnown.{AreTold, Events, MoreEvents, Told}
use Rattle.cx_laws_run.specs.cx_laws_tickets.proofs.fetch.AskedMoving.{AsksMore, GivesMore, IsNotGiven, Moved, Quiets}
use Rattle.cx_laws_run.specs.cx_laws_tickets.proofs.fetch.AskedWords.{Given, given_frame}
use Rattle.cx_laws_run.specs.cx_laws_tickets.proofs.fetch.Later.{AreAmong, of_acceptor}
use Rattle.cx_laws_run.specs.cx_laws_tickets.proofs.fetch.ToldStays.{IsApartAt, monitor_told-stays}
use Rattle.cx_laws_run.specs.cx_laws_tickets.proofs.fetch.Words.{parts_of, said-elsewhere, said_under}
use Rattle.cx_laws_run.proofs.cover.State.{IsLost, MonitorHas}

-- what is sealed under a key stands in its place also behind a step that seals nothing there
pub among-stays : (test : List ℕ → Bool) (key : List ℕ) (parts beyond : List (List ℕ)) (n : NodeName) (line : ℕ) (es : List SealEntry) (log : List Logged) → contents_by key test es ≡ []
    → AreAmong test log key parts beyond → AreAmong test (behind n line es log) key parts beyond
among-stays test key parts beyond n line es log none h = λ other end counter plain some low has.
    h other end counter plain some low
    (subst (λ (l : List (List ℕ)). SomeOf (λ (content : List ℕ). content ≡ nonce_at other counter ++ plain) l)
    (contents-behind key test n line es log ∙ ap (λ (l : List (List ℕ)). contents_in key test log ++ l) none ∙ append-nil (contents_in key test log)) has)

same-given : (told next : Told) (m : Moved told next) (other : List ℕ) → IsNotGiven m other → said_under other next.given ≡ said_under other told.given
same-given told _ Quiets other none = refl
same-given told _ (AsksMore key word) other none = refl
same-given told _ (GivesMore key word) other none = said-elsewhere told.given key other word none

pub lost-stays : (us vs : Uses) → Grows us vs → (told next : Told) (m : Moved told next) (n : NodeName) (line : ℕ) (es : List SealEntry) (log : List Logged) (number : ℕ) (s : Secured) (name : Name)
    → IsNotGiven m s.keys.key → contents_by s.keys.key of_acceptor es ≡ [] → IsLost us told log number s name → IsLost vs next (behind n line es log) number s name
lost-stays us vs f told next m n line es log number s name apart none h =
    let same : said_under s.keys.key told.given ≡ said_under s.keys.key next.given = sym (same-given told next m s.keys.key apart) in
    record {
      challenge = h.challenge;
      means = f.means s.keys.key (Connected node.Monitor number name (AtMonitor h.challenge)) h.means;
      beyond = h.beyond;
      some = h.some;
      among = among-stays of_acceptor s.keys.key (parts_of given_frame (said_under s.keys.key next.given)) h.beyond n line es log none
          (subst (λ (words : List Given). AreAmong of_acceptor log s.keys.key (parts_of given_frame words) h.beyond) same h.among);
      counter = subst (λ (words : List Given). s.keys.out.counter ≡ 1 + (length (parts_of given_frame words) + length h.beyond)) same h.counter;
      out = h.out;
      fits = h.fits;
    }

module _ (run : WholeRun) (whole : List Logged) (us vs : Uses) (log : List Logged) (J : List Entry) (n : NodeName) (line : ℕ) (es : List SealEntry)
    (one : (k : List ℕ) (u v : Use) → Means vs k u → Means vs k v → u ≡ v) (f : Grows us vs) (i : Inv run whole us log J) (E F : Events) (more : MoreEvents E F) (told : Told)
    (t : AreTold run E us told log) (next : Told) (m : Moved told next) where
  -- under a key of this link the monitor says no word, and nothing is sealed there as its acceptor seals it
  abbrev pub IsUntouchedAt : ℕ → Type 0
  IsUntouchedAt number = IsApartAt run whole us vs log J n line es one f i E F more told t next m number

  pub monitor_has-stays : (number : ℕ) (stage : MonitorStage) → IsUntouchedAt number → MonitorHas run us told log number stage → MonitorHas run vs next (behind n line es log) number stage
  monitor_has-stays number (acceptor.AwaitsSignature s bearer) apart h = monitor_told-stays run whole us vs log J n line es one f i E F more told t next m number (acceptor.AwaitsSignature s bearer) apart h
  monitor_has-stays number (acceptor.AwaitsIdent s bearer) apart h = monitor_told-stays run whole us vs log J n line es one f i E F more told t next m number (acceptor.AwaitsIdent s bearer) apart h
  monitor_has-stays number (acceptor.Open s bearer) apart (inl h) = inl (monitor_told-stays run whole us vs log J n line es one f i E F more told t next m number (acceptor.Open s bearer) apart h)
  monitor_has-stays number (acceptor.Open s bearer) apart (inr h) =
      let here = apart s.keys.key bearer.name h.challenge h.means in inr (lost-stays us vs f told next m n line es log number s bearer.name here.0 here.1 h)
  monitor_has-stays number acceptor.AwaitsBanner apart h = tt
  monitor_has-stays number acceptor.AwaitsHello apart h = tt
  monitor_has-stays number acceptor.AwaitsRequest apart h = tt
  monitor_has-stays number (acceptor.AwaitsProof offered) apart h = tt
