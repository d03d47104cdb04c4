-- What is known of a client's link to a daemon: all that it took until AUTH_DONE, and behind that, that its key is the one of a link to a daemon. And that what such a
-- link logs has nothing to do with links to the monitor.
use Rattle.std.proofs.Common.{◌≡◌, ℕ, Bool, true, false, List, [], ◌∷◌, ◌++◌, inl, inr, ◌⊎◌, refl, subst, Some}
use Rattle.std.proofs.lemmas.Slice.Eq.{bytes_eq-Decides}
use Rattle.std.specs.Prelude.{◌&&◌}
use Rattle.std.specs.List.{AllByRecursion, cons_option}
use Rattle.std.specs.Str.{bytes_eq}
use Rattle.cx_base.specs.Names.{Name}
use Rattle.cx_base.specs.declared.nodes.NodeName.TheVariants as node
use Rattle.cx_laws_run.specs.cx_rules_session.specs.Presenter as call
use Rattle.cx_laws_run.specs.cx_rules_session.specs.Presenter.{CallStage}
use Rattle.cx_laws_run.specs.cx_sealed.specs.Records.{connection_secret_layout}
use Rattle.cx_laws_run.specs.cx_sealed.specs.Unsealing.{spelled_by}
use Rattle.cx_laws_run.specs.cx_sealed.specs.declared.connection_secret.ConnectionSecret.{ConnectionSecret}
use Rattle.cx_steps.specs.declared.seals.SealEntry.{SealEntry}
use Rattle.cx_steps.specs.declared.seals.SealEntry.TheVariants as entry
use Rattle.cx_laws_run.specs.cx_laws_tickets.proofs.fetch.MonClientFacts.{HasHeard, heard-grows}
use Rattle.cx_laws_run.specs.cx_laws_tickets.proofs.fetch.Handed.{IsNoLogin, IsPlain}
use Rattle.cx_laws_run.specs.cx_laws_tickets.proofs.fetch.Later.{of_acceptor, of_connector}
use Rattle.cx_laws_run.specs.cx_laws_tickets.proofs.fetch.Retied.{Handed, means-retied, retied}
use Rattle.cx_laws_run.specs.cx_laws_tickets.proofs.fetch.SameChallenge.{TellsReply}
use Rattle.cx_laws_run.specs.cx_laws_tickets.proofs.fetch.ToldStays.{SealsNone}
use Rattle.cx_laws_run.specs.cx_laws_keys.proofs.keys.Lists.{all-map}
use Rattle.cx_laws_run.specs.cx_laws_keys.proofs.keys.Uses.{AtDaemon, AtMonitor, Connected, Generated, Grows, Login, Means, Secret, Ticketed, Use, Uses}
use Rattle.cx_laws_run.specs.cx_laws_links.proofs.links.Written.{IsLinkKey}
use Rattle.cx_laws_run.specs.cx_laws_keys.proofs.series.Contents.{content_where, contents_by}

-- ---- a link

-- the key is that of a link of a daemon to some entity
pub record IsOfDaemon (us : Uses) (key : List ℕ) : Type 0 where
  pub name : Name
  pub tie : ℕ
  pub is : IsLinkKey us key name tie

pub daemon-grows : (us vs : Uses) (key : List ℕ) → Grows us vs → IsOfDaemon us key → IsOfDaemon vs key
daemon-grows us vs key f h = record {
  name = h.name;
  tie = h.tie;
  is = record { acceptor = h.is.acceptor; number = h.is.number; service = h.is.service; means = f.means key (Connected h.is.acceptor h.is.number h.name (AtDaemon h.is.service h.tie)) h.is.means };
}

pub daemon-retied : (logins : List Handed) (us : Uses) (key : List ℕ) → IsOfDaemon us key → IsOfDaemon (retied logins us) key
daemon-retied logins us key h = record {
  name = h.name;
  tie = h.tie;
  is = record {
    acceptor = h.is.acceptor;
    number = h.is.number;
    service = h.is.service;
    means = means-retied logins us key (Connected h.is.acceptor h.is.number h.name (AtDaemon h.is.service h.tie)) h.is.means;
  };
}

-- by its stage: a banner and frames of these tags were taken; or its key is of a link of a daemon
abbrev pub CallKnown : Uses → List ℕ → ℕ → CallStage → Type 0
CallKnown us received taken (call.AwaitsBanner called) = taken ≡ 0
CallKnown us received taken (call.AwaitsHello called) = HasHeard received taken []
CallKnown us received taken (call.AwaitsChallenge callee p) = HasHeard received taken (1 ∷ [])
CallKnown us received taken (call.AwaitsDone callee answered) = HasHeard received taken (1 ∷ 4 ∷ [])
CallKnown us received taken (call.AwaitsSignature s callee) = IsOfDaemon us s.keys.key
CallKnown us received taken (call.AwaitsIdent s callee cookie) = IsOfDaemon us s.keys.key
CallKnown us received taken (call.AwaitsReconnect s callee cookie) = IsOfDaemon us s.keys.key
CallKnown us received taken (call.Open s callee cookie) = IsOfDaemon us s.keys.key

-- it stays so where more is known of keys
pub call-grows : (us vs : Uses) (received : List ℕ) (taken : ℕ) (stage : CallStage) → Grows us vs → CallKnown us received taken stage → CallKnown vs received taken stage
call-grows us vs received taken (call.AwaitsBanner called) f h = h
call-grows us vs received taken (call.AwaitsHello called) f h = h
call-grows us vs received taken (call.AwaitsChallenge callee p) f h = h
call-grows us vs received taken (call.AwaitsDone callee answered) f h = h
call-grows us vs received taken (call.AwaitsSignature s callee) f h = daemon-grows us vs s.keys.key f h
call-grows us vs received taken (call.AwaitsIdent s callee cookie) f h = daemon-grows us vs s.keys.key f h
call-grows us vs received taken (call.AwaitsReconnect s callee cookie) f h = daemon-grows us vs s.keys.key f h
call-grows us vs received taken (call.Open s callee cookie) f h = daemon-grows us vs s.keys.key f h

-- and where more comes on the link
pub call-comes : (us : Uses) (received more : List ℕ) (taken : ℕ) (stage : CallStage) → CallKnown us received taken stage → CallKnown us (received ++ more) taken stage
call-comes us received more taken (call.AwaitsBanner called) h = h
call-comes us received more taken (call.AwaitsHello called) h = heard-grows received more taken [] h
call-comes us received more taken (call.AwaitsChallenge callee p) h = heard-grows received more taken (1 ∷ []) h
call-comes us received more taken (call.AwaitsDone callee answered) h = heard-grows received more taken (1 ∷ 4 ∷ []) h
call-comes us received more taken (call.AwaitsSignature s callee) h = h
call-comes us received more taken (call.AwaitsIdent s callee cookie) h = h
call-comes us received more taken (call.AwaitsReconnect s callee cookie) h = h
call-comes us received more taken (call.Open s callee cookie) h = h

-- ---- what is logged

-- the use is that of no link to the monitor
abbrev pub IsApart : Use → Type 0
IsApart (Connected acceptor number name (AtMonitor challenge)) = ⊥
IsApart (Connected acceptor number name (AtDaemon service tie)) = Unit {0}
IsApart (Secret name) = Unit {0}
IsApart (Generated service id) = Unit {0}
IsApart (Login name) = Unit {0}
IsApart (Ticketed name service) = Unit {0}

-- what is sealed is so under the key of no link to the monitor, and not under the session key of a login, or it is no connection secret
pub record IsSealedApart (us : Uses) (key content : List ℕ) : Type 0 where
  pub use_of : Use
  pub means : Means us key use_of
  pub apart : IsApart use_of
  pub plain : IsNoLogin use_of ⊎ ((x : ConnectionSecret) → spelled_by connection_secret_layout.form content ≡ Some x → ⊥)

-- and what is signed is what one that logs in took
abbrev pub IsHarmless : Uses → SealEntry → Type 0
IsHarmless us (entry.Sealed mark) = IsSealedApart us mark.key mark.content
IsHarmless us (entry.Signed mark) = TellsReply mark.content
IsHarmless us (entry.Opened mark) = Unit {0}
IsHarmless us (entry.Checked mark) = Unit {0}
IsHarmless us (entry.Drawn mark) = Unit {0}

abbrev pub AreHarmless : Uses → List SealEntry → Type 0
AreHarmless us es = AllByRecursion (IsHarmless us) es

-- where more is known of keys
harmless-grow : (us vs : Uses) → Grows us vs → (e : SealEntry) → IsHarmless us e → IsHarmless vs e
harmless-grow us vs f (entry.Sealed mark) h = record { use_of = h.use_of; means = f.means mark.key h.use_of h.means; apart = h.apart; plain = h.plain }
harmless-grow us vs f (entry.Signed mark) h = h
harmless-grow us vs f (entry.Opened mark) h = tt
harmless-grow us vs f (entry.Checked mark) h = tt
harmless-grow us vs f (entry.Drawn mark) h = tt

pub harmless-grows : (us vs : Uses) → Grows us vs → (es : List SealEntry) → AreHarmless us es → AreHarmless vs es
harmless-grows us vs f es h = all-map (IsHarmless us) (IsHarmless vs) (harmless-grow us vs f) es h

-- ---- it has nothing to do with logins

harmless-is_plain : (us : Uses) (e : SealEntry) → IsHarmless us e → IsPlain us e
harmless-is_plain us (entry.Sealed mark) h = by_plain h.plain
  where
    by_plain : IsNoLogin h.use_of ⊎ ((x : ConnectionSecret) → spelled_by connection_secret_layout.form mark.content ≡ Some x → ⊥)
        → ((u : Use) × Means us mark.key u × IsNoLogin u) ⊎ ((x : ConnectionSecret) → spelled_by connection_secret_layout.form mark.content ≡ Some x → ⊥)
    by_plain (inl none) = inl (h.use_of, h.means, none)
    by_plain (inr none) = inr none
harmless-is_plain us (entry.Signed mark) h = inr h
harmless-is_plain us (entry.Opened mark) h = tt
harmless-is_plain us (entry.Checked mark) h = tt
harmless-is_plain us (entry.Drawn mark) h = tt

pub harmless-plain : (us : Uses) (es : List SealEntry) → AreHarmless us es → AllByRecursion (IsPlain us) es
harmless-plain us es h = all-map (IsHarmless us) (IsPlain us) (harmless-is_plain us) es h

-- ---- nor with what is said on links to the monitor

module _ (us : Uses) (one : (k : List ℕ) (u v : Use) → Means us k u → Means us k v → u ≡ v) (key : List ℕ) (number : ℕ) (name : Name) (challenge : ℕ)
    (means : Means us key (Connected node.Monitor number name (AtMonitor challenge))) (test : List ℕ → Bool) where
  -- under the key of such a link nothing is sealed by it
  pub harmless-silent : (es : List SealEntry) → AreHarmless us es → contents_by key test es ≡ []
  harmless-silent [] h = refl
  harmless-silent (entry.Sealed mark ∷ es) h = by_key (bytes_eq mark.key key) refl (harmless-silent es h.1)
    where
      by_key : (here : Bool) → bytes_eq mark.key key ≡ here → contents_by key test es ≡ []
          → cons_option (content_where (here && test mark.content) mark.content) (contents_by key test es) ≡ []
      by_key false e rest = rest
      by_key true e rest =
          let same : h.0.use_of ≡ Connected node.Monitor number name (AtMonitor challenge) =
          one key h.0.use_of (Connected node.Monitor number name (AtMonitor challenge)) (subst (λ (k : List ℕ). Means us k h.0.use_of) ((bytes_eq-Decides mark.key key).0 e) h.0.means) means in
          absurd (subst IsApart same h.0.apart)
  harmless-silent (entry.Signed mark ∷ es) h = harmless-silent es h.1
  harmless-silent (entry.Opened mark ∷ es) h = harmless-silent es h.1
  harmless-silent (entry.Checked mark ∷ es) h = harmless-silent es h.1
  harmless-silent (entry.Drawn mark ∷ es) h = harmless-silent es h.1

pub harmless-none : (us : Uses) → ((k : List ℕ) (u v : Use) → Means us k u → Means us k v → u ≡ v) → (es : List SealEntry) → AreHarmless us es → SealsNone us es
harmless-none us one es h key login = (
  harmless-silent us one key login.2.number login.0 login.1 login.2.means of_connector es h,
  harmless-silent us one key login.2.number login.0 login.1 login.2.means of_acceptor es h,
)
