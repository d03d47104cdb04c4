-- What is known of the monitor and of one that logs in.
use Rattle.std.proofs.Common.{◌≡◌, ℕ, ◌+◌, ◌<◌, ◌≤◌, false, List, [], ◌∷◌, ◌++◌, refl, ◌∙◌, arith, Option, Some, None, Bool, true, sym, ap, ◌==◌, ltb-true, eqb-true, eq-eqb, ltb-false, subst, inl, inr, ◌⊎◌}
use Rattle.std.specs.Prelude.{Contains, if◌then◌else◌, nat_lt}
use Rattle.std.specs.List.{AllByRecursion}
use Rattle.cx_base.specs.Names.{Name}
use Rattle.cx_laws_keys.specs.cx_enc.specs.Values.{name_form}
use Rattle.cx_laws_keys.specs.cx_journal.specs.declared.entries.Entry.{Entry}
use Rattle.cx_laws_keys.specs.cx_journal.specs.declared.entries.Entry.TheVariants as journal
use Rattle.cx_laws_keys.specs.cx_journal.specs.declared.entries.Issued.{Issued}
use Rattle.cx_base.specs.declared.nodes.NodeName.{NodeName}
use Rattle.cx_base.specs.declared.nodes.NodeName.TheVariants as node
use Rattle.cx_rules.specs.cx_keyring.specs.declared.entries.Entry.{Entry as Principal}
use Rattle.cx_rules.specs.cx_login.specs.Monitor.{Offer}
use Rattle.cx_rules.specs.cx_rotate.specs.declared.states.KeptState.{KeptState}
use Rattle.cx_rules.specs.Acceptor.{AwaitsBanner, AwaitsHello, AwaitsRequest, AwaitsProof, AwaitsSignature, AwaitsIdent, Open}
use Rattle.cx_rules.specs.Connector as connector
use Rattle.cx_rules.specs.Holdings.{MonClient}
use Rattle.cx_rules.specs.Monitor.{Monitor, MonitorStage}
use Rattle.cx_rules.specs.cx_steps.specs.Premises.{is_server}
use Rattle.cx_laws_keys.proofs.keys.Journal.{IsNotIssued, has-before, IsOf}
use Rattle.cx_rules.specs.Secured.{Keys}
use Rattle.cx_laws_keys.proofs.keys.Known.{HasLogin, IsAcceptorOr, IsOfAcceptor, IsOfConnector, generated-grow, login-connected, login-grows}
use Rattle.cx_laws_keys.proofs.keys.Lists.{all-map}
use Rattle.cx_laws_keys.proofs.keys.Uses.{AtMonitor, Grows, IsConnected, Means, Secret, Uses, connected-grows, Login, AreGenerated, IsSavedIn, WholeRun}
use Rattle.cx_laws_keys.proofs.login.Generations.{StateOk, state-grows}
use Rattle.cx_rules.specs.declared.responses.Bearer.{Bearer}
use Rattle.cx_rules.specs.cx_rotate.specs.declared.generations.Generation.{Generation}
use Rattle.cx_rules.specs.cx_rotate.specs.declared.views.View.{View}
use Rattle.cx_base.specs.declared.kinds.EntityType.{EntityType}

-- ---- the monitor

-- each entity's secret is its own
abbrev pub AreSecrets : Uses → List Principal → Type 0
AreSecrets us ring = AllByRecursion (λ (p : Principal). Means us p.key.secret (Secret p.name)) ring

-- each issued global id lies below the mark
abbrev pub AreBelow : List Entry → ℕ → Type 0
AreBelow J mark = (s : Issued) → Contains J (journal.Issued s) → s.gid < mark

-- whose each global id is that was given out since the monitor began anew, and of those before each that was issued
abbrev pub Owner : Type 0
Owner = ℕ → Option Name

-- the monitor's own, where `before` is the state that was saved last before the step: each issued global id is its entity's, and from the next one on
-- they are nobody's
pub record OwnOk (before : KeptState) (owner : Owner) (us : Uses) (J : List Entry) (own : Monitor) : Type 0 where
  pub ring : AreSecrets us own.server.ring
  pub present : StateOk us own.server.state
  pub saved : StateOk us own.saved
  pub before_is : own.saved_before ≡ before
  pub grown : before.next_gid ≤ own.saved.next_gid
  pub below : AreBelow J own.saved.next_gid
  pub rises : own.saved.next_gid ≤ own.server.state.next_gid
  pub owned : (s : Issued) → Contains J (journal.Issued s) → owner s.gid ≡ Some s.entity
  pub unowned : (x : ℕ) → own.server.state.next_gid ≤ x → owner x ≡ None

pub own-grows : (before : KeptState) (owner : Owner) (us vs : Uses) (J : List Entry) (own : Monitor) → Grows us vs → OwnOk before owner us J own → OwnOk before owner vs J own
own-grows before owner us vs J own f h = record {
  ring = all-map (λ (p : Principal). Means us p.key.secret (Secret p.name)) (λ (p : Principal). Means vs p.key.secret (Secret p.name))
      (λ p m. f.means p.key.secret (Secret p.name) m) own.server.ring h.ring;
  present = state-grows us vs own.server.state f h.present;
  saved = state-grows us vs own.saved f h.saved;
  before_is = h.before_is;
  grown = h.grown;
  below = h.below;
  rises = h.rises;
  owned = h.owned;
  unowned = h.unowned;
}

pub own-entered : (before : KeptState) (owner : Owner) (us : Uses) (J : List Entry) (own : Monitor) (e : Entry) → IsNotIssued e → OwnOk before owner us J own
    → OwnOk before owner us (J ++ e ∷ []) own
own-entered before owner us J own e other h = record {
  ring = h.ring;
  present = h.present;
  saved = h.saved;
  before_is = h.before_is;
  grown = h.grown;
  below = λ s has. h.below s (has-before J e other s has);
  rises = h.rises;
  owned = λ s has. h.owned s (has-before J e other s has);
  unowned = h.unowned;
}

-- an entity that was sent a challenge has a name that can be written, and its own secret
pub record OfferOk (us : Uses) (offer : Offer) : Type 0 where
  pub named : name_form.Fits offer.name
  pub secret : Means us offer.secret (Secret offer.name)

-- the two have one key, and nonces that begin alike
pub record IsSameWay (k keys : Keys) : Type 0 where
  pub key : k.key ≡ keys.key
  pub out : k.out.fixed ≡ keys.out.fixed
  pub into : k.into.fixed ≡ keys.into.fixed

-- this node may seal under these keys: the key is the one of a link to an entity, whose own node it is, or it sends with the nonce of an acceptor, which it is, or the
-- monitor
pub record MaySeal (us : Uses) (n : NodeName) (keys : Keys) : Type 0 where
  pub name : Name
  pub connected : IsConnected us keys.key name
  pub own : (n ≡ node.Entity name) ⊎ IsOfAcceptor keys.out.fixed × IsAcceptorOr n connected.acceptor

-- under the key of a link that the monitor made it may seal with the nonce of an acceptor
pub acceptor-seals : (us : Uses) (n : NodeName) (keys : Keys) (name : Name) → HasLogin us name keys.key → IsOfAcceptor keys.out.fixed → MaySeal us n keys
acceptor-seals us n keys name h out = record {
  name = name;
  connected = record { acceptor = node.Monitor; number = h.number; tie = AtMonitor h.challenge; means = h.means };
  own = inr (out, inr refl);
}

-- an entity that has proved itself on a link with these keys, which are those of an acceptor: its name can be written, the session key is that of its
-- ticket for AUTH, and the global id is its own
pub record BearerOk (owner : Owner) (us : Uses) (keys : Keys) (bearer : Bearer) : Type 0 where
  pub login : HasLogin us bearer.name keys.key
  pub out : IsOfAcceptor keys.out.fixed
  pub into : IsOfConnector keys.into.fixed
  pub named : name_form.Fits bearer.name
  pub session : Means us bearer.session (Login bearer.name)
  pub owns : owner bearer.gid ≡ Some bearer.name

abbrev pub StageOk : Owner → Uses → MonitorStage → Type 0
StageOk owner us (AwaitsProof offered) = OfferOk us offered.offer
StageOk owner us (AwaitsSignature s bearer) = BearerOk owner us s.keys bearer
StageOk owner us (AwaitsIdent s bearer) = BearerOk owner us s.keys bearer
StageOk owner us (Open s bearer) = BearerOk owner us s.keys bearer
StageOk owner us _ = Unit {0}

pub bearer-grows : (owner : Owner) (us vs : Uses) (keys : Keys) (bearer : Bearer) → Grows us vs → BearerOk owner us keys bearer → BearerOk owner vs keys bearer
bearer-grows owner us vs keys bearer f h = record {
  login = login-grows us vs bearer.name keys.key f h.login;
  out = h.out;
  into = h.into;
  named = h.named;
  session = f.means bearer.session (Login bearer.name) h.session;
  owns = h.owns;
}

-- behind a frame the keys are as good
pub bearer-moves : (owner : Owner) (us : Uses) (k keys : Keys) (bearer : Bearer) → IsSameWay k keys → BearerOk owner us keys bearer → BearerOk owner us k bearer
bearer-moves owner us k keys bearer same h = record {
  login = subst (λ (key : List ℕ). HasLogin us bearer.name key) (sym same.key) h.login;
  out = subst IsOfAcceptor (sym same.out) h.out;
  into = subst IsOfConnector (sym same.into) h.into;
  named = h.named;
  session = h.session;
  owns = h.owns;
}

pub stage-grows : (owner : Owner) (us vs : Uses) (stage : MonitorStage) → Grows us vs → StageOk owner us stage → StageOk owner vs stage
stage-grows owner us vs AwaitsBanner f h = tt
stage-grows owner us vs AwaitsHello f h = tt
stage-grows owner us vs AwaitsRequest f h = tt
stage-grows owner us vs (AwaitsProof offered) f h = record { named = h.named; secret = f.means offered.offer.secret (Secret offered.offer.name) h.secret }
stage-grows owner us vs (AwaitsSignature s bearer) f h = bearer-grows owner us vs s.keys bearer f h
stage-grows owner us vs (AwaitsIdent s bearer) f h = bearer-grows owner us vs s.keys bearer f h
stage-grows owner us vs (Open s bearer) f h = bearer-grows owner us vs s.keys bearer f h

-- ---- global ids by their owners

some_name : (a b : Name) → Some a ≡ Some b → a ≡ b
some_name a b e = cc

none_is_some : (name : Name) (x : Option Name) → x ≡ None → x ≡ Some name → ⊥
none_is_some name x none some = absurd cc

-- one that is somebody's lies below the next one
pub owned-below : (before : KeptState) (owner : Owner) (us : Uses) (J : List Entry) (own : Monitor) (gid : ℕ) (name : Name) → OwnOk before owner us J own → owner gid ≡ Some name
    → gid < own.server.state.next_gid
owned-below before owner us J own gid name ok is = by_test (nat_lt gid own.server.state.next_gid) refl
  where
    by_test : (t : Bool) → nat_lt gid own.server.state.next_gid ≡ t → gid < own.server.state.next_gid
    by_test true less = ltb-true gid own.server.state.next_gid less
    by_test false more = absurd (none_is_some name (owner gid) (ok.unowned gid (ltb-false gid own.server.state.next_gid more)) is)

-- and was issued to nobody else
pub owned-of : (before : KeptState) (owner : Owner) (us : Uses) (J : List Entry) (own : Monitor) (gid : ℕ) (name : Name) → OwnOk before owner us J own → owner gid ≡ Some name → IsOf J name gid
owned-of before owner us J own gid name ok is = λ s has same. some_name s.entity name (sym (ok.owned s has) ∙ ap owner same ∙ is)

-- a global id becomes an entity's
abbrev pub owner_with : Owner → ℕ → Name → Owner
owner_with owner gid name = λ x. if x == gid then Some name else owner x

-- it was nobody else's
abbrev pub IsFree : Owner → ℕ → Name → Type 0
IsFree owner gid name = (m : Name) → owner gid ≡ Some m → m ≡ name

-- what was somebody's is still theirs
abbrev pub Keeps : Owner → Owner → Type 0
Keeps owner later = (x : ℕ) (m : Name) → owner x ≡ Some m → later x ≡ Some m

pub keeps-with : (owner : Owner) (gid : ℕ) (name : Name) → IsFree owner gid name → Keeps owner (owner_with owner gid name)
keeps-with owner gid name free = λ x m is. by_test x m (x == gid) refl is
  where
    by_test : (x : ℕ) (m : Name) (t : Bool) → (x == gid) ≡ t → owner x ≡ Some m → (if t then Some name else owner x) ≡ Some m
    by_test x m true same is = ap (λ (n : Name). Some n) (sym (free m (ap owner (sym (eqb-true x gid same)) ∙ is)))
    by_test x m false other is = is

pub with-gid : (owner : Owner) (gid : ℕ) (name : Name) → owner_with owner gid name gid ≡ Some name
with-gid owner gid name = rw (eq-eqb gid gid refl) refl

pub own-with : (before : KeptState) (owner : Owner) (us : Uses) (J : List Entry) (own : Monitor) (gid : ℕ) (name : Name) → IsFree owner gid name → gid < own.server.state.next_gid
    → OwnOk before owner us J own → OwnOk before (owner_with owner gid name) us J own
own-with before owner us J own gid name free low h = record {
  ring = h.ring;
  present = h.present;
  saved = h.saved;
  before_is = h.before_is;
  grown = h.grown;
  below = h.below;
  rises = h.rises;
  owned = λ s has. keeps-with owner gid name free s.gid s.entity (h.owned s has);
  unowned = λ x le. by_test x le (x == gid) refl;
}
  where
    by_test : (x : ℕ) → own.server.state.next_gid ≤ x → (t : Bool) → (x == gid) ≡ t → (if t then Some name else owner x) ≡ None
    by_test x le true same = let is : x ≡ gid = eqb-true x gid same in absurd (omega arith)
    by_test x le false other = h.unowned x le

pub bearer-keeps : (owner later : Owner) (us : Uses) (keys : Keys) (bearer : Bearer) → Keeps owner later → BearerOk owner us keys bearer → BearerOk later us keys bearer
bearer-keeps owner later us keys bearer k h =
    record { login = h.login; out = h.out; into = h.into; named = h.named; session = h.session; owns = k bearer.gid bearer.name h.owns }

pub stage-keeps : (owner later : Owner) (us : Uses) (stage : MonitorStage) → Keeps owner later → StageOk owner us stage → StageOk later us stage
stage-keeps owner later us AwaitsBanner k h = tt
stage-keeps owner later us AwaitsHello k h = tt
stage-keeps owner later us AwaitsRequest k h = tt
stage-keeps owner later us (AwaitsProof offered) k h = h
stage-keeps owner later us (AwaitsSignature s bearer) k h = bearer-keeps owner later us s.keys bearer k h
stage-keeps owner later us (AwaitsIdent s bearer) k h = bearer-keeps owner later us s.keys bearer k h
stage-keeps owner later us (Open s bearer) k h = bearer-keeps owner later us s.keys bearer k h

-- ---- one that logs in

-- how many of these entries issue a ticket
abbrev pub one_if_issued : Entry → ℕ
one_if_issued (journal.Issued ticket) = 1
one_if_issued _ = 0

unfoldable pub tickets_in : List Entry → ℕ
tickets_in [] = 0
tickets_in (e ∷ es) = one_if_issued e + tickets_in es

pub tickets-append : (xs ys : List Entry) → tickets_in (xs ++ ys) ≡ tickets_in xs + tickets_in ys
unfolding tickets_in
tickets-append [] ys = omega arith
tickets-append (x ∷ xs) ys = let rest : tickets_in (xs ++ ys) ≡ tickets_in xs + tickets_in ys = tickets-append xs ys in omega arith

none-more : (e : Entry) → IsNotIssued e → one_if_issued e ≡ 0
none-more (journal.Issued x) h = absurd h
none-more (journal.Saved x) h = refl
none-more (journal.Fetched x) h = refl
none-more (journal.Looked x) h = refl
none-more (journal.Admitted x) h = refl
none-more (journal.Resumed x) h = refl
none-more (journal.Sent x) h = refl
none-more (journal.Handled x) h = refl
none-more (journal.Answered x) h = refl
none-more (journal.Refused x) h = refl
none-more (journal.Ended x) h = refl
none-more (journal.Restarted x) h = refl
none-more (journal.Broken x) h = refl
none-more (journal.Leaked x) h = refl

none-added : (J : List Entry) (e : Entry) → IsNotIssued e → tickets_in (J ++ e ∷ []) ≡ tickets_in J
unfolding tickets_in
none-added J e h = let none : one_if_issued e ≡ 0 = none-more e h in omega (arith, tickets-append J (e ∷ []))

-- these generations are a service's, and were saved
pub record AreFetched (run : WholeRun) (us : Uses) (service : EntityType) (gs : List Generation) : Type 0 where
  pub generated : AreGenerated us service gs
  pub saved : AllByRecursion (IsSavedIn run.saved service) gs

pub fetched-grow : (run : WholeRun) (us vs : Uses) (service : EntityType) (gs : List Generation) → Grows us vs → AreFetched run us service gs → AreFetched run vs service gs
fetched-grow run us vs service gs f h = record { generated = generated-grow us vs service gs f h.generated; saved = h.saved }

pub none-fetched : (run : WholeRun) (us : Uses) (service : EntityType) → AreFetched run us service []
none-fetched run us service = record { generated = tt; saved = tt }

-- one of this name, with this secret and this view, is no server, or isn't leaked; the secret is its own, and the view is of generations of its own type
pub record MonClientKnown (run : WholeRun) (us : Uses) (name : Name) (secret : List ℕ) (view : View) : Type 0 where
  pub trusted : (is_server (node.Entity name) ≡ false) ⊎ (Contains run.leaked name → ⊥)
  pub own : Means us secret (Secret name)
  pub fetched : AreFetched run us name.kind view.generations

pub known-grows : (run : WholeRun) (us vs : Uses) (name : Name) (secret : List ℕ) (view : View) → Grows us vs → MonClientKnown run us name secret view → MonClientKnown run vs name secret view
known-grows run us vs name secret view f h =
    record { trusted = h.trusted; own = f.means secret (Secret name) h.own; fetched = fetched-grow run us vs name.kind view.generations f h.fetched }

-- so it is, and its steps issue nothing: all that is issued was so in the journal at first
pub record MonClientOk (run : WholeRun) (first : List Entry) (us : Uses) (J : List Entry) (mon_client : MonClient) : Type 0 where
  pub known : MonClientKnown run us mon_client.name mon_client.secret mon_client.view
  pub quiet : (s : Issued) → Contains J (journal.Issued s) → Contains first (journal.Issued s)
  pub count : tickets_in J ≡ tickets_in first

pub mon_client-entered : (run : WholeRun) (first : List Entry) (us : Uses) (J : List Entry) (mon_client : MonClient) (e : Entry) → IsNotIssued e → MonClientOk run first us J mon_client
    → MonClientOk run first us (J ++ e ∷ []) mon_client
mon_client-entered run first us J mon_client e other h = record {
  known = h.known;
  quiet = λ s has. h.quiet s (has-before J e other s has);
  count = none-added J e other ∙ h.count;
}

-- the key of a link that is secured is one of a connection of this node
pub record HasConnection (us : Uses) (n : NodeName) (key : List ℕ) : Type 0 where
  pub name : Name
  pub connected : IsConnected us key name
  pub own : n ≡ node.Entity name

pub connection-grows : (us vs : Uses) (n : NodeName) (key : List ℕ) → Grows us vs → HasConnection us n key → HasConnection vs n key
connection-grows us vs n key f h = record { name = h.name; connected = connected-grows us vs key h.name f h.connected; own = h.own }

-- under it the node may seal
pub seals-own : (us : Uses) (n : NodeName) (keys : Keys) → HasConnection us n keys.key → MaySeal us n keys
seals-own us n keys h = record { name = h.name; connected = h.connected; own = inl h.own }

-- the key of a link to the monitor is one that the monitor made for this node, tied to the challenge of a proof
pub record HasMonitorKey (us : Uses) (n : NodeName) (key : List ℕ) : Type 0 where
  pub name : Name
  pub login : HasLogin us name key
  pub own : n ≡ node.Entity name

pub monitor_key-grows : (us vs : Uses) (n : NodeName) (key : List ℕ) → Grows us vs → HasMonitorKey us n key → HasMonitorKey vs n key
monitor_key-grows us vs n key f h = record { name = h.name; login = login-grows us vs h.name key f h.login; own = h.own }

pub monitor-connection : (us : Uses) (n : NodeName) (key : List ℕ) → HasMonitorKey us n key → HasConnection us n key
monitor-connection us n key h = record { name = h.name; connected = login-connected us h.name key h.login; own = h.own }

-- under it the node may seal
pub seals-monitor : (us : Uses) (n : NodeName) (keys : Keys) → HasMonitorKey us n keys.key → MaySeal us n keys
seals-monitor us n keys h = seals-own us n keys (monitor-connection us n keys.key h)

abbrev pub MonClientStageOk : Uses → NodeName → connector.Stage → Type 0
MonClientStageOk us n (connector.AwaitsSignature s login) = HasMonitorKey us n s.keys.key
MonClientStageOk us n (connector.AwaitsIdent s session) = HasMonitorKey us n s.keys.key
MonClientStageOk us n (connector.Open s requests) = HasMonitorKey us n s.keys.key
MonClientStageOk us n _ = Unit {0}

pub mon_client_stage-grows : (us vs : Uses) (n : NodeName) (stage : connector.Stage) → Grows us vs → MonClientStageOk us n stage → MonClientStageOk vs n stage
mon_client_stage-grows us vs n (connector.AwaitsBanner asked) f h = tt
mon_client_stage-grows us vs n (connector.AwaitsHello asked) f h = tt
mon_client_stage-grows us vs n (connector.AwaitsChallenge asked) f h = tt
mon_client_stage-grows us vs n connector.AwaitsDone f h = tt
mon_client_stage-grows us vs n (connector.AwaitsSignature s login) f h = monitor_key-grows us vs n s.keys.key f h
mon_client_stage-grows us vs n (connector.AwaitsIdent s session) f h = monitor_key-grows us vs n s.keys.key f h
mon_client_stage-grows us vs n (connector.Open s requests) f h = monitor_key-grows us vs n s.keys.key f h
