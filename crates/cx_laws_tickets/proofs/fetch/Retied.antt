-- Which link of the monitor a login's key is of, and which challenge its entity proved itself with, as the monitor's own link knows both: what is known of keys
-- with these numbers instead of those that were chosen when the key was drawn. All that is known of a run is known so too.
use Rattle.std.proofs.Common.{◌≡◌, ℕ, List, [], ◌∷◌, map, take, Option, Some, None, inl, inr, refl, sym, ap, ◌∙◌, subst}
use Rattle.std.specs.Prelude.{find}
use Rattle.std.specs.Str.{bytes_eq}
use Rattle.cx_base.specs.Names.{Name}
use Rattle.cx_base.specs.declared.kinds.EntityType.{EntityType}
use Rattle.cx_base.specs.declared.kinds.EntityType.TheVariants.{Mon, Mds, Osd, Client, Mgr, Auth}
use Rattle.cx_base.specs.declared.nodes.NodeName.{NodeName}
use Rattle.cx_base.specs.declared.nodes.NodeName.TheVariants as node
use Rattle.cx_journal.specs.declared.entries.Entry.{Entry}
use Rattle.cx_laws_tickets.specs.cx_laws_keys.proofs.keys.Known.{HasLogin, HasReply, Inv, IsAllowed, IsPlaced, Says, SealedAt, SignedAt}
use Rattle.cx_laws_tickets.specs.cx_laws_keys.proofs.keys.Lists.{all-map}
use Rattle.cx_laws_tickets.specs.cx_laws_keys.proofs.keys.Uses.{AreGenerated, AtDaemon, AtMonitor, Connected, Generated, Grows, HasDrawn, Login, Means, Secret, Ticketed, Use, Uses, WholeRun, session_use, whose}
use Rattle.cx_rotate.specs.declared.generations.Generation.{Generation}
use Rattle.cx_laws_tickets.specs.cx_sealed.specs.declared.authorize_reply.AuthorizeReply.{AuthorizeReply}
use Rattle.cx_steps.specs.Onto.{SomeOf}
use Rattle.cx_steps.specs.declared.seals.Logged.{Logged}
use Rattle.cx_steps.specs.declared.seals.SealEntry.{SealEntry}
use Rattle.cx_steps.specs.declared.seals.SealEntry.TheVariants as entry

-- what the monitor handed over at a login: the session key of the ticket for AUTH, and the key of the link, with the link's number and the challenge of the proof
pub record Handed : Type 0 where
  pub session : List ℕ
  pub key : List ℕ
  pub number : ℕ
  pub challenge : ℕ

abbrev pub found_in : List Handed → List ℕ → Option Handed
found_in logins key = find (λ (h : Handed). bytes_eq h.key key) logins

abbrev pub number_in : Option Handed → ℕ → ℕ
number_in None number = number
number_in (Some h) number = h.number

abbrev pub challenge_in : Option Handed → ℕ → ℕ
challenge_in None challenge = challenge
challenge_in (Some h) challenge = h.challenge

-- a use of this key, with what was handed over
abbrev pub retied_use : List Handed → List ℕ → Use → Use
retied_use logins key (Secret name) = Secret name
retied_use logins key (Generated service id) = Generated service id
retied_use logins key (Login name) = Login name
retied_use logins key (Ticketed name service) = Ticketed name service
retied_use logins key (Connected acceptor number name (AtMonitor challenge)) =
    Connected acceptor (number_in (found_in logins key) number) name (AtMonitor (challenge_in (found_in logins key) challenge))
retied_use logins key (Connected acceptor number name (AtDaemon service nonce)) = Connected acceptor number name (AtDaemon service nonce)

abbrev pub retied_keys : List Handed → List (List ℕ × Use) → List (List ℕ × Use)
retied_keys logins keys = map (λ (p : List ℕ × Use). (p.0, retied_use logins p.0 p.1)) keys

abbrev pub retied : List Handed → Uses → Uses
retied logins us = record us { keys = retied_keys logins us.keys }

-- ---- what a key means

module _ (logins : List Handed) where
  abbrev IsOne : List ℕ → Use → List ℕ × Use → Type 0
  IsOne key u p = (p.0 ≡ key) × (p.1 ≡ u)

  some-retied : (keys : List (List ℕ × Use)) (key : List ℕ) (u : Use) → SomeOf (IsOne key u) keys → SomeOf (IsOne key (retied_use logins key u)) (retied_keys logins keys)
  some-retied [] key u h = absurd h
  some-retied (p ∷ keys) key u (inl (same, is)) =
      inl (same, ap (λ (k : List ℕ). retied_use logins k p.1) same ∙ ap (λ (v : Use). retied_use logins key v) is)
  some-retied (p ∷ keys) key u (inr h) = inr (some-retied keys key u h)

  some-before : (keys : List (List ℕ × Use)) (key : List ℕ) (v : Use) → SomeOf (IsOne key v) (retied_keys logins keys) → (u : Use) × SomeOf (IsOne key u) keys × (v ≡ retied_use logins key u)
  some-before [] key v h = absurd h
  some-before (p ∷ keys) key v (inl (same, is)) = (p.1, inl (same, refl), sym is ∙ ap (λ (k : List ℕ). retied_use logins k p.1) same)
  some-before (p ∷ keys) key v (inr h) = let rest = some-before keys key v h in (rest.0, inr rest.1, rest.2)

  pub means-retied : (us : Uses) (key : List ℕ) (u : Use) → Means us key u → Means (retied logins us) key (retied_use logins key u)
  means-retied us key u h = some-retied us.keys key u h

  pub means-before : (us : Uses) (key : List ℕ) (v : Use) → Means (retied logins us) key v → (u : Use) × Means us key u × (v ≡ retied_use logins key u)
  means-before us key v h = some-before us.keys key v h

  pub whose-retied : (key : List ℕ) (u : Use) → whose (retied_use logins key u) ≡ whose u
  whose-retied key (Secret name) = refl
  whose-retied key (Generated service id) = refl
  whose-retied key (Login name) = refl
  whose-retied key (Ticketed name service) = refl
  whose-retied key (Connected acceptor number name (AtMonitor challenge)) = refl
  whose-retied key (Connected acceptor number name (AtDaemon service nonce)) = refl

  session-plain : (key : List ℕ) (name : Name) (service : EntityType) → retied_use logins key (session_use name service) ≡ session_use name service
  session-plain key name Mon = refl
  session-plain key name Mds = refl
  session-plain key name Osd = refl
  session-plain key name Client = refl
  session-plain key name Mgr = refl
  session-plain key name Auth = refl

  secret-before : (key : List ℕ) (name : Name) (u : Use) → Secret name ≡ retied_use logins key u → u ≡ Secret name
  secret-before key name (Secret other) e = sym e
  secret-before key name (Generated service id) e = absurd cc
  secret-before key name (Login other) e = absurd cc
  secret-before key name (Ticketed other service) e = absurd cc
  secret-before key name (Connected acceptor number other (AtMonitor challenge)) e = absurd cc
  secret-before key name (Connected acceptor number other (AtDaemon service nonce)) e = absurd cc

  -- ---- what is said under a key

  module _ (us : Uses) (J : List Entry) where
    abbrev vs : Uses
    vs = retied logins us

    pub generated-retied : (service : EntityType) (gs : List Generation) → AreGenerated us service gs → AreGenerated vs service gs
    generated-retied service gs h =
        all-map (λ (g : Generation). Means us g.key (Generated service g.id)) (λ (g : Generation). Means vs g.key (Generated service g.id))
        (λ g m. means-retied us g.key (Generated service g.id) m) gs h

    pub login-retied : (name : Name) (key : List ℕ) → HasLogin us name key → HasLogin vs name key
    login-retied name key h = record {
      number = number_in (found_in logins key) h.number;
      challenge = challenge_in (found_in logins key) h.challenge;
      means = means-retied us key (Connected node.Monitor h.number name (AtMonitor h.challenge)) h.means;
    }

    abbrev reply-retied : (name : Name) (x : AuthorizeReply) → HasReply us name x → HasReply vs name x
    reply-retied name x h = record {
      acceptor = h.acceptor;
      number = h.number;
      service = h.service;
      means = means-retied us (take 16 x.secret) (Connected h.acceptor h.number name (AtDaemon h.service x.nonce_plus_one)) h.means;
      into = h.into;
      out = h.out;
      counts_into = h.counts_into;
      counts_out = h.counts_out;
    }

    says-retied : (key : List ℕ) (u : Use) (content : List ℕ) → Says us J key u content → Says vs J key (retied_use logins key u) content
    says-retied key (Secret name) content s = (
      λ x is. means-retied us x.session (Login name) (s.0 x is),
      λ x is. let h = s.1 x is in record { service_is = h.service_is; generated = generated-retied x.service x.generations h.generated; saved = h.saved },
    )
    says-retied key (Generated service id) content s = λ x is.
        ((s x is).0, subst (λ (u : Use). Means vs x.session u) (session-plain x.session x.name service) (means-retied us x.session (session_use x.name service) (s x is).1))
    says-retied key (Login name) content s =
        (λ x is. means-retied us x.session (Ticketed name x.service) (s.0 x is), λ x is. login-retied name (take 16 x.secret) (s.1 x is), s.2)
    says-retied key (Ticketed name service) content s = λ x is. (reply-retied name x (s x is).0, (s x is).1)
    says-retied key (Connected acceptor number name (AtMonitor challenge)) content s = tt
    says-retied key (Connected acceptor number name (AtDaemon service nonce)) content s = tt

    sealed-retied : (at : NodeName) (key : List ℕ) (u : Use) (content : List ℕ) → SealedAt at u content → SealedAt at (retied_use logins key u) content
    sealed-retied at key (Secret name) content s = tt
    sealed-retied at key (Generated service id) content s = tt
    sealed-retied at key (Login name) content s = tt
    sealed-retied at key (Ticketed name service) content s = tt
    sealed-retied at key (Connected acceptor number name (AtMonitor challenge)) content s = s
    sealed-retied at key (Connected acceptor number name (AtDaemon service nonce)) content s = s

    signed-retied : (at : NodeName) (key : List ℕ) (u : Use) → SignedAt at u → SignedAt at (retied_use logins key u)
    signed-retied at key (Secret name) s = s
    signed-retied at key (Generated service id) s = tt
    signed-retied at key (Login name) s = tt
    signed-retied at key (Ticketed name service) s = s
    signed-retied at key (Connected acceptor number name (AtMonitor challenge)) s = tt
    signed-retied at key (Connected acceptor number name (AtDaemon service nonce)) s = tt

    allowed-retied : (at : NodeName) (e : SealEntry) → IsAllowed us J at e → IsAllowed vs J at e
    allowed-retied at (entry.Sealed mark) h =
        (retied_use logins mark.key h.0, means-retied us mark.key h.0 h.1, says-retied mark.key h.0 mark.content h.2, sealed-retied at mark.key h.0 mark.content h.3)
    allowed-retied at (entry.Signed mark) h = (retied_use logins mark.key h.0, means-retied us mark.key h.0 h.1, signed-retied at mark.key h.0 h.2)
    allowed-retied at (entry.Opened mark) h = tt
    allowed-retied at (entry.Checked mark) h = tt
    allowed-retied at (entry.Drawn mark) h = tt

    -- ---- all that is known

    pub inv-retied : (run : WholeRun) (whole log : List Logged) → Inv run whole us log J → Inv run whole vs log J
    inv-retied run whole log i = record {
      held = λ key v m. let b = means-before us key v m in subst (λ (w : Option Name). HasDrawn log w key) (whose-is key v b.0 b.2) (i.held key b.0 b.1);
      secrets = λ key name m. let b = means-before us key (Secret name) m in i.secrets key name (subst (λ (u : Use). Means us key u) (secret-before key name b.0 b.2) b.1);
      one = λ key v w m k.
          let b = means-before us key v m in
          let c = means-before us key w k in
          b.2 ∙ ap (λ (u : Use). retied_use logins key u) (i.one key b.0 c.0 b.1 c.1) ∙ sym c.2;
      leaks = λ key v m leak.
          let b = means-before us key v m in
          let l = i.leaks key b.0 b.1 leak in
          (l.0, sym (whose-is key v b.0 b.2) ∙ l.1, l.2);
      allowed = all-map (λ (at : Logged). IsAllowed us J at.node at.entry) (λ (at : Logged). IsAllowed vs J at.node at.entry) (λ at a. allowed-retied at.node at.entry a) log i.allowed;
      own = i.own;
      told = i.told;
      placed = λ key v m. let b = means-before us key v m in placed-retied key v b.0 b.2 (i.placed key b.0 b.1);
    }
      where
        placed-retied : (key : List ℕ) (v u : Use) → v ≡ retied_use logins key u → IsPlaced u → IsPlaced v
        placed-retied key v u e h = subst IsPlaced (sym e) (placed-still key u h)
          where
            placed-still : (k : List ℕ) (w : Use) → IsPlaced w → IsPlaced (retied_use logins k w)
            placed-still k (Secret name) p = p
            placed-still k (Generated service id) p = p
            placed-still k (Login name) p = p
            placed-still k (Ticketed name service) p = p
            placed-still k (Connected acceptor number name (AtMonitor challenge)) p = p
            placed-still k (Connected acceptor number name (AtDaemon service nonce)) p = p

        whose-is : (key : List ℕ) (v u : Use) → v ≡ retied_use logins key u → whose u ≡ whose v
        whose-is key v u e = sym (whose-retied key u) ∙ ap whose (sym e)

-- ---- more is handed over

-- what was handed over of each key of a login that is known stays so
abbrev pub StayHanded : Uses → List Handed → List Handed → Type 0
StayHanded us logins more = (key : List ℕ) (acceptor : NodeName) (number : ℕ) (name : Name) (challenge : ℕ) → Means us key (Connected acceptor number name (AtMonitor challenge))
    → found_in more key ≡ found_in logins key

same-use : (us : Uses) (logins more : List Handed) → StayHanded us logins more → (key : List ℕ) (u : Use) → Means us key u → retied_use more key u ≡ retied_use logins key u
same-use us logins more stay key (Secret name) m = refl
same-use us logins more stay key (Generated service id) m = refl
same-use us logins more stay key (Login name) m = refl
same-use us logins more stay key (Ticketed name service) m = refl
same-use us logins more stay key (Connected acceptor number name (AtMonitor challenge)) m =
    ap (λ (o : Option Handed). Connected acceptor (number_in o number) name (AtMonitor (challenge_in o challenge))) (stay key acceptor number name challenge m)
same-use us logins more stay key (Connected acceptor number name (AtDaemon service nonce)) m = refl

pub grows-retied : (us vs : Uses) (logins more : List Handed) → StayHanded us logins more → Grows us vs → Grows (retied logins us) (retied more vs)
grows-retied us vs logins more stay f = record {
  means = λ key v m.
      let b = means-before logins us key v m in
      let same : v ≡ retied_use more key b.0 = b.2 ∙ sym (same-use us logins more stay key b.0 b.1) in
      subst (λ (u : Use). Means (retied more vs) key u) (sym same) (means-retied more vs key b.0 (f.means key b.0 b.1));
}
