-- What is known of a run so far: what each key is for, and that all that is sealed and signed under it says what its use allows.
use Rattle.std.proofs.Common.{◌≡◌, ℕ, ◌+◌, ◌^◌, ◌<◌, ◌≤◌, List, [], ◌∷◌, length, slice_index, take, Some, inl, inr, subst, arith, ◌⊎◌}
use Rattle.std.specs.Prelude.{Contains}
use Rattle.std.specs.Int.{from_le_bytes, w64}
use Rattle.std.specs.List.{AllByRecursion}
use Rattle.cx_base.specs.Names.{Name}
use Rattle.cx_base.specs.declared.kinds.EntityType.{EntityType}
use Rattle.cx_base.specs.declared.kinds.EntityType.TheVariants.{Mon, Mds, Osd, Client, Mgr, Auth}
use Rattle.cx_sealed.specs.cx_cbc.specs.Envelope.{sealed as enveloped}
use Rattle.cx_steps.specs.cx_journal.specs.declared.entries.Entry.{Entry}
use Rattle.cx_steps.specs.cx_journal.specs.declared.entries.Entry.TheVariants as journal
use Rattle.cx_steps.specs.cx_journal.specs.declared.entries.Issued.{Issued}
use Rattle.cx_base.specs.declared.nodes.NodeName.{NodeName}
use Rattle.cx_base.specs.declared.nodes.NodeName.TheVariants as node
use Rattle.cx_sealed.specs.Records.{authorize_reply_layout, connection_secret_layout, rotating_reply_layout, service_ticket_layout, ticket_info_layout}
use Rattle.cx_sealed.specs.Unsealing.{spelled_by}
use Rattle.cx_sealed.specs.declared.authorize_reply.AuthorizeReply.{AuthorizeReply}
use Rattle.cx_sealed.specs.declared.connection_secret.ConnectionSecret.{ConnectionSecret}
use Rattle.cx_sealed.specs.declared.rotating_reply.RotatingReply.{RotatingReply}
use Rattle.cx_sealed.specs.declared.service_ticket.ServiceTicket.{ServiceTicket}
use Rattle.cx_sealed.specs.declared.ticket_info.TicketInfo.{TicketInfo}
use Rattle.cx_steps.specs.Onto.{SomeOf}
use Rattle.cx_steps.specs.Premises.{HasSealed, HasSigned, IsLeakedKey, Seals, Signs}
use Rattle.cx_steps.specs.declared.seals.Logged.{Logged}
use Rattle.cx_steps.specs.declared.seals.SealEntry.{SealEntry}
use Rattle.cx_steps.specs.declared.seals.SealEntry.TheVariants as entry
use Rattle.cx_steps.specs.declared.seals.SealMark.{SealMark}
use Rattle.cx_laws_keys.proofs.keys.Lists.{some-of, some-with, all-map}
use Rattle.cx_laws_keys.proofs.keys.Uses.{Use, Secret, Generated, Login, Ticketed, Connected, AtDaemon, AtMonitor, Uses, IsConnected, Means, Grows, HasDrawn, HasSecret, session_use, whose, WholeRun, AreGenerated, IsSavedIn}
use Rattle.cx_sealed.specs.cx_rotate.specs.declared.generations.Generation.{Generation}

-- ---- what is said under a key

-- the journal has the ticket for this service that this one says: of the generation of this id, and with the blob that the key makes of the content.
-- What is read of it expires no later; at the same time, where that has a spelling, and with the same caps, where they have one
pub record HasTicket (entries : List Entry) (service : EntityType) (id : ℕ) (key content : List ℕ) (x : ServiceTicket) : Type 0 where
  pub ticket : Issued
  pub issued : Contains entries (journal.Issued ticket)
  pub service_is : ticket.service ≡ service
  pub entity : ticket.entity ≡ x.name
  pub gid : ticket.gid ≡ x.gid
  pub expires : x.expires ≤ ticket.expires
  pub exact : ticket.expires < 4294967296000000000 → x.expires ≡ ticket.expires
  pub caps : length ticket.caps < 2 ^ 32 → x.caps ≡ ticket.caps
  pub generation : ticket.generation ≡ id
  pub blob : ticket.blob ≡ enveloped key content

-- the generations of this reply are said to be those of the entity's own type, and are: their keys are for them, and they were saved so
pub record AreToldOf (us : Uses) (name : Name) (x : RotatingReply) : Type 0 where
  pub service_is : x.service ≡ name.kind
  pub generated : AreGenerated us x.service x.generations
  pub saved : AllByRecursion (IsSavedIn us.saved x.service) x.generations

-- the counter that stands at a place of a connection secret, of eight bytes
abbrev pub counter_at : List ℕ → ℕ → ℕ
counter_at b i = from_le_bytes w64 (slice_index b i ∷ slice_index b (i + 1) ∷ slice_index b (i + 2) ∷ slice_index b (i + 3)
    ∷ slice_index b (i + 4) ∷ slice_index b (i + 5) ∷ slice_index b (i + 6) ∷ slice_index b (i + 7) ∷ [])

-- a reply to an authorizer: its secret is that of a link of a daemon to this entity, tied to the number in the reply, the nonce plus one; its two
-- directions begin with the nonce of an acceptor, of which the highest bit is 0, and with that of a connector, and both count from 0 on
pub record HasReply (us : Uses) (name : Name) (x : AuthorizeReply) : Type 0 where
  pub acceptor : NodeName
  pub number : ℕ
  pub service : EntityType
  pub means : Means us (take 16 x.secret) (Connected acceptor number name (AtDaemon service x.nonce_plus_one))
  pub into : slice_index x.secret 16 < 128
  pub out : 128 ≤ slice_index x.secret 28
  pub counts_into : counter_at x.secret 20 ≡ 0
  pub counts_out : counter_at x.secret 32 ≡ 0

-- what a reply to an authorizer says, where this content is one: it is of a daemon of this type
abbrev pub RepliesFor : Uses → Name → EntityType → List ℕ → Type 0
RepliesFor us name service content = (x : AuthorizeReply) → spelled_by authorize_reply_layout.form content ≡ Some x → (h : HasReply us name x) × (h.service ≡ service)

-- the key is that of a link of the monitor to this entity, tied to the challenge of its proof
pub record HasLogin (us : Uses) (name : Name) (key : List ℕ) : Type 0 where
  pub number : ℕ
  pub challenge : ℕ
  pub means : Means us key (Connected node.Monitor number name (AtMonitor challenge))

pub login-connected : (us : Uses) (name : Name) (key : List ℕ) → HasLogin us name key → IsConnected us key name
login-connected us name key h = record { acceptor = node.Monitor; number = h.number; tie = AtMonitor h.challenge; means = h.means }

-- it is none
abbrev pub IsNoReply : List ℕ → Type 0
IsNoReply content = (x : AuthorizeReply) → spelled_by authorize_reply_layout.form content ≡ Some x → ⊥

-- what may be sealed under a key of this use, by what is read of it: an entity is told the session key of its own ticket for AUTH, and the
-- generations of its own type; under that session key those of its other tickets, and the secret of its link to the monitor, and no reply to an authorizer;
-- under the session key of any other ticket of it the secret of its link to a daemon, of the ticket's service; under a generation stand issued tickets of its service
abbrev pub Says : Uses → List Entry → List ℕ → Use → List ℕ → Type 0
Says us entries key (Secret name) content =
    ((x : TicketInfo) → spelled_by ticket_info_layout.form content ≡ Some x → Means us x.session (Login name))
    × ((x : RotatingReply) → spelled_by rotating_reply_layout.form content ≡ Some x → AreToldOf us name x)
Says us entries key (Generated service id) content =
    (x : ServiceTicket) → spelled_by service_ticket_layout.form content ≡ Some x → HasTicket entries service id key content x × Means us x.session (session_use x.name service)
Says us entries key (Login name) content =
    ((x : TicketInfo) → spelled_by ticket_info_layout.form content ≡ Some x → Means us x.session (Ticketed name x.service))
    × ((x : ConnectionSecret) → spelled_by connection_secret_layout.form content ≡ Some x → HasLogin us name (take 16 x.secret))
    × IsNoReply content
Says us entries key (Ticketed name service) content = RepliesFor us name service content
Says us entries key (Connected acceptor number name tie) content = Unit {0}

-- a node is a daemon of this type
abbrev pub IsOfKind : NodeName → EntityType → Type 0
IsOfKind (node.Entity name) service = name.kind ≡ service
IsOfKind node.Monitor service = ⊥

-- under an entity's secret only its own node signs; under the session key of its ticket for a service so do the daemons of that
abbrev pub SignedAt : NodeName → Use → Type 0
SignedAt at (Secret name) = at ≡ node.Entity name
SignedAt at (Ticketed name service) = (at ≡ node.Entity name) ⊎ IsOfKind at service
SignedAt at _ = Unit {0}

-- these bytes begin with the nonce of an acceptor, of which the highest bit is 0
abbrev pub IsOfAcceptor : List ℕ → Type 0
IsOfAcceptor [] = ⊥
IsOfAcceptor (b ∷ bytes) = b < 128

-- these begin with the nonce of a connector, of which it is 1
abbrev pub IsOfConnector : List ℕ → Type 0
IsOfConnector [] = ⊥
IsOfConnector (b ∷ bytes) = 128 ≤ b

-- a node is the acceptor, or that is the monitor
abbrev pub IsAcceptorOr : NodeName → NodeName → Type 0
IsAcceptorOr at acceptor = (at ≡ acceptor) ⊎ (acceptor ≡ node.Monitor)

-- under the key of a link only the entity's own node seals anything but what begins with the nonce of an acceptor; and that, where the acceptor isn't the monitor,
-- only the acceptor and that node
abbrev pub SealedAt : NodeName → Use → List ℕ → Type 0
SealedAt at (Connected acceptor number name tie) content = (at ≡ node.Entity name) ⊎ IsOfAcceptor content × IsAcceptorOr at acceptor
SealedAt at _ content = Unit {0}

-- what is sealed or signed is so under a key of some use, as that use allows
abbrev pub IsAllowed : Uses → List Entry → NodeName → SealEntry → Type 0
IsAllowed us entries at (entry.Sealed mark) = (u : Use) × Means us mark.key u × Says us entries mark.key u mark.content × SealedAt at u mark.content
IsAllowed us entries at (entry.Signed mark) = (u : Use) × Means us mark.key u × SignedAt at u
IsAllowed us entries at _ = Unit {0}

-- the key of a link to a daemon of a type has a daemon of that type as its acceptor
abbrev pub IsPlaced : Use → Type 0
IsPlaced (Connected acceptor number name (AtDaemon service tie)) = IsOfKind acceptor service
IsPlaced (Connected acceptor number name (AtMonitor challenge)) = Unit {0}
IsPlaced (Secret name) = Unit {0}
IsPlaced (Generated service id) = Unit {0}
IsPlaced (Login name) = Unit {0}
IsPlaced (Ticketed name service) = Unit {0}

-- a session key is that of no link
pub session-placed : (name : Name) (service : EntityType) → IsPlaced (session_use name service)
session-placed name Auth = tt
session-placed name Mon = tt
session-placed name Mds = tt
session-placed name Osd = tt
session-placed name Client = tt
session-placed name Mgr = tt

-- ---- what is known

-- each global id is one entity's
abbrev pub AreOwn : List Entry → Type 0
AreOwn entries = (s t : Issued) → Contains entries (journal.Issued s) → Contains entries (journal.Issued t) → s.gid ≡ t.gid → s.entity ≡ t.entity

-- of a log, the newest entries first, and a journal, the oldest first, where these clients leaked in the whole run: each key with a use was drawn
-- for whom its use says, an entity's secret as such; it has one use, and is leaked only where its entity is; all that is sealed and signed is allowed;
-- each global id is one entity's; and what is known to have been saved is what the run says
pub record Inv (run : WholeRun) (whole : List Logged) (us : Uses) (log : List Logged) (entries : List Entry) : Type 0 where
  pub held : (key : List ℕ) (u : Use) → Means us key u → HasDrawn log (whose u) key
  pub secrets : (key : List ℕ) (name : Name) → Means us key (Secret name) → HasSecret log name key
  pub one : (key : List ℕ) (u v : Use) → Means us key u → Means us key v → u ≡ v
  pub leaks : (key : List ℕ) (u : Use) → Means us key u → IsLeakedKey run.leaked whole key → (name : Name) × (whose u ≡ Some name) × Contains run.leaked name
  pub allowed : AllByRecursion (λ (at : Logged). IsAllowed us entries at.node at.entry) log
  pub own : AreOwn entries
  pub told : us.saved ≡ run.saved
  pub placed : (key : List ℕ) (u : Use) → Means us key u → IsPlaced u

-- ---- what is known stays so

pub record Within (J K : List Entry) : Type 0 where
  pub has : (e : Entry) → Contains J e → Contains K e

-- what was saved still was
abbrev pub KeepsSaved : Uses → Uses → Type 0
KeepsSaved us vs = (service : EntityType) (g : Generation) → IsSavedIn us.saved service g → IsSavedIn vs.saved service g

pub generated-grow : (us vs : Uses) (service : EntityType) (gs : List Generation) → Grows us vs → AreGenerated us service gs → AreGenerated vs service gs
generated-grow us vs service gs f h =
    all-map (λ (g : Generation). Means us g.key (Generated service g.id)) (λ (g : Generation). Means vs g.key (Generated service g.id))
    (λ g m. f.means g.key (Generated service g.id) m) gs h

told-grows : (us vs : Uses) (name : Name) (x : RotatingReply) → Grows us vs → KeepsSaved us vs → AreToldOf us name x → AreToldOf vs name x
told-grows us vs name x g k h = record {
  service_is = h.service_is;
  generated = generated-grow us vs x.service x.generations g h.generated;
  saved = all-map (IsSavedIn us.saved x.service) (IsSavedIn vs.saved x.service) (λ of was. k x.service of was) x.generations h.saved;
}

abbrev reply-grows : (us vs : Uses) (name : Name) (x : AuthorizeReply) → Grows us vs → HasReply us name x → HasReply vs name x
reply-grows us vs name x g h = record {
  acceptor = h.acceptor;
  number = h.number;
  service = h.service;
  means = g.means (take 16 x.secret) (Connected h.acceptor h.number name (AtDaemon h.service x.nonce_plus_one)) h.means;
  into = h.into;
  out = h.out;
  counts_into = h.counts_into;
  counts_out = h.counts_out;
}

pub login-grows : (us vs : Uses) (name : Name) (key : List ℕ) → Grows us vs → HasLogin us name key → HasLogin vs name key
login-grows us vs name key g h =
    record { number = h.number; challenge = h.challenge; means = g.means key (Connected node.Monitor h.number name (AtMonitor h.challenge)) h.means }

says-grows : (us vs : Uses) (J K : List Entry) → Grows us vs → KeepsSaved us vs → Within J K → (key : List ℕ) (u : Use) (content : List ℕ) → Says us J key u content → Says vs K key u content
says-grows us vs J K g k w key (Secret name) content s = (
  λ x is. g.means x.session (Login name) (s.0 x is),
  λ x is. told-grows us vs name x g k (s.1 x is),
)
says-grows us vs J K g k w key (Generated service id) content s = λ x is.
    let h : HasTicket J service id key content x = (s x is).0 in (
      record {
        ticket = h.ticket;
        issued = w.has (journal.Issued h.ticket) h.issued;
        service_is = h.service_is;
        entity = h.entity;
        gid = h.gid;
        expires = h.expires;
        exact = h.exact;
        caps = h.caps;
        generation = h.generation;
        blob = h.blob;
      },
      g.means x.session (session_use x.name service) (s x is).1,
    )
says-grows us vs J K g k w key (Login name) content s =
    (λ x is. g.means x.session (Ticketed name x.service) (s.0 x is), λ x is. login-grows us vs name (take 16 x.secret) g (s.1 x is), s.2)
says-grows us vs J K g k w key (Ticketed name service) content s = λ x is. (reply-grows us vs name x g (s x is).0, (s x is).1)
says-grows us vs J K g k w key (Connected acceptor number name tie) content s = tt

pub allowed-grows : (us vs : Uses) (J K : List Entry) → Grows us vs → KeepsSaved us vs → Within J K → (at : NodeName) (e : SealEntry) → IsAllowed us J at e → IsAllowed vs K at e
allowed-grows us vs J K g k w at (entry.Sealed mark) h = (h.0, g.means mark.key h.0 h.1, says-grows us vs J K g k w mark.key h.0 mark.content h.2, h.3)
allowed-grows us vs J K g k w at (entry.Signed mark) h = (h.0, g.means mark.key h.0 h.1, h.2)
allowed-grows us vs J K g k w at (entry.Opened mark) h = tt
allowed-grows us vs J K g k w at (entry.Checked mark) h = tt
allowed-grows us vs J K g k w at (entry.Drawn mark) h = tt

-- ---- what opens, and what is found equal

module _ (run : WholeRun) (whole : List Logged) (us : Uses) (log : List Logged) (J : List Entry) where
  -- what was sealed under a key says what the key's use allows
  pub opened_says : Inv run whole us log J → (mark : SealMark) → HasSealed log mark → (u : Use) → Means us mark.key u → Says us J mark.key u mark.content
  opened_says i mark sealed u h =
      some-of (λ (at : Logged). Seals mark at.entry) (λ (at : Logged). IsAllowed us J at.node at.entry) (Says us J mark.key u mark.content)
      (λ at s a. by_entry at.node at.entry s a) log sealed i.allowed
    where
      by_entry : (n : NodeName) (e : SealEntry) → Seals mark e → IsAllowed us J n e → Says us J mark.key u mark.content
      by_entry n (entry.Sealed other) same a =
          let means : Means us mark.key a.0 = subst (λ (k : List ℕ). Means us k a.0) same.key a.1 in
          let purpose : a.0 ≡ u = i.one mark.key a.0 u means h in
          let said : Says us J other.key u other.content = subst (λ (v : Use). Says us J other.key v other.content) purpose a.2 in
          subst (λ (k : List ℕ). Says us J k u mark.content) same.key (subst (λ (c : List ℕ). Says us J other.key u c) same.content said)
      by_entry n (entry.Signed other) same a = absurd same
      by_entry n (entry.Opened other) same a = absurd same
      by_entry n (entry.Checked other) same a = absurd same
      by_entry n (entry.Drawn other) same a = absurd same

  -- what was signed under an entity's secret, its own node signed
  pub signed_own : Inv run whole us log J → (mark : SealMark) (name : Name) → HasSigned log mark → Means us mark.key (Secret name)
      → SomeOf (λ (at : Logged). (at.node ≡ node.Entity name) × Signs mark at.entry) log
  signed_own i mark name signed h =
      some-with (λ (at : Logged). Signs mark at.entry) (λ (at : Logged). IsAllowed us J at.node at.entry) (λ (at : Logged). (at.node ≡ node.Entity name) × Signs mark at.entry)
      (λ at s a. (by_entry at.node at.entry s a, s)) log signed i.allowed
    where
      by_entry : (n : NodeName) (e : SealEntry) → Signs mark e → IsAllowed us J n e → n ≡ node.Entity name
      by_entry n (entry.Signed other) same a =
          let means : Means us mark.key a.0 = subst (λ (k : List ℕ). Means us k a.0) same.key a.1 in
          let purpose : a.0 ≡ Secret name = i.one mark.key a.0 (Secret name) means h in
          subst (λ (v : Use). SignedAt n v) purpose a.2
      by_entry n (entry.Sealed other) same a = absurd same
      by_entry n (entry.Opened other) same a = absurd same
      by_entry n (entry.Checked other) same a = absurd same
      by_entry n (entry.Drawn other) same a = absurd same

  -- what was sealed under the key of a link to an entity, and begins with the nonce of a connector, its own node sealed
  pub sealed_own : Inv run whole us log J → (mark : SealMark) (name : Name) → HasSealed log mark → IsConnected us mark.key name → IsOfConnector mark.content
      → SomeOf (λ (at : Logged). (at.node ≡ node.Entity name) × Seals mark at.entry) log
  sealed_own i mark name sealed h begins =
      some-with (λ (at : Logged). Seals mark at.entry) (λ (at : Logged). IsAllowed us J at.node at.entry) (λ (at : Logged). (at.node ≡ node.Entity name) × Seals mark at.entry)
      (λ at s a. (by_entry at.node at.entry s a, s)) log sealed i.allowed
    where
      not_both : (content : List ℕ) → IsOfConnector content → IsOfAcceptor content → ⊥
      not_both [] connector acceptor = connector
      not_both (b ∷ bytes) connector acceptor = omega arith

      by_place : (n : NodeName) → (n ≡ node.Entity name) ⊎ IsOfAcceptor mark.content × IsAcceptorOr n h.acceptor → n ≡ node.Entity name
      by_place n (inl own) = own
      by_place n (inr acceptor) = absurd (not_both mark.content begins acceptor.0)

      by_entry : (n : NodeName) (e : SealEntry) → Seals mark e → IsAllowed us J n e → n ≡ node.Entity name
      by_entry n (entry.Sealed other) same a =
          let means : Means us mark.key a.0 = subst (λ (k : List ℕ). Means us k a.0) same.key a.1 in
          let purpose : a.0 ≡ Connected h.acceptor h.number name h.tie = i.one mark.key a.0 (Connected h.acceptor h.number name h.tie) means h.means in
          let there : SealedAt n a.0 mark.content = subst (λ (c : List ℕ). SealedAt n a.0 c) same.content a.3 in
          by_place n (subst (λ (v : Use). SealedAt n v mark.content) purpose there)
      by_entry n (entry.Signed other) same a = absurd same
      by_entry n (entry.Opened other) same a = absurd same
      by_entry n (entry.Checked other) same a = absurd same
      by_entry n (entry.Drawn other) same a = absurd same
