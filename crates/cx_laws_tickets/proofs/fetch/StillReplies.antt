-- A reply on an open link of the monitor seals nothing under the key of a login but its frame: what it tells is sealed under an entity's own secret, the session
-- key of its ticket for AUTH, or the generation of a service.
use Rattle.std.proofs.Common.{◌≡◌, ℕ, Bool, true, false, List, [], ◌∷◌, ◌++◌, Option, Some, None, Result, Ok, Err, nat_lt, refl, ap, ◌∙◌, subst}
use Rattle.std.proofs.lemmas.Slice.Eq.{bytes_eq-Decides}
use Rattle.std.specs.Prelude.{◌&&◌, if◌then◌else◌}
use Rattle.std.specs.List.{AllByRecursion, cons_option, flat_map}
use Rattle.std.specs.Str.{bytes_eq}
use Rattle.cx_base.specs.declared.kinds.EntityType.{EntityType}
use Rattle.cx_base.specs.declared.kinds.EntityType.TheVariants.{Mon, Mds, Osd, Client, Mgr, Auth}
use Rattle.cx_base.specs.declared.nodes.NodeName.TheVariants as node
use Rattle.cx_enc.specs.declared.keys.Key.{Key}
use Rattle.cx_journal.specs.declared.faults.LoginFault.{LoginFault}
use Rattle.cx_laws_tickets.specs.cx_keyserver.specs.Issuing.{current_at}
use Rattle.cx_laws_tickets.specs.cx_keyserver.specs.Servers.{Server, generations_of, secrets_of}
use Rattle.cx_laws_tickets.specs.cx_keyserver.specs.declared.refusals.NotADaemon.{NotADaemon}
use Rattle.cx_laws_tickets.specs.cx_keyserver.specs.declared.tickets.Ticket.{Ticket}
use Rattle.cx_laws_tickets.specs.cx_laws_keys.proofs.keys.Uses.{AreGenerated, AtMonitor, Connected, Generated, Login, Means, Secret, Ticketed, Use, Uses}
use Rattle.cx_laws_keys.proofs.series.Contents.{content_of, content_where, contents_by}
use Rattle.cx_rotate.specs.declared.generations.Generation.{Generation}
use Rattle.cx_laws_keys.specs.cx_rules.specs.Replies.{answers_by, asking_of, issues_tickets, on_rotating, on_tickets, others_for, tells_generations, tells_tickets}
use Rattle.cx_laws_keys.specs.cx_rules.specs.Tickets.{blob_sealed, info_key, issued_for, ticket_seals}
use Rattle.cx_laws_keys.specs.cx_rules.specs.Verdicts.{Occasion, key_of}
use Rattle.cx_laws_keys.specs.cx_rules.specs.declared.responses.Bearer.{Bearer}
use Rattle.cx_laws_keys.specs.cx_rules.specs.declared.responses.ReplyMade.{ReplyMade}
use Rattle.cx_laws_keys.specs.cx_rules.specs.declared.responses.Response.{Response}
use Rattle.cx_laws_keys.specs.cx_rules.specs.declared.responses.Response.TheVariants as response
use Rattle.cx_steps.specs.declared.seals.SealEntry.{SealEntry}
use Rattle.cx_steps.specs.declared.seals.SealEntry.TheVariants as entry
use Rattle.cx_steps.specs.declared.seals.SealMark.{SealMark}
use Rattle.cx_wire.specs.declared.bodies.Request.{Request}
use Rattle.cx_wire.specs.declared.bodies.Request.TheVariants as asked
use Rattle.cx_laws_tickets.proofs.fetch.MonitorMoves.{IsAnyLogin}
use Rattle.cx_laws_tickets.proofs.fetch.RowWords.{AreStill}

-- a use of no link
abbrev pub IsOfNoLink : Use → Type 0
IsOfNoLink (Connected acceptor number name tie) = ⊥
IsOfNoLink (Secret name) = Unit {0}
IsOfNoLink (Generated service id) = Unit {0}
IsOfNoLink (Login name) = Unit {0}
IsOfNoLink (Ticketed name service) = Unit {0}

-- what is sealed, is so under a key of such a use
abbrev pub IsSealedApart : Uses → SealEntry → Type 0
IsSealedApart us (entry.Sealed mark) = (u : Use) × Means us mark.key u × IsOfNoLink u
IsSealedApart us (entry.Signed mark) = Unit {0}
IsSealedApart us (entry.Opened mark) = Unit {0}
IsSealedApart us (entry.Checked mark) = Unit {0}
IsSealedApart us (entry.Drawn mark) = Unit {0}

module _ (us : Uses) (one : (k : List ℕ) (u v : Use) → Means us k u → Means us k v → u ≡ v) where
  mark-apart : (key : List ℕ) (test : List ℕ → Bool) (mark : SealMark) → IsAnyLogin us key → IsSealedApart us (entry.Sealed mark) → content_of key test (entry.Sealed mark) ≡ None
  mark-apart key test mark (name, challenge, is) (u, means, apart) = by_test (bytes_eq mark.key key) refl
    where
      login : Use
      login = Connected node.Monitor is.number name (AtMonitor challenge)

      by_test : (here : Bool) → bytes_eq mark.key key ≡ here → content_where (here && test mark.content) mark.content ≡ None
      by_test false e = refl
      by_test true e =
          let same : u ≡ login = one key u login (subst (λ (k : List ℕ). Means us k u) ((bytes_eq-Decides mark.key key).0 e) means) is.means in
          absurd (subst IsOfNoLink same apart)

  -- so nothing is sealed under the key of a login
  pub apart-still : (es : List SealEntry) → AllByRecursion (IsSealedApart us) es → AreStill (IsAnyLogin us) es
  apart-still [] h = λ key test p. refl
  apart-still (entry.Sealed mark ∷ es) h = λ key test p.
      ap (λ (o : Option (List ℕ)). cons_option o (contents_by key test es)) (mark-apart key test mark p h.0) ∙ apart-still es h.1 key test p
  apart-still (entry.Signed mark ∷ es) h = apart-still es h.1
  apart-still (entry.Opened mark ∷ es) h = apart-still es h.1
  apart-still (entry.Checked mark ∷ es) h = apart-still es h.1
  apart-still (entry.Drawn mark ∷ es) h = apart-still es h.1

-- ---- what a reply tells

module _ (us : Uses) (at : Occasion) (server : Server) (bearer : Bearer) (drawn : List SealEntry) (generated : (service : EntityType) → AreGenerated us service (generations_of server.state service))
    (secret : (own : Key) → key_of server bearer.name ≡ Some own → Means us own.secret (Secret bearer.name)) (session : Means us bearer.session (Login bearer.name)) where
  abbrev Apart : List SealEntry → Type 0
  Apart es = AllByRecursion (IsSealedApart us) es

  abbrev IsCurrent : EntityType → Option Generation → Type 0
  IsCurrent service None = Unit {0}
  IsCurrent service (Some g) = Means us g.key (Generated service g.id)

  current-is : (service : EntityType) (now : ℕ) (gs : List Generation) → AreGenerated us service gs → IsCurrent service (current_at now gs)
  current-is service now [] h = tt
  current-is service now (a ∷ []) h = tt
  current-is service now (a ∷ b ∷ []) h = tt
  current-is service now (a ∷ b ∷ c ∷ []) h = by_test (nat_lt now b.expires)
    where
      by_test : (t : Bool) → IsCurrent service (if t then Some b else None)
      by_test true = h.1.0
      by_test false = tt
  current-is service now (a ∷ b ∷ c ∷ d ∷ gs) h = tt

  apart-append : (xs ys : List SealEntry) → Apart xs → Apart ys → Apart (xs ++ ys)
  apart-append [] ys h g = g
  apart-append (x ∷ xs) ys h g = (h.0, apart-append xs ys h.1 g)

  -- a ticket
  info-use : (own : List ℕ) → Means us own (Secret bearer.name) → (service : EntityType) → (u : Use) × Means us (info_key own bearer.session service) u × IsOfNoLink u
  info-use own means Auth = (Secret bearer.name, means, tt)
  info-use own means Mon = (Login bearer.name, session, tt)
  info-use own means Mds = (Login bearer.name, session, tt)
  info-use own means Osd = (Login bearer.name, session, tt)
  info-use own means Client = (Login bearer.name, session, tt)
  info-use own means Mgr = (Login bearer.name, session, tt)

  blob-apart : (t : Ticket) (current : Option Generation) → IsCurrent t.service current → Apart (blob_sealed current t)
  blob-apart t None h = tt
  blob-apart t (Some g) h = ((Generated t.service g.id, h, tt), tt)

  ticket-apart : (own : List ℕ) → Means us own (Secret bearer.name) → (t : Ticket) → Apart (ticket_seals server own bearer.session t)
  ticket-apart own means t =
      let current : Option Generation = current_at t.created (generations_of server.state t.service) in (
        tt,
        apart-append (blob_sealed current t) _ (blob-apart t current (current-is t.service t.created (generations_of server.state t.service) (generated t.service))) (info-use own means t.service, tt),
      )

  pub tickets-apart : (own : List ℕ) → Means us own (Secret bearer.name) → (ts : List Ticket) → Apart (flat_map (ticket_seals server own bearer.session) ts)
  tickets-apart own means [] = tt
  tickets-apart own means (t ∷ ts) =
      apart-append (ticket_seals server own bearer.session t) (flat_map (ticket_seals server own bearer.session) ts) (ticket-apart own means t) (tickets-apart own means ts)

  -- what is told by a response
  abbrev TellsApart : Response → Type 0
  TellsApart (response.Refuses why seals) = Unit {0}
  TellsApart (response.Replies made) = Apart made.sealed

  tickets-response : (keys : ℕ) → TellsApart (on_tickets at server bearer drawn keys).response
  tickets-response keys = by_key (key_of server bearer.name) refl
    where
      by_tickets : (own : Key) → Means us own.secret (Secret bearer.name) → (r : Result (List Ticket) LoginFault) → TellsApart (tells_tickets at server bearer drawn own.secret r).response
      by_tickets own means (Err why) = tt
      by_tickets own means (Ok tickets) = tickets-apart own.secret means tickets

      by_key : (key : Option Key) → key_of server bearer.name ≡ key → TellsApart (issues_tickets at server bearer drawn keys key).response
      by_key None is = tt
      by_key (Some own) is = by_tickets own (secret own is) (issued_for server (asking_of at bearer) (others_for keys))

  rotating-response : TellsApart (on_rotating at server bearer drawn).response
  rotating-response = by_both (key_of server bearer.name) (secrets_of server bearer.name) refl
    where
      by_both : (key : Option Key) (gens : Result (List Generation) NotADaemon) → key_of server bearer.name ≡ key → TellsApart (tells_generations at server bearer drawn key gens).response
      by_both (Some own) (Ok gs) is = ((Secret bearer.name, secret own is, tt), tt)
      by_both (Some own) (Err why) is = tt
      by_both None (Ok gs) is = tt
      by_both None (Err why) is = tt

  response-apart : (request : Option Request) → TellsApart (answers_by at server bearer drawn request).response
  response-apart (Some (asked.Tickets keys)) = tickets-response keys
  response-apart (Some asked.Rotating) = rotating-response
  response-apart None = tt

  -- so a reply seals nothing under the key of a login
  pub reply-still : ((k : List ℕ) (u v : Use) → Means us k u → Means us k v → u ≡ v) → (request : Option Request) (made : ReplyMade)
      → (answers_by at server bearer drawn request).response ≡ response.Replies made → AreStill (IsAnyLogin us) made.sealed
  reply-still one request made same = apart-still us one made.sealed (subst TellsApart same (response-apart request))
