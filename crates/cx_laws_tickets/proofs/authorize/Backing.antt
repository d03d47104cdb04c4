-- What is known of a run's keys gives each authority its ticket, and each session that is entered one that backs it.
use Rattle.std.proofs.Common.{Bool, true, false, cond, ◌≡◌, ◌⊎◌, ◌<◌, ◌≤◌, ◌^◌, ◌==◌, ℕ, List, [], ◌∷◌, length, inl, inr, refl, sym, ap, ◌∙◌, subst, arith, Some, None, eqb-true}
use Rattle.std.specs.Prelude.{Contains, find, ◌||◌}
use Rattle.std.specs.Option.{option_map}
use Rattle.cx_run.specs.cx_authorize.specs.Daemon.{Authority}
use Rattle.cx_base.specs.Names.{Name}
use Rattle.cx_base.specs.declared.kinds.EntityType.{EntityType}
use Rattle.cx_base.specs.declared.nodes.NodeName.{NodeName}
use Rattle.cx_journal.specs.Backed.{Backs}
use Rattle.cx_journal.specs.Backed.{HasTicket as IsBackedOne}
use Rattle.cx_journal.specs.KeepsKeys.{has_generation}
use Rattle.cx_journal.specs.declared.entries.Admitted.{Admitted}
use Rattle.cx_journal.specs.declared.entries.Entry.{Entry}
use Rattle.cx_journal.specs.declared.entries.Entry.TheVariants as journal
use Rattle.cx_journal.specs.declared.entries.Issued.{Issued}
use Rattle.cx_journal.specs.declared.premises.KeyKind.TheVariants as kind
use Rattle.cx_rotate.specs.declared.views.View.{View}
use Rattle.cx_laws_keys.specs.cx_rules.specs.Holdings.{MonClient}
use Rattle.cx_run.specs.cx_rules_session.specs.IncomingLinks.{IncomingStage}
use Rattle.cx_laws_keys.specs.cx_sealed.specs.declared.service_ticket.ServiceTicket.{ServiceTicket}
use Rattle.cx_laws_keys.specs.cx_steps.specs.Premises.{HasSealed, IsExcepted}
use Rattle.cx_laws_keys.specs.cx_steps.specs.declared.seals.Logged.{Logged}
use Rattle.cx_laws_keys.specs.cx_steps.specs.declared.seals.SealEntry.{SealEntry}
use Rattle.cx_laws_tickets.proofs.authorize.Opened.{ShowsTicket}
use Rattle.cx_laws_tickets.specs.authorize.Admission.{IncomingHas, IsAuthorizedAt, IsOwnedIn}
use Rattle.cx_laws_keys.proofs.keys.Known.{HasTicket, Inv, Says, Within, opened_says}
use Rattle.cx_laws_keys.proofs.keys.Premises.{AreGranted}
use Rattle.cx_laws_keys.proofs.keys.Uses.{Generated, Means, Uses, session_use, WholeRun, IsSavedIn}
use Rattle.cx_laws_keys.proofs.keys.Uses.{AreGenerated}
use Rattle.cx_laws_keys.proofs.login.Opens.{generation-free}
use Rattle.cx_laws_keys.specs.cx_login.specs.Opening.{generation_key}
use Rattle.cx_laws_keys.specs.cx_login.specs.Unlocking.{unlocked}
use Rattle.cx_laws_keys.specs.cx_sealed.specs.Records.{service_ticket_layout}
use Rattle.cx_rotate.specs.declared.generations.Generation.{Generation}

-- ---- the ticket of an authority

-- the journal has the ticket for this service that the authority holds, which was good at the reading at which that was judged, and of which the view
-- listed the generation
pub record HasBacking (J : List Entry) (service : EntityType) (authority : Authority) : Type 0 where
  pub ticket : Issued
  pub issued : Contains J (journal.Issued ticket)
  pub service_is : ticket.service ≡ service
  pub entity : ticket.entity ≡ authority.ticket.name
  pub gid : ticket.gid ≡ authority.ticket.gid
  pub caps : ticket.caps ≡ authority.ticket.caps
  pub live : authority.at < ticket.expires
  pub lists : has_generation authority.view.generations ticket.generation ≡ true

pub backing-grows : (J K : List Entry) (service : EntityType) (authority : Authority) → Within J K → HasBacking J service authority → HasBacking K service authority
backing-grows J K service authority w h = record {
  ticket = h.ticket;
  issued = w.has (journal.Issued h.ticket) h.issued;
  service_is = h.service_is;
  entity = h.entity;
  gid = h.gid;
  caps = h.caps;
  live = h.live;
  lists = h.lists;
}

-- what is so of each ticket of a run: its caps and its expiry can be written, and its blob opens under the key of the saved generation that it names
pub record IsGood (run : WholeRun) (t : Issued) : Type 0 where
  pub short : length t.caps < 2 ^ 32
  pub early : t.expires < 4294967296000000000
  pub opens : (g : Generation) → IsSavedIn run.saved t.service g → g.id ≡ t.generation
      → (unlocked service_ticket_layout.form kind.Service g.key t.blob).value ≡ None → ⊥

abbrev pub AreGood : WholeRun → List Entry → Type 0
AreGood run J = (t : Issued) → Contains J (journal.Issued t) → IsGood run t

-- so they are, where that is known of the run
abbrev pub AllGood : WholeRun → List Entry → Type 0
AllGood run J = run.good ≡ true → AreGood run J

-- the key of an id that is listed is for the generation of that id
listed-means : (us : Uses) (service : EntityType) (gs : List Generation) (id : ℕ) (key : List ℕ) → AreGenerated us service gs → generation_key gs id ≡ Some key
    → Means us key (Generated service id) × (has_generation gs id ≡ true)
listed-means us service [] id key h e = absurd cc
listed-means us service (g ∷ gs) id key h e = by_test (g.id == id) refl e (listed-means us service gs id key h.1)
  where
    by_test : (t : Bool) → (g.id == id) ≡ t → option_map (λ (x : Generation). x.key) (cond t (Some g) (find (λ (x : Generation). x.id == id) gs)) ≡ Some key
        → (generation_key gs id ≡ Some key → Means us key (Generated service id) × (has_generation gs id ≡ true))
        → Means us key (Generated service id) × ((t || has_generation gs id) ≡ true)
    by_test true is found rest =
        let same : g.key ≡ key = cc in
        (subst (λ (k : List ℕ). Means us k (Generated service id)) same (subst (λ (n : ℕ). Means us g.key (Generated service n)) (eqb-true g.id id is) h.0), refl)
    by_test false is found rest = rest found

module _ (run : WholeRun) (whole : List Logged) (n : NodeName) (line : ℕ) (us : Uses) (log : List Logged) (J : List Entry) where
  -- a ticket that opened first, by a view of generations of the daemon's own service, is one that was issued; and whose its session key is
  pub opened-issued : (service : EntityType) (view : View) (ticket : ServiceTicket) (seals : List SealEntry) → Inv run whole us log J
      → AreGenerated us service view.generations → AreGranted run.leaked whole n line log seals → (h : ShowsTicket view ticket seals)
      → HasTicket J service h.id h.key h.content ticket × Means us ticket.session (session_use ticket.name service)
  opened-issued service view ticket seals i generated g h =
      let means : Means us h.key (Generated service h.id) = (listed-means us service view.generations h.id h.key generated h.known).0 in
      let granted = subst (λ (es : List SealEntry). AreGranted run.leaked whole n line log es) h.opened g in
      by_owed means granted.0.owes
    where
      by_owed : Means us h.key (Generated service h.id)
          → IsExcepted run.leaked whole n h.key ⊎ HasSealed log (record { key = h.key; kind = kind.Service; content = h.content })
          → HasTicket J service h.id h.key h.content ticket × Means us ticket.session (session_use ticket.name service)
      by_owed means (inl excepted) = absurd (generation-free run whole n line us log J h.key service h.id i means excepted)
      by_owed means (inr sealed) =
          let says : Says us J h.key (Generated service h.id) h.content =
          opened_says run whole us log J i (record { key = h.key; kind = kind.Service; content = h.content }) sealed (Generated service h.id) means in
          says ticket h.says

  -- so each authority that a link gets has its ticket
  pub authorized-backed : (daemon : MonClient) (service : EntityType) (number reading : ℕ) (stage : IncomingStage) (authority : Authority) (es : List Entry) (seals : List SealEntry)
      → Inv run whole us log J → AreGenerated us service daemon.view.generations → AreGood run J → AreGranted run.leaked whole n line log seals
      → IsAuthorizedAt daemon number reading stage authority es seals → HasBacking J service authority
  authorized-backed daemon service number reading stage authority es seals i generated good g h =
      let same : AreGenerated us service authority.view.generations = subst (λ (v : View). AreGenerated us service v.generations) (sym h.view) generated in
      let shown = h.shown in
      let o = opened-issued service authority.view authority.ticket seals i same g
      (record { id = shown.id; key = shown.key; known = shown.known; content = shown.content; says = shown.says; rest = _; opened = shown.opened }) in
      let t : HasTicket J service shown.id shown.key shown.content authority.ticket = o.0 in
      let listed : has_generation authority.view.generations shown.id ≡ true = (listed-means us service authority.view.generations shown.id shown.key same shown.known).1 in
      let at : authority.at ≡ reading = h.at in
      let live : reading < authority.ticket.expires = shown.live in
      let later : authority.ticket.expires ≤ t.ticket.expires = t.expires in
      record {
        ticket = t.ticket;
        issued = t.issued;
        service_is = t.service_is;
        entity = t.entity;
        gid = t.gid;
        caps = sym (t.caps (good t.ticket t.issued).short);
        live = omega arith;
        lists = subst (λ (id : ℕ). has_generation authority.view.generations id ≡ true) (sym t.generation) listed;
      }

-- ---- the sessions

-- a session that is entered is backed by a ticket, where the link's authority has one for the daemon's service
pub session-backed : (J : List Entry) (daemon : MonClient) (stage : IncomingStage) (session : Admitted)
    → ((authority : Authority) → IncomingHas stage authority → HasBacking J daemon.name.kind authority) → IsOwnedIn daemon stage session → IsBackedOne J session
session-backed J daemon stage session has h =
    let holds : IncomingHas stage h.authority = subst (λ (s : IncomingStage). IncomingHas s h.authority) (sym h.stage_is) refl in
    let b : HasBacking J daemon.name.kind h.authority = has h.authority holds in
    let live : h.authority.at < b.ticket.expires = b.live in
    let at : session.at ≡ h.authority.at = h.at in
    let backs : Backs b.ticket session = record {
      entity = b.entity ∙ sym h.entity;
      gid = b.gid ∙ sym h.gid;
      caps = b.caps ∙ sym h.caps;
      service = b.service_is ∙ sym (ap (λ (m : Name). m.kind) h.daemon_is);
      live = omega arith;
    } in
    (b.ticket, b.issued, backs)
