-- Who logged in: the proof behind which a ticket is issued, or which opened the link on which it is, was signed by the entity's own node, where the
-- entity isn't leaked.
use Rattle.std.proofs.Common.{◌≡◌, ◌⊎◌, ◌∙◌, ℕ, List, [], ◌∷◌, ◌++◌, map, Option, Some, ap, inl, inr, refl, sym, subst}
use Rattle.std.specs.Prelude.{Contains}
use Rattle.cx_base.specs.Names.{Name}
use Rattle.cx_base.specs.declared.nodes.NodeName.{NodeName}
use Rattle.cx_base.specs.declared.nodes.NodeName.TheVariants as node
use Rattle.cx_journal.specs.declared.entries.Entry.{Entry}
use Rattle.cx_journal.specs.declared.entries.Issued.{Issued}
use Rattle.cx_laws_links.specs.cx_laws_tickets.specs.cx_rules.specs.Inputs.{Turn}
use Rattle.cx_laws_links.specs.cx_laws_tickets.specs.cx_rules.specs.Judged.{LogsDraw}
use Rattle.cx_laws_links.specs.cx_laws_tickets.specs.cx_rules.specs.Links.{Link, link_of}
use Rattle.cx_laws_links.specs.cx_laws_tickets.specs.cx_rules.specs.Monitor.{MonitorStage, Offered}
use Rattle.cx_laws_links.specs.cx_laws_tickets.specs.cx_rules.specs.Secured.{Keys}
use Rattle.cx_laws_links.specs.cx_laws_tickets.specs.cx_run.specs.Happenings.{Entered, Happening, Nodes, Stepped, seals_from, steps}
use Rattle.cx_laws_links.specs.cx_laws_tickets.specs.cx_run.specs.Opening.{Setup, leaked_of, leaks_entered, nodes_of, Leak}
use Rattle.cx_laws_links.specs.cx_laws_tickets.specs.cx_run.specs.Points.{Before, EachPoint, Point, Since, entered_until, log_since, logged_until, onto, points, points_onto, seals_at}
use Rattle.cx_steps.specs.Onto.{EachOnto, SomeOf}
use Rattle.cx_steps.specs.Premises.{HasSealed, HasSigned, IsExcepted, IsFresh, IsSound, Owes, Seals, Signs}
use Rattle.cx_steps.specs.declared.seals.DrawMark.TheVariants as draw
use Rattle.cx_steps.specs.declared.seals.Logged.{Logged}
use Rattle.cx_steps.specs.declared.seals.SealEntry.{SealEntry}
use Rattle.cx_steps.specs.declared.seals.SealEntry.TheVariants as seal
use Rattle.cx_steps.specs.declared.seals.SealMark.{SealMark}
use Rattle.cx_laws_links.specs.cx_laws_tickets.specs.cx_laws_keys.proofs.keys.Journal.{entered}
use Rattle.cx_laws_links.specs.cx_laws_tickets.specs.cx_laws_keys.proofs.keys.Known.{Inv, IsOfConnector, login-connected, sealed_own, signed_own}
use Rattle.cx_laws_links.specs.cx_laws_tickets.specs.cx_laws_keys.proofs.keys.Premises.{AreGranted, IsGranted, behind, granted-step, logged}
use Rattle.cx_laws_links.specs.cx_laws_tickets.specs.cx_laws_keys.proofs.keys.Uses.{Connected, IsConnected, Means, Secret, Uses, WholeRun}
use Rattle.cx_laws_links.specs.cx_laws_tickets.specs.cx_laws_keys.proofs.login.Facts.{BearerOk, OfferOk, StageOk}
use Rattle.cx_laws_links.specs.cx_laws_tickets.specs.cx_laws_keys.proofs.login.Hearing.{HearsPart, heard-begins, part_heard}
use Rattle.cx_laws_links.specs.cx_laws_tickets.specs.cx_laws_keys.proofs.login.MonitorRows.{monitor_says}
use Rattle.cx_laws_links.specs.cx_laws_tickets.specs.cx_laws_keys.proofs.login.MonitorStep.{MonitorOk}
use Rattle.cx_laws_links.specs.cx_laws_tickets.specs.cx_laws_keys.proofs.login.Rows.{LinkOk, found-link}
use Rattle.cx_laws_run.proofs.run.Asked.{Hears, IsHeardFor, all-heard}
use Rattle.cx_laws_run.proofs.run.Events.{NodesOk, entered-append, event-after, AllOccur, good-behind}
use Rattle.cx_laws_run.proofs.run.Opening.{Begins, begins}
use Rattle.cx_laws_run.specs.run.Logins.{ChecksOn, IsRenewal, LogIn, LogsIn, Offers, OwnFrame, OwnLogin, Proves, ProvesOnce, UncheckedSince, proof_of}
use Rattle.cx_laws_links.specs.cx_laws_tickets.proofs.fetch.OwnDraws.{AreLogged, DrawsNew, logged-more, new-here}
use Rattle.cx_laws_links.specs.cx_laws_tickets.proofs.authorize.Backing.{AllGood}
use Rattle.cx_base.specs.declared.kinds.EntityType.TheVariants.{Client}
use Rattle.std.specs.List.{AllByRecursion}

-- of each proof that is found equal at this point, of an entity that isn't leaked: its own node signed it before
abbrev SignedOwn : Setup → List Point → Point → Type 0
SignedOwn setup older p = (number : ℕ) (name : Name) → (proves : Proves setup number name older p) → (Contains (leaked_of setup) name → ⊥)
    → SomeOf (λ (at : Logged). (at.node ≡ node.Entity name) × Signs (proof_of proves.offered.offer proves.client_challenge) at.entry) (logged_until setup older)

-- of each part that opens first at this point, where it came on the link of a renewal, of an entity that isn't leaked: its own node sealed it before
abbrev SealedOwn : Setup → List Point → Point → Type 0
SealedOwn setup older p = (t : Issued) (renewal : IsRenewal setup older p t) → HearsPart renewal.secured.keys (seals_at p) → (Contains (leaked_of setup) t.entity → ⊥)
    → OwnFrame setup t.entity older p

abbrev Owned : Setup → List Point → Point → Type 0
Owned setup older p = SignedOwn setup older p × SealedOwn setup older p

-- ---- an event

module _ (run : WholeRun) (setup : Setup) (same : run.leaked ≡ leaked_of setup) (whole : List Logged) (us : Uses) (J : List Entry) (past : List Point) (nodes : Nodes) (h : Happening) where
  abbrev log : List Logged
  log = logged_until setup past

  -- a proof that was found equal under the secret of an entity that isn't leaked was signed by its own node
  signed-by : (offered : Offered) (client : ℕ) → Inv run whole us log J → Means us offered.offer.secret (Secret offered.offer.name)
      → Owes run.leaked whole h.node log (seal.Checked (proof_of offered.offer client)) → (Contains run.leaked offered.offer.name → ⊥)
      → SomeOf (λ (at : Logged). (at.node ≡ node.Entity offered.offer.name) × Signs (proof_of offered.offer client) at.entry) log
  signed-by offered client i means owed unleaked = by_owed owed
    where
      name_is : (a b : Name) → Some a ≡ Some b → a ≡ b
      name_is a b e = cc

      by_owed : IsExcepted run.leaked whole h.node offered.offer.secret ⊎ HasSigned log (proof_of offered.offer client)
          → SomeOf (λ (at : Logged). (at.node ≡ node.Entity offered.offer.name) × Signs (proof_of offered.offer client) at.entry) log
      by_owed (inl excepted) =
          let leak = i.leaks offered.offer.secret (Secret offered.offer.name) means excepted.leak in
          absurd (unleaked (subst (λ (m : Name). Contains run.leaked m) (sym (name_is offered.offer.name leak.0 leak.1)) leak.2))
      by_owed (inr signed) = signed_own run whole us log J i (proof_of offered.offer client) offered.offer.name signed means

  -- a part that opened under the key of a link to an entity that isn't leaked, with the nonce of the one that connects, was sealed by its own node
  pub sealed-by : (keys : Keys) (plain : List ℕ) (name : Name) → Inv run whole us log J → IsConnected us keys.key name → IsOfConnector keys.into.fixed
      → Owes run.leaked whole h.node log (seal.Opened (part_heard keys plain)) → (Contains run.leaked name → ⊥)
      → SomeOf (λ (at : Logged). (at.node ≡ node.Entity name) × Seals (part_heard keys plain) at.entry) log
  sealed-by keys plain name i connected begins owed unleaked = by_owed owed
    where
      name_is : (a b : Name) → Some a ≡ Some b → a ≡ b
      name_is a b e = cc

      by_owed : IsExcepted run.leaked whole h.node keys.key ⊎ HasSealed log (part_heard keys plain)
          → SomeOf (λ (at : Logged). (at.node ≡ node.Entity name) × Seals (part_heard keys plain) at.entry) log
      by_owed (inl excepted) =
          let leak = i.leaks keys.key (Connected connected.acceptor connected.number name connected.tie) connected.means excepted.leak in
          absurd (unleaked (subst (λ (m : Name). Contains run.leaked m) (sym (name_is name leak.0 leak.1)) leak.2))
      by_owed (inr sealed) = sealed_own run whole us log J i (part_heard keys plain) name sealed connected (heard-begins keys plain begins)

  -- what is known of the stage of a link that is found
  at-link : (ok : MonitorOk us J nodes.monitor) (number : ℕ) (link : Link MonitorStage) → link_of number nodes.monitor.links ≡ Some link → StageOk ok.owner us link.stage
  at-link ok number link found =
      let says = monitor_says nodes.monitor.own.saved_before ok.owner in
      subst (λ (l : Option (Link MonitorStage)). LinkOk says us l) found (found-link says us number nodes.monitor.links ok.node_ok.links)

  event-sealed : Inv run whole us log J → NodesOk run nodes us J → AreGranted run.leaked whole h.node h.line log (steps nodes h).out.seals
      → SealedOwn setup past (record { nodes = nodes; happening = h })
  event-sealed i ok g t renewal heard unleaked =
      let keys : Keys = renewal.secured.keys in
      let name : Name = renewal.bearer.name in
      let mark : SealMark = part_heard keys heard.plain in
      let bearer : BearerOk ok.monitor.owner us keys renewal.bearer =
      subst (λ (s : MonitorStage). StageOk ok.monitor.owner us s) renewal.stage (at-link ok.monitor renewal.number renewal.link renewal.found) in
      let granted : AreGranted run.leaked whole h.node h.line log (seal.Opened mark ∷ heard.rest) =
      subst (λ (es : List SealEntry). AreGranted run.leaked whole h.node h.line log es) heard.opened g in
      let own : Contains run.leaked name → ⊥ =
      λ has. unleaked (subst (λ (names : List Name). Contains names t.entity) same (subst (λ (n : Name). Contains run.leaked n) (sym renewal.named) has)) in
      subst (λ (n : Name). OwnFrame setup n past (record { nodes = nodes; happening = h })) (sym renewal.named)
      (mark, heard.rest, heard.opened, refl, sealed-by keys heard.plain name i (login-connected us name keys.key bearer.login) bearer.into granted.0.owes own)

  event-signed : Inv run whole us log J → NodesOk run nodes us J → AreGranted run.leaked whole h.node h.line log (steps nodes h).out.seals
      → SignedOwn setup past (record { nodes = nodes; happening = h })
  event-signed i ok g number name p unleaked =
      let offered : Offered = p.offered in
      let at_link : StageOk ok.monitor.owner us p.link.stage = at-link ok.monitor number p.link p.found in
      let offer : OfferOk us offered.offer = subst (λ (s : MonitorStage). StageOk ok.monitor.owner us s) p.stage at_link in
      let granted : AreGranted run.leaked whole h.node h.line log (seal.Checked (proof_of offered.offer p.client_challenge) ∷ p.rest) =
      subst (λ (es : List SealEntry). AreGranted run.leaked whole h.node h.line log es) p.checked g in
      let own : Contains run.leaked offered.offer.name → ⊥ =
      λ has. unleaked (subst (λ (names : List Name). Contains names name) same (subst (λ (n : Name). Contains run.leaked n) p.named has)) in
      subst (λ (n : Name). SomeOf (λ (at : Logged). (at.node ≡ node.Entity n) × Signs (proof_of offered.offer p.client_challenge) at.entry) log) p.named
      (signed-by offered p.client_challenge i offer.secret granted.0.owes own)

-- ---- every list of events

behind-onto : (n : NodeName) (line : ℕ) (es : List SealEntry) (earlier : List Logged) → behind n line es earlier ≡ onto (map (λ (e : SealEntry). logged n line e) es) earlier
behind-onto n line [] earlier = refl
behind-onto n line (e ∷ es) earlier = behind-onto n line es (logged n line e ∷ earlier)

-- where it follows at each point from what is known of keys, log, journal and nodes, it is so at all points
all-points : (run : WholeRun) (setup : Setup) (whole : List Logged) (Q : List Point → Point → Type 0)
    → ((past : List Point) (nodes : Nodes) (h : Happening) (us : Uses) (J : List Entry) → J ≡ entered_until setup past → Inv run whole us (logged_until setup past) J
    → NodesOk run nodes us J → AllGood run J → AreGranted run.leaked whole h.node h.line (logged_until setup past) (steps nodes h).out.seals → Q past (record { nodes = nodes; happening = h }))
    → (hs : List Happening) (past : List Point) (nodes : Nodes) (us : Uses) (J : List Entry) → J ≡ entered_until setup past → Inv run whole us (logged_until setup past) J
    → NodesOk run nodes us J → AllGood run J → AllOccur run nodes hs → EachOnto (IsGranted run.leaked whole) (logged_until setup past) (seals_from nodes hs) → EachPoint Q past
    → EachPoint Q (points_onto past nodes hs)
all-points run setup whole Q here [] past nodes us J told i ok good m g each = each
all-points run setup whole Q here (h ∷ hs) past nodes us J told i ok good m g each =
    let log : List Logged = logged_until setup past in
    let p : Point = record { nodes = nodes; happening = h } in
    let s : Stepped = steps nodes h in
    let gs = granted-step run.leaked whole h.node h.line log s.out.seals (seals_from s.nodes hs) g in
    let a = event-after run whole us log J nodes h i ok good m.0 gs.0 in
    let same : behind h.node h.line s.out.seals log ≡ logged_until setup (p ∷ past) = behind-onto h.node h.line s.out.seals log in
    let later : Inv run whole a.uses (logged_until setup (p ∷ past)) (entered J s.out.entries) = subst (λ (l : List Logged). Inv run whole a.uses l (entered J s.out.entries)) same a.inv in
    let rest : EachOnto (IsGranted run.leaked whole) (logged_until setup (p ∷ past)) (seals_from s.nodes hs) = subst (λ (l : List Logged). EachOnto (IsGranted run.leaked whole) l (seals_from s.nodes hs)) same gs.1 in
    let more : entered J s.out.entries ≡ entered_until setup (p ∷ past) = entered-append J s.out.entries ∙ ap (λ (l : List Entry). l ++ s.out.entries) told in
    all-points run setup whole Q here hs (p ∷ past) s.nodes a.uses (entered J s.out.entries) more later a.good (good-behind run s.nodes a.uses J s.out.entries a.good good m.0.good) m.1 rest
    (here past nodes h us J told i ok good gs.0, each)

-- so of a run that is sound and fresh
pub run-points : (run : WholeRun) (setup : Setup) (hs : List Happening) → run.leaked ≡ leaked_of setup → AllByRecursion (λ (l : Leak). l.client.kind ≡ Client) setup.leaks
    → AllOccur run (nodes_of setup) hs → IsSound (leaked_of setup) (log_since setup hs) → IsFresh (log_since setup hs) → (Q : List Point → Point → Type 0)
    → ((past : List Point) (nodes : Nodes) (h : Happening) (us : Uses) (J : List Entry) → J ≡ entered_until setup past → Inv run (log_since setup hs) us (logged_until setup past) J
    → NodesOk run nodes us J → AllGood run J → AreGranted run.leaked (log_since setup hs) h.node h.line (logged_until setup past) (steps nodes h).out.seals
    → Q past (record { nodes = nodes; happening = h }))
    → EachPoint Q (points setup hs)
run-points run setup hs same clients occur sound fresh Q here =
    let leaks : List Entry = map (λ (x : Entered). x.entry) (leaks_entered setup) in
    let b : Begins run (log_since setup hs) setup hs = begins run setup hs same clients sound fresh in
    all-points run setup (log_since setup hs) Q here hs [] (nodes_of setup) b.uses (entered [] leaks) (entered-append [] leaks) b.inv b.nodes (λ known t has. absurd (b.none t has)) occur b.granted tt

-- ---- each ticket

-- where a proof was found equal since a link opened, its entity's own node signed it
since-own : (setup : Setup) (number : ℕ) (name : Name) (past : List Point) → (Contains (leaked_of setup) name → ⊥) → EachPoint (Owned setup) past
    → Since node.Monitor number (Proves setup number name) past → Since node.Monitor number (OwnLogin setup number name) past
since-own setup number name [] unleaked each none = absurd none
since-own setup number name (p ∷ older) unleaked each (inl proves) = inl (proves, each.0.0 number name proves unleaked)
since-own setup number name (p ∷ older) unleaked each (inr (unopened, before)) = inr (unopened, since-own setup number name older unleaked each.1 before)

logs-in : (setup : Setup) (older : List Point) (p : Point) → Hears setup older p → Owned setup older p → EachPoint (Owned setup) older → LogsIn setup older p
logs-in setup older p hears own each t has unleaked = by_heard (hears t has)
  where
    by_heard : IsHeardFor setup older p t
        → ((number : ℕ) × OwnLogin setup number t.entity older p)
        ⊎ ((renewal : IsRenewal setup older p t) × Since node.Monitor renewal.number (OwnLogin setup renewal.number t.entity) older × OwnFrame setup t.entity older p)
    by_heard (inl (number, proves)) = inl (number, (proves, own.0 number t.entity proves unleaked))
    by_heard (inr (renewal, heard)) = inr (renewal, since-own setup renewal.number t.entity older unleaked each renewal.login, own.1 t renewal heard unleaked)

each-logs-in : (setup : Setup) (past : List Point) → EachPoint (Hears setup) past → EachPoint (Owned setup) past → EachPoint (LogsIn setup) past
each-logs-in setup [] hears own = tt
each-logs-in setup (p ∷ older) hears own = (logs-in setup older p hears.0 own.0 own.1, each-logs-in setup older hears.1 own.1)

-- the turn at which a challenge was drawn, and behind which nothing was found equal on that link, is the turn at which it was drawn for a proof of before: which was found equal
-- behind it
module _ (number other challenge : ℕ) (offered offered2 : Offered) (same : offered.offer.challenge ≡ challenge) (same2 : offered2.offer.challenge ≡ challenge) where
  -- at an earlier point
  drew-at : (offers : Offered) → offers.offer.challenge ≡ challenge → (at : Point) (link : ℕ) → Offers link offers at → LogsDraw (draw.Challenge challenge) (seals_at at)
  drew-at offers is at link o = subst (λ (c : ℕ). LogsDraw (draw.Challenge c) (seals_at at)) is o.drew

  drew-before : (link : ℕ) (offers : Offered) → offers.offer.challenge ≡ challenge → (past : List Point) → UncheckedSince link (λ _ at. Offers link offers at) past
      → Before (λ (_ : List Point) (q : Point). LogsDraw (draw.Challenge challenge) (seals_at q)) past
  drew-before link offers is [] none = none
  drew-before link offers is (p ∷ older) (inl o) = inl (drew-at offers is p link o)
  drew-before link offers is (p ∷ older) (inr h) = inr (drew-before link offers is older h.2)

  -- one point draws it on one link
  one-turn : (a b : ℕ) → Turn a ≡ Turn b → a ≡ b
  one-turn a b e = cc

  one-link : (past : List Point) → EachPoint DrawsNew past → UncheckedSince number (λ _ at. Offers number offered at) past → UncheckedSince other (λ _ at. Offers other offered2 at) past
      → number ≡ other
  one-link [] fresh none _ = absurd none
  one-link (p ∷ older) fresh (inl a) (inl b) = one-turn number other (sym a.turn ∙ b.turn)
  one-link (p ∷ older) fresh (inl a) (inr b) = absurd (fresh.0 challenge (drew-at offered same p number a) (drew-before other offered2 same2 older b.2))
  one-link (p ∷ older) fresh (inr a) (inl b) = absurd (fresh.0 challenge (drew-at offered2 same2 p other b) (drew-before number offered same older a.2))
  one-link (p ∷ older) fresh (inr a) (inr b) = one-link older fresh.1 a.2 b.2

  -- so no proof over it was found equal in between
  none-between : (setup : Setup) (whose : Name) (past : List Point) → EachPoint DrawsNew past → UncheckedSince number (λ _ at. Offers number offered at) past
      → Before (λ before q. UncheckedSince other (λ _ at. Offers other offered2 at) before × ChecksOn other q) past → ⊥
  none-between setup whose [] fresh a none = none
  none-between setup whose (q ∷ older) fresh (inl a) (inl (drew, _)) = fresh.0 challenge (drew-at offered same q number a) (drew-before other offered2 same2 older drew)
  none-between setup whose (q ∷ older) fresh (inr a) (inl (drew, checks)) = a.1 (subst (λ (n : ℕ). ChecksOn n q) (sym (one-link older fresh.1 a.2 drew)) checks)
  none-between setup whose (q ∷ older) fresh (inl a) (inr before) = by_place older before (λ earlier. fresh.0 challenge (drew-at offered same q number a) earlier)
    where
      by_place : (past : List Point) → Before (λ before q. UncheckedSince other (λ _ at. Offers other offered2 at) before × ChecksOn other q) past
          → (Before (λ (_ : List Point) (q : Point). LogsDraw (draw.Challenge challenge) (seals_at q)) past → ⊥) → ⊥
      by_place [] none never = none
      by_place (r ∷ past) (inl (drew, _)) never = never (inr (drew-before other offered2 same2 past drew))
      by_place (r ∷ past) (inr h) never = by_place past h (λ earlier. never (inr earlier))
  none-between setup whose (q ∷ older) fresh (inr a) (inr before) = none-between setup whose older fresh.1 a.2 before

-- each challenge that is drawn is new, so each proof lets in once
proves-once : (setup : Setup) (older : List Point) (p : Point) → EachPoint DrawsNew older → ProvesOnce setup older p
proves-once setup older p fresh number name proves before = by_place older before fresh proves.drew
  where
    by_place : (past : List Point)
        → Before (λ before q. (other : ℕ) × (whose : Name) × (earlier : Proves setup other whose before q) × (earlier.offered.offer.challenge ≡ proves.offered.offer.challenge)) past
        → EachPoint DrawsNew past → UncheckedSince number (λ _ at. Offers number proves.offered at) past → ⊥
    by_place [] none fresh drew = none
    by_place (q ∷ past) (inl (other, whose, earlier, same)) fresh (inl o) =
        fresh.0 proves.offered.offer.challenge o.drew (drew-before number other proves.offered.offer.challenge proves.offered earlier.offered refl same other earlier.offered same past earlier.drew)
    by_place (q ∷ past) (inl (other, whose, earlier, same)) fresh (inr h) =
        let checks : ChecksOn other q =
        record { monitor = earlier.monitor; turn = earlier.turn; mark = proof_of earlier.offered.offer earlier.client_challenge; rest = earlier.rest; checked = earlier.checked } in
        none-between number other proves.offered.offer.challenge proves.offered earlier.offered refl same setup whose (q ∷ past) fresh (inr h) (inl (earlier.drew, checks))
    by_place (q ∷ past) (inr h) fresh (inl o) = no_later past h (λ earlier. fresh.0 proves.offered.offer.challenge o.drew earlier)
      where
        no_later : (past : List Point)
            → Before (λ before q. (other : ℕ) × (whose : Name) × (earlier : Proves setup other whose before q) × (earlier.offered.offer.challenge ≡ proves.offered.offer.challenge)) past
            → (Before (λ (_ : List Point) (q : Point). LogsDraw (draw.Challenge proves.offered.offer.challenge) (seals_at q)) past → ⊥) → ⊥
        no_later [] none never = none
        no_later (r ∷ past) (inl (other, whose, earlier, same)) never =
            never (inr (drew-before number other proves.offered.offer.challenge proves.offered earlier.offered refl same other earlier.offered same past earlier.drew))
        no_later (r ∷ past) (inr h) never = no_later past h (λ earlier. never (inr earlier))
    by_place (q ∷ past) (inr h) fresh (inr drew) = by_place past h fresh.1 drew.2

each-once : (setup : Setup) (past : List Point) → EachPoint DrawsNew past → EachPoint (ProvesOnce setup) past
each-once setup [] fresh = tt
each-once setup (p ∷ older) fresh = (proves-once setup older p fresh.1, each-once setup older fresh.1)

-- what the points before drew is in their log
until-logged : (setup : Setup) (past : List Point) → AreLogged past (logged_until setup past)
until-logged setup [] = λ mark none. absurd none
until-logged setup (p ∷ older) = subst (λ (l : List Logged). AreLogged (p ∷ older) l) (behind-onto p.happening.node p.happening.line (seals_at p) (logged_until setup older))
    (logged-more p older (logged_until setup older) p.happening.node p.happening.line (until-logged setup older))

pub run-logins : (run : WholeRun) (setup : Setup) (hs : List Happening) → run.leaked ≡ leaked_of setup → AllByRecursion (λ (l : Leak). l.client.kind ≡ Client) setup.leaks
    → AllOccur run (nodes_of setup) hs → IsSound (leaked_of setup) (log_since setup hs) → IsFresh (log_since setup hs) → LogIn setup (points setup hs)
run-logins run setup hs same clients occur sound fresh = record {
  asked = each-logs-in setup (points setup hs) (all-heard setup hs) (run-points run setup hs same clients occur sound fresh (Owned setup)
      (λ past nodes h us J told i ok good g.
      (event-signed run setup same (log_since setup hs) us J past nodes h i ok g, event-sealed run setup same (log_since setup hs) us J past nodes h i ok g)));
  once = each-once setup (points setup hs) (run-points run setup hs same clients occur sound fresh DrawsNew
      (λ past nodes h us J told i ok good g.
      new-here run.leaked (log_since setup hs) h.node h.line past (record { nodes = nodes; happening = h }) (logged_until setup past) g (until-logged setup past)));
}
