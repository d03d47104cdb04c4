-- What is known as a run begins.
use Rattle.std.proofs.Common.{◌≡◌, ℕ, Bool, true, false, List, [], ◌∷◌, ◌++◌, map, inl, refl, sym, ap, subst, arith, ◌⊎◌, inr, ◌∙◌}
use Rattle.std.specs.Prelude.{Contains, if◌then◌else◌, None}
use Rattle.std.specs.List.{AllByRecursion}
use Rattle.cx_base.specs.Names.{Name, is_daemon_type}
use Rattle.cx_base.specs.declared.kinds.EntityType.{EntityType}
use Rattle.cx_base.specs.declared.kinds.EntityType.TheVariants.{Mon, Mds, Osd, Client, Mgr, Auth}
use Rattle.cx_journal.specs.Behind.{EachBehind}
use Rattle.cx_base.specs.Names.{is_daemon_type}
use Rattle.cx_journal.specs.declared.entries.Entry.{Entry}
use Rattle.cx_journal.specs.declared.entries.Entry.TheVariants as journal
use Rattle.cx_journal.specs.declared.entries.Issued.{Issued}
use Rattle.cx_base.specs.declared.nodes.NodeName.TheVariants as node
use Rattle.cx_laws_links.specs.cx_laws_tickets.specs.cx_rules_session.specs.ClientRule.{opening_whole_client}
use Rattle.cx_laws_links.specs.cx_laws_tickets.proofs.calling.Between.{client-begins}
use Rattle.cx_laws_links.specs.cx_laws_tickets.specs.cx_run.specs.Happenings.{Entered, Happening, journal_from, seals_from, OfClient, OfDaemon}
use Rattle.cx_laws_links.specs.cx_laws_tickets.specs.cx_run.specs.Opening.{Declared, Leak, Setup, mon_client_of, first_state, leaked_of, leaks_entered, nodes_of, principal_of, secret_drawn, secret_of, secrets_drawn, entity_in, daemon_opening}
use Rattle.cx_steps.specs.Onto.{EachOnto}
use Rattle.cx_steps.specs.Premises.{IsFresh, IsSound}
use Rattle.cx_steps.specs.declared.seals.DrawMark.TheVariants as draw
use Rattle.cx_steps.specs.declared.seals.Logged.{Logged}
use Rattle.cx_laws_links.specs.cx_laws_tickets.specs.cx_laws_keys.proofs.keys.Journal.{EntryLaw, entered, has-before}
use Rattle.cx_laws_links.specs.cx_laws_tickets.specs.cx_laws_keys.proofs.keys.Known.{Inv}
use Rattle.cx_laws_links.specs.cx_laws_tickets.specs.cx_laws_keys.proofs.keys.Lists.{map-append}
use Rattle.cx_laws_links.specs.cx_laws_tickets.specs.cx_laws_keys.proofs.keys.Premises.{IsGranted, all-granted}
use Rattle.cx_laws_links.specs.cx_laws_tickets.specs.cx_laws_keys.proofs.keys.Steps.{inv-drawn}
use Rattle.cx_laws_links.specs.cx_laws_tickets.specs.cx_laws_keys.proofs.keys.Uses.{Grows, Means, Secret, Uses, grows-one, grows-then, no_uses, stays, with_key, WholeRun}
use Rattle.cx_laws_links.specs.cx_laws_tickets.specs.cx_laws_keys.proofs.login.Facts.{AreSecrets, none-fetched}
use Rattle.cx_laws_links.specs.cx_laws_tickets.specs.cx_laws_keys.proofs.login.Generations.{IsGenerated, AreWritable, none-writable}
use Rattle.cx_laws_links.specs.cx_laws_tickets.specs.cx_laws_keys.proofs.login.Rows.{IsQuietEntry, quiet-entries}
use Rattle.cx_laws_run.proofs.run.Events.{NodesOk, events-law, AllOccur, EntityOk, EntitiesOk}
use Rattle.cx_laws_run.proofs.run.Journals.{behind-append}
use Rattle.cx_laws_links.specs.cx_laws_tickets.specs.cx_run.specs.Points.{journal_since, log_since, onto}
use Rattle.cx_laws_links.specs.cx_laws_tickets.specs.cx_keyserver.specs.Servers.{generations_of}
use Rattle.std.proofs.lemmas.List.Elements.{Contains-append_cases, Contains-push_cases}

-- ---- the entities' secrets

-- each of these entities' secrets is its own
abbrev pub AreTheirs : Uses → List Declared → Type 0
AreTheirs us es = AllByRecursion (λ (e : Declared). Means us (secret_of e) (Secret e.name)) es

as_secret : (key : List ℕ) (name other : Name) → Secret name ≡ Secret other → draw.Principal key name ≡ draw.Principal key other
as_secret key name other e = let same : name ≡ other = cc in ap (λ (m : Name). draw.Principal key m) same

module _ (run : WholeRun) (whole : List Logged) (J : List Entry) where
  -- behind the secrets of some entities
  pub record AreKnown (us : Uses) (log : List Logged) (es : List Declared) (rest : List Logged) : Type 0 where
    pub uses : Uses
    pub grows : Grows us uses
    pub inv : Inv run whole uses (onto (map secret_drawn es) log) J
    pub theirs : AreTheirs uses es
    pub granted : EachOnto (IsGranted run.leaked whole) (onto (map secret_drawn es) log) rest

  pub secrets-known : (es : List Declared) (us : Uses) (log rest : List Logged) → Inv run whole us log J → EachOnto (IsGranted run.leaked whole) log (map secret_drawn es ++ rest) → AreKnown us log es rest
  secrets-known [] us log rest i g = record { uses = us; grows = stays us; inv = i; theirs = tt; granted = g }
  secrets-known (e ∷ es) us log rest i g =
      let mark = draw.Principal (secret_of e) e.name in
      let vs : Uses = with_key us (secret_of e) (Secret e.name) in
      let first : Inv run whole vs (secret_drawn e ∷ log) J = inv-drawn run whole us log J (node.Entity e.name) e.line mark (secret_of e) (Secret e.name) i refl refl tt (λ name is. as_secret (secret_of e) e.name name is) g.0 in
      let more = secrets-known es vs (secret_drawn e ∷ log) rest first g.1 in
      record {
        uses = more.uses;
        grows = grows-then us vs more.uses (grows-one us (secret_of e) (Secret e.name)) more.grows;
        inv = more.inv;
        theirs = (more.grows.means (secret_of e) (Secret e.name) (inl (refl, refl)), more.theirs);
        granted = more.granted;
      }

-- ---- the leaked clients

pub nothing-in : (x : Entry) → Contains {X = Entry} [] x → ⊥
nothing-in x (k, below, is) = omega arith

pub leaks-quiet : (leaks : List Leak)
    → AllByRecursion IsQuietEntry (map (λ (x : Entered). x.entry) (map (λ (l : Leak). record { line = l.line; reading = 0; entry = journal.Leaked l.client }) leaks))
leaks-quiet [] = tt
leaks-quiet (l ∷ leaks) = ((tt, tt), leaks-quiet leaks)

-- no ticket is issued
abbrev pub NoneIssued : Uses → List Entry → Type 0
NoneIssued us J = (s : Issued) → Contains J (journal.Issued s) → ⊥

pub opening-inv : (run : WholeRun) (whole : List Logged) → Inv run whole (no_uses run.saved) [] []
opening-inv run whole = record {
  held = λ key u h. absurd h;
  secrets = λ key name h. absurd h;
  one = λ key u v h g. absurd h;
  leaks = λ key u h l. absurd h;
  allowed = tt;
  own = λ s t hs ht gid. absurd (nothing-in (journal.Issued s) hs);
  told = refl;
  placed = λ key u h. absurd h;
}

-- ---- the nodes

their-ring : (us : Uses) (es : List Declared) → AreTheirs us es → AreSecrets us (map principal_of es)
their-ring us [] h = tt
their-ring us (e ∷ es) h = (h.0, their-ring us es h.1)

none-generated : (us : Uses) (setup : Setup) → IsGenerated us (first_state setup)
none-generated us setup Mon = tt
none-generated us setup Mds = tt
none-generated us setup Osd = tt
none-generated us setup Client = tt
none-generated us setup Mgr = tt
none-generated us setup Auth = tt

none-writable_of : (setup : Setup) (service : EntityType) → AreWritable (generations_of (first_state setup) service)
none-writable_of setup Mon = none-writable
none-writable_of setup Mds = none-writable
none-writable_of setup Osd = none-writable
none-writable_of setup Client = none-writable
none-writable_of setup Mgr = none-writable
none-writable_of setup Auth = none-writable

-- of an item of a list with another one in front: it is that one, or one of the others
contains-either : (x name : Name) (xs : List Name) → Contains (x ∷ xs) name → (x ≡ name) ⊎ Contains xs name
contains-either x name xs has = by_place (Contains-append_cases (x ∷ []) xs name has)
  where
    by_one : Contains {X = Name} [] name ⊎ (x ≡ name) → (x ≡ name) ⊎ Contains xs name
    by_one (inl (k, below, is)) = absurd (omega arith)
    by_one (inr is) = inl is

    by_place : Contains (x ∷ []) name ⊎ Contains xs name → (x ≡ name) ⊎ Contains xs name
    by_place (inl here) = by_one (Contains-push_cases [] x name here)
    by_place (inr later) = inr later

-- a daemon isn't leaked, where only clients are
unleaked-by : (name : Name) → is_daemon_type name.kind ≡ true → (leaks : List Leak) → AllByRecursion (λ (l : Leak). l.client.kind ≡ Client) leaks
    → Contains (map (λ (l : Leak). l.client) leaks) name → ⊥
unleaked-by name of [] h (k, below, is) = omega arith
unleaked-by name of (l ∷ leaks) h has = by_place l.client h.0 (unleaked-by name of leaks h.1) (contains-either l.client name (map (λ (x : Leak). x.client) leaks) has)
  where
    differ : false ≡ true → ⊥
    differ e = cc

    by_place : (client : Name) → client.kind ≡ Client → (Contains (map (λ (x : Leak). x.client) leaks) name → ⊥)
        → (client ≡ name) ⊎ Contains (map (λ (x : Leak). x.client) leaks) name → ⊥
    by_place client is rest (inl same) = differ (sym (ap is_daemon_type (sym (ap (λ (m : Name). m.kind) same) ∙ is)) ∙ of)
    by_place client is rest (inr later) = rest later

daemon-unleaked : (setup : Setup) (name : Name) → AllByRecursion (λ (l : Leak). l.client.kind ≡ Client) setup.leaks → is_daemon_type name.kind ≡ true
    → Contains (leaked_of setup) name → ⊥
daemon-unleaked setup name clients of has = unleaked-by name of setup.leaks clients has

module _ (run : WholeRun) (setup : Setup) (leaked_is : run.leaked ≡ leaked_of setup) (clients : AllByRecursion (λ (l : Leak). l.client.kind ≡ Client) setup.leaks) where
  one-entity : (us : Uses) (J : List Entry) (e : Declared) → Means us (secret_of e) (Secret e.name) → EntityOk run us J (entity_in e)
  one-entity us J e m = by_test (is_daemon_type e.name.kind) refl
    where
      by_test : (t : Bool) → is_daemon_type e.name.kind ≡ t
          → EntityOk run us J (if t then OfDaemon (daemon_opening (mon_client_of e)) else OfClient (opening_whole_client (mon_client_of e)))
      by_test true of = record {
        known = record {
          trusted = inr (λ has. daemon-unleaked setup e.name clients of (subst (λ (names : List Name). Contains names e.name) leaked_is has));
          own = m;
          fetched = none-fetched run us e.name.kind;
        };
        of = of;
        links = tt;
        backed = λ known. tt;
      }
      by_test false of = client-begins run us (mon_client_of e) (record { trusted = inl of; own = m; fetched = none-fetched run us e.name.kind })

  their-entities : (us : Uses) (J : List Entry) (es : List Declared) → AreTheirs us es → EntitiesOk run us J (map entity_in es)
  their-entities us J [] h = tt
  their-entities us J (e ∷ es) h = (one-entity us J e h.0, their-entities us J es h.1)

  pub opening-nodes : (us : Uses) (J : List Entry) → AreTheirs us setup.entities → NoneIssued us J → NodesOk run (nodes_of setup) us J
  opening-nodes us J h none = record {
    monitor = record {
      owner = λ gid. None;
      node_ok = record {
        own = record {
          ring = their-ring us setup.entities h;
          present = record { generated = none-generated us setup; writable = none-writable_of setup; numbered = omega arith };
          saved = record { generated = none-generated us setup; writable = none-writable_of setup; numbered = omega arith };
          before_is = refl;
          grown = omega arith;
          below = λ s has. absurd (none s has);
          rises = omega arith;
          owned = λ s has. absurd (none s has);
          unowned = λ gid le. refl;
        };
        links = tt;
      };
    };
    entities = their-entities us J setup.entities h;
  }

-- ---- a whole run

-- what is known as a run begins: of its log and its journal, and of its nodes
pub record Begins (run : WholeRun) (whole : List Logged) (setup : Setup) (hs : List Happening) : Type 0 where
  pub uses : Uses
  pub inv : Inv run whole uses (onto (secrets_drawn setup) []) (entered [] (map (λ (x : Entered). x.entry) (leaks_entered setup)))
  pub nodes : NodesOk run (nodes_of setup) uses (entered [] (map (λ (x : Entered). x.entry) (leaks_entered setup)))
  pub granted : EachOnto (IsGranted run.leaked whole) (onto (secrets_drawn setup) []) (seals_from (nodes_of setup) hs)
  pub laws : EachBehind (EntryLaw run) [] (map (λ (x : Entered). x.entry) (leaks_entered setup))
  pub none : NoneIssued uses (entered [] (map (λ (x : Entered). x.entry) (leaks_entered setup)))

pub begins : (run : WholeRun) (setup : Setup) (hs : List Happening) → run.leaked ≡ leaked_of setup → AllByRecursion (λ (l : Leak). l.client.kind ≡ Client) setup.leaks
    → IsSound (leaked_of setup) (log_since setup hs) → IsFresh (log_since setup hs) → Begins run (log_since setup hs) setup hs
begins run setup hs same clients sound fresh =
    let whole : List Logged = log_since setup hs in
    let leaks : List Entry = map (λ (x : Entered). x.entry) (leaks_entered setup) in
    let K : List Entry = entered [] leaks in
    let us : Uses = no_uses run.saved in
    let began = quiet-entries run whole node.Monitor 0 us [] [] leaks NoneIssued (λ J e other none s has. none s (has-before J e other s has)) (leaks-quiet setup.leaks)
    (opening-inv run whole) (λ s has. nothing-in (journal.Issued s) has) in
    let granted = all-granted run.leaked whole (subst (λ (names : List Name). IsSound names whole) (sym same) sound) fresh in
    let known = secrets-known run whole K setup.entities us [] (seals_from (nodes_of setup) hs) began.0 granted in
    record {
      uses = known.uses;
      inv = known.inv;
      nodes = opening-nodes run setup same clients known.uses K known.theirs began.2;
      granted = known.granted;
      laws = began.1;
      none = began.2;
    }

pub run-law : (run : WholeRun) (setup : Setup) (hs : List Happening) → run.leaked ≡ leaked_of setup → AllByRecursion (λ (l : Leak). l.client.kind ≡ Client) setup.leaks
    → AllOccur run (nodes_of setup) hs → IsSound (leaked_of setup) (log_since setup hs) → IsFresh (log_since setup hs)
    → EachBehind (EntryLaw run) [] (journal_since setup hs)
run-law run setup hs same clients occur sound fresh =
    let whole : List Logged = log_since setup hs in
    let leaks : List Entry = map (λ (x : Entered). x.entry) (leaks_entered setup) in
    let K : List Entry = entered [] leaks in
    let later : List Entry = map (λ (x : Entered). x.entry) (journal_from (nodes_of setup) hs) in
    let b : Begins run whole setup hs = begins run setup hs same clients sound fresh in
    let law : EachBehind (EntryLaw run) K later =
    events-law run whole hs (nodes_of setup) b.uses (onto (secrets_drawn setup) []) K b.inv b.nodes (λ known t has. absurd (b.none t has)) occur b.granted in
    let both : EachBehind (EntryLaw run) [] (leaks ++ later) = behind-append (EntryLaw run) [] leaks later b.laws law in
    subst (λ (l : List Entry). EachBehind (EntryLaw run) [] l) (sym (map-append (λ (x : Entered). x.entry) (leaks_entered setup) (journal_from (nodes_of setup) hs))) both
