-- What is known of a daemon's links behind a step of it: all that was known stays so, where keys that were drawn since are known; and what its entries tell.
use Rattle.std.proofs.Common.{◌≡◌, ℕ, List, [], ◌∷◌, ◌++◌, inl, inr, ◌⊎◌, refl, sym, ap, ◌∙◌, subst, append-nil}
use Rattle.std.proofs.lemmas.List.Elements.{Contains-append_left, Contains-push_cases}
use Rattle.std.specs.Prelude.{Contains}
use Rattle.std.specs.List.{AllByRecursion}
use Rattle.cx_base.specs.Names.{Name}
use Rattle.cx_base.specs.declared.nodes.NodeName.{NodeName}
use Rattle.cx_journal.specs.Behind.{EachBehind}
use Rattle.cx_journal.specs.declared.entries.Admitted.{Admitted}
use Rattle.cx_journal.specs.declared.entries.Entry.{Entry}
use Rattle.cx_journal.specs.declared.entries.Entry.TheVariants as journal
use Rattle.cx_journal.specs.declared.entries.Handled.{Handled}
use Rattle.cx_laws_run.specs.cx_laws_tickets.proofs.authorize.DaemonRows.{LinksHave}
use Rattle.cx_laws_run.specs.cx_laws_keys.proofs.keys.Journal.{entered}
use Rattle.cx_laws_run.specs.cx_laws_keys.proofs.keys.Known.{Inv, Within}
use Rattle.cx_laws_run.specs.cx_laws_keys.proofs.keys.Lists.{all-map}
use Rattle.cx_laws_run.specs.cx_laws_keys.proofs.keys.Premises.{AreGranted, behind}
use Rattle.cx_laws_run.specs.cx_laws_keys.proofs.keys.Uses.{Grows, Means, Use, Uses, WholeRun}
use Rattle.cx_laws_run.specs.cx_laws_keys.proofs.login.Entering.{within-all}
use Rattle.cx_laws_links.specs.cx_laws_keys.proofs.series.Contents.{contents-behind, contents_by, contents_in}
use Rattle.cx_laws_sessions.specs.cx_rules.specs.Links.{Link}
use Rattle.cx_laws_sessions.specs.cx_rules.specs.Rows.{Outcome}
use Rattle.cx_laws_sessions.specs.cx_rules_session.specs.DaemonRule.{AsAcceptor, AsConnector, DaemonNode, DaemonStage}
use Rattle.cx_laws_sessions.specs.cx_rules_session.specs.IncomingLinks.{IncomingStage}
use Rattle.cx_steps.specs.declared.seals.Logged.{Logged}
use Rattle.cx_steps.specs.declared.seals.SealEntry.{SealEntry}
use Rattle.cx_laws_links.proofs.links.IncomingNodes.{HostKnown, LinksKnown}
use Rattle.cx_laws_links.proofs.links.IncomingSteps.{serves-stays}
use Rattle.cx_laws_links.proofs.links.IncomingTakes.{EntryHeard, IsServedIn}
use Rattle.cx_laws_links.proofs.links.Known.{AreTold, AsksFor, IncomingTold, IsAsked, IsJoined, IsSpoken, Told}
use Rattle.cx_laws_links.proofs.links.Lifting.{link-grows, silent-before, told-stays}
use Rattle.cx_laws_links.proofs.links.Moving.{KeepsNonces, Quiets, moved-incoming}
use Rattle.cx_laws_links.proofs.links.Others.{link-one}
use Rattle.cx_laws_links.proofs.links.Since.{Goes, since, since-within}
use Rattle.cx_laws_links.proofs.links.Spoken.{is_connectors}
use Rattle.cx_laws_links.proofs.links.Written.{IsLinkKey}
use Rattle.cx_laws_run.proofs.sent.State.{HeardLaw, IsLinkAt}

-- each key has one use
abbrev pub IsOne : Uses → Type 0
IsOne us = (key : List ℕ) (u v : Use) → Means us key u → Means us key v → u ≡ v

-- nothing is sealed under the key of a link to a daemon as by its connector
abbrev pub IsSilent : Uses → List SealEntry → Type 0
IsSilent us es = (key : List ℕ) (name : Name) (tie : ℕ) → IsLinkKey us key name tie → contents_by key is_connectors es ≡ []

-- ---- entries

-- no session is admitted, and nothing handled
abbrev pub IsUnheard : Entry → Type 0
IsUnheard (journal.Admitted a) = ⊥
IsUnheard (journal.Handled h) = ⊥
IsUnheard _ = Unit {0}

-- nor does a node begin anew
abbrev pub IsStill : Entry → Type 0
IsStill (journal.Admitted a) = ⊥
IsStill (journal.Handled h) = ⊥
IsStill (journal.Restarted at) = ⊥
IsStill _ = Unit {0}

pub still-unheard : (e : Entry) → IsStill e → IsUnheard e
still-unheard (journal.Admitted x) h = absurd h
still-unheard (journal.Handled x) h = absurd h
still-unheard (journal.Restarted x) h = absurd h
still-unheard (journal.Resumed x) h = tt
still-unheard (journal.Saved x) h = tt
still-unheard (journal.Issued x) h = tt
still-unheard (journal.Fetched x) h = tt
still-unheard (journal.Looked x) h = tt
still-unheard (journal.Sent x) h = tt
still-unheard (journal.Answered x) h = tt
still-unheard (journal.Refused x) h = tt
still-unheard (journal.Ended x) h = tt
still-unheard (journal.Broken x) h = tt
still-unheard (journal.Leaked x) h = tt

pub still-goes : (daemon : Name) (e : Entry) → IsStill e → Goes daemon e
still-goes daemon (journal.Admitted x) h = absurd h
still-goes daemon (journal.Handled x) h = absurd h
still-goes daemon (journal.Restarted x) h = absurd h
still-goes daemon (journal.Resumed x) h = refl
still-goes daemon (journal.Saved x) h = refl
still-goes daemon (journal.Issued x) h = refl
still-goes daemon (journal.Fetched x) h = refl
still-goes daemon (journal.Looked x) h = refl
still-goes daemon (journal.Sent x) h = refl
still-goes daemon (journal.Answered x) h = refl
still-goes daemon (journal.Refused x) h = refl
still-goes daemon (journal.Ended x) h = refl
still-goes daemon (journal.Broken x) h = refl
still-goes daemon (journal.Leaked x) h = refl

-- so what was entered since a daemon restarted last stays so
pub still-within : (daemon : Name) (J es : List Entry) → AllByRecursion IsStill es → Within (since daemon J) (since daemon (entered J es))
still-within daemon J es h = since-within daemon es J (all-map IsStill (Goes daemon) (still-goes daemon) es h)

pub unheard-law : (run : WholeRun) (J : List Entry) (e : Entry) → IsUnheard e → HeardLaw run J e
unheard-law run J (journal.Admitted x) h = absurd h
unheard-law run J (journal.Handled x) h = absurd h
unheard-law run J (journal.Resumed x) h = tt
unheard-law run J (journal.Saved x) h = tt
unheard-law run J (journal.Issued x) h = tt
unheard-law run J (journal.Fetched x) h = tt
unheard-law run J (journal.Looked x) h = tt
unheard-law run J (journal.Sent x) h = tt
unheard-law run J (journal.Answered x) h = tt
unheard-law run J (journal.Refused x) h = tt
unheard-law run J (journal.Ended x) h = tt
unheard-law run J (journal.Restarted x) h = tt
unheard-law run J (journal.Broken x) h = tt
unheard-law run J (journal.Leaked x) h = tt

pub unheard-laws : (run : WholeRun) (J es : List Entry) → AllByRecursion IsUnheard es → AllByRecursion (HeardLaw run J) es
unheard-laws run J [] h = tt
unheard-laws run J (e ∷ es) h = (unheard-law run J e h.0, unheard-laws run J es h.1)

-- so no session is entered that wasn't before
unheard-none : (J es : List Entry) → AllByRecursion IsUnheard es → (session : Admitted) → Contains (entered J es) (journal.Admitted session) → Contains J (journal.Admitted session)
unheard-none J [] h session has = has
unheard-none J (e ∷ es) h session has = by_place (Contains-push_cases J e (journal.Admitted session) (unheard-none (J ++ e ∷ []) es h.1 session has))
  where
    by_place : Contains J (journal.Admitted session) ⊎ (e ≡ journal.Admitted session) → Contains J (journal.Admitted session)
    by_place (inl was) = was
    by_place (inr same) = absurd (subst IsUnheard same h.0)

-- ---- what stays known

keeps-nonces : (told : Told) (name : Name) (number : ℕ) → KeepsNonces told name number told.nonces
keeps-nonces told name number = record { bound = λ nonce whose second key is. is; shown = λ nonce whose second apart is. is }

-- what is known of an incoming link stays so where more is known of keys
pub incoming-lifts : (run : WholeRun) (us vs : Uses) (told : Told) (daemon : Name) (n : NodeName) → IsOne us → Grows us vs → (number : ℕ) (stage : IncomingStage) → IncomingTold run us told n number stage
    → IncomingTold run vs told n number stage
incoming-lifts run us vs told daemon n one f number stage h =
    moved-incoming us vs one f told [] n 0 [] daemon 0 run told (Quiets told.nonces (keeps-nonces told daemon 0) (λ other whose tie is. refl)) n number stage h

-- and so does that of any link of a daemon
pub host-lifts : (run : WholeRun) (us vs : Uses) (told : Told) (J K : List Entry) (daemon : Name) (n : NodeName) → IsOne us → IsOne vs → Grows us vs → Within (since daemon J) (since daemon K) → (number : ℕ) (stage : DaemonStage)
    → HostKnown run us told J daemon n number stage → HostKnown run vs told K daemon n number stage
host-lifts run us vs told J K daemon n one later f w number (AsAcceptor stage) h =
    let g = incoming-lifts run us vs told daemon n one f number stage h.0 in
    (g, serves-stays run us vs told told J K daemon n number later f w stage h.0 g h.1)
host-lifts run us vs told J K daemon n one later f w number (AsConnector stage) h = tt

pub hosts-lift : (run : WholeRun) (us vs : Uses) (told : Told) (J K : List Entry) (daemon : Name) (n : NodeName) → IsOne us → IsOne vs → Grows us vs → Within (since daemon J) (since daemon K) → (links : List (Link DaemonStage))
    → LinksKnown run us told J daemon n links → LinksKnown run vs told K daemon n links
hosts-lift run us vs told J K daemon n one later f w [] h = tt
hosts-lift run us vs told J K daemon n one later f w (l ∷ links) h =
    (host-lifts run us vs told J K daemon n one later f w l.number l.stage h.0, hosts-lift run us vs told J K daemon n one later f w links h.1)

-- what is known behind a step that seals nothing as a connector is so of all keys that are known then
pub told-lifts : (run : WholeRun) (whole : List Logged) (us vs : Uses) (told : Told) (joins : List (List ℕ × ℕ)) (log : List Logged) (J K : List Entry) (n : NodeName) (line : ℕ) (es : List SealEntry)
    → IsOne vs → Grows us vs → Inv run whole us log J → IsSilent vs es → AreTold run us told log J → AreTold run us (record told { joins = joins }) (behind n line es log) K
    → AreTold run vs (record told { joins = joins }) (behind n line es log) K
told-lifts run whole us vs told joins log J K n line es one f i silent t b = record {
  spoken = λ key x has. let h : IsSpoken us (record told { joins = joins }) (behind n line es log) K key = b.spoken key x has in
      record { name = h.name; tie = h.tie; is = link-grows us vs key h.name h.tie f h.is; written = h.written; words = h.words; frames = h.frames; bound = h.bound };
  silent = λ key name tie is empty.
      contents-behind key is_connectors n line es log ∙ ap (λ (l : List (List ℕ)). contents_in key is_connectors log ++ l) (silent key name tie is)
      ∙ append-nil (contents_in key is_connectors log) ∙ silent-before run whole us vs told log J one f i t key name tie is empty;
  cookies = b.cookies;
  once = b.once;
  nonces = b.nonces;
  joined = λ session has. let h : IsJoined us (record told { joins = joins }) session = b.joined session has in
      record { key = h.key; tie = h.tie; is = link-grows us vs h.key session.entity h.tie f h.is; joined = h.joined };
  asked = λ key cookie has. let h : IsAsked run us (record told { joins = joins }) key cookie = b.asked key cookie has in
      record { name = h.name; tie = h.tie; is = link-grows us vs key h.name h.tie f h.is; asks = h.asks };
}

-- ---- a step

module _ (run : WholeRun) (whole : List Logged) (us vs : Uses) (told : Told) (log : List Logged) (J : List Entry) (n : NodeName) (line : ℕ) (daemon : Name) where
  -- what is known behind it of all that was said, and of the daemon's links; sessions are joined to keys of its own links; it seals nothing as a connector,
  -- and each entry has its law
  pub record StepKnown (o : Outcome DaemonNode) : Type 0 where
    pub joins : List (List ℕ × ℕ)
    pub own : (key : List ℕ) (cookie : ℕ) → Contains joins (key, cookie) → Contains told.joins (key, cookie) ⊎ IsLinkAt vs key n
    pub known_of : AreTold run vs (record told { joins = joins }) (behind n line o.out.seals log) (entered J o.out.entries)
    pub links : LinksKnown run vs (record told { joins = joins }) (entered J o.out.entries) daemon n o.state.links
    pub quiet : IsSilent vs o.out.seals
    pub says : AllByRecursion (HeardLaw run J) o.out.entries

  -- so it is where what it logs is granted, and what is known of keys behind it is known, also of those of its links
  abbrev pub Keeps : Outcome DaemonNode → Type 0
  Keeps o = AreGranted run.leaked whole n line log o.out.seals → Inv run whole vs (behind n line o.out.seals log) (entered J o.out.entries) → LinksHave run n vs o.state.links → StepKnown o

  -- where it seals nothing as a connector, and neither admits a session nor handles anything
  pub quiet-known : Inv run whole us log J → Grows us vs → AreTold run us told log J → (o : Outcome DaemonNode) → IsOne vs → IsSilent vs o.out.seals → AllByRecursion IsUnheard o.out.entries
      → LinksKnown run vs told (entered J o.out.entries) daemon n o.state.links → StepKnown o
  quiet-known i f t o one silent unheard links = record {
    joins = told.joins;
    own = λ key cookie has. inl has;
    known_of = told-stays run whole us vs told log J (entered J o.out.entries) n line o.out.seals one f (within-all J o.out.entries) i silent (unheard-none J o.out.entries unheard) t;
    links = links;
    quiet = silent;
    says = unheard-laws run J o.out.entries unheard;
  }

-- ---- what entries tell

-- of an entity's link with this key, to which no session was joined
pub heard-law : (run : WholeRun) (us : Uses) (told : Told) (log : List Logged) (J : List Entry) → IsOne us → AreTold run us told log J → (key : List ℕ) (name : Name) (e : Entry)
    → ((a : Admitted) → e ≡ journal.Admitted a → (cookie : ℕ) → Contains told.joins (key, cookie) → ⊥) → EntryHeard run told.said J key name e → HeardLaw run J e
heard-law run us told log J one t key name (journal.Admitted a) unjoined h = λ free b has free_too cookie.
    let j : IsJoined us told b = t.joined b has in
    let asked : IsAsked run us told j.key b.cookie = t.asked j.key b.cookie j.joined in
    let whose : asked.name ≡ b.entity = (link-one us one j.key asked.name b.entity asked.tie j.tie asked.is j.is).0 in
    let other : AsksFor told.said j.key b.cookie = asked.asks (subst (λ (m : Name). Contains run.leaked m → ⊥) (sym whose) free_too) in
    let own : AsksFor told.said key a.cookie = h.1 (subst (λ (m : Name). Contains run.leaked m → ⊥) h.0 free) in
    let same : j.key ≡ key = t.once j.key key a.cookie (subst (λ (k : ℕ). AsksFor told.said j.key k) cookie other) own in
    unjoined a refl a.cookie (subst (λ (k : List ℕ). Contains told.joins (k, a.cookie)) same (subst (λ (k : ℕ). Contains told.joins (j.key, k)) cookie j.joined))
heard-law run us told log J one t key name (journal.Handled x) unjoined h = (name, h.0, h.1)
heard-law run us told log J one t key name (journal.Resumed x) unjoined h = tt
heard-law run us told log J one t key name (journal.Saved x) unjoined h = tt
heard-law run us told log J one t key name (journal.Issued x) unjoined h = tt
heard-law run us told log J one t key name (journal.Fetched x) unjoined h = tt
heard-law run us told log J one t key name (journal.Looked x) unjoined h = tt
heard-law run us told log J one t key name (journal.Sent x) unjoined h = tt
heard-law run us told log J one t key name (journal.Answered x) unjoined h = tt
heard-law run us told log J one t key name (journal.Refused x) unjoined h = tt
heard-law run us told log J one t key name (journal.Ended x) unjoined h = tt
heard-law run us told log J one t key name (journal.Restarted x) unjoined h = tt
heard-law run us told log J one t key name (journal.Broken x) unjoined h = tt
heard-law run us told log J one t key name (journal.Leaked x) unjoined h = tt

-- ---- one behind the other

abbrev pub AdmitsNone : Entry → Type 0
AdmitsNone (journal.Admitted a) = ⊥
AdmitsNone _ = Unit {0}

-- none but the first of them admits a session
abbrev pub AdmitsFirst : List Entry → Type 0
AdmitsFirst [] = Unit {0}
AdmitsFirst (e ∷ es) = AllByRecursion AdmitsNone es

served-within : (J K : List Entry) (name : Name) (h : Handled) → Within (since h.daemon J) (since h.daemon K) → IsServedIn J name h → IsServedIn K name h
served-within J K name h w s = record {
  session = s.session;
  opens = by_kind s.opens;
  daemon_is = s.daemon_is;
  entity = s.entity;
  number = s.number;
  epoch = s.epoch;
  cookie = s.cookie;
}
  where
    by_kind : Contains (since h.daemon J) (journal.Admitted s.session) ⊎ Contains (since h.daemon J) (journal.Resumed s.session)
        → Contains (since h.daemon K) (journal.Admitted s.session) ⊎ Contains (since h.daemon K) (journal.Resumed s.session)
    by_kind (inl has) = inl (w.has (journal.Admitted s.session) has)
    by_kind (inr has) = inr (w.has (journal.Resumed s.session) has)

-- what is entered behind these is so behind those, where no node begins anew between them
pub record IsLater (J K : List Entry) : Type 0 where
  pub has : Within J K
  pub since_has : (daemon : Name) → Within (since daemon J) (since daemon K)

-- no node begins anew by an entry
abbrev pub GoesOn : Entry → Type 0
GoesOn (journal.Restarted at) = ⊥
GoesOn _ = Unit {0}

-- none of them begins a node anew, or there is but one
abbrev pub GoesOrEnds : List Entry → Type 0
GoesOrEnds [] = Unit {0}
GoesOrEnds (e ∷ []) = Unit {0}
GoesOrEnds (e ∷ x ∷ es) = GoesOn e × AllByRecursion GoesOn (x ∷ es)

-- what admits none keeps its law in a longer journal
law-within : (run : WholeRun) (J K : List Entry) (e : Entry) → IsLater J K → AdmitsNone e → HeardLaw run J e → HeardLaw run K e
law-within run J K (journal.Admitted x) w none h = absurd none
law-within run J K (journal.Handled x) w none h = (h.0, served-within J K h.0 x (w.since_has x.daemon) h.1, λ free. let sent = h.2 free in (sent.0, w.has.has _ sent.1))
law-within run J K (journal.Resumed x) w none h = tt
law-within run J K (journal.Saved x) w none h = tt
law-within run J K (journal.Issued x) w none h = tt
law-within run J K (journal.Fetched x) w none h = tt
law-within run J K (journal.Looked x) w none h = tt
law-within run J K (journal.Sent x) w none h = tt
law-within run J K (journal.Answered x) w none h = tt
law-within run J K (journal.Refused x) w none h = tt
law-within run J K (journal.Ended x) w none h = tt
law-within run J K (journal.Restarted x) w none h = tt
law-within run J K (journal.Broken x) w none h = tt
law-within run J K (journal.Leaked x) w none h = tt

on-goes : (daemon : Name) (e : Entry) → GoesOn e → Goes daemon e
on-goes daemon (journal.Restarted x) h = absurd h
on-goes daemon (journal.Admitted x) h = refl
on-goes daemon (journal.Handled x) h = refl
on-goes daemon (journal.Resumed x) h = refl
on-goes daemon (journal.Saved x) h = refl
on-goes daemon (journal.Issued x) h = refl
on-goes daemon (journal.Fetched x) h = refl
on-goes daemon (journal.Looked x) h = refl
on-goes daemon (journal.Sent x) h = refl
on-goes daemon (journal.Answered x) h = refl
on-goes daemon (journal.Refused x) h = refl
on-goes daemon (journal.Ended x) h = refl
on-goes daemon (journal.Broken x) h = refl
on-goes daemon (journal.Leaked x) h = refl

later-one : (J K : List Entry) (e : Entry) → IsLater J K → GoesOn e → IsLater J (K ++ e ∷ [])
later-one J K e w goes = record {
  has = record { has = λ x has. Contains-append_left K (e ∷ []) x (w.has.has x has) };
  since_has = λ daemon. record { has = λ x has. (since-within daemon (e ∷ []) K (on-goes daemon e goes, tt)).has x ((w.since_has daemon).has x has) };
}

laws-behind : (run : WholeRun) (J K es : List Entry) → IsLater J K → AllByRecursion AdmitsNone es → AllByRecursion GoesOn es → AllByRecursion (HeardLaw run J) es → EachBehind (HeardLaw run) K es
laws-behind run J K [] w none goes h = tt
laws-behind run J K (e ∷ es) w none goes h =
    (law-within run J K e w none.0 h.0, laws-behind run J (K ++ e ∷ []) es (later-one J K e w goes.0) none.1 goes.1 h.1)

itself : (J : List Entry) → IsLater J J
itself J = record { has = record { has = λ x has. has }; since_has = λ daemon. record { has = λ x has. has } }

pub heard-behind : (run : WholeRun) (J es : List Entry) → AdmitsFirst es → GoesOrEnds es → AllByRecursion (HeardLaw run J) es → EachBehind (HeardLaw run) J es
heard-behind run J [] first goes h = tt
heard-behind run J (e ∷ []) first goes h = (h.0, tt)
heard-behind run J (e ∷ x ∷ es) first goes h = (h.0, laws-behind run J (J ++ e ∷ []) (x ∷ es) (later-one J J e (itself J) goes.0) first goes.1 h.1)
