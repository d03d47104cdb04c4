-- What the monitor handed over at each login: the session key of the ticket for AUTH, the key of the link and the challenge of the proof. All that is signed under
-- such a session key tells that challenge, where the monitor signed it; and each connection secret that is sealed under it has that key.
use Rattle.std.proofs.Common.{◌≡◌, ◌<◌, ◌≤◌, ◌^◌, ℕ, List, [], ◌∷◌, length, slice_index, take, Some, Ok, inl, inr, ◌⊎◌, refl, sym, ap, ◌∙◌, subst, arith}
use Rattle.std.specs.List.{AllByRecursion}
use Rattle.cx_base.specs.Names.{Name}
use Rattle.cx_base.specs.declared.nodes.NodeName.{NodeName}
use Rattle.cx_base.specs.declared.nodes.NodeName.TheVariants as node
use Rattle.cx_control.specs.Auth.{auth_signature_layout}
use Rattle.cx_frame.specs.declared.frame.Frame.{Frame}
use Rattle.cx_journal.specs.declared.entries.Entry.{Entry}
use Rattle.cx_journal.specs.declared.premises.KeyKind.TheVariants as kind
use Rattle.cx_laws_tickets.specs.cx_laws_keys.proofs.keys.Known.{Inv, IsAllowed, counter_at}
use Rattle.cx_laws_tickets.specs.cx_laws_keys.proofs.keys.Lists.{all-map, some-of}
use Rattle.cx_laws_tickets.specs.cx_laws_keys.proofs.keys.Premises.{behind, logged}
use Rattle.cx_laws_tickets.specs.cx_laws_keys.proofs.keys.Uses.{AtMonitor, Connected, Grows, Login, Means, Use, Uses, WholeRun}
use Rattle.cx_laws_keys.proofs.series.Frames.{frame-sealed}
use Rattle.cx_laws_keys.specs.cx_rules.specs.Payloads.{control}
use Rattle.cx_laws_keys.specs.cx_rules.specs.Secured.{Keys, SealedFrame, connector_keys, sealed_under, secure_frame}
use Rattle.cx_laws_tickets.specs.cx_sealed.specs.Records.{connection_secret_layout}
use Rattle.cx_laws_tickets.specs.cx_sealed.specs.Unsealing.{spelled_by}
use Rattle.cx_laws_tickets.specs.cx_sealed.specs.declared.connection_secret.ConnectionSecret.{ConnectionSecret}
use Rattle.cx_secure.specs.Plains.{plains}
use Rattle.cx_steps.specs.Premises.{HasSealed, HasSigned, Seals, Signs}
use Rattle.cx_steps.specs.declared.seals.Logged.{Logged}
use Rattle.cx_steps.specs.declared.seals.SealEntry.{SealEntry}
use Rattle.cx_steps.specs.declared.seals.SealEntry.TheVariants as entry
use Rattle.cx_steps.specs.declared.seals.SealMark.{SealMark}
use Rattle.cx_laws_tickets.proofs.fetch.AskedKnown.{AreFirst}
use Rattle.cx_laws_tickets.proofs.fetch.MonClientFacts.{HasAnswered}
use Rattle.cx_laws_tickets.proofs.fetch.Later.{acceptor-end, connector-end}
use Rattle.cx_laws_tickets.proofs.fetch.Retied.{Handed}
use Rattle.cx_laws_tickets.proofs.fetch.SameChallenge.{TellsChallenge, TellsReply, never-own, same-challenge}
use Rattle.cx_laws_tickets.proofs.fetch.Signed.{one-segment}
use Rattle.cx_laws_tickets.proofs.fetch.Words.{IsIn}

-- ---- what is handed over

-- the two directions of a connection secret begin with the nonce of an acceptor and with that of a connector, and both count from 0 on
pub record AreWays (secret : List ℕ) : Type 0 where
  pub into : slice_index secret 16 < 128
  pub out : 128 ≤ slice_index secret 28
  pub counts_into : counter_at secret 20 ≡ 0
  pub counts_out : counter_at secret 32 ≡ 0

-- the session key is that of an entity's ticket for AUTH, and the key that of its link to the monitor, with this number and this challenge
pub record IsHanded (us : Uses) (h : Handed) : Type 0 where
  pub name : Name
  pub session : Means us h.session (Login name)
  pub means : Means us h.key (Connected node.Monitor h.number name (AtMonitor h.challenge))

-- the monitor signed what it heard at the login of this session key
pub record SignsHanded (logins : List Handed) (mark : SealMark) : Type 0 where
  pub handed : Handed
  pub has : IsIn handed logins
  pub session_is : handed.session ≡ mark.key
  pub tells : TellsChallenge handed.challenge mark.content

-- this secret was handed over under this session key
pub record TellsHanded (logins : List Handed) (session secret : List ℕ) : Type 0 where
  pub handed : Handed
  pub has : IsIn handed logins
  pub session_is : handed.session ≡ session
  pub key_is : handed.key ≡ take 16 secret
  pub ways : AreWays secret

-- what is signed or sealed under the session key of a login
abbrev pub IsKnownSo : Uses → List Handed → SealEntry → Type 0
IsKnownSo us logins (entry.Signed mark) = (name : Name) → Means us mark.key (Login name) → SignsHanded logins mark ⊎ TellsReply mark.content
IsKnownSo us logins (entry.Sealed mark) =
    (name : Name) → Means us mark.key (Login name) → (x : ConnectionSecret) → spelled_by connection_secret_layout.form mark.content ≡ Some x → TellsHanded logins mark.key x.secret
IsKnownSo us logins (entry.Opened mark) = Unit {0}
IsKnownSo us logins (entry.Checked mark) = Unit {0}
IsKnownSo us logins (entry.Drawn mark) = Unit {0}

abbrev pub AllKnown : Uses → List Handed → List Logged → Type 0
AllKnown us logins log = AllByRecursion (λ (at : Logged). IsKnownSo us logins at.entry) log

-- one session key was handed over once
abbrev pub AreOnce : List Handed → Type 0
AreOnce logins = (g h : Handed) → IsIn g logins → IsIn h logins → g.session ≡ h.session → g ≡ h

pub record AreHanded (us : Uses) (logins : List Handed) (log : List Logged) : Type 0 where
  pub known : AllKnown us logins log
  pub handed : AllByRecursion (IsHanded us) logins
  pub once : AreOnce logins

-- ---- more is logged

-- what is logged has nothing to do with logins: it is under another key, no connection secret is sealed, and what is signed is what one that logs in took
abbrev pub IsNoLogin : Use → Type 0
IsNoLogin u = (name : Name) → u ≡ Login name → ⊥

abbrev pub IsPlain : Uses → SealEntry → Type 0
IsPlain us (entry.Signed mark) = ((u : Use) × Means us mark.key u × IsNoLogin u) ⊎ TellsReply mark.content
IsPlain us (entry.Sealed mark) = ((u : Use) × Means us mark.key u × IsNoLogin u) ⊎ ((x : ConnectionSecret) → spelled_by connection_secret_layout.form mark.content ≡ Some x → ⊥)
IsPlain us (entry.Opened mark) = Unit {0}
IsPlain us (entry.Checked mark) = Unit {0}
IsPlain us (entry.Drawn mark) = Unit {0}

pub plain-known : (us : Uses) → ((k : List ℕ) (u v : Use) → Means us k u → Means us k v → u ≡ v) → (logins : List Handed) (e : SealEntry) → IsPlain us e → IsKnownSo us logins e
plain-known us one logins (entry.Signed mark) (inl (u, means, none)) = λ name m. absurd (none name (one mark.key u (Login name) means m))
plain-known us one logins (entry.Signed mark) (inr reply) = λ name m. inr reply
plain-known us one logins (entry.Sealed mark) (inl (u, means, none)) = λ name m x e. absurd (none name (one mark.key u (Login name) means m))
plain-known us one logins (entry.Sealed mark) (inr none) = λ name m x e. absurd (none x e)
plain-known us one logins (entry.Opened mark) h = tt
plain-known us one logins (entry.Checked mark) h = tt
plain-known us one logins (entry.Drawn mark) h = tt

pub all-onto : (P : SealEntry → Type 0) (n : NodeName) (line : ℕ) (es : List SealEntry) (log : List Logged) → AllByRecursion (λ (at : Logged). P at.entry) log → AllByRecursion P es
    → AllByRecursion (λ (at : Logged). P at.entry) (behind n line es log)
all-onto P n line [] log h g = h
all-onto P n line (e ∷ es) log h g = all-onto P n line es (logged n line e ∷ log) (g.0, h) g.1

module _ (run : WholeRun) (whole : List Logged) (us vs : Uses) (log : List Logged) (J : List Entry) (one : (k : List ℕ) (u v : Use) → Means vs k u → Means vs k v → u ≡ v) (f : Grows us vs)
    (i : Inv run whole us log J) (logins more : List Handed) (sub : (h : Handed) → IsIn h logins → IsIn h more) where
  -- a use that is known before is that which is known then
  was-login : (key : List ℕ) (u : Use) (name : Name) → Means us key u → Means vs key (Login name) → Means us key (Login name)
  was-login key u name means m = subst (λ (v : Use). Means us key v) (one key u (Login name) (f.means key u means) m) means

  known-grows : (n : NodeName) (e : SealEntry) → IsAllowed us J n e → IsKnownSo us logins e → IsKnownSo vs more e
  known-grows n (entry.Signed mark) a k = λ name m. by_signed (k name (was-login mark.key a.0 name a.1 m))
    where
      by_signed : SignsHanded logins mark ⊎ TellsReply mark.content → SignsHanded more mark ⊎ TellsReply mark.content
      by_signed (inl s) = inl (record { handed = s.handed; has = sub s.handed s.has; session_is = s.session_is; tells = s.tells })
      by_signed (inr reply) = inr reply
  known-grows n (entry.Sealed mark) a k = λ name m x e.
      let t = k name (was-login mark.key a.0 name a.1 m) x e in
      record { handed = t.handed; has = sub t.handed t.has; session_is = t.session_is; key_is = t.key_is; ways = t.ways }
  known-grows n (entry.Opened mark) a k = tt
  known-grows n (entry.Checked mark) a k = tt
  known-grows n (entry.Drawn mark) a k = tt

  all-grow : (xs : List Logged) → AllByRecursion (λ (at : Logged). IsAllowed us J at.node at.entry) xs → AllKnown us logins xs → AllKnown vs more xs
  all-grow [] a k = tt
  all-grow (at ∷ xs) a k = (known-grows at.node at.entry a.0 k.0, all-grow xs a.1 k.1)

  handed-grows : (h : Handed) → IsHanded us h → IsHanded vs h
  handed-grows h g = record {
    name = g.name;
    session = f.means h.session (Login g.name) g.session;
    means = f.means h.key (Connected node.Monitor h.number g.name (AtMonitor h.challenge)) g.means;
  }

  pub all-handed : AllByRecursion (IsHanded us) logins → AllByRecursion (IsHanded vs) logins
  all-handed h = all-map (IsHanded us) (IsHanded vs) handed-grows logins h

  -- behind what is logged, where that is known
  pub handed-behind : (n : NodeName) (line : ℕ) (es : List SealEntry) → AreHanded us logins log → AllByRecursion (IsHanded vs) more → AreOnce more → AllByRecursion (IsKnownSo vs more) es
      → AreHanded vs more (behind n line es log)
  handed-behind n line es h handed once known =
      record { known = all-onto (IsKnownSo vs more) n line es log (all-grow log i.allowed h.known) known; handed = handed; once = once }

-- a step that has nothing to do with logins
pub handed-stays : (run : WholeRun) (whole : List Logged) (us vs : Uses) (log : List Logged) (J : List Entry) (n : NodeName) (line : ℕ) (es : List SealEntry)
    → ((k : List ℕ) (u v : Use) → Means vs k u → Means vs k v → u ≡ v) → Grows us vs → Inv run whole us log J → (logins : List Handed) → AreHanded us logins log
    → AllByRecursion (IsPlain vs) es → AreHanded vs logins (behind n line es log)
handed-stays run whole us vs log J n line es one f i logins h plain =
    handed-behind run whole us vs log J one f i logins logins (λ g has. has) n line es h (all-handed run whole us vs log J one f i logins logins (λ g has. has) h.handed) h.once
    (all-map (IsPlain vs) (IsKnownSo vs logins) (plain-known vs one logins) es plain)

-- one that hands over once more, under a session key that was not handed over
pub once-more : (logins : List Handed) (h : Handed) → AreOnce logins → ((g : Handed) → IsIn g logins → g.session ≡ h.session → ⊥) → AreOnce (h ∷ logins)
once-more logins h once fresh a b (inl e) (inl d) same = sym e ∙ d
once-more logins h once fresh a b (inl e) (inr d) same = absurd (fresh b d (sym same ∙ sym (ap (λ (x : Handed). x.session) e)))
once-more logins h once fresh a b (inr e) (inl d) same = absurd (fresh a e (same ∙ sym (ap (λ (x : Handed). x.session) d)))
once-more logins h once fresh a b (inr e) (inr d) same = once a b e d same

pub handed-more : (run : WholeRun) (whole : List Logged) (us vs : Uses) (log : List Logged) (J : List Entry) (n : NodeName) (line : ℕ) (es : List SealEntry)
    → ((k : List ℕ) (u v : Use) → Means vs k u → Means vs k v → u ≡ v) → Grows us vs → Inv run whole us log J → (logins : List Handed) → AreHanded us logins log → (h : Handed)
    → IsHanded vs h → ((g : Handed) → IsIn g logins → g.session ≡ h.session → ⊥) → AllByRecursion (IsKnownSo vs (h ∷ logins)) es → AreHanded vs (h ∷ logins) (behind n line es log)
handed-more run whole us vs log J n line es one f i logins a h is fresh known =
    handed-behind run whole us vs log J one f i logins (h ∷ logins) (λ g has. inr has) n line es a
    (is, all-handed run whole us vs log J one f i logins (h ∷ logins) (λ g has. inr has) a.handed) (once-more logins h a.once fresh) known

-- ---- what was handed over

pub handed-in : (us : Uses) (logins : List Handed) (h : Handed) → AllByRecursion (IsHanded us) logins → IsIn h logins → IsHanded us h
handed-in us [] h all has = absurd has
handed-in us (g ∷ logins) h all (inl is) = subst (IsHanded us) is all.0
handed-in us (g ∷ logins) h all (inr has) = handed-in us logins h all.1 has

-- a connection secret that was sealed under the session key of a login
pub secret-told : (us : Uses) (logins : List Handed) (log : List Logged) → AllKnown us logins log → (mark : SealMark) → HasSealed log mark → (name : Name) → Means us mark.key (Login name)
    → (x : ConnectionSecret) → spelled_by connection_secret_layout.form mark.content ≡ Some x → TellsHanded logins mark.key x.secret
secret-told us logins log known mark sealed name means x e =
    some-of (λ (at : Logged). Seals mark at.entry) (λ (at : Logged). IsKnownSo us logins at.entry) (TellsHanded logins mark.key x.secret) (λ at s k. by_entry at.entry s k) log sealed known
  where
    by_entry : (at : SealEntry) → Seals mark at → IsKnownSo us logins at → TellsHanded logins mark.key x.secret
    by_entry (entry.Sealed other) same k =
        let t = k name (subst (λ (key : List ℕ). Means us key (Login name)) (sym same.key) means) x (ap (λ (c : List ℕ). spelled_by connection_secret_layout.form c) same.content ∙ e) in
        record { handed = t.handed; has = t.has; session_is = t.session_is ∙ same.key; key_is = t.key_is; ways = t.ways }
    by_entry (entry.Signed other) same k = absurd same
    by_entry (entry.Opened other) same k = absurd same
    by_entry (entry.Checked other) same k = absurd same
    by_entry (entry.Drawn other) same k = absurd same

-- where the monitor's signature under this session key covers what one sent first, the challenge of the login is the one of one's own
pub handed-challenge : (us : Uses) (logins : List Handed) (log : List Logged) → AllKnown us logins log → AreOnce logins → (h : Handed) → IsIn h logins → (name : Name)
    → Means us h.session (Login name) → (covered : List ℕ) → HasSigned log (record { key = h.session; kind = kind.Signature; content = covered }) → (D : ℕ → Frame → Type 0)
    → (answered : HasAnswered D covered) → answered.challenge < 2 ^ 64 → h.challenge ≡ answered.challenge
handed-challenge us logins log known once h has name means covered signed D answered small =
    some-of (λ (at : Logged). Signs mark at.entry) (λ (at : Logged). IsKnownSo us logins at.entry) (h.challenge ≡ answered.challenge) (λ at s k. by_entry at.entry s k) log signed known
  where
    mark : SealMark
    mark = record { key = h.session; kind = kind.Signature; content = covered }

    by_entry : (at : SealEntry) → Signs mark at → IsKnownSo us logins at → h.challenge ≡ answered.challenge
    by_entry (entry.Signed other) same k = by_told (k name (subst (λ (key : List ℕ). Means us key (Login name)) (sym same.key) means))
      where
        by_told : SignsHanded logins other ⊎ TellsReply other.content → h.challenge ≡ answered.challenge
        by_told (inl s) =
            let is : h ≡ s.handed = once h s.handed has s.has (sym (s.session_is ∙ same.key)) in
            let tells : TellsChallenge s.handed.challenge covered = subst (TellsChallenge s.handed.challenge) same.content s.tells in
            ap (λ (x : Handed). x.challenge) is ∙ same-challenge D s.handed.challenge covered tells answered small
        by_told (inr reply) = absurd (never-own D covered (subst TellsReply same.content reply) answered)
    by_entry (entry.Sealed other) same k = absurd same
    by_entry (entry.Opened other) same k = absurd same
    by_entry (entry.Checked other) same k = absurd same
    by_entry (entry.Drawn other) same k = absurd same

-- ---- the keys of one that logs in

-- AUTH_SIGNATURE, sealed under the keys of such a secret, has the number 0 and one part
pub first-keys : (secret signature : List ℕ) (sealed : SealedFrame) → AreWays secret → length signature ≡ 32
    → secure_frame (connector_keys secret) (control 7 auth_signature_layout.form (record { signature = signature })) ≡ Ok sealed → (sealed.keys.key ≡ take 16 secret) × AreFirst sealed.keys
first-keys secret signature sealed ways long made =
    let keys : Keys = connector_keys secret in
    let f : Frame = control 7 auth_signature_layout.form (record { signature = signature }) in
    let is : sealed ≡ sealed_under keys f = (frame-sealed keys f sealed made).0 in
    let one : length (plains f) ≡ 1 = one-segment 7 (record { align = 8; bytes = signature }) long f refl in
    let counts : keys.out.counter ≡ 0 = ways.counts_out in (
      ap (λ (s : SealedFrame). s.keys.key) is,
      subst (λ (s : SealedFrame). AreFirst s.keys) (sym is) (record {
        out = connector-end keys.out.fixed ways.out refl;
        into = acceptor-end keys.into.fixed ways.into refl;
        out_counter = omega (arith, counts, one);
        into_counter = ways.counts_into;
      }),
    )
