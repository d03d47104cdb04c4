-- A step of the monitor that hands over: the session key and the key of the link are new, so one login more is known, with the link's number and the challenge that
-- the monitor heard.
use Rattle.std.proofs.Common.{◌≡◌, ℕ, Bool, true, false, cond, List, [], ◌∷◌, ◌++◌, length, take, Option, Some, inl, inr, ◌⊎◌, refl, sym, ap, subst, arith, length-append}
use Rattle.std.proofs.lemmas.Slice.Eq.{bytes_eq-Decides}
use Rattle.std.specs.List.{AllByRecursion, flat_map}
use Rattle.std.specs.Str.{bytes_eq}
use Rattle.cx_base.specs.Names.{Name}
use Rattle.cx_base.specs.declared.kinds.EntityType.{EntityType}
use Rattle.cx_base.specs.declared.kinds.EntityType.TheVariants.{Auth}
use Rattle.cx_base.specs.declared.nodes.NodeName.{NodeName}
use Rattle.cx_base.specs.declared.nodes.NodeName.TheVariants as node
use Rattle.cx_dice.specs.Draws.{connection_of, counter_0, nonce_start, part, session_of}
use Rattle.cx_enc.specs.FieldLaws.{sized_fits}
use Rattle.cx_journal.specs.declared.entries.Entry.{Entry}
use Rattle.cx_journal.specs.declared.premises.KeyKind.TheVariants as kind
use Rattle.cx_laws_tickets.specs.cx_keyserver.specs.Servers.{generations_of}
use Rattle.cx_laws_tickets.specs.cx_laws_keys.proofs.keys.Known.{HasLogin, Inv, Says, opened_says}
use Rattle.cx_laws_tickets.specs.cx_laws_keys.proofs.keys.Lists.{all-append, all-map, some-left, some-map, some-right}
use Rattle.cx_laws_tickets.specs.cx_laws_keys.proofs.keys.Premises.{AreGranted, DrawsKey, behind, logged, new-key}
use Rattle.cx_laws_tickets.specs.cx_laws_keys.proofs.keys.Reading.{read_connection}
use Rattle.cx_laws_tickets.specs.cx_laws_keys.proofs.keys.Uses.{AreGenerated, AtMonitor, Connected, DrawnAs, Grows, Login, Means, Use, Uses, WholeRun, whose}
use Rattle.cx_laws_tickets.specs.cx_laws_keys.proofs.login.Generations.{length-part}
use Rattle.cx_laws_tickets.specs.cx_laws_keys.proofs.login.Issuing.{acceptor-counts, acceptor-sends, connector-counts, connector-sends, short-connection}
use Rattle.cx_laws_keys.proofs.series.Frames.{frame-sealed}
use Rattle.cx_control.specs.Auth.{auth_signature_layout}
use Rattle.cx_frame.specs.declared.frame.Frame.{Frame}
use Rattle.cx_laws_keys.specs.cx_rules.specs.Judged.{LogsDraw}
use Rattle.cx_laws_keys.specs.cx_rules.specs.Monitor.{MonitorArrival, MonitorRow}
use Rattle.cx_laws_keys.specs.cx_rules.specs.Payloads.{control}
use Rattle.cx_laws_keys.specs.cx_rules.specs.Secured.{Keys, SealedFrame, acceptor_keys, part_seals, signature}
use Rattle.cx_laws_keys.specs.cx_rules.specs.Tickets.{ticket_seals}
use Rattle.cx_laws_keys.specs.cx_rules.specs.Verdicts.{secret_seals}
use Rattle.cx_laws_tickets.specs.cx_sealed.proofs.Found.{spelled_only}
use Rattle.cx_laws_tickets.specs.cx_sealed.specs.Records.{connection_secret_layout}
use Rattle.cx_laws_tickets.specs.cx_sealed.specs.Unsealing.{spelled_by}
use Rattle.cx_laws_tickets.specs.cx_sealed.specs.declared.connection_secret.ConnectionSecret.{ConnectionSecret}
use Rattle.cx_secure.specs.Plains.{plains}
use Rattle.cx_steps.specs.Draws.{key_of}
use Rattle.cx_steps.specs.Onto.{SomeOf}
use Rattle.cx_steps.specs.Premises.{HasSealed, Seals}
use Rattle.cx_steps.specs.declared.seals.DrawMark.{DrawMark}
use Rattle.cx_steps.specs.declared.seals.DrawMark.TheVariants as draw
use Rattle.cx_steps.specs.declared.seals.Logged.{Logged}
use Rattle.cx_steps.specs.declared.seals.SealEntry.{SealEntry}
use Rattle.cx_steps.specs.declared.seals.SealEntry.TheVariants as entry
use Rattle.cx_steps.specs.declared.seals.SealMark.{SealMark}
use Rattle.cx_laws_tickets.proofs.fetch.Handed.{AreHanded, AreWays, IsHanded, IsKnownSo, IsPlain, TellsHanded, handed-in, handed-more, plain-known}
use Rattle.cx_laws_tickets.proofs.fetch.HandedLogin.{no-login, parts-plain}
use Rattle.cx_laws_tickets.proofs.fetch.MonitorHands.{HandsOver, silent-plain, tickets-plain}
use Rattle.cx_laws_tickets.proofs.fetch.Retied.{Handed, StayHanded, challenge_in, found_in, generated-retied, grows-retied, inv-retied, means-before, means-retied, number_in, retied}
use Rattle.cx_laws_tickets.proofs.fetch.SameChallenge.{TellsChallenge}
use Rattle.cx_laws_tickets.proofs.fetch.Words.{IsIn, itself}

-- ---- a connection secret of a draw

pub ways-of : (block : List ℕ) → length block ≡ 384 → AreWays (connection_of block)
ways-of block drawn =
    record { into = acceptor-sends block drawn; out = connector-sends block drawn; counts_into = acceptor-counts block drawn; counts_out = connector-counts block drawn }

connection-long : (block : List ℕ) → length block ≡ 384 → length (connection_of block) ≡ 64
connection-long block drawn =
    let a : List ℕ = counter_0 ++ part 56 24 block in
    let b : List ℕ = counter_0 ++ (nonce_start 128 44 block ++ a) in
    let c : List ℕ = nonce_start 0 32 block ++ b in
    let key : length (part 16 16 block) ≡ 16 = length-part 16 16 block (omega arith) in
    let first : length (part 33 3 block) ≡ 3 = length-part 33 3 block (omega arith) in
    let second : length (part 45 3 block) ≡ 3 = length-part 45 3 block (omega arith) in
    let unused : length (part 56 24 block) ≡ 24 = length-part 56 24 block (omega arith) in
    omega (arith, key, first, second, unused, length-append (part 16 16 block) c, length-append (part 33 3 block) b, length-append (part 45 3 block) a)

-- it is read again as it was written
connection-read : (block : List ℕ) → length block ≡ 384
    → spelled_by connection_secret_layout.form (connection_secret_layout.form.text (record { secret = connection_of block })) ≡ Some (record { secret = connection_of block })
connection-read block drawn =
    let x : ConnectionSecret = record { secret = connection_of block } in
    spelled_only connection_secret_layout.form connection_secret_layout.lawful (connection_secret_layout.form.text x) x
    (((omega arith, refl), sized_fits 64 (connection_of block) (omega arith) (connection-long block drawn)), refl)

-- ---- keys that are drawn are new

key-new : (leaked : List Name) (whole : List Logged) (n : NodeName) (line : ℕ) (key : List ℕ) (es : List SealEntry) (log : List Logged) → AreGranted leaked whole n line log es
    → SomeOf (DrawsKey key) es → SomeOf (λ (at : Logged). DrawsKey key at.entry) log → ⊥
key-new leaked whole n line key [] log g h before = h
key-new leaked whole n line key (e ∷ es) log g (inl here) before = new-key key log e g.0.new here before
key-new leaked whole n line key (e ∷ es) log g (inr h) before = key-new leaked whole n line key es (logged n line e ∷ log) g.1 h (inr before)

drawn-key : (for : Option Name) (key : List ℕ) (e : SealEntry) → DrawnAs for key e → DrawsKey key e
drawn-key for key (entry.Drawn mark) h = h.0
drawn-key for key (entry.Sealed m) h = h
drawn-key for key (entry.Opened m) h = h
drawn-key for key (entry.Signed m) h = h
drawn-key for key (entry.Checked m) h = h

-- a key that is drawn had no use
pub key-unused : (run : WholeRun) (whole : List Logged) (us : Uses) (log : List Logged) (J : List Entry) (n : NodeName) (line : ℕ) (es : List SealEntry) → Inv run whole us log J
    → AreGranted run.leaked whole n line log es → (key : List ℕ) → SomeOf (DrawsKey key) es → (u : Use) → Means us key u → ⊥
key-unused run whole us log J n line es i g key drawn u means =
    key-new run.leaked whole n line key es log g drawn
    (some-map (λ (at : Logged). DrawnAs (whose u) key at.entry) (λ (at : Logged). DrawsKey key at.entry) (λ at d. drawn-key (whose u) key at.entry d) log (i.held key u means))

pub draws-key : (mark : DrawMark) (key : List ℕ) (es : List SealEntry) → key_of mark ≡ Some key → LogsDraw mark es → SomeOf (DrawsKey key) es
draws-key mark key es is h = some-map (λ (e : SealEntry). e ≡ entry.Drawn mark) (DrawsKey key) (λ e same. subst (DrawsKey key) (sym same) is) es h

sealed-behind : (n : NodeName) (line : ℕ) (mark : SealMark) (es : List SealEntry) (log : List Logged) → HasSealed log mark ⊎ SomeOf (Seals mark) es → HasSealed (behind n line es log) mark
sealed-behind n line mark [] log (inl h) = h
sealed-behind n line mark [] log (inr h) = absurd h
sealed-behind n line mark (e ∷ es) log (inl h) = sealed-behind n line mark es (logged n line e ∷ log) (inl (inr h))
sealed-behind n line mark (e ∷ es) log (inr (inl here)) = sealed-behind n line mark es (logged n line e ∷ log) (inl (inl here))
sealed-behind n line mark (e ∷ es) log (inr (inr h)) = sealed-behind n line mark es (logged n line e ∷ log) (inr h)

-- ---- the step

module _ (run : WholeRun) (whole : List Logged) (us vs : Uses) (log : List Logged) (J K : List Entry) (n : NodeName) (line : ℕ) (a : MonitorArrival) (row : MonitorRow) (h : HandsOver a row)
    (i : Inv run whole us log J) (f : Grows us vs) (j : Inv run whole vs (behind n line row.seals log) K) (granted : AreGranted run.leaked whole n line log row.seals)
    (drawn : length a.draw ≡ 384) (logins : List Handed) (known : AreHanded (retied logins us) logins log)
    (generated : (service : EntityType) → AreGenerated vs service (generations_of h.server.state service)) (session_means : Means vs (session_of Auth a.draw) (Login h.name))
    (drew : LogsDraw (draw.Session (session_of Auth a.draw) h.name) row.seals) (challenge : ℕ) (tells : TellsChallenge challenge (take a.link.taken a.link.received)) where
  abbrev session : List ℕ
  session = session_of Auth a.draw

  abbrev secret : List ℕ
  secret = connection_of a.draw

  abbrev pub handed : Handed
  handed = record { session = session; key = take 16 secret; number = a.link.number; challenge = challenge }

  abbrev more : List Handed
  more = handed ∷ logins

  abbrev later : List Logged
  later = behind n line row.seals log

  abbrev mark : SealMark
  mark = record { key = session; kind = kind.Session; content = connection_secret_layout.form.text (record { secret = secret }) }

  -- what is drawn and sealed stands in the row
  in-secret : (P : SealEntry → Type 0) → SomeOf P (secret_seals h.name session secret) → SomeOf P row.seals
  in-secret P s =
      let tickets : List SealEntry = flat_map (ticket_seals h.server h.own.secret session) h.tickets in
      let last : List SealEntry = secret_seals h.name session secret in
      let rest : List SealEntry = signature session (take a.link.taken a.link.received) ∷ h.sealed.seals in
      subst (SomeOf P) (sym h.seals) (some-right P h.quiet ((tickets ++ last) ++ rest) (some-left P (tickets ++ last) rest (some-right P tickets last s)))

  key-drawn : SomeOf (DrawsKey (take 16 secret)) row.seals
  key-drawn = in-secret (DrawsKey (take 16 secret)) (inl refl)

  session-drawn : SomeOf (DrawsKey session) row.seals
  session-drawn = draws-key (draw.Session session h.name) session row.seals refl drew

  -- the key of the link had no use
  pub key-new_use : (u : Use) → Means us (take 16 secret) u → ⊥
  key-new_use u means = key-unused run whole us log J n line row.seals i granted (take 16 secret) key-drawn u means

  -- what was handed over before stays so
  pub stay-handed : StayHanded us logins more
  stay-handed key acceptor number name c means = by_test (bytes_eq (take 16 secret) key) refl
    where
      by_test : (same : Bool) → bytes_eq (take 16 secret) key ≡ same → found_in more key ≡ found_in logins key
      by_test false e = ap (λ (t : Bool). cond t (Some handed) (found_in logins key)) e
      by_test true e =
          absurd (key-unused run whole us log J n line row.seals i granted (take 16 secret) key-drawn (Connected acceptor number name (AtMonitor c))
          (subst (λ (k : List ℕ). Means us k (Connected acceptor number name (AtMonitor c))) (sym ((bytes_eq-Decides (take 16 secret) key).0 e)) means))

  pub grows-handed : Grows (retied logins us) (retied more vs)
  grows-handed = grows-retied us vs logins more stay-handed f

  session-fresh : (g : Handed) → IsIn g logins → g.session ≡ session → ⊥
  session-fresh g has same =
      let is : IsHanded (retied logins us) g = handed-in (retied logins us) logins g known.handed has in
      let b = means-before logins us g.session (Login is.name) is.session in
      key-unused run whole us log J n line row.seals i granted session session-drawn b.0 (subst (λ (k : List ℕ). Means us k b.0) same b.1)

  -- the key is that of a link of the monitor to this entity
  has-login : HasLogin vs h.name (take 16 secret)
  has-login =
      let sealed : HasSealed later mark = sealed-behind n line mark row.seals log (inr (in-secret (Seals mark) (inr (inl (record { key = refl; content = refl }))))) in
      let says : Says vs K session (Login h.name) mark.content = opened_says run whole vs later K j mark sealed (Login h.name) session_means in
      says.1 (record { secret = secret }) (connection-read a.draw drawn)

  found-itself : found_in more (take 16 secret) ≡ Some handed
  found-itself = ap (λ (t : Bool). cond t (Some handed) (found_in logins (take 16 secret))) (itself (take 16 secret))

  -- it is that of this link, with the challenge that was heard
  pub key-means : Means (retied more vs) (take 16 secret) (Connected node.Monitor a.link.number h.name (AtMonitor challenge))
  key-means =
      subst (λ (o : Option Handed). Means (retied more vs) (take 16 secret) (Connected node.Monitor (number_in o has-login.number) h.name (AtMonitor (challenge_in o has-login.challenge))))
      found-itself (means-retied more vs (take 16 secret) (Connected node.Monitor has-login.number h.name (AtMonitor has-login.challenge)) has-login.means)

  pub is-handed : IsHanded (retied more vs) handed
  is-handed = record { name = h.name; session = means-retied more vs session (Login h.name) session_means; means = key-means }

  -- all that is sealed and signed is known
  abbrev KnownSo : SealEntry → Type 0
  KnownSo e = IsKnownSo (retied more vs) more e

  plain-so : (es : List SealEntry) → AllByRecursion (IsPlain (retied more vs)) es → AllByRecursion KnownSo es
  plain-so es p = all-map (IsPlain (retied more vs)) KnownSo (plain-known (retied more vs) (inv-retied more vs K run whole later j).one more) es p

  secret-known : AllByRecursion KnownSo (secret_seals h.name session secret)
  secret-known = (tt, (told, tt))
    where
      told : (name : Name) → Means (retied more vs) session (Login name) → (x : ConnectionSecret) → spelled_by connection_secret_layout.form mark.content ≡ Some x
          → TellsHanded more session x.secret
      told name means x e =
          let same : x.secret ≡ secret = read_connection (record { secret = secret }) x (short-connection a.draw) e in
          record {
            handed = handed;
            has = inl refl;
            session_is = refl;
            key_is = ap (λ (s : List ℕ). take 16 s) (sym same);
            ways = subst AreWays (sym same) (ways-of a.draw drawn);
          }

  parts-known : AllByRecursion KnownSo h.sealed.seals
  parts-known =
      let keys : Keys = acceptor_keys secret in
      let frame : Frame = control 7 auth_signature_layout.form (record { signature = h.code }) in
      let seals : h.sealed.seals ≡ part_seals keys.key keys.out.fixed keys.out.counter (plains frame) = ap (λ (s : SealedFrame). s.seals) (frame-sealed keys frame h.sealed h.made).0 in
      let linked : Use = Connected node.Monitor a.link.number h.name (AtMonitor challenge) in
      subst (AllByRecursion KnownSo) (sym seals) (plain-so (part_seals keys.key keys.out.fixed keys.out.counter (plains frame))
      (parts-plain (retied more vs) keys.key keys.out.fixed keys.out.counter (plains frame) linked key-means (no-login node.Monitor a.link.number h.name (AtMonitor challenge))))

  row-known : AllByRecursion KnownSo row.seals
  row-known =
      let tickets : List SealEntry = flat_map (ticket_seals h.server h.own.secret session) h.tickets in
      let last : List SealEntry = secret_seals h.name session secret in
      let rest : List SealEntry = signature session (take a.link.taken a.link.received) ∷ h.sealed.seals in
      subst (AllByRecursion KnownSo) (sym h.seals) (all-append KnownSo h.quiet ((tickets ++ last) ++ rest) (plain-so h.quiet (silent-plain (retied more vs) h.quiet h.silent))
      (all-append KnownSo (tickets ++ last) rest
      (all-append KnownSo tickets last
      (plain-so tickets (tickets-plain (retied more vs) h.server h.own.secret session (λ service. generated-retied more vs K service (generations_of h.server.state service) (generated service)) h.tickets))
      secret-known)
      ((λ name means. inl (record { handed = handed; has = inl refl; session_is = refl; tells = tells })), parts-known)))

  -- one login more is known
  pub handing-step : AreHanded (retied more vs) more later
  handing-step =
      handed-more run whole (retied logins us) (retied more vs) log J n line row.seals (inv-retied more vs K run whole later j).one grows-handed (inv-retied logins us J run whole log i) logins known
      handed is-handed session-fresh row-known
