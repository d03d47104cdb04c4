-- What one that logs in reads of AUTH_DONE: a connection secret that the monitor handed over under the session key with which it goes on. Its AUTH_SIGNATURE
-- covers what it took, and has the number 0 under the key of that secret.
use Rattle.std.proofs.Common.{◌≡◌, ◌==◌, ◌+◌, ℕ, Bool, true, false, List, [], ◌∷◌, ◌++◌, length, take, Option, Some, None, Result, Ok, Err, inl, inr, ◌⊎◌, refl, sym, ap, ◌∙◌, subst, arith}
use Rattle.std.specs.Prelude.{◌&&◌, not, if◌then◌else◌, IfSome}
use Rattle.std.specs.List.{AllByRecursion, cons_option}
use Rattle.std.specs.Str.{bytes_eq}
use Rattle.cx_base.specs.Names.{Name}
use Rattle.cx_base.specs.declared.nodes.NodeName.{NodeName}
use Rattle.cx_base.specs.declared.nodes.NodeName.TheVariants as node
use Rattle.cx_cbc.specs.Opened.{opened}
use Rattle.cx_control.specs.Auth.{auth_done_layout, auth_signature_layout}
use Rattle.cx_control.specs.BadMethod.{bad_method_layout}
use Rattle.cx_control.specs.declared.auth.AuthDone.{AuthDone}
use Rattle.cx_frame.specs.declared.frame.Frame.{Frame}
use Rattle.cx_journal.specs.declared.entries.Entry.{Entry}
use Rattle.cx_journal.specs.declared.faults.BytesFault.{BytesFault}
use Rattle.cx_journal.specs.declared.faults.LoginFault.TheVariants.{Mode, Unopened}
use Rattle.cx_journal.specs.declared.outcomes.Reason.{Reason}
use Rattle.cx_journal.specs.declared.outcomes.Reason.TheVariants as reason
use Rattle.cx_journal.specs.declared.premises.KeyKind.TheVariants as kind
use Rattle.cx_laws_tickets.specs.cx_laws_keys.proofs.keys.Known.{Inv, IsAllowed}
use Rattle.cx_laws_tickets.specs.cx_laws_keys.proofs.keys.Lists.{all-append}
use Rattle.cx_laws_tickets.specs.cx_laws_keys.proofs.keys.Premises.{AreGranted, behind, granted-first, granted-rest}
use Rattle.cx_laws_tickets.specs.cx_laws_keys.proofs.keys.Steps.{inv-all}
use Rattle.cx_laws_tickets.specs.cx_laws_keys.proofs.keys.Uses.{AtMonitor, Connected, Login, Means, Secret, Tie, Use, Uses, WholeRun}
use Rattle.cx_laws_tickets.specs.cx_laws_keys.proofs.login.MonClientRows.{NeverExcepted, auth-tells}
use Rattle.cx_laws_keys.proofs.series.Contents.{content_where, contents_by}
use Rattle.cx_laws_keys.proofs.series.Frames.{frame-sealed}
use Rattle.cx_laws_tickets.specs.cx_login.specs.Held.{Held}
use Rattle.cx_laws_tickets.specs.cx_login.specs.Unlocking.{Unlocked, ◌>>=◌, going_on, login_in, login_of_parts, made, told, told_each, unlocked, unlocked_as}
use Rattle.cx_laws_tickets.specs.cx_login.specs.declared.client.LoggedIn.{LoggedIn}
use Rattle.cx_laws_keys.specs.cx_rules.proofs.Sizes.{length-code}
use Rattle.cx_laws_keys.specs.cx_rules.specs.Connector.{MonClientArrival, MonClientRow, AwaitsSignature, Login as Opening, Stage, on_bad_method, on_done, on_login_done, on_opened, signs, while_proved}
use Rattle.cx_laws_keys.specs.cx_rules.specs.Links.{Link}
use Rattle.cx_laws_keys.specs.cx_rules.specs.Payloads.{control, due, payload, whole as whole_form}
use Rattle.cx_laws_keys.specs.cx_rules.specs.Rows.{refuses}
use Rattle.cx_laws_keys.specs.cx_rules.specs.Secured.{Keys, SealedFrame, Secured, connector_keys, part_seals, secure_frame, signature, signed_frame, signing}
use Rattle.cx_laws_tickets.specs.cx_sealed.specs.Records.{connection_secret_layout}
use Rattle.cx_laws_tickets.specs.cx_sealed.specs.Unsealing.{unsealed_as}
use Rattle.cx_laws_tickets.specs.cx_sealed.specs.declared.connection_secret.ConnectionSecret.{ConnectionSecret}
use Rattle.cx_secure.specs.Parts.{nonce_at}
use Rattle.cx_secure.specs.Plains.{plains}
use Rattle.cx_steps.specs.Premises.{HasSealed, IsExcepted}
use Rattle.cx_steps.specs.declared.seals.Logged.{Logged}
use Rattle.cx_steps.specs.declared.seals.SealEntry.{SealEntry}
use Rattle.cx_steps.specs.declared.seals.SealEntry.TheVariants as entry
use Rattle.cx_steps.specs.declared.seals.SealMark.{SealMark}
use Rattle.cx_wire.specs.Logins.{login_done_layout}
use Rattle.cx_wire.specs.declared.logins.LoginDone.{LoginDone}
use Rattle.cx_wire.specs.declared.tickets.TicketPart.{TicketPart}
use Rattle.cx_laws_tickets.proofs.fetch.AskedKnown.{AreFirst}
use Rattle.cx_laws_tickets.proofs.fetch.Handed.{AllKnown, IsHanded, IsKnownSo, IsNoLogin, IsPlain, TellsHanded, all-onto, first-keys, handed-in, secret-told}
use Rattle.cx_laws_tickets.proofs.fetch.Later.{IsEnd, connector-end, connectors-apart, of_acceptor, of_connector}
use Rattle.cx_laws_tickets.proofs.fetch.Retied.{Handed}
use Rattle.cx_laws_tickets.proofs.fetch.RowWords.{IsQuiet, by-append, quiet-none}
use Rattle.cx_laws_tickets.proofs.fetch.SameChallenge.{TellsReply}
use Rattle.cx_laws_tickets.proofs.fetch.Signed.{one-segment}
use Rattle.cx_laws_tickets.proofs.fetch.Words.{IsIn}
use Rattle.cx_laws_tickets.proofs.fetch.Opens.{AreOpened, each-opened, login-opened, opened-all, told-opened, unlocked-opened, with_secret}

-- ---- what is read of it

module _ (run : WholeRun) (whole : List Logged) (n : NodeName) (line : ℕ) (us : Uses) (J : List Entry) (name : Name) (free : NeverExcepted run whole n us name) (logins : List Handed) where
  abbrev pub KnownAt : List Logged → Type 0
  KnownAt log = Inv run whole us log J × AllKnown us logins log

  abbrev Tells : {X : Type 0} → Unlocked X → (X → Type 0) → Type 0
  Tells {X} u P = (log : List Logged) → KnownAt log → AreGranted run.leaked whole n line log u.seals → (x : X) → u.value ≡ Some x → P x

  known-behind : (log : List Logged) (es : List SealEntry) → AreOpened es → KnownAt log → KnownAt (behind n line es log)
  known-behind log es h k = (
    inv-all run whole us log J n line es k.0 (opened-all (IsAllowed us J n) (λ mark. tt) es h),
    all-onto (IsKnownSo us logins) n line es log k.1 (opened-all (IsKnownSo us logins) (λ mark. tt) es h),
  )

  tells-then : {A B : Type 0} (first : Unlocked A) (next : A → Unlocked B) (P : A → Type 0) (Q : B → Type 0) → AreOpened first.seals → Tells first P
      → ((a : A) → P a → Tells (next a) Q) → Tells (first >>= next) Q
  tells-then {A} {B} first next P Q h says more log k g x e = by_value first.value refl g e
    where
      by_value : (v : Option A) → first.value ≡ v → AreGranted run.leaked whole n line log (going_on first.seals v next).seals → (going_on first.seals v next).value ≡ Some x → Q x
      by_value None is g e = absurd cc
      by_value (Some a) is g e =
          more a (says log k (granted-first run.leaked whole n line log first.seals (next a).seals g) a is) (behind n line first.seals log) (known-behind log first.seals h k)
          (granted-rest run.leaked whole n line log first.seals (next a).seals g) x e

  -- the connection secret that opened was handed over under the session key
  connection-tells : (session connection : List ℕ) → Means us session (Login name)
      → Tells (unlocked connection_secret_layout.form kind.Session session connection) (λ (x : ConnectionSecret). TellsHanded logins session x.secret)
  connection-tells session connection means log k g x e = by_opened (opened session connection) g e
    where
      by_opened : (o : Option (List ℕ)) → AreGranted run.leaked whole n line log (unlocked_as kind.Session session (unsealed_as connection_secret_layout.form o)).seals
          → (unlocked_as kind.Session session (unsealed_as connection_secret_layout.form o)).value ≡ Some x → TellsHanded logins session x.secret
      by_opened None g e = absurd cc
      by_opened (Some content) g e = by_owed g.0.owes
        where
          mark : SealMark
          mark = record { key = session; kind = kind.Session; content = content }

          by_owed : IsExcepted run.leaked whole n session ⊎ HasSealed log mark → TellsHanded logins session x.secret
          by_owed (inl excepted) = absurd (free session (Login name) means refl excepted)
          by_owed (inr sealed) = secret-told us logins log k.1 mark sealed name means x e

  -- a login that was read
  abbrev pub IsHandedLogin : LoggedIn → Type 0
  IsHandedLogin login = Means us login.auth.session (Login name) × TellsHanded logins login.auth.session login.secret

  secret-tells : (auth : Held) (tickets : List Held) (connection : List ℕ) → Means us auth.session (Login name) → Tells (with_secret auth tickets connection) IsHandedLogin
  secret-tells auth tickets connection means =
      tells-then (unlocked connection_secret_layout.form kind.Session auth.session connection) (λ opened. made (record { auth = auth; tickets = tickets; secret = opened.secret }))
      (λ x. TellsHanded logins auth.session x.secret) IsHandedLogin (unlocked-opened connection_secret_layout.form kind.Session auth.session connection)
      (connection-tells auth.session connection means) (λ opened t log k g x e. login_is opened x t e)
    where
      login_is : (opened : ConnectionSecret) (x : LoggedIn) → TellsHanded logins auth.session opened.secret → Some (record { auth = auth; tickets = tickets; secret = opened.secret }) ≡ Some x
          → IsHandedLogin x
      login_is opened x t e =
          let login : LoggedIn = record { auth = auth; tickets = tickets; secret = opened.secret } in
          let same : login ≡ x = cc in
          subst IsHandedLogin same (means, t)

  pub login-handed : (secret : List ℕ) (parts : List TicketPart) (connection : List ℕ) → Means us secret (Secret name) → Tells (login_of_parts secret parts connection) IsHandedLogin
  login-handed secret [] connection means = λ log k g x e. absurd cc
  login-handed secret (first ∷ parts) connection means =
      tells-then (told kind.Principal secret first) (λ auth. told_each auth.session parts >>= λ tickets. with_secret auth tickets connection) (λ auth. Means us auth.session (Login name)) IsHandedLogin
      (told-opened kind.Principal secret first) (λ log k g x e. auth-tells run whole n line us J name free secret first means log k.0 g x e)
      (λ auth m. tells-then (told_each auth.session parts) (λ tickets. with_secret auth tickets connection) (λ tickets. Unit {0}) IsHandedLogin (each-opened auth.session parts)
      (λ log k g x e. tt) (λ tickets _. secret-tells auth tickets connection m))

-- ---- the row of AUTH_DONE

-- the keys of a link behind AUTH_DONE are those of one login, whose session key it has
pub record HasHandedKeys (us : Uses) (logins : List Handed) (name : Name) (s : Secured) : Type 0 where
  pub handed : Handed
  pub has : IsIn handed logins
  pub session_is : handed.session ≡ s.session
  pub key_is : handed.key ≡ s.keys.key
  pub means : Means us s.session (Login name)
  pub first : AreFirst s.keys

-- the link waits for the monitor's signature, which has to cover all that was sent first
pub record GoesSigned (us : Uses) (logins : List Handed) (name : Name) (number : ℕ) (sent : List ℕ) (l : Link Stage) : Type 0 where
  pub s : Secured
  pub login : Opening
  pub stage_is : l.stage ≡ AwaitsSignature s login
  pub number_is : l.number ≡ number
  pub covered : s.covered ≡ sent
  pub keys : HasHandedKeys us logins name s

-- nothing is sealed under any key but with the number 0
abbrev pub SealsNothing : List SealEntry → Type 0
SealsNothing es = (key : List ℕ) → (contents_by key of_connector es ≡ []) × (contents_by key of_acceptor es ≡ [])

pub record SignsRow (us : Uses) (logins : List Handed) (name : Name) (number : ℕ) (sent : List ℕ) (row : MonClientRow) : Type 0 where
  pub link : IfSome row.link (GoesSigned us logins name number sent)
  pub plain : AllByRecursion (IsPlain us) row.seals
  pub none : SealsNothing row.seals

both-nothing : (xs ys : List SealEntry) → SealsNothing xs → SealsNothing ys → SealsNothing (xs ++ ys)
both-nothing xs ys h g key = (
  by-append key of_connector xs ys ∙ ap (λ (l : List (List ℕ)). l ++ contents_by key of_connector ys) (h key).0 ∙ (g key).0,
  by-append key of_acceptor xs ys ∙ ap (λ (l : List (List ℕ)). l ++ contents_by key of_acceptor ys) (h key).1 ∙ (g key).1,
)

opened-nothing : (es : List SealEntry) → AreOpened es → SealsNothing es
opened-nothing es h key = (quiet-none key of_connector es (opened-all IsQuiet (λ mark. tt) es h), quiet-none key of_acceptor es (opened-all IsQuiet (λ mark. tt) es h))

and-false : (b : Bool) → (b && false) ≡ false
and-false true = refl
and-false false = refl

-- one content that passes no test
pub one-nothing : (mark : SealMark) → of_connector mark.content ≡ false → of_acceptor mark.content ≡ false → SealsNothing (entry.Sealed mark ∷ [])
one-nothing mark first second key = (by_test of_connector first, by_test of_acceptor second)
  where
    by_test : (test : List ℕ → Bool) → test mark.content ≡ false → contents_by key test (entry.Sealed mark ∷ []) ≡ []
    by_test test fails =
        ap (λ (t : Bool). cons_option (content_where t mark.content) []) (ap (λ (t : Bool). bytes_eq mark.key key && t) fails ∙ and-false (bytes_eq mark.key key))

parts-nothing : (key fixed : List ℕ) (counter : ℕ) (texts : List (List ℕ)) → counter ≡ 0 → length texts ≡ 1 → IsEnd of_connector fixed → SealsNothing (part_seals key fixed counter texts)
parts-nothing key fixed counter [] none one is = absurd (omega (arith, one))
parts-nothing key fixed counter (text ∷ []) none one is =
    one-nothing (record { key = key; kind = kind.Connection; content = nonce_at fixed counter ++ text })
    (ap (λ (m : ℕ). of_connector (nonce_at fixed m ++ text)) none ∙ is.first text) (connectors-apart fixed is counter text)
parts-nothing key fixed counter (text ∷ second ∷ texts) none one is = absurd (omega (arith, one))

-- the key of a link is no session key
pub no-login : (acceptor : NodeName) (number : ℕ) (name : Name) (tie : Tie) → IsNoLogin (Connected acceptor number name tie)
no-login acceptor number name tie other e = cc

pub parts-plain : (us : Uses) (key fixed : List ℕ) (counter : ℕ) (texts : List (List ℕ)) → (u : Use) → Means us key u → IsNoLogin u → AllByRecursion (IsPlain us) (part_seals key fixed counter texts)
parts-plain us key fixed counter [] u means none = tt
parts-plain us key fixed counter (text ∷ texts) u means none = (inl (u, means, none), parts-plain us key fixed (counter + 1) texts u means none)

module _ (run : WholeRun) (whole : List Logged) (n : NodeName) (line : ℕ) (us : Uses) (J : List Entry) (name : Name) (free : NeverExcepted run whole n us name) (logins : List Handed)
    (all : AllByRecursion (IsHanded us) logins) (a : MonClientArrival) (reply : TellsReply (take a.link.taken a.link.received)) where
  abbrev Signs : MonClientRow → Type 0
  Signs row = SignsRow us logins name a.link.number a.link.sent row

  refuses-row : (why : Reason) (es : List SealEntry) → AreOpened es → Signs (refuses a why es)
  refuses-row why es h = record { link = tt; plain = opened-all (IsPlain us) (λ mark. tt) es h; none = opened-nothing es h }

  abbrev Login_ : LoggedIn → Type 0
  Login_ x = IsHandedLogin run whole n line us J name free logins x

  abbrev received : List ℕ
  received = take a.link.taken a.link.received

  -- with any signature of 32 bytes
  signature-row : (gid : ℕ) (es : List SealEntry) (x : LoggedIn) → AreOpened es → Login_ x → (code : List ℕ) → length code ≡ 32
      → Signs (signs a (record { gid = gid; opened = x }) es
      (signing x.auth.session received (secure_frame (connector_keys x.secret) (control 7 auth_signature_layout.form (record { signature = code })))))
  signature-row gid es x h (means, t) code long = by_sealed (secure_frame keys f) refl
    where
      keys : Keys
      keys = connector_keys x.secret

      f : Frame
      f = control 7 auth_signature_layout.form (record { signature = code })

      login : Opening
      login = record { gid = gid; opened = x }

      handed : IsHanded us t.handed
      handed = handed-in us logins t.handed all t.has

      linked : Use
      linked = Connected node.Monitor t.handed.number handed.name (AtMonitor t.handed.challenge)

      parts : List SealEntry
      parts = part_seals keys.key keys.out.fixed keys.out.counter (plains f)

      parts-all : AllByRecursion (IsPlain us) parts
      parts-all =
          parts-plain us keys.key keys.out.fixed keys.out.counter (plains f) linked (subst (λ (k : List ℕ). Means us k linked) t.key_is handed.means)
          (no-login node.Monitor t.handed.number handed.name (AtMonitor t.handed.challenge))

      parts-none : SealsNothing parts
      parts-none =
          parts-nothing keys.key keys.out.fixed keys.out.counter (plains f) t.ways.counts_out (one-segment 7 (record { align = 8; bytes = code }) long f refl)
          (connector-end keys.out.fixed t.ways.out refl)

      by_sealed : (r : Result SealedFrame BytesFault) → secure_frame keys f ≡ r → Signs (signs a login es (signing x.auth.session received r))
      by_sealed (Err why) e = refuses-row (reason.Bytes why) es h
      by_sealed (Ok sealed) e =
          let first = first-keys x.secret code sealed t.ways long e in
          let seals : sealed.seals ≡ parts = ap (λ (s : SealedFrame). s.seals) (frame-sealed keys f sealed e).0 in
          record {
            link = record {
              s = record { keys = sealed.keys; session = x.auth.session; covered = a.link.sent };
              login = login;
              stage_is = refl;
              number_is = refl;
              covered = refl;
              keys = record { handed = t.handed; has = t.has; session_is = t.session_is; key_is = t.key_is ∙ sym first.0; means = means; first = first.1 };
            };
            plain = all-append (IsPlain us) es (signature x.auth.session received ∷ sealed.seals) (opened-all (IsPlain us) (λ mark. tt) es h)
                (inr reply, subst (AllByRecursion (IsPlain us)) (sym seals) parts-all);
            none = both-nothing es (signature x.auth.session received ∷ sealed.seals) (opened-nothing es h) (subst SealsNothing (sym seals) parts-none);
          }

  signs-row : (gid : ℕ) (es : List SealEntry) (x : LoggedIn) → AreOpened es → Login_ x → Signs (on_opened a gid es (Some x))
  signs-row gid es x h says = signature-row gid es x h says _ (length-code x.auth.session received)

  opened-row : (gid : ℕ) (es : List SealEntry) (value : Option LoggedIn) → AreOpened es → ((x : LoggedIn) → value ≡ Some x → Login_ x) → Signs (on_opened a gid es value)
  opened-row gid es None h says = refuses-row (reason.Login Unopened) es h
  opened-row gid es (Some x) h says = signs-row gid es x h (says x refl)

  module _ (log : List Logged) (known : KnownAt run whole n line us J name free logins log) (own : Means us a.own.secret (Secret name)) where
    abbrev Granted : List SealEntry → Type 0
    Granted es = AreGranted run.leaked whole n line log es

    -- what opened is granted, whatever comes of it
    opened-granted : (gid : ℕ) (es : List SealEntry) (value : Option LoggedIn) → Granted (on_opened a gid es value).seals → Granted es
    opened-granted gid es None g = g
    opened-granted gid es (Some x) g = by_signed (signed_frame (connector_keys x.secret) x.auth.session received) g
      where
        by_signed : (r : Result SealedFrame BytesFault) → Granted (signs a (record { gid = gid; opened = x }) es r).seals → Granted es
        by_signed (Err why) g = g
        by_signed (Ok sealed) g = granted-first run.leaked whole n line log es sealed.seals g

    login_done-row : (gid : ℕ) (read : Result LoginDone BytesFault) → Granted (on_login_done a gid read).seals → Signs (on_login_done a gid read)
    login_done-row gid (Err why) g = refuses-row (reason.Bytes why) [] tt
    login_done-row gid (Ok done) g =
        let u : Unlocked LoggedIn = login_in a.own.secret done in
        opened-row gid u.seals u.value (login-opened a.own.secret done.tickets done.connection_secret)
        (λ x e. login-handed run whole n line us J name free logins a.own.secret done.tickets done.connection_secret own log known (opened-granted gid u.seals u.value g) x e)

    done-row : (read : Result AuthDone BytesFault) → Granted (on_done a read).seals → Signs (on_done a read)
    done-row (Err why) g = refuses-row (reason.Bytes why) [] tt
    done-row (Ok done) g = by_test (not (done.mode == 2)) g
      where
        by_test : (t : Bool) → Granted (if t then refuses a (reason.Login Mode) [] else on_login_done a done.gid (whole_form login_done_layout.form done.payload)).seals
            → Signs (if t then refuses a (reason.Login Mode) [] else on_login_done a done.gid (whole_form login_done_layout.form done.payload))
        by_test true g = refuses-row (reason.Login Mode) [] tt
        by_test false g = login_done-row done.gid (whole_form login_done_layout.form done.payload) g

    bad_method-row : (read : Result (ℕ × (ℕ × (List ℕ × List ℕ))) BytesFault) → Signs (on_bad_method a read)
    bad_method-row (Err why) = refuses-row (reason.Bytes why) [] tt
    bad_method-row (Ok fields) = record { link = tt; plain = tt; none = λ key. (refl, refl) }

    -- so whatever is read behind the proof
    pub proved-row : (f : Frame) → Granted (while_proved a f).seals → Signs (while_proved a f)
    proved-row f g = by_test (f.tag == 3) g
      where
        by_test : (t : Bool) → Granted (if t then on_bad_method a (payload bad_method_layout.form f) else on_done a (due 6 auth_done_layout.form f)).seals
            → Signs (if t then on_bad_method a (payload bad_method_layout.form f) else on_done a (due 6 auth_done_layout.form f))
        by_test true g = bad_method-row (payload bad_method_layout.form f)
        by_test false g = done-row (due 6 auth_done_layout.form f) g
