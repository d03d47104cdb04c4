-- A link to the monitor of one that logs in that waits for the monitor's signature: where that is found right, the key is the one of the challenge that this very
-- link drew, and CLIENT_IDENT is what it says first under it.
use Rattle.std.proofs.Common.{◌≡◌, ◌<◌, ◌^◌, ℕ, Bool, true, false, List, [], ◌∷◌, ◌++◌, map, None, Result, Ok, Err, inl, inr, ◌⊎◌, refl, sym, subst}
use Rattle.std.specs.Prelude.{if◌then◌else◌}
use Rattle.std.specs.List.{AllByRecursion}
use Rattle.cx_base.specs.Names.{Name}
use Rattle.cx_base.specs.declared.nodes.NodeName.{NodeName}
use Rattle.cx_base.specs.declared.nodes.NodeName.TheVariants as node
use Rattle.cx_control.specs.Auth.{auth_signature_layout}
use Rattle.cx_control.specs.declared.auth.AuthSignature.{AuthSignature}
use Rattle.cx_frame.specs.declared.frame.Frame.{Frame}
use Rattle.cx_journal.specs.declared.entries.Entry.{Entry}
use Rattle.cx_journal.specs.declared.faults.BytesFault.{BytesFault}
use Rattle.cx_journal.specs.declared.faults.LoginFault.TheVariants.{SignatureWrong}
use Rattle.cx_journal.specs.declared.outcomes.Reason.{Reason}
use Rattle.cx_journal.specs.declared.outcomes.Reason.TheVariants as reason
use Rattle.cx_journal.specs.declared.premises.KeyKind.TheVariants as kind
use Rattle.cx_laws_tickets.specs.cx_laws_keys.proofs.keys.Known.{Inv}
use Rattle.cx_laws_tickets.specs.cx_laws_keys.proofs.keys.Premises.{AreGranted, behind, granted-rest}
use Rattle.cx_laws_tickets.specs.cx_laws_keys.proofs.keys.Uses.{AtMonitor, Connected, Grows, Login, Means, Use, Uses, WholeRun}
use Rattle.cx_laws_tickets.specs.cx_laws_keys.proofs.login.MonClientRows.{NeverExcepted}
use Rattle.cx_laws_keys.specs.cx_rules.specs.Connector.{MonClientArrival, MonClientRow, AwaitsIdent, Login as Opening, Stage, client_ident, holding, identifies, on_signature}
use Rattle.cx_laws_keys.specs.cx_rules.specs.Fronts.{keys_behind, opened_parts, sealed_ahead, taking}
use Rattle.cx_laws_keys.specs.cx_rules.specs.Holdings.{held_login}
use Rattle.cx_laws_keys.specs.cx_rules.specs.Links.{Link}
use Rattle.cx_laws_keys.specs.cx_rules.specs.Payloads.{due}
use Rattle.cx_laws_keys.specs.cx_rules.specs.Rows.{at, refuses, secure_sent, with_opened}
use Rattle.cx_laws_keys.specs.cx_rules.specs.Secured.{SealedFrame, Secured, is_signed, secure_frame, signature_found, under}
use Rattle.cx_dice.specs.Draws.{cookie_of}
use Rattle.cx_steps.specs.Premises.{HasSigned, IsExcepted}
use Rattle.cx_steps.specs.declared.seals.DrawMark.TheVariants as draw
use Rattle.cx_steps.specs.declared.seals.Logged.{Logged}
use Rattle.cx_steps.specs.declared.seals.SealEntry.{SealEntry}
use Rattle.cx_steps.specs.declared.seals.SealEntry.TheVariants as entry
use Rattle.cx_laws_keys.specs.cx_stream.specs.Openings.{front_contents}
use Rattle.cx_laws_keys.specs.cx_stream.specs.SecureStreams.{Ahead}
use Rattle.cx_laws_tickets.proofs.fetch.AskedKnown.{AreTold, Events, IsLoginKey, IsUnsaid, MoreEvents, Told}
use Rattle.cx_laws_tickets.proofs.fetch.MonClientFacts.{HasAnswered}
use Rattle.cx_laws_tickets.proofs.fetch.Handed.{AllKnown, AreHanded, IsHanded, IsKnownSo, all-onto, handed-challenge, handed-in}
use Rattle.cx_laws_tickets.proofs.fetch.HandedLogin.{HasHandedKeys}
use Rattle.cx_laws_tickets.proofs.fetch.Retied.{Handed}
use Rattle.cx_laws_tickets.proofs.fetch.RowWords.{AreQuiet, opened-quiet}

same-login : (a b : Name) → Login a ≡ Login b → a ≡ b
same-login a b e = cc

-- what opens is known so
parts-known : (us : Uses) (logins : List Handed) (ahead : Ahead) → AllByRecursion (IsKnownSo us logins) (opened_parts ahead)
parts-known us logins ahead = over (front_contents ahead)
  where
    over : (contents : List (List ℕ))
        → AllByRecursion (IsKnownSo us logins) (map (λ (content : List ℕ). entry.Opened (record { key = ahead.key; kind = kind.Connection; content = content })) contents)
    over [] = tt
    over (content ∷ contents) = (tt, over contents)

quiet-append : (xs ys : List SealEntry) → AreQuiet xs → AreQuiet ys → AreQuiet (xs ++ ys)
quiet-append [] ys h g = g
quiet-append (x ∷ xs) ys h g = (h.0, quiet-append xs ys h.1 g)

-- ---- the key

-- where the monitor's signature under the session key covers what this link sent first, the key is of the challenge that it drew
pub own-key : (run : WholeRun) (whole : List Logged) (us : Uses) (log : List Logged) (J : List Entry) → Inv run whole us log J → (logins : List Handed) (later : List Logged) → AllKnown us logins later
    → AreHanded us logins log → (name : Name) (s : Secured) → HasHandedKeys us logins name s → HasSigned later (record { key = s.session; kind = kind.Signature; content = s.covered })
    → (D : ℕ → Frame → Type 0) (answered : HasAnswered D s.covered) → answered.challenge < 2 ^ 64 → IsLoginKey us s.keys.key name answered.challenge
own-key run whole us log J i logins later known a name s keys signed D answered small =
    let h : Handed = keys.handed in
    let is : IsHanded us h = handed-in us logins h a.handed keys.has in
    let session : Means us h.session (Login name) = subst (λ (k : List ℕ). Means us k (Login name)) (sym keys.session_is) keys.means in
    let named : is.name ≡ name = same-login is.name name (i.one h.session (Login is.name) (Login name) is.session session) in
    let there : HasSigned later (record { key = h.session; kind = kind.Signature; content = s.covered }) =
    subst (λ (k : List ℕ). HasSigned later (record { key = k; kind = kind.Signature; content = s.covered })) (sym keys.session_is) signed in
    let own : h.challenge ≡ answered.challenge = handed-challenge us logins later known a.once h keys.has name session s.covered there D answered small in
    record {
      number = h.number;
      means = subst (λ (k : List ℕ). Means us k (Connected node.Monitor h.number name (AtMonitor answered.challenge))) keys.key_is
          (subst (λ (c : ℕ). Means us h.key (Connected node.Monitor h.number name (AtMonitor c))) own
          (subst (λ (m : Name). Means us h.key (Connected node.Monitor h.number m (AtMonitor h.challenge))) named is.means));
    }

-- ---- the turn

module _ (run : WholeRun) (whole : List Logged) (us vs : Uses) (log : List Logged) (J : List Entry) (n : NodeName) (line : ℕ)
    (one : (k : List ℕ) (u v : Use) → Means vs k u → Means vs k v → u ≡ v) (f : Grows us vs) (i : Inv run whole us log J) (E F : Events) (more : MoreEvents E F) (told : Told)
    (t : AreTold run E us told log) (name : Name) (link : ℕ) (s : Secured) (l : Link Stage) (g : Frame) (m : ℕ) (free : NeverExcepted run whole n us name) (logins : List Handed)
    (handed : AreHanded us logins log) (keys : HasHandedKeys us logins name s) (answered : HasAnswered (λ (c : ℕ) (_ : Frame). E.drew name link c) s.covered)
    (small : answered.challenge < 2 ^ 64) (unsaid : IsUnsaid E us told name link answered.challenge) (login : Opening) (a : MonClientArrival) (now : F.was_asked name a.reading) where
  abbrev k : Secured
  k = under s (keys_behind s.keys g)

  abbrev b : MonClientArrival
  b = at a (taking l m)

  abbrev opened : List SealEntry
  opened = opened_parts (sealed_ahead s.keys l)

  abbrev row_of : Result AuthSignature BytesFault → MonClientRow
  row_of read = with_opened opened (on_signature b k login read)

  abbrev Granted : MonClientRow → Type 0
  Granted row = AreGranted run.leaked whole n line log row.seals

  -- what is checked was signed
  checked : Granted (with_opened opened (identifies b k login)) → HasSigned (behind n line opened log) (record { key = s.session; kind = kind.Signature; content = s.covered })
  checked granted = by_sealed (secure_frame k.keys ident) (granted-rest run.leaked whole n line log opened (identifies b k login).seals granted)
    where
      cookie : ℕ
      cookie = cookie_of a.draw

      ident : Frame
      ident = client_ident a.own login.gid 1 cookie

      holds : MonClientArrival
      holds = holding b (held_login b.own.holdings login.gid login.opened)

      by_owed : IsExcepted run.leaked whole n s.session ⊎ HasSigned (behind n line opened log) (record { key = s.session; kind = kind.Signature; content = s.covered })
          → HasSigned (behind n line opened log) (record { key = s.session; kind = kind.Signature; content = s.covered })
      by_owed (inl excepted) = absurd (free s.session (Login name) keys.means refl excepted)
      by_owed (inr signed) = signed

      by_sealed : (r : Result SealedFrame BytesFault)
          → AreGranted run.leaked whole n line (behind n line opened log)
          (secure_sent holds k (λ behind. AwaitsIdent behind login.opened.auth.session) (signature_found k ∷ entry.Drawn (draw.Cookie cookie) ∷ []) r).seals
          → HasSigned (behind n line opened log) (record { key = s.session; kind = kind.Signature; content = s.covered })
      by_sealed (Ok sealed) g = by_owed g.0.owes
      by_sealed (Err why) g = by_owed g.0.owes

  -- where the monitor's signature is found right, the key is of the challenge that this link drew
  right-key : Granted (with_opened opened (identifies b k login)) → IsLoginKey us s.keys.key name answered.challenge
  right-key granted =
      let known : AllKnown us logins (behind n line opened log) = all-onto (IsKnownSo us logins) n line opened log handed.known (parts-known us logins (sealed_ahead s.keys l)) in
      own-key run whole us log J i logins (behind n line opened log) known handed name s keys (checked granted) (λ (c : ℕ) (_ : Frame). E.drew name link c) answered small

  -- ---- whether it is found right

  -- nothing is sealed, and the link is shut
  abbrev pub Shuts : MonClientRow → Type 0
  Shuts row = AreQuiet row.seals × (row.link ≡ None)

  -- the signature is read, and the key is of the challenge that this link drew
  abbrev pub Finds : Type 0
  Finds = (found : AuthSignature) × (due 7 auth_signature_layout.form g ≡ Ok found) × IsLoginKey us s.keys.key name answered.challenge

  shuts-quietly : (why : Reason) → Shuts (with_opened opened (refuses b why []))
  shuts-quietly why = (quiet-append opened [] (opened-quiet (sealed_ahead s.keys l)) tt, refl)

  finds-test : (found : AuthSignature) → due 7 auth_signature_layout.form g ≡ Ok found → (t : Bool)
      → Granted (with_opened opened (if t then identifies b k login else refuses b (reason.Login SignatureWrong) []))
      → Shuts (with_opened opened (if t then identifies b k login else refuses b (reason.Login SignatureWrong) [])) ⊎ Finds
  finds-test found read true granted = inr (found, read, right-key granted)
  finds-test found read false granted = inl (shuts-quietly (reason.Login SignatureWrong))

  finds-read : (r : Result AuthSignature BytesFault) → due 7 auth_signature_layout.form g ≡ r → Granted (row_of r) → Shuts (row_of r) ⊎ Finds
  finds-read (Err why) read granted = inl (shuts-quietly (reason.Bytes why))
  finds-read (Ok found) read granted = finds-test found read (is_signed k found.signature) granted

  pub signed-finds : Granted (row_of (due 7 auth_signature_layout.form g)) → Shuts (row_of (due 7 auth_signature_layout.form g)) ⊎ Finds
  signed-finds granted = finds-read (due 7 auth_signature_layout.form g) refl granted
