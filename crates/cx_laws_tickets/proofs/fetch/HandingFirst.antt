-- Behind a step of the monitor that hands over nothing is said on any link, and the link that goes on has sent its AUTH_SIGNATURE alone under its key, which is new.
use Rattle.std.proofs.Common.{◌≡◌, ℕ, Bool, true, false, List, [], ◌∷◌, ◌++◌, length, take, Option, Some, None, refl, sym, ap, ◌∙◌, subst, arith}
use Rattle.std.proofs.lemmas.Slice.Eq.{bytes_eq-Decides}
use Rattle.std.specs.Prelude.{◌&&◌}
use Rattle.std.specs.List.{AllByRecursion, cons_option, flat_map}
use Rattle.std.specs.Str.{bytes_eq}
use Rattle.cx_base.specs.Names.{Name}
use Rattle.cx_base.specs.declared.kinds.EntityType.{EntityType}
use Rattle.cx_base.specs.declared.kinds.EntityType.TheVariants.{Auth}
use Rattle.cx_base.specs.declared.nodes.NodeName.{NodeName}
use Rattle.cx_base.specs.declared.nodes.NodeName.TheVariants as node
use Rattle.cx_control.specs.Auth.{auth_signature_layout}
use Rattle.cx_dice.specs.Draws.{connection_of, session_of}
use Rattle.cx_enc.specs.declared.keys.Key.{Key}
use Rattle.cx_frame.specs.declared.frame.Frame.{Frame}
use Rattle.cx_journal.specs.declared.entries.Entry.{Entry}
use Rattle.cx_journal.specs.declared.premises.KeyKind.TheVariants as kind
use Rattle.cx_laws_tickets.specs.cx_keyserver.specs.Servers.{generations_of}
use Rattle.cx_laws_tickets.specs.cx_laws_keys.proofs.keys.Known.{Inv, IsAllowed}
use Rattle.cx_laws_tickets.specs.cx_laws_keys.proofs.keys.Premises.{AreGranted, behind}
use Rattle.cx_laws_tickets.specs.cx_laws_keys.proofs.keys.Uses.{AreGenerated, AtMonitor, Connected, Grows, Login, Means, Secret, Use, Uses, WholeRun}
use Rattle.cx_laws_tickets.specs.cx_laws_keys.proofs.login.Issuing.{acceptor-counts, acceptor-sends, connector-counts, connector-sends}
use Rattle.cx_laws_keys.proofs.series.Contents.{content_of, content_where, contents-behind, contents_by, contents_in}
use Rattle.cx_laws_keys.proofs.series.Frames.{frame-sealed}
use Rattle.cx_laws_keys.specs.cx_rules.specs.Judged.{LogsDraw}
use Rattle.cx_laws_keys.specs.cx_rules.specs.Monitor.{MonitorArrival, MonitorRow}
use Rattle.cx_laws_keys.specs.cx_rules.specs.MonitorLogin.{occasion}
use Rattle.cx_laws_keys.specs.cx_rules.specs.Payloads.{control}
use Rattle.cx_laws_keys.specs.cx_rules.specs.Secured.{Keys, SealedFrame, acceptor_keys, part_seals, sealed_under, signature}
use Rattle.cx_laws_keys.specs.cx_rules.specs.Tickets.{ticket_seals}
use Rattle.cx_laws_keys.specs.cx_rules.specs.Verdicts.{key_of, secret_seals}
use Rattle.cx_secure.specs.Contents.{sealed_contents}
use Rattle.cx_secure.specs.Parts.{nonce_at}
use Rattle.cx_secure.specs.Plains.{plains}
use Rattle.cx_steps.specs.declared.seals.DrawMark.TheVariants as draw
use Rattle.cx_steps.specs.declared.seals.Logged.{Logged}
use Rattle.cx_steps.specs.declared.seals.SealEntry.{SealEntry}
use Rattle.cx_steps.specs.declared.seals.SealEntry.TheVariants as entry
use Rattle.cx_steps.specs.declared.seals.SealMark.{SealMark}
use Rattle.cx_laws_tickets.proofs.fetch.AskedKnown.{AreTold, Events, IsBearingFirst, IsSaid, IsTrueGiven, Told}
use Rattle.cx_laws_tickets.proofs.fetch.AskedWords.{Given, given_frame}
use Rattle.cx_laws_tickets.proofs.fetch.Handed.{AreHanded}
use Rattle.cx_laws_tickets.proofs.fetch.HandedLogin.{SealsNothing, one-nothing}
use Rattle.cx_laws_tickets.proofs.fetch.HandingStep.{handed, key-means, key-new_use}
use Rattle.cx_laws_tickets.proofs.fetch.Later.{IsEnd, acceptor-end, acceptors-apart, connector-end, of_acceptor, of_connector}
use Rattle.cx_laws_tickets.proofs.fetch.MonitorHands.{AreSilent, HandsOver}
use Rattle.cx_laws_tickets.proofs.fetch.MonitorMoves.{IsAnyLogin, both-none}
use Rattle.cx_laws_tickets.proofs.fetch.Retied.{Handed, generated-retied, inv-retied, means-before, means-retied, retied}
use Rattle.cx_laws_tickets.proofs.fetch.RowWords.{AreQuiet, AreStill, quiet-none}
use Rattle.cx_laws_tickets.proofs.fetch.SameChallenge.{TellsChallenge}
use Rattle.cx_laws_tickets.proofs.fetch.Signed.{one-segment}
use Rattle.cx_laws_tickets.proofs.fetch.StillReplies.{apart-still, tickets-apart}
use Rattle.cx_laws_tickets.proofs.fetch.ToldStays.{SealsNone}
use Rattle.cx_laws_tickets.proofs.fetch.Words.{parts_of, said-has, said_under}

pub silent-quiet : (es : List SealEntry) → AreSilent es → AreQuiet es
silent-quiet [] h = tt
silent-quiet (entry.Opened mark ∷ es) h = (tt, silent-quiet es h.1)
silent-quiet (entry.Checked mark ∷ es) h = (tt, silent-quiet es h.1)
silent-quiet (entry.Drawn mark ∷ es) h = (tt, silent-quiet es h.1)
silent-quiet (entry.Sealed mark ∷ es) h = absurd h.0
silent-quiet (entry.Signed mark ∷ es) h = absurd h.0

-- the one part of AUTH_SIGNATURE of an acceptor
parts-nothing-at : (key fixed : List ℕ) (counter : ℕ) (texts : List (List ℕ)) → counter ≡ 0 → length texts ≡ 1 → IsEnd of_acceptor fixed → SealsNothing (part_seals key fixed counter texts)
parts-nothing-at key fixed counter [] none one is = absurd (omega (arith, one))
parts-nothing-at key fixed counter (text ∷ []) none one is =
    one-nothing (record { key = key; kind = kind.Connection; content = nonce_at fixed counter ++ text }) (acceptors-apart fixed is counter text)
    (ap (λ (m : ℕ). of_acceptor (nonce_at fixed m ++ text)) none ∙ is.first text)
parts-nothing-at key fixed counter (text ∷ second ∷ texts) none one is = absurd (omega (arith, one))

-- nothing was sealed under a key without a use
pub unused-none : (test : List ℕ → Bool) (us : Uses) (J : List Entry) (key : List ℕ) (log : List Logged) → AllByRecursion (λ (at : Logged). IsAllowed us J at.node at.entry) log
    → ((u : Use) → Means us key u → ⊥) → contents_in key test log ≡ []
unused-none test us J key [] h none = refl
unused-none test us J key (at ∷ log) h none =
    ap (λ (l : List (List ℕ)). l ++ cons_option (content_of key test at.entry) []) (unused-none test us J key log h.1 none)
    ∙ ap (λ (o : Option (List ℕ)). cons_option o []) (by_entry at.node at.entry h.0)
  where
    by_mark : (n : NodeName) (mark : SealMark) (there : Bool) → bytes_eq mark.key key ≡ there → IsAllowed us J n (entry.Sealed mark) → content_where (there && test mark.content) mark.content ≡ None
    by_mark n mark false e a = refl
    by_mark n mark true e a = absurd (none a.0 (subst (λ (k : List ℕ). Means us k a.0) ((bytes_eq-Decides mark.key key).0 e) a.1))

    by_entry : (n : NodeName) (e : SealEntry) → IsAllowed us J n e → content_of key test e ≡ None
    by_entry n (entry.Sealed mark) a = by_mark n mark (bytes_eq mark.key key) refl a
    by_entry n (entry.Signed mark) a = refl
    by_entry n (entry.Opened mark) a = refl
    by_entry n (entry.Checked mark) a = refl
    by_entry n (entry.Drawn mark) a = refl

no-contents : (fixed : List ℕ) → sealed_contents fixed 1 [] ≡ []
unfolding sealed_contents
no-contents fixed = refl

-- nor was anything said there
pub unused-unsaid : (run : WholeRun) (E : Events) (us : Uses) (logins : List Handed) (told : Told) (log : List Logged) → AreTold run E (retied logins us) told log → (key : List ℕ)
    → ((u : Use) → Means us key u → ⊥) → said_under key told.given ≡ []
unused-unsaid run E us logins told log t key unused = by_said (said_under key told.given) refl
  where
    by_said : (xs : List Given) → said_under key told.given ≡ xs → said_under key told.given ≡ []
    by_said [] e = e
    by_said (x ∷ xs) e =
        let s : IsSaid given_frame of_acceptor (IsTrueGiven run E told.asked) (retied logins us) told.given log key = t.given.spoken key x (said-has key told.given x xs e) in
        let b = means-before logins us key (Connected node.Monitor s.is.number s.name (AtMonitor s.challenge)) s.is.means in
        absurd (unused b.0 b.1)

-- behind AUTH_SIGNATURE, where nothing else was said or sealed under the key
pub first-sent : (us : Uses) (told : Told) (log : List Logged) (number : ℕ) (name : Name) (challenge : ℕ) (block : List ℕ) → length block ≡ 384 → (code : List ℕ) → length code ≡ 32
    → (session covered : List ℕ) → Means us (take 16 (connection_of block)) (Connected node.Monitor number name (AtMonitor challenge))
    → said_under (take 16 (connection_of block)) told.given ≡ [] → contents_in (take 16 (connection_of block)) of_acceptor log ≡ []
    → (let keys : Keys = acceptor_keys (connection_of block) in
    IsBearingFirst us told log number
    (record { keys = (sealed_under keys (control 7 auth_signature_layout.form (record { signature = code }))).keys; session = session; covered = covered }) name)
first-sent us told log number name challenge block drawn code long session covered means unsaid none =
    let keys : Keys = acceptor_keys (connection_of block) in
    let frame : Frame = control 7 auth_signature_layout.form (record { signature = code }) in
    let one : length (plains frame) ≡ 1 = one-segment 7 (record { align = 8; bytes = code }) long frame refl in
    let parts : parts_of given_frame (said_under keys.key told.given) ≡ [] = ap (λ (l : List Given). parts_of given_frame l) unsaid in
    let counts : keys.out.counter ≡ 0 = acceptor-counts block drawn in
    let size : length (parts_of given_frame (said_under keys.key told.given)) ≡ 0 = ap (λ (l : List (List ℕ)). length l) parts in
    record {
      challenge = challenge;
      means = means;
      parts = record {
        sealed = none ∙ sym (ap (λ (l : List (List ℕ)). sealed_contents keys.out.fixed 1 l) parts ∙ no-contents keys.out.fixed);
        counter = omega (arith, counts, one, size);
      };
      out = acceptor-end keys.out.fixed (acceptor-sends block drawn) refl;
      into = connector-end keys.into.fixed (connector-sends block drawn) refl;
      fits = omega (arith, counts, one);
      untaken = connector-counts block drawn;
    }

module _ (run : WholeRun) (whole : List Logged) (us vs : Uses) (log : List Logged) (J K : List Entry) (n : NodeName) (line : ℕ) (a : MonitorArrival) (row : MonitorRow) (h : HandsOver a row)
    (i : Inv run whole us log J) (f : Grows us vs) (j : Inv run whole vs (behind n line row.seals log) K) (granted : AreGranted run.leaked whole n line log row.seals)
    (drawn : length a.draw ≡ 384) (logins : List Handed) (known : AreHanded (retied logins us) logins log)
    (generated : (service : EntityType) → AreGenerated vs service (generations_of h.server.state service)) (session_means : Means vs (session_of Auth a.draw) (Login h.name))
    (drew : LogsDraw (draw.Session (session_of Auth a.draw) h.name) row.seals) (challenge : ℕ) (tells : TellsChallenge challenge (take a.link.taken a.link.received))
    (own : (key : Key) → key_of h.server h.name ≡ Some key → Means vs key.secret (Secret h.name)) where
  abbrev new : Handed
  new = handed run whole us vs log J K n line a row h i f j granted drawn logins known generated session_means drew challenge tells

  abbrev more : List Handed
  more = new ∷ logins

  abbrev ws : Uses
  ws = retied more vs

  abbrev later : List Logged
  later = behind n line row.seals log

  means : Means ws (take 16 (connection_of a.draw)) (Connected node.Monitor a.link.number h.name (AtMonitor challenge))
  means = key-means run whole us vs log J K n line a row h i f j granted drawn logins known generated session_means drew challenge tells

  one : (k : List ℕ) (u v : Use) → Means ws k u → Means ws k v → u ≡ v
  one = (inv-retied more vs K run whole later j).one

  abbrev session : List ℕ
  session = session_of Auth a.draw

  abbrev keys : Keys
  keys = acceptor_keys (connection_of a.draw)

  abbrev frame : Frame
  frame = control 7 auth_signature_layout.form (record { signature = h.code })

  abbrev tickets : List SealEntry
  tickets = flat_map (ticket_seals h.server h.own.secret session) h.tickets

  abbrev last : List SealEntry
  last = secret_seals h.name session (connection_of a.draw)

  tickets-still : AreStill (IsAnyLogin ws) tickets
  tickets-still =
      apart-still ws one tickets
      (tickets-apart ws (occasion a) h.server (record { name = h.name; gid = 0; session = session; last = 0 }) []
      (λ service. generated-retied more vs K service (generations_of h.server.state service) (generated service))
      (λ key e. means-retied more vs key.secret (Secret h.name) (own key e)) (means-retied more vs session (Login h.name) session_means) h.own.secret
      (means-retied more vs h.own.secret (Secret h.name) (own h.own h.own_is)) h.tickets)

  last-still : AreStill (IsAnyLogin ws) last
  last-still = apart-still ws one last (tt, ((Login h.name, means-retied more vs session (Login h.name) session_means, tt), tt))

  sealed-is : h.sealed ≡ sealed_under keys frame
  sealed-is = (frame-sealed keys frame h.sealed h.made).0

  one-part : length (plains frame) ≡ 1
  one-part = one-segment 7 (record { align = 8; bytes = h.code }) h.long frame refl

  acceptor : IsEnd of_acceptor keys.out.fixed
  acceptor = acceptor-end keys.out.fixed (acceptor-sends a.draw drawn) refl

  signature-nothing : SealsNothing h.sealed.seals
  signature-nothing =
      subst SealsNothing (sym (ap (λ (s : SealedFrame). s.seals) sealed-is))
      (parts-nothing-at keys.key keys.out.fixed keys.out.counter (plains frame) (acceptor-counts a.draw drawn) one-part acceptor)

  by-test : (key : List ℕ) (test : List ℕ → Bool) → IsAnyLogin ws key → contents_by key test h.sealed.seals ≡ [] → contents_by key test row.seals ≡ []
  by-test key test there none =
      let rest : List SealEntry = signature session (take a.link.taken a.link.received) ∷ h.sealed.seals in
      ap (λ (es : List SealEntry). contents_by key test es) h.seals
      ∙ both-none key test h.quiet ((tickets ++ last) ++ rest) (quiet-none key test h.quiet (silent-quiet h.quiet h.silent))
      (both-none key test (tickets ++ last) rest (both-none key test tickets last (tickets-still key test there) (last-still key test there)) none)

  -- nothing is said
  pub hands-none : SealsNone ws row.seals
  hands-none key there = (by-test key of_connector there (signature-nothing key).0, by-test key of_acceptor there (signature-nothing key).1)

  unused : (u : Use) → Means us (take 16 (connection_of a.draw)) u → ⊥
  unused = key-new_use run whole us vs log J K n line a row h i f j granted drawn logins known generated session_means drew challenge tells

  module _ (E : Events) (told : Told) (t : AreTold run E (retied logins us) told log) where
    unsaid : said_under keys.key told.given ≡ []
    unsaid = unused-unsaid run E us logins told log t keys.key unused

    contents-none : contents_in keys.key of_acceptor later ≡ []
    contents-none =
        contents-behind keys.key of_acceptor n line row.seals log
        ∙ ap (λ (l : List (List ℕ)). l ++ contents_by keys.key of_acceptor row.seals) (unused-none of_acceptor us J keys.key log i.allowed unused)
        ∙ (hands-none keys.key (h.name, challenge, record { number = a.link.number; means = means })).1

    -- so the link has sent nothing but its AUTH_SIGNATURE
    first-keys : IsBearingFirst ws told later a.link.number (record { keys = (sealed_under keys frame).keys; session = h.secured.session; covered = h.secured.covered }) h.name
    first-keys = first-sent ws told later a.link.number h.name challenge a.draw drawn h.code h.long h.secured.session h.secured.covered means unsaid contents-none

    pub first-begins : IsBearingFirst ws told later a.link.number h.secured h.bearer.name
    first-begins =
        let same : h.secured.keys ≡ (sealed_under keys frame).keys = h.keys_are ∙ ap (λ (s : SealedFrame). s.keys) sealed-is in
        subst (λ (m : Name). IsBearingFirst ws told later a.link.number h.secured m) (sym h.named)
        (subst (λ (k : Keys). IsBearingFirst ws told later a.link.number (record { keys = k; session = h.secured.session; covered = h.secured.covered }) h.name) (sym same) first-keys)
