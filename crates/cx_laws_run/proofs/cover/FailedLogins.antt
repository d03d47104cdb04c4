-- The turn of a link of the monitor at which it would hand over a login, and the save fails: nothing is sealed or signed, but the keys are drawn, and the link has them.
use Rattle.std.proofs.Common.{◌≡◌, ℕ, Bool, true, false, cond, List, [], ◌∷◌, ◌++◌, filter, take, Option, Some, inl, inr, refl, sym, ap, ◌∙◌, subst}
use Rattle.std.proofs.lemmas.Slice.Eq.{bytes_eq-Decides}
use Rattle.std.specs.Prelude.{IfSome}
use Rattle.std.specs.Str.{bytes_eq}
use Rattle.cx_base.specs.Names.{Name}
use Rattle.cx_base.specs.declared.kinds.EntityType.TheVariants.{Auth}
use Rattle.cx_base.specs.declared.nodes.NodeName.TheVariants as node
use Rattle.cx_control.specs.Auth.{auth_signature_layout}
use Rattle.cx_dice.specs.Draws.{connection_of, session_of}
use Rattle.cx_frame.specs.declared.frame.Frame.{Frame}
use Rattle.cx_journal.specs.declared.entries.Entry.{Entry}
use Rattle.cx_laws_run.specs.cx_laws_keys.proofs.keys.Lists.{all-map}
use Rattle.cx_laws_run.specs.cx_laws_keys.proofs.keys.Premises.{DrawsKey, behind}
use Rattle.cx_laws_run.specs.cx_laws_keys.proofs.keys.Uses.{AtMonitor, Connected, Grows, Login, Means, Use, Uses, WholeRun}
use Rattle.cx_laws_run.specs.cx_laws_keys.proofs.series.Contents.{contents-behind, contents_by, contents_in}
use Rattle.cx_laws_run.specs.cx_laws_keys.proofs.series.Frames.{frame-sealed}
use Rattle.cx_laws_run.specs.cx_rules.specs.Judged.{LogsLink}
use Rattle.cx_laws_run.specs.cx_rules.specs.Links.{Link}
use Rattle.cx_laws_run.specs.cx_rules.specs.Monitor.{MonitorArrival, MonitorRow, MonitorStage}
use Rattle.cx_laws_run.specs.cx_rules.specs.Payloads.{control}
use Rattle.cx_laws_run.specs.cx_rules.specs.Rows.{links_behind}
use Rattle.cx_laws_run.specs.cx_rules.specs.Secured.{Keys, SealedFrame, acceptor_keys, sealed_under}
use Rattle.cx_laws_run.specs.cx_run.specs.Happenings.{stays}
use Rattle.cx_laws_run.specs.cx_run.specs.Points.{Point}
use Rattle.cx_steps.specs.Onto.{SomeOf}
use Rattle.cx_steps.specs.declared.seals.DrawMark.TheVariants as draw
use Rattle.cx_steps.specs.declared.seals.Logged.{Logged}
use Rattle.cx_steps.specs.declared.seals.SealEntry.{SealEntry}
use Rattle.cx_steps.specs.declared.seals.SealEntry.TheVariants as entry
use Rattle.cx_laws_run.specs.cx_laws_tickets.proofs.fetch.AskedKnown.{IsBearingFirst, Told}
use Rattle.cx_laws_run.specs.cx_laws_tickets.proofs.fetch.Handed.{AreHanded, IsHanded, IsKnownSo, IsPlain, handed-in, handed-more, plain-known}
use Rattle.cx_laws_run.specs.cx_laws_tickets.proofs.fetch.HandingFirst.{first-sent, silent-quiet, unused-none, unused-unsaid}
use Rattle.cx_laws_run.specs.cx_laws_tickets.proofs.fetch.HandingStep.{draws-key, key-unused}
use Rattle.cx_laws_run.specs.cx_laws_tickets.proofs.fetch.Later.{of_acceptor, of_connector}
use Rattle.cx_laws_run.specs.cx_laws_tickets.proofs.fetch.MonitorHands.{AreSilent, HandsOver, silent-plain}
use Rattle.cx_laws_run.specs.cx_laws_tickets.proofs.fetch.PointEvents.{events_of}
use Rattle.cx_laws_run.specs.cx_laws_tickets.proofs.fetch.Retied.{Handed, StayHanded, challenge_in, found_in, grows-retied, inv-retied, means-before, means-retied, number_in, retied}
use Rattle.cx_laws_run.specs.cx_laws_tickets.proofs.fetch.RowWords.{AreQuiet, quiet-none}
use Rattle.cx_laws_run.specs.cx_laws_tickets.proofs.fetch.Words.{IsIn, itself}
use Rattle.cx_laws_run.proofs.cover.MonitorLogins.{drawn, key_drawn, login-behind, login-so, session_drawn, session_means}
use Rattle.cx_laws_run.proofs.cover.MonitorQuiet.{MonitorReady, failed-silent, inv-here, left_of}
use Rattle.cx_laws_run.proofs.cover.State.{MonitorHas}
use Rattle.cx_laws_run.proofs.cover.Steps.{MonitorBehind}

-- draws stay
kept-draws : (key : List ℕ) (es : List SealEntry) → SomeOf (DrawsKey key) es → SomeOf (DrawsKey key) (filter stays es)
kept-draws key [] h = h
kept-draws key (entry.Sealed mark ∷ es) (inl here) = absurd here
kept-draws key (entry.Sealed mark ∷ es) (inr later) = kept-draws key es later
kept-draws key (entry.Signed mark ∷ es) (inl here) = absurd here
kept-draws key (entry.Signed mark ∷ es) (inr later) = kept-draws key es later
kept-draws key (entry.Opened mark ∷ es) (inl here) = absurd here
kept-draws key (entry.Opened mark ∷ es) (inr later) = inr (kept-draws key es later)
kept-draws key (entry.Checked mark ∷ es) (inl here) = absurd here
kept-draws key (entry.Checked mark ∷ es) (inr later) = inr (kept-draws key es later)
kept-draws key (entry.Drawn mark ∷ es) (inl here) = inl here
kept-draws key (entry.Drawn mark ∷ es) (inr later) = inr (kept-draws key es later)

module _ (run : WholeRun) (whole : List Logged) (us vs : Uses) (logins : List Handed) (told : Told) (past : List Point) (p : Point) (log : List Logged) (J K : List Entry)
    (number : ℕ) (bytes : List ℕ) (row : MonitorRow)
    (r : MonitorReady run whole us vs logins told past p log J K (left_of true row.seals) row.own (links_behind p.nodes.monitor.links number bytes row.link))
    (a : MonitorArrival) (h : HandsOver a row) (numbered : a.link.number ≡ number) (block : a.draw ≡ p.happening.draw) (logs : LogsLink a row.seals row.link) where
  abbrev es : List SealEntry
  es = left_of true row.seals

  abbrev line : ℕ
  line = p.happening.line

  abbrev later : List Logged
  later = behind node.Monitor line es log

  abbrev session : List ℕ
  session = session_of Auth a.draw

  abbrev key : List ℕ
  key = take 16 (connection_of a.draw)

  -- whatever challenge it heard: it signed none
  abbrev new : Handed
  new = record { session = session; key = key; number = number; challenge = 0 }

  abbrev ws : Uses
  ws = retied (new ∷ logins) vs

  unused : (k : List ℕ) → SomeOf (DrawsKey k) es → (u : Use) → Means us k u → ⊥
  unused k draws u means = key-unused run whole us log J node.Monitor line es r.inv r.granted k draws u means

  key-draws : SomeOf (DrawsKey key) es
  key-draws = kept-draws key row.seals
      (draws-key (draw.Connection (connection_of a.draw) h.bearer.name) key row.seals refl (key_drawn run whole us vs logins told past p log J K es number bytes row r a h numbered block logs))

  session-draws : SomeOf (DrawsKey session) es
  session-draws = kept-draws session row.seals
      (draws-key (draw.Session session h.name) session row.seals refl (session_drawn run whole us vs logins told past p log J K es number bytes row r a h numbered block logs))

  stay : StayHanded us logins (new ∷ logins)
  stay other acceptor n name c means = by_test (bytes_eq key other) refl
    where
      by_test : (same : Bool) → bytes_eq key other ≡ same → found_in (new ∷ logins) other ≡ found_in logins other
      by_test false e = ap (λ (t : Bool). cond t (Some new) (found_in logins other)) e
      by_test true e =
          absurd (unused key key-draws (Connected acceptor n name (AtMonitor c))
          (subst (λ (k : List ℕ). Means us k (Connected acceptor n name (AtMonitor c))) (sym ((bytes_eq-Decides key other).0 e)) means))

  found-itself : found_in (new ∷ logins) key ≡ Some new
  found-itself = ap (λ (t : Bool). cond t (Some new) (found_in logins key)) (itself key)

  means-key : Means ws key (Connected node.Monitor number h.name (AtMonitor 0))
  means-key =
      let l = login-so run whole us vs logins told past p log J K es number bytes row r a h numbered block logs in
      subst (λ (o : Option Handed). Means ws key (Connected node.Monitor (number_in o l.number) h.name (AtMonitor (challenge_in o l.challenge)))) found-itself
      (means-retied (new ∷ logins) vs key (Connected node.Monitor l.number h.name (AtMonitor l.challenge)) l.means)

  is-new : IsHanded ws new
  is-new = record {
    name = h.name;
    session = means-retied (new ∷ logins) vs session (Login h.name) (session_means run whole us vs logins told past p log J K es number bytes row r a h numbered block logs);
    means = means-key;
  }

  fresh : (g : Handed) → IsIn g logins → g.session ≡ session → ⊥
  fresh g has same =
      let is : IsHanded (retied logins us) g = handed-in (retied logins us) logins g r.has.handed.handed has in
      let b = means-before logins us g.session (Login is.name) is.session in
      unused session session-draws b.0 (subst (λ (k : List ℕ). Means us k b.0) same b.1)

  silent : AreSilent es
  silent = failed-silent row.seals

  quiet : AreQuiet es
  quiet = silent-quiet es silent

  one : (k : List ℕ) (u v : Use) → Means ws k u → Means ws k v → u ≡ v
  one = (inv-retied (new ∷ logins) vs K run whole later r.inv_behind).one

  grows : Grows (retied logins us) ws
  grows = grows-retied us vs logins (new ∷ logins) stay r.grows

  abbrev links : List (Link MonitorStage)
  links = links_behind p.nodes.monitor.links number bytes row.link

  known : AreHanded ws (new ∷ logins) later
  known =
      handed-more run whole (retied logins us) ws log J node.Monitor line es one grows (inv-here run whole us vs logins told past p log J K es row.own links r) logins r.has.handed new is-new fresh
      (all-map (IsPlain ws) (IsKnownSo ws (new ∷ logins)) (plain-known ws one (new ∷ logins)) es (silent-plain ws es silent))

  contents-none : contents_in key of_acceptor later ≡ []
  contents-none =
      contents-behind key of_acceptor node.Monitor line es log
      ∙ ap (λ (l : List (List ℕ)). l ++ contents_by key of_acceptor es) (unused-none of_acceptor us J key log r.inv.allowed (unused key key-draws))
      ∙ quiet-none key of_acceptor es quiet

  abbrev frame : Frame
  frame = control 7 auth_signature_layout.form (record { signature = h.code })

  first : IsBearingFirst ws told later number h.secured h.bearer.name
  first =
      let sealed_is : h.sealed ≡ sealed_under (acceptor_keys (connection_of a.draw)) frame = (frame-sealed (acceptor_keys (connection_of a.draw)) frame h.sealed h.made).0 in
      let same : h.secured.keys ≡ (sealed_under (acceptor_keys (connection_of a.draw)) frame).keys = h.keys_are ∙ ap (λ (s : SealedFrame). s.keys) sealed_is in
      subst (λ (m : Name). IsBearingFirst ws told later number h.secured m) (sym h.named)
      (subst (λ (k : Keys). IsBearingFirst ws told later number (record { keys = k; session = h.secured.session; covered = h.secured.covered }) h.name) (sym same)
      (first-sent ws told later number h.name 0 a.draw (drawn run whole us vs logins told past p log J K es number bytes row r a h numbered block logs) h.code h.long h.secured.session
      h.secured.covered means-key
      (unused-unsaid run (events_of past) us logins told log r.has.known_of key (unused key key-draws)) contents-none))

  left : IfSome row.link (λ (l : Link MonitorStage). (l.number ≡ number) × MonitorHas run ws told later number l.stage)
  left =
      subst (λ (o : Option (Link MonitorStage)). IfSome o (λ (l : Link MonitorStage). (l.number ≡ number) × MonitorHas run ws told later number l.stage)) (sym h.goes) (numbered, first)

  pub failed-behind : MonitorBehind run us vs logins told past p log es links
  failed-behind =
      login-behind run whole us vs logins told past p log J K es number bytes row r new stay (λ k is. (quiet-none k of_connector es quiet, quiet-none k of_acceptor es quiet)) known left
