-- What each row of a client's link to a daemon comes to: all that is known stays known behind it, with what is said then, which has spellings; what moved; and
-- the link, where it goes on.
use Rattle.std.proofs.Common.{◌≡◌, ℕ, ◌<◌, ◌^◌, Bool, true, false, List, [], ◌∷◌, ◌++◌, take, Option, Some, None, inl, inr, ◌⊎◌, refl, sym, ap, ◌∙◌, subst, append-nil}
use Rattle.std.proofs.lemmas.Bool.{false_from_ne_true}
use Rattle.std.proofs.lemmas.List.Elements.{Contains-append_left, Contains-push}
use Rattle.std.proofs.lemmas.Slice.Eq.{bytes_eq-Decides}
use Rattle.std.specs.Prelude.{◌&&◌, Contains}
use Rattle.std.specs.List.{AllByRecursion, cons_option}
use Rattle.std.specs.Str.{bytes_eq}
use Rattle.cx_laws_sessions.specs.cx_authorize.specs.Client.{Answered, Presented, reply_in}
use Rattle.cx_laws_sessions.specs.cx_authorize.specs.Verdict.{raised}
use Rattle.cx_base.specs.Names.{Name}
use Rattle.cx_base.specs.declared.kinds.EntityType.{EntityType}
use Rattle.cx_base.specs.declared.nodes.NodeName.{NodeName}
use Rattle.cx_base.specs.declared.operations.Operation.{Operation}
use Rattle.cx_journal.specs.declared.entries.Admitted.{Admitted}
use Rattle.cx_journal.specs.declared.entries.Entry.{Entry}
use Rattle.cx_journal.specs.declared.entries.Entry.TheVariants as journal
use Rattle.cx_laws_run.specs.cx_laws_keys.proofs.keys.Known.{HasReply, Inv, Within}
use Rattle.cx_laws_run.specs.cx_laws_keys.proofs.keys.Premises.{AreGranted, behind, granted-first}
use Rattle.cx_laws_run.specs.cx_laws_keys.proofs.keys.Uses.{AtDaemon, Connected, Grows, Login, Means, Ticketed, Use, Uses, WholeRun}
use Rattle.cx_laws_links.specs.cx_laws_keys.proofs.series.Contents.{content_where, contents_by}
use Rattle.cx_laws_sessions.specs.cx_rules.specs.Fronts.{keys_behind}
use Rattle.cx_laws_sessions.specs.cx_rules.specs.Links.{Link}
use Rattle.cx_laws_sessions.specs.cx_rules.specs.Secured.{Secured, connector_keys, under}
use Rattle.cx_laws_sessions.specs.cx_rules_session.specs.Envelopes.{authorize_content, session_sealed}
use Rattle.cx_laws_sessions.specs.cx_rules_session.specs.Presenter.{CallArrival, CallRow, CallStage, AwaitsChallenge, AwaitsDone, AwaitsHello, callee_of}
use Rattle.cx_laws_sessions.specs.cx_rules_session.specs.Sessions.{Called, Callee}
use Rattle.cx_laws_sessions.specs.cx_sealed.specs.declared.authorize_reply.AuthorizeReply.{AuthorizeReply}
use Rattle.cx_steps.specs.Onto.{SomeOf}
use Rattle.cx_steps.specs.Premises.{RepeatsIn}
use Rattle.cx_steps.specs.declared.seals.DrawMark.TheVariants as draw
use Rattle.cx_steps.specs.declared.seals.Logged.{Logged}
use Rattle.cx_steps.specs.declared.seals.SealEntry.{SealEntry}
use Rattle.cx_steps.specs.declared.seals.SealEntry.TheVariants as entry
use Rattle.cx_laws_links.proofs.links.Authorizing.{ShowsAgain, ShowsFirst, ShowsNothing, ShutsQuietly, SpeaksFirst}
use Rattle.cx_laws_links.proofs.links.Binding.{binds, binds-keyed, bound-unshown, placed, placed-other, shown-bound, shown-here, shows}
use Rattle.cx_laws_links.proofs.links.CallSteps.{WasSent, row-keyed, row-told, speaks}
use Rattle.cx_laws_links.proofs.links.CallTells.{by-append, drawn-new, drawn-there, quiet-none}
use Rattle.cx_laws_links.proofs.links.CallTold.{keyed-told, same-nonces}
use Rattle.cx_laws_links.proofs.links.CallTurn.{keyed-behind}
use Rattle.cx_laws_links.proofs.links.CallWords.{KeyedStage, Says}
use Rattle.cx_laws_links.proofs.links.IncomingWords.{AreSpelled, spelled-speaks}
use Rattle.cx_laws_links.proofs.links.Hearing.{IsSpelled}
use Rattle.cx_laws_links.proofs.links.Known.{AreTold, Bound, CallTold, HasNonce, IsKeyed, IsShown, NoncePlace, Shown, Told, Unshown}
use Rattle.cx_laws_links.proofs.links.Lifting.{told-stays}
use Rattle.cx_laws_links.proofs.links.Moving.{KeepsNonces, Moved, Quiets, Speaks}
use Rattle.cx_laws_links.proofs.links.Others.{keyed-one, link-one, raised-one}
use Rattle.cx_laws_links.proofs.links.Speaking.{speaking}
use Rattle.cx_laws_links.proofs.links.Spoken.{Spoken, cookie_behind, is_connectors, tagged}
use Rattle.cx_laws_links.proofs.links.Written.{IsLinkKey}
use Rattle.cx_laws_links.proofs.answers.CallSilent.{NoEnds}
use Rattle.cx_laws_links.proofs.answers.CallTurns.{TurnHears}
use Rattle.cx_laws_links.proofs.answers.Given.{is_acceptors}
use Rattle.cx_laws_links.proofs.answers.Quiet.{says-none}
use Rattle.cx_laws_run.proofs.sent.CallFits.{RowFits, FitsIn}
use Rattle.cx_laws_run.proofs.sent.CallWords.{says-sent, words-spelled}
use Rattle.cx_laws_run.proofs.sent.Shown.{Begun, IsUnkeyed, RowShown, SentFits, Turned, Unkeyed, more_of}
use Rattle.cx_laws_run.proofs.sent.State.{CallFits}

-- what a row says, by another name of the link's number
abbrev says-at : (W : ℕ → ℕ × Operation → Type 0) (number second : ℕ) (callee : Callee) (s : Secured) (before : Option ℕ) (row : CallRow) → number ≡ second → Says W number callee s before row
    → Says W second callee s before row
says-at W number second callee s before row same h = record {
  words = h.words;
  quiet = h.quiet;
  silent = h.silent;
  sealed = h.sealed;
  made = h.made;
  seals = h.seals;
  link = λ link is. let l = h.link link is in (l.0, l.1, l.2, l.3 ∙ same);
  calls = h.calls;
  held = h.held;
  waits = h.waits;
  said = h.said;
}

module _ (run : WholeRun) (us vs : Uses) (told : Told) (log : List Logged) (K : List Entry) (n : NodeName) (line : ℕ) (name : Name) (number : ℕ) where
  -- what is so of the link behind a row, of all that is said then
  abbrev pub LinkBehind : Told → List SealEntry → Link CallStage → Type 0
  LinkBehind next seals link = (link.number ≡ number) × CallTold vs next (behind n line seals log) name number link.stage × CallFits link.stage

  -- behind a row that says this where its link goes on, and gives nothing as by an acceptor
  pub record RowBehind (more : List (List ℕ × Spoken)) (row : CallRow) : Type 0 where
    pub next : Told
    pub moved : Moved us vs told log row.seals name number next
    pub known : AreTold run vs next (behind n line row.seals log) K
    pub spelled : AreSpelled next
    pub link : (link : Link CallStage) → row.link ≡ Some link → LinkBehind next row.seals link
    pub grown : (link : Link CallStage) → row.link ≡ Some link → next.said ≡ told.said ++ more
    pub gives_none : (key : List ℕ) (whose : Name) (tie : ℕ) → IsLinkKey vs key whose tie → contents_by key is_acceptors row.seals ≡ []

  -- with what it shows
  pub record RowKnown (a : CallArrival) (stage : CallStage) (row : CallRow) : Type 0 where
    pub shown : RowShown us told log K name number a stage row
    pub behind : RowBehind (more_of us told log K name number a stage row shown) row

module _ (run : WholeRun) (whole : List Logged) (us vs : Uses) (told : Told) (log : List Logged) (J K : List Entry) (n : NodeName) (line : ℕ)
    (one_before : (k : List ℕ) (u v : Use) → Means us k u → Means us k v → u ≡ v) (one : (k : List ℕ) (u v : Use) → Means vs k u → Means vs k v → u ≡ v)
    (f : Grows us vs) (w : Within J K) (i : Inv run whole us log J) (none : (session : Admitted) → Contains K (journal.Admitted session) → Contains J (journal.Admitted session))
    (t : AreTold run us told log J) (spelled : AreSpelled told) (name : Name) (number : ℕ) where
  abbrev Behind : List (List ℕ × Spoken) → CallRow → Type 0
  Behind more row = RowBehind run us vs told log K n line name number more row

  abbrev Knows : CallArrival → CallStage → CallRow → Type 0
  Knows a stage row = RowKnown run us vs told log K n line name number a stage row

  abbrev LinkIs : Told → List SealEntry → Link CallStage → Type 0
  LinkIs next seals link = LinkBehind run us vs told log K n line name number next seals link

  -- none of it is under the key of a link
  abbrev pub Seals_none : List SealEntry → Type 0
  Seals_none es = (test : List ℕ → Bool) (other : List ℕ) (whose : Name) (tie : ℕ) → IsLinkKey vs other whose tie → contents_by other test es ≡ []

  -- ---- a row that says nothing

  moves-behind : (row : CallRow) (nonces : ℕ → NoncePlace) → KeepsNonces told name number nonces → Seals_none row.seals
      → AreTold run vs (record told { nonces = nonces }) (behind n line row.seals log) K
      → ((link : Link CallStage) → row.link ≡ Some link → LinkIs (record told { nonces = nonces }) row.seals link) → Behind [] row
  moves-behind row nonces keeps quiet known link = record {
    next = record told { nonces = nonces };
    moved = Quiets nonces keeps (quiet is_connectors);
    known = known;
    spelled = λ key x has. spelled key x has;
    link = link;
    grown = λ it is. sym (append-nil told.said);
    gives_none = quiet is_acceptors;
  }

  still-behind : (row : CallRow) → Seals_none row.seals → ((link : Link CallStage) → row.link ≡ Some link → LinkIs told row.seals link) → Behind [] row
  still-behind row quiet link =
      moves-behind row told.nonces (same-nonces told name number) quiet (told-stays run whole us vs told log J K n line row.seals one f w i (quiet is_connectors) none t) link

  -- whatever it would say, it shuts its link
  pub shuts-behind : (more : List (List ℕ × Spoken)) (row : CallRow) → ShutsQuietly row → Behind more row
  shuts-behind more row h = record {
    next = told;
    moved = Quiets told.nonces (same-nonces told name number) (λ other whose tie is. quiet-none other is_connectors row.seals h.quiet);
    known = told-stays run whole us vs told log J K n line row.seals one f w i (λ other whose tie is. quiet-none other is_connectors row.seals h.quiet) none t;
    spelled = spelled;
    link = λ link is. none-there link (sym h.link ∙ is);
    grown = λ link is. none-grown link (sym h.link ∙ is);
    gives_none = λ other whose tie is. quiet-none other is_acceptors row.seals h.quiet;
  }
    where
      none-there : (link : Link CallStage) → (let o : Option (Link CallStage) = None in o ≡ Some link) → LinkIs told row.seals link
      none-there link e = absurd cc

      none-grown : (link : Link CallStage) → (let o : Option (Link CallStage) = None in o ≡ Some link) → told.said ≡ told.said ++ more
      none-grown link e = absurd cc

  -- a link at a stage
  at-stage : (next : Told) (seals : List SealEntry) (link : Link CallStage) (stage : CallStage) → link.stage ≡ stage → link.number ≡ number
      → CallTold vs next (behind n line seals log) name number stage → CallFits stage → LinkIs next seals link
  at-stage next seals link stage same here known fits = (
    here,
    subst (λ (st : CallStage). CallTold vs next (behind n line seals log) name number st) (sym same) known,
    subst CallFits (sym same) fits,
  )

  pub nothing-behind : (a : CallArrival) (called : Called) (row : CallRow) → a.link.number ≡ number → ShowsNothing a called row → Behind [] row
  nothing-behind a called row here h =
      still-behind row (λ test other whose tie is. quiet-none other test row.seals h.quiet)
      (λ link is. let l = h.link link is in at-stage told row.seals link (AwaitsHello called) l.0 (l.1 ∙ here) tt tt)

  -- ---- what is sealed under the session key of a ticket

  abbrev IsOwn : List ℕ → Type 0
  IsOwn session = Means vs session (Login name) ⊎ ((service : EntityType) × Means vs session (Ticketed name service))

  -- such a key is that of no link
  session-none : (session content : List ℕ) → IsOwn session → Seals_none (session_sealed session content ∷ [])
  session-none session content m test other whose tie is = by_test (bytes_eq session other) refl
    where
      login-apart : Login name ≡ Connected is.acceptor is.number whose (AtDaemon is.service tie) → ⊥
      login-apart e = cc

      ticketed-apart : (service : EntityType) → Ticketed name service ≡ Connected is.acceptor is.number whose (AtDaemon is.service tie) → ⊥
      ticketed-apart service e = cc

      by_use : session ≡ other → IsOwn session → ⊥
      by_use same (inl login) =
          login-apart (one other (Login name) (Connected is.acceptor is.number whose (AtDaemon is.service tie)) (subst (λ (k : List ℕ). Means vs k (Login name)) same login) is.means)
      by_use same (inr (service, ticketed)) =
          ticketed-apart service (one other (Ticketed name service) (Connected is.acceptor is.number whose (AtDaemon is.service tie))
          (subst (λ (k : List ℕ). Means vs k (Ticketed name service)) same ticketed) is.means)

      by_test : (there : Bool) → bytes_eq session other ≡ there → cons_option (content_where (there && test content) content) [] ≡ []
      by_test true e = absurd (by_use ((bytes_eq-Decides session other).0 e) m)
      by_test false e = refl

  -- the nonce is shown once more
  pub again-behind : (a : CallArrival) (callee : Callee) (p : Presented) (row : CallRow) → a.link.number ≡ number → IsShown told name number p.nonce → IsOwn p.held.session
      → ShowsAgain a callee p row → Behind [] row
  again-behind a callee p row here shown m h =
      still-behind row (λ test other whose tie is.
      ap (λ (es : List SealEntry). contents_by other test es) h.seals
      ∙ by-append other test h.opened (session_sealed p.held.session h.content ∷ []) (quiet-none other test h.opened h.quiet)
      (session-none p.held.session h.content m test other whose tie is))
      (λ link is. let l = h.link link is in
      at-stage told row.seals link (AwaitsDone callee (record { session = p.held.session; nonce = p.nonce })) l.0 (l.1 ∙ here) shown tt)

  -- ---- a nonce is shown for the first time

  repeats-nonce : (nonce : ℕ) (earlier : List Logged) → HasNonce earlier nonce → SomeOf (λ (at : Logged). RepeatsIn (draw.Nonce nonce) at.entry) earlier
  repeats-nonce nonce [] has = absurd has
  repeats-nonce nonce (at ∷ earlier) (inl here) = inl (subst (λ (e : SealEntry). RepeatsIn (draw.Nonce nonce) e) (sym here) refl)
  repeats-nonce nonce (at ∷ earlier) (inr rest) = inr (repeats-nonce nonce earlier rest)

  -- one that is drawn was shown to nobody
  drawn-free : (nonce : ℕ) (es : List SealEntry) → AreGranted run.leaked whole n line log es → Contains es (entry.Drawn (draw.Nonce nonce)) → told.nonces nonce ≡ Unshown
  drawn-free nonce es g has = by_place (told.nonces nonce) refl
    where
      was : (told.nonces nonce ≡ Unshown → ⊥) → ⊥
      was shown = drawn-new run.leaked whole n line (draw.Nonce nonce) es log g has (repeats-nonce nonce log (t.nonces nonce shown))

      unshown-shown : (whose : Name) (second : ℕ) → Shown whose second ≡ Unshown → ⊥
      unshown-shown whose second e = cc

      unshown-bound : (whose : Name) (second : ℕ) (key : List ℕ) → Bound whose second key ≡ Unshown → ⊥
      unshown-bound whose second key e = cc

      by_place : (place : NoncePlace) → told.nonces nonce ≡ place → place ≡ Unshown
      by_place Unshown e = refl
      by_place (Shown whose second) e = absurd (was (λ u. unshown-shown whose second (sym e ∙ u)))
      by_place (Bound whose second key) e = absurd (was (λ u. unshown-bound whose second key (sym e ∙ u)))

  shown-unshown : (whose : Name) (second : ℕ) → Unshown ≡ Shown whose second → ⊥
  shown-unshown whose second e = cc

  free-keeps : (nonce : ℕ) → told.nonces nonce ≡ Unshown → KeepsNonces told name number (placed told.nonces nonce (Shown name number))
  free-keeps nonce free = record {
    bound = λ other whose second key stands. placed-other told.nonces nonce (Shown name number) (Bound whose second key) other stands (λ e. bound-unshown whose second key (sym free ∙ e));
    shown = λ other whose second apart stands. placed-other told.nonces nonce (Shown name number) (Shown whose second) other stands (λ e. shown-unshown whose second (sym free ∙ e));
  }

  pub first-behind : (a : CallArrival) (callee : Callee) (p : Presented) (row : CallRow) → a.link.number ≡ number → p.nonce < 2 ^ 64 → IsOwn p.held.session → ShowsFirst a callee p row
      → AreGranted run.leaked whole n line log row.seals → Behind [] row
  first-behind a callee p row here low m h g =
      moves-behind row (placed told.nonces p.nonce (Shown name number)) (free-keeps p.nonce free) quiet
      (shows run vs told (behind n line row.seals log) K p.nonce name number free
      (drawn-there n line (draw.Nonce p.nonce) row.seals log has) (told-stays run whole us vs told log J K n line row.seals one f w i (quiet is_connectors) none t))
      (λ link is. let l = h.link link is in
      at-stage (record told { nonces = placed told.nonces p.nonce (Shown name number) }) row.seals link (AwaitsChallenge callee p) l.0 (l.1 ∙ here) (shown-here told p.nonce name number low) tt)
    where
      quiet : Seals_none row.seals
      quiet test other whose tie is =
          ap (λ (es : List SealEntry). contents_by other test es) h.seals ∙ session-none p.held.session (authorize_content p.nonce None) m test other whose tie is

      has : Contains row.seals (entry.Drawn (draw.Nonce p.nonce))
      has = subst (λ (es : List SealEntry). Contains es (entry.Drawn (draw.Nonce p.nonce))) (sym h.seals)
          (Contains-append_left (entry.Drawn (draw.Nonce p.nonce) ∷ []) (session_sealed p.held.session (authorize_content p.nonce None) ∷ []) (entry.Drawn (draw.Nonce p.nonce)) (Contains-push [] (entry.Drawn (draw.Nonce p.nonce))))

      free : told.nonces p.nonce ≡ Unshown
      free = drawn-free p.nonce row.seals g has

  -- ---- a link that has a key

  abbrev Sent : ℕ → Callee → Secured → Option ℕ → CallRow → Type 0
  Sent m callee s before row = Says (SentFits K name) m callee s before row

  -- where a row shuts the link it said nothing
  by-left : (more : List (List ℕ × Spoken)) (row : CallRow) → RowFits row → ((link : Link CallStage) → row.link ≡ Some link → CallFits link.stage → Behind more row) → Behind more row
  by-left more row fits goes = by_link row.link refl fits
    where
      by_link : (left : Option (Link CallStage)) → row.link ≡ left → FitsIn row.seals left → Behind more row
      by_link None is quiet = shuts-behind more row (record { quiet = quiet; link = is })
      by_link (Some link) is fit = goes link is fit

  stage-fits : (row : CallRow) (link : Link CallStage) → row.link ≡ Some link → RowFits row → CallFits link.stage
  stage-fits row link is fits = subst (λ (left : Option (Link CallStage)). FitsIn row.seals left) is fits

  row-spelled : (callee : Callee) (s : Secured) (before : Option ℕ) (row : CallRow) (h : Sent number callee s before row) (link : Link CallStage) → row.link ≡ Some link → CallFits link.stage
      → AllByRecursion IsSpelled h.words
  row-spelled callee s before row h link is fits = let l = h.link link is in words-spelled K name before h.quiet h.words link.stage l.0 h.said l.1 fits

  pub keyed-row : (callee : Callee) (s : Secured) (before : Option ℕ) → IsKeyed us told log name number s before → (row : CallRow) → (h : Sent number callee s before row) → RowFits row
      → AreGranted run.leaked whole n line log row.seals → Behind (tagged s.keys.key h.words) row
  keyed-row callee s before k row h fits g = by-left (tagged s.keys.key h.words) row fits (λ link is fit. goes link is fit)
    where
      by_one : (whose : Name) (second : ℕ) → (name ≡ whose) × (number ≡ second) → (whose ≡ name) × (second ≡ number)
      by_one whose second e = (sym e.0, sym e.1)

      goes : (link : Link CallStage) → row.link ≡ Some link → CallFits link.stage → Behind (tagged s.keys.key h.words) row
      goes first is_first fit = let says : Says (WasSent K name) number callee s before row = says-sent K name number callee s before row h in record {
        next = speaking told told.nonces s.keys.key h.words;
        moved = Speaks told.nonces s.keys.key h.words (same-nonces told name number)
            (speaks run whole us vs told log J K n line one_before one f w i none t name number callee s before k row says g).others
            (λ whose second r after other apart. false_from_ne_true (bytes_eq s.keys.key r.keys.key) (λ same.
            apart (by_one whose second (keyed-one us one_before told log name whose number second s r before after k other ((bytes_eq-Decides s.keys.key r.keys.key).0 same)))));
        known = row-told run whole us vs told log J K n line one_before one f w i none t name number callee s before k row says g;
        spelled = spelled-speaks told told.nonces s.keys.key h.words spelled (row-spelled callee s before row h first is_first fit);
        link = λ link is.
            let l = h.link link is in (
              l.3,
              keyed-told vs (speaking told told.nonces s.keys.key h.words) (behind n line row.seals log) name number link.stage l.0 (cookie_behind before h.words) l.1
                  (row-keyed run whole us vs told log J K n line one_before one f w i none t name number callee s before k row says g l.0 l.2),
              stage-fits row link is fits,
            );
        grown = λ link is. refl;
        gives_none = λ other whose tie is. says-none (SentFits K name) number callee s before row h k.connector other;
      }

  -- it read a frame, and says some words behind it
  pub turn-behind : (a : CallArrival) (stage : CallStage) (s : Secured) (before : Option ℕ) → a.link.number ≡ number → KeyedStage stage s before → IsKeyed us told log name number s before → (row : CallRow)
      → TurnHears (SentFits K name) a stage s before row → RowFits row → AreGranted run.leaked whole n line log row.seals → Knows a stage row
  turn-behind a stage s before here keyed k row h fits g = record {
    shown = Turned s before keyed h;
    behind = keyed-row (callee_of stage) (under s (keys_behind s.keys h.frame)) before (keyed-behind us told log name number s h.frame before k) row
        (says-at (SentFits K name) a.link.number number (callee_of stage) (under s (keys_behind s.keys h.frame)) before row here h.says) fits g;
  }

  -- ---- a reply gives the link its key

  shown-one : (one_name other : Name) (m second : ℕ) → Shown one_name m ≡ Shown other second → (other ≡ one_name) × (second ≡ m)
  shown-one one_name other m second e = (cc, cc)

  -- no link has the key of this reply already: its nonce would be bound
  unspoken-apart : (nonce : ℕ) → IsShown told name number nonce → (x : AuthorizeReply) → HasReply us name x → x.nonce_plus_one ≡ raised nonce
      → (whose : Name) (second : ℕ) (r : Secured) (after : Option ℕ) → IsKeyed us told log whose second r after → take 16 x.secret ≡ r.keys.key → ⊥
  unspoken-apart nonce shown x reply answers whose second r after other same =
      let link : IsLinkKey us r.keys.key name x.nonce_plus_one =
      subst (λ (l : List ℕ). IsLinkKey us l name x.nonce_plus_one) same (record { acceptor = reply.acceptor; number = reply.number; service = reply.service; means = reply.means }) in
      let both = link-one us one_before r.keys.key name whose x.nonce_plus_one (raised other.nonce) link other.is in
      let one_nonce : nonce ≡ other.nonce = raised-one nonce other.nonce shown.low other.low (sym answers ∙ both.1) in
      shown-bound name whose number second r.keys.key (sym shown.stands ∙ ap (λ (m : ℕ). told.nonces m) one_nonce ∙ other.stands)

  binds-keeps : (nonce : ℕ) → IsShown told name number nonce → (key : List ℕ) → KeepsNonces told name number (placed told.nonces nonce (Bound name number key))
  binds-keeps nonce shown key = record {
    bound = λ other whose second k stands. placed-other told.nonces nonce (Bound name number key) (Bound whose second k) other stands
        (λ e. shown-bound name whose number second k (sym shown.stands ∙ e));
    shown = λ other whose second apart stands. placed-other told.nonces nonce (Bound name number key) (Shown whose second) other stands
        (λ e. apart (shown-one name whose number second (sym shown.stands ∙ e)));
  }

  -- what opened of it the daemon sealed for a link to this entity, behind the nonce that was shown
  pub speaks-behind : (a : CallArrival) (callee : Callee) (answered : Answered) (row : CallRow) → a.link.number ≡ number → IsShown told name number answered.nonce
      → ((bytes : List ℕ) (x : AuthorizeReply) → (reply_in answered.session bytes).value ≡ Some x → AreGranted run.leaked whole n line log (reply_in answered.session bytes).seals → HasReply us name x)
      → SpeaksFirst (SentFits K name) a callee answered row → RowFits row → NoEnds row.entries → AreGranted run.leaked whole n line log row.seals
      → (arrival : CallArrival) (stage : CallStage) → Knows arrival stage row
  speaks-behind a callee answered row here shown replies h fits ends g arrival stage = by_left row.link refl fits
    where
      none-unkeyed : (link : Link CallStage) → (let o : Option (Link CallStage) = None in o ≡ Some link) → IsUnkeyed link.stage
      none-unkeyed link e = absurd cc

      by_left : (left : Option (Link CallStage)) → row.link ≡ left → FitsIn row.seals left → Knows arrival stage row
      by_left None is quiet =
          let none : (link : Link CallStage) → row.link ≡ Some link → IsUnkeyed link.stage = λ link there. none-unkeyed link (sym is ∙ there) in
          record { shown = Unkeyed none ends; behind = shuts-behind [] row (record { quiet = quiet; link = is }) }
      by_left (Some first_link) is_first fit =
          let reply : HasReply us name h.reply = replies h.sealed h.reply h.opened
          (granted-first run.leaked whole n line log (reply_in answered.session h.sealed).seals h.front (subst (λ (es : List SealEntry). AreGranted run.leaked whole n line log es) h.seals g)) in
          let key : List ℕ = take 16 h.reply.secret in
          let bound : Told = record told { nonces = placed told.nonces answered.nonce (Bound name number key) } in
          let first : AreTold run us bound log J = binds run us told log J one_before t name number answered.nonce shown h.reply reply h.answers in
          let s : Secured = record { keys = connector_keys h.reply.secret; session = answered.session; covered = a.link.sent } in
          let k : IsKeyed us bound log name number s None = binds-keyed run us told log J one_before t name number answered.nonce shown h.reply reply h.answers answered.session a.link.sent in
          let sent : Sent number callee s None row = says-at (SentFits K name) a.link.number number callee s None row here h.says in
          let says : Says (WasSent K name) number callee s None row = says-sent K name number callee s None row sent in
          record {
            shown = Begun answered.nonce callee h.reply s shown reply h.answers refl sent ends;
            behind = record {
              next = speaking bound bound.nonces key says.words;
              moved = Speaks (placed told.nonces answered.nonce (Bound name number key)) key says.words (binds-keeps answered.nonce shown key)
                  (speaks run whole us vs bound log J K n line one_before one f w i none first name number callee s None k row says g).others
                  (λ whose second r after other apart. false_from_ne_true (bytes_eq key r.keys.key) (λ same.
                  unspoken-apart answered.nonce shown h.reply reply h.answers whose second r after other ((bytes_eq-Decides key r.keys.key).0 same)));
              known = row-told run whole us vs bound log J K n line one_before one f w i none first name number callee s None k row says g;
              spelled = spelled-speaks bound bound.nonces key says.words (λ other x has. spelled other x has) (row-spelled callee s None row sent first_link is_first fit);
              link = λ link is.
                  let l = says.link link is in (
                    l.3,
                    keyed-told vs (speaking bound bound.nonces key says.words) (behind n line row.seals log) name number link.stage l.0 (cookie_behind None says.words) l.1
                        (row-keyed run whole us vs bound log J K n line one_before one f w i none first name number callee s None k row says g l.0 l.2),
                    stage-fits row link is fits,
                  );
              grown = λ link is. refl;
              gives_none = λ other whose tie is. says-none (SentFits K name) number callee s None row sent k.connector other;
            };
          }
