-- A step of a client: what is known of all that was given stays known behind it, with what its links have heard; and each answer that it enters tells how an
-- operation ended that was handled in a session of its own, once.
use Rattle.std.proofs.Common.{◌≡◌, ℕ, ◌<◌, List, [], ◌∷◌, ◌++◌, map, Option, Some, None, inl, inr, ◌⊎◌, refl, sym, ap, ◌∙◌, subst, arith, append-nil}
use Rattle.std.specs.Prelude.{Contains}
use Rattle.std.specs.List.{AllByRecursion}
use Rattle.cx_laws_run.specs.cx_authorize.specs.Verdict.{raised}
use Rattle.cx_base.specs.Names.{Name}
use Rattle.cx_base.specs.declared.kinds.EntityType.{EntityType}
use Rattle.cx_base.specs.declared.nodes.NodeName.{NodeName}
use Rattle.cx_base.specs.declared.nodes.NodeName.TheVariants as node
use Rattle.cx_base.specs.declared.operations.Operation.{Operation}
use Rattle.cx_journal.specs.Behind.{EachBehind}
use Rattle.cx_journal.specs.declared.entries.Answered.{Answered}
use Rattle.cx_journal.specs.declared.entries.Entry.{Entry}
use Rattle.cx_journal.specs.declared.entries.Entry.TheVariants as journal
use Rattle.cx_laws_run.specs.cx_laws_keys.proofs.keys.Journal.{entered}
use Rattle.cx_laws_run.specs.cx_laws_keys.proofs.keys.Known.{HasReply, Inv}
use Rattle.cx_laws_run.specs.cx_laws_keys.proofs.keys.Lists.{all-map, some-of}
use Rattle.cx_laws_run.specs.cx_laws_keys.proofs.keys.Premises.{AreGranted, behind}
use Rattle.cx_laws_run.specs.cx_laws_keys.proofs.keys.Uses.{AtDaemon, Connected, Grows, Means, Use, Uses, WholeRun}
use Rattle.cx_laws_run.specs.cx_rules.specs.Fronts.{keys_behind}
use Rattle.cx_laws_run.specs.cx_rules.specs.Links.{Link}
use Rattle.cx_laws_run.specs.cx_rules.specs.Rows.{Outcome}
use Rattle.cx_laws_run.specs.cx_rules.specs.Secured.{Keys, Secured, Way, connector_keys}
use Rattle.cx_laws_run.specs.cx_rules_session.specs.ClientRule.{ClientStage, ToDaemon, ToMonitor, WholeClientNode}
use Rattle.cx_laws_run.specs.cx_rules_session.specs.Presenter as call
use Rattle.cx_laws_run.specs.cx_rules_session.specs.Presenter.{CallArrival, CallRow, CallStage, callee_of}
use Rattle.cx_laws_run.specs.cx_rules_session.specs.Sessions.{Callee}
use Rattle.cx_laws_run.specs.cx_sealed.specs.declared.authorize_reply.AuthorizeReply.{AuthorizeReply}
use Rattle.cx_steps.specs.declared.seals.Logged.{Logged}
use Rattle.cx_steps.specs.declared.seals.SealEntry.{SealEntry}
use Rattle.cx_laws_run.specs.cx_laws_links.proofs.links.Binding.{unspoken}
use Rattle.cx_laws_run.specs.cx_laws_links.proofs.links.CallTells.{AreSealed, are-sealed}
use Rattle.cx_laws_run.specs.cx_laws_links.proofs.links.CallTold.{AsksOn, KeyedAsks}
use Rattle.cx_laws_run.specs.cx_laws_links.proofs.links.CallWords.{Identified, KeyedStage, Opened, Reconnecting, Says, SignedOn, pending_of}
use Rattle.cx_laws_run.specs.cx_laws_links.proofs.links.Known.{AreTold, CallTold, IsKeyed, IsShown, StageTold, Told}
use Rattle.cx_laws_run.specs.cx_laws_links.proofs.links.Speaking.{cons-cases, said-append, said-own}
use Rattle.cx_laws_run.specs.cx_laws_links.proofs.links.Spoken.{Orders, Spoken, asked, asked-append, cookie_behind, frame_of, said_under, tagged}
use Rattle.cx_laws_run.specs.cx_laws_links.proofs.answers.AllGiven.{AllGiven, call-ends, call-heard, call-once, call-read, call-reads, moved-heard, moved-longer, still-given}
use Rattle.cx_laws_run.specs.cx_laws_links.proofs.answers.Begins.{first-heard}
use Rattle.cx_laws_run.specs.cx_laws_links.proofs.answers.CallHeard.{Hears, IsTrueEnd, heard-keyed, keyed-heard, turn-reads}
use Rattle.cx_laws_run.specs.cx_laws_links.proofs.answers.CallHears.{EndsSo, TellsEnd}
use Rattle.cx_laws_run.specs.cx_laws_links.proofs.answers.CallSilent.{NoEnds}
use Rattle.cx_laws_run.specs.cx_laws_links.proofs.answers.CallTurns.{TurnHears}
use Rattle.cx_laws_run.specs.cx_laws_links.proofs.answers.EndsRead.{ReadsAt, ReadsOn, bound-reads, unread}
use Rattle.cx_laws_run.specs.cx_laws_links.proofs.answers.Given.{Given}
use Rattle.cx_laws_run.specs.cx_laws_links.proofs.answers.Known.{continues, WasServed}
use Rattle.cx_laws_run.specs.cx_laws_links.proofs.answers.Moving.{hears-same}
use Rattle.cx_laws_run.proofs.sent.Shown.{Begun, ClientShows, LeftFrom, RowShown, SentFits, ShowsNone, ShowsOrder, ShowsRow, StageFrom, Turned, Unkeyed, WasAt, more_of}
use Rattle.cx_laws_run.proofs.sent.State.{ClientBehind, ClientKnown}
use Rattle.cx_laws_run.proofs.truth.Named.{CalledKey, IsOfCalled, LinkNamed, LinksNamed, StageNamed}
use Rattle.cx_laws_run.proofs.truth.State.{AllTrue, CallHears, ClientHears, ClientTruth, IsBoundTo, IsEndOf, ReadsBehind, StageHears, TruthLaw}
use Rattle.cx_laws_run.proofs.truth.Still.{behind-still, bound-stays, end-of, end-place, first-true, moved-bound, none-true, read-still, same-heard, unkeyed-hears}

-- ---- the key of a link

keyed-of : (us : Uses) (told : Told) (log : List Logged) (name : Name) (number : ℕ) (stage : CallStage) (s : Secured) (before : Option ℕ) → KeyedStage stage s before
    → CallTold us told log name number stage → IsKeyed us told log name number s before
keyed-of us told log name number _ _ _ (SignedOn s callee) h = h
keyed-of us told log name number _ _ _ (Identified s callee cookie) h = h
keyed-of us told log name number _ _ _ (Reconnecting s callee cookie) h = h
keyed-of us told log name number _ _ _ (Opened s callee cookie) h = h

keyed-reads : (reads : List (List ℕ × ℕ)) (stage : CallStage) (s : Secured) (before : Option ℕ) → KeyedStage stage s before → ReadsBehind reads stage → ReadsOn reads s
keyed-reads reads _ _ _ (SignedOn s callee) h = h
keyed-reads reads _ _ _ (Identified s callee cookie) h = h
keyed-reads reads _ _ _ (Reconnecting s callee cookie) h = h
keyed-reads reads _ _ _ (Opened s callee cookie) h = h

reads-keyed : (reads : List (List ℕ × ℕ)) (stage : CallStage) (s : Secured) (before : Option ℕ) → KeyedStage stage s before → ReadsOn reads s → ReadsBehind reads stage
reads-keyed reads _ _ _ (SignedOn s callee) h = h
reads-keyed reads _ _ _ (Identified s callee cookie) h = h
reads-keyed reads _ _ _ (Reconnecting s callee cookie) h = h
reads-keyed reads _ _ _ (Opened s callee cookie) h = h

asks-of : (told next : Told) (stage : CallStage) (s : Secured) (before : Option ℕ) → KeyedStage stage s before → KeyedAsks told next s (pending_of stage) → AsksOn told next stage
asks-of told next _ _ _ (SignedOn s callee) h = h
asks-of told next _ _ _ (Identified s callee cookie) h = h
asks-of told next _ _ _ (Reconnecting s callee cookie) h = h
asks-of told next _ _ _ (Opened s callee cookie) h = h

-- where some words were said under its key
words-asked : (told next : Told) (key : List ℕ) (words : List Spoken) → next.said ≡ told.said ++ tagged key words → asked (said_under key next.said) ≡ asked (said_under key told.said) ++ asked words
words-asked told next key words said =
    ap (λ (all : List (List ℕ × Spoken)). asked (said_under key all)) said
    ∙ ap (λ (l : List Spoken). asked l) (said-append key told.said (tagged key words) ∙ ap (λ (l : List Spoken). said_under key told.said ++ l) (said-own key words))
    ∙ asked-append (said_under key told.said) words

none-in : {X : Type 0} (x : X) → Contains [] x → ⊥
none-in x has = omega (arith, has.1)

only-one : {X : Type 0} (x y : X) → Contains (x ∷ []) y → x ≡ y
only-one x y has = by_place (cons-cases x [] y has)
  where
    by_place : (x ≡ y) ⊎ Contains [] y → x ≡ y
    by_place (inl here) = here
    by_place (inr never) = absurd (none-in y never)

-- each answer that is entered is one to the client of the monitor
tells-client : (stage : CallStage) (s : Secured) (before : Option ℕ) → KeyedStage stage s before → (W : ℕ → ℕ × Operation → Type 0) (a : CallArrival) (row : CallRow)
    → TurnHears W a stage s before row → AllByRecursion (EndsSo (λ (x : Answered). x.client ≡ a.own.mon_client.name)) row.entries
tells-client stage s before keyed W a row turn =
    all-map (EndsSo (TellsEnd a.own.mon_client turn.frame stage)) (EndsSo (λ (x : Answered). x.client ≡ a.own.mon_client.name)) by_entry row.entries turn.hears.entries
  where
    by_stage : (x : Answered) (st : CallStage) (r : Secured) (o : Option ℕ) → KeyedStage st r o → TellsEnd a.own.mon_client turn.frame st x → x.client ≡ a.own.mon_client.name
    by_stage x _ _ _ (SignedOn r callee) h = absurd h
    by_stage x _ _ _ (Identified r callee cookie) h = absurd h
    by_stage x _ _ _ (Reconnecting r callee cookie) h = absurd h
    by_stage x _ _ _ (Opened r callee cookie) (end, read, is) = ap (λ (y : Answered). y.client) is

    by_entry : (e : Entry) → EndsSo (TellsEnd a.own.mon_client turn.frame stage) e → EndsSo (λ (x : Answered). x.client ≡ a.own.mon_client.name) e
    by_entry (journal.Answered x) h = by_stage x stage s before keyed h
    by_entry (journal.Saved x) h = tt
    by_entry (journal.Issued x) h = tt
    by_entry (journal.Fetched x) h = tt
    by_entry (journal.Looked x) h = tt
    by_entry (journal.Sent x) h = tt
    by_entry (journal.Handled x) h = tt
    by_entry (journal.Admitted x) h = tt
    by_entry (journal.Resumed x) h = tt
    by_entry (journal.Refused x) h = tt
    by_entry (journal.Ended x) h = tt
    by_entry (journal.Restarted x) h = tt
    by_entry (journal.Broken x) h = tt
    by_entry (journal.Leaked x) h = tt

-- and it is entered where the link is open, of which the key is known to be that of a link to a daemon of the type of the one that is called
tells-called : (us : Uses) (stage : CallStage) (s : Secured) (before : Option ℕ) → KeyedStage stage s before → CalledKey us stage → (W : ℕ → ℕ × Operation → Type 0) (a : CallArrival) (row : CallRow)
    → TurnHears W a stage s before row → AllByRecursion (EndsSo (λ (x : Answered). IsOfCalled us s.keys.key (callee_of stage))) row.entries
tells-called us stage s before keyed called W a row turn =
    all-map (EndsSo (TellsEnd a.own.mon_client turn.frame stage)) (EndsSo (λ (x : Answered). IsOfCalled us s.keys.key (callee_of stage))) by_entry row.entries turn.hears.entries
  where
    by_stage : (x : Answered) (st : CallStage) (r : Secured) (o : Option ℕ) → KeyedStage st r o → TellsEnd a.own.mon_client turn.frame st x → CalledKey us st → IsOfCalled us r.keys.key (callee_of st)
    by_stage x _ _ _ (SignedOn r callee) h of = absurd h
    by_stage x _ _ _ (Identified r callee cookie) h of = absurd h
    by_stage x _ _ _ (Reconnecting r callee cookie) h of = absurd h
    by_stage x _ _ _ (Opened r callee cookie) h of = of

    by_entry : (e : Entry) → EndsSo (TellsEnd a.own.mon_client turn.frame stage) e → EndsSo (λ (x : Answered). IsOfCalled us s.keys.key (callee_of stage)) e
    by_entry (journal.Answered x) h = by_stage x stage s before keyed h called
    by_entry (journal.Saved x) h = tt
    by_entry (journal.Issued x) h = tt
    by_entry (journal.Fetched x) h = tt
    by_entry (journal.Looked x) h = tt
    by_entry (journal.Sent x) h = tt
    by_entry (journal.Handled x) h = tt
    by_entry (journal.Admitted x) h = tt
    by_entry (journal.Resumed x) h = tt
    by_entry (journal.Refused x) h = tt
    by_entry (journal.Ended x) h = tt
    by_entry (journal.Restarted x) h = tt
    by_entry (journal.Broken x) h = tt
    by_entry (journal.Leaked x) h = tt

-- of one key one service is known
same-service : (at other : NodeName) (number second : ℕ) (name whose : Name) (tie last : ℕ) (a b : EntityType) → Connected at number name (AtDaemon a tie) ≡ Connected other second whose (AtDaemon b last) → a ≡ b
same-service at other number second name whose tie last a b e = cc

-- ---- a step

module _ (run : WholeRun) (whole : List Logged) (us vs : Uses) (told : Told) (given : List (List ℕ × Given)) (reads : List (List ℕ × ℕ)) (log : List Logged) (line : ℕ) (J : List Entry) (name : Name)
    (c : WholeClientNode) (o : Outcome WholeClientNode) (named : c.own.mon_client.name ≡ name) (still : o.state.own.mon_client.name ≡ name) (i : Inv run whole us log J)
    (one : (k : List ℕ) (u v : Use) → Means vs k u → Means vs k v → u ≡ v) (f : Grows us vs) (t : AreTold run us told log J) (known : ClientKnown us told log c)
    (granted : AreGranted run.leaked whole (node.Entity name) line log o.out.seals) (all : AllTrue run us told given reads log J) (h : ClientHears run told given reads c)
    (called : LinksNamed us c.links) (b : ClientBehind run us vs told log line (entered J o.out.entries) name c o) where
  abbrev n : NodeName
  n = node.Entity name

  abbrev K : List Entry
  K = entered J o.out.entries

  abbrev later : List Logged
  later = behind n line o.out.seals log

  abbrev next : Told
  next = b.next

  abbrev Reads : Type 0
  Reads = List (List ℕ × ℕ)

  -- they were read under the key of the link that the step is on
  abbrev OwnReads : Reads → Type 0
  OwnReads more = (key : List ℕ) (place : ℕ) → Contains more (key, place) → IsBoundTo us told key name b.number

  all-behind : AllGiven run vs next given later K
  all-behind =
      still-given run whole us vs told next given log J K n line o.out.seals one f (continues J o.out.entries) i (moved-longer us vs told log o.out.seals name b.number next b.moved) b.gives_none all.all

  -- ---- links as they were

  was-hears : (number : ℕ) (stage : CallStage) → WasAt c.links number (ToDaemon stage) → CallHears run told given reads name stage
  was-hears number stage was =
      some-of (λ (l : Link ClientStage). (l.number ≡ number) × (l.stage ≡ ToDaemon stage)) (λ (l : Link ClientStage). StageHears run told given reads c.own.mon_client.name l.stage)
      (CallHears run told given reads name stage)
      (λ l at heard. subst (λ (m : Name). CallHears run told given reads m stage) named (subst (λ (st : ClientStage). StageHears run told given reads c.own.mon_client.name st) at.1 heard)) c.links was h

  was-told : (number : ℕ) (stage : CallStage) → WasAt c.links number (ToDaemon stage) → CallTold us told log name number stage
  was-told number stage was =
      some-of (λ (l : Link ClientStage). (l.number ≡ number) × (l.stage ≡ ToDaemon stage)) (λ (l : Link ClientStage). StageTold us told log c.own l.number l.stage)
      (CallTold us told log name number stage)
      (λ l at k. subst (λ (m : ℕ). CallTold us told log name m stage) at.0
      (subst (λ (m : Name). CallTold us told log m l.number stage) named (subst (λ (st : ClientStage). StageTold us told log c.own l.number st) at.1 k).0)) c.links was known.links.links

  was-called : (number : ℕ) (stage : CallStage) → WasAt c.links number (ToDaemon stage) → CalledKey us stage
  was-called number stage was =
      some-of (λ (l : Link ClientStage). (l.number ≡ number) × (l.stage ≡ ToDaemon stage)) (LinkNamed us) (CalledKey us stage)
      (λ l at k. (subst (λ (st : ClientStage). StageNamed us l.received l.taken l.sent st) at.1 k).2) c.links was called

  other-hears : (more : Reads) → OwnReads more → (second : ℕ) (stage : CallStage) → (second ≡ b.number → ⊥) → WasAt c.links second (ToDaemon stage) → CallHears run next given (reads ++ more) name stage
  other-hears more own second stage apart was =
      let k = was-told second stage was in
      let heard = was-hears second stage was in (
        moved-heard run us vs told given log o.out.seals name b.number next b.moved name second (λ e. apart e.1) stage k heard.0,
        λ free. behind-still us i.one told log reads more name name b.number second own (λ e. apart e.1) stage k (heard.1 free),
      )

  -- ---- a step that says nothing

  none-hears : next.said ≡ told.said → (number : ℕ) (stage : ClientStage) → StageFrom c.links number stage → StageHears run next given reads name stage
  none-hears same number (ToMonitor stage) from = tt
  none-hears same number (ToDaemon stage) (inl keyless) = unkeyed-hears run next given reads name stage keyless
  none-hears same number (ToDaemon stage) (inr was) = let heard = was-hears number stage was in (same-heard run told next given name stage same heard.0, heard.1)

  all-still : NoEnds o.out.entries → AllTrue run vs next given reads later K
  all-still none = record {
    all = all-behind;
    read = read-still run us vs given reads J o.out.entries f none all.read;
    bound = bound-stays us vs told next reads f (moved-bound us vs told log o.out.seals name b.number next b.moved) all.bound;
  }

  own-name : (r : Reads) (stage : ClientStage) → StageHears run next given r name stage → StageHears run next given r o.state.own.mon_client.name stage
  own-name r stage heard = subst (λ (m : Name). StageHears run next given r m stage) (sym still) heard

  abbrev Truth : Type 0
  Truth = ClientTruth run us vs told next given reads log line J K name b.number o

  -- where nothing is read
  no-reads : NoEnds o.out.entries → AllByRecursion (λ (l : Link ClientStage). StageHears run next given reads name l.stage) o.state.links → Truth
  no-reads none links = record {
    more = [];
    own = λ key place has. absurd (none-in (key, place) has);
    known = subst (λ (r : Reads). AllTrue run vs next given r later K) (sym (append-nil reads)) (all-still none);
    hears = subst (λ (r : Reads). ClientHears run next given r o.state) (sym (append-nil reads))
        (all-map (λ (l : Link ClientStage). StageHears run next given reads name l.stage) (λ (l : Link ClientStage). StageHears run next given reads o.state.own.mon_client.name l.stage)
        (λ l heard. own-name reads l.stage heard) o.state.links links);
    quiet = b.gives_none;
    told_so = none-true run J o.out.entries none;
  }

  none-truth : next.said ≡ told.said → AllByRecursion (λ (l : Link ClientStage). StageFrom c.links l.number l.stage) o.state.links → NoEnds o.out.entries → Truth
  none-truth same links none =
      no-reads none
      (all-map (λ (l : Link ClientStage). StageFrom c.links l.number l.stage) (λ (l : Link ClientStage). StageHears run next given reads name l.stage)
      (λ l from. none-hears same l.number l.stage from) o.state.links links)

  -- ---- a step on a link

  -- all links hear, where the one that the step is on does
  left-hears : (more : Reads) → OwnReads more → (left : Option (Link CallStage)) → ((it : Link CallStage) → left ≡ Some it → CallHears run next given (reads ++ more) name it.stage)
      → (l : Link ClientStage) → LeftFrom c.links b.number left l → StageHears run next given (reads ++ more) name l.stage
  left-hears more own left it l (inl (apart, from)) = by_stage l.stage from
    where
      by_stage : (stage : ClientStage) → StageFrom c.links l.number stage → StageHears run next given (reads ++ more) name stage
      by_stage (ToMonitor stage) g = tt
      by_stage (ToDaemon stage) (inl keyless) = unkeyed-hears run next given (reads ++ more) name stage keyless
      by_stage (ToDaemon stage) (inr was) = other-hears more own l.number stage apart was
  left-hears more own left it l (inr (link, is, at)) = subst (λ (st : ClientStage). StageHears run next given (reads ++ more) name st) (sym at) (it link is)

  -- where nothing is read on it
  left-truth : NoEnds o.out.entries → (left : Option (Link CallStage)) → ((it : Link CallStage) → left ≡ Some it → CallHears run next given reads name it.stage)
      → AllByRecursion (LeftFrom c.links b.number left) o.state.links → Truth
  left-truth none left it links =
      no-reads none
      (all-map (LeftFrom c.links b.number left) (λ (l : Link ClientStage). StageHears run next given reads name l.stage)
      (λ l from. subst (λ (r : Reads). StageHears run next given r name l.stage) (append-nil reads)
      (left-hears [] (λ key place has. absurd (none-in (key, place) has)) left
      (λ link is. subst (λ (r : Reads). CallHears run next given r name link.stage) (sym (append-nil reads)) (it link is)) l from)) o.state.links links)

  -- ---- an operation is said

  order-hears : (s r : Secured) (callee : Callee) (cookie : ℕ) (order : ℕ × Operation) → WasAt c.links b.number (ToDaemon (call.Open s callee cookie)) → r.keys.key ≡ s.keys.key
      → r.keys.into ≡ s.keys.into → next.said ≡ told.said ++ tagged s.keys.key (Orders order ∷ []) → CallHears run next given reads name (call.Open r callee cookie)
  order-hears s r callee cookie order was key into said =
      let heard = was-hears b.number (call.Open s callee cookie) was in
      let asks : asked (said_under s.keys.key next.said) ≡ asked (said_under s.keys.key told.said) =
      words-asked told next s.keys.key (Orders order ∷ []) said ∙ append-nil (asked (said_under s.keys.key told.said)) in (
        hears-same run told next given name s r [] key into asks heard.0,
        λ free place has.
            subst (λ (m : ℕ). place < m) (sym (ap (λ (w : Way). w.counter) into)) (heard.1 free place (subst (λ (k : List ℕ). Contains reads (k, place)) key has)),
      )

  -- ---- a reply gives a link its key

  module _ (row : CallRow) (nonce : ℕ) (callee : Callee) (x : AuthorizeReply) (s : Secured) (shown : IsShown told name b.number nonce) (reply : HasReply us name x)
      (answers : x.nonce_plus_one ≡ raised nonce) (keys : s.keys ≡ connector_keys x.secret) (says : Says (SentFits K name) b.number callee s None row)
      (grown : (link : Link CallStage) → row.link ≡ Some link → next.said ≡ told.said ++ tagged s.keys.key says.words) where
    begun-hears : (link : Link CallStage) → row.link ≡ Some link → CallHears run next given reads name link.stage
    begun-hears link is = (
      heard-keyed run next given name link.stage l.0 (cookie_behind None says.words) l.1 (first-heard run us next given name x l.0 (pending_of link.stage) reply way asks),
      λ free. reads-keyed reads link.stage l.0 (cookie_behind None says.words) l.1
          (λ place has. absurd (unread us i.one told reads name b.number nonce x all.bound shown reply answers place (subst (λ (k : List ℕ). Contains reads (k, place)) (key ∙ own) has))),
    )
      where
        l : (r : Secured) × KeyedStage link.stage r (cookie_behind None says.words) × (r.keys ≡ says.sealed.keys) × (link.number ≡ b.number)
        l = says.link link is

        so : AreSealed s.keys.key s.keys (map frame_of says.words) says.sealed
        so = are-sealed s.keys.key s.keys (map frame_of says.words) says.sealed refl says.made

        key : l.0.keys.key ≡ s.keys.key
        key = ap (λ (k : Keys). k.key) l.2 ∙ so.key_is

        own : s.keys.key ≡ (connector_keys x.secret).key
        own = ap (λ (k : Keys). k.key) keys

        way : l.0.keys.into ≡ (connector_keys x.secret).into
        way = ap (λ (k : Keys). k.into) l.2 ∙ so.into ∙ ap (λ (k : Keys). k.into) keys

        silent : said_under s.keys.key told.said ≡ []
        silent = ap (λ (k : List ℕ). said_under k told.said) own ∙ unspoken run us told log J i.one t name b.number nonce shown x reply answers

        asks : asked (said_under l.0.keys.key next.said) ≡ pending_of link.stage
        asks =
            ap (λ (k : List ℕ). asked (said_under k next.said)) key ∙ words-asked told next s.keys.key says.words (grown link is)
            ∙ ap (λ (xs : List Spoken). asked xs ++ asked says.words) silent ∙ says.waits link is

  -- ---- a frame is read

  module _ (a : CallArrival) (stage : CallStage) (row : CallRow) (was : WasAt c.links b.number (ToDaemon stage)) (here : a.link.number ≡ b.number) (own : a.own.mon_client.name ≡ name)
      (entries : o.out.entries ≡ row.entries) (seals : o.out.seals ≡ row.seals) (s : Secured) (before : Option ℕ) (keyed : KeyedStage stage s before)
      (turn : TurnHears (SentFits K name) a stage s before row)
      (grown : (link : Link CallStage) → row.link ≡ Some link → next.said ≡ told.said ++ tagged s.keys.key turn.says.words) where
    abbrev Free : Type 0
    Free = Contains run.leaked name → ⊥

    abbrev W : ℕ → ℕ × Operation → Type 0
    W = SentFits K name

    keyed-here : IsKeyed us told log name b.number s before
    keyed-here = keyed-of us told log name b.number stage s before keyed (was-told b.number stage was)

    k : IsKeyed us told log name a.link.number s before
    k = subst (λ (m : ℕ). IsKeyed us told log name m s before) (sym here) keyed-here

    heard-before : CallHears run told given reads name stage
    heard-before = was-hears b.number stage was

    hears-now : Hears run told given name s (pending_of stage)
    hears-now = keyed-heard run told given name stage s before keyed heard-before.0

    on : Free → ReadsOn reads s
    on free = keyed-reads reads stage s before keyed (heard-before.1 free)

    g : AreGranted run.leaked whole n line log row.seals
    g = subst (λ (es : List SealEntry). AreGranted run.leaked whole n line log es) seals granted

    abbrev more : Reads
    more = (s.keys.key, s.keys.into.counter) ∷ []

    turn-own : OwnReads more
    turn-own key place has =
        subst (λ (m : List ℕ). IsBoundTo us told m name b.number) (ap (λ (p : List ℕ × ℕ). p.0) (only-one (s.keys.key, s.keys.into.counter) (key, place) has))
        (record { nonce = keyed-here.nonce; low = keyed-here.low; is = keyed-here.is; stands = keyed-here.stands })

    -- the link that goes on
    turn-asks : (link : Link CallStage) → row.link ≡ Some link → AsksOn told next link.stage
    turn-asks link is =
        let l = turn.says.link link is in
        let key : l.0.keys.key ≡ s.keys.key =
        ap (λ (x : Keys). x.key) l.2 ∙ (are-sealed s.keys.key (keys_behind s.keys turn.frame) (map frame_of turn.says.words) turn.says.sealed refl turn.says.made).key_is in
        asks-of told next link.stage l.0 (cookie_behind before turn.says.words) l.1
        (subst (λ (m : List ℕ). asked (said_under m next.said) ≡ asked (said_under m told.said) ++ pending_of link.stage) (sym key)
        (words-asked told next s.keys.key turn.says.words (grown link is) ∙ ap (λ (xs : List ℕ). asked (said_under s.keys.key told.said) ++ xs) (turn.says.waits link is)))

    turn-hears : (link : Link CallStage) → row.link ≡ Some link → CallHears run next given (reads ++ more) name link.stage
    turn-hears link is =
        let l = turn.says.link link is in (
          call-heard run whole us vs told given log J K n line f i all.all name a W stage s before keyed k hears-now row turn g next turn-asks link is,
          λ free. reads-keyed (reads ++ more) link.stage l.0 (cookie_behind before turn.says.words) l.1
              (turn-reads run whole us told given log J n line i all.all.known name a W stage s before keyed k hears-now row turn g reads on l.0 l.2 free),
        )

    -- ---- the answers that it enters

    clients : AllByRecursion (EndsSo (λ (x : Answered). x.client ≡ a.own.mon_client.name)) row.entries
    clients = tells-client stage s before keyed W a row turn

    abbrev TrueEnd : Answered → Type 0
    TrueEnd x = IsTrueEnd J k.is.service name a.own.mon_client.name (callee_of stage).daemon x

    abbrev ReadHere : Answered → Type 0
    ReadHere x = ReadsAt us given s.keys.key s.keys.into.counter x

    ends : Free → AllByRecursion (EndsSo TrueEnd) row.entries
    ends free = call-ends run whole us vs told given log J K n line f i all.all name a W stage s before keyed k hears-now row turn g free

    ends-here : Free → AllByRecursion (EndsSo ReadHere) row.entries
    ends-here free = call-reads run whole us vs told given log J K n line f i all.all name a W stage s before keyed k hears-now row turn g own free

    calls : AllByRecursion (EndsSo (λ (x : Answered). IsOfCalled us s.keys.key (callee_of stage))) row.entries
    calls = tells-called us stage s before keyed (was-called b.number stage was) W a row turn

    service-called : IsOfCalled us s.keys.key (callee_of stage) → k.is.service ≡ (callee_of stage).daemon.kind
    service-called of =
        same-service k.is.acceptor of.acceptor k.is.number of.number name of.name (raised k.nonce) of.tie k.is.service (callee_of stage).daemon.kind
        (i.one s.keys.key (Connected k.is.acceptor k.is.number name (AtDaemon k.is.service (raised k.nonce)))
        (Connected of.acceptor of.number of.name (AtDaemon (callee_of stage).daemon.kind of.tie)) k.is.means of.means)

    end-true : (x : Answered) → IsOfCalled us s.keys.key (callee_of stage) → TrueEnd x → IsEndOf J x
    end-true x of e = record {
      service = k.is.service;
      kind = service-called of ∙ ap (λ (m : Name). m.kind) (sym e.daemon_is);
      ended = record {
        client_is = refl;
        daemon_is = refl;
        handled = e.handled;
        kind = e.kind;
        seq = e.seq;
        ended = e.ended;
        cookie_is = e.cookie_is;
        served = subst (λ (m : Name). WasServed J m e.handled) (sym (e.client_is ∙ own)) e.served;
      };
    }

    answer-true : (x : Answered) → x.client ≡ a.own.mon_client.name → IsOfCalled us s.keys.key (callee_of stage) → (Free → TrueEnd x) → (Free → ReadHere x) → TruthLaw run J (journal.Answered x)
    answer-true x client of end read = λ free.
        let mine : Free = subst (λ (m : Name). Contains run.leaked m → ⊥) (client ∙ own) free in (
          end-true x of (end mine),
          λ y earlier same cookie tid.
              call-once run whole us vs told given log J K n line f i all.all name a W stage s before keyed k hears-now row turn g reads all.read (on mine) x y free (read mine) earlier same cookie tid,
        )

    entry-true : (e : Entry) → EndsSo (λ (x : Answered). x.client ≡ a.own.mon_client.name) e → EndsSo (λ (x : Answered). IsOfCalled us s.keys.key (callee_of stage)) e → (Free → EndsSo TrueEnd e) → (Free → EndsSo ReadHere e) → TruthLaw run J e
    entry-true (journal.Answered x) client of end read = answer-true x client of end read
    entry-true _ client of end read = tt

    each-true : (es : List Entry) → AllByRecursion (EndsSo (λ (x : Answered). x.client ≡ a.own.mon_client.name)) es
        → AllByRecursion (EndsSo (λ (x : Answered). IsOfCalled us s.keys.key (callee_of stage))) es → (Free → AllByRecursion (EndsSo TrueEnd) es)
        → (Free → AllByRecursion (EndsSo ReadHere) es) → AllByRecursion (TruthLaw run J) es
    each-true [] client of end read = tt
    each-true (e ∷ es) client of end read =
        (entry-true e client.0 of.0 (λ free. (end free).0) (λ free. (read free).0), each-true es client.1 of.1 (λ free. (end free).1) (λ free. (read free).1))

    all-true : EachBehind (TruthLaw run) J o.out.entries
    all-true =
        subst (λ (es : List Entry). EachBehind (TruthLaw run) J es) (sym entries)
        (first-true run J row.entries turn.hears.alone (each-true row.entries clients calls ends ends-here))

    places : (x : Answered) → Contains K (journal.Answered x) → Contains J (journal.Answered x) ⊎ (x.client ≡ name) × Contains row.entries (journal.Answered x)
    places x has = by_place (end-place J o.out.entries x has)
      where
        by_place : Contains J (journal.Answered x) ⊎ Contains o.out.entries (journal.Answered x) → Contains J (journal.Answered x) ⊎ (x.client ≡ name) × Contains row.entries (journal.Answered x)
        by_place (inl earlier) = inl earlier
        by_place (inr now) =
            let there : Contains row.entries (journal.Answered x) = subst (λ (es : List Entry). Contains es (journal.Answered x)) entries now in
            inr (end-of (λ (y : Answered). y.client ≡ a.own.mon_client.name) row.entries x clients there ∙ own, there)

    -- ---- so it is of the step

    turn-known : AllTrue run vs next given (reads ++ more) later K
    turn-known = record {
      all = all-behind;
      read = call-read run whole us vs told given log J K n line f i all.all name a W stage s before keyed k hears-now row turn g reads all.read own places;
      bound = bound-reads us vs told next log reads name b.number s before s.keys.into.counter f (moved-bound us vs told log o.out.seals name b.number next b.moved) keyed-here all.bound;
    }

    turn-truth : AllByRecursion (LeftFrom c.links b.number row.link) o.state.links → Truth
    turn-truth links = record {
      more = more;
      own = turn-own;
      known = turn-known;
      hears = all-map (LeftFrom c.links b.number row.link) (λ (l : Link ClientStage). StageHears run next given (reads ++ more) o.state.own.mon_client.name l.stage)
          (λ l from. own-name (reads ++ more) l.stage (left-hears more turn-own row.link turn-hears l from)) o.state.links links;
      quiet = b.gives_none;
      told_so = all-true;
    }

  -- ---- any step

  row-truth : (a : CallArrival) (stage : CallStage) (row : CallRow) → WasAt c.links b.number (ToDaemon stage) → a.link.number ≡ b.number → a.own.mon_client.name ≡ name → o.out.entries ≡ row.entries
      → o.out.seals ≡ row.seals → (shown : RowShown us told log K name b.number a stage row)
      → ((link : Link CallStage) → row.link ≡ Some link → next.said ≡ told.said ++ more_of us told log K name b.number a stage row shown)
      → AllByRecursion (LeftFrom c.links b.number row.link) o.state.links → Truth
  row-truth a stage row was here own entries seals (Unkeyed keyless none) grown links =
      left-truth (subst NoEnds (sym entries) none) row.link (λ it is. unkeyed-hears run next given reads name it.stage (keyless it is)) links
  row-truth a stage row was here own entries seals (Begun nonce callee x s shown reply answers keys says none) grown links =
      left-truth (subst NoEnds (sym entries) none) row.link (begun-hears row nonce callee x s shown reply answers keys says grown) links
  row-truth a stage row was here own entries seals (Turned s before keyed turn) grown links = turn-truth a stage row was here own entries seals s before keyed turn grown links

  by-shown : ClientShows us told log K name c b.number o next → Truth
  by-shown (ShowsNone same links none) = none-truth same links none
  by-shown (ShowsRow a stage row was here own entries seals shown grown links) = row-truth a stage row was here own entries seals shown grown links
  by-shown (ShowsOrder s r callee cookie order left was at key into said links none) =
      left-truth none (Some left)
      (λ it is.
      let same : left ≡ it = cc in
      subst (λ (st : CallStage). CallHears run next given reads name st) (sym at ∙ ap (λ (l : Link CallStage). l.stage) same) (order-hears s r callee cookie order was key into said)) links

  pub step-truth : Truth
  step-truth = by-shown b.shows
