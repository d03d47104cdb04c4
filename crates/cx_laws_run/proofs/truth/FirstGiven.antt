-- A second authorizer that passes: AUTH_SIGNATURE is the first that is given under the key of its link, which is new; all that is known of what was given stays known.
use Rattle.std.proofs.Common.{◌≡◌, ℕ, false, zero, suc, List, [], ◌∷◌, ◌++◌, length, take, arith, Option, Some, None, Result, Ok, Err, refl, sym, ap, ◌∙◌, subst, append-nil}
use Rattle.std.proofs.lemmas.Bool.{false_from_ne_true}
use Rattle.std.proofs.lemmas.Slice.Eq.{bytes_eq-Decides}
use Rattle.std.specs.Prelude.{Contains}
use Rattle.std.specs.Str.{bytes_eq}
use Rattle.cx_base.specs.Names.{Name}
use Rattle.cx_base.specs.declared.kinds.EntityType.{EntityType}
use Rattle.cx_base.specs.declared.nodes.NodeName.{NodeName}
use Rattle.cx_base.specs.declared.nodes.NodeName.TheVariants as node
use Rattle.cx_dice.specs.Draws.{connection_of}
use Rattle.cx_digest.specs.Code.{hmac}
use Rattle.cx_journal.specs.declared.entries.Entry.{Entry}
use Rattle.cx_journal.specs.declared.faults.BytesFault.{BytesFault}
use Rattle.cx_journal.specs.declared.outcomes.Outcome.{Outcome}
use Rattle.cx_laws_run.specs.cx_laws_tickets.proofs.authorize.Keys.{LinkKeys}
use Rattle.cx_laws_run.specs.cx_laws_keys.proofs.keys.Known.{Inv}
use Rattle.cx_laws_run.specs.cx_laws_keys.proofs.keys.Premises.{AreGranted, behind, granted-first}
use Rattle.cx_laws_run.specs.cx_laws_keys.proofs.keys.Uses.{AtDaemon, Connected, Generated, Grows, Login, Means, Secret, Ticketed, Use, Uses, WholeRun}
use Rattle.cx_laws_run.specs.cx_laws_keys.proofs.series.Contents.{contents_by}
use Rattle.cx_laws_run.specs.cx_laws_keys.proofs.series.Series.{IsAt}
use Rattle.cx_laws_run.specs.cx_rules.specs.Acceptor.{AwaitsSignature, joined}
use Rattle.cx_laws_run.specs.cx_rules.specs.Links.{Link}
use Rattle.cx_laws_run.specs.cx_rules.specs.Secured.{SealedFrame, Secured, acceptor_keys, plain_frame, secure_frame, signature, signing}
use Rattle.cx_laws_run.specs.cx_rules_session.specs.DaemonRule.{DaemonStage}
use Rattle.cx_laws_run.specs.cx_rules_session.specs.Envelopes.{authorize_reply_content, session_sealed}
use Rattle.cx_laws_run.specs.cx_rules_session.specs.IncomingLinks.{IncomingArrival, IncomingRow, IncomingStage, authority_of, authorized_frame, authorizes, done_sent}
use Rattle.cx_laws_run.specs.cx_rules_session.specs.Hosting.{Instruction}
use Rattle.cx_laws_run.specs.cx_sealed.specs.declared.service_ticket.ServiceTicket.{ServiceTicket}
use Rattle.cx_steps.specs.declared.seals.DrawMark.TheVariants as draw
use Rattle.cx_steps.specs.declared.seals.Logged.{Logged}
use Rattle.cx_steps.specs.declared.seals.SealEntry.{SealEntry}
use Rattle.cx_steps.specs.declared.seals.SealEntry.TheVariants as entry
use Rattle.cx_laws_run.specs.cx_laws_links.proofs.links.CallTells.{quiet-none}
use Rattle.cx_laws_run.specs.cx_laws_links.proofs.links.CallWords.{AreQuiet, quiet-append}
use Rattle.cx_laws_run.specs.cx_laws_links.proofs.links.Known.{Told}
use Rattle.cx_laws_run.specs.cx_laws_links.proofs.links.Lifting.{link-grows}
use Rattle.cx_laws_run.specs.cx_laws_links.proofs.links.Written.{IsLinkKey}
use Rattle.cx_laws_run.specs.cx_laws_links.proofs.answers.AllGiven.{AllGiven}
use Rattle.cx_laws_run.specs.cx_laws_links.proofs.answers.Begins.{begins-giver, begins-known, others-quiet, unused}
use Rattle.cx_laws_run.specs.cx_laws_links.proofs.answers.Given.{Answers, Given, Signs, given_frame, given_under, gives_under, is_acceptors, replied, replied-append}
use Rattle.cx_laws_run.specs.cx_laws_links.proofs.answers.Growing.{given-stays}
use Rattle.cx_laws_run.specs.cx_laws_links.proofs.answers.Keyed.{given-other, given-own, gives-key}
use Rattle.cx_laws_run.specs.cx_laws_links.proofs.answers.Known.{AreGiven, Continues, continues}
use Rattle.cx_laws_run.specs.cx_laws_links.proofs.answers.Moving.{in-step-gives, in-step-speaks}
use Rattle.cx_laws_run.specs.cx_laws_links.proofs.answers.Once.{AnswersAnew, once-gives, once-stays}
use Rattle.cx_laws_run.specs.cx_laws_links.proofs.answers.Replied.{AreInStep, IncomingGiven, IsGiver, IsInStep}
use Rattle.cx_laws_run.specs.cx_laws_keys.proofs.series.Frames.{frame-sealed}
use Rattle.cx_laws_run.proofs.sent.DaemonKnown.{IsOne}
use Rattle.cx_laws_run.proofs.sent.State.{IsLinkAt}
use Rattle.cx_laws_run.proofs.truth.IncomingLinksStay.{all-still, host-still, same-told}
use Rattle.cx_laws_run.proofs.truth.State.{GivesNothing, HostGiven}

none-in : {X : Type 0} (x : X) → Contains [] x → ⊥
none-in x has = omega (arith, has.1)

none-links : (x : Link IncomingStage) → (let o : Option (Link IncomingStage) = None in o ≡ Some x) → ⊥
none-links x e = cc

-- which acceptor's link a key is for
abbrev pub acceptor_of : NodeName → Use → NodeName
acceptor_of other (Connected at number name tie) = at
acceptor_of other (Secret name) = other
acceptor_of other (Generated service id) = other
acceptor_of other (Login name) = other
acceptor_of other (Ticketed name service) = other

module _ (run : WholeRun) (whole : List Logged) (us vs : Uses) (told : Told) (given : List (List ℕ × Given)) (log : List Logged) (J K : List Entry) (line : ℕ) (i : Inv run whole us log J) (f : Grows us vs)
    (h : AllGiven run us told given log J) (daemon : Name) (w : Continues J K) where
  abbrev n : NodeName
  n = node.Entity daemon

  -- what is known behind what a row seals, whose link goes on so
  pub record GivenBy (es : List SealEntry) (found : Option (Link IncomingStage)) : Type 0 where
    pub more : List (List ℕ × Given)
    pub own : (key : List ℕ) (x : Given) → Contains more (key, x) → IsLinkAt vs key (node.Entity daemon)
    pub known : AllGiven run vs told (given ++ more) (behind (node.Entity daemon) line es log) K
    pub link : (l : Link IncomingStage) → found ≡ Some l → IncomingGiven run vs told (given ++ more) (behind (node.Entity daemon) line es log) (node.Entity daemon) daemon l.number l.stage
    pub others : (number : ℕ) (stage : DaemonStage) → HostGiven run us told given log (node.Entity daemon) daemon number stage
        → HostGiven run vs told (given ++ more) (behind (node.Entity daemon) line es log) (node.Entity daemon) daemon number stage
    pub elsewhere : (key : List ℕ) (name : Name) (tie : ℕ) → (is : IsLinkKey vs key name tie) → (is.acceptor ≡ node.Entity daemon → ⊥) → contents_by key is_acceptors es ≡ []

  -- where it seals nothing
  pub quiet-by : (es : List SealEntry) → IsOne vs → GivesNothing vs es → GivenBy es None
  quiet-by es one quiet =
      let later : List Logged = behind n line es log in
      let all : AllGiven run vs told given later K = all-still run whole us vs told told given log J K n line es one f w i (same-told told) quiet h in
      record {
        more = [];
        own = λ key x has. absurd (none-in (key, x) has);
        known = subst (λ (l : List (List ℕ × Given)). AllGiven run vs told l later K) (sym (append-nil given)) all;
        link = λ l e. absurd (none-links l e);
        others = λ number stage was. subst (λ (l : List (List ℕ × Given)). HostGiven run vs told l later n daemon number stage) (sym (append-nil given))
            (host-still run us vs f told told (same-told told) given given log n line es n daemon number
            (λ key name tie is at. record { sealed = quiet key name tie (link-grows us vs key name tie f is); given_is = refl }) stage was);
        elsewhere = λ key name tie is apart. quiet key name tie is;
      }

  -- ---- the second authorizer

  module _ (one : IsOne vs) (b : IncomingArrival) (own : b.own.name ≡ daemon) (drawn : length b.draw ≡ 384) (opened : List SealEntry) (silent : AreQuiet opened) (ticket : ServiceTicket) (nonce : ℕ)
      (differ : AreGranted run.leaked whole (node.Entity daemon) line log opened → (key : List ℕ) (name : Name) (tie : ℕ) → IsLinkKey vs key name tie → bytes_eq ticket.session key ≡ false) where
    abbrev secret : List ℕ
    secret = connection_of b.draw

    abbrev key : List ℕ
    key = take 16 secret

    abbrev before : List SealEntry
    before = opened ++ entry.Drawn (draw.Connection secret ticket.name) ∷ []

    abbrev held : List SealEntry
    held = session_sealed ticket.session (authorize_reply_content nonce secret) ∷ []

    abbrev received : List ℕ
    received = take b.link.taken b.link.received

    abbrev word : Given
    word = Signs (hmac ticket.session received)

    before-quiet : GivesNothing vs before
    before-quiet other name tie is = quiet-none other is_acceptors before (quiet-append opened (entry.Drawn (draw.Connection secret ticket.name) ∷ []) silent (tt, tt))

    module _ (tie : ℕ) (is : Means vs key (Connected (node.Entity daemon) b.link.number ticket.name (AtDaemon b.own.name.kind tie))) (sealed : SealedFrame)
        (made : secure_frame (acceptor_keys secret) (given_frame word) ≡ Ok sealed) (granted : AreGranted run.leaked whole (node.Entity daemon) line log before) where
      apart : (other : List ℕ) (name : Name) (tied : ℕ) → IsLinkKey vs other name tied → bytes_eq ticket.session other ≡ false
      apart = differ (granted-first run.leaked whole n line log opened (entry.Drawn (draw.Connection secret ticket.name) ∷ []) granted)

      abbrev es : List SealEntry
      es = before ++ (held ++ (signature ticket.session received ∷ sealed.seals))

      abbrev now : List (List ℕ × Given)
      now = given ++ gives_under key (word ∷ [])

      abbrev later : List Logged
      later = behind (node.Entity daemon) line es log

      link : IsLinkKey vs key ticket.name tie
      link = record { acceptor = node.Entity daemon; number = b.link.number; service = b.own.name.kind; means = is }

      -- by all keys, what was known before
      known-before : AreGiven run vs given log J
      known-before = given-stays run whole us vs given log J J n line [] one f (continues J []) i h.known (λ other name tied there. refl)

      step-before : AreInStep run vs told given
      step-before = in-step-speaks run us vs told told given log J one f (same-told told) h.known h.step

      still-in : IsInStep told given key → IsInStep told now key
      still-in st = (
        st.0,
        st.1 ∙ ap (λ (l : List ℕ). l ++ st.0)
            (sym (ap (λ (l : List Given). replied l) (given-own key given (word ∷ [])) ∙ replied-append (given_under key given) (word ∷ []) ∙ append-nil (replied (given_under key given)))),
      )

      no-answer : (p cookie : ℕ) (instruction : Instruction) (outcome : Outcome) → IsAt (word ∷ []) p (Answers cookie instruction outcome) → ⊥
      no-answer zero cookie instruction outcome at = absurd cc
      no-answer (suc p) cookie instruction outcome at = absurd at

      anew : AnswersAnew run vs given log J one known-before key ticket.name tie link (word ∷ [])
      anew = record {
        first = λ p cookie instruction outcome at. absurd (no-answer p cookie instruction outcome at);
        anew = λ p cookie instruction outcome at free x was cookie_is seq_is. no-answer p cookie instruction outcome at;
      }

      all-now : AllGiven run vs told now later K
      all-now = record {
        known = begins-known run whole us vs given log J K i h.known one f w n line b drawn opened silent ticket nonce tie apart told is sealed made granted;
        step = in-step-gives run vs told given key ticket.name tie (word ∷ []) one link (λ free st. still-in st) step-before;
        once = once-gives run vs given log J one known-before key ticket.name tie link (word ∷ []) anew (once-stays run us vs given log J one f h.known h.once);
      }

      -- a key that was known is another one
      known-apart : (other : List ℕ) (u : Use) → Means us other u → bytes_eq key other ≡ false
      known-apart other u means =
          false_from_ne_true (bytes_eq key other) (λ same.
          unused run whole us vs given log J K i h.known one f w n line b drawn opened silent ticket nonce tie apart granted u
          (subst (λ (k : List ℕ). Means us k u) (sym ((bytes_eq-Decides key other).0 same)) means))

      elsewhere-apart : (other : List ℕ) (name : Name) (tied : ℕ) → (there : IsLinkKey vs other name tied) → (there.acceptor ≡ node.Entity daemon → ⊥) → bytes_eq key other ≡ false
      elsewhere-apart other name tied there differs =
          false_from_ne_true (bytes_eq key other) (λ same.
          differs (ap (acceptor_of there.acceptor) (one other (Connected there.acceptor there.number name (AtDaemon there.service tied))
          (Connected (node.Entity daemon) b.link.number ticket.name (AtDaemon b.own.name.kind tie)) there.means
          (subst (λ (k : List ℕ). Means vs k (Connected (node.Entity daemon) b.link.number ticket.name (AtDaemon b.own.name.kind tie))) ((bytes_eq-Decides key other).0 same) is))))

      quiet-there : (other : List ℕ) (name : Name) (tied : ℕ) → IsLinkKey vs other name tied → bytes_eq key other ≡ false → contents_by other is_acceptors es ≡ []
      quiet-there other name tied there differs =
          others-quiet run whole us vs given log J K i h.known one f w n line b drawn opened silent ticket nonce tie apart told is sealed made granted other name tied there differs

      at-own : IsLinkAt vs key (node.Entity daemon)
      at-own = record { number = b.link.number; whose = ticket.name; tie = AtDaemon b.own.name.kind tie; means = is }

      pub begins-by : (done : Link IncomingStage) → ((l : Link IncomingStage) → Some done ≡ Some l → IncomingGiven run vs told now later (node.Entity daemon) daemon l.number l.stage) → GivenBy es (Some done)
      begins-by done goes = record {
        more = gives_under key (word ∷ []);
        own = λ other x has. subst (λ (l : List ℕ). IsLinkAt vs l n) (sym (gives-key key other (word ∷ []) x has)) at-own;
        known = all-now;
        link = goes;
        others = λ number stage was.
            host-still run us vs f told told (same-told told) given now log n line es n daemon number
            (λ other name tied there at.
            let differs : bytes_eq key other ≡ false = known-apart other (Connected there.acceptor there.number name (AtDaemon there.service tied)) there.means in
            record { sealed = quiet-there other name tied (link-grows us vs other name tied f there) differs; given_is = given-other other key given (word ∷ []) differs }) stage was;
        elsewhere = λ other name tied there differs. quiet-there other name tied there (elsewhere-apart other name tied there differs);
      }

    -- by what could be sent
    by-done : (p : Result (List ℕ) BytesFault) (r : Result SealedFrame BytesFault) → secure_frame (acceptor_keys secret) (given_frame word) ≡ r
        → ((key : List ℕ) (service : EntityType) (tie number : ℕ) (name : Name) → Means vs key (Connected (node.Entity daemon) number name (AtDaemon service tie)) → daemon.kind ≡ service) →
        let row : IncomingRow = done_sent b before held (authority_of b ticket) (joined ticket.session b.link.sent p (signing ticket.session received r)) in
        AreGranted run.leaked whole (node.Entity daemon) line log row.seals → LinkKeys vs (node.Entity daemon) row.link → GivenBy row.seals row.link
    by-done (Err why) r made placed g keys = quiet-by before one before-quiet
    by-done (Ok bytes) (Err why) made placed g keys = quiet-by before one before-quiet
    by-done (Ok bytes) (Ok sealed) made placed g keys =
        let so = frame-sealed (acceptor_keys secret) (given_frame word) sealed made in
        let key_is : sealed.keys.key ≡ key = ap (λ (x : SealedFrame). x.keys.key) so.0 in
        let there : Means vs key (Connected n b.link.number ticket.name (AtDaemon keys.service keys.tie)) =
        subst (λ (k : List ℕ). Means vs k (Connected n b.link.number ticket.name (AtDaemon keys.service keys.tie))) key_is keys.means in
        let kind : daemon.kind ≡ keys.service = placed key keys.service keys.tie b.link.number ticket.name there in
        let own_kind : keys.service ≡ b.own.name.kind = sym kind ∙ ap (λ (m : Name). m.kind) (sym own) in
        let is : Means vs key (Connected n b.link.number ticket.name (AtDaemon b.own.name.kind keys.tie)) =
        subst (λ (s : EntityType). Means vs key (Connected n b.link.number ticket.name (AtDaemon s keys.tie))) own_kind there in
        let first = granted-first run.leaked whole n line log before (held ++ (signature ticket.session received ∷ sealed.seals)) g in
        let now_given : List (List ℕ × Given) = given ++ gives_under key (word ∷ []) in
        let later : List Logged = behind n line (before ++ (held ++ (signature ticket.session received ∷ sealed.seals))) log in
        let done : Secured = record { keys = sealed.keys; session = ticket.session; covered = b.link.sent ++ bytes } in
        let opens = granted-first run.leaked whole n line log opened (entry.Drawn (draw.Connection secret ticket.name) ∷ []) first in
        let giver = begins-giver run whole us vs given log J K i h.known one f w n line b drawn opened silent ticket nonce keys.tie (differ opens) told is sealed made first done refl in
        let mine : IsGiver vs now_given later n daemon b.link.number done ticket.name = subst (λ (m : Name). IsGiver vs now_given later n m b.link.number done ticket.name) own giver.0 in
        let link : Link IncomingStage = record b.link { stage = AwaitsSignature done (authority_of b ticket) } in
        begins-by keys.tie is sealed made first link
        (λ l e. subst (λ (x : Link IncomingStage). IncomingGiven run vs told now_given later n daemon x.number x.stage) (some-link link l e) (mine, λ free. giver.1))
      where
        some-link : (x y : Link IncomingStage) → (let o : Option (Link IncomingStage) = Some x in let q : Option (Link IncomingStage) = Some y in o ≡ q) → x ≡ y
        some-link x y e = cc

    -- a row of such seals, whose link goes on so
    pub first-by : ((key : List ℕ) (service : EntityType) (tie number : ℕ) (name : Name) → Means vs key (Connected (node.Entity daemon) number name (AtDaemon service tie)) → daemon.kind ≡ service)
        → (seals : List SealEntry) (link : Option (Link IncomingStage)) → seals ≡ (authorizes b opened ticket nonce).seals → link ≡ (authorizes b opened ticket nonce).link
        → AreGranted run.leaked whole (node.Entity daemon) line log seals → LinkKeys vs (node.Entity daemon) link → GivenBy seals link
    first-by placed seals link seals_are link_is g keys =
        let row : IncomingRow = authorizes b opened ticket nonce in
        subst (λ (l : Option (Link IncomingStage)). GivenBy seals l) (sym link_is)
        (subst (λ (es : List SealEntry). GivenBy es row.link) (sym seals_are)
        (by-done (plain_frame (authorized_frame ticket nonce secret)) (secure_frame (acceptor_keys secret) (given_frame word)) refl placed
        (subst (λ (es : List SealEntry). AreGranted run.leaked whole n line log es) seals_are g)
        (subst (λ (l : Option (Link IncomingStage)). LinkKeys vs n l) link_is keys)))
