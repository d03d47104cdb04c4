-- Where a daemon answers a second authorizer, its link gives AUTH_SIGNATURE under a key that is new; and where that reply gives a client's link the key, nothing
-- of it was heard yet.
use Rattle.std.proofs.Common.{◌≡◌, ℕ, ◌≤◌, ◌^◌, Bool, true, false, List, [], ◌∷◌, ◌++◌, length, take, Option, Ok, inl, inr, ◌⊎◌, refl, sym, ap, ◌∙◌, subst, arith, append-nil, append_assoc, ◌+◌}
use Rattle.std.specs.Prelude.{◌&&◌}
use Rattle.std.specs.List.{cons_option}
use Rattle.std.specs.Str.{bytes_eq}
use Rattle.cx_laws_links.specs.cx_authorize.specs.Verdict.{raised}
use Rattle.cx_base.specs.Names.{Name}
use Rattle.cx_base.specs.declared.nodes.NodeName.{NodeName}
use Rattle.cx_digest.specs.Code.{hmac}
use Rattle.cx_dice.specs.Draws.{connection_of}
use Rattle.cx_frame.specs.Frames.{total}
use Rattle.cx_journal.specs.declared.entries.Entry.{Entry}
use Rattle.cx_journal.specs.declared.faults.BytesFault.{BytesFault}
use Rattle.cx_laws_links.specs.cx_laws_keys.proofs.keys.Journal.{entered}
use Rattle.cx_laws_links.specs.cx_laws_keys.proofs.keys.Known.{HasReply, Inv, IsOfAcceptor, IsOfConnector}
use Rattle.cx_laws_links.specs.cx_laws_keys.proofs.keys.Lists.{some-map}
use Rattle.cx_laws_links.specs.cx_laws_keys.proofs.keys.Premises.{AreGranted, DrawsKey, behind, behind-append, granted-rest, new-key}
use Rattle.cx_laws_links.specs.cx_laws_keys.proofs.keys.Uses.{AtDaemon, Connected, DrawnAs, Grows, Means, Use, Uses, WholeRun, whose}
use Rattle.cx_laws_links.specs.cx_laws_keys.proofs.login.Issuing.{acceptor-counts, acceptor-sends, connector-counts, connector-sends}
use Rattle.cx_laws_links.specs.cx_laws_keys.proofs.series.Contents.{content_where, contents-behind, contents_by, contents_in, parts-others}
use Rattle.cx_laws_links.specs.cx_laws_keys.proofs.series.Frames.{HasParts, frame-parts, frame-sealed}
use Rattle.cx_laws_links.specs.cx_rules.specs.Secured.{Keys, SealedFrame, Secured, acceptor_keys, connector_keys, secure_frame, Way, signature}
use Rattle.cx_laws_links.specs.cx_rules_session.specs.Envelopes.{authorize_reply_content, session_sealed}
use Rattle.cx_laws_links.specs.cx_rules_session.specs.IncomingLinks.{IncomingArrival}
use Rattle.cx_laws_links.specs.cx_sealed.specs.declared.authorize_reply.AuthorizeReply.{AuthorizeReply}
use Rattle.cx_laws_links.specs.cx_sealed.specs.declared.service_ticket.ServiceTicket.{ServiceTicket}
use Rattle.cx_secure.specs.Contents.{sealed_contents}
use Rattle.cx_secure.specs.Parts.{nonce_at}
use Rattle.cx_secure.specs.Plains.{plains}
use Rattle.cx_steps.specs.declared.seals.DrawMark.TheVariants as draw
use Rattle.cx_steps.specs.declared.seals.Logged.{Logged}
use Rattle.cx_steps.specs.declared.seals.SealEntry.{SealEntry}
use Rattle.cx_steps.specs.declared.seals.SealEntry.TheVariants as entry
use Rattle.cx_laws_links.proofs.links.CallTells.{by-append, quiet-none}
use Rattle.cx_laws_links.proofs.links.CallWords.{AreQuiet, quiet-append}
use Rattle.cx_laws_links.proofs.links.Known.{Told}
use Rattle.cx_laws_links.proofs.links.Lifting.{some-behind}
use Rattle.cx_laws_links.proofs.links.Spoken.{asked, said_under}
use Rattle.cx_laws_links.proofs.links.Written.{IsLinkKey}
use Rattle.cx_laws_links.proofs.answers.CallHeard.{Hears}
use Rattle.cx_laws_links.proofs.answers.Given.{Given, Signs, given_frame, given_parts, given_under, gives_under, is_acceptors, replied}
use Rattle.cx_laws_links.proofs.answers.Growing.{Gives, given-gives, sealed-means}
use Rattle.cx_laws_links.proofs.answers.Heard.{passes-acceptor}
use Rattle.cx_laws_links.proofs.answers.Keyed.{given-has, given-own}
use Rattle.cx_laws_links.proofs.answers.Known.{Continues, AreGiven}
use Rattle.cx_laws_links.proofs.answers.Replied.{IncomingGiven, HasReplied, IsGiver}

none-sealed : (fixed : List ℕ) → sealed_contents fixed 0 [] ≡ []
unfolding sealed_contents
none-sealed fixed = refl

-- ---- the second authorizer

module _ (run : WholeRun) (whole : List Logged) (us vs : Uses) (given : List (List ℕ × Given)) (log : List Logged) (J K : List Entry) (i : Inv run whole us log J) (h : AreGiven run us given log J)
    (one : (k : List ℕ) (u v : Use) → Means vs k u → Means vs k v → u ≡ v) (f : Grows us vs) (w : Continues J K)
    (n : NodeName) (line : ℕ) (b : IncomingArrival) (drawn : length b.draw ≡ 384) (opened : List SealEntry) (silent : AreQuiet opened) (ticket : ServiceTicket) (nonce tie : ℕ)
    (apart : (other : List ℕ) (name : Name) (tie : ℕ) → IsLinkKey vs other name tie → bytes_eq ticket.session other ≡ false) where
  abbrev secret : List ℕ
  secret = connection_of b.draw

  abbrev key : List ℕ
  key = take 16 secret

  abbrev drew : SealEntry
  drew = entry.Drawn (draw.Connection secret ticket.name)

  abbrev before : List SealEntry
  before = opened ++ drew ∷ []

  abbrev held : List SealEntry
  held = session_sealed ticket.session (authorize_reply_content nonce secret) ∷ []

  abbrev received : List ℕ
  received = take b.link.taken b.link.received

  -- what the key is for
  abbrev purpose : Use
  purpose = Connected n b.link.number ticket.name (AtDaemon b.own.name.kind tie)

  abbrev front : List SealEntry
  front = before ++ (held ++ signature ticket.session received ∷ [])

  -- ---- it is new

  draws : (for : Option Name) (e : SealEntry) → DrawnAs for key e → DrawsKey key e
  draws for (entry.Drawn mark) d = d.0
  draws for (entry.Sealed mark) d = d
  draws for (entry.Signed mark) d = d
  draws for (entry.Opened mark) d = d
  draws for (entry.Checked mark) d = d

  pub unused : AreGranted run.leaked whole n line log before → (u : Use) → Means us key u → ⊥
  unused granted u means =
      let grant = (granted-rest run.leaked whole n line log opened (drew ∷ []) granted).0 in
      new-key key (behind n line opened log) drew grant.new refl
      (some-behind (λ (at : Logged). DrawsKey key at.entry) n line opened log
      (some-map (λ (at : Logged). DrawnAs (whose u) key at.entry) (λ (at : Logged). DrawsKey key at.entry) (λ at d. draws (whose u) at.entry d) log (i.held key u means)))

  none-given : AreGranted run.leaked whole n line log before → given_under key given ≡ []
  none-given granted = by_given (given_under key given) refl
    where
      by_given : (xs : List Given) → given_under key given ≡ xs → xs ≡ []
      by_given [] e = refl
      by_given (x ∷ xs) e =
          let k = h.known key x (given-has key given x xs e) in
          absurd (unused granted (Connected k.2.acceptor k.2.number k.0 (AtDaemon k.2.service k.1)) k.2.means)

  none-there : AreGranted run.leaked whole n line log before → contents_in key is_acceptors log ≡ []
  none-there granted = by_use (sealed-means us J key is_acceptors log i.allowed)
    where
      by_use : (contents_in key is_acceptors log ≡ []) ⊎ ((u : Use) × Means us key u) → contents_in key is_acceptors log ≡ []
      by_use (inl none) = none
      by_use (inr (u, means)) = absurd (unused granted u means)

  -- ---- what is logged before its first frame

  held-quiet : (other : List ℕ) → bytes_eq ticket.session other ≡ false → contents_by other is_acceptors held ≡ []
  held-quiet other differs =
      let content : List ℕ = authorize_reply_content nonce secret in
      ap (λ (here : Bool). cons_option (content_where (here && is_acceptors content) content) []) differs

  pub before-quiet : (other : List ℕ) → contents_by other is_acceptors before ≡ []
  before-quiet other = quiet-none other is_acceptors before (quiet-append opened (drew ∷ []) silent (tt, tt))

  front-quiet : (other : List ℕ) → bytes_eq ticket.session other ≡ false → contents_by other is_acceptors front ≡ []
  front-quiet other differs =
      by-append other is_acceptors before (held ++ signature ticket.session received ∷ []) (before-quiet other)
      (by-append other is_acceptors held (signature ticket.session received ∷ []) (held-quiet other differs) refl)

  -- ---- the link begins

  module _ (told : Told) (is : Means vs key purpose) (sealed : SealedFrame) (made : secure_frame (acceptor_keys secret) (given_frame (Signs (hmac ticket.session received))) ≡ Ok sealed)
      (granted : AreGranted run.leaked whole n line log before) where
    abbrev words : List Given
    words = Signs (hmac ticket.session received) ∷ []

    abbrev es : List SealEntry
    es = before ++ (held ++ (signature ticket.session received ∷ sealed.seals))

    abbrev next : List (List ℕ × Given)
    next = given ++ gives_under key words

    abbrev link : IsLinkKey vs key ticket.name tie
    link = record { acceptor = n; number = b.link.number; service = b.own.name.kind; means = is }

    es-are : es ≡ front ++ sealed.seals
    es-are =
        ap (λ (l : List SealEntry). before ++ l) (sym (append_assoc held (signature ticket.session received ∷ []) sealed.seals)) ∙ sym (append_assoc before (held ++ signature ticket.session received ∷ []) sealed.seals)

    made-so : (sealed.keys.key ≡ key) × (sealed.keys.into ≡ (acceptor_keys secret).into) × (sealed.keys.out.fixed ≡ (acceptor_keys secret).out.fixed) × (total (given_frame (Signs (hmac ticket.session received))) ≤ 1048576)
    made-so =
        let so = frame-sealed (acceptor_keys secret) (given_frame (Signs (hmac ticket.session received))) sealed made in
        (ap (λ (x : SealedFrame). x.keys.key) so.0, ap (λ (x : SealedFrame). x.keys.into) so.0, ap (λ (x : SealedFrame). x.keys.out.fixed) so.0, so.2)

    first-parts : HasParts is_acceptors (acceptor_keys secret) [] (behind n line front log)
    first-parts = record {
      sealed = contents-behind key is_acceptors n line front log ∙ ap (λ (l : List (List ℕ)). contents_in key is_acceptors log ++ l) (front-quiet key (apart key ticket.name tie link))
          ∙ append-nil (contents_in key is_acceptors log) ∙ none-there granted ∙ sym (none-sealed (acceptor_keys secret).out.fixed);
      counter = acceptor-counts b.draw drawn;
    }

    parts-now : HasParts is_acceptors sealed.keys (plains (given_frame (Signs (hmac ticket.session received)))) (behind n line es log)
    parts-now =
        subst (λ (l : List Logged). HasParts is_acceptors sealed.keys (plains (given_frame (Signs (hmac ticket.session received)))) l)
        (sym (ap (λ (x : List SealEntry). behind n line x log) es-are ∙ behind-append n line front sealed.seals log))
        (frame-parts is_acceptors n line (behind n line front log) (acceptor_keys secret) (passes-acceptor (acceptor_keys secret).out.fixed (acceptor-sends b.draw drawn))
        (given_frame (Signs (hmac ticket.session received))) sealed [] made first-parts)

    given-none : given_under key given ≡ []
    given-none = none-given granted

    parts-are : given_parts (given_under key given) ++ given_parts words ≡ plains (given_frame (Signs (hmac ticket.session received)))
    parts-are = ap (λ (l : List Given). given_parts l ++ given_parts words) given-none ∙ append-nil (plains (given_frame (Signs (hmac ticket.session received))))

    fits-now : sealed.keys.out.counter ≤ 2 ^ 64
    fits-now =
        let so = frame-sealed (acceptor_keys secret) (given_frame (Signs (hmac ticket.session received))) sealed made in
        let low = so.1 in
        let counter : sealed.keys.out.counter ≡ (acceptor_keys secret).out.counter + length (plains (given_frame (Signs (hmac ticket.session received)))) =
        ap (λ (x : SealedFrame). x.keys.out.counter) so.0 in
        omega (arith, low, counter)

    pub others-quiet : (other : List ℕ) (name : Name) (tie : ℕ) → IsLinkKey vs other name tie → bytes_eq key other ≡ false → contents_by other is_acceptors es ≡ []
    others-quiet other name tie there differs =
        let so = frame-sealed (acceptor_keys secret) (given_frame (Signs (hmac ticket.session received))) sealed made in
        ap (λ (x : List SealEntry). contents_by other is_acceptors x) es-are
        ∙ by-append other is_acceptors front sealed.seals (front-quiet other (apart other name tie there))
        (ap (λ (x : SealedFrame). contents_by other is_acceptors x.seals) so.0
        ∙ parts-others other is_acceptors key (acceptor_keys secret).out.fixed (inl differs) (acceptor_keys secret).out.counter (plains (given_frame (Signs (hmac ticket.session received)))))

    gives-first : Gives run vs given (behind n line es log) K es ticket.name b.own.name.kind key words
    gives-first = record {
      keys = sealed.keys;
      key_is = made-so.0;
      four = ap (λ (l : List ℕ). length l) made-so.2;
      acceptor = subst (λ (l : List ℕ). (m : ℕ) (plain : List ℕ) → is_acceptors (nonce_at l m ++ plain) ≡ true) (sym made-so.2)
          (passes-acceptor (acceptor_keys secret).out.fixed (acceptor-sends b.draw drawn));
      parts = subst (λ (l : List (List ℕ)). HasParts is_acceptors sealed.keys l (behind n line es log)) (sym parts-are) parts-now;
      fits = fits-now;
      others = others-quiet;
      true_words = λ free. (tt, tt);
      frames = (made-so.3, tt);
    }

    -- AUTH_SIGNATURE is given under it
    pub begins-known : AreGiven run vs next (behind n line es log) K
    begins-known = given-gives run whole us vs given log J K n line es one f w i h key ticket.name tie link words gives-first

    pub given-next : given_under key next ≡ words
    given-next = given-own key given words ∙ ap (λ (l : List Given). l ++ words) given-none

    -- and the link has given it, and taken nothing
    pub begins-giver : (s : Secured) → s.keys ≡ sealed.keys → IsGiver vs next (behind n line es log) n b.own.name b.link.number s ticket.name × HasReplied told next s
    begins-giver s same =
        let key_is : s.keys.key ≡ key = ap (λ (x : Keys). x.key) same ∙ made-so.0 in
        let into : s.keys.into ≡ (acceptor_keys secret).into = ap (λ (x : Keys). x.into) same ∙ made-so.1 in
        let fixed : s.keys.out.fixed ≡ (acceptor_keys secret).out.fixed = ap (λ (x : Keys). x.out.fixed) same ∙ made-so.2 in
        let low = fits-now in
        let counter : s.keys.out.counter ≡ sealed.keys.out.counter = ap (λ (x : Keys). x.out.counter) same in
        let parts_next : given_parts (given_under key next) ≡ plains (given_frame (Signs (hmac ticket.session received))) =
        ap (λ (l : List Given). given_parts l) given-next ∙ append-nil (plains (given_frame (Signs (hmac ticket.session received)))) in (
          record {
            tie = tie;
            means = subst (λ (k : List ℕ). Means vs k purpose) (sym key_is) is;
            parts = subst (λ (x : Keys). HasParts is_acceptors x (given_parts (given_under x.key next)) (behind n line es log)) (sym same)
                (subst (λ (k : List ℕ). HasParts is_acceptors sealed.keys (given_parts (given_under k next)) (behind n line es log)) (sym made-so.0)
                (subst (λ (l : List (List ℕ)). HasParts is_acceptors sealed.keys l (behind n line es log)) (sym parts_next) parts-now));
            out = subst IsOfAcceptor (sym fixed) (acceptor-sends b.draw drawn);
            out_four = ap (λ (l : List ℕ). length l) fixed;
            into = subst IsOfConnector (sym (ap (λ (x : Way). x.fixed) into)) (connector-sends b.draw drawn);
            into_four = ap (λ (x : Way). length x.fixed) into;
            fits = omega (arith, low, counter);
          },
          record {
            taken = [];
            so = record { rest = said_under s.keys.key told.said; front = refl; counter = ap (λ (x : Way). x.counter) into ∙ connector-counts b.draw drawn };
            step = ap (λ (l : List ℕ). replied (given_under l next)) key_is ∙ ap (λ (l : List Given). replied l) given-next;
          },
        )

-- ---- a client's link gets its key

-- by a reply of a daemon: nothing was heard yet, and all that was asked for it waits for
pub first-heard : (run : WholeRun) (us : Uses) (after : Told) (given : List (List ℕ × Given)) (name : Name) (x : AuthorizeReply) (t : Secured) (pending : List ℕ) → HasReply us name x
    → t.keys.into ≡ (connector_keys x.secret).into → asked (said_under t.keys.key after.said) ≡ pending → Hears run after given name t pending
first-heard run us after given name x t pending reply way asks =
    let fixed : t.keys.into.fixed ≡ (connector_keys x.secret).into.fixed = ap (λ (y : Way). y.fixed) way in (
      subst IsOfAcceptor (sym fixed) reply.into,
      ap (λ (l : List ℕ). length l) fixed,
      λ free. record {
        taken = [];
        heard = record { rest = given_under t.keys.key given; front = refl; counter = ap (λ (y : Way). y.counter) way ∙ reply.counts_into };
        step = asks;
      },
    )
