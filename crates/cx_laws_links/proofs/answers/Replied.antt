-- What a daemon's link to a client has of what it gave and took: all that its key's acceptor sealed it gave; and of a client that didn't leak, the sessions that it
-- replied to are those that were asked for in what it took. So under each key they are a front of those that were asked for.
use Rattle.std.proofs.Common.{◌≡◌, ℕ, ◌+◌, ◌≤◌, ◌^◌, List, [], ◌∷◌, ◌++◌, length, Some, None, Ok, sym, ap, ◌∙◌, subst, arith, append_assoc, length-append}
use Rattle.std.proofs.lemmas.List.Elements.{Contains-append_left, Contains-append_right, Contains-push}
use Rattle.std.specs.Prelude.{Contains}
use Rattle.cx_base.specs.Names.{Name}
use Rattle.cx_base.specs.declared.nodes.NodeName.{NodeName}
use Rattle.cx_frame.specs.declared.frame.Frame.{Frame}
use Rattle.cx_journal.specs.declared.entries.Entry.{Entry}
use Rattle.cx_laws_links.specs.cx_laws_keys.proofs.keys.Known.{Inv, IsOfAcceptor, IsOfConnector}
use Rattle.cx_laws_links.specs.cx_laws_keys.proofs.keys.Premises.{AreGranted}
use Rattle.cx_laws_links.specs.cx_laws_keys.proofs.keys.Uses.{AtDaemon, Connected, Means, Uses, WholeRun}
use Rattle.cx_laws_links.specs.cx_laws_keys.proofs.series.Frames.{HasParts}
use Rattle.cx_laws_links.specs.cx_rules.specs.Acceptor as acceptor
use Rattle.cx_laws_links.specs.cx_rules.specs.Fronts.{keys_behind, opened_parts, sealed_ahead}
use Rattle.cx_laws_links.specs.cx_rules.specs.Links.{Link}
use Rattle.cx_laws_links.specs.cx_rules.specs.Secured.{Secured, under}
use Rattle.cx_laws_links.specs.cx_rules_session.specs.IncomingLinks.{IncomingStage}
use Rattle.cx_secure.specs.Plains.{plains}
use Rattle.cx_steps.specs.declared.seals.Logged.{Logged}
use Rattle.cx_laws_links.specs.cx_stream.specs.Openings.{front_contents}
use Rattle.cx_laws_links.specs.cx_stream.specs.SecureStreams.{secure_frame_at}
use Rattle.cx_laws_links.proofs.links.CallSteps.{passes-connector}
use Rattle.cx_laws_links.proofs.links.IncomingWords.{frames-behind, none-excepted, said-there, said-within, written-there}
use Rattle.cx_laws_links.proofs.links.Known.{AreTold, Told}
use Rattle.cx_laws_links.proofs.links.Spoken.{Spoken, asked, frame_of, parts-append, parts_of, said_under}
use Rattle.cx_laws_links.proofs.links.Taking.{AreFrames, Next, next-taken, opened-sealed}
use Rattle.cx_laws_links.proofs.links.Written.{IsLinkKey}
use Rattle.cx_laws_links.proofs.answers.Given.{Given, given_parts, given_under, is_acceptors, replied, served_behind}

-- ---- what a link gave

-- the link's key is that of this very link, to this entity; and all that was sealed there as by an acceptor this link gave
pub record IsGiver (us : Uses) (given : List (List ℕ × Given)) (log : List Logged) (n : NodeName) (daemon : Name) (number : ℕ) (s : Secured) (name : Name) : Type 0 where
  pub tie : ℕ
  pub means : Means us s.keys.key (Connected n number name (AtDaemon daemon.kind tie))
  pub parts : HasParts is_acceptors s.keys (given_parts (given_under s.keys.key given)) log
  pub out : IsOfAcceptor s.keys.out.fixed
  pub out_four : length s.keys.out.fixed ≡ 4
  pub into : IsOfConnector s.keys.into.fixed
  pub into_four : length s.keys.into.fixed ≡ 4
  pub fits : s.keys.out.counter ≤ 2 ^ 64

-- ---- what it took

-- these were taken on a link: they are the front of what was spoken under its key, and the counter says how far they reach
pub record HasTakenSo (told : Told) (s : Secured) (taken : List Spoken) : Type 0 where
  pub rest : List Spoken
  pub front : said_under s.keys.key told.said ≡ taken ++ rest
  pub counter : s.keys.into.counter ≡ length (parts_of taken)

-- the sessions that were replied to are those that were asked for in what was taken
pub record HasReplied (told : Told) (given : List (List ℕ × Given)) (s : Secured) : Type 0 where
  pub taken : List Spoken
  pub so : HasTakenSo told s taken
  pub step : replied (given_under s.keys.key given) ≡ asked taken

abbrev pub IncomingGiven : WholeRun → Uses → Told → List (List ℕ × Given) → List Logged → NodeName → Name → ℕ → IncomingStage → Type 0
IncomingGiven run us told given log n daemon number (acceptor.AwaitsSignature s owner) =
    IsGiver us given log n daemon number s owner.ticket.name × ((Contains run.leaked owner.ticket.name → ⊥) → HasReplied told given s)
IncomingGiven run us told given log n daemon number (acceptor.AwaitsIdent s owner) =
    IsGiver us given log n daemon number s owner.ticket.name × ((Contains run.leaked owner.ticket.name → ⊥) → HasReplied told given s)
IncomingGiven run us told given log n daemon number (acceptor.Open s served) =
    (name : Name) × IsGiver us given log n daemon number s name × (served_behind None (given_under s.keys.key given) ≡ Some served.cookie)
    × ((Contains run.leaked name → ⊥) → HasReplied told given s)
IncomingGiven run us told given log n daemon number _ = Unit {0}

-- under the key of a link to an entity that didn't leak, what was replied to is a front of what was asked for
abbrev pub IsInStep : Told → List (List ℕ × Given) → List ℕ → Type 0
IsInStep told given key = (more : List ℕ) × (asked (said_under key told.said) ≡ replied (given_under key given) ++ more)

abbrev pub AreInStep : WholeRun → Uses → Told → List (List ℕ × Given) → Type 0
AreInStep run us told given = (key : List ℕ) (name : Name) (tie : ℕ) → IsLinkKey us key name tie → (Contains run.leaked name → ⊥) → IsInStep told given key

-- ---- the next word

-- what was read on a link is a frame of this word, the next that was spoken under its key; and the link has taken it
pub record TakesNext (told : Told) (s : Secured) (taken : List Spoken) (f : Frame) : Type 0 where
  pub word : Spoken
  pub frame : f ≡ frame_of word
  pub said : Contains told.said (s.keys.key, word)
  pub so : HasTakenSo told (under s (keys_behind s.keys f)) (taken ++ word ∷ [])

module _ (run : WholeRun) (whole : List Logged) (us : Uses) (told : Told) (log : List Logged) (J : List Entry) (n : NodeName) (line : ℕ) (i : Inv run whole us log J) (t : AreTold run us told log J)
    (given : List (List ℕ × Given)) (daemon : Name) (number : ℕ) (s : Secured) (name : Name) (k : IsGiver us given log n daemon number s name) (free : Contains run.leaked name → ⊥) where
  takes-more : (f : Frame) (taken : List Spoken) (h : HasTakenSo told s taken) → Next f h.rest → TakesNext told s taken f
  takes-more f taken h next =
      let split : said_under s.keys.key told.said ≡ taken ++ (next.word ∷ next.later) = h.front ∙ ap (λ (l : List Spoken). taken ++ l) next.is in
      let has : Contains told.said (s.keys.key, next.word) =
      said-within s.keys.key told.said next.word (subst (λ (l : List Spoken). Contains l next.word) (sym split)
      (Contains-append_right taken (next.word ∷ next.later) next.word (Contains-append_left (next.word ∷ []) next.later next.word (Contains-push [] next.word)))) in
      let parts : parts_of (taken ++ next.word ∷ []) ≡ parts_of taken ++ parts_of (next.word ∷ []) = parts-append taken (next.word ∷ []) in
      let size : length (parts_of (next.word ∷ [])) ≡ length (plains (frame_of next.word)) = omega (arith, length-append (plains (frame_of next.word)) []) in
      let plain_size : length (plains f) ≡ length (plains (frame_of next.word)) = ap (λ (x : Frame). length (plains x)) next.frame in
      let before_it = h.counter in
      let whole_size : length (parts_of (taken ++ next.word ∷ [])) ≡ length (parts_of taken) + length (parts_of (next.word ∷ [])) =
      ap (λ (l : List (List ℕ)). length l) parts ∙ length-append (parts_of taken) (parts_of (next.word ∷ [])) in
      record {
        word = next.word;
        frame = next.frame;
        said = has;
        so = record {
          rest = next.later;
          front = split ∙ sym (append_assoc taken (next.word ∷ []) next.later);
          counter = omega (arith, before_it, size, plain_size, whole_size);
        };
      }

  -- the next word is taken
  pub takes-next : (link : Link IncomingStage) (f : Frame) (m : ℕ) (taken : List Spoken) → HasTakenSo told s taken → AreGranted run.leaked whole n line log (opened_parts (sealed_ahead s.keys link))
      → secure_frame_at (sealed_ahead s.keys link) ≡ Ok (Some (f, m)) → TakesNext told s taken f
  takes-next link f m taken h granted read =
      let is : IsLinkKey us s.keys.key name k.tie = record { acceptor = n; number = number; service = daemon.kind; means = k.means } in
      let passes = passes-connector s.keys.into.fixed k.into in
      let written = written-there run us told log J i.one t s.keys.key name k.tie is s.keys.into.fixed k.into_four passes in
      let there = said-there run us told log J i.one t s.keys.key name k.tie is in
      let fit : AreFrames h.rest = frames-behind taken h.rest (subst AreFrames h.front there.1) in
      let sealed = opened-sealed run.leaked whole n line s.keys.key (none-excepted run whole us log J n n s.keys.key number name (AtDaemon daemon.kind k.tie) i k.means free)
      (front_contents (sealed_ahead s.keys link)) log log (λ mark was. was) granted in
      takes-more f taken h (next-taken log told.said s.keys.key written (sealed_ahead s.keys link) k.into_four passes taken h.rest h.front h.counter sealed f m fit read)
