-- A turn of an incoming link behind authentication, by its stage: what its row gives is true, the link has replied to what it took, and what is replied to stays a
-- front of what is asked for.
use Rattle.std.proofs.Common.{◌≡◌, ℕ, zero, suc, false, List, [], ◌∷◌, ◌++◌, Option, Some, None, Ok, inl, inr, ◌⊎◌, refl, sym, ap, ◌∙◌, subst, arith, append-nil}
use Rattle.std.proofs.lemmas.List.Elements.{Contains-push}
use Rattle.std.specs.Prelude.{Contains}
use Rattle.std.specs.Str.{bytes_eq}
use Rattle.cx_laws_links.specs.cx_authorize.specs.Daemon.{Authority}
use Rattle.cx_base.specs.Names.{Name}
use Rattle.cx_base.specs.declared.nodes.NodeName.{NodeName}
use Rattle.cx_frame.specs.declared.frame.Frame.{Frame}
use Rattle.cx_journal.specs.declared.entries.Entry.{Entry}
use Rattle.cx_journal.specs.declared.entries.Entry.TheVariants as journal
use Rattle.cx_journal.specs.declared.entries.Handled.{Handled}
use Rattle.cx_journal.specs.declared.outcomes.Outcome.{Outcome}
use Rattle.cx_laws_links.specs.cx_laws_keys.proofs.keys.Journal.{entered}
use Rattle.cx_laws_links.specs.cx_laws_keys.proofs.keys.Known.{Inv}
use Rattle.cx_laws_links.specs.cx_laws_keys.proofs.keys.Premises.{AreGranted, behind, granted-first}
use Rattle.cx_laws_links.specs.cx_laws_keys.proofs.keys.Uses.{Uses, WholeRun}
use Rattle.cx_laws_links.specs.cx_laws_keys.proofs.series.Contents.{contents_by}
use Rattle.cx_laws_links.specs.cx_laws_keys.proofs.series.Series.{IsAt}
use Rattle.cx_laws_links.specs.cx_rules.specs.Acceptor as acceptor
use Rattle.cx_laws_links.specs.cx_rules.specs.Fronts.{keys_behind, opened_parts, sealed_ahead}
use Rattle.cx_laws_links.specs.cx_rules.specs.Links.{Link}
use Rattle.cx_laws_links.specs.cx_rules.specs.Messages.{message_in}
use Rattle.cx_laws_links.specs.cx_rules.specs.Secured.{Secured, under}
use Rattle.cx_laws_links.specs.cx_rules_session.specs.IncomingLinks.{IncomingRow, IncomingStage, Served}
use Rattle.cx_laws_links.specs.cx_rules_session.specs.Hosting.{Instruction, instruction_of}
use Rattle.cx_steps.specs.declared.seals.Logged.{Logged}
use Rattle.cx_steps.specs.declared.seals.SealEntry.{SealEntry}
use Rattle.cx_laws_links.proofs.links.IncomingSteps.{entered-has}
use Rattle.cx_laws_links.proofs.links.IncomingTakes.{IsServedIn, OpenedFor, StandsIn}
use Rattle.cx_laws_links.proofs.links.IncomingWords.{AreSpelled}
use Rattle.cx_laws_links.proofs.links.Hearing.{IsSpelled, hears-order}
use Rattle.cx_laws_links.proofs.links.Known.{AreTold, Told}
use Rattle.cx_laws_links.proofs.links.Since.{since}
use Rattle.cx_laws_links.proofs.links.Spoken.{Orders, Spoken, asked, asked_by, frame_of, said_under}
use Rattle.cx_laws_links.proofs.answers.Given.{Acks, Answers, Given, KeepsUp, Misses, Replies, given_under, gives_under, is_acceptors, replied, replied-append, served-append, served_behind}
use Rattle.cx_laws_links.proofs.answers.IncomingGives.{AreUpkeep, IdentGives, IdentMisses, IdentReplies, IdentShut, IsServedAs, IsUpkeepWord, KeyedIncoming, OpenAnswers, OpenGives, OpenShut, OpenUpkeep, RowGives, Serves, SignedGives, SignedOn, SignedShut, StillServes, WaitsFor, WaitsOn, handled_by}
use Rattle.cx_laws_links.proofs.answers.IncomingSteps.{asks-for, asks-none, given-is, in-step, replied-more, row-given, row-giver, row-others, row-into, row-key}
use Rattle.cx_laws_links.proofs.answers.IncomingTurn.{TurnGives}
use Rattle.cx_laws_links.proofs.answers.Known.{AreGiven, AreTrueGiven, IsTrueAnswer, WasServed}
use Rattle.cx_laws_links.proofs.answers.Replied.{IncomingGiven, HasReplied, IsGiver, IsInStep, TakesNext, takes-next}

-- at most the first of these words is an answer, and it tells of an operation that is handled by the only one of these entries, in a session of this entity
abbrev pub TellsOf : Type 0 → List Entry → Name → List Entry → List Given → Type 0
TellsOf Free J name es words = (p cookie : ℕ) (instruction : Instruction) (outcome : Outcome) → IsAt words p (Answers cookie instruction outcome)
    → (p ≡ 0) × (Free → (x : Handled) × (es ≡ journal.Handled x ∷ []) × IsServedIn J name x × (x.cookie ≡ cookie) × (x.seq ≡ instruction.tid))

-- what is no answer tells of none
tells-none : (Free : Type 0) (J : List Entry) (name : Name) (es : List Entry) (x : Given) → ((cookie : ℕ) (instruction : Instruction) (outcome : Outcome) → x ≡ Answers cookie instruction outcome → ⊥)
    → TellsOf Free J name es (x ∷ [])
tells-none Free J name es x none zero cookie instruction outcome at = absurd (none cookie instruction outcome at)
tells-none Free J name es x none (suc p) cookie instruction outcome at = absurd at

-- a link that goes on is of this entity; where it is open, it serves the session that was replied to last
abbrev pub StageFor : Name → Option ℕ → IncomingStage → Type 0
StageFor name before (acceptor.AwaitsIdent s owner) = owner.ticket.name ≡ name
StageFor name before (acceptor.Open s served) = before ≡ Some served.cookie
StageFor name before _ = Unit {0}

module _ (run : WholeRun) (whole : List Logged) (us : Uses) (told : Told) (given : List (List ℕ × Given)) (log : List Logged) (J : List Entry) (n : NodeName) (line : ℕ)
    (i : Inv run whole us log J) (t : AreTold run us told log J) (spelled : AreSpelled told) (h : AreGiven run us given log J) (daemon : Name) where
  -- what is known behind a row: all that was given, with what it gives under this key; the link, where it goes on; and what is replied to stays a front
  pub record IncomingStep (number : ℕ) (key : List ℕ) (name : Name) (row : IncomingRow) : Type 0 where
    pub words : List Given
    pub known : AreGiven run us (given ++ gives_under key words) (behind n line row.seals log) (entered J row.entries)
    pub link : (link : Link IncomingStage) → row.link ≡ Some link
        → (link.number ≡ number) × IncomingGiven run us told (given ++ gives_under key words) (behind n line row.seals log) n daemon number link.stage
    pub step : (Contains run.leaked name → ⊥) → IsInStep told given key → IsInStep told (given ++ gives_under key words) key
    pub answers : TellsOf (Contains run.leaked name → ⊥) J name row.entries words
    pub others : (other : List ℕ) → bytes_eq key other ≡ false → contents_by other is_acceptors row.seals ≡ []

  -- ---- from what is said of the words

  module _ (number : ℕ) (s : Secured) (name : Name) (k : IsGiver us given log n daemon number s name) (taken : (Contains run.leaked name → ⊥) → HasReplied told given s) (frame : Frame) (row : IncomingRow)
      (next : (free : Contains run.leaked name → ⊥) → TakesNext told s (taken free).taken frame) where
    abbrev Free : Type 0
    Free = Contains run.leaked name → ⊥

    abbrev replied_last : Option ℕ
    replied_last = served_behind None (given_under s.keys.key given)

    -- its words are true; where the link goes on, they reply to what the word that was taken asks for; else they reply to nothing
    pub record SaidSo (words : List Given) (link : Option (Link IncomingStage)) : Type 0 where
      pub true_words : Free → AreTrueGiven (entered J row.entries) daemon.kind name replied_last words
      pub replies : (free : Free) → (found : Link IncomingStage) → link ≡ Some found → replied words ≡ asked_by (next free).word
      pub stage : (found : Link IncomingStage) → link ≡ Some found → StageFor name (served_behind replied_last words) found.stage
      pub shut : link ≡ None → replied words ≡ []
      pub answers : TellsOf Free J name row.entries words

    module _ (P : List Given → List Entry → Option (Link IncomingStage) → Type 0) (r : RowGives P number (under s (keys_behind s.keys frame)) row) (so : SaidSo r.words row.link) where
      abbrev now : List (List ℕ × Given)
      now = given ++ gives_under s.keys.key r.words

      abbrev later : List Logged
      later = behind n line row.seals log

      given-now : given_under s.keys.key now ≡ given_under s.keys.key given ++ r.words
      given-now = given-is run whole us given log J n line i h daemon number s name k frame P row r

      replied-now : (link : Link IncomingStage) → row.link ≡ Some link → (u : Secured) → u.keys ≡ r.sealed.keys → (free : Free) → HasReplied told now u
      replied-now link is u same free =
          replied-more told given now s u frame r.words (taken free) (next free) (row-key run whole us given log J n line i h daemon number s name k frame P row r u same)
          (row-into run whole us given log J n line i h daemon number s name k frame P row r u same) given-now (so.replies free link is)

      served-now : (u : Secured) → u.keys ≡ r.sealed.keys → served_behind None (given_under u.keys.key now) ≡ served_behind replied_last r.words
      served-now u same =
          ap (λ (l : List ℕ). served_behind None (given_under l now)) (row-key run whole us given log J n line i h daemon number s name k frame P row r u same)
          ∙ ap (λ (l : List Given). served_behind None l) given-now ∙ served-append None (given_under s.keys.key given) r.words

      stage-now : (stage : IncomingStage) (u : Secured) → KeyedIncoming stage u → u.keys ≡ r.sealed.keys → ((free : Free) → HasReplied told now u) → StageFor name (served_behind replied_last r.words) stage
          → IncomingGiven run us told now later n daemon number stage
      stage-now _ _ (WaitsOn u owner) same replied_so for =
          subst (λ (m : Name). IsGiver us now later n daemon number u m × ((Contains run.leaked m → ⊥) → HasReplied told now u)) (sym for)
          (row-giver run whole us given log J n line i h daemon number s name k frame P row r u same, replied_so)
      stage-now _ _ (Serves u served) same replied_so for =
          (name, row-giver run whole us given log J n line i h daemon number s name k frame P row r u same, served-now u same ∙ for, replied_so)

      still : replied r.words ≡ [] → IsInStep told given s.keys.key → IsInStep told now s.keys.key
      still none step = (
        step.0,
        step.1 ∙ ap (λ (l : List ℕ). l ++ step.0)
            (sym (ap (λ (l : List Given). replied l) given-now ∙ replied-append (given_under s.keys.key given) r.words ∙ ap (λ (l : List ℕ). replied (given_under s.keys.key given) ++ l) none
            ∙ append-nil (replied (given_under s.keys.key given)))),
      )

      step-now : Free → IsInStep told given s.keys.key → (link : Option (Link IncomingStage)) → row.link ≡ link → IsInStep told now s.keys.key
      step-now free step None is = still (so.shut is) step
      step-now free step (Some link) is =
          let l = r.link link is in
          subst (λ (key : List ℕ). IsInStep told now key) (row-key run whole us given log J n line i h daemon number s name k frame P row r l.0 l.2)
          (in-step told now l.0 (replied-now link is l.0 l.2 free))

      pub step-of : IncomingStep number s.keys.key name row
      step-of = record {
        words = r.words;
        known = row-given run whole us given log J n line i h daemon number s name k frame P row r so.true_words;
        link = λ link is. let l = r.link link is in (l.3, stage-now link.stage l.0 l.1 l.2 (replied-now link is l.0 l.2) (so.stage link is));
        step = λ free step. step-now free step row.link refl;
        answers = so.answers;
        others = row-others run whole us given log J n line i h daemon number s name k frame P row r;
      }

  -- ---- by the stage

  some-link : (x y : Link IncomingStage) → (let o : Option (Link IncomingStage) = Some x in let p : Option (Link IncomingStage) = Some y in o ≡ p) → x ≡ y
  some-link x y e = cc

  none-links : (x : Link IncomingStage) → (let o : Option (Link IncomingStage) = None in o ≡ Some x) → ⊥
  none-links x e = cc

  some-none : (x : Link IncomingStage) → (let o : Option (Link IncomingStage) = Some x in o ≡ None) → ⊥
  some-none x e = cc

  module _ (link : Link IncomingStage) (s : Secured) (name : Name) (k : IsGiver us given log n daemon link.number s name) (taken : (Contains run.leaked name → ⊥) → HasReplied told given s)
      (row : IncomingRow) (g : AreGranted run.leaked whole n line log row.seals) where
    next-word : (P : Frame → List Given → List Entry → Option (Link IncomingStage) → Type 0) (turn : TurnGives P link s row) (free : Contains run.leaked name → ⊥) → TakesNext told s (taken free).taken turn.frame
    next-word P turn free =
        takes-next run whole us told log J n line i t given daemon link.number s name k free link turn.frame turn.size (taken free).taken (taken free).so
        (granted-first run.leaked whole n line log (opened_parts (sealed_ahead s.keys link)) turn.rest (subst (λ (es : List SealEntry). AreGranted run.leaked whole n line log es) turn.opened g)) turn.read

    abbrev Says : (frame : Frame) → ((free : Contains run.leaked name → ⊥) → TakesNext told s (taken free).taken frame) → List Given → Option (Link IncomingStage) → Type 0
    Says frame next words found = SaidSo link.number s name k taken frame row next words found

    shut-says : (frame : Frame) (next : (free : Contains run.leaked name → ⊥) → TakesNext told s (taken free).taken frame) → Says frame next [] None
    shut-says frame next = record {
      true_words = λ free. tt;
      replies = λ free found is. absurd (none-links found is);
      stage = λ found is. absurd (none-links found is);
      shut = λ is. refl;
      answers = λ p cookie instruction outcome at. absurd at;
    }

    -- the signature

    module _ (owner : Authority) (own : owner.ticket.name ≡ name) where
      waits-for : (before : Option ℕ) (stage : IncomingStage) → WaitsFor owner stage → StageFor name before stage
      waits-for before (acceptor.AwaitsIdent u other) waits = ap (λ (o : Authority). o.ticket.name) waits ∙ own
      waits-for before (acceptor.Open u served) waits = absurd waits
      waits-for before acceptor.AwaitsBanner waits = absurd waits
      waits-for before acceptor.AwaitsHello waits = absurd waits
      waits-for before acceptor.AwaitsRequest waits = absurd waits
      waits-for before (acceptor.AwaitsProof awaited) waits = absurd waits
      waits-for before (acceptor.AwaitsSignature u other) waits = absurd waits

      signature-says : (frame : Frame) (next : (free : Contains run.leaked name → ⊥) → TakesNext told s (taken free).taken frame) (words : List Given) (es : List Entry) (found : Option (Link IncomingStage))
          → SignedGives owner frame words es found → Says frame next words found
      signature-says frame next _ _ _ (SignedShut es) = shut-says frame next
      signature-says frame next _ _ _ (SignedOn there tag waits) = record {
        true_words = λ free. tt;
        replies = λ free found is. let w = next free in sym (asks-none w.word frame w.frame (λ e. omega (arith, e, tag)) (λ e. omega (arith, e, tag)));
        stage = λ found is. subst (λ (l : Link IncomingStage). StageFor name (served_behind None (given_under s.keys.key given)) l.stage) (some-link there found is)
            (waits-for (served_behind None (given_under s.keys.key given)) there.stage waits);
        shut = λ is. absurd (some-none there is);
        answers = λ p cookie instruction outcome at. absurd at;
      }

      pub signature-step : TurnGives (SignedGives owner) link s row → IncomingStep link.number s.keys.key name row
      signature-step turn =
          let next : (free : Contains run.leaked name → ⊥) → TakesNext told s (taken free).taken turn.frame = λ free. next-word (SignedGives owner) turn free in
          step-of link.number s name k taken turn.frame row next (SignedGives owner turn.frame) turn.gives (signature-says turn.frame next turn.gives.words row.entries row.link turn.gives.so)

      -- ---- an ident

      serves-as : (cookie : ℕ) (stage : IncomingStage) → IsServedAs owner cookie stage → StageFor name (Some cookie) stage
      serves-as cookie (acceptor.AwaitsIdent u other) is = ap (λ (o : Authority). o.ticket.name) is ∙ own
      serves-as cookie (acceptor.Open u served) is = ap (λ (c : ℕ). Some c) (sym is)
      serves-as cookie acceptor.AwaitsBanner is = tt
      serves-as cookie acceptor.AwaitsHello is = tt
      serves-as cookie acceptor.AwaitsRequest is = tt
      serves-as cookie (acceptor.AwaitsProof awaited) is = tt
      serves-as cookie (acceptor.AwaitsSignature u other) is = tt

      ident-says : (frame : Frame) (next : (free : Contains run.leaked name → ⊥) → TakesNext told s (taken free).taken frame) (words : List Given) (es : List Entry) (found : Option (Link IncomingStage))
          → IdentGives owner frame words es found → Says frame next words found
      ident-says frame next _ _ _ (IdentShut es) = shut-says frame next
      ident-says frame next _ _ _ (IdentMisses features es) = record {
        true_words = λ free. (tt, tt);
        replies = λ free found is. absurd (none-links found is);
        stage = λ found is. absurd (none-links found is);
        shut = λ is. refl;
        answers = tells-none (Contains run.leaked name → ⊥) J name row.entries (Misses features) (λ cookie instruction outcome e. cc);
      }
      ident-says frame next _ _ _ (IdentReplies cookie reply es there asks serves) = record {
        true_words = λ free. (tt, tt);
        replies = λ free found is. let w = next free in sym (asks-for w.word frame cookie w.frame (spelled s.keys.key w.word w.said) asks);
        stage = λ found is. subst (λ (l : Link IncomingStage). StageFor name (Some cookie) l.stage) (some-link there found is) (serves-as cookie there.stage serves);
        shut = λ is. absurd (some-none there is);
        answers = tells-none (Contains run.leaked name → ⊥) J name row.entries (Replies cookie reply) (λ other instruction outcome e. cc);
      }

      pub ident-step : TurnGives (IdentGives owner) link s row → IncomingStep link.number s.keys.key name row
      ident-step turn =
          let next : (free : Contains run.leaked name → ⊥) → TakesNext told s (taken free).taken turn.frame = λ free. next-word (IdentGives owner) turn free in
          step-of link.number s name k taken turn.frame row next (IdentGives owner turn.frame) turn.gives (ident-says turn.frame next turn.gives.words row.entries row.link turn.gives.so)

    -- ---- an open link

    module _ (served : Served) (serves : OpenedFor J [] daemon name served) (here : served_behind None (given_under s.keys.key given) ≡ Some served.cookie) where
      abbrev last : Option ℕ
      last = served_behind None (given_under s.keys.key given)

      still-serves : (stage : IncomingStage) → StillServes served stage → StageFor name last stage
      still-serves (acceptor.Open u other) is = here ∙ ap (λ (o : Served). Some o.cookie) (sym is)
      still-serves (acceptor.AwaitsIdent u owner) is = absurd is
      still-serves acceptor.AwaitsBanner is = absurd is
      still-serves acceptor.AwaitsHello is = absurd is
      still-serves acceptor.AwaitsRequest is = absurd is
      still-serves (acceptor.AwaitsProof awaited) is = absurd is
      still-serves (acceptor.AwaitsSignature u owner) is = absurd is

      upkeep-after : (words : List Given) → AreUpkeep words → (before : Option ℕ)
          → AreTrueGiven (entered J row.entries) daemon.kind name before words × (served_behind before words ≡ before) × (replied words ≡ [])
      upkeep-after [] keeps before = (tt, refl, refl)
      upkeep-after (Acks seq ∷ words) keeps before = let rest = upkeep-after words keeps.1 before in ((tt, rest.0), rest.1, rest.2)
      upkeep-after (KeepsUp ack ∷ words) keeps before = let rest = upkeep-after words keeps.1 before in ((tt, rest.0), rest.1, rest.2)
      upkeep-after (x ∷ words) keeps before = absurd keeps.0

      upkeep-tells : (es : List Entry) (words : List Given) → AreUpkeep words → TellsOf (Contains run.leaked name → ⊥) J name es words
      upkeep-tells es [] keeps p cookie instruction outcome at = absurd at
      upkeep-tells es (x ∷ words) keeps zero cookie instruction outcome at = absurd (subst IsUpkeepWord at keeps.0)
      upkeep-tells es (x ∷ words) keeps (suc p) cookie instruction outcome at = absurd (none words keeps.1 p at)
        where
          none : (ws : List Given) → AreUpkeep ws → (q : ℕ) → IsAt ws q (Answers cookie instruction outcome) → ⊥
          none [] k q there = there
          none (y ∷ ws) k zero there = subst IsUpkeepWord there k.0
          none (y ∷ ws) k (suc q) there = none ws k.1 q there

      -- an operation that is handled ended as its answer tells
      is-served : (instruction : Instruction) (outcome : Outcome) → IsServedIn J name (handled_by daemon served instruction outcome)
      is-served instruction outcome = record {
        session = serves.session;
        opens = by_kind serves.opens;
        daemon_is = serves.daemon_is;
        entity = serves.entity;
        number = serves.number;
        epoch = serves.epoch;
        cookie = serves.cookie;
      }
        where
          stood : (e : Entry) → StandsIn (since daemon J) [] e → Contains (since daemon J) e
          stood e (inl was) = was
          stood e (inr none) = absurd (omega (arith, none.1))

          by_kind : StandsIn (since daemon J) [] (journal.Admitted serves.session) ⊎ StandsIn (since daemon J) [] (journal.Resumed serves.session)
              → Contains (since daemon J) (journal.Admitted serves.session) ⊎ Contains (since daemon J) (journal.Resumed serves.session)
          by_kind (inl has) = inl (stood (journal.Admitted serves.session) has)
          by_kind (inr has) = inr (stood (journal.Resumed serves.session) has)

      -- the words that answer an operation tell of it alone
      answers-tell : (frame : Frame) (next : (free : Contains run.leaked name → ⊥) → TakesNext told s (taken free).taken frame) (instruction : Instruction) (outcome : Outcome)
          → frame.tag ≡ 17 → instruction_of (message_in frame) ≡ Ok instruction → row.entries ≡ journal.Handled (handled_by daemon served instruction outcome) ∷ []
          → TellsOf (Contains run.leaked name → ⊥) J name row.entries (Answers served.cookie instruction outcome ∷ Acks instruction.seq ∷ [])
      answers-tell frame next instruction outcome tag read is zero cookie other ended at = (
        refl,
        λ free.
            let w = next free in
            let order = hears-order w.word frame instruction w.frame tag (spelled s.keys.key w.word w.said) read in
            (handled_by daemon served instruction outcome, is, is-served instruction outcome, same-cookie at, sym order.1 ∙ same-tid at),
      )
        where
          same-cookie : Answers served.cookie instruction outcome ≡ Answers cookie other ended → served.cookie ≡ cookie
          same-cookie e = cc

          same-tid : Answers served.cookie instruction outcome ≡ Answers cookie other ended → instruction.tid ≡ other.tid
          same-tid e = let same : instruction ≡ other = cc in ap (λ (x : Instruction). x.tid) same
      answers-tell frame next instruction outcome tag read is (suc zero) cookie other ended at = absurd cc
      answers-tell frame next instruction outcome tag read is (suc (suc p)) cookie other ended at = absurd at

      -- it is the first that the row enters
      was-served : (instruction : Instruction) (outcome : Outcome) → row.entries ≡ journal.Handled (handled_by daemon served instruction outcome) ∷ []
          → WasServed (entered J row.entries) name (handled_by daemon served instruction outcome)
      was-served instruction outcome is = record {
        before = J;
        after = [];
        place = ap (λ (es : List Entry). entered J es) is;
        served = is-served instruction outcome;
      }

      ends-so : (frame : Frame) (next : (free : Contains run.leaked name → ⊥) → TakesNext told s (taken free).taken frame) (instruction : Instruction) (outcome : Outcome)
          → frame.tag ≡ 17 → instruction_of (message_in frame) ≡ Ok instruction → row.entries ≡ journal.Handled (handled_by daemon served instruction outcome) ∷ [] → (Contains run.leaked name → ⊥)
          → IsTrueAnswer (entered J row.entries) daemon.kind name served.cookie instruction outcome
      ends-so frame next instruction outcome tag read is free =
          let w = next free in
          let said = spelled s.keys.key w.word w.said in
          let order = hears-order w.word frame instruction w.frame tag said read in
          let fits : IsSpelled (Orders (instruction.seq, instruction.operation)) = subst IsSpelled order.0 said in
          let low = fits.0 in
          record {
            handled = handled_by daemon served instruction outcome;
            kind = refl;
            seq = sym order.1;
            low = omega (arith, low, order.1);
            ended = refl;
            cookie_is = refl;
            served = was-served instruction outcome is;
          }

      open-says : (frame : Frame) (next : (free : Contains run.leaked name → ⊥) → TakesNext told s (taken free).taken frame) (words : List Given) (es : List Entry) (found : Option (Link IncomingStage))
          → es ≡ row.entries → OpenGives daemon served frame words es found → Says frame next words found
      open-says frame next _ _ _ same (OpenShut es) = shut-says frame next
      open-says frame next _ _ _ same (OpenUpkeep words there keeps ident again still) =
          let so = upkeep-after words keeps last in
          record {
            true_words = λ free. so.0;
            replies = λ free found is. let w = next free in so.2 ∙ sym (asks-none w.word frame w.frame ident again);
            stage = λ found is. subst (λ (l : Link IncomingStage). StageFor name (served_behind last words) l.stage) (some-link there found is)
                (subst (λ (o : Option ℕ). StageFor name o there.stage) (sym so.1) (still-serves there.stage still));
            shut = λ is. absurd (some-none there is);
            answers = upkeep-tells row.entries words keeps;
          }
      open-says frame next _ _ _ same (OpenAnswers instruction outcome there tag read still) = record {
        true_words = λ free. (
          (
            here,
            ends-so frame next instruction outcome tag read (sym same) free,
          ),
          (tt, tt),
        );
        replies = λ free found is. let w = next free in sym (asks-none w.word frame w.frame (λ e. omega (arith, e, tag)) (λ e. omega (arith, e, tag)));
        stage = λ found is. subst (λ (l : Link IncomingStage). StageFor name last l.stage) (some-link there found is) (still-serves there.stage still);
        shut = λ is. absurd (some-none there is);
        answers = answers-tell frame next instruction outcome tag read (sym same);
      }

      pub open-step : TurnGives (OpenGives daemon served) link s row → IncomingStep link.number s.keys.key name row
      open-step turn =
          let next : (free : Contains run.leaked name → ⊥) → TakesNext told s (taken free).taken turn.frame = λ free. next-word (OpenGives daemon served) turn free in
          step-of link.number s name k taken turn.frame row next (OpenGives daemon served turn.frame) turn.gives
          (open-says turn.frame next turn.gives.words row.entries row.link refl turn.gives.so)
