-- What a client that didn't leak hears on its link to a daemon: replies and asks go in step, so each reply is to what it asked for last, and each answer that it
-- enters tells how an operation ended that was handled in the session that the link is for.
use Rattle.std.proofs.Common.{◌≡◌, ℕ, ◌≤◌, List, [], ◌∷◌, ◌++◌, length, map, Option, Some, None, inl, inr, ◌⊎◌, refl, sym, ap, ◌∙◌, subst, arith, append-nil, append_assoc}
use Rattle.std.specs.Prelude.{Contains}
use Rattle.std.specs.List.{AllByRecursion}
use Rattle.cx_laws_links.specs.cx_authorize.specs.Verdict.{raised}
use Rattle.cx_base.specs.Names.{Name}
use Rattle.cx_base.specs.declared.kinds.EntityType.{EntityType}
use Rattle.cx_base.specs.declared.nodes.NodeName.{NodeName}
use Rattle.cx_base.specs.declared.operations.Operation.{Operation}
use Rattle.cx_frame.specs.declared.frame.Frame.{Frame}
use Rattle.cx_journal.specs.declared.entries.Answered.{Answered}
use Rattle.cx_journal.specs.declared.entries.Entry.{Entry}
use Rattle.cx_journal.specs.declared.entries.Entry.TheVariants as journal
use Rattle.cx_journal.specs.declared.entries.Handled.{Handled}
use Rattle.cx_laws_links.specs.cx_laws_keys.proofs.keys.Known.{Inv, IsOfAcceptor}
use Rattle.cx_laws_links.specs.cx_laws_keys.proofs.keys.Lists.{all-map}
use Rattle.cx_laws_links.specs.cx_laws_keys.proofs.keys.Premises.{AreGranted, granted-first}
use Rattle.cx_laws_links.specs.cx_laws_keys.proofs.keys.Uses.{Uses, WholeRun}
use Rattle.cx_laws_links.specs.cx_rules.specs.Fronts.{keys_behind, opened_parts, sealed_ahead}
use Rattle.cx_laws_links.specs.cx_rules.specs.Links.{Link}
use Rattle.cx_laws_links.specs.cx_rules.specs.Secured.{Keys, Secured, Way}
use Rattle.cx_laws_links.specs.cx_rules_session.specs.Presenter as call
use Rattle.cx_laws_links.specs.cx_rules_session.specs.Presenter.{CallArrival, CallRow, CallStage, callee_of}
use Rattle.cx_steps.specs.declared.seals.Logged.{Logged}
use Rattle.cx_steps.specs.declared.seals.SealEntry.{SealEntry}
use Rattle.cx_laws_links.proofs.links.CallTells.{AreSealed, are-sealed}
use Rattle.cx_laws_links.proofs.links.CallWords.{Identified, KeyedStage, Opened, Reconnecting, Says, SignedOn, pending_of}
use Rattle.cx_laws_links.proofs.links.Known.{IsKeyed, NoncePlace, Told}
use Rattle.cx_laws_links.proofs.links.Speaking.{said-append, said-own, speaking}
use Rattle.cx_laws_links.proofs.links.Spoken.{Idents, KeepsUp, Orders, Reconnects, Signs, Spoken, asked, asked-append, asked_by, cookie_behind, frame_of, said_under, tagged}
use Rattle.cx_laws_links.proofs.links.CallTold.{AsksOn, KeyedAsks}
use Rattle.cx_laws_links.proofs.links.IncomingTakes.{IsServedIn}
use Rattle.cx_laws_links.proofs.links.Written.{IsLinkKey}
use Rattle.cx_laws_links.proofs.answers.AnswerHears.{hears-answer}
use Rattle.cx_laws_links.proofs.answers.CallHears.{EndsSo, GoesAt, TellsEnd}
use Rattle.cx_laws_links.proofs.answers.CallTurns.{TurnHears}
use Rattle.cx_laws_links.proofs.answers.Given as given_words
use Rattle.cx_laws_links.proofs.answers.Given.{Given, given_frame, given_under, replied, replied-append, replied_by, served_behind}
use Rattle.cx_laws_links.proofs.answers.Heard.{HasHeard, HearsNext, hears-next}
use Rattle.cx_laws_links.proofs.answers.Known.{WasServed, AreGiven, AreTrueGiven, IsGiven, IsTrueAnswer, IsTrueGiven, true-behind}
use Rattle.cx_laws_links.proofs.answers.EndsRead.{ReadsAt, ReadsOn, reads-on}
use Rattle.cx_laws_links.proofs.answers.Replied.{IsInStep}

-- ---- the last session

abbrev pub last_of : Option ℕ → List ℕ → Option ℕ
last_of before [] = before
last_of before (x ∷ xs) = last_of (Some x) xs

-- the session that was spoken of last is the one that was asked for last
pub asked-last : (before : Option ℕ) (xs : List Spoken) → cookie_behind before xs ≡ last_of before (asked xs)
asked-last before [] = refl
asked-last before (Signs code ∷ xs) = asked-last before xs
asked-last before (Idents mon_client gid flags cookie ∷ xs) = asked-last (Some cookie) xs
asked-last before (Reconnects mon_client session ∷ xs) = asked-last (Some session.client_cookie) xs
asked-last before (Orders order ∷ xs) = asked-last before xs
asked-last before (KeepsUp ack ∷ xs) = asked-last before xs

-- the one that is served is the one that was replied to last
pub replied-last : (before : Option ℕ) (xs : List Given) → served_behind before xs ≡ last_of before (replied xs)
replied-last before [] = refl
replied-last before (given_words.Signs code ∷ xs) = replied-last before xs
replied-last before (given_words.Replies cookie reply ∷ xs) = replied-last (Some cookie) xs
replied-last before (given_words.Misses features ∷ xs) = replied-last before xs
replied-last before (given_words.Answers cookie i outcome ∷ xs) = replied-last before xs
replied-last before (given_words.Acks seq ∷ xs) = replied-last before xs
replied-last before (given_words.KeepsUp ack ∷ xs) = replied-last before xs

same-rest : (xs ys zs : List ℕ) → xs ++ ys ≡ xs ++ zs → ys ≡ zs
same-rest [] ys zs e = e
same-rest (x ∷ xs) ys zs e = let rest : xs ++ ys ≡ xs ++ zs = cc in same-rest xs ys zs rest

first-is : (x y : ℕ) (xs ys : List ℕ) → x ∷ xs ≡ y ∷ ys → x ≡ y
first-is x y xs ys e = cc

some-is : (x y : ℕ) → (let o : Option ℕ = Some x in let p : Option ℕ = Some y in o ≡ p) → x ≡ y
some-is x y e = cc

-- ---- what a link has heard

-- what was taken is the front of what was given under the link's key; and what was asked for there is what was replied to in it, and what the link waits for
pub record IsHearing (told : Told) (given : List (List ℕ × Given)) (s : Secured) (pending : List ℕ) : Type 0 where
  pub taken : List Given
  pub heard : HasHeard given s taken
  pub step : asked (said_under s.keys.key told.said) ≡ replied taken ++ pending

-- the link hears an acceptor, and so it is where the client didn't leak
abbrev pub Hears : WholeRun → Told → List (List ℕ × Given) → Name → Secured → List ℕ → Type 0
Hears run told given name s pending = IsOfAcceptor s.keys.into.fixed × (length s.keys.into.fixed ≡ 4) × ((Contains run.leaked name → ⊥) → IsHearing told given s pending)

abbrev pub CallHeard : WholeRun → Told → List (List ℕ × Given) → Name → CallStage → Type 0
CallHeard run told given name (call.AwaitsSignature s callee) = Hears run told given name s []
CallHeard run told given name (call.AwaitsIdent s callee cookie) = Hears run told given name s (cookie ∷ [])
CallHeard run told given name (call.AwaitsReconnect s callee cookie) = Hears run told given name s (cookie ∷ [])
CallHeard run told given name (call.Open s callee cookie) = Hears run told given name s []
CallHeard run told given name _ = Unit {0}

pub heard-keyed : (run : WholeRun) (told : Told) (given : List (List ℕ × Given)) (name : Name) (stage : CallStage) (s : Secured) (before : Option ℕ) → KeyedStage stage s before
    → Hears run told given name s (pending_of stage) → CallHeard run told given name stage
heard-keyed run told given name _ _ _ (SignedOn s callee) h = h
heard-keyed run told given name _ _ _ (Identified s callee cookie) h = h
heard-keyed run told given name _ _ _ (Reconnecting s callee cookie) h = h
heard-keyed run told given name _ _ _ (Opened s callee cookie) h = h

pub keyed-heard : (run : WholeRun) (told : Told) (given : List (List ℕ × Given)) (name : Name) (stage : CallStage) (s : Secured) (before : Option ℕ) → KeyedStage stage s before
    → CallHeard run told given name stage → Hears run told given name s (pending_of stage)
keyed-heard run told given name _ _ _ (SignedOn s callee) h = h
keyed-heard run told given name _ _ _ (Identified s callee cookie) h = h
keyed-heard run told given name _ _ _ (Reconnecting s callee cookie) h = h
keyed-heard run told given name _ _ _ (Opened s callee cookie) h = h

pub asks-keyed : (told next : Told) (stage : CallStage) (s : Secured) (before : Option ℕ) → KeyedStage stage s before → AsksOn told next stage → KeyedAsks told next s (pending_of stage)
asks-keyed told next _ _ _ (SignedOn s callee) h = h
asks-keyed told next _ _ _ (Identified s callee cookie) h = h
asks-keyed told next _ _ _ (Reconnecting s callee cookie) h = h
asks-keyed told next _ _ _ (Opened s callee cookie) h = h

-- an answer that a client of the monitor entered of a daemon that it called tells how an operation ended: a daemon of this type handled it, in a session of this entity under
-- its cookie
pub record IsTrueEnd (J : List Entry) (service : EntityType) (name mon_client daemon : Name) (x : Answered) : Type 0 where
  pub client_is : x.client ≡ mon_client
  pub daemon_is : x.daemon ≡ daemon
  pub handled : Handled
  pub kind : handled.daemon.kind ≡ service
  pub seq : handled.seq ≡ x.tid
  pub ended : handled.outcome ≡ x.outcome
  pub cookie_is : handled.cookie ≡ x.cookie
  pub served : WasServed J name handled

-- ---- what a word replies to

-- at a frame at which the link goes on the word is a reply where the link waits for one, and else none
reply-tags : (stage : CallStage) (s : Secured) (before : Option ℕ) → KeyedStage stage s before → (w : Given) → GoesAt stage (given_frame w).tag
    → (pending_of stage ≡ replied_by w) ⊎ ((cookie : ℕ) × (other : ℕ) × (pending_of stage ≡ cookie ∷ []) × (replied_by w ≡ other ∷ []))
reply-tags _ _ _ (SignedOn s callee) w goes = inl (by_word w goes)
  where
    by_word : (y : Given) → (given_frame y).tag ≡ 7 → [] ≡ replied_by y
    by_word (given_words.Signs code) t = refl
    by_word (given_words.Replies cookie (given_words.Admits address flags own)) t = absurd (omega (arith, t))
    by_word (given_words.Replies cookie (given_words.Resumes last)) t = absurd (omega (arith, t))
    by_word (given_words.Replies cookie given_words.Resets) t = absurd (omega (arith, t))
    by_word (given_words.Replies cookie (given_words.Retries kept)) t = absurd (omega (arith, t))
    by_word (given_words.Replies cookie (given_words.RetriesGlobal kept)) t = absurd (omega (arith, t))
    by_word (given_words.Misses features) t = refl
    by_word (given_words.Answers cookie i outcome) t = refl
    by_word (given_words.Acks seq) t = refl
    by_word (given_words.KeepsUp ack) t = refl
reply-tags _ _ _ (Identified s callee cookie) w goes = by_word w goes
  where
    by_word : (y : Given) → (given_frame y).tag ≡ 9 → (cookie ∷ [] ≡ replied_by y) ⊎ ((one : ℕ) × (other : ℕ) × (cookie ∷ [] ≡ one ∷ []) × (replied_by y ≡ other ∷ []))
    by_word (given_words.Replies other reply) t = inr (cookie, other, refl, refl)
    by_word (given_words.Signs code) t = absurd (omega (arith, t))
    by_word (given_words.Misses features) t = absurd (omega (arith, t))
    by_word (given_words.Answers other i outcome) t = absurd (omega (arith, t))
    by_word (given_words.Acks seq) t = absurd (omega (arith, t))
    by_word (given_words.KeepsUp ack) t = absurd (omega (arith, t))
reply-tags _ _ _ (Reconnecting s callee cookie) w goes = by_word w goes
  where
    by_word : (y : Given) → (12 ≤ (given_frame y).tag) × ((given_frame y).tag ≤ 15) → (cookie ∷ [] ≡ replied_by y) ⊎ ((one : ℕ) × (other : ℕ) × (cookie ∷ [] ≡ one ∷ []) × (replied_by y ≡ other ∷ []))
    by_word (given_words.Replies other reply) t = inr (cookie, other, refl, refl)
    by_word (given_words.Signs code) t = absurd (omega (arith, t.0))
    by_word (given_words.Misses features) t = absurd (omega (arith, t.0))
    by_word (given_words.Answers other i outcome) t = absurd (omega (arith, t.1))
    by_word (given_words.Acks seq) t = absurd (omega (arith, t.1))
    by_word (given_words.KeepsUp ack) t = absurd (omega (arith, t.1))
reply-tags _ _ _ (Opened s callee cookie) w goes = inl (by_word w goes)
  where
    by_word : (y : Given) → 17 ≤ (given_frame y).tag → [] ≡ replied_by y
    by_word (given_words.Signs code) t = refl
    by_word (given_words.Replies other (given_words.Admits address flags own)) t = absurd (omega (arith, t))
    by_word (given_words.Replies other (given_words.Resumes last)) t = absurd (omega (arith, t))
    by_word (given_words.Replies other given_words.Resets) t = absurd (omega (arith, t))
    by_word (given_words.Replies other (given_words.Retries kept)) t = absurd (omega (arith, t))
    by_word (given_words.Replies other (given_words.RetriesGlobal kept)) t = absurd (omega (arith, t))
    by_word (given_words.Misses features) t = refl
    by_word (given_words.Answers other i outcome) t = refl
    by_word (given_words.Acks seq) t = refl
    by_word (given_words.KeepsUp ack) t = refl

-- ---- a turn

module _ (run : WholeRun) (whole : List Logged) (us : Uses) (told : Told) (given : List (List ℕ × Given)) (log : List Logged) (J : List Entry) (n : NodeName) (line : ℕ)
    (i : Inv run whole us log J) (h : AreGiven run us given log J) (name : Name) (a : CallArrival) (W : ℕ → ℕ × Operation → Type 0) (stage : CallStage) (s : Secured) (before : Option ℕ)
    (keyed : KeyedStage stage s before) (k : IsKeyed us told log name a.link.number s before) (hears : Hears run told given name s (pending_of stage)) (row : CallRow)
    (turn : TurnHears W a stage s before row) (g : AreGranted run.leaked whole n line log row.seals) where
  abbrev Free : Type 0
  Free = Contains run.leaked name → ⊥

  -- the word that is heard
  heard-word : (free : Free) → HearsNext given s (hears.2 free).taken turn.frame
  heard-word free =
      hears-next run whole us given log J n line i h name (raised k.nonce) s k.is hears.0 hears.1 free a.link turn.frame turn.size (hears.2 free).taken (hears.2 free).heard
      (granted-first run.leaked whole n line log (opened_parts (sealed_ahead s.keys a.link)) turn.rest (subst (λ (es : List SealEntry). AreGranted run.leaked whole n line log es) turn.opened g)) turn.read

  given-is : (free : Free) → given_under s.keys.key given ≡ (hears.2 free).taken ++ ((heard-word free).word ∷ (heard-word free).heard.rest)
  given-is free = let w = heard-word free in w.heard.front ∙ append_assoc (hears.2 free).taken (w.word ∷ []) w.heard.rest

  -- it replies to what the link waits for, where the link goes on
  replies-so : (free : Free) → IsInStep told given s.keys.key → GoesAt stage turn.frame.tag → replied_by (heard-word free).word ≡ pending_of stage
  replies-so free step goes =
      let w = heard-word free in
      by_tags w.word (given-is free) (reply-tags stage s before keyed w.word (subst (λ (f : Frame). GoesAt stage f.tag) w.frame goes))
    where
      by_tags : (word : Given) → given_under s.keys.key given ≡ (hears.2 free).taken ++ (word ∷ (heard-word free).heard.rest)
          → (pending_of stage ≡ replied_by word) ⊎ ((cookie : ℕ) × (other : ℕ) × (pending_of stage ≡ cookie ∷ []) × (replied_by word ≡ other ∷ []))
          → replied_by word ≡ pending_of stage
      by_tags word is (inl same) = sym same
      by_tags word is (inr (cookie, other, waits, replies)) =
          let taken : List Given = (hears.2 free).taken in
          let rest : List Given = (heard-word free).heard.rest in
          let all : replied (given_under s.keys.key given) ≡ replied taken ++ (other ∷ replied rest) =
          ap (λ (l : List Given). replied l) is ∙ replied-append taken (word ∷ rest) ∙ ap (λ (l : List ℕ). replied taken ++ (l ++ replied rest)) replies in
          let front : replied taken ++ (cookie ∷ []) ≡ replied taken ++ (other ∷ (replied rest ++ step.0)) =
          ap (λ (l : List ℕ). replied taken ++ l) (sym waits) ∙ sym (hears.2 free).step ∙ step.1 ∙ ap (λ (l : List ℕ). l ++ step.0) all
          ∙ append_assoc (replied taken) (other ∷ replied rest) step.0 in
          let same : cookie ≡ other = first-is cookie other [] (replied rest ++ step.0) (same-rest (replied taken) (cookie ∷ []) (other ∷ (replied rest ++ step.0)) front) in
          replies ∙ ap (λ (c : ℕ). c ∷ []) (sym same) ∙ sym waits

  -- ---- the link behind it

  sealed-so : AreSealed s.keys.key (keys_behind s.keys turn.frame) (map frame_of turn.says.words) turn.says.sealed
  sealed-so = are-sealed s.keys.key (keys_behind s.keys turn.frame) (map frame_of turn.says.words) turn.says.sealed refl turn.says.made

  still-hears : (after : Told) (link : Link CallStage) → row.link ≡ Some link → (t : Secured) → t.keys ≡ turn.says.sealed.keys → KeyedAsks told after t (pending_of link.stage)
      → (Free → IsInStep told given s.keys.key) → Hears run after given name t (pending_of link.stage)
  still-hears after link is t same asks step =
      let key : t.keys.key ≡ s.keys.key = ap (λ (x : Keys). x.key) same ∙ sealed-so.key_is in
      let into : t.keys.into ≡ (keys_behind s.keys turn.frame).into = ap (λ (x : Keys). x.into) same ∙ sealed-so.into in
      let fixed : t.keys.into.fixed ≡ s.keys.into.fixed = ap (λ (x : Way). x.fixed) into in (
        subst IsOfAcceptor (sym fixed) hears.0,
        ap (λ (l : List ℕ). length l) fixed ∙ hears.1,
        λ free. let w = heard-word free in
            record {
              taken = (hears.2 free).taken ++ w.word ∷ [];
              heard = record {
                rest = w.heard.rest;
                front = ap (λ (l : List ℕ). given_under l given) key ∙ w.heard.front;
                counter = ap (λ (x : Way). x.counter) into ∙ w.heard.counter;
              };
              step = in-step free w.word (replies-so free (step free) (turn.hears.goes link is)) key;
            },
      )
    where
      in-step : (free : Free) (word : Given) → replied_by word ≡ pending_of stage → t.keys.key ≡ s.keys.key
          → asked (said_under t.keys.key after.said) ≡ replied ((hears.2 free).taken ++ word ∷ []) ++ pending_of link.stage
      in-step free word replies key =
          let taken : List Given = (hears.2 free).taken in
          let replied_is : replied (taken ++ word ∷ []) ≡ replied taken ++ pending_of stage =
          replied-append taken (word ∷ []) ∙ ap (λ (l : List ℕ). replied taken ++ l) (append-nil (replied_by word) ∙ replies) in
          asks ∙ ap (λ (l : List ℕ). asked (said_under l told.said) ++ pending_of link.stage) key
          ∙ ap (λ (l : List ℕ). l ++ pending_of link.stage) ((hears.2 free).step ∙ sym replied_is)

  -- all is heard on the link that goes on, where what it waits for was asked for in this step
  pub turn-heard : (after : Told) → ((link : Link CallStage) → row.link ≡ Some link → AsksOn told after link.stage) → (Free → IsInStep told given s.keys.key)
      → (link : Link CallStage) → row.link ≡ Some link → CallHeard run after given name link.stage
  turn-heard after asks step link is =
      let l = turn.says.link link is in
      heard-keyed run after given name link.stage l.0 (cookie_behind before turn.says.words) l.1
      (still-hears after link is l.0 l.2 (asks-keyed told after link.stage l.0 (cookie_behind before turn.says.words) l.1 (asks link is)) step)

  -- ---- answers

  -- the word that is heard is true in the session that was asked for last
  word-true : (free : Free) → pending_of stage ≡ [] → IsTrueGiven J k.is.service name before (heard-word free).word
  word-true free none =
      let w = heard-word free in
      let taken : List Given = (hears.2 free).taken in
      let known : IsGiven run given log J s.keys.key name k.is.service = h.each s.keys.key name (raised k.nonce) k.is in
      let all : AreTrueGiven J k.is.service name None (taken ++ (w.word ∷ w.heard.rest)) =
      subst (λ (l : List Given). AreTrueGiven J k.is.service name None l) (given-is free) (known.words free) in
      let there : IsTrueGiven J k.is.service name (served_behind None taken) w.word = (true-behind J k.is.service name None taken (w.word ∷ w.heard.rest) all).0 in
      let last : served_behind None taken ≡ before =
      replied-last None taken ∙ ap (λ (l : List ℕ). last_of None l) (sym (append-nil (replied taken)) ∙ ap (λ (l : List ℕ). replied taken ++ l) (sym none) ∙ sym (hears.2 free).step)
      ∙ sym (asked-last None (said_under s.keys.key told.said)) ∙ k.session in
      subst (λ (o : Option ℕ). IsTrueGiven J k.is.service name o w.word) last there

  ended-so : (free : Free) (x : Answered) (st : CallStage) (r : Secured) (o : Option ℕ) → KeyedStage st r o → TellsEnd a.own.mon_client turn.frame st x
      → (pending_of st ≡ [] → IsTrueGiven J k.is.service name o (heard-word free).word) → IsTrueEnd J k.is.service name a.own.mon_client.name (callee_of st).daemon x
  ended-so free x _ _ _ (SignedOn r callee) told_so true_word = absurd told_so
  ended-so free x _ _ _ (Identified r callee cookie) told_so true_word = absurd told_so
  ended-so free x _ _ _ (Reconnecting r callee cookie) told_so true_word = absurd told_so
  ended-so free x _ _ _ (Opened r callee cookie) (end, read, is) true_word =
      let w = heard-word free in
      let heard = hears-answer w.word turn.frame end w.frame read in
      let so : IsTrueGiven J k.is.service name (Some cookie) (given_words.Answers heard.0 heard.1 heard.2) =
      subst (λ (y : Given). IsTrueGiven J k.is.service name (Some cookie) y) heard.3 (true_word refl) in
      let ends = heard.4 so.1.low in
      record {
        client_is = ap (λ (y : Answered). y.client) is;
        daemon_is = ap (λ (y : Answered). y.daemon) is;
        handled = so.1.handled;
        kind = so.1.kind;
        seq = so.1.seq ∙ sym ends.0 ∙ ap (λ (y : Answered). y.tid) (sym is);
        ended = so.1.ended ∙ sym ends.1 ∙ ap (λ (y : Answered). y.outcome) (sym is);
        cookie_is = so.1.cookie_is ∙ some-is heard.0 cookie (sym so.0) ∙ ap (λ (y : Answered). y.cookie) (sym is);
        served = so.1.served;
      }

  -- each answer that the row enters is true
  pub ends-true : Free → AllByRecursion (EndsSo (IsTrueEnd J k.is.service name a.own.mon_client.name (callee_of stage).daemon)) row.entries
  ends-true free =
      all-map (EndsSo (TellsEnd a.own.mon_client turn.frame stage)) (EndsSo (IsTrueEnd J k.is.service name a.own.mon_client.name (callee_of stage).daemon)) by_entry row.entries turn.hears.entries
    where
      by_entry : (e : Entry) → EndsSo (TellsEnd a.own.mon_client turn.frame stage) e → EndsSo (IsTrueEnd J k.is.service name a.own.mon_client.name (callee_of stage).daemon) e
      by_entry (journal.Answered x) told_so = ended-so free x stage s before keyed told_so (λ none. word-true free none)
      by_entry (journal.Saved x) told_so = tt
      by_entry (journal.Issued x) told_so = tt
      by_entry (journal.Fetched x) told_so = tt
      by_entry (journal.Looked x) told_so = tt
      by_entry (journal.Sent x) told_so = tt
      by_entry (journal.Handled x) told_so = tt
      by_entry (journal.Admitted x) told_so = tt
      by_entry (journal.Resumed x) told_so = tt
      by_entry (journal.Refused x) told_so = tt
      by_entry (journal.Ended x) told_so = tt
      by_entry (journal.Restarted x) told_so = tt
      by_entry (journal.Broken x) told_so = tt
      by_entry (journal.Leaked x) told_so = tt

  -- and it was read at the number of its first part
  read-so : a.own.mon_client.name ≡ name → (free : Free) (x : Answered) (st : CallStage) (r : Secured) (o : Option ℕ) → KeyedStage st r o → TellsEnd a.own.mon_client turn.frame st x
      → (pending_of st ≡ [] → IsTrueGiven J k.is.service name o (heard-word free).word) → ReadsAt us given s.keys.key s.keys.into.counter x
  read-so own free x _ _ _ (SignedOn r callee) told_so true_word = absurd told_so
  read-so own free x _ _ _ (Identified r callee cookie) told_so true_word = absurd told_so
  read-so own free x _ _ _ (Reconnecting r callee cookie) told_so true_word = absurd told_so
  read-so own free x _ _ _ (Opened r callee cookie) (end, read, is) true_word =
      let w = heard-word free in
      let taken : List Given = (hears.2 free).taken in
      let heard = hears-answer w.word turn.frame end w.frame read in
      let so : IsTrueGiven J k.is.service name (Some cookie) (given_words.Answers heard.0 heard.1 heard.2) =
      subst (λ (y : Given). IsTrueGiven J k.is.service name (Some cookie) y) heard.3 (true_word refl) in
      let ends = heard.4 so.1.low in
      let cookie_is : heard.0 ≡ x.cookie = some-is heard.0 cookie (sym so.0) ∙ ap (λ (y : Answered). y.cookie) (sym is) in
      record {
        tie = raised k.nonce;
        is = subst (λ (m : Name). IsLinkKey us s.keys.key m (raised k.nonce)) (sym (ap (λ (y : Answered). y.client) is ∙ own)) k.is;
        front = taken;
        rest = w.heard.rest;
        instruction = heard.1;
        outcome = heard.2;
        stands = given-is free ∙ ap (λ (y : Given). taken ++ (y ∷ w.heard.rest)) (heard.3 ∙ ap (λ (c : ℕ). given_words.Answers c heard.1 heard.2) cookie_is);
        tid_is = sym ends.0 ∙ ap (λ (y : Answered). y.tid) (sym is);
        number_is = (hears.2 free).heard.counter;
      }

  pub ends-read : a.own.mon_client.name ≡ name → (free : Free) → AllByRecursion (EndsSo (ReadsAt us given s.keys.key s.keys.into.counter)) row.entries
  ends-read own free = all-map (EndsSo (TellsEnd a.own.mon_client turn.frame stage)) (EndsSo (ReadsAt us given s.keys.key s.keys.into.counter)) by_entry row.entries turn.hears.entries
    where
      by_entry : (e : Entry) → EndsSo (TellsEnd a.own.mon_client turn.frame stage) e → EndsSo (ReadsAt us given s.keys.key s.keys.into.counter) e
      by_entry (journal.Answered x) told_so = read-so own free x stage s before keyed told_so (λ none. word-true free none)
      by_entry (journal.Saved x) told_so = tt
      by_entry (journal.Issued x) told_so = tt
      by_entry (journal.Fetched x) told_so = tt
      by_entry (journal.Looked x) told_so = tt
      by_entry (journal.Sent x) told_so = tt
      by_entry (journal.Handled x) told_so = tt
      by_entry (journal.Admitted x) told_so = tt
      by_entry (journal.Resumed x) told_so = tt
      by_entry (journal.Refused x) told_so = tt
      by_entry (journal.Ended x) told_so = tt
      by_entry (journal.Restarted x) told_so = tt
      by_entry (journal.Broken x) told_so = tt
      by_entry (journal.Leaked x) told_so = tt

  -- and the link that goes on reads on behind it
  pub turn-reads : (reads : List (List ℕ × ℕ)) → (Free → ReadsOn reads s) → (t : Secured) → t.keys ≡ turn.says.sealed.keys → Free → ReadsOn (reads ++ (s.keys.key, s.keys.into.counter) ∷ []) t
  turn-reads reads on t same free =
      reads-on reads s t turn.frame (heard-word free).word (heard-word free).frame (ap (λ (x : Keys). x.key) same ∙ sealed-so.key_is) (ap (λ (x : Keys). x.into) same ∙ sealed-so.into) (on free)
