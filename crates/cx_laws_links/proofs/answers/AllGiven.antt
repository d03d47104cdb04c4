-- A turn of a link behind authentication, at either end: all that is known of what was given, of asks and replies, and of each answer that is given once, stays
-- known behind it.
use Rattle.std.proofs.Common.{◌≡◌, ℕ, false, List, [], ◌∷◌, ◌++◌, Option, Some, None, inl, inr, ◌⊎◌, refl, sym, ap, ◌∙◌, subst, arith, append-nil}
use Rattle.std.proofs.lemmas.Bool.{false_from_ne_true}
use Rattle.std.proofs.lemmas.List.Elements.{Contains-push}
use Rattle.std.proofs.lemmas.Slice.Eq.{bytes_eq-Decides}
use Rattle.std.specs.Prelude.{Contains}
use Rattle.std.specs.List.{AllByRecursion}
use Rattle.std.specs.Str.{bytes_eq}
use Rattle.cx_laws_links.specs.cx_authorize.specs.Verdict.{raised}
use Rattle.cx_base.specs.Names.{Name}
use Rattle.cx_base.specs.declared.nodes.NodeName.{NodeName}
use Rattle.cx_base.specs.declared.operations.Operation.{Operation}
use Rattle.cx_journal.specs.declared.entries.Answered.{Answered}
use Rattle.cx_journal.specs.declared.entries.Entry.{Entry}
use Rattle.cx_journal.specs.declared.entries.Entry.TheVariants as journal
use Rattle.cx_journal.specs.declared.entries.Handled.{Handled}
use Rattle.cx_laws_links.specs.cx_laws_keys.proofs.keys.Journal.{entered}
use Rattle.cx_laws_links.specs.cx_laws_keys.proofs.keys.Known.{Inv}
use Rattle.cx_laws_links.specs.cx_laws_keys.proofs.keys.Premises.{AreGranted, behind}
use Rattle.cx_laws_links.specs.cx_laws_keys.proofs.keys.Uses.{AtDaemon, Connected, Grows, Means, Use, Uses, WholeRun, stays}
use Rattle.cx_laws_links.specs.cx_laws_keys.proofs.series.Contents.{contents_by}
use Rattle.cx_laws_links.specs.cx_rules.specs.Acceptor as acceptor
use Rattle.cx_laws_links.specs.cx_rules.specs.Links.{Link}
use Rattle.cx_laws_links.specs.cx_rules.specs.Secured.{Secured}
use Rattle.cx_laws_links.specs.cx_rules_session.specs.IncomingLinks.{IncomingRow, IncomingStage}
use Rattle.cx_laws_links.specs.cx_rules_session.specs.Presenter as call
use Rattle.cx_laws_links.specs.cx_rules_session.specs.Presenter.{CallArrival, CallRow, CallStage, callee_of}
use Rattle.cx_steps.specs.declared.seals.Logged.{Logged}
use Rattle.cx_steps.specs.declared.seals.SealEntry.{SealEntry}
use Rattle.cx_laws_links.proofs.links.CallTold.{AsksOn}
use Rattle.cx_laws_links.proofs.links.CallWords.{KeyedStage, pending_of}
use Rattle.cx_laws_links.proofs.links.IncomingTakes.{IsServedIn}
use Rattle.cx_laws_links.proofs.links.IncomingWords.{AreSpelled}
use Rattle.cx_laws_links.proofs.links.Known.{AreTold, CallTold, IsKeyed, Told}
use Rattle.cx_laws_links.proofs.links.Moving.{Moved, Quiets, Speaks}
use Rattle.cx_laws_links.proofs.links.Speaking.{cons-cases, said-append, said-other}
use Rattle.cx_laws_links.proofs.links.Spoken.{Spoken, asked, said_under, tagged}
use Rattle.cx_laws_links.proofs.links.Written.{IsLinkKey}
use Rattle.cx_laws_links.proofs.answers.CallHeard.{CallHeard, Hears, IsTrueEnd, ends-read, ends-true, turn-heard}
use Rattle.cx_laws_links.proofs.answers.CallHears.{EndsSo}
use Rattle.cx_laws_links.proofs.answers.CallTurns.{TurnHears}
use Rattle.cx_laws_links.proofs.answers.Given.{Given, gives_under, is_acceptors}
use Rattle.cx_laws_links.proofs.answers.Growing.{given-stays}
use Rattle.cx_laws_links.proofs.answers.IncomingKnown.{IncomingStep}
use Rattle.cx_laws_links.proofs.answers.Keyed.{given-other}
use Rattle.cx_laws_links.proofs.answers.Known.{WasServed, Continues, AreGiven}
use Rattle.cx_laws_links.proofs.answers.Moving.{AsksNoMore, Longer, QuietAt, QuietUnder, call-stays, incoming-stays, in-step-gives, in-step-speaks}
use Rattle.cx_laws_links.proofs.answers.Once.{AnswersAnew, AreOnce, once-gives, once-stays}
use Rattle.cx_laws_links.proofs.answers.EndsRead.{AreRead, IsRead, ReadsAt, ReadsOn, not-before, read-grows}
use Rattle.cx_laws_links.proofs.answers.Replied.{AreInStep, IncomingGiven, IsGiver}

-- what is known of all that was given: by key, in step with what was asked for, and each answer once
pub record AllGiven (run : WholeRun) (us : Uses) (told : Told) (given : List (List ℕ × Given)) (log : List Logged) (J : List Entry) : Type 0 where
  pub known : AreGiven run us given log J
  pub step : AreInStep run us told given
  pub once : AreOnce run us given

-- another link of a client asks for no more, where its key is another one
asks-no-more : (told : Told) (key other : List ℕ) (words : List Spoken) → bytes_eq key other ≡ false
    → asked (said_under other (told.said ++ tagged key words)) ≡ asked (said_under other told.said)
asks-no-more told key other words apart =
    ap (λ (l : List Spoken). asked l)
    (said-append other told.said (tagged key words) ∙ ap (λ (l : List Spoken). said_under other told.said ++ l) (said-other other key apart words) ∙ append-nil (said_under other told.said))

-- a link has another key
abbrev pub IncomingApart : List ℕ → IncomingStage → Type 0
IncomingApart key (acceptor.AwaitsSignature s owner) = bytes_eq key s.keys.key ≡ false
IncomingApart key (acceptor.AwaitsIdent s owner) = bytes_eq key s.keys.key ≡ false
IncomingApart key (acceptor.Open s served) = bytes_eq key s.keys.key ≡ false
IncomingApart key _ = Unit {0}

-- what is said of each answer that is entered is said of this one
end-at : (T : Answered → Type 0) (es : List Entry) (x : Answered) → AllByRecursion (EndsSo T) es → Contains es (journal.Answered x) → T x
end-at T [] x h has = absurd (none has)
  where
    none : Contains {X = Entry} [] (journal.Answered x) → ⊥
    none there = omega (arith, there.1)
end-at T (e ∷ es) x h has = by_place (cons-cases e es (journal.Answered x) has) (λ there. end-at T es x h.1 there)
  where
    by_place : (e ≡ journal.Answered x) ⊎ Contains es (journal.Answered x) → (Contains es (journal.Answered x) → T x) → T x
    by_place (inl here) rest = subst (λ (y : Entry). EndsSo T y) here h.0
    by_place (inr there) rest = rest there

-- ---- a step that gives nothing

-- where a step seals nothing of an acceptor under the key of any link, and more may be spoken in it, all that was given stays known
pub still-given : (run : WholeRun) (whole : List Logged) (us vs : Uses) (told next : Told) (given : List (List ℕ × Given)) (log : List Logged) (J K : List Entry) (n : NodeName) (line : ℕ) (es : List SealEntry)
    → ((k : List ℕ) (u v : Use) → Means vs k u → Means vs k v → u ≡ v) → Grows us vs → Continues J K → Inv run whole us log J → Longer told next
    → ((key : List ℕ) (name : Name) (tie : ℕ) → IsLinkKey vs key name tie → contents_by key is_acceptors es ≡ []) → AllGiven run us told given log J → AllGiven run vs next given (behind n line es log) K
still-given run whole us vs told next given log J K n line es one f w i longer quiet h = record {
  known = given-stays run whole us vs given log J K n line es one f w i h.known quiet;
  step = in-step-speaks run us vs told next given log J one f longer h.known h.step;
  once = once-stays run us vs given log J one f h.known h.once;
}

-- what a step on one link of a client does: more is spoken
pub moved-longer : (us vs : Uses) (told : Told) (log : List Logged) (es : List SealEntry) (name : Name) (number : ℕ) (next : Told) → Moved us vs told log es name number next → Longer told next
moved-longer us vs told log es name number _ (Quiets nonces keeps none) = record { more = []; is = sym (append-nil told.said) }
moved-longer us vs told log es name number _ (Speaks nonces key words keeps none own) = record { more = tagged key words; is = refl }

-- and other links of clients hear what they heard
module _ (run : WholeRun) (us vs : Uses) (told : Told) (given : List (List ℕ × Given)) (log : List Logged) (es : List SealEntry) (name : Name) (number : ℕ) (next : Told)
    (m : Moved us vs told log es name number next) where
  still-asks : (whose : Name) (second : ℕ) (s : Secured) (before : Option ℕ) → ((whose ≡ name) × (second ≡ number) → ⊥) → IsKeyed us told log whose second s before
      → asked (said_under s.keys.key next.said) ≡ asked (said_under s.keys.key told.said)
  still-asks whose second s before apart k = by_move next m
    where
      by_move : (after : Told) → Moved us vs told log es name number after → asked (said_under s.keys.key after.said) ≡ asked (said_under s.keys.key told.said)
      by_move _ (Quiets nonces keeps none) = refl
      by_move _ (Speaks nonces key words keeps none own) = asks-no-more told key s.keys.key words (own whose second s before k apart)

  pub moved-heard : (whose : Name) (second : ℕ) → ((whose ≡ name) × (second ≡ number) → ⊥) → (stage : CallStage) → CallTold us told log whose second stage → CallHeard run told given whose stage
      → CallHeard run next given whose stage
  moved-heard whose second apart stage k h =
      subst (λ (l : List (List ℕ × Given)). CallHeard run next l whose stage) (append-nil given) (call-stays run told next given [] whose stage (asks stage k) h)
    where
      asks : (x : CallStage) → CallTold us told log whose second x → AsksNoMore run told next given [] whose x
      asks (call.AwaitsSignature r callee) known = still-asks whose second r None apart known
      asks (call.AwaitsIdent r callee cookie) known = still-asks whose second r (Some cookie) apart known
      asks (call.AwaitsReconnect r callee cookie) known = still-asks whose second r (Some cookie) apart known
      asks (call.Open r callee cookie) known = still-asks whose second r (Some cookie) apart known
      asks (call.AwaitsBanner called) known = tt
      asks (call.AwaitsHello called) known = tt
      asks (call.AwaitsChallenge callee p) known = tt
      asks (call.AwaitsDone callee answered) known = tt

-- incoming links stay as they are, where nothing is sealed under their keys as by an acceptor
pub still-incoming : (run : WholeRun) (us vs : Uses) (f : Grows us vs) (told next : Told) (longer : Longer told next) (given : List (List ℕ × Given)) (log : List Logged) (n : NodeName) (line : ℕ) (es : List SealEntry)
    (at : NodeName) (daemon : Name) (number : ℕ) → ((key : List ℕ) (name : Name) (tie : ℕ) → IsLinkKey vs key name tie → contents_by key is_acceptors es ≡ []) → (stage : IncomingStage)
    → IncomingGiven run us told given log at daemon number stage → IncomingGiven run vs next given (behind n line es log) at daemon number stage
still-incoming run us vs f told next longer given log n line es at daemon number none stage h =
    incoming-stays run us vs f told next longer given given log n line es at daemon number stage (quiet stage h) h
  where
    under-key : (s : Secured) (name : Name) → IsGiver us given log at daemon number s name → contents_by s.keys.key is_acceptors es ≡ []
    under-key s name k =
        none s.keys.key name k.tie (record { acceptor = at; number = number; service = daemon.kind; means = f.means s.keys.key (Connected at number name (AtDaemon daemon.kind k.tie)) k.means })

    quiet : (x : IncomingStage) → IncomingGiven run us told given log at daemon number x → QuietAt run us vs f told next longer given given log n line es at daemon number x
    quiet (acceptor.AwaitsSignature s owner) k = record { sealed = under-key s owner.ticket.name k.0; given_is = refl }
    quiet (acceptor.AwaitsIdent s owner) k = record { sealed = under-key s owner.ticket.name k.0; given_is = refl }
    quiet (acceptor.Open s served) k = record { sealed = under-key s k.0 k.1; given_is = refl }
    quiet acceptor.AwaitsBanner k = tt
    quiet acceptor.AwaitsHello k = tt
    quiet acceptor.AwaitsRequest k = tt
    quiet (acceptor.AwaitsProof awaited) k = tt

-- ---- a client's turn

module _ (run : WholeRun) (whole : List Logged) (us vs : Uses) (told : Told) (given : List (List ℕ × Given)) (log : List Logged) (J K : List Entry) (n : NodeName) (line : ℕ)
    (f : Grows us vs) (i : Inv run whole us log J) (h : AllGiven run us told given log J)
    (name : Name) (a : CallArrival) (W : ℕ → ℕ × Operation → Type 0) (stage : CallStage) (s : Secured) (before : Option ℕ) (keyed : KeyedStage stage s before)
    (k : IsKeyed us told log name a.link.number s before) (hears : Hears run told given name s (pending_of stage)) (row : CallRow) (turn : TurnHears W a stage s before row)
    (g : AreGranted run.leaked whole n line log row.seals) where
  -- the link has heard what was given, where what it waits for was asked for in this step
  pub call-heard : (next : Told) → ((link : Link CallStage) → row.link ≡ Some link → AsksOn told next link.stage) → (link : Link CallStage) → row.link ≡ Some link
      → CallHeard run next given name link.stage
  call-heard next asks link is =
      turn-heard run whole us told given log J n line i h.known name a W stage s before keyed k hears row turn g next asks (λ free. h.step s.keys.key name (raised k.nonce) k.is free) link is

  -- and each answer that it enters is true, in the journal before
  pub call-ends : (Contains run.leaked name → ⊥) → AllByRecursion (EndsSo (IsTrueEnd J k.is.service name a.own.mon_client.name (callee_of stage).daemon)) row.entries
  call-ends free = ends-true run whole us told given log J n line i h.known name a W stage s before keyed k hears row turn g free

  -- each was read now, and none like it was entered before
  pub call-reads : a.own.mon_client.name ≡ name → (Contains run.leaked name → ⊥) → AllByRecursion (EndsSo (ReadsAt us given s.keys.key s.keys.into.counter)) row.entries
  call-reads own free = ends-read run whole us told given log J n line i h.known name a W stage s before keyed k hears row turn g own free

  pub call-once : (reads : List (List ℕ × ℕ)) → AreRead run us given reads J → ReadsOn reads s → (x y : Answered) → (Contains run.leaked x.client → ⊥)
      → ReadsAt us given s.keys.key s.keys.into.counter x → Contains J (journal.Answered y) → x.client ≡ y.client → x.cookie ≡ y.cookie → x.tid ≡ y.tid → ⊥
  call-once reads all on x y free now was client cookie tid =
      not-before run us given reads s x y h.once free on now (all y was (subst (λ (m : Name). Contains run.leaked m → ⊥) client free)) client cookie tid

  -- where all that are entered were entered before, or are entered by the row, all of them are read
  pub call-read : (reads : List (List ℕ × ℕ)) → AreRead run us given reads J → a.own.mon_client.name ≡ name
      → ((x : Answered) → Contains K (journal.Answered x) → Contains J (journal.Answered x) ⊎ (x.client ≡ name) × Contains row.entries (journal.Answered x))
      → AreRead run vs given (reads ++ (s.keys.key, s.keys.into.counter) ∷ []) K
  call-read reads all own places x has free = by_place (places x has)
    where
      by_place : Contains J (journal.Answered x) ⊎ (x.client ≡ name) × Contains row.entries (journal.Answered x) → IsRead vs given (reads ++ (s.keys.key, s.keys.into.counter) ∷ []) x
      by_place (inl was) =
          subst (λ (l : List (List ℕ × Given)). IsRead vs l (reads ++ (s.keys.key, s.keys.into.counter) ∷ []) x) (append-nil given)
          (read-grows us vs given [] reads ((s.keys.key, s.keys.into.counter) ∷ []) x f (all x was free))
      by_place (inr (client, now)) =
          let at : ReadsAt us given s.keys.key s.keys.into.counter x =
          end-at (ReadsAt us given s.keys.key s.keys.into.counter) row.entries x (call-reads own (subst (λ (m : Name). Contains run.leaked m → ⊥) client free)) now in
          subst (λ (r : List (List ℕ × ℕ)). IsRead vs given r x) (append-nil (reads ++ (s.keys.key, s.keys.into.counter) ∷ []))
          (subst (λ (l : List (List ℕ × Given)). IsRead vs l ((reads ++ (s.keys.key, s.keys.into.counter) ∷ []) ++ []) x) (append-nil given)
          (read-grows us vs given [] (reads ++ (s.keys.key, s.keys.into.counter) ∷ []) [] x f
          (record { key = s.keys.key; number = s.keys.into.counter; at = at; read = Contains-push reads (s.keys.key, s.keys.into.counter) })))

-- ---- a client's turn

module _ (run : WholeRun) (whole : List Logged) (us : Uses) (told : Told) (given : List (List ℕ × Given)) (log : List Logged) (J : List Entry) (n : NodeName) (line : ℕ)
    (i : Inv run whole us log J) (t : AreTold run us told log J) (spelled : AreSpelled told) (h : AllGiven run us told given log J) (daemon : Name) (number : ℕ) (key : List ℕ) (name : Name) (tie : ℕ)
    (is : IsLinkKey us key name tie) (row : IncomingRow) (s : IncomingStep run whole us told given log J n line i t spelled h.known daemon number key name row)
    (new : (Contains run.leaked name → ⊥) → (x y : Handled) → row.entries ≡ journal.Handled x ∷ [] → IsServedIn J name x → WasServed J name y → y.cookie ≡ x.cookie → y.seq ≡ x.seq → ⊥) where
  -- where no operation that it handles was handled before for this entity, all that was given is known, with what it gives
  pub incoming-given : AllGiven run us told (given ++ gives_under key s.words) (behind n line row.seals log) (entered J row.entries)
  incoming-given = record {
    known = s.known;
    step = in-step-gives run us told given key name tie s.words i.one is s.step h.step;
    once = once-gives run us given log J i.one h.known key name tie is s.words anew h.once;
  }
    where
      anew : AnswersAnew run us given log J i.one h.known key name tie is s.words
      anew = record {
        first = λ p cookie instruction outcome at. (s.answers p cookie instruction outcome at).0;
        anew = λ p cookie instruction outcome at free y was same_cookie same_seq.
            let x = (s.answers p cookie instruction outcome at).1 free in
            new free x.0 y x.1 x.2 was (same_cookie ∙ sym x.3) (same_seq ∙ sym x.4);
      }

  -- ---- other links

  same-told : Longer told told
  same-told = record { more = []; is = sym (append-nil told.said) }

  -- of clients, with another key
  pub incoming-others : (at : NodeName) (other : Name) (second : ℕ) (st : IncomingStage) → IncomingApart key st → IncomingGiven run us told given log at other second st
      → IncomingGiven run us told (given ++ gives_under key s.words) (behind n line row.seals log) at other second st
  incoming-others at other second st apart known =
      incoming-stays run us us (stays us) told told same-told given (given ++ gives_under key s.words) log n line row.seals at other second st (quiet st apart) known
    where
      quiet : (x : IncomingStage) → IncomingApart key x → QuietAt run us us (stays us) told told same-told given (given ++ gives_under key s.words) log n line row.seals at other second x
      quiet (acceptor.AwaitsSignature r owner) a = record { sealed = s.others r.keys.key a; given_is = given-other r.keys.key key given s.words a }
      quiet (acceptor.AwaitsIdent r owner) a = record { sealed = s.others r.keys.key a; given_is = given-other r.keys.key key given s.words a }
      quiet (acceptor.Open r served) a = record { sealed = s.others r.keys.key a; given_is = given-other r.keys.key key given s.words a }
      quiet acceptor.AwaitsBanner a = tt
      quiet acceptor.AwaitsHello a = tt
      quiet acceptor.AwaitsRequest a = tt
      quiet (acceptor.AwaitsProof awaited) a = tt

abbrev number_of : Use → ℕ
number_of (Connected at number name tie) = number
number_of _ = 0

-- links of different numbers have different keys
pub givers-apart : (us : Uses) (one : (k : List ℕ) (u v : Use) → Means us k u → Means us k v → u ≡ v) (given : List (List ℕ × Given)) (log : List Logged) (n : NodeName) (daemon : Name) (number second : ℕ)
    (s r : Secured) (name other : Name) → IsGiver us given log n daemon number s name → IsGiver us given log n daemon second r other → (number ≡ second → ⊥) → bytes_eq s.keys.key r.keys.key ≡ false
givers-apart us one given log n daemon number second s r name other a b apart =
    false_from_ne_true (bytes_eq s.keys.key r.keys.key) (λ same.
    let there : Means us r.keys.key (Connected n number name (AtDaemon daemon.kind a.tie)) =
    subst (λ (k : List ℕ). Means us k (Connected n number name (AtDaemon daemon.kind a.tie))) ((bytes_eq-Decides s.keys.key r.keys.key).0 same) a.means in
    apart (ap number_of (one r.keys.key (Connected n number name (AtDaemon daemon.kind a.tie)) (Connected n second other (AtDaemon daemon.kind b.tie)) there b.means)))
