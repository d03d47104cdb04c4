-- A step of a daemon on an incoming link behind authentication: all that is known stays known behind it, of that link, of the daemon's others, and of clients.
use Rattle.std.proofs.Common.{◌≡◌, ℕ, List, [], ◌∷◌, ◌++◌, Option, Some, None, inl, inr, ◌⊎◌, refl, sym, ap, ◌∙◌, subst, arith, append-nil}
use Rattle.std.proofs.lemmas.List.Elements.{Contains-append_left, Contains-push, Contains-push_cases}
use Rattle.std.specs.Prelude.{Contains}
use Rattle.std.specs.List.{AllByRecursion}
use Rattle.cx_base.specs.Names.{Name}
use Rattle.cx_base.specs.declared.nodes.NodeName.{NodeName}
use Rattle.cx_journal.specs.declared.entries.Admitted.{Admitted}
use Rattle.cx_journal.specs.declared.entries.Entry.{Entry}
use Rattle.cx_journal.specs.declared.entries.Entry.TheVariants as journal
use Rattle.cx_laws_keys.proofs.keys.Journal.{entered}
use Rattle.cx_laws_keys.proofs.keys.Known.{Inv, Within}
use Rattle.cx_laws_keys.proofs.keys.Lists.{all-map}
use Rattle.cx_laws_keys.proofs.keys.Premises.{behind}
use Rattle.cx_laws_keys.proofs.keys.Uses.{Grows, Means, Use, Uses, WholeRun, stays}
use Rattle.cx_laws_keys.proofs.series.Contents.{contents-behind, contents_in}
use Rattle.cx_laws_keys.specs.cx_rules.specs.Acceptor as acceptor
use Rattle.cx_laws_keys.specs.cx_rules.specs.Links.{Link}
use Rattle.cx_laws_keys.specs.cx_rules.specs.Secured.{Secured}
use Rattle.cx_laws_tickets.specs.cx_run.specs.cx_rules_session.specs.ClientRule.{ClientStage, ToDaemon, ToMonitor, WholeClientNode}
use Rattle.cx_laws_tickets.specs.cx_run.specs.cx_rules_session.specs.IncomingLinks.{IncomingRow, IncomingStage, Served}
use Rattle.cx_laws_tickets.specs.cx_run.specs.cx_rules_session.specs.Presenter as call
use Rattle.cx_laws_tickets.specs.cx_run.specs.cx_rules_session.specs.Presenter.{CallStage}
use Rattle.cx_steps.specs.declared.seals.Logged.{Logged}
use Rattle.cx_steps.specs.declared.seals.SealEntry.{SealEntry}
use Rattle.cx_laws_links.proofs.links.IncomingJoins.{JoinsNone, incoming-joins, told-joins}
use Rattle.cx_laws_links.proofs.links.Since.{Goes, since, since-entered}
use Rattle.cx_laws_links.proofs.links.IncomingTakes.{EntryHeard, HearsRow, IsOfNoConnector, OpenedFor, ServedFor, StandsIn, joins_behind, joins_by, told_by}
use Rattle.cx_laws_links.proofs.links.Known.{AreTold, CallTold, ClientTold, IncomingTold, IsIncoming, IsKeyed, IsShown, IsSpoken, StageTold, Told}
use Rattle.cx_laws_links.proofs.links.Lifting.{link-grows, told-stays, words-grow}
use Rattle.cx_laws_links.proofs.links.Others.{link-one}
use Rattle.cx_laws_links.proofs.links.Speaking.{cons-cases}
use Rattle.cx_laws_links.proofs.links.Spoken.{Spoken, is_connectors, said_under}
use Rattle.cx_laws_links.proofs.links.Written.{IsLinkKey}

-- ---- the journal

-- all that is known stays so in a longer journal that admits no session
told-later : (run : WholeRun) (us : Uses) (told : Told) (log : List Logged) (J K : List Entry) → Within J K
    → ((session : Admitted) → Contains K (journal.Admitted session) → Contains J (journal.Admitted session)) → AreTold run us told log J → AreTold run us told log K
told-later run us told log J K w none t = record {
  spoken = λ key x has. let h : IsSpoken us told log J key = t.spoken key x has in
      record {
        name = h.name;
        tie = h.tie;
        is = h.is;
        written = h.written;
        words = words-grow J K h.name w None (said_under key told.said) h.words;
        frames = h.frames;
        bound = h.bound;
      };
  silent = t.silent;
  cookies = t.cookies;
  once = t.once;
  nonces = t.nonces;
  joined = λ session has. t.joined session (none session has);
  asked = t.asked;
}

longer : (J : List Entry) (e : Entry) → Within J (J ++ e ∷ [])
longer J e = record { has = λ x has. Contains-append_left J (e ∷ []) x has }

module _ (run : WholeRun) (us : Uses) (log : List Logged) (before : List Entry) (key : List ℕ) (name : Name) (tie : ℕ) (is : IsLinkKey us key name tie) where
  told-quiet : (told : Told) (J : List Entry) (e : Entry) → ((a : Admitted) → e ≡ journal.Admitted a → ⊥) → AreTold run us told log J → AreTold run us told log (J ++ e ∷ [])
  told-quiet told J e other t = told-later run us told log J (J ++ e ∷ []) (longer J e) (λ session has. by_place session (Contains-push_cases J e (journal.Admitted session) has)) t
    where
      by_place : (session : Admitted) → Contains J (journal.Admitted session) ⊎ (e ≡ journal.Admitted session) → Contains J (journal.Admitted session)
      by_place session (inl was) = was
      by_place session (inr same) = absurd (other session same)

  -- by what is entered
  told-entry : (told : Told) (J : List Entry) (e : Entry) → EntryHeard run told.said before key name e → AreTold run us told log J
      → AreTold run us (record told { joins = joins_by told.joins key e }) log (J ++ e ∷ [])
  told-entry told J (journal.Admitted a) h t =
      told-joins run us told log J t a key tie (subst (λ (m : Name). IsLinkKey us key m tie) (sym h.0) is) (λ free. h.1 (subst (λ (m : Name). Contains run.leaked m → ⊥) h.0 free))
  told-entry told J (journal.Resumed x) h t = told-quiet told J (journal.Resumed x) (λ a same. absurd cc) t
  told-entry told J (journal.Handled x) h t = told-quiet told J (journal.Handled x) (λ a same. absurd cc) t
  told-entry told J (journal.Saved x) h t = told-quiet told J (journal.Saved x) (λ a same. absurd cc) t
  told-entry told J (journal.Issued x) h t = told-quiet told J (journal.Issued x) (λ a same. absurd cc) t
  told-entry told J (journal.Fetched x) h t = told-quiet told J (journal.Fetched x) (λ a same. absurd cc) t
  told-entry told J (journal.Looked x) h t = told-quiet told J (journal.Looked x) (λ a same. absurd cc) t
  told-entry told J (journal.Sent x) h t = told-quiet told J (journal.Sent x) (λ a same. absurd cc) t
  told-entry told J (journal.Answered x) h t = told-quiet told J (journal.Answered x) (λ a same. absurd cc) t
  told-entry told J (journal.Refused x) h t = told-quiet told J (journal.Refused x) (λ a same. absurd cc) t
  told-entry told J (journal.Ended x) h t = told-quiet told J (journal.Ended x) (λ a same. absurd cc) t
  told-entry told J (journal.Restarted x) h t = told-quiet told J (journal.Restarted x) (λ a same. absurd cc) t
  told-entry told J (journal.Broken x) h t = told-quiet told J (journal.Broken x) (λ a same. absurd cc) t
  told-entry told J (journal.Leaked x) h t = told-quiet told J (journal.Leaked x) (λ a same. absurd cc) t

  told-entries : (told : Told) (J js : List Entry) → AllByRecursion (EntryHeard run told.said before key name) js → AreTold run us told log J
      → AreTold run us (told_by told key js) log (entered J js)
  told-entries told J [] h t = t
  told-entries told J (e ∷ js) h t = told-entries (record told { joins = joins_by told.joins key e }) (J ++ e ∷ []) js h.1 (told-entry told J e h.0 t)

-- ---- a row

-- behind a row that heard an entity on its link all is known, with the session that it admitted
pub row-told : (run : WholeRun) (whole : List Logged) (us : Uses) (told : Told) (log : List Logged) (J : List Entry) (n : NodeName) (line : ℕ) (daemon : Name) (key : List ℕ) (name : Name) (tie : ℕ)
    (Given : Type 0) (row : IncomingRow) → Inv run whole us log J → IsLinkKey us key name tie → AreTold run us told log J → HearsRow run us told J n daemon key name Given row → Given
    → AreTold run us (told_by told key row.entries) (behind n line row.seals log) (entered J row.entries)
row-told run whole us told log J n line daemon key name tie Given row i is t h given =
    told-entries run us (behind n line row.seals log) J key name tie is told J row.entries (h.entries given)
    (told-stays run whole us us told log J J n line row.seals i.one (stays us) (record { has = λ e has. has }) i (λ other whose tied link. h.seals other) (λ session has. has) t)

-- a session that a link serves stays entered
pub entered-has : (J js : List Entry) (e : Entry) → StandsIn J js e → Contains (entered J js) e
entered-has J [] e (inl was) = was
entered-has J [] e (inr none) = absurd (omega (arith, none.1))
entered-has J (x ∷ js) e (inl was) = entered-has (J ++ x ∷ []) js e (inl (Contains-append_left J (x ∷ []) e was))
entered-has J (x ∷ js) e (inr now) = entered-has (J ++ x ∷ []) js e (by_place (cons-cases x js e now))
  where
    by_place : (x ≡ e) ⊎ Contains js e → StandsIn (J ++ x ∷ []) js e
    by_place (inl here) = inl (subst (λ (y : Entry). Contains (J ++ x ∷ []) y) here (Contains-push J x))
    by_place (inr there) = inr there

pub opened-stays : (J js : List Entry) (daemon name : Name) (served : Served) → AllByRecursion (Goes daemon) js → OpenedFor J js daemon name served → OpenedFor (entered J js) [] daemon name served
opened-stays J js daemon name served goes h = record {
  session = h.session;
  opens = by_kind h.opens;
  daemon_is = h.daemon_is;
  entity = h.entity;
  number = h.number;
  epoch = h.epoch;
  cookie = h.cookie;
}
  where
    later : (e : Entry) → StandsIn (since daemon J) js e → StandsIn (since daemon (entered J js)) [] e
    later e has = inl (subst (λ (l : List Entry). Contains l e) (sym (since-entered daemon js J goes)) (entered-has (since daemon J) js e has))

    by_kind : StandsIn (since daemon J) js (journal.Admitted h.session) ⊎ StandsIn (since daemon J) js (journal.Resumed h.session)
        → StandsIn (since daemon (entered J js)) [] (journal.Admitted h.session) ⊎ StandsIn (since daemon (entered J js)) [] (journal.Resumed h.session)
    by_kind (inl has) = inl (later (journal.Admitted h.session) has)
    by_kind (inr has) = inr (later (journal.Resumed h.session) has)

-- what is known of a link that is open: it serves a session of the entity whose key it has
abbrev pub ServesOpen : (run : WholeRun) (us : Uses) (told : Told) (J : List Entry) (daemon : Name) (n : NodeName) (number : ℕ) (stage : IncomingStage) → IncomingTold run us told n number stage → Type 0
ServesOpen run us told J daemon n number (acceptor.Open s served) h = OpenedFor J [] daemon h.0 served
ServesOpen run us told J daemon n number _ h = Unit {0}

-- what a row of a client enters says nothing of a restart
pub heard-goes : (run : WholeRun) (said : List (List ℕ × Spoken)) (J : List Entry) (key : List ℕ) (name daemon : Name) (e : Entry) → EntryHeard run said J key name e → Goes daemon e
heard-goes run said J key name daemon (journal.Restarted x) h = absurd h
heard-goes run said J key name daemon (journal.Admitted x) h = refl
heard-goes run said J key name daemon (journal.Resumed x) h = refl
heard-goes run said J key name daemon (journal.Handled x) h = refl
heard-goes run said J key name daemon (journal.Saved x) h = refl
heard-goes run said J key name daemon (journal.Issued x) h = refl
heard-goes run said J key name daemon (journal.Fetched x) h = refl
heard-goes run said J key name daemon (journal.Looked x) h = refl
heard-goes run said J key name daemon (journal.Sent x) h = refl
heard-goes run said J key name daemon (journal.Answered x) h = refl
heard-goes run said J key name daemon (journal.Refused x) h = refl
heard-goes run said J key name daemon (journal.Ended x) h = refl
heard-goes run said J key name daemon (journal.Broken x) h = refl
heard-goes run said J key name daemon (journal.Leaked x) h = refl

-- so it is of the link that goes on behind a row
pub stage-serves : (run : WholeRun) (us : Uses) (told : Told) (J js : List Entry) (daemon : Name) (n : NodeName) (number : ℕ) (key : List ℕ) (name : Name) (tie : ℕ)
    → ((k : List ℕ) (u v : Use) → Means us k u → Means us k v → u ≡ v) → IsLinkKey us key name tie → AllByRecursion (Goes daemon) js → (stage : IncomingStage) → (h : IncomingTold run us told n number stage) → ServedFor J js daemon key name stage
    → ServesOpen run us told (entered J js) daemon n number stage h
stage-serves run us told J js daemon n number key name tie one is goes (acceptor.Open s served) h serves =
    let g : IsIncoming run us told n number s h.0 = h.1 in
    let link : IsLinkKey us s.keys.key h.0 g.tie = record { acceptor = n; number = number; service = g.service; means = g.means } in
    let there : IsLinkKey us key h.0 g.tie = subst (λ (k : List ℕ). IsLinkKey us k h.0 g.tie) serves.0 link in
    let same : name ≡ h.0 = (link-one us one key name h.0 tie g.tie is there).0 in
    opened-stays J js daemon h.0 served goes (subst (λ (m : Name). OpenedFor J js daemon m served) same serves.1)
stage-serves run us told J js daemon n number key name tie one is goes acceptor.AwaitsBanner h serves = tt
stage-serves run us told J js daemon n number key name tie one is goes acceptor.AwaitsHello h serves = tt
stage-serves run us told J js daemon n number key name tie one is goes acceptor.AwaitsRequest h serves = tt
stage-serves run us told J js daemon n number key name tie one is goes (acceptor.AwaitsProof awaited) h serves = tt
stage-serves run us told J js daemon n number key name tie one is goes (acceptor.AwaitsSignature s owner) h serves = tt
stage-serves run us told J js daemon n number key name tie one is goes (acceptor.AwaitsIdent s owner) h serves = tt

opened-within : (J K : List Entry) (daemon name : Name) (served : Served) → Within (since daemon J) (since daemon K) → OpenedFor J [] daemon name served → OpenedFor K [] daemon name served
opened-within J K daemon name served w h = record {
  session = h.session;
  opens = by_kind h.opens;
  daemon_is = h.daemon_is;
  entity = h.entity;
  number = h.number;
  epoch = h.epoch;
  cookie = h.cookie;
}
  where
    stood : (e : Entry) → StandsIn (since daemon J) [] e → StandsIn (since daemon K) [] e
    stood e (inl was) = inl (w.has e was)
    stood e (inr none) = inr none

    by_kind : StandsIn (since daemon J) [] (journal.Admitted h.session) ⊎ StandsIn (since daemon J) [] (journal.Resumed h.session)
        → StandsIn (since daemon K) [] (journal.Admitted h.session) ⊎ StandsIn (since daemon K) [] (journal.Resumed h.session)
    by_kind (inl has) = inl (stood (journal.Admitted h.session) has)
    by_kind (inr has) = inr (stood (journal.Resumed h.session) has)

-- and of each other link, behind any step
pub serves-stays : (run : WholeRun) (us vs : Uses) (told next : Told) (J K : List Entry) (daemon : Name) (n : NodeName) (number : ℕ) → ((k : List ℕ) (u v : Use) → Means vs k u → Means vs k v → u ≡ v)
    → Grows us vs → Within (since daemon J) (since daemon K) → (stage : IncomingStage) → (h : IncomingTold run us told n number stage) → (g : IncomingTold run vs next n number stage)
    → ServesOpen run us told J daemon n number stage h → ServesOpen run vs next K daemon n number stage g
serves-stays run us vs told next J K daemon n number one f w (acceptor.Open s served) h g serves =
    let a : IsIncoming run us told n number s h.0 = h.1 in
    let b : IsIncoming run vs next n number s g.0 = g.1 in
    let before : IsLinkKey us s.keys.key h.0 a.tie = record { acceptor = n; number = number; service = a.service; means = a.means } in
    let later : IsLinkKey vs s.keys.key g.0 b.tie = record { acceptor = n; number = number; service = b.service; means = b.means } in
    let same : h.0 ≡ g.0 = (link-one vs one s.keys.key h.0 g.0 a.tie b.tie (link-grows us vs s.keys.key h.0 a.tie f before) later).0 in
    opened-within J K daemon g.0 served w (subst (λ (m : Name). OpenedFor J [] daemon m served) same serves)
serves-stays run us vs told next J K daemon n number one f w acceptor.AwaitsBanner h g serves = tt
serves-stays run us vs told next J K daemon n number one f w acceptor.AwaitsHello h g serves = tt
serves-stays run us vs told next J K daemon n number one f w acceptor.AwaitsRequest h g serves = tt
serves-stays run us vs told next J K daemon n number one f w (acceptor.AwaitsProof awaited) h g serves = tt
serves-stays run us vs told next J K daemon n number one f w (acceptor.AwaitsSignature s owner) h g serves = tt
serves-stays run us vs told next J K daemon n number one f w (acceptor.AwaitsIdent s owner) h g serves = tt

-- ---- other links

-- a link that waits has another key
abbrev pub IsApartFrom : List ℕ → IncomingStage → Type 0
IsApartFrom key (acceptor.AwaitsSignature s owner) = s.keys.key ≡ key → ⊥
IsApartFrom key (acceptor.AwaitsIdent s owner) = s.keys.key ≡ key → ⊥
IsApartFrom key _ = Unit {0}

-- to another key nothing is joined
joined-before : (key other : List ℕ) → (other ≡ key → ⊥) → (cookie : ℕ) (es : List Entry) (joins : List (List ℕ × ℕ)) → Contains (joins_behind joins key es) (other, cookie)
    → Contains joins (other, cookie)
joined-before key other apart cookie [] joins has = has
joined-before key other apart cookie (e ∷ es) joins has = by_entry e (joined-before key other apart cookie es (joins_by joins key e) has)
  where
    by_place : (a : Admitted) → Contains joins (other, cookie) ⊎ (let p : List ℕ × ℕ = (key, a.cookie) in let q : List ℕ × ℕ = (other, cookie) in p ≡ q) → Contains joins (other, cookie)
    by_place a (inl was) = was
    by_place a (inr same) = absurd (apart (ap (λ (p : List ℕ × ℕ). p.0) (sym same)))

    by_entry : (x : Entry) → Contains (joins_by joins key x) (other, cookie) → Contains joins (other, cookie)
    by_entry (journal.Admitted a) h = by_place a (Contains-push_cases joins (key, a.cookie) (other, cookie) h)
    by_entry (journal.Resumed x) h = h
    by_entry (journal.Handled x) h = h
    by_entry (journal.Saved x) h = h
    by_entry (journal.Issued x) h = h
    by_entry (journal.Fetched x) h = h
    by_entry (journal.Looked x) h = h
    by_entry (journal.Sent x) h = h
    by_entry (journal.Answered x) h = h
    by_entry (journal.Refused x) h = h
    by_entry (journal.Ended x) h = h
    by_entry (journal.Restarted x) h = h
    by_entry (journal.Broken x) h = h
    by_entry (journal.Leaked x) h = h

-- what is known of another link to a client stays so
pub others-told : (run : WholeRun) (us : Uses) (told : Told) (n : NodeName) (number : ℕ) (key : List ℕ) (es : List Entry) (stage : IncomingStage) → IsApartFrom key stage
    → IncomingTold run us told n number stage → IncomingTold run us (told_by told key es) n number stage
others-told run us told n number key es stage apart h = incoming-joins run us told n number (joins_behind told.joins key es) stage (none stage apart) h
  where
    none : (x : IncomingStage) → IsApartFrom key x → JoinsNone told.joins (joins_behind told.joins key es) x
    none (acceptor.AwaitsSignature s owner) apart = λ cookie has. joined-before key s.keys.key apart cookie es told.joins has
    none (acceptor.AwaitsIdent s owner) apart = λ cookie has. joined-before key s.keys.key apart cookie es told.joins has
    none (acceptor.Open s served) apart = tt
    none acceptor.AwaitsBanner apart = tt
    none acceptor.AwaitsHello apart = tt
    none acceptor.AwaitsRequest apart = tt
    none (acceptor.AwaitsProof awaited) apart = tt

-- and of each client's link
module _ (us : Uses) (told : Told) (joins : List (List ℕ × ℕ)) (log : List Logged) (n : NodeName) (line : ℕ) (es : List SealEntry) (quiet : IsOfNoConnector es) where
  abbrev next : Told
  next = record told { joins = joins }

  abbrev later : List Logged
  later = behind n line es log

  keyed-later : (name : Name) (number : ℕ) (s : Secured) (cookie : Option ℕ) → IsKeyed us told log name number s cookie → IsKeyed us next later name number s cookie
  keyed-later name number s cookie h = record {
    nonce = h.nonce;
    low = h.low;
    is = h.is;
    stands = h.stands;
    parts = record {
      sealed = contents-behind s.keys.key is_connectors n line es log ∙ ap (λ (l : List (List ℕ)). contents_in s.keys.key is_connectors log ++ l) (quiet s.keys.key)
          ∙ append-nil (contents_in s.keys.key is_connectors log) ∙ h.parts.sealed;
      counter = h.parts.counter;
    };
    connector = h.connector;
    four = h.four;
    fits = h.fits;
    session = h.session;
  }

  shown-later : (name : Name) (number nonce : ℕ) → IsShown told name number nonce → IsShown next name number nonce
  shown-later name number nonce h = record { low = h.low; stands = h.stands }

  call-later : (name : Name) (number : ℕ) (stage : CallStage) → CallTold us told log name number stage → CallTold us next later name number stage
  call-later name number (call.AwaitsBanner called) h = tt
  call-later name number (call.AwaitsHello called) h = tt
  call-later name number (call.AwaitsChallenge callee presented) h = shown-later name number presented.nonce h
  call-later name number (call.AwaitsDone callee answered) h = shown-later name number answered.nonce h
  call-later name number (call.AwaitsSignature s callee) h = keyed-later name number s None h
  call-later name number (call.AwaitsIdent s callee cookie) h = keyed-later name number s (Some cookie) h
  call-later name number (call.AwaitsReconnect s callee cookie) h = keyed-later name number s (Some cookie) h
  call-later name number (call.Open s callee cookie) h = keyed-later name number s (Some cookie) h

  pub client-later : (c : WholeClientNode) → ClientTold us told log c → ClientTold us next later c
  client-later c h = record {
    links = all-map (λ (link : Link ClientStage). StageTold us told log c.own link.number link.stage) (λ (link : Link ClientStage). StageTold us next later c.own link.number link.stage)
        (λ link known. by_stage link.number link.stage known) c.links h.links;
  }
    where
      by_stage : (number : ℕ) (stage : ClientStage) → StageTold us told log c.own number stage → StageTold us next later c.own number stage
      by_stage number (ToMonitor stage) known = tt
      by_stage number (ToDaemon stage) known = (call-later c.own.mon_client.name number stage known.0, known.1)
