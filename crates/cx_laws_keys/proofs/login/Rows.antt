-- What rows of any node keep, and steps of any node.
use Rattle.std.proofs.Common.{◌≡◌, ℕ, ◌+◌, ◌-◌, ◌^◌, Bool, true, false, cond, List, [], ◌∷◌, ◌++◌, length, filter, Option, Some, None, Result, Ok, Err, inl, inr, refl, sym, subst, ◌⊎◌}
use Rattle.std.specs.Prelude.{nat_lt, not, ◌==◌, if◌then◌else◌}
use Rattle.std.specs.List.{AllByRecursion}
use Rattle.cx_base.specs.Names.{Name}
use Rattle.cx_rules.specs.cx_frame.specs.Frames.{total}
use Rattle.cx_rules.specs.cx_frame.specs.declared.frame.Frame.{Frame}
use Rattle.cx_laws_keys.specs.cx_journal.specs.Behind.{EachBehind}
use Rattle.cx_laws_keys.specs.cx_journal.specs.declared.entries.Entry.{Entry}
use Rattle.cx_laws_keys.specs.cx_journal.specs.declared.entries.Entry.TheVariants as journal
use Rattle.cx_laws_keys.specs.cx_journal.specs.declared.faults.BytesFault.{BytesFault}
use Rattle.cx_laws_keys.specs.cx_journal.specs.declared.faults.BytesFault.TheVariants.{CounterSpent, TooLong}
use Rattle.cx_base.specs.declared.nodes.NodeName.{NodeName}
use Rattle.cx_base.specs.declared.nodes.NodeName.TheVariants as node
use Rattle.cx_laws_keys.specs.cx_journal.specs.declared.outcomes.Reason.{Reason}
use Rattle.cx_laws_keys.specs.cx_journal.specs.declared.premises.KeyKind.TheVariants as kind
use Rattle.cx_rules.specs.Fronts.{opened_parts}
use Rattle.cx_rules.specs.Links.{Link, link_of, put_link, without_link}
use Rattle.cx_rules.specs.Rows.{Arrival, Node, Outcome, Row, Turned, Waits, Refuses, Handles, carried_out, goes_on, idles, links_behind, plain_sent, refuses, refuses_bytes, secure_sent, sends_plain, sends_secure, turns, with_opened}
use Rattle.cx_rules.specs.Secured.{Keys, SealedFrame, Secured, part_seals, plain_frame, sealed_under, secure_frame, signing}
use Rattle.cx_rules.specs.cx_secure.specs.Parts.{nonce_at}
use Rattle.cx_rules.specs.cx_secure.specs.Plains.{plains}
use Rattle.cx_rules.specs.cx_stream.specs.Openings.{front_contents}
use Rattle.cx_rules.specs.cx_stream.specs.SecureStreams.{Ahead}
use Rattle.cx_rules.specs.cx_steps.specs.declared.seals.Logged.{Logged}
use Rattle.cx_rules.specs.cx_steps.specs.declared.seals.SealEntry.{SealEntry}
use Rattle.cx_rules.specs.cx_steps.specs.declared.seals.SealEntry.TheVariants as entry
use Rattle.cx_laws_keys.proofs.keys.Journal.{After, EntryLaw, login-law, IsLoginEntry, IsNotIssued, IsOfLogin, Reached, entered, own-other}
use Rattle.cx_laws_keys.proofs.keys.Known.{Inv, IsAcceptorOr, IsAllowed, IsOfAcceptor}
use Rattle.cx_laws_keys.proofs.keys.Lists.{all-append, all-map, all-of-map}
use Rattle.cx_laws_keys.proofs.keys.Premises.{AreGranted, behind}
use Rattle.cx_laws_keys.proofs.keys.Steps.{inv-all, inv-entered}
use Rattle.cx_laws_keys.proofs.keys.Uses.{Connected, Grows, Login, Means, Uses, stays, WholeRun}
use Rattle.cx_laws_keys.proofs.login.Facts.{IsSameWay, MaySeal}
use Rattle.cx_laws_keys.specs.cx_journal.specs.GidOnce.{GivesGidOnceBy}

-- ---- entries of the log

pub all-filter : {X : Type 0} (P : X → Type 0) (test : X → Bool) (xs : List X) → AllByRecursion P xs → AllByRecursion P (filter test xs)
all-filter P test [] h = tt
all-filter {X} P test (x ∷ xs) h = by_test (test x) (all-filter P test xs h.1)
  where
    by_test : (t : Bool) → AllByRecursion P (filter test xs) → AllByRecursion P (cond t (x ∷ filter test xs) (filter test xs))
    by_test true rest = (h.0, rest)
    by_test false rest = rest

module _ (us : Uses) (J : List Entry) (n : NodeName) where
  abbrev pub Allowed : List SealEntry → Type 0
  Allowed es = AllByRecursion (IsAllowed us J n) es

  -- a part begins as its nonce does
  part-begins : (fixed : List ℕ) (counter : ℕ) (text : List ℕ) → IsOfAcceptor fixed → IsOfAcceptor (nonce_at fixed counter ++ text)
  unfolding nonce_at
  part-begins [] counter text h = absurd h
  part-begins (b ∷ bytes) counter text h = h

  parts-allowed : (keys : Keys) (counter : ℕ) (texts : List (List ℕ)) → MaySeal us n keys → Allowed (part_seals keys.key keys.out.fixed counter texts)
  parts-allowed keys counter [] h = tt
  parts-allowed keys counter (text ∷ texts) h = (
    (Connected h.connected.acceptor h.connected.number h.name h.connected.tie, h.connected.means, tt, by_own h.own),
    parts-allowed keys (counter + 1) texts h,
  )
    where
      by_own : (n ≡ node.Entity h.name) ⊎ IsOfAcceptor keys.out.fixed × IsAcceptorOr n h.connected.acceptor
          → (n ≡ node.Entity h.name) ⊎ IsOfAcceptor (nonce_at keys.out.fixed counter ++ text) × IsAcceptorOr n h.connected.acceptor
      by_own (inl own) = inl own
      by_own (inr (sends, acceptor)) = inr (part-begins keys.out.fixed counter text sends, acceptor)

  -- the frame, if it was sealed, was so under its keys
  abbrev pub FrameOk : Keys → Result SealedFrame BytesFault → Type 0
  FrameOk keys (Ok s) = Allowed s.seals × IsSameWay s.keys keys
  FrameOk keys (Err why) = Unit {0}

  pub frame-ok : (keys : Keys) (f : Frame) → MaySeal us n keys → FrameOk keys (secure_frame keys f)
  frame-ok keys f h = by_test (nat_lt (2 ^ 64 - 1) (keys.out.counter + length (plains f))) (nat_lt 1048576 (total f))
    where
      by_test : (spent long : Bool) → FrameOk keys (if spent then Err CounterSpent else if long then Err TooLong else Ok (sealed_under keys f))
      by_test true long = tt
      by_test false true = tt
      by_test false false = (parts-allowed keys keys.out.counter (plains f) h, record { key = refl; out = refl; into = refl })

  pub signing-ok : (name : Name) (keys : Keys) (session received : List ℕ) (r : Result SealedFrame BytesFault) → Means us session (Login name) → FrameOk keys r
      → FrameOk keys (signing session received r)
  signing-ok name keys session received (Ok s) h r = (((Login name, h, tt), r.0), r.1)
  signing-ok name keys session received (Err why) h r = tt

  pub opened-allowed : (ahead : Ahead) → Allowed (opened_parts ahead)
  opened-allowed ahead =
      all-of-map (IsAllowed us J n) (λ (content : List ℕ). entry.Opened (record { key = ahead.key; kind = kind.Connection; content = content })) (front_contents ahead) (λ content. tt)

-- ---- entries of the journal

-- a login enters it, and it issues nothing
abbrev pub IsQuietEntry : Entry → Type 0
IsQuietEntry e = IsLoginEntry e × IsNotIssued e

-- what issues nothing gives no global id
pub none-given : (J : List Entry) (e : Entry) → IsNotIssued e → GivesGidOnceBy J e
none-given J (journal.Issued ticket) h = absurd h
none-given J (journal.Saved x) h = tt
none-given J (journal.Fetched x) h = tt
none-given J (journal.Looked x) h = tt
none-given J (journal.Admitted x) h = tt
none-given J (journal.Resumed x) h = tt
none-given J (journal.Sent x) h = tt
none-given J (journal.Handled x) h = tt
none-given J (journal.Answered x) h = tt
none-given J (journal.Refused x) h = tt
none-given J (journal.Ended x) h = tt
none-given J (journal.Restarted x) h = tt
none-given J (journal.Broken x) h = tt
none-given J (journal.Leaked x) h = tt

quiet-law : (run : WholeRun) (J : List Entry) (e : Entry) → IsQuietEntry e → EntryLaw run J e
quiet-law run J e h = login-law run J e h.0 (none-given J e h.1)

module _ (run : WholeRun) (whole : List Logged) (n : NodeName) (line : ℕ) where
  -- behind entries that issue nothing, where what is said of a node stays so
  pub quiet-entries : (us : Uses) (log : List Logged) (J : List Entry) (js : List Entry) (Good : Uses → List Entry → Type 0)
      → ((K : List Entry) (e : Entry) → IsNotIssued e → Good us K → Good us (K ++ e ∷ []))
      → AllByRecursion IsQuietEntry js → Inv run whole us log J → Good us J
      → Inv run whole us log (entered J js) × EachBehind (EntryLaw run) J js × Good us (entered J js)
  quiet-entries us log J [] Good keeps q i good = (i, tt, good)
  quiet-entries us log J (e ∷ js) Good keeps q i good =
      let more = quiet-entries us log (J ++ e ∷ []) js Good keeps q.1 (inv-entered run whole us log J e i (own-other J e q.0.1 i.own)) (keeps J e q.0.1 good) in
      (more.0, (quiet-law run J e q.0, more.1), more.2)

  -- the same behind what was reached in the log
  pub after-quiet : (us : Uses) (log : List Logged) (J : List Entry) (es : List SealEntry) (js : List Entry) (F : Uses → Type 0) (Good : Uses → List Entry → Type 0)
      → ((vs : Uses) (K : List Entry) (e : Entry) → IsNotIssued e → Good vs K → Good vs (K ++ e ∷ []))
      → AllByRecursion IsQuietEntry js → (r : Reached run whole n line us log J es F) → Good r.uses J → After run whole n line us log J es js Good
  after-quiet us log J es js F Good keeps q r good =
      let all = quiet-entries r.uses (behind n line es log) J js Good (keeps r.uses) q r.inv good in
      record { uses = r.uses; grows = r.grows; inv = all.0; laws = all.1; good = all.2 }

  abbrev pub reached-allowed : (us : Uses) (log : List Logged) (J : List Entry) (es : List SealEntry) (F : Uses → Type 0) → Inv run whole us log J
      → Allowed us J n es → F us → Reached run whole n line us log J es F
  reached-allowed us log J es F i a f = record { uses = us; grows = stays us; inv = inv-all run whole us log J n line es i a; facts = f }

-- ---- rows

-- what is said of a node's own and of the stages of its links, and that both stay so
pub record Saying (Own Stage : Type 0) : Type 1 where
  pub Owns : Uses → List Entry → Own → Type 0
  pub Stands : Uses → Stage → Type 0
  pub own_enters : (us : Uses) (J : List Entry) (own : Own) (e : Entry) → IsNotIssued e → Owns us J own → Owns us (J ++ e ∷ []) own
  pub stage_grows : (us vs : Uses) (stage : Stage) → Grows us vs → Stands us stage → Stands vs stage

module _ {Own Stage : Type 0} (say : Saying Own Stage) where
  abbrev pub LinkOk : Uses → Option (Link Stage) → Type 0
  LinkOk us (Some link) = say.Stands us link.stage
  LinkOk us None = Unit {0}

  abbrev pub LinksOk : Uses → List (Link Stage) → Type 0
  LinksOk us links = AllByRecursion (λ (l : Link Stage). say.Stands us l.stage) links

  pub record RowOk (row : Row Own Stage) (us : Uses) (J : List Entry) : Type 0 where
    pub own : say.Owns us J row.own
    pub link : LinkOk us row.link

  pub record NodeOk (node : Node Own Stage) (us : Uses) (J : List Entry) : Type 0 where
    pub own : say.Owns us J node.own
    pub links : LinksOk us node.links

  -- a row that draws no key and issues nothing
  pub record Simple (us : Uses) (J : List Entry) (n : NodeName) (row : Row Own Stage) : Type 0 where
    pub seals : Allowed us J n row.seals
    pub entries : AllByRecursion IsQuietEntry row.entries
    pub own : say.Owns us J row.own
    pub link : LinkOk us row.link

  module _ (us : Uses) (J : List Entry) (n : NodeName) where
    pub simple-goes_on : (a : Arrival Own Stage) (stage : Stage) (bytes : List ℕ) (seals : List SealEntry) → say.Owns us J a.own → say.Stands us stage
        → Allowed us J n seals → Simple us J n (goes_on a stage bytes seals)
    simple-goes_on a stage bytes seals own st al = record { seals = al; entries = tt; own = own; link = st }

    pub simple-refuses : (a : Arrival Own Stage) (why : Reason) (seals : List SealEntry) → IsOfLogin why → say.Owns us J a.own → Allowed us J n seals
        → Simple us J n (refuses a why seals)
    simple-refuses a why seals is own al = record { seals = al; entries = ((is, tt), tt); own = own; link = tt }

    pub simple-refuses_bytes : (a : Arrival Own Stage) (why : BytesFault) (seals : List SealEntry) → say.Owns us J a.own → Allowed us J n seals
        → Simple us J n (refuses_bytes a why seals)
    simple-refuses_bytes a why seals own al = record { seals = al; entries = ((tt, tt), tt); own = own; link = tt }

    pub simple-plain : (a : Arrival Own Stage) (stage : Stage) (seals : List SealEntry) (f : Frame) → say.Owns us J a.own → say.Stands us stage
        → Allowed us J n seals → Simple us J n (sends_plain a stage seals f)
    simple-plain a stage seals f own st al = by_sent (plain_frame f)
      where
        by_sent : (r : Result (List ℕ) BytesFault) → Simple us J n (plain_sent a stage seals r)
        by_sent (Ok bytes) = simple-goes_on a stage bytes seals own st al
        by_sent (Err why) = simple-refuses_bytes a why seals own al

    pub simple-secure : (a : Arrival Own Stage) (s : Secured) (stage : Secured → Stage) (seals : List SealEntry) (f : Frame) → say.Owns us J a.own
        → MaySeal us n s.keys → ((t : Secured) → IsSameWay t.keys s.keys → say.Stands us (stage t)) → Allowed us J n seals
        → Simple us J n (sends_secure a s stage seals f)
    simple-secure a s stage seals f own has st al = by_sent (secure_frame s.keys f) (frame-ok us J n s.keys f has)
      where
        by_sent : (r : Result SealedFrame BytesFault) → FrameOk us J n s.keys r → Simple us J n (secure_sent a s stage seals r)
        by_sent (Ok sealed) h = simple-goes_on a (stage (record s { keys = sealed.keys })) sealed.bytes (seals ++ sealed.seals) own (st (record s { keys = sealed.keys }) h.1)
            (all-append (IsAllowed us J n) seals sealed.seals al h.0)
        by_sent (Err why) h = simple-refuses_bytes a why seals own al

    pub simple-with_opened : (opened : List SealEntry) (row : Row Own Stage) → Allowed us J n opened → Simple us J n row → Simple us J n (with_opened opened row)
    simple-with_opened opened row al h =
        record { seals = all-append (IsAllowed us J n) opened row.seals al h.seals; entries = h.entries; own = h.own; link = h.link }

  -- ---- links

  pub all-put : (us : Uses) (link : Link Stage) (links : List (Link Stage)) → LinksOk us links → say.Stands us link.stage → LinksOk us (put_link link links)
  all-put us link links h st =
      all-append (λ (l : Link Stage). say.Stands us l.stage) (filter (λ (l : Link Stage). nat_lt l.number link.number) links) _
      (all-filter (λ (l : Link Stage). say.Stands us l.stage) (λ (l : Link Stage). nat_lt l.number link.number) links h)
      (st, all-filter (λ (l : Link Stage). say.Stands us l.stage) (λ (l : Link Stage). nat_lt link.number l.number) links h)

  pub all-without : (us : Uses) (number : ℕ) (links : List (Link Stage)) → LinksOk us links → LinksOk us (without_link number links)
  all-without us number links h = all-filter (λ (l : Link Stage). say.Stands us l.stage) (λ (l : Link Stage). not (l.number == number)) links h

  pub all-behind : (us : Uses) (links : List (Link Stage)) (number : ℕ) (bytes : List ℕ) (link : Option (Link Stage)) → LinksOk us links → LinkOk us link
      → LinksOk us (links_behind links number bytes link)
  all-behind us links number bytes (Some link) h st = all-put us (record link { sent = link.sent ++ bytes }) links h st
  all-behind us links number bytes None h st = all-without us number links h

  pub links-grow : (us vs : Uses) (links : List (Link Stage)) → Grows us vs → LinksOk us links → LinksOk vs links
  links-grow us vs links f h =
      all-map (λ (l : Link Stage). say.Stands us l.stage) (λ (l : Link Stage). say.Stands vs l.stage) (λ l st. say.stage_grows us vs l.stage f st) links h

  -- the link of a number, where there is one
  pub found-link : (us : Uses) (number : ℕ) (links : List (Link Stage)) → LinksOk us links → LinkOk us (link_of number links)
  found-link us number [] h = tt
  found-link us number (l ∷ links) h = by_test (l.number == number) (found-link us number links h.1)
    where
      by_test : (t : Bool) → LinkOk us (link_of number links) → LinkOk us (cond t (Some l) (link_of number links))
      by_test true rest = h.0
      by_test false rest = rest

  -- ---- steps

  module _ (run : WholeRun) (whole : List Logged) (n : NodeName) (line : ℕ) (us : Uses) (log : List Logged) (J : List Entry) where
    abbrev pub AfterRow : Row Own Stage → Type 0
    AfterRow row = After run whole n line us log J row.seals row.entries (RowOk row)

    abbrev pub AfterStep : Outcome (Node Own Stage) → Type 0
    AfterStep o = After run whole n line us log J o.out.seals o.out.entries (NodeOk o.state)

    row-entered : (row : Row Own Stage) (vs : Uses) (K : List Entry) (e : Entry) → IsNotIssued e → RowOk row vs K → RowOk row vs (K ++ e ∷ [])
    row-entered row vs K e other h = record { own = say.own_enters vs K row.own e other h.own; link = h.link }

    pub after-simple : (row : Row Own Stage) → Inv run whole us log J → Simple us J n row → AfterRow row
    after-simple row i s =
        after-quiet run whole n line us log J row.seals row.entries (λ vs. Unit {0}) (RowOk row) (row-entered row) s.entries
        (reached-allowed run whole n line us log J row.seals (λ vs. Unit {0}) i s.seals tt) (record { own = s.own; link = s.link })

    -- a row that refuses, behind what was reached
    pub after-refuses : (a : Arrival Own Stage) (row : Row Own Stage) (F : Uses → Type 0) → AllByRecursion IsQuietEntry row.entries → row.link ≡ None
        → (r : Reached run whole n line us log J row.seals F) → say.Owns r.uses J row.own → AfterRow row
    after-refuses a row F q none r own =
        after-quiet run whole n line us log J row.seals row.entries F (RowOk row) (row-entered row) q r
        (record { own = own; link = subst (λ (l : Option (Link Stage)). LinkOk r.uses l) (sym none) tt })

    pub carried : (node : Node Own Stage) (number : ℕ) (turned : Bool) (row : Row Own Stage) → LinksOk us node.links → AfterRow row
        → AfterStep (carried_out node number turned row)
    carried node number turned row links r = record {
      uses = r.uses;
      grows = r.grows;
      inv = r.inv;
      laws = r.laws;
      good = record { own = r.good.own; links = all-behind r.uses node.links number row.sends row.link (links-grow us r.uses node.links r.grows links) r.good.link };
    }

    -- nothing is logged and nothing entered
    pub idle : (node : Node Own Stage) → Inv run whole us log J → NodeOk node us J → AfterStep (idles node)
    idle node i ok = record { uses = us; grows = stays us; inv = i; laws = tt; good = ok }

    -- what is due of a turn
    abbrev pub TurnOk : Arrival Own Stage → Turned Own Stage → Type 0
    TurnOk a Waits = Unit {0}
    TurnOk a (Refuses why opened) = Allowed us J n opened
    TurnOk a (Handles row) = AreGranted run.leaked whole n line log row.seals → AfterRow row

    pub turned-ok : (node : Node Own Stage) (a : Arrival Own Stage) (turned : Turned Own Stage) → Inv run whole us log J → NodeOk node us J
        → say.Owns us J a.own → TurnOk a turned → AreGranted run.leaked whole n line log (turns node a turned).out.seals → AfterStep (turns node a turned)
    turned-ok node a Waits i ok own t g = idle node i ok
    turned-ok node a (Refuses why opened) i ok own t g =
        carried node a.link.number false (refuses_bytes a why opened) ok.links (after-simple (refuses_bytes a why opened) i (simple-refuses_bytes us J n a why opened own t))
    turned-ok node a (Handles row) i ok own t g = carried node a.link.number true row ok.links (t g)
