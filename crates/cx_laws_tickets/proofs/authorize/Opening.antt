-- An incoming link that opens has no authority, whatever link had its number before; and a frame of which something opened comes before a session.
use Rattle.std.proofs.Common.{◌≡◌, ◌<◌, ◌==◌, ◌⊎◌, inl, inr, ℕ, Bool, true, false, cond, List, [], ◌∷◌, ◌++◌, filter, length, Option, Some, None, refl, sym, subst, arith, ltb-true, eq-eqb}
use Rattle.std.specs.Prelude.{Contains, nat_le, nat_lt, not, if◌then◌else◌}
use Rattle.std.proofs.lemmas.List.Elements.{Contains-push_cases}
use Rattle.std.specs.List.{AllByRecursion}
use Rattle.cx_frame.specs.declared.frame.Frame.{Frame}
use Rattle.cx_journal.specs.declared.entries.Entry.{Entry}
use Rattle.cx_journal.specs.declared.entries.Entry.TheVariants as entry
use Rattle.cx_journal.specs.declared.outcomes.Reason.TheVariants.{LinksFull}
use Rattle.cx_laws_tickets.specs.authorize.Admission.{StageHas}
use Rattle.cx_laws_keys.proofs.login.Hearing.{HearsPart, hears-more, next-heard}
use Rattle.cx_laws_keys.proofs.keys.Lists.{all-append, all-map}
use Rattle.cx_laws_keys.specs.cx_rules.specs.Acceptor.{AwaitsBanner, AwaitsIdent}
use Rattle.cx_laws_keys.specs.cx_rules.specs.Fronts.{Front, NotYet, Broken, Next, secure_next}
use Rattle.cx_laws_keys.specs.cx_rules.specs.Greetings.{own_banner}
use Rattle.cx_laws_keys.specs.cx_rules.specs.Holdings.{MonClient}
use Rattle.cx_laws_keys.specs.cx_rules.specs.Inputs.{Turn}
use Rattle.cx_laws_keys.specs.cx_rules.specs.Links.{Link, link_of, put_link, without_link}
use Rattle.cx_laws_keys.specs.cx_rules.specs.Rows.{Arrival, Outcome, Turned, Waits, Refuses, Handles, arrival, at, carried_out, goes_on, new_link, refuses, turns}
use Rattle.cx_laws_keys.specs.cx_rules.specs.Secured.{Keys, Secured, under}
use Rattle.cx_laws_keys.specs.cx_steps.specs.declared.seals.SealEntry.{SealEntry}
use Rattle.cx_run.proofs.Always.{Always, always-book, always-map, always-unit, always-weaker}
use Rattle.cx_run.specs.cx_authorize.specs.Daemon.{Authority}
use Rattle.cx_run.specs.cx_desk.specs.Handlers.{Handlers}
use Rattle.cx_run.specs.cx_rules_session.specs.DaemonRule.{AsAcceptor, Daemon, DaemonNode, DaemonStage, DaemonState, book_after, book_reply, daemon_step, hosts, me, moved_to, opens_incoming, turn, turned_at, with_mon_client}
use Rattle.cx_run.specs.cx_rules_session.specs.IncomingLinks.{IncomingArrival, IncomingStage}
use Rattle.cx_run.specs.cx_rules_session.specs.Hosting.{Deciding, Hosted, decided_by, incoming_turned, hosted_behind, on_ident}
use Rattle.cx_run.specs.cx_rules_session.specs.Kinds.{arrival_in, turn_of_kind}

-- ---- links that open

-- the link has another number, or no authority
abbrev pub HasNoneAt : ℕ → Link DaemonStage → Type 0
HasNoneAt number l = l.number ≡ number → (x : Authority) → StageHas l.stage x → ⊥

-- what a filter leaves passes its test
all-passing : {X : Type 0} (test : X → Bool) (xs : List X) → AllByRecursion (λ (x : X). test x ≡ true) (filter test xs)
all-passing test [] = tt
all-passing {X} test (x ∷ xs) = by_test (test x) refl (all-passing test xs)
  where
    by_test : (t : Bool) → test x ≡ t → AllByRecursion (λ (x : X). test x ≡ true) (filter test xs)
        → AllByRecursion (λ (x : X). test x ≡ true) (cond t (x ∷ filter test xs) (filter test xs))
    by_test true is rest = (is, rest)
    by_test false is rest = rest

module _ (d : DaemonNode) (reading : ℕ) (draw : List ℕ) (number : ℕ) where
  abbrev links : List (Link DaemonStage)
  links = d.links

  other : (l : Link DaemonStage) → not (l.number == number) ≡ true → HasNoneAt number l
  other l is same x has = differ (l.number == number) (eq-eqb l.number number same) is
    where
      differ : (t : Bool) → t ≡ true → not t ≡ true → ⊥
      differ true e none = cc
      differ false e none = cc

  put-bare : (link : Link DaemonStage) → link.number ≡ number → ((x : Authority) → StageHas link.stage x → ⊥) → AllByRecursion (HasNoneAt number) (put_link link links)
  put-bare link same bare =
      all-append (HasNoneAt number) (filter (λ (l : Link DaemonStage). nat_lt l.number link.number) links) _
      (all-map (λ (l : Link DaemonStage). nat_lt l.number link.number ≡ true) (HasNoneAt number)
      (λ l is at x has. let below : l.number < link.number = ltb-true l.number link.number is in absurd (omega arith))
      (filter (λ (l : Link DaemonStage). nat_lt l.number link.number) links) (all-passing (λ (l : Link DaemonStage). nat_lt l.number link.number) links)) (
        λ at x has. bare x has,
        all-map (λ (l : Link DaemonStage). nat_lt link.number l.number ≡ true) (HasNoneAt number)
            (λ l is at x has. let above : link.number < l.number = ltb-true link.number l.number is in absurd (omega arith))
            (filter (λ (l : Link DaemonStage). nat_lt link.number l.number) links) (all-passing (λ (l : Link DaemonStage). nat_lt link.number l.number) links),
      )

  -- behind the opening of an incoming link, no link of its number has an authority
  pub opens-bare : AllByRecursion (HasNoneAt number) (opens_incoming d reading draw number).state.links
  opens-bare = by_test (nat_le 1024 (length links))
    where
      by_test : (full : Bool) → AllByRecursion (HasNoneAt number) (carried_out d number false
          (if full then refuses (arrival (me d.own) d.own (new_link number (AsAcceptor AwaitsBanner)) reading draw) LinksFull []
          else goes_on (arrival (me d.own) d.own (new_link number (AsAcceptor AwaitsBanner)) reading draw) (AsAcceptor AwaitsBanner) own_banner [])).state.links
      by_test true =
          all-map (λ (l : Link DaemonStage). not (l.number == number) ≡ true) (HasNoneAt number) other (without_link number links)
          (all-passing (λ (l : Link DaemonStage). not (l.number == number)) links)
      by_test false = put-bare (record { number = number; received = []; taken = 0; sent = [] ++ own_banner; stage = AsAcceptor AwaitsBanner }) refl (λ x has. has)

-- ---- what opens before a session

-- what a row logs begins with a part that opened under these keys
abbrev HearsTurned : Keys → Turned MonClient IncomingStage → Type 0
HearsTurned keys Waits = Unit {0}
HearsTurned keys (Refuses why opened) = Unit {0}
HearsTurned keys (Handles row) = HearsPart keys row.seals

behind-hears : (keys : Keys) (opened : List SealEntry) (hosted : Hosted) → HearsPart keys opened → HearsTurned keys (hosted_behind opened hosted).turned
behind-hears keys opened hosted heard = by_turned hosted.turned
  where
    by_turned : (turned : Turned MonClient IncomingStage) → HearsTurned keys (hosted_behind opened (record { turned = turned; moved = hosted.moved })).turned
    by_turned Waits = tt
    by_turned (Refuses why broken) = tt
    by_turned (Handles row) = hears-more keys opened row.seals heard

ident-hears : (handlers : Handlers) (a : IncomingArrival) (s : Secured) (owner : Authority) → Always (λ (h : Hosted). HearsTurned s.keys h.turned) (incoming_turned handlers a (AwaitsIdent s owner))
ident-hears handlers a s owner = by_next (secure_next s.keys a.link) refl
  where
    by_next : (next : Front (Link IncomingStage × Frame × Keys)) → secure_next s.keys a.link ≡ next
        → Always (λ (h : Hosted). HearsTurned s.keys h.turned) (decided_by (λ (link, f, keys). on_ident (at a link) (under s keys) owner f) next)
    by_next NotYet is = tt
    by_next (Broken why opened) is = tt
    by_next (Next (link, f, keys) opened) is =
        let rule : Deciding Hosted = on_ident (at a link) (under s keys) owner f in
        always-map (λ (h : Hosted). HearsTurned s.keys h.turned) (hosted_behind opened) rule
        (always-weaker (λ (h : Hosted). Unit {0}) (λ (h : Hosted). HearsTurned s.keys (hosted_behind opened h).turned)
        (λ h any. behind-hears s.keys opened h (next-heard s.keys a.link (link, f, keys) opened is)) rule (always-unit rule))

-- the entry admits or resumes a session
abbrev pub IsOfSession : Entry → Type 0
IsOfSession (entry.Admitted s) = Unit {0}
IsOfSession (entry.Resumed s) = Unit {0}
IsOfSession _ = ⊥

-- where a step enters one, what it logs begins with a part that opened under these keys
abbrev pub HearsOutcome : Keys → Outcome DaemonNode → Type 0
HearsOutcome keys o = (e : Entry) → Contains o.out.entries e → IsOfSession e → HearsPart keys o.out.seals

module _ (handlers : Handlers) (d : DaemonNode) (reading : ℕ) (draw : List ℕ) (link : Link DaemonStage) (s : Secured) (owner : Authority) where
  abbrev a : Arrival Daemon DaemonStage
  a = arrival (me d.own) d.own link reading draw

  moved-hears : (number : ℕ) (moved : Option ℕ) (o : Outcome DaemonNode) → HearsOutcome s.keys o → HearsOutcome s.keys (moved_to number moved o)
  moved-hears number None o h = h
  moved-hears number (Some session) o h = h

  hosted-hears : (h : Hosted) → HearsTurned s.keys h.turned → HearsOutcome s.keys (hosts d a h)
  hosted-hears h heard = moved-hears link.number h.moved (turns d a (turn_of_kind (with_mon_client d.own) AsAcceptor h.turned)) (by_turned h.turned heard)
    where
      none : (e : Entry) → Contains {X = Entry} [] e → ⊥
      none e (k, below, is) = omega arith

      refused : (r e : Entry) → (IsOfSession r → ⊥) → Contains (r ∷ []) e → IsOfSession e → ⊥
      refused r e other has of = by_place (Contains-push_cases [] r e has)
        where
          by_place : Contains {X = Entry} [] e ⊎ (r ≡ e) → ⊥
          by_place (inl empty) = none e empty
          by_place (inr is) = other (subst IsOfSession (sym is) of)

      by_turned : (t : Turned MonClient IncomingStage) → HearsTurned s.keys t → HearsOutcome s.keys (turns d (arrival (me d.own) d.own link reading draw) (turn_of_kind (with_mon_client d.own) AsAcceptor t))
      by_turned Waits heard e has of = absurd (none e has)
      by_turned (Refuses why opened) heard e has of = absurd (refused _ e (λ never. never) has of)
      by_turned (Handles row) heard e has of = heard

  -- a turn of an incoming link that waits for an ident
  pub turn-hears : Always (HearsOutcome s.keys) (turned_at handlers d a (AsAcceptor (AwaitsIdent s owner)))
  turn-hears =
      let rule : Deciding Hosted = incoming_turned handlers (arrival_in a d.own.mon_client (AwaitsIdent s owner)) (AwaitsIdent s owner) in
      always-map (HearsOutcome s.keys) (hosts d a) rule
      (always-weaker (λ (h : Hosted). HearsTurned s.keys h.turned) (λ (h : Hosted). HearsOutcome s.keys (hosts d a h)) hosted-hears rule
      (ident-hears handlers (arrival_in a d.own.mon_client (AwaitsIdent s owner)) s owner))

-- so of the step of a daemon at that turn
pub step-hears : (handlers : Handlers) (d : DaemonState) (number reading : ℕ) (draw : List ℕ) (link : Link DaemonStage) (s : Secured) (owner : Authority)
    → link_of number d.node.links ≡ Some link → link.stage ≡ AsAcceptor (AwaitsIdent s owner) → (e : Entry)
    → Contains (daemon_step handlers d (Turn number) reading draw).out.entries e → IsOfSession e → HearsPart s.keys (daemon_step handlers d (Turn number) reading draw).out.seals
step-hears handlers d number reading draw link s owner found is =
    always-book (HearsOutcome s.keys) book_reply book_after d.book (turn handlers d.node reading draw (link_of number d.node.links))
    (subst (λ (l : Option (Link DaemonStage)). Always (HearsOutcome s.keys) (turn handlers d.node reading draw l)) (sym found)
    (subst (λ (stage : DaemonStage). Always (HearsOutcome s.keys) (turned_at handlers d.node (arrival (me d.node.own) d.node.own link reading draw) stage)) (sym is)
    (turn-hears handlers d.node reading draw link s owner)))
