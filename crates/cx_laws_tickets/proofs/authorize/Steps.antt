-- What each step of a daemon keeps, whatever comes.
use Rattle.std.proofs.Common.{◌≡◌, ◌⊎◌, ◌==◌, ℕ, Bool, true, false, cond, List, [], ◌∷◌, ◌++◌, filter, Option, Some, None, Result, Ok, Err, inl, inr, refl, sym, ◌∙◌, subst, arith}
use Rattle.std.specs.Prelude.{find, nat_lt, not, Contains}
use Rattle.std.specs.List.{AllByRecursion}
use Rattle.std.specs.Option.{option_map}
use Rattle.std.proofs.lemmas.List.Elements.{Contains-append_cases, Contains-push_cases}
use Rattle.cx_journal.specs.declared.entries.Entry.{Entry}
use Rattle.cx_journal.specs.declared.entries.Entry.TheVariants as entry
use Rattle.cx_journal.specs.declared.entries.Refused.{Refused}
use Rattle.cx_journal.specs.declared.outcomes.Reason.{Reason}
use Rattle.cx_journal.specs.declared.outcomes.Reason.TheVariants as reason
use Rattle.cx_laws_tickets.proofs.authorize.IncomingLinks.{AuthorizedRow, EntryToldIn, GainsWith, ReasonTold}
use Rattle.cx_laws_tickets.proofs.authorize.Hosting.{AuthorizedHosted, incoming-authorized}
use Rattle.cx_laws_tickets.specs.authorize.Admission.{Authorizes, EntryTold, GetsAuthority, IncomingHas, HadAuthority, IsAuthorizedAt, IsToldAt, IsTurnOf, LinkAuthorized, RefusalTold, StageHas, StepAuthorizes}
use Rattle.cx_laws_keys.proofs.login.NoTickets.{IsOfMonClient, RowOfMonClient, none-turned}
use Rattle.cx_laws_keys.proofs.login.Proving.{RowOf}
use Rattle.cx_laws_keys.proofs.login.Rows.{all-filter}
use Rattle.cx_laws_keys.proofs.keys.Journal.{IsOfLogin}
use Rattle.cx_laws_keys.proofs.keys.Lists.{all-append, all-map}
use Rattle.cx_laws_keys.specs.cx_rules.specs.Acceptor.{AwaitsBanner}
use Rattle.cx_laws_keys.specs.cx_rules.specs.Connector as connector
use Rattle.cx_laws_keys.specs.cx_rules.specs.Holdings.{MonClient}
use Rattle.cx_laws_keys.specs.cx_rules.specs.Inputs.{Input, Turn}
use Rattle.cx_laws_keys.specs.cx_rules.specs.Links.{Link, link_of, put_link, without_link}
use Rattle.cx_laws_keys.specs.cx_rules.specs.Requests.{Requests, sealed_request, sends_request}
use Rattle.cx_laws_keys.specs.cx_rules.specs.Rows.{Arrival, Outcome, Turned, Waits, Refuses, Handles, arrival, carried_out, lifted, links_behind, turns}
use Rattle.cx_laws_keys.specs.cx_rules.specs.Secured.{SealedFrame, Secured}
use Rattle.cx_laws_keys.specs.cx_rules.specs.declared.requests.Want.TheVariants as want
use Rattle.cx_laws_keys.specs.cx_steps.specs.Onto.{SomeOf}
use Rattle.cx_laws_keys.specs.cx_steps.specs.declared.seals.SealEntry.{SealEntry}
use Rattle.cx_laws_keys.specs.cx_wire.specs.declared.bodies.Request.TheVariants as asked
use Rattle.cx_run.proofs.Always.{always-book, always-weaker}
use Rattle.cx_run.proofs.DaemonOutcomes.{IsNew, IsRest, RestEntry, RestsAndTurns, came, incoming_rule, rested-all, rests-keep}
use Rattle.cx_run.specs.cx_rules.proofs.MonClientWalk.{IsNoTicket, MadeOrNoTicket, request-no_ticket}
use Rattle.cx_run.proofs.Turning.{found-number}
use Rattle.cx_run.specs.cx_authorize.specs.Daemon.{Authority}
use Rattle.cx_run.specs.cx_desk.specs.Handlers.{Handlers}
use Rattle.cx_run.specs.cx_rules_session.specs.DaemonRule.{AsAcceptor, AsConnector, Daemon, DaemonNode, DaemonStage, DaemonState, book_after, book_reply, daemon_rule, hosts, is_older, looks, me, moved_to, open_to_ask, restarted, shut_where, with_mon_client}
use Rattle.cx_run.specs.cx_rules_session.specs.IncomingLinks.{IncomingRow, IncomingStage}
use Rattle.cx_run.specs.cx_rules_session.specs.Hosting.{Hosted}
use Rattle.cx_run.specs.cx_rules_session.specs.Kinds.{arrival_in, of_kind, turn_of_kind}

-- ---- lists

-- what is found is one of them
some-found : {X : Type 0} (P : X → Type 0) (test : X → Bool) (xs : List X) (x : X) → find test xs ≡ Some x → P x → SomeOf P xs
some-found P test [] x e p = absurd cc
some-found {X} P test (y ∷ ys) x e p = by_test (test y) e (λ found. some-found P test ys x found p)
  where
    by_test : (t : Bool) → cond t (Some y) (find test ys) ≡ Some x → (find test ys ≡ Some x → SomeOf P ys) → SomeOf P (y ∷ ys)
    by_test true found rest = let same : y ≡ x = cc in inl (subst P (sym same) p)
    by_test false found rest = inr (rest found)

-- what is so of one of them
some-of : {X : Type 0} (P : X → Type 0) (xs : List X) (x : X) → Contains xs x → P x → SomeOf P xs
some-of P [] x has p = absurd (omega (arith, has.1))
some-of {X} P (y ∷ ys) x has p = by_place (Contains-append_cases (y ∷ []) ys x has) (λ there. some-of P ys x there p)
  where
    by_here : Contains {X = X} [] x ⊎ (y ≡ x) → P y
    by_here (inl none) = absurd (omega (arith, none.1))
    by_here (inr same) = subst P (sym same) p

    by_place : Contains (y ∷ []) x ⊎ Contains ys x → (Contains ys x → SomeOf P ys) → SomeOf P (y ∷ ys)
    by_place (inl here) rest = inl (by_here (Contains-push_cases [] y x here))
    by_place (inr there) rest = inr (rest there)

-- ---- a step

module _ (d : DaemonState) (input : Input) (reading : ℕ) where
  abbrev Fits : Outcome DaemonNode → Type 0
  Fits o = Authorizes d input reading o.out.entries o.out.seals o.state.links

  abbrev links : List (Link DaemonStage)
  links = d.node.links

  -- each link has what it had
  all-had : (es : List Entry) (ss : List SealEntry) (xs : List (Link DaemonStage)) → ((P : Link DaemonStage → Type 0) → SomeOf P xs → SomeOf P links)
      → AllByRecursion (LinkAuthorized d input reading es ss) xs
  all-had es ss [] f = tt
  all-had es ss (l ∷ xs) f =
      (λ x has. inl (f (λ (k : Link DaemonStage). (k.number ≡ l.number) × StageHas k.stage x) (inl (refl, has))), all-had es ss xs (λ P s. f P (inr s)))

  had : (es : List Entry) (ss : List SealEntry) → AllByRecursion (LinkAuthorized d input reading es ss) links
  had es ss = all-had es ss links (λ P s. s)

  without-fits : (es : List Entry) (ss : List SealEntry) (number : ℕ) → AllByRecursion (LinkAuthorized d input reading es ss) (without_link number links)
  without-fits es ss number = all-filter (LinkAuthorized d input reading es ss) (λ (l : Link DaemonStage). not (l.number == number)) links (had es ss)

  put-fits : (es : List Entry) (ss : List SealEntry) (link : Link DaemonStage) → LinkAuthorized d input reading es ss link
      → AllByRecursion (LinkAuthorized d input reading es ss) (put_link link links)
  put-fits es ss link h =
      all-append (LinkAuthorized d input reading es ss) (filter (λ (l : Link DaemonStage). nat_lt l.number link.number) links) _
      (all-filter (LinkAuthorized d input reading es ss) (λ (l : Link DaemonStage). nat_lt l.number link.number) links (had es ss))
      (h, all-filter (LinkAuthorized d input reading es ss) (λ (l : Link DaemonStage). nat_lt link.number l.number) links (had es ss))

  -- some links are shut
  shut-fits : (is_shut : Link DaemonStage → Bool) (o : Outcome DaemonNode) → Fits o → Fits (shut_where is_shut o)
  shut-fits is_shut o h = record {
    authorized = all-filter (LinkAuthorized d input reading o.out.entries o.out.seals) (λ (l : Link DaemonStage). not (is_shut l)) o.state.links h.authorized;
    told = h.told;
  }

  moved-fits : (number : ℕ) (moved : Option ℕ) (o : Outcome DaemonNode) → Fits o → Fits (moved_to number moved o)
  moved-fits number None o h = h
  moved-fits number (Some session) o h = shut-fits (is_older number session) o h

  -- ---- a turn of an incoming link

  module _ (number : ℕ) (turn_is : input ≡ Turn number) (link : Link DaemonStage) (found : link_of number links ≡ Some link) where
    numbered : link.number ≡ number
    numbered = found-number number links link found

    module _ (stage : IncomingStage) (stage_is : link.stage ≡ AsAcceptor stage) where
      turn_of : IsTurnOf d input number stage
      turn_of = record { turn = turn_is; link = link; found = found; stage_is = stage_is }

      reason-told : (es : List Entry) (ss : List SealEntry) (r : Refused) (why : Reason) → ReasonTold d.node.own.mon_client (me d.node.own) link.number reading es ss r why
          → RefusalTold d input reading es ss r why
      reason-told es ss r (reason.Ticket why blob) h = record {
        number = number;
        stage = stage;
        turn = turn_of;
        told_at = subst (λ (n : ℕ). IsToldAt d.node.own.mon_client (me d.node.own) n reading es ss r why blob) numbered h;
      }
      reason-told es ss r _ h = tt

      entry-told : (es : List Entry) (ss : List SealEntry) (e : Entry) → EntryToldIn d.node.own.mon_client (me d.node.own) link.number reading stage es ss e → EntryTold d input reading es ss e
      entry-told es ss (entry.Admitted s) h = record { number = number; stage = stage; turn = turn_of; owned = h }
      entry-told es ss (entry.Resumed s) h = record { number = number; stage = stage; turn = turn_of; owned = h }
      entry-told es ss (entry.Refused r) h = reason-told es ss r r.reason h
      entry-told es ss (entry.Issued ticket) h = absurd h
      entry-told es ss (entry.Looked look) h = h
      entry-told es ss _ h = tt

      -- what the link had
      had-it : (n : ℕ) (x : Authority) → n ≡ link.number → IncomingHas stage x → HadAuthority d n x
      had-it n x same has =
          some-found (λ (k : Link DaemonStage). (k.number ≡ n) × StageHas k.stage x) (λ (l : Link DaemonStage). l.number == number) links link found
          (sym same, subst (λ (s : DaemonStage). StageHas s x) (sym stage_is) has)

      gets-it : (n : ℕ) (x : Authority) (es : List Entry) (ss : List SealEntry) → n ≡ link.number → IsAuthorizedAt d.node.own.mon_client link.number reading stage x es ss
          → GetsAuthority d input n reading x es ss
      gets-it n x es ss same h =
          subst (λ (k : ℕ). GetsAuthority d input k reading x es ss) (sym (same ∙ numbered)) (record {
            stage = stage;
            turn = turn_of;
            authorized = subst (λ (k : ℕ). IsAuthorizedAt d.node.own.mon_client k reading stage x es ss) numbered h;
          })

      row-links : (row : IncomingRow) (l : Option (Link IncomingStage)) → GainsWith d.node.own.mon_client link.number reading stage row.entries row.seals l
          → AllByRecursion (LinkAuthorized d input reading row.entries row.seals) (links_behind links link.number row.sends (option_map (of_kind AsAcceptor) l))
      row-links row None h = without-fits row.entries row.seals link.number
      row-links row (Some l) h = put-fits row.entries row.seals (record (of_kind AsAcceptor l) { sent = l.sent ++ row.sends }) (λ x has. by_gain x (h.1 x has))
        where
          by_gain : (x : Authority) → IncomingHas stage x ⊎ IsAuthorizedAt d.node.own.mon_client link.number reading stage x row.entries row.seals
              → HadAuthority d l.number x ⊎ GetsAuthority d input l.number reading x row.entries row.seals
          by_gain x (inl before) = inl (had-it l.number x h.0 before)
          by_gain x (inr now) = inr (gets-it l.number x row.entries row.seals h.0 now)

      hosted-fits : (draw : List ℕ) (hosted : Hosted) → AuthorizedHosted d.node.own.mon_client (me d.node.own) link.number reading stage hosted
          → Fits (hosts d.node (arrival (me d.node.own) d.node.own link reading draw) hosted)
      hosted-fits draw hosted h =
          moved-fits link.number hosted.moved (turns d.node a (turn_of_kind (with_mon_client d.node.own) AsAcceptor hosted.turned)) (by_turned hosted.turned h)
        where
          a : Arrival Daemon DaemonStage
          a = arrival (me d.node.own) d.node.own link reading draw

          by_turned : (turned : Turned MonClient IncomingStage) → RowOf (AuthorizedRow d.node.own.mon_client (me d.node.own) link.number reading stage) turned
              → Fits (turns d.node (arrival (me d.node.own) d.node.own link reading draw) (turn_of_kind (with_mon_client d.node.own) AsAcceptor turned))
          by_turned Waits h = record { authorized = had [] []; told = tt }
          by_turned (Refuses why opened) h = record { authorized = without-fits _ opened link.number; told = (tt, tt) }
          by_turned (Handles row) h = record {
            authorized = row-links row row.link h.link;
            told = all-map (EntryToldIn d.node.own.mon_client (me d.node.own) link.number reading stage row.entries row.seals) (EntryTold d input reading row.entries row.seals) (entry-told row.entries row.seals)
                row.entries h.entries;
          }

    -- ---- a turn of its own link

    login-told : (es : List Entry) (ss : List SealEntry) (r : Refused) (why : Reason) → IsOfLogin why → RefusalTold d input reading es ss r why
    login-told es ss r (reason.Ticket why blob) h = absurd h
    login-told es ss r _ h = tt

    mon_client-told : (es : List Entry) (ss : List SealEntry) (e : Entry) → IsOfMonClient e → EntryTold d input reading es ss e
    mon_client-told es ss (entry.Refused r) h = login-told es ss r r.reason h
    mon_client-told es ss (entry.Admitted x) h = absurd h
    mon_client-told es ss (entry.Resumed x) h = absurd h
    mon_client-told es ss (entry.Issued x) h = absurd h
    mon_client-told es ss (entry.Looked x) h = absurd h
    mon_client-told es ss _ h = tt

    own-links : (es : List Entry) (ss : List SealEntry) (bytes : List ℕ) (l : Option (Link connector.Stage))
        → AllByRecursion (LinkAuthorized d input reading es ss) (links_behind links link.number bytes (option_map (of_kind AsConnector) l))
    own-links es ss bytes None = without-fits es ss link.number
    own-links es ss bytes (Some l) = put-fits es ss (record (of_kind AsConnector l) { sent = l.sent ++ bytes }) (λ x has. absurd has)

    own-fits : (draw : List ℕ) (turned : Turned MonClient connector.Stage) → RowOf (RowOfMonClient d.node.own.mon_client) turned
        → Fits (turns d.node (arrival (me d.node.own) d.node.own link reading draw) (turn_of_kind (with_mon_client d.node.own) AsConnector turned))
    own-fits draw Waits h = record { authorized = had [] []; told = tt }
    own-fits draw (Refuses why opened) h = record { authorized = without-fits _ opened link.number; told = (tt, tt) }
    own-fits draw (Handles row) h = record {
      authorized = own-links row.entries row.seals row.sends row.link;
      told = all-map IsOfMonClient (EntryTold d input reading row.entries row.seals) (mon_client-told row.entries row.seals) row.entries h.enters;
    }

  -- ---- the other events

  rests-fit : (o : Outcome DaemonNode) → IsRest d.node o → Fits o
  rests-fit o r = record {
    authorized = rested-all (λ (n : ℕ) (sent : List ℕ) (st : DaemonStage). (x : Authority) → StageHas st x → HadAuthority d n x ⊎ GetsAuthority d input n reading x o.out.entries o.out.seals)
        (λ n sent st new x has. absurd (bare st new x has)) links o.state.links r.links
        (λ l among x has. inl (some-of (λ (k : Link DaemonStage). (k.number ≡ l.number) × StageHas k.stage x) links l among (refl, has)));
    told = all-map RestEntry (EntryTold d input reading o.out.entries o.out.seals) (rest-told o.out.entries o.out.seals) o.out.entries r.entries;
  }
    where
      bare : (st : DaemonStage) → IsNew st → (x : Authority) → StageHas st x → ⊥
      bare (AsAcceptor AwaitsBanner) new x has = has
      bare (AsConnector (connector.AwaitsBanner asked)) new x has = has
      bare _ new x has = absurd new

      refusal-told : (es : List Entry) (ss : List SealEntry) (r : Refused) (why : Reason) → IsNoTicket why → RefusalTold d input reading es ss r why
      refusal-told es ss r (reason.Ticket why blob) h = absurd h
      refusal-told es ss r _ h = tt

      rest-told : (es : List Entry) (ss : List SealEntry) (e : Entry) → RestEntry e → EntryTold d input reading es ss e
      rest-told es ss (entry.Refused r) h = refusal-told es ss r r.reason h
      rest-told es ss (entry.Ended x) h = tt
      rest-told es ss (entry.Restarted x) h = tt
      rest-told es ss _ h = absurd h

  sent-fits : (draw : List ℕ) (link : Link DaemonStage) (s : Secured) (requests : Requests) (made : Result SealedFrame Reason) → MadeOrNoTicket made → Fits (carried_out d.node link.number false
      (lifted (with_mon_client d.node.own) (sends_request open_to_ask (arrival (me d.node.own) d.node.own.mon_client link reading draw) s requests (want.Rotating reading) made)))
  sent-fits draw link s requests (Ok sealed) h = record { authorized = put-fits [] sealed.seals _ (λ x has. absurd has); told = tt }
  sent-fits draw link s requests (Err why) h = record { authorized = without-fits _ [] link.number; told = (of_login _ _ _ why h, tt) }
    where
      of_login : (es : List Entry) (ss : List SealEntry) (r : Refused) (x : Reason) → IsNoTicket x → RefusalTold d input reading es ss r x
      of_login es ss r (reason.Ticket w blob) k = absurd k
      of_login es ss r _ k = tt

  each-fits : (handlers : Handlers) (draw : List ℕ) → RestsAndTurns handlers d.node reading draw input Fits
  each-fits handlers draw = record {
    rests = λ o r own. rests-fit o r;
    shown = λ view is r. rests-fit (looks d.node view) r;
    restarts = λ r. rests-fit (restarted d.node) r;
    hosting = λ number link stage at found is.
        always-weaker (AuthorizedHosted d.node.own.mon_client (me d.node.own) link.number reading stage) (λ (h : Hosted). Fits (hosts d.node (came handlers d.node reading draw link) h))
        (λ h ok. hosted-fits number at link found stage is draw h ok) (incoming_rule handlers d.node reading draw link stage)
        (incoming-authorized handlers (arrival_in (came handlers d.node reading draw link) d.node.own.mon_client stage) stage);
    asking = λ number link stage at found is. own-fits number at link found draw _
        (none-turned (arrival_in (came handlers d.node reading draw link) d.node.own.mon_client stage) stage);
    fetches_there = λ link s requests is.
        sent-fits draw link s requests (sealed_request s.keys requests asked.Rotating) (request-no_ticket s.keys requests asked.Rotating);
  }

pub all-authorize : (handlers : Handlers) (d : DaemonState) (input : Input) (reading : ℕ) (draw : List ℕ) → StepAuthorizes handlers d input reading draw
all-authorize handlers d input reading draw =
    always-book (Fits d input reading) book_reply book_after d.book (daemon_rule handlers d.node input reading draw)
    (rests-keep handlers d.node reading draw input (Fits d input reading) (each-fits d input reading handlers draw))
