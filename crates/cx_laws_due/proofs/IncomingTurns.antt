-- A daemon hands an incoming link on over the banner, HELLO and the peer's signature, where no book of sessions is asked.
use Rattle.std.proofs.Common.{◌≡◌, ℕ, ◌≤◌, Bool, true, List, [], ◌∷◌, Option, Some, Result, Ok, refl, sym, ap, subst, ◌∙◌, arith}
use Rattle.std.specs.Prelude.{if◌then◌else◌}
use Rattle.cx_base.specs.declared.kinds.EntityType.{EntityType}
use Rattle.cx_rules_session.specs.cx_authorize.specs.Daemon.{Authority}
use Rattle.cx_rules_session.specs.cx_control.specs.Auth.{auth_signature_layout}
use Rattle.cx_rules_session.specs.cx_control.specs.Hello.{hello_layout}
use Rattle.cx_rules_session.specs.cx_control.specs.declared.hello.Hello.{Hello}
use Rattle.cx_rules_session.specs.cx_desk.specs.Handlers.{Handlers}
use Rattle.cx_rules_session.specs.cx_enc.specs.Forms.{little}
use Rattle.cx_rules_session.specs.cx_enc.specs.Values.{addr_form, kind_form}
use Rattle.cx_rules.specs.cx_frame.specs.Frames.{frame_text, total}
use Rattle.cx_rules.specs.cx_frame.specs.declared.frame.Frame.{Frame}
use Rattle.cx_rules_session.specs.cx_journal.specs.declared.faults.BytesFault.{BytesFault}
use Rattle.cx_rules_session.specs.cx_journal.specs.declared.faults.LoginFault.TheVariants.{SignatureWrong}
use Rattle.cx_rules_session.specs.cx_journal.specs.declared.outcomes.Reason.TheVariants as reason
use Rattle.cx_rules.specs.cx_steps.specs.declared.seals.SealEntry.{SealEntry}
use Rattle.cx_laws_due.specs.Incoming.{CarriesIncoming, HearsBanner, HearsHello, HearsSignature}
use Rattle.cx_rules.specs.Acceptor.{AwaitsBanner, AwaitsHello, AwaitsIdent, AwaitsRequest, AwaitsSignature, on_banner, on_hello, on_signature}
use Rattle.cx_rules.specs.Carrying.{CarriesOn, HandsOn}
use Rattle.cx_rules.specs.Fronts.{Next, banner_next, plain_next, secure_next}
use Rattle.cx_rules.specs.Greetings.{own_hello}
use Rattle.cx_rules.specs.Holdings.{MonClient}
use Rattle.cx_rules.specs.Inputs.{Turn}
use Rattle.cx_rules.specs.Links.{Link, link_of}
use Rattle.cx_rules.specs.Payloads.{due}
use Rattle.cx_rules.specs.Rows.{Handles, Outcome, Row, Turned, arrival, at, carried_out, goes_on, plain_sent, refuses, turned_by, turns, with_opened}
use Rattle.cx_rules.specs.Secured.{Keys, Secured, signature_found, under}
use Rattle.cx_rules.proofs.Carrying.{carried-on}
use Rattle.cx_rules.proofs.Handling.{plain-number, secure-number}
use Rattle.cx_rules.proofs.Sizes.{plain-sent}
use Rattle.std.specs.Option.{option_map}
use Rattle.cx_rules_session.specs.Asks as asks
use Rattle.cx_rules_session.specs.Complete.{in_incoming_stage, incoming_arrival}
use Rattle.cx_rules_session.specs.DaemonRule as daemon
use Rattle.cx_rules_session.specs.DaemonRule.{AsAcceptor, Daemon, DaemonNode, DaemonStage, DaemonState, daemon_step}
use Rattle.cx_rules_session.specs.Hosting.{Deciding, Hosted, incoming_turned, no_session_moves}
use Rattle.cx_rules_session.specs.IncomingLinks.{IncomingArrival, IncomingRow, IncomingStage}
use Rattle.cx_rules_session.specs.Kinds.{of_kind, row_of_kind, turn_of_kind}

short-hello : (kind : EntityType) → total (own_hello kind) ≤ 65536
unfolding little addr_form kind_form
short-hello kind = omega arith

module _ (handlers : Handlers) (d : DaemonState) (reading : ℕ) (draw : List ℕ) (link behind : Link IncomingStage) where
  -- what such a turn hands on, the daemon carries on, and its book stays
  as-acceptor : (before stage : IncomingStage) (bytes : List ℕ) (t : Turned MonClient IncomingStage) → link_of link.number d.node.links ≡ Some (of_kind AsAcceptor (in_incoming_stage link before))
      → behind.number ≡ link.number → incoming_turned handlers (incoming_arrival d link before reading draw) before ≡ no_session_moves t
      → HandsOn d.node.own.mon_client behind stage bytes [] t → CarriesIncoming d behind stage bytes [] (daemon_step handlers d (Turn link.number) reading draw)
  as-acceptor before stage bytes t found same decided h =
      let node : DaemonNode = d.node in
      let row : Row Daemon DaemonStage = row_of_kind (daemon.with_mon_client node.own) AsAcceptor h.row in
      let a = arrival (daemon.me node.own) node.own (of_kind AsAcceptor (in_incoming_stage link before)) reading draw in
      let o : Outcome DaemonNode = carried_out node link.number true row in
      let last : Outcome DaemonState = record { state = record { node = o.state; book = d.book }; out = o.out } in
      let by_link : Option (Link DaemonStage) → Outcome DaemonState = λ l.
      daemon.state_behind (Turn link.number) (asks.with_book daemon.book_reply daemon.book_after d.book (daemon.turn handlers node reading draw l)) in
      let by_decided : Deciding Hosted → Outcome DaemonState = λ x. daemon.state_behind (Turn link.number) (asks.with_book daemon.book_reply daemon.book_after d.book (asks.asks_map (daemon.hosts node a) x)) in
      let by_turned : Turned MonClient IncomingStage → Outcome DaemonState = λ u.
      daemon.state_behind (Turn link.number)
      (asks.with_book daemon.book_reply daemon.book_after d.book (asks.Finished (turns node a (turn_of_kind (daemon.with_mon_client node.own) AsAcceptor u)))) in
      let is : daemon_step handlers d (Turn link.number) reading draw ≡ last = ap by_link found ∙ ap by_decided decided ∙ ap by_turned h.handles in
      subst (CarriesIncoming d behind stage bytes []) (sym is) (record {
        carries = carried-on node link.number (of_kind AsAcceptor behind) (AsAcceptor stage) bytes [] row same
            (ap (λ (l : Option (Link IncomingStage)). option_map (of_kind AsAcceptor) l) h.link) h.sends h.entered;
        own = ap (daemon.with_mon_client node.own) h.own_is;
        book = refl;
      })

-- the peer's banner: HELLO is sent
pub greets : (handlers : Handlers) (d : DaemonState) (reading : ℕ) (draw : List ℕ) (link : Link IncomingStage) (h : HearsBanner d link)
    → CarriesIncoming d h.behind AwaitsHello (frame_text (own_hello d.node.own.mon_client.name.kind)) [] (daemon_step handlers d (Turn link.number) reading draw)
greets handlers d reading draw link h =
    let kind : EntityType = d.node.own.mon_client.name.kind in
    let b : IncomingArrival = incoming_arrival d link AwaitsBanner reading draw in
    as-acceptor handlers d reading draw link h.behind AwaitsBanner AwaitsHello (frame_text (own_hello kind))
    (turned_by (λ (l : Link IncomingStage) _. on_banner kind (at b l)) (banner_next (in_incoming_stage link AwaitsBanner))) h.incoming h.same refl
    (record {
      row = goes_on (at b h.behind) AwaitsHello (frame_text (own_hello kind)) [];
      handles = ap (turned_by (λ (l : Link IncomingStage) _. on_banner kind (at b l))) h.next
          ∙ ap (λ (r : Result (List ℕ) BytesFault). Handles (plain_sent (at b h.behind) AwaitsHello [] r)) (plain-sent (own_hello kind) (short-hello kind));
      own_is = refl;
      link = refl;
      sends = refl;
      save = refl;
      entered = refl;
    })

-- HELLO: AUTH_REQUEST is waited for
pub hears-hello : (handlers : Handlers) (d : DaemonState) (reading : ℕ) (draw : List ℕ) (link : Link IncomingStage) (h : HearsHello d link)
    → CarriesIncoming d h.behind AwaitsRequest [] [] (daemon_step handlers d (Turn link.number) reading draw)
hears-hello handlers d reading draw link h =
    let k : Link IncomingStage = in_incoming_stage link AwaitsHello in
    let b : IncomingArrival = incoming_arrival d link AwaitsHello reading draw in
    as-acceptor handlers d reading draw link h.behind AwaitsHello AwaitsRequest []
    (turned_by (λ ((l, f) : Link IncomingStage × Frame) _. on_hello (at b l) (due 1 hello_layout.form f)) (plain_next k)) h.incoming (plain-number k h.behind h.frame h.next) refl
    (record {
      row = goes_on (at b h.behind) AwaitsRequest [] [];
      handles = ap (turned_by (λ ((l, f) : Link IncomingStage × Frame) _. on_hello (at b l) (due 1 hello_layout.form f))) h.next
          ∙ ap (λ (r : Result Hello BytesFault). Handles (on_hello (at b h.behind) r)) h.payload;
      own_is = refl;
      link = refl;
      sends = refl;
      save = refl;
      entered = refl;
    })

-- a right AUTH_SIGNATURE: CLIENT_IDENT is waited for
pub takes-signature : (handlers : Handlers) (d : DaemonState) (reading : ℕ) (draw : List ℕ) (link : Link IncomingStage) (s : Secured) (owner : Authority) (h : HearsSignature d link s owner)
    → CarriesIncoming d h.behind (AwaitsIdent (under s h.keys) owner) [] [] (daemon_step handlers d (Turn link.number) reading draw)
takes-signature handlers d reading draw link s owner h =
    let k : Link IncomingStage = in_incoming_stage link (AwaitsSignature s owner) in
    let b : IncomingArrival = incoming_arrival d link (AwaitsSignature s owner) reading draw in
    let c : IncomingArrival = at b h.behind in
    let t : Secured = under s h.keys in
    let last : IncomingRow = goes_on c (AwaitsIdent t owner) [] (signature_found t ∷ []) in
    let by_front : Link IncomingStage × Frame × Keys → List SealEntry → IncomingRow = λ (l, g, n) o. with_opened o (on_signature (at b l) (under s n) owner (due 7 auth_signature_layout.form g)) in
    let by_test : Bool → IncomingRow = λ is. if is then last else refuses c (reason.Login SignatureWrong) [] in
    as-acceptor handlers d reading draw link h.behind (AwaitsSignature s owner) (AwaitsIdent t owner) [] (turned_by by_front (secure_next s.keys k)) h.incoming
    (secure-number s.keys h.keys k h.behind h.frame h.opened h.next) refl
    (record {
      row = with_opened h.opened last;
      handles = ap (turned_by by_front) h.next ∙ ap (λ (r : IncomingRow). Handles (with_opened h.opened r)) (ap (on_signature c t owner) h.payload ∙ ap by_test h.right);
      own_is = refl;
      link = refl;
      sends = refl;
      save = refl;
      entered = refl;
    })
