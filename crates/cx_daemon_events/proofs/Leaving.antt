-- Sessions that end, over plain values: each step is that of the rules, abridged, with the book behind it.
use Rattle.std.proofs.Common.{◌≡◌, ◌∙◌, ℕ, Bool, true, false, List, [], ◌∷◌, map, Option, Some, None, Result, Ok, Err, IfOk, refl, sym, ap, append-nil}
use Rattle.std.specs.Prelude.{is_some, filter, not, if◌then◌else◌}
use Rattle.cx_verifying.specs.cx_authorize.specs.Daemon.{Authority}
use Rattle.cx_journal.specs.declared.outcomes.Reason.TheVariants.{Lost}
use Rattle.cx_node.specs.cx_rules.specs.Acceptor as acceptor
use Rattle.cx_node.specs.cx_rules.specs.Connector as connector
use Rattle.cx_node.specs.cx_rules.specs.Links.{Link, without_link}
use Rattle.cx_node.specs.cx_rules.specs.Rows.{Outcome, forgotten, idles, refused_entry}
use Rattle.cx_verifying.specs.cx_rules_session.specs.Asks.{Asking, Finished}
use Rattle.cx_verifying.specs.cx_rules_session.specs.DaemonRule.{AsAcceptor, AsConnector, Daemon, DaemonNode, DaemonStage, drops, gone, gone_by_kind, lossy_gone, me, on_dropped}
use Rattle.cx_verifying.specs.cx_rules_session.specs.Forgets.{abridged_daemon_link}
use Rattle.cx_verifying.specs.cx_rules_session.specs.IncomingLinks.{IncomingStage}
use Rattle.cx_verifying.specs.cx_rules_session.specs.Kinds.{of_kind}
use Rattle.cx_session.specs.Book.{Book, ended, with_number}
use Rattle.cx_session.specs.declared.call.BookCall.TheVariants.{End}
use Rattle.cx_session.specs.declared.call.BookReply.TheVariants.{Ended}
use Rattle.cx_steps.specs.Nothing.{nothing}
use Rattle.cx_steps.specs.declared.effects.Effects.{Effects}
use Rattle.cx_node.specs.steps.Steps.{node_of}
use Rattle.cx_verifying.specs.Stages.{lossy_session}
use Rattle.cx_daemon_events.specs.Ending.{IsIncomingGone, told_dropped, told_ended}
use Rattle.cx_daemon_events.specs.Kinds.{DaemonLink}
use Rattle.cx_daemon_events.specs.Machine.{AreHeld, IsBookStep, IsStep}
use Rattle.cx_daemon_events.specs.Shutting.{is_shut_by}
use Rattle.cx_daemon_events.proofs.Moving.{left_held, shut_step}
use Rattle.cx_daemon_events.proofs.Shutting.{left_by, left_picked, none_named}
use Rattle.cx_daemon_events.proofs.Steps.{idles_step, without_held}

-- ---- by a command

module _ (own : Daemon) (all links : List DaemonLink) (old new : Book Authority) (session : ℕ) where
  -- what a session comes to that lived, or didn't
  abbrev DropsTo : Bool → Effects → Type 0
  DropsTo lived given = IsBookStep (node_of own links) (ended old session) new (on_dropped (node_of own all) session (Ended lived)) given

  drops_by : (lived : Bool) (given : Effects) → AreHeld all → links ≡ left_by given.shuts all → given ≡ told_dropped own session all lived → new ≡ ended old session
      → DropsTo lived given
  drops_by false given h l g b =
      let shut_of : Effects → List DaemonLink = λ out. left_by out.shuts all in
      (idles_step own all links given h (l ∙ ap shut_of g ∙ none_named all) g, b)
  drops_by true given h l g b =
      let p : DaemonLink → Bool = is_shut_by session None in
      let numbers : List ℕ = map (λ (k : DaemonLink). k.number) (filter p all) in
      let shut_of : Effects → List DaemonLink = λ out. left_by out.shuts all in
      let left : links ≡ filter (λ k. not (p k)) all = l ∙ ap shut_of g ∙ left_picked p 0 all h.rising in
      let first : Effects = told_ended own session true in
      let due : Outcome DaemonNode = record { state = node_of own all; out = first } in
      let tables : List DaemonLink → DaemonNode = λ ls. node_of own ls in
      let one : IsStep (node_of own all) due first = record { out = refl; state = ap tables (sym h.whole) } in
      let shut : List ℕ → Effects = λ ns. record first { shuts = ns } in
      (shut_step session None own all links due first given one left (g ∙ ap shut (sym (append-nil numbers))), b)

pub drops_step : (own : Daemon) (all links : List DaemonLink) (old new : Book Authority) (session : ℕ) (given : Effects) → AreHeld all
    → links ≡ left_by given.shuts all → given ≡ told_dropped own session all (is_some (with_number session old.live)) → new ≡ ended old session
    → IsBookStep (node_of own links) old new (drops (node_of own all) session) given
drops_step own all links old new session given h l g b = drops_by own all links old new session (is_some (with_number session old.live)) given h l g b

module _ (own : Daemon) (all links : List DaemonLink) (session : ℕ) where
  -- the links that are left are held as before
  left_held_by : (lived : Bool) (given : Effects) → AreHeld all → links ≡ left_by given.shuts all → given ≡ told_dropped own session all lived → AreHeld links
  left_held_by false given h l g =
      let shut_of : Effects → List DaemonLink = λ out. left_by out.shuts all in
      rw (l ∙ ap shut_of g ∙ none_named all) h
  left_held_by true given h l g =
      let p : DaemonLink → Bool = is_shut_by session None in
      let shut_of : Effects → List DaemonLink = λ out. left_by out.shuts all in
      left_held session None all links h (l ∙ ap shut_of g ∙ left_picked p 0 all h.rising)

pub drops_held : (own : Daemon) (all links : List DaemonLink) (session : ℕ) (lived : Bool) (given : Effects) → AreHeld all
    → links ≡ left_by given.shuts all → given ≡ told_dropped own session all lived → AreHeld links
drops_held own all links session lived given h l g = left_held_by own all links session lived given h l g

-- ---- with a link

module _ (own : Daemon) (number : ℕ) (all links : List DaemonLink) (old new : Book Authority) (given : Effects) (h : AreHeld all) (l : links ≡ without_link number all) where
  held : AreHeld links
  held = without_held number all links h l

  -- the link is forgotten, and this is told
  forgets : (out : Effects) → given ≡ out → IsStep (node_of own links) (record { state = node_of own (without_link number all); out = out }) given
  forgets out g =
      let tables : List DaemonLink → DaemonNode = λ ls. node_of own ls in
      let cut : List DaemonLink → List DaemonLink = λ ls. map abridged_daemon_link ls in
      record { out = g; state = ap tables (sym held.whole ∙ ap cut l) }

  abbrev IsGone : DaemonStage → Type 0
  IsGone stage = IsBookStep (node_of own links) old new (gone_by_kind (node_of own all) number stage) given

  -- what a lossy session comes to that lived, or didn't
  abbrev EndsTo : ℕ → Bool → Type 0
  EndsTo session lived = IsBookStep (node_of own links) (ended old session) new (lossy_gone (node_of own all) number session (Ended lived)) given

  ends_by : (session : ℕ) (lived : Bool) → given ≡ told_ended own session lived → new ≡ ended old session → EndsTo session lived
  ends_by session true g b = (forgets (told_ended own session true) g, b)
  ends_by session false g b = (forgets nothing g, b)

  -- what an open link comes to whose session is lossy, or isn't
  abbrev OpenTo : ℕ → Bool → Type 0
  OpenTo session lossy =
      IsBookStep (node_of own links) old new
      (if lossy then Asking (End session) (lossy_gone (node_of own all) number session) else Finished (idles (forgotten (node_of own all) number))) given

  gone_from : (session : ℕ) (lossy : Bool) → IsIncomingGone own (if lossy then Some session else None) old new given → OpenTo session lossy
  gone_from session true c = ends_by session (is_some (with_number session old.live)) c.0 c.1
  gone_from session false c = (forgets nothing c.0, c.1)

  incoming_by : (stage : IncomingStage) → IsIncomingGone own (lossy_session stage) old new given → IsGone (AsAcceptor stage)
  incoming_by acceptor.AwaitsBanner c = (forgets nothing c.0, c.1)
  incoming_by acceptor.AwaitsHello c = (forgets nothing c.0, c.1)
  incoming_by acceptor.AwaitsRequest c = (forgets nothing c.0, c.1)
  incoming_by (acceptor.AwaitsProof awaited) c = (forgets nothing c.0, c.1)
  incoming_by (acceptor.AwaitsSignature s owner) c = (forgets nothing c.0, c.1)
  incoming_by (acceptor.AwaitsIdent s owner) c = (forgets nothing c.0, c.1)
  incoming_by (acceptor.Open s served) c = gone_from served.number served.lossy c

  own_by : (stage : connector.Stage) (was_open : Bool) → was_open ≡ connector.is_open stage
      → given ≡ record nothing { entries = if was_open then [] else refused_entry (me own) number Lost ∷ [] } → new ≡ old → IsGone (AsConnector stage)
  own_by stage was_open o g b =
      let told : Bool → Effects = λ t. record nothing { entries = if t then [] else refused_entry (me own) number Lost ∷ [] } in
      (forgets (told (connector.is_open stage)) (g ∙ ap told o), b)

module _ {E : Type 0} (own : Daemon) (number : ℕ) (all links : List DaemonLink) (o : Option DaemonLink) (old new : Book Authority) (h : AreHeld all)
    (l : links ≡ without_link number all) where
  abbrev IsGoneBy : Result Effects E → Type 0
  IsGoneBy r = IfOk r (λ given. IsBookStep (node_of own links) old new (gone (node_of own all) o) given)

  pub gone_incoming : (link : Link IncomingStage) (r : Result Effects E) → o ≡ Some (of_kind AsAcceptor link) → link.number ≡ number
      → IfOk r (λ given. IsIncomingGone own (lossy_session link.stage) old new given) → IsGoneBy r
  gone_incoming link (Err e) is n c = tt
  gone_incoming link (Ok given) is n c =
      rw (is, n) (incoming_by own number all links old new given h l link.stage c)

  pub gone_own : (link : Link connector.Stage) (was_open : Bool) (r : Result Effects E) → o ≡ Some (of_kind AsConnector link) → link.number ≡ number
      → was_open ≡ connector.is_open link.stage → new ≡ old
      → IfOk r (λ given. given ≡ record nothing { entries = if was_open then [] else refused_entry (me own) number Lost ∷ [] }) → IsGoneBy r
  gone_own link was_open (Err e) is n w b g = tt
  gone_own link was_open (Ok given) is n w b g = rw (is, n) (own_by own number all links old new given h l link.stage was_open w g b)
