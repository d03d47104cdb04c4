-- The monitor tells a daemon the generations of a moment.
use Rattle.std.proofs.Common.{◌≡◌, ◌<◌, ℕ, Bool, true, false, List, [], ◌∷◌, Option, Some, None, Result, Ok, Err, refl, sym, ap, ◌∙◌}
use Rattle.std.specs.Prelude.{◌&&◌, is_some, find, if◌then◌else◌}
use Rattle.cx_base.specs.Names.{Name, is_daemon_type}
use Rattle.cx_base.specs.declared.kinds.EntityType.{EntityType}
use Rattle.cx_base.specs.declared.kinds.EntityType.TheVariants.{Mon, Mds, Osd, Client, Mgr, Auth}
use Rattle.cx_base.specs.declared.nodes.NodeName.TheVariants as node
use Rattle.cx_dice.specs.Draws.{rotation_of}
use Rattle.cx_enc.specs.declared.keys.Key.{Key}
use Rattle.cx_keyring.specs.Entries.{is_named}
use Rattle.cx_laws_tickets.specs.cx_keyserver.specs.Servers.{Server, generations_of, life_of, rotated_of, rotated_server, rotated_state, secrets_of}
use Rattle.cx_laws_tickets.specs.cx_keyserver.specs.declared.refusals.NotADaemon.{NotADaemon}
use Rattle.cx_rotate.specs.Rotation.{rotated}
use Rattle.cx_rotate.specs.declared.generations.Generation.{Generation}
use Rattle.cx_rotate.specs.declared.states.KeptState.{KeptState}
use Rattle.cx_laws_tickets.specs.cx_rules_session.specs.cx_rules.specs.KeptStates.{changed}
use Rattle.cx_laws_tickets.specs.cx_rules_session.specs.cx_rules.specs.Replies.{on_rotating, tells_generations, told_content, told_seal}
use Rattle.cx_laws_tickets.specs.cx_rules_session.specs.cx_rules.specs.Verdicts.{Occasion, key_of}
use Rattle.cx_laws_tickets.specs.cx_rules_session.specs.cx_rules.specs.declared.responses.Bearer.{Bearer}
use Rattle.cx_laws_tickets.specs.cx_rules_session.specs.cx_rules.specs.declared.responses.ReplyMade.{ReplyMade}
use Rattle.cx_laws_tickets.specs.cx_rules_session.specs.cx_rules.specs.declared.responses.Response.{Response}
use Rattle.cx_laws_tickets.specs.cx_rules_session.specs.cx_rules.specs.declared.responses.Response.TheVariants.{Refuses, Replies}
use Rattle.cx_laws_tickets.specs.cx_rules_session.specs.cx_rules.specs.cx_steps.specs.declared.seals.SealEntry.{SealEntry}
use Rattle.cx_laws_tickets.specs.cx_run.specs.Opening.{Setup}
use Rattle.cx_laws_tickets.specs.cx_run.specs.Points.{Point, nodes_past}
use Rattle.cx_laws_tickets.specs.chain.Chain.{Chain, IsChained, life_in}
use Rattle.cx_laws_tickets.proofs.fetch.Moments.{is-moment, nodes_last}
use Rattle.cx_laws_tickets.specs.fetch.Fetches.{IsMoment}

-- ---- a reply

-- the reply tells the bearer, a daemon, the generations of its service as they are rotated at this reading; and behind it the state is saved that has them
pub record TellsRotated (at : Occasion) (server : Server) (bearer : Bearer) (made : ReplyMade) : Type 0 where
  pub kind : is_daemon_type bearer.name.kind ≡ true
  pub secret : List ℕ
  pub told : made.sealed ≡ told_seal secret (told_content bearer.name.kind (rotated_of at.reading at.draw server.state bearer.name.kind)) ∷ []
  pub save : made.save ≡ changed at.saved (rotated_state at.reading at.draw server.state)

made_in : ReplyMade → Response → ReplyMade
made_in made (Replies other) = other
made_in made (Refuses why opened) = made

is-refused : Response → Bool
is-refused (Replies made) = false
is-refused (Refuses why opened) = true

pub service-rotated : (now : ℕ) (draw : List ℕ) (state : KeptState) (service : EntityType) → is_daemon_type service ≡ true
    → generations_of (rotated_state now draw state) service ≡ rotated_of now draw state service
service-rotated now draw state Mds is = refl
service-rotated now draw state Osd is = refl
service-rotated now draw state Mgr is = refl
service-rotated now draw state Mon is = absurd cc
service-rotated now draw state Client is = absurd cc
service-rotated now draw state Auth is = absurd cc

lists_in : Result (List Generation) NotADaemon → List Generation
lists_in (Ok gs) = gs
lists_in (Err e) = []

-- what a daemon of the keyring is told
pub secrets-are : (server : Server) (name : Name) (gs : List Generation) → secrets_of server name ≡ Ok gs → (is_daemon_type name.kind ≡ true) × (gs ≡ generations_of server.state name.kind)
unfolding lists_in
secrets-are server name gs is = by_test (is_some (find (is_named name) server.ring)) (is_daemon_type name.kind) refl is
  where
    by_test : (known daemon : Bool) → is_daemon_type name.kind ≡ daemon
        → (let r : Result (List Generation) NotADaemon = (if known && daemon then Ok (generations_of server.state name.kind) else Err (record {})) in r ≡ Ok gs)
        → (is_daemon_type name.kind ≡ true) × (gs ≡ generations_of server.state name.kind)
    by_test true true kind found = (kind, sym (ap lists_in found))
    by_test true false kind found = absurd cc
    by_test false daemon kind found = absurd cc

module _ (at : Occasion) (server : Server) (bearer : Bearer) (drawn : List SealEntry) (made : ReplyMade) where
  abbrev behind : Server
  behind = rotated_server at.reading at.draw server

  differ : true ≡ false → ⊥
  differ e = cc

  tells-by : (key : Option Key) (gens : Result (List Generation) NotADaemon) → secrets_of behind bearer.name ≡ gens
      → (tells_generations at behind bearer drawn key gens).response ≡ Replies made → TellsRotated at server bearer made
  unfolding made_in is-refused
  tells-by (Some own) (Ok gs) secrets same =
      let are = secrets-are behind bearer.name gs secrets in
      let is = ap (made_in made) same in
      let rotated_is : gs ≡ rotated_of at.reading at.draw server.state bearer.name.kind = are.1 ∙ service-rotated at.reading at.draw server.state bearer.name.kind are.0 in
      record {
        kind = are.0;
        secret = own.secret;
        told = sym (ap (λ (m : ReplyMade). m.sealed) is) ∙ ap (λ (l : List Generation). told_seal own.secret (told_content bearer.name.kind l) ∷ []) rotated_is;
        save = sym (ap (λ (m : ReplyMade). m.save) is);
      }
  tells-by (Some own) (Err e) secrets same = absurd (differ (ap is-refused same))
  tells-by None (Ok gs) secrets same = absurd (differ (ap is-refused same))
  tells-by None (Err e) secrets same = absurd (differ (ap is-refused same))

  -- whatever is replied to the request for generations, the secrets were rotated before
  pub tells-rotating : (on_rotating at behind bearer drawn).response ≡ Replies made → TellsRotated at server bearer made
  tells-rotating same = tells-by (key_of behind bearer.name) (secrets_of behind bearer.name) refl same

-- ---- a moment

-- where behind an event of the monitor that state is saved which has all services' generations rotated at its reading, it has a moment of each
pub rotated-moment : (setup : Setup) (service : EntityType) (older : List Point) (p : Point) (last : Chain) → IsChained setup service older last
    → p.nodes ≡ nodes_last setup older → p.happening.node ≡ node.Monitor → is_daemon_type service ≡ true → 0 < life_in setup service
    → life_of p.nodes.monitor.own.server.state service ≡ life_in setup service
    → (nodes_past p).monitor.own.saved ≡ rotated_state p.happening.reading p.happening.draw p.nodes.monitor.own.server.state
    → IsMoment service (rotated_of p.happening.reading p.happening.draw p.nodes.monitor.own.server.state service) p
rotated-moment setup service older p last chained linked monitor of some lived saved =
    let state : KeptState = p.nodes.monitor.own.server.state in
    is-moment setup service older p last (rotated_of p.happening.reading p.happening.draw state service) chained linked monitor of some
    (ap (λ (life : ℕ). rotated p.happening.reading life (rotation_of service p.happening.draw) (generations_of state service)) lived)
    (sym (service-rotated p.happening.reading p.happening.draw state service of) ∙ sym (ap (λ (s : KeptState). generations_of s service) saved))
