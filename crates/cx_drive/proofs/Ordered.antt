-- In each run of a node no save stands behind a send of its step.
use Rattle.std.proofs.Common.{ℕ, Bool, true, false, List, [], ◌∷◌, ◌++◌, Option, Some, None, refl, sym, subst, append_assoc}
use Rattle.cx_base.specs.declared.addresses.Addr.{Addr}
use Rattle.cx_drive.specs.Courses.{Came, Taken, Took, acts_from}
use Rattle.cx_drive.specs.Order.{SavesFirst}
use Rattle.cx_drive.specs.Steps.{Opening, Sending, address_of, carried_acts, handed_acts, is_gone, lost_acts, open_act, open_acts, regard_act, regard_acts, saved_acts, send_act, send_acts, shut_acts, step_links, told_acts, went_effects, went_node, with_send}
use Rattle.cx_drive.specs.declared.peers.Peers.{Peers}
use Rattle.cx_outside.specs.declared.regard.Regard.{Regard}
use Rattle.cx_mon.specs.cx_node.specs.steps.Events.{link_in}
use Rattle.cx_rotate.specs.declared.states.KeptState.{KeptState}
use Rattle.cx_client.specs.cx_rules_session.specs.cx_rules.specs.Inputs.{Input}
use Rattle.cx_client.specs.cx_rules_session.specs.cx_rules.specs.Rows.{Outcome}
use Rattle.cx_outside.specs.site.Acts.{Act}
use Rattle.cx_steps.specs.declared.effects.Effects.{Effects}

joined : (sent : Bool) (a b c : List Act) → SavesFirst sent (a ++ (b ++ c)) → SavesFirst sent ((a ++ b) ++ c)
joined sent a b c p = subst (SavesFirst sent) (sym (append_assoc a b c)) p

one_send : (skipped : Bool) (s : Sending) (rest : List Act) → ((sent : Bool) → SavesFirst sent rest) → (sent : Bool) → SavesFirst sent (send_act skipped s ++ rest)
one_send true s rest h sent = h sent
one_send false s rest h sent = h true

sends : (gone : List ℕ) (ss : List Sending) (rest : List Act) → ((sent : Bool) → SavesFirst sent rest) → (sent : Bool) → SavesFirst sent (send_acts gone ss ++ rest)
sends gone [] rest h sent = h sent
sends gone (s ∷ ss) rest h sent =
    let skipped : Bool = is_gone gone s.piece.link in
    let next : List ℕ = with_send skipped gone s in
    joined sent (send_act skipped s) (send_acts next ss) rest (one_send skipped s (send_acts next ss ++ rest) (sends next ss rest h) sent)

one_open : (at : Option Addr) (o : Opening) (rest : List Act) → ((sent : Bool) → SavesFirst sent rest) → (sent : Bool) → SavesFirst sent (open_act at o ++ rest)
one_open None o rest h sent = h sent
one_open (Some at) o rest h sent = h sent

opens : (peers : Peers) (os : List Opening) (rest : List Act) → ((sent : Bool) → SavesFirst sent rest) → (sent : Bool) → SavesFirst sent (open_acts peers os ++ rest)
opens peers [] rest h sent = h sent
opens peers (o ∷ os) rest h sent =
    joined sent (open_act (address_of peers o.peer) o) (open_acts peers os) rest
    (one_open (address_of peers o.peer) o (open_acts peers os ++ rest) (opens peers os rest h) sent)

shuts : (links : List ℕ) (rest : List Act) → ((sent : Bool) → SavesFirst sent rest) → (sent : Bool) → SavesFirst sent (shut_acts links ++ rest)
shuts [] rest h sent = h sent
shuts (link ∷ links) rest h sent = shuts links rest h sent

losts : (link : Option ℕ) (rest : List Act) → ((sent : Bool) → SavesFirst sent rest) → (sent : Bool) → SavesFirst sent (lost_acts link ++ rest)
losts None rest h sent = h sent
losts (Some link) rest h sent = h sent

hands : (peers : Peers) (out : Effects) (ss : List Sending) (os : List Opening) (rest : List Act) → ((sent : Bool) → SavesFirst sent rest)
    → (sent : Bool) → SavesFirst sent (handed_acts peers out ss os ++ rest)
hands peers out ss os rest h sent =
    let lost : List Act = lost_acts out.lost in
    let shut : List Act = shut_acts out.shuts in
    let asked : List Act = open_acts peers os in
    joined sent (send_acts [] ss) (asked ++ (shut ++ lost)) rest
    (sends [] ss ((asked ++ (shut ++ lost)) ++ rest) (λ b. joined b asked (shut ++ lost) rest
    (opens peers os ((shut ++ lost) ++ rest) (λ b. joined b shut lost rest
    (shuts out.shuts (lost ++ rest) (losts out.lost rest h) b)) b)) sent)

one_regard : (link : ℕ) (regard : Option Regard) (rest : List Act) → ((sent : Bool) → SavesFirst sent rest) → (sent : Bool) → SavesFirst sent (regard_act link regard ++ rest)
one_regard link None rest h sent = h sent
one_regard link (Some regard) rest h sent = h sent

regarding : (regards : ℕ → Option Regard) (links : List ℕ) (rest : List Act) → ((sent : Bool) → SavesFirst sent rest)
    → (sent : Bool) → SavesFirst sent (regard_acts regards links ++ rest)
regarding regards [] rest h sent = h sent
regarding regards (link ∷ links) rest h sent =
    joined sent (regard_act link (regards link)) (regard_acts regards links) rest
    (one_regard link (regards link) (regard_acts regards links ++ rest) (regarding regards links rest h) sent)

saves : (save : Option KeptState) (rest : List Act) → ((sent : Bool) → SavesFirst sent rest) → SavesFirst false (saved_acts save ++ rest)
saves None rest h = h false
saves (Some state) rest h = (refl, h false)

module _ {S : Type 0} (rule : S → Input → ℕ → List ℕ → Outcome S) (lost : S → Input → S) (regards : S → ℕ → Option Regard) (peers : Peers) where
  pub saves_first : (s : S) (ts : List Taken) (sent : Bool) → SavesFirst sent (acts_from rule lost regards peers s ts)
  saves_first s [] sent = tt
  saves_first s (Came event bytes ∷ ts) sent = saves_first s ts sent
  saves_first s (Took input went ∷ ts) sent =
      let out : Effects = went_effects rule lost s input went in
      let next : S = went_node rule lost s input went in
      let told : List Act = told_acts (regards next) input out in
      let rest : List Act = acts_from rule lost regards peers next ts in
      joined false (carried_acts peers out went.sends went.opens) told rest
      (joined false (saved_acts out.save) (handed_acts peers out went.sends went.opens) (told ++ rest)
      (saves out.save (handed_acts peers out went.sends went.opens ++ (told ++ rest))
      (hands peers out went.sends went.opens (told ++ rest)
      (regarding (regards next) (step_links (link_in input) out.sends) rest (saves_first next ts)))))
