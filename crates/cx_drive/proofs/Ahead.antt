-- What comes to a node next.
use Rattle.std.proofs.Common.{ℕ, ◌≡◌, Bool, true, false, List, [], ◌∷◌, ◌++◌, map, Option, Some, None, refl, sym, ap, ◌∙◌}
use Rattle.cx_drive.specs.Agendas.{Agenda, at_quiet, due_behind, next_input, next_of, noting, turning_behind, without_next}
use Rattle.cx_drive.specs.Steps.{input_due}
use Rattle.cx_drive.specs.declared.dues.Due.{Due}
use Rattle.cx_drive.specs.declared.flow.Order.{Order}
use Rattle.cx_drive.specs.declared.flow.Order.TheVariants as order
use Rattle.cx_client.specs.cx_rules_session.specs.cx_rules.specs.Inputs as input
use Rattle.cx_client.specs.cx_rules_session.specs.cx_rules.specs.Inputs.{Input}

-- nothing is next
pub none_next : (a : Agenda) → a.due ≡ [] → a.turning ≡ None → next_input a ≡ None
none_next a due turning = ap (λ d. next_of d a.turning) due ∙ ap (λ t. next_of [] t) turning

-- a turn is next
pub turn_next : (a : Agenda) (link : ℕ) → a.due ≡ [] → a.turning ≡ Some link → next_input a ≡ Some (input.Turn link)
turn_next a link due turning = ap (λ d. next_of d a.turning) due ∙ ap (λ t. next_of [] t) turning

-- a link was turned, and is turned again or isn't
pub turned_on : (x y : Agenda) (link : ℕ) (turned short : Bool) (input : Input) (dues : List Due) (t : Option ℕ) → x.due ≡ [] → x.turning ≡ Some link
    → y ≡ noting input short dues x → t ≡ turning_behind [] turned (Some link) → record y { turning = t } ≡ noting input short dues (without_next turned x)
turned_on x y link turned short input dues t due turning noted again =
    ap (λ (z : Agenda). record z { turning = t }) noted
    ∙ ap (λ (q : Option ℕ). record (noting input short dues x) { turning = q }) again
    ∙ ap (λ (d : List Input). record (noting input short dues x) { due = d ++ map input_due dues; turning = turning_behind [] turned (Some link) }) due
    ∙ ap (λ (d : List Input). record (noting input short dues x) { due = due_behind d ++ map input_due dues; turning = turning_behind d turned (Some link) }) (sym due)
    ∙ ap (λ (q : Option ℕ). record (noting input short dues x) { due = due_behind x.due ++ map input_due dues; turning = turning_behind x.due turned q }) (sym turning)

-- at a quiet moment it isn't told that memory was wanting
pub quiet_short : (orders : List Order) (rests : Bool) (a : Agenda) → a.short ≡ (at_quiet orders rests a).short
quiet_short (order.Stop ∷ orders) true a = refl
quiet_short (order.Stop ∷ orders) false a = refl
quiet_short (order.Submit command ∷ orders) true a = refl
quiet_short (order.Submit command ∷ orders) false a = refl
quiet_short (order.Gone links ∷ orders) rests a = refl
quiet_short [] rests a = refl
