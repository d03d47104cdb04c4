-- The row of AUTH_REQUEST, by what is wrong with the request.
use Rattle.std.proofs.Common.{◌≡◌, ◌==◌, Bool, true, false, List, [], ℕ, Option, Some, None, Ok, ap}
use Rattle.std.specs.List.{list_any}
use Rattle.std.specs.Prelude.{not, if◌then◌else◌}
use Rattle.cx_control.specs.declared.auth.AuthRequest.{AuthRequest}
use Rattle.cx_journal.specs.declared.faults.LoginFault.{LoginFault}
use Rattle.cx_journal.specs.declared.faults.LoginFault.TheVariants.{Method, Mode}
use Rattle.cx_node.specs.cx_rules.specs.Acceptor.{Stage, denies, on_auth_request}
use Rattle.cx_node.specs.cx_rules.specs.Rows.{Arrival, Row}
use Rattle.cx_node.specs.steps.Requests.{request_fault}

module _ {Own Pending Proven Peer : Type 0} (by_role : Arrival Own (Stage Pending Proven Peer) → List ℕ → Row Own (Stage Pending Proven Peer))
    (a : Arrival Own (Stage Pending Proven Peer)) (request : AuthRequest) where
  abbrev fault_by : Bool → Bool → Option LoginFault
  fault_by method mode = if not method then Some Method else if not mode then Some Mode else None

  abbrev row_by : Bool → Bool → Row Own (Stage Pending Proven Peer)
  row_by method mode = if not method then denies a 95 Method [] else if not mode then denies a 95 Mode [] else by_role a request.payload

  fault_is : (x y : LoginFault) → (let some : Option LoginFault = Some x in some) ≡ Some y → x ≡ y
  fault_is x y e = cc

  denied_by : (method mode : Bool) (why : LoginFault) → fault_by method mode ≡ Some why → row_by method mode ≡ denies a 95 why []
  denied_by false mode why e = ap (λ (w : LoginFault). denies a 95 w []) (fault_is Method why e)
  denied_by true false why e = ap (λ (w : LoginFault). denies a 95 w []) (fault_is Mode why e)
  denied_by true true why e = absurd (cc)

  -- it is denied for that
  pub request-denied : (why : LoginFault) → request_fault request ≡ Some why → on_auth_request by_role a (Ok request) ≡ denies a 95 why []
  request-denied why e = denied_by (request.method == 2) (list_any (λ mode. mode == 2) request.modes) why e
