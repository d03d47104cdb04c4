-- AUTH_REQUEST at an acceptor, before its payload is looked at.
use Rattle.std.specs.Prelude.{◌==◌, not, Option, Some, None, if◌then◌else◌}
use Rattle.std.specs.List.{list_any}
use Rattle.cx_control.specs.declared.auth.AuthRequest.{AuthRequest}
use Rattle.cx_journal.specs.declared.faults.LoginFault.{LoginFault}
use Rattle.cx_journal.specs.declared.faults.LoginFault.TheVariants.{Method, Mode}

-- what is wrong with it, if anything: the method has to be 2, cephx, and 2, the secure mode, among the modes
abbrev pub request_fault : AuthRequest → Option LoginFault
request_fault request =
    if not (request.method == 2) then Some Method
    else if not (list_any (λ mode. mode == 2) request.modes) then Some Mode
    else None
