-- What a call answers of a login, and of a request.
use Rattle.std.specs.Prelude.{◌≡◌, Result, Ok, Err}
use Rattle.std.specs.declared.alloc.AllocError.{AllocError}
use Rattle.cx_keyserver.specs.Servers.{Server}
use Rattle.cx_rules.specs.Replies.{Responded, responded}
use Rattle.cx_rules.specs.Verdicts.{Decided, decided}
use Rattle.cx_rules.specs.declared.responses.Response.{Response}
use Rattle.cx_rules.specs.declared.verdicts.Verdict.{Verdict}

-- this is decided, and the server is the one behind it, unless memory was wanting
abbrev pub Decides : Decided → Server → Result Verdict AllocError → Type 0
Decides due new (Ok verdict) = due ≡ decided new verdict
Decides due new (Err e) = Unit {0}

-- the same of a response
abbrev pub Responds : Responded → Server → Result Response AllocError → Type 0
Responds due new (Ok response) = due ≡ responded new response
Responds due new (Err e) = Unit {0}
