-- What both ends of a connection write before authentication.
use Rattle.std.specs.Prelude.{ℕ, List, [], ◌∷◌}
use Rattle.cx_base.specs.declared.addresses.Addr.{Addr}
use Rattle.cx_base.specs.declared.kinds.EntityType.{EntityType}
use Rattle.cx_login.specs.cx_control.specs.Hello.{hello_layout}
use Rattle.cx_stream.specs.cx_frame.specs.Banners.{banner_text}
use Rattle.cx_stream.specs.cx_frame.specs.declared.frame.Frame.{Frame}
use Rattle.cx_rules.specs.Payloads.{control}

-- the banner: REVISION_1 is supported and required
abbrev pub own_banner : List ℕ
own_banner = banner_text (record { supported = 1; required = 1 }) []

-- an address of which nothing is said
abbrev pub no_addr : Addr
no_addr = record { nonce = 0; ip = 0 ∷ 0 ∷ 0 ∷ 0 ∷ []; port = 0 }

-- HELLO: one's own type, and nothing of the peer's address
abbrev pub own_hello : EntityType → Frame
own_hello kind = control 1 hello_layout.form (record { kind = kind; addr = no_addr })
