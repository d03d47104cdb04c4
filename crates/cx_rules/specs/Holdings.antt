-- What an entity's node has as one that logs in: a client, or a daemon towards the monitor.
use Rattle.std.specs.Prelude.{ℕ, Bool, true, false, ◌==◌, List, [], ◌∷◌, nat_lt, Option, Some, None, if◌then◌else◌}
use Rattle.cx_base.specs.Names.{Name}
use Rattle.cx_base.specs.declared.addresses.Addr.{Addr}
use Rattle.cx_base.specs.declared.kinds.EntityType.{EntityType}
use Rattle.cx_base.specs.declared.kinds.EntityType.TheVariants.{Mon, Mds, Osd, Client, Mgr, Auth}
use Rattle.cx_login.specs.Held.{Held}
use Rattle.cx_login.specs.declared.client.LoggedIn.{LoggedIn}
use Rattle.cx_rotate.specs.declared.views.View.{View}

-- the global id, once one was given, and the tickets, one a service
pub record Holdings : Type 0 where
  pub gid : Option ℕ
  pub auth : Option Held
  pub mds : Option Held
  pub osd : Option Held
  pub mgr : Option Held

abbrev pub holds_nothing : Holdings
holds_nothing = record { gid = None; auth = None; mds = None; osd = None; mgr = None }

-- a ticket in place of the older one of its service
abbrev pub put_ticket : Holdings → Held → EntityType → Holdings
put_ticket h ticket Auth = record h { auth = Some ticket }
put_ticket h ticket Mds = record h { mds = Some ticket }
put_ticket h ticket Osd = record h { osd = Some ticket }
put_ticket h ticket Mgr = record h { mgr = Some ticket }
put_ticket h ticket Mon = h
put_ticket h ticket Client = h

abbrev pub put_tickets : Holdings → List Held → Holdings
put_tickets h [] = h
put_tickets h (ticket ∷ tickets) = put_tickets (put_ticket h ticket ticket.service) tickets

-- the holdings under a global id: where that is another one than before, all else is forgotten
abbrev pub of_gid : Holdings → ℕ → Option ℕ → Holdings
of_gid h gid None = record h { gid = Some gid }
of_gid h gid (Some before) = if before == gid then h else record holds_nothing { gid = Some gid }

-- a login is held: its global id, and its tickets
abbrev pub held_login : Holdings → ℕ → LoggedIn → Holdings
held_login h gid login = put_tickets (of_gid h gid h.gid) (login.auth ∷ login.tickets)

-- the global id that stands in a LoginHello: the one that is held beside a ticket for AUTH, else 0
abbrev pub hello_gid : Option Held → Option ℕ → ℕ
hello_gid None gid = 0
hello_gid (Some auth) None = 0
hello_gid (Some auth) (Some gid) = gid

-- an old ticket is shown while it is good
abbrev pub unexpired : ℕ → Option Held → Option Held
unexpired reading None = None
unexpired reading (Some ticket) = if nat_lt reading ticket.expires then Some ticket else None

-- the modes of a client's offer: crc, and then the secure one
abbrev pub modes_of : Bool → Bool → List ℕ
modes_of true true = 1 ∷ 2 ∷ []
modes_of true false = 1 ∷ []
modes_of false true = 2 ∷ []
modes_of false false = []

-- one that logs in: its name and its secret, its address, the modes that it offers (1 crc, 2 secure), its count of connections to daemons,
-- what it holds, and, where it is a daemon, the generations that it was told last
pub record MonClient : Type 0 where
  pub name : Name
  pub secret : List ℕ
  pub address : Addr
  pub modes : List ℕ
  pub global_seq : ℕ
  pub holdings : Holdings
  pub view : View

-- nothing was told yet
abbrev pub no_view : View
no_view = record { generations = []; asked = None }

-- as it is at its start
abbrev pub afresh : MonClient → MonClient
afresh mon_client = record mon_client { global_seq = 0; holdings = holds_nothing; view = no_view }
