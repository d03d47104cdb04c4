-- How many bytes wait to be sent on a link.
use Rattle.std.specs.Prelude.{ℕ, ◌≤◌, Option, Some, None, List, All, IfSome, length, slice_get}
use Rattle.cx_tcp.specs.declared.socket.Socket.{Socket}

-- none wait at a place without a link
abbrev pub load_of : Option Socket → ℕ
load_of None = 0
load_of (Some socket) = length socket.waiting.items

-- at no place of the table wait more
abbrev pub IsMost : ℕ → List (Option Socket) → Type 0
IsMost most places = All (λ slot. load_of slot ≤ most) places
