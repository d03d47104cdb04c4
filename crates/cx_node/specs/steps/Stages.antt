-- The links of a node, as either end holds them.
use Rattle.std.specs.Prelude.{ℕ, ◌≤◌, ◌+◌, List, [], ◌∷◌, ◌++◌}
use Rattle.cx_node.specs.cx_rules.specs.Links.{Link}
use Rattle.cx_node.specs.cx_rules.specs.Secured.{Keys, Secured}

-- of a link whose peer has proved itself the keys alone are held
abbrev pub keys_alone : Keys → Secured
keys_alone keys = record { keys = keys; session = []; covered = [] }

-- a link behind more bytes that came on it
abbrev pub with_more : {Stage : Type 0} → List ℕ → Link Stage → Link Stage
with_more bytes link = record link { received = link.received ++ bytes }

-- the numbers of these links rise, from this one on
abbrev pub AreRising : {Stage : Type 0} → ℕ → List (Link Stage) → Type 0
AreRising low [] = Unit {0}
AreRising low (l ∷ links) = (low ≤ l.number) × AreRising (l.number + 1) links
