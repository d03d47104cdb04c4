-- A turn of a link, and what is settled of it, whatever the links of a node are and whatever it has of its own.
use Rattle.std.specs.Prelude.{◌≡◌, ℕ, Bool, true, false, List, Option, Some, None, IfSome}
use Rattle.cx_base.specs.declared.nodes.NodeName.{NodeName}
use Rattle.cx_node.specs.Made.{out_of, refusing_bytes}
use Rattle.cx_node.specs.Tables.{behind, put}
use Rattle.cx_node.specs.declared.rows.Row.{Row}
use Rattle.cx_steps.specs.Nothing.{nothing}
use Rattle.cx_steps.specs.declared.effects.Effects.{Effects}
use Rattle.cx_node.specs.declared.came.Came.{Came}
use Rattle.cx_node.specs.declared.came.Came.TheVariants as came
use Rattle.cx_node.specs.steps.Making.{own_behind}

-- what a machine holds: what it has of its own, and its links
pub record Machine (Own L : Type 0) : Type 0 where
  pub own : Own
  pub links : List L

-- the link that a turn came to has this number
abbrev pub HasNumber : {L Change : Type 0} → (L → ℕ) → ℕ → Came L Change → Type 0
HasNumber number_of number (came.Waits link) = number_of link ≡ number
HasNumber number_of number (came.Refuses why opened) = Unit {0}
HasNumber number_of number (came.Handles made) = IfSome made.row.link (λ link. number_of link ≡ number)

-- a row was carried out on the link of this number among all of them
pub record IsCarried {L : Type 0} (number_of : L → ℕ) (number : ℕ) (turned : Bool) (row : Row L) (all links : List L) (out : Effects) : Type 0 where
  pub links_behind : links ≡ behind number_of number row.link all
  pub effects : out ≡ out_of number turned row

module _ {Own L Change : Type 0} (number_of : L → ℕ) (changed : Own → Change → Own) (me : NodeName) (number : ℕ) where
  -- what a turn came to was settled: the link waits, or is refused, or its row is carried out and what that changes, if anything, is changed
  abbrev pub IsSettled : Came L Change → Machine Own L → Machine Own L → Effects → Type 0
  IsSettled (came.Waits link) m n out = (n.own ≡ m.own) × (n.links ≡ put number_of link m.links) × (out ≡ nothing)
  IsSettled (came.Refuses why opened) m n out =
      (n.own ≡ m.own) × IsCarried number_of number false (refusing_bytes me number why opened) m.links n.links out
  IsSettled (came.Handles made) m n out = (n.own ≡ own_behind changed m.own made.change) × IsCarried number_of number true made.row m.links n.links out

-- a link was turned: it came to something that its turn may come to, and that was settled
pub record IsTurned {Own L Change : Type 0} (number_of : L → ℕ) (changed : Own → Change → Own) (me : NodeName) (number : ℕ)
    (IsCome : Came L Change → Type 0) (m n : Machine Own L) (out : Effects) : Type 0 where
  pub came : Came L Change
  pub come : IsCome came
  pub settled : IsSettled number_of changed me number came m n out

-- the same of a link that may live; where it doesn't, nothing happens
abbrev pub Turning : {Own L Change : Type 0} → (L → ℕ) → (Own → Change → Own) → NodeName → ℕ → (L → Came L Change → Type 0)
    → Machine Own L → Machine Own L → Effects → Option L → Type 0
Turning number_of changed me number IsCome m n out (Some link) = IsTurned number_of changed me number (IsCome link) m n out
Turning number_of changed me number IsCome m n out None = (n.own ≡ m.own) × (n.links ≡ m.links) × (out ≡ nothing)

-- a link of those stands in its place among all of them
pub record IsPut {L : Type 0} (number_of : L → ℕ) (IsOne : L → Type 0) (all links : List L) : Type 0 where
  pub one : L
  pub is : IsOne one
  pub links_behind : links ≡ put number_of one all

-- bytes came on a link that may live, which then stands in its place behind them
abbrev pub IsFedInto : {L : Type 0} → (L → ℕ) → (L → List ℕ → L → Type 0) → List ℕ → List L → List L → Effects → Option L → Type 0
IsFedInto number_of IsFed bytes all links out (Some link) = IsPut number_of (IsFed link bytes) all links × (out ≡ nothing)
IsFedInto number_of IsFed bytes all links out None = (links ≡ all) × (out ≡ nothing)
