-- What a step does that carries a link on: all that it gives, and the link behind it.
use Rattle.std.specs.Prelude.{ℕ, ◌≡◌, true, List, [], ◌++◌, Some, None}
use Rattle.cx_login.specs.cx_journal.specs.declared.entries.Entry.{Entry}
use Rattle.cx_rules.specs.Links.{Link, put_link}
use Rattle.cx_rules.specs.Rows.{Handles, Node, Outcome, Row, Turned, piece}

-- it hands on what stood next on a link: it sends these bytes alone, in one piece, enters just this, opens and shuts nothing, and says that it handled something; and the
-- link goes on in this stage from what was taken of it, with these bytes behind what was sent. Every other link is as it was
pub record CarriesOn {Own Stage : Type 0} (links : List (Link Stage)) (behind : Link Stage) (stage : Stage) (bytes : List ℕ) (entries : List Entry) (o : Outcome (Node Own Stage)) : Type 0 where
  pub sends : o.out.sends ≡ piece behind.number bytes
  pub opens : o.out.opens ≡ []
  pub shuts : o.out.shuts ≡ []
  pub turned : o.out.turned ≡ true
  pub entered : o.out.entries ≡ entries
  pub links_are : o.state.links ≡ put_link (record behind { stage = stage; sent = behind.sent ++ bytes }) links

-- a turn of one part of a node comes to a row by which its link goes on so: the part is this behind it, the link goes on in this stage from what was taken of it, these bytes
-- are sent, and just this is entered; nothing is saved
pub record HandsOn {Own Stage : Type 0} (own : Own) (behind : Link Stage) (stage : Stage) (bytes : List ℕ) (entries : List Entry) (t : Turned Own Stage) : Type 0 where
  pub row : Row Own Stage
  pub handles : t ≡ Handles row
  pub own_is : row.own ≡ own
  pub link : row.link ≡ Some (record behind { stage = stage })
  pub sends : row.sends ≡ bytes
  pub save : row.save ≡ None
  pub entered : row.entries ≡ entries
