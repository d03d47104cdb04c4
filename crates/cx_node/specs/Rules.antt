-- Over the rules' own links, the words of this crate are the rules' words.
use Rattle.std.specs.Prelude.{ℕ, ◌≡◌, ◌++◌, List, Bool, Option}
use Rattle.std.specs.Option.{option_map}
use Rattle.cx_journal.specs.declared.faults.LoginFault.{LoginFault}
use Rattle.cx_journal.specs.declared.outcomes.Reason.{Reason}
use Rattle.cx_steps.specs.declared.seals.SealEntry.{SealEntry}
use Rattle.cx_rules.specs.Acceptor.{Stage, denies}
use Rattle.cx_rules.specs.Links.{Link, link_of, put_link, without_link}
use Rattle.cx_rules.specs.Rows.{Arrival, Node, carried_out, goes_on, links_behind, refuses, with_opened}
use Rattle.cx_node.specs.Made.{as_row, behind_opened, denying, going_on, out_of, refusing}
use Rattle.cx_node.specs.Tables.{with_number, put, without, behind}
use Rattle.cx_node.specs.declared.rows.Row.{Row}

module _ {Stage : Type 0} where
  abbrev pub number : Link Stage → ℕ
  number link = link.number

  -- the link with what was sent on it
  abbrev pub sending : List ℕ → Link Stage → Link Stage
  sending bytes link = record link { sent = link.sent ++ bytes }

-- the rules' words of a table of links
pub record AreTheLinks (Stage : Type 0) : Type 0 where
  pub link_of : (n : ℕ) (links : List (Link Stage)) → with_number number n links ≡ link_of n links
  pub put_link : (link : Link Stage) (links : List (Link Stage)) → put number link links ≡ put_link link links
  pub without_link : (n : ℕ) (links : List (Link Stage)) → without number n links ≡ without_link n links
  pub links_behind : (links : List (Link Stage)) (n : ℕ) (bytes : List ℕ) (link : Option (Link Stage)) → behind number n (option_map (sending bytes) link) links ≡ links_behind links n bytes link

-- the rules' rows, and how they are carried out
pub record AreTheRows (Own Stage : Type 0) : Type 0 where
  pub goes_on : (a : Arrival Own Stage) (stage : Stage) (bytes : List ℕ) (seals : List SealEntry) → as_row a.own (going_on (record a.link { stage = stage }) bytes seals) ≡ goes_on a stage bytes seals
  pub refuses : (a : Arrival Own Stage) (why : Reason) (seals : List SealEntry) → as_row a.own (refusing a.me a.link.number why seals) ≡ refuses a why seals
  pub with_opened : (own : Own) (opened : List SealEntry) (row : Row (Link Stage)) → as_row own (behind_opened opened row) ≡ with_opened opened (as_row own row)
  pub carried_out : (node : Node Own Stage) (n : ℕ) (turned : Bool) (own : Own) (row : Row (Link Stage)) → out_of n turned row ≡ (carried_out node n turned (as_row own row)).out

-- the rules' denial
pub record IsTheDenial (Own Pending Proven Peer : Type 0) : Type 0 where
  pub denies : (a : Arrival Own (Stage Pending Proven Peer)) (code : ℕ) (why : LoginFault) (seals : List SealEntry) → as_row a.own (denying a.me a.link.number code why seals) ≡ denies a code why seals
