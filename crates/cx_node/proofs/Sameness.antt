-- Over the rules' own links, the words of this crate compute to the rules' words.
use Rattle.std.proofs.Common.{Some, None, refl}
use Rattle.std.specs.Option.{option_map}
use Rattle.cx_rules.specs.Links.{Link}
use Rattle.cx_node.specs.Rules.{AreTheLinks, AreTheRows, IsTheDenial, number, sending}
use Rattle.cx_node.specs.Tables.{behind}
use Rattle.cx_rules.specs.Rows.{links_behind}
use Rattle.std.proofs.Common.{◌≡◌, ℕ, List, Option}

behind_is : {Stage : Type 0} (links : List (Link Stage)) (n : ℕ) (bytes : List ℕ) (link : Option (Link Stage)) → behind number n (option_map (sending bytes) link) links ≡ links_behind links n bytes link
behind_is links n bytes (Some link) = refl
behind_is links n bytes None = refl

pub are_the_links : (Stage : Type 0) → AreTheLinks Stage
are_the_links Stage = record {
  link_of = λ n links. refl;
  put_link = λ link links. refl;
  without_link = λ n links. refl;
  links_behind = behind_is;
}

pub are_the_rows : (Own Stage : Type 0) → AreTheRows Own Stage
are_the_rows Own Stage = record {
  goes_on = λ a stage bytes seals. refl;
  refuses = λ a why seals. refl;
  with_opened = λ own opened row. refl;
  carried_out = λ node n turned own row. refl;
}

pub is_the_denial : (Own Pending Proven Peer : Type 0) → IsTheDenial Own Pending Proven Peer
is_the_denial Own Pending Proven Peer = record { denies = λ a code why seals. refl }
