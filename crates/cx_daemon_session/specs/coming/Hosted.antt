-- A turn of an incoming link on which the book of sessions may be asked, as code makes it, against the rule: what it comes to once it is done, and
-- when two that go on by the replies of a book are one.
use Rattle.std.specs.Prelude.{◌≡◌, ℕ, List, Option, None}
use Rattle.cx_verifying.specs.cx_rules.specs.Abridged.{abridged_link}
use Rattle.cx_verifying.specs.cx_rules.specs.Holdings.{MonClient}
use Rattle.cx_verifying.specs.cx_rules_session.specs.Asks.{Finished, asks_map}
use Rattle.cx_verifying.specs.cx_rules_session.specs.Forgets.{AskAlike}
use Rattle.cx_verifying.specs.cx_rules_session.specs.Hosting.{Deciding, Hosted, hosted_behind}
use Rattle.cx_steps.specs.declared.seals.SealEntry.{SealEntry}
use Rattle.cx_verifying.specs.cx_node.specs.steps.Steps.{turn_due, turn_made}
use Rattle.cx_verifying.specs.cx_node.specs.steps.Turns.{HasNumber}
use Rattle.cx_verifying.specs.cx_node.specs.declared.came.Came.{Came}
use Rattle.cx_verifying.specs.Rows.{unchanged}
use Rattle.cx_verifying.specs.Stages.{IncomingLink}

-- ---- the rule

-- what a turn comes to, as it is to be made
abbrev pub hosted_due : Hosted → Hosted
hosted_due hosted = record { turned = turn_due abridged_link hosted.turned; moved = hosted.moved }

abbrev pub asks_due : Deciding Hosted → Deciding Hosted
asks_due rule = asks_map hosted_due rule

-- the same behind what opened before it
abbrev pub due_behind : List SealEntry → Deciding Hosted → Deciding Hosted
due_behind opened rule = asks_due (asks_map (hosted_behind opened) rule)

-- ---- what is made

-- a turn that is done, and the session that moved to its link, if one did
abbrev pub done_as : MonClient → Came IncomingLink (Unit {0}) → Option ℕ → Deciding Hosted
done_as mon_client came moved = Finished (record { turned = turn_made unchanged mon_client came; moved = moved })

-- a turn of the link of this number is done, as the rule is finished, behind what opened before it; no session moved
pub record IsCome (mon_client : MonClient) (number : ℕ) (opened : List SealEntry) (rule : Deciding Hosted) (came : Came IncomingLink (Unit {0})) : Type 0 where
  pub made : done_as mon_client came None ≡ due_behind opened rule
  pub number_is : HasNumber (λ (l : IncomingLink). l.number) number came

-- they make the same calls of the book, and by the same replies come to the same
abbrev pub AreOne : Deciding Hosted → Deciding Hosted → Type 0
AreOne made rule = AskAlike (λ (x y : Hosted). x ≡ y) made rule
