-- Rows that were made, behind what is entered first and what opened.
use Rattle.std.proofs.Common.{◌≡◌, ◌∙◌, ℕ, Bool, true, false, List, Result, Ok, Err, IfOk, ap, subst, sym}
use Rattle.std.specs.Prelude.{IfSome}
use Rattle.cx_verifying.specs.cx_rules.specs.Rows.{Handles, Refuses, Turned, Waits, with_opened}
use Rattle.cx_verifying.specs.cx_rules.specs.Holdings.{MonClient}
use Rattle.cx_verifying.specs.cx_rules_session.specs.Asks.{Asking, Finished}
use Rattle.cx_verifying.specs.cx_rules_session.specs.IncomingLinks.{IncomingRow, IncomingStage}
use Rattle.cx_verifying.specs.cx_rules_session.specs.Hosting.{Deciding, Hosted, comes_to}
use Rattle.cx_steps.specs.declared.seals.SealEntry.{SealEntry}
use Rattle.cx_verifying.specs.cx_node.specs.steps.Steps.{Stays}
use Rattle.cx_verifying.specs.cx_node.specs.steps.Turns.{HasNumber}
use Rattle.cx_verifying.specs.cx_node.specs.steps.Making.{row_due}
use Rattle.cx_verifying.specs.cx_node.specs.declared.came.Came.{Came}
use Rattle.cx_verifying.specs.cx_node.specs.declared.came.Came.TheVariants as came
use Rattle.cx_verifying.specs.Stages.{IncomingLink}
use Rattle.cx_daemon_session.specs.coming.Hosted.{IsCome}

-- whether a turn waits
waiting : Turned MonClient IncomingStage → Bool
waiting Waits = true
waiting (Refuses why opened) = false
waiting (Handles row) = false

waits_in : Deciding Hosted → Bool
waits_in (Finished hosted) = waiting hosted.turned
waits_in (Asking call next) = false

-- a turn that is handled waits for nothing, and stays on a link of its number
pub come_stays : (mon_client : MonClient) (number : ℕ) (opened : List SealEntry) (due : IncomingRow) (came : Came IncomingLink (Unit {0})) → IsCome mon_client number opened (comes_to due) came
    → (old : IncomingLink) → old.number ≡ number → Stays old came × HasNumber (λ (l : IncomingLink). l.number) old.number came
unfolding waiting waits_in
come_stays mon_client number opened due (came.Waits link) is old e = absurd (true-false (ap waits_in is.made))
  where
    true-false : true ≡ false → ⊥
    true-false same = absurd (cc)
come_stays mon_client number opened due (came.Refuses why seals) is old e = (tt, tt)
come_stays mon_client number opened due (came.Handles row) is old e =
    let On : ℕ → Type 0 = λ n. IfSome row.row.link (λ (l : IncomingLink). l.number ≡ n) in
    (tt, subst On (sym e) is.number_is)

-- what is so of each value is so of the one that was made
pub ok_each : {X E : Type 0} (P Q : X → Type 0) (r : Result X E) → ((x : X) → P x → Q x) → IfOk r P → IfOk r Q
ok_each P Q (Ok x) each h = each x h
ok_each P Q (Err e) each h = tt
