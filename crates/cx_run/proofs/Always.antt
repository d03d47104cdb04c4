-- What holds whatever a book replies, and what holds of a turn.
use Rattle.std.proofs.Common.{List}
use Rattle.cx_rules_session.specs.cx_rules.specs.Rows.{Row, Turned, Waits, Refuses, Handles}
use Rattle.cx_rules_session.specs.cx_steps.specs.declared.seals.SealEntry.{SealEntry}
use Rattle.cx_rules_session.specs.Asks.{Asks, Finished, Asking, asks_map, with_book}

-- ---- whatever a book replies

abbrev pub Always : {C R X : Type 0} → (X → Type 0) → Asks C R X → Type 0
Always P (Finished x) = P x
Always {C} {R} P (Asking call next) = (r : R) → Always P (next r)

pub always-map : {C R X Y : Type 0} (P : Y → Type 0) (f : X → Y) (rule : Asks C R X) → Always (λ (x : X). P (f x)) rule → Always P (asks_map f rule)
always-map P f (Finished x) h = h
always-map P f (Asking call next) h = λ r. always-map P f (next r) (h r)

pub always-weaker : {C R X : Type 0} (P Q : X → Type 0) → ((x : X) → P x → Q x) → (rule : Asks C R X) → Always P rule → Always Q rule
always-weaker P Q f (Finished x) h = f x h
always-weaker P Q f (Asking call next) h = λ r. always-weaker P Q f (next r) (h r)

pub always-both : {C R X : Type 0} (P Q : X → Type 0) (rule : Asks C R X) → Always P rule → Always Q rule → Always (λ (x : X). P x × Q x) rule
always-both P Q (Finished x) p q = (p, q)
always-both P Q (Asking call next) p q = λ r. always-both P Q (next r) (p r) (q r)

pub always-unit : {C R X : Type 0} (rule : Asks C R X) → Always (λ (x : X). Unit {0}) rule
always-unit (Finished x) = tt
always-unit (Asking call next) = λ r. always-unit (next r)

-- so with any book
pub always-book : {B C R X : Type 0} (P : X → Type 0) (book_reply : B → C → R) (book_after : B → C → B) (book : B) (rule : Asks C R X)
    → Always P rule → P (with_book book_reply book_after book rule).0
always-book P book_reply book_after book (Finished x) h = h
always-book P book_reply book_after book (Asking call next) h =
    always-book P book_reply book_after (book_after book call) (next (book_reply book call)) (h (book_reply book call))

-- ---- a turn

-- where a turn is refused, the first holds of what opened, and where it is handled by a row, the other of the row
abbrev pub TurnOf : {Own Stage : Type 0} → (List SealEntry → Type 0) → (Row Own Stage → Type 0) → Turned Own Stage → Type 0
TurnOf R P Waits = Unit {0}
TurnOf R P (Refuses why opened) = R opened
TurnOf R P (Handles row) = P row

-- nothing is told of what opened
abbrev pub Anything : List SealEntry → Type 0
Anything opened = Unit {0}

pub turn-weaker : {Own Stage : Type 0} (R : List SealEntry → Type 0) (P Q : Row Own Stage → Type 0) → ((row : Row Own Stage) → P row → Q row)
    → (turned : Turned Own Stage) → TurnOf R P turned → TurnOf R Q turned
turn-weaker R P Q f Waits h = tt
turn-weaker R P Q f (Refuses why opened) h = h
turn-weaker R P Q f (Handles row) h = f row h
