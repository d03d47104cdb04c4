-- Rows that hand out nothing.
use Rattle.std.proofs.Common.{◌≡◌, ℕ, ◌+◌, Bool, true, false, List, [], ◌∷◌, ◌++◌, map, None, Result, Ok, Err, refl}
use Rattle.std.specs.Prelude.{◌-◌, ◌^◌, length, nat_lt, if◌then◌else◌}
use Rattle.std.specs.List.{flat_map}
use Rattle.cx_stream.specs.cx_frame.specs.Frames.{total}
use Rattle.cx_stream.specs.cx_secure.specs.Plains.{plains}
use Rattle.cx_login.specs.cx_journal.specs.declared.faults.BytesFault.TheVariants.{CounterSpent, TooLong}
use Rattle.cx_stream.specs.cx_frame.specs.declared.frame.Frame.{Frame}
use Rattle.cx_login.specs.cx_journal.specs.declared.faults.BytesFault.{BytesFault}
use Rattle.cx_login.specs.cx_journal.specs.declared.outcomes.Reason.{Reason}
use Rattle.cx_rotate.specs.declared.states.KeptState.{KeptState}
use Rattle.cx_login.specs.cx_steps.specs.declared.seals.SealEntry.{SealEntry}
use Rattle.cx_rules.specs.Judged.{IsHandedOut, IsEnvelopeSealed, NoneOf}
use Rattle.cx_rules.specs.Monitor.{MonitorArrival, MonitorRow, MonitorStage}
use Rattle.cx_rules.specs.Rows.{goes_on, refuses, refuses_bytes, plain_sent, sends_plain, secure_sent, sends_secure, with_opened}
use Rattle.cx_rules.specs.Secured.{Keys, SealedFrame, Secured, plain_frame, secure_frame, part_seals, sealed_under}

-- ---- lists of which no item is so

pub none-append : {X : Type 0} (P : X → Type 0) (xs ys : List X) → NoneOf P xs → NoneOf P ys → NoneOf P (xs ++ ys)
none-append P [] ys a b = b
none-append P (x ∷ xs) ys a b = (a.0, none-append P xs ys a.1 b)

pub none-map : {X Y : Type 0} (P : Y → Type 0) (f : X → Y) (xs : List X) → ((x : X) → P (f x) → ⊥) → NoneOf P (map f xs)
none-map P f [] h = tt
none-map P f (x ∷ xs) h = (h x, none-map P f xs h)

pub none-flat_map : {X Y : Type 0} (P : Y → Type 0) (f : X → List Y) (xs : List X) → ((x : X) → NoneOf P (f x)) → NoneOf P (flat_map f xs)
none-flat_map P f [] h = tt
none-flat_map P f (x ∷ xs) h = none-append P (f x) (flat_map f xs) (h x) (none-flat_map P f xs h)

-- ---- rows

-- a row that hands out nothing
pub record Quiet (saved : KeptState) (row : MonitorRow) : Type 0 where
  pub entries : NoneOf IsHandedOut row.entries
  pub seals : NoneOf IsEnvelopeSealed row.seals
  pub save : row.save ≡ None
  pub saved_is : row.own.saved ≡ saved

pub quiet-goes_on : (a : MonitorArrival) (stage : MonitorStage) (bytes : List ℕ) (seals : List SealEntry) → NoneOf IsEnvelopeSealed seals → Quiet a.own.saved (goes_on a stage bytes seals)
quiet-goes_on a stage bytes seals h = record { entries = tt; seals = h; save = refl; saved_is = refl }

pub quiet-refuses : (a : MonitorArrival) (why : Reason) (seals : List SealEntry) → NoneOf IsEnvelopeSealed seals → Quiet a.own.saved (refuses a why seals)
quiet-refuses a why seals h = record { entries = (λ x. x, tt); seals = h; save = refl; saved_is = refl }

pub quiet-refuses_bytes : (a : MonitorArrival) (why : BytesFault) (seals : List SealEntry) → NoneOf IsEnvelopeSealed seals → Quiet a.own.saved (refuses_bytes a why seals)
quiet-refuses_bytes a why seals h = record { entries = (λ x. x, tt); seals = h; save = refl; saved_is = refl }

plain-case : (a : MonitorArrival) (stage : MonitorStage) (seals : List SealEntry) (r : Result (List ℕ) BytesFault) → NoneOf IsEnvelopeSealed seals → Quiet a.own.saved (plain_sent a stage seals r)
plain-case a stage seals (Ok bytes) h = quiet-goes_on a stage bytes seals h
plain-case a stage seals (Err why) h = quiet-refuses_bytes a why seals h

pub quiet-sends_plain : (a : MonitorArrival) (stage : MonitorStage) (seals : List SealEntry) (f : Frame) → NoneOf IsEnvelopeSealed seals → Quiet a.own.saved (sends_plain a stage seals f)
quiet-sends_plain a stage seals f h = plain-case a stage seals (plain_frame f) h

-- ---- frames that are sealed

pub none-part_seals : (key fixed : List ℕ) (counter : ℕ) (plains : List (List ℕ)) → NoneOf IsEnvelopeSealed (part_seals key fixed counter plains)
none-part_seals key fixed counter [] = tt
none-part_seals key fixed counter (plain ∷ plains) = (λ x. x, none-part_seals key fixed (counter + 1) plains)

none-signing : (keys : Keys) (f : Frame) → NoneOf IsEnvelopeSealed (sealed_under keys f).seals
none-signing keys f = none-part_seals keys.key keys.out.fixed keys.out.counter (plains f)

-- what is logged of a frame that is sealed, if it is
abbrev pub NoneIn : Result SealedFrame BytesFault → Type 0
NoneIn (Ok s) = NoneOf IsEnvelopeSealed s.seals
NoneIn (Err why) = Unit {0}

pub none-secure_frame : (keys : Keys) (f : Frame) → NoneIn (secure_frame keys f)
none-secure_frame keys f = by_test (nat_lt (2 ^ 64 - 1) (keys.out.counter + length (plains f))) (nat_lt 1048576 (total f))
  where
    by_test : (spent long : Bool) → NoneIn (if spent then Err CounterSpent else if long then Err TooLong else Ok (sealed_under keys f))
    by_test true long = tt
    by_test false true = tt
    by_test false false = none-signing keys f

secure-case : (a : MonitorArrival) (s : Secured) (stage : Secured → MonitorStage) (seals : List SealEntry) (r : Result SealedFrame BytesFault)
    → NoneOf IsEnvelopeSealed seals → NoneIn r → Quiet a.own.saved (secure_sent a s stage seals r)
secure-case a s stage seals (Ok sealed) h n = quiet-goes_on a (stage (record s { keys = sealed.keys })) sealed.bytes (seals ++ sealed.seals) (none-append IsEnvelopeSealed seals sealed.seals h n)
secure-case a s stage seals (Err why) h n = quiet-refuses_bytes a why seals h

pub quiet-sends_secure : (a : MonitorArrival) (s : Secured) (stage : Secured → MonitorStage) (seals : List SealEntry) (f : Frame)
    → NoneOf IsEnvelopeSealed seals → Quiet a.own.saved (sends_secure a s stage seals f)
quiet-sends_secure a s stage seals f h = secure-case a s stage seals (secure_frame s.keys f) h (none-secure_frame s.keys f)

-- behind what opened before it
pub quiet-with_opened : (saved : KeptState) (opened : List SealEntry) (row : MonitorRow) → NoneOf IsEnvelopeSealed opened → Quiet saved row → Quiet saved (with_opened opened row)
quiet-with_opened saved opened row h q = record { entries = q.entries; seals = none-append IsEnvelopeSealed opened row.seals h q.seals; save = q.save; saved_is = q.saved_is }
