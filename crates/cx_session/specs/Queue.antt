-- What a client has sent in a session and no acknowledgement has covered ("msgr2 protocol": a client keeps each message
-- until its ACK, and sends what is left again after a reconnect).
use Rattle.std.specs.Prelude.{ℕ, ◌≡◌, ◌+◌, ◌^◌, ◌-◌, ◌==◌, List, [], ◌∷◌, ◌++◌, length, filter, nat_lt, nat_le, if◌then◌else◌, Result, Ok, Err}
use Rattle.cx_base.specs.declared.operations.Operation.{Operation}
use Rattle.cx_session.specs.declared.outbox.QueueFault.{QueueFault}
use Rattle.cx_session.specs.declared.outbox.QueueFault.TheVariants.{QueueFull, Spent}

-- the last sequence number given, and the operations that wait, each with its number
pub record Queue : Type 0 where
  pub last : ℕ
  pub waiting : List (ℕ × Operation)

-- a queue as it is kept, with the count of operations for which memory stands ready; no reply depends on it
pub record KeptQueue : Type 0 where
  pub queue : Queue
  pub room : ℕ

-- nothing was sent yet
abbrev pub empty_queue : Queue
empty_queue = record { last = 0; waiting = [] }

-- the numbers rise by one up to the last one given
abbrev pub IsRun : ℕ → List (ℕ × Operation) → Type 0
IsRun last [] = Unit {0}
IsRun last (ask ∷ asks) = (ask.0 + length asks ≡ last) × IsRun last asks

-- what a push answers: the next number, unless 1,024 operations wait or no number is left
abbrev pub push_reply : Queue → Result ℕ QueueFault
push_reply queue =
    if nat_le 1024 (length queue.waiting)
    then Err (QueueFull 1024)
    else (if queue.last == 2 ^ 64 - 1 then Err Spent else Ok (queue.last + 1))

-- the queue behind a push
abbrev pub pushed : Queue → Operation → Queue
pushed queue ask =
    let number : ℕ = queue.last + 1 in
    record { last = number; waiting = queue.waiting ++ (number, ask) ∷ [] }

-- the queue behind an acknowledgement of all up to this number
abbrev pub acknowledged : Queue → ℕ → Queue
acknowledged queue seq = record queue { waiting = filter (λ ask. nat_lt seq ask.0) queue.waiting }
