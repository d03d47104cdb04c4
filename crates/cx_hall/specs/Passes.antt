-- What a pass is to a contract, and what a call makes of it.
use Rattle.std.specs.Prelude.{ℕ, ◌≡◌, ◌+◌, List, [], ◌∷◌, ◌++◌, length, nat_eq, if◌then◌else◌}
use mathlib.Core.List.{IsPrefix}
use Rattle.cx_base.specs.Names.{Name}
use Rattle.cx_session.specs.declared.call.BookCall.{BookCall}
use Rattle.cx_session.specs.declared.call.BookCall.TheVariants.{Check}
use Rattle.cx_session.specs.declared.call.BookReply.{BookReply}
use Rattle.cx_hall.specs.declared.entry.HallEntry.{HallEntry}
use Rattle.cx_hall.specs.History.{entry, reply_behind}

-- its number, the front of the history that it has seen, and its own entries, each with its place
pub record PassState (O : Type 0) : Type 0 where
  pub number : ℕ
  pub seen : List (HallEntry O)
  pub mine : List (ℕ × HallEntry O)

module _ {O : Type 0} where
  -- the entries of one pass, each with its place; the first entry stands at `place`
  abbrev pub own : ℕ → ℕ → List (HallEntry O) → List (ℕ × HallEntry O)
  own number place [] = []
  own number place (e ∷ es) = if nat_eq e.by number then (place, e) ∷ own number (place + 1) es else own number (place + 1) es

  module _ (entity_of : O → Name) (gid_of : O → ℕ) where
    -- The call made the entry at this place: it stands last of a history that begins with all that the pass had seen, and
    -- its answer is the book's behind all before it.
    abbrev pub Made : PassState O → BookCall O → BookReply → ℕ → PassState O → Type 0
    Made p call reply place q =
        (log : List (HallEntry O)) × IsPrefix p.seen log × (place ≡ length log) × (reply ≡ reply_behind entity_of gid_of log call)
        × (q ≡ record { number = p.number; seen = log ++ entry p.number call reply ∷ []; mine = p.mine ++ (place, entry p.number call reply) ∷ [] })

    -- The answer is the book's behind the first entries of the history, of which there are as many as `place` says. They
    -- begin with all that the pass had seen, and no entry was made.
    abbrev pub Looked : PassState O → BookCall O → BookReply → ℕ → PassState O → Type 0
    Looked p call reply place q =
        IsPrefix p.seen q.seen × (place ≡ length q.seen) × (reply ≡ reply_behind entity_of gid_of q.seen call) × (q.number ≡ p.number)
        × (q.mine ≡ p.mine)

    -- A call is answered at a place of the history: a check without an entry, and any other call by one.
    abbrev pub Answered : PassState O → BookCall O → BookReply → ℕ → PassState O → Type 0
    Answered p (Check number epoch seq) = Looked p (Check number epoch seq)
    Answered p call = Made p call
