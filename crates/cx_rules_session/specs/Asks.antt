-- What a rule comes to that goes on by the replies of a book: it is finished, or it makes a call and goes on by the reply. So the rule holds no
-- book: the book may stand with the one who goes by the rule, or with others, who reply.
use Rattle.std.specs.Prelude.{List, [], ◌∷◌}

pub data Asks (C R X : Type 0) : Type 0 where
  Finished : X → Asks C R X
  Asking : C → (R → Asks C R X) → Asks C R X

module _ {C R X : Type 0} where
  -- behind these replies
  abbrev pub answered : Asks C R X → List R → Asks C R X
  answered rule [] = rule
  answered (Finished x) (reply ∷ replies) = Finished x
  answered (Asking call next) (reply ∷ replies) = answered (next reply) replies

module _ {B C R X : Type 0} (book_reply : B → C → R) (book_after : B → C → B) where
  -- what it comes to with a book that replies, and the book behind it
  abbrev pub with_book : B → Asks C R X → X × B
  with_book book (Finished x) = (x, book)
  with_book book (Asking call next) = with_book (book_after book call) (next (book_reply book call))

-- what is made of what it comes to
abbrev pub asks_map : {C R X Y : Type 0} → (X → Y) → Asks C R X → Asks C R Y
asks_map f (Finished x) = Finished (f x)
asks_map f (Asking call next) = Asking call (λ reply. asks_map f (next reply))
