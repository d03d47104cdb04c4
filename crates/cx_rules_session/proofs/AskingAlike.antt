-- Two rules that ask alike come to the same with one book, and by the same replies.
use Rattle.std.proofs.Common.{◌≡◌, List, [], ◌∷◌, refl, subst}
use Rattle.cx_rules_session.specs.Asks.{Asks, Finished, Asking, answered, asks_map, with_book}
use Rattle.cx_rules_session.specs.Forgets.{AskAlike}

-- what is related may be made of what is related
pub asks_map-alike : {C R X Y V W : Type 0} (Related : X → Y → Type 0) (Same : V → W → Type 0) (f : X → V) (g : Y → W)
    → ((x : X) (y : Y) → Related x y → Same (f x) (g y)) → (a : Asks C R X) (b : Asks C R Y) → AskAlike Related a b → AskAlike Same (asks_map f a) (asks_map g b)
asks_map-alike Related Same f g each (Finished x) (Finished y) h = each x y h
asks_map-alike Related Same f g each (Asking call next) (Asking other after) h =
    (h.0, λ reply. asks_map-alike Related Same f g each (next reply) (after reply) (h.1 reply))
asks_map-alike Related Same f g each (Finished x) (Asking other after) h = absurd h
asks_map-alike Related Same f g each (Asking call next) (Finished y) h = absurd h

-- what is related so is related otherwise too
pub related-alike : {C R X Y : Type 0} (Related Other : X → Y → Type 0) → ((x : X) (y : Y) → Related x y → Other x y) → (a : Asks C R X) (b : Asks C R Y) → AskAlike Related a b → AskAlike Other a b
related-alike Related Other each (Finished x) (Finished y) h = each x y h
related-alike Related Other each (Asking call next) (Asking other after) h = (h.0, λ reply. related-alike Related Other each (next reply) (after reply) (h.1 reply))
related-alike Related Other each (Finished x) (Asking other after) h = absurd h
related-alike Related Other each (Asking call next) (Finished y) h = absurd h

-- by the same replies
pub answered-alike : {C R X Y : Type 0} (Related : X → Y → Type 0) (a : Asks C R X) (b : Asks C R Y) → AskAlike Related a b → (replies : List R)
    → AskAlike Related (answered a replies) (answered b replies)
answered-alike Related a b h [] = h
answered-alike Related (Finished x) (Finished y) h (reply ∷ replies) = h
answered-alike Related (Asking call next) (Asking other after) h (reply ∷ replies) = answered-alike Related (next reply) (after reply) (h.1 reply) replies
answered-alike Related (Finished x) (Asking other after) h (reply ∷ replies) = absurd h
answered-alike Related (Asking call next) (Finished y) h (reply ∷ replies) = absurd h

-- with one book
module _ {B C R X Y : Type 0} (book_reply : B → C → R) (book_after : B → C → B) (Related : X → Y → Type 0) where
  pub with_book-alike : (book : B) (a : Asks C R X) (b : Asks C R Y) → AskAlike Related a b
      → Related (with_book book_reply book_after book a).0 (with_book book_reply book_after book b).0
      × ((with_book book_reply book_after book a).1 ≡ (with_book book_reply book_after book b).1)
  with_book-alike book (Finished x) (Finished y) h = (h, refl)
  with_book-alike book (Asking call next) (Asking other after) h =
      let behind : C → Type 0 = λ c.
      Related (with_book book_reply book_after (book_after book call) (next (book_reply book call))).0
      (with_book book_reply book_after (book_after book c) (after (book_reply book c))).0
      × ((with_book book_reply book_after (book_after book call) (next (book_reply book call))).1
      ≡ (with_book book_reply book_after (book_after book c) (after (book_reply book c))).1)
      in
      subst behind h.0 (with_book-alike (book_after book call) (next (book_reply book call)) (after (book_reply book call)) (h.1 (book_reply book call)))
  with_book-alike book (Finished x) (Asking other after) h = absurd h
  with_book-alike book (Asking call next) (Finished y) h = absurd h
