-- A rule that asks a book, with a book of its own.
use Rattle.std.proofs.Common.{◌≡◌, refl}
use Rattle.cx_daemon_session.specs.cx_rules_session.specs.Asks.{Asks, Finished, Asking, asks_map, with_book}

module _ {B C R X Y : Type 0} (book_reply : B → C → R) (book_after : B → C → B) (f : X → Y) where
  -- what is made of what it comes to
  pub with_book_map : (book : B) (rule : Asks C R X)
      → with_book book_reply book_after book (asks_map f rule) ≡ (f (with_book book_reply book_after book rule).0, (with_book book_reply book_after book rule).1)
  with_book_map book (Finished x) = refl
  with_book_map book (Asking call next) = with_book_map (book_after book call) (next (book_reply book call))
