-- The five laws of what is told: cookies go by one name each, and each law goes along.
use Rattle.std.proofs.Common.{◌≡◌, ◌==◌, ◌<◌, ◌+◌, ◌^◌, ℕ, List, [], length, refl, sym, arith, subst}
use Rattle.cx_journal.specs.Backed.{IsBackedBy}
use Rattle.cx_journal.specs.GidOnce.{GivesGidOnceBy}
use Rattle.cx_journal.specs.InSession.{IsInSessionBy}
use Rattle.cx_journal.specs.KeepsKeys.{KeepsKeysBy}
use Rattle.cx_journal.specs.Legal.{IsLegal}
use Rattle.cx_journal.specs.Places.{cookies_of}
use Rattle.cx_journal.specs.declared.entries.Entry.{Entry}
use Rattle.cx_laws_text.proofs.told.Order.{prefix-told}
use Rattle.cx_laws_text.proofs.told.Ranks.{name_in, same-name, told-is}
use Rattle.cx_laws_text.proofs.told.Renaming.{each-told, told_by}
use Rattle.cx_laws_text.proofs.told.Sessions.{in-session-told}
use Rattle.cx_laws_text.proofs.told.Tickets.{backed-told, gid-told, keeps-told}
use Rattle.cx_laws_text.specs.told.Told.{journal_told}

legal-by : (f : ℕ → ℕ) → ((a b : ℕ) → (f a == f b) ≡ (a == b)) → (entries : List Entry) → length entries < 2 ^ 64 → IsLegal entries → IsLegal (told_by f [] entries)
legal-by f same entries few h =
    let all : 0 + length entries < 2 ^ 64 = omega (arith, few) in
    record {
      backed = each-told f IsBackedBy IsBackedBy (λ before e low is. backed-told f before e is) [] entries all h.backed;
      in_session = each-told f IsInSessionBy IsInSessionBy (λ before e low is. in-session-told f same before e is) [] entries all h.in_session;
      keeps_keys = each-told f KeepsKeysBy KeepsKeysBy (λ before e low is. keeps-told f before low e is) [] entries all h.keeps_keys;
      prefix_of_sent = prefix-told f same entries h.prefix_of_sent;
      gid_once = each-told f GivesGidOnceBy GivesGidOnceBy (λ before e low is. gid-told f before e is) [] entries all h.gid_once;
    }

pub legal-told : (entries : List Entry) → length entries < 2 ^ 64 → IsLegal entries → IsLegal (journal_told entries)
legal-told entries few h =
    subst IsLegal (sym (told-is entries [] entries refl)) (legal-by (name_in (cookies_of entries)) (same-name (cookies_of entries)) entries few h)
