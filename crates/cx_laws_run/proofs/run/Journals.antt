-- The laws of a journal, of the laws of its entries.
use Rattle.std.proofs.Common.{◌≡◌, ℕ, Bool, false, true, List, [], ◌∷◌, ◌++◌, Option, None, refl, sym, ap, ◌∙◌, subst}
use Rattle.std.specs.List.{AllByRecursion, cons_option, filter_map}
use Rattle.cx_base.specs.Names.{Name}
use Rattle.cx_base.specs.declared.kinds.Access.{Access}
use Rattle.cx_base.specs.declared.operations.Operation.{Operation}
use Rattle.cx_journal.specs.Backed.{IsBackedBy}
use Rattle.cx_journal.specs.Behind.{EachBehind}
use Rattle.cx_journal.specs.Enforced.{IsEnforcedBy}
use Rattle.cx_journal.specs.GidOnce.{GivesGidOnceBy}
use Rattle.cx_journal.specs.InSession.{IsInSessionBy}
use Rattle.cx_journal.specs.KeepsKeys.{KeepsKeysBy}
use Rattle.cx_journal.specs.PrefixOfSent.{IsPrefixOfSent, all_handled_under, handled_under, sent_under}
use Rattle.cx_journal.specs.Truthful.{IsTruthfulBy}
use Rattle.cx_journal.specs.declared.entries.Entry.{Entry}
use Rattle.cx_journal.specs.declared.entries.Entry.TheVariants as journal
use Rattle.cx_laws_links.specs.cx_laws_tickets.specs.cx_laws_keys.proofs.keys.Journal.{EntryLaw, IsLoginEntry, entered, login-told}
use Rattle.cx_laws_links.specs.cx_laws_tickets.specs.cx_laws_keys.proofs.keys.Uses.{WholeRun}
use Rattle.cx_laws_links.specs.cx_laws_tickets.specs.cx_laws_keys.specs.keys.KeepsExpiry.{KeepsExpiryBy}
use Rattle.cx_laws_run.specs.run.Laws.{KeepsLaws, KeepsTickets}

behind-map : (P Q : List Entry → Entry → Type 0) → ((earlier : List Entry) (e : Entry) → P earlier e → Q earlier e) → (J es : List Entry) → EachBehind P J es → EachBehind Q J es
behind-map P Q f J [] h = tt
behind-map P Q f J (e ∷ es) h = (f J e h.0, behind-map P Q f (J ++ e ∷ []) es h.1)

pub behind-append : (P : List Entry → Entry → Type 0) (J xs ys : List Entry) → EachBehind P J xs → EachBehind P (entered J xs) ys → EachBehind P J (xs ++ ys)
behind-append P J [] ys h g = g
behind-append P J (x ∷ xs) ys h g = (h.0, behind-append P (J ++ x ∷ []) xs ys h.1 g)

-- ---- the laws that have no entries to speak of yet

-- what is handled or answered is no entry of a login
record IsNoHandling (e : Entry) : Type 0 where
  in_session : (earlier : List Entry) → IsInSessionBy earlier e
  enforced : (has_handler : Access → Bool) (earlier : List Entry) → IsEnforcedBy has_handler earlier e
  truthful : (entries earlier : List Entry) → IsTruthfulBy entries earlier e
  under : (cookie : ℕ) (entity : Name) (earlier : List Entry) → handled_under cookie entity earlier e ≡ None

no-handling : (e : Entry) → IsLoginEntry e → IsNoHandling e
no-handling (journal.Saved x) h = record { in_session = λ j. tt; enforced = λ f j. tt; truthful = λ es j. tt; under = λ c n j. refl }
no-handling (journal.Issued x) h = record { in_session = λ j. tt; enforced = λ f j. tt; truthful = λ es j. tt; under = λ c n j. refl }
no-handling (journal.Refused x) h = record { in_session = λ j. tt; enforced = λ f j. tt; truthful = λ es j. tt; under = λ c n j. refl }
no-handling (journal.Restarted x) h = record { in_session = λ j. tt; enforced = λ f j. tt; truthful = λ es j. tt; under = λ c n j. refl }
no-handling (journal.Leaked x) h = record { in_session = λ j. tt; enforced = λ f j. tt; truthful = λ es j. tt; under = λ c n j. refl }
no-handling (journal.Fetched x) h = record { in_session = λ j. tt; enforced = λ f j. tt; truthful = λ es j. tt; under = λ c n j. refl }
no-handling (journal.Looked x) h = absurd h
no-handling (journal.Admitted x) h = absurd h
no-handling (journal.Resumed x) h = absurd h
no-handling (journal.Sent x) h = absurd h
no-handling (journal.Handled x) h = absurd h
no-handling (journal.Answered x) h = absurd h
no-handling (journal.Ended x) h = absurd h
no-handling (journal.Broken x) h = absurd h

-- ---- nothing is handled

all-login : (run : WholeRun) → run.incoming_links ≡ false → (J es : List Entry) → EachBehind (EntryLaw run) J es → AllByRecursion IsLoginEntry es
all-login run none J [] h = tt
all-login run none J (e ∷ es) h = (h.0.login none, all-login run none (J ++ e ∷ []) es h.1)

all-front : (xs ys : List Entry) → AllByRecursion IsLoginEntry (xs ++ ys) → AllByRecursion IsLoginEntry xs
all-front [] ys h = tt
all-front (x ∷ xs) ys h = (h.0, all-front xs ys h.1)

none-handled : (cookie : ℕ) (entity : Name) (earlier es : List Entry) → AllByRecursion IsLoginEntry es → all_handled_under cookie entity earlier es ≡ []
none-handled cookie entity earlier [] h = refl
none-handled cookie entity earlier (e ∷ es) h =
    let rest : List (ℕ × Operation) = all_handled_under cookie entity (earlier ++ e ∷ []) es in
    ap (λ (o : Option (ℕ × Operation)). cons_option o rest) ((no-handling e h.0).under cookie entity earlier) ∙ none-handled cookie entity (earlier ++ e ∷ []) es h.1

prefix : (es : List Entry) → AllByRecursion IsLoginEntry es → IsPrefixOfSent es
prefix es h before after is cookie entity unleaked =
    let all : AllByRecursion IsLoginEntry (before ++ after) = subst (λ (l : List Entry). AllByRecursion IsLoginEntry l) is h in
    let none : all_handled_under cookie entity [] before ≡ [] = none-handled cookie entity [] before (all-front before after all) in
    let sent : List (ℕ × Operation) = filter_map (sent_under cookie entity) before in
    (sent, ap (λ (l : List (ℕ × Operation)). l ++ sent) (sym none))

-- of a run to whose daemons no clients come
pub keeps-laws : (run : WholeRun) → run.incoming_links ≡ false → (has_handler : Access → Bool) (es : List Entry) → EachBehind (EntryLaw run) [] es → KeepsLaws has_handler es
keeps-laws run none has_handler es h = record {
  legal = record {
    backed = behind-map (EntryLaw run) IsBackedBy (λ j e law. (login-told j e (law.login none)).backed) [] es h;
    in_session = behind-map (EntryLaw run) IsInSessionBy (λ j e law. (no-handling e (law.login none)).in_session j) [] es h;
    keeps_keys = behind-map (EntryLaw run) KeepsKeysBy (λ j e law. (login-told j e (law.login none)).keeps_keys) [] es h;
    prefix_of_sent = prefix es (all-login run none [] es h);
    gid_once = behind-map (EntryLaw run) GivesGidOnceBy (λ j e law. law.gid_once) [] es h;
  };
  enforced = behind-map (EntryLaw run) (IsEnforcedBy has_handler) (λ j e law. (no-handling e (law.login none)).enforced has_handler j) [] es h;
  truthful = behind-map (EntryLaw run) (IsTruthfulBy es) (λ j e law. (no-handling e (law.login none)).truthful es j) [] es h;
}

-- of every run whose tickets are good
pub keeps-tickets : (run : WholeRun) → run.good ≡ true → (es : List Entry) → EachBehind (EntryLaw run) [] es → KeepsTickets es
keeps-tickets run good es h = record {
  backed = behind-map (EntryLaw run) IsBackedBy (λ j e law. (law.told good).backed) [] es h;
  keeps_keys = behind-map (EntryLaw run) KeepsKeysBy (λ j e law. (law.told good).keeps_keys) [] es h;
  keeps_expiry = behind-map (EntryLaw run) KeepsExpiryBy (λ j e law. (law.told good).keeps_expiry) [] es h;
  gid_once = behind-map (EntryLaw run) GivesGidOnceBy (λ j e law. law.gid_once) [] es h;
}
