-- Each entry keeps each rule exactly where the five laws hold.
use Rattle.std.proofs.Common.{◌≡◌, List, [], ◌∷◌, ◌++◌, refl, sym, ◌∙◌, append-nil, append_assoc}
use Rattle.std.specs.List.{filter_map}
use Rattle.cx_journal.specs.Backed.{IsBackedBy}
use Rattle.cx_journal.specs.Behind.{EachBehind}
use Rattle.cx_journal.specs.GidOnce.{GivesGidOnceBy}
use Rattle.cx_journal.specs.InSession.{IsInSessionBy}
use Rattle.cx_journal.specs.KeepsKeys.{KeepsKeysBy}
use Rattle.cx_journal.specs.Legal.{IsLegal}
use Rattle.cx_journal.specs.PrefixOfSent.{IsPrefixOfSent, sent_under}
use Rattle.cx_journal.specs.declared.entries.Entry.{Entry}
use Rattle.cx_journal.specs.declared.entries.Entry.TheVariants as entry
use Rattle.cx_audit.specs.ruled.Rules.{KeepsAll, KeepsOrderBy}
use Rattle.cx_audit.specs.declared.rules.Rule.TheVariants as rule
use Rattle.cx_audit.proofs.ruled.Order.{prefix_all, sent_push}

pub keeps_each : (whole earlier : List Entry) (e : Entry) → IsBackedBy earlier e → IsInSessionBy earlier e → KeepsKeysBy earlier e → KeepsOrderBy whole earlier e → GivesGidOnceBy earlier e → KeepsAll whole earlier e
keeps_each whole earlier e a b c d f rule.Backed = a
keeps_each whole earlier e a b c d f rule.InSession = b
keeps_each whole earlier e a b c d f rule.KeepsKeys = c
keeps_each whole earlier e a b c d f rule.PrefixOfSent = d
keeps_each whole earlier e a b c d f rule.GidOnce = f

-- what holds of each entry is weakened
pub each_weaker : (P Q : List Entry → Entry → Type 0) → ((earlier : List Entry) (e : Entry) → P earlier e → Q earlier e) → (earlier es : List Entry) → EachBehind P earlier es → EachBehind Q earlier es
each_weaker P Q weaker earlier [] each = tt
each_weaker P Q weaker earlier (e ∷ es) each = (weaker earlier e each.0, each_weaker P Q weaker (earlier ++ e ∷ []) es each.1)

pub each_front : (P : List Entry → Entry → Type 0) (earlier xs ys : List Entry) → EachBehind P earlier (xs ++ ys) → EachBehind P earlier xs
each_front P earlier [] ys each = tt
each_front P earlier (x ∷ xs) ys each = (each.0, each_front P (earlier ++ x ∷ []) xs ys each.1)

all_five : (whole earlier es : List Entry) → EachBehind IsBackedBy earlier es → EachBehind IsInSessionBy earlier es → EachBehind KeepsKeysBy earlier es
    → EachBehind (KeepsOrderBy whole) earlier es → EachBehind GivesGidOnceBy earlier es → EachBehind (KeepsAll whole) earlier es
all_five whole earlier [] a b c d f = tt
all_five whole earlier (e ∷ es) a b c d f =
    (keeps_each whole earlier e a.0 b.0 c.0 d.0 f.0, all_five whole (earlier ++ e ∷ []) es a.1 b.1 c.1 d.1 f.1)

order_at : (whole earlier : List Entry) (e : Entry) (rest : List Entry) → whole ≡ earlier ++ e ∷ rest → IsPrefixOfSent whole → KeepsOrderBy whole earlier e
order_at whole earlier (entry.Handled h) rest place law = λ session is unleaked.
    let here = law (earlier ++ entry.Handled h ∷ []) rest (place ∙ sym (append_assoc earlier (entry.Handled h ∷ []) rest)) h.cookie session.entity unleaked in
    (here.0, sym (append-nil (filter_map (sent_under h.cookie session.entity) earlier)) ∙ sym (sent_push h.cookie session.entity earlier (entry.Handled h)) ∙ here.1)
order_at whole earlier e rest place law = tt

order_each : (whole earlier es : List Entry) → whole ≡ earlier ++ es → IsPrefixOfSent whole → EachBehind (KeepsOrderBy whole) earlier es
order_each whole earlier [] place law = tt
order_each whole earlier (e ∷ es) place law =
    (order_at whole earlier e es place law, order_each whole (earlier ++ e ∷ []) es (place ∙ sym (append_assoc earlier (e ∷ []) es)) law)

pub kept_from : (entries : List Entry) → IsLegal entries → EachBehind (KeepsAll entries) [] entries
kept_from entries legal = all_five entries [] entries legal.backed legal.in_session legal.keeps_keys (order_each entries [] entries refl legal.prefix_of_sent) legal.gid_once

pub order_kept : (whole earlier es : List Entry) → EachBehind (KeepsAll whole) earlier es → EachBehind (KeepsOrderBy whole) earlier es
order_kept whole earlier es each = each_weaker (KeepsAll whole) (KeepsOrderBy whole) (λ old e keeps. keeps rule.PrefixOfSent) earlier es each

front_kept : (whole entries before after : List Entry) → entries ≡ before ++ after → EachBehind (KeepsAll whole) [] entries → EachBehind (KeepsAll whole) [] before
front_kept whole entries before after place each =
    let own : EachBehind (KeepsAll whole) [] (before ++ after) = rw place at each in
    each_front (KeepsAll whole) [] before after own

in_order : (entries : List Entry) → EachBehind (KeepsAll entries) [] entries → IsPrefixOfSent entries
in_order entries each before after place c n un =
    prefix_all entries [] before c n un (order_kept entries [] before (front_kept entries entries before after place each)) ([], refl)

pub legal_from : (entries : List Entry) → EachBehind (KeepsAll entries) [] entries → IsLegal entries
legal_from entries each = record {
  backed = each_weaker (KeepsAll entries) IsBackedBy (λ old e keeps. keeps rule.Backed) [] entries each;
  in_session = each_weaker (KeepsAll entries) IsInSessionBy (λ old e keeps. keeps rule.InSession) [] entries each;
  keeps_keys = each_weaker (KeepsAll entries) KeepsKeysBy (λ old e keeps. keeps rule.KeepsKeys) [] entries each;
  prefix_of_sent = in_order entries each;
  gid_once = each_weaker (KeepsAll entries) GivesGidOnceBy (λ old e keeps. keeps rule.GidOnce) [] entries each;
}
