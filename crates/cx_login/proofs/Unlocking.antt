-- One part opens and then the next.
use Rattle.std.proofs.Common.{◌≡◌, ℕ, suc, ◌+◌, ◌<◌, ◌≤◌, List, [], ◌∷◌, ◌++◌, length, get_or, drop, Option, Some, None, refl, sym, ap, subst, ◌∙◌, append_assoc, drop-cons, length-drop, arith}
use Rattle.std.specs.Option.{option_map}
use Rattle.std.proofs.lemmas.List.{append-nil, nil_from_length}
use Rattle.cx_steps.specs.cx_journal.specs.declared.premises.KeyKind.TheVariants as kind
use Rattle.cx_steps.specs.declared.seals.SealEntry.{SealEntry}
use Rattle.cx_wire.specs.declared.tickets.TicketPart.{TicketPart}
use Rattle.cx_login.specs.Held.{Held}
use Rattle.cx_login.specs.Unlocking.{Unlocked, made, going_on, ◌>>=◌, told, told_each, Made}

-- ---- the tickets of a list

-- the log and the tickets, where these stand before what is still to be opened
pub record Ahead : Type 0 where
  pub seals : List SealEntry
  pub held : Option (List Held)

abbrev pub ahead : List SealEntry → List Held → Unlocked (List Held) → Ahead
ahead seals held u = record { seals = seals ++ u.seals; held = option_map (λ rest. held ++ rest) u.value }

abbrev at : List SealEntry → Option (List Held) → Ahead
at seals held = record { seals = seals; held = held }

-- the ticket of one entry, and then those of the others
abbrev pub one_told : Unlocked Held → Unlocked (List Held) → Unlocked (List Held)
one_told first others = first >>= λ held. others >>= λ rest. made (held ∷ rest)

pub told_each_at : (key : List ℕ) (parts : List TicketPart) (i : ℕ) (part : TicketPart) → i < length parts → part ≡ get_or parts i part
    → told_each key (drop i parts) ≡ one_told (told kind.Session key part) (told_each key (drop (i + 1) parts))
told_each_at key parts i part lt is =
    let e : suc i ≡ i + 1 = omega arith in
    ap (told_each key) (drop-cons parts i part lt ∙ ap (λ (p : TicketPart). p ∷ drop (suc i) parts) (sym is) ∙ ap (λ n. part ∷ drop n parts) e)

-- one ticket more
pub ahead_more : (first : Unlocked Held) (others : Unlocked (List Held)) (h : Held) (held more : List Held) (old new : List SealEntry)
    → Made first old new (Some h) → more ≡ held ++ h ∷ [] → ahead new more others ≡ ahead old held (one_told first others)
ahead_more first others h held more old new is pushed = by_value first.value is.0
  where
    by_others : (o : Option (List Held)) → at (new ++ others.seals) (option_map (λ rest. more ++ rest) o)
        ≡ ahead old held (going_on first.seals (Some h) (λ x. going_on others.seals o (λ rest. made (x ∷ rest))))
    by_others None = ap (λ (s : List SealEntry). at s None) (ap (λ (s : List SealEntry). s ++ others.seals) is.1 ∙ append_assoc old first.seals others.seals)
    by_others (Some rest) =
        ap (λ (s : List SealEntry). at s (Some (more ++ rest)))
        (ap (λ (s : List SealEntry). s ++ others.seals) is.1 ∙ append_assoc old first.seals others.seals ∙ ap (λ (s : List SealEntry). old ++ (first.seals ++ s)) (sym (append-nil others.seals)))
        ∙ ap (λ (hs : List Held). at (old ++ (first.seals ++ (others.seals ++ []))) (Some hs))
        (ap (λ (hs : List Held). hs ++ rest) pushed ∙ append_assoc held (h ∷ []) rest)

    by_value : (v : Option Held) → Some h ≡ v → ahead new more others ≡ ahead old held (going_on first.seals v (λ x. others >>= λ rest. made (x ∷ rest)))
    by_value None e = absurd cc
    by_value (Some x) e =
        let same : h ≡ x = cc in
        subst (λ (y : Held). ahead new more others ≡ ahead old held (going_on first.seals (Some y) (λ x. others >>= λ rest. made (x ∷ rest)))) same (by_others others.value)

-- one that isn't told
pub ahead_none : (first : Unlocked Held) (others all : Unlocked (List Held)) (held : List Held) (before old new : List SealEntry)
    → Made first old new None → ahead old held (one_told first others) ≡ ahead before [] all → Made all before new None
ahead_none first others all held before old new is e = by_value first.value is.0 e
  where
    of_all : (v : Option (List Held)) → at (old ++ first.seals) None ≡ at (before ++ all.seals) (option_map (λ rest. [] ++ rest) v) → None ≡ v
    of_all None e = refl
    of_all (Some rest) e = let no : None ≡ Some rest = ap (λ (a : Ahead). a.held) e in absurd cc

    by_value : (v : Option Held) → None ≡ v → ahead old held (going_on first.seals v (λ x. others >>= λ rest. made (x ∷ rest))) ≡ ahead before [] all → Made all before new None
    by_value None none e = (of_all all.value e, is.1 ∙ ap (λ (a : Ahead). a.seals) e)
    by_value (Some x) none e = absurd cc

-- all of them
pub ahead_all : (key : List ℕ) (parts : List TicketPart) (i : ℕ) (all : Unlocked (List Held)) (held : List Held) (before new : List SealEntry)
    → length parts ≤ i → ahead new held (told_each key (drop i parts)) ≡ ahead before [] all → Made all before new (Some held)
ahead_all key parts i all held before new le e =
    by_left (drop i parts) (nil_from_length (drop i parts) (omega (arith, length-drop i parts))) e
  where
    of_all : (v : Option (List Held)) → Some (held ++ []) ≡ option_map (λ rest. [] ++ rest) v → Some held ≡ v
    of_all None e = absurd cc
    of_all (Some rest) e = let same : held ++ [] ≡ rest = cc in ap (λ (hs : List Held). Some hs) (sym (append-nil held) ∙ same)

    by_left : (left : List TicketPart) → left ≡ [] → ahead new held (told_each key left) ≡ ahead before [] all → Made all before new (Some held)
    by_left [] none e = (of_all all.value (ap (λ (a : Ahead). a.held) e), sym (append-nil new) ∙ ap (λ (a : Ahead). a.seals) e)
    by_left (p ∷ left) none e = absurd cc
