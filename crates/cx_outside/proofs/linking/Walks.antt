-- What holds along each path of links in memory.
use Rattle.std.proofs.Common.{◌≡◌, ℕ, zero, suc, ◌+◌, Bool, true, false, List, [], ◌∷◌, ◌++◌, length, drop, refl, sym, ap, subst, ◌∙◌, append_assoc, append-nil, length-append, take-append-drop, zero-add, add-zero, arith, rules}
use Rattle.std.specs.Prelude.{◌==◌, if◌then◌else◌, Some, None}
use Rattle.std.specs.List.{flat_map}
use Rattle.std.specs.Option.{option_to_list}
use Rattle.cx_outside.proofs.linking.Living.{none_less}
use Rattle.cx_outside.specs.linking.Acts.{LinkAct, Listened, Opened, Gave, Broke, Sent, Shut, Regarded}
use Rattle.cx_outside.specs.linking.Events.{came, new_link}
use Rattle.cx_outside.specs.linking.Laws.{begun_by, come_by, living_after, numbers_from, sent_by, AreOnLiving, IsActOnLiving}
use Rattle.cx_outside.specs.linking.Living.{lives, living_behind, without, IsOnLiving}
use Rattle.cx_outside.specs.linking.Paths.{Leads, Path}
use Rattle.cx_outside.specs.linking.Scripts.{Scripted, behind_in, counted, event_in, given, piece, takes_next, with_call, with_link, with_miss}
use Rattle.cx_outside.specs.declared.events.LinkCall.TheVariants as call
use Rattle.cx_outside.specs.declared.events.LinkEvent.{LinkEvent}
use Rattle.cx_outside.specs.declared.events.LinkEvent.TheVariants as event

-- ---- what is taken

same_taken : (s : Scripted) (room : ℕ) (events : List LinkEvent) → (behind_in s room events).taken ≡ s.taken
same_taken s room [] = refl
same_taken s room (event.Opened link ∷ events) = refl
same_taken s room (event.Bytes link count ∷ events) = refl
same_taken s room (event.Gone link ∷ events) = refl
same_taken s room (event.Quiet ∷ events) = refl

same_room : (s : Scripted) (room : ℕ) (events : List LinkEvent) → (behind_in s room events).room ≡ s.room
same_room s room [] = refl
same_room s room (event.Opened link ∷ events) = refl
same_room s room (event.Bytes link count ∷ events) = refl
same_room s room (event.Gone link ∷ events) = refl
same_room s room (event.Quiet ∷ events) = refl

taken_act : (s t : Scripted) (act : LinkAct) → Leads s act t → t.taken ≡ s.taken ++ sent_by act
taken_act s t (Listened at ok) leads = let e = leads.1 in search rules
taken_act s t (Opened to number) leads = let e = leads.1 in search rules
taken_act s t (Gave event bytes) (well, room, some, is, with', e) = ap (λ k. k.taken) e ∙ same_taken _ room s.events ∙ sym (append-nil s.taken)
taken_act s t Broke leads = let e = leads.1 in search rules
taken_act s t (Sent link bytes true) leads = let e = leads.1 in let ok = leads.0 in search rules
taken_act s t (Sent link bytes false) leads = let e = leads.1 in let ok = leads.0 in search rules
taken_act s t (Shut link) leads = search (rules, leads)
taken_act s t (Regarded link regard) leads = ap (λ k. k.taken) leads ∙ sym (append-nil s.taken)

room_act : (s t : Scripted) (act : LinkAct) → Leads s act t → length (sent_by act) + t.room ≡ s.room
room_act s t (Listened at ok) leads = let e = leads.1 in search rules
room_act s t (Opened to number) leads = let e = leads.1 in search rules
room_act s t (Gave event bytes) (well, room, some, is, with', e) = zero-add t.room ∙ ap (λ k. k.room) e ∙ same_room _ room s.events
room_act s t Broke leads = let e = leads.1 in search rules
room_act s t (Sent link bytes true) leads = let e = leads.1 in let ok = leads.0 in search rules
room_act s t (Sent link bytes false) leads = let e = leads.1 in let ok = leads.0 in search rules
room_act s t (Shut link) leads = search (rules, leads)
room_act s t (Regarded link regard) leads = zero-add t.room ∙ ap (λ k. k.room) leads

pub taken_path : (s t : Scripted) (acts : List LinkAct) → Path s acts t
    → (t.taken ≡ s.taken ++ flat_map sent_by acts) × (length (flat_map sent_by acts) + t.room ≡ s.room)
taken_path s t [] p = (ap (λ k. k.taken) p ∙ sym (append-nil s.taken), zero-add t.room ∙ ap (λ k. k.room) p)
taken_path s t (act ∷ acts) (m, leads, p) =
    let on = taken_path m t acts p in (
      on.0 ∙ ap (λ k. k ++ flat_map sent_by acts) (taken_act s m act leads) ∙ append_assoc s.taken (sent_by act) (flat_map sent_by acts),
      omega (arith, on.1, room_act s m act leads, length-append {A = ℕ}),
    )

-- ---- what comes

piece_came : (link n : ℕ) (bytes : List ℕ) → came (piece link n) bytes ++ drop n bytes ≡ bytes
piece_came link zero bytes = refl
piece_came link (suc n) bytes = let e : (suc n == 0) ≡ false = search rules in rw (e, take-append-drop (suc n) bytes) refl

event_came : (s : Scripted) (room : ℕ) (events : List LinkEvent) → came (event_in s room events) s.bytes ++ (behind_in s room events).bytes ≡ s.bytes
event_came s room [] = refl
event_came s room (event.Opened link ∷ events) = refl
event_came s room (event.Bytes link count ∷ events) = piece_came link _ s.bytes
event_came s room (event.Gone link ∷ events) = gone (lives link s.living) where
  gone : (b : Bool) → came (if b then event.Gone link else event.Quiet) s.bytes ++ s.bytes ≡ s.bytes
  gone true = refl
  gone false = refl
event_came s room (event.Quiet ∷ events) = refl

bytes_act : (s t : Scripted) (act : LinkAct) → Leads s act t → come_by act ++ t.bytes ≡ s.bytes
bytes_act s t (Listened at ok) leads = let e = leads.1 in search rules
bytes_act s t (Opened to number) leads = let e = leads.1 in search rules
bytes_act s t (Gave event bytes) (well, room, some, is, with', e) =
    rw (with', e, is) (event_came _ room s.events)
bytes_act s t Broke leads = let e = leads.1 in search rules
bytes_act s t (Sent link bytes ok) leads = let e = leads.1 in search rules
bytes_act s t (Shut link) leads = search (rules, leads)
bytes_act s t (Regarded link regard) leads = ap (λ k. k.bytes) leads

pub bytes_path : (s t : Scripted) (acts : List LinkAct) → Path s acts t → s.bytes ≡ flat_map come_by acts ++ t.bytes
bytes_path s t [] p = sym (ap (λ k. k.bytes) p)
bytes_path s t (act ∷ acts) (m, leads, p) =
    sym (bytes_act s m act leads) ∙ ap (λ k. come_by act ++ k) (bytes_path m t acts p)
    ∙ sym (append_assoc (come_by act) (flat_map come_by acts) t.bytes)

-- ---- numbers

numbers_on : (first m n : ℕ) → numbers_from first (m + n) ≡ numbers_from first m ++ numbers_from (first + m) n
numbers_on first zero n = let e : zero + n ≡ n = omega arith in let f : first + zero ≡ first = omega arith in rw (e, f) refl
numbers_on first (suc m) n =
    let e : suc m + n ≡ suc (m + n) = omega arith in
    let f : first + suc m ≡ suc first + m = omega arith in
    rw (e, f) (ap (λ k. first ∷ k) (numbers_on (suc first) m n))

-- the links that begin get the next numbers, and are counted
pub record Numbers (before now : ℕ) (begun : List ℕ) : Type 0 where
  pub in_order : begun ≡ numbers_from (suc before) (length begun)
  pub count : now ≡ before + length begun

none_begun : (before now : ℕ) → now ≡ before → Numbers before now []
none_begun before now e = record { in_order = refl; count = e ∙ sym (add-zero before) }

one_begun : (before : ℕ) → Numbers before (before + 1) ((before + 1) ∷ [])
one_begun before = let e : before + 1 ≡ suc before = omega arith in record { in_order = rw e refl; count = refl }

piece_begun : (link n links : ℕ) → Numbers links links (new_link (piece link n))
piece_begun link zero links = none_begun links links refl
piece_begun link (suc n) links = let e : (suc n == 0) ≡ false = search rules in rw e (none_begun links links refl)

event_begun : (s : Scripted) (room : ℕ) (events : List LinkEvent) → Numbers s.links (behind_in s room events).links (new_link (event_in s room events))
event_begun s room [] = none_begun s.links s.links refl
event_begun s room (event.Opened link ∷ events) = one_begun s.links
event_begun s room (event.Bytes link count ∷ events) = piece_begun link _ s.links
event_begun s room (event.Gone link ∷ events) = gone (lives link s.living) where
  gone : (b : Bool) → Numbers s.links s.links (new_link (if b then event.Gone link else event.Quiet))
  gone true = none_begun s.links s.links refl
  gone false = none_begun s.links s.links refl
event_begun s room (event.Quiet ∷ events) = none_begun s.links s.links refl

number_act : (s t : Scripted) (act : LinkAct) → Leads s act t → Numbers s.links t.links (begun_by act)
number_act s t (Listened at ok) leads = let e = leads.1 in none_begun s.links t.links (search rules)
number_act s t (Opened to number) (is, e) = rw (is, e) (opened (takes_next s 0)) where
  opened : (b : Bool) → Numbers s.links (if b then with_link (with_call (call.Opened (s.links + 1) to) (counted s)) else with_miss (counted s)).links (option_to_list (if b then Some (s.links + 1) else None))
  opened true = one_begun s.links
  opened false = none_begun s.links s.links refl
number_act s t (Gave event bytes) (well, room, some, is, with', e) = rw (e, is) (event_begun _ room s.events)
number_act s t Broke leads = let e = leads.1 in none_begun s.links t.links (search rules)
number_act s t (Sent link bytes ok) leads = let e = leads.1 in none_begun s.links t.links (search rules)
number_act s t (Shut link) leads = none_begun s.links t.links (search (rules, leads))
number_act s t (Regarded link regard) leads = none_begun s.links t.links (ap (λ k. k.links) leads)

pub number_path : (s t : Scripted) (acts : List LinkAct) → Path s acts t → Numbers s.links t.links (flat_map begun_by acts)
number_path s t [] p = none_begun s.links t.links (ap (λ k. k.links) p)
number_path s t (act ∷ acts) (m, leads, p) = both (number_act s m act leads) (number_path m t acts p) where
  both : {begun rest : List ℕ} → Numbers s.links m.links begun → Numbers m.links t.links rest → Numbers s.links t.links (begun ++ rest)
  both {begun = begun} {rest = rest} one on = record {
    in_order =
        let e : length (begun ++ rest) ≡ length begun + length rest = length-append begun rest in
        let f : suc s.links + length begun ≡ suc m.links = omega (arith, one.count) in
        rw (e, numbers_on (suc s.links) (length begun) (length rest), f, ← one.in_order, ← on.in_order) refl;
    count = omega (arith, one.count, on.count, length-append begun rest);
  }

-- ---- the links that live

-- an event comes on a link that lives, and leaves those that it is to leave
abbrev IsHeld : LinkEvent → List ℕ → List ℕ → Type 0
IsHeld event living now = IsOnLiving event living × (now ≡ living_behind event living)

given_none : (s : Scripted) (room link count : ℕ) → lives link s.living ≡ false → given s room link count ≡ 0
given_none s room link count dead = rw dead (omega arith)

piece_held : (link n : ℕ) (living : List ℕ) (b : Bool) → lives link living ≡ b → (lives link living ≡ false → n ≡ 0) → IsHeld (piece link n) living living
piece_held link zero living b is none = (tt, refl)
piece_held link (suc n) living true is none = let e : (suc n == 0) ≡ false = search rules in rw e (is, refl)
piece_held link (suc n) living false is none = absurd (omega (arith, none is))

event_held : (s : Scripted) (room : ℕ) (events : List LinkEvent) → IsHeld (event_in s room events) s.living (behind_in s room events).living
event_held s room [] = (tt, refl)
event_held s room (event.Opened link ∷ events) = (tt, refl)
event_held s room (event.Bytes link count ∷ events) =
    piece_held link (given s room link count) s.living (lives link s.living) refl (given_none s room link count)
event_held s room (event.Gone link ∷ events) = gone (lives link s.living) refl where
  gone : (b : Bool) → lives link s.living ≡ b → IsHeld (if b then event.Gone link else event.Quiet) s.living (without link s.living)
  gone true is = (is, refl)
  gone false is = (tt, none_less link s.living is)
event_held s room (event.Quiet ∷ events) = (tt, refl)

living_act : (s t : Scripted) (act : LinkAct) → Leads s act t → IsActOnLiving act s.living × (t.living ≡ living_after act s.living)
living_act s t (Listened at ok) leads = let e = leads.1 in (tt, search rules)
living_act s t (Opened to number) leads = let e = leads.1 in let is = leads.0 in (tt, search rules)
living_act s t (Gave event bytes) (well, room, some, is, with', e) = rw (e, is) (event_held (counted s) room s.events)
living_act s t Broke leads = let e = leads.1 in (tt, search rules)
living_act s t (Sent link bytes ok) leads = let e = leads.1 in (tt, search rules)
living_act s t (Shut link) leads = rw leads (tt, shut (lives link s.living) refl) where
  shut : (b : Bool) → lives link s.living ≡ b → (if b then record s { calls = s.calls ++ call.Shut link ∷ []; living = without link s.living } else s).living ≡ without link s.living
  shut true is = refl
  shut false is = sym (none_less link s.living is)
living_act s t (Regarded link regard) leads = (tt, ap (λ k. k.living) leads)

pub living_path : (s t : Scripted) (acts : List LinkAct) → Path s acts t → AreOnLiving s.living acts
living_path s t [] p = tt
living_path s t (act ∷ acts) (m, leads, p) =
    let held = living_act s m act leads in
    (held.0, subst (λ k. AreOnLiving k acts) held.1 (living_path m t acts p))
