-- Links of several kinds: what is alike of a row or a turn of a kind is so of it as one of the node.
use Rattle.std.proofs.Common.{◌≡◌, ℕ, Bool, true, false, cond, List, [], ◌∷◌, ◌++◌, map, Option, Some, None, Result, Ok, Err, refl, sym, ap, ◌∙◌}
use Rattle.std.specs.Prelude.{IfSome, filter, not}
use Rattle.std.specs.List.{AllByRecursion, list_all, list_any}
use Rattle.std.specs.Option.{option_map}
use Rattle.cx_session.specs.cx_base.specs.declared.nodes.NodeName.{NodeName}
use Rattle.cx_authorize.specs.cx_journal.specs.declared.entries.Entry.{Entry}
use Rattle.cx_authorize.specs.cx_journal.specs.declared.outcomes.Reason.{Reason}
use Rattle.cx_rules.specs.Abridged.{IsWithin, abridged_row, cut, unsigned}
use Rattle.cx_rules.specs.Holdings.{MonClient}
use Rattle.cx_rules.specs.Links.{Link}
use Rattle.cx_rules.specs.Requests.{Requests, behind_request, first_open, open_or, sends_request}
use Rattle.cx_rules.specs.Rows.{Arrival, Row, Turned, Waits, Refuses, Handles, at, lifted, refused_entry}
use Rattle.cx_rules.specs.Secured.{SealedFrame, Secured, under}
use Rattle.cx_rules.specs.declared.requests.Want.{Want}
use Rattle.cx_rules.proofs.Abridging.{Alike, Forgets}
use Rattle.cx_rules.proofs.AlikeRows.{SameAhead, SameTurn, goes-alike, refuses-alike}
use Rattle.cx_rules_session.specs.Kinds.{entered_before, of_kind, row_of_kind, turn_of_kind}

-- ---- of a kind

module _ {S T : Type 0} where
  -- links of this kind are abridged as the kind's own
  abbrev pub FollowsKind : (S → T) → (Link S → Link S) → (Link T → Link T) → Type 0
  FollowsKind kind own whole = (l : Link S) → whole (of_kind kind l) ≡ of_kind kind (own l)

  link-of-kind : (kind : S → T) (own : Link S → Link S) (whole : Link T → Link T) → FollowsKind kind own whole → (link : Option (Link S))
      → option_map whole (option_map (of_kind kind) link) ≡ option_map (of_kind kind) (option_map own link)
  link-of-kind kind own whole follows None = refl
  link-of-kind kind own whole follows (Some l) = let some : Link T → Option (Link T) = λ k. Some k in ap some (follows l)

  within-of-kind : (kind : S → T) (link : Option (Link S)) → IfSome link IsWithin → IfSome (option_map (of_kind kind) link) IsWithin
  within-of-kind kind None w = tt
  within-of-kind kind (Some l) w = w

module _ {Part Own S T : Type 0} (put : Part → Own) (kind : S → T) (own : Link S → Link S) (whole : Link T → Link T) (follows : FollowsKind kind own whole) where
  row-kept : (r : Row Part S) → abridged_row whole (row_of_kind put kind r) ≡ row_of_kind put kind (abridged_row own r)
  row-kept r =
      let with : Option (Link T) → Row Own T = λ link. record (row_of_kind put kind r) { link = link } in
      ap with (link-of-kind kind own whole follows r.link)

  pub row-of-kind-alike : (r s : Row Part S) → Alike own r s → Alike whole (row_of_kind put kind r) (row_of_kind put kind s)
  row-of-kind-alike r s alike =
      let as_one : Row Part S → Row Own T = λ row. row_of_kind put kind row in
      record { kept = row-kept r ∙ ap as_one alike.kept ∙ sym (row-kept s); within = within-of-kind kind s.link alike.within }

  pub turn-of-kind-alike : (t u : Turned Part S) → SameTurn own t u → SameTurn whole (turn_of_kind put kind t) (turn_of_kind put kind u)
  turn-of-kind-alike Waits Waits same = tt
  turn-of-kind-alike (Refuses why opened) (Refuses cause found) same = same
  turn-of-kind-alike (Handles r) (Handles s) same = row-of-kind-alike r s same
  turn-of-kind-alike Waits (Refuses why opened) same = absurd same
  turn-of-kind-alike Waits (Handles s) same = absurd same
  turn-of-kind-alike (Refuses why opened) Waits same = absurd same
  turn-of-kind-alike (Refuses why opened) (Handles s) same = absurd same
  turn-of-kind-alike (Handles r) Waits same = absurd same
  turn-of-kind-alike (Handles r) (Refuses why opened) same = absurd same

-- ---- what is entered before a row

module _ {Own Stage : Type 0} (abridged : Link Stage → Link Stage) where
  pub entered-before-alike : (first : Entry) (r s : Row Own Stage) → Alike abridged r s → Alike abridged (entered_before first r) (entered_before first s)
  entered-before-alike first r s alike =
      let with : Row Own Stage → Row Own Stage = λ row. entered_before first row in record { kept = ap with alike.kept; within = alike.within }

  -- that something was refused on a link, by its number
  pub refused-before-alike : (me : NodeName) (n m : ℕ) (why : Reason) (r s : Row Own Stage) → n ≡ m → Alike abridged r s
      → Alike abridged (entered_before (refused_entry me n why) r) (entered_before (refused_entry me m why) s)
  refused-before-alike me n m why r s e alike =
      let numbered : ℕ → Row Own Stage = λ k. entered_before (refused_entry me k why) r in
      let same = entered-before-alike (refused_entry me m why) r s alike in
      record { kept = ap (λ k. abridged_row abridged (numbered k)) e ∙ same.kept; within = alike.within }

-- ---- what may be forgotten of a kind

module _ {S T : Type 0} (kind : S → T) (own : Link S → Link S) (whole : Link T → Link T) (forgets : Forgets own) (follows : FollowsKind kind own whole) where
  pub number-of-kind : (k : Link S) → (whole (of_kind kind k)).number ≡ k.number
  number-of-kind k = let number : Link T → ℕ = λ l. l.number in ap number (follows k) ∙ forgets.number k

  pub twice-of-kind : (k : Link S) → whole (whole (of_kind kind k)) ≡ whole (of_kind kind k)
  twice-of-kind k =
      let as_one : Link S → Link T = λ l. of_kind kind l in
      ap whole (follows k) ∙ follows (own k) ∙ ap as_one (forgets.twice k) ∙ sym (follows k)

  pub sends-of-kind : (k : Link S) (bytes : List ℕ)
      → (let l : Link T = whole (of_kind kind k) in whole (record l { sent = l.sent ++ bytes })) ≡ whole (record (of_kind kind k) { sent = k.sent ++ bytes })
  sends-of-kind k bytes =
      let as_one : Link S → Link T = λ l. of_kind kind l in
      let sent : Link T → Link T = λ l. whole (record l { sent = l.sent ++ bytes }) in
      let o : Link S = own k in
      ap sent (follows k) ∙ follows (record o { sent = o.sent ++ bytes }) ∙ ap as_one (forgets.sends k bytes) ∙ sym (follows (record k { sent = k.sent ++ bytes }))

  pub comes-of-kind : (k : Link S) (bytes : List ℕ) → IsWithin k
      → (let l : Link T = whole (of_kind kind k) in whole (record l { received = l.received ++ bytes })) ≡ whole (record (of_kind kind k) { received = k.received ++ bytes })
  comes-of-kind k bytes w =
      let as_one : Link S → Link T = λ l. of_kind kind l in
      let come : Link T → Link T = λ l. whole (record l { received = l.received ++ bytes }) in
      let o : Link S = own k in
      ap come (follows k) ∙ follows (record o { received = o.received ++ bytes }) ∙ ap as_one (forgets.comes k bytes w) ∙ sym (follows (record k { received = k.received ++ bytes }))

-- ---- a table of links

filter-map : {X : Type 0} (test : X → Bool) (f : X → X) → ((x : X) → test (f x) ≡ test x) → (xs : List X) → filter test (map f xs) ≡ map f (filter test xs)
filter-map test f same [] = refl
filter-map test f same (x ∷ xs) = rw (same x, filter-map test f same xs) (by_test (test x))
  where
    by_test : (t : Bool) → cond t (f x ∷ map f (filter test xs)) (map f (filter test xs)) ≡ map f (cond t (x ∷ filter test xs) (filter test xs))
    by_test true = refl
    by_test false = refl

filter-all : {X : Type 0} (P : X → Type 0) (test : X → Bool) (xs : List X) → AllByRecursion P xs → AllByRecursion P (filter test xs)
filter-all P test [] h = tt
filter-all P test (x ∷ xs) h = by_test (test x) (filter-all P test xs h.1)
  where
    by_test : (t : Bool) → AllByRecursion P (filter test xs) → AllByRecursion P (cond t (x ∷ filter test xs) (filter test xs))
    by_test true rest = (h.0, rest)
    by_test false rest = rest

pub list_any-map : {X : Type 0} (test : X → Bool) (f : X → X) → ((x : X) → test (f x) ≡ test x) → (xs : List X) → list_any test (map f xs) ≡ list_any test xs
list_any-map test f same [] = refl
list_any-map test f same (x ∷ xs) = cc (same x, list_any-map test f same xs)

pub list_all-map : {X : Type 0} (test : X → Bool) (f : X → X) → ((x : X) → test (f x) ≡ test x) → (xs : List X) → list_all test (map f xs) ≡ list_all test xs
list_all-map test f same [] = refl
list_all-map test f same (x ∷ xs) = cc (same x, list_all-map test f same xs)

module _ {Stage : Type 0} (abridged : Link Stage → Link Stage) (number : (l : Link Stage) → (abridged l).number ≡ l.number) where
  numbers-map : (links : List (Link Stage)) → map (λ (l : Link Stage). l.number) (map abridged links) ≡ map (λ l. l.number) links
  numbers-map [] = refl
  numbers-map (l ∷ links) = cc (number l, numbers-map links)

  -- the numbers of links that are picked by what stays of each, and the links that are left
  pub numbers-picked : (picks : Link Stage → Bool) → ((l : Link Stage) → picks (abridged l) ≡ picks l) → (links : List (Link Stage))
      → map (λ (l : Link Stage). l.number) (filter picks (map abridged links)) ≡ map (λ l. l.number) (filter picks links)
  numbers-picked picks same links =
      let numbers : List (Link Stage) → List ℕ = λ ls. map (λ l. l.number) ls in
      ap numbers (filter-map picks abridged same links) ∙ numbers-map (filter picks links)

  pub links-left : (picks : Link Stage → Bool) → ((l : Link Stage) → picks (abridged l) ≡ picks l) → (links : List (Link Stage))
      → filter (λ l. not (picks l)) (map abridged links) ≡ map abridged (filter (λ l. not (picks l)) links)
  links-left picks same links = filter-map (λ l. not (picks l)) abridged (λ l. ap not (same l)) links

pub left-within : {Stage : Type 0} (test : Link Stage → Bool) (links : List (Link Stage)) → AllByRecursion IsWithin links → AllByRecursion IsWithin (filter test links)
left-within test links h = filter-all IsWithin test links h

-- ---- the open link to the monitor

-- what is kept of it, abridged
abbrev pub cut_kept : Secured × Requests → Secured × Requests
cut_kept (s, requests) = (unsigned s, requests)

-- with the link
abbrev pub cut_found : {Stage : Type 0} → (Link Stage → Link Stage) → Link Stage × (Secured × Requests) → Link Stage × (Secured × Requests)
cut_found abridged (link, (s, requests)) = (abridged link, (unsigned s, requests))

module _ {Stage : Type 0} (kept_of : Stage → Option (Secured × Requests)) where
  pub first-open-within : (links : List (Link Stage)) → AllByRecursion IsWithin links → IfSome (first_open kept_of links) (λ (found : Link Stage × (Secured × Requests)). IsWithin found.0)
  first-open-within [] h = tt
  first-open-within (l ∷ links) h = by_kept (kept_of l.stage) (first-open-within links h.1)
    where
      by_kept : (kept : Option (Secured × Requests)) → IfSome (first_open kept_of links) (λ (found : Link Stage × (Secured × Requests)). IsWithin found.0)
          → IfSome (open_or l kept (first_open kept_of links)) (λ (found : Link Stage × (Secured × Requests)). IsWithin found.0)
      by_kept (Some pair) later = h.0
      by_kept None later = later

  pub first-open-cut : (abridged : Link Stage → Link Stage) → ((l : Link Stage) → kept_of (abridged l).stage ≡ option_map cut_kept (kept_of l.stage)) → (links : List (Link Stage))
      → first_open kept_of (map abridged links) ≡ option_map (cut_found abridged) (first_open kept_of links)
  first-open-cut abridged same [] = refl
  first-open-cut abridged same (l ∷ links) =
      let found : Option (Secured × Requests) → Option (Link Stage × (Secured × Requests)) = λ kept. open_or (abridged l) kept (first_open kept_of (map abridged links)) in
      ap found (same l) ∙ by_kept (kept_of l.stage) (first-open-cut abridged same links)
    where
      by_kept : (kept : Option (Secured × Requests)) → first_open kept_of (map abridged links) ≡ option_map (cut_found abridged) (first_open kept_of links)
          → open_or (abridged l) (option_map cut_kept kept) (first_open kept_of (map abridged links)) ≡ option_map (cut_found abridged) (open_or l kept (first_open kept_of links))
      by_kept None later = later
      by_kept (Some (s, requests)) later = refl

-- ---- requests

-- a request on a link of which a part is forgotten
module _ {Stage : Type 0} (abridged : Link Stage → Link Stage) (open_with : Secured → Requests → Stage)
    (cuts : (s : Secured) (requests : Requests) (l : Link Stage) → abridged (record l { stage = open_with s requests }) ≡ cut l (open_with (unsigned s) requests)) where
  pub request-alike : (a : Arrival MonClient Stage) (l : Link Stage) (s : Secured) (requests : Requests) (want : Want) (sealed : Result SealedFrame Reason) → SameAhead l a.link → IsWithin a.link
      → Alike abridged (sends_request open_with (at a l) (unsigned s) requests want sealed) (sends_request open_with a s requests want sealed)
  request-alike a l s requests want (Ok sealed) e w =
      let t : Secured = under s sealed.keys in
      let r : Requests = behind_request requests want in
      goes-alike abridged a l (open_with (unsigned t) r) (open_with t r) (open_with (unsigned t) r) sealed.bytes sealed.seals e w (cuts (unsigned t) r) (cuts t r)
  request-alike a l s requests want (Err why) e w = refuses-alike abridged a l why [] e.number

-- a row over what one has as one that asks the monitor, as one of the node
pub lifted-alike : {Own Stage : Type 0} (abridged : Link Stage → Link Stage) (put : MonClient → Own) (r s : Row MonClient Stage) → Alike abridged r s → Alike abridged (lifted put r) (lifted put s)
lifted-alike {Own} {Stage} abridged put r s alike =
    let as_one : Row MonClient Stage → Row Own Stage = λ row. lifted put row in record { kept = ap as_one alike.kept; within = alike.within }
