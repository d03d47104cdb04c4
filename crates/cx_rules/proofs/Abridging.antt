-- A table of links, abridged: looking up, putting and leaving out go along with it, and what a row makes of an abridged table is what it
-- makes of the table, abridged.
use Rattle.std.proofs.Common.{◌≡◌, ℕ, ◌==◌, Bool, true, false, cond, List, [], ◌∷◌, ◌++◌, map, Option, Some, None, refl, sym, ap, ◌∙◌, arith, length-append}
use Rattle.std.specs.Prelude.{not, nat_lt, filter, IfSome}
use Rattle.std.specs.List.{AllByRecursion}
use Rattle.std.specs.Option.{option_map}
use Rattle.std.proofs.lemmas.List.{map-append}
use Rattle.cx_login.specs.cx_steps.specs.declared.effects.Effects.{Effects}
use Rattle.cx_rules.specs.Abridged.{IsWithin, StandsFor, abridged_node, abridged_row}
use Rattle.cx_rules.specs.Links.{Link, link_of, put_link, without_link}
use Rattle.cx_rules.specs.Rows.{Node, Outcome, Row, carried_out, fed, forgotten, idles, links_behind}

-- ---- lists

filter-map : {X Y : Type 0} (p : X → Bool) (q : Y → Bool) (f : X → Y) → ((x : X) → q (f x) ≡ p x) → (xs : List X) → filter q (map f xs) ≡ map f (filter p xs)
filter-map p q f same [] = refl
filter-map p q f same (x ∷ xs) = rw (same x, filter-map p q f same xs) (by_test (p x))
  where
    by_test : (t : Bool) → cond t (f x ∷ map f (filter p xs)) (map f (filter p xs)) ≡ map f (cond t (x ∷ filter p xs) (filter p xs))
    by_test true = refl
    by_test false = refl

all-filter : {X : Type 0} (P : X → Type 0) (p : X → Bool) (xs : List X) → AllByRecursion P xs → AllByRecursion P (filter p xs)
all-filter P p [] h = tt
all-filter P p (x ∷ xs) h = by_test (p x) (all-filter P p xs h.1)
  where
    by_test : (t : Bool) → AllByRecursion P (filter p xs) → AllByRecursion P (cond t (x ∷ filter p xs) (filter p xs))
    by_test true rest = (h.0, rest)
    by_test false rest = rest

all-append : {X : Type 0} (P : X → Type 0) (xs ys : List X) → AllByRecursion P xs → AllByRecursion P ys → AllByRecursion P (xs ++ ys)
all-append P [] ys a b = b
all-append P (x ∷ xs) ys a b = (a.0, all-append P xs ys a.1 b)

map-twice : {X : Type 0} (f : X → X) → ((x : X) → f (f x) ≡ f x) → (xs : List X) → map f (map f xs) ≡ map f xs
map-twice f twice [] = refl
map-twice f twice (x ∷ xs) = cc (twice x, map-twice f twice xs)

-- ---- a table

module _ {Stage : Type 0} where
  -- a link keeps its number
  abbrev pub Numbers : (Link Stage → Link Stage) → Type 0
  Numbers abridged = (l : Link Stage) → (abridged l).number ≡ l.number

  pub link_of_map : (abridged : Link Stage → Link Stage) → Numbers abridged → (n : ℕ) (links : List (Link Stage))
      → link_of n (map abridged links) ≡ option_map abridged (link_of n links)
  link_of_map abridged number n [] = refl
  link_of_map abridged number n (l ∷ links) =
      let first : ℕ → Option (Link Stage) → Option (Link Stage) = λ k rest. cond (k == n) (Some (abridged l)) rest in
      ap (λ k. first k (link_of n (map abridged links))) (number l) ∙ ap (first l.number) (link_of_map abridged number n links) ∙ by_test (l.number == n)
    where
      by_test : (t : Bool) → cond t (Some (abridged l)) (option_map abridged (link_of n links)) ≡ option_map abridged (cond t (Some l) (link_of n links))
      by_test true = refl
      by_test false = refl

  pub without_link_map : (abridged : Link Stage → Link Stage) → Numbers abridged → (n : ℕ) (links : List (Link Stage))
      → without_link n (map abridged links) ≡ map abridged (without_link n links)
  without_link_map abridged number n links =
      filter-map (λ l. not (l.number == n)) (λ l. not (l.number == n)) abridged (λ l. ap (λ k. not (k == n)) (number l)) links

  -- a link in its place, abridged as the others are
  pub put_link_map : (abridged : Link Stage → Link Stage) → Numbers abridged → (l : Link Stage) (links : List (Link Stage))
      → put_link (abridged l) (map abridged links) ≡ map abridged (put_link l links)
  put_link_map abridged number l links =
      let between : List (Link Stage) → List (Link Stage) → List (Link Stage) = λ below above. below ++ abridged l ∷ above in
      let below : ℕ → List (Link Stage) → List (Link Stage) = λ n ls. filter (λ k. nat_lt k.number n) ls in
      let above : ℕ → List (Link Stage) → List (Link Stage) = λ n ls. filter (λ k. nat_lt n k.number) ls in
      let table : List (Link Stage) = map abridged links in
      let n : ℕ = l.number in
      ap (λ m. between (below m table) (above m table)) (number l)
      ∙ ap (λ ls. between ls (above n table)) (filter-map (λ (k : Link Stage). nat_lt k.number n) (λ k. nat_lt k.number n) abridged (λ k. ap (λ m. nat_lt m n) (number k)) links)
      ∙ ap (between (map abridged (below n links))) (filter-map (λ (k : Link Stage). nat_lt n k.number) (λ k. nat_lt n k.number) abridged (λ k. ap (λ m. nat_lt n m) (number k)) links)
      ∙ sym (map-append abridged (below n links) (l ∷ above n links))

  -- what is found is within, where all are
  pub found-within : (n : ℕ) (links : List (Link Stage)) → AllByRecursion IsWithin links → IfSome (link_of n links) IsWithin
  found-within n [] h = tt
  found-within n (l ∷ links) h = by_test (l.number == n) (found-within n links h.1)
    where
      by_test : (t : Bool) → IfSome (link_of n links) IsWithin → IfSome (cond t (Some l) (link_of n links)) IsWithin
      by_test true rest = h.0
      by_test false rest = rest

  pub without-within : (n : ℕ) (links : List (Link Stage)) → AllByRecursion IsWithin links → AllByRecursion IsWithin (without_link n links)
  without-within n links h = all-filter IsWithin (λ l. not (l.number == n)) links h

  pub put-within : (l : Link Stage) (links : List (Link Stage)) → IsWithin l → AllByRecursion IsWithin links → AllByRecursion IsWithin (put_link l links)
  put-within l links w h =
      all-append IsWithin (filter (λ k. nat_lt k.number l.number) links) (l ∷ filter (λ k. nat_lt l.number k.number) links)
      (all-filter IsWithin (λ k. nat_lt k.number l.number) links h) (w, all-filter IsWithin (λ k. nat_lt l.number k.number) links h)

-- ---- what may be forgotten of a link

-- a way to abridge links: a number stays, and abridging twice is abridging once; what is sent or comes later makes no difference
pub record Forgets {Stage : Type 0} (abridged : Link Stage → Link Stage) : Type 0 where
  pub number : (l : Link Stage) → (abridged l).number ≡ l.number
  pub twice : (l : Link Stage) → abridged (abridged l) ≡ abridged l
  pub sends : (l : Link Stage) (bytes : List ℕ) → (let k : Link Stage = abridged l in abridged (record k { sent = k.sent ++ bytes })) ≡ abridged (record l { sent = l.sent ++ bytes })
  pub comes : (l : Link Stage) (bytes : List ℕ) → IsWithin l
      → (let k : Link Stage = abridged l in abridged (record k { received = k.received ++ bytes })) ≡ abridged (record l { received = l.received ++ bytes })

-- two rows of which a machine keeps the same; and the link, if it goes on, took no more than came
pub record Alike {Own Stage : Type 0} (abridged : Link Stage → Link Stage) (r s : Row Own Stage) : Type 0 where
  pub kept : abridged_row abridged r ≡ abridged_row abridged s
  pub within : IfSome s.link IsWithin

-- two outcomes with the same effects, of which a machine keeps the same
pub record Agree {Own Stage : Type 0} (abridged : Link Stage → Link Stage) (o p : Outcome (Node Own Stage)) : Type 0 where
  pub out : o.out ≡ p.out
  pub state : StandsFor abridged (abridged_node abridged o.state) p.state

module _ {Stage : Type 0} (abridged : Link Stage → Link Stage) (f : Forgets abridged) where
  pub links-twice : (links : List (Link Stage)) → map abridged (map abridged links) ≡ map abridged links
  links-twice links = map-twice abridged f.twice links

  -- the links behind a row of an abridged table
  behind-abridged : (links : List (Link Stage)) (n : ℕ) (bytes : List ℕ) (link : Option (Link Stage))
      → map abridged (links_behind (map abridged links) n bytes (option_map abridged link)) ≡ map abridged (links_behind links n bytes link)
  behind-abridged links n bytes None = ap (map abridged) (without_link_map abridged f.number n links) ∙ links-twice (without_link n links)
  behind-abridged links n bytes (Some l) =
      let k : Link Stage = abridged l in
      let sent : Link Stage = record k { sent = k.sent ++ bytes } in
      let later : Link Stage = record l { sent = l.sent ++ bytes } in
      sym (put_link_map abridged f.number sent (map abridged links))
      ∙ ap (λ ls. put_link (abridged sent) ls) (links-twice links)
      ∙ ap (λ x. put_link x (map abridged links)) (f.sends l bytes)
      ∙ put_link_map abridged f.number later links

module _ {Stage : Type 0} where
  behind-within : (links : List (Link Stage)) (n : ℕ) (bytes : List ℕ) (link : Option (Link Stage)) → AllByRecursion IsWithin links → IfSome link IsWithin
      → AllByRecursion IsWithin (links_behind links n bytes link)
  behind-within links n bytes None h w = without-within n links h
  behind-within links n bytes (Some l) h w = put-within (record l { sent = l.sent ++ bytes }) links w h

  fed-within : (l : Link Stage) (bytes : List ℕ) → IsWithin l → IsWithin (record l { received = l.received ++ bytes })
  fed-within l bytes w = omega (arith, length-append l.received bytes)

module _ {Own Stage : Type 0} (abridged : Link Stage → Link Stage) (f : Forgets abridged) where
  pub node-twice : (node : Node Own Stage) → abridged_node abridged (abridged_node abridged node) ≡ abridged_node abridged node
  node-twice node = let with : List (Link Stage) → Node Own Stage = λ links. record node { links = links } in ap with (links-twice abridged f node.links)

  -- a row of which no more is told than a machine keeps is carried out alike on the abridged table
  abridged-out : (node : Node Own Stage) (n : ℕ) (turned : Bool) (row : Row Own Stage)
      → (carried_out node n turned (abridged_row abridged row)).out ≡ (carried_out node n turned row).out
  abridged-out node n turned row = by_link row.link
    where
      by_link : (link : Option (Link Stage)) → (carried_out node n turned (record row { link = option_map abridged link })).out ≡ (carried_out node n turned (record row { link = link })).out
      by_link None = refl
      by_link (Some l) = refl

  -- what is left behind a row, from what the row leaves of its link
  left : List (Link Stage) → ℕ → Row Own Stage → Node Own Stage
  left links n row = record { own = row.own; links = map abridged (links_behind links n row.sends row.link) }

  left-abridged : (links : List (Link Stage)) (n : ℕ) (row : Row Own Stage) → left (map abridged links) n (abridged_row abridged row) ≡ left links n row
  unfolding left
  left-abridged links n row =
      let with : List (Link Stage) → Node Own Stage = λ ls. record { own = row.own; links = ls } in ap with (behind-abridged abridged f links n row.sends row.link)

  pub carried-alike : (node : Node Own Stage) (n : ℕ) (turned : Bool) (r s : Row Own Stage) → AllByRecursion IsWithin node.links → Alike abridged r s
      → Agree abridged (carried_out (abridged_node abridged node) n turned r) (carried_out node n turned s)
  unfolding left
  carried-alike node n turned r s h alike =
      let links : List (Link Stage) = node.links in
      let table : List (Link Stage) = map abridged links in
      let out : Row Own Stage → Effects = λ row. (carried_out node n turned row).out in
      let state : Row Own Stage → Node Own Stage = λ row. left (map abridged table) n row in
      record {
        out = sym (abridged-out node n turned r) ∙ ap out alike.kept ∙ abridged-out node n turned s;
        state = record {
          held = sym (left-abridged table n r) ∙ ap state alike.kept ∙ ap (λ ls. left ls n (abridged_row abridged s)) (links-twice abridged f links) ∙ left-abridged links n s;
          within = behind-within links n s.sends s.link h alike.within;
        };
      }

  pub idles-agree : (node : Node Own Stage) → AllByRecursion IsWithin node.links → Agree abridged (idles (abridged_node abridged node)) (idles node)
  idles-agree node h = record { out = refl; state = record { held = node-twice node; within = h } }

  pub fed-agree : (node : Node Own Stage) (bytes : List ℕ) (link : Option (Link Stage)) → AllByRecursion IsWithin node.links → IfSome link IsWithin
      → Agree abridged (fed (abridged_node abridged node) bytes (option_map abridged link)) (fed node bytes link)
  fed-agree node bytes None h w = idles-agree node h
  fed-agree node bytes (Some l) h w =
      let k : Link Stage = abridged l in
      let more : Link Stage = record k { received = k.received ++ bytes } in
      let later : Link Stage = record l { received = l.received ++ bytes } in
      let with : List (Link Stage) → Node Own Stage = λ ls. record node { links = ls } in
      let links : List (Link Stage) = node.links in
      record {
        out = refl;
        state = record {
          held = ap with (sym (put_link_map abridged f.number more (map abridged links))
              ∙ ap (λ ls. put_link (abridged more) ls) (links-twice abridged f links)
              ∙ ap (λ x. put_link x (map abridged links)) (f.comes l bytes w)
              ∙ put_link_map abridged f.number later links);
          within = put-within later links (fed-within l bytes w) h;
        };
      }

  -- a link that is gone
  pub gone-held : (node : Node Own Stage) (n : ℕ) → forgotten (abridged_node abridged node) n ≡ abridged_node abridged (forgotten node n)
  gone-held node n = let with : List (Link Stage) → Node Own Stage = λ ls. record node { links = ls } in ap with (without_link_map abridged f.number n node.links)

  pub gone-stands : (m s : Node Own Stage) (n : ℕ) → StandsFor abridged m s → StandsFor abridged (forgotten m n) (forgotten s n)
  gone-stands m s n stands = record {
    held = ap (λ (node : Node Own Stage). forgotten node n) stands.held ∙ gone-held s n;
    within = without-within n s.links stands.within;
  }
