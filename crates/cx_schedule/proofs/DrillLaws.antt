-- The text of a drill is the schedule of its lines.
use Rattle.std.proofs.Common.{◌≡◌, ℕ, zero, suc, ◌+◌, ◌*◌, ◌%◌, ◌-◌, ◌^◌, ◌<◌, ◌≤◌, ◌==◌, inl, inr, Bool, true, false, cond, List, [], ◌∷◌, ◌++◌, map, refl, sym, ap, ◌∙◌, arith, append_assoc, append-nil}
use Rattle.std.specs.Prelude.{codes, ◌||◌, fold, nat_lt, replicate}
use Rattle.std.specs.Fmt.{decimal}
use Rattle.std.specs.List.{flat_map, list_all, list_any}
use Rattle.std.specs.Str.{bytes_eq}
use Rattle.std.proofs.lemmas.List.Concat.{flat_map-append}
use Rattle.std.proofs.lemmas.Bool.{and_parts}
use Rattle.std.proofs.lemmas.Bool.Decides.{nat_tests}
use Rattle.std.proofs.lemmas.List.Folds.{list_all-append, list_any-append}
use Rattle.cx_base.specs.Names.{Name, is_id, same_name}
use Rattle.cx_base.specs.declared.kinds.EntityType.TheVariants.{Client}
use Rattle.cx_words.specs.Cutting.{is_line_end, is_skipped, lines_of, onto_first}
use Rattle.cx_words.specs.declared.known.Known.{Known}
use Rattle.cx_words.specs.lines.Known.{is_client, is_daemon, nothing}
use Rattle.cx_words.specs.lines.Named.{is_among}
use Rattle.cx_lines.specs.declared.commands.LineCommand.TheVariants as command
use Rattle.cx_lines.specs.declared.lines.Line.{Line}
use Rattle.cx_lines.specs.declared.lines.Line.TheVariants as line
use Rattle.cx_lines.specs.declared.lines.Numbered.{Numbered}
use Rattle.cx_lines.specs.Knowing.{known_of, knowing}
use Rattle.cx_lines.specs.Lines.{Spells}
use Rattle.cx_schedule.specs.Drills.{client_line, clients_to, clock_line, connect_line, connects, cut_line, cuts_link, declares, declares_daemon, drill_client, drill_daemon, drill_lines, drill_says, drill_script, drill_text, ended, fetch_lines, fetches, login_line, logs_in, number_from, reads_clock, round_lines, round_says, send_line, writes}
use Rattle.cx_schedule.specs.Files.{Lines, Said, numbered}
use Rattle.cx_schedule.specs.Grammars.{groups, line_words}
use Rattle.cx_schedule.specs.NodeLines.{declaring}
use Rattle.cx_schedule.proofs.Whole.{known_more}
use Rattle.cx_schedule.proofs.DrillWords.{all_inner, before, caps_last, decimal_digits, decimal_id, inner_digits, is_inner, other_decimal, same_bytes, unended, unended_before, word_last, words_before}

-- ---- lines that tell something, each where it is known what those above it say

record TellsOne (k : Known) (text : List ℕ) (x : Line) : Type 0 where
  kept : is_skipped text ≡ false
  whole : list_any is_line_end text ≡ false
  spelled : Spells k x (line_words text)

abbrev Tells : Known → List (List ℕ) → List Line → Type 0
Tells k [] [] = Unit {0}
Tells k [] (x ∷ xs) = ⊥
Tells k (text ∷ texts) [] = ⊥
Tells k (text ∷ texts) (x ∷ xs) = TellsOne k text x × Tells (knowing k x) texts xs

tells_append : (k : Known) (texts more : List (List ℕ)) (xs ys : List Line) → Tells k texts xs → Tells (fold knowing k xs) more ys → Tells k (texts ++ more) (xs ++ ys)
tells_append k [] more [] ys p q = q
tells_append k [] more (x ∷ xs) ys p q = absurd p
tells_append k (text ∷ texts) more [] ys p q = absurd p
tells_append k (text ∷ texts) more (x ∷ xs) ys p q = (p.0, tells_append (knowing k x) texts more xs ys p.1 q)

said_from : (number : ℕ) (earlier : List Numbered) (texts : List (List ℕ)) (xs : List Line) → Tells (known_of earlier) texts xs → Said number earlier texts (earlier ++ number_from number xs)
said_from number earlier [] [] p = append-nil earlier
said_from number earlier [] (x ∷ xs) p = absurd p
said_from number earlier (text ∷ texts) [] p = absurd p
said_from number earlier (text ∷ texts) (x ∷ xs) p =
    let now = earlier ++ numbered number x ∷ [] in
    let is : knowing (known_of earlier) x ≡ known_of now = known_more earlier now number x (known_of earlier) (knowing (known_of earlier) x) refl refl refl in
    let rest = said_from (number + 1) now texts xs (rw is at p.1) in
    (now, inr (p.0.kept, x, p.0.spelled, refl), rw (append_assoc earlier (numbered number x ∷ []) (number_from (number + 1) xs)) at rest)

line_step : (b : ℕ) (text rest : List ℕ) (t : Bool) → is_line_end b ≡ t → list_any is_line_end (b ∷ text) ≡ false → (list_any is_line_end text ≡ false → lines_of (ended text ++ rest) ≡ text ∷ lines_of rest)
    → lines_of (ended (b ∷ text) ++ rest) ≡ (b ∷ text) ∷ lines_of rest
unfolding lines_of
line_step b text rest true is none more = absurd (let x : true ≡ false = sym (ap (λ s. s || list_any is_line_end text) is) ∙ none in cc)
line_step b text rest false is none more = rw is (ap (onto_first b) (more (sym (ap (λ s. s || list_any is_line_end text) is) ∙ none)))

line_back : (text rest : List ℕ) → list_any is_line_end text ≡ false → lines_of (ended text ++ rest) ≡ text ∷ lines_of rest
unfolding lines_of
line_back [] rest none = refl
line_back (b ∷ text) rest none = line_step b text rest (is_line_end b) refl none (line_back text rest)

no_text : lines_of [] ≡ []
unfolding lines_of
no_text = refl

lines_back : (k : Known) (texts : List (List ℕ)) (xs : List Line) → Tells k texts xs → lines_of (flat_map ended texts) ≡ texts
lines_back k [] xs p = no_text
lines_back k (text ∷ texts) [] p = absurd p
lines_back k (text ∷ texts) (x ∷ xs) p = line_back text (flat_map ended texts) p.0.whole ∙ ap (λ ts. text ∷ ts) (lines_back (knowing k x) texts xs p.1)

told_lines : (texts : List (List ℕ)) (xs : List Line) → Tells nothing texts xs → Lines (flat_map ended texts) (number_from 1 xs)
told_lines texts xs p = rw (lines_back nothing texts xs p) (said_from 1 [] texts xs p)

-- ---- lines that are told wherever these names are declared, and declare none

abbrev is_later : Line → Bool
is_later (line.Setting s) = false
is_later _ = true

record TellsLater (declared : List Name) (text : List ℕ) (x : Line) : Type 0 where
  one : (k : Known) → k.declared ≡ declared → TellsOne k text x
  later : is_later x ≡ true

abbrev TellAll : List Name → List (List ℕ) → List Line → Type 0
TellAll ns [] [] = Unit {0}
TellAll ns [] (x ∷ xs) = ⊥
TellAll ns (text ∷ texts) [] = ⊥
TellAll ns (text ∷ texts) (x ∷ xs) = TellsLater ns text x × TellAll ns texts xs

tell_append : (ns : List Name) (texts more : List (List ℕ)) (xs ys : List Line) → TellAll ns texts xs → TellAll ns more ys → TellAll ns (texts ++ more) (xs ++ ys)
tell_append ns [] more [] ys p q = q
tell_append ns [] more (x ∷ xs) ys p q = absurd p
tell_append ns (text ∷ texts) more [] ys p q = absurd p
tell_append ns (text ∷ texts) more (x ∷ xs) ys p q = (p.0, tell_append ns texts more xs ys p.1 q)

still_declared : (k : Known) (x : Line) (ns : List Name) → is_later x ≡ true → k.declared ≡ ns → (knowing k x).declared ≡ ns
still_declared k (line.Setting s) ns later is = absurd (let e : false ≡ true = later in cc)
still_declared k (line.Submit c) ns later is = is
still_declared k (line.Do c) ns later is = is
still_declared k (line.Link s) ns later is = is
still_declared k (line.Node s) ns later is = is

all_tell : (ns : List Name) (k : Known) (texts : List (List ℕ)) (xs : List Line) → k.declared ≡ ns → TellAll ns texts xs → Tells k texts xs
all_tell ns k [] [] is p = tt
all_tell ns k [] (x ∷ xs) is p = absurd p
all_tell ns k (text ∷ texts) [] is p = absurd p
all_tell ns k (text ∷ texts) (x ∷ xs) is p = (p.0.one k is, all_tell ns (knowing k x) texts xs (still_declared k x ns p.0.later is) p.1)

-- ---- names that are declared

-- client i and the daemon are declared
record HasBoth (ns : List Name) (i : ℕ) : Type 0 where
  client : is_among ns (drill_client i) ≡ true
  daemon : is_among ns drill_daemon ≡ true
  small : i ≤ 1000

is_small : (i : ℕ) → i ≤ 1000 → i < 2 ^ 64
is_small i le = omega (arith, le)

client_inner : (i : ℕ) → i ≤ 1000 → list_all is_inner (codes "client." ++ decimal i) ≡ true
client_inner i le = inner_digits (decimal i) (decimal_digits i (is_small i le))

id_of : (i : ℕ) → i ≤ 1000 → is_id Client (decimal i) ≡ true
id_of i le = decimal_id i (omega (arith, le))

inner_cons : (word : List ℕ) (words : List (List ℕ)) → list_all is_inner word ≡ true → all_inner words ≡ true → all_inner (word ∷ words) ≡ true
inner_cons word words a b = rw (a, b) refl

with_client : (first : List ℕ) (i : ℕ) (words : List (List ℕ)) → i ≤ 1000 → list_all is_inner first ≡ true → all_inner words ≡ true → all_inner (first ∷ (codes "client." ++ decimal i) ∷ words) ≡ true
with_client first i words le a b = inner_cons first ((codes "client." ++ decimal i) ∷ words) a (inner_cons (codes "client." ++ decimal i) words (client_inner i le) b)

-- ---- each line behind the declarations

spells_by : (k : Known) (x : Line) (ws vs : List (List ℕ)) → ws ≡ vs → Spells k x vs → Spells k x ws
spells_by k x ws vs is p = rw is p

later_line : (ns : List Name) (x : Line) (front : List (List ℕ)) (last : List ℕ) → is_skipped (before front last) ≡ false → all_inner front ≡ true → list_all is_inner last ≡ true → is_later x ≡ true
    → ((k : Known) → k.declared ≡ ns → Spells k x (front ++ last ∷ [])) → TellsLater ns (before front last) x
later_line ns x front last kept inner last_inner later spells = record {
  one = λ k is. record {
    kept = kept;
    whole = unended_before front last inner (unended last last_inner);
    spelled = spells_by k x (line_words (before front last)) (front ++ last ∷ []) (words_before (groups (before front last)) front last (last ∷ []) inner (word_last (groups (before front last)) last last_inner)) (spells k is);
  };
  later = later;
}

module _ (ns : List Name) (i : ℕ) (h : HasBoth ns i) where
  a_client : (k : Known) → k.declared ≡ ns → is_client k (drill_client i) ≡ true
  a_client k is = ap (λ (declared : List Name). is_among declared (drill_client i)) is ∙ h.client

  a_daemon : (k : Known) → k.declared ≡ ns → is_daemon k drill_daemon ≡ true
  a_daemon k is = ap (λ (declared : List Name). is_among declared drill_daemon) is ∙ h.daemon

  tells_clock : TellsLater ns (clock_line i) (reads_clock i)
  tells_clock =
      let seconds = 1000 + 600 * i in
      let low : seconds < 4000000000 = omega (arith, h.small) in
      let small : seconds < 2 ^ 64 = omega (arith, h.small) in
      later_line ns (reads_clock i) (codes "clock" ∷ []) (decimal seconds) refl refl (inner_digits (decimal seconds) (decimal_digits seconds small)) refl
      (λ k is. (refl, (inl (seconds, low, refl, refl), tt), refl, refl))

  tells_fetch : TellsLater ns (codes "fetch osd.0") (line.Submit (command.Fetch drill_daemon))
  tells_fetch =
      later_line ns (line.Submit (command.Fetch drill_daemon)) (codes "fetch" ∷ []) (codes "osd.0") refl refl refl refl
      (λ k is. (refl, ((refl, a_daemon k is, refl), tt), refl, refl))

  tell_fetches : TellAll ns (fetch_lines i) (fetches i)
  tell_fetches = by_test ((i - 1) % 4 == 0)
    where
      by_test : (b : Bool) → TellAll ns (cond b (codes "fetch osd.0" ∷ []) []) (cond b (line.Submit (command.Fetch drill_daemon) ∷ []) [])
      by_test true = (tells_fetch, tt)
      by_test false = tt

  tells_login : TellsLater ns (login_line i) (logs_in i)
  tells_login =
      later_line ns (logs_in i) (codes "login" ∷ (codes "client." ++ decimal i) ∷ []) (codes "osd") refl (with_client (codes "login") i [] h.small refl refl) refl refl
      (λ k is. (refl, ((id_of i h.small, a_client k is, refl), ((refl, refl), tt)), refl, refl))

  tells_connect : TellsLater ns (connect_line i) (connects i)
  tells_connect =
      later_line ns (connects i) (codes "connect" ∷ (codes "client." ++ decimal i) ∷ []) (codes "osd.0") refl (with_client (codes "connect") i [] h.small refl refl) refl refl
      (λ k is. (refl, ((id_of i h.small, a_client k is, refl), ((refl, a_daemon k is, refl), tt)), refl, refl))

  tells_send : TellsLater ns (send_line i) (writes i)
  tells_send =
      later_line ns (writes i) (codes "send" ∷ (codes "client." ++ decimal i) ∷ codes "osd.0" ∷ codes "write" ∷ codes "rbd" ∷ codes "-" ∷ codes "o" ∷ []) (codes "-") refl
      (with_client (codes "send") i (codes "osd.0" ∷ codes "write" ∷ codes "rbd" ∷ codes "-" ∷ codes "o" ∷ []) h.small refl refl) refl refl
      (λ k is. (refl, ((id_of i h.small, a_client k is, refl), ((refl, a_daemon k is, refl), (refl, ((refl, refl), ((refl, refl), ((refl, refl), ((refl, refl), tt))))))), refl, refl))

  tell_sends : (m : ℕ) → TellAll ns (replicate m (send_line i)) (replicate m (writes i))
  tell_sends zero = tt
  tell_sends (suc m) = (tells_send, tell_sends m)

  tells_cut : (number : ℕ) → number < 2 ^ 64 → TellsLater ns (cut_line number) (cuts_link number)
  tells_cut number small =
      later_line ns (cuts_link number) (codes "cut" ∷ []) (decimal number) refl refl (inner_digits (decimal number) (decimal_digits number small)) refl
      (λ k is. (refl, ((small, refl), tt), refl, refl))

  tell_round : (seed : ℕ) → TellAll ns (round_lines seed i) (round_says seed i)
  tell_round seed =
      tell_append ns (clock_line i ∷ fetch_lines i) _ (reads_clock i ∷ fetches i) _ (tells_clock, tell_fetches)
      (tell_append ns (login_line i ∷ connect_line i ∷ replicate ((i + seed) % 4) (send_line i)) _ (logs_in i ∷ connects i ∷ replicate ((i + seed) % 4) (writes i)) _ (tells_login, (tells_connect, tell_sends ((i + seed) % 4)))
      (tells_cut (2 * i) (omega (arith, h.small)), (tells_cut (2 * i + 1) (omega (arith, h.small)), tt)))

-- ---- the names of a drill

or_right : (b : Bool) → (b || true) ≡ true
or_right true = refl
or_right false = refl

clients_below : (n m : ℕ) → n < m → list_all (λ x. nat_lt x m) (clients_to n) ≡ true
clients_below zero m lt = refl
clients_below (suc n) m lt =
    let this : nat_lt (suc n) m ≡ true = grind (arith, nat_tests, lt) in
    list_all-append (λ x. nat_lt x m) (clients_to n) (suc n ∷ []) ∙ rw (clients_below n m (omega (arith, lt)), this) refl

is_new : (xs : List ℕ) (m : ℕ) → m ≤ 1000 → list_all (λ x. nat_lt x m) xs ≡ true → is_among (map drill_client xs) (drill_client m) ≡ false
is_new [] m le all = refl
is_new (x ∷ xs) m le all =
    let p = and_parts (nat_lt x m) (list_all (λ y. nat_lt y m) xs) all in
    let lt : x < m = grind (arith, nat_tests, p.0) in
    let small : x < 2 ^ 64 = omega (arith, lt, le) in
    let other : bytes_eq (decimal x) (decimal m) ≡ false = other_decimal x m small (is_small m le) (λ same. omega (arith, same, lt)) in
    ap (λ b. b || is_among (map drill_client xs) (drill_client m)) other ∙ is_new xs m le p.1

no_daemon : (xs : List ℕ) → is_among (map drill_client xs) drill_daemon ≡ false
no_daemon [] = refl
no_daemon (x ∷ xs) = no_daemon xs

has_daemon : (xs : List ℕ) → is_among (map drill_client xs ++ drill_daemon ∷ []) drill_daemon ≡ true
has_daemon [] = refl
has_daemon (x ∷ xs) = has_daemon xs

client_step : (x i : ℕ) (rest found : Bool) (b : Bool) → (x == i) ≡ b → (found ≡ true → rest ≡ true) → (b || found) ≡ true → (same_name (drill_client x) (drill_client i) || rest) ≡ true
client_step x i rest found true is more has =
    let same : x ≡ i = grind (arith, nat_tests, is) in
    let one : bytes_eq (decimal x) (decimal i) ≡ true = ap (λ j. bytes_eq (decimal x) (decimal j)) (sym same) ∙ same_bytes (decimal x) in
    ap (λ b. b || rest) one
client_step x i rest found false is more has =
    ap (λ b. same_name (drill_client x) (drill_client i) || b) (more has) ∙ or_right (same_name (drill_client x) (drill_client i))

has_client : (xs : List ℕ) (i : ℕ) → list_any (λ x. x == i) xs ≡ true → is_among (map drill_client xs ++ drill_daemon ∷ []) (drill_client i) ≡ true
has_client [] i has = absurd (let x : false ≡ true = has in cc)
has_client (x ∷ xs) i has =
    client_step x i (is_among (map drill_client xs ++ drill_daemon ∷ []) (drill_client i)) (list_any (λ y. y == i) xs) (x == i) refl (has_client xs i) has

last_or_before : (n i : ℕ) (b : Bool) → (suc n == i) ≡ b → i ≤ suc n → (i ≤ n → list_any (λ x. x == i) (clients_to n) ≡ true) → (list_any (λ x. x == i) (clients_to n) || (b || false)) ≡ true
last_or_before n i true is le more = or_right (list_any (λ x. x == i) (clients_to n))
last_or_before n i false is le more =
    let less : i ≤ n = grind (arith, nat_tests, is, le) in
    ap (λ b. b || (false || false)) (more less)

clients_have : (n i : ℕ) → 1 ≤ i → i ≤ n → list_any (λ x. x == i) (clients_to n) ≡ true
clients_have zero i some le = absurd (omega (arith, some, le))
clients_have (suc n) i some le = list_any-append (λ x. x == i) (clients_to n) (suc n ∷ []) ∙ last_or_before n i (suc n == i) refl le (clients_have n i some)

-- ---- all rounds

tell_by : (ns : List Name) (texts others : List (List ℕ)) (xs ys : List Line) → texts ≡ others → xs ≡ ys → TellAll ns others ys → TellAll ns texts xs
tell_by ns texts others xs ys a b p = rw (a, b) p

tell_rounds : (n seed m : ℕ) → n ≤ 1000 → m ≤ n → TellAll (map drill_client (clients_to n) ++ drill_daemon ∷ []) (flat_map (round_lines seed) (clients_to m)) (flat_map (round_says seed) (clients_to m))
tell_rounds n seed zero le few = tt
tell_rounds n seed (suc m) le few =
    let ns = map drill_client (clients_to n) ++ drill_daemon ∷ [] in
    let h : HasBoth ns (suc m) = record { client = has_client (clients_to n) (suc m) (clients_have n (suc m) (omega arith) few); daemon = has_daemon (clients_to n); small = omega (arith, le, few) } in
    tell_by ns _ _ _ _ (flat_map-append (round_lines seed) (clients_to m) (suc m ∷ [])) (flat_map-append (round_says seed) (clients_to m) (suc m ∷ []))
    (tell_append ns (flat_map (round_lines seed) (clients_to m)) _ (flat_map (round_says seed) (clients_to m)) _ (tell_rounds n seed m le (omega (arith, few)))
    (tell_append ns (round_lines seed (suc m)) [] (round_says seed (suc m)) [] (tell_round ns (suc m) h seed) tt))

-- ---- the declarations

map_push : {X Y : Type 0} (f : X → Y) (xs : List X) (x : X) → map f (xs ++ x ∷ []) ≡ map f xs ++ f x ∷ []
map_push f [] x = refl
map_push f (y ∷ ys) x = ap (λ zs. f y ∷ zs) (map_push f ys x)

fold_push : {A B : Type 0} (f : B → A → B) (b : B) (xs : List A) (x : A) → fold f b (xs ++ x ∷ []) ≡ f (fold f b xs) x
fold_push f b [] x = refl
fold_push f b (y ∷ ys) x = fold_push f (f b y) ys x

tells_by : (k j : Known) (texts : List (List ℕ)) (xs : List Line) → k ≡ j → Tells j texts xs → Tells k texts xs
tells_by k j texts xs is p = rw is p

tells_as : (texts others : List (List ℕ)) (xs ys : List Line) → texts ≡ others → xs ≡ ys → Tells nothing others ys → Tells nothing texts xs
tells_as texts others xs ys a b p = rw (a, b) p

tells_client : (n : ℕ) → suc n ≤ 1000 → TellsOne (declaring (map drill_client (clients_to n))) (client_line (suc n)) (declares (suc n))
tells_client n le =
    let i : ℕ = suc n in
    let front = codes "entity" ∷ (codes "client." ++ decimal i) ∷ codes "osd" ∷ [] in
    let last = codes "\"allow *\"" in
    let inner : all_inner front ≡ true = with_client (codes "entity") i (codes "osd" ∷ []) le refl refl in
    let new = is_new (clients_to n) i le (clients_below n i (omega arith)) in
    record {
      kept = refl;
      whole = unended_before front last inner refl;
      spelled = spells_by (declaring (map drill_client (clients_to n))) (declares i) (line_words (client_line i)) (front ++ last ∷ []) (words_before true front last (last ∷ []) inner caps_last)
          (refl, ((id_of i le, refl, new, refl), ((refl, refl, refl), ((refl, refl), tt))), refl, refl);
    }

tells_daemon : (n : ℕ) → TellsOne (declaring (map drill_client (clients_to n))) (codes "entity osd.0") declares_daemon
tells_daemon n =
    let front = codes "entity" ∷ [] in
    let last = codes "osd.0" in
    record {
      kept = refl;
      whole = refl;
      spelled = spells_by (declaring (map drill_client (clients_to n))) declares_daemon (line_words (codes "entity osd.0")) (front ++ last ∷ []) (words_before true front last (last ∷ []) refl (word_last true last refl))
          (refl, ((refl, refl, no_daemon (clients_to n), refl), tt), refl, refl);
    }

record Declared (n : ℕ) : Type 0 where
  told : Tells nothing (map client_line (clients_to n)) (map declares (clients_to n))
  known : fold knowing nothing (map declares (clients_to n)) ≡ declaring (map drill_client (clients_to n))

declared_to : (n : ℕ) → n ≤ 1000 → Declared n
declared_to zero le = record { told = tt; known = refl }
declared_to (suc n) le =
    let p = declared_to n (omega (arith, le)) in
    let k = declaring (map drill_client (clients_to n)) in
    record {
      told = tells_as _ _ _ _ (map_push client_line (clients_to n) (suc n)) (map_push declares (clients_to n) (suc n))
          (tells_append nothing (map client_line (clients_to n)) (client_line (suc n) ∷ []) (map declares (clients_to n)) (declares (suc n) ∷ []) p.told
          (tells_by _ k (client_line (suc n) ∷ []) (declares (suc n) ∷ []) p.known (tells_client n le, tt)));
      known = ap (fold knowing nothing) (map_push declares (clients_to n) (suc n))
          ∙ fold_push knowing nothing (map declares (clients_to n)) (declares (suc n))
          ∙ ap (λ (j : Known). knowing j (declares (suc n))) p.known
          ∙ sym (ap declaring (map_push drill_client (clients_to n) (suc n)));
    }

-- ---- the whole text

pub drill_told : (n seed : ℕ) → n ≤ 1000 → Lines (drill_text n seed) (drill_script n seed)
drill_told n seed le =
    let cs = map drill_client (clients_to n) in
    let ns = cs ++ drill_daemon ∷ [] in
    let p = declared_to n le in
    let rounds = flat_map (round_lines seed) (clients_to n) in
    let says = flat_map (round_says seed) (clients_to n) in
    told_lines (drill_lines n seed) (drill_says n seed)
    (tells_append nothing (map client_line (clients_to n)) (codes "entity osd.0" ∷ rounds) (map declares (clients_to n)) (declares_daemon ∷ says) p.told
    (tells_by _ (declaring cs) (codes "entity osd.0" ∷ rounds) (declares_daemon ∷ says) p.known
    (tells_daemon n, all_tell ns (knowing (declaring cs) declares_daemon) rounds says refl (tell_rounds n seed n le (omega arith)))))
