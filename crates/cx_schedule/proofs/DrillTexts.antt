-- The text of a drill as it grows, line by line.
use Rattle.std.proofs.Common.{◌≡◌, ℕ, suc, ◌+◌, ◌-◌, ◌<◌, List, [], ◌∷◌, ◌++◌, map, Result, Ok, Err, OnOk, sym, ap, ◌∙◌, arith, append_assoc, append-nil}
use Rattle.std.specs.Prelude.{replicate}
use Rattle.std.specs.List.{flat_map}
use Rattle.std.proofs.lemmas.List.Concat.{flat_map-append}
use Rattle.cx_schedule.specs.Drills.{client_line, clients_to, ended, round_lines}

pub clients_more : (i : ℕ) → clients_to (i + 1) ≡ clients_to i ++ (i + 1) ∷ []
clients_more i =
    let e : i + 1 ≡ suc i = omega arith in
    ap clients_to e ∙ ap (λ k. clients_to i ++ k ∷ []) (sym e)

-- a text that grows by one piece for each number
pub grown : (g : List ℕ → List ℕ) (h : ℕ → List ℕ) → ((xs : List ℕ) (x : ℕ) → g (xs ++ x ∷ []) ≡ g xs ++ h x) → (i : ℕ) (old into now : List ℕ) → into ≡ old ++ g (clients_to i) → now ≡ into ++ h (i + 1) → now ≡ old ++ g (clients_to (i + 1))
grown g h push i old into now was is =
    is ∙ ap (λ t. t ++ h (i + 1)) was ∙ append_assoc old (g (clients_to i)) (h (i + 1))
    ∙ ap (λ t. old ++ t) (sym (ap g (clients_more i) ∙ push (clients_to i) (i + 1)))

pub clients_push : (xs : List ℕ) (x : ℕ) → flat_map ended (map client_line (xs ++ x ∷ [])) ≡ flat_map ended (map client_line xs) ++ ended (client_line x)
clients_push [] x = append-nil (ended (client_line x))
clients_push (y ∷ ys) x =
    ap (λ t. ended (client_line y) ++ t) (clients_push ys x) ∙ sym (append_assoc (ended (client_line y)) (flat_map ended (map client_line ys)) (ended (client_line x)))

pub rounds_push : (seed : ℕ) (xs : List ℕ) (x : ℕ) → flat_map ended (flat_map (round_lines seed) (xs ++ x ∷ [])) ≡ flat_map ended (flat_map (round_lines seed) xs) ++ flat_map ended (round_lines seed x)
rounds_push seed xs x =
    ap (flat_map ended) (flat_map-append (round_lines seed) xs (x ∷ []) ∙ ap (λ t. flat_map (round_lines seed) xs ++ t) (append-nil (round_lines seed x)))
    ∙ flat_map-append ended (flat_map (round_lines seed) xs) (round_lines seed x)

-- what is left of lines that repeat
pub sent_more : (line : List ℕ) (count k : ℕ) (all into now : List ℕ) → k < count → into ++ flat_map ended (replicate (count - k) line) ≡ all → now ≡ into ++ ended line → now ++ flat_map ended (replicate (count - (k + 1)) line) ≡ all
sent_more line count k all into now lt was is =
    let left : count - k ≡ suc (count - (k + 1)) = omega arith in
    let rest = flat_map ended (replicate (count - (k + 1)) line) in
    ap (λ t. t ++ rest) is ∙ append_assoc into (ended line) rest ∙ sym (ap (λ m. into ++ flat_map ended (replicate m line)) left) ∙ was

-- lines behind lines
pub line_then : {X E : Type 0} (r : Result X E) (line : List ℕ) (lines : List (List ℕ)) (old mid new : List ℕ) → mid ≡ old ++ ended line → OnOk r (new ≡ mid ++ flat_map ended lines) → OnOk r (new ≡ old ++ flat_map ended (line ∷ lines))
line_then (Ok x) line lines old mid new a b = b ∙ ap (λ t. t ++ flat_map ended lines) a ∙ append_assoc old (ended line) (flat_map ended lines)
line_then (Err e) line lines old mid new a b = tt

pub lines_then : {X E : Type 0} (r : Result X E) (front rest : List (List ℕ)) (old mid new : List ℕ) → mid ≡ old ++ flat_map ended front → OnOk r (new ≡ mid ++ flat_map ended rest) → OnOk r (new ≡ old ++ flat_map ended (front ++ rest))
lines_then (Ok x) front rest old mid new a b =
    b ∙ ap (λ t. t ++ flat_map ended rest) a ∙ append_assoc old (flat_map ended front) (flat_map ended rest) ∙ ap (λ t. old ++ t) (sym (flat_map-append ended front rest))
lines_then (Err e) front rest old mid new a b = tt
