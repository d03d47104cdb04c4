-- What padded bytes look like, and that the padding tells how long it is.
use Rattle.std.proofs.Common.{◌≡◌, ℕ, zero, suc, ◌+◌, ◌-◌, ◌%◌, ◌<◌, ◌≤◌, ◌==◌, Bool, true, false, List, [], ◌∷◌, ◌++◌, length, take, drop, replicate, get_or, refl, ap, sym, ◌∙◌, arith, length-append, eq-eqb, eqb-true}
use Rattle.std.specs.List.{list_all}
use Rattle.std.proofs.lemmas.List.{take_at, drop_at, get_or-append_right, get_or-replicate, length-replicate}
use Rattle.cx_cbc.specs.Envelope.{padding, padded}

list_all-replicate : (n a : ℕ) → list_all (λ b. b == a) (replicate n a) ≡ true
list_all-replicate zero a = refl
list_all-replicate (suc n) a = rw (eq-eqb a a refl) (list_all-replicate n a)

-- as many bytes as n, and each of them a
pub filled : (a : ℕ) (bytes : List ℕ) → list_all (λ b. b == a) bytes ≡ true → bytes ≡ replicate (length bytes) a
filled a [] all = refl
filled a (b ∷ bytes) all = first (b == a) refl (filled a bytes)
  where
    first : (t : Bool) → (b == a) ≡ t → (list_all (λ x. x == a) bytes ≡ true → bytes ≡ replicate (length bytes) a) → b ∷ bytes ≡ a ∷ replicate (length bytes) a
    first true e rest = ap (λ x. x ∷ bytes) (eqb-true b a e) ∙ ap (λ xs. a ∷ xs) (rest (rw e at all))
    first false e rest = let no : false ≡ true = rw e at all in cc

-- these padded bytes end with so many bytes of padding, behind the bytes
pub record IsPadded (plain bytes : List ℕ) (missing : ℕ) : Type 0 where
  pub least : 0 < missing
  pub most : missing ≤ 16
  pub len : length plain ≡ length bytes + missing
  pub last : get_or plain (length plain - 1) 0 ≡ missing
  pub front : take (length bytes) plain ≡ bytes
  pub back : list_all (λ b. b == missing) (drop (length bytes) plain) ≡ true

pub parts : (plain bytes : List ℕ) → plain ≡ padded bytes → IsPadded plain bytes (16 - length bytes % 16)
unfolding padded padding
parts plain bytes e =
    let missing = 16 - length bytes % 16 in
    let least : 0 < missing = omega arith in
    let most : missing ≤ 16 = omega arith in
    let fill = replicate missing missing in
    let behind : length plain ≡ length bytes + missing =
    ap length e ∙ length-append bytes fill ∙ ap (λ n. length bytes + n) (length-replicate missing missing) in
    record {
      least = least;
      most = most;
      len = behind;
      last = ap (λ xs. get_or xs (length plain - 1) 0) e ∙ get_or-append_right bytes fill (length bytes) (length plain - 1) 0 refl (omega arith)
          ∙ get_or-replicate {A = ℕ} missing (length plain - 1 - length bytes) missing 0 (omega arith);
      front = ap (take (length bytes)) e ∙ take_at bytes fill (length bytes) refl;
      back = ap (λ xs. list_all (λ b. b == missing) (drop (length bytes) xs)) e
          ∙ ap (list_all (λ b. b == missing)) (drop_at bytes fill (length bytes) refl) ∙ list_all-replicate missing missing;
    }

-- bytes and so many bytes of padding behind them
pub found : (bytes fill : List ℕ) (missing : ℕ) → length fill ≡ missing → 0 < missing → missing ≤ 16 → (length bytes + missing) % 16 ≡ 0 →
    list_all (λ b. b == missing) fill ≡ true → bytes ++ fill ≡ padded bytes
unfolding padded padding
found bytes fill missing len least most whole all =
    let m : missing ≡ 16 - length bytes % 16 = omega arith in
    ap (λ xs. bytes ++ xs) (filled missing fill all ∙ ap (λ n. replicate n missing) len ∙ ap (λ n. replicate n n) m)

pub padded-one : (first second : List ℕ) → padded first ≡ padded second → first ≡ second
padded-one first second e =
    let a = parts (padded first) first refl in
    let b = parts (padded first) second e in
    let same : length first ≡ length second =
    (let x = a.len in let y = b.len in let u = a.last in let v = b.last in omega arith) in
    sym a.front ∙ ap (λ n. take n (padded first)) same ∙ b.front

pub whole-padded : (bytes : List ℕ) → length (padded bytes) % 16 ≡ 0
whole-padded bytes = let a = parts (padded bytes) bytes refl in let l = a.len in omega arith

take-replicate : (n m a : ℕ) → n ≤ m → take n (replicate m a) ≡ replicate n a
take-replicate zero m a le = refl
take-replicate (suc n) zero a le = absurd (omega arith)
take-replicate (suc n) (suc m) a le = ap (λ xs. a ∷ xs) (take-replicate n m a (omega arith))

-- so many of sixteen bytes behind the bytes are their padding
pub padded_by : (bytes : List ℕ) → bytes ++ take (16 - length bytes % 16) (replicate 16 (16 - length bytes % 16)) ≡ padded bytes
unfolding padded padding
padded_by bytes = ap (λ fill. bytes ++ fill) (take-replicate (16 - length bytes % 16) 16 (16 - length bytes % 16) (omega arith))
