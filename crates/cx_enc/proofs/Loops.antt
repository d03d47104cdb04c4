-- Reading values one behind the other, as a loop does.
use Rattle.std.proofs.Common.{◌≡◌, ℕ, suc, ◌-◌, ◌+◌, ◌≤◌, ◌<◌, List, [], ◌∷◌, ◌++◌, Result, Ok, Err, refl, sym, ap, ◌∙◌, append_assoc, arith}
use Rattle.std.proofs.lemmas.List.{append-nil}
use Rattle.cx_enc.specs.declared.faults.ReadFault.{ReadFault}
use Rattle.cx_enc.specs.declared.faults.ReadRefusal.{ReadRefusal}
use Rattle.cx_enc.specs.declared.faults.ReadRefusal.TheVariants as refusals
use Rattle.cx_enc.specs.Forms.{Spot, ◌>>=◌, times_at, chain_at}
use Rattle.cx_enc.specs.Whole.{Gives, Takes}

-- what was read before, and what is still read
abbrev pub with_front : {X : Type 0} → List X → Result (List X × Spot) ReadFault → Result (List X × Spot) ReadFault
with_front front read = read >>= λ xs. Ok (front ++ xs.0, xs.1)

regroup : {X : Type 0} (front : List X) (x : X) (read : Result (List X × Spot) ReadFault) → with_front front (read >>= λ xs. Ok (x ∷ xs.0, xs.1)) ≡ with_front (front ++ x ∷ []) read
regroup {X} front x (Ok xs) = ap (λ (ys : List X). Ok (ys, xs.1)) (simp append_assoc)
regroup front x (Err e) = refl

-- one more is read
pub goes_on : {X : Type 0} (at : Spot → Result (X × Spot) ReadFault) (front : List X) (count i : ℕ) (s : Spot) (x : X) (next : Spot) (total : Result (List X × Spot) ReadFault) → i < count → at s ≡ Ok (x, next)
    → with_front front (times_at at (count - i) s) ≡ total → with_front (front ++ x ∷ []) (times_at at (count - (i + 1)) next) ≡ total
unfolding times_at
goes_on at front count i s x next total lt read so_far =
    let k : count - i ≡ suc (count - (i + 1)) = omega arith in
    let one : with_front front (times_at at (count - i) s) ≡ with_front (front ++ x ∷ []) (times_at at (count - (i + 1)) next) = rw (k, read) (regroup front x (times_at at (count - (i + 1)) next)) in
    sym one ∙ so_far

-- one can't be read
pub ends : {X : Type 0} (at : Spot → Result (X × Spot) ReadFault) (front : List X) (count i : ℕ) (s : Spot) (e : ReadFault) (total : Result (List X × Spot) ReadFault) → i < count → at s ≡ Err e
    → with_front front (times_at at (count - i) s) ≡ total → total ≡ Err e
unfolding times_at
ends at front count i s e total lt read so_far =
    let k : count - i ≡ suc (count - (i + 1)) = omega arith in
    let one : with_front front (times_at at (count - i) s) ≡ Err e = rw (k, read) refl in
    sym so_far ∙ one

-- all are read
pub is_done : {X : Type 0} (at : Spot → Result (X × Spot) ReadFault) (front : List X) (count i : ℕ) (s : Spot) (total : Result (List X × Spot) ReadFault) → count ≤ i → with_front front (times_at at (count - i) s) ≡ total → total ≡ Ok (front, s)
unfolding times_at
is_done {X} at front count i s total le so_far =
    let k : count - i ≡ 0 = omega arith in
    let one : with_front front (times_at at (count - i) s) ≡ Ok (front, s) = rw k (ap (λ (xs : List X). Ok (xs, s)) (append-nil front)) in
    sym so_far ∙ one

-- none is read yet
pub begins : {X : Type 0} (at : Spot → Result (X × Spot) ReadFault) (count : ℕ) (s : Spot) → with_front [] (times_at at (count - 0) s) ≡ times_at at count s
begins at count s = let k : count - 0 ≡ count = omega arith in rw k (all (times_at at count s))
  where
    all : {X : Type 0} (read : Result (List X × Spot) ReadFault) → with_front [] read ≡ read
    all (Ok xs) = refl
    all (Err e) = refl

-- one item is refused: that is the refusal of the list, read from its count
pub refuses : {X : Type 0} (at : Spot → Result (X × Spot) ReadFault) (front : List X) (count i : ℕ) (s new old : Spot) (e : ReadRefusal) (total whole : Result (List X × Spot) ReadFault) → i < count → Gives new (Err e) (at s)
    → with_front front (times_at at (count - i) s) ≡ total → whole ≡ total → Takes old old (Err e) whole
refuses at front count i s new old (refusals.Fault fault) total whole lt refused so_far is = (is ∙ ends at front count i s fault total lt refused so_far, refl)
refuses at front count i s new old (refusals.LeftOver place) total whole lt refused so_far is = refused
refuses at front count i s new old refusals.OutOfMemory total whole lt refused so_far is = refl

-- ---- values of which each depends on what stands before it

pub chain_goes_on : {S X : Type 0} (at : S → Spot → Result (X × Spot) ReadFault) (next : S → X → S) (front : List X) (count i : ℕ) (before : S) (s : Spot) (x : X) (end : Spot) (total : Result (List X × Spot) ReadFault)
    → i < count → at before s ≡ Ok (x, end) → with_front front (chain_at at next (count - i) before s) ≡ total
    → with_front (front ++ x ∷ []) (chain_at at next (count - (i + 1)) (next before x) end) ≡ total
unfolding chain_at
chain_goes_on {S} {X} at next front count i before s x end total lt read so_far =
    let k : count - i ≡ suc (count - (i + 1)) = omega arith in
    let rest : Result (List X × Spot) ReadFault = chain_at at next (count - (i + 1)) (next before x) end in
    let one : with_front front (chain_at at next (count - i) before s) ≡ with_front (front ++ x ∷ []) rest = rw (k, read) (regroup front x rest) in
    sym one ∙ so_far

chain_ends : {S X : Type 0} (at : S → Spot → Result (X × Spot) ReadFault) (next : S → X → S) (front : List X) (count i : ℕ) (before : S) (s : Spot) (e : ReadFault) (total : Result (List X × Spot) ReadFault)
    → i < count → at before s ≡ Err e → with_front front (chain_at at next (count - i) before s) ≡ total → total ≡ Err e
unfolding chain_at
chain_ends at next front count i before s e total lt read so_far =
    let k : count - i ≡ suc (count - (i + 1)) = omega arith in
    let one : with_front front (chain_at at next (count - i) before s) ≡ Err e = rw (k, read) refl in
    sym so_far ∙ one

pub chain_is_done : {S X : Type 0} (at : S → Spot → Result (X × Spot) ReadFault) (next : S → X → S) (front : List X) (count i : ℕ) (before : S) (s : Spot) (total : Result (List X × Spot) ReadFault)
    → count ≤ i → with_front front (chain_at at next (count - i) before s) ≡ total → total ≡ Ok (front, s)
unfolding chain_at
chain_is_done {S} {X} at next front count i before s total le so_far =
    let k : count - i ≡ 0 = omega arith in
    let one : with_front front (chain_at at next (count - i) before s) ≡ Ok (front, s) = rw k (ap (λ (xs : List X). Ok (xs, s)) (append-nil front)) in
    sym so_far ∙ one

pub chain_refuses : {S X : Type 0} (at : S → Spot → Result (X × Spot) ReadFault) (next : S → X → S) (front : List X) (count i : ℕ) (before : S) (s new old : Spot) (e : ReadRefusal) (total : Result (List X × Spot) ReadFault)
    → i < count → Gives new (Err e) (at before s) → with_front front (chain_at at next (count - i) before s) ≡ total → Takes old old (Err e) total
chain_refuses at next front count i before s new old (refusals.Fault fault) total lt refused so_far = (chain_ends at next front count i before s fault total lt refused so_far, refl)
chain_refuses at next front count i before s new old (refusals.LeftOver place) total lt refused so_far = refused
chain_refuses at next front count i before s new old refusals.OutOfMemory total lt refused so_far = refl

-- ---- values that are read and not kept

pub passes_on : {X : Type 0} (at : Spot → Result (X × Spot) ReadFault) (count i : ℕ) (s : Spot) (x : X) (next : Spot) (total : Result (List X × Spot) ReadFault) → i < count → at s ≡ Ok (x, next)
    → (front : List X) × (with_front front (times_at at (count - i) s) ≡ total) → (front : List X) × (with_front front (times_at at (count - (i + 1)) next) ≡ total)
passes_on at count i s x next total lt read passed = (passed.0 ++ x ∷ [], goes_on at passed.0 count i s x next total lt read passed.1)

pub passed_all : {X : Type 0} (at : Spot → Result (X × Spot) ReadFault) (count i : ℕ) (s : Spot) (total : Result (List X × Spot) ReadFault) → count ≤ i
    → (front : List X) × (with_front front (times_at at (count - i) s) ≡ total) → (xs : List X) × (total ≡ Ok (xs, s))
passed_all at count i s total le passed = (passed.0, is_done at passed.0 count i s total le passed.1)

pub passed_ends : {X : Type 0} (at : Spot → Result (X × Spot) ReadFault) (count i : ℕ) (s : Spot) (e : ReadFault) (total : Result (List X × Spot) ReadFault) → i < count → at s ≡ Err e
    → (front : List X) × (with_front front (times_at at (count - i) s) ≡ total) → total ≡ Err e
passed_ends at count i s e total lt read passed = ends at passed.0 count i s e total lt read passed.1
