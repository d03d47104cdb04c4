-- Forms of encodings: how a value is read at a place of some bytes, how it is spelled, and which values have a spelling.
use Rattle.std.specs.Prelude.{ℕ, zero, suc, ◌≡◌, ◌+◌, ◌^◌, ◌<◌, List, [], ◌∷◌, ◌++◌, length, take, drop, Bool, Option, Some, None, Result, Ok, Err, nat_lt, if◌then◌else◌, slice_index}
use Rattle.std.specs.List.{AllByRecursion, flat_map}
use Rattle.std.specs.Int.{Width, w8, w16, w32, w64, byte_len, to_le_bytes, from_le_bytes}
use Rattle.cx_enc.specs.declared.faults.ReadFault.{ReadFault}
use Rattle.cx_enc.specs.declared.faults.ReadFault.TheVariants.{Short, BadField}

-- a place in some bytes: its number, and the bytes from there on
pub record Spot : Type 0 where
  pub place : ℕ
  pub left : List ℕ

-- one step and then the next, up to the first fault
infixl 10 ◌>>=◌
abbrev pub ◌>>=◌ : {A B : Type 0} → Result A ReadFault → (A → Result B ReadFault) → Result B ReadFault
(Ok x) >>= f = f x
(Err e) >>= f = Err e

-- what stands at a spot: the value and the spot behind it, or the first fault; the one spelling of a value; and the values
-- that have one
pub record Form (X : Type 0) : Type 1 where
  pub at : Spot → Result (X × Spot) ReadFault
  pub text : X → List ℕ
  pub Fits : X → Type 0

-- so many bytes; they fall short where fewer are left
unfoldable pub bytes_at : ℕ → Spot → Result (List ℕ × Spot) ReadFault
bytes_at n s =
    if nat_lt (length s.left) n
    then Err (Short s.place)
    else Ok (take n s.left, record { place = s.place + n; left = drop n s.left })

abbrev pub bytes_form : ℕ → Form (List ℕ)
bytes_form n = record { at = bytes_at n; text = λ bytes. bytes; Fits = λ bytes. length bytes ≡ n }

-- a number of a width, its least significant byte first
unfoldable pub little : Width → ℕ → List ℕ
little w n = to_le_bytes w n

unfoldable pub number_at : Width → Spot → Result (ℕ × Spot) ReadFault
number_at w s = bytes_at (byte_len w) s >>= λ b. Ok (from_le_bytes w b.0, b.1)

abbrev pub u8_form : Form ℕ
u8_form = record { at = number_at w8; text = little w8; Fits = λ n. n < 2 ^ 8 }

abbrev pub u16_form : Form ℕ
u16_form = record { at = number_at w16; text = little w16; Fits = λ n. n < 2 ^ 16 }

abbrev pub u32_form : Form ℕ
u32_form = record { at = number_at w32; text = little w32; Fits = λ n. n < 2 ^ 32 }

abbrev pub u64_form : Form ℕ
u64_form = record { at = number_at w64; text = little w64; Fits = λ n. n < 2 ^ 64 }

-- one form behind the other
abbrev pub pair : {A B : Type 0} → Form A → Form B → Form (A × B)
pair f g = record {
  at = λ s. f.at s >>= λ a. g.at a.1 >>= λ b. Ok ((a.0, b.0), b.1);
  text = λ x. f.text x.0 ++ g.text x.1;
  Fits = λ x. f.Fits x.0 × g.Fits x.1;
}

-- the same bytes, for another type
abbrev pub seen : {A X : Type 0} → (A → X) → (X → A) → Form A → Form X
seen made parts f = record {
  at = λ s. f.at s >>= λ a. Ok (made a.0, a.1);
  text = λ x. f.text (parts x);
  Fits = λ x. f.Fits (parts x);
}

-- a form as one field: where it can't be read, it is the field that falls short, at its own place
abbrev pub short_at : {A : Type 0} → ℕ → Result A ReadFault → Result A ReadFault
short_at place (Ok x) = Ok x
short_at place (Err e) = Err (Short place)

abbrev pub field : {A : Type 0} → Form A → Form A
field f = record { at = λ s. short_at s.place (f.at s); text = f.text; Fits = f.Fits }

-- a field that is judged once all of it is there: its parts may make no value
abbrev pub or_bad : {X : Type 0} → ℕ → Option X → Spot → Result (X × Spot) ReadFault
or_bad place (Some x) next = Ok (x, next)
or_bad place None next = Err (BadField place)

abbrev pub checked : {A X : Type 0} → (A → Option X) → (X → A) → Form A → Form X
checked made parts f = record {
  at = λ s. f.at s >>= λ a. or_bad s.place (made a.0) a.1;
  text = λ x. f.text (parts x);
  Fits = λ x. f.Fits (parts x) × (made (parts x) ≡ Some x);
}

-- a length and so many bytes
unfoldable pub blob_at : Spot → Result (List ℕ × Spot) ReadFault
blob_at s = short_at s.place (number_at w32 s >>= λ n. bytes_at n.0 n.1)

abbrev pub blob_form : Form (List ℕ)
blob_form = record {
  at = blob_at;
  text = λ bytes. little w32 (length bytes) ++ bytes;
  Fits = λ bytes. length bytes < 2 ^ 32;
}

-- so many values of one form, one behind the other
unfoldable pub times_at : {X : Type 0} → (Spot → Result (X × Spot) ReadFault) → ℕ → Spot → Result (List X × Spot) ReadFault
times_at at zero s = Ok ([], s)
times_at at (suc n) s = at s >>= λ x. times_at at n x.1 >>= λ xs. Ok (x.0 ∷ xs.0, xs.1)

abbrev pub times : {X : Type 0} → ℕ → Form X → Form (List X)
times n f = record {
  at = times_at f.at n;
  text = flat_map f.text;
  Fits = λ xs. (length xs ≡ n) × AllByRecursion f.Fits xs;
}

-- a form and, behind it, one that depends on what was read by it
abbrev pub after : {A B : Type 0} → Form A → (A → Form B) → Form (A × B)
after f g = record {
  at = λ s. f.at s >>= λ a. (g a.0).at a.1 >>= λ b. Ok ((a.0, b.0), b.1);
  text = λ x. f.text x.0 ++ (g x.0).text x.1;
  Fits = λ x. f.Fits x.0 × (g x.0).Fits x.1;
}

-- a field of which only some values are good
abbrev pub passed : {A : Type 0} → (A → Bool) → A → Option A
passed good a = if good a then Some a else None

abbrev pub judged : {A : Type 0} → (A → Bool) → Form A → Form A
judged good f = checked (passed good) (λ a. a) f

-- a count, in a form of its own, and the list that it counts: what is wrong with the count is found before the list
abbrev pub with_count : {X : Type 0} → Form ℕ → (ℕ → Form (List X)) → Form (List X)
with_count count list = seen (λ a. a.1) (λ xs. (length xs, xs)) (after count list)

abbrev pub many : {X : Type 0} → Form X → Form (List X)
many f = with_count u32_form (λ n. times n f)

abbrev pub counted : {X : Type 0} → (ℕ → Bool) → Form X → Form (List X)
counted good f = with_count (judged good u32_form) (λ n. times n f)

-- so many values, each by a form that depends on what stands before it: `next` says what stands before the following one
unfoldable pub chain_at : {S X : Type 0} → (S → Spot → Result (X × Spot) ReadFault) → (S → X → S) → ℕ → S → Spot → Result (List X × Spot) ReadFault
chain_at at next zero before s = Ok ([], s)
chain_at at next (suc n) before s = at before s >>= λ x. chain_at at next n (next before x.0) x.1 >>= λ xs. Ok (x.0 ∷ xs.0, xs.1)

unfoldable pub chain_text : {S X : Type 0} → (S → X → List ℕ) → (S → X → S) → S → List X → List ℕ
chain_text text next before [] = []
chain_text text next before (x ∷ xs) = text before x ++ chain_text text next (next before x) xs

abbrev pub ChainFits : {S X : Type 0} → (S → X → Type 0) → (S → X → S) → S → List X → Type 0
ChainFits fits next before [] = Unit {0}
ChainFits fits next before (x ∷ xs) = fits before x × ChainFits fits next (next before x) xs

abbrev pub chain : {S X : Type 0} → (S → Form X) → (S → X → S) → S → ℕ → Form (List X)
chain f next before n = record {
  at = chain_at (λ b. (f b).at) next n before;
  text = chain_text (λ b. (f b).text) next before;
  Fits = λ xs. (length xs ≡ n) × ChainFits (λ b. (f b).Fits) next before xs;
}

-- bytes, of which each is below 256
abbrev pub IsBytes : List ℕ → Type 0
IsBytes bytes = (i : ℕ) → slice_index bytes i < 256

-- what was taken from the front of a spot, and what is left behind it
pub record Took (s : Spot) (text : List ℕ) (next : Spot) : Type 0 where
  pub whole : s.left ≡ text ++ next.left
  pub place : next.place ≡ s.place + length text
  pub bytes : IsBytes next.left

-- the two laws of a form: what is read was spelled so, and what is spelled is read again, whatever follows it
pub record IsLawful {X : Type 0} (f : Form X) : Type 0 where
  pub takes : (s : Spot) (x : X × Spot) → IsBytes s.left → f.at s ≡ Ok x → Took s (f.text x.0) x.1 × f.Fits x.0
  pub again : (x : X) (place : ℕ) (more : List ℕ) → f.Fits x
      → f.at (record { place = place; left = f.text x ++ more }) ≡ Ok (x, record { place = place + length (f.text x); left = more })
