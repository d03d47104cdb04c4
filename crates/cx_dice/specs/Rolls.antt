-- What dice give, and the dice in memory, which roll a generator.
use Rattle.std.specs.Prelude.{ℕ, zero, suc, ◌≡◌, ◌+◌, ◌*◌, ◌%◌, ◌^◌, Bool, not, List, [], ◌++◌, Option, Some, None, if◌then◌else◌, replicate}
use Rattle.std.specs.Int.{w32, w64, to_le_bytes}
use Rattle.rand_core.specs.Steps.{fill_via_u32}
use Rattle.rand_chacha.specs.ChaCha.{ChaCha, next_word, word_at, key_of, of_seed}
use Rattle.cx_base.specs.Streams.{is_listed, count_after}

-- where the dice tell which draws are to come, numbered from 0: the next one is given, and the others are to come
abbrev pub GivesDraw : Option (ℕ → List ℕ) → Option (ℕ → List ℕ) → List ℕ → Type 0
GivesDraw None new draw = Unit {0}
GivesDraw (Some coming) new draw = (draw ≡ coming 0) × (new ≡ Some (λ n. coming (suc n)))

-- the seed of a generator of a number: its eight bytes and 24 zeros
abbrev pub seed_bytes : ℕ → List ℕ
seed_bytes seed = to_le_bytes w64 seed ++ replicate 24 0

-- the generator of a number before this word
abbrev pub generator_at : ℕ → ℕ → ChaCha
generator_at seed word = record { key = key_of (seed_bytes seed); stream = 0; word_pos = word % 2 ^ 68 }

-- the next draw of a generator of ChaCha20, and the generator behind it
abbrev pub rolled : ChaCha → List ℕ × ChaCha
rolled generator = fill_via_u32 (next_word 10) 384 generator

-- the draws of a generator that are to come
unfoldable pub draws_of : ChaCha → ℕ → List ℕ
draws_of generator zero = (rolled generator).0
draws_of generator (suc n) = draws_of (rolled generator).1 n

-- dice in memory as contracts see them: the generator, the numbers of the calls that fail, the calls and faults so far
pub record Rolling : Type 0 where
  pub generator : ChaCha
  pub fails : List ℕ
  pub calls : ℕ
  pub faults : ℕ

-- whether dice in memory give a draw at their next call
abbrev pub rolls_next : Rolling → Bool
rolls_next dice = not (is_listed dice.fails (count_after dice.calls))

-- dice in memory behind a call: one that fails rolls nothing
abbrev pub after_block : Rolling → Rolling
after_block dice = record {
  generator = (if rolls_next dice then (rolled dice.generator).1 else dice.generator);
  fails = dice.fails;
  calls = count_after dice.calls;
  faults = (if rolls_next dice then dice.faults else count_after dice.faults);
}

-- the bytes of so many words of a stream from a place on, each with its least significant byte first; a stream repeats after
-- 2^68 words
unfoldable pub words_from : List ℕ → ℕ → ℕ → List ℕ
words_from key place zero = []
words_from key place (suc n) = words_from key place n ++ to_le_bytes w32 (word_at 10 key 0 ((place + n) % 2 ^ 68))

-- the draw of this number, from 0, of a seed: 96 words
abbrev pub seed_draw : ℕ → ℕ → List ℕ
seed_draw seed number = words_from (key_of (seed_bytes seed)) (96 * number) 96

-- the draws of new dice in memory are those of their seed
abbrev pub AreSeedDraws : Type 0
AreSeedDraws = (seed number : ℕ) → draws_of (of_seed (seed_bytes seed)) number ≡ seed_draw seed number
