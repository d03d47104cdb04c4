-- A state has a spelling exactly where it can be kept.
use Rattle.std.proofs.Common.{◌≡◌, ℕ, ◌+◌, ◌<◌, ◌≤◌, Bool, true, false, cond, List, [], ◌∷◌, length, Some, None, refl, arith, eq-eqb}
use Rattle.std.specs.Prelude.{nat_lt, nat_le}
use Rattle.std.specs.List.{AllByRecursion}
use Rattle.std.proofs.lemmas.Bool.{leb-true, ltb-true, eqb-true, lt-ltb, le-leb}
use Rattle.std.proofs.lemmas.Bool.Decides.{nat_tests}
use Rattle.cx_rotate.specs.declared.generations.Generation.{Generation}
use Rattle.cx_rotate.specs.declared.states.KeptState.{KeptState}
use Rattle.cx_rotate.specs.Keeping.{IsKeptState, IsLasting, IsLife}
use Rattle.cx_enc.specs.Forms.{passed}
use Rattle.cx_enc.specs.FieldLaws.{both_true, reading_is}
use Rattle.cx_keep.specs.Formats.{SpellsState, Stored, follows, generation_behind, generation_fields, generations_field, is_life, is_none_or_three, life_field, lives_of, state_of, state_text, stored_as, stored_layout}

passed_good : {A : Type 0} (good : A → Bool) (a x : A) → passed good a ≡ Some x → good a ≡ true
passed_good {A} good a x e = by_test (good a) refl e
  where
    by_test : (t : Bool) → good a ≡ t → cond t (Some a) None ≡ Some x → good a ≡ true
    by_test true is made = is
    by_test false is made = absurd cc

-- generations that fit their field can be kept
lasting : (gs : List Generation) → generations_field.form.Fits gs → IsLasting gs
lasting [] fits = tt
lasting (a ∷ b ∷ c ∷ []) fits =
    let chain = fits.1.1 in
    let first : 1 ≤ a.id = leb-true 1 a.id (passed_good (follows None) a.id a.id chain.0.0.1) in
    let second : b.id ≡ a.id + 1 = eqb-true b.id (a.id + 1) (passed_good (follows (Some a)) b.id b.id chain.1.0.0.1) in
    let third : c.id ≡ b.id + 1 = eqb-true c.id (b.id + 1) (passed_good (follows (Some b)) c.id c.id chain.1.1.0.0.1) in
    let sooner : a.expires < b.expires = ltb-true a.expires b.expires (passed_good (nat_lt a.expires) b.expires b.expires chain.1.0.1.1.1) in
    let later : b.expires < c.expires = ltb-true b.expires c.expires (passed_good (nat_lt b.expires) c.expires c.expires chain.1.1.0.1.1.1) in
    (first, second, third, sooner, later, reading_is c.expires chain.1.1.0.1.1.0)
lasting (a ∷ []) fits = let bad = passed_good is_none_or_three 1 1 fits.0.1 in absurd cc
lasting (a ∷ b ∷ []) fits = let bad = passed_good is_none_or_three 2 2 fits.0.1 in absurd cc
lasting (a ∷ b ∷ c ∷ d ∷ gs) fits = let bad = passed_good is_none_or_three (length (a ∷ b ∷ c ∷ d ∷ gs)) (length (a ∷ b ∷ c ∷ d ∷ gs)) fits.0.1 in absurd (too_many (length gs) bad)
  where
    too_many : (n : ℕ) → is_none_or_three (length (a ∷ b ∷ c ∷ d ∷ gs)) ≡ true → ⊥
    too_many n bad = grind (arith, nat_tests)

life_is : (life : ℕ) → passed is_life life ≡ Some life → IsLife life
life_is life fits =
    let parts = both_true (nat_le 1000000000 life) (nat_le life 31536000000000000) (passed_good is_life life life fits) in
    (leb-true 1000000000 life parts.0, leb-true life 31536000000000000 parts.1)

lives_are : (life auth_life : ℕ) (lives : List ℕ) → IsLife life → IsLife auth_life → AllByRecursion life_field.form.Fits lives → IsLife (lives_of (life, auth_life) lives).0 × IsLife (lives_of (life, auth_life) lives).1
lives_are life auth_life [] handed auth_handed fits = (handed, auth_handed)
lives_are life auth_life (l ∷ []) handed auth_handed fits = (handed, auth_handed)
lives_are life auth_life (l ∷ a ∷ []) handed auth_handed fits = (life_is l fits.0.1, life_is a fits.1.0.1)
lives_are life auth_life (l ∷ a ∷ b ∷ lives) handed auth_handed fits = (handed, auth_handed)

-- a state that is spelled can be kept
pub kept_state : (life auth_life : ℕ) (stored : Stored) → IsLife life → IsLife auth_life → stored_layout.form.Fits stored → IsKeptState (state_of (life, auth_life) stored)
kept_state life auth_life stored handed auth_handed fits =
    let lives = lives_are life auth_life stored.lives handed auth_handed fits.1.0.1.1 in
    record {
      next_gid = leb-true 1 stored.next_gid (passed_good (nat_le 1) stored.next_gid stored.next_gid fits.1.0.0.1.1);
      life = lives.0;
      auth_life = lives.1;
      mds = lasting stored.mds fits.1.1.0;
      osd = lasting stored.osd fits.1.1.1.0;
      mgr = lasting stored.mgr fits.1.1.1.1.0;
      auth = lasting stored.auth fits.1.1.1.1.1;
    }

passed_if : {A : Type 0} (good : A → Bool) (a : A) → good a ≡ true → passed good a ≡ Some a
passed_if good a is = rw is refl

-- three generations that can be kept fit their field, where the fields of each do
pub three_fit : (a b c : Generation) → IsLasting (a ∷ b ∷ c ∷ []) → generation_fields.form.Fits a → generation_fields.form.Fits b → generation_fields.form.Fits c → generations_field.form.Fits (a ∷ b ∷ c ∷ [])
three_fit a b c (first, second, third, sooner, later, last) (a_id, (a_key, a_time)) (b_id, (b_key, b_time)) (c_id, (c_key, c_time)) =
    let one : (generation_behind None).form.Fits a = ((a_id, passed_if (follows None) a.id (le-leb 1 a.id first)), (a_key, (a_time, refl))) in
    let two : (generation_behind (Some a)).form.Fits b = ((b_id, passed_if (follows (Some a)) b.id (eq-eqb b.id (a.id + 1) second)), (b_key, (b_time, passed_if (nat_lt a.expires) b.expires (lt-ltb a.expires b.expires sooner)))) in
    let three : (generation_behind (Some b)).form.Fits c = ((c_id, passed_if (follows (Some b)) c.id (eq-eqb c.id (b.id + 1) third)), (c_key, (c_time, passed_if (nat_lt b.expires) c.expires (lt-ltb b.expires c.expires later)))) in
    ((omega arith, refl), (refl, (one, (two, (three, tt)))))

-- what is written spells the state
pub spells : (state : KeptState) (bytes : List ℕ) (lives : ℕ × ℕ) → bytes ≡ state_text state → stored_layout.form.Fits (stored_as state) → SpellsState lives bytes state
spells state bytes lives is fits = (stored_as state, (fits, is), refl)
