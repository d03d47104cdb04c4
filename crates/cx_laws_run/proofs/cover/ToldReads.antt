-- What is told of three generations that can be written is read as they are, by whoever has the secret under which it was sealed.
use Rattle.std.proofs.Common.{◌≡◌, ℕ, ◌<◌, ◌^◌, All, Bool, true, List, [], ◌∷◌, ◌++◌, length, Option, Some, refl, sym, ap, subst, arith}
use Rattle.std.specs.List.{AllByRecursion, flat_map}
use Rattle.std.proofs.lemmas.List.Concat.{flat_map-cons}
use Rattle.std.proofs.lemmas.List.Elements.{All-from_recursion, All-head, All-tail}
use Rattle.cx_aes.specs.Cipher.{IsBlock}
use Rattle.cx_base.specs.declared.kinds.EntityType.{EntityType}
use Rattle.cx_cbc.specs.Envelope.{sealed as enveloped}
use Rattle.cx_enc.specs.FieldLaws.{kind_fits, reading_fits}
use Rattle.cx_enc.specs.Forms.{passed, u32_form, u64_form, u8_form}
use Rattle.cx_enc.specs.Values.{kind_form, number_of, reading_form, secret_form}
use Rattle.cx_journal.specs.declared.premises.KeyKind.TheVariants as kind
use Rattle.cx_laws_run.specs.cx_laws_keys.proofs.keys.Reading.{secret_fits}
use Rattle.cx_laws_run.proofs.run.Written.{both, bytes_1, bytes_4, bytes_8, reading-bytes, secret-bytes}
use Rattle.cx_laws_run.specs.run.Laws.{AreBytes}
use Rattle.cx_laws_run.specs.cx_login.specs.Unlocking.{unlocked, unlocked_as}
use Rattle.cx_rotate.specs.declared.generations.Generation.{Generation}
use Rattle.cx_laws_run.specs.cx_rules.specs.Replies.{told_content}
use Rattle.cx_laws_run.specs.cx_sealed.proofs.Found.{unsealed_only}
use Rattle.cx_laws_run.specs.cx_sealed.specs.Lengths.{rotating_reply_short}
use Rattle.cx_laws_run.specs.cx_sealed.specs.Records.{generation_layout, is_none_or_three, is_rising, rotating_reply_layout}
use Rattle.cx_laws_run.specs.cx_sealed.specs.declared.rotating_reply.RotatingReply.{RotatingReply}
use Rattle.cx_laws_run.specs.cx_sealed.specs.declared.unsealed.Unsealed.{Unsealed}

-- ---- what can be written

-- a generation: its key is one, and its id and its expiry have a spelling
pub record IsWritten (g : Generation) : Type 0 where
  pub block : IsBlock g.key
  pub numbered : g.id < 2 ^ 64
  pub early : g.expires < 4294967296000000000

-- none or three, whose ids rise by one
pub record AreWritten (gs : List Generation) : Type 0 where
  pub few : is_none_or_three (length gs) ≡ true
  pub short : length gs < 2 ^ 32
  pub rising : is_rising gs ≡ true
  pub each : AllByRecursion IsWritten gs

-- ---- its bytes

block-bytes : (bytes : List ℕ) → IsBlock bytes → AreBytes bytes
block-bytes bytes block = over bytes block.bytes
  where
    over : (xs : List ℕ) → All (λ b. b < 256) xs → AreBytes xs
    over [] h = tt
    over (x ∷ xs) h = (All-head (λ b. b < 256) x xs h, over xs (All-tail (λ b. b < 256) x xs h))

generation-bytes : (g : Generation) → IsWritten g → AreBytes (generation_layout.form.text g)
generation-bytes g h =
    both (u64_form.text g.id) (secret_form.text g.key ++ reading_form.text g.expires) (bytes_8 g.id)
    (both (secret_form.text g.key) (reading_form.text g.expires) (secret-bytes g.key (block-bytes g.key h.block)) (reading-bytes g.expires))

each-bytes : (gs : List Generation) → AllByRecursion IsWritten gs → AreBytes (flat_map generation_layout.form.text gs)
each-bytes [] h = tt
each-bytes (g ∷ gs) h =
    subst AreBytes (sym (flat_map-cons generation_layout.form.text g gs))
    (both (generation_layout.form.text g) (flat_map generation_layout.form.text gs) (generation-bytes g h.0) (each-bytes gs h.1))

kind-bytes : (of : EntityType) → AreBytes (kind_form.text of)
unfolding kind_form
kind-bytes of = bytes_4 (number_of of)

told-bytes : (service : EntityType) (gs : List Generation) → AllByRecursion IsWritten gs → AreBytes (told_content service gs)
told-bytes service gs h =
    both (u8_form.text 6) (kind_form.text service ++ (u32_form.text (length gs) ++ flat_map generation_layout.form.text gs)) (bytes_1 6)
    (both (kind_form.text service) (u32_form.text (length gs) ++ flat_map generation_layout.form.text gs) (kind-bytes service)
    (both (u32_form.text (length gs)) (flat_map generation_layout.form.text gs) (bytes_4 (length gs)) (each-bytes gs h)))

-- ---- it fits

passes : {A : Type 0} (good : A → Bool) (a : A) → good a ≡ true → passed good a ≡ Some a
passes good a is = rw is refl

all-fit : (gs : List Generation) → AllByRecursion IsWritten gs → AllByRecursion generation_layout.form.Fits gs
all-fit [] h = tt
all-fit (g ∷ gs) h =
    let w : IsWritten g = h.0 in
    ((w.numbered, (secret_fits g.key w.block.len, reading_fits g.expires w.early)), all-fit gs h.1)

told-fits : (service : EntityType) (gs : List Generation) → AreWritten gs → rotating_reply_layout.form.Fits (record { service = service; generations = gs })
told-fits service gs w = (
  (omega arith, refl),
  (kind_fits service, (((w.short, passes is_none_or_three (length gs) w.few), (refl, all-fit gs w.each)), passes is_rising gs w.rising)),
)

-- ---- so it is read

pub told-opens : (service : EntityType) (gs : List Generation) (secret : List ℕ) → AreWritten gs → IsBlock secret
    → (unlocked rotating_reply_layout.form kind.Principal secret (enveloped secret (told_content service gs))).value ≡ Some (record { service = service; generations = gs })
told-opens service gs secret w block =
    let x : RotatingReply = record { service = service; generations = gs } in
    let fits : rotating_reply_layout.form.Fits x = told-fits service gs w in
    ap (λ (found : Option (Unsealed RotatingReply)). (unlocked_as kind.Principal secret found).value)
    (unsealed_only rotating_reply_layout.form rotating_reply_layout.lawful secret (enveloped secret (told_content service gs)) x block (
      told_content service gs,
      record { size = rotating_reply_short x fits; octets = All-from_recursion (λ (b : ℕ). b < 256) (told_content service gs) (told-bytes service gs w.each); is_sealed = refl },
      (fits, refl),
    ))
