-- What is logged of a rotation.
use Rattle.std.proofs.Common.{◌≡◌, ℕ, List, [], ◌∷◌, ◌++◌, map, take, ap, ◌∙◌, append_assoc}
use Rattle.std.specs.List.{flat_map}
use Rattle.std.proofs.lemmas.List.{append-nil}
use Rattle.cx_base.specs.declared.kinds.EntityType.{EntityType}
use Rattle.cx_base.specs.declared.kinds.EntityType.TheVariants.{Mds, Osd, Mgr, Auth}
use Rattle.cx_dice.specs.Draws.{rotation_of}
use Rattle.cx_keyserver.specs.Servers.{generations_of, life_of}
use Rattle.cx_rotate.specs.Rotation.{additions}
use Rattle.cx_rotate.specs.declared.generations.Generation.{Generation}
use Rattle.cx_rotate.specs.declared.states.KeptState.{KeptState}
use Rattle.cx_rules.specs.Tickets.{drawn_for, rotation_drawn}
use Rattle.cx_steps.specs.declared.seals.DrawMark.TheVariants.{Rotation}
use Rattle.cx_steps.specs.declared.seals.SealEntry.{SealEntry}
use Rattle.cx_steps.specs.declared.seals.SealEntry.TheVariants.{Drawn}

drawn_keys : ℕ → List (List ℕ) → List SealEntry
drawn_keys added keys = map (λ key. Drawn (Rotation key)) (take added keys)

-- the keys that are added for a service
pub added_is : (now : ℕ) (draw : List ℕ) (state : KeptState) (service : EntityType) (keys : List (List ℕ)) (generations : List Generation) (life added : ℕ)
    → keys ≡ rotation_of service draw → generations ≡ generations_of state service → life ≡ life_of state service → added ≡ additions now life keys generations
    → map (λ key. Drawn (Rotation key)) (take added keys) ≡ drawn_for now draw state service
unfolding drawn_keys
added_is now draw state service keys generations life added keys_are generations_are life_is count =
    ap (λ (n : ℕ). drawn_keys n keys) (count ∙ ap (λ (l : ℕ). additions now l keys generations) life_is ∙ ap (additions now (life_of state service) keys) generations_are)
    ∙ ap (λ (ks : List (List ℕ)). drawn_keys (additions now (life_of state service) ks (generations_of state service)) ks) keys_are

four : {X Y : Type 0} (f : X → List Y) (a b c d : X) (old : List Y) → (((old ++ f a) ++ f b) ++ f c) ++ f d ≡ old ++ flat_map f (a ∷ b ∷ c ∷ d ∷ [])
four f a b c d old = simp (append_assoc, append-nil)

-- those that are added for all of them
pub all_added : (now : ℕ) (draw : List ℕ) (state : KeptState) (old one two three new : List SealEntry)
    → one ≡ old ++ drawn_for now draw state Mds → two ≡ one ++ drawn_for now draw state Osd → three ≡ two ++ drawn_for now draw state Mgr → new ≡ three ++ drawn_for now draw state Auth
    → new ≡ old ++ rotation_drawn now draw state
all_added now draw state old one two three new a b c d =
    d ∙ ap (λ (xs : List SealEntry). xs ++ drawn_for now draw state Auth) (c ∙ ap (λ (xs : List SealEntry). xs ++ drawn_for now draw state Mgr) (b ∙ ap (λ (xs : List SealEntry). xs ++ drawn_for now draw state Osd) a))
    ∙ four (drawn_for now draw state) Mds Osd Mgr Auth old
