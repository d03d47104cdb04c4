-- What opens at a node, where nothing under its key is excepted: it says what the key's use allows.
use Rattle.std.proofs.Common.{◌≡◌, ◌⊎◌, ℕ, Bool, true, false, cond, List, [], ◌∷◌, Option, Some, None, inl, inr, subst}
use Rattle.std.specs.Prelude.{find, ◌==◌}
use Rattle.std.specs.Option.{option_map}
use Rattle.cx_base.specs.Names.{Name}
use Rattle.cx_base.specs.declared.kinds.EntityType.{EntityType}
use Rattle.cx_laws_keys.specs.cx_cbc.specs.Opened.{opened}
use Rattle.cx_laws_keys.specs.cx_enc.specs.Forms.{Form}
use Rattle.cx_laws_keys.specs.cx_journal.specs.declared.entries.Entry.{Entry}
use Rattle.cx_base.specs.declared.nodes.NodeName.{NodeName}
use Rattle.cx_laws_keys.specs.cx_journal.specs.declared.premises.KeyKind.{KeyKind}
use Rattle.cx_rules.specs.cx_login.specs.Opening.{generation_key}
use Rattle.cx_rules.specs.cx_login.specs.Unlocking.{unlocked, unlocked_as}
use Rattle.cx_rules.specs.cx_rotate.specs.declared.generations.Generation.{Generation}
use Rattle.cx_laws_keys.specs.cx_sealed.specs.Unsealing.{spelled_by, unsealed_as}
use Rattle.cx_rules.specs.cx_steps.specs.Premises.{HasSealed, IsExcepted}
use Rattle.cx_rules.specs.cx_steps.specs.declared.seals.Logged.{Logged}
use Rattle.cx_rules.specs.cx_steps.specs.declared.seals.SealMark.{SealMark}
use Rattle.cx_laws_keys.proofs.keys.Known.{Inv, Says, opened_says}
use Rattle.cx_laws_keys.proofs.keys.Premises.{AreGranted}
use Rattle.cx_laws_keys.proofs.keys.Uses.{Generated, Means, Use, Uses, whose, WholeRun}
use Rattle.cx_laws_keys.proofs.keys.Uses.{AreGenerated}
use Rattle.cx_laws_keys.proofs.login.Rows.{Allowed}

module _ (run : WholeRun) (whole : List Logged) (n : NodeName) (line : ℕ) (us : Uses) (log : List Logged) (J : List Entry) where
  -- the record that opened was read of a content that the key's use allows
  pub unlocked_says : {X : Type 0} (form : Form X) (kind : KeyKind) (key bytes : List ℕ) (u : Use) → Inv run whole us log J → Means us key u
      → (IsExcepted run.leaked whole n key → ⊥) → AreGranted run.leaked whole n line log (unlocked form kind key bytes).seals → (x : X)
      → (unlocked form kind key bytes).value ≡ Some x → (content : List ℕ) × (spelled_by form content ≡ Some x) × Says us J key u content
  unlocked_says {X} form kind key bytes u i means free g x e = by_opened (opened key bytes) g e
    where
      by_opened : (o : Option (List ℕ)) → AreGranted run.leaked whole n line log (unlocked_as kind key (unsealed_as form o)).seals
          → (unlocked_as kind key (unsealed_as form o)).value ≡ Some x → (content : List ℕ) × (spelled_by form content ≡ Some x) × Says us J key u content
      by_opened None g e = absurd cc
      by_opened (Some content) g e =
          let mark : SealMark = record { key = key; kind = kind; content = content } in
          (content, e, by_owed g.0.owes)
        where
          by_owed : IsExcepted run.leaked whole n key ⊎ HasSealed log (record { key = key; kind = kind; content = content }) → Says us J key u content
          by_owed (inl excepted) = absurd (free excepted)
          by_owed (inr sealed) = opened_says run whole us log J i (record { key = key; kind = kind; content = content }) sealed u means

  -- what opens is allowed in the log
  pub unlocked-allowed : {X : Type 0} (form : Form X) (kind : KeyKind) (key bytes : List ℕ) → Allowed us J n (unlocked form kind key bytes).seals
  unlocked-allowed {X} form kind key bytes = by_opened (opened key bytes)
    where
      by_opened : (o : Option (List ℕ)) → Allowed us J n (unlocked_as kind key (unsealed_as form o)).seals
      by_opened None = tt
      by_opened (Some content) = (tt, tt)

  -- nothing is excepted under the key of a generation
  pub generation-free : (key : List ℕ) (service : EntityType) (id : ℕ) → Inv run whole us log J → Means us key (Generated service id) → IsExcepted run.leaked whole n key → ⊥
  generation-free key service id i means excepted =
      let leak = i.leaks key (Generated service id) means excepted.leak in
      none leak.0 leak.1
    where
      none : (name : Name) → whose (Generated service id) ≡ Some name → ⊥
      none name e = cc

-- the key of a generation of a service is for it
pub generation_means : (us : Uses) (service : EntityType) (gs : List Generation) (id : ℕ) (key : List ℕ) → AreGenerated us service gs → generation_key gs id ≡ Some key
    → (of : ℕ) × Means us key (Generated service of)
generation_means us service [] id key h e = absurd cc
generation_means us service (g ∷ gs) id key h e = by_test (g.id == id) e (generation_means us service gs id key h.1)
  where
    by_test : (t : Bool) → option_map (λ (g : Generation). g.key) (cond t (Some g) (find (λ (g : Generation). g.id == id) gs)) ≡ Some key
        → (generation_key gs id ≡ Some key → (of : ℕ) × Means us key (Generated service of)) → (of : ℕ) × Means us key (Generated service of)
    by_test true found rest = let same : g.key ≡ key = cc in (g.id, subst (λ (k : List ℕ). Means us k (Generated service g.id)) same h.0)
    by_test false found rest = rest found
