-- What is known grows entry by entry: one step for each kind of entry of the log and of the journal.
use Rattle.std.proofs.Common.{subst, ◌≡◌, ℕ, List, [], ◌∷◌, ◌++◌, Option, Some, inl, inr, sym, ap, ◌∙◌}
use Rattle.std.specs.Prelude.{Contains}
use Rattle.std.specs.List.{AllByRecursion}
use Rattle.std.proofs.lemmas.List.Elements.{Contains-append_left}
use Rattle.cx_base.specs.Names.{Name}
use Rattle.cx_steps.specs.cx_journal.specs.declared.entries.Entry.{Entry}
use Rattle.cx_base.specs.declared.nodes.NodeName.{NodeName}
use Rattle.cx_steps.specs.Draws.{for_whom, key_of}
use Rattle.cx_steps.specs.Premises.{IsLeakedKey}
use Rattle.cx_steps.specs.declared.seals.DrawMark.{DrawMark}
use Rattle.cx_steps.specs.declared.seals.DrawMark.TheVariants as draw
use Rattle.cx_steps.specs.declared.seals.Logged.{Logged}
use Rattle.cx_steps.specs.declared.seals.SealEntry.{SealEntry}
use Rattle.cx_steps.specs.declared.seals.SealEntry.TheVariants as entry
use Rattle.cx_laws_keys.proofs.keys.Lists.{all-map, some-map, some-right}
use Rattle.cx_laws_keys.proofs.keys.Known.{IsPlaced, AreOwn, Inv, IsAllowed, Within, allowed-grows}
use Rattle.cx_laws_keys.proofs.keys.Premises.{DrawsKey, IsGranted, behind, logged, new-key}
use Rattle.cx_laws_keys.proofs.keys.Uses.{DrawnAs, HasDrawn, HasSecret, Means, Secret, Use, Uses, grows-one, stays, whose, with_key, WholeRun, grows-saved}
use Rattle.cx_sealed.specs.cx_rotate.specs.declared.generations.Generation.{Generation}
use Rattle.cx_base.specs.declared.kinds.EntityType.{EntityType}

pub within-itself : (J : List Entry) → Within J J
within-itself J = record { has = λ e h. h }

pub within-entered : (J K : List Entry) → Within J (J ++ K)
within-entered J K = record { has = λ e h. Contains-append_left J K e h }

drawn-key : (for : Option Name) (key : List ℕ) (e : SealEntry) → DrawnAs for key e → DrawsKey key e
drawn-key for key (entry.Drawn mark) h = h.0
drawn-key for key (entry.Sealed m) h = h
drawn-key for key (entry.Opened m) h = h
drawn-key for key (entry.Signed m) h = h
drawn-key for key (entry.Checked m) h = h

module _ (run : WholeRun) (whole : List Logged) where
  -- ---- what is known of a log and a journal

  module _ (us : Uses) (log : List Logged) (J : List Entry) where
    -- an entry that is allowed
    pub inv-allowed : (n : NodeName) (line : ℕ) (e : SealEntry) → Inv run whole us log J → IsAllowed us J n e → Inv run whole us (logged n line e ∷ log) J
    inv-allowed n line e i a = record {
      held = λ key u h. inr (i.held key u h);
      secrets = λ key name h. inr (i.secrets key name h);
      one = i.one;
      leaks = i.leaks;
      allowed = (a, i.allowed);
      own = i.own;
      told = i.told;
      placed = i.placed;
    }

    -- a key that is drawn for a use
    pub inv-drawn : (n : NodeName) (line : ℕ) (mark : DrawMark) (key : List ℕ) (u : Use) → Inv run whole us log J → key_of mark ≡ Some key → for_whom mark ≡ whose u → IsPlaced u
        → ((name : Name) → u ≡ Secret name → mark ≡ draw.Principal key name) → IsGranted run.leaked whole log (logged n line (entry.Drawn mark)) → Inv run whole (with_key us key u) (logged n line (entry.Drawn mark) ∷ log) J
    inv-drawn n line mark key u i is for place exact grant = record {
      held = held;
      secrets = secrets;
      one = one;
      leaks = leaks;
      allowed = (
        tt,
        all-map (λ (at : Logged). IsAllowed us J at.node at.entry) (λ (at : Logged). IsAllowed (with_key us key u) J at.node at.entry)
            (λ at a. allowed-grows us (with_key us key u) J J (grows-one us key u) (λ s g h. h) (within-itself J) at.node at.entry a) log i.allowed,
      );
      own = i.own;
      told = i.told;
      placed = placed;
    }
      where
        unused : (k : List ℕ) (v : Use) → key ≡ k → Means us k v → ⊥
        unused k v same h =
            let before : HasDrawn log (whose v) k = i.held k v h in
            let drawn : DrawsKey k (entry.Drawn mark) = is ∙ ap (λ (x : List ℕ). Some x) same in
            new-key k log (entry.Drawn mark) grant.new drawn
            (some-map (λ (at : Logged). DrawnAs (whose v) k at.entry) (λ (at : Logged). DrawsKey k at.entry) (λ at d. drawn-key (whose v) k at.entry d) log before)

        held : (k : List ℕ) (v : Use) → Means (with_key us key u) k v → HasDrawn (logged n line (entry.Drawn mark) ∷ log) (whose v) k
        held k v (inl (same, purpose)) = inl (is ∙ ap (λ (x : List ℕ). Some x) same, for ∙ ap whose purpose)
        held k v (inr h) = inr (i.held k v h)

        secrets : (k : List ℕ) (name : Name) → Means (with_key us key u) k (Secret name) → HasSecret (logged n line (entry.Drawn mark) ∷ log) name k
        secrets k name (inl (same, purpose)) = inl (ap (λ (m : DrawMark). entry.Drawn m) (exact name purpose ∙ ap (λ (x : List ℕ). draw.Principal x name) same))
        secrets k name (inr h) = inr (i.secrets k name h)

        placed : (k : List ℕ) (v : Use) → Means (with_key us key u) k v → IsPlaced v
        placed k v (inl (same, purpose)) = subst IsPlaced purpose place
        placed k v (inr h) = i.placed k v h

        one : (k : List ℕ) (v w : Use) → Means (with_key us key u) k v → Means (with_key us key u) k w → v ≡ w
        one k v w (inl (a, b)) (inl (c, d)) = sym b ∙ d
        one k v w (inl (a, b)) (inr h) = absurd (unused k w a h)
        one k v w (inr h) (inl (a, b)) = absurd (unused k v a h)
        one k v w (inr h) (inr g) = i.one k v w h g

        leaks : (k : List ℕ) (v : Use) → Means (with_key us key u) k v → IsLeakedKey run.leaked whole k → (name : Name) × (whose v ≡ Some name) × Contains run.leaked name
        leaks k v (inl (same, purpose)) leak =
            let told = grant.leak k (is ∙ ap (λ (x : List ℕ). Some x) same) leak in
            (told.0, sym (ap whose purpose) ∙ sym for ∙ told.1, told.2)
        leaks k v (inr h) leak = i.leaks k v h leak

    -- an entry of the journal, where each global id stays one entity's
    pub inv-entered : (e : Entry) → Inv run whole us log J → AreOwn (J ++ e ∷ []) → Inv run whole us log (J ++ e ∷ [])
    inv-entered e i own = record {
      held = i.held;
      secrets = i.secrets;
      one = i.one;
      leaks = i.leaks;
      allowed = all-map (λ (at : Logged). IsAllowed us J at.node at.entry) (λ (at : Logged). IsAllowed us (J ++ e ∷ []) at.node at.entry)
          (λ at a. allowed-grows us us J (J ++ e ∷ []) (stays us) (λ s g h. h) (within-entered J (e ∷ [])) at.node at.entry a) log i.allowed;
      own = own;
      told = i.told;
      placed = i.placed;
    }

  -- nothing else is said of what was saved: behind more of that all stays known
  pub inv-saved : (us : Uses) (log : List Logged) (J : List Entry) (more : List (EntityType × Generation)) → Inv run whole us log J
      → Inv (record run { saved = more ++ run.saved }) whole (record us { saved = more ++ us.saved }) log J
  inv-saved us log J more i =
      let vs : Uses = record us { saved = more ++ us.saved } in
      record {
        held = i.held;
        secrets = i.secrets;
        one = i.one;
        leaks = i.leaks;
        allowed = all-map (λ (at : Logged). IsAllowed us J at.node at.entry) (λ (at : Logged). IsAllowed vs J at.node at.entry)
            (λ at a. allowed-grows us vs J J (grows-saved us (more ++ us.saved)) (λ s g h. some-right (λ (p : EntityType × Generation). (p.0 ≡ s) × (p.1.id ≡ g.id) × (p.1.key ≡ g.key)) more us.saved h)
            (within-itself J) at.node at.entry a) log i.allowed;
        own = i.own;
        told = ap (λ (s : List (EntityType × Generation)). more ++ s) i.told;
        placed = i.placed;
      }

  -- entries that are allowed, in order
  pub inv-all : (us : Uses) (log : List Logged) (J : List Entry) (n : NodeName) (line : ℕ) (es : List SealEntry) → Inv run whole us log J
      → AllByRecursion (IsAllowed us J n) es → Inv run whole us (behind n line es log) J
  inv-all us log J n line [] i a = i
  inv-all us log J n line (e ∷ es) i a = inv-all us (logged n line e ∷ log) J n line es (inv-allowed us log J n line e i a.0) a.1
