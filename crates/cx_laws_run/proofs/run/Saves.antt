-- A save that fails: what was sealed and signed in its step counts for nothing, and nothing is entered.
use Rattle.std.proofs.Common.{◌≡◌, ◌⊎◌, ℕ, List, [], ◌∷◌, filter, inl, inr}
use Rattle.std.specs.List.{AllByRecursion}
use Rattle.cx_journal.specs.declared.entries.Entry.{Entry}
use Rattle.cx_base.specs.declared.nodes.NodeName.{NodeName}
use Rattle.cx_laws_links.specs.cx_laws_tickets.specs.cx_run.specs.Happenings.{stays}
use Rattle.cx_steps.specs.Onto.{SomeOf}
use Rattle.cx_steps.specs.Premises.{HasSealed, HasSigned, IsNew, Owes, RepeatsIn}
use Rattle.cx_steps.specs.declared.seals.DrawMark.{DrawMark}
use Rattle.cx_steps.specs.declared.seals.DrawMark.TheVariants as draw
use Rattle.cx_steps.specs.declared.seals.Logged.{Logged}
use Rattle.cx_steps.specs.declared.seals.SealEntry.{SealEntry}
use Rattle.cx_steps.specs.declared.seals.SealEntry.TheVariants as entry
use Rattle.cx_steps.specs.declared.seals.SealMark.{SealMark}
use Rattle.cx_laws_links.specs.cx_laws_tickets.specs.cx_laws_keys.proofs.keys.Known.{Inv, IsAllowed, allowed-grows}
use Rattle.cx_laws_links.specs.cx_laws_tickets.specs.cx_laws_keys.proofs.keys.Lists.{all-map}
use Rattle.cx_laws_links.specs.cx_laws_tickets.specs.cx_laws_keys.proofs.keys.Premises.{AreGranted, IsGranted, behind, logged}
use Rattle.cx_laws_links.specs.cx_laws_tickets.specs.cx_laws_keys.proofs.keys.Steps.{within-itself}
use Rattle.cx_laws_links.specs.cx_laws_tickets.specs.cx_laws_keys.proofs.keys.Uses.{DrawnAs, Grows, Uses, whose, WholeRun}
use Rattle.cx_base.specs.declared.kinds.EntityType.{EntityType}
use Rattle.cx_rotate.specs.declared.generations.Generation.{Generation}

some-both : (P : Logged → Type 0) (x : Logged) (full thin : List Logged) → (SomeOf P full → SomeOf P thin) → SomeOf P (x ∷ full) → SomeOf P (x ∷ thin)
some-both P x full thin h (inl here) = inl here
some-both P x full thin h (inr s) = inr (h s)

drawn-only : (mark : DrawMark) (m : SealMark) → entry.Sealed m ≡ entry.Drawn mark → ⊥
drawn-only mark m e = cc

drawn-unsigned : (mark : DrawMark) (m : SealMark) → entry.Signed m ≡ entry.Drawn mark → ⊥
drawn-unsigned mark m e = cc

-- the second log has no more seals and signatures than the first, and the same draws
pub record Thins (full thin : List Logged) : Type 0 where
  pub sealed : (mark : SealMark) → HasSealed thin mark → HasSealed full mark
  pub signed : (mark : SealMark) → HasSigned thin mark → HasSigned full mark
  pub repeats : (mark : DrawMark) → SomeOf (λ (at : Logged). RepeatsIn mark at.entry) full → SomeOf (λ (at : Logged). RepeatsIn mark at.entry) thin

thins-itself : (log : List Logged) → Thins log log
thins-itself log = record { sealed = λ m h. h; signed = λ m h. h; repeats = λ m h. h }

-- an entry of the full log alone, which draws nothing
thins-more : (full thin : List Logged) (x : Logged) → ((mark : DrawMark) → RepeatsIn mark x.entry → ⊥) → Thins full thin → Thins (x ∷ full) thin
thins-more full thin x none h = record {
  sealed = λ m s. inr (h.sealed m s);
  signed = λ m s. inr (h.signed m s);
  repeats = λ m s. by_place m s;
}
  where
    by_place : (mark : DrawMark) → RepeatsIn mark x.entry ⊎ SomeOf (λ (at : Logged). RepeatsIn mark at.entry) full → SomeOf (λ (at : Logged). RepeatsIn mark at.entry) thin
    by_place mark (inl here) = absurd (none mark here)
    by_place mark (inr before) = h.repeats mark before

-- an entry of both
thins-both : (full thin : List Logged) (x : Logged) → Thins full thin → Thins (x ∷ full) (x ∷ thin)
thins-both full thin x h = record { sealed = seals; signed = signs; repeats = repeats }
  where
    seals : (mark : SealMark) → HasSealed (x ∷ thin) mark → HasSealed (x ∷ full) mark
    seals mark (inl here) = inl here
    seals mark (inr before) = inr (h.sealed mark before)

    signs : (mark : SealMark) → HasSigned (x ∷ thin) mark → HasSigned (x ∷ full) mark
    signs mark (inl here) = inl here
    signs mark (inr before) = inr (h.signed mark before)

    repeats : (mark : DrawMark) → SomeOf (λ (at : Logged). RepeatsIn mark at.entry) (x ∷ full) → SomeOf (λ (at : Logged). RepeatsIn mark at.entry) (x ∷ thin)
    repeats mark (inl here) = inl here
    repeats mark (inr before) = inr (h.repeats mark before)

module _ (run : WholeRun) (whole : List Logged) (n : NodeName) (line : ℕ) where
  -- what is granted behind the thin log is so behind the full one
  thick-owes : (full thin : List Logged) → Thins full thin → (at : NodeName) (e : SealEntry) → Owes run.leaked whole at thin e → Owes run.leaked whole at full e
  thick-owes full thin h at (entry.Opened mark) (inl excepted) = inl excepted
  thick-owes full thin h at (entry.Opened mark) (inr sealed) = inr (h.sealed mark sealed)
  thick-owes full thin h at (entry.Checked mark) (inl excepted) = inl excepted
  thick-owes full thin h at (entry.Checked mark) (inr signed) = inr (h.signed mark signed)
  thick-owes full thin h at (entry.Sealed mark) o = tt
  thick-owes full thin h at (entry.Signed mark) o = tt
  thick-owes full thin h at (entry.Drawn mark) o = tt

  thick-new : (full thin : List Logged) → Thins full thin → (e : SealEntry) → IsNew thin e → IsNew full e
  thick-new full thin h (entry.Drawn mark) new = λ before. new (h.repeats mark before)
  thick-new full thin h (entry.Sealed mark) new = tt
  thick-new full thin h (entry.Opened mark) new = tt
  thick-new full thin h (entry.Signed mark) new = tt
  thick-new full thin h (entry.Checked mark) new = tt

  thick-grant : (full thin : List Logged) (e : SealEntry) → Thins full thin → IsGranted run.leaked whole thin (logged n line e) → IsGranted run.leaked whole full (logged n line e)
  thick-grant full thin e h g = record { owes = thick-owes full thin h n e g.owes; new = thick-new full thin h e g.new; leak = g.leak }

  -- what is granted to what stays is granted to all
  pub thick-granted : (full thin : List Logged) (es : List SealEntry) → Thins full thin → AreGranted run.leaked whole n line thin (filter stays es)
      → AreGranted run.leaked whole n line full es
  thick-granted full thin [] h g = tt
  thick-granted full thin (entry.Sealed m ∷ es) h g =
      (record { owes = tt; new = tt; leak = tt }, thick-granted (logged n line (entry.Sealed m) ∷ full) thin es (thins-more full thin (logged n line (entry.Sealed m)) (λ mark r. r) h) g)
  thick-granted full thin (entry.Signed m ∷ es) h g =
      (record { owes = tt; new = tt; leak = tt }, thick-granted (logged n line (entry.Signed m) ∷ full) thin es (thins-more full thin (logged n line (entry.Signed m)) (λ mark r. r) h) g)
  thick-granted full thin (entry.Opened m ∷ es) h g =
      let e = entry.Opened m in
      (thick-grant full thin e h g.0, thick-granted (logged n line e ∷ full) (logged n line e ∷ thin) es (thins-both full thin (logged n line e) h) g.1)
  thick-granted full thin (entry.Checked m ∷ es) h g =
      let e = entry.Checked m in
      (thick-grant full thin e h g.0, thick-granted (logged n line e ∷ full) (logged n line e ∷ thin) es (thins-both full thin (logged n line e) h) g.1)
  thick-granted full thin (entry.Drawn m ∷ es) h g =
      let e = entry.Drawn m in
      (thick-grant full thin e h g.0, thick-granted (logged n line e ∷ full) (logged n line e ∷ thin) es (thins-both full thin (logged n line e) h) g.1)

  -- ---- what is known behind it

  -- what is no seal and no signature stays
  pub thin-some : (P : Logged → Type 0) → ((m : SealMark) → P (logged n line (entry.Sealed m)) → ⊥) → ((m : SealMark) → P (logged n line (entry.Signed m)) → ⊥) → (full thin : List Logged)
      (es : List SealEntry) → (SomeOf P full → SomeOf P thin) → SomeOf P (behind n line es full) → SomeOf P (behind n line (filter stays es) thin)
  thin-some P seals signs full thin [] h d = h d
  thin-some P seals signs full thin (entry.Sealed m ∷ es) h d = thin-some P seals signs (logged n line (entry.Sealed m) ∷ full) thin es (λ s. before s) d
    where
      before : SomeOf P (logged n line (entry.Sealed m) ∷ full) → SomeOf P thin
      before (inl here) = absurd (seals m here)
      before (inr s) = h s
  thin-some P seals signs full thin (entry.Signed m ∷ es) h d = thin-some P seals signs (logged n line (entry.Signed m) ∷ full) thin es (λ s. before s) d
    where
      before : SomeOf P (logged n line (entry.Signed m) ∷ full) → SomeOf P thin
      before (inl here) = absurd (signs m here)
      before (inr s) = h s
  thin-some P seals signs full thin (entry.Opened m ∷ es) h d =
      let x = logged n line (entry.Opened m) in thin-some P seals signs (x ∷ full) (x ∷ thin) es (some-both P x full thin h) d
  thin-some P seals signs full thin (entry.Checked m ∷ es) h d =
      let x = logged n line (entry.Checked m) in thin-some P seals signs (x ∷ full) (x ∷ thin) es (some-both P x full thin h) d
  thin-some P seals signs full thin (entry.Drawn m ∷ es) h d =
      let x = logged n line (entry.Drawn m) in thin-some P seals signs (x ∷ full) (x ∷ thin) es (some-both P x full thin h) d

  thin-allowed : (us : Uses) (J : List Entry) (log : List Logged) (es : List SealEntry) → AllByRecursion (λ (at : Logged). IsAllowed us J at.node at.entry) log
      → AllByRecursion (λ (at : Logged). IsAllowed us J at.node at.entry) (behind n line (filter stays es) log)
  thin-allowed us J log [] h = h
  thin-allowed us J log (entry.Sealed m ∷ es) h = thin-allowed us J log es h
  thin-allowed us J log (entry.Signed m ∷ es) h = thin-allowed us J log es h
  thin-allowed us J log (entry.Opened m ∷ es) h = thin-allowed us J (logged n line (entry.Opened m) ∷ log) es (tt, h)
  thin-allowed us J log (entry.Checked m ∷ es) h = thin-allowed us J (logged n line (entry.Checked m) ∷ log) es (tt, h)
  thin-allowed us J log (entry.Drawn m ∷ es) h = thin-allowed us J (logged n line (entry.Drawn m) ∷ log) es (tt, h)

  -- what is known behind a step whose save fails: its draws stand, and nothing is sealed, signed or entered
  pub inv-failed : (us vs : Uses) (saved : List (EntityType × Generation)) (log : List Logged) (J K : List Entry) (es : List SealEntry) → Grows us (record vs { saved = us.saved })
      → Inv run whole us log J → Inv (record run { saved = saved }) whole vs (behind n line es log) K
      → Inv run whole (record vs { saved = us.saved }) (behind n line (filter stays es) log) J
  inv-failed us vs saved log J K es grows i full =
      let ws : Uses = record vs { saved = us.saved } in
      record {
        held = λ key u m. thin-some (λ (at : Logged). DrawnAs (whose u) key at.entry) (λ _ d. d) (λ _ d. d) log log es (λ d. d) (full.held key u m);
        secrets = λ key name m. thin-some (λ (at : Logged). at.entry ≡ entry.Drawn (draw.Principal key name)) (λ s d. drawn-only (draw.Principal key name) s d)
            (λ s d. drawn-unsigned (draw.Principal key name) s d) log log es (λ d. d) (full.secrets key name m);
        one = full.one;
        leaks = full.leaks;
        allowed = thin-allowed ws J log es
            (all-map (λ (at : Logged). IsAllowed us J at.node at.entry) (λ (at : Logged). IsAllowed ws J at.node at.entry)
            (λ at a. allowed-grows us ws J J grows (λ s g h. h) (within-itself J) at.node at.entry a) log i.allowed);
        own = i.own;
        told = i.told;
        placed = full.placed;
      }

pub thick : (run : WholeRun) (whole : List Logged) (n : NodeName) (line : ℕ) (log : List Logged) (es : List SealEntry) → AreGranted run.leaked whole n line log (filter stays es)
    → AreGranted run.leaked whole n line log es
thick run whole n line log es g = thick-granted run whole n line log log es (thins-itself log) g
