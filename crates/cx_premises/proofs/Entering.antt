-- A ledger behind one entry more, and what it tells in the end.
use Rattle.std.proofs.Common.{◌≡◌, ℕ, Bool, true, false, cond, List, [], ◌∷◌, ◌++◌, Option, Some, None, ◌⊎◌, inl, inr, refl, sym, ap, ◌∙◌, subst}
use Rattle.cx_base.specs.Names.{Name}
use Rattle.cx_base.specs.declared.nodes.NodeName.{NodeName}
use Rattle.cx_journal.specs.declared.premises.Broken.{Broken}
use Rattle.cx_journal.specs.declared.premises.Premise.TheVariants as premise
use Rattle.cx_premises.proofs.Concluding.{found_broken, found_kept, found_suspect}
use Rattle.cx_premises.proofs.Leaving.{leaks_left, left_leaks, left_seals, left_signs, seals_left, signs_left}
use Rattle.cx_premises.proofs.Growing.{left_more, left_same}
use Rattle.cx_premises.proofs.Repeating.{is_then_repeated, repeated_is}
use Rattle.cx_premises.proofs.Walks.{behind, from_newest, some_from, some_stays, to_newest}
use Rattle.cx_premises.specs.Facts.{AreLeft, draw_fact, fact_of, is_kept, is_repeated, sealed_fact, signed_fact}
use Rattle.cx_premises.specs.Findings.{AreFound, ComeTo, IsFoundIn, demanded, drawn, first_of}
use Rattle.cx_premises.specs.Ledgers.{Enters, EntersAt, StandsFor, breach_at, suspect_at}
use Rattle.cx_premises.specs.declared.facts.Fact.{Fact}
use Rattle.cx_premises.specs.declared.facts.Fact.TheVariants as fact
use Rattle.cx_premises.specs.declared.findings.Findings.{Findings}
use Rattle.cx_premises.specs.declared.findings.Suspect.{Suspect}
use Rattle.cx_premises.specs.declared.ledger.Ledger.{Ledger}
use Rattle.cx_steps.specs.Breach.{IsBreach, IsFound}
use Rattle.cx_steps.specs.Premises.{DrawsLeaked, HasSealed, HasSigned, IsExcepted, IsLeakedKey, IsNew, Owes, Seals, Signs, is_server}
use Rattle.cx_steps.specs.declared.seals.DrawMark.{DrawMark}
use Rattle.cx_steps.specs.declared.seals.Logged.{Logged}
use Rattle.cx_steps.specs.declared.seals.SealEntry.{SealEntry}
use Rattle.cx_steps.specs.declared.seals.SealEntry.TheVariants as entry
use Rattle.cx_steps.specs.declared.seals.SealMark.{SealMark}

module _ (leaked : List Name) (log : List Logged) (facts : List Fact) (held : AreLeft leaked log facts) where
  -- ---- what is kept, and what the premises ask

  leaked_is : (key : List ℕ) → is_kept facts (fact.LeakedKey key) ≡ true → IsLeakedKey leaked log key
  leaked_is key e =
      some_from (λ at. fact_of leaked at.entry ≡ Some (fact.LeakedKey key)) (λ at. DrawsLeaked leaked key at.entry) (λ at is. left_leaks leaked key at.entry is) log ((held.each (fact.LeakedKey key)).0 e)

  is_then_leaked : (key : List ℕ) → IsLeakedKey leaked log key → is_kept facts (fact.LeakedKey key) ≡ true
  is_then_leaked key leaks =
      (held.each (fact.LeakedKey key)).1 (some_from (λ at. DrawsLeaked leaked key at.entry) (λ at. fact_of leaked at.entry ≡ Some (fact.LeakedKey key)) (λ at is. leaks_left leaked key at.entry is) log leaks)

  sealed_is : (mark : SealMark) → is_kept facts (sealed_fact mark) ≡ true → HasSealed (behind [] log) mark
  sealed_is mark e =
      to_newest (λ at. Seals mark at.entry) log
      (some_from (λ at. fact_of leaked at.entry ≡ Some (sealed_fact mark)) (λ at. Seals mark at.entry) (λ at is. left_seals leaked mark at.entry is) log ((held.each (sealed_fact mark)).0 e))

  is_then_sealed : (mark : SealMark) → HasSealed (behind [] log) mark → is_kept facts (sealed_fact mark) ≡ true
  is_then_sealed mark there =
      (held.each (sealed_fact mark)).1
      (some_from (λ at. Seals mark at.entry) (λ at. fact_of leaked at.entry ≡ Some (sealed_fact mark)) (λ at is. seals_left leaked mark at.entry is) log (from_newest (λ at. Seals mark at.entry) log there))

  signed_is : (mark : SealMark) → is_kept facts (signed_fact mark) ≡ true → HasSigned (behind [] log) mark
  signed_is mark e =
      to_newest (λ at. Signs mark at.entry) log
      (some_from (λ at. fact_of leaked at.entry ≡ Some (signed_fact mark)) (λ at. Signs mark at.entry) (λ at is. left_signs leaked mark at.entry is) log ((held.each (signed_fact mark)).0 e))

  is_then_signed : (mark : SealMark) → HasSigned (behind [] log) mark → is_kept facts (signed_fact mark) ≡ true
  is_then_signed mark there =
      (held.each (signed_fact mark)).1
      (some_from (λ at. Signs mark at.entry) (λ at. fact_of leaked at.entry ≡ Some (signed_fact mark)) (λ at is. signs_left leaked mark at.entry is) log (from_newest (λ at. Signs mark at.entry) log there))

  -- ---- what an entry owes

  -- the entry owes what this fact pays, or nothing where its key leaked
  module _ (at : Logged) (mark : SealMark) (due : Fact) (Paid : Type 0)
      (pays : (whole : List Logged) → IsExcepted leaked whole at.node mark.key ⊎ Paid → Owes leaked whole at.node (behind [] log) at.entry)
      (paid : (whole : List Logged) → Owes leaked whole at.node (behind [] log) at.entry → IsExcepted leaked whole at.node mark.key ⊎ Paid)
      (new : IsNew (behind [] log) at.entry)
      (due_is : is_kept facts due ≡ true → Paid) (is_then_due : Paid → is_kept facts due ≡ true) where
    unpaid : (whole : List Logged) → is_kept facts due ≡ false → (IsExcepted leaked whole at.node mark.key → ⊥) → IsExcepted leaked whole at.node mark.key ⊎ Paid → ⊥
    unpaid whole none excused (inl excepted) = excused excepted
    unpaid whole none excused (inr there) =
        let both : true ≡ false = sym (is_then_due there) ∙ none in
        cc

    unpaid_breach : (whole : List Logged) → is_kept facts due ≡ false → (IsExcepted leaked whole at.node mark.key → ⊥) → IsBreach leaked whole (behind [] log) at (breach_at at premise.Sealing)
    unpaid_breach whole none excused = record {
      breaks = λ owes. unpaid whole none excused (paid whole owes);
      node = refl;
      kind = refl;
      line = refl;
    }

    no_server : (whole : List Logged) → is_server at.node ≡ false → IsExcepted leaked whole at.node mark.key → ⊥
    no_server whole none excepted =
        let both : true ≡ false = sym excepted.server ∙ none in
        cc

    found_demanded : (findings : Findings) → AreFound leaked log findings → (made server leaks : Bool) → is_kept facts due ≡ made → is_server at.node ≡ server → is_kept facts (fact.LeakedKey mark.key) ≡ leaks
        → AreFound leaked (log ++ at ∷ []) (demanded findings made server leaks (suspect_at at mark))
    found_demanded findings found true server leaks m s l = found_kept leaked log at findings found (λ whole leak. record { owed = pays whole (inr (due_is m)); new = new })
    found_demanded findings found false false leaks m s l = found_broken leaked log at findings (breach_at at premise.Sealing) found (λ whole. unpaid_breach whole m (no_server whole s))
    found_demanded findings found false true true m s l =
        found_kept leaked log at findings found
        (λ whole leak. record {
          owed = pays whole (inl (record { server = s; leak = leak.each mark.key (some_stays (λ e. DrawsLeaked leaked mark.key e.entry) log at (leaked_is mark.key l)) }));
          new = new;
        })
    found_demanded findings found false true false m s l =
        found_suspect leaked log at findings (suspect_at at mark) found (λ whole leaks. record { owed = pays whole (inl (record { server = s; leak = leaks })); new = new })
        (λ whole unleaked. unpaid_breach whole m (λ excepted. unleaked excepted.leak))

  -- ---- what an entry draws

  found_drawn : (node : NodeName) (line : ℕ) (mark : DrawMark) (findings : Findings) → AreFound leaked log findings → (repeats : Bool) → is_repeated facts (draw_fact leaked mark) ≡ repeats
      → AreFound leaked (log ++ record { node = node; line = line; entry = entry.Drawn mark } ∷ []) (drawn findings repeats (breach_at (record { node = node; line = line; entry = entry.Drawn mark }) premise.Draw))
  found_drawn node line mark findings found true r =
      let at : Logged = record { node = node; line = line; entry = entry.Drawn mark } in
      found_broken leaked log at findings (breach_at at premise.Draw) found
      (λ whole. record { breaks = λ fresh. fresh (repeated_is leaked log facts held mark r); node = refl; kind = refl; line = refl })
  found_drawn node line mark findings found false r =
      let at : Logged = record { node = node; line = line; entry = entry.Drawn mark } in
      found_kept leaked log at findings found
      (λ whole leak. record {
        owed = tt;
        new = λ there. (let both : true ≡ false = sym (is_then_repeated leaked log facts held mark there) ∙ r in cc);
      })

-- ---- one entry more

enters_at : (old new : Ledger) (node : NodeName) (line : ℕ) (e : SealEntry) → EntersAt old new (record { node = node; line = line; entry = e }) e → (leaked : List Name) (log : List Logged) → StandsFor old leaked log
    → StandsFor new leaked (log ++ record { node = node; line = line; entry = e } ∷ [])
enters_at old new node line (entry.Sealed mark) entered leaked log stands =
    let at : Logged = record { node = node; line = line; entry = entry.Sealed mark } in
    record {
      names = entered.names ∙ stands.names;
      left = left_more leaked log at old.kept new.kept (sealed_fact mark) refl entered.facts stands.left;
      found = subst (AreFound leaked (log ++ at ∷ [])) (sym entered.found) (found_kept leaked log at old.findings stands.found (λ whole leak. record { owed = tt; new = tt }));
    }
enters_at old new node line (entry.Signed mark) entered leaked log stands =
    let at : Logged = record { node = node; line = line; entry = entry.Signed mark } in
    record {
      names = entered.names ∙ stands.names;
      left = left_more leaked log at old.kept new.kept (signed_fact mark) refl entered.facts stands.left;
      found = subst (AreFound leaked (log ++ at ∷ [])) (sym entered.found) (found_kept leaked log at old.findings stands.found (λ whole leak. record { owed = tt; new = tt }));
    }
enters_at old new node line (entry.Opened mark) entered leaked log stands =
    let at : Logged = record { node = node; line = line; entry = entry.Opened mark } in
    let facts = old.kept in
    record {
      names = entered.names ∙ stands.names;
      left = left_same leaked log at old.kept new.kept refl entered.facts stands.left;
      found = subst (AreFound leaked (log ++ at ∷ [])) (sym entered.found)
          (found_demanded leaked log facts stands.left at mark (sealed_fact mark) (HasSealed (behind [] log) mark) (λ whole owed. owed) (λ whole owed. owed) tt
          (sealed_is leaked log facts stands.left mark) (is_then_sealed leaked log facts stands.left mark) old.findings stands.found
          (is_kept facts (sealed_fact mark)) (is_server node) (is_kept facts (fact.LeakedKey mark.key)) refl refl refl);
    }
enters_at old new node line (entry.Checked mark) entered leaked log stands =
    let at : Logged = record { node = node; line = line; entry = entry.Checked mark } in
    let facts = old.kept in
    record {
      names = entered.names ∙ stands.names;
      left = left_same leaked log at old.kept new.kept refl entered.facts stands.left;
      found = subst (AreFound leaked (log ++ at ∷ [])) (sym entered.found)
          (found_demanded leaked log facts stands.left at mark (signed_fact mark) (HasSigned (behind [] log) mark) (λ whole owed. owed) (λ whole owed. owed) tt
          (signed_is leaked log facts stands.left mark) (is_then_signed leaked log facts stands.left mark) old.findings stands.found
          (is_kept facts (signed_fact mark)) (is_server node) (is_kept facts (fact.LeakedKey mark.key)) refl refl refl);
    }
enters_at old new node line (entry.Drawn mark) entered leaked log stands =
    let at : Logged = record { node = node; line = line; entry = entry.Drawn mark } in
    let same : draw_fact leaked mark ≡ draw_fact old.leaked mark = ap (λ names. draw_fact names mark) (sym stands.names) in
    record {
      names = entered.names ∙ stands.names;
      left = left_more leaked log at old.kept new.kept (draw_fact old.leaked mark) (ap Some same) entered.facts stands.left;
      found = subst (AreFound leaked (log ++ at ∷ [])) (sym entered.found)
          (found_drawn leaked log old.kept stands.left node line mark old.findings stands.found (is_repeated old.kept (draw_fact old.leaked mark)) (ap (is_repeated old.kept) same));
    }

pub stands_more : (old new : Ledger) (at : Logged) → Enters old new at → (leaked : List Name) (log : List Logged) → StandsFor old leaked log → StandsFor new leaked (log ++ at ∷ [])
stands_more old new at entered leaked log stands = enters_at old new at.node at.line at.entry entered leaked log stands

-- ---- the end of a log

come_to_first : (leaked : List Name) (log : List Logged) (facts : List Fact) → AreLeft leaked log facts → (suspects : List Suspect) (breach : Option Broken) → ComeTo leaked log suspects breach (first_of facts suspects breach)
come_to_first leaked log facts held [] breach = refl
come_to_first leaked log facts held (s ∷ suspects) breach = at_one (is_kept facts (fact.LeakedKey s.key)) refl (come_to_first leaked log facts held suspects breach)
  where
    at_one : (leaks : Bool) → is_kept facts (fact.LeakedKey s.key) ≡ leaks → ComeTo leaked log suspects breach (first_of facts suspects breach)
        → ComeTo leaked log (s ∷ suspects) breach (cond leaks (first_of facts suspects breach) (Some s.broken))
    at_one true e rest = inl (leaked_is leaked log facts held s.key e, rest)
    at_one false e rest = inr (λ leaks. (let both : true ≡ false = sym (is_then_leaked leaked log facts held s.key leaks) ∙ e in cc), refl)

found_as_whole : (leaked : List Name) (log : List Logged) (found : Option Broken) → IsFoundIn leaked log log found → IsFound leaked log found
found_as_whole leaked log None held = held
found_as_whole leaked log (Some broken) held = held

pub told_in_the_end : (ledger : Ledger) (leaked : List Name) (log : List Logged) → StandsFor ledger leaked log → IsFound leaked log (first_of ledger.kept ledger.findings.suspects ledger.findings.breach)
told_in_the_end ledger leaked log stands =
    let found = first_of ledger.kept ledger.findings.suspects ledger.findings.breach in
    found_as_whole leaked log found
    (stands.found.each log found (record { each = λ key leaks. leaks }) (come_to_first leaked log ledger.kept stands.left ledger.findings.suspects ledger.findings.breach))
