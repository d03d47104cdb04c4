-- Each answer is given once: under all keys of links to an entity that didn't leak, one cookie and one tid stand at one place.
use Rattle.std.proofs.Common.{◌≡◌, ℕ, ◌+◌, zero, suc, Bool, true, false, List, [], ◌∷◌, ◌++◌, length, Option, None, inl, inr, ◌⊎◌, refl, sym, ◌∙◌, subst, arith}
use Rattle.std.proofs.lemmas.Slice.Eq.{bytes_eq-Decides}
use Rattle.std.specs.Prelude.{Contains}
use Rattle.std.specs.Str.{bytes_eq}
use Rattle.cx_base.specs.Names.{Name}
use Rattle.cx_base.specs.declared.kinds.EntityType.{EntityType}
use Rattle.cx_journal.specs.declared.entries.Entry.{Entry}
use Rattle.cx_journal.specs.declared.entries.Entry.TheVariants as journal
use Rattle.cx_journal.specs.declared.entries.Handled.{Handled}
use Rattle.cx_journal.specs.declared.outcomes.Outcome.{Outcome}
use Rattle.cx_laws_links.specs.cx_laws_keys.proofs.keys.Uses.{Grows, Means, Use, Uses, WholeRun}
use Rattle.cx_laws_links.specs.cx_laws_keys.proofs.series.Series.{IsAt}
use Rattle.cx_laws_links.specs.cx_rules_session.specs.Hosting.{Instruction}
use Rattle.cx_steps.specs.declared.seals.Logged.{Logged}
use Rattle.cx_laws_links.proofs.links.Others.{link-one}
use Rattle.cx_laws_links.proofs.links.Written.{IsLinkKey}
use Rattle.cx_laws_links.proofs.answers.Given.{Answers, Given, given_under, gives_under, served_after}
use Rattle.cx_laws_links.proofs.answers.Keyed.{given-has, given-other, given-own}
use Rattle.cx_laws_links.proofs.answers.Known.{WasServed, AreGiven, AreTrueGiven, IsTrueAnswer, IsTrueGiven}

-- an answer under this cookie, with this tid, stands at a place of what was given under a key
pub record AnswersAt (given : List (List ℕ × Given)) (key : List ℕ) (place cookie tid : ℕ) : Type 0 where
  pub instruction : Instruction
  pub outcome : Outcome
  pub stands : IsAt (given_under key given) place (Answers cookie instruction outcome)
  pub tid_is : instruction.tid ≡ tid

-- one answer stands at one place
abbrev pub AreOnce : WholeRun → Uses → List (List ℕ × Given) → Type 0
AreOnce run us given = (key other : List ℕ) (name : Name) (tie tied place second cookie tid : ℕ) → IsLinkKey us key name tie → IsLinkKey us other name tied → (Contains run.leaked name → ⊥)
    → AnswersAt given key place cookie tid → AnswersAt given other second cookie tid → (key ≡ other) × (place ≡ second)

-- ---- where nothing is given

module _ (run : WholeRun) (us vs : Uses) (given : List (List ℕ × Given)) (log : List Logged) (J : List Entry) (one : (k : List ℕ) (u v : Use) → Means vs k u → Means vs k v → u ≡ v) (f : Grows us vs)
    (h : AreGiven run us given log J) where
  -- a key under which something was given had its use before
  link-before : (key : List ℕ) (name : Name) (tie place : ℕ) (x : Given) → IsLinkKey vs key name tie → IsAt (given_under key given) place x → (tied : ℕ) × IsLinkKey us key name tied
  link-before key name tie place x is at = by_given (given_under key given) refl at
    where
      by_given : (xs : List Given) → given_under key given ≡ xs → IsAt xs place x → (tied : ℕ) × IsLinkKey us key name tied
      by_given [] e there = absurd there
      by_given (y ∷ ys) e there =
          let k = h.known key y (given-has key given y ys e) in
          let before : IsLinkKey us key k.0 k.1 = k.2 in
          let later : IsLinkKey vs key k.0 k.1 = record { acceptor = before.acceptor; number = before.number; service = before.service; means = f.means key _ before.means } in
          (k.1, subst (λ (m : Name). IsLinkKey us key m k.1) (link-one vs one key k.0 name k.1 tie later is).0 before)

  pub once-stays : AreOnce run us given → AreOnce run vs given
  once-stays once key other name tie tied place second cookie tid is there free a b =
      let first = link-before key name tie place (Answers cookie a.instruction a.outcome) is a.stands in
      let last = link-before other name tied second (Answers cookie b.instruction b.outcome) there b.stands in
      once key other name first.0 last.0 place second cookie tid first.1 last.1 free a b

-- ---- where some words are given

at-cases : {X : Type 0} (xs ys : List X) (place : ℕ) (x : X) → IsAt (xs ++ ys) place x → IsAt xs place x ⊎ ((p : ℕ) × (place ≡ length xs + p) × IsAt ys p x)
at-cases {X} [] ys place x h = let same : place ≡ length {A = X} [] + place = omega arith in inr (place, same, h)
at-cases {X} (y ∷ xs) ys zero x h = inl h
at-cases {X} (y ∷ xs) ys (suc place) x h = by_rest (at-cases xs ys place x h)
  where
    by_rest : IsAt xs place x ⊎ ((p : ℕ) × (place ≡ length xs + p) × IsAt ys p x) → IsAt xs place x ⊎ ((p : ℕ) × (suc place ≡ length (y ∷ xs) + p) × IsAt ys p x)
    by_rest (inl here) = inl here
    by_rest (inr (p, is, there)) = let same : suc place ≡ length (y ∷ xs) + p = omega (arith, is) in inr (p, same, there)

-- what is given is true at its place
true-at : (J : List Entry) (service : EntityType) (name : Name) (before : Option ℕ) (xs : List Given) (place cookie : ℕ) (i : Instruction) (outcome : Outcome) → AreTrueGiven J service name before xs
    → IsAt xs place (Answers cookie i outcome) → IsTrueAnswer J service name cookie i outcome
true-at J service name before [] place cookie i outcome h at = absurd at
true-at J service name before (x ∷ xs) zero cookie i outcome h at =
    (subst (λ (y : Given). IsTrueGiven J service name before y) at h.0).1
true-at J service name before (x ∷ xs) (suc place) cookie i outcome h at = true-at J service name (served_after before x) xs place cookie i outcome h.1 at

module _ (run : WholeRun) (us : Uses) (given : List (List ℕ × Given)) (log : List Logged) (J : List Entry) (one : (k : List ℕ) (u v : Use) → Means us k u → Means us k v → u ≡ v) (h : AreGiven run us given log J)
    (key : List ℕ) (name : Name) (tie : ℕ) (is : IsLinkKey us key name tie) (words : List Given) where
  abbrev next : List (List ℕ × Given)
  next = given ++ gives_under key words

  -- at most one of the words is an answer, and it tells of an operation that wasn't handled before for this entity
  pub record AnswersAnew : Type 0 where
    pub first : (p cookie : ℕ) (i : Instruction) (outcome : Outcome) → IsAt words p (Answers cookie i outcome) → p ≡ 0
    pub anew : (p cookie : ℕ) (i : Instruction) (outcome : Outcome) → IsAt words p (Answers cookie i outcome) → (Contains run.leaked name → ⊥)
        → (x : Handled) → WasServed J name x → x.cookie ≡ cookie → x.seq ≡ i.tid → ⊥

  -- an answer stood before, or is one of the words
  abbrev Split : List ℕ → ℕ → ℕ → ℕ → Type 0
  Split other place cookie tid = AnswersAt given other place cookie tid
      ⊎ ((other ≡ key) × (p : ℕ) × (i : Instruction) × (outcome : Outcome) × (place ≡ length (given_under key given) + p) × IsAt words p (Answers cookie i outcome) × (i.tid ≡ tid))

  split : (other : List ℕ) (place cookie tid : ℕ) → AnswersAt next other place cookie tid → Split other place cookie tid
  split other place cookie tid a = by_key (bytes_eq key other) refl
    where
      by_place : (other ≡ key) → IsAt (given_under key given) place (Answers cookie a.instruction a.outcome)
          ⊎ ((p : ℕ) × (place ≡ length (given_under key given) + p) × IsAt words p (Answers cookie a.instruction a.outcome)) → Split other place cookie tid
      by_place same (inl before) = inl (record {
        instruction = a.instruction;
        outcome = a.outcome;
        stands = subst (λ (k : List ℕ). IsAt (given_under k given) place (Answers cookie a.instruction a.outcome)) (sym same) before;
        tid_is = a.tid_is;
      })
      by_place same (inr (p, place_is, there)) = inr (same, p, a.instruction, a.outcome, place_is, there, a.tid_is)

      by_key : (same : Bool) → bytes_eq key other ≡ same → Split other place cookie tid
      by_key true e =
          let same : key ≡ other = (bytes_eq-Decides key other).0 e in
          by_place (sym same)
          (at-cases (given_under key given) words place (Answers cookie a.instruction a.outcome)
          (subst (λ (l : List Given). IsAt l place (Answers cookie a.instruction a.outcome)) (given-own key given words)
          (subst (λ (k : List ℕ). IsAt (given_under k next) place (Answers cookie a.instruction a.outcome)) (sym same) a.stands)))
      by_key false e = inl (record {
        instruction = a.instruction;
        outcome = a.outcome;
        stands = subst (λ (l : List Given). IsAt l place (Answers cookie a.instruction a.outcome)) (given-other other key given words e) a.stands;
        tid_is = a.tid_is;
      })

  -- what was answered before had been handled
  handled-before : AnswersAnew → (other : List ℕ) (tied place p cookie : ℕ) (i : Instruction) (outcome : Outcome) → IsLinkKey us other name tied → (Contains run.leaked name → ⊥)
      → IsAt words p (Answers cookie i outcome) → AnswersAt given other place cookie i.tid → ⊥
  handled-before n other tied place p cookie i outcome there free now a =
      let t = true-at J there.service name None (given_under other given) place cookie a.instruction a.outcome ((h.each other name tied there).words free) a.stands in
      n.anew p cookie i outcome now free t.handled t.served t.cookie_is (t.seq ∙ a.tid_is)

  -- so each is given once behind it
  pub once-gives : AnswersAnew → AreOnce run us given → AreOnce run us next
  once-gives n once first second whose tied bound place behind cookie tid a_is b_is free a b = by_both (split first place cookie tid a) (split second behind cookie tid b)
    where
      own-name : (other : List ℕ) (t : ℕ) → other ≡ key → IsLinkKey us other whose t → whose ≡ name
      own-name other t same link = (link-one us one key whose name t tie (subst (λ (k : List ℕ). IsLinkKey us k whose t) same link) is).0

      by_both : Split first place cookie tid → Split second behind cookie tid → (first ≡ second) × (place ≡ behind)
      by_both (inl x) (inl y) = once first second whose tied bound place behind cookie tid a_is b_is free x y
      by_both (inr (same, p, i, outcome, place_is, there, tid_is)) (inl y) =
          let named : whose ≡ name = own-name first tied same a_is in
          absurd (handled-before n second bound behind p cookie i outcome (subst (λ (m : Name). IsLinkKey us second m bound) named b_is) (subst (λ (m : Name). Contains run.leaked m → ⊥) named free) there
          (record { instruction = y.instruction; outcome = y.outcome; stands = y.stands; tid_is = y.tid_is ∙ sym tid_is }))
      by_both (inl x) (inr (same, p, i, outcome, place_is, there, tid_is)) =
          let named : whose ≡ name = own-name second bound same b_is in
          absurd (handled-before n first tied place p cookie i outcome (subst (λ (m : Name). IsLinkKey us first m tied) named a_is) (subst (λ (m : Name). Contains run.leaked m → ⊥) named free) there
          (record { instruction = x.instruction; outcome = x.outcome; stands = x.stands; tid_is = x.tid_is ∙ sym tid_is }))
      by_both (inr (same, p, i, outcome, place_is, there, tid_is)) (inr (same_too, q, j, other, behind_is, there_too, tid_too)) =
          let zero_p : p ≡ 0 = n.first p cookie i outcome there in
          let zero_q : q ≡ 0 = n.first q cookie j other there_too in
          (same ∙ sym same_too, omega (arith, place_is, behind_is, zero_p, zero_q))
