-- What is known of all that was given on links stays known behind a step that seals nothing there as an acceptor, whatever keys it draws; and behind one that
-- gives some words, with them.
use Rattle.std.proofs.Common.{◌≡◌, ℕ, ◌≤◌, ◌^◌, Bool, true, false, List, [], ◌∷◌, ◌++◌, length, Option, None, inl, inr, ◌⊎◌, refl, sym, ap, ◌∙◌, subst, arith, append-nil}
use Rattle.std.proofs.lemmas.List.Elements.{Contains-append_cases}
use Rattle.std.proofs.lemmas.Slice.Eq.{bytes_eq-Decides}
use Rattle.std.specs.Prelude.{◌&&◌, Contains}
use Rattle.std.specs.List.{AllByRecursion, cons_option}
use Rattle.std.specs.Str.{bytes_eq}
use Rattle.cx_base.specs.Names.{Name}
use Rattle.cx_base.specs.declared.kinds.EntityType.{EntityType}
use Rattle.cx_base.specs.declared.nodes.NodeName.{NodeName}
use Rattle.cx_frame.specs.Frames.{total}
use Rattle.cx_journal.specs.declared.entries.Entry.{Entry}
use Rattle.cx_laws_links.specs.cx_laws_keys.proofs.keys.Known.{Inv, IsAllowed}
use Rattle.cx_laws_links.specs.cx_laws_keys.proofs.keys.Lists.{all-append}
use Rattle.cx_laws_links.specs.cx_laws_keys.proofs.keys.Premises.{behind}
use Rattle.cx_laws_links.specs.cx_laws_keys.proofs.keys.Uses.{AtDaemon, Connected, Grows, Means, Use, Uses, WholeRun}
use Rattle.cx_laws_links.specs.cx_laws_keys.proofs.series.Contents.{content_of, content_where, contents-behind, contents_by, contents_in}
use Rattle.cx_laws_links.specs.cx_laws_keys.proofs.series.Frames.{HasParts}
use Rattle.cx_laws_links.specs.cx_rules.specs.Secured.{Keys}
use Rattle.cx_secure.specs.Contents.{sealed_contents}
use Rattle.cx_secure.specs.Parts.{nonce_at}
use Rattle.cx_steps.specs.declared.seals.Logged.{Logged}
use Rattle.cx_steps.specs.declared.seals.SealEntry.{SealEntry}
use Rattle.cx_steps.specs.declared.seals.SealEntry.TheVariants as entry
use Rattle.cx_steps.specs.declared.seals.SealMark.{SealMark}
use Rattle.cx_laws_links.proofs.links.Lifting.{link-grows}
use Rattle.cx_laws_links.proofs.links.Written.{IsLinkKey}
use Rattle.cx_laws_links.proofs.answers.Given.{FitFrames, Given, given-append, given_frame, given_parts, given_under, gives_under, is_acceptors, served_behind}
use Rattle.cx_laws_links.proofs.answers.Keyed.{given-has, given-other, given-own, gives-key}
use Rattle.cx_laws_links.proofs.answers.Known.{Continues, AreGiven, AreTrueGiven, IsGiven, WasSealed, true-append, true-grows}

-- whose link a key is for, and of which service
abbrev name_of : Name → Use → Name
name_of other (Connected acceptor number name tie) = name
name_of other _ = other

abbrev service_of : EntityType → Use → EntityType
service_of other (Connected acceptor number name (AtDaemon service tie)) = service
service_of other _ = other

-- ---- keys that are new

module _ (us : Uses) (J : List Entry) (key : List ℕ) (test : List ℕ → Bool) where
  by_mark : (n : NodeName) (mark : SealMark) (there : Bool) → bytes_eq mark.key key ≡ there → IsAllowed us J n (entry.Sealed mark)
      → (content_where (there && test mark.content) mark.content ≡ None) ⊎ ((u : Use) × Means us key u)
  by_mark n mark false e a = inl refl
  by_mark n mark true e a = inr (a.0, subst (λ (k : List ℕ). Means us k a.0) ((bytes_eq-Decides mark.key key).0 e) a.1)

  by_entry : (n : NodeName) (e : SealEntry) → IsAllowed us J n e → (content_of key test e ≡ None) ⊎ ((u : Use) × Means us key u)
  by_entry n (entry.Sealed mark) a = by_mark n mark (bytes_eq mark.key key) refl a
  by_entry n (entry.Signed mark) a = inl refl
  by_entry n (entry.Opened mark) a = inl refl
  by_entry n (entry.Checked mark) a = inl refl
  by_entry n (entry.Drawn mark) a = inl refl

  -- where something was sealed under a key by an end of a link, the key has a use
  pub sealed-means : (log : List Logged) → AllByRecursion (λ (at : Logged). IsAllowed us J at.node at.entry) log → (contents_in key test log ≡ []) ⊎ ((u : Use) × Means us key u)
  sealed-means [] h = inl refl
  sealed-means (at ∷ log) h = by_rest (sealed-means log h.1)
    where
      by_both : contents_in key test log ≡ [] → (content_of key test at.entry ≡ None) ⊎ ((u : Use) × Means us key u) → (contents_in key test (at ∷ log) ≡ []) ⊎ ((u : Use) × Means us key u)
      by_both none (inl here) = inl (ap (λ (o : Option (List ℕ)). contents_in key test log ++ cons_option o []) here ∙ append-nil (contents_in key test log) ∙ none)
      by_both none (inr u) = inr u

      by_rest : (contents_in key test log ≡ []) ⊎ ((u : Use) × Means us key u) → (contents_in key test (at ∷ log) ≡ []) ⊎ ((u : Use) × Means us key u)
      by_rest (inr u) = inr u
      by_rest (inl none) = by_both none (by_entry at.node at.entry h.0)

-- under a key under which nothing was sealed nothing was given yet
abbrev zeros : List ℕ
zeros = 0 ∷ 0 ∷ 0 ∷ 0 ∷ []

zeros-pass : (m : ℕ) (plain : List ℕ) → is_acceptors (nonce_at zeros m ++ plain) ≡ true
unfolding nonce_at
zeros-pass m plain = refl

none-sealed : (fixed : List ℕ) → sealed_contents fixed 0 [] ≡ []
unfolding sealed_contents
none-sealed fixed = refl

pub none-given : (run : WholeRun) (given : List (List ℕ × Given)) (log : List Logged) (J : List Entry) (key : List ℕ) (name : Name) (service : EntityType) → given_under key given ≡ []
    → contents_in key is_acceptors log ≡ [] → IsGiven run given log J key name service
none-given run given log J key name service none quiet =
    let size : length (given_parts (given_under key given)) ≡ 0 = ap (λ (l : List Given). length (given_parts l)) none in
    record {
      there = record {
        fixed = zeros;
        four = refl;
        acceptor = zeros-pass;
        contents = quiet ∙ sym (ap (λ (l : List Given). sealed_contents zeros 0 (given_parts l)) none ∙ none-sealed zeros);
        fits = omega (arith, size);
      };
      words = λ free. subst (λ (l : List Given). AreTrueGiven J service name None l) (sym none) tt;
      frames = subst FitFrames (sym none) tt;
    }

-- what a step gives on a link: these words, next under its key, each true where it is given
pub record Gives (run : WholeRun) (vs : Uses) (given : List (List ℕ × Given)) (later : List Logged) (K : List Entry) (es : List SealEntry) (name : Name) (service : EntityType) (key : List ℕ)
    (words : List Given) : Type 0 where
  pub keys : Keys
  pub key_is : keys.key ≡ key
  pub four : length keys.out.fixed ≡ 4
  pub acceptor : (m : ℕ) (plain : List ℕ) → is_acceptors (nonce_at keys.out.fixed m ++ plain) ≡ true
  pub parts : HasParts is_acceptors keys (given_parts (given_under key given) ++ given_parts words) later
  pub fits : keys.out.counter ≤ 2 ^ 64
  pub others : (other : List ℕ) (whose : Name) (tie : ℕ) → IsLinkKey vs other whose tie → bytes_eq key other ≡ false → contents_by other is_acceptors es ≡ []
  pub true_words : (Contains run.leaked name → ⊥) → AreTrueGiven K service name (served_behind None (given_under key given)) words
  pub frames : FitFrames words

module _ (run : WholeRun) (whole : List Logged) (us vs : Uses) (given : List (List ℕ × Given)) (log : List Logged) (J K : List Entry) (n : NodeName) (line : ℕ) (es : List SealEntry)
    (one : (k : List ℕ) (u v : Use) → Means vs k u → Means vs k v → u ≡ v) (f : Grows us vs) (w : Continues J K) (i : Inv run whole us log J) (h : AreGiven run us given log J) where
  abbrev later : List Logged
  later = behind n line es log

  abbrev Before : List ℕ → Type 0
  Before key = (contents_in key is_acceptors log ≡ []) × (given_under key given ≡ []) ⊎ ((u : Use) × Means us key u)

  -- a key is used already, or nothing was sealed and given under it
  before : (key : List ℕ) → Before key
  before key = by_given (given_under key given) refl (sealed-means us J key is_acceptors log i.allowed)
    where
      by_given : (xs : List Given) → given_under key given ≡ xs → (contents_in key is_acceptors log ≡ []) ⊎ ((u : Use) × Means us key u) → Before key
      by_given [] e (inl none) = inl (none, e)
      by_given [] e (inr u) = inr u
      by_given (x ∷ xs) e used = let k = h.known key x (given-has key given x xs e) in
          inr (Connected k.2.acceptor k.2.number k.0 (AtDaemon k.2.service k.1), k.2.means)

  -- so what was given before is known of each key
  given-before : (key : List ℕ) (name : Name) (tie : ℕ) → (is : IsLinkKey vs key name tie) → IsGiven run given log J key name is.service
  given-before key name tie is = by_use (before key)
    where
      by_use : Before key → IsGiven run given log J key name is.service
      by_use (inl none) = none-given run given log J key name is.service none.1 none.0
      by_use (inr (u, means)) =
          let same : u ≡ Connected is.acceptor is.number name (AtDaemon is.service tie) = one key u (Connected is.acceptor is.number name (AtDaemon is.service tie)) (f.means key u means) is.means in
          h.each key name tie (record { acceptor = is.acceptor; number = is.number; service = is.service; means = subst (λ (v : Use). Means us key v) same means })

  -- where nothing is sealed there
  quiet-given : (key : List ℕ) (name : Name) (service : EntityType) → contents_by key is_acceptors es ≡ [] → IsGiven run given log J key name service → IsGiven run given later K key name service
  quiet-given key name service quiet g = record {
    there = record {
      fixed = g.there.fixed;
      four = g.there.four;
      acceptor = g.there.acceptor;
      contents = contents-behind key is_acceptors n line es log ∙ ap (λ (l : List (List ℕ)). contents_in key is_acceptors log ++ l) quiet
          ∙ append-nil (contents_in key is_acceptors log) ∙ g.there.contents;
      fits = g.there.fits;
    };
    words = λ free. true-grows J K service name w None (given_under key given) (g.words free);
    frames = g.frames;
  }

  known-later : (key : List ℕ) (x : Given) → Contains given (key, x) → (name : Name) × (tie : ℕ) × IsLinkKey vs key name tie
  known-later key x has = let k = h.known key x has in (k.0, k.1, link-grows us vs key k.0 k.1 f k.2)

  -- ---- a step that gives nothing

  pub given-stays : ((key : List ℕ) (name : Name) (tie : ℕ) → IsLinkKey vs key name tie → contents_by key is_acceptors es ≡ []) → AreGiven run vs given later K
  given-stays quiet = record { each = λ key name tie is. quiet-given key name is.service (quiet key name tie is) (given-before key name tie is); known = known-later }

  -- ---- a step that gives

  module _ (key : List ℕ) (name : Name) (tie : ℕ) (is : IsLinkKey vs key name tie) (words : List Given)
      (g : Gives run vs given later K es name is.service key words) where
    abbrev next : List (List ℕ × Given)
    next = given ++ gives_under key words

    own-parts : given_parts (given_under key next) ≡ given_parts (given_under key given) ++ given_parts words
    own-parts = ap given_parts (given-own key given words) ∙ given-append (given_under key given) words

    own-given : IsGiven run next later K key name is.service
    own-given = let was = given-before key name tie is in record {
      there = record {
        fixed = g.keys.out.fixed;
        four = g.four;
        acceptor = g.acceptor;
        contents = subst (λ (k : List ℕ). contents_in k is_acceptors later ≡ sealed_contents g.keys.out.fixed 0 (given_parts (given_under key given) ++ given_parts words)) g.key_is g.parts.sealed
            ∙ ap (λ (l : List (List ℕ)). sealed_contents g.keys.out.fixed 0 l) (sym own-parts);
        fits = let size = g.parts.counter in let low = g.fits in
            subst (λ (l : List (List ℕ)). length l ≤ 2 ^ 64) (sym own-parts) (omega (arith, size, low));
      };
      words = λ free.
          subst (λ (l : List Given). AreTrueGiven K is.service name None l) (sym (given-own key given words))
          (true-append K is.service name None (given_under key given) words (true-grows J K is.service name w None (given_under key given) (was.words free)) (g.true_words free));
      frames = subst FitFrames (sym (given-own key given words)) (all-append (λ (x : Given). total (given_frame x) ≤ 1048576) (given_under key given) words was.frames g.frames);
    }

    other-given : (other : List ℕ) (whose : Name) (tied : ℕ) → (link : IsLinkKey vs other whose tied) → bytes_eq key other ≡ false → IsGiven run next later K other whose link.service
    other-given other whose tied link apart =
        let still = given-other other key given words apart in
        let was = quiet-given other whose link.service (g.others other whose tied link apart) (given-before other whose tied link) in
        record {
          there = record {
            fixed = was.there.fixed;
            four = was.there.four;
            acceptor = was.there.acceptor;
            contents = was.there.contents ∙ ap (λ (l : List Given). sealed_contents was.there.fixed 0 (given_parts l)) (sym still);
            fits = subst (λ (l : List Given). length (given_parts l) ≤ 2 ^ 64) (sym still) was.there.fits;
          };
          words = λ free. subst (λ (l : List Given). AreTrueGiven K link.service whose None l) (sym still) (was.words free);
          frames = subst FitFrames (sym still) was.frames;
        }

    -- the key's link is this one
    own-link : (whose : Name) (tied : ℕ) → (link : IsLinkKey vs key whose tied) → IsGiven run next later K key whose link.service
    own-link whose tied link =
        let same = one key (Connected is.acceptor is.number name (AtDaemon is.service tie)) (Connected link.acceptor link.number whose (AtDaemon link.service tied)) is.means link.means in
        let whose_is : name ≡ whose = ap (λ (u : Use). name_of name u) same in
        let service_is : is.service ≡ link.service = ap (λ (u : Use). service_of is.service u) same in
        subst (λ (s : EntityType). IsGiven run next later K key whose s) service_is (subst (λ (m : Name). IsGiven run next later K key m is.service) whose_is own-given)

    by-key : (other : List ℕ) (whose : Name) (tied : ℕ) → (link : IsLinkKey vs other whose tied) → (same : Bool) → bytes_eq key other ≡ same → IsGiven run next later K other whose link.service
    by-key other whose tied link true e = at-key other (sym ((bytes_eq-Decides key other).0 e)) whose tied link
      where
        at-key : (k : List ℕ) → k ≡ key → (m : Name) (t : ℕ) → (l : IsLinkKey vs k m t) → IsGiven run next later K k m l.service
        at-key k same m t l =
            subst (λ (x : List ℕ). IsGiven run next later K x m l.service) (sym same)
            (own-link m t (record { acceptor = l.acceptor; number = l.number; service = l.service; means = subst (λ (x : List ℕ). Means vs x (Connected l.acceptor l.number m (AtDaemon l.service t))) same l.means }))
    by-key other whose tied link false e = other-given other whose tied link e

    known-next : (other : List ℕ) (x : Given) → Contains next (other, x) → (whose : Name) × (tied : ℕ) × IsLinkKey vs other whose tied
    known-next other x has = by_place (Contains-append_cases given (gives_under key words) (other, x) has)
      where
        by_place : Contains given (other, x) ⊎ Contains (gives_under key words) (other, x) → (whose : Name) × (tied : ℕ) × IsLinkKey vs other whose tied
        by_place (inl was) = known-later other x was
        by_place (inr now) = (name, tie, subst (λ (k : List ℕ). IsLinkKey vs k name tie) (sym (gives-key key other words x now)) is)

    -- all that is known behind it
    pub given-gives : AreGiven run vs next later K
    given-gives = record { each = λ other whose tied link. by-key other whose tied link (bytes_eq key other) refl; known = known-next }

  -- what is known behind a step that gives, of the keys that were known before it, is so of all
  module _ (key : List ℕ) (name : Name) (tie : ℕ) (is : IsLinkKey us key name tie) (words : List Given)
      (others : (other : List ℕ) → bytes_eq key other ≡ false → contents_by other is_acceptors es ≡ []) where
    abbrev gave : List (List ℕ × Given)
    gave = given ++ gives_under key words

    -- a key that was known
    of-known : AreGiven run us gave later K → (other : List ℕ) (whose : Name) (tied : ℕ) → (link : IsLinkKey vs other whose tied) → (u : Use) → Means us other u → IsGiven run gave later K other whose link.service
    of-known a other whose tied link u means =
        let same : u ≡ Connected link.acceptor link.number whose (AtDaemon link.service tied) =
        one other u (Connected link.acceptor link.number whose (AtDaemon link.service tied)) (f.means other u means) link.means in
        a.each other whose tied (record { acceptor = link.acceptor; number = link.number; service = link.service; means = subst (λ (v : Use). Means us other v) same means })

    -- one that wasn't
    of-new : AreGiven run us gave later K → (other : List ℕ) (whose : Name) (tied : ℕ) → (link : IsLinkKey vs other whose tied) → (contents_in other is_acceptors log ≡ []) × (given_under other given ≡ [])
        → (same : Bool) → bytes_eq key other ≡ same → IsGiven run gave later K other whose link.service
    of-new a other whose tied link none true e =
        of-known a other whose tied link (Connected is.acceptor is.number name (AtDaemon is.service tie))
        (subst (λ (k : List ℕ). Means us k (Connected is.acceptor is.number name (AtDaemon is.service tie))) ((bytes_eq-Decides key other).0 e) is.means)
    of-new a other whose tied link none false e =
        none-given run gave later K other whose link.service (given-other other key given words e ∙ none.1)
        (contents-behind other is_acceptors n line es log ∙ ap (λ (l : List (List ℕ)). contents_in other is_acceptors log ++ l) (others other e)
        ∙ append-nil (contents_in other is_acceptors log) ∙ none.0)

    pub gives-lifts : AreGiven run us gave later K → AreGiven run vs gave later K
    gives-lifts a = record {
      each = λ other whose tied link. by_use other whose tied link (before other);
      known = λ other x has. let k = a.known other x has in (k.0, k.1, link-grows us vs other k.0 k.1 f k.2);
    }
      where
        by_use : (other : List ℕ) (whose : Name) (tied : ℕ) → (link : IsLinkKey vs other whose tied) → Before other → IsGiven run gave later K other whose link.service
        by_use other whose tied link (inl none) = of-new a other whose tied link none (bytes_eq key other) refl
        by_use other whose tied link (inr (u, means)) = of-known a other whose tied link u means
