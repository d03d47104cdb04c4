-- What is known of all that one end said on links to the monitor stays known behind a step that seals nothing there, whatever keys it draws; and behind one
-- that says a word it is known with this word.
use Rattle.std.proofs.Common.{◌≡◌, ℕ, ◌≤◌, Bool, true, false, List, [], ◌∷◌, ◌++◌, Option, None, inl, inr, ◌⊎◌, refl, sym, ap, ◌∙◌, subst, append-nil}
use Rattle.std.proofs.lemmas.Slice.Eq.{bytes_eq-Decides}
use Rattle.std.specs.Prelude.{◌&&◌}
use Rattle.std.specs.List.{AllByRecursion, cons_option}
use Rattle.std.specs.Str.{bytes_eq}
use Rattle.cx_base.specs.Names.{Name}
use Rattle.cx_base.specs.declared.nodes.NodeName.{NodeName}
use Rattle.cx_base.specs.declared.nodes.NodeName.TheVariants as node
use Rattle.cx_frame.specs.Frames.{total}
use Rattle.cx_frame.specs.declared.frame.Frame.{Frame}
use Rattle.cx_journal.specs.declared.entries.Entry.{Entry}
use Rattle.cx_laws_tickets.specs.cx_laws_keys.proofs.keys.Known.{Inv, IsAllowed}
use Rattle.cx_laws_tickets.specs.cx_laws_keys.proofs.keys.Lists.{all-append}
use Rattle.cx_laws_tickets.specs.cx_laws_keys.proofs.keys.Premises.{behind}
use Rattle.cx_laws_tickets.specs.cx_laws_keys.proofs.keys.Uses.{AtMonitor, Connected, Grows, Means, Use, Uses, WholeRun}
use Rattle.cx_laws_keys.proofs.series.Contents.{content_of, content_where, contents-behind, contents_by, contents_in}
use Rattle.cx_secure.specs.Parts.{nonce_at}
use Rattle.cx_steps.specs.Onto.{SomeOf}
use Rattle.cx_steps.specs.declared.seals.Logged.{Logged}
use Rattle.cx_steps.specs.declared.seals.SealEntry.{SealEntry}
use Rattle.cx_steps.specs.declared.seals.SealEntry.TheVariants as entry
use Rattle.cx_steps.specs.declared.seals.SealMark.{SealMark}
use Rattle.cx_laws_tickets.proofs.fetch.AskedKnown.{AreSaid, IsLoginKey, IsSaid, IsSilent, Truth}
use Rattle.cx_laws_tickets.proofs.fetch.Later.{IsLaterSeries, none-series}
use Rattle.cx_laws_tickets.proofs.fetch.Words.{AreFrames, IsIn, parts_of, said-elsewhere, said-has, said-here, said_under, saying, saying-cases}

pub login-grows : (us vs : Uses) (key : List ℕ) (name : Name) (challenge : ℕ) → Grows us vs → IsLoginKey us key name challenge → IsLoginKey vs key name challenge
login-grows us vs key name challenge f h =
    record { number = h.number; means = f.means key (Connected node.Monitor h.number name (AtMonitor challenge)) h.means }

-- ---- one use

abbrev name_of : Name → Use → Name
name_of name (Connected acceptor number other tie) = other
name_of name _ = name

abbrev challenge_of : ℕ → Use → ℕ
challenge_of challenge (Connected acceptor number other (AtMonitor c)) = c
challenge_of challenge _ = challenge

abbrev number_of : ℕ → Use → ℕ
number_of number (Connected acceptor other name tie) = other
number_of number _ = number

-- a key is that of one entity's login, with one challenge, on one link of the monitor
pub login-one : (us : Uses) → ((k : List ℕ) (u v : Use) → Means us k u → Means us k v → u ≡ v) → (key : List ℕ) (name other : Name) (challenge second : ℕ)
    → (h : IsLoginKey us key name challenge) → (g : IsLoginKey us key other second) → (name ≡ other) × (challenge ≡ second) × (h.number ≡ g.number)
login-one us one key name other challenge second h g =
    let same = one key (Connected node.Monitor h.number name (AtMonitor challenge)) (Connected node.Monitor g.number other (AtMonitor second)) h.means g.means in
    (ap (name_of name) same, ap (challenge_of challenge) same, ap (number_of h.number) same)

-- ---- silence

-- where something was sealed under a key by this end, the key has a use
sealed-means : (test : List ℕ → Bool) (us : Uses) (J : List Entry) (key : List ℕ) (log : List Logged) → AllByRecursion (λ (at : Logged). IsAllowed us J at.node at.entry) log
    → (contents_in key test log ≡ []) ⊎ ((u : Use) × Means us key u)
sealed-means test us J key [] h = inl refl
sealed-means test us J key (at ∷ log) h = by_rest (sealed-means test us J key log h.1)
  where
    by_mark : (n : NodeName) (mark : SealMark) (there : Bool) → bytes_eq mark.key key ≡ there → IsAllowed us J n (entry.Sealed mark)
        → (content_where (there && test mark.content) mark.content ≡ None) ⊎ ((u : Use) × Means us key u)
    by_mark n mark false e a = inl refl
    by_mark n mark true e a = inr (a.0, subst (λ (k : List ℕ). Means us k a.0) ((bytes_eq-Decides mark.key key).0 e) a.1)

    by_entry : (n : NodeName) (e : SealEntry) → IsAllowed us J n e → (content_of key test e ≡ None) ⊎ ((u : Use) × Means us key u)
    by_entry n (entry.Sealed mark) a = by_mark n mark (bytes_eq mark.key key) refl a
    by_entry n (entry.Signed mark) a = inl refl
    by_entry n (entry.Opened mark) a = inl refl
    by_entry n (entry.Checked mark) a = inl refl
    by_entry n (entry.Drawn mark) a = inl refl

    by_both : contents_in key test log ≡ [] → (content_of key test at.entry ≡ None) ⊎ ((u : Use) × Means us key u)
        → (contents_in key test (at ∷ log) ≡ []) ⊎ ((u : Use) × Means us key u)
    by_both none (inl here) =
        inl (ap (λ (o : Option (List ℕ)). contents_in key test log ++ cons_option o []) here ∙ append-nil (contents_in key test log) ∙ none)
    by_both none (inr u) = inr u

    by_rest : (contents_in key test log ≡ []) ⊎ ((u : Use) × Means us key u) → (contents_in key test (at ∷ log) ≡ []) ⊎ ((u : Use) × Means us key u)
    by_rest (inr u) = inr u
    by_rest (inl none) = by_both none (by_entry at.node at.entry h.0)

module _ {W : Type 0} (frame_of : W → Frame) (test : List ℕ → Bool) (run : WholeRun) (whole : List Logged) (us vs : Uses) (log : List Logged) (J : List Entry) (n : NodeName) (line : ℕ)
    (es : List SealEntry) (one : (k : List ℕ) (u v : Use) → Means vs k u → Means vs k v → u ≡ v) (f : Grows us vs) (i : Inv run whole us log J) (T U : Truth W) (said : List (List ℕ × W))
    (t : AreSaid frame_of test T us said log) where
  abbrev later : List Logged
  later = behind n line es log

  -- under a key of a login nothing was sealed before, or it had its use then
  used-before : (key : List ℕ) (name : Name) (challenge : ℕ) → IsLoginKey vs key name challenge → (contents_in key test log ≡ []) ⊎ IsLoginKey us key name challenge
  used-before key name challenge is = by_use (sealed-means test us J key log i.allowed)
    where
      by_use : (contents_in key test log ≡ []) ⊎ ((u : Use) × Means us key u) → (contents_in key test log ≡ []) ⊎ IsLoginKey us key name challenge
      by_use (inl quiet) = inl quiet
      by_use (inr (u, means)) =
          let same : u ≡ Connected node.Monitor is.number name (AtMonitor challenge) = one key u (Connected node.Monitor is.number name (AtMonitor challenge)) (f.means key u means) is.means in
          inr (record { number = is.number; means = subst (λ (v : Use). Means us key v) same means })

  -- a key that has its use but later was silent before
  silent-before : (key : List ℕ) (name : Name) (challenge : ℕ) → IsLoginKey vs key name challenge → said_under key said ≡ [] → IsLaterSeries test log key []
  silent-before key name challenge is none = by_use (used-before key name challenge is)
    where
      by_use : (contents_in key test log ≡ []) ⊎ IsLoginKey us key name challenge → IsLaterSeries test log key []
      by_use (inl quiet) = none-series test log key [] quiet
      by_use (inr was) = t.silent key name challenge was none

  -- nothing is sealed there under this key
  quiet-contents : (key : List ℕ) → contents_by key test es ≡ [] → contents_in key test later ≡ contents_in key test log
  quiet-contents key none = contents-behind key test n line es log ∙ ap (λ (l : List (List ℕ)). contents_in key test log ++ l) none ∙ append-nil (contents_in key test log)

  quiet-series : (key : List ℕ) (parts : List (List ℕ)) → contents_by key test es ≡ [] → IsLaterSeries test log key parts → IsLaterSeries test later key parts
  quiet-series key parts none h = record {
    beyond = h.beyond;
    among = λ other end counter plain some low has.
        h.among other end counter plain some low
        (subst (λ (l : List (List ℕ)). SomeOf (λ (content : List ℕ). content ≡ nonce_at other counter ++ plain) l) (quiet-contents key none) has);
  }

  -- ---- a step that says nothing

  pub said-stays : ((key : List ℕ) (name : Name) (challenge : ℕ) → IsLoginKey vs key name challenge → contents_by key test es ≡ [])
      → ((key : List ℕ) (name : Name) (challenge : ℕ) (xs : List W) → T key name challenge xs → U key name challenge xs) → AreSaid frame_of test U vs said later
  said-stays quiet grows = record {
    spoken = λ key x has. let h : IsSaid frame_of test T us said log key = t.spoken key x has in
        let is : IsLoginKey vs key h.name h.challenge = login-grows us vs key h.name h.challenge f h.is in
        record {
          name = h.name;
          challenge = h.challenge;
          is = is;
          series = quiet-series key (parts_of frame_of (said_under key said)) (quiet key h.name h.challenge is) h.series;
          frames = h.frames;
          holds = grows key h.name h.challenge (said_under key said) h.holds;
        };
    silent = λ key name challenge is empty. quiet-series key [] (quiet key name challenge is) (silent-before key name challenge is empty);
  }

  -- ---- a step that seals beyond what is said, under this key

  pub said-beyond : (key : List ℕ) → IsLaterSeries test later key (parts_of frame_of (said_under key said))
      → ((other : List ℕ) (whose : Name) (c : ℕ) → IsLoginKey vs other whose c → bytes_eq key other ≡ false → contents_by other test es ≡ [])
      → ((other : List ℕ) (whose : Name) (c : ℕ) (xs : List W) → T other whose c xs → U other whose c xs) → AreSaid frame_of test U vs said later
  said-beyond key series others grows = record {
    spoken = λ other x has. let h : IsSaid frame_of test T us said log other = t.spoken other x has in
        let is : IsLoginKey vs other h.name h.challenge = login-grows us vs other h.name h.challenge f h.is in
        record {
          name = h.name;
          challenge = h.challenge;
          is = is;
          series = by_key other (bytes_eq key other) refl (λ apart. quiet-series other (parts_of frame_of (said_under other said)) (others other h.name h.challenge is apart) h.series);
          frames = h.frames;
          holds = grows other h.name h.challenge (said_under other said) h.holds;
        };
    silent = λ other name challenge is empty.
        let none : parts_of frame_of (said_under other said) ≡ [] = ap (λ (l : List W). parts_of frame_of l) empty in
        subst (λ (ps : List (List ℕ)). IsLaterSeries test later other ps) none
        (by_key other (bytes_eq key other) refl (λ apart. subst (λ (ps : List (List ℕ)). IsLaterSeries test later other ps) (sym none)
        (quiet-series other [] (others other name challenge is apart) (silent-before other name challenge is empty))));
  }
    where
      by_key : (other : List ℕ) (same : Bool) → bytes_eq key other ≡ same → (bytes_eq key other ≡ false → IsLaterSeries test later other (parts_of frame_of (said_under other said)))
          → IsLaterSeries test later other (parts_of frame_of (said_under other said))
      by_key other true e rest = subst (λ (k : List ℕ). IsLaterSeries test later k (parts_of frame_of (said_under k said))) ((bytes_eq-Decides key other).0 e) series
      by_key other false e rest = rest e

  -- and nothing was sealed where nothing was said
  pub silent-stays : IsSilent test us said log → ((key : List ℕ) (name : Name) (challenge : ℕ) → IsLoginKey vs key name challenge → contents_by key test es ≡ []) → IsSilent test vs said later
  silent-stays unsaid quiet = λ key name challenge is empty. quiet-contents key (quiet key name challenge is) ∙ by_use key name challenge empty (used-before key name challenge is)
    where
      by_use : (key : List ℕ) (name : Name) (challenge : ℕ) → said_under key said ≡ [] → (contents_in key test log ≡ []) ⊎ IsLoginKey us key name challenge → contents_in key test log ≡ []
      by_use key name challenge empty (inl none) = none
      by_use key name challenge empty (inr was) = unsaid key name challenge was empty

  -- ---- so far

  -- what was said under the key of a login fits into frames, and is true of that login; so it is where nothing was
  pub said-frames : (key : List ℕ) → AreFrames frame_of (said_under key said)
  said-frames key = by_said (said_under key said) refl
    where
      by_said : (xs : List W) → said_under key said ≡ xs → AreFrames frame_of xs
      by_said [] e = tt
      by_said (x ∷ xs) e = subst (AreFrames frame_of) e (t.spoken key x (said-has key said x xs e)).frames

  pub said-holds : (key : List ℕ) (name : Name) (challenge : ℕ) → IsLoginKey us key name challenge → T key name challenge [] → T key name challenge (said_under key said)
  said-holds key name challenge is none = by_said (said_under key said) refl
    where
      by_said : (xs : List W) → said_under key said ≡ xs → T key name challenge xs
      by_said [] e = none
      by_said (x ∷ xs) e =
          let h : IsSaid frame_of test T us said log key = t.spoken key x (said-has key said x xs e) in
          let same = login-one us i.one key h.name name h.challenge challenge h.is is in
          subst (λ (l : List W). T key name challenge l) e
          (subst (λ (c : ℕ). T key name c (said_under key said)) same.1 (subst (λ (m : Name). T key m h.challenge (said_under key said)) same.0 h.holds))

  -- ---- a step that says a word

  module _ (key : List ℕ) (name : Name) (challenge : ℕ) (is : IsLoginKey us key name challenge) (word : W)
      (series : IsLaterSeries test later key (parts_of frame_of (said_under key said ++ word ∷ []))) (fits : total (frame_of word) ≤ 1048576)
      (others : (other : List ℕ) (whose : Name) (c : ℕ) → IsLoginKey vs other whose c → bytes_eq key other ≡ false → contents_by other test es ≡ [])
      (grows : (other : List ℕ) (whose : Name) (c : ℕ) (xs : List W) → T other whose c xs → U other whose c xs) (holds : U key name challenge (said_under key said ++ word ∷ [])) where
    abbrev next : List (List ℕ × W)
    next = saying said key word

    own-words : said_under key next ≡ said_under key said ++ word ∷ []
    own-words = said-here said key word

    own-said : IsSaid frame_of test U vs next later key
    own-said = record {
      name = name;
      challenge = challenge;
      is = login-grows us vs key name challenge f is;
      series = subst (λ (l : List W). IsLaterSeries test later key (parts_of frame_of l)) (sym own-words) series;
      frames = subst (AreFrames frame_of) (sym own-words) (all-append (λ (x : W). total (frame_of x) ≤ 1048576) (said_under key said) (word ∷ []) (said-frames key) (fits, tt));
      holds = subst (U key name challenge) (sym own-words) holds;
    }

    other-said : (other : List ℕ) → bytes_eq key other ≡ false → IsSaid frame_of test T us said log other → IsSaid frame_of test U vs next later other
    other-said other apart h =
        let same : said_under other next ≡ said_under other said = said-elsewhere said key other word apart in
        let there : IsLoginKey vs other h.name h.challenge = login-grows us vs other h.name h.challenge f h.is in
        record {
          name = h.name;
          challenge = h.challenge;
          is = there;
          series = subst (λ (l : List W). IsLaterSeries test later other (parts_of frame_of l)) (sym same)
              (quiet-series other (parts_of frame_of (said_under other said)) (others other h.name h.challenge there apart) h.series);
          frames = subst (AreFrames frame_of) (sym same) h.frames;
          holds = subst (U other h.name h.challenge) (sym same) (grows other h.name h.challenge (said_under other said) h.holds);
        }

    by-key : (other : List ℕ) (same : Bool) → bytes_eq key other ≡ same → IsSaid frame_of test T us said log other → IsSaid frame_of test U vs next later other
    by-key other true e h = subst (λ (k : List ℕ). IsSaid frame_of test U vs next later k) ((bytes_eq-Decides key other).0 e) own-said
    by-key other false e h = other-said other e h

    -- under its key something was said
    never-empty : (other : List ℕ) → bytes_eq key other ≡ true → said_under other next ≡ [] → ⊥
    never-empty other e empty =
        let same : key ≡ other = (bytes_eq-Decides key other).0 e in
        none_behind (said_under key said) (sym own-words ∙ ap (λ (k : List ℕ). said_under k next) same ∙ empty)
      where
        none_behind : (xs : List W) → xs ++ word ∷ [] ≡ [] → ⊥
        none_behind [] is = cc
        none_behind (x ∷ xs) is = cc

    pub said-more : AreSaid frame_of test U vs next later
    said-more = record { spoken = λ other x has. by_place other x (saying-cases said key word (other, x) has); silent = all_silent }
      where
        by_place : (other : List ℕ) (x : W) → IsIn (other, x) said ⊎ (let p : List ℕ × W = (key, word) in let q : List ℕ × W = (other, x) in p ≡ q) → IsSaid frame_of test U vs next later other
        by_place other x (inl was) = by-key other (bytes_eq key other) refl (t.spoken other x was)
        by_place other x (inr now) = subst (λ (k : List ℕ). IsSaid frame_of test U vs next later k) (ap (λ (p : List ℕ × W). p.0) now) own-said

        all_silent : (other : List ℕ) (whose : Name) (c : ℕ) → IsLoginKey vs other whose c → said_under other next ≡ [] → IsLaterSeries test later other []
        all_silent other whose c link empty = by_test (bytes_eq key other) refl
          where
            by_test : (same : Bool) → bytes_eq key other ≡ same → IsLaterSeries test later other []
            by_test true e = absurd (never-empty other e empty)
            by_test false e =
                quiet-series other [] (others other whose c link e) (silent-before other whose c link (sym (said-elsewhere said key other word e) ∙ empty))

    -- nor is it sealed where nothing is said then
    pub silent-more : IsSilent test us said log → IsSilent test vs next later
    silent-more unsaid = λ other whose c link empty. by_test other whose c link empty (bytes_eq key other) refl
      where
        by_use : (other : List ℕ) (whose : Name) (c : ℕ) → said_under other said ≡ [] → (contents_in other test log ≡ []) ⊎ IsLoginKey us other whose c → contents_in other test log ≡ []
        by_use other whose c empty (inl none) = none
        by_use other whose c empty (inr was) = unsaid other whose c was empty

        by_test : (other : List ℕ) (whose : Name) (c : ℕ) → IsLoginKey vs other whose c → said_under other next ≡ [] → (same : Bool) → bytes_eq key other ≡ same → contents_in other test later ≡ []
        by_test other whose c link empty true e = absurd (never-empty other e empty)
        by_test other whose c link empty false e =
            quiet-contents other (others other whose c link e) ∙ by_use other whose c (sym (said-elsewhere said key other word e) ∙ empty) (used-before other whose c link)
