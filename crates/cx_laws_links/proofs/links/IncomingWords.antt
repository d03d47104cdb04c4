-- What a daemon takes next on an incoming link, where the client didn't leak: the next of what was spoken under the link's key, which is true at its place.
use Rattle.std.proofs.Common.{◌≡◌, ℕ, ◌+◌, Bool, true, false, List, [], ◌∷◌, ◌++◌, length, Option, Some, None, Ok, inl, inr, ◌⊎◌, refl, sym, ap, ◌∙◌, subst, arith, append_assoc, length-append}
use Rattle.std.proofs.lemmas.List.Elements.{Contains-append_cases, Contains-append_left, Contains-append_right, Contains-push}
use Rattle.std.proofs.lemmas.Slice.Eq.{bytes_eq-Decides}
use Rattle.std.specs.Prelude.{Contains}
use Rattle.std.specs.List.{AllByRecursion}
use Rattle.std.specs.Str.{bytes_eq}
use Rattle.cx_base.specs.Names.{Name}
use Rattle.cx_base.specs.declared.nodes.NodeName.{NodeName}
use Rattle.cx_frame.specs.declared.frame.Frame.{Frame}
use Rattle.cx_journal.specs.declared.entries.Entry.{Entry}
use Rattle.cx_laws_keys.proofs.keys.Known.{Inv}
use Rattle.cx_laws_keys.proofs.keys.Premises.{AreGranted}
use Rattle.cx_laws_keys.proofs.keys.Uses.{AtDaemon, Connected, Means, Tie, Use, Uses, WholeRun}
use Rattle.cx_laws_keys.specs.cx_rules.specs.Fronts.{keys_behind, opened_parts, sealed_ahead}
use Rattle.cx_laws_keys.specs.cx_rules.specs.Links.{Link}
use Rattle.cx_laws_keys.specs.cx_rules.specs.Secured.{Secured, under}
use Rattle.cx_laws_tickets.specs.cx_run.specs.cx_rules_session.specs.IncomingLinks.{IncomingStage}
use Rattle.cx_secure.specs.Contents.{sealed_contents}
use Rattle.cx_secure.specs.Parts.{nonce_at}
use Rattle.cx_secure.specs.Plains.{plains}
use Rattle.cx_steps.specs.Premises.{IsExcepted}
use Rattle.cx_steps.specs.declared.seals.Logged.{Logged}
use Rattle.cx_laws_keys.specs.cx_stream.specs.Openings.{front_contents}
use Rattle.cx_laws_keys.specs.cx_stream.specs.SecureStreams.{secure_frame_at}
use Rattle.cx_laws_links.proofs.links.CallSteps.{passes-connector}
use Rattle.cx_laws_links.proofs.links.Hearing.{IsSpelled}
use Rattle.cx_laws_links.proofs.links.Known.{AreTold, AreTrueWords, HasTaken, IsIncoming, IsSpoken, IsTrueWord, NoncePlace, Told}
use Rattle.cx_laws_links.proofs.links.Others.{link-one}
use Rattle.cx_laws_links.proofs.links.Speaking.{cons-cases, said-has, speaking}
use Rattle.cx_laws_links.proofs.links.Spoken.{Spoken, cookie-append, cookie_after, cookie_behind, frame_of, if_under, is_connectors, parts-append, parts_of, said_under, tagged}
use Rattle.cx_laws_links.proofs.links.Taking.{AreFrames, Next, next-taken, opened-sealed}
use Rattle.cx_laws_links.proofs.links.Written.{IsLinkKey, IsWritten}

-- ---- keys of those that didn't leak

some-name : (x y : Name) → (let o : Option Name = Some x in let p : Option Name = Some y in o ≡ p) → x ≡ y
some-name x y e = cc

-- what opens under the key of a link to an entity that didn't leak is excepted nowhere
pub none-excepted : (run : WholeRun) (whole : List Logged) (us : Uses) (log : List Logged) (J : List Entry) (n at : NodeName) (key : List ℕ) (number : ℕ) (name : Name) (tie : Tie)
    → Inv run whole us log J → Means us key (Connected n number name tie) → (Contains run.leaked name → ⊥) → IsExcepted run.leaked whole at key → ⊥
none-excepted run whole us log J n at key number name tie i means free excepted =
    let l = i.leaks key (Connected n number name tie) means excepted.leak in
    free (subst (λ (m : Name). Contains run.leaked m) (some-name l.0 name (sym l.1)) l.2)

-- ---- what was said

-- all that was spoken can be written
abbrev pub AreSpelled : Told → Type 0
AreSpelled told = (key : List ℕ) (x : Spoken) → Contains told.said (key, x) → IsSpelled x

none-there : {X : Type 0} (x : X) → Contains [] x → ⊥
none-there x has = omega (arith, has.1)

-- what is among the words under a key was said under it
pub said-within : (key : List ℕ) (all : List (List ℕ × Spoken)) (x : Spoken) → Contains (said_under key all) x → Contains all (key, x)
said-within key [] x has = absurd (none-there x has)
said-within key (p ∷ all) x has = by_test (bytes_eq p.0 key) refl has (λ there. said-within key all x there)
  where
    by_place : p.0 ≡ key → (p.1 ≡ x) ⊎ Contains (said_under key all) x → (Contains (said_under key all) x → Contains all (key, x)) → Contains (p ∷ all) (key, x)
    by_place same (inl word) rest =
        let whole : p ≡ (key, x) = ap (λ (k : List ℕ). (k, p.1)) same ∙ ap (λ (w : Spoken). (key, w)) word in
        Contains-append_left (p ∷ []) all (key, x) (subst (λ (q : List ℕ × Spoken). Contains (p ∷ []) q) whole (Contains-push [] p))
    by_place same (inr there) rest = Contains-append_right (p ∷ []) all (key, x) (rest there)

    by_test : (here : Bool) → bytes_eq p.0 key ≡ here → Contains (if_under here p.1 (said_under key all)) x → (Contains (said_under key all) x → Contains all (key, x)) → Contains (p ∷ all) (key, x)
    by_test true e there rest = by_place ((bytes_eq-Decides p.0 key).0 e) (cons-cases p.1 (said_under key all) x there) rest
    by_test false e there rest = Contains-append_right (p ∷ []) all (key, x) (rest there)

-- what is spoken next can be written, where its words can
pub spelled-speaks : (told : Told) (nonces : ℕ → NoncePlace) (key : List ℕ) (words : List Spoken) → AreSpelled told → AllByRecursion IsSpelled words → AreSpelled (speaking told nonces key words)
spelled-speaks told nonces key words before now other x has = by_place (Contains-append_cases told.said (tagged key words) (other, x) has)
  where
    among : (ws : List Spoken) → AllByRecursion IsSpelled ws → Contains (tagged key ws) (other, x) → IsSpelled x
    among [] all there = absurd (none-there (other, x) there)
    among (w ∷ ws) all there = by_word (cons-cases (key, w) (tagged key ws) (other, x) there) (λ more. among ws all.1 more)
      where
        by_word : (let p : List ℕ × Spoken = (key, w) in let q : List ℕ × Spoken = (other, x) in p ≡ q) ⊎ Contains (tagged key ws) (other, x) → (Contains (tagged key ws) (other, x) → IsSpelled x) → IsSpelled x
        by_word (inl same) rest = subst IsSpelled (ap (λ (p : List ℕ × Spoken). p.1) same) all.0
        by_word (inr more) rest = rest more

    by_place : Contains told.said (other, x) ⊎ Contains (tagged key words) (other, x) → IsSpelled x
    by_place (inl was) = before other x was
    by_place (inr there) = among words now there

no-contents : (fixed : List ℕ) → sealed_contents fixed 0 [] ≡ []
unfolding sealed_contents
no-contents fixed = refl

pub frames-behind : (xs ys : List Spoken) → AreFrames (xs ++ ys) → AreFrames ys
frames-behind [] ys h = h
frames-behind (x ∷ xs) ys h = frames-behind xs ys h.1

words-behind : (J : List Entry) (name : Name) (before : Option ℕ) (xs ys : List Spoken) → AreTrueWords J name before (xs ++ ys) → AreTrueWords J name (cookie_behind before xs) ys
words-behind J name before [] ys h = h
words-behind J name before (x ∷ xs) ys h = words-behind J name (cookie_after before x) xs ys h.1

module _ (run : WholeRun) (us : Uses) (told : Told) (log : List Logged) (J : List Entry) (one : (k : List ℕ) (u v : Use) → Means us k u → Means us k v → u ≡ v) (t : AreTold run us told log J)
    (key : List ℕ) (name : Name) (tie : ℕ) (is : IsLinkKey us key name tie) where
  -- what the log has of a link's connector is what was spoken, which is true, and fits into frames
  pub written-there : (fixed : List ℕ) → length fixed ≡ 4 → ((m : ℕ) (plain : List ℕ) → is_connectors (nonce_at fixed m ++ plain) ≡ true) → IsWritten log told.said key
  written-there fixed four passes = by_said (said_under key told.said) refl
    where
      by_said : (xs : List Spoken) → said_under key told.said ≡ xs → IsWritten log told.said key
      by_said [] e =
          let size : length (parts_of (said_under key told.said)) ≡ 0 = ap (λ (l : List Spoken). length (parts_of l)) e in
          record {
            fixed = fixed;
            four = four;
            connector = passes;
            contents = t.silent key name tie is e ∙ sym (ap (λ (l : List Spoken). sealed_contents fixed 0 (parts_of l)) e ∙ no-contents fixed);
            fits = omega (arith, size);
          }
      by_said (x ∷ xs) e = (t.spoken key x (said-has key told.said x xs e)).written

  pub said-there : AreTrueWords J name None (said_under key told.said) × AreFrames (said_under key told.said)
  said-there = by_said (said_under key told.said) refl
    where
      by_said : (xs : List Spoken) → said_under key told.said ≡ xs → AreTrueWords J name None xs × AreFrames xs
      by_said [] e = (tt, tt)
      by_said (x ∷ xs) e =
          let h : IsSpoken us told log J key = t.spoken key x (said-has key told.said x xs e) in
          let same : h.name ≡ name = (link-one us one key h.name name h.tie tie h.is is).0 in (
            subst (λ (l : List Spoken). AreTrueWords J name None l) e (subst (λ (m : Name). AreTrueWords J m None (said_under key told.said)) same h.words),
            subst AreFrames e h.frames,
          )

-- ---- the next word

-- what was read on a link is a frame of this word, the next that was spoken under its key, which is true where this session was spoken of before; and the
-- link has taken it
pub record Heard (told : Told) (J : List Entry) (name : Name) (s : Secured) (before : Option ℕ) (f : Frame) : Type 0 where
  pub word : Spoken
  pub frame : f ≡ frame_of word
  pub says : IsTrueWord J name before word
  pub spelled : IsSpelled word
  pub said : Contains told.said (s.keys.key, word)
  pub taken : HasTaken told s (cookie_after before word)

module _ (run : WholeRun) (whole : List Logged) (us : Uses) (told : Told) (log : List Logged) (J : List Entry) (n : NodeName) (line : ℕ) (i : Inv run whole us log J) (t : AreTold run us told log J)
    (spelled : AreSpelled told) (number : ℕ) (name : Name) (s : Secured) (g : IsIncoming run us told n number s name) (free : Contains run.leaked name → ⊥) where
  abbrev key : List ℕ
  key = s.keys.key

  is-link : IsLinkKey us key name g.tie
  is-link = record { acceptor = n; number = number; service = g.service; means = g.means }

  -- what is taken then
  abbrev behind_frame : Frame → Secured
  behind_frame f = under s (keys_behind s.keys f)

  heard : (before : Option ℕ) (f : Frame) (h : HasTaken told s before) → Next f h.rest → Heard told J name (behind_frame f) before f
  heard before f h next =
      let split : said_under key told.said ≡ h.taken ++ (next.word ∷ next.later) = h.front ∙ ap (λ (l : List Spoken). h.taken ++ l) next.is in
      let there = said-there run us told log J i.one t key name g.tie is-link in
      let true_word : AreTrueWords J name (cookie_behind None h.taken) (next.word ∷ next.later) =
      words-behind J name None h.taken (next.word ∷ next.later) (subst (λ (l : List Spoken). AreTrueWords J name None l) split there.0) in
      let has : Contains told.said (key, next.word) =
      said-within key told.said next.word (subst (λ (l : List Spoken). Contains l next.word) (sym split)
      (Contains-append_right h.taken (next.word ∷ next.later) next.word (Contains-append_left (next.word ∷ []) next.later next.word (Contains-push [] next.word)))) in
      let parts : parts_of (h.taken ++ next.word ∷ []) ≡ parts_of h.taken ++ parts_of (next.word ∷ []) = parts-append h.taken (next.word ∷ []) in
      let one_more : parts_of (next.word ∷ []) ≡ plains (frame_of next.word) ++ [] = refl in
      let size : length (parts_of (next.word ∷ [])) ≡ length (plains (frame_of next.word)) = omega (arith, length-append (plains (frame_of next.word)) []) in
      let plain_size : length (plains f) ≡ length (plains (frame_of next.word)) = ap (λ (x : Frame). length (plains x)) next.frame in
      let before_it = h.counter in
      let whole_size : length (parts_of (h.taken ++ next.word ∷ [])) ≡ length (parts_of h.taken) + length (parts_of (next.word ∷ [])) =
      ap (λ (l : List (List ℕ)). length l) parts ∙ length-append (parts_of h.taken) (parts_of (next.word ∷ [])) in
      record {
        word = next.word;
        frame = next.frame;
        says = subst (λ (o : Option ℕ). IsTrueWord J name o next.word) h.session true_word.0;
        spelled = spelled key next.word has;
        said = has;
        taken = record {
          taken = h.taken ++ next.word ∷ [];
          rest = next.later;
          front = split ∙ sym (append_assoc h.taken (next.word ∷ []) next.later);
          counter = omega (arith, before_it, size, plain_size, whole_size);
          session = cookie-append None h.taken (next.word ∷ []) ∙ ap (λ (o : Option ℕ). cookie_after o next.word) h.session;
        };
      }

  pub heard-next : (link : Link IncomingStage) (before : Option ℕ) (f : Frame) (m : ℕ) → HasTaken told s before → AreGranted run.leaked whole n line log (opened_parts (sealed_ahead s.keys link))
      → secure_frame_at (sealed_ahead s.keys link) ≡ Ok (Some (f, m)) → Heard told J name (behind_frame f) before f
  heard-next link before f m h granted read =
      let passes = passes-connector s.keys.into.fixed g.connector in
      let written = written-there run us told log J i.one t key name g.tie is-link s.keys.into.fixed g.four passes in
      let there = said-there run us told log J i.one t key name g.tie is-link in
      let fit : AreFrames h.rest = frames-behind h.taken h.rest (subst AreFrames h.front there.1) in
      let sealed = opened-sealed run.leaked whole n line key (none-excepted run whole us log J n n key number name (AtDaemon g.service g.tie) i g.means free)
      (front_contents (sealed_ahead s.keys link)) log log (λ mark was. was) granted in
      heard before f h (next-taken log told.said key written (sealed_ahead s.keys link) g.four passes h.taken h.rest h.front h.counter sealed f m fit read)
