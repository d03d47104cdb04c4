-- What a client takes on its link to a daemon, where it didn't leak: where it has taken the front of what was given under the key, the frame that it reads next
-- is the next one that was given.
use Rattle.std.proofs.Common.{◌≡◌, ℕ, ◌+◌, ◌<◌, ◌≤◌, ◌^◌, true, List, [], ◌∷◌, ◌++◌, length, Some, Ok, refl, sym, ap, ◌∙◌, subst, arith, append_assoc, length-append}
use Rattle.std.proofs.lemmas.Bool.Decides.{nat_tests}
use Rattle.std.specs.Prelude.{Contains}
use Rattle.std.specs.List.{AllByRecursion}
use Rattle.cx_base.specs.Names.{Name}
use Rattle.cx_base.specs.declared.nodes.NodeName.{NodeName}
use Rattle.cx_frame.specs.Frames.{total}
use Rattle.cx_frame.specs.declared.frame.Frame.{Frame}
use Rattle.cx_journal.specs.declared.entries.Entry.{Entry}
use Rattle.cx_journal.specs.declared.premises.KeyKind.TheVariants as kind
use Rattle.cx_laws_links.specs.cx_laws_keys.proofs.keys.Known.{Inv, IsOfAcceptor}
use Rattle.cx_laws_links.specs.cx_laws_keys.proofs.keys.Premises.{AreGranted}
use Rattle.cx_laws_links.specs.cx_laws_keys.proofs.keys.Uses.{AtDaemon, Uses, WholeRun}
use Rattle.cx_laws_links.specs.cx_laws_keys.proofs.series.Frames.{parts-taken}
use Rattle.cx_laws_links.specs.cx_laws_keys.proofs.series.Series.{IsAt}
use Rattle.cx_laws_links.specs.cx_rules.specs.Fronts.{keys_behind, opened_parts, sealed_ahead}
use Rattle.cx_laws_links.specs.cx_rules.specs.Links.{Link}
use Rattle.cx_laws_links.specs.cx_rules.specs.Secured.{Secured, under}
use Rattle.cx_laws_links.specs.cx_rules_session.specs.Presenter.{CallStage}
use Rattle.cx_secure.specs.Parts.{nonce_at}
use Rattle.cx_secure.specs.Plains.{plains}
use Rattle.cx_steps.specs.Onto.{SomeOf}
use Rattle.cx_steps.specs.Premises.{HasSealed}
use Rattle.cx_steps.specs.declared.seals.Logged.{Logged}
use Rattle.cx_laws_links.specs.cx_stream.specs.Openings.{front_contents}
use Rattle.cx_laws_links.specs.cx_stream.specs.SecureStreams.{Ahead, secure_frame_at}
use Rattle.cx_laws_links.proofs.links.IncomingWords.{none-excepted}
use Rattle.cx_laws_links.proofs.links.Taking.{OpensAt, at-rest, none-read, one-read, opened-sealed, some-sealed, two-read}
use Rattle.cx_laws_links.proofs.links.Written.{IsLinkKey}
use Rattle.cx_laws_links.proofs.answers.Given.{Acks, Admits, Answers, FitFrames, Given, KeepsUp, Misses, Replies, Resets, Resumes, Retries, RetriesGlobal, Signs, given-append, given_frame, given_parts, given_under, is_acceptors}
use Rattle.cx_laws_links.proofs.answers.Known.{AreGiven, WasSealed}

-- what begins with the nonce of an acceptor passes for its contents
pub passes-acceptor : (fixed : List ℕ) → IsOfAcceptor fixed → (m : ℕ) (plain : List ℕ) → is_acceptors (nonce_at fixed m ++ plain) ≡ true
unfolding nonce_at
passes-acceptor [] h m plain = absurd h
passes-acceptor (b ∷ bytes) h m plain = grind (arith, nat_tests)

-- ---- frames that are given

-- what is read where all that opens is parts of what is given next
given-read : (a : Ahead) (f : Frame) (n : ℕ) (read : secure_frame_at a ≡ Ok (Some (f, n))) (x : Given) (more : List (List ℕ)) → total (given_frame x) ≤ 1048576
    → OpensAt a f n read (plains (given_frame x) ++ more) → f ≡ given_frame x
given-read a f n read (Signs code) more fits opens = one-read a f n read 7 _ more (omega arith) (omega arith) (omega (arith, fits)) opens
given-read a f n read (Replies cookie (Admits address flags own)) more fits opens = one-read a f n read 9 _ more (omega arith) (omega arith) (omega (arith, fits)) opens
given-read a f n read (Replies cookie (Resumes last)) more fits opens = one-read a f n read 15 _ more (omega arith) (omega arith) (omega (arith, fits)) opens
given-read a f n read (Replies cookie Resets) more fits opens = one-read a f n read 12 _ more (omega arith) (omega arith) (omega (arith, fits)) opens
given-read a f n read (Replies cookie (Retries kept)) more fits opens = one-read a f n read 13 _ more (omega arith) (omega arith) (omega (arith, fits)) opens
given-read a f n read (Replies cookie (RetriesGlobal kept)) more fits opens = one-read a f n read 14 _ more (omega arith) (omega arith) (omega (arith, fits)) opens
given-read a f n read (Misses features) more fits opens = one-read a f n read 10 _ more (omega arith) (omega arith) (omega (arith, fits)) opens
given-read a f n read (Answers cookie i outcome) more fits opens = two-read a f n read 17 _ _ more (omega arith) (omega arith) (omega (arith, fits)) opens
given-read a f n read (Acks seq) more fits opens = one-read a f n read 20 _ more (omega arith) (omega arith) (omega (arith, fits)) opens
given-read a f n read (KeepsUp ack) more fits opens = one-read a f n read 19 _ more (omega arith) (omega arith) (omega (arith, fits)) opens

-- the next one that was given, and all behind it
pub record NextGiven (f : Frame) (rest : List Given) : Type 0 where
  pub word : Given
  pub later : List Given
  pub is : rest ≡ word ∷ later
  pub frame : f ≡ given_frame word

module _ (log : List Logged) (given : List (List ℕ × Given)) (key : List ℕ) (w : WasSealed log given key) (a : Ahead) (four : length a.fixed ≡ 4)
    (passes : (m : ℕ) (plain : List ℕ) → is_acceptors (nonce_at a.fixed m ++ plain) ≡ true) (taken rest : List Given) (front : given_under key given ≡ taken ++ rest)
    (counter : a.counter ≡ length (given_parts taken)) (sealed : AllByRecursion (λ (content : List ℕ). HasSealed log (record { key = key; kind = kind.Connection; content = content })) (front_contents a)) where
  -- what opens is a part of what is given behind that
  opens-rest : (i : ℕ) (plain : List ℕ) → a.counter + i < 2 ^ 64 → SomeOf (λ (content : List ℕ). content ≡ nonce_at a.fixed (a.counter + i) ++ plain) (front_contents a)
      → IsAt (given_parts rest) i plain
  opens-rest i plain low some =
      let was = some-sealed (λ (content : List ℕ). HasSealed log (record { key = key; kind = kind.Connection; content = content })) (front_contents a)
      (nonce_at a.fixed (a.counter + i) ++ plain) some sealed in
      let within : a.counter + i + length (plain ∷ []) ≤ 2 ^ 64 = omega (arith, low) in
      let at = (parts-taken is_acceptors key w.fixed a.fixed (given_parts (given_under key given)) log w.contents w.four four w.fits passes (a.counter + i) (plain ∷ []) within (was, tt)).0 in
      let split : given_parts (given_under key given) ≡ given_parts taken ++ given_parts rest = ap (λ (l : List Given). given_parts l) front ∙ given-append taken rest in
      at-rest (given_parts taken) (given_parts rest) i plain
      (subst (λ (c : ℕ). IsAt (given_parts taken ++ given_parts rest) (c + i) plain) counter (subst (λ (l : List (List ℕ)). IsAt l (a.counter + i) plain) split at))

  -- so the frame that is read is the next one that was given
  pub next-given : (f : Frame) (n : ℕ) → FitFrames rest → secure_frame_at a ≡ Ok (Some (f, n)) → NextGiven f rest
  next-given f n fit read = by_rest rest fit opens-rest
    where
      by_rest : (xs : List Given) → FitFrames xs → OpensAt a f n read (given_parts xs) → NextGiven f xs
      by_rest [] fit opens = absurd (none-read a f n read opens)
      by_rest (x ∷ xs) fit opens = record { word = x; later = xs; is = refl; frame = given-read a f n read x (given_parts xs) fit.0 opens }

-- ---- a client's link

-- what was taken on a link is the front of what was given under its key, and the counter says how far it reaches
pub record HasHeard (given : List (List ℕ × Given)) (s : Secured) (taken : List Given) : Type 0 where
  pub rest : List Given
  pub front : given_under s.keys.key given ≡ taken ++ rest
  pub counter : s.keys.into.counter ≡ length (given_parts taken)

frames-behind : (xs ys : List Given) → FitFrames (xs ++ ys) → FitFrames ys
frames-behind [] ys h = h
frames-behind (x ∷ xs) ys h = frames-behind xs ys h.1

-- what was read on a link is a frame of this word, the next that was given under its key; and the link has taken it
pub record HearsNext (given : List (List ℕ × Given)) (s : Secured) (taken : List Given) (f : Frame) : Type 0 where
  pub word : Given
  pub frame : f ≡ given_frame word
  pub heard : HasHeard given (under s (keys_behind s.keys f)) (taken ++ word ∷ [])

module _ (run : WholeRun) (whole : List Logged) (us : Uses) (given : List (List ℕ × Given)) (log : List Logged) (J : List Entry) (n : NodeName) (line : ℕ) (i : Inv run whole us log J)
    (h : AreGiven run us given log J) (name : Name) (tie : ℕ) (s : Secured) (is : IsLinkKey us s.keys.key name tie) (into : IsOfAcceptor s.keys.into.fixed) (four : length s.keys.into.fixed ≡ 4)
    (free : Contains run.leaked name → ⊥) where
  taken-more : (f : Frame) (taken : List Given) (k : HasHeard given s taken) → NextGiven f k.rest → HearsNext given s taken f
  taken-more f taken k next =
      let split : given_under s.keys.key given ≡ taken ++ (next.word ∷ next.later) = k.front ∙ ap (λ (l : List Given). taken ++ l) next.is in
      let parts : given_parts (taken ++ next.word ∷ []) ≡ given_parts taken ++ given_parts (next.word ∷ []) = given-append taken (next.word ∷ []) in
      let size : length (given_parts (next.word ∷ [])) ≡ length (plains (given_frame next.word)) = omega (arith, length-append (plains (given_frame next.word)) []) in
      let plain_size : length (plains f) ≡ length (plains (given_frame next.word)) = ap (λ (x : Frame). length (plains x)) next.frame in
      let before_it = k.counter in
      let whole_size : length (given_parts (taken ++ next.word ∷ [])) ≡ length (given_parts taken) + length (given_parts (next.word ∷ [])) =
      ap (λ (l : List (List ℕ)). length l) parts ∙ length-append (given_parts taken) (given_parts (next.word ∷ [])) in
      record {
        word = next.word;
        frame = next.frame;
        heard = record {
          rest = next.later;
          front = split ∙ sym (append_assoc taken (next.word ∷ []) next.later);
          counter = omega (arith, before_it, size, plain_size, whole_size);
        };
      }

  -- the next word is heard
  pub hears-next : (link : Link CallStage) (f : Frame) (m : ℕ) (taken : List Given) → HasHeard given s taken → AreGranted run.leaked whole n line log (opened_parts (sealed_ahead s.keys link))
      → secure_frame_at (sealed_ahead s.keys link) ≡ Ok (Some (f, m)) → HearsNext given s taken f
  hears-next link f m taken k granted read =
      let known = h.each s.keys.key name tie is in
      let fit : FitFrames k.rest = frames-behind taken k.rest (subst FitFrames k.front known.frames) in
      let sealed = opened-sealed run.leaked whole n line s.keys.key (none-excepted run whole us log J is.acceptor n s.keys.key is.number name (AtDaemon is.service tie) i is.means free)
      (front_contents (sealed_ahead s.keys link)) log log (λ mark was. was) granted in
      taken-more f taken k (next-given log given s.keys.key known.there (sealed_ahead s.keys link) four (passes-acceptor s.keys.into.fixed into) taken k.rest k.front k.counter sealed f m fit read)
