-- What a row of a link to the monitor says behind AUTH_SIGNATURE: at most one word, sealed behind what seals nothing under the key of a login; the link goes on
-- under the keys behind it.
use Rattle.std.proofs.Common.{◌≡◌, ℕ, Bool, List, [], ◌∷◌, ◌++◌, map, Option, Some, None, Result, Ok, Err, inl, inr, ◌⊎◌, refl, sym, ap, ◌∙◌, append_assoc}
use Rattle.std.specs.Prelude.{IfSome}
use Rattle.std.specs.List.{AllByRecursion, cons_option}
use Rattle.cx_frame.specs.declared.frame.Frame.{Frame}
use Rattle.cx_journal.specs.declared.faults.BytesFault.{BytesFault}
use Rattle.cx_journal.specs.declared.outcomes.Reason.{Reason}
use Rattle.cx_journal.specs.declared.premises.KeyKind.TheVariants as kind
use Rattle.cx_laws_keys.proofs.series.Contents.{content_of, contents_by}
use Rattle.cx_laws_keys.specs.cx_rules.specs.Fronts.{opened_parts}
use Rattle.cx_laws_keys.specs.cx_rules.specs.Links.{Link}
use Rattle.cx_laws_keys.specs.cx_rules.specs.Rows.{Arrival, Row, goes_on, refuses, secure_sent, with_opened}
use Rattle.cx_laws_keys.specs.cx_rules.specs.Secured.{SealedFrame, Secured, secure_frame, under}
use Rattle.cx_steps.specs.declared.seals.SealEntry.{SealEntry}
use Rattle.cx_steps.specs.declared.seals.SealEntry.TheVariants as entry
use Rattle.cx_laws_keys.specs.cx_stream.specs.Openings.{front_contents}
use Rattle.cx_laws_keys.specs.cx_stream.specs.SecureStreams.{Ahead}

-- ---- what seals nothing

-- it seals nothing at all
abbrev pub IsQuiet : SealEntry → Type 0
IsQuiet (entry.Sealed mark) = ⊥
IsQuiet (entry.Signed mark) = Unit {0}
IsQuiet (entry.Opened mark) = Unit {0}
IsQuiet (entry.Checked mark) = Unit {0}
IsQuiet (entry.Drawn mark) = Unit {0}

abbrev pub AreQuiet : List SealEntry → Type 0
AreQuiet es = AllByRecursion IsQuiet es

-- these seal nothing under such a key
abbrev pub AreStill : (List ℕ → Type 0) → List SealEntry → Type 0
AreStill P es = (key : List ℕ) (test : List ℕ → Bool) → P key → contents_by key test es ≡ []

pub quiet-none : (key : List ℕ) (test : List ℕ → Bool) (es : List SealEntry) → AreQuiet es → contents_by key test es ≡ []
quiet-none key test [] h = refl
quiet-none key test (entry.Sealed mark ∷ es) h = absurd h.0
quiet-none key test (entry.Signed mark ∷ es) h = quiet-none key test es h.1
quiet-none key test (entry.Opened mark ∷ es) h = quiet-none key test es h.1
quiet-none key test (entry.Checked mark ∷ es) h = quiet-none key test es h.1
quiet-none key test (entry.Drawn mark ∷ es) h = quiet-none key test es h.1

pub quiet-still : (P : List ℕ → Type 0) (es : List SealEntry) → AreQuiet es → AreStill P es
quiet-still P es h = λ key test p. quiet-none key test es h

cons-append : (o : Option (List ℕ)) (xs ys : List (List ℕ)) → cons_option o xs ++ ys ≡ cons_option o (xs ++ ys)
cons-append None xs ys = refl
cons-append (Some x) xs ys = refl

pub by-append : (key : List ℕ) (test : List ℕ → Bool) (xs ys : List SealEntry) → contents_by key test (xs ++ ys) ≡ contents_by key test xs ++ contents_by key test ys
by-append key test [] ys = refl
by-append key test (x ∷ xs) ys =
    ap (λ (l : List (List ℕ)). cons_option (content_of key test x) l) (by-append key test xs ys)
    ∙ sym (cons-append (content_of key test x) (contents_by key test xs) (contents_by key test ys))

pub still-append : (P : List ℕ → Type 0) (xs ys : List SealEntry) → AreStill P xs → AreStill P ys → AreStill P (xs ++ ys)
still-append P xs ys h g = λ key test p.
    by-append key test xs ys ∙ ap (λ (l : List (List ℕ)). l ++ contents_by key test ys) (h key test p) ∙ g key test p

pub opened-quiet : (ahead : Ahead) → AreQuiet (opened_parts ahead)
opened-quiet ahead = over (front_contents ahead)
  where
    over : (contents : List (List ℕ)) → AreQuiet (map (λ (content : List ℕ). entry.Opened (record { key = ahead.key; kind = kind.Connection; content = content })) contents)
    over [] = tt
    over (content ∷ contents) = (tt, over contents)

-- ---- a row

module _ {W Own Stage : Type 0} (frame_of : W → Frame) (P : List ℕ → Type 0) (Kept : Option W → Secured → Link Stage → Type 0) (Tells : W → Type 0) where
  -- nothing is said, and the link goes on under its keys
  pub record SaysNothing (s : Secured) (row : Row Own Stage) : Type 0 where
    pub still : AreStill P row.seals
    pub link : IfSome row.link (λ l. Kept None s l)

  -- one word is said, of which this is told
  pub record SaysWord (s : Secured) (row : Row Own Stage) : Type 0 where
    pub word : W
    pub told : Tells word
    pub before : List SealEntry
    pub still : AreStill P before
    pub sealed : SealedFrame
    pub made : secure_frame s.keys (frame_of word) ≡ Ok sealed
    pub seals : row.seals ≡ before ++ sealed.seals
    pub link : IfSome row.link (λ l. Kept (Some word) (under s sealed.keys) l)

  abbrev pub RowSays : Secured → Row Own Stage → Type 0
  RowSays s row = SaysNothing s row ⊎ SaysWord s row

  pub refuses-says : (a : Arrival Own Stage) (s : Secured) (why : Reason) (seals : List SealEntry) → AreStill P seals → RowSays s (refuses a why seals)
  refuses-says a s why seals still = inl (record { still = still; link = tt })

  pub goes-says : (a : Arrival Own Stage) (s : Secured) (stage : Stage) → Kept None s (record a.link { stage = stage }) → RowSays s (goes_on a stage [] [])
  goes-says a s stage kept = inl (record { still = λ key test p. refl; link = kept })

  pub secure-says : (a : Arrival Own Stage) (s : Secured) (stage : Secured → Stage) (before : List SealEntry) (word : W) → AreStill P before → Tells word
      → ((t : Secured) → Kept (Some word) t (record a.link { stage = stage t })) → RowSays s (secure_sent a s stage before (secure_frame s.keys (frame_of word)))
  secure-says a s stage before word still told kept = by_sealed (secure_frame s.keys (frame_of word)) refl
    where
      by_sealed : (r : Result SealedFrame BytesFault) → secure_frame s.keys (frame_of word) ≡ r → RowSays s (secure_sent a s stage before r)
      by_sealed (Err why) e = inl (record { still = still; link = tt })
      by_sealed (Ok sealed) e = inr (record {
        word = word;
        told = told;
        before = before;
        still = still;
        sealed = sealed;
        made = e;
        seals = refl;
        link = kept (under s sealed.keys);
      })

  -- behind what opened
  pub opened-says : (opened : List SealEntry) (s : Secured) (row : Row Own Stage) → AreQuiet opened → RowSays s row → RowSays s (with_opened opened row)
  opened-says opened s row quiet (inl h) = inl (record { still = still-append P opened row.seals (quiet-still P opened quiet) h.still; link = h.link })
  opened-says opened s row quiet (inr h) = inr (record {
    word = h.word;
    told = h.told;
    before = opened ++ h.before;
    still = still-append P opened h.before (quiet-still P opened quiet) h.still;
    sealed = h.sealed;
    made = h.made;
    seals = ap (λ (es : List SealEntry). opened ++ es) h.seals ∙ sym (append_assoc opened h.before h.sealed.seals);
    link = h.link;
  })
