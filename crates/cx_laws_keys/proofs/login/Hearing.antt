-- What opens first of a frame that is taken: its first part, under the keys with which the link receives.
use Rattle.std.proofs.Common.{◌≡◌, ℕ, ◌+◌, ◌-◌, ◌^◌, Bool, true, false, List, [], ◌∷◌, ◌++◌, length, map, take, drop, Option, Some, None, Result, Ok, Err, refl, sym, ap, ◌∙◌}
use Rattle.std.specs.Prelude.{nat_lt, if◌then◌else◌}
use Rattle.cx_rules.specs.cx_frame.specs.Preambles.{preamble_at}
use Rattle.cx_rules.specs.cx_frame.specs.declared.frame.Frame.{Frame}
use Rattle.cx_laws_keys.specs.cx_journal.specs.declared.premises.KeyKind.TheVariants as kind
use Rattle.cx_rules.specs.Fronts.{Next, opened_parts, sealed_ahead, secure_next, secure_read}
use Rattle.cx_rules.specs.Links.{Link}
use Rattle.cx_rules.specs.Secured.{Keys}
use Rattle.cx_rules.specs.cx_secure.specs.Opening.{head_of, head_step}
use Rattle.cx_rules.specs.cx_secure.specs.Parts.{nonce_at, opened}
use Rattle.cx_rules.specs.cx_secure.specs.declared.refusals.SecureRefusal.{SecureRefusal}
use Rattle.cx_rules.specs.cx_secure.specs.declared.refusals.SecureRefusal.TheVariants.{CounterSpent}
use Rattle.cx_rules.specs.cx_secure.specs.declared.sealing.Head.{Head}
use Rattle.cx_rules.specs.cx_steps.specs.declared.seals.SealEntry.{SealEntry}
use Rattle.cx_rules.specs.cx_steps.specs.declared.seals.SealEntry.TheVariants as seal
use Rattle.cx_rules.specs.cx_steps.specs.declared.seals.SealMark.{SealMark}
use Rattle.cx_rules.specs.cx_stream.specs.Openings.{contents_behind, contents_from, front_contents}
use Rattle.cx_rules.specs.cx_stream.specs.SecureStreams.{Ahead, behind_head, secure_frame_at}
use Rattle.cx_laws_keys.proofs.keys.Known.{IsOfConnector}

-- ---- of a frame

-- a part opened first, under the next nonce
record OpensFirst (a : Ahead) (contents : List (List ℕ)) : Type 0 where
  plain : List ℕ
  more : List (List ℕ)
  is : contents ≡ (nonce_at a.fixed a.counter ++ plain) ∷ more

head-opens : (a : Ahead) (h : Head) → head_step a.key a.fixed a.counter (take 96 a.bytes) ≡ Ok h → OpensFirst a (front_contents a)
unfolding head_step head_of front_contents contents_from
head-opens a h is = by_counter (nat_lt (2 ^ 64 - 1) (a.counter + 1)) is
  where
    by_opened : (o : Option (List ℕ)) → head_of o ≡ Ok h → OpensFirst a (contents_from a o)
    by_opened None is = absurd cc
    by_opened (Some plain) is = record { plain = plain; more = contents_behind a (preamble_at 1048576 (take 32 plain)); is = refl }

    by_counter : (spent : Bool) → (if spent then Err CounterSpent else head_of (opened a.key (nonce_at a.fixed a.counter) 80 (take 96 a.bytes))) ≡ Ok h
        → OpensFirst a (if spent then [] else contents_from a (opened a.key (nonce_at a.fixed a.counter) 80 (take 96 a.bytes)))
    by_counter true is = absurd cc
    by_counter false is = by_opened (opened a.key (nonce_at a.fixed a.counter) 80 (take 96 a.bytes)) is

frame-opens : (a : Ahead) (x : Frame × ℕ) → secure_frame_at a ≡ Ok (Some x) → OpensFirst a (front_contents a)
unfolding secure_frame_at behind_head
frame-opens a x is = by_length (nat_lt (length a.bytes) 96) is
  where
    behind : Ahead
    behind = record a { counter = a.counter + 1; bytes = drop 96 a.bytes }

    by_head : (r : Result Head SecureRefusal) → head_step a.key a.fixed a.counter (take 96 a.bytes) ≡ r → behind_head behind r ≡ Ok (Some x) → OpensFirst a (front_contents a)
    by_head (Ok h) head is = head-opens a h head
    by_head (Err e) head is = absurd cc

    by_length : (short : Bool) → (if short then Ok None else behind_head behind (head_step a.key a.fixed a.counter (take 96 a.bytes))) ≡ Ok (Some x) → OpensFirst a (front_contents a)
    by_length true is = absurd cc
    by_length false is = by_head (head_step a.key a.fixed a.counter (take 96 a.bytes)) refl is

-- ---- of a link

-- these plain bytes, as a part that comes next under these keys
abbrev pub part_heard : Keys → List ℕ → SealMark
part_heard keys plain = record { key = keys.key; kind = kind.Connection; content = nonce_at keys.into.fixed keys.into.counter ++ plain }

-- of these entries the first one is that such a part opened
pub record HearsPart (keys : Keys) (seals : List SealEntry) : Type 0 where
  pub plain : List ℕ
  pub rest : List SealEntry
  pub opened : seals ≡ seal.Opened (part_heard keys plain) ∷ rest

pub hears-more : (keys : Keys) (seals more : List SealEntry) → HearsPart keys seals → HearsPart keys (seals ++ more)
hears-more keys seals more h = record { plain = h.plain; rest = h.rest ++ more; opened = ap (λ (es : List SealEntry). es ++ more) h.opened }

pub next-heard : {Stage : Type 0} (keys : Keys) (link : Link Stage) (x : Link Stage × Frame × Keys) (seals : List SealEntry) → secure_next keys link ≡ Next x seals → HearsPart keys seals
next-heard {Stage} keys link x seals next = by_read (secure_frame_at a) refl next
  where
    a : Ahead
    a = sealed_ahead keys link

    by_read : (r : Result (Option (Frame × ℕ)) SecureRefusal) → secure_frame_at a ≡ r → secure_read keys link (opened_parts a) r ≡ Next x seals → HearsPart keys seals
    by_read (Ok None) read is = absurd cc
    by_read (Err e) read is = absurd cc
    by_read (Ok (Some (f, n))) read is =
        let same : opened_parts a ≡ seals = cc in
        let first : OpensFirst a (front_contents a) = frame-opens a (f, n) read in
        let entry : List ℕ → SealEntry = λ content. seal.Opened (record { key = keys.key; kind = kind.Connection; content = content }) in
        record { plain = first.plain; rest = map entry first.more; opened = sym same ∙ ap (λ (contents : List (List ℕ)). map entry contents) first.is }

-- a part begins as its nonce does
pub heard-begins : (keys : Keys) (plain : List ℕ) → IsOfConnector keys.into.fixed → IsOfConnector (part_heard keys plain).content
unfolding nonce_at
heard-begins keys plain h = by_fixed keys.into.fixed h
  where
    by_fixed : (fixed : List ℕ) → IsOfConnector fixed → IsOfConnector (nonce_at fixed keys.into.counter ++ plain)
    by_fixed [] h = absurd h
    by_fixed (b ∷ bytes) h = h
