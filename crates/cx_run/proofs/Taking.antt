-- A turn that handles something takes some of what is ahead on its link, which goes on with its number, or is shut.
use Rattle.std.proofs.Common.{◌≡◌, ℕ, ◌+◌, ◌<◌, ◌≤◌, ◌==◌, Bool, true, false, List, [], length, take, drop, Option, Some, None, Result, Ok, Err, refl, ap, arith, length-drop}
use Rattle.std.specs.Option.{option_map}
use Rattle.std.specs.Prelude.{◌-◌, ◌%◌, ◌||◌, IfSome, nat_lt, if◌then◌else◌}
use Rattle.cx_rules_session.specs.cx_frame.specs.Banners.{bad_place, banner_at, behind_word, by_features, number64, sized}
use Rattle.cx_rules_session.specs.cx_frame.specs.Frames.{rest_at, rest_len}
use Rattle.cx_rules_session.specs.cx_frame.specs.Preambles.{number16, preamble_at}
use Rattle.cx_rules_session.specs.cx_frame.specs.declared.banner.Banner.{Banner}
use Rattle.cx_rules_session.specs.cx_frame.specs.declared.frame.Frame.{Frame}
use Rattle.cx_rules_session.specs.cx_frame.specs.declared.preamble.Preamble.{Preamble}
use Rattle.cx_rules_session.specs.cx_frame.specs.declared.refusals.BannerRefusal.{BannerRefusal}
use Rattle.cx_rules_session.specs.cx_frame.specs.declared.refusals.BannerRefusal.TheVariants.{BadBanner, Features}
use Rattle.cx_rules_session.specs.cx_frame.specs.declared.refusals.FrameRefusal.{FrameRefusal}
use Rattle.cx_rules_session.specs.cx_journal.specs.declared.faults.BytesFault.{BytesFault}
use Rattle.cx_rules_session.specs.cx_secure.specs.Opening.{head_step, rest_step}
use Rattle.cx_rules_session.specs.cx_secure.specs.Plains as secure
use Rattle.cx_rules_session.specs.cx_secure.specs.declared.refusals.SecureRefusal.{SecureRefusal}
use Rattle.cx_rules_session.specs.cx_secure.specs.declared.sealing.Head.{Head}
use Rattle.cx_rules_session.specs.cx_steps.specs.declared.seals.SealEntry.{SealEntry}
use Rattle.cx_rules_session.specs.cx_stream.specs.Fronts.{with_length}
use Rattle.cx_rules_session.specs.cx_stream.specs.PlainStreams.{behind_preamble, plain_frame_at}
use Rattle.cx_rules_session.specs.cx_stream.specs.SecureStreams.{Ahead, behind_head, secure_frame_at}
use Rattle.cx_rules_session.specs.cx_rules.specs.Fronts.{ahead_of, banner_next, banner_read, keys_behind, opened_parts, plain_next, plain_read, sealed_ahead, secure_next, secure_read, taking}
use Rattle.cx_rules_session.specs.cx_rules.specs.Links.{Link}
use Rattle.cx_rules_session.specs.cx_rules.specs.Rows.{Arrival, Row, Turned, Waits, Refuses, Handles, secure_sent, turned_by}
use Rattle.cx_rules_session.specs.cx_rules.specs.Secured.{Keys, SealedFrame, Secured}
use Rattle.cx_rules_session.specs.cx_rules.proofs.AlikeRows.{SameAhead}
use Rattle.cx_rules_session.specs.cx_rules.proofs.Fitting.{Fits, banner-fits, plain-fits, secure-fits}
pub use Rattle.cx_rules_session.specs.cx_rules.proofs.RowWalk.{EachRow, each-turned}
use Rattle.cx_rules_session.specs.Kinds.{in_stage, of_kind, turn_of_kind}
use Rattle.cx_run.proofs.Always.{Anything, TurnOf}

-- ---- what is read has bytes

abbrev pub HasBytes : {X E : Type 0} → Result (Option (X × ℕ)) E → Type 0
HasBytes (Ok (Some (x, n))) = 0 < n
HasBytes (Ok None) = Unit {0}
HasBytes (Err e) = Unit {0}

features-have : (b : Banner) (n : ℕ) → 0 < n → HasBytes (by_features b n)
unfolding by_features
features-have b n some = by_tests (nat_lt 1 b.required) (b.supported % 2 == 0)
  where
    by_tests : (more none : Bool)
        → HasBytes (let r : Result (Option (Banner × ℕ)) BannerRefusal = (if more then Err (Features (b.required - b.required % 2)) else if none then Err (Features 1) else Ok (Some (b, n))) in r)
    by_tests true none = tt
    by_tests false true = tt
    by_tests false false = some

sized-has : (bytes : List ℕ) (n : ℕ) → HasBytes (sized bytes n)
unfolding sized
sized-has bytes n = by_tests (nat_lt n 16 || nat_lt 256 n) (nat_lt (length bytes) (10 + n))
  where
    by_tests : (wrong short : Bool)
        → HasBytes (let r : Result (Option (Banner × ℕ)) BannerRefusal = (if wrong then Err (BadBanner 8) else if short then Ok None
        else by_features (record { supported = number64 bytes 10; required = number64 bytes 18 }) (10 + n)) in r)
    by_tests true short = tt
    by_tests false true = tt
    by_tests false false = features-have (record { supported = number64 bytes 10; required = number64 bytes 18 }) (10 + n) (omega arith)

word-has : (bytes : List ℕ) (place : Option ℕ) → HasBytes (behind_word bytes place)
unfolding behind_word
word-has bytes (Some place) = tt
word-has bytes None = by_test (nat_lt (length bytes) 10)
  where
    by_test : (short : Bool) → HasBytes (let r : Result (Option (Banner × ℕ)) BannerRefusal = (if short then Ok None else sized bytes (number16 bytes 8)) in r)
    by_test true = tt
    by_test false = sized-has bytes (number16 bytes 8)

pub banner-has : (bytes : List ℕ) → HasBytes (banner_at bytes)
unfolding banner_at
banner-has bytes = word-has bytes (bad_place bytes)

length-has : {E : Type 0} (n : ℕ) (r : Result Frame E) → 0 < n → HasBytes (with_length n r)
unfolding with_length
length-has n (Ok f) some = some
length-has n (Err e) some = tt

preamble-has : (bytes : List ℕ) (read : Result Preamble FrameRefusal) → HasBytes (behind_preamble bytes read)
unfolding behind_preamble
preamble-has bytes (Err e) = tt
preamble-has bytes (Ok p) = by_test (nat_lt (length bytes) (rest_len p))
  where
    by_test : (short : Bool) → HasBytes (let r : Result (Option (Frame × ℕ)) FrameRefusal = (if short then Ok None
        else with_length (32 + rest_len p) (rest_at p (take (rest_len p) bytes))) in r)
    by_test true = tt
    by_test false = length-has (32 + rest_len p) (rest_at p (take (rest_len p) bytes)) (omega arith)

pub plain-has : (bytes : List ℕ) → HasBytes (plain_frame_at bytes)
unfolding plain_frame_at
plain-has bytes = by_test (nat_lt (length bytes) 32)
  where
    by_test : (short : Bool) → HasBytes (let r : Result (Option (Frame × ℕ)) FrameRefusal = (if short then Ok None
        else behind_preamble (drop 32 bytes) (preamble_at 65536 (take 32 bytes))) in r)
    by_test true = tt
    by_test false = preamble-has (drop 32 bytes) (preamble_at 65536 (take 32 bytes))

head-has : (a : Ahead) (read : Result Head SecureRefusal) → HasBytes (behind_head a read)
unfolding behind_head
head-has a (Err e) = tt
head-has a (Ok h) = by_test (nat_lt (length a.bytes) (secure.rest_len h.preamble))
  where
    by_test : (short : Bool) → HasBytes (let r : Result (Option (Frame × ℕ)) SecureRefusal = (if short then Ok None
        else with_length (96 + secure.rest_len h.preamble) (rest_step a.key a.fixed a.counter h (take (secure.rest_len h.preamble) a.bytes))) in r)
    by_test true = tt
    by_test false =
        length-has (96 + secure.rest_len h.preamble) (rest_step a.key a.fixed a.counter h (take (secure.rest_len h.preamble) a.bytes)) (omega arith)

pub secure-has : (a : Ahead) → HasBytes (secure_frame_at a)
unfolding secure_frame_at
secure-has a = by_test (nat_lt (length a.bytes) 96)
  where
    by_test : (short : Bool) → HasBytes (let r : Result (Option (Frame × ℕ)) SecureRefusal = (if short then Ok None
        else behind_head (record a { counter = a.counter + 1; bytes = drop 96 a.bytes }) (head_step a.key a.fixed a.counter (take 96 a.bytes))) in r)
    by_test true = tt
    by_test false = head-has (record a { counter = a.counter + 1; bytes = drop 96 a.bytes }) (head_step a.key a.fixed a.counter (take 96 a.bytes))

-- ---- rows

-- what a row leaves of a link is as that link, but for what was sent and the stage
abbrev pub Keeps : {Own Stage : Type 0} → Link Stage → Row Own Stage → Type 0
Keeps link row = IfSome row.link (λ l. SameAhead l link)

-- what is left of a link has less ahead, and its number
abbrev pub Takes : {Stage : Type 0} → Link Stage → Option (Link Stage) → Type 0
Takes link None = 0 < length (ahead_of link)
Takes link (Some l) = (l.number ≡ link.number) × (length (ahead_of l) < length (ahead_of link))

abbrev pub TurnTakes : {Own Stage : Type 0} → Link Stage → Turned Own Stage → Type 0
TurnTakes link Waits = Unit {0}
TurnTakes link (Refuses why opened) = Unit {0}
TurnTakes link (Handles row) = Takes link row.link

-- this row leaves what the node has of its own
module _ {Own Stage : Type 0} where
  pub secure_sent-own : (a : Arrival Own Stage) (s : Secured) (stage : Secured → Stage) (seals : List SealEntry) (r : Result SealedFrame BytesFault)
      → (secure_sent a s stage seals r).own ≡ a.own
  secure_sent-own a s stage seals (Ok sealed) = refl
  secure_sent-own a s stage seals (Err why) = refl

-- ---- turns

-- of a turn of which nothing else is known this holds where a row handles it
pub each-row : {Own Stage : Type 0} (P : Row Own Stage → Type 0) (turned : Turned Own Stage) → TurnOf Anything P turned → EachRow P turned
each-row P Waits h = tt
each-row P (Refuses why opened) h = tt
each-row P (Handles row) h = h

pub taking-takes : {Stage : Type 0} (link : Link Stage) (n : ℕ) (left : Option (Link Stage)) → 0 < n → n ≤ length (ahead_of link) → IfSome left (λ l. SameAhead l (taking link n)) → Takes link left
taking-takes link n None some le same = omega arith
taking-takes link n (Some l) some le same =
    let after : length (ahead_of l) ≡ length (drop (link.taken + n) link.received) = ap length same.ahead in
    (same.number, omega (arith, length-drop link.taken link.received, length-drop (link.taken + n) link.received))

module _ {Own Stage : Type 0} where
  pub banner-takes : (link : Link Stage) (row : Link Stage → List SealEntry → Row Own Stage) → ((l : Link Stage) (opened : List SealEntry) → Keeps l (row l opened))
      → TurnTakes link (turned_by row (banner_next link))
  banner-takes link row each = by_cases (banner_at (ahead_of link)) (banner-has (ahead_of link)) (banner-fits (ahead_of link))
    where
      by_cases : (r : Result (Option (Banner × ℕ)) BannerRefusal) → HasBytes r → Fits (length (ahead_of link)) r → TurnTakes link (turned_by row (banner_read link r))
      by_cases (Ok None) some le = tt
      by_cases (Ok (Some (b, n))) some le = taking-takes link n (row (taking link n) []).link some le (each (taking link n) [])
      by_cases (Err why) some le = tt

  pub plain-takes : (link : Link Stage) (row : Link Stage × Frame → List SealEntry → Row Own Stage)
      → ((l : Link Stage) (f : Frame) (opened : List SealEntry) → Keeps l (row (l, f) opened)) → TurnTakes link (turned_by row (plain_next link))
  plain-takes link row each = by_cases (plain_frame_at (ahead_of link)) (plain-has (ahead_of link)) (plain-fits (ahead_of link))
    where
      by_cases : (r : Result (Option (Frame × ℕ)) FrameRefusal) → HasBytes r → Fits (length (ahead_of link)) r → TurnTakes link (turned_by row (plain_read link r))
      by_cases (Ok None) some le = tt
      by_cases (Ok (Some (f, n))) some le = taking-takes link n (row (taking link n, f) []).link some le (each (taking link n) f [])
      by_cases (Err why) some le = tt

  pub secure-takes : (keys : Keys) (link : Link Stage) (row : Link Stage × Frame × Keys → List SealEntry → Row Own Stage)
      → ((l : Link Stage) (f : Frame) (k : Keys) (opened : List SealEntry) → Keeps l (row (l, f, k) opened)) → TurnTakes link (turned_by row (secure_next keys link))
  secure-takes keys link row each =
      by_cases (opened_parts (sealed_ahead keys link)) (secure_frame_at (sealed_ahead keys link)) (secure-has (sealed_ahead keys link)) (secure-fits (sealed_ahead keys link))
    where
      by_cases : (opened : List SealEntry) (r : Result (Option (Frame × ℕ)) SecureRefusal) → HasBytes r → Fits (length (ahead_of link)) r
          → TurnTakes link (turned_by row (secure_read keys link opened r))
      by_cases opened (Ok None) some le = tt
      by_cases opened (Ok (Some (f, n))) some le =
          taking-takes link n (row (taking link n, f, keys_behind keys f) opened).link some le (each (taking link n) f (keys_behind keys f) opened)
      by_cases opened (Err why) some le = tt

-- a row of one kind of link takes as one of the node
pub kind-takes : {Part Own S T : Type 0} (whole : Part → Own) (kind : S → T) (link : Link T) (stage : S) (t : Turned Part S) → TurnTakes (in_stage link stage) t
    → TurnTakes link (turn_of_kind whole kind t)
kind-takes whole kind link stage Waits h = tt
kind-takes whole kind link stage (Refuses why opened) h = tt
kind-takes {Part} {Own} {S} {T} whole kind link stage (Handles row) h = by_link row.link h
  where
    by_link : (left : Option (Link S)) → Takes (in_stage link stage) left → Takes link (option_map (of_kind kind) left)
    by_link None k = k
    by_link (Some l) k = k
