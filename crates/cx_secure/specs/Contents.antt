-- What opens of a secure frame: of each part whose tag is right its content, which is its nonce and its plain bytes, whether or not a frame
-- is read from it. And what of one was sealed.
use Rattle.std.specs.Prelude.{ℕ, ◌+◌, ◌-◌, ◌^◌, ◌==◌, List, [], ◌∷◌, ◌++◌, length, take, drop, nat_lt, Option, Some, None, if◌then◌else◌}
use Rattle.cx_frame.specs.declared.frame.Frame.{Frame}
use Rattle.cx_frame.specs.declared.preamble.Preamble.{Preamble}
use Rattle.cx_frame.specs.Preambles.{preamble_text}
use Rattle.cx_secure.specs.Parts.{nonce_at, opened}
use Rattle.cx_secure.specs.Plains.{one_if, plains, rest_parts, second_len, tagged}
use Rattle.cx_secure.specs.declared.sealing.Head.{Head}
use Rattle.cx_secure.specs.declared.sealing.Way.{Way}

-- the content of a part, where it opens
abbrev pub content_of : List ℕ → Option (List ℕ) → List (List ℕ)
content_of nonce None = []
content_of nonce (Some plain) = (nonce ++ plain) ∷ []

-- of a part in these bytes, where there is one
unfoldable pub part_content : List ℕ → List ℕ → List ℕ → List (List ℕ)
part_content key nonce bytes = if length bytes == 0 then [] else content_of nonce (opened key nonce (length bytes - 16) bytes)

-- the head in 96 bytes that come under this counter
unfoldable pub head_contents : List ℕ → List ℕ → ℕ → List ℕ → List (List ℕ)
head_contents key fixed counter bytes =
    if nat_lt (2 ^ 64 - 1) (counter + 1) then [] else content_of (nonce_at fixed counter) (opened key (nonce_at fixed counter) 80 bytes)

-- the parts behind a head with this preamble, which have these nonces: each by itself
unfoldable pub parts_contents : List ℕ → List ℕ → List ℕ → Preamble → List ℕ → List (List ℕ)
parts_contents key first next p bytes =
    let n = tagged (second_len p) in
    part_content key first (take n bytes) ++ part_content key next (drop n bytes)

-- the same, where they come from this counter on; where the counters don't suffice none is opened
unfoldable pub rest_contents : List ℕ → List ℕ → ℕ → Preamble → List ℕ → List (List ℕ)
rest_contents key fixed counter p bytes =
    if nat_lt (2 ^ 64 - 1) (counter + rest_parts p)
    then []
    else parts_contents key (nonce_at fixed counter) (nonce_at fixed (counter + one_if (second_len p))) p bytes

-- the content of a head that was opened last in this way
abbrev pub head_content : Way → Head → List ℕ
head_content way h = nonce_at way.fixed (way.counter - 1) ++ (preamble_text h.preamble ++ h.inline)

-- of plain texts, each sealed under the counter behind the one before it
unfoldable pub sealed_contents : List ℕ → ℕ → List (List ℕ) → List (List ℕ)
sealed_contents fixed counter [] = []
sealed_contents fixed counter (plain ∷ plains) = (nonce_at fixed counter ++ plain) ∷ sealed_contents fixed (counter + 1) plains

-- of a frame that was sealed last in this way
abbrev pub frame_contents : Way → Frame → List (List ℕ)
frame_contents way f = sealed_contents way.fixed (way.counter - length (plains f)) (plains f)
