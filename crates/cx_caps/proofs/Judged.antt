-- The conditions of a clause, one after another.
use Rattle.std.proofs.Common.{◌≡◌, Bool, true, false, not, ◌&&◌, List, [], ◌∷◌, Option, Some, None, refl, ap}
use Rattle.std.specs.Prelude.{◌||◌}
use Rattle.std.specs.List.{list_all, list_any}
use Rattle.cx_base.specs.declared.operations.Operation.{Operation}
use Rattle.cx_caps.specs.declared.conditions.Seen.{Seen}
use Rattle.cx_caps.specs.declared.kinds.ConditionKind.{ConditionKind}
use Rattle.cx_caps.specs.declared.kinds.ConditionKind.TheVariants.{Pool, Namespace, ObjectPrefix}
use Rattle.cx_caps.specs.Grammar.{Condition, same_condition_kind, repeats, is_met}
use Rattle.cx_caps.specs.Reading.{in_front, allows_by}
use Rattle.cx_caps.specs.Seen.{has_seen, with_seen}

-- none of these conditions is of a kind that was seen
abbrev pub none_seen : Seen → List Condition → Bool
none_seen seen conditions = list_all (λ condition. not (has_seen seen condition.kind)) conditions

-- what is left to be judged of a clause behind some conditions that are met
abbrev pub judged : Seen → Operation → Option (List Condition) → Bool
judged seen ask None = false
judged seen ask (Some conditions) = none_seen seen conditions && allows_by ask (Some conditions)

or_true : (a : Bool) → true ≡ (a || true)
or_true true = refl
or_true false = refl

or_false : (a : Bool) → a ≡ (a || false)
or_false true = refl
or_false false = refl

seen_too : (seen : Seen) (kind other : ConditionKind) → has_seen (with_seen seen kind) other ≡ (has_seen seen other || same_condition_kind kind other)
seen_too seen Pool Pool = or_true seen.pool
seen_too seen Pool Namespace = or_false seen.namespace
seen_too seen Pool ObjectPrefix = or_false seen.object_prefix
seen_too seen Namespace Pool = or_false seen.pool
seen_too seen Namespace Namespace = or_true seen.namespace
seen_too seen Namespace ObjectPrefix = or_false seen.object_prefix
seen_too seen ObjectPrefix Pool = or_false seen.pool
seen_too seen ObjectPrefix Namespace = or_false seen.namespace
seen_too seen ObjectPrefix ObjectPrefix = or_true seen.object_prefix

apart : (a b c d : Bool) → (not (a || b) && (c && not d)) ≡ ((not a && c) && not (b || d))
apart true b c d = refl
apart false true true d = refl
apart false true false d = refl
apart false false c d = refl

seen_one_more : (seen : Seen) (kind : ConditionKind) (conditions : List Condition)
    → none_seen (with_seen seen kind) conditions
    ≡ (none_seen seen conditions && not (list_any (λ other. same_condition_kind kind other.kind) conditions))
seen_one_more seen kind [] = refl
seen_one_more seen kind (condition ∷ conditions) =
    rw (seen_too seen kind condition.kind, seen_one_more seen kind conditions)
    (apart (has_seen seen condition.kind) (same_condition_kind kind condition.kind) (none_seen seen conditions)
    (list_any (λ other. same_condition_kind kind other.kind) conditions))

regroup : (n s r m : Bool) → (n && (not (s || r) && m)) ≡ ((n && not s) && (not r && m))
regroup true true r m = refl
regroup true false r m = refl
regroup false s r m = refl

-- a condition that is met and of a new kind
pub judged_next : (seen more : Seen) (ask : Operation) (condition : Condition) (rest : Option (List Condition))
    → has_seen seen condition.kind ≡ false → is_met ask condition ≡ true → more ≡ with_seen seen condition.kind
    → judged seen ask (in_front (Some condition) rest) ≡ judged more ask rest
judged_next seen more ask condition None fresh met is_more = refl
judged_next seen more ask condition (Some conditions) fresh met is_more =
    rw (fresh, met, is_more, seen_one_more seen condition.kind conditions)
    (regroup (none_seen seen conditions) (list_any (λ other. same_condition_kind condition.kind other.kind) conditions) (repeats conditions) (list_all (is_met ask) conditions))

-- before the first condition none was seen
fresh_kind : (seen : Seen) (kind : ConditionKind) → seen.pool ≡ false → seen.namespace ≡ false → seen.object_prefix ≡ false → not (has_seen seen kind) ≡ true
fresh_kind seen Pool p n o = ap not p
fresh_kind seen Namespace p n o = ap not n
fresh_kind seen ObjectPrefix p n o = ap not o

none_fresh : (seen : Seen) (conditions : List Condition) → seen.pool ≡ false → seen.namespace ≡ false → seen.object_prefix ≡ false
    → none_seen seen conditions ≡ true
none_fresh seen [] p n o = refl
none_fresh seen (condition ∷ conditions) p n o = rw (fresh_kind seen condition.kind p n o) (none_fresh seen conditions p n o)

pub judged_first : (seen : Seen) (ask : Operation) (rest : Option (List Condition)) → seen.pool ≡ false → seen.namespace ≡ false
    → seen.object_prefix ≡ false → allows_by ask rest ≡ judged seen ask rest
judged_first seen ask None p n o = refl
judged_first seen ask (Some conditions) p n o = rw (none_fresh seen conditions p n o) refl
