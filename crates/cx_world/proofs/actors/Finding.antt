-- What stands under a name among members, posts and entities.
use Rattle.std.proofs.Common.{◌≡◌, ℕ, ◌+◌, ◌<◌, ◌≤◌, Bool, true, false, cond, List, [], ◌∷◌, ◌++◌, length, get_or, drop, Option, Some, None, refl, sym, ap, ◌∙◌, append_assoc}
use Rattle.std.specs.Prelude.{find, map, if◌then◌else◌}
use Rattle.std.proofs.Math.ListN.{drop_of_length-le}
use Rattle.std.proofs.lemmas.List.{append-nil, drop_more}
use Rattle.cx_base.specs.Names.{Name, is_daemon_type, same_name}
use Rattle.cx_base.specs.declared.nodes.NodeName.TheVariants as node
use Rattle.cx_world.specs.actors.Held.{MemberStands, member_of}
use Rattle.cx_world.specs.declared.members.Member.{Member}
use Rattle.cx_world_start.specs.cx_rules_session.specs.ClientRule.{opening_whole_client}
use Rattle.cx_world_start.specs.cx_run.specs.Happenings.{OfClient, OfDaemon, mon_client_in, is_of}
use Rattle.cx_world_start.specs.cx_run.specs.Opening.{Declared, mon_client_of, daemon_opening, entity_in, post_for}
use Rattle.cx_world_start.specs.cx_run.specs.Worlds.{Post, post_of}
use Rattle.cx_world.specs.actors.Members.{AreMembersOf, IsMemberOf}

-- the node of an entity has its name
named : (e : Declared) → (mon_client_in (entity_in e)).name ≡ e.name
named e = by_kind (is_daemon_type e.name.kind)
  where
    by_kind : (daemon : Bool) → (mon_client_in (if daemon then OfDaemon (daemon_opening (mon_client_of e)) else OfClient (opening_whole_client (mon_client_of e)))).name ≡ e.name
    by_kind true = refl
    by_kind false = refl

stands_by : (name : Name) (e : Declared) (es : List Declared) (m : Member) (members : List Member) (found at same : Bool) → found ≡ same → at ≡ same → IsMemberOf e m
    → MemberStands (member_of name members) (post_of (node.Entity name) (map post_for es)) (find (is_of name) (map entity_in es))
    → MemberStands (cond found (Some m) (member_of name members)) (cond same (Some (post_for e)) (post_of (node.Entity name) (map post_for es)))
    (cond at (Some (entity_in e)) (find (is_of name) (map entity_in es)))
stands_by name e es m members true true true f a member rest = (member.post, member.node)
stands_by name e es m members false false false f a member rest = rest
stands_by name e es m members true at false f a member rest = absurd cc
stands_by name e es m members false at true f a member rest = absurd cc
stands_by name e es m members true false true f a member rest = absurd cc
stands_by name e es m members false true false f a member rest = absurd cc

-- what stands under a name
pub all_stand : (name : Name) (es : List Declared) (members : List Member) → AreMembersOf es members
    → MemberStands (member_of name members) (post_of (node.Entity name) (map post_for es)) (find (is_of name) (map entity_in es))
all_stand name [] [] are = tt
all_stand name [] (m ∷ members) are = absurd are
all_stand name (e ∷ es) [] are = absurd are
all_stand name (e ∷ es) (m ∷ members) are =
    stands_by name e es m members (same_name m.name name) (is_of name (entity_in e)) (same_name e.name name) (ap (λ (n : Name). same_name n name) are.0.name)
    (ap (λ (n : Name). same_name n name) (named e)) are.0 (all_stand name es members are.1)

-- ---- one by one

-- the members so far, with those of the entities that are left behind them, are all
abbrev pub SoFar : List Declared → List Declared → List Member → Type 0
SoFar all left members = (rest : List Member) → AreMembersOf left rest → AreMembersOf all (members ++ rest)

pub one_more : (all : List Declared) (i : ℕ) (e : Declared) (members now : List Member) (m : Member) → SoFar all (drop i all) members → i < length all → e ≡ get_or all i e → IsMemberOf e m → now ≡ members ++ m ∷ []
    → SoFar all (drop (i + 1) all) now
one_more all i e members now m so_far within is member grown = λ rest are.
    let left : drop i all ≡ e ∷ drop (i + 1) all = drop_more all i e within ∙ ap (λ (x : Declared). x ∷ drop (i + 1) all) (sym is) in
    rw (grown, append_assoc members (m ∷ []) rest) (so_far (m ∷ rest) (rw left (member, are)))

-- where none are left, they are all
pub all_of : (all : List Declared) (i : ℕ) (members : List Member) → SoFar all (drop i all) members → length all ≤ i → AreMembersOf all members
all_of all i members so_far past =
    let none : drop i all ≡ [] = drop_of_length-le all {i = i} past in
    rw append-nil at (so_far [] (rw none tt))
