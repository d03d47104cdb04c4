-- The nodes behind a change of their clocks.
use Rattle.std.proofs.Common.{◌≡◌, ℕ, ◌+◌, ◌<◌, suc, zero, Bool, true, false, List, [], ◌∷◌, ◌++◌, length, get_or, map, set, take, drop, Option, Some, None, refl, sym, subst, ap, ◌∙◌, arith}
use Rattle.std.specs.Prelude.{if◌then◌else◌}
use Rattle.std.specs.Option.{option_map}
use Rattle.cx_base.specs.Names.{Name, same_name}
use Rattle.cx_base.proofs.Names.{same_name_is, same_name_self}
use Rattle.cx_base.specs.declared.nodes.NodeName.{NodeName}
use Rattle.cx_desk.specs.Handlers.{Handlers}
use Rattle.cx_base.specs.declared.nodes.NodeName.TheVariants as node
use Rattle.cx_world_start.specs.cx_run.specs.Happenings.{EntityNode, entity_of}
use Rattle.cx_world_start.specs.cx_run.specs.Schedules.{all_read, one_reads}
use Rattle.cx_world_start.specs.cx_run.specs.Wires.{same_node}
use Rattle.cx_world_start.specs.cx_run.specs.Worlds.{Post, World, post_of}
use Rattle.cx_world.specs.actors.Held.{ArePlaced, MemberStands, StandFor, member_of, reads}
use Rattle.cx_world.specs.actors.Posts.{IsOf, IsPosted, Sitting}
use Rattle.cx_world.specs.declared.members.Member.{Member}
use Rattle.cx_world.specs.declared.nodes.Nodes.{Nodes}
use Rattle.cx_world.proofs.actors.Keyed.{changed_all, key_found, same_node_is, same_node_self}
use Rattle.cx_world.proofs.actors.Placed.{placed-read, placed-same, placed-set}
use Rattle.cx_world.proofs.actors.Placing.{IsFirst, found_first, member_elsewhere, member_here}

sits_behind : (reading : ℕ) (old new : Sitting) (post : Option Post) → new ≡ record old { reading = reading } → IsPosted old post
    → IsPosted new (option_map (λ (s : Post). record s { reading = reading }) post)
sits_behind reading old new None e k = absurd k
sits_behind reading old new (Some post) e k =
    let P : Sitting → Type 0 = IsOf (record post { reading = reading }) in
    subst P (sym e) (record { reading = refl; coming = k.coming })

member_behind : (reading : ℕ) (member : Option Member) (post : Option Post) (entity : Option EntityNode) → MemberStands member post entity
    → MemberStands (option_map (reads reading) member) (option_map (λ (s : Post). record s { reading = reading }) post) entity
member_behind reading None None entity k = tt
member_behind reading (Some m) (Some s) entity k = (record { reading = refl; coming = k.0.coming }, k.1)
member_behind reading None (Some s) entity k = absurd k
member_behind reading (Some m) None entity k = absurd k

pub all_read_stands : {handlers : Handlers} (reading : ℕ) (w : World) (held new : Nodes) → StandFor handlers held w.nodes w.posts → new.monitor ≡ held.monitor
    → new.post ≡ record held.post { reading = reading } → new.places ≡ held.places → new.members.items ≡ map (λ m. reads reading m) held.members.items
    → StandFor handlers new (all_read reading w).nodes (all_read reading w).posts
all_read_stands reading w held new k monitor post places members =
    let read : Post → Post = λ s. record s { reading = reading } in
    let there = λ (who : NodeName). changed_all (λ (s : Post). s.node) same_node read (λ s. refl) who w.posts in
    record {
      monitor = rw monitor k.monitor;
      post = rw (there node.Monitor) (sits_behind reading held.post new.post (post_of node.Monitor w.posts) post k.post);
      members = λ n.
          let found = changed_all (λ (m : Member). m.name) same_name (λ m. reads reading m) (λ m. refl) n held.members.items in
          rw (members, found, there (node.Entity n)) (member_behind reading (member_of n held.members.items) (post_of (node.Entity n) w.posts) (entity_of n w.nodes) (k.members n));
      placed = placed-read held new reading places members k.placed;
      serves = k.serves;
    }

-- ---- the clock of one node

abbrev one : NodeName → ℕ → Post → Post
one who reading post = if same_node post.node who then record post { reading = reading } else post

one_node : (who : NodeName) (reading : ℕ) (post : Post) → (one who reading post).node ≡ post.node
one_node who reading post = by (same_node post.node who)
  where
    by : (b : Bool) → (let s : Post = (if b then record post { reading = reading } else post) in s.node) ≡ post.node
    by true = refl
    by false = refl

-- the post of another node stays, and that of the node reads it
module _ (who at : NodeName) (reading : ℕ) (posts : List Post) where
  found_one : post_of at (map (one who reading) posts) ≡ option_map (one who reading) (post_of at posts)
  found_one = changed_all (λ (s : Post). s.node) same_node (one who reading) (one_node who reading) at posts

  stays_other : same_node at who ≡ false → post_of at (map (one who reading) posts) ≡ post_of at posts
  stays_other apart = found_one ∙ by (post_of at posts) refl
    where
      by : (post : Option Post) → post_of at posts ≡ post → option_map (one who reading) post ≡ post
      by None e = refl
      by (Some s) e =
          let k : s.node ≡ at = same_node_is s.node at (key_found (λ (s : Post). s.node) same_node posts at s e) in
          rw (k, apart) refl

  reads_it : same_node at who ≡ true → post_of at (map (one who reading) posts) ≡ option_map (λ (s : Post). record s { reading = reading }) (post_of at posts)
  reads_it same = found_one ∙ by (post_of at posts) refl
    where
      by : (post : Option Post) → post_of at posts ≡ post → option_map (one who reading) post ≡ option_map (λ (s : Post). record s { reading = reading }) post
      by None e = refl
      by (Some s) e =
          let k : s.node ≡ at = same_node_is s.node at (key_found (λ (s : Post). s.node) same_node posts at s e) in
          let t : same_node s.node who ≡ true = rw k same in
          ap (λ (b : Bool). Some (let x : Post = (if b then record s { reading = reading } else s) in x)) t

pub monitor_reads : {handlers : Handlers} (reading : ℕ) (w : World) (held new : Nodes) → StandFor handlers held w.nodes w.posts → new.monitor ≡ held.monitor
    → new.post ≡ record held.post { reading = reading } → new.places ≡ held.places → new.members.items ≡ held.members.items
    → StandFor handlers new (one_reads node.Monitor reading w).nodes (one_reads node.Monitor reading w).posts
monitor_reads reading w held new k monitor post places members = record {
  monitor = rw monitor k.monitor;
  post = rw (reads_it node.Monitor node.Monitor reading w.posts refl) (sits_behind reading held.post new.post (post_of node.Monitor w.posts) post k.post);
  members = λ n. rw (members, stays_other node.Monitor (node.Entity n) reading w.posts refl) (k.members n);
  placed = placed-same held new places members k.placed;
  serves = k.serves;
}

module _ {handlers : Handlers} (reading : ℕ) (w : World) (name : Name) (held new : Nodes) (k : StandFor handlers held w.nodes w.posts) (monitor : new.monitor ≡ held.monitor) (post : new.post ≡ held.post) (places : new.places ≡ held.places) where
  behind : ArePlaced new → ((n : Name) → same_name name n ≡ true → member_of n new.members.items ≡ option_map (reads reading) (member_of n held.members.items))
      → ((n : Name) → same_name name n ≡ false → member_of n new.members.items ≡ member_of n held.members.items)
      → StandFor handlers new (one_reads (node.Entity name) reading w).nodes (one_reads (node.Entity name) reading w).posts
  behind placed here elsewhere = record {
    monitor = rw monitor k.monitor;
    post = rw (post, stays_other (node.Entity name) node.Monitor reading w.posts refl) k.post;
    members = λ n. by n (same_name name n) refl;
    placed = placed;
    serves = k.serves;
  }
    where
      by : (n : Name) (b : Bool) → same_name name n ≡ b
          → MemberStands (member_of n new.members.items) (post_of (node.Entity n) (one_reads (node.Entity name) reading w).posts) (entity_of n w.nodes)
      by n true e =
          let same : name ≡ n = same_name_is name n e in
          let back : same_node (node.Entity n) (node.Entity name) ≡ true = rw same (same_name_self n) in
          rw (here n e, reads_it (node.Entity name) (node.Entity n) reading w.posts back) (member_behind reading (member_of n held.members.items) (post_of (node.Entity n) w.posts) (entity_of n w.nodes) (k.members n))
      by n false e = rw (elsewhere n e, stays_other (node.Entity name) (node.Entity n) reading w.posts (apart n e)) (k.members n)
        where
          apart : (n : Name) → same_name name n ≡ false → same_name n name ≡ false
          apart n e = turned (same_name n name) refl
            where
              turned : (b : Bool) → same_name n name ≡ b → b ≡ false
              turned true t = let s : n ≡ name = same_name_is n name t in sym (same_name_self n) ∙ ap (λ (x : Name). same_name x n) s ∙ e
              turned false t = refl

  pub member_reads : (place : ℕ) (old next : Member) → IsFirst (λ (m : Member). same_name m.name name) held.members.items place → old ≡ get_or held.members.items place old
      → next ≡ reads reading old → new.members.items ≡ set held.members.items place next
      → StandFor handlers new (one_reads (node.Entity name) reading w).nodes (one_reads (node.Entity name) reading w).posts
  member_reads place old next at read is put =
      let named : next.name ≡ old.name = ap (λ (m : Member). m.name) is in
      let there : member_of name held.members.items ≡ Some old = (found_first (λ (m : Member). same_name m.name name) held.members.items place old at read).0 in
      behind (placed-set held new place old next places read named put k.placed)
      (λ n e.
      let same : name ≡ n = same_name_is name n e in
      let P : Name → Type 0 = λ x. member_of x new.members.items ≡ option_map (reads reading) (member_of x held.members.items) in
      subst P same (rw (put, there) (member_here held.members.items name place old next at read named ∙ ap (λ (m : Member). Some m) is)))
      (λ n e. rw put (member_elsewhere held.members.items name place old next at read named n e))

  pub nobody_reads : member_of name held.members.items ≡ None → new.members.items ≡ held.members.items
      → StandFor handlers new (one_reads (node.Entity name) reading w).nodes (one_reads (node.Entity name) reading w).posts
  nobody_reads none same =
      behind (placed-same held new places same k.placed)
      (λ n e.
      let s : name ≡ n = same_name_is name n e in
      let P : Name → Type 0 = λ x. member_of x new.members.items ≡ option_map (reads reading) (member_of x held.members.items) in
      subst P s (rw (same, none) refl))
      (λ n e. rw same refl)

-- ---- all members, one after another

step : {X : Type 0} (f : X → X) (xs : List X) (i : ℕ) (d : X) → i < length xs
    → set (map f (take i xs) ++ drop i xs) i (f (get_or (map f (take i xs) ++ drop i xs) i d)) ≡ map f (take (suc i) xs) ++ drop (suc i) xs
step f [] i d h = absurd (omega arith)
step f (x ∷ xs) zero d h = refl
step f (x ∷ xs) (suc i) d h = ap (λ rest. f x ∷ rest) (step f xs i d (omega arith))

pub mapped_more : {X : Type 0} (f : X → X) (xs ys : List X) (i : ℕ) (d : X) → ys ≡ map f (take i xs) ++ drop i xs → i < length xs
    → set ys i (f (get_or ys i d)) ≡ map f (take (i + 1) xs) ++ drop (i + 1) xs
mapped_more {X} f xs ys i d e h =
    let n : i + 1 ≡ suc i = omega arith in
    let P : List X → Type 0 = λ zs. set zs i (f (get_or zs i d)) ≡ map f (take (suc i) xs) ++ drop (suc i) xs in
    rw n (subst P (sym e) (step f xs i d h))
