-- Worlds of scripts: what nodes hold after each event, that edits are told apart by their versions, and which writer numbers
-- are used.
use Rattle.std.proofs.Common.{◌++◌, ◌+◌, ◌<◌, ◌==◌, ◌||◌, ◌∷◌, ◌≡◌, ◌≢◌, ◌≤◌, ◌⊎◌}
use Rattle.script_worlds.specs.Prelude.{[], ap, AreToldApart, AreWithin, arith, Ask, Bool, cond, Content, counter_among, Cut, Edit, edit_of, edits_of, entry_of, EntryMap, eq-eqb, eqb-true, Event, false, Give, get_from_edits_of, given_is_joined, happens, high_among, high_among-least, high_of, high_of-sum_of, inl, inr, IsAmong, IsAmong-append_cases, IsAmong-append_left, IsAmong-append_right, IsHonest, join, length, List, list_any, map, merge_is_joined, node_count, None, one_node_more, Option, PlaceParts, Profile, Put, puts_of, puts_of-one_more, puts_of-Put, refl, slice_get, slice_get_past, Some, subst, suc, sum_of, sum_of-edits_of, sum_of-push, sum_of-same_edits, sym, took, took-Ask, took-Cut, took-Give_elsewhere, took-Put, took-Put_elsewhere, took-with_new_node, took_by, took_stays, true, true≢false, with_edit, with_new_node, within_more, world_of, zero, ℕ, ◌∙◌}
use Rattle.script_worlds.specs.{NodeLaws.{has_writer-push}, Validity.{is_used, IsValid, puts}, Worlds.{answered, begun, blank, happened, has_writer, held, Member, merged, next_ask, next_edit, next_piece, ScriptWorld, state, with_node, with_profile, writer_at}}
use Rattle.world_law.specs.Worlds as worlds
use Rattle.std.specs.FinMap as finmap

-- What nodes hold after an event.

module _ (world : ScriptWorld) where
  pub held_put : (i : ℕ) (e : Edit) → i < length world.nodes → held (happened world (Put i e)) i ≡ with_edit (held world i) e
  held_put i e lt = ap sum_of (took-Put (state world) i e (omega (arith, node_count (length world.nodes) world.events))) ∙ sum_of-push (took (state world) i) e

  pub held_put_elsewhere : (i : ℕ) (e : Edit) (k : ℕ) → k ≢ i → held (happened world (Put i e)) k ≡ held world k
  held_put_elsewhere i e k ne = ap sum_of (took-Put_elsewhere (state world) i e k ne)

  pub held_ask : (i k : ℕ) → held (happened world (Ask i)) k ≡ held world k
  held_ask i k = ap sum_of (took-Ask (state world) i k)

  pub held_answered : (from to : ℕ) (places : Option (List PlaceParts)) (k : ℕ) → held (answered world from to places) k ≡ held world k
  held_answered from to places k = ap sum_of (took-Cut (happens (state world) (Ask to)) from (next_ask world) places k) ∙ held_ask to k

  pub held_given_elsewhere : (p k l : ℕ) → l ≢ k → held (happened world (Give p k)) l ≡ held world l
  held_given_elsewhere p k l ne = ap sum_of (took-Give_elsewhere (state world) p k l ne)

  -- an index after the last node holds nothing
  pub held_past : held world (length world.nodes) ≡ sum_of []
  held_past = ap (λ (o : Option worlds.Node). sum_of (took_by o)) (slice_get_past (state world).nodes (length world.nodes) (omega (arith, node_count (length world.nodes) world.events)))

  module _ (valid : IsValid world) where
    pub held_given : (p k : ℕ) (piece : worlds.Piece) → slice_get (state world).pieces p ≡ Some piece
        → k < length world.nodes → held (happened world (Give p k)) k ≡ join (held world k) piece.entries
    held_given p k piece is lt = given_is_joined (length world.nodes) world.events valid.told p k piece is lt

    pub held_merged : (from to : ℕ) → from < length world.nodes → to < length world.nodes
        → held (merged world from to) to ≡ join (held world to) (held world from)
    held_merged from to lt_from lt_to = merge_is_joined (length world.nodes) world.events valid.told from to lt_from lt_to

pub held_merged_elsewhere : (world : ScriptWorld) (from to k : ℕ) → k ≢ to → held (merged world from to) k ≡ held world k
held_merged_elsewhere world from to k ne = held_given_elsewhere (answered world from to None) (next_piece world) to k ne ∙ held_answered world from to None k

-- Valid worlds.

high_grows : (xs ys : List Edit) → ((e : Edit) → IsAmong e xs → IsAmong e ys) → high_of (sum_of xs) ≤ high_of (sum_of ys)
high_grows xs ys within =
    let up : high_among xs ≤ high_among ys = high_among-least xs (high_among ys) (λ e a. counter_among e ys (within e a)) in
    omega (arith, high_of-sum_of xs, high_of-sum_of ys)

-- after an event a node holds no smaller counter
high_stays : (world : ScriptWorld) (event : Event) (k : ℕ) → high_of (held world k) ≤ high_of (held (happened world event) k)
high_stays world event k = high_grows (took (state world) k) (took (state (happened world event)) k) (λ f a. took_stays (state world) event k f a)

-- no edit is put
pub valid_quiet : (world : ScriptWorld) (event : Event) → IsValid world
    → AreWithin (length world.nodes) (event ∷ world.events) → puts (happened world event) ≡ puts world
    → IsValid (happened world event)
valid_quiet world event valid within same = record {
  within = within;
  apart = valid.apart;
  own = λ e a k lt mine.
      let most = valid.own e (subst (λ (es : List Edit). IsAmong e es) same a) k lt mine in
      omega (arith, high_stays world event k);
  told = λ e f a b. valid.told e f (subst (λ (es : List Edit). IsAmong e es) same a) (subst (λ (es : List Edit). IsAmong f es) same b);
}

-- a node puts its next edit
module _ (world : ScriptWorld) (i : ℕ) (place : PlaceParts) (content : Content) (valid : IsValid world) (lt : i < length world.nodes) where
  abbrev next : Edit
  next = next_edit world i place content

  more : puts (happened world (Put i next)) ≡ next ∷ puts world
  more = puts_of-Put (length world.nodes) world.events i next lt

  -- no earlier edit has the new version
  fresh : (f : Edit) → IsAmong f (puts world) → next.version ≡ f.version → ⊥
  fresh f a same =
      let most = valid.own f a i lt (sym (ap (λ (v : _). v.writer) same)) in
      let counter : high_of (held world i) + 1 ≡ f.version.counter = ap (λ (v : _). v.counter) same in
      omega arith

  -- if each earlier version belongs to one edit, or to one at each place, each version still does
  pub honest_put : IsHonest (puts world) → IsHonest (puts (happened world (Put i next)))
  honest_put honest e f a b same = by e f (subst (λ (es : List Edit). IsAmong e es) more a) (subst (λ (es : List Edit). IsAmong f es) more b) same
    where
      by : (f g : Edit) → IsAmong f (next ∷ puts world) → IsAmong g (next ∷ puts world) → f.version ≡ g.version → f ≡ g
      by f g (inl a) (inl b) same = sym a ∙ b
      by f g (inl a) (inr b) same = absurd (fresh g b (ap (λ (h : Edit). h.version) a ∙ same))
      by f g (inr a) (inl b) same = absurd (fresh f a (ap (λ (h : Edit). h.version) b ∙ sym same))
      by f g (inr a) (inr b) same = honest f g a b same

  told_put : AreToldApart (puts (happened world (Put i next)))
  told_put e f a b here same = by e f (subst (λ (es : List Edit). IsAmong e es) more a) (subst (λ (es : List Edit). IsAmong f es) more b) here same
    where
      by : (f g : Edit) → IsAmong f (next ∷ puts world) → IsAmong g (next ∷ puts world) → f.place ≡ g.place → f.version ≡ g.version → f ≡ g
      by f g (inl a) (inl b) here same = sym a ∙ b
      by f g (inl a) (inr b) here same = absurd (fresh g b (ap (λ (h : Edit). h.version) a ∙ same))
      by f g (inr a) (inl b) here same = absurd (fresh f a (ap (λ (h : Edit). h.version) b ∙ sym same))
      by f g (inr a) (inr b) here same = valid.told f g a b here same

  own_put : (f : Edit) → IsAmong f (next ∷ puts world) → (k : ℕ) → k < length world.nodes
      → f.version.writer ≡ writer_at world.nodes k → f.version.counter ≤ high_of (held (happened world (Put i next)) k)
  own_put f (inl same) k lt_k mine =
      let one : i ≡ k = valid.apart i k lt lt_k (ap (λ (e : Edit). e.version.writer) same ∙ mine) in
      let took_it : IsAmong next (took (state (happened world (Put i next))) i) =
      subst (λ (es : List Edit). IsAmong next es) (sym (took-Put (state world) i next (omega (arith, node_count (length world.nodes) world.events)))) (IsAmong-append_right next (took (state world) i) (next ∷ []) (inl refl)) in
      let most = counter_among next (took (state (happened world (Put i next))) i) took_it in
      let high = high_of-sum_of (took (state (happened world (Put i next))) i) in
      let there : next.version.counter ≤ high_of (held (happened world (Put i next)) i) = omega arith in
      subst (λ (e : Edit). e.version.counter ≤ high_of (held (happened world (Put i next)) k)) same (subst (λ (j : ℕ). next.version.counter ≤ high_of (held (happened world (Put i next)) j)) one there)
  own_put f (inr a) k lt_k mine =
      let most = valid.own f a k lt_k mine in
      omega (arith, high_stays world (Put i next) k)

  pub valid_put : IsValid (happened world (Put i next))
  valid_put = record {
    within = (lt, valid.within);
    apart = valid.apart;
    own = λ f a. own_put f (subst (λ (es : List Edit). IsAmong f es) more a);
    told = told_put;
  }

pub valid_answered : (world : ScriptWorld) (from to : ℕ) (places : Option (List PlaceParts)) → IsValid world
    → from < length world.nodes → to < length world.nodes → IsValid (answered world from to places)
valid_answered world from to places valid lt_from lt_to =
    valid_quiet (happened world (Ask to)) (Cut from (next_ask world) places) (valid_quiet world (Ask to) valid (lt_to, valid.within) refl) (lt_from, (lt_to, valid.within)) refl

pub valid_given : (world : ScriptWorld) (p k : ℕ) → IsValid world → k < length world.nodes → IsValid (happened world (Give p k))
valid_given world p k valid lt = valid_quiet world (Give p k) valid (lt, valid.within) refl

pub valid_merged : (world : ScriptWorld) (from to : ℕ) → IsValid world → from < length world.nodes
    → to < length world.nodes → IsValid (merged world from to)
valid_merged world from to valid lt_from lt_to = valid_given (answered world from to None) (next_piece world) to (valid_answered world from to None valid lt_from lt_to) lt_to

-- the profile is none of the nodes'
pub valid_with_profile : (world : ScriptWorld) (profile : Profile) → IsValid world → IsValid (with_profile world profile)
valid_with_profile world profile valid = record {
  within = valid.within;
  apart = valid.apart;
  own = valid.own;
  told = valid.told;
}

pub valid_blank : IsValid blank
valid_blank = record { within = tt; apart = λ j k lt _ _. absurd (omega arith); own = λ e a k lt mine. absurd a; told = λ e f a b here same. absurd a }

-- One more node.

length_push : {X : Type 0} (xs : List X) (x : X) → length (xs ++ x ∷ []) ≡ suc (length xs)
length_push [] x = refl
length_push (y ∷ xs) x = ap suc (length_push xs x)

module _ (world : ScriptWorld) (name : List ℕ) (writer : ℕ) where
  count_is : length (with_node world name writer).nodes ≡ suc (length world.nodes)
  count_is = length_push world.nodes (record { name = name; writer = writer })

  pub state_with_node : AreWithin (length world.nodes) world.events → state (with_node world name writer) ≡ with_new_node (state world)
  state_with_node within = ap (λ n. world_of n world.events) count_is ∙ one_node_more (length world.nodes) world.events within

  pub took_with_node : AreWithin (length world.nodes) world.events → (k : ℕ)
      → took (state (with_node world name writer)) k ≡ took (state world) k
  took_with_node within k = ap (λ (w : worlds.EventWorld). took w k) (state_with_node within) ∙ took-with_new_node (state world) k

  pub held_with_node : AreWithin (length world.nodes) world.events → (k : ℕ) → held (with_node world name writer) k ≡ held world k
  held_with_node within k = ap sum_of (took_with_node within k)

  pub puts_with_node : AreWithin (length world.nodes) world.events → puts (with_node world name writer) ≡ puts world
  puts_with_node within = ap (λ n. puts_of n world.events) count_is ∙ puts_of-one_more (length world.nodes) world.events within

-- the writer numbers with one more
writer_before : (nodes : List Member) (m : Member) (k : ℕ) → k < length nodes → writer_at (nodes ++ m ∷ []) k ≡ writer_at nodes k
writer_before [] m k lt = absurd (omega arith)
writer_before (n ∷ nodes) m zero lt = refl
writer_before (n ∷ nodes) m (suc k) lt = writer_before nodes m k (omega arith)

writer_last : (nodes : List Member) (m : Member) → writer_at (nodes ++ m ∷ []) (length nodes) ≡ m.writer
writer_last [] m = refl
writer_last (n ∷ nodes) m = writer_last nodes m

or_false : (a b : Bool) → (a || b) ≡ false → (a ≡ false) × (b ≡ false)
or_false true b e = cc (e)
or_false false b e = (refl, e)

not_taken : (nodes : List Member) (writer k : ℕ) → has_writer nodes writer ≡ false → k < length nodes → writer_at nodes k ≡ writer → ⊥
not_taken [] writer k free lt same = absurd (omega arith)
not_taken (n ∷ nodes) writer zero free lt same = true≢false (sym (eq-eqb n.writer writer same) ∙ (or_false (n.writer == writer) (has_writer nodes writer) free).0)
not_taken (n ∷ nodes) writer (suc k) free lt same = not_taken nodes writer k (or_false (n.writer == writer) (has_writer nodes writer) free).1 (omega arith) same

not_written : (es : List Edit) (writer : ℕ) (e : Edit) → list_any (λ e. e.version.writer == writer) es ≡ false
    → IsAmong e es → e.version.writer ≡ writer → ⊥
not_written [] writer e free a same = a
not_written (f ∷ es) writer e free (inl is) same = true≢false (sym (eq-eqb f.version.writer writer (ap (λ (g : Edit). g.version.writer) is ∙ same)) ∙ (or_false (f.version.writer == writer) (list_any (λ e. e.version.writer == writer) es) free).0)
not_written (f ∷ es) writer e free (inr a) same = not_written es writer e (or_false (f.version.writer == writer) (list_any (λ e. e.version.writer == writer) es) free).1 a same

pub valid_with_node : (world : ScriptWorld) (name : List ℕ) (writer : ℕ) → IsValid world → is_used world writer ≡ false
    → IsValid (with_node world name writer)
valid_with_node world name writer valid unused = record {
  within = subst (λ n. AreWithin n world.events) (sym (count_is world name writer)) (within_more (length world.nodes) world.events valid.within);
  apart = λ j k lt_j lt_k same. apart j k (omega (arith, count_is world name writer)) (omega (arith, count_is world name writer)) same;
  own = λ e a k lt mine. owned e (subst (λ (es : List Edit). IsAmong e es) puts_are a) k (last_or_before k (omega (arith, count_is world name writer))) mine;
  told = λ e f a b. valid.told e f (subst (λ (es : List Edit). IsAmong e es) puts_are a) (subst (λ (es : List Edit). IsAmong f es) puts_are b);
}
  where
    m : Member
    m = record { name = name; writer = writer }

    free : has_writer world.nodes writer ≡ false
    free = (or_false (has_writer world.nodes writer) (list_any (λ e. e.version.writer == writer) (puts world)) unused).0

    puts_are : puts (with_node world name writer) ≡ puts world
    puts_are = puts_with_node world name writer valid.within

    owned : (e : Edit) → IsAmong e (puts world) → (k : ℕ) → (k < length world.nodes) ⊎ (k ≡ length world.nodes)
        → e.version.writer ≡ writer_at (world.nodes ++ m ∷ []) k
        → e.version.counter ≤ high_of (held (with_node world name writer) k)
    owned e a k (inl lt) mine =
        subst (λ (s : EntryMap). e.version.counter ≤ high_of s) (sym (held_with_node world name writer valid.within k))
        (valid.own e a k lt (mine ∙ writer_before world.nodes m k lt))
    owned e a k (inr last) mine =
        absurd (not_written (puts world) writer e (or_false (has_writer world.nodes writer) (list_any (λ e. e.version.writer == writer) (puts world)) unused).1 a (mine ∙ ap (writer_at (world.nodes ++ m ∷ [])) last ∙ writer_last world.nodes m))

    last_or_before : (k : ℕ) → k < suc (length world.nodes) → (k < length world.nodes) ⊎ (k ≡ length world.nodes)
    last_or_before k lt = by (k == length world.nodes) refl
      where
        by : (b : Bool) → (k == length world.nodes) ≡ b → (k < length world.nodes) ⊎ (k ≡ length world.nodes)
        by true e = inr (eqb-true k (length world.nodes) e)
        by false e = inl (let ne : k ≢ length world.nodes = λ same. true≢false (sym (eq-eqb k (length world.nodes) same) ∙ e) in omega arith)

    apart : (j k : ℕ) → j < suc (length world.nodes) → k < suc (length world.nodes)
        → writer_at (world.nodes ++ m ∷ []) j ≡ writer_at (world.nodes ++ m ∷ []) k → j ≡ k
    apart j k lt_j lt_k same = by (last_or_before j lt_j) (last_or_before k lt_k)
      where
        by : (j < length world.nodes) ⊎ (j ≡ length world.nodes) → (k < length world.nodes) ⊎ (k ≡ length world.nodes) → j ≡ k
        by (inl a) (inl b) = valid.apart j k a b (sym (writer_before world.nodes m j a) ∙ same ∙ writer_before world.nodes m k b)
        by (inl a) (inr b) = absurd (not_taken world.nodes writer j free a (sym (writer_before world.nodes m j a) ∙ same ∙ ap (writer_at (world.nodes ++ m ∷ [])) b ∙ writer_last world.nodes m))
        by (inr a) (inl b) = absurd (not_taken world.nodes writer k free b (sym (writer_before world.nodes m k b) ∙ sym same ∙ ap (writer_at (world.nodes ++ m ∷ [])) a ∙ writer_last world.nodes m))
        by (inr a) (inr b) = a ∙ sym b

-- Writer numbers that are used.

module _ (world : ScriptWorld) where
  -- an edit of a node's own uses no other number
  pub used_put : (i : ℕ) (place : PlaceParts) (content : Content) → i < length world.nodes → (writer : ℕ)
      → is_used (happened world (Put i (next_edit world i place content))) writer ≡ is_used world writer
  used_put i place content lt writer =
      let e = next_edit world i place content in
      ap (λ (es : List Edit). has_writer world.nodes writer || list_any (λ e. e.version.writer == writer) es) (puts_of-Put (length world.nodes) world.events i e lt)
      ∙ by (has_writer world.nodes writer) (writer_at world.nodes i == writer) refl refl
    where
      by : (t mine : Bool) → has_writer world.nodes writer ≡ t → (writer_at world.nodes i == writer) ≡ mine
          → (t || (mine || list_any (λ e. e.version.writer == writer) (puts world)))
          ≡ (t || list_any (λ e. e.version.writer == writer) (puts world))
      by true mine taken is = refl
      by false true taken is = absurd (not_taken world.nodes writer i taken lt (eqb-true (writer_at world.nodes i) writer is))
      by false false taken is = refl

  pub used_with_node : (name : List ℕ) (number writer : ℕ) → AreWithin (length world.nodes) world.events
      → is_used (with_node world name number) writer ≡ cond (number == writer) true (is_used world writer)
  used_with_node name number writer within =
      let m : Member = record { name = name; writer = number } in
      (λ j. has_writer-push world.nodes m writer j || list_any (λ e. e.version.writer == writer) (puts_with_node world name number within j))
      ∙ by (number == writer) (has_writer world.nodes writer) (list_any (λ e. e.version.writer == writer) (puts world))
    where
      by : (a b c : Bool) → (cond a true b || c) ≡ cond a true (b || c)
      by true b c = refl
      by false b c = refl

-- A world that begins with a store.

put_by_one : (es : List Edit) → puts_of 1 (map (λ e. Put 0 e) es) ≡ es
put_by_one [] = refl
put_by_one (e ∷ es) = ap (λ v. e ∷ v) (put_by_one es)

within_one : (es : List Edit) → AreWithin 1 (map (λ e. Put 0 e) es)
within_one [] = tt
within_one (e ∷ es) = (omega arith, within_one es)

took_by_one : (es : List Edit) (e : Edit) → IsAmong e (took (world_of 1 (map (λ e. Put 0 e) es)) 0) → IsAmong e es
took_by_one [] e a = absurd a
took_by_one (f ∷ es) e a =
    elim (IsAmong-append_cases e (took (world_of 1 (map (λ e. Put 0 e) es)) 0) (f ∷ []) (subst (λ (xs : List Edit). IsAmong e xs) (took-Put (world_of 1 (map (λ e. Put 0 e) es)) 0 f (omega (arith, node_count 1 (map (λ e. Put 0 e) es)))) a)) [
      | inl earlier ↦ inr (took_by_one es e earlier)
      | inr (inl is) ↦ inl is
      | inr (inr none) ↦ absurd none
    ]

one_took : (es : List Edit) (e : Edit) → IsAmong e es → IsAmong e (took (world_of 1 (map (λ e. Put 0 e) es)) 0)
one_took [] e a = absurd a
one_took (f ∷ es) e a =
    subst (λ (xs : List Edit). IsAmong e xs) (sym (took-Put (world_of 1 (map (λ e. Put 0 e) es)) 0 f (omega (arith, node_count 1 (map (λ e. Put 0 e) es)))))
    (elim a [
      | inl is ↦ IsAmong-append_right e (took (world_of 1 (map (λ e. Put 0 e) es)) 0) (f ∷ []) (inl is)
      | inr later ↦ IsAmong-append_left e (took (world_of 1 (map (λ e. Put 0 e) es)) 0) (f ∷ []) (one_took es e later)
    ])

module _ (name : List ℕ) (writer : ℕ) (s : EntryMap) where
  pub puts_begun : puts (begun name writer s) ≡ edits_of s
  puts_begun = put_by_one (edits_of s)

  -- the node holds the store
  pub held_begun : held (begun name writer s) 0 ≡ s
  held_begun = sum_of-same_edits (took (state (begun name writer s)) 0) (edits_of s) (took_by_one (edits_of s)) (one_took (edits_of s)) ∙ sum_of-edits_of s

  told_by_a_store : AreToldApart (edits_of s)
  told_by_a_store e f a b here same =
      let one : Some (entry_of e) ≡ Some (entry_of f) = sym (get_from_edits_of e s a) ∙ ap (λ (q : PlaceParts). finmap.get s q) here ∙ get_from_edits_of f s b in
      let entry : entry_of e ≡ entry_of f = cc in
      (λ j. edit_of (here j, entry j))

  pub valid_begun : IsValid (begun name writer s)
  valid_begun = record {
    within = within_one (edits_of s);
    apart = λ j k lt_j lt_k same. omega arith;
    own = λ e a k lt mine.
        let most = counter_among e (took (state (begun name writer s)) 0) (one_took (edits_of s) e (subst (λ (es : List Edit). IsAmong e es) puts_begun a)) in
        let first : k ≡ 0 = omega arith in
        let high = high_of-sum_of (took (state (begun name writer s)) 0) in
        let there : e.version.counter ≤ high_of (held (begun name writer s) 0) = omega arith in
        subst (λ (j : ℕ). e.version.counter ≤ high_of (held (begun name writer s) j)) (sym first) there;
    told = subst (λ (es : List Edit). AreToldApart es) (sym puts_begun) told_by_a_store;
  }

  pub used_begun : (number : ℕ) → is_used (begun name writer s) number
      ≡ cond (writer == number) true (list_any (λ e. e.version.writer == number) (edits_of s))
  used_begun number = ap (λ (es : List Edit). (writer == number || false) || list_any (λ e. e.version.writer == number) es) puts_begun ∙ by (writer == number) (list_any (λ e. e.version.writer == number) (edits_of s))
    where
      by : (a b : Bool) → ((a || false) || b) ≡ cond a true b
      by true b = refl
      by false b = refl
