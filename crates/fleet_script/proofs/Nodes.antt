-- The state of the shell and the world agree after each event.
use Rattle.std.proofs.Common.{◌++◌, ◌<◌, ◌==◌, ◌∷◌, ◌≡◌, ◌≢◌}
use Rattle.world_law.specs.declared.events.Event.TheVariants.{Put}
use Rattle.fleet_script.proofs.Prelude.{[], answer_is, answered, ap, arith, Ask, Bool, bytes_eq, cond, Content, Cut, cut, digest_of, EntryMap, eq-eqb, eqb-true, false, get_or, Give, happened, held, held_answered, held_given, held_given_elsewhere, held_past, held_put, held_put_elsewhere, held_with_node, Holds, IsNamed, IsPiece, is_used, IsValid, join, Keeps, length, List, Member, merged, nat_lt, nat_tests, next_ask, next_edit, next_piece, node_named, node_named-push, None, Option, parted, piece_named, piece_stays, PlaceParts, Profile, refl, Replicated, ScriptWorld, set, slice_get, Some, state, state_with_node, subst, suc, sum_of, sym, true, true≢false, used_put, used_with_node, valid_answered, valid_given, valid_put, valid_with_node, valid_with_profile, with_edit, with_node, with_profile, writer_at, zero, ℕ, ◌∙◌}
use Rattle.world_law.specs.Worlds as worlds

-- ---- places

module _ {X : Type 0} where
  pub slice_get_at : (xs : List X) (i : ℕ) (x : X) → i < length xs → x ≡ get_or xs i x → slice_get xs i ≡ Some x
  slice_get_at [] i x lt is = absurd (omega arith)
  slice_get_at (y ∷ ys) zero x lt is = ap Some (sym is)
  slice_get_at (y ∷ ys) (suc i) x lt is = slice_get_at ys i x (omega arith) is

  pub get_or_found : (xs : List X) (i : ℕ) (d : X) → i < length xs → slice_get xs i ≡ Some (get_or xs i d)
  get_or_found [] i d lt = absurd (omega arith)
  get_or_found (y ∷ ys) zero d lt = refl
  get_or_found (y ∷ ys) (suc i) d lt = get_or_found ys i d (omega arith)

  pub set_same : (xs : List X) (i : ℕ) (x : X) → x ≡ get_or xs i x → set xs i x ≡ xs
  set_same [] i x h = refl
  set_same (y ∷ ys) zero x h = ap (λ z. z ∷ ys) h
  set_same (y ∷ ys) (suc i) x h = ap (λ zs. y ∷ zs) (set_same ys i x h)

  slice_get-set_same : (xs : List X) (i : ℕ) (x : X) → i < length xs → slice_get (set xs i x) i ≡ Some x
  slice_get-set_same [] i x lt = absurd (omega arith)
  slice_get-set_same (y ∷ ys) zero x lt = refl
  slice_get-set_same (y ∷ ys) (suc i) x lt = slice_get-set_same ys i x (omega arith)

  slice_get-set_other : (xs : List X) (i k : ℕ) (x : X) → k ≢ i → slice_get (set xs i x) k ≡ slice_get xs k
  slice_get-set_other [] i k x ne = refl
  slice_get-set_other (y ∷ ys) zero zero x ne = absurd (ne refl)
  slice_get-set_other (y ∷ ys) zero (suc k) x ne = refl
  slice_get-set_other (y ∷ ys) (suc i) zero x ne = refl
  slice_get-set_other (y ∷ ys) (suc i) (suc k) x ne = slice_get-set_other ys i k x (λ e. ne (ap suc e))

  slice_get-push_last : (xs : List X) (x : X) → slice_get (xs ++ x ∷ []) (length xs) ≡ Some x
  slice_get-push_last [] x = refl
  slice_get-push_last (y ∷ ys) x = slice_get-push_last ys x

  slice_get-push_first : (xs : List X) (x : X) (k : ℕ) → k < length xs → slice_get (xs ++ x ∷ []) k ≡ slice_get xs k
  slice_get-push_first [] x k lt = absurd (omega arith)
  slice_get-push_first (y ∷ ys) x zero lt = refl
  slice_get-push_first (y ∷ ys) x (suc k) lt = slice_get-push_first ys x k (omega arith)

  slice_get-push_past : (xs : List X) (x : X) (k : ℕ) → length xs < k → slice_get (xs ++ x ∷ []) k ≡ None
  slice_get-push_past [] x zero lt = absurd (omega arith)
  slice_get-push_past [] x (suc k) lt = refl
  slice_get-push_past (y ∷ ys) x zero lt = absurd (omega arith)
  slice_get-push_past (y ∷ ys) x (suc k) lt = slice_get-push_past ys x k (omega arith)

  pub length_set : (xs : List X) (i : ℕ) (x : X) → length (set xs i x) ≡ length xs
  length_set [] i x = refl
  length_set (y ∷ ys) zero x = refl
  length_set (y ∷ ys) (suc i) x = ap suc (length_set ys i x)

  pub get_or_here : (xs : List X) (i : ℕ) (x d : X) → i < length xs → get_or (set xs i x) i d ≡ x
  get_or_here [] i x d lt = absurd (omega arith)
  get_or_here (y ∷ ys) zero x d lt = refl
  get_or_here (y ∷ ys) (suc i) x d lt = get_or_here ys i x d (omega arith)

  pub get_or_there : (xs : List X) (i k : ℕ) (x d : X) → (k ≡ i → ⊥) → get_or (set xs i x) k d ≡ get_or xs k d
  get_or_there [] i k x d ne = refl
  get_or_there (y ∷ ys) zero zero x d ne = absurd (ne refl)
  get_or_there (y ∷ ys) zero (suc k) x d ne = refl
  get_or_there (y ∷ ys) (suc i) zero x d ne = refl
  get_or_there (y ∷ ys) (suc i) (suc k) x d ne = get_or_there ys i k x d (λ e. ne (ap suc e))

  pub get_or_any : (xs : List X) (i : ℕ) (c d : X) → i < length xs → get_or xs i c ≡ get_or xs i d
  get_or_any [] i c d lt = absurd (omega arith)
  get_or_any (y ∷ ys) zero c d lt = refl
  get_or_any (y ∷ ys) (suc i) c d lt = get_or_any ys i c d (omega arith)

  pub get_or_twice : (xs : List X) (k : ℕ) (d : X) → get_or xs k d ≡ get_or xs k (get_or xs k d)
  get_or_twice [] k d = refl
  get_or_twice (y ∷ ys) zero d = refl
  get_or_twice (y ∷ ys) (suc k) d = get_or_twice ys k d

  pub set_twice : (xs : List X) (i : ℕ) (x y : X) → set (set xs i x) i y ≡ set xs i y
  set_twice [] i x y = refl
  set_twice (z ∷ zs) zero x y = refl
  set_twice (z ∷ zs) (suc i) x y = ap (λ ws. z ∷ ws) (set_twice zs i x y)

  pub length_push : (xs : List X) (x : X) → length (xs ++ x ∷ []) ≡ suc (length xs)
  length_push [] x = refl
  length_push (y ∷ ys) x = ap suc (length_push ys x)

  -- what is at a place of a list with one element changed
  slice_get-set : (xs : List X) (i k : ℕ) (x y : X) → i < length xs → slice_get (set xs i x) k ≡ Some y → (P : ℕ → X → Type 0) → P i x → (k ≢ i → slice_get xs k ≡ Some y → P k y) → P k y
  slice_get-set xs i k x y lt is P here there = by (k == i) refl
    where
      same_some : (a b : X) → Some a ≡ Some b → a ≡ b
      same_some a b e = cc

      by : (b : Bool) → (k == i) ≡ b → P k y
      by true e =
          let at : k ≡ i = eqb-true k i e in
          let same : x ≡ y = same_some x y (sym (slice_get-set_same xs i x lt) ∙ ap (slice_get (set xs i x)) (sym at) ∙ is) in
          subst (λ (j : ℕ). P j y) (sym at) (subst (λ (z : X). P i z) same here)
      by false e =
          let apart : k ≢ i = λ at. true≢false (sym (eq-eqb k i at) ∙ e) in
          there apart (sym (slice_get-set_other xs i k x apart) ∙ is)

  -- and of one with one more element
  slice_get-push : (xs : List X) (x y : X) (k : ℕ) → slice_get (xs ++ x ∷ []) k ≡ Some y → (P : ℕ → X → Type 0) → (k < length xs → slice_get xs k ≡ Some y → P k y) → P (length xs) x → P k y
  slice_get-push xs x y k is P before last = by (nat_lt k (length xs)) refl (k == length xs) refl
    where
      same_some : (a b : X) → Some a ≡ Some b → a ≡ b
      same_some a b e = cc

      not_some : None ≡ Some y → ⊥
      not_some e = cc (e)

      by : (b : Bool) → nat_lt k (length xs) ≡ b → (e : Bool) → (k == length xs) ≡ e → P k y
      by true lt e q = let within : k < length xs = grind (arith, nat_tests) in before within (sym (slice_get-push_first xs x k within) ∙ is)
      by false lt true q =
          let at : k ≡ length xs = eqb-true k (length xs) q in
          let same : x ≡ y = same_some x y (sym (slice_get-push_last xs x) ∙ ap (slice_get (xs ++ x ∷ [])) (sym at) ∙ is) in
          subst (λ (j : ℕ). P j y) (sym at) (subst (λ (z : X). P (length xs) z) same last)
      by false lt false q = let past : length xs < k = grind (arith, nat_tests) in absurd (not_some (sym (slice_get-push_past xs x k past) ∙ is))

-- ---- events

-- what the shell has under each name stays, if the world's pieces stay
named_stays : (world next : ScriptWorld) → ((p : ℕ) (piece : worlds.Piece) → slice_get (state world).pieces p ≡ Some piece → slice_get (state next).pieces p ≡ Some piece)
    → (kept : Option EntryMap) (number : Option ℕ) → IsNamed world kept number → IsNamed next kept number
named_stays world next stays None None h = tt
named_stays world next stays None (Some number) h = absurd h
named_stays world next stays (Some entries) None h = absurd h
named_stays world next stays (Some entries) (Some number) h = record { piece = h.piece; there = stays number h.piece h.there; entries_are = h.entries_are }

module _ (shell : Keeps) (world : ScriptWorld) (h : Holds shell world) where
  pub below_count : (i : ℕ) → i < length shell.nodes → i < length world.nodes
  below_count i lt = omega (arith, h.count)

  -- what a node of the shell holds
  pub at_place : (i : ℕ) (d : Replicated) → i < length shell.nodes → (get_or shell.nodes i d).store ≡ held world i
  at_place i d lt = h.stores i (get_or shell.nodes i d) (slice_get_at shell.nodes i (get_or shell.nodes i d) lt (get_or_twice shell.nodes i d))

  -- something happens at one node, and nothing at the others
  holds_at : (next : ScriptWorld) (i : ℕ) (node new : Replicated) → i < length shell.nodes → slice_get shell.nodes i ≡ Some node → new.writer ≡ node.writer
      → next.nodes ≡ world.nodes → next.pieces ≡ world.pieces → next.profile ≡ world.profile → ((writer : ℕ) → is_used next writer ≡ is_used world writer) → IsValid next
      → ((p : ℕ) (piece : worlds.Piece) → slice_get (state world).pieces p ≡ Some piece → slice_get (state next).pieces p ≡ Some piece)
      → new.store ≡ held next i → ((k : ℕ) → k ≢ i → held next k ≡ held world k)
      → Holds (record shell { nodes = set shell.nodes i new }) next
  holds_at next i node new lt at writer same_nodes same_pieces same_profile same_used valid stays store others = record {
    count = length_set shell.nodes i new ∙ h.count ∙ sym (ap (λ (ms : List Member). length ms) same_nodes);
    writers = λ k other is. slice_get-set shell.nodes i k new other lt is (λ j r. writer_at next.nodes j ≡ r.writer)
        (ap (λ (ms : List Member). writer_at ms i) same_nodes ∙ h.writers i node at ∙ sym writer)
        (λ apart there. ap (λ (ms : List Member). writer_at ms k) same_nodes ∙ h.writers k other there);
    stores = λ k other is. slice_get-set shell.nodes i k new other lt is (λ j r. r.store ≡ held next j) store (λ apart there. h.stores k other there ∙ sym (others k apart));
    numbers = λ name. h.numbers name ∙ ap (λ (ms : List Member). node_named ms name) (sym same_nodes);
    taken = λ writer. h.taken writer ∙ sym (same_used writer);
    pieces = λ name. subst (λ (ps : List (List ℕ × ℕ)). IsNamed next (shell.piece_of name) (piece_named ps name)) (sym same_pieces) (named_stays world next stays (shell.piece_of name) (piece_named world.pieces name) (h.pieces name));
    profile = h.profile ∙ sym same_profile;
    valid = valid;
  }

  -- a node puts its next edit
  pub holds_put : (i : ℕ) (place : PlaceParts) (content : Content) (node new : Replicated) → i < length shell.nodes → slice_get shell.nodes i ≡ Some node
      → new.writer ≡ node.writer → new.store ≡ with_edit node.store (next_edit world i place content)
      → Holds (record shell { nodes = set shell.nodes i new }) (happened world (Put i (next_edit world i place content)))
  holds_put i place content node new lt at writer store =
      let edit = next_edit world i place content in
      holds_at (happened world (Put i edit)) i node new lt at writer refl refl refl (used_put world i place content (below_count i lt)) (valid_put world i place content h.valid (below_count i lt))
      (λ p piece there. piece_stays (state world) (Put i edit) p piece there)
      (store ∙ ap (λ (s : EntryMap). with_edit s edit) (h.stores i node at) ∙ sym (held_put world i edit (below_count i lt)))
      (held_put_elsewhere world i edit)

  -- a node is given a piece
  pub holds_send : (p i : ℕ) (node new : Replicated) (piece : worlds.Piece) → i < length shell.nodes → slice_get shell.nodes i ≡ Some node → slice_get (state world).pieces p ≡ Some piece
      → new.writer ≡ node.writer → new.store ≡ join node.store piece.entries → Holds (record shell { nodes = set shell.nodes i new }) (happened world (Give p i))
  holds_send p i node new piece lt at is writer store =
      holds_at (happened world (Give p i)) i node new lt at writer refl refl refl (λ number. refl) (valid_given world p i h.valid (below_count i lt))
      (λ q other there. piece_stays (state world) (Give p i) q other there)
      (store ∙ ap (λ (s : EntryMap). join s piece.entries) (h.stores i node at) ∙ sym (held_given world h.valid p i piece is (below_count i lt)))
      (λ k ne. held_given_elsewhere world p i k ne)

  answered_stays : (from to : ℕ) (places : Option (List PlaceParts)) (p : ℕ) (piece : worlds.Piece) → slice_get (state world).pieces p ≡ Some piece → slice_get (state (answered world from to places)).pieces p ≡ Some piece
  answered_stays from to places p piece there = piece_stays (state (happened world (Ask to))) (Cut from (next_ask world) places) p piece (piece_stays (state world) (Ask to) p piece there)

  -- a node answers another
  pub holds_answered : (j i : ℕ) (places : Option (List PlaceParts)) → j < length shell.nodes → i < length shell.nodes → Holds shell (answered world j i places)
  holds_answered j i places lt_from lt_to = record {
    count = h.count;
    writers = h.writers;
    stores = λ k node at. h.stores k node at ∙ sym (held_answered world j i places k);
    numbers = h.numbers;
    taken = h.taken;
    pieces = λ name. named_stays world (answered world j i places) (answered_stays j i places) (shell.piece_of name) (piece_named world.pieces name) (h.pieces name);
    profile = h.profile;
    valid = valid_answered world j i places h.valid (below_count j lt_from) (below_count i lt_to);
  }

  -- what a node cuts for another is stored under a name
  pub holds_part : (name : List ℕ) (j i : ℕ) (places : Option (List PlaceParts)) (now : Keeps) (piece : EntryMap) → j < length shell.nodes → i < length shell.nodes
      → piece ≡ cut (held world j) (digest_of (held world i)) places
      → now.nodes ≡ shell.nodes → now.number_of ≡ shell.number_of → now.is_taken ≡ shell.is_taken
      → ((other : List ℕ) → now.piece_of other ≡ cond (bytes_eq name other) (Some piece) (shell.piece_of other)) → now.profile ≡ shell.profile
      → Holds now (parted world name j i places)
  holds_part name j i places now piece lt_from lt_to is same_nodes same_numbers same_writers kept same_profile = record {
    count = ap (λ (ns : List Replicated). length ns) same_nodes ∙ h.count;
    writers = λ k node at. h.writers k node (subst (λ (ns : List Replicated). slice_get ns k ≡ Some node) same_nodes at);
    stores = λ k node at. h.stores k node (subst (λ (ns : List Replicated). slice_get ns k ≡ Some node) same_nodes at) ∙ sym (held_answered world j i places k);
    numbers = λ other. ap (λ (f : List ℕ → Option ℕ). f other) same_numbers ∙ h.numbers other;
    taken = λ writer. ap (λ (f : ℕ → Bool). f writer) same_writers ∙ h.taken writer;
    pieces = λ other. subst (λ (o : Option EntryMap). IsNamed next o (piece_named next.pieces other)) (sym (kept other)) (by other (bytes_eq name other));
    profile = same_profile ∙ h.profile;
    valid = valid_parted;
  }
    where
      next : ScriptWorld
      next = parted world name j i places

      valid_parted : IsValid next
      valid_parted =
          let valid = valid_answered world j i places h.valid (below_count j lt_from) (below_count i lt_to) in
          record { within = valid.within; apart = valid.apart; own = valid.own; told = valid.told }

      stays : (p : ℕ) (other : worlds.Piece) → slice_get (state world).pieces p ≡ Some other → slice_get (state next).pieces p ≡ Some other
      stays p other there = piece_stays (state (happened world (Ask i))) (Cut j (next_ask world) places) p other (piece_stays (state world) (Ask i) p other there)

      made : IsPiece next (next_piece world) piece
      made =
          let answer = answer_is (length world.nodes) world.events h.valid.told j i (below_count j lt_from) (below_count i lt_to) places in
          record { piece = answer.0; there = answer.1; entries_are = answer.2 ∙ sym is }

      by : (other : List ℕ) (b : Bool) → IsNamed next (cond b (Some piece) (shell.piece_of other)) (cond b (Some (next_piece world)) (piece_named world.pieces other))
      by other true = made
      by other false = named_stays world next stays (shell.piece_of other) (piece_named world.pieces other) (h.pieces other)

  -- the profile is another
  pub holds_profile : (profile : Profile) → Holds (record shell { profile = profile }) (with_profile world profile)
  holds_profile profile = record {
    count = h.count;
    writers = h.writers;
    stores = h.stores;
    numbers = h.numbers;
    taken = h.taken;
    pieces = λ name. named_stays world (with_profile world profile) (λ p piece there. there) (shell.piece_of name) (piece_named world.pieces name) (h.pieces name);
    profile = refl;
    valid = valid_with_profile world profile h.valid;
  }

  -- a node is made
  pub holds_node : (now : Keeps) (node : Replicated) (name : List ℕ) (writer : ℕ) → shell.number_of name ≡ None → shell.is_taken writer ≡ false → node.writer ≡ writer → node.store ≡ sum_of []
      → now.nodes ≡ shell.nodes ++ node ∷ [] → ((other : List ℕ) → now.number_of other ≡ cond (bytes_eq name other) (Some (length shell.nodes)) (shell.number_of other))
      → ((other : ℕ) → now.is_taken other ≡ cond (writer == other) true (shell.is_taken other)) → now.piece_of ≡ shell.piece_of → now.profile ≡ shell.profile
      → Holds now (with_node world name writer)
  holds_node now node name writer fresh free numbered empty nodes numbers writers same_pieces same_profile = record {
    count = ap (λ (ns : List Replicated). length ns) nodes ∙ length_push shell.nodes node ∙ ap suc h.count ∙ sym (length_push world.nodes m);
    writers = λ k other is. slice_get-push shell.nodes node other k (subst (λ (ns : List Replicated). slice_get ns k ≡ Some other) nodes is) (λ j r. writer_at (world.nodes ++ m ∷ []) j ≡ r.writer)
        (λ lt there. writer_before world.nodes k (below_count k lt) ∙ h.writers k other there)
        (ap (writer_at (world.nodes ++ m ∷ [])) h.count ∙ writer_last world.nodes ∙ sym numbered);
    stores = λ k other is. slice_get-push shell.nodes node other k (subst (λ (ns : List Replicated). slice_get ns k ≡ Some other) nodes is) (λ j r. r.store ≡ held next j)
        (λ lt there. h.stores k other there ∙ sym (held_with_node world name writer h.valid.within k))
        (empty ∙ sym holds_nothing ∙ sym (held_with_node world name writer h.valid.within (length shell.nodes)));
    numbers = λ other. numbers other ∙ (λ i. cond (bytes_eq name other) (Some (h.count i)) (h.numbers other i)) ∙ sym (node_named-push world.nodes m other (sym (h.numbers name) ∙ fresh));
    taken = λ other. writers other ∙ ap (λ b. cond (writer == other) true b) (h.taken other) ∙ sym (used_with_node world name writer other h.valid.within);
    pieces = λ other. subst (λ (f : List ℕ → Option EntryMap). IsNamed next (f other) (piece_named world.pieces other)) (sym same_pieces) (named_stays world next stays (shell.piece_of other) (piece_named world.pieces other) (h.pieces other));
    profile = same_profile ∙ h.profile;
    valid = valid_with_node world name writer h.valid (sym (h.taken writer) ∙ free);
  }
    where
      m : Member
      m = record { name = name; writer = writer }

      next : ScriptWorld
      next = with_node world name writer

      stays : (p : ℕ) (piece : worlds.Piece) → slice_get (state world).pieces p ≡ Some piece → slice_get (state next).pieces p ≡ Some piece
      stays p piece there = ap (λ (w : worlds.EventWorld). slice_get w.pieces p) (state_with_node world name writer h.valid.within) ∙ there

      holds_nothing : held world (length shell.nodes) ≡ sum_of []
      holds_nothing = ap (held world) h.count ∙ held_past world

      writer_before : (nodes : List Member) (k : ℕ) → k < length nodes → writer_at (nodes ++ m ∷ []) k ≡ writer_at nodes k
      writer_before [] k lt = absurd (omega arith)
      writer_before (n ∷ nodes) zero lt = refl
      writer_before (n ∷ nodes) (suc k) lt = writer_before nodes k (omega arith)

      writer_last : (nodes : List Member) → writer_at (nodes ++ m ∷ []) (length nodes) ≡ writer
      writer_last [] = refl
      writer_last (n ∷ nodes) = writer_last nodes

-- a node is given all that it lacks of another
pub holds_merge : (shell : Keeps) (world : ScriptWorld) (h : Holds shell world) (j i : ℕ) (node other new : Replicated) → j < length shell.nodes → i < length shell.nodes → slice_get shell.nodes i ≡ Some node → slice_get shell.nodes j ≡ Some other
    → new.writer ≡ node.writer → new.store ≡ join node.store (cut other.store (digest_of node.store) None) → Holds (record shell { nodes = set shell.nodes i new }) (merged world j i)
holds_merge shell world h j i node other new lt_from lt_to at from writer store =
    let made = answer_is (length world.nodes) world.events h.valid.told j i (below_count shell world h j lt_from) (below_count shell world h i lt_to) None in
    let entries : cut other.store (digest_of node.store) None ≡ made.0.entries = (λ n. cut (h.stores j other from n) (digest_of (h.stores i node at n)) None) ∙ sym made.2 in
    holds_send shell (answered world j i None) (holds_answered shell world h j i None lt_from lt_to) (next_piece world) i node new made.0 lt_to at made.1 writer (store ∙ ap (join node.store) entries)
