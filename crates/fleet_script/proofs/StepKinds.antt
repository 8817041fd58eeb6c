-- Properties of steps: each has one outcome, leaves one world, keeps the world valid, raises counters by at most one,
-- and finds them spent only if they are. One lemma for each word of the meaning.
use Rattle.std.proofs.Common.{◌∷◌, ◌++◌, ◌+◌, ◌-◌, ◌<◌, ◌==◌, ◌||◌, ◌≡◌, ◌≤◌, ◌⊎◌}
use Rattle.fleet_script.proofs.Prelude.{[], answered, ap, arith, Ask, AtNode, AtPiece, AtPlace, AtPlaces, BadLink, BadText, Bool, Cat, changed_line, changed_places, codes, Command, Component, cond, Content, Crowd, crowds_are_rendered_once, crowds_spend_nothing, cut, Depth, digest_of, Directory, Does, Edit, entries_line, EntryMap, Err, false, Files, files_are_rendered_once, files_spend_nothing, FileTooLarge, Gives, happened, has_writer, has_writer-push, held, high_of, honest_put, HostName, if_any, inl, inr, is_file, is_spent, is_target, is_used, IsAmong, IsHonest, IsPutUpTo, IsRead, IsValid, IsWorkerCount, length, LineRefusal, Link, List, map, MatchBool, MatchOption, MatchResult, Member, Merge, merged, merged_all, named_within, next_ask, next_edit, next_piece, Node, node_named, NodeTaken, None, Nothing, NoWorkerCount, numbers_from, Ok, ok_line, Option, Outcome, Part, parted, piece_named, place_of, PlaceFault, PlaceParts, places_of, Put, put_next, put_same, puts, puts_merged_all, puts_with_node, form_of, question_by, questions_are_rendered_once, questions_spend_nothing, Reads, refl, Refuses, RefusesPlace, Remove, RendersCrowd, RendersFiles, RendersInquiry, RendersPlaces, RendersText, Result, Same, ScriptWorld, Send, Some, spells_one, state, subst, suc, Sweep, swept, sym, Text, texts_are_rendered_once, texts_spend_nothing, took, took_stays, took_with_node, true, true≢false, UnknownNode, used_put, used_with_node, UnknownPiece, valid_answered, valid_given, valid_merged, valid_put, valid_with_node, valid_with_profile, VersionsSpent, visible_at, with_node, with_profile, WithFile, WithTarget, WithText, Workers, WriterTaken, Writes, zero, ℕ, ◌∙◌}
use Rattle.fleet_script.proofs.Between.{merged_all-append, merged_nodes}
use Rattle.std.specs.FinMap as finmap
use Rattle.std.specs.List.{list_any}
use Rattle.load_places.specs.declared.places.PlaceFault.TheVariants as place
use Rattle.edit_sums.specs.declared.contents.Content.TheVariants as content
use Rattle.world_law.specs.declared.events.Event.TheVariants as event
use Rattle.script_commands.specs.declared.commands.Command.TheVariants as command

-- a writer number is used exactly where a node has it
abbrev pub HaveNumbers : ScriptWorld → Type 0
HaveNumbers world = (writer : ℕ) → is_used world writer ≡ has_writer world.nodes writer

-- a valid world is followed by a valid one, each version still belongs to one edit if each did, the greatest counter that was
-- put grows by at most one, and each node has what it took
pub record Follows (old new : ScriptWorld) : Type 0 where
  pub valid : IsValid old → IsValid new
  pub honest : IsValid old → IsHonest (puts old) → IsHonest (puts new)
  pub counted : (n : ℕ) → IsValid old → IsPutUpTo n old → IsPutUpTo (suc n) new
  pub grows : IsValid old → (k : ℕ) (e : Edit) → IsAmong e (took (state old) k) → IsAmong e (took (state new) k)
  pub numbers : IsValid old → HaveNumbers old → HaveNumbers new

-- no node holds the greatest counter
abbrev pub HasCounters : ScriptWorld → Type 0
HasCounters world = (k : ℕ) → (high_of (held world k) == 18446744073709551615) ≡ false

-- a step from a world has one outcome and leaves one world, which follows, and counters are spent only if the greatest
-- is held
pub record IsStep (old : ScriptWorld) (S : Outcome → ScriptWorld → Type 0) : Type 0 where
  pub one : (a b : Outcome) (x y : ScriptWorld) → S a x → S b y → (a ≡ b) × (x ≡ y)
  pub follows : (outcome : Outcome) (new : ScriptWorld) → S outcome new → Follows old new
  pub unspent : HasCounters old → (outcome : Outcome) (new : ScriptWorld) → S outcome new → is_spent outcome ≡ false

-- ---- what the world's own words need

-- merges between nodes that exist
valid_merges : (f : ℕ → ℕ × ℕ) (n first count : ℕ) (world : ScriptWorld) → length world.nodes ≡ n → ((k : ℕ) → 0 < k → k < n → ((f k).0 < n) × ((f k).1 < n)) → 0 < first → ((k : ℕ) → first ≤ k → k < first + count → k < n)
    → IsValid world → IsValid (merged_all world (map f (numbers_from first count)))
valid_merges f n first zero world same there least within valid = valid
valid_merges f n first (suc count) world same there least within valid =
    let here = within first (omega arith) (omega arith) in
    let pair = there first least here in
    let from = pair.0 in
    let to = pair.1 in
    valid_merges f n (suc first) count (merged world (f first).0 (f first).1) same there (omega arith) (λ k low high. within k (omega arith) (omega arith))
    (valid_merged world (f first).0 (f first).1 valid (omega arith) (omega arith))

pub valid_swept : (world : ScriptWorld) → IsValid world → IsValid (swept world)
valid_swept world valid =
    let n = length world.nodes in
    let into : List (ℕ × ℕ) = map (λ k. (k, 0)) (numbers_from 1 (n - 1)) in
    let out_of : List (ℕ × ℕ) = map (λ k. (0, k)) (numbers_from 1 (n - 1)) in
    subst (λ (w : ScriptWorld). IsValid w) (sym (merged_all-append world into out_of))
    (valid_merges (λ k. (0, k)) n 1 (n - 1) (merged_all world into) (ap (λ (ms : List Member). length ms) (merged_nodes world into)) (λ k low high. (omega arith, high)) (omega arith) (λ k low high. omega arith)
    (valid_merges (λ k. (k, 0)) n 1 (n - 1) world refl (λ k low high. (high, omega arith)) (omega arith) (λ k low high. omega arith) valid))

-- a node has what it took before others asked, cut and gave
answered_takes : (world : ScriptWorld) (from to : ℕ) (places : Option (List PlaceParts)) (k : ℕ) (e : Edit) → IsAmong e (took (state world) k) → IsAmong e (took (state (answered world from to places)) k)
answered_takes world from to places k e a =
    took_stays (state (happened world (event.Ask to))) (event.Cut from (next_ask world) places) k e (took_stays (state world) (event.Ask to) k e a)

merged_takes : (world : ScriptWorld) (from to k : ℕ) (e : Edit) → IsAmong e (took (state world) k) → IsAmong e (took (state (merged world from to)) k)
merged_takes world from to k e a =
    took_stays (state (answered world from to None)) (event.Give (next_piece world) to) k e (answered_takes world from to None k e a)

merged_all_take : (world : ScriptWorld) (pairs : List (ℕ × ℕ)) (k : ℕ) (e : Edit) → IsAmong e (took (state world) k) → IsAmong e (took (state (merged_all world pairs)) k)
merged_all_take world [] k e a = a
merged_all_take world (pair ∷ pairs) k e a = merged_all_take (merged world pair.0 pair.1) pairs k e (merged_takes world pair.0 pair.1 k e a)

-- ---- one lemma for each word

module _ (old : ScriptWorld) where
  -- no more edits are put
  puts_nothing : (new : ScriptWorld) → (IsValid old → IsValid new) → new.nodes ≡ old.nodes → puts new ≡ puts old → ((k : ℕ) (e : Edit) → IsAmong e (took (state old) k) → IsAmong e (took (state new) k)) → Follows old new
  puts_nothing new valid nodes same grows = record {
    valid = valid;
    honest = λ l honest. subst (λ (es : List Edit). IsHonest es) (sym same) honest;
    counted = λ n l up. put_same n old new same up;
    grows = λ l. grows;
    numbers = λ l have writer.
        (λ j. has_writer (nodes j) writer || list_any (λ (e : Edit). e.version.writer == writer) (same j)) ∙ have writer ∙ ap (λ (ms : List Member). has_writer ms writer) (sym nodes);
  }

  pub stays : (new : ScriptWorld) → new ≡ old → Follows old new
  stays new same = subst (λ (w : ScriptWorld). Follows old w) (sym same) (puts_nothing old (λ l. l) refl refl (λ k e a. a))

  pub gives : (words : List ℕ) (world : ScriptWorld) → Follows old world → IsStep old (λ outcome new. Gives words world outcome new)
  gives words world follows = record {
    one = λ a b x y p q. (p.outcome_is ∙ sym q.outcome_is, p.world_is ∙ sym q.world_is);
    follows = λ outcome new g. subst (λ (w : ScriptWorld). Follows old w) (sym g.world_is) follows;
    unspent = λ free outcome new g. ap is_spent g.outcome_is;
  }

  pub refused_once : (refusal : LineRefusal) (a b : Outcome) (x y : ScriptWorld) → Refuses old refusal a x → Refuses old refusal b y → (a ≡ b) × (x ≡ y)
  refused_once refusal a b x y p q = (p.outcome_is ∙ sym q.outcome_is, p.world_is ∙ sym q.world_is)

  refuses : (refusal : LineRefusal) → is_spent (Err refusal) ≡ false → IsStep old (λ outcome new. Refuses old refusal outcome new)
  refuses refusal other = record {
    one = refused_once refusal;
    follows = λ outcome new r. stays new r.world_is;
    unspent = λ free outcome new r. ap is_spent r.outcome_is ∙ other;
  }

  -- the one refusal because counters are spent
  spends : (k : ℕ) → (high_of (held old k) == 18446744073709551615) ≡ true → IsStep old (λ outcome new. Refuses old VersionsSpent outcome new)
  spends k spent = record {
    one = refused_once VersionsSpent;
    follows = λ outcome new r. stays new r.world_is;
    unspent = λ free outcome new r. absurd (true≢false (sym spent ∙ free k));
  }

  never : IsStep old (λ outcome new. ⊥)
  never = record { one = λ a b x y p q. absurd p; follows = λ outcome new p. absurd p; unspent = λ free outcome new p. absurd p }

  with_bool : (t : Bool) (P Q : Outcome → ScriptWorld → Type 0) → (t ≡ true → IsStep old P) → (t ≡ false → IsStep old Q) → IsStep old (λ outcome new. MatchBool t (P outcome new) (Q outcome new))
  with_bool true P Q p q = p refl
  with_bool false P Q p q = q refl

  with_option : {X : Type 0} (o : Option X) (P : Outcome → ScriptWorld → Type 0) (Q : X → Outcome → ScriptWorld → Type 0) → (o ≡ None → IsStep old P) → ((v : X) → o ≡ Some v → IsStep old (Q v))
      → IsStep old (λ outcome new. MatchOption o (P outcome new) (λ v. Q v outcome new))
  with_option None P Q p q = p refl
  with_option (Some v) P Q p q = q v refl

  with_result : {X E : Type 0} (r : Result X E) (P : X → Outcome → ScriptWorld → Type 0) (Q : E → Outcome → ScriptWorld → Type 0) → ((v : X) → IsStep old (P v)) → ((e : E) → IsStep old (Q e))
      → IsStep old (λ outcome new. MatchResult r (λ v. P v outcome new) (λ e. Q e outcome new))
  with_result (Ok v) P Q p q = p v
  with_result (Err e) P Q p q = q e

  at_node : (name : List ℕ) (P : ℕ → Outcome → ScriptWorld → Type 0) → ((k : ℕ) → k < length old.nodes → IsStep old (P k)) → IsStep old (λ outcome new. AtNode old outcome new name (λ k. P k outcome new))
  at_node name P f = with_option (node_named old.nodes name) (λ outcome new. Refuses old UnknownNode outcome new) P (λ none. refuses UnknownNode refl) (λ k is. f k (named_within old.nodes name k is))

  at_piece : (name : List ℕ) (P : ℕ → Outcome → ScriptWorld → Type 0) → ((p : ℕ) → IsStep old (P p)) → IsStep old (λ outcome new. AtPiece old outcome new name (λ p. P p outcome new))
  at_piece name P f = with_option (piece_named old.pieces name) (λ outcome new. Refuses old UnknownPiece outcome new) P (λ none. refuses UnknownPiece refl) (λ p is. f p)

  refuses_place : (fault : PlaceFault) → IsStep old (λ outcome new. RefusesPlace old outcome new fault)
  refuses_place place.HostName = refuses HostName refl
  refuses_place place.Directory = refuses Directory refl
  refuses_place place.Depth = refuses Depth refl
  refuses_place place.Component = refuses Component refl
  refuses_place place.Memory = never

  at_written : (text : List ℕ) (P : PlaceParts → Outcome → ScriptWorld → Type 0) → ((at : PlaceParts) → IsStep old (P at)) → IsStep old (λ outcome new. AtPlace old outcome new text (λ at. P at outcome new))
  at_written text P f = with_result (place_of text) P (λ fault outcome new. RefusesPlace old outcome new fault) f refuses_place

  at_all_written : (texts : List (List ℕ)) (P : List PlaceParts → Outcome → ScriptWorld → Type 0) → ((places : List PlaceParts) → IsStep old (P places)) → IsStep old (λ outcome new. AtPlaces old outcome new texts (λ places. P places outcome new))
  at_all_written texts P f = with_result (places_of texts) P (λ fault outcome new. RefusesPlace old outcome new fault) f refuses_place

  with_text : (text : List ℕ) (P : List ℕ → Outcome → ScriptWorld → Type 0) → ((bytes : List ℕ) → IsStep old (P bytes)) → IsStep old (λ outcome new. WithText old outcome new text (λ bytes. P bytes outcome new))
  with_text text P f = record { one = one; follows = follows; unspent = unspent }
    where
      W : Outcome → ScriptWorld → Type 0
      W outcome new = WithText old outcome new text (λ bytes. P bytes outcome new)

      one : (a b : Outcome) (x y : ScriptWorld) → W a x → W b y → (a ≡ b) × (x ≡ y)
      one a b x y (inl p) (inl q) = (f q.0).one a b x y (subst (λ bytes. P bytes a x) (spells_one text p.0 q.0 p.1 q.1) p.2) q.2
      one a b x y (inl p) (inr q) = absurd (q.0 p.0 p.1)
      one a b x y (inr p) (inl q) = absurd (p.0 q.0 q.1)
      one a b x y (inr p) (inr q) = refused_once BadText a b x y p.1 q.1

      follows : (outcome : Outcome) (new : ScriptWorld) → W outcome new → Follows old new
      follows outcome new (inl p) = (f p.0).follows outcome new p.2
      follows outcome new (inr p) = stays new p.1.world_is

      unspent : HasCounters old → (outcome : Outcome) (new : ScriptWorld) → W outcome new → is_spent outcome ≡ false
      unspent free outcome new (inl p) = (f p.0).unspent free outcome new p.2
      unspent free outcome new (inr p) = ap is_spent p.1.outcome_is

  writes : (k : ℕ) (at : PlaceParts) (c : Content) → k < length old.nodes → IsStep old (λ outcome new. Writes old outcome new k at c)
  writes k at c lt =
      let edit = next_edit old k at c in
      with_bool (high_of (held old k) == 18446744073709551615) (λ outcome new. Refuses old VersionsSpent outcome new) (λ outcome new. Gives (ok_line edit.version) (happened old (event.Put k edit)) outcome new)
      (λ spent. spends k spent)
      (λ free. gives (ok_line edit.version) (happened old (event.Put k edit)) (record {
        valid = λ l. valid_put old k at c l lt;
        honest = λ l. honest_put old k at c l lt;
        counted = λ n l up. put_next n old k at c l lt up;
        grows = λ l j e. took_stays (state old) (event.Put k edit) j e;
        numbers = λ l have writer. used_put old k at c lt writer ∙ have writer;
      }))

  with_file : (bytes : List ℕ) (P : Content → Outcome → ScriptWorld → Type 0) → IsStep old (P (content.File bytes)) → IsStep old (λ outcome new. WithFile old outcome new bytes (λ c. P c outcome new))
  with_file bytes P f = with_bool (is_file bytes) (P (content.File bytes)) (λ outcome new. Refuses old FileTooLarge outcome new) (λ is. f) (λ no. refuses FileTooLarge refl)

  with_target : (target : List ℕ) (P : Content → Outcome → ScriptWorld → Type 0) → IsStep old (P (content.Link target)) → IsStep old (λ outcome new. WithTarget old outcome new target (λ c. P c outcome new))
  with_target target P f = with_bool (is_target target) (P (content.Link target)) (λ outcome new. Refuses old BadLink outcome new) (λ is. f) (λ no. refuses BadLink refl)

  -- a command that only reads has one outcome, if its answer is determined by the store
  reads : (node : List ℕ) (Renders : EntryMap → Outcome → Type 0) → ((s : EntryMap) (a b : Outcome) → Renders s a → Renders s b → a ≡ b) → ((s : EntryMap) (outcome : Outcome) → Renders s outcome → is_spent outcome ≡ false)
      → IsStep old (λ outcome new. Reads old outcome new node Renders)
  reads node Renders once unspent = at_node node (λ k outcome new. IsRead (Renders (held old k)) old outcome new) (λ k lt. record {
    one = λ a b x y p q. (once (held old k) a b p.rendered q.rendered, p.world_is ∙ sym q.world_is);
    follows = λ outcome new r. stays new r.world_is;
    unspent = λ free outcome new r. unspent (held old k) outcome r.rendered;
  })

  -- one step if a fact holds, and another if it doesn't
  where_holds : (P : Type 0) (S T : Outcome → ScriptWorld → Type 0) → IsStep old S → IsStep old T
      → IsStep old (λ outcome new. (P × S outcome new) ⊎ ((P → ⊥) × T outcome new))
  where_holds P S T here apart = record { one = one; follows = follows; unspent = unspent }
    where
      C : Outcome → ScriptWorld → Type 0
      C outcome new = (P × S outcome new) ⊎ ((P → ⊥) × T outcome new)

      one : (a b : Outcome) (x y : ScriptWorld) → C a x → C b y → (a ≡ b) × (x ≡ y)
      one a b x y (inl p) (inl q) = here.one a b x y p.1 q.1
      one a b x y (inl p) (inr q) = absurd (q.0 p.0)
      one a b x y (inr p) (inl q) = absurd (p.0 q.0)
      one a b x y (inr p) (inr q) = apart.one a b x y p.1 q.1

      follows : (outcome : Outcome) (new : ScriptWorld) → C outcome new → Follows old new
      follows outcome new (inl p) = here.follows outcome new p.1
      follows outcome new (inr p) = apart.follows outcome new p.1

      unspent : HasCounters old → (outcome : Outcome) (new : ScriptWorld) → C outcome new → is_spent outcome ≡ false
      unspent free outcome new (inl p) = here.unspent free outcome new p.1
      unspent free outcome new (inr p) = apart.unspent free outcome new p.1

  compares : (P : Type 0) (alike apart : List ℕ) → IsStep old (λ outcome new. (P × Gives alike old outcome new) ⊎ ((P → ⊥) × Gives apart old outcome new))
  compares P alike apart =
      where_holds P (λ outcome new. Gives alike old outcome new) (λ outcome new. Gives apart old outcome new)
      (gives alike old (stays old refl)) (gives apart old (stays old refl))

  -- an answer if a fact holds, and a refusal if it doesn't
  gives_or_refuses : (P : Type 0) (words : List ℕ) (refusal : LineRefusal) → is_spent (Err refusal) ≡ false → IsStep old (λ outcome new. (P × Gives words old outcome new) ⊎ ((P → ⊥) × Refuses old refusal outcome new))
  gives_or_refuses P words refusal other =
      where_holds P (λ outcome new. Gives words old outcome new) (λ outcome new. Refuses old refusal outcome new)
      (gives words old (stays old refl)) (refuses refusal other)

  -- ---- one recursion over the commands

  pub does : (command : Command) → IsStep old (λ outcome new. Does old command outcome new)
  does (Node name writer) =
      with_option (node_named old.nodes name)
      (λ outcome new. MatchBool (is_used old writer) (Refuses old WriterTaken outcome new) (Gives (codes "ok\n") (with_node old name writer) outcome new))
      (λ k outcome new. Refuses old NodeTaken outcome new)
      (λ none. with_bool (is_used old writer) (λ outcome new. Refuses old WriterTaken outcome new) (λ outcome new. Gives (codes "ok\n") (with_node old name writer) outcome new)
      (λ taken. refuses WriterTaken refl) (λ free. gives (codes "ok\n") (with_node old name writer) (record {
        valid = λ l. valid_with_node old name writer l free;
        honest = λ l honest. subst (λ (es : List Edit). IsHonest es) (sym (puts_with_node old name writer l.within)) honest;
        counted = λ n l up. put_same n old (with_node old name writer) (puts_with_node old name writer l.within) up;
        grows = λ l k e. subst (λ (es : List Edit). IsAmong e es) (sym (took_with_node old name writer l.within k));
        numbers = λ l have number. used_with_node old name writer number l.within ∙ ap (λ b. cond (writer == number) true b) (have number) ∙ sym (has_writer-push old.nodes (record { name = name; writer = writer }) number);
      })))
      (λ k is. refuses NodeTaken refl)
  does (Put node text file) =
      at_node node (λ k outcome new. AtPlace old outcome new text (λ at. WithText old outcome new file (λ bytes. WithFile old outcome new bytes (Writes old outcome new k at))))
      (λ k lt. at_written text (λ at outcome new. WithText old outcome new file (λ bytes. WithFile old outcome new bytes (Writes old outcome new k at)))
      (λ at. with_text file (λ bytes outcome new. WithFile old outcome new bytes (Writes old outcome new k at))
      (λ bytes. with_file bytes (λ c outcome new. Writes old outcome new k at c) (writes k at (content.File bytes) lt))))
  does (Link node text target) =
      at_node node (λ k outcome new. AtPlace old outcome new text (λ at. WithTarget old outcome new target (Writes old outcome new k at)))
      (λ k lt. at_written text (λ at outcome new. WithTarget old outcome new target (Writes old outcome new k at))
      (λ at. with_target target (λ c outcome new. Writes old outcome new k at c) (writes k at (content.Link target) lt)))
  does (Remove node text) =
      at_node node (λ k outcome new. AtPlace old outcome new text (λ at. MatchOption (visible_at (held old k) at) (Refuses old Nothing outcome new) (λ shown. Writes old outcome new k at content.Gone)))
      (λ k lt. at_written text (λ at outcome new. MatchOption (visible_at (held old k) at) (Refuses old Nothing outcome new) (λ shown. Writes old outcome new k at content.Gone))
      (λ at. with_option (visible_at (held old k) at) (λ outcome new. Refuses old Nothing outcome new) (λ shown outcome new. Writes old outcome new k at content.Gone)
      (λ none. refuses Nothing refl) (λ shown is. writes k at content.Gone lt)))
  does (Merge from to) =
      let G : ℕ → ℕ → Outcome → ScriptWorld → Type 0 = λ j k outcome new. Gives (changed_line (changed_places (held old k) (held (merged old j k) k))) (merged old j k) outcome new in
      at_node from (λ j outcome new. AtNode old outcome new to (λ k. G j k outcome new))
      (λ j lt_from. at_node to (G j) (λ k lt_to. gives (changed_line (changed_places (held old k) (held (merged old j k) k))) (merged old j k) (puts_nothing (merged old j k) (λ l. valid_merged old j k l lt_from lt_to) refl refl (merged_takes old j k))))
  does (Part piece from to texts) =
      let words : ℕ → ℕ → List PlaceParts → List ℕ = λ j k places. entries_line (length (finmap.entries (cut (held old j) (digest_of (held old k)) (if_any places)))) in
      let G : ℕ → ℕ → List PlaceParts → Outcome → ScriptWorld → Type 0 = λ j k places outcome new. Gives (words j k places) (parted old piece j k (if_any places)) outcome new in
      at_node from (λ j outcome new. AtNode old outcome new to (λ k. AtPlaces old outcome new texts (λ places. G j k places outcome new)))
      (λ j lt_from. at_node to (λ k outcome new. AtPlaces old outcome new texts (λ places. G j k places outcome new))
      (λ k lt_to. at_all_written texts (G j k) (λ places. gives (words j k places) (parted old piece j k (if_any places)) (puts_nothing (parted old piece j k (if_any places)) (λ l. valid_parted piece j k places l lt_from lt_to) refl refl (answered_takes old j k (if_any places))))))
    where
      valid_parted : (name : List ℕ) (j k : ℕ) (places : List PlaceParts) → IsValid old → j < length old.nodes → k < length old.nodes → IsValid (parted old name j k (if_any places))
      valid_parted name j k places valid lt_from lt_to =
          let l = valid_answered old j k (if_any places) valid lt_from lt_to in
          record { within = l.within; apart = l.apart; own = l.own; told = l.told }
  does (Send piece node) =
      let G : ℕ → ℕ → Outcome → ScriptWorld → Type 0 = λ p k outcome new. Gives (changed_line (changed_places (held old k) (held (happened old (event.Give p k)) k))) (happened old (event.Give p k)) outcome new in
      at_piece piece (λ p outcome new. AtNode old outcome new node (λ k. G p k outcome new))
      (λ p. at_node node (G p) (λ k lt. gives (changed_line (changed_places (held old k) (held (happened old (event.Give p k)) k))) (happened old (event.Give p k)) (puts_nothing (happened old (event.Give p k)) (λ l. valid_given old p k l lt) refl refl (λ j e. took_stays (state old) (event.Give p k) j e))))
  does Sweep =
      let others = numbers_from 1 (length old.nodes - 1) in
      gives (codes "ok\n") (swept old) (puts_nothing (swept old) (valid_swept old) (merged_nodes old (map (λ k. (k, 0)) others ++ map (λ k. (0, k)) others)) (puts_merged_all old (map (λ k. (k, 0)) others ++ map (λ k. (0, k)) others))
      (merged_all_take old (map (λ k. (k, 0)) others ++ map (λ k. (0, k)) others)))
  does (Files node) = reads node RendersPlaces (λ s a b p q. p ∙ sym q) (λ s outcome p. ap is_spent p)
  does (Text node text) = reads node (RendersText text) (texts_are_rendered_once text) (texts_spend_nothing text)
  does (Cat node host unit) = reads node (RendersFiles host unit) (files_are_rendered_once host unit) (files_spend_nothing host unit)
  does (Ask node host inquiry) = reads node (RendersInquiry old.profile host inquiry) (questions_are_rendered_once (form_of inquiry) (question_by old.profile inquiry) host) (questions_spend_nothing (form_of inquiry) (question_by old.profile inquiry) host)
  does (Workers count) = gives_or_refuses (IsWorkerCount count) (codes "ok\n") NoWorkerCount refl
  does (command.Profile profile) = gives (codes "ok\n") (with_profile old profile) (puts_nothing (with_profile old profile) (valid_with_profile old profile) refl refl (λ k e a. a))
  does (Same left right) =
      let C : ℕ → ℕ → Outcome → ScriptWorld → Type 0 = λ j k outcome new. ((held old j ≡ held old k) × Gives (codes "same\n") old outcome new) ⊎ ((held old j ≡ held old k → ⊥) × Gives (codes "differ\n") old outcome new) in
      at_node left (λ j outcome new. AtNode old outcome new right (λ k. C j k outcome new))
      (λ j lt_left. at_node right (C j) (λ k lt_right. compares (held old j ≡ held old k) (codes "same\n") (codes "differ\n")))
  does (Crowd node seats edits) = reads node (RendersCrowd seats edits) (crowds_are_rendered_once seats edits) (crowds_spend_nothing seats edits)
