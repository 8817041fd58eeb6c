-- Commands between nodes: from the shell's state to the outcome.
use Rattle.std.proofs.Common.{◌++◌, ◌+◌, ◌<◌, ◌==◌, ◌∷◌, ◌≡◌}
use Rattle.fleet_script.proofs.Prelude.{[], ap, AreToldApart, arith, AtNode, bytes_eq, changed_line, changed_places, cond, Continues, count_by, cut, digest_of, Edit, edit_of, edits_of, entries_line, Entry, entry_cmp_total, entry_of, EntryMap, eqb-true, Err, false, get_from_edits_of, get_or, Give, Gives, Global, Goes, happened, held, Holds, if_any, IfOk, inl, inr, is_eq, is_other, IsAmong, IsAmong-append_cases, IsGivenAt, IsNamed, IsPiece, join, given_of, join_idem, Keeps, length, List, map, MatchOption, merged, merged_all, nil_from_length, None, not, Ok, OnOk, Option, parted, piece_named, PlaceParts, refl, Refuses, Replicated, Result, ScriptWorld, Sends, SendsTo, set, set-get_or, Some, subst, sum_by-cons, sym, tied_itself, true, UnknownNode, UnknownPiece, Vec, VersionMap, whole_answer, ℕ, ◌∙◌}
use Rattle.fleet_script.proofs.Nodes.{at_place, get_or_any, get_or_here, get_or_twice, holds_merge, holds_part, holds_send, length_set, slice_get_at}
use Rattle.std.specs.FinMap as finmap

-- ---- merging two nodes

-- a store that holds each of these entries holds nothing else at their places
none_other : (s : EntryMap) (es : List (PlaceParts × Entry)) → ((e : Edit) → IsAmong e (map edit_of es) → finmap.get s e.place ≡ Some (entry_of e)) → count_by (λ p. is_other (finmap.get s p.0) p.1) es ≡ 0
none_other s [] held = refl
none_other s (p ∷ ps) held =
    let same : is_other (finmap.get s p.0) p.1 ≡ false = ap (λ y. is_other y p.1) (held (edit_of p) (inl refl)) ∙ ap (λ r. not (is_eq r)) (tied_itself entry_cmp_total p.1) in
    sum_by-cons _ p ps ∙ (λ i. cond (same i) 1 0 + none_other s ps (λ e a. held e (inr a)) i)

pub none_changed : (s : EntryMap) → 0 ≡ changed_places s s
none_changed s = sym (none_other s (finmap.entries s) (λ e a. get_from_edits_of e s a))

-- a store tells its own entries apart, one for each place
own_apart : (s : EntryMap) → AreToldApart (edits_of s ++ edits_of s)
own_apart s e f a b same version =
    let one : (g : Edit) → IsAmong g (edits_of s ++ edits_of s) → finmap.get s g.place ≡ Some (entry_of g) = λ g among.
    elim (IsAmong-append_cases g (edits_of s) (edits_of s) among) as (λ c. finmap.get s g.place ≡ Some (entry_of g)) [ inl h ↦ get_from_edits_of g s h | inr h ↦ get_from_edits_of g s h ]
    in
    let entries : Some (entry_of e) ≡ Some (entry_of f) = sym (one e a) ∙ ap (finmap.get s) same ∙ one f b in
    same_edit e f same entries
  where
    same_edit : (e f : Edit) → e.place ≡ f.place → Some (entry_of e) ≡ Some (entry_of f) → e ≡ f
    same_edit e f place entries = λ i. record { place = place i; version = (version_is i).version; content = (version_is i).content }
      where
        version_is : entry_of e ≡ entry_of f
        version_is = cc (entries)

-- a node lacks nothing of itself
pub given_itself : (shell : Keeps) (from to : ℕ) → from ≡ to → IsGivenAt shell from to shell
given_itself shell from to same d =
    let node = get_or shell.nodes to d in
    let store : join node.store (cut node.store (digest_of node.store) None) ≡ node.store = whole_answer node.store node.store (own_apart node.store) ∙ join_idem node.store in
    let whole : given_of node (get_or shell.nodes from d) ≡ node =
    (λ i. given_of node (get_or shell.nodes (same i) d)) ∙ (λ i. record node { store = store i })
    in
    λ i. record shell { nodes = sym (ap (set shell.nodes to) whole ∙ set-get_or shell.nodes to d) i }

module _ (nodes : List Replicated) (from to : ℕ) (lt_from : from < length nodes) (lt_to : to < length nodes) (here there : Replicated) (is_here : here ≡ get_or nodes to here) (is_there : there ≡ get_or nodes from there) where
  -- a node's answer is joined into another
  pub given_at : (piece : EntryMap) (given : Replicated) (E : Type 0) (outcome : Result ℕ E)
      → piece ≡ cut there.store (digest_of here.store) None
      → OnOk outcome (given ≡ record here { store = join here.store piece })
      → OnOk outcome ((d : Replicated) → set nodes to given ≡ set nodes to (given_of (get_or nodes to d) (get_or nodes from d)))
  given_at piece given E (Err e) is ok = tt
  given_at piece given E (Ok n) is ok = λ d.
      let mine : here ≡ get_or nodes to d = is_here ∙ get_or_any nodes to here d lt_to in
      let other : there ≡ get_or nodes from d = is_there ∙ get_or_any nodes from there d lt_from in
      let whole : given ≡ given_of here there = ok ∙ ap (λ (p : EntryMap). record here { store = join here.store p }) is in
      ap (set nodes to) (whole ∙ (λ i. given_of (mine i) (other i)))

-- the places that change are counted
pub count_changed : (nodes : List Replicated) (to : ℕ) (here given : Replicated) {E : Type 0} (outcome : Result ℕ E) → to < length nodes → here ≡ get_or nodes to here
    → IfOk outcome (λ n. n ≡ changed_places here.store given.store)
    → IfOk outcome (λ n. (d : Replicated) → n ≡ changed_places (get_or nodes to d).store (get_or (set nodes to given) to d).store)
count_changed nodes to here given (Err e) lt is h = tt
count_changed nodes to here given (Ok n) lt is h = λ d.
    h ∙ ap (λ (x : Replicated). changed_places x.store given.store) (is ∙ get_or_any nodes to here d lt)
    ∙ ap (λ (x : Replicated). changed_places (get_or nodes to d).store x.store) (sym (get_or_here nodes to given d lt))

-- and nothing else changes
pub given_in : (shell : Keeps) (from to : ℕ) (now : List Replicated) {E : Type 0} (outcome : Result ℕ E)
    → OnOk outcome ((d : Replicated) → now ≡ set shell.nodes to (given_of (get_or shell.nodes to d) (get_or shell.nodes from d)))
    → OnOk outcome (IsGivenAt shell from to (record shell { nodes = now }))
given_in shell from to now (Err e) is = tt
given_in shell from to now (Ok n) is = λ d i. record shell { nodes = is d i }

module _ (shell now : Keeps) (j i : ℕ) (d : Replicated) (lt_from : j < length shell.nodes) (lt_to : i < length shell.nodes) (given : IsGivenAt shell j i now) where
  pub merge_goes : Continues shell now (λ old new. new ≡ merged old j i)
  merge_goes world h =
      let node = get_or shell.nodes i d in
      let other = get_or shell.nodes j d in
      let at = slice_get_at shell.nodes i node lt_to (get_or_twice shell.nodes i d) in
      let there = slice_get_at shell.nodes j other lt_from (get_or_twice shell.nodes j d) in (
        merged world j i,
        subst (λ (s : Keeps). Holds s (merged world j i)) (sym (given d)) (holds_merge shell world h j i node other (given_of node other) lt_from lt_to at there refl refl),
        refl,
      )

  pub same_count : length now.nodes ≡ length shell.nodes
  same_count = ap (λ (s : Keeps). length s.nodes) (given d) ∙ length_set shell.nodes i _

  -- the places that change are counted
  pub merge_counted : (changed : ℕ) (text : Vec ℕ Global) → ((c : Replicated) → changed ≡ changed_places (get_or shell.nodes i c).store (get_or now.nodes i c).store) → text.items ≡ changed_line changed
      → Goes shell now (λ old outcome new. Gives (changed_line (changed_places (held old i) (held (merged old j i) i))) (merged old j i) outcome new) (Ok text)
  merge_counted changed text counted e world h =
      let next = merge_goes world h in
      let within : i < length now.nodes = omega (arith, same_count) in
      let after : (get_or now.nodes i d).store ≡ held (merged world j i) i = at_place now next.0 next.1 i d within ∙ ap (λ (w : ScriptWorld). held w i) next.2 in
      let count : changed ≡ changed_places (held world i) (held (merged world j i) i) = counted d ∙ (λ n. changed_places (at_place shell world h i d lt_to n) (after n)) in
      (next.0, next.1, record { outcome_is = ap Ok (e ∙ ap changed_line count); world_is = next.2 })

-- ---- part

pub parts : (shell now : Keeps) (piece : List ℕ) (j i : ℕ) (d : Replicated) (places : List PlaceParts) (entries : EntryMap) (text : Vec ℕ Global) → j < length shell.nodes → i < length shell.nodes
    → ((c : Replicated) → entries ≡ cut (get_or shell.nodes j c).store (digest_of (get_or shell.nodes i c).store) (if_any places))
    → now.nodes ≡ shell.nodes → now.number_of ≡ shell.number_of → now.is_taken ≡ shell.is_taken
    → ((other : List ℕ) → now.piece_of other ≡ cond (bytes_eq piece other) (Some entries) (shell.piece_of other)) → now.profile ≡ shell.profile
    → text.items ≡ entries_line (length (finmap.entries entries))
    → Goes shell now (λ old outcome new. Gives (entries_line (length (finmap.entries (cut (held old j) (digest_of (held old i)) (if_any places))))) (parted old piece j i (if_any places)) outcome new) (Ok text)
parts shell now piece j i d places entries text lt_from lt_to is nodes numbers writers kept profile e world h =
    let cut_is : entries ≡ cut (held world j) (digest_of (held world i)) (if_any places) =
    is d ∙ (λ n. cut (at_place shell world h j d lt_from n) (digest_of (at_place shell world h i d lt_to n)) (if_any places)) in (
      parted world piece j i (if_any places),
      holds_part shell world h piece j i (if_any places) now entries lt_from lt_to cut_is nodes numbers writers kept profile,
      record { outcome_is = ap Ok (e ∙ ap (λ (s : EntryMap). entries_line (length (finmap.entries s))) cut_is); world_is = refl },
    )

-- what is cut for the ask of a node, at all places
pub cut_at_all : (nodes : List Replicated) (from to : ℕ) (places : List PlaceParts) (here there : Replicated) (asked : VersionMap) (piece : EntryMap) → from < length nodes → to < length nodes → here ≡ get_or nodes from here → there ≡ get_or nodes to there
    → asked ≡ digest_of there.store → true ≡ (length places == 0) → piece ≡ cut here.store asked None
    → (d : Replicated) → piece ≡ cut (get_or nodes from d).store (digest_of (get_or nodes to d).store) (if_any places)
cut_at_all nodes from to places here there asked piece lt_from lt_to is_here is_there is_asked none is d =
    let one : here ≡ get_or nodes from d = is_here ∙ get_or_any nodes from here d lt_from in
    let other : there ≡ get_or nodes to d = is_there ∙ get_or_any nodes to there d lt_to in
    let nothing : [] ≡ places = sym (nil_from_length places (eqb-true (length places) 0 (sym none))) in
    is ∙ (λ n. cut (one n).store ((is_asked ∙ ap (λ (k : Replicated). digest_of k.store) other) n) (if_any (nothing n)))

-- ---- send

sends : (shell : Keeps) (i : ℕ) (node new : Replicated) (entries : EntryMap) (changed : ℕ) (text : Vec ℕ Global) → i < length shell.nodes → node ≡ get_or shell.nodes i node
    → new ≡ record node { store = join node.store entries } → changed ≡ changed_places node.store new.store → text.items ≡ changed_line changed
    → (world : ScriptWorld) → Holds shell world → (number : ℕ) → IsPiece world number entries
    → (next : ScriptWorld) × Holds (record shell { nodes = set shell.nodes i new }) next × Gives (changed_line (changed_places (held world i) (held (happened world (Give number i)) i))) (happened world (Give number i)) (Ok text.items) next
sends shell i node new entries changed text lt here joined counted e world h number is =
    let at = slice_get_at shell.nodes i node lt here in
    let next = happened world (Give number i) in
    let store : new.store ≡ join node.store is.piece.entries = ap (λ (r : Replicated). r.store) joined ∙ ap (join node.store) (sym is.entries_are) in
    let holds = holds_send shell world h number i node new is.piece lt at is.there (ap (λ (r : Replicated). r.writer) joined) store in
    let after : new.store ≡ held next i = holds.stores i new (slice_get_at (set shell.nodes i new) i new (omega (arith, length_set shell.nodes i new)) (sym (get_or_here shell.nodes i new new lt))) in
    let count : changed ≡ changed_places (held world i) (held next i) = counted ∙ (λ n. changed_places (h.stores i node at n) (after n)) in
    (next, holds, record { outcome_is = ap Ok (e ∙ ap changed_line count); world_is = refl })

-- a piece is given to a node
pub given : (shell : Keeps) (piece name : List ℕ) (i : ℕ) (node new : Replicated) (entries : EntryMap) (changed : ℕ) (text : Vec ℕ Global) → shell.piece_of piece ≡ Some entries → shell.number_of name ≡ Some i → i < length shell.nodes → node ≡ get_or shell.nodes i node
    → new ≡ record node { store = join node.store entries } → changed ≡ changed_places node.store new.store → text.items ≡ changed_line changed
    → Goes shell (record shell { nodes = set shell.nodes i new }) (λ old outcome after. Sends old outcome after piece name) (Ok text)
given shell piece name i node new entries changed text kept some lt here joined counted e world h =
    by (piece_named world.pieces piece) refl (subst (λ (o : Option EntryMap). IsNamed world o (piece_named world.pieces piece)) kept (h.pieces piece))
  where
    by : (o : Option ℕ) → piece_named world.pieces piece ≡ o → IsNamed world (Some entries) o → (next : ScriptWorld) × Holds (record shell { nodes = set shell.nodes i new }) next × Sends world (Ok text.items) next piece name
    by None is named = absurd named
    by (Some number) is named =
        let sent = sends shell i node new entries changed text lt here joined counted e world h number named in (
          sent.0,
          sent.1,
          subst (λ (o : Option ℕ). MatchOption o (Refuses world UnknownPiece (Ok text.items) sent.0) (λ p. AtNode world (Ok text.items) sent.0 name (λ k. SendsTo world (Ok text.items) sent.0 p k))) (sym is)
              (subst (λ (o : Option ℕ). MatchOption o (Refuses world UnknownNode (Ok text.items) sent.0) (λ k. SendsTo world (Ok text.items) sent.0 number k)) (sym some ∙ h.numbers name) sent.2),
        )

-- ---- merges one after another

pub merged_all-append : (world : ScriptWorld) (xs ys : List (ℕ × ℕ)) → merged_all world (xs ++ ys) ≡ merged_all (merged_all world xs) ys
merged_all-append world [] ys = refl
merged_all-append world (x ∷ xs) ys = merged_all-append (merged world x.0 x.1) xs ys

pub merged_nodes : (world : ScriptWorld) (xs : List (ℕ × ℕ)) → (merged_all world xs).nodes ≡ world.nodes
merged_nodes world [] = refl
merged_nodes world (x ∷ xs) = merged_nodes (merged world x.0 x.1) xs

-- some node
pub any_node : Replicated
any_node = record { store = finmap.empty; writer = 0 }
