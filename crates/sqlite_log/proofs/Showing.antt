-- What the queries show.
use Rattle.std.proofs.Common.{◌≡◌, ℕ, List, [], ◌∷◌, map, refl, sym, ap, subst, subst₂, ◌∙◌, arith}
use Rattle.std.specs.List.{flat_map}
use Rattle.std.specs.Prelude.{IsPermutation}
use Rattle.std.proofs.lemmas.List.Sorted.{IsPermutation-map}
use Rattle.sqlite.specs.declared.types.Value.TheVariants.{Null}
use Rattle.sqlite.specs.Order.{Row, column}
use Rattle.sqlite.specs.Query.{Query, IsAnswer, output, Output}
use Rattle.sqlite.specs.Program.{overlay}
use Rattle.sqlite.specs.Effect.{Database}
use Rattle.sqlite.specs.Listing.{understood}
use Rattle.sqlite.specs.State.{State, HasCleanDisk, IsUnchanged, Shown, Survives, CommitsShowing}
use Rattle.sqlite.proofs.Callers.{IsPlain, never_commits, reads_as}
use Rattle.sqlite.proofs.StateLemmas.{survives_weaker}
use Rattle.sqlite_log.specs.Cells.{cells_in, cells_shown, head_in, head_shown, peer_in, peer_shown}
use Rattle.sqlite_log.specs.States.{heads_in, heads_of, IsLog, log_in, log_of, peers_in, peers_of}
use Rattle.sqlite_log.specs.Tables.{log_schema}
use Rattle.sqlite_log.proofs.Statements.{edits_is, edits_plain, edits_query, edits_text, heads_is, heads_plain, heads_query, heads_text, peers_is, peers_plain, peers_query, peers_text}

abbrev shown_edit : Row → Row
shown_edit r = column r 2 ∷ column r 3 ∷ column r 4 ∷ column r 5 ∷ column r 6 ∷ column r 7 ∷ []

-- the three columns of a head or of a peer
abbrev shown_head : Row → Row
shown_head r = column r 2 ∷ column r 3 ∷ column r 4 ∷ []

abbrev staged : List Row → List (List Row)
staged rows = flat_map (λ r. ([] ∷ r ∷ []) ∷ []) rows

outputs : (query : Query) (shown : Row → Row) → ((r : Row) → (output query ([] ∷ r ∷ [])).1 ≡ shown r) → (rows : List Row) → map (λ (o : Output). o.1) (map (output query) (staged rows)) ≡ map shown rows
outputs query shown each [] = refl
outputs query shown each (r ∷ rows) = λ i. each r i ∷ outputs query shown each rows i

-- the rows of the answer are those of the tree, in some order
pub shows_edits : (old new : State) (rows : List Row) → IsLog old → Shown edits_text [] old new rows → IsPermutation (log_of old) (map cells_shown rows)
shows_edits old new rows log h =
    let read = reads_as edits_text [] old new log_schema log.has _ edits_is.0 edits_plain edits_is.1 rows h in
    let a : IsAnswer edits_query (overlay old.now.trees []) [] rows = read.answer Null in
    let grouped : a.staged ≡ staged (old.now.trees 0) = a.grouped in
    let kept : a.kept ≡ map (output edits_query) (staged (old.now.trees 0)) = a.distinct ∙ ap (map (output edits_query)) grouped in
    let moved : IsPermutation (map (λ (o : Output). o.1) a.kept) (map (λ (o : Output). o.1) a.ordered) = IsPermutation-map (λ (o : Output). o.1) a.kept a.ordered a.same in
    let shown : IsPermutation (map shown_edit (old.now.trees 0)) rows = subst₂ IsPermutation (ap (map (λ (o : Output). o.1)) kept ∙ outputs edits_query shown_edit (λ r. refl) (old.now.trees 0)) (sym a.shown) moved in
    subst (λ cs. IsPermutation cs (map cells_shown rows)) (edits_again (old.now.trees 0) ∙ ap (λ (d : Database). log_in d.trees) log.settled) (IsPermutation-map cells_shown _ _ shown)
  where
    edits_again : (rs : List Row) → map cells_shown (map shown_edit rs) ≡ map cells_in rs
    edits_again [] = refl
    edits_again (r ∷ rs) = ap (λ cs. cells_in r ∷ cs) (edits_again rs)

pub shows_heads : (old new : State) (rows : List Row) → IsLog old → Shown heads_text [] old new rows → IsPermutation (heads_of old) (map head_shown rows)
shows_heads old new rows log h =
    let read = reads_as heads_text [] old new log_schema log.has _ heads_is.0 heads_plain heads_is.1 rows h in
    let a : IsAnswer heads_query (overlay old.now.trees []) [] rows = read.answer Null in
    let grouped : a.staged ≡ staged (old.now.trees 1) = a.grouped in
    let kept : a.kept ≡ map (output heads_query) (staged (old.now.trees 1)) = a.distinct ∙ ap (map (output heads_query)) grouped in
    let moved : IsPermutation (map (λ (o : Output). o.1) a.kept) (map (λ (o : Output). o.1) a.ordered) = IsPermutation-map (λ (o : Output). o.1) a.kept a.ordered a.same in
    let shown : IsPermutation (map shown_head (old.now.trees 1)) rows = subst₂ IsPermutation (ap (map (λ (o : Output). o.1)) kept ∙ outputs heads_query shown_head (λ r. refl) (old.now.trees 1)) (sym a.shown) moved in
    subst (λ hs. IsPermutation hs (map head_shown rows)) (heads_again (old.now.trees 1) ∙ ap (λ (d : Database). heads_in d.trees) log.settled) (IsPermutation-map head_shown _ _ shown)
  where
    heads_again : (rs : List Row) → map head_shown (map shown_head rs) ≡ map head_in rs
    heads_again [] = refl
    heads_again (r ∷ rs) = ap (λ hs. head_in r ∷ hs) (heads_again rs)

pub shows_peers : (old new : State) (rows : List Row) → IsLog old → Shown peers_text [] old new rows → IsPermutation (peers_of old) (map peer_shown rows)
shows_peers old new rows log h =
    let read = reads_as peers_text [] old new log_schema log.has _ peers_is.0 peers_plain peers_is.1 rows h in
    let a : IsAnswer peers_query (overlay old.now.trees []) [] rows = read.answer Null in
    let grouped : a.staged ≡ staged (old.now.trees 2) = a.grouped in
    let kept : a.kept ≡ map (output peers_query) (staged (old.now.trees 2)) = a.distinct ∙ ap (map (output peers_query)) grouped in
    let moved : IsPermutation (map (λ (o : Output). o.1) a.kept) (map (λ (o : Output). o.1) a.ordered) = IsPermutation-map (λ (o : Output). o.1) a.kept a.ordered a.same in
    let shown : IsPermutation (map shown_head (old.now.trees 2)) rows = subst₂ IsPermutation (ap (map (λ (o : Output). o.1)) kept ∙ outputs peers_query shown_head (λ r. refl) (old.now.trees 2)) (sym a.shown) moved in
    subst (λ ps. IsPermutation ps (map peer_shown rows)) (peers_again (old.now.trees 2) ∙ ap (λ (d : Database). peers_in d.trees) log.settled) (IsPermutation-map peer_shown _ _ shown)
  where
    peers_again : (rs : List Row) → map peer_shown (map shown_head rs) ≡ map peer_in rs
    peers_again [] = refl
    peers_again (r ∷ rs) = ap (λ ps. peer_in r ∷ ps) (peers_again rs)

-- ---- a query changes nothing

module _ (sql : List ℕ) (plain : IsPlain (understood log_schema sql)) where
  pub shown_unchanged : (old new : State) (rows : List Row) → IsLog old → Shown sql [] old new rows → IsUnchanged old new
  unfolding Shown
  shown_unchanged old new rows log h =
      let known = sym h.1.is ∙ ap (λ s. understood s sql) log.has in
      let bare = subst IsPlain (sym known) plain in
      (rw (bare.0, bare.1) at h.2).3

  pub shows_nothing : (old new : State) → (HasCleanDisk old → IsLog old) → Survives old new (CommitsShowing sql [] old) → Survives old new (λ _. ⊥)
  shows_nothing old new log h = survives_weaker old new _ _ (λ clean db made. never_commits sql [] old db (subst (λ s. IsPlain (understood s sql)) (sym (log (omega (arith, h.clean))).has) plain) made) h
