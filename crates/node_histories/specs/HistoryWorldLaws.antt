-- In the execution of a history node 0 takes the edits of the history, and holds their sum.
-- Source: this project's own.
use Rattle.std.proofs.Common.{◌++◌, ◌==◌, ◌∷◌, ◌≡◌}
use Rattle.node_histories.specs.Prelude.{[], after, ap, append-nil, append_assoc, arith, Ask, Asked, asked_by, at_places, blank, Bool, changed_at, cond, Cut, cut, cut_for, digest_of, Edit, edits_of, edits_with, EntryMap, EventWorld, false, filter, get-digest_of, get-sum_of, Give, given_to, happens, is_newer, is_wanted, join, length, length-append, List, ne_eqb, Node, None, option_map, Piece, Put, refl, replicate, slice_get, slice_get_last, Some, subst, suc, sum_of, sum_of-append, sum_of-edits_of, sym, taken, true, zero, ℕ, ◌∙◌}
use Rattle.node_histories.specs.{declared.events.HistoryEvent.{HistoryEvent, TheVariants.{Absorbed, Edited, Opening}}, Histories.{all_edits, store_of}, HistoryWorlds.{brings, double, nodes_of, puts_at, stores_in, world_from, world_of}}
use Rattle.std.specs.FinMap as finmap
use Rattle.world_law.specs.declared.events.Event as world_events

-- a node that took these edits
abbrev pub node_of : List Edit → Node
node_of es = record { store = sum_of es; took = es }

-- empty nodes, two for each of so many stores
abbrev pub spare : ℕ → List Node
spare zero = []
spare (suc k) = node_of [] ∷ node_of [] ∷ spare k

-- a world whose node 0 took these edits, and that has spare nodes at its end
abbrev pub ready : List Edit → List Node → List Node → List Asked → List Piece → EventWorld
ready es used rest asks pieces = record { nodes = node_of es ∷ (used ++ rest); asks = asks; pieces = pieces }

after-append : (xs ys : List world_events.Event) (w : EventWorld) → after (xs ++ ys) w ≡ after ys (after xs w)
after-append [] ys w = refl
after-append (x ∷ xs) ys w = after-append xs ys (happens w x)

replicate_spare : (k : ℕ) → replicate (double k) (node_of []) ≡ spare k
replicate_spare zero = refl
replicate_spare (suc k) = ap (λ (ns : List Node). node_of [] ∷ node_of [] ∷ ns) (replicate_spare k)

changed_after : (used : List Node) (i : ℕ) (f : Node → Node) (x : Node) (rest : List Node) → length used ≡ i
    → changed_at i f (used ++ x ∷ rest) ≡ used ++ f x ∷ rest
changed_after [] zero f x rest e = refl
changed_after [] (suc i) f x rest e = cc
changed_after (u ∷ used) zero f x rest e = cc
changed_after (u ∷ used) (suc i) f x rest e = ap (λ (ns : List Node). u ∷ ns) (changed_after used i f x rest (cc (e)))

get_after : (used : List Node) (i : ℕ) (x : Node) (rest : List Node) → length used ≡ i → slice_get (used ++ x ∷ rest) i ≡ Some x
get_after [] zero x rest e = refl
get_after [] (suc i) x rest e = cc
get_after (u ∷ used) zero x rest e = cc
get_after (u ∷ used) (suc i) x rest e = get_after used i x rest (cc (e))

get_second : (used : List Node) (i : ℕ) (x y : Node) (rest : List Node) → length used ≡ i
    → slice_get (used ++ x ∷ y ∷ rest) (suc i) ≡ Some y
get_second [] zero x y rest e = refl
get_second [] (suc i) x y rest e = cc
get_second (u ∷ used) zero x y rest e = cc
get_second (u ∷ used) (suc i) x y rest e = get_second used i x y rest (cc (e))

-- a node that takes the sum of edits has taken them
takes_more : (es fs : List Edit) → taken (sum_of fs) fs (node_of es) ≡ node_of (es ++ fs)
takes_more es fs = λ i. record { store = sym (sum_of-append es fs) i; took = es ++ fs }

-- edits that are put one after another at the node after these
puts_after : (es : List Edit) (used : List Node) (i : ℕ) (gs fs : List Edit) (rest : List Node) (asks : List Asked)
    (pieces : List Piece) → length used ≡ i
    → after (puts_at (suc i) fs) (ready es used (node_of gs ∷ rest) asks pieces) ≡ ready es used (node_of (gs ++ fs) ∷ rest) asks pieces
puts_after es used i gs [] rest asks pieces e = ap (λ (hs : List Edit). ready es used (node_of hs ∷ rest) asks pieces) (sym (append-nil gs))
puts_after es used i gs (f ∷ fs) rest asks pieces e =
    let put : happens (ready es used (node_of gs ∷ rest) asks pieces) (Put (suc i) f) ≡ ready es used (node_of (gs ++ f ∷ []) ∷ rest) asks pieces =
    ap (λ (ns : List Node). record { nodes = node_of es ∷ ns; asks = asks; pieces = pieces }) (changed_after used i (taken (sum_of (f ∷ [])) (f ∷ [])) (node_of gs) rest e)
    ∙ ap (λ (n : Node). ready es used (n ∷ rest) asks pieces) (takes_more gs (f ∷ []))
    in
    ap (after (puts_at (suc i) fs)) put ∙ puts_after es used i (gs ++ f ∷ []) fs rest asks pieces e
    ∙ ap (λ (hs : List Edit). ready es used (node_of hs ∷ rest) asks pieces) (append_assoc gs (f ∷ []) fs)

filter_all : (p : Edit → Bool) (es : List Edit) → ((e : Edit) → p e ≡ true) → filter p es ≡ es
filter_all p [] all = refl
filter_all p (e ∷ es) all =
    ap (λ b. cond b (e ∷ filter p es) (filter p es)) (all e) ∙ ap (λ (fs : List Edit). e ∷ fs) (filter_all p es all)

-- what is cut for a node that has nothing is everything
whole_cut : (s : EntryMap) → cut s (digest_of finmap.empty) None ≡ s
whole_cut s = ap sum_of (filter_all (is_wanted (digest_of finmap.empty) None) (edits_of s) wanted) ∙ sum_of-edits_of s
  where
    wanted : (e : Edit) → is_wanted (digest_of finmap.empty) None e ≡ true
    wanted e = ap (is_newer e.version) (get-digest_of finmap.empty e.place ∙ ap (option_map (λ x. x.version)) (get-sum_of [] e.place))

-- the ask and the piece for a store after so many others
abbrev pub ask_of : ℕ → Asked
ask_of m = record { node = suc (suc (double m)); versions = digest_of finmap.empty }

abbrev pub piece_of : ℕ → EntryMap → Piece
piece_of m s = record { entries = cut (sum_of (edits_of s)) (digest_of finmap.empty) None; asker = suc (suc (double m)); had = at_places None (edits_of s) }

-- a node that is given such a piece has taken the store
takes_piece : (es : List Edit) (m : ℕ) (s : EntryMap)
    → taken (piece_of m s).entries (edits_with (piece_of m s) 0) (node_of es) ≡ node_of (es ++ edits_of s)
takes_piece es m s =
    let whole : (piece_of m s).entries ≡ s = ap (λ (t : EntryMap). cut t (digest_of finmap.empty) None) (sum_of-edits_of s) ∙ whole_cut s in
    let store : join (sum_of es) (piece_of m s).entries ≡ sum_of (es ++ edits_of s) = ap (join (sum_of es)) (whole ∙ sym (sum_of-edits_of s)) ∙ sym (sum_of-append es (edits_of s)) in
    let far : (suc (suc (double m)) == 0) ≡ false = ne_eqb (suc (suc (double m))) 0 (λ e. omega (arith, e)) in
    let took : es ++ edits_with (piece_of m s) 0 ≡ es ++ edits_of s =
    ap (λ b. es ++ (edits_of (piece_of m s).entries ++ cond b (piece_of m s).had [])) far ∙ ap (λ (fs : List Edit). es ++ fs) (append-nil (edits_of (piece_of m s).entries) ∙ ap edits_of whole)
    in
    λ i. record { store = store i; took = took i }

last_at : {X : Type 0} (xs : List X) (x : X) (m : ℕ) → length xs ≡ m → slice_get (xs ++ x ∷ []) m ≡ Some x
last_at xs x m e = subst (λ (n : ℕ). slice_get (xs ++ x ∷ []) n ≡ Some x) e (slice_get_last xs x)

-- a store is brought to node 0
brought : (es : List Edit) (used : List Node) (m : ℕ) (s : EntryMap) (rest : List Node) (asks : List Asked)
    (pieces : List Piece) → length used ≡ double m → length asks ≡ m → length pieces ≡ m
    → after (brings m s) (ready es used (node_of [] ∷ node_of [] ∷ rest) asks pieces)
    ≡ ready (es ++ edits_of s) used (node_of (edits_of s) ∷ node_of [] ∷ rest) (asks ++ ask_of m ∷ []) (pieces ++ piece_of m s ∷ [])
brought es used m s rest asks pieces a b c =
    let d : ℕ = double m in
    let own : List Node = node_of (edits_of s) ∷ node_of [] ∷ rest in
    let put : EventWorld = ready es used own asks pieces in
    let asked : EventWorld = ready es used own (asks ++ ask_of m ∷ []) pieces in
    let cut_then : EventWorld = ready es used own (asks ++ ask_of m ∷ []) (pieces ++ piece_of m s ∷ []) in
    let tail : List world_events.Event = Ask (suc (suc d)) ∷ Cut (suc d) m None ∷ Give m 0 ∷ [] in
    let one : after (brings m s) (ready es used (node_of [] ∷ node_of [] ∷ rest) asks pieces) ≡ after tail put =
    after-append (puts_at (suc d) (edits_of s)) tail (ready es used (node_of [] ∷ node_of [] ∷ rest) asks pieces)
    ∙ ap (after tail) (puts_after es used d [] (edits_of s) (node_of [] ∷ rest) asks pieces a)
    in
    let two : happens put (Ask (suc (suc d))) ≡ asked = ap (asked_by put (suc (suc d))) (get_second used d (node_of (edits_of s)) (node_of []) rest a) in
    let three : happens asked (Cut (suc d) m None) ≡ cut_then = λ i. cut_for asked None (get_after used d (node_of (edits_of s)) (node_of [] ∷ rest) a i) (last_at asks (ask_of m) m b i) in
    let four : happens cut_then (Give m 0) ≡ ready (es ++ edits_of s) used own (asks ++ ask_of m ∷ []) (pieces ++ piece_of m s ∷ []) =
    ap (given_to cut_then 0) (last_at pieces (piece_of m s) m c)
    ∙ ap (λ (n : Node). record { nodes = n ∷ (used ++ own); asks = asks ++ ask_of m ∷ []; pieces = pieces ++ piece_of m s ∷ [] }) (takes_piece es m s)
    in
    one ∙ ap (after (Cut (suc d) m None ∷ Give m 0 ∷ [])) two ∙ ap (after (Give m 0 ∷ [])) three ∙ four

-- node 0 of the world took these edits, and holds their sum
abbrev pub Holds : EventWorld → List Edit → Type 0
Holds w es = slice_get w.nodes 0 ≡ Some (node_of es)

-- the rest follows after a store that is brought
brings_holds : (h : List HistoryEvent) (es : List Edit) (used : List Node) (m : ℕ) (s : EntryMap) (asks : List Asked)
    (pieces : List Piece) → length used ≡ double m → length asks ≡ m → length pieces ≡ m
    → ((used' : List Node) (asks' : List Asked) (pieces' : List Piece) → length used' ≡ double (suc m)
    → length asks' ≡ suc m → length pieces' ≡ suc m
    → Holds (after (world_from (suc m) h) (ready (es ++ edits_of s) used' (spare (stores_in h)) asks' pieces'))
    ((es ++ edits_of s) ++ all_edits h))
    → Holds (after (brings m s ++ world_from (suc m) h) (ready es used (spare (suc (stores_in h))) asks pieces))
    (es ++ (edits_of s ++ all_edits h))
brings_holds h es used m s asks pieces a b c goes_on =
    let k : ℕ = stores_in h in
    let start : EventWorld = ready es used (spare (suc k)) asks pieces in
    let own : List Node = node_of (edits_of s) ∷ node_of [] ∷ [] in
    let nodes : used ++ node_of (edits_of s) ∷ node_of [] ∷ spare k ≡ (used ++ own) ++ spare k = sym (append_assoc used own (spare k)) in
    let here : after (brings m s) start ≡ ready (es ++ edits_of s) (used ++ own) (spare k) (asks ++ ask_of m ∷ []) (pieces ++ piece_of m s ∷ []) =
    brought es used m s (spare k) asks pieces a b c
    ∙ ap (λ (ns : List Node). record { nodes = node_of (es ++ edits_of s) ∷ ns; asks = asks ++ ask_of m ∷ []; pieces = pieces ++ piece_of m s ∷ [] }) nodes
    in
    let all : after (brings m s ++ world_from (suc m) h) start ≡ after (world_from (suc m) h) (ready (es ++ edits_of s) (used ++ own) (spare k) (asks ++ ask_of m ∷ []) (pieces ++ piece_of m s ∷ [])) =
    after-append (brings m s) (world_from (suc m) h) start ∙ ap (after (world_from (suc m) h)) here
    in
    ap (λ (w : EventWorld). slice_get w.nodes 0) all
    ∙ goes_on (used ++ own) (asks ++ ask_of m ∷ []) (pieces ++ piece_of m s ∷ []) (omega (arith, length-append used own, a)) (omega (arith, length-append asks (ask_of m ∷ []), b)) (omega (arith, length-append pieces (piece_of m s ∷ []), c))
    ∙ ap (λ (fs : List Edit). Some (node_of fs)) (append_assoc es (edits_of s) (all_edits h))

world_holds : (h : List HistoryEvent) (es : List Edit) (used : List Node) (m : ℕ) (asks : List Asked)
    (pieces : List Piece) → length used ≡ double m → length asks ≡ m → length pieces ≡ m
    → Holds (after (world_from m h) (ready es used (spare (stores_in h)) asks pieces)) (es ++ all_edits h)
world_holds [] es used m asks pieces a b c = ap (λ (fs : List Edit). Some (node_of fs)) (sym (append-nil es))
world_holds (Opening r ∷ h) es used m asks pieces a b c =
    brings_holds h es used m r.store asks pieces a b c (λ used' asks' pieces' a' b' c'. world_holds h (es ++ edits_of r.store) used' (suc m) asks' pieces' a' b' c')
world_holds (Edited seat e ∷ h) es used m asks pieces a b c =
    ap (λ (n : Node). slice_get (after (world_from m h) (record { nodes = n ∷ (used ++ spare (stores_in h)); asks = asks; pieces = pieces })).nodes 0) (takes_more es (e ∷ []))
    ∙ world_holds h (es ++ e ∷ []) used m asks pieces a b c
    ∙ ap (λ (fs : List Edit). Some (node_of fs)) (append_assoc es (e ∷ []) (all_edits h))
world_holds (Absorbed seat p ∷ h) es used m asks pieces a b c =
    brings_holds h es used m p asks pieces a b c (λ used' asks' pieces' a' b' c'. world_holds h (es ++ edits_of p) used' (suc m) asks' pieces' a' b' c')

-- node 0 took the edits of the history, and holds the store that the history gives
pub worlds_hold : (h : List HistoryEvent) → slice_get (after (world_of h) (blank (nodes_of h))).nodes 0 ≡ Some (record { store = store_of h; took = all_edits h })
worlds_hold h =
    ap (λ (ns : List Node). slice_get (after (world_of h) (record { nodes = node_of [] ∷ ns; asks = []; pieces = [] })).nodes 0) (replicate_spare (stores_in h)) ∙ world_holds h [] [] 0 [] [] refl refl refl
