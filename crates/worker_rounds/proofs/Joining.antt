-- Results put together, and what was loaded of chunks.
use Rattle.std.proofs.Common.{◌++◌, ◌<◌, ◌∷◌, ◌≡◌}
use Rattle.worker_rounds.proofs.Prelude.{[], All, All-cons, All-head, All-nil, All-tail, ap, append-nil, AreLoads, arith, flat_map, flat_map-append, get_or, IfOk, IsJoined, length, length-map, List, loads_append, loads_none, map, map-append, Ok, refl, Result, subst, suc, sym, Vec, ℕ, ◌∙◌}

module _ {X E : Type 0} where
  pub joined_none : IsJoined {X = X} {E = E} [] []
  joined_none = record { loads = []; each = refl; whole = refl }

  pub joined_more : (parts : List (Result (Vec X) E)) (all : List X) (v : Vec X) → IsJoined parts all → IsJoined (parts ++ Ok v ∷ []) (all ++ v.items)
  joined_more parts all v j = record {
    loads = j.loads ++ v ∷ [];
    each = ap (λ ps. ps ++ Ok v ∷ []) j.each ∙ sym (map-append Ok j.loads (v ∷ []));
    whole = ap (λ xs. xs ++ v.items) j.whole ∙ sym (flat_map-append (λ (w : Vec X). w.items) j.loads (v ∷ []) ∙ ap (λ xs. flat_map (λ (w : Vec X). w.items) j.loads ++ xs) (append-nil v.items));
  }

module _ {N : Type 0} (Q : N → Type 0) where
  all_prefix : (xs ys : List N) → All Q (xs ++ ys) → All Q xs
  all_prefix [] ys a = All-nil Q
  all_prefix (x ∷ xs) ys a = All-cons Q x xs (All-head Q x (xs ++ ys) a) (all_prefix xs ys (All-tail Q x (xs ++ ys) a))

  all_back : (xs ys : List N) → All Q (xs ++ ys) → All Q ys
  all_back [] ys a = a
  all_back (x ∷ xs) ys a = all_back xs ys (All-tail Q x (xs ++ ys) a)

  -- what holds of all nodes holds of those of each chunk
  all_in_chunks : {P : Type 0} (nodes_of : P → List N) (chunks : List P) → All Q (flat_map nodes_of chunks) → All (λ chunk. All Q (nodes_of chunk)) chunks
  all_in_chunks {P} nodes_of [] a = All-nil (λ (chunk : P). All Q (nodes_of chunk))
  all_in_chunks {P} nodes_of (p ∷ ps) a =
      All-cons (λ (chunk : P). All Q (nodes_of chunk)) p ps (all_prefix (nodes_of p) (flat_map nodes_of ps) a)
      (all_in_chunks nodes_of ps (all_back (nodes_of p) (flat_map nodes_of ps) a))

  pub chunks_hold : {P : Type 0} (nodes_of : P → List N) (chunks : List P) (nodes : List N) → flat_map nodes_of chunks ≡ nodes → All Q nodes → All (λ chunk. All Q (nodes_of chunk)) chunks
  chunks_hold nodes_of chunks nodes whole a = all_in_chunks nodes_of chunks (subst (All Q) (sym whole) a)

module _ {N U P E : Type 0} (is_loaded : N → U → Type 0) (nodes_of : P → List N) where
  loads_are : (chunks : List P) (loads : List (Vec (N × U))) → length loads ≡ length chunks
      → ((i : ℕ) (chunk : P) (part : Result (Vec (N × U)) E) → i < length chunks → IfOk (get_or (map Ok loads) i part) (λ pairs. AreLoads is_loaded (nodes_of (get_or chunks i chunk)) pairs.items))
      → AreLoads is_loaded (flat_map nodes_of chunks) (flat_map (λ v. v.items) loads)
  loads_are [] [] e each = loads_none is_loaded
  loads_are [] (v ∷ vs) e each = absurd (omega arith)
  loads_are (p ∷ ps) [] e each = absurd (omega arith)
  loads_are (p ∷ ps) (v ∷ vs) e each =
      loads_append is_loaded (nodes_of p) (flat_map nodes_of ps) v.items (flat_map (λ (w : Vec (N × U)). w.items) vs) (each 0 p (Ok v) (omega arith))
      (loads_are ps vs (omega arith) (λ i chunk part l. each (suc i) chunk part (omega arith)))

  -- what was loaded of all chunks, concatenated, is what is loaded of all nodes
  pub joined_loads : (chunks : List P) (parts : List (Result (Vec (N × U)) E)) (nodes : List N) (all : List (N × U)) → flat_map nodes_of chunks ≡ nodes → length parts ≡ length chunks
      → ((i : ℕ) (chunk : P) (part : Result (Vec (N × U)) E) → i < length chunks → IfOk (get_or parts i part) (λ pairs. AreLoads is_loaded (nodes_of (get_or chunks i chunk)) pairs.items))
      → IsJoined parts all → AreLoads is_loaded nodes all
  joined_loads chunks parts nodes all whole long each j =
      let loads = loads_are chunks j.loads (sym (length-map j.loads Ok) ∙ ap length (sym j.each) ∙ long) (rw j.each at each) in
      subst (λ v. AreLoads is_loaded v all) whole (subst (AreLoads is_loaded (flat_map nodes_of chunks)) (sym j.whole) loads)
