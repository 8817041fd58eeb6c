-- The results for the parts of a list, put together.
use Rattle.std.proofs.Common.{◌++◌, ◌<◌, ◌∷◌, ◌≡◌}
use Rattle.parallel_load.proofs.Prelude.{[], ap, arith, flat_map, get_or, IfOk, IsJoined, length, length-map, List, map, map-append, Ok, refl, Result, suc, sym, Vec, ℕ, ◌∙◌}

module _ {X Y P E : Type 0} (f : X → Y) (nodes_of : P → List X) where
  maps_are : (pieces : List P) (lists : List (Vec Y)) → length lists ≡ length pieces
      → ((i : ℕ) (piece : P) (part : Result (Vec Y) E) → i < length pieces → IfOk (get_or (map Ok lists) i part) (λ v. v.items ≡ map f (nodes_of (get_or pieces i piece))))
      → flat_map (λ v. v.items) lists ≡ map f (flat_map nodes_of pieces)
  maps_are [] [] e each = refl
  maps_are [] (v ∷ vs) e each = absurd (omega arith)
  maps_are (p ∷ ps) [] e each = absurd (omega arith)
  maps_are (p ∷ ps) (v ∷ vs) e each =
      ap (λ xs. xs ++ flat_map (λ (w : Vec Y). w.items) vs) (each 0 p (Ok v) (omega arith))
      ∙ ap (λ ys. map f (nodes_of p) ++ ys) (maps_are ps vs (omega arith) (λ i piece part l. each (suc i) piece part (omega arith)))
      ∙ sym (map-append f (nodes_of p) (flat_map nodes_of ps))

  -- the results for all parts, put together, are the results for the whole
  pub joined_maps : (pieces : List P) (parts : List (Result (Vec Y) E)) (nodes : List X) (all : List Y) → flat_map nodes_of pieces ≡ nodes → length parts ≡ length pieces
      → ((i : ℕ) (piece : P) (part : Result (Vec Y) E) → i < length pieces → IfOk (get_or parts i part) (λ v. v.items ≡ map f (nodes_of (get_or pieces i piece))))
      → IsJoined parts all → all ≡ map f nodes
  joined_maps pieces parts nodes all whole long each j =
      j.whole ∙ maps_are pieces j.loads (sym (length-map j.loads Ok) ∙ ap length (sym j.each) ∙ long) (rw j.each at each) ∙ ap (map f) whole
