-- Lists that stand one after another in a single list.
use Rattle.std.proofs.Common.{◌++◌, ◌-◌, ◌<◌, ◌∷◌, ◌≡◌, ◌≤◌}
use Rattle.index_rows.proofs.Prelude.{[], ap, AreEnds, arith, cut, drop, drop-append-le, drop-append_seam, get_or, length, length-append, length-drop, List, refl, slice_range, start_at, subst, suc, sym, take, take-append-le, take_all, zero, ℕ, ◌∙◌}

-- the end of the last list is the number of targets
pub ends_below : (start : ℕ) (ends : List ℕ) (count : ℕ) → AreEnds start ends count → start ≤ count
ends_below start [] count e = omega (arith, e)
ends_below start (end ∷ ends) count e = let below = ends_below end ends count e.1 in let first = e.0 in omega (arith, first, below)

pub ends_push : (start : ℕ) (ends : List ℕ) (count more : ℕ) → AreEnds start ends count → count ≤ more → AreEnds start (ends ++ more ∷ []) more
ends_push start [] count more e l = (omega (arith, e, l), refl)
ends_push start (end ∷ ends) count more e l = (e.0, ends_push end ends count more e.1 l)

-- how many lists there are
pub length-cut : (start : ℕ) (ends targets : List ℕ) → length (cut start ends targets) ≡ length ends
length-cut start [] targets = refl
length-cut start (end ∷ ends) targets = ap suc (length-cut end ends targets)

-- a part that the targets had already
range_kept : (targets nodes : List ℕ) (start end : ℕ) → start ≤ end → end ≤ length targets → slice_range (targets ++ nodes) start end ≡ slice_range targets start end
range_kept targets nodes start end l k =
    ap (λ (xs : List ℕ). take (end - start) xs) (drop-append-le start targets nodes (omega (arith, l, k)))
    ∙ take-append-le (end - start) (drop start targets) nodes (let d = length-drop start targets in omega (arith, d, l, k))

-- and the part that was added
range_added : (targets nodes : List ℕ) (start end : ℕ) → start ≡ length targets → end ≡ length (targets ++ nodes) → slice_range (targets ++ nodes) start end ≡ nodes
range_added targets nodes start end s e =
    let rest : drop start (targets ++ nodes) ≡ nodes = ap (λ (k : ℕ). drop k (targets ++ nodes)) s ∙ drop-append_seam targets nodes in
    ap (λ (xs : List ℕ). take (end - start) xs) rest ∙ take_all (end - start) nodes (let a = length-append targets nodes in omega (arith, a, s, e))

-- one more list
pub cut_push : (start : ℕ) (ends targets nodes : List ℕ) (end : ℕ) → AreEnds start ends (length targets) → end ≡ length (targets ++ nodes)
    → cut start (ends ++ end ∷ []) (targets ++ nodes) ≡ cut start ends targets ++ nodes ∷ []
cut_push start [] targets nodes end e f = ap (λ (r : List ℕ). r ∷ []) (range_added targets nodes start end e f)
cut_push start (first ∷ ends) targets nodes end e f =
    ap (λ (r : List ℕ). r ∷ cut first (ends ++ end ∷ []) (targets ++ nodes)) (range_kept targets nodes start first e.0 (ends_below first ends (length targets) e.1))
    ∙ ap (λ (rs : List (List ℕ)). slice_range targets start first ∷ rs) (cut_push first ends targets nodes end e.1 f)

-- the list of a node
pub cut_at : (start : ℕ) (ends targets : List ℕ) (node : ℕ) → node < length ends → get_or (cut start ends targets) node [] ≡ slice_range targets (start_at start ends node) (get_or ends node 0)
cut_at start [] targets node l = absurd (omega arith)
cut_at start (end ∷ ends) targets zero l = refl
cut_at start (end ∷ ends) targets (suc zero) l = cut_at end ends targets zero (omega arith)
cut_at start (end ∷ ends) targets (suc (suc node)) l = cut_at end ends targets (suc node) (omega arith)

-- it is within the targets
pub record IsWithin (first end count : ℕ) : Type 0 where
  pub ordered : first ≤ end
  pub within : end ≤ count

pub range_within : (start : ℕ) (ends : List ℕ) (count node : ℕ) → AreEnds start ends count → node < length ends → IsWithin (start_at start ends node) (get_or ends node 0) count
range_within start [] count node e l = absurd (omega arith)
range_within start (end ∷ ends) count zero e l = record { ordered = e.0; within = ends_below end ends count e.1 }
range_within start (end ∷ ends) count (suc zero) e l = range_within end ends count zero e.1 (omega arith)
range_within start (end ∷ ends) count (suc (suc node)) e l = range_within end ends count (suc node) e.1 (omega arith)

-- the ends of lists, as code reads them
module _ (adjacency : List (List ℕ)) (ends targets given : List ℕ) (view : cut 0 ends targets ≡ adjacency) (read : given ≡ ends) (node : ℕ) (there : node < length adjacency) where
  pub has_end : node < length given
  has_end = (
      let lists = ap (λ (rs : List (List ℕ)). length rs) view in
      let count = length-cut 0 ends targets in
      let same = ap (λ (es : List ℕ). length es) read in
      omega (arith, lists, count, same, there))

  pub given_within : AreEnds 0 ends (length targets) → IsWithin (start_at 0 given node) (get_or given node 0) (length targets)
  given_within e = range_within 0 given (length targets) node (subst (λ (es : List ℕ). AreEnds 0 es (length targets)) (sym read) e) has_end

  pub given_list : slice_range targets (start_at 0 given node) (get_or given node 0) ≡ get_or adjacency node []
  given_list =
      sym (cut_at 0 given targets node has_end) ∙ ap (λ (es : List ℕ). get_or (cut 0 es targets) node []) read
      ∙ ap (λ (rs : List (List ℕ)). get_or rs node []) view
