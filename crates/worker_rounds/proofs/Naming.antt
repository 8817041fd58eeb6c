-- What is named in the parts of what a round loaded, put together.
use Rattle.std.proofs.Common.{◌%◌, ◌*◌, ◌+◌, ◌/◌, ◌<◌, ◌∷◌, ◌≡◌, ◌≤◌}
use Rattle.worker_rounds.proofs.Prelude.{[], All, All-append, All-cons, All-drop, All-head, All-map, All-nil, All-tail, All-take, ap, AreOthers, arith, div-add-mod, drop, drop-drop, flat_map, flat_map-append, get_or, IfOk, IsJoined, keys_of, length, length-drop, length-map, List, lt-div-mul-add, map, min, Ok, others_append, others_none, refl, Result, subst, suc, suc-mul, sym, take, take-append-drop, Vec, zero, zero-mul, ℕ, ◌∙◌}

-- this many parts of a size cover everything
pub parts_cover : (n size : ℕ) → 0 < size → n ≤ (n / size + min 1 (n % size)) * size
parts_cover n size pos = by (n % size) refl
  where
    by : (r : ℕ) → n % size ≡ r → n ≤ (n / size + min 1 r) * size
    by zero e = let all = div-add-mod n size in let none : n / size + min 1 zero ≡ n / size = omega arith in rw none (omega arith)
    by (suc r) e = let less = lt-div-mul-add {a = n} {b = size} pos in let one : n / size + min 1 (suc r) ≡ suc (n / size) = omega arith in rw (one, suc-mul) (omega arith)

module _ {N P E : Type 0} (own : List N) (named : P → List N) (size : ℕ) where
  others_are : (xs : List P) (lists : List (Vec N)) → length xs ≤ length lists * size
      → ((i : ℕ) (part : Result (Vec N) E) → i < length lists → IfOk (get_or (map Ok lists) i part) (λ v. AreOthers own (flat_map named (take size (drop (i * size) xs))) v.items))
      → AreOthers own (flat_map named xs) (flat_map (λ v. v.items) lists)
  others_are [] [] le each = others_none own
  others_are (x ∷ xs) [] le each = absurd (let none = zero-mul size in omega arith)
  others_are xs (v ∷ vs) le each =
      let first = subst (λ k. AreOthers own (flat_map named (take size (drop k xs))) v.items) (zero-mul size) (each 0 (Ok v) (omega arith)) in
      let rest = others_are (drop size xs) vs (let more = suc-mul (length vs) size in let left = length-drop size xs in omega arith) later in
      subst (λ l. AreOthers own l (flat_map (λ (w : Vec N). w.items) (v ∷ vs))) (sym (flat_map-append named (take size xs) (drop size xs)) ∙ ap (flat_map named) (take-append-drop size xs))
      (others_append own (flat_map named (take size xs)) v.items (flat_map named (drop size xs)) (flat_map (λ (w : Vec N). w.items) vs) first rest)
    where
      later : (i : ℕ) (part : Result (Vec N) E) → i < length vs → IfOk (get_or (map Ok vs) i part) (λ w. AreOthers own (flat_map named (take size (drop (i * size) (drop size xs)))) w.items)
      later i part l =
          let at : suc i * size ≡ size + i * size = (let more = suc-mul i size in omega arith) in
          let same : drop (suc i * size) xs ≡ drop (i * size) (drop size xs) = ap (λ k. drop k xs) at ∙ sym (drop-drop (i * size) size xs) in
          subst (λ (ys : List P). IfOk (get_or (map Ok vs) i part) (λ w. AreOthers own (flat_map named (take size ys)) w.items)) same (each (suc i) part (omega arith))

  -- what is named in all parts, concatenated, is what is named in everything
  pub joined_others : (xs : List P) (parts : List (Result (Vec N) E)) (all : List N) → length xs ≤ length parts * size
      → ((i : ℕ) (part : Result (Vec N) E) → i < length parts → IfOk (get_or parts i part) (λ v. AreOthers own (flat_map named (take size (drop (i * size) xs))) v.items))
      → IsJoined parts all → AreOthers own (flat_map named xs) all
  joined_others xs parts all le each j =
      subst (AreOthers own (flat_map named xs)) (sym j.whole)
      (others_are xs j.loads (subst (λ k. length xs ≤ k * size) (ap length j.each ∙ length-map j.loads Ok) le)
      (λ i part l. subst (λ (ps : List (Result (Vec N) E)). IfOk (get_or ps i part) (λ v. AreOthers own (flat_map named (take size (drop (i * size) xs))) v.items)) j.each
      (each i part (subst (λ k. i < k) (sym (ap length j.each ∙ length-map j.loads Ok)) l))))

module _ {N E : Type 0} (Q : N → Type 0) where
  all_of : (lists : List (Vec N)) → ((i : ℕ) (part : Result (Vec N) E) → i < length lists → IfOk (get_or (map Ok lists) i part) (λ v. All Q v.items)) → All Q (flat_map (λ v. v.items) lists)
  all_of [] each = All-nil Q
  all_of (v ∷ vs) each =
      All-append Q v.items (flat_map (λ (w : Vec N). w.items) vs) (each 0 (Ok v) (omega arith)) (all_of vs (λ i part l. each (suc i) part (omega arith)))

  -- what holds of all elements of each part holds of all
  pub joined_all : (parts : List (Result (Vec N) E)) (all : List N) → ((i : ℕ) (part : Result (Vec N) E) → i < length parts → IfOk (get_or parts i part) (λ v. All Q v.items)) → IsJoined parts all → All Q all
  joined_all parts all each j =
      subst (All Q) (sym j.whole)
      (all_of j.loads (λ i part l. subst (λ (ps : List (Result (Vec N) E)). IfOk (get_or ps i part) (λ v. All Q v.items)) j.each
      (each i part (subst (λ k. i < k) (sym (ap length j.each ∙ length-map j.loads Ok)) l))))

module _ {N U : Type 0} (Q : N → Type 0) where
  pairs_hold : (ps : List (N × U)) → All Q (keys_of ps) → All (λ p. Q p.0) ps
  pairs_hold [] a = All-nil (λ (p : N × U). Q p.0)
  pairs_hold (p ∷ ps) a = All-cons (λ (q : N × U). Q q.0) p ps (All-head Q p.0 (keys_of ps) a) (pairs_hold ps (All-tail Q p.0 (keys_of ps) a))

  -- what holds of the keys of all pairs holds of those of a part
  pub part_holds : (ps qs : List (N × U)) (start size : ℕ) → qs ≡ take size (drop start ps) → All Q (keys_of ps) → All Q (keys_of qs)
  part_holds ps qs start size e a =
      subst (λ (v : List (N × U)). All Q (keys_of v)) (sym e)
      (All-map Q (λ (p : N × U). p.0) (take size (drop start ps)) (All-take (λ (p : N × U). Q p.0) size (drop start ps) (All-drop (λ (p : N × U). Q p.0) start ps (pairs_hold ps a))))
