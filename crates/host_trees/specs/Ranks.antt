-- The levels by their ranks: the first of the two levels of a rank that says something, and the first rank that does.
use Rattle.std.proofs.Common.{◌+◌, ◌∷◌, ◌≡◌}
use Rattle.host_trees.specs.Prelude.{[], ap, first_level, first_said, List, None, Option, option_map, option_or, or_assoc, refl, Some, sym, ℕ, ◌∙◌}

-- What is said at the two levels of a rank: the first that says something.
abbrev pub rank_says : {B : Type 0} → (ℕ → Option B) → ℕ → Option B
rank_says f r = option_or (f (r + r)) (f (r + r + 1))

abbrev ranks : List ℕ
ranks = 0 ∷ 1 ∷ 2 ∷ 3 ∷ []

-- The first level that says something is of the first rank that does.
by_ranks : {B : Type 0} (f : ℕ → Option B) → first_level f ≡ first_said (rank_says f) ranks
by_ranks f =
    sym (or_assoc (f 0) (f 1) (first_said f (2 ∷ 3 ∷ 4 ∷ 5 ∷ 6 ∷ 7 ∷ [])))
    ∙ ap (option_or (rank_says f 0)) (sym (or_assoc (f 2) (f 3) (first_said f (4 ∷ 5 ∷ 6 ∷ 7 ∷ [])))
    ∙ ap (option_or (rank_says f 1)) (sym (or_assoc (f 4) (f 5) (first_said f (6 ∷ 7 ∷ [])))
    ∙ ap (option_or (rank_says f 2)) (sym (or_assoc (f 6) (f 7) None))))

pub mapped_or : {B : Type 0} (h : B → B) (a b : Option B) → option_or (option_map h a) (option_map h b) ≡ option_map h (option_or a b)
mapped_or h None b = refl
mapped_or h (Some x) b = refl

-- What is mapped at each rank is mapped at the first that says something.
mapped_ranks : {B : Type 0} (h : B → B) (f g : ℕ → Option B) → ((r : ℕ) → g r ≡ option_map h (f r)) → (rs : List ℕ)
    → first_said g rs ≡ option_map h (first_said f rs)
mapped_ranks h f g same [] = refl
mapped_ranks h f g same (r ∷ rs) =
    (λ i. option_or (same r i) (mapped_ranks h f g same rs i)) ∙ mapped_or h (f r) (first_said f rs)

pub mapped_levels : {B : Type 0} (h : B → B) (f g : ℕ → Option B) → ((r : ℕ) → rank_says g r ≡ option_map h (rank_says f r))
    → first_level g ≡ option_map h (first_level f)
mapped_levels h f g same = by_ranks g ∙ mapped_ranks h (rank_says f) (rank_says g) same ranks ∙ ap (option_map h) (sym (by_ranks f))

-- What is said is said at some rank.
module _ {B : Type 0} (f : ℕ → Option B) (c : B) (P : Type 0) where
  among : ((r : ℕ) → f r ≡ Some c → P) → (rs : List ℕ) → first_said f rs ≡ Some c → P
  among from [] e = cc (e)
  among from (r ∷ rs) e = by (f r) refl (among from rs) e
    where
      by : (o : Option B) → f r ≡ o → (first_said f rs ≡ Some c → P) → option_or o (first_said f rs) ≡ Some c → P
      by None at later e = later e
      by (Some x) at later e = from r (at ∙ e)

pub said_at_rank : {B : Type 0} (f : ℕ → Option B) (c : B) (P : Type 0) → ((r : ℕ) → rank_says f r ≡ Some c → P)
    → first_level f ≡ Some c → P
said_at_rank f c P from e = among (rank_says f) c P from ranks (sym (by_ranks f) ∙ e)
