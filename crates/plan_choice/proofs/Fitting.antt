-- Bit sets, adjacency lists and options, as the code reads them.
use Rattle.std.proofs.Common.{◌<◌, ◌≡◌}
use Rattle.plan_choice.proofs.Prelude.{All, All-neighbors, among_from_contains, AreAdjacencyOf, AreBitsOf, AreSameNodes, AreSameSuccessors, Bool, Contains-get_or, Err, false, get_or, IfOk, is_some, IsAmong, IsReached, IsTrue, List, MatchOption, neighbors, None, not, Ok, Option, refl, Result, same_reached, Some, subst, sym, true, ℕ}

-- the nodes of an adjacency list are below the length of a bit set of n units
pub neighbors_fits : (m n : ℕ) (adjacency : List (List ℕ)) (u : ℕ) (r : List ℕ) → r ≡ neighbors adjacency u → AreAdjacencyOf n adjacency → m ≡ n → All (λ v. v < m) r
neighbors_fits m n adjacency u r e well_formed f =
    let P : List ℕ → Type 0 = λ l. All (λ v. v < m) l in
    let Q : ℕ → Type 0 = λ k. All (λ v. v < k) (neighbors adjacency u) in
    subst P (sym e) (subst Q (sym f) (All-neighbors n adjacency u well_formed.within))

-- what holds of each member of a list holds at each position
pub all_places : (P : ℕ → Type 0) (xs : List ℕ) → ((x : ℕ) → IsAmong x xs → P x) → All P xs
all_places P xs h k d lt = h (get_or xs k d) (among_from_contains (get_or xs k d) xs (Contains-get_or xs k d lt))

pub stable : (b : Bool) → ¬ (¬ IsTrue b) → IsTrue b
stable true h = refl
stable false h = absurd (h (λ e. cc))

pub untrue : (b : Bool) → b ≡ false → ¬ IsTrue b
untrue b e f = cc

pub is_false : (b : Bool) → ¬ IsTrue b → b ≡ false
is_false true h = absurd (h refl)
is_false false h = refl

-- an option that was tested
module _ {A : Type 0} (P : Type 0) (Q : A → Type 0) where
  pub tested_none : (o : Option A) → MatchOption o P Q → is_some o ≡ false → P
  tested_none None m e = m
  tested_none (Some x) m e = cc

  pub tested_some : (o : Option A) → MatchOption o P Q → is_some o ≡ true → (x : A) × Q x
  tested_some None m e = cc
  tested_some (Some x) m e = (x, m)

  pub none_tested : (o : Option A) → MatchOption o P Q → ((x : A) → ¬ Q x) → is_some o ≡ false
  none_tested None m out = refl
  none_tested (Some x) m out = absurd (out x m)

-- the test for nothing, from the test for something
pub nothing_there : (a b : Bool) → not a ≡ b → a ≡ true → b ≡ false
nothing_there true b e f = sym e
nothing_there false b e f = cc

pub nothing_there_is : (a b : Bool) → not a ≡ b → b ≡ false → a ≡ true
nothing_there_is true b e f = refl
nothing_there_is false b e f = cc

-- what a call returns, in other words
pub ok_along : {A E : Type 0} (P Q : A → Type 0) → ((x : A) → P x → Q x) → (r : Result A E) → IfOk r P → IfOk r Q
ok_along P Q so (Err e) h = tt
ok_along P Q so (Ok x) h = so x h

-- the set of what is reached over some sources and edges is that over the same ones in other words
pub bits_along : (count : ℕ) (S T : ℕ → Type 0) (E F : ℕ → ℕ → Type 0) (bits : List Bool) → AreBitsOf count (IsReached S E) bits → AreSameNodes S T → AreSameSuccessors E F → AreBitsOf count (IsReached T F) bits
bits_along count S T E F bits m s e = record {
  units = m.units;
  sets = λ u. (λ k. (same_reached S T E F s e u).0 ((m.sets u).0 k), λ r. (m.sets u).1 ((same_reached S T E F s e u).1 r));
}
