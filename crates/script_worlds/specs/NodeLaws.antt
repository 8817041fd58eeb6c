-- Nodes by name and by writer number, after a node is added.
use Rattle.std.proofs.Common.{◌++◌, ◌+◌, ◌<◌, ◌==◌, ◌||◌, ◌∷◌, ◌≡◌}
use Rattle.script_worlds.specs.Prelude.{[], ap, arith, Bool, bytes_eq, bytes_eq-Decides, cond, false, length, List, list_any, list_any-append, nat_lt, nat_tests, None, Option, position, position_from, position_from-zero, position_or_len, refl, Some, suc, sym, true, zero, ℕ, ◌∙◌}
use Rattle.script_worlds.specs.Worlds.{has_writer, Member, node_named}

-- the first index, or else the second
abbrev pub or_else : Option ℕ → Option ℕ → Option ℕ
or_else None other = other
or_else (Some k) other = Some k

module _ {X : Type 0} (p : X → Bool) where
  position_from-push : (xs : List X) (x : X) (i : ℕ)
      → position_from p i (xs ++ x ∷ []) ≡ or_else (position_from p i xs) (cond (p x) (Some (i + length xs)) None)
  position_from-push [] x i = let same : i ≡ i + 0 = omega arith in ap (λ k. cond (p x) (Some k) None) same
  position_from-push (y ∷ xs) x i = by (position_from-push xs x (i + 1)) (p y)
    where
      by : position_from p (i + 1) (xs ++ x ∷ []) ≡ or_else (position_from p (i + 1) xs) (cond (p x) (Some (i + 1 + length xs)) None)
          → (b : Bool) → cond b (Some i) (position_from p (i + 1) (xs ++ x ∷ []))
          ≡ or_else (cond b (Some i) (position_from p (i + 1) xs)) (cond (p x) (Some (i + suc (length xs))) None)
      by later true = refl
      by later false = let same : i + 1 + length xs ≡ i + suc (length xs) = omega arith in later ∙ ap (λ k. or_else (position_from p (i + 1) xs) (cond (p x) (Some k) None)) same

  position-push : (xs : List X) (x : X) → position p (xs ++ x ∷ []) ≡ or_else (position p xs) (cond (p x) (Some (length xs)) None)
  position-push xs x =
      let same : 0 + length xs ≡ length xs = omega arith in
      position_from-zero p (xs ++ x ∷ []) ∙ position_from-push xs x 0
      ∙ ap (λ o. or_else o (cond (p x) (Some (0 + length xs)) None)) (sym (position_from-zero p xs))
      ∙ ap (λ k. or_else (position p xs) (cond (p x) (Some k) None)) same

-- a node with a new name is at the end
pub node_named-push : (nodes : List Member) (m : Member) (name : List ℕ) → node_named nodes m.name ≡ None
    → node_named (nodes ++ m ∷ []) name ≡ cond (bytes_eq m.name name) (Some (length nodes)) (node_named nodes name)
node_named-push nodes m name fresh = position-push (λ (member : Member). bytes_eq member.name name) nodes m ∙ by (bytes_eq m.name name) refl
  where
    by : (b : Bool) → bytes_eq m.name name ≡ b → or_else (node_named nodes name) (cond b (Some (length nodes)) None)
        ≡ cond b (Some (length nodes)) (node_named nodes name)
    by true e =
        let same : m.name ≡ name = (bytes_eq-Decides m.name name).0 e in
        ap (λ o. or_else o (Some (length nodes))) (ap (node_named nodes) (sym same) ∙ fresh)
    by false e = none (node_named nodes name)
      where
        none : (o : Option ℕ) → or_else o None ≡ o
        none None = refl
        none (Some k) = refl

-- and its writer number is taken
pub has_writer-push : (nodes : List Member) (m : Member) (writer : ℕ)
    → has_writer (nodes ++ m ∷ []) writer ≡ cond (m.writer == writer) true (has_writer nodes writer)
has_writer-push nodes m writer = list_any-append (λ (member : Member). member.writer == writer) nodes (m ∷ []) ∙ by (has_writer nodes writer) (m.writer == writer)
  where
    by : (a b : Bool) → (a || (b || false)) ≡ cond b true a
    by true true = refl
    by true false = refl
    by false true = refl
    by false false = refl

-- a node that is found exists
pub named_within : (nodes : List Member) (name : List ℕ) (k : ℕ) → node_named nodes name ≡ Some k → k < length nodes
named_within nodes name k e = by (nat_lt (position_or_len (λ (m : Member). bytes_eq m.name name) nodes) (length nodes)) refl e
  where
    by : (b : Bool) → nat_lt (position_or_len (λ (m : Member). bytes_eq m.name name) nodes) (length nodes) ≡ b
        → cond b (Some (position_or_len (λ (m : Member). bytes_eq m.name name) nodes)) None ≡ Some k → k < length nodes
    by true lt e =
        let same : position_or_len (λ (m : Member). bytes_eq m.name name) nodes ≡ k = cc in
        let within : position_or_len (λ (m : Member). bytes_eq m.name name) nodes < length nodes = grind (arith, nat_tests) in
        omega arith
    by false lt e = cc (e)
