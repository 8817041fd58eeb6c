-- A node and a host written in one word are read back, and writing what is read gives the word.
use Rattle.std.proofs.Common.{◌+◌, ◌||◌, ◌∷◌, ◌≡◌, ◌≢◌}
use Rattle.script_commands.specs.Prelude.{[], after_first, AllByRecursion, ap, arith, Bool, cond, cond-false, cond-true, drop, eqb-true, false, List, list_any, ne_eqb, None, not, Option, position_or_len, refl, Some, suc, sym, take, true, ℕ, ◌∙◌}
use Rattle.script_commands.specs.Hosts.{host_in, is_at, node_in, node_word}

one_more : (n : ℕ) → 1 + n ≡ suc n
one_more n = omega arith

after_more : (n : ℕ) → (1 + n) + 1 ≡ suc (n + 1)
after_more n = omega arith

-- The first byte of a word.

-- after an at sign at the start comes the host
node_in-at : (b : ℕ) (word : List ℕ) → is_at b ≡ true → node_in (b ∷ word) ≡ []
node_in-at b word is = ap (λ k. take k (b ∷ word)) (cond-false _ _ _ (ap not is))

host_in-at : (b : ℕ) (word : List ℕ) → is_at b ≡ true → host_in (b ∷ word) ≡ Some word
host_in-at b word is =
    ap (λ t. cond (t || list_any is_at word) (Some (after_first is_at (b ∷ word))) None) is
    ∙ ap (λ k. Some (drop (k + 1) (b ∷ word))) (cond-false _ _ _ (ap not is))

-- any other first byte belongs to the node
node_in-other : (b : ℕ) (word : List ℕ) → is_at b ≡ false → node_in (b ∷ word) ≡ b ∷ node_in word
node_in-other b word other = ap (λ k. take k (b ∷ word)) (cond-true _ _ _ (ap not other) ∙ one_more (position_or_len is_at word))

after_first-other : (b : ℕ) (word : List ℕ) → is_at b ≡ false → after_first is_at (b ∷ word) ≡ after_first is_at word
after_first-other b word other =
    ap (λ k. drop (k + 1) (b ∷ word)) (cond-true _ _ _ (ap not other)) ∙ ap (λ k. drop k (b ∷ word)) (after_more (position_or_len is_at word))

host_in-other : (b : ℕ) (word : List ℕ) → is_at b ≡ false → host_in (b ∷ word) ≡ host_in word
host_in-other b word other =
    ap (λ t. cond (t || list_any is_at word) (Some (after_first is_at (b ∷ word))) None) other
    ∙ ap (λ v. cond (list_any is_at word) (Some v) None) (after_first-other b word other)

node_word-other : (b : ℕ) (node : List ℕ) (host : Option (List ℕ)) → node_word (b ∷ node) host ≡ b ∷ node_word node host
node_word-other b node None = refl
node_word-other b node (Some host) = refl

-- The laws.

both_in-node_word : (node : List ℕ) (host : Option (List ℕ)) → AllByRecursion (λ b. b ≢ 64) node
    → (node_in (node_word node host) ≡ node) × (host_in (node_word node host) ≡ host)
both_in-node_word [] None all = (refl, refl)
both_in-node_word [] (Some host) all = (node_in-at 64 host refl, host_in-at 64 host refl)
both_in-node_word (b ∷ node) host all =
    let rest = both_in-node_word node host all.1 in
    let other = ne_eqb b 64 all.0 in (
      ap node_in (node_word-other b node host) ∙ node_in-other b (node_word node host) other ∙ ap (λ v. b ∷ v) rest.0,
      ap host_in (node_word-other b node host) ∙ host_in-other b (node_word node host) other ∙ rest.1,
    )

-- a node without an at sign is read back, whatever the host is
pub node_in-node_word : (node : List ℕ) (host : Option (List ℕ)) → AllByRecursion (λ b. b ≢ 64) node → node_in (node_word node host) ≡ node
node_in-node_word node host all = (both_in-node_word node host all).0

-- so is the host, whatever its bytes are
pub host_in-node_word : (node : List ℕ) (host : Option (List ℕ)) → AllByRecursion (λ b. b ≢ 64) node → host_in (node_word node host) ≡ host
host_in-node_word node host all = (both_in-node_word node host all).1

node_word-next : (b : ℕ) (word : List ℕ) (t : Bool) → is_at b ≡ t → node_word (node_in word) (host_in word) ≡ word
    → node_word (node_in (b ∷ word)) (host_in (b ∷ word)) ≡ b ∷ word
node_word-next b word true is rest =
    ap (λ v. node_word v (host_in (b ∷ word))) (node_in-at b word is)
    ∙ ap (λ v. node_word [] v) (host_in-at b word is)
    ∙ ap (λ v. v ∷ word) (sym (eqb-true b 64 is))
node_word-next b word false other rest =
    ap (λ v. node_word v (host_in (b ∷ word))) (node_in-other b word other)
    ∙ ap (λ v. node_word (b ∷ node_in word) v) (host_in-other b word other)
    ∙ node_word-other b (node_in word) (host_in word)
    ∙ ap (λ v. b ∷ v) rest

-- every word is written from what is read of it
pub node_word-read : (word : List ℕ) → node_word (node_in word) (host_in word) ≡ word
node_word-read [] = refl
node_word-read (b ∷ word) = node_word-next b word (is_at b) refl (node_word-read word)
