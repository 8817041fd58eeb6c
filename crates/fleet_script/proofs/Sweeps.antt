-- A sweep is merges, one after another.
use Rattle.std.proofs.Common.{◌++◌, ◌+◌, ◌-◌, ◌∷◌, ◌≡◌, ◌≤◌}
use Rattle.fleet_script.proofs.Prelude.{[], ap, AreMerged, arith, codes, Continues, Global, Goes, into_first, Keeps, length, List, map, merged, merged_all, numbers_from, Ok, out_of_first, refl, ScriptWorld, subst, suc, Sweeps, sym, Vec, zero, ℕ, ◌∙◌}
use Rattle.fleet_script.proofs.Between.{merged_all-append}

pub none_merged : (shell : Keeps) → AreMerged shell shell []
none_merged shell world h = (world, h, refl)

-- one more merge
pub one_more : (old now next : Keeps) (pairs : List (ℕ × ℕ)) (from to : ℕ) → AreMerged old now pairs → Continues now next (λ before after. after ≡ merged before from to) → AreMerged old next (pairs ++ (from, to) ∷ [])
one_more old now next pairs from to before step world h =
    let first = before world h in
    let second = step first.0 first.1 in
    (second.0, second.1, second.2 ∙ ap (λ (w : ScriptWorld). merged w from to) first.2 ∙ sym (merged_all-append world pairs ((from, to) ∷ [])))

-- and one more number
numbers_more : (first count : ℕ) → numbers_from first (suc count) ≡ numbers_from first count ++ (first + count) ∷ []
numbers_more first zero = let same : first ≡ first + 0 = omega arith in ap (λ n. n ∷ []) same
numbers_more first (suc count) =
    let same : suc first + count ≡ first + suc count = omega arith in
    ap (λ ns. first ∷ ns) (numbers_more (suc first) count ∙ ap (λ n. numbers_from (suc first) count ++ n ∷ []) same)

map_push : (f : ℕ → ℕ × ℕ) (ns : List ℕ) (n : ℕ) → map f (ns ++ n ∷ []) ≡ map f ns ++ f n ∷ []
map_push f [] n = refl
map_push f (m ∷ ns) n = ap (λ ps. f m ∷ ps) (map_push f ns n)

pub next_pairs : (f : ℕ → ℕ × ℕ) (n : ℕ) → 1 ≤ n → map f (numbers_from 1 (n - 1)) ++ f n ∷ [] ≡ map f (numbers_from 1 (n + 1 - 1))
next_pairs f n low =
    let here : n ≡ 1 + (n - 1) = omega arith in
    let more : suc (n - 1) ≡ n + 1 - 1 = omega arith in
    sym (map_push f (numbers_from 1 (n - 1)) n) ∙ ap (λ m. map f (numbers_from 1 (n - 1) ++ m ∷ [])) here ∙ sym (ap (map f) (numbers_more 1 (n - 1))) ∙ ap (λ m. map f (numbers_from 1 m)) more

-- as many merges as there are other nodes
pub all_pairs : (old now : Keeps) (f : ℕ → ℕ × ℕ) (n m : ℕ) → n - 1 ≤ m - 1 → m ≤ n → AreMerged old now (map f (numbers_from 1 (n - 1))) → AreMerged old now (map f (numbers_from 1 (m - 1)))
all_pairs old now f n m low high merged =
    let same : n - 1 ≡ m - 1 = omega arith in
    subst (λ (k : ℕ). AreMerged old now (map f (numbers_from 1 k))) same merged

-- each into the first, and then the first into each
pub sweep_done : (old now new : Keeps) (text : Vec ℕ Global) → text.items ≡ codes "ok\n"
    → AreMerged old now (map into_first (numbers_from 1 (length old.nodes - 1)))
    → AreMerged now new (map out_of_first (numbers_from 1 (length old.nodes - 1)))
    → Goes old new (λ before outcome after. Sweeps before outcome after) (Ok text)
sweep_done old now new text e into out world h =
    let first = into world h in
    let second = out first.0 first.1 in
    let all : second.0 ≡ merged_all world (map into_first (numbers_from 1 (length old.nodes - 1)) ++ map out_of_first (numbers_from 1 (length old.nodes - 1))) =
    second.2 ∙ ap (λ (w : ScriptWorld). merged_all w (map out_of_first (numbers_from 1 (length old.nodes - 1)))) first.2 ∙ sym (merged_all-append world (map into_first (numbers_from 1 (length old.nodes - 1))) (map out_of_first (numbers_from 1 (length old.nodes - 1))))
    in (
      second.0,
      second.1,
      record { outcome_is = ap Ok e; world_is = all ∙ ap (λ n. merged_all world (map into_first (numbers_from 1 (n - 1)) ++ map out_of_first (numbers_from 1 (n - 1)))) h.count },
    )
