-- Entries are split after those of the first scope.
use Rattle.std.proofs.Common.{◌≡◌, ◌+◌, ◌-◌, ◌<◌, ◌∷◌, ◌++◌}
use Rattle.std.proofs.Common.{not, ℕ, zero, suc, Bool, true, false, cond, List, [], length, take, drop, get_or, refl, sym, ap, ◌∙◌, arith, take-append-drop, length-drop}
use Rattle.std.proofs.lemmas.List.{drop-drop, take_all}
use Rattle.std.specs.Ordering.{eq_by_cmp, is_eq}
use Rattle.std.specs.Cmp.{tied_itself}
use Rattle.load_places.specs.Places.{PlaceParts, scope_cmp}
use Rattle.load_places.specs.PlaceLaws.{scope_cmp_total}
use Rattle.load_places.specs.declared.places.Scope.{Scope}
use Rattle.edit_sums.specs.Entries.{Entry}
use Rattle.store_bytes.specs.Parts.{by_path, leading, parted}
use Rattle.store_bytes.specs.PartingLaws.{parted-leading}
use Rattle.store_bytes.specs.Scopes.{IsFirstScope}

pub not_false : (b : Bool) → not b ≡ true → b ≡ false
not_false false e = refl
not_false true e = cc (e)

-- the entries from an index on, where the one there is of the scope or isn't
pub leading_more : (s : Scope) (es : List (PlaceParts × Entry)) (i : ℕ) (x : PlaceParts × Entry) → i < length es → x ≡ get_or es i x → eq_by_cmp scope_cmp s x.0.scope ≡ true
    → leading s (drop i es) ≡ suc (leading s (drop (i + 1) es))
leading_more s [] i x lt e t = absurd (omega arith)
leading_more s (y ∷ es) zero x lt e t = ap (λ (z : PlaceParts × Entry). cond (eq_by_cmp scope_cmp s z.0.scope) (suc (leading s es)) 0) (sym e) ∙ ap (λ b. cond b (suc (leading s es)) 0) t
leading_more s (y ∷ es) (suc i) x lt e t = let next : suc i + 1 ≡ suc (i + 1) = omega arith in leading_more s es i x (omega arith) e t ∙ ap (λ k. suc (leading s (drop k (y ∷ es)))) (sym next)

pub leading_none : (s : Scope) (es : List (PlaceParts × Entry)) (i : ℕ) (x : PlaceParts × Entry) → i < length es → x ≡ get_or es i x → eq_by_cmp scope_cmp s x.0.scope ≡ false
    → leading s (drop i es) ≡ 0
leading_none s [] i x lt e t = absurd (omega arith)
leading_none s (y ∷ es) zero x lt e t = ap (λ (z : PlaceParts × Entry). cond (eq_by_cmp scope_cmp s z.0.scope) (suc (leading s es)) 0) (sym e) ∙ ap (λ b. cond b (suc (leading s es)) 0) t
leading_none s (y ∷ es) (suc i) x lt e t = leading_none s es i x (omega arith) e t

leads_itself : (x : PlaceParts × Entry) (es : List (PlaceParts × Entry)) → leading x.0.scope (x ∷ es) ≡ suc (leading x.0.scope es)
leads_itself x es = ap (λ b. cond b (suc (leading x.0.scope es)) 0) (ap is_eq (tied_itself scope_cmp_total x.0.scope))

pub first_scope_is : (list own others : List (PlaceParts × Entry)) (first : PlaceParts × Entry) (n : ℕ) → 0 < length list → first ≡ get_or list 0 first → own ≡ take n list → others ≡ drop n list
    → n ≡ leading first.0.scope list → IsFirstScope list own others
first_scope_is [] own others first n some e own_is back count = absurd (omega arith)
first_scope_is (x ∷ es) own others first n some e own_is back count =
    let len : n ≡ suc (leading first.0.scope es) = count ∙ ap (λ (z : PlaceParts × Entry). leading first.0.scope (z ∷ es)) (sym e) ∙ leads_itself first es in
    let is_own : own ≡ first ∷ take (leading first.0.scope es) es = own_is ∙ ap (λ k. take k (x ∷ es)) len ∙ ap (λ (z : PlaceParts × Entry). z ∷ take (leading first.0.scope es) es) (sym e) in
    let parts : parted (x ∷ es) ≡ (first.0.scope, by_path (take (leading first.0.scope (x ∷ es)) (x ∷ es))) ∷ parted (drop (leading first.0.scope (x ∷ es)) (x ∷ es)) =
    parted-leading first.0.scope (x ∷ es) (omega (arith, len, count)) in
    record {
      first = first;
      later = take (leading first.0.scope es) es;
      own_is = is_own;
      whole = sym (ap (λ (l : List (PlaceParts × Entry)). l ++ others) own_is ∙ ap (λ (l : List (PlaceParts × Entry)). take n (x ∷ es) ++ l) back ∙ take-append-drop n (x ∷ es));
      parts = parts ∙ ap (λ k. (first.0.scope, by_path (take k (x ∷ es))) ∷ parted (drop k (x ∷ es))) (sym count) ∙ ap (λ (l : List (PlaceParts × Entry)). (first.0.scope, by_path l) ∷ parted (drop n (x ∷ es))) (sym own_is)
          ∙ ap (λ (l : List (PlaceParts × Entry)). (first.0.scope, by_path own) ∷ parted l) (sym back);
      fewer = let d = length-drop n (x ∷ es) in let l = ap length back in omega (arith, d, l, len);
    }

-- ---- scopes are counted

starts_with : (es : List (PlaceParts × Entry)) (i : ℕ) (x : PlaceParts × Entry) → i < length es → x ≡ get_or es i x → drop i es ≡ x ∷ drop (i + 1) es
starts_with [] i x lt e = absurd (omega arith)
starts_with (y ∷ es) zero x lt e = ap (λ (z : PlaceParts × Entry). z ∷ es) (sym e)
starts_with (y ∷ es) (suc i) x lt e = let next : suc i + 1 ≡ suc (i + 1) = omega arith in starts_with es i x (omega arith) e ∙ ap (λ k. x ∷ drop k (y ∷ es)) (sym next)

-- one more scope from an index on, than from after those of the entry there
pub one_scope_more : (es : List (PlaceParts × Entry)) (start n : ℕ) (first : PlaceParts × Entry) → start < length es → first ≡ get_or es start first
    → n ≡ leading first.0.scope (drop start es) → (0 < n) × (length (parted (drop start es)) ≡ suc (length (parted (drop (start + n) es))))
one_scope_more es start n first lt e count =
    let many : n ≡ suc (leading first.0.scope (drop (start + 1) es)) = count ∙ ap (leading first.0.scope) (starts_with es start first lt e) ∙ leads_itself first (drop (start + 1) es) in
    let parts : length (parted (drop start es)) ≡ suc (length (parted (drop (leading first.0.scope (drop start es)) (drop start es)))) =
    ap length (parted-leading first.0.scope (drop start es) (omega (arith, many, count))) in
    let rest : drop n (drop start es) ≡ drop (start + n) es = drop-drop n start es in
    (omega (arith, many), parts ∙ ap (λ k. suc (length (parted (drop k (drop start es))))) (sym count) ∙ ap (λ (l : List (PlaceParts × Entry)). suc (length (parted l))) rest)

-- the entries of a scope at an index are counted in a list that is cut there
pub counted_from : (es : List (PlaceParts × Entry)) (start n : ℕ) (first : PlaceParts × Entry) → first ≡ get_or es start first
    → n ≡ leading (get_or es start first).0.scope (take (length es - start) (drop start es)) → n ≡ leading first.0.scope (drop start es)
counted_from es start n first e count =
    let len = length-drop start es in
    count
    ∙ ap (λ (l : List (PlaceParts × Entry)). leading (get_or es start first).0.scope l) (take_all (length es - start) (drop start es) (omega (arith, len)))
    ∙ ap (λ (z : PlaceParts × Entry). leading z.0.scope (drop start es)) (sym e)
