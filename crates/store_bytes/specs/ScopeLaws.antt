-- What stands before the entries of a scope decides how they are read.
use Rattle.std.proofs.Common.{◌≡◌, ℕ, zero, suc, ◌<◌, false, true, cond, eqb, ltb, List, ◌∷◌, length, Option, Some, None, Result, Ok, Err, refl, sym, ap, subst, ◌∙◌, arith}
use Rattle.std.proofs.lemmas.Bool.{lt-ltb}
use Rattle.std.proofs.lemmas.Bool.Decides.{nat_tests}
use Rattle.byte_fields.specs.FieldLaws.{ok_is}
use Rattle.byte_fields.specs.Reading.{◌>>=◌, number_at}
use Rattle.byte_fields.specs.declared.faults.SpellingFault.{SpellingFault}
use Rattle.byte_fields.specs.declared.faults.SpellingFault.TheVariants as fault
use Rattle.load_path.specs.Paths.{path_cmp, PathParts}
use Rattle.load_places.specs.Places.{scope_cmp}
use Rattle.load_places.specs.declared.places.Scope.{Scope}
use Rattle.edit_sums.specs.Entries.{Entry}
use Rattle.store_bytes.specs.ListReading.{group_at, key_above_at, list_at, pair_above_at, pairs_above_at}
use Rattle.store_bytes.specs.Reading.{entry_at, path_at, scope_at}
use Rattle.store_bytes.specs.Stores.{Scoped}
use Rattle.store_bytes.specs.Streams.{scope_head_at}

abbrev pub as_first : {P : Type 0} → P → List P × List ℕ → Result (List P × List ℕ) SpellingFault
as_first p o = Ok (p ∷ o.0, o.1)

abbrev if_some : {P : Type 0} → List P × List ℕ → Result (List P × List ℕ) SpellingFault
if_some ps = cond (ltb 0 (length ps.0)) (Ok ps) (Err fault.Number)

-- a list with a first pair isn't empty
not_empty : {A P : Type 0} (first : Result A SpellingFault) (p : A → P) (others : A → Result (List P × List ℕ) SpellingFault)
    → ((first >>= λ a. others a >>= as_first (p a)) >>= if_some) ≡ (first >>= λ a. others a >>= as_first (p a))
not_empty {P = P} (Ok a) p others = by (others a)
  where
    by : (r : Result (List P × List ℕ) SpellingFault) → ((r >>= as_first (p a)) >>= if_some) ≡ (r >>= as_first (p a))
    by (Ok o) = let some : ltb 0 (suc (length o.0)) ≡ true = lt-ltb _ _ (omega arith) in ap (λ b. cond b (as_first (p a) o) (Err fault.Number)) some
    by (Err d) = refl
not_empty (Err d) p others = refl

abbrev own_entries : ℕ → List ℕ → Result (List (PathParts × Entry) × List ℕ) SpellingFault
own_entries count bytes = pairs_above_at path_cmp path_at entry_at count None bytes

-- the entries of a scope that are some
group_counted : (m : ℕ) (bytes : List ℕ) → (own_entries (suc m) bytes >>= if_some) ≡ own_entries (suc m) bytes
unfolding pairs_above_at
group_counted m bytes = not_empty (pair_above_at path_cmp path_at entry_at None bytes) (λ a. a.0) (λ a. pairs_above_at path_cmp path_at entry_at m (Some a.0.0) a.1)

abbrev pub as_scope : Scope → List (PathParts × Entry) × List ℕ → Result (Scoped × List ℕ) SpellingFault
as_scope s v = Ok ((s, v.0), v.1)

abbrev head_from : Scope → ℕ × List ℕ → Result ((Scope × ℕ) × List ℕ) SpellingFault
head_from s count = cond (eqb count.0 0) (Err fault.Number) (Ok ((s, count.0), count.1))

abbrev head_after : Result (Scope × List ℕ) SpellingFault → Result ((Scope × ℕ) × List ℕ) SpellingFault
head_after r = r >>= λ scope. number_at scope.1 >>= head_from scope.0

abbrev group_from : Scope → Result (ℕ × List ℕ) SpellingFault → Result (Scoped × List ℕ) SpellingFault
group_from s r = ((r >>= λ count. own_entries count.0 count.1) >>= if_some) >>= as_scope s

abbrev group_after : Result (Scope × List ℕ) SpellingFault → Result (Scoped × List ℕ) SpellingFault
group_after r = r >>= λ key. group_from key.0 (number_at key.1)

not_none : (m : ℕ) → eqb (suc m) 0 ≡ false
not_none m = grind (arith, nat_tests)

abbrev Heads : Scope → Result (ℕ × List ℕ) SpellingFault → (Scope × ℕ) × List ℕ → Type 0
Heads s r x = (group_from s r ≡ (own_entries x.0.1 x.1 >>= as_scope x.0.0)) × (0 < x.0.1)

-- the head of a scope is read
group_headed_from : (s : Scope) (r : Result (ℕ × List ℕ) SpellingFault) (x : (Scope × ℕ) × List ℕ)
    → (r >>= head_from s) ≡ Ok x → Heads s r x
group_headed_from s (Err d) x h = absurd cc
group_headed_from s (Ok (zero, after)) x h = absurd cc
group_headed_from s (Ok (suc m, after)) x h =
    let made : (Scope × ℕ) × List ℕ = ((s, suc m), after) in
    let some = not_none m in
    let read : Ok made ≡ Ok x = sym (ap (λ b. cond b (Err fault.Number) (Ok made)) some) ∙ h in
    subst (Heads s (Ok (suc m, after))) (ok_is made x read) (ap (λ r. r >>= as_scope s) (group_counted m after), omega arith)

group_headed : (r : Result (Scope × List ℕ) SpellingFault) (x : (Scope × ℕ) × List ℕ) → head_after r ≡ Ok x
    → (group_after r ≡ (own_entries x.0.1 x.1 >>= as_scope x.0.0)) × (0 < x.0.1)
group_headed (Err d) x e = absurd cc
group_headed (Ok key) x e = group_headed_from key.0 (number_at key.1) x e

-- it isn't read
group_not_headed_from : (s : Scope) (r : Result (ℕ × List ℕ) SpellingFault) (d : SpellingFault)
    → (r >>= head_from s) ≡ Err d → group_from s r ≡ Err d
unfolding pairs_above_at
group_not_headed_from s (Err f) d h = let same : f ≡ d = cc in ap Err same
group_not_headed_from s (Ok (zero, after)) d h = let same : fault.Number ≡ d = cc in ap Err same
group_not_headed_from s (Ok (suc m, after)) d h =
    let made : (Scope × ℕ) × List ℕ = ((s, suc m), after) in
    let wrong : Ok made ≡ Err d = sym (ap (λ b. cond b (Err fault.Number) (Ok made)) (not_none m)) ∙ h in
    absurd cc

group_not_headed : (r : Result (Scope × List ℕ) SpellingFault) (d : SpellingFault) → head_after r ≡ Err d → group_after r ≡ Err d
group_not_headed (Err f) d e = let same : f ≡ d = cc in ap Err same
group_not_headed (Ok key) d e = group_not_headed_from key.0 (number_at key.1) d e

headed_at : (last : Option Scope) (bytes : List ℕ) → scope_head_at last bytes ≡ head_after (key_above_at scope_cmp scope_at last bytes)
unfolding scope_head_at
headed_at last bytes = refl

grouped_at : (last : Option Scope) (bytes : List ℕ)
    → pair_above_at scope_cmp scope_at (group_at path_cmp path_at entry_at) last bytes
    ≡ group_after (key_above_at scope_cmp scope_at last bytes)
unfolding pair_above_at group_at list_at
grouped_at last bytes = refl

-- it is read: the scope's entries follow, and there are some
pub scope_headed : (last : Option Scope) (bytes : List ℕ) (s : Scope) (count : ℕ) (rest : List ℕ)
    → scope_head_at last bytes ≡ Ok ((s, count), rest)
    → pair_above_at scope_cmp scope_at (group_at path_cmp path_at entry_at) last bytes
    ≡ (pairs_above_at path_cmp path_at entry_at count None rest >>= λ es. Ok ((s, es.0), es.1))
scope_headed last bytes s count rest e = grouped_at last bytes ∙ (group_headed (key_above_at scope_cmp scope_at last bytes) ((s, count), rest) (sym (headed_at last bytes) ∙ e)).0

pub scope_has_entries : (last : Option Scope) (bytes : List ℕ) (s : Scope) (count : ℕ) (rest : List ℕ)
    → scope_head_at last bytes ≡ Ok ((s, count), rest) → 0 < count
scope_has_entries last bytes s count rest e = (group_headed (key_above_at scope_cmp scope_at last bytes) ((s, count), rest) (sym (headed_at last bytes) ∙ e)).1

-- it isn't
pub scope_not_headed : (last : Option Scope) (bytes : List ℕ) (d : SpellingFault) → scope_head_at last bytes ≡ Err d
    → pair_above_at scope_cmp scope_at (group_at path_cmp path_at entry_at) last bytes ≡ Err d
scope_not_headed last bytes d e = grouped_at last bytes ∙ group_not_headed (key_above_at scope_cmp scope_at last bytes) d (sym (headed_at last bytes) ∙ e)
