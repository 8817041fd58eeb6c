-- How far a closure has come.
use Rattle.std.proofs.Common.{◌++◌, ◌↔◌, ◌∷◌, ◌≡◌, ◌⊎◌}
use Rattle.index_rows.proofs.Prelude.{[], Bool, false, inl, inr, IsAmong, IsAmong-append_left, IsAmong-append_right, IsAmong-push_cases, IsMember, IsMember-none, IsReached, IsSpread, length, length-replicate, List, Listed, reached_closed, reached_least, refl, replicate, subst, ℕ, ◌∙◌}

-- all members are reached, and each member is either still to be done or all its successors are members
pub record IsWork (count : ℕ) (leads : ℕ → ℕ → Type 0) (sources : List ℕ) (seen : List Bool) (todo : List ℕ) : Type 0 where
  pub units : length seen ≡ count
  pub sound : (v : ℕ) → IsMember seen v → IsReached (Listed sources) leads v
  pub noted : (v : ℕ) → IsAmong v todo → IsMember seen v
  pub closed : (u : ℕ) → IsMember seen u → IsAmong u todo ⊎ ((v : ℕ) → leads u v → IsMember seen v)
  pub start : (v : ℕ) → IsAmong v sources → IsMember seen v

pub IsWork-init : (count : ℕ) (leads : ℕ → ℕ → Type 0) (sources : List ℕ) (none seen : List Bool) (before todo : List ℕ) → none ≡ replicate (count) false → before ≡ []
    → IsSpread none seen before todo sources → IsWork count leads sources seen todo
IsWork-init count leads sources none seen before todo e f h =
    let P : List Bool → Type 0 = λ l. IsSpread l seen [] todo sources in
    let Q : List ℕ → Type 0 = λ l. IsSpread none seen l todo sources in
    let s : IsSpread (replicate (count) false) seen [] todo sources = subst P e (subst Q f h) in
    record {
      units = s.units ∙ length-replicate (count) false;
      sound = λ v m. elim (s.origin v m) [ inl k ↦ absurd (IsMember-none (count) v k) | inr k ↦ record { steps = 0; chain = k } ];
      noted = λ v k. elim (s.notes_origin v k) [ inl a ↦ absurd a | inr a ↦ s.all v a.0 ];
      closed = λ u m. elim (s.noted u m) [ inl k ↦ absurd (IsMember-none (count) u k) | inr k ↦ inl k ];
      start = s.all;
    }

pub IsWork-step : (count : ℕ) (leads : ℕ → ℕ → Type 0) (sources : List ℕ) (node : ℕ) (next : List ℕ) (seen new : List Bool) (todo after : List ℕ)
    → ((v : ℕ) → IsAmong v next ↔ leads node v)
    → IsWork count leads sources seen (todo ++ node ∷ []) → IsSpread seen new todo after next → IsWork count leads sources new after
IsWork-step count leads sources node next seen new todo after same w s =
    let P : ℕ → Type 0 = λ x. (v : ℕ) → leads x v → IsMember new v in
    let here = w.sound node (w.noted node (IsAmong-append_right node todo (node ∷ []) (inl refl))) in
    record {
      units = s.units ∙ w.units;
      sound = λ v m. elim (s.origin v m) [ inl k ↦ w.sound v k | inr k ↦ (reached_closed (Listed sources) leads).stepped node v here ((same v).0 k) ];
      noted = λ v k. elim (s.notes_origin v k) [ inl a ↦ s.kept v (w.noted v (IsAmong-append_left v todo (node ∷ []) a)) | inr a ↦ s.all v a.0 ];
      closed = λ u m. elim (s.noted u m) [
        | inl k ↦ elim (w.closed u k) [
          | inl a ↦ elim (IsAmong-push_cases node u todo a) [ inl b ↦ inl (s.notes_kept u b) | inr e ↦ inr (subst P e (λ v l. s.all v ((same v).1 l))) ]
          | inr a ↦ inr (λ v b. s.kept v (a v b))
        ]
        | inr k ↦ inl k
      ];
      start = λ v k. s.kept v (w.start v k);
    }

pub IsWork-done : (count : ℕ) (leads : ℕ → ℕ → Type 0) (sources : List ℕ) (seen : List Bool) (todo : List ℕ) → todo ≡ [] → IsWork count leads sources seen todo
    → (v : ℕ) → IsMember seen v ↔ IsReached (Listed sources) leads v
IsWork-done count leads sources seen todo e w v =
    let P : List ℕ → Type 0 = λ l. IsWork count leads sources seen l in
    let z : IsWork count leads sources seen [] = subst P e w in (
      w.sound v,
      reached_least (Listed sources) leads (IsMember seen) (record {
        started = w.start;
        stepped = λ n m k l. elim (z.closed n k) [ inl none ↦ absurd none | inr all ↦ all m l ];
      }) v,
    )
